-- JLS 3.10.7: escape sequences.
use Rattle.std.specs.Prelude.{ℕ, zero, suc, ◌==◌, ◌&&◌, Bool, if◌then◌else◌, List, [], ◌∷◌, ◌++◌, take, drop}
use Rattle.pj_lex.specs.Characters.{CharSet, holds, OctalDigit, ZeroToThree}
use Rattle.pj_lex.specs.Rules.{heads}
use Rattle.pj_literals.specs.Digits.{number}

-- the characters have one of the set at this place, counted from 0
abbrev pub stands_at : CharSet → ℕ → List ℕ → Bool
stands_at s place cs = heads (λ c. holds s c) (drop place cs)

-- how many digits an octal escape takes: three where the first is at most 3, else two, else one, as far as octal digits stand there
abbrev pub octal_length : List ℕ → ℕ
octal_length cs = if stands_at OctalDigit 1 cs then (if stands_at ZeroToThree 0 cs && stands_at OctalDigit 2 cs then 3 else 2) else 1

-- b backspace, s space, t tab, n line feed, f form feed, r carriage return; " ' and \ are themselves
abbrev pub letter_value : ℕ → ℕ
letter_value c = if c == 98 then 8 else (if c == 115 then 32 else (if c == 116 then 9 else (if c == 110 then 10 else (if c == 102 then 12 else (if c == 114 then 13 else c)))))

-- how many characters behind its backslash an escape takes, where these stand there
abbrev pub escape_length : List ℕ → ℕ
escape_length cs = if stands_at OctalDigit 0 cs then octal_length cs else 1

-- what the escape stands for: one character, but nothing where it is a line feed, which continues a line of a text block
abbrev pub escape_value : List ℕ → List ℕ
escape_value [] = []
escape_value (c ∷ cs) = if holds OctalDigit c then number 8 (take (octal_length (c ∷ cs)) (c ∷ cs)) ∷ [] else (if c == 10 then [] else letter_value c ∷ [])

-- what the characters stand for behind those that an escape before them takes
abbrev pub interpreted_behind : ℕ → List ℕ → List ℕ
interpreted_behind taken [] = []
interpreted_behind (suc taken) (c ∷ cs) = interpreted_behind taken cs
interpreted_behind zero (c ∷ cs) = if c == 92 then escape_value cs ++ interpreted_behind (escape_length cs) cs else c ∷ interpreted_behind zero cs

-- what the characters stand for: each escape for its character, any other character for itself
abbrev pub interpreted : List ℕ → List ℕ
interpreted cs = interpreted_behind 0 cs
