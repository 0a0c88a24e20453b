-- Which tokens the terminals are read from.
use Rattle.std.proofs.Common.{◌≡◌, ℕ, Bool, true, false, List, Option, Some, None, refl, sym, subst, arith}
use Rattle.std.specs.Prelude.{cond, ◌||◌, not, nat_eq, nat_le, codes}
use Rattle.pj_xgrammar.specs.Words.{same, word_of}
use Rattle.pj_xgrammar.specs.declared.word.Phrase.{Phrase}
use Rattle.pj_xtokens.specs.Tokens.{Lexed}
use Rattle.pj_xtokens.specs.declared.token.TokenKind.{TokenKind}
use Rattle.pj_xtokens.specs.declared.token.TokenKind.TheVariants as t
use Rattle.pj_xtokens.specs.declared.token.Sign.{Sign}
use Rattle.pj_xtokens.specs.declared.token.Sign.TheVariants as s
use Rattle.pj_xgrammar.specs.declared.word.Word.{Word}
use Rattle.pj_xgrammar.specs.declared.word.Word.TheVariants as w
use Rattle.pj_xgrammar.specs.declared.terminal.Behind.{Behind}
use Rattle.pj_xgrammar.specs.declared.terminal.Behind.TheVariants as b
use Rattle.pj_xgrammar.specs.declared.terminal.Terminal.TheVariants as terminal
use Rattle.pj_xgrammar.specs.Terminals.{behind_of, kind_behind, name_behind, first_behind, begins_step, sign_begins_step, kind_terminal, sign_terminal, word_terminal, makes_phrase, terminal_of, terminal_number}

-- the token has this terminal's number, where these tokens stand behind it
abbrev pub IsRead : Lexed → List Lexed → ℕ → Type 0
IsRead x behind t = terminal_number (terminal_of x (first_behind b.End behind)) ≡ t

-- ---- names

-- the number is that of a terminal which is a name: a name without a meaning, which has the number 0, a keyword or a phrase
abbrev pub is_name : ℕ → Bool
is_name t = nat_eq t 0 || nat_le 39 t

slash_no_name : (c : Bool) (n : ℕ) → terminal_number (cond c (terminal.Sign s.Slash) terminal.LoneSlash) ≡ n → is_name n ≡ true → ⊥
slash_no_name true n e h = let z = subst (λ (m : ℕ). is_name m ≡ true) (sym e) h in cc
slash_no_name false n e h = let z = subst (λ (m : ℕ). is_name m ≡ true) (sym e) h in cc

sign_no_name : (sign : Sign) (behind : Behind) (n : ℕ) → terminal_number (sign_terminal sign behind) ≡ n → is_name n ≡ true → ⊥
sign_no_name s.Slash behind n e h = slash_no_name (begins_step behind) n e h
sign_no_name _ behind n e h = let z = subst (λ (m : ℕ). is_name m ≡ true) (sym e) h in cc

kind_of_name : (kind : TokenKind) (text : List ℕ) (behind : Behind) (n : ℕ) → terminal_number (kind_terminal kind text behind) ≡ n → is_name n ≡ true → kind ≡ t.Name
kind_of_name t.Name text behind n e h = refl
kind_of_name t.Integer text behind n e h = absurd (let z = subst (λ (m : ℕ). is_name m ≡ true) (sym e) h in cc)
kind_of_name t.Decimal text behind n e h = absurd (let z = subst (λ (m : ℕ). is_name m ≡ true) (sym e) h in cc)
kind_of_name t.Double text behind n e h = absurd (let z = subst (λ (m : ℕ). is_name m ≡ true) (sym e) h in cc)
kind_of_name t.String text behind n e h = absurd (let z = subst (λ (m : ℕ). is_name m ≡ true) (sym e) h in cc)
kind_of_name (t.Sign sign) text behind n e h = absurd (sign_no_name sign behind n e h)

-- a name is read from a token that is one
pub name_read : (x : Lexed) (rest : List Lexed) (n : ℕ) → IsRead x rest n → is_name n ≡ true → x.kind ≡ t.Name
name_read x rest n e h = kind_of_name x.kind x.text (first_behind b.End rest) n e h

-- ---- operators that begin a step in another place

-- the terminal is a name or a `*`, whose number is 23, where this is asked
abbrev pub is_marked : Bool → ℕ → Bool
is_marked m t = not m || is_name t || nat_eq t 23

name_begins : (text : List ℕ) → begins_step (name_behind text) ≡ true
name_begins text = by (same (codes "as") text) (same (codes "of") text)
  where
    by : (a o : Bool) → begins_step (cond a b.As (cond o b.Of b.Name)) ≡ true
    by true o = refl
    by false true = refl
    by false false = refl

abbrev is_operator : ℕ → Bool
is_operator n = is_name n || nat_eq n 23

slash_no_operator : (c : Bool) (n : ℕ) → terminal_number (cond c (terminal.Sign s.Slash) terminal.LoneSlash) ≡ n → is_operator n ≡ true → ⊥
slash_no_operator true n e h = let z = subst (λ (m : ℕ). is_operator m ≡ true) (sym e) h in cc
slash_no_operator false n e h = let z = subst (λ (m : ℕ). is_operator m ≡ true) (sym e) h in cc

sign_begins : (sign : Sign) (behind : Behind) (n : ℕ) → terminal_number (sign_terminal sign behind) ≡ n → is_operator n ≡ true → sign_begins_step sign ≡ true
sign_begins s.Star behind n e h = refl
sign_begins s.Slash behind n e h = absurd (slash_no_operator (begins_step behind) n e h)
sign_begins _ behind n e h = absurd (let z = subst (λ (m : ℕ). is_operator m ≡ true) (sym e) h in cc)

kind_begins : (kind : TokenKind) (text : List ℕ) (behind : Behind) (n : ℕ) → terminal_number (kind_terminal kind text behind) ≡ n → is_operator n ≡ true → begins_step (kind_behind kind text) ≡ true
kind_begins t.Name text behind n e h = name_begins text
kind_begins t.Integer text behind n e h = refl
kind_begins t.Decimal text behind n e h = refl
kind_begins t.Double text behind n e h = refl
kind_begins t.String text behind n e h = refl
kind_begins (t.Sign sign) text behind n e h = sign_begins sign behind n e h

-- a name and a `*` begin a step in another place
pub marked_read : (m : Bool) (x : Lexed) (rest : List Lexed) (n : ℕ) → IsRead x rest n → is_marked m n ≡ true → m ≡ true → begins_step (behind_of x) ≡ true
marked_read true x rest n e h is = kind_begins x.kind x.text (first_behind b.End rest) n e h
marked_read false x rest n e h is = absurd (let z = is in cc)

-- ---- a `/` alone

slash_alone : (c : Bool) → terminal_number (cond c (terminal.Sign s.Slash) terminal.LoneSlash) ≡ 5 → c ≡ false
slash_alone true e = absurd (omega (arith, e))
slash_alone false e = refl

sign_alone : (sign : Sign) (behind : Behind) → terminal_number (sign_terminal sign behind) ≡ 5 → begins_step behind ≡ false
sign_alone s.Slash behind e = slash_alone (begins_step behind) e
sign_alone _ behind e = absurd (omega (arith, e))

phrase_not : (c : Bool) (p : Phrase) → terminal_number (cond c (terminal.Phrase p) terminal.Name) ≡ 5 → ⊥
phrase_not true p e = omega (arith, e)
phrase_not false p e = omega (arith, e)

word_not : (word : Option Word) (behind : Behind) → terminal_number (word_terminal word behind) ≡ 5 → ⊥
word_not None behind e = omega (arith, e)
word_not (Some (w.Keyword k)) behind e = omega (arith, e)
word_not (Some (w.Phrase p)) behind e = phrase_not (makes_phrase p behind) p e

kind_alone : (kind : TokenKind) (text : List ℕ) (behind : Behind) → terminal_number (kind_terminal kind text behind) ≡ 5 → begins_step behind ≡ false
kind_alone t.Name text behind e = absurd (word_not (word_of text) behind e)
kind_alone t.Integer text behind e = absurd (omega (arith, e))
kind_alone t.Decimal text behind e = absurd (omega (arith, e))
kind_alone t.Double text behind e = absurd (omega (arith, e))
kind_alone t.String text behind e = absurd (omega (arith, e))
kind_alone (t.Sign sign) text behind e = sign_alone sign behind e

-- A `/` alone is read only where no step begins behind it.
pub alone_read : (x : Lexed) (rest : List Lexed) → IsRead x rest 5 → begins_step (first_behind b.End rest) ≡ false
alone_read x rest e = kind_alone x.kind x.text (first_behind b.End rest) e
