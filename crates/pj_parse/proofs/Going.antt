-- The tokens of a text, as far as a lexer has come.
use Rattle.std.proofs.Common.{◌≡◌, ℕ, List, [], ◌∷◌, ◌++◌, map, ◌∙◌, sym, ap, subst, append_assoc}
use Rattle.std.proofs.lemmas.List.{append-nil, map-append}
use Rattle.std.specs.Str.{chars}
use Rattle.pj_lex.specs.Tokens.{Lexed, Tokens, Position, IsGap, ended, fault_of}
use Rattle.pj_lex.specs.declared.token.LexFault.{LexFault}
use Rattle.pj_grammar.specs.Words.{TokenSeen, as_lexed, AreTokens, EndsInFault}

-- what comes of the rest comes of the whole text
pub record GoesOn (text : List ℕ) (found : List TokenSeen) (p : Position) : Type 0 where
  pub on : (more : List Lexed) → Tokens p.at p.text more → Tokens 0 (chars text) (map as_lexed found ++ more)

pub begin : (text : List ℕ) (p : Position) → p ≡ record { at = 0; text = chars text } → GoesOn text [] p
begin text p e = record { on = λ more t. subst (λ (q : Position). Tokens q.at q.text more) e t }

pub one_more : (text : List ℕ) (found : List TokenSeen) (old new : Position) (t : TokenSeen) → GoesOn text found old →
    ((more : List Lexed) → Tokens new.at new.text more → Tokens old.at old.text (as_lexed t ∷ more)) → GoesOn text (found ++ t ∷ []) new
one_more text found old new t g next = record {
  on = λ more rest.
      subst (Tokens 0 (chars text)) (sym (append_assoc (map as_lexed found) (as_lexed t ∷ []) more) ∙ ap (λ l. l ++ more) (sym (map-append as_lexed found (t ∷ []))))
      (g.on (as_lexed t ∷ more) (next more rest));
}

pub all : (text : List ℕ) (found : List TokenSeen) (p : Position) → GoesOn text found p → IsGap p.text → AreTokens text found
all text found p g gap = subst (Tokens 0 (chars text)) (append-nil (map as_lexed found)) (g.on [] (ended p.at p.text gap))

pub faulty : (text : List ℕ) (found : List TokenSeen) (old new : Position) (f : LexFault) → GoesOn text found old →
    ((more : List Lexed) → Tokens new.at new.text more → Tokens old.at old.text (fault_of f.kind f.offset ∷ more)) → IsGap new.text → EndsInFault text f
faulty text found old new f g next gap = (found, g.on (fault_of f.kind f.offset ∷ []) (next [] (ended new.at new.text gap)))
