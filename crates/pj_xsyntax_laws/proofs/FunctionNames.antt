-- The names of functions are no words of the grammar, and neither `as` nor `of`.
use Rattle.std.proofs.Common.{◌≡◌, ℕ, Bool, true, false, List, [], ◌∷◌, Option, Some, None, codes, cond, refl, sym, ◌∙◌, ap}
use Rattle.std.specs.Str.{encode_utf8_all}
use Rattle.std.specs.Prelude.{nat_eq}
use Rattle.std.specs.Cmp.Lexicographic.{pointwise}
use Rattle.std.proofs.lemmas.Bool.{false≢true, and_parts, eqb-true}
use Rattle.std.proofs.lemmas.Slice.Eq.{bytes_eq-Decides}
use lib.Utf8.{encode}
use Rattle.pj_xtokens.specs.declared.token.TokenKind.TheVariants as kind
use Rattle.pj_base.specs.WordTable.{value_in}
use Rattle.pj_xgrammar.specs.Words.{same, words}
use Rattle.pj_xgrammar.specs.Terminals.{name_behind, word_terminal, kind_terminal, terminal_number}
use Rattle.pj_xgrammar.specs.declared.terminal.Behind.{Behind}
use Rattle.pj_xgrammar.specs.declared.terminal.Behind.TheVariants as b
use Rattle.pj_xgrammar.specs.declared.word.Word.{Word}
use Rattle.pj_xexpressions.specs.Names.{callee_of}
use Rattle.pj_xexpressions.specs.declared.name.Callee.{Callee}

same_is : (v w : List ℕ) → same v w ≡ true → v ≡ w
same_is [] [] h = refl
same_is [] (d ∷ ds) h = absurd (false≢true h)
same_is (c ∷ cs) [] h = absurd (false≢true h)
same_is (c ∷ cs) (d ∷ ds) h = let a = and_parts _ _ h in (λ i. eqb-true c d a.0 i ∷ same_is cs ds a.1 i)

-- the name calls no function
abbrev CallsNone : List ℕ → Type 0
CallsNone v = callee_of (encode_utf8_all v) ≡ None

abbrev is_some : Option Callee → Bool
is_some None = false
is_some (Some called) = true

-- so it is no name of a function
differs : (v w : List ℕ) (called : Callee) → CallsNone v → callee_of (encode_utf8_all w) ≡ Some called → same v w ≡ true → ⊥
differs v w called f e h = false≢true (ap is_some (sym f ∙ ap (λ l. callee_of (encode_utf8_all l)) (same_is v w h) ∙ e))

abbrev EachCallsNone : List (List ℕ × Word) → Type 0
EachCallsNone [] = Unit {0}
EachCallsNone (x ∷ xs) = CallsNone x.0 × EachCallsNone xs

words_call_none : EachCallsNone words
unfolding callee_of encode
words_call_none = (refl, (refl, (refl, (refl, (refl, (refl, (refl, (refl, (refl, (refl, (refl, (refl, (refl, (refl, (refl, (refl, (refl, (refl, (refl, (refl, (refl, (refl, (refl, (refl, (refl, (refl, (refl, (refl, (refl, (refl, (refl, (refl, (refl, (refl, (refl, (refl, (refl, (refl, (refl, (refl, (refl, (refl, (refl, (refl, (refl, (refl, (refl, tt)))))))))))))))))))))))))))))))))))))))))))))))

next_word : (is : Bool) (word : Word) (more : Option Word) → (is ≡ true → ⊥) → more ≡ None → cond is (Some word) more ≡ None
next_word true word more h e = absurd (h refl)
next_word false word more h e = e

not_in : (xs : List (List ℕ × Word)) → EachCallsNone xs → (v : List ℕ) (called : Callee) → callee_of (encode_utf8_all v) ≡ Some called → value_in xs v ≡ None
not_in [] f v called e = refl
not_in (x ∷ xs) f v called e = next_word (pointwise nat_eq x.0 v) x.1 (value_in xs v) (λ h. absurd (false≢true (ap is_some (sym f.0 ∙ ap (λ l. callee_of (encode_utf8_all l)) ((bytes_eq-Decides x.0 v).0 h) ∙ e)))) (not_in xs f.1 v called e)

-- a name of a function is the terminal of names
pub name_of_function : (v : List ℕ) (called : Callee) (behind : Behind) → callee_of (encode_utf8_all v) ≡ Some called → terminal_number (kind_terminal kind.Name v behind) ≡ 0
name_of_function v called behind e = ap (λ (word : Option Word). terminal_number (word_terminal word behind)) (not_in words words_call_none v called e)

as_calls_none : CallsNone (codes "as")
unfolding callee_of encode
as_calls_none = refl

of_calls_none : CallsNone (codes "of")
unfolding callee_of encode
of_calls_none = refl

neither : (is_as is_of : Bool) → (is_as ≡ true → ⊥) → (is_of ≡ true → ⊥) → cond is_as b.As (cond is_of b.Of b.Name) ≡ b.Name
neither true is_of h g = absurd (h refl)
neither false true h g = absurd (g refl)
neither false false h g = refl

-- and a name for the token before it
pub behind_functions : (v : List ℕ) (called : Callee) → callee_of (encode_utf8_all v) ≡ Some called → name_behind v ≡ b.Name
behind_functions v called e = neither (same (codes "as") v) (same (codes "of") v) (differs (codes "as") v called as_calls_none e) (differs (codes "of") v called of_calls_none e)
