-- The language of signature patterns, `T#m(P)`: which texts spell which pattern.
use Rattle.std.specs.Prelude.{◌≡◌, ℕ, IsTrue, List, [], ◌∷◌, ◌++◌, codes, ◌⊎◌, Option, Some, None}
use Rattle.std.specs.List.{join_with_byte}
use Rattle.pj_signature_patterns.specs.declared.pattern.TypePattern.{TypePattern}
use Rattle.pj_signature_patterns.specs.declared.pattern.TypePattern.TheVariants as t
use Rattle.pj_signature_patterns.specs.declared.pattern.MethodPattern.{MethodPattern}
use Rattle.pj_signature_patterns.specs.declared.pattern.MethodPattern.TheVariants as m
use Rattle.pj_signature_patterns.specs.declared.pattern.ParametersPattern.{ParametersPattern}
use Rattle.pj_signature_patterns.specs.declared.pattern.ParametersPattern.TheVariants as p
use Rattle.pj_signature_patterns.specs.declared.pattern.SigPattern.{SigPattern}
use Rattle.pj_signature_patterns.specs.Identifiers.{is_identifier}
use Rattle.pj_signature_patterns.specs.TypeNames.{is_type_name}

-- `T`: `_` is any type, and a name of a type is the type of that name
abbrev pub SpellsType : List ℕ → TypePattern → Type 0
SpellsType text t.Any = text ≡ codes "_"
SpellsType text (t.Named name) = (text ≡ name) × IsTrue (is_type_name name)

-- `m`: `_` is any method or constructor, `new` and `<init>` are a constructor, and an identifier is a method of that name
abbrev pub SpellsMethod : List ℕ → MethodPattern → Type 0
SpellsMethod text m.Any = text ≡ codes "_"
SpellsMethod text m.Constructor = (text ≡ codes "new") ⊎ (text ≡ codes "<init>")
SpellsMethod text (m.Named name) = (text ≡ name) × IsTrue (is_identifier name)

-- each text spells the pattern at its place, and there are as many of both
abbrev pub SpellEach : List (List ℕ) → List TypePattern → Type 0
SpellEach [] [] = Unit {0}
SpellEach [] (pattern ∷ patterns) = ⊥
SpellEach (text ∷ texts) [] = ⊥
SpellEach (text ∷ texts) (pattern ∷ patterns) = SpellsType text pattern × SpellEach texts patterns

-- `P`: `_*` is any parameters, and else each is a type or any one, with commas, 44, between; there may be none
abbrev pub SpellsParameters : List ℕ → ParametersPattern → Type 0
SpellsParameters text p.Any = text ≡ codes "_*"
SpellsParameters text (p.Listed patterns) = (texts : List (List ℕ)) × (text ≡ join_with_byte 44 texts) × SpellEach texts patterns

-- The text spells the pattern: `T`, the sign `#`, 35, `m`, and `P` in parentheses, 40 and 41, without white space.
pub record Spells (text : List ℕ) (pattern : SigPattern) : Type 0 where
  pub receiver : List ℕ
  pub method : List ℕ
  pub parameters : List ℕ
  pub text_is : text ≡ receiver ++ 35 ∷ (method ++ 40 ∷ (parameters ++ 41 ∷ []))
  pub receiver_is : SpellsType receiver pattern.receiver
  pub method_is : SpellsMethod method pattern.method
  pub parameters_are : SpellsParameters parameters pattern.parameters

-- An answer is the one pattern that the text spells, or none where it spells none.
abbrev pub IsRead : List ℕ → Option SigPattern → Type 0
IsRead text None = (pattern : SigPattern) → Spells text pattern → ⊥
IsRead text (Some found) = Spells text found × ((pattern : SigPattern) → Spells text pattern → pattern ≡ found)
