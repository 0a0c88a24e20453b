-- The classes among some types, as the loop gathers them.
use Rattle.std.proofs.Common.{◌≡◌, ℕ, ◌<◌, ◌+◌, List, [], ◌∷◌, ◌++◌, length, get_or, drop, ap, refl, sym, ◌∙◌, append_assoc}
use Rattle.pj_names.specs.declared.ty.Ty.{Ty}
use Rattle.pj_names.specs.JavaType.{JavaType, Primitive, Void, Null, Class, Array, Variable, Unknown, java_type, type_list}
use Rattle.pj_names.proofs.AskingLaws.{left_from}
use Rattle.pj_types.specs.Supertypes.{Listed, with_class, classes_by}

with_class-append : (ty : JavaType) (rest : List Listed) → with_class ty rest ≡ with_class ty [] ++ rest
with_class-append (Primitive prim) rest = refl
with_class-append Void rest = refl
with_class-append Null rest = refl
with_class-append (Class name arguments) rest = refl
with_class-append (Array member) rest = refl
with_class-append (Variable name bound) rest = refl
with_class-append Unknown rest = refl

-- the first type
pub classes-first : (write : JavaType → JavaType) (ty : JavaType) (types : List JavaType) (none first : List Listed) → none ≡ [] → first ≡ none ++ with_class (write ty) []
    → classes_by write (ty ∷ types) ≡ first ++ classes_by write types
classes-first write ty types none first empty is =
    with_class-append (write ty) (classes_by write types) ∙ ap (λ l. l ++ classes_by write types) (sym (is ∙ ap (λ l. l ++ with_class (write ty) []) empty))

-- one type more
pub classes-turn : (write : JavaType → JavaType) (types : List Ty) (i : ℕ) (ty : Ty) (before all more : List Listed) → i < length types → ty ≡ get_or types i ty
    → all ≡ before ++ classes_by write (type_list (drop i types)) → more ≡ before ++ with_class (write (java_type ty)) []
    → all ≡ more ++ classes_by write (type_list (drop (i + 1) types))
classes-turn write types i ty before all more below is so_far one =
    so_far
    ∙ ap (λ (l : List Ty). before ++ classes_by write (type_list l)) (left_from types i ty below ∙ ap (λ t. t ∷ drop (i + 1) types) (sym is))
    ∙ ap (λ l. before ++ l) (with_class-append (write (java_type ty)) (classes_by write (type_list (drop (i + 1) types))))
    ∙ sym (append_assoc before (with_class (write (java_type ty)) []) (classes_by write (type_list (drop (i + 1) types))))
    ∙ ap (λ l. l ++ classes_by write (type_list (drop (i + 1) types))) (sym one)

pub ruleset turns = (classes-first, classes-turn)
