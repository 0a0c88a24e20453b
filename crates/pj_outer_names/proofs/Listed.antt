-- Names of the classes among types, as a loop gathers them, and as they stand on a list of supertypes.
use Rattle.std.proofs.Common.{◌≡◌, ◌++◌, ◌∙◌, List, [], ◌∷◌, Option, None, Some, ap, append_assoc, refl, sym}
use Rattle.pj_names.specs.ClassName.{Name}
use Rattle.pj_names.specs.JavaType.{JavaType, Primitive, Void, Null, Class, Array, Variable, Unknown, java_type, type_list}
use Rattle.pj_names.specs.declared.ty.Ty.{Ty}
use Rattle.pj_signatures.specs.Types.{ClassTypes}
use Rattle.pj_signatures.specs.Seen.{class_view, seen_class}
use Rattle.pj_signatures.specs.declared.signature.ClassSig.{ClassSig}
use Rattle.pj_types.specs.Supertypes.{Listed, classes_by, of_signature, with_class, written}
use Rattle.pj_outer_names.specs.Inherited.{class_names, listed_names, with_name}

-- ---- in a loop

with_name-append : (ty : JavaType) (names : List Name) → with_name ty names ≡ with_name ty [] ++ names
with_name-append (Primitive prim) names = refl
with_name-append Void names = refl
with_name-append Null names = refl
with_name-append (Class name arguments) names = refl
with_name-append (Array member) names = refl
with_name-append (Variable name bound) names = refl
with_name-append Unknown names = refl

-- the first type
pub names-first : (none first all : List Name) (ty : Ty) (types : List Ty) → none ≡ [] → first ≡ none ++ with_name (java_type ty) [] → all ≡ first ++ class_names (type_list types)
    → all ≡ class_names (java_type ty ∷ type_list types)
names-first none first all ty types empty one is =
    is
    ∙ ap (λ names. names ++ class_names (type_list types)) (one ∙ ap (λ names. names ++ with_name (java_type ty) []) empty)
    ∙ sym (with_name-append (java_type ty) (class_names (type_list types)))

-- one type more
pub names-turn : (before more all : List Name) (ty : Ty) (types left : List Ty) → types ≡ ty ∷ left → more ≡ before ++ with_name (java_type ty) []
    → before ++ class_names (type_list types) ≡ all → more ++ class_names (type_list left) ≡ all
names-turn before more all ty types left is grown so_far =
    ap (λ names. names ++ class_names (type_list left)) grown
    ∙ append_assoc before (with_name (java_type ty) []) (class_names (type_list left))
    ∙ ap (λ names. before ++ names) (sym (with_name-append (java_type ty) (class_names (type_list left))))
    ∙ ap (λ (l : List Ty). before ++ class_names (type_list l)) (sym is)
    ∙ so_far

pub ruleset gathered = (names-first, names-turn)

-- ---- on a list of supertypes

name-listed : (ty : JavaType) (classes : List Listed) → with_name ty (listed_names classes) ≡ listed_names (with_class ty classes)
name-listed (Primitive prim) classes = refl
name-listed Void classes = refl
name-listed Null classes = refl
name-listed (Class name arguments) classes = refl
name-listed (Array member) classes = refl
name-listed (Variable name bound) classes = refl
name-listed Unknown classes = refl

-- the supertypes of the first class of a list stand as they are written
names-listed : (parameters : List (Name × JavaType)) (types : List JavaType) → class_names types ≡ listed_names (classes_by (written parameters None) types)
names-listed parameters [] = refl
names-listed parameters (ty ∷ types) =
    ap (with_name ty) (names-listed parameters types) ∙ name-listed ty (classes_by (written parameters None) types)

-- a signature that is none
pub names-none : (found : Option ClassSig) (read : Option ClassTypes) (names : List Name) → found ≡ None → seen_class found ≡ read → names ≡ [] → names ≡ listed_names (of_signature None read)
names-none found read names none is empty = empty ∙ ap (λ (sig : Option ClassSig). listed_names (of_signature None (seen_class sig))) (sym none) ∙ ap (λ known. listed_names (of_signature None known)) is

-- and one that was read
pub names-spelled : (signature : ClassSig) (found : Option ClassSig) (read : Option ClassTypes) (names : List Name) → found ≡ Some signature → seen_class found ≡ read
    → names ≡ class_names (java_type signature.superclass ∷ type_list signature.interfaces) → names ≡ listed_names (of_signature None read)
names-spelled signature found read names some is are =
    are
    ∙ names-listed (class_view signature).params (java_type signature.superclass ∷ type_list signature.interfaces)
    ∙ ap (λ (sig : Option ClassSig). listed_names (of_signature None (seen_class sig))) (sym some)
    ∙ ap (λ known. listed_names (of_signature None known)) is

pub ruleset spelled = (names-none, names-spelled)
