-- Type arguments made from the last one on.
use Rattle.std.proofs.Common.{◌≡◌, ◌++◌, ◌∙◌, List, [], ◌∷◌, ap, refl, sym}
use Rattle.pj_names.specs.declared.ty.Ty.{Ty}
use Rattle.pj_names.specs.JavaType.{JavaType, Arguments, NoMore, Argument, java_type, type_list, arguments_of}

-- the arguments of a list in front of others
abbrev pub in_front : List JavaType → Arguments → Arguments
in_front [] rest = rest
in_front (first ∷ more) rest = Argument first (in_front more rest)

pub all_in_front : (list : List JavaType) → arguments_of list ≡ in_front list NoMore
all_in_front [] = refl
all_in_front (x ∷ xs) = ap (Argument x) (all_in_front xs)

pub last_in_front : (list : List Ty) (last : Ty) (rest : Arguments) → in_front (type_list (list ++ last ∷ [])) rest ≡ in_front (type_list list) (Argument (java_type last) rest)
last_in_front [] last rest = refl
last_in_front (x ∷ xs) last rest = ap (Argument (java_type x)) (last_in_front xs last rest)

-- an argument more is copied to the end of a list
pub next_in_front : (copies new : List Ty) (copy : Ty) (first : JavaType) (rest more all : Arguments)
    → new ≡ copies ++ copy ∷ [] → java_type copy ≡ first → rest ≡ Argument first more → in_front (type_list copies) rest ≡ all → in_front (type_list new) more ≡ all
next_in_front copies new copy first rest more all added same is kept =
    ap (λ u. in_front (type_list u) more) added
    ∙ last_in_front copies copy more
    ∙ ap (λ u. in_front (type_list copies) (Argument u more)) same
    ∙ ap (in_front (type_list copies)) (sym is)
    ∙ kept
