-- Small steps: lists and types, one member further.
use Rattle.std.proofs.Common.{ℕ, ◌≡◌, Bool, true, false, cond, List, [], ◌∷◌, ◌++◌, map, refl, sym, ap, ◌∙◌, append_assoc, append-nil}
use Rattle.pj_names.specs.JavaType.{JavaType, Arguments, NoMore, Argument, java_type, type_list}
use Rattle.pj_names.specs.declared.ty.Ty.{Ty}
use Rattle.pj_signatures.specs.Types.{arguments_of}
use Rattle.pj_written.specs.Names.{further_parts, with_dots}
use Rattle.pj_written.specs.Types.{as_argument}

-- type arguments, before others
abbrev pub onto : List JavaType → Arguments → Arguments
onto [] behind = behind
onto (first ∷ rest) behind = Argument first (onto rest behind)

pub onto-none : (types : List JavaType) → onto types NoMore ≡ arguments_of types
onto-none [] = refl
onto-none (first ∷ rest) = ap (Argument first) (onto-none rest)

pub onto-last : (types : List Ty) (last : Ty) (behind : Arguments) → onto (map as_argument (type_list (types ++ last ∷ []))) behind ≡ onto (map as_argument (type_list types)) (Argument (as_argument (java_type last)) behind)
onto-last [] last behind = refl
onto-last (first ∷ rest) last behind = ap (Argument (as_argument (java_type first))) (onto-last rest last behind)

pub onto-turn : (left new : List Ty) (last : Ty) (argument : JavaType) (behind : Arguments) → left ≡ new ++ last ∷ [] → argument ≡ as_argument (java_type last) →
    onto (map as_argument (type_list new)) (Argument argument behind) ≡ onto (map as_argument (type_list left)) behind
onto-turn left new last argument behind is same =
    ap (λ a. onto (map as_argument (type_list new)) (Argument a behind)) same ∙ sym (onto-last new last behind) ∙ ap (λ ts. onto (map as_argument (type_list ts)) behind) (sym is)

pub ruleset argument_steps = (onto-none, onto-turn)

-- ---- parts with dots between

pub dots-turn : (text part : List ℕ) (is_first : Bool) (more : List (List ℕ)) →
    (text ++ cond is_first part (46 ∷ part)) ++ further_parts more ≡ text ++ cond is_first (with_dots (part ∷ more)) (further_parts (part ∷ more))
dots-turn text part true more = append_assoc text part (further_parts more)
dots-turn text part false more = append_assoc text (46 ∷ part) (further_parts more)

pub dots-end : (text : List ℕ) (is_first : Bool) → text ++ cond is_first (with_dots []) (further_parts []) ≡ text
dots-end text true = append-nil text
dots-end text false = append-nil text

pub ruleset dot_steps = (dots-turn, dots-end)
