-- Type parameters paired with arguments, as the loop pairs them.
use Rattle.std.proofs.Common.{◌≡◌, ℕ, ◌<◌, ◌+◌, List, [], ◌∷◌, ◌++◌, length, get_or, drop, ap, refl, sym, ◌∙◌, append_assoc}
use Rattle.std.specs.Prelude.{Option, Some, None}
use Rattle.std.proofs.lemmas.List.{map-append}
use Rattle.pj_names.specs.declared.ty.Ty.{Ty}
use Rattle.pj_names.specs.JavaType.{JavaType, Arguments, Argument, java_type, bound_types}
use Rattle.pj_names.proofs.AskingLaws.{left_from}
use Rattle.pj_types.specs.Supertypes.{paired, with_pair}

abbrev pub Pair : Type 0
Pair = List ℕ × JavaType

abbrev pub in_front : List Pair → Option (List Pair) → Option (List Pair)
in_front pairs None = None
in_front pairs (Some more) = Some (pairs ++ more)

push_front : (pairs : List Pair) (pair : Pair) (more : Option (List Pair)) → in_front pairs (with_pair pair more) ≡ in_front (pairs ++ pair ∷ []) more
push_front pairs pair None = refl
push_front pairs pair (Some more) = ap (λ (l : List Pair). Some l) (sym (append_assoc pairs (pair ∷ []) more))

left_bindings : (parameters : List (List ℕ × Ty)) (i : ℕ) (parameter : List ℕ × Ty) → i < length parameters → parameter ≡ get_or parameters i parameter → drop i parameters ≡ parameter ∷ drop (i + 1) parameters
left_bindings parameters i parameter h is = left_from parameters i parameter h ∙ ap (λ p. p ∷ drop (i + 1) parameters) (sym is)

-- one parameter more is paired
pub paired-turn : (bindings parameters : List (List ℕ × Ty)) (i : ℕ) (parameter : List ℕ × Ty) (name : List ℕ) (first : Ty) (more : Arguments) (all : Option (List Pair))
    → i < length parameters → parameter ≡ get_or parameters i parameter → name ≡ parameter.0
    → all ≡ in_front (bound_types bindings) (paired (bound_types (drop i parameters)) (Argument (java_type first) more))
    → all ≡ in_front (bound_types (bindings ++ (name, first) ∷ [])) (paired (bound_types (drop (i + 1) parameters)) more)
paired-turn bindings parameters i parameter name first more all below is name_is so_far =
    so_far
    ∙ ap (λ (l : List (List ℕ × Ty)). in_front (bound_types bindings) (paired (bound_types l) (Argument (java_type first) more))) (left_bindings parameters i parameter below is)
    ∙ push_front (bound_types bindings) (parameter.0, java_type first) (paired (bound_types (drop (i + 1) parameters)) more)
    ∙ ap (λ (l : List Pair). in_front l (paired (bound_types (drop (i + 1) parameters)) more)) (ap (λ n. bound_types bindings ++ (n, java_type first) ∷ []) (sym name_is) ∙ sym (map-append (λ (b : List ℕ × Ty). (b.0, java_type b.1)) bindings ((name, first) ∷ [])))

pub ruleset turns = (paired-turn)
