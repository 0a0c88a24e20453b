-- Turns and ends of the loops that read lists.
use Rattle.std.proofs.Common.{◌≡◌, ◌++◌, ◌<◌, ◌≤◌, ℕ, suc, Bool, true, false, List, [], ◌∷◌, length, ap, refl, sym, ◌∙◌, arith, append-nil}
use Rattle.std.specs.Prelude.{◌&&◌, ◌==◌, Option, Some, None, nat_lt, nat_le, not, cond}
use Rattle.std.proofs.lemmas.Bool.Decides.{nat_tests}
use Rattle.pj_names.specs.declared.ty.Ty.{Ty}
use Rattle.pj_names.specs.JavaType.{JavaType, java_type, type_list, bound_types}
use Rattle.pj_signatures.specs.Types.{Making, types, class_named, arguments_of, ClassTypes, MethodTypes}
use Rattle.pj_signatures.specs.Reading.{behind, begins, next, one, expect, many, put, not_at, argument_at, listed_at, suffix_at, extended, members_at, parameter_at, listed_parameters_at, parameters_at, inside, not_empty, whole, two_of, supertypes_at, types_at, class_read, method_read, result_read, class_signature_of, method_signature_of}
use Rattle.pj_signatures.proofs.Many.{many_more, many_none, many_end}
use Rattle.pj_signatures.proofs.Spellings.{next_to}

types_put : (list : List Ty) (ty : Ty) → put (type_list list) (java_type ty) ≡ type_list (list ++ ty ∷ [])
types_put [] ty = refl
types_put (x ∷ xs) ty = ap (λ (r : List JavaType). java_type x ∷ r) (types_put xs ty)

-- one more type is read
pub types_turn : (goes_on : List ℕ → Bool) (item : List ℕ → Option (JavaType × List ℕ)) (list : List Ty) (text : List ℕ) (ty : Ty) (rest : List ℕ)
    → goes_on text ≡ true → item text ≡ Some (java_type ty, rest) → length rest < length text
    → many goes_on item put (type_list list) text ≡ many goes_on item put (type_list (list ++ ty ∷ [])) rest
types_turn goes_on item list text ty rest goes found shorter =
    many_more goes_on item put (type_list list) text (java_type ty) rest goes found shorter ∙ ap (λ (s : List JavaType). many goes_on item put s rest) (types_put list ty)

pub bound_put : (list : List (List ℕ × Ty)) (name : List ℕ) (ty : Ty) → bound_types (list ++ (name, ty) ∷ []) ≡ put (bound_types list) (name, java_type ty)
bound_put [] name ty = refl
bound_put (x ∷ xs) name ty = ap (λ (r : List (List ℕ × JavaType)). (x.0, java_type x.1) ∷ r) (bound_put xs name ty)

-- one more type parameter is read
pub bounds_turn : (goes_on : List ℕ → Bool) (item : List ℕ → Option ((List ℕ × JavaType) × List ℕ)) (list more : List (List ℕ × Ty)) (text name : List ℕ) (bound : JavaType) (rest : List ℕ)
    → goes_on text ≡ true → item text ≡ Some ((name, bound), rest) → length rest < length text → bound_types more ≡ put (bound_types list) (name, bound)
    → many goes_on item put (bound_types list) text ≡ many goes_on item put (bound_types more) rest
bounds_turn goes_on item list more text name bound rest goes found shorter more_is =
    many_more goes_on item put (bound_types list) text (name, bound) rest goes found shorter ∙ ap (λ (s : List (List ℕ × JavaType)). many goes_on item put s rest) (sym more_is)

length_types : (list : List Ty) → length (type_list list) ≡ length list
length_types [] = refl
length_types (x ∷ xs) = ap suc (length_types xs)

in_bounds : (k : ℕ) → 0 < k → k ≤ 255 → (nat_lt 0 k && nat_le k 255) ≡ true
in_bounds k h g = grind (arith, nat_tests)

too_few : (nat_lt 0 0 && nat_le 0 255) ≡ false
too_few = refl

too_many : (k : ℕ) → 255 < k → (nat_lt 0 k && nat_le k 255) ≡ false
too_many k h = grind (arith, nat_tests)

-- the end of a list of type arguments
listed_test : {A B S P : Type 0} (make : Making A B S P) (inner : List ℕ → Option (A × List ℕ)) (text rest after : List ℕ) (arguments : List B) (test : Bool)
    → many (not_at 62) (argument_at make inner) put [] text ≡ many (not_at 62) (argument_at make inner) put arguments rest
    → begins 62 rest ≡ true → behind 62 rest ≡ Some after → (nat_lt 0 (length arguments) && nat_le (length arguments) 255) ≡ test
    → listed_at make inner text ≡ cond test (Some (arguments, after)) None
listed_test {B = B} make inner text rest after arguments test so_far at_end closes is =
    next_to _ (so_far ∙ many_end (not_at 62) (argument_at make inner) put arguments rest (ap not at_end))
    (rw closes (ap (λ (b : Bool). let o : Option (List B × List ℕ) = cond b (Some (arguments, after)) None in o) is))

pub listed_done : {A S P : Type 0} (make : Making A JavaType S P) (inner : List ℕ → Option (A × List ℕ)) (text rest after : List ℕ) (arguments : List Ty)
    → many (not_at 62) (argument_at make inner) put [] text ≡ many (not_at 62) (argument_at make inner) put (type_list arguments) rest
    → begins 62 rest ≡ true → behind 62 rest ≡ Some after → 0 < length arguments → length arguments ≤ 255
    → listed_at make inner text ≡ Some (type_list arguments, after)
listed_done make inner text rest after arguments so_far at_end closes some few =
    listed_test make inner text rest after (type_list arguments) true so_far at_end closes (in_bounds (length (type_list arguments)) (rw (length_types arguments) some) (rw (length_types arguments) few))

pub listed_empty : {A S P : Type 0} (make : Making A JavaType S P) (inner : List ℕ → Option (A × List ℕ)) (text rest after : List ℕ) (arguments : List Ty)
    → many (not_at 62) (argument_at make inner) put [] text ≡ many (not_at 62) (argument_at make inner) put (type_list arguments) rest
    → begins 62 rest ≡ true → behind 62 rest ≡ Some after → length arguments ≡ 0
    → listed_at make inner text ≡ None
listed_empty make inner text rest after arguments so_far at_end closes none =
    listed_test make inner text rest after (type_list arguments) false so_far at_end closes (rw (length_types arguments, none) refl)

pub listed_long : {A S P : Type 0} (make : Making A JavaType S P) (inner : List ℕ → Option (A × List ℕ)) (text rest after : List ℕ) (arguments : List Ty)
    → many (not_at 62) (argument_at make inner) put [] text ≡ many (not_at 62) (argument_at make inner) put (type_list arguments) rest
    → begins 62 rest ≡ true → behind 62 rest ≡ Some after → 255 < length arguments
    → listed_at make inner text ≡ None
listed_long make inner text rest after arguments so_far at_end closes long =
    listed_test make inner text rest after (type_list arguments) false so_far at_end closes (too_many (length (type_list arguments)) (rw (length_types arguments) long))

-- the end of a class type
pub members_done : (declared : List (List ℕ × JavaType)) (n : ℕ) (inner : List ℕ → Option (JavaType × List ℕ)) (first name : List ℕ) (first_arguments arguments : List JavaType) (text rest end : List ℕ)
    → many (begins 46) (suffix_at (types declared) n inner) (extended (types declared)) (first, first_arguments) text
    ≡ many (begins 46) (suffix_at (types declared) n inner) (extended (types declared)) (name, arguments) rest
    → begins 46 rest ≡ false → behind 59 rest ≡ Some end
    → members_at (types declared) n inner (first, first_arguments) text ≡ Some (class_named name (arguments_of arguments), end)
members_done declared n inner first name first_arguments arguments text rest end so_far at_end closes =
    next_to _ (so_far ∙ many_end (begins 46) (suffix_at (types declared) n inner) (extended (types declared)) (name, arguments) rest at_end) (rw closes refl)

pub members_open : (declared : List (List ℕ × JavaType)) (n : ℕ) (inner : List ℕ → Option (JavaType × List ℕ)) (first name : List ℕ) (first_arguments arguments : List JavaType) (text rest : List ℕ)
    → many (begins 46) (suffix_at (types declared) n inner) (extended (types declared)) (first, first_arguments) text
    ≡ many (begins 46) (suffix_at (types declared) n inner) (extended (types declared)) (name, arguments) rest
    → begins 46 rest ≡ false → behind 59 rest ≡ None
    → members_at (types declared) n inner (first, first_arguments) text ≡ None
members_open declared n inner first name first_arguments arguments text rest so_far at_end closes =
    next_to _ (so_far ∙ many_end (begins 46) (suffix_at (types declared) n inner) (extended (types declared)) (name, arguments) rest at_end) (rw closes refl)

pub members_none : (declared : List (List ℕ × JavaType)) (n : ℕ) (inner : List ℕ → Option (JavaType × List ℕ)) (first name : List ℕ) (first_arguments arguments : List JavaType) (text rest : List ℕ)
    → many (begins 46) (suffix_at (types declared) n inner) (extended (types declared)) (first, first_arguments) text
    ≡ many (begins 46) (suffix_at (types declared) n inner) (extended (types declared)) (name, arguments) rest
    → begins 46 rest ≡ true → suffix_at (types declared) n inner rest ≡ None
    → members_at (types declared) n inner (first, first_arguments) text ≡ None
members_none declared n inner first name first_arguments arguments text rest so_far goes found =
    ap (λ (o : Option ((List ℕ × List JavaType) × List ℕ)). next o (λ so_far end. expect 59 end (λ rest. one ((types declared).whole so_far) rest)))
    (so_far ∙ many_none (begins 46) (suffix_at (types declared) n inner) (extended (types declared)) (name, arguments) rest goes found)

-- one more member class is read
pub suffix_turn : (declared : List (List ℕ × JavaType)) (n : ℕ) (inner : List ℕ → Option (JavaType × List ℕ)) (name : List ℕ) (arguments : List JavaType) (text member : List ℕ) (more : List JavaType) (rest whole : List ℕ)
    → begins 46 text ≡ true → suffix_at (types declared) n inner text ≡ Some ((member, more), rest) → length rest < length text → whole ≡ name ++ 36 ∷ member
    → many (begins 46) (suffix_at (types declared) n inner) (extended (types declared)) (name, arguments) text
    ≡ many (begins 46) (suffix_at (types declared) n inner) (extended (types declared)) (whole, more) rest
suffix_turn declared n inner name arguments text member more rest whole goes found shorter whole_is =
    many_more (begins 46) (suffix_at (types declared) n inner) (extended (types declared)) (name, arguments) text (member, more) rest goes found shorter
    ∙ ap (λ (w : List ℕ). many (begins 46) (suffix_at (types declared) n inner) (extended (types declared)) (w, more) rest) (sym whole_is)

-- the end of a list of type parameters
parameters_test : {A B S P : Type 0} (make : Making A B S P) (bound_by : List ℕ → Option (A × List ℕ)) (text rest after : List ℕ) (parameters : List P) (test : Bool)
    → many (not_at 62) (parameter_at make bound_by) put [] text ≡ many (not_at 62) (parameter_at make bound_by) put parameters rest
    → begins 62 rest ≡ true → behind 62 rest ≡ Some after → nat_lt 0 (length parameters) ≡ test
    → listed_parameters_at make bound_by text ≡ cond test (Some (parameters, after)) None
parameters_test {P = P} make bound_by text rest after parameters test so_far at_end closes is =
    next_to _ (so_far ∙ many_end (not_at 62) (parameter_at make bound_by) put parameters rest (ap not at_end))
    (rw closes (ap (λ (b : Bool). let o : Option (List P × List ℕ) = cond b (Some (parameters, after)) None in o) is))

length_bounds : (list : List (List ℕ × Ty)) → length (bound_types list) ≡ length list
length_bounds [] = refl
length_bounds (x ∷ xs) = ap suc (length_bounds xs)

some_there : (k : ℕ) → 0 < k → nat_lt 0 k ≡ true
some_there k h = grind (arith, nat_tests)

pub parameters_done : {A B S : Type 0} (make : Making A B S (List ℕ × JavaType)) (bound_by : List ℕ → Option (A × List ℕ)) (text rest after : List ℕ) (parameters : List (List ℕ × Ty))
    → many (not_at 62) (parameter_at make bound_by) put [] text ≡ many (not_at 62) (parameter_at make bound_by) put (bound_types parameters) rest
    → begins 62 rest ≡ true → behind 62 rest ≡ Some after → 0 < length parameters
    → listed_parameters_at make bound_by text ≡ Some (bound_types parameters, after)
parameters_done make bound_by text rest after parameters so_far at_end closes some =
    parameters_test make bound_by text rest after (bound_types parameters) true so_far at_end closes (some_there (length (bound_types parameters)) (rw (length_bounds parameters) some))

pub parameters_empty : {A B S : Type 0} (make : Making A B S (List ℕ × JavaType)) (bound_by : List ℕ → Option (A × List ℕ)) (text rest after : List ℕ) (parameters : List (List ℕ × Ty))
    → many (not_at 62) (parameter_at make bound_by) put [] text ≡ many (not_at 62) (parameter_at make bound_by) put (bound_types parameters) rest
    → begins 62 rest ≡ true → behind 62 rest ≡ Some after → length parameters ≡ 0
    → listed_parameters_at make bound_by text ≡ None
parameters_empty make bound_by text rest after parameters so_far at_end closes none =
    parameters_test make bound_by text rest after (bound_types parameters) false so_far at_end closes (rw (length_bounds parameters, none) refl)

pub no_around : (own : List (List ℕ × JavaType)) → own ++ [] ≡ own
no_around own = append-nil own

nothing_left : (rest : List ℕ) → (length rest == 0) ≡ true → rest ≡ []
nothing_left [] h = refl
nothing_left (b ∷ bs) h = absurd (grind (arith, nat_tests))

no_more : (rest : List ℕ) → rest ≡ [] → not_empty rest ≡ false
no_more [] h = refl
no_more (b ∷ bs) h = absurd cc

-- the end of a list up to the end of the text
to_end : (item : List ℕ → Option (JavaType × List ℕ)) (list : List Ty) (text rest : List ℕ)
    → many not_empty item put [] text ≡ many not_empty item put (type_list list) rest → (length rest == 0) ≡ true
    → many not_empty item put [] text ≡ Some (type_list list, [])
to_end item list text rest so_far h =
    let none = nothing_left rest h in
    so_far ∙ many_end not_empty item put (type_list list) rest (no_more rest none) ∙ ap (λ (r : List ℕ). let o : Option (List JavaType × List ℕ) = Some (type_list list, r) in o) none

pub all_done : (item : List ℕ → Option (JavaType × List ℕ)) (list : List Ty) (text rest : List ℕ)
    → many not_empty item put [] text ≡ many not_empty item put (type_list list) rest → (length rest == 0) ≡ true
    → whole (many not_empty item put [] text) ≡ Some (type_list list)
all_done item list text rest so_far h = ap whole (to_end item list text rest so_far h)

-- A class's signature, from its parts.
abbrev class_of_parts : List (List ℕ × JavaType) → Option (JavaType × List JavaType) → Option ClassTypes
class_of_parts params None = None
class_of_parts params (Some above) = Some (record { params = params; superclass = above.0; interfaces = above.1 })

class_of : (params : List (List ℕ × JavaType)) (found : Option ((JavaType × List JavaType) × List ℕ)) (above : Option (JavaType × List JavaType)) → whole found ≡ above
    → class_read (whole (next found (λ pair end. one (params, pair.0, pair.1) end))) ≡ class_of_parts params above
class_of params None above e = ap (class_of_parts params) e
class_of params (Some pair) above e = at pair.0 pair.1 e
  where
    at : (v : JavaType × List JavaType) (rest : List ℕ) → whole (Some (v, rest)) ≡ above → class_read (whole (next (Some (v, rest)) (λ pair end. one (params, pair.0, pair.1) end))) ≡ class_of_parts params above
    at v [] k = ap (class_of_parts params) k
    at v (b ∷ bs) k = ap (class_of_parts params) k

pub class_signature_done : (text after : List ℕ) (params : List (List ℕ × JavaType)) (superclass : JavaType) (interfaces : List JavaType)
    → parameters_at (types []) (inside (types []) 255) text ≡ Some (params, after) → whole (supertypes_at (types (params ++ [])) 255 after) ≡ Some (superclass, interfaces)
    → class_signature_of text ≡ Some (record { params = params; superclass = superclass; interfaces = interfaces })
unfolding class_signature_of
class_signature_done text after params superclass interfaces first above =
    ap (λ (o : Option (List (List ℕ × JavaType) × List ℕ)). class_read (whole (next o (λ params after. next (supertypes_at (types params) 255 after) (λ above end. one (params, above.0, above.1) end))))) first
    ∙ class_of params (supertypes_at (types params) 255 after) (Some (superclass, interfaces)) (ap (λ (d : List (List ℕ × JavaType)). whole (supertypes_at (types d) 255 after)) (sym (append-nil params)) ∙ above)

pub class_signature_open : (text after : List ℕ) (params : List (List ℕ × JavaType))
    → parameters_at (types []) (inside (types []) 255) text ≡ Some (params, after) → whole (supertypes_at (types (params ++ [])) 255 after) ≡ None
    → class_signature_of text ≡ None
unfolding class_signature_of
class_signature_open text after params first above =
    ap (λ (o : Option (List (List ℕ × JavaType) × List ℕ)). class_read (whole (next o (λ params after. next (supertypes_at (types params) 255 after) (λ above end. one (params, above.0, above.1) end))))) first
    ∙ class_of params (supertypes_at (types params) 255 after) None (ap (λ (d : List (List ℕ × JavaType)). whole (supertypes_at (types d) 255 after)) (sym (append-nil params)) ∙ above)

pub class_signature_none : (text : List ℕ) → parameters_at (types []) (inside (types []) 255) text ≡ None → class_signature_of text ≡ None
unfolding class_signature_of
class_signature_none text first =
    ap (λ (o : Option (List (List ℕ × JavaType) × List ℕ)). class_read (whole (next o (λ params after. next (supertypes_at (types params) 255 after) (λ above end. one (params, above.0, above.1) end))))) first

-- A method's signature, from its parts.
abbrev method_of_parts : List (List ℕ × JavaType) → Option (List JavaType × Option JavaType) → Option MethodTypes
method_of_parts params None = None
method_of_parts params (Some parts) = Some (record { params = params; arguments = parts.0; returned = result_read parts.1 })

method_of : (params : List (List ℕ × JavaType)) (found : Option ((List JavaType × Option JavaType × List JavaType) × List ℕ)) (parts : Option (List JavaType × Option JavaType)) → two_of (whole found) ≡ parts
    → method_read (whole (next found (λ types end. one (params, types.0, types.1, types.2) end))) ≡ method_of_parts params parts
method_of params None parts e = ap (method_of_parts params) e
method_of params (Some pair) parts e = at pair.0 pair.1 e
  where
    at : (v : List JavaType × Option JavaType × List JavaType) (rest : List ℕ) → two_of (whole (Some (v, rest))) ≡ parts → method_read (whole (next (Some (v, rest)) (λ types end. one (params, types.0, types.1, types.2) end))) ≡ method_of_parts params parts
    at v [] k = ap (method_of_parts params) k
    at v (b ∷ bs) k = ap (method_of_parts params) k

pub method_signature_done : (around : List (List ℕ × JavaType)) (text after : List ℕ) (params : List (List ℕ × JavaType)) (arguments : List JavaType) (returned : Option JavaType)
    → parameters_at (types []) (inside (types []) 255) text ≡ Some (params, after) → two_of (whole (types_at (types (params ++ around)) 255 after)) ≡ Some (arguments, returned)
    → method_signature_of around text ≡ Some (record { params = params; arguments = arguments; returned = result_read returned })
unfolding method_signature_of
method_signature_done around text after params arguments returned first parts =
    ap (λ (o : Option (List (List ℕ × JavaType) × List ℕ)). method_read (whole (next o (λ params after. next (types_at (types (params ++ around)) 255 after) (λ types end. one (params, types.0, types.1, types.2) end))))) first
    ∙ method_of params (types_at (types (params ++ around)) 255 after) (Some (arguments, returned)) parts

pub method_signature_open : (around : List (List ℕ × JavaType)) (text after : List ℕ) (params : List (List ℕ × JavaType))
    → parameters_at (types []) (inside (types []) 255) text ≡ Some (params, after) → two_of (whole (types_at (types (params ++ around)) 255 after)) ≡ None
    → method_signature_of around text ≡ None
unfolding method_signature_of
method_signature_open around text after params first parts =
    ap (λ (o : Option (List (List ℕ × JavaType) × List ℕ)). method_read (whole (next o (λ params after. next (types_at (types (params ++ around)) 255 after) (λ types end. one (params, types.0, types.1, types.2) end))))) first
    ∙ method_of params (types_at (types (params ++ around)) 255 after) None parts

pub method_signature_none : (around : List (List ℕ × JavaType)) (text : List ℕ) → parameters_at (types []) (inside (types []) 255) text ≡ None → method_signature_of around text ≡ None
unfolding method_signature_of
method_signature_none around text first =
    ap (λ (o : Option (List (List ℕ × JavaType) × List ℕ)). method_read (whole (next o (λ params after. next (types_at (types (params ++ around)) 255 after) (λ types end. one (params, types.0, types.1, types.2) end))))) first
