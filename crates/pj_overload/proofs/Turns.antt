-- The turns of the loops over candidates, arguments and types.
use Rattle.std.specs.Prelude.{Bool, true, false, ◌==◌, Option, map, zip, if◌then◌else◌}
use Rattle.std.proofs.Common.{◌≡◌, ℕ, zero, suc, ◌<◌, ◌≤◌, ◌+◌, ◌-◌, List, [], ◌∷◌, ◌++◌, length, get_or, drop, ap, refl, subst, sym, ◌∙◌, append-nil, append_assoc, arith}
use Rattle.std.proofs.Math.ListN.{drop_of_length-le}
use Rattle.std.proofs.lemmas.List.{length-map, map-append}
use Rattle.std.proofs.lemmas.Option.{slice_get-map}
use Rattle.pj_names.specs.declared.ty.Ty.{Ty}
use Rattle.pj_names.specs.JavaType.{JavaType, java_type, type_list}
use Rattle.pj_names.specs.Asking.{Asking, Return, bind, first_hit, or_else}
use Rattle.pj_names.proofs.AskingLaws.{within-self, within-trans, within-insert, within-names, within-after, asked_after-bind, left_from}
use Rattle.pj_names.proofs.MeaningLaws.{bind-bind, bind-Return, value_of-bind}
use Rattle.pj_types.specs.declared.members.Method.{Method}
use Rattle.pj_types.specs.Members.{all_methods, method_view}
use Rattle.pj_overload.specs.declared.candidates.Candidate as held
use Rattle.pj_overload.specs.declared.passed.Passed.{Passed}
use Rattle.pj_overload.specs.Testing.{all_of, and_then, filtered}
use Rattle.pj_overload.specs.Passed.{Argument, argument_at, arguments_from}
use Rattle.pj_overload.specs.Candidates.{Candidate, candidate_of, candidates_from, member_of, variable_arity_types}
use Rattle.pj_overload.specs.Seen.{argument_seen, arguments_seen, candidate_seen, candidates_seen}

left_at : {X : Type 0} (xs : List X) (i : ℕ) (x : X) → i < length xs → x ≡ get_or xs i x → drop i xs ≡ x ∷ drop (i + 1) xs
left_at xs i x h is = left_from xs i x h ∙ ap (λ y. y ∷ drop (i + 1) xs) (sym is)

push : {X : Type 0} (front : List X) (x : X) (rest : List X) → (front ++ x ∷ []) ++ rest ≡ front ++ x ∷ rest
push front x rest = append_assoc front (x ∷ []) rest

-- the last of some types, seen
pub ruleset last_types = (slice_get-map, length-map)

-- The arguments of a call.

pub argument-turn : (functions : List ℕ) (made : List Passed) (types : List Ty) (i : ℕ) (ty : Ty) (argument : Passed) (all : List Argument) → i < length types → ty ≡ get_or types i ty
    → argument_seen argument ≡ argument_at functions i (java_type ty)
    → arguments_seen made ++ arguments_from functions i (type_list (drop i types)) ≡ all
    → arguments_seen (made ++ argument ∷ []) ++ arguments_from functions (i + 1) (type_list (drop (i + 1) types)) ≡ all
argument-turn functions made types i ty argument all below is seen_as so_far =
    let rest = arguments_from functions (i + 1) (type_list (drop (i + 1) types)) in
    ap (λ l. l ++ rest) (map-append argument_seen made (argument ∷ []) ∙ ap (λ a. arguments_seen made ++ a ∷ []) seen_as)
    ∙ push (arguments_seen made) (argument_at functions i (java_type ty)) rest
    ∙ sym (ap (λ (l : List Ty). arguments_seen made ++ arguments_from functions i (type_list l)) (left_at types i ty below is))
    ∙ so_far

pub ruleset argument_turns = (argument-turn)

-- The candidates.

pub candidate-turn : (made : List held.Candidate) (methods : List Method) (i : ℕ) (method : Method) (candidate : held.Candidate) (all : List Candidate) → i < length methods → method ≡ get_or methods i method
    → candidate_seen candidate ≡ candidate_of i (method_view method)
    → candidates_seen made ++ candidates_from i (all_methods (drop i methods)) ≡ all
    → candidates_seen (made ++ candidate ∷ []) ++ candidates_from (i + 1) (all_methods (drop (i + 1) methods)) ≡ all
candidate-turn made methods i method candidate all below is seen_as so_far =
    let rest = candidates_from (i + 1) (all_methods (drop (i + 1) methods)) in
    ap (λ l. l ++ rest) (map-append candidate_seen made (candidate ∷ []) ∙ ap (λ c. candidates_seen made ++ c ∷ []) seen_as)
    ∙ push (candidates_seen made) (candidate_of i (method_view method)) rest
    ∙ sym (ap (λ (l : List Method). candidates_seen made ++ candidates_from i (all_methods l)) (left_at methods i method below is))
    ∙ so_far

-- one more at the end
pub candidate-more : (made : List held.Candidate) (candidate copy : held.Candidate) → candidate_seen copy ≡ candidate_seen candidate
    → candidates_seen (made ++ copy ∷ []) ≡ candidates_seen made ++ candidate_seen candidate ∷ []
candidate-more made candidate copy same = map-append candidate_seen made (copy ∷ []) ∙ ap (λ c. candidates_seen made ++ c ∷ []) same

pub ruleset candidate_turns = (candidate-turn, candidate-more)

-- Variable arity parameter types.

pub types-none : (count : ℕ) → variable_arity_types count [] ≡ []
types-none count = elim count as (λ n. variable_arity_types n [] ≡ []) [ zero ↦ refl | suc n ↦ refl ]

-- where there are no parameters more
pub rest-none : (made : List Ty) (count : ℕ) (rest : List Ty) (all : List JavaType) → length rest ≡ 0 → type_list made ++ variable_arity_types count (type_list rest) ≡ all → type_list made ≡ all
rest-none made count [] all none so_far = sym (append-nil (type_list made)) ∙ ap (λ l. type_list made ++ l) (sym (types-none count)) ∙ so_far
rest-none made count (ty ∷ rest) all none so_far = absurd (omega (arith, none))

-- where there are as many as wanted
pub count-end : (made : List Ty) (count i : ℕ) (rest all : List JavaType) → count ≤ i → type_list made ++ variable_arity_types (count - i) rest ≡ all → type_list made ≡ all
count-end made count i rest all over so_far =
    let none : count - i ≡ 0 = omega (arith, over) in
    sym (append-nil (type_list made)) ∙ ap (λ n. type_list made ++ variable_arity_types n rest) (sym none) ∙ so_far

types-left : (count i : ℕ) → i < count → count - i ≡ suc (count - (i + 1))
types-left count i below = omega (arith, below)

-- the last one, which stays
pub last-turn : (made : List Ty) (first copy : Ty) (count i : ℕ) (all : List JavaType) → i < count → java_type copy ≡ member_of (java_type first)
    → type_list made ++ variable_arity_types (count - i) (java_type first ∷ []) ≡ all
    → type_list (made ++ copy ∷ []) ++ variable_arity_types (count - (i + 1)) (java_type first ∷ []) ≡ all
last-turn made first copy count i all below is so_far =
    let rest = variable_arity_types (count - (i + 1)) (java_type first ∷ []) in
    ap (λ l. l ++ rest) (map-append java_type made (copy ∷ []) ∙ ap (λ t. type_list made ++ t ∷ []) is)
    ∙ push (type_list made) (member_of (java_type first)) rest
    ∙ sym (ap (λ n. type_list made ++ variable_arity_types n (java_type first ∷ [])) (types-left count i below))
    ∙ so_far

-- one before it
pub front-turn : (made : List Ty) (first second copy : Ty) (more : List Ty) (count i : ℕ) (all : List JavaType) → i < count → java_type copy ≡ java_type first
    → type_list made ++ variable_arity_types (count - i) (type_list (first ∷ (second ∷ more))) ≡ all
    → type_list (made ++ copy ∷ []) ++ variable_arity_types (count - (i + 1)) (type_list (second ∷ more)) ≡ all
front-turn made first second copy more count i all below is so_far =
    let rest = variable_arity_types (count - (i + 1)) (type_list (second ∷ more)) in
    ap (λ l. l ++ rest) (map-append java_type made (copy ∷ []) ∙ ap (λ t. type_list made ++ t ∷ []) is)
    ∙ push (type_list made) (java_type first) rest
    ∙ sym (ap (λ n. type_list made ++ variable_arity_types n (type_list (first ∷ (second ∷ more)))) (types-left count i below))
    ∙ so_far

-- the same, by what is left
pub last-place : (made rest more : List Ty) (first copy : Ty) (count i : ℕ) (all : List JavaType) (b : Bool) → i < count → rest ≡ first ∷ more → b ≡ (length more == 0) → b ≡ true
    → java_type copy ≡ member_of (java_type first)
    → type_list made ++ variable_arity_types (count - i) (type_list rest) ≡ all
    → type_list (made ++ copy ∷ []) ++ variable_arity_types (count - (i + 1)) (type_list rest) ≡ all
last-place made rest [] first copy count i all b below left same none is so_far =
    subst (λ (r : List Ty). type_list (made ++ copy ∷ []) ++ variable_arity_types (count - (i + 1)) (type_list r) ≡ all) (sym left)
    (last-turn made first copy count i all below is (subst (λ (r : List Ty). type_list made ++ variable_arity_types (count - i) (type_list r) ≡ all) left so_far))
last-place made rest (second ∷ more) first copy count i all b below left same none is so_far = absurd (grind (arith, same, none))

pub front-place : (made rest more : List Ty) (first copy : Ty) (count i : ℕ) (all : List JavaType) (b : Bool) → i < count → rest ≡ first ∷ more → b ≡ (length more == 0) → b ≡ false
    → java_type copy ≡ java_type first
    → type_list made ++ variable_arity_types (count - i) (type_list rest) ≡ all
    → type_list (made ++ copy ∷ []) ++ variable_arity_types (count - (i + 1)) (type_list more) ≡ all
front-place made rest [] first copy count i all b below left same some is so_far = absurd (grind (arith, same, some))
front-place made rest (second ∷ more) first copy count i all b below left same some is so_far =
    front-turn made first second copy more count i all below is (subst (λ (r : List Ty). type_list made ++ variable_arity_types (count - i) (type_list r) ≡ all) left so_far)

pub ruleset variable_turns = (last-place, front-place, rest-none, count-end)

-- Members of which a test holds.

-- the same, behind those that were found before
abbrev pub filtered_behind : {A : Type 0} → (A → Asking Bool) → List A → List A → Asking (List A)
filtered_behind test front [] = Return front
filtered_behind test front (x ∷ xs) = bind (test x) (λ holds. filtered_behind test (if holds then front ++ x ∷ [] else front) xs)

filtered-by : {A : Type 0} (test : A → Asking Bool) (front : List A) (x : A) (xs : List A) (holds : Bool)
    → ((before : List A) → bind (filtered test xs) (λ rest. Return (before ++ rest)) ≡ filtered_behind test before xs)
    → bind (bind (filtered test xs) (λ rest. Return (if holds then x ∷ rest else rest))) (λ rest. Return (front ++ rest)) ≡ filtered_behind test (if holds then front ++ x ∷ [] else front) xs
filtered-by test front x xs true behind =
    bind-bind (filtered test xs) (λ rest. Return (x ∷ rest)) (λ rest. Return (front ++ rest))
    ∙ (λ j. bind (filtered test xs) (λ rest. Return (sym (append_assoc front (x ∷ []) rest) j)))
    ∙ behind (front ++ x ∷ [])
filtered-by test front x xs false behind = bind-bind (filtered test xs) (λ rest. Return rest) (λ rest. Return (front ++ rest)) ∙ behind front

filtered-front : {A : Type 0} (test : A → Asking Bool) (xs : List A) (front : List A) → bind (filtered test xs) (λ rest. Return (front ++ rest)) ≡ filtered_behind test front xs
filtered-front test [] front = ap (λ l. Return l) (append-nil front)
filtered-front test (x ∷ xs) front =
    bind-bind (test x) (λ holds. bind (filtered test xs) (λ rest. Return (if holds then x ∷ rest else rest))) (λ rest. Return (front ++ rest))
    ∙ (λ i. bind (test x) (λ holds. filtered-by test front x xs holds (λ before. filtered-front test xs before) i))

-- where a loop begins
pub filtered-gather : {A : Type 0} (test : A → Asking Bool) (xs : List A) → filtered test xs ≡ filtered_behind test [] xs
filtered-gather test xs = sym (bind-Return (filtered test xs)) ∙ filtered-front test xs []

-- The members that are left, one turn further.

module _ {X A : Type 0} (view : X → A) (xs : List X) (i : ℕ) (x : X) (below : i < length xs) (is : x ≡ get_or xs i x) where
  pub all-turn : (test : A → Asking Bool) → all_of test (map view (drop i xs)) ≡ and_then (test (view x)) (all_of test (map view (drop (i + 1) xs)))
  all-turn test = ap (λ (l : List X). all_of test (map view l)) (left_at xs i x below is)

  pub hit-turn : {B : Type 0} (test : A → Asking (Option B)) → first_hit test (map view (drop i xs)) ≡ bind (test (view x)) (λ hit. or_else hit (first_hit test (map view (drop (i + 1) xs))))
  hit-turn test = ap (λ (l : List X). first_hit test (map view l)) (left_at xs i x below is)

  pub behind-turn : (test : A → Asking Bool) (front : List A)
      → filtered_behind test front (map view (drop i xs)) ≡ bind (test (view x)) (λ holds. filtered_behind test (if holds then front ++ view x ∷ [] else front) (map view (drop (i + 1) xs)))
  behind-turn test front = ap (λ (l : List X). filtered_behind test front (map view l)) (left_at xs i x below is)

  pub pair-turn : {Y B : Type 0} (seen : Y → B) (ys : List Y) (y : Y) → i < length ys → y ≡ get_or ys i y → (test : A × B → Asking Bool)
      → all_of test (zip (map view (drop i xs)) (map seen (drop i ys))) ≡ and_then (test (view x, seen y)) (all_of test (zip (map view (drop (i + 1) xs)) (map seen (drop (i + 1) ys))))
  pair-turn seen ys y inside there test = (λ j. all_of test (zip (map view (left_at xs i x below is j)) (map seen (left_at ys i y inside there j))))

zip-none : {A B : Type 0} (xs : List A) → zip {K = A} {X = B} xs [] ≡ []
zip-none [] = refl
zip-none (x ∷ xs) = refl

-- where the second list is at its end
pub pair-end : {X A Y B : Type 0} (view : X → A) (seen : Y → B) (xs : List X) (ys : List Y) (i : ℕ) (test : A × B → Asking Bool) → length ys ≤ i
    → all_of test (zip (map view (drop i xs)) (map seen (drop i ys))) ≡ Return true
pair-end view seen xs ys i test over =
    ap (λ l. all_of test (zip (map view (drop i xs)) (map seen l))) (drop_of_length-le ys over) ∙ ap (λ l. all_of test l) (zip-none (map view (drop i xs)))

pub ruleset asking_turns = (within-self, within-trans, within-insert, within-names, within-after, value_of-bind, asked_after-bind, left_from)
