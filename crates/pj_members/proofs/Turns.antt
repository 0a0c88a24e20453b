-- The turns of the loops over members, their types and their names.
use Rattle.std.proofs.Common.{◌≡◌, ℕ, ◌<◌, ◌+◌, List, [], ◌∷◌, ◌++◌, length, get_or, drop, ap, refl, reverse, sym, ◌∙◌, append_assoc}
use Rattle.std.specs.Prelude.{Bool, true, false, not, Some, None, if◌then◌else◌, nat_eq}
use Rattle.std.specs.Cmp.Lexicographic.{pointwise}
use Rattle.std.specs.FinSet as set
use Rattle.std.proofs.lemmas.List.{map-append, reverse-append}
use Rattle.pj_names.specs.declared.answer.Member.{Member}
use Rattle.pj_names.specs.declared.ty.Ty.{Ty}
use Rattle.pj_names.specs.ClassName.{Name, NameSet}
use Rattle.pj_names.specs.JavaType.{JavaType, java_type, bound_types, type_list}
use Rattle.pj_names.proofs.AskingLaws.{left_from}
use Rattle.pj_names.proofs.NotingLaws.{insert-there}
use Rattle.pj_signatures.specs.Types.{MethodTypes}
use Rattle.pj_signatures.specs.Reading.{method_signature_of}
use Rattle.pj_types.specs.declared.members.Method.{Method}
use Rattle.pj_types.specs.Members.{FoundMethod, all_methods, method_view}
use Rattle.pj_members.specs.InClass.{Bound, is_bound, method_from, methods_from, with_method, without}
use Rattle.pj_names.specs.Asking.{bind}
use Rattle.pj_members.specs.declared.supertypes.Supertype.{Supertype}
use Rattle.pj_members.specs.Receivers.{given_in, methods_on_list, unhidden_as}
use Rattle.pj_members.specs.SupertypeWalks.{all_supertypes, supertype_view}
use Rattle.pj_members.specs.Methods.{erasure_text, found_in, key_of, methods_in, parameters_text, unhidden}

left_at : {X : Type 0} (xs : List X) (i : ℕ) (x : X) → i < length xs → x ≡ get_or xs i x → drop i xs ≡ x ∷ drop (i + 1) xs
left_at xs i x h is = left_from xs i x h ∙ ap (λ y. y ∷ drop (i + 1) xs) (sym is)

push : {X : Type 0} (front : List X) (x : X) (rest : List X) → (front ++ x ∷ []) ++ rest ≡ front ++ x ∷ rest
push front x rest = append_assoc front (x ∷ []) rest

-- Bindings without those of a method's own type parameters.

abbrev Pair : Type 0
Pair = List ℕ × Ty

abbrev seen_pair : Pair → List ℕ × JavaType
seen_pair pair = (pair.0, java_type pair.1)

without-front : (own : Bound) (pair : List ℕ × JavaType) (rest : Bound) (b : Bool) → is_bound own pair.0 ≡ b → without own (pair ∷ rest) ≡ (if b then without own rest else pair ∷ without own rest)
without-front own pair rest b is = ap (λ b. if b then without own rest else pair ∷ without own rest) is

without-at : (bindings : List Pair) (own : Bound) (i : ℕ) (pair : Pair) (b : Bool) → i < length bindings → pair ≡ get_or bindings i pair → is_bound own pair.0 ≡ b
    → without own (bound_types (drop i bindings)) ≡ (if b then without own (bound_types (drop (i + 1) bindings)) else seen_pair pair ∷ without own (bound_types (drop (i + 1) bindings)))
without-at bindings own i pair b below is bound =
    ap (λ (l : List Pair). without own (bound_types l)) (left_at bindings i pair below is) ∙ without-front own (seen_pair pair) (bound_types (drop (i + 1) bindings)) b bound

-- one is left out
pub own-turn : (front bindings : List Pair) (own all : Bound) (i : ℕ) (pair : Pair) → i < length bindings → pair ≡ get_or bindings i pair → is_bound own pair.0 ≡ true
    → bound_types front ++ without own (bound_types (drop i bindings)) ≡ all → bound_types front ++ without own (bound_types (drop (i + 1) bindings)) ≡ all
own-turn front bindings own all i pair below is bound so_far = sym (ap (λ l. bound_types front ++ l) (without-at bindings own i pair true below is bound)) ∙ so_far

-- one is kept
pub kept-turn : (front bindings : List Pair) (own all : Bound) (i : ℕ) (pair : Pair) (name : List ℕ) (ty : Ty) → i < length bindings → pair ≡ get_or bindings i pair → is_bound own pair.0 ≡ false
    → name ≡ pair.0 → java_type ty ≡ java_type pair.1
    → bound_types front ++ without own (bound_types (drop i bindings)) ≡ all → bound_types (front ++ (name, ty) ∷ []) ++ without own (bound_types (drop (i + 1) bindings)) ≡ all
kept-turn front bindings own all i pair name ty below is free name_is ty_is so_far =
    ap (λ l. l ++ without own (bound_types (drop (i + 1) bindings))) (map-append seen_pair front ((name, ty) ∷ []) ∙ (λ j. bound_types front ++ (name_is j, ty_is j) ∷ []))
    ∙ push (bound_types front) (seen_pair pair) (without own (bound_types (drop (i + 1) bindings)))
    ∙ sym (ap (λ l. bound_types front ++ l) (without-at bindings own i pair false below is free))
    ∙ so_far

pub ruleset without_turns = (own-turn, kept-turn)

-- Methods of a name.

module _ (owner : Name) (parameters bound : Bound) (name : List ℕ) where
  abbrev rest_of : List Member → List FoundMethod
  rest_of members = methods_from owner parameters bound name members

  methods-at : (members : List Member) (i : ℕ) (member : Member) (b : Bool) → i < length members → member ≡ get_or members i member → pointwise nat_eq member.name name ≡ b
      → rest_of (drop i members) ≡ (if b then with_method owner bound member (method_signature_of parameters member.signature) (rest_of (drop (i + 1) members)) else rest_of (drop (i + 1) members))
  methods-at members i member b below is named =
      ap (λ l. rest_of l) (left_at members i member below is)
      ∙ ap (λ b. if b then with_method owner bound member (method_signature_of parameters member.signature) (rest_of (drop (i + 1) members)) else rest_of (drop (i + 1) members)) named

  -- one of another name
  pub other-turn : (found : List Method) (all : List FoundMethod) (members : List Member) (i : ℕ) (member : Member) → i < length members → member ≡ get_or members i member → pointwise nat_eq member.name name ≡ false
      → all_methods found ++ rest_of (drop i members) ≡ all → all_methods found ++ rest_of (drop (i + 1) members) ≡ all
  other-turn found all members i member below is named so_far = sym (ap (λ l. all_methods found ++ l) (methods-at members i member false below is named)) ∙ so_far

  -- one whose signature is none
  pub unread-turn : (found : List Method) (all : List FoundMethod) (members : List Member) (i : ℕ) (member : Member) → i < length members → member ≡ get_or members i member → pointwise nat_eq member.name name ≡ true
      → None ≡ method_signature_of parameters member.signature
      → all_methods found ++ rest_of (drop i members) ≡ all → all_methods found ++ rest_of (drop (i + 1) members) ≡ all
  unread-turn found all members i member below is named unread so_far =
      sym (ap (λ l. all_methods found ++ l) (methods-at members i member true below is named ∙ ap (λ o. with_method owner bound member o (rest_of (drop (i + 1) members))) (sym unread))) ∙ so_far

  -- one that was read
  pub read-turn : (found : List Method) (all : List FoundMethod) (members : List Member) (i : ℕ) (member : Member) (types : MethodTypes) (method : Method) → i < length members → member ≡ get_or members i member
      → pointwise nat_eq member.name name ≡ true → Some types ≡ method_signature_of parameters member.signature → method_view method ≡ method_from owner bound member types
      → all_methods found ++ rest_of (drop i members) ≡ all → all_methods (found ++ method ∷ []) ++ rest_of (drop (i + 1) members) ≡ all
  read-turn found all members i member types method below is named read made so_far =
      ap (λ l. l ++ rest_of (drop (i + 1) members)) (map-append method_view found (method ∷ []) ∙ ap (λ m. all_methods found ++ m ∷ []) made)
      ∙ push (all_methods found) (method_from owner bound member types) (rest_of (drop (i + 1) members))
      ∙ sym (ap (λ l. all_methods found ++ l) (methods-at members i member true below is named ∙ ap (λ o. with_method owner bound member o (rest_of (drop (i + 1) members))) (sym read)))
      ∙ so_far

pub ruleset methods_turns = (other-turn, unread-turn, read-turn)

-- The erased parameters, spelled.

pub text-turn : (key all : List ℕ) (types : List Ty) (i : ℕ) (ty : Ty) → i < length types → ty ≡ get_or types i ty
    → key ++ parameters_text (type_list (drop i types)) ≡ all → (key ++ erasure_text (java_type ty)) ++ parameters_text (type_list (drop (i + 1) types)) ≡ all
text-turn key all types i ty below is so_far =
    append_assoc key (erasure_text (java_type ty)) (parameters_text (type_list (drop (i + 1) types)))
    ∙ sym (ap (λ (l : List Ty). key ++ parameters_text (type_list l)) (left_at types i ty below is))
    ∙ so_far

pub ruleset text_turns = (text-turn)

-- Hidden methods.

hides-at : (keys : NameSet) (method : FoundMethod) (rest : List FoundMethod) (b : Bool) → set.contains keys (key_of method) ≡ b
    → unhidden keys (method ∷ rest) ≡ (if b then unhidden keys rest else method ∷ unhidden (set.insert keys (key_of method)) rest)
hides-at keys method rest b is = ap (λ b. if b then unhidden keys rest else method ∷ unhidden (set.insert keys (key_of method)) rest) is

-- one that is hidden
pub hidden-turn : (keys more : NameSet) (left : List FoundMethod) (method : FoundMethod) (rest : List FoundMethod) (key : List ℕ) (added : Bool)
    → key ≡ key_of method → added ≡ not (set.contains keys key) → added ≡ false → more ≡ set.insert keys key
    → left ++ unhidden more rest ≡ left ++ unhidden keys (method ∷ rest)
hidden-turn keys more left method rest key added is was none grown =
    let there : set.contains keys key ≡ true = at (set.contains keys key) (sym was ∙ none) in
    ap (λ k. left ++ unhidden k rest) (grown ∙ sym (insert-there keys key (sym there)))
    ∙ sym (ap (λ l. left ++ l) (hides-at keys method rest true (ap (λ k. set.contains keys k) (sym is) ∙ there)))
  where
    at : (b : Bool) → not b ≡ false → b ≡ true
    at true h = refl
    at false h = sym h

-- one that is not
pub shown-turn : (keys more : NameSet) (left : List Method) (method : Method) (rest : List FoundMethod) (key : List ℕ) (added : Bool)
    → key ≡ key_of (method_view method) → added ≡ not (set.contains keys key) → added ≡ true → more ≡ set.insert keys key
    → all_methods (left ++ method ∷ []) ++ unhidden more rest ≡ all_methods left ++ unhidden keys (method_view method ∷ rest)
shown-turn keys more left method rest key added is was one grown =
    let new : set.contains keys key ≡ false = at (set.contains keys key) (sym was ∙ one) in
    ap (λ l. l ++ unhidden more rest) (map-append method_view left (method ∷ []))
    ∙ push (all_methods left) (method_view method) (unhidden more rest)
    ∙ ap (λ k. all_methods left ++ method_view method ∷ unhidden k rest) (grown ∙ ap (λ k. set.insert keys k) is)
    ∙ sym (ap (λ l. all_methods left ++ l) (hides-at keys (method_view method) rest false (ap (λ k. set.contains keys k) (sym is) ∙ new)))
  where
    at : (b : Bool) → not b ≡ true → b ≡ false
    at true h = sym h
    at false h = refl

-- the next method, where they lie in reverse
pub next-turn : (rest more : List Method) (method : Method) → rest ≡ more ++ method ∷ [] → all_methods (reverse rest) ≡ method_view method ∷ all_methods (reverse more)
next-turn rest more method is = ap (λ l. all_methods (reverse l)) is ∙ ap (λ l. all_methods l) (reverse-append more (method ∷ []))

pub ruleset hiding_turns = (hidden-turn, shown-turn)

-- The methods of one type more.
pub found-turn : (class : Name) (name : List ℕ) (found : List FoundMethod) (types : List Ty) (i : ℕ) (ty : Ty) → i < length types → ty ≡ get_or types i ty
    → found_in class name found (type_list (drop i types)) ≡ bind (methods_in class name (java_type ty)) (λ more. found_in class name (found ++ more) (type_list (drop (i + 1) types)))
found-turn class name found types i ty below is = ap (λ (l : List Ty). found_in class name found (type_list l)) (left_at types i ty below is)

-- The methods of one class more.
pub given-turn : (name : List ℕ) (found : List FoundMethod) (classes : List Supertype) (i : ℕ) (class : Supertype) → i < length classes → class ≡ get_or classes i class
    → given_in name found (all_supertypes (drop i classes)) ≡ bind (methods_on_list name (supertype_view class)) (λ more. given_in name (found ++ more) (all_supertypes (drop (i + 1) classes)))
given-turn name found classes i class below is = ap (λ (l : List Supertype). given_in name found (all_supertypes l)) (left_at classes i class below is)

-- Methods of a receiver, hidden as they are declared.

hides-as : (keys : NameSet) (declared given : FoundMethod) (others rest : List FoundMethod) (b : Bool) → set.contains keys (key_of declared) ≡ b
    → unhidden_as keys (declared ∷ others) (given ∷ rest) ≡ (if b then unhidden_as keys others rest else given ∷ unhidden_as (set.insert keys (key_of declared)) others rest)
hides-as keys declared given others rest b is = ap (λ b. if b then unhidden_as keys others rest else given ∷ unhidden_as (set.insert keys (key_of declared)) others rest) is

-- one that is hidden
pub hidden-as : (keys more : NameSet) (left : List FoundMethod) (declared given : FoundMethod) (others rest : List FoundMethod) (key : List ℕ) (added : Bool)
    → key ≡ key_of declared → added ≡ not (set.contains keys key) → added ≡ false → more ≡ set.insert keys key
    → left ++ unhidden_as more others rest ≡ left ++ unhidden_as keys (declared ∷ others) (given ∷ rest)
hidden-as keys more left declared given others rest key added is was none grown =
    let there : set.contains keys key ≡ true = at (set.contains keys key) (sym was ∙ none) in
    ap (λ k. left ++ unhidden_as k others rest) (grown ∙ sym (insert-there keys key (sym there)))
    ∙ sym (ap (λ l. left ++ l) (hides-as keys declared given others rest true (ap (λ k. set.contains keys k) (sym is) ∙ there)))
  where
    at : (b : Bool) → not b ≡ false → b ≡ true
    at true h = refl
    at false h = sym h

-- one that is not
pub shown-as : (keys more : NameSet) (left : List Method) (declared : FoundMethod) (method : Method) (others rest : List FoundMethod) (key : List ℕ) (added : Bool)
    → key ≡ key_of declared → added ≡ not (set.contains keys key) → added ≡ true → more ≡ set.insert keys key
    → all_methods (left ++ method ∷ []) ++ unhidden_as more others rest ≡ all_methods left ++ unhidden_as keys (declared ∷ others) (method_view method ∷ rest)
shown-as keys more left declared method others rest key added is was one grown =
    let new : set.contains keys key ≡ false = at (set.contains keys key) (sym was ∙ one) in
    ap (λ l. l ++ unhidden_as more others rest) (map-append method_view left (method ∷ []))
    ∙ push (all_methods left) (method_view method) (unhidden_as more others rest)
    ∙ ap (λ k. all_methods left ++ method_view method ∷ unhidden_as k others rest) (grown ∙ ap (λ k. set.insert keys k) is)
    ∙ sym (ap (λ l. all_methods left ++ l) (hides-as keys declared (method_view method) others rest false (ap (λ k. set.contains keys k) (sym is) ∙ new)))
  where
    at : (b : Bool) → not b ≡ true → b ≡ false
    at true h = sym h
    at false h = refl

pub ruleset receiver_turns = (hidden-as, shown-as)
