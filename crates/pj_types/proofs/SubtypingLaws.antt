-- Subtyping of classes is by their lists of supertypes, and each type is under itself.
use Rattle.std.specs.Prelude.{◌≡◌, ℕ, zero, suc, ◌<◌, Bool, true, false, ◌||◌, if◌then◌else◌, List, [], ◌∷◌, ◌++◌, map, Option, Some, None, nat_eq, refl}
use Rattle.std.specs.Cmp.Lexicographic.{pointwise, nat_list_eq_equiv}
use Rattle.std.proofs.Common.{sym, ◌∙◌, ap, arith}
use Rattle.std.proofs.lemmas.List.{map-append}
use Rattle.pj_names.specs.declared.answer.Answer.{Answer}
use Rattle.pj_names.specs.declared.ty.PrimitiveType.{PrimitiveType}
use Rattle.pj_names.specs.declared.ty.PrimitiveType.TheVariants.{Boolean, Byte, Short, Int, Long, Char, Float, Double}
use Rattle.pj_names.specs.ClassName.{Name}
use Rattle.pj_names.specs.JavaType.{JavaType, Primitive, Void, Null, Class, Array, Variable, Unknown, Arguments}
use Rattle.pj_names.specs.Asking.{Asking, Return, bind, walk, value_of, has_name, unvisited, hit_or}
use Rattle.pj_names.specs.Asking as asking
use Rattle.pj_names.proofs.MeaningLaws.{value_of-bind}
use Rattle.pj_types.specs.Substitution.{erased}
use Rattle.pj_types.specs.Supertypes.{Listed, first_listed, name_of, on_listed, direct, search_within, no_hit, supertypes_within, supertype_list, class_name, begin}
use Rattle.pj_types.specs.Subtyping.{is_named, is_hit, is_on_list, is_class_under, is_null, is_primitive, is_primitive_under, is_under, is_unknown, is_void, as_member, erased_under}
use Rattle.pj_types.proofs.WalkLaws.{onward, as_types, search-onward}
use Rattle.pj_types.proofs.ListingLaws.{names-given}

module _ (d : ℕ) (w : Name → Answer) where
  -- the classes that a walk without hits gives
  abbrev list_of : ℕ → List Listed → List Listed → List Listed
  list_of n found xs = (value_of d w (walk name_of (on_listed no_hit) direct n found xs)).1

  abbrev list_on : ℕ → List Listed → List Listed → List Listed
  list_on n found xs = (value_of d w (asking.visit name_of (on_listed no_hit) direct (λ more_found still. walk name_of (on_listed no_hit) direct n more_found still) found xs)).1

  -- whether a walk finds a class
  abbrev finds : Name → ℕ → List Listed → List Listed → Bool
  finds upper n found xs = is_hit (value_of d w (walk name_of (on_listed (is_named upper)) direct n found xs)).0

  abbrev finds_on : Name → ℕ → List Listed → List Listed → Bool
  finds_on upper n found xs = is_hit (value_of d w (asking.visit name_of (on_listed (is_named upper)) direct (λ more_found still. walk name_of (on_listed (is_named upper)) direct n more_found still) found xs)).0

  or_false : (a : Bool) → a ≡ (a || false)
  or_false true = refl
  or_false false = refl

  or_true : (a : Bool) → true ≡ (a || true)
  or_true true = refl
  or_true false = refl

  or_assoc : (a b c : Bool) → ((a || b) || c) ≡ (a || (b || c))
  or_assoc true b c = refl
  or_assoc false b c = refl

  has_last : (names : List Name) (name upper : Name) → has_name (names ++ name ∷ []) upper ≡ (has_name names upper || pointwise nat_eq name upper)
  has_last [] name upper = sym (or_false (pointwise nat_eq name upper))
  has_last (x ∷ xs) name upper = ap (λ b. pointwise nat_eq x upper || b) (has_last xs name upper) ∙ sym (or_assoc (pointwise nat_eq x upper) (has_name xs upper) (pointwise nat_eq name upper))

  -- the names of the list are those found before, and a walk finds those that are new
  on-list : (upper : Name) (n : ℕ) (found xs : List Listed) → has_name (map name_of (list_of n found xs)) upper ≡ (has_name (map name_of found) upper || finds upper n found xs)
  on-list upper zero found xs = or_false (has_name (map name_of found) upper)
  on-list upper (suc n) found xs =
      elim (unvisited name_of (has_name (map name_of found)) xs) as (λ u. has_name (map name_of (list_on n found u)) upper ≡ (has_name (map name_of found) upper || finds_on upper n found u)) [
        | [] ↦ or_false (has_name (map name_of found) upper)
        | x ∷ rest ↦ at x rest (λ more. on-list upper n (found ++ x ∷ []) (more ++ rest)) (pointwise nat_eq x.name upper) refl
      ]
    where
      list_is : (x : Listed) (rest : List Listed) → list_on n found (x ∷ rest) ≡ list_of n (found ++ x ∷ []) (value_of d w (direct x) ++ rest)
      list_is x rest = ap (λ (o : Option (Unit {0}) × List Listed). o.1) (value_of-bind d w (direct x) (λ more. walk name_of (on_listed no_hit) direct n (found ++ x ∷ []) (more ++ rest)))

      found_is : (x : Listed) (rest : List Listed) (b : Bool)
          → is_hit (value_of d w (hit_or name_of (on_listed (is_named upper)) direct (let hit : Option (Unit {0}) = (if b then Some tt else None) in hit) (found ++ x ∷ [])
          (bind (direct x) (λ more. walk name_of (on_listed (is_named upper)) direct n (found ++ x ∷ []) (more ++ rest))))).0
          ≡ (if b then true else finds upper n (found ++ x ∷ []) (value_of d w (direct x) ++ rest))
      found_is x rest true = refl
      found_is x rest false = ap (λ (o : Option (Unit {0}) × List Listed). is_hit o.0) (value_of-bind d w (direct x) (λ more. walk name_of (on_listed (is_named upper)) direct n (found ++ x ∷ []) (more ++ rest)))

      join : (a b c : Bool) → ((a || b) || c) ≡ (a || (if b then true else c))
      join true b c = refl
      join false true c = refl
      join false false c = refl

      at : (x : Listed) (rest : List Listed)
          → ((more : List Listed) → has_name (map name_of (list_of n (found ++ x ∷ []) (more ++ rest))) upper ≡ (has_name (map name_of (found ++ x ∷ [])) upper || finds upper n (found ++ x ∷ []) (more ++ rest)))
          → (b : Bool) → pointwise nat_eq x.name upper ≡ b → has_name (map name_of (list_on n found (x ∷ rest))) upper ≡ (has_name (map name_of found) upper || finds_on upper n found (x ∷ rest))
      at x rest further b is =
          ap (λ l. has_name (map name_of l) upper) (list_is x rest)
          ∙ further (value_of d w (direct x))
          ∙ ap (λ b. b || finds upper n (found ++ x ∷ []) (value_of d w (direct x) ++ rest)) (ap (λ l. has_name l upper) (map-append name_of found (x ∷ [])) ∙ has_last (map name_of found) x.name upper)
          ∙ join (has_name (map name_of found) upper) (pointwise nat_eq x.name upper) (finds upper n (found ++ x ∷ []) (value_of d w (direct x) ++ rest))
          ∙ ap (λ b. has_name (map name_of found) upper || b) (sym (found_is x rest (pointwise nat_eq x.name upper)))

  names_value : (most : ℕ) (name : Name) → map class_name (value_of d w (supertypes_within most name)) ≡ map name_of (list_of most [] (first_listed name ∷ []))
  unfolding onward
  names_value most name =
      ap (λ l. map class_name l) (value_of-bind d w (search_within most no_hit name) (λ outcome. Return outcome.1)
      ∙ ap (λ (m : Asking (Option (Unit {0}) × List JavaType)). (value_of d w m).1) (search-onward most no_hit name)
      ∙ ap (λ (o : Option (Unit {0}) × List JavaType). o.1) (value_of-bind d w (onward no_hit most (begin name)) (λ o. Return (as_types o))))
      ∙ names-given (list_of most [] (first_listed name ∷ []))

  on-list-value : (lower upper : Name) → value_of d w (is_on_list lower upper) ≡ finds upper d [] (first_listed lower ∷ [])
  unfolding is_on_list onward
  on-list-value lower upper =
      value_of-bind d w (search_within d (is_named upper) lower) (λ outcome. Return (is_hit outcome.0))
      ∙ ap (λ (m : Asking (Option (Unit {0}) × List JavaType)). is_hit (value_of d w m).0) (search-onward d (is_named upper) lower)
      ∙ ap (λ (o : Option (Unit {0}) × List JavaType). is_hit o.0) (value_of-bind d w (onward (is_named upper) d (begin lower)) (λ o. Return (as_types o)))

  first_found : (most : ℕ) (lower upper : Name) → 0 < most → pointwise nat_eq lower upper ≡ true → finds upper most [] (first_listed lower ∷ []) ≡ true
  first_found zero lower upper some same = absurd (omega arith)
  first_found (suc most) lower upper some same =
      ap (λ b. is_hit (value_of d w (hit_or name_of (on_listed (is_named upper)) direct (let hit : Option (Unit {0}) = (if b then Some tt else None) in hit) (first_listed lower ∷ [])
      (bind (direct (first_listed lower)) (λ more. walk name_of (on_listed (is_named upper)) direct most (first_listed lower ∷ []) (more ++ []))))).0) same

  -- A class is under just those classes that are on its list.
  class-by-list : (lower upper : Name) → 0 < d → value_of d w (is_class_under lower upper) ≡ has_name (map class_name (value_of d w (supertype_list lower))) upper
  unfolding is_class_under
  class-by-list lower upper some =
      at (pointwise nat_eq lower upper) refl
      ∙ sym (on-list upper d [] (first_listed lower ∷ []))
      ∙ ap (λ l. has_name l upper) (sym (names_value d lower))
    where
      at : (b : Bool) → pointwise nat_eq lower upper ≡ b → value_of d w (if b then Return true else is_on_list lower upper) ≡ finds upper d [] (first_listed lower ∷ [])
      at true same = sym (first_found d lower upper some same)
      at false other = on-list-value lower upper

  pub classes-by-list : (lower upper : Name) (arguments others : Arguments) → 0 < d
      → value_of d w (is_under (Class lower arguments) (Class upper others)) ≡ has_name (map class_name (value_of d w (supertype_list lower))) upper
  unfolding erased_under
  classes-by-list lower upper arguments others some = class-by-list lower upper some

  -- Each type is under itself.

  same_primitive : (prim : PrimitiveType) → is_primitive_under prim prim ≡ true
  same_primitive Boolean = refl
  same_primitive Byte = refl
  same_primitive Short = refl
  same_primitive Int = refl
  same_primitive Long = refl
  same_primitive Char = refl
  same_primitive Float = refl
  same_primitive Double = refl

  one_primitive : (prim : PrimitiveType) → is_primitive prim (Primitive prim) ≡ true
  one_primitive Boolean = refl
  one_primitive Byte = refl
  one_primitive Short = refl
  one_primitive Int = refl
  one_primitive Long = refl
  one_primitive Char = refl
  one_primitive Float = refl
  one_primitive Double = refl

  class_same : (name : Name) → value_of d w (is_class_under name name) ≡ true
  unfolding is_class_under
  class_same name = ap (λ b. value_of d w (if b then Return true else is_on_list name name)) (nat_list_eq_equiv.refl name)

  member_same : (ty : JavaType) → value_of d w (erased_under ty ty) ≡ true → value_of d w (as_member ty (erased_under ty) ty) ≡ true
  member_same (Primitive prim) same = one_primitive prim
  member_same Void same = same
  member_same Null same = same
  member_same (Class name arguments) same = same
  member_same (Array member) same = same
  member_same (Variable name bound) same = same
  member_same Unknown same = same

  pub under-itself : (ty : JavaType) → value_of d w (erased_under (erased ty) (erased ty)) ≡ true
  unfolding erased_under
  under-itself (Primitive prim) = same_primitive prim
  under-itself Void = refl
  under-itself Null = refl
  under-itself (Class name arguments) = class_same name
  under-itself (Array member) = member_same (erased member) (under-itself member)
  under-itself (Variable name bound) = under-itself bound
  under-itself Unknown = refl

  -- The type of `null`, `void` and the type that is not known are above themselves alone.

  pub under-null : (ty : JavaType) → value_of d w (erased_under ty Null) ≡ is_null ty
  unfolding erased_under
  under-null (Primitive prim) = refl
  under-null Void = refl
  under-null Null = refl
  under-null (Class name arguments) = refl
  under-null (Array member) = refl
  under-null (Variable name bound) = refl
  under-null Unknown = refl

  pub under-void : (ty : JavaType) → value_of d w (erased_under ty Void) ≡ is_void ty
  unfolding erased_under
  under-void (Primitive prim) = refl
  under-void Void = refl
  under-void Null = refl
  under-void (Class name arguments) = refl
  under-void (Array member) = refl
  under-void (Variable name bound) = refl
  under-void Unknown = refl

  pub under-unknown : (ty : JavaType) → value_of d w (erased_under ty Unknown) ≡ is_unknown ty
  unfolding erased_under
  under-unknown (Primitive prim) = refl
  under-unknown Void = refl
  under-unknown Null = refl
  under-unknown (Class name arguments) = refl
  under-unknown (Array member) = refl
  under-unknown (Variable name bound) = refl
  under-unknown Unknown = refl
