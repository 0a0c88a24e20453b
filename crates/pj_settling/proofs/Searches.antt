-- Searches along supertypes come to something in a world that finds finitely many classes, and so do lists of supertypes and subtyping.
use Rattle.std.specs.Prelude.{◌≡◌, List, Bool, true, false, if◌then◌else◌, [], ◌∷◌, map, Option, Some, None, nat_eq, refl}
use Rattle.std.proofs.Common.{ap}
use Rattle.std.specs.Cmp.Lexicographic.{pointwise}
use Rattle.pj_names.specs.declared.answer.Answer.{Answer}
use Rattle.pj_names.specs.declared.answer.Answer.TheVariants.{Found, Absent, Broken}
use Rattle.pj_names.specs.Asking.{Asking, Return, ask, bind, has_name, look_up}
use Rattle.pj_names.specs.ClassName.{Name, is_object}
use Rattle.pj_names.specs.JavaType.{JavaType, Primitive, Void, Null, Class, Array, Variable, Unknown, Arguments}
use Rattle.pj_types.specs.Along.{first_along}
use Rattle.pj_types.specs.Listing.{known_in}
use Rattle.pj_types.specs.NameSearch.{direct_names, itself, name_search, names_of_known}
use Rattle.pj_types.specs.Substitution.{erased}
use Rattle.pj_types.specs.Subtyping.{array_under, as_member, class_under, erased_under, is_class_under, is_hit, is_named, is_on_list, is_under}
use Rattle.pj_types.specs.Supertypes.{Listed, class_name, direct, first_listed, given_type, name_of, no_hit, of_known, on_listed, search, search_within, supertype_list, supertypes_of}
use Rattle.pj_settling.specs.Settling.{FindsFinitely, Settles, World, is_found}
use Rattle.pj_settling.proofs.Comes.{Comes, always, comes_bind, comes_return}
use Rattle.pj_settling.proofs.Visits.{Leads, visit_settles, visit_then_settles}
use Rattle.pj_settling.proofs.Settled.{by_test, given, made_by}

-- a class that was not found has no supertypes
none_of_answer : (arguments : Option Arguments) (answer : Answer) → is_found answer ≡ false → of_known arguments (Some answer) ≡ []
none_of_answer arguments (Found class) h = absurd (cc h)
none_of_answer arguments Absent h = refl
none_of_answer arguments (Broken broken) h = refl

module _ (world : World) where
  none_of_known : (arguments : Option Arguments) (name : Name) → is_found (world name) ≡ false → of_known arguments (known_in world name) ≡ []
  none_of_known arguments name h = at (is_object name)
    where
      at : (b : Bool) → of_known arguments (if b then None else Some (world name)) ≡ []
      at true = refl
      at false = none_of_answer arguments (world name) h

  look_up_comes : (name : Name) → Comes world (always (look_up name)) (known_in world name)
  look_up_comes name = at (is_object name)
    where
      at : (b : Bool) → Comes world (always (if b then Return None else bind (ask name) (λ answer. Return (Some answer)))) (if b then None else Some (world name))
      at true = comes_return world None
      at false = record { names = name ∷ []; least = 0; is = λ depth most deep a b c. (refl, refl) }

module _ {world : World} (finite : FindsFinitely world) where
  pub direct_leads : (class : Listed) → Leads world (direct class) (has_name finite.among class.name)
  unfolding direct
  direct_leads class = record {
    list = of_known class.arguments (known_in world class.name);
    comes = comes_bind world (always (look_up class.name)) (λ most deep known. Return (of_known class.arguments known)) (known_in world class.name) (of_known class.arguments (known_in world class.name))
        (look_up_comes world class.name) (comes_return world (of_known class.arguments (known_in world class.name)));
    none = λ other. none_of_known world class.arguments class.name (finite.no_others class.name other);
  }

  direct_names_lead : (name : Name) → Leads world (direct_names name) (has_name finite.among name)
  direct_names_lead name = record {
    list = names_of_known (known_in world name);
    comes = comes_bind world (always (look_up name)) (λ most deep known. Return (names_of_known known)) (known_in world name) (names_of_known (known_in world name))
        (look_up_comes world name) (comes_return world (names_of_known (known_in world name)));
    none = λ other. ap (λ l. map name_of l) (none_of_known world None name (finite.no_others name other));
  }

  -- ---- searches

  pub name_search_settles : {B : Type 0} {test : Name → Asking (Option B)} → ((name : Name) → Settles world (test name)) → (name : Name) → Settles world (name_search test name)
  name_search_settles {test = test} tests name = visit_settles world itself test direct_names finite.among tests direct_names_lead name

  pub search_settles : {B : Type 0} {test : JavaType → Asking (Option B)} → ((ty : JavaType) → Settles world (test ty)) → (name : Name) → Settles world (search test name)
  unfolding search_within
  search_settles {B = B} {test = test} tests name =
      visit_then_settles world name_of (on_listed test) direct finite.among (λ class. tests (given_type class)) direct_leads
      {C = Option B × List JavaType} (λ outcome. Return (outcome.0, map given_type outcome.1)) (λ outcome. given _) (first_listed name)

  pub first_along_settles : {B : Type 0} {test : JavaType → Asking (Option B)} → ((ty : JavaType) → Settles world (test ty)) → (name : Name) → Settles world (first_along test name)
  first_along_settles {test = test} tests name = made_by {m = search test name} (λ outcome. outcome.0) (search_settles {test = test} tests name)

  pub supertype_list_settles : (name : Name) → Settles world (supertype_list name)
  supertype_list_settles name = made_by {m = search no_hit name} (λ outcome. outcome.1) (search_settles {test = no_hit} (λ ty. given None) name)

  pub supertypes_settle : (name : Name) → Settles world (supertypes_of name)
  supertypes_settle name = made_by {m = supertype_list name} (λ types. map class_name types) (supertype_list_settles name)

  -- ---- subtyping

  on_list_settles : (lower upper : Name) → Settles world (is_on_list lower upper)
  unfolding is_on_list
  on_list_settles lower upper = made_by {m = search (is_named upper) lower} (λ outcome. is_hit outcome.0) (search_settles {test = is_named upper} (λ ty. given _) lower)

  pub class_under_settles : (lower upper : Name) → Settles world (is_class_under lower upper)
  unfolding is_class_under
  class_under_settles lower upper = by_test (pointwise nat_eq lower upper) {m = Return true} {n = is_on_list lower upper} (given true) (on_list_settles lower upper)

  class_settles : (lower : Name) (upper : JavaType) → Settles world (class_under lower upper)
  class_settles lower (Primitive prim) = given false
  class_settles lower Void = given false
  class_settles lower Null = given false
  class_settles lower (Class upper arguments) = class_under_settles lower upper
  class_settles lower (Array member) = given false
  class_settles lower (Variable name bound) = given false
  class_settles lower Unknown = given false

  array_settles : (member_under : JavaType → Asking Bool) → ((upper : JavaType) → Settles world (member_under upper)) → (upper : JavaType) → Settles world (array_under member_under upper)
  array_settles member_under h (Primitive prim) = given _
  array_settles member_under h Void = given _
  array_settles member_under h Null = given _
  array_settles member_under h (Class upper arguments) = given _
  array_settles member_under h (Array member) = h member
  array_settles member_under h (Variable name bound) = given _
  array_settles member_under h Unknown = given _

  member_settles : (member : JavaType) (under : JavaType → Asking Bool) → ((upper : JavaType) → Settles world (under upper)) → (upper : JavaType) → Settles world (as_member member under upper)
  member_settles (Primitive prim) under h upper = given _
  member_settles Void under h upper = h upper
  member_settles Null under h upper = h upper
  member_settles (Class name arguments) under h upper = h upper
  member_settles (Array member) under h upper = h upper
  member_settles (Variable name bound) under h upper = h upper
  member_settles Unknown under h upper = h upper

  erased_under_settles : (lower upper : JavaType) → Settles world (erased_under lower upper)
  unfolding erased_under
  erased_under_settles (Primitive prim) upper = given _
  erased_under_settles Void upper = given _
  erased_under_settles Null upper = given _
  erased_under_settles (Class name arguments) upper = class_settles name upper
  erased_under_settles (Array member) upper = array_settles (as_member member (erased_under member)) (λ other. member_settles member (erased_under member) (λ more. erased_under_settles member more) other) upper
  erased_under_settles (Variable name bound) upper = given _
  erased_under_settles Unknown upper = given _

  pub under_settles : (lower upper : JavaType) → Settles world (is_under lower upper)
  under_settles lower upper = erased_under_settles (erased lower) (erased upper)
