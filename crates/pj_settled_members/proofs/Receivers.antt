-- Members of a receiver come to something in a world that finds finitely many classes.
use Rattle.std.specs.Prelude.{ℕ, List, [], ◌∷◌, ◌++◌, Option}
use Rattle.std.specs.FinSet as set
use Rattle.pj_names.specs.Asking.{Asking, look_up}
use Rattle.pj_names.specs.ClassName.{Name}
use Rattle.pj_names.specs.JavaType.{Arguments}
use Rattle.pj_types.specs.Members.{FoundMethod}
use Rattle.pj_types.specs.Supertypes.{Listed, direct, name_of}
use Rattle.pj_members.specs.InClass.{field_of_known, methods_of_known}
use Rattle.pj_members.specs.Methods.{is_constructor}
use Rattle.pj_members.specs.Receivers.{along_receiver, classes_for, declared_methods, field_of_receiver, field_on_list, given_in, given_methods, given_of_receiver, head_of, hit_of, list_from, methods_of_receiver, methods_on_list, no_hit, search_from, second_of, supertype_of_receiver, supertype_test, unhidden_as}
use Rattle.pj_settling.specs.Settling.{FindsFinitely, Settles, World}
use Rattle.pj_settling.proofs.Searches.{direct_leads}
use Rattle.pj_settling.proofs.Settled.{after, by_test, given, looked_up, made_by}
use Rattle.pj_settling.proofs.Visits.{visit_settles}
use Rattle.pj_settled_members.proofs.Members.{found_in_settle, searched_settles}

module _ {world : World} where
  field_on_list_settles : (name : List ℕ) (class : Listed) → Settles world (field_on_list name class)
  unfolding field_on_list
  field_on_list_settles name class = made_by {m = look_up class.name} (λ known. field_of_known class.name class.arguments name known) (looked_up class.name)

  supertype_test_settles : (wanted : Name) (class : Listed) → Settles world (supertype_test wanted class)
  unfolding supertype_test
  supertype_test_settles wanted class = given _

  methods_on_list_settle : (name : List ℕ) (class : Listed) → Settles world (methods_on_list name class)
  unfolding methods_on_list
  methods_on_list_settle name class = made_by {m = look_up class.name} (λ known. methods_of_known class.name class.arguments name known) (looked_up class.name)

  given_in_settle : (name : List ℕ) (found : List FoundMethod) (classes : List Listed) → Settles world (given_in name found classes)
  given_in_settle name found [] = given _
  given_in_settle name found (class ∷ classes) = after (methods_on_list_settle name class) (λ more. given_in_settle name (found ++ more) classes)

module _ {world : World} (finite : FindsFinitely world) where
  pub search_from_settles : {B : Type 0} {test : Listed → Asking (Option B)} → ((class : Listed) → Settles world (test class)) → (head : Listed) → Settles world (search_from test head)
  search_from_settles {test = test} tests head = visit_settles world name_of test direct finite.among tests (direct_leads finite) head

  along_receiver_settles : {B : Type 0} {test : Listed → Asking (Option B)} → ((class : Listed) → Settles world (test class)) → (class : Name) (arguments : Arguments) → Settles world (along_receiver test class arguments)
  along_receiver_settles {test = test} tests class arguments =
      after (looked_up class) (λ known. made_by {m = search_from test (head_of class arguments known)} hit_of (search_from_settles {test = test} tests (head_of class arguments known)))

  pub field_of_receiver_settles : (class : Name) (arguments : Arguments) (name : List ℕ) → Settles world (field_of_receiver class arguments name)
  field_of_receiver_settles class arguments name = along_receiver_settles {test = field_on_list name} (field_on_list_settles name) class arguments

  pub supertype_of_receiver_settles : (class : Name) (arguments : Arguments) (wanted : Name) → Settles world (supertype_of_receiver class arguments wanted)
  supertype_of_receiver_settles class arguments wanted = along_receiver_settles {test = supertype_test wanted} (supertype_test_settles wanted) class arguments

  list_from_settles : (head : Listed) → Settles world (list_from head)
  list_from_settles head = made_by {m = search_from no_hit head} second_of (search_from_settles {test = no_hit} (λ class. given _) head)

  classes_for_settle : (name : List ℕ) (head : Listed) → Settles world (classes_for name head)
  classes_for_settle name head = by_test (is_constructor name) (given _) (list_from_settles head)

  given_methods_settle : (name : List ℕ) (head : Listed) → Settles world (given_methods name head)
  given_methods_settle name head = after (classes_for_settle name head) (λ classes. given_in_settle name [] classes)

  declared_methods_settle : (class : Name) (name : List ℕ) → Settles world (declared_methods class name)
  declared_methods_settle class name = after (searched_settles finite class name) (λ types. found_in_settle class name [] types)

  given_of_receiver_settle : (class : Name) (arguments : Arguments) (name : List ℕ) → Settles world (given_of_receiver class arguments name)
  given_of_receiver_settle class arguments name = after (looked_up class) (λ known. given_methods_settle name (head_of class arguments known))

  pub methods_of_receiver_settle : (class : Name) (arguments : Arguments) (name : List ℕ) → Settles world (methods_of_receiver class arguments name)
  methods_of_receiver_settle class arguments name =
      after (declared_methods_settle class name) (λ declared. made_by (unhidden_as set.empty declared) (given_of_receiver_settle class arguments name))
