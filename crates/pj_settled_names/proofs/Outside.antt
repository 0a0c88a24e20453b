-- The classes of dotted names and of imports, and member classes along supertypes, come to something.
use Rattle.std.specs.Prelude.{◌≡◌, ℕ, Bool, false, if◌then◌else◌, not, List, [], ◌∷◌, ◌++◌, Option, None, Some, unwrap_or, codes, refl}
use Rattle.pj_names.specs.declared.answer.Answer.{Answer}
use Rattle.pj_names.specs.declared.answer.Answer.TheVariants.{Found, Absent, Broken}
use Rattle.pj_names.specs.Asking.{Asking, Return, ask, has_name}
use Rattle.pj_names.specs.ClassName.{Name, is_class_name}
use Rattle.pj_names.specs.JavaType.{JavaType}
use Rattle.pj_tree.specs.Tree.{Tree}
use Rattle.pj_tree.specs.declared.node.Node.{Node}
use Rattle.pj_types.specs.NameSearch.{itself}
use Rattle.pj_types.specs.Supertypes.{of_answer}
use Rattle.pj_symbols.specs.declared.class.Class.{Class as DeclaredClass}
use Rattle.pj_declared.specs.declared.imports.ImportSort.TheVariants.{OfType, Static}
use Rattle.pj_declared.specs.Nearest.{single_import}
use Rattle.pj_outer_names.specs.Candidates.{as_type, asked_class, candidates, dotted_class, first_candidate, found_class, is_known, there}
use Rattle.pj_outer_names.specs.Imports.{by_import, imported, imported_or, imported_text, imports_on_demand, in_package, in_package_or, name_in_package, on_demand, one_among, outside}
use Rattle.pj_outer_names.specs.Inherited.{first_member, listed_names, member_in, outside_supertypes}
use Rattle.pj_settling.specs.Settling.{Settles, World, is_found}
use Rattle.pj_settling.proofs.Settled.{after, asked, by_test, first_of, for_each, given, made_by}
use Rattle.pj_settling.proofs.Visits.{Leads, visit_then_settles}

module _ {world : World} (classes : List DeclaredClass) where
  asked_class_settles : (name : Name) → Settles world (asked_class name)
  asked_class_settles name = made_by {m = ask name} (there name) (asked name)

  pub found_class_settles : (text : List ℕ) → Settles world (found_class classes text)
  found_class_settles text = by_test (not (is_class_name text)) (given None) (by_test (is_known classes text) (given (Some text)) (asked_class_settles text))

  first_candidate_settles : (text : List ℕ) → Settles world (first_candidate classes text)
  first_candidate_settles text = first_of {m = found_class classes} found_class_settles (candidates text)

  pub dotted_class_settles : (text : List ℕ) → Settles world (dotted_class classes text)
  dotted_class_settles text =
      by_test (is_class_name text) (made_by {m = first_candidate classes text} (λ found. Some (unwrap_or found text)) (first_candidate_settles text)) (given None)

  -- ---- behind the scopes of the file

  module _ (t : Tree) where
    imported_settles : (import : Node) → Settles world (imported t classes import)
    imported_settles import = made_by {m = dotted_class classes (imported_text t import)} as_type (dotted_class_settles (imported_text t import))

    on_demand_settles : (simple : List ℕ) → Settles world (on_demand t classes simple)
    on_demand_settles simple =
        after (for_each {m = by_import t classes simple} (λ import. first_candidate_settles (imported_text t import ++ simple)) (imports_on_demand t))
        (λ hits. made_by {m = first_candidate classes (codes "java.lang." ++ simple)} (λ last. one_among (hits ++ last ∷ [])) (first_candidate_settles (codes "java.lang." ++ simple)))

    in_package_or_settles : (simple : List ℕ) (found : Option Name) → Settles world (in_package_or t classes simple found)
    in_package_or_settles simple None = on_demand_settles simple
    in_package_or_settles simple (Some name) = given _

    in_package_settles : (simple : List ℕ) → Settles world (in_package t classes simple)
    in_package_settles simple = after (found_class_settles (name_in_package t simple)) (in_package_or_settles simple)

    imported_or_settles : (import : Option Node) {rest : Asking JavaType} → Settles world rest → Settles world (imported_or t classes import rest)
    imported_or_settles None h = h
    imported_or_settles (Some import) h = imported_settles import

    pub outside_settles : (simple : List ℕ) → Settles world (outside t classes simple)
    outside_settles simple = imported_or_settles (single_import t OfType simple) (imported_or_settles (single_import t Static simple) (in_package_settles simple))

  -- ---- member classes along supertypes, where direct supertypes come to something, and to none but of finitely many classes

  pub member_in_settles : (is_left_out : Name → Bool) (simple : List ℕ) (class : Name) → Settles world (member_in classes is_left_out simple class)
  member_in_settles is_left_out simple class = by_test _ (given None) (found_class_settles (class ++ 36 ∷ simple))

  pub first_member_settles : (supers : Name → Asking (List Name)) (among : List Name) → ((name : Name) → Leads world (supers name) (has_name among name)) → (is_left_out : Name → Bool) (class : Name) (simple : List ℕ)
      → Settles world (first_member classes supers is_left_out class simple)
  first_member_settles supers among leads is_left_out class simple =
      visit_then_settles world itself (member_in classes is_left_out simple) supers among (member_in_settles is_left_out simple) leads (λ outcome. Return outcome.0) (λ outcome. given _) class

-- ---- the direct supertypes of a class outside the file

none_of_answer : (answer : Answer) → is_found answer ≡ false → listed_names (of_answer None answer) ≡ []
none_of_answer (Found class) h = absurd (cc h)
none_of_answer Absent h = refl
none_of_answer (Broken broken) h = refl

pub outside_leads : (world : World) (name : Name) (may : Bool) → (may ≡ false → is_found (world name) ≡ false) → Leads world (outside_supertypes name) may
outside_leads world name may unfound = record {
  list = listed_names (of_answer None (world name));
  comes = record { names = name ∷ []; least = 0; is = λ depth most deep a b c. (refl, refl) };
  none = λ other. none_of_answer (world name) (unfound other);
}
