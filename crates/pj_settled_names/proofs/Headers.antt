-- What names of types mean comes to something in a world that finds finitely many classes, and so do the supertypes of the classes of a file.
use Rattle.std.specs.Prelude.{◌≡◌, ℕ, zero, suc, Bool, true, false, ◌||◌, if◌then◌else◌, List, [], ◌∷◌, ◌++◌, map, cond, Option, None, Some, nat_eq, refl}
use Rattle.std.proofs.Common.{sym, ◌∙◌}
use Rattle.std.specs.Cmp.Lexicographic.{pointwise}
use Rattle.std.specs.Option.{option_map}
use Rattle.pj_names.specs.Asking.{Asking, Return, has_name}
use Rattle.pj_names.specs.ClassName.{Name, is_class_name, is_object}
use Rattle.pj_names.specs.JavaType.{JavaType, Variable}
use Rattle.pj_tree.specs.Tree.{Tree}
use Rattle.pj_tree.specs.declared.node.Node.{Node}
use Rattle.pj_symbols.specs.declared.class.Class.{Class as DeclaredClass}
use Rattle.pj_declared.specs.Nearest.{type_meant}
use Rattle.pj_declared.specs.Rows.{names_type_parameter}
use Rattle.pj_declared.specs.declared.nearest.Declared.{Declared}
use Rattle.pj_written.specs.Headers.{all_bounds, bounds_of, class_text, implied_supertypes, written_supertypes}
use Rattle.pj_written.specs.Words.{same_text}
use Rattle.pj_written.specs.Written.{name_of_text}
use Rattle.pj_outer_names.specs.Around.{searched}
use Rattle.pj_outer_names.specs.Candidates.{class_named, file_classes, node_named}
use Rattle.pj_outer_names.specs.Inherited.{class_names, member_along}
use Rattle.pj_type_names.specs.TypeName.{bound_type, bound_within, declared_or, declared_type, direct, enough, found_or, header_names, header_supertypes, header_types, hit_or, inherited, is_busy, member, member_found, name_meant, simple_name, supertypes_by, supers_of, text_in, type_in, type_name, variable, written_bound, written_type}
use Rattle.pj_settling.specs.Settling.{FindsFinitely, Settles, World, is_found}
use Rattle.pj_settling.proofs.Comes.{comes_return, comes_settled}
use Rattle.pj_settling.proofs.Remaining.{has-append}
use Rattle.pj_settling.proofs.Settled.{after, by_test, first_of, for_each, given, made_by}
use Rattle.pj_settling.proofs.Visits.{Leads}
use Rattle.pj_settled_names.proofs.Outside.{first_member_settles, outside_leads, outside_settles}
use Rattle.pj_settled_names.proofs.Resolving.{class_of_settles, type_written_settles}

-- ---- a simple name, by what the direct supertypes of a class are

module _ {world : World} where
  hit_or_settles : (hit : Option Name) {rest : Asking JavaType} → Settles world rest → Settles world (hit_or hit rest)
  hit_or_settles None h = h
  hit_or_settles (Some name) h = given _

  module _ (t : Tree) (classes : List DeclaredClass) (supers : Name → Asking (List Name)) (among : List Name) (leads : (name : Name) → Leads world (supers name) (has_name among name)) where
    member_settles : (class : Name) (simple : List ℕ) → Settles world (member t classes supers class simple)
    member_settles class simple =
        made_by {m = member_along classes supers class simple} (member_found class simple) (first_member_settles classes supers among leads (λ name. false) class simple)

    inherited_settles : (simple : List ℕ) (class : Node) → Settles world (inherited t classes supers simple class)
    inherited_settles simple class =
        by_test (is_class_name (class_text t class)) (first_member_settles classes supers among leads (same_text (class_text t class)) (class_text t class) simple) (given None)

    module _ (bound : Node → Asking JavaType) (settle : (n : Node) → Settles world (bound n)) where
      variable_settles : (simple : List ℕ) (bounds : List Node) → Settles world (variable t classes supers bound simple bounds)
      variable_settles simple [] = given _
      variable_settles simple (first ∷ more) = made_by {m = bound first} (λ ty. Variable simple ty) (settle first)

      declared_settles : (simple : List ℕ) (n : Node) → Settles world (declared_type t classes supers bound simple n)
      declared_settles simple n = by_test (names_type_parameter t n) (variable_settles simple (bounds_of t n)) (given _)

      declared_or_settles : (simple : List ℕ) (found : Option Declared) → Settles world (declared_or t classes supers bound simple found)
      declared_or_settles simple None = outside_settles classes t simple
      declared_or_settles simple (Some declared) = declared_settles simple declared.node

      found_or_settles : (place : Node) (simple : List ℕ) (found : Option Declared) → Settles world (found_or t classes supers bound place simple found)
      found_or_settles place simple found =
          after (first_of {m = inherited t classes supers simple} (inherited_settles simple) (searched t place found)) (λ hit. hit_or_settles hit (declared_or_settles simple found))

      simple_name_settles : (place : Node) (simple : List ℕ) → Settles world (simple_name t classes supers bound place simple)
      simple_name_settles place simple = by_test (is_class_name simple) (found_or_settles place simple (type_meant t simple place)) (given _)

    bound_within_settles : (more : ℕ) (n : Node) → Settles world (bound_within t classes supers more n)
    bound_within_settles zero n = given _
    bound_within_settles (suc more) n =
        type_written_settles t classes (simple_name t classes supers (bound_within t classes supers more)) (member t classes supers)
        (simple_name_settles (bound_within t classes supers more) (bound_within_settles more)) member_settles 1 0 n

    bound_type_settles : (n : Node) → Settles world (bound_type t classes supers n)
    bound_type_settles n = bound_within_settles 1 n

    name_meant_settles : (place : Node) (simple : List ℕ) → Settles world (name_meant t classes supers place simple)
    name_meant_settles place simple = simple_name_settles (bound_type t classes supers) bound_type_settles place simple

    type_in_settles : (behind : ℕ) (n : Node) → Settles world (type_in t classes supers behind n)
    type_in_settles behind n = type_written_settles t classes (name_meant t classes supers) (member t classes supers) name_meant_settles member_settles 0 behind n

    text_in_settles : (place : Node) (text : List ℕ) → Settles world (text_in t classes supers place text)
    text_in_settles place text =
        by_test (is_class_name text) (class_of_settles t classes (name_meant t classes supers) (member t classes supers) name_meant_settles member_settles (name_of_text place text)) (given _)

    header_names_settle : (class : Node) → Settles world (header_names t classes supers class)
    header_names_settle class =
        made_by {m = header_types t classes supers class} (λ types. implied_supertypes t class ++ class_names types) (for_each {m = type_in t classes supers 0} (type_in_settles 0) (written_supertypes t class))

    header_settles : (class : Node) → Settles world (header_supertypes t classes supers class)
    header_settles class = after (for_each {m = bound_type t classes supers} bound_type_settles (all_bounds t class)) (λ bounds. header_names_settle class)

-- ---- headers

-- a list that is led to where it may be
leads_there : {world : World} {meaning : Asking (List Name)} {may : Bool} → Settles world meaning → may ≡ true → Leads world meaning may
leads_there {world} {meaning = meaning} settled there = record {
  list = settled.value;
  comes = comes_settled world meaning settled;
  none = λ other. absurd (cc (there, other));
}

leads_nowhere : {world : World} {may : Bool} → Leads {A = Name} world (Return []) may
leads_nowhere {world} = record { list = []; comes = comes_return world []; none = λ other. refl }

leads_by : {world : World} {may : Bool} (b : Bool) {m n : Asking (List Name)} → Leads world m may → Leads world n may → Leads world (if b then m else n) may
leads_by true h k = h
leads_by false h k = k

-- the names of the classes of a file
abbrev pub names_in : List DeclaredClass → List Name
names_in classes = map (λ class. class.name) classes

right_or : (a b : Bool) → b ≡ true → (a || b) ≡ true
right_or true b h = refl
right_or false b h = h

left_false : (a b : Bool) → (a || b) ≡ false → a ≡ false
left_false true b h = absurd (cc h)
left_false false b h = refl

right_false : (a b : Bool) → (a || b) ≡ false → b ≡ false
right_false true b h = absurd (cc h)
right_false false b h = h

-- a name that is none of a class of the file
pub not_named : (classes : List DeclaredClass) (name : Name) → has_name (names_in classes) name ≡ false → node_named classes name ≡ None
not_named [] name h = refl
not_named (class ∷ rest) name h = at (pointwise nat_eq class.name name) h (λ other. not_named rest name other)
  where
    at : (b : Bool) → (b || has_name (names_in rest) name) ≡ false → (has_name (names_in rest) name ≡ false → node_named rest name ≡ None)
        → option_map (λ (found : DeclaredClass). found.node) (cond b (Some class) (class_named rest name)) ≡ None
    at true h further = absurd (cc h)
    at false h further = further h

named : (classes : List DeclaredClass) (name : Name) (class : Node) → node_named classes name ≡ Some class → has_name (names_in classes) name ≡ true
named classes name class is = at (has_name (names_in classes) name) refl
  where
    at : (b : Bool) → has_name (names_in classes) name ≡ b → b ≡ true
    at true e = refl
    at false e = absurd (cc (not_named classes name e, is))

module _ {world : World} (finite : FindsFinitely world) (t : Tree) where
  -- in the file and outside of it
  abbrev pub with_file : List Name
  with_file = finite.among ++ names_in (file_classes t)

  pub unfound : (name : Name) → has_name with_file name ≡ false → is_found (world name) ≡ false
  unfound name other =
      finite.no_others name (left_false (has_name finite.among name) (has_name (names_in (file_classes t)) name) (sym (has-append finite.among (names_in (file_classes t)) name) ∙ other))

  pub unnamed : (name : Name) → has_name with_file name ≡ false → node_named (file_classes t) name ≡ None
  unnamed name other =
      not_named (file_classes t) name (right_false (has_name finite.among name) (has_name (names_in (file_classes t)) name) (sym (has-append finite.among (names_in (file_classes t)) name) ∙ other))

  there : (name : Name) (class : Node) → node_named (file_classes t) name ≡ Some class → has_name with_file name ≡ true
  there name class is =
      has-append finite.among (names_in (file_classes t)) name ∙ right_or (has_name finite.among name) (has_name (names_in (file_classes t)) name) (named (file_classes t) name class is)

  -- where the direct supertypes of a class are led to while so many headers more may be entered
  abbrev LeadsWithin : ℕ → Type 0
  LeadsWithin left = (busy : List ℕ) (name : Name) → Leads world (direct t (file_classes t) left busy name) (has_name with_file name)

  supers_by_lead : (left : ℕ) → LeadsWithin left → (busy : List ℕ) (name : Name) (class : Option Node) → node_named (file_classes t) name ≡ class
      → Leads world (supertypes_by t (file_classes t) (direct t (file_classes t) left) busy name class) (has_name with_file name)
  supers_by_lead left deeper busy name None is = outside_leads world name (has_name with_file name) (unfound name)
  supers_by_lead left deeper busy name (Some class) is =
      leads_by (is_busy busy class) leads_nowhere
      (leads_there (header_settles t (file_classes t) (direct t (file_classes t) left (busy ++ class.0 ∷ [])) with_file (λ other. deeper (busy ++ class.0 ∷ []) other) class) (there name class is))

  direct_leads : (left : ℕ) → LeadsWithin left
  unfolding direct
  direct_leads zero busy name = leads_nowhere
  direct_leads (suc left) busy name = leads_by (is_object name) leads_nowhere (supers_by_lead left (direct_leads left) busy name (node_named (file_classes t) name) refl)

  -- ---- the whole

  pub supers_lead : (busy : List ℕ) (name : Name) → Leads world (supers_of t busy name) (has_name with_file name)
  supers_lead busy name = direct_leads (enough t) busy name

  pub type_name_settles : (place : Node) (text : List ℕ) → Settles world (type_name t place text)
  type_name_settles place text = text_in_settles t (file_classes t) (supers_of t []) with_file (supers_lead []) place text

  pub written_type_settles : (busy : List ℕ) (behind : ℕ) (n : Node) → Settles world (written_type t busy behind n)
  written_type_settles busy behind n = type_in_settles t (file_classes t) (supers_of t busy) with_file (supers_lead busy) behind n

  pub written_bound_settles : (busy : List ℕ) (n : Node) → Settles world (written_bound t busy n)
  written_bound_settles busy n = bound_type_settles t (file_classes t) (supers_of t busy) with_file (supers_lead busy) n
