-- Member classes along the supertypes of a class (JLS 8.5), by what its direct supertypes are.
use Rattle.std.specs.Prelude.{ℕ, ◌||◌, Bool, false, Option, None, if◌then◌else◌, List, [], ◌∷◌, ◌++◌, map, unwrap_or}
use Rattle.pj_names.specs.ClassName.{Name, is_object}
use Rattle.pj_names.specs.JavaType.{JavaType, Class}
use Rattle.pj_names.specs.Asking.{Asking, Return, Unbounded, ask, bind}
use Rattle.pj_types.specs.DepthFirst.{visit}
use Rattle.pj_types.specs.NameSearch.{itself}
use Rattle.pj_types.specs.Supertypes.{Listed, of_answer}
use Rattle.pj_symbols.specs.declared.class.Class.{Class as DeclaredClass}
use Rattle.pj_written.specs.Words.{same_text}
use Rattle.pj_outer_names.specs.Candidates.{found_class}
use Rattle.pj_written.specs.Types.{class_of_text}

-- ---- direct supertypes, by their names

-- the classes among some types: a type variable, and what is not known, is left out
abbrev pub with_name : JavaType → List Name → List Name
with_name (Class name arguments) names = name ∷ names
with_name other names = names

abbrev pub class_names : List JavaType → List Name
class_names [] = []
class_names (ty ∷ types) = with_name ty (class_names types)

abbrev pub listed_names : List Listed → List Name
listed_names classes = map (λ class. class.name) classes

-- those of a class outside the file, which is asked
abbrev pub outside_supertypes : Name → Asking (List Name)
outside_supertypes name = bind (ask name) (λ answer. Return (listed_names (of_answer None answer)))

-- ---- along the list of supertypes

-- the class `T$S`, where it is there; of `java.lang.Object`, and of a class that is left out, nothing is looked for
abbrev pub member_in : List DeclaredClass → (Name → Bool) → List ℕ → Name → Asking (Option Name)
member_in classes is_left_out simple class = if is_object class || is_left_out class then Return None else found_class classes (class ++ 36 ∷ simple)

module _ (classes : List DeclaredClass) (supers : Name → Asking (List Name)) where
  -- The first member class of a name along the list of supertypes of a class, depth first, each class once: a class is asked for its supertypes only once its own member was not there.
  abbrev pub first_member : (Name → Bool) → Name → List ℕ → Asking (Option Name)
  first_member is_left_out class simple =
      Unbounded (λ most. bind (visit itself (member_in classes is_left_out simple) supers most most [] class) (λ outcome. Return outcome.0))

  -- of the class and what it inherits
  abbrev pub member_along : Name → List ℕ → Asking (Option Name)
  member_along class simple = first_member (λ name. false) class simple

  -- of what it inherits alone: its own member classes are told by its declaration
  abbrev pub inherited_member : Name → List ℕ → Asking (Option Name)
  inherited_member class simple = first_member (same_text class) class simple

  -- a member class that is not there is the class `C$S`, absent
  abbrev pub member_type : Name → List ℕ → Asking JavaType
  member_type class simple = bind (member_along class simple) (λ hit. Return (class_of_text (unwrap_or hit (class ++ 36 ∷ simple))))
