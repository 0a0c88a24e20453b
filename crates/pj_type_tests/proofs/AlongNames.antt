-- A class that has a name, looked for by the names of its supertypes.
use Rattle.std.proofs.Common.{◌≡◌, ℕ, List, refl, ◌∙◌, ap}
use Rattle.std.specs.Prelude.{Option, Some, None, if◌then◌else◌}
use Rattle.pj_names.specs.ClassName.{Name}
use Rattle.pj_names.specs.JavaType.{Class, NoMore}
use Rattle.pj_names.specs.Asking.{Asking, Return, bind}
use Rattle.pj_names.proofs.MeaningLaws.{bind-bind}
use Rattle.pj_types.specs.NameSearch.{name_search}
use Rattle.pj_types.specs.Subtyping.{is_hit}
use Rattle.pj_types.proofs.NameSearchLaws.{first-names, hit_found, was_hit}
use Rattle.pj_type_tests.specs.Names.{has_name}
use Rattle.pj_type_tests.specs.Types.{class_is, is_called}

-- a class of which the text is a name is a hit
abbrev pub called : List ℕ → Name → Asking (Option (Unit {0}))
called text name = Return (if has_name text (Class name NoMore) then Some tt else None)

pub class-names : (text : List ℕ) (name : Name) → class_is text name ≡ bind (name_search (called text) name) (λ o. Return (was_hit o))
unfolding class_is
class-names text name =
    ap (λ (m : Asking (Option (Unit {0}))). bind m (λ hit. Return (is_hit hit))) (first-names (is_called text) (called text) (λ class. refl) name)
    ∙ bind-bind (name_search (called text) name) (λ o. Return (hit_found o)) (λ hit. Return (is_hit hit))
