use Rattle.std.proofs.Common.{◌≡◌, ◌∙◌, ℕ, ◌<◌, List, length, ap, arith, subst, sym, refl, IsTrue, [], ◌∷◌}
use Rattle.std.specs.Prelude.{Option, is_some, slice_get}
use Rattle.std.specs.Option.{option_map}
use Rattle.std.proofs.lemmas.Option.{slice_get-get_or}
use Rattle.pj_names.specs.declared.answer.Answer.{Answer}
use Rattle.pj_names.specs.Asking.{Return, value_of}
use Rattle.pj_names.specs.ClassName.{Name}
use Rattle.pj_names.specs.JavaType.{JavaType}
use Rattle.pj_names.proofs.MeaningLaws.{value_of-bind}
use Rattle.pj_types.specs.Members.{FoundMethod}
use Rattle.pj_overload.specs.declared.choice.Choice.{Choice}
use Rattle.pj_overload.specs.declared.choice.Choice.TheVariants as choices
use Rattle.pj_overload.specs.Choosing.{choose}
use Rattle.pj_calls.specs.Candidates.{Candidates}
use Rattle.pj_calls.specs.Choosing.{Chosen, chosen_among, chosen_as, chosen_by}
use Rattle.pj_calls.proofs.laws.one_is_chosen.Goals as goal

-- the value is that of the choice
by-choice : (depth : ℕ) (world : Name → Answer) (candidates : Candidates) (arguments : List JavaType) (functions : List ℕ) (choice : Choice) → value_of depth world (choose candidates.methods arguments functions) ≡ choice
    → value_of depth world (chosen_among candidates arguments functions) ≡ chosen_by candidates arguments choice
by-choice depth world candidates arguments functions choice is =
    value_of-bind depth world (choose candidates.methods arguments functions) (λ choice. Return (chosen_by candidates arguments choice)) ∙ ap (λ choice. chosen_by candidates arguments choice) is

some-at : (f : FoundMethod → Chosen) (methods : List FoundMethod) (number : ℕ) → number < length methods → IsTrue (is_some (option_map f (slice_get methods number)))
some-at f [] number below = absurd (omega (arith, below))
some-at f (method ∷ methods) number below = subst (λ (found : Option FoundMethod). IsTrue (is_some (option_map f found))) (sym (slice_get-get_or (method ∷ methods) number method below)) refl

pub returns-clause-one : goal.returns-clause-one
returns-clause-one c = λ depth world candidates arguments functions number is.
    subst (λ (found : Option Chosen). IsTrue (is_some found)) (sym (by-choice depth world candidates arguments functions (choices.One number) is))
    (some-at (chosen_as candidates.receiver arguments) candidates.methods number (c.one_is_a_candidate.ensures depth world candidates.methods arguments functions number is))

pub returns-clause-method : goal.returns-clause-method
returns-clause-method c = λ depth world candidates arguments functions number method is at.
    by-choice depth world candidates arguments functions (choices.One number) is ∙ ap (option_map (chosen_as candidates.receiver arguments)) at

pub returns-clause-none : goal.returns-clause-none
returns-clause-none c = λ depth world candidates arguments functions is. by-choice depth world candidates arguments functions choices.None is

pub returns-clause-tie : goal.returns-clause-tie
returns-clause-tie c = λ depth world candidates arguments functions is. by-choice depth world candidates arguments functions choices.Tie is
