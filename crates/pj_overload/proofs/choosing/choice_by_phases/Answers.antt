use Rattle.std.proofs.Common.{[], ◌∷◌, refl, rules}
use Rattle.pj_names.proofs.AskingLaws.{asks-return, comes-begin, comes-ends}
use Rattle.pj_overload.specs.declared.phase.Phase.TheVariants.{Strict, Loose, VariableArity}
use Rattle.pj_overload.specs.Choosing.{choice_in, or_no_method}
use Rattle.pj_overload.specs.Seen.{arguments_seen, candidates_seen}
use Rattle.pj_overload.proofs.InsideLaws.{none-chosen}
use Rattle.pj_overload.proofs.Phased.{none-here, refused-here, some-here}
use Rattle.pj_overload.proofs.choosing.choice_by_phases.Goals as goal

pub returns-in_err-choice-clause-asks : goal.returns-in_err-choice-clause-asks
returns-in_err-choice-clause-asks g c =
    refused-here (λ phase. choice_in phase (arguments_seen c.args.arguments.now) (candidates_seen c.args.candidates.now)) Strict (Loose ∷ (VariableArity ∷ [])) or_no_method comes-begin c.in_err-choice.ensures.asks (search rules)

pub returns-in-Some-clause-asks : goal.returns-in-Some-clause-asks
returns-in-Some-clause-asks g c =
    some-here (λ phase. choice_in phase (arguments_seen c.args.arguments.now) (candidates_seen c.args.candidates.now)) Strict (Loose ∷ (VariableArity ∷ [])) or_no_method comes-begin c.in_ok-choice.ensures.asks c.in-Some.is refl

pub returns-in_err-choice-2-clause-asks : goal.returns-in_err-choice-2-clause-asks
returns-in_err-choice-2-clause-asks g c =
    let one = none-here (λ phase. choice_in phase (arguments_seen c.args.arguments.now) (candidates_seen c.args.candidates.now)) Strict (Loose ∷ (VariableArity ∷ [])) or_no_method comes-begin c.in_ok-choice.ensures.asks c.in_default.is in
    refused-here (λ phase. choice_in phase (arguments_seen c.args.arguments.now) (candidates_seen c.args.candidates.now)) Loose (VariableArity ∷ []) or_no_method one c.in_err-choice-2.ensures.asks (search rules)

pub returns-in-Some-2-clause-asks : goal.returns-in-Some-2-clause-asks
returns-in-Some-2-clause-asks g c =
    let one = none-here (λ phase. choice_in phase (arguments_seen c.args.arguments.now) (candidates_seen c.args.candidates.now)) Strict (Loose ∷ (VariableArity ∷ [])) or_no_method comes-begin c.in_ok-choice.ensures.asks c.in_default.is in
    some-here (λ phase. choice_in phase (arguments_seen c.args.arguments.now) (candidates_seen c.args.candidates.now)) Loose (VariableArity ∷ []) or_no_method one c.in_ok-choice-2.ensures.asks c.in-Some-2.is refl

pub returns-in_err-choice-3-clause-asks : goal.returns-in_err-choice-3-clause-asks
returns-in_err-choice-3-clause-asks g c =
    let one = none-here (λ phase. choice_in phase (arguments_seen c.args.arguments.now) (candidates_seen c.args.candidates.now)) Strict (Loose ∷ (VariableArity ∷ [])) or_no_method comes-begin c.in_ok-choice.ensures.asks c.in_default.is in
    let two = none-here (λ phase. choice_in phase (arguments_seen c.args.arguments.now) (candidates_seen c.args.candidates.now)) Loose (VariableArity ∷ []) or_no_method one c.in_ok-choice-2.ensures.asks c.in_default-2.is in
    refused-here (λ phase. choice_in phase (arguments_seen c.args.arguments.now) (candidates_seen c.args.candidates.now)) VariableArity [] or_no_method two c.in_err-choice-3.ensures.asks (search rules)

pub returns-in-Some-3-clause-asks : goal.returns-in-Some-3-clause-asks
returns-in-Some-3-clause-asks g c =
    let one = none-here (λ phase. choice_in phase (arguments_seen c.args.arguments.now) (candidates_seen c.args.candidates.now)) Strict (Loose ∷ (VariableArity ∷ [])) or_no_method comes-begin c.in_ok-choice.ensures.asks c.in_default.is in
    let two = none-here (λ phase. choice_in phase (arguments_seen c.args.arguments.now) (candidates_seen c.args.candidates.now)) Loose (VariableArity ∷ []) or_no_method one c.in_ok-choice-2.ensures.asks c.in_default-2.is in
    some-here (λ phase. choice_in phase (arguments_seen c.args.arguments.now) (candidates_seen c.args.candidates.now)) VariableArity [] or_no_method two c.in_ok-choice-3.ensures.asks c.in-Some-3.is refl

pub returns-clause-asks : goal.returns-clause-asks
returns-clause-asks g c =
    let one = none-here (λ phase. choice_in phase (arguments_seen c.args.arguments.now) (candidates_seen c.args.candidates.now)) Strict (Loose ∷ (VariableArity ∷ [])) or_no_method comes-begin c.in_ok-choice.ensures.asks c.in_default.is in
    let two = none-here (λ phase. choice_in phase (arguments_seen c.args.arguments.now) (candidates_seen c.args.candidates.now)) Loose (VariableArity ∷ []) or_no_method one c.in_ok-choice-2.ensures.asks c.in_default-2.is in
    let three = none-here (λ phase. choice_in phase (arguments_seen c.args.arguments.now) (candidates_seen c.args.candidates.now)) VariableArity [] or_no_method two c.in_ok-choice-3.ensures.asks c.in_default-3.is in
    comes-ends three (asks-return refl)

pub returns-in-Some-clause-inside : goal.returns-in-Some-clause-inside
returns-in-Some-clause-inside g c = rw c.in-Some.is at c.in_ok-choice.ensures.inside

pub returns-in-Some-2-clause-inside : goal.returns-in-Some-2-clause-inside
returns-in-Some-2-clause-inside g c = rw c.in-Some-2.is at c.in_ok-choice-2.ensures.inside

pub returns-in-Some-3-clause-inside : goal.returns-in-Some-3-clause-inside
returns-in-Some-3-clause-inside g c = rw c.in-Some-3.is at c.in_ok-choice-3.ensures.inside

pub returns-clause-inside : goal.returns-clause-inside
returns-clause-inside g c = none-chosen (candidates_seen c.args.candidates.now)
