-- The choice of a method among candidates comes to something in a world that finds finitely many classes, and so does the type of a conditional expression.
use Rattle.std.specs.Prelude.{ℕ, ◌==◌, Bool, true, false, if◌then◌else◌, List, [], ◌∷◌, length, zip, Option, Some, None}
use Rattle.pj_names.specs.Asking.{Asking, Return}
use Rattle.pj_names.specs.JavaType.{JavaType}
use Rattle.pj_types.specs.Members.{FoundMethod}
use Rattle.pj_types.specs.Subtyping.{is_under, is_unknown}
use Rattle.pj_operators.specs.Conditional.{conditional_type, second_or_unknown, third_or_second, told_or_upper, told_type, upper_type}
use Rattle.pj_overload.specs.Candidates.{Candidate, candidates_of}
use Rattle.pj_overload.specs.Choosing.{choice_among, choice_in, choose, or_no_method, phases}
use Rattle.pj_overload.specs.Conversions.{converted, fits_loosely, is_some_under}
use Rattle.pj_overload.specs.Passed.{Argument, Function, Typed, arguments_of}
use Rattle.pj_overload.specs.Phases.{applicable, fits, is_applicable, parameters_for, takes, type_fits}
use Rattle.pj_overload.specs.Specific.{all_under, best_of, is_itself_or_under, is_more_specific, is_most_specific, most_specific, most_specific_at, number_if, one_or_tie}
use Rattle.pj_overload.specs.Testing.{all_of, and_then, filtered, or_then}
use Rattle.pj_overload.specs.declared.phase.Phase.{Phase}
use Rattle.pj_overload.specs.declared.phase.Phase.TheVariants.{Strict, Loose, VariableArity}
use Rattle.pj_settling.specs.Settling.{FindsFinitely, Settles, World}
use Rattle.pj_settling.proofs.Searches.{under_settles}
use Rattle.pj_settling.proofs.Settled.{after, by_test, first_of, given, made_by}

-- ---- tests

module _ {world : World} where
  or_then_settles : {first second : Asking Bool} → Settles world first → Settles world second → Settles world (or_then first second)
  or_then_settles {second = second} h k = after {k = λ holds. if holds then Return true else second} h (λ holds. by_test holds (given true) k)

  and_then_settles : {first second : Asking Bool} → Settles world first → Settles world second → Settles world (and_then first second)
  and_then_settles {second = second} h k = after {k = λ holds. if holds then second else Return false} h (λ holds. by_test holds k (given false))

  all_of_settles : {A : Type 0} {test : A → Asking Bool} → ((x : A) → Settles world (test x)) → (xs : List A) → Settles world (all_of test xs)
  all_of_settles h [] = given _
  all_of_settles {test = test} h (x ∷ xs) = and_then_settles {first = test x} {second = all_of test xs} (h x) (all_of_settles {test = test} h xs)

  filtered_settles : {A : Type 0} {test : A → Asking Bool} → ((x : A) → Settles world (test x)) → (xs : List A) → Settles world (filtered test xs)
  filtered_settles h [] = given _
  filtered_settles {test = test} h (x ∷ xs) = after (h x) (λ holds. made_by {m = filtered test xs} (λ rest. if holds then x ∷ rest else rest) (filtered_settles {test = test} h xs))

module _ {world : World} (finite : FindsFinitely world) where
  -- ---- phases

  some_under_settles : (ty : Option JavaType) (parameter : JavaType) → Settles world (is_some_under ty parameter)
  some_under_settles None parameter = given _
  some_under_settles (Some ty) parameter = under_settles finite ty parameter

  loosely_settles : (argument parameter : JavaType) → Settles world (fits_loosely argument parameter)
  loosely_settles argument parameter =
      or_then_settles {first = is_under argument parameter} {second = is_some_under (converted argument) parameter} (under_settles finite argument parameter) (some_under_settles (converted argument) parameter)

  type_fits_settles : (phase : Phase) (argument parameter : JavaType) → Settles world (type_fits phase argument parameter)
  type_fits_settles Strict argument parameter = under_settles finite argument parameter
  type_fits_settles Loose argument parameter = loosely_settles argument parameter
  type_fits_settles VariableArity argument parameter = loosely_settles argument parameter

  fits_settles : (phase : Phase) (argument : Argument) (parameter : JavaType) → Settles world (fits phase argument parameter)
  fits_settles phase Function parameter = given _
  fits_settles phase (Typed argument) parameter = by_test (is_unknown argument) (given _) (type_fits_settles phase argument parameter)

  applicable_settles : (phase : Phase) (arguments : List Argument) (candidate : Candidate) → Settles world (is_applicable phase arguments candidate)
  applicable_settles phase arguments candidate =
      by_test (takes phase (length arguments) candidate)
      (all_of_settles {test = λ pair. fits phase pair.0 pair.1} (λ pair. fits_settles phase pair.0 pair.1) (zip arguments (parameters_for phase (length arguments) candidate)))
      (given _)

  all_applicable_settle : (phase : Phase) (arguments : List Argument) (candidates : List Candidate) → Settles world (applicable phase arguments candidates)
  all_applicable_settle phase arguments candidates = filtered_settles {test = λ candidate. is_applicable phase arguments candidate} (applicable_settles phase arguments) candidates

  -- ---- the most specific method

  all_under_settles : (lowers uppers : List JavaType) → Settles world (all_under lowers uppers)
  all_under_settles lowers uppers = all_of_settles {test = λ pair. is_under pair.0 pair.1} (λ pair. under_settles finite pair.0 pair.1) (zip lowers uppers)

  more_specific_settles : (phase : Phase) (count : ℕ) (candidate other : Candidate) → Settles world (is_more_specific phase count candidate other)
  more_specific_settles Strict count candidate other = all_under_settles _ _
  more_specific_settles Loose count candidate other = all_under_settles _ _
  more_specific_settles VariableArity count candidate other = all_under_settles _ _

  most_specific_at_settles : (phase : Phase) (count : ℕ) (candidates : List Candidate) (candidate : Candidate) → Settles world (most_specific_at phase count candidates candidate)
  most_specific_at_settles phase count candidates candidate =
      made_by {m = is_most_specific phase count candidates candidate} (number_if candidate)
      (all_of_settles {test = λ other. is_itself_or_under phase count candidate other}
      (λ other. by_test (other.number == candidate.number) (given _) (more_specific_settles phase count candidate other)) candidates)

  most_specific_settles : (phase : Phase) (count : ℕ) (candidates : List Candidate) → Settles world (most_specific phase count candidates)
  most_specific_settles phase count candidates =
      made_by {m = best_of phase count candidates} one_or_tie (first_of {m = λ candidate. most_specific_at phase count candidates candidate} (most_specific_at_settles phase count candidates) candidates)

  -- ---- the choice

  choice_among_settles : (phase : Phase) (count : ℕ) (candidates : List Candidate) → Settles world (choice_among phase count candidates)
  choice_among_settles phase count [] = given _
  choice_among_settles phase count (first ∷ more) = made_by {m = most_specific phase count (first ∷ more)} (λ choice. Some choice) (most_specific_settles phase count (first ∷ more))

  choice_in_settles : (arguments : List Argument) (candidates : List Candidate) (phase : Phase) → Settles world (choice_in phase arguments candidates)
  choice_in_settles arguments candidates phase = after (all_applicable_settle phase arguments candidates) (λ found. choice_among_settles phase (length arguments) found)

  pub choose_settles : (methods : List FoundMethod) (types : List JavaType) (functions : List ℕ) → Settles world (choose methods types functions)
  choose_settles methods types functions =
      made_by or_no_method (first_of {m = λ phase. choice_in phase (arguments_of functions types) (candidates_of methods)} (choice_in_settles (arguments_of functions types) (candidates_of methods)) phases)

  -- ---- conditional expressions

  third_settles : (second third : JavaType) (is_upper : Bool) → Settles world (third_or_second second third is_upper)
  third_settles second third is_upper = by_test is_upper (given _) (made_by {m = is_under third second} (second_or_unknown second) (under_settles finite third second))

  upper_settles : (second third : JavaType) → Settles world (upper_type second third)
  upper_settles second third = after (under_settles finite second third) (λ is. third_settles second third is)

  told_settles : (second third : JavaType) (told : Option JavaType) → Settles world (told_or_upper second third told)
  told_settles second third None = upper_settles second third
  told_settles second third (Some ty) = given _

  pub conditional_settles : (second third : JavaType) → Settles world (conditional_type second third)
  conditional_settles second third = told_settles second third (told_type second third)
