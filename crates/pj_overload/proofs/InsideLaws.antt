-- What is chosen is one of the candidates, step by step.
use Rattle.std.specs.Prelude.{Bool, true, false, Option, Some, None, Result, Ok, Err, IfOk, IfSome, if◌then◌else◌}
use Rattle.std.proofs.Common.{◌≡◌, ℕ, zero, suc, ◌<◌, ◌+◌, List, [], ◌∷◌, ◌++◌, length, get_or, refl, sym, subst, arith}
use Rattle.std.proofs.lemmas.List.{length-map}
use Rattle.pj_names.specs.declared.oracle.AskFault.{AskFault}
use Rattle.pj_types.specs.declared.members.Method.{Method}
use Rattle.pj_types.specs.Members.{FoundMethod, all_methods, method_view}
use Rattle.pj_overload.specs.declared.candidates.Candidate as held
use Rattle.pj_overload.specs.declared.choice.Choice.{Choice}
use Rattle.pj_overload.specs.declared.choice.Choice.TheVariants as choices
use Rattle.pj_overload.specs.Candidates.{Candidate, candidates_from, candidates_of}
use Rattle.pj_overload.specs.Inside.{AreBelow, AreAmong, IsInside, IsNumberAmong, IsChoiceAmong}
use Rattle.pj_overload.specs.Seen.{candidate_seen, candidates_seen}
use Rattle.pj_overload.specs.Specific.{number_if, one_or_tie}

-- the candidates of some methods
from-below : (k count : ℕ) (methods : List FoundMethod) → k + length methods ≡ count → AreBelow count (candidates_from k methods)
from-below k count [] is = tt
from-below k count (m ∷ ms) is = (omega (arith, is), from-below (k + 1) count ms (omega (arith, is)))

pub all-below : (methods : List FoundMethod) → AreBelow (length methods) (candidates_of methods)
all-below methods = from-below 0 (length methods) methods (omega arith)

-- one of them, by its place
pub one-below : (count : ℕ) (xs : List held.Candidate) (i : ℕ) (x : held.Candidate) → i < length xs → x ≡ get_or xs i x → AreBelow count (candidates_seen xs) → x.number < count
one-below count [] i x below is all = absurd (omega arith)
one-below count (y ∷ ys) zero x below is all = subst (λ (c : held.Candidate). c.number < count) (sym is) all.0
one-below count (y ∷ ys) (suc i) x below is all = one-below count ys i x (omega arith) is all.1

-- one more
more-below : (count : ℕ) (found : List Candidate) (c : Candidate) → AreBelow count found → c.number < count → AreBelow count (found ++ c ∷ [])
more-below count [] c all below = (below, tt)
more-below count (x ∷ xs) c all below = (all.0, more-below count xs c all.1 below)

put-below : (count : ℕ) (taken : Bool) (found : List Candidate) (c : Candidate) → AreBelow count found → c.number < count → AreBelow count (if taken then found ++ c ∷ [] else found)
put-below count true found c all below = more-below count found c all below
put-below count false found c all below = all

pub among-none : (all : List Candidate) (found : List held.Candidate) → found ≡ [] → AreAmong (candidates_seen found) all
among-none all found is = record { each = λ count below. subst (λ (l : List held.Candidate). AreBelow count (candidates_seen l)) (sym is) tt }

pub among-put : (xs : List held.Candidate) (i : ℕ) (x : held.Candidate) (found new : List Candidate) (taken : Bool) → i < length xs → x ≡ get_or xs i x
    → AreAmong found (candidates_seen xs) → new ≡ (if taken then found ++ candidate_seen x ∷ [] else found) → AreAmong new (candidates_seen xs)
among-put xs i x found new taken below is among put = record {
  each = λ count all. subst (λ l. AreBelow count l) (sym put) (put-below count taken found (candidate_seen x) (among.each count all) (one-below count xs i x below is all));
}

-- the number of one of them
pub number-among : (xs : List held.Candidate) (i : ℕ) (x : held.Candidate) (number : ℕ) → i < length xs → x ≡ get_or xs i x → number ≡ x.number → IsNumberAmong number (candidates_seen xs)
number-among xs i x number below is same = record { each = λ count all. subst (λ n. n < count) (sym same) (one-below count xs i x below is all) }

pub one-among : (number : ℕ) (all : List Candidate) → IsNumberAmong number all → IsChoiceAmong (choices.One number) all
one-among number all among = record { each = λ count below. among.each count below }

pub tie-among : (all : List Candidate) → IsChoiceAmong choices.Tie all
tie-among all = record { each = λ count below. tt }

pub none-chosen : (all : List Candidate) → IsChoiceAmong choices.None all
none-chosen all = record { each = λ count below. tt }

-- what is chosen among some that are among others
pub choice-among : (choice : Choice) (found all : List Candidate) → IsChoiceAmong choice found → AreAmong found all → IsChoiceAmong choice all
choice-among choice found all chosen among = record { each = λ count below. chosen.each count (among.each count below) }

pub chosen-number : (candidate : Candidate) (is_chosen : Bool) → IfSome (number_if candidate is_chosen) (λ number. number ≡ candidate.number)
chosen-number candidate true = refl
chosen-number candidate false = tt

pub best-among : (best : Option ℕ) (all : List Candidate) → IfSome best (λ number. IsNumberAmong number all) → IsChoiceAmong (one_or_tie best) all
best-among None all among = tie-among all
best-among (Some number) all among = one-among number all among

pub found-among : (r : Result (Option Choice) AskFault) (found all : List Candidate) → AreAmong found all → IfOk r (λ chosen. IfSome chosen (λ choice. IsChoiceAmong choice found)) → IfOk r (λ chosen. IfSome chosen (λ choice. IsChoiceAmong choice all))
found-among (Ok (Some choice)) found all among chosen = choice-among choice found all chosen among
found-among (Ok None) found all among chosen = tt
found-among (Err fault) found all among chosen = tt

pub inside-all : (r : Result Choice AskFault) (candidates : List held.Candidate) (methods : List Method) → candidates_seen candidates ≡ candidates_of (all_methods methods) → IfOk r (λ choice. IsChoiceAmong choice (candidates_seen candidates))
    → IfOk r (λ choice. IsInside (length methods) choice)
inside-all (Ok choice) candidates methods is chosen =
    let below : AreBelow (length (all_methods methods)) (candidates_seen candidates) = subst (λ l. AreBelow (length (all_methods methods)) l) (sym is) (all-below (all_methods methods)) in
    subst (λ n. IsInside n choice) (length-map methods method_view) (chosen.each (length (all_methods methods)) below)
inside-all (Err fault) candidates methods is chosen = tt
