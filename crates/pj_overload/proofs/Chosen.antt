-- What is chosen is one of the candidates.
use Rattle.std.specs.Prelude.{Bool, true, false, Option, Some, None, if◌then◌else◌}
use Rattle.std.proofs.Common.{◌≡◌, ℕ, ◌<◌, ◌+◌, List, [], ◌∷◌, length, refl, sym, ◌∙◌, subst, arith}
use Rattle.pj_names.specs.declared.answer.Answer.{Answer}
use Rattle.pj_names.specs.ClassName.{Name}
use Rattle.pj_names.specs.JavaType.{JavaType}
use Rattle.pj_names.specs.Asking.{Asking, Return, bind, first_hit, or_else, value_of}
use Rattle.pj_names.proofs.MeaningLaws.{value_of-bind}
use Rattle.pj_types.specs.Members.{FoundMethod}
use Rattle.pj_overload.specs.declared.phase.Phase.{Phase}
use Rattle.pj_overload.specs.declared.choice.Choice.{Choice}
use Rattle.pj_overload.specs.declared.choice.Choice.TheVariants as choices
use Rattle.pj_overload.specs.Testing.{filtered}
use Rattle.pj_overload.specs.Passed.{Argument, arguments_of}
use Rattle.pj_overload.specs.Candidates.{Candidate, candidates_from, candidates_of}
use Rattle.pj_overload.specs.Phases.{applicable, is_applicable}
use Rattle.pj_overload.specs.Specific.{best_of, is_most_specific, most_specific, most_specific_at, number_if, one_or_tie}
use Rattle.pj_overload.specs.Choosing.{choice_among, choice_in, choose, or_no_method, phases}

-- the numbers of candidates are all below one
abbrev AllBelow : ℕ → List Candidate → Type 0
AllBelow n [] = Unit {0}
AllBelow n (c ∷ cs) = (c.number < n) × AllBelow n cs

from-below : (k n : ℕ) (methods : List FoundMethod) → k + length methods ≡ n → AllBelow n (candidates_from k methods)
from-below k n [] is = tt
from-below k n (m ∷ ms) is = (omega (arith, is), from-below (k + 1) n ms (omega (arith, is)))

kept-below : (n : ℕ) (c : Candidate) (rest : List Candidate) (holds : Bool) → c.number < n → AllBelow n rest → AllBelow n (if holds then c ∷ rest else rest)
kept-below n c rest true below others = (below, others)
kept-below n c rest false below others = others

option-inside : {A : Type 0} (x y : A) → Some x ≡ Some y → x ≡ y
option-inside x y same = cc

module _ (d : ℕ) (w : Name → Answer) where
  filtered-below : (test : Candidate → Asking Bool) (n : ℕ) (cs : List Candidate) → AllBelow n cs → AllBelow n (value_of d w (filtered test cs))
  filtered-below test n [] all = tt
  filtered-below test n (c ∷ cs) all =
      let holds = value_of d w (test c) in
      let rest = value_of d w (filtered test cs) in
      let first = value_of-bind d w (test c) (λ b. bind (filtered test cs) (λ l. Return (if b then c ∷ l else l))) in
      let second = value_of-bind d w (filtered test cs) (λ l. Return (if holds then c ∷ l else l)) in
      subst (λ l. AllBelow n l) (sym (first ∙ second)) (kept-below n c rest holds all.0 (filtered-below test n cs all.1))

  -- the hit of a member, or one of those behind it
  hit-or : {B : Type 0} (P : B → Type 0) (rest : Asking (Option B)) (hit : Option B) → ((b : B) → hit ≡ Some b → P b) → ((b : B) → value_of d w rest ≡ Some b → P b)
      → (b : B) → value_of d w (or_else hit rest) ≡ Some b → P b
  hit-or P rest None here there b is = there b is
  hit-or P rest (Some hit) here there b is = here b is

  hit-first : {X B : Type 0} (P : B → Type 0) (find : X → Asking (Option B)) (x : X) (xs : List X) → ((b : B) → value_of d w (find x) ≡ Some b → P b) → ((b : B) → value_of d w (first_hit find xs) ≡ Some b → P b)
      → (b : B) → value_of d w (first_hit find (x ∷ xs)) ≡ Some b → P b
  hit-first P find x xs here there b is =
      hit-or P (first_hit find xs) (value_of d w (find x)) here there b (sym (value_of-bind d w (find x) (λ hit. or_else hit (first_hit find xs))) ∙ is)

  number-of : (c : Candidate) (is_chosen : Bool) (k : ℕ) → number_if c is_chosen ≡ Some k → k ≡ c.number
  number-of c true k is = sym (option-inside c.number k is)
  number-of c false k is = absurd (cc)

  at-number : (phase : Phase) (count : ℕ) (all : List Candidate) (c : Candidate) (k : ℕ) → value_of d w (most_specific_at phase count all c) ≡ Some k → k ≡ c.number
  at-number phase count all c k is =
      number-of c (value_of d w (is_most_specific phase count all c)) k (sym (value_of-bind d w (is_most_specific phase count all c) (λ b. Return (number_if c b))) ∙ is)

  best-below : (phase : Phase) (count n : ℕ) (all cs : List Candidate) → AllBelow n cs → (k : ℕ) → value_of d w (first_hit (λ c. most_specific_at phase count all c) cs) ≡ Some k → k < n
  best-below phase count n all [] below k is = absurd (cc)
  best-below phase count n all (c ∷ cs) below k is =
      hit-first (λ k. k < n) (λ c. most_specific_at phase count all c) c cs
      (λ b here. subst (λ x. x < n) (sym (at-number phase count all c b here)) below.0) (best-below phase count n all cs below.1) k is

  -- a choice of one is of a number below
  abbrev IsBelow : ℕ → Choice → Type 0
  IsBelow n choice = (k : ℕ) → choice ≡ choices.One k → k < n

  tie-or : (n : ℕ) (best : Option ℕ) → ((k : ℕ) → best ≡ Some k → k < n) → IsBelow n (one_or_tie best)
  tie-or n None below k is = absurd (cc)
  tie-or n (Some b) below k is = below k (cc)

  specific-below : (phase : Phase) (count n : ℕ) (cs : List Candidate) → AllBelow n cs → IsBelow n (value_of d w (most_specific phase count cs))
  specific-below phase count n cs below =
      subst (λ x. IsBelow n x) (sym (value_of-bind d w (best_of phase count cs) (λ best. Return (one_or_tie best))))
      (tie-or n (value_of d w (best_of phase count cs)) (best-below phase count n cs cs below))

  among-below : (phase : Phase) (count n : ℕ) (cs : List Candidate) → AllBelow n cs → (choice : Choice) → value_of d w (choice_among phase count cs) ≡ Some choice → IsBelow n choice
  among-below phase count n [] below choice is = absurd (cc)
  among-below phase count n (c ∷ cs) below choice is =
      let found = value_of d w (most_specific phase count (c ∷ cs)) in
      let same = option-inside found choice (sym (value_of-bind d w (most_specific phase count (c ∷ cs)) (λ x. Return (Some x))) ∙ is) in
      subst (λ x. IsBelow n x) same (specific-below phase count n (c ∷ cs) below)

  in-below : (arguments : List Argument) (candidates : List Candidate) (n : ℕ) → AllBelow n candidates → (phase : Phase) (choice : Choice) → value_of d w (choice_in phase arguments candidates) ≡ Some choice → IsBelow n choice
  in-below arguments candidates n below phase choice is =
      let found = value_of d w (applicable phase arguments candidates) in
      among-below phase (length arguments) n found (filtered-below (λ candidate. is_applicable phase arguments candidate) n candidates below) choice
      (sym (value_of-bind d w (applicable phase arguments candidates) (λ l. choice_among phase (length arguments) l)) ∙ is)

  phases-below : (arguments : List Argument) (candidates : List Candidate) (n : ℕ) → AllBelow n candidates → (ps : List Phase) (choice : Choice)
      → value_of d w (first_hit (λ phase. choice_in phase arguments candidates) ps) ≡ Some choice → IsBelow n choice
  phases-below arguments candidates n below [] choice is = absurd (cc)
  phases-below arguments candidates n below (p ∷ ps) choice is =
      hit-first (λ x. IsBelow n x) (λ phase. choice_in phase arguments candidates) p ps (in-below arguments candidates n below p) (phases-below arguments candidates n below ps) choice is

  method-or : (n : ℕ) (found : Option Choice) → ((choice : Choice) → found ≡ Some choice → IsBelow n choice) → IsBelow n (or_no_method found)
  method-or n None below k is = absurd (cc)
  method-or n (Some choice) below k is = below choice refl k is

  pub chosen-below : (methods : List FoundMethod) (types : List JavaType) (functions : List ℕ) (k : ℕ) → value_of d w (choose methods types functions) ≡ choices.One k → k < length methods
  chosen-below methods types functions k is =
      let arguments = arguments_of functions types in
      let candidates = candidates_of methods in
      let sought = first_hit (λ phase. choice_in phase arguments candidates) phases in
      method-or (length methods) (value_of d w sought) (phases-below arguments candidates (length methods) (from-below 0 (length methods) methods (omega arith)) phases) k
      (sym (value_of-bind d w sought (λ found. Return (or_no_method found))) ∙ is)
