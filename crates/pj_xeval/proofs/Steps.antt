-- Steps of an evaluation.
use Rattle.std.proofs.Common.{◌≡◌, List, [], ◌∷◌, length, Result, true, false, refl, sym}
use Rattle.pj_xvalue.specs.declared.fault.XCode.{XCode}
use Rattle.pj_xvalue.specs.Items.{ItemValue}
use Rattle.pj_xsteps.specs.Means.{Means, give, judged, ◌>>=◌, chain}
use Rattle.pj_xsteps.specs.Context.{Variables, Denotation}
use Rattle.pj_xsteps.specs.Turns.{narrowed, through, walked, passing, numbered, step_in_turn, with_all, united}
use Rattle.pj_xsteps.specs.Steps.{in_document_order}
use Rattle.pj_xsteps.proofs.SequenceLaws.{then-assoc, then-give}
use Rattle.pj_xframes.specs.declared.frame.Turn.{Turn}
use Rattle.pj_xframes.specs.declared.frame.Turn.TheVariants as turn
use Rattle.pj_xframes.specs.Frames.{over, evaluated, taken, finished}

-- a member of a list of operands, before what follows the list
pub chain-then : {X S B : Type 0} (m : X → Means (List ItemValue)) (t : X → S → List ItemValue → Result S XCode) (k : S → Means B) (x : X) (xs : List X) (s : S)
    → (m x >>= λ value. ((judged (t x s value) >>= λ next. chain m t xs next) >>= k)) ≡ (chain m t (x ∷ xs) s >>= k)
chain-then m t k x xs s = sym (then-assoc (m x) (λ value. judged (t x s value) >>= λ next. chain m t xs next) k)

-- the first of some predicates, steps or parts, and then the others
pub over-cons : (what : Turn) (v : Variables) (d : Denotation) (ds : List Denotation) (items : List ItemValue)
    → (chain (evaluated what d (length items) v) (taken what) (numbered 1 items) [] >>= λ all. finished what v ds all) ≡ over what v (d ∷ ds) items
over-cons turn.Forward v d ds items = refl
over-cons turn.Backward v d ds items = sym (then-assoc (passing v d items) (λ found. through (passing v) ds found) (λ found. give (in_document_order true found)))
over-cons turn.Step v d ds items = sym (then-assoc (chain (step_in_turn d (length items) v) with_all (numbered 1 items) []) (λ found. judged (united found)) (λ nodes. through (walked v) ds nodes))
over-cons turn.Part v d ds items = refl

-- predicates that leave the order as it is
pub narrowed-forward : (v : Variables) (ds : List Denotation) (items : List ItemValue) → narrowed v ds items ≡ (narrowed v ds items >>= λ found. give (in_document_order false found))
narrowed-forward v ds items = sym (then-give (narrowed v ds items))

pub ruleset steps = (chain-then, over-cons, narrowed-forward)
