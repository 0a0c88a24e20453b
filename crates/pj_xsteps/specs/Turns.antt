-- Items that are the context in turn: predicates (XPath 2.0, 3.2.2, 3.3.2), the steps of a path (3.2) and simple maps
-- (XPath 3.1, 3.15).
use Rattle.std.specs.Prelude.{ℕ, ◌+◌, ℤ, pos, Bool, List, [], ◌∷◌, ◌++◌, length, Result, Ok, Err, if◌then◌else◌}
use Rattle.std.specs.Ordering.{int_eq}
use Rattle.pj_xvalue.specs.declared.fault.XCode.{XCode}
use Rattle.pj_xvalue.specs.declared.fault.XCode.TheVariants.{XPTY0018, XPTY0019}
use Rattle.pj_xvalue.specs.Atomic.{has_node}
use Rattle.pj_xvalue.specs.Items.{ItemValue, Integer, is_node, are_nodes}
use Rattle.pj_xvalue.specs.Boolean.{effective_boolean}
use Rattle.pj_xaxes.specs.Order.{ordered}
use Rattle.pj_xvalue.specs.Arguments.{and_then}
use Rattle.pj_xsteps.specs.Means.{Means, give, fail, judged, ◌>>=◌, chain}
use Rattle.pj_xsteps.specs.Context.{Variables, Denotation, at}

-- the items with their positions, from one on
abbrev pub numbered : ℕ → List ItemValue → List (ℕ × ItemValue)
numbered position [] = []
numbered position (item ∷ items) = (position, item) ∷ numbered (position + 1) items

-- where the item of a turn is the context, among so many
abbrev pub in_turn : Denotation → ℕ → Variables → ℕ × ItemValue → Means (List ItemValue)
in_turn d size variables turn = d (at turn.1 turn.0 size) variables

-- whether a predicate of this value keeps what stands at the position: one integer is a position
abbrev pub keeps : ℤ → List ItemValue → Result Bool XCode
keeps position (Integer z ∷ []) = Ok (int_eq z position)
keeps position value = effective_boolean value

abbrev pub kept : Bool → ItemValue → List ItemValue
kept keeps item = if keeps then item ∷ [] else []

-- the items found, with the turn's item where the predicate's value keeps it
abbrev pub with_kept : ℕ × ItemValue → List ItemValue → List ItemValue → Result (List ItemValue) XCode
with_kept turn found value = and_then (keeps (pos turn.0) value) (λ stays. Ok (found ++ kept stays turn.1))

abbrev pub with_all : {X : Type 0} → X → List ItemValue → List ItemValue → Result (List ItemValue) XCode
with_all x found value = Ok (found ++ value)

-- the items that pass a predicate
abbrev pub passing : Variables → Denotation → List ItemValue → Means (List ItemValue)
passing variables predicate items = chain (in_turn predicate (length items) variables) with_kept (numbered 1 items) []

-- only nodes have steps of a path behind them
abbrev pub step_in_turn : Denotation → ℕ → Variables → ℕ × ItemValue → Means (List ItemValue)
step_in_turn d size variables turn = if is_node turn.1 then in_turn d size variables turn else fail XPTY0019

-- what the turns of a step give: nodes in document order, each once, or other items as they come
abbrev pub united : List ItemValue → Result (List ItemValue) XCode
united items = if are_nodes items then Ok (ordered items) else (if has_node items then Err XPTY0018 else Ok items)

-- what a step of a path gives over the items before it
abbrev pub walked : Variables → Denotation → List ItemValue → Means (List ItemValue)
walked variables step items = chain (step_in_turn step (length items) variables) with_all (numbered 1 items) [] >>= λ found. judged (united found)

-- what a part of a simple map gives over the items before it
abbrev pub mapped : Variables → Denotation → List ItemValue → Means (List ItemValue)
mapped variables part items = chain (in_turn part (length items) variables) with_all (numbered 1 items) []

-- one after the other, each over the items of the one before it
abbrev pub through : (Denotation → List ItemValue → Means (List ItemValue)) → List Denotation → List ItemValue → Means (List ItemValue)
through turned [] items = give items
through turned (d ∷ ds) items = turned d items >>= λ found. through turned ds found

-- the items that pass all predicates
abbrev pub narrowed : Variables → List Denotation → List ItemValue → Means (List ItemValue)
narrowed variables = through (passing variables)

-- the first of a path's steps, and each further one over the nodes of what stands before it
abbrev pub path : List Denotation → Denotation
path [] context variables = give []
path (first ∷ rest) context variables = first context variables >>= λ items. through (walked variables) rest items

-- the first part of a simple map, and each further one over the items of what stands before it
abbrev pub simple_map : List Denotation → Denotation
simple_map [] context variables = give []
simple_map (first ∷ rest) context variables = first context variables >>= λ items. through (mapped variables) rest items
