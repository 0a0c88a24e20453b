-- What stands behind an expression adds one at most to how deep its text nests.
use Rattle.std.proofs.Common.{◌≡◌, ℕ, suc, ◌+◌, ◌<◌, ◌≤◌, ◌⊎◌, inl, inr, ⊎_elim, Bool, true, false, List, [], ◌∷◌, map, length, max, refl, ◌∙◌, ap, arith}
use Rattle.std.specs.Prelude.{⊤, cond, nat_lt, nat_eq}
use Rattle.std.proofs.lemmas.Bool.Decides.{leb_tells}
use Rattle.pj_xexpressions.specs.Trees as tree
use Rattle.pj_xexpressions.specs.Trees.{Tree, Trees, Construct, Node, NoMore, More, node}
use Rattle.pj_xreadings.specs.Shapes.{level_by}
use Rattle.pj_xreadings.specs.Nodes.{nested_as, nested_of_node}
use Rattle.pj_xreadings.specs.Nesting.{Nested, operand_before, chain_before, clauses_before, choice_before, enclosed, filter_inside, step_before, further_before, steps_before, axis_nesting, test_nesting, nested_by, nested_of, nested_each}

-- The number is one more at most where a word or a `*` stands behind, and not less.
pub record IsGentle (f : Bool → ℕ) : Type 0 where
  pub up : f false ≤ f true
  pub near : f true ≤ 1 + f false

pub constant : (n : ℕ) → IsGentle (λ b. n)
constant n = record { up = omega arith; near = omega arith }

pub one_more : {f : Bool → ℕ} → IsGentle f → IsGentle (λ b. 1 + f b)
one_more a = record { up = omega (arith, a.up); near = omega (arith, a.near) }

pub greater : {f g : Bool → ℕ} → IsGentle f → IsGentle g → IsGentle (λ b. max (f b) (g b))
greater a b = record { up = omega (arith, a.up, b.up); near = omega (arith, a.near, b.near) }

pub either : (c : Bool) {f g : Bool → ℕ} → IsGentle f → IsGentle g → IsGentle (λ b. cond c (f b) (g b))
either true a b = a
either false a b = b

pub operand_gentle : (least : ℕ) (p : Nested) → IsGentle p.nesting → IsGentle (λ b. operand_before b least p)
operand_gentle least p a = either (nat_lt p.level least) (constant (1 + p.nesting false)) a

pub AllGentle : List Nested → Type 0
AllGentle [] = ⊤
AllGentle (p ∷ ps) = IsGentle p.nesting × AllGentle ps

pub chain_gentle : (mark : Bool) (least : ℕ) (ps : List Nested) → AllGentle ps → IsGentle (λ b. chain_before b mark least ps)
unfolding AllGentle
chain_gentle mark least [] h = constant 0
chain_gentle mark least (p ∷ []) h = operand_gentle least p h.0
chain_gentle mark least (p ∷ q ∷ ps) h = greater (constant (operand_before mark least p)) (chain_gentle mark least (q ∷ ps) h.1)

pub clauses_gentle : (ps : List Nested) → AllGentle ps → IsGentle (λ b. clauses_before b ps)
unfolding AllGentle
clauses_gentle [] h = constant 0
clauses_gentle (p ∷ []) h = one_more (operand_gentle 1 p h.0)
clauses_gentle (p ∷ q ∷ []) h = greater (constant (1 + operand_before true 1 p)) (one_more (operand_gentle 1 q h.1.0))
clauses_gentle (p ∷ q ∷ r ∷ ps) h = greater (constant (1 + operand_before false 1 p)) (clauses_gentle (q ∷ r ∷ ps) h.1)

choice_gentle : (ps : List Nested) → AllGentle ps → IsGentle (λ b. choice_before b ps)
unfolding AllGentle
choice_gentle [] h = constant 0
choice_gentle (p ∷ ps) h = greater (constant (1 + p.nesting false)) (clauses_gentle ps h.1)

mutual
  unfolding AllGentle

  step_gentle : (p : Nested) (ps : List Nested) → IsGentle p.nesting → AllGentle ps → IsGentle (λ b. step_before b p ps)
  step_gentle p [] h hs = operand_gentle 15 p h
  step_gentle p (q ∷ ps) h hs = greater (constant (operand_before false 15 p)) (further_gentle q ps hs.0 hs.1)

  further_gentle : (p : Nested) (ps : List Nested) → IsGentle p.nesting → AllGentle ps → IsGentle (λ b. further_before b p ps)
  further_gentle p [] h hs = operand_gentle 15 p h
  further_gentle p (q ∷ ps) h hs =
      either p.is_descendants (step_gentle q ps hs.0 hs.1) (greater (constant (operand_before false 15 p)) (further_gentle q ps hs.0 hs.1))

steps_gentle : (ps : List Nested) → AllGentle ps → IsGentle (λ b. steps_before b ps)
unfolding AllGentle
steps_gentle [] h = constant 0
steps_gentle (p ∷ []) h = constant (operand_before false 14 p)
steps_gentle (p ∷ q ∷ ps) h = greater (constant (operand_before false 14 p)) (further_gentle q ps h.1.0 h.1.1)

root_gentle : IsGentle (λ b. cond b 1 0)
root_gentle = record { up = omega arith; near = omega arith }

nested_gentle : (c : Construct) (ps : List Nested) → AllGentle ps → IsGentle (nested_by c ps)
nested_gentle tree.Comma ps h = either (nat_eq (length ps) 0) (constant 1) (chain_gentle false 1 ps h)
nested_gentle (tree.For names) ps h = clauses_gentle ps h
nested_gentle (tree.Let names) ps h = clauses_gentle ps h
nested_gentle (tree.Quantified quantifier names) ps h = clauses_gentle ps h
nested_gentle tree.If ps h = choice_gentle ps h
nested_gentle tree.Or ps h = chain_gentle true 3 ps h
nested_gentle tree.And ps h = chain_gentle true 4 ps h
nested_gentle (tree.Comparison op) ps h = chain_gentle false 5 ps h
nested_gentle tree.Concatenation ps h = chain_gentle false 6 ps h
nested_gentle tree.Range ps h = chain_gentle true 7 ps h
nested_gentle (tree.Additive' operators) ps h = chain_gentle false 8 ps h
nested_gentle (tree.Multiplicative' operators) ps h = chain_gentle true 9 ps h
nested_gentle tree.Union ps h = chain_gentle false 10 ps h
nested_gentle (tree.IntersectExcept operators) ps h = chain_gentle true 11 ps h
nested_gentle (tree.Unary sign) ps h = one_more (chain_gentle false 11 ps h)
nested_gentle tree.SimpleMap ps h = chain_gentle false 13 ps h
nested_gentle tree.Path ps h = steps_gentle ps h
nested_gentle tree.Root ps h = root_gentle
nested_gentle (tree.Step a t) ps h = constant (max (axis_nesting a t) (enclosed ps))
nested_gentle (tree.AttributeStep t) ps h = constant (max (test_nesting t) (enclosed ps))
nested_gentle tree.Filter ps h = constant (filter_inside ps)
nested_gentle (tree.Call function) ps h = constant (1 + chain_before false false 1 ps)
nested_gentle (tree.PmdCall function) ps h = constant (1 + chain_before false false 1 ps)
nested_gentle (tree.Integer value) ps h = constant 0
nested_gentle (tree.String text) ps h = constant 0
nested_gentle (tree.Variable name) ps h = constant 0
nested_gentle tree.ContextItem ps h = constant 0

mutual
  unfolding nested_of nested_each AllGentle

  pub gentle : (t : Tree) → IsGentle (nested_of t).nesting
  gentle (Node c parts) = nested_gentle c (nested_each parts) (gentle_each parts)

  gentle_each : (ts : Trees) → AllGentle (nested_each ts)
  gentle_each NoMore = tt
  gentle_each (More t ts) = (gentle t, gentle_each ts)

-- ---- operands

cond_true : (c : Bool) (x y : ℕ) → c ≡ true → cond c x y ≡ x
cond_true c x y e = ap (λ (b : Bool). cond b x y) e

cond_false : (c : Bool) (x y : ℕ) → c ≡ false → cond c x y ≡ y
cond_false c x y e = ap (λ (b : Bool). cond b x y) e

pub operand_cases : (b : Bool) (least : ℕ) (p : Nested) →
    ((p.level < least) × (operand_before b least p ≡ 1 + p.nesting false)) ⊎ ((least ≤ p.level) × (operand_before b least p ≡ p.nesting b))
operand_cases b least p = ⊎_elim
    (λ (h : (nat_lt p.level least ≡ true) × (suc p.level ≤ least)). inl (omega (arith, h.1), cond_true (nat_lt p.level least) (1 + p.nesting false) (p.nesting b) h.0))
    (λ (h : (nat_lt p.level least ≡ false) × (least < suc p.level)). inr (omega (arith, h.1), cond_false (nat_lt p.level least) (1 + p.nesting false) (p.nesting b) h.0))
    (leb_tells (suc p.level) least)

pub plain_operand : (b : Bool) (least : ℕ) (p : Nested) → least ≤ p.level → operand_before b least p ≡ p.nesting b
plain_operand b least p le = ⊎_elim
    (λ (h : (p.level < least) × (operand_before b least p ≡ 1 + p.nesting false)). absurd (omega (arith, h.0)))
    (λ (h : (least ≤ p.level) × (operand_before b least p ≡ p.nesting b)). h.1)
    (operand_cases b least p)

near_false : (b : Bool) (t : Tree) → (nested_of t).nesting b ≤ 1 + (nested_of t).nesting false
near_false true t = (gentle t).near
near_false false t = omega arith

-- in parentheses
pub enclosed_operand : (b : Bool) (n : ℕ) (t : Tree) → operand_before b n (nested_of t) ≤ 1 + (nested_of t).nesting false
enclosed_operand b n t =
    let near = near_false b t in
    ⊎_elim
    (λ (h : ((nested_of t).level < n) × (operand_before b n (nested_of t) ≡ 1 + (nested_of t).nesting false)). omega (arith, h.1))
    (λ (h : (n ≤ (nested_of t).level) × (operand_before b n (nested_of t) ≡ (nested_of t).nesting b)). omega (arith, h.1))
    (operand_cases b n (nested_of t))

-- an operand of a lower level is in no more parentheses
pub lower_operand : (b : Bool) (n m : ℕ) (t : Tree) → n ≤ m → operand_before b n (nested_of t) ≤ operand_before b m (nested_of t)
lower_operand b n m t le =
    let within = enclosed_operand b n t in
    ⊎_elim
    (λ (h : ((nested_of t).level < m) × (operand_before b m (nested_of t) ≡ 1 + (nested_of t).nesting false)). omega (arith, h.1))
    (λ (h : (m ≤ (nested_of t).level) × (operand_before b m (nested_of t) ≡ (nested_of t).nesting b)).
    let plain = plain_operand b n (nested_of t) (omega (arith, h.0)) in omega (arith, h.1))
    (operand_cases b m (nested_of t))

pub least_operand : (b : Bool) (n : ℕ) (t : Tree) → operand_before false n (nested_of t) ≤ operand_before b n (nested_of t)
least_operand true n t = (operand_gentle n (nested_of t) (gentle t)).up
least_operand false n t = omega arith

pub least_nesting : (b : Bool) (t : Tree) → (nested_of t).nesting false ≤ (nested_of t).nesting b
least_nesting true t = (gentle t).up
least_nesting false t = omega arith

-- where what is asked of the operator stands behind
pub marked_operand : (m b : Bool) (n : ℕ) (t : Tree) → (m ≡ true → b ≡ true) → operand_before m n (nested_of t) ≤ operand_before b n (nested_of t)
marked_operand false b n t h = least_operand b n t
marked_operand true true n t h = omega arith
marked_operand true false n t h = absurd (let z = h refl in cc)

-- ---- nodes

pub node_operand : (b : Bool) (least : ℕ) (c : Construct) (ts : List Tree) → least ≤ level_by c (length (map nested_of ts)) → operand_before b least (nested_of (node c ts)) ≡ nested_by c (map nested_of ts) b
node_operand b least c ts le = ap (operand_before b least) (nested_of_node c ts) ∙ plain_operand b least (nested_as c (map nested_of ts)) le

all_gentle : (ts : List Tree) → AllGentle (map nested_of ts)
unfolding AllGentle
all_gentle [] = tt
all_gentle (t ∷ ts) = (gentle t, all_gentle ts)

pub least_chain : (b m : Bool) (n : ℕ) (ts : List Tree) → chain_before false m n (map nested_of ts) ≤ chain_before b m n (map nested_of ts)
least_chain true m n ts = (chain_gentle m n (map nested_of ts) (all_gentle ts)).up
least_chain false m n ts = omega arith

-- where any expression may stand
pub open_operand : (b : Bool) (t : Tree) → (nested_of t).nesting false ≤ operand_before b 0 (nested_of t)
open_operand b t =
    let same = plain_operand b 0 (nested_of t) (omega arith) in
    let lower = least_nesting b t in
    omega arith
