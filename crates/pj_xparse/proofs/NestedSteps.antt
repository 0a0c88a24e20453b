-- How deep the text of a path nests, of its steps, and of what stands in parentheses and brackets.
use Rattle.std.proofs.Common.{◌≡◌, ℕ, suc, ◌+◌, ◌≤◌, ⊎_elim, Bool, true, false, List, [], ◌∷◌, map, length, max, Option, Some, None, ap, le_refl, arith}
use Rattle.std.specs.Prelude.{cond}
use Rattle.std.proofs.lemmas.Bool.{cases_Bool, eqb-true, false≢true}
use Rattle.pj_xexpressions.specs.declared.axis.Axis.{Axis}
use Rattle.pj_xexpressions.specs.declared.axis.Axis.TheVariants as axis
use Rattle.pj_xexpressions.specs.declared.expr.NodeTest.{NodeTest}
use Rattle.pj_xexpressions.specs.declared.expr.NodeTest.TheVariants as tests
use Rattle.pj_xexpressions.specs.declared.name.Callee.{Callee}
use Rattle.pj_xexpressions.specs.declared.name.Callee.TheVariants as callee
use Rattle.pj_xexpressions.specs.Names.{axis_of, callee_of}
use Rattle.pj_xexpressions.specs.Trees as tree
use Rattle.pj_xexpressions.specs.Trees.{Tree, Node, NoMore, More, node, alone}
use Rattle.pj_xtokens.specs.Tokens.{Lexed}
use Rattle.pj_xreadings.specs.Steps as forms
use Rattle.pj_xreadings.specs.Nesting.{Nested, operand_before, chain_before, step_before, further_before, enclosed, axis_nesting, test_nesting, nested_of, nested_each}
use Rattle.pj_xreadings.specs.Nodes.{nested_of_node}
use Rattle.pj_xreadings.specs.Operands.{Operand, Arguments, Closed, Next, Behind, Test, Called, Predicates, trees_of, rooted, descendants, path, filtered, arguments_in, named}
use Rattle.pj_xparse.proofs.Gentle.{lower_operand, least_operand, enclosed_operand, node_operand, plain_operand, least_chain}
use Rattle.pj_xparse.proofs.NestedParts.{flag, Stands, IsInside, lower, node_stands, Further}

-- ---- the step that `//` stands for

-- it nests as deep as the parentheses of its test
descendants_operand : (f : Bool) (n : ℕ) (t : Tree) → n ≤ 15 → (nested_of t).is_descendants ≡ true → operand_before f n (nested_of t) ≡ 1
unfolding nested_of nested_each
descendants_operand f n (Node (tree.Step axis.DescendantOrSelf tests.AnyNode) NoMore) le d = plain_operand f n (nested_of (Node (tree.Step axis.DescendantOrSelf tests.AnyNode) NoMore)) le
descendants_operand f n (Node (tree.Step axis.DescendantOrSelf tests.AnyNode) (More first rest)) le d =
    let none : length (nested_of first ∷ nested_each rest) ≡ 0 = eqb-true (length (nested_of first ∷ nested_each rest)) 0 d in absurd (omega arith)
descendants_operand f n (Node _ parts) le d = absurd (false≢true d)

descendants_are : (nested_of forms.descendants).is_descendants ≡ true
descendants_are = ap (λ (n : Nested). n.is_descendants) (nested_of_node (tree.Step axis.DescendantOrSelf tests.AnyNode) [])

module _ (f : Bool) (t u : Tree) (us : List Tree) where
  -- before another step `//` stands for it
  skipped : (nested_of t).is_descendants ≡ true → further_before f (nested_of t) (map nested_of (u ∷ us)) ≡ step_before f (nested_of u) (map nested_of us)
  skipped d = ap (λ (z : Bool). cond z (step_before f (nested_of u) (map nested_of us)) (max (operand_before false 15 (nested_of t)) (further_before f (nested_of u) (map nested_of us)))) d

  written_out : (nested_of t).is_descendants ≡ false →
      further_before f (nested_of t) (map nested_of (u ∷ us)) ≡ max (operand_before false 15 (nested_of t)) (further_before f (nested_of u) (map nested_of us))
  written_out d = ap (λ (z : Bool). cond z (step_before f (nested_of u) (map nested_of us)) (max (operand_before false 15 (nested_of t)) (further_before f (nested_of u) (map nested_of us)))) d

mutual
  -- a step that is written out costs the parentheses of its test at most
  step_costs : (f : Bool) (t : Tree) (ts : List Tree) → step_before f (nested_of t) (map nested_of ts) ≤ max 1 (further_before f (nested_of t) (map nested_of ts))
  step_costs f t [] = omega arith
  step_costs f t (u ∷ us) =
      let less = further_less f u us in
      ⊎_elim
      (λ (d : (nested_of t).is_descendants ≡ true). let is = skipped f t u us d in let one = descendants_operand false 15 t (omega arith) d in omega arith)
      (λ (d : (nested_of t).is_descendants ≡ false). let is = written_out f t u us d in omega arith)
      (cases_Bool (nested_of t).is_descendants)

  further_less : (f : Bool) (t : Tree) (ts : List Tree) → further_before f (nested_of t) (map nested_of ts) ≤ step_before f (nested_of t) (map nested_of ts)
  further_less f t [] = omega arith
  further_less f t (u ∷ us) =
      let costs = step_costs f u us in
      ⊎_elim
      (λ (d : (nested_of t).is_descendants ≡ true). let is = skipped f t u us d in let one = descendants_operand false 15 t (omega arith) d in omega arith)
      (λ (d : (nested_of t).is_descendants ≡ false). let is = written_out f t u us d in omega arith)
      (cases_Bool (nested_of t).is_descendants)

-- ---- paths

-- the steps of a path, of which there is one
pub data AreSteps (d : ℕ) (ys : List Lexed) : List Operand → Type 0 where
  steps : {a : Operand} {more : List Operand} → d + step_before (flag ys) (nested_of a.tree) (map nested_of (trees_of more)) ≤ 200 → AreSteps d ys (a ∷ more)

-- further steps, with one before them
pub record FurtherSteps (d : ℕ) (xs ys : List Lexed) (more : List Operand) : Type 0 where
  pub behind : (t : Tree) → Stands 15 d xs t → d + step_before (flag ys) (nested_of t) (map nested_of (trees_of more)) ≤ 200

pub no_steps : {d : ℕ} {xs : List Lexed} → FurtherSteps d xs xs []
no_steps = record { behind = λ t h. h.room }

pub one_step : {d : ℕ} {xs ys zs : List Lexed} (next : Operand) (more : List Operand) → Stands 15 d ys next.tree → FurtherSteps d ys zs more → FurtherSteps d xs zs (next ∷ more)
one_step {xs = xs} {zs = zs} next more h g = record {
  behind = λ t i.
      let least = least_operand (flag xs) 15 t in
      let rest = g.behind next.tree h in
      let less = further_less (flag zs) next.tree (trees_of more) in
      omega (arith, i.room);
}

pub descendants_step : {d : ℕ} {xs ys zs : List Lexed} (next : Operand) (more : List Operand) → Stands 15 d ys next.tree → FurtherSteps d ys zs more → FurtherSteps d xs zs (descendants ∷ next ∷ more)
descendants_step {xs = xs} {zs = zs} next more h g = record {
  behind = λ t i.
      let least = least_operand (flag xs) 15 t in
      let rest = g.behind next.tree h in
      let is = skipped (flag zs) forms.descendants next.tree (trees_of more) descendants_are in
      omega (arith, i.room);
}

root_operand : operand_before false 14 (nested_of (alone tree.Root)) ≡ 0
root_operand = node_operand false 14 tree.Root [] (omega arith)

pub rooted_stands : {d : ℕ} {ys : List Lexed} {way : List Operand} → AreSteps d ys way → Stands 13 d ys (rooted way).tree
rooted_stands {ys = ys} (steps {a} {more} h) =
    let none_deep = root_operand in
    let less = further_less (flag ys) a.tree (trees_of more) in
    node_stands tree.Path (alone tree.Root ∷ a.tree ∷ trees_of more) (omega arith) (omega arith)

pub rooted_descendants_stand : {d : ℕ} {ys : List Lexed} {way : List Operand} → AreSteps d ys way → Stands 13 d ys (rooted (descendants ∷ way)).tree
rooted_descendants_stand {ys = ys} (steps {a} {more} h) =
    let none_deep = root_operand in
    let is = skipped (flag ys) forms.descendants a.tree (trees_of more) descendants_are in
    node_stands tree.Path (alone tree.Root ∷ forms.descendants ∷ a.tree ∷ trees_of more) (omega arith) (omega arith)

pub path_stands : {d : ℕ} {ys : List Lexed} {way : List Operand} → AreSteps d ys way → Stands 13 d ys (path way).tree
path_stands (steps {a} {more = []} h) = lower {m = 15} (omega arith) (record { room = h })
path_stands (steps {a} {more = u ∷ us} h) =
    let less = lower_operand false 14 15 a.tree (omega arith) in
    node_stands tree.Path (a.tree ∷ u.tree ∷ trees_of us) (omega arith) (omega arith)

-- ---- predicates

-- predicates, and what stands before them
pub data AreInside (d : ℕ) (xs : List Lexed) : List Lexed → List Operand → Type 0 where
  none_inside : AreInside d xs xs []
  some_inside : {ys : List Lexed} {a : Operand} {more : List Operand} → d + enclosed (map nested_of (a.tree ∷ trees_of more)) ≤ 200 → AreInside d xs ys (a ∷ more)

pub predicates_within : {d : ℕ} {xs ys : List Lexed} {predicates : List Operand} → d ≤ 200 → AreInside d xs ys predicates → d + enclosed (map nested_of (trees_of predicates)) ≤ 200
predicates_within h none_inside = omega arith
predicates_within h (some_inside g) = g

pub one_inside : {d : ℕ} {xs ys zs : List Lexed} (a : Operand) (more : List Operand) → d ≤ 200 → IsInside (suc d) a.tree → AreInside d ys zs more → AreInside d xs zs (a ∷ more)
one_inside a more h g i = let rest = predicates_within h i in some_inside (omega (arith, g.room))

pub filtered_stands : {d : ℕ} {xs ys : List Lexed} {predicates : List Operand} (a : Operand) → Stands 16 d xs a.tree → AreInside d xs ys predicates → Stands 15 d ys (filtered a predicates).tree
filtered_stands a h none_inside = lower {m = 16} (omega arith) h
filtered_stands {xs = xs} a h (some_inside {a = p} {more} g) =
    let least = least_operand (flag xs) 16 a.tree in
    node_stands tree.Filter (a.tree ∷ p.tree ∷ trees_of more) (omega arith) (omega (arith, h.room))

-- ---- steps and calls

pub step_stands : {d : ℕ} {ys : List Lexed} (a : Axis) (t : NodeTest) (ps : List Tree) → d + axis_nesting a t ≤ 200 → d + enclosed (map nested_of ps) ≤ 200 → Stands 15 d ys (node (tree.Step a t) ps)
step_stands a t ps h g = node_stands (tree.Step a t) ps (omega arith) (omega arith)

pub attribute_stands : {d : ℕ} {ys : List Lexed} (t : NodeTest) (ps : List Tree) → d + test_nesting t ≤ 200 → d + enclosed (map nested_of ps) ≤ 200 → Stands 15 d ys (node (tree.AttributeStep t) ps)
attribute_stands t ps h g = node_stands (tree.AttributeStep t) ps (omega arith) (omega arith)

-- no axis makes more of a test
axis_less : (a : Axis) (t : NodeTest) → axis_nesting a t ≤ test_nesting t
axis_less axis.Parent (tests.Name name) = omega arith
axis_less axis.Parent tests.AnyName = omega arith
axis_less axis.Parent tests.AnyNode = omega arith
axis_less axis.Parent tests.AnyElement = omega arith
axis_less axis.Child t = le_refl (test_nesting t)
axis_less axis.Descendant t = le_refl (test_nesting t)
axis_less axis.SelfNode t = le_refl (test_nesting t)
axis_less axis.DescendantOrSelf t = le_refl (test_nesting t)
axis_less axis.FollowingSibling t = le_refl (test_nesting t)
axis_less axis.Following t = le_refl (test_nesting t)
axis_less axis.Ancestor t = le_refl (test_nesting t)
axis_less axis.PrecedingSibling t = le_refl (test_nesting t)
axis_less axis.Preceding t = le_refl (test_nesting t)
axis_less axis.AncestorOrSelf t = le_refl (test_nesting t)

along_stands : {d : ℕ} {ys : List Lexed} (a : Option Axis) (t : NodeTest) (ps : List Tree) → d + test_nesting t ≤ 200 → d + enclosed (map nested_of ps) ≤ 200 → Stands 15 d ys (forms.along a t ps)
along_stands (Some a) t ps h g = let less = axis_less a t in step_stands a t ps (omega arith) g
along_stands None t ps h g = attribute_stands t ps h g

called_operand : (f : Bool) (n : ℕ) (c : Option Callee) (ts : List Tree) → n ≤ 16 → operand_before f n (nested_of (forms.called c ts)) ≤ 1 + chain_before false false 1 (map nested_of ts)
called_operand f n None ts le = let same = node_operand f n tree.Comma [] le in omega arith
called_operand f n (Some (callee.XPath function)) ts le = let same = node_operand f n (tree.Call function) ts le in omega arith
called_operand f n (Some (callee.Pmd function)) ts le = let same = node_operand f n (tree.PmdCall function) ts le in omega arith

called_stands : {d : ℕ} {ys : List Lexed} (c : Option Callee) (ts ps : List Tree) → d + (1 + chain_before false false 1 (map nested_of ts)) ≤ 200 → d + enclosed (map nested_of ps) ≤ 200 →
    Stands 15 d ys (forms.filtered (forms.called c ts) ps)
called_stands {ys = ys} c ts [] h g = let here = called_operand (flag ys) 15 c ts (omega arith) in record { room = omega arith }
called_stands c ts (p ∷ ps) h g = let inside = called_operand false 16 c ts (omega arith) in node_stands tree.Filter (forms.called c ts ∷ p ∷ ps) (omega arith) (omega arith)

-- arguments, in parentheses
pub record AreArguments (d : ℕ) (arguments : Arguments) : Type 0 where
  pub room : d + chain_before false false 1 (map nested_of (trees_of (arguments_in arguments))) ≤ 200

pub none_within : {d : ℕ} → d ≤ 200 → AreArguments d Closed
none_within h = record { room = omega arith }

pub some_within : {from d : ℕ} {xs ys : List Lexed} {a : Operand} {more : Arguments} → Stands 1 d xs a.tree → Further 1 false d xs ys (trees_of (arguments_in more)) → AreArguments d (Next from a more)
some_within {ys = ys} {a} {more} h g =
    let least = least_chain (flag ys) false 1 (a.tree ∷ trees_of (arguments_in more)) in
    let all = g.behind a.tree h in
    record { room = omega arith }

-- what stands behind a name in a step
pub data IsBehindName (d : ℕ) : Behind → Type 0 where
  a_test : {test : NodeTest} {predicates : List Operand} → d + test_nesting test ≤ 200 → d + enclosed (map nested_of (trees_of predicates)) ≤ 200 → IsBehindName d (Test test predicates)
  a_call : {arguments : Arguments} {predicates : List Operand} → d + (1 + chain_before false false 1 (map nested_of (trees_of (arguments_in arguments)))) ≤ 200 → d + enclosed (map nested_of (trees_of predicates)) ≤ 200 →
      IsBehindName d (Called arguments predicates)
  predicates_alone : {xs ys : List Lexed} {predicates : List Operand} → AreInside d xs ys predicates → IsBehindName d (Predicates predicates)

pub called_behind : {d : ℕ} {xs ys : List Lexed} {arguments : Arguments} {predicates : List Operand} → suc d ≤ 200 → d ≤ 200 → (suc d ≤ 200 → AreArguments (suc d) arguments) → AreInside d xs ys predicates →
    IsBehindName d (Called arguments predicates)
called_behind h g within i = let all = within h in a_call (omega (arith, all.room)) (predicates_within g i)

pub named_stands : {d : ℕ} {ys : List Lexed} {tail : Behind} (tokens : List Lexed) (name : List ℕ) → d ≤ 200 → IsBehindName d tail → Stands 15 d ys (named tokens name tail).tree
named_stands tokens name h (a_test {test} {predicates} m g) = along_stands (axis_of name) test (trees_of predicates) m g
named_stands tokens name h (a_call {arguments} {predicates} m g) = called_stands (callee_of name) (trees_of (arguments_in arguments)) (trees_of predicates) m g
named_stands tokens name h (predicates_alone {predicates = predicates} g) = step_stands axis.Child (tests.Name name) (trees_of predicates) (omega arith) (predicates_within h g)

-- ---- parentheses

-- what parentheses hold: with these around it, it stands where one thing less is open
pub record IsParenthesized (d : ℕ) (t : Tree) : Type 0 where
  pub room : (f : Bool) → d + operand_before f 16 (nested_of t) ≤ 201

pub expression_inside : {d : ℕ} {t : Tree} → IsInside d t → IsParenthesized d t
expression_inside {t = t} h = record { room = λ f. let within = enclosed_operand f 16 t in omega (arith, h.room) }

pub nothing_inside : {d : ℕ} → d ≤ 200 → IsParenthesized d forms.empty_sequence
nothing_inside h = record { room = λ f. let same = node_operand f 16 tree.Comma [] (omega arith) in omega arith }

pub parenthesized_stands : {d : ℕ} {ys : List Lexed} {t : Tree} → IsParenthesized (suc d) t → Stands 16 d ys t
parenthesized_stands {ys = ys} h = let room = h.room (flag ys) in record { room = omega arith }
