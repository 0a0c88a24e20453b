use Rattle.std.proofs.Common.{rules, ◌<◌, refl, length, arith, get_or, [], ◌∷◌, true, false}
use Rattle.pj_peg_grammar.specs.declared.program.Node.TheVariants.{Token, Rule}
use Rattle.pj_peg_grammar.specs.Program.{form_at, forms_in}
use Rattle.pj_peg_grammar.proofs.Lists.{append_nil}
use Rattle.pj_peg_grammar.proofs.Begun.{ends_with, goes_to, goes_on, stops_at, leaf, at_node, fact_bit, stops_in_seq, goes_in_seq}
use Rattle.pj_peg_grammar.proofs.graph.+add_begun.Goals as goal

pub returns-in-Token : goal.returns-in-Token
returns-in-Token t c =
    let (n, is, begins) = leaf (forms_in c.args.nodes.now) (get_or c.args.nodes.now c.loop-node.node (Token 0)) c.in-Token.is in
    ends_with _ _ _ c.requires.nodes.1 _ _ c.loop-node.found.items _ n [] _ c.loop-node.invariant.adds (at_node _ _ _ n c.loop-node.invariant.within is) begins (append_nil c.loop-node.found.items)

pub returns-in-Rule : goal.returns-in-Rule
returns-in-Rule t c =
    ends_with _ _ _ c.requires.nodes.1 _ _ c.loop-node.found.items _ (Rule c.in-Rule.rule) (c.in-Rule.rule ∷ []) _ c.loop-node.invariant.adds
    (at_node _ _ _ _ c.loop-node.invariant.within c.in-Rule.is) (λ _. refl) c.in_ok-push-in-Rule.ensures.items

pub add_begun-requires : goal.add_begun-requires
add_begun-requires t c =
    let parts = c.requires.nodes.1.parts _ _ (at_node _ _ _ _ c.loop-node.invariant.within c.in-Seq.is) in
    (omega arith, (c.requires.nodes, (omega arith, c.requires.facts)))

pub bounds-facts-first : goal.bounds-facts-first
bounds-facts-first t c =
    let parts = c.requires.nodes.1.parts _ _ (at_node _ _ _ _ c.loop-node.invariant.within c.in-Seq.is) in
    omega arith

pub returns-then-not-facts-first : goal.returns-then-not-facts-first
returns-then-not-facts-first t c =
    let at = at_node _ _ _ _ c.loop-node.invariant.within c.in-Seq.is in
    let parts = c.requires.nodes.1.parts _ _ at in
    let lt : c.in-Seq.first < length c.args.nodes.now = omega arith in
    stops_at _ _ _ c.requires.nodes.1 _ _ _ _ _ _ _ c.loop-node.invariant.adds at c.in_ok-add_begun-in-Seq.ensures
    (λ e n facts_are. stops_in_seq e (form_at (forms_in c.args.nodes.now) c.in-Seq.first) (form_at (forms_in c.args.nodes.now) c.in-Seq.rest) (fact_bit c.args.nodes.now c.args.facts.now c.in-Seq.first (record { nullable = false; known = false; repeats = false }) false e n lt c.if-not-facts-first.true facts_are))

pub loop-node-smaller-in-Seq : goal.loop-node-smaller-in-Seq
loop-node-smaller-in-Seq t c = (c.requires.nodes.1.parts _ _ (at_node _ _ _ _ c.loop-node.invariant.within c.in-Seq.is)).1

pub loop-node-preserved-in-Seq : goal.loop-node-preserved-in-Seq
loop-node-preserved-in-Seq t c =
    let at = at_node _ _ _ _ c.loop-node.invariant.within c.in-Seq.is in
    let parts = c.requires.nodes.1.parts _ _ at in
    let lt : c.in-Seq.first < length c.args.nodes.now = omega arith in
    record {
      within = omega arith;
      down = omega arith;
      adds = goes_on _ _ _ c.requires.nodes.1 _ _ _ _ _ _ _ _ c.loop-node.invariant.adds at c.in_ok-add_begun-in-Seq.ensures
          (λ e n facts_are. goes_in_seq e (form_at (forms_in c.args.nodes.now) c.in-Seq.first) (form_at (forms_in c.args.nodes.now) c.in-Seq.rest) (fact_bit c.args.nodes.now c.args.facts.now c.in-Seq.first (record { nullable = false; known = false; repeats = false }) true e n lt c.if-not-facts-first.false facts_are));
    }

pub add_begun-requires-in-Choice : goal.add_begun-requires-in-Choice
add_begun-requires-in-Choice t c =
    let parts = c.requires.nodes.1.parts _ _ (at_node _ _ _ _ c.loop-node.invariant.within c.in-Choice.is) in
    (omega arith, (c.requires.nodes, (omega arith, c.requires.facts)))

pub loop-node-smaller-in-Choice : goal.loop-node-smaller-in-Choice
loop-node-smaller-in-Choice t c = (c.requires.nodes.1.parts _ _ (at_node _ _ _ _ c.loop-node.invariant.within c.in-Choice.is)).1

pub loop-node-preserved-in-Choice : goal.loop-node-preserved-in-Choice
loop-node-preserved-in-Choice t c =
    let at = at_node _ _ _ _ c.loop-node.invariant.within c.in-Choice.is in
    let parts = c.requires.nodes.1.parts _ _ at in
    record {
      within = omega arith;
      down = omega arith;
      adds = goes_on _ _ _ c.requires.nodes.1 _ _ _ _ _ _ _ _ c.loop-node.invariant.adds at c.in_ok-add_begun-in-Choice.ensures (λ e n facts_are. refl);
    }

pub loop-node-smaller-in-Star : goal.loop-node-smaller-in-Star
loop-node-smaller-in-Star t c = (c.requires.nodes.1.parts _ _ (at_node _ _ _ _ c.loop-node.invariant.within c.in-Star.is)).0

pub loop-node-preserved-in-Star : goal.loop-node-preserved-in-Star
loop-node-preserved-in-Star t c =
    let at = at_node _ _ _ _ c.loop-node.invariant.within c.in-Star.is in
    let parts = c.requires.nodes.1.parts _ _ at in
    record { within = omega arith; down = omega arith; adds = goes_to _ _ _ c.requires.nodes.1 _ _ _ _ _ _ c.loop-node.invariant.adds at (λ e. refl) }

pub loop-node-smaller-in-Maybe : goal.loop-node-smaller-in-Maybe
loop-node-smaller-in-Maybe t c = c.requires.nodes.1.parts _ _ (at_node _ _ _ _ c.loop-node.invariant.within c.in-Maybe.is)

pub loop-node-preserved-in-Maybe : goal.loop-node-preserved-in-Maybe
loop-node-preserved-in-Maybe t c =
    let at = at_node _ _ _ _ c.loop-node.invariant.within c.in-Maybe.is in
    let parts = c.requires.nodes.1.parts _ _ at in
    record { within = omega arith; down = omega arith; adds = goes_to _ _ _ c.requires.nodes.1 _ _ _ _ _ _ c.loop-node.invariant.adds at (λ e. refl) }

pub loop-node-smaller-in-And : goal.loop-node-smaller-in-And
loop-node-smaller-in-And t c = c.requires.nodes.1.parts _ _ (at_node _ _ _ _ c.loop-node.invariant.within c.in-And.is)

pub loop-node-preserved-in-And : goal.loop-node-preserved-in-And
loop-node-preserved-in-And t c =
    let at = at_node _ _ _ _ c.loop-node.invariant.within c.in-And.is in
    let parts = c.requires.nodes.1.parts _ _ at in
    record { within = omega arith; down = omega arith; adds = goes_to _ _ _ c.requires.nodes.1 _ _ _ _ _ _ c.loop-node.invariant.adds at (λ e. refl) }

pub loop-node-smaller : goal.loop-node-smaller
loop-node-smaller t c = c.requires.nodes.1.parts _ _ (at_node _ _ _ _ c.loop-node.invariant.within c.in-Not.is)

pub loop-node-preserved : goal.loop-node-preserved
loop-node-preserved t c =
    let at = at_node _ _ _ _ c.loop-node.invariant.within c.in-Not.is in
    let parts = c.requires.nodes.1.parts _ _ at in
    record { within = omega arith; down = omega arith; adds = goes_to _ _ _ c.requires.nodes.1 _ _ _ _ _ _ c.loop-node.invariant.adds at (λ e. refl) }

pub offset_bounds-facts-first : goal.offset_bounds-facts-first
offset_bounds-facts-first t c =
    let parts = c.requires.nodes.1.parts _ _ (at_node _ _ _ _ c.loop-node.invariant.within c.in-Seq.is) in
    let lt : c.in-Seq.first < length c.args.facts.now = omega arith in
    search rules
