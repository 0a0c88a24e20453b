use Rattle.std.proofs.Common.{◌<◌, ◌∙◌, ap, map, sym, length, arith}
use Rattle.pj_peg_grammar.specs.Analysis.{is_set}
use Rattle.pj_peg_grammar.specs.Firsts.{beginning_by, set_at}
use Rattle.pj_peg_grammar.proofs.Lists.{read_at}
use Rattle.pj_peg_grammar.proofs.Nodes.{forms_in-nil}
use Rattle.pj_peg_grammar.proofs.FactsLemmas.{facts_more, next_parts, facts_all}
use Rattle.pj_peg_grammar.proofs.firsts.beginnings_of.Goals as goal

pub loop-node-init : goal.loop-node-init
loop-node-init c = c.in_ok-all.ensures.items ∙ ap (map (beginning_by (is_set c.args.empty.now) (set_at c.args.sets.now))) (sym forms_in-nil)

pub beginning_of_node-beginning-requires : goal.beginning_of_node-beginning-requires
beginning_of_node-beginning-requires c =
    let lt : c.loop-node.node-index < length c.args.program.now.nodes.items = omega (arith, c.loop-node-test.true, ap length c.deref-node-items.ensures.value) in (
      c.args.program.now.stars.items,
      next_parts c.args.program.now.nodes.items _ (beginning_by (is_set c.args.empty.now) (set_at c.args.sets.now)) c.loop-node.node-index _ c.deref.result.now c.requires.nodes_are lt
          (read_at _ _ _ _ c.deref-node-items.ensures.value lt) (c.deref.ensures.value ∙ c.loop-node.invariant),
    )

pub loop-node-preserved : goal.loop-node-preserved
loop-node-preserved c =
    let lt : c.loop-node.node-index < length c.args.program.now.nodes.items = omega (arith, c.loop-node-test.true, ap length c.deref-node-items.ensures.value) in
    facts_more (beginning_by (is_set c.args.empty.now) (set_at c.args.sets.now)) c.args.program.now.nodes.items c.loop-node.node-index _ c.loop-node.all.items _ c.beginning_of_node-beginning.result lt
    (read_at _ _ _ _ c.deref-node-items.ensures.value lt) c.loop-node.invariant
    (c.beginning_of_node-beginning.ensures _ (c.deref.ensures.value ∙ c.loop-node.invariant)) c.in_ok-push.ensures.items

pub returns : goal.returns
returns c = facts_all (beginning_by (is_set c.args.empty.now) (set_at c.args.sets.now)) c.args.program.now.nodes.items c.loop-node.node-index _
    (omega (arith, c.loop-node-test.false, ap length c.deref-node-items.ensures.value)) c.loop-node.invariant
