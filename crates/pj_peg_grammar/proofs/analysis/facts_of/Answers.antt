use Rattle.std.proofs.Common.{◌<◌, ◌∙◌, ap, map, sym, length, arith}
use Rattle.pj_peg_grammar.specs.Analysis.{facts_by, is_set}
use Rattle.pj_peg_grammar.proofs.Lists.{read_at}
use Rattle.pj_peg_grammar.proofs.Nodes.{forms_in-nil}
use Rattle.pj_peg_grammar.proofs.FactsLemmas.{facts_more, next_parts, facts_all}
use Rattle.pj_peg_grammar.proofs.analysis.facts_of.Goals as goal

pub loop-node-init : goal.loop-node-init
loop-node-init c = c.new-facts.ensures.items ∙ ap (map (facts_by (is_set c.args.empty.now) (length c.args.empty.now))) (sym forms_in-nil)

pub facts_of_node-fact-requires : goal.facts_of_node-fact-requires
facts_of_node-fact-requires c =
    let lt : c.loop-node.node-index < length c.args.program.now.nodes.items = omega (arith, c.loop-node-test.true, ap length c.deref-node-items.ensures.value) in (
      c.args.program.now.stars.items,
      next_parts c.args.program.now.nodes.items _ (facts_by (is_set c.args.empty.now) (length c.args.empty.now)) c.loop-node.node-index _ c.deref.result.now c.requires.nodes_are lt
          (read_at _ _ _ _ c.deref-node-items.ensures.value lt) (c.deref.ensures.value ∙ c.loop-node.invariant),
    )

pub loop-node-preserved : goal.loop-node-preserved
loop-node-preserved c =
    let lt : c.loop-node.node-index < length c.args.program.now.nodes.items = omega (arith, c.loop-node-test.true, ap length c.deref-node-items.ensures.value) in
    facts_more (facts_by (is_set c.args.empty.now) (length c.args.empty.now)) c.args.program.now.nodes.items c.loop-node.node-index _ c.loop-node.facts.items _ c.facts_of_node-fact.result lt
    (read_at _ _ _ _ c.deref-node-items.ensures.value lt) c.loop-node.invariant
    (c.facts_of_node-fact.ensures _ (c.deref.ensures.value ∙ c.loop-node.invariant)) c.in_ok-push.ensures.items

pub returns : goal.returns
returns c = facts_all (facts_by (is_set c.args.empty.now) (length c.args.empty.now)) c.args.program.now.nodes.items c.loop-node.node-index _
    (omega (arith, c.loop-node-test.false, ap length c.deref-node-items.ensures.value)) c.loop-node.invariant
