use Rattle.std.proofs.Common.{subst}
use Rattle.pj_peg_grammar.proofs.Nodes.{node_at}
use Rattle.pj_peg_grammar.proofs.Roots.{AddsRoots, adds_root, rules_more}
use Rattle.pj_peg_grammar.proofs.compile.compile.Goals as goal

pub loop-rule-preserved : goal.loop-rule-preserved
loop-rule-preserved c =
    subst (AddsRoots c.add_item.new.nodes.items c.add_item.new.stars.items c.push.new.self.items)
    (rules_more c.args.rules.now c.loop-rule.rule-index c.rule-item.result c.loop-rule-test.true c.rule-item.is)
    (adds_root _ _ _ _ _ _ _ _ _ c.loop-rule.invariant c.in_ok-root.ensures c.in_ok-push.ensures.items)

pub returns-clause-program : goal.returns-clause-program
returns-clause-program c = record {
  nodes_are = c.loop-rule.invariant.nodes_are;
  there = c.loop-rule.invariant.there;
  used = c.loop-rule.invariant.used;
  stands = λ k n is. node_at _ _ k n c.loop-rule.invariant.nodes_are is;
}
