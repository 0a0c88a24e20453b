use Rattle.std.proofs.Common.{◌≡◌, ◌++◌, map, take, length}
use Rattle.pj_xvalue.specs.Items.{values_of}
use Rattle.pj_xvalue.specs.OfTree.{ArgumentsOfTree}
use Rattle.pj_xsteps.specs.Context.{around}
use Rattle.pj_xsteps.specs.Operands.{with_values}
use Rattle.pj_xsteps.proofs.calling.valued_behind.Given as goal

abbrev pub invariant-loop-argument : goal.invariant-loop-argument
invariant-loop-argument g l =
    record {
      value : map values_of l.all ≡ map values_of l.fn.before
          ++ map (with_values (around l.setting.tree.now (g.A.Attributes.attribute_of l.setting.facts.now) (g.A.Attributes.names_of l.setting.facts.now) l.setting.patterns.now)) (map values_of (take l.argument-index l.arguments));
      of_tree : ArgumentsOfTree (length l.setting.tree.now.nodes) (map values_of l.all);
    }
