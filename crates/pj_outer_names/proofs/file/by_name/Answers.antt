use Rattle.std.proofs.Common.{◌-◌, arith}
use Rattle.pj_outer_names.proofs.ByName.{finds-more}
use Rattle.pj_outer_names.proofs.file.by_name.Goals as goal

pub loop-i-preserved : goal.loop-i-preserved
loop-i-preserved c =
    finds-more c.as_slice-classes.result.now (c.loop-i.i - 1) c.loop-i.i c.loop-i.by_name c.insert.new.self c.as_str.result.now _ (omega arith) (omega arith) c.index-classes-i.is c.as_str.ensures c.loop-i.invariant
    c.in_ok-insert.ensures.updates
