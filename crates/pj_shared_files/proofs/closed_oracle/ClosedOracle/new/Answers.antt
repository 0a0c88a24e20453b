use Rattle.pj_shared_files.proofs.Answering.{right_entries}
use Rattle.pj_shared_files.proofs.closed_oracle.ClosedOracle.new.Goals as goal

pub invariant_of-result : goal.invariant_of-result
invariant_of-result g c = record { right = right_entries g.W.Knowing.world c.args.closed.now.parts.items c.requires; many = c.requires.many }
