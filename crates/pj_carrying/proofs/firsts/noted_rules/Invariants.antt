use Rattle.std.proofs.Common.{◌≡◌, drop}
use Rattle.pj_carry.specs.Carried.{first_rules, with_rules}
use Rattle.pj_carrying.proofs.firsts.noted_rules.Given as goal

abbrev pub invariant-loop-place : goal.invariant-loop-place
invariant-loop-place l = with_rules l.held.entries l.place (drop l.place l.keys) ≡ first_rules l.keys
