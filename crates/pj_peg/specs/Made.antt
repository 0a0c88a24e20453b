-- What a well-formed grammar holds.
use Rattle.std.specs.Prelude.{◌≡◌, ℕ, ◌^◌, ◌<◌, ◌≤◌, List, length}
use Rattle.pj_peg.specs.declared.plan.Plan.{Plan}
use Rattle.pj_peg_grammar.specs.Form.{Form}
use Rattle.pj_peg_grammar.specs.Program.{rules_of}
use Rattle.pj_peg.specs.Plan.{IsPlan}

pub record IsMade (rules : List Form) (plan : Plan) : Type 0 where
  pub some : 0 < length rules
  pub most : length rules ≤ 2 ^ 16
  pub rules_are : rules_of plan.program ≡ rules
  pub plan_is : IsPlan plan
