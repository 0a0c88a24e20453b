-- What was found out of a grammar's rules.
use Rattle.std.specs.Prelude.{◌≡◌, ℕ, Bool, List, length, map, Vec}
use Rattle.std.specs.Global.{Global}
use Rattle.pj_peg_grammar.specs.declared.analysis.Facts.{Facts}
use Rattle.pj_peg_grammar.specs.declared.program.Program.{Program}
use Rattle.pj_peg_grammar.specs.Form.{Form}
use Rattle.pj_peg_grammar.specs.Program.{IsProgram, rules_of, forms_in}
use Rattle.pj_peg_grammar.specs.Analysis.{AreNullableRules, facts_by, is_set, begun_by}

-- the facts of each node, and the calls of each rule at one place
pub record IsAnalysis (rules : List Form) (program : Program) (facts : List Facts) (graph : List (Vec ℕ Global)) : Type 0 where
  pub program_is : IsProgram program
  pub rules_are : rules_of program ≡ rules
  pub empty : List Bool
  pub empty_are : AreNullableRules rules empty
  pub facts_are : facts ≡ map (facts_by (is_set empty) (length rules)) (forms_in program.nodes.items)
  pub graph_is : map (λ (v : Vec ℕ Global). v.items) graph ≡ map (begun_by (is_set empty)) rules
