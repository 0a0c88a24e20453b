-- Where rule 0 ends from the first place on.
use Rattle.std.proofs.Common.{◌≡◌, ℕ, ◌<◌, ◌≤◌, List, length, Option, Some, None, sym, ◌∙◌, ap, subst, arith}
use Rattle.std.specs.Prelude.{slice_get}
use Rattle.pj_peg_grammar.specs.declared.item.Item.{Item}
use Rattle.pj_peg_grammar.specs.declared.derivation.Step.{Step}
use Rattle.pj_peg.specs.declared.plan.Plan.{Plan}
use Rattle.pj_peg_grammar.specs.Form.{rule, forms_of}
use Rattle.pj_peg_grammar.specs.Derivation.{Forest, steps_of}
use Rattle.pj_peg_grammar.specs.Derives.{Derives, To, Fails, DerivesSteps, FailsAtStart}
use Rattle.pj_peg_grammar.specs.Program.{form_at, forms_in, rules_of}
use Rattle.pj_peg.specs.Ends.{Ends}
use Rattle.pj_peg.specs.Made.{IsMade}
use Rattle.pj_peg.proofs.Safe.{root_form, roots_length, rule_ends}

module _ (items now : List Item) (plan : Plan) (kinds : List ℕ) (made : IsMade (forms_of items) plan) (view : items ≡ now) where
  same_rules : rules_of plan.program ≡ forms_of now
  same_rules = made.rules_are ∙ ap forms_of view

  -- there is a rule 0
  pub some_root : 0 < length plan.program.roots.items
  some_root =
      let len = roots_length plan.program kinds in
      let rules = ap length made.rules_are in
      let some = made.some in
      omega arith

  module _ (k : ℕ) (o : Option ℕ) (root : slice_get plan.program.roots.items 0 ≡ Some k) (ends : Ends (rules_of plan.program) kinds (form_at (forms_in plan.program.nodes.items) k) 0 o) where
    pub started : (q : Option ℕ) → o ≡ q → Ends (rules_of plan.program) kinds (rule 0) 0 q
    started q same = subst (Ends (rules_of plan.program) kinds (rule 0) 0) same (rule_ends plan.program kinds 0 0 (form_at (forms_in plan.program.nodes.items) k) o (root_form plan.program 0 k root) ends)

    pub started_fails : o ≡ None → FailsAtStart (forms_of now) kinds
    started_fails same = subst (λ rules. Derives rules kinds (rule 0) 0 Fails) same_rules (started None same)

    pub started_steps : (j : ℕ) (steps result : List Step) → o ≡ Some j →
        ((d : Forest) → Derives (rules_of plan.program) kinds (rule 0) 0 (To j d) → steps ≡ steps_of d) → result ≡ steps → DerivesSteps (forms_of now) kinds result
    started_steps j steps result same steps_are r =
        let (d, x) = started (Some j) same in
        (j, d, subst (λ rules. Derives rules kinds (rule 0) 0 (To j d)) same_rules x, r ∙ steps_are d x)
