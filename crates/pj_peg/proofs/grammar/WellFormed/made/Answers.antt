use Rattle.std.proofs.Common.{◌∙◌, ◌<◌, ◌≤◌, ◌^◌, sym, subst, ap, length}
use Rattle.std.proofs.lemmas.List.{length-map}
use Rattle.pj_peg_grammar.specs.Form.{form_of}
use Rattle.pj_peg_grammar.specs.WellFormed.{IsWellFormed}
use Rattle.pj_peg_grammar.specs.Program.{form_at, forms_in}
use Rattle.pj_peg.proofs.grammar.WellFormed.made.Goals as goal

pub slots_by_kind-requires-clause-well_formed : goal.slots_by_kind-requires-clause-well_formed
slots_by_kind-requires-clause-well_formed c = subst IsWellFormed (sym c.requires.analysis.rules_are) c.requires.well_formed

pub invariant_of-result : goal.invariant_of-result
invariant_of-result c =
    let items = length-map c.args.rules.items form_of in
    let same = ap length c.requires.analysis.rules_are in
    let roots = length-map c.args.analysis.program.roots.items (form_at (forms_in c.args.analysis.program.nodes.items)) in
    record {
      some = subst (λ n. 0 < n) (sym items) c.requires.some;
      most = subst (λ n. n ≤ 2 ^ 16) (sym items) c.requires.most;
      rules_are = c.requires.analysis.rules_are;
      plan_is = record {
        few = subst (λ n. n ≤ 2 ^ 16) (sym (sym roots ∙ same ∙ items)) c.requires.most;
        program_is = c.requires.analysis.program_is;
        well_formed = subst IsWellFormed (sym c.requires.analysis.rules_are) c.requires.well_formed;
        goings_are = c.requires.goings;
        slots_are = c.in_ok-slots.ensures;
      };
    }
