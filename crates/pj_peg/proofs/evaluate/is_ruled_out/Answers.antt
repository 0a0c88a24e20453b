use Rattle.std.proofs.Common.{◌≡◌, length, refl, true}
use Rattle.std.proofs.lemmas.Option.{slice_get_read}
use Rattle.pj_peg_grammar.specs.Program.{form_at, forms_in, rules_of}
use Rattle.pj_peg_grammar.specs.Firsts.{IsRuledOut, IsAlwaysRuledOut}
use Rattle.pj_peg.proofs.Bools.{on_true, true_on}
use Rattle.pj_peg.proofs.evaluate.is_ruled_out.Goals as goal

pub returns-then-kind-lt-KINDS : goal.returns-then-kind-lt-KINDS
returns-then-kind-lt-KINDS c =
    let kind = slice_get_read c.args.kinds.now (length c.args.kinds.now) c.args.place c.in-Some.kind.now refl c.in-Some.ensures.lookup.3.0 c.in-Some.ensures.lookup.1 in
    let out : c.rules_out.result ≡ true → IsRuledOut (rules_of c.args.plan.now.program) c.args.kinds.now (form_at (forms_in c.args.plan.now.program.nodes.items) c.args.node) c.args.place =
    λ e. true_on c.rules_out.result (IsAlwaysRuledOut (rules_of c.args.plan.now.program) c.in-Some.kind.now (form_at (forms_in c.args.plan.now.program.nodes.items) c.args.node)) c.rules_out.ensures e c.args.kinds.now c.args.place kind in
    on_true _ _ out
