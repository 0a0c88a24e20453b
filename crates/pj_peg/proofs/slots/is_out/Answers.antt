use Rattle.std.proofs.Common.{◌≡◌, ℕ, ◌-◌, ◌<◌, ◌∙◌, Some, length, true, refl, subst, arith}
use Rattle.std.specs.Prelude.{slice_get}
use Rattle.std.proofs.lemmas.Option.{slice_get_read}
use Rattle.pj_peg_grammar.specs.Program.{form_at, forms_in, rules_of}
use Rattle.pj_peg_grammar.specs.Firsts.{IsAlwaysRuledOut}
use Rattle.pj_peg.specs.Slots.{IsOutAt}
use Rattle.pj_peg.proofs.Bools.{on_true, true_on}
use Rattle.pj_peg.proofs.Columns.{rule_out_at, star_out_at}
use Rattle.pj_peg.proofs.slots.is_out.Goals as goal

pub returns-then-column-rules : goal.returns-then-column-rules
returns-then-column-rules c =
    let small : c.args.kind < 128 = omega (arith, c.if-kind-ge-KINDS.false) in
    let lt : c.args.column < length c.args.program.now.roots.items = omega (arith, c.if-column-rules.true, c.len-rules.ensures, c.args.program.now.roots.ok.0) in
    let at = slice_get_read c.args.program.now.roots.items (length c.args.program.now.roots.items) c.args.column c.index.result.now refl lt c.index.ensures in
    let out : c.rules_out.result ≡ true → IsOutAt c.args.program.now c.args.kind c.args.column =
    λ e. rule_out_at c.args.program.now c.args.kind small c.requires.program c.requires.well_formed c.args.column c.index.result.now at
    (true_on c.rules_out.result (IsAlwaysRuledOut (rules_of c.args.program.now) c.args.kind (form_at (forms_in c.args.program.now.nodes.items) c.index.result.now)) c.rules_out.ensures e) in
    on_true _ _ out

pub returns-else-column-rules : goal.returns-else-column-rules
returns-else-column-rules c =
    let small : c.args.kind < 128 = omega (arith, c.if-kind-ge-KINDS.false) in
    let same : c.len-rules.result ≡ length c.args.program.now.roots.items = c.len-rules.ensures ∙ c.args.program.now.roots.ok.0 in
    let column = c.requires.column in
    let above = c.if-column-rules.false in
    let lt : c.args.column - c.len-rules.result < length c.args.program.now.stars.items = omega arith in
    let at = subst (λ (n : ℕ). slice_get c.args.program.now.stars.items (c.args.column - n) ≡ Some c.index-else-column-rules.result.now) same
    (slice_get_read c.args.program.now.stars.items (length c.args.program.now.stars.items) (c.args.column - c.len-rules.result) c.index-else-column-rules.result.now refl lt c.index-else-column-rules.ensures) in
    let out : c.rules_out-else-column-rules.result ≡ true → IsOutAt c.args.program.now c.args.kind c.args.column =
    λ e. star_out_at c.args.program.now c.args.kind small c.requires.program c.requires.well_formed c.args.column c.index-else-column-rules.result.now (omega arith) at
    (true_on c.rules_out-else-column-rules.result (IsAlwaysRuledOut (rules_of c.args.program.now) c.args.kind (form_at (forms_in c.args.program.now.nodes.items) c.index-else-column-rules.result.now)) c.rules_out-else-column-rules.ensures e) in
    on_true _ _ out
