use Rattle.std.proofs.Common.{◌∙◌, ◌<◌, ℕ, ap, arith, get_or}
use Rattle.std.proofs.Math.Logic.{∥∥₁_elim}
use Rattle.std.proofs.Props.{props}
use Rattle.regex.specs.Patterns.{Re, find_all_str}
use Rattle.regex.specs.Strings.{with_replaced}
use Rattle.pj_xpatterns.proofs.PatternFacts.{replaced-compiled}
use Rattle.pj_xpatterns.proofs.compiled.CompiledPattern.replaced.Goals as goal

pub returns : goal.returns
returns c =
    let bytes : (k : ℕ) → get_or c.args.text.now k 0 < 256 = λ k. omega (arith, c.type_inv.text k) in
    c.from_string.ensures ∙ c.in_ok-replace_all.ensures.value
    ∙ ap (λ (re : Re). with_replaced c.in_ok-matcher.matcher c.args.text.now c.in_ok-template.template (find_all_str re c.args.text.now)) c.in_ok-matcher.ensures.pattern
    ∙ ∥∥₁_elim c.self.invariant (hlevel props) (λ read.
    replaced-compiled c.self.inside.regex c.self.inside.flags c.args.self.now read c.self.view_is c.args.text.now bytes c.in_ok-template.template.pieces.items c.args.by.now _ c.in_ok-template.ensures)
