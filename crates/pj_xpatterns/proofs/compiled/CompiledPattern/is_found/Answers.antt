use Rattle.std.proofs.Common.{◌∙◌, ap, is_some, ◌<◌, ℕ, get_or, arith}
use Rattle.std.proofs.Math.Bool.{Bool-set}
use Rattle.std.proofs.Math.Logic.{∥∥₁_elim}
use Rattle.regex.specs.Patterns.{Re, find_str}
use Rattle.pj_xpatterns.proofs.PatternFacts.{is_found-compiled}
use Rattle.pj_xpatterns.proofs.compiled.CompiledPattern.is_found.Goals as goal

pub returns : goal.returns
returns c =
    let bytes : (k : ℕ) → get_or c.args.text.now k 0 < 256 = λ k. omega (arith, c.type_inv.text k) in
    c.is_match.ensures.found ∙ ap (λ (re : Re). is_some (find_str re c.args.text.now 0)) c.in_ok-matcher.ensures.pattern
    ∙ ∥∥₁_elim c.self.invariant (Bool-set _ _) (λ read. is_found-compiled c.self.inside.regex c.self.inside.flags c.args.self.now read c.self.view_is c.args.text.now bytes)
