use Rattle.std.proofs.Common.{◌∙◌, ap}
use Rattle.pj_xframes.specs.Scopes.{Scoped, without}
use Rattle.pj_xframes.proofs.Scoping.{without-more}
use Rattle.pj_xframes.proofs.scope.Scope.unbind_all.Goals as goal

pub loop-i-preserved : goal.loop-i-preserved
loop-i-preserved c = c.unbind.ensures ∙ ap (λ (s : Scoped). without 1 s) c.loop-i.invariant ∙ without-more c.loop-i.i c.args.self.now
