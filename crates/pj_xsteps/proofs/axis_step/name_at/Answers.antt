use Rattle.std.proofs.Common.{ℕ, Bor, List, sym}
use Rattle.std.proofs.lemmas.List.{get_or-map}
use Rattle.pj_xsteps.proofs.axis_step.name_at.Goals as goal

pub returns : goal.returns
returns c = sym (get_or-map (λ (name : Bor (List ℕ)). name.now) c.args.names.now c.args.place _ _ c.requires)
