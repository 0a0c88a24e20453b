use Rattle.std.proofs.Common.{ℕ, ◌+◌, ap, ◌∙◌, sym}
use Rattle.pj_written.specs.Fits.{fits_within, most_signs_is}
use Rattle.pj_written.proofs.limits.fits.Goals as goal

pub returns : goal.returns
returns c = c.fits_within.ensures ∙ ap (λ (s : ℕ). fits_within c.args.tree.now (s + 1) c.args.around c.args.n) (sym most_signs_is)
