use Rattle.std.proofs.Common.{◌∙◌, ap}
use Rattle.pj_xvalue.specs.Items.{values_of}
use Rattle.pj_xfuncs.proofs.Gathering.{values-reverse}
use Rattle.pj_xfuncs.proofs.sequences.items_reversed.Goals as goal

pub returns : goal.returns
returns c = ap values_of c.in_ok-all.ensures ∙ values-reverse c.args.items.now
