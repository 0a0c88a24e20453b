use Rattle.pj_xsyntax_laws.proofs.Lacking.{no_white}
use Rattle.pj_xsyntax_laws.proofs.laws.strings_alone_have_white_space.Goals as goal

pub returns : goal.returns
returns c = no_white
