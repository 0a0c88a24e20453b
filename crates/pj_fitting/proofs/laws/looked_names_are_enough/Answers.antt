use Rattle.std.proofs.lemmas.List.Elements.{All-from_recursion}
use Rattle.pj_fitting.specs.Looked.{AsksWithin}
use Rattle.pj_fitting.specs.Right.{rules_at}
use Rattle.pj_fitting.proofs.Enough.{enough}
use Rattle.pj_fitting.proofs.laws.looked_names_are_enough.Goals as goal

pub returns : goal.returns
returns g c = λ files world found held file names right looked. All-from_recursion (AsksWithin (rules_at files file.0 file.1) world names) held (enough files world found held file names right looked)
