use Rattle.pj_source.proofs.FileExists.{reading_of}
use Rattle.pj_source.proofs.FileTexts.{text_placed}
use Rattle.pj_source.proofs.SourceLaws.{same_reading}
use Rattle.pj_source.proofs.laws.files_are_read.Goals as goal

pub returns : goal.returns
returns c = record { there = reading_of; one = same_reading; placed = text_placed }
