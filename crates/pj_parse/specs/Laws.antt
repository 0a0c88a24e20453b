-- What holds of every text.
use Rattle.std.specs.Prelude.{◌≡◌, ℕ, List, Result}
use Rattle.pj_parse.specs.declared.fault.ParseFault.{ParseFault}
use Rattle.pj_parse.specs.Parses.{Parses, FileParsed}

-- Something comes of the text, given that memory is not wanting, and nothing else does.
pub record HasOneOutcome (text : List ℕ) : Type 0 where
  pub outcome : Result FileParsed ParseFault
  pub comes : Parses text outcome
  pub one : (o : Result FileParsed ParseFault) → Parses text o → o ≡ outcome
