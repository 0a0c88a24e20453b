-- The texts that an iterator over the pieces between matches has yet to give.
use Rattle.std.specs.Prelude.{List, map, slice_range}
use Rattle.regex.specs.Strings.{pieces_left}
use Rattle.regex.specs.declared.string.iter.Split.{Split}
use Rattle.pj_xpatterns.specs.Meaning.{Text}

abbrev pub texts_left : Split → List Text
texts_left split = map (λ piece. slice_range split.haystack.now piece.0 piece.1) (pieces_left split)
