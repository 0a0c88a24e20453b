use Rattle.std.proofs.Common.{◌≡◌, []}
use denote.Text.{Utf8}
use denote.Shadow.{shadow}
use Rattle.pj_properties.specs.Texts.{last_name}
use Rattle.pj_properties.proofs.names.last_name.Given as goal

abbrev pub invariant-loop-word : goal.invariant-loop-word
invariant-loop-word l = shadow (Utf8 l.last) × (last_name l.last l.word-iterator ≡ last_name [] l.fn.words)
