use Rattle.std.proofs.Common.{◌≡◌, []}
use Rattle.std.specs.Prelude.{filter}
use denote.Text.{Utf8}
use denote.Shadow.{shadow}
use Rattle.pj_tree.specs.Words.{last_of}
use Rattle.pj_operators.specs.Operators.{is_sign}
use Rattle.pj_operators.proofs.operators.last_sign.Given as goal

abbrev pub invariant-loop-word : goal.invariant-loop-word
invariant-loop-word l = shadow (Utf8 l.last) × (last_of l.last (filter is_sign l.word-iterator) ≡ last_of [] (filter is_sign l.fn.words))
