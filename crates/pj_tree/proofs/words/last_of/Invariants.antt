use Rattle.std.proofs.Common.{◌≡◌, []}
use denote.Text.{Utf8}
use denote.Shadow.{shadow}
use Rattle.pj_tree.specs.Words.{last_of}
use Rattle.pj_tree.proofs.words.last_of.Given as goal

abbrev pub invariant-loop-word : goal.invariant-loop-word
invariant-loop-word l = shadow (Utf8 l.last) × (last_of l.last l.word-iterator ≡ last_of [] l.fn.words)
