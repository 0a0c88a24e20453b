use Rattle.std.proofs.Common.{◌≡◌, []}
use denote.Text.{Utf8}
use denote.Shadow.{shadow}
use Rattle.pj_modifiers.specs.Explicit.{has_sealed}
use Rattle.pj_modifiers.proofs.explicit.has_sealed.Given as goal

abbrev pub invariant-loop-word : goal.invariant-loop-word
invariant-loop-word l = shadow (Utf8 l.before) × (has_sealed l.before l.word-iterator ≡ has_sealed [] l.fn.words)
