use Rattle.std.proofs.Common.{◌≡◌, drop}
use Rattle.pj_reuse.specs.Serving.{with_keys}
use Rattle.pj_reuse.proofs.serving.note_keys.Given as goal

abbrev pub invariant-loop-key : goal.invariant-loop-key
invariant-loop-key l = with_keys l.held.keys (drop l.key-index l.keys) ≡ with_keys l.fn.held.keys l.keys
