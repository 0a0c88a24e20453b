use Rattle.std.proofs.Common.{◌≡◌, drop, map}
use Rattle.pj_reuse.specs.Serving.{with_keys}
use Rattle.pj_left_cache.proofs.missing.note_group.Given as goal

abbrev pub invariant-loop-member : goal.invariant-loop-member
invariant-loop-member l = with_keys l.held.keys (map (λ k. k.key) (drop l.member-index l.group)) ≡ with_keys l.fn.held.keys (map (λ k. k.key) l.group)
