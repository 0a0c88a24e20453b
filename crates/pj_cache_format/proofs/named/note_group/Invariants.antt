use Rattle.std.proofs.Common.{◌≡◌, drop, map}
use Rattle.pj_cache_format.specs.FormatTwo.{with_more}
use Rattle.pj_cache_format.proofs.named.note_group.Given as goal

abbrev pub invariant-loop-member : goal.invariant-loop-member
invariant-loop-member l = with_more l.held.keys (map (λ k. k.key) (drop l.member-index l.group)) ≡ with_more l.fn.held.keys (map (λ k. k.key) l.group)
