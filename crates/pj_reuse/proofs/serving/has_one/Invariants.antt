use Rattle.std.proofs.Common.{◌≡◌, drop, map}
use Rattle.std.specs.List.{list_any}
use Rattle.pj_reuse.specs.Serving.{has_key}
use Rattle.pj_reuse.proofs.serving.has_one.Given as goal

abbrev pub invariant-loop-member : goal.invariant-loop-member
invariant-loop-member l = list_any (has_key l.wanted.keys) (map (λ k. k.key) (drop l.member-index l.group)) ≡ list_any (has_key l.wanted.keys) (map (λ k. k.key) l.group)
