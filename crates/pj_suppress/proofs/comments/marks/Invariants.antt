use Rattle.std.proofs.Common.{◌≡◌, ◌==◌, ℕ, take}
use Rattle.std.specs.List.{list_any}
use Rattle.pj_suppress.specs.Marks.{is_marked}
use Rattle.pj_suppress.proofs.comments.marks.Given as goal

abbrev pub invariant-loop-token : goal.invariant-loop-token
invariant-loop-token l = (line : ℕ) → list_any (λ other. other == line) l.lines.items ≡ is_marked l.source (take l.token-index l.token-items) l.marker line
