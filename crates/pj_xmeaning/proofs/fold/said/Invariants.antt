use Rattle.std.proofs.Common.{◌≡◌, ◌≤◌, [], map, take, length}
use Rattle.pj_xtokens.specs.Answer.{lexed_of}
use Rattle.pj_xmeaning.specs.Beginnings.{beginning_at}
use Rattle.pj_xmeaning.specs.Seen.{seen_parts}
use Rattle.pj_xmeaning.specs.Values.{values}
use Rattle.pj_xmeaning.proofs.fold.said.Given as goal

-- the values of the steps that are still to come before those that are made are the values of all
abbrev pub invariant-steps : goal.invariant-steps
invariant-steps l = record {
  within : l.left ≤ length l.steps;
  stands : values (map (beginning_at (map lexed_of l.tokens)) (take l.left l.steps)) (seen_parts l.parts.items) ≡ values (map (beginning_at (map lexed_of l.tokens)) l.steps) [];
}

abbrev pub decreases-steps : goal.decreases-steps
decreases-steps l = l.left
