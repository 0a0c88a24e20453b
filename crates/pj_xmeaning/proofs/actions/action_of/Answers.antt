use Rattle.std.proofs.Common.{◌≡◌, ◌≤◌, length, Some, None, refl, arith}
use Rattle.std.specs.Prelude.{slice_get}
use Rattle.std.proofs.lemmas.Option.{slice_get_read, slice_get_past}
use Rattle.pj_xmeaning.proofs.Tables.{action_at}
use Rattle.pj_xmeaning.proofs.actions.action_of.Goals as goal

pub returns-in-Some : goal.returns-in-Some
returns-in-Some c =
    let (some, it, sure, here, found) = c.in-Some.ensures.lookup in
    let at : slice_get c.actions.result.now c.args.production ≡ Some c.in-Some.action.now = slice_get_read c.actions.result.now _ c.args.production c.in-Some.action.now refl here.0 it in
    action_at c.actions.result.now c.args.production (Some c.in-Some.action.now) c.actions.ensures at

pub returns-in-None : goal.returns-in-None
returns-in-None c =
    let (none, unused, some, past, found) = c.in-None.ensures.lookup in
    let behind : length c.actions.result.now ≤ c.args.production = omega arith in
    action_at c.actions.result.now c.args.production None c.actions.ensures (slice_get_past c.actions.result.now c.args.production behind)
