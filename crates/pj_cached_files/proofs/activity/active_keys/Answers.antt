use Rattle.std.proofs.Common.{◌++◌, List, sym, ap, ◌∙◌, arith}
use Rattle.std.proofs.lemmas.List.{append-nil}
use Rattle.pj_names.proofs.AskingLaws.{left_from}
use Rattle.pj_fitting.specs.Right.{Key}
use Rattle.pj_left_cache.specs.Missing.{keys_of_active}
use Rattle.pj_left_cache.proofs.MissingLaws.{left_at}
use Rattle.pj_cached_files.proofs.ActiveKeys.{behind_all, next_key}
use Rattle.pj_cached_files.proofs.activity.active_keys.Goals as goal

pub loop-i-preserved : goal.loop-i-preserved
loop-i-preserved c =
    let keys = c.args.keys.now in
    let active = c.args.is_active.now in
    let i = c.loop-i.i in
    next_key keys active i c.index-keys-i.result _ c.loop-i.active c.note_key.new.active (keys_of_active keys active)
    (left_at keys i c.index-keys-i.result (omega arith) c.index-keys-i.is) (left_from active i _ (omega arith)) c.in_ok-note_key.ensures c.loop-i.invariant

pub returns : goal.returns
returns c =
    let i = c.loop-i.i in
    sym (append-nil c.loop-i.active)
    ∙ ap (λ (l : List Key). c.loop-i.active ++ l) (sym (behind_all i c.args.keys.now c.args.is_active.now (omega arith)))
    ∙ c.loop-i.invariant
