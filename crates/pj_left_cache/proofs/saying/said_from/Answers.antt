use Rattle.std.proofs.Common.{List, ◌∷◌, [], ◌++◌, sym, ap, ◌∙◌, arith}
use Rattle.std.proofs.lemmas.List.{append-nil}
use Rattle.pj_reports.specs.declared.ruled.Ruled.{Ruled}
use Rattle.pj_names.proofs.AskingLaws.{left_from}
use Rattle.pj_left_cache.specs.Said.{said_from}
use Rattle.pj_left_cache.proofs.MissingLaws.{left_at}
use Rattle.pj_left_cache.proofs.SaidLaws.{next_said, said_ended}
use Rattle.pj_left_cache.proofs.saying.said_from.Goals as goal

pub loop-i-preserved : goal.loop-i-preserved
loop-i-preserved c =
    let rows = c.args.rows.now.entries in
    let keys = c.args.keys.now in
    let active = c.args.is_active.now in
    let i = c.loop-i.i in
    next_said rows keys active i c.index-keys-i.result _ c.loop-i.all c.push.new.self (said_from rows keys active)
    (left_at keys i c.index-keys-i.result (omega arith) c.index-keys-i.is) (left_from active i _ (omega arith))
    (c.in_ok-push.ensures.ok ∙ ap (λ (x : Ruled). c.loop-i.all ++ x ∷ []) c.in_ok-said.ensures) c.loop-i.invariant

pub returns : goal.returns
returns c =
    let i = c.loop-i.i in
    sym (append-nil c.loop-i.all)
    ∙ ap (λ (l : List Ruled). c.loop-i.all ++ l) (sym (said_ended c.args.rows.now.entries i c.args.keys.now c.args.is_active.now (omega arith)))
    ∙ c.loop-i.invariant
