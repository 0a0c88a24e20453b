use Rattle.std.proofs.Common.{ℕ, List, ◌++◌, map, sym, ap, ◌∙◌, arith}
use Rattle.std.proofs.lemmas.List.{append-nil}
use Rattle.pj_names.proofs.AskingLaws.{left_from}
use Rattle.pj_fitting.specs.Right.{Key}
use Rattle.pj_left_cache.specs.Missing.{missing_from}
use Rattle.pj_left_cache.proofs.MissingLaws.{ended, left_at, next_rule, number}
use Rattle.pj_left_cache.proofs.missing.numbers_besides.Goals as goal

pub loop-i-preserved : goal.loop-i-preserved
loop-i-preserved c =
    let keys = c.args.keys.now in
    let active = c.args.is_active.now in
    let i = c.loop-i.i in
    next_rule keys active i c.index-keys-i.result _ c.in_ok-number.number c.loop-i.held.keys c.note_rule.new.held.keys c.loop-i.numbers c.note_rule.new.numbers (map number (missing_from c.args.held.keys 0 keys active)) c.in_ok-number.ensures
    (left_at keys i c.index-keys-i.result (omega arith) c.index-keys-i.is) (left_from active i _ (omega arith)) c.in_ok-note_rule.ensures.held c.in_ok-note_rule.ensures.numbers c.loop-i.invariant

pub returns : goal.returns
returns c =
    let i = c.loop-i.i in
    sym (append-nil c.loop-i.numbers)
    ∙ ap (λ (l : List (ℕ × Key)). c.loop-i.numbers ++ map number l) (sym (ended c.loop-i.held.keys i i c.args.keys.now c.args.is_active.now (omega arith)))
    ∙ c.loop-i.invariant
