use Rattle.std.proofs.Common.{◌≡◌, ap, sym, ◌∙◌, None, subst}
use Rattle.std.specs.Prelude.{is_some}
use Rattle.std.specs.FinMap as finmap
use Rattle.pj_core.specs.Events.{State, looked_up, table_of}
use Rattle.pj_core.proofs.Tables.{found, filled, hit, inserted, is_there, none_shown, on_err}
use Rattle.pj_core.proofs.state.Core.look_up.Goals as goal

pub returns-then-contains_key-clause-ok : goal.returns-then-contains_key-clause-ok
returns-then-contains_key-clause-ok g c =
    let name = c.args.name in
    hit c.args.self.now name c.args.answer.value (finmap.get c.args.self.now.table name)
    (ap (λ (s : State g.row.R.Denot). is_some (finmap.get s.table name)) (sym c.self.view_is) ∙ is_there name c.self.inside.answers.entries ∙ sym c.contains_key.ensures ∙ c.if-contains_key.true)

pub returns-in_err-insert-clause-memory : goal.returns-in_err-insert-clause-memory
returns-in_err-insert-clause-memory g c =
    let name = c.args.name in
    on_err c.from_residual.result (finmap.get c.args.self.now.table name ≡ None)
    (ap (λ (s : State g.row.R.Denot). finmap.get s.table name) (sym c.self.view_is) ∙ found name c.self.inside.answers.entries ∙ none_shown _ c.in_err-insert.ensures.absent)

pub returns-clause-ok : goal.returns-clause-ok
returns-clause-ok g c =
    let name = c.args.name in let old = c.self.inside.answers.entries in let new = c.insert.new.self.entries in
    let seen : State g.row.R.Denot = record { next = c.self.inside.next; held = c.self.inside.held.items; table = table_of old; results = c.self.inside.results.items } in
    filled seen name c.args.answer.value (table_of new) (finmap.get (table_of old) name) (is_there name old ∙ sym c.contains_key.ensures ∙ c.if-contains_key.false)
    (inserted old new name c.args.answer (λ q. c.in_ok-insert.ensures.updates.0 q))
    ∙ ap (λ (s : State g.row.R.Denot). looked_up name c.args.answer.value s (finmap.get s.table name)) c.self.view_is
