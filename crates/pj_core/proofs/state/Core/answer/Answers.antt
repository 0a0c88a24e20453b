use Rattle.std.proofs.Common.{◌≡◌, ap, sym, ◌∙◌, Some}
use Rattle.std.specs.FinMap as finmap
use Rattle.std.specs.Option.{option_map}
use Rattle.pj_names.specs.declared.answer.Answer.{Answer}
use Rattle.pj_core.specs.Events.{State}
use Rattle.pj_core.proofs.Tables.{found, shown}
use Rattle.pj_core.proofs.state.Core.answer.Goals as goal

pub returns-in-Some : goal.returns-in-Some
returns-in-Some g c =
    ap (λ (a : Answer). Some a) c.deref.ensures ∙ ap (option_map shown) c.in-Some.ensures.value ∙ sym (found c.args.name.now c.self.inside.answers.entries)
    ∙ ap (λ (s : State g.row.R.Denot). finmap.get s.table c.args.name.now) c.self.view_is

pub returns-in-None : goal.returns-in-None
returns-in-None g c =
    ap (option_map shown) c.in-None.ensures.value ∙ sym (found c.args.name.now c.self.inside.answers.entries)
    ∙ ap (λ (s : State g.row.R.Denot). finmap.get s.table c.args.name.now) c.self.view_is
