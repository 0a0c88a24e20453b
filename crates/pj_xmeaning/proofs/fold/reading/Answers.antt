use Rattle.std.proofs.Common.{◌∙◌, ap, sym, subst, map}
use Rattle.std.proofs.lemmas.Result.{IfOk-weaker}
use Rattle.pj_ll.specs.Steps.{productions_in}
use Rattle.pj_xtokens.specs.Answer.{lexed_of}
use Rattle.pj_xmeaning.specs.SoFar.{SayUpTo}
use Rattle.pj_xmeaning.specs.Values.{said, said_by}
use Rattle.pj_xmeaning.proofs.Placed.{beginnings_are}
use Rattle.pj_xmeaning.proofs.fold.reading.Goals as goal

pub returns : goal.returns
unfolding said
returns c =
    let tokens = map lexed_of c.args.tokens.now in
    let steps = c.args.steps.now in
    IfOk-weaker c.said.result _ _
    (λ a is end ends leads placed. subst (λ x. SayUpTo end tokens x) (sym (is ∙ ap said_by (sym (beginnings_are tokens steps placed))))
    (c.made_is_said.ensures end tokens (productions_in steps) ends leads))
    c.said.ensures
