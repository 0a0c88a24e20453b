use Rattle.pj_workers.proofs.TextLaws.{lists_same, rules_same}
use Rattle.pj_workers.proofs.laws.rules_are_their_texts.Goals as goal

pub returns : goal.returns
returns c =
    let one = rules_same c.one_expression.ensures c.trees_tell_expressions.ensures c.trees_tell_patterns.ensures in
    record { one = one; all = lists_same one }
