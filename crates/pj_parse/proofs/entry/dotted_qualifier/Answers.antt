use Rattle.pj_parse.proofs.NameLaws.{qualifier_is}
use Rattle.pj_parse.proofs.entry.dotted_qualifier.Goals as goal

pub returns : goal.returns
returns c = qualifier_is c.args.names.now c.saturating_sub.result c.in_ok-dotted.field-0 c.saturating_sub.ensures c.if-is_empty.ensures c.in_ok-dotted.ensures
