use Rattle.pj_rule_texts.proofs.Slashes.{split}
use Rattle.pj_rule_texts.proofs.reference.around_last_slash.Goals as goal

pub returns : goal.returns
returns c = split c.args.text.now c.rsplit_once.result c.rsplit_once.ensures.cases
