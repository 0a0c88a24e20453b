use Rattle.pj_workers.proofs.CodeLaws.{messages_tell}
use Rattle.pj_workers.proofs.OrderLaws.{found_denoted}
use Rattle.pj_workers.proofs.ReasonLaws.{spots_have_reasons}
use Rattle.pj_workers.proofs.laws.rules_find_what_they_denote.Goals as goal

pub returns : goal.returns
returns c = record { nodes = found_denoted c.nodes_are_the_items.ensures.items; codes = messages_tell; reasons = spots_have_reasons }
