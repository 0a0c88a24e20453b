use Rattle.std.proofs.Common.{refl}
use Rattle.pj_parse.specs.Parses.{file_parsed}
use Rattle.pj_attrs.proofs.Rising.{parsed_in_order}
use Rattle.pj_attrs.proofs.laws.tokens_are_in_order.Goals as goal

pub returns : goal.returns
returns c = parsed_in_order c.args.text.now c.args.parsed.now.tokens (file_parsed c.args.parsed.now) c.requires refl
