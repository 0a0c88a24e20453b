use Rattle.pj_xderive.proofs.RuleFacts.{xpath_facts}
use Rattle.pj_xderive.proofs.parser.Parser.run.Given as goal

abbrev pub ghost-parse : goal.ghost-parse
ghost-parse a = xpath_facts
