-- Each list of tokens has productions that derive them as far as their terminals go.
use Rattle.std.proofs.Common.{ℕ, List, take}
use Rattle.pj_ll.specs.declared.parser.End.{End}
use Rattle.pj_ll.specs.declared.parser.End.TheVariants.{Whole, Stops, LeftOut, TooDeep}
use Rattle.pj_ll.specs.Outcome.{IsEnd}
use Rattle.pj_xtokens.specs.Tokens.{Lexed}
use Rattle.pj_xgrammar.specs.Terminals.{numbers}
use Rattle.pj_xgrammar.specs.XPath.{xpath_grammar}
use Rattle.pj_xderive.specs.Expressions.{IsRun}
use Rattle.pj_xderive.proofs.BeginningsLead.{terminals_lead}

run_with : (tokens : List Lexed) (end : End) → IsEnd xpath_grammar (numbers tokens) 200 end → (productions : List ℕ) × IsRun tokens productions
run_with tokens Whole it = (it.sentence.0, record { end = Whole; ends = it; leads = it.sentence.1 })
run_with tokens (Stops i) it = let (ps, l) = terminals_lead (take i (numbers tokens)) it.before in (ps, record { end = Stops i; ends = it; leads = l })
run_with tokens (LeftOut i) it = let (ps, l) = terminals_lead (take i (numbers tokens)) it.before in (ps, record { end = LeftOut i; ends = it; leads = l })
run_with tokens (TooDeep i) it = let (ps, l) = terminals_lead (take i (numbers tokens)) it.before in (ps, record { end = TooDeep i; ends = it; leads = l })

-- where a run over terminals has an end
pub some_run : ((terminals : List ℕ) → (end : End) × IsEnd xpath_grammar terminals 200 end) → (tokens : List Lexed) → (productions : List ℕ) × IsRun tokens productions
some_run some_end tokens = let (end, ends) = some_end (numbers tokens) in run_with tokens end ends
