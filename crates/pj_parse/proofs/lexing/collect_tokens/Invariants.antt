use Rattle.std.proofs.Common.{◌≤◌, length, map}
use Rattle.pj_grammar.specs.Words.{seen}
use Rattle.pj_parse.proofs.Going.{GoesOn}
use Rattle.pj_parse.proofs.lexing.collect_tokens.Given as goal

abbrev pub invariant-loop : goal.invariant-loop
invariant-loop l = GoesOn l.source.text (map seen l.found) l.lexer × (length l.found ≤ l.counter)
