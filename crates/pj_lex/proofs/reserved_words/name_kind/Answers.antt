use Rattle.std.proofs.Common.{Some, None, sym, ◌∙◌}
use Rattle.pj_lex.specs.Words.{reserved_words}
use Rattle.pj_lex.proofs.Words.{name_kind_by}
use Rattle.pj_lex.proofs.reserved_words.name_kind.Goals as goal

pub returns-in-Some : goal.returns-in-Some
unfolding reserved_words
returns-in-Some c = name_kind_by c.args.word.now c.utf8.word (Some c.in-Some.kind) (sym c.in-Some.is ∙ c.value_in.ensures.bytes)

pub returns-in-None : goal.returns-in-None
unfolding reserved_words
returns-in-None c = name_kind_by c.args.word.now c.utf8.word None (sym c.in-None.is ∙ c.value_in.ensures.bytes)
