use Rattle.pj_grammar.proofs.ContextualWords.{word_is, no_word, same_false, none, other}
use Rattle.pj_grammar.proofs.terminal.word_of.Goals as goal

pub returns-in-non : goal.returns-in-non
returns-in-non c = word_is _ _ c.utf8.text c.in-non.is

pub returns-in-sealed : goal.returns-in-sealed
returns-in-sealed c = word_is _ _ c.utf8.text c.in-sealed.is

pub returns-in-record : goal.returns-in-record
returns-in-record c = word_is _ _ c.utf8.text c.in-record.is

pub returns-in-permits : goal.returns-in-permits
returns-in-permits c = word_is _ _ c.utf8.text c.in-permits.is

pub returns-in-var : goal.returns-in-var
returns-in-var c = word_is _ _ c.utf8.text c.in-var.is

pub returns-in-yield : goal.returns-in-yield
returns-in-yield c = word_is _ _ c.utf8.text c.in-yield.is

pub returns-in_default : goal.returns-in_default
returns-in_default c = no_word _ c.utf8.text (
    other _ _ (same_false _ _ c.in_default.not-non) (
    other _ _ (same_false _ _ c.in_default.not-sealed) (
    other _ _ (same_false _ _ c.in_default.not-record) (
    other _ _ (same_false _ _ c.in_default.not-permits) (
    other _ _ (same_false _ _ c.in_default.not-var) (
    other _ _ (same_false _ _ c.in_default.not-yield) (
    none)))))))
