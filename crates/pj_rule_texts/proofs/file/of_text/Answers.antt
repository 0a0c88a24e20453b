use Rattle.std.proofs.Common.{sym, subst}
use Rattle.std.specs.Str.{chars}
use Rattle.pj_rule_texts.specs.Files.{IfUnread, IsTextFault}
use Rattle.pj_rule_texts.proofs.FileReading.{of_markup_fault, of_root}
use Rattle.pj_rule_texts.proofs.file.of_text.Goals as goal

pub returns-in-Ok-clause-fault : goal.returns-in-Ok-clause-fault
returns-in-Ok-clause-fault c = of_root (chars c.args.text.now) c.in-Ok.markup c.in-Ok.ensures c.of_markup.result c.of_markup.ensures.fault

pub returns-in-Err-clause-fault : goal.returns-in-Err-clause-fault
returns-in-Err-clause-fault c =
    subst (IfUnread (IsTextFault (chars c.args.text.now))) (sym c.unread_of.ensures) (of_markup_fault (chars c.args.text.now) c.in-Err.fault c.in-Err.ensures)
