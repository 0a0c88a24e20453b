use Rattle.std.proofs.Common.{sym, subst, ◌∙◌}
use Rattle.pj_rule_texts.specs.Files.{AreFault}
use Rattle.pj_rule_texts.specs.declared.file_fault.FileFault.TheVariants.{Markup}
use Rattle.pj_rule_texts.proofs.FileReading.{of_chars}
use Rattle.pj_rule_texts.proofs.file.of_bytes.Goals as goal

pub returns-in-Ok-clause-fault : goal.returns-in-Ok-clause-fault
returns-in-Ok-clause-fault c =
    of_chars c.args.bytes.now c.in-Ok.text.now c.in-Ok.ensures.cases.0 c.in-Ok.ensures.cases.1 c.of_text.result c.of_text.ensures.fault

pub returns-in-Err-clause-fault : goal.returns-in-Err-clause-fault
returns-in-Err-clause-fault c =
    subst (λ n. AreFault c.args.bytes.now (Markup n)) (sym (c.valid_up_to.ensures ∙ c.in-Err.ensures.valid_len)) (AreFault.not_utf8 c.in-Err.ensures.cases.0)
