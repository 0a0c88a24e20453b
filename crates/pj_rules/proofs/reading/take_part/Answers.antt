use Rattle.std.proofs.Common.{sym, subst}
use Rattle.pj_rule_texts.specs.declared.written.Part.{Part}
use Rattle.pj_rules.specs.States.{Takes}
use Rattle.pj_rules.proofs.reading.take_part.Goals as goal

pub returns-in_ok-take_exclude-in-ExcludePattern-clause-taken : goal.returns-in_ok-take_exclude-in-ExcludePattern-clause-taken
returns-in_ok-take_exclude-in-ExcludePattern-clause-taken g c = λ files told known_files.
    subst (λ (p : Part). Takes files c.args.file.now p c.take_exclude.new.file) (sym c.in-ExcludePattern.is) (c.in_ok-take_exclude-in-ExcludePattern.ensures.taken files)

pub returns-in_ok-take_include-in-IncludePattern-clause-taken : goal.returns-in_ok-take_include-in-IncludePattern-clause-taken
returns-in_ok-take_include-in-IncludePattern-clause-taken g c = λ files told known_files.
    subst (λ (p : Part). Takes files c.args.file.now p c.take_include.new.file) (sym c.in-IncludePattern.is) (c.in_ok-take_include-in-IncludePattern.ensures.taken files)
