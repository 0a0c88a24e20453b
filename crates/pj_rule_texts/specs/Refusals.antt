-- For a private clause: what a refusal of the tree becomes.
use Rattle.std.specs.Prelude.{◌≡◌}
use Rattle.pj_outside.specs.declared.refused.Refused.{Refused}
use Rattle.pj_outside.specs.declared.refused.Refused.TheVariants as tree
use Rattle.pj_rule_texts.specs.declared.file_fault.FileRefused.{FileRefused}
use Rattle.pj_rule_texts.specs.declared.file_fault.FileRefused.TheVariants.{Failed, Memory}

abbrev pub refusal_of : Refused → FileRefused
refusal_of tree.Failed = Failed
refusal_of tree.Memory = Memory

abbrev pub OfTree : Refused → FileRefused → Type 0
OfTree refused given = given ≡ refusal_of refused
