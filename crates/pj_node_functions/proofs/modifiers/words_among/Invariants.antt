use Rattle.std.proofs.Common.{◌≡◌, take}
use Rattle.pj_xvalue.specs.Items.{values_of}
use Rattle.pj_node_functions.specs.ModifierWords.{words_among}
use Rattle.pj_node_functions.proofs.modifiers.words_among.Given as goal

abbrev pub invariant-loop-modifier : goal.invariant-loop-modifier
invariant-loop-modifier l = values_of l.words ≡ words_among l.set (take l.modifier-index l.modifiers)
