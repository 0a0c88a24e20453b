use Rattle.std.proofs.Common.{◌≡◌, drop, map, string_bytes}
use Rattle.pj_xvalue.specs.Items.{values_of}
use Rattle.pj_xfuncs.specs.General.{texts_joined}
use Rattle.pj_xfuncs.specs.Gathered.{text_behind}
use Rattle.pj_xfuncs.proofs.general.texts_joined.Given as goal

abbrev pub invariant-loop-argument : goal.invariant-loop-argument
invariant-loop-argument l = text_behind (string_bytes l.text) (texts_joined (map values_of (drop l.argument-index l.arguments))) ≡ texts_joined (map values_of l.arguments)
