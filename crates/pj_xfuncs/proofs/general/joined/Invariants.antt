use Rattle.std.proofs.Common.{◌≡◌, ◌++◌, drop, map, string_bytes}
use Rattle.std.specs.List.{flat_map}
use Rattle.pj_xvalue.specs.Atomic.{text_of}
use Rattle.pj_xvalue.specs.Items.{values_of}
use Rattle.pj_xfuncs.specs.General.{joined_with}
use Rattle.pj_xfuncs.proofs.general.joined.Given as goal

abbrev pub invariant-loop-item : goal.invariant-loop-item
invariant-loop-item l = string_bytes l.text ++ flat_map (λ next. l.separator ++ next) (map text_of (values_of (drop l.item-index l.rest))) ≡ joined_with l.separator (map text_of (values_of l.items))
