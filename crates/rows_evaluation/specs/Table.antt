-- The attributes of the small tree: `Name` of the identifiers 2, 4, 7 and 8, `Size` of the blocks 3, 6, 9 and 11, which is their number, and
-- `Final` of the classes 1 and 5.
use Rattle.std.specs.Prelude.{ℕ, ◌==◌, pos, true, false, List, [], ◌∷◌, Option, Some, None, codes, nat_eq, if◌then◌else◌}
use Rattle.std.specs.Cmp.Lexicographic.{pointwise}
use Rattle.pj_tree.specs.declared.node.Node.{Node}
use Rattle.pj_xvalue.specs.Items.{ItemValue, String, Integer, Boolean}

abbrev pub named : Node → Option ItemValue
named n = if n.0 == 2 then Some (String (codes "x")) else (if n.0 == 4 then Some (String (codes "y")) else (if n.0 == 7 then Some (String (codes "x")) else (if n.0 == 8 then Some (String (codes "z")) else None)))

abbrev pub sized : Node → Option ItemValue
sized n = if n.0 == 3 then Some (Integer (pos 3)) else (if n.0 == 6 then Some (Integer (pos 6)) else (if n.0 == 9 then Some (Integer (pos 9)) else (if n.0 == 11 then Some (Integer (pos 11)) else None)))

abbrev pub final : Node → Option ItemValue
final n = if n.0 == 1 then Some (Boolean false) else (if n.0 == 5 then Some (Boolean true) else None)

abbrev pub value_in : Node → List ℕ → Option ItemValue
value_in n name = if pointwise nat_eq name (codes "Name") then named n
    else (if pointwise nat_eq name (codes "Size") then sized n else (if pointwise nat_eq name (codes "Final") then final n else None))

abbrev pub table_names : List (List ℕ)
table_names = codes "Name" ∷ codes "Size" ∷ codes "Final" ∷ []
