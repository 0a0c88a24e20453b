use Rattle.std.proofs.Common.{◌≡◌, drop, map}
use Rattle.std.specs.Str.{chars}
use Rattle.pj_base.specs.WordTable.{value_in}
use Rattle.pj_base.proofs.word_table.value_in.Given as goal

abbrev pub invariant-loop-row : goal.invariant-loop-row
invariant-loop-row g l = record {
  bytes : value_in (map (λ row. (row.0.now, row.1)) l.table) l.word ≡ value_in (map (λ row. (row.0.now, row.1)) (drop l.row-index l.table)) l.word;
  chars : value_in (map (λ row. (chars row.0.now, row.1)) l.table) (chars l.word) ≡ value_in (map (λ row. (chars row.0.now, row.1)) (drop l.row-index l.table)) (chars l.word);
}
