-- Where a name lies.
use Rattle.std.specs.Prelude.{◌%◌, ℕ, sum}
use Rattle.pj_names.specs.ClassName.{Name}

-- the part of a name, of 64: the sum of its bytes modulo 64
abbrev pub part_of : Name → ℕ
part_of name = sum name % 64
