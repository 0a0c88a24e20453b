-- Sets of modifiers as numbers.
use Rattle.std.specs.Prelude.{ℕ, Bool, ◌==◌}
use Rattle.std.specs.Int.{bit_at}
use Rattle.pj_xvalue.specs.declared.modifiers.Modifier.{Modifier}
use Rattle.pj_xvalue.specs.declared.modifiers.Modifier.TheVariants as m
use Rattle.pj_xvalue.specs.declared.modifiers.Modifiers.{Modifiers}

-- which bit of a set, counted from 0, tells of the modifier: they stand in the byte order of their words
abbrev pub bit_of : Modifier → ℕ
bit_of m.Abstract = 0
bit_of m.Default = 1
bit_of m.Final = 2
bit_of m.Native = 3
bit_of m.NonSealed = 4
bit_of m.Private = 5
bit_of m.Protected = 6
bit_of m.Public = 7
bit_of m.Sealed = 8
bit_of m.Static = 9
bit_of m.Strictfp = 10
bit_of m.Synchronized = 11
bit_of m.Transient = 12
bit_of m.Volatile = 13

-- whether the modifier is in the set: its bit is 1
abbrev pub has : Modifiers → Modifier → Bool
has set modifier = bit_at set.0 (bit_of modifier) == 1
