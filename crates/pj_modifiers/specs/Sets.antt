-- Sets of modifiers, as numbers with a bit for each.
use Rattle.std.specs.Prelude.{ℕ, ◌+◌, Bool, if◌then◌else◌}
use Rattle.pj_tree.specs.Tree.{Tree}
use Rattle.pj_tree.specs.declared.node.Node.{Node}
use Rattle.pj_xvalue.specs.declared.modifiers.Modifier.{Modifier}
use Rattle.pj_xvalue.specs.declared.modifiers.Modifier.TheVariants as m
use Rattle.pj_xvalue.specs.declared.modifiers.Modifiers.{Modifiers}
use Rattle.pj_modifiers.specs.Explicit.{is_explicit}
use Rattle.pj_modifiers.specs.Implied.{is_effective}

abbrev pub bit : ℕ → Bool → ℕ
bit value is_member = if is_member then value else 0

-- the set of the modifiers that pass a test, each with its bit
abbrev pub set_of : (Modifier → Bool) → Modifiers
set_of passes = record {
  0 = (bit 1 (passes m.Abstract) + bit 2 (passes m.Default) + bit 4 (passes m.Final) + bit 8 (passes m.Native) + bit 16 (passes m.NonSealed)
      + bit 32 (passes m.Private) + bit 64 (passes m.Protected))
      + (bit 128 (passes m.Public) + bit 256 (passes m.Sealed) + bit 512 (passes m.Static) + bit 1024 (passes m.Strictfp)
      + bit 2048 (passes m.Synchronized) + bit 4096 (passes m.Transient) + bit 8192 (passes m.Volatile));
}

abbrev pub explicit_modifiers : Tree → Node → Modifiers
explicit_modifiers t n = set_of (is_explicit t n)

abbrev pub effective_modifiers : Tree → Node → Modifiers
effective_modifiers t n = set_of (is_effective t n)
