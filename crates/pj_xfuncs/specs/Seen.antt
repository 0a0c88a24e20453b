-- The values that were met.
use Rattle.std.specs.Prelude.{ℕ, ℤ, Bool, false, List, if◌then◌else◌}
use Rattle.std.specs.Borrow.{Bor}
use Rattle.std.specs.BTreeSet.{BTreeSet, contains, contains_by}
use Rattle.std.specs.Cmp.Lexicographic.{slice_cmp}
use Rattle.std.specs.Ordering.{int_cmp, nat_cmp}
use Rattle.pj_xvalue.specs.Items.{ItemValue, String, Integer, Boolean}
use Rattle.pj_xfuncs.specs.declared.seen.Seen.{Seen}

-- whether the text, the integer, the boolean is there
abbrev pub has_text : BTreeSet (Bor (List ℕ)) → List ℕ → Bool
has_text texts text = contains_by (λ other. slice_cmp nat_cmp text other.now) texts

abbrev pub has_integer : BTreeSet ℤ → ℤ → Bool
has_integer integers z = contains int_cmp integers z

abbrev pub has_boolean : Bool → Bool → Bool → Bool
has_boolean has_true has_false b = if b then has_true else has_false

-- whether an equal value was met: no node is one
abbrev pub has : Seen → ItemValue → Bool
has seen (String text) = has_text seen.texts text
has seen (Integer z) = has_integer seen.integers z
has seen (Boolean b) = has_boolean seen.has_true seen.has_false b
has seen _ = false
