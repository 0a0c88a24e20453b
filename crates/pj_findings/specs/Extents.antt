-- Where a finding stands: the whole span of its node.
use Rattle.std.specs.Prelude.{ℕ, ◌-◌, nat_lt, if◌then◌else◌}
use Rattle.std.specs.Option.{option_map_or}
use Rattle.pj_tree.specs.Places.{first_place}
use Rattle.pj_tree.specs.Tree.{Tree, span_of}
use Rattle.pj_tree.specs.declared.node.Node.{Node}
use Rattle.pj_tree.specs.declared.node.Place.{Place}
use Rattle.pj_tree.specs.declared.node.Span.{Span}
use Rattle.pj_findings.specs.declared.extent.Extent.{Extent}

-- the offset of the last byte of a span, which has its character's place; an empty span ends where it begins
abbrev pub last_of : Span → ℕ
last_of span = if nat_lt span.from span.to then span.to - 1 else span.from

-- the places of a span's first and last character, by the places of offsets
abbrev pub extent_of_span : (ℕ → Place) → Span → Extent
extent_of_span place_of span = record { begin = place_of span.from; end = place_of (last_of span) }

abbrev pub first_extent : Extent
first_extent = record { begin = first_place; end = first_place }

-- the same of a node of a tree; of what is no node of it nothing is said elsewhere
abbrev pub extent_of : (ℕ → Place) → Tree → Node → Extent
extent_of place_of tree n = option_map_or (extent_of_span place_of) (span_of tree n) first_extent
