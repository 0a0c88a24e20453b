-- What is written in a ruleset file, by the elements of its markup. Elements and attributes that are not named here are ignored, with all that they hold.
use Rattle.std.specs.Prelude.{pred, List, [], ◌∷◌, map, length, Option, Some, None, codes, unwrap_or, if◌then◌else◌}
use Rattle.std.specs.List.{flat_map, filter_map}
use Rattle.std.specs.Prelude.{Bool}
use Rattle.pj_markup.specs.Elements.{row_at, value_of}
use Rattle.pj_markup.specs.declared.element.Row.{Row}
use Rattle.pj_rule_texts.specs.Values.{Text, is_same}
use Rattle.pj_rule_texts.specs.declared.written.WrittenProperty.{WrittenProperty}
use Rattle.pj_rule_texts.specs.declared.written.Piece.{Piece}
use Rattle.pj_rule_texts.specs.declared.written.Piece.TheVariants as piece
use Rattle.pj_rule_texts.specs.declared.written.WrittenRule.{WrittenRule}
use Rattle.pj_rule_texts.specs.declared.written.Part.{Part}
use Rattle.pj_rule_texts.specs.declared.written.Part.TheVariants as part
use Rattle.pj_rule_texts.specs.declared.written.WrittenRuleset.{WrittenRuleset}

abbrev pub is_named : Text → Row → Bool
is_named name element = is_same element.name name

abbrev pub attribute : Text → Row → Option Text
attribute name element = value_of name element.attributes

abbrev pub or_else : {A : Type 0} → Option A → Option A → Option A
or_else (Some value) other = Some value
or_else None other = other

-- the text of the first element of a name
abbrev pub first_text : Text → List Row → Option Text
first_text name [] = None
first_text name (element ∷ elements) = if is_named name element then Some element.text else first_text name elements

-- the elements of a text of markup
module _ (rows : List Row) where
  abbrev pub children : Row → List Row
  children element = map (λ child. row_at rows child.number) element.children

  -- an attribute `value` goes before an element `value`, of which the first counts
  abbrev pub property_of : Row → WrittenProperty
  property_of element = record {
    name = attribute (codes "name") element;
    kind = attribute (codes "type") element;
    value = or_else (attribute (codes "value") element) (first_text (codes "value") (children element));
  }

  abbrev pub property_pieces : Row → List Piece
  property_pieces element = if is_named (codes "property") element then piece.Property (property_of element) ∷ [] else []

  abbrev pub pieces_of_child : Row → List Piece
  pieces_of_child child = if is_named (codes "priority") child then piece.Priority child.text ∷ []
      else (if is_named (codes "properties") child then flat_map property_pieces (children child) else [])

  abbrev pub exclude_of : Row → Option Text
  exclude_of child = if is_named (codes "exclude") child then attribute (codes "name") child else None

  abbrev pub rule_of : Row → WrittenRule
  rule_of element = record {
    offset = element.offset;
    reference = attribute (codes "ref") element;
    name = attribute (codes "name") element;
    language = attribute (codes "language") element;
    class = attribute (codes "class") element;
    message = attribute (codes "message") element;
    pieces = flat_map pieces_of_child (children element);
    excludes = filter_map exclude_of (children element);
  }

  abbrev pub part_of : Row → Option Part
  part_of child = if is_named (codes "rule") child then Some (part.Rule (rule_of child))
      else (if is_named (codes "exclude-pattern") child then Some (part.ExcludePattern child.text)
      else (if is_named (codes "include-pattern") child then Some (part.IncludePattern child.text) else None))

  abbrev pub ruleset_of : Row → WrittenRuleset
  ruleset_of element = record {
    rule_set = unwrap_or (attribute (codes "name") element) [];
    parts = filter_map part_of (children element);
  }

  -- the root is the last element
  abbrev pub root : Row
  root = row_at rows (pred (length rows))

  -- the ruleset that is written in the elements; none where the root is no `ruleset`
  abbrev pub written_ruleset : Option WrittenRuleset
  written_ruleset = if is_named (codes "ruleset") root then Some (ruleset_of root) else None
