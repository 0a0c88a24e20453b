-- What is written in a ruleset is short.
use Rattle.std.proofs.Common.{◌≡◌, ℕ, zero, suc, Bool, true, false, cond, List, [], ◌∷◌, ◌++◌, map, Option, Some, None, subst, arith}
use Rattle.std.specs.Prelude.{⊤, codes, nat_eq}
use Rattle.std.specs.List.{cons_option, filter_map, flat_map}
use Rattle.std.specs.Cmp.Lexicographic.{pointwise}
use Rattle.pj_markup.specs.Elements.{row_at, value_of}
use Rattle.pj_markup.specs.declared.element.Attribute.{Attribute}
use Rattle.pj_markup.specs.declared.element.Element.{Element}
use Rattle.pj_markup.specs.declared.element.Row.{Row}
use Rattle.pj_outside.specs.Files.{Files}
use Rattle.pj_rule_texts.specs.Files.{IsRead}
use Rattle.pj_rule_texts.specs.Values.{Text}
use Rattle.pj_rule_texts.specs.Written.{attribute, children, first_text, is_named, or_else, part_of, pieces_of_child, property_of, property_pieces, root, rule_of, ruleset_of, written_ruleset}
use Rattle.pj_rule_texts.specs.declared.written.Part.{Part}
use Rattle.pj_rule_texts.specs.declared.written.Part.TheVariants as part
use Rattle.pj_rule_texts.specs.declared.written.Piece.{Piece}
use Rattle.pj_rule_texts.specs.declared.written.Piece.TheVariants as piece
use Rattle.pj_rule_texts.specs.declared.written.WrittenRuleset.{WrittenRuleset}
use Rattle.pj_rule_laws.specs.Sizes.{greatest, IsShortOr, AreShortPieces, IsShortPart, AreShortParts}
use Rattle.pj_rule_laws.proofs.Lengths.{few_characters}
use Rattle.pj_rule_laws.proofs.MarkupSizes.{ShortAttributes, ShortRow, ShortRows, of_document}

-- ---- lists

pieces_more : (xs ys : List Piece) → AreShortPieces xs → AreShortPieces ys → AreShortPieces (xs ++ ys)
pieces_more [] ys h k = k
pieces_more (x ∷ xs) ys h k = (h.0, pieces_more xs ys h.1 k)

-- the pieces of elements, where those of each are short
pieces_of_all : (f : Row → List Piece) → ((row : Row) → ShortRow greatest row → AreShortPieces (f row)) → (rows : List Row) → ShortRows greatest rows → AreShortPieces (flat_map f rows)
pieces_of_all f each [] h = tt
pieces_of_all f each (row ∷ rows) h = pieces_more (f row) (flat_map f rows) (each row h.0) (pieces_of_all f each rows h.1)

IsShortPartOr : Option Part → Type 0
IsShortPartOr None = ⊤
IsShortPartOr (Some p) = IsShortPart p

parts_of_all : (f : Row → Option Part) → ((row : Row) → ShortRow greatest row → IsShortPartOr (f row)) → (rows : List Row) → ShortRows greatest rows → AreShortParts (filter_map f rows)
unfolding IsShortPartOr
parts_of_all f each [] h = tt
parts_of_all f each (row ∷ rows) h = put (f row) (each row h.0) (parts_of_all f each rows h.1)
  where
    put : (o : Option Part) → IsShortPartOr o → AreShortParts (filter_map f rows) → AreShortParts (cons_option o (filter_map f rows))
    put None p more = more
    put (Some p) short more = (short, more)

-- ---- texts of elements

attribute_short : (name : Text) (attributes : List Attribute) → ShortAttributes greatest attributes → IsShortOr (value_of name attributes)
attribute_short name [] h = tt
attribute_short name (a ∷ attributes) h = by (pointwise nat_eq a.name name) (attribute_short name attributes h.1)
  where
    by : (b : Bool) → IsShortOr (value_of name attributes) → IsShortOr (cond b (Some a.value) (value_of name attributes))
    by true more = h.0
    by false more = more

first_short : (name : Text) (rows : List Row) → ShortRows greatest rows → IsShortOr (first_text name rows)
first_short name [] h = tt
first_short name (row ∷ rows) h = by (is_named name row) (first_short name rows h.1)
  where
    by : (b : Bool) → IsShortOr (first_text name rows) → IsShortOr (cond b (Some row.text) (first_text name rows))
    by true more = h.0.text
    by false more = more

either_short : (a b : Option Text) → IsShortOr a → IsShortOr b → IsShortOr (or_else a b)
either_short None b h k = k
either_short (Some a) b h k = h

row_short : (rows : List Row) → ShortRows greatest rows → (number : ℕ) → ShortRow greatest (row_at rows number)
row_short [] h n = record { text = omega arith; attributes = tt }
row_short (r ∷ rows) h zero = h.0
row_short (r ∷ rows) h (suc n) = row_short rows h.1 n

module _ (rows : List Row) (short : ShortRows greatest rows) where
  all_short : (elements : List Element) → ShortRows greatest (map (λ child. row_at rows child.number) elements)
  all_short [] = tt
  all_short (element ∷ elements) = (row_short rows short element.number, all_short elements)

  children_short : (row : Row) → ShortRows greatest (children rows row)
  children_short row = all_short row.children

  -- ---- what is written

  property_short : (row : Row) → ShortRow greatest row → AreShortPieces (property_pieces rows row)
  property_short row h = by (is_named (codes "property") row)
    where
      by : (b : Bool) → AreShortPieces (cond b (piece.Property (property_of rows row) ∷ []) [])
      by true = (
        either_short (attribute (codes "value") row) (first_text (codes "value") (children rows row)) (attribute_short (codes "value") row.attributes h.attributes)
            (first_short (codes "value") (children rows row) (children_short row)),
        tt,
      )
      by false = tt

  pieces_short : (row : Row) → ShortRow greatest row → AreShortPieces (pieces_of_child rows row)
  pieces_short row h = by (is_named (codes "priority") row)
    where
      or_properties : (b : Bool) → AreShortPieces (cond b (flat_map (property_pieces rows) (children rows row)) [])
      or_properties true = pieces_of_all (property_pieces rows) property_short (children rows row) (children_short row)
      or_properties false = tt

      by : (b : Bool) → AreShortPieces (cond b (piece.Priority row.text ∷ []) (cond (is_named (codes "properties") row) (flat_map (property_pieces rows) (children rows row)) []))
      by true = (tt, tt)
      by false = or_properties (is_named (codes "properties") row)

  part_short : (row : Row) → ShortRow greatest row → IsShortPartOr (part_of rows row)
  unfolding IsShortPartOr
  part_short row h = by (is_named (codes "rule") row)
    where
      or_include : (b : Bool) → IsShortPartOr (cond b (Some (part.IncludePattern row.text)) None)
      or_include true = tt
      or_include false = tt

      or_exclude : (b : Bool) → IsShortPartOr (cond b (Some (part.ExcludePattern row.text)) (cond (is_named (codes "include-pattern") row) (Some (part.IncludePattern row.text)) None))
      or_exclude true = tt
      or_exclude false = or_include (is_named (codes "include-pattern") row)

      by : (b : Bool) → IsShortPartOr (cond b (Some (part.Rule (rule_of rows row)))
          (cond (is_named (codes "exclude-pattern") row) (Some (part.ExcludePattern row.text)) (cond (is_named (codes "include-pattern") row) (Some (part.IncludePattern row.text)) None)))
      by true = pieces_of_all (pieces_of_child rows) pieces_short (children rows row) (children_short row)
      by false = or_exclude (is_named (codes "exclude-pattern") row)

  ruleset_short : (written : WrittenRuleset) → written_ruleset rows ≡ Some written → AreShortParts written.parts
  ruleset_short written is = by (is_named (codes "ruleset") (root rows)) is
    where
      same : Some (ruleset_of rows (root rows)) ≡ Some written → ruleset_of rows (root rows) ≡ written
      same e = cc

      by : (b : Bool) → cond b (Some (ruleset_of rows (root rows))) None ≡ Some written → AreShortParts written.parts
      by true e = subst (λ (w : WrittenRuleset). AreShortParts w.parts) (same e) (parts_of_all (part_of rows) part_short (children rows (root rows)) (children_short (root rows)))
      by false e = absurd (cc)

-- ---- files

pub read_short : (files : Files) (path : Text) (written : WrittenRuleset) → IsRead files path written → AreShortParts written.parts
read_short files path written is =
    let a = few_characters is.bytes in
    let b = is.fits in
    ruleset_short is.content.text.rows (of_document greatest is.content.text.is_markup (omega (arith, a, b))) written is.content.text.is_ruleset
