-- Texts of no more than so many bytes.
use Rattle.std.specs.Prelude.{⊤, ℕ, ◌*◌, ◌≤◌, List, [], ◌∷◌, length, Option, Some, None}
use Rattle.pj_rule_texts.specs.Files.{greatest_size}
use Rattle.pj_rule_texts.specs.Values.{Text}
use Rattle.pj_rule_texts.specs.declared.properties.Property.{Property}
use Rattle.pj_rule_texts.specs.declared.rule.RuleTexts.{RuleTexts}
use Rattle.pj_rule_texts.specs.declared.written.Part.{Part}
use Rattle.pj_rule_texts.specs.declared.written.Part.TheVariants as part
use Rattle.pj_rule_texts.specs.declared.written.Piece.{Piece}
use Rattle.pj_rule_texts.specs.declared.written.Piece.TheVariants as piece

-- The greatest size of a text in a ruleset. A ruleset has no more characters than it may have bytes, and each stands for four bytes of a text at most.
abbrev pub greatest : ℕ
greatest = 4 * greatest_size

abbrev pub IsShort : Text → Type 0
IsShort text = length text ≤ greatest

-- it is short, where there is one
abbrev pub IsShortOr : Option Text → Type 0
IsShortOr None = ⊤
IsShortOr (Some text) = IsShort text

-- ---- what is written

-- the value of a property
abbrev pub IsShortPiece : Piece → Type 0
IsShortPiece (piece.Priority text) = ⊤
IsShortPiece (piece.Property property) = IsShortOr property.value

abbrev pub AreShortPieces : List Piece → Type 0
AreShortPieces [] = ⊤
AreShortPieces (p ∷ pieces) = IsShortPiece p × AreShortPieces pieces

-- the values of a rule's properties
abbrev pub IsShortPart : Part → Type 0
IsShortPart (part.Rule rule) = AreShortPieces rule.pieces
IsShortPart (part.ExcludePattern pattern) = ⊤
IsShortPart (part.IncludePattern pattern) = ⊤

abbrev pub AreShortParts : List Part → Type 0
AreShortParts [] = ⊤
AreShortParts (p ∷ parts) = IsShortPart p × AreShortParts parts

-- ---- the texts of a rule

abbrev pub AreShortProperties : List Property → Type 0
AreShortProperties [] = ⊤
AreShortProperties (p ∷ properties) = IsShort p.value × AreShortProperties properties

-- its query, and the values of its properties
pub record HasShortTexts (texts : RuleTexts) : Type 0 where
  pub xpath : IsShort texts.xpath
  pub properties : AreShortProperties texts.properties
