-- The first place at which a text is no markup, and the first start tag that stands too deep.
use Rattle.std.specs.Prelude.{◌≡◌, ℕ, suc, List, [], ◌∷◌, ◌++◌}
use Rattle.pj_markup.specs.declared.reading.MarkupFault.{MarkupFault}
use Rattle.pj_markup.specs.declared.reading.MarkupFault.TheVariants.{At, Deep, Memory}
use Rattle.pj_markup.specs.Elements.{size, Row}
use Rattle.pj_markup.specs.Markup.{Doc}
use Rattle.pj_markup.specs.Depth.{greatest_depth}

-- the text is a document with these elements, however deep they stand
abbrev pub IsMarkup : List ℕ → List Row → Type 0
IsMarkup text rows = (deepest : ℕ) × Doc deepest text rows

-- the text begins a document without an element deeper than this
abbrev pub CanGoOn : ℕ → List ℕ → Type 0
CanGoOn deepest text = (more : List ℕ) × (rows : List Row) × Doc deepest (text ++ more) rows

-- what stands behind the front cannot: at the end, the front is no document; else no document begins with the front and the next character
abbrev pub CannotFollow : List ℕ → List ℕ → Type 0
CannotFollow front [] = (rows : List Row) → IsMarkup front rows → ⊥
CannotFollow front (c ∷ behind) = (deepest : ℕ) → CanGoOn deepest (front ++ c ∷ []) → ⊥

-- The first place at which the text is no markup, as an offset in bytes; no start tag before it stands too deep.
pub record StopsAt (deepest : ℕ) (text : List ℕ) (offset : ℕ) : Type 0 where
  pub front : List ℕ
  pub behind : List ℕ
  pub split : text ≡ front ++ behind
  pub at : offset ≡ size front
  pub can_go_on : CanGoOn deepest front
  pub cannot : CannotFollow front behind

-- The first start tag that stands one deeper than may be, by the offset of its <: with the first character of its name the text begins a document, and it
-- did so without an element that stands so deep up to there.
pub record IsTooDeepAt (deepest : ℕ) (text : List ℕ) (offset : ℕ) : Type 0 where
  pub front : List ℕ
  pub first : ℕ
  pub behind : List ℕ
  pub split : text ≡ front ++ 60 ∷ first ∷ behind
  pub at : offset ≡ size front
  pub before : CanGoOn deepest (front ++ 60 ∷ [])
  pub not_so_deep : CanGoOn deepest (front ++ 60 ∷ first ∷ []) → ⊥
  pub deeper : CanGoOn (suc deepest) (front ++ 60 ∷ first ∷ [])

-- what is told of a text that has no elements: want of memory has no cause in it
abbrev pub IsFault : List ℕ → MarkupFault → Type 0
IsFault text (At offset) = StopsAt greatest_depth text offset
IsFault text (Deep depth offset) = (depth ≡ suc greatest_depth) × IsTooDeepAt greatest_depth text offset
IsFault text Memory = Unit {0}
