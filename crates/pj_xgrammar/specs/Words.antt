-- The words that have a meaning in the grammar.
use Rattle.std.specs.Prelude.{ℕ, ◌==◌, ◌&&◌, Bool, true, false, List, [], ◌∷◌, Option, Some, None, codes, if◌then◌else◌}
use Rattle.pj_base.specs.WordTable.{value_in}
use Rattle.pj_xgrammar.specs.declared.word.Word.{Word}
use Rattle.pj_xgrammar.specs.declared.word.Word.TheVariants as w
use Rattle.pj_xgrammar.specs.declared.word.Keyword.TheVariants as k
use Rattle.pj_xgrammar.specs.declared.word.Phrase.TheVariants as p

-- the texts are the same
abbrev pub same : List ℕ → List ℕ → Bool
same [] [] = true
same [] (d ∷ ds) = false
same (c ∷ cs) [] = false
same (c ∷ cs) (d ∷ ds) = (c == d) && same cs ds

-- The words of XPath 2.0, A.2.2, that the grammar knows, with those of `let`, maps, arrays and inline functions of XPath 3.1, and
-- the names of the axes (XPath 2.0, 3.2.1.1)
abbrev pub words : List (List ℕ × Word)
words =
    (codes "ancestor", w.Keyword k.Axis)
    ∷ (codes "ancestor-or-self", w.Keyword k.Axis)
    ∷ (codes "and", w.Keyword k.And)
    ∷ (codes "array", w.Phrase p.Array)
    ∷ (codes "attribute", w.Keyword k.Axis)
    ∷ (codes "cast", w.Phrase p.CastAs)
    ∷ (codes "castable", w.Phrase p.CastableAs)
    ∷ (codes "child", w.Keyword k.Axis)
    ∷ (codes "descendant", w.Keyword k.Axis)
    ∷ (codes "descendant-or-self", w.Keyword k.Axis)
    ∷ (codes "div", w.Keyword k.Div)
    ∷ (codes "element", w.Keyword k.Element)
    ∷ (codes "else", w.Keyword k.Else)
    ∷ (codes "eq", w.Keyword k.Eq)
    ∷ (codes "every", w.Phrase p.Every)
    ∷ (codes "except", w.Keyword k.Except)
    ∷ (codes "following", w.Keyword k.Axis)
    ∷ (codes "following-sibling", w.Keyword k.Axis)
    ∷ (codes "for", w.Phrase p.For)
    ∷ (codes "function", w.Phrase p.Function)
    ∷ (codes "ge", w.Keyword k.Ge)
    ∷ (codes "gt", w.Keyword k.Gt)
    ∷ (codes "idiv", w.Keyword k.Idiv)
    ∷ (codes "if", w.Phrase p.If)
    ∷ (codes "in", w.Keyword k.In)
    ∷ (codes "instance", w.Phrase p.InstanceOf)
    ∷ (codes "intersect", w.Keyword k.Intersect)
    ∷ (codes "is", w.Keyword k.Is)
    ∷ (codes "le", w.Keyword k.Le)
    ∷ (codes "let", w.Phrase p.Let)
    ∷ (codes "lt", w.Keyword k.Lt)
    ∷ (codes "map", w.Phrase p.Map)
    ∷ (codes "mod", w.Keyword k.Mod)
    ∷ (codes "ne", w.Keyword k.Ne)
    ∷ (codes "node", w.Keyword k.Node)
    ∷ (codes "or", w.Keyword k.Or)
    ∷ (codes "parent", w.Keyword k.Axis)
    ∷ (codes "preceding", w.Keyword k.Axis)
    ∷ (codes "preceding-sibling", w.Keyword k.Axis)
    ∷ (codes "return", w.Keyword k.Return)
    ∷ (codes "satisfies", w.Keyword k.Satisfies)
    ∷ (codes "self", w.Keyword k.Axis)
    ∷ (codes "some", w.Phrase p.Some)
    ∷ (codes "then", w.Keyword k.Then)
    ∷ (codes "to", w.Keyword k.To)
    ∷ (codes "treat", w.Phrase p.TreatAs)
    ∷ (codes "union", w.Keyword k.Union)
    ∷ []

-- the word that a name is
abbrev pub word_of : List ℕ → Option Word
word_of text = value_in words text
