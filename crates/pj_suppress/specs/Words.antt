-- Texts beside each other.
use Rattle.std.specs.Prelude.{ℕ, Bool, ◌||◌, List, [], ◌∷◌, nat_eq}
use Rattle.std.specs.Cmp.Lexicographic.{pointwise}
use Rattle.std.specs.List.{starts_with}

abbrev pub Text : Type 0
Text = List ℕ

-- whether two texts are the same
abbrev pub same_text : Text → Text → Bool
same_text = pointwise nat_eq

-- whether two lists have the same texts
abbrev pub same_texts : List Text → List Text → Bool
same_texts = pointwise same_text

-- whether a text contains another: one of its ends begins with it
abbrev pub contains : Text → Text → Bool
contains part [] = starts_with nat_eq [] part
contains part (byte ∷ bytes) = starts_with nat_eq (byte ∷ bytes) part || contains part bytes
