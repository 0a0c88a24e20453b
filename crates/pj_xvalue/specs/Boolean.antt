-- The effective boolean value of a sequence (XPath 2.0, 2.4.3).
use Rattle.std.specs.Prelude.{pos, Bool, true, false, not, ◌==◌, List, [], ◌∷◌, length, Result, Ok, Err}
use Rattle.std.specs.Ordering.{int_eq}
use Rattle.pj_xvalue.specs.declared.fault.XCode.{XCode}
use Rattle.pj_xvalue.specs.declared.fault.XCode.TheVariants.{FORG0006}
use Rattle.pj_xvalue.specs.Items.{ItemValue, Document, Element, Attribute, String, Integer, Boolean}

-- the effective boolean value of one item: that of a number is false at zero, that of a string where its length is zero,
-- and a node is true
abbrev pub atomic_boolean : ItemValue → Bool
atomic_boolean (Boolean b) = b
atomic_boolean (Integer z) = not (int_eq z (pos 0))
atomic_boolean (String text) = not (length text == 0)
atomic_boolean _ = true

-- The empty sequence is false, one whose first item is a node is true, and one atomic value is judged by itself. No
-- other sequence has an effective boolean value.
abbrev pub effective_boolean : List ItemValue → Result Bool XCode
effective_boolean [] = Ok false
effective_boolean (Document ∷ rest) = Ok true
effective_boolean (Element n ∷ rest) = Ok true
effective_boolean (Attribute n place ∷ rest) = Ok true
effective_boolean (x ∷ []) = Ok (atomic_boolean x)
effective_boolean (x ∷ y ∷ rest) = Err FORG0006
