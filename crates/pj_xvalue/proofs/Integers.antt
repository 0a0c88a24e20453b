-- Steps of the loop that gathers the integers of an argument.
use Rattle.std.proofs.Common.{◌≡◌, ◌∙◌, ℕ, ◌+◌, ◌<◌, ℤ, Result, Ok, Err, List, [], ◌∷◌, ◌++◌, drop, length, get_or, refl, sym, ap}
use Rattle.std.proofs.lemmas.List.{at_drop_more, append_assoc}
use Rattle.pj_xvalue.specs.declared.fault.XCode.{XCode}
use Rattle.pj_xvalue.specs.declared.item.Item.{Item}
use Rattle.pj_xvalue.specs.Items.{ItemValue, Integer, value_of_item, values_of}
use Rattle.pj_xvalue.specs.Arguments.{and_then, integer_before, integers}

-- what the loop has gathered, before what it has yet to go over
abbrev pub integers_behind : List ℤ → Result (List ℤ) XCode → Result (List ℤ) XCode
integers_behind before (Ok rest) = Ok (before ++ rest)
integers_behind before (Err code) = Err code

behind-more : (numbers : List ℤ) (z : ℤ) (r : Result (List ℤ) XCode) → integers_behind numbers (and_then r (λ more. Ok (z ∷ more))) ≡ integers_behind (numbers ++ z ∷ []) r
behind-more numbers z (Ok more) = ap (λ (t : List ℤ). let r : Result (List ℤ) XCode = Ok t in r) (sym (append_assoc numbers (z ∷ []) more))
behind-more numbers z (Err code) = refl

pub integers-more : (numbers new : List ℤ) (whole : Result (List ℤ) XCode) (items : List Item) (i : ℕ) (x : Item) (z : ℤ) → i < length items → x ≡ get_or items i x → value_of_item x ≡ Integer z → new ≡ numbers ++ z ∷ []
    → integers_behind numbers (integers (values_of (drop i items))) ≡ whole → integers_behind new (integers (values_of (drop (i + 1) items))) ≡ whole
integers-more numbers new whole items i x z lt is value put h =
    ap (λ (t : List ℤ). integers_behind t (integers (values_of (drop (i + 1) items)))) put
    ∙ sym (behind-more numbers z (integers (values_of (drop (i + 1) items))))
    ∙ ap (λ (v : ItemValue). integers_behind numbers (integer_before v (integers (values_of (drop (i + 1) items))))) (sym value)
    ∙ ap (λ (y : Item). integers_behind numbers (integer_before (value_of_item y) (integers (values_of (drop (i + 1) items))))) is
    ∙ sym (at_drop_more (λ (t : List Item). integers_behind numbers (integers (values_of t))) items i x lt) ∙ h
