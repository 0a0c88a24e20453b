-- Steps of a loop that puts values into sets.
use Rattle.std.proofs.Common.{◌≡◌, ◌∙◌, ℕ, ◌+◌, ◌<◌, Bool, true, false, cond, List, length, get_or, take, refl, sym, ap}
use Rattle.std.specs.Prelude.{◌||◌, nat_eq}
use Rattle.std.specs.List.{list_any}
use Rattle.std.specs.Cmp.Lexicographic.{pointwise, slice_cmp}
use Rattle.std.specs.Ordering.{is_eq, nat_cmp}
use Rattle.std.specs.Str.{bytes_eq}
use Rattle.std.proofs.lemmas.Bool.Decides.{Decides-like, same_from_decides}
use Rattle.std.proofs.lemmas.List.Folds.{list_any_more}
use Rattle.std.proofs.lemmas.Map.Text.{is_eq-slice_cmp}
use Rattle.std.proofs.lemmas.Slice.Eq.{bytes_eq-Decides}
use Rattle.pj_xvalue.specs.declared.item.Item.{Item}
use Rattle.pj_xvalue.specs.Items.{ItemValue, value_of_item}
use Rattle.pj_xfuncs.specs.declared.seen.Seen.{Seen}
use Rattle.pj_xfuncs.specs.Seen.{has}
use Rattle.pj_xfuncs.specs.Sequences.{same}

put-or : (here there : Bool) → cond here true there ≡ (there || here)
put-or true true = refl
put-or true false = refl
put-or false true = refl
put-or false false = refl

texts-same : (a b : List ℕ) → bytes_eq a b ≡ bytes_eq b a
texts-same a b = same_from_decides (bytes_eq a b) (bytes_eq b a) (bytes_eq-Decides a b) (Decides-like (bytes_eq b a) (λ (e : b ≡ a). sym e) (λ (e : a ≡ b). sym e) (bytes_eq-Decides b a))

-- a text that was put into a set
pub text-put : (text other : List ℕ) (there : Bool) → cond (is_eq (slice_cmp nat_cmp text other)) true there ≡ (there || pointwise nat_eq other text)
text-put text other there = ap (λ (b : Bool). cond b true there) (is_eq-slice_cmp text other ∙ texts-same text other) ∙ put-or (bytes_eq other text) there

-- the values that were met of items, where one more was
pub met-more : (items : List Item) (i : ℕ) (x : Item) (old new : Seen) → i < length items → x ≡ get_or items i x
    → ((value : ItemValue) → has old value ≡ list_any (λ other. same value (value_of_item other)) (take i items))
    → ((value : ItemValue) → has new value ≡ (has old value || same value (value_of_item x)))
    → (value : ItemValue) → has new value ≡ list_any (λ other. same value (value_of_item other)) (take (i + 1) items)
met-more items i x old new lt is before met value =
    let here = λ (y : Item). same value (value_of_item y) in
    met value ∙ ap (λ (b : Bool). b || here x) (before value)
    ∙ ap (λ (y : Item). list_any here (take i items) || here y) is
    ∙ sym (list_any_more here items i x lt)
