-- One turn more.
use Rattle.std.proofs.Common.{◌≡◌, ℕ, ◌+◌, true, List, [], ◌∷◌, ◌++◌, reverse, refl, sym, ◌∙◌, ap}
use Rattle.std.specs.Prelude.{if◌then◌else◌}
use Rattle.std.proofs.lemmas.List.{reverse-append, map-append}
use Rattle.pj_xexpressions.specs.declared.operator.Quantifier.{Quantifier}
use Rattle.pj_xvalue.specs.declared.fault.XCode.TheVariants.{XPTY0019}
use Rattle.pj_xvalue.specs.declared.item.Item.{Item}
use Rattle.pj_xvalue.specs.Boolean.{effective_boolean}
use Rattle.pj_xvalue.specs.Items.{ItemValue, is_node, value_of_item, values_of}
use Rattle.pj_xsteps.specs.Means.{Means, give, fail, judged, ◌>>=◌, chain, decided, decides, one_boolean}
use Rattle.pj_xsteps.specs.Context.{Context, Variables, Denotation, at}
use Rattle.pj_xsteps.specs.Turns.{numbered, in_turn, with_all}
use Rattle.pj_xsteps.specs.Bindings.{with_item}
use Rattle.pj_xframes.specs.declared.frame.Turn.{Turn}
use Rattle.pj_xframes.specs.declared.frame.Turn.TheVariants as turn
use Rattle.pj_xframes.specs.Frames.{evaluated, taken, may_turn}
use Rattle.pj_xeval.proofs.Steps.{chain-then}

-- the next item stands last
pub next_first : (all before : List Item) (x : Item) → all ≡ before ++ x ∷ [] → reverse (values_of all) ≡ value_of_item x ∷ reverse (values_of before)
next_first all before x is = ap (λ xs. reverse (values_of xs)) is ∙ ap reverse (map-append value_of_item before (x ∷ [])) ∙ reverse-append (values_of before) (value_of_item x ∷ [])

evaluated-may : (what : Turn) (d : Denotation) (size : ℕ) (v : Variables) (p : ℕ) (x : ItemValue) → may_turn what (is_node x) ≡ true → evaluated what d size v (p, x) ≡ d (at x p size) v
evaluated-may turn.Forward d size v p x h = refl
evaluated-may turn.Backward d size v p x h = refl
evaluated-may turn.Step d size v p x h = ap (λ b. if b then in_turn d size v (p, x) else fail XPTY0019) h
evaluated-may turn.Part d size v p x h = refl

module _ (what : Turn) (d : Denotation) (size : ℕ) (v : Variables) (end : List ItemValue → Means (List ItemValue)) where
  -- the next item's turn
  pub turn-next : (all before : List Item) (x : Item) (p q : ℕ) (found : List ItemValue) → all ≡ before ++ x ∷ [] → q ≡ p + 1 → may_turn what (is_node (value_of_item x)) ≡ true
      → (d (at (value_of_item x) q size) v >>= λ value. ((judged (taken what (q, value_of_item x) found value) >>= λ more. chain (evaluated what d size v) (taken what) (numbered (q + 1) (reverse (values_of before))) more) >>= end))
      ≡ (chain (evaluated what d size v) (taken what) (numbered (p + 1) (reverse (values_of all))) found >>= end)
  turn-next all before x p q found is at_q may =
      ap (λ (m : Means (List ItemValue)). m >>= λ value. ((judged (taken what (q, value_of_item x) found value) >>= λ more. chain (evaluated what d size v) (taken what) (numbered (q + 1) (reverse (values_of before))) more) >>= end)) (sym (evaluated-may what d size v q (value_of_item x) may))
      ∙ chain-then (evaluated what d size v) (taken what) end (q, value_of_item x) (numbered (q + 1) (reverse (values_of before))) found
      ∙ ap (λ n. chain (evaluated what d size v) (taken what) (numbered n (value_of_item x ∷ reverse (values_of before))) found >>= end) at_q
      ∙ ap (λ xs. chain (evaluated what d size v) (taken what) (numbered (p + 1) xs) found >>= end) (sym (next_first all before x is))

module _ (name : List ℕ) (d : Denotation) (c : Context) (v : Variables) where
  pub for-next : (all before : List Item) (x : Item) (found : List ItemValue) → all ≡ before ++ x ∷ []
      → (d c ((name, value_of_item x ∷ []) ∷ v) >>= λ value. chain (with_item name d c v) with_all (reverse (values_of before)) (found ++ value)) ≡ chain (with_item name d c v) with_all (reverse (values_of all)) found
  for-next all before x found is = ap (λ xs. chain (with_item name d c v) with_all xs found) (sym (next_first all before x is))

  pub quantified-next : (q : Quantifier) (all before : List Item) (x : Item) → all ≡ before ++ x ∷ []
      → (d c ((name, value_of_item x ∷ []) ∷ v) >>= λ value. judged (effective_boolean value) >>= λ truth. if decides q truth then give (one_boolean truth) else decided q (with_item name d c v) (reverse (values_of before)))
      ≡ decided q (with_item name d c v) (reverse (values_of all))
  quantified-next q all before x is = ap (λ xs. decided q (with_item name d c v) xs) (sym (next_first all before x is))
