-- An item has at most one outcome at a place.
use Rattle.std.proofs.Common.{◌≡◌, ℕ, List, Some, refl, sym, subst, arith}
use Rattle.std.specs.Prelude.{slice_get}
use Rattle.pj_peg_grammar.proofs.Lists.{some_same}
use Rattle.pj_peg_grammar.specs.Form.{Form}
use Rattle.pj_peg_grammar.specs.Derivation.{Forest, no_tree, tree, append}
use Rattle.pj_peg_grammar.specs.Derives.{Outcome, To, Derives, token_is, token_not, any_is, any_not, rule_to, rule_fails, nothing_to, seq_to, seq_first, seq_second, never_fails, choice_first, choice_other, star_more, star_end, maybe_some, maybe_none, ahead_is, ahead_not, not_ahead_is, not_ahead_not}

pub to_place : {j k : ℕ} {d e : Forest} → To j d ≡ To k e → j ≡ k
to_place h = cc

pub to_steps : {j k : ℕ} {d e : Forest} → To j d ≡ To k e → d ≡ e
to_steps h = cc

same_rule : (r i : ℕ) {j k : ℕ} {d e : Forest} → To j d ≡ To k e → To j (tree r i j d no_tree) ≡ To k (tree r i k e no_tree)
same_rule r i {j} {k} {d} {e} h =
    rw (to_place h, to_steps h) refl

joined : {j k : ℕ} {a b d e : Forest} → a ≡ b → To j d ≡ To k e → To j (append a d) ≡ To k (append b e)
joined p h = cc

module _ (rules : List Form) (kinds : List ℕ) where
  abbrev At : Form → ℕ → Outcome → Type 0
  At = Derives rules kinds

  pub move : {f : Form} {o : Outcome} {i j : ℕ} → i ≡ j → At f j o → At f i o
  move {f} {o} e h = subst (λ n. At f n o) (sym e) h

  pub same_form : (r : ℕ) {f g : Form} {i : ℕ} {o : Outcome} → slice_get rules r ≡ Some f → slice_get rules r ≡ Some g → At g i o → At f i o
  same_form r {f} {g} {i} {o} h k x = subst (λ t. At t i o) (some_same k h) x

  pub unique : {f : Form} {i : ℕ} {o p : Outcome} → At f i o → At f i p → o ≡ p
  unique (token_is h) (token_is g) = refl
  unique (token_is h) (token_not g) = absurd (g h)
  unique (token_not h) (token_is g) = absurd (h g)
  unique (token_not h) (token_not g) = refl
  unique (any_is h) (any_is g) = refl
  unique (any_is h) (any_not g) = absurd (omega arith)
  unique (any_not h) (any_is g) = absurd (omega arith)
  unique (any_not h) (any_not g) = refl
  unique (rule_to {r} {i} f h x) (rule_to g k y) = same_rule r i (unique x (same_form r h k y))
  unique (rule_to {r} f h x) (rule_fails g k y) = let no = unique x (same_form r h k y) in cc
  unique (rule_fails {r} f h x) (rule_to g k y) = let no = unique x (same_form r h k y) in cc
  unique (rule_fails f h x) (rule_fails g k y) = refl
  unique nothing_to nothing_to = refl
  unique (seq_to x y) (seq_to x' y') =
      let first = unique x x' in
      joined (to_steps first) (unique y (move (to_place first) y'))
  unique (seq_to x y) (seq_first x') = let no = unique x x' in cc
  unique (seq_to x y) (seq_second x' y') =
      let first = unique x x' in
      let no = unique y (move (to_place first) y') in cc
  unique (seq_first x) (seq_to x' y') = let no = unique x x' in cc
  unique (seq_first x) (seq_first x') = refl
  unique (seq_first x) (seq_second x' y') = refl
  unique (seq_second x y) (seq_to x' y') =
      let first = unique x x' in
      let no = unique y (move (to_place first) y') in cc
  unique (seq_second x y) (seq_first x') = refl
  unique (seq_second x y) (seq_second x' y') = refl
  unique never_fails never_fails = refl
  unique (choice_first x) (choice_first x') = unique x x'
  unique (choice_first x) (choice_other x' y') = let no = unique x x' in cc
  unique (choice_other x y) (choice_first x') = let no = unique x x' in cc
  unique (choice_other x y) (choice_other x' y') = unique y y'
  unique (star_more x y) (star_more x' y') =
      let first = unique x x' in
      joined (to_steps first) (unique y (move (to_place first) y'))
  unique (star_more x y) (star_end x') = let no = unique x x' in cc
  unique (star_end x) (star_more x' y') = let no = unique x x' in cc
  unique (star_end x) (star_end x') = refl
  unique (maybe_some x) (maybe_some x') = unique x x'
  unique (maybe_some x) (maybe_none x') = let no = unique x x' in cc
  unique (maybe_none x) (maybe_some x') = let no = unique x x' in cc
  unique (maybe_none x) (maybe_none x') = refl
  unique (ahead_is x) (ahead_is x') = refl
  unique (ahead_is x) (ahead_not x') = let no = unique x x' in cc
  unique (ahead_not x) (ahead_is x') = let no = unique x x' in cc
  unique (ahead_not x) (ahead_not x') = refl
  unique (not_ahead_is x) (not_ahead_is x') = refl
  unique (not_ahead_is x) (not_ahead_not x') = let no = unique x x' in cc
  unique (not_ahead_not x) (not_ahead_is x') = let no = unique x x' in cc
  unique (not_ahead_not x) (not_ahead_not x') = refl
