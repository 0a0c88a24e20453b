-- In a checked grammar each rule has an outcome at each place.
use Rattle.std.proofs.Common.{◌≡◌, ◌≢◌, ℕ, zero, suc, ◌+◌, ◌<◌, ◌≤◌, ◌⊎◌, List, length, Option, Some, None, refl, sym, ◌∙◌, subst, ap, inl, inr, ⊎_elim, arith}
use Rattle.std.specs.Prelude.{slice_get}
use Rattle.std.proofs.lemmas.Option.{slice_get_within}
use Rattle.std.proofs.lemmas.Bool.{cases_eq, cases_lt}
use Rattle.pj_peg_grammar.specs.Form.{Form, token, any, rule, nothing, seq, never, choice, star, maybe, ahead, not_ahead}
use Rattle.pj_peg_grammar.specs.Derivation.{Forest, no_tree, tree, append}
use Rattle.pj_peg_grammar.specs.Derives.{Outcome, To, Fails, Derives, token_is, token_not, any_is, any_not, rule_to, rule_fails, nothing_to, seq_to, seq_first, seq_second, never_fails, choice_first, choice_other, star_more, star_end, maybe_some, maybe_none, ahead_is, ahead_not, not_ahead_is, not_ahead_not}
use Rattle.pj_peg_grammar.proofs.Reaching.{by_calls}
use Rattle.pj_peg_grammar.specs.WellFormed.{IsNullable, rule_nullable, nothing_nullable, seq_nullable, first_nullable, other_nullable, star_nullable, maybe_nullable, ahead_nullable, not_ahead_nullable, Begins, Names, Repeats, IsWellFormed}

-- no further, or further, up to the end of the text at most
abbrev pub Goes : ℕ → ℕ → ℕ → Type 0
Goes n i j = (i ≡ j) ⊎ ((i < j) × (j ≤ n))

goes_on : (n i j k : ℕ) → Goes n i j → Goes n j k → Goes n i k
goes_on n i j k (inl p) (inl q) = inl (omega arith)
goes_on n i j k (inl p) (inr q) = inr (omega arith, omega arith)
goes_on n i j k (inr p) (inl q) = inr (omega arith, omega arith)
goes_on n i j k (inr p) (inr q) = inr (omega arith, omega arith)

pub goes_le : (n i j : ℕ) → Goes n i j → i ≤ j
goes_le n i j (inl p) = omega arith
goes_le n i j (inr p) = omega arith

eq_or : (x y : ℕ) → (x ≡ y) ⊎ (x ≢ y)
eq_or = cases_eq

lt_or : (x y : ℕ) → (x < y) ⊎ (y ≤ x)
lt_or = cases_lt

module _ (rules : List Form) (kinds : List ℕ) where
  pub goes : {f : Form} {i j : ℕ} {d : Forest} → Derives rules kinds f i (To j d) → Goes (length kinds) i j
  goes (token_is {k} {i} h) = inr (omega arith, let lt = slice_get_within kinds i k h in omega arith)
  goes (any_is h) = inr (omega arith, omega arith)
  goes (rule_to f h x) = goes x
  goes nothing_to = inl refl
  goes (seq_to x y) = goes_on (length kinds) _ _ _ (goes x) (goes y)
  goes (choice_first x) = goes x
  goes (choice_other x y) = goes y
  goes (star_more x y) = goes_on (length kinds) _ _ _ (goes x) (goes y)
  goes (star_end x) = inl refl
  goes (maybe_some x) = goes x
  goes (maybe_none x) = inl refl
  goes (ahead_is x) = inl refl
  goes (not_ahead_is x) = inl refl

  pub nullable : {f : Form} {i j : ℕ} {d : Forest} → Derives rules kinds f i (To j d) → i ≡ j → IsNullable rules f
  nullable (token_is h) e = absurd (omega arith)
  nullable (any_is h) e = absurd (omega arith)
  nullable (rule_to f h x) e = rule_nullable f h (nullable x e)
  nullable nothing_to e = nothing_nullable
  nullable (seq_to {i} {j} {k} x y) e =
      let n = length kinds in
      let p = goes_le n i j (goes x) in
      let q = goes_le n j k (goes y) in
      seq_nullable (nullable x (omega arith)) (nullable y (omega arith))
  nullable (choice_first x) e = first_nullable (nullable x e)
  nullable (choice_other x y) e = other_nullable (nullable y e)
  nullable (star_more x y) e = star_nullable
  nullable (star_end x) e = star_nullable
  nullable (maybe_some x) e = maybe_nullable
  nullable (maybe_none x) e = maybe_nullable
  nullable (ahead_is x) e = ahead_nullable
  nullable (not_ahead_is x) e = not_ahead_nullable

  abbrev Has : Form → ℕ → Type 0
  Has f i = (o : Outcome) × Derives rules kinds f i o

  has_token : (k i : ℕ) → Has (token k) i
  has_token k i = of (slice_get kinds i) refl
    where
      of : (o : Option ℕ) → slice_get kinds i ≡ o → Has (token k) i
      of None e = (Fails, token_not (λ h. let no = sym e ∙ h in cc))
      of (Some x) e = ⊎_elim
          (λ (same : x ≡ k). (To (i + 1) no_tree, token_is (e ∙ ap Some same)))
          (λ (other : x ≢ k). (Fails, token_not (λ h. other (let no = sym e ∙ h in cc))))
          (eq_or x k)

  has_any : (i : ℕ) → Has any i
  has_any i = ⊎_elim (λ h. (To (i + 1) no_tree, any_is h)) (λ h. (Fails, any_not h)) (lt_or i (length kinds))

  has_rule : (r i : ℕ) (f : Form) → slice_get rules r ≡ Some f → Has f i → Has (rule r) i
  has_rule r i f h (To j d, x) = (To j (tree r i j d no_tree), rule_to f h x)
  has_rule r i f h (Fails, x) = (Fails, rule_fails f h x)

  seq_then : (a b : Form) (i j : ℕ) (d : Forest) → Derives rules kinds a i (To j d) → Has b j → Has (seq a b) i
  seq_then a b i j d x (To k e, y) = (To k (append d e), seq_to x y)
  seq_then a b i j d x (Fails, y) = (Fails, seq_second x y)

  star_then : (a : Form) (i j : ℕ) (d : Forest) → Derives rules kinds a i (To j d) → Has (star a) j → Has (star a) i
  star_then a i j d x (To k e, y) = (To k (append d e), star_more x y)
  star_then a i j d x (Fails, y) = elim y [ ]

  -- what a form needs to have an outcome wherever the rules have one
  abbrev pub Known : Form → Type 0
  Known f = (s : ℕ) → Names f s → s < length rules

  abbrev pub Fed : Form → Type 0
  Fed f = (p : Form) → Repeats f p → IsNullable rules p → ⊥

  -- Here each form has an outcome at each later place, and the rules that are called here have one.
  module _ (i : ℕ) (later : (j : ℕ) (f : Form) → i < j → j ≤ length kinds → Known f → Fed f → Has f j) where
    has_seq : (a b : Form) → Known b → Fed b → Has a i → (IsNullable rules a → Has b i) → Has (seq a b) i
    has_seq a b known fed (Fails, x) here = (Fails, seq_first x)
    has_seq a b known fed (To j d, x) here = seq_then a b i j d x (⊎_elim
        (λ (same : i ≡ j). subst (Has b) same (here (nullable x same)))
        (λ (more : (i < j) × (j ≤ length kinds)). later j b more.0 more.1 known fed)
        (goes x))

    has_star : (a : Form) → Known a → Fed (star a) → Has a i → Has (star a) i
    has_star a known fed (Fails, x) = (To i no_tree, star_end x)
    has_star a known fed (To j d, x) = star_then a i j d x (⊎_elim
        (λ (same : i ≡ j). absurd (fed a (inl refl) (nullable x same)))
        (λ (more : (i < j) × (j ≤ length kinds)). later j (star a) more.0 more.1 known fed)
        (goes x))

    has_choice : (a b : Form) → Has a i → Has b i → Has (choice a b) i
    has_choice a b (Fails, x) (o, y) = (o, choice_other x y)
    has_choice a b (To j d, x) y = (To j d, choice_first x)

    has_maybe : (a : Form) → Has a i → Has (maybe a) i
    has_maybe a (Fails, x) = (To i no_tree, maybe_none x)
    has_maybe a (To j d, x) = (To j d, maybe_some x)

    has_ahead : (a : Form) → Has a i → Has (ahead a) i
    has_ahead a (Fails, x) = (Fails, ahead_not x)
    has_ahead a (To j d, x) = (To i no_tree, ahead_is x)

    has_not_ahead : (a : Form) → Has a i → Has (not_ahead a) i
    has_not_ahead a (Fails, x) = (To i no_tree, not_ahead_is x)
    has_not_ahead a (To j d, x) = (Fails, not_ahead_not x)

    has_form : (f : Form) → Known f → Fed f → ((s : ℕ) → s < length rules → Begins rules f s → Has (rule s) i) → Has f i
    has_form (token k) known fed here = has_token k i
    has_form any known fed here = has_any i
    has_form (rule r) known fed here = here r (known r refl) refl
    has_form nothing known fed here = (To i no_tree, nothing_to)
    has_form (seq a b) known fed here =
        has_seq a b (λ s n. known s (inr n)) (λ p n. fed p (inr n))
        (has_form a (λ s n. known s (inl n)) (λ p n. fed p (inl n)) (λ s lt begins. here s lt (inl begins)))
        (λ empty. has_form b (λ s n. known s (inr n)) (λ p n. fed p (inr n)) (λ s lt begins. here s lt (inr (empty, begins))))
    has_form never known fed here = (Fails, never_fails)
    has_form (choice a b) known fed here =
        has_choice a b
        (has_form a (λ s n. known s (inl n)) (λ p n. fed p (inl n)) (λ s lt begins. here s lt (inl begins)))
        (has_form b (λ s n. known s (inr n)) (λ p n. fed p (inr n)) (λ s lt begins. here s lt (inr begins)))
    has_form (star a) known fed here = has_star a known fed (has_form a known (λ p n. fed p (inr n)) here)
    has_form (maybe a) known fed here = has_maybe a (has_form a known fed here)
    has_form (ahead a) known fed here = has_ahead a (has_form a known fed here)
    has_form (not_ahead a) known fed here = has_not_ahead a (has_form a known fed here)

  module _ (well : IsWellFormed rules) where
    pub known_rule : (r : ℕ) (f : Form) → slice_get rules r ≡ Some f → Known f
    known_rule r f is s names = ⊎_elim
        (λ (lt : s < length rules). lt)
        (λ (le : length rules ≤ s). absurd ((well.none r (slice_get_within rules r f is)).no_unknown_rule (f, is, (s, (names, le)))))
        (cases_lt s (length rules))

    pub fed_rule : (r : ℕ) (f : Form) → slice_get rules r ≡ Some f → Fed f
    fed_rule r f is p repeats empty = (well.none r (slice_get_within rules r f is)).no_empty_repeat (f, is, (p, (repeats, empty)))

    abbrev Later : ℕ → Type 0
    Later i = (j : ℕ) (f : Form) → i < j → j ≤ length kinds → Known f → Fed f → Has f j

    -- each rule has an outcome where each form has one at each later place
    has_here : (i : ℕ) → Later i → (r : ℕ) → r < length rules → Has (rule r) i
    has_here i later = by_calls rules (λ r lt. (well.none r lt).no_left_recursion) (λ r. Has (rule r) i)
        (λ r f is below. has_rule r i f is (has_form i later f (known_rule r f is) (fed_rule r f is) (λ s lt begins. below s begins lt)))

    -- each form has an outcome where at most m tokens are left
    pub has_near : (m i : ℕ) (f : Form) → length kinds ≤ i + m → Known f → Fed f → Has f i
    has_near zero i f near known fed =
        let later : Later i = λ j g lt le _ _. absurd (omega arith) in
        has_form i later f known fed (λ s lt _. has_here i later s lt)
    has_near (suc m) i f near known fed =
        let later : Later i = λ j g lt le k p. has_near m j g (omega arith) k p in
        has_form i later f known fed (λ s lt _. has_here i later s lt)

    pub has_outcome : (r i : ℕ) → r < length rules → (o : Outcome) × Derives rules kinds (rule r) i o
    has_outcome r i lt = has_near (length kinds) i (rule r) (omega arith)
        (λ (s : ℕ) (e : s ≡ r). omega arith) (λ (p : Form) (h : ⊥) (_ : IsNullable rules p). h)
