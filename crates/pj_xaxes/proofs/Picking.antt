-- Nodes picked from a stretch of numbers.
use Rattle.std.proofs.Common.{◌≡◌, ℕ, zero, suc, ◌+◌, ◌-◌, ◌<◌, ◌≤◌, Bool, true, false, cond, List, [], ◌∷◌, ◌++◌, map, filter, reverse, refl, sym, ◌∙◌, ap, subst, inl, inr, arith}
use Rattle.std.specs.List.{range_with_len}
use Rattle.std.proofs.lemmas.Bool.{cases_lt}
use Rattle.std.proofs.lemmas.List.{reverse-append}
use Rattle.std.proofs.lemmas.List.FromFn.{filter_of_map_range_with_len_more}
use Rattle.pj_tree.specs.declared.node.Node.{Node}
use Rattle.pj_xaxes.specs.Axes.{node}
use Rattle.pj_xaxes.specs.Search.{picked}
use Rattle.pj_xaxes.specs.Search.{NoneFrom}

module _ (f : Node → Bool) where
  picked-step : (from n : ℕ) → picked f from (suc n) ≡ cond (f (node from)) (node from ∷ picked f (from + 1) n) (picked f (from + 1) n)
  unfolding picked
  picked-step from n = refl

  pub picked-is : (from n : ℕ) → picked f from n ≡ filter f (map node (range_with_len from n))
  unfolding picked
  picked-is from n = refl

  picked-zero : (from : ℕ) → picked f from 0 ≡ []
  unfolding picked
  picked-zero from = refl

  -- nothing is left
  pub picked-done : (from high : ℕ) → high ≤ from → picked f from (high - from) ≡ []
  picked-done from high done = (let none : high - from ≡ 0 = omega arith in ap (picked f from) none ∙ picked-zero from)

  picked-last : (from n j : ℕ) → from + n ≡ j → picked f from (n + 1) ≡ picked f from n ++ cond (f (node j)) (node j ∷ []) []
  unfolding picked
  picked-last from n j at = filter_of_map_range_with_len_more f node from n j at

  -- where none passes
  picked-none : (from n : ℕ) → NoneFrom f from (from + n) → picked f from n ≡ []
  picked-none from zero none = picked-zero from
  picked-none from (suc n) none =
      picked-step from n ∙ rw (none.each from (omega arith) (omega arith)) (picked-none (from + 1) n (record { each = λ k low high. none.each k (omega arith) (omega arith) }))

  -- a stretch without any in front
  pub skipped : (a b h : ℕ) → a ≤ b → NoneFrom f a b → picked f a (h - a) ≡ picked f b (h - b)
  skipped a b h low none = skipped_by (b - a) a b h (omega arith) none
    where
      skipped_by : (n a b h : ℕ) → a + n ≡ b → NoneFrom f a b → picked f a (h - a) ≡ picked f b (h - b)
      skipped_by zero a b h at none = (let same : a ≡ b = omega arith in ap (λ (x : ℕ). picked f x (h - x)) same)
      skipped_by (suc n) a b h at none = elim (cases_lt a h) [
        | inl more ↦
            let count : h - a ≡ suc (h - (a + 1)) = omega arith in
            ap (picked f a) count ∙ picked-step a (h - (a + 1)) ∙ rw (none.each a (omega arith) (omega arith)) (skipped_by n (a + 1) b h (omega arith) (record { each = λ k low high. none.each k (omega arith) high }))
        | inr done ↦
            let left : h - a ≡ 0 = omega arith in
            let right : h - b ≡ 0 = omega arith in
            ap (picked f a) left ∙ picked-zero a ∙ sym (ap (picked f b) right ∙ picked-zero b)
      ]

  -- a stretch without any at the end
  pub cut : (a b h : ℕ) → b ≤ h → NoneFrom f b h → picked f a (h - a) ≡ picked f a (b - a)
  cut a b h high none = cut_by (h - b) a b h (omega arith) none
    where
      cut_by : (n a b h : ℕ) → b + n ≡ h → NoneFrom f b h → picked f a (h - a) ≡ picked f a (b - a)
      cut_by zero a b h at none = (let same : h ≡ b = omega arith in ap (λ (x : ℕ). picked f a (x - a)) same)
      cut_by (suc n) a b h at none = elim (cases_lt a h) [
        | inl more ↦
            let count : h - a ≡ (b + n - a) + 1 = omega arith in
            ap (picked f a) count ∙ last_off a (b + n) (omega arith) (none.each (b + n) (omega arith) (omega arith)) ∙ cut_by n a b (b + n) refl (record { each = λ k low high. none.each k low (omega arith) })
        | inr done ↦
            let left : h - a ≡ 0 = omega arith in
            let right : b - a ≡ 0 = omega arith in
            ap (picked f a) left ∙ picked-zero a ∙ sym (ap (picked f a) right ∙ picked-zero a)
      ]
        where
          append_nil : (xs : List Node) → xs ++ [] ≡ xs
          append_nil [] = refl
          append_nil (x ∷ xs) = ap (λ ys. x ∷ ys) (append_nil xs)

          last_off : (a j : ℕ) → a ≤ j → f (node j) ≡ false → picked f a (j - a + 1) ≡ picked f a (j - a)
          last_off a j low off = picked-last a (j - a) j (omega arith) ∙ rw off (append_nil (picked f a (j - a)))

  -- the first number, and those behind it
  pub first_on : (low next high : ℕ) → low < high → low < next → NoneFrom f (low + 1) next → f (node low) ≡ true → picked f low (high - low) ≡ node low ∷ picked f next (high - next)
  first_on low next high room later none on =
      let count : high - low ≡ suc (high - (low + 1)) = omega arith in
      ap (picked f low) count ∙ picked-step low (high - (low + 1)) ∙ rw on (ap (λ xs. node low ∷ xs) (skipped (low + 1) next high (omega arith) none))

  pub first_off : (low next high : ℕ) → low < high → low < next → NoneFrom f (low + 1) next → f (node low) ≡ false → picked f low (high - low) ≡ picked f next (high - next)
  first_off low next high room later none off =
      let count : high - low ≡ suc (high - (low + 1)) = omega arith in
      ap (picked f low) count ∙ picked-step low (high - (low + 1)) ∙ rw off (skipped (low + 1) next high (omega arith) none)

  -- the last number, and those before it
  pub last_on : (low last high : ℕ) → low < high → last ≤ high - 1 → NoneFrom f last (high - 1) → f (node (high - 1)) ≡ true
      → reverse (picked f low (high - low)) ≡ node (high - 1) ∷ reverse (picked f low (last - low))
  last_on low last high room earlier none on =
      let count : high - low ≡ (high - 1 - low) + 1 = omega arith in
      ap reverse (ap (picked f low) count ∙ picked-last low (high - 1 - low) (high - 1) (omega arith))
      ∙ rw on (reverse-append (picked f low (high - 1 - low)) (node (high - 1) ∷ []))
      ∙ ap (λ xs. node (high - 1) ∷ reverse xs) (cut low last (high - 1) earlier none)

  pub last_off : (low last high : ℕ) → low < high → last ≤ high - 1 → NoneFrom f last (high - 1) → f (node (high - 1)) ≡ false
      → picked f low (high - low) ≡ picked f low (last - low)
  last_off low last high room earlier none off = cut low last high (omega arith) (record { each = λ k from to. each k from (omega arith) })
    where
      each : (k : ℕ) → last ≤ k → k ≤ high - 1 → f (node k) ≡ false
      each k from to = elim (cases_lt k (high - 1)) [
        | inl before ↦ none.each k from before
        | inr at ↦ (let same : high - 1 ≡ k = omega arith in subst (λ (x : ℕ). f (node x) ≡ false) same off)
      ]
