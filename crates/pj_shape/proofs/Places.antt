-- Derivations at places of a list of steps.
use Rattle.std.proofs.Common.{◌≡◌, ℕ, Bool, zero, suc, ◌+◌, ◌-◌, ◌≤◌, ◌⊎◌, List, [], ◌∷◌, ◌++◌, length, drop, Some, slice_get, refl, sym, ◌∙◌, ap, inl, inr, arith, append_assoc, length-append, length-drop}
use Rattle.std.proofs.Math.Seq.{drop-append_seam, drop-append-add}
use Rattle.std.proofs.lemmas.List.{drop-append-le}
use Rattle.pj_peg_grammar.specs.Derivation.{Forest, no_tree, tree, append, count, steps_from}
use Rattle.pj_peg_grammar.specs.declared.derivation.Step.{Step}
use Rattle.pj_shape.specs.declared.shape.Shape.{Shape}
use Rattle.pj_shape.specs.Shaped.{shape_of, shaped, no_nodes}
use Rattle.pj_shape.specs.Flat.{flat, by_itself, raw}

pub count-append : (a b : Forest) → count (append a b) ≡ count a + count b
count-append no_tree b = omega arith
count-append (tree r i j below after) b = let h = count-append after b in omega arith

pub steps_length : (n : ℕ) (d : Forest) → length (steps_from n d) ≡ count d
steps_length n no_tree = refl
steps_length n (tree r i j below after) =
    let a = steps_length (n + 1) below in
    let b = steps_length (n + 1 + count below) after in
    let c = length-append (steps_from (n + 1) below) (steps_from (n + 1 + count below) after) in
    omega arith

pub steps-append : (n : ℕ) (a b : Forest) → steps_from n (append a b) ≡ steps_from n a ++ steps_from (n + count a) b
steps-append n no_tree b = let e : n ≡ n + 0 = omega arith in ap (λ k. steps_from k b) e
steps-append n (tree r i j below after) b =
    let s : Step = record { rule = r; from = i; to = j; next = n + 1 + count below } in
    let e : n + 1 + count below + count after ≡ n + (1 + count below + count after) = omega arith in
    ap (λ l. s ∷ (steps_from (n + 1) below ++ l)) (steps-append (n + 1 + count below) after b) ∙
    ap (λ k. s ∷ (steps_from (n + 1) below ++ (steps_from (n + 1 + count below) after ++ steps_from k b))) e ∙
    ap (λ l. s ∷ l) (sym (append_assoc (steps_from (n + 1) below) (steps_from (n + 1 + count below) after) (steps_from (n + (1 + count below + count after)) b)))

pub raw-append : (shapes : List Shape) (small : ℕ → Bool) (a b : Forest) → raw shapes small (append a b) ≡ raw shapes small a ++ raw shapes small b
raw-append shapes small no_tree b = refl
raw-append shapes small (tree r i j below after) b =
    let own = flat (by_itself (shape_of shapes r) i j (shaped shapes small i no_nodes below)) in
    ap (λ l. own ++ l) (raw-append shapes small after b) ∙ sym (append_assoc own (raw shapes small after) (raw shapes small b))

pub append_none : (d : Forest) → append d no_tree ≡ d
append_none no_tree = refl
append_none (tree r i j below after) = ap (tree r i j below) (append_none after)

drop_nil : {A : Type 0} (xs : List A) (p k : ℕ) → xs ≡ [] → drop p xs ≡ drop k xs
drop_nil [] zero zero e = refl
drop_nil [] zero (suc k) e = refl
drop_nil [] (suc p) zero e = refl
drop_nil [] (suc p) (suc k) e = refl
drop_nil (x ∷ xs) p k e = absurd cc

pub drop_add : {A : Type 0} (p k : ℕ) (xs : List A) → drop (p + k) xs ≡ drop k (drop p xs)
drop_add zero k xs = let e : 0 + k ≡ k = omega arith in ap (λ n. drop n xs) e
drop_add (suc p) k [] = drop_nil [] (suc p + k) k refl
drop_add (suc p) k (x ∷ xs) = let e : suc p + k ≡ suc (p + k) = omega arith in ap (λ n. drop n (x ∷ xs)) e ∙ drop_add p k xs

pub get_of_drop : {A : Type 0} (l : List A) (p : ℕ) (x : A) (xs : List A) → x ∷ xs ≡ drop p l → slice_get l p ≡ Some x
get_of_drop [] zero x xs e = absurd cc
get_of_drop [] (suc p) x xs e = absurd cc
get_of_drop (y ∷ l) zero x xs e = cc
get_of_drop (y ∷ l) (suc p) x xs e = get_of_drop l p x xs e

module _ (steps : List Step) (p r i j : ℕ) (below rest : Forest) (here : steps_from p (tree r i j below rest) ≡ drop p steps) where
  -- the step that stands there
  pub step_here : slice_get steps p ≡ Some record { rule = r; from = i; to = j; next = p + 1 + count below }
  step_here = get_of_drop steps p record { rule = r; from = i; to = j; next = p + 1 + count below } (steps_from (p + 1) below ++ steps_from (p + 1 + count below) rest) here

  -- what follows the step
  pub inside : steps_from (p + 1) below ++ steps_from (p + 1 + count below) rest ≡ drop (p + 1) steps
  inside = sym (drop_add p 1 steps ∙ ap (drop 1) (sym here))

  pub inside_is : steps_from (p + 1) (append below rest) ≡ drop (p + 1) steps
  inside_is = steps-append (p + 1) below rest ∙ inside

  -- what follows the step and what is below it
  pub past : steps_from (p + 1 + count below) rest ≡ drop (p + 1 + count below) steps
  past =
      sym (drop_add (p + 1) (count below) steps ∙ ap (drop (count below)) (sym inside) ∙
      ap (λ n. drop n (steps_from (p + 1) below ++ steps_from (p + 1 + count below) rest)) (sym (steps_length (p + 1) below)) ∙
      drop-append_seam (steps_from (p + 1) below) (steps_from (p + 1 + count below) rest))

  pub lengths : length steps ≡ p + 1 + count below + count rest
  lengths =
      let a : suc (length (steps_from (p + 1) below ++ steps_from (p + 1 + count below) rest)) ≡ length (drop p steps) = ap length here in
      let b = length-append (steps_from (p + 1) below) (steps_from (p + 1 + count below) rest) in
      let c = steps_length (p + 1) below in
      let d = steps_length (p + 1 + count below) rest in
      let e : length (drop p steps) ≡ length steps - p = length-drop p steps in
      omega arith

split_at : (a b : ℕ) → (a ≤ b) ⊎ ((k : ℕ) × (a ≡ b + k))
split_at zero b = inl (omega arith)
split_at (suc a) zero = inr (suc a, omega arith)
split_at (suc a) (suc b) = again (split_at a b)
  where
    again : (a ≤ b) ⊎ ((k : ℕ) × (a ≡ b + k)) → (suc a ≤ suc b) ⊎ ((k : ℕ) × (suc a ≡ suc b + k))
    again (inl l) = inl (omega arith)
    again (inr (k, e)) = inr (k, omega arith)

-- from each place on there are derivations
pub forest_at : (n : ℕ) (t : Forest) (p : ℕ) → p ≤ count t → (s : Forest) × (steps_from (n + p) s ≡ drop p (steps_from n t))
forest_at n t zero le = let e : n + 0 ≡ n = omega arith in (t, ap (λ k. steps_from k t) e)
forest_at n no_tree (suc p) le = absurd (omega arith)
forest_at n (tree r i j below after) (suc p) le = go (split_at p (count below)) (forest_at (n + 1) below p) (λ k. forest_at (n + 1 + count below) after k)
  where
    go : (p ≤ count below) ⊎ ((k : ℕ) × (p ≡ count below + k)) →
        (p ≤ count below → (s : Forest) × (steps_from (n + 1 + p) s ≡ drop p (steps_from (n + 1) below))) →
        ((k : ℕ) → k ≤ count after → (s : Forest) × (steps_from (n + 1 + count below + k) s ≡ drop k (steps_from (n + 1 + count below) after))) →
        (s : Forest) × (steps_from (n + suc p) s ≡ drop p (steps_from (n + 1) below ++ steps_from (n + 1 + count below) after))
    go (inl l) f g =
        let h = f l in
        let le' : p ≤ length (steps_from (n + 1) below) = let len = steps_length (n + 1) below in omega arith in
        let a : n + suc p ≡ n + 1 + p = omega arith in
        let b : n + 1 + p + count h.0 ≡ n + 1 + count below =
        (let x : length (steps_from (n + 1 + p) h.0) ≡ length (drop p (steps_from (n + 1) below)) = ap length h.1 in
        let y = steps_length (n + 1 + p) h.0 in
        let z = length-drop p (steps_from (n + 1) below) in
        let w = steps_length (n + 1) below in omega arith) in (
          append h.0 after,
          ap (λ k. steps_from k (append h.0 after)) a ∙ steps-append (n + 1 + p) h.0 after ∙
              ap (λ k. steps_from (n + 1 + p) h.0 ++ steps_from k after) b ∙
              ap (λ l'. l' ++ steps_from (n + 1 + count below) after) h.1 ∙
              sym (drop-append-le p (steps_from (n + 1) below) (steps_from (n + 1 + count below) after) le'),
        )
    go (inr (k, e)) f g =
        let h = g k (omega arith) in
        let a : n + suc p ≡ n + 1 + count below + k = omega arith in
        let b : length (steps_from (n + 1) below) + k ≡ p = (let len = steps_length (n + 1) below in omega arith) in (
          h.0,
          ap (λ m. steps_from m h.0) a ∙ h.1 ∙ sym (drop-append-add (steps_from (n + 1) below) (steps_from (n + 1 + count below) after) k) ∙
              ap (λ m. drop m (steps_from (n + 1) below ++ steps_from (n + 1 + count below) after)) b,
        )
