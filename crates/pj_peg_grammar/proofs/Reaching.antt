-- Induction over the calls of rules where none can come to itself.
use Rattle.std.proofs.Common.{◌≡◌, ◌≢◌, ℕ, zero, suc, ◌+◌, ◌<◌, ◌≤◌, List, [], ◌∷◌, length, Some, sym, subst, ⊎_elim, arith}
use Rattle.std.specs.Prelude.{slice_get}
use Rattle.std.proofs.lemmas.Bool.{cases_eq}
use Rattle.pj_peg_grammar.specs.Form.{Form}
use Rattle.pj_peg_grammar.specs.WellFormed.{Begins, Reaches, calls, calls_on}
use Rattle.pj_peg_grammar.proofs.Lists.{found}

-- each number has the property
abbrev Each : (ℕ → Type 0) → List ℕ → Type 0
Each P [] = Unit {0}
Each P (x ∷ xs) = P x × Each P xs

each_map : (P Q : ℕ → Type 0) (xs : List ℕ) → ((x : ℕ) → P x → Q x) → Each P xs → Each Q xs
each_map P Q [] f h = tt
each_map P Q (x ∷ xs) f h = (f x h.0, each_map P Q xs f h.1)

-- no number stands twice
abbrev Apart : List ℕ → Type 0
Apart [] = Unit {0}
Apart (x ∷ xs) = Each (λ y. x ≢ y) xs × Apart xs

-- the list without the number m, where it stands once at most and all others are below m
removed : (m : ℕ) (xs : List ℕ) → Each (λ x. x < suc m) xs → Apart xs →
    (ys : List ℕ) × Each (λ x. x < m) ys × Apart ys × (length xs ≤ length ys + 1) × ((P : ℕ → Type 0) → Each P xs → Each P ys)
removed m [] below apart = ([], tt, tt, omega arith, λ P h. h)
removed m (x ∷ xs) below apart = ⊎_elim
    (λ (same : x ≡ m). (xs, all_below same, apart.1, omega arith, λ P h. h.1))
    (λ (other : x ≢ m).
    let (ys, lt, far, len, keeps) = removed m xs below.1 apart.1 in
    let x_lt = below.0 in
    (x ∷ ys, (omega arith, lt), (keeps (λ y. x ≢ y) apart.0, far), omega arith, λ P h. (h.0, keeps P h.1)))
    (cases_eq x m)
  where
    lower : (zs : List ℕ) → Each (λ y. m ≢ y) zs → Each (λ y. y < suc m) zs → Each (λ y. y < m) zs
    lower [] e h = tt
    lower (z ∷ zs) e h = (let ne = e.0 in let lt = h.0 in omega arith, lower zs e.1 h.1)

    all_below : x ≡ m → Each (λ y. y < m) xs
    all_below same = lower xs (subst (λ n. Each (λ y. n ≢ y) xs) same apart.0) below.1

-- at most n numbers are below n
pigeons : (n : ℕ) (xs : List ℕ) → Each (λ x. x < n) xs → Apart xs → length xs ≤ n
pigeons zero [] below apart = omega arith
pigeons zero (x ∷ xs) below apart = let h = below.0 in absurd (omega arith)
pigeons (suc n) xs below apart =
    let (ys, lt, far, len, keeps) = removed n xs below apart in
    let h = pigeons n ys lt far in
    omega arith

module _ (rules : List Form) (moves : (r : ℕ) → r < length rules → Reaches rules r r → ⊥) where
  -- each rule of the path comes to those before it in the list
  abbrev Path : List ℕ → Type 0
  Path [] = Unit {0}
  Path (x ∷ xs) = Each (λ y. Reaches rules y x) xs × Path xs

  apart : (xs : List ℕ) → Each (λ x. x < length rules) xs → Path xs → Apart xs
  apart [] below path = tt
  apart (x ∷ xs) below path =
      (each_map (λ y. Reaches rules y x) (λ y. x ≢ y) xs (λ y h same. moves x below.0 (subst (λ z. Reaches rules z x) (sym same) h)) path.0, apart xs below.1 path.1)

  module _ (P : ℕ → Type 0)
      (step : (r : ℕ) (f : Form) → slice_get rules r ≡ Some f → ((s : ℕ) → Begins rules f s → s < length rules → P s) → P r) where
    down : (k : ℕ) (xs : List ℕ) (r : ℕ) → r < length rules → Each (λ x. x < length rules) xs → Path (r ∷ xs) → length rules ≤ k + length xs → P r
    down zero xs r lt below path long =
        let h = pigeons (length rules) (r ∷ xs) (lt, below) (apart (r ∷ xs) (lt, below) path) in
        absurd (omega arith)
    down (suc k) xs r lt below path long =
        let (f, is) = found rules r lt in
        step r f is (λ s begins s_lt.
        let here : Reaches rules r s = calls f is begins in
        down k (r ∷ xs) s s_lt (lt, below)
        ((here, each_map (λ y. Reaches rules y r) (λ y. Reaches rules y s) xs (λ y h. calls_on h here) path.0), path) (omega arith))

    -- a property that each rule has where those have it that it can call where it begins
    pub by_calls : (r : ℕ) → r < length rules → P r
    by_calls r lt = down (length rules) [] r lt tt (tt, tt) (omega arith)
