-- The steps of a derivation in preorder.
use Rattle.std.proofs.Common.{◌≡◌, ℕ, zero, suc, ◌+◌, ◌<◌, ◌≤◌, ◌⊎◌, List, [], ◌∷◌, ◌++◌, length, Some, refl, sym, ◌∙◌, ap, inl, inr, ⊎_elim, arith, length-append, get_or}
use Rattle.std.specs.Prelude.{slice_get}
use Rattle.std.proofs.lemmas.Option.{slice_get_read}
use Rattle.pj_peg_grammar.specs.declared.derivation.Step.{Step}
use Rattle.pj_peg_grammar.specs.Derivation.{Forest, no_tree, tree, count, steps_from, steps_of}
use Rattle.pj_peg_grammar.proofs.Lists.{some_one}

pub get_append_cases : {A : Type 0} (xs ys : List A) (k : ℕ) (x : A) → slice_get (xs ++ ys) k ≡ Some x →
    (slice_get xs k ≡ Some x) ⊎ ((m : ℕ) × (k ≡ length xs + m) × (slice_get ys m ≡ Some x))
get_append_cases [] ys k x e = inr (k, omega arith, e)
get_append_cases (z ∷ xs) ys zero x e = inl e
get_append_cases (z ∷ xs) ys (suc k) x e = ⊎_elim
    (λ (h : slice_get xs k ≡ Some x). inl h)
    (λ (h : (m : ℕ) × (k ≡ length xs + m) × (slice_get ys m ≡ Some x)). let at = h.1 in inr (h.0, omega arith, h.2))
    (get_append_cases xs ys k x e)

pub steps_length : (n : ℕ) (d : Forest) → length (steps_from n d) ≡ count d
steps_length n no_tree = refl
steps_length n (tree r i j below after) =
    let a = steps_length (n + 1) below in
    let b = steps_length (n + 1 + count below) after in
    let c = length-append (steps_from (n + 1) below) (steps_from (n + 1 + count below) after) in
    omega arith

pub steps_bounds : (n : ℕ) (d : Forest) (k : ℕ) (s : Step) → slice_get (steps_from n d) k ≡ Some s → (n + k < s.next) × (s.next ≤ n + count d)
steps_bounds n no_tree k s e = absurd (let z = e in cc)
steps_bounds n (tree r i j below after) zero s e =
    let same : n + 1 + count below ≡ s.next = ap (λ (t : Step). t.next) (some_one e) in
    (omega arith, omega arith)
steps_bounds n (tree r i j below after) (suc k) s e = ⊎_elim
    (λ (h : slice_get (steps_from (n + 1) below) k ≡ Some s).
    let b = steps_bounds (n + 1) below k s h in
    let lt = b.0 in let le = b.1 in
    (omega arith, omega arith))
    (λ (h : (m : ℕ) × (k ≡ length (steps_from (n + 1) below) + m) × (slice_get (steps_from (n + 1 + count below) after) m ≡ Some s)).
    let b = steps_bounds (n + 1 + count below) after h.0 s h.2 in
    let at = h.1 in let len = steps_length (n + 1) below in
    let lt = b.0 in let le = b.1 in
    (omega arith, omega arith))
    (get_append_cases (steps_from (n + 1) below) (steps_from (n + 1 + count below) after) k s e)

pub step_at : (steps : List Step) (d : Forest) (i : ℕ) (s : Step) → steps ≡ steps_of d → i < length steps → s ≡ get_or steps i s → (i < s.next) × (s.next ≤ length steps)
step_at steps d i s is lt at =
    let here : slice_get (steps_of d) i ≡ Some s = ap (λ l. slice_get l i) (sym is) ∙ slice_get_read steps (length steps) i s refl lt at in
    let (low, high) = steps_bounds 0 d i s here in
    let len = ap length is ∙ steps_length 0 d in
    (omega arith, omega arith)
