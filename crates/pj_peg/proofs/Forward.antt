-- What a form takes lies behind the place where it begins, and a form that takes nothing can take nothing.
use Rattle.std.proofs.Common.{◌≡◌, ℕ, ◌+◌, ◌<◌, ◌≤◌, ◌⊎◌, List, length, refl, inl, inr, arith}
use Rattle.std.proofs.lemmas.Option.{slice_get_within}
use Rattle.pj_peg_grammar.specs.Form.{Form}
use Rattle.pj_peg_grammar.specs.Derivation.{Forest}
use Rattle.pj_peg_grammar.specs.Derives.{To, Derives, token_is, any_is, rule_to, nothing_to, seq_to, choice_first, choice_other, star_more, star_end, maybe_some, maybe_none, ahead_is, not_ahead_is}
use Rattle.pj_peg_grammar.specs.WellFormed.{IsNullable, rule_nullable, nothing_nullable, seq_nullable, first_nullable, other_nullable, star_nullable, maybe_nullable, ahead_nullable, not_ahead_nullable}

-- no further, or further, up to the end of the text at most
abbrev pub Goes : ℕ → ℕ → ℕ → Type 0
Goes n i j = (i ≡ j) ⊎ ((i < j) × (j ≤ n))

goes_on : (n i j k : ℕ) → Goes n i j → Goes n j k → Goes n i k
goes_on n i j k (inl p) (inl q) = inl (omega arith)
goes_on n i j k (inl p) (inr q) = inr (omega arith, omega arith)
goes_on n i j k (inr p) (inl q) = inr (omega arith, omega arith)
goes_on n i j k (inr p) (inr q) = inr (omega arith, omega arith)

goes_le : (n i j : ℕ) → Goes n i j → i ≤ j
goes_le n i j (inl p) = omega arith
goes_le n i j (inr p) = omega arith

module _ (rules : List Form) (kinds : List ℕ) where
  pub goes : {f : Form} {i j : ℕ} {d : Forest} → Derives rules kinds f i (To j d) → Goes (length kinds) i j
  goes (token_is {k} {i} h) = inr (omega arith, let lt = slice_get_within kinds i k h in omega arith)
  goes (any_is h) = inr (omega arith, omega arith)
  goes (rule_to f h x) = goes x
  goes nothing_to = inl refl
  goes (seq_to x y) = goes_on (length kinds) _ _ _ (goes x) (goes y)
  goes (choice_first x) = goes x
  goes (choice_other x y) = goes y
  goes (star_more x y) = goes_on (length kinds) _ _ _ (goes x) (goes y)
  goes (star_end x) = inl refl
  goes (maybe_some x) = goes x
  goes (maybe_none x) = inl refl
  goes (ahead_is x) = inl refl
  goes (not_ahead_is x) = inl refl

  pub nullable : {f : Form} {i j : ℕ} {d : Forest} → Derives rules kinds f i (To j d) → i ≡ j → IsNullable rules f
  nullable (token_is h) e = absurd (omega arith)
  nullable (any_is h) e = absurd (omega arith)
  nullable (rule_to f h x) e = rule_nullable f h (nullable x e)
  nullable nothing_to e = nothing_nullable
  nullable (seq_to {i} {j} {k} x y) e =
      let n = length kinds in
      let p = goes_le n i j (goes x) in
      let q = goes_le n j k (goes y) in
      seq_nullable (nullable x (omega arith)) (nullable y (omega arith))
  nullable (choice_first x) e = first_nullable (nullable x e)
  nullable (choice_other x y) e = other_nullable (nullable y e)
  nullable (star_more x y) e = star_nullable
  nullable (star_end x) e = star_nullable
  nullable (maybe_some x) e = maybe_nullable
  nullable (maybe_none x) e = maybe_nullable
  nullable (ahead_is x) e = ahead_nullable
  nullable (not_ahead_is x) e = not_ahead_nullable
