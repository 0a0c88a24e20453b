-- Units from the left.
use Rattle.std.proofs.Common.{◌≡◌, ◌<◌, ℕ, Bool, true, false, cond, List, [], ◌∷◌, ◌++◌, length, Option, Some, None, refl, ap, sym, ◌∙◌, append_assoc, arith}
use Rattle.std.proofs.lemmas.List.{append-nil}
use Rattle.std.specs.Option.{option_map}
use Rattle.pj_classfile.specs.ModifiedUtf8.{unit_at, units_of, in_front, is_one, is_two, is_three, two, three}

-- the units where one is at the front
abbrev pub after_unit : Option (ℕ × List ℕ) → Option (List ℕ)
after_unit None = None
after_unit (Some x) = in_front x.0 (units_of x.1)

-- some units in front of others
abbrev pub all_in_front : List ℕ → Option (List ℕ) → Option (List ℕ)
all_in_front us o = option_map (λ vs. us ++ vs) o

step_if : (p : Bool) (x : ℕ × List ℕ) (o : Option (List ℕ)) (other : Option (ℕ × List ℕ)) → o ≡ after_unit other → cond p (after_unit (Some x)) o ≡ after_unit (cond p (Some x) other)
step_if true x o other e = refl
step_if false x o other e = e

pub units_step : (a : ℕ) (rest : List ℕ) → units_of (a ∷ rest) ≡ after_unit (unit_at (a ∷ rest))
unfolding units_of unit_at
units_step a [] = step_if (is_one a) (a, []) None None refl
units_step a (b ∷ []) = step_if (is_one a) (a, b ∷ []) _ _ (step_if (is_two a b) (two a b, []) None None refl)
units_step a (b ∷ c ∷ rest) =
    step_if (is_one a) (a, b ∷ c ∷ rest) _ _ (step_if (is_two a b) (two a b, c ∷ rest) _ _ (step_if (is_three a b c) (three a b c, rest) None None refl))

pub all_then : (us : List ℕ) (u : ℕ) (o : Option (List ℕ)) → all_in_front us (in_front u o) ≡ all_in_front (us ++ u ∷ []) o
all_then us u None = refl
all_then us u (Some vs) = ap (λ z. Some z) (sym (append_assoc us (u ∷ []) vs))

-- The turns of a loop over units.

pub units_stop : (us rest bytes : List ℕ) → 0 < length rest → unit_at rest ≡ None → all_in_front us (units_of rest) ≡ units_of bytes → None ≡ units_of bytes
units_stop us [] bytes some none so_far = absurd (omega arith)
units_stop us (a ∷ rest) bytes some none so_far = sym (ap (all_in_front us) (units_step a rest ∙ ap after_unit none)) ∙ so_far

pub units_go_on : (us rest bytes : List ℕ) (u : ℕ) (behind : List ℕ) → unit_at rest ≡ Some (u, behind) → all_in_front us (units_of rest) ≡ units_of bytes → all_in_front (us ++ u ∷ []) (units_of behind) ≡ units_of bytes
unfolding unit_at
units_go_on us [] bytes u behind found so_far = absurd cc
units_go_on us (a ∷ rest) bytes u behind found so_far =
    sym (all_then us u (units_of behind)) ∙ sym (ap (all_in_front us) (units_step a rest ∙ ap after_unit found)) ∙ so_far

pub units_end : (us rest bytes : List ℕ) → length rest ≡ 0 → all_in_front us (units_of rest) ≡ units_of bytes → Some us ≡ units_of bytes
unfolding units_of
units_end us [] bytes none so_far = ap (λ (l : List ℕ). let o : Option (List ℕ) = Some l in o) (sym (append-nil us)) ∙ so_far
units_end us (a ∷ rest) bytes none so_far = absurd (omega arith)
