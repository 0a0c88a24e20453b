use Rattle.std.proofs.Common.{◌≡◌, ◌<◌, ◌==◌, ◌||◌, ◌^◌, ◌*◌, ◌%◌, ℕ, bit_or, w16, refl, sym, inl, inr, arith}
use Rattle.std.specs.Int.{bit_at}
use Rattle.std.proofs.lemmas.Bool.{cases_eq, eq-eqb, ne_eqb}
use Rattle.std.proofs.lemmas.Nat.Bits.{bit_at_set_same, bit_at_set_other}
use Rattle.pj_xvalue.specs.Modifiers.{bit_of}
use Rattle.pj_xvalue.proofs.modifiers.Modifiers.with.Goals as goal

-- a number with one more bit
with_bit : (n k i : ℕ) → k < 16 → (bit_at (bit_or n (1 * 2 ^ k % 65536)) i == 1) ≡ (k == i || bit_at n i == 1)
with_bit n k i small = elim (cases_eq k i) [
  | inl same ↦ rw (← same, bit_at_set_same w16 n k small, eq-eqb k k refl) refl
  | inr other ↦ rw (bit_at_set_other w16 n k small i (λ e. other (sym e)), ne_eqb k i other) refl
]

pub returns-clause-others : goal.returns-clause-others
returns-clause-others c = λ k far. bit_at_set_other w16 c.args.self.0 c.bit.result (omega (arith, c.bit.ensures.few)) k (λ e. omega (arith, c.bit.ensures.few, e))

pub returns-clause-members : goal.returns-clause-members
returns-clause-members c = λ other. rw (← c.bit.ensures.value) (with_bit c.args.self.0 c.bit.result (bit_of other) (omega (arith, c.bit.ensures.few)))
