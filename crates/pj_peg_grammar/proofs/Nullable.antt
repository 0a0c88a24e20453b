-- A closed set of rules has each rule that can take nothing; a set of such rules has no other.
use Rattle.std.proofs.Common.{◌≡◌, ℕ, Bool, true, false, List, Some, refl}
use Rattle.std.specs.Prelude.{slice_get, ◌&&◌, ◌||◌}
use Rattle.pj_peg_grammar.specs.Form.{Form, token, any, rule, nothing, seq, never, choice, star, maybe, ahead, not_ahead}
use Rattle.pj_peg_grammar.specs.Analysis.{nullable_by}
use Rattle.pj_peg_grammar.specs.WellFormed.{IsNullable, rule_nullable, nothing_nullable, seq_nullable, first_nullable, other_nullable, star_nullable, maybe_nullable, ahead_nullable, not_ahead_nullable}

pub and_true : (a b : Bool) → a ≡ true → b ≡ true → (a && b) ≡ true
and_true true true p q = refl
and_true true false p q = q
and_true false b p q = p

pub or_left : (a b : Bool) → a ≡ true → (a || b) ≡ true
or_left true b p = refl
or_left false b p = absurd (let q = p in cc)

pub or_right : (a b : Bool) → b ≡ true → (a || b) ≡ true
or_right true b p = refl
or_right false b p = p

module _ (rules : List Form) (b : ℕ → Bool) where
  pub nullable_closed : ((r : ℕ) (f : Form) → slice_get rules r ≡ Some f → nullable_by b f ≡ true → b r ≡ true) →
      {f : Form} → IsNullable rules f → nullable_by b f ≡ true
  nullable_closed closed (rule_nullable {r} f is x) = closed r f is (nullable_closed closed x)
  nullable_closed closed nothing_nullable = refl
  nullable_closed closed (seq_nullable x y) = and_true _ _ (nullable_closed closed x) (nullable_closed closed y)
  nullable_closed closed (first_nullable x) = or_left _ _ (nullable_closed closed x)
  nullable_closed closed (other_nullable y) = or_right _ _ (nullable_closed closed y)
  nullable_closed closed star_nullable = refl
  nullable_closed closed maybe_nullable = refl
  nullable_closed closed ahead_nullable = refl
  nullable_closed closed not_ahead_nullable = refl

  seq_case : (f g : Form) (x y : Bool) → nullable_by b f ≡ x → nullable_by b g ≡ y → (x && y) ≡ true →
      (x ≡ true → IsNullable rules f) → (y ≡ true → IsNullable rules g) → IsNullable rules (seq f g)
  seq_case f g true true p q e h k = seq_nullable (h refl) (k refl)
  seq_case f g true false p q e h k = absurd (let z = e in cc)
  seq_case f g false y p q e h k = absurd (let z = e in cc)

  choice_case : (f g : Form) (x y : Bool) → (x || y) ≡ true → (x ≡ true → IsNullable rules f) → (y ≡ true → IsNullable rules g) → IsNullable rules (choice f g)
  choice_case f g true y e h k = first_nullable (h refl)
  choice_case f g false y e h k = other_nullable (k e)

  pub nullable_sound : ((r : ℕ) → b r ≡ true → IsNullable rules (rule r)) → (f : Form) → nullable_by b f ≡ true → IsNullable rules f
  nullable_sound sound (token k) e = absurd (let z = e in cc)
  nullable_sound sound any e = absurd (let z = e in cc)
  nullable_sound sound (rule r) e = sound r e
  nullable_sound sound nothing e = nothing_nullable
  nullable_sound sound (seq f g) e = seq_case f g (nullable_by b f) (nullable_by b g) refl refl e (nullable_sound sound f) (nullable_sound sound g)
  nullable_sound sound never e = absurd (let z = e in cc)
  nullable_sound sound (choice f g) e = choice_case f g (nullable_by b f) (nullable_by b g) e (nullable_sound sound f) (nullable_sound sound g)
  nullable_sound sound (star f) e = star_nullable
  nullable_sound sound (maybe f) e = maybe_nullable
  nullable_sound sound (ahead f) e = ahead_nullable
  nullable_sound sound (not_ahead f) e = not_ahead_nullable
