-- Tests of forms, by a set of rules that are taken to be able to take nothing.
use Rattle.std.specs.Prelude.{◌≡◌, ℕ, suc, Bool, true, false, ◌&&◌, ◌||◌, ◌⊎◌, not, nat_lt, List, [], ◌∷◌, ◌++◌, length, Some, slice_get, slice_index_or, unwrap_or, if◌then◌else◌}
use Rattle.std.specs.Option.{option_and_then}
use Rattle.pj_peg_grammar.specs.declared.analysis.Facts.{Facts}
use Rattle.pj_peg_grammar.specs.Form.{Form, token, any, rule, nothing, seq, never, choice, star, maybe, ahead, not_ahead}
use Rattle.pj_peg_grammar.specs.WellFormed.{IsNullable}

-- whether the form can take nothing
abbrev pub nullable_by : (ℕ → Bool) → Form → Bool
nullable_by e (token k) = false
nullable_by e any = false
nullable_by e (rule r) = e r
nullable_by e nothing = true
nullable_by e (seq a b) = nullable_by e a && nullable_by e b
nullable_by e never = false
nullable_by e (choice a b) = nullable_by e a || nullable_by e b
nullable_by e (star a) = true
nullable_by e (maybe a) = true
nullable_by e (ahead a) = true
nullable_by e (not_ahead a) = true

-- whether each rule that the form names is below the number
abbrev pub knows_by : ℕ → Form → Bool
knows_by n (token k) = true
knows_by n any = true
knows_by n (rule r) = nat_lt r n
knows_by n nothing = true
knows_by n (seq a b) = knows_by n a && knows_by n b
knows_by n never = true
knows_by n (choice a b) = knows_by n a && knows_by n b
knows_by n (star a) = knows_by n a
knows_by n (maybe a) = knows_by n a
knows_by n (ahead a) = knows_by n a
knows_by n (not_ahead a) = knows_by n a

-- whether no repetition in the form is of one that can take nothing
abbrev pub repeats_by : (ℕ → Bool) → Form → Bool
repeats_by e (token k) = true
repeats_by e any = true
repeats_by e (rule r) = true
repeats_by e nothing = true
repeats_by e (seq a b) = repeats_by e a && repeats_by e b
repeats_by e never = true
repeats_by e (choice a b) = repeats_by e a && repeats_by e b
repeats_by e (star a) = not (nullable_by e a) && repeats_by e a
repeats_by e (maybe a) = repeats_by e a
repeats_by e (ahead a) = repeats_by e a
repeats_by e (not_ahead a) = repeats_by e a

-- the rules that the form can call where it begins
abbrev pub begun_by : (ℕ → Bool) → Form → List ℕ
begun_by e (token k) = []
begun_by e any = []
begun_by e (rule r) = r ∷ []
begun_by e nothing = []
begun_by e (seq a b) = begun_by e a ++ (if nullable_by e a then begun_by e b else [])
begun_by e never = []
begun_by e (choice a b) = begun_by e a ++ begun_by e b
begun_by e (star a) = begun_by e a
begun_by e (maybe a) = begun_by e a
begun_by e (ahead a) = begun_by e a
begun_by e (not_ahead a) = begun_by e a

abbrev pub facts_by : (ℕ → Bool) → ℕ → Form → Facts
facts_by e n f = record { nullable = nullable_by e f; known = knows_by n f; repeats = repeats_by e f }

-- whether the number is in the set
abbrev pub is_set : List Bool → ℕ → Bool
is_set set r = slice_index_or set r false

-- how many numbers are not in the set
abbrev pub unset : List Bool → ℕ
unset [] = 0
unset (true ∷ bs) = unset bs
unset (false ∷ bs) = suc (unset bs)

-- whether the bit of the rule's node is set
abbrev pub root_bit : List Bool → List ℕ → ℕ → Bool
root_bit bits roots r = unwrap_or (option_and_then (λ k. slice_get bits k) (slice_get roots r)) false

-- the rules that can take nothing
pub record AreNullableRules (rules : List Form) (set : List Bool) : Type 0 where
  pub count : length set ≡ length rules
  pub sound : (r : ℕ) → is_set set r ≡ true → IsNullable rules (rule r)
  pub closed : (r : ℕ) (f : Form) → slice_get rules r ≡ Some f → nullable_by (is_set set) f ≡ true → is_set set r ≡ true

-- rules were added to the set, of those whose bit says so
pub record AddsRules (bits : List Bool) (roots : List ℕ) (old new : List Bool) : Type 0 where
  pub count : length new ≡ length old
  pub sound : (r : ℕ) → is_set new r ≡ true → (is_set old r ≡ true) ⊎ (root_bit bits roots r ≡ true)
