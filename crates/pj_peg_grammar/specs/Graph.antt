-- The calls of rules at one place, as a list for each rule.
use Rattle.std.specs.Prelude.{◌≡◌, ℕ, Bool, true, false, ◌+◌, ◌*◌, ◌<◌, ◌≤◌, ◌⊎◌, List, [], ◌∷◌, length, Option, Some, None, slice_get, unwrap_or, Vec}
use Rattle.std.specs.Option.{option_map}
use Rattle.std.specs.Global.{Global}
use Rattle.pj_peg_grammar.specs.declared.analysis.Facts.{Facts}
use Rattle.pj_peg_grammar.specs.declared.fault.GrammarFault.{GrammarFault}
use Rattle.pj_peg_grammar.specs.declared.fault.GrammarFault.TheVariants.{LeftRecursion, EmptyRepeat, UnknownRule, Memory}
use Rattle.pj_peg_grammar.specs.Form.{Form}
use Rattle.pj_peg_grammar.specs.WellFormed.{Begins}
use Rattle.pj_peg_grammar.specs.Analysis.{is_set, unset}

abbrev pub IsIn : List ℕ → ℕ → Type 0
IsIn [] s = ⊥
IsIn (x ∷ xs) s = (s ≡ x) ⊎ IsIn xs s

-- the rules that a rule calls
abbrev pub calls_of : List (Vec ℕ Global) → ℕ → List ℕ
calls_of graph r = unwrap_or (option_map (λ (v : Vec ℕ Global). v.items) (slice_get graph r)) []

-- the rule comes to the other one by one call or more
pub data Comes (graph : List (Vec ℕ Global)) : ℕ → ℕ → Type 0 where
  by_call : {r s : ℕ} → IsIn (calls_of graph r) s → Comes graph r s
  by_calls : {r s t : ℕ} → Comes graph r s → Comes graph s t → Comes graph r t

-- the rules of the list were put into the set, and those that are new there onto the end of the list of what is to do
pub record Marks (calls : List ℕ) (seen : List Bool) (todo : List ℕ) (seen' : List Bool) (todo' : List ℕ) : Type 0 where
  pub count : length seen' ≡ length seen
  pub keeps : (s : ℕ) → is_set seen s ≡ true → is_set seen' s ≡ true
  pub marked : (s : ℕ) → IsIn calls s → s < length seen → is_set seen' s ≡ true
  pub only : (s : ℕ) → is_set seen' s ≡ true → (is_set seen s ≡ true) ⊎ (IsIn calls s × IsIn todo' s)
  pub todo_keeps : (s : ℕ) → IsIn todo s → IsIn todo' s
  pub todo_only : (s : ℕ) → IsIn todo' s → IsIn todo s ⊎ (is_set seen' s ≡ true)
  pub fewer : 2 * unset seen' + length todo' ≤ 2 * unset seen + length todo

-- the rules of the order are those of the set, and each stands after those that it calls
pub record IsPlacing (graph : List (Vec ℕ Global)) (order : List ℕ) (placed : List Bool) : Type 0 where
  pub count : length placed ≡ length graph
  pub each : (k r : ℕ) → slice_get order k ≡ Some r → is_set placed r ≡ true
  pub listed : (r : ℕ) → is_set placed r ≡ true → (k : ℕ) × (slice_get order k ≡ Some r)
  pub after : (k r s : ℕ) → slice_get order k ≡ Some r → IsIn (calls_of graph r) s → (m : ℕ) × (m < k) × (slice_get order m ≡ Some s)

-- no further rule can be placed
pub record IsClosed (graph : List (Vec ℕ Global)) (placed : List Bool) : Type 0 where
  pub closed : (r : ℕ) → r < length graph → ((s : ℕ) → IsIn (calls_of graph r) s → is_set placed s ≡ true) → is_set placed r ≡ true

-- the fault of a rule, by the facts of its item and by the calls
abbrev pub IsFaultBy : Facts → List (Vec ℕ Global) → ℕ → Option GrammarFault → Type 0
IsFaultBy fact graph r None = (fact.known ≡ true) × (¬ Comes graph r r) × (fact.repeats ≡ true)
IsFaultBy fact graph r (Some (UnknownRule q)) = (q ≡ r) × (fact.known ≡ false)
IsFaultBy fact graph r (Some (LeftRecursion q)) = (q ≡ r) × (fact.known ≡ true) × Comes graph r r
IsFaultBy fact graph r (Some (EmptyRepeat q)) = (q ≡ r) × (fact.known ≡ true) × (¬ Comes graph r r) × (fact.repeats ≡ false)
IsFaultBy fact graph r (Some Memory) = ⊥

-- an order of all rules in which each stands after those that it can call where it begins
pub record IsOrder (rules : List Form) (order : List ℕ) : Type 0 where
  pub each : (k r : ℕ) → slice_get order k ≡ Some r → r < length rules
  pub listed : (r : ℕ) → r < length rules → (k : ℕ) × (slice_get order k ≡ Some r)
  pub after : (k r s : ℕ) (f : Form) → slice_get order k ≡ Some r → slice_get rules r ≡ Some f → Begins rules f s →
      (m : ℕ) × (m < k) × (slice_get order m ≡ Some s)
