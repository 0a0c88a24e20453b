-- What a form takes at a place, with its derivation (B. Ford, Parsing Expression Grammars, 2004, section 3.3).
use Rattle.std.specs.Prelude.{◌≡◌, ◌≢◌, ℕ, ◌+◌, ◌<◌, ◌≤◌, List, length, Some, slice_get}
use Rattle.pj_peg_grammar.specs.Form.{Form, token, any, rule, nothing, seq, never, choice, star, maybe, ahead, not_ahead}
use Rattle.pj_peg_grammar.specs.Derivation.{Forest, no_tree, tree, append, steps_of}
use Rattle.pj_peg_grammar.specs.declared.derivation.Step.{Step}

pub data Outcome : Type 0 where
  -- it took the tokens up to a place, by these calls of rules
  To : ℕ → Forest → Outcome
  Fails : Outcome

-- Places are counted from 0, before the first token, to the number of tokens. A rule that is not there has no outcome.
pub data Derives (rules : List Form) (kinds : List ℕ) : Form → ℕ → Outcome → Type 0 where
  token_is : {k i : ℕ} → slice_get kinds i ≡ Some k → Derives rules kinds (token k) i (To (i + 1) no_tree)
  token_not : {k i : ℕ} → slice_get kinds i ≢ Some k → Derives rules kinds (token k) i Fails
  any_is : {i : ℕ} → i < length kinds → Derives rules kinds any i (To (i + 1) no_tree)
  any_not : {i : ℕ} → length kinds ≤ i → Derives rules kinds any i Fails
  rule_to : {r i j : ℕ} {d : Forest} (f : Form) → slice_get rules r ≡ Some f → Derives rules kinds f i (To j d) →
      Derives rules kinds (rule r) i (To j (tree r i j d no_tree))
  rule_fails : {r i : ℕ} (f : Form) → slice_get rules r ≡ Some f → Derives rules kinds f i Fails → Derives rules kinds (rule r) i Fails
  nothing_to : {i : ℕ} → Derives rules kinds nothing i (To i no_tree)
  seq_to : {a b : Form} {i j k : ℕ} {d e : Forest} → Derives rules kinds a i (To j d) → Derives rules kinds b j (To k e) →
      Derives rules kinds (seq a b) i (To k (append d e))
  seq_first : {a b : Form} {i : ℕ} → Derives rules kinds a i Fails → Derives rules kinds (seq a b) i Fails
  seq_second : {a b : Form} {i j : ℕ} {d : Forest} → Derives rules kinds a i (To j d) → Derives rules kinds b j Fails →
      Derives rules kinds (seq a b) i Fails
  never_fails : {i : ℕ} → Derives rules kinds never i Fails
  choice_first : {a b : Form} {i j : ℕ} {d : Forest} → Derives rules kinds a i (To j d) → Derives rules kinds (choice a b) i (To j d)
  choice_other : {a b : Form} {i : ℕ} {o : Outcome} → Derives rules kinds a i Fails → Derives rules kinds b i o → Derives rules kinds (choice a b) i o
  star_more : {a : Form} {i j k : ℕ} {d e : Forest} → Derives rules kinds a i (To j d) → Derives rules kinds (star a) j (To k e) →
      Derives rules kinds (star a) i (To k (append d e))
  star_end : {a : Form} {i : ℕ} → Derives rules kinds a i Fails → Derives rules kinds (star a) i (To i no_tree)
  maybe_some : {a : Form} {i j : ℕ} {d : Forest} → Derives rules kinds a i (To j d) → Derives rules kinds (maybe a) i (To j d)
  maybe_none : {a : Form} {i : ℕ} → Derives rules kinds a i Fails → Derives rules kinds (maybe a) i (To i no_tree)
  ahead_is : {a : Form} {i j : ℕ} {d : Forest} → Derives rules kinds a i (To j d) → Derives rules kinds (ahead a) i (To i no_tree)
  ahead_not : {a : Form} {i : ℕ} → Derives rules kinds a i Fails → Derives rules kinds (ahead a) i Fails
  not_ahead_is : {a : Form} {i : ℕ} → Derives rules kinds a i Fails → Derives rules kinds (not_ahead a) i (To i no_tree)
  not_ahead_not : {a : Form} {i j : ℕ} {d : Forest} → Derives rules kinds a i (To j d) → Derives rules kinds (not_ahead a) i Fails

-- rule 0 takes something, or nothing, from the first place on, and the steps are those of its derivation
abbrev pub DerivesSteps : List Form → List ℕ → List Step → Type 0
DerivesSteps rules kinds steps = (j : ℕ) × (d : Forest) × Derives rules kinds (rule 0) 0 (To j d) × (steps ≡ steps_of d)

-- rule 0 fails at the first place
abbrev pub FailsAtStart : List Form → List ℕ → Type 0
FailsAtStart rules kinds = Derives rules kinds (rule 0) 0 Fails
