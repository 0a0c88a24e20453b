-- Well-formed grammars, by what a form can do at one place. It is said of the rules alone, whatever the tokens are.
--
-- This is after B. Ford, Parsing Expression Grammars, 2004, sections 3.5 and 3.6, but coarser in one thing: a look-ahead, a
-- repetition and an optional part count as able to take nothing, also where they always fail or never end. So a few harmless
-- grammars are refused, as the repetition of a look-ahead that always fails. None that could go on for ever is accepted.
use Rattle.std.specs.Prelude.{◌≡◌, ℕ, ◌<◌, ◌≤◌, ◌⊎◌, List, length, Some, slice_get, ⊤}
use Rattle.pj_peg_grammar.specs.Form.{Form, token, any, rule, nothing, seq, never, choice, star, maybe, ahead, not_ahead}
use Rattle.pj_peg_grammar.specs.declared.fault.GrammarFault.{GrammarFault}
use Rattle.pj_peg_grammar.specs.declared.fault.GrammarFault.TheVariants.{LeftRecursion, EmptyRepeat, UnknownRule, Memory}

-- The form can take nothing. A choice can where one of its alternatives can, whether or not an earlier one hides it. A rule
-- that is not there cannot.
pub data IsNullable (rules : List Form) : Form → Type 0 where
  rule_nullable : {r : ℕ} (f : Form) → slice_get rules r ≡ Some f → IsNullable rules f → IsNullable rules (rule r)
  nothing_nullable : IsNullable rules nothing
  seq_nullable : {a b : Form} → IsNullable rules a → IsNullable rules b → IsNullable rules (seq a b)
  first_nullable : {a b : Form} → IsNullable rules a → IsNullable rules (choice a b)
  other_nullable : {a b : Form} → IsNullable rules b → IsNullable rules (choice a b)
  star_nullable : {a : Form} → IsNullable rules (star a)
  maybe_nullable : {a : Form} → IsNullable rules (maybe a)
  ahead_nullable : {a : Form} → IsNullable rules (ahead a)
  not_ahead_nullable : {a : Form} → IsNullable rules (not_ahead a)

-- The form can call the rule where it begins, before it took a token. The second part of a sequence can begin there only
-- where the first can take nothing; looking ahead begins where it stands.
abbrev pub Begins : List Form → Form → ℕ → Type 0
Begins rules (token k) s = ⊥
Begins rules any s = ⊥
Begins rules (rule r) s = s ≡ r
Begins rules nothing s = ⊥
Begins rules (seq a b) s = Begins rules a s ⊎ (IsNullable rules a × Begins rules b s)
Begins rules never s = ⊥
Begins rules (choice a b) s = Begins rules a s ⊎ Begins rules b s
Begins rules (star a) s = Begins rules a s
Begins rules (maybe a) s = Begins rules a s
Begins rules (ahead a) s = Begins rules a s
Begins rules (not_ahead a) s = Begins rules a s

-- the rule can come to the other one at the place where it begins, by one call or more
pub data Reaches (rules : List Form) : ℕ → ℕ → Type 0 where
  calls : {r s : ℕ} (f : Form) → slice_get rules r ≡ Some f → Begins rules f s → Reaches rules r s
  calls_on : {r s t : ℕ} → Reaches rules r s → Reaches rules s t → Reaches rules r t

-- the form names the rule
abbrev pub Names : Form → ℕ → Type 0
Names (token k) s = ⊥
Names any s = ⊥
Names (rule r) s = s ≡ r
Names nothing s = ⊥
Names (seq a b) s = Names a s ⊎ Names b s
Names never s = ⊥
Names (choice a b) s = Names a s ⊎ Names b s
Names (star a) s = Names a s
Names (maybe a) s = Names a s
Names (ahead a) s = Names a s
Names (not_ahead a) s = Names a s

-- the form has a repetition of the other one in it
abbrev pub Repeats : Form → Form → Type 0
Repeats (token k) p = ⊥
Repeats any p = ⊥
Repeats (rule r) p = ⊥
Repeats nothing p = ⊥
Repeats (seq a b) p = Repeats a p ⊎ Repeats b p
Repeats never p = ⊥
Repeats (choice a b) p = Repeats a p ⊎ Repeats b p
Repeats (star a) p = (p ≡ a) ⊎ Repeats a p
Repeats (maybe a) p = Repeats a p
Repeats (ahead a) p = Repeats a p
Repeats (not_ahead a) p = Repeats a p

-- the rule names one that is not there
abbrev pub NamesUnknown : List Form → ℕ → Type 0
NamesUnknown rules r = (f : Form) × (slice_get rules r ≡ Some f) × ((s : ℕ) × (Names f s × (length rules ≤ s)))

-- the rule can come to itself at one place
abbrev pub IsLeftRecursive : List Form → ℕ → Type 0
IsLeftRecursive rules r = Reaches rules r r

-- the rule has a repetition of a form that can take nothing
abbrev pub RepeatsEmpty : List Form → ℕ → Type 0
RepeatsEmpty rules r = (f : Form) × (slice_get rules r ≡ Some f) × ((p : Form) × (Repeats f p × IsNullable rules p))

-- the rule has no fault
pub record HasNoFault (rules : List Form) (r : ℕ) : Type 0 where
  pub no_unknown_rule : ¬ NamesUnknown rules r
  pub no_left_recursion : ¬ IsLeftRecursive rules r
  pub no_empty_repeat : ¬ RepeatsEmpty rules r

-- no rule has a fault
pub record IsWellFormed (rules : List Form) : Type 0 where
  pub none : (r : ℕ) → r < length rules → HasNoFault rules r

abbrev pub HaveNoFaultBelow : List Form → ℕ → Type 0
HaveNoFaultBelow rules r = (q : ℕ) → q < r → HasNoFault rules q

-- The first rule by number that has a fault, with the first of its faults in the order unknown rule, left recursion, empty
-- repetition. Want of memory has no cause in the grammar.
abbrev pub IsFirstFault : List Form → GrammarFault → Type 0
IsFirstFault rules (UnknownRule r) = HaveNoFaultBelow rules r × NamesUnknown rules r
IsFirstFault rules (LeftRecursion r) = HaveNoFaultBelow rules r × (¬ NamesUnknown rules r) × IsLeftRecursive rules r
IsFirstFault rules (EmptyRepeat r) = HaveNoFaultBelow rules r × (¬ NamesUnknown rules r) × (¬ IsLeftRecursive rules r) × RepeatsEmpty rules r
IsFirstFault rules Memory = ⊤
