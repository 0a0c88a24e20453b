-- Each node begins before the last token of the node around it, and a file takes all tokens.
use Rattle.std.proofs.Common.{◌≡◌, ℕ, ◌≤◌, ◌&&◌, ◌||◌, ◌⊎◌, inl, inr, Bool, true, false, List, length, Some, refl, sym, ◌∙◌, ap, subst}
use Rattle.std.proofs.lemmas.Bool.{and_parts}
use Rattle.pj_tree.specs.declared.kind.Kind.{Kind}
use Rattle.pj_tree.specs.declared.kind.Kind.TheVariants as k
use Rattle.pj_lex.specs.Words.{reserved_words}
use Rattle.pj_peg_grammar.specs.Form.{Form, any, rule, nothing, seq, not_ahead}
use Rattle.pj_peg_grammar.specs.Derivation.{Forest}
use Rattle.pj_peg_grammar.specs.Derives.{Outcome, To, Fails, Derives, any_is, any_not, rule_to, nothing_to, seq_to, seq_first, seq_second, not_ahead_is, not_ahead_not}
use Rattle.pj_shape.specs.Kinds.{is_variable_access, is_field_access}
use Rattle.pj_shape.proofs.Nesting.{HasSolidNames}
use Rattle.pj_shape.proofs.Shutting.{IsTight, are_tight_rows, tight_by_test}
use Rattle.pj_grammar.specs.declared.rule.Rule.TheVariants as r
use Rattle.pj_grammar.specs.Java17.{java_17, rules, java_17_forms, java_17_shapes}
use Rattle.pj_grammar.proofs.IsWellFormed.{is_in}
use Rattle.pj_grammar.proofs.Numbers.{form_at}
use Rattle.pj_grammar.proofs.Places.{nullable}

-- the kinds of nodes that may take no token
abbrev pub hollow : Kind → Bool
hollow k.CompilationUnit = true
hollow k.ModifierList = true
hollow other = false

pub solid_names : HasSolidNames hollow
solid_names = record { solid = names }
  where
    names : (kind : Kind) → (is_variable_access kind || is_field_access kind) ≡ true → hollow kind ≡ false
    names k.CompilationUnit h = absurd (cc)
    names k.ModifierList h = absurd (cc)
    names other h = refl

test_is : are_tight_rows hollow (is_in nullable) 0 java_17_forms java_17_shapes ≡ true
unfolding java_17 rules java_17_forms java_17_shapes reserved_words
test_is = refl

pub java_17_tight : IsTight hollow (is_in nullable) java_17_forms java_17_shapes
java_17_tight = tight_by_test hollow (is_in nullable) java_17_forms java_17_shapes test_is

-- ---- forms that end with a test that no token follows

abbrev is_any : Form → Bool
is_any any = true
is_any other = false

abbrev is_nothing : Form → Bool
is_nothing nothing = true
is_nothing other = false

abbrev ends_all : Form → Bool
ends_all (not_ahead a) = is_any a
ends_all (seq a b) = ends_all b || (is_nothing b && ends_all a)
ends_all other = false

abbrev IsAfter : ℕ → Outcome → Type 0
IsAfter n (To j d) = n ≤ j
IsAfter n Fails = Unit {0}

abbrev Stays : ℕ → Outcome → Type 0
Stays i (To j d) = j ≡ i
Stays i Fails = Unit {0}

abbrev PastAll : ℕ → ℕ → Outcome → Type 0
PastAll n i (To j d) = Unit {0}
PastAll n i Fails = n ≤ i

nothing_stays : {rules : List Form} {kinds : List ℕ} {f : Form} {i : ℕ} {o : Outcome} → Derives rules kinds f i o → is_nothing f ≡ true → Stays i o
nothing_stays nothing_to h = refl
nothing_stays other h = absurd (cc)

any_past : {rules : List Form} {kinds : List ℕ} {f : Form} {i : ℕ} {o : Outcome} → Derives rules kinds f i o → is_any f ≡ true → PastAll (length kinds) i o
any_past (any_is lt) h = tt
any_past (any_not le) h = le
any_past other h = absurd (cc)

or_cases : (a b : Bool) → (a || b) ≡ true → (a ≡ true) ⊎ (b ≡ true)
or_cases true b h = inl refl
or_cases false b h = inr h

ends : {rules : List Form} {kinds : List ℕ} {f : Form} {i : ℕ} {o : Outcome} → Derives rules kinds f i o → ends_all f ≡ true → IsAfter (length kinds) o
ends {kinds = kinds} (seq_to {a} {b} {i} {j} {k} x y) h = elim (or_cases (ends_all b) (is_nothing b && ends_all a) h) [
  | inl e ↦ ends y e
  | inr e ↦
      let both = and_parts (is_nothing b) (ends_all a) e in
      let same : k ≡ j = nothing_stays y both.0 in
      let past : length kinds ≤ j = ends x both.1 in
      subst (λ n. length kinds ≤ n) (sym same) past
]
ends (seq_first x) h = tt
ends (seq_second x y) h = tt
ends (not_ahead_is x) h = any_past x h
ends (not_ahead_not x) h = tt
ends other h = absurd (cc)

file_ends : ends_all (java_17 r.Unit).form ≡ true
unfolding java_17
file_ends = refl

some_form : (f g : Form) → Some f ≡ Some g → f ≡ g
some_form f g e = cc

-- a file takes all tokens
pub file_takes_all : {kinds : List ℕ} {j : ℕ} {d : Forest} → Derives java_17_forms kinds (rule 0) 0 (To j d) → length kinds ≤ j
file_takes_all (rule_to f is x) = ends x (ap ends_all (some_form f (java_17 r.Unit).form (sym is ∙ form_at r.Unit)) ∙ file_ends)
