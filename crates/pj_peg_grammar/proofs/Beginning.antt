-- What takes tokens is among what can begin with the first of them.
use Rattle.std.proofs.Common.{◌≡◌, ℕ, ◌^◌, ◌<◌, ◌≤◌, Bool, true, false, List, [], ◌∷◌, length, map, Some, refl, sym, ◌∙◌, subst, ap, ⊎_elim, arith}
use Rattle.std.specs.Prelude.{slice_get, nat_lt, if◌then◌else◌}
use Rattle.std.specs.Int.{bit_at}
use Rattle.std.specs.Int.RustNames.{bit_or}
use Rattle.std.proofs.lemmas.List.{length-map}
use Rattle.std.proofs.lemmas.Option.{slice_get_within}
use Rattle.std.proofs.lemmas.Nat.Bits.{bit_at_or, bit_at-lt, bit_at-pow_same, bit_at_ones}
use Rattle.pj_peg_grammar.specs.declared.firsts.Beginning.{Beginning}
use Rattle.pj_peg_grammar.specs.declared.program.Program.{Program}
use Rattle.pj_peg_grammar.specs.Form.{Form}
use Rattle.pj_peg_grammar.specs.Derivation.{Forest}
use Rattle.pj_peg_grammar.specs.Derives.{Outcome, Derives, To, Fails, token_is, any_is, rule_to, nothing_to, seq_to, choice_first, choice_other, star_more, star_end, maybe_some, maybe_none, ahead_is, not_ahead_is}
use Rattle.pj_peg_grammar.specs.Analysis.{nullable_by, is_set, AreNullableRules}
use Rattle.pj_peg_grammar.specs.Program.{form_at, forms_in, rules_of, IsProgram}
use Rattle.pj_peg_grammar.specs.Firsts.{all_kinds, kind_set, set_at, firsts_by, beginning_by, going_of, AreGoing}
use Rattle.pj_peg_grammar.proofs.Lists.{some_same}
use Rattle.pj_peg_grammar.proofs.Nullable.{nullable_closed}
use Rattle.pj_peg_grammar.proofs.Nodes.{length-forms_in}
use Rattle.pj_peg_grammar.proofs.Exists.{goes, nullable, has_near}
use Rattle.pj_peg_grammar.proofs.FactsLemmas.{fact_at, root_of}

-- kind k is in the set
abbrev Has : ℕ → ℕ → Type 0
Has set k = bit_at set k ≡ 1

has_left : (a b k : ℕ) → Has a k → Has (bit_or a b) k
has_left a b k h = let e = bit_at_or a b k in let lt = bit_at-lt b k in omega arith

has_right : (a b k : ℕ) → Has b k → Has (bit_or a b) k
has_right a b k h = let e = bit_at_or a b k in let lt = bit_at-lt a k in omega arith

has_kind : (c k : ℕ) → k < 128 → c ≡ k → Has (kind_set c) k
has_kind c k lt e = subst (λ n. Has (kind_set n) k) (sym e) (of (nat_lt k 128) refl)
  where
    of : (b : Bool) → nat_lt k 128 ≡ b → Has (if b then 2 ^ k else 0) k
    of true h = bit_at-pow_same k
    of false h = absurd (grind arith)

if_true : (b : Bool) (x y : ℕ) → b ≡ true → (if b then x else y) ≡ x
if_true true x y e = refl
if_true false x y e = absurd (let z = e in cc)

module _ (rules : List Form) (kinds : List ℕ) (e : ℕ → Bool) (s : ℕ → ℕ) (k : ℕ) (small : k < 128)
    (empty : (r : ℕ) (f : Form) → slice_get rules r ≡ Some f → nullable_by e f ≡ true → e r ≡ true)
    (closed : (r : ℕ) (f : Form) → slice_get rules r ≡ Some f → Has (firsts_by e s f) k → Has (s r) k) where
  nothing_there : {f : Form} {i j : ℕ} {d : Forest} → Derives rules kinds f i (To j d) → i ≡ j → nullable_by e f ≡ true
  nothing_there x is = nullable_closed rules e empty (nullable rules kinds x is)

  has_seq : (a b : Form) (n : Bool) → Has (firsts_by e s a) k → Has (if n then bit_or (firsts_by e s a) (firsts_by e s b) else firsts_by e s a) k
  has_seq a b true h = has_left (firsts_by e s a) (firsts_by e s b) k h
  has_seq a b false h = h

  begins : {f : Form} {i j : ℕ} {d : Forest} → Derives rules kinds f i (To j d) → i < j → slice_get kinds i ≡ Some k → Has (firsts_by e s f) k
  begins (token_is {k = c} h) lt at = has_kind c k small (some_same h at)
  begins (any_is h) lt at = bit_at_ones 128 k small
  begins (rule_to f h x) lt at = closed _ f h (begins x lt at)
  begins nothing_to lt at = absurd (omega arith)
  begins (seq_to {a} {b} {i} {j} {k = m} x y) lt at = ⊎_elim
      (λ (same : i ≡ j). subst (λ n. Has n k) (sym (if_true _ (bit_or (firsts_by e s a) (firsts_by e s b)) (firsts_by e s a) (nothing_there x same)))
      (has_right (firsts_by e s a) (firsts_by e s b) k (begins y (omega arith) (ap (slice_get kinds) (sym same) ∙ at))))
      (λ (more : (i < j) × (j ≤ length kinds)). has_seq a b (nullable_by e a) (begins x more.0 at))
      (goes rules kinds x)
  begins (choice_first {a} {b} x) lt at = has_left (firsts_by e s a) (firsts_by e s b) k (begins x lt at)
  begins (choice_other {a} {b} x y) lt at = has_right (firsts_by e s a) (firsts_by e s b) k (begins y lt at)
  begins (star_more {i} {j} {k = m} x y) lt at = ⊎_elim
      (λ (same : i ≡ j). begins y (omega arith) (ap (slice_get kinds) (sym same) ∙ at))
      (λ (more : (i < j) × (j ≤ length kinds)). begins x more.0 at)
      (goes rules kinds x)
  begins (star_end x) lt at = absurd (omega arith)
  begins (maybe_some x) lt at = begins x lt at
  begins (maybe_none x) lt at = absurd (omega arith)
  begins (ahead_is x) lt at = absurd (omega arith)
  begins (not_ahead_is x) lt at = absurd (omega arith)

  -- so what goes on at all can begin there or take nothing
  goes_there : (f : Form) (i j : ℕ) (d : Forest) → Derives rules kinds f i (To j d) → slice_get kinds i ≡ Some k → Has (going_of (beginning_by e s f)) k
  goes_there f i j d x at = of (nullable_by e f) refl
    where
      of : (b : Bool) → nullable_by e f ≡ b → Has (if b then all_kinds else firsts_by e s f) k
      of true h = bit_at_ones 128 k small
      of false h = ⊎_elim
          (λ (same : i ≡ j). absurd (let z = sym h ∙ nothing_there x same in cc))
          (λ (more : (i < j) × (j ≤ length kinds)). begins x more.0 at)
          (goes rules kinds x)

-- the sets of nodes, by how they begin
pub sets_of : (nodes : List Form) (all lent : List Beginning) (sets lent_rules rules : List ℕ) (e : ℕ → Bool) → lent_rules ≡ rules →
    all ≡ map (beginning_by e (set_at lent_rules)) nodes → lent ≡ all → sets ≡ map going_of lent → sets ≡ map (λ f. going_of (beginning_by e (set_at rules) f)) nodes
sets_of nodes all lent sets lent_rules rules e same_rules is same of =
    of ∙ ap (map going_of) (same ∙ is ∙ ap (λ (s : List ℕ). map (beginning_by e (set_at s)) nodes) same_rules) ∙ each nodes
  where
    each : (fs : List Form) → map going_of (map (beginning_by e (set_at rules)) fs) ≡ map (λ f. going_of (beginning_by e (set_at rules) f)) fs
    each [] = refl
    each (f ∷ fs) = ap (λ l. going_of (beginning_by e (set_at rules) f) ∷ l) (each fs)

-- sets that nothing is to be added to
pub record AreFull (p : Program) (empty : List Bool) (sets : List ℕ) : Type 0 where
  pub full : (r : ℕ) (f : Form) → slice_get (rules_of p) r ≡ Some f →
      bit_or (set_at sets r) (firsts_by (is_set empty) (set_at sets) f) ≡ set_at sets r

pub full_from : (p : Program) (empty : List Bool) (sets lent_sets : List ℕ) (all lent : List Beginning) (roots : List ℕ) → IsProgram p → lent_sets ≡ sets →
    all ≡ map (beginning_by (is_set empty) (set_at lent_sets)) (forms_in p.nodes.items) → lent ≡ all → roots ≡ p.roots.items →
    ((r k : ℕ) (b : Beginning) → slice_get roots r ≡ Some k → slice_get lent k ≡ Some b → bit_or (set_at sets r) b.firsts ≡ set_at sets r) → AreFull p empty sets
full_from p empty sets lent_sets all lent roots is_p same_sets is same same_roots closed = record {
  full = λ r f at.
      let (k, root, form) = root_of p r f at in
      let all_is : lent ≡ map (beginning_by (is_set empty) (set_at sets)) (forms_in p.nodes.items) = same ∙ is ∙ ap (λ (s : List ℕ). map (beginning_by (is_set empty) (set_at s)) (forms_in p.nodes.items)) same_sets in
      ap (λ g. bit_or (set_at sets r) (firsts_by (is_set empty) (set_at sets) g)) (sym form)
      ∙ closed r k _ (ap (λ l. slice_get l r) same_roots ∙ root) (fact_at (beginning_by (is_set empty) (set_at sets)) p.nodes.items lent k all_is (is_p.there r k root));
}

-- what has an outcome, and takes nothing at all, fails
failed : (rules : List Form) (kinds : List ℕ) (f : Form) (i : ℕ) → (o : Outcome) × Derives rules kinds f i o → ((j : ℕ) (d : Forest) → Derives rules kinds f i (To j d) → ⊥) →
    Derives rules kinds f i Fails
failed rules kinds f i (Fails, x) out = x
failed rules kinds f i (To j d, x) out = absurd (out j d x)

pub are_going : (p : Program) (empty : List Bool) (rules sets : List ℕ) → IsProgram p → AreNullableRules (rules_of p) empty → AreFull p empty rules →
    sets ≡ map (λ f. going_of (beginning_by (is_set empty) (set_at rules) f)) (forms_in p.nodes.items) → AreGoing p sets
are_going p empty rules sets is_p are are_full is = record {
  count = count;
  fails = λ n set kind at lt out kinds i there well known fed.
      let within = slice_get_within sets n set at in
      let form = form_at (forms_in p.nodes.items) n in
      let same : set ≡ going_of (beginning_by (is_set empty) (set_at rules) form) =
      some_same at (fact_at (λ f. going_of (beginning_by (is_set empty) (set_at rules) f)) p.nodes.items sets n is (omega (arith, within, count))) in
      failed (rules_of p) kinds form i (has_near (rules_of p) kinds well (length kinds) i form (omega arith) known fed) (λ j d x.
      let has = goes_there (rules_of p) kinds (is_set empty) (set_at rules) kind lt are.closed
      (λ r f is_rule h. ap (λ m. bit_at m kind) (sym (are_full.full r f is_rule)) ∙ has_right (set_at rules r) (firsts_by (is_set empty) (set_at rules) f) kind h)
      form i j d x there in
      differ (sym out ∙ ap (λ m. bit_at m kind) same ∙ has));
}
  where
    count : length sets ≡ length p.nodes.items
    count = ap length is ∙ length-map (forms_in p.nodes.items) (λ f. going_of (beginning_by (is_set empty) (set_at rules) f)) ∙ length-forms_in p.nodes.items

    differ : ◌≡◌ {A = ℕ} 0 1 → ⊥
    differ e = omega arith
