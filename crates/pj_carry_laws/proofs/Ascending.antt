-- Rows in order: the nodes of each rule ascend.
use Rattle.std.proofs.Common.{◌≡◌, ℕ, ◌<◌, ◌≤◌, Bool, true, false, cond, ltb, ltb-true, eqb, eqb-true, ◌&&◌, ◌||◌, inl, inr, List, [], ◌∷◌, map, Option, Some, None, refl, arith}
use Rattle.std.specs.Prelude.{◌⊎◌, filter}
use Rattle.std.specs.List.{AllByRecursion}
use Rattle.std.specs.List.Sorted.{IsStrictlySortedBy}
use Rattle.std.specs.Cmp.{nat_cmp_total}
use Rattle.std.specs.Ordering.{is_lt, nat_cmp}
use Rattle.std.specs.declared.cmp.Ordering.{Ordering}
use Rattle.std.specs.declared.cmp.Ordering.TheVariants.{Less, Equal, Greater}
use Rattle.std.proofs.lemmas.Bool.{lt-ltb}
use Rattle.pj_format.specs.Fields.{Chain}
use Rattle.pj_reports.specs.declared.rows.Finding.{Finding}
use Rattle.pj_reports.specs.declared.rows.FileError.{FileError}
use Rattle.pj_reports.specs.declared.rows.FileRows.{FileRows}
use Rattle.pj_reports.specs.declared.ruled.Ruled.TheVariants as ruled
use Rattle.pj_reports.specs.declared.ruled.Spot.{Spot}
use Rattle.pj_cache_format.specs.Judges.{is_behind}
use Rattle.pj_cache_format.specs.Ordered.{AreRowsInOrder}
use Rattle.pj_fitting.proofs.Among.{both_true}
use Rattle.pj_carry.specs.Form.{are_findings_from, is_finding_behind, are_of_rules}
use Rattle.pj_carry.specs.Rows.{is_of, rows_of, said_by, spot_of, spots_of}

abbrev node_of : Spot → ℕ
node_of s = s.node

abbrev SpotChain : Option ℕ → List Spot → Type 0
SpotChain before spots = Chain (λ b (s : Spot). is_behind nat_cmp b s.node ≡ true) (λ b s. Some s.node) before spots

-- ---- from a chain to a strict order

pub is_less : (o : Ordering) → is_lt o ≡ true → o ≡ Less
is_less Less e = refl
is_less Equal e = absurd cc
is_less Greater e = absurd cc

above : (m n : ℕ) (spots : List Spot) → nat_cmp m n ≡ Less → AllByRecursion (λ k. nat_cmp n k ≡ Less) (map node_of spots) → AllByRecursion (λ k. nat_cmp m k ≡ Less) (map node_of spots)
above m n [] less all = tt
above m n (s ∷ ss) less all = (nat_cmp_total.trans m n s.node less all.0, above m n ss less all.1)

behind_one : (s : Spot) (spots : List Spot) → SpotChain (Some s.node) spots → AllByRecursion (λ k. nat_cmp s.node k ≡ Less) (map node_of spots) × IsStrictlySortedBy nat_cmp (map node_of spots)
unfolding IsStrictlySortedBy
behind_one s [] chain = (tt, tt)
behind_one s (t ∷ ts) chain =
    let less : nat_cmp s.node t.node ≡ Less = is_less (nat_cmp s.node t.node) chain.0 in
    let rest = behind_one t ts chain.1 in
    ((less, above s.node t.node ts less rest.0), rest)

pub nodes_sorted : (spots : List Spot) → SpotChain None spots → IsStrictlySortedBy nat_cmp (map node_of spots)
unfolding IsStrictlySortedBy
nodes_sorted [] chain = tt
nodes_sorted (s ∷ ss) chain = behind_one s ss chain.1

-- ---- the nodes of one rule among findings

-- The last node of a rule stands before the place of the last finding.
abbrev IsBefore : ℕ → Option ℕ → Option (ℕ × ℕ) → Type 0
IsBefore rule None before = Unit {0}
IsBefore rule (Some n) None = ⊥
IsBefore rule (Some n) (Some b) = (n < b.0) ⊎ ((n ≡ b.0) × (rule ≤ b.1))

-- A finding stands behind another one.
abbrev StandsBehind : ℕ × ℕ → ℕ → ℕ → Type 0
StandsBehind b node rule = (b.0 < node) ⊎ ((b.0 ≡ node) × (b.1 < rule))

by_or : (b : ℕ × ℕ) (node rule : ℕ) (x : Bool) → ltb b.0 node ≡ x → (x || (eqb b.0 node && ltb b.1 rule)) ≡ true → StandsBehind b node rule
by_or b node rule true e h = inl (ltb-true b.0 node e)
by_or b node rule false e h =
    let both = both_true (eqb b.0 node) (ltb b.1 rule) h in inr (eqb-true b.0 node both.0, ltb-true b.1 rule both.1)

stands : (b : ℕ × ℕ) (f : Finding) → is_finding_behind (Some b) f ≡ true → StandsBehind b f.node f.rule
stands b f h = by_or b f.node f.rule (ltb b.0 f.node) refl h

number_less : (m n : ℕ) → m < n → is_lt (nat_cmp m n) ≡ true
number_less m n less = rw (lt-ltb m n less) refl

-- one of the rule stands behind the last one of the rule
own_behind : (rule : ℕ) (low : Option ℕ) (before : Option (ℕ × ℕ)) (f : Finding) → f.rule ≡ rule → IsBefore rule low before → is_finding_behind before f ≡ true → is_behind nat_cmp low f.node ≡ true
own_behind rule None before f is low h = refl
own_behind rule (Some n) None f is low h = absurd low
own_behind rule (Some n) (Some b) f is low h = number_less n f.node (less low (stands b f h)) where
  less : (n < b.0) ⊎ ((n ≡ b.0) × (rule ≤ b.1)) → StandsBehind b f.node f.rule → n < f.node
  less (inl p) (inl q) = omega (arith, p, q)
  less (inl p) (inr q) = omega (arith, p, q.0)
  less (inr p) (inl q) = omega (arith, p.0, q)
  less (inr p) (inr q) = absurd (omega (arith, p.1, q.1, is))

-- one of another rule leaves the last one of the rule before it
other_behind : (rule : ℕ) (low : Option ℕ) (before : Option (ℕ × ℕ)) (f : Finding) → IsBefore rule low before → is_finding_behind before f ≡ true → IsBefore rule low (Some (f.node, f.rule))
other_behind rule None before f low h = tt
other_behind rule (Some n) None f low h = absurd low
other_behind rule (Some n) (Some b) f low h = next low (stands b f h) where
  next : (n < b.0) ⊎ ((n ≡ b.0) × (rule ≤ b.1)) → StandsBehind b f.node f.rule → (n < f.node) ⊎ ((n ≡ f.node) × (rule ≤ f.rule))
  next (inl p) (inl q) = inl (omega (arith, p, q))
  next (inl p) (inr q) = inl (omega (arith, p, q.0))
  next (inr p) (inl q) = inl (omega (arith, p.0, q))
  next (inr p) (inr q) = inr (omega (arith, p.0, q.0), omega (arith, p.1, q.1))

not_above : (m n : ℕ) → m ≡ n → n ≤ m
not_above m n e = omega (arith, e)

spots_chain : (rule : ℕ) (low : Option ℕ) (before : Option (ℕ × ℕ)) (fs : List Finding) → IsBefore rule low before → are_findings_from before fs ≡ true → SpotChain low (spots_of rule fs)
spots_chain rule low before [] is h = tt
spots_chain rule low before (f ∷ fs) is h =
    let parts = both_true (is_finding_behind before f) (are_findings_from (Some (f.node, f.rule)) fs) h in
    by_rule (eqb f.rule rule) refl parts.0
    (λ same. spots_chain rule (Some f.node) (Some (f.node, f.rule)) fs (inr (refl, not_above f.rule rule same)) parts.1)
    (spots_chain rule low (Some (f.node, f.rule)) fs (other_behind rule low before f is parts.0) parts.1)
  where
    by_rule : (b : Bool) → eqb f.rule rule ≡ b → is_finding_behind before f ≡ true → (f.rule ≡ rule → SpotChain (Some f.node) (spots_of rule fs)) → SpotChain low (spots_of rule fs)
        → SpotChain low (map spot_of (cond b (f ∷ filter (λ (g : Finding). eqb g.rule rule) fs) (filter (λ (g : Finding). eqb g.rule rule) fs)))
    by_rule true e behind own others =
        let same : f.rule ≡ rule = eqb-true f.rule rule e in (own_behind rule low before f same is behind, own same)
    by_rule false e behind own others = others

-- ---- the rows of a rule

said_order : (rule : ℕ) (spots : List Spot) (es : List FileError) → SpotChain None spots → AreRowsInOrder (said_by rule spots es)
said_order rule spots [] chain = chain
said_order rule spots (e ∷ es) chain = by_test (is_of rule e.rule) (said_order rule spots es chain) where
  by_test : (b : Bool) → AreRowsInOrder (said_by rule spots es) → AreRowsInOrder (cond b (ruled.Message e.message) (said_by rule spots es))
  by_test true rest = tt
  by_test false rest = rest

pub rows_order : (r : FileRows) (rule : ℕ) → are_of_rules r ≡ true → AreRowsInOrder (rows_of r rule)
rows_order r rule h = said_order rule (spots_of rule r.findings) r.errors (spots_chain rule None None r.findings tt (both_true (are_findings_from None r.findings) _ h).0)
