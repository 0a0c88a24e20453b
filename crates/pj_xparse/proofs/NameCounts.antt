-- How often names are bound.
use Rattle.std.proofs.Common.{◌≡◌, ◌≤◌, ◌∙◌, sym, ap, refl, ⊎_elim, ℕ, ◌+◌, ◌-◌, Bool, true, false, cond, Option, List, [], ◌∷◌, length, Some, arith}
use Rattle.std.specs.Prelude.{◌||◌, nat_lt, unwrap_or}
use Rattle.std.specs.Borrow.{Bor}
use Rattle.std.specs.BTreeMap.{BTreeMap, get_by, UpdatesBy}
use Rattle.std.specs.Cmp.Lexicographic.{slice_cmp}
use Rattle.std.specs.Ordering.{nat_cmp}
use Rattle.std.specs.Str.{bytes_eq}
use Rattle.std.proofs.lemmas.Bool.{cases_Bool}
use Rattle.std.proofs.lemmas.Bool.Decides.{nat_tests}
use Rattle.std.proofs.lemmas.Slice.Eq.{bytes_eq-Decides}
use Rattle.std.proofs.lemmas.Map.Text.{btree_map_updates_str}
use Rattle.pj_xexpressions.specs.Among.{is_among}
use Rattle.pj_xparse.specs.Bound.{count_in, times, AreCounts}

pub times-le-length : (name : List ℕ) (names : List (List ℕ)) → times name names ≤ length names
times-le-length name [] = omega arith
times-le-length name (other ∷ names) =
    let more = times-le-length name names in
    ⊎_elim
    (λ (h : bytes_eq other name ≡ true). let e : times name (other ∷ names) ≡ 1 + times name names = ap (λ b. cond b 1 0 + times name names) h in omega (arith, e, more))
    (λ (h : bytes_eq other name ≡ false). let e : times name (other ∷ names) ≡ 0 + times name names = ap (λ b. cond b 1 0 + times name names) h in omega (arith, e, more))
    (cases_Bool (bytes_eq other name))

unwrapped : (b : Bool) (count : ℕ) (other : Option ℕ) → unwrap_or (cond b (Some count) other) 0 ≡ cond b count (unwrap_or other 0)
unwrapped true count other = refl
unwrapped false count other = refl

pub inserted : (name : List ℕ) (counts new : BTreeMap (Bor (List ℕ)) ℕ) (count : ℕ) → UpdatesBy (λ x y. slice_cmp nat_cmp x.now y.now) (λ k. slice_cmp nat_cmp name k.now) counts new (Some count) →
    (q : List ℕ) → count_in new q ≡ cond (bytes_eq name q) count (count_in counts q)
inserted name counts new count updates q =
    ap (λ o. unwrap_or o 0) (btree_map_updates_str name counts new (Some count) updates q)
    ∙ unwrapped (bytes_eq name q) count (get_by (λ k. slice_cmp nat_cmp q k.now) counts)

pub one_more : (name : List ℕ) (counts new : BTreeMap (Bor (List ℕ)) ℕ) (names : List (List ℕ)) → AreCounts counts names →
    ((q : List ℕ) → count_in new q ≡ cond (bytes_eq name q) (count_in counts name + 1) (count_in counts q)) → AreCounts new (name ∷ names)
one_more name counts new names are is q =
    ⊎_elim
    (λ (h : bytes_eq name q ≡ true).
    let here : count_in counts name ≡ times q names = are name ∙ ap (λ w. times w names) ((bytes_eq-Decides name q).0 h) in
    let sum : count_in counts name + 1 ≡ 1 + times q names = omega (arith, here) in
    is q ∙ ap (λ b. cond b (count_in counts name + 1) (count_in counts q)) h ∙ sum ∙ sym (ap (λ b. cond b 1 0 + times q names) h))
    (λ (h : bytes_eq name q ≡ false).
    let sum : count_in counts q ≡ 0 + times q names = omega (arith, are q) in
    is q ∙ ap (λ b. cond b (count_in counts name + 1) (count_in counts q)) h ∙ sum ∙ sym (ap (λ b. cond b 1 0 + times q names) h))
    (cases_Bool (bytes_eq name q))

pub one_less : (name : List ℕ) (counts new : BTreeMap (Bor (List ℕ)) ℕ) (names : List (List ℕ)) → AreCounts counts (name ∷ names) →
    ((q : List ℕ) → count_in new q ≡ cond (bytes_eq name q) (count_in counts name - 1) (count_in counts q)) → AreCounts new names
one_less name counts new names are is q =
    ⊎_elim
    (λ (h : bytes_eq name q ≡ true).
    let here : count_in counts name ≡ 1 + times name names = are name ∙ ap (λ b. cond b 1 0 + times name names) ((bytes_eq-Decides name name).1 refl) in
    let less : count_in counts name - 1 ≡ times name names = omega (arith, here) in
    is q ∙ ap (λ b. cond b (count_in counts name - 1) (count_in counts q)) h ∙ less ∙ ap (λ w. times w names) ((bytes_eq-Decides name q).0 h))
    (λ (h : bytes_eq name q ≡ false).
    let there : count_in counts q ≡ 0 + times q names = are q ∙ ap (λ b. cond b 1 0 + times q names) h in
    let same : count_in counts q ≡ times q names = omega (arith, there) in
    is q ∙ ap (λ b. cond b (count_in counts name - 1) (count_in counts q)) h ∙ same)
    (cases_Bool (bytes_eq name q))

above_zero : (n : ℕ) → nat_lt 0 (1 + n) ≡ true
above_zero n = grind (arith, nat_tests)

pub found : (name : List ℕ) (names : List (List ℕ)) → nat_lt 0 (times name names) ≡ is_among name names
found name [] = refl
found name (other ∷ names) =
    ⊎_elim
    (λ (h : bytes_eq other name ≡ true).
    ap (λ b. nat_lt 0 (cond b 1 0 + times name names)) h ∙ above_zero (times name names) ∙ sym (ap (λ b. b || is_among name names) h))
    (λ (h : bytes_eq other name ≡ false).
    let rest : 0 + times name names ≡ times name names = omega arith in
    ap (λ b. nat_lt 0 (cond b 1 0 + times name names)) h ∙ ap (nat_lt 0) rest ∙ found name names ∙ sym (ap (λ b. b || is_among name names) h))
    (cases_Bool (bytes_eq other name))
