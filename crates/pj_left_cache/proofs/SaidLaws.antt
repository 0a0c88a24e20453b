-- Rows by their keys, and what they say of rules.
use Rattle.std.proofs.Common.{◌≡◌, ℕ, zero, suc, ◌+◌, ◌≤◌, Bool, true, false, cond, List, [], ◌∷◌, ◌++◌, length, map, drop, Option, Some, None, refl, sym, ap, ◌∙◌, arith}
use Rattle.std.specs.Prelude.{is_some, min, nat_eq}
use Rattle.std.specs.Cmp.Lexicographic.{bytes_decides, nat_list_cmp_total, pointwise}
use Rattle.std.specs.Cmp.{tied_itself}
use Rattle.std.specs.List.{flat_map}
use Rattle.std.specs.BTreeMap.{insert_entry, is_at}
use Rattle.std.specs.declared.cmp.Ordering.{Ordering}
use Rattle.std.specs.declared.cmp.Ordering.TheVariants.{Less, Equal, Greater}
use Rattle.std.specs.Ordering.{is_eq, match_ordering}
use Rattle.std.proofs.lemmas.List.{append_assoc}
use Rattle.std.proofs.lemmas.List.Concat.{flat_map-cons}
use Rattle.pj_cache.specs.Found.{first_named}
use Rattle.pj_cache.specs.Places.{byte_order}
use Rattle.pj_cache.specs.declared.cache.KeyRows.{KeyRows}
use Rattle.pj_cache.specs.declared.cache.CachedResult.{CachedResult}
use Rattle.pj_reports.specs.declared.ruled.Ruled.{Ruled}
use Rattle.pj_fitting.specs.Right.{Key, RulesAt}
use Rattle.pj_fitting.specs.Left.{row_of, rows_at}
use Rattle.pj_fitting.proofs.Sets.{same_name}
use Rattle.pj_left_cache.specs.Said.{Rows, row_at, said_by, said_from, said_of_rules, with_group, with_groups, with_row}

key_itself : (x : Key) → is_at (byte_order x) x ≡ true
key_itself x = ap is_eq (tied_itself nat_list_cmp_total x)

-- a row put among others
put_by : (k q : Key) (v : KeyRows) (e : Key × KeyRows) (es more : Rows) (o : Ordering) → byte_order k e.0 ≡ o → row_at more q ≡ cond (is_at (byte_order q) k) (Some v) (row_at es q)
    → row_at (match_ordering o ((k, v) ∷ e ∷ es) ((e.0, v) ∷ es) (e ∷ more)) q ≡ cond (is_at (byte_order q) k) (Some v) (cond (is_at (byte_order q) e.0) (Some e.1) (row_at es q))
put_by k q v e es more Less is rest = refl
put_by k q v e es more Equal is rest = tie (is_at (byte_order q) e.0) refl
  where
    same : k ≡ e.0
    same = same_name k e.0 (ap is_eq is)

    tie : (t : Bool) → is_at (byte_order q) e.0 ≡ t → cond t (Some v) (row_at es q) ≡ cond (is_at (byte_order q) k) (Some v) (cond t (Some e.1) (row_at es q))
    tie true at = ap (λ (b : Bool). cond b (Some v) (Some e.1)) (sym at ∙ ap (λ (x : Key). is_at (byte_order q) x) (sym same))
    tie false at = ap (λ (b : Bool). cond b (Some v) (row_at es q)) (sym at ∙ ap (λ (x : Key). is_at (byte_order q) x) (sym same))
put_by k q v e es more Greater is rest = apart (is_at (byte_order q) e.0) (is_at (byte_order q) k) refl refl
  where
    apart : (s t : Bool) → is_at (byte_order q) e.0 ≡ s → is_at (byte_order q) k ≡ t → cond s (Some e.1) (row_at more q) ≡ cond (is_at (byte_order q) k) (Some v) (cond s (Some e.1) (row_at es q))
    apart true true at here =
        let both : k ≡ e.0 = sym (same_name q k here) ∙ same_name q e.0 at in
        let never : Equal ≡ Greater = sym (ap (λ (x : Key). byte_order x e.0) both ∙ tied_itself nat_list_cmp_total e.0) ∙ is in
        absurd cc
    apart true false at here = ap (λ (b : Bool). cond b (Some v) (Some e.1)) (sym here)
    apart false t at here = rest

row_put : (es : Rows) (k q : Key) (v : KeyRows) → row_at (insert_entry byte_order es k v) q ≡ cond (is_at (byte_order q) k) (Some v) (row_at es q)
row_put [] k q v = refl
row_put (e ∷ es) k q v = put_by k q v e es (insert_entry byte_order es k v) (byte_order k e.0) refl (row_put es k q v)

-- the first of two, where there is one
abbrev or_found : Option KeyRows → Option KeyRows → Option KeyRows
or_found None y = y
or_found (Some x) y = Some x

or_none : (x : Option KeyRows) → x ≡ or_found x None
or_none None = refl
or_none (Some x) = refl

there : (x : Option KeyRows) (y : Option KeyRows) → is_some x ≡ true → x ≡ or_found x y
there None y e = absurd cc
there (Some x) y e = refl

not_there : (x : Option KeyRows) (y : Option KeyRows) → is_some x ≡ false → y ≡ or_found x y
not_there None y e = refl
not_there (Some x) y e = absurd cc

with_by : (es : Rows) (k : KeyRows) (q : Key) (b t : Bool) → is_some (row_at es k.key) ≡ b → is_at (byte_order q) k.key ≡ t → row_at (cond b es (insert_entry byte_order es k.key k)) q ≡ or_found (row_at es q) (cond t (Some k) None)
with_by es k q true true has at = there (row_at es q) (Some k) (ap (λ (x : Key). is_some (row_at es x)) (same_name q k.key at) ∙ has)
with_by es k q true false has at = or_none (row_at es q)
with_by es k q false true has at =
    row_put es k.key q k ∙ ap (λ (b : Bool). cond b (Some k) (row_at es q)) at ∙ not_there (row_at es q) (Some k) (ap (λ (x : Key). is_some (row_at es x)) (same_name q k.key at) ∙ has)
with_by es k q false false has at = row_put es k.key q k ∙ ap (λ (b : Bool). cond b (Some k) (row_at es q)) at ∙ or_none (row_at es q)

row_with : (es : Rows) (k : KeyRows) (q : Key) → row_at (with_row es k) q ≡ or_found (row_at es q) (cond (is_at (byte_order q) k.key) (Some k) None)
row_with es k q = with_by es k q (is_some (row_at es k.key)) (is_at (byte_order q) k.key) refl refl

abbrev first_row : List KeyRows → Key → Option KeyRows
first_row ks q = first_named (λ (k : KeyRows). k.key) ks q

-- one test of keys is the other
test_by : (a q : Key) (s t : Bool) → pointwise nat_eq a q ≡ s → is_at (byte_order q) a ≡ t → s ≡ t
test_by a q true true e at = refl
test_by a q false false e at = refl
test_by a q true false e at =
    let never : false ≡ true = sym at ∙ ap (λ (x : Key). is_at (byte_order q) x) ((bytes_decides a q).0 e) ∙ key_itself q in
    absurd cc
test_by a q false true e at =
    let never : false ≡ true = sym e ∙ (bytes_decides a q).1 (sym (same_name q a at)) in
    absurd cc

join_by : (x : Option KeyRows) (k : KeyRows) (y : Option KeyRows) (s t : Bool) → s ≡ t → or_found (or_found x (cond t (Some k) None)) y ≡ or_found x (cond s (Some k) y)
join_by None k y true true e = refl
join_by None k y false false e = refl
join_by (Some x) k y true true e = refl
join_by (Some x) k y false false e = refl
join_by x k y true false e = absurd cc
join_by x k y false true e = absurd cc

row_group : (es : Rows) (ks : List KeyRows) (q : Key) → row_at (with_group es ks) q ≡ or_found (row_at es q) (first_row ks q)
row_group es [] q = or_none (row_at es q)
row_group es (k ∷ ks) q =
    row_group (with_row es k) ks q ∙ ap (λ (x : Option KeyRows). or_found x (first_row ks q)) (row_with es k q)
    ∙ join_by (row_at es q) k (first_row ks q) (pointwise nat_eq k.key q) (is_at (byte_order q) k.key) (test_by k.key q (pointwise nat_eq k.key q) (is_at (byte_order q) k.key) refl refl)

group-append : (es : Rows) (ks ls : List KeyRows) → with_group es (ks ++ ls) ≡ with_group (with_group es ks) ls
group-append es [] ls = refl
group-append es (k ∷ ks) ls = group-append (with_row es k) ks ls

abbrev group_of : CachedResult → List KeyRows
group_of r = r.group

groups_are : (es : Rows) (rs : List CachedResult) → with_groups es rs ≡ with_group es (flat_map group_of rs)
groups_are es [] = refl
groups_are es (r ∷ rs) =
    groups_are (with_group es r.group) rs ∙ sym (group-append es r.group (flat_map group_of rs)) ∙ ap (λ (l : List KeyRows). with_group es l) (sym (flat_map-cons group_of r rs))

row_groups : (rs : List CachedResult) (q : Key) → row_at (with_groups [] rs) q ≡ row_of rs q
row_groups rs q = ap (λ (es : Rows). row_at es q) (groups_are [] rs) ∙ row_group [] (flat_map group_of rs) q

-- what rows by their keys say is what the results say
pub said_all : (rs : List CachedResult) (keys : List Key) (active : List Bool) → said_from (with_groups [] rs) keys active ≡ said_of_rules rs keys active
said_all rs [] active = refl
said_all rs (k ∷ ks) [] = refl
said_all rs (k ∷ ks) (a ∷ more) = λ i. said_by (row_groups rs k i) a ∷ said_all rs ks more i

-- a step of the loop
pub next_said : (rows : Rows) (keys : List Key) (active : List Bool) (i : ℕ) (k : Key) (a : Bool) (all after total : List Ruled) → drop i keys ≡ k ∷ drop (i + 1) keys → drop i active ≡ a ∷ drop (i + 1) active → after ≡ all ++ said_by (row_at rows k) a ∷ []
    → all ++ said_from rows (drop i keys) (drop i active) ≡ total → after ++ said_from rows (drop (i + 1) keys) (drop (i + 1) active) ≡ total
next_said rows keys active i k a all after total left still e so_far =
    let rest : List Ruled = said_from rows (drop (i + 1) keys) (drop (i + 1) active) in
    ap (λ (l : List Ruled). l ++ rest) e ∙ append_assoc all (said_by (row_at rows k) a ∷ []) rest ∙ (λ j. all ++ said_from rows (sym left j) (sym still j)) ∙ so_far

none_said : (rows : Rows) (keys : List Key) → said_from rows keys [] ≡ []
none_said rows [] = refl
none_said rows (k ∷ ks) = refl

-- behind the end of one of both lists nothing is said
pub said_ended : (rows : Rows) (n : ℕ) (keys : List Key) (active : List Bool) → min (length keys) (length active) ≤ n → said_from rows (drop n keys) (drop n active) ≡ []
said_ended rows zero [] active past = refl
said_ended rows (suc n) [] active past = refl
said_ended rows zero (k ∷ ks) [] past = refl
said_ended rows (suc n) (k ∷ ks) [] past = none_said rows (drop n ks)
said_ended rows zero (k ∷ ks) (a ∷ more) past = absurd (omega (arith, past))
said_ended rows (suc n) (k ∷ ks) (a ∷ more) past = said_ended rows n ks more (omega (arith, past))

-- ---- rules at a file

pub said_of_each : {R : Type 0} (rules : RulesAt R) (results : List CachedResult) (held : List R) → said_of_rules results (map rules.key held) (map rules.is_active held) ≡ map (rows_at rules results) held
said_of_each rules results [] = refl
said_of_each rules results (x ∷ xs) = ap (λ (l : List Ruled). rows_at rules results x ∷ l) (said_of_each rules results xs)
