-- The entries of a pool: those of the nodes of a tree, and where one is found.
use Rattle.std.proofs.Common.{ℕ, zero, suc, ◌≡◌, ◌≢◌, ◌+◌, ◌<◌, ◌≤◌, List, [], ◌∷◌, ◌++◌, length, drop, Option, None, Some, refl, ap, sym, ◌∙◌, arith, rules, append_assoc, append-nil, cond, true, get_or, add-one}
use Rattle.std.proofs.Math.Dec.{ltb}
use Rattle.std.specs.List.{slice_get}
use Rattle.std.specs.List.Sorted.{IsNonDecreasingBy}
use Rattle.std.specs.Option.{option_and_then}
use Rattle.std.proofs.lemmas.Bool.{eq-eqb, ne_eqb, ltb-true}
use Rattle.std.proofs.lemmas.List.{drop_all}
use Rattle.pj_tree.specs.Tree.{TreeNode, Tree}
use Rattle.pj_tree.specs.declared.node.Node.{Node}
use Rattle.pj_parse.specs.Entries.{IsRisingFrom}
use Rattle.pj_parse.specs.PoolText.{kept_text, pool_text, entry_of, entries_from, text_in, IsPoolOf}
use Rattle.pj_parse.specs.declared.entry.Entry.{Entry}

abbrev node_numbered : ℕ → Node
node_numbered n = record { 0 = n }

-- ---- one entry

entry_other : (e : Entry) (es : List Entry) (n : ℕ) → e.node.0 ≢ n → text_in (e ∷ es) (node_numbered n) ≡ text_in es (node_numbered n)
entry_other e es n ne = ap (λ b. cond b (Some e.text) (text_in es (node_numbered n))) (ne_eqb e.node.0 n ne)

entry_same : (e : Entry) (es : List Entry) (n : ℕ) → e.node.0 ≡ n → text_in (e ∷ es) (node_numbered n) ≡ Some e.text
entry_same e es n is = ap (λ b. cond b (Some e.text) (text_in es (node_numbered n))) (eq-eqb e.node.0 n is)

-- ---- entries that rise

-- no entry is of a node before the first
none_before : (es : List Entry) (k n : ℕ) → IsRisingFrom k es → n < k → text_in es (node_numbered n) ≡ None
none_before [] k n rising before = refl
none_before (e ∷ es) k n rising before =
    entry_other e es n (λ is. omega (arith, rising.0, before, is))
    ∙ none_before es (e.node.0 + 1) n rising.1 (omega (arith, rising.0, before))

rising_lower : (es : List Entry) (j k : ℕ) → j ≤ k → IsRisingFrom k es → IsRisingFrom j es
rising_lower [] j k le rising = tt
rising_lower (e ∷ es) j k le rising = (omega (arith, le, rising.0), rising.1)

-- ---- the entries of nodes

entries_rise : (text : List ℕ) (k : ℕ) (xs : List TreeNode) → IsRisingFrom k (entries_from text k xs)
entries_rise text k [] = tt
entries_rise text k (x ∷ xs) = put (kept_text text x) (entries_rise text (k + 1) xs)
  where
    put : (kept : Option (List ℕ)) → IsRisingFrom (k + 1) (entries_from text (k + 1) xs) → IsRisingFrom k (entry_of k kept ++ entries_from text (k + 1) xs)
    put None rising = rising_lower (entries_from text (k + 1) xs) k (k + 1) (omega arith) rising
    put (Some t) rising = (omega arith, rising)

-- the text of a node is that which is kept of it
entry_at : (text : List ℕ) (k : ℕ) (xs : List TreeNode) (j n : ℕ) → n ≡ k + j → text_in (entries_from text k xs) (node_numbered n) ≡ option_and_then (kept_text text) (slice_get xs j)
entry_at text k [] zero n is = refl
entry_at text k [] (suc j) n is = refl
entry_at text k (x ∷ xs) zero n is = put (kept_text text x)
  where
    put : (kept : Option (List ℕ)) → text_in (entry_of k kept ++ entries_from text (k + 1) xs) (node_numbered n) ≡ kept
    put None = none_before (entries_from text (k + 1) xs) (k + 1) n (entries_rise text (k + 1) xs) (omega (arith, is))
    put (Some t) = entry_same (record { node = node_numbered k; text = t }) (entries_from text (k + 1) xs) n (omega (arith, is))
entry_at text k (x ∷ xs) (suc j) n is = put (kept_text text x) (entry_at text (k + 1) xs j n (omega (arith, is)))
  where
    put : (kept : Option (List ℕ)) → text_in (entries_from text (k + 1) xs) (node_numbered n) ≡ option_and_then (kept_text text) (slice_get xs j)
        → text_in (entry_of k kept ++ entries_from text (k + 1) xs) (node_numbered n) ≡ option_and_then (kept_text text) (slice_get xs j)
    put None later = later
    put (Some t) later = entry_other (record { node = node_numbered k; text = t }) (entries_from text (k + 1) xs) n (λ e. omega (arith, is, e)) ∙ later

pub entries_are_pool : (t : Tree) → IsPoolOf t (entries_from t.text 0 t.nodes)
entries_are_pool t n = entry_at t.text 0 t.nodes n.0 n.0 (omega arith)

pub entries_rise_from_zero : (t : Tree) → IsRisingFrom 0 (entries_from t.text 0 t.nodes)
entries_rise_from_zero t = entries_rise t.text 0 t.nodes

-- one more node is passed
pub entries_more : (t : Tree) (es all : List Entry) (n : ℕ) → n < length t.nodes → es ++ entries_from t.text n (drop n t.nodes) ≡ all
    → (es ++ entry_of n (pool_text t (node_numbered n))) ++ entries_from t.text (n + 1) (drop (n + 1) t.nodes) ≡ all
entries_more t es all n below so_far =
    let r = node_at t.nodes n below in
    let x : TreeNode = r.0 in
    ap (λ kept. (es ++ entry_of n kept) ++ entries_from t.text (n + 1) (drop (n + 1) t.nodes)) (ap (option_and_then (kept_text t.text)) r.1)
    ∙ append_assoc es (entry_of n (kept_text t.text x)) (entries_from t.text (n + 1) (drop (n + 1) t.nodes))
    ∙ ap (λ m. es ++ (entry_of n (kept_text t.text x) ++ entries_from t.text (n + 1) (drop m t.nodes))) (add-one n)
    ∙ ap (λ (rest : List TreeNode). es ++ entries_from t.text n rest) (sym r.2)
    ∙ so_far
  where
    node_at : (nodes : List TreeNode) (i : ℕ) → i < length nodes → (x : TreeNode) × (slice_get nodes i ≡ Some x) × (drop i nodes ≡ x ∷ drop (suc i) nodes)
    node_at [] i h = absurd (omega (arith, h))
    node_at (x ∷ xs) zero h = (x, refl, refl)
    node_at (x ∷ xs) (suc i) h = node_at xs i (omega (arith, h))

-- ---- a search

-- the entries before place i are of nodes before n
abbrev AreBefore : List Entry → ℕ → ℕ → Type 0
AreBefore es n i = (k : ℕ) (d : Entry) → 0 ≤ k → k < i → ltb (get_or es k d).node.0 n ≡ true

before_later : (e : Entry) (es : List Entry) (n i : ℕ) → AreBefore (e ∷ es) n (suc i) → AreBefore es n i
before_later e es n i before k d low high = before (suc k) d (omega arith) (omega (arith, high))

first_other : (e : Entry) (es : List Entry) (n i : ℕ) → AreBefore (e ∷ es) n (suc i) → e.node.0 ≢ n
first_other e es n i before is = omega (arith, ltb-true e.node.0 n (before 0 e (omega arith) (omega arith)), is)

-- the entry at the place where those of earlier nodes end is the first of its node
pub found_at : (es : List Entry) (n i : ℕ) (e : Entry) → AreBefore es n i → slice_get es i ≡ Some e → e.node.0 ≡ n → text_in es (node_numbered n) ≡ Some e.text
found_at [] n zero e before at is = absurd (search (rules, at))
found_at [] n (suc i) e before at is = absurd (search (rules, at))
found_at (f ∷ es) n zero e before at is =
    let same : f ≡ e = search (rules, at) in
    entry_same f es n (ap (λ (x : Entry). x.node.0) same ∙ is) ∙ ap (λ (x : Entry). Some x.text) same
found_at (f ∷ es) n (suc i) e before at is = entry_other f es n (first_other f es n i before) ∙ found_at es n i e (before_later f es n i before) at is

-- where that place has an entry of a later node, or none, no entry is of the node
pub none_at : (es : List Entry) (k n i : ℕ) → IsRisingFrom k es → AreBefore es n i → ((e : Entry) → slice_get es i ≡ Some e → n < e.node.0) → text_in es (node_numbered n) ≡ None
none_at [] k n i rising before later = refl
none_at (f ∷ es) k n zero rising before later =
    let behind : n < f.node.0 = later f refl in
    entry_other f es n (λ is. omega (arith, behind, is)) ∙ none_before es (f.node.0 + 1) n rising.1 (omega (arith, behind))
none_at (f ∷ es) k n (suc i) rising before later = entry_other f es n (first_other f es n i before) ∙ none_at es (f.node.0 + 1) n i rising.1 (before_later f es n i before) later

-- the nodes of entries that rise do not decrease
at_least : (es : List Entry) (k i : ℕ) (d : Entry) → IsRisingFrom k es → i < length es → k ≤ (get_or es i d).node.0
at_least [] k i d rising h = absurd (omega (arith, h))
at_least (e ∷ es) k zero d rising h = rising.0
at_least (e ∷ es) k (suc i) d rising h = omega (arith, rising.0, at_least es (e.node.0 + 1) i d rising.1 (omega (arith, h)))

pub rising_order : (es : List Entry) (k : ℕ) → IsRisingFrom k es → IsNonDecreasingBy (λ (e : Entry). e.node.0) es
rising_order [] k rising i j d le h = absurd (omega (arith, h))
rising_order (e ∷ es) k rising zero zero d le h = omega arith
rising_order (e ∷ es) k rising zero (suc j) d le h = omega (arith, at_least es (e.node.0 + 1) j d rising.1 (omega (arith, h)))
rising_order (e ∷ es) k rising (suc i) zero d le h = absurd (omega (arith, le))
rising_order (e ∷ es) k rising (suc i) (suc j) d le h = rising_order es (e.node.0 + 1) rising.1 i j d (omega (arith, le)) (omega (arith, h))

-- ---- the end of the nodes

pub entries_done : (t : Tree) (es all : List Entry) (n : ℕ) → length t.nodes ≤ n → es ++ entries_from t.text n (drop n t.nodes) ≡ all → es ≡ all
entries_done t es all n past so_far =
    sym (append-nil es) ∙ ap (λ (rest : List TreeNode). es ++ entries_from t.text n rest) (sym (drop_all n t.nodes past)) ∙ so_far
