-- Every tree that is an expression is read as it is printed.
use Rattle.std.proofs.Common.{◌≡◌, ◌∙◌, ℕ, suc, ◌+◌, List, [], ◌∷◌, Bool, true, false, not, cond, map, length, refl, sym, ap, subst, arith}
use Rattle.std.specs.Prelude.{◌&&◌, ◌||◌, IsTrue, nat_eq, nat_le}
use Rattle.std.proofs.Math.Dec.{eqb-suc-zero}
use Rattle.std.proofs.lemmas.Bool.{false≢true, and_parts, eqb-true, le-leb}
use Rattle.pj_xexpressions.specs.Among.{is_among}
use Rattle.pj_xexpressions.specs.Functions.{takes, pmd_takes}
use Rattle.pj_xexpressions.specs.Expressions.{Part, Scope, with_variable, all_fit, chain_fits, arguments_fit, is_digits}
use Rattle.pj_xexpressions.specs.Trees as tree
use Rattle.pj_xexpressions.specs.Trees.{Tree, Trees, Construct, Node, NoMore, More}
use Rattle.pj_xreadings.specs.Shapes.{part_of_tree, parts_of_trees, fits_by, exactly, operators_fit, scoped_fit, binder_fits, level_by}
use Rattle.pj_xreadings.specs.Spelled.{IsSpelled, AreSpelled, IsConstructSpelled, AreNames}
use Rattle.pj_xsyntax_laws.specs.Printed.{printed_of, printed_each}
use Rattle.pj_xsyntax_laws.proofs.Levels.{parts-length}
use Rattle.pj_xsyntax_laws.proofs.Readings.{Reads, EachReads, no_parts, more_parts, list_of}
use Rattle.pj_xsyntax_laws.proofs.Tails.{Paired, paired_none, paired_more}
use Rattle.pj_xsyntax_laws.proofs.Chains.{or_reads, and_reads, concatenation_reads, union_reads, map_reads, comma_reads}
use Rattle.pj_xsyntax_laws.proofs.Mixed.{sum_reads, product_reads, set_reads}
use Rattle.pj_xsyntax_laws.proofs.Couples.{comparison_reads, range_reads, unary_reads}
use Rattle.pj_xsyntax_laws.proofs.Clauses.{if_reads}
use Rattle.pj_xsyntax_laws.proofs.Binders.{ScopedReads, scoped_body, scoped_value, for_reads, let_reads, quantified_reads}
use Rattle.pj_xsyntax_laws.proofs.Steps.{step_reads, attribute_reads}
use Rattle.pj_xsyntax_laws.proofs.Primaries.{filter_reads, variable_reads, integer_reads, string_reads, context_reads, empty_reads}
use Rattle.pj_xsyntax_laws.proofs.Paths.{root_reads, path_reads}
use Rattle.pj_xsyntax_laws.proofs.Calls.{call_reads, pmd_reads}
use Rattle.pj_xsyntax_laws.proofs.Roles.{written_all}

-- ---- what fits, in parts

-- the number of parts, for the words of them
count : (ts : Trees) (test : ℕ → Bool) → IsTrue (test (length (parts_of_trees ts))) → test (length (printed_each ts)) ≡ true
count ts test h = ap test (parts-length ts) ∙ h

written-same : (ts : Trees) → map (λ (part : Part). part.written) (parts_of_trees ts) ≡ written_all (list_of ts)
unfolding part_of_tree
written-same NoMore = refl
written-same (More t ts) = ap (λ l. (part_of_tree t).written ∷ l) (written-same ts)

length-same : (ts : Trees) → length (parts_of_trees ts) ≡ length (written_all (list_of ts))
unfolding part_of_tree
length-same NoMore = refl
length-same (More t ts) = ap suc (length-same ts)

-- what has no parts
alone_case : (ts : Trees) (P : Trees → Type 0) → IsTrue (nat_eq (length (parts_of_trees ts)) 0) → P NoMore → P ts
unfolding part_of_tree
alone_case NoMore P h x = x
alone_case (More t ts) P h x = absurd (false≢true (sym (eqb-suc-zero (length (parts_of_trees ts))) ∙ h))

exact : (n : ℕ) (ts : Trees) (scope : Scope) → IsTrue (exactly n (parts_of_trees ts) scope) → IsTrue (nat_eq (length (parts_of_trees ts)) n) × IsTrue (all_fit scope (parts_of_trees ts))
exact n ts scope h = and_parts (nat_eq (length (parts_of_trees ts)) n) (all_fit scope (parts_of_trees ts)) h

chained : (ts : Trees) (scope : Scope) → IsTrue (chain_fits scope (parts_of_trees ts)) → IsTrue (nat_le 2 (length (parts_of_trees ts))) × IsTrue (all_fit scope (parts_of_trees ts))
chained ts scope h = and_parts (nat_le 2 (length (parts_of_trees ts))) (all_fit scope (parts_of_trees ts)) h

-- as many parts as operators, and one
paired_from : {Op : Type 0} (os : List Op) (ts : Trees) → length (parts_of_trees ts) ≡ length os → Paired os ts
unfolding part_of_tree
paired_from [] NoMore e = paired_none
paired_from [] (More t ts) e = absurd (omega (arith, e))
paired_from (o ∷ os) NoMore e = absurd (omega (arith, e))
paired_from (o ∷ os) (More t ts) e = paired_more (paired_from os ts (omega (arith, e)))

each-head : {scope : Scope} {t : Tree} {ts : Trees} → EachReads scope (More t ts) → Reads scope t
each-head (more_parts r rs) = r

each-tail : {scope : Scope} {t : Tree} {ts : Trees} → EachReads scope (More t ts) → EachReads scope ts
each-tail (more_parts r rs) = rs

-- ---- constructs whose parts need a closer look

comma_case : (scope : Scope) (ts : Trees) → IsTrue (not (nat_eq (length (parts_of_trees ts)) 1)) → EachReads scope ts → Reads scope (Node tree.Comma ts)
unfolding part_of_tree printed_of
comma_case scope NoMore h rs = empty_reads scope
comma_case scope (More t NoMore) h rs = absurd (false≢true h)
comma_case scope (More t (More u ts)) h rs = comma_reads scope (More t (More u ts)) (le-leb 2 (suc (suc (length (printed_each ts)))) (omega arith)) rs

-- operators with operands: one more of these than of those
operated_case : {Op : Type 0} (scope : Scope) (os : List Op) (ts : Trees) (P : Trees → Type 0) → IsTrue (operators_fit (length os) (parts_of_trees ts) scope) → EachReads scope ts
    → ((first : Tree) (rest : Trees) → nat_le 1 (length os) ≡ true → Paired os rest → Reads scope first → EachReads scope rest → P (More first rest)) → P ts
unfolding part_of_tree
operated_case scope os NoMore P h rs f =
    let parts = and_parts (nat_le 1 (length os)) (exactly (1 + length os) [] scope) h in
    let n = eqb-true 0 (1 + length os) (exact (1 + length os) NoMore scope parts.1).0 in
    absurd (omega (arith, n))
operated_case scope os (More first rest) P h rs f =
    let parts = and_parts (nat_le 1 (length os)) (exactly (1 + length os) (parts_of_trees (More first rest)) scope) h in
    let n = eqb-true (suc (length (parts_of_trees rest))) (1 + length os) (exact (1 + length os) (More first rest) scope parts.1).0 in
    f first rest parts.0 (paired_from os rest (omega (arith, n))) (each-head rs) (each-tail rs)

-- two parts or more
two_case : (scope : Scope) (ts : Trees) (P : Trees → Type 0) → IsTrue (nat_le 2 (length (parts_of_trees ts))) → EachReads scope ts
    → ((first second : Tree) (rest : Trees) → ts ≡ More first (More second rest) → Reads scope first → Reads scope second → EachReads scope rest → P (More first (More second rest))) → P ts
unfolding part_of_tree
two_case scope NoMore P h rs f = absurd (false≢true h)
two_case scope (More t NoMore) P h rs f = absurd (false≢true h)
two_case scope (More t (More u ts)) P h rs f = f t u ts refl (each-head rs) (each-head (each-tail rs)) (each-tail (each-tail rs))

-- of level 14 is the root alone
root_by : (c : Construct) (ts : Trees) (scope : Scope) → IsTrue (fits_by c (parts_of_trees ts) scope) → nat_eq (level_by c (length (printed_each ts))) 14 ≡ true → Node c ts ≡ Node tree.Root NoMore
root_by tree.Root ts scope h e = alone_case ts (λ us. Node tree.Root us ≡ Node tree.Root NoMore) (exact 0 ts scope h).0 refl
root_by tree.Comma ts scope h e = absurd (comma_level (nat_eq (length (printed_each ts)) 0) e)
  where
    comma_level : (none : Bool) → nat_eq (cond none 16 0) 14 ≡ true → ⊥
    comma_level true e = false≢true e
    comma_level false e = false≢true e
root_by _ ts scope h e = absurd (false≢true e)

root_only : (t : Tree) (scope : Scope) → IsTrue ((part_of_tree t).fits scope) → nat_eq (printed_of t).level 14 ≡ true → t ≡ Node tree.Root NoMore
unfolding part_of_tree printed_of
root_only (Node c ts) scope h e = root_by c ts scope h e

-- the first of some parts that fit
first_fits : (scope : Scope) (ts us : Trees) (first : Tree) → ts ≡ More first us → IsTrue (all_fit scope (parts_of_trees ts)) → IsTrue ((part_of_tree first).fits scope)
unfolding part_of_tree
first_fits scope ts us first e h = (and_parts ((part_of_tree first).fits scope) (all_fit scope (parts_of_trees us)) (subst (λ x. IsTrue (all_fit scope (parts_of_trees x))) e h)).0

-- ---- all constructs

module _ (ts : Trees) (each : (scope : Scope) → IsTrue (all_fit scope (parts_of_trees ts)) → EachReads scope ts)
    (bound : (names : List (List ℕ)) (scope : Scope) → IsTrue (scoped_fit names (parts_of_trees ts) scope) → AreNames names → ScopedReads scope names ts) where
  chain_case : (scope : Scope) (P : Type 0) → IsTrue (chain_fits scope (parts_of_trees ts)) → (nat_le 2 (length (printed_each ts)) ≡ true → EachReads scope ts → P) → P
  chain_case scope P h f = let parts = chained ts scope h in f (count ts (nat_le 2) parts.0) (each scope parts.1)

  exact_case : (n : ℕ) (scope : Scope) (P : Type 0) → IsTrue (exactly n (parts_of_trees ts) scope) → (nat_eq (length (printed_each ts)) n ≡ true → EachReads scope ts → P) → P
  exact_case n scope P h f = let parts = exact n ts scope h in f (count ts (λ m. nat_eq m n) parts.0) (each scope parts.1)

  operators_each : (n : ℕ) (scope : Scope) → IsTrue (operators_fit n (parts_of_trees ts) scope) → EachReads scope ts
  operators_each n scope h = each scope (exact (1 + n) ts scope (and_parts (nat_le 1 n) (exactly (1 + n) (parts_of_trees ts) scope) h).1).1

  bound_case : (names : List (List ℕ)) (scope : Scope) (P : List (List ℕ) → Type 0) → IsTrue (binder_fits names (parts_of_trees ts) scope) → AreNames names
      → ((bytes : List ℕ) (rest : List (List ℕ)) → ScopedReads scope (bytes ∷ rest) ts → P (bytes ∷ rest)) → P names
  bound_case [] scope P h ns f = absurd (false≢true h)
  bound_case (bytes ∷ rest) scope P h ns f = f bytes rest (bound (bytes ∷ rest) scope (and_parts (nat_le 1 (suc (length rest))) (scoped_fit (bytes ∷ rest) (parts_of_trees ts) scope) h).1 ns)

  pub construct_reads : (c : Construct) (scope : Scope) → IsTrue (fits_by c (parts_of_trees ts) scope) → IsConstructSpelled c → Reads scope (Node c ts)
  construct_reads tree.Comma scope h i =
      let parts = and_parts (not (nat_eq (length (parts_of_trees ts)) 1)) (all_fit scope (parts_of_trees ts)) h in
      comma_case scope ts parts.0 (each scope parts.1)
  construct_reads (tree.For names) scope h i = bound_case names scope (λ ns. Reads scope (Node (tree.For ns) ts)) h i (λ bytes rest r. for_reads scope bytes rest ts r)
  construct_reads (tree.Let names) scope h i = bound_case names scope (λ ns. Reads scope (Node (tree.Let ns) ts)) h i (λ bytes rest r. let_reads scope bytes rest ts r)
  construct_reads (tree.Quantified q names) scope h i = bound_case names scope (λ ns. Reads scope (Node (tree.Quantified q ns) ts)) h i (λ bytes rest r. quantified_reads scope q bytes rest ts r)
  construct_reads tree.If scope h i = exact_case 3 scope (Reads scope (Node tree.If ts)) h (if_reads scope ts)
  construct_reads tree.Or scope h i = chain_case scope (Reads scope (Node tree.Or ts)) h (or_reads scope ts)
  construct_reads tree.And scope h i = chain_case scope (Reads scope (Node tree.And ts)) h (and_reads scope ts)
  construct_reads (tree.Comparison op) scope h i = exact_case 2 scope (Reads scope (Node (tree.Comparison op) ts)) h (comparison_reads scope op ts)
  construct_reads tree.Concatenation scope h i = chain_case scope (Reads scope (Node tree.Concatenation ts)) h (concatenation_reads scope ts)
  construct_reads tree.Range scope h i = exact_case 2 scope (Reads scope (Node tree.Range ts)) h (range_reads scope ts)
  construct_reads (tree.Additive' os) scope h i = operated_case scope os ts (λ us. Reads scope (Node (tree.Additive' os) us)) h (operators_each (length os) scope h) (λ first rest. sum_reads scope os first rest)
  construct_reads (tree.Multiplicative' os) scope h i = operated_case scope os ts (λ us. Reads scope (Node (tree.Multiplicative' os) us)) h (operators_each (length os) scope h) (λ first rest. product_reads scope os first rest)
  construct_reads tree.Union scope h i = chain_case scope (Reads scope (Node tree.Union ts)) h (union_reads scope ts)
  construct_reads (tree.IntersectExcept os) scope h i = operated_case scope os ts (λ us. Reads scope (Node (tree.IntersectExcept os) us)) h (operators_each (length os) scope h) (λ first rest. set_reads scope os first rest)
  construct_reads (tree.Unary sign) scope h i = exact_case 1 scope (Reads scope (Node (tree.Unary sign) ts)) h (unary_reads scope sign ts)
  construct_reads tree.SimpleMap scope h i = chain_case scope (Reads scope (Node tree.SimpleMap ts)) h (map_reads scope ts)
  construct_reads tree.Path scope h i =
      let parts = chained ts scope h in
      two_case scope ts (λ us. Reads scope (Node tree.Path us)) parts.0 (each scope parts.1)
      (λ first second rest e rf r rs. path_reads scope first second rest (root_only first scope (first_fits scope ts (More second rest) first e parts.1)) rf r rs)
  construct_reads tree.Root scope h i = alone_case ts (λ us. Reads scope (Node tree.Root us)) (exact 0 ts scope h).0 (root_reads scope)
  construct_reads (tree.Step a t) scope h i = step_reads scope a t ts i (each scope h)
  construct_reads (tree.AttributeStep t) scope h i = attribute_reads scope t ts i (each scope h)
  construct_reads tree.Filter scope h i =
      let parts = chained ts scope h in
      two_case scope ts (λ us. Reads scope (Node tree.Filter us)) parts.0 (each scope parts.1) (λ first second rest e rf r rs. filter_reads scope first second rest rf (more_parts r rs))
  construct_reads (tree.Integer value) scope h i =
      alone_case ts (λ us. Reads scope (Node (tree.Integer value) us)) (exact 0 ts scope (and_parts (is_digits value) (exactly 0 (parts_of_trees ts) scope) h).1).0 (integer_reads scope value i)
  construct_reads (tree.String text) scope h i = alone_case ts (λ us. Reads scope (Node (tree.String text) us)) (exact 0 ts scope h).0 (string_reads scope text i)
  construct_reads (tree.Variable bytes) scope h i =
      let parts = and_parts (is_among bytes scope.bound || is_among bytes scope.given) (exactly 0 (parts_of_trees ts) scope) h in
      alone_case ts (λ us. Reads scope (Node (tree.Variable bytes) us)) (exact 0 ts scope parts.1).0 (variable_reads scope bytes i.0 parts.0)
  construct_reads tree.ContextItem scope h i = alone_case ts (λ us. Reads scope (Node tree.ContextItem us)) (exact 0 ts scope h).0 (context_reads scope)
  construct_reads (tree.Call f) scope h i =
      let written = map (λ (part : Part). part.written) (parts_of_trees ts) in
      let all = and_parts (takes f (length (parts_of_trees ts)) && arguments_fit f scope written) (all_fit scope (parts_of_trees ts)) h in
      let parts = and_parts (takes f (length (parts_of_trees ts))) (arguments_fit f scope written) all.0 in
      call_reads scope f ts (subst (λ n. IsTrue (takes f n)) (length-same ts) parts.0) (subst (λ ws. IsTrue (arguments_fit f scope ws)) (written-same ts) parts.1) (each scope all.1)
  construct_reads (tree.PmdCall f) scope h i =
      let parts = and_parts (pmd_takes f (length (parts_of_trees ts))) (all_fit scope (parts_of_trees ts)) h in
      pmd_reads scope f ts (subst (λ n. IsTrue (pmd_takes f n)) (length-same ts) parts.0) (each scope parts.1)

-- ---- trees

two_bodies : (n : ℕ) → nat_eq (suc (suc n)) 1 ≡ true → ⊥
two_bodies n h = let e = eqb-true (suc (suc n)) 1 h in omega (arith, e)

mutual
  unfolding part_of_tree IsSpelled

  pub tree_reads : (t : Tree) (scope : Scope) → IsTrue ((part_of_tree t).fits scope) → IsSpelled t → Reads scope t
  tree_reads (Node c ts) scope h spelled =
      construct_reads ts (λ inner all. each_reads ts inner all spelled.1) (λ names inner all ns. scoped_reads ts names inner all ns spelled.1) c scope h spelled.0

  each_reads : (ts : Trees) (scope : Scope) → IsTrue (all_fit scope (parts_of_trees ts)) → AreSpelled ts → EachReads scope ts
  each_reads NoMore scope h spelled = no_parts
  each_reads (More t ts) scope h spelled =
      let parts = and_parts ((part_of_tree t).fits scope) (all_fit scope (parts_of_trees ts)) h in
      more_parts (tree_reads t scope parts.0 spelled.0) (each_reads ts scope parts.1 spelled.1)

  scoped_reads : (ts : Trees) (names : List (List ℕ)) (scope : Scope) → IsTrue (scoped_fit names (parts_of_trees ts) scope) → AreNames names → AreSpelled ts → ScopedReads scope names ts
  scoped_reads NoMore [] scope h ns spelled = absurd (false≢true h)
  scoped_reads NoMore (bytes ∷ names) scope h ns spelled = absurd (false≢true h)
  scoped_reads (More t NoMore) [] scope h ns spelled = scoped_body (tree_reads t scope (and_parts ((part_of_tree t).fits scope) true (and_parts true ((part_of_tree t).fits scope && true) h).1).0 spelled.0)
  scoped_reads (More t (More u ts)) [] scope h ns spelled = absurd (two_bodies (length (parts_of_trees ts)) (and_parts (nat_eq (suc (suc (length (parts_of_trees ts)))) 1) (all_fit scope (parts_of_trees (More t (More u ts)))) h).0)
  scoped_reads (More t ts) (bytes ∷ names) scope h ns spelled =
      let parts = and_parts ((part_of_tree t).fits scope) (scoped_fit names (parts_of_trees ts) (with_variable bytes scope)) h in
      scoped_value ns.0.0 (tree_reads t scope parts.0 spelled.0) (scoped_reads ts names (with_variable bytes scope) parts.1 ns.1 spelled.1)
