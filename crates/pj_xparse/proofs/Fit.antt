-- What is said of the values that the rules have: the expressions fit where what they name has no fault.
use Rattle.std.proofs.Common.{◌≡◌, ℕ, suc, ◌+◌, ◌⊎◌, inl, inr, true, List, [], ◌∷◌, ◌++◌, map, length, None, refl, sym, ap, subst, arith, rules}
use Rattle.std.specs.Prelude.{nat_eq, nat_le, not}
use Rattle.std.proofs.lemmas.Bool.{and_from, le-leb, eq-eqb}
use Rattle.pj_xexpressions.specs.Expressions.{Part, Scope, Written, Other, all_fit, chain_fits}
use Rattle.pj_xexpressions.specs.Trees as tree
use Rattle.pj_xexpressions.specs.Trees.{Tree, Construct, node, alone}
use Rattle.pj_xreadings.specs.Mentions.{Mention}
use Rattle.pj_xparse.specs.NameFaults.{first_fault_from}
use Rattle.pj_xreadings.specs.Shapes.{written_by, fits_by, part_of_tree, operators_fit, exactly}
use Rattle.pj_xreadings.specs.Nodes.{part_of_node}
use Rattle.pj_xparse.proofs.Faultless.{AreBalanced, none_balanced, both_balanced, both_none}

-- The expression may stand wherever what it names has no fault.
pub record IsFit (t : Tree) (written : Written) (ms : List Mention) : Type 0 where
  pub balanced : AreBalanced ms
  pub fits : (s : Scope) → first_fault_from s ms ≡ None → (part_of_tree t).fits s ≡ true
  pub written_as : (written ≡ Other) ⊎ (written ≡ (part_of_tree t).written)

pub record AreFit (ts : List Tree) (ms : List Mention) : Type 0 where
  pub balanced : AreBalanced ms
  pub fits : (s : Scope) → first_fault_from s ms ≡ None → all_fit s (map part_of_tree ts) ≡ true

pub none_fit : AreFit [] []
none_fit = record { balanced = none_balanced; fits = λ s e. refl }

pub more_fit : {t : Tree} {written : Written} {ts : List Tree} {ms ns : List Mention} → IsFit t written ms → AreFit ts ns → AreFit (t ∷ ts) (ms ++ ns)
more_fit {t} {written} {ts} {ms} {ns} a b = record {
  balanced = both_balanced a.balanced b.balanced;
  fits = λ s e. let (left, right) = both_none s ns a.balanced e in and_from ((part_of_tree t).fits s) (all_fit s (map part_of_tree ts)) (a.fits s left) (b.fits s right);
}

-- the last of some expressions
pub last_fit : {t : Tree} {written : Written} {ms : List Mention} → IsFit t written ms → AreFit (t ∷ []) ms
last_fit {t} a = record { balanced = a.balanced; fits = λ s e. and_from ((part_of_tree t).fits s) true (a.fits s e) refl }

-- where parts fit, a construct of them does
pub node_fit : (c : Construct) {ts : List Tree} {ms : List Mention} → ((s : Scope) → all_fit s (map part_of_tree ts) ≡ true → fits_by c (map part_of_tree ts) s ≡ true) → AreFit ts ms → IsFit (node c ts) Other ms
node_fit c {ts} {ms} by are = record {
  balanced = are.balanced;
  fits = λ s e. subst (λ (p : Part). p.fits s ≡ true) (sym (part_of_node c ts)) (by s (are.fits s e));
  written_as = inl refl;
}

-- a text that names something else before
pub fit_behind : {t : Tree} {written : Written} {ms : List Mention} → IsFit t written ms → IsFit t Other ms
fit_behind a = record { balanced = a.balanced; fits = a.fits; written_as = inl refl }

at_least_two : (a b : Part) (ps : List Part) → nat_le 2 (length (a ∷ b ∷ ps)) ≡ true
at_least_two a b ps = search (rules, arith)

pub chain_of : (s : Scope) (a b : Part) (ps : List Part) → all_fit s (a ∷ b ∷ ps) ≡ true → chain_fits s (a ∷ b ∷ ps) ≡ true
chain_of s a b ps e = and_from (nat_le 2 (length (a ∷ b ∷ ps))) (all_fit s (a ∷ b ∷ ps)) (at_least_two a b ps) e

-- the constructs whose parts are two or more operands of one kind
pub data IsChain : Construct → Type 0 where
  or_chain : IsChain tree.Or
  and_chain : IsChain tree.And
  concatenation_chain : IsChain tree.Concatenation
  union_chain : IsChain tree.Union
  simple_map_chain : IsChain tree.SimpleMap
  path_chain : IsChain tree.Path
  filter_chain : IsChain tree.Filter
  comma_chain : IsChain tree.Comma

not_one : (a b : Part) (ps : List Part) → not (nat_eq (length (a ∷ b ∷ ps)) 1) ≡ true
not_one a b ps = search (rules, arith)

chain_by : {c : Construct} → IsChain c → (s : Scope) (a b : Part) (ps : List Part) → all_fit s (a ∷ b ∷ ps) ≡ true → fits_by c (a ∷ b ∷ ps) s ≡ true
chain_by or_chain s a b ps e = chain_of s a b ps e
chain_by and_chain s a b ps e = chain_of s a b ps e
chain_by concatenation_chain s a b ps e = chain_of s a b ps e
chain_by union_chain s a b ps e = chain_of s a b ps e
chain_by simple_map_chain s a b ps e = chain_of s a b ps e
chain_by path_chain s a b ps e = chain_of s a b ps e
chain_by filter_chain s a b ps e = chain_of s a b ps e
chain_by comma_chain s a b ps e = and_from (not (nat_eq (length (a ∷ b ∷ ps)) 1)) (all_fit s (a ∷ b ∷ ps)) (not_one a b ps) e

pub chain_fit : {c : Construct} {t u : Tree} {ts : List Tree} {ms : List Mention} → IsChain c → AreFit (t ∷ u ∷ ts) ms → IsFit (node c (t ∷ u ∷ ts)) Other ms
chain_fit {c} {t} {u} {ts} is are = node_fit c (λ s e. chain_by is s (part_of_tree t) (part_of_tree u) (map part_of_tree ts) e) are

-- what has no parts and names nothing
pub alone_fit : (c : Construct) → ((s : Scope) → fits_by c [] s ≡ true) → IsFit (alone c) (written_by c) []
alone_fit c by = record {
  balanced = none_balanced;
  fits = λ s e. subst (λ (p : Part). p.fits s ≡ true) (sym (part_of_node c [])) (by s);
  written_as = inr (sym (ap (λ (p : Part). p.written) (part_of_node c [])));
}

-- a first operand, and one behind each operator
pub operated_by : {Operator : Type 0} (s : Scope) (ops : List Operator) (a b : Part) (ps : List Part) → length ops ≡ length (b ∷ ps) → all_fit s (a ∷ b ∷ ps) ≡ true →
    operators_fit (length ops) (a ∷ b ∷ ps) s ≡ true
operated_by s ops a b ps same e =
    and_from (nat_le 1 (length ops)) (exactly (1 + length ops) (a ∷ b ∷ ps) s) (some (length ops) (length ps) same)
    (and_from (nat_eq (length (a ∷ b ∷ ps)) (1 + length ops)) (all_fit s (a ∷ b ∷ ps)) (equal (length ops) (length ps) same) e)
  where
    some : (n m : ℕ) → n ≡ suc m → nat_le 1 n ≡ true
    some n m h = le-leb 1 n (omega arith)

    equal : (n m : ℕ) → n ≡ suc m → nat_eq (suc (suc m)) (1 + n) ≡ true
    equal n m h = eq-eqb (suc (suc m)) (1 + n) (omega arith)
