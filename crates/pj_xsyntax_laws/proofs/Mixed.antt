-- Chains that mix operators: sums, products, and `intersect` with `except`.
use Rattle.std.proofs.Common.{◌≡◌, ◌∙◌, ℕ, ◌≤◌, List, [], ◌∷◌, ◌++◌, Bool, true, false, map, refl, ap, arith, length}
use Rattle.std.specs.Prelude.{IsTrue, nat_le}
use Rattle.std.proofs.lemmas.Bool.{false≢true}
use Rattle.pj_xtokens.specs.Tokens.{Lexed, lexed}
use Rattle.pj_xgrammar.specs.Terminals.{behind_of}
use Rattle.pj_xsyntax_laws.specs.Spaced.{Word}
use Rattle.pj_xexpressions.specs.declared.operator.Additive.{Additive}
use Rattle.pj_xexpressions.specs.declared.operator.Additive.TheVariants as sum
use Rattle.pj_xexpressions.specs.declared.operator.Multiplicative.{Multiplicative}
use Rattle.pj_xexpressions.specs.declared.operator.Multiplicative.TheVariants as product
use Rattle.pj_xexpressions.specs.declared.operator.SetOperator.{SetOperator}
use Rattle.pj_xexpressions.specs.declared.operator.SetOperator.TheVariants as set
use Rattle.pj_xexpressions.specs.Expressions.{Scope, Other}
use Rattle.pj_xexpressions.specs.Trees as tree
use Rattle.pj_xexpressions.specs.Trees.{Tree, Trees, Construct, Node, NoMore, More, trees}
use Rattle.pj_xgrammar.specs.declared.rule.Rule.TheVariants as r
use Rattle.pj_xreadings.specs.Operands as value
use Rattle.pj_xreadings.specs.Operands.{Operand, operations, names_behind}
use Rattle.pj_xmeaning.specs.Reach.{All}
use Rattle.pj_xmeaning.specs.Reads as x
use Rattle.pj_xmeaning.specs.Reads.{token}
use Rattle.pj_xreadings.specs.Nesting.{nested_of, nested_each, chain_before}
use Rattle.pj_xsyntax_laws.specs.Printed.{chain, printed_of, printed_each, sum_word, product_word, set_word}
use Rattle.pj_xsyntax_laws.proofs.Follows.{follows}
use Rattle.pj_xsyntax_laws.proofs.Mentions.{Clean, clean-nil, clean-append}
use Rattle.pj_xsyntax_laws.proofs.Readings.{Spelling, ReadsAt, Reads, EachReads, no_parts, more_parts, operand_of, at, as_reading}
use Rattle.pj_xsyntax_laws.proofs.WholeReadings.{reading}
use Rattle.pj_xsyntax_laws.proofs.Constructs.{low_reads}
use Rattle.pj_xsyntax_laws.proofs.Heads.{Joins, head_reads}
use Rattle.pj_xsyntax_laws.proofs.Tails.{Tail, Paired, paired_none, paired_more, Makes, makes_none, makes_more}

module _ {Op : Type 0} where
  -- the operators with their operands
  abbrev in_pairs : ℕ → Op → Operand → List (Op × Operand) → List (Op × Operand)
  in_pairs from o a more = (o, a) ∷ more

  operators : {scope : Scope} {os : List Op} {ts : Trees} {v : List (Op × Operand)} → Makes scope [] in_pairs os ts v → map (λ (p : Op × Tree). p.0) (operations v) ≡ os
  operators makes_none = refl
  operators (makes_more {o = o} from n m) = ap (λ l. o ∷ l) (operators m)

  operands : {scope : Scope} {os : List Op} {ts : Trees} {v : List (Op × Operand)} → Makes scope [] in_pairs os ts v → trees (map (λ (p : Op × Tree). p.1) (operations v)) ≡ ts
  operands makes_none = refl
  operands (makes_more {t = t} from n m) = ap (More t) (operands m)

  clean-behind : {scope : Scope} {os : List Op} {ts : Trees} {v : List (Op × Operand)} → Makes scope [] in_pairs os ts v → Clean scope (names_behind v)
  clean-behind {scope} makes_none = clean-nil scope
  clean-behind {scope} (makes_more {names = names} {v = v} from n m) = clean-append scope names (names_behind v) n (clean-behind m)

-- the rules of a construct that mixes operators: of a level, with operands from another one on
record Mix (mark : Bool) (least level : ℕ) {Op : Type 0} (word : Op → Word) (construct : List Op → Construct) (P : Spelling (List (Op × Operand))) : Type 0 where
  line : (depth : ℕ) (xs ys zs : List Lexed) (first : Operand) (more : List (Op × Operand)) → at least depth xs ys first → P depth ys zs more → at level depth xs zs (value.mixed construct first more)
  ends : (depth : ℕ) (xs : List Lexed) → P depth xs xs []
  goes_on : (depth from : ℕ) (xs ys zs : List Lexed) (o : Op) (a : Operand) (v : List (Op × Operand)) → depth ≤ 200 → at least depth xs ys a → P depth ys zs v
      → P depth (lexed (word o).kind (word o).text from ∷ xs) zs ((o, a) ∷ v)
  allowed : (o : Op) (from : ℕ) → IsTrue (follows mark (behind_of (lexed (word o).kind (word o).text from)))
  low : least ≤ 15

module _ {mark : Bool} {least level : ℕ} {Op : Type 0} {word : Op → Word} {construct : List Op → Construct} {P : Spelling (List (Op × Operand))} (M : Mix mark least level word construct P) where
  abbrev tail : Tail mark least Op (List (Op × Operand)) P
  tail = record { word = word; none = []; more = in_pairs; ends = M.ends; goes_on = M.goes_on; allowed = M.allowed; low = M.low }

  joins : {scope : Scope} {first t : Tree} {o : Op} {os : List Op} {ts : Trees} → Joins tail scope level first (o ∷ os) (More t ts) (Node (construct (o ∷ os)) (More first (More t ts)))
  joins {scope} {first} {t} {o} {os} {ts} depth xs ys zs written names v clean (makes_more {names = own} {v = more} from n m) a rest =
      as_reading (names ++ (own ++ names_behind more)) (M.line depth xs ys zs (operand_of first written names) v a rest)
      (ap (λ l. Node (construct (o ∷ l)) (More first (More t (trees (map (λ (p : Op × Tree). p.1) (operations more)))))) (operators m) ∙ ap (λ l. Node (construct (o ∷ os)) (More first (More t l))) (operands m))
      (clean-append scope names (own ++ names_behind more) clean (clean-append scope own (names_behind more) n (clean-behind m)))

  mixed_reads : (scope : Scope) (os : List Op) (first : Tree) (ts : Trees) → nat_le 1 (length os) ≡ true → Paired os ts → Reads scope first → EachReads scope ts → (flag : Bool)
      → ReadsAt flag level (chain flag mark least (map word os) (printed_each (More first ts))) (chain_before flag mark least (nested_each (More first ts))) scope Other (Node (construct os) (More first ts))
  unfolding printed_of nested_of
  mixed_reads scope _ first _ h paired_none rf no_parts flag = absurd (false≢true h)
  mixed_reads scope _ first _ h (paired_more ps) rf (more_parts r rs) flag = head_reads tail joins rf r rs ps flag

-- ---- sums

sum_next : (depth from : ℕ) (xs ys zs : List Lexed) (o : Additive) (a : Operand) (v : List (Additive × Operand)) → depth ≤ 200 → at 8 depth xs ys a → x.Reads All r.AdditiveTail depth ys zs v
    → x.Reads All r.AdditiveTail depth (lexed (sum_word o).kind (sum_word o).text from ∷ xs) zs ((o, a) ∷ v)
sum_next depth from xs ys zs sum.Plus a v few first rest = reading (x.plus (token refl few) first rest)
sum_next depth from xs ys zs sum.Minus a v few first rest = reading (x.minus (token refl few) first rest)

sum_allowed : (o : Additive) (from : ℕ) → IsTrue (follows false (behind_of (lexed (sum_word o).kind (sum_word o).text from)))
sum_allowed sum.Plus from = refl
sum_allowed sum.Minus from = refl

sum_mix : Mix false 8 7 sum_word tree.Additive' (x.Reads All r.AdditiveTail)
sum_mix = record {
  line = λ depth xs ys zs first more a rest. reading (x.additive_expr {first = first} {more = more} a rest);
  ends = λ depth xs. reading x.additive_end;
  goes_on = sum_next;
  allowed = sum_allowed;
  low = omega arith;
}

pub sum_reads : (scope : Scope) (os : List Additive) (first : Tree) (ts : Trees) → nat_le 1 (length os) ≡ true → Paired os ts → Reads scope first → EachReads scope ts → Reads scope (Node (tree.Additive' os) (More first ts))
sum_reads scope os first ts h ps rf rs = low_reads scope (tree.Additive' os) (More first ts) refl (mixed_reads sum_mix scope os first ts h ps rf rs)

-- ---- products

product_next : (depth from : ℕ) (xs ys zs : List Lexed) (o : Multiplicative) (a : Operand) (v : List (Multiplicative × Operand)) → depth ≤ 200 → at 9 depth xs ys a → x.Reads All r.MultiplicativeTail depth ys zs v
    → x.Reads All r.MultiplicativeTail depth (lexed (product_word o).kind (product_word o).text from ∷ xs) zs ((o, a) ∷ v)
product_next depth from xs ys zs product.Times a v few first rest = reading (x.times (token refl few) first rest)
product_next depth from xs ys zs product.IntegerDivide a v few first rest = reading (x.integer_divide (token refl few) first rest)
product_next depth from xs ys zs product.Modulo a v few first rest = reading (x.modulo (token refl few) first rest)

product_allowed : (o : Multiplicative) (from : ℕ) → IsTrue (follows true (behind_of (lexed (product_word o).kind (product_word o).text from)))
product_allowed product.Times from = refl
product_allowed product.IntegerDivide from = refl
product_allowed product.Modulo from = refl

product_mix : Mix true 9 8 product_word tree.Multiplicative' (x.Reads All r.MultiplicativeTail)
product_mix = record {
  line = λ depth xs ys zs first more a rest. reading (x.multiplicative_expr {first = first} {more = more} a rest);
  ends = λ depth xs. reading x.multiplicative_end;
  goes_on = product_next;
  allowed = product_allowed;
  low = omega arith;
}

pub product_reads : (scope : Scope) (os : List Multiplicative) (first : Tree) (ts : Trees) → nat_le 1 (length os) ≡ true → Paired os ts → Reads scope first → EachReads scope ts → Reads scope (Node (tree.Multiplicative' os) (More first ts))
product_reads scope os first ts h ps rf rs = low_reads scope (tree.Multiplicative' os) (More first ts) refl (mixed_reads product_mix scope os first ts h ps rf rs)

-- ---- `intersect` and `except`

set_next : (depth from : ℕ) (xs ys zs : List Lexed) (o : SetOperator) (a : Operand) (v : List (SetOperator × Operand)) → depth ≤ 200 → at 11 depth xs ys a → x.Reads All r.IntersectExceptTail depth ys zs v
    → x.Reads All r.IntersectExceptTail depth (lexed (set_word o).kind (set_word o).text from ∷ xs) zs ((o, a) ∷ v)
set_next depth from xs ys zs set.Intersect a v few first rest = reading (x.intersect (token refl few) first rest)
set_next depth from xs ys zs set.Except a v few first rest = reading (x.except (token refl few) first rest)

set_allowed : (o : SetOperator) (from : ℕ) → IsTrue (follows true (behind_of (lexed (set_word o).kind (set_word o).text from)))
set_allowed set.Intersect from = refl
set_allowed set.Except from = refl

set_mix : Mix true 11 10 set_word tree.IntersectExcept (x.Reads All r.IntersectExceptTail)
set_mix = record {
  line = λ depth xs ys zs first more a rest. reading (x.set_expr {first = first} {more = more} a rest);
  ends = λ depth xs. reading x.set_end;
  goes_on = set_next;
  allowed = set_allowed;
  low = omega arith;
}

pub set_reads : (scope : Scope) (os : List SetOperator) (first : Tree) (ts : Trees) → nat_le 1 (length os) ≡ true → Paired os ts → Reads scope first → EachReads scope ts → Reads scope (Node (tree.IntersectExcept os) (More first ts))
set_reads scope os first ts h ps rf rs = low_reads scope (tree.IntersectExcept os) (More first ts) refl (mixed_reads set_mix scope os first ts h ps rf rs)
