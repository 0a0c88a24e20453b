-- Chains of one operator.
use Rattle.std.proofs.Common.{◌≡◌, ◌∙◌, ℕ, suc, ◌≤◌, List, [], ◌∷◌, ◌++◌, Bool, true, false, cond, refl, sym, ap, arith, length}
use Rattle.std.specs.Prelude.{IsTrue, nat_le, nat_eq}
use Rattle.std.proofs.lemmas.Bool.{false≢true}
use Rattle.std.proofs.Math.Dec.{eqb-suc-zero}
use Rattle.pj_xtokens.specs.Tokens.{Lexed, lexed}
use Rattle.pj_xtokens.specs.declared.token.Sign.TheVariants as s
use Rattle.pj_xgrammar.specs.Terminals.{behind_of}
use Rattle.pj_xsyntax_laws.specs.Spaced.{Word}
use Rattle.pj_xexpressions.specs.Expressions.{Scope, Other}
use Rattle.pj_xexpressions.specs.Trees as tree
use Rattle.pj_xexpressions.specs.Trees.{Tree, Trees, Construct, Node, More, trees}
use Rattle.pj_xgrammar.specs.declared.rule.Rule.TheVariants as r
use Rattle.pj_xreadings.specs.Operands as value
use Rattle.pj_xreadings.specs.Operands.{Operand, names_of}
use Rattle.pj_xmeaning.specs.Reach.{All}
use Rattle.pj_xmeaning.specs.Reads as x
use Rattle.pj_xmeaning.specs.Reads.{token}
use Rattle.pj_xreadings.specs.Nesting.{nested_of, nested_each, chain_before}
use Rattle.pj_xsyntax_laws.specs.Printed.{Printed, joined, enclosed, printed_of, printed_each, comma, sign, keyword}
use Rattle.pj_xsyntax_laws.proofs.Follows.{follows}
use Rattle.pj_xsyntax_laws.proofs.Mentions.{clean-append}
use Rattle.pj_xsyntax_laws.proofs.Readings.{Spelling, ReadsAt, Reads, EachReads, no_parts, more_parts, AllNames, no_names, more_names, all-trees, all-clean, list_of, list_is, operand_of, at, as_reading}
use Rattle.pj_xsyntax_laws.proofs.WholeReadings.{reading}
use Rattle.pj_xsyntax_laws.proofs.Constructs.{low_reads}
use Rattle.pj_xsyntax_laws.proofs.Heads.{Joins, head_reads, printed-paired}
use Rattle.pj_xsyntax_laws.proofs.Tails.{Tail, Makes, makes_none, makes_more}

-- the operands in a row
abbrev in_row : ℕ → Printed → Operand → List Operand → List Operand
in_row from o a more = a ∷ more

each : {scope : Scope} {os : List Printed} {ts : Trees} {v : List Operand} → Makes scope [] in_row os ts v → AllNames scope (list_of ts) v
each makes_none = no_names
each (makes_more from n m) = more_names n (each m)

-- the rules of a construct with one operator: of a level, with operands from another one on
record Row (mark : Bool) (least level : ℕ) (operator : Word) (c : Construct) (P : Spelling (List Operand)) : Type 0 where
  line : (depth : ℕ) (xs ys zs : List Lexed) (first : Operand) (more : List Operand) → at least depth xs ys first → P depth ys zs more → at level depth xs zs (value.chain c first more)
  ends : (depth : ℕ) (xs : List Lexed) → P depth xs xs []
  goes_on : (depth from : ℕ) (xs ys zs : List Lexed) (a : Operand) (v : List Operand) → depth ≤ 200 → at least depth xs ys a → P depth ys zs v
      → P depth (lexed operator.kind operator.text from ∷ xs) zs (a ∷ v)
  allowed : (from : ℕ) → IsTrue (follows mark (behind_of (lexed operator.kind operator.text from)))
  low : least ≤ 15

module _ {mark : Bool} {least level : ℕ} {operator : Word} {c : Construct} {P : Spelling (List Operand)} (R : Row mark least level operator c P) where
  abbrev tail : Tail mark least Printed (List Operand) P
  tail = record {
    word = λ o. operator;
    none = [];
    more = in_row;
    ends = R.ends;
    goes_on = λ depth from xs ys zs o. R.goes_on depth from xs ys zs;
    allowed = λ o. R.allowed;
    low = R.low;
  }

  joins : {scope : Scope} {first t : Tree} {o : Printed} {os : List Printed} {ts : Trees} → Joins tail scope level first (o ∷ os) (More t ts) (Node c (More first (More t ts)))
  joins {scope} {first} {t} {ts = ts} depth xs ys zs written names v clean (makes_more {names = own} {v = more} from n m) a rest =
      as_reading (names ++ (own ++ names_of more)) (R.line depth xs ys zs (operand_of first written names) v a rest) (ap (λ l. Node c (More first (More t l))) (ap trees (all-trees (each m)) ∙ list_is ts))
      (clean-append scope names (own ++ names_of more) clean (clean-append scope own (names_of more) n (all-clean (each m))))

  chain_reads : (scope : Scope) (ts : Trees) → nat_le 2 (length (printed_each ts)) ≡ true → EachReads scope ts → (flag : Bool)
      → ReadsAt flag level (joined flag mark least operator (printed_each ts)) (chain_before flag mark least (nested_each ts)) scope Other (Node c ts)
  unfolding printed_of nested_of
  chain_reads scope _ h no_parts flag = absurd (false≢true h)
  chain_reads scope _ h (more_parts r no_parts) flag = absurd (false≢true h)
  chain_reads scope _ h (more_parts rf (more_parts {t = t} {ts = ts} r rs)) flag = head_reads {o = printed_of t} tail joins rf r rs (printed-paired ts) flag

or_row : Row true 3 2 (keyword "or") tree.Or (x.Reads All r.OrTail)
or_row = record {
  line = λ depth xs ys zs first more a rest. reading (x.or_expr {first = first} {more = more} a rest);
  ends = λ depth xs. reading x.or_end;
  goes_on = λ depth from xs ys zs a v few first rest. reading (x.or_more (token refl few) first rest);
  allowed = λ from. refl;
  low = omega arith;
}

and_row : Row true 4 3 (keyword "and") tree.And (x.Reads All r.AndTail)
and_row = record {
  line = λ depth xs ys zs first more a rest. reading (x.and_expr {first = first} {more = more} a rest);
  ends = λ depth xs. reading x.and_end;
  goes_on = λ depth from xs ys zs a v few first rest. reading (x.and_more (token refl few) first rest);
  allowed = λ from. refl;
  low = omega arith;
}

concatenation_row : Row false 6 5 (sign "||" s.BarBar) tree.Concatenation (x.Reads All r.StringConcatTail)
concatenation_row = record {
  line = λ depth xs ys zs first more a rest. reading (x.concatenation_expr {first = first} {more = more} a rest);
  ends = λ depth xs. reading x.concatenation_end;
  goes_on = λ depth from xs ys zs a v few first rest. reading (x.concatenation_more (token refl few) first rest);
  allowed = λ from. refl;
  low = omega arith;
}

union_row : Row false 10 9 (sign "|" s.Bar) tree.Union (x.Reads All r.UnionTail)
union_row = record {
  line = λ depth xs ys zs first more a rest. reading (x.union_expr {first = first} {more = more} a rest);
  ends = λ depth xs. reading x.union_end;
  goes_on = λ depth from xs ys zs a v few first rest. reading (x.bar_more (token refl few) first rest);
  allowed = λ from. refl;
  low = omega arith;
}

map_row : Row false 13 12 (sign "!" s.Bang) tree.SimpleMap (x.Reads All r.SimpleMapTail)
map_row = record {
  line = λ depth xs ys zs first more a rest. reading (x.map_expr {first = first} {more = more} a rest);
  ends = λ depth xs. reading x.map_end;
  goes_on = λ depth from xs ys zs a v few first rest. reading (x.map_more (token refl few) first rest);
  allowed = λ from. refl;
  low = omega arith;
}

comma_row : Row false 1 0 comma tree.Comma (x.Reads All r.ExprTail)
comma_row = record {
  line = λ depth xs ys zs first more a rest. reading (x.expr {first = first} {more = more} a rest);
  ends = λ depth xs. reading x.expr_end;
  goes_on = λ depth from xs ys zs a v few first rest. reading (x.expr_more (token refl few) first rest);
  allowed = λ from. refl;
  low = omega arith;
}

module _ (scope : Scope) (ts : Trees) (h : nat_le 2 (length (printed_each ts)) ≡ true) (rs : EachReads scope ts) where
  pub or_reads : Reads scope (Node tree.Or ts)
  or_reads = low_reads scope tree.Or ts refl (chain_reads or_row scope ts h rs)

  pub and_reads : Reads scope (Node tree.And ts)
  and_reads = low_reads scope tree.And ts refl (chain_reads and_row scope ts h rs)

  pub concatenation_reads : Reads scope (Node tree.Concatenation ts)
  concatenation_reads = low_reads scope tree.Concatenation ts refl (chain_reads concatenation_row scope ts h rs)

  pub union_reads : Reads scope (Node tree.Union ts)
  union_reads = low_reads scope tree.Union ts refl (chain_reads union_row scope ts h rs)

  pub map_reads : Reads scope (Node tree.SimpleMap ts)
  map_reads = low_reads scope tree.SimpleMap ts refl (chain_reads map_row scope ts h rs)

-- a list of expressions that is not empty
not_empty : (empty : List Word) {flag : Bool} {ws : List Word} {bound : ℕ} {scope : Scope} {t : Tree} (none none' : Bool) → none ≡ false → none' ≡ false
    → ReadsAt flag 0 ws bound scope Other t → ReadsAt flag (cond none 16 0) (cond none empty ws) (cond none' 1 bound) scope Other t
not_empty empty true _ e _ r = absurd (false≢true (sym e))
not_empty empty false true _ e r = absurd (false≢true (sym e))
not_empty empty false false _ _ r = r

-- expressions with commas between them
pub comma_reads : (scope : Scope) (ts : Trees) → nat_le 2 (length (printed_each ts)) ≡ true → EachReads scope ts → Reads scope (Node tree.Comma ts)
unfolding printed_of nested_of
comma_reads scope _ h no_parts = absurd (false≢true h)
comma_reads scope _ h (more_parts r no_parts) = absurd (false≢true h)
comma_reads scope _ h (more_parts {t = first} rf (more_parts {t = t} {ts = ts} r rs)) =
    low_reads scope tree.Comma (More first (More t ts)) (ap (λ e. nat_le 15 (cond e 16 0)) (eqb-suc-zero (suc (length (printed_each ts)))))
    (λ flag. not_empty (enclosed []) (nat_eq (suc (suc (length (printed_each ts)))) 0) (nat_eq (suc (suc (length (nested_each ts)))) 0) (eqb-suc-zero (suc (length (printed_each ts)))) (eqb-suc-zero (suc (length (nested_each ts))))
    (chain_reads comma_row scope (More first (More t ts)) h (more_parts rf (more_parts r rs)) flag))
