-- What has two operands or one: comparisons, ranges and signs.
use Rattle.std.proofs.Common.{◌≡◌, ℕ, suc, ◌+◌, ◌≤◌, List, [], ◌∷◌, ◌++◌, Bool, true, false, max, refl, Some, arith, length}
use Rattle.std.specs.Prelude.{IsTrue, nat_eq}
use Rattle.std.proofs.lemmas.Bool.{false≢true, eqb-true}
use Rattle.pj_xtokens.specs.Tokens.{Lexed, lexed}
use Rattle.pj_xgrammar.specs.Terminals.{behind_of}
use Rattle.pj_xsyntax_laws.specs.Spaced.{Word, placed}
use Rattle.pj_xexpressions.specs.declared.operator.Compare.{Compare}
use Rattle.pj_xexpressions.specs.declared.operator.Compare.TheVariants as compare
use Rattle.pj_xexpressions.specs.declared.operator.Sign.{Sign}
use Rattle.pj_xexpressions.specs.declared.operator.Sign.TheVariants as signed
use Rattle.pj_xexpressions.specs.Expressions.{Scope, Other}
use Rattle.pj_xexpressions.specs.Trees as tree
use Rattle.pj_xexpressions.specs.Trees.{Tree, Trees, Construct, Node, NoMore, More, node}
use Rattle.pj_xgrammar.specs.declared.rule.Rule.TheVariants as r
use Rattle.pj_xreadings.specs.Operands.{Operand, other}
use Rattle.pj_xmeaning.specs.Reach.{All}
use Rattle.pj_xmeaning.specs.Reads as x
use Rattle.pj_xmeaning.specs.Reads.{token}
use Rattle.pj_xreadings.specs.Shapes.{part_of_tree}
use Rattle.pj_xreadings.specs.Nesting.{operand_before, nested_of}
use Rattle.pj_xsyntax_laws.specs.Printed.{operand, printed_of, printed_each, compare_word, signed_word, keyword}
use Rattle.pj_xsyntax_laws.proofs.Follows.{follows}
use Rattle.pj_xsyntax_laws.proofs.Mentions.{clean-append}
use Rattle.pj_xsyntax_laws.proofs.Operands.{operand_reads}
use Rattle.pj_xsyntax_laws.proofs.Readings.{Reading, ReadsAt, Reads, EachReads, no_parts, more_parts, operand_of, at, past, next, together}
use Rattle.pj_xsyntax_laws.proofs.WholeReadings.{reading}
use Rattle.pj_xsyntax_laws.proofs.Constructs.{low_reads}
use Rattle.pj_xsyntax_laws.proofs.Tails.{max-left, max-right}

-- two operands with an operator between them, which are of one level
couple : {scope : Scope} {level : ℕ} (mark : Bool) (least : ℕ) (operator : Word) (c : Construct) → least ≤ 15
    → ((depth from : ℕ) (xs ys zs : List Lexed) (a b : Operand) → depth ≤ 200 → at least depth xs (lexed operator.kind operator.text from ∷ ys) a → at least depth ys zs b
    → at level depth xs zs (other (node c (a.tree ∷ b.tree ∷ [])) (a.names ++ b.names)))
    → ((from : ℕ) → IsTrue (follows mark (behind_of (lexed operator.kind operator.text from)))) → (left right : Tree) → Reads scope left → Reads scope right → (flag : Bool)
    → ReadsAt flag level (operand mark least (printed_of left) ++ operator ∷ operand flag least (printed_of right)) (max (operand_before mark least (nested_of left)) (operand_before flag least (nested_of right))) scope Other
    (Node c (More left (More right NoMore)))
couple {scope} {level} mark least operator c low line allowed left right rl rr flag = record {
  reads = λ depth from ys h f.
      let ws = operand mark least (printed_of left) in
      let us = operand flag least (printed_of right) in
      let a = operand_before mark least (nested_of left) in
      let b = operand_before flag least (nested_of right) in
      let here = next from ws in
      let zs = placed (past here operator) us ++ ys in
      let first = (operand_reads scope left rl mark least low).reads depth from (lexed operator.kind operator.text here ∷ zs) (max-left depth a b 200 h) (allowed here) in
      let second = (operand_reads scope right rr flag least low).reads depth (past here operator) ys (max-right depth a b 200 h) f in
      together (λ xs. Reading (at level) depth xs ys scope Other (Node c (More left (More right NoMore)))) from ws (operator ∷ us) ys (record {
        names = first.names ++ second.names;
        reads = line depth here (placed from ws ++ lexed operator.kind operator.text here ∷ zs) zs ys (operand_of left (part_of_tree left).written first.names) (operand_of right (part_of_tree right).written second.names)
            (omega (arith, h)) first.reads second.reads;
        clean = clean-append scope first.names second.names first.clean second.clean;
      });
}

compare_line : (op : Compare) (depth from : ℕ) (xs ys zs : List Lexed) (a b : Operand) → depth ≤ 200 → at 5 depth xs (lexed (compare_word op).kind (compare_word op).text from ∷ ys) a → at 5 depth ys zs b
    → at 4 depth xs zs (other (node (tree.Comparison op) (a.tree ∷ b.tree ∷ [])) (a.names ++ b.names))
compare_line op depth from xs ys zs a b few first second = reading (x.comparison_expr {second = Some (op, b)} first (behind op))
  where
    behind : (op : Compare) → x.Reads All r.ComparisonTail depth (lexed (compare_word op).kind (compare_word op).text from ∷ ys) zs (Some (op, b))
    behind compare.Equal = reading (x.equal (token refl few) second)
    behind compare.NotEqual = reading (x.not_equal (token refl few) second)
    behind compare.Less = reading (x.less (token refl few) second)
    behind compare.LessOrEqual = reading (x.less_or_equal (token refl few) second)
    behind compare.Greater = reading (x.greater (token refl few) second)
    behind compare.GreaterOrEqual = reading (x.greater_or_equal (token refl few) second)

compare_allowed : (op : Compare) (from : ℕ) → IsTrue (follows false (behind_of (lexed (compare_word op).kind (compare_word op).text from)))
compare_allowed compare.Equal from = refl
compare_allowed compare.NotEqual from = refl
compare_allowed compare.Less from = refl
compare_allowed compare.LessOrEqual from = refl
compare_allowed compare.Greater from = refl
compare_allowed compare.GreaterOrEqual from = refl

not_two : (n : ℕ) → nat_eq (suc (suc (suc n))) 2 ≡ true → ⊥
not_two n h = let e = eqb-true (suc (suc (suc n))) 2 h in omega (arith, e)

not_one : (n : ℕ) → nat_eq (suc (suc n)) 1 ≡ true → ⊥
not_one n h = let e = eqb-true (suc (suc n)) 1 h in omega (arith, e)

pub comparison_reads : (scope : Scope) (op : Compare) (ts : Trees) → nat_eq (length (printed_each ts)) 2 ≡ true → EachReads scope ts → Reads scope (Node (tree.Comparison op) ts)
unfolding printed_of nested_of
comparison_reads scope op _ h no_parts = absurd (false≢true h)
comparison_reads scope op _ h (more_parts r no_parts) = absurd (false≢true h)
comparison_reads scope op _ h (more_parts {t = left} rl (more_parts {t = right} rr no_parts)) =
    low_reads scope (tree.Comparison op) (More left (More right NoMore)) refl (couple false 5 (compare_word op) (tree.Comparison op) (omega arith) (compare_line op) (compare_allowed op) left right rl rr)
comparison_reads scope op _ h (more_parts rl (more_parts rr (more_parts {ts = ts} r rs))) = absurd (not_two (length (printed_each ts)) h)

pub range_reads : (scope : Scope) (ts : Trees) → nat_eq (length (printed_each ts)) 2 ≡ true → EachReads scope ts → Reads scope (Node tree.Range ts)
unfolding printed_of nested_of
range_reads scope _ h no_parts = absurd (false≢true h)
range_reads scope _ h (more_parts r no_parts) = absurd (false≢true h)
range_reads scope _ h (more_parts {t = left} rl (more_parts {t = right} rr no_parts)) =
    low_reads scope tree.Range (More left (More right NoMore)) refl
    (couple true 7 (keyword "to") tree.Range (omega arith)
    (λ depth from xs ys zs a b few first second. reading (x.range_expr {last = Some b} first (reading (x.up_to (token refl few) (λ e. e) second)))) (λ from. refl) left right rl rr)
range_reads scope _ h (more_parts rl (more_parts rr (more_parts {ts = ts} r rs))) = absurd (not_two (length (printed_each ts)) h)

-- a sign before an operand
sign_line : (sign : Sign) (depth from : ℕ) (xs ys : List Lexed) (a : Operand) → suc depth ≤ 200 → at 11 (suc depth) xs ys a
    → at 11 depth (lexed (signed_word sign).kind (signed_word sign).text from ∷ xs) ys (other (node (tree.Unary sign) (a.tree ∷ [])) a.names)
sign_line signed.Minus depth from xs ys a room operand = reading (x.negative (token refl room) operand)
sign_line signed.Plus depth from xs ys a room operand = reading (x.positive (token refl room) operand)

sign_reads : {scope : Scope} (sign : Sign) (t : Tree) → Reads scope t → (flag : Bool)
    → ReadsAt flag 11 (signed_word sign ∷ operand flag 11 (printed_of t)) (1 + operand_before flag 11 (nested_of t)) scope Other (Node (tree.Unary sign) (More t NoMore))
sign_reads {scope} sign t r flag = record {
  reads = λ depth from ys h f.
      let start = past from (signed_word sign) in
      let inside = (operand_reads scope t r flag 11 (omega arith)).reads (suc depth) start ys (omega (arith, h)) f in
      record {
        names = inside.names;
        reads = sign_line sign depth from (placed start (operand flag 11 (printed_of t)) ++ ys) ys (operand_of t (part_of_tree t).written inside.names) (omega (arith, h)) inside.reads;
        clean = inside.clean;
      };
}

pub unary_reads : (scope : Scope) (sign : Sign) (ts : Trees) → nat_eq (length (printed_each ts)) 1 ≡ true → EachReads scope ts → Reads scope (Node (tree.Unary sign) ts)
unfolding printed_of nested_of
unary_reads scope sign _ h no_parts = absurd (false≢true h)
unary_reads scope sign _ h (more_parts {t = t} r no_parts) = low_reads scope (tree.Unary sign) (More t NoMore) refl (sign_reads sign t r)
unary_reads scope sign _ h (more_parts r (more_parts {ts = ts} r' rs)) = absurd (not_one (length (printed_each ts)) h)
