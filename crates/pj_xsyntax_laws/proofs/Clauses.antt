-- Clauses: `if`, and what binds variables.
use Rattle.std.proofs.Common.{◌≡◌, ℕ, suc, ◌+◌, ◌≤◌, List, [], ◌∷◌, ◌++◌, Bool, true, false, max, refl, arith, length}
use Rattle.std.specs.Prelude.{IsTrue, nat_eq}
use Rattle.std.proofs.lemmas.Bool.{false≢true, eqb-true}
use Rattle.pj_ll.specs.declared.grammar.Symbol.{Symbol}
use Rattle.pj_xtokens.specs.Tokens.{Lexed, lexed}
use Rattle.pj_xgrammar.specs.declared.rule.Rule.TheVariants as r
use Rattle.pj_xgrammar.specs.declared.terminal.Behind.TheVariants as b
use Rattle.pj_xgrammar.specs.Notation.{t}
use Rattle.pj_xgrammar.specs.Terminals.{first_behind, behind_of}
use Rattle.pj_xsyntax_laws.specs.Spaced.{Word, placed}
use Rattle.pj_xexpressions.specs.Expressions.{Scope, Written, Other}
use Rattle.pj_xexpressions.specs.Trees as tree
use Rattle.pj_xexpressions.specs.Trees.{Tree, Trees, Node, NoMore, More}
use Rattle.pj_xreadings.specs.Operands.{Operand}
use Rattle.pj_xmeaning.specs.Reach.{All}
use Rattle.pj_xmeaning.specs.Reads as relation
use Rattle.pj_xmeaning.specs.Reads.{Takes, token, if_expr, test_clause, then_clause, else_clause}
use Rattle.pj_xreadings.specs.Nesting.{operand_before, nested_of}
use Rattle.pj_xsyntax_laws.specs.Printed.{operand, enclosed, left, right, printed_of, printed_each, words_of, keyword}
use Rattle.pj_xsyntax_laws.proofs.Follows.{follows}
use Rattle.pj_xsyntax_laws.proofs.Mentions.{clean-append}
use Rattle.pj_xsyntax_laws.proofs.Climbing.{descend}
use Rattle.pj_xsyntax_laws.proofs.Operands.{operand_reads}
use Rattle.pj_xsyntax_laws.proofs.Readings.{Spelling, Reading, ReadsAt, Reads, EachReads, no_parts, more_parts, at, next, past, together}
use Rattle.pj_xsyntax_laws.proofs.Constructs.{low_reads}
use Rattle.pj_xsyntax_laws.proofs.Tails.{max-left, max-right}
use Rattle.pj_xsyntax_laws.proofs.WholeReadings.{reading}

-- a rule that spells an expression behind this word, which nests; the word makes no phrase of one before it
pub record Clause (P : Spelling Operand) (w : Word) : Type 0 where
  pub symbol : Symbol
  pub spells : {depth : ℕ} {xs ys zs : List Lexed} {a : Operand} → Takes All (suc depth) symbol xs ys → relation.Reads All r.ExprSingle (suc depth) ys zs a → P depth xs zs a
  pub takes : {depth from : ℕ} {xs : List Lexed} → depth ≤ 200 → Takes All depth symbol (lexed w.kind w.text from ∷ xs) xs
  pub allowed : (from : ℕ) → IsTrue (follows true (behind_of (lexed w.kind w.text from)))

pub clause_reads : {P : Spelling Operand} {w : Word} {flag : Bool} {ws : List Word} {bound : ℕ} {scope : Scope} {written : Written} {t : Tree} → Clause P w → ReadsAt flag 1 ws bound scope written t
    → (depth from : ℕ) (ys : List Lexed) → depth + (1 + bound) ≤ 200 → IsTrue (follows flag (first_behind b.End ys)) → Reading P depth (placed from (w ∷ ws) ++ ys) ys scope written t
clause_reads {w = w} rule it depth from ys h quiet =
    let within = it.reads (suc depth) (past from w) ys (omega (arith, h)) quiet in
    record { names = within.names; reads = rule.spells (rule.takes (omega (arith, h))) within.reads; clean = within.clean }

-- ---- `if`

behind_then : Clause (relation.Reads All r.ThenClause) (keyword "then")
behind_then = record { symbol = t "then"; spells = λ k a. reading (then_clause k a); takes = λ few. token refl few; allowed = λ from. refl }

behind_else : Clause (relation.Reads All r.ElseClause) (keyword "else")
behind_else = record { symbol = t "else"; spells = λ k a. reading (else_clause k a); takes = λ few. token refl few; allowed = λ from. refl }

-- the test of an `if`
condition_reads : {ws : List Word} {bound : ℕ} {scope : Scope} {written : Written} {t : Tree} → ReadsAt false 0 ws bound scope written t → (depth from : ℕ) (ys : List Lexed) → depth + (1 + bound) ≤ 200
    → Reading (relation.Reads All r.TestClause) depth (placed from (enclosed ws) ++ ys) ys scope written t
condition_reads {ws} {scope = scope} {written = written} {t = t} it depth from ys h =
    let start = past from left in
    let within = it.reads (suc depth) start (lexed right.kind right.text (next start ws) ∷ ys) (omega (arith, h)) refl in
    let room : suc depth ≤ 200 = omega (arith, h) in
    let few : depth ≤ 200 = omega (arith, h) in
    together (λ xs. Reading (relation.Reads All r.TestClause) depth (lexed left.kind left.text from ∷ xs) ys scope written t) start ws (right ∷ []) ys
    (record { names = within.names; reads = reading (test_clause (token refl room) within.reads (token refl few)); clean = within.clean })

choice_reads : {scope : Scope} (test chosen other : Tree) → Reads scope test → Reads scope chosen → Reads scope other → (flag : Bool)
    → ReadsAt flag 1 (keyword "if" ∷ (enclosed (words_of false test) ++ keyword "then" ∷ (operand true 1 (printed_of chosen) ++ keyword "else" ∷ operand flag 1 (printed_of other))))
    (max (1 + (nested_of test).nesting false) (max (1 + operand_before true 1 (nested_of chosen)) (1 + operand_before flag 1 (nested_of other))))
    scope Other (Node tree.If (More test (More chosen (More other NoMore))))
choice_reads {scope} test chosen other it_tests it_chooses it_others flag = record {
  reads = λ depth from ys h quiet.
      let ts = enclosed (words_of false test) in
      let cs = keyword "then" ∷ operand true 1 (printed_of chosen) in
      let os = keyword "else" ∷ operand flag 1 (printed_of other) in
      let a = 1 + (nested_of test).nesting false in
      let c = 1 + operand_before true 1 (nested_of chosen) in
      let d = 1 + operand_before flag 1 (nested_of other) in
      let j = max-right depth a (max c d) 200 h in
      let first = past from (keyword "if") in
      let second = next first ts in
      let third = next second cs in
      let tested = condition_reads (descend (printed_of test).level 0 (omega arith) (it_tests.bare false)) depth first (placed second cs ++ (placed third os ++ ys)) (max-left depth a (max c d) 200 h) in
      let yes = clause_reads behind_then (operand_reads scope chosen it_chooses true 1 (omega arith)) depth second (placed third os ++ ys) (max-left depth c d 200 j) refl in
      let no = clause_reads behind_else (operand_reads scope other it_others flag 1 (omega arith)) depth third ys (max-right depth c d 200 j) quiet in
      let few : depth ≤ 200 = omega (arith, h) in
      let R = λ (xs : List Lexed). Reading (at 1) depth (lexed (keyword "if").kind (keyword "if").text from ∷ xs) ys scope Other (Node tree.If (More test (More chosen (More other NoMore)))) in
      together R first ts (cs ++ os) ys (together (λ xs. R (placed first ts ++ xs)) second cs os ys (record {
        names = tested.names ++ yes.names ++ no.names;
        reads = reading (if_expr (token refl few) tested.reads yes.reads no.reads);
        clean = clean-append scope (tested.names ++ yes.names) no.names (clean-append scope tested.names yes.names tested.clean yes.clean) no.clean;
      }));
}

not_three : (n : ℕ) → nat_eq (suc (suc (suc (suc n)))) 3 ≡ true → ⊥
not_three n h = let e = eqb-true (suc (suc (suc (suc n)))) 3 h in omega (arith, e)

pub if_reads : (scope : Scope) (ts : Trees) → nat_eq (length (printed_each ts)) 3 ≡ true → EachReads scope ts → Reads scope (Node tree.If ts)
unfolding printed_of nested_of
if_reads scope _ h no_parts = absurd (false≢true h)
if_reads scope _ h (more_parts r no_parts) = absurd (false≢true h)
if_reads scope _ h (more_parts r (more_parts r' no_parts)) = absurd (false≢true h)
if_reads scope _ h (more_parts {t = test} rt (more_parts {t = chosen} rc (more_parts {t = other} ro no_parts))) =
    low_reads scope tree.If (More test (More chosen (More other NoMore))) refl (choice_reads test chosen other rt rc ro)
if_reads scope _ h (more_parts r (more_parts r' (more_parts r'' (more_parts {ts = ts} r''' rs)))) = absurd (not_three (length (printed_each ts)) h)
