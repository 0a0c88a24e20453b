-- Operands behind operators: what stands behind the first operand of a chain.
use Rattle.std.proofs.Common.{ℕ, ◌+◌, ◌≤◌, List, [], ◌∷◌, ◌++◌, Bool, map, max, arith}
use Rattle.std.specs.Prelude.{IsTrue}
use Rattle.pj_xtokens.specs.Tokens.{Lexed, lexed}
use Rattle.pj_xtokens.specs.First.{first_from}
use Rattle.pj_xgrammar.specs.declared.terminal.Behind.TheVariants as b
use Rattle.pj_xgrammar.specs.Terminals.{first_behind, behind_of}
use Rattle.pj_xsyntax_laws.specs.Spaced.{Word, placed}
use Rattle.pj_xexpressions.specs.Expressions.{Scope}
use Rattle.pj_xexpressions.specs.Trees.{Tree, Trees, NoMore, More}
use Rattle.pj_xreadings.specs.Mentions.{Mention}
use Rattle.pj_xreadings.specs.Operands.{Operand}
use Rattle.pj_xreadings.specs.Shapes.{part_of_tree}
use Rattle.pj_xreadings.specs.Nesting.{operand_before, nested_of, nested_each, chain_before}
use Rattle.pj_xsyntax_laws.specs.Printed.{operand, chain, printed_of, printed_each}
use Rattle.pj_xsyntax_laws.proofs.Follows.{follows}
use Rattle.pj_xsyntax_laws.proofs.Mentions.{Clean}
use Rattle.pj_xsyntax_laws.proofs.Readings.{Spelling, Reading, Reads, EachReads, no_parts, more_parts, operand_of, at, past, next, together}
use Rattle.pj_xsyntax_laws.proofs.Operands.{operand_reads}

-- a rule of operators, of which each has an operand of this level behind it, and the values that they make; the number is the offset of the operand
pub record Tail (mark : Bool) (least : ℕ) (Op V : Type 0) (P : Spelling V) : Type 0 where
  pub word : Op → Word
  pub none : V
  pub more : ℕ → Op → Operand → V → V
  pub ends : (depth : ℕ) (xs : List Lexed) → P depth xs xs none
  pub goes_on : (depth from : ℕ) (xs ys zs : List Lexed) (o : Op) (a : Operand) (v : V) → depth ≤ 200 → at least depth xs ys a → P depth ys zs v
      → P depth (lexed (word o).kind (word o).text from ∷ xs) zs (more (first_from xs) o a v)
  pub allowed : (o : Op) (from : ℕ) → IsTrue (follows mark (behind_of (lexed (word o).kind (word o).text from)))
  pub low : least ≤ 15

-- as many operators as operands
pub data Paired {Op : Type 0} : List Op → Trees → Type 0 where
  paired_none : Paired [] NoMore
  paired_more : {o : Op} {os : List Op} {t : Tree} {ts : Trees} → Paired os ts → Paired (o ∷ os) (More t ts)

-- the value of operators with these operands, and what they name is there
pub data Makes (scope : Scope) {Op V : Type 0} (none : V) (more : ℕ → Op → Operand → V → V) : List Op → Trees → V → Type 0 where
  makes_none : Makes scope none more [] NoMore none
  makes_more : {o : Op} {os : List Op} {t : Tree} {ts : Trees} {names : List Mention} {v : V} (from : ℕ) → Clean scope names → Makes scope none more os ts v
      → Makes scope none more (o ∷ os) (More t ts) (more from o (operand_of t (part_of_tree t).written names) v)

-- from tokens up to those behind stand these operators with their operands
pub record Rest {mark : Bool} {least : ℕ} {Op V : Type 0} {P : Spelling V} (T : Tail mark least Op V P) (scope : Scope) (depth : ℕ) (xs ys : List Lexed) (os : List Op) (ts : Trees) : Type 0 where
  pub value : V
  pub reads : P depth xs ys value
  pub makes : Makes scope T.none T.more os ts value

pub max-left : (n a c k : ℕ) → n + max a c ≤ k → n + a ≤ k
max-left n a c k h = omega (arith, h)

pub max-right : (n a c k : ℕ) → n + max a c ≤ k → n + c ≤ k
max-right n a c k h = omega (arith, h)

module _ {scope : Scope} {mark : Bool} {least : ℕ} {Op V : Type 0} {P : Spelling V} (T : Tail mark least Op V P) where
  -- one operator with its operand, and what stands behind them
  one_more : {depth : ℕ} {xs ys zs : List Lexed} {os : List Op} {t : Tree} {ts : Trees} (from : ℕ) (o : Op) → depth ≤ 200 → Reading (at least) depth xs ys scope (part_of_tree t).written t → Rest T scope depth ys zs os ts
      → Rest T scope depth (lexed (T.word o).kind (T.word o).text from ∷ xs) zs (o ∷ os) (More t ts)
  one_more {depth} {xs} {ys} {zs} {t = t} from o h first rest =
      let a = operand_of t (part_of_tree t).written first.names in
      record {
        value = T.more (first_from xs) o a rest.value;
        reads = T.goes_on depth from xs ys zs o a rest.value h first.reads rest.reads;
        makes = makes_more (first_from xs) first.clean rest.makes;
      }

  -- an operator with the operands behind it
  pub tail_reads : (o : Op) (os : List Op) (t : Tree) (ts : Trees) → Reads scope t → EachReads scope ts → Paired os ts → (flag : Bool) (depth from : ℕ) (ys : List Lexed)
      → depth + chain_before flag mark least (nested_each (More t ts)) ≤ 200 → IsTrue (follows flag (first_behind b.End ys))
      → Rest T scope depth (placed from (T.word o ∷ chain flag mark least (map T.word os) (printed_each (More t ts))) ++ ys) ys (o ∷ os) (More t ts)
  unfolding printed_of nested_of
  tail_reads o _ t _ r no_parts paired_none flag depth from ys h f =
      one_more from o (omega (arith, h)) ((operand_reads scope t r flag least T.low).reads depth (past from (T.word o)) ys h f) (record { value = T.none; reads = T.ends depth ys; makes = makes_none })
  tail_reads o _ t _ r (more_parts {t = t'} {ts = ts'} r' rs) (paired_more {o = o'} {os = os'} ps) flag depth from ys h f =
      let ws = operand mark least (printed_of t) in
      let us = T.word o' ∷ chain flag mark least (map T.word os') (printed_each (More t' ts')) in
      let a = operand_before mark least (nested_of t) in
      let c = chain_before flag mark least (nested_each (More t' ts')) in
      let start = past from (T.word o) in
      let first = (operand_reads scope t r mark least T.low).reads depth start (placed (next start ws) us ++ ys) (let i = max-left depth a c 200 h in i) (T.allowed o' (next start ws)) in
      let rest = tail_reads o' os' t' ts' r' rs ps flag depth (next start ws) ys (max-right depth a c 200 h) f in
      together (λ xs. Rest T scope depth (lexed (T.word o).kind (T.word o).text from ∷ xs) ys (o ∷ o' ∷ os') (More t (More t' ts'))) start ws us ys (one_more from o (omega (arith, h)) first rest)
