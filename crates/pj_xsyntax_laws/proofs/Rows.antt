-- The arguments of a call.
use Rattle.std.proofs.Common.{ℕ, ◌+◌, ◌≤◌, List, ◌∷◌, ◌++◌, false, map, refl, arith}
use Rattle.std.specs.Prelude.{IsTrue}
use Rattle.pj_xtokens.specs.First.{first_from}
use Rattle.pj_xtokens.specs.Tokens.{Lexed}
use Rattle.pj_xgrammar.specs.declared.rule.Rule.TheVariants as r
use Rattle.pj_xgrammar.specs.declared.terminal.Behind.TheVariants as b
use Rattle.pj_xgrammar.specs.Terminals.{first_behind}
use Rattle.pj_xsyntax_laws.specs.Spaced.{placed}
use Rattle.pj_xexpressions.specs.Expressions.{Scope}
use Rattle.pj_xexpressions.specs.Trees.{Tree, Trees, More}
use Rattle.pj_xreadings.specs.Operands.{Operand, Arguments, Closed, Next}
use Rattle.pj_xmeaning.specs.Reach.{All}
use Rattle.pj_xmeaning.specs.Reads as relation
use Rattle.pj_xmeaning.specs.Reads.{token, some_arguments, more_arguments, arguments_end}
use Rattle.pj_xreadings.specs.Nesting.{operand_before, nested_of, nested_each, chain_before}
use Rattle.pj_xreadings.specs.Shapes.{part_of_tree}
use Rattle.pj_xsyntax_laws.specs.Printed.{Printed, operand, chain, joined, printed_of, printed_each, comma}
use Rattle.pj_xsyntax_laws.proofs.Follows.{follows}
use Rattle.pj_xsyntax_laws.proofs.Operands.{operand_reads}
use Rattle.pj_xsyntax_laws.proofs.Readings.{Reads, EachReads, no_parts, more_parts, list_of, operand_of, next, past, together}
use Rattle.pj_xsyntax_laws.proofs.Roles.{ArgumentNames}
use Rattle.pj_xsyntax_laws.proofs.Roles as each
use Rattle.pj_xsyntax_laws.proofs.Tails.{max-left, max-right}
use Rattle.pj_xsyntax_laws.proofs.WholeReadings.{reading}

-- from tokens up to those behind stand these expressions as arguments
pub record Called (depth : ℕ) (xs ys : List Lexed) (scope : Scope) (ts : List Tree) : Type 0 where
  pub arguments : Arguments
  pub reads : relation.Reads All r.Arguments depth xs ys arguments
  pub names : ArgumentNames scope ts arguments

-- an argument, and those behind it
record Row (depth : ℕ) (xs zs : List Lexed) (scope : Scope) (ts : List Tree) : Type 0 where
  ys : List Lexed
  first : Operand
  more : Arguments
  first_reads : relation.Reads All r.ExprSingle depth xs ys first
  more_reads : relation.Reads All r.ArgumentsTail depth ys zs more
  names : ArgumentNames scope ts (Next (first_from xs) first more)

row_reads : {scope : Scope} (t : Tree) (ts : Trees) → Reads scope t → EachReads scope ts → (depth from : ℕ) (ys : List Lexed) → depth + chain_before false false 1 (nested_each (More t ts)) ≤ 200
    → IsTrue (follows false (first_behind b.End ys)) → Row depth (placed from (joined false false 1 comma (printed_each (More t ts))) ++ ys) ys scope (t ∷ list_of ts)
unfolding printed_of nested_of
row_reads {scope} t _ it no_parts depth from ys h quiet =
    let first = (operand_reads scope t it false 1 (omega arith)).reads depth from ys h quiet in
    record {
      ys = ys;
      first = operand_of t (part_of_tree t).written first.names;
      more = Closed;
      first_reads = first.reads;
      more_reads = reading arguments_end;
      names = each.more_arguments first.clean each.no_arguments;
    }
row_reads {scope} t _ it (more_parts {t = u} {ts = us} it' its) depth from ys h quiet =
    let ws = operand false 1 (printed_of t) in
    let others = chain false false 1 (map (λ (part : Printed). comma) (printed_each us)) (printed_each (More u us)) in
    let a = operand_before false 1 (nested_of t) in
    let c = chain_before false false 1 (nested_each (More u us)) in
    let behind = placed (next from ws) (comma ∷ others) ++ ys in
    let first = (operand_reads scope t it false 1 (omega arith)).reads depth from behind (max-left depth a c 200 h) refl in
    let rest = row_reads u us it' its depth (past (next from ws) comma) ys (max-right depth a c 200 h) quiet in
    let few : depth ≤ 200 = omega (arith, h) in
    together (λ xs. Row depth xs ys scope (t ∷ u ∷ list_of us)) from ws (comma ∷ others) ys (record {
      ys = behind;
      first = operand_of t (part_of_tree t).written first.names;
      more = Next (first_from (placed (past (next from ws) comma) others ++ ys)) rest.first rest.more;
      first_reads = first.reads;
      more_reads = reading (more_arguments (token refl few) rest.first_reads rest.more_reads);
      names = each.more_arguments first.clean rest.names;
    })

-- the arguments of a call, of which there may be none
pub arguments_read : {scope : Scope} (ts : Trees) → EachReads scope ts → (depth from : ℕ) (ys : List Lexed) → depth + chain_before false false 1 (nested_each ts) ≤ 200
    → IsTrue (follows false (first_behind b.End ys)) → Called depth (placed from (joined false false 1 comma (printed_each ts)) ++ ys) ys scope (list_of ts)
unfolding printed_of nested_of
arguments_read _ no_parts depth from ys h quiet = record { arguments = Closed; reads = reading relation.no_arguments; names = each.no_arguments }
arguments_read _ (more_parts {t = t} {ts = ts} it its) depth from ys h quiet =
    let row = row_reads t ts it its depth from ys h quiet in
    record {
      arguments = Next (first_from (placed from (joined false false 1 comma (printed_each (More t ts))) ++ ys)) row.first row.more;
      reads = reading (some_arguments row.first_reads row.more_reads);
      names = row.names;
    }
