-- Primary expressions with their predicates; what is in parentheses is one.
use Rattle.std.proofs.Common.{ℕ, suc, ◌+◌, ◌≤◌, List, [], ◌∷◌, ◌++◌, false, refl, ap, arith}
use Rattle.std.specs.Prelude.{IsTrue}
use Rattle.pj_xtokens.specs.Tokens.{Lexed, lexed}
use Rattle.pj_xgrammar.specs.declared.rule.Rule.TheVariants as r
use Rattle.pj_xgrammar.specs.declared.terminal.Behind.TheVariants as b
use Rattle.pj_xgrammar.specs.Terminals.{first_behind}
use Rattle.pj_xsyntax_laws.specs.Spaced.{Word, placed}
use Rattle.pj_xexpressions.specs.Expressions.{Scope, Written, Other}
use Rattle.pj_xexpressions.specs.Trees as tree
use Rattle.pj_xexpressions.specs.Trees.{Tree, node}
use Rattle.pj_xreadings.specs.Steps.{filtered}
use Rattle.pj_xreadings.specs.Mentions.{Mention}
use Rattle.pj_xreadings.specs.Operands as value
use Rattle.pj_xreadings.specs.Operands.{Operand, names_of}
use Rattle.pj_xmeaning.specs.Reach.{All}
use Rattle.pj_xmeaning.specs.Reads as relation
use Rattle.pj_xmeaning.specs.Reads.{token, primary, parenthesized}
use Rattle.pj_xsyntax_laws.specs.Printed.{left, right, enclosed}
use Rattle.pj_xsyntax_laws.proofs.Follows.{no_phrase}
use Rattle.pj_xsyntax_laws.proofs.Mentions.{Clean, clean-append}
use Rattle.pj_xsyntax_laws.proofs.Readings.{Reading, ReadsAt, Primary, AllNames, no_names, more_names, all-trees, all-clean, written_with, operand_of, at, next, past, as_reading, together}
use Rattle.pj_xsyntax_laws.proofs.WholeReadings.{reading}

-- an expression with its predicates, if there are any
pub with_predicates : {depth : ℕ} {xs ys : List Lexed} {scope : Scope} {ts : List Tree} {os : List Operand} (t : Tree) (written : Written) (names : List Mention)
    → relation.Reads All r.StepExpr depth xs ys (value.filtered (operand_of t written names) os) → Clean scope names → AllNames scope ts os → Reading (at 15) depth xs ys scope (written_with written ts) (filtered t ts)
with_predicates t written names reads clean no_names = record { names = names; reads = reads; clean = clean }
with_predicates {scope = scope} t written names reads clean (more_names {t = first} {names = own} {os = os} n ns) =
    as_reading (names ++ (own ++ names_of os)) reads (ap (λ l. node tree.Filter (t ∷ first ∷ l)) (all-trees ns)) (clean-append scope names (own ++ names_of os) clean (clean-append scope own (names_of os) n (all-clean ns)))

-- what the grammar's rule of primary expressions spells, before what makes no phrase of its last word
pub primary_of : {ws : List Word} {bound : ℕ} {scope : Scope} {written : Written} {t : Tree}
    → ((depth from : ℕ) (ys : List Lexed) → depth + bound ≤ 200 → IsTrue (no_phrase (first_behind b.End ys)) → Reading (relation.Reads All r.PrimaryExpr) depth (placed from ws ++ ys) ys scope written t)
    → Primary ws bound scope written t
primary_of {written = written} {t = t} f = record {
  reads = λ depth from ys zs ts h quiet listing.
      let it = f depth from ys h quiet in
      with_predicates t written it.names (reading (primary it.reads listing.reads)) it.clean listing.each;
}

pub enclosed_primary : {ws : List Word} {bound : ℕ} {scope : Scope} {written : Written} {t : Tree} → ReadsAt false 0 ws bound scope written t → Primary (enclosed ws) (1 + bound) scope Other t
enclosed_primary {ws} {bound} {scope} {written} {t} it = primary_of (λ depth from ys h quiet.
    let start = past from left in
    let within = it.reads (suc depth) start (lexed right.kind right.text (next start ws) ∷ ys) (omega (arith, h)) refl in
    let room : suc depth ≤ 200 = omega (arith, h) in
    let few : depth ≤ 200 = omega (arith, h) in
    together (λ xs. Reading (relation.Reads All r.PrimaryExpr) depth (lexed left.kind left.text from ∷ xs) ys scope Other t) start ws (right ∷ []) ys (record {
      names = within.names;
      reads = reading (parenthesized {a = operand_of t written within.names} (token refl room) (reading (relation.inside within.reads)) (token refl few));
      clean = within.clean;
    }))
