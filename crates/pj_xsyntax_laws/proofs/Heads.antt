-- Chains: a first operand, and operators with operands behind it.
use Rattle.std.proofs.Common.{ℕ, List, ◌∷◌, ◌++◌, Bool, map, max}
use Rattle.pj_xtokens.specs.Tokens.{Lexed}
use Rattle.pj_xsyntax_laws.specs.Spaced.{placed}
use Rattle.pj_xexpressions.specs.Expressions.{Scope, Written, Other}
use Rattle.pj_xexpressions.specs.Trees.{Tree, Trees, NoMore, More}
use Rattle.pj_xreadings.specs.Mentions.{Mention}
use Rattle.pj_xreadings.specs.Shapes.{part_of_tree}
use Rattle.pj_xreadings.specs.Nesting.{operand_before, nested_of, nested_each, chain_before}
use Rattle.pj_xsyntax_laws.specs.Printed.{operand, chain, printed_of, printed_each}
use Rattle.pj_xsyntax_laws.proofs.Mentions.{Clean}
use Rattle.pj_xsyntax_laws.proofs.Readings.{Spelling, Reading, ReadsAt, Reads, EachReads, operand_of, at, next, together}
use Rattle.pj_xsyntax_laws.proofs.Operands.{operand_reads}
use Rattle.pj_xsyntax_laws.proofs.Tails.{Tail, Paired, paired_none, paired_more, Makes, max-left, max-right, tail_reads}

-- what an operand and such operators behind it are together
abbrev pub Joins : {mark : Bool} {least : ℕ} {Op V : Type 0} {P : Spelling V} → Tail mark least Op V P → Scope → ℕ → Tree → List Op → Trees → Tree → Type 0
Joins {least = least} {V = V} {P = P} T scope level first os ts made =
    (depth : ℕ) (xs ys zs : List Lexed) (written : Written) (names : List Mention) (v : V) → Clean scope names → Makes scope T.none T.more os ts v
    → at least depth xs ys (operand_of first written names) → P depth ys zs v → Reading (at level) depth xs zs scope Other made

pub head_reads : {scope : Scope} {mark : Bool} {least : ℕ} {Op V : Type 0} {P : Spelling V} {level : ℕ} {first t made : Tree} {o : Op} {os : List Op} {ts : Trees} (T : Tail mark least Op V P)
    → Joins T scope level first (o ∷ os) (More t ts) made → Reads scope first → Reads scope t → EachReads scope ts → Paired os ts → (flag : Bool)
    → ReadsAt flag level (operand mark least (printed_of first) ++ T.word o ∷ chain flag mark least (map T.word os) (printed_each (More t ts)))
    (max (operand_before mark least (nested_of first)) (chain_before flag mark least (nested_each (More t ts)))) scope Other made
head_reads {scope} {mark} {least} {level = level} {first = first} {t = t} {made = made} {o = o} {os = os} {ts = ts} T joins rf r rs ps flag = record {
  reads = λ depth from ys h f.
      let ws = operand mark least (printed_of first) in
      let us = T.word o ∷ chain flag mark least (map T.word os) (printed_each (More t ts)) in
      let a = operand_before mark least (nested_of first) in
      let c = chain_before flag mark least (nested_each (More t ts)) in
      let zs = placed (next from ws) us ++ ys in
      let one = (operand_reads scope first rf mark least T.low).reads depth from zs (max-left depth a c 200 h) (T.allowed o (next from ws)) in
      let rest = tail_reads T o os t ts r rs ps flag depth (next from ws) ys (max-right depth a c 200 h) f in
      together (λ xs. Reading (at level) depth xs ys scope Other made) from ws us ys
      (joins depth (placed from ws ++ zs) zs ys (part_of_tree first).written one.names rest.value one.clean rest.makes one.reads rest.reads);
}

-- one operator between all operands: as often as there are parts behind the first one
pub printed-paired : (ts : Trees) → Paired (printed_each ts) ts
unfolding printed_of
printed-paired NoMore = paired_none
printed-paired (More t ts) = paired_more (printed-paired ts)
