-- Laws of what expressions denote.
use Rattle.std.specs.Prelude.{◌≡◌, ℕ, List, [], ◌∷◌, Option, Result, Ok}
use Rattle.std.proofs.Common.{Box, Vec, Global}
use Rattle.pj_names.specs.declared.answer.Answer.{Answer}
use Rattle.pj_names.specs.ClassName.{Name}
use Rattle.pj_names.specs.Asking.{value_of}
use Rattle.pj_names.specs.Meaning as names
use Rattle.pj_tree.specs.declared.node.Node.{Node}
use Rattle.pj_xexpressions.specs.declared.expr.Expr.{Expr}
use Rattle.pj_xexpressions.specs.declared.expr.Expr.TheVariants as expr
use Rattle.pj_xvalue.specs.declared.fault.XCode.{XCode}
use Rattle.pj_xexpressions.specs.declared.function.Function.TheVariants as f
use Rattle.pj_xexpressions.specs.declared.pmd_function.PmdFunction.{PmdFunction}
use Rattle.pj_xvalue.specs.Items.{ItemValue}
use Rattle.pj_xaxes.specs.Order.{ordered}
use Rattle.pj_xvalue.specs.Arguments.{and_then}
use Rattle.pj_xsteps.specs.Means.{Means}
use Rattle.pj_xsteps.specs.Operands.{only_nodes}
use Rattle.pj_xsteps.specs.Context.{Around, Context, Variables}
use Rattle.pj_xsteps.specs.Denotes.{denotes}

-- what the functions of PMD reply
abbrev pub Reply : Type 0
Reply = PmdFunction → Option Node → List (List ItemValue) → Means (List ItemValue)

-- what an expression comes to over a source of answers for classes: a sequence or a code, with the set of the classes that were asked, or a class without an answer
abbrev pub Outcome : Type 0
Outcome = names.Outcome (Result (List ItemValue) XCode)

-- An expression denotes one thing: in one context, with the same variables and over one source, it comes to one outcome at most.
abbrev pub DenotesOne : Type 0
DenotesOne = (a : Around) (reply : Reply) (e : Expr) (c : Context) (v : Variables) (source : names.Source) (first second : Outcome)
    → names.Means source (denotes a reply e c v) first → names.Means source (denotes a reply e c v) second → first ≡ second

-- What an expression comes to over one source, it comes to over every source that answers alike the classes that were asked.
abbrev pub DenotesByAnswers : Type 0
DenotesByAnswers = (a : Around) (reply : Reply) (e : Expr) (c : Context) (v : Variables) (first second : names.Source) → names.Agrees first second (denotes a reply e c v)

-- a predicate that is a call of `true` keeps all
abbrev pub FilteredByTrue : Type 0
FilteredByTrue = (a : Around) (reply : Reply) (primary : Box Expr Global) (predicates arguments : Vec Expr Global) (c : Context) (v : Variables)
    → predicates.items ≡ expr.Call f.True arguments ∷ [] → arguments.items ≡ [] → denotes a reply (expr.Filter primary predicates) c v ≡ denotes a reply primary.value c v

-- what an operand of `|` comes to by itself: its nodes in document order, each once, or a code
abbrev pub in_order : Result (List ItemValue) XCode → Result (List ItemValue) XCode
in_order result = and_then result (λ value. and_then (only_nodes value) (λ nodes. Ok (ordered nodes)))

-- an expression united with itself, in each world
abbrev pub UnitedWithItself : Type 0
UnitedWithItself = (a : Around) (reply : Reply) (operand : Expr) (parts : Vec Expr Global) (c : Context) (v : Variables) (depth : ℕ) (world : Name → Answer)
    → parts.items ≡ operand ∷ operand ∷ [] → value_of depth world (denotes a reply (expr.Union parts) c v) ≡ in_order (value_of depth world (denotes a reply operand c v))
