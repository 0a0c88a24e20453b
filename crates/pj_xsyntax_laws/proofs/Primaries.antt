-- Primary expressions, and what has predicates.
use Rattle.std.proofs.Common.{◌≡◌, ℕ, suc, ◌≤◌, List, [], ◌∷◌, ◌++◌, Bool, true, false, cond, Option, ℤ, refl, ap, subst, arith}
use Rattle.std.specs.Prelude.{IsTrue, nat_lt}
use Rattle.std.specs.Str.{chars}
use Rattle.std.proofs.lemmas.Bool.{false≢true, ltb-false, le-leb}
use Rattle.pj_xtokens.specs.Tokens.{Lexed}
use Rattle.pj_xtokens.specs.declared.token.Sign.TheVariants as s
use Rattle.pj_xtokens.specs.declared.token.TokenKind.TheVariants as kind
use Rattle.pj_xgrammar.specs.declared.rule.Rule.TheVariants as r
use Rattle.pj_xgrammar.specs.declared.terminal.Behind.TheVariants as b
use Rattle.pj_xgrammar.specs.Terminals.{first_behind, begins_step}
use Rattle.pj_xsyntax_laws.specs.Spaced.{Word, word, literal, placed}
use Rattle.pj_xexpressions.specs.Expressions.{Scope, Written, Literal, Number, Name, Other}
use Rattle.pj_xexpressions.specs.Trees as tree
use Rattle.pj_xexpressions.specs.Trees.{Tree, Trees, Node, NoMore, More}
use Rattle.pj_xparse.specs.NameFaults.{is_bound}
use Rattle.pj_xreadings.specs.Mentions as mention
use Rattle.pj_xmeaning.specs.Reach.{All}
use Rattle.pj_xmeaning.specs.Reads as relation
use Rattle.pj_xmeaning.specs.Reads.{token, variable_expr, integer_expr, string_expr, context_item, parenthesized, empty}
use Rattle.pj_xreadings.specs.Shapes.{part_of_tree}
use Rattle.pj_xreadings.specs.Spelled.{IsText, IsInteger}
use Rattle.pj_xreadings.specs.Nesting as nesting
use Rattle.pj_xreadings.specs.Nesting.{operand_before, nested_of, nested_each}
use Rattle.pj_xsyntax_laws.specs.Printed.{operand, enclosed, integer_text, printed_of, printed_each, predicates, dollar, name, sign}
use Rattle.pj_xsyntax_laws.proofs.Follows.{follows-phrase}
use Rattle.pj_xsyntax_laws.proofs.Mentions.{clean-nil, clean-variable}
use Rattle.pj_xsyntax_laws.proofs.Literals.{integer_again, string_again}
use Rattle.pj_xsyntax_laws.proofs.Names.{variable_named}
use Rattle.pj_xsyntax_laws.proofs.Enclosing.{with_predicates, primary_of}
use Rattle.pj_xsyntax_laws.proofs.Operands.{bare_primary, primary_reads}
use Rattle.pj_xsyntax_laws.proofs.Steps.{predicates_read, predicates_follow}
use Rattle.pj_xsyntax_laws.proofs.Readings.{Reading, ReadsAt, Primary, Reads, EachReads, list_of, list_is, at, past, next, as_reading, together}
use Rattle.pj_xsyntax_laws.proofs.Tails.{max-left, max-right}
use Rattle.pj_xsyntax_laws.proofs.WholeReadings.{reading}

-- ---- filters

pub operand_begins : (scope : Scope) (t : Tree) → Reads scope t → (least : ℕ) → 15 ≤ least → (flag : Bool) (from : ℕ) (ys : List Lexed)
    → IsTrue (begins_step (first_behind b.End (placed from (operand flag least (printed_of t)) ++ ys)))
operand_begins scope t it least h flag from ys = begins_case (nat_lt (printed_of t).level least) refl
  where
    begins_case : (low : Bool) → nat_lt (printed_of t).level least ≡ low
        → IsTrue (begins_step (first_behind b.End (placed from (cond low (enclosed ((printed_of t).words false)) ((printed_of t).words flag)) ++ ys)))
    begins_case true e = refl
    begins_case false e = it.begins (let least_below = ltb-false (printed_of t).level least e in le-leb 15 (printed_of t).level (omega (arith, h, least_below))) flag from ys

pub filter_reads : (scope : Scope) (first t : Tree) (ts : Trees) → Reads scope first → EachReads scope (More t ts) → Reads scope (Node tree.Filter (More first (More t ts)))
unfolding printed_of nested_of part_of_tree
filter_reads scope first t ts it its = record {
  bare = λ flag. record {
    reads = λ depth from ys h quiet.
        let ws = operand false 16 (printed_of first) in
        let us = predicates (printed_each (More t ts)) in
        let a = operand_before false 16 (nested_of first) in
        let c = nesting.enclosed (nested_each (More t ts)) in
        let listing = predicates_read (More t ts) its depth (next from ws) ys (max-right depth a c 200 h) in
        let allowed = predicates_follow (More t ts) (next from ws) ys (follows-phrase flag (first_behind b.End ys) quiet) in
        together (λ xs. Reading (at 15) depth xs ys scope Other (Node tree.Filter (More first (More t ts)))) from ws us ys
        (subst (λ l. Reading (at 15) depth (placed from ws ++ (placed (next from ws) us ++ ys)) ys scope Other (Node tree.Filter (More first (More t l)))) (list_is ts)
        ((primary_reads scope first it).reads depth from (placed (next from ws) us ++ ys) ys (t ∷ list_of ts) (max-left depth a c 200 h) allowed listing));
  };
  begins = λ h flag from ys.
      let ws = operand false 16 (printed_of first) in
      let us = predicates (printed_each (More t ts)) in
      together (λ xs. IsTrue (begins_step (first_behind b.End xs))) from ws us ys (operand_begins scope first it 16 (omega arith) false from (placed (next from ws) us ++ ys));
  primary = λ h. absurd (false≢true h);
}

-- ---- literals and variables

-- a primary expression alone
pub primary_alone : {ws : List Word} {bound : ℕ} {scope : Scope} {written : Written} {t : Tree} (flag : Bool) → Primary ws bound scope written t → ReadsAt flag 16 ws bound scope written t
primary_alone flag it = record { reads = (bare_primary flag it).reads }

variable_primary : (scope : Scope) (bytes : List ℕ) → IsText bytes → IsTrue (is_bound bytes scope) → Primary (dollar ∷ name bytes ∷ []) 0 scope (Name bytes) (Node (tree.Variable bytes) NoMore)
variable_primary scope bytes is_text bound = primary_of (λ depth from ys h quiet.
    let few : depth ≤ 200 = omega (arith, h) in
    record {
      names = mention.Variable bytes from ∷ [];
      reads = reading (variable_expr (token refl few) (λ e. e) (variable_named bytes is_text depth (past from dollar) ys few quiet));
      clean = clean-variable scope bytes from bound;
    })

pub variable_reads : (scope : Scope) (bytes : List ℕ) → IsText bytes → IsTrue (is_bound bytes scope) → Reads scope (Node (tree.Variable bytes) NoMore)
unfolding printed_of nested_of part_of_tree
variable_reads scope bytes is_text bound = record {
  bare = λ flag. primary_alone flag (variable_primary scope bytes is_text bound);
  begins = λ h flag from ys. refl;
  primary = λ h. variable_primary scope bytes is_text bound;
}

integer_primary : (scope : Scope) (value : Option ℤ) → IsInteger value → Primary (word kind.Integer (integer_text value) ∷ []) 0 scope Number (Node (tree.Integer value) NoMore)
integer_primary scope value spelled = primary_of (λ depth from ys h quiet.
    let few : depth ≤ 200 = omega (arith, h) in
    as_reading [] (reading (integer_expr (token refl few))) (ap (λ x. Node (tree.Integer x) NoMore) (integer_again value spelled)) (clean-nil scope))

pub integer_reads : (scope : Scope) (value : Option ℤ) → IsInteger value → Reads scope (Node (tree.Integer value) NoMore)
unfolding printed_of nested_of part_of_tree
integer_reads scope value spelled = record {
  bare = λ flag. primary_alone flag (integer_primary scope value spelled);
  begins = λ h flag from ys. refl;
  primary = λ h. integer_primary scope value spelled;
}

string_primary : (scope : Scope) (text : List ℕ) → IsText text → Primary (word kind.String (literal (chars text)) ∷ []) 0 scope (Literal text) (Node (tree.String text) NoMore)
string_primary scope text spelled = primary_of (λ depth from ys h quiet.
    let few : depth ≤ 200 = omega (arith, h) in
    subst (λ (x : List ℕ). Reading (relation.Reads All r.PrimaryExpr) depth (placed from (word kind.String (literal (chars text)) ∷ []) ++ ys) ys scope (Literal x) (Node (tree.String x) NoMore)) (string_again text spelled)
    (record { names = []; reads = reading (string_expr (token refl few)); clean = clean-nil scope }))

pub string_reads : (scope : Scope) (text : List ℕ) → IsText text → Reads scope (Node (tree.String text) NoMore)
unfolding printed_of nested_of part_of_tree
string_reads scope text spelled = record {
  bare = λ flag. primary_alone flag (string_primary scope text spelled);
  begins = λ h flag from ys. refl;
  primary = λ h. string_primary scope text spelled;
}

-- ---- the context item, and the empty sequence

context_primary : (scope : Scope) → Primary (sign "." s.Dot ∷ []) 0 scope Other (Node tree.ContextItem NoMore)
context_primary scope = record {
  reads = λ depth from ys zs ts h quiet listing.
      let few : depth ≤ 200 = omega (arith, h) in
      with_predicates (Node tree.ContextItem NoMore) Other [] (reading (context_item (token refl few) listing.reads)) (clean-nil scope) listing.each;
}

pub context_reads : (scope : Scope) → Reads scope (Node tree.ContextItem NoMore)
unfolding printed_of nested_of part_of_tree
context_reads scope = record {
  bare = λ flag. primary_alone flag (context_primary scope);
  begins = λ h flag from ys. refl;
  primary = λ h. context_primary scope;
}

empty_primary : (scope : Scope) → Primary (enclosed []) 1 scope Other (Node tree.Comma NoMore)
empty_primary scope = primary_of (λ depth from ys h quiet.
    let room : suc depth ≤ 200 = omega (arith, h) in
    let few : depth ≤ 200 = omega (arith, h) in
    record { names = []; reads = reading (parenthesized (token refl room) (reading empty) (token refl few)); clean = clean-nil scope })

pub empty_reads : (scope : Scope) → Reads scope (Node tree.Comma NoMore)
unfolding printed_of nested_of part_of_tree
empty_reads scope = record {
  bare = λ flag. primary_alone flag (empty_primary scope);
  begins = λ h flag from ys. refl;
  primary = λ h. empty_primary scope;
}
