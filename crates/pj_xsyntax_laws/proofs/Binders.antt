-- What binds variables: `for`, `let`, `some` and `every`.
use Rattle.std.proofs.Common.{◌≡◌, ◌∙◌, ℕ, ◌+◌, ◌≤◌, List, [], ◌∷◌, ◌++◌, Bool, true, false, cond, map, max, refl, ap, arith}
use Rattle.std.specs.Prelude.{IsTrue}
use Rattle.std.specs.Str.{chars}
use Rattle.pj_ll.specs.declared.grammar.Symbol.{Symbol}
use Rattle.pj_xtokens.specs.Tokens.{Lexed, lexed}
use Rattle.pj_xtokens.specs.declared.token.Sign.TheVariants as s
use Rattle.pj_xtokens.specs.declared.token.TokenKind.TheVariants as kind
use Rattle.pj_xgrammar.specs.declared.rule.Rule.TheVariants as r
use Rattle.pj_xgrammar.specs.declared.terminal.Behind.TheVariants as b
use Rattle.pj_xgrammar.specs.declared.terminal.Terminal.TheVariants as terminal
use Rattle.pj_xgrammar.specs.declared.word.Phrase.TheVariants as phrase
use Rattle.pj_xgrammar.specs.Notation.{t}
use Rattle.pj_xgrammar.specs.Terminals.{first_behind, behind_of, is_dollar, terminal_number}
use Rattle.pj_xsyntax_laws.specs.Spaced.{Word, placed}
use Rattle.pj_xexpressions.specs.declared.operator.Quantifier.{Quantifier}
use Rattle.pj_xexpressions.specs.declared.operator.Quantifier.TheVariants as quantifier
use Rattle.pj_xexpressions.specs.Expressions.{Scope, Other, with_variable}
use Rattle.pj_xexpressions.specs.Trees as tree
use Rattle.pj_xexpressions.specs.Trees.{Tree, Trees, Construct, Node, NoMore, More, trees}
use Rattle.pj_xreadings.specs.Mentions.{scoped}
use Rattle.pj_xreadings.specs.Operands.{Operand, Binding, bindings_of, scopes_of, bound}
use Rattle.pj_xmeaning.specs.Reach.{All}
use Rattle.pj_xmeaning.specs.Reads as relation
use Rattle.pj_xmeaning.specs.Reads.{Takes, token, for_expr, let_expr, some_expr, every_expr, in_binding, in_more, in_end, let_binding, let_more, let_end, in_clause, assign_clause, return_clause, satisfies_clause}
use Rattle.pj_xreadings.specs.Shapes.{part_of_tree}
use Rattle.pj_xreadings.specs.Spelled.{IsText}
use Rattle.pj_xreadings.specs.Nesting.{Nested, operand_before, clauses_before, nested_of, nested_each}
use Rattle.pj_xsyntax_laws.specs.Printed.{operand, clauses, dollar, comma, name, sign, keyword, printed_of, printed_each}
use Rattle.pj_xsyntax_laws.proofs.Follows.{follows, follows-phrase}
use Rattle.pj_xsyntax_laws.proofs.Mentions.{Clean, CleanBound, bound_none, bound_more, clean-bound}
use Rattle.pj_xsyntax_laws.proofs.Names.{variable_named}
use Rattle.pj_xsyntax_laws.proofs.Operands.{operand_reads}
use Rattle.pj_xsyntax_laws.proofs.Clauses.{Clause, clause_reads}
use Rattle.pj_xsyntax_laws.proofs.Readings.{Spelling, ReadsAt, Reads, operand_of, next, past, as_reading, together}
use Rattle.pj_xsyntax_laws.proofs.Constructs.{low_reads}
use Rattle.pj_xsyntax_laws.proofs.Tails.{max-left, max-right}
use Rattle.pj_xsyntax_laws.proofs.WholeReadings.{reading}

-- each expression is read where the variables before it are there, and the last one where all are
pub data ScopedReads : Scope → List (List ℕ) → Trees → Type 0 where
  scoped_body : {scope : Scope} {t : Tree} → Reads scope t → ScopedReads scope [] (More t NoMore)
  scoped_value : {scope : Scope} {bytes : List ℕ} {names : List (List ℕ)} {t : Tree} {ts : Trees} → IsText bytes → Reads scope t → ScopedReads (with_variable bytes scope) names ts → ScopedReads scope (bytes ∷ names) (More t ts)

more_clauses : {scope : Scope} {bytes : List ℕ} {names : List (List ℕ)} {ts : Trees} (flag : Bool) (value : Nested) → ScopedReads scope (bytes ∷ names) ts
    → clauses_before flag (value ∷ nested_each ts) ≡ max (1 + operand_before false 1 value) (clauses_before flag (nested_each ts))
unfolding nested_of
more_clauses flag value (scoped_value i r (scoped_body r')) = refl
more_clauses flag value (scoped_value i r (scoped_value i' r' more)) = refl

-- from tokens up to those behind stand variables with their expressions, and a body behind them
record Bound (P : Spelling (List Binding)) (B : Spelling Operand) (depth : ℕ) (xs zs : List Lexed) (scope : Scope) (names : List (List ℕ)) (ts : Trees) : Type 0 where
  ys : List Lexed
  inner : Scope
  bindings : List Binding
  body : Operand
  bindings_read : P depth xs ys bindings
  body_reads : B depth ys zs body
  begins : is_dollar (first_behind b.End xs) ≡ true
  names_are : map (λ (v : List ℕ × Tree). v.0) (bindings_of bindings) ≡ names
  trees_are : trees (map (λ (v : List ℕ × Tree). v.1) (bindings_of bindings) ++ body.tree ∷ []) ≡ ts
  clean : CleanBound scope (scopes_of bindings) inner
  body_clean : Clean inner body.names

-- the production of an expression that begins with this word before a `$`
record Binder (P : Spelling (List Binding)) (B : Spelling Operand) (make : List (List ℕ) → Construct) (head : Word) : Type 0 where
  symbol : Symbol
  spells : {depth : ℕ} {xs ys zs us : List Lexed} {bindings : List Binding} {body : Operand} → Takes All depth symbol xs ys → P depth ys zs bindings → B depth zs us body
      → relation.Reads All r.ExprSingle depth xs us (bound make bindings body)
  takes : {depth from : ℕ} {xs : List Lexed} → depth ≤ 200 → is_dollar (first_behind b.End xs) ≡ true → Takes All depth symbol (lexed head.kind head.text from ∷ xs) xs

-- the rules of variables: one, and those behind it
record Rules (P Q : Spelling (List Binding)) (C : Spelling Operand) : Type 0 where
  one : {depth : ℕ} {xs ys zs us vs : List Lexed} {word : List ℕ} {a : Operand} {more : List Binding} → Takes All depth (t "$") xs ys → relation.Reads All r.VarName depth ys zs word
      → C depth zs us a → Q depth us vs more → P depth xs vs (record { name = word; bound = a } ∷ more)
  further : {depth : ℕ} {xs ys zs : List Lexed} {more : List Binding} → Takes All depth (t ",") xs ys → P depth ys zs more → Q depth xs zs more
  none : {depth : ℕ} {xs : List Lexed} → Q depth xs xs []

module _ {P Q : Spelling (List Binding)} {C B : Spelling Operand} {mark last : Word} (rules : Rules P Q C) (clause : Clause C mark) (last_clause : Clause B last) where
  clauses_read : {scope : Scope} {bytes : List ℕ} {names : List (List ℕ)} {ts : Trees} → ScopedReads scope (bytes ∷ names) ts → (flag : Bool) (depth from : ℕ) (ys : List Lexed)
      → depth + clauses_before flag (nested_each ts) ≤ 200 → IsTrue (follows flag (first_behind b.End ys))
      → Bound P B depth (placed from (clauses flag mark last (bytes ∷ names) (printed_each ts)) ++ ys) ys scope (bytes ∷ names) ts
  unfolding printed_of nested_of
  clauses_read {scope} {bytes} (scoped_value {t = t} i it (scoped_body {t = u} its)) flag depth from ys h quiet =
      let here = past from dollar in
      let start = past here (name bytes) in
      let us = mark ∷ operand true 1 (printed_of t) in
      let vs = last ∷ operand flag 1 (printed_of u) in
      let second = next start us in
      let a = 1 + operand_before true 1 (nested_of t) in
      let c = 1 + operand_before flag 1 (nested_of u) in
      let few : depth ≤ 200 = omega (arith, h) in
      let value = clause_reads clause (operand_reads scope t it true 1 (omega arith)) depth start (placed second vs ++ ys) (max-left depth a c 200 h) (last_clause.allowed second) in
      let body = clause_reads last_clause (operand_reads (with_variable bytes scope) u its flag 1 (omega arith)) depth second ys (max-right depth a c 200 h) quiet in
      let variable = variable_named bytes i depth here (placed start us ++ (placed second vs ++ ys)) few (follows-phrase true (behind_of (lexed mark.kind mark.text start)) (clause.allowed start)) in
      together (λ xs. Bound P B depth (lexed dollar.kind dollar.text from ∷ lexed kind.Name (chars bytes) here ∷ xs) ys scope (bytes ∷ []) (More t (More u NoMore))) start us vs ys (record {
        ys = placed second vs ++ ys;
        inner = with_variable bytes scope;
        bindings = record { name = bytes; bound = operand_of t (part_of_tree t).written value.names } ∷ [];
        body = operand_of u (part_of_tree u).written body.names;
        bindings_read = rules.one (token refl few) variable value.reads rules.none;
        body_reads = body.reads;
        begins = refl;
        names_are = refl;
        trees_are = refl;
        clean = bound_more value.clean bound_none;
        body_clean = body.clean;
      })
  clauses_read {scope} {bytes} (scoped_value {t = t} i it (scoped_value {bytes = bytes'} {names = names} {t = t'} {ts = ts} i' it' rest)) flag depth from ys h quiet =
      let here = past from dollar in
      let start = past here (name bytes) in
      let us = mark ∷ operand false 1 (printed_of t) in
      let vs = clauses flag mark last (bytes' ∷ names) (printed_each (More t' ts)) in
      let second = next start us in
      let a = 1 + operand_before false 1 (nested_of t) in
      let c = clauses_before flag (nested_each (More t' ts)) in
      let same = more_clauses flag (nested_of t) (scoped_value i' it' rest) in
      let h' : depth + max a c ≤ 200 = omega (arith, h, same) in
      let few : depth ≤ 200 = omega (arith, h) in
      let value = clause_reads clause (operand_reads scope t it false 1 (omega arith)) depth start (placed second (comma ∷ vs) ++ ys) (max-left depth a c 200 h') refl in
      let others = clauses_read (scoped_value i' it' rest) flag depth (past second comma) ys (max-right depth a c 200 h') quiet in
      let variable = variable_named bytes i depth here (placed start us ++ (placed second (comma ∷ vs) ++ ys)) few (follows-phrase true (behind_of (lexed mark.kind mark.text start)) (clause.allowed start)) in
      together (λ xs. Bound P B depth (lexed dollar.kind dollar.text from ∷ lexed kind.Name (chars bytes) here ∷ xs) ys scope (bytes ∷ bytes' ∷ names) (More t (More t' ts))) start us (comma ∷ vs) ys (record {
        ys = others.ys;
        inner = others.inner;
        bindings = record { name = bytes; bound = operand_of t (part_of_tree t).written value.names } ∷ others.bindings;
        body = others.body;
        bindings_read = rules.one (token refl few) variable value.reads (rules.further (token refl few) others.bindings_read);
        body_reads = others.body_reads;
        begins = refl;
        names_are = ap (λ l. bytes ∷ l) others.names_are;
        trees_are = ap (More t) {x = trees (map (λ (v : List ℕ × Tree). v.1) (bindings_of others.bindings) ++ others.body.tree ∷ [])} others.trees_are;
        clean = bound_more value.clean others.clean;
        body_clean = others.body_clean;
      })

  -- the whole expression
  binder_reads : (make : List (List ℕ) → Construct) {head : Word} → Binder P B make head → {scope : Scope} {bytes : List ℕ} {names : List (List ℕ)} {ts : Trees} → ScopedReads scope (bytes ∷ names) ts → (flag : Bool)
      → ReadsAt flag 1 (head ∷ clauses flag mark last (bytes ∷ names) (printed_each ts)) (clauses_before flag (nested_each ts)) scope Other (Node (make (bytes ∷ names)) ts)
  binder_reads make {head} binder {bytes = bytes} {names = names} its flag = record {
    reads = λ depth from ys h quiet.
        let all = clauses_read its flag depth (past from head) ys h quiet in
        as_reading (scoped (scopes_of all.bindings) 0 all.body.names) (binder.spells (binder.takes (omega (arith, h)) all.begins) all.bindings_read all.body_reads)
        (ap (λ l. Node (make l) (trees (map (λ (v : List ℕ × Tree). v.1) (bindings_of all.bindings) ++ all.body.tree ∷ []))) all.names_are ∙ ap (Node (make (bytes ∷ names))) all.trees_are)
        (clean-bound all.body.names all.clean all.body_clean);
  }

-- ---- the constructs

in_rules : Rules (relation.Reads All r.InBindings) (relation.Reads All r.InBindingsTail) (relation.Reads All r.InClause)
in_rules = record { one = λ k n a m. reading (in_binding k n a m); further = λ k m. reading (in_more k m); none = reading in_end }

let_rules : Rules (relation.Reads All r.LetBindings) (relation.Reads All r.LetBindingsTail) (relation.Reads All r.AssignClause)
let_rules = record { one = λ k n a m. reading (let_binding k n a m); further = λ k m. reading (let_more k m); none = reading let_end }

behind_in : Clause (relation.Reads All r.InClause) (keyword "in")
behind_in = record { symbol = t "in"; spells = λ k a. reading (in_clause k a); takes = λ few. token refl few; allowed = λ from. refl }

behind_assign : Clause (relation.Reads All r.AssignClause) (sign ":=" s.ColonEqual)
behind_assign = record { symbol = t ":="; spells = λ k a. reading (assign_clause k a); takes = λ few. token refl few; allowed = λ from. refl }

behind_return : Clause (relation.Reads All r.ReturnClause) (keyword "return")
behind_return = record { symbol = t "return"; spells = λ k a. reading (return_clause k a); takes = λ few. token refl few; allowed = λ from. refl }

behind_satisfies : Clause (relation.Reads All r.SatisfiesClause) (keyword "satisfies")
behind_satisfies = record { symbol = t "satisfies"; spells = λ k a. reading (satisfies_clause k a); takes = λ few. token refl few; allowed = λ from. refl }

pub for_reads : (scope : Scope) (bytes : List ℕ) (names : List (List ℕ)) (ts : Trees) → ScopedReads scope (bytes ∷ names) ts → Reads scope (Node (tree.For (bytes ∷ names)) ts)
for_reads scope bytes names ts its =
    low_reads scope (tree.For (bytes ∷ names)) ts refl (binder_reads in_rules behind_in behind_return tree.For (record {
      symbol = t "for";
      spells = λ k m a. reading (for_expr k m a);
      takes = λ few h. token (ap (λ c. terminal_number (cond c (terminal.Phrase phrase.For) terminal.Name)) h) few;
    }) its)

pub let_reads : (scope : Scope) (bytes : List ℕ) (names : List (List ℕ)) (ts : Trees) → ScopedReads scope (bytes ∷ names) ts → Reads scope (Node (tree.Let (bytes ∷ names)) ts)
let_reads scope bytes names ts its =
    low_reads scope (tree.Let (bytes ∷ names)) ts refl (binder_reads let_rules behind_assign behind_return tree.Let (record {
      symbol = t "let";
      spells = λ k m a. reading (let_expr k m a);
      takes = λ few h. token (ap (λ c. terminal_number (cond c (terminal.Phrase phrase.Let) terminal.Name)) h) few;
    }) its)

pub quantified_reads : (scope : Scope) (q : Quantifier) (bytes : List ℕ) (names : List (List ℕ)) (ts : Trees) → ScopedReads scope (bytes ∷ names) ts → Reads scope (Node (tree.Quantified q (bytes ∷ names)) ts)
quantified_reads scope quantifier.Some bytes names ts its =
    low_reads scope (tree.Quantified quantifier.Some (bytes ∷ names)) ts refl (binder_reads in_rules behind_in behind_satisfies (tree.Quantified quantifier.Some) (record {
      symbol = t "some";
      spells = λ k m a. reading (some_expr k m a);
      takes = λ few h. token (ap (λ c. terminal_number (cond c (terminal.Phrase phrase.Some) terminal.Name)) h) few;
    }) its)
quantified_reads scope quantifier.Every bytes names ts its =
    low_reads scope (tree.Quantified quantifier.Every (bytes ∷ names)) ts refl (binder_reads in_rules behind_in behind_satisfies (tree.Quantified quantifier.Every) (record {
      symbol = t "every";
      spells = λ k m a. reading (every_expr k m a);
      takes = λ few h. token (ap (λ c. terminal_number (cond c (terminal.Phrase phrase.Every) terminal.Name)) h) few;
    }) its)
