-- What it means that words are read as an expression.
use Rattle.std.proofs.Common.{◌≡◌, ◌∙◌, ℕ, suc, zero, ◌+◌, ◌≤◌, List, [], ◌∷◌, ◌++◌, Bool, false, refl, sym, ap, subst, append_assoc}
use Rattle.std.specs.Prelude.{IsTrue, nat_le}
use Rattle.pj_xtokens.specs.Size.{size}
use Rattle.pj_xtokens.specs.Tokens.{Lexed}
use Rattle.pj_xgrammar.specs.declared.rule.Rule.TheVariants as r
use Rattle.pj_xgrammar.specs.declared.terminal.Behind.TheVariants as b
use Rattle.pj_xgrammar.specs.Terminals.{first_behind, begins_step}
use Rattle.pj_xsyntax_laws.specs.Spaced.{Word, placed, spaced}
use Rattle.pj_xexpressions.specs.Expressions.{Scope, Written, Other}
use Rattle.pj_xexpressions.specs.Trees.{Tree, Trees, NoMore, More, trees}
use Rattle.pj_xreadings.specs.Steps.{filtered}
use Rattle.pj_xreadings.specs.Mentions.{Mention}
use Rattle.pj_xreadings.specs.Operands.{Operand, trees_of, names_of}
use Rattle.pj_xmeaning.specs.Reach.{All}
use Rattle.pj_xmeaning.specs.Reads as relation
use Rattle.pj_xreadings.specs.Shapes.{part_of_tree}
use Rattle.pj_xreadings.specs.Nesting.{nested_of}
use Rattle.pj_xsyntax_laws.specs.Printed.{printed_of, words_of}
use Rattle.pj_xsyntax_laws.proofs.Appending.{placed-append}
use Rattle.pj_xsyntax_laws.proofs.Follows.{no_phrase, follows}
use Rattle.pj_xsyntax_laws.proofs.Mentions.{Clean, clean-nil, clean-append}

-- what a rule spells, with values of this type: how many things that nest are open there, the tokens from there on and behind, and the value
abbrev pub Spelling : Type 0 → Type 1
Spelling V = ℕ → List Lexed → List Lexed → V → Type 0

-- the expressions of a level; from 15 on they are steps
abbrev pub at : ℕ → Spelling Operand
at zero = relation.Reads All r.Expr
at (suc zero) = relation.Reads All r.ExprSingle
at (suc (suc zero)) = relation.Reads All r.OrExpr
at (suc (suc (suc zero))) = relation.Reads All r.AndExpr
at (suc (suc (suc (suc zero)))) = relation.Reads All r.ComparisonExpr
at (suc (suc (suc (suc (suc zero))))) = relation.Reads All r.StringConcatExpr
at (suc (suc (suc (suc (suc (suc zero)))))) = relation.Reads All r.RangeExpr
at (suc (suc (suc (suc (suc (suc (suc zero))))))) = relation.Reads All r.AdditiveExpr
at (suc (suc (suc (suc (suc (suc (suc (suc zero)))))))) = relation.Reads All r.MultiplicativeExpr
at (suc (suc (suc (suc (suc (suc (suc (suc (suc zero))))))))) = relation.Reads All r.UnionExpr
at (suc (suc (suc (suc (suc (suc (suc (suc (suc (suc zero)))))))))) = relation.Reads All r.IntersectExceptExpr
at (suc (suc (suc (suc (suc (suc (suc (suc (suc (suc (suc zero))))))))))) = relation.Reads All r.UnaryExpr
at (suc (suc (suc (suc (suc (suc (suc (suc (suc (suc (suc (suc zero)))))))))))) = relation.Reads All r.SimpleMapExpr
at (suc (suc (suc (suc (suc (suc (suc (suc (suc (suc (suc (suc (suc zero))))))))))))) = relation.Reads All r.Operand
at (suc (suc (suc (suc (suc (suc (suc (suc (suc (suc (suc (suc (suc (suc zero)))))))))))))) = relation.Reads All r.PathExpr
at (suc (suc (suc (suc (suc (suc (suc (suc (suc (suc (suc (suc (suc (suc (suc more))))))))))))))) = relation.Reads All r.StepExpr

-- an operand from its parts
abbrev pub operand_of : Tree → Written → List Mention → Operand
operand_of t written names = record { tree = t; written = written; names = names }

-- from tokens up to those behind stands this expression, and what it names is there
pub record Reading (P : Spelling Operand) (depth : ℕ) (xs ys : List Lexed) (scope : Scope) (written : Written) (t : Tree) : Type 0 where
  pub names : List Mention
  pub reads : P depth xs ys (operand_of t written names)
  pub clean : Clean scope names

-- of a tree that is equal
pub as_reading : {P : Spelling Operand} {depth : ℕ} {xs ys : List Lexed} {scope : Scope} {written : Written} {t made : Tree} (names : List Mention) → P depth xs ys (operand_of made written names) → made ≡ t
    → Clean scope names → Reading P depth xs ys scope written t
as_reading {P = P} {depth = depth} {xs = xs} {ys = ys} {written = written} names reads e clean =
    record { names = names; reads = subst (λ x. P depth xs ys (operand_of x written names)) e reads; clean = clean }

-- wherever the words stand, with so much nesting, before what the flag says
pub record ReadsAt (flag : Bool) (level : ℕ) (ws : List Word) (bound : ℕ) (scope : Scope) (written : Written) (t : Tree) : Type 0 where
  pub reads : (depth from : ℕ) (ys : List Lexed) → depth + bound ≤ 200 → IsTrue (follows flag (first_behind b.End ys)) → Reading (at level) depth (placed from ws ++ ys) ys scope written t

-- operands of these trees, and what they name is there
pub data AllNames (scope : Scope) : List Tree → List Operand → Type 0 where
  no_names : AllNames scope [] []
  more_names : {t : Tree} {ts : List Tree} {names : List Mention} {os : List Operand} → Clean scope names → AllNames scope ts os
      → AllNames scope (t ∷ ts) (operand_of t (part_of_tree t).written names ∷ os)

pub all-trees : {scope : Scope} {ts : List Tree} {os : List Operand} → AllNames scope ts os → trees_of os ≡ ts
all-trees no_names = refl
all-trees (more_names {t = t} n ns) = ap (λ l. t ∷ l) (all-trees ns)

pub all-clean : {scope : Scope} {ts : List Tree} {os : List Operand} → AllNames scope ts os → Clean scope (names_of os)
all-clean {scope} no_names = clean-nil scope
all-clean {scope} (more_names {names = names} {os = os} n ns) = clean-append scope names (names_of os) n (all-clean ns)

-- from tokens up to those behind stand these expressions in a row, and what they name is there
pub record Listing (P : Spelling (List Operand)) (depth : ℕ) (xs ys : List Lexed) (scope : Scope) (ts : List Tree) : Type 0 where
  pub operands : List Operand
  pub reads : P depth xs ys operands
  pub each : AllNames scope ts operands

-- how an expression with these predicates is written
abbrev pub written_with : Written → List Tree → Written
written_with written [] = written
written_with written (t ∷ ts) = Other

pub written_with-other : (ts : List Tree) → Other ≡ written_with Other ts
written_with-other [] = refl
written_with-other (t ∷ ts) = refl

-- a primary expression, before predicates
pub record Primary (ws : List Word) (bound : ℕ) (scope : Scope) (written : Written) (t : Tree) : Type 0 where
  pub reads : (depth from : ℕ) (ys zs : List Lexed) (ts : List Tree) → depth + bound ≤ 200 → IsTrue (no_phrase (first_behind b.End ys)) → Listing (relation.Reads All r.PredicateList) depth ys zs scope ts
      → Reading (at 15) depth (placed from ws ++ ys) zs scope (written_with written ts) (filtered t ts)

-- a tree is read as it is printed
pub record Reads (scope : Scope) (t : Tree) : Type 0 where
  pub bare : (flag : Bool) → ReadsAt flag (printed_of t).level (words_of flag t) ((nested_of t).nesting flag) scope (part_of_tree t).written t
  -- at its beginning stands what makes a `/` before it one of a path
  pub begins : IsTrue (nat_le 15 (printed_of t).level) → (flag : Bool) (from : ℕ) (ys : List Lexed) → IsTrue (begins_step (first_behind b.End (placed from (words_of flag t) ++ ys)))
  pub primary : IsTrue (nat_le 16 (printed_of t).level) → Primary (words_of false t) ((nested_of t).nesting false) scope (part_of_tree t).written t

-- each part is
pub data EachReads (scope : Scope) : Trees → Type 0 where
  no_parts : EachReads scope NoMore
  more_parts : {t : Tree} {ts : Trees} → Reads scope t → EachReads scope ts → EachReads scope (More t ts)

-- the parts as a list
abbrev pub list_of : Trees → List Tree
list_of NoMore = []
list_of (More t ts) = t ∷ list_of ts

pub list_is : (ts : Trees) → trees (list_of ts) ≡ ts
list_is NoMore = refl
list_is (More t ts) = ap (More t) (list_is ts)

-- ---- words behind words

-- the offset behind words
abbrev pub next : ℕ → List Word → ℕ
next from ws = from + size (spaced ws)

-- the offset behind a word
abbrev pub past : ℕ → Word → ℕ
past from w = from + size w.text + 1

pub placed_is : (from : ℕ) (us ws : List Word) (ys : List Lexed) → placed from us ++ (placed (next from us) ws ++ ys) ≡ placed from (us ++ ws) ++ ys
placed_is from us ws ys = sym (ap (λ l. l ++ ys) (placed-append from us ws) ∙ append_assoc (placed from us) (placed (next from us) ws) ys)

-- what is so of the tokens of words before those of others is so of the tokens of all
pub together : (A : List Lexed → Type 0) (from : ℕ) (us ws : List Word) (ys : List Lexed) → A (placed from us ++ (placed (next from us) ws ++ ys)) → A (placed from (us ++ ws) ++ ys)
together A from us ws ys x = subst A (placed_is from us ws ys) x
