-- Expressions that are made of those of their parts.
use Rattle.std.proofs.Common.{◌≡◌, ◌∙◌, ◌<◌, ◌^◌, ℕ, List, [], ◌∷◌, length, map, Vec, Box, Global, refl, sym, ap, subst, arith}
use Rattle.std.specs.Prelude.{⊤}
use Rattle.std.proofs.lemmas.List.{length-map}
use denote.RawPtr.{null_ptr}
use Rattle.pj_xexpressions.specs.declared.expr.Expr.{Expr}
use Rattle.pj_xexpressions.specs.declared.expr.Expr.TheVariants as expr
use Rattle.pj_xexpressions.specs.Trees as tree
use Rattle.pj_xexpressions.specs.Trees.{Tree, Construct, node, binder, operated, tree_of}
use Rattle.pj_xreadings.specs.Seen.{behind_of}
use Rattle.pj_xreadings.proofs.TreeForms.{tree_of_filter}

-- the tree is that of an expression
abbrev pub HasExpr : Tree → Type 0
HasExpr t = (e : Expr) × (tree_of e ≡ t)

-- each of the trees is
abbrev pub HaveExprs : List Tree → Type 0
HaveExprs [] = ⊤
HaveExprs (t ∷ ts) = HasExpr t × HaveExprs ts

-- ---- boxes and vectors. Of where they lie nothing is said.

abbrev somewhere : Global
somewhere = record { memory = record { seal = tt } }

abbrev boxed : Expr → Box Expr Global
boxed e = record { ptr = null_ptr; alloc = somewhere; value = e }

abbrev vector : {A : Type 0} (xs : List A) → length xs < 2 ^ 62 → Vec A Global
vector xs few = record { ptr = null_ptr; len = length xs; cap = length xs; alloc = somewhere; items = xs; ok = (refl, omega arith); small = omega arith }

-- expressions of these trees
record Exprs (ts : List Tree) : Type 0 where
  list : List Expr
  are : map tree_of list ≡ ts

exprs_of : (ts : List Tree) → HaveExprs ts → Exprs ts
exprs_of [] h = record { list = []; are = refl }
exprs_of (t ∷ ts) h = let rest = exprs_of ts h.1 in record { list = h.0.0 ∷ rest.list; are = λ i. h.0.1 i ∷ rest.are i }

as_many : (ts : List Tree) (es : Exprs ts) → length es.list ≡ length ts
as_many ts es = sym (length-map es.list tree_of) ∙ ap length es.are

-- expressions of these trees, each with something in front of it
record Pairs {A : Type 0} (ps : List (A × Tree)) : Type 0 where
  list : List (A × Expr)
  are : map behind_of list ≡ ps

pairs_of : {A : Type 0} (ps : List (A × Tree)) → HaveExprs (map (λ p. p.1) ps) → Pairs ps
pairs_of [] h = record { list = []; are = refl }
pairs_of (p ∷ ps) h = let rest = pairs_of ps h.1 in record { list = (p.0, h.0.0) ∷ rest.list; are = λ i. (p.0, h.0.1 i) ∷ rest.are i }

as_many_pairs : {A : Type 0} (ps : List (A × Tree)) (es : Pairs ps) → length es.list ≡ length ps
as_many_pairs ps es = sym (length-map es.list behind_of) ∙ ap length es.are

-- ---- constructs by their forms

-- the parts are a vector
abbrev pub OfParts : Construct → Type 0
OfParts c = (parts : Vec Expr Global) → HasExpr (node c (map tree_of parts.items))

pub of_parts : (c : Construct) → OfParts c → (ts : List Tree) → HaveExprs ts → length ts < 2 ^ 62 → HasExpr (node c ts)
of_parts c form ts h few =
    let es = exprs_of ts h in
    let room : length es.list < 2 ^ 62 = subst (λ (n : ℕ). n < 2 ^ 62) (sym (as_many ts es)) few in
    let made = form (vector es.list room) in (made.0, made.1 ∙ ap (node c) es.are)

-- a first operand, and a vector of operators with further ones
abbrev pub OfOperands : {Operator : Type 0} → (List Operator → Construct) → Type 0
OfOperands {Operator} c = (first : Box Expr Global) (rest : Vec (Operator × Expr) Global) → HasExpr (operated c (tree_of first.value) (map behind_of rest.items))

pub of_operands : {Operator : Type 0} (c : List Operator → Construct) → OfOperands c → (t : Tree) (ps : List (Operator × Tree)) → HasExpr t → HaveExprs (map (λ p. p.1) ps) → length ps < 2 ^ 62 →
    HasExpr (operated c t ps)
of_operands c form t ps h g few =
    let es = pairs_of ps g in
    let room : length es.list < 2 ^ 62 = subst (λ (n : ℕ). n < 2 ^ 62) (sym (as_many_pairs ps es)) few in
    let made = form (boxed h.0) (vector es.list room) in (made.0, made.1 ∙ (λ i. operated c (h.1 i) (es.are i)))

-- a vector of variables with their expressions, and what follows
abbrev pub OfVariables : (List (List ℕ) → Construct) → Type 0
OfVariables c = (variables : Vec (List ℕ × Expr) Global) (body : Box Expr Global) → HasExpr (binder c (map behind_of variables.items) (tree_of body.value))

pub of_variables : (c : List (List ℕ) → Construct) → OfVariables c → (ps : List (List ℕ × Tree)) (t : Tree) → HaveExprs (map (λ p. p.1) ps) → HasExpr t → length ps < 2 ^ 62 → HasExpr (binder c ps t)
of_variables c form ps t g h few =
    let es = pairs_of ps g in
    let room : length es.list < 2 ^ 62 = subst (λ (n : ℕ). n < 2 ^ 62) (sym (as_many_pairs ps es)) few in
    let made = form (vector es.list room) (boxed h.0) in (made.0, made.1 ∙ (λ i. binder c (es.are i) (h.1 i)))

-- one part, two, and three
abbrev pub OfOne : Construct → Type 0
OfOne c = (a : Box Expr Global) → HasExpr (node c (tree_of a.value ∷ []))

pub of_one : (c : Construct) → OfOne c → (t : Tree) → HasExpr t → HasExpr (node c (t ∷ []))
of_one c form t h = let made = form (boxed h.0) in (made.0, made.1 ∙ (λ i. node c (h.1 i ∷ [])))

abbrev pub OfTwo : Construct → Type 0
OfTwo c = (a b : Box Expr Global) → HasExpr (node c (tree_of a.value ∷ tree_of b.value ∷ []))

pub of_two : (c : Construct) → OfTwo c → (t u : Tree) → HasExpr t → HasExpr u → HasExpr (node c (t ∷ u ∷ []))
of_two c form t u h g = let made = form (boxed h.0) (boxed g.0) in (made.0, made.1 ∙ (λ i. node c (h.1 i ∷ g.1 i ∷ [])))

abbrev pub OfThree : Construct → Type 0
OfThree c = (a b d : Box Expr Global) → HasExpr (node c (tree_of a.value ∷ tree_of b.value ∷ tree_of d.value ∷ []))

pub of_three : (c : Construct) → OfThree c → (t u v : Tree) → HasExpr t → HasExpr u → HasExpr v → HasExpr (node c (t ∷ u ∷ v ∷ []))
of_three c form t u v h g f = let made = form (boxed h.0) (boxed g.0) (boxed f.0) in (made.0, made.1 ∙ (λ i. node c (h.1 i ∷ g.1 i ∷ f.1 i ∷ [])))

-- a primary expression with a vector of predicates
pub filter_made : (t : Tree) (ts : List Tree) → HasExpr t → HaveExprs ts → length ts < 2 ^ 62 → HasExpr (node tree.Filter (t ∷ ts))
filter_made t ts h g few =
    let es = exprs_of ts g in
    let room : length es.list < 2 ^ 62 = subst (λ (n : ℕ). n < 2 ^ 62) (sym (as_many ts es)) few in
    let predicates = vector es.list room in
    (expr.Filter (boxed h.0) predicates, tree_of_filter (boxed h.0) predicates ∙ (λ i. node tree.Filter (h.1 i ∷ es.are i)))
