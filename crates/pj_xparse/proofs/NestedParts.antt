-- How deep the text of an expression nests that is made of others, with these tokens behind it, where so many things are open.
use Rattle.std.proofs.Common.{◌≡◌, ℕ, suc, ◌+◌, ◌≤◌, ◌≢◌, ⊎_elim, Bool, true, false, List, [], ◌∷◌, ◌++◌, map, length, max, Option, Some, None, refl, ap, arith}
use Rattle.std.specs.Prelude.{cond, nat_eq}
use Rattle.std.proofs.lemmas.Bool.{false≢true}
use Rattle.std.proofs.lemmas.Bool.Decides.{eqb_tells}
use Rattle.pj_xexpressions.specs.declared.operator.Additive.{Additive}
use Rattle.pj_xexpressions.specs.declared.operator.Compare.{Compare}
use Rattle.pj_xexpressions.specs.declared.operator.Multiplicative.{Multiplicative}
use Rattle.pj_xexpressions.specs.declared.operator.Quantifier.{Quantifier}
use Rattle.pj_xexpressions.specs.declared.operator.SetOperator.{SetOperator}
use Rattle.pj_xexpressions.specs.declared.operator.Sign.{Sign}
use Rattle.pj_xexpressions.specs.Trees as tree
use Rattle.pj_xexpressions.specs.Trees.{Tree, Construct, node, alone}
use Rattle.pj_xtokens.specs.Tokens.{Lexed}
use Rattle.pj_xgrammar.specs.declared.terminal.Behind.TheVariants as b
use Rattle.pj_xgrammar.specs.Terminals.{first_behind, begins_step}
use Rattle.pj_xreadings.specs.Shapes.{level_by}
use Rattle.pj_xreadings.specs.Nesting.{Nested, operand_before, chain_before, clauses_before, nested_by, nested_of}
use Rattle.pj_xreadings.specs.Operands.{Operand, Binding, trees_of, chain, operations, mixed, compared, ranging, signed, bindings_of, bound, chosen}
use Rattle.pj_xparse.proofs.Gentle.{lower_operand, least_operand, marked_operand, node_operand, open_operand}

-- whether the first of the tokens begins a step where one may begin
abbrev pub flag : List Lexed → Bool
flag tokens = begins_step (first_behind b.End tokens)

-- an expression, as an operand of the level or of a higher one, before these tokens
pub record Stands (least d : ℕ) (ys : List Lexed) (t : Tree) : Type 0 where
  pub room : d + operand_before (flag ys) least (nested_of t) ≤ 200

-- an expression between parentheses or brackets
pub record IsInside (d : ℕ) (t : Tree) : Type 0 where
  pub room : d + (nested_of t).nesting false ≤ 200

pub lower : {n m d : ℕ} {ys : List Lexed} {t : Tree} → n ≤ m → Stands m d ys t → Stands n d ys t
lower {n} {m} {ys = ys} {t} le h = let less = lower_operand (flag ys) n m t le in record { room = omega (arith, h.room) }

pub is_inside : {d : ℕ} {ys : List Lexed} {t : Tree} → Stands 0 d ys t → IsInside d t
is_inside {ys = ys} {t} h = let less = open_operand (flag ys) t in record { room = omega (arith, h.room) }

-- a construct of the level or of a higher one
pub node_stands : {n d : ℕ} {ys : List Lexed} (c : Construct) (ts : List Tree) → n ≤ level_by c (length (map nested_of ts)) → d + nested_by c (map nested_of ts) (flag ys) ≤ 200 → Stands n d ys (node c ts)
node_stands {n} {ys = ys} c ts le h = let same = node_operand (flag ys) n c ts le in record { room = omega arith }

-- what has no parts
pub alone_stands : {n d : ℕ} {ys : List Lexed} (c : Construct) → n ≤ level_by c 0 → nested_by c [] (flag ys) ≡ 0 → d ≤ 200 → Stands n d ys (alone c)
alone_stands c le e h = node_stands c [] le (omega arith)

-- ---- operators

-- Further operands of the level or of a higher one, with one before them: they are the tokens xs up to ys. The mark tells whether their operators
-- begin a step in another place, so that a `/` alone before one is in parentheses.
pub record Further (least : ℕ) (mark : Bool) (d : ℕ) (xs ys : List Lexed) (us : List Tree) : Type 0 where
  pub behind : (t : Tree) → Stands least d xs t → d + chain_before (flag ys) mark least (map nested_of (t ∷ us)) ≤ 200

pub none_further : {least : ℕ} {mark : Bool} {d : ℕ} {xs : List Lexed} → Further least mark d xs xs []
none_further = record { behind = λ t h. h.room }

one_further : {least : ℕ} {mark : Bool} {d : ℕ} {xs ys zs : List Lexed} (u : Tree) (us : List Tree) → (mark ≡ true → flag xs ≡ true) → Stands least d ys u → Further least mark d ys zs us →
    Further least mark d xs zs (u ∷ us)
one_further {least} {mark} {xs = xs} u us marked h more = record {
  behind = λ t g.
      let less = marked_operand mark (flag xs) least t marked in
      let rest = more.behind u h in
      omega (arith, g.room);
}

-- behind an operator that is a word or a `*`, which begins a step in another place
pub behind_word : {least d : ℕ} {xs ys zs : List Lexed} (u : Tree) (us : List Tree) → flag xs ≡ true → Stands least d ys u → Further least true d ys zs us → Further least true d xs zs (u ∷ us)
behind_word u us marked h more = one_further u us (λ e. marked) h more

-- behind another one: a sign, or `union`, for which `|` may stand
pub behind_sign : {least d : ℕ} {xs ys zs : List Lexed} (u : Tree) (us : List Tree) → Stands least d ys u → Further least false d ys zs us → Further least false d xs zs (u ∷ us)
behind_sign u us h more = one_further u us (λ e. absurd (false≢true e)) h more

-- the level of a construct, the least one of its operands, and whether its operators begin a step in another place
pub record IsChain (c : Construct) (own least : ℕ) (mark : Bool) : Type 0 where
  pub is_lower : own ≤ least
  pub level : (count : ℕ) → own ≤ level_by c count
  pub nests : (f : Bool) (p q : Nested) (ps : List Nested) → nested_by c (p ∷ q ∷ ps) f ≡ chain_before f mark least (p ∷ q ∷ ps)

some_not_none : (n : ℕ) → nat_eq (suc n) 0 ≡ false
some_not_none n = ⊎_elim
    (λ (h : (nat_eq (suc n) 0 ≡ true) × (suc n ≡ 0)). absurd (omega (arith, h.1)))
    (λ (h : (nat_eq (suc n) 0 ≡ false) × (suc n ≢ 0)). h.0)
    (eqb_tells (suc n) 0)

pub commas : IsChain tree.Comma 0 1 false
commas = record { is_lower = omega arith; level = λ count. omega arith; nests = λ f p q ps. ap (λ (z : Bool). cond z 1 (chain_before f false 1 (p ∷ q ∷ ps))) (some_not_none (suc (length ps))) }

pub ors : IsChain tree.Or 2 3 true
ors = record { is_lower = omega arith; level = λ count. omega arith; nests = λ f p q ps. refl }

pub ands : IsChain tree.And 3 4 true
ands = record { is_lower = omega arith; level = λ count. omega arith; nests = λ f p q ps. refl }

pub comparisons : (op : Compare) → IsChain (tree.Comparison op) 4 5 false
comparisons op = record { is_lower = omega arith; level = λ count. omega arith; nests = λ f p q ps. refl }

pub concatenations : IsChain tree.Concatenation 5 6 false
concatenations = record { is_lower = omega arith; level = λ count. omega arith; nests = λ f p q ps. refl }

pub ranges : IsChain tree.Range 6 7 true
ranges = record { is_lower = omega arith; level = λ count. omega arith; nests = λ f p q ps. refl }

pub sums : (operators : List Additive) → IsChain (tree.Additive' operators) 7 8 false
sums operators = record { is_lower = omega arith; level = λ count. omega arith; nests = λ f p q ps. refl }

pub products : (operators : List Multiplicative) → IsChain (tree.Multiplicative' operators) 8 9 true
products operators = record { is_lower = omega arith; level = λ count. omega arith; nests = λ f p q ps. refl }

pub unions : IsChain tree.Union 9 10 false
unions = record { is_lower = omega arith; level = λ count. omega arith; nests = λ f p q ps. refl }

pub sets : (operators : List SetOperator) → IsChain (tree.IntersectExcept operators) 10 11 true
sets operators = record { is_lower = omega arith; level = λ count. omega arith; nests = λ f p q ps. refl }

pub maps : IsChain tree.SimpleMap 12 13 false
maps = record { is_lower = omega arith; level = λ count. omega arith; nests = λ f p q ps. refl }

-- a construct with its operands
operators_stand : {c : Construct} {own least d : ℕ} {mark : Bool} {ys : List Lexed} → IsChain c own least mark → (t u : Tree) (us : List Tree) →
    d + chain_before (flag ys) mark least (map nested_of (t ∷ u ∷ us)) ≤ 200 → Stands own d ys (node c (t ∷ u ∷ us))
operators_stand {c} {ys = ys} is t u us h =
    let level = is.level (length (map nested_of (t ∷ u ∷ us))) in
    let nests = is.nests (flag ys) (nested_of t) (nested_of u) (map nested_of us) in
    node_stands c (t ∷ u ∷ us) level (omega arith)

-- an operand alone
only_stands : {own least d : ℕ} {mark : Bool} {xs ys : List Lexed} {t : Tree} → own ≤ least → Stands least d xs t → Further least mark d xs ys [] → Stands own d ys t
only_stands {t = t} le h more = lower le (record { room = more.behind t h })

pub chain_stands : {c : Construct} {own least d : ℕ} {mark : Bool} {xs ys : List Lexed} → IsChain c own least mark → (a : Operand) (more : List Operand) → Stands least d xs a.tree →
    Further least mark d xs ys (trees_of more) → Stands own d ys (chain c a more).tree
chain_stands is a [] h g = only_stands is.is_lower h g
chain_stands is a (u ∷ us) h g = operators_stand is a.tree u.tree (trees_of us) (g.behind a.tree h)

-- the operands behind operators of their own
abbrev pub trees_behind : {Operator : Type 0} → List (Operator × Operand) → List Tree
trees_behind more = map (λ next. next.1) (operations more)

pub mixed_stands : {Operator : Type 0} {c : List Operator → Construct} {own least d : ℕ} {mark : Bool} {xs ys : List Lexed} → ((operators : List Operator) → IsChain (c operators) own least mark) →
    (a : Operand) (more : List (Operator × Operand)) → Stands least d xs a.tree → Further least mark d xs ys (trees_behind more) → Stands own d ys (mixed c a more).tree
mixed_stands is a [] h g = only_stands (is []).is_lower h g
mixed_stands is a (u ∷ us) h g = operators_stand (is (u.0 ∷ map (λ next. next.0) (operations us))) a.tree u.1.tree (trees_behind us) (g.behind a.tree h)

-- the second operand of a comparison, and of a range
abbrev pub tree_compared : Option (Compare × Operand) → List Tree
tree_compared None = []
tree_compared (Some next) = next.1.tree ∷ []

pub comparison_stands : {d : ℕ} {xs ys : List Lexed} (a : Operand) (second : Option (Compare × Operand)) → Stands 5 d xs a.tree → Further 5 false d xs ys (tree_compared second) →
    Stands 4 d ys (compared a second).tree
comparison_stands a None h g = only_stands {least = 5} (omega arith) h g
comparison_stands a (Some next) h g = operators_stand (comparisons next.0) a.tree next.1.tree [] (g.behind a.tree h)

abbrev pub tree_last : Option Operand → List Tree
tree_last None = []
tree_last (Some last) = last.tree ∷ []

pub range_stands : {d : ℕ} {xs ys : List Lexed} (a : Operand) (last : Option Operand) → Stands 7 d xs a.tree → Further 7 true d xs ys (tree_last last) → Stands 6 d ys (ranging a last).tree
range_stands a None h g = only_stands {least = 7} (omega arith) h g
range_stands a (Some last) h g = operators_stand ranges a.tree last.tree [] (g.behind a.tree h)

pub signed_stands : {d : ℕ} {ys : List Lexed} (sign : Sign) (a : Operand) → Stands 11 (suc d) ys a.tree → Stands 11 d ys (signed sign a).tree
signed_stands sign a h = node_stands (tree.Unary sign) (a.tree ∷ []) (omega arith) (omega (arith, h.room))

-- ---- clauses. The expression of one stands behind one thing more that is open.

-- the expressions of variables, where this stands behind the last
abbrev values_before : Bool → List Nested → ℕ
values_before behind [] = 0
values_before behind (last ∷ []) = 1 + operand_before behind 1 last
values_before behind (part ∷ next ∷ more) = max (1 + operand_before false 1 part) (values_before behind (next ∷ more))

abbrev values_of : List Binding → List Tree
values_of bindings = map (λ binding. binding.1) (bindings_of bindings)

-- variables, of which there is one
pub data AreBound (d : ℕ) (ys : List Lexed) : List Binding → Type 0 where
  bindings : {binding : Binding} {more : List Binding} → d + values_before (flag ys) (map nested_of (values_of (binding ∷ more))) ≤ 200 → AreBound d ys (binding ∷ more)

-- further variables, with one before them
pub record FurtherBound (d : ℕ) (xs ys : List Lexed) (more : List Binding) : Type 0 where
  pub behind : (binding : Binding) → Stands 1 (suc d) xs binding.bound.tree → AreBound d ys (binding ∷ more)

pub none_bound : {d : ℕ} {xs : List Lexed} → FurtherBound d xs xs []
none_bound = record { behind = λ binding h. bindings (omega (arith, h.room)) }

pub more_bound : {d : ℕ} {xs ys : List Lexed} {more : List Binding} → AreBound d ys more → FurtherBound d xs ys more
more_bound {xs = xs} (bindings h) = record { behind = λ binding g. let less = least_operand (flag xs) 1 binding.bound.tree in bindings (omega (arith, g.room)) }

-- variables and what follows them
clauses_within : (f : Bool) (t body : Tree) (ts : List Tree) →
    clauses_before f (map nested_of (t ∷ (ts ++ body ∷ []))) ≤ max (values_before true (map nested_of (t ∷ ts))) (1 + operand_before f 1 (nested_of body))
clauses_within f t body [] = omega arith
clauses_within f t body (u ∷ []) = let more = clauses_within f u body [] in omega arith
clauses_within f t body (u ∷ w ∷ ws) = let more = clauses_within f u body (w ∷ ws) in omega arith

pub record IsBinder (c : List (List ℕ) → Construct) : Type 0 where
  pub level : (names : List (List ℕ)) (count : ℕ) → level_by (c names) count ≡ 1
  pub nests : (names : List (List ℕ)) (ps : List Nested) (f : Bool) → nested_by (c names) ps f ≡ clauses_before f ps

pub for_binds : IsBinder tree.For
for_binds = record { level = λ names count. refl; nests = λ names ps f. refl }

pub let_binds : IsBinder tree.Let
let_binds = record { level = λ names count. refl; nests = λ names ps f. refl }

pub quantifier_binds : (quantifier : Quantifier) → IsBinder (tree.Quantified quantifier)
quantifier_binds quantifier = record { level = λ names count. refl; nests = λ names ps f. refl }

pub bound_stands : {c : List (List ℕ) → Construct} {d : ℕ} {xs ys : List Lexed} {variables : List Binding} → IsBinder c → (body : Operand) → AreBound d xs variables → flag xs ≡ true → Stands 1 (suc d) ys body.tree →
    Stands 1 d ys (bound c variables body).tree
bound_stands {c} {xs = xs} {ys} is body (bindings {binding} {more} h) marked g =
    let names : List (List ℕ) = map (λ binding. binding.0) (bindings_of (binding ∷ more)) in
    let parts : List Tree = binding.bound.tree ∷ (values_of more ++ body.tree ∷ []) in
    let within = clauses_within (flag ys) binding.bound.tree body.tree (values_of more) in
    let same = ap (λ (f : Bool). values_before f (map nested_of (values_of (binding ∷ more)))) marked in
    let level = is.level names (length (map nested_of parts)) in
    let nests = is.nests names (map nested_of parts) (flag ys) in
    node_stands (c names) parts (omega arith) (omega (arith, g.room))

pub chosen_stands : {d : ℕ} {xs ys : List Lexed} (test first second : Operand) → IsInside (suc d) test.tree → Stands 1 (suc d) xs first.tree → flag xs ≡ true → Stands 1 (suc d) ys second.tree →
    Stands 1 d ys (chosen test first second).tree
chosen_stands {xs = xs} test first second h g marked i =
    let less = marked_operand true (flag xs) 1 first.tree (λ e. marked) in
    node_stands tree.If (test.tree ∷ first.tree ∷ second.tree ∷ []) (omega arith) (omega (arith, h.room, g.room, i.room))
