-- A word behind a text does not make it nest less.
use Rattle.std.proofs.Common.{ℕ, ◌+◌, ◌≤◌, Bool, true, false, if◌then◌else◌, List, [], ◌∷◌, length, max, nat_lt, nat_eq, le_refl, arith}
use Rattle.std.specs.Prelude.{⊤}
use Rattle.pj_xexpressions.specs.Trees as tree
use Rattle.pj_xexpressions.specs.Trees.{Tree, Trees, Construct, Node, NoMore, More}
use Rattle.pj_xreadings.specs.Nesting.{Nested, operand_before, chain_before, clauses_before, choice_before, step_before, further_before, steps_before, nested_by, nested_of, nested_each}

pub record Grows (text : Nested) : Type 0 where
  pub nesting : text.nesting false ≤ text.nesting true

abbrev pub AllGrow : List Nested → Type 0
AllGrow [] = ⊤
AllGrow (text ∷ texts) = Grows text × AllGrow texts

bare_grows : (enclose : Bool) (inside n m : ℕ) → n ≤ m → (if enclose then inside else n) ≤ (if enclose then inside else m)
bare_grows true inside n m h = le_refl _
bare_grows false inside n m h = h

operand_grows : (least : ℕ) (text : Nested) → Grows text → operand_before false least text ≤ operand_before true least text
operand_grows least text h = bare_grows (nat_lt text.level least) (1 + text.nesting false) (text.nesting false) (text.nesting true) h.nesting

chain_grows : (mark : Bool) (least : ℕ) (texts : List Nested) → AllGrow texts → chain_before false mark least texts ≤ chain_before true mark least texts
chain_grows mark least [] h = omega arith
chain_grows mark least (text ∷ []) h = operand_grows least text h.0
chain_grows mark least (text ∷ next ∷ texts) h = omega (arith, chain_grows mark least (next ∷ texts) h.1)

clauses_grow : (texts : List Nested) → AllGrow texts → clauses_before false texts ≤ clauses_before true texts
clauses_grow [] h = omega arith
clauses_grow (body ∷ []) h = omega (arith, operand_grows 1 body h.0)
clauses_grow (text ∷ body ∷ []) h = omega (arith, operand_grows 1 body h.1.0)
clauses_grow (text ∷ next ∷ body ∷ texts) h = omega (arith, clauses_grow (next ∷ body ∷ texts) h.1)

choice_grows : (texts : List Nested) → AllGrow texts → choice_before false texts ≤ choice_before true texts
choice_grows [] h = omega arith
choice_grows (text ∷ texts) h = omega (arith, clauses_grow texts h.1)

either_grows : (b : Bool) (n n' m m' : ℕ) → n ≤ n' → m ≤ m' → (if b then n else m) ≤ (if b then n' else m')
either_grows true n n' m m' h g = h
either_grows false n n' m m' h g = g

mutual
  step_grows : (text : Nested) (texts : List Nested) → Grows text → AllGrow texts → step_before false text texts ≤ step_before true text texts
  step_grows text [] h hs = operand_grows 15 text h
  step_grows text (next ∷ texts) h hs = omega (arith, further_grow next texts hs.0 hs.1)

  further_grow : (text : Nested) (texts : List Nested) → Grows text → AllGrow texts → further_before false text texts ≤ further_before true text texts
  further_grow text [] h hs = operand_grows 15 text h
  further_grow text (next ∷ texts) h hs =
      either_grows text.is_descendants (step_before false next texts) (step_before true next texts)
      (max (operand_before false 15 text) (further_before false next texts)) (max (operand_before false 15 text) (further_before true next texts))
      (step_grows next texts hs.0 hs.1) (omega (arith, further_grow next texts hs.0 hs.1))

steps_grow : (texts : List Nested) → AllGrow texts → steps_before false texts ≤ steps_before true texts
steps_grow [] h = omega arith
steps_grow (text ∷ []) h = omega arith
steps_grow (text ∷ next ∷ texts) h = omega (arith, further_grow next texts h.1.0 h.1.1)

comma_grows : (texts : List Nested) → AllGrow texts → nested_by tree.Comma texts false ≤ nested_by tree.Comma texts true
comma_grows texts h = bare_grows (nat_eq (length texts) 0) 1 (chain_before false false 1 texts) (chain_before true false 1 texts) (chain_grows false 1 texts h)

nested_by_grows : (construct : Construct) (texts : List Nested) → AllGrow texts → nested_by construct texts false ≤ nested_by construct texts true
nested_by_grows tree.Comma texts h = comma_grows texts h
nested_by_grows (tree.For names) texts h = clauses_grow texts h
nested_by_grows (tree.Let names) texts h = clauses_grow texts h
nested_by_grows (tree.Quantified quantifier names) texts h = clauses_grow texts h
nested_by_grows tree.If texts h = choice_grows texts h
nested_by_grows tree.Or texts h = chain_grows true 3 texts h
nested_by_grows tree.And texts h = chain_grows true 4 texts h
nested_by_grows (tree.Comparison op) texts h = chain_grows false 5 texts h
nested_by_grows tree.Concatenation texts h = chain_grows false 6 texts h
nested_by_grows tree.Range texts h = chain_grows true 7 texts h
nested_by_grows (tree.Additive' operators) texts h = chain_grows false 8 texts h
nested_by_grows (tree.Multiplicative' operators) texts h = chain_grows true 9 texts h
nested_by_grows tree.Union texts h = chain_grows false 10 texts h
nested_by_grows (tree.IntersectExcept operators) texts h = chain_grows true 11 texts h
nested_by_grows (tree.Unary sign) texts h = omega (arith, chain_grows false 11 texts h)
nested_by_grows tree.SimpleMap texts h = chain_grows false 13 texts h
nested_by_grows tree.Path texts h = steps_grow texts h
nested_by_grows tree.Root texts h = omega arith
nested_by_grows _ texts h = le_refl _

mutual
  unfolding nested_of nested_each

  pub tree_grows : (t : Tree) → Grows (nested_of t)
  tree_grows (Node construct parts) = record { nesting = nested_by_grows construct (nested_each parts) (trees_grow parts) }

  pub trees_grow : (ts : Trees) → AllGrow (nested_each ts)
  trees_grow NoMore = tt
  trees_grow (More first rest) = (tree_grows first, trees_grow rest)

-- the nesting where a word or a `*` stands behind is at least that where none does
pub nesting_grows : (t : Tree) → (nested_of t).nesting false ≤ (nested_of t).nesting true
nesting_grows t = (tree_grows t).nesting
