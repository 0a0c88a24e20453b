-- The nesting that is said of parts is no more than that of their texts.
use Rattle.std.proofs.Common.{◌≡◌, refl, sym, subst, ℕ, ◌+◌, ◌≤◌, Bool, true, false, if◌then◌else◌, List, [], ◌∷◌, length, max, nat_lt, nat_eq, arith}
use Rattle.std.specs.Prelude.{⊤}
use Rattle.std.proofs.lemmas.Bool.{eqb-true, false≢true}
use Rattle.pj_xexpressions.specs.Expressions.{Part, operand, operands, predicates_nesting, steps_nesting}
use Rattle.pj_xexpressions.specs.declared.axis.Axis.TheVariants as axis
use Rattle.pj_xexpressions.specs.declared.expr.NodeTest.TheVariants as test
use Rattle.pj_xexpressions.specs.Trees as tree
use Rattle.pj_xexpressions.specs.Trees.{Construct}
use Rattle.pj_xreadings.specs.Shapes.{clauses_nesting, choice_nesting, filter_nesting, nesting_by, part_by}
use Rattle.pj_xreadings.specs.Nesting.{Nested, operand_before, chain_before, clauses_before, choice_before, enclosed, filter_inside, step_before, further_before, steps_before, is_descendants_by, nested_by}

-- what is seen of an expression beside what is seen of its text
pub record IsWithin (part : Part) (text : Nested) : Type 0 where
  pub level : text.level ≡ part.level
  pub free : text.is_descendants ≡ true → operand 15 part ≡ 0
  pub nesting : (behind : Bool) → part.nesting ≤ text.nesting behind

abbrev pub AreWithin : List Part → List Nested → Type 0
AreWithin [] [] = ⊤
AreWithin [] (text ∷ texts) = ⊥
AreWithin (part ∷ parts) [] = ⊥
AreWithin (part ∷ parts) (text ∷ texts) = IsWithin part text × AreWithin parts texts

pub as_many_within : (parts : List Part) (texts : List Nested) → AreWithin parts texts → length texts ≡ length parts
as_many_within [] [] h = refl
as_many_within [] (text ∷ texts) h = absurd h
as_many_within (part ∷ parts) [] h = absurd h
as_many_within (part ∷ parts) (text ∷ texts) h = omega (arith, as_many_within parts texts h.1)

in_parentheses : (enclose : Bool) (n inside bare : ℕ) → n ≤ inside → n ≤ bare → (if enclose then 1 + n else n) ≤ (if enclose then 1 + inside else bare)
in_parentheses true n inside bare p q = omega arith
in_parentheses false n inside bare p q = q

operand_within : (behind : Bool) (least : ℕ) (part : Part) (text : Nested) → IsWithin part text → operand least part ≤ operand_before behind least text
operand_within behind least part text h =
    subst (λ level. operand least part ≤ (if nat_lt level least then 1 + text.nesting false else text.nesting behind)) (sym h.level)
    (in_parentheses (nat_lt part.level least) part.nesting (text.nesting false) (text.nesting behind) (h.nesting false) (h.nesting behind))

operands_within : (behind mark : Bool) (least : ℕ) (parts : List Part) (texts : List Nested) → AreWithin parts texts → operands least parts ≤ chain_before behind mark least texts
operands_within behind mark least [] [] h = omega arith
operands_within behind mark least [] (text ∷ texts) h = absurd h
operands_within behind mark least (part ∷ parts) [] h = absurd h
operands_within behind mark least (part ∷ []) (text ∷ []) h = omega (arith, operand_within behind least part text h.0)
operands_within behind mark least (part ∷ []) (text ∷ next ∷ texts) h = absurd h.1
operands_within behind mark least (part ∷ other ∷ parts) (text ∷ []) h = absurd h.1
operands_within behind mark least (part ∷ other ∷ parts) (text ∷ next ∷ texts) h =
    omega (arith, operand_within mark least part text h.0, operands_within behind mark least (other ∷ parts) (next ∷ texts) h.1)

clauses_within : (behind : Bool) (parts : List Part) (texts : List Nested) → AreWithin parts texts → clauses_nesting parts ≤ clauses_before behind texts
clauses_within behind [] [] h = omega arith
clauses_within behind [] (text ∷ texts) h = absurd h
clauses_within behind (part ∷ parts) [] h = absurd h
clauses_within behind (part ∷ []) (text ∷ []) h = omega (arith, operand_within behind 1 part text h.0)
clauses_within behind (part ∷ []) (text ∷ next ∷ texts) h = absurd h.1
clauses_within behind (part ∷ other ∷ parts) (text ∷ []) h = absurd h.1
clauses_within behind (part ∷ other ∷ []) (text ∷ next ∷ []) h =
    omega (arith, operand_within true 1 part text h.0, operand_within behind 1 other next h.1.0)
clauses_within behind (part ∷ other ∷ []) (text ∷ next ∷ body ∷ texts) h = absurd h.1.1
clauses_within behind (part ∷ other ∷ last ∷ parts) (text ∷ next ∷ []) h = absurd h.1.1
clauses_within behind (part ∷ other ∷ last ∷ parts) (text ∷ next ∷ body ∷ texts) h =
    omega (arith, operand_within false 1 part text h.0, clauses_within behind (other ∷ last ∷ parts) (next ∷ body ∷ texts) h.1)

choice_within : (behind : Bool) (parts : List Part) (texts : List Nested) → AreWithin parts texts → choice_nesting parts ≤ choice_before behind texts
choice_within behind [] [] h = omega arith
choice_within behind [] (text ∷ texts) h = absurd h
choice_within behind (part ∷ parts) [] h = absurd h
choice_within behind (part ∷ parts) (text ∷ texts) h =
    omega (arith, h.0.nesting false, clauses_within behind parts texts h.1)

predicates_within : (parts : List Part) (texts : List Nested) → AreWithin parts texts → predicates_nesting parts ≤ enclosed texts
predicates_within [] [] h = omega arith
predicates_within [] (text ∷ texts) h = absurd h
predicates_within (part ∷ parts) [] h = absurd h
predicates_within (part ∷ parts) (text ∷ texts) h =
    omega (arith, h.0.nesting false, predicates_within parts texts h.1)

filter_within : (parts : List Part) (texts : List Nested) → AreWithin parts texts → filter_nesting parts ≤ filter_inside texts
filter_within [] [] h = omega arith
filter_within [] (text ∷ texts) h = absurd h
filter_within (part ∷ parts) [] h = absurd h
filter_within (part ∷ parts) (text ∷ texts) h =
    omega (arith, operand_within false 16 part text h.0, predicates_within parts texts h.1)

either_within : (b : Bool) (n x y : ℕ) → (b ≡ true → n ≤ x) → (b ≡ false → n ≤ y) → n ≤ (if b then x else y)
either_within true n x y p q = p refl
either_within false n x y p q = q refl

mutual
  step_within : (behind : Bool) (part : Part) (parts : List Part) (text : Nested) (texts : List Nested) → IsWithin part text → AreWithin parts texts →
      operands 15 (part ∷ parts) ≤ step_before behind text texts
  step_within behind part [] text [] h hs = omega (arith, operand_within behind 15 part text h)
  step_within behind part [] text (next ∷ texts) h hs = absurd hs
  step_within behind part (other ∷ parts) text [] h hs = absurd hs
  step_within behind part (other ∷ parts) text (next ∷ texts) h hs =
      omega (arith, operand_within false 15 part text h, further_within behind other parts next texts hs.0 hs.1)

  further_within : (behind : Bool) (part : Part) (parts : List Part) (text : Nested) (texts : List Nested) → IsWithin part text → AreWithin parts texts →
      operands 15 (part ∷ parts) ≤ further_before behind text texts
  further_within behind part [] text [] h hs = omega (arith, operand_within behind 15 part text h)
  further_within behind part [] text (next ∷ texts) h hs = absurd hs
  further_within behind part (other ∷ parts) text [] h hs = absurd hs
  further_within behind part (other ∷ parts) text (next ∷ texts) h hs =
      either_within text.is_descendants (operands 15 (part ∷ other ∷ parts)) (step_before behind next texts) (max (operand_before false 15 text) (further_before behind next texts))
      (λ e. omega (arith, h.free e, step_within behind other parts next texts hs.0 hs.1))
      (λ e. omega (arith, operand_within false 15 part text h, further_within behind other parts next texts hs.0 hs.1))

steps_within : (behind : Bool) (parts : List Part) (texts : List Nested) → AreWithin parts texts → steps_nesting parts ≤ steps_before behind texts
steps_within behind [] [] h = omega arith
steps_within behind [] (text ∷ texts) h = absurd h
steps_within behind (part ∷ parts) [] h = absurd h
steps_within behind (part ∷ []) (text ∷ []) h = omega (arith, operand_within false 14 part text h.0)
steps_within behind (part ∷ []) (text ∷ next ∷ texts) h = absurd h.1
steps_within behind (part ∷ other ∷ parts) (text ∷ []) h = absurd h.1
steps_within behind (part ∷ other ∷ parts) (text ∷ next ∷ texts) h =
    omega (arith, operand_within false 14 part text h.0, further_within behind other parts next texts h.1.0 h.1.1)

when_empty : (empty : Bool) (n m : ℕ) → n ≤ m → (if empty then 1 else n) ≤ (if empty then 1 else m)
when_empty true n m h = omega arith
when_empty false n m h = h

comma_within : (behind : Bool) (parts : List Part) (texts : List Nested) → AreWithin parts texts → nesting_by tree.Comma parts ≤ nested_by tree.Comma texts behind
comma_within behind parts texts h =
    subst (λ count. nesting_by tree.Comma parts ≤ (if nat_eq count 0 then 1 else chain_before behind false 1 texts)) (sym (as_many_within parts texts h))
    (when_empty (nat_eq (length parts) 0) (operands 1 parts) (chain_before behind false 1 texts) (operands_within behind false 1 parts texts h))

pub nesting_within : (construct : Construct) (parts : List Part) (texts : List Nested) → AreWithin parts texts → (behind : Bool) → nesting_by construct parts ≤ nested_by construct texts behind
nesting_within tree.Comma parts texts h behind = comma_within behind parts texts h
nesting_within (tree.For names) parts texts h behind = clauses_within behind parts texts h
nesting_within (tree.Let names) parts texts h behind = clauses_within behind parts texts h
nesting_within (tree.Quantified quantifier names) parts texts h behind = clauses_within behind parts texts h
nesting_within tree.If parts texts h behind = choice_within behind parts texts h
nesting_within tree.Or parts texts h behind = operands_within behind true 3 parts texts h
nesting_within tree.And parts texts h behind = operands_within behind true 4 parts texts h
nesting_within (tree.Comparison op) parts texts h behind = operands_within behind false 5 parts texts h
nesting_within tree.Concatenation parts texts h behind = operands_within behind false 6 parts texts h
nesting_within tree.Range parts texts h behind = operands_within behind true 7 parts texts h
nesting_within (tree.Additive' operators) parts texts h behind = operands_within behind false 8 parts texts h
nesting_within (tree.Multiplicative' operators) parts texts h behind = operands_within behind true 9 parts texts h
nesting_within tree.Union parts texts h behind = operands_within behind false 10 parts texts h
nesting_within (tree.IntersectExcept operators) parts texts h behind = operands_within behind true 11 parts texts h
nesting_within (tree.Unary sign) parts texts h behind = omega (arith, operands_within behind false 11 parts texts h)
nesting_within tree.SimpleMap parts texts h behind = operands_within behind false 13 parts texts h
nesting_within tree.Path parts texts h behind = steps_within behind parts texts h
nesting_within tree.Root parts texts h behind = omega arith
nesting_within (tree.Step a t) parts texts h behind = omega (arith, predicates_within parts texts h)
nesting_within (tree.AttributeStep t) parts texts h behind = omega (arith, predicates_within parts texts h)
nesting_within tree.Filter parts texts h behind = filter_within parts texts h
nesting_within (tree.Call function) parts texts h behind = omega (arith, operands_within false false 1 parts texts h)
nesting_within (tree.PmdCall function) parts texts h behind = omega (arith, operands_within false false 1 parts texts h)
nesting_within _ parts texts h behind = omega arith

-- the step that `//` stands for has nothing that nests, but the parentheses of its test
pub descendants_free : (construct : Construct) (parts : List Part) (texts : List Nested) → AreWithin parts texts → is_descendants_by construct (length texts) ≡ true →
    operand 15 (part_by construct parts) ≡ 0
descendants_free (tree.Step axis.DescendantOrSelf test.AnyNode) [] [] h e = refl
descendants_free (tree.Step axis.DescendantOrSelf test.AnyNode) [] (text ∷ texts) h e = absurd h
descendants_free (tree.Step axis.DescendantOrSelf test.AnyNode) (part ∷ parts) [] h e = absurd h
descendants_free (tree.Step axis.DescendantOrSelf test.AnyNode) (part ∷ parts) (text ∷ texts) h e =
    let none : length (text ∷ texts) ≡ 0 = eqb-true (length (text ∷ texts)) 0 e in absurd (omega arith)
descendants_free _ parts texts h e = absurd (false≢true e)
