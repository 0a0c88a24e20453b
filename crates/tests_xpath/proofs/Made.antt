-- Expressions that are made by hand.
use Rattle.std.proofs.Common.{◌≡◌, ℕ, ◌+◌, ◌<◌, ◌≤◌, true, false, List, [], ◌∷◌, Vec, Global, nat_lt, if◌then◌else◌, refl, arith}
use Rattle.pj_xexpressions.specs.declared.function.Function.TheVariants.{Matches}
use Rattle.pj_xexpressions.specs.declared.expr.Expr.{Expr}
use Rattle.pj_xexpressions.specs.declared.expr.Expr.TheVariants as expr
use Rattle.pj_xexpressions.specs.Expressions.{Part, operand, part_of, IsExpression}
use Rattle.pj_xexpressions.proofs.ExpressionForms.{part_of-Or, part_of-Call, part_of-String}

-- parentheses add one
operand_within : (least : ℕ) (part : Part) → part.nesting < 200 → operand least part ≤ 200
operand_within least part small = elim (nat_lt part.level least) as (λ b. (if b then 1 + part.nesting else part.nesting) ≤ 200) [
  | true ↦ omega arith
  | false ↦ omega arith
]

pub either_is : (parts : Vec Expr Global) (a b : Expr) → parts.items ≡ a ∷ b ∷ [] → IsExpression [] a → IsExpression [] b → (part_of a).nesting < 200 → (part_of b).nesting < 200 → IsExpression [] (expr.Or parts)
either_is parts a b items first second small_first small_second =
    let left = operand_within 3 (part_of a) small_first in
    let right = operand_within 3 (part_of b) small_second in
    record {
      fits = rw (part_of-Or parts, items, first.fits, second.fits) refl;
      shallow = rw (part_of-Or parts, items) (omega (arith, left, right));
    }

pub matching_is : (arguments : Vec Expr Global) (text pattern : List ℕ) → arguments.items ≡ expr.String text ∷ expr.String pattern ∷ expr.String (105 ∷ []) ∷ [] → IsExpression [] (expr.Call Matches arguments)
matching_is arguments text pattern items = record {
  fits = rw (part_of-Call Matches arguments, items, part_of-String text, part_of-String pattern, part_of-String (105 ∷ [])) refl;
  shallow = rw (part_of-Call Matches arguments, items, part_of-String text, part_of-String pattern, part_of-String (105 ∷ [])) (omega arith);
}

pub matching_nesting : (arguments : Vec Expr Global) (text pattern : List ℕ) → arguments.items ≡ expr.String text ∷ expr.String pattern ∷ expr.String (105 ∷ []) ∷ [] → (part_of (expr.Call Matches arguments)).nesting ≡ 1
matching_nesting arguments text pattern items = rw (part_of-Call Matches arguments, items, part_of-String text, part_of-String pattern, part_of-String (105 ∷ [])) refl
