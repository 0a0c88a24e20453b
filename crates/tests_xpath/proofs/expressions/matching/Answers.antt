use Rattle.std.proofs.Common.{◌≡◌, [], ◌∷◌, rules}
use Rattle.pj_xexpressions.specs.declared.expr.Expr.TheVariants as expr
use Rattle.tests_xpath.proofs.Made.{matching_is, matching_nesting}
use Rattle.tests_xpath.proofs.expressions.matching.Goals as goal

pub returns-clause-expression : goal.returns-clause-expression
returns-clause-expression c =
    let items : c.push-3.new.self.items ≡ expr.String c.in_ok-from_str.field-0 ∷ expr.String c.in_ok-from_str-2.field-0 ∷ expr.String (105 ∷ []) ∷ [] = search rules in
    matching_is c.push-3.new.self c.in_ok-from_str.field-0 c.in_ok-from_str-2.field-0 items

pub returns-clause-nesting : goal.returns-clause-nesting
returns-clause-nesting c =
    let items : c.push-3.new.self.items ≡ expr.String c.in_ok-from_str.field-0 ∷ expr.String c.in_ok-from_str-2.field-0 ∷ expr.String (105 ∷ []) ∷ [] = search rules in
    matching_nesting c.push-3.new.self c.in_ok-from_str.field-0 c.in_ok-from_str-2.field-0 items
