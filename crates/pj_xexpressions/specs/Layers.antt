-- Mapping the parts of one layer of an expression twice is mapping them once.
use mathlib.Core.Former.{map-map}
use Rattle.std.proofs.Common.{◌≡◌, refl}
use Rattle.pj_xexpressions.specs.declared.expr.Expr.TheOpen.{Expr-F}
use Rattle.pj_xexpressions.specs.declared.expr.Expr.TheShapes.{former-Expr-Comma-0, former-Expr-For-0, former-Expr-For-1, former-Expr-Additive-1, former-Expr-Multiplicative-1, former-Expr-IntersectExcept-1}
use Rattle.pj_xexpressions.specs.declared.expr.Expr.TheFolds.{map-Expr}

pub map-Expr_twice : {A B C : Type 0} (f : A → B) (g : B → C) (layer : Expr-F A) → map-Expr B C g (map-Expr A B f layer) ≡ map-Expr A C (λ a. g (f a)) layer
map-Expr_twice f g (Expr-F.Comma parts) = λ i. Expr-F.Comma (map-map former-Expr-Comma-0 _ _ _ f g parts i)
map-Expr_twice f g (Expr-F.For bindings body) = λ i. Expr-F.For (map-map former-Expr-For-0 _ _ _ f g bindings i) (map-map former-Expr-For-1 _ _ _ f g body i)
map-Expr_twice f g (Expr-F.Let bindings body) = λ i. Expr-F.Let (map-map former-Expr-For-0 _ _ _ f g bindings i) (map-map former-Expr-For-1 _ _ _ f g body i)
map-Expr_twice f g (Expr-F.Quantified quantifier bindings test) = λ i. Expr-F.Quantified quantifier (map-map former-Expr-For-0 _ _ _ f g bindings i) (map-map former-Expr-For-1 _ _ _ f g test i)
map-Expr_twice f g (Expr-F.If test chosen other) = refl
map-Expr_twice f g (Expr-F.Or parts) = λ i. Expr-F.Or (map-map former-Expr-Comma-0 _ _ _ f g parts i)
map-Expr_twice f g (Expr-F.And parts) = λ i. Expr-F.And (map-map former-Expr-Comma-0 _ _ _ f g parts i)
map-Expr_twice f g (Expr-F.Comparison op left right) = refl
map-Expr_twice f g (Expr-F.Concatenation parts) = λ i. Expr-F.Concatenation (map-map former-Expr-Comma-0 _ _ _ f g parts i)
map-Expr_twice f g (Expr-F.Range from to) = refl
map-Expr_twice f g (Expr-F.Additive first rest) = λ i. Expr-F.Additive (map-map former-Expr-For-1 _ _ _ f g first i) (map-map former-Expr-Additive-1 _ _ _ f g rest i)
map-Expr_twice f g (Expr-F.Multiplicative first rest) = λ i. Expr-F.Multiplicative (map-map former-Expr-For-1 _ _ _ f g first i) (map-map former-Expr-Multiplicative-1 _ _ _ f g rest i)
map-Expr_twice f g (Expr-F.Union parts) = λ i. Expr-F.Union (map-map former-Expr-Comma-0 _ _ _ f g parts i)
map-Expr_twice f g (Expr-F.IntersectExcept first rest) = λ i. Expr-F.IntersectExcept (map-map former-Expr-For-1 _ _ _ f g first i) (map-map former-Expr-IntersectExcept-1 _ _ _ f g rest i)
map-Expr_twice f g (Expr-F.Unary sign part) = refl
map-Expr_twice f g (Expr-F.SimpleMap parts) = λ i. Expr-F.SimpleMap (map-map former-Expr-Comma-0 _ _ _ f g parts i)
map-Expr_twice f g (Expr-F.Path steps) = λ i. Expr-F.Path (map-map former-Expr-Comma-0 _ _ _ f g steps i)
map-Expr_twice f g Expr-F.Root = refl
map-Expr_twice f g (Expr-F.Step axis test predicates) = λ i. Expr-F.Step axis test (map-map former-Expr-Comma-0 _ _ _ f g predicates i)
map-Expr_twice f g (Expr-F.AttributeStep test predicates) = λ i. Expr-F.AttributeStep test (map-map former-Expr-Comma-0 _ _ _ f g predicates i)
map-Expr_twice f g (Expr-F.Filter primary predicates) = λ i. Expr-F.Filter (map-map former-Expr-For-1 _ _ _ f g primary i) (map-map former-Expr-Comma-0 _ _ _ f g predicates i)
map-Expr_twice f g (Expr-F.Integer value) = refl
map-Expr_twice f g (Expr-F.String text) = refl
map-Expr_twice f g (Expr-F.Variable name) = refl
map-Expr_twice f g Expr-F.ContextItem = refl
map-Expr_twice f g (Expr-F.Call function arguments) = λ i. Expr-F.Call function (map-map former-Expr-Comma-0 _ _ _ f g arguments i)
map-Expr_twice f g (Expr-F.PmdCall function arguments) = λ i. Expr-F.PmdCall function (map-map former-Expr-Comma-0 _ _ _ f g arguments i)
