-- Two and three parts that may stand where they do, and a first part with others.
use Rattle.std.proofs.Common.{◌≡◌, refl, sym, ap, ◌∙◌, ℕ, ◌+◌, Bool, true, false, ◌&&◌, List, ◌∷◌, length, nat_le, arith}
use Rattle.std.proofs.lemmas.Bool.{eq-eqb}
use Rattle.std.proofs.lemmas.Bool.Decides.{nat_tests}
use Rattle.pj_xexpressions.specs.Expressions.{Part, Scope, all_fit, operated_fits, chain_fits}
use Rattle.pj_xreadings.specs.Shapes.{operators_fit}

pub and_only : (a : Bool) → a ≡ (a && true)
and_only true = refl
and_only false = refl

pub and_both : (a b : Bool) → (a && b) ≡ (a && (b && true))
and_both true b = and_only b
and_both false b = refl

pub and_each : (a b c : Bool) → (a && b && c) ≡ (a && (b && (c && true)))
and_each true b c = and_both b c
and_each false b c = refl

pub and_regrouped : (a b c : Bool) → (a && b && c) ≡ (a && (b && c))
and_regrouped true b c = refl
and_regrouped false b c = refl

-- A first operand and one behind each operator are one more than the operators.
pub operated_fit : (count : ℕ) (first : Part) (rest : List Part) (scope : Scope) → length rest ≡ count → operated_fits scope first rest ≡ operators_fit count (first ∷ rest) scope
operated_fit count first rest scope same =
    and_regrouped (nat_le 1 (length rest)) (first.fits scope) (all_fit scope rest)
    ∙ ap (λ n. nat_le 1 n && (first.fits scope && all_fit scope rest)) same
    ∙ ap (λ b. nat_le 1 count && (b && (first.fits scope && all_fit scope rest))) (sym (eq-eqb (length (first ∷ rest)) (1 + count) (omega arith)))

one_behind : (n : ℕ) → nat_le 1 n ≡ nat_le 2 (1 + n)
one_behind n = grind (arith, nat_tests)

-- A primary expression has one predicate or more.
pub filtered_fit : (first : Part) (rest : List Part) (scope : Scope) → operated_fits scope first rest ≡ chain_fits scope (first ∷ rest)
filtered_fit first rest scope =
    and_regrouped (nat_le 1 (length rest)) (first.fits scope) (all_fit scope rest)
    ∙ ap (λ b. b && (first.fits scope && all_fit scope rest)) (one_behind (length rest) ∙ ap (nat_le 2) (omega arith))
