-- Variables with their expressions and what follows them, as one list of parts.
use Rattle.std.proofs.Common.{◌≡◌, sym, ap, ◌∙◌, ℕ, ◌&&◌, List, [], ◌∷◌, ◌++◌, map, length, nat_le, arith}
use Rattle.std.proofs.lemmas.List.{length-map}
use Rattle.pj_xexpressions.specs.Expressions.{Part, Scope, clauses, with_variable, bindings_fit}
use Rattle.pj_xexpressions.specs.Expressions as expressions
use Rattle.pj_xreadings.specs.Shapes.{clauses_nesting, scoped_fit, binder_fits}
use Rattle.pj_xreadings.proofs.Fitted.{and_only}

-- the names of the variables
abbrev pub names_of : {A : Type 0} → List (List ℕ × A) → List (List ℕ)
names_of bindings = map (λ binding. binding.0) bindings

-- their expressions, and what follows them
abbrev pub parts_of : {A : Type 0} → List (List ℕ × A) → A → List A
parts_of bindings body = map (λ binding. binding.1) bindings ++ body ∷ []

pub clauses_nest : (bindings : List (List ℕ × Part)) (body : Part) → clauses bindings body ≡ clauses_nesting (parts_of bindings body)
clauses_nest [] body = omega arith
clauses_nest (binding ∷ rest) body = omega (arith, clauses_nest rest body)

pub bindings_scoped : (bindings : List (List ℕ × Part)) (body : Part) (scope : Scope) → bindings_fit bindings body scope ≡ scoped_fit (names_of bindings) (parts_of bindings body) scope
bindings_scoped [] body scope = and_only (body.fits scope)
bindings_scoped (binding ∷ rest) body scope = ap (λ b. binding.1.fits scope && b) (bindings_scoped rest body (with_variable binding.0 scope))

pub binder_fit : (bindings : List (List ℕ × Part)) (body : Part) (scope : Scope) → expressions.binder_fits scope bindings body ≡ binder_fits (names_of bindings) (parts_of bindings body) scope
binder_fit bindings body scope =
    ap (λ n. nat_le 1 n && bindings_fit bindings body scope) (sym (length-map bindings (λ binding. binding.0)))
    ∙ ap (λ b. nat_le 1 (length (names_of bindings)) && b) (bindings_scoped bindings body scope)
