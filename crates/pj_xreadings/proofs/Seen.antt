-- What is seen of parts in the fields of an expression is what is seen of the same parts in a list.
use Rattle.std.proofs.Common.{◌≡◌, refl, ap, ℕ, ◌+◌, Bool, ◌&&◌, List, [], ◌∷◌, length, max, arith}
use Rattle.pj_xexpressions.specs.Expressions.{Part, Scope, Written, Other, operand, operands, clause, clauses, predicates_nesting, operated_fits, chain_fits}
use Rattle.pj_xexpressions.specs.Expressions as expressions
use Rattle.pj_xreadings.specs.Shapes.{clauses_nesting, choice_nesting, filter_nesting, signed_nesting, binder_fits, exactly, operators_fit}
use Rattle.pj_xreadings.proofs.Fitted.{and_only, and_both, and_each, operated_fit, filtered_fit}
use Rattle.pj_xreadings.proofs.BoundForms.{names_of, parts_of, clauses_nest, binder_fit}

abbrev pub seen : Written → ℕ → ℕ → (Scope → Bool) → Part
seen written level nesting fits = record { written = written; level = level; nesting = nesting; fits = fits }

pub seen_alike : (written : Written) (level : ℕ) {n m : ℕ} {f g : Scope → Bool} → n ≡ m → ((scope : Scope) → f scope ≡ g scope) → seen written level n f ≡ seen written level m g
seen_alike written level nest fit = λ i. record { written = written; level = level; nesting = nest i; fits = λ scope. fit scope i }

pub seen_binder : (bindings : List (List ℕ × Part)) (body : Part) → seen Other 1 (clauses bindings body) (λ scope. expressions.binder_fits scope bindings body) ≡ seen Other 1 (clauses_nesting (parts_of bindings body)) (binder_fits (names_of bindings) (parts_of bindings body))
seen_binder bindings body = seen_alike Other 1 (clauses_nest bindings body) (binder_fit bindings body)

pub seen_choice : (test chosen other : Part) → seen Other 1 (max (1 + test.nesting) (max (clause chosen) (clause other))) (λ scope. test.fits scope && chosen.fits scope && other.fits scope) ≡ seen Other 1 (choice_nesting (test ∷ chosen ∷ other ∷ [])) (exactly 3 (test ∷ chosen ∷ other ∷ []))
seen_choice test chosen other =
    seen_alike Other 1 (ap (λ n. max (1 + test.nesting) (max (clause chosen) n)) (omega arith)) (λ scope. and_each (test.fits scope) (chosen.fits scope) (other.fits scope))

pub seen_pair : (level least : ℕ) (left right : Part) → seen Other level (max (operand least left) (operand least right)) (λ scope. left.fits scope && right.fits scope) ≡ seen Other level (operands least (left ∷ right ∷ [])) (exactly 2 (left ∷ right ∷ []))
seen_pair level least left right =
    seen_alike Other level (ap (max (operand least left)) (omega arith)) (λ scope. and_both (left.fits scope) (right.fits scope))

pub seen_signed : (part : Part) → seen Other 11 (1 + operand 11 part) (λ scope. part.fits scope) ≡ seen Other 11 (signed_nesting (part ∷ [])) (exactly 1 (part ∷ []))
seen_signed part = seen_alike Other 11 (ap (λ n. 1 + n) (omega arith)) (λ scope. and_only (part.fits scope))

pub seen_operated : (level least count : ℕ) (first : Part) (rest : List Part) → length rest ≡ count → seen Other level (max (operand least first) (operands least rest)) (λ scope. operated_fits scope first rest) ≡ seen Other level (operands least (first ∷ rest)) (operators_fit count (first ∷ rest))
seen_operated level least count first rest same = seen_alike Other level refl (λ scope. operated_fit count first rest scope same)

pub seen_filter : (primary : Part) (predicates : List Part) → seen Other 15 (max (operand 16 primary) (predicates_nesting predicates)) (λ scope. operated_fits scope primary predicates) ≡ seen Other 15 (filter_nesting (primary ∷ predicates)) (λ scope. chain_fits scope (primary ∷ predicates))
seen_filter primary predicates = seen_alike Other 15 refl (λ scope. filtered_fit primary predicates scope)

pub seen_alone : (written : Written) (fits : Scope → Bool) → seen written 16 0 fits ≡ seen written 16 0 (λ scope. fits scope && exactly 0 [] scope)
seen_alone written fits = seen_alike written 16 refl (λ scope. and_only (fits scope))
