-- What is named without a fault.
use Rattle.std.proofs.Common.{◌≡◌, ◌∙◌, ℕ, List, [], ◌∷◌, ◌++◌, drop, ◌+◌, refl, ap, append_assoc, add-one}
use Rattle.std.specs.Prelude.{IsTrue}
use Rattle.pj_xexpressions.specs.Expressions.{Scope, Written, with_variable}
use Rattle.pj_xparse.specs.NameFaults.{Variable, Function, Form, is_bound, is_function, fits_role, unless, earlier, first_fault_from}
use Rattle.pj_xreadings.specs.Mentions as mention
use Rattle.pj_xreadings.specs.Mentions.{Mention, scoped}
use Rattle.pj_xreadings.specs.declared.role.Role.{Role}

-- none of it has a fault, and the variables behind it are those before it
abbrev pub Clean : Scope → List Mention → Type 0
Clean scope ms = (ns : List Mention) → first_fault_from scope (ms ++ ns) ≡ first_fault_from scope ns

pub clean-nil : (scope : Scope) → Clean scope []
clean-nil scope ns = refl

pub clean-append : (scope : Scope) (ms ns : List Mention) → Clean scope ms → Clean scope ns → Clean scope (ms ++ ns)
clean-append scope ms ns f g ks = ap (first_fault_from scope) (append_assoc ms ns ks) ∙ f (ns ++ ks) ∙ g ks

pub clean-variable : (scope : Scope) (name : List ℕ) (from : ℕ) → IsTrue (is_bound name scope) → Clean scope (mention.Variable name from ∷ [])
clean-variable scope name from h ns = ap (λ b. earlier (unless b (Variable name from)) (first_fault_from scope ns)) h

pub clean-call : (scope : Scope) (name : List ℕ) (count from : ℕ) (ms : List Mention) → IsTrue (is_function name count) → Clean scope ms → Clean scope (mention.Call name count from ∷ ms)
clean-call scope name count from ms h f ns = ap (λ b. earlier (unless b (Function name from)) (first_fault_from scope (ms ++ ns))) h ∙ f ns

pub clean-argument : (scope : Scope) (role : Role) (written : Written) (from : ℕ) (ms : List Mention) → IsTrue (fits_role role scope written) → Clean scope ms → Clean scope (mention.Argument role written from ∷ ms)
clean-argument scope role written from ms h f ns = ap (λ b. earlier (unless b (Form from)) (first_fault_from scope (ms ++ ns))) h ∙ f ns

-- ---- what binds variables

-- each expression is without a fault where the variables before it are there; and the variables that are there behind them all
pub data CleanBound : Scope → List (List ℕ × List Mention) → Scope → Type 0 where
  bound_none : {scope : Scope} → CleanBound scope [] scope
  bound_more : {scope inner : Scope} {name : List ℕ} {ms : List Mention} {vs : List (List ℕ × List Mention)} → Clean scope ms → CleanBound (with_variable name scope) vs inner → CleanBound scope ((name, ms) ∷ vs) inner

drop-more : (count : ℕ) (x : List ℕ) (xs : List (List ℕ)) → drop (count + 1) (x ∷ xs) ≡ drop count xs
drop-more count x xs = ap (λ n. drop n (x ∷ xs)) (add-one count)

scoped-clean : {scope inner : Scope} {vs : List (List ℕ × List Mention)} (count : ℕ) (body ns : List Mention) → CleanBound scope vs inner → Clean inner body
    → first_fault_from scope (scoped vs count body ++ ns) ≡ first_fault_from (record { given = scope.given; bound = drop count scope.bound }) ns
scoped-clean {scope} count body ns bound_none f = ap (first_fault_from scope) (append_assoc body (mention.Ends count ∷ []) ns) ∙ f (mention.Ends count ∷ ns)
scoped-clean {scope} count body ns (bound_more {name = name} {ms = ms} {vs = vs} g more) f =
    ap (first_fault_from scope) (append_assoc ms (mention.Binds name ∷ scoped vs (count + 1) body) ns)
    ∙ g (mention.Binds name ∷ (scoped vs (count + 1) body ++ ns))
    ∙ scoped-clean (count + 1) body ns more f
    ∙ ap (λ b. first_fault_from (record { given = scope.given; bound = b }) ns) (drop-more count name scope.bound)

-- what binds variables has no fault where none of its expressions has
pub clean-bound : {scope inner : Scope} {vs : List (List ℕ × List Mention)} (body : List Mention) → CleanBound scope vs inner → Clean inner body → Clean scope (scoped vs 0 body)
clean-bound body bound f ns = scoped-clean 0 body ns bound f
