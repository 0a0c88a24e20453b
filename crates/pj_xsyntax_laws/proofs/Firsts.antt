-- Where positions ascend, the first fault in the list comes before each other.
use Rattle.std.proofs.Common.{◌≡◌, ℕ, ◌<◌, ◌⊎◌, inl, inr, Bool, true, false, List, [], ◌∷◌, Option, Some, None, refl, sym, ap, subst, ◌∙◌}
use Rattle.pj_xexpressions.specs.Expressions.{Scope}
use Rattle.pj_xreadings.specs.Mentions.{Mention}
use Rattle.pj_xreadings.specs.Mentions as mention
use Rattle.pj_xparse.specs.NameFaults.{Fault, Form, Function, Variable, is_bound, is_function, fits_role, unless, fault_in, scope_behind, earlier, first_fault_from}
use Rattle.pj_xsyntax_laws.specs.Order.{Position, positions, IsBefore, IsBeforeAll, Ascend, AreBelow}
use Rattle.pj_xsyntax_laws.specs.Every.{position_of, HasFault}

pub has_first : (scope : Scope) (ms : List Mention) (fault : Fault) → first_fault_from scope ms ≡ Some fault → HasFault scope ms fault
has_first scope [] fault e = absurd (let z = e in cc)
has_first scope (m ∷ ms) fault e = of (λ l. has_first (scope_behind scope m) ms fault l) (fault_in scope m) refl e
  where
    of : (first_fault_from (scope_behind scope m) ms ≡ Some fault → HasFault (scope_behind scope m) ms fault) → (here : Option Fault) → fault_in scope m ≡ here →
        earlier here (first_fault_from (scope_behind scope m) ms) ≡ Some fault → HasFault scope (m ∷ ms) fault
    of later None is e' = inr (later e')
    of later (Some other) is e' = inl (is ∙ e')

pub has_none : (scope : Scope) (ms : List Mention) (fault : Fault) → first_fault_from scope ms ≡ None → HasFault scope ms fault → ⊥
has_none scope [] fault e h = h
has_none scope (m ∷ ms) fault e h = of (λ l h'. has_none (scope_behind scope m) ms fault l h') (fault_in scope m) refl e h
  where
    of : (first_fault_from (scope_behind scope m) ms ≡ None → HasFault (scope_behind scope m) ms fault → ⊥) → (here : Option Fault) → fault_in scope m ≡ here →
        earlier here (first_fault_from (scope_behind scope m) ms) ≡ None → HasFault scope (m ∷ ms) fault → ⊥
    of later None is e' (inl there) = let z = is in let y = there in cc
    of later None is e' (inr h') = later e' h'
    of later (Some other) is e' h' = let z = e' in cc

unless_is : (good : Bool) (one fault : Fault) → unless good one ≡ Some fault → one ≡ fault
unless_is true one fault e = absurd (let z = e in cc)
unless_is false one fault e = let z = e in cc

-- a mention that has a fault stands where the fault stands
fault_stands : (scope : Scope) (m : Mention) (ms : List Mention) (fault : Fault) → fault_in scope m ≡ Some fault → position_of fault ∷ positions ms ≡ positions (m ∷ ms)
fault_stands scope (mention.Variable name from) ms fault e = ap (λ f. position_of f ∷ positions ms) (sym (unless_is (is_bound name scope) (Variable name from) fault e))
fault_stands scope (mention.Call name count from) ms fault e = ap (λ f. position_of f ∷ positions ms) (sym (unless_is (is_function name count) (Function name from) fault e))
fault_stands scope (mention.Argument role written from) ms fault e = ap (λ f. position_of f ∷ positions ms) (sym (unless_is (fits_role role scope written) (Form from) fault e))
fault_stands scope (mention.Binds name) ms fault e = absurd (let z = e in cc)
fault_stands scope (mention.Ends count) ms fault e = absurd (let z = e in cc)

-- what stands before all stands before the others
before_others : (p : Position) (m : Mention) (ms : List Mention) → IsBeforeAll p (positions (m ∷ ms)) → IsBeforeAll p (positions ms)
before_others p (mention.Variable name from) ms b = b.1
before_others p (mention.Call name count from) ms b = b.1
before_others p (mention.Argument role written from) ms b = b.1
before_others p (mention.Binds name) ms b = b
before_others p (mention.Ends count) ms b = b

others_ascend : (m : Mention) (ms : List Mention) → Ascend (positions (m ∷ ms)) → Ascend (positions ms)
others_ascend (mention.Variable name from) ms a = a.1
others_ascend (mention.Call name count from) ms a = a.1
others_ascend (mention.Argument role written from) ms a = a.1
others_ascend (mention.Binds name) ms a = a
others_ascend (mention.Ends count) ms a = a

before_fault : (p : Position) (scope : Scope) (ms : List Mention) (fault : Fault) → IsBeforeAll p (positions ms) → HasFault scope ms fault → IsBefore p (position_of fault)
before_fault p scope [] fault b h = absurd h
before_fault p scope (m ∷ ms) fault b (inl e) = (subst (IsBeforeAll p) (sym (fault_stands scope m ms fault e)) b).0
before_fault p scope (m ∷ ms) fault b (inr h) = before_fault p (scope_behind scope m) ms fault (before_others p m ms b) h

pub first_before : (scope : Scope) (ms : List Mention) (fault other : Fault) → Ascend (positions ms) → first_fault_from scope ms ≡ Some fault → HasFault scope ms other →
    (other ≡ fault) ⊎ IsBefore (position_of fault) (position_of other)
first_before scope [] fault other a e h = absurd h
first_before scope (m ∷ ms) fault other a e h = of (λ l h'. first_before (scope_behind scope m) ms fault other (others_ascend m ms a) l h') (fault_in scope m) refl e h
  where
    of : (first_fault_from (scope_behind scope m) ms ≡ Some fault → HasFault (scope_behind scope m) ms other → (other ≡ fault) ⊎ IsBefore (position_of fault) (position_of other)) →
        (here : Option Fault) → fault_in scope m ≡ here → earlier here (first_fault_from (scope_behind scope m) ms) ≡ Some fault → HasFault scope (m ∷ ms) other →
        (other ≡ fault) ⊎ IsBefore (position_of fault) (position_of other)
    of later None is e' (inl there) = absurd (let z = is in let y = there in cc)
    of later None is e' (inr h') = later e' h'
    of later (Some one) is e' (inl there) = inl (let z = is in let y = there in let x = e' in cc)
    of later (Some one) is e' (inr h') =
        inr (before_fault (position_of fault) (scope_behind scope m) ms other (subst Ascend (sym (fault_stands scope m ms fault (is ∙ e'))) a).0 h')

below_others : (limit : ℕ) (m : Mention) (ms : List Mention) → AreBelow limit (positions (m ∷ ms)) → AreBelow limit (positions ms)
below_others limit (mention.Variable name from) ms b = b.1
below_others limit (mention.Call name count from) ms b = b.1
below_others limit (mention.Argument role written from) ms b = b.1
below_others limit (mention.Binds name) ms b = b
below_others limit (mention.Ends count) ms b = b

-- where all mentions stand below an offset, their faults do
pub faults_below : (limit : ℕ) (scope : Scope) (ms : List Mention) (fault : Fault) → AreBelow limit (positions ms) → HasFault scope ms fault → (position_of fault).from < limit
faults_below limit scope [] fault b h = absurd h
faults_below limit scope (m ∷ ms) fault b (inl e) = (subst (AreBelow limit) (sym (fault_stands scope m ms fault e)) b).0
faults_below limit scope (m ∷ ms) fault b (inr h) = faults_below limit (scope_behind scope m) ms fault (below_others limit m ms b) h
