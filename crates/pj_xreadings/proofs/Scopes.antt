-- Variables before what follows them.
use Rattle.std.proofs.Common.{◌≡◌, ◌∙◌, refl, ap, ℕ, suc, ◌+◌, List, [], ◌∷◌, ◌++◌, map, length, arith}
use Rattle.std.proofs.lemmas.List.{map-append}
use Rattle.pj_xexpressions.specs.Trees.{Tree, tree_of}
use Rattle.pj_xreadings.specs.Mentions.{Mention, Binds, Ends, scoped}
use Rattle.pj_xreadings.specs.Operands.{Binding, bindings_of, scopes_of}
use Rattle.pj_xreadings.specs.Seen.{seen_bound}
use Rattle.pj_xreadings.specs.declared.operand.Bound.{Bound}

-- variables, each bound behind its expression, before other mentions
abbrev pub opened : List (List ℕ × List Mention) → List Mention → List Mention
opened [] behind = behind
opened (variable ∷ more) behind = variable.1 ++ (Binds variable.0 ∷ opened more behind)

-- a variable more, behind the others
pub opened_last : (variables : List (List ℕ × List Mention)) (last : List ℕ × List Mention) (behind : List Mention) →
    opened (variables ++ last ∷ []) behind ≡ opened variables (last.1 ++ (Binds last.0 ∷ behind))
opened_last [] last behind = refl
opened_last (variable ∷ more) last behind = ap (λ l. variable.1 ++ (Binds variable.0 ∷ l)) (opened_last more last behind)

scoped_from : (variables : List (List ℕ × List Mention)) (count : ℕ) (body : List Mention) → scoped variables count body ≡ opened variables (body ++ Ends (count + length variables) ∷ [])
scoped_from [] count body = let e : count ≡ count + 0 = omega arith in ap (λ n. body ++ Ends n ∷ []) e
scoped_from (variable ∷ more) count body =
    ap (λ l. variable.1 ++ (Binds variable.0 ∷ l)) (
    scoped_from more (count + 1) body
    ∙ (let e : count + 1 + length more ≡ count + length (variable ∷ more) = omega arith in ap (λ n. opened more (body ++ Ends n ∷ [])) e))

pub scoped_all : (variables : List (List ℕ × List Mention)) (count : ℕ) (body : List Mention) → count ≡ length variables → scoped variables 0 body ≡ opened variables (body ++ Ends count ∷ [])
scoped_all variables count body is =
    scoped_from variables 0 body ∙ (let e : 0 + length variables ≡ count = omega arith in ap (λ n. opened variables (body ++ Ends n ∷ [])) e)

-- the name of a variable with the tree of its expression
abbrev pub variable_of : Bound → List ℕ × Tree
variable_of b = (b.name.now, tree_of b.value.expr)

pub variables_of : (list : List Bound) → map variable_of list ≡ bindings_of (map seen_bound list)
variables_of [] = refl
variables_of (b ∷ more) = ap (λ l. variable_of b ∷ l) (variables_of more)

-- the last variable is bound first, before what follows all
pub opened_next : (others : List Bound) (last : Bound) (behind : List Mention) →
    opened (scopes_of (map seen_bound (others ++ last ∷ []))) behind ≡ opened (scopes_of (map seen_bound others)) ((seen_bound last).bound.names ++ (Binds last.name.now ∷ behind))
opened_next others last behind =
    ap (λ l. opened (scopes_of l) behind) (map-append seen_bound others (last ∷ []))
    ∙ ap (λ l. opened l behind) (map-append (λ (b : Binding). (b.name, b.bound.names)) (map seen_bound others) (seen_bound last ∷ []))
    ∙ opened_last (scopes_of (map seen_bound others)) ((seen_bound last).name, (seen_bound last).bound.names) behind

pub count_of_scopes : (list : List Bound) → length (scopes_of (map seen_bound list)) ≡ length list
count_of_scopes [] = refl
count_of_scopes (b ∷ more) = ap suc (count_of_scopes more)
