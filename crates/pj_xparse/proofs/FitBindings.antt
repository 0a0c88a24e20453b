-- Variables and what follows them fit where what they name has no fault.
use Rattle.std.proofs.Common.{◌≡◌, ℕ, suc, ◌+◌, inl, true, List, [], ◌∷◌, ◌++◌, map, length, drop, refl, sym, ◌∙◌, ap, subst, arith, None, add-one}
use Rattle.std.specs.Prelude.{nat_le}
use Rattle.std.proofs.lemmas.Bool.{and_from, le-leb}
use Rattle.pj_xexpressions.specs.Expressions.{Part, Scope, with_variable}
use Rattle.pj_xexpressions.specs.Trees as tree
use Rattle.pj_xexpressions.specs.Trees.{Tree, Construct}
use Rattle.pj_xreadings.specs.Mentions.{Mention, Binds, Ends, scoped}
use Rattle.pj_xparse.specs.NameFaults.{first_fault_from}
use Rattle.pj_xreadings.specs.Shapes.{part_of_tree, scoped_fit, binder_fits, fits_by}
use Rattle.pj_xreadings.specs.Nodes.{part_of_node}
use Rattle.pj_xexpressions.specs.declared.operator.Quantifier.{Quantifier}
use Rattle.pj_xreadings.specs.Operands.{Operand, Binding, bindings_of, scopes_of, bound}
use Rattle.pj_xparse.proofs.Faultless.{scope_after, after-append, AreBalanced, first_none, both_none}
use Rattle.pj_xparse.proofs.FitValues.{Fits, AllBoundFit, SomeBoundFit}

-- with these variables bound
abbrev bound_by : Scope → List (List ℕ) → Scope
bound_by s base = record { given = s.given; bound = base }

-- behind the end of the variables' scope the others are there
scoped_after : (bindings : List Binding) {ms : List Mention} (count : ℕ) (s : Scope) (base : List (List ℕ)) → AllBoundFit bindings → AreBalanced ms → drop count s.bound ≡ base →
    scope_after s (scoped (scopes_of bindings) count ms) ≡ bound_by s base
scoped_after [] {ms} count s base h balanced e =
    after-append s ms (Ends count ∷ [])
    ∙ ap (λ (x : Scope). scope_after x (Ends count ∷ [])) (balanced.kept s)
    ∙ ap (λ (l : List (List ℕ)). bound_by s l) e
scoped_after (b ∷ more) {ms} count s base h balanced e =
    let behind : List Mention = Binds b.name ∷ scoped (scopes_of more) (count + 1) ms in
    let here = after-append s b.bound.names behind in
    let same : scope_after (scope_after s b.bound.names) behind ≡ scope_after s behind = ap (λ (x : Scope). scope_after x behind) (h.0.balanced.kept s) in
    let more_bound : drop (count + 1) (b.name ∷ s.bound) ≡ base = rw add-one e in
    here ∙ same ∙ scoped_after more (count + 1) (with_variable b.name s) base h.1 balanced more_bound

scoped_balanced : (bindings : List Binding) {ms : List Mention} → AllBoundFit bindings → AreBalanced ms → AreBalanced (scoped (scopes_of bindings) 0 ms)
scoped_balanced bindings h balanced = record { kept = λ s. scoped_after bindings 0 s s.bound h balanced refl }

-- the names of variables
abbrev names : List Binding → List (List ℕ)
names bindings = map (λ (x : List ℕ × Tree). x.0) (bindings_of bindings)

-- what is bound to them, with what follows
abbrev parts : List Binding → Tree → List Tree
parts bindings body = map (λ (x : List ℕ × Tree). x.1) (bindings_of bindings) ++ body ∷ []

scoped_fits : (bindings : List Binding) (body : Operand) (count : ℕ) (s : Scope) → AllBoundFit bindings → Fits body → first_fault_from s (scoped (scopes_of bindings) count body.names) ≡ None →
    scoped_fit (names bindings) (map part_of_tree (parts bindings body.tree)) s ≡ true
scoped_fits [] body count s h fit e =
    let (here, rest) = both_none s (Ends count ∷ []) fit.balanced e in
    and_from ((part_of_tree body.tree).fits s) true (fit.fits s here) refl
scoped_fits (b ∷ more) body count s h fit e =
    let (here, rest) = both_none s (Binds b.name ∷ scoped (scopes_of more) (count + 1) body.names) h.0.balanced e in
    let (known, behind) = first_none s (Binds b.name) (scoped (scopes_of more) (count + 1) body.names) rest in
    and_from ((part_of_tree b.bound.tree).fits s) (scoped_fit (names more) (map part_of_tree (parts more body.tree)) (with_variable b.name s))
    (h.0.fits s here) (scoped_fits more body (count + 1) (with_variable b.name s) h.1 fit behind)

some : (name : List ℕ) (more : List (List ℕ)) → nat_le 1 (length (name ∷ more)) ≡ true
some name more = le-leb 1 (suc (length more)) (omega arith)

-- the constructs that bind variables
pub data IsBinder : (List (List ℕ) → Construct) → Type 0 where
  for_binder : IsBinder tree.For
  let_binder : IsBinder tree.Let
  quantified_binder : {q : Quantifier} → IsBinder (tree.Quantified q)

binder_as : {construct : List (List ℕ) → Construct} → IsBinder construct → (variables : List (List ℕ)) (ps : List Part) (s : Scope) → binder_fits variables ps s ≡ true → fits_by (construct variables) ps s ≡ true
binder_as for_binder variables ps s e = e
binder_as let_binder variables ps s e = e
binder_as quantified_binder variables ps s e = e

pub bound_fits : {construct : List (List ℕ) → Construct} → IsBinder construct → (bindings : List Binding) (body : Operand) → SomeBoundFit bindings → Fits body → Fits (bound construct bindings body)
bound_fits is [] body h fit = absurd h
bound_fits {construct} is (b ∷ more) body h fit =
    let variables : List (List ℕ) = names (b ∷ more) in
    let ts : List Tree = parts (b ∷ more) body.tree in
    record {
      balanced = scoped_balanced (b ∷ more) h fit.balanced;
      fits = λ s e. subst (λ (p : Part). p.fits s ≡ true) (sym (part_of_node (construct variables) ts))
          (binder_as is variables (map part_of_tree ts) s
          (and_from (nat_le 1 (length variables)) (scoped_fit variables (map part_of_tree ts) s) (some b.name (names more)) (scoped_fits (b ∷ more) body 0 s h fit e)));
      written_as = inl refl;
    }
