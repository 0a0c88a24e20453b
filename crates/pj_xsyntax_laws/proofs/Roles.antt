-- The arguments of functions are written as their roles want it.
use Rattle.std.proofs.Common.{◌≡◌, ◌∙◌, ℕ, suc, List, [], ◌∷◌, ◌++◌, Bool, true, false, length, refl, sym, ap, subst, arith}
use Rattle.std.specs.Prelude.{◌&&◌, ◌||◌, ◌==◌, IsTrue}
use Rattle.std.proofs.lemmas.Bool.{false≢true, and_parts, and_from, eqb-true}
use Rattle.pj_xexpressions.specs.declared.function.Function.{Function}
use Rattle.pj_xexpressions.specs.declared.function.Function.TheVariants as f
use Rattle.pj_xexpressions.specs.Functions.{takes}
use Rattle.pj_xexpressions.specs.Expressions.{Scope, Written, arguments_fit}
use Rattle.pj_xexpressions.specs.Trees.{Tree}
use Rattle.pj_xparse.specs.NameFaults.{fits_role}
use Rattle.pj_xreadings.specs.Mentions.{Mention, Argument, roles_of}
use Rattle.pj_xreadings.specs.declared.role.Role.{Role}
use Rattle.pj_xreadings.specs.declared.role.Role.TheVariants as role
use Rattle.pj_xreadings.specs.Operands.{Arguments, Closed, Next, arguments_in, is_closed, judged, in_roles, trees_of}
use Rattle.pj_xreadings.specs.Shapes.{part_of_tree}
use Rattle.pj_xsyntax_laws.proofs.Mentions.{Clean, clean-nil, clean-append, clean-argument}
use Rattle.pj_xsyntax_laws.proofs.Readings.{operand_of}

-- each argument with a role is written as the role wants it
abbrev pub roles_fit : List Role → Scope → List Written → Bool
roles_fit [] scope ws = true
roles_fit (r ∷ rs) scope [] = true
roles_fit (r ∷ rs) scope (w ∷ ws) = fits_role r scope w && roles_fit rs scope ws

-- how the trees are written
abbrev pub written_all : List Tree → List Written
written_all [] = []
written_all (t ∷ ts) = (part_of_tree t).written ∷ written_all ts

-- arguments of these trees behind which the `)` stands, and what they name is there
pub data ArgumentNames (scope : Scope) : List Tree → Arguments → Type 0 where
  no_arguments : ArgumentNames scope [] Closed
  more_arguments : {t : Tree} {ts : List Tree} {from : ℕ} {names : List Mention} {others : Arguments} → Clean scope names → ArgumentNames scope ts others
      → ArgumentNames scope (t ∷ ts) (Next from (operand_of t (part_of_tree t).written names) others)

pub arguments-trees : {scope : Scope} {ts : List Tree} {arguments : Arguments} → ArgumentNames scope ts arguments → trees_of (arguments_in arguments) ≡ ts
arguments-trees no_arguments = refl
arguments-trees (more_arguments {t = t} n ns) = ap (λ l. t ∷ l) (arguments-trees ns)

pub arguments-closed : {scope : Scope} {ts : List Tree} {arguments : Arguments} → ArgumentNames scope ts arguments → is_closed arguments ≡ true
arguments-closed no_arguments = refl
arguments-closed (more_arguments n ns) = arguments-closed ns

pub arguments-length : {scope : Scope} {ts : List Tree} {arguments : Arguments} → ArgumentNames scope ts arguments → length (arguments_in arguments) ≡ length (written_all ts)
arguments-length no_arguments = refl
arguments-length (more_arguments n ns) = ap suc (arguments-length ns)

judged-closed : {scope : Scope} {ts : List Tree} {others : Arguments} (mention : Mention) → ArgumentNames scope ts others → mention ∷ [] ≡ judged others mention
judged-closed mention no_arguments = refl
judged-closed mention (more_arguments n ns) = refl

pub clean-roles : {scope : Scope} (roles : List Role) {ts : List Tree} {arguments : Arguments} → ArgumentNames scope ts arguments → IsTrue (roles_fit roles scope (written_all ts)) → Clean scope (in_roles roles arguments)
clean-roles {scope} [] no_arguments h = clean-nil scope
clean-roles {scope} (r ∷ rs) no_arguments h = clean-nil scope
clean-roles {scope} [] (more_arguments {names = names} {others = others} n ns) h = clean-append scope names (in_roles [] others) n (clean-roles [] ns refl)
clean-roles {scope} (r ∷ rs) (more_arguments {t = t} {ts = ts} {from = from} {names = names} {others = others} n ns) h =
    let parts = and_parts (fits_role r scope (part_of_tree t).written) (roles_fit rs scope (written_all ts)) h in
    subst (λ (ms : List Mention). Clean scope (ms ++ (names ++ in_roles rs others))) (judged-closed (Argument r (part_of_tree t).written from) ns)
    (clean-argument scope r (part_of_tree t).written from (names ++ in_roles rs others) parts.0 (clean-append scope names (in_roles rs others) n (clean-roles rs ns parts.1)))

or_parts : (a c : Bool) → (a || c) ≡ true → (P : Type 0) → (a ≡ true → P) → (c ≡ true → P) → P
or_parts true c h P f g = f refl
or_parts false c h P f g = g h

-- at most three arguments, and at most four
at_most_three : (n : ℕ) → ((suc (suc (suc (suc n)))) == 2 || (suc (suc (suc (suc n)))) == 3) ≡ true → ⊥
at_most_three n h =
    or_parts ((suc (suc (suc (suc n)))) == 2) ((suc (suc (suc (suc n)))) == 3) h ⊥
    (λ e. let a = eqb-true (suc (suc (suc (suc n)))) 2 e in omega (arith, a)) (λ e. let a = eqb-true (suc (suc (suc (suc n)))) 3 e in omega (arith, a))

at_most_four : (n : ℕ) → ((suc (suc (suc (suc (suc n))))) == 3 || (suc (suc (suc (suc (suc n))))) == 4) ≡ true → ⊥
at_most_four n h =
    or_parts ((suc (suc (suc (suc (suc n))))) == 3) ((suc (suc (suc (suc (suc n))))) == 4) h ⊥
    (λ e. let a = eqb-true (suc (suc (suc (suc (suc n))))) 3 e in omega (arith, a)) (λ e. let a = eqb-true (suc (suc (suc (suc (suc n))))) 4 e in omega (arith, a))

pattern_fits : (scope : Scope) (ws : List Written) → (length ws == 2 || length ws == 3) ≡ true → arguments_fit f.Matches scope ws ≡ true → roles_fit (roles_of f.Matches) scope ws ≡ true
pattern_fits scope [] n h = absurd (false≢true n)
pattern_fits scope (t ∷ []) n h = absurd (false≢true n)
pattern_fits scope (t ∷ p ∷ []) n h = and_from (fits_role role.Pattern scope p) true h refl
pattern_fits scope (t ∷ p ∷ g ∷ []) n h =
    let parts = and_parts (fits_role role.Pattern scope p) (fits_role role.Flags scope g) h in
    and_from (fits_role role.Pattern scope p) (fits_role role.Flags scope g && true) parts.0 (and_from (fits_role role.Flags scope g) true parts.1 refl)
pattern_fits scope (t ∷ p ∷ g ∷ w ∷ ws) n h = absurd (at_most_three (length ws) n)

replacement_fits : (scope : Scope) (ws : List Written) → (length ws == 3 || length ws == 4) ≡ true → arguments_fit f.Replace scope ws ≡ true → roles_fit (roles_of f.Replace) scope ws ≡ true
replacement_fits scope [] n h = absurd (false≢true n)
replacement_fits scope (t ∷ []) n h = absurd (false≢true n)
replacement_fits scope (t ∷ p ∷ []) n h = absurd (false≢true n)
replacement_fits scope (t ∷ p ∷ r ∷ []) n h =
    let parts = and_parts (fits_role role.Pattern scope p) (fits_role role.Replacement scope r) h in
    and_from (fits_role role.Pattern scope p) (fits_role role.Replacement scope r && true) parts.0 (and_from (fits_role role.Replacement scope r) true parts.1 refl)
replacement_fits scope (t ∷ p ∷ r ∷ g ∷ []) n h =
    let all = and_parts (fits_role role.Pattern scope p && fits_role role.Replacement scope r) (fits_role role.Flags scope g) h in
    let parts = and_parts (fits_role role.Pattern scope p) (fits_role role.Replacement scope r) all.0 in
    and_from (fits_role role.Pattern scope p) (fits_role role.Replacement scope r && (fits_role role.Flags scope g && true)) parts.0
    (and_from (fits_role role.Replacement scope r) (fits_role role.Flags scope g && true) parts.1 (and_from (fits_role role.Flags scope g) true all.1 refl))
replacement_fits scope (t ∷ p ∷ r ∷ g ∷ w ∷ ws) n h = absurd (at_most_four (length ws) n)

same_pattern : (scope : Scope) (ws : List Written) → arguments_fit f.Tokenize scope ws ≡ arguments_fit f.Matches scope ws
same_pattern scope [] = refl
same_pattern scope (t ∷ []) = refl
same_pattern scope (t ∷ p ∷ []) = refl
same_pattern scope (t ∷ p ∷ g ∷ []) = refl
same_pattern scope (t ∷ p ∷ g ∷ w ∷ ws) = refl

pub arguments_roles : (function : Function) (scope : Scope) (ws : List Written) → takes function (length ws) ≡ true → arguments_fit function scope ws ≡ true → roles_fit (roles_of function) scope ws ≡ true
arguments_roles f.Matches scope ws n h = pattern_fits scope ws n h
arguments_roles f.Tokenize scope ws n h = pattern_fits scope ws n (sym (same_pattern scope ws) ∙ h)
arguments_roles f.Replace scope ws n h = replacement_fits scope ws n h
arguments_roles _ scope ws n h = refl
