-- A call whose name and arguments have no fault fits.
use Rattle.std.proofs.Common.{◌≡◌, ℕ, suc, ◌⊎◌, inl, inr, Bool, true, false, List, [], ◌∷◌, ◌++◌, map, length, Option, Some, None, refl, sym, ap, subst}
use Rattle.std.specs.Prelude.{⊤, ◌&&◌}
use Rattle.std.proofs.lemmas.Bool.{and_from}
use Rattle.pj_xexpressions.specs.declared.function.Function.{Function}
use Rattle.pj_xexpressions.specs.declared.function.Function.TheVariants as f
use Rattle.pj_xexpressions.specs.Expressions.{Part, Scope, Written, Other, all_fit, arguments_fit, is_pattern, are_flags, is_replacement}
use Rattle.pj_xexpressions.specs.Functions.{takes, pmd_takes}
use Rattle.pj_xexpressions.specs.Trees as tree
use Rattle.pj_xexpressions.specs.Trees.{Tree}
use Rattle.pj_xexpressions.specs.Names.{callee_of}
use Rattle.pj_xreadings.specs.Steps.{called, filtered}
use Rattle.pj_xexpressions.specs.declared.name.Callee.{Callee}
use Rattle.pj_xexpressions.specs.declared.name.Callee.TheVariants as callee
use Rattle.pj_xreadings.specs.declared.role.Role.{Role}
use Rattle.pj_xreadings.specs.declared.role.Role.TheVariants as role
use Rattle.pj_xreadings.specs.Mentions.{Mention, Call, Argument, roles_of, roles_in, roles_named}
use Rattle.pj_xparse.specs.NameFaults as fault
use Rattle.pj_xparse.specs.NameFaults.{Fault, Form, unless, fits_role, callee_takes, first_fault_from}
use Rattle.pj_xreadings.specs.Shapes.{part_of_tree}
use Rattle.pj_xreadings.specs.Nodes.{part_of_node}
use Rattle.pj_xreadings.specs.Operands.{Operand, Arguments, Closed, Open, Next, trees_of, names_of, arguments_in, is_closed, in_roles, told, call}
use Rattle.pj_xparse.proofs.Faultless.{AreBalanced, none_balanced, both_balanced, one_balanced, both_none, first_none}
use Rattle.pj_xparse.proofs.Fit.{IsFit, AreFit, more_fit, chain_fit, filter_chain}
use Rattle.pj_xparse.proofs.FitValues.{Fits, AllFit, ArgumentsFit}

pub good_unless : (b : Bool) (x : Fault) → unless b x ≡ None → b ≡ true
good_unless true x e = refl
good_unless false x e = absurd (let z = e in cc)

-- ---- a list of arguments that is closed

all_closed : (arguments : Arguments) → ArgumentsFit arguments → is_closed arguments ≡ true
all_closed Closed h = refl
all_closed Open h = absurd h
all_closed (Next from a more) h = all_closed more h.1

-- each argument is judged, before what it names
judged_first : (r : Role) (roles : List Role) (from : ℕ) (a : Operand) (more : Arguments) → ArgumentsFit more →
    in_roles (r ∷ roles) (Next from a more) ≡ Argument r a.written from ∷ (a.names ++ in_roles roles more)
judged_first r roles from a Closed h = refl
judged_first r roles from a Open h = absurd h
judged_first r roles from a (Next next b more) h = refl

roles_balanced : (roles : List Role) (arguments : Arguments) → ArgumentsFit arguments → AreBalanced (in_roles roles arguments)
roles_balanced roles Closed h = none_balanced
roles_balanced roles Open h = absurd h
roles_balanced [] (Next from a more) h = both_balanced h.0.balanced (roles_balanced [] more h.1)
roles_balanced (r ∷ roles) (Next from a more) h =
    subst AreBalanced (sym (judged_first r roles from a more h.1)) (one_balanced (λ s. refl) (both_balanced h.0.balanced (roles_balanced roles more h.1)))

-- ---- arguments that are written as their roles want them

AreInRoles : Scope → List Role → List Written → Type 0
AreInRoles s roles [] = ⊤
AreInRoles s [] (w ∷ ws) = ⊤
AreInRoles s (r ∷ roles) (w ∷ ws) = (fits_role r s w ≡ true) × AreInRoles s roles ws

as_written : (s : Scope) (r : Role) (w v : Written) → (w ≡ Other) ⊎ (w ≡ v) → fits_role r s w ≡ true → fits_role r s v ≡ true
as_written s r w v (inr same) e = subst (λ (x : Written). fits_role r s x ≡ true) same e
as_written s role.Any w v (inl other) e = refl
as_written s role.Pattern w v (inl other) e = let z = subst (λ (x : Written). is_pattern s x ≡ true) other e in absurd (cc)
as_written s role.Replacement w v (inl other) e = let z = subst (λ (x : Written). is_replacement x ≡ true) other e in absurd (cc)
as_written s role.Flags w v (inl other) e = let z = subst (λ (x : Written). are_flags x ≡ true) other e in absurd (cc)

-- what the parts of arguments show
writtens : List Tree → List Written
writtens ts = map (λ (p : Part). p.written) (map part_of_tree ts)

record InRoles (s : Scope) (roles : List Role) (ts : List Tree) : Type 0 where
  fit : all_fit s (map part_of_tree ts) ≡ true
  written_well : AreInRoles s roles (writtens ts)

all_in_roles : (s : Scope) (roles : List Role) (arguments : Arguments) → ArgumentsFit arguments → first_fault_from s (in_roles roles arguments) ≡ None →
    InRoles s roles (trees_of (arguments_in arguments))
unfolding AreInRoles writtens
all_in_roles s roles Closed h e = record { fit = refl; written_well = tt }
all_in_roles s roles Open h e = absurd h
all_in_roles s [] (Next from a more) h e =
    let (here, rest) = both_none s (in_roles [] more) h.0.balanced e in
    let further = all_in_roles s [] more h.1 rest in
    record { fit = and_from ((part_of_tree a.tree).fits s) (all_fit s (map part_of_tree (trees_of (arguments_in more)))) (h.0.fits s here) further.fit; written_well = tt }
all_in_roles s (r ∷ roles) (Next from a more) h e =
    let told_first = subst (λ (ms : List Mention). first_fault_from s ms ≡ None) (judged_first r roles from a more h.1) e in
    let (good, behind) = first_none s (Argument r a.written from) (a.names ++ in_roles roles more) told_first in
    let (here, rest) = both_none s (in_roles roles more) h.0.balanced behind in
    let further = all_in_roles s roles more h.1 rest in
    record {
      fit = and_from ((part_of_tree a.tree).fits s) (all_fit s (map part_of_tree (trees_of (arguments_in more)))) (h.0.fits s here) further.fit;
      written_well = (as_written s r a.written (part_of_tree a.tree).written h.0.written_as (good_unless (fits_role r s a.written) (Form from) good), further.written_well);
    }

-- arguments in the roles that the function gives them are as it wants them
arguments_as : (s : Scope) (function : Function) (ws : List Written) → AreInRoles s (roles_of function) ws → arguments_fit function s ws ≡ true
unfolding AreInRoles
arguments_as s f.Matches [] h = refl
arguments_as s f.Matches (a ∷ []) h = refl
arguments_as s f.Matches (a ∷ b ∷ []) h = h.1.0
arguments_as s f.Matches (a ∷ b ∷ c ∷ []) h = and_from (is_pattern s b) (are_flags c) h.1.0 h.1.1.0
arguments_as s f.Matches (a ∷ b ∷ c ∷ d ∷ ws) h = refl
arguments_as s f.Tokenize [] h = refl
arguments_as s f.Tokenize (a ∷ []) h = refl
arguments_as s f.Tokenize (a ∷ b ∷ []) h = h.1.0
arguments_as s f.Tokenize (a ∷ b ∷ c ∷ []) h = and_from (is_pattern s b) (are_flags c) h.1.0 h.1.1.0
arguments_as s f.Tokenize (a ∷ b ∷ c ∷ d ∷ ws) h = refl
arguments_as s f.Replace [] h = refl
arguments_as s f.Replace (a ∷ []) h = refl
arguments_as s f.Replace (a ∷ b ∷ []) h = refl
arguments_as s f.Replace (a ∷ b ∷ c ∷ []) h = and_from (is_pattern s b) (is_replacement c) h.1.0 h.1.1.0
arguments_as s f.Replace (a ∷ b ∷ c ∷ d ∷ []) h = and_from (is_pattern s b && is_replacement c) (are_flags d) (and_from (is_pattern s b) (is_replacement c) h.1.0 h.1.1.0) h.1.1.1.0
arguments_as s f.Replace (a ∷ b ∷ c ∷ d ∷ e ∷ ws) h = refl
arguments_as s _ ws h = refl

-- ---- calls

one_part_each : (operands : List Operand) → length operands ≡ length (map part_of_tree (trees_of operands))
one_part_each [] = refl
one_part_each (a ∷ more) = ap suc (one_part_each more)

called_fits : (s : Scope) (c : Option Callee) (arguments : Arguments) → ArgumentsFit arguments → callee_takes c (length (arguments_in arguments)) ≡ true →
    first_fault_from s (in_roles (roles_in c) arguments) ≡ None → (part_of_tree (called c (trees_of (arguments_in arguments)))).fits s ≡ true
unfolding writtens
called_fits s None arguments h takes_it e = absurd (let z = takes_it in cc)
called_fits s (Some (callee.XPath function)) arguments h takes_it e =
    let operands : List Operand = arguments_in arguments in
    let ts : List Tree = trees_of operands in
    let all = all_in_roles s (roles_of function) arguments h e in
    let count : takes function (length (map part_of_tree ts)) ≡ true = subst (λ (n : ℕ). takes function n ≡ true) (one_part_each operands) takes_it in
    let written = arguments_as s function (writtens ts) all.written_well in
    subst (λ (p : Part). p.fits s ≡ true) (sym (part_of_node (tree.Call function) ts))
    (and_from (takes function (length (map part_of_tree ts)) && arguments_fit function s (writtens ts)) (all_fit s (map part_of_tree ts))
    (and_from (takes function (length (map part_of_tree ts))) (arguments_fit function s (writtens ts)) count written) all.fit)
called_fits s (Some (callee.Pmd function)) arguments h takes_it e =
    let operands : List Operand = arguments_in arguments in
    let ts : List Tree = trees_of operands in
    let all = all_in_roles s [] arguments h e in
    let count : pmd_takes function (length (map part_of_tree ts)) ≡ true = subst (λ (n : ℕ). pmd_takes function n ≡ true) (one_part_each operands) takes_it in
    subst (λ (p : Part). p.fits s ≡ true) (sym (part_of_node (tree.PmdCall function) ts))
    (and_from (pmd_takes function (length (map part_of_tree ts))) (all_fit s (map part_of_tree ts)) count all.fit)

-- an expression with its predicates
filtered_fit : {t : Tree} {ps : List Tree} {ms ns : List Mention} → IsFit t Other ms → AreFit ps ns → IsFit (filtered t ps) Other (ms ++ ns)
filtered_fit {t} {ps = []} {ms} {ns} a b = record {
  balanced = both_balanced a.balanced b.balanced;
  fits = λ s e. a.fits s (both_none s ns a.balanced e).0;
  written_as = inl refl;
}
filtered_fit {ps = p ∷ ps} a b = chain_fit filter_chain (more_fit a b)

-- a call with its predicates
pub call_fits : (name : List ℕ) (from : ℕ) (arguments : Arguments) (predicates : List Operand) → ArgumentsFit arguments → AllFit predicates → Fits (call name from arguments predicates)
call_fits name from arguments predicates h ps =
    let operands : List Operand = arguments_in arguments in
    let wants : List Mention = in_roles (roles_named name) arguments in
    let whole : Mention = Call name (length operands) from in
    let t : Tree = called (callee_of name) (trees_of operands) in
    let it : IsFit t Other (whole ∷ wants) = record {
      balanced = one_balanced (λ s. refl) (roles_balanced (roles_named name) arguments h);
      fits = λ s e.
          let (known, good) = first_none s whole wants e in
          called_fits s (callee_of name) arguments h (good_unless (callee_takes (callee_of name) (length operands)) (fault.Function name from) known) good;
      written_as = inl refl;
    } in
    subst (λ (b : Bool). IsFit (filtered t (trees_of predicates)) Other (told b (callee_of name) whole ++ (wants ++ names_of predicates))) (sym (all_closed arguments h)) (filtered_fit it ps)
