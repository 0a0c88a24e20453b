-- The turns of a loop over a walk that looks for the first hit along a list of supertypes.
use Rattle.std.specs.Prelude.{◌≡◌, ℕ, suc, ◌-◌, ◌+◌, ◌<◌, List, Option, Some, None, refl}
use Rattle.std.proofs.Common.{ap, sym, ◌∙◌, arith}
use Rattle.pj_names.specs.ClassName.{Name}
use Rattle.pj_names.specs.JavaType.{JavaType}
use Rattle.pj_names.specs.Asking.{Asking, Return, Unbounded, bind, or_else}
use Rattle.pj_names.proofs.AskingLaws.{ComesTo, comes-deeper, within-self, within-trans, within-insert, within-names, within-after, asked_after-bind}
use Rattle.pj_names.proofs.MeaningLaws.{bind-bind, value_of-bind}
use Rattle.pj_names.specs.Told.{Told, longest}
use Rattle.pj_types.specs.Supertypes.{Listed, Standing, begin, search_within, step}
use Rattle.pj_types.proofs.WalkLaws.{onward, as_types, tested, unless_hit, onward-step, search-onward}
use Rattle.pj_types.specs.Along.{first_along}

-- the same from where a walk stands, where at most so many more classes are visited
abbrev pub first_from : {B : Type 0} → (JavaType → Asking (Option B)) → ℕ → Standing → Asking (Option B)
first_from test n standing = bind (onward test n standing) (λ outcome. Return outcome.0)

abbrev pub first_after : {B : Type 0} → (JavaType → Asking (Option B)) → ℕ → Option JavaType → Standing → Asking (Option B)
first_after test n None standing = Return None
first_after test n (Some ty) standing = bind (test ty) (λ hit. or_else hit (first_from test n standing))

-- The same from where a walk stands after some steps.
abbrev pub first_rest : {B : Type 0} → (JavaType → Asking (Option B)) → ℕ → Standing → Asking (Option B)
first_rest test steps standing = Unbounded (λ most. first_from test (most - steps) standing)

first-suc : {B : Type 0} (test : JavaType → Asking (Option B)) (n : ℕ) (standing : Standing) → first_from test (suc n) standing ≡ bind (step standing) (λ o. first_after test n o.0 o.1)
first-suc {B = B} test n standing =
    ap (λ (m : Asking (Option B × List Listed)). bind m (λ o. Return o.0)) (onward-step test n standing)
    ∙ bind-bind (step standing) (λ o. tested test n o.0 o.1) (λ o. Return o.0)
    ∙ (λ i. bind (step standing) (λ o. at o.0 o.1 i))
  where
    hits : (further : Standing) (hit : Option B) → bind (unless_hit hit further (onward test n further)) (λ o. Return o.0) ≡ or_else hit (first_from test n further)
    hits further (Some h) = refl
    hits further None = refl

    at : (next : Option JavaType) (further : Standing) → bind (tested test n next further) (λ o. Return o.0) ≡ first_after test n next further
    at None further = refl
    at (Some ty) further =
        bind-bind (test ty) (λ hit. unless_hit hit further (onward test n further)) (λ o. Return o.0)
        ∙ (λ i. bind (test ty) (λ hit. hits further hit i))

first-at : {B : Type 0} (test : JavaType → Asking (Option B)) (most steps : ℕ) (standing : Standing) → steps < most → first_from test (most - steps) standing ≡ bind (step standing) (λ o. first_after test (most - (steps + 1)) o.0 o.1)
first-at test most steps standing below =
    let more : most - steps ≡ suc (most - (steps + 1)) = omega arith in
    ap (λ n. first_from test n standing) more ∙ first-suc test (most - (steps + 1)) standing

-- One turn of a loop: a step is made.
pub first-turn : {K B : Type 0} (test : JavaType → Asking (Option B)) (steps : ℕ) (standing : Standing) {m : Asking (Option B)} {t u : Told K} → steps < longest
    → ComesTo m t (first_rest test steps standing) u → ComesTo m t (bind (step standing) (λ o. Unbounded (λ most. first_after test (most - (steps + 1)) o.0 o.1))) u
first-turn test steps standing below so_far =
    comes-deeper (step standing) (λ most o. first_after test (most - (steps + 1)) o.0 o.1) (λ most far. first-at test most steps standing (omega (arith, below, far))) so_far

-- The class that the step gave is tested.
pub first-tested : {K B : Type 0} (test : JavaType → Asking (Option B)) (steps : ℕ) (ty : JavaType) (standing : Standing) {m : Asking (Option B)} {t u : Told K}
    → ComesTo m t (Unbounded (λ most. first_after test (most - steps) (Some ty) standing)) u → ComesTo m t (bind (test ty) (λ hit. Unbounded (λ most. or_else hit (first_from test (most - steps) standing)))) u
first-tested test steps ty standing so_far = comes-deeper (test ty) (λ most hit. or_else hit (first_from test (most - steps) standing)) (λ most far. refl) so_far

-- the beginning
pub first-begin : {B : Type 0} (test : JavaType → Asking (Option B)) (class : Name) (standing : Standing) → standing ≡ begin class → first_along test class ≡ first_rest test 0 standing
first-begin {B = B} test class standing is = λ i. Unbounded (λ most. at most i)
  where
    at : (most : ℕ) → bind (search_within most test class) (λ outcome. Return outcome.0) ≡ first_from test (most - 0) standing
    at most =
        let all : most ≡ most - 0 = omega arith in
        ap (λ (m : Asking (Option B × List JavaType)). bind m (λ o. Return o.0)) (search-onward most test class)
        ∙ bind-bind (onward test most (begin class)) (λ o. Return (as_types o)) (λ o. Return o.0)
        ∙ (λ i. first_from test (all i) (sym is i))

-- for a function that asks in a loop over a walk: `#[tactic(auto, using(pj_types::proofs::AlongTurns::along_loops))]`
pub ruleset along_loops = (within-self, within-trans, within-insert, within-names, within-after, value_of-bind, asked_after-bind)
