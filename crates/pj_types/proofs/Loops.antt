-- What is still to come of the loops over a walk.
use Rattle.std.proofs.Common.{◌≡◌, ℕ, ◌<◌, ◌+◌, ◌-◌, suc, List, ap, refl, sym, ◌∙◌, arith}
use Rattle.std.specs.Prelude.{map, Option, Some, None}
use Rattle.pj_names.specs.ClassName.{Name}
use Rattle.pj_names.specs.JavaType.{JavaType}
use Rattle.pj_names.specs.Asking.{Asking, Return, Unbounded, bind}
use Rattle.pj_names.proofs.MeaningLaws.{bind-bind}
use Rattle.pj_names.specs.Told.{Told, longest}
use Rattle.pj_names.proofs.AskingLaws.{ComesTo, comes-deeper}
use Rattle.pj_types.specs.Supertypes.{Listed, Standing, begin, given_type, no_hit, supertypes_within, supertype_list, step}
use Rattle.pj_types.proofs.WalkLaws.{onward, as_types, tested, onward-step, search-onward}

-- the list, from where a walk stands
abbrev pub types_from : ℕ → Standing → Asking (List JavaType)
types_from n standing = bind (onward no_hit n standing) (λ o. Return (map given_type o.1))

abbrev pub types_after : ℕ → Option JavaType → Standing → Asking (List JavaType)
types_after n None standing = Return (map given_type standing.given)
types_after n (Some ty) standing = types_from n standing

types-begin : (most : ℕ) (name : Name) → supertypes_within most name ≡ types_from most (begin name)
types-begin most name =
    ap (λ (m : Asking (Option (Unit {0}) × List JavaType)). bind m (λ o. Return o.1)) (search-onward most no_hit name)
    ∙ bind-bind (onward no_hit most (begin name)) (λ o. Return (as_types o)) (λ o. Return o.1)

types-suc : (n : ℕ) (standing : Standing) → types_from (suc n) standing ≡ bind (step standing) (λ o. types_after n o.0 o.1)
types-suc n standing =
    ap (λ (m : Asking (Option (Unit {0}) × List Listed)). bind m (λ o. Return (map given_type o.1))) (onward-step no_hit n standing)
    ∙ bind-bind (step standing) (λ o. tested no_hit n o.0 o.1) (λ o. Return (map given_type o.1))
    ∙ (λ i. bind (step standing) (λ o. at o.0 o.1 i))
  where
    at : (next : Option JavaType) (further : Standing) → bind (tested no_hit n next further) (λ o. Return (map given_type o.1)) ≡ types_after n next further
    at None further = refl
    at (Some ty) further = refl

types-turn : (most i : ℕ) (standing : Standing) → i < most → types_from (most - i) standing ≡ bind (step standing) (λ o. types_after (most - (i + 1)) o.0 o.1)
types-turn most i standing below = let more : most - i ≡ suc (most - (i + 1)) = omega arith in ap (λ n. types_from n standing) more ∙ types-suc (most - (i + 1)) standing

-- the loop's invariant where it begins and where a turn begins

abbrev pub all_types : ℕ → Standing → Asking (List JavaType)
all_types i standing = Unbounded (λ most. types_from (most - i) standing)

abbrev pub types_on : ℕ → Option JavaType → Standing → Asking (List JavaType)
types_on i next standing = Unbounded (λ most. types_after (most - i) next standing)

pub begin-from : (name : Name) (standing : Standing) → standing ≡ begin name → supertype_list name ≡ all_types 0 standing
begin-from name standing is = λ i. Unbounded (λ most. (types-begin most name ∙ (let all : most ≡ most - 0 = omega arith in λ j. types_from (all j) (sym is j))) i)

-- one turn of the loop
pub turn-from : {K : Type 0} (i : ℕ) (standing : Standing) {m : Asking (List JavaType)} {t u : Told K} → i < longest → ComesTo m t (all_types i standing) u
    → ComesTo m t (bind (step standing) (λ o. types_on (i + 1) o.0 o.1)) u
turn-from i standing below so_far = comes-deeper (step standing) (λ most o. types_after (most - (i + 1)) o.0 o.1) (λ most far. types-turn most i standing (omega (arith, below, far))) so_far
