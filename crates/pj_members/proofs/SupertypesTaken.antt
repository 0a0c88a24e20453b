-- Classes to visit, where the next one lies last.
use Rattle.std.proofs.Common.{◌≡◌, ◌++◌, ◌∙◌, List, [], ◌∷◌, Some, true, false, cond, ap, reverse}
use Rattle.std.proofs.lemmas.List.{map-append, reverse-append, reverse-reverse}
use Rattle.std.specs.FinSet as set
use Rattle.pj_names.specs.ClassName.{NameSet}
use Rattle.pj_types.specs.Supertypes.{Listed}
use Rattle.pj_members.specs.declared.supertypes.Supertype.{Supertype}
use Rattle.pj_members.specs.SupertypeWalks.{Gives, Standing, all_supertypes, left, supertype_view}

last-taken : (rest more : List Supertype) (class : Supertype) → rest ≡ more ++ class ∷ [] → all_supertypes (reverse rest) ≡ supertype_view class ∷ all_supertypes (reverse more)
last-taken rest more class is = ap (λ l. all_supertypes (reverse l)) is ∙ ap all_supertypes (reverse-append more (class ∷ []))

-- one that was visited is left out
pub taken-visited : (visited : NameSet) (rest more : List Supertype) (class : Supertype) → rest ≡ more ++ class ∷ [] → set.contains visited class.name ≡ true
    → left visited (all_supertypes (reverse rest)) ≡ left visited (all_supertypes (reverse more))
taken-visited visited rest more class is was =
    ap (left visited) (last-taken rest more class is) ∙ ap (λ b. cond b (left visited (all_supertypes (reverse more))) (supertype_view class ∷ all_supertypes (reverse more))) was

-- one that was not is the next one
pub taken-new : (visited : NameSet) (rest more : List Supertype) (class : Supertype) → rest ≡ more ++ class ∷ [] → set.contains visited class.name ≡ false
    → left visited (all_supertypes (reverse rest)) ≡ supertype_view class ∷ all_supertypes (reverse more)
taken-new visited rest more class is new =
    ap (left visited) (last-taken rest more class is) ∙ ap (λ b. cond b (left visited (all_supertypes (reverse more))) (supertype_view class ∷ all_supertypes (reverse more))) new

pub taken-none : (visited : NameSet) (rest : List Supertype) → rest ≡ [] → left visited (all_supertypes (reverse rest)) ≡ []
taken-none visited rest none = ap (λ classes. left visited (all_supertypes (reverse classes))) none

-- more of them are put before the others
pub put-back : (to_visit more pushed : List Supertype) → pushed ≡ to_visit ++ reverse more → all_supertypes (reverse pushed) ≡ all_supertypes more ++ all_supertypes (reverse to_visit)
put-back to_visit more pushed is =
    ap all_supertypes (ap reverse is ∙ reverse-append to_visit (reverse more) ∙ ap (λ classes. classes ++ reverse to_visit) (reverse-reverse more))
    ∙ map-append supertype_view more (reverse to_visit)

pub ruleset takes = (taken-visited, taken-new, taken-none)

-- ---- where a walk stands

abbrev pub at : NameSet → List Listed → Standing
at visited to_visit = (visited, to_visit)

pub begun : (visited : NameSet) (none one : List Supertype) (head : Supertype) → visited ≡ set.empty → none ≡ [] → one ≡ none ++ head ∷ []
    → at visited (all_supertypes (reverse one)) ≡ at set.empty (supertype_view head ∷ [])
begun visited none one head new empty is =
    ap (λ (v : NameSet). at v (all_supertypes (reverse one))) new
    ∙ ap (λ classes. at set.empty (all_supertypes (reverse classes))) (is ∙ ap (λ classes. classes ++ head ∷ []) empty)

pub given-one : (visited noted : NameSet) (to_visit rest : List Supertype) (class : Supertype)
    → left visited (all_supertypes (reverse to_visit)) ≡ supertype_view class ∷ all_supertypes (reverse rest) → noted ≡ set.insert visited class.name
    → Gives (at visited (all_supertypes (reverse to_visit))) (at noted (all_supertypes (reverse rest))) (Some (supertype_view class))
given-one visited noted to_visit rest class one more = (one, more)

pub put-standing : (visited : NameSet) (to_visit more pushed : List Supertype) → pushed ≡ to_visit ++ reverse more
    → at visited (all_supertypes (reverse pushed)) ≡ at visited (all_supertypes more ++ all_supertypes (reverse to_visit))
put-standing visited to_visit more pushed put = ap (at visited) (put-back to_visit more pushed put)

pub ruleset begins = (begun)

pub ruleset gives = (given-one)

pub ruleset puts = (put-back, put-standing)
