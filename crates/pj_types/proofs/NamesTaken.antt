-- Names to visit, where the next one lies last.
use Rattle.std.proofs.Common.{◌≡◌, ◌++◌, ◌∙◌, List, [], ◌∷◌, Some, true, false, cond, ap, reverse, subst}
use Rattle.std.proofs.lemmas.List.{reverse-append, reverse-reverse}
use Rattle.std.specs.FinSet as set
use Rattle.pj_names.specs.ClassName.{Name, NameSet}
use Rattle.pj_types.specs.NameWalks.{Gives, NameStanding, left}

last-taken : (rest more : List Name) (class : Name) → rest ≡ more ++ class ∷ [] → reverse rest ≡ class ∷ reverse more
last-taken rest more class is = ap reverse is ∙ reverse-append more (class ∷ [])

-- one that was visited is left out
pub taken-visited : (visited : NameSet) (rest more : List Name) (class : Name) → rest ≡ more ++ class ∷ [] → set.contains visited class ≡ true → left visited (reverse rest) ≡ left visited (reverse more)
taken-visited visited rest more class is was =
    ap (left visited) (last-taken rest more class is) ∙ ap (λ b. cond b (left visited (reverse more)) (class ∷ reverse more)) was

-- one that was not is the next one
pub taken-new : (visited : NameSet) (rest more : List Name) (class : Name) → rest ≡ more ++ class ∷ [] → set.contains visited class ≡ false → left visited (reverse rest) ≡ class ∷ reverse more
taken-new visited rest more class is new =
    ap (left visited) (last-taken rest more class is) ∙ ap (λ b. cond b (left visited (reverse more)) (class ∷ reverse more)) new

pub taken-none : (visited : NameSet) (rest : List Name) → rest ≡ [] → left visited (reverse rest) ≡ []
taken-none visited rest none = ap (λ names. left visited (reverse names)) none

-- more of them are put before the others
pub put-back : (to_visit more pushed : List Name) → pushed ≡ to_visit ++ reverse more → reverse pushed ≡ more ++ reverse to_visit
put-back to_visit more pushed is = ap reverse is ∙ reverse-append to_visit (reverse more) ∙ ap (λ names. names ++ reverse to_visit) (reverse-reverse more)

pub ruleset takes = (taken-visited, taken-new, taken-none)

-- ---- where a walk stands

abbrev pub standing : NameSet → List Name → NameStanding
standing visited to_visit = (visited, to_visit)

pub begun : (visited : NameSet) (none one : List Name) (copy class : Name) → visited ≡ set.empty → none ≡ [] → one ≡ none ++ copy ∷ [] → copy ≡ class → standing visited (reverse one) ≡ standing set.empty (class ∷ [])
begun visited none one copy class new empty is same =
    ap (λ (v : NameSet). standing v (reverse one)) new
    ∙ ap (λ names. standing set.empty (reverse names)) (is ∙ ap (λ names. names ++ copy ∷ []) empty ∙ ap (λ (name : Name). name ∷ []) same)

pub given-none : (walk : NameStanding) (visited : NameSet) (to_visit : List Name) → standing visited (reverse to_visit) ≡ walk → left visited (reverse to_visit) ≡ [] → left walk.0 walk.1 ≡ []
given-none walk visited to_visit is none = subst (λ (w : NameStanding). left w.0 w.1 ≡ []) is none

pub given-one : (walk : NameStanding) (visited noted : NameSet) (to_visit rest : List Name) (class : Name) → standing visited (reverse to_visit) ≡ walk
    → left visited (reverse to_visit) ≡ class ∷ reverse rest → noted ≡ set.insert visited class → Gives walk (standing noted (reverse rest)) (Some class)
given-one walk visited noted to_visit rest class is one more =
    subst (λ (w : NameStanding). (left w.0 w.1 ≡ class ∷ reverse rest) × (noted ≡ set.insert w.0 class)) is (one, more)

pub put-standing : (walk : NameStanding) (visited : NameSet) (to_visit more pushed : List Name) → standing visited (reverse to_visit) ≡ walk → pushed ≡ to_visit ++ reverse more
    → standing visited (reverse pushed) ≡ standing walk.0 (more ++ walk.1)
put-standing walk visited to_visit more pushed is put =
    ap (standing visited) (put-back to_visit more pushed put) ∙ ap (λ (w : NameStanding). standing w.0 (more ++ w.1)) is

pub ruleset begins = (begun)

pub ruleset gives = (given-none, given-one)

pub ruleset puts = (put-back, put-standing)
