-- The classes around a place, one after the other.
use Rattle.std.proofs.Common.{◌≡◌, ℕ, zero, suc, ◌<◌, ◌≤◌, arith, Bool, true, false, cond, List, [], ◌∷◌, ◌++◌, length, map, Option, None, Some, ap, refl, sym, subst, ◌∙◌, inl, inr}
use Rattle.std.specs.Option.{MatchOption, IsSomeAnd, option_and_then, option_map_or}
use Rattle.std.proofs.lemmas.Bool.{cases_Bool, cases_lt as which}
use Rattle.pj_tree.specs.Tree.{Tree, IsSyntaxTree, ancestors_of, kind_of, parent_of}
use Rattle.pj_tree.specs.declared.node.Node.{Node}
use Rattle.pj_declared.specs.Bodies.{class_at, first_showing, shows_members}
use Rattle.pj_declared.specs.declared.nearest.Declared.{Declared}
use Rattle.pj_written.specs.Words.{one_or_none}
use Rattle.pj_outer_names.specs.Around.{classes_around, further_in, is_found_within, owners, showing}

-- ---- parents

above_is : (t : Tree) (n p : Node) → IsSyntaxTree t → n.0 < length t.nodes → parent_of t n ≡ Some p → ancestors_of t n ≡ p ∷ ancestors_of t p
above_is t n p s h e =
    subst (λ (o : Option Node). MatchOption o (ancestors_of t n ≡ []) (λ q. ancestors_of t n ≡ q ∷ ancestors_of t q)) e (s.ancestry n h)

root_is : (t : Tree) (n : Node) → IsSyntaxTree t → n.0 < length t.nodes → parent_of t n ≡ None → ancestors_of t n ≡ []
root_is t n s h e =
    subst (λ (o : Option Node). MatchOption o (ancestors_of t n ≡ []) (λ q. ancestors_of t n ≡ q ∷ ancestors_of t q)) e (s.ancestry n h)

parent_below : (t : Tree) (n p : Node) → IsSyntaxTree t → n.0 < length t.nodes → parent_of t n ≡ Some p → p.0 < n.0
parent_below t n p s h e = elim (which 0 n.0) [
  | inl below ↦ subst (λ (o : Option Node). IsSomeAnd o (λ q. q.0 < n.0)) e (s.below n below h)
  | inr least ↦ first least
]
  where
    first : n.0 ≤ 0 → p.0 < n.0
    first least =
        let zero_is : n.0 ≡ 0 = omega arith in
        let none : parent_of t n ≡ None = ap (λ k. parent_of t (record { 0 = k })) zero_is ∙ s.root in
        let both : Some p ≡ None = sym e ∙ none in
        absurd (cc)

-- ---- one class more

abbrev shows : Tree → Node → Bool
shows t n = option_map_or shows_members (kind_of t n) false

abbrev pub IsNext : Tree → Node → Option Node → Type 0
IsNext t place found = MatchOption found (classes_around t place ≡ []) (λ class. classes_around t place ≡ class ∷ classes_around t class)

moved : (t : Tree) (place above : Node) (found : Option Node) → classes_around t place ≡ classes_around t above → IsNext t above found → IsNext t place found
moved t place above None same next = same ∙ next
moved t place above (Some class) same next = same ∙ next

-- a body, or the header of a record: the class is its parent
in_body : (t : Tree) (place : Node) (above : Option Node) → IsSyntaxTree t → place.0 < length t.nodes → shows t place ≡ true → parent_of t place ≡ above → IsNext t place above
in_body t place None s h is up =
    ap (λ b. owners (map (parent_of t) (cond b (place ∷ showing t (ancestors_of t place)) (showing t (ancestors_of t place))))) is
    ∙ ap (λ o. one_or_none o ++ owners (map (parent_of t) (showing t (ancestors_of t place)))) up
    ∙ ap (λ ns. owners (map (parent_of t) (showing t ns))) (root_is t place s h up)
in_body t place (Some p) s h is up =
    ap (λ b. owners (map (parent_of t) (cond b (place ∷ showing t (ancestors_of t place)) (showing t (ancestors_of t place))))) is
    ∙ ap (λ o. one_or_none o ++ owners (map (parent_of t) (showing t (ancestors_of t place)))) up
    ∙ ap (λ ns. p ∷ owners (map (parent_of t) (showing t ns))) (above_is t place p s h up)

around_skips : (t : Tree) (place p : Node) → IsSyntaxTree t → place.0 < length t.nodes → shows t place ≡ false → parent_of t place ≡ Some p → classes_around t place ≡ classes_around t p
around_skips t place p s h is up =
    ap (λ b. owners (map (parent_of t) (cond b (place ∷ showing t (ancestors_of t place)) (showing t (ancestors_of t place))))) is
    ∙ ap (λ ns. owners (map (parent_of t) (showing t ns))) (above_is t place p s h up)

around_none : (t : Tree) (place : Node) → IsSyntaxTree t → place.0 < length t.nodes → shows t place ≡ false → parent_of t place ≡ None → classes_around t place ≡ []
around_none t place s h is up =
    ap (λ b. owners (map (parent_of t) (cond b (place ∷ showing t (ancestors_of t place)) (showing t (ancestors_of t place))))) is
    ∙ ap (λ ns. owners (map (parent_of t) (showing t ns))) (root_is t place s h up)

class_shown : (t : Tree) (place : Node) → shows t place ≡ true → class_at t place ≡ parent_of t place
class_shown t place is = ap (λ b. option_and_then (parent_of t) (cond b (Some place) (first_showing t (ancestors_of t place)))) is

class_skips : (t : Tree) (place p : Node) → IsSyntaxTree t → place.0 < length t.nodes → shows t place ≡ false → parent_of t place ≡ Some p → class_at t place ≡ class_at t p
class_skips t place p s h is up =
    ap (λ b. option_and_then (parent_of t) (cond b (Some place) (first_showing t (ancestors_of t place)))) is
    ∙ ap (λ ns. option_and_then (parent_of t) (first_showing t ns)) (above_is t place p s h up)

class_none : (t : Tree) (place : Node) → IsSyntaxTree t → place.0 < length t.nodes → shows t place ≡ false → parent_of t place ≡ None → class_at t place ≡ None
class_none t place s h is up =
    ap (λ b. option_and_then (parent_of t) (cond b (Some place) (first_showing t (ancestors_of t place)))) is
    ∙ ap (λ ns. option_and_then (parent_of t) (first_showing t ns)) (root_is t place s h up)

next_by : (t : Tree) (place : Node) (above : Option Node) → IsSyntaxTree t → place.0 < length t.nodes → parent_of t place ≡ above
    → ((p : Node) → p.0 < place.0 → IsNext t p (class_at t p)) → IsNext t place (class_at t place)
next_by t place None s h up further = elim (cases_Bool (shows t place)) [
  | inl is ↦ subst (IsNext t place) (sym (class_shown t place is ∙ up)) (in_body t place None s h is up)
  | inr is ↦ subst (IsNext t place) (sym (class_none t place s h is up)) (around_none t place s h is up)
]
next_by t place (Some p) s h up further = elim (cases_Bool (shows t place)) [
  | inl is ↦ subst (IsNext t place) (sym (class_shown t place is ∙ up)) (in_body t place (Some p) s h is up)
  | inr is ↦ subst (IsNext t place) (sym (class_skips t place p s h is up)) (moved t place p (class_at t p) (around_skips t place p s h is up) (further p (parent_below t place p s h up)))
]

next_within : (t : Tree) (k : ℕ) (place : Node) → IsSyntaxTree t → place.0 < length t.nodes → place.0 < k → IsNext t place (class_at t place)
next_within t zero place s h below = absurd (omega (arith, below))
next_within t (suc k) place s h below =
    next_by t place (parent_of t place) s h refl (λ p lower. next_within t k p s (omega (arith, lower, h)) (omega (arith, lower, below)))

pub class-next : (t : Tree) (place : Node) → IsSyntaxTree t → place.0 < length t.nodes → IsNext t place (class_at t place)
class-next t place s h = next_within t (length t.nodes) place s h h

-- ---- further in than what was found

pub searched-none : (found : Option Declared) (around : List Node) → around ≡ [] → further_in found around ≡ []
searched-none found around none = ap (further_in found) none

pub searched-within : (found : Option Declared) (around further : List Node) (class : Node) → around ≡ class ∷ further → is_found_within found class ≡ true → further_in found around ≡ []
searched-within found around further class is within = ap (further_in found) is ∙ ap (λ b. cond b [] (class ∷ further_in found further)) within

pub searched-class : (found : Option Declared) (around further : List Node) (class : Node) → around ≡ class ∷ further → is_found_within found class ≡ false
    → further_in found around ≡ class ∷ further_in found further
searched-class found around further class is outside = ap (further_in found) is ∙ ap (λ b. cond b [] (class ∷ further_in found further)) outside

pub ruleset searched_steps = (searched-none, searched-within, searched-class)
