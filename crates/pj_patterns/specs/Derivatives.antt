-- Derivatives of patterns and of rules: what is left of them behind a character (Brzozowski).
use Rattle.std.specs.Prelude.{Bool, true, false, cond, ◌||◌, ◌&&◌, List, [], ◌∷◌, Option, Some, None}
use Rattle.pj_patterns.specs.Pattern.{Pattern, Nothing, Empty, One, Then, Either, Many}
use Rattle.pj_patterns.specs.Rules.{Rule, rule}

-- whether the empty word matches
abbrev pub takes_none : {Set : Type 0} → Pattern Set → Bool
takes_none Nothing = false
takes_none Empty = true
takes_none (One s) = false
takes_none (Then p q) = takes_none p && takes_none q
takes_none (Either p q) = takes_none p || takes_none q
takes_none (Many p) = true

abbrev pub joined : {Set : Type 0} → Pattern Set → Pattern Set → Pattern Set
joined Nothing q = Nothing
joined Empty q = q
joined p q = Then p q

abbrev pub or_first : {Set : Type 0} → Pattern Set → Pattern Set → Pattern Set
or_first p Nothing = p
or_first p q = Either p q

abbrev pub either : {Set : Type 0} → Pattern Set → Pattern Set → Pattern Set
either Nothing q = q
either p q = or_first p q

-- what is left behind a character of which the tests hold
abbrev pub derive : {Set : Type 0} → (Set → Bool) → Pattern Set → Pattern Set
derive is Nothing = Nothing
derive is Empty = Nothing
derive is (One s) = cond (is s) Empty Nothing
derive is (Then p q) = cond (takes_none p) (either (joined (derive is p) q) (derive is q)) (joined (derive is p) q)
derive is (Either p q) = either (derive is p) (derive is q)
derive is (Many p) = joined (derive is p) (Many p)

-- rules behind a character: those that can still match
abbrev pub keep : {Kind Set : Type 0} → Kind → Pattern Set → List (Rule Kind Set) → List (Rule Kind Set)
keep s Nothing rs = rs
keep s p rs = rule s p ∷ rs

abbrev pub derive_rules : {Kind Set : Type 0} → (Set → Bool) → List (Rule Kind Set) → List (Rule Kind Set)
derive_rules is [] = []
derive_rules is (r ∷ rs) = keep r.kind (derive is r.pattern) (derive_rules is rs)

-- what the empty word spells
abbrev pub spells_none : {Kind Set : Type 0} → List (Rule Kind Set) → Option Kind
spells_none [] = None
spells_none (r ∷ rs) = cond (takes_none r.pattern) (Some r.kind) (spells_none rs)
