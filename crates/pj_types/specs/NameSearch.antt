-- A search along the supertypes of a class by their names, for what looks at no type arguments: none are put in. Laws say that it is
-- the search along the list of supertypes.
use Rattle.std.specs.Prelude.{ℕ, List, [], map, Option, None}
use Rattle.pj_names.specs.declared.answer.Answer.{Answer}
use Rattle.pj_names.specs.ClassName.{Name}
use Rattle.pj_names.specs.Asking.{Asking, Return, Unbounded, bind, look_up}
use Rattle.pj_types.specs.DepthFirst.{visit}
use Rattle.pj_types.specs.Supertypes.{name_of, of_known}

-- a name is its own
abbrev pub itself : Name → Name
itself name = name

-- the names of the direct supertypes of a class, from what is known of it
abbrev pub names_of_known : Option Answer → List Name
names_of_known known = map name_of (of_known None known)

-- the names of the direct supertypes of a class, which is asked, unless it is `java.lang.Object`
abbrev pub direct_names : Name → Asking (List Name)
direct_names name = bind (look_up name) (λ known. Return (names_of_known known))

-- the supertypes of a class along which a test is tried, up to its first hit, where at most so many classes are visited
abbrev pub names_within : {B : Type 0} → ℕ → (Name → Asking (Option B)) → Name → Asking (Option B × List Name)
names_within most test name = visit itself test direct_names most most [] name

-- The same where no number bounds it: the hit, if there is one, and the names of the list up to there.
abbrev pub name_search : {B : Type 0} → (Name → Asking (Option B)) → Name → Asking (Option B × List Name)
name_search test name = Unbounded (λ most. names_within most test name)
