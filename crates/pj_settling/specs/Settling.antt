-- Meanings that come to something over a world, and worlds that find finitely many classes.
use Rattle.std.specs.Prelude.{◌≡◌, Bool, true, false, List}
use Rattle.pj_names.specs.declared.answer.Answer.{Answer}
use Rattle.pj_names.specs.declared.answer.Answer.TheVariants.{Found, Absent, Broken}
use Rattle.pj_names.specs.Asking.{Asking, has_name}
use Rattle.pj_names.specs.ClassName.{Name, NameSet}
use Rattle.pj_names.specs.Meaning.{Gives, Means, whole}

-- what a world answers for each name
abbrev pub World : Type 0
World = Name → Answer

-- A meaning comes to something over a world: from some depth of recursions on it has one value, and asks one set of names.
pub record Settles {A : Type 0} (world : World) (meaning : Asking A) : Type 0 where
  pub value : A
  pub names : NameSet
  pub means : Means (whole world) meaning (Gives value names)

-- whether a class was found
abbrev pub is_found : Answer → Bool
is_found (Found class) = true
is_found Absent = false
is_found (Broken broken) = false

-- A world finds finitely many classes: there are some names, and of no other name a class is found.
pub record FindsFinitely (world : World) : Type 0 where
  pub among : List Name
  pub no_others : (name : Name) → has_name among name ≡ false → is_found (world name) ≡ false
