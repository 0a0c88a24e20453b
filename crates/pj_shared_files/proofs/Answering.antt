-- Answers that a table has at its end are the world's.
use Rattle.std.proofs.Common.{◌≡◌, ◌∙◌, ℕ, zero, suc, List, [], ◌∷◌, IsTrue, ap, refl, subst, sym}
use Rattle.std.specs.Prelude.{is_some}
use Rattle.std.specs.Arc.{arc_value}
use Rattle.std.specs.declared.sync.Arc.{Arc}
use Rattle.std.specs.declared.alloc.Global.{Global}
use Rattle.std.specs.List.{AllByRecursion}
use mathlib.Core.Option.{some, some-injective}
use lib.ListN.{get_elem?}
use Rattle.pj_crew.specs.Together.{AreRightParts}
use Rattle.pj_names.specs.ClassName.{Name}
use Rattle.pj_names.specs.declared.answer.Answer.{Answer}
use Rattle.pj_table.proofs.OracleLaws.{told_answer}
use Rattle.pj_table.specs.Answered.{HasAnswer}
use Rattle.pj_table.specs.ClassWorld.{worlds_of}
use Rattle.pj_table.specs.Worlds.{World}
use Rattle.pj_table.specs.declared.part.Part.{Part}
use Rattle.pj_shared_files.specs.Answering.{HasRightEntries, HaveRightEntries, IsRightEntry}

pub all_of : {A : Type 0} (P : A → Type 0) (xs : List A) → ((k : ℕ) (x : A) → get_elem? xs k ≡ some x → P x) → AllByRecursion P xs
all_of P [] f = tt
all_of P (x ∷ xs) f = (f 0 x refl, all_of P xs (λ k y at. f (suc k) y at))

one_of : {A : Type 0} (P : A → Type 0) (xs : List A) (k : ℕ) (x : A) → AllByRecursion P xs → get_elem? xs k ≡ some x → P x
one_of P [] k x all at = absurd (cc)
one_of {A} P (y ∷ xs) zero x all at = subst (λ (z : A). P z) (some-injective y x at) all.0
one_of P (y ∷ xs) (suc k) x all at = one_of P xs k x all.1 at

pub right_entries : (world : World) (parts : List Part) → AreRightParts world parts → HaveRightEntries world parts
right_entries world parts right =
    all_of (HasRightEntries world) parts (λ p x at. all_of (IsRightEntry world) x.entries.items (λ k e there told. told_answer world e.name (arc_value e.answer) ((right.each p x at).good.answers k e there) told))

-- the answer that stands in a part of the name
pub found_is : (world : World) (parts : List Part) (p : ℕ) (name : Name) (answer : Arc Answer Global) → HaveRightEntries world parts → (x : Part) × (get_elem? parts p ≡ some x) × HasAnswer x.entries.items name answer
    → IsTrue (is_some world) → answer.value ≡ (worlds_of world 0).answer name
found_is world parts p name answer right found told =
    let x = found.0 in let has = found.2 in let e = has.1 in
    let is = one_of (IsRightEntry world) x.entries.items has.0 e (one_of (HasRightEntries world) parts p x right found.1) has.2 told in
    sym (ap arc_value has.4) ∙ is ∙ ap (λ (n : Name). (worlds_of world 0).answer n) has.3
