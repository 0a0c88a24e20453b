-- Doors that were opened for a run, and are shut after it.
use Rattle.std.proofs.Common.{◌≡◌, ◌∙◌, ℕ, ◌-◌, ◌^◌, ◌<◌, ◌==◌, min, Bool, false, List, [], ◌∷◌, Option, Some, None, IsTrue, arith, length, ne_eqb, refl, subst}
use Rattle.std.specs.Bool.{MatchBool}
use Rattle.std.specs.List.{AllByRecursion}
use Rattle.std.specs.Option.{option_map}
use Rattle.std.specs.Prelude.{Result, Ok, Err, OnOk, is_some}
use Rattle.std.specs.FinSet as set
use Rattle.pj_cache.specs.declared.cache.Cache.{Cache}
use Rattle.pj_crew.specs.Opening.{IsNewDoor, with_finds}
use Rattle.pj_crew.specs.Together.{first_world}
use Rattle.pj_fitting.specs.Left.{File}
use Rattle.pj_names.specs.declared.oracle.AskFault.{AskFault}
use Rattle.pj_names.specs.declared.oracle.AskFault.TheVariants.{Failed, Memory}
use Rattle.pj_outside.specs.Doors.{TakesFaults, count_and}
use Rattle.pj_outside.specs.Faults as outside
use Rattle.pj_outside.specs.Faults.{Rises}
use Rattle.pj_outside.specs.declared.refused.Refused.{Refused}
use Rattle.pj_outside.specs.declared.refused.Refused.TheVariants as refused
use Rattle.pj_rule_sets.specs.Rules.{EffectiveRules}
use Rattle.pj_table.specs.Rule.{total}
use Rattle.pj_table.specs.Worlds.{CountsFaults, World}
use Rattle.pj_shared_files.specs.InWorlds.{FindInWorld, FoundInWorld}

pub some_mapped : {A B : Type 0} (f : A → B) (o : Option A) → IsTrue (is_some o) → IsTrue (is_some (option_map f o))
some_mapped f None is = absurd (cc)
some_mapped f (Some x) is = refl

pub on_ok : {A E P Q : Type 0} (r : Result A E) → (P → Q) → OnOk r P → OnOk r Q
on_ok (Ok x) f p = f p
on_ok (Err e) f p = tt

-- a door that could not be opened

pub open_failed : {A : Type 0} (old new : ℕ) (r : Result A Refused) → r ≡ Err refused.Failed → outside.CountsFaults old new r → Rises old new
open_failed old new (Ok value) is counts = absurd (cc)
open_failed old new (Err refused.Failed) is counts = counts
open_failed old new (Err refused.Memory) is counts = absurd (cc)

pub open_wanting : {A : Type 0} (old new : ℕ) (r : Result A Refused) → r ≡ Err refused.Memory → outside.CountsFaults old new r → new ≡ old
open_wanting old new (Ok value) is counts = counts
open_wanting old new (Err refused.Failed) is counts = absurd (cc)
open_wanting old new (Err refused.Memory) is counts = counts

-- a door without faults leaves the count
pub none_taken : (begun after of_door : ℕ) → of_door ≡ 0 → TakesFaults begun after of_door → after ≡ begun
none_taken begun after of_door none takes =
    let left : TakesFaults begun after 0 = subst (λ (n : ℕ). TakesFaults begun after n) none takes in left

-- with one it rises
some_taken : (begun after of_door : ℕ) → 0 < of_door → TakesFaults begun after of_door → Rises begun after
some_taken begun after of_door some takes =
    let has_some : (of_door == 0) ≡ false = ne_eqb of_door 0 (λ none. omega (arith, some, none)) in subst (λ (b : Bool). MatchBool b (after ≡ begun) (Rises begun after)) has_some takes

-- the count of a class path, by what came over its doors
pub faults_taken : {A : Type 0} (r : Result A AskFault) (before opened after fresh worn : ℕ) → opened ≡ before → fresh ≡ 0 → CountsFaults fresh worn r → TakesFaults opened after worn → CountsFaults before after r
faults_taken (Ok value) before opened after fresh worn same none counts takes = none_taken opened after worn (counts ∙ none) takes ∙ same
faults_taken (Err Failed) before opened after fresh worn same none counts takes =
    let rose = counts.rose in subst (λ (n : ℕ). Rises n after) same (some_taken opened after worn (omega (arith, none, rose)) takes)
faults_taken (Err Memory) before opened after fresh worn same none counts takes = none_taken opened after worn (counts ∙ none) takes ∙ same

module _ {D : Type 0} (holds : D → World) (finds faults : D → ℕ) (world : World) where
  pub no_faults : (doors : List D) → AllByRecursion (IsNewDoor holds finds faults world) doors → total faults doors ≡ 0
  no_faults [] new = refl
  no_faults (d ∷ doors) new = let here = new.0.no_faults in let rest = no_faults doors new.1 in omega (arith, here, rest)

  pub world_of_first : (doors : List D) → AllByRecursion (IsNewDoor holds finds faults world) doors → 0 < length doors → first_world holds doors ≡ world
  world_of_first [] new any = absurd (omega (arith, any))
  world_of_first (d ∷ doors) new any = new.0.world_is

  no_finds : (doors : List D) (n : ℕ) → AllByRecursion (IsNewDoor holds finds faults world) doors → min (with_finds finds doors n) (2 ^ 64 - 1) ≡ min n (2 ^ 64 - 1)
  no_finds [] n new = refl
  no_finds (d ∷ doors) n new = let here = new.0.no_finds in let rest = no_finds doors n new.1 in omega (arith, here, rest)

  -- what new doors found is what the class path counts
  pub found_by_new : (rules : EffectiveRules) (found : Cache) (list : List File) (before after : List D) (old new : ℕ) → AllByRecursion (IsNewDoor holds finds faults world) before → FindInWorld finds world rules found list before after → new ≡ with_finds finds after old
      → FoundInWorld world rules found list old new
  found_by_new rules found list before after old new fresh find is = λ files classes meant held stands.
      let names = find files classes meant held stands in
      let count : with_finds finds after old ≡ count_and (with_finds finds before old) (set.len names.0) = names.2 old in
      let none = no_finds before old fresh in
      (names.0, names.1, omega (arith, is, count, none))
