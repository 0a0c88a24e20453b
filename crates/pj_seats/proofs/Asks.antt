-- How the oracle over a seat meets the law of oracles.
use Rattle.std.proofs.Common.{◌≡◌, ◌∙◌, ℕ, ◌+◌, List, [], ◌∷◌, ◌++◌, Bool, true, false, cond, Option, Some, None, IsTrue, refl, sym, ap, subst, arith}
use Rattle.std.specs.Borrow.{GName}
use Rattle.std.specs.Prelude.{◌||◌, Result, Ok, Err, OnOk, OnErr, is_some, length}
use Rattle.std.specs.BTreeMap.{BTreeMap, Updates, get, is_at}
use Rattle.std.specs.Cmp.Lexicographic.{nat_list_cmp_total, slice_cmp}
use Rattle.std.specs.Map.{lookup}
use Rattle.std.specs.Ordering.{is_eq, nat_cmp, ordering_reverse}
use Rattle.std.specs.FinSet as set
use Rattle.std.specs.FinSet.{contains-insert, contains-empty, from_list_push, len-empty, len-insert, nat_cmp-IsAntisymmetric, slice_cmp-IsAntisymmetric}
use Rattle.std.specs.declared.cmp.Ordering.{Ordering}
use Rattle.std.specs.declared.cmp.Ordering.TheVariants.{Less, Equal, Greater}
use Rattle.std.specs.declared.sync.Arc.{Arc}
use Rattle.std.specs.declared.alloc.Global.{Global}
use Rattle.pj_names.specs.declared.answer.Answer.{Answer}
use Rattle.pj_names.specs.declared.oracle.AskFault.{AskFault}
use Rattle.pj_names.specs.declared.oracle.AskFault.TheVariants.{Failed, Memory}
use Rattle.pj_names.specs.ClassName.{Name, NameSet, name_set}
use Rattle.pj_names.specs.Asking.{ask}
use Rattle.pj_names.specs.Told.{Asks, IsWithin, asked_after}
use Rattle.pj_names.proofs.AskingLaws.{within-names, within-self}
use Rattle.pj_table.specs.Seats.{Identity}
use Rattle.pj_table.specs.Telling.{tells_of}
use Rattle.pj_table.specs.Worlds.{World, CountsFaults, IsAnswer}
use Rattle.pj_table.specs.ClassWorld.{worlds_of}
use Rattle.pj_table.specs.declared.view.View.{View}
use Rattle.pj_table.proofs.OracleLaws.{asks-name-refused, told_answer}
use Rattle.pj_seats.specs.Kept.{AreAllHeld}
use Rattle.pj_seats.specs.Telling.{OverSeat}

-- ---- names, each once

-- the set of the names with one more
pub names_more : (names more : List Name) (name : Name) → more ≡ names ++ name ∷ [] → name_set more ≡ set.insert (name_set names) name
names_more names more name put = ap name_set put ∙ from_list_push nat_list_cmp_total (slice_cmp-IsAntisymmetric nat_cmp-IsAntisymmetric) names name

-- a name that is new is one more
pub once_more : (n m : ℕ) (asked more : NameSet) (name : Name) → more ≡ set.insert asked name → set.contains asked name ≡ false → set.len asked ≡ n → m ≡ n + 1 → set.len more ≡ m
once_more n m asked more name put absent once longer =
    ap (λ (s : NameSet). set.len s) put ∙ len-insert nat_list_cmp_total asked name ∙ ap (λ (b : Bool). cond b (set.len asked) (set.len asked + 1)) absent ∙ ap (λ (k : ℕ). k + 1) once ∙ sym longer

pub once_none : (n : ℕ) (names : List Name) → n ≡ 0 → names ≡ [] → set.len (name_set names) ≡ n
once_none n names none empty = ap (λ (l : List Name). set.len (name_set l)) empty ∙ len-empty (slice_cmp nat_cmp) ∙ sym none

-- ---- all is held

turned : (o : Ordering) → is_eq (ordering_reverse o) ≡ is_eq o
turned Less = refl
turned Equal = refl
turned Greater = refl

tie_turned : (one other : Name) → is_eq (slice_cmp nat_cmp one other) ≡ is_eq (slice_cmp nat_cmp other one)
tie_turned one other = ap is_eq (nat_list_cmp_total.antisymm one other) ∙ turned (slice_cmp nat_cmp other one)

some_or : {X : Type 0} (b : Bool) (x : X) (o : Option X) (c : Bool) → c ≡ is_some o → (b || c) ≡ is_some (cond b (Some x) o)
some_or true x o c is = refl
some_or false x o c is = is

-- what is not held was not asked
pub not_asked : (names : NameSet) (answers : BTreeMap Name (Arc Answer Global)) (name : Name) → AreAllHeld names answers → get (slice_cmp nat_cmp) answers name ≡ None → set.contains names name ≡ false
not_asked names answers name held none = held name ∙ ap is_some none

-- one more name and its answer
pub all_more : (names more : NameSet) (answers after : BTreeMap Name (Arc Answer Global)) (name key : Name) (answer : Arc Answer Global) → more ≡ set.insert names name → key ≡ name
    → AreAllHeld names answers → Updates (slice_cmp nat_cmp) answers after key (Some answer) → AreAllHeld more after
all_more names more answers after name key answer put same held updates q =
    ap (λ (s : NameSet). set.contains s q) put ∙ contains-insert nat_list_cmp_total names name q
    ∙ ap (λ (b : Bool). b || set.contains names q) (ap (λ (k : Name). is_eq (slice_cmp nat_cmp q k)) (sym same) ∙ tie_turned q key)
    ∙ some_or (is_eq (slice_cmp nat_cmp key q)) answer (get (slice_cmp nat_cmp) answers q) (set.contains names q) (held q) ∙ ap is_some (sym (updates.0 q))

pub all_none : (names : List Name) (answers : BTreeMap Name (Arc Answer Global)) → names ≡ [] → answers.entries ≡ [] → AreAllHeld (name_set names) answers
all_none names answers none empty name = ap (λ (l : List Name). set.contains (name_set l) name) none ∙ contains-empty (slice_cmp nat_cmp) name ∙ ap (λ (l : List (Name × Arc Answer Global)). is_some (lookup (is_at (slice_cmp nat_cmp name)) l)) (sym empty)

-- ---- a step

-- a new name at the end, by a copy of it
pub put_copy : {names room more : List Name} {copy name : Name} → more ≡ room ++ copy ∷ [] → room ≡ names → copy ≡ name → more ≡ names ++ name ∷ []
put_copy put same is = put ∙ (λ i. same i ++ is i ∷ [])

-- what the oracle keeps
abbrev over : GName → Identity → View → ℕ → OverSeat
over reference identity start finds = record { reference = reference; identity = identity; start = start; finds = finds }

pub keeps : (reference : GName) (finds : ℕ) {before after : Identity} {start now : View} → after ≡ before → now ≡ start → over reference after now finds ≡ over reference before start finds
keeps reference finds same start = λ i. over reference (same i) (start i) finds

-- a refusal says the same of the count of faults, whatever value there would have been
pub other_value : (A B : Type 0) (f g : ℕ) (e : AskFault) → CountsFaults {A = A} f g (Err e) → CountsFaults {A = B} f g (Err e)
other_value A B f g Failed is = is
other_value A B f g Memory is = is

-- the answer of the table is that of the oracle's world
pub right_answer : {world folders : World} (name : Name) (answer : Answer) → folders ≡ world → IsAnswer world name answer → IsTrue (is_some folders) → answer ≡ (worlds_of folders 0).answer name
right_answer {folders = folders} name answer same is = told_answer folders name answer (subst (λ (w : World). IsAnswer w name answer) (sym same) is)

-- ---- a refusal

needs_itself : (world : World) (depth : ℕ) (asked : NameSet) (name : Name) → asked_after depth (worlds_of world depth) asked (ask name) ≡ set.insert asked name
needs_itself None depth asked name = refl
needs_itself (Some folders) depth asked name = refl

-- The name was not asked, and there is no answer.
asks_not : {K : Type 0} {kept after : K} {world folders : World} {name : Name} {asked : NameSet} {f g : ℕ} {e : AskFault} → after ≡ kept → folders ≡ world → CountsFaults {A = Answer} f g (Err e)
    → Asks (ask name) (tells_of kept world asked f) (tells_of after folders asked g) (Err e)
asks_not {world = world} {name = name} {asked = asked} {f = f} {g = g} {e = e} same same_folders faults =
    let one = asks-name-refused {name = name} {old = asked} {r = Err e} refl same same_folders refl faults in record {
      same_told = one.same_told;
      same_world = one.same_world;
      same_kept = one.same_kept;
      faults_grow = one.faults_grow;
      faults_stay = one.faults_stay;
      failed = one.failed;
      value_is = λ told depth far. tt;
      asked_is = λ told depth far. tt;
      asked_stays = within-self asked;
      asked_within = λ told depth far. subst (λ s. IsWithin asked s) (sym (needs_itself world depth asked name)) (within-names {t = asked} (name ∷ []) (within-self asked));
    }

pub asks-name-not : {K : Type 0} {kept after : K} {world folders : World} {name : Name} {old new : NameSet} {f g : ℕ} {e : AskFault} {r : Result Answer AskFault} → r ≡ Err e → after ≡ kept → folders ≡ world → new ≡ old
    → CountsFaults {A = Answer} f g (Err e) → Asks (ask name) (tells_of kept world old f) (tells_of after folders new g) r
asks-name-not {kept = kept} {after = after} {world = world} {folders = folders} {name = name} {old = old} {f = f} {g = g} {e = e} {r = r} came same same_folders none faults =
    subst (λ (s : NameSet). Asks (ask name) (tells_of kept world old f) (tells_of after folders s g) r) (sym none)
    (subst (λ (q : Result Answer AskFault). Asks (ask name) (tells_of kept world old f) (tells_of after folders old g) q) (sym came) (asks_not same same_folders faults))
