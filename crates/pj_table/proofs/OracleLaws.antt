-- How oracles over doors and seats meet the law of oracles.
use Rattle.std.proofs.Common.{◌≡◌, ◌∙◌, ℕ, ◌+◌, ◌-◌, ◌^◌, ◌<◌, ◌≤◌, min, List, [], ◌∷◌, Bool, true, false, cond, Option, Some, None, IsTrue, refl, sym, ap, subst, arith, Ordering}
use Rattle.std.specs.Prelude.{Result, Ok, Err, IfOk, OnOk, OnErr, IsErrOf, is_some}
use Rattle.std.specs.Option.{IfSome}
use Rattle.std.specs.declared.cmp.Ordering.TheVariants.{Less, Equal, Greater}
use Rattle.std.specs.declared.sync.Arc.{Arc}
use Rattle.std.specs.declared.alloc.Global.{Global}
use Rattle.std.specs.Map.{lookup}
use Rattle.std.specs.BTreeMap.{insert_entry, is_at}
use Rattle.std.specs.Cmp.{tied_itself}
use Rattle.std.specs.Cmp.Lexicographic.{nat_list_cmp_total, slice_cmp}
use Rattle.std.specs.Ordering.{is_eq, match_ordering, nat_cmp}
use Rattle.std.specs.FinSet as set
use Rattle.std.specs.FinSet.{contains-insert, len-empty, len-insert, nat_cmp-IsAntisymmetric, slice_cmp-IsAntisymmetric}
use Rattle.pj_names.specs.declared.answer.Answer.{Answer}
use Rattle.pj_names.specs.declared.oracle.AskFault.{AskFault}
use Rattle.pj_names.specs.declared.oracle.AskFault.TheVariants.{Failed, Memory}
use Rattle.pj_names.specs.ClassName.{Name, NameSet}
use Rattle.pj_names.specs.Asking.{ask, value_of}
use Rattle.pj_names.specs.Told.{Asks, IsWithin, UnlessFailed, asked_after}
use Rattle.pj_names.proofs.AskingLaws.{within-names, within-self}
use Rattle.pj_outside.specs.Files.{Files}
use Rattle.pj_outside.specs.Doors.{count_and, found_at}
use Rattle.pj_outside.specs.Faults.{next_count}
use Rattle.pj_outside.specs.declared.refused.Reading.{Reading}
use Rattle.pj_classfile.specs.ClassOf.{AnswerOf}
use Rattle.pj_classfile.proofs.OneLaws.{only_answer}
use Rattle.pj_table.specs.Worlds.{World, IsAnswer, CountsFaults}
use Rattle.pj_table.specs.ClassWorld.{worlds_of}
use Rattle.pj_table.specs.Held.{AreHeldAnswers, IsHeldAnswer}
use Rattle.pj_table.specs.Telling.{tells_of}
use Rattle.pj_table.proofs.Readings.{is_answer}

-- ---- the world

-- where the folders are told the answer is the one that the oracle's world has
pub told_answer : (world : World) (name : Name) (answer : Answer) → IsAnswer world name answer → IsTrue (is_some world) → answer ≡ (worlds_of world 0).answer name
told_answer None name answer is told = absurd (cc)
told_answer (Some folders) name answer is told = only_answer name (found_at folders name 4194304) answer is

one_world : (world : World) (depth : ℕ) → worlds_of world depth ≡ worlds_of world 0
one_world None depth = refl
one_world (Some folders) depth = refl

needs_itself : (world : World) (depth : ℕ) (asked : NameSet) (name : Name) → asked_after depth (worlds_of world depth) asked (ask name) ≡ set.insert asked name
needs_itself None depth asked name = refl
needs_itself (Some folders) depth asked name = refl

-- ---- one ask

on_ok : {A E P : Type 0} (r : Result A E) → P → OnOk r P
on_ok (Ok a) p = p
on_ok (Err e) p = tt

grows : {A : Type 0} (old new : ℕ) (r : Result A AskFault) → CountsFaults old new r → old ≤ new
grows old new (Ok a) is = omega (arith, is)
grows old new (Err Failed) is = is.never_falls
grows old new (Err Memory) is = omega (arith, is)

stays : {A : Type 0} (old new : ℕ) (r : Result A AskFault) → CountsFaults old new r → UnlessFailed r (new ≡ old)
stays old new (Ok a) is = is
stays old new (Err Failed) is = tt
stays old new (Err Memory) is = is

rose : {A : Type 0} (old new : ℕ) (r : Result A AskFault) → CountsFaults old new r → IsErrOf r Failed → min (old + 1) (2 ^ 64 - 1) ≤ new
rose old new (Ok a) is e = absurd (cc)
rose old new (Err Failed) is e = is.rose
rose old new (Err Memory) is e = absurd (cc)

values : (world : World) (depth : ℕ) (name : Name) (r : Result Answer AskFault) → IfOk r (λ a. a ≡ (worlds_of world 0).answer name) → IfOk r (λ a. a ≡ value_of depth (worlds_of world depth).answer (ask name))
values world depth name (Ok a) is = is ∙ sym (ap (λ w. w.answer name) (one_world world depth))
values world depth name (Err e) is = tt

told_value : (world : World) (name : Name) (r : Result Answer AskFault) → IfOk r (λ a. IsTrue (is_some world) → a ≡ (worlds_of world 0).answer name) → IsTrue (is_some world) → IfOk r (λ a. a ≡ (worlds_of world 0).answer name)
told_value world name (Ok a) is told = is told
told_value world name (Err e) is told = tt

-- The name is one that was asked, and the answer, where there is one, is the world's.
pub asks-name : {K : Type 0} {kept after : K} {world folders : World} {name : Name} {old new : NameSet} {f g : ℕ} {r : Result Answer AskFault} → after ≡ kept → folders ≡ world → new ≡ set.insert old name → CountsFaults f g r
    → IfOk r (λ a. IsTrue (is_some world) → a ≡ (worlds_of world 0).answer name) → Asks (ask name) (tells_of kept world old f) (tells_of after folders new g) r
asks-name {world = world} {name = name} {old = old} {new = new} {f = f} {g = g} {r = r} same same_folders is faults right = record {
  same_told = ap (λ (w : World). is_some w) same_folders;
  same_world = ap worlds_of same_folders;
  same_kept = same;
  faults_grow = grows f g r faults;
  faults_stay = stays f g r faults;
  failed = rose f g r faults;
  value_is = λ told depth far. values world depth name r (told_value world name r right told);
  asked_is = λ told depth far. on_ok r (is ∙ sym (needs_itself world depth old name));
  asked_stays = subst (λ s. IsWithin old s) (sym is) (within-names {t = old} (name ∷ []) (within-self old));
  asked_within = λ told depth far. subst (λ s. IsWithin new s) (is ∙ sym (needs_itself world depth old name)) (within-self new);
}

-- The same by what came of it: an answer, want of memory, or a door's refusal.

module _ {K : Type 0} {kept after : K} {world folders : World} {name : Name} {old new : NameSet} {f g : ℕ} {r : Result Answer AskFault} where
  pub asks-name-answer : {a : Answer} → r ≡ Ok a → after ≡ kept → folders ≡ world → new ≡ set.insert old name → g ≡ f → (IsTrue (is_some world) → a ≡ (worlds_of world 0).answer name) → Asks (ask name) (tells_of kept world old f) (tells_of after folders new g) r
  asks-name-answer {a = a} came same same_folders is faults right =
      subst (λ (q : Result Answer AskFault). Asks (ask name) (tells_of kept world old f) (tells_of after folders new g) q) (sym came) (asks-name {r = Ok a} same same_folders is faults right)

  pub asks-name-memory : r ≡ Err Memory → after ≡ kept → folders ≡ world → new ≡ set.insert old name → g ≡ f → Asks (ask name) (tells_of kept world old f) (tells_of after folders new g) r
  asks-name-memory came same same_folders is faults =
      subst (λ (q : Result Answer AskFault). Asks (ask name) (tells_of kept world old f) (tells_of after folders new g) q) (sym came) (asks-name {r = Err Memory} same same_folders is faults tt)

  pub asks-name-refused : {e : AskFault} → r ≡ Err e → after ≡ kept → folders ≡ world → new ≡ set.insert old name → CountsFaults {A = Answer} f g (Err e) → Asks (ask name) (tells_of kept world old f) (tells_of after folders new g) r
  asks-name-refused {e = e} came same same_folders is faults =
      subst (λ (q : Result Answer AskFault). Asks (ask name) (tells_of kept world old f) (tells_of after folders new g) q) (sym came) (asks-name {r = Err e} same same_folders is faults tt)

-- ---- answers that are held

same_key : (name key : Name) (o : Ordering) → slice_cmp nat_cmp name key ≡ o → IsTrue (is_eq o) → name ≡ key
same_key name key Equal is tied = slice_cmp-IsAntisymmetric nat_cmp-IsAntisymmetric name key is
same_key name key Less is tied = absurd (cc)
same_key name key Greater is tied = absurd (cc)

module _ (world : World) (asked : NameSet) where
  abbrev Holds : Name → Arc Answer Global → Type 0
  Holds name answer = IsHeldAnswer world asked name answer.value

  found_at_key : (name key : Name) (held answer : Arc Answer Global) (rest : Option (Arc Answer Global)) (o : Ordering) → slice_cmp nat_cmp name key ≡ o
      → Holds key held → (rest ≡ Some answer → Holds name answer) → cond (is_eq o) (Some held) rest ≡ Some answer → Holds name answer
  found_at_key name key held answer rest Equal same here later found =
      let it : held ≡ answer = cc in
      subst (λ (n : Name). Holds n answer) (sym (same_key name key Equal same refl)) (subst (λ (a : Arc Answer Global). Holds key a) it here)
  found_at_key name key held answer rest Less same here later found = later found
  found_at_key name key held answer rest Greater same here later found = later found

  -- what is found by a name
  pub held_found : (entries : List (Name × Arc Answer Global)) (name : Name) (answer : Arc Answer Global) → AreHeldAnswers world asked entries → lookup (is_at (slice_cmp nat_cmp name)) entries ≡ Some answer → IsHeldAnswer world asked name answer.value
  held_found [] name answer held is = absurd (cc)
  held_found (entry ∷ entries) name answer held is =
      found_at_key name entry.0 entry.1 answer (lookup (is_at (slice_cmp nat_cmp name)) entries) (slice_cmp nat_cmp name entry.0) refl held.0 (λ found. held_found entries name answer held.1 found) is

  more_at : (name : Name) (answer : Arc Answer Global) (entry : Name × Arc Answer Global) (entries more : List (Name × Arc Answer Global)) (o : Ordering) → slice_cmp nat_cmp name entry.0 ≡ o
      → AreHeldAnswers world asked (entry ∷ entries) → Holds name answer → AreHeldAnswers world asked more
      → AreHeldAnswers world asked (match_ordering o ((name, answer) ∷ entry ∷ entries) ((entry.0, answer) ∷ entries) (entry ∷ more))
  more_at name answer entry entries more Less same held new later = (new, held)
  more_at name answer entry entries more Equal same held new later = (subst (λ (n : Name). Holds n answer) (same_key name entry.0 Equal same refl) new, held.1)
  more_at name answer entry entries more Greater same held new later = (held.0, later)

  -- one more
  pub held_more : (entries : List (Name × Arc Answer Global)) (name : Name) (answer : Arc Answer Global) → AreHeldAnswers world asked entries → Holds name answer → AreHeldAnswers world asked (insert_entry (slice_cmp nat_cmp) entries name answer)
  held_more [] name answer held new = (new, tt)
  held_more (entry ∷ entries) name answer held new =
      more_at name answer entry entries (insert_entry (slice_cmp nat_cmp) entries name answer) (slice_cmp nat_cmp name entry.0) refl held new (held_more entries name answer held.1 new)

-- they stay so where more was asked
pub held_on : {world after : World} {old new : NameSet} (entries : List (Name × Arc Answer Global)) → after ≡ world → IsWithin old new → AreHeldAnswers world old entries → AreHeldAnswers after new entries
held_on [] same within held = tt
held_on {world = world} {after = after} {new = new} (entry ∷ entries) same within held =
    let one : IsHeldAnswer world new entry.0 entry.1.value = record { was_asked = within.each entry.0 held.0.was_asked; is = held.0.is } in
    (subst (λ (w : World). IsHeldAnswer w new entry.0 entry.1.value) (sym same) one, held_on entries same within held.1)

true_or_tied : (o : Ordering) (b : Bool) → o ≡ Equal → IsTrue (cond (is_eq o) true b)
true_or_tied Equal b is = refl
true_or_tied Less b is = absurd (cc)
true_or_tied Greater b is = absurd (cc)

-- a name that is put to a set is in it
pub there : (names : NameSet) (name : Name) → IsTrue (set.contains (set.insert names name) name)
there names name = subst (λ (b : Bool). IsTrue b) (sym (contains-insert nat_list_cmp_total names name name)) (search (tied_itself nat_list_cmp_total name))

pub within_more : (names : NameSet) (name : Name) → IsWithin names (set.insert names name)
within_more names name = within-names {t = names} (name ∷ []) (within-self names)

-- one find more for one name more
pub count_more : {before after : ℕ} {new : NameSet} (finds : ℕ) (asked : NameSet) (name : Name) → new ≡ set.insert asked name → set.contains asked name ≡ false → before ≡ count_and finds (set.len asked) → after ≡ next_count before → after ≡ count_and finds (set.len new)
count_more finds asked name is absent was more =
    let n = ap (λ (s : NameSet). set.len s) is ∙ len-insert nat_list_cmp_total asked name ∙ ap (λ (b : Bool). cond b (set.len asked) (set.len asked + 1)) absent in omega (arith, n, was, more)

-- what a door read is the world's answer
pub read_is : (world : World) (name : Name) (reading : Reading) (answer : Answer) → IfSome world (λ (folders : List Files). reading ≡ found_at folders name 4194304) → AnswerOf name reading answer → IsTrue (is_some world) → answer ≡ (worlds_of world 0).answer name
read_is world name reading answer read is = told_answer world name answer (is_answer world name reading answer read is)

pub within_put : {old new : NameSet} (name : Name) → new ≡ set.insert old name → IsWithin old new
within_put {old = old} name is = subst (λ s. IsWithin old s) (sym is) (within_more old name)

-- an answer that is new, by a copy of its name, also where there was no memory for it
pub held_put : {X E : Type 0} {world : World} {asked : NameSet} (old new : List (Name × Arc Answer Global)) (name key : Name) (copy : Arc Answer Global) (r : Result X E)
    → key ≡ name → AreHeldAnswers world asked old → IsHeldAnswer world asked name copy.value → OnOk r (new ≡ insert_entry (slice_cmp nat_cmp) old key copy) → OnErr r (new ≡ old) → AreHeldAnswers world asked new
held_put {world = world} {asked = asked} old new name key copy (Ok x) same held one ok err =
    subst (λ (l : List (Name × Arc Answer Global)). AreHeldAnswers world asked l) (sym ok) (held_more world asked old key copy held (subst (λ (n : Name). IsHeldAnswer world asked n copy.value) (sym same) one))
held_put {world = world} {asked = asked} old new name key copy (Err e) same held one ok err = subst (λ (l : List (Name × Arc Answer Global)). AreHeldAnswers world asked l) (sym err) held

pub new_is_held : {world after : World} {new : NameSet} {name : Name} {answer copy : Answer} (asked : NameSet) → after ≡ world → new ≡ set.insert asked name → copy ≡ answer → (IsTrue (is_some world) → answer ≡ (worlds_of world 0).answer name) → IsHeldAnswer after new name copy
new_is_held {world = world} {after = after} {new = new} {name = name} {answer = answer} {copy = copy} asked same put is right =
    let one : IsHeldAnswer world new name copy = record { was_asked = subst (λ s. IsTrue (set.contains s name)) (sym put) (there asked name); is = λ told. is ∙ right told } in
    subst (λ (w : World). IsHeldAnswer w new name copy) (sym same) one

-- no find yet
pub count_begin : (finds count : ℕ) (asked : NameSet) → count ≡ finds → asked ≡ set.empty → count < 2 ^ 64 → finds ≡ count_and count (set.len asked)
count_begin finds count asked is none-asked fits = let n = ap (λ (s : NameSet). set.len s) none-asked ∙ len-empty (slice_cmp nat_cmp) in omega (arith, n, is, fits)
