-- Answers that may be given again: they stay so in every call that asks, one that is given again asks as its meaning says, and one more is put among them.
use Rattle.std.proofs.Common.{◌≡◌, ◌∙◌, ℕ, ◌≤◌, List, [], ◌∷◌, Bool, true, cond, Option, Some, IsTrue, refl, sym, ap, subst, arith, Ordering}
use Rattle.std.specs.Prelude.{Result, Ok, Err, OnOk, OnErr}
use Rattle.std.specs.declared.cmp.Ordering.TheVariants.{Less, Equal, Greater}
use Rattle.std.specs.declared.sync.Arc.{Arc}
use Rattle.std.specs.declared.alloc.Global.{Global}
use Rattle.std.specs.List.{AllByRecursion}
use Rattle.std.specs.Map.{lookup}
use Rattle.std.specs.BTreeMap.{insert_entry, is_at}
use Rattle.std.specs.Cmp.{tied_itself}
use Rattle.std.specs.Cmp.Lexicographic.{nat_list_cmp_total, slice_cmp}
use Rattle.std.specs.Ordering.{is_eq, match_ordering, nat_cmp}
use Rattle.std.specs.FinSet as set
use Rattle.std.specs.FinSet.{contains-insert, nat_cmp-IsAntisymmetric, slice_cmp-IsAntisymmetric}
use Rattle.pj_names.specs.declared.answer.Answer.{Answer}
use Rattle.pj_names.specs.declared.oracle.AskFault.{AskFault}
use Rattle.pj_names.specs.ClassName.{Name, NameSet}
use Rattle.pj_names.specs.Asking.{Asking, value_of, names_of}
use Rattle.pj_names.specs.Told.{Asks, IsWithin, Told, Worlds, all_needs, asked_after, longest, with_names}
use Rattle.pj_names.proofs.AskingLaws.{asked_after-names, within-names, within-self}
use Rattle.pj_names.proofs.NotingLaws.{insert-there}
use Rattle.pj_tree.specs.Tree.{Tree}
use Rattle.pj_tree.specs.declared.node.Node.{Node}
use Rattle.pj_outer_names.specs.Candidates.{file_classes, node_named}
use Rattle.pj_file_oracle.specs.FileAnswer.{answer_by, class_answer, file_answer}
use Rattle.pj_file_oracle.specs.Answered.{AreAnswered, IsAnswered}
use Rattle.pj_file_oracle.proofs.Tables.{entry-found, entry-put}

-- ---- names that are in a set

abbrev AreIn : NameSet → List Name → Type 0
AreIn names = AllByRecursion (λ name. IsTrue (set.contains names name))

true_or_tied : (o : Ordering) (b : Bool) → o ≡ Equal → IsTrue (cond (is_eq o) true b)
true_or_tied Equal b is = refl
true_or_tied Less b is = absurd (cc)
true_or_tied Greater b is = absurd (cc)

-- those that are put to a set
in-names : (names : NameSet) (more : List Name) → AreIn (with_names names more) more
in-names names [] = tt
in-names names (name ∷ more) =
    let here : IsTrue (set.contains (set.insert names name) name) =
    subst (λ (b : Bool). IsTrue b) (sym (contains-insert nat_list_cmp_total names name name)) (search (tied_itself nat_list_cmp_total name)) in
    ((within-names {s = set.insert names name} {t = set.insert names name} more (within-self (set.insert names name))).each name here, in-names (set.insert names name) more)

-- they stay in one that is greater
in-greater : {old new : NameSet} (names : List Name) → IsWithin old new → AreIn old names → AreIn new names
in-greater [] within there = tt
in-greater (name ∷ names) within there = (within.each name there.0, in-greater names within there.1)

-- and put there once more they change nothing
in-again : (all : NameSet) (names : List Name) → AreIn all names → all ≡ with_names all names
in-again all [] there = refl
in-again all (name ∷ names) there = in-again all names there.1 ∙ ap (λ (s : NameSet). with_names s names) (insert-there all name (sym there.0))

-- ---- one answer

-- what a call has answered may be given again
pub answered-new : {K : Type 0} {t u : Told K} {m : Asking Answer} {v : Answer} → Asks m t u (Ok v) → IsAnswered u m v
answered-new {t = t} {u = u} {m = m} {v = v} h =
    let needs : ℕ → List Name = λ depth. all_needs (t.world depth) (names_of depth (t.world depth).answer m) in
    let was_told : IsTrue u.is_told → IsTrue t.is_told = λ told. sym h.same_told ∙ told in
    let asked : IsTrue t.is_told → (depth : ℕ) → longest ≤ depth → u.asked ≡ with_names t.asked (needs depth) =
    λ told depth far. h.asked_is told depth far ∙ asked_after-names depth (t.world depth) t.asked m in
    let there : IsTrue t.is_told → (depth : ℕ) → longest ≤ depth → AreIn u.asked (needs depth) =
    λ told depth far. subst (λ (s : NameSet). AreIn s (needs depth)) (sym (asked told depth far)) (in-names t.asked (needs depth)) in
    record {
      value_is = λ told depth far. h.value_is (was_told told) depth far ∙ ap (λ (w : Worlds). value_of depth (w depth).answer m) (sym h.same_world);
      were_asked = λ told depth far. subst (λ (w : Worlds). AreIn u.asked (all_needs (w depth) (names_of depth (w depth).answer m))) (sym h.same_world) (there (was_told told) depth far);
    }

-- and it stays so in every call
pub answered-stays : {K A : Type 0} {t u : Told K} {n : Asking A} {r : Result A AskFault} {m : Asking Answer} {v : Answer} → Asks n t u r → IsAnswered t m v → IsAnswered u m v
answered-stays {t = t} {u = u} {m = m} h held =
    let was_told : IsTrue u.is_told → IsTrue t.is_told = λ told. sym h.same_told ∙ told in
    record {
      value_is = λ told depth far. held.value_is (was_told told) depth far ∙ ap (λ (w : Worlds). value_of depth (w depth).answer m) (sym h.same_world);
      were_asked = λ told depth far. subst (λ (w : Worlds). AreIn u.asked (all_needs (w depth) (names_of depth (w depth).answer m))) (sym h.same_world)
          (in-greater (all_needs (t.world depth) (names_of depth (t.world depth).answer m)) h.asked_stays (held.were_asked (was_told told) depth far));
    }

-- a call that gives it again, and asks nothing, asks as the meaning says
pub asks-again : {K : Type 0} {t : Told K} {m : Asking Answer} {v : Answer} {r : Result Answer AskFault} → IsAnswered t m v → r ≡ Ok v → Asks m t t r
asks-again {t = t} {m = m} held is =
    let all : (told : IsTrue t.is_told) (depth : ℕ) → longest ≤ depth → t.asked ≡ asked_after depth (t.world depth) t.asked m =
    λ told depth far. in-again t.asked (all_needs (t.world depth) (names_of depth (t.world depth).answer m)) (held.were_asked told depth far)
    ∙ sym (asked_after-names depth (t.world depth) t.asked m) in
    record {
      same_told = refl;
      same_world = refl;
      same_kept = refl;
      faults_grow = omega arith;
      faults_stay = rw is refl;
      failed = λ e. absurd (cc);
      value_is = λ told depth far. rw is (held.value_is told depth far);
      asked_is = λ told depth far. rw is (all told depth far);
      asked_stays = within-self t.asked;
      asked_within = λ told depth far. subst (λ (s : NameSet). IsWithin t.asked s) (all told depth far) (within-self t.asked);
    }

-- ---- a table of them

module _ {K : Type 0} (meaning_of : Name → Asking Answer) (t : Told K) where
  -- they stay so in every call
  pub all-stay : {A : Type 0} {u : Told K} {n : Asking A} {r : Result A AskFault} (entries : List (Name × Arc Answer Global)) → Asks n t u r → AreAnswered meaning_of t entries → AreAnswered meaning_of u entries
  all-stay [] h held = tt
  all-stay (entry ∷ entries) h held = (answered-stays h held.0, all-stay entries h held.1)

  -- what is found by a name
  pub answered-found : (entries : List (Name × Arc Answer Global)) (name : Name) (answer : Arc Answer Global)
      → AreAnswered meaning_of t entries → lookup (is_at (slice_cmp nat_cmp name)) entries ≡ Some answer → IsAnswered t (meaning_of name) answer.value
  answered-found entries name answer held is = entry-found (λ n a. IsAnswered t (meaning_of n) a.value) entries name answer held is

  -- one more, also where there was no memory for it: a copy of an answer, by a copy of its name
  pub answered-put : {X E : Type 0} (old new : List (Name × Arc Answer Global)) (name key : Name) (answer : Answer) (copy : Arc Answer Global) (r : Result X E)
      → key ≡ name → copy.value ≡ answer → OnOk r (new ≡ insert_entry (slice_cmp nat_cmp) old key copy) → OnErr r (new ≡ old)
      → AreAnswered meaning_of t old → IsAnswered t (meaning_of name) answer → AreAnswered meaning_of t new
  answered-put old new name key answer copy r same_key same_value ok err held one =
      entry-put (λ n a. IsAnswered t (meaning_of n) a.value) old new name key copy r same_key ok err held (subst (λ (a : Answer). IsAnswered t (meaning_of name) a) (sym same_value) one)

-- ---- a class of the file

-- what asks as the meaning of the class asks as that of its name
pub asks-named : {K : Type 0} (t : Tree) (name : Name) (class : Node) {old new : Told K} {r : Result Answer AskFault} → node_named (file_classes t) name ≡ Some class
    → Asks (class_answer t name class) old new r → Asks (file_answer t name) old new r
asks-named t name class {old = old} {new = new} {r = r} named h = subst (λ (m : Asking Answer). Asks m old new r) (sym (ap (λ (o : Option Node). answer_by t name o) named)) h
