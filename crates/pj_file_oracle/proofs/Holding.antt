-- What is held of a file: it stays right in every call, what is found is right, and what was asked with its names noted apart is held.
use Rattle.std.proofs.Common.{◌≡◌, ◌∙◌, List, [], ◌∷◌, Option, Some, IsTrue, refl, sym, ap, subst}
use Rattle.std.specs.Prelude.{Result, Ok, Err, OnOk, OnErr}
use Rattle.std.specs.Map.{lookup}
use Rattle.std.specs.BTreeMap.{insert_entry, is_at}
use Rattle.std.specs.Cmp.Lexicographic.{slice_cmp}
use Rattle.std.specs.Ordering.{nat_cmp}
use Rattle.std.specs.FinSet as set
use Rattle.pj_tree.specs.Tree.{Tree}
use Rattle.pj_tree.specs.declared.node.Node.{Node}
use Rattle.pj_names.specs.declared.answer.Answer.{Answer}
use Rattle.pj_names.specs.declared.oracle.AskFault.{AskFault}
use Rattle.pj_names.specs.ClassName.{Name, NameSet, name_set}
use Rattle.pj_names.specs.Asking.{Asking}
use Rattle.pj_names.specs.Held.{IsHeld}
use Rattle.pj_names.specs.Noting.{Notes}
use Rattle.pj_names.specs.Told.{Asks, Told, Worlds}
use Rattle.pj_names.proofs.Held.{noted-held}
use Rattle.pj_outer_names.specs.Candidates.{file_classes, node_named}
use Rattle.pj_file_oracle.specs.declared.held.HeldAnswer.{HeldAnswer}
use Rattle.pj_file_oracle.specs.FileAnswer.{answer_by, class_answer, file_answer}
use Rattle.pj_file_oracle.specs.Held.{AreHeld, IsHeldAnswer}
use Rattle.pj_file_oracle.proofs.Tables.{entry-found, entry-put}

-- an answer that is held stays so in every call
held-stays : {K A : Type 0} {t u : Told K} {n : Asking A} {r : Result A AskFault} (m : Asking Answer) (held : HeldAnswer) → Asks n t u r → IsHeldAnswer t m held → IsHeldAnswer u m held
held-stays m held h is = λ told. subst (λ (w : Worlds). IsHeld w m held.answer.value (name_set held.names)) (sym h.same_world) (is (sym h.same_told ∙ told))

-- a new one, whose names were noted apart
pub held-new : {K : Type 0} {t u : Told K} (m : Asking Answer) (held : HeldAnswer) (answer : Answer) (names : NameSet) → held.answer.value ≡ answer → name_set held.names ≡ names
    → Asks m t u (Ok answer) → Notes m t.is_told t.world set.empty names (Ok answer) → IsHeldAnswer u m held
held-new {t = t} {u = u} m held answer names same_answer same_names h n = λ told.
    let was_told : IsTrue t.is_told = sym h.same_told ∙ told in
    let then : IsHeld t.world m answer names = noted-held m t u answer names was_told h n in
    subst (λ (w : Worlds). IsHeld w m held.answer.value (name_set held.names)) (sym h.same_world)
    (subst (λ (a : Answer). IsHeld t.world m a (name_set held.names)) (sym same_answer) (subst (λ (s : NameSet). IsHeld t.world m answer s) (sym same_names) then))

-- ---- a table of them

module _ {K : Type 0} (meaning_of : Name → Asking Answer) (t : Told K) where
  -- they stay so in every call
  pub all-held-stay : {A : Type 0} {u : Told K} {n : Asking A} {r : Result A AskFault} (entries : List (Name × HeldAnswer)) → Asks n t u r → AreHeld meaning_of t entries → AreHeld meaning_of u entries
  all-held-stay [] h held = tt
  all-held-stay (entry ∷ entries) h held = (held-stays (meaning_of entry.0) entry.1 h held.0, all-held-stay entries h held.1)

  -- what is found by a name
  pub held-found : (entries : List (Name × HeldAnswer)) (name : Name) (held : HeldAnswer)
      → AreHeld meaning_of t entries → lookup (is_at (slice_cmp nat_cmp name)) entries ≡ Some held → IsHeldAnswer t (meaning_of name) held
  held-found entries name held all is = entry-found (λ n h. IsHeldAnswer t (meaning_of n) h) entries name held all is

  -- one more, also where there was no memory for it
  pub held-put : {X E : Type 0} (old new : List (Name × HeldAnswer)) (name key : Name) (held : HeldAnswer) (r : Result X E)
      → key ≡ name → OnOk r (new ≡ insert_entry (slice_cmp nat_cmp) old key held) → OnErr r (new ≡ old)
      → AreHeld meaning_of t old → IsHeldAnswer t (meaning_of name) held → AreHeld meaning_of t new
  held-put old new name key held r same ok err all one = entry-put (λ n h. IsHeldAnswer t (meaning_of n) h) old new name key held r same ok err all one

-- ---- a class of the file

-- what its name means is what its declaration means
pub means-named : (t : Tree) (name : Name) (class : Node) → node_named (file_classes t) name ≡ Some class → file_answer t name ≡ class_answer t name class
means-named t name class named = ap (λ (o : Option Node). answer_by t name o) named

-- what its declaration answered, with its names noted apart from no name on
pub held-made : {K : Type 0} (tree : Tree) (name : Name) (class : Node) {t u : Told K} (held : HeldAnswer) (answer : Answer) (old names : NameSet) → node_named (file_classes tree) name ≡ Some class
    → old ≡ set.empty → held.answer.value ≡ answer → name_set held.names ≡ names
    → Asks (class_answer tree name class) t u (Ok answer) → Notes (class_answer tree name class) t.is_told t.world old names (Ok answer) → IsHeldAnswer u (file_answer tree name) held
held-made tree name class {t = t} {u = u} held answer old names named none same_answer same_names h n =
    let noted : Notes (class_answer tree name class) t.is_told t.world set.empty names (Ok answer) =
    subst (λ (s : NameSet). Notes (class_answer tree name class) t.is_told t.world s names (Ok answer)) none n in
    subst (λ (m : Asking Answer). IsHeldAnswer u m held) (sym (means-named tree name class named))
    (held-new (class_answer tree name class) held answer names same_answer same_names h noted)
