-- A value that was found before, with the names that its meaning asked.
use Rattle.std.specs.Borrow.{GName}
use Rattle.std.specs.Prelude.{◌≡◌, ◌≤◌, ◌++◌, ℕ, refl, Bool, List, [], ◌∷◌, IsTrue, Result, Ok, Err, IfOk, OnOk}
use Rattle.std.proofs.Common.{ap, sym, subst, ◌∙◌}
use Rattle.std.specs.FinSet as set
use Rattle.pj_names.specs.declared.answer.Answer.{Answer}
use Rattle.pj_names.specs.declared.oracle.AskFault.{AskFault}
use Rattle.pj_names.specs.declared.oracle.AskFault.TheVariants.{Memory}
use Rattle.pj_names.specs.ClassName.{Name, NameSet, name_set}
use Rattle.pj_names.specs.Asking.{Asking, value_of, names_of}
use Rattle.pj_names.specs.Held.{IsHeld, NeedThemselves, again}
use Rattle.pj_names.specs.Told.{World, Worlds, Told, all_needs, longest, with_names, asked_after, Asks, IsWithin}
use Rattle.pj_names.proofs.AskingLaws.{asked_after-names, within-self, within-names}
use Rattle.pj_names.specs.Noting.{Notes, tells_noting}
use Rattle.pj_names.proofs.NameLists.{names-alike, needs-alike, with_names-empty}
use Rattle.pj_names.proofs.NotingLaws.{asks-noting}

pub value_of-again : {A : Type 0} (d : ℕ) (w : Name → Answer) (v : A) (names : List Name) → value_of d w (again v names) ≡ v
value_of-again d w v [] = refl
value_of-again d w v (n ∷ ns) = value_of-again d w v ns

pub names_of-again : {A : Type 0} (d : ℕ) (w : Name → Answer) (v : A) (names : List Name) → names_of d w (again v names) ≡ names
names_of-again d w v [] = refl
names_of-again d w v (n ∷ ns) = ap (λ l. n ∷ l) (names_of-again d w v ns)

asked-same : {A : Type 0} (d : ℕ) (w : World) (s : NameSet) (m : Asking A) (v : A) (names : List Name) → name_set (names_of d w.answer m) ≡ name_set names → asked_after d w s (again v names) ≡ asked_after d w s m
asked-same d w s m v names are =
    asked_after-names d w s (again v names)
    ∙ ap (λ l. with_names s (all_needs w l)) (names_of-again d w.answer v names)
    ∙ needs-alike w s (names_of d w.answer m) names are
    ∙ sym (asked_after-names d w s m)

-- What asks the names of a meaning again and gives its value asks as the meaning says.
pub asks-held : {K A : Type 0} (m : Asking A) (v : A) (names : List Name) {t u : Told K} {r : Result A AskFault} → (IsTrue t.is_told → IsHeld t.world m v (name_set names)) → Asks (again v names) t u r → Asks m t u r
asks-held m v names {t = t} {u = u} {r = r} held h = record {
  same_told = h.same_told;
  same_world = h.same_world;
  same_kept = h.same_kept;
  faults_grow = h.faults_grow;
  faults_stay = h.faults_stay;
  failed = h.failed;
  value_is = λ told d far. subst (λ x. IfOk r (λ y. y ≡ x)) (value_of-again d (t.world d).answer v names ∙ sym ((held told).value_is d far)) (h.value_is told d far);
  asked_is = λ told d far. subst (λ x. OnOk r (u.asked ≡ x)) (asked-same d (t.world d) t.asked m v names ((held told).names_are d far)) (h.asked_is told d far);
  asked_stays = h.asked_stays;
  asked_within = λ told d far. subst (λ x. IsWithin u.asked x) (asked-same d (t.world d) t.asked m v names ((held told).names_are d far)) (h.asked_within told d far);
}

-- What a call answers is held: with the names that were noted apart, and with those that were asked where none was asked before.

pub noted-held : {K A : Type 0} (m : Asking A) (t u : Told K) (v : A) (names : NameSet) → IsTrue t.is_told → Asks m t u (Ok v) → Notes m t.is_told t.world set.empty names (Ok v) → IsHeld t.world m v names
noted-held m t u v names told h n = record {
  value_is = λ d far. sym (h.value_is told d far);
  names_are = λ d far. sym (with_names-empty (names_of d (t.world d).answer m)) ∙ sym (n.noted_is told d far);
}

needs-themselves : (w : World) (names : List Name) → ((name : Name) → w.needs name ≡ name ∷ []) → all_needs w names ≡ names
needs-themselves w [] own = refl
needs-themselves w (n ∷ ns) own = λ i. own n i ++ needs-themselves w ns own i

pub asked-held : {K A : Type 0} (m : Asking A) (t u : Told K) (v : A) → IsTrue t.is_told → NeedThemselves t.world → t.asked ≡ set.empty → Asks m t u (Ok v) → IsHeld t.world m v u.asked
asked-held m t u v told own none h = record {
  value_is = λ d far. sym (h.value_is told d far);
  names_are = λ d far. sym (with_names-empty (names_of d (t.world d).answer m))
      ∙ (λ i. with_names (sym none i) (sym (needs-themselves (t.world d) (names_of d (t.world d).answer m) (own d far)) i))
      ∙ sym (asked_after-names d (t.world d) t.asked m) ∙ sym (h.asked_is told d far);
}

-- what was asked in full is what is asked where memory is wanted afterwards
pub asks-late : {K A : Type 0} {m : Asking A} {t u : Told K} {v : A} {r : Result A AskFault} → Asks m t u (Ok v) → r ≡ Err Memory → Asks m t u r
asks-late h is = record {
  same_told = h.same_told;
  same_world = h.same_world;
  same_kept = h.same_kept;
  faults_grow = h.faults_grow;
  faults_stay = rw is h.faults_stay;
  failed = λ e. absurd (cc);
  value_is = λ told d far. rw is tt;
  asked_is = λ told d far. rw is tt;
  asked_stays = h.asked_stays;
  asked_within = h.asked_within;
}

-- names noted apart, and then put to those noted before
pub notes-apart : {A : Type 0} (m : Asking A) {a : Bool} {w : Worlds} (names : List Name) {old new : NameSet} {r : Result A AskFault}
    → (IsTrue a → (d : ℕ) → longest ≤ d → name_set (names_of d (w d).answer m) ≡ name_set names)
    → OnOk r (new ≡ with_names old names) → IsWithin old new → IsWithin new (with_names old names) → Notes m a w old new r
notes-apart m {a = a} {w = w} names {old = old} {new = new} {r = r} are is stays within = record {
  noted_is = λ told d far. subst (λ s. OnOk r (new ≡ s)) (names-alike old (names_of d (w d).answer m) names (are told d far)) is;
  noted_stays = stays;
  noted_within = λ told d far. subst (λ s. IsWithin new s) (names-alike old (names_of d (w d).answer m) names (are told d far)) within;
}

-- where nothing more is noted
pub notes-nothing : {A : Type 0} (m : Asking A) {a : Bool} {w : Worlds} {old : NameSet} {e : AskFault} → Notes m a w old old (Err e)
notes-nothing m {w = w} {old = old} = record {
  noted_is = λ told d far. tt;
  noted_stays = within-self old;
  noted_within = λ told d far. within-names (names_of d (w d).answer m) (within-self old);
}

-- What a call asks through a recorder whose names were noted apart: it is refused, it wants memory afterwards, it is done.

pub refused-apart : {K A : Type 0} (by place : GName) (old : NameSet) (m : Asking A) {t u : Told K} {e : AskFault} {r : Result A AskFault}
    → Asks m t u (Err e) → r ≡ Err e → Asks m (tells_noting by place old t) (tells_noting by place old u) r
refused-apart by place old m {t = t} {u = u} h is =
    subst (λ x. Asks m (tells_noting by place old t) (tells_noting by place old u) x) (sym is) (asks-noting by place m h (notes-nothing m))

pub late-apart : {K A : Type 0} (by place : GName) (m : Asking A) (names : List Name) {t u : Told K} {old new : NameSet} {v : A} {r : Result A AskFault}
    → Asks m t u (Ok v) → (IsTrue t.is_told → (d : ℕ) → longest ≤ d → name_set (names_of d (t.world d).answer m) ≡ name_set names)
    → IsWithin old new → IsWithin new (with_names old names) → r ≡ Err Memory → Asks m (tells_noting by place old t) (tells_noting by place new u) r
late-apart by place m names {t = t} {u = u} {old = old} {new = new} h are stays within is =
    subst (λ x. Asks m (tells_noting by place old t) (tells_noting by place new u) x) (sym is)
    (asks-noting by place m (asks-late h refl) (notes-apart m names are tt stays within))

pub done-apart : {K A : Type 0} (by place : GName) (m : Asking A) (names : List Name) {t u : Told K} {old new : NameSet} {v : A} {r : Result A AskFault}
    → Asks m t u (Ok v) → (IsTrue t.is_told → (d : ℕ) → longest ≤ d → name_set (names_of d (t.world d).answer m) ≡ name_set names)
    → new ≡ with_names old names → IsWithin old new → IsWithin new (with_names old names) → r ≡ Ok v → Asks m (tells_noting by place old t) (tells_noting by place new u) r
done-apart by place m names {t = t} {u = u} {old = old} {new = new} h are ok stays within is =
    subst (λ x. Asks m (tells_noting by place old t) (tells_noting by place new u) x) (sym is)
    (asks-noting by place m h (notes-apart m names are ok stays within))
