-- What an oracle over another one tells: the meanings of names stand in their places.
use Rattle.std.specs.Borrow.{GName}
use Rattle.std.specs.Prelude.{◌≡◌, ℕ, Result, IfOk, OnOk, refl}
use Rattle.std.proofs.Common.{sym, ◌∙◌, ap, subst}
use Rattle.pj_names.specs.declared.answer.Answer.{Answer}
use Rattle.pj_names.specs.declared.oracle.AskFault.{AskFault}
use Rattle.pj_names.specs.ClassName.{Name, NameSet}
use Rattle.pj_names.specs.Asking.{Asking, Return, Ask, Unbounded, ask, bind, value_of, names_of}
use Rattle.pj_names.specs.Told.{World, Told, with_names, asked_after, IsWithin, Asks}
use Rattle.pj_names.proofs.MeaningLaws.{bind-bind, bind-Return, value_of-bind}
use Rattle.pj_names.specs.Told.{all_needs}
use Rattle.pj_names.proofs.AskingLaws.{asked_after-bind, asked_after-names}
use Rattle.pj_names.specs.Expand.{world_by, tells_by, expand}

-- a sequence, expanded, is the sequence of the expanded meanings
pub expand-bind : {A B : Type 0} (F : Name → Asking Answer) (m : Asking A) (k : A → Asking B) → expand F (bind m k) ≡ bind (expand F m) (λ v. expand F (k v))
unfolding expand
expand-bind F (Return v) k = refl
expand-bind F (Ask n f) k =
    (λ i. bind (F n) (λ a. expand-bind F (f a) k i)) ∙ sym (bind-bind (F n) (λ a. expand F (f a)) (λ v. expand F (k v)))
expand-bind F (Unbounded f) k = λ i. Unbounded (λ d. expand-bind F (f d) k i)

pub value_of-expand : {A : Type 0} (F : Name → Asking Answer) (d : ℕ) (w : World) (m : Asking A) → value_of d (world_by F d w).answer m ≡ value_of d w.answer (expand F m)
unfolding expand
value_of-expand F d w (Return v) = refl
value_of-expand F d w (Ask n k) = value_of-expand F d w (k (value_of d w.answer (F n))) ∙ sym (value_of-bind d w.answer (F n) (λ a. expand F (k a)))
value_of-expand F d w (Unbounded f) = value_of-expand F d w (f d)

pub asked_after-expand : {A : Type 0} (F : Name → Asking Answer) (d : ℕ) (w : World) (s : NameSet) (m : Asking A) → asked_after d (world_by F d w) s m ≡ asked_after d w s (expand F m)
unfolding expand
asked_after-expand F d w s (Return v) = refl
asked_after-expand F d w s (Ask n k) =
    asked_after-expand F d w (with_names s (all_needs w (names_of d w.answer (F n)))) (k (value_of d w.answer (F n)))
    ∙ ap (λ t. asked_after d w t (expand F (k (value_of d w.answer (F n))))) (sym (asked_after-names d w s (F n)))
    ∙ sym (asked_after-bind d w s (F n) (λ a. expand F (k a)))
asked_after-expand F d w s (Unbounded f) = asked_after-expand F d w s (f d)

-- what asks as the expanded meaning over the inner oracle asks as the meaning over the outer one
pub asks-outer : {L K A : Type 0} (by : GName) (own : L) (F : L → Name → Asking Answer) (m : Asking A) {t u : Told K} {r : Result A AskFault} → Asks (expand (F own) m) t u r → Asks m (tells_by by own F t) (tells_by by own F u) r
asks-outer by own F m {t = t} {u = u} {r = r} h = record {
  same_told = h.same_told;
  same_world = λ i d. world_by (F own) d (h.same_world i d);
  same_kept = λ i. record { own = own; reference = by; is_told = h.same_told i; world = h.same_world i; kept = h.same_kept i };
  faults_grow = h.faults_grow;
  faults_stay = h.faults_stay;
  failed = h.failed;
  value_is = λ told d far. subst (λ x. IfOk r (λ v. v ≡ x)) (sym (value_of-expand (F own) d (t.world d) m)) (h.value_is told d far);
  asked_is = λ told d far. subst (λ x. OnOk r (u.asked ≡ x)) (sym (asked_after-expand (F own) d (t.world d) t.asked m)) (h.asked_is told d far);
  asked_stays = h.asked_stays;
  asked_within = λ told d far. subst (λ s. IsWithin u.asked s) (sym (asked_after-expand (F own) d (t.world d) t.asked m)) (h.asked_within told d far);
}

-- and back, where the outer oracle is the one that it was: a call keeps the reference and what is its own
pub asks-inner : {L K A : Type 0} (by on : GName) (own after : L) (F : L → Name → Asking Answer) (m : Asking A) {t u : Told K} {r : Result A AskFault} → Asks m (tells_by by own F t) (tells_by on after F u) r → Asks (expand (F own) m) t u r
asks-inner by on own after F m {t = t} {u = u} {r = r} h = record {
  same_told = h.same_told;
  same_world = ap (λ k. k.world) h.same_kept;
  same_kept = ap (λ k. k.kept) h.same_kept;
  faults_grow = h.faults_grow;
  faults_stay = h.faults_stay;
  failed = h.failed;
  value_is = λ told d far. subst (λ x. IfOk r (λ v. v ≡ x)) (value_of-expand (F own) d (t.world d) m) (h.value_is told d far);
  asked_is = λ told d far. subst (λ x. OnOk r (u.asked ≡ x)) (asked_after-expand (F own) d (t.world d) t.asked m) (h.asked_is told d far);
  asked_stays = h.asked_stays;
  asked_within = λ told d far. subst (λ s. IsWithin u.asked s) (asked_after-expand (F own) d (t.world d) t.asked m) (h.asked_within told d far);
}

-- one name: what asks as the meaning of the name asks the name
pub asks-answer : {L K : Type 0} (by : GName) (own : L) (F : L → Name → Asking Answer) (n : Name) {t u : Told K} {r : Result Answer AskFault} → Asks (F own n) t u r → Asks (ask n) (tells_by by own F t) (tells_by by own F u) r
unfolding expand
asks-answer by own F n {t = t} {u = u} {r = r} h = asks-outer by own F (ask n) (subst (λ m. Asks m t u r) (sym (bind-Return (F own n))) h)
