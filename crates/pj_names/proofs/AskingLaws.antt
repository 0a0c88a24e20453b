-- What follows for all calls that ask as a meaning says.
use Rattle.std.specs.Prelude.{◌≡◌, ℕ, ◌+◌, List, [], ◌∷◌, ◌++◌, Bool, true, false, ◌||◌, IsTrue, Result, Ok, Err, IfOk, OnOk, refl}
use Rattle.std.proofs.Common.{sym, ◌∙◌, ap, subst, arith, ◌<◌, ◌≤◌, length, get_or, drop, add-one, drop-cons}
use Rattle.std.specs.Cmp.Lexicographic.{nat_list_cmp_total}
use Rattle.std.specs.FinSet as set
use Rattle.std.specs.FinSet.{contains-insert}
use Rattle.pj_names.specs.declared.oracle.AskFault.{AskFault}
use Rattle.pj_names.specs.declared.oracle.AskFault.TheVariants.{Failed, Memory}
use Rattle.pj_names.specs.ClassName.{Name, NameSet}
use Rattle.pj_names.specs.Asking.{Asking, Return, Ask, Unbounded, bind, value_of, names_of}
use Rattle.pj_names.proofs.MeaningLaws.{value_of-bind}
use Rattle.pj_names.specs.Told.{World, Worlds, Told, longest, with_names, all_needs, asked_after, IsWithin, UnlessFailed, Asks}

-- What a sequence asks.

pub asked_after-bind : {A B : Type 0} (d : ℕ) (w : World) (s : NameSet) (m : Asking A) (k : A → Asking B) → asked_after d w s (bind m k) ≡ asked_after d w (asked_after d w s m) (k (value_of d w.answer m))
asked_after-bind d w s (Return v) k = refl
asked_after-bind d w s (Ask n f) k = asked_after-bind d w (with_names s (w.needs n)) (f (w.answer n)) k
asked_after-bind d w s (Unbounded f) k = asked_after-bind d w s (f d) k

-- What was asked is what was asked before, with the needs of the meaning's names.

pub with_names-append : (s : NameSet) (xs ys : List Name) → with_names s (xs ++ ys) ≡ with_names (with_names s xs) ys
with_names-append s [] ys = refl
with_names-append s (x ∷ xs) ys = with_names-append (set.insert s x) xs ys

pub asked_after-names : {A : Type 0} (d : ℕ) (w : World) (s : NameSet) (m : Asking A) → asked_after d w s m ≡ with_names s (all_needs w (names_of d w.answer m))
asked_after-names d w s (Return v) = refl
asked_after-names d w s (Ask n k) = asked_after-names d w (with_names s (w.needs n)) (k (w.answer n)) ∙ sym (with_names-append s (w.needs n) _)
asked_after-names d w s (Unbounded f) = asked_after-names d w s (f d)

-- Sets of names only grow.

or_right : (a b : Bool) → IsTrue b → IsTrue (a || b)
or_right true b h = refl
or_right false b h = h

pub within-self : (s : NameSet) → IsWithin s s
within-self s = record { each = λ q h. h }

pub within-trans : {s t u : NameSet} → IsWithin s t → IsWithin t u → IsWithin s u
within-trans a b = record { each = λ q h. b.each q (a.each q h) }

pub within-insert : {s t : NameSet} (n : Name) → IsWithin s t → IsWithin s (set.insert t n)
within-insert {t = t} n a = record { each = λ q h. subst (λ b. IsTrue b) (sym (contains-insert nat_list_cmp_total t n q)) (or_right _ _ (a.each q h)) }

pub within-names : {s t : NameSet} (ns : List Name) → IsWithin s t → IsWithin s (with_names t ns)
within-names [] a = a
within-names {t = t} (n ∷ ns) a = within-names {t = set.insert t n} ns (within-insert n a)

pub within-after : {A : Type 0} {s t : NameSet} (d : ℕ) (w : World) (m : Asking A) → IsWithin s t → IsWithin s (asked_after d w t m)
within-after d w (Return v) a = a
within-after {s = s} {t = t} d w (Ask n k) a = within-after {t = with_names t (w.needs n)} d w (k (w.answer n)) (within-names (w.needs n) a)
within-after {s = s} {t = t} d w (Unbounded f) a = within-after {s = s} {t = t} d w (f d) a

-- a count that stays in two calls, the second of which may fail
unless-trans : {A : Type 0} (x y z : ℕ) (r : Result A AskFault) → y ≡ x → UnlessFailed r (z ≡ y) → UnlessFailed r (z ≡ x)
unless-trans x y z (Ok v) first second = second ∙ first
unless-trans x y z (Err Memory) first second = second ∙ first
unless-trans x y z (Err Failed) first second = tt

-- What a body does: it returns without asking, it stops for want of memory, it hands on a refusal, it goes on.

pub asks-return : {K : Type 0} {A : Type 0} {t : Told K} {v : A} {r : Result A AskFault} → r ≡ Ok v → Asks (Return v) t t r
asks-return {t = t} {v = v} is = record {
  same_told = refl;
  same_world = refl;
  same_kept = refl;
  faults_grow = omega arith;
  faults_stay = rw is refl;
  failed = λ e. absurd (cc);
  value_is = λ told d far. rw is refl;
  asked_is = λ told d far. rw is refl;
  asked_stays = within-self t.asked;
  asked_within = λ told d far. within-self t.asked;
}

pub asks-stop : {K : Type 0} {A : Type 0} {m : Asking A} {t : Told K} {r : Result A AskFault} → r ≡ Err Memory → Asks m t t r
asks-stop {m = m} {t = t} is = record {
  same_told = refl;
  same_world = refl;
  same_kept = refl;
  faults_grow = omega arith;
  faults_stay = rw is refl;
  failed = λ e. absurd (cc);
  value_is = λ told d far. rw is tt;
  asked_is = λ told d far. rw is tt;
  asked_stays = within-self t.asked;
  asked_within = λ told d far. within-after d (t.world d) m (within-self t.asked);
}

pub asks-refused : {K : Type 0} {A B : Type 0} {m : Asking A} (k : A → Asking B) {old new : Told K} {e : AskFault} {r : Result B AskFault} → Asks m old new (Err e) → r ≡ Err e → Asks (bind m k) old new r
asks-refused {m = m} k {old = old} {new = new} {e = e} h is = record {
  same_told = h.same_told;
  same_world = h.same_world;
  same_kept = h.same_kept;
  faults_grow = h.faults_grow;
  faults_stay = rw is h.faults_stay;
  failed = λ fails. h.failed (let f : e ≡ Failed = cc in ap (λ x. Err x) f);
  value_is = λ told d far. rw is tt;
  asked_is = λ told d far. rw is tt;
  asked_stays = h.asked_stays;
  asked_within = λ told d far. subst (λ s. IsWithin new.asked s) (sym (asked_after-bind d (old.world d) old.asked m k)) (within-after d (old.world d) (k (value_of d (old.world d).answer m)) (h.asked_within told d far));
}

pub asks-then : {K : Type 0} {A B : Type 0} {m : Asking A} (k : A → Asking B) {a b c : Told K} {v : A} {r : Result B AskFault} → Asks m a b (Ok v) → Asks (k v) b c r → Asks (bind m k) a c r
asks-then {m = m} k {a = a} {b = b} {c = c} {v = v} {r = r} first then =
    let told_there = λ (told : IsTrue a.is_told). first.same_told ∙ told in
    let value_there = λ (told : IsTrue a.is_told) (d : ℕ) (far : longest ≤ d). (λ i. value_of d (first.same_world i d).answer (k (first.value_is told d far i))) ∙ sym (value_of-bind d (a.world d).answer m k) in
    let asked_there = λ (told : IsTrue a.is_told) (d : ℕ) (far : longest ≤ d). (λ i. asked_after d (first.same_world i d) (first.asked_is told d far i) (k (first.value_is told d far i))) ∙ sym (asked_after-bind d (a.world d) a.asked m k) in record {
      same_told = then.same_told ∙ first.same_told;
      same_world = then.same_world ∙ first.same_world;
      same_kept = then.same_kept ∙ first.same_kept;
      faults_grow = omega (arith, first.faults_grow, then.faults_grow);
      faults_stay = unless-trans a.faults b.faults c.faults r first.faults_stay then.faults_stay;
      failed = λ is. omega (arith, first.faults_grow, then.failed is);
      value_is = λ told d far. subst (λ x. IfOk r (λ u. u ≡ x)) (value_there told d far) (then.value_is (told_there told) d far);
      asked_is = λ told d far. subst (λ x. OnOk r (c.asked ≡ x)) (asked_there told d far) (then.asked_is (told_there told) d far);
      asked_stays = within-trans first.asked_stays then.asked_stays;
      asked_within = λ told d far. subst (λ s. IsWithin c.asked s) (asked_there told d far) (then.asked_within (told_there told) d far);
    }

-- over an oracle that counts no fault before and after a call, the call did not fail
pub asks-never-failed : {K : Type 0} {A : Type 0} {m : Asking A} {t u : Told K} {r : Result A AskFault} → Asks m t u r → u.faults ≡ 0 → r ≡ Err Failed → ⊥
asks-never-failed h none fails = omega (arith, none, h.failed fails)

-- For a loop: the meaning m, begun where the oracle told t, has come to n where it tells u. What n comes to from
-- there, m comes to from the beginning.
pub record ComesTo {K A : Type 0} (m : Asking A) (t : Told K) (n : Asking A) (u : Told K) : Type 0 where
  pub same_told : u.is_told ≡ t.is_told
  pub same_world : u.world ≡ t.world
  pub same_kept : u.kept ≡ t.kept
  pub faults_same : u.faults ≡ t.faults
  pub value_same : IsTrue t.is_told → (d : ℕ) → longest ≤ d → value_of d (t.world d).answer m ≡ value_of d (t.world d).answer n
  pub asked_same : IsTrue t.is_told → (d : ℕ) → longest ≤ d → asked_after d (t.world d) t.asked m ≡ asked_after d (t.world d) u.asked n
  pub asked_stays : IsWithin t.asked u.asked

-- the beginning
pub comes-begin : {K : Type 0} {A : Type 0} {m : Asking A} {t : Told K} → ComesTo m t m t
comes-begin {t = t} = record {
  same_told = refl;
  same_world = refl;
  same_kept = refl;
  faults_same = refl;
  value_same = λ told d far. refl;
  asked_same = λ told d far. refl;
  asked_stays = within-self t.asked;
}

-- one more call that asks
pub comes-then : {K : Type 0} {A B : Type 0} {m : Asking B} {n : Asking A} (k : A → Asking B) {t u c : Told K} {v : A} → ComesTo m t (bind n k) u → Asks n u c (Ok v) → ComesTo m t (k v) c
comes-then {n = n} k {t = t} {u = u} {c = c} {v = v} so_far h = record {
  same_told = h.same_told ∙ so_far.same_told;
  same_world = h.same_world ∙ so_far.same_world;
  same_kept = h.same_kept ∙ so_far.same_kept;
  faults_same = h.faults_stay ∙ so_far.faults_same;
  value_same = λ told d far. so_far.value_same told d far ∙ value_of-bind d (t.world d).answer n k
      ∙ ap (λ (w : Worlds). value_of d (t.world d).answer (k (value_of d (w d).answer n))) (sym so_far.same_world) ∙ ap (λ x. value_of d (t.world d).answer (k x)) (sym (h.value_is (so_far.same_told ∙ told) d far));
  asked_same = λ told d far. so_far.asked_same told d far ∙ asked_after-bind d (t.world d) u.asked n k
      ∙ ap (λ (w : Worlds). asked_after d (t.world d) (asked_after d (w d) u.asked n) (k (value_of d (w d).answer n))) (sym so_far.same_world)
      ∙ ap (λ s. asked_after d (t.world d) s (k (value_of d (u.world d).answer n))) (sym (h.asked_is (so_far.same_told ∙ told) d far))
      ∙ ap (λ x. asked_after d (t.world d) c.asked (k x)) (sym (h.value_is (so_far.same_told ∙ told) d far));
  asked_stays = within-trans so_far.asked_stays h.asked_stays;
}

-- the end
pub comes-ends : {K : Type 0} {A : Type 0} {m n : Asking A} {t u last : Told K} {r : Result A AskFault} → ComesTo m t n u → Asks n u last r → Asks m t last r
comes-ends {m = m} {n = n} {t = t} {u = u} {last = last} {r = r} so_far h = record {
  same_told = h.same_told ∙ so_far.same_told;
  same_world = h.same_world ∙ so_far.same_world;
  same_kept = h.same_kept ∙ so_far.same_kept;
  faults_grow = omega (arith, so_far.faults_same, h.faults_grow);
  faults_stay = unless-trans t.faults u.faults last.faults r so_far.faults_same h.faults_stay;
  failed = λ is. omega (arith, so_far.faults_same, h.failed is);
  value_is = λ told d far. subst (λ x. IfOk r (λ u. u ≡ x)) (ap (λ (w : Worlds). value_of d (w d).answer n) so_far.same_world ∙ sym (so_far.value_same told d far)) (h.value_is (so_far.same_told ∙ told) d far);
  asked_is = λ told d far. subst (λ x. OnOk r (last.asked ≡ x)) (ap (λ (w : Worlds). asked_after d (w d) u.asked n) so_far.same_world ∙ sym (so_far.asked_same told d far)) (h.asked_is (so_far.same_told ∙ told) d far);
  asked_stays = within-trans so_far.asked_stays h.asked_stays;
  asked_within = λ told d far. subst (λ x. IsWithin last.asked x) (ap (λ (w : Worlds). asked_after d (w d) u.asked n) so_far.same_world ∙ sym (so_far.asked_same told d far)) (h.asked_within (so_far.same_told ∙ told) d far);
}

-- A recursion that nothing bounds, in a loop. Where at each depth that a call does not reach it goes on with p, so does the
-- whole.
pub comes-deeper : {K : Type 0} {A B : Type 0} {m : Asking B} {f : ℕ → Asking B} (p : Asking A) (g : ℕ → A → Asking B) {t u : Told K}
    → ((d : ℕ) → longest ≤ d → f d ≡ bind p (g d)) → ComesTo m t (Unbounded f) u → ComesTo m t (bind p (λ v. Unbounded (λ d. g d v))) u
comes-deeper {f = f} p g {t = t} {u = u} goes_on so_far = record {
  same_told = so_far.same_told;
  same_world = so_far.same_world;
  same_kept = so_far.same_kept;
  faults_same = so_far.faults_same;
  value_same = λ told d far. so_far.value_same told d far ∙ ap (λ x. value_of d (t.world d).answer x) (goes_on d far)
      ∙ value_of-bind d (t.world d).answer p (g d) ∙ sym (value_of-bind d (t.world d).answer p (λ v. Unbounded (λ d. g d v)));
  asked_same = λ told d far. so_far.asked_same told d far ∙ ap (λ x. asked_after d (t.world d) u.asked x) (goes_on d far)
      ∙ asked_after-bind d (t.world d) u.asked p (g d) ∙ sym (asked_after-bind d (t.world d) u.asked p (λ v. Unbounded (λ d. g d v)));
  asked_stays = so_far.asked_stays;
}

-- where it is at its end
pub asks-settled : {K : Type 0} {A : Type 0} {t : Told K} {v : A} {r : Result A AskFault} → r ≡ Ok v → Asks (Unbounded (λ d. Return v)) t t r
asks-settled {t = t} {v = v} is = record {
  same_told = refl;
  same_world = refl;
  same_kept = refl;
  faults_grow = omega arith;
  faults_stay = rw is refl;
  failed = λ e. absurd (cc);
  value_is = λ told d far. rw is refl;
  asked_is = λ told d far. rw is refl;
  asked_stays = within-self t.asked;
  asked_within = λ told d far. within-self t.asked;
}

-- In a `for` over a list: what is left at an index below its end.
pub left_from : {X : Type 0} (xs : List X) (i : ℕ) (x : X) → i < length xs → drop i xs ≡ get_or xs i x ∷ drop (i + 1) xs
left_from xs i x h = rw (add-one, drop-cons xs i x) refl

-- for a function that asks without a loop: `#[tactic(auto, using(pj_names::proofs::AskingLaws::asking_steps))]`
pub ruleset asking_steps = (within-self, within-trans, within-insert, within-names, within-after, value_of-bind, asked_after-bind)

-- for a function that asks in a `for`: `#[tactic(auto, using(pj_names::proofs::AskingLaws::asking_loops))]`
pub ruleset asking_loops = (within-self, within-trans, within-insert, within-names, within-after, value_of-bind, asked_after-bind, left_from)
