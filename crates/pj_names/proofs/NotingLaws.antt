-- What an oracle tells that notes the names it is asked, and what is noted.
use Rattle.std.specs.Borrow.{GName}
use Rattle.std.specs.Prelude.{◌≡◌, ℕ, zero, suc, List, [], ◌∷◌, map, Result, Ok, Err, OnOk, Bool, true, false, ◌||◌, IsTrue, refl}
use Rattle.std.proofs.Common.{sym, ◌∙◌, ap, subst, arith, ◌<◌}
use Rattle.std.specs.List.{list_any}
use Rattle.std.specs.declared.cmp.Ordering.{Ordering}
use Rattle.std.specs.declared.cmp.Ordering.TheVariants.{Less, Equal, Greater}
use Rattle.std.specs.Ordering.{eq_by_cmp, is_eq, nat_cmp, ordering_then}
use Rattle.std.specs.Cmp.{nat_cmp_is}
use Rattle.std.specs.Cmp.Lexicographic.{nat_list_cmp_total, slice_cmp}
use Rattle.std.specs.FinSet as set
use Rattle.std.specs.FinSet.{contains-from_list, contains-insert, contains_tied, contains-items, contains-union, same_set, nat_cmp-IsAntisymmetric, slice_cmp-IsAntisymmetric}
use Rattle.pj_names.specs.declared.answer.Answer.{Answer}
use Rattle.pj_names.specs.declared.oracle.AskFault.{AskFault}
use Rattle.pj_names.specs.ClassName.{Name, NameSet}
use Rattle.pj_names.specs.Asking.{Asking, Return, Ask, Unbounded, ask, names_of}
use Rattle.pj_names.specs.Told.{World, Worlds, Told, with_names, asked_after, IsWithin, Asks}
use Rattle.pj_names.proofs.AskingLaws.{with_names-append, within-self, within-insert}
use Rattle.pj_names.proofs.NameLists.{same_names}
use Rattle.pj_names.specs.Noting.{both, noting_world, tells_noting, Notes}

-- a name that is there is put there once more
tied : (o : Ordering) (b : Bool) → (o ≡ Equal → b ≡ true) → (is_eq o || b) ≡ b
tied Less b there = refl
tied Equal b there = sym (there refl)
tied Greater b there = refl

pub insert-there : (s : NameSet) (n : Name) → true ≡ set.contains s n → s ≡ set.insert s n
insert-there s n here =
    sym (same_set nat_list_cmp_total (slice_cmp-IsAntisymmetric nat_cmp-IsAntisymmetric) (set.insert s n) s
    (λ q. contains-insert nat_list_cmp_total s n q ∙ tied (slice_cmp nat_cmp q n) (set.contains s q) (λ same. sym (contains_tied nat_list_cmp_total s q n same) ∙ sym here)))

-- Who is in the one set.

abbrev side : (Name → Bool) → (Name → Bool) → Name → Bool
side beneath noted [] = false
side beneath noted (zero ∷ name) = beneath name
side beneath noted (suc zero ∷ name) = noted name
side beneath noted (suc (suc k) ∷ name) = false

far : (a k : ℕ) (n q : Name) → a < k → eq_by_cmp (slice_cmp nat_cmp) (k ∷ q) (a ∷ n) ≡ false
far a k n q above = ap (λ o. is_eq (ordering_then o (slice_cmp nat_cmp q n))) (sym (nat_cmp_is k a Greater above))

zeros : (names : List Name) (q : Name) → list_any (eq_by_cmp (slice_cmp nat_cmp) q) (map (λ name. 0 ∷ name) names) ≡ side (λ n. list_any (eq_by_cmp (slice_cmp nat_cmp) n) names) (λ n. false) q
zeros [] [] = refl
zeros [] (zero ∷ q) = refl
zeros [] (suc zero ∷ q) = refl
zeros [] (suc (suc k) ∷ q) = refl
zeros (n ∷ ns) [] = zeros ns []
zeros (n ∷ ns) (zero ∷ q) = ap (λ b. eq_by_cmp (slice_cmp nat_cmp) q n || b) (zeros ns (zero ∷ q))
zeros (n ∷ ns) (suc zero ∷ q) = zeros ns (suc zero ∷ q)
zeros (n ∷ ns) (suc (suc k) ∷ q) = ap (λ b. b || list_any (eq_by_cmp (slice_cmp nat_cmp) (suc (suc k) ∷ q)) (map (λ name. 0 ∷ name) ns)) (far 0 (suc (suc k)) n q (omega arith)) ∙ zeros ns (suc (suc k) ∷ q)

ones : (names : List Name) (q : Name) → list_any (eq_by_cmp (slice_cmp nat_cmp) q) (map (λ name. 1 ∷ name) names) ≡ side (λ n. false) (λ n. list_any (eq_by_cmp (slice_cmp nat_cmp) n) names) q
ones [] [] = refl
ones [] (zero ∷ q) = refl
ones [] (suc zero ∷ q) = refl
ones [] (suc (suc k) ∷ q) = refl
ones (n ∷ ns) [] = ones ns []
ones (n ∷ ns) (zero ∷ q) = ones ns (zero ∷ q)
ones (n ∷ ns) (suc zero ∷ q) = ap (λ b. eq_by_cmp (slice_cmp nat_cmp) q n || b) (ones ns (suc zero ∷ q))
ones (n ∷ ns) (suc (suc k) ∷ q) = ap (λ b. b || list_any (eq_by_cmp (slice_cmp nat_cmp) (suc (suc k) ∷ q)) (map (λ name. 1 ∷ name) ns)) (far 1 (suc (suc k)) n q (omega arith)) ∙ ones ns (suc (suc k) ∷ q)

or_false : (a : Bool) → (a || false) ≡ a
or_false true = refl
or_false false = refl

or_swap : (a b c : Bool) → (a || (b || c)) ≡ (b || (a || c))
or_swap true true c = refl
or_swap true false c = refl
or_swap false b c = refl

sides : (a b : Name → Bool) (q : Name) → (side a (λ n. false) q || side (λ n. false) b q) ≡ side a b q
sides a b [] = refl
sides a b (zero ∷ q) = or_false (a q)
sides a b (suc zero ∷ q) = refl
sides a b (suc (suc k) ∷ q) = refl

side-alike : (a b c d : Name → Bool) → ((n : Name) → a n ≡ c n) → ((n : Name) → b n ≡ d n) → (q : Name) → side a b q ≡ side c d q
side-alike a b c d first second [] = refl
side-alike a b c d first second (zero ∷ q) = first q
side-alike a b c d first second (suc zero ∷ q) = second q
side-alike a b c d first second (suc (suc k) ∷ q) = refl

contains-both : (s t : NameSet) (q : Name) → set.contains (both s t) q ≡ side (set.contains s) (set.contains t) q
contains-both s t q =
    contains-union nat_list_cmp_total _ _ q
    ∙ ap (λ b. b || set.contains {R = slice_cmp nat_cmp} (set.from_list (map (λ name. 1 ∷ name) (set.items t))) q) (contains-from_list nat_list_cmp_total (map (λ name. 0 ∷ name) (set.items s)) q ∙ zeros (set.items s) q)
    ∙ ap (λ b. side (λ n. list_any (eq_by_cmp (slice_cmp nat_cmp) n) (set.items s)) (λ n. false) q || b) (contains-from_list nat_list_cmp_total (map (λ name. 1 ∷ name) (set.items t)) q ∙ ones (set.items t) q)
    ∙ sides _ _ q
    ∙ side-alike _ _ _ _ (λ n. sym (contains-items s n)) (λ n. sym (contains-items t n)) q

-- one name more beneath, and one name more noted

more-beneath : (s t : NameSet) (n : Name) (q : Name) → (eq_by_cmp (slice_cmp nat_cmp) q (0 ∷ n) || side (set.contains s) (set.contains t) q) ≡ side (set.contains (set.insert s n)) (set.contains t) q
more-beneath s t n [] = refl
more-beneath s t n (zero ∷ q) = sym (contains-insert nat_list_cmp_total s n q)
more-beneath s t n (suc zero ∷ q) = refl
more-beneath s t n (suc (suc k) ∷ q) = ap (λ b. b || false) (far 0 (suc (suc k)) n q (omega arith))

more-noted : (s t : NameSet) (n : Name) (q : Name) → (eq_by_cmp (slice_cmp nat_cmp) q (1 ∷ n) || side (set.contains s) (set.contains t) q) ≡ side (set.contains s) (set.contains (set.insert t n)) q
more-noted s t n [] = refl
more-noted s t n (zero ∷ q) = refl
more-noted s t n (suc zero ∷ q) = sym (contains-insert nat_list_cmp_total t n q)
more-noted s t n (suc (suc k) ∷ q) = ap (λ b. b || false) (far 1 (suc (suc k)) n q (omega arith))

insert-beneath : (s t : NameSet) (n : Name) → set.insert (both s t) (0 ∷ n) ≡ both (set.insert s n) t
insert-beneath s t n = same_names _ _ (λ q.
    contains-insert nat_list_cmp_total (both s t) (0 ∷ n) q ∙ ap (λ b. eq_by_cmp (slice_cmp nat_cmp) q (0 ∷ n) || b) (contains-both s t q)
    ∙ more-beneath s t n q ∙ sym (contains-both (set.insert s n) t q))

insert-noted : (s t : NameSet) (n : Name) → set.insert (both s t) (1 ∷ n) ≡ both s (set.insert t n)
insert-noted s t n = same_names _ _ (λ q.
    contains-insert nat_list_cmp_total (both s t) (1 ∷ n) q ∙ ap (λ b. eq_by_cmp (slice_cmp nat_cmp) q (1 ∷ n) || b) (contains-both s t q)
    ∙ more-noted s t n q ∙ sym (contains-both s (set.insert t n) q))

names-beneath : (s t : NameSet) (ns : List Name) → with_names (both s t) (map (λ name. 0 ∷ name) ns) ≡ both (with_names s ns) t
names-beneath s t [] = refl
names-beneath s t (n ∷ ns) = ap (λ u. with_names u (map (λ name. 0 ∷ name) ns)) (insert-beneath s t n) ∙ names-beneath (set.insert s n) t ns

-- what a meaning asks of both
asked-both : {A : Type 0} (d : ℕ) (w : World) (s t : NameSet) (m : Asking A) → asked_after d (noting_world w) (both s t) m ≡ both (asked_after d w s m) (with_names t (names_of d w.answer m))
asked-both d w s t (Return v) = refl
asked-both d w s t (Unbounded f) = asked-both d w s t (f d)
asked-both d w s t (Ask n k) =
    ap (λ u. asked_after d (noting_world w) u (k (w.answer n)))
    (with_names-append (both s t) (map (λ need. 0 ∷ need) (w.needs n)) ((1 ∷ n) ∷ []) ∙ ap (λ u. set.insert u (1 ∷ n)) (names-beneath s t (w.needs n)) ∙ insert-noted (with_names s (w.needs n)) t n)
    ∙ asked-both d w (with_names s (w.needs n)) (set.insert t n) (k (w.answer n))

-- both are in the one set, and back

both-within : (s t u v : NameSet) → IsWithin s u → IsWithin t v → IsWithin (both s t) (both u v)
both-within s t u v a b = record { each = λ q h. subst (λ x. IsTrue x) (sym (contains-both u v q)) (at q (subst (λ x. IsTrue x) (contains-both s t q) h)) } where
  at : (q : Name) → IsTrue (side (set.contains s) (set.contains t) q) → IsTrue (side (set.contains u) (set.contains v) q)
  at [] h = h
  at (zero ∷ q) h = a.each q h
  at (suc zero ∷ q) h = b.each q h
  at (suc (suc k) ∷ q) h = h

within-beneath : (s t u v : NameSet) → IsWithin (both s t) (both u v) → IsWithin s u
within-beneath s t u v h = record { each = λ q in_s. subst (λ x. IsTrue x) (contains-both u v (0 ∷ q)) (h.each (0 ∷ q) (subst (λ x. IsTrue x) (sym (contains-both s t (0 ∷ q))) in_s)) }

within-noted : (s t u v : NameSet) → IsWithin (both s t) (both u v) → IsWithin t v
within-noted s t u v h = record { each = λ q in_t. subst (λ x. IsTrue x) (contains-both u v (1 ∷ q)) (h.each (1 ∷ q) (subst (λ x. IsTrue x) (sym (contains-both s t (1 ∷ q))) in_t)) }

same-beneath : (s t u v : NameSet) → both s t ≡ both u v → s ≡ u
same-beneath s t u v is = same_names s u (λ q. sym (contains-both s t (0 ∷ q)) ∙ ap (λ x. set.contains x (0 ∷ q)) is ∙ contains-both u v (0 ∷ q))

same-noted : (s t u v : NameSet) → both s t ≡ both u v → t ≡ v
same-noted s t u v is = same_names t v (λ q. sym (contains-both s t (1 ∷ q)) ∙ ap (λ x. set.contains x (1 ∷ q)) is ∙ contains-both u v (1 ∷ q))

on_ok : {A E P Q : Type 0} (r : Result A E) → (P → Q) → OnOk r P → OnOk r Q
on_ok (Ok v) f p = f p
on_ok (Err e) f p = tt

on_ok_both : {A E P Q R : Type 0} (r : Result A E) → (P → Q → R) → OnOk r P → OnOk r Q → OnOk r R
on_ok_both (Ok v) f p q = f p q
on_ok_both (Err e) f p q = tt

-- what asks the inner oracle and notes the names asks the outer one
pub asks-noting : {K A : Type 0} (by place : GName) (m : Asking A) {t u : Told K} {old new : NameSet} {r : Result A AskFault} → Asks m t u r → Notes m t.is_told t.world old new r → Asks m (tells_noting by place old t) (tells_noting by place new u) r
asks-noting by place m {t = t} {u = u} {old = old} {new = new} {r = r} h n = record {
  same_told = h.same_told;
  same_world = λ i d. noting_world (h.same_world i d);
  same_kept = λ i. record { own = place; reference = by; is_told = h.same_told i; world = h.same_world i; kept = h.same_kept i };
  faults_grow = h.faults_grow;
  faults_stay = h.faults_stay;
  failed = h.failed;
  value_is = λ told d far. h.value_is told d far;
  asked_is = λ told d far. on_ok_both r (λ a b. (λ i. both (a i) (b i)) ∙ sym (asked-both d (t.world d) t.asked old m)) (h.asked_is told d far) (n.noted_is told d far);
  asked_stays = both-within t.asked old u.asked new h.asked_stays n.noted_stays;
  asked_within = λ told d far. subst (λ s. IsWithin (both u.asked new) s) (sym (asked-both d (t.world d) t.asked old m)) (both-within u.asked new _ _ (h.asked_within told d far) (n.noted_within told d far));
}

-- and back: what asks the outer one
pub asks-noted : {K A : Type 0} (by on place at : GName) (old new : NameSet) (m : Asking A) (t u : Told K) {r : Result A AskFault} → Asks m (tells_noting by place old t) (tells_noting on at new u) r → Asks m t u r
asks-noted by on place at old new m t u {r = r} h = record {
  same_told = h.same_told;
  same_world = ap (λ k. k.world) h.same_kept;
  same_kept = ap (λ k. k.kept) h.same_kept;
  faults_grow = h.faults_grow;
  faults_stay = h.faults_stay;
  failed = h.failed;
  value_is = h.value_is;
  asked_is = λ told d far. on_ok r (λ e. same-beneath u.asked new _ _ (e ∙ asked-both d (t.world d) t.asked old m)) (h.asked_is told d far);
  asked_stays = within-beneath t.asked old u.asked new h.asked_stays;
  asked_within = λ told d far. within-beneath u.asked new _ _ (subst (λ s. IsWithin (both u.asked new) s) (asked-both d (t.world d) t.asked old m) (h.asked_within told d far));
}

-- notes the names
pub notes-noted : {K A : Type 0} (by on place at : GName) (old new : NameSet) (m : Asking A) (t u : Told K) {r : Result A AskFault} → Asks m (tells_noting by place old t) (tells_noting on at new u) r → Notes m t.is_told t.world old new r
notes-noted by on place at old new m t u {r = r} h = record {
  noted_is = λ told d far. on_ok r (λ e. same-noted u.asked new _ _ (e ∙ asked-both d (t.world d) t.asked old m)) (h.asked_is told d far);
  noted_stays = within-noted t.asked old u.asked new h.asked_stays;
  noted_within = λ told d far. within-noted u.asked new _ _ (subst (λ s. IsWithin (both u.asked new) s) (asked-both d (t.world d) t.asked old m) (h.asked_within told d far));
}

ok_holds : {A E P : Type 0} (r : Result A E) → P → OnOk r P
ok_holds (Ok v) p = p
ok_holds (Err e) p = tt

-- one name noted
pub notes-ask : (n : Name) {a : Bool} {w : Worlds} {old new : NameSet} {r : Result Answer AskFault} → new ≡ set.insert old n → Notes (ask n) a w old new r
notes-ask n {old = old} {new = new} {r = r} is = record {
  noted_is = λ told d far. ok_holds r is;
  noted_stays = subst (λ s. IsWithin old s) (sym is) (within-insert n (within-self old));
  noted_within = λ told d far. subst (λ s. IsWithin new s) is (within-self new);
}
