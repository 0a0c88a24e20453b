-- What follows for all meanings that ask.
use Rattle.std.specs.Prelude.{◌≡◌, ℕ, ◌+◌, IsTrue, List, [], ◌∷◌, ◌++◌, true, Some, None, refl}
use Rattle.std.proofs.Common.{sym, ◌∙◌, ap, subst, arith, append-nil, append_assoc}
use Rattle.std.specs.Cmp.Lexicographic.{nat_list_cmp_total, slice_cmp}
use Rattle.std.specs.FinSet as set
use Rattle.std.specs.FinSet.{contains-from_list}
use Rattle.std.specs.Ordering.{eq_by_cmp, nat_cmp}
use Rattle.pj_names.specs.declared.answer.Answer.{Answer}
use Rattle.pj_names.specs.ClassName.{Name, NameSet, name_set}
use Rattle.pj_names.specs.Asking.{Asking, Return, Ask, Unbounded, ask, bind, each, value_of, names_of}
use Rattle.pj_names.specs.Held.{AreOne, IsHeld}
use Rattle.pj_names.specs.Meaning.{Source, found_in, or_whole, source_of, Meaning, Done, Need, Outcome, Gives, also, answered, over, outcome_of, Means, in_front, after, whole, Agrees, AgreesAt}
use Rattle.pj_names.specs.AnswerList.{or_absent}
use Rattle.pj_names.specs.Told.{Worlds, longest}
use Rattle.pj_names.proofs.NameLists.{is_in, itself, or_left, or_right}

-- One meaning after another.

pub value_of-bind : {A B : Type 0} (d : ℕ) (w : Name → Answer) (m : Asking A) (k : A → Asking B) → value_of d w (bind m k) ≡ value_of d w (k (value_of d w m))
value_of-bind d w (Return v) k = refl
value_of-bind d w (Ask n f) k = value_of-bind d w (f (w n)) k
value_of-bind d w (Unbounded f) k = value_of-bind d w (f d) k

pub names_of-bind : {A B : Type 0} (d : ℕ) (w : Name → Answer) (m : Asking A) (k : A → Asking B) → names_of d w (bind m k) ≡ names_of d w m ++ names_of d w (k (value_of d w m))
names_of-bind d w (Return v) k = refl
names_of-bind d w (Ask n f) k = ap (λ names. n ∷ names) (names_of-bind d w (f (w n)) k)
names_of-bind d w (Unbounded f) k = names_of-bind d w (f d) k

pub bind-bind : {A B C : Type 0} (m : Asking A) (f : A → Asking B) (g : B → Asking C) → bind (bind m f) g ≡ bind m (λ a. bind (f a) g)
bind-bind (Return v) f g = refl
bind-bind (Ask n h) f g = λ i. Ask n (λ a. bind-bind (h a) f g i)
bind-bind (Unbounded h) f g = λ i. Unbounded (λ d. bind-bind (h d) f g i)

pub bind-Return : {A : Type 0} (m : Asking A) → bind m (λ a. Return a) ≡ m
bind-Return (Return v) = refl
bind-Return (Ask n h) = λ i. Ask n (λ a. bind-Return (h a) i)
bind-Return (Unbounded h) = λ i. Unbounded (λ d. bind-Return (h d) i)

-- The meanings of a list in order, as a loop gathers their values: in front stand those gathered so far.

abbrev pub gather : {A B : Type 0} → (A → Asking B) → List B → List A → Asking (List B)
gather f front [] = Return front
gather f front (x ∷ xs) = bind (f x) (λ v. gather f (front ++ v ∷ []) xs)

each-front : {A B : Type 0} (f : A → Asking B) (front : List B) (xs : List A) → bind (each f xs) (λ vs. Return (front ++ vs)) ≡ gather f front xs
each-front f front [] = ap (λ l. Return l) (append-nil front)
each-front f front (x ∷ xs) =
    bind-bind (f x) (λ v. bind (each f xs) (λ vs. Return (v ∷ vs))) (λ vs. Return (front ++ vs))
    ∙ (λ i. bind (f x) (λ v. (bind-bind (each f xs) (λ vs. Return (v ∷ vs)) (λ vs. Return (front ++ vs))
    ∙ (λ j. bind (each f xs) (λ vs. Return (sym (append_assoc front (v ∷ []) vs) j)))
    ∙ each-front f (front ++ v ∷ []) xs) i))

pub each-gather : {A B : Type 0} (f : A → Asking B) (xs : List A) → each f xs ≡ gather f [] xs
each-gather f xs = sym (bind-Return (each f xs)) ∙ each-front f [] xs

-- names asked one after the other
pub names_of-each-ask : (d : ℕ) (w : Name → Answer) (names : List Name) → names_of d w (each ask names) ≡ names
names_of-each-ask d w [] = refl
names_of-each-ask d w (n ∷ ns) = ap (λ rest. n ∷ rest) (names_of-bind d w (each ask ns) (λ vs. Return (w n ∷ vs)) ∙ append-nil (names_of d w (each ask ns)) ∙ names_of-each-ask d w ns)

-- Agreement: what two sources answer alike for the names of a meaning, it means alike over both.

abbrev AgreesOn : {A : Type 0} → Source → Source → Meaning A → Meaning A → Type 0
AgreesOn M N (Done v names) x = ((q : Name) → IsTrue (is_in names q) → N q ≡ M q) → x ≡ Done v names
AgreesOn M N (Need n) x = Unit {0}

agrees_also : {A : Type 0} (M N : Source) (n : Name) (a : Answer) (rest : Answer → Meaning A) (r : Meaning A) → Some a ≡ M n → AgreesOn M N r (rest a) → AgreesOn M N (also n r) (answered n (N n) rest)
agrees_also M N n a rest (Done v names) here same = λ all.
    ap (λ o. answered n o rest) (all n (or_left (eq_by_cmp (slice_cmp nat_cmp) n n) (is_in names n) (itself n)) ∙ sym here)
    ∙ ap (λ r. also n r) (same (λ q later. all q (or_right (eq_by_cmp (slice_cmp nat_cmp) q n) (is_in names q) later)))
agrees_also M N n a rest (Need q) here same = tt

agrees : {A : Type 0} (d : ℕ) (M N : Source) (m : Asking A) → AgreesOn M N (over d M m) (over d N m)
agrees d M N (Return v) = λ _. refl
agrees d M N (Ask n k) =
    elim (M n) as (λ o. o ≡ M n → AgreesOn M N (answered n o (λ a. over d M (k a))) (answered n (N n) (λ a. over d N (k a)))) [
      | None ↦ λ _. tt
      | Some a ↦ λ here. agrees_also M N n a (λ b. over d N (k b)) (over d M (k a)) here (agrees d M N (k a))
    ] refl
agrees d M N (Unbounded f) = agrees d M N (f d)

-- who is in the set of some names
in_set : (names : List Name) (s : NameSet) (q : Name) → name_set names ≡ s → IsTrue (is_in names q) → IsTrue (set.contains s q)
in_set names s q is here = subst (λ t. IsTrue (set.contains t q)) is (subst (λ b. IsTrue b) (sym (contains-from_list nat_list_cmp_total names q)) here)

pub agreement-at : {A : Type 0} (d : ℕ) (M N : Source) (m : Asking A) → AgreesAt d M N m
agreement-at d M N m v names done alike = subst (λ r. AgreesOn M N r (over d N m)) done (agrees d M N m) (λ q here. alike q (in_set names (name_set names) q refl here))

pub agreement : {A : Type 0} (M N : Source) (m : Asking A) → Agrees M N m
agreement {A = A} M N m v s means alike = record { least = means.least; is = λ d far. same_outcome d (over d M m) refl (means.is d far) }
  where
    one : (w : A) (names : List Name) → Gives w (name_set names) ≡ Gives v s → name_set names ≡ s
    one w names is = cc

    same_outcome : (d : ℕ) (r : Meaning A) → over d M m ≡ r → outcome_of r ≡ Gives v s → outcome_of (over d N m) ≡ Gives v s
    same_outcome d (Done w names) here is =
        ap (λ r. outcome_of r) (agreement-at d M N m w names here (λ q among. alike q (subst (λ t. IsTrue (set.contains t q)) (one w names is) among))) ∙ is
    same_outcome d (Need n) here is = absurd (cc)

-- What a meaning comes to is one outcome.

pub means-one : {A : Type 0} (M : Source) (m : Asking A) (first second : Outcome A) → Means M m first → Means M m second → first ≡ second
means-one M m first second a b = sym (a.is (a.least + b.least) (omega arith)) ∙ b.is (a.least + b.least) (omega arith)

-- The whole source of a list answers every name: with the first pair's answer, or `Absent`.

pub source_of-whole : (answers : List (Name × Answer)) (n : Name) → source_of answers true n ≡ Some (or_absent (found_in answers n))
source_of-whole answers n = elim (found_in answers n) as (λ o. or_whole true o ≡ Some (or_absent o)) [ None ↦ refl | Some a ↦ refl ]

-- In a sequence the names are united, and the first need is the result.

pub over-bind : {A B : Type 0} (d : ℕ) (M : Source) (m : Asking A) (k : A → Asking B) → over d M (bind m k) ≡ after (over d M m) (λ v. over d M (k v))
over-bind d M (Return v) k = refl
over-bind {A = A} d M (Ask n f) k =
    elim (M n) as (λ o. answered n o (λ a. over d M (bind (f a) k)) ≡ after (answered n o (λ a. over d M (f a))) (λ v. over d M (k v))) [
      | None ↦ refl
      | Some a ↦ ap (λ r. also n r) (over-bind d M (f a) k) ∙ also-after (over d M (f a))
    ]
  where
    also-after : (r : Meaning A) → also n (after r (λ v. over d M (k v))) ≡ after (also n r) (λ v. over d M (k v))
    also-after (Done v names) = refl
    also-after (Need q) = refl
over-bind d M (Unbounded f) k = over-bind d M (f d) k

-- Over a whole source every meaning is done.

pub over-whole : {A : Type 0} (d : ℕ) (w : Name → Answer) (m : Asking A) → over d (whole w) m ≡ Done (value_of d w m) (names_of d w m)
over-whole d w (Return v) = refl
over-whole d w (Ask n k) = ap (λ r. also n r) (over-whole d w (k (w n)))
over-whole d w (Unbounded f) = over-whole d w (f d)

-- Where every name is answered, the second meaning of a sequence comes behind the names of the first.
pub over-whole-bind : {A B : Type 0} (d : ℕ) (w : Name → Answer) (m : Asking A) (k : A → Asking B) → over d (whole w) (bind m k) ≡ in_front (names_of d w m) (over d (whole w) (k (value_of d w m)))
over-whole-bind d w m k = over-bind d (whole w) m k ∙ ap (λ r. after r (λ v. over d (whole w) (k v))) (over-whole d w m)

-- What is held of a meaning in worlds that are one is what the meaning comes to over that world.
pub held-means : {A : Type 0} (worlds : Worlds) (world : Name → Answer) (m : Asking A) (v : A) (s : NameSet) → AreOne worlds world → IsHeld worlds m v s → Means (whole world) m (Gives v s)
held-means worlds world m v s one held = record {
  least = longest;
  is = λ d far. ap (λ r. outcome_of r) (over-whole d world m)
      ∙ ap (λ (w : Name → Answer). Gives (value_of d w m) (name_set (names_of d w m))) (sym (one d far))
      ∙ (λ i. Gives (held.value_is d far i) (held.names_are d far i));
}
