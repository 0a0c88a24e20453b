-- Sets of names by lists of them.
use Rattle.std.specs.Prelude.{◌≡◌, refl, Bool, true, false, ◌||◌, List, [], ◌∷◌, ◌++◌, IsTrue}
use Rattle.std.proofs.Common.{ap, sym, subst, ◌∙◌}
use Rattle.std.proofs.lemmas.List.Folds.{list_any-append}
use Rattle.std.specs.List.{list_any}
use Rattle.std.specs.Ordering.{eq_by_cmp, nat_cmp}
use Rattle.std.specs.Cmp.{Equal-is, tied_itself}
use Rattle.std.specs.Cmp.Lexicographic.{nat_list_cmp_total, slice_cmp}
use Rattle.std.specs.FinSet as set
use Rattle.std.specs.FinSet.{contains-empty, contains-from_list, contains-insert, same_set, nat_cmp-IsAntisymmetric, slice_cmp-IsAntisymmetric}
use Rattle.pj_names.specs.ClassName.{Name, NameSet, name_set}
use Rattle.pj_names.specs.Told.{World, all_needs, with_names}

pub same_names : (s t : NameSet) → ((q : Name) → set.contains s q ≡ set.contains t q) → s ≡ t
same_names s t is = same_set nat_list_cmp_total (slice_cmp-IsAntisymmetric nat_cmp-IsAntisymmetric) s t is

-- whether a name is among the names
abbrev pub is_in : List Name → Name → Bool
is_in names q = list_any (eq_by_cmp (slice_cmp nat_cmp) q) names

or_swap : (a b c : Bool) → ((a || b) || c) ≡ (b || (a || c))
or_swap true true c = refl
or_swap true false c = refl
or_swap false b c = refl

or_false : (a : Bool) → (a || false) ≡ a
or_false true = refl
or_false false = refl

pub or_left : (a b : Bool) → IsTrue a → IsTrue (a || b)
or_left true b h = refl
or_left false b h = absurd (cc)

pub or_right : (a b : Bool) → IsTrue b → IsTrue (a || b)
or_right true b h = refl
or_right false b h = h

from_or : (a b : Bool) {P : Type 0} → (IsTrue a → P) → (IsTrue b → P) → IsTrue (a || b) → P
from_or true b f g h = f refl
from_or false b f g h = g h

by_both : (a b : Bool) → (IsTrue a → IsTrue b) → (IsTrue b → IsTrue a) → a ≡ b
by_both true true f g = refl
by_both true false f g = sym (f refl)
by_both false true f g = g refl
by_both false false f g = refl

pub same_name : (q n : Name) → IsTrue (eq_by_cmp (slice_cmp nat_cmp) q n) → q ≡ n
same_name q n tied = slice_cmp-IsAntisymmetric nat_cmp-IsAntisymmetric q n ((Equal-is (slice_cmp nat_cmp q n)).0 tied)

pub itself : (n : Name) → IsTrue (eq_by_cmp (slice_cmp nat_cmp) n n)
itself n = (Equal-is (slice_cmp nat_cmp n n)).1 (tied_itself nat_list_cmp_total n)

-- Who is in a set with some more names.

pub contains-with_names : (s : NameSet) (names : List Name) (q : Name) → set.contains (with_names s names) q ≡ (set.contains s q || is_in names q)
contains-with_names s [] q = sym (or_false _)
contains-with_names s (n ∷ ns) q =
    contains-with_names (set.insert s n) ns q
    ∙ ap (λ b. b || is_in ns q) (contains-insert nat_list_cmp_total s n q)
    ∙ or_swap (eq_by_cmp (slice_cmp nat_cmp) q n) (set.contains s q) (is_in ns q)

-- names put to the empty set are the set of them
pub with_names-empty : (names : List Name) → with_names set.empty names ≡ name_set names
with_names-empty names = same_names (with_names set.empty names) (name_set names) (λ q.
    contains-with_names set.empty names q ∙ ap (λ b. b || is_in names q) (contains-empty (slice_cmp nat_cmp) q) ∙ sym (contains-from_list nat_list_cmp_total names q))

-- two lists of the same names
abbrev pub Alike : List Name → List Name → Type 0
Alike xs ys = (q : Name) → is_in xs q ≡ is_in ys q

pub alike : (xs ys : List Name) → name_set xs ≡ name_set ys → Alike xs ys
alike xs ys is q =
    sym (contains-from_list nat_list_cmp_total xs q) ∙ ap (λ s. set.contains {R = slice_cmp nat_cmp} s q) is ∙ contains-from_list nat_list_cmp_total ys q

pub is_in-append : (xs ys : List Name) (q : Name) → is_in (xs ++ ys) q ≡ (is_in xs q || is_in ys q)
is_in-append xs ys q = list_any-append (eq_by_cmp (slice_cmp nat_cmp) q) xs ys

-- the sets of two lists give the set of both
pub name_set-append : (us vs xs ys : List Name) → name_set us ≡ name_set xs → name_set vs ≡ name_set ys
    → name_set (us ++ vs) ≡ name_set (xs ++ ys)
name_set-append us vs xs ys first second = same_names (name_set (us ++ vs)) (name_set (xs ++ ys)) (λ q.
    contains-from_list nat_list_cmp_total (us ++ vs) q ∙ is_in-append us vs q
    ∙ (λ i. alike us xs first q i || alike vs ys second q i)
    ∙ sym (contains-from_list nat_list_cmp_total (xs ++ ys) q ∙ is_in-append xs ys q))

-- What holds of one of some names, holds of one of the same names in another list.

pick : (P : Name → Bool) (n : Name) (ys : List Name) → IsTrue (P n) → IsTrue (is_in ys n) → IsTrue (list_any P ys)
pick P n [] holds here = here
pick P n (y ∷ ys) holds here =
    from_or (eq_by_cmp (slice_cmp nat_cmp) n y) (is_in ys n)
    (λ tied. or_left (P y) (list_any P ys) (subst (λ x. IsTrue (P x)) (same_name n y tied) holds))
    (λ later. or_right (P y) (list_any P ys) (pick P n ys holds later)) here

any-within : (P : Name → Bool) (xs ys : List Name) → ((q : Name) → IsTrue (is_in xs q) → IsTrue (is_in ys q)) → IsTrue (list_any P xs) → IsTrue (list_any P ys)
any-within P [] ys within any = absurd (cc)
any-within P (x ∷ xs) ys within any =
    from_or (P x) (list_any P xs)
    (λ here. pick P x ys here (within x (or_left (eq_by_cmp (slice_cmp nat_cmp) x x) (is_in xs x) (itself x))))
    (λ later. any-within P xs ys (λ q in_xs. within q (or_right (eq_by_cmp (slice_cmp nat_cmp) q x) (is_in xs q) in_xs)) later) any

any-alike : (P : Name → Bool) (xs ys : List Name) → Alike xs ys → list_any P xs ≡ list_any P ys
any-alike P xs ys same =
    by_both (list_any P xs) (list_any P ys) (any-within P xs ys (λ q h. subst (λ b. IsTrue b) (same q) h)) (any-within P ys xs (λ q h. subst (λ b. IsTrue b) (sym (same q)) h))

in-needs : (w : World) (names : List Name) (q : Name) → is_in (all_needs w names) q ≡ list_any (λ n. is_in (w.needs n) q) names
in-needs w [] q = refl
in-needs w (n ∷ ns) q = is_in-append (w.needs n) (all_needs w ns) q ∙ ap (λ b. is_in (w.needs n) q || b) (in-needs w ns q)

-- the needs of the same names
pub needs-alike : (w : World) (s : NameSet) (xs ys : List Name) → name_set xs ≡ name_set ys → with_names s (all_needs w ys) ≡ with_names s (all_needs w xs)
needs-alike w s xs ys is = same_names _ _ (λ q.
    contains-with_names s (all_needs w ys) q
    ∙ ap (λ b. set.contains s q || b) (in-needs w ys q ∙ sym (any-alike (λ n. is_in (w.needs n) q) xs ys (alike xs ys is)) ∙ sym (in-needs w xs q))
    ∙ sym (contains-with_names s (all_needs w xs) q))

-- the same names, put to a set
pub names-alike : (s : NameSet) (xs ys : List Name) → name_set xs ≡ name_set ys → with_names s ys ≡ with_names s xs
names-alike s xs ys is = same_names _ _ (λ q.
    contains-with_names s ys q ∙ ap (λ b. set.contains s q || b) (sym (alike xs ys is q)) ∙ sym (contains-with_names s xs q))
