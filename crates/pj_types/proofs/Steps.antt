-- One step of a walk, as the code takes it.
use Rattle.std.proofs.Common.{◌≡◌, ℕ, ◌<◌, ◌≤◌, ◌+◌, ◌-◌, List, [], ◌∷◌, ◌++◌, Bool, true, false, length, get_or, take, reverse, ap, refl, sym, ◌∙◌, arith}
use Rattle.std.specs.Prelude.{map, suc, zero, Option, Some, None, MatchOption, if◌then◌else◌, nat_eq, ◌||◌}
use Rattle.std.specs.Ordering.{nat_cmp}
use Rattle.std.specs.Cmp.Lexicographic.{pointwise, slice_cmp, nat_list_cmp_total, nat_list_eq_equiv, texts_ties}
use Rattle.std.specs.FinSet.{contains-empty, contains-insert}
use Rattle.std.specs.FinSet as set
use Rattle.std.proofs.lemmas.List.{reverse-append, reverse-reverse, map-append}
use Rattle.pj_names.specs.ClassName.{Name, NameSet}
use Rattle.pj_names.specs.Asking.{Return, unvisited, has_name}
use Rattle.pj_types.specs.declared.listed.ListedClass.{ListedClass}
use Rattle.pj_names.specs.JavaType.{JavaType}
use Rattle.pj_types.specs.Supertypes.{Listed, Standing, after_last, direct, given_next, given_type, name_of, still_left}
use Rattle.pj_types.specs.Seen.{listed, all_listed}
use Rattle.pj_types.specs.Visited.{AreVisited}

-- What the class given last leads to.

pub after_last-none : (given : List ListedClass) → length given ≡ 0 → after_last (all_listed given) ≡ Return []
after_last-none [] h = refl
after_last-none (x ∷ xs) h = absurd (omega (arith, h))

pub after_last-class : (given : List ListedClass) (class : ListedClass) → 0 < length given → class ≡ get_or given (length given - 1) class → after_last (all_listed given) ≡ direct (listed class)
after_last-class [] class h is = absurd (omega (arith, h))
after_last-class (x ∷ []) class h is = ap (λ c. direct (listed c)) (sym is)
after_last-class (x ∷ (y ∷ ys)) class h is =
    let index : length (x ∷ (y ∷ ys)) - 1 ≡ suc (length (y ∷ ys) - 1) = omega arith in
    after_last-class (y ∷ ys) class (omega arith) (is ∙ ap (λ k. get_or (x ∷ (y ∷ ys)) k class) index)

pub ruleset last_class = (after_last-none, after_last-class)

-- The place of the next class, where the next one lies last.

take_last : (xs : List ListedClass) (n : ℕ) (class : ListedClass) → n < length xs → class ≡ get_or xs n class → take (suc n) xs ≡ take n xs ++ class ∷ []
take_last [] n class h is = absurd (omega (arith, h))
take_last (x ∷ xs) zero class h is = ap (λ c. c ∷ []) (sym is)
take_last (x ∷ xs) (suc n) class h is = ap (λ l. x ∷ l) (take_last xs n class (omega (arith, h)) is)

reverse_last : (xs : List ListedClass) (end : ℕ) (class : ListedClass) → 0 < end → end ≤ length xs → class ≡ get_or xs (end - 1) class → reverse (take end xs) ≡ class ∷ reverse (take (end - 1) xs)
reverse_last xs end class some below is =
    let more : end ≡ suc (end - 1) = omega arith in
    ap (λ n. reverse (take n xs)) more ∙ ap reverse (take_last xs (end - 1) class (omega arith) is) ∙ reverse-append (take (end - 1) xs) (class ∷ [])

abbrev pub left : (Name → Bool) → List ListedClass → List Listed
left is_visited to_visit = unvisited name_of is_visited (all_listed (reverse to_visit))

place_last : (is_visited : Name → Bool) (xs : List ListedClass) (end : ℕ) (class : ListedClass) → 0 < end → end ≤ length xs → class ≡ get_or xs (end - 1) class
    → left is_visited (take end xs) ≡ (if is_visited class.name then left is_visited (take (end - 1) xs) else all_listed (reverse (take end xs)))
place_last is_visited xs end class some below is =
    ap (λ l. unvisited name_of is_visited (all_listed l)) (reverse_last xs end class some below is)
    ∙ ap (λ l. if is_visited class.name then left is_visited (take (end - 1) xs) else all_listed l) (sym (reverse_last xs end class some below is))

-- a class that was visited is skipped
pub place-skip : (visited : NameSet) (xs : List ListedClass) (end : ℕ) (class : ListedClass) → 0 < end → end ≤ length xs → class ≡ get_or xs (end - 1) class → set.contains visited class.name ≡ true
    → left (set.contains visited) (take end xs) ≡ left (set.contains visited) (take (end - 1) xs)
place-skip visited xs end class some below is was = place_last (set.contains visited) xs end class some below is ∙ ap (λ b. if b then left (set.contains visited) (take (end - 1) xs) else all_listed (reverse (take end xs))) was

-- a class that was not visited is the next one
pub place-found : (visited : NameSet) (xs : List ListedClass) (end : ℕ) (class : ListedClass) → 0 < end → end ≤ length xs → class ≡ get_or xs (end - 1) class → set.contains visited class.name ≡ false
    → left (set.contains visited) (take end xs) ≡ all_listed (reverse (take (end - 1 + 1) xs))
place-found visited xs end class some below is was =
    let same : end ≡ end - 1 + 1 = omega arith in
    place_last (set.contains visited) xs end class some below is ∙ ap (λ b. if b then left (set.contains visited) (take (end - 1) xs) else all_listed (reverse (take end xs))) was
    ∙ ap (λ n. all_listed (reverse (take n xs))) same

pub ruleset places = (place-skip, place-found)

-- A class that was put at the end is taken from there.

cancel_last : (xs ys : List ListedClass) (x y : ListedClass) → xs ++ x ∷ [] ≡ ys ++ y ∷ [] → xs ≡ ys
cancel_last [] [] x y same = refl
cancel_last [] (b ∷ []) x y same = absurd (cc)
cancel_last [] (b ∷ (c ∷ ys)) x y same = absurd (cc)
cancel_last (a ∷ []) [] x y same = absurd (cc)
cancel_last (a ∷ (d ∷ xs)) [] x y same = absurd (cc)
cancel_last (a ∷ xs) (b ∷ ys) x y same = let rest : xs ++ x ∷ [] ≡ ys ++ y ∷ [] = cc in let shorter : xs ≡ ys = cancel_last xs ys x y rest in cc

pub popped : (before pushed after : List ListedClass) (class : ListedClass) (last : Option ListedClass) → pushed ≡ before ++ class ∷ [] → MatchOption last ((pushed ≡ []) × (after ≡ [])) (λ l. pushed ≡ after ++ l ∷ []) → after ≡ before
popped [] pushed after class None is none = none.1
popped (x ∷ xs) pushed after class None is none = let e = none.0 in absurd (cc)
popped before pushed after class (Some l) is some = sym (cancel_last before after class l (sym is ∙ some))

-- The list of classes to visit, with more of them.

pub pushed-left : (to_visit more : List ListedClass) → all_listed (reverse (to_visit ++ reverse more)) ≡ all_listed more ++ all_listed (reverse to_visit)
pushed-left to_visit more = ap all_listed (reverse-append to_visit (reverse more) ∙ ap (λ l. l ++ reverse to_visit) (reverse-reverse more)) ∙ map-append listed more (reverse to_visit)

-- where the set has just the names of the classes given
pub left-given : (visited : NameSet) (given : List ListedClass) (xs : List Listed) → AreVisited visited given → unvisited name_of (set.contains visited) xs ≡ still_left (all_listed given) xs
left-given visited given xs are = λ i. unvisited name_of (λ q. are.each q i) xs

-- One class more is given.

pub class-given : (visited : NameSet) (given new_given to_visit more pushed : List ListedClass) (place : ℕ) (class : ListedClass) (ty : JavaType)
    → AreVisited visited given → pushed ≡ to_visit ++ reverse more → place < length pushed → class ≡ get_or pushed place class
    → left (set.contains visited) pushed ≡ all_listed (reverse (take (place + 1) pushed))
    → ty ≡ given_type (listed class) → all_listed new_given ≡ all_listed given ++ listed class ∷ []
    → (let after : Option JavaType × Standing = (Some ty, record { given = all_listed new_given; to_visit = all_listed (reverse (take place pushed)) }) in after)
    ≡ given_next (record { given = all_listed given; to_visit = all_listed (reverse to_visit) }) (still_left (all_listed given) (all_listed more ++ all_listed (reverse to_visit)))
class-given visited given new_given to_visit more pushed place class ty are pushed_is below is next ty_is given_is =
    let one : reverse (take (place + 1) pushed) ≡ class ∷ reverse (take place pushed)
    = ap reverse (ap (λ n. take n pushed) add_one ∙ take_last pushed place class below is) ∙ reverse-append (take place pushed) (class ∷ []) in
    let left_is : still_left (all_listed given) (all_listed more ++ all_listed (reverse to_visit)) ≡ listed class ∷ all_listed (reverse (take place pushed))
    = ap (λ l. still_left (all_listed given) l) (sym (ap (λ p. all_listed (reverse p)) pushed_is ∙ pushed-left to_visit more))
    ∙ sym (left-given visited given (all_listed (reverse pushed)) are) ∙ next ∙ ap all_listed one in
    (λ i. (Some (ty_is i), record { given = given_is i; to_visit = all_listed (reverse (take place pushed)) }))
    ∙ ap (λ l. given_next (record { given = all_listed given; to_visit = all_listed (reverse to_visit) }) l) (sym left_is)
  where
    add_one : place + 1 ≡ suc place
    add_one = omega arith

-- The set of visited names, with one name more.

pub visited-none : (visited : NameSet) (given : List ListedClass) → visited ≡ set.empty → given ≡ [] → AreVisited visited given
visited-none visited given is empty = record { each = λ q. rw (is, empty) (contains-empty (slice_cmp nat_cmp) q) }

or_swap : (a b : Bool) → (a || b) ≡ (b || a)
or_swap true true = refl
or_swap true false = refl
or_swap false true = refl
or_swap false false = refl

or_assoc : (a b c : Bool) → (a || (b || c)) ≡ ((a || b) || c)
or_assoc true b c = refl
or_assoc false b c = refl

has_name-push : (names : List Name) (name q : Name) → has_name (names ++ name ∷ []) q ≡ (has_name names q || pointwise nat_eq name q)
has_name-push [] name q = or_swap (pointwise nat_eq name q) false
has_name-push (x ∷ xs) name q = ap (λ b. pointwise nat_eq x q || b) (has_name-push xs name q) ∙ or_assoc (pointwise nat_eq x q) (has_name xs q) (pointwise nat_eq name q)

pub visited-one : (visited more : NameSet) (given new_given : List ListedClass) (class : ListedClass) → more ≡ set.insert visited class.name
    → all_listed new_given ≡ all_listed given ++ listed class ∷ [] → AreVisited visited given → AreVisited more new_given
visited-one visited more given new_given class is grown before = record {
  each = λ q. rw is (contains-insert nat_list_cmp_total visited class.name q
      ∙ ap (λ b. b || set.contains visited q) (sym (texts_ties q class.name) ∙ nat_list_eq_equiv.symm q class.name)
      ∙ or_swap (pointwise nat_eq class.name q) (set.contains visited q)
      ∙ ap (λ b. b || pointwise nat_eq class.name q) (before.each q)
      ∙ sym (ap (λ l. has_name (map name_of l) q) grown ∙ ap (λ l. has_name l q) (map-append name_of (all_listed given) (listed class ∷ [])) ∙ has_name-push (map name_of (all_listed given)) class.name q));
}
