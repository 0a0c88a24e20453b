-- Sets of names, and what holds of each of some names.
use Rattle.std.proofs.Common.{◌≡◌, Bool, true, false, ◌||◌, List, [], ◌∷◌, ◌++◌, refl, sym, ap, subst, ◌∙◌}
use Rattle.std.specs.Prelude.{IsTrue}
use Rattle.std.specs.List.{AllByRecursion, list_any}
use Rattle.std.specs.declared.cmp.Ordering.{Ordering}
use Rattle.std.specs.declared.cmp.Ordering.TheVariants.{Less, Equal, Greater}
use Rattle.std.specs.Ordering.{eq_by_cmp, is_eq, nat_cmp}
use Rattle.std.specs.Cmp.Lexicographic.{nat_list_cmp_total, slice_cmp}
use Rattle.std.specs.FinSet as set
use Rattle.std.specs.FinSet.{contains-empty, contains-from_list, contains-union, nat_cmp-IsAntisymmetric, same_set, slice_cmp-IsAntisymmetric}
use Rattle.pj_names.specs.ClassName.{Name, NameSet, name_set}

abbrev order : Name → Name → Ordering
order = slice_cmp nat_cmp

tied : (o : Ordering) → is_eq o ≡ true → o ≡ Equal
tied Less e = absurd cc
tied Equal e = refl
tied Greater e = absurd cc

-- byte strings that tie are the same
pub same_name : (a b : Name) → is_eq (order a b) ≡ true → a ≡ b
same_name a b e = slice_cmp-IsAntisymmetric nat_cmp-IsAntisymmetric a b (tied (order a b) e)

module _ (P : Name → Type 0) where
  among_by : (q n : Name) (ns : List Name) (b : Bool) → eq_by_cmp order q n ≡ b → AllByRecursion P (n ∷ ns) → (b || list_any (eq_by_cmp order q) ns) ≡ true → (list_any (eq_by_cmp order q) ns ≡ true → P q) → P q
  among_by q n ns true at all e rest = subst P (sym (same_name q n at)) all.0
  among_by q n ns false at all e rest = rest e

  among : (q : Name) (ns : List Name) → AllByRecursion P ns → list_any (eq_by_cmp order q) ns ≡ true → P q
  among q [] all e = absurd cc
  among q (n ∷ ns) all e = among_by q n ns (eq_by_cmp order q n) refl all e (λ rest. among q ns all.1 rest)

  -- what holds of each name holds of those in their set
  pub of_each : (names : List Name) (q : Name) → AllByRecursion P names → IsTrue (set.contains (name_set names) q) → P q
  of_each names q all here = among q names all (sym (contains-from_list nat_list_cmp_total names q) ∙ here)

-- ---- sets together

pub or_true : (a : Bool) → (a || true) ≡ true
or_true true = refl
or_true false = refl

or_false : (a : Bool) → (a || false) ≡ a
or_false true = refl
or_false false = refl

or_apart : (a b c : Bool) → (a || (b || c)) ≡ ((a || b) || c)
or_apart true b c = refl
or_apart false b c = refl

pub in_first : (own others names : NameSet) → names ≡ set.union own others → (q : Name) → IsTrue (set.contains own q) → IsTrue (set.contains names q)
in_first own others names all q here =
    ap (λ (s : NameSet). set.contains s q) all ∙ contains-union nat_list_cmp_total own others q ∙ ap (λ (b : Bool). b || set.contains others q) here

pub in_rest : (own others names : NameSet) → names ≡ set.union own others → (q : Name) → IsTrue (set.contains others q) → IsTrue (set.contains names q)
in_rest own others names all q here =
    ap (λ (s : NameSet). set.contains s q) all ∙ contains-union nat_list_cmp_total own others q ∙ ap (λ (b : Bool). set.contains own q || b) here ∙ or_true (set.contains own q)

pub alone_is : (names : NameSet) → names ≡ set.union names set.empty
alone_is names =
    same_set nat_list_cmp_total (slice_cmp-IsAntisymmetric nat_cmp-IsAntisymmetric) names (set.union names set.empty)
    (λ q. sym (contains-union nat_list_cmp_total names set.empty q ∙ ap (λ (b : Bool). set.contains names q || b) (contains-empty order q) ∙ or_false (set.contains names q)))

has_both : (ns ms : List Name) (q : Name) → list_any (eq_by_cmp order q) (ns ++ ms) ≡ (list_any (eq_by_cmp order q) ns || list_any (eq_by_cmp order q) ms)
has_both [] ms q = refl
has_both (n ∷ ns) ms q = ap (λ (b : Bool). eq_by_cmp order q n || b) (has_both ns ms q) ∙ or_apart (eq_by_cmp order q n) (list_any (eq_by_cmp order q) ns) (list_any (eq_by_cmp order q) ms)

-- names one after the other
pub set_of_both : (ns ms : List Name) → name_set (ns ++ ms) ≡ set.union (name_set ns) (name_set ms)
set_of_both ns ms =
    same_set nat_list_cmp_total (slice_cmp-IsAntisymmetric nat_cmp-IsAntisymmetric) (name_set (ns ++ ms)) (set.union (name_set ns) (name_set ms))
    (λ q. contains-from_list nat_list_cmp_total (ns ++ ms) q
    ∙ has_both ns ms q
    ∙ (λ i. sym (contains-from_list nat_list_cmp_total ns q) i || sym (contains-from_list nat_list_cmp_total ms q) i)
    ∙ sym (contains-union nat_list_cmp_total (name_set ns) (name_set ms) q))
