-- In a cache in order with a world's answers, each name of a result has the world's answer.
use Rattle.std.proofs.Common.{◌≡◌, Bool, true, false, cond, ◌||◌, List, [], ◌∷◌, ◌++◌, map, Some, refl, sym, ap, subst, ◌∙◌}
use Rattle.std.specs.Prelude.{nat_eq}
use Rattle.std.specs.List.{AllByRecursion, flat_map}
use Rattle.std.specs.Cmp.{tied_itself}
use Rattle.std.specs.Cmp.Lexicographic.{bytes_decides, nat_list_cmp_total, pointwise}
use Rattle.std.specs.Ordering.{is_eq}
use Rattle.std.specs.BTreeSet.{insert_key}
use Rattle.std.specs.BTreeMap.{is_at}
use Rattle.std.proofs.lemmas.List.Concat.{flat_map-cons}
use Rattle.pj_names.specs.declared.answer.Answer.{Answer}
use Rattle.pj_names.specs.ClassName.{Name}
use Rattle.pj_names.specs.Meaning.{found_in}
use Rattle.pj_cache.specs.Places.{byte_order}
use Rattle.pj_cache.specs.declared.cache.CachedResult.{CachedResult}
use Rattle.pj_cache.specs.declared.cache.Entry.{Entry}
use Rattle.pj_cache_format.specs.FormatTwo.{names_of, results_of, with_more}
use Rattle.pj_reuse.specs.Serving.{has_key}
use Rattle.pj_reuse.proofs.Standing.{has_put}
use Rattle.pj_fitting.proofs.Sets.{or_true, same_name}

-- ---- members of lists put together

or_apart : (a b c : Bool) → (a || (b || c)) ≡ ((a || b) || c)
or_apart true b c = refl
or_apart false b c = refl

or_swapped : (a b c : Bool) → ((a || b) || c) ≡ (b || (a || c))
or_swapped true true c = refl
or_swapped true false c = refl
or_swapped false b c = refl

pub has_both : (xs ys : List Name) (q : Name) → has_key (xs ++ ys) q ≡ (has_key xs q || has_key ys q)
has_both [] ys q = refl
has_both (x ∷ xs) ys q = ap (λ (b : Bool). is_at (byte_order q) x || b) (has_both xs ys q) ∙ or_apart (is_at (byte_order q) x) (has_key xs q) (has_key ys q)

-- names in their order, each once, are the same names
has_held : (held xs : List Name) (q : Name) → has_key held q ≡ true → has_key (with_more held xs) q ≡ true
has_held held [] q here = here
has_held held (x ∷ xs) q here =
    has_held (insert_key byte_order held x) xs q (has_put held x q ∙ ap (λ (b : Bool). is_at (byte_order q) x || b) here ∙ or_true (is_at (byte_order q) x))

more_by : (held : List Name) (x : Name) (xs : List Name) (q : Name) (b : Bool) → is_at (byte_order q) x ≡ b → (b || has_key xs q) ≡ true → (has_key xs q ≡ true → has_key (with_more (insert_key byte_order held x) xs) q ≡ true) → has_key (with_more (insert_key byte_order held x) xs) q ≡ true
more_by held x xs q true at here rest = has_held (insert_key byte_order held x) xs q (has_put held x q ∙ ap (λ (b : Bool). b || has_key held q) at)
more_by held x xs q false at here rest = rest here

pub has_more : (held xs : List Name) (q : Name) → has_key xs q ≡ true → has_key (with_more held xs) q ≡ true
has_more held [] q here = absurd cc
has_more held (x ∷ xs) q here = more_by held x xs q (is_at (byte_order q) x) refl here (λ rest. has_more (insert_key byte_order held x) xs q rest)

-- ---- what holds of each member of lists put together

module _ {B : Type 0} (P : B → Type 0) where
  pub all_apart : (xs ys : List B) → AllByRecursion P (xs ++ ys) → AllByRecursion P xs × AllByRecursion P ys
  all_apart [] ys all = (tt, all)
  all_apart (x ∷ xs) ys all = let rest = all_apart xs ys all.1 in ((all.0, rest.0), rest.1)

  pub all_each : {A : Type 0} (f : A → List B) (xs : List A) → AllByRecursion P (flat_map f xs) → AllByRecursion (λ (x : A). AllByRecursion P (f x)) xs
  all_each f [] all = tt
  all_each f (x ∷ xs) all =
      let both = all_apart (f x) (flat_map f xs) (subst (λ (l : List B). AllByRecursion P l) (flat_map-cons f x xs) all) in
      (both.0, all_each f xs both.1)

pub itself : (x : Name) → is_at (byte_order x) x ≡ true
itself x = ap is_eq (tied_itself nat_list_cmp_total x)

-- each member of a list is among those put behind others
pub members : (front xs : List Name) → AllByRecursion (λ (x : Name). has_key (front ++ xs) x ≡ true) xs
members front [] = tt
members front (x ∷ xs) = (
  has_both front (x ∷ xs) x ∙ ap (λ (b : Bool). has_key front x || (b || has_key xs x)) (itself x) ∙ or_true (has_key front x),
  subst (λ (l : List Name). AllByRecursion (λ (y : Name). has_key l y ≡ true) xs) (moved front x xs) (members (front ++ x ∷ []) xs),
)
  where
    moved : (ys : List Name) (y : Name) (zs : List Name) → (ys ++ y ∷ []) ++ zs ≡ ys ++ y ∷ zs
    moved [] y zs = refl
    moved (w ∷ ws) y zs = ap (λ (l : List Name). w ∷ l) (moved ws y zs)

-- ---- answers

found_by : (a : Name × Answer) (rest : List (Name × Answer)) (world : Name → Answer) (q : Name) (b : Bool) → pointwise nat_eq a.0 q ≡ b → a.1 ≡ world a.0 → (is_at (byte_order q) a.0 || has_key (map (λ x. x.0) rest) q) ≡ true
    → (has_key (map (λ x. x.0) rest) q ≡ true → found_in rest q ≡ Some (world q)) → cond b (Some a.1) (found_in rest q) ≡ Some (world q)
found_by a rest world q true same is here others = ap (λ (x : Answer). Some x) (is ∙ ap world ((bytes_decides a.0 q).0 same))
found_by a rest world q false same is here others = others (behind (is_at (byte_order q) a.0) refl here)
  where
    behind : (t : Bool) → is_at (byte_order q) a.0 ≡ t → (t || has_key (map (λ x. x.0) rest) q) ≡ true → has_key (map (λ x. x.0) rest) q ≡ true
    behind true at e = let never : false ≡ true = sym same ∙ (bytes_decides a.0 q).1 (sym (same_name q a.0 at)) in absurd cc
    behind false at e = e

-- the answers of a world have its answer for each of their names
found_of : (answers : List (Name × Answer)) (world : Name → Answer) (q : Name) → AllByRecursion (λ (a : Name × Answer). a.1 ≡ world a.0) answers → has_key (map (λ a. a.0) answers) q ≡ true → found_in answers q ≡ Some (world q)
found_of [] world q all here = absurd cc
found_of (a ∷ rest) world q all here = found_by a rest world q (pointwise nat_eq a.0 q) refl all.0 here (λ more. found_of rest world q all.1 more)

module _ (answers : List (Name × Answer)) (world : Name → Answer) (all : AllByRecursion (λ (a : Name × Answer). a.1 ≡ world a.0) answers) where
  abbrev IsWorlds : Name → Type 0
  IsWorlds name = found_in answers name ≡ Some (world name)

  each_found : (raw names : List Name) → with_more [] raw ≡ map (λ a. a.0) answers → AllByRecursion (λ (n : Name). has_key raw n ≡ true) names → AllByRecursion IsWorlds names
  each_found raw [] is here = tt
  each_found raw (n ∷ ns) is here = (
    found_of answers world n all (sym (ap (λ (l : List Name). has_key l n) is) ∙ has_more [] raw n here.0),
    each_found raw ns is here.1,
  )

  -- each name of each result of each entry
  pub worlds_names : (entries : List Entry) → names_of entries ≡ map (λ a. a.0) answers → AllByRecursion (λ (e : Entry). AllByRecursion (λ (r : CachedResult). AllByRecursion IsWorlds r.names) e.results) entries
  worlds_names entries is =
      let raw : List Name = flat_map (λ (r : CachedResult). r.names) (results_of entries) in
      all_each (λ (r : CachedResult). AllByRecursion IsWorlds r.names) (λ (e : Entry). e.results) entries
      (all_each IsWorlds (λ (r : CachedResult). r.names) (results_of entries) (each_found raw raw is (members [] raw)))
