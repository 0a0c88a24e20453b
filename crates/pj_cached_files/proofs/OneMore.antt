-- Lists and sets of names, with what comes of one more file.
use Rattle.std.proofs.Common.{◌≡◌, ◌∙◌, ◌++◌, ℕ, Bool, true, false, ◌||◌, List, [], ◌∷◌, ap, arith, filter, length, map, refl, sym}
use Rattle.std.specs.Cmp.Lexicographic.{nat_list_cmp_total}
use Rattle.std.specs.FinSet as names_in
use Rattle.std.specs.FinSet.{contains-empty, contains-union}
use Rattle.std.specs.List.{AllByRecursion}
use Rattle.std.specs.Prelude.{if◌then◌else◌}
use Rattle.pj_cache.specs.declared.cache.Cache.{Cache}
use Rattle.pj_cached_files.specs.Gathered.{put_if}
use Rattle.pj_cached_files.specs.LeftFiles.{picked}
use Rattle.pj_fitting.specs.Left.{File}
use Rattle.pj_fitting.specs.Looked.{Looked, LookedFile}
use Rattle.pj_fitting.specs.Right.{Files, Together}
use Rattle.pj_names.proofs.NameLists.{same_names}
use Rattle.pj_names.specs.ClassName.{Name, NameSet}
use Rattle.pj_names.specs.declared.answer.Answer.{Answer}

-- ---- lists

pub all_last : {A : Type 0} (P : A → Type 0) (xs : List A) (x : A) → AllByRecursion P xs → P x → AllByRecursion P (xs ++ x ∷ [])
all_last P [] x all here = (here, tt)
all_last P (y ∷ xs) x all here = (all.0, all_last P xs x all.1 here)

module _ {A : Type 0} (f : A → List ℕ) (p : A → Bool) (x : A) where
  put_front : (b : Bool) (path : List ℕ) (paths : List (List ℕ)) (last : List ℕ) → path ∷ put_if b paths last ≡ put_if b (path ∷ paths) last
  put_front true path paths last = refl
  put_front false path paths last = refl

  alone : (b : Bool) → map f (if b then x ∷ [] else []) ≡ put_if b [] (f x)
  alone true = refl
  alone false = refl

  behind : (b : Bool) (y : A) (those more : List A) → map f more ≡ put_if (p x) (map f those) (f x) → map f (if b then y ∷ more else more) ≡ put_if (p x) (map f (if b then y ∷ those else those)) (f x)
  behind true y those more is = ap (λ (l : List (List ℕ)). f y ∷ l) is ∙ put_front (p x) (f y) (map f those) (f x)
  behind false y those more is = is

  -- what passes a test, seen through a function, with one more member
  pub passing_last : (xs : List A) → map f (filter p (xs ++ x ∷ [])) ≡ put_if (p x) (map f (filter p xs)) (f x)
  passing_last [] = alone (p x)
  passing_last (y ∷ xs) = behind (p y) y (filter p xs) (filter p (xs ++ x ∷ [])) (passing_last xs)

-- ---- paths in two lists

next_picked : (flag b : Bool) (y x : List ℕ) (more those : List (List ℕ)) → more ≡ put_if b those x → (if flag then y ∷ more else more) ≡ put_if b (if flag then y ∷ those else those) x
next_picked true true y x more those is = ap (λ (l : List (List ℕ)). y ∷ l) is
next_picked true false y x more those is = ap (λ (l : List (List ℕ)). y ∷ l) is
next_picked false b y x more those is = is

one_picked : (b : Bool) (x : List ℕ) → picked (b ∷ []) (x ∷ []) ≡ put_if b [] x
one_picked true x = refl
one_picked false x = refl

-- those at whose places `true` stands, with one more
pub picked_last : (flags : List Bool) (xs : List (List ℕ)) (b : Bool) (x : List ℕ) → length flags ≡ length xs → picked (flags ++ b ∷ []) (xs ++ x ∷ []) ≡ put_if b (picked flags xs) x
picked_last [] [] b x same = one_picked b x
picked_last [] (y ∷ ys) b x same = absurd (omega (arith, same))
picked_last (flag ∷ flags) [] b x same = absurd (omega (arith, same))
picked_last (flag ∷ flags) (y ∷ ys) b x same = next_picked flag b y x (picked (flags ++ b ∷ []) (ys ++ x ∷ [])) (picked flags ys) (picked_last flags ys b x (omega (arith, same)))

-- paths that are put alike
pub put_alike : (a b : Bool) (xs ys : List (List ℕ)) (x y : List ℕ) → a ≡ b → xs ≡ ys → x ≡ y → put_if a xs x ≡ put_if b ys y
put_alike a b xs ys x y e f h = λ i. put_if (e i) (f i) (h i)

-- ---- names that are looked up

or_apart : (a b c : Bool) → (a || (b || c)) ≡ ((a || b) || c)
or_apart true b c = refl
or_apart false b c = refl

or_none : (a : Bool) → (a || false) ≡ a
or_none true = refl
or_none false = refl

-- sets that are united, in either grouping
pub union_apart : (r s t : NameSet) → names_in.union (names_in.union r s) t ≡ names_in.union r (names_in.union s t)
union_apart r s t = same_names (names_in.union (names_in.union r s) t) (names_in.union r (names_in.union s t)) (λ q.
    contains-union nat_list_cmp_total (names_in.union r s) t q
    ∙ ap (λ (b : Bool). b || names_in.contains t q) (contains-union nat_list_cmp_total r s q)
    ∙ sym (or_apart (names_in.contains r q) (names_in.contains s q) (names_in.contains t q))
    ∙ ap (λ (b : Bool). names_in.contains r q || b) (sym (contains-union nat_list_cmp_total s t q))
    ∙ sym (contains-union nat_list_cmp_total r (names_in.union s t) q))

pub union_none : (s : NameSet) → names_in.union s names_in.empty ≡ s
union_none s = same_names (names_in.union s names_in.empty) s (λ q.
    contains-union nat_list_cmp_total s names_in.empty q ∙ ap (λ (b : Bool). names_in.contains s q || b) (contains-empty _ q) ∙ or_none (names_in.contains s q))

none_union : (s : NameSet) → names_in.union names_in.empty s ≡ s
none_union s = same_names (names_in.union names_in.empty s) s (λ q.
    contains-union nat_list_cmp_total names_in.empty s q ∙ ap (λ (b : Bool). b || names_in.contains s q) (contains-empty _ q))

module _ {R : Type 0} (files : Files R) (found : Cache) (world : Name → Answer) (held : List R) where
  pub looked_last : (list : List File) (file : File) (names own : NameSet) → Looked files found world held list names → LookedFile files found world held file own
      → Looked files found world held (list ++ file ∷ []) (names_in.union names own)
  looked_last [] file names own looked last = record {
    own = own;
    others = names_in.empty;
    first = last;
    rest = refl;
    all = ap (λ (s : NameSet). names_in.union s own) looked ∙ none_union own ∙ sym (union_none own);
  }
  looked_last (first ∷ list) file names own looked last = record {
    own = looked.own;
    others = names_in.union looked.others own;
    first = looked.first;
    rest = looked_last list file looked.others own looked.rest last;
    all = ap (λ (s : NameSet). names_in.union s own) looked.all ∙ union_apart looked.own looked.others own;
  }
