-- Files that are read, one after the other, and the first that is refused.
use Rattle.std.proofs.Common.{◌≡◌, ◌∙◌, ◌+◌, ◌<◌, ◌≤◌, ℕ, List, [], ◌∷◌, ◌++◌, length, take, drop, get_or, map, Option, None, Some, All, ◌⊎◌, inl, inr, refl, sym, ap, subst, arith}
use Rattle.std.proofs.lemmas.List.{map-append}
use Rattle.std.proofs.lemmas.List.Elements.{All-cons, All-head, All-nil, All-push, All-tail}
use Rattle.std.proofs.lemmas.List.Sums.{sum_by-append}
use Rattle.pj_outside.specs.Files.{Files, Bytes, bytes_at}
use Rattle.pj_sources.proofs.Items.{split_next}
use Rattle.pj_sources.specs.Limits.{most_file_bytes, most_all_bytes}
use Rattle.pj_sources.specs.Reading.{AreRead, AreWithin, IsMissing, IsRefused, IsRefusedBehind, IsTooLong, SaysNoFile, SaysNotRead, bytes_together, missing, too_long, too_much}
use Rattle.pj_sources.specs.declared.limits.SourceLimit.{SourceLimit}
use Rattle.pj_sources.specs.declared.refused.ReadRefused.{ReadRefused}
use Rattle.pj_sources.specs.declared.refused.ReadRefused.TheVariants.{Failed, Missing, Limit, Memory}

-- ---- one file

pub missing_says : (files : Files) (before : ℕ) (path : Bytes) (refused : ReadRefused) → bytes_at files path ≡ None → IsMissing path refused → SaysNoFile files before path refused
missing_says files before path Failed none is = absurd is
missing_says files before path (Missing other) none is = subst (λ (p : Bytes). IsRefusedBehind files before path (Missing p)) (sym is) (missing none)
missing_says files before path (Limit kind) none is = absurd is
missing_says files before path Memory none is = tt

pub too_long_says : (files : Files) (before : ℕ) (path : Bytes) (refused : ReadRefused) → (bytes : Bytes) × (bytes_at files path ≡ Some bytes) × (most_file_bytes < length bytes) → IsTooLong path refused → SaysNoFile files before path refused
too_long_says files before path Failed found is = absurd is
too_long_says files before path (Missing other) found is = absurd is
too_long_says files before path (Limit kind) found is = subst (λ (k : SourceLimit). IsRefusedBehind files before path (Limit k)) (sym is) (too_long found.0 found.1 found.2)
too_long_says files before path Memory found is = tt

-- ---- one file after the other

one_more : (read : Files) (file : Bytes × Bytes) → bytes_together (read ++ file ∷ []) ≡ bytes_together read + length file.1
one_more read file = let more = sum_by-append (λ (f : Bytes × Bytes). length f.1) read (file ∷ []) in omega arith

pub push_within : (paths : List Bytes) (path : Bytes) (read : Files) (bytes : Bytes) → AreWithin paths read → length bytes ≤ most_file_bytes → bytes_together read + length bytes ≤ most_all_bytes → AreWithin (paths ++ path ∷ []) (read ++ (path, bytes) ∷ [])
push_within paths path read bytes w short together = record {
  paths_are = map-append (λ (f : Bytes × Bytes). f.0) read ((path, bytes) ∷ []) ∙ ap (λ ps. ps ++ path ∷ []) w.paths_are;
  short = All-push (λ (f : Bytes × Bytes). length f.1 ≤ most_file_bytes) read (path, bytes) w.short short;
  together = (let more = one_more read (path, bytes) in omega arith);
}

module _ (paths : List Bytes) (i : ℕ) (path : Bytes) (read : Files) (inside : i < length paths) (here : path ≡ get_or paths i path) where
  pub refused_path : (files : Files) (refused : ReadRefused) → AreRead files (take i paths) read → SaysNoFile files (bytes_together read) path refused → SaysNotRead files paths refused
  refused_path files Failed are says = tt
  refused_path files (Missing other) are says = record { front = take i paths; path = path; behind = drop (i + 1) paths; paths_are = split_next paths i path inside here; read = read; are_read = are; is_refused = says }
  refused_path files (Limit kind) are says = record { front = take i paths; path = path; behind = drop (i + 1) paths; paths_are = split_next paths i path inside here; read = read; are_read = are; is_refused = says }
  refused_path files Memory are says = tt

-- ---- one reading

-- The file has the bytes that are held under its path, and not too many.
abbrev IsFile : Files → Bytes × Bytes → Type 0
IsFile files file = (bytes_at files file.0 ≡ Some file.1) × (length file.1 ≤ most_file_bytes)

are_files : (files read : Files) → All (λ file. bytes_at files file.0 ≡ Some file.1) read → All (λ file. length file.1 ≤ most_file_bytes) read → All (IsFile files) read
are_files files read held short = λ k d h. (held k d h, short k d h)

same_some : (a b : Bytes) (o : Option Bytes) → o ≡ Some a → o ≡ Some b → a ≡ b
same_some a b o x y = let both : Some a ≡ Some b = sym x ∙ y in cc

same_reads : (files a b : Files) → All (λ file. bytes_at files file.0 ≡ Some file.1) a → All (λ file. bytes_at files file.0 ≡ Some file.1) b → map (λ file. file.0) a ≡ map (λ file. file.0) b → a ≡ b
same_reads files [] [] h k e = refl
same_reads files [] (g ∷ b) h k e = absurd (cc)
same_reads files (f ∷ a) [] h k e = absurd (cc)
same_reads files (f ∷ a) (g ∷ b) h k e =
    let path : f.0 ≡ g.0 = cc in
    let paths : map (λ (file : Bytes × Bytes). file.0) a ≡ map (λ (file : Bytes × Bytes). file.0) b = cc in
    let bytes : f.1 ≡ g.1 = same_some f.1 g.1 (bytes_at files g.0) (ap (bytes_at files) (sym path) ∙ All-head (λ (file : Bytes × Bytes). bytes_at files file.0 ≡ Some file.1) f a h) (All-head (λ (file : Bytes × Bytes). bytes_at files file.0 ≡ Some file.1) g b k) in
    let rest = same_reads files a b (All-tail (λ (file : Bytes × Bytes). bytes_at files file.0 ≡ Some file.1) f a h) (All-tail (λ (file : Bytes × Bytes). bytes_at files file.0 ≡ Some file.1) g b k) paths in
    (λ i. (path i, bytes i) ∷ rest i)

pub one_reading : (files : Files) (paths : List Bytes) (a b : Files) → AreRead files paths a → AreRead files paths b → a ≡ b
one_reading files paths a b x y = same_reads files a b x.bytes_are y.bytes_are (x.within.paths_are ∙ sym y.within.paths_are)

-- ---- one refusal

one_behind : (files : Files) (before : ℕ) (path : Bytes) (a b : ReadRefused) → IsRefusedBehind files before path a → IsRefusedBehind files before path b → a ≡ b
one_behind files before path _ _ (missing n) (missing m) = refl
one_behind files before path _ _ (missing n) (too_long bytes f h) = let both : Some bytes ≡ None = sym f ∙ n in absurd (cc)
one_behind files before path _ _ (missing n) (too_much bytes f h t) = let both : Some bytes ≡ None = sym f ∙ n in absurd (cc)
one_behind files before path _ _ (too_long bytes f h) (missing n) = let both : Some bytes ≡ None = sym f ∙ n in absurd (cc)
one_behind files before path _ _ (too_long bytes f h) (too_long again g i) = refl
one_behind files before path _ _ (too_long bytes f h) (too_much again g i t) = let len = ap length (same_some bytes again _ f g) in absurd (omega arith)
one_behind files before path _ _ (too_much bytes f h t) (missing n) = let both : Some bytes ≡ None = sym f ∙ n in absurd (cc)
one_behind files before path _ _ (too_much bytes f h t) (too_long again g i) = let len = ap length (same_some bytes again _ f g) in absurd (omega arith)
one_behind files before path _ _ (too_much bytes f h t) (too_much again g i u) = refl

-- files of paths, parted at one of them
record Parted (P : Bytes × Bytes → Type 0) (front : List Bytes) (path : Bytes) (read : Files) : Type 0 where
  first : Files
  bytes : Bytes
  last : Files
  is : read ≡ first ++ (path, bytes) ∷ last
  paths_are : map (λ file. file.0) first ≡ front
  all : All P first
  here : P (path, bytes)

parted : (P : Bytes × Bytes → Type 0) (front : List Bytes) (path : Bytes) (rest : List Bytes) (read : Files) → map (λ file. file.0) read ≡ front ++ path ∷ rest → All P read → Parted P front path read
parted P [] path rest [] e all = absurd (cc)
parted P (x ∷ front) path rest [] e all = absurd (cc)
parted P [] path rest (f ∷ read) e all =
    let same : f.0 ≡ path = cc in
    record {
      first = [];
      bytes = f.1;
      last = read;
      is = (λ i. (same i, f.1) ∷ read);
      paths_are = refl;
      all = All-nil P;
      here = subst (λ (p : Bytes). P (p, f.1)) same (All-head P f read all);
    }
parted P (x ∷ front) path rest (f ∷ read) e all =
    let same : f.0 ≡ x = cc in
    let more : map (λ (file : Bytes × Bytes). file.0) read ≡ front ++ path ∷ rest = cc in
    let later = parted P front path rest read more (All-tail P f read all) in
    record {
      first = f ∷ later.first;
      bytes = later.bytes;
      last = later.last;
      is = ap (λ fs. f ∷ fs) later.is;
      paths_are = (λ i. same i ∷ later.paths_are i);
      all = All-cons P f later.first (All-head P f read all) later.all;
      here = later.here;
    }

not_behind : (files : Files) (before : ℕ) (path bytes : Bytes) (refused : ReadRefused) → IsFile files (path, bytes) → before + length bytes ≤ most_all_bytes → IsRefusedBehind files before path refused → ⊥
not_behind files before path bytes _ file fits (missing n) = let both : Some bytes ≡ None = sym file.0 ∙ n in absurd (cc)
not_behind files before path bytes _ file fits (too_long again g h) = let len = ap length (same_some bytes again _ file.0 g) in (let short = file.1 in omega arith)
not_behind files before path bytes _ file fits (too_much again g h t) = let len = ap length (same_some bytes again _ file.0 g) in omega arith

-- Files that are read are refused at none of their paths.
not_both : (files : Files) (front : List Bytes) (path : Bytes) (rest : List Bytes) (read first : Files) (refused : ReadRefused) → AreRead files (front ++ path ∷ rest) read → AreRead files front first → IsRefusedBehind files (bytes_together first) path refused → ⊥
not_both files front path rest read first refused are before behind =
    let p = parted (IsFile files) front path rest read are.within.paths_are (are_files files read are.bytes_are are.within.short) in
    let same = same_reads files p.first first (λ k d h. (p.all k d h).0) before.bytes_are (p.paths_are ∙ sym before.within.paths_are) in
    let size : Bytes × Bytes → ℕ = λ f. length f.1 in
    let whole = ap bytes_together p.is ∙ sum_by-append size p.first ((path, p.bytes) ∷ p.last) in
    let tail = sum_by-append size ((path, p.bytes) ∷ []) p.last in
    let most = are.within.together in
    not_behind files (bytes_together p.first) path p.bytes refused p.here (omega arith) (subst (λ (f : Files). IsRefusedBehind files (bytes_together f) path refused) (sym same) behind)

pub read_is_not_refused : (files : Files) (paths : List Bytes) (read : Files) (refused : ReadRefused) → AreRead files paths read → IsRefused files paths refused → ⊥
read_is_not_refused files paths read refused are is =
    not_both files is.front is.path is.behind read is.read refused (subst (λ (ps : List Bytes). AreRead files ps read) is.paths_are are) is.are_read is.is_refused

abbrev Compared : List Bytes → Bytes → List Bytes → Bytes → Type 0
Compared a p b q = ((a ≡ b) × (p ≡ q)) ⊎ (((rest : List Bytes) × (b ≡ a ++ p ∷ rest)) ⊎ ((rest : List Bytes) × (a ≡ b ++ q ∷ rest)))

compared_more : (x y : Bytes) (a b : List Bytes) (p q : Bytes) → x ≡ y → Compared a p b q → Compared (x ∷ a) p (y ∷ b) q
compared_more x y a b p q e c = elim c [
  | inl same ↦ inl ((λ i. e i ∷ same.0 i), same.1)
  | inr other ↦ elim other [
    | inl shorter ↦ inr (inl (shorter.0, (λ i. sym e i ∷ shorter.1 i)))
    | inr longer ↦ inr (inr (longer.0, (λ i. e i ∷ longer.1 i)))
  ]
]

compared : (a : List Bytes) (p : Bytes) (c b : List Bytes) (q : Bytes) (d : List Bytes) → a ++ p ∷ c ≡ b ++ q ∷ d → Compared a p b q
compared [] p c [] q d e = inl (refl, cc)
compared [] p c (y ∷ b) q d e = let same : y ≡ p = cc in inr (inl (b, (λ i. same i ∷ b)))
compared (x ∷ a) p c [] q d e = let same : x ≡ q = cc in inr (inr (a, (λ i. same i ∷ a)))
compared (x ∷ a) p c (y ∷ b) q d e = let same : x ≡ y = cc in (let more : a ++ p ∷ c ≡ b ++ q ∷ d = cc in compared_more x y a b p q same (compared a p c b q d more))

pub one_refusal : (files : Files) (paths : List Bytes) (a b : ReadRefused) → IsRefused files paths a → IsRefused files paths b → a ≡ b
one_refusal files paths a b x y =
    elim (compared x.front x.path x.behind y.front y.path y.behind (sym x.paths_are ∙ y.paths_are)) [
      | inl same ↦
          let reads = one_reading files x.front x.read y.read x.are_read (subst (λ (ps : List Bytes). AreRead files ps y.read) (sym same.0) y.are_read) in
          one_behind files (bytes_together x.read) x.path a b x.is_refused
          (subst (λ (f : Files). IsRefusedBehind files (bytes_together f) x.path b) (sym reads) (subst (λ (p : Bytes). IsRefusedBehind files (bytes_together y.read) p b) (sym same.1) y.is_refused))
      | inr other ↦ elim other [
        | inl shorter ↦ absurd (not_both files x.front x.path shorter.0 y.read x.read a (subst (λ (ps : List Bytes). AreRead files ps y.read) shorter.1 y.are_read) x.are_read x.is_refused)
        | inr longer ↦ absurd (not_both files y.front y.path longer.0 x.read y.read b (subst (λ (ps : List Bytes). AreRead files ps x.read) longer.1 x.are_read) y.are_read y.is_refused)
      ]
    ]
