-- What is left of all files, by what is left of each.
use Rattle.std.proofs.Common.{◌≡◌, ◌∙◌, ℕ, suc, ◌<◌, Bool, true, false, not, cond, List, [], ◌∷◌, ◌++◌, length, map, filter, Some, IsTrue, refl, ap, arith, get_or, subst, sym}
use Rattle.std.specs.Prelude.{if◌then◌else◌, is_some, slice_get}
use Rattle.std.specs.List.{AllByRecursion, AllZip}
use Rattle.std.proofs.lemmas.List.{append-nil, append_assoc}
use Rattle.pj_cache.specs.declared.cache.Cache.{Cache}
use Rattle.pj_cache.specs.declared.cache.Entry.{Entry}
use Rattle.pj_cache_laws.specs.Written.{WrittenRule}
use Rattle.pj_cached_files.specs.Gathered.{put_if}
use Rattle.pj_cached_files.specs.LeftFile.{IsLeftFile}
use Rattle.pj_cached_files.specs.LeftFiles.{paths_of, picked}
use Rattle.pj_cached_files.specs.Ran.{ran_at, ran_at_all}
use Rattle.pj_cached_files.specs.declared.entry.LeftFile.{LeftFile}
use Rattle.pj_crew.specs.Together.{IsMadeByAll}
use Rattle.pj_fitting.specs.Left.{File, IsLeftEntry}
use Rattle.pj_fitting.specs.Right.{Files}
use Rattle.pj_left_cache.specs.Bytes.{AreByBytesAt}
use Rattle.pj_names.specs.ClassName.{NameSet}
use Rattle.pj_names.specs.Told.{Worlds}
use Rattle.pj_outside.specs.Files.{Bytes}
use Rattle.pj_rule_sets.specs.Rules.{EffectiveRules}
use Rattle.pj_table.specs.ClassWorld.{worlds_of}
use Rattle.pj_table.specs.Worlds as table
use Rattle.pj_table.specs.declared.part.Part.{Part}
use Rattle.pj_workers.specs.Cold.{World}
use Rattle.pj_workers.specs.Evaluated.{with_path}
use Rattle.pj_shared_files.specs.Gathering.{entries_of, entry_of, flags_of, ran_of}
use Rattle.pj_shared_files.specs.InWorlds.{LeavesIn}

-- ---- in a run

-- the entry of a file has the path of the file
same_entry : (file : File) (left : LeftFile) → left.entry.path ≡ file.0 → left.entry ≡ entry_of file left
same_entry file left is = λ i. record left.entry { path = is i }

module _ (files : Files WrittenRule) (world : World) (found : Cache) (held : List WrittenRule) where
  pub entries_left : (list : List File) (made : List LeftFile) → AllZip (IsLeftFile files world found held) list made → AllZip (IsLeftEntry files world found held) list (entries_of list made)
  entries_left [] [] all = tt
  entries_left [] (left ∷ made) all = absurd all
  entries_left (file ∷ list) [] all = absurd all
  entries_left (file ∷ list) (left ∷ made) all =
      (subst (λ (e : Entry). IsLeftEntry files world found held file e) (same_entry file left all.0.entry.path) all.0.entry, entries_left list made all.1)

  pub bytes_left : (list : List File) (made : List LeftFile) → AllZip (IsLeftFile files world found held) list made → AllByRecursion (λ (e : Entry). AreByBytesAt e.head e.results) (entries_of list made)
  bytes_left [] [] all = tt
  bytes_left [] (left ∷ made) all = absurd all
  bytes_left (file ∷ list) [] all = absurd all
  bytes_left (file ∷ list) (left ∷ made) all = (all.0.by_bytes, bytes_left list made all.1)

  -- the rules that were evaluated are those that had to be
  pub ran_is : (list : List File) (made : List LeftFile) → AllZip (λ file (left : LeftFile). left.ran ≡ ran_at files found world held file) list made → ran_of list made ≡ ran_at_all files found world held list
  ran_is [] [] all = refl
  ran_is [] (left ∷ made) all = absurd all
  ran_is (file ∷ list) [] all = absurd all
  ran_is (file ∷ list) (left ∷ made) all = λ i. with_path file.0 (all.0 i) ++ ran_is list made all.1 i

-- paths at whose places `true` stands are those that pass a test
pub picked_is : (q : File → Bool) (list : List File) (flags : List Bool) → AllZip (λ file flag. flag ≡ q file) list flags → picked flags (map (λ (f : File). f.0) list) ≡ paths_of (filter q list)
picked_is q [] [] all = refl
picked_is q [] (flag ∷ flags) all = absurd all
picked_is q (file ∷ list) [] all = absurd all
picked_is q (file ∷ list) (flag ∷ flags) all =
    let those = picked flags (map (λ (f : File). f.0) list) in let rest = picked_is q list flags all.1 in
    ap (λ (b : Bool). if b then file.0 ∷ those else those) all.0
    ∙ elim (q file) as (λ b. (if b then file.0 ∷ those else those) ≡ paths_of (cond b (file ∷ filter q list) (filter q list))) [
      | true ↦ ap (λ (l : List Bytes). file.0 ∷ l) rest
      | false ↦ rest
    ]

pub flags_are : (q : File → Bool) (list : List File) (made : List LeftFile) → AllZip (λ file (left : LeftFile). left.is_reused ≡ q file) list made → AllZip (λ file flag. flag ≡ q file) list (flags_of made)
flags_are q [] [] all = tt
flags_are q [] (left ∷ made) all = absurd all
flags_are q (file ∷ list) [] all = absurd all
flags_are q (file ∷ list) (left ∷ made) all = (all.0, flags_are q list made all.1)

pub flags_are_not : (q : File → Bool) (list : List File) (flags : List Bool) → AllZip (λ file flag. flag ≡ q file) list flags → AllZip (λ file flag. flag ≡ not (q file)) list (map not flags)
flags_are_not q [] [] all = tt
flags_are_not q [] (flag ∷ flags) all = absurd all
flags_are_not q (file ∷ list) [] all = absurd all
flags_are_not q (file ∷ list) (flag ∷ flags) all = (ap not all.0, flags_are_not q list flags all.1)

-- ---- what workers came to

-- what comes of the file of a number
abbrev pub comes_of : EffectiveRules → Cache → List File → ℕ → Worlds → NameSet → LeftFile → Type 0
comes_of rules found list n worlds names left = (one : File) → slice_get list n ≡ Some one → LeavesIn rules found one worlds names left

pub zip_up : (R : File → LeftFile → Type 0) (list : List File) (made : List LeftFile) → length made ≡ length list → ((n : ℕ) (d : LeftFile) (one : File) → n < length list → slice_get list n ≡ Some one → R one (get_or made n d)) → AllZip R list made
zip_up R [] [] long each = tt
zip_up R [] (left ∷ made) long each = absurd (omega (arith, long))
zip_up R (file ∷ list) [] long each = absurd (omega (arith, long))
zip_up R (file ∷ list) (left ∷ made) long each = (each 0 left file (omega arith) refl, zip_up R list made (omega (arith, long)) (λ n d one below is. each (suc n) d one (omega (arith, below)) is))

-- What came of each file, in the world of the doors.
abbrev pub CameIn : table.World → EffectiveRules → Cache → File → LeftFile → Type 0
CameIn world rules found file left = (names : NameSet) × LeavesIn rules found file (worlds_of world) names left

pub came_of_each : {D : Type 0} (finds : D → ℕ) (before after : List D) (world : table.World) (rules : EffectiveRules) (found : Cache) (list : List File) (count : ℕ) (made : List LeftFile) (parts : List Part) → IsTrue (is_some world) → count ≡ length list
    → IsMadeByAll world (comes_of rules found list) finds count before after made parts → AllZip (CameIn world rules found) list made
came_of_each finds before after world rules found list count made parts told many together =
    zip_up (CameIn world rules found) list made (together.many ∙ many) (λ n d one below is. let over = together.each n d (omega (arith, below, many)) in (_, over.made_so.comes_so told one is))

pub weaken : {A B : Type 0} (P Q : A → B → Type 0) (xs : List A) (ys : List B) → ((x : A) (y : B) → P x y → Q x y) → AllZip P xs ys → AllZip Q xs ys
weaken P Q [] [] f all = tt
weaken P Q [] (y ∷ ys) f all = absurd all
weaken P Q (x ∷ xs) [] f all = absurd all
weaken P Q (x ∷ xs) (y ∷ ys) f all = (f x y all.0, weaken P Q xs ys f all.1)

-- ---- one more file

-- no entries of nothing
pub none_left : (list : List File) → entries_of list [] ≡ []
none_left [] = refl
none_left (file ∷ list) = refl

pub entries_last : (list : List File) (made : List LeftFile) (left : LeftFile) (file : File) → length made < length list → get_or list (length made) file ≡ file → entries_of list (made ++ left ∷ []) ≡ entries_of list made ++ entry_of file left ∷ []
entries_last [] made left file below is = absurd (omega (arith, below))
entries_last (f ∷ list) [] left file below is = λ i. entry_of (is i) left ∷ none_left list i
entries_last (f ∷ list) (m ∷ made) left file below is = ap (λ (es : List Entry). entry_of f m ∷ es) (entries_last list made left file (omega (arith, below)) is)

-- no rules of nothing
pub none_ran : (list : List File) → ran_of list [] ≡ []
none_ran [] = refl
none_ran (file ∷ list) = refl

pub ran_last : (list : List File) (made : List LeftFile) (left : LeftFile) (file : File) → length made < length list → get_or list (length made) file ≡ file → ran_of list (made ++ left ∷ []) ≡ ran_of list made ++ with_path file.0 left.ran
ran_last [] made left file below is = absurd (omega (arith, below))
ran_last (f ∷ list) [] left file below is = (λ i. with_path (is i).0 left.ran ++ none_ran list i) ∙ append-nil (with_path file.0 left.ran)
ran_last (f ∷ list) (m ∷ made) left file below is =
    ap (λ (l : List (Bytes × ℕ)). with_path f.0 m.ran ++ l) (ran_last list made left file (omega (arith, below)) is) ∙ sym (append_assoc (with_path f.0 m.ran) (ran_of list made) (with_path file.0 left.ran))

next_put : (flag b : Bool) (y x : List ℕ) (more those : List (List ℕ)) → more ≡ put_if b those x → (if flag then y ∷ more else more) ≡ put_if b (if flag then y ∷ those else those) x
next_put true true y x more those is = ap (λ (l : List (List ℕ)). y ∷ l) is
next_put true false y x more those is = ap (λ (l : List (List ℕ)). y ∷ l) is
next_put false b y x more those is = is

one_put : (b : Bool) (y x : List ℕ) (ys : List (List ℕ)) → y ≡ x → (if b then y ∷ picked [] ys else picked [] ys) ≡ put_if b [] x
one_put true y x ys is = ap (λ (z : List ℕ). z ∷ []) is
one_put false y x ys is = refl

-- the path of one more file is put behind the others, if it is marked
pub picked_last : (flags : List Bool) (list : List File) (b : Bool) (file : File) → length flags < length list → get_or list (length flags) file ≡ file → picked (flags ++ b ∷ []) (map (λ (f : File). f.0) list) ≡ put_if b (picked flags (map (λ (f : File). f.0) list)) file.0
picked_last flags [] b file below is = absurd (omega (arith, below))
picked_last [] (f ∷ list) b file below is = one_put b f.0 file.0 (map (λ (f : File). f.0) list) (ap (λ (g : File). g.0) is)
picked_last (flag ∷ flags) (f ∷ list) b file below is =
    next_put flag b f.0 file.0 (picked (flags ++ b ∷ []) (map (λ (f : File). f.0) list)) (picked flags (map (λ (f : File). f.0) list)) (picked_last flags list b file (omega (arith, below)) is)

-- the paths of entries are those of the files
pub paths_left : (list : List File) (made : List LeftFile) → length made ≡ length list → map (λ (e : Entry). e.path) (entries_of list made) ≡ map (λ (f : File). f.0) list
paths_left [] made long = refl
paths_left (file ∷ list) [] long = absurd (omega (arith, long))
paths_left (file ∷ list) (left ∷ made) long = ap (λ (l : List Bytes). file.0 ∷ l) (paths_left list made (omega (arith, long)))
