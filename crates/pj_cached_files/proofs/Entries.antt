-- The entry that a cache has of a file, and what a run leaves of it.
use Rattle.std.proofs.Common.{◌≡◌, ◌∙◌, ℕ, Bool, true, false, cond, List, [], ◌∷◌, ◌++◌, Option, Some, None, ap, map, refl, subst, sym}
use Rattle.std.specs.Prelude.{nat_eq}
use Rattle.std.specs.Cmp.Lexicographic.{bytes_decides, pointwise}
use Rattle.std.specs.List.{AllByRecursion, AllZip}
use Rattle.std.specs.List.Sorted.{IsPermutation}
use Rattle.std.proofs.lemmas.List.Elements.{recursion_from_All}
use Rattle.pj_cache.specs.Found.{first_named}
use Rattle.pj_cache.specs.declared.cache.Cache.{Cache}
use Rattle.pj_cache.specs.declared.cache.CachedResult.{CachedResult}
use Rattle.pj_cache.specs.declared.cache.Entry.{Entry}
use Rattle.pj_cache_format.specs.Ordered.{IsInOrder}
use Rattle.pj_fitting.specs.Left.{AreLeft, AreLeftBy, File, IsLeftEntry, IsNew, active_keys, entry_at, kept, of_bytes, results_of}
use Rattle.pj_fitting.specs.Looked.{has_no_tree}
use Rattle.pj_fitting.specs.Right.{Files, IsRightCache, IsRightEntry, Key, RulesAt, rules_at}
use Rattle.pj_left_cache.proofs.FromOrder.{each_entry}
use Rattle.pj_left_cache.proofs.LeftLaws.{left_from}
use Rattle.pj_left_cache.specs.Bytes.{AreByBytesAt}
use Rattle.pj_left_cache.specs.Missing.{missing_rules}
use Rattle.pj_names.specs.ClassName.{Name}
use Rattle.pj_names.specs.declared.answer.Answer.{Answer}
use Rattle.pj_reports.specs.declared.ruled.Head.{Head}
use Rattle.pj_reports.specs.declared.ruled.Head.TheVariants as heads

-- ---- the entry of a file

module _ (P : Entry → Type 0) (file : File) where
  -- it holds of the entry, which has the bytes of the file
  abbrev pub IfThere : Option Entry → Type 0
  IfThere None = Unit {0}
  IfThere (Some e) = P e × (e.bytes ≡ file.1)

  there_by : (e : Entry) (t : Bool) → pointwise nat_eq e.bytes file.1 ≡ t → P e → IfThere (cond t (Some e) None)
  there_by e true is holds = (holds, (bytes_decides e.bytes file.1).0 is)
  there_by e false is holds = tt

  path_by : (e : Entry) (es : List Entry) (t : Bool) → P e → IfThere (of_bytes (first_named (λ (x : Entry). x.path) es file.0) file.1) → IfThere (of_bytes (cond t (Some e) (first_named (λ (x : Entry). x.path) es file.0)) file.1)
  path_by e es true holds rest = there_by e (pointwise nat_eq e.bytes file.1) refl holds
  path_by e es false holds rest = rest

  there : (es : List Entry) → AllByRecursion P es → IfThere (of_bytes (first_named (λ (x : Entry). x.path) es file.0) file.1)
  there [] all = tt
  there (e ∷ es) all = path_by e es (pointwise nat_eq e.path file.0) all.0 (there es all.1)

  pub entry_has : (found : Cache) → AllByRecursion P found.entries → (e : Entry) → entry_at found file ≡ Some e → P e × (e.bytes ≡ file.1)
  entry_has found all e is = subst (λ (o : Option Entry). IfThere o) is (there found.entries all)

-- ---- its head

abbrev with_head : Entry → Head → Entry
with_head e h = record { path = e.path; bytes = e.bytes; head = h; results = e.results }

no_tree_by : (e : Entry) (h : Head) → e.head ≡ h → has_no_tree (Some e) ≡ true → (message : List ℕ) × (e.head ≡ heads.Message message)
no_tree_by e (heads.Message message) is tree = (message, is)
no_tree_by e (heads.Package name) is tree = let never : false ≡ true = sym (ap (λ (h : Head). has_no_tree (Some (with_head e h))) is) ∙ tree in absurd cc

pub no_tree_at : (e : Entry) → has_no_tree (Some e) ≡ true → (message : List ℕ) × (e.head ≡ heads.Message message)
no_tree_at e tree = no_tree_by e e.head refl tree

has_tree_by : (e : Entry) (h : Head) → e.head ≡ h → has_no_tree (Some e) ≡ false → (name : List ℕ) × (e.head ≡ heads.Package name)
has_tree_by e (heads.Package name) is tree = (name, is)
has_tree_by e (heads.Message message) is tree = let never : true ≡ false = sym (ap (λ (h : Head). has_no_tree (Some (with_head e h))) is) ∙ tree in absurd cc

pub has_tree_at : (e : Entry) → has_no_tree (Some e) ≡ false → (name : List ℕ) × (e.head ≡ heads.Package name)
has_tree_at e tree = has_tree_by e e.head refl tree

-- ---- over a right cache in order

-- the results of an entry stand by bytes
pub old_by_bytes : (found : Cache) (file : File) → IsInOrder found → (e : Entry) → entry_at found file ≡ Some e → AreByBytesAt e.head e.results
old_by_bytes found file ordered e is = (entry_has (λ (e : Entry). AreByBytesAt e.head e.results) file found (each_entry found ordered) e is).0

module _ {R : Type 0} (files : Files R) (world : Name → Answer) (found : Cache) (held : List R) (file : File) (right : IsRightCache files found) where
  abbrev here : RulesAt R
  here = rules_at files file.0 file.1

  abbrev keys : List Key
  keys = active_keys here held

  abbrev old : List CachedResult
  old = results_of (entry_at found file)

  -- an entry has the head of the bytes
  pub old_head : (e : Entry) → entry_at found file ≡ Some e → e.head ≡ files.head file.1
  old_head e is =
      let has = entry_has (IsRightEntry files found.answers) file found (recursion_from_All (IsRightEntry files found.answers) found.entries right) e is in
      has.0.0 ∙ ap files.head has.1

  none_old_by : (message : List ℕ) → files.head file.1 ≡ heads.Message message → (o : Option Entry) → entry_at found file ≡ o → has_no_tree o ≡ false → results_of o ≡ []
  none_old_by message head None is tree = refl
  none_old_by message head (Some e) is tree =
      let there = has_tree_at e tree in
      let both : heads.Package there.0 ≡ heads.Message message = sym there.1 ∙ old_head e is ∙ head in absurd cc

  -- without a tree there are no old results but those of an entry that says so
  pub none_old : (message : List ℕ) → files.head file.1 ≡ heads.Message message → has_no_tree (entry_at found file) ≡ false → old ≡ []
  none_old message head tree = none_old_by message head (entry_at found file) refl tree

  -- what stays with what is made is what is left of a file with a tree
  pub are_left : (stay made results : List CachedResult) → stay ≡ kept found.answers world keys old
      → AllZip (λ (m : ℕ × Key) r. IsNew here world m.1 r) (missing_rules stay (map here.key held) (map here.is_active held)) made → IsPermutation (stay ++ made) results
      → AreLeft here world found.answers old keys results
  are_left stay made results is zip moved =
      left_from here world found.answers old held made results
      (subst (λ (s : List CachedResult). AllZip (λ (m : ℕ × Key) r. IsNew here world m.1 r) (missing_rules s (map here.key held) (map here.is_active held)) made) is zip)
      (subst (λ (s : List CachedResult). IsPermutation (s ++ made) results) is moved)

  -- an entry that says that there is no tree is left as it is, without results
  pub left_treeless : (e : Entry) → entry_at found file ≡ Some e → has_no_tree (Some e) ≡ true → AreLeftBy (files.head file.1) here world found.answers old keys []
  left_treeless e is tree =
      let none = no_tree_at e tree in
      subst (λ (h : Head). AreLeftBy h here world found.answers old keys []) (sym none.1 ∙ old_head e is) refl

  pub left_with_tree : (name : List ℕ) (results : List CachedResult) → files.head file.1 ≡ heads.Package name → AreLeft here world found.answers old keys results → AreLeftBy (files.head file.1) here world found.answers old keys results
  left_with_tree name results head left = subst (λ (h : Head). AreLeftBy h here world found.answers old keys results) (sym head) left

  -- one that is used again has those that stay
  pub left_again : (e : Entry) (stay results : List CachedResult) → entry_at found file ≡ Some e → has_no_tree (Some e) ≡ false → stay ≡ kept found.answers world keys old
      → missing_rules stay (map here.key held) (map here.is_active held) ≡ [] → IsPermutation (stay ++ []) results → AreLeftBy (files.head file.1) here world found.answers old keys results
  left_again e stay results is tree stays none moved =
      let there = has_tree_at e tree in
      left_with_tree there.0 results (sym (old_head e is) ∙ there.1)
      (are_left stay [] results stays (subst (λ (ms : List (ℕ × Key)). AllZip (λ (m : ℕ × Key) r. IsNew here world m.1 r) ms []) (sym none) tt) moved)
