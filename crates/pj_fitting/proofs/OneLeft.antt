-- There is at most one cache that a run leaves.
use Rattle.std.proofs.Common.{◌≡◌, ℕ, inl, inr, List, [], ◌∷◌, map, Option, Some, None, refl, sym, ap, subst, ◌∙◌}
use Rattle.std.specs.Prelude.{◌⊎◌, flat_map}
use Rattle.std.specs.List.{AllByRecursion, AllZip, Contains}
use Rattle.std.specs.List.Sorted.{IsStrictlySortedBy}
use Rattle.std.proofs.lemmas.List.Elements.{recursion_from_All}
use Rattle.pj_format.specs.Fields.{Chain}
use Rattle.pj_names.specs.declared.answer.Answer.{Answer}
use Rattle.pj_names.specs.ClassName.{Name, NameSet, name_set}
use Rattle.pj_names.specs.Asking.{Asking}
use Rattle.pj_names.specs.Meaning.{Gives, Means, whole}
use Rattle.pj_names.proofs.MeaningLaws.{means-one}
use Rattle.pj_reports.specs.declared.ruled.Head.{Head}
use Rattle.pj_reports.specs.declared.ruled.Head.TheVariants as heads
use Rattle.pj_reports.specs.declared.ruled.Ruled.{Ruled}
use Rattle.pj_cache.specs.Places.{byte_order}
use Rattle.pj_cache.specs.declared.cache.KeyRows.{KeyRows}
use Rattle.pj_cache.specs.declared.cache.CachedResult.{CachedResult}
use Rattle.pj_cache.specs.declared.cache.Entry.{Entry}
use Rattle.pj_cache.specs.declared.cache.Cache.{Cache}
use Rattle.pj_cache_format.specs.FormatTwo.{keys_of, names_of}
use Rattle.pj_cache_format.specs.Ordered.{AreResultsInOrder, IsEntryInOrder, IsInOrder}
use Rattle.pj_cache_format.proofs.Split.{answers_sorted}
use Rattle.pj_fitting.specs.Right.{Key, RulesAt, Files, rules_at}
use Rattle.pj_fitting.specs.Left.{File, active_keys, entry_at, results_of, kept, missing, IsNew, IsNewOfSome, HasNew, AreLeft, AreLeftBy, IsLeftEntry, IsLeftCache}
use Rattle.pj_fitting.proofs.Lists.{all_map, all_both}
use Rattle.pj_fitting.proofs.Sorted.{IsIn, IsAscending, all_sorted, contained, first_key, in_at, names_of_results, none_sorted, results_ascend, same_lists, same_names}

given : {A : Type 0} (v w : A) (s t : NameSet) → Gives v s ≡ Gives w t → (v ≡ w) × (s ≡ t)
given v w s t e = (cc, cc)

abbrev Ascends : CachedResult → Type 0
Ascends r = IsAscending (λ (n : Name). n) r.names

module _ {R : Type 0} (rules : RulesAt R) (world : Name → Answer) where
  -- new results of one key are the same
  same_new : (key : Key) (a b : CachedResult) → IsNew rules world key a → IsNew rules world key b → Ascends a → Ascends b → a ≡ b
  same_new key a b x y up down =
      let meaning : rules.meaning y.rule ≡ rules.meaning x.rule = rules.one_meaning y.rule x.rule (y.key_is ∙ sym x.key_is) in
      let other : Means (whole world) (rules.meaning x.rule) (Gives y.rows (name_set b.names)) = subst (λ (m : Asking Ruled). Means (whole world) m (Gives y.rows (name_set b.names))) meaning y.comes in
      let both = given x.rows y.rows (name_set a.names) (name_set b.names) (means-one (whole world) (rules.meaning x.rule) (Gives x.rows (name_set a.names)) (Gives y.rows (name_set b.names)) x.comes other) in
      let one : Ruled → List KeyRows = λ rows. record { key = key; rows = rows } ∷ [] in
      let groups : a.group ≡ b.group = x.group_is ∙ ap one both.0 ∙ sym y.group_is in
      let names : a.names ≡ b.names = same_names a.names b.names up down both.1 in
      λ i. record { group = groups i; names = names i }

  -- each result that is left is among any other results that are left there
  twin : (answers : List (Name × Answer)) (old : List CachedResult) (keys : List Key) (others : List CachedResult) → AreLeft rules world answers old keys others → AllByRecursion Ascends others
      → (r : CachedResult) → Contains (kept answers world keys old) r ⊎ IsNewOfSome rules world (missing (kept answers world keys old) keys) r → Ascends r → IsIn r others
  twin answers old keys others left ascend r (inl there) up =
      let stay : List CachedResult = kept answers world keys old in
      in_at (λ (s : CachedResult). IsIn s others) r stay (all_map (Contains others) (λ (s : CachedResult). IsIn s others) stay (λ s c. contained others s c) (recursion_from_All (Contains others) stay left.stay)) (contained stay r there)
  twin answers old keys others left ascend r (inr made) up =
      let wanted : List Key = missing (kept answers world keys old) keys in
      let has = in_at (HasNew rules world others) made.key wanted (recursion_from_All (HasNew rules world others) wanted left.made) (contained wanted made.key made.wanted) in
      let there : IsIn has.result others = contained others has.result has.there in
      let same : has.result ≡ r = same_new made.key has.result r has.new made.new (in_at Ascends has.result others ascend there) up in
      subst (λ (s : CachedResult). IsIn s others) same there

  twins : (answers : List (Name × Answer)) (old : List CachedResult) (keys : List Key) (rs others : List CachedResult) → AreLeft rules world answers old keys rs → AreLeft rules world answers old keys others
      → AllByRecursion Ascends rs → AllByRecursion Ascends others → AllByRecursion (λ (r : CachedResult). IsIn r others) rs
  twins answers old keys rs others left right up down =
      let Only : CachedResult → Type 0 = λ r. Contains (kept answers world keys old) r ⊎ IsNewOfSome rules world (missing (kept answers world keys old) keys) r in
      all_both Only Ascends (λ (r : CachedResult). IsIn r others) rs (twin answers old keys others right down) (recursion_from_All Only rs left.only) up

  abbrev InOrder : Head → List CachedResult → Type 0
  InOrder h rs = (all_keys : List Key) × (names : List Name) × IsStrictlySortedBy byte_order all_keys × IsStrictlySortedBy byte_order names × AreResultsInOrder all_keys names h rs

  -- what is left of a file is one list of results
  one_list : (h : Head) (answers : List (Name × Answer)) (old : List CachedResult) (keys : List Key) (rs others : List CachedResult) → AreLeftBy h rules world answers old keys rs → AreLeftBy h rules world answers old keys others → InOrder h rs → InOrder h others → rs ≡ others
  one_list (heads.Package name) answers old keys rs others left right a b =
      let up = names_of_results a.0 a.2 a.1 a.3 None [] rs a.4 in
      let down = names_of_results b.0 b.2 b.1 b.3 None [] others b.4 in
      same_lists first_key rs others (results_ascend a.0 a.2 a.1 None [] rs a.4) (results_ascend b.0 b.2 b.1 None [] others b.4)
      (twins answers old keys rs others left right up down) (twins answers old keys others rs right left down up)
  one_list (heads.Message message) answers old keys rs others left right a b = left ∙ sym right

-- ---- entries

module _ {R : Type 0} (files : Files R) (world : Name → Answer) (found : Cache) (held : List R) where
  abbrev EntryInOrder : Entry → Type 0
  EntryInOrder e = (all_keys : List Key) × (names : List Name) × IsStrictlySortedBy byte_order all_keys × IsStrictlySortedBy byte_order names × AreResultsInOrder all_keys names e.head e.results

  one_entry : (file : File) (a b : Entry) → IsLeftEntry files world found held file a → IsLeftEntry files world found held file b → EntryInOrder a → EntryInOrder b → a ≡ b
  one_entry file a b x y p q =
      let rules : RulesAt R = rules_at files file.0 file.1 in
      let results : a.results ≡ b.results = one_list rules world (files.head file.1) found.answers (results_of (entry_at found file)) (active_keys rules held) a.results b.results x.results y.results
      (p.0, p.1, p.2, p.3, subst (λ (h : Head). AreResultsInOrder p.0 p.1 h a.results) x.head p.4)
      (q.0, q.1, q.2, q.3, subst (λ (h : Head). AreResultsInOrder q.0 q.1 h b.results) y.head q.4) in
      let path : a.path ≡ b.path = x.path ∙ sym y.path in
      let bytes : a.bytes ≡ b.bytes = x.bytes ∙ sym y.bytes in
      let head : a.head ≡ b.head = x.head ∙ sym y.head in
      λ i. record { path = path i; bytes = bytes i; head = head i; results = results i }

  one_entries : (list : List File) (es gs : List Entry) → AllZip (IsLeftEntry files world found held) list es → AllZip (IsLeftEntry files world found held) list gs → AllByRecursion EntryInOrder es → AllByRecursion EntryInOrder gs → es ≡ gs
  one_entries [] [] [] x y p q = refl
  one_entries [] (a ∷ es) gs x y p q = absurd x
  one_entries [] [] (b ∷ gs) x y p q = absurd y
  one_entries (f ∷ fs) [] gs x y p q = absurd x
  one_entries (f ∷ fs) (a ∷ es) [] x y p q = absurd y
  one_entries (f ∷ fs) (a ∷ es) (b ∷ gs) x y p q =
      let first = one_entry f a b x.0 y.0 p.0 q.0 in
      let rest = one_entries fs es gs x.1 y.1 p.1 q.1 in
      λ i. first i ∷ rest i

  each_ordered : (all_keys : List Key) (names : List Name) (before : Option (List ℕ)) (es : List Entry) → IsStrictlySortedBy byte_order all_keys → IsStrictlySortedBy byte_order names
      → Chain (IsEntryInOrder all_keys names) (λ b (e : Entry). Some e.path) before es → AllByRecursion EntryInOrder es
  each_ordered all_keys names before [] s t h = tt
  each_ordered all_keys names before (e ∷ es) s t h = ((all_keys, names, s, t, h.0.1), each_ordered all_keys names (Some e.path) es s t h.1)

  ordered : (c : Cache) → IsInOrder c → AllByRecursion EntryInOrder c.entries
  ordered c o =
      let raw : List Key = flat_map (λ (r : CachedResult). map (λ (k : KeyRows). k.key) r.group) (flat_map (λ (e : Entry). e.results) c.entries) in
      each_ordered (keys_of c.entries) (map (λ a. a.0) c.answers) None c.entries (all_sorted [] raw none_sorted) (answers_sorted c o) o.entries

  -- ---- answers

  abbrev worlds : List Name → List (Name × Answer)
  worlds names = map (λ (n : Name). (n, world n)) names

  pair_of : (a : Name × Answer) → a.1 ≡ world a.0 → a ≡ (a.0, world a.0)
  pair_of a e = λ i. (a.0, e i)

  all_worlds : (answers : List (Name × Answer)) → AllByRecursion (λ (a : Name × Answer). a.1 ≡ world a.0) answers → answers ≡ worlds (map (λ a. a.0) answers)
  all_worlds [] all = refl
  all_worlds (a ∷ rest) all = λ i. pair_of a all.0 i ∷ all_worlds rest all.1 i

  answers_are : (list : List File) (c : Cache) → IsLeftCache files world found held list c → c.answers ≡ worlds (names_of c.entries)
  answers_are list c left =
      all_worlds c.answers (recursion_from_All (λ (a : Name × Answer). a.1 ≡ world a.0) c.answers left.answers) ∙ ap worlds (sym left.in_order.named)

  pub one_cache : (list : List File) (c d : Cache) → IsLeftCache files world found held list c → IsLeftCache files world found held list d → c ≡ d
  one_cache list c d x y =
      let entries : c.entries ≡ d.entries = one_entries list c.entries d.entries x.entries y.entries (ordered c x.in_order) (ordered d y.in_order) in
      let answers : c.answers ≡ d.answers = answers_are list c x ∙ ap (λ (es : List Entry). worlds (names_of es)) entries ∙ sym (answers_are list d y) in
      λ i. record { answers = answers i; entries = entries i }
