-- Entries that are carried over are right where the old ones were.
use Rattle.std.proofs.Common.{◌≡◌, ℕ, Bool, true, false, List, [], ◌∷◌, map, Option, Some, None, refl, sym, ap, subst, ◌∙◌}
use Rattle.std.specs.Prelude.{nat_eq, if◌then◌else◌}
use Rattle.std.specs.Cmp.Lexicographic.{bytes_decides, pointwise}
use Rattle.std.specs.List.{All, AllByRecursion}
use Rattle.std.proofs.lemmas.List.Elements.{All-nil, All-from_recursion, recursion_from_All}
use Rattle.pj_names.specs.declared.answer.Answer.{Answer}
use Rattle.pj_names.specs.ClassName.{Name, NameSet, name_set}
use Rattle.pj_names.specs.Meaning.{Source}
use Rattle.pj_reports.specs.declared.rows.FileRows.{FileRows}
use Rattle.pj_reports.specs.declared.ruled.Head.{Head}
use Rattle.pj_reports.specs.declared.ruled.Head.TheVariants as heads
use Rattle.pj_reports.specs.declared.ruled.Ruled.{Ruled}
use Rattle.pj_cache_format.specs.Ordered.{AreRowsInOrder}
use Rattle.pj_cache.specs.declared.cache.CachedResult.{CachedResult}
use Rattle.pj_cache.specs.declared.cache.Entry.{Entry}
use Rattle.pj_cache.specs.declared.cache.Cache.{Cache}
use Rattle.pj_cache.specs.declared.old.OldEntry.{OldEntry}
use Rattle.pj_cache.specs.declared.old.OldCache.{OldCache}
use Rattle.pj_cache_format.specs.FormatTwo.{names_of}
use Rattle.pj_carry.specs.Form.{lone_message, are_of_rules}
use Rattle.pj_carry.specs.Rows.{rows_of}
use Rattle.pj_carry.specs.Carried.{First, answers_for, cache_of, carried, carried_entries, carried_entry, entry_by, first_rules, key_rows, listed, results_of}
use Rattle.pj_fitting.specs.Right.{RulesAt, Files, ComeTo, IsRight, IsRightEntry, IsRightCache, answers_of, rules_at}
use Rattle.pj_fitting.proofs.Sets.{of_each}
use Rattle.pj_fitting.proofs.Among.{inside}
use Rattle.pj_fitting.proofs.Lists.{all_both, all_joined, all_map}
use Rattle.pj_fitting.proofs.Right.{come_alike}
use Rattle.pj_carry.specs.RightOld.{ComeToRows, IsMerge, IsRightOldEntry, IsRightOldCache, NodesAscend, RuleLists}
use Rattle.pj_carry.specs.RightOld as old
use Rattle.pj_carry.proofs.Answers.{IsKept, names_kept}
use Rattle.pj_carry.proofs.Rules.{all_come}

module _ {R : Type 0} (files : Files R) (merge : Head → List Ruled → FileRows) (is_merge : IsMerge merge) (ascend : NodesAscend files) (answers : List (Name × Answer)) (held : List R) where
  abbrev firsts : List First
  firsts = first_rules (map files.key held)

  -- what rules come to has its nodes in order
  rows_ascend : (path bytes : List ℕ) (source : Source) (rules : List R) (results : List Ruled) (names : NameSet) → ComeToRows (rules_at files path bytes) source rules results names → AllByRecursion AreRowsInOrder results
  rows_ascend path bytes source [] [] names come = tt
  rows_ascend path bytes source [] (rows ∷ results) names come = absurd come
  rows_ascend path bytes source (rule ∷ rules) [] names come = absurd come
  rows_ascend path bytes source (rule ∷ rules) (rows ∷ results) names come = (ascend path bytes rule source rows come.own come.first, rows_ascend path bytes source rules results come.others come.rest)

  module _ (e : OldEntry) (right : IsRightOldEntry files merge answers held e) where
    abbrev here : RulesAt R
    here = rules_at files e.path e.bytes

    rows_at : (h : Head) → files.head e.bytes ≡ h → e.rows ≡ merge h right.results
    rows_at h is = right.rows_are ∙ ap (λ (g : Head). merge g right.results) is

    group_right : (name : List ℕ) → files.head e.bytes ≡ heads.Package name → ComeTo here (old.answers_of answers e) (map (key_rows e.rows) firsts) (name_set e.names)
    group_right name is =
        all_come here (old.answers_of answers e) held right.results (name_set e.names) right.come e.rows
        (λ i rows at. ap (λ (r : FileRows). rows_of r i) (rows_at (heads.Package name) is) ∙ is_merge.kept name right.results i rows in_order at)
      where
        in_order : All AreRowsInOrder right.results
        in_order = All-from_recursion AreRowsInOrder right.results (rows_ascend e.path e.bytes (old.answers_of answers e) held right.results (name_set e.names) right.come)

    results_right : (fs : List First) → ComeTo here (old.answers_of answers e) (map (key_rows e.rows) fs) (name_set e.names) → AllByRecursion (IsRight here answers) (results_of fs e.rows e.names)
    results_right [] come = tt
    results_right (f ∷ fs) come = (come, tt)

    -- what becomes of an entry
    entry_right : AllByRecursion (IsRightEntry files answers) (listed (carried_entry firsts e))
    entry_right = by_head (files.head e.bytes) refl where
      by_rows : (name : List ℕ) → files.head e.bytes ≡ heads.Package name → (b : Bool) → AllByRecursion (IsRightEntry files answers) (listed (entry_by firsts e None b))
      by_rows name is true =
          let package_is : e.rows.«package» ≡ name = ap (λ (r : FileRows). r.«package») (rows_at (heads.Package name) is) ∙ is_merge.package_is name right.results in
          let head_is : heads.Package e.rows.«package» ≡ files.head e.bytes = ap (λ (p : List ℕ). heads.Package p) package_is ∙ sym is in
          ((head_is, All-from_recursion (IsRight here answers) (results_of firsts e.rows e.names) (results_right firsts (group_right name is))), tt)
      by_rows name is false = tt

      by_head : (h : Head) → files.head e.bytes ≡ h → AllByRecursion (IsRightEntry files answers) (listed (carried_entry firsts e))
      by_head (heads.Message message) is =
          let alone : lone_message e.rows ≡ Some message = ap lone_message (rows_at (heads.Message message) is) ∙ is_merge.alone message right.results in
          subst (λ (o : Option (List ℕ)). AllByRecursion (IsRightEntry files answers) (listed (entry_by firsts e o (are_of_rules e.rows)))) (sym alone) ((sym is, All-nil (IsRight here answers)), tt)
      by_head (heads.Package name) is =
          let others : lone_message e.rows ≡ None = ap lone_message (rows_at (heads.Package name) is) ∙ is_merge.others name right.results in
          subst (λ (o : Option (List ℕ)). AllByRecursion (IsRightEntry files answers) (listed (entry_by firsts e o (are_of_rules e.rows)))) (sym others) (by_rows name is (are_of_rules e.rows))

  entries_right : (entries : List OldEntry) → AllByRecursion (IsRightOldEntry files merge answers held) entries → AllByRecursion (IsRightEntry files answers) (carried_entries firsts entries)
  entries_right entries all =
      all_joined (IsRightEntry files answers) (λ (e : OldEntry). listed (carried_entry firsts e)) entries
      (all_map (IsRightOldEntry files merge answers held) (λ (e : OldEntry). AllByRecursion (IsRightEntry files answers) (listed (carried_entry firsts e))) entries entry_right all)

  -- with the answers that are carried over
  later_results : (names : List Name) (e : Entry) (rs : List CachedResult) → AllByRecursion (IsRight (rules_at files e.path e.bytes) answers) rs → AllByRecursion (λ (r : CachedResult). AllByRecursion (IsKept answers names) r.names) rs
      → AllByRecursion (IsRight (rules_at files e.path e.bytes) (answers_for answers names)) rs
  later_results names e rs right kept =
      all_both (IsRight (rules_at files e.path e.bytes) answers) (λ (r : CachedResult). AllByRecursion (IsKept answers names) r.names) (IsRight (rules_at files e.path e.bytes) (answers_for answers names)) rs
      (λ r one all.
      come_alike (rules_at files e.path e.bytes) (answers_of answers r) (answers_of (answers_for answers names) r) r.group (name_set r.names)
      (λ q there. inside (answers_for answers names) r q there ∙ of_each (IsKept answers names) r.names q all there ∙ sym (inside answers r q there))
      one)
      right kept

  later_entry : (names : List Name) (e : Entry) → IsRightEntry files answers e → AllByRecursion (λ (r : CachedResult). AllByRecursion (IsKept answers names) r.names) e.results → IsRightEntry files (answers_for answers names) e
  later_entry names e right kept = (
    right.0,
    All-from_recursion (IsRight (rules_at files e.path e.bytes) (answers_for answers names)) e.results
        (later_results names e e.results (recursion_from_All (IsRight (rules_at files e.path e.bytes) answers) e.results right.1) kept),
  )

  cache_right : (entries : List OldEntry) → AllByRecursion (IsRightOldEntry files merge answers held) entries → IsRightCache files (cache_of answers (carried_entries firsts entries))
  cache_right entries all =
      let es : List Entry = carried_entries firsts entries in
      let names : List Name = names_of es in
      All-from_recursion (IsRightEntry files (answers_for answers names)) es
      (all_both (IsRightEntry files answers) (λ (e : Entry). AllByRecursion (λ (r : CachedResult). AllByRecursion (IsKept answers names) r.names) e.results) (IsRightEntry files (answers_for answers names)) es
      (later_entry names) (entries_right entries all) (names_kept answers es))

abbrev no_entries : Cache
no_entries = record { answers = []; entries = [] }

abbrev whole : {R : Type 0} → Files R → OldCache → List R → Cache
whole files c held = cache_of c.answers (carried_entries (first_rules (map files.key held)) c.entries)

module _ {R L : Type 0} (files : Files R) (lists : RuleLists R L) (merge : Head → List Ruled → FileRows) (c : OldCache) (list : L) where
  abbrev held : List R
  held = lists.rules list

  abbrev key : List ℕ
  key = lists.key list

  pub carried_right : IsMerge merge → NodesAscend files → IsRightOldCache files lists merge c → IsRightCache files (carried c key (map files.key held))
  carried_right is_merge ascend right = by_key (pointwise nat_eq c.rules key) refl where
    by_key : (b : Bool) → pointwise nat_eq c.rules key ≡ b → IsRightCache files (carried c key (map files.key held))
    by_key true is =
        let same : key ≡ c.rules = sym ((bytes_decides c.rules key).0 is) in
        let carried_is : carried c key (map files.key held) ≡ whole files c held = ap (λ (b : Bool). if b then whole files c held else no_entries) is in
        subst (IsRightCache files) (sym carried_is)
        (cache_right files merge is_merge ascend c.answers held c.entries (recursion_from_All (IsRightOldEntry files merge c.answers held) c.entries (right list same)))
    by_key false is =
        let carried_is : carried c key (map files.key held) ≡ no_entries = ap (λ (b : Bool). if b then whole files c held else no_entries) is in
        subst (IsRightCache files) (sym carried_is) (All-nil (IsRightEntry files []))
