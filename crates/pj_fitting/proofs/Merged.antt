-- What results say of rules, one after the other.
use Rattle.std.proofs.Common.{◌≡◌, ◌+◌, Bool, true, false, cond, ◌||◌, List, [], ◌∷◌, ◌++◌, map, Some, refl, sym, ap, subst, ◌∙◌, arith}
use Rattle.std.specs.Prelude.{nat_eq}
use Rattle.std.specs.Cmp.Lexicographic.{bytes_decides, pointwise}
use Rattle.std.specs.List.{AllByRecursion, filter, flat_map}
use Rattle.std.specs.BTreeMap.{is_at}
use Rattle.std.specs.FinSet as set
use Rattle.std.proofs.lemmas.List.Concat.{flat_map-cons}
use Rattle.pj_names.specs.declared.answer.Answer.{Answer}
use Rattle.pj_names.specs.ClassName.{Name, NameSet, name_set}
use Rattle.pj_names.specs.Asking.{Asking, Return, bind, each}
use Rattle.pj_names.specs.Meaning.{Source, Meaning, Done, Need, Gives, Means, over, outcome_of, in_front, after, also, whole}
use Rattle.pj_names.proofs.MeaningLaws.{over-bind}
use Rattle.pj_reports.specs.declared.ruled.Head.{Head}
use Rattle.pj_reports.specs.declared.ruled.Head.TheVariants as heads
use Rattle.pj_reports.specs.declared.ruled.Ruled.{Ruled}
use Rattle.pj_reports.specs.declared.ruled.Ruled.TheVariants as ruled
use Rattle.pj_cache.specs.Found.{first_named}
use Rattle.pj_cache.specs.Places.{byte_order}
use Rattle.pj_cache.specs.declared.cache.KeyRows.{KeyRows}
use Rattle.pj_cache.specs.declared.cache.CachedResult.{CachedResult}
use Rattle.pj_cache.specs.declared.cache.Entry.{Entry}
use Rattle.pj_cache.specs.declared.cache.Cache.{Cache}
use Rattle.pj_reuse.specs.Serving.{has_key, keys_of}
use Rattle.pj_fitting.specs.Right.{Key, RulesAt, Files, ComesTo, ComeTo, IsRightCache, nothing, rules_at}
use Rattle.pj_fitting.specs.Left.{File, active_keys, entry_at, has_result, results_of, rows_at, AreLeftBy, IsLeftEntry}
use Rattle.pj_fitting.proofs.Sets.{same_name, set_of_both}
use Rattle.pj_fitting.proofs.Right.{every_rule}
use Rattle.pj_fitting.proofs.Lists.{all_map, all_joined}
use Rattle.pj_fitting.proofs.Left.{ComesNow, all_have, entry_now}

-- ---- one meaning after another

given : {A : Type 0} (v w : A) (s t : NameSet) → Gives v s ≡ Gives w t → (v ≡ w) × (s ≡ t)
given v w s t e = (cc, cc)

in_front_done : {A : Type 0} (names more : List Name) (x : A) → in_front names (Done x more) ≡ Done x (names ++ more)
in_front_done [] more x = refl
in_front_done (n ∷ ns) more x = ap (also n) (in_front_done ns more x)

after_done : {B : Type 0} (names : List Name) (next : Meaning B) (w : B) (t : NameSet) → outcome_of next ≡ Gives w t → outcome_of (in_front names next) ≡ Gives w (set.union (name_set names) t)
after_done {B} names (Done x more) w t e =
    let both = given x w (name_set more) t e in
    ap outcome_of (in_front_done names more x)
    ∙ (λ i. Gives (both.0 i) (set_of_both names more i))
    ∙ ap (λ (s : NameSet). Gives w (set.union (name_set names) s)) both.1
after_done names (Need n) w t e = absurd cc

after_gives : {A B : Type 0} (first : Meaning A) (next : A → Meaning B) (v : A) (s : NameSet) (w : B) (t : NameSet) → outcome_of first ≡ Gives v s → outcome_of (next v) ≡ Gives w t → outcome_of (after first next) ≡ Gives w (set.union s t)
after_gives {A} {B} (Done x names) next v s w t e h =
    let both = given x v (name_set names) s e in
    let then : outcome_of (next x) ≡ Gives w t = ap (λ (y : A). outcome_of (next y)) both.0 ∙ h in
    after_done names (next x) w t then ∙ ap (λ (u : NameSet). Gives w (set.union u t)) both.1
after_gives (Need n) next v s w t e h = absurd cc

-- one meaning after another comes to what the second one does, and asks for the names of both
pub means_both : {A B : Type 0} (source : Source) (m : Asking A) (k : A → Asking B) (v : A) (s : NameSet) (w : B) (t : NameSet) → Means source m (Gives v s) → Means source (k v) (Gives w t) → Means source (bind m k) (Gives w (set.union s t))
means_both source m k v s w t first next = record {
  least = first.least + next.least;
  is = λ depth far.
      ap outcome_of (over-bind depth source m k)
      ∙ after_gives (over depth source m) (λ x. over depth source (k x)) v s w t (first.is depth (omega (arith, far))) (next.is depth (omega (arith, far)));
}

-- a value that asks for nothing
pub means_value : {A : Type 0} (source : Source) (v : A) → Means source (Return v) (Gives v (name_set []))
means_value source v = record { least = 0; is = λ depth far. refl }

-- it comes to a value, with some names
abbrev pub Comes : {A : Type 0} → Source → Asking A → A → Type 0
Comes source m v = (names : NameSet) × Means source m (Gives v names)

module _ {A B : Type 0} (source : Source) (meaning : A → Asking B) (value : A → B) where
  -- the meanings of members come to their values, one after the other
  pub each_comes : (xs : List A) → AllByRecursion (λ (x : A). Comes source (meaning x) (value x)) xs → Comes source (each meaning xs) (map value xs)
  each_comes [] all = (name_set [], means_value source [])
  each_comes (x ∷ xs) all =
      let rest = each_comes xs all.1 in
      let alone = means_both source (each meaning xs) (λ values. Return (value x ∷ values)) (map value xs) rest.0 (value x ∷ map value xs) (name_set []) rest.1 (means_value source (value x ∷ map value xs)) in (
        set.union all.0.0 (set.union rest.0 (name_set [])),
        means_both source (meaning x) (λ v. bind (each meaning xs) (λ values. Return (v ∷ values))) (value x) all.0.0 (value x ∷ map value xs) (set.union rest.0 (name_set [])) all.0.1 alone,
      )

-- ---- rows of keys

module _ {R : Type 0} (rules : RulesAt R) (world : Name → Answer) where
  -- some rule of a key comes to its rows now
  abbrev RowsNow : KeyRows → Type 0
  RowsNow k = (names : NameSet) × ComesTo rules (whole world) k names

  rows_now : (ks : List KeyRows) (names : NameSet) → ComeTo rules (whole world) ks names → AllByRecursion RowsNow ks
  rows_now [] names come = tt
  rows_now (k ∷ ks) names come = ((come.own, come.first), rows_now ks come.others come.rest)

  all_rows_now : (results : List CachedResult) → AllByRecursion (ComesNow rules world) results → AllByRecursion RowsNow (flat_map (λ (r : CachedResult). r.group) results)
  all_rows_now results all =
      all_joined RowsNow (λ (r : CachedResult). r.group) results
      (all_map (ComesNow rules world) (λ (r : CachedResult). AllByRecursion RowsNow r.group) results (λ r come. rows_now r.group (name_set r.names) come) all)

  -- The rows that were found for a key, which its rules come to.
  pub record FoundNow (found : List KeyRows) (key : Key) : Type 0 where
    pub row : KeyRows
    pub is : first_named (λ (k : KeyRows). k.key) found key ≡ Some row
    pub key_is : row.key ≡ key
    pub names : NameSet
    pub comes : ComesTo rules (whole world) row names

  first_by : (k : KeyRows) (ks : List KeyRows) (key : Key) (t : Bool) → pointwise nat_eq k.key key ≡ t → RowsNow k → (is_at (byte_order key) k.key || has_key (map (λ (x : KeyRows). x.key) ks) key) ≡ true
      → (has_key (map (λ (x : KeyRows). x.key) ks) key ≡ true → FoundNow ks key) → (row : KeyRows) × (cond t (Some k) (first_named (λ (x : KeyRows). x.key) ks key) ≡ Some row) × (row.key ≡ key) × RowsNow row
  first_by k ks key true is now here rest = (k, refl, (bytes_decides k.key key).0 is, now)
  first_by k ks key false is now here rest =
      let there = rest (behind (is_at (byte_order key) k.key) refl here) in
      (there.row, there.is, there.key_is, (there.names, there.comes))
    where
      behind : (b : Bool) → is_at (byte_order key) k.key ≡ b → (b || has_key (map (λ (x : KeyRows). x.key) ks) key) ≡ true → has_key (map (λ (x : KeyRows). x.key) ks) key ≡ true
      behind true at e = let never : false ≡ true = sym is ∙ (bytes_decides k.key key).1 (sym (same_name key k.key at)) in absurd cc
      behind false at e = e

  first_now : (ks : List KeyRows) (key : Key) → AllByRecursion RowsNow ks → has_key (map (λ (k : KeyRows). k.key) ks) key ≡ true → FoundNow ks key
  first_now [] key all here = absurd cc
  first_now (k ∷ ks) key all here =
      let one = first_by k ks key (pointwise nat_eq k.key key) refl all.0 here (λ rest. first_now ks key all.1 rest) in
      record { row = one.0; is = one.1; key_is = one.2; names = one.3.0; comes = one.3.1 }

  key_by : (r : CachedResult) (rs : List CachedResult) (key : Key) (b : Bool) → has_key (keys_of r) key ≡ b → (b || has_result rs key) ≡ true → (has_result rs key ≡ true → has_key (map (λ (k : KeyRows). k.key) (flat_map (λ (x : CachedResult). x.group) rs)) key ≡ true)
      → (has_key (keys_of r) key || has_key (map (λ (k : KeyRows). k.key) (flat_map (λ (x : CachedResult). x.group) rs)) key) ≡ true
  key_by r rs key true is e rest = ap (λ (b : Bool). b || has_key (map (λ (k : KeyRows). k.key) (flat_map (λ (x : CachedResult). x.group) rs)) key) is
  key_by r rs key false is e rest = ap (λ (b : Bool). b || has_key (map (λ (k : KeyRows). k.key) (flat_map (λ (x : CachedResult). x.group) rs)) key) is ∙ rest e

  both_keys : (xs ys : List KeyRows) (key : Key) → has_key (map (λ (k : KeyRows). k.key) (xs ++ ys)) key ≡ (has_key (map (λ (k : KeyRows). k.key) xs) key || has_key (map (λ (k : KeyRows). k.key) ys) key)
  both_keys [] ys key = refl
  both_keys (x ∷ xs) ys key = ap (λ (b : Bool). is_at (byte_order key) x.key || b) (both_keys xs ys key) ∙ apart (is_at (byte_order key) x.key) (has_key (map (λ (k : KeyRows). k.key) xs) key) (has_key (map (λ (k : KeyRows). k.key) ys) key)
    where
      apart : (a b c : Bool) → (a || (b || c)) ≡ ((a || b) || c)
      apart true b c = refl
      apart false b c = refl

  has_row : (results : List CachedResult) (key : Key) → has_result results key ≡ true → has_key (map (λ (k : KeyRows). k.key) (flat_map (λ (r : CachedResult). r.group) results)) key ≡ true
  has_row [] key e = absurd cc
  has_row (r ∷ rs) key e =
      ap (λ (l : List KeyRows). has_key (map (λ (k : KeyRows). k.key) l) key) (flat_map-cons (λ (x : CachedResult). x.group) r rs)
      ∙ both_keys r.group (flat_map (λ (x : CachedResult). x.group) rs) key
      ∙ key_by r rs key (has_key (keys_of r) key) refl e (λ rest. has_row rs key rest)

  -- where some result has a key, its rows are there, and are what each rule of the key comes to now
  pub row_now : (results : List CachedResult) (key : Key) → AllByRecursion (ComesNow rules world) results → has_result results key ≡ true → FoundNow (flat_map (λ (r : CachedResult). r.group) results) key
  row_now results key all has = first_now (flat_map (λ (r : CachedResult). r.group) results) key (all_rows_now results all) (has_row results key has)

  pub rule_now : (results : List CachedResult) (rule : R) (found : FoundNow (flat_map (λ (r : CachedResult). r.group) results) (rules.key rule)) → Comes (whole world) (rules.meaning rule) found.row.rows
  rule_now results rule found = (found.names, every_rule rules (whole world) found.row found.names rule found.comes (sym found.key_is))

  -- ---- what results say of each rule

  said_by : (results : List CachedResult) (rule : R) (b : Bool) → rules.is_active rule ≡ b → AllByRecursion (ComesNow rules world) results → (b ≡ true → has_result results (rules.key rule) ≡ true) → Comes (whole world) (rules.meaning rule) (rows_at rules results rule)
  said_by results rule true is all has =
      let found = row_now results (rules.key rule) all (has refl) in
      let says : rows_at rules results rule ≡ found.row.rows = rw (is, found.is) refl in
      subst (λ (rows : Ruled). Comes (whole world) (rules.meaning rule) rows) (sym says) (rule_now results rule found)
  said_by results rule false is all has =
      let says : rows_at rules results rule ≡ ruled.Spots [] = rw is refl in
      subst (λ (rows : Ruled). Comes (whole world) (rules.meaning rule) rows) (sym says)
      (subst (λ (m : Asking Ruled). Comes (whole world) m (ruled.Spots [])) (sym (rules.inactive_is_nothing rule is)) (name_set [], means_value (whole world) (ruled.Spots [])))

  abbrev SaidOf : List CachedResult → R → Type 0
  SaidOf results rule = Comes (whole world) (rules.meaning rule) (rows_at rules results rule)

  one_said : (results : List CachedResult) (rule : R) (rest : List R) (b : Bool) → rules.is_active rule ≡ b → AllByRecursion (ComesNow rules world) results
      → AllByRecursion (λ (key : Key). has_result results key ≡ true) (map rules.key (cond b (rule ∷ filter rules.is_active rest) (filter rules.is_active rest)))
      → (AllByRecursion (λ (key : Key). has_result results key ≡ true) (active_keys rules rest) → AllByRecursion (SaidOf results) rest) → AllByRecursion (SaidOf results) (rule ∷ rest)
  one_said results rule rest true is all keys others = (said_by results rule true is all (λ e. keys.0), others keys.1)
  one_said results rule rest false is all keys others = (said_by results rule false is all (λ e. absurd cc), others keys)

  each_said : (results : List CachedResult) (held : List R) → AllByRecursion (ComesNow rules world) results → AllByRecursion (λ (key : Key). has_result results key ≡ true) (active_keys rules held)
      → AllByRecursion (SaidOf results) held
  each_said results [] all has = tt
  each_said results (rule ∷ rest) all has = one_said results rule rest (rules.is_active rule) refl all has (λ keys. each_said results rest all keys)

  -- at a file without a tree
  none_said : (held : List R) → ((rule : R) → rules.meaning rule ≡ nothing) → AllByRecursion (λ (rule : R). Comes (whole world) (rules.meaning rule) (rows_at rules [] rule)) held
  none_said [] nothing_is = tt
  none_said (rule ∷ rest) nothing_is = (
    subst (λ (m : Asking Ruled). Comes (whole world) m (rows_at rules [] rule)) (sym (nothing_is rule))
        (subst (λ (rows : Ruled). Comes (whole world) nothing rows) (sym (empty_by (rules.is_active rule))) (name_set [], means_value (whole world) (ruled.Spots []))),
    none_said rest nothing_is,
  )
    where
      empty_by : (b : Bool) → cond b (ruled.Spots []) (ruled.Spots []) ≡ ruled.Spots []
      empty_by true = refl
      empty_by false = refl

-- ---- a file

module _ {R : Type 0} (files : Files R) (world : Name → Answer) (found : Cache) (held : List R) (file : File) (e : Entry) where
  abbrev here : RulesAt R
  here = rules_at files file.0 file.1

  said_at : (h : Head) → files.head file.1 ≡ h → IsRightCache files found → IsLeftEntry files world found held file e → AreLeftBy h here world found.answers (results_of (entry_at found file)) (active_keys here held) e.results
      → AllByRecursion (λ (rule : R). Comes (whole world) (here.meaning rule) (rows_at here e.results rule)) held
  said_at (heads.Package name) is right left results =
      each_said here world e.results held (entry_now files world found held file e right left)
      (all_have here world found.answers (results_of (entry_at found file)) (active_keys here held) e.results results)
  said_at (heads.Message message) is right left results =
      subst (λ (rs : List CachedResult). AllByRecursion (λ (rule : R). Comes (whole world) (here.meaning rule) (rows_at here rs rule)) held) (sym results)
      (none_said here world held (λ rule. files.no_tree_is_nothing file.0 file.1 message rule is))

  -- what is left of a file says what each rule comes to there
  pub rules_said : IsRightCache files found → IsLeftEntry files world found held file e → AllByRecursion (λ (rule : R). Comes (whole world) (here.meaning rule) (rows_at here e.results rule)) held
  rules_said right left = said_at (files.head file.1) refl right left left.results

  -- so the head with what it says of each rule, merged, is what they mean together
  pub merged_said : {Rows : Type 0} (merge : Head → List Ruled → Rows) → IsRightCache files found → IsLeftEntry files world found held file e
      → Comes (whole world) (bind (each here.meaning held) (λ results. Return (merge (files.head file.1) results))) (merge e.head (map (rows_at here e.results) held))
  merged_said merge right left =
      let rows : List Ruled = map (rows_at here e.results) held in
      let all = each_comes (whole world) here.meaning (rows_at here e.results) held (rules_said right left) in
      let whole_one = means_both (whole world) (each here.meaning held) (λ results. Return (merge (files.head file.1) results)) rows all.0 (merge (files.head file.1) rows) (name_set []) all.1 (means_value (whole world) (merge (files.head file.1) rows)) in
      subst (λ (h : Head). Comes (whole world) (bind (each here.meaning held) (λ results. Return (merge (files.head file.1) results))) (merge h rows)) (sym left.head) (set.union all.0 (name_set []), whole_one)
