-- The names that a run asks for are enough for what its rules mean.
use Rattle.std.proofs.Common.{◌≡◌, Bool, true, false, not, cond, ◌&&◌, ◌||◌, ℕ, inl, inr, List, [], ◌∷◌, ◌++◌, map, Option, Some, None, refl, sym, ap, subst, ◌∙◌, arith}
use Rattle.std.specs.Prelude.{IsTrue, nat_eq, ◌⊎◌}
use Rattle.std.specs.List.{AllByRecursion, filter, list_all}
use Rattle.std.specs.BTreeMap.{is_at}
use Rattle.std.specs.FinSet as set
use Rattle.std.specs.FinSet.{contains-empty, contains-from_list}
use Rattle.std.specs.Cmp.Lexicographic.{bytes_decides, nat_list_cmp_total, pointwise, slice_cmp}
use Rattle.std.specs.Ordering.{nat_cmp}
use Rattle.std.proofs.lemmas.List.Concat.{flat_map-cons}
use Rattle.std.proofs.lemmas.List.Elements.{recursion_from_All}
use Rattle.pj_names.specs.declared.answer.Answer.{Answer}
use Rattle.pj_names.specs.ClassName.{Name, NameSet, name_set}
use Rattle.pj_names.specs.Asking.{Asking}
use Rattle.pj_names.specs.Meaning.{Gives, Means, whole}
use Rattle.pj_names.proofs.MeaningLaws.{means-one}
use Rattle.pj_reports.specs.declared.ruled.Head.{Head}
use Rattle.pj_reports.specs.declared.ruled.Head.TheVariants as heads
use Rattle.pj_reports.specs.declared.ruled.Ruled.{Ruled}
use Rattle.pj_reports.specs.declared.ruled.Ruled.TheVariants as ruled
use Rattle.pj_cache.specs.Found.{first_named}
use Rattle.pj_cache.specs.Places.{byte_order}
use Rattle.pj_cache.specs.declared.cache.KeyRows.{KeyRows}
use Rattle.pj_cache.specs.declared.cache.CachedResult.{CachedResult}
use Rattle.pj_cache.specs.declared.cache.Entry.{Entry}
use Rattle.pj_cache.specs.declared.cache.Cache.{Cache}
use Rattle.pj_reuse.specs.Serving.{has_key, has_one, is_kept, is_served, keys_of, looked_in, stands, up_to_change}
use Rattle.pj_reuse.proofs.Standing.{has_itself, meets}
use Rattle.pj_fitting.specs.Right.{Key, RulesAt, Files, ComesTo, ComeTo, IsRight, IsRightCache, IsRightEntry, nothing, rules_at}
use Rattle.pj_fitting.specs.Left.{File, active_keys, entry_at, of_bytes, results_of}
use Rattle.pj_fitting.specs.Looked.{AskFor, AsksWithin, LookedFile, analysed, has_no_tree, is_reusable, is_served_at, is_there, told}
use Rattle.pj_fitting.proofs.Sets.{in_first, in_rest, or_true, same_name}
use Rattle.pj_fitting.proofs.Among.{both_true}
use Rattle.pj_fitting.proofs.Right.{comes_now, every_rule}
use Rattle.pj_fitting.proofs.Left.{right_at}
use Rattle.pj_fitting.proofs.Lists.{all_both, all_map}

-- a set of names is within another one
abbrev pub IsWithin : NameSet → NameSet → Type 0
IsWithin names others = (q : Name) → IsTrue (set.contains names q) → IsTrue (set.contains others q)

same_names : (v w : Ruled) (s t : NameSet) → Gives v s ≡ Gives w t → s ≡ t
same_names v w s t e = cc

-- ---- names of results

module _ (answers : List (Name × Answer)) (world : Name → Answer) where
  -- where all stay as they were, all are looked at
  all_looked : (names : List Name) → list_all (λ (n : Name). is_kept answers n (world n)) names ≡ true → up_to_change answers world names ≡ names
  all_looked [] e = refl
  all_looked (n ∷ ns) e =
      let both = both_true (is_kept answers n (world n)) (list_all (λ (m : Name). is_kept answers m (world m)) ns) e in
      rw both.0 (ap (λ (l : List Name). n ∷ l) (all_looked ns both.1))

has_append : (xs ys : List Name) (q : Name) → has_key (xs ++ ys) q ≡ (has_key xs q || has_key ys q)
has_append [] ys q = refl
has_append (x ∷ xs) ys q = ap (λ (b : Bool). is_at (byte_order q) x || b) (has_append xs ys q) ∙ apart (is_at (byte_order q) x) (has_key xs q) (has_key ys q)
  where
    apart : (a b c : Bool) → (a || (b || c)) ≡ ((a || b) || c)
    apart true b c = refl
    apart false b c = refl

-- a result that stands and has a key, with the names of what it says of the key among those that are looked at
record FoundThere {R : Type 0} (rules : RulesAt R) (world : Name → Answer) (looked : List Name) (key : Key) : Type 0 where
  row : KeyRows
  names : NameSet
  comes : ComesTo rules (whole world) row names
  key_is : row.key ≡ key
  within : (q : Name) → IsTrue (set.contains names q) → has_key looked q ≡ true

module _ {R : Type 0} (rules : RulesAt R) (world : Name → Answer) (answers : List (Name × Answer)) (keys : List Key) where
  abbrev looks : CachedResult → List Name
  looks r = cond (has_one keys r) (up_to_change answers world r.names) []

  row_by : (all : NameSet) (k : KeyRows) (ks : List KeyRows) (key : Key) (b : Bool) → is_at (byte_order key) k.key ≡ b → (come : ComeTo rules (whole world) (k ∷ ks) all) → (b || has_key (map (λ (x : KeyRows). x.key) ks) key) ≡ true
      → ((others : NameSet) → ComeTo rules (whole world) ks others → has_key (map (λ (x : KeyRows). x.key) ks) key ≡ true → (row : KeyRows) × (names : NameSet) × ComesTo rules (whole world) row names × (row.key ≡ key) × IsWithin names others)
      → (row : KeyRows) × (names : NameSet) × ComesTo rules (whole world) row names × (row.key ≡ key) × IsWithin names all
  row_by all k ks key true is come e rest = (k, come.own, come.first, sym (same_name key k.key is), in_first come.own come.others all come.all)
  row_by all k ks key false is come e rest =
      let found = rest come.others come.rest e in
      (found.0, found.1, found.2, found.3, λ q here. in_rest come.own come.others all come.all q (found.4 q here))

  row_in : (all : NameSet) (ks : List KeyRows) (key : Key) → ComeTo rules (whole world) ks all → has_key (map (λ (x : KeyRows). x.key) ks) key ≡ true → (row : KeyRows) × (names : NameSet) × ComesTo rules (whole world) row names × (row.key ≡ key) × IsWithin names all
  row_in all [] key come e = absurd cc
  row_in all (k ∷ ks) key come e = row_by all k ks key (is_at (byte_order key) k.key) refl come e (λ others rest there. row_in others ks key rest there)

  -- of a result that stands and has the key
  found_one : (r : CachedResult) (key : Key) (rest : List Name) → has_key keys key ≡ true → IsRight rules answers r → stands answers world r ≡ true → has_key (keys_of r) key ≡ true → FoundThere rules world (looks r ++ rest) key
  found_one r key rest wanted right stand here =
      let found = row_in (name_set r.names) r.group key (comes_now rules answers world r right stand) here in
      let one : has_one keys r ≡ true = meets keys (keys_of r) key here wanted in
      let all : looks r ≡ r.names = ap (λ (b : Bool). cond b (up_to_change answers world r.names) []) one ∙ all_looked answers world r.names stand in
      record {
        row = found.0;
        names = found.1;
        comes = found.2;
        key_is = found.3;
        within = λ q there.
            let among : has_key r.names q ≡ true = sym (contains-from_list nat_list_cmp_total r.names q) ∙ found.4 q there in
            has_append (looks r) rest q ∙ ap (λ (l : List Name). has_key l q || has_key rest q) all ∙ ap (λ (b : Bool). b || has_key rest q) among;
      }

  behind_it : (r : CachedResult) (key : Key) (rest : List Name) → FoundThere rules world rest key → FoundThere rules world (looks r ++ rest) key
  behind_it r key rest found = record {
    row = found.row;
    names = found.names;
    comes = found.comes;
    key_is = found.key_is;
    within = λ q there. has_append (looks r) rest q ∙ ap (λ (b : Bool). has_key (looks r) q || b) (found.within q there) ∙ or_true (has_key (looks r) q);
  }

  found_by : (r : CachedResult) (rs : List CachedResult) (key : Key) (rest : List Name) (s h : Bool) → stands answers world r ≡ s → has_key (keys_of r) key ≡ h → has_key keys key ≡ true → IsRight rules answers r → ((s && h) || is_served answers world rs key) ≡ true
      → (is_served answers world rs key ≡ true → FoundThere rules world rest key) → FoundThere rules world (looks r ++ rest) key
  found_by r rs key rest true true stand here wanted right e others = found_one r key rest wanted right stand here
  found_by r rs key rest true false stand here wanted right e others = behind_it r key rest (others e)
  found_by r rs key rest false h stand here wanted right e others = behind_it r key rest (others e)

  -- of right results that serve the key
  found_served : (rs : List CachedResult) (key : Key) → has_key keys key ≡ true → AllByRecursion (IsRight rules answers) rs → is_served answers world rs key ≡ true → FoundThere rules world (looked_in answers world rs keys) key
  found_served [] key wanted right e = absurd cc
  found_served (r ∷ rs) key wanted right e =
      subst (λ (l : List Name). FoundThere rules world l key) (sym (flat_map-cons looks r rs))
      (found_by r rs key (looked_in answers world rs keys) (stands answers world r) (has_key (keys_of r) key) refl refl wanted right.0 e (λ more. found_served rs key wanted right.1 more))

-- what a rule asks for is one set
own_names : {R : Type 0} (rules : RulesAt R) (world : Name → Answer) (rule : R) (v w : Ruled) (s t : NameSet) → Means (whole world) (rules.meaning rule) (Gives v s) → Means (whole world) (rules.meaning rule) (Gives w t) → s ≡ t
own_names rules world rule v w s t first second = same_names v w s t (means-one (whole world) (rules.meaning rule) (Gives v s) (Gives w t) first second)

served_within : {R : Type 0} (rules : RulesAt R) (world : Name → Answer) (looked : List Name) (rule : R) (rows : Ruled) (names : NameSet) → FoundThere rules world looked (rules.key rule) → Means (whole world) (rules.meaning rule) (Gives rows names) → IsWithin names (name_set looked)
served_within rules world looked rule rows names found means q here =
    let own = own_names rules world rule rows found.row.rows names found.names means (every_rule rules (whole world) found.row found.names rule found.comes (sym found.key_is)) in
    contains-from_list nat_list_cmp_total looked q ∙ found.within q (ap (λ (s : NameSet). set.contains s q) (sym own) ∙ here)

-- ---- rules that are asked

asked_within : {R : Type 0} (rules : RulesAt R) (world : Name → Answer) (held : List R) (all : NameSet) → AskFor rules world held all → AllByRecursion (AsksWithin rules world all) held
asked_within rules world [] all ask = tt
asked_within {R} rules world (rule ∷ rest) all ask = (
  λ rows own means q here.
      let same = own_names rules world rule rows ask.first.rows own ask.own means ask.first.means in
      in_first ask.own ask.others all ask.all q (ap (λ (s : NameSet). set.contains s q) (sym same) ∙ here),
  all_map (AsksWithin rules world ask.others) (AsksWithin rules world all) rest (λ r within rows own means q here. in_rest ask.own ask.others all ask.all q (within rows own means q here)) (asked_within rules world rest ask.others ask.rest),
)

-- ---- facts of members that pass a test

module _ {A : Type 0} (test : A → Bool) (P : A → Type 0) where
  back_by : (x : A) (xs : List A) (b : Bool) → test x ≡ b → AllByRecursion P (cond b (x ∷ filter test xs) (filter test xs)) → (AllByRecursion P (filter test xs) → AllByRecursion (λ (y : A). test y ≡ true → P y) xs) → AllByRecursion (λ (y : A). test y ≡ true → P y) (x ∷ xs)
  back_by x xs true is all rest = (λ e. all.0, rest all.1)
  back_by x xs false is all rest = (λ e. (let never : false ≡ true = sym is ∙ e in absurd cc), rest all)

  filter_back : (xs : List A) → AllByRecursion P (filter test xs) → AllByRecursion (λ (y : A). test y ≡ true → P y) xs
  filter_back [] all = tt
  filter_back (x ∷ xs) all = back_by x xs (test x) refl all (filter_back xs)

map_back : {A B : Type 0} (f : A → B) (P : B → Type 0) (xs : List A) → AllByRecursion P (map f xs) → AllByRecursion (λ (x : A). P (f x)) xs
map_back f P [] all = tt
map_back f P (x ∷ xs) all = (all.0, map_back f P xs all.1)

each_of : {A : Type 0} (test : A → Bool) (xs : List A) → list_all test xs ≡ true → AllByRecursion (λ (x : A). test x ≡ true) xs
each_of test [] e = tt
each_of test (x ∷ xs) e = let both = both_true (test x) (list_all test xs) e in (both.0, each_of test xs both.1)

-- ---- a file

module _ {R : Type 0} (rules : RulesAt R) (world : Name → Answer) (answers : List (Name × Answer)) (old : List CachedResult) (held : List R) (asked all : NameSet) where
  abbrev keys : List Key
  keys = active_keys rules held

  abbrev Covered : R → Type 0
  Covered rule = rules.is_active rule ≡ true → (is_served answers world old (rules.key rule) ≡ true) ⊎ AsksWithin rules world asked rule

  active_have : (P : Key → Type 0) → AllByRecursion P keys → AllByRecursion (λ (rule : R). rules.is_active rule ≡ true → P (rules.key rule)) held
  active_have P every = filter_back rules.is_active (λ (rule : R). P (rules.key rule)) held (map_back rules.key P (filter rules.is_active held) every)

  idle_within : (rule : R) → rules.meaning rule ≡ nothing → AsksWithin rules world all rule
  idle_within rule idle rows own means q here =
      let come = subst (λ (m : Asking Ruled). Means (whole world) m (Gives rows own)) idle means in
      let none : name_set [] ≡ own = same_names (ruled.Spots []) rows (name_set []) own (come.is come.least (omega arith)) in
      let never : false ≡ true = sym (contains-empty (slice_cmp nat_cmp) q) ∙ ap (λ (s : NameSet). set.contains s q) none ∙ here in absurd cc

  enough_by : IsWithin (name_set (looked_in answers world old keys)) all → IsWithin asked all → AllByRecursion (IsRight rules answers) old → (rule : R) → (b : Bool) → rules.is_active rule ≡ b
      → (b ≡ true → (is_served answers world old (rules.key rule) ≡ true) ⊎ AsksWithin rules world asked rule) → (b ≡ true → has_key keys (rules.key rule) ≡ true) → AsksWithin rules world all rule
  enough_by told_in asked_in right rule true is covered wanted = by (covered refl)
    where
      by : (is_served answers world old (rules.key rule) ≡ true) ⊎ AsksWithin rules world asked rule → AsksWithin rules world all rule
      by (inl served) rows own means q here = told_in q (served_within rules world (looked_in answers world old keys) rule rows own (found_served rules world answers keys old (rules.key rule) (wanted refl) right served) means q here)
      by (inr within) rows own means q here = asked_in q (within rows own means q here)
  enough_by told_in asked_in right rule false is covered wanted = idle_within rule (rules.inactive_is_nothing rule is)

  pub rules_within : IsWithin (name_set (looked_in answers world old keys)) all → IsWithin asked all → AllByRecursion (IsRight rules answers) old → AllByRecursion Covered held → AllByRecursion (AsksWithin rules world all) held
  rules_within told_in asked_in right covered =
      all_both Covered (λ (rule : R). rules.is_active rule ≡ true → has_key keys (rules.key rule) ≡ true) (AsksWithin rules world all) held
      (λ rule cover wanted. enough_by told_in asked_in right rule (rules.is_active rule) refl cover wanted) covered (active_have (λ (key : Key). has_key keys key ≡ true) (has_itself keys))

  -- where each active rule is served
  pub served_cover : list_all (is_served answers world old) keys ≡ true → AllByRecursion Covered held
  served_cover e =
      all_map (λ (rule : R). rules.is_active rule ≡ true → is_served answers world old (rules.key rule) ≡ true) Covered held (λ rule f active. inl (f active))
      (active_have (λ (key : Key). is_served answers world old key ≡ true) (each_of (is_served answers world old) keys e))

  cover_by : (rule : R) (b : Bool) → is_served answers world old (rules.key rule) ≡ b → ((rules.is_active rule && not (is_served answers world old (rules.key rule))) ≡ true → AsksWithin rules world asked rule) → Covered rule
  cover_by rule true is f active = inl is
  cover_by rule false is f active = inr (f (ap (λ (b : Bool). b && not (is_served answers world old (rules.key rule))) active ∙ ap not is))

  -- where the others are asked
  pub asked_cover : AskFor rules world (filter (λ (rule : R). rules.is_active rule && not (is_served answers world old (rules.key rule))) held) asked → AllByRecursion Covered held
  asked_cover ask =
      let test : R → Bool = λ rule. rules.is_active rule && not (is_served answers world old (rules.key rule)) in
      all_map (λ (rule : R). test rule ≡ true → AsksWithin rules world asked rule) Covered held (λ rule f. cover_by rule (is_served answers world old (rules.key rule)) refl f)
      (filter_back test (AsksWithin rules world asked) held (asked_within rules world (filter test held) asked ask))

  pub idle_all : ((rule : R) → rules.meaning rule ≡ nothing) → (list : List R) → AllByRecursion (AsksWithin rules world all) list
  idle_all idle [] = tt
  idle_all idle (rule ∷ rest) = (idle_within rule (idle rule), idle_all idle rest)

-- ---- a file without a tree

module _ {R : Type 0} (files : Files R) (answers : List (Name × Answer)) (file : File) where
  -- a right entry of these bytes says of a file without a tree that it has none
  abbrev Treeless : Option Entry → Type 0
  Treeless o = has_no_tree o ≡ true → (message : List ℕ) × (files.head file.1 ≡ heads.Message message)

  by_head : (h : Head) (e : Entry) → e.head ≡ h → e.head ≡ files.head file.1 → Treeless (Some e)
  by_head (heads.Message message) e is same tree = (message, sym same ∙ is)
  by_head (heads.Package name) e is same tree =
      let shown : Head → Entry = λ h. record { path = e.path; bytes = e.bytes; head = h; results = e.results } in
      let never : false ≡ true = sym (ap (λ (h : Head). has_no_tree (Some (shown h))) is) ∙ tree in absurd cc

  by_bytes : (e : Entry) (t : Bool) → pointwise nat_eq e.bytes file.1 ≡ t → IsRightEntry files answers e → Treeless (cond t (Some e) None)
  by_bytes e true is right = by_head e.head e refl (right.0 ∙ ap files.head ((bytes_decides e.bytes file.1).0 is))
  by_bytes e false is right = λ tree. absurd cc

  by_path : (e : Entry) (es : List Entry) (t : Bool) → IsRightEntry files answers e → Treeless (of_bytes (first_named (λ (x : Entry). x.path) es file.0) file.1) → Treeless (of_bytes (cond t (Some e) (first_named (λ (x : Entry). x.path) es file.0)) file.1)
  by_path e es true right rest = by_bytes e (pointwise nat_eq e.bytes file.1) refl right
  by_path e es false right rest = rest

  pub treeless : (es : List Entry) → AllByRecursion (IsRightEntry files answers) es → Treeless (of_bytes (first_named (λ (x : Entry). x.path) es file.0) file.1)
  treeless [] all = λ tree. absurd cc
  treeless (e ∷ es) all = by_path e es (pointwise nat_eq e.path file.0) all.0 (treeless es all.1)

module _ {R : Type 0} (files : Files R) (world : Name → Answer) (found : Cache) (held : List R) (file : File) (names : NameSet) (right : IsRightCache files found) where
  abbrev here : RulesAt R
  here = rules_at files file.0 file.1

  abbrev old : List CachedResult
  old = results_of (entry_at found file)

  right_here : AllByRecursion (IsRight here found.answers) old
  right_here = right_at files found.answers file found.entries (recursion_from_All (IsRightEntry files found.answers) found.entries right)

  reused_by : (asked : NameSet) → names ≡ set.union (told files found world held file) asked → (t : Bool) → has_no_tree (entry_at found file) ≡ t → (t || (is_there (entry_at found file) && list_all (is_served_at found world file) (active_keys here held))) ≡ true
      → AllByRecursion (AsksWithin here world names) held
  reused_by asked all true is e =
      let none = treeless files found.answers file found.entries (recursion_from_All (IsRightEntry files found.answers) found.entries right) is in
      idle_all here world found.answers old held asked names (λ rule. files.no_tree_is_nothing file.0 file.1 none.0 rule none.1) held
  reused_by asked all false is e =
      let both = both_true (is_there (entry_at found file)) (list_all (is_served_at found world file) (active_keys here held)) e in
      rules_within here world found.answers old held asked names (in_first (told files found world held file) asked names all) (in_rest (told files found world held file) asked names all) right_here
      (served_cover here world found.answers old held asked names both.1)

  enough_for : (asked : NameSet) → names ≡ set.union (told files found world held file) asked → (b : Bool) → is_reusable files found world held file ≡ b → AskFor here world (analysed files found world held file b) asked → AllByRecursion (AsksWithin here world names) held
  enough_for asked all true is ask = reused_by asked all (has_no_tree (entry_at found file)) refl is
  enough_for asked all false is ask =
      rules_within here world found.answers old held asked names (in_first (told files found world held file) asked names all) (in_rest (told files found world held file) asked names all) right_here
      (asked_cover here world found.answers old held asked names ask)

  -- what each rule asks for is among the names that are looked up
  pub enough : LookedFile files found world held file names → AllByRecursion (AsksWithin here world names) held
  enough looked = enough_for looked.asked looked.all (is_reusable files found world held file) refl looked.comes
