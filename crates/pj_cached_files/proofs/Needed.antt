-- The rules that are missing where some results stay are those that have to be evaluated.
use Rattle.std.proofs.Common.{◌≡◌, ◌+◌, ◌++◌, ◌∙◌, ℕ, suc, Bool, true, false, not, cond, ◌&&◌, ◌||◌, List, [], ◌∷◌, Some, ap, arith, filter, length, map, refl, slice_get, sym, take}
use Rattle.std.specs.Prelude.{if◌then◌else◌}
use Rattle.std.specs.BTreeMap.{is_at}
use Rattle.std.specs.List.{AllByRecursion, range_with_len}
use Rattle.std.specs.Option.{option_map_or}
use Rattle.std.proofs.lemmas.List.{append_assoc, length-append, map-append}
use Rattle.std.proofs.lemmas.List.Concat.{flat_map-cons}
use Rattle.std.proofs.lemmas.List.Elements.{filter-append}
use Rattle.pj_cache.specs.Places.{byte_order}
use Rattle.pj_cache.specs.declared.cache.Cache.{Cache}
use Rattle.pj_cache.specs.declared.cache.CachedResult.{CachedResult}
use Rattle.pj_cached_files.specs.Ran.{has_tree, is_needed, is_needed_at, ran_at}
use Rattle.pj_fitting.proofs.Lists.{all_map}
use Rattle.pj_fitting.proofs.Named.{has_both, itself}
use Rattle.pj_fitting.proofs.Sets.{or_true, same_name}
use Rattle.pj_fitting.proofs.Unserved.{kept_serves}
use Rattle.pj_fitting.specs.Left.{File, active_keys, entry_at, has_result, kept, results_of}
use Rattle.pj_fitting.specs.Looked.{is_reusable, is_served_at}
use Rattle.pj_fitting.specs.Right.{Files, Key, RulesAt, rules_at}
use Rattle.pj_left_cache.specs.Missing.{keys_of_all, missing_from, missing_rules}
use Rattle.pj_names.specs.ClassName.{Name}
use Rattle.pj_names.specs.declared.answer.Answer.{Answer}
use Rattle.pj_reuse.specs.Serving.{has_key, keys_of}
use Rattle.pj_workers.specs.Chosen.{numbers_to}

-- ---- lists

abbrev pub number : ℕ × Key → ℕ
number m = m.0

at_end : {A : Type 0} (front : List A) (x : A) (rest : List A) → slice_get (front ++ x ∷ rest) (length front) ≡ Some x
at_end [] x rest = refl
at_end (y ∷ front) x rest = at_end front x rest

up_to_end : {A : Type 0} (front rest : List A) → take (length front) (front ++ rest) ≡ front
up_to_end {A} [] rest = refl
up_to_end {A} (y ∷ front) rest = ap (λ (l : List A). y ∷ l) (up_to_end front rest)

has_stay : (stay : List CachedResult) (q : Key) → has_result stay q ≡ has_key (keys_of_all stay) q
has_stay [] q = refl
has_stay (r ∷ rs) q =
    ap (λ (b : Bool). has_key (keys_of r) q || b) (has_stay rs q) ∙ sym (has_both (keys_of r) (keys_of_all rs) q) ∙ ap (λ (l : List Key). has_key l q) (sym (flat_map-cons keys_of r rs))

-- ---- truth values

or_none : (a : Bool) → (a || false) ≡ a
or_none true = refl
or_none false = refl

not_either : (a b : Bool) → not (a || b) ≡ (not a && not b)
not_either true b = refl
not_either false b = refl

put_last : (t s b : Bool) → (t || (s || b)) ≡ (s || (b || (t || false)))
put_last true true b = refl
put_last true false true = refl
put_last true false false = refl
put_last false true b = refl
put_last false false b = sym (or_none b)

-- what holds already may be put once more
put_again : (t s b h : Bool) → h ≡ (s || b) → (t ≡ true → h ≡ true) → h ≡ (s || (b || (t || false)))
put_again true true b h is so = is
put_again true false true h is so = is
put_again true false false h is so = so refl
put_again false true b h is so = is
put_again false false b h is so = is ∙ sym (or_none b)

module _ {R : Type 0} (rules : RulesAt R) (found : Cache) (world : Name → Answer) (file : File) where
  abbrev key : R → Key
  key = rules.key

  abbrev old : List CachedResult
  old = results_of (entry_at found file)

  abbrev served : Key → Bool
  served q = is_served_at found world file q

  -- ---- keys of active rules

  seen_keys : (rule : R) (rest : List R) (a : Bool) → map key (cond a (rule ∷ rest) rest) ≡ cond a (key rule ∷ map key rest) (map key rest)
  seen_keys rule rest true = refl
  seen_keys rule rest false = refl

  keys_last : (before : List R) (rule : R) → active_keys rules (before ++ rule ∷ []) ≡ active_keys rules before ++ cond (rules.is_active rule) (key rule ∷ []) []
  keys_last before rule =
      ap (λ (l : List R). map key l) (filter-append rules.is_active before (rule ∷ []))
      ∙ map-append key (filter rules.is_active before) (cond (rules.is_active rule) (rule ∷ []) [])
      ∙ ap (λ (l : List Key). active_keys rules before ++ l) (seen_keys rule [] (rules.is_active rule))

  has_last : (before : List R) (rule : R) (q : Key) → has_key (active_keys rules (before ++ rule ∷ [])) q ≡ (has_key (active_keys rules before) q || has_key (cond (rules.is_active rule) (key rule ∷ []) []) q)
  has_last before rule q = ap (λ (l : List Key). has_key l q) (keys_last before rule) ∙ has_both (active_keys rules before) (cond (rules.is_active rule) (key rule ∷ []) []) q

  wider_by : (q : Key) (rule : R) (rest : List R) (a : Bool) → has_key (map key rest) q ≡ true → has_key (map key (cond a (rule ∷ rest) rest)) q ≡ true
  wider_by q rule rest true has = ap (λ (b : Bool). is_at (byte_order q) (key rule) || b) has ∙ or_true (is_at (byte_order q) (key rule))
  wider_by q rule rest false has = has

  abbrev IsWanted : List R → R → Type 0
  IsWanted all rule = rules.is_active rule ≡ true → has_key (active_keys rules all) (key rule) ≡ true

  own_wanted : (rule : R) (rest : List R) (a : Bool) → a ≡ true → has_key (map key (cond a (rule ∷ rest) rest)) (key rule) ≡ true
  own_wanted rule rest true is = ap (λ (b : Bool). b || has_key (map key rest) (key rule)) (itself (key rule))
  own_wanted rule rest false is = absurd cc

  -- the key of an active rule is among those of active rules
  each_wanted : (all : List R) → AllByRecursion (IsWanted all) all
  each_wanted [] = tt
  each_wanted (rule ∷ all) = (
    own_wanted rule (filter rules.is_active all) (rules.is_active rule),
    all_map (IsWanted all) (IsWanted (rule ∷ all)) all (λ other wanted is. wider_by (key other) rule (filter rules.is_active all) (rules.is_active rule) (wanted is)) (each_wanted all),
  )

  -- ---- one rule after the other

  module _ (all : List R) where
    abbrev wanted : List Key
    wanted = active_keys rules all

    -- some keys are, of those that are wanted, those that are served and those of active rules before
    abbrev Tells : List Key → List R → Type 0
    Tells held before = (q : Key) → has_key wanted q ≡ true → has_key held q ≡ (served q || has_key (active_keys rules before) q)

    need_by : (held : List Key) (before : List R) (rule : R) (a : Bool) → (a ≡ true → has_key wanted (key rule) ≡ true) → Tells held before
        → (a && (not (served (key rule)) && not (has_key (active_keys rules before) (key rule)))) ≡ (a && not (has_key held (key rule)))
    need_by held before rule true want tells = sym (ap not (tells (key rule) (want refl)) ∙ not_either (served (key rule)) (has_key (active_keys rules before) (key rule)))
    need_by held before rule false want tells = refl

    tells_by : (held : List Key) (before : List R) (rule : R) (a h : Bool) → has_key held (key rule) ≡ h → Tells held before → (q : Key) → has_key wanted q ≡ true
        → has_key (cond (a && not h) (key rule ∷ held) held) q ≡ (served q || (has_key (active_keys rules before) q || has_key (cond a (key rule ∷ []) []) q))
    tells_by held before rule true false is tells q want =
        ap (λ (b : Bool). is_at (byte_order q) (key rule) || b) (tells q want) ∙ put_last (is_at (byte_order q) (key rule)) (served q) (has_key (active_keys rules before) q)
    tells_by held before rule true true is tells q want =
        put_again (is_at (byte_order q) (key rule)) (served q) (has_key (active_keys rules before) q) (has_key held q) (tells q want) (λ at. ap (λ (k : Key). has_key held k) (same_name q (key rule) at) ∙ is)
    tells_by held before rule false h is tells q want = tells q want ∙ ap (λ (b : Bool). served q || b) (sym (or_none (has_key (active_keys rules before) q)))

    tells_next : (held : List Key) (before : List R) (rule : R) → Tells held before → Tells (cond (rules.is_active rule && not (has_key held (key rule))) (key rule ∷ held) held) (before ++ rule ∷ [])
    tells_next held before rule tells = λ q want.
        tells_by held before rule (rules.is_active rule) (has_key held (key rule)) refl tells q want ∙ ap (λ (b : Bool). served q || b) (sym (has_last before rule q))

    -- the test of a number where its rule stands
    tested : (before : List R) (rule : R) (rest : List R) (at : ℕ) → at ≡ length before → is_needed_at rules found world file (before ++ rule ∷ rest) at ≡ is_needed rules found world file before rule
    tested before rule rest at is =
        ap (λ (n : ℕ). is_needed_at rules found world file (before ++ rule ∷ rest) n) is
        ∙ (λ i. option_map_or (is_needed rules found world file (up_to_end before (rule ∷ rest) i)) (at_end before rule rest i) false)

    both_by : (at : ℕ) (k : Key) (held keys : List Key) (active : List Bool) (b c : Bool) (numbers : List ℕ) → c ≡ b → map number (missing_from (cond b (k ∷ held) held) (suc at) keys active) ≡ numbers
        → map number (cond b ((at, k) ∷ missing_from (k ∷ held) (suc at) keys active) (missing_from held (suc at) keys active)) ≡ cond c (at ∷ numbers) numbers
    both_by at k held keys active true true numbers same rest = ap (λ (l : List ℕ). at ∷ l) rest
    both_by at k held keys active false false numbers same rest = rest
    both_by at k held keys active true false numbers same rest = absurd cc
    both_by at k held keys active false true numbers same rest = absurd cc

    needed_from : (before rest : List R) (held : List Key) (at : ℕ) → at ≡ length before → AllByRecursion (IsWanted all) rest → Tells held before
        → map number (missing_from held at (map key rest) (map rules.is_active rest)) ≡ filter (is_needed_at rules found world file (before ++ rest)) (range_with_len at (length rest))
    needed_from before [] held at is wants tells = refl
    needed_from before (rule ∷ rest) held at is wants tells =
        let test : ℕ → Bool = is_needed_at rules found world file (before ++ rule ∷ rest) in
        let b : Bool = rules.is_active rule && not (has_key held (key rule)) in
        let later : suc at ≡ length (before ++ rule ∷ []) = omega (arith, is, length-append before (rule ∷ [])) in
        let moved : (before ++ rule ∷ []) ++ rest ≡ before ++ rule ∷ rest = append_assoc before (rule ∷ []) rest in
        let next : suc at ≡ at + 1 = omega arith in
        let same : test at ≡ b = tested before rule rest at is ∙ need_by held before rule (rules.is_active rule) wants.0 tells in
        let more = needed_from (before ++ rule ∷ []) rest (cond b (key rule ∷ held) held) (suc at) later wants.1 (tells_next held before rule tells)
        ∙ ap (λ (l : List R). filter (is_needed_at rules found world file l) (range_with_len (suc at) (length rest))) moved
        ∙ ap (λ (n : ℕ). filter test (range_with_len n (length rest))) next in
        both_by at (key rule) held (map key rest) (map rules.is_active rest) b (test at) (filter test (range_with_len (at + 1) (length rest))) same more

    tells_first : Tells (keys_of_all (kept found.answers world wanted old)) []
    tells_first = λ q want. sym (has_stay (kept found.answers world wanted old) q) ∙ kept_serves found.answers world wanted old q want ∙ sym (or_none (served q))

    -- the rules that are missing where those results stay that can
    pub needed_are : map number (missing_rules (kept found.answers world wanted old) (map key all) (map rules.is_active all)) ≡ filter (is_needed_at rules found world file all) (numbers_to (length all))
    needed_are = needed_from [] all (keys_of_all (kept found.answers world wanted old)) 0 refl (each_wanted all) tells_first

-- ---- a file

module _ {R : Type 0} (files : Files R) (found : Cache) (world : Name → Answer) (held : List R) (file : File) where
  abbrev needed : List ℕ
  needed = filter (is_needed_at (rules_at files file.0 file.1) found world file held) (numbers_to (length held))

  -- of a file that can be used again as it is none is evaluated
  pub ran_none : is_reusable files found world held file ≡ true → [] ≡ ran_at files found world held file
  ran_none is = ap (λ (b : Bool). if not b && has_tree (files.head file.1) then needed else []) (sym is)

  -- of another those that are needed, where it has a tree
  pub ran_needed : is_reusable files found world held file ≡ false → (if has_tree (files.head file.1) then needed else []) ≡ ran_at files found world held file
  ran_needed is = ap (λ (b : Bool). if not b && has_tree (files.head file.1) then needed else []) (sym is)
