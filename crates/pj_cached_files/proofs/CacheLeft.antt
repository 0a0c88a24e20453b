-- The cache that a run leaves of the entries of its files, and what is asked for it.
use Rattle.std.proofs.Common.{◌≡◌, ◌≤◌, ◌∙◌, ℕ, Bool, true, ◌&&◌, List, [], ◌∷◌, Result, Ok, Err, Option, Some, None, ap, arith, map, refl, subst, sym}
use Rattle.std.proofs.lemmas.List.Elements.{All-from_recursion}
use Rattle.std.specs.List.{AllByRecursion, AllZip}
use Rattle.std.specs.List.Sorted.{IsStrictlySortedBy}
use Rattle.std.specs.Ordering.{is_lt}
use Rattle.std.specs.Prelude.{IsTrue}
use Rattle.std.specs.Str.{is_utf8}
use Rattle.std.specs.declared.cmp.Ordering.{Ordering}
use Rattle.std.specs.declared.cmp.Ordering.TheVariants.{Less}
use Rattle.pj_cache.specs.Places.{byte_order}
use Rattle.pj_cache.specs.declared.cache.Cache.{Cache}
use Rattle.pj_cache.specs.declared.cache.Entry.{Entry}
use Rattle.pj_cache_format.specs.FormatTwo.{names_of}
use Rattle.pj_cache_format.specs.Judges.{is_behind, is_path_behind}
use Rattle.pj_cache_format.specs.Ordered.{HasItsName, IsInOrder}
use Rattle.pj_cached_files.specs.Gathered.{HasText}
use Rattle.pj_cached_files.specs.LeftFiles.{HasClassesByName}
use Rattle.pj_fitting.specs.Left.{File, IsLeftCache, IsLeftEntry}
use Rattle.pj_fitting.specs.Right.{Files}
use Rattle.pj_format.specs.Fields.{Chain}
use Rattle.pj_left_cache.proofs.LeavingLaws.{left_value}
use Rattle.pj_left_cache.proofs.ToOrder.{both_and, in_order}
use Rattle.pj_left_cache.specs.Bytes.{AreByBytesAt}
use Rattle.pj_left_cache.specs.Leaving.{left_cache}
use Rattle.pj_names.proofs.AskingLaws.{asks-refused, asks-then}
use Rattle.pj_names.proofs.MeaningLaws.{bind-bind}
use Rattle.pj_names.specs.Asking.{Asking, Return, bind, value_of}
use Rattle.pj_names.specs.ClassName.{Name}
use Rattle.pj_names.specs.Held.{AreOne}
use Rattle.pj_names.specs.Told.{Asks, Told, longest, seen}
use Rattle.pj_names.specs.declared.answer.Answer.{Answer}
use Rattle.pj_names.specs.declared.oracle.AskFault.{AskFault}

abbrev World : Type 0
World = Name → Answer

-- ---- refusals

-- what is asked up to a refusal, whatever is seen of what it is not
pub asks_up_to : {K A B : Type 0} (meaning : Asking B) (view : A → B) (t u : Told K) (r : Result A AskFault) (e fault : AskFault) → r ≡ Err e → e ≡ fault → Asks meaning t u (Err fault) → Asks meaning t u (seen view r)
asks_up_to {K} {A} {B} meaning view t u r e fault is same h = subst (λ (w : Result A AskFault). Asks meaning t u (seen view w)) (sym is) (subst (λ (x : AskFault). Asks meaning t u (Err x)) (sym same) h)

-- ---- order

paths_are : {R : Type 0} (files : Files R) (world : World) (found : Cache) (held : List R) (list : List File) (entries : List Entry) → AllZip (IsLeftEntry files world found held) list entries
    → map (λ (e : Entry). e.path) entries ≡ map (λ (file : File). file.0) list
paths_are files world found held [] [] left = refl
paths_are files world found held [] (e ∷ entries) left = absurd left
paths_are files world found held (file ∷ list) [] left = absurd left
paths_are files world found held (file ∷ list) (e ∷ entries) left = λ i. left.0.path i ∷ paths_are files world found held list entries left.1 i

behind_each : (path : List ℕ) (entries : List Entry) → AllByRecursion (λ (y : List ℕ). byte_order path y ≡ Less) (map (λ (e : Entry). e.path) entries) → AllByRecursion (λ (e : Entry). is_behind byte_order (Some path) e.path ≡ true) entries
behind_each path [] above = tt
behind_each path (e ∷ entries) above = (ap (λ (o : Ordering). is_lt o) above.0, behind_each path entries above.1)

behind_none : (entries : List Entry) → AllByRecursion (λ (e : Entry). is_behind byte_order None e.path ≡ true) entries
behind_none [] = tt
behind_none (e ∷ entries) = (refl, behind_none entries)

-- texts that ascend stand each behind the one before
paths_chain : (before : Option (List ℕ)) (entries : List Entry) → AllByRecursion HasText entries → IsStrictlySortedBy byte_order (map (λ (e : Entry). e.path) entries) → AllByRecursion (λ (e : Entry). is_behind byte_order before e.path ≡ true) entries
    → Chain (λ b (e : Entry). is_path_behind b e.path ≡ true) (λ b e. Some e.path) before entries
unfolding IsStrictlySortedBy
paths_chain before [] texts ascending behind = tt
paths_chain before (e ∷ entries) texts ascending behind =
    (both_and (is_utf8 e.path) (is_behind byte_order before e.path) texts.0 behind.0, paths_chain (Some e.path) entries texts.1 ascending.1 (behind_each e.path entries ascending.0))

each_named : (world : World) → HasClassesByName world → (names : List Name) → AllByRecursion (λ (n : Name). HasItsName n (world n)) names
each_named world named [] = tt
each_named world named (n ∷ names) = (named n, each_named world named names)

-- ---- the cache

-- the entries, with the answers of a world for the names of their results
abbrev pub cache_in : World → List Entry → Cache
cache_in world entries = record { answers = map (λ (n : Name). (n, world n)) (names_of entries); entries = entries }

each_answer : (world : World) (names : List Name) → AllByRecursion (λ (a : Name × Answer). a.1 ≡ world a.0) (map (λ (n : Name). (n, world n)) names)
each_answer world [] = tt
each_answer world (n ∷ names) = (refl, each_answer world names)

-- the cache that is left is the one that a run has to leave
pub cache_left : {R : Type 0} (files : Files R) (world : World) (found : Cache) (held : List R) (list : List File) (entries : List Entry) → HasClassesByName world → IsStrictlySortedBy byte_order (map (λ (file : File). file.0) list)
    → AllZip (IsLeftEntry files world found held) list entries → AllByRecursion (λ (e : Entry). AreByBytesAt e.head e.results) entries → AllByRecursion HasText entries → IsLeftCache files world found held list (cache_in world entries)
cache_left files world found held list entries named ascending left by texts = record {
  in_order = in_order world entries (each_named world named (names_of entries))
      (paths_chain None entries texts (subst (λ (l : List (List ℕ)). IsStrictlySortedBy byte_order l) (sym (paths_are files world found held list entries left)) ascending) (behind_none entries)) by;
  entries = left;
  answers = All-from_recursion (λ (a : Name × Answer). a.1 ≡ world a.0) (map (λ (n : Name). (n, world n)) (names_of entries)) (each_answer world (names_of entries));
}

-- what is asked for it, over an oracle that tells one world
pub cache_told : {K : Type 0} (t u : Told K) (world : World) (entries : List Entry) (c : Cache) → IsTrue t.is_told → AreOne t.world world → Asks (left_cache entries) t u (Ok c) → c ≡ cache_in world entries
cache_told t u world entries c is_told one asks =
    let far : longest ≤ longest = omega arith in
    asks.value_is is_told longest far ∙ ap (λ (w : World). value_of longest w (left_cache entries)) (one longest far) ∙ left_value longest world entries

-- ---- what is asked behind the files

-- where the files are asked about, and the values are let go
abbrev pub done_by : {A : Type 0} → Asking A → Asking (Unit {0})
done_by m = bind m (λ value. Return tt)

pub over_refused : {K A : Type 0} (m : Asking A) (entries : List Entry) {t u : Told K} {e : AskFault} {r : Result Cache AskFault} → Asks (done_by m) t u (Err e) → r ≡ Err e → Asks (bind m (λ value. left_cache entries)) t u r
over_refused m entries {t = t} {u = u} {r = r} h is =
    subst (λ (n : Asking Cache). Asks n t u r) (bind-bind m (λ value. Return tt) (λ (done : Unit {0}). left_cache entries)) (asks-refused (λ (done : Unit {0}). left_cache entries) h is)

pub over_then : {K A : Type 0} (m : Asking A) (entries : List Entry) {t u v : Told K} {r : Result Cache AskFault} → Asks (done_by m) t u (Ok tt) → Asks (left_cache entries) u v r → Asks (bind m (λ value. left_cache entries)) t v r
over_then m entries {t = t} {u = u} {v = v} {r = r} h then =
    subst (λ (n : Asking Cache). Asks n t v r) (bind-bind m (λ value. Return tt) (λ (done : Unit {0}). left_cache entries)) (asks-then (λ (done : Unit {0}). left_cache entries) h then)
