-- The answers that a result has.
use Rattle.std.proofs.Common.{◌≡◌, Bool, true, false, cond, ◌&&◌, List, [], ◌∷◌, Option, Some, None, refl, ap}
use Rattle.std.specs.Prelude.{IsTrue}
use Rattle.std.specs.List.{AllByRecursion, list_all}
use Rattle.std.specs.FinSet as set
use Rattle.pj_names.specs.declared.answer.Answer.{Answer}
use Rattle.pj_names.specs.ClassName.{Name, name_set}
use Rattle.pj_names.specs.Meaning.{found_in}
use Rattle.pj_cache.specs.declared.cache.CachedResult.{CachedResult}
use Rattle.pj_reuse.proofs.Equal.{same_equal}
use Rattle.pj_reuse.specs.Serving.{is_answer, is_kept, stands}
use Rattle.pj_fitting.specs.Right.{answers_of}

-- a result has the cache's answers for its names
pub inside : (answers : List (Name × Answer)) (r : CachedResult) (q : Name) → IsTrue (set.contains (name_set r.names) q) → answers_of answers r q ≡ found_in answers q
inside answers r q here = ap (λ (b : Bool). cond b (found_in answers q) None) here

kept_by : (o : Option Answer) (now : Answer) → is_answer o now ≡ true → o ≡ Some now
kept_by None now e = absurd cc
kept_by (Some a) now e = ap (λ (x : Answer). Some x) ((same_equal a now).0 e)

pub both_true : (a b : Bool) → (a && b) ≡ true → (a ≡ true) × (b ≡ true)
both_true true b e = (refl, e)
both_true false b e = absurd cc

each_kept : (answers : List (Name × Answer)) (world : Name → Answer) (names : List Name) → list_all (λ (n : Name). is_kept answers n (world n)) names ≡ true → AllByRecursion (λ (n : Name). found_in answers n ≡ Some (world n)) names
each_kept answers world [] e = tt
each_kept answers world (n ∷ ns) e =
    let both = both_true (is_kept answers n (world n)) (list_all (λ (m : Name). is_kept answers m (world m)) ns) e in
    (kept_by (found_in answers n) (world n) both.0, each_kept answers world ns both.1)

-- where a result stands, its answers are the world's
pub standing : (answers : List (Name × Answer)) (world : Name → Answer) (r : CachedResult) → IsTrue (stands answers world r) → AllByRecursion (λ (n : Name). found_in answers n ≡ Some (world n)) r.names
standing answers world r h = each_kept answers world r.names h
