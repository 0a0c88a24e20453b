-- What is left of a file over an oracle, as what is left of it in the oracle's worlds.
use Rattle.std.proofs.Common.{◌≡◌, ◌∙◌, ℕ, zero, suc, List, [], ◌∷◌, Option, Some, IsTrue, ap, get_or}
use Rattle.std.specs.Option.{unwrap_or}
use Rattle.std.specs.Prelude.{slice_get}
use Rattle.std.specs.FinSet as set
use Rattle.pj_cache.specs.declared.cache.Cache.{Cache}
use Rattle.pj_cache_laws.specs.Written.{WrittenRule}
use Rattle.pj_cached_files.specs.LeftFile.{Evaluates, IsRun, Leaves, Looks, Reuses, StandsIn}
use Rattle.pj_cached_files.specs.declared.entry.LeftFile.{LeftFile}
use Rattle.pj_fitting.specs.Left.{File}
use Rattle.pj_fitting.specs.Right.{Files}
use Rattle.pj_names.specs.ClassName.{NameSet}
use Rattle.pj_names.specs.Told.{Told}
use Rattle.pj_rule_sets.specs.Rules.{EffectiveRules}
use Rattle.pj_workers.specs.Cold.{World}
use Rattle.pj_workers.specs.Rules.{Rule}
use Rattle.pj_shared_files.specs.InWorlds.{LeavesIn, told_in}

module _ {K : Type 0} (t : Told K) (rules : EffectiveRules) (found : Cache) where
  -- a run in the worlds is one over the oracle
  over : (files : Files WrittenRule) (world : World) (meant : List Rule) (held : List WrittenRule) → IsTrue t.is_told → IsRun (told_in t.world) rules found files world meant held → IsRun t rules found files world meant held
  over files world meant held told run = record { files_are = run.files_are; rules_are = run.rules_are; is_told = told; one_world = run.one_world; right = run.right }

  -- so it is, whatever cache was found
  over_any : (files : Files WrittenRule) (world : World) (meant : List Rule) (held : List WrittenRule) → IsTrue t.is_told → StandsIn (told_in t.world) rules files world meant held → StandsIn t rules files world meant held
  over_any files world meant held told run = record { files_are = run.files_are; rules_are = run.rules_are; is_told = told; one_world = run.one_world }

  pub leaves_in : (file : File) (asked : NameSet) (left : LeftFile) → IsTrue t.is_told → t.asked ≡ set.empty → Leaves t rules found file left → Reuses t rules found file left → Evaluates t rules found file left → Looks t asked rules found file
      → LeavesIn rules found file t.world asked left
  leaves_in file asked left told fresh leaves reuses evaluates looks = record {
    leaves = λ files world meant held run. leaves files world meant held (over files world meant held told run);
    reuses = λ files world meant held run. reuses files world meant held (over_any files world meant held told run);
    evaluates = λ files world meant held run. evaluates files world meant held (over_any files world meant held told run);
    looks = λ files world meant held run own. let looked = looks files world meant held (over_any files world meant held told run) own in (looked.0, looked.1, looked.2 ∙ ap (λ (s : NameSet). set.union s looked.0) fresh);
  }

-- an item of a list by its place
pub item_is : {A : Type 0} (xs : List A) (i : ℕ) (x d : A) → slice_get xs i ≡ Some x → get_or xs i d ≡ x
item_is [] i x d is = absurd (cc)
item_is {A} (y ∷ xs) zero x d is = ap (λ (o : Option A). unwrap_or o d) is
item_is (y ∷ xs) (suc i) x d is = item_is xs i x d is
