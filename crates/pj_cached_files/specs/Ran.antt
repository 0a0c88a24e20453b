-- Which rules are evaluated on files, over the cache that a run found: those for whose keys no result stays, of each key the first one.
use Rattle.std.specs.Prelude.{ℕ, Bool, false, true, ◌&&◌, not, List, [], filter, flat_map, length, slice_get, take, if◌then◌else◌}
use Rattle.std.specs.Option.{option_map_or}
use Rattle.pj_cache.specs.declared.cache.Cache.{Cache}
use Rattle.pj_fitting.specs.Left.{File, active_keys}
use Rattle.pj_fitting.specs.Looked.{is_reusable, is_served_at}
use Rattle.pj_fitting.specs.Right.{Files, RulesAt, rules_at}
use Rattle.pj_names.specs.ClassName.{Name}
use Rattle.pj_names.specs.declared.answer.Answer.{Answer}
use Rattle.pj_outside.specs.Files.{Bytes}
use Rattle.pj_reports.specs.declared.ruled.Head.{Head}
use Rattle.pj_reports.specs.declared.ruled.Head.TheVariants as heads
use Rattle.pj_reuse.specs.Serving.{has_key}
use Rattle.pj_workers.specs.Chosen.{numbers_to}
use Rattle.pj_workers.specs.Evaluated.{with_path}

abbrev pub has_tree : Head → Bool
has_tree (heads.Package name) = true
has_tree (heads.Message message) = false

module _ {R : Type 0} (rules : RulesAt R) (found : Cache) (world : Name → Answer) (file : File) where
  -- whether a rule needs to be evaluated, where these rules stand before it: it is active, the cache does not serve it, and no active rule before it has its key
  abbrev pub is_needed : List R → R → Bool
  is_needed before rule = rules.is_active rule && (not (is_served_at found world file (rules.key rule)) && not (has_key (active_keys rules before) (rules.key rule)))

  -- so it is with the rule of this number, from 0; of a number that no rule has it is false
  abbrev pub is_needed_at : List R → ℕ → Bool
  is_needed_at held number = option_map_or (is_needed (take number held)) (slice_get held number) false

-- the numbers of the rules that are evaluated on a file, ascending: none where the file can be used again as it is, or has no tree
abbrev pub ran_at : {R : Type 0} → Files R → Cache → (Name → Answer) → List R → File → List ℕ
ran_at files found world held file =
    if not (is_reusable files found world held file) && has_tree (files.head file.1) then filter (is_needed_at (rules_at files file.0 file.1) found world file held) (numbers_to (length held)) else []

-- the rules that are evaluated on files, each with the path of its file, in the order of the files and then of the numbers
abbrev pub ran_at_all : {R : Type 0} → Files R → Cache → (Name → Answer) → List R → List File → List (Bytes × ℕ)
ran_at_all files found world held list = flat_map (λ (file : File). with_path file.0 (ran_at files found world held file)) list
