-- New results.
use Rattle.std.specs.Prelude.{◌≡◌, ◌&&◌, true, List, [], ◌∷◌}
use Rattle.std.specs.List.{All}
use Rattle.std.specs.Str.{is_utf8}
use Rattle.pj_cache.specs.declared.cache.CachedResult.{CachedResult}
use Rattle.pj_findings.specs.declared.run.RuleRun.{RuleRun}
use Rattle.pj_fitting.specs.Right.{Key}
use Rattle.pj_names.specs.ClassName.{Name, is_class_name}

-- the result of a key alone: what a rule of the key came to, with the names that it asked
abbrev pub new_result : Key → RuleRun → CachedResult
new_result key run = record { group = record { key = key; rows = run.rows } ∷ []; names = run.names }

-- the results of keys, by the runs of their rules, in their order
abbrev pub new_results : List Key → List RuleRun → List CachedResult
new_results [] runs = []
new_results (key ∷ keys) [] = []
new_results (key ∷ keys) (run ∷ runs) = new_result key run ∷ new_results keys runs

-- a name is a text, and that of a class
abbrev pub IsClassText : Name → Type 0
IsClassText name = (is_utf8 name && is_class_name name) ≡ true
