-- The cache that a run leaves, from its entries.
use Rattle.std.specs.Prelude.{List, [], ◌∷◌, ◌++◌}
use Rattle.pj_names.specs.declared.answer.Answer.{Answer}
use Rattle.pj_names.specs.ClassName.{Name}
use Rattle.pj_names.specs.Asking.{Asking, Return, ask, bind, each}
use Rattle.pj_cache.specs.declared.cache.Entry.{Entry}
use Rattle.pj_cache.specs.declared.cache.Cache.{Cache}
use Rattle.pj_cache_format.specs.FormatTwo.{names_of}

-- a name with its answer
abbrev pub answered : Name → Asking (Name × Answer)
answered name = bind (ask name) (λ now. Return (name, now))

-- the entries, with the answers for the names of their results, each asked once in the order of the names' bytes
abbrev pub left_cache : List Entry → Asking Cache
left_cache entries = bind (each answered (names_of entries)) (λ answers. Return (record { answers = answers; entries = entries }))

-- some answers, with those for names behind them
abbrev pub answers_behind : List (Name × Answer) → List Name → Asking (List (Name × Answer))
answers_behind front [] = Return front
answers_behind front (name ∷ names) = bind (ask name) (λ now. answers_behind (front ++ (name, now) ∷ []) names)
