use Rattle.std.proofs.lemmas.List.Elements.{All-from_recursion}
use Rattle.pj_cache.specs.declared.cache.Entry.{Entry}
use Rattle.pj_left_cache.specs.Bytes.{AreByBytesAt}
use Rattle.pj_left_cache.proofs.ByBytes.{those_that_stay, together}
use Rattle.pj_left_cache.proofs.FromOrder.{each_entry}
use Rattle.pj_left_cache.proofs.laws.results_stand_by_bytes.Goals as goal

pub returns-clause-found : goal.returns-clause-found
returns-clause-found c cache ordered = All-from_recursion (λ (e : Entry). AreByBytesAt e.head e.results) cache.entries (each_entry cache ordered)

pub returns-clause-stay : goal.returns-clause-stay
returns-clause-stay c test results by = those_that_stay test results by

pub returns-clause-made : goal.returns-clause-made
returns-clause-made c stay made results keys by each zip once new moved sorted = together stay made results keys by each zip once new moved sorted
