use Rattle.std.proofs.Common.{◌≡◌, ◌<◌, ◌^◌, ◌++◌, length, take}
use Rattle.std.specs.List.{flat_map, All}
use Rattle.pj_cache_format.specs.Fitting.{FitsNamed}
use Rattle.pj_cache_format.specs.Texts.{number, answer_text}
use Rattle.pj_cache_format.proofs.put.put_answers.Given as goal

abbrev pub invariant-loop-name : goal.invariant-loop-name
invariant-loop-name l = record { put : l.out.items ≡ l.fn.out.items ++ (number (length l.answers) ++ flat_map (λ a. answer_text (a.0, a.1.value)) (take l.name-index l.answers)); fit : All (λ a. FitsNamed (a.0, a.1.value)) (take l.name-index l.answers); room : length l.answers < 2 ^ 32 }
