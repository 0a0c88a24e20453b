use Rattle.std.proofs.Common.{◌≡◌, ◌<◌, ◌^◌, ℕ, List, ◌++◌, length, take}
use Rattle.std.specs.List.{flat_map, All}
use Rattle.pj_cache_format.specs.Texts.{number, string}
use Rattle.pj_cache_format.proofs.writing.put_keys.Given as goal

abbrev pub invariant-loop-key : goal.invariant-loop-key
invariant-loop-key l = record { put : l.out.items ≡ l.fn.out.items ++ (number (length l.keys) ++ flat_map (string) (take l.key-index l.keys)); fit : All (λ (key : List ℕ). length key < 2 ^ 32) (take l.key-index l.keys); room : length l.keys < 2 ^ 32 }
