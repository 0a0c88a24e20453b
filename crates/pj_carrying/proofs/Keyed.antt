-- A cache of one list of rules or another.
use Rattle.std.proofs.Common.{◌≡◌, ℕ, Bool, true, false, List, [], refl, ap}
use Rattle.std.specs.Prelude.{nat_eq, if◌then◌else◌}
use Rattle.std.specs.Cmp.Lexicographic.{bytes_decides, pointwise}
use Rattle.pj_cache.specs.declared.cache.Cache.{Cache}
use Rattle.pj_cache.specs.declared.old.OldCache.{OldCache}
use Rattle.pj_carry.specs.Carried.{Key, cache_of, carried, carried_entries, first_rules}

abbrev no_entries : Cache
no_entries = record { answers = []; entries = [] }

module _ (old : OldCache) (key : List ℕ) (keys : List Key) where
  abbrev whole : Cache
  whole = cache_of old.answers (carried_entries (first_rules keys) old.entries)

  by_test : (b : Bool) → pointwise nat_eq old.rules key ≡ b → carried old key keys ≡ (if b then whole else no_entries)
  by_test b is = ap (λ (c : Bool). if c then whole else no_entries) is

  pub carried_same : old.rules ≡ key → carried old key keys ≡ whole
  carried_same same = by_test true ((bytes_decides old.rules key).1 same)

  differs : (b : Bool) → pointwise nat_eq old.rules key ≡ b → ¬ (old.rules ≡ key) → pointwise nat_eq old.rules key ≡ false
  differs true is other = absurd (other ((bytes_decides old.rules key).0 is))
  differs false is other = is

  pub carried_other : ¬ (old.rules ≡ key) → carried old key keys ≡ no_entries
  carried_other other = by_test false (differs (pointwise nat_eq old.rules key) refl other)
