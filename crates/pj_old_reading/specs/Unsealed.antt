-- What is wrong with bytes that are not sealed as caches are.
use Rattle.std.specs.Prelude.{◌≢◌, ◌<◌, ◌≤◌, ℕ, List, length, take}
use Rattle.pj_cache_format.specs.Decoded.{IsBroken, magic}
use Rattle.pj_cache_format.specs.declared.fault.CacheFault.{CacheFault}
use Rattle.pj_cache_format.specs.declared.fault.CacheFault.TheVariants as faults

-- fewer than 44, another magic, or another seal, tested in this order
abbrev pub IsUnsealed : List ℕ → CacheFault → Type 0
IsUnsealed bytes faults.Short = length bytes < 44
IsUnsealed bytes faults.Magic = (44 ≤ length bytes) × (take 8 bytes ≢ magic)
IsUnsealed bytes (faults.Seal kept computed) = IsBroken bytes kept computed
IsUnsealed bytes (faults.Form offset) = ⊥
