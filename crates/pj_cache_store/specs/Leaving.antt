-- What a run leaves under the name of its cache.
use Rattle.std.specs.Prelude.{ℕ, List, length, nat_lt, if◌then◌else◌}
use Rattle.pj_cache.specs.declared.cache.Cache.{Cache}
use Rattle.pj_cache_format.specs.Decoded.{text_two}
use Rattle.pj_fitting.specs.Fits.{empty, limit}

-- the text of the cache, or of the one without entries in the place of one that is too long
abbrev pub text_to_leave : Cache → List ℕ
text_to_leave c = if nat_lt limit (length (text_two c)) then text_two empty else text_two c
