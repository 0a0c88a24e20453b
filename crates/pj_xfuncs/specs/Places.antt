-- Places of a list, counted from 1, as how many stand before them and how many they are.
use Rattle.std.specs.Prelude.{ℕ, ◌-◌, ℤ, pos, negsuc, if◌then◌else◌, ◌+ℤ◌, int_lt}

abbrev pub natural : ℤ → ℕ
natural (pos n) = n
natural (negsuc n) = 0

-- how many places stand before one
abbrev pub places_before : ℤ → ℕ
places_before start = natural start - 1

-- how many of so many places from one on are at least 1
abbrev pub places_within : ℤ → ℤ → ℕ
places_within start length = if int_lt start (pos 1) then natural (start +ℤ length) - 1 else natural length
