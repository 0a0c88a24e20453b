-- How long texts are in bytes and in characters.
use Rattle.std.proofs.Common.{◌+◌, ◌*◌, ◌-◌, ◌/◌, ◌≤◌, ℕ, zero, suc, Bool, true, false, cond, ltb, List, [], ◌∷◌, length, arith}
use Rattle.std.specs.Str.{chars, chars_after, continuation_len, lead_bits}
use lib.Utf8.{encode, next}

-- a text has no more characters than bytes
after_few : (n c : ℕ) (bytes : List ℕ) → length (chars_after n c bytes) ≤ suc (length bytes)
unfolding chars
after_few zero c [] = omega arith
after_few zero c (b ∷ bytes) = let more = after_few (continuation_len b) (lead_bits b) bytes in omega (arith, more)
after_few (suc n) c [] = omega arith
after_few (suc n) c (b ∷ bytes) = let more = after_few n (c * 64 + (b - 128)) bytes in omega (arith, more)

pub few_characters : (bytes : List ℕ) → length (chars bytes) ≤ length bytes
unfolding chars
few_characters [] = omega arith
few_characters (b ∷ bytes) = after_few (continuation_len b) (lead_bits b) bytes

-- a character takes four bytes at most
pub four_bytes : (c : ℕ) → length (encode c) ≤ 4
unfolding encode
four_bytes c = one (ltb c 128)
  where
    three : (z : Bool) → length (cond z ((224 + c / 4096) ∷ next (c / 64) ∷ next c ∷ []) ((240 + c / 262144) ∷ next (c / 4096) ∷ next (c / 64) ∷ next c ∷ [])) ≤ 4
    three true = omega arith
    three false = omega arith

    two : (y : Bool) → length (cond y ((192 + c / 64) ∷ next c ∷ []) (cond (ltb c 65536) ((224 + c / 4096) ∷ next (c / 64) ∷ next c ∷ []) ((240 + c / 262144) ∷ next (c / 4096) ∷ next (c / 64) ∷ next c ∷ []))) ≤ 4
    two true = omega arith
    two false = three (ltb c 65536)

    one : (x : Bool) → length (cond x (c ∷ []) (cond (ltb c 2048) ((192 + c / 64) ∷ next c ∷ []) (cond (ltb c 65536) ((224 + c / 4096) ∷ next (c / 64) ∷ next c ∷ []) ((240 + c / 262144) ∷ next (c / 4096) ∷ next (c / 64) ∷ next c ∷ [])))) ≤ 4
    one true = omega arith
    one false = two (ltb c 2048)
