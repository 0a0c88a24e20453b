-- The fields that formats are made of: big-endian numbers, runs and repetitions.
use Rattle.std.specs.Prelude.{◌≡◌, ℕ, zero, suc, List, [], ◌∷◌, slice_index, Result, Ok, Err}
use Rattle.std.specs.Int.{w16, w32, from_be_bytes}
use Rattle.pj_format.specs.declared.fault.Fault.{Fault}
use Rattle.pj_format.specs.declared.fault.Refused.{Refused}
use Rattle.pj_format.specs.declared.fault.Refused.TheVariants as refused
use Rattle.pj_format.specs.Format.{Format, Done, Field, Run, Sized, ◌>>=◌}

-- a number of one byte that means something, or is at fault
unfoldable pub u8_as : {B : Type 0} → (ℕ → Result B ℕ) → Format B
u8_as judge = Field 0 (λ b. judge (slice_index b 0)) (λ x. Done x)

unfoldable pub u8 : Format ℕ
u8 = u8_as (λ n. Ok n)

-- the same of two bytes, the higher one first
unfoldable pub u16_as : {B : Type 0} → (ℕ → Result B ℕ) → Format B
u16_as judge = Field 1 (λ b. judge (from_be_bytes w16 b)) (λ x. Done x)

unfoldable pub u16 : Format ℕ
u16 = u16_as (λ n. Ok n)

-- the same of four bytes
unfoldable pub u32_as : {B : Type 0} → (ℕ → Result B ℕ) → Format B
u32_as judge = Field 3 (λ b. judge (from_be_bytes w32 b)) (λ x. Done x)

unfoldable pub u32 : Format ℕ
u32 = u32_as (λ n. Ok n)

-- so many bytes
unfoldable pub run : ℕ → Format (List ℕ)
run count = Run count (λ x. Done x)

-- bytes behind their number, which mean something, or are at fault
unfoldable pub sized_as : {B : Type 0} → (List ℕ → Result B ℕ) → Format B
sized_as judge = Sized judge (λ x. Done x)

-- bytes behind their number, whatever they are
unfoldable pub sized : Format (List ℕ)
sized = sized_as (λ bytes. Ok bytes)

-- so many, one after the other
unfoldable pub several : {A : Type 0} → Format A → ℕ → Format (List A)
several item zero = Done []
several item (suc n) = do
  one ← item
  others ← several item n
  Done (one ∷ others)

-- so many, one after the other, each of which says what the next one depends on
unfoldable pub several_from : {A S : Type 0} → (S → Format (A × S)) → ℕ → S → Format (List A)
several_from item zero s = Done []
several_from item (suc n) s = do
  one ← item s
  others ← several_from item n one.1
  Done (one.0 ∷ others)

-- Each member of a list fits what the ones before it leave, from some state on.
abbrev pub Chain : {A S : Type 0} → (S → A → Type 0) → (S → A → S) → S → List A → Type 0
Chain Fits step s [] = Unit {0}
Chain Fits step s (x ∷ xs) = Fits s x × Chain Fits step (step s x) xs

-- Each member of a list fits the one at its place in another list, and both are as long.
abbrev pub Along : {A B : Type 0} → (B → A → Type 0) → List B → List A → Type 0
Along Fits [] [] = Unit {0}
Along Fits [] (x ∷ xs) = ⊥
Along Fits (b ∷ bs) [] = ⊥
Along Fits (b ∷ bs) (x ∷ xs) = Fits b x × Along Fits bs xs

-- one for each member of a list, one after the other
unfoldable pub each : {A B : Type 0} → (B → Format A) → List B → Format (List A)
each item [] = Done []
each item (x ∷ xs) = do
  one ← item x
  others ← each item xs
  Done (one ∷ others)

-- What a function returns, seen by a view, is what reading gives, but for want of memory.

abbrev pub Fails : {Y : Type 0} → Refused → Result Y Fault → Type 0
Fails refused.Memory read = Unit {0}
Fails (refused.Fault f) read = read ≡ Err f

abbrev pub Gives : {X Y : Type 0} → (X → Y) → Result X Refused → Result Y Fault → Type 0
Gives view (Ok x) read = read ≡ Ok (view x)
Gives view (Err e) read = Fails e read
