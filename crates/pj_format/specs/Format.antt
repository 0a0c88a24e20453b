-- Binary formats: what bytes spell by a format, and what is wrong with them.
use Rattle.std.specs.Prelude.{◌≡◌, ℕ, suc, ◌+◌, ◌⊎◌, List, [], ◌++◌, length, take, drop, Result, Ok, Err, nat_lt, nat_eq, ◌<◌, MatchResult, if◌then◌else◌}
use Rattle.std.specs.Bool.{MatchBool}
use Rattle.std.specs.Int.{w32, from_be_bytes}
use Rattle.pj_format.specs.declared.fault.Fault.{Fault}

-- A format of values of type A, as data. What follows a field may depend on the values before it; places never occur.
pub data Format (A : Type 0) : Type 1 where
  -- nothing more: the value
  Done : A → Format A
  -- a field of one byte more than this, whose bytes mean a value or have a fault of some kind, and what follows for each
  -- value
  Field : {B : Type 0} → ℕ → (List ℕ → Result B ℕ) → (B → Format A) → Format A
  -- so many bytes, whatever they are
  Run : ℕ → (List ℕ → Format A) → Format A
  -- A number of four bytes, the highest one first, and so many bytes behind it, which mean a value or have a fault of some
  -- kind: one field, which begins at the number.
  Sized : {B : Type 0} → (List ℕ → Result B ℕ) → (B → Format A) → Format A
  -- the end of all bytes, else a fault of this kind
  End : ℕ → Format A → Format A

-- What bytes spell.

-- a part of so many bytes, and the rest
pub record Splits (count : ℕ) (bytes : List ℕ) (P : List ℕ → List ℕ → Type 0) : Type 0 where
  pub part : List ℕ
  pub rest : List ℕ
  pub joined : bytes ≡ part ++ rest
  pub count_is : length part ≡ count
  pub holds : P part rest

-- The bytes, all of them, spell the value.
unfoldable pub Spells : {A : Type 0} → Format A → List ℕ → A → Type 0
Spells (Done x) bytes value = (bytes ≡ []) × (value ≡ x)
Spells (Field {B} less judge next) bytes value = Splits (suc less) bytes (λ part rest. (x : B) × (judge part ≡ Ok x) × Spells (next x) rest value)
Spells (Run count next) bytes value = Splits count bytes (λ part rest. Spells (next part) rest value)
Spells (Sized {B} judge next) bytes value = Splits 4 bytes (λ size more. Splits (from_be_bytes w32 size) more (λ part rest. (x : B) × (judge part ≡ Ok x) × Spells (next x) rest value))
Spells (End kind next) bytes value = (bytes ≡ []) × Spells next [] value

-- What is wrong with bytes.

abbrev pub fault : ℕ → ℕ → Fault
fault kind offset = record { kind = kind; offset = offset }

-- The bytes from a place on have this fault: 1 where a field or run is cut short, a field's own, one that stands behind
-- it, or that of an end where bytes follow. Behind a field at fault they are read by any value that it might have had.
unfoldable pub HasFault : {A : Type 0} → Format A → List ℕ → ℕ → Fault → Type 0
HasFault (Done x) bytes at f = ⊥
HasFault (Field {B} less judge next) bytes at f =
    MatchBool (nat_lt (length bytes) (at + suc less)) (f ≡ fault 1 at)
    (MatchResult (judge (take (suc less) (drop at bytes))) (λ x. HasFault (next x) bytes (at + suc less) f) (λ kind. (f ≡ fault kind at) ⊎ ((x : B) × HasFault (next x) bytes (at + suc less) f)))
HasFault (Run count next) bytes at f =
    MatchBool (nat_lt (length bytes) (at + count)) (f ≡ fault 1 at) (HasFault (next (take count (drop at bytes))) bytes (at + count) f)
HasFault (Sized {B} judge next) bytes at f =
    let count = from_be_bytes w32 (take 4 (drop at bytes)) in
    MatchBool (nat_lt (length bytes) (at + 4)) (f ≡ fault 1 at)
    (MatchBool (nat_lt (length bytes) (at + 4 + count)) (f ≡ fault 1 at)
    (MatchResult (judge (take count (drop (at + 4) bytes))) (λ x. HasFault (next x) bytes (at + 4 + count) f) (λ kind. (f ≡ fault kind at) ⊎ ((x : B) × HasFault (next x) bytes (at + 4 + count) f))))
HasFault (End kind next) bytes at f = MatchBool (nat_eq at (length bytes)) (HasFault next bytes at f) (f ≡ fault kind at)

-- It is the first of all the faults that the bytes have.
pub record IsFirst {A : Type 0} (format : Format A) (bytes : List ℕ) (f : Fault) : Type 0 where
  pub has : HasFault format bytes 0 f
  pub least : (g : Fault) → HasFault format bytes 0 g → (g ≡ f) ⊎ (f.offset < g.offset)

-- What bytes are by a format: a value that they spell, or else their first fault.
abbrev pub Means : {A : Type 0} → Format A → List ℕ → Result A Fault → Type 0
Means format bytes (Ok value) = Spells format bytes value
Means format bytes (Err f) = IsFirst format bytes f

-- Reading from left to right, which stops at the first fault.

infixl 10 ◌and_then◌
abbrev pub ◌and_then◌ : {A B E : Type 0} → Result A E → (A → Result B E) → Result B E
(Ok x) and_then f = f x
(Err e) and_then f = Err e

-- the fault of a field that stands at a place
abbrev pub judged : {B : Type 0} → ℕ → Result B ℕ → Result B Fault
judged at (Ok x) = Ok x
judged at (Err kind) = Err (fault kind at)

-- the value that is read from a place on, and the place behind it, or the fault
unfoldable pub first : {A : Type 0} → Format A → List ℕ → ℕ → Result (A × ℕ) Fault
first (Done x) bytes at = Ok (x, at)
first (Field less judge next) bytes at = if nat_lt (length bytes) (at + suc less) then Err (fault 1 at) else (judged at (judge (take (suc less) (drop at bytes))) and_then λ x. first (next x) bytes (at + suc less))
first (Run count next) bytes at = if nat_lt (length bytes) (at + count) then Err (fault 1 at) else first (next (take count (drop at bytes))) bytes (at + count)
first (Sized judge next) bytes at =
    let count = from_be_bytes w32 (take 4 (drop at bytes)) in
    if nat_lt (length bytes) (at + 4) then Err (fault 1 at)
    else if nat_lt (length bytes) (at + 4 + count) then Err (fault 1 at)
    else (judged at (judge (take count (drop (at + 4) bytes))) and_then λ x. first (next x) bytes (at + 4 + count))
first (End kind next) bytes at = if nat_eq at (length bytes) then first next bytes at else Err (fault kind at)

-- one format, and behind it one that depends on its value
infixl 10 ◌>>=◌
unfoldable pub ◌>>=◌ : {A B : Type 0} → Format A → (A → Format B) → Format B
(Done x) >>= f = f x
(Field less judge next) >>= f = Field less judge (λ x. next x >>= f)
(Run count next) >>= f = Run count (λ x. next x >>= f)
(Sized judge next) >>= f = Sized judge (λ x. next x >>= f)
(End kind next) >>= f = End kind (next >>= f)

-- a format that is to be all of the bytes: a fault of this kind where more bytes follow
unfoldable pub whole : {A : Type 0} → ℕ → Format A → Format A
whole kind format = format >>= λ x. End kind (Done x)
