-- Laws of spelling, with their proofs, for the crates above: bytes spell a value exactly where reading gives it and ends
-- where they end. So what bytes mean by a format is one thing, and by a format that is to be all of them there is always
-- one. Nothing here defines a word.
use Rattle.std.proofs.Common.{◌≡◌, ℕ, suc, ◌+◌, ◌-◌, ◌<◌, ◌≤◌, ◌⊎◌, inl, inr, Bool, true, false, cond, List, [], ◌++◌, length, take, drop, Result, Ok, Err, nat_lt, nat_eq, refl, sym, ap, subst, ◌∙◌, arith}
use Rattle.std.proofs.Math.ListN.{drop_of_length-le}
use Rattle.std.proofs.lemmas.Bool.{ltb-false, le-ltb, eqb-true, eq-eqb}
use Rattle.std.proofs.lemmas.List.{length-append, length-drop, length-take-le, take-append-drop, drop-drop, take_at, drop_at}
use Rattle.std.specs.Int.{w32, from_be_bytes}
use Rattle.pj_format.specs.declared.fault.Fault.{Fault}
use Rattle.pj_format.specs.Format.{Format, Done, Field, Run, Sized, End, Spells, fault, judged, ◌and_then◌, first, IsFirst, Means, whole}
use Rattle.pj_format.proofs.Laws.{first_then, stops_at_least, has_none}

-- A list from a place on, in two parts.

pub record Cut (count at : ℕ) (bytes part rest : List ℕ) : Type 0 where
  pub fits : at + count ≤ length bytes
  pub part_is : take count (drop at bytes) ≡ part
  pub rest_is : drop (at + count) bytes ≡ rest

cut_at : (count at : ℕ) (bytes part rest : List ℕ) → at ≤ length bytes → drop at bytes ≡ part ++ rest → length part ≡ count → Cut count at bytes part rest
cut_at count at bytes part rest within is long =
    let lengths : length bytes - at ≡ length part + length rest = sym (length-drop at bytes) ∙ ap length is ∙ length-append part rest in
    record {
      fits = omega (arith, lengths, long);
      part_is = ap (take count) is ∙ take_at part rest count long;
      rest_is = sym (drop-drop count at bytes) ∙ ap (drop count) is ∙ drop_at part rest count long;
    }

joined_at : (count at : ℕ) (bytes : List ℕ) → drop at bytes ≡ take count (drop at bytes) ++ drop (at + count) bytes
joined_at count at bytes = sym (take-append-drop count (drop at bytes)) ∙ ap (λ (l : List ℕ). take count (drop at bytes) ++ l) (drop-drop count at bytes)

long_at : (count at : ℕ) (bytes : List ℕ) → at + count ≤ length bytes → length (take count (drop at bytes)) ≡ count
long_at count at bytes fits =
    let lengths : length (drop at bytes) ≡ length bytes - at = length-drop at bytes in
    length-take-le count (drop at bytes) (omega (arith, lengths, fits))

none_left : (at : ℕ) (bytes : List ℕ) → at ≤ length bytes → drop at bytes ≡ [] → at ≡ length bytes
none_left at bytes within is =
    let lengths : length bytes - at ≡ length (drop at bytes) = sym (length-drop at bytes) in
    let none : length (drop at bytes) ≡ 0 = ap length is in
    omega (arith, lengths, none, within)

-- What is spelled is read.

field_reads : {A B : Type 0} (b : Bool) (r : Result B ℕ) (at : ℕ) (f : Fault) (read : B → Result (A × ℕ) Fault) (x : B) (y : A × ℕ) → b ≡ false → r ≡ Ok x → read x ≡ Ok y → cond b (Err f) (judged at r and_then read) ≡ Ok y
field_reads b r at f read x y fits is reads = rw (fits, is) reads

pub spelled_is_read : {A : Type 0} (r : Format A) (bytes : List ℕ) (at : ℕ) (y : A) → at ≤ length bytes → Spells r (drop at bytes) y → first r bytes at ≡ Ok (y, length bytes)
unfolding Spells first
spelled_is_read (Done x) bytes at y within h =
    let end = none_left at bytes within h.0 in cc
spelled_is_read {A} (Field {B} less judge next) bytes at y within h =
    let cut = cut_at (suc less) at bytes h.part h.rest within h.joined h.count_is in
    let x : B = h.holds.0 in
    field_reads (nat_lt (length bytes) (at + suc less)) (judge (take (suc less) (drop at bytes))) at (fault 1 at) (λ v. first (next v) bytes (at + suc less)) x (y, length bytes)
    (le-ltb (length bytes) (at + suc less) cut.fits)
    (ap judge cut.part_is ∙ h.holds.1)
    (spelled_is_read (next x) bytes (at + suc less) y cut.fits (subst (λ l. Spells (next x) l y) (sym cut.rest_is) h.holds.2))
spelled_is_read (Run count next) bytes at y within h =
    let cut = cut_at count at bytes h.part h.rest within h.joined h.count_is in
    let part = take count (drop at bytes) in
    let spelled : Spells (next part) (drop (at + count) bytes) y = subst (λ p. Spells (next p) (drop (at + count) bytes) y) (sym cut.part_is) (subst (λ l. Spells (next h.part) l y) (sym cut.rest_is) h.holds) in
    rw (le-ltb (length bytes) (at + count) cut.fits) (spelled_is_read (next part) bytes (at + count) y cut.fits spelled)
spelled_is_read {A} (Sized {B} judge next) bytes at y within h =
    let size = cut_at 4 at bytes h.part h.rest within h.joined h.count_is in
    let inner = h.holds in
    let count = from_be_bytes w32 (take 4 (drop at bytes)) in
    let same : from_be_bytes w32 h.part ≡ count = ap (from_be_bytes w32) (sym size.part_is) in
    let cut = cut_at count (at + 4) bytes inner.part inner.rest size.fits (size.rest_is ∙ inner.joined) (inner.count_is ∙ same) in
    let x : B = inner.holds.0 in
    rw (le-ltb (length bytes) (at + 4) size.fits)
    (field_reads (nat_lt (length bytes) (at + 4 + count)) (judge (take count (drop (at + 4) bytes))) at (fault 1 at) (λ v. first (next v) bytes (at + 4 + count)) x (y, length bytes)
    (le-ltb (length bytes) (at + 4 + count) cut.fits)
    (ap judge cut.part_is ∙ inner.holds.1)
    (spelled_is_read (next x) bytes (at + 4 + count) y cut.fits (subst (λ l. Spells (next x) l y) (sym cut.rest_is) inner.holds.2)))
spelled_is_read (End kind next) bytes at y within h =
    let end = none_left at bytes within h.0 in
    let spelled : Spells next (drop at bytes) y = subst (λ l. Spells next l y) (sym h.0) h.1 in
    rw (eq-eqb at (length bytes) end) (spelled_is_read next bytes at y within spelled)

-- What is read to the end of the bytes is spelled.

pub record FieldRead {A B : Type 0} (b : Bool) (r : Result B ℕ) (read : B → Result (A × ℕ) Fault) (y : A × ℕ) : Type 0 where
  pub fits : b ≡ false
  pub value : B
  pub is : r ≡ Ok value
  pub reads : read value ≡ Ok y

field_read : {A B : Type 0} (b : Bool) (r : Result B ℕ) (at : ℕ) (f : Fault) (read : B → Result (A × ℕ) Fault) (y : A × ℕ) → cond b (Err f) (judged at r and_then read) ≡ Ok y → FieldRead b r read y
field_read true r at f read y e = absurd cc
field_read false (Ok x) at f read y e = record { fits = refl; value = x; is = refl; reads = e }
field_read false (Err kind) at f read y e = absurd cc

pub record PartRead {A : Type 0} (b test : Bool) (read : Result (A × ℕ) Fault) (y : A × ℕ) : Type 0 where
  pub holds : b ≡ test
  pub reads : read ≡ Ok y

run_read : {A : Type 0} (b : Bool) (f : Fault) (read : Result (A × ℕ) Fault) (y : A × ℕ) → cond b (Err f) read ≡ Ok y → PartRead b false read y
run_read true f read y e = absurd cc
run_read false f read y e = record { holds = refl; reads = e }

end_read : {A : Type 0} (b : Bool) (f : Fault) (read : Result (A × ℕ) Fault) (y : A × ℕ) → cond b read (Err f) ≡ Ok y → PartRead b true read y
end_read true f read y e = record { holds = refl; reads = e }
end_read false f read y e = absurd cc

all_dropped : (at : ℕ) (bytes : List ℕ) → nat_eq at (length bytes) ≡ true → drop at bytes ≡ []
all_dropped at bytes e =
    let end : at ≡ length bytes = eqb-true at (length bytes) e in drop_of_length-le bytes (omega (arith, end))

abbrev read_as : {A : Type 0} → A × ℕ → Result (A × ℕ) Fault
read_as x = Ok x

same_read : {A : Type 0} (x y : A × ℕ) → read_as x ≡ read_as y → x ≡ y
same_read x y e = cc

pub read_is_spelled : {A : Type 0} (r : Format A) (bytes : List ℕ) (at : ℕ) (y : A) → first r bytes at ≡ Ok (y, length bytes) → Spells r (drop at bytes) y
unfolding Spells first
read_is_spelled (Done x) bytes at y e =
    let same = same_read (x, at) (y, length bytes) e in
    let end : at ≡ length bytes = ap (λ z. z.1) same in
    (drop_of_length-le bytes (omega (arith, end)), ap (λ z. z.0) (sym same))
read_is_spelled {A} (Field {B} less judge next) bytes at y e =
    let read = field_read (nat_lt (length bytes) (at + suc less)) (judge (take (suc less) (drop at bytes))) at (fault 1 at) (λ v. first (next v) bytes (at + suc less)) (y, length bytes) e in
    record {
      part = take (suc less) (drop at bytes);
      rest = drop (at + suc less) bytes;
      joined = joined_at (suc less) at bytes;
      count_is = long_at (suc less) at bytes (ltb-false (length bytes) (at + suc less) read.fits);
      holds = (read.value, read.is, read_is_spelled (next read.value) bytes (at + suc less) y read.reads);
    }
read_is_spelled (Run count next) bytes at y e =
    let read = run_read (nat_lt (length bytes) (at + count)) (fault 1 at) (first (next (take count (drop at bytes))) bytes (at + count)) (y, length bytes) e in
    record {
      part = take count (drop at bytes);
      rest = drop (at + count) bytes;
      joined = joined_at count at bytes;
      count_is = long_at count at bytes (ltb-false (length bytes) (at + count) read.holds);
      holds = read_is_spelled (next (take count (drop at bytes))) bytes (at + count) y read.reads;
    }
read_is_spelled {A} (Sized {B} judge next) bytes at y e =
    let count = from_be_bytes w32 (take 4 (drop at bytes)) in
    let cut = nat_lt (length bytes) (at + 4 + count) in
    let judgement = judge (take count (drop (at + 4) bytes)) in
    let size = run_read (nat_lt (length bytes) (at + 4)) (fault 1 at) (cond cut (Err (fault 1 at)) (judged at judgement and_then λ x. first (next x) bytes (at + 4 + count))) (y, length bytes) e in
    let read = field_read cut judgement at (fault 1 at) (λ v. first (next v) bytes (at + 4 + count)) (y, length bytes) size.reads in
    record {
      part = take 4 (drop at bytes);
      rest = drop (at + 4) bytes;
      joined = joined_at 4 at bytes;
      count_is = long_at 4 at bytes (ltb-false (length bytes) (at + 4) size.holds);
      holds = record {
        part = take count (drop (at + 4) bytes);
        rest = drop (at + 4 + count) bytes;
        joined = joined_at count (at + 4) bytes;
        count_is = long_at count (at + 4) bytes (ltb-false (length bytes) (at + 4 + count) read.fits);
        holds = (read.value, read.is, read_is_spelled (next read.value) bytes (at + 4 + count) y read.reads);
      };
    }
read_is_spelled (End kind next) bytes at y e =
    let read = end_read (nat_eq at (length bytes)) (fault kind at) (first next bytes at) (y, length bytes) e in
    let none = all_dropped at bytes read.holds in
    (none, subst (λ l. Spells next l y) none (read_is_spelled next bytes at y read.reads))

-- What bytes mean is one thing.

fault_or : {A : Type 0} (format : Format A) (bytes : List ℕ) (x : A) (f : Fault) → Spells format bytes x → IsFirst format bytes f → ⊥
fault_or format bytes x f spells is_first = has_none format bytes 0 (x, length bytes) f (spelled_is_read format bytes 0 x (omega arith) spells) is_first.has

one_fault : (f g : Fault) → (g ≡ f) ⊎ (f.offset < g.offset) → (f ≡ g) ⊎ (g.offset < f.offset) → f ≡ g
one_fault f g (inl e) b = sym e
one_fault f g (inr before) (inl e) = e
one_fault f g (inr before) (inr behind) = absurd (omega arith)

pub means_one : {A : Type 0} (format : Format A) (bytes : List ℕ) (r s : Result A Fault) → Means format bytes r → Means format bytes s → r ≡ s
means_one format bytes (Ok x) (Ok y) h k =
    let both = sym (spelled_is_read format bytes 0 x (omega arith) h) ∙ spelled_is_read format bytes 0 y (omega arith) k in
    let same = same_read (x, length bytes) (y, length bytes) both in
    ap (λ z. Ok z) (ap (λ z. z.0) same)
means_one format bytes (Ok x) (Err g) h k = absurd (fault_or format bytes x g h k)
means_one format bytes (Err f) (Ok y) h k = absurd (fault_or format bytes y f k h)
means_one format bytes (Err f) (Err g) h k = ap (λ z. Err z) (one_fault f g (h.least g k.has) (k.least f h.has))

-- By a format that is to be all of the bytes, they always mean something: what reading gives.

ends_whole : {A : Type 0} (b : Bool) (x y : A × ℕ) (f : Fault) (l : ℕ) → nat_eq x.1 l ≡ b → cond b (read_as x) (Err f) ≡ Ok y → y.1 ≡ l
ends_whole true x y f l test e =
    let same = same_read x y e in sym (ap (λ z. z.1) same) ∙ eqb-true x.1 l test
ends_whole false x y f l test e = absurd cc

abbrev end_of : {A : Type 0} → ℕ → List ℕ → A × ℕ → Result (A × ℕ) Fault
end_of kind bytes x = cond (nat_eq x.1 (length bytes)) (Ok x) (Err (fault kind x.1))

whole_is : {A : Type 0} (kind : ℕ) (format : Format A) (bytes : List ℕ) → first (whole kind format) bytes 0 ≡ (first format bytes 0 and_then end_of kind bytes)
unfolding whole first
whole_is kind format bytes = first_then format (λ x. End kind (Done x)) bytes 0

then_ends : {A : Type 0} (kind : ℕ) (bytes : List ℕ) (r : Result (A × ℕ) Fault) (y : A × ℕ) → (r and_then end_of kind bytes) ≡ Ok y → y.1 ≡ length bytes
then_ends kind bytes (Ok x) y e = ends_whole (nat_eq x.1 (length bytes)) x y (fault kind x.1) (length bytes) refl e
then_ends kind bytes (Err f) y e = absurd cc

pub whole_ends : {A : Type 0} (kind : ℕ) (format : Format A) (bytes : List ℕ) (y : A × ℕ) → first (whole kind format) bytes 0 ≡ Ok y → y.1 ≡ length bytes
whole_ends kind format bytes y e = then_ends kind bytes (first format bytes 0) y (sym (whole_is kind format bytes) ∙ e)

-- the value alone, without the place behind it
abbrev pub value_read : {A : Type 0} → Result (A × ℕ) Fault → Result A Fault
value_read read = read and_then λ x. Ok x.0

pub read_means : {A : Type 0} (kind : ℕ) (format : Format A) (bytes : List ℕ) (r : Result (A × ℕ) Fault) → first (whole kind format) bytes 0 ≡ r → Means (whole kind format) bytes (value_read r)
read_means kind format bytes (Ok y) e =
    let end = whole_ends kind format bytes y e in
    let there : first (whole kind format) bytes 0 ≡ Ok (y.0, length bytes) = e ∙ ap (λ n. read_as (y.0, n)) end in
    read_is_spelled (whole kind format) bytes 0 y.0 there
read_means kind format bytes (Err f) e =
    let l = stops_at_least (whole kind format) bytes 0 f e in record { has = l.has; least = l.least }

pub whole_means : {A : Type 0} (kind : ℕ) (format : Format A) (bytes : List ℕ) → (r : Result A Fault) × Means (whole kind format) bytes r
whole_means kind format bytes = (value_read (first (whole kind format) bytes 0), read_means kind format bytes (first (whole kind format) bytes 0) refl)
