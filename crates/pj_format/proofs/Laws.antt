-- Laws of formats, with their proofs, for the crates above: reading stops at the first fault, and one format behind another
-- is read so. Nothing here defines a word, so it need not be read to know what a format means.
use Rattle.std.proofs.Common.{◌≡◌, ℕ, suc, ◌+◌, ◌<◌, ◌≤◌, ◌⊎◌, inl, inr, Bool, true, false, cond, List, length, take, drop, Result, Ok, Err, nat_lt, nat_eq, get_or, refl, sym, ◌∙◌, arith}
use Rattle.std.specs.Prelude.{MatchResult}
use Rattle.std.specs.Bool.{MatchBool}
use Rattle.std.specs.Int.{w16, w32, from_be_bytes}
use Rattle.pj_format.specs.declared.fault.Fault.{Fault}
use Rattle.pj_format.specs.Format.{Format, Done, Field, Run, Sized, End, fault, judged, ◌and_then◌, first, HasFault, ◌>>=◌, whole}
use Rattle.pj_format.specs.Fields.{u8_as, u8, u16_as, u16, u32_as, u32, sized_as, sized}

-- each fault stands at the place or behind it

cut_after : (b : Bool) (at kind : ℕ) (P : Type 0) (g : Fault) → (P → at ≤ g.offset) → MatchBool b (g ≡ fault kind at) P → at ≤ g.offset
cut_after true at kind P g more e = rw e (omega arith)
cut_after false at kind P g more h = more h

-- what a field and what is behind it have as faults
abbrev Has : {B : Type 0} → Bool → Result B ℕ → ℕ → (B → Fault → Type 0) → Fault → Type 0
Has {B} b r at P g = MatchBool b (g ≡ fault 1 at) (MatchResult r (λ x. P x g) (λ kind. (g ≡ fault kind at) ⊎ ((x : B) × P x g)))

ruled_after : {B : Type 0} (r : Result B ℕ) (at wide : ℕ) (P : B → Fault → Type 0) (g : Fault) → ((x : B) → P x g → at + wide ≤ g.offset) → Has false r at P g → at ≤ g.offset
ruled_after (Ok x) at wide P g more h = omega (arith, more x h)
ruled_after (Err kind) at wide P g more (inl e) = rw e (omega arith)
ruled_after (Err kind) at wide P g more (inr h) = omega (arith, more h.0 h.1)

end_after : (b : Bool) (at kind : ℕ) (P : Type 0) (g : Fault) → (P → at ≤ g.offset) → MatchBool b P (g ≡ fault kind at) → at ≤ g.offset
end_after true at kind P g more h = more h
end_after false at kind P g more e = rw e (omega arith)

pub is_behind : {A : Type 0} (r : Format A) (bytes : List ℕ) (at : ℕ) (g : Fault) → HasFault r bytes at g → at ≤ g.offset
unfolding HasFault
is_behind (Done x) bytes at g h = absurd h
is_behind (Field less judge next) bytes at g h =
    cut_after (nat_lt (length bytes) (at + suc less)) at 1 _ g (λ p. ruled_after (judge (take (suc less) (drop at bytes))) at (suc less) (λ x f. HasFault (next x) bytes (at + suc less) f) g (λ x q. is_behind (next x) bytes (at + suc less) g q) p) h
is_behind (Run count next) bytes at g h = cut_after (nat_lt (length bytes) (at + count)) at 1 _ g (λ p. omega (arith, is_behind (next (take count (drop at bytes))) bytes (at + count) g p)) h
is_behind (Sized judge next) bytes at g h =
    let count = from_be_bytes w32 (take 4 (drop at bytes)) in
    cut_after (nat_lt (length bytes) (at + 4)) at 1 _ g
    (λ p. cut_after (nat_lt (length bytes) (at + 4 + count)) at 1 _ g (λ q. ruled_after (judge (take count (drop (at + 4) bytes))) at (4 + count) (λ x f. HasFault (next x) bytes (at + 4 + count) f) g (λ x r. omega (arith, is_behind (next x) bytes (at + 4 + count) g r)) q) p) h
is_behind (End kind next) bytes at g h = end_after (nat_eq at (length bytes)) at kind _ g (λ p. is_behind next bytes at g p) h

-- ---- what reading stops at is the least

abbrev failed : {X : Type 0} → Fault → Result X Fault
failed f = Err f

same_fault : {X : Type 0} (f g : Fault) → failed {X = X} f ≡ failed {X = X} g → f ≡ g
same_fault f g e = cc

-- f is a fault, and each other one stands behind it
pub record IsLeast (P : Fault → Type 0) (f : Fault) : Type 0 where
  pub has : P f
  pub least : (g : Fault) → P g → (g ≡ f) ⊎ (f.offset < g.offset)

field_least : {A B : Type 0} (b : Bool) (r : Result B ℕ) (at less : ℕ) (P : B → Fault → Type 0) (read : B → Result (A × ℕ) Fault) (f : Fault)
    → ((x : B) (g : Fault) → P x g → at + suc less ≤ g.offset)
    → ((x : B) → read x ≡ Err f → IsLeast (P x) f)
    → cond b (Err (fault 1 at)) (judged at r and_then read) ≡ Err f → IsLeast (Has b r at P) f
field_least true r at less P read f behind more e =
    let is : fault 1 at ≡ f = same_fault _ _ e in
    record { has = sym is; least = λ g h. inl (h ∙ is) }
field_least false (Ok x) at less P read f behind more e = record { has = (more x e).has; least = (more x e).least }
field_least false (Err kind) at less P read f behind more e =
    let is : fault kind at ≡ f = same_fault _ _ e in
    record { has = inl (sym is); least = λ g h. elim h [ inl own ↦ inl (own ∙ is) | inr later ↦ inr (rw (← is) (omega (arith, behind later.0 g later.1))) ] }

run_least : {A : Type 0} (b : Bool) (at : ℕ) (P : Fault → Type 0) (read : Result (A × ℕ) Fault) (f : Fault)
    → (read ≡ Err f → IsLeast P f) → cond b (Err (fault 1 at)) read ≡ Err f → IsLeast (λ g. MatchBool b (g ≡ fault 1 at) (P g)) f
run_least true at P read f more e =
    let is : fault 1 at ≡ f = same_fault _ _ e in
    record { has = sym is; least = λ g h. inl (h ∙ is) }
run_least false at P read f more e = record { has = (more e).has; least = (more e).least }

end_least : {A : Type 0} (b : Bool) (at kind : ℕ) (P : Fault → Type 0) (read : Result (A × ℕ) Fault) (f : Fault) → (read ≡ Err f → IsLeast P f) → cond b read (Err (fault kind at)) ≡ Err f → IsLeast (λ g. MatchBool b (P g) (g ≡ fault kind at)) f
end_least true at kind P read f more e = record { has = (more e).has; least = (more e).least }
end_least false at kind P read f more e =
    let is : fault kind at ≡ f = same_fault _ _ e in
    record { has = sym is; least = λ g h. inl (h ∙ is) }

pub stops_at_least : {A : Type 0} (r : Format A) (bytes : List ℕ) (at : ℕ) (f : Fault) → first r bytes at ≡ Err f → IsLeast (HasFault r bytes at) f
unfolding first HasFault
stops_at_least (Done x) bytes at f e = absurd cc
stops_at_least (Field less judge next) bytes at f e =
    field_least (nat_lt (length bytes) (at + suc less)) (judge (take (suc less) (drop at bytes))) at less (λ x g. HasFault (next x) bytes (at + suc less) g) (λ x. first (next x) bytes (at + suc less)) f
    (λ x g h. is_behind (next x) bytes (at + suc less) g h) (λ x h. stops_at_least (next x) bytes (at + suc less) f h) e
stops_at_least (Run count next) bytes at f e =
    run_least (nat_lt (length bytes) (at + count)) at (HasFault (next (take count (drop at bytes))) bytes (at + count)) (first (next (take count (drop at bytes))) bytes (at + count)) f
    (λ h. stops_at_least (next (take count (drop at bytes))) bytes (at + count) f h) e
stops_at_least {A} (Sized judge next) bytes at f e =
    let count = from_be_bytes w32 (take 4 (drop at bytes)) in
    let cut = nat_lt (length bytes) (at + 4 + count) in
    let judgement = judge (take count (drop (at + 4) bytes)) in
    run_least (nat_lt (length bytes) (at + 4)) at (Has cut judgement at (λ x g. HasFault (next x) bytes (at + 4 + count) g)) (cond cut (Err (fault 1 at)) (judged at judgement and_then λ x. first (next x) bytes (at + 4 + count))) f
    (λ p. field_least cut judgement at (3 + count) (λ x g. HasFault (next x) bytes (at + 4 + count) g) (λ x. first (next x) bytes (at + 4 + count)) f
    (λ x g h. omega (arith, is_behind (next x) bytes (at + 4 + count) g h)) (λ x h. stops_at_least (next x) bytes (at + 4 + count) f h) p) e
stops_at_least (End kind next) bytes at f e = end_least (nat_eq at (length bytes)) at kind (HasFault next bytes at) (first next bytes at) f (λ h. stops_at_least next bytes at f h) e

-- ---- what is read to its end has no fault

field_none : {A B : Type 0} (b : Bool) (r : Result B ℕ) (at : ℕ) (P : B → Fault → Type 0) (read : B → Result (A × ℕ) Fault) (y : A × ℕ) (g : Fault)
    → ((x : B) → read x ≡ Ok y → P x g → ⊥) → cond b (Err (fault 1 at)) (judged at r and_then read) ≡ Ok y → Has b r at P g → ⊥
field_none true r at P read y g more e h = absurd cc
field_none false (Ok x) at P read y g more e h = more x e h
field_none false (Err kind) at P read y g more e h = absurd cc

run_none : {A : Type 0} (b : Bool) (at : ℕ) (P : Type 0) (read : Result (A × ℕ) Fault) (y : A × ℕ) (g : Fault) → (read ≡ Ok y → P → ⊥) → cond b (Err (fault 1 at)) read ≡ Ok y → MatchBool b (g ≡ fault 1 at) P → ⊥
run_none true at P read y g more e h = absurd cc
run_none false at P read y g more e h = more e h

end_none : {A : Type 0} (b : Bool) (at kind : ℕ) (P : Type 0) (read : Result (A × ℕ) Fault) (y : A × ℕ) (g : Fault) → (read ≡ Ok y → P → ⊥) → cond b read (Err (fault kind at)) ≡ Ok y → MatchBool b P (g ≡ fault kind at) → ⊥
end_none true at kind P read y g more e h = more e h
end_none false at kind P read y g more e h = absurd cc

pub has_none : {A : Type 0} (r : Format A) (bytes : List ℕ) (at : ℕ) (y : A × ℕ) (g : Fault) → first r bytes at ≡ Ok y → HasFault r bytes at g → ⊥
unfolding first HasFault
has_none (Done x) bytes at y g e h = h
has_none (Field less judge next) bytes at y g e h =
    field_none (nat_lt (length bytes) (at + suc less)) (judge (take (suc less) (drop at bytes))) at (λ x f. HasFault (next x) bytes (at + suc less) f) (λ x. first (next x) bytes (at + suc less)) y g
    (λ x p q. has_none (next x) bytes (at + suc less) y g p q) e h
has_none (Run count next) bytes at y g e h =
    run_none (nat_lt (length bytes) (at + count)) at _ (first (next (take count (drop at bytes))) bytes (at + count)) y g (λ p q. has_none (next (take count (drop at bytes))) bytes (at + count) y g p q) e h
has_none (Sized judge next) bytes at y g e h =
    let count = from_be_bytes w32 (take 4 (drop at bytes)) in
    let cut = nat_lt (length bytes) (at + 4 + count) in
    let judgement = judge (take count (drop (at + 4) bytes)) in
    run_none (nat_lt (length bytes) (at + 4)) at _ (cond cut (Err (fault 1 at)) (judged at judgement and_then λ x. first (next x) bytes (at + 4 + count))) y g
    (λ p q. field_none cut judgement at (λ x f. HasFault (next x) bytes (at + 4 + count) f) (λ x. first (next x) bytes (at + 4 + count)) y g
    (λ x r s. has_none (next x) bytes (at + 4 + count) y g r s) p q) e h
has_none (End kind next) bytes at y g e h = end_none (nat_eq at (length bytes)) at kind _ (first next bytes at) y g (λ p q. has_none next bytes at y g p q) e h

-- ---- one format after the other is read one after the other

then_field : {A B C : Type 0} (b : Bool) (f : Fault) (r : Result C Fault) (read : C → Result (A × ℕ) Fault) (more : (A × ℕ) → Result B Fault) (whole : C → Result B Fault)
    → ((x : C) → whole x ≡ (read x and_then more)) → cond b (Err f) (r and_then whole) ≡ (cond b (Err f) (r and_then read) and_then more)
then_field true f r read more whole same = refl
then_field false f (Ok x) read more whole same = same x
then_field false f (Err e) read more whole same = refl

then_run : {A B : Type 0} (b : Bool) (f : Fault) (read : Result (A × ℕ) Fault) (more : (A × ℕ) → Result B Fault) (whole : Result B Fault)
    → whole ≡ (read and_then more) → cond b (Err f) whole ≡ (cond b (Err f) read and_then more)
then_run true f read more whole same = refl
then_run false f read more whole same = same

then_end : {A B : Type 0} (b : Bool) (f : Fault) (read : Result (A × ℕ) Fault) (more : (A × ℕ) → Result B Fault) (whole : Result B Fault)
    → whole ≡ (read and_then more) → cond b whole (Err f) ≡ (cond b read (Err f) and_then more)
then_end true f read more whole same = same
then_end false f read more whole same = refl

pub first_then : {A B : Type 0} (r : Format A) (f : A → Format B) (bytes : List ℕ) (at : ℕ) → first (r >>= f) bytes at ≡ (first r bytes at and_then λ x. first (f x.0) bytes x.1)
unfolding first ◌>>=◌
first_then (Done x) f bytes at = refl
first_then (Field less judge next) f bytes at =
    then_field (nat_lt (length bytes) (at + suc less)) (fault 1 at) (judged at (judge (take (suc less) (drop at bytes)))) (λ x. first (next x) bytes (at + suc less)) (λ x. first (f x.0) bytes x.1) (λ x. first (next x >>= f) bytes (at + suc less))
    (λ x. first_then (next x) f bytes (at + suc less))
first_then (Run count next) f bytes at = then_run (nat_lt (length bytes) (at + count)) (fault 1 at) (first (next (take count (drop at bytes))) bytes (at + count)) (λ x. first (f x.0) bytes x.1) _ (first_then (next (take count (drop at bytes))) f bytes (at + count))
first_then (Sized judge next) f bytes at =
    let count = from_be_bytes w32 (take 4 (drop at bytes)) in
    let cut = nat_lt (length bytes) (at + 4 + count) in
    let judgement = judge (take count (drop (at + 4) bytes)) in
    then_run (nat_lt (length bytes) (at + 4)) (fault 1 at) (cond cut (Err (fault 1 at)) (judged at judgement and_then λ x. first (next x) bytes (at + 4 + count))) (λ x. first (f x.0) bytes x.1) _
    (then_field cut (fault 1 at) (judged at judgement) (λ x. first (next x) bytes (at + 4 + count)) (λ x. first (f x.0) bytes x.1) (λ x. first (next x >>= f) bytes (at + 4 + count))
    (λ x. first_then (next x) f bytes (at + 4 + count)))
first_then (End kind next) f bytes at = then_end (nat_eq at (length bytes)) (fault kind at) (first next bytes at) (λ x. first (f x.0) bytes x.1) _ (first_then next f bytes at)

pub first_done : {A : Type 0} (x : A) (bytes : List ℕ) (at : ℕ) → first (Done x) bytes at ≡ Ok (x, at)
unfolding first
first_done x bytes at = refl

abbrev read_as : {X : Type 0} → X → ℕ → Result (X × ℕ) Fault
read_as x after = Ok (x, after)

as_field : {B : Type 0} (b : Bool) (f : Fault) (at after n : ℕ) (judge : ℕ → Result B ℕ) → cond b (Err f) (judged at (judge n) and_then λ x. read_as x after) ≡ (cond b (Err f) (read_as n after) and_then λ x. judged at (judge x.0) and_then λ y. read_as y x.1)
as_field true f at after n judge = refl
as_field false f at after n judge = refl

pub first_u16_as : {B : Type 0} (judge : ℕ → Result B ℕ) (bytes : List ℕ) (at : ℕ) → first (u16_as judge) bytes at ≡ (first u16 bytes at and_then λ x. judged at (judge x.0) and_then λ y. Ok (y, x.1))
unfolding first u16_as u16
first_u16_as judge bytes at = as_field (nat_lt (length bytes) (at + 2)) (fault 1 at) at (at + 2) (from_be_bytes w16 (take 2 (drop at bytes))) judge

pub first_u32_as : {B : Type 0} (judge : ℕ → Result B ℕ) (bytes : List ℕ) (at : ℕ) → first (u32_as judge) bytes at ≡ (first u32 bytes at and_then λ x. judged at (judge x.0) and_then λ y. Ok (y, x.1))
unfolding first u32_as u32
first_u32_as judge bytes at = as_field (nat_lt (length bytes) (at + 4)) (fault 1 at) at (at + 4) (from_be_bytes w32 (take 4 (drop at bytes))) judge

pub first_u8_as : {B : Type 0} (judge : ℕ → Result B ℕ) (bytes : List ℕ) (at : ℕ) → first (u8_as judge) bytes at ≡ (first u8 bytes at and_then λ x. judged at (judge x.0) and_then λ y. Ok (y, x.1))
unfolding first u8_as u8
first_u8_as judge bytes at = as_field (nat_lt (length bytes) (at + 1)) (fault 1 at) at (at + 1) (get_or (take 1 (drop at bytes)) 0 0) judge

as_sized : {B : Type 0} (b c : Bool) (f : Fault) (at after : ℕ) (n : List ℕ) (judge : List ℕ → Result B ℕ)
    → cond b (Err f) (cond c (Err f) (judged at (judge n) and_then λ x. read_as x after)) ≡ (cond b (Err f) (cond c (Err f) (read_as n after)) and_then λ x. judged at (judge x.0) and_then λ y. read_as y x.1)
as_sized true c f at after n judge = refl
as_sized false true f at after n judge = refl
as_sized false false f at after n judge = refl

pub first_sized_as : {B : Type 0} (judge : List ℕ → Result B ℕ) (bytes : List ℕ) (at : ℕ) → first (sized_as judge) bytes at ≡ (first sized bytes at and_then λ x. judged at (judge x.0) and_then λ y. Ok (y, x.1))
unfolding first sized_as sized
first_sized_as judge bytes at =
    let count = from_be_bytes w32 (take 4 (drop at bytes)) in
    as_sized (nat_lt (length bytes) (at + 4)) (nat_lt (length bytes) (at + 4 + count)) (fault 1 at) at (at + 4 + count) (take count (drop (at + 4) bytes)) judge

pub first_end : {A : Type 0} (kind : ℕ) (next : Format A) (bytes : List ℕ) (at : ℕ) → first (End kind next) bytes at ≡ cond (nat_eq at (length bytes)) (first next bytes at) (Err (fault kind at))
unfolding first
first_end kind next bytes at = refl

pub ruleset reads = (arith, first_end, first_then, first_done, first_u16_as, first_u32_as, first_u8_as, first_sized_as)
