-- Laws of formats whose values have one text: bytes spell a value by such a format exactly where they are its text and it fits.
-- From the laws of parts follows that of what is made of them. Nothing here defines a word of a contract.
use Rattle.std.proofs.Common.{inl, inr, ◌≡◌, ℕ, zero, suc, ◌+◌, ◌<◌, ◌^◌, Bool, true, false, cond, List, [], ◌∷◌, ◌++◌, length, take, drop, get_or, Result, Ok, refl, sym, ap, subst, ◌∙◌, append_assoc, arith}
use Rattle.std.proofs.lemmas.Bool.{cases_lt}
use Rattle.std.proofs.lemmas.List.{append-nil, length-append, length-take, get_or-take, get_or-drop, get_or_past, take_at, drop_at, nil_from_length}
use Rattle.std.proofs.lemmas.Nat.{be_bytes_2, be_bytes_4, from_be_bytes-to_be_bytes_2, from_be_bytes-to_be_bytes_4}
use Rattle.std.specs.List.{flat_map, AllByRecursion}
use Rattle.std.proofs.lemmas.List.Concat.{flat_map-cons}
use Rattle.std.specs.Int.{w16, w32, from_be_bytes, to_be_bytes}
use Rattle.pj_format.specs.Format.{Format, Done, Field, Run, Sized, End, Spells, ◌>>=◌}
use Rattle.pj_format.specs.Fields.{u8_as, u16_as, u32_as, sized_as, several, several_from, each, Chain, Along}

-- ---- bytes

abbrev pub IsBytes : List ℕ → Type 0
IsBytes bytes = (i : ℕ) → get_or bytes i 0 < 256

left_of : (part rest : List ℕ) → take (length part) (part ++ rest) ≡ part
left_of part rest = take_at part rest (length part) refl

right_of : (part rest : List ℕ) → drop (length part) (part ++ rest) ≡ rest
right_of part rest = drop_at part rest (length part) refl

pub bytes_drop : (n : ℕ) (bytes : List ℕ) → IsBytes bytes → IsBytes (drop n bytes)
bytes_drop n bytes h i = rw get_or-drop (h (n + i))

pub bytes_take : (n : ℕ) (bytes : List ℕ) → IsBytes bytes → IsBytes (take n bytes)
bytes_take n bytes h i =
    elim (cases_lt i n) [
      | inl lt ↦ rw (get_or-take n bytes i 0 lt) (h i)
      | inr le ↦ rw (get_or_past (take n bytes) i 0 (omega (arith, length-take n bytes))) (omega arith)
    ]

pub bytes_left : (part rest : List ℕ) → IsBytes (part ++ rest) → IsBytes part
bytes_left part rest h = subst IsBytes (left_of part rest) (bytes_take (length part) (part ++ rest) h)

pub bytes_right : (part rest : List ℕ) → IsBytes (part ++ rest) → IsBytes rest
bytes_right part rest h = subst IsBytes (right_of part rest) (bytes_drop (length part) (part ++ rest) h)

-- ---- one format behind another

-- the bytes of both, cut between them
pub record Both {A B : Type 0} (m : Format A) (f : A → Format B) (bytes : List ℕ) (y : B) : Type 0 where
  pub value : A
  pub part : List ℕ
  pub rest : List ℕ
  pub joined : bytes ≡ part ++ rest
  pub first_is : Spells m part value
  pub second_is : Spells (f value) rest y

nil_left : (part rest : List ℕ) → [] ≡ part ++ rest → part ≡ []
nil_left part rest e =
    let none : 0 ≡ length part + length rest = ap length e ∙ length-append part rest in
    nil_from_length part (omega (arith, none))

pub spells_then : {A B : Type 0} (m : Format A) (f : A → Format B) (bytes : List ℕ) (y : B) → Spells (m >>= f) bytes y → Both m f bytes y
unfolding Spells ◌>>=◌
spells_then (Done x) f bytes y h = record { value = x; part = []; rest = bytes; joined = refl; first_is = (refl, refl); second_is = h }
spells_then {A} {B} (Field {B = C} less judge next) f bytes y h =
    let x : C = h.holds.0 in
    let more = spells_then (next x) f h.rest y h.holds.2 in
    record {
      value = more.value;
      part = h.part ++ more.part;
      rest = more.rest;
      joined = h.joined ∙ ap (λ (l : List ℕ). h.part ++ l) more.joined ∙ sym (append_assoc h.part more.part more.rest);
      first_is = record { part = h.part; rest = more.part; joined = refl; count_is = h.count_is; holds = (x, h.holds.1, more.first_is) };
      second_is = more.second_is;
    }
spells_then (Run count next) f bytes y h =
    let more = spells_then (next h.part) f h.rest y h.holds in
    record {
      value = more.value;
      part = h.part ++ more.part;
      rest = more.rest;
      joined = h.joined ∙ ap (λ (l : List ℕ). h.part ++ l) more.joined ∙ sym (append_assoc h.part more.part more.rest);
      first_is = record { part = h.part; rest = more.part; joined = refl; count_is = h.count_is; holds = more.first_is };
      second_is = more.second_is;
    }
spells_then {A} {B} (Sized {B = C} judge next) f bytes y h =
    let inner = h.holds in
    let x : C = inner.holds.0 in
    let more = spells_then (next x) f inner.rest y inner.holds.2 in
    record {
      value = more.value;
      part = h.part ++ (inner.part ++ more.part);
      rest = more.rest;
      joined = h.joined ∙ ap (λ (l : List ℕ). h.part ++ l) (inner.joined ∙ ap (λ (l : List ℕ). inner.part ++ l) more.joined ∙ sym (append_assoc inner.part more.part more.rest)) ∙ sym (append_assoc h.part (inner.part ++ more.part) more.rest);
      first_is = record { part = h.part; rest = inner.part ++ more.part; joined = refl; count_is = h.count_is; holds = record { part = inner.part; rest = more.part; joined = refl; count_is = inner.count_is; holds = (x, inner.holds.1, more.first_is) } };
      second_is = more.second_is;
    }
spells_then (End kind next) f bytes y h =
    let more = spells_then next f [] y h.1 in
    let none = nil_left more.part more.rest more.joined in
    record {
      value = more.value;
      part = [];
      rest = more.rest;
      joined = h.0 ∙ more.joined ∙ ap (λ (l : List ℕ). l ++ more.rest) none;
      first_is = (refl, subst (λ (l : List ℕ). Spells next l more.value) none more.first_is);
      second_is = more.second_is;
    }

-- a format without an end of all bytes: something may stand behind it
unfoldable pub IsOpen : {A : Type 0} → Format A → Type 0
IsOpen (Done x) = Unit {0}
IsOpen (Field {B = C} less judge next) = (x : C) → IsOpen (next x)
IsOpen (Run count next) = (part : List ℕ) → IsOpen (next part)
IsOpen (Sized {B = C} judge next) = (x : C) → IsOpen (next x)
IsOpen (End kind next) = ⊥

pub open_then : {A B : Type 0} (m : Format A) (f : A → Format B) → IsOpen m → ((x : A) → IsOpen (f x)) → IsOpen (m >>= f)
unfolding IsOpen ◌>>=◌
open_then (Done x) f h k = k x
open_then (Field less judge next) f h k = λ x. open_then (next x) f (h x) k
open_then (Run count next) f h k = λ part. open_then (next part) f (h part) k
open_then (Sized judge next) f h k = λ x. open_then (next x) f (h x) k
open_then (End kind next) f h k = absurd h

pub then_spells : {A B : Type 0} (m : Format A) (f : A → Format B) (part rest : List ℕ) (x : A) (y : B) → IsOpen m → Spells m part x → Spells (f x) rest y → Spells (m >>= f) (part ++ rest) y
unfolding Spells ◌>>=◌ IsOpen
then_spells (Done x) f part rest z y o h k =
    let here : Spells (f x) rest y = subst (λ v. Spells (f v) rest y) h.1 k in
    subst (λ (l : List ℕ). Spells (f x) (l ++ rest) y) (sym h.0) here
then_spells (Field less judge next) f part rest z y o h k =
    record {
      part = h.part;
      rest = h.rest ++ rest;
      joined = ap (λ (l : List ℕ). l ++ rest) h.joined ∙ append_assoc h.part h.rest rest;
      count_is = h.count_is;
      holds = (h.holds.0, h.holds.1, then_spells (next h.holds.0) f h.rest rest z y (o h.holds.0) h.holds.2 k);
    }
then_spells (Run count next) f part rest z y o h k =
    record {
      part = h.part;
      rest = h.rest ++ rest;
      joined = ap (λ (l : List ℕ). l ++ rest) h.joined ∙ append_assoc h.part h.rest rest;
      count_is = h.count_is;
      holds = then_spells (next h.part) f h.rest rest z y (o h.part) h.holds k;
    }
then_spells (Sized judge next) f part rest z y o h k =
    let inner = h.holds in
    record {
      part = h.part;
      rest = h.rest ++ rest;
      joined = ap (λ (l : List ℕ). l ++ rest) h.joined ∙ append_assoc h.part h.rest rest;
      count_is = h.count_is;
      holds = record {
        part = inner.part;
        rest = inner.rest ++ rest;
        joined = ap (λ (l : List ℕ). l ++ rest) inner.joined ∙ append_assoc inner.part inner.rest rest;
        count_is = inner.count_is;
        holds = (inner.holds.0, inner.holds.1, then_spells (next inner.holds.0) f inner.rest rest z y (o inner.holds.0) inner.holds.2 k);
      };
    }
then_spells (End kind next) f part rest z y o h k = absurd o

-- ---- formats whose values have one text

pub record IsText {A : Type 0} (m : Format A) (text : A → List ℕ) (Fits : A → Type 0) : Type 0 where
  pub is_open : IsOpen m
  pub takes : (part : List ℕ) (x : A) → IsBytes part → Spells m part x → Fits x × (part ≡ text x)
  pub again : (x : A) → Fits x → Spells m (text x) x

-- One behind another: what the first one gave can be told from the whole value.
pub text_then : {A B : Type 0} (m : Format A) (f : A → Format B) (tm : A → List ℕ) (Fm : A → Type 0) (tf : B → List ℕ) (Ff : A → B → Type 0) (back : B → A)
    → IsText m tm Fm → ((x : A) → Fm x → IsText (f x) tf (Ff x)) → ((x : A) → IsOpen (f x)) → ((x : A) (y : B) → Fm x → Ff x y → back y ≡ x)
    → IsText (m >>= f) (λ y. tm (back y) ++ tf y) (λ y. Fm (back y) × Ff (back y) y)
text_then {A} {B} m f tm Fm tf Ff back first second opens told = record {
  is_open = open_then m f first.is_open opens;
  takes = λ bytes y fits h.
      let both = spells_then m f bytes y h in
      let whole : IsBytes (both.part ++ both.rest) = subst IsBytes both.joined fits in
      let one = first.takes both.part both.value (bytes_left both.part both.rest whole) both.first_is in
      let other = (second both.value one.0).takes both.rest y (bytes_right both.part both.rest whole) both.second_is in
      let is : back y ≡ both.value = told both.value y one.0 other.0 in
      let text_is : both.part ++ both.rest ≡ tm both.value ++ tf y = (λ i. one.1 i ++ other.1 i) in (
        subst (λ (x : A). Fm x × Ff x y) (sym is) (one.0, other.0),
        both.joined ∙ text_is ∙ ap (λ (x : A). tm x ++ tf y) (sym is),
      );
  again = λ y fits. then_spells m f (tm (back y)) (tf y) (back y) y first.is_open (first.again (back y) fits.0) ((second (back y) fits.0).again y fits.1);
}

-- the same where each value that the first format might give has its law
pub text_next : {A B : Type 0} (m : Format A) (f : A → Format B) (tm : A → List ℕ) (Fm : A → Type 0) (tf : B → List ℕ) (Ff : A → B → Type 0) (back : B → A)
    → IsText m tm Fm → ((x : A) → IsText (f x) tf (Ff x)) → ((x : A) (y : B) → Fm x → Ff x y → back y ≡ x)
    → IsText (m >>= f) (λ y. tm (back y) ++ tf y) (λ y. Fm (back y) × Ff (back y) y)
text_next m f tm Fm tf Ff back first second told = text_then m f tm Fm tf Ff back first (λ x fits. second x) (λ x. (second x).is_open) told

-- the same law in other words
pub text_as : {A : Type 0} (m : Format A) (t u : A → List ℕ) (F G : A → Type 0) → IsText m t F → ((x : A) → F x → G x × (t x ≡ u x)) → ((x : A) → G x → F x × (t x ≡ u x)) → IsText m u G
text_as {A} m t u F G law from to = record {
  is_open = law.is_open;
  takes = λ part x fits h.
      let taken = law.takes part x fits h in
      let words = from x taken.0 in
      (words.0, taken.1 ∙ words.1);
  again = λ x fits.
      let words = to x fits in
      subst (λ (l : List ℕ). Spells m l x) words.1 (law.again x words.0);
}

pub made_open : {A B : Type 0} (m : Format A) (make : A → B) → IsOpen m → IsOpen (m >>= λ x. Done (make x))
unfolding IsOpen
made_open m make o = open_then m (λ x. Done (make x)) o (λ x. tt)

pub cond_open : {A : Type 0} (b : Bool) (m n : Format A) → IsOpen m → IsOpen n → IsOpen (cond b m n)
cond_open true m n o p = o
cond_open false m n o p = p

-- a value that takes no byte
pub done_text : {A : Type 0} (x : A) (t : A → List ℕ) (F : A → Type 0) → t x ≡ [] → F x → ((y : A) → F y → y ≡ x) → IsText (Done x) t F
unfolding Spells IsOpen
done_text {A} x t F none holds one = record {
  is_open = tt;
  takes = λ part y fits h. subst (λ (z : A). F z × (part ≡ t z)) (sym h.1) (holds, h.0 ∙ sym none);
  again = λ y fits. (ap t (one y fits) ∙ none, one y fits);
}

-- the value made of what was read
pub text_made : {A B : Type 0} (m : Format A) (make : A → B) (back : B → A) (tm : A → List ℕ) (Fm : A → Type 0) → ((x : A) → Fm x → back (make x) ≡ x) → IsText m tm Fm → IsText (m >>= λ x. Done (make x)) (λ y. tm (back y)) (λ y. Fm (back y) × (y ≡ make (back y)))
unfolding Spells IsOpen
text_made {A} {B} m make back tm Fm told first = record {
  is_open = open_then m (λ x. Done (make x)) first.is_open (λ x. tt);
  takes = λ bytes y fits h.
      let both = spells_then m (λ x. Done (make x)) bytes y h in
      let whole : IsBytes (both.part ++ both.rest) = subst IsBytes both.joined fits in
      let one = first.takes both.part both.value (bytes_left both.part both.rest whole) both.first_is in
      let made : y ≡ make both.value = both.second_is.1 in
      let is : back y ≡ both.value = ap back made ∙ told both.value one.0 in (
        (subst Fm (sym is) one.0, made ∙ ap make (sym is)),
        both.joined ∙ ap (λ (l : List ℕ). both.part ++ l) both.second_is.0 ∙ append-nil both.part ∙ one.1 ∙ ap tm (sym is),
      );
  again = λ y fits.
      let end : Spells (Done (make (back y))) [] y = (refl, fits.1) in
      subst (λ (l : List ℕ). Spells (m >>= λ x. Done (make x)) l y) (append-nil (tm (back y)))
      (then_spells m (λ x. Done (make x)) (tm (back y)) [] (back y) y first.is_open (first.again (back y) fits.0) end);
}

-- ---- numbers and byte strings

ended : (part rest : List ℕ) (bytes : List ℕ) → bytes ≡ part ++ rest → rest ≡ [] → bytes ≡ part
ended part rest bytes joined end = joined ∙ ap (λ (l : List ℕ). part ++ l) end ∙ append-nil part

module _ {B : Type 0} (number : B → ℕ) (Fits : B → Type 0) (judge : ℕ → Result B ℕ) (reads : (n : ℕ) (x : B) → judge n ≡ Ok x → (n ≡ number x) × Fits x) (again : (x : B) → Fits x → judge (number x) ≡ Ok x) where
  pub u8_text : IsText (u8_as judge) (λ x. number x ∷ []) (λ x. (number x < 256) × Fits x)
  unfolding u8_as Spells IsOpen
  u8_text = record {
    is_open = λ x. tt;
    takes = λ bytes x fits h.
        let v : B = h.holds.0 in
        let is : x ≡ v = h.holds.2.1 in
        let same : bytes ≡ h.part = ended h.part h.rest bytes h.joined h.holds.2.0 in
        let from = reads (get_or h.part 0 0) v h.holds.1 in
        let below : get_or h.part 0 0 < 256 = subst IsBytes same fits 0 in
        subst (λ (y : B). ((number y < 256) × Fits y) × (bytes ≡ number y ∷ [])) (sym is)
        ((subst (λ (n : ℕ). n < 256) from.0 below, from.1), same ∙ one_byte h.part h.count_is ∙ ap (λ (n : ℕ). n ∷ []) from.0);
    again = λ x fits. record { part = number x ∷ []; rest = []; joined = refl; count_is = refl; holds = (x, again x fits.1, (refl, refl)) };
  } where
    one_byte : (l : List ℕ) → length l ≡ 1 → l ≡ get_or l 0 0 ∷ []
    one_byte [] e = absurd (omega (arith, e))
    one_byte (b ∷ []) e = refl
    one_byte (b ∷ c ∷ l) e = absurd (omega (arith, e))

  pub u16_text : IsText (u16_as judge) (λ x. to_be_bytes w16 (number x)) (λ x. (number x < 2 ^ 16) × Fits x)
  unfolding u16_as Spells IsOpen
  u16_text = record {
    is_open = λ x. tt;
    takes = λ bytes x fits h.
        let v : B = h.holds.0 in
        let is : x ≡ v = h.holds.2.1 in
        let same : bytes ≡ h.part = ended h.part h.rest bytes h.joined h.holds.2.0 in
        let is_bytes : IsBytes h.part = subst IsBytes same fits in
        let from = reads (from_be_bytes w16 h.part) v h.holds.1 in
        let below : from_be_bytes w16 h.part < 2 ^ 16 = omega (arith, is_bytes 0, is_bytes 1) in
        subst (λ (y : B). ((number y < 2 ^ 16) × Fits y) × (bytes ≡ to_be_bytes w16 (number y))) (sym is)
        ((subst (λ (n : ℕ). n < 2 ^ 16) from.0 below, from.1), same ∙ sym (be_bytes_2 h.part (number v) h.count_is is_bytes (sym from.0)));
    again = λ x fits. record { part = to_be_bytes w16 (number x); rest = []; joined = sym (append-nil (to_be_bytes w16 (number x))); count_is = refl; holds = (x, ap judge (from_be_bytes-to_be_bytes_2 (number x) fits.0) ∙ again x fits.1, (refl, refl)) };
  }

  pub u32_text : IsText (u32_as judge) (λ x. to_be_bytes w32 (number x)) (λ x. (number x < 2 ^ 32) × Fits x)
  unfolding u32_as Spells IsOpen
  u32_text = record {
    is_open = λ x. tt;
    takes = λ bytes x fits h.
        let v : B = h.holds.0 in
        let is : x ≡ v = h.holds.2.1 in
        let same : bytes ≡ h.part = ended h.part h.rest bytes h.joined h.holds.2.0 in
        let is_bytes : IsBytes h.part = subst IsBytes same fits in
        let from = reads (from_be_bytes w32 h.part) v h.holds.1 in
        let below : from_be_bytes w32 h.part < 2 ^ 32 = omega (arith, is_bytes 0, is_bytes 1, is_bytes 2, is_bytes 3) in
        subst (λ (y : B). ((number y < 2 ^ 32) × Fits y) × (bytes ≡ to_be_bytes w32 (number y))) (sym is)
        ((subst (λ (n : ℕ). n < 2 ^ 32) from.0 below, from.1), same ∙ sym (be_bytes_4 h.part (number v) h.count_is is_bytes (sym from.0)));
    again = λ x fits. record { part = to_be_bytes w32 (number x); rest = []; joined = sym (append-nil (to_be_bytes w32 (number x))); count_is = refl; holds = (x, ap judge (from_be_bytes-to_be_bytes_4 (number x) fits.0) ∙ again x fits.1, (refl, refl)) };
  }

module _ {B : Type 0} (bytes_of : B → List ℕ) (Fits : B → Type 0) (judge : List ℕ → Result B ℕ) (reads : (l : List ℕ) (x : B) → judge l ≡ Ok x → (l ≡ bytes_of x) × Fits x) (again : (x : B) → Fits x → judge (bytes_of x) ≡ Ok x) where
  pub sized_text : IsText (sized_as judge) (λ x. to_be_bytes w32 (length (bytes_of x)) ++ bytes_of x) (λ x. (length (bytes_of x) < 2 ^ 32) × Fits x)
  unfolding sized_as Spells IsOpen
  sized_text = record {
    is_open = λ x. tt;
    takes = λ bytes x fits h.
        let inner = h.holds in
        let v : B = inner.holds.0 in
        let is : x ≡ v = inner.holds.2.1 in
        let more : h.rest ≡ inner.part = ended inner.part inner.rest h.rest inner.joined inner.holds.2.0 in
        let from = reads inner.part v inner.holds.1 in
        let size_bytes : IsBytes h.part = bytes_left h.part h.rest (subst IsBytes h.joined fits) in
        let below : from_be_bytes w32 h.part < 2 ^ 32 = omega (arith, size_bytes 0, size_bytes 1, size_bytes 2, size_bytes 3) in
        let size_is : to_be_bytes w32 (length inner.part) ≡ h.part = be_bytes_4 h.part (length inner.part) h.count_is size_bytes inner.count_is in
        let long : length inner.part < 2 ^ 32 = subst (λ (n : ℕ). n < 2 ^ 32) (sym inner.count_is) below in
        let whole : bytes ≡ to_be_bytes w32 (length inner.part) ++ inner.part = h.joined ∙ (λ i. sym size_is i ++ more i) in
        subst (λ (y : B). ((length (bytes_of y) < 2 ^ 32) × Fits y) × (bytes ≡ to_be_bytes w32 (length (bytes_of y)) ++ bytes_of y)) (sym is)
        ((subst (λ (l : List ℕ). length l < 2 ^ 32) from.0 long, from.1), subst (λ (l : List ℕ). bytes ≡ to_be_bytes w32 (length l) ++ l) from.0 whole);
    again = λ x fits. record {
      part = to_be_bytes w32 (length (bytes_of x));
      rest = bytes_of x;
      joined = refl;
      count_is = refl;
      holds = record { part = bytes_of x; rest = []; joined = sym (append-nil (bytes_of x)); count_is = sym (from_be_bytes-to_be_bytes_4 (length (bytes_of x)) fits.0); holds = (x, again x fits.1, (refl, refl)) };
    };
  }

-- ---- repetitions

pub several_open : {A : Type 0} (item : Format A) (n : ℕ) → IsOpen item → IsOpen (several item n)
unfolding several IsOpen
several_open item zero o = tt
several_open item (suc n) o = open_then item (λ one. several item n >>= λ others. Done (one ∷ others)) o (λ one. open_then (several item n) (λ others. Done (one ∷ others)) (several_open item n o) (λ others. tt))

pub from_open : {A S : Type 0} (item : S → Format (A × S)) (n : ℕ) (s : S) → ((z : S) → IsOpen (item z)) → IsOpen (several_from item n s)
unfolding several_from IsOpen
from_open item zero s o = tt
from_open item (suc n) s o = open_then (item s) (λ one. several_from item n one.1 >>= λ others. Done (one.0 ∷ others)) (o s) (λ one. open_then (several_from item n one.1) (λ others. Done (one.0 ∷ others)) (from_open item n one.1 o) (λ others. tt))

pub each_open : {A B : Type 0} (item : B → Format A) (bs : List B) → ((b : B) → IsOpen (item b)) → IsOpen (each item bs)
unfolding each IsOpen
each_open item [] o = tt
each_open item (b ∷ bs) o = open_then (item b) (λ one. each item bs >>= λ others. Done (one ∷ others)) (o b) (λ one. open_then (each item bs) (λ others. Done (one ∷ others)) (each_open item bs o) (λ others. tt))

-- what is spelled behind one member and then others
one_behind : {A : Type 0} (t : A → List ℕ) (x : A) (others : List A) (part rest bytes : List ℕ) → bytes ≡ part ++ rest → part ≡ t x → rest ≡ flat_map t others → bytes ≡ flat_map t (x ∷ others)
one_behind t x others part rest bytes joined p r = joined ∙ (λ i. p i ++ r i) ∙ sym (flat_map-cons t x others)

module _ {A : Type 0} (item : Format A) (t : A → List ℕ) (F : A → Type 0) (law : IsText item t F) where
  several_takes : (n : ℕ) (part : List ℕ) (xs : List A) → IsBytes part → Spells (several item n) part xs → ((length xs ≡ n) × AllByRecursion F xs) × (part ≡ flat_map t xs)
  unfolding several Spells
  several_takes zero part xs fits h = subst (λ (l : List A). ((length l ≡ 0) × AllByRecursion F l) × (part ≡ flat_map t l)) (sym h.1) ((refl, tt), h.0)
  several_takes (suc n) part xs fits h =
      let a = spells_then item (λ one. several item n >>= λ others. Done (one ∷ others)) part xs h in
      let b = spells_then (several item n) (λ others. Done (a.value ∷ others)) a.rest xs a.second_is in
      let whole : IsBytes (a.part ++ a.rest) = subst IsBytes a.joined fits in
      let right = bytes_right a.part a.rest whole in
      let one = law.takes a.part a.value (bytes_left a.part a.rest whole) a.first_is in
      let right_whole : IsBytes (b.part ++ b.rest) = subst IsBytes b.joined right in
      let others = several_takes n b.part b.value (bytes_left b.part b.rest right_whole) b.first_is in
      let is : xs ≡ a.value ∷ b.value = b.second_is.1 in
      let rest_is : a.rest ≡ flat_map t b.value = ended b.part b.rest a.rest b.joined b.second_is.0 ∙ others.1 in
      subst (λ (l : List A). ((length l ≡ suc n) × AllByRecursion F l) × (part ≡ flat_map t l)) (sym is)
      ((ap suc others.0.0, (one.0, others.0.1)), one_behind t a.value b.value a.part a.rest part a.joined one.1 rest_is)

  several_again : (xs : List A) → AllByRecursion F xs → Spells (several item (length xs)) (flat_map t xs) xs
  unfolding several Spells
  several_again [] all = (refl, refl)
  several_again (x ∷ xs) all =
      let others : Spells (several item (length xs) >>= λ others. Done (x ∷ others)) (flat_map t xs) (x ∷ xs) = subst (λ (l : List ℕ). Spells (several item (length xs) >>= λ others. Done (x ∷ others)) l (x ∷ xs)) (append-nil (flat_map t xs)) (then_spells (several item (length xs)) (λ others. Done (x ∷ others)) (flat_map t xs) [] xs (x ∷ xs) (several_open item (length xs) law.is_open) (several_again xs all.1) (refl, refl)) in
      subst (λ (l : List ℕ). Spells (several item (suc (length xs))) l (x ∷ xs)) (sym (flat_map-cons t x xs))
      (then_spells item (λ one. several item (length xs) >>= λ others. Done (one ∷ others)) (t x) (flat_map t xs) x (x ∷ xs) law.is_open (law.again x all.0) others)

  pub several_text : (n : ℕ) → IsText (several item n) (flat_map t) (λ xs. (length xs ≡ n) × AllByRecursion F xs)
  several_text n = record {
    is_open = several_open item n law.is_open;
    takes = several_takes n;
    again = λ xs fits. subst (λ (k : ℕ). Spells (several item k) (flat_map t xs) xs) fits.0 (several_again xs fits.1);
  }

module _ {A S : Type 0} (item : S → Format (A × S)) (t : A → List ℕ) (F : S → A → Type 0) (step : S → A → S) (law : (s : S) → IsText (item s) (λ y. t y.0) (λ y. F s y.0 × (y.1 ≡ step s y.0))) where
  from_takes : (n : ℕ) (s : S) (part : List ℕ) (xs : List A) → IsBytes part → Spells (several_from item n s) part xs → ((length xs ≡ n) × Chain F step s xs) × (part ≡ flat_map t xs)
  unfolding several_from Spells
  from_takes zero s part xs fits h = subst (λ (l : List A). ((length l ≡ 0) × Chain F step s l) × (part ≡ flat_map t l)) (sym h.1) ((refl, tt), h.0)
  from_takes (suc n) s part xs fits h =
      let a = spells_then (item s) (λ one. several_from item n one.1 >>= λ others. Done (one.0 ∷ others)) part xs h in
      let b = spells_then (several_from item n a.value.1) (λ others. Done (a.value.0 ∷ others)) a.rest xs a.second_is in
      let whole : IsBytes (a.part ++ a.rest) = subst IsBytes a.joined fits in
      let right = bytes_right a.part a.rest whole in
      let one = (law s).takes a.part a.value (bytes_left a.part a.rest whole) a.first_is in
      let right_whole : IsBytes (b.part ++ b.rest) = subst IsBytes b.joined right in
      let others = from_takes n a.value.1 b.part b.value (bytes_left b.part b.rest right_whole) b.first_is in
      let chained : Chain F step (step s a.value.0) b.value = subst (λ (z : S). Chain F step z b.value) one.0.1 others.0.1 in
      let is : xs ≡ a.value.0 ∷ b.value = b.second_is.1 in
      let rest_is : a.rest ≡ flat_map t b.value = ended b.part b.rest a.rest b.joined b.second_is.0 ∙ others.1 in
      subst (λ (l : List A). ((length l ≡ suc n) × Chain F step s l) × (part ≡ flat_map t l)) (sym is)
      ((ap suc others.0.0, (one.0.0, chained)), one_behind t a.value.0 b.value a.part a.rest part a.joined one.1 rest_is)

  from_again : (s : S) (xs : List A) → Chain F step s xs → Spells (several_from item (length xs) s) (flat_map t xs) xs
  unfolding several_from Spells
  from_again s [] all = (refl, refl)
  from_again s (x ∷ xs) all =
      let next = step s x in
      let others : Spells (several_from item (length xs) next >>= λ others. Done (x ∷ others)) (flat_map t xs) (x ∷ xs) = subst (λ (l : List ℕ). Spells (several_from item (length xs) next >>= λ others. Done (x ∷ others)) l (x ∷ xs)) (append-nil (flat_map t xs)) (then_spells (several_from item (length xs) next) (λ others. Done (x ∷ others)) (flat_map t xs) [] xs (x ∷ xs) (from_open item (length xs) next (λ z. (law z).is_open)) (from_again next xs all.1) (refl, refl)) in
      subst (λ (l : List ℕ). Spells (several_from item (suc (length xs)) s) l (x ∷ xs)) (sym (flat_map-cons t x xs))
      (then_spells (item s) (λ one. several_from item (length xs) one.1 >>= λ others. Done (one.0 ∷ others)) (t x) (flat_map t xs) (x, next) (x ∷ xs) (law s).is_open ((law s).again (x, next) (all.0, refl)) others)

  pub from_text : (n : ℕ) (s : S) → IsText (several_from item n s) (flat_map t) (λ xs. (length xs ≡ n) × Chain F step s xs)
  from_text n s = record {
    is_open = from_open item n s (λ z. (law z).is_open);
    takes = from_takes n s;
    again = λ xs fits. subst (λ (k : ℕ). Spells (several_from item k s) (flat_map t xs) xs) fits.0 (from_again s xs fits.1);
  }

module _ {A B : Type 0} (item : B → Format A) (t : A → List ℕ) (F : B → A → Type 0) (law : (b : B) → IsText (item b) t (F b)) where
  each_takes : (bs : List B) (part : List ℕ) (xs : List A) → IsBytes part → Spells (each item bs) part xs → Along F bs xs × (part ≡ flat_map t xs)
  unfolding each Spells
  each_takes [] part xs fits h = subst (λ (l : List A). Along F [] l × (part ≡ flat_map t l)) (sym h.1) (tt, h.0)
  each_takes (b ∷ bs) part xs fits h =
      let a = spells_then (item b) (λ one. each item bs >>= λ others. Done (one ∷ others)) part xs h in
      let c = spells_then (each item bs) (λ others. Done (a.value ∷ others)) a.rest xs a.second_is in
      let whole : IsBytes (a.part ++ a.rest) = subst IsBytes a.joined fits in
      let right = bytes_right a.part a.rest whole in
      let one = (law b).takes a.part a.value (bytes_left a.part a.rest whole) a.first_is in
      let right_whole : IsBytes (c.part ++ c.rest) = subst IsBytes c.joined right in
      let others = each_takes bs c.part c.value (bytes_left c.part c.rest right_whole) c.first_is in
      let is : xs ≡ a.value ∷ c.value = c.second_is.1 in
      let rest_is : a.rest ≡ flat_map t c.value = ended c.part c.rest a.rest c.joined c.second_is.0 ∙ others.1 in
      subst (λ (l : List A). Along F (b ∷ bs) l × (part ≡ flat_map t l)) (sym is)
      ((one.0, others.0), one_behind t a.value c.value a.part a.rest part a.joined one.1 rest_is)

  each_again : (bs : List B) (xs : List A) → Along F bs xs → Spells (each item bs) (flat_map t xs) xs
  unfolding each Spells
  each_again [] [] all = (refl, refl)
  each_again [] (x ∷ xs) all = absurd all
  each_again (b ∷ bs) [] all = absurd all
  each_again (b ∷ bs) (x ∷ xs) all =
      let others : Spells (each item bs >>= λ others. Done (x ∷ others)) (flat_map t xs) (x ∷ xs) = subst (λ (l : List ℕ). Spells (each item bs >>= λ others. Done (x ∷ others)) l (x ∷ xs)) (append-nil (flat_map t xs)) (then_spells (each item bs) (λ others. Done (x ∷ others)) (flat_map t xs) [] xs (x ∷ xs) (each_open item bs (λ z. (law z).is_open)) (each_again bs xs all.1) (refl, refl)) in
      subst (λ (l : List ℕ). Spells (each item (b ∷ bs)) l (x ∷ xs)) (sym (flat_map-cons t x xs))
      (then_spells (item b) (λ one. each item bs >>= λ others. Done (one ∷ others)) (t x) (flat_map t xs) x (x ∷ xs) (law b).is_open ((law b).again x all.0) others)

  pub each_text : (bs : List B) → IsText (each item bs) (flat_map t) (Along F bs)
  each_text bs = record { is_open = each_open item bs (λ z. (law z).is_open); takes = each_takes bs; again = each_again bs }
