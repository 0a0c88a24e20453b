-- Escapes, and that a text begins with one in one way only.
use Rattle.std.proofs.Common.{ℕ, zero, suc, ◌≡◌, ◌+◌, ◌<◌, ◌==◌, true, false, List, ◌∷◌, ◌++◌, length, replicate, refl, ap, sym, ◌∙◌, arith, inl, inr, append_assoc, length-append}
use Rattle.std.specs.Char.{digit_value}
use Rattle.std.proofs.lemmas.Bool.{cases_Bool, eqb-true}
use Rattle.std.proofs.lemmas.List.{length-replicate}
use Rattle.pj_base.specs.Front.{starts_with}
use Rattle.pj_source.specs.Escapes.{AreDigits, IsEscape, BeginsWithNoEscape, begins_escape}
use Rattle.pj_source.specs.Translating.{BeginsWithNoDigit, BeginsWithNoDigits}

-- ---- digits

-- the text, digit by digit
pub digits_at : (text w rest : List ℕ) (v : ℕ) → text ≡ w ++ rest → (ds : AreDigits w v) → text ≡ ds.a ∷ (ds.b ∷ (ds.c ∷ (ds.d ∷ rest)))
digits_at text w rest v split ds = split ∙ ap (λ (xs : List ℕ). xs ++ rest) ds.are

pub no_second : (text t1 : List ℕ) (c1 : ℕ) → text ≡ c1 ∷ t1 → BeginsWithNoDigit t1 → BeginsWithNoDigits text
no_second text t1 c1 e none w rest v split ds =
    let all : c1 ∷ t1 ≡ ds.a ∷ (ds.b ∷ (ds.c ∷ (ds.d ∷ rest))) = sym e ∙ digits_at text w rest v split ds in
    let here : t1 ≡ ds.b ∷ (ds.c ∷ (ds.d ∷ rest)) = cc in
    none ds.b (ds.c ∷ (ds.d ∷ rest)) here ds.hex_b

pub no_third : (text t1 t2 : List ℕ) (c1 c2 : ℕ) → text ≡ c1 ∷ t1 → t1 ≡ c2 ∷ t2 → BeginsWithNoDigit t2 → BeginsWithNoDigits text
no_third text t1 t2 c1 c2 e f none w rest v split ds =
    let all : c1 ∷ t1 ≡ ds.a ∷ (ds.b ∷ (ds.c ∷ (ds.d ∷ rest))) = sym e ∙ digits_at text w rest v split ds in
    let here : t2 ≡ ds.c ∷ (ds.d ∷ rest) = cc in
    none ds.c (ds.d ∷ rest) here ds.hex_c

pub no_fourth : (text t1 t2 t3 : List ℕ) (c1 c2 c3 : ℕ) → text ≡ c1 ∷ t1 → t1 ≡ c2 ∷ t2 → t2 ≡ c3 ∷ t3 → BeginsWithNoDigit t3 → BeginsWithNoDigits text
no_fourth text t1 t2 t3 c1 c2 c3 e f g none w rest v split ds =
    let all : c1 ∷ t1 ≡ ds.a ∷ (ds.b ∷ (ds.c ∷ (ds.d ∷ rest))) = sym e ∙ digits_at text w rest v split ds in
    let here : t3 ≡ ds.d ∷ rest = cc in
    none ds.d rest here ds.hex_d

-- no digit is a u
digit_no_u : (c : ℕ) → digit_value c < 16 → (c == 117) ≡ false
digit_no_u c h = elim (cases_Bool (c == 117)) [
  | inl e ↦ let is : c ≡ 117 = eqb-true c 117 e in let h' : digit_value 117 < 16 = rw is at h in absurd (omega arith)
  | inr e ↦ e
]

digits_no_u : (w rest : List ℕ) (v : ℕ) → AreDigits w v → starts_with 117 (w ++ rest) ≡ false
digits_no_u w rest v ds = ap (λ (xs : List ℕ). starts_with 117 (xs ++ rest)) ds.are ∙ digit_no_u ds.a ds.hex_a

-- ---- the u's

-- two texts that are one, each with its u's in front
pub record SameMarkers (m n : ℕ) (x y : List ℕ) : Type 0 where
  pub count : m ≡ n
  pub behind : x ≡ y

same_markers : (m n : ℕ) (x y : List ℕ) → replicate m 117 ++ x ≡ replicate n 117 ++ y → starts_with 117 x ≡ false → starts_with 117 y ≡ false → SameMarkers m n x y
same_markers zero zero x y e p q = record { count = refl; behind = e }
same_markers zero (suc n) x y e p q = let h : true ≡ false = sym (ap (starts_with 117) e) ∙ p in absurd cc
same_markers (suc m) zero x y e p q = let h : true ≡ false = ap (starts_with 117) e ∙ q in absurd cc
same_markers (suc m) (suc n) x y e p q =
    let tails : replicate m 117 ++ x ≡ replicate n 117 ++ y = cc in
    let s : SameMarkers m n x y = same_markers m n x y tails p q in
    record { count = ap suc s.count; behind = s.behind }

-- the text, with the escape's parts
escape_at : (text w rest : List ℕ) (unit : ℕ) → text ≡ w ++ rest → (e : IsEscape w unit) → text ≡ 92 ∷ 117 ∷ (replicate e.more 117 ++ (e.digits ++ rest))
escape_at text w rest unit split e = split ∙ (ap (λ (xs : List ℕ). xs ++ rest) e.spelled ∙ ap (λ (xs : List ℕ). 92 ∷ 117 ∷ xs) (append_assoc (replicate e.more 117) e.digits rest))

-- ---- escapes

pub no_escape : (text t1 t2 t3 : List ℕ) (n : ℕ) → text ≡ 92 ∷ t1 → t1 ≡ 117 ∷ t2 → t2 ≡ replicate n 117 ++ t3 → starts_with 117 t3 ≡ false → BeginsWithNoDigits t3 → BeginsWithNoEscape text
no_escape text t1 t2 t3 n a b c stop none w rest unit split e =
    let all : 92 ∷ t1 ≡ 92 ∷ 117 ∷ (replicate e.more 117 ++ (e.digits ++ rest)) = sym a ∙ escape_at text w rest unit split e in
    let markers : replicate n 117 ++ t3 ≡ replicate e.more 117 ++ (e.digits ++ rest) = cc in
    let s : SameMarkers n e.more t3 (e.digits ++ rest) = same_markers n e.more t3 (e.digits ++ rest) markers stop (digits_no_u e.digits rest unit e.number) in
    none e.digits rest unit s.behind e.number

pub no_backslash : (text : List ℕ) → starts_with 92 text ≡ false → BeginsWithNoEscape text
no_backslash text stop w rest unit split e = let h : true ≡ false = sym (ap (starts_with 92) (escape_at text w rest unit split e)) ∙ stop in absurd cc

pub no_marker : (text t1 : List ℕ) → text ≡ 92 ∷ t1 → starts_with 117 t1 ≡ false → BeginsWithNoEscape text
no_marker text t1 a stop w rest unit split e =
    let all : 92 ∷ t1 ≡ 92 ∷ 117 ∷ (replicate e.more 117 ++ (e.digits ++ rest)) = sym a ∙ escape_at text w rest unit split e in
    let tail : t1 ≡ 117 ∷ (replicate e.more 117 ++ (e.digits ++ rest)) = cc in
    let h : true ≡ false = sym (ap (starts_with 117) tail) ∙ stop in absurd cc

pub begins : (text w rest : List ℕ) (unit : ℕ) → text ≡ w ++ rest → IsEscape w unit → begins_escape text ≡ true
begins text w rest unit split e = ap begins_escape (escape_at text w rest unit split e)

pub length_escape : (w ds : List ℕ) (n v : ℕ) → w ≡ 92 ∷ 117 ∷ (replicate n 117 ++ ds) → AreDigits ds v → length w ≡ n + 6
length_escape w ds n v e d = omega (arith, ap length e, length-append (replicate n 117) ds, length-replicate {A = ℕ} n 117, ap length d.are)

-- two escapes at the front of one text
pub record SameEscape (w v rest rest' : List ℕ) (unit unit' : ℕ) : Type 0 where
  pub written : w ≡ v
  pub behind : rest ≡ rest'
  pub unit_is : unit ≡ unit'

same_digits : (w v r s : List ℕ) (m n : ℕ) → AreDigits w m → AreDigits v n → w ++ r ≡ v ++ s → SameEscape w v r s m n
same_digits w v r s m n d e split =
    let all : d.a ∷ (d.b ∷ (d.c ∷ (d.d ∷ r))) ≡ e.a ∷ (e.b ∷ (e.c ∷ (e.d ∷ s))) = sym (ap (λ (xs : List ℕ). xs ++ r) d.are) ∙ (split ∙ ap (λ (xs : List ℕ). xs ++ s) e.are) in
    let a : d.a ≡ e.a = cc in
    let b : d.b ≡ e.b = cc in
    let c : d.c ≡ e.c = cc in
    let f : d.d ≡ e.d = cc in
    let behind : r ≡ s = cc in
    record {
      written = d.are ∙ (rw (a, b, c, f) refl ∙ sym e.are);
      behind = behind;
      unit_is = d.value_is ∙ (rw (a, b, c, f) refl ∙ sym e.value_is);
    }

pub same_escape : (text w v r s : List ℕ) (m n : ℕ) → text ≡ w ++ r → text ≡ v ++ s → IsEscape w m → IsEscape v n → SameEscape w v r s m n
same_escape text w v r s m n p q d e =
    let all : 92 ∷ 117 ∷ (replicate d.more 117 ++ (d.digits ++ r)) ≡ 92 ∷ 117 ∷ (replicate e.more 117 ++ (e.digits ++ s)) = sym (escape_at text w r m p d) ∙ escape_at text v s n q e in
    let markers : replicate d.more 117 ++ (d.digits ++ r) ≡ replicate e.more 117 ++ (e.digits ++ s) = cc in
    let t : SameMarkers d.more e.more (d.digits ++ r) (e.digits ++ s) = same_markers d.more e.more (d.digits ++ r) (e.digits ++ s) markers (digits_no_u d.digits r m d.number) (digits_no_u e.digits s n e.number) in
    let u : SameEscape d.digits e.digits r s m n = same_digits d.digits e.digits r s m n d.number e.number t.behind in
    record {
      written = d.spelled ∙ (spell d.more e.more d.digits e.digits t.count u.written ∙ sym e.spelled);
      behind = u.behind;
      unit_is = u.unit_is;
    }
  where
    spell : (i j : ℕ) (x y : List ℕ) → i ≡ j → x ≡ y → 92 ∷ 117 ∷ (replicate i 117 ++ x) ≡ 92 ∷ 117 ∷ (replicate j 117 ++ y)
    spell i j x y e f = rw (e, f) refl
