-- Units are read again from the bytes that spell them.
use Rattle.std.proofs.Common.{◌≡◌, ◌<◌, ◌≤◌, ◌+◌, ◌/◌, ◌%◌, ℕ, zero, suc, Bool, true, false, cond, ◌&&◌, List, [], ◌∷◌, ◌++◌, length, Option, Some, None, nat_lt, refl, ap, sym, ◌∙◌, arith}
use Rattle.std.specs.Prelude.{flat_map}
use Rattle.std.specs.List.{list_all}
use Rattle.std.proofs.lemmas.Grind.{common_steps}
use Rattle.std.proofs.lemmas.List.{length-append}
use Rattle.pj_classfile.specs.ModifiedUtf8.{unit_bytes, unit_at, units_of, in_front, is_one, is_two, is_three, two, three}
use Rattle.pj_classfile.proofs.Units.{after_unit, units_step}

abbrev pub is_unit : ℕ → Bool
is_unit u = nat_lt u 65536

-- What is written is read.

one_again : (a : ℕ) (rest : List ℕ) → is_one a ≡ true → unit_at (a ∷ rest) ≡ Some (a, rest)
unfolding unit_at
one_again a [] h = rw h refl
one_again a (b ∷ []) h = rw h refl
one_again a (b ∷ c ∷ rest) h = rw h refl

two_again : (a b : ℕ) (rest : List ℕ) → is_one a ≡ false → is_two a b ≡ true → unit_at (a ∷ b ∷ rest) ≡ Some (two a b, rest)
unfolding unit_at
two_again a b [] h k = rw (h, k) refl
two_again a b (c ∷ rest) h k = rw (h, k) refl

three_again : (a b c : ℕ) (rest : List ℕ) → is_one a ≡ false → is_two a b ≡ false → is_three a b c ≡ true → unit_at (a ∷ b ∷ c ∷ rest) ≡ Some (three a b c, rest)
unfolding unit_at
three_again a b c rest h k l = rw (h, k, l) refl

-- the bytes of a unit of two bytes, and of three
pub record TwoOf (u a b : ℕ) : Type 0 where
  pub not_one : is_one a ≡ false
  pub is : is_two a b ≡ true
  pub value : two a b ≡ u

pub record ThreeOf (u a b c : ℕ) : Type 0 where
  pub not_one : is_one a ≡ false
  pub not_two : is_two a b ≡ false
  pub is : is_three a b c ≡ true
  pub value : three a b c ≡ u

two_of : (u : ℕ) → is_one u ≡ false → u < 2048 → TwoOf u (192 + u / 64) (128 + u % 64)
two_of u past lt = record { not_one = grind (arith, common_steps); is = grind (arith, common_steps); value = omega arith }

three_of : (u : ℕ) → 2048 ≤ u → u < 65536 → ThreeOf u (224 + u / 4096) (128 + u / 64 % 64) (128 + u % 64)
three_of u low lt = record { not_one = grind (arith, common_steps); not_two = grind (arith, common_steps); is = grind (arith, common_steps); value = omega arith }

again : (b1 b2 : Bool) (u : ℕ) (rest : List ℕ) → is_one u ≡ b1 → nat_lt u 2048 ≡ b2 → u < 65536 → unit_at (unit_bytes u ++ rest) ≡ Some (u, rest)
again true b2 u rest e f lt = rw e (one_again u rest e)
again false true u rest e f lt =
    let t = two_of u e (grind (arith, common_steps)) in
    rw (e, f) (two_again (192 + u / 64) (128 + u % 64) rest t.not_one t.is ∙ ap (λ (n : ℕ). let x : Option (ℕ × List ℕ) = Some (n, rest) in x) t.value)
again false false u rest e f lt =
    let t = three_of u (grind (arith, common_steps)) lt in
    rw (e, f) (three_again (224 + u / 4096) (128 + u / 64 % 64) (128 + u % 64) rest t.not_one t.not_two t.is ∙ ap (λ (n : ℕ). let x : Option (ℕ × List ℕ) = Some (n, rest) in x) t.value)

pub unit_again : (u : ℕ) (rest : List ℕ) → u < 65536 → unit_at (unit_bytes u ++ rest) ≡ Some (u, rest)
unit_again u rest lt = again (is_one u) (nat_lt u 2048) u rest refl refl lt

units_after : (bytes : List ℕ) (u : ℕ) (rest : List ℕ) → unit_at bytes ≡ Some (u, rest) → units_of bytes ≡ in_front u (units_of rest)
unfolding unit_at
units_after [] u rest h = absurd cc
units_after (a ∷ tail) u rest h = units_step a tail ∙ ap after_unit h

pub both_true : (a b : Bool) → (a && b) ≡ true → (a ≡ true) × (b ≡ true)
both_true true b h = (refl, h)
both_true false b h = absurd cc

pub units_written : (us : List ℕ) → list_all is_unit us ≡ true → units_of (flat_map unit_bytes us) ≡ Some us
unfolding units_of
units_written [] h = refl
units_written (u ∷ us) h =
    let b = both_true (is_unit u) (list_all is_unit us) h in
    let lt : u < 65536 = grind (arith, common_steps) in
    units_after (unit_bytes u ++ flat_map unit_bytes us) u (flat_map unit_bytes us) (unit_again u (flat_map unit_bytes us) lt) ∙ ap (in_front u) (units_written us b.1)

-- What is read is written so.

pub record Written (bytes : List ℕ) (u : ℕ) (rest : List ℕ) : Type 0 where
  pub is : bytes ≡ unit_bytes u ++ rest
  pub fits : u < 65536

one_written : (a : ℕ) (rest : List ℕ) → is_one a ≡ true → Written (a ∷ rest) a rest
one_written a rest h = record { is = rw h refl; fits = grind (arith, common_steps) }

two_written : (a b : ℕ) (rest : List ℕ) → is_two a b ≡ true → Written (a ∷ b ∷ rest) (two a b) rest
two_written a b rest h = record { is = grind (arith, common_steps); fits = grind (arith, common_steps) }

three_written : (a b c : ℕ) (rest : List ℕ) → is_three a b c ≡ true → Written (a ∷ b ∷ c ∷ rest) (three a b c) rest
three_written a b c rest h = record { is = grind (arith, common_steps); fits = grind (arith, common_steps) }

abbrev found : ℕ × List ℕ → Option (ℕ × List ℕ)
found x = Some x

same_found : (x y : ℕ × List ℕ) → found x ≡ found y → x ≡ y
same_found x y e = cc

-- a test with a find, or else another find
by_test : (bytes : List ℕ) (p : Bool) (x : ℕ × List ℕ) (other : Option (ℕ × List ℕ)) (y : ℕ × List ℕ) → (p ≡ true → Written bytes x.0 x.1) → (other ≡ Some y → Written bytes y.0 y.1) → cond p (found x) other ≡ Some y → Written bytes y.0 y.1
by_test bytes true x other y here more e =
    let same = same_found x y e in
    let w = here refl in
    record { is = w.is ∙ ap (λ (z : ℕ × List ℕ). unit_bytes z.0 ++ z.1) same; fits = rw (ap (λ (z : ℕ × List ℕ). z.0) (sym same)) w.fits }
by_test bytes false x other y here more e = more e

none_is : (bytes : List ℕ) (y : ℕ × List ℕ) → (let o : Option (ℕ × List ℕ) = None in o) ≡ Some y → Written bytes y.0 y.1
none_is bytes y e = absurd cc

unit_read : (bytes : List ℕ) (y : ℕ × List ℕ) → unit_at bytes ≡ Some y → Written bytes y.0 y.1
unfolding unit_at
unit_read [] y e = absurd cc
unit_read (a ∷ []) y e = by_test (a ∷ []) (is_one a) (a, []) None y (λ h. one_written a [] h) (λ h. none_is (a ∷ []) y h) e
unit_read (a ∷ b ∷ []) y e =
    by_test (a ∷ b ∷ []) (is_one a) (a, b ∷ []) _ y (λ h. one_written a (b ∷ []) h)
    (λ h. by_test (a ∷ b ∷ []) (is_two a b) (two a b, []) None y (λ k. two_written a b [] k) (λ k. none_is (a ∷ b ∷ []) y k) h) e
unit_read (a ∷ b ∷ c ∷ rest) y e =
    by_test (a ∷ b ∷ c ∷ rest) (is_one a) (a, b ∷ c ∷ rest) _ y (λ h. one_written a (b ∷ c ∷ rest) h)
    (λ h. by_test (a ∷ b ∷ c ∷ rest) (is_two a b) (two a b, c ∷ rest) _ y (λ k. two_written a b (c ∷ rest) k)
    (λ k. by_test (a ∷ b ∷ c ∷ rest) (is_three a b c) (three a b c, rest) None y (λ l. three_written a b c rest l) (λ l. none_is (a ∷ b ∷ c ∷ rest) y l) k) h) e

pub record AllWritten (bytes us : List ℕ) : Type 0 where
  pub is : bytes ≡ flat_map unit_bytes us
  pub fit : list_all is_unit us ≡ true

front_written : (bytes : List ℕ) (u : ℕ) (rest us vs : List ℕ) → Written bytes u rest → AllWritten rest vs → u ∷ vs ≡ us → AllWritten bytes us
front_written bytes u rest us vs w all e =
    let unit : is_unit u ≡ true = grind (arith, common_steps, w.fits) in
    rw (← e) (record { is = w.is ∙ ap (λ (l : List ℕ). unit_bytes u ++ l) all.is; fit = rw unit all.fit })

in_front_is : (u : ℕ) (o : Option (List ℕ)) (us : List ℕ) → in_front u o ≡ Some us → (vs : List ℕ) × (o ≡ Some vs) × (u ∷ vs ≡ us)
in_front_is u None us e = absurd cc
in_front_is u (Some vs) us e = (vs, refl, cc)

shorter : (bytes : List ℕ) (u : ℕ) (rest : List ℕ) (n : ℕ) → Written bytes u rest → length bytes ≤ suc n → length rest ≤ n
shorter bytes u rest n w le =
    let long : length bytes ≡ length (unit_bytes u) + length rest = ap length w.is ∙ length-append (unit_bytes u) rest in
    let some : 1 ≤ length (unit_bytes u) = some_bytes u (is_one u) (nat_lt u 2048) refl refl in
    omega (arith, long, some, le) where
      some_bytes : (v : ℕ) (b1 b2 : Bool) → is_one v ≡ b1 → nat_lt v 2048 ≡ b2 → 1 ≤ length (unit_bytes v)
      some_bytes v true b2 e f = rw e (omega arith)
      some_bytes v false true e f = rw (e, f) (omega arith)
      some_bytes v false false e f = rw (e, f) (omega arith)

turn : (a : ℕ) (rest us : List ℕ) (n : ℕ) (o : Option (ℕ × List ℕ)) → length (a ∷ rest) ≤ suc n
    → ((behind vs : List ℕ) → length behind ≤ n → units_of behind ≡ Some vs → AllWritten behind vs)
    → unit_at (a ∷ rest) ≡ o → after_unit o ≡ Some us → AllWritten (a ∷ rest) us
turn a rest us n None le more at h = absurd cc
turn a rest us n (Some y) le more at h =
    let w = unit_read (a ∷ rest) y at in
    let f = in_front_is y.0 (units_of y.1) us h in
    front_written (a ∷ rest) y.0 y.1 us f.0 w (more y.1 f.0 (shorter (a ∷ rest) y.0 y.1 n w le) f.1) f.2

read_within : (n : ℕ) (bytes us : List ℕ) → length bytes ≤ n → units_of bytes ≡ Some us → AllWritten bytes us
unfolding units_of
read_within n [] us le e = let none : [] ≡ us = cc in rw (← none) (record { is = refl; fit = refl })
read_within zero (a ∷ rest) us le e = absurd (omega arith)
read_within (suc n) (a ∷ rest) us le e =
    turn a rest us n (unit_at (a ∷ rest)) le (λ behind vs h k. read_within n behind vs h k) refl (sym (units_step a rest) ∙ e)

pub units_read : (bytes us : List ℕ) → units_of bytes ≡ Some us → AllWritten bytes us
units_read bytes us e = read_within (length bytes) bytes us (omega arith) e
