-- Functions of integers (XPath Functions and Operators, 6.4.1, 15.4.3 to 15.4.5). An integer has 64 bits.
use Rattle.std.specs.Prelude.{◌^◌, ℤ, pos, negsuc, nat_abs, Bool, List, [], ◌∷◌, Option, Some, None, Result, Ok, Err, nat_lt, if◌then◌else◌, ◌+ℤ◌, int_lt}
use Rattle.pj_xvalue.specs.declared.fault.XCode.{XCode}
use Rattle.pj_xvalue.specs.declared.fault.XCode.TheVariants.{FOAR0002}
use Rattle.pj_xvalue.specs.Items.{ItemValue, Integer}
use Rattle.pj_xvalue.specs.Arguments.{and_then, all_integers, optional_atomic, optional_integer, one}

-- whether 64 bits hold the integer
abbrev pub fits : ℤ → Bool
fits (pos n) = nat_lt n (2 ^ 63)
fits (negsuc n) = nat_lt n (2 ^ 63)

abbrev pub held : ℤ → Result ℤ XCode
held z = if fits z then Ok z else Err FOAR0002

-- the sum from a partial sum on, from left to right
abbrev pub sum_from : ℤ → List ℤ → Result ℤ XCode
sum_from total [] = Ok total
sum_from total (z ∷ zs) = and_then (held (total +ℤ z)) (λ next. sum_from next zs)

abbrev pub integer_items : Result ℤ XCode → Result (List ItemValue) XCode
integer_items result = and_then result (λ z. one (Integer z))

-- the sum of the integers, and what stands for it where there are none
abbrev pub sum_or : List ItemValue → List ℤ → Result (List ItemValue) XCode
sum_or zero [] = Ok zero
sum_or zero (z ∷ zs) = integer_items (sum_from (pos 0) (z ∷ zs))

-- `sum` of one argument (15.4.5)
abbrev pub sum : List ItemValue → Result (List ItemValue) XCode
sum items = and_then (all_integers items) (λ numbers. sum_or (Integer (pos 0) ∷ []) numbers)

-- `sum` with what is the sum of nothing
abbrev pub sum_with : List ItemValue → List ItemValue → Result (List ItemValue) XCode
sum_with items zero = and_then (all_integers items) (λ numbers. and_then (optional_atomic zero) (λ nothing. sum_or nothing numbers))

abbrev pub lesser : ℤ → ℤ → ℤ
lesser a b = if int_lt b a then b else a

abbrev pub greater : ℤ → ℤ → ℤ
greater a b = if int_lt a b then b else a

-- the best of an integer and some more, by a choice of one of two
abbrev pub best : (ℤ → ℤ → ℤ) → ℤ → List ℤ → ℤ
best choice so_far [] = so_far
best choice so_far (z ∷ zs) = best choice (choice so_far z) zs

abbrev pub best_item : (ℤ → ℤ → ℤ) → List ℤ → Result (List ItemValue) XCode
best_item choice [] = Ok []
best_item choice (z ∷ zs) = one (Integer (best choice z zs))

-- `min` (15.4.4)
abbrev pub minimum : List ItemValue → Result (List ItemValue) XCode
minimum items = and_then (all_integers items) (best_item lesser)

-- `max` (15.4.3)
abbrev pub maximum : List ItemValue → Result (List ItemValue) XCode
maximum items = and_then (all_integers items) (best_item greater)

abbrev pub magnitude : Option ℤ → Result (List ItemValue) XCode
magnitude None = Ok []
magnitude (Some z) = integer_items (held (pos (nat_abs z)))

-- `abs` (6.4.1)
abbrev pub absolute : List ItemValue → Result (List ItemValue) XCode
absolute items = and_then (optional_integer items) magnitude
