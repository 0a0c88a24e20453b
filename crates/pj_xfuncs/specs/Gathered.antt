-- What a loop has gathered, before what it has yet to go over.
use Rattle.std.specs.Prelude.{ℤ, ◌+ℤ◌, List, [], ◌∷◌, ◌++◌, Result, Ok, Err}
use Rattle.pj_xvalue.specs.declared.fault.XCode.{XCode}
use Rattle.pj_xvalue.specs.Arguments.{Text, and_then}
use Rattle.pj_xfuncs.specs.Numbers.{held}

abbrev pub text_behind : Text → Result Text XCode → Result Text XCode
text_behind before (Ok rest) = Ok (before ++ rest)
text_behind before (Err code) = Err code

-- a sum, or a code, with one more integer
abbrev pub added : Result ℤ XCode → ℤ → Result ℤ XCode
added total z = and_then total (λ sum. held (sum +ℤ z))

abbrev pub sum_behind : Result ℤ XCode → List ℤ → Result ℤ XCode
sum_behind total [] = total
sum_behind total (z ∷ zs) = sum_behind (added total z) zs
