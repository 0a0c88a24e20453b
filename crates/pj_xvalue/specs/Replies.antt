-- What the functions of PMD may be given and may answer.
use Rattle.std.specs.Prelude.{Bool, true, false, not, List, [], ◌∷◌, if◌then◌else◌, Result, Ok, Err}
use Rattle.pj_names.specs.declared.oracle.AskFault.{AskFault}
use Rattle.pj_xvalue.specs.declared.fault.XCode.{XCode}
use Rattle.pj_xvalue.specs.declared.fault.XFault.{XFault}
use Rattle.pj_xvalue.specs.declared.fault.XFault.TheVariants as fault
use Rattle.pj_xexpressions.specs.declared.pmd_function.PmdFunction.{PmdFunction}
use Rattle.pj_xexpressions.specs.declared.pmd_function.PmdFunction.TheVariants as pmd
use Rattle.pj_xvalue.specs.Items.{ItemValue, String, Boolean, are_atomic}

-- What a call that may ask classes returned, where a code of XPath is a value of what is meant: it is given for the same
-- reasons on each run. What is no value is that a class could not be asked for, or that memory was wanting.
abbrev pub outcome : {A B : Type 0} → (A → B) → Result A XFault → Result (Result B XCode) AskFault
outcome view (Ok value) = Ok (Ok (view value))
outcome view (Err (fault.Code code)) = Ok (Err code)
outcome view (Err (fault.Ask asked)) = Err asked

abbrev pub is_one_boolean : List ItemValue → Bool
is_one_boolean (Boolean b ∷ []) = true
is_one_boolean _ = false

abbrev pub is_one_string : List ItemValue → Bool
is_one_string (String text ∷ []) = true
is_one_string _ = false

-- whether this is `typeIs` with one string
abbrev pub is_type_test : PmdFunction → List (List ItemValue) → Bool
is_type_test pmd.TypeIs (argument ∷ []) = is_one_string argument
is_type_test _ _ = false

-- whether a value may be the answer of this function with these arguments: it is made of atomic values, and that of
-- `typeIs` with one string is one boolean
abbrev pub may_give : PmdFunction → List (List ItemValue) → List ItemValue → Bool
may_give function arguments items = if is_type_test function arguments then is_one_boolean items else are_atomic items

-- what a function of PMD may come to: `typeIs` with one string is no code
abbrev pub may_be : PmdFunction → List (List ItemValue) → Result (List ItemValue) XCode → Bool
may_be function arguments (Ok items) = may_give function arguments items
may_be function arguments (Err code) = not (is_type_test function arguments)

-- the same of what a call returned
abbrev pub may_return : PmdFunction → List (List ItemValue) → Result (Result (List ItemValue) XCode) AskFault → Bool
may_return function arguments (Ok value) = may_be function arguments value
may_return function arguments (Err asked) = true
