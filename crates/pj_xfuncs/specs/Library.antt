-- The functions of XPath but those that need the tree or the focus, by their number of arguments.
use Rattle.std.specs.Prelude.{Bool, true, false, List, [], ◌∷◌, Some, None, Result, Err, if◌then◌else◌}
use Rattle.pj_xvalue.specs.declared.fault.XCode.{XCode}
use Rattle.pj_xvalue.specs.declared.fault.XCode.TheVariants.{XPTY0004}
use Rattle.pj_xexpressions.specs.declared.function.Function.{Function}
use Rattle.pj_xexpressions.specs.declared.function.Function.TheVariants as f
use Rattle.pj_xvalue.specs.Items.{ItemValue}
use Rattle.pj_xpatterns.specs.Meaning.{Pattern}
use Rattle.pj_xvalue.specs.Arguments.{truth}
use Rattle.pj_xfuncs.specs.General.{count, exists, is_empty, boolean, negated, string_value, data_of, concatenated, string_join}
use Rattle.pj_xfuncs.specs.Numbers.{sum, sum_with, minimum, maximum, absolute}
use Rattle.pj_xfuncs.specs.Sequences.{reversed, subsequence_from, subsequence, distinct_values, index_of}
use Rattle.pj_xfuncs.specs.Strings.{contains, starts, ends, substring_before, substring_after, substring_from, substring, string_length, normalize_space, upper_case, lower_case, translate}
use Rattle.pj_xpatterns.specs.Patterns.{matches, replace, tokenize}

-- no function of the library takes so many arguments
abbrev pub none : Result (List ItemValue) XCode
none = Err XPTY0004

abbrev pub of_none : Function → Result (List ItemValue) XCode
of_none f.True = truth true
of_none f.False = truth false
of_none _ = none

abbrev pub of_one : Function → List ItemValue → Result (List ItemValue) XCode
of_one f.Count a = count a
of_one f.Exists a = exists a
of_one f.Empty a = is_empty a
of_one f.Not a = negated a
of_one f.Boolean a = boolean a
of_one f.String a = string_value a
of_one f.Data a = data_of a
of_one f.StringLength a = string_length a
of_one f.NormalizeSpace a = normalize_space a
of_one f.UpperCase a = upper_case a
of_one f.LowerCase a = lower_case a
of_one f.DistinctValues a = distinct_values a
of_one f.Sum a = sum a
of_one f.Min a = minimum a
of_one f.Max a = maximum a
of_one f.Abs a = absolute a
of_one f.Reverse a = reversed a
of_one _ a = none

abbrev pub of_two : List Pattern → Function → List ItemValue → List ItemValue → Result (List ItemValue) XCode
of_two patterns f.StringJoin a b = string_join a b
of_two patterns f.Contains a b = contains a b
of_two patterns f.StartsWith a b = starts a b
of_two patterns f.EndsWith a b = ends a b
of_two patterns f.Substring a b = substring_from a b
of_two patterns f.SubstringBefore a b = substring_before a b
of_two patterns f.SubstringAfter a b = substring_after a b
of_two patterns f.Matches a b = matches patterns a b None
of_two patterns f.Tokenize a b = tokenize patterns a b None
of_two patterns f.Sum a b = sum_with a b
of_two patterns f.IndexOf a b = index_of a b
of_two patterns f.Subsequence a b = subsequence_from a b
of_two patterns _ a b = none

abbrev pub of_three : List Pattern → Function → List ItemValue → List ItemValue → List ItemValue → Result (List ItemValue) XCode
of_three patterns f.Substring a b c = substring a b c
of_three patterns f.Translate a b c = translate a b c
of_three patterns f.Matches a b c = matches patterns a b (Some c)
of_three patterns f.Replace a b c = replace patterns a b c None
of_three patterns f.Tokenize a b c = tokenize patterns a b (Some c)
of_three patterns f.Subsequence a b c = subsequence a b c
of_three patterns _ a b c = none

abbrev pub of_four : List Pattern → Function → List ItemValue → List ItemValue → List ItemValue → List ItemValue → Result (List ItemValue) XCode
of_four patterns f.Replace a b c d = replace patterns a b c (Some d)
of_four patterns _ a b c d = none

abbrev pub by_number : List Pattern → Function → List (List ItemValue) → Result (List ItemValue) XCode
by_number patterns function [] = of_none function
by_number patterns function (a ∷ []) = of_one function a
by_number patterns function (a ∷ b ∷ []) = of_two patterns function a b
by_number patterns function (a ∷ b ∷ c ∷ []) = of_three patterns function a b c
by_number patterns function (a ∷ b ∷ c ∷ d ∷ []) = of_four patterns function a b c d
by_number patterns function _ = none

abbrev pub is_concat : Function → Bool
is_concat f.Concat = true
is_concat _ = false

-- `concat`, which takes two arguments or more
abbrev pub of_several : List (List ItemValue) → Result (List ItemValue) XCode
of_several [] = none
of_several (a ∷ []) = none
of_several (a ∷ b ∷ rest) = concatenated (a ∷ b ∷ rest)

-- What a function gives for its arguments, where the library has these patterns: a sequence or a code. In the place of an
-- attribute stands its value, where the argument is atomised or its string is taken. A number of arguments that the
-- function does not take is XPTY0004, and so is a function that needs the tree or the focus, as `position` or `string()`.
abbrev pub called : List Pattern → Function → List (List ItemValue) → Result (List ItemValue) XCode
called patterns function arguments = if is_concat function then of_several arguments else by_number patterns function arguments
