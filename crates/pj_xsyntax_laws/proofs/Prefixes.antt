-- The functions of XPath are called with the prefix `fn:` and without it.
use Rattle.std.proofs.Common.{◌≡◌, ℕ, Bool, true, List, ◌∷◌, ◌++◌, Some, codes, refl}
use Rattle.std.specs.Str.{encode_utf8_all}
use lib.Utf8.{encode}
use Rattle.pj_xtokens.specs.First.{begins_with_parenthesis}
use Rattle.pj_xtokens.specs.Tokens.{Lexed, lexed}
use Rattle.pj_xtokens.specs.declared.token.TokenKind.TheVariants as kind
use Rattle.pj_xexpressions.specs.declared.function.Function.{Function}
use Rattle.pj_xexpressions.specs.declared.function.Function.TheVariants as f
use Rattle.pj_xexpressions.specs.declared.name.Callee.TheVariants as callee
use Rattle.pj_xexpressions.specs.Names.{callee_of}
use Rattle.pj_xsyntax_laws.specs.Abbreviations.{WrittenOut, function}
use Rattle.pj_xsyntax_laws.specs.Printed.{function_name}
use Rattle.pj_xsyntax_laws.proofs.Tables.{function-meaning}

pub with_prefix : (f : Function) → callee_of (codes "fn:" ++ function_name f) ≡ Some (callee.XPath f)
unfolding callee_of
with_prefix f.Position = refl
with_prefix f.Last = refl
with_prefix f.Count = refl
with_prefix f.Exists = refl
with_prefix f.Empty = refl
with_prefix f.Not = refl
with_prefix f.True = refl
with_prefix f.False = refl
with_prefix f.Boolean = refl
with_prefix f.String = refl
with_prefix f.Data = refl
with_prefix f.Concat = refl
with_prefix f.StringJoin = refl
with_prefix f.Contains = refl
with_prefix f.StartsWith = refl
with_prefix f.EndsWith = refl
with_prefix f.Substring = refl
with_prefix f.SubstringBefore = refl
with_prefix f.SubstringAfter = refl
with_prefix f.StringLength = refl
with_prefix f.NormalizeSpace = refl
with_prefix f.UpperCase = refl
with_prefix f.LowerCase = refl
with_prefix f.Translate = refl
with_prefix f.Matches = refl
with_prefix f.Replace = refl
with_prefix f.Tokenize = refl
with_prefix f.Name = refl
with_prefix f.LocalName = refl
with_prefix f.DistinctValues = refl
with_prefix f.Sum = refl
with_prefix f.Min = refl
with_prefix f.Max = refl
with_prefix f.Abs = refl
with_prefix f.Reverse = refl
with_prefix f.IndexOf = refl
with_prefix f.Subsequence = refl
with_prefix f.Root = refl

pub without_prefix : (f : Function) → callee_of (function_name f) ≡ Some (callee.XPath f)
unfolding callee_of
without_prefix f.Position = refl
without_prefix f.Last = refl
without_prefix f.Count = refl
without_prefix f.Exists = refl
without_prefix f.Empty = refl
without_prefix f.Not = refl
without_prefix f.True = refl
without_prefix f.False = refl
without_prefix f.Boolean = refl
without_prefix f.String = refl
without_prefix f.Data = refl
without_prefix f.Concat = refl
without_prefix f.StringJoin = refl
without_prefix f.Contains = refl
without_prefix f.StartsWith = refl
without_prefix f.EndsWith = refl
without_prefix f.Substring = refl
without_prefix f.SubstringBefore = refl
without_prefix f.SubstringAfter = refl
without_prefix f.StringLength = refl
without_prefix f.NormalizeSpace = refl
without_prefix f.UpperCase = refl
without_prefix f.LowerCase = refl
without_prefix f.Translate = refl
without_prefix f.Matches = refl
without_prefix f.Replace = refl
without_prefix f.Tokenize = refl
without_prefix f.Name = refl
without_prefix f.LocalName = refl
without_prefix f.DistinctValues = refl
without_prefix f.Sum = refl
without_prefix f.Min = refl
without_prefix f.Max = refl
without_prefix f.Abs = refl
without_prefix f.Reverse = refl
without_prefix f.IndexOf = refl
without_prefix f.Subsequence = refl
without_prefix f.Root = refl

-- ---- the names as they stand in a text, in characters

prefixed-meaning : (f : Function) → callee_of (encode_utf8_all (codes "fn:" ++ function_name f)) ≡ Some (callee.XPath f)
unfolding callee_of encode
prefixed-meaning f.Position = refl
prefixed-meaning f.Last = refl
prefixed-meaning f.Count = refl
prefixed-meaning f.Exists = refl
prefixed-meaning f.Empty = refl
prefixed-meaning f.Not = refl
prefixed-meaning f.True = refl
prefixed-meaning f.False = refl
prefixed-meaning f.Boolean = refl
prefixed-meaning f.String = refl
prefixed-meaning f.Data = refl
prefixed-meaning f.Concat = refl
prefixed-meaning f.StringJoin = refl
prefixed-meaning f.Contains = refl
prefixed-meaning f.StartsWith = refl
prefixed-meaning f.EndsWith = refl
prefixed-meaning f.Substring = refl
prefixed-meaning f.SubstringBefore = refl
prefixed-meaning f.SubstringAfter = refl
prefixed-meaning f.StringLength = refl
prefixed-meaning f.NormalizeSpace = refl
prefixed-meaning f.UpperCase = refl
prefixed-meaning f.LowerCase = refl
prefixed-meaning f.Translate = refl
prefixed-meaning f.Matches = refl
prefixed-meaning f.Replace = refl
prefixed-meaning f.Tokenize = refl
prefixed-meaning f.Name = refl
prefixed-meaning f.LocalName = refl
prefixed-meaning f.DistinctValues = refl
prefixed-meaning f.Sum = refl
prefixed-meaning f.Min = refl
prefixed-meaning f.Max = refl
prefixed-meaning f.Abs = refl
prefixed-meaning f.Reverse = refl
prefixed-meaning f.IndexOf = refl
prefixed-meaning f.Subsequence = refl
prefixed-meaning f.Root = refl

pub prefix_added : (nests : Bool) (behind xs ys : List Lexed) (f : Function) (from to : ℕ) → begins_with_parenthesis xs ≡ true → WrittenOut nests behind xs ys
    → WrittenOut nests behind (lexed kind.Name (function_name f) from ∷ xs) (lexed kind.Name (codes "fn:" ++ function_name f) to ∷ ys)
prefix_added nests behind xs ys f from to g more = function {callee = callee.XPath f} from to (function-meaning f) (prefixed-meaning f) g more

pub prefix_dropped : (nests : Bool) (behind xs ys : List Lexed) (f : Function) (from to : ℕ) → begins_with_parenthesis xs ≡ true → WrittenOut nests behind xs ys
    → WrittenOut nests behind (lexed kind.Name (codes "fn:" ++ function_name f) from ∷ xs) (lexed kind.Name (function_name f) to ∷ ys)
prefix_dropped nests behind xs ys f from to g more = function {callee = callee.XPath f} from to (prefixed-meaning f) (function-meaning f) g more
