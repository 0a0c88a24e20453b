-- The names of axes and of functions.
use Rattle.std.proofs.Common.{◌≡◌, Some, None, codes, refl}
use Rattle.std.specs.Str.{encode_utf8_all}
use lib.Utf8.{encode}
use Rattle.pj_xgrammar.specs.Words.{word_of}
use Rattle.pj_xgrammar.specs.Terminals.{name_behind}
use Rattle.pj_xgrammar.specs.declared.terminal.Behind.TheVariants as b
use Rattle.pj_xgrammar.specs.declared.word.Word.TheVariants as w
use Rattle.pj_xgrammar.specs.declared.word.Keyword.TheVariants as k
use Rattle.pj_xexpressions.specs.declared.axis.Axis.{Axis}
use Rattle.pj_xexpressions.specs.declared.axis.Axis.TheVariants as axis
use Rattle.pj_xexpressions.specs.declared.function.Function.{Function}
use Rattle.pj_xexpressions.specs.declared.function.Function.TheVariants as f
use Rattle.pj_xexpressions.specs.declared.pmd_function.PmdFunction.{PmdFunction}
use Rattle.pj_xexpressions.specs.declared.pmd_function.PmdFunction.TheVariants as pmd
use Rattle.pj_xexpressions.specs.declared.name.Callee.TheVariants as callee
use Rattle.pj_xexpressions.specs.Names.{axis_of, callee_of}
use Rattle.pj_xsyntax_laws.specs.Printed.{axis_name, function_name, pmd_function_name}

pub axis-word : (a : Axis) → word_of (axis_name a) ≡ Some (w.Keyword k.Axis)
axis-word axis.Child = refl
axis-word axis.Descendant = refl
axis-word axis.SelfNode = refl
axis-word axis.DescendantOrSelf = refl
axis-word axis.FollowingSibling = refl
axis-word axis.Following = refl
axis-word axis.Parent = refl
axis-word axis.Ancestor = refl
axis-word axis.PrecedingSibling = refl
axis-word axis.Preceding = refl
axis-word axis.AncestorOrSelf = refl

pub axis-meaning : (a : Axis) → axis_of (encode_utf8_all (axis_name a)) ≡ Some a
unfolding axis_of encode
axis-meaning axis.Child = refl
axis-meaning axis.Descendant = refl
axis-meaning axis.SelfNode = refl
axis-meaning axis.DescendantOrSelf = refl
axis-meaning axis.FollowingSibling = refl
axis-meaning axis.Following = refl
axis-meaning axis.Parent = refl
axis-meaning axis.Ancestor = refl
axis-meaning axis.PrecedingSibling = refl
axis-meaning axis.Preceding = refl
axis-meaning axis.AncestorOrSelf = refl

pub attribute-meaning : axis_of (encode_utf8_all (codes "attribute")) ≡ None
unfolding axis_of encode
attribute-meaning = refl

pub axis-behind : (a : Axis) → name_behind (axis_name a) ≡ b.Name
axis-behind axis.Child = refl
axis-behind axis.Descendant = refl
axis-behind axis.SelfNode = refl
axis-behind axis.DescendantOrSelf = refl
axis-behind axis.FollowingSibling = refl
axis-behind axis.Following = refl
axis-behind axis.Parent = refl
axis-behind axis.Ancestor = refl
axis-behind axis.PrecedingSibling = refl
axis-behind axis.Preceding = refl
axis-behind axis.AncestorOrSelf = refl

-- ---- functions

pub function-word : (f : Function) → word_of (function_name f) ≡ None
function-word f.Position = refl
function-word f.Last = refl
function-word f.Count = refl
function-word f.Exists = refl
function-word f.Empty = refl
function-word f.Not = refl
function-word f.True = refl
function-word f.False = refl
function-word f.Boolean = refl
function-word f.String = refl
function-word f.Data = refl
function-word f.Concat = refl
function-word f.StringJoin = refl
function-word f.Contains = refl
function-word f.StartsWith = refl
function-word f.EndsWith = refl
function-word f.Substring = refl
function-word f.SubstringBefore = refl
function-word f.SubstringAfter = refl
function-word f.StringLength = refl
function-word f.NormalizeSpace = refl
function-word f.UpperCase = refl
function-word f.LowerCase = refl
function-word f.Translate = refl
function-word f.Matches = refl
function-word f.Replace = refl
function-word f.Tokenize = refl
function-word f.Name = refl
function-word f.LocalName = refl
function-word f.DistinctValues = refl
function-word f.Sum = refl
function-word f.Min = refl
function-word f.Max = refl
function-word f.Abs = refl
function-word f.Reverse = refl
function-word f.IndexOf = refl
function-word f.Subsequence = refl
function-word f.Root = refl

pub function-meaning : (f : Function) → callee_of (encode_utf8_all (function_name f)) ≡ Some (callee.XPath f)
unfolding callee_of encode
function-meaning f.Position = refl
function-meaning f.Last = refl
function-meaning f.Count = refl
function-meaning f.Exists = refl
function-meaning f.Empty = refl
function-meaning f.Not = refl
function-meaning f.True = refl
function-meaning f.False = refl
function-meaning f.Boolean = refl
function-meaning f.String = refl
function-meaning f.Data = refl
function-meaning f.Concat = refl
function-meaning f.StringJoin = refl
function-meaning f.Contains = refl
function-meaning f.StartsWith = refl
function-meaning f.EndsWith = refl
function-meaning f.Substring = refl
function-meaning f.SubstringBefore = refl
function-meaning f.SubstringAfter = refl
function-meaning f.StringLength = refl
function-meaning f.NormalizeSpace = refl
function-meaning f.UpperCase = refl
function-meaning f.LowerCase = refl
function-meaning f.Translate = refl
function-meaning f.Matches = refl
function-meaning f.Replace = refl
function-meaning f.Tokenize = refl
function-meaning f.Name = refl
function-meaning f.LocalName = refl
function-meaning f.DistinctValues = refl
function-meaning f.Sum = refl
function-meaning f.Min = refl
function-meaning f.Max = refl
function-meaning f.Abs = refl
function-meaning f.Reverse = refl
function-meaning f.IndexOf = refl
function-meaning f.Subsequence = refl
function-meaning f.Root = refl

pub function-behind : (f : Function) → name_behind (function_name f) ≡ b.Name
function-behind f.Position = refl
function-behind f.Last = refl
function-behind f.Count = refl
function-behind f.Exists = refl
function-behind f.Empty = refl
function-behind f.Not = refl
function-behind f.True = refl
function-behind f.False = refl
function-behind f.Boolean = refl
function-behind f.String = refl
function-behind f.Data = refl
function-behind f.Concat = refl
function-behind f.StringJoin = refl
function-behind f.Contains = refl
function-behind f.StartsWith = refl
function-behind f.EndsWith = refl
function-behind f.Substring = refl
function-behind f.SubstringBefore = refl
function-behind f.SubstringAfter = refl
function-behind f.StringLength = refl
function-behind f.NormalizeSpace = refl
function-behind f.UpperCase = refl
function-behind f.LowerCase = refl
function-behind f.Translate = refl
function-behind f.Matches = refl
function-behind f.Replace = refl
function-behind f.Tokenize = refl
function-behind f.Name = refl
function-behind f.LocalName = refl
function-behind f.DistinctValues = refl
function-behind f.Sum = refl
function-behind f.Min = refl
function-behind f.Max = refl
function-behind f.Abs = refl
function-behind f.Reverse = refl
function-behind f.IndexOf = refl
function-behind f.Subsequence = refl
function-behind f.Root = refl

pub pmd-word : (f : PmdFunction) → word_of (pmd_function_name f) ≡ None
pmd-word pmd.FileName = refl
pmd-word pmd.StartLine = refl
pmd-word pmd.StartColumn = refl
pmd-word pmd.EndLine = refl
pmd-word pmd.EndColumn = refl
pmd-word pmd.TypeIs = refl
pmd-word pmd.TypeIsExactly = refl
pmd-word pmd.HasAnnotation = refl
pmd-word pmd.MatchesSig = refl
pmd-word pmd.NodeIs = refl
pmd-word pmd.Modifiers = refl
pmd-word pmd.ExplicitModifiers = refl

pub pmd-meaning : (f : PmdFunction) → callee_of (encode_utf8_all (pmd_function_name f)) ≡ Some (callee.Pmd f)
unfolding callee_of encode
pmd-meaning pmd.FileName = refl
pmd-meaning pmd.StartLine = refl
pmd-meaning pmd.StartColumn = refl
pmd-meaning pmd.EndLine = refl
pmd-meaning pmd.EndColumn = refl
pmd-meaning pmd.TypeIs = refl
pmd-meaning pmd.TypeIsExactly = refl
pmd-meaning pmd.HasAnnotation = refl
pmd-meaning pmd.MatchesSig = refl
pmd-meaning pmd.NodeIs = refl
pmd-meaning pmd.Modifiers = refl
pmd-meaning pmd.ExplicitModifiers = refl

pub pmd-behind : (f : PmdFunction) → name_behind (pmd_function_name f) ≡ b.Name
pmd-behind pmd.FileName = refl
pmd-behind pmd.StartLine = refl
pmd-behind pmd.StartColumn = refl
pmd-behind pmd.EndLine = refl
pmd-behind pmd.EndColumn = refl
pmd-behind pmd.TypeIs = refl
pmd-behind pmd.TypeIsExactly = refl
pmd-behind pmd.HasAnnotation = refl
pmd-behind pmd.MatchesSig = refl
pmd-behind pmd.NodeIs = refl
pmd-behind pmd.Modifiers = refl
pmd-behind pmd.ExplicitModifiers = refl
