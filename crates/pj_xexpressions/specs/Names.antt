-- The names of functions (XQuery 1.0 and XPath 2.0 Functions and Operators; those of PMD) and of axes, in bytes.
use Rattle.std.specs.Prelude.{ℕ, ◌==◌, ◌&&◌, Bool, true, false, List, [], ◌∷◌, Option, Some, None, codes, if◌then◌else◌}
use Rattle.pj_base.specs.WordTable.{value_in}
use Rattle.pj_xexpressions.specs.declared.axis.Axis.{Axis}
use Rattle.pj_xexpressions.specs.declared.axis.Axis.TheVariants as axis
use Rattle.pj_xexpressions.specs.declared.function.Function.{Function}
use Rattle.pj_xexpressions.specs.declared.function.Function.TheVariants as f
use Rattle.pj_xexpressions.specs.declared.pmd_function.PmdFunction.{PmdFunction}
use Rattle.pj_xexpressions.specs.declared.pmd_function.PmdFunction.TheVariants as pmd
use Rattle.pj_xexpressions.specs.declared.name.Callee.{Callee}
use Rattle.pj_xexpressions.specs.declared.name.Callee.TheVariants.{XPath, Pmd}

-- the 38 functions
abbrev pub functions : List (List ℕ × Function)
functions =
    (codes "position", f.Position)
    ∷ (codes "last", f.Last)
    ∷ (codes "count", f.Count)
    ∷ (codes "exists", f.Exists)
    ∷ (codes "empty", f.Empty)
    ∷ (codes "not", f.Not)
    ∷ (codes "true", f.True)
    ∷ (codes "false", f.False)
    ∷ (codes "boolean", f.Boolean)
    ∷ (codes "string", f.String)
    ∷ (codes "data", f.Data)
    ∷ (codes "concat", f.Concat)
    ∷ (codes "string-join", f.StringJoin)
    ∷ (codes "contains", f.Contains)
    ∷ (codes "starts-with", f.StartsWith)
    ∷ (codes "ends-with", f.EndsWith)
    ∷ (codes "substring", f.Substring)
    ∷ (codes "substring-before", f.SubstringBefore)
    ∷ (codes "substring-after", f.SubstringAfter)
    ∷ (codes "string-length", f.StringLength)
    ∷ (codes "normalize-space", f.NormalizeSpace)
    ∷ (codes "upper-case", f.UpperCase)
    ∷ (codes "lower-case", f.LowerCase)
    ∷ (codes "translate", f.Translate)
    ∷ (codes "matches", f.Matches)
    ∷ (codes "replace", f.Replace)
    ∷ (codes "tokenize", f.Tokenize)
    ∷ (codes "name", f.Name)
    ∷ (codes "local-name", f.LocalName)
    ∷ (codes "distinct-values", f.DistinctValues)
    ∷ (codes "sum", f.Sum)
    ∷ (codes "min", f.Min)
    ∷ (codes "max", f.Max)
    ∷ (codes "abs", f.Abs)
    ∷ (codes "reverse", f.Reverse)
    ∷ (codes "index-of", f.IndexOf)
    ∷ (codes "subsequence", f.Subsequence)
    ∷ (codes "root", f.Root)
    ∷ []

-- the 12 functions of PMD
abbrev pub pmd_functions : List (List ℕ × PmdFunction)
pmd_functions =
    (codes "pmd:fileName", pmd.FileName)
    ∷ (codes "pmd:startLine", pmd.StartLine)
    ∷ (codes "pmd:startColumn", pmd.StartColumn)
    ∷ (codes "pmd:endLine", pmd.EndLine)
    ∷ (codes "pmd:endColumn", pmd.EndColumn)
    ∷ (codes "pmd-java:typeIs", pmd.TypeIs)
    ∷ (codes "pmd-java:typeIsExactly", pmd.TypeIsExactly)
    ∷ (codes "pmd-java:hasAnnotation", pmd.HasAnnotation)
    ∷ (codes "pmd-java:matchesSig", pmd.MatchesSig)
    ∷ (codes "pmd-java:nodeIs", pmd.NodeIs)
    ∷ (codes "pmd-java:modifiers", pmd.Modifiers)
    ∷ (codes "pmd-java:explicitModifiers", pmd.ExplicitModifiers)
    ∷ []

-- XPath 2.0, 3.2.1.1: the axes of nodes, but `namespace`
abbrev pub axes : List (List ℕ × Axis)
axes =
    (codes "child", axis.Child)
    ∷ (codes "descendant", axis.Descendant)
    ∷ (codes "self", axis.SelfNode)
    ∷ (codes "descendant-or-self", axis.DescendantOrSelf)
    ∷ (codes "following-sibling", axis.FollowingSibling)
    ∷ (codes "following", axis.Following)
    ∷ (codes "parent", axis.Parent)
    ∷ (codes "ancestor", axis.Ancestor)
    ∷ (codes "preceding-sibling", axis.PrecedingSibling)
    ∷ (codes "preceding", axis.Preceding)
    ∷ (codes "ancestor-or-self", axis.AncestorOrSelf)
    ∷ []

-- whether the text begins with the other one
abbrev pub begins_with : List ℕ → List ℕ → Bool
begins_with [] text = true
begins_with (c ∷ cs) [] = false
begins_with (c ∷ cs) (d ∷ ds) = (c == d) && begins_with cs ds

-- the text without so many bytes at its beginning
abbrev pub without : List ℕ → List ℕ → List ℕ
without [] text = text
without (c ∷ cs) [] = []
without (c ∷ cs) (d ∷ ds) = without cs ds

-- the name without the prefix of the functions of XPath
abbrev pub unprefixed : List ℕ → List ℕ
unprefixed name = if begins_with (codes "fn:") name then without (codes "fn:") name else name

abbrev pub xpath_or_pmd : Option Function → Option PmdFunction → Option Callee
xpath_or_pmd (Some function) other = Some (XPath function)
xpath_or_pmd None (Some function) = Some (Pmd function)
xpath_or_pmd None None = None

-- The function that a name calls: one of XPath, with or without the prefix `fn:`, or one of PMD.
unfoldable pub callee_of : List ℕ → Option Callee
callee_of name = xpath_or_pmd (value_in functions (unprefixed name)) (value_in pmd_functions name)

unfoldable pub axis_of : List ℕ → Option Axis
axis_of name = value_in axes name
