-- How many arguments the functions take.
use Rattle.std.specs.Prelude.{ℕ, Bool, ◌||◌, ◌==◌, nat_le}
use Rattle.pj_xexpressions.specs.declared.function.Function.{Function}
use Rattle.pj_xexpressions.specs.declared.function.Function.TheVariants as f
use Rattle.pj_xexpressions.specs.declared.pmd_function.PmdFunction.{PmdFunction}
use Rattle.pj_xexpressions.specs.declared.pmd_function.PmdFunction.TheVariants as pmd

-- whether the function takes so many arguments (XPath Functions and Operators, without collations)
abbrev pub takes : Function → ℕ → Bool
takes f.Position count = count == 0
takes f.Last count = count == 0
takes f.Count count = count == 1
takes f.Exists count = count == 1
takes f.Empty count = count == 1
takes f.Not count = count == 1
takes f.True count = count == 0
takes f.False count = count == 0
takes f.Boolean count = count == 1
takes f.String count = nat_le count 1
takes f.Data count = count == 1
takes f.Concat count = nat_le 2 count
takes f.StringJoin count = count == 2
takes f.Contains count = count == 2
takes f.StartsWith count = count == 2
takes f.EndsWith count = count == 2
takes f.Substring count = count == 2 || count == 3
takes f.SubstringBefore count = count == 2
takes f.SubstringAfter count = count == 2
takes f.StringLength count = nat_le count 1
takes f.NormalizeSpace count = nat_le count 1
takes f.UpperCase count = count == 1
takes f.LowerCase count = count == 1
takes f.Translate count = count == 3
takes f.Matches count = count == 2 || count == 3
takes f.Replace count = count == 3 || count == 4
takes f.Tokenize count = count == 2 || count == 3
takes f.Name count = nat_le count 1
takes f.LocalName count = nat_le count 1
takes f.DistinctValues count = count == 1
takes f.Sum count = count == 1 || count == 2
takes f.Min count = count == 1
takes f.Max count = count == 1
takes f.Abs count = count == 1
takes f.Reverse count = count == 1
takes f.IndexOf count = count == 2
takes f.Subsequence count = count == 2 || count == 3
takes f.Root count = nat_le count 1

-- whether the function of PMD takes so many arguments
abbrev pub pmd_takes : PmdFunction → ℕ → Bool
pmd_takes pmd.FileName count = count == 0
pmd_takes pmd.StartLine count = count == 1
pmd_takes pmd.StartColumn count = count == 1
pmd_takes pmd.EndLine count = count == 1
pmd_takes pmd.EndColumn count = count == 1
pmd_takes pmd.TypeIs count = count == 1
pmd_takes pmd.TypeIsExactly count = count == 1
pmd_takes pmd.HasAnnotation count = count == 1
pmd_takes pmd.MatchesSig count = count == 1
pmd_takes pmd.NodeIs count = count == 1
pmd_takes pmd.Modifiers count = count == 0
pmd_takes pmd.ExplicitModifiers count = count == 0
