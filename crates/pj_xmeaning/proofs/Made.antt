-- Values of rules that are cut off, and of those that are not.
use Rattle.std.proofs.Common.{◌≡◌, List, [], ◌∷◌, ◌++◌, Some, refl}
use Rattle.std.specs.Prelude.{⊤}
use Rattle.pj_xtokens.specs.Tokens.{Lexed}
use Rattle.pj_xgrammar.specs.declared.rule.Rule.{Rule}
use Rattle.pj_xgrammar.specs.declared.rule.Rule.TheVariants as r
use Rattle.pj_xmeaning.specs.declared.action.Action.{Action}
use Rattle.pj_xmeaning.specs.declared.action.Action.TheVariants as action
use Rattle.pj_xmeaning.specs.declared.action.Leaf.TheVariants as leaf
use Rattle.pj_xmeaning.specs.declared.action.Change.TheVariants as change
use Rattle.pj_xmeaning.specs.declared.action.Rest.TheVariants as rest
use Rattle.pj_xmeaning.specs.RuleMeanings.{absent}
use Rattle.pj_xreadings.specs.Operands.{variable}
use Rattle.pj_xmeaning.specs.Parts.{RuleValue, Missing, operand, word, held}
use Rattle.pj_xmeaning.specs.Values.{made, up_to, variable_named}

-- ---- values that are there

abbrev pub IsThere : RuleValue → Type 0
IsThere Missing = ⊥
IsThere _ = ⊤

-- an action makes one
pub made_there : (a : Action) (tokens : List Lexed) (vs : List RuleValue) → IsThere (made a tokens vs)
made_there (action.Leaf leaf.NoOperands) tokens vs = tt
made_there (action.Leaf _) tokens vs = tt
made_there (action.Change change.Bindings) tokens vs = tt
made_there (action.Change _) tokens vs = tt
made_there (action.Single a) tokens vs = tt
made_there (action.Rest rest.Further) tokens vs = tt
made_there (action.Rest _) tokens vs = tt
made_there (action.Operation a) tokens vs = tt
made_there (action.Binder a) tokens vs = tt
made_there (action.Step a) tokens vs = tt
made_there action.If tokens vs = tt
made_there action.Binding tokens vs = tt

-- the operand behind `to` is there
pub up_to_there : (v : RuleValue) → IsThere v → up_to v ≡ Some (operand v)
up_to_there Missing there = absurd there
up_to_there _ there = refl

-- the name behind `$` is there
pub variable_there : (tokens : List Lexed) (v : RuleValue) → IsThere v → variable_named tokens v ≡ variable tokens (word v)
variable_there tokens Missing there = absurd there
variable_there tokens _ there = refl

-- ---- values that are missing

-- where one is missing behind the values, an action makes the same: where there are too few, those that it takes are missing too
pub made_padded : (a : Action) (tokens : List Lexed) (vs : List RuleValue) → made a tokens (vs ++ Missing ∷ []) ≡ made a tokens vs
made_padded (action.Leaf a) tokens more = refl
made_padded (action.Change a) tokens [] = refl
made_padded (action.Change a) tokens (u ∷ more) = refl
made_padded (action.Single a) tokens [] = refl
made_padded (action.Single a) tokens (u ∷ more) = refl
made_padded (action.Rest a) tokens [] = refl
made_padded (action.Rest a) tokens (u ∷ []) = refl
made_padded (action.Rest a) tokens (u ∷ v ∷ more) = refl
made_padded (action.Operation a) tokens [] = refl
made_padded (action.Operation a) tokens (u ∷ []) = refl
made_padded (action.Operation a) tokens (u ∷ v ∷ more) = refl
made_padded (action.Binder a) tokens [] = refl
made_padded (action.Binder a) tokens (u ∷ []) = refl
made_padded (action.Binder a) tokens (u ∷ v ∷ more) = refl
made_padded (action.Step a) tokens [] = refl
made_padded (action.Step a) tokens (u ∷ []) = refl
made_padded (action.Step a) tokens (u ∷ v ∷ more) = refl
made_padded action.If tokens [] = refl
made_padded action.If tokens (u ∷ []) = refl
made_padded action.If tokens (u ∷ v ∷ []) = refl
made_padded action.If tokens (u ∷ v ∷ w ∷ more) = refl
made_padded action.Binding tokens [] = refl
made_padded action.Binding tokens (u ∷ []) = refl
made_padded action.Binding tokens (u ∷ v ∷ []) = refl
made_padded action.Binding tokens (u ∷ v ∷ w ∷ more) = refl

-- a value that is missing holds what its rule says before which the tokens are cut off
pub missing_is : (rule : Rule) → held rule Missing ≡ absent rule
missing_is r.Expr = refl
missing_is r.ExprTail = refl
missing_is r.ExprSingle = refl
missing_is r.InBindings = refl
missing_is r.InBindingsTail = refl
missing_is r.LetBindings = refl
missing_is r.LetBindingsTail = refl
missing_is r.InClause = refl
missing_is r.AssignClause = refl
missing_is r.ReturnClause = refl
missing_is r.SatisfiesClause = refl
missing_is r.TestClause = refl
missing_is r.ThenClause = refl
missing_is r.ElseClause = refl
missing_is r.OrExpr = refl
missing_is r.OrTail = refl
missing_is r.AndExpr = refl
missing_is r.AndTail = refl
missing_is r.ComparisonExpr = refl
missing_is r.ComparisonTail = refl
missing_is r.StringConcatExpr = refl
missing_is r.StringConcatTail = refl
missing_is r.RangeExpr = refl
missing_is r.RangeTail = refl
missing_is r.AdditiveExpr = refl
missing_is r.AdditiveTail = refl
missing_is r.MultiplicativeExpr = refl
missing_is r.MultiplicativeTail = refl
missing_is r.UnionExpr = refl
missing_is r.UnionTail = refl
missing_is r.IntersectExceptExpr = refl
missing_is r.IntersectExceptTail = refl
missing_is r.UnaryExpr = refl
missing_is r.SimpleMapExpr = refl
missing_is r.SimpleMapTail = refl
missing_is r.Operand = refl
missing_is r.LeftOutOperator = refl
missing_is r.PathExpr = refl
missing_is r.RelativePathExpr = refl
missing_is r.RelativePathTail = refl
missing_is r.StepExpr = refl
missing_is r.AxisTail = refl
missing_is r.NameTail = refl
missing_is r.NodeTest = refl
missing_is r.KindTail = refl
missing_is r.PredicateList = refl
missing_is r.PrimaryExpr = refl
missing_is r.Parenthesized = refl
missing_is r.Arguments = refl
missing_is r.ArgumentsTail = refl
missing_is r.VarName = refl
missing_is r.PlainName = refl
