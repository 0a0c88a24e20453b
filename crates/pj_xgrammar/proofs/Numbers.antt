-- Each rule stands at its number, and the numbers of terminals are all different.
use Rattle.std.proofs.Common.{◌≡◌, ◌<◌, List, [], ◌∷◌, length, Some, refl, sym, ap, ◌∙◌, lit<}
use Rattle.std.specs.Prelude.{slice_get}
use Rattle.pj_xtokens.specs.declared.token.Sign.TheVariants as s
use Rattle.pj_xgrammar.specs.declared.word.Keyword.TheVariants as k
use Rattle.pj_xgrammar.specs.declared.word.Phrase.TheVariants as p
use Rattle.pj_xgrammar.specs.declared.terminal.Terminal.{Terminal}
use Rattle.pj_xgrammar.specs.declared.terminal.Terminal.TheVariants as terminal
use Rattle.pj_xgrammar.specs.declared.rule.Rule.{Rule}
use Rattle.pj_xgrammar.specs.declared.rule.Rule.TheVariants as r
use Rattle.pj_xgrammar.specs.Terminals.{terminal_number}
use Rattle.pj_xgrammar.specs.Notation.{rule_number}
use Rattle.pj_xgrammar.specs.XPath.{xpath, rules, xpath_grammar}

pub line_count : length xpath_grammar ≡ 159
unfolding xpath rules xpath_grammar
line_count = refl

pub rule_at : (rule : Rule) → slice_get rules (rule_number rule) ≡ Some rule
unfolding rules
rule_at r.Expr = refl
rule_at r.ExprTail = refl
rule_at r.ExprSingle = refl
rule_at r.InBindings = refl
rule_at r.InBindingsTail = refl
rule_at r.LetBindings = refl
rule_at r.LetBindingsTail = refl
rule_at r.InClause = refl
rule_at r.AssignClause = refl
rule_at r.ReturnClause = refl
rule_at r.SatisfiesClause = refl
rule_at r.TestClause = refl
rule_at r.ThenClause = refl
rule_at r.ElseClause = refl
rule_at r.OrExpr = refl
rule_at r.OrTail = refl
rule_at r.AndExpr = refl
rule_at r.AndTail = refl
rule_at r.ComparisonExpr = refl
rule_at r.ComparisonTail = refl
rule_at r.StringConcatExpr = refl
rule_at r.StringConcatTail = refl
rule_at r.RangeExpr = refl
rule_at r.RangeTail = refl
rule_at r.AdditiveExpr = refl
rule_at r.AdditiveTail = refl
rule_at r.MultiplicativeExpr = refl
rule_at r.MultiplicativeTail = refl
rule_at r.UnionExpr = refl
rule_at r.UnionTail = refl
rule_at r.IntersectExceptExpr = refl
rule_at r.IntersectExceptTail = refl
rule_at r.UnaryExpr = refl
rule_at r.SimpleMapExpr = refl
rule_at r.SimpleMapTail = refl
rule_at r.Operand = refl
rule_at r.LeftOutOperator = refl
rule_at r.PathExpr = refl
rule_at r.RelativePathExpr = refl
rule_at r.RelativePathTail = refl
rule_at r.StepExpr = refl
rule_at r.AxisTail = refl
rule_at r.NameTail = refl
rule_at r.NodeTest = refl
rule_at r.KindTail = refl
rule_at r.PredicateList = refl
rule_at r.PrimaryExpr = refl
rule_at r.Parenthesized = refl
rule_at r.Arguments = refl
rule_at r.ArgumentsTail = refl
rule_at r.VarName = refl
rule_at r.PlainName = refl

terminals : List Terminal
terminals =
    terminal.Name ∷ terminal.Integer ∷ terminal.Decimal ∷ terminal.Double ∷ terminal.String ∷ terminal.LoneSlash ∷
    terminal.Sign s.LeftParenthesis ∷ terminal.Sign s.RightParenthesis ∷ terminal.Sign s.LeftBracket ∷
    terminal.Sign s.RightBracket ∷ terminal.Sign s.LeftBrace ∷ terminal.Sign s.RightBrace ∷ terminal.Sign s.Comma ∷
    terminal.Sign s.Dot ∷ terminal.Sign s.DotDot ∷ terminal.Sign s.Slash ∷ terminal.Sign s.SlashSlash ∷
    terminal.Sign s.Colon ∷ terminal.Sign s.ColonColon ∷ terminal.Sign s.ColonEqual ∷ terminal.Sign s.Bang ∷
    terminal.Sign s.BangEqual ∷ terminal.Sign s.Dollar ∷ terminal.Sign s.Star ∷ terminal.Sign s.Plus ∷
    terminal.Sign s.Minus ∷ terminal.Sign s.Less ∷ terminal.Sign s.LessLess ∷ terminal.Sign s.LessEqual ∷
    terminal.Sign s.Equal ∷ terminal.Sign s.Arrow ∷ terminal.Sign s.Greater ∷ terminal.Sign s.GreaterGreater ∷
    terminal.Sign s.GreaterEqual ∷ terminal.Sign s.Question ∷ terminal.Sign s.At ∷ terminal.Sign s.Bar ∷
    terminal.Sign s.BarBar ∷ terminal.Sign s.Hash ∷ terminal.Keyword k.And ∷ terminal.Keyword k.Div ∷
    terminal.Keyword k.Else ∷ terminal.Keyword k.Eq ∷ terminal.Keyword k.Except ∷ terminal.Keyword k.Ge ∷
    terminal.Keyword k.Gt ∷ terminal.Keyword k.Idiv ∷ terminal.Keyword k.In ∷ terminal.Keyword k.Intersect ∷
    terminal.Keyword k.Is ∷ terminal.Keyword k.Le ∷ terminal.Keyword k.Lt ∷ terminal.Keyword k.Mod ∷ terminal.Keyword k.Ne ∷
    terminal.Keyword k.Or ∷ terminal.Keyword k.Return ∷ terminal.Keyword k.Satisfies ∷ terminal.Keyword k.Then ∷
    terminal.Keyword k.To ∷ terminal.Keyword k.Union ∷ terminal.Keyword k.Axis ∷ terminal.Keyword k.Element ∷
    terminal.Keyword k.Node ∷ terminal.Phrase p.Array ∷ terminal.Phrase p.CastableAs ∷ terminal.Phrase p.CastAs ∷
    terminal.Phrase p.Every ∷ terminal.Phrase p.For ∷ terminal.Phrase p.Function ∷ terminal.Phrase p.If ∷
    terminal.Phrase p.InstanceOf ∷ terminal.Phrase p.Let ∷ terminal.Phrase p.Map ∷ terminal.Phrase p.Some ∷
    terminal.Phrase p.TreatAs ∷ []

terminal_at : (a : Terminal) → slice_get terminals (terminal_number a) ≡ Some a
unfolding terminals
terminal_at terminal.Name = refl
terminal_at terminal.Integer = refl
terminal_at terminal.Decimal = refl
terminal_at terminal.Double = refl
terminal_at terminal.String = refl
terminal_at terminal.LoneSlash = refl
terminal_at (terminal.Sign s.LeftParenthesis) = refl
terminal_at (terminal.Sign s.RightParenthesis) = refl
terminal_at (terminal.Sign s.LeftBracket) = refl
terminal_at (terminal.Sign s.RightBracket) = refl
terminal_at (terminal.Sign s.LeftBrace) = refl
terminal_at (terminal.Sign s.RightBrace) = refl
terminal_at (terminal.Sign s.Comma) = refl
terminal_at (terminal.Sign s.Dot) = refl
terminal_at (terminal.Sign s.DotDot) = refl
terminal_at (terminal.Sign s.Slash) = refl
terminal_at (terminal.Sign s.SlashSlash) = refl
terminal_at (terminal.Sign s.Colon) = refl
terminal_at (terminal.Sign s.ColonColon) = refl
terminal_at (terminal.Sign s.ColonEqual) = refl
terminal_at (terminal.Sign s.Bang) = refl
terminal_at (terminal.Sign s.BangEqual) = refl
terminal_at (terminal.Sign s.Dollar) = refl
terminal_at (terminal.Sign s.Star) = refl
terminal_at (terminal.Sign s.Plus) = refl
terminal_at (terminal.Sign s.Minus) = refl
terminal_at (terminal.Sign s.Less) = refl
terminal_at (terminal.Sign s.LessLess) = refl
terminal_at (terminal.Sign s.LessEqual) = refl
terminal_at (terminal.Sign s.Equal) = refl
terminal_at (terminal.Sign s.Arrow) = refl
terminal_at (terminal.Sign s.Greater) = refl
terminal_at (terminal.Sign s.GreaterGreater) = refl
terminal_at (terminal.Sign s.GreaterEqual) = refl
terminal_at (terminal.Sign s.Question) = refl
terminal_at (terminal.Sign s.At) = refl
terminal_at (terminal.Sign s.Bar) = refl
terminal_at (terminal.Sign s.BarBar) = refl
terminal_at (terminal.Sign s.Hash) = refl
terminal_at (terminal.Keyword k.And) = refl
terminal_at (terminal.Keyword k.Div) = refl
terminal_at (terminal.Keyword k.Else) = refl
terminal_at (terminal.Keyword k.Eq) = refl
terminal_at (terminal.Keyword k.Except) = refl
terminal_at (terminal.Keyword k.Ge) = refl
terminal_at (terminal.Keyword k.Gt) = refl
terminal_at (terminal.Keyword k.Idiv) = refl
terminal_at (terminal.Keyword k.In) = refl
terminal_at (terminal.Keyword k.Intersect) = refl
terminal_at (terminal.Keyword k.Is) = refl
terminal_at (terminal.Keyword k.Le) = refl
terminal_at (terminal.Keyword k.Lt) = refl
terminal_at (terminal.Keyword k.Mod) = refl
terminal_at (terminal.Keyword k.Ne) = refl
terminal_at (terminal.Keyword k.Or) = refl
terminal_at (terminal.Keyword k.Return) = refl
terminal_at (terminal.Keyword k.Satisfies) = refl
terminal_at (terminal.Keyword k.Then) = refl
terminal_at (terminal.Keyword k.To) = refl
terminal_at (terminal.Keyword k.Union) = refl
terminal_at (terminal.Keyword k.Axis) = refl
terminal_at (terminal.Keyword k.Element) = refl
terminal_at (terminal.Keyword k.Node) = refl
terminal_at (terminal.Phrase p.Array) = refl
terminal_at (terminal.Phrase p.CastableAs) = refl
terminal_at (terminal.Phrase p.CastAs) = refl
terminal_at (terminal.Phrase p.Every) = refl
terminal_at (terminal.Phrase p.For) = refl
terminal_at (terminal.Phrase p.Function) = refl
terminal_at (terminal.Phrase p.If) = refl
terminal_at (terminal.Phrase p.InstanceOf) = refl
terminal_at (terminal.Phrase p.Let) = refl
terminal_at (terminal.Phrase p.Map) = refl
terminal_at (terminal.Phrase p.Some) = refl
terminal_at (terminal.Phrase p.TreatAs) = refl

pub terminals_differ : (a b : Terminal) → terminal_number a ≡ terminal_number b → a ≡ b
terminals_differ a b e =
    let same : Some a ≡ Some b = sym (terminal_at a) ∙ (ap (slice_get terminals) e ∙ terminal_at b) in
    cc

pub terminals_end : (a : Terminal) → terminal_number a < 75
terminals_end terminal.Name = lit< tt
terminals_end terminal.Integer = lit< tt
terminals_end terminal.Decimal = lit< tt
terminals_end terminal.Double = lit< tt
terminals_end terminal.String = lit< tt
terminals_end terminal.LoneSlash = lit< tt
terminals_end (terminal.Sign s.LeftParenthesis) = lit< tt
terminals_end (terminal.Sign s.RightParenthesis) = lit< tt
terminals_end (terminal.Sign s.LeftBracket) = lit< tt
terminals_end (terminal.Sign s.RightBracket) = lit< tt
terminals_end (terminal.Sign s.LeftBrace) = lit< tt
terminals_end (terminal.Sign s.RightBrace) = lit< tt
terminals_end (terminal.Sign s.Comma) = lit< tt
terminals_end (terminal.Sign s.Dot) = lit< tt
terminals_end (terminal.Sign s.DotDot) = lit< tt
terminals_end (terminal.Sign s.Slash) = lit< tt
terminals_end (terminal.Sign s.SlashSlash) = lit< tt
terminals_end (terminal.Sign s.Colon) = lit< tt
terminals_end (terminal.Sign s.ColonColon) = lit< tt
terminals_end (terminal.Sign s.ColonEqual) = lit< tt
terminals_end (terminal.Sign s.Bang) = lit< tt
terminals_end (terminal.Sign s.BangEqual) = lit< tt
terminals_end (terminal.Sign s.Dollar) = lit< tt
terminals_end (terminal.Sign s.Star) = lit< tt
terminals_end (terminal.Sign s.Plus) = lit< tt
terminals_end (terminal.Sign s.Minus) = lit< tt
terminals_end (terminal.Sign s.Less) = lit< tt
terminals_end (terminal.Sign s.LessLess) = lit< tt
terminals_end (terminal.Sign s.LessEqual) = lit< tt
terminals_end (terminal.Sign s.Equal) = lit< tt
terminals_end (terminal.Sign s.Arrow) = lit< tt
terminals_end (terminal.Sign s.Greater) = lit< tt
terminals_end (terminal.Sign s.GreaterGreater) = lit< tt
terminals_end (terminal.Sign s.GreaterEqual) = lit< tt
terminals_end (terminal.Sign s.Question) = lit< tt
terminals_end (terminal.Sign s.At) = lit< tt
terminals_end (terminal.Sign s.Bar) = lit< tt
terminals_end (terminal.Sign s.BarBar) = lit< tt
terminals_end (terminal.Sign s.Hash) = lit< tt
terminals_end (terminal.Keyword k.And) = lit< tt
terminals_end (terminal.Keyword k.Div) = lit< tt
terminals_end (terminal.Keyword k.Else) = lit< tt
terminals_end (terminal.Keyword k.Eq) = lit< tt
terminals_end (terminal.Keyword k.Except) = lit< tt
terminals_end (terminal.Keyword k.Ge) = lit< tt
terminals_end (terminal.Keyword k.Gt) = lit< tt
terminals_end (terminal.Keyword k.Idiv) = lit< tt
terminals_end (terminal.Keyword k.In) = lit< tt
terminals_end (terminal.Keyword k.Intersect) = lit< tt
terminals_end (terminal.Keyword k.Is) = lit< tt
terminals_end (terminal.Keyword k.Le) = lit< tt
terminals_end (terminal.Keyword k.Lt) = lit< tt
terminals_end (terminal.Keyword k.Mod) = lit< tt
terminals_end (terminal.Keyword k.Ne) = lit< tt
terminals_end (terminal.Keyword k.Or) = lit< tt
terminals_end (terminal.Keyword k.Return) = lit< tt
terminals_end (terminal.Keyword k.Satisfies) = lit< tt
terminals_end (terminal.Keyword k.Then) = lit< tt
terminals_end (terminal.Keyword k.To) = lit< tt
terminals_end (terminal.Keyword k.Union) = lit< tt
terminals_end (terminal.Keyword k.Axis) = lit< tt
terminals_end (terminal.Keyword k.Element) = lit< tt
terminals_end (terminal.Keyword k.Node) = lit< tt
terminals_end (terminal.Phrase p.Array) = lit< tt
terminals_end (terminal.Phrase p.CastableAs) = lit< tt
terminals_end (terminal.Phrase p.CastAs) = lit< tt
terminals_end (terminal.Phrase p.Every) = lit< tt
terminals_end (terminal.Phrase p.For) = lit< tt
terminals_end (terminal.Phrase p.Function) = lit< tt
terminals_end (terminal.Phrase p.If) = lit< tt
terminals_end (terminal.Phrase p.InstanceOf) = lit< tt
terminals_end (terminal.Phrase p.Let) = lit< tt
terminals_end (terminal.Phrase p.Map) = lit< tt
terminals_end (terminal.Phrase p.Some) = lit< tt
terminals_end (terminal.Phrase p.TreatAs) = lit< tt
