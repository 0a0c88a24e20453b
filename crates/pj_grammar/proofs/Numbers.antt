-- Each rule stands at its number, and the numbers of terminals are all different.
use Rattle.std.proofs.Common.{◌≡◌, ◌<◌, ℕ, List, [], ◌∷◌, ◌++◌, map, Some, refl, sym, ap, ◌∙◌, lit<}
use Rattle.std.specs.Prelude.{slice_get}
use Rattle.std.specs.Option.{option_map}
use Rattle.std.proofs.lemmas.Option.{slice_get-map}
use Rattle.pj_lex.specs.declared.token.TokenKind.{TokenKind}
use Rattle.pj_lex.specs.declared.token.TokenKind.TheVariants as t
use Rattle.pj_shape.specs.Shaped.{shape_of}
use Rattle.pj_shape.specs.ShapedTree.{MakesNode}
use Rattle.pj_grammar.specs.declared.rule.Rule.{Rule}
use Rattle.pj_grammar.specs.declared.rule.Rule.TheVariants as r
use Rattle.pj_grammar.specs.declared.terminal.ContextualWord.TheVariants.{Non, Sealed, Record, Permits, Var, Yield}
use Rattle.pj_grammar.specs.declared.terminal.Terminal.{Terminal}
use Rattle.pj_grammar.specs.declared.terminal.Terminal.TheVariants.{Token, Word}
use Rattle.pj_grammar.specs.Notation.{rule_number}
use Rattle.pj_grammar.specs.Terminal.{terminal_number}
use Rattle.pj_grammar.specs.Java17.{java_17, rules, java_17_forms, java_17_shapes}

-- ---- rules

rule_at : (name : Rule) → slice_get rules (rule_number name) ≡ Some name
unfolding rules
rule_at r.Unit = refl
rule_at r.Package = refl
rule_at r.Name = refl
rule_at r.Import = refl
rule_at r.EmptyD = refl
rule_at r.AMods = refl
rule_at r.LMods = refl
rule_at r.NoMods = refl
rule_at r.Mods = refl
rule_at r.Mod = refl
rule_at r.Ann = refl
rule_at r.AName = refl
rule_at r.ASeg = refl
rule_at r.AnnArgs = refl
rule_at r.Pair = refl
rule_at r.Short = refl
rule_at r.MVal = refl
rule_at r.MArr = refl
rule_at r.TypeD = refl
rule_at r.ClassD = refl
rule_at r.InterfaceD = refl
rule_at r.EnumD = refl
rule_at r.RecordD = refl
rule_at r.AnnD = refl
rule_at r.Ext1 = refl
rule_at r.ExtN = refl
rule_at r.Impl = refl
rule_at r.Permits = refl
rule_at r.Throws = refl
rule_at r.TParams = refl
rule_at r.TParam = refl
rule_at r.Bound = refl
rule_at r.GT = refl
rule_at r.ClassB = refl
rule_at r.AnnB = refl
rule_at r.RecordB = refl
rule_at r.EnumB = refl
rule_at r.EConst = refl
rule_at r.Anon = refl
rule_at r.Comps = refl
rule_at r.Comp = refl
rule_at r.Compact = refl
rule_at r.Member = refl
rule_at r.Init = refl
rule_at r.Ctor = refl
rule_at r.CBlock = refl
rule_at r.Explicit = refl
rule_at r.Method = refl
rule_at r.Default = refl
rule_at r.Field = refl
rule_at r.Declr = refl
rule_at r.Init1 = refl
rule_at r.ArrInit = refl
rule_at r.VarId = refl
rule_at r.VarP = refl
rule_at r.Dims = refl
rule_at r.Dim = refl
rule_at r.Params = refl
rule_at r.Recv = refl
rule_at r.Param = refl
rule_at r.PType = refl
rule_at r.VArr = refl
rule_at r.VDims = refl
rule_at r.VDim = refl
rule_at r.Type = refl
rule_at r.ArrT = refl
rule_at r.Base = refl
rule_at r.PrimT = refl
rule_at r.Prim = refl
rule_at r.VoidT = refl
rule_at r.CType = refl
rule_at r.Seg = refl
rule_at r.TArgs = refl
rule_at r.TArg = refl
rule_at r.Wild = refl
rule_at r.Block = refl
rule_at r.BStmt = refl
rule_at r.LClass = refl
rule_at r.LVar = refl
rule_at r.VType = refl
rule_at r.Stmt = refl
rule_at r.Label = refl
rule_at r.If = refl
rule_at r.While = refl
rule_at r.Do = refl
rule_at r.Each = refl
rule_at r.EVar = refl
rule_at r.EDecl = refl
rule_at r.For = refl
rule_at r.FInit = refl
rule_at r.FUpd = refl
rule_at r.ExprL = refl
rule_at r.Try = refl
rule_at r.Ress = refl
rule_at r.Res = refl
rule_at r.RVar = refl
rule_at r.RDecl = refl
rule_at r.Catch = refl
rule_at r.CPar = refl
rule_at r.CTypes = refl
rule_at r.Finally = refl
rule_at r.Switch = refl
rule_at r.SwE = refl
rule_at r.SwB = refl
rule_at r.Arrow = refl
rule_at r.Group = refl
rule_at r.SLabel = refl
rule_at r.Sync = refl
rule_at r.Return = refl
rule_at r.Throw = refl
rule_at r.Break = refl
rule_at r.Continue = refl
rule_at r.Assert = refl
rule_at r.Yield = refl
rule_at r.EmptyS = refl
rule_at r.ExprS = refl
rule_at r.Expr = refl
rule_at r.Lambda = refl
rule_at r.LPars = refl
rule_at r.LTyped = refl
rule_at r.LId = refl
rule_at r.Assign = refl
rule_at r.AOp = refl
rule_at r.Cond = refl
rule_at r.Tern = refl
rule_at r.OrOr = refl
rule_at r.OrOrTurn = refl
rule_at r.AndAnd = refl
rule_at r.AndAndTurn = refl
rule_at r.BOr = refl
rule_at r.BOrTurn = refl
rule_at r.BXor = refl
rule_at r.BXorTurn = refl
rule_at r.BAnd = refl
rule_at r.BAndTurn = refl
rule_at r.Eq = refl
rule_at r.EqTurn = refl
rule_at r.Rel = refl
rule_at r.RelTurn = refl
rule_at r.PatE = refl
rule_at r.TPat = refl
rule_at r.TypeE = refl
rule_at r.Shift = refl
rule_at r.ShiftTurn = refl
rule_at r.Add = refl
rule_at r.AddTurn = refl
rule_at r.Mul = refl
rule_at r.MulTurn = refl
rule_at r.Unary = refl
rule_at r.Pre = refl
rule_at r.CastP = refl
rule_at r.CastR = refl
rule_at r.CastT = refl
rule_at r.Post = refl
rule_at r.PostTurn = refl
rule_at r.Primary = refl
rule_at r.PrimaryMethodCall = refl
rule_at r.PrimaryFieldAccess = refl
rule_at r.PrimaryConstructorCall = refl
rule_at r.PrimaryArrayAccess = refl
rule_at r.PrimaryMethodReference = refl
rule_at r.Head = refl
rule_at r.Num = refl
rule_at r.Str = refl
rule_at r.Chr = refl
rule_at r.Bool = refl
rule_at r.Null = refl
rule_at r.ClassL = refl
rule_at r.This = refl
rule_at r.Super = refl
rule_at r.NewA = refl
rule_at r.NArr = refl
rule_at r.NDims = refl
rule_at r.DimE = refl
rule_at r.New = refl
rule_at r.MRef = refl
rule_at r.Call = refl
rule_at r.Var = refl
rule_at r.Args = refl

get_map : {A B : Type 0} (f : A → B) (xs : List A) (n : ℕ) (x : A) → slice_get xs n ≡ Some x → slice_get (map f xs) n ≡ Some (f x)
get_map f xs n x is = slice_get-map f xs n ∙ ap (option_map f) is

pub form_at : (name : Rule) → slice_get java_17_forms (rule_number name) ≡ Some (java_17 name).form
unfolding java_17_forms
form_at name = get_map (λ n. (java_17 n).form) rules (rule_number name) name (rule_at name)

pub shape_at : (name : Rule) → slice_get java_17_shapes (rule_number name) ≡ Some (java_17 name).makes
unfolding java_17_shapes
shape_at name = get_map (λ n. (java_17 n).makes) rules (rule_number name) name (rule_at name)

pub file_makes_node : MakesNode (shape_of java_17_shapes 0)
unfolding java_17 rules java_17_shapes
file_makes_node = tt

-- ---- terminals

abbrev kinds : List TokenKind
kinds =
    t.Identifier ∷ t.Abstract ∷ t.Assert ∷ t.Boolean ∷ t.Break ∷ t.Byte ∷ t.Case ∷ t.Catch ∷ t.Char ∷ t.Class ∷
    t.Const ∷ t.Continue ∷ t.Default ∷ t.Do ∷ t.Double ∷ t.Else ∷ t.Enum ∷ t.Extends ∷ t.Final ∷ t.Finally ∷ t.Float ∷
    t.For ∷ t.Goto ∷ t.If ∷ t.Implements ∷ t.Import ∷ t.Instanceof ∷ t.Int ∷ t.Interface ∷ t.Long ∷ t.Native ∷ t.New ∷
    t.Package ∷ t.Private ∷ t.Protected ∷ t.Public ∷ t.Return ∷ t.Short ∷ t.Static ∷ t.Strictfp ∷ t.Super ∷ t.Switch ∷
    t.Synchronized ∷ t.This ∷ t.Throw ∷ t.Throws ∷ t.Transient ∷ t.Try ∷ t.Void ∷ t.Volatile ∷ t.While ∷ t.Underscore ∷
    t.True ∷ t.False ∷ t.Null ∷ t.IntLiteral ∷ t.FloatLiteral ∷ t.CharLiteral ∷ t.StringLiteral ∷ t.TextBlock ∷
    t.Comment ∷ t.LeftParenthesis ∷ t.RightParenthesis ∷ t.LeftBrace ∷ t.RightBrace ∷ t.LeftBracket ∷ t.RightBracket ∷
    t.Semicolon ∷ t.Comma ∷ t.Dot ∷ t.Ellipsis ∷ t.At ∷ t.ColonColon ∷ t.Assign ∷ t.Less ∷ t.Bang ∷ t.Tilde ∷
    t.Question ∷ t.Colon ∷ t.Arrow ∷ t.EqualEqual ∷ t.LessEqual ∷ t.BangEqual ∷ t.AndAnd ∷ t.OrOr ∷ t.PlusPlus ∷
    t.MinusMinus ∷ t.Plus ∷ t.Minus ∷ t.Star ∷ t.Slash ∷ t.Ampersand ∷ t.Bar ∷ t.Caret ∷ t.Percent ∷ t.LessLess ∷
    t.PlusAssign ∷ t.MinusAssign ∷ t.StarAssign ∷ t.SlashAssign ∷ t.AmpersandAssign ∷ t.BarAssign ∷ t.CaretAssign ∷
    t.PercentAssign ∷ t.LessLessAssign ∷ t.Greater ∷ t.GreaterJoined ∷ []

abbrev terminals : List Terminal
terminals = map Token kinds ++ (Word Non ∷ Word Sealed ∷ Word Record ∷ Word Permits ∷ Word Var ∷ Word Yield ∷ [])

terminal_at : (x : Terminal) → slice_get terminals (terminal_number x) ≡ Some x
terminal_at (Token t.Identifier) = refl
terminal_at (Token t.Abstract) = refl
terminal_at (Token t.Assert) = refl
terminal_at (Token t.Boolean) = refl
terminal_at (Token t.Break) = refl
terminal_at (Token t.Byte) = refl
terminal_at (Token t.Case) = refl
terminal_at (Token t.Catch) = refl
terminal_at (Token t.Char) = refl
terminal_at (Token t.Class) = refl
terminal_at (Token t.Const) = refl
terminal_at (Token t.Continue) = refl
terminal_at (Token t.Default) = refl
terminal_at (Token t.Do) = refl
terminal_at (Token t.Double) = refl
terminal_at (Token t.Else) = refl
terminal_at (Token t.Enum) = refl
terminal_at (Token t.Extends) = refl
terminal_at (Token t.Final) = refl
terminal_at (Token t.Finally) = refl
terminal_at (Token t.Float) = refl
terminal_at (Token t.For) = refl
terminal_at (Token t.Goto) = refl
terminal_at (Token t.If) = refl
terminal_at (Token t.Implements) = refl
terminal_at (Token t.Import) = refl
terminal_at (Token t.Instanceof) = refl
terminal_at (Token t.Int) = refl
terminal_at (Token t.Interface) = refl
terminal_at (Token t.Long) = refl
terminal_at (Token t.Native) = refl
terminal_at (Token t.New) = refl
terminal_at (Token t.Package) = refl
terminal_at (Token t.Private) = refl
terminal_at (Token t.Protected) = refl
terminal_at (Token t.Public) = refl
terminal_at (Token t.Return) = refl
terminal_at (Token t.Short) = refl
terminal_at (Token t.Static) = refl
terminal_at (Token t.Strictfp) = refl
terminal_at (Token t.Super) = refl
terminal_at (Token t.Switch) = refl
terminal_at (Token t.Synchronized) = refl
terminal_at (Token t.This) = refl
terminal_at (Token t.Throw) = refl
terminal_at (Token t.Throws) = refl
terminal_at (Token t.Transient) = refl
terminal_at (Token t.Try) = refl
terminal_at (Token t.Void) = refl
terminal_at (Token t.Volatile) = refl
terminal_at (Token t.While) = refl
terminal_at (Token t.Underscore) = refl
terminal_at (Token t.True) = refl
terminal_at (Token t.False) = refl
terminal_at (Token t.Null) = refl
terminal_at (Token t.IntLiteral) = refl
terminal_at (Token t.FloatLiteral) = refl
terminal_at (Token t.CharLiteral) = refl
terminal_at (Token t.StringLiteral) = refl
terminal_at (Token t.TextBlock) = refl
terminal_at (Token t.Comment) = refl
terminal_at (Token t.LeftParenthesis) = refl
terminal_at (Token t.RightParenthesis) = refl
terminal_at (Token t.LeftBrace) = refl
terminal_at (Token t.RightBrace) = refl
terminal_at (Token t.LeftBracket) = refl
terminal_at (Token t.RightBracket) = refl
terminal_at (Token t.Semicolon) = refl
terminal_at (Token t.Comma) = refl
terminal_at (Token t.Dot) = refl
terminal_at (Token t.Ellipsis) = refl
terminal_at (Token t.At) = refl
terminal_at (Token t.ColonColon) = refl
terminal_at (Token t.Assign) = refl
terminal_at (Token t.Less) = refl
terminal_at (Token t.Bang) = refl
terminal_at (Token t.Tilde) = refl
terminal_at (Token t.Question) = refl
terminal_at (Token t.Colon) = refl
terminal_at (Token t.Arrow) = refl
terminal_at (Token t.EqualEqual) = refl
terminal_at (Token t.LessEqual) = refl
terminal_at (Token t.BangEqual) = refl
terminal_at (Token t.AndAnd) = refl
terminal_at (Token t.OrOr) = refl
terminal_at (Token t.PlusPlus) = refl
terminal_at (Token t.MinusMinus) = refl
terminal_at (Token t.Plus) = refl
terminal_at (Token t.Minus) = refl
terminal_at (Token t.Star) = refl
terminal_at (Token t.Slash) = refl
terminal_at (Token t.Ampersand) = refl
terminal_at (Token t.Bar) = refl
terminal_at (Token t.Caret) = refl
terminal_at (Token t.Percent) = refl
terminal_at (Token t.LessLess) = refl
terminal_at (Token t.PlusAssign) = refl
terminal_at (Token t.MinusAssign) = refl
terminal_at (Token t.StarAssign) = refl
terminal_at (Token t.SlashAssign) = refl
terminal_at (Token t.AmpersandAssign) = refl
terminal_at (Token t.BarAssign) = refl
terminal_at (Token t.CaretAssign) = refl
terminal_at (Token t.PercentAssign) = refl
terminal_at (Token t.LessLessAssign) = refl
terminal_at (Token t.Greater) = refl
terminal_at (Token t.GreaterJoined) = refl
terminal_at (Word Non) = refl
terminal_at (Word Sealed) = refl
terminal_at (Word Record) = refl
terminal_at (Word Permits) = refl
terminal_at (Word Var) = refl
terminal_at (Word Yield) = refl

pub terminals_differ : (a b : Terminal) → terminal_number a ≡ terminal_number b → a ≡ b
terminals_differ a b e =
    let same : Some a ≡ Some b = sym (terminal_at a) ∙ (ap (slice_get terminals) e ∙ terminal_at b) in
    cc

pub terminals_end : (a : Terminal) → terminal_number a < 113
terminals_end (Token t.Identifier) = lit< tt
terminals_end (Token t.Abstract) = lit< tt
terminals_end (Token t.Assert) = lit< tt
terminals_end (Token t.Boolean) = lit< tt
terminals_end (Token t.Break) = lit< tt
terminals_end (Token t.Byte) = lit< tt
terminals_end (Token t.Case) = lit< tt
terminals_end (Token t.Catch) = lit< tt
terminals_end (Token t.Char) = lit< tt
terminals_end (Token t.Class) = lit< tt
terminals_end (Token t.Const) = lit< tt
terminals_end (Token t.Continue) = lit< tt
terminals_end (Token t.Default) = lit< tt
terminals_end (Token t.Do) = lit< tt
terminals_end (Token t.Double) = lit< tt
terminals_end (Token t.Else) = lit< tt
terminals_end (Token t.Enum) = lit< tt
terminals_end (Token t.Extends) = lit< tt
terminals_end (Token t.Final) = lit< tt
terminals_end (Token t.Finally) = lit< tt
terminals_end (Token t.Float) = lit< tt
terminals_end (Token t.For) = lit< tt
terminals_end (Token t.Goto) = lit< tt
terminals_end (Token t.If) = lit< tt
terminals_end (Token t.Implements) = lit< tt
terminals_end (Token t.Import) = lit< tt
terminals_end (Token t.Instanceof) = lit< tt
terminals_end (Token t.Int) = lit< tt
terminals_end (Token t.Interface) = lit< tt
terminals_end (Token t.Long) = lit< tt
terminals_end (Token t.Native) = lit< tt
terminals_end (Token t.New) = lit< tt
terminals_end (Token t.Package) = lit< tt
terminals_end (Token t.Private) = lit< tt
terminals_end (Token t.Protected) = lit< tt
terminals_end (Token t.Public) = lit< tt
terminals_end (Token t.Return) = lit< tt
terminals_end (Token t.Short) = lit< tt
terminals_end (Token t.Static) = lit< tt
terminals_end (Token t.Strictfp) = lit< tt
terminals_end (Token t.Super) = lit< tt
terminals_end (Token t.Switch) = lit< tt
terminals_end (Token t.Synchronized) = lit< tt
terminals_end (Token t.This) = lit< tt
terminals_end (Token t.Throw) = lit< tt
terminals_end (Token t.Throws) = lit< tt
terminals_end (Token t.Transient) = lit< tt
terminals_end (Token t.Try) = lit< tt
terminals_end (Token t.Void) = lit< tt
terminals_end (Token t.Volatile) = lit< tt
terminals_end (Token t.While) = lit< tt
terminals_end (Token t.Underscore) = lit< tt
terminals_end (Token t.True) = lit< tt
terminals_end (Token t.False) = lit< tt
terminals_end (Token t.Null) = lit< tt
terminals_end (Token t.IntLiteral) = lit< tt
terminals_end (Token t.FloatLiteral) = lit< tt
terminals_end (Token t.CharLiteral) = lit< tt
terminals_end (Token t.StringLiteral) = lit< tt
terminals_end (Token t.TextBlock) = lit< tt
terminals_end (Token t.Comment) = lit< tt
terminals_end (Token t.LeftParenthesis) = lit< tt
terminals_end (Token t.RightParenthesis) = lit< tt
terminals_end (Token t.LeftBrace) = lit< tt
terminals_end (Token t.RightBrace) = lit< tt
terminals_end (Token t.LeftBracket) = lit< tt
terminals_end (Token t.RightBracket) = lit< tt
terminals_end (Token t.Semicolon) = lit< tt
terminals_end (Token t.Comma) = lit< tt
terminals_end (Token t.Dot) = lit< tt
terminals_end (Token t.Ellipsis) = lit< tt
terminals_end (Token t.At) = lit< tt
terminals_end (Token t.ColonColon) = lit< tt
terminals_end (Token t.Assign) = lit< tt
terminals_end (Token t.Less) = lit< tt
terminals_end (Token t.Bang) = lit< tt
terminals_end (Token t.Tilde) = lit< tt
terminals_end (Token t.Question) = lit< tt
terminals_end (Token t.Colon) = lit< tt
terminals_end (Token t.Arrow) = lit< tt
terminals_end (Token t.EqualEqual) = lit< tt
terminals_end (Token t.LessEqual) = lit< tt
terminals_end (Token t.BangEqual) = lit< tt
terminals_end (Token t.AndAnd) = lit< tt
terminals_end (Token t.OrOr) = lit< tt
terminals_end (Token t.PlusPlus) = lit< tt
terminals_end (Token t.MinusMinus) = lit< tt
terminals_end (Token t.Plus) = lit< tt
terminals_end (Token t.Minus) = lit< tt
terminals_end (Token t.Star) = lit< tt
terminals_end (Token t.Slash) = lit< tt
terminals_end (Token t.Ampersand) = lit< tt
terminals_end (Token t.Bar) = lit< tt
terminals_end (Token t.Caret) = lit< tt
terminals_end (Token t.Percent) = lit< tt
terminals_end (Token t.LessLess) = lit< tt
terminals_end (Token t.PlusAssign) = lit< tt
terminals_end (Token t.MinusAssign) = lit< tt
terminals_end (Token t.StarAssign) = lit< tt
terminals_end (Token t.SlashAssign) = lit< tt
terminals_end (Token t.AmpersandAssign) = lit< tt
terminals_end (Token t.BarAssign) = lit< tt
terminals_end (Token t.CaretAssign) = lit< tt
terminals_end (Token t.PercentAssign) = lit< tt
terminals_end (Token t.LessLessAssign) = lit< tt
terminals_end (Token t.Greater) = lit< tt
terminals_end (Token t.GreaterJoined) = lit< tt
terminals_end (Word Non) = lit< tt
terminals_end (Word Sealed) = lit< tt
terminals_end (Word Record) = lit< tt
terminals_end (Word Permits) = lit< tt
terminals_end (Word Var) = lit< tt
terminals_end (Word Yield) = lit< tt
