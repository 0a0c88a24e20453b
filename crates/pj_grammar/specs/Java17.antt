-- The grammar of Java 17: what each rule makes, and its form. Rule `Unit` is a whole file.
--
-- It takes after the productions of JLS 17, chapters 3, 4, 7 to 10, 14 and 15, each read as a parsing expression; the
-- headings name the sections. The notation is that of `Notation`.
use Rattle.std.specs.Prelude.{List, [], ◌∷◌, map}
use Rattle.pj_peg_grammar.specs.Form.{Form, any, nothing, maybe, ahead, not_ahead}
use Rattle.pj_shape.specs.declared.shape.Shape.{Shape}
use Rattle.pj_tree.specs.declared.kind.Kind.TheVariants as k
use Rattle.pj_grammar.specs.declared.rule.Rule.{Rule}
use Rattle.pj_grammar.specs.declared.rule.Rule.TheVariants as r
use Rattle.pj_grammar.specs.Notation.{Row, ◌⇐◌, fold, passes, node, joined, turn, segment, R, t, w, id, int_literal, float_literal, char_literal, string_literal, text_block, greater, greater_joined, all, one_of, many, some, list}

unfoldable pub java_17 : Rule → Row
-- JLS 7.3 to 7.5: compilation units, packages and imports
java_17 r.Unit = node k.CompilationUnit ⇐ all (maybe (R r.Package) ∷ many (one_of (R r.Import ∷ R r.EmptyD ∷ [])) ∷
    many (one_of (R r.TypeD ∷ R r.EmptyD ∷ [])) ∷ not_ahead any ∷ [])
java_17 r.Package = node k.PackageDeclaration ⇐ all (R r.AMods ∷ t "package" ∷ R r.Name ∷ t ";" ∷ [])
java_17 r.Name = passes ⇐ all (id ∷ many (all (t "." ∷ id ∷ [])) ∷ [])
java_17 r.Import = node k.ImportDeclaration ⇐ all (t "import" ∷ maybe (t "static") ∷ R r.Name ∷ maybe (all (t "." ∷ t "*" ∷
    [])) ∷ t ";" ∷ [])
java_17 r.EmptyD = node k.EmptyDeclaration ⇐ t ";"
-- JLS 8.1.1, 8.3.1, 8.4.3: modifiers, and lists of some of them
java_17 r.AMods = node k.ModifierList ⇐ many (R r.Ann)
java_17 r.LMods = node k.ModifierList ⇐ many (one_of (R r.Ann ∷ t "final" ∷ []))
java_17 r.NoMods = node k.ModifierList ⇐ nothing
java_17 r.Mods = node k.ModifierList ⇐ many (one_of (R r.Ann ∷ R r.Mod ∷ []))
java_17 r.Mod = passes ⇐ one_of (t "public" ∷ t "protected" ∷ t "private" ∷ t "static" ∷ t "abstract" ∷ t "final" ∷ t "native" ∷
    t "synchronized" ∷ t "transient" ∷ t "volatile" ∷ t "strictfp" ∷ all (t "default" ∷ not_ahead (one_of (t ":" ∷ t "->" ∷
    [])) ∷ []) ∷ all (w "non" ∷ t "-" ∷ w "sealed" ∷ []) ∷ all (w "sealed" ∷ ahead (one_of (t "@" ∷ t "class" ∷ t "interface" ∷
    t "public" ∷ t "protected" ∷ t "private" ∷ t "abstract" ∷ t "static" ∷ t "strictfp" ∷ [])) ∷ []) ∷ [])
-- JLS 9.7: annotations
java_17 r.Ann = node k.Annotation ⇐ all (t "@" ∷ not_ahead (t "interface") ∷ R r.AName ∷ maybe (R r.AnnArgs) ∷ [])
java_17 r.AName = passes ⇐ all (R r.ASeg ∷ many (all (t "." ∷ R r.ASeg ∷ [])) ∷ [])
java_17 r.ASeg = segment k.ClassType ⇐ id
java_17 r.AnnArgs = node k.AnnotationMemberList ⇐ all (t "(" ∷ maybe (one_of (list (R r.Pair) ∷ R r.Short ∷ [])) ∷ t ")" ∷ [])
java_17 r.Pair = node k.MemberValuePair ⇐ all (id ∷ t "=" ∷ R r.MVal ∷ [])
java_17 r.Short = node k.MemberValuePair ⇐ R r.MVal
java_17 r.MVal = passes ⇐ one_of (R r.Ann ∷ R r.MArr ∷ R r.Cond ∷ [])
java_17 r.MArr = node k.MemberValueArrayInitializer ⇐ all (t "{" ∷ maybe (list (R r.MVal)) ∷ maybe (t ",") ∷ t "}" ∷ [])
-- JLS 8.1, 8.9, 8.10, 9.1, 9.6: declarations of classes and interfaces
java_17 r.TypeD = passes ⇐ one_of (R r.ClassD ∷ R r.InterfaceD ∷ R r.EnumD ∷ R r.RecordD ∷ R r.AnnD ∷ [])
java_17 r.ClassD = node k.ClassDeclaration ⇐ all (R r.Mods ∷ t "class" ∷ id ∷ maybe (R r.TParams) ∷ maybe (R r.Ext1) ∷
    maybe (R r.Impl) ∷ maybe (R r.Permits) ∷ R r.ClassB ∷ [])
java_17 r.InterfaceD = node k.ClassDeclaration ⇐ all (R r.Mods ∷ t "interface" ∷ id ∷ maybe (R r.TParams) ∷ maybe (R r.ExtN) ∷
    maybe (R r.Permits) ∷ R r.ClassB ∷ [])
java_17 r.EnumD = node k.EnumDeclaration ⇐ all (R r.Mods ∷ t "enum" ∷ id ∷ maybe (R r.Impl) ∷ R r.EnumB ∷ [])
java_17 r.RecordD = node k.RecordDeclaration ⇐ all (R r.Mods ∷ w "record" ∷ id ∷ maybe (R r.TParams) ∷ R r.Comps ∷
    maybe (R r.Impl) ∷ R r.RecordB ∷ [])
java_17 r.AnnD = node k.AnnotationTypeDeclaration ⇐ all (R r.Mods ∷ t "@" ∷ t "interface" ∷ id ∷ R r.AnnB ∷ [])
-- JLS 8.1.4 to 8.1.6, 8.4.6, 9.1.3, 9.1.4: lists of types in headers
java_17 r.Ext1 = node k.ExtendsList ⇐ all (t "extends" ∷ R r.CType ∷ [])
java_17 r.ExtN = node k.ExtendsList ⇐ all (t "extends" ∷ list (R r.CType) ∷ [])
java_17 r.Impl = node k.ImplementsList ⇐ all (t "implements" ∷ list (R r.CType) ∷ [])
java_17 r.Permits = node k.PermitsList ⇐ all (w "permits" ∷ list (R r.CType) ∷ [])
java_17 r.Throws = node k.ThrowsList ⇐ all (t "throws" ∷ list (R r.CType) ∷ [])
-- JLS 8.1.2, 4.4: type parameters
java_17 r.TParams = node k.TypeParameters ⇐ all (t "<" ∷ list (R r.TParam) ∷ R r.GT ∷ [])
java_17 r.TParam = node k.TypeParameter ⇐ all (many (R r.Ann) ∷ id ∷ maybe (all (t "extends" ∷ R r.Bound ∷ [])) ∷ [])
java_17 r.Bound = joined k.IntersectionType ⇐ all (R r.CType ∷ many (all (t "&" ∷ R r.CType ∷ [])) ∷ [])
java_17 r.GT = passes ⇐ one_of (greater ∷ greater_joined ∷ [])
-- JLS 8.1.7, 8.9.1, 8.10, 9.6.1, 15.9.5: bodies, constants and components
java_17 r.ClassB = node k.ClassBody ⇐ all (t "{" ∷ many (R r.Member) ∷ t "}" ∷ [])
java_17 r.AnnB = node k.AnnotationTypeBody ⇐ all (t "{" ∷ many (R r.Member) ∷ t "}" ∷ [])
java_17 r.RecordB = node k.RecordBody ⇐ all (t "{" ∷ many (one_of (R r.Compact ∷ R r.Member ∷ [])) ∷ t "}" ∷ [])
java_17 r.EnumB = node k.EnumBody ⇐ all (t "{" ∷ maybe (list (R r.EConst)) ∷ maybe (t ",") ∷ maybe (all (t ";" ∷
    many (R r.Member) ∷ [])) ∷ t "}" ∷ [])
java_17 r.EConst = node k.EnumConstant ⇐ all (R r.AMods ∷ R r.VarP ∷ maybe (R r.Args) ∷ maybe (R r.Anon) ∷ [])
java_17 r.Anon = node k.AnonymousClassDeclaration ⇐ all (R r.NoMods ∷ R r.ClassB ∷ [])
java_17 r.Comps = node k.RecordComponentList ⇐ all (t "(" ∷ maybe (list (R r.Comp)) ∷ t ")" ∷ [])
java_17 r.Comp = node k.RecordComponent ⇐ all (R r.AMods ∷ R r.PType ∷ R r.VarP ∷ [])
java_17 r.Compact = node k.CompactConstructorDeclaration ⇐ all (R r.Mods ∷ id ∷ R r.Block ∷ [])
-- JLS 8.2 to 8.8, 9.6.2: members
java_17 r.Member = passes ⇐ one_of (R r.Init ∷ R r.EmptyD ∷ R r.TypeD ∷ R r.Ctor ∷ R r.Method ∷ R r.Field ∷ [])
java_17 r.Init = node k.Initializer ⇐ all (maybe (t "static") ∷ R r.Block ∷ [])
java_17 r.Ctor = node k.ConstructorDeclaration ⇐ all (R r.Mods ∷ maybe (R r.TParams) ∷ id ∷ R r.Params ∷ maybe (R r.Throws) ∷
    R r.CBlock ∷ [])
java_17 r.CBlock = node k.Block ⇐ all (t "{" ∷ maybe (R r.Explicit) ∷ many (R r.BStmt) ∷ t "}" ∷ [])
java_17 r.Explicit = node k.ExplicitConstructorInvocation ⇐ all (one_of (all (maybe (R r.TArgs) ∷ t "this" ∷ []) ∷
    all (maybe (R r.TArgs) ∷ t "super" ∷ []) ∷ all (R r.Primary ∷ t "." ∷ maybe (R r.TArgs) ∷ t "super" ∷ []) ∷ []) ∷ R r.Args ∷
    t ";" ∷ [])
java_17 r.Method = node k.MethodDeclaration ⇐ all (R r.Mods ∷ maybe (R r.TParams) ∷ one_of (R r.VoidT ∷ R r.Type ∷ []) ∷ id ∷
    R r.Params ∷ maybe (R r.Dims) ∷ maybe (R r.Throws) ∷ maybe (R r.Default) ∷ one_of (R r.Block ∷ t ";" ∷ []) ∷ [])
java_17 r.Default = node k.DefaultValue ⇐ all (t "default" ∷ R r.MVal ∷ [])
java_17 r.Field = node k.FieldDeclaration ⇐ all (R r.Mods ∷ R r.Type ∷ list (R r.Declr) ∷ t ";" ∷ [])
-- JLS 8.3, 10.6: variables and what they start with
java_17 r.Declr = node k.VariableDeclarator ⇐ all (R r.VarId ∷ maybe (all (t "=" ∷ R r.Init1 ∷ [])) ∷ [])
java_17 r.Init1 = passes ⇐ one_of (R r.ArrInit ∷ R r.Expr ∷ [])
java_17 r.ArrInit = node k.ArrayInitializer ⇐ all (t "{" ∷ maybe (list (R r.Init1)) ∷ maybe (t ",") ∷ t "}" ∷ [])
java_17 r.VarId = node k.VariableId ⇐ all (id ∷ maybe (R r.Dims) ∷ [])
java_17 r.VarP = node k.VariableId ⇐ id
java_17 r.Dims = node k.ArrayDimensions ⇐ some (R r.Dim)
java_17 r.Dim = node k.ArrayTypeDim ⇐ all (many (R r.Ann) ∷ t "[" ∷ t "]" ∷ [])
-- JLS 8.4.1: parameters
java_17 r.Params = node k.FormalParameters ⇐ all (t "(" ∷ maybe (one_of (all (R r.Recv ∷ many (all (t "," ∷ R r.Param ∷ [])) ∷
    []) ∷ list (R r.Param) ∷ [])) ∷ t ")" ∷ [])
java_17 r.Recv = node k.ReceiverParameter ⇐ all (R r.Type ∷ many (all (id ∷ t "." ∷ [])) ∷ t "this" ∷ [])
java_17 r.Param = node k.FormalParameter ⇐ all (R r.LMods ∷ R r.PType ∷ R r.VarId ∷ [])
java_17 r.PType = passes ⇐ one_of (R r.VArr ∷ R r.Type ∷ [])
java_17 r.VArr = node k.ArrayType ⇐ all (R r.Type ∷ R r.VDims ∷ [])
java_17 r.VDims = node k.ArrayDimensions ⇐ R r.VDim
java_17 r.VDim = node k.ArrayTypeDim ⇐ all (many (R r.Ann) ∷ t "..." ∷ [])
-- JLS 4.2, 4.3, 4.5.1: types
java_17 r.Type = passes ⇐ one_of (R r.ArrT ∷ R r.Base ∷ [])
java_17 r.ArrT = node k.ArrayType ⇐ all (R r.Base ∷ R r.Dims ∷ [])
java_17 r.Base = passes ⇐ one_of (R r.PrimT ∷ R r.CType ∷ [])
java_17 r.PrimT = node k.PrimitiveType ⇐ all (many (R r.Ann) ∷ R r.Prim ∷ [])
java_17 r.Prim = passes ⇐ one_of (t "boolean" ∷ t "byte" ∷ t "short" ∷ t "int" ∷ t "long" ∷ t "char" ∷ t "float" ∷ t "double" ∷ [])
java_17 r.VoidT = node k.VoidType ⇐ t "void"
java_17 r.CType = passes ⇐ all (R r.Seg ∷ many (all (t "." ∷ R r.Seg ∷ [])) ∷ [])
java_17 r.Seg = segment k.ClassType ⇐ all (many (R r.Ann) ∷ id ∷ maybe (R r.TArgs) ∷ [])
java_17 r.TArgs = node k.TypeArguments ⇐ all (t "<" ∷ maybe (list (R r.TArg)) ∷ R r.GT ∷ [])
java_17 r.TArg = passes ⇐ one_of (R r.Wild ∷ R r.Type ∷ [])
java_17 r.Wild = node k.WildcardType ⇐ all (many (R r.Ann) ∷ t "?" ∷ maybe (all (one_of (t "extends" ∷ t "super" ∷ []) ∷
    R r.Type ∷ [])) ∷ [])
-- JLS 14.2 to 14.4: blocks and local declarations
java_17 r.Block = node k.Block ⇐ all (t "{" ∷ many (R r.BStmt) ∷ t "}" ∷ [])
java_17 r.BStmt = passes ⇐ one_of (R r.LClass ∷ R r.Yield ∷ all (R r.LVar ∷ t ";" ∷ []) ∷ R r.Stmt ∷ [])
java_17 r.LClass = node k.LocalClassStatement ⇐ one_of (R r.ClassD ∷ R r.InterfaceD ∷ R r.EnumD ∷ R r.RecordD ∷ [])
java_17 r.LVar = node k.LocalVariableDeclaration ⇐ all (R r.LMods ∷ R r.VType ∷ list (R r.Declr) ∷ [])
java_17 r.VType = passes ⇐ one_of (all (w "var" ∷ ahead id ∷ []) ∷ R r.Type ∷ [])
-- JLS 14.5 to 14.14: statements, labels, branches and loops
java_17 r.Stmt = passes ⇐ one_of (R r.Block ∷ R r.Label ∷ R r.If ∷ R r.While ∷ R r.Each ∷ R r.For ∷ R r.Do ∷ R r.Try ∷
    R r.Switch ∷ R r.Sync ∷ R r.Return ∷ R r.Throw ∷ R r.Break ∷ R r.Continue ∷ R r.Assert ∷ R r.EmptyS ∷ R r.Yield ∷
    R r.ExprS ∷ [])
java_17 r.Label = node k.LabeledStatement ⇐ all (id ∷ t ":" ∷ R r.Stmt ∷ [])
java_17 r.If = node k.IfStatement ⇐ all (t "if" ∷ t "(" ∷ R r.Expr ∷ t ")" ∷ R r.Stmt ∷ maybe (all (t "else" ∷ R r.Stmt ∷ [])) ∷ [])
java_17 r.While = node k.WhileStatement ⇐ all (t "while" ∷ t "(" ∷ R r.Expr ∷ t ")" ∷ R r.Stmt ∷ [])
java_17 r.Do = node k.DoStatement ⇐ all (t "do" ∷ R r.Stmt ∷ t "while" ∷ t "(" ∷ R r.Expr ∷ t ")" ∷ t ";" ∷ [])
java_17 r.Each = node k.ForeachStatement ⇐ all (t "for" ∷ t "(" ∷ R r.EVar ∷ t ":" ∷ R r.Expr ∷ t ")" ∷ R r.Stmt ∷ [])
java_17 r.EVar = node k.LocalVariableDeclaration ⇐ all (R r.LMods ∷ R r.VType ∷ R r.EDecl ∷ [])
java_17 r.EDecl = node k.VariableDeclarator ⇐ R r.VarId
java_17 r.For = node k.ForStatement ⇐ all (t "for" ∷ t "(" ∷ maybe (R r.FInit) ∷ t ";" ∷ maybe (R r.Expr) ∷ t ";" ∷
    maybe (R r.FUpd) ∷ t ")" ∷ R r.Stmt ∷ [])
java_17 r.FInit = node k.ForInit ⇐ one_of (R r.LVar ∷ R r.ExprL ∷ [])
java_17 r.FUpd = node k.ForUpdate ⇐ R r.ExprL
java_17 r.ExprL = node k.StatementExpressionList ⇐ list (R r.Expr)
-- JLS 14.20: try
java_17 r.Try = node k.TryStatement ⇐ one_of (all (t "try" ∷ R r.Ress ∷ R r.Block ∷ many (R r.Catch) ∷ maybe (R r.Finally) ∷
    []) ∷ all (t "try" ∷ R r.Block ∷ one_of (all (some (R r.Catch) ∷ maybe (R r.Finally) ∷ []) ∷ R r.Finally ∷ []) ∷ []) ∷ [])
java_17 r.Ress = node k.ResourceList ⇐ all (t "(" ∷ R r.Res ∷ many (all (t ";" ∷ R r.Res ∷ [])) ∷ maybe (t ";") ∷ t ")" ∷ [])
java_17 r.Res = node k.Resource ⇐ one_of (R r.RVar ∷ R r.Expr ∷ [])
java_17 r.RVar = node k.LocalVariableDeclaration ⇐ all (R r.LMods ∷ R r.VType ∷ R r.RDecl ∷ [])
java_17 r.RDecl = node k.VariableDeclarator ⇐ all (R r.VarP ∷ t "=" ∷ R r.Expr ∷ [])
java_17 r.Catch = node k.CatchClause ⇐ all (t "catch" ∷ t "(" ∷ R r.CPar ∷ t ")" ∷ R r.Block ∷ [])
java_17 r.CPar = node k.CatchParameter ⇐ all (R r.LMods ∷ R r.CTypes ∷ R r.VarId ∷ [])
java_17 r.CTypes = joined k.UnionType ⇐ all (R r.CType ∷ many (all (t "|" ∷ R r.CType ∷ [])) ∷ [])
java_17 r.Finally = node k.FinallyClause ⇐ all (t "finally" ∷ R r.Block ∷ [])
-- JLS 14.11, 15.28: switch
java_17 r.Switch = node k.SwitchStatement ⇐ R r.SwB
java_17 r.SwE = node k.SwitchExpression ⇐ R r.SwB
java_17 r.SwB = passes ⇐ all (t "switch" ∷ t "(" ∷ R r.Expr ∷ t ")" ∷ t "{" ∷ one_of (some (R r.Arrow) ∷ many (R r.Group) ∷
    []) ∷ t "}" ∷ [])
java_17 r.Arrow = node k.SwitchArrowBranch ⇐ all (R r.SLabel ∷ t "->" ∷ one_of (R r.Block ∷ R r.Throw ∷ all (R r.Expr ∷ t ";" ∷
    []) ∷ []) ∷ [])
java_17 r.Group = node k.SwitchFallthroughBranch ⇐ all (R r.SLabel ∷ t ":" ∷ many (R r.BStmt) ∷ [])
java_17 r.SLabel = node k.SwitchLabel ⇐ one_of (all (t "case" ∷ list (R r.OrOr) ∷ []) ∷ t "default" ∷ [])
-- JLS 14.6, 14.8, 14.10, 14.15 to 14.21: further statements
java_17 r.Sync = node k.SynchronizedStatement ⇐ all (t "synchronized" ∷ t "(" ∷ R r.Expr ∷ t ")" ∷ R r.Block ∷ [])
java_17 r.Return = node k.ReturnStatement ⇐ all (t "return" ∷ maybe (R r.Expr) ∷ t ";" ∷ [])
java_17 r.Throw = node k.ThrowStatement ⇐ all (t "throw" ∷ R r.Expr ∷ t ";" ∷ [])
java_17 r.Break = node k.BreakStatement ⇐ all (t "break" ∷ maybe id ∷ t ";" ∷ [])
java_17 r.Continue = node k.ContinueStatement ⇐ all (t "continue" ∷ maybe id ∷ t ";" ∷ [])
java_17 r.Assert = node k.AssertStatement ⇐ all (t "assert" ∷ R r.Expr ∷ maybe (all (t ":" ∷ R r.Expr ∷ [])) ∷ t ";" ∷ [])
java_17 r.Yield = node k.YieldStatement ⇐ all (w "yield" ∷ R r.Expr ∷ t ";" ∷ [])
java_17 r.EmptyS = node k.EmptyStatement ⇐ t ";"
java_17 r.ExprS = node k.ExpressionStatement ⇐ all (R r.Expr ∷ t ";" ∷ [])
-- JLS 15.27, 15.26, 15.25: lambda expressions, assignments and choices
java_17 r.Expr = passes ⇐ one_of (R r.Lambda ∷ R r.Assign ∷ R r.Cond ∷ [])
java_17 r.Lambda = node k.LambdaExpression ⇐ all (R r.LPars ∷ t "->" ∷ one_of (R r.Block ∷ R r.Expr ∷ []) ∷ [])
java_17 r.LPars = node k.LambdaParameterList ⇐ one_of (R r.LId ∷ all (t "(" ∷ maybe (one_of (list (R r.LTyped) ∷
    list (R r.LId) ∷ [])) ∷ t ")" ∷ []) ∷ [])
java_17 r.LTyped = node k.LambdaParameter ⇐ all (R r.LMods ∷ one_of (all (w "var" ∷ ahead id ∷ []) ∷ R r.PType ∷ []) ∷
    R r.VarId ∷ [])
java_17 r.LId = node k.LambdaParameter ⇐ all (R r.NoMods ∷ R r.VarP ∷ [])
java_17 r.Assign = node k.AssignmentExpression ⇐ all (R r.Primary ∷ R r.AOp ∷ R r.Expr ∷ [])
java_17 r.AOp = passes ⇐ one_of (t "=" ∷ t "+=" ∷ t "-=" ∷ t "*=" ∷ t "/=" ∷ t "%=" ∷ t "&=" ∷ t "|=" ∷ t "^=" ∷ t "<<=" ∷
    all (greater_joined ∷ greater_joined ∷ greater_joined ∷ t "=" ∷ []) ∷ all (greater_joined ∷ greater_joined ∷ t "=" ∷ []) ∷
    [])
java_17 r.Cond = passes ⇐ one_of (R r.Tern ∷ R r.OrOr ∷ [])
java_17 r.Tern = node k.ConditionalExpression ⇐ all (R r.OrOr ∷ t "?" ∷ R r.Expr ∷ t ":" ∷ one_of (R r.Lambda ∷ R r.Cond ∷ []) ∷ [])
-- JLS 15.17 to 15.24: operators between operands, from weak to strong
java_17 r.OrOr = fold (R r.AndAnd) (R r.OrOrTurn ∷ [])
java_17 r.OrOrTurn = turn k.InfixExpression ⇐ all (t "||" ∷ R r.AndAnd ∷ [])
java_17 r.AndAnd = fold (R r.BOr) (R r.AndAndTurn ∷ [])
java_17 r.AndAndTurn = turn k.InfixExpression ⇐ all (t "&&" ∷ R r.BOr ∷ [])
java_17 r.BOr = fold (R r.BXor) (R r.BOrTurn ∷ [])
java_17 r.BOrTurn = turn k.InfixExpression ⇐ all (t "|" ∷ R r.BXor ∷ [])
java_17 r.BXor = fold (R r.BAnd) (R r.BXorTurn ∷ [])
java_17 r.BXorTurn = turn k.InfixExpression ⇐ all (t "^" ∷ R r.BAnd ∷ [])
java_17 r.BAnd = fold (R r.Eq) (R r.BAndTurn ∷ [])
java_17 r.BAndTurn = turn k.InfixExpression ⇐ all (t "&" ∷ R r.Eq ∷ [])
java_17 r.Eq = fold (R r.Rel) (R r.EqTurn ∷ [])
java_17 r.EqTurn = turn k.InfixExpression ⇐ all (one_of (t "==" ∷ t "!=" ∷ []) ∷ R r.Rel ∷ [])
java_17 r.Rel = fold (R r.Shift) (R r.RelTurn ∷ [])
java_17 r.RelTurn = turn k.InfixExpression ⇐ one_of (all (one_of (t "<=" ∷ t "<" ∷ all (greater_joined ∷ t "=" ∷ []) ∷ greater ∷
    []) ∷ R r.Shift ∷ []) ∷ all (t "instanceof" ∷ one_of (R r.PatE ∷ R r.TypeE ∷ []) ∷ []) ∷ [])
java_17 r.PatE = node k.PatternExpression ⇐ R r.TPat
java_17 r.TPat = node k.TypePattern ⇐ all (R r.LMods ∷ R r.Type ∷ R r.VarP ∷ [])
java_17 r.TypeE = node k.TypeExpression ⇐ R r.Type
java_17 r.Shift = fold (R r.Add) (R r.ShiftTurn ∷ [])
java_17 r.ShiftTurn = turn k.InfixExpression ⇐ all (one_of (t "<<" ∷ all (greater_joined ∷ greater_joined ∷ greater ∷ []) ∷
    all (greater_joined ∷ greater ∷ []) ∷ []) ∷ R r.Add ∷ [])
java_17 r.Add = fold (R r.Mul) (R r.AddTurn ∷ [])
java_17 r.AddTurn = turn k.InfixExpression ⇐ all (one_of (t "+" ∷ t "-" ∷ []) ∷ R r.Mul ∷ [])
java_17 r.Mul = fold (R r.Unary) (R r.MulTurn ∷ [])
java_17 r.MulTurn = turn k.InfixExpression ⇐ all (one_of (t "*" ∷ t "/" ∷ t "%" ∷ []) ∷ R r.Unary ∷ [])
-- JLS 15.14 to 15.16: operators of one operand, and casts
java_17 r.Unary = passes ⇐ one_of (R r.Pre ∷ R r.CastP ∷ R r.CastR ∷ R r.Post ∷ [])
java_17 r.Pre = node k.UnaryExpression ⇐ all (one_of (t "++" ∷ t "--" ∷ t "+" ∷ t "-" ∷ t "!" ∷ t "~" ∷ []) ∷ R r.Unary ∷ [])
java_17 r.CastP = node k.CastExpression ⇐ all (t "(" ∷ R r.PrimT ∷ t ")" ∷ R r.Unary ∷ [])
java_17 r.CastR = node k.CastExpression ⇐ all (t "(" ∷ R r.CastT ∷ t ")" ∷ one_of (R r.Lambda ∷ all (not_ahead (one_of (t "+" ∷
    t "-" ∷ t "++" ∷ t "--" ∷ [])) ∷ R r.Unary ∷ []) ∷ []) ∷ [])
java_17 r.CastT = joined k.IntersectionType ⇐ all (R r.Type ∷ many (all (t "&" ∷ R r.CType ∷ [])) ∷ [])
java_17 r.Post = fold (R r.Primary) (R r.PostTurn ∷ [])
java_17 r.PostTurn = turn k.UnaryExpression ⇐ one_of (t "++" ∷ t "--" ∷ [])
-- JLS 15.8 to 15.13: primary expressions, by their turns
java_17 r.Primary = fold (R r.Head) (R r.PrimaryMethodCall ∷ R r.PrimaryFieldAccess ∷ R r.PrimaryConstructorCall ∷
    R r.PrimaryArrayAccess ∷ R r.PrimaryMethodReference ∷ [])
java_17 r.PrimaryMethodCall = turn k.MethodCall ⇐ all (t "." ∷ maybe (R r.TArgs) ∷ id ∷ R r.Args ∷ [])
java_17 r.PrimaryFieldAccess = turn k.FieldAccess ⇐ all (t "." ∷ id ∷ [])
java_17 r.PrimaryConstructorCall = turn k.ConstructorCall ⇐ all (t "." ∷ t "new" ∷ maybe (R r.TArgs) ∷ R r.CType ∷ R r.Args ∷
    maybe (R r.Anon) ∷ [])
java_17 r.PrimaryArrayAccess = turn k.ArrayAccess ⇐ all (t "[" ∷ R r.Expr ∷ t "]" ∷ [])
java_17 r.PrimaryMethodReference = turn k.MethodReference ⇐ all (t "::" ∷ maybe (R r.TArgs) ∷ one_of (id ∷ t "new" ∷ []) ∷ [])
-- JLS 15.8 to 15.13, 3.10: what a primary expression begins with
java_17 r.Head = passes ⇐ one_of (R r.Num ∷ R r.Str ∷ R r.Chr ∷ R r.Bool ∷ R r.Null ∷ all (t "(" ∷ R r.Expr ∷ t ")" ∷ []) ∷
    R r.SwE ∷ R r.ClassL ∷ R r.This ∷ R r.Super ∷ R r.NewA ∷ R r.New ∷ R r.MRef ∷ R r.Call ∷ R r.Var ∷ [])
java_17 r.Num = node k.NumericLiteral ⇐ one_of (int_literal ∷ float_literal ∷ [])
java_17 r.Str = node k.StringLiteral ⇐ one_of (string_literal ∷ text_block ∷ [])
java_17 r.Chr = node k.CharLiteral ⇐ char_literal
java_17 r.Bool = node k.BooleanLiteral ⇐ one_of (t "true" ∷ t "false" ∷ [])
java_17 r.Null = node k.NullLiteral ⇐ t "null"
java_17 r.ClassL = node k.ClassLiteral ⇐ all (one_of (R r.Type ∷ R r.VoidT ∷ []) ∷ t "." ∷ t "class" ∷ [])
java_17 r.This = node k.ThisExpression ⇐ all (maybe (all (R r.CType ∷ t "." ∷ [])) ∷ t "this" ∷ [])
java_17 r.Super = node k.SuperExpression ⇐ all (maybe (all (R r.CType ∷ t "." ∷ [])) ∷ t "super" ∷ ahead (one_of (t "." ∷
    t "::" ∷ [])) ∷ [])
java_17 r.NewA = node k.ArrayAllocation ⇐ all (t "new" ∷ one_of (all (R r.ArrT ∷ R r.ArrInit ∷ []) ∷ R r.NArr ∷ []) ∷ [])
java_17 r.NArr = node k.ArrayType ⇐ all (R r.Base ∷ R r.NDims ∷ [])
java_17 r.NDims = node k.ArrayDimensions ⇐ all (some (R r.DimE) ∷ many (R r.Dim) ∷ [])
java_17 r.DimE = node k.ArrayDimExpr ⇐ all (many (R r.Ann) ∷ t "[" ∷ R r.Expr ∷ t "]" ∷ [])
java_17 r.New = node k.ConstructorCall ⇐ all (t "new" ∷ maybe (R r.TArgs) ∷ R r.CType ∷ R r.Args ∷ maybe (R r.Anon) ∷ [])
java_17 r.MRef = node k.MethodReference ⇐ all (not_ahead (all (R r.Name ∷ t "::" ∷ [])) ∷ R r.TypeE ∷ t "::" ∷
    maybe (R r.TArgs) ∷ one_of (id ∷ t "new" ∷ []) ∷ [])
java_17 r.Call = node k.MethodCall ⇐ all (id ∷ R r.Args ∷ [])
java_17 r.Var = node k.VariableAccess ⇐ id
java_17 r.Args = node k.ArgumentList ⇐ all (t "(" ∷ maybe (list (R r.Expr)) ∷ t ")" ∷ [])

-- the rules, in the order of their numbers
unfoldable pub rules : List Rule
rules =
    r.Unit ∷ r.Package ∷ r.Name ∷ r.Import ∷ r.EmptyD ∷ r.AMods ∷ r.LMods ∷ r.NoMods ∷ r.Mods ∷ r.Mod ∷ r.Ann ∷
    r.AName ∷ r.ASeg ∷ r.AnnArgs ∷ r.Pair ∷ r.Short ∷ r.MVal ∷ r.MArr ∷ r.TypeD ∷ r.ClassD ∷ r.InterfaceD ∷ r.EnumD ∷
    r.RecordD ∷ r.AnnD ∷ r.Ext1 ∷ r.ExtN ∷ r.Impl ∷ r.Permits ∷ r.Throws ∷ r.TParams ∷ r.TParam ∷ r.Bound ∷ r.GT ∷
    r.ClassB ∷ r.AnnB ∷ r.RecordB ∷ r.EnumB ∷ r.EConst ∷ r.Anon ∷ r.Comps ∷ r.Comp ∷ r.Compact ∷ r.Member ∷ r.Init ∷
    r.Ctor ∷ r.CBlock ∷ r.Explicit ∷ r.Method ∷ r.Default ∷ r.Field ∷ r.Declr ∷ r.Init1 ∷ r.ArrInit ∷ r.VarId ∷ r.VarP ∷
    r.Dims ∷ r.Dim ∷ r.Params ∷ r.Recv ∷ r.Param ∷ r.PType ∷ r.VArr ∷ r.VDims ∷ r.VDim ∷ r.Type ∷ r.ArrT ∷ r.Base ∷
    r.PrimT ∷ r.Prim ∷ r.VoidT ∷ r.CType ∷ r.Seg ∷ r.TArgs ∷ r.TArg ∷ r.Wild ∷ r.Block ∷ r.BStmt ∷ r.LClass ∷ r.LVar ∷
    r.VType ∷ r.Stmt ∷ r.Label ∷ r.If ∷ r.While ∷ r.Do ∷ r.Each ∷ r.EVar ∷ r.EDecl ∷ r.For ∷ r.FInit ∷ r.FUpd ∷
    r.ExprL ∷ r.Try ∷ r.Ress ∷ r.Res ∷ r.RVar ∷ r.RDecl ∷ r.Catch ∷ r.CPar ∷ r.CTypes ∷ r.Finally ∷ r.Switch ∷ r.SwE ∷
    r.SwB ∷ r.Arrow ∷ r.Group ∷ r.SLabel ∷ r.Sync ∷ r.Return ∷ r.Throw ∷ r.Break ∷ r.Continue ∷ r.Assert ∷ r.Yield ∷
    r.EmptyS ∷ r.ExprS ∷ r.Expr ∷ r.Lambda ∷ r.LPars ∷ r.LTyped ∷ r.LId ∷ r.Assign ∷ r.AOp ∷ r.Cond ∷ r.Tern ∷ r.OrOr ∷
    r.OrOrTurn ∷ r.AndAnd ∷ r.AndAndTurn ∷ r.BOr ∷ r.BOrTurn ∷ r.BXor ∷ r.BXorTurn ∷ r.BAnd ∷ r.BAndTurn ∷ r.Eq ∷
    r.EqTurn ∷ r.Rel ∷ r.RelTurn ∷ r.PatE ∷ r.TPat ∷ r.TypeE ∷ r.Shift ∷ r.ShiftTurn ∷ r.Add ∷ r.AddTurn ∷ r.Mul ∷
    r.MulTurn ∷ r.Unary ∷ r.Pre ∷ r.CastP ∷ r.CastR ∷ r.CastT ∷ r.Post ∷ r.PostTurn ∷ r.Primary ∷ r.PrimaryMethodCall ∷
    r.PrimaryFieldAccess ∷ r.PrimaryConstructorCall ∷ r.PrimaryArrayAccess ∷ r.PrimaryMethodReference ∷ r.Head ∷ r.Num ∷
    r.Str ∷ r.Chr ∷ r.Bool ∷ r.Null ∷ r.ClassL ∷ r.This ∷ r.Super ∷ r.NewA ∷ r.NArr ∷ r.NDims ∷ r.DimE ∷ r.New ∷
    r.MRef ∷ r.Call ∷ r.Var ∷ r.Args ∷ []

-- the forms of the rules, by their numbers
unfoldable pub java_17_forms : List Form
java_17_forms = map (λ name. (java_17 name).form) rules

-- what the rules make, by their numbers
unfoldable pub java_17_shapes : List Shape
java_17_shapes = map (λ name. (java_17 name).makes) rules
