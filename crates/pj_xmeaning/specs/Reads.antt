-- What the tokens of an expression, or of the beginning of one, say: the tree that they spell, and the functions and variables that they
-- name. Read whole, they also nest no deeper than may be. One constructor a production, in the order of the grammar (`XPath` of pj_xgrammar),
-- with its notation; but `to` and `$` have one more, for tokens that are cut off behind them; the words that are names share one, and so does what is
-- left out where an operator can stand, and what is left out where a step can begin.
--
-- `Reads reach r.X depth xs ys v`: at the front of the tokens xs stands what rule X spells, ys are the tokens behind it, and v is what it
-- says. So many things that nest are open there. Where the tokens are cut off, no symbol takes a token, and a rule says the least.
use Rattle.std.specs.Prelude.{◌≡◌, ℕ, suc, Bool, true, false, List, [], ◌∷◌, Option, Some, None}
use Rattle.pj_ll.specs.declared.grammar.Symbol.{Symbol}
use Rattle.pj_ll.specs.declared.grammar.Symbol.TheVariants.{Terminal, LeftOut}
use Rattle.pj_xexpressions.specs.declared.axis.Axis.TheVariants as axes
use Rattle.pj_xexpressions.specs.declared.operator.Compare.{Compare}
use Rattle.pj_xexpressions.specs.declared.operator.Compare.TheVariants as compare
use Rattle.pj_xexpressions.specs.declared.operator.Additive.{Additive}
use Rattle.pj_xexpressions.specs.declared.operator.Additive.TheVariants as sum
use Rattle.pj_xexpressions.specs.declared.operator.Multiplicative.{Multiplicative}
use Rattle.pj_xexpressions.specs.declared.operator.Multiplicative.TheVariants as product
use Rattle.pj_xexpressions.specs.declared.operator.SetOperator.{SetOperator}
use Rattle.pj_xexpressions.specs.declared.operator.SetOperator.TheVariants as set
use Rattle.pj_xexpressions.specs.declared.operator.Sign.TheVariants as sign
use Rattle.pj_xexpressions.specs.declared.operator.Quantifier.TheVariants as quantifier
use Rattle.pj_xexpressions.specs.declared.expr.NodeTest.{NodeTest}
use Rattle.pj_xexpressions.specs.declared.expr.NodeTest.TheVariants.{Name, AnyName, AnyNode, AnyElement}
use Rattle.pj_xtokens.specs.Tokens.{Lexed}
use Rattle.pj_xgrammar.specs.declared.rule.Rule.{Rule}
use Rattle.pj_xgrammar.specs.declared.rule.Rule.TheVariants as r
use Rattle.pj_xgrammar.specs.declared.terminal.Behind.TheVariants as b
use Rattle.pj_xgrammar.specs.Terminals.{first_behind, terminal_of, terminal_number}
use Rattle.pj_xgrammar.specs.Notation.{t, integer, string, axis, lone_slash}
use Rattle.pj_xgrammar.specs.XPath.{xpath}
use Rattle.pj_xtokens.specs.First.{first_text, first_from}
use Rattle.pj_xreadings.specs.Steps.{empty_sequence}
use Rattle.pj_xexpressions.specs.Trees as tree
use Rattle.pj_xexpressions.specs.Trees.{alone}
use Rattle.pj_xreadings.specs.Operands.{Operand, Binding, Arguments, Closed, Next, Behind, Test, Called, Predicates, other, chain, mixed, compared, ranging, signed, bound, chosen, variable, cut_variable, integer_literal, string_literal, rooted, descendants, path, step, child_step, attribute_step, filtered, kind_test, named, nothing}
use Rattle.pj_xmeaning.specs.RuleMeanings.{Value, absent}
use Rattle.pj_xmeaning.specs.Reach.{Reach, All, Within, IsBefore, IsCut, IsBehindLeftOut}

-- the token has this terminal's number, where these tokens stand behind it
abbrev pub IsNumbered : Lexed → List Lexed → ℕ → Type 0
IsNumbered x behind number = terminal_number (terminal_of x (first_behind b.End behind)) ≡ number

-- The first token is read as the terminal, and the others stand behind it; or the tokens are cut off, so that none is taken.
pub data Takes (reach : Reach) (depth : ℕ) : Symbol → List Lexed → List Lexed → Type 0 where
  token : {x : Lexed} {xs : List Lexed} {number : ℕ} → IsNumbered x xs number → Within reach depth (x ∷ xs) → Takes reach depth (Terminal number) (x ∷ xs) xs
  cut : {s : Symbol} {xs : List Lexed} → IsCut reach xs → Takes reach depth s xs xs

-- the symbol alone is among the productions of a rule
pub data IsAmong (s : Symbol) : List (List Symbol) → Type 0 where
  here : {more : List (List Symbol)} → IsAmong s ((s ∷ []) ∷ more)
  further : {first : List Symbol} {more : List (List Symbol)} → IsAmong s more → IsAmong s (first ∷ more)

mutual
  -- what a rule spells: by one of its productions, or cut off
  pub data Reads (reach : Reach) : (rule : Rule) → ℕ → List Lexed → List Lexed → Value rule → Type 0 where
    by : {rule : Rule} {d : ℕ} {xs ys : List Lexed} {v : Value rule} → IsBefore reach xs → Produces reach rule d xs ys v → Reads reach rule d xs ys v
    cut : {rule : Rule} {d : ℕ} {xs : List Lexed} → IsCut reach xs → Reads reach rule d xs xs (absent rule)

  -- the productions
  pub data Produces (reach : Reach) : (rule : Rule) → ℕ → List Lexed → List Lexed → Value rule → Type 0 where
    -- XPath 2.0, 2: Expr
    expr : {d : ℕ} {xs ys zs : List Lexed} {first : Operand} {more : List Operand} →
        Reads reach r.ExprSingle d xs ys first → Reads reach r.ExprTail d ys zs more → Produces reach r.Expr d xs zs (chain tree.Comma first more)
    expr_more : {d : ℕ} {xs ys zs us : List Lexed} {next : Operand} {more : List Operand} →
        Takes reach d (t ",") xs ys → Reads reach r.ExprSingle d ys zs next → Reads reach r.ExprTail d zs us more → Produces reach r.ExprTail d xs us (next ∷ more)
    expr_end : {d : ℕ} {xs : List Lexed} →
        Produces reach r.ExprTail d xs xs []
    -- 3 to 7: ExprSingle, ForExpr, QuantifiedExpr, IfExpr; XPath 3.1, 3.10: LetExpr
    for_expr : {d : ℕ} {xs ys zs us : List Lexed} {bindings : List Binding} {body : Operand} →
        Takes reach d (t "for") xs ys → Reads reach r.InBindings d ys zs bindings → Reads reach r.ReturnClause d zs us body → Produces reach r.ExprSingle d xs us (bound tree.For bindings body)
    let_expr : {d : ℕ} {xs ys zs us : List Lexed} {bindings : List Binding} {body : Operand} →
        Takes reach d (t "let") xs ys → Reads reach r.LetBindings d ys zs bindings → Reads reach r.ReturnClause d zs us body → Produces reach r.ExprSingle d xs us (bound tree.Let bindings body)
    some_expr : {d : ℕ} {xs ys zs us : List Lexed} {bindings : List Binding} {test : Operand} →
        Takes reach d (t "some") xs ys → Reads reach r.InBindings d ys zs bindings → Reads reach r.SatisfiesClause d zs us test → Produces reach r.ExprSingle d xs us (bound (tree.Quantified quantifier.Some) bindings test)
    every_expr : {d : ℕ} {xs ys zs us : List Lexed} {bindings : List Binding} {test : Operand} →
        Takes reach d (t "every") xs ys → Reads reach r.InBindings d ys zs bindings → Reads reach r.SatisfiesClause d zs us test → Produces reach r.ExprSingle d xs us (bound (tree.Quantified quantifier.Every) bindings test)
    if_expr : {d : ℕ} {xs ys zs us vs : List Lexed} {test first second : Operand} →
        Takes reach d (t "if") xs ys → Reads reach r.TestClause d ys zs test → Reads reach r.ThenClause d zs us first → Reads reach r.ElseClause d us vs second → Produces reach r.ExprSingle d xs vs (chosen test first second)
    single_or : {d : ℕ} {xs ys : List Lexed} {a : Operand} →
        Reads reach r.OrExpr d xs ys a → Produces reach r.ExprSingle d xs ys a
    -- 5, 6: the bindings of ForExpr and QuantifiedExpr
    in_binding : {d : ℕ} {xs ys zs us vs : List Lexed} {word : List ℕ} {a : Operand} {more : List Binding} →
        Takes reach d (t "$") xs ys → Reads reach r.VarName d ys zs word → Reads reach r.InClause d zs us a → Reads reach r.InBindingsTail d us vs more → Produces reach r.InBindings d xs vs (record { name = word; bound = a } ∷ more)
    in_more : {d : ℕ} {xs ys zs : List Lexed} {more : List Binding} →
        Takes reach d (t ",") xs ys → Reads reach r.InBindings d ys zs more → Produces reach r.InBindingsTail d xs zs more
    in_end : {d : ℕ} {xs : List Lexed} →
        Produces reach r.InBindingsTail d xs xs []
    -- XPath 3.1, 3.10: the bindings of LetExpr
    let_binding : {d : ℕ} {xs ys zs us vs : List Lexed} {word : List ℕ} {a : Operand} {more : List Binding} →
        Takes reach d (t "$") xs ys → Reads reach r.VarName d ys zs word → Reads reach r.AssignClause d zs us a → Reads reach r.LetBindingsTail d us vs more → Produces reach r.LetBindings d xs vs (record { name = word; bound = a } ∷ more)
    let_more : {d : ℕ} {xs ys zs : List Lexed} {more : List Binding} →
        Takes reach d (t ",") xs ys → Reads reach r.LetBindings d ys zs more → Produces reach r.LetBindingsTail d xs zs more
    let_end : {d : ℕ} {xs : List Lexed} →
        Produces reach r.LetBindingsTail d xs xs []
    -- Each clause nests.
    in_clause : {d : ℕ} {xs ys zs : List Lexed} {a : Operand} →
        Takes reach (suc d) (t "in") xs ys → Reads reach r.ExprSingle (suc d) ys zs a → Produces reach r.InClause d xs zs a
    assign_clause : {d : ℕ} {xs ys zs : List Lexed} {a : Operand} →
        Takes reach (suc d) (t ":=") xs ys → Reads reach r.ExprSingle (suc d) ys zs a → Produces reach r.AssignClause d xs zs a
    return_clause : {d : ℕ} {xs ys zs : List Lexed} {a : Operand} →
        Takes reach (suc d) (t "return") xs ys → Reads reach r.ExprSingle (suc d) ys zs a → Produces reach r.ReturnClause d xs zs a
    satisfies_clause : {d : ℕ} {xs ys zs : List Lexed} {a : Operand} →
        Takes reach (suc d) (t "satisfies") xs ys → Reads reach r.ExprSingle (suc d) ys zs a → Produces reach r.SatisfiesClause d xs zs a
    test_clause : {d : ℕ} {xs ys zs us : List Lexed} {a : Operand} →
        Takes reach (suc d) (t "(") xs ys → Reads reach r.Expr (suc d) ys zs a → Takes reach d (t ")") zs us → Produces reach r.TestClause d xs us a
    then_clause : {d : ℕ} {xs ys zs : List Lexed} {a : Operand} →
        Takes reach (suc d) (t "then") xs ys → Reads reach r.ExprSingle (suc d) ys zs a → Produces reach r.ThenClause d xs zs a
    else_clause : {d : ℕ} {xs ys zs : List Lexed} {a : Operand} →
        Takes reach (suc d) (t "else") xs ys → Reads reach r.ExprSingle (suc d) ys zs a → Produces reach r.ElseClause d xs zs a
    -- 8: OrExpr
    or_expr : {d : ℕ} {xs ys zs : List Lexed} {first : Operand} {more : List Operand} →
        Reads reach r.AndExpr d xs ys first → Reads reach r.OrTail d ys zs more → Produces reach r.OrExpr d xs zs (chain tree.Or first more)
    or_more : {d : ℕ} {xs ys zs us : List Lexed} {next : Operand} {more : List Operand} →
        Takes reach d (t "or") xs ys → Reads reach r.AndExpr d ys zs next → Reads reach r.OrTail d zs us more → Produces reach r.OrTail d xs us (next ∷ more)
    or_end : {d : ℕ} {xs : List Lexed} →
        Produces reach r.OrTail d xs xs []
    -- 9: AndExpr
    and_expr : {d : ℕ} {xs ys zs : List Lexed} {first : Operand} {more : List Operand} →
        Reads reach r.ComparisonExpr d xs ys first → Reads reach r.AndTail d ys zs more → Produces reach r.AndExpr d xs zs (chain tree.And first more)
    and_more : {d : ℕ} {xs ys zs us : List Lexed} {next : Operand} {more : List Operand} →
        Takes reach d (t "and") xs ys → Reads reach r.ComparisonExpr d ys zs next → Reads reach r.AndTail d zs us more → Produces reach r.AndTail d xs us (next ∷ more)
    and_end : {d : ℕ} {xs : List Lexed} →
        Produces reach r.AndTail d xs xs []
    -- 10, 22: ComparisonExpr and GeneralComp
    comparison_expr : {d : ℕ} {xs ys zs : List Lexed} {first : Operand} {second : Option (Compare × Operand)} →
        Reads reach r.StringConcatExpr d xs ys first → Reads reach r.ComparisonTail d ys zs second → Produces reach r.ComparisonExpr d xs zs (compared first second)
    equal : {d : ℕ} {xs ys zs : List Lexed} {a : Operand} →
        Takes reach d (t "=") xs ys → Reads reach r.StringConcatExpr d ys zs a → Produces reach r.ComparisonTail d xs zs (Some (compare.Equal, a))
    not_equal : {d : ℕ} {xs ys zs : List Lexed} {a : Operand} →
        Takes reach d (t "!=") xs ys → Reads reach r.StringConcatExpr d ys zs a → Produces reach r.ComparisonTail d xs zs (Some (compare.NotEqual, a))
    less : {d : ℕ} {xs ys zs : List Lexed} {a : Operand} →
        Takes reach d (t "<") xs ys → Reads reach r.StringConcatExpr d ys zs a → Produces reach r.ComparisonTail d xs zs (Some (compare.Less, a))
    less_or_equal : {d : ℕ} {xs ys zs : List Lexed} {a : Operand} →
        Takes reach d (t "<=") xs ys → Reads reach r.StringConcatExpr d ys zs a → Produces reach r.ComparisonTail d xs zs (Some (compare.LessOrEqual, a))
    greater : {d : ℕ} {xs ys zs : List Lexed} {a : Operand} →
        Takes reach d (t ">") xs ys → Reads reach r.StringConcatExpr d ys zs a → Produces reach r.ComparisonTail d xs zs (Some (compare.Greater, a))
    greater_or_equal : {d : ℕ} {xs ys zs : List Lexed} {a : Operand} →
        Takes reach d (t ">=") xs ys → Reads reach r.StringConcatExpr d ys zs a → Produces reach r.ComparisonTail d xs zs (Some (compare.GreaterOrEqual, a))
    not_compared : {d : ℕ} {xs : List Lexed} →
        Produces reach r.ComparisonTail d xs xs None
    -- XPath 3.1, 3.6: StringConcatExpr
    concatenation_expr : {d : ℕ} {xs ys zs : List Lexed} {first : Operand} {more : List Operand} →
        Reads reach r.RangeExpr d xs ys first → Reads reach r.StringConcatTail d ys zs more → Produces reach r.StringConcatExpr d xs zs (chain tree.Concatenation first more)
    concatenation_more : {d : ℕ} {xs ys zs us : List Lexed} {next : Operand} {more : List Operand} →
        Takes reach d (t "||") xs ys → Reads reach r.RangeExpr d ys zs next → Reads reach r.StringConcatTail d zs us more → Produces reach r.StringConcatTail d xs us (next ∷ more)
    concatenation_end : {d : ℕ} {xs : List Lexed} →
        Produces reach r.StringConcatTail d xs xs []
    -- 11: RangeExpr
    range_expr : {d : ℕ} {xs ys zs : List Lexed} {first : Operand} {last : Option Operand} →
        Reads reach r.AdditiveExpr d xs ys first → Reads reach r.RangeTail d ys zs last → Produces reach r.RangeExpr d xs zs (ranging first last)
    up_to : {d : ℕ} {xs ys zs : List Lexed} {a : Operand} →
        Takes reach d (t "to") xs ys → IsBefore reach ys → Reads reach r.AdditiveExpr d ys zs a → Produces reach r.RangeTail d xs zs (Some a)
    -- cut off behind its `to`, a range says what its first operand does
    up_to_cut : {d : ℕ} {xs ys : List Lexed} →
        Takes reach d (t "to") xs ys → IsCut reach ys → Produces reach r.RangeTail d xs ys None
    no_range : {d : ℕ} {xs : List Lexed} →
        Produces reach r.RangeTail d xs xs None
    -- 12: AdditiveExpr
    additive_expr : {d : ℕ} {xs ys zs : List Lexed} {first : Operand} {more : List (Additive × Operand)} →
        Reads reach r.MultiplicativeExpr d xs ys first → Reads reach r.AdditiveTail d ys zs more → Produces reach r.AdditiveExpr d xs zs (mixed tree.Additive' first more)
    plus : {d : ℕ} {xs ys zs us : List Lexed} {next : Operand} {more : List (Additive × Operand)} →
        Takes reach d (t "+") xs ys → Reads reach r.MultiplicativeExpr d ys zs next → Reads reach r.AdditiveTail d zs us more → Produces reach r.AdditiveTail d xs us ((sum.Plus, next) ∷ more)
    minus : {d : ℕ} {xs ys zs us : List Lexed} {next : Operand} {more : List (Additive × Operand)} →
        Takes reach d (t "-") xs ys → Reads reach r.MultiplicativeExpr d ys zs next → Reads reach r.AdditiveTail d zs us more → Produces reach r.AdditiveTail d xs us ((sum.Minus, next) ∷ more)
    additive_end : {d : ℕ} {xs : List Lexed} →
        Produces reach r.AdditiveTail d xs xs []
    -- 13: MultiplicativeExpr
    multiplicative_expr : {d : ℕ} {xs ys zs : List Lexed} {first : Operand} {more : List (Multiplicative × Operand)} →
        Reads reach r.UnionExpr d xs ys first → Reads reach r.MultiplicativeTail d ys zs more → Produces reach r.MultiplicativeExpr d xs zs (mixed tree.Multiplicative' first more)
    times : {d : ℕ} {xs ys zs us : List Lexed} {next : Operand} {more : List (Multiplicative × Operand)} →
        Takes reach d (t "*") xs ys → Reads reach r.UnionExpr d ys zs next → Reads reach r.MultiplicativeTail d zs us more → Produces reach r.MultiplicativeTail d xs us ((product.Times, next) ∷ more)
    integer_divide : {d : ℕ} {xs ys zs us : List Lexed} {next : Operand} {more : List (Multiplicative × Operand)} →
        Takes reach d (t "idiv") xs ys → Reads reach r.UnionExpr d ys zs next → Reads reach r.MultiplicativeTail d zs us more → Produces reach r.MultiplicativeTail d xs us ((product.IntegerDivide, next) ∷ more)
    modulo : {d : ℕ} {xs ys zs us : List Lexed} {next : Operand} {more : List (Multiplicative × Operand)} →
        Takes reach d (t "mod") xs ys → Reads reach r.UnionExpr d ys zs next → Reads reach r.MultiplicativeTail d zs us more → Produces reach r.MultiplicativeTail d xs us ((product.Modulo, next) ∷ more)
    multiplicative_end : {d : ℕ} {xs : List Lexed} →
        Produces reach r.MultiplicativeTail d xs xs []
    -- 14: UnionExpr
    union_expr : {d : ℕ} {xs ys zs : List Lexed} {first : Operand} {more : List Operand} →
        Reads reach r.IntersectExceptExpr d xs ys first → Reads reach r.UnionTail d ys zs more → Produces reach r.UnionExpr d xs zs (chain tree.Union first more)
    union_more : {d : ℕ} {xs ys zs us : List Lexed} {next : Operand} {more : List Operand} →
        Takes reach d (t "union") xs ys → Reads reach r.IntersectExceptExpr d ys zs next → Reads reach r.UnionTail d zs us more → Produces reach r.UnionTail d xs us (next ∷ more)
    bar_more : {d : ℕ} {xs ys zs us : List Lexed} {next : Operand} {more : List Operand} →
        Takes reach d (t "|") xs ys → Reads reach r.IntersectExceptExpr d ys zs next → Reads reach r.UnionTail d zs us more → Produces reach r.UnionTail d xs us (next ∷ more)
    union_end : {d : ℕ} {xs : List Lexed} →
        Produces reach r.UnionTail d xs xs []
    -- 15: IntersectExceptExpr
    set_expr : {d : ℕ} {xs ys zs : List Lexed} {first : Operand} {more : List (SetOperator × Operand)} →
        Reads reach r.UnaryExpr d xs ys first → Reads reach r.IntersectExceptTail d ys zs more → Produces reach r.IntersectExceptExpr d xs zs (mixed tree.IntersectExcept first more)
    intersect : {d : ℕ} {xs ys zs us : List Lexed} {next : Operand} {more : List (SetOperator × Operand)} →
        Takes reach d (t "intersect") xs ys → Reads reach r.UnaryExpr d ys zs next → Reads reach r.IntersectExceptTail d zs us more → Produces reach r.IntersectExceptTail d xs us ((set.Intersect, next) ∷ more)
    except : {d : ℕ} {xs ys zs us : List Lexed} {next : Operand} {more : List (SetOperator × Operand)} →
        Takes reach d (t "except") xs ys → Reads reach r.UnaryExpr d ys zs next → Reads reach r.IntersectExceptTail d zs us more → Produces reach r.IntersectExceptTail d xs us ((set.Except, next) ∷ more)
    set_end : {d : ℕ} {xs : List Lexed} →
        Produces reach r.IntersectExceptTail d xs xs []
    -- 20: UnaryExpr
    negative : {d : ℕ} {xs ys zs : List Lexed} {a : Operand} →
        Takes reach (suc d) (t "-") xs ys → Reads reach r.UnaryExpr (suc d) ys zs a → Produces reach r.UnaryExpr d xs zs (signed sign.Minus a)
    positive : {d : ℕ} {xs ys zs : List Lexed} {a : Operand} →
        Takes reach (suc d) (t "+") xs ys → Reads reach r.UnaryExpr (suc d) ys zs a → Produces reach r.UnaryExpr d xs zs (signed sign.Plus a)
    no_sign : {d : ℕ} {xs ys : List Lexed} {a : Operand} →
        Reads reach r.SimpleMapExpr d xs ys a → Produces reach r.UnaryExpr d xs ys a
    -- XPath 3.1, 3.15: SimpleMapExpr
    map_expr : {d : ℕ} {xs ys zs : List Lexed} {first : Operand} {more : List Operand} →
        Reads reach r.Operand d xs ys first → Reads reach r.SimpleMapTail d ys zs more → Produces reach r.SimpleMapExpr d xs zs (chain tree.SimpleMap first more)
    map_more : {d : ℕ} {xs ys zs us : List Lexed} {next : Operand} {more : List Operand} →
        Takes reach d (t "!") xs ys → Reads reach r.Operand d ys zs next → Reads reach r.SimpleMapTail d zs us more → Produces reach r.SimpleMapTail d xs us (next ∷ more)
    map_end : {d : ℕ} {xs : List Lexed} →
        Produces reach r.SimpleMapTail d xs xs []
    operand : {d : ℕ} {xs ys zs : List Lexed} {a : Operand} →
        Reads reach r.PathExpr d xs ys a → Reads reach r.LeftOutOperator d ys zs tt → Produces reach r.Operand d xs zs a
    -- what is left out where an operator can stand: its first token is the last one of a beginning that ends so
    left_out_operator : {d number : ℕ} {x : Lexed} {xs : List Lexed} →
        IsAmong (LeftOut number) (xpath r.LeftOutOperator) → IsNumbered x xs number → IsBehindLeftOut reach xs → Produces reach r.LeftOutOperator d (x ∷ xs) xs tt
    no_left_out : {d : ℕ} {xs : List Lexed} →
        Produces reach r.LeftOutOperator d xs xs tt
    -- 25: PathExpr
    root : {d : ℕ} {xs ys : List Lexed} →
        Takes reach d lone_slash xs ys → Produces reach r.PathExpr d xs ys (other (alone tree.Root) [])
    from_root : {d : ℕ} {xs ys zs : List Lexed} {steps : List Operand} →
        Takes reach d (t "/") xs ys → Reads reach r.RelativePathExpr d ys zs steps → Produces reach r.PathExpr d xs zs (rooted steps)
    from_descendants : {d : ℕ} {xs ys zs : List Lexed} {steps : List Operand} →
        Takes reach d (t "//") xs ys → Reads reach r.RelativePathExpr d ys zs steps → Produces reach r.PathExpr d xs zs (rooted (descendants ∷ steps))
    relative : {d : ℕ} {xs ys : List Lexed} {steps : List Operand} →
        Reads reach r.RelativePathExpr d xs ys steps → Produces reach r.PathExpr d xs ys (path steps)
    -- 26: RelativePathExpr
    path_steps : {d : ℕ} {xs ys zs : List Lexed} {first : Operand} {more : List Operand} →
        Reads reach r.StepExpr d xs ys first → Reads reach r.RelativePathTail d ys zs more → Produces reach r.RelativePathExpr d xs zs (first ∷ more)
    next_step : {d : ℕ} {xs ys zs us : List Lexed} {next : Operand} {more : List Operand} →
        Takes reach d (t "/") xs ys → Reads reach r.StepExpr d ys zs next → Reads reach r.RelativePathTail d zs us more → Produces reach r.RelativePathTail d xs us (next ∷ more)
    next_descendants : {d : ℕ} {xs ys zs us : List Lexed} {next : Operand} {more : List Operand} →
        Takes reach d (t "//") xs ys → Reads reach r.StepExpr d ys zs next → Reads reach r.RelativePathTail d zs us more → Produces reach r.RelativePathTail d xs us (descendants ∷ next ∷ more)
    steps_end : {d : ℕ} {xs : List Lexed} →
        Produces reach r.RelativePathTail d xs xs []
    -- 27 to 34, 38, 47: StepExpr, AxisStep, FilterExpr, ContextItemExpr
    context_item : {d : ℕ} {xs ys zs : List Lexed} {predicates : List Operand} →
        Takes reach d (t ".") xs ys → Reads reach r.PredicateList d ys zs predicates → Produces reach r.StepExpr d xs zs (filtered (other (alone tree.ContextItem) []) predicates)
    primary : {d : ℕ} {xs ys zs : List Lexed} {a : Operand} {predicates : List Operand} →
        Reads reach r.PrimaryExpr d xs ys a → Reads reach r.PredicateList d ys zs predicates → Produces reach r.StepExpr d xs zs (filtered a predicates)
    parent : {d : ℕ} {xs ys zs : List Lexed} {predicates : List Operand} →
        Takes reach d (t "..") xs ys → Reads reach r.PredicateList d ys zs predicates → Produces reach r.StepExpr d xs zs (step axes.Parent AnyNode predicates)
    attribute : {d : ℕ} {xs ys zs us : List Lexed} {test : NodeTest} {predicates : List Operand} →
        Takes reach d (t "@") xs ys → Reads reach r.NodeTest d ys zs test → Reads reach r.PredicateList d zs us predicates → Produces reach r.StepExpr d xs us (attribute_step test predicates)
    axis_name : {d : ℕ} {xs ys zs : List Lexed} {tail : Behind} →
        Takes reach d axis xs ys → Reads reach r.AxisTail d ys zs tail → Produces reach r.StepExpr d xs zs (named xs (first_text xs) tail)
    any_name : {d : ℕ} {xs ys zs : List Lexed} {predicates : List Operand} →
        Takes reach d (t "*") xs ys → Reads reach r.PredicateList d ys zs predicates → Produces reach r.StepExpr d xs zs (child_step AnyName predicates)
    node_name : {d : ℕ} {xs ys zs us : List Lexed} {parentheses : Bool} {predicates : List Operand} →
        Takes reach d (t "node") xs ys → Reads reach r.KindTail d ys zs parentheses → Reads reach r.PredicateList d zs us predicates → Produces reach r.StepExpr d xs us (child_step (kind_test AnyNode (first_text xs) parentheses) predicates)
    element_name : {d : ℕ} {xs ys zs us : List Lexed} {parentheses : Bool} {predicates : List Operand} →
        Takes reach d (t "element") xs ys → Reads reach r.KindTail d ys zs parentheses → Reads reach r.PredicateList d zs us predicates → Produces reach r.StepExpr d xs us (child_step (kind_test AnyElement (first_text xs) parentheses) predicates)
    plain_step : {d : ℕ} {xs ys zs : List Lexed} {word : List ℕ} {tail : Behind} →
        Reads reach r.PlainName d xs ys word → Reads reach r.NameTail d ys zs tail → Produces reach r.StepExpr d xs zs (named xs word tail)
    -- what is left out where a step can begin, in the same way
    left_out_step : {d number : ℕ} {x : Lexed} {xs : List Lexed} →
        IsAmong (LeftOut number) (xpath r.StepExpr) → IsNumbered x xs number → IsBehindLeftOut reach xs → Produces reach r.StepExpr d (x ∷ xs) xs nothing
    axis_test : {d : ℕ} {xs ys zs us : List Lexed} {test : NodeTest} {predicates : List Operand} →
        Takes reach d (t "::") xs ys → Reads reach r.NodeTest d ys zs test → Reads reach r.PredicateList d zs us predicates → Produces reach r.AxisTail d xs us (Test test predicates)
    axis_call : {d : ℕ} {xs ys zs us vs : List Lexed} {arguments : Arguments} {predicates : List Operand} →
        Takes reach (suc d) (t "(") xs ys → Reads reach r.Arguments (suc d) ys zs arguments → Takes reach d (t ")") zs us → Reads reach r.PredicateList d us vs predicates → Produces reach r.AxisTail d xs vs (Called arguments predicates)
    axis_predicates : {d : ℕ} {xs ys : List Lexed} {predicates : List Operand} →
        Reads reach r.PredicateList d xs ys predicates → Produces reach r.AxisTail d xs ys (Predicates predicates)
    name_call : {d : ℕ} {xs ys zs us vs : List Lexed} {arguments : Arguments} {predicates : List Operand} →
        Takes reach (suc d) (t "(") xs ys → Reads reach r.Arguments (suc d) ys zs arguments → Takes reach d (t ")") zs us → Reads reach r.PredicateList d us vs predicates → Produces reach r.NameTail d xs vs (Called arguments predicates)
    name_predicates : {d : ℕ} {xs ys : List Lexed} {predicates : List Operand} →
        Reads reach r.PredicateList d xs ys predicates → Produces reach r.NameTail d xs ys (Predicates predicates)
    -- 35 to 37, 54: NodeTest, NameTest, KindTest
    name_test : {d : ℕ} {xs ys : List Lexed} {word : List ℕ} →
        Reads reach r.PlainName d xs ys word → Produces reach r.NodeTest d xs ys (Name word)
    axis_name_test : {d : ℕ} {xs ys : List Lexed} →
        Takes reach d axis xs ys → Produces reach r.NodeTest d xs ys (Name (first_text xs))
    any_name_test : {d : ℕ} {xs ys : List Lexed} →
        Takes reach d (t "*") xs ys → Produces reach r.NodeTest d xs ys AnyName
    node_test : {d : ℕ} {xs ys zs : List Lexed} {parentheses : Bool} →
        Takes reach d (t "node") xs ys → Reads reach r.KindTail d ys zs parentheses → Produces reach r.NodeTest d xs zs (kind_test AnyNode (first_text xs) parentheses)
    element_test : {d : ℕ} {xs ys zs : List Lexed} {parentheses : Bool} →
        Takes reach d (t "element") xs ys → Reads reach r.KindTail d ys zs parentheses → Produces reach r.NodeTest d xs zs (kind_test AnyElement (first_text xs) parentheses)
    kind_parentheses : {d : ℕ} {xs ys zs : List Lexed} →
        Takes reach (suc d) (t "(") xs ys → Takes reach d (t ")") ys zs → Produces reach r.KindTail d xs zs true
    no_parentheses : {d : ℕ} {xs : List Lexed} →
        Produces reach r.KindTail d xs xs false
    -- 39, 40: PredicateList
    predicate : {d : ℕ} {xs ys zs us vs : List Lexed} {first : Operand} {more : List Operand} →
        Takes reach (suc d) (t "[") xs ys → Reads reach r.Expr (suc d) ys zs first → Takes reach d (t "]") zs us → Reads reach r.PredicateList d us vs more → Produces reach r.PredicateList d xs vs (first ∷ more)
    no_predicate : {d : ℕ} {xs : List Lexed} →
        Produces reach r.PredicateList d xs xs []
    -- 41 to 46: PrimaryExpr. An expression in parentheses is not a literal or a variable alone.
    integer_expr : {d : ℕ} {xs ys : List Lexed} →
        Takes reach d integer xs ys → Produces reach r.PrimaryExpr d xs ys (integer_literal xs)
    string_expr : {d : ℕ} {xs ys : List Lexed} →
        Takes reach d string xs ys → Produces reach r.PrimaryExpr d xs ys (string_literal xs)
    variable_expr : {d : ℕ} {xs ys zs : List Lexed} {word : List ℕ} →
        Takes reach d (t "$") xs ys → IsBefore reach ys → Reads reach r.VarName d ys zs word → Produces reach r.PrimaryExpr d xs zs (variable xs word)
    variable_cut : {d : ℕ} {xs ys : List Lexed} →
        Takes reach d (t "$") xs ys → IsCut reach ys → Produces reach r.PrimaryExpr d xs ys (cut_variable xs)
    parenthesized : {d : ℕ} {xs ys zs us : List Lexed} {a : Operand} →
        Takes reach (suc d) (t "(") xs ys → Reads reach r.Parenthesized (suc d) ys zs a → Takes reach d (t ")") zs us → Produces reach r.PrimaryExpr d xs us (other a.tree a.names)
    inside : {d : ℕ} {xs ys : List Lexed} {a : Operand} →
        Reads reach r.Expr d xs ys a → Produces reach r.Parenthesized d xs ys a
    empty : {d : ℕ} {xs : List Lexed} →
        Produces reach r.Parenthesized d xs xs (other empty_sequence [])
    -- 48: FunctionCall
    some_arguments : {d : ℕ} {xs ys zs : List Lexed} {first : Operand} {more : Arguments} →
        Reads reach r.ExprSingle d xs ys first → Reads reach r.ArgumentsTail d ys zs more → Produces reach r.Arguments d xs zs (Next (first_from xs) first more)
    no_arguments : {d : ℕ} {xs : List Lexed} →
        Produces reach r.Arguments d xs xs Closed
    more_arguments : {d : ℕ} {xs ys zs us : List Lexed} {next : Operand} {more : Arguments} →
        Takes reach d (t ",") xs ys → Reads reach r.ExprSingle d ys zs next → Reads reach r.ArgumentsTail d zs us more → Produces reach r.ArgumentsTail d xs us (Next (first_from ys) next more)
    arguments_end : {d : ℕ} {xs : List Lexed} →
        Produces reach r.ArgumentsTail d xs xs Closed
    -- 45: VarName
    variable_name : {d : ℕ} {xs ys : List Lexed} {word : List ℕ} →
        Reads reach r.PlainName d xs ys word → Produces reach r.VarName d xs ys word
    axis_variable : {d : ℕ} {xs ys : List Lexed} →
        Takes reach d axis xs ys → Produces reach r.VarName d xs ys (first_text xs)
    node_variable : {d : ℕ} {xs ys : List Lexed} →
        Takes reach d (t "node") xs ys → Produces reach r.VarName d xs ys (first_text xs)
    element_variable : {d : ℕ} {xs ys : List Lexed} →
        Takes reach d (t "element") xs ys → Produces reach r.VarName d xs ys (first_text xs)
    -- A.2: a word is a name where the grammar wants one
    plain_name : {d : ℕ} {xs ys : List Lexed} {s : Symbol} →
        IsAmong s (xpath r.PlainName) → Takes reach d s xs ys → Produces reach r.PlainName d xs ys (first_text xs)

-- the tokens of a whole text say this
abbrev pub AreRead : List Lexed → Operand → Type 0
AreRead tokens a = Reads All r.Expr 0 tokens [] a
