-- What each form of an expression is seen as, by what its parts are seen as.
use Rattle.std.proofs.Common.{◌≡◌, ◌∙◌, ℕ, ℤ, ◌++◌, ◌∷◌, List, [], map, Option, Some, None, Vec, Box, Global, Result, Ok, Err, OnOk, ◌≤◌, ◌-◌, length, get_or, drop, take, refl, sym, ap, ap₂, arith}
use Rattle.pj_base.specs.declared.memory.NoMemory.{NoMemory}
use Rattle.std.proofs.lemmas.List.{append-nil, append_assoc}
use Rattle.std.proofs.Math.Seq.{take-length}
use Rattle.pj_xexpressions.specs.declared.axis.Axis.{Axis}
use Rattle.pj_xexpressions.specs.declared.function.Function.{Function}
use Rattle.pj_xexpressions.specs.declared.operator.Compare.{Compare}
use Rattle.pj_xexpressions.specs.declared.pmd_function.PmdFunction.{PmdFunction}
use Rattle.pj_xexpressions.specs.declared.operator.Additive.{Additive}
use Rattle.pj_xexpressions.specs.declared.operator.Multiplicative.{Multiplicative}
use Rattle.pj_xexpressions.specs.declared.expr.NodeTest.{NodeTest}
use Rattle.pj_xexpressions.specs.declared.operator.Quantifier.{Quantifier}
use Rattle.pj_xexpressions.specs.declared.operator.SetOperator.{SetOperator}
use Rattle.pj_xexpressions.specs.declared.operator.Sign.{Sign}
use Rattle.pj_xexpressions.specs.declared.expr.Expr.{Expr}
use Rattle.pj_xexpressions.specs.declared.expr.Expr.TheOpen.{Expr-F}
use Rattle.pj_xexpressions.specs.declared.expr.Expr.TheVariants as expr
use Rattle.pj_xexpressions.specs.declared.expr.Expr.TheViews.{roll-Expr}
use Rattle.pj_xexpressions.specs.declared.expr.Expr.TheFolds.{fold-roll-Expr}
use Rattle.pj_xexpressions.specs.Expressions.{Written, Literal, Number, Name, Other}
use Rattle.pj_xpatterns.specs.Meaning.{Pattern}
use Rattle.pj_xpatterns.specs.Written.{Variables, Seen, bound_seen, next_seen, of_each, of_second, of_call, own_pattern, pattern_at, flags_place, seen_step, seen_of}

pub seen_of-Comma : (variables : Variables) (parts : Vec Expr Global) → seen_of variables (expr.Comma parts) ≡ record { written = Other; patterns = of_each (map (seen_of variables) parts.items) }
unfolding seen_of roll-Expr denote.Hole.Carrier.roll
seen_of-Comma variables parts = fold-roll-Expr Seen (seen_step variables) (Expr-F.Comma parts)

pub seen_of-For : (variables : Variables) (bindings : Vec (List ℕ × Expr) Global) (body : Box Expr Global) → seen_of variables (expr.For bindings body) ≡ record { written = Other; patterns = of_second (map (bound_seen variables) bindings.items) ++ (seen_of variables body.value).patterns }
unfolding seen_of roll-Expr denote.Hole.Carrier.roll
seen_of-For variables bindings body = fold-roll-Expr Seen (seen_step variables) (Expr-F.For bindings body)

pub seen_of-Let : (variables : Variables) (bindings : Vec (List ℕ × Expr) Global) (body : Box Expr Global) → seen_of variables (expr.Let bindings body) ≡ record { written = Other; patterns = of_second (map (bound_seen variables) bindings.items) ++ (seen_of variables body.value).patterns }
unfolding seen_of roll-Expr denote.Hole.Carrier.roll
seen_of-Let variables bindings body = fold-roll-Expr Seen (seen_step variables) (Expr-F.Let bindings body)

pub seen_of-Quantified : (variables : Variables) (quantifier : Quantifier) (bindings : Vec (List ℕ × Expr) Global) (test : Box Expr Global) → seen_of variables (expr.Quantified quantifier bindings test) ≡ record { written = Other; patterns = of_second (map (bound_seen variables) bindings.items) ++ (seen_of variables test.value).patterns }
unfolding seen_of roll-Expr denote.Hole.Carrier.roll
seen_of-Quantified variables quantifier bindings test = fold-roll-Expr Seen (seen_step variables) (Expr-F.Quantified quantifier bindings test)

pub seen_of-If : (variables : Variables) (test chosen other : Box Expr Global) → seen_of variables (expr.If test chosen other) ≡ record { written = Other; patterns = (seen_of variables test.value).patterns ++ ((seen_of variables chosen.value).patterns ++ (seen_of variables other.value).patterns) }
unfolding seen_of roll-Expr denote.Hole.Carrier.roll
seen_of-If variables test chosen other = fold-roll-Expr Seen (seen_step variables) (Expr-F.If test chosen other)

pub seen_of-Or : (variables : Variables) (parts : Vec Expr Global) → seen_of variables (expr.Or parts) ≡ record { written = Other; patterns = of_each (map (seen_of variables) parts.items) }
unfolding seen_of roll-Expr denote.Hole.Carrier.roll
seen_of-Or variables parts = fold-roll-Expr Seen (seen_step variables) (Expr-F.Or parts)

pub seen_of-And : (variables : Variables) (parts : Vec Expr Global) → seen_of variables (expr.And parts) ≡ record { written = Other; patterns = of_each (map (seen_of variables) parts.items) }
unfolding seen_of roll-Expr denote.Hole.Carrier.roll
seen_of-And variables parts = fold-roll-Expr Seen (seen_step variables) (Expr-F.And parts)

pub seen_of-Comparison : (variables : Variables) (op : Compare) (left right : Box Expr Global) → seen_of variables (expr.Comparison op left right) ≡ record { written = Other; patterns = (seen_of variables left.value).patterns ++ (seen_of variables right.value).patterns }
unfolding seen_of roll-Expr denote.Hole.Carrier.roll
seen_of-Comparison variables op left right = fold-roll-Expr Seen (seen_step variables) (Expr-F.Comparison op left right)

pub seen_of-Concatenation : (variables : Variables) (parts : Vec Expr Global) → seen_of variables (expr.Concatenation parts) ≡ record { written = Other; patterns = of_each (map (seen_of variables) parts.items) }
unfolding seen_of roll-Expr denote.Hole.Carrier.roll
seen_of-Concatenation variables parts = fold-roll-Expr Seen (seen_step variables) (Expr-F.Concatenation parts)

pub seen_of-Range : (variables : Variables) (from to : Box Expr Global) → seen_of variables (expr.Range from to) ≡ record { written = Other; patterns = (seen_of variables from.value).patterns ++ (seen_of variables to.value).patterns }
unfolding seen_of roll-Expr denote.Hole.Carrier.roll
seen_of-Range variables from to = fold-roll-Expr Seen (seen_step variables) (Expr-F.Range from to)

pub seen_of-Additive : (variables : Variables) (first : Box Expr Global) (rest : Vec (Additive × Expr) Global) → seen_of variables (expr.Additive first rest) ≡ record { written = Other; patterns = (seen_of variables first.value).patterns ++ of_second (map (next_seen variables) rest.items) }
unfolding seen_of roll-Expr denote.Hole.Carrier.roll
seen_of-Additive variables first rest = fold-roll-Expr Seen (seen_step variables) (Expr-F.Additive first rest)

pub seen_of-Multiplicative : (variables : Variables) (first : Box Expr Global) (rest : Vec (Multiplicative × Expr) Global) → seen_of variables (expr.Multiplicative first rest) ≡ record { written = Other; patterns = (seen_of variables first.value).patterns ++ of_second (map (next_seen variables) rest.items) }
unfolding seen_of roll-Expr denote.Hole.Carrier.roll
seen_of-Multiplicative variables first rest = fold-roll-Expr Seen (seen_step variables) (Expr-F.Multiplicative first rest)

pub seen_of-Union : (variables : Variables) (parts : Vec Expr Global) → seen_of variables (expr.Union parts) ≡ record { written = Other; patterns = of_each (map (seen_of variables) parts.items) }
unfolding seen_of roll-Expr denote.Hole.Carrier.roll
seen_of-Union variables parts = fold-roll-Expr Seen (seen_step variables) (Expr-F.Union parts)

pub seen_of-IntersectExcept : (variables : Variables) (first : Box Expr Global) (rest : Vec (SetOperator × Expr) Global) → seen_of variables (expr.IntersectExcept first rest) ≡ record { written = Other; patterns = (seen_of variables first.value).patterns ++ of_second (map (next_seen variables) rest.items) }
unfolding seen_of roll-Expr denote.Hole.Carrier.roll
seen_of-IntersectExcept variables first rest = fold-roll-Expr Seen (seen_step variables) (Expr-F.IntersectExcept first rest)

pub seen_of-Unary : (variables : Variables) (sign : Sign) (part : Box Expr Global) → seen_of variables (expr.Unary sign part) ≡ record { written = Other; patterns = (seen_of variables part.value).patterns }
unfolding seen_of roll-Expr denote.Hole.Carrier.roll
seen_of-Unary variables sign part = fold-roll-Expr Seen (seen_step variables) (Expr-F.Unary sign part)

pub seen_of-SimpleMap : (variables : Variables) (parts : Vec Expr Global) → seen_of variables (expr.SimpleMap parts) ≡ record { written = Other; patterns = of_each (map (seen_of variables) parts.items) }
unfolding seen_of roll-Expr denote.Hole.Carrier.roll
seen_of-SimpleMap variables parts = fold-roll-Expr Seen (seen_step variables) (Expr-F.SimpleMap parts)

pub seen_of-Path : (variables : Variables) (steps : Vec Expr Global) → seen_of variables (expr.Path steps) ≡ record { written = Other; patterns = of_each (map (seen_of variables) steps.items) }
unfolding seen_of roll-Expr denote.Hole.Carrier.roll
seen_of-Path variables steps = fold-roll-Expr Seen (seen_step variables) (Expr-F.Path steps)

pub seen_of-Root : (variables : Variables) → seen_of variables expr.Root ≡ record { written = Other; patterns = [] }
unfolding seen_of roll-Expr denote.Hole.Carrier.roll
seen_of-Root variables = fold-roll-Expr Seen (seen_step variables) Expr-F.Root

pub seen_of-Step : (variables : Variables) (axis : Axis) (test : NodeTest) (predicates : Vec Expr Global) → seen_of variables (expr.Step axis test predicates) ≡ record { written = Other; patterns = of_each (map (seen_of variables) predicates.items) }
unfolding seen_of roll-Expr denote.Hole.Carrier.roll
seen_of-Step variables axis test predicates = fold-roll-Expr Seen (seen_step variables) (Expr-F.Step axis test predicates)

pub seen_of-AttributeStep : (variables : Variables) (test : NodeTest) (predicates : Vec Expr Global) → seen_of variables (expr.AttributeStep test predicates) ≡ record { written = Other; patterns = of_each (map (seen_of variables) predicates.items) }
unfolding seen_of roll-Expr denote.Hole.Carrier.roll
seen_of-AttributeStep variables test predicates = fold-roll-Expr Seen (seen_step variables) (Expr-F.AttributeStep test predicates)

pub seen_of-Filter : (variables : Variables) (primary : Box Expr Global) (predicates : Vec Expr Global) → seen_of variables (expr.Filter primary predicates) ≡ record { written = Other; patterns = (seen_of variables primary.value).patterns ++ of_each (map (seen_of variables) predicates.items) }
unfolding seen_of roll-Expr denote.Hole.Carrier.roll
seen_of-Filter variables primary predicates = fold-roll-Expr Seen (seen_step variables) (Expr-F.Filter primary predicates)

pub seen_of-Integer : (variables : Variables) (value : Option ℤ) → seen_of variables (expr.Integer value) ≡ record { written = Number; patterns = [] }
unfolding seen_of roll-Expr denote.Hole.Carrier.roll
seen_of-Integer variables value = fold-roll-Expr Seen (seen_step variables) (Expr-F.Integer value)

pub seen_of-String : (variables : Variables) (text : List ℕ) → seen_of variables (expr.String text) ≡ record { written = Literal text; patterns = [] }
unfolding seen_of roll-Expr denote.Hole.Carrier.roll
seen_of-String variables text = fold-roll-Expr Seen (seen_step variables) (Expr-F.String text)

pub seen_of-Variable : (variables : Variables) (name : List ℕ) → seen_of variables (expr.Variable name) ≡ record { written = Name name; patterns = [] }
unfolding seen_of roll-Expr denote.Hole.Carrier.roll
seen_of-Variable variables name = fold-roll-Expr Seen (seen_step variables) (Expr-F.Variable name)

pub seen_of-ContextItem : (variables : Variables) → seen_of variables expr.ContextItem ≡ record { written = Other; patterns = [] }
unfolding seen_of roll-Expr denote.Hole.Carrier.roll
seen_of-ContextItem variables = fold-roll-Expr Seen (seen_step variables) Expr-F.ContextItem

pub seen_of-Call : (variables : Variables) (function : Function) (arguments : Vec Expr Global) → seen_of variables (expr.Call function arguments) ≡ record { written = Other; patterns = of_call variables function (map (seen_of variables) arguments.items) }
unfolding seen_of roll-Expr denote.Hole.Carrier.roll
seen_of-Call variables function arguments = fold-roll-Expr Seen (seen_step variables) (Expr-F.Call function arguments)

pub seen_of-PmdCall : (variables : Variables) (function : PmdFunction) (arguments : Vec Expr Global) → seen_of variables (expr.PmdCall function arguments) ≡ record { written = Other; patterns = of_each (map (seen_of variables) arguments.items) }
unfolding seen_of roll-Expr denote.Hole.Carrier.roll
seen_of-PmdCall variables function arguments = fold-roll-Expr Seen (seen_step variables) (Expr-F.PmdCall function arguments)

-- the equations, for the proofs of what reads expressions
pub ruleset seen_forms = (seen_of-Comma, seen_of-For, seen_of-Let, seen_of-Quantified, seen_of-If, seen_of-Or, seen_of-And, seen_of-Comparison, seen_of-Concatenation, seen_of-Range, seen_of-Additive, seen_of-Multiplicative, seen_of-Union, seen_of-IntersectExcept, seen_of-Unary, seen_of-SimpleMap, seen_of-Path, seen_of-Root, seen_of-Step, seen_of-AttributeStep, seen_of-Filter, seen_of-Integer, seen_of-String, seen_of-Variable, seen_of-ContextItem, seen_of-Call, seen_of-PmdCall, append-nil, append_assoc)

-- ---- calls

own-empty : (variables : Variables) (function : Function) → own_pattern variables function [] ≡ []
own-empty variables function = go (flags_place function)
  where
    go : (o : Option ℕ) → pattern_at variables o [] ≡ []
    go None = refl
    go (Some place) = refl

pub of_call-empty : (variables : Variables) (function : Function) → of_call variables function [] ≡ []
of_call-empty variables function = rw (own-empty variables function) refl

pub of_call-some : (variables : Variables) (function : Function) (first : Seen) (rest : List Seen) → of_call variables function (first ∷ rest) ≡ first.patterns ++ (own_pattern variables function (first.written ∷ map (λ argument. argument.written) rest) ++ of_each rest)
of_call-some variables function first rest = ap (λ (t : List Pattern). t ++ (own_pattern variables function (first.written ∷ map (λ argument. argument.written) rest) ++ of_each rest)) (append-nil first.patterns)

written-map : (variables : Variables) (es : List Expr) → map (λ (argument : Seen). argument.written) (map (seen_of variables) es) ≡ map (λ (argument : Expr). (seen_of variables argument).written) es
written-map variables [] = refl
written-map variables (e ∷ es) = ap (λ (t : List Written). (seen_of variables e).written ∷ t) (written-map variables es)

-- the same of the expressions
pub of_call-exprs : (variables : Variables) (function : Function) (e : Expr) (es : List Expr) → of_call variables function (map (seen_of variables) (e ∷ es)) ≡ (seen_of variables e).patterns ++ (own_pattern variables function (map (λ argument. (seen_of variables argument).written) (e ∷ es)) ++ of_each (map (seen_of variables) es))
of_call-exprs variables function e es = of_call-some variables function (seen_of variables e) (map (seen_of variables) es) ∙ ap (λ (t : List Written). (seen_of variables e).patterns ++ (own_pattern variables function ((seen_of variables e).written ∷ t) ++ of_each (map (seen_of variables) es))) (written-map variables es)

patterns-call : (variables : Variables) (function : Function) (arguments : Vec Expr Global) (e : Expr) (items : List Expr) → e ≡ expr.Call function arguments → arguments.items ≡ items → (seen_of variables e).patterns ≡ of_call variables function (map (seen_of variables) items)
patterns-call variables function arguments e items is are =
    ap (λ (x : Expr). (seen_of variables x).patterns) is ∙ ap (λ (seen : Seen). seen.patterns) (seen_of-Call variables function arguments) ∙ ap (λ (xs : List Expr). of_call variables function (map (seen_of variables) xs)) are

pub empty_call : (variables : Variables) (function : Function) (arguments : Vec Expr Global) (e : Expr) (items : List Expr) (old : List Pattern) → e ≡ expr.Call function arguments → items ≡ arguments.items → length items ≡ 0 → old ≡ old ++ (seen_of variables e).patterns
empty_call variables function arguments e [] old is are none = sym (ap (λ (ps : List Pattern). old ++ ps) (patterns-call variables function arguments e [] is (sym are) ∙ of_call-empty variables function) ∙ append-nil old)
empty_call variables function arguments e (x ∷ xs) old is are none = absurd (omega (arith, none))

weaker : (P Q : Type 0) (r : Result (Unit {0}) NoMemory) → (P → Q) → OnOk r P → OnOk r Q
weaker P Q (Ok x) f h = f h
weaker P Q (Err e) f h = tt

pub some_call : (variables : Variables) (function : Function) (arguments : Vec Expr Global) (e first : Expr) (items again : List Expr) (old a b new : List Pattern) (r : Result (Unit {0}) NoMemory)
    → e ≡ expr.Call function arguments → items ≡ arguments.items → again ≡ arguments.items → 1 ≤ length items → first ≡ get_or items 0 first
    → a ≡ old ++ (seen_of variables first).patterns → b ≡ a ++ own_pattern variables function (map (λ argument. (seen_of variables argument).written) again)
    → OnOk r (new ≡ b ++ of_each (map (seen_of variables) (take (length items - 1) (drop 1 items)))) → OnOk r (new ≡ old ++ (seen_of variables e).patterns)
some_call variables function arguments e first [] again old a b new r is are same some at_first h k all = absurd (omega (arith, some))
some_call variables function arguments e first (x ∷ xs) again old a b new r is are same some at_first h k all =
    let count : length (x ∷ xs) - 1 ≡ length xs = omega arith in
    let whole : take (length (x ∷ xs) - 1) xs ≡ xs = ap (λ (n : ℕ). take n xs) count ∙ take-length xs in
    weaker _ _ r (λ rest. rest ∙ ap (λ (es : List Expr). b ++ of_each (map (seen_of variables) es)) whole ∙ ap (λ (ps : List Pattern). ps ++ of_each (map (seen_of variables) xs)) (k ∙ ap₂ (λ (ps : List Pattern) (es : List Expr). ps ++ own_pattern variables function (map (λ argument. (seen_of variables argument).written) es)) (h ∙ ap (λ (y : Expr). old ++ (seen_of variables y).patterns) at_first) (same ∙ sym are))
    ∙ append_assoc (old ++ (seen_of variables x).patterns) (own_pattern variables function (map (λ argument. (seen_of variables argument).written) (x ∷ xs))) (of_each (map (seen_of variables) xs))
    ∙ append_assoc old (seen_of variables x).patterns (own_pattern variables function (map (λ argument. (seen_of variables argument).written) (x ∷ xs)) ++ of_each (map (seen_of variables) xs))
    ∙ sym (ap (λ (ps : List Pattern). old ++ ps) (patterns-call variables function arguments e (x ∷ xs) is (sym are) ∙ of_call-exprs variables function x xs))) all
