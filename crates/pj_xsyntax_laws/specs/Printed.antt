-- The printed form of an expression: words with a space behind each, and no parentheses but those that the grammar asks for. A `/` alone is in
-- parentheses before a word or a `*`, which would begin a step behind it (XPath 2.0, A.1.2, leading-lone-slash); so the words depend on
-- whether one of these stands behind them. Steps have their axes, but `..` stands for `parent::node()`, and `//` for the step
-- `descendant-or-self::node()` before another one, since the parentheses of kind tests nest (3.2.4).
use Rattle.std.specs.Prelude.{ℕ, ℤ, pos, negsuc, Bool, true, false, nat_eq, nat_lt, if◌then◌else◌, List, [], ◌∷◌, ◌++◌, length, map, Option, Some, None, codes}
use Rattle.std.specs.Fmt.{decimal}
use Rattle.std.specs.Str.{chars}
use Prim.Native.String.{String}
use denote.Enum.Declared.{tag_of}
use Rattle.pj_xexpressions.specs.declared.axis.Axis.{Axis}
use Rattle.pj_xexpressions.specs.declared.axis.Axis.TheVariants as axes_of
use Rattle.pj_xexpressions.specs.contracts.axis.Axis as axis
use Rattle.pj_xexpressions.specs.declared.function.Function.{Function}
use Rattle.pj_xexpressions.specs.contracts.function.Function as function
use Rattle.pj_xexpressions.specs.declared.pmd_function.PmdFunction.{PmdFunction}
use Rattle.pj_xexpressions.specs.contracts.pmd_function.PmdFunction as pmd_function
use Rattle.pj_xexpressions.specs.declared.operator.Compare.{Compare}
use Rattle.pj_xexpressions.specs.declared.operator.Compare.TheVariants as compare
use Rattle.pj_xexpressions.specs.declared.operator.Additive.{Additive}
use Rattle.pj_xexpressions.specs.declared.operator.Additive.TheVariants as sum
use Rattle.pj_xexpressions.specs.declared.operator.Multiplicative.{Multiplicative}
use Rattle.pj_xexpressions.specs.declared.operator.Multiplicative.TheVariants as product
use Rattle.pj_xexpressions.specs.declared.expr.NodeTest.{NodeTest}
use Rattle.pj_xexpressions.specs.declared.expr.NodeTest.TheVariants as test
use Rattle.pj_xexpressions.specs.declared.operator.Quantifier.{Quantifier}
use Rattle.pj_xexpressions.specs.declared.operator.Quantifier.TheVariants as quantifier
use Rattle.pj_xexpressions.specs.declared.operator.SetOperator.{SetOperator}
use Rattle.pj_xexpressions.specs.declared.operator.SetOperator.TheVariants as set
use Rattle.pj_xexpressions.specs.declared.operator.Sign.{Sign}
use Rattle.pj_xexpressions.specs.declared.operator.Sign.TheVariants as signed
use Rattle.pj_xtokens.specs.declared.token.Sign as token
use Rattle.pj_xtokens.specs.declared.token.Sign.TheVariants as s
use Rattle.pj_xtokens.specs.declared.token.TokenKind.TheVariants as kind
use Rattle.pj_xsyntax_laws.specs.Spaced.{Word, word, spaced, literal}
use Rattle.pj_xexpressions.specs.Names.{functions, pmd_functions, axes}
use Rattle.pj_xexpressions.specs.Trees as tree
use Rattle.pj_xexpressions.specs.Trees.{Tree, Trees, Construct, Node, NoMore, More}
use Rattle.pj_xreadings.specs.Nesting.{is_descendants_by}
use Rattle.pj_xreadings.specs.Shapes.{level_by}

-- ---- words

-- a word of the grammar
abbrev pub keyword : String → Word
keyword text = word kind.Name (codes text)

-- a sign as it is written
abbrev pub sign : String → token.Sign → Word
sign text s = word (kind.Sign s) (codes text)

-- a name, of which the bytes are given
abbrev pub name : List ℕ → Word
name bytes = word kind.Name (chars bytes)

-- a name of a table, whose bytes are ASCII: so its characters are its bytes
abbrev pub named : List ℕ → Word
named bytes = word kind.Name bytes

-- `,`
abbrev pub comma : Word
comma = sign "," s.Comma

-- `(`
abbrev pub left : Word
left = sign "(" s.LeftParenthesis

-- `)`
abbrev pub right : Word
right = sign ")" s.RightParenthesis

-- `/`
abbrev pub slash : Word
slash = sign "/" s.Slash

-- `//`
abbrev pub slashes : Word
slashes = sign "//" s.SlashSlash

-- `$`
abbrev pub dollar : Word
dollar = sign "$" s.Dollar

-- what stands in parentheses
abbrev pub enclosed : List Word → List Word
enclosed words = left ∷ (words ++ right ∷ [])

-- the first name of a table that means this, where the number tells the meanings apart
abbrev pub name_in : {A : Type 0} → (A → ℕ) → List (List ℕ × A) → A → List ℕ
name_in number [] means = []
name_in number (row ∷ rows) means = if nat_eq (number row.1) (number means) then row.0 else name_in number rows means

-- the name of a function of XPath, without a prefix
abbrev pub function_name : Function → List ℕ
function_name f = name_in (tag_of function.the_type) functions f

-- the name of a function of PMD, with its prefix
abbrev pub pmd_function_name : PmdFunction → List ℕ
pmd_function_name f = name_in (tag_of pmd_function.the_type) pmd_functions f

-- the name of an axis
abbrev pub axis_name : Axis → List ℕ
axis_name a = name_in (tag_of axis.the_type) axes a

-- ---- operators

-- XPath 2.0, 3.5.2: the general comparisons
abbrev pub compare_word : Compare → Word
compare_word compare.Equal = sign "=" s.Equal
compare_word compare.NotEqual = sign "!=" s.BangEqual
compare_word compare.Less = sign "<" s.Less
compare_word compare.LessOrEqual = sign "<=" s.LessEqual
compare_word compare.Greater = sign ">" s.Greater
compare_word compare.GreaterOrEqual = sign ">=" s.GreaterEqual

-- 3.4: the operators of a sum
abbrev pub sum_word : Additive → Word
sum_word sum.Plus = sign "+" s.Plus
sum_word sum.Minus = sign "-" s.Minus

-- 3.4: those of a product
abbrev pub product_word : Multiplicative → Word
product_word product.Times = sign "*" s.Star
product_word product.IntegerDivide = keyword "idiv"
product_word product.Modulo = keyword "mod"

-- 3.3.3: `intersect` and `except`
abbrev pub set_word : SetOperator → Word
set_word set.Intersect = keyword "intersect"
set_word set.Except = keyword "except"

-- 3.4: the sign before an operand
abbrev pub signed_word : Sign → Word
signed_word signed.Minus = sign "-" s.Minus
signed_word signed.Plus = sign "+" s.Plus

-- 3.9: the word before the variables
abbrev pub quantifier_word : Quantifier → Word
quantifier_word quantifier.Some = keyword "some"
quantifier_word quantifier.Every = keyword "every"

-- 3.2.1.2: node tests
abbrev pub test_words : NodeTest → List Word
test_words (test.Name bytes) = name bytes ∷ []
test_words test.AnyName = sign "*" s.Star ∷ []
test_words test.AnyNode = keyword "node" ∷ left ∷ right ∷ []
test_words test.AnyElement = keyword "element" ∷ left ∷ right ∷ []

-- what is above the greatest integer is written as the next number
abbrev pub integer_text : Option ℤ → List ℕ
integer_text (Some (pos n)) = decimal n
integer_text (Some (negsuc n)) = []
integer_text None = codes "9223372036854775808"

-- ---- expressions

-- what the surroundings see: the level; whether it is the step that `//` stands for; and the words where a word or a `*` stands behind, and where not
pub record Printed : Type 0 where
  pub level : ℕ
  pub is_descendants : Bool
  pub words : Bool → List Word

-- an operand, in parentheses where its level is below the least that may stand there without
abbrev pub operand : Bool → ℕ → Printed → List Word
operand behind least part = if nat_lt part.level least then enclosed (part.words false) else part.words behind

-- The operands of a chain with the operators between them; `mark` says that these are words or `*`. Of one operand no operator is taken.
abbrev pub chain : Bool → Bool → ℕ → List Word → List Printed → List Word
chain behind mark least operators [] = []
chain behind mark least operators (last ∷ []) = operand behind least last
chain behind mark least [] (part ∷ next ∷ more) = []
chain behind mark least (operator ∷ operators) (part ∷ next ∷ more) = operand mark least part ++ operator ∷ chain behind mark least operators (next ∷ more)

-- those with one operator between them all
abbrev pub joined : Bool → Bool → ℕ → Word → List Printed → List Word
joined behind mark least operator [] = []
joined behind mark least operator (first ∷ rest) = chain behind mark least (map (λ part. operator) rest) (first ∷ rest)

-- the variables with their expressions behind `in` or `:=`, and the body behind `return` or `satisfies`
abbrev pub clauses : Bool → Word → Word → List (List ℕ) → List Printed → List Word
clauses behind mark last [] (body ∷ []) = last ∷ operand behind 1 body
clauses behind mark last (bytes ∷ []) (value ∷ body ∷ []) = dollar ∷ name bytes ∷ mark ∷ (operand true 1 value ++ last ∷ operand behind 1 body)
clauses behind mark last (bytes ∷ next ∷ names) (value ∷ parts) = dollar ∷ name bytes ∷ mark ∷ (operand false 1 value ++ comma ∷ clauses behind mark last (next ∷ names) parts)
clauses behind mark last _ _ = []

-- the test of an `if`, and the expressions behind `then` and `else`
abbrev pub choice : Bool → List Printed → List Word
choice behind (test ∷ chosen ∷ other ∷ []) = keyword "if" ∷ (enclosed (test.words false) ++ keyword "then" ∷ (operand true 1 chosen ++ keyword "else" ∷ operand behind 1 other))
choice behind _ = []

-- 3.2.2: each predicate in brackets
abbrev pub predicates : List Printed → List Word
predicates [] = []
predicates (predicate ∷ more) = sign "[" s.LeftBracket ∷ (predicate.words false ++ sign "]" s.RightBracket ∷ predicates more)

-- a primary expression with its predicates
abbrev pub filter : List Printed → List Word
filter [] = []
filter (primary ∷ more) = operand false 16 primary ++ predicates more

abbrev mutual
  -- a step, and those behind it
  pub from_step : Bool → Printed → List Printed → List Word
  from_step behind step [] = operand behind 15 step
  from_step behind step (next ∷ more) = operand false 15 step ++ further_steps behind next more

  -- a step behind a `/`, and those behind it; `//` stands for the step `descendant-or-self::node()` before another one
  pub further_steps : Bool → Printed → List Printed → List Word
  further_steps behind step [] = slash ∷ operand behind 15 step
  further_steps behind step (next ∷ more) =
      if step.is_descendants then slashes ∷ from_step behind next more else slash ∷ (operand false 15 step ++ further_steps behind next more)

-- the steps of a path; the `/` of one that begins at the root is that before its next step
abbrev pub steps : Bool → List Printed → List Word
steps behind [] = []
steps behind (only ∷ []) = operand false 14 only
steps behind (first ∷ next ∷ more) = if nat_eq first.level 14 then further_steps behind next more else operand false 14 first ++ further_steps behind next more

-- the axis and the test of a step; `..` stands for `parent::node()`
abbrev pub step_words : Axis → NodeTest → List Word
step_words axes_of.Parent test.AnyNode = sign ".." s.DotDot ∷ []
step_words a t = named (axis_name a) ∷ sign "::" s.ColonColon ∷ test_words t

-- the words of a construct with these parts, where a word or a `*` stands behind, or not
abbrev pub words_by : Construct → List Printed → Bool → List Word
words_by tree.Comma parts behind = if nat_eq (length parts) 0 then enclosed [] else joined behind false 1 comma parts
words_by (tree.For names) parts behind = keyword "for" ∷ clauses behind (keyword "in") (keyword "return") names parts
words_by (tree.Let names) parts behind = keyword "let" ∷ clauses behind (sign ":=" s.ColonEqual) (keyword "return") names parts
words_by (tree.Quantified quantifier names) parts behind = quantifier_word quantifier ∷ clauses behind (keyword "in") (keyword "satisfies") names parts
words_by tree.If parts behind = choice behind parts
words_by tree.Or parts behind = joined behind true 3 (keyword "or") parts
words_by tree.And parts behind = joined behind true 4 (keyword "and") parts
words_by (tree.Comparison op) parts behind = joined behind false 5 (compare_word op) parts
words_by tree.Concatenation parts behind = joined behind false 6 (sign "||" s.BarBar) parts
words_by tree.Range parts behind = joined behind true 7 (keyword "to") parts
words_by (tree.Additive' operators) parts behind = chain behind false 8 (map sum_word operators) parts
words_by (tree.Multiplicative' operators) parts behind = chain behind true 9 (map product_word operators) parts
words_by tree.Union parts behind = joined behind false 10 (sign "|" s.Bar) parts
words_by (tree.IntersectExcept operators) parts behind = chain behind true 11 (map set_word operators) parts
words_by (tree.Unary sign) parts behind = signed_word sign ∷ chain behind false 11 [] parts
words_by tree.SimpleMap parts behind = joined behind false 13 (sign "!" s.Bang) parts
words_by tree.Path parts behind = steps behind parts
words_by tree.Root parts behind = if behind then enclosed (slash ∷ []) else slash ∷ []
words_by (tree.Step a t) parts behind = step_words a t ++ predicates parts
words_by (tree.AttributeStep t) parts behind = keyword "attribute" ∷ sign "::" s.ColonColon ∷ (test_words t ++ predicates parts)
words_by tree.Filter parts behind = filter parts
words_by (tree.Integer value) parts behind = word kind.Integer (integer_text value) ∷ []
words_by (tree.String text) parts behind = word kind.String (literal (chars text)) ∷ []
words_by (tree.Variable bytes) parts behind = dollar ∷ name bytes ∷ []
words_by tree.ContextItem parts behind = sign "." s.Dot ∷ []
words_by (tree.Call f) parts behind = named (function_name f) ∷ enclosed (joined false false 1 comma parts)
words_by (tree.PmdCall f) parts behind = named (pmd_function_name f) ∷ enclosed (joined false false 1 comma parts)

unfoldable mutual
  -- how a tree is printed
  pub printed_of : Tree → Printed
  printed_of (Node construct parts) = record {
    level = level_by construct (length (printed_each parts));
    is_descendants = is_descendants_by construct (length (printed_each parts));
    words = words_by construct (printed_each parts);
  }

  -- and each of some trees
  pub printed_each : Trees → List Printed
  printed_each NoMore = []
  printed_each (More first rest) = printed_of first ∷ printed_each rest

-- the words of an expression, where a word or a `*` stands behind, or not
abbrev pub words_of : Bool → Tree → List Word
words_of behind t = (printed_of t).words behind

-- the text of an expression that stands alone, in characters
abbrev pub printed : Tree → List ℕ
printed t = spaced (words_of false t)
