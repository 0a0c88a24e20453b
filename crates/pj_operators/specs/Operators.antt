-- What operators make of the types of their operands (JLS 15.14 to 15.24).
use Rattle.std.specs.Prelude.{ℕ, ◌==◌, Bool, false, ◌&&◌, ◌||◌, not, Option, None, Some, if◌then◌else◌, List, [], ◌∷◌, length, filter, codes, nat_eq}
use Rattle.std.specs.Cmp.Lexicographic.{pointwise}
use Rattle.std.specs.Option.{option_map_or}
use Rattle.pj_base.specs.WordTable.{value_in}
use Rattle.pj_tree.specs.Tree.{Tree}
use Rattle.pj_tree.specs.declared.node.Node.{Node}
use Rattle.pj_tree.specs.Words.{words_of, last_of}
use Rattle.pj_tree.specs.Kinds.{is_kind}
use Rattle.pj_tree.specs.declared.kind.Kind.TheVariants as k
use Rattle.pj_names.specs.declared.ty.PrimitiveType.TheVariants as p
use Rattle.pj_names.specs.JavaType.{JavaType, Primitive, Void, Null, Class, Array, Variable, Unknown}
use Rattle.pj_operators.specs.declared.operators.Infix.{Infix}
use Rattle.pj_operators.specs.declared.operators.Infix.TheVariants as i
use Rattle.pj_operators.specs.declared.operators.Unary.{Unary}
use Rattle.pj_operators.specs.declared.operators.Unary.TheVariants as u
use Rattle.pj_operators.specs.Literals.{string_type}
use Rattle.pj_types.specs.Conversions.{as_primitive}
use Rattle.pj_types.specs.Subtyping.{is_same_primitive}
use Rattle.pj_types.specs.Conversions.{promoted, promoted_both}

-- ---- the operator of an expression

-- The tokens of an operator are the words of its expression but the parentheses around operands. `>` is always a token alone, so `>>`, `>>>`
-- and `>=` are several.
abbrev pub is_sign : List ℕ → Bool
is_sign word = not (pointwise nat_eq word (codes "(") || pointwise nat_eq word (codes ")"))

abbrev pub signs_of : Tree → Node → List (List ℕ)
signs_of t n = filter is_sign (words_of t n)

-- those that are one token
abbrev pub infix_words : List (List ℕ × Infix)
infix_words =
    (codes "==", i.Test) ∷ (codes "!=", i.Test) ∷ (codes "<", i.Test) ∷ (codes ">", i.Test) ∷ (codes "<=", i.Test)
    ∷ (codes "instanceof", i.Test) ∷ (codes "&&", i.Test) ∷ (codes "||", i.Test)
    ∷ (codes "<<", i.Shift) ∷ (codes "+", i.Sum)
    ∷ (codes "-", i.Arithmetic) ∷ (codes "*", i.Arithmetic) ∷ (codes "/", i.Arithmetic) ∷ (codes "%", i.Arithmetic)
    ∷ (codes "&", i.Bitwise) ∷ (codes "|", i.Bitwise) ∷ (codes "^", i.Bitwise) ∷ []

abbrev pub is_word : List ℕ → List ℕ → Bool
is_word word last = pointwise nat_eq last word

-- By how many tokens it has and by the last of them: those of several tokens are `>=`, `>>` and `>>>`, and no others.
abbrev pub infix_by : ℕ → List ℕ → Option Infix
infix_by count last =
    if count == 1 then value_in infix_words last
    else if count == 2 && is_word (codes "=") last then Some i.Test
    else if (count == 2 || count == 3) && is_word (codes ">") last then Some i.Shift
    else None

-- the operator of an infix expression; no other node has one
abbrev pub infix_of : Tree → Node → Option Infix
infix_of t n = if is_kind t k.InfixExpression n then infix_by (length (signs_of t n)) (last_of [] (signs_of t n)) else None

abbrev pub unary_words : List (List ℕ × Unary)
unary_words =
    (codes "!", u.Not) ∷ (codes "++", u.Step) ∷ (codes "--", u.Step)
    ∷ (codes "+", u.Sign) ∷ (codes "-", u.Sign) ∷ (codes "~", u.Sign) ∷ []

-- each is one token
abbrev pub unary_by : ℕ → List ℕ → Option Unary
unary_by count last = if count == 1 then value_in unary_words last else None

-- the operator of a unary expression; no other node has one
abbrev pub unary_of : Tree → Node → Option Unary
unary_of t n = if is_kind t k.UnaryExpression n then unary_by (length (signs_of t n)) (last_of [] (signs_of t n)) else None

-- ---- what it makes of types

-- a String is the class `java.lang.String` (JLS 15.18.1)
abbrev pub is_string : JavaType → Bool
is_string (Primitive prim) = false
is_string Void = false
is_string Null = false
is_string (Class name arguments) = pointwise nat_eq name (codes "java.lang.String")
is_string (Array member) = false
is_string (Variable name bound) = false
is_string Unknown = false

-- `boolean`, or what is unboxed to it (JLS 5.1.8)
abbrev pub is_boolean : JavaType → Bool
is_boolean ty = option_map_or (is_same_primitive p.Boolean) (as_primitive ty) false

-- `+` with a String is a String, and else additive (JLS 15.18)
abbrev pub sum_type : JavaType → JavaType → JavaType
sum_type first second = if is_string first || is_string second then string_type else promoted_both first second

-- `&`, `^` and `|` of booleans are boolean, and else integer operators (JLS 15.22)
abbrev pub bitwise_type : JavaType → JavaType → JavaType
bitwise_type first second = if is_boolean first && is_boolean second then Primitive p.Boolean else promoted_both first second

-- Comparisons, `instanceof`, `&&` and `||` are boolean whatever their operands are (JLS 15.20, 15.21, 15.23, 15.24); a shift has the promoted type of its
-- left operand (JLS 15.19).
abbrev pub infix_type : Infix → JavaType → JavaType → JavaType
infix_type i.Test first second = Primitive p.Boolean
infix_type i.Shift first second = promoted first
infix_type i.Sum first second = sum_type first second
infix_type i.Bitwise first second = bitwise_type first second
infix_type i.Arithmetic first second = promoted_both first second

-- `!` is boolean (JLS 15.15.6); `++` and `--` have the type of their operand (JLS 15.14.2, 15.14.3, 15.15.1, 15.15.2), and `+`, `-` and `~` its promoted one (JLS 15.15.3 to 15.15.5).
abbrev pub unary_type : Unary → JavaType → JavaType
unary_type u.Not operand = Primitive p.Boolean
unary_type u.Step operand = operand
unary_type u.Sign operand = promoted operand
