-- The texts that nodes tell.
use Rattle.std.specs.Prelude.{ℕ, ◌==◌, Bool, false, not, ◌&&◌, ◌||◌, Option, None, Some, if◌then◌else◌, List, [], ◌∷◌, filter, length, codes, nat_eq}
use Rattle.std.specs.Option.{option_map, option_map_or}
use Rattle.std.specs.Cmp.Lexicographic.{pointwise}
use Rattle.std.specs.Path.{rsplit_once}
use Rattle.pj_tree.specs.Tree.{Tree, parent_of, text_of}
use Rattle.pj_tree.specs.declared.kind.Kind.TheVariants as k
use Rattle.pj_tree.specs.declared.node.Node.{Node}
use Rattle.pj_tree.specs.Kinds.{is_kind}
use Rattle.pj_tree.specs.Children.{first_child, child_of}
use Rattle.pj_tree.specs.Words.{words_of, first_of, last_of, has}
use Rattle.pj_parse.specs.PoolText.{pool_text}
use Rattle.pj_symbols.specs.Kinds.{declares_class}
use Rattle.pj_symbols.specs.Names.{package_name}
use Rattle.pj_symbols.specs.Classes.{nesting_of, binary_name}
use Rattle.pj_symbols.specs.Variables.{variable_kind}
use Rattle.pj_symbols.specs.declared.class.Nesting.{Nesting}
use Rattle.pj_symbols.specs.declared.class.Nesting.TheVariants as nesting
use Rattle.pj_symbols.specs.declared.variable.VariableKind.{VariableKind}
use Rattle.pj_symbols.specs.declared.variable.VariableKind.TheVariants as v
use Rattle.pj_modifiers.specs.Implied.{is_effective}
use Rattle.pj_xvalue.specs.declared.modifiers.Modifier.TheVariants as m
use Rattle.pj_properties.specs.declared.property.TextProperty.{TextProperty}
use Rattle.pj_properties.specs.declared.property.TextProperty.TheVariants as p

abbrev pub same : List ℕ → List ℕ → Bool
same text other = pointwise nat_eq text other

-- ---- imports (JLS 7.5)

-- whether an import is on demand: it ends in `.*`
abbrev pub is_on_demand : Tree → Node → Bool
is_on_demand t n = has (codes "*") (words_of t n)

-- the last word before the semicolon, which in an import that is not on demand is the last name
abbrev pub last_name : List ℕ → List (List ℕ) → List ℕ
last_name before [] = before
last_name before (word ∷ words) = if same word (codes ";") then last_name before words else last_name word words

-- absent of an import on demand
abbrev pub imported_simple_name : Tree → Node → Option (List ℕ)
imported_simple_name t n = if is_on_demand t n then None else Some (last_name [] (words_of t n))

-- what stands before the last dot, and nothing where there is none
abbrev pub before_last_dot : List ℕ → List ℕ
before_last_dot text = option_map_or (λ parts. parts.0) (rsplit_once 46 text) []

-- all but the last name; on demand all
abbrev pub imported_package : Tree → Node → Option (List ℕ)
imported_package t n = if is_on_demand t n then pool_text t n else option_map before_last_dot (pool_text t n)

-- ---- names

-- the name of the variable that a declaration of one declares
abbrev pub variable_name : Tree → Node → Option (List ℕ)
variable_name t n = option_map (λ c. first_of (words_of t c)) (child_of t n k.VariableId)

-- the simple name of the type that stands in a node
abbrev pub type_name : Tree → Node → Option (List ℕ)
type_name t n = option_map (λ c. last_of [] (words_of t c)) (child_of t n k.ClassType)

-- JLS 9.7.1 and 9.7.3: an argument without a name is that of the element `value`
abbrev pub pair_name : Tree → Node → List ℕ
pair_name t n = if has (codes "=") (words_of t n) then first_of (words_of t n) else codes "value"

-- JLS 14.15 and 14.16: the keyword, the label if there is one, and a semicolon
abbrev pub second_of_three : List (List ℕ) → Option (List ℕ)
second_of_three [] = None
second_of_three (word ∷ []) = None
second_of_three (word ∷ label ∷ []) = None
second_of_three (word ∷ label ∷ sign ∷ words) = Some label

-- ---- operators (JLS 3.12)

-- the words of an expression but the parentheses around its operands
abbrev pub is_sign : List ℕ → Bool
is_sign word = not (same word (codes "(") || same word (codes ")"))

abbrev pub signs_of : Tree → Node → List (List ℕ)
signs_of t n = filter is_sign (words_of t n)

-- Each `>` is a token of its own, so an operator that begins with one is several tokens with no space between: by how many
-- they are, and whether the last is `=`. The text is that of the tokens, joined.
abbrev pub shift_of : ℕ → Bool → Option (List ℕ)
shift_of count assigns =
    if count == 2 then Some (if assigns then codes ">=" else codes ">>")
    else if count == 3 then Some (if assigns then codes ">>=" else codes ">>>")
    else if count == 4 then Some (codes ">>>=")
    else None

-- an operator of one token is its text
abbrev pub operator_by : List (List ℕ) → Option (List ℕ)
operator_by signs = if length signs == 1 then Some (last_of [] signs) else shift_of (length signs) (same (last_of [] signs) (codes "="))

abbrev pub operator_of : Tree → Node → Option (List ℕ)
operator_of t n = operator_by (signs_of t n)

-- ---- accesses

-- JLS 15.26: the left side of an assignment is the first child
abbrev pub is_left_side : Tree → Node → Node → Bool
is_left_side t above n = is_kind t k.AssignmentExpression above && option_map_or (λ c. c.0 == n.0) (first_child t above) false

-- JLS 15.14.2, 15.14.3, 15.15.1, 15.15.2: the operand of `++` or `--`
abbrev pub is_stepped : Tree → Node → Bool
is_stepped t above = is_kind t k.UnaryExpression above && (has (codes "++") (words_of t above) || has (codes "--") (words_of t above))

-- WRITE as left side of an assignment or operand of `++` or `--`, else READ
abbrev pub is_written : Tree → Node → Bool
is_written t n = option_map_or (λ above. is_left_side t above n || is_stepped t above) (parent_of t n) false

abbrev pub access_type : Tree → Node → List ℕ
access_type t n = if is_written t n then codes "WRITE" else codes "READ"

-- ---- visibility (JLS 6.6.1)

-- by the effective modifiers
abbrev pub member_visibility : Tree → Node → List ℕ
member_visibility t n =
    if is_effective t n m.Public then codes "public"
    else if is_effective t n m.Protected then codes "protected"
    else if is_effective t n m.Private then codes "private"
    else codes "package"

-- a local class is `local`, an anonymous one `anonymous`
abbrev pub class_visibility_in : Nesting → Tree → Node → List ℕ
class_visibility_in nesting.Local t n = codes "local"
class_visibility_in nesting.Anonymous t n = codes "anonymous"
class_visibility_in other t n = member_visibility t n

abbrev pub class_visibility : Tree → Node → List ℕ
class_visibility t n = class_visibility_in (nesting_of t n) t n

-- fields and enum constants have that of their modifiers, record components are `private`, all other variables `local`
abbrev pub variable_visibility_of : VariableKind → Tree → Node → List ℕ
variable_visibility_of v.Field t n = member_visibility t n
variable_visibility_of v.EnumConstant t n = member_visibility t n
variable_visibility_of v.RecordComponent t n = codes "private"
variable_visibility_of other t n = codes "local"

abbrev pub variable_visibility : Tree → Node → List ℕ
variable_visibility t n = variable_visibility_of (variable_kind t n) t n

-- ---- all of them

abbrev pub binary_name_of : Tree → Node → Option (List ℕ)
binary_name_of t n = if declares_class t n then Some (binary_name t n) else None

abbrev pub text_value : TextProperty → Tree → Node → Option (List ℕ)
text_value p.PackageName t n = Some (package_name t)
text_value p.BinaryName t n = binary_name_of t n
text_value p.Kept t n = pool_text t n
text_value p.ImportedSimpleName t n = imported_simple_name t n
text_value p.ImportedPackage t n = imported_package t n
text_value p.FirstWord t n = Some (first_of (words_of t n))
text_value p.LastWord t n = Some (last_of [] (words_of t n))
text_value p.Spelling t n = text_of t n
text_value p.VariableName t n = variable_name t n
text_value p.TypeName t n = type_name t n
text_value p.PairName t n = Some (pair_name t n)
text_value p.JumpLabel t n = second_of_three (words_of t n)
text_value p.Operator t n = operator_of t n
text_value p.AccessType t n = Some (access_type t n)
text_value p.ClassVisibility t n = Some (class_visibility t n)
text_value p.MemberVisibility t n = Some (member_visibility t n)
text_value p.VariableVisibility t n = Some (variable_visibility t n)
