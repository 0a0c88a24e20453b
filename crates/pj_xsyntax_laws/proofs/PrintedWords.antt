-- Each word of a printed expression spells a token of its kind.
use Rattle.std.proofs.Common.{◌≡◌, ℕ, ℤ, pos, negsuc, List, [], ◌∷◌, ◌++◌, Bool, true, false, cond, Option, Some, None, map, length, refl, arith}
use Rattle.std.specs.Prelude.{nat_lt, nat_eq}
use Rattle.std.specs.Str.{chars}
use Rattle.pj_xtokens.specs.Rules.{Spells}
use Rattle.pj_xtokens.specs.Scanning.{kind_of}
use Rattle.pj_xtokens.specs.States.{first_step, sign_step}
use Rattle.pj_xtokens.specs.declared.token.TokenKind.{TokenKind}
use Rattle.pj_xtokens.specs.declared.token.TokenKind.TheVariants as kind
use Rattle.pj_xtokens.specs.declared.token.Sign.TheVariants as s
use Rattle.pj_xsyntax_laws.specs.Spaced.{Word, AreSpelled}
use Rattle.pj_xsyntax_laws.proofs.Appending.{AreSpelled-append}
use Rattle.pj_xsyntax_laws.proofs.WordKinds.{ToldAreSpelled}
use Rattle.pj_xsyntax_laws.proofs.SignsAndLiterals.{decimal_spells, literal_spells}
use Rattle.pj_xexpressions.specs.declared.axis.Axis.{Axis}
use Rattle.pj_xexpressions.specs.declared.axis.Axis.TheVariants as axis
use Rattle.pj_xexpressions.specs.declared.function.Function.{Function}
use Rattle.pj_xexpressions.specs.declared.function.Function.TheVariants as f
use Rattle.pj_xexpressions.specs.declared.pmd_function.PmdFunction.{PmdFunction}
use Rattle.pj_xexpressions.specs.declared.pmd_function.PmdFunction.TheVariants as pmd
use Rattle.pj_xexpressions.specs.declared.operator.Compare.{Compare}
use Rattle.pj_xexpressions.specs.declared.operator.Compare.TheVariants as compare
use Rattle.pj_xexpressions.specs.declared.operator.Additive.{Additive}
use Rattle.pj_xexpressions.specs.declared.operator.Additive.TheVariants as sum
use Rattle.pj_xexpressions.specs.declared.operator.Multiplicative.{Multiplicative}
use Rattle.pj_xexpressions.specs.declared.operator.Multiplicative.TheVariants as product
use Rattle.pj_xexpressions.specs.declared.expr.NodeTest.{NodeTest}
use Rattle.pj_xexpressions.specs.declared.expr.NodeTest.TheVariants as test
use Rattle.pj_xexpressions.specs.declared.operator.Quantifier.{Quantifier}
use Rattle.pj_xexpressions.specs.declared.operator.Quantifier.TheVariants as quantifier
use Rattle.pj_xexpressions.specs.declared.operator.SetOperator.{SetOperator}
use Rattle.pj_xexpressions.specs.declared.operator.SetOperator.TheVariants as set
use Rattle.pj_xexpressions.specs.declared.operator.Sign.{Sign}
use Rattle.pj_xexpressions.specs.declared.operator.Sign.TheVariants as signed
use Rattle.pj_xexpressions.specs.Trees as tree
use Rattle.pj_xexpressions.specs.Trees.{Tree, Trees, Construct, Node, NoMore, More}
use Rattle.pj_xreadings.specs.Spelled as shape
use Rattle.pj_xreadings.specs.Spelled.{IsSpelled, IsConstructSpelled, IsTestSpelled, IsInteger, AreNames}
use Rattle.pj_xsyntax_laws.specs.Printed.{Printed, printed_of, printed_each, words_by, words_of, operand, enclosed, chain, joined, clauses, choice, predicates, filter, from_step, further_steps, steps, step_words, keyword, sign, named, comma, left, right, slash, slashes, dollar, axis_name, function_name, pmd_function_name, test_words, compare_word, sum_word, product_word, set_word, signed_word, quantifier_word, integer_text}

abbrev IsWordSpelled : Word → Type 0
IsWordSpelled w = Spells w.kind w.text

-- where what the scanner's states take is a token
module _ (law : ToldAreSpelled) where
  kind_spells : (w : List ℕ) (k : TokenKind) → kind_of w ≡ Some k → Spells k w
  kind_spells w k e = law k w e

  -- ---- single words

  comma_spelled : IsWordSpelled (comma)
  unfolding first_step sign_step
  comma_spelled = kind_spells (comma).text (comma).kind refl

  left_spelled : IsWordSpelled (left)
  unfolding first_step sign_step
  left_spelled = kind_spells (left).text (left).kind refl

  right_spelled : IsWordSpelled (right)
  unfolding first_step sign_step
  right_spelled = kind_spells (right).text (right).kind refl

  slash_spelled : IsWordSpelled (slash)
  unfolding first_step sign_step
  slash_spelled = kind_spells (slash).text (slash).kind refl

  slashes_spelled : IsWordSpelled (slashes)
  unfolding first_step sign_step
  slashes_spelled = kind_spells (slashes).text (slashes).kind refl

  dots_spelled : IsWordSpelled (sign ".." s.DotDot)
  unfolding first_step sign_step
  dots_spelled = kind_spells (sign ".." s.DotDot).text (sign ".." s.DotDot).kind refl

  dollar_spelled : IsWordSpelled (dollar)
  unfolding first_step sign_step
  dollar_spelled = kind_spells (dollar).text (dollar).kind refl

  colons_spelled : IsWordSpelled (sign "::" s.ColonColon)
  unfolding first_step sign_step
  colons_spelled = kind_spells (sign "::" s.ColonColon).text (sign "::" s.ColonColon).kind refl

  assign_spelled : IsWordSpelled (sign ":=" s.ColonEqual)
  unfolding first_step sign_step
  assign_spelled = kind_spells (sign ":=" s.ColonEqual).text (sign ":=" s.ColonEqual).kind refl

  opening_spelled : IsWordSpelled (sign "[" s.LeftBracket)
  unfolding first_step sign_step
  opening_spelled = kind_spells (sign "[" s.LeftBracket).text (sign "[" s.LeftBracket).kind refl

  closing_spelled : IsWordSpelled (sign "]" s.RightBracket)
  unfolding first_step sign_step
  closing_spelled = kind_spells (sign "]" s.RightBracket).text (sign "]" s.RightBracket).kind refl

  star_spelled : IsWordSpelled (sign "*" s.Star)
  unfolding first_step sign_step
  star_spelled = kind_spells (sign "*" s.Star).text (sign "*" s.Star).kind refl

  dot_spelled : IsWordSpelled (sign "." s.Dot)
  unfolding first_step sign_step
  dot_spelled = kind_spells (sign "." s.Dot).text (sign "." s.Dot).kind refl

  bars_spelled : IsWordSpelled (sign "||" s.BarBar)
  unfolding first_step sign_step
  bars_spelled = kind_spells (sign "||" s.BarBar).text (sign "||" s.BarBar).kind refl

  bar_spelled : IsWordSpelled (sign "|" s.Bar)
  unfolding first_step sign_step
  bar_spelled = kind_spells (sign "|" s.Bar).text (sign "|" s.Bar).kind refl

  bang_spelled : IsWordSpelled (sign "!" s.Bang)
  unfolding first_step sign_step
  bang_spelled = kind_spells (sign "!" s.Bang).text (sign "!" s.Bang).kind refl

  node_spelled : IsWordSpelled (keyword "node")
  unfolding first_step sign_step
  node_spelled = kind_spells (keyword "node").text (keyword "node").kind refl

  element_spelled : IsWordSpelled (keyword "element")
  unfolding first_step sign_step
  element_spelled = kind_spells (keyword "element").text (keyword "element").kind refl

  for_spelled : IsWordSpelled (keyword "for")
  unfolding first_step sign_step
  for_spelled = kind_spells (keyword "for").text (keyword "for").kind refl

  in_spelled : IsWordSpelled (keyword "in")
  unfolding first_step sign_step
  in_spelled = kind_spells (keyword "in").text (keyword "in").kind refl

  return_spelled : IsWordSpelled (keyword "return")
  unfolding first_step sign_step
  return_spelled = kind_spells (keyword "return").text (keyword "return").kind refl

  let_spelled : IsWordSpelled (keyword "let")
  unfolding first_step sign_step
  let_spelled = kind_spells (keyword "let").text (keyword "let").kind refl

  satisfies_spelled : IsWordSpelled (keyword "satisfies")
  unfolding first_step sign_step
  satisfies_spelled = kind_spells (keyword "satisfies").text (keyword "satisfies").kind refl

  if_spelled : IsWordSpelled (keyword "if")
  unfolding first_step sign_step
  if_spelled = kind_spells (keyword "if").text (keyword "if").kind refl

  then_spelled : IsWordSpelled (keyword "then")
  unfolding first_step sign_step
  then_spelled = kind_spells (keyword "then").text (keyword "then").kind refl

  else_spelled : IsWordSpelled (keyword "else")
  unfolding first_step sign_step
  else_spelled = kind_spells (keyword "else").text (keyword "else").kind refl

  or_spelled : IsWordSpelled (keyword "or")
  unfolding first_step sign_step
  or_spelled = kind_spells (keyword "or").text (keyword "or").kind refl

  and_spelled : IsWordSpelled (keyword "and")
  unfolding first_step sign_step
  and_spelled = kind_spells (keyword "and").text (keyword "and").kind refl

  to_spelled : IsWordSpelled (keyword "to")
  unfolding first_step sign_step
  to_spelled = kind_spells (keyword "to").text (keyword "to").kind refl

  attribute_spelled : IsWordSpelled (keyword "attribute")
  unfolding first_step sign_step
  attribute_spelled = kind_spells (keyword "attribute").text (keyword "attribute").kind refl

  compare_spelled : (x : Compare) → IsWordSpelled (compare_word x)
  unfolding first_step sign_step
  compare_spelled compare.Equal = kind_spells (compare_word compare.Equal).text (compare_word compare.Equal).kind refl
  compare_spelled compare.NotEqual = kind_spells (compare_word compare.NotEqual).text (compare_word compare.NotEqual).kind refl
  compare_spelled compare.Less = kind_spells (compare_word compare.Less).text (compare_word compare.Less).kind refl
  compare_spelled compare.LessOrEqual = kind_spells (compare_word compare.LessOrEqual).text (compare_word compare.LessOrEqual).kind refl
  compare_spelled compare.Greater = kind_spells (compare_word compare.Greater).text (compare_word compare.Greater).kind refl
  compare_spelled compare.GreaterOrEqual = kind_spells (compare_word compare.GreaterOrEqual).text (compare_word compare.GreaterOrEqual).kind refl

  sum_spelled : (x : Additive) → IsWordSpelled (sum_word x)
  unfolding first_step sign_step
  sum_spelled sum.Plus = kind_spells (sum_word sum.Plus).text (sum_word sum.Plus).kind refl
  sum_spelled sum.Minus = kind_spells (sum_word sum.Minus).text (sum_word sum.Minus).kind refl

  product_spelled : (x : Multiplicative) → IsWordSpelled (product_word x)
  unfolding first_step sign_step
  product_spelled product.Times = kind_spells (product_word product.Times).text (product_word product.Times).kind refl
  product_spelled product.IntegerDivide = kind_spells (product_word product.IntegerDivide).text (product_word product.IntegerDivide).kind refl
  product_spelled product.Modulo = kind_spells (product_word product.Modulo).text (product_word product.Modulo).kind refl

  set_spelled : (x : SetOperator) → IsWordSpelled (set_word x)
  unfolding first_step sign_step
  set_spelled set.Intersect = kind_spells (set_word set.Intersect).text (set_word set.Intersect).kind refl
  set_spelled set.Except = kind_spells (set_word set.Except).text (set_word set.Except).kind refl

  signed_spelled : (x : Sign) → IsWordSpelled (signed_word x)
  unfolding first_step sign_step
  signed_spelled signed.Minus = kind_spells (signed_word signed.Minus).text (signed_word signed.Minus).kind refl
  signed_spelled signed.Plus = kind_spells (signed_word signed.Plus).text (signed_word signed.Plus).kind refl

  quantifier_spelled : (x : Quantifier) → IsWordSpelled (quantifier_word x)
  unfolding first_step sign_step
  quantifier_spelled quantifier.Some = kind_spells (quantifier_word quantifier.Some).text (quantifier_word quantifier.Some).kind refl
  quantifier_spelled quantifier.Every = kind_spells (quantifier_word quantifier.Every).text (quantifier_word quantifier.Every).kind refl

  axis_spelled : (x : Axis) → IsWordSpelled (named (axis_name x))
  unfolding first_step sign_step
  axis_spelled axis.Child = kind_spells (axis_name axis.Child) kind.Name refl
  axis_spelled axis.Descendant = kind_spells (axis_name axis.Descendant) kind.Name refl
  axis_spelled axis.SelfNode = kind_spells (axis_name axis.SelfNode) kind.Name refl
  axis_spelled axis.DescendantOrSelf = kind_spells (axis_name axis.DescendantOrSelf) kind.Name refl
  axis_spelled axis.FollowingSibling = kind_spells (axis_name axis.FollowingSibling) kind.Name refl
  axis_spelled axis.Following = kind_spells (axis_name axis.Following) kind.Name refl
  axis_spelled axis.Parent = kind_spells (axis_name axis.Parent) kind.Name refl
  axis_spelled axis.Ancestor = kind_spells (axis_name axis.Ancestor) kind.Name refl
  axis_spelled axis.PrecedingSibling = kind_spells (axis_name axis.PrecedingSibling) kind.Name refl
  axis_spelled axis.Preceding = kind_spells (axis_name axis.Preceding) kind.Name refl
  axis_spelled axis.AncestorOrSelf = kind_spells (axis_name axis.AncestorOrSelf) kind.Name refl

  function_spelled : (x : Function) → IsWordSpelled (named (function_name x))
  unfolding first_step sign_step
  function_spelled f.Position = kind_spells (function_name f.Position) kind.Name refl
  function_spelled f.Last = kind_spells (function_name f.Last) kind.Name refl
  function_spelled f.Count = kind_spells (function_name f.Count) kind.Name refl
  function_spelled f.Exists = kind_spells (function_name f.Exists) kind.Name refl
  function_spelled f.Empty = kind_spells (function_name f.Empty) kind.Name refl
  function_spelled f.Not = kind_spells (function_name f.Not) kind.Name refl
  function_spelled f.True = kind_spells (function_name f.True) kind.Name refl
  function_spelled f.False = kind_spells (function_name f.False) kind.Name refl
  function_spelled f.Boolean = kind_spells (function_name f.Boolean) kind.Name refl
  function_spelled f.String = kind_spells (function_name f.String) kind.Name refl
  function_spelled f.Data = kind_spells (function_name f.Data) kind.Name refl
  function_spelled f.Concat = kind_spells (function_name f.Concat) kind.Name refl
  function_spelled f.StringJoin = kind_spells (function_name f.StringJoin) kind.Name refl
  function_spelled f.Contains = kind_spells (function_name f.Contains) kind.Name refl
  function_spelled f.StartsWith = kind_spells (function_name f.StartsWith) kind.Name refl
  function_spelled f.EndsWith = kind_spells (function_name f.EndsWith) kind.Name refl
  function_spelled f.Substring = kind_spells (function_name f.Substring) kind.Name refl
  function_spelled f.SubstringBefore = kind_spells (function_name f.SubstringBefore) kind.Name refl
  function_spelled f.SubstringAfter = kind_spells (function_name f.SubstringAfter) kind.Name refl
  function_spelled f.StringLength = kind_spells (function_name f.StringLength) kind.Name refl
  function_spelled f.NormalizeSpace = kind_spells (function_name f.NormalizeSpace) kind.Name refl
  function_spelled f.UpperCase = kind_spells (function_name f.UpperCase) kind.Name refl
  function_spelled f.LowerCase = kind_spells (function_name f.LowerCase) kind.Name refl
  function_spelled f.Translate = kind_spells (function_name f.Translate) kind.Name refl
  function_spelled f.Matches = kind_spells (function_name f.Matches) kind.Name refl
  function_spelled f.Replace = kind_spells (function_name f.Replace) kind.Name refl
  function_spelled f.Tokenize = kind_spells (function_name f.Tokenize) kind.Name refl
  function_spelled f.Name = kind_spells (function_name f.Name) kind.Name refl
  function_spelled f.LocalName = kind_spells (function_name f.LocalName) kind.Name refl
  function_spelled f.DistinctValues = kind_spells (function_name f.DistinctValues) kind.Name refl
  function_spelled f.Sum = kind_spells (function_name f.Sum) kind.Name refl
  function_spelled f.Min = kind_spells (function_name f.Min) kind.Name refl
  function_spelled f.Max = kind_spells (function_name f.Max) kind.Name refl
  function_spelled f.Abs = kind_spells (function_name f.Abs) kind.Name refl
  function_spelled f.Reverse = kind_spells (function_name f.Reverse) kind.Name refl
  function_spelled f.IndexOf = kind_spells (function_name f.IndexOf) kind.Name refl
  function_spelled f.Subsequence = kind_spells (function_name f.Subsequence) kind.Name refl
  function_spelled f.Root = kind_spells (function_name f.Root) kind.Name refl

  pmd_spelled : (x : PmdFunction) → IsWordSpelled (named (pmd_function_name x))
  unfolding first_step sign_step
  pmd_spelled pmd.FileName = kind_spells (pmd_function_name pmd.FileName) kind.Name refl
  pmd_spelled pmd.StartLine = kind_spells (pmd_function_name pmd.StartLine) kind.Name refl
  pmd_spelled pmd.StartColumn = kind_spells (pmd_function_name pmd.StartColumn) kind.Name refl
  pmd_spelled pmd.EndLine = kind_spells (pmd_function_name pmd.EndLine) kind.Name refl
  pmd_spelled pmd.EndColumn = kind_spells (pmd_function_name pmd.EndColumn) kind.Name refl
  pmd_spelled pmd.TypeIs = kind_spells (pmd_function_name pmd.TypeIs) kind.Name refl
  pmd_spelled pmd.TypeIsExactly = kind_spells (pmd_function_name pmd.TypeIsExactly) kind.Name refl
  pmd_spelled pmd.HasAnnotation = kind_spells (pmd_function_name pmd.HasAnnotation) kind.Name refl
  pmd_spelled pmd.MatchesSig = kind_spells (pmd_function_name pmd.MatchesSig) kind.Name refl
  pmd_spelled pmd.NodeIs = kind_spells (pmd_function_name pmd.NodeIs) kind.Name refl
  pmd_spelled pmd.Modifiers = kind_spells (pmd_function_name pmd.Modifiers) kind.Name refl
  pmd_spelled pmd.ExplicitModifiers = kind_spells (pmd_function_name pmd.ExplicitModifiers) kind.Name refl

  too_large_spelled : Spells kind.Integer (integer_text None)
  unfolding first_step
  too_large_spelled = kind_spells (integer_text None) kind.Integer refl

  integer_spelled : (value : Option ℤ) → IsInteger value → Spells kind.Integer (integer_text value)
  integer_spelled (Some (pos n)) h = decimal_spells law n (omega (arith, h))
  integer_spelled (Some (negsuc n)) h = absurd h
  integer_spelled None h = too_large_spelled

  test_spelled : (t : NodeTest) → IsTestSpelled t → AreSpelled (test_words t)
  test_spelled (test.Name bytes) h = (h.1, tt)
  test_spelled test.AnyName h = (star_spelled, tt)
  test_spelled test.AnyNode h = (node_spelled, (left_spelled, (right_spelled, tt)))
  test_spelled test.AnyElement h = (element_spelled, (left_spelled, (right_spelled, tt)))

  -- ---- words of parts

  -- each word of it is spelled
  abbrev IsPartSpelled : Printed → Type 0
  IsPartSpelled part = (flag : Bool) → AreSpelled (part.words flag)

  abbrev ArePartsSpelled : List Printed → Type 0
  ArePartsSpelled [] = Unit {0}
  ArePartsSpelled (part ∷ parts) = IsPartSpelled part × ArePartsSpelled parts

  enclosed_spelled : (ws : List Word) → AreSpelled ws → AreSpelled (enclosed ws)
  enclosed_spelled ws h = (left_spelled, AreSpelled-append ws (right ∷ []) h (right_spelled, tt))

  operand_case : (part : Printed) → IsPartSpelled part → (flag low : Bool) → AreSpelled (cond low (enclosed (part.words false)) (part.words flag))
  operand_case part h flag true = enclosed_spelled (part.words false) (h false)
  operand_case part h flag false = h flag

  operand_spelled : (flag : Bool) (least : ℕ) (part : Printed) → IsPartSpelled part → AreSpelled (operand flag least part)
  operand_spelled flag least part h = operand_case part h flag (nat_lt part.level least)

  chain_spelled : (flag mark : Bool) (least : ℕ) (ops : List Word) (parts : List Printed) → AreSpelled ops → ArePartsSpelled parts → AreSpelled (chain flag mark least ops parts)
  chain_spelled flag mark least ops [] g h = tt
  chain_spelled flag mark least ops (part ∷ []) g h = operand_spelled flag least part h.0
  chain_spelled flag mark least [] (part ∷ next ∷ more) g h = tt
  chain_spelled flag mark least (op ∷ ops) (part ∷ next ∷ more) g h =
      AreSpelled-append (operand mark least part) (op ∷ chain flag mark least ops (next ∷ more)) (operand_spelled mark least part h.0) (g.0, chain_spelled flag mark least ops (next ∷ more) g.1 h.1)

  same_spelled : (op : Word) (parts : List Printed) → IsWordSpelled op → AreSpelled (map (λ part. op) parts)
  same_spelled op [] h = tt
  same_spelled op (part ∷ parts) h = (h, same_spelled op parts h)

  joined_spelled : (flag mark : Bool) (least : ℕ) (op : Word) (parts : List Printed) → IsWordSpelled op → ArePartsSpelled parts → AreSpelled (joined flag mark least op parts)
  joined_spelled flag mark least op [] g h = tt
  joined_spelled flag mark least op (part ∷ parts) g h = chain_spelled flag mark least (map (λ part. op) parts) (part ∷ parts) (same_spelled op parts g) h

  clauses_spelled : (flag : Bool) (mark last : Word) (names : List (List ℕ)) (parts : List Printed) → IsWordSpelled mark → IsWordSpelled last → AreNames names → ArePartsSpelled parts → AreSpelled (clauses flag mark last names parts)
  clauses_spelled flag mark last [] [] m l g h = tt
  clauses_spelled flag mark last [] (body ∷ []) m l g h = (l, operand_spelled flag 1 body h.0)
  clauses_spelled flag mark last [] (body ∷ next ∷ more) m l g h = tt
  clauses_spelled flag mark last (bytes ∷ []) [] m l g h = tt
  clauses_spelled flag mark last (bytes ∷ []) (value ∷ []) m l g h = tt
  clauses_spelled flag mark last (bytes ∷ []) (value ∷ body ∷ []) m l g h =
      (dollar_spelled, (g.0.1, (m, AreSpelled-append (operand true 1 value) (last ∷ operand flag 1 body) (operand_spelled true 1 value h.0) (l, operand_spelled flag 1 body h.1.0))))
  clauses_spelled flag mark last (bytes ∷ []) (value ∷ body ∷ next ∷ more) m l g h = tt
  clauses_spelled flag mark last (bytes ∷ next ∷ names) [] m l g h = tt
  clauses_spelled flag mark last (bytes ∷ next ∷ names) (value ∷ parts) m l g h =
      (dollar_spelled, (g.0.1, (m, AreSpelled-append (operand false 1 value) (comma ∷ clauses flag mark last (next ∷ names) parts) (operand_spelled false 1 value h.0) (comma_spelled, clauses_spelled flag mark last (next ∷ names) parts m l g.1 h.1))))

  choice_spelled : (flag : Bool) (parts : List Printed) → ArePartsSpelled parts → AreSpelled (choice flag parts)
  choice_spelled flag [] h = tt
  choice_spelled flag (a ∷ []) h = tt
  choice_spelled flag (a ∷ c ∷ []) h = tt
  choice_spelled flag (test ∷ chosen ∷ other ∷ []) h =
      let no : AreSpelled (keyword "else" ∷ operand flag 1 other) = (else_spelled, operand_spelled flag 1 other h.1.1.0) in
      let yes : AreSpelled (keyword "then" ∷ (operand true 1 chosen ++ keyword "else" ∷ operand flag 1 other)) = (then_spelled, AreSpelled-append (operand true 1 chosen) (keyword "else" ∷ operand flag 1 other) (operand_spelled true 1 chosen h.1.0) no) in
      (if_spelled, AreSpelled-append (enclosed (test.words false)) (keyword "then" ∷ (operand true 1 chosen ++ keyword "else" ∷ operand flag 1 other)) (enclosed_spelled (test.words false) (h.0 false)) yes)
  choice_spelled flag (a ∷ c ∷ d ∷ e ∷ more) h = tt

  predicates_spelled : (parts : List Printed) → ArePartsSpelled parts → AreSpelled (predicates parts)
  predicates_spelled [] h = tt
  predicates_spelled (part ∷ parts) h = (opening_spelled, AreSpelled-append (part.words false) (sign "]" s.RightBracket ∷ predicates parts) (h.0 false) (closing_spelled, predicates_spelled parts h.1))

  filter_spelled : (parts : List Printed) → ArePartsSpelled parts → AreSpelled (filter parts)
  filter_spelled [] h = tt
  filter_spelled (part ∷ parts) h = AreSpelled-append (operand false 16 part) (predicates parts) (operand_spelled false 16 part h.0) (predicates_spelled parts h.1)

  either_spelled : (b : Bool) (us ws : List Word) → AreSpelled us → AreSpelled ws → AreSpelled (cond b us ws)
  either_spelled true us ws h g = h
  either_spelled false us ws h g = g

  mutual
    from_spelled : (flag : Bool) (step : Printed) (parts : List Printed) → IsPartSpelled step → ArePartsSpelled parts → AreSpelled (from_step flag step parts)
    from_spelled flag step [] h hs = operand_spelled flag 15 step h
    from_spelled flag step (next ∷ more) h hs =
        AreSpelled-append (operand false 15 step) (further_steps flag next more) (operand_spelled false 15 step h) (further_spelled flag next more hs.0 hs.1)

    further_spelled : (flag : Bool) (step : Printed) (parts : List Printed) → IsPartSpelled step → ArePartsSpelled parts → AreSpelled (further_steps flag step parts)
    further_spelled flag step [] h hs = (slash_spelled, operand_spelled flag 15 step h)
    further_spelled flag step (next ∷ more) h hs =
        either_spelled step.is_descendants (slashes ∷ from_step flag next more) (slash ∷ (operand false 15 step ++ further_steps flag next more))
        (slashes_spelled, from_spelled flag next more hs.0 hs.1)
        (slash_spelled, AreSpelled-append (operand false 15 step) (further_steps flag next more) (operand_spelled false 15 step h) (further_spelled flag next more hs.0 hs.1))

  steps_spelled : (flag : Bool) (parts : List Printed) → ArePartsSpelled parts → AreSpelled (steps flag parts)
  steps_spelled flag [] h = tt
  steps_spelled flag (only ∷ []) h = operand_spelled false 14 only h.0
  steps_spelled flag (first ∷ next ∷ more) h =
      let further = further_spelled flag next more h.1.0 h.1.1 in
      either_spelled (nat_eq first.level 14) (further_steps flag next more) (operand false 14 first ++ further_steps flag next more) further
      (AreSpelled-append (operand false 14 first) (further_steps flag next more) (operand_spelled false 14 first h.0) further)

  ops_spelled : {Op : Type 0} (word : Op → Word) → ((o : Op) → IsWordSpelled (word o)) → (os : List Op) → AreSpelled (map word os)
  ops_spelled word h [] = tt
  ops_spelled word h (o ∷ os) = (h o, ops_spelled word h os)

  -- ---- constructs

  comma_case : (flag empty : Bool) (parts : List Printed) → ArePartsSpelled parts → AreSpelled (cond empty (enclosed []) (joined flag false 1 comma parts))
  comma_case flag true parts h = enclosed_spelled [] tt
  comma_case flag false parts h = joined_spelled flag false 1 comma parts comma_spelled h

  root_case : (flag : Bool) → AreSpelled (cond flag (enclosed (slash ∷ [])) (slash ∷ []))
  root_case true = enclosed_spelled (slash ∷ []) (slash_spelled, tt)
  root_case false = (slash_spelled, tt)

  along_spelled : (a : Axis) (t : NodeTest) → IsTestSpelled t → AreSpelled (named (axis_name a) ∷ sign "::" s.ColonColon ∷ test_words t)
  along_spelled a t g = (axis_spelled a, (colons_spelled, test_spelled t g))

  step_words_spelled : (a : Axis) (t : NodeTest) → IsTestSpelled t → AreSpelled (step_words a t)
  step_words_spelled axis.Parent test.AnyNode g = (dots_spelled, tt)
  step_words_spelled axis.Parent (test.Name bytes) g = along_spelled axis.Parent (test.Name bytes) g
  step_words_spelled axis.Parent test.AnyName g = along_spelled axis.Parent test.AnyName g
  step_words_spelled axis.Parent test.AnyElement g = along_spelled axis.Parent test.AnyElement g
  step_words_spelled axis.Child t g = along_spelled axis.Child t g
  step_words_spelled axis.Descendant t g = along_spelled axis.Descendant t g
  step_words_spelled axis.SelfNode t g = along_spelled axis.SelfNode t g
  step_words_spelled axis.DescendantOrSelf t g = along_spelled axis.DescendantOrSelf t g
  step_words_spelled axis.FollowingSibling t g = along_spelled axis.FollowingSibling t g
  step_words_spelled axis.Following t g = along_spelled axis.Following t g
  step_words_spelled axis.Ancestor t g = along_spelled axis.Ancestor t g
  step_words_spelled axis.PrecedingSibling t g = along_spelled axis.PrecedingSibling t g
  step_words_spelled axis.Preceding t g = along_spelled axis.Preceding t g
  step_words_spelled axis.AncestorOrSelf t g = along_spelled axis.AncestorOrSelf t g

  step_spelled : (t : NodeTest) (parts : List Printed) → IsTestSpelled t → ArePartsSpelled parts → AreSpelled (sign "::" s.ColonColon ∷ (test_words t ++ predicates parts))
  step_spelled t parts g h = (colons_spelled, AreSpelled-append (test_words t) (predicates parts) (test_spelled t g) (predicates_spelled parts h))

  construct_spelled : (c : Construct) (parts : List Printed) → IsConstructSpelled c → ArePartsSpelled parts → (flag : Bool) → AreSpelled (words_by c parts flag)
  construct_spelled tree.Comma parts g h flag = comma_case flag (nat_eq (length parts) 0) parts h
  construct_spelled (tree.For names) parts g h flag = (for_spelled, clauses_spelled flag (keyword "in") (keyword "return") names parts in_spelled return_spelled g h)
  construct_spelled (tree.Let names) parts g h flag = (let_spelled, clauses_spelled flag (sign ":=" s.ColonEqual) (keyword "return") names parts assign_spelled return_spelled g h)
  construct_spelled (tree.Quantified q names) parts g h flag = (quantifier_spelled q, clauses_spelled flag (keyword "in") (keyword "satisfies") names parts in_spelled satisfies_spelled g h)
  construct_spelled tree.If parts g h flag = choice_spelled flag parts h
  construct_spelled tree.Or parts g h flag = joined_spelled flag true 3 (keyword "or") parts or_spelled h
  construct_spelled tree.And parts g h flag = joined_spelled flag true 4 (keyword "and") parts and_spelled h
  construct_spelled (tree.Comparison op) parts g h flag = joined_spelled flag false 5 (compare_word op) parts (compare_spelled op) h
  construct_spelled tree.Concatenation parts g h flag = joined_spelled flag false 6 (sign "||" s.BarBar) parts bars_spelled h
  construct_spelled tree.Range parts g h flag = joined_spelled flag true 7 (keyword "to") parts to_spelled h
  construct_spelled (tree.Additive' os) parts g h flag = chain_spelled flag false 8 (map sum_word os) parts (ops_spelled sum_word sum_spelled os) h
  construct_spelled (tree.Multiplicative' os) parts g h flag = chain_spelled flag true 9 (map product_word os) parts (ops_spelled product_word product_spelled os) h
  construct_spelled tree.Union parts g h flag = joined_spelled flag false 10 (sign "|" s.Bar) parts bar_spelled h
  construct_spelled (tree.IntersectExcept os) parts g h flag = chain_spelled flag true 11 (map set_word os) parts (ops_spelled set_word set_spelled os) h
  construct_spelled (tree.Unary sign) parts g h flag = (signed_spelled sign, chain_spelled flag false 11 [] parts tt h)
  construct_spelled tree.SimpleMap parts g h flag = joined_spelled flag false 13 (sign "!" s.Bang) parts bang_spelled h
  construct_spelled tree.Path parts g h flag = steps_spelled flag parts h
  construct_spelled tree.Root parts g h flag = root_case flag
  construct_spelled (tree.Step a t) parts g h flag = AreSpelled-append (step_words a t) (predicates parts) (step_words_spelled a t g) (predicates_spelled parts h)
  construct_spelled (tree.AttributeStep t) parts g h flag = (attribute_spelled, step_spelled t parts g h)
  construct_spelled tree.Filter parts g h flag = filter_spelled parts h
  construct_spelled (tree.Integer value) parts g h flag = (integer_spelled value g, tt)
  construct_spelled (tree.String text) parts g h flag = (literal_spells law (chars text), tt)
  construct_spelled (tree.Variable bytes) parts g h flag = (dollar_spelled, (g.1, tt))
  construct_spelled tree.ContextItem parts g h flag = (dot_spelled, tt)
  construct_spelled (tree.Call f) parts g h flag = (function_spelled f, enclosed_spelled (joined false false 1 comma parts) (joined_spelled false false 1 comma parts comma_spelled h))
  construct_spelled (tree.PmdCall f) parts g h flag = (pmd_spelled f, enclosed_spelled (joined false false 1 comma parts) (joined_spelled false false 1 comma parts comma_spelled h))

  mutual
    unfolding printed_of IsSpelled

    pub tree_spelled : (t : Tree) → IsSpelled t → (flag : Bool) → AreSpelled (words_of flag t)
    tree_spelled (Node c ts) h flag = construct_spelled c (printed_each ts) h.0 (trees_spelled ts h.1) flag

    trees_spelled : (ts : Trees) → shape.AreSpelled ts → ArePartsSpelled (printed_each ts)
    trees_spelled NoMore h = tt
    trees_spelled (More t ts) h = (tree_spelled t h.0, trees_spelled ts h.1)
