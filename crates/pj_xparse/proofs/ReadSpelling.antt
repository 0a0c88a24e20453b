-- The names in an expression that well spelled tokens read are names, and its strings are texts.
use Rattle.std.proofs.Common.{◌≡◌, ℕ, true, List, [], ◌∷◌, refl}
use Rattle.std.specs.Prelude.{⊤}
use Rattle.pj_ll.specs.declared.grammar.Symbol.{Symbol}
use Rattle.pj_ll.specs.declared.grammar.Symbol.TheVariants as symbol
use Rattle.pj_xexpressions.specs.declared.axis.Axis.TheVariants as axes
use Rattle.pj_xexpressions.specs.declared.expr.NodeTest.TheVariants.{AnyName, AnyNode, AnyElement}
use Rattle.pj_xexpressions.specs.Trees as tree
use Rattle.pj_xexpressions.specs.Trees.{alone}
use Rattle.pj_xexpressions.specs.declared.operator.Sign.TheVariants as sign
use Rattle.pj_xexpressions.specs.declared.operator.Quantifier.TheVariants as quantifier
use Rattle.pj_xtokens.specs.Tokens.{Lexed}
use Rattle.pj_xtokens.specs.First.{first_text}
use Rattle.pj_xtokens.specs.Literals.{integer_of, string_of}
use Rattle.pj_xgrammar.specs.declared.rule.Rule.{Rule}
use Rattle.pj_xgrammar.specs.declared.rule.Rule.TheVariants as r
use Rattle.pj_xgrammar.specs.XPath.{xpath}
use Rattle.pj_xreadings.specs.Spelled.{IsText, IsName, IsSpelled}
use Rattle.pj_xreadings.specs.Operands.{Operand, other, descendants, kind_test}
use Rattle.pj_xmeaning.specs.RuleMeanings.{Value}
use Rattle.pj_xmeaning.specs.Reach.{All}
use Rattle.pj_xmeaning.specs.Reads.{AreRead, Reads, by, Takes, token, IsAmong, here, further, expr, expr_more, expr_end, for_expr, let_expr, some_expr, every_expr, if_expr, single_or, in_binding, in_more, in_end, let_binding, let_more, let_end, in_clause, assign_clause, return_clause, satisfies_clause, test_clause, then_clause, else_clause, or_expr, or_more, or_end, and_expr, and_more, and_end, comparison_expr, equal, not_equal, less, less_or_equal, greater, greater_or_equal, not_compared, concatenation_expr, concatenation_more, concatenation_end, range_expr, up_to, up_to_cut, no_range, additive_expr, plus, minus, additive_end, multiplicative_expr, times, integer_divide, modulo, multiplicative_end, union_expr, union_more, bar_more, union_end, set_expr, intersect, except, set_end, negative, positive, no_sign, map_expr, map_more, map_end, operand, left_out_operator, no_left_out, root, from_root, from_descendants, relative, path_steps, next_step, next_descendants, steps_end, context_item, primary, parent, attribute, axis_name, any_name, node_name, element_name, plain_step, left_out_step, axis_test, axis_call, axis_predicates, name_call, name_predicates, name_test, axis_name_test, any_name_test, node_test, element_test, kind_parentheses, no_parentheses, predicate, no_predicate, integer_expr, string_expr, variable_expr, variable_cut, parenthesized, inside, empty, some_arguments, no_arguments, more_arguments, arguments_end, variable_name, axis_variable, node_variable, element_variable, plain_name}
use Rattle.pj_xparse.specs.WellSpelled.{AreWellSpelled}
use Rattle.pj_xparse.proofs.Read.{is_name, name_read}
use Rattle.pj_xparse.proofs.SpelledTokens.{name_of, string_text, integer_spelled}
use Rattle.pj_xparse.proofs.SpelledParts.{ValueSpelled, alone_spelled, chain_spelled, mixed_spelled, compared_spelled, ranging_spelled, signed_spelled, chosen_spelled, bound_spelled, descendants_spelled, rooted_spelled, path_spelled, step_spelled, attribute_spelled, filtered_spelled, kind_test_spelled, named_spelled}

-- ---- tokens

-- the tokens behind one that is taken
taken : {d : ℕ} {s : Symbol} {xs ys : List Lexed} → Takes All d s xs ys → AreWellSpelled xs → AreWellSpelled ys
taken (token e few) h = h.1
taken (Takes.cut c) h = absurd c

-- the text of a token that is a name
name_taken : {d n : ℕ} {xs ys : List Lexed} → Takes All d (symbol.Terminal n) xs ys → is_name n ≡ true → AreWellSpelled xs → IsName (first_text xs)
name_taken {n = n} (token {x} {xs} e few) is h = name_of x h.0 (name_read x xs n e is)
name_taken (Takes.cut c) is h = absurd c

-- the value of a string literal
string_taken : {d : ℕ} {s : Symbol} {xs ys : List Lexed} → Takes All d s xs ys → AreWellSpelled xs → IsText (string_of (first_text xs))
string_taken (token {x} e few) h = string_text x h.0
string_taken (Takes.cut c) h = absurd c

-- a production that is the terminal of a name alone
abbrev IsNamed : List Symbol → Type 0
IsNamed (symbol.Terminal n ∷ []) = is_name n ≡ true
IsNamed _ = ⊥

AreNamed : List (List Symbol) → Type 0
AreNamed [] = ⊤
AreNamed (ss ∷ sss) = IsNamed ss × AreNamed sss

plain_named : AreNamed (xpath r.PlainName)
unfolding AreNamed xpath
plain_named = (refl, (refl, (refl, (refl, (refl, (refl, (refl, (refl, (refl, (refl, (refl, (refl, (refl, (refl, (refl, (refl, (refl, (refl, (refl, (refl, (refl, (refl, tt))))))))))))))))))))))

is_named : (n : ℕ) (sss : List (List Symbol)) → AreNamed sss → IsAmong (symbol.Terminal n) sss → is_name n ≡ true
unfolding AreNamed
is_named n [] named among = elim among [ ]
is_named n (ss ∷ sss) named here = named.0
is_named n (ss ∷ sss) named (further among) = is_named n sss named.1 among

-- the text of a word where the grammar wants a name
plain_taken : {d : ℕ} {s : Symbol} {xs ys : List Lexed} → IsAmong s (xpath r.PlainName) → Takes All d s xs ys → AreWellSpelled xs → IsName (first_text xs)
plain_taken among (token {x} {xs} {number} e few) h = name_taken (token e few) (is_named number (xpath r.PlainName) plain_named among) h
plain_taken among (Takes.cut c) h = absurd c

-- ---- rules

-- What is read of a rule is spelled, and the tokens behind it are. In each clause `p`, `q` and `s` say it of the values of the parts, and `i`, `j` and
-- `l` of the tokens behind these.
read_said : {rule : Rule} {d : ℕ} {xs ys : List Lexed} {v : Value rule} → Reads All rule d xs ys v → AreWellSpelled xs → ValueSpelled rule v × AreWellSpelled ys
read_said (by b (expr {first = first} {more = more} a0 a1)) h = let (p, i) = read_said a0 h in let (q, j) = read_said a1 i in (chain_spelled tree.Comma tt first more p q, j)
read_said (by b (expr_more k0 a1 a2)) h = let (p, i) = read_said a1 (taken k0 h) in let (q, j) = read_said a2 i in ((p, q), j)
read_said (by b expr_end) h = (tt, h)
read_said (by b (for_expr {bindings = bindings} {body = body} k0 a1 a2)) h = let (p, i) = read_said a1 (taken k0 h) in let (q, j) = read_said a2 i in (bound_spelled tree.For (λ names is. is) bindings body p q, j)
read_said (by b (let_expr {bindings = bindings} {body = body} k0 a1 a2)) h = let (p, i) = read_said a1 (taken k0 h) in let (q, j) = read_said a2 i in (bound_spelled tree.Let (λ names is. is) bindings body p q, j)
read_said (by b (some_expr {bindings = bindings} {test = test} k0 a1 a2)) h = let (p, i) = read_said a1 (taken k0 h) in let (q, j) = read_said a2 i in (bound_spelled (tree.Quantified quantifier.Some) (λ names is. is) bindings test p q, j)
read_said (by b (every_expr {bindings = bindings} {test = test} k0 a1 a2)) h = let (p, i) = read_said a1 (taken k0 h) in let (q, j) = read_said a2 i in (bound_spelled (tree.Quantified quantifier.Every) (λ names is. is) bindings test p q, j)
read_said (by b (if_expr {test = test} {first = first} {second = second} k0 a1 a2 a3)) h = let (p, i) = read_said a1 (taken k0 h) in let (q, j) = read_said a2 i in let (s, l) = read_said a3 j in (chosen_spelled test first second p q s, l)
read_said (by b (single_or a0)) h = read_said a0 h
read_said (by b (in_binding k0 a1 a2 a3)) h = let (p, i) = read_said a1 (taken k0 h) in let (q, j) = read_said a2 i in let (s, l) = read_said a3 j in (((p, s.0), (q, s.1)), l)
read_said (by b (in_more k0 a1)) h = read_said a1 (taken k0 h)
read_said (by b in_end) h = ((tt, tt), h)
read_said (by b (let_binding k0 a1 a2 a3)) h = let (p, i) = read_said a1 (taken k0 h) in let (q, j) = read_said a2 i in let (s, l) = read_said a3 j in (((p, s.0), (q, s.1)), l)
read_said (by b (let_more k0 a1)) h = read_said a1 (taken k0 h)
read_said (by b let_end) h = ((tt, tt), h)
read_said (by b (in_clause k0 a1)) h = read_said a1 (taken k0 h)
read_said (by b (assign_clause k0 a1)) h = read_said a1 (taken k0 h)
read_said (by b (return_clause k0 a1)) h = read_said a1 (taken k0 h)
read_said (by b (satisfies_clause k0 a1)) h = read_said a1 (taken k0 h)
read_said (by b (test_clause k0 a1 k2)) h = let (p, i) = read_said a1 (taken k0 h) in (p, taken k2 i)
read_said (by b (then_clause k0 a1)) h = read_said a1 (taken k0 h)
read_said (by b (else_clause k0 a1)) h = read_said a1 (taken k0 h)
read_said (by b (or_expr {first = first} {more = more} a0 a1)) h = let (p, i) = read_said a0 h in let (q, j) = read_said a1 i in (chain_spelled tree.Or tt first more p q, j)
read_said (by b (or_more k0 a1 a2)) h = let (p, i) = read_said a1 (taken k0 h) in let (q, j) = read_said a2 i in ((p, q), j)
read_said (by b or_end) h = (tt, h)
read_said (by b (and_expr {first = first} {more = more} a0 a1)) h = let (p, i) = read_said a0 h in let (q, j) = read_said a1 i in (chain_spelled tree.And tt first more p q, j)
read_said (by b (and_more k0 a1 a2)) h = let (p, i) = read_said a1 (taken k0 h) in let (q, j) = read_said a2 i in ((p, q), j)
read_said (by b and_end) h = (tt, h)
read_said (by b (comparison_expr {first = first} {second = second} a0 a1)) h = let (p, i) = read_said a0 h in let (q, j) = read_said a1 i in (compared_spelled first second p q, j)
read_said (by b (equal k0 a1)) h = read_said a1 (taken k0 h)
read_said (by b (not_equal k0 a1)) h = read_said a1 (taken k0 h)
read_said (by b (less k0 a1)) h = read_said a1 (taken k0 h)
read_said (by b (less_or_equal k0 a1)) h = read_said a1 (taken k0 h)
read_said (by b (greater k0 a1)) h = read_said a1 (taken k0 h)
read_said (by b (greater_or_equal k0 a1)) h = read_said a1 (taken k0 h)
read_said (by b not_compared) h = (tt, h)
read_said (by b (concatenation_expr {first = first} {more = more} a0 a1)) h = let (p, i) = read_said a0 h in let (q, j) = read_said a1 i in (chain_spelled tree.Concatenation tt first more p q, j)
read_said (by b (concatenation_more k0 a1 a2)) h = let (p, i) = read_said a1 (taken k0 h) in let (q, j) = read_said a2 i in ((p, q), j)
read_said (by b concatenation_end) h = (tt, h)
read_said (by b (range_expr {first = first} {last = last} a0 a1)) h = let (p, i) = read_said a0 h in let (q, j) = read_said a1 i in (ranging_spelled first last p q, j)
read_said (by b (up_to k0 c a1)) h = read_said a1 (taken k0 h)
read_said (by b (up_to_cut k0 c)) h = absurd c
read_said (by b no_range) h = (tt, h)
read_said (by b (additive_expr {first = first} {more = more} a0 a1)) h = let (p, i) = read_said a0 h in let (q, j) = read_said a1 i in (mixed_spelled tree.Additive' (λ ops. tt) first more p q, j)
read_said (by b (plus k0 a1 a2)) h = let (p, i) = read_said a1 (taken k0 h) in let (q, j) = read_said a2 i in ((p, q), j)
read_said (by b (minus k0 a1 a2)) h = let (p, i) = read_said a1 (taken k0 h) in let (q, j) = read_said a2 i in ((p, q), j)
read_said (by b additive_end) h = (tt, h)
read_said (by b (multiplicative_expr {first = first} {more = more} a0 a1)) h = let (p, i) = read_said a0 h in let (q, j) = read_said a1 i in (mixed_spelled tree.Multiplicative' (λ ops. tt) first more p q, j)
read_said (by b (times k0 a1 a2)) h = let (p, i) = read_said a1 (taken k0 h) in let (q, j) = read_said a2 i in ((p, q), j)
read_said (by b (integer_divide k0 a1 a2)) h = let (p, i) = read_said a1 (taken k0 h) in let (q, j) = read_said a2 i in ((p, q), j)
read_said (by b (modulo k0 a1 a2)) h = let (p, i) = read_said a1 (taken k0 h) in let (q, j) = read_said a2 i in ((p, q), j)
read_said (by b multiplicative_end) h = (tt, h)
read_said (by b (union_expr {first = first} {more = more} a0 a1)) h = let (p, i) = read_said a0 h in let (q, j) = read_said a1 i in (chain_spelled tree.Union tt first more p q, j)
read_said (by b (union_more k0 a1 a2)) h = let (p, i) = read_said a1 (taken k0 h) in let (q, j) = read_said a2 i in ((p, q), j)
read_said (by b (bar_more k0 a1 a2)) h = let (p, i) = read_said a1 (taken k0 h) in let (q, j) = read_said a2 i in ((p, q), j)
read_said (by b union_end) h = (tt, h)
read_said (by b (set_expr {first = first} {more = more} a0 a1)) h = let (p, i) = read_said a0 h in let (q, j) = read_said a1 i in (mixed_spelled tree.IntersectExcept (λ ops. tt) first more p q, j)
read_said (by b (intersect k0 a1 a2)) h = let (p, i) = read_said a1 (taken k0 h) in let (q, j) = read_said a2 i in ((p, q), j)
read_said (by b (except k0 a1 a2)) h = let (p, i) = read_said a1 (taken k0 h) in let (q, j) = read_said a2 i in ((p, q), j)
read_said (by b set_end) h = (tt, h)
read_said (by b (negative {a = a} k0 a1)) h = let (p, i) = read_said a1 (taken k0 h) in (signed_spelled sign.Minus a p, i)
read_said (by b (positive {a = a} k0 a1)) h = let (p, i) = read_said a1 (taken k0 h) in (signed_spelled sign.Plus a p, i)
read_said (by b (no_sign a0)) h = read_said a0 h
read_said (by b (map_expr {first = first} {more = more} a0 a1)) h = let (p, i) = read_said a0 h in let (q, j) = read_said a1 i in (chain_spelled tree.SimpleMap tt first more p q, j)
read_said (by b (map_more k0 a1 a2)) h = let (p, i) = read_said a1 (taken k0 h) in let (q, j) = read_said a2 i in ((p, q), j)
read_said (by b map_end) h = (tt, h)
read_said (by b (operand a0 a1)) h = let (p, i) = read_said a0 h in let (q, j) = read_said a1 i in (p, j)
read_said (by b (left_out_operator among read is)) h = absurd is
read_said (by b no_left_out) h = (tt, h)
read_said (by b (root k0)) h = (alone_spelled tree.Root tt, taken k0 h)
read_said (by b (from_root {steps = steps} k0 a1)) h = let (p, i) = read_said a1 (taken k0 h) in (rooted_spelled steps p, i)
read_said (by b (from_descendants {steps = steps} k0 a1)) h = let (p, i) = read_said a1 (taken k0 h) in (rooted_spelled (descendants ∷ steps) (descendants_spelled, p), i)
read_said (by b (relative {steps = steps} a0)) h = let (p, i) = read_said a0 h in (path_spelled steps p, i)
read_said (by b (path_steps a0 a1)) h = let (p, i) = read_said a0 h in let (q, j) = read_said a1 i in ((p, q), j)
read_said (by b (next_step k0 a1 a2)) h = let (p, i) = read_said a1 (taken k0 h) in let (q, j) = read_said a2 i in ((p, q), j)
read_said (by b (next_descendants k0 a1 a2)) h = let (p, i) = read_said a1 (taken k0 h) in let (q, j) = read_said a2 i in ((descendants_spelled, (p, q)), j)
read_said (by b steps_end) h = (tt, h)
read_said (by b (context_item {predicates = predicates} k0 a1)) h = let (p, i) = read_said a1 (taken k0 h) in (filtered_spelled (other (alone tree.ContextItem) []) predicates (alone_spelled tree.ContextItem tt) p, i)
read_said (by b (primary {a = a} {predicates = predicates} a0 a1)) h = let (p, i) = read_said a0 h in let (q, j) = read_said a1 i in (filtered_spelled a predicates p q, j)
read_said (by b (parent {predicates = predicates} k0 a1)) h = let (p, i) = read_said a1 (taken k0 h) in (step_spelled axes.Parent AnyNode predicates tt p, i)
read_said (by b (attribute {test = test} {predicates = predicates} k0 a1 a2)) h = let (p, i) = read_said a1 (taken k0 h) in let (q, j) = read_said a2 i in (attribute_spelled test predicates p q, j)
read_said (by b (axis_name {xs = xs} {tail = tail} k0 a1)) h = let (p, i) = read_said a1 (taken k0 h) in (named_spelled xs (first_text xs) tail (name_taken k0 refl h) p, i)
read_said (by b (any_name {predicates = predicates} k0 a1)) h = let (p, i) = read_said a1 (taken k0 h) in (step_spelled axes.Child AnyName predicates tt p, i)
read_said (by b (node_name {xs = xs} {parentheses = parentheses} {predicates = predicates} k0 a1 a2)) h = let (p, i) = read_said a1 (taken k0 h) in let (q, j) = read_said a2 i in (step_spelled axes.Child (kind_test AnyNode (first_text xs) parentheses) predicates (kind_test_spelled AnyNode (first_text xs) parentheses tt (name_taken k0 refl h)) q, j)
read_said (by b (element_name {xs = xs} {parentheses = parentheses} {predicates = predicates} k0 a1 a2)) h = let (p, i) = read_said a1 (taken k0 h) in let (q, j) = read_said a2 i in (step_spelled axes.Child (kind_test AnyElement (first_text xs) parentheses) predicates (kind_test_spelled AnyElement (first_text xs) parentheses tt (name_taken k0 refl h)) q, j)
read_said (by b (plain_step {xs = xs} {word = word} {tail = tail} a0 a1)) h = let (p, i) = read_said a0 h in let (q, j) = read_said a1 i in (named_spelled xs word tail p q, j)
read_said (by b (left_out_step among read is)) h = absurd is
read_said (by b (axis_test k0 a1 a2)) h = let (p, i) = read_said a1 (taken k0 h) in let (q, j) = read_said a2 i in ((p, q), j)
read_said (by b (axis_call k0 a1 k2 a3)) h = let (p, i) = read_said a1 (taken k0 h) in let (q, j) = read_said a3 (taken k2 i) in ((p, q), j)
read_said (by b (axis_predicates a0)) h = read_said a0 h
read_said (by b (name_call k0 a1 k2 a3)) h = let (p, i) = read_said a1 (taken k0 h) in let (q, j) = read_said a3 (taken k2 i) in ((p, q), j)
read_said (by b (name_predicates a0)) h = read_said a0 h
read_said (by b (name_test a0)) h = read_said a0 h
read_said (by b (axis_name_test k0)) h = (name_taken k0 refl h, taken k0 h)
read_said (by b (any_name_test k0)) h = (tt, taken k0 h)
read_said (by b (node_test {xs = xs} {parentheses = parentheses} k0 a1)) h = let (p, i) = read_said a1 (taken k0 h) in (kind_test_spelled AnyNode (first_text xs) parentheses tt (name_taken k0 refl h), i)
read_said (by b (element_test {xs = xs} {parentheses = parentheses} k0 a1)) h = let (p, i) = read_said a1 (taken k0 h) in (kind_test_spelled AnyElement (first_text xs) parentheses tt (name_taken k0 refl h), i)
read_said (by b (kind_parentheses k0 k1)) h = (tt, taken k1 (taken k0 h))
read_said (by b no_parentheses) h = (tt, h)
read_said (by b (predicate k0 a1 k2 a3)) h = let (p, i) = read_said a1 (taken k0 h) in let (q, j) = read_said a3 (taken k2 i) in ((p, q), j)
read_said (by b no_predicate) h = (tt, h)
read_said (by b (integer_expr {xs = xs} k0)) h = (alone_spelled (tree.Integer (integer_of (first_text xs))) (integer_spelled (first_text xs)), taken k0 h)
read_said (by b (string_expr {xs = xs} k0)) h = (alone_spelled (tree.String (string_of (first_text xs))) (string_taken k0 h), taken k0 h)
read_said (by b (variable_expr {word = word} k0 c a1)) h = let (p, i) = read_said a1 (taken k0 h) in (alone_spelled (tree.Variable word) p, i)
read_said (by b (variable_cut k0 c)) h = absurd c
read_said (by b (parenthesized k0 a1 k2)) h = let (p, i) = read_said a1 (taken k0 h) in (p, taken k2 i)
read_said (by b (inside a0)) h = read_said a0 h
read_said (by b empty) h = (alone_spelled tree.Comma tt, h)
read_said (by b (some_arguments a0 a1)) h = let (p, i) = read_said a0 h in let (q, j) = read_said a1 i in ((p, q), j)
read_said (by b no_arguments) h = (tt, h)
read_said (by b (more_arguments k0 a1 a2)) h = let (p, i) = read_said a1 (taken k0 h) in let (q, j) = read_said a2 i in ((p, q), j)
read_said (by b arguments_end) h = (tt, h)
read_said (by b (variable_name a0)) h = read_said a0 h
read_said (by b (axis_variable k0)) h = (name_taken k0 refl h, taken k0 h)
read_said (by b (node_variable k0)) h = (name_taken k0 refl h, taken k0 h)
read_said (by b (element_variable k0)) h = (name_taken k0 refl h, taken k0 h)
read_said (by b (plain_name among k0)) h = (plain_taken among k0 h, taken k0 h)
read_said (Reads.cut c) h = absurd c

pub read_spelled : (tokens : List Lexed) (a : Operand) → AreWellSpelled tokens → AreRead tokens a → IsSpelled a.tree
read_spelled tokens a h is = (read_said is h).0
