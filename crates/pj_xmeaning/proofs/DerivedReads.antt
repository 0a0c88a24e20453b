-- What is derived is what the rules read.
use Rattle.std.proofs.Common.{◌≡◌, ℕ, zero, suc, ◌+◌, List, [], ◌∷◌, ◌++◌, drop, map, take, Option, Some, None, refl, sym, ◌∙◌, ap, subst, arith, append_assoc}
use Rattle.std.specs.Prelude.{slice_get, ⊤}
use Rattle.std.proofs.lemmas.List.{append-nil}
use Rattle.std.proofs.lemmas.Option.{same_Some}
use Rattle.pj_ll.specs.declared.grammar.Symbol.{Symbol}
use Rattle.pj_ll.specs.declared.grammar.Symbol.TheVariants as symbol
use Rattle.pj_ll.specs.Grammar.{Line, Grammar, closes}
use Rattle.pj_ll.specs.Leads.{start}
use Rattle.pj_xtokens.specs.First.{behind_first, first_from}
use Rattle.pj_xtokens.specs.Tokens.{Lexed}
use Rattle.pj_xgrammar.specs.declared.rule.Rule.{Rule}
use Rattle.pj_xgrammar.specs.declared.rule.Rule.TheVariants as r
use Rattle.pj_xgrammar.specs.Notation.{t, rule_number}
use Rattle.pj_xgrammar.specs.XPath.{xpath, rules, line, lines_of, xpath_grammar}
use Rattle.pj_xmeaning.specs.Actions.{actions_of, actions_by, actions, action_in, action_of, left_out}
use Rattle.pj_xmeaning.specs.Parts.{RuleValue, Missing, operand, word, held}
use Rattle.pj_xmeaning.specs.Values.{top, made, up_to, variable_named}
use Rattle.pj_xmeaning.specs.declared.action.Action.{Action}
use Rattle.pj_xmeaning.specs.declared.action.Action.TheVariants as action
use Rattle.pj_xmeaning.specs.declared.action.Leaf.TheVariants as leaf
use Rattle.pj_xreadings.specs.Operands.{Operand, Arguments, Next, nothing}
use Rattle.pj_xmeaning.specs.Reach.{Ending, Reach, All, UpTo, IsBehindLeftOut, IsCut, IsBefore, Within}
use Rattle.pj_xmeaning.proofs.Derived as d
use Rattle.pj_xmeaning.proofs.Derived.{Derived, Fill}
use Rattle.pj_xmeaning.specs.Reads as reads
use Rattle.pj_xmeaning.specs.Reads.{Takes, token, IsAmong, IsNumbered, here, further, Reads, by, Produces, left_out_operator, left_out_step, expr, expr_more, expr_end, for_expr, let_expr, some_expr, every_expr, if_expr, single_or, in_binding, in_more, in_end, let_binding, let_more, let_end, in_clause, assign_clause, return_clause, satisfies_clause, test_clause, then_clause, else_clause, or_expr, or_more, or_end, and_expr, and_more, and_end, comparison_expr, equal, not_equal, less, less_or_equal, greater, greater_or_equal, not_compared, concatenation_expr, concatenation_more, concatenation_end, range_expr, up_to_cut, no_range, additive_expr, plus, minus, additive_end, multiplicative_expr, times, integer_divide, modulo, multiplicative_end, union_expr, union_more, bar_more, union_end, set_expr, intersect, except, set_end, negative, positive, no_sign, map_expr, map_more, map_end, no_left_out, root, from_root, from_descendants, relative, path_steps, next_step, next_descendants, steps_end, context_item, primary, parent, attribute, axis_name, any_name, node_name, element_name, plain_step, axis_test, axis_call, axis_predicates, name_call, name_predicates, name_test, axis_name_test, any_name_test, node_test, element_test, kind_parentheses, no_parentheses, predicate, no_predicate, integer_expr, string_expr, variable_expr, variable_cut, parenthesized, inside, empty, some_arguments, no_arguments, more_arguments, arguments_end, variable_name, axis_variable, node_variable, element_variable, plain_name}
use Rattle.pj_xmeaning.proofs.Made.{IsThere, made_there, up_to_there, variable_there, made_padded, missing_is}
use Rattle.pj_xmeaning.proofs.Places.{number_at, one_rule}
use Rattle.pj_xmeaning.proofs.Splitting.{behind_is}
use Rattle.pj_xmeaning.proofs.Taking.{begins_before, behind_taken, cut_behind}

-- ---- productions with rules in the place of their numbers

data Item : Type 0 where
  Token : ℕ → Item
  Of : Option Rule → Item
  Left : ℕ → Item
  Close : Item

items : List Symbol → List Item
items [] = []
items (symbol.Terminal n ∷ ss) = Token n ∷ items ss
items (symbol.Rule n ∷ ss) = Of (slice_get rules n) ∷ items ss
items (symbol.LeftOut n ∷ ss) = Left n ∷ items ss
items (symbol.Close ∷ ss) = Close ∷ items ss

-- how many things are open before items at whose ends so many are
abbrev opened : ℕ → List Item → ℕ
opened depth [] = depth
opened depth (Token n ∷ is) = opened depth is
opened depth (Of rule ∷ is) = opened depth is
opened depth (Left n ∷ is) = opened depth is
opened depth (Close ∷ is) = suc (opened depth is)

opened_is : (depth : ℕ) (ss : List Symbol) → opened depth (items ss) ≡ depth + closes ss
unfolding items
opened_is depth [] = omega arith
opened_is depth (symbol.Terminal n ∷ ss) = opened_is depth ss
opened_is depth (symbol.Rule n ∷ ss) = opened_is depth ss
opened_is depth (symbol.LeftOut n ∷ ss) = opened_is depth ss
opened_is depth (symbol.Close ∷ ss) = let e = opened_is depth ss in omega arith

-- ---- what a production makes of the parts that its symbols read

-- the value of a rule that reads these tokens up to those behind it is there, or the rule is cut off
data Stands (reach : Reach) : List Lexed → List Lexed → RuleValue → Type 0 where
  there : {xs ys : List Lexed} {v : RuleValue} → IsBefore reach xs → IsThere v → Stands reach xs ys v
  cut : {xs : List Lexed} → IsCut reach xs → Stands reach xs xs Missing

-- a rule reads what a value holds, which is there unless the rule is cut off
record Made (reach : Reach) (rule : Rule) (depth : ℕ) (xs ys : List Lexed) (v : RuleValue) : Type 0 where
  reads : Reads reach rule depth xs ys (held rule v)
  stands : Stands reach xs ys v

record Taken (reach : Reach) (depth n : ℕ) (xs : List Lexed) : Type 0 where
  to : List Lexed
  takes : Takes reach depth (symbol.Terminal n) xs to

-- a construct that is left out begins with the first token
record Begun (reach : Reach) (n : ℕ) (xs : List Lexed) : Type 0 where
  token : Lexed
  to : List Lexed
  are : xs ≡ token ∷ to
  read : IsNumbered token to n
  is : IsBehindLeftOut reach to

record Part (reach : Reach) (rule : Rule) (depth : ℕ) (xs : List Lexed) : Type 0 where
  to : List Lexed
  v : RuleValue
  reads : Reads reach rule depth xs to (held rule v)
  stands : Stands reach xs to v

-- a range, which is one only where the operand behind its `to` is not cut off
range_made : {reach : Reach} {depth : ℕ} {xs ys zs : List Lexed} {v : RuleValue} → IsBefore reach xs → Takes reach depth (t "to") xs ys →
    Reads reach r.AdditiveExpr depth ys zs (operand v) → Stands reach ys zs v → Reads reach r.RangeTail depth xs zs (up_to v)
range_made {reach} {depth} {xs} {zs = zs} {v} b k a (there before is) =
    subst (Reads reach r.RangeTail depth xs zs) (sym (up_to_there v is)) (by b (reads.Produces.up_to k before a))
range_made b k a (cut c) = by b (up_to_cut k c)

-- a variable, whose name may be cut off behind its `$`
variable_made : {reach : Reach} {depth : ℕ} {xs ys zs : List Lexed} {v : RuleValue} → IsBefore reach xs → Takes reach depth (t "$") xs ys →
    Reads reach r.VarName depth ys zs (word v) → Stands reach ys zs v → Reads reach r.PrimaryExpr depth xs zs (variable_named xs v)
variable_made {reach} {depth} {xs} {zs = zs} {v} b k a (there before is) =
    subst (Reads reach r.PrimaryExpr depth xs zs) (sym (variable_there xs v is)) (by b (variable_expr k before a))
variable_made b k a (cut c) = by b (variable_cut k c)

-- a further argument begins with the token behind its `,`
next_made : {reach : Reach} {depth : ℕ} {xs ys zs us : List Lexed} {next : Operand} {more : Arguments} → IsBefore reach xs → Takes reach depth (t ",") xs ys →
    Reads reach r.ExprSingle depth ys zs next → Reads reach r.ArgumentsTail depth zs us more →
    Reads reach r.ArgumentsTail depth xs us (Next (first_from (behind_first xs)) next more)
next_made {reach} {depth} {xs} {us = us} {next} {more} b k a m =
    subst (λ l. Reads reach r.ArgumentsTail depth xs us (Next (first_from l) next more)) (sym (behind_taken b k)) (by b (more_arguments k a m))

-- From parts that the items read one behind the other. Where a construct is left out, the tokens are not cut off.
abbrev Step : Reach → Rule → Action → ℕ → List Lexed → List Lexed → List Item → List RuleValue → Type 0
Step reach rule a depth xs ys [] vs = Reads reach rule depth xs ys (held rule (made a xs vs))
Step reach rule a depth xs ys (Token n ∷ is) vs = (k : Taken reach (opened depth is) n ys) → Step reach rule a depth xs k.to is vs
Step reach rule a depth xs ys (Of None ∷ is) vs = ⊥
Step reach rule a depth xs ys (Of (Some part) ∷ is) vs = (p : Part reach part (opened depth is) ys) → Step reach rule a depth xs p.to is (vs ++ p.v ∷ [])
Step reach rule a depth xs ys (Left n ∷ is) vs = IsBefore reach ys × ((k : Begun reach n ys) → Step reach rule a depth xs k.to is vs)
Step reach rule a depth xs ys (Close ∷ is) vs = Step reach rule a depth xs ys is vs

abbrev StepFor : Reach → Rule → Action → List Symbol → Type 0
StepFor reach rule a ss = (depth : ℕ) (xs : List Lexed) → IsBefore reach xs → Step reach rule a depth xs xs (items ss) []

-- a construct that is left out where an operator can stand, and one where a step can begin
operator_left_out : (reach : Reach) (n : ℕ) → IsAmong (symbol.LeftOut n) (xpath r.LeftOutOperator) → StepFor reach r.LeftOutOperator left_out (symbol.LeftOut n ∷ [])
unfolding items
operator_left_out reach n among depth xs b =
    (b, λ k. subst (λ l. Reads reach r.LeftOutOperator depth l k.to tt) (sym k.are) (by (begins_before reach k.token k.to k.is) (left_out_operator among k.read k.is)))

step_left_out : (reach : Reach) (n : ℕ) → IsAmong (symbol.LeftOut n) (xpath r.StepExpr) → StepFor reach r.StepExpr left_out (symbol.LeftOut n ∷ [])
unfolding items
step_left_out reach n among depth xs b =
    (b, λ k. subst (λ l. Reads reach r.StepExpr depth l k.to nothing) (sym k.are) (by (begins_before reach k.token k.to k.is) (left_out_step among k.read k.is)))

infixr 5 ◌&◌
-- each production of the rule has its constructor
data AreSteps (reach : Reach) (rule : Rule) : List (List Symbol) → List Action → Type 0 where
  none : AreSteps reach rule [] []
  ◌&◌ : {ss : List Symbol} {sss : List (List Symbol)} {a : Action} {more : List Action} → StepFor reach rule a ss → AreSteps reach rule sss more →
      AreSteps reach rule (ss ∷ sss) (a ∷ more)

-- each of the productions is a construct that is left out
abbrev AreLeftOut : List (List Symbol) → List Action → Type 0
AreLeftOut [] [] = ⊤
AreLeftOut ((symbol.LeftOut n ∷ []) ∷ sss) (action.Leaf leaf.LeftOut ∷ more) = AreLeftOut sss more
AreLeftOut _ _ = ⊥

-- before others
outsides : (reach : Reach) (rule : Rule) (sss rest : List (List Symbol)) (acts others : List Action) → AreLeftOut sss acts →
    ((n : ℕ) → IsAmong (symbol.LeftOut n) sss → StepFor reach rule left_out (symbol.LeftOut n ∷ [])) → AreSteps reach rule rest others → AreSteps reach rule (sss ++ rest) (acts ++ others)
outsides reach rule [] rest [] others are step last = last
outsides reach rule ((symbol.LeftOut n ∷ []) ∷ sss) rest (action.Leaf leaf.LeftOut ∷ more) others are step last =
    step n here & outsides reach rule sss rest more others are (λ m later. step m (further later)) last
outsides reach rule _ rest _ others are step last = absurd are

-- what is among the first productions is among all
among_all : {s : Symbol} (sss rest : List (List Symbol)) → IsAmong s sss → IsAmong s (sss ++ rest)
among_all [] rest among = elim among [ ]
among_all (_ ∷ sss) rest here = here
among_all (_ ∷ sss) rest (further later) = further (among_all sss rest later)

-- each of the symbols alone makes a word
abbrev AreWords : List (List Symbol) → List Action → Type 0
AreWords [] [] = ⊤
AreWords ((symbol.Terminal n ∷ []) ∷ sss) (action.Leaf leaf.Word ∷ more) = AreWords sss more
AreWords _ _ = ⊥

-- where each is among those that are names
names : (reach : Reach) (sss : List (List Symbol)) (acts : List Action) → AreWords sss acts → ((s : Symbol) → IsAmong s sss → IsAmong s (xpath r.PlainName)) →
    AreSteps reach r.PlainName sss acts
unfolding items
names reach [] [] are among = none
names reach ((symbol.Terminal n ∷ []) ∷ sss) (action.Leaf leaf.Word ∷ more) are among =
    (λ depth xs b k. by b (plain_name (among (symbol.Terminal n) here) k.takes)) & names reach sss more are (λ s later. among s (further later))
names reach _ _ are among = absurd are

-- each constructor, by the tokens that its terminals take and the parts that its rules read
steps : (reach : Reach) (rule : Rule) → AreSteps reach rule (xpath rule) (actions_of rule)
unfolding xpath rules actions_of items
steps reach r.Expr = (λ depth xs b a0 a1. by b (expr a0.reads a1.reads)) & none
steps reach r.ExprTail = (λ depth xs b k0 a1 a2. by b (expr_more k0.takes a1.reads a2.reads)) & (λ depth xs b. by b expr_end) & none
steps reach r.ExprSingle =
    (λ depth xs b k0 a1 a2. by b (for_expr k0.takes a1.reads a2.reads))
    & (λ depth xs b k0 a1 a2. by b (let_expr k0.takes a1.reads a2.reads))
    & (λ depth xs b k0 a1 a2. by b (some_expr k0.takes a1.reads a2.reads))
    & (λ depth xs b k0 a1 a2. by b (every_expr k0.takes a1.reads a2.reads))
    & (λ depth xs b k0 a1 a2 a3. by b (if_expr k0.takes a1.reads a2.reads a3.reads))
    & (λ depth xs b a0. by b (single_or a0.reads)) & none
steps reach r.InBindings = (λ depth xs b k0 a1 a2 a3. by b (in_binding k0.takes a1.reads a2.reads a3.reads)) & none
steps reach r.InBindingsTail = (λ depth xs b k0 a1. by b (in_more k0.takes a1.reads)) & (λ depth xs b. by b in_end) & none
steps reach r.LetBindings = (λ depth xs b k0 a1 a2 a3. by b (let_binding k0.takes a1.reads a2.reads a3.reads)) & none
steps reach r.LetBindingsTail = (λ depth xs b k0 a1. by b (let_more k0.takes a1.reads)) & (λ depth xs b. by b let_end) & none
steps reach r.InClause = (λ depth xs b k0 a1. by b (in_clause k0.takes a1.reads)) & none
steps reach r.AssignClause = (λ depth xs b k0 a1. by b (assign_clause k0.takes a1.reads)) & none
steps reach r.ReturnClause = (λ depth xs b k0 a1. by b (return_clause k0.takes a1.reads)) & none
steps reach r.SatisfiesClause = (λ depth xs b k0 a1. by b (satisfies_clause k0.takes a1.reads)) & none
steps reach r.TestClause = (λ depth xs b k0 a1 k2. by b (test_clause k0.takes a1.reads k2.takes)) & none
steps reach r.ThenClause = (λ depth xs b k0 a1. by b (then_clause k0.takes a1.reads)) & none
steps reach r.ElseClause = (λ depth xs b k0 a1. by b (else_clause k0.takes a1.reads)) & none
steps reach r.OrExpr = (λ depth xs b a0 a1. by b (or_expr a0.reads a1.reads)) & none
steps reach r.OrTail = (λ depth xs b k0 a1 a2. by b (or_more k0.takes a1.reads a2.reads)) & (λ depth xs b. by b or_end) & none
steps reach r.AndExpr = (λ depth xs b a0 a1. by b (and_expr a0.reads a1.reads)) & none
steps reach r.AndTail = (λ depth xs b k0 a1 a2. by b (and_more k0.takes a1.reads a2.reads)) & (λ depth xs b. by b and_end) & none
steps reach r.ComparisonExpr = (λ depth xs b a0 a1. by b (comparison_expr a0.reads a1.reads)) & none
steps reach r.ComparisonTail =
    (λ depth xs b k0 a1. by b (equal k0.takes a1.reads))
    & (λ depth xs b k0 a1. by b (not_equal k0.takes a1.reads))
    & (λ depth xs b k0 a1. by b (less k0.takes a1.reads))
    & (λ depth xs b k0 a1. by b (less_or_equal k0.takes a1.reads))
    & (λ depth xs b k0 a1. by b (greater k0.takes a1.reads))
    & (λ depth xs b k0 a1. by b (greater_or_equal k0.takes a1.reads))
    & (λ depth xs b. by b not_compared) & none
steps reach r.StringConcatExpr = (λ depth xs b a0 a1. by b (concatenation_expr a0.reads a1.reads)) & none
steps reach r.StringConcatTail = (λ depth xs b k0 a1 a2. by b (concatenation_more k0.takes a1.reads a2.reads)) & (λ depth xs b. by b concatenation_end) & none
steps reach r.RangeExpr = (λ depth xs b a0 a1. by b (range_expr a0.reads a1.reads)) & none
steps reach r.RangeTail = (λ depth xs b k0 a1. range_made b k0.takes a1.reads a1.stands) & (λ depth xs b. by b no_range) & none
steps reach r.AdditiveExpr = (λ depth xs b a0 a1. by b (additive_expr a0.reads a1.reads)) & none
steps reach r.AdditiveTail =
    (λ depth xs b k0 a1 a2. by b (plus k0.takes a1.reads a2.reads))
    & (λ depth xs b k0 a1 a2. by b (minus k0.takes a1.reads a2.reads))
    & (λ depth xs b. by b additive_end) & none
steps reach r.MultiplicativeExpr = (λ depth xs b a0 a1. by b (multiplicative_expr a0.reads a1.reads)) & none
steps reach r.MultiplicativeTail =
    (λ depth xs b k0 a1 a2. by b (times k0.takes a1.reads a2.reads))
    & (λ depth xs b k0 a1 a2. by b (integer_divide k0.takes a1.reads a2.reads))
    & (λ depth xs b k0 a1 a2. by b (modulo k0.takes a1.reads a2.reads))
    & (λ depth xs b. by b multiplicative_end) & none
steps reach r.UnionExpr = (λ depth xs b a0 a1. by b (union_expr a0.reads a1.reads)) & none
steps reach r.UnionTail =
    (λ depth xs b k0 a1 a2. by b (union_more k0.takes a1.reads a2.reads))
    & (λ depth xs b k0 a1 a2. by b (bar_more k0.takes a1.reads a2.reads))
    & (λ depth xs b. by b union_end) & none
steps reach r.IntersectExceptExpr = (λ depth xs b a0 a1. by b (set_expr a0.reads a1.reads)) & none
steps reach r.IntersectExceptTail =
    (λ depth xs b k0 a1 a2. by b (intersect k0.takes a1.reads a2.reads))
    & (λ depth xs b k0 a1 a2. by b (except k0.takes a1.reads a2.reads))
    & (λ depth xs b. by b set_end) & none
steps reach r.UnaryExpr =
    (λ depth xs b k0 a1. by b (negative k0.takes a1.reads))
    & (λ depth xs b k0 a1. by b (positive k0.takes a1.reads))
    & (λ depth xs b a0. by b (no_sign a0.reads)) & none
steps reach r.SimpleMapExpr = (λ depth xs b a0 a1. by b (map_expr a0.reads a1.reads)) & none
steps reach r.SimpleMapTail = (λ depth xs b k0 a1 a2. by b (map_more k0.takes a1.reads a2.reads)) & (λ depth xs b. by b map_end) & none
steps reach r.Operand = (λ depth xs b a0 a1. by b (reads.Produces.operand a0.reads a1.reads)) & none
steps reach r.LeftOutOperator =
    let operators = take 18 (xpath r.LeftOutOperator) in
    outsides reach r.LeftOutOperator operators (drop 18 (xpath r.LeftOutOperator)) (take 18 (actions_of r.LeftOutOperator)) (drop 18 (actions_of r.LeftOutOperator)) tt
    (λ n among. operator_left_out reach n (among_all operators (drop 18 (xpath r.LeftOutOperator)) among))
    ((λ depth xs b. by b no_left_out) & none)
steps reach r.PathExpr =
    (λ depth xs b k0. by b (root k0.takes))
    & (λ depth xs b k0 a1. by b (from_root k0.takes a1.reads))
    & (λ depth xs b k0 a1. by b (from_descendants k0.takes a1.reads))
    & (λ depth xs b a0. by b (relative a0.reads)) & none
steps reach r.RelativePathExpr = (λ depth xs b a0 a1. by b (path_steps a0.reads a1.reads)) & none
steps reach r.RelativePathTail =
    (λ depth xs b k0 a1 a2. by b (next_step k0.takes a1.reads a2.reads))
    & (λ depth xs b k0 a1 a2. by b (next_descendants k0.takes a1.reads a2.reads))
    & (λ depth xs b. by b steps_end) & none
steps reach r.StepExpr =
    (λ depth xs b k0 a1. by b (context_item k0.takes a1.reads))
    & (λ depth xs b a0 a1. by b (primary a0.reads a1.reads))
    & (λ depth xs b k0 a1. by b (parent k0.takes a1.reads))
    & (λ depth xs b k0 a1 a2. by b (attribute k0.takes a1.reads a2.reads))
    & (λ depth xs b k0 a1. by b (axis_name k0.takes a1.reads))
    & (λ depth xs b k0 a1. by b (any_name k0.takes a1.reads))
    & (λ depth xs b k0 a1 a2. by b (node_name k0.takes a1.reads a2.reads))
    & (λ depth xs b k0 a1 a2. by b (element_name k0.takes a1.reads a2.reads))
    & (λ depth xs b a0 a1. by b (plain_step a0.reads a1.reads))
    & outsides reach r.StepExpr (drop 9 (xpath r.StepExpr)) [] (drop 9 (actions_of r.StepExpr)) [] tt
    (λ n among. step_left_out reach n (further (further (further (further (further (further (further (further (further among)))))))))) none
steps reach r.AxisTail =
    (λ depth xs b k0 a1 a2. by b (axis_test k0.takes a1.reads a2.reads))
    & (λ depth xs b k0 a1 k2 a3. by b (axis_call k0.takes a1.reads k2.takes a3.reads))
    & (λ depth xs b a0. by b (axis_predicates a0.reads)) & none
steps reach r.NameTail = (λ depth xs b k0 a1 k2 a3. by b (name_call k0.takes a1.reads k2.takes a3.reads)) & (λ depth xs b a0. by b (name_predicates a0.reads)) & none
steps reach r.NodeTest =
    (λ depth xs b a0. by b (name_test a0.reads))
    & (λ depth xs b k0. by b (axis_name_test k0.takes))
    & (λ depth xs b k0. by b (any_name_test k0.takes))
    & (λ depth xs b k0 a1. by b (node_test k0.takes a1.reads))
    & (λ depth xs b k0 a1. by b (element_test k0.takes a1.reads)) & none
steps reach r.KindTail = (λ depth xs b k0 k1. by b (kind_parentheses k0.takes k1.takes)) & (λ depth xs b. by b no_parentheses) & none
steps reach r.PredicateList = (λ depth xs b k0 a1 k2 a3. by b (predicate k0.takes a1.reads k2.takes a3.reads)) & (λ depth xs b. by b no_predicate) & none
steps reach r.PrimaryExpr =
    (λ depth xs b k0. by b (integer_expr k0.takes))
    & (λ depth xs b k0. by b (string_expr k0.takes))
    & (λ depth xs b k0 a1. variable_made b k0.takes a1.reads a1.stands)
    & (λ depth xs b k0 a1 k2. by b (parenthesized k0.takes a1.reads k2.takes)) & none
steps reach r.Parenthesized = (λ depth xs b a0. by b (inside a0.reads)) & (λ depth xs b. by b empty) & none
steps reach r.Arguments = (λ depth xs b a0 a1. by b (some_arguments a0.reads a1.reads)) & (λ depth xs b. by b no_arguments) & none
steps reach r.ArgumentsTail = (λ depth xs b k0 a1 a2. next_made b k0.takes a1.reads a2.reads) & (λ depth xs b. by b arguments_end) & none
steps reach r.VarName =
    (λ depth xs b a0. by b (variable_name a0.reads))
    & (λ depth xs b k0. by b (axis_variable k0.takes))
    & (λ depth xs b k0. by b (node_variable k0.takes))
    & (λ depth xs b k0. by b (element_variable k0.takes)) & none
steps reach r.PlainName = names reach (xpath r.PlainName) (actions_of r.PlainName) tt (λ s among. among)

-- ---- the productions one by one

abbrev AreAll : Reach → Grammar → List Action → Type 0
AreAll reach [] [] = ⊤
AreAll reach [] (a ∷ more) = ⊥
AreAll reach (l ∷ ls) [] = ⊥
AreAll reach (l ∷ ls) (a ∷ more) = ((rule : Rule) → l.rule ≡ rule_number rule → StepFor reach rule a l.symbols) × AreAll reach ls more

step_at : (reach : Reach) (ls : Grammar) (acts : List Action) (p : ℕ) (l : Line) (rule : Rule) → AreAll reach ls acts → slice_get ls p ≡ Some l → l.rule ≡ rule_number rule →
    StepFor reach rule (action_in (slice_get acts p)) l.symbols
step_at reach [] acts p l rule s e f = absurd (let z = e in cc)
step_at reach (m ∷ ls) [] p l rule s e f = absurd s
step_at reach (m ∷ ls) (a ∷ acts) zero l rule s e f =
    let same : m ≡ l = same_Some m l e in
    subst (λ (x : Line). StepFor reach rule a x.symbols) same (s.0 rule (ap (λ (x : Line). x.rule) same ∙ f))
step_at reach (m ∷ ls) (a ∷ acts) (suc p) l rule s e f = step_at reach ls acts p l rule s.1 e f

-- ---- derivations

-- a step is given what the next rule reads
with_rule : {reach : Reach} (rule : Rule) (a : Action) (depth n : ℕ) (xs ys zs : List Lexed) (is : List Item) (vs : List RuleValue) (v : RuleValue) (found : Option Rule) →
    slice_get rules n ≡ found → ((part : Rule) → n ≡ rule_number part → Made reach part (opened depth is) ys zs v) → Step reach rule a depth xs ys (Of found ∷ is) vs →
    Step reach rule a depth xs zs is (vs ++ v ∷ [])
with_rule rule a depth n xs ys zs is vs v None e f s = absurd s
with_rule rule a depth n xs ys zs is vs v (Some part) e f s =
    let m = f part (sym (number_at n part e)) in
    s (record { to = zs; v = v; reads = m.reads; stands = m.stands })

-- what a rule reads that is cut off
cut_off : {reach : Reach} (rule : Rule) (depth : ℕ) (xs : List Lexed) → IsCut reach xs → Reads reach rule depth xs xs (held rule Missing)
cut_off {reach} rule depth xs c = subst (Reads reach rule depth xs xs) (sym (missing_is rule)) (reads.Reads.cut c)

-- Where the tokens are cut off, the symbols that are left take none, and the rules among them have no values.
cut_made : {reach : Reach} (rule : Rule) (a : Action) (depth : ℕ) (xs ys : List Lexed) (is : List Item) (vs : List RuleValue) → IsCut reach ys →
    Step reach rule a depth xs ys is vs → Reads reach rule depth xs ys (held rule (made a xs vs))
cut_made rule a depth xs ys [] vs c s = s
cut_made rule a depth xs ys (Token n ∷ is) vs c s = cut_made rule a depth xs ys is vs c (s (record { to = ys; takes = reads.Takes.cut c }))
cut_made rule a depth xs ys (Of None ∷ is) vs c s = absurd s
cut_made {reach} rule a depth xs ys (Of (Some part) ∷ is) vs c s =
    subst (λ v. Reads reach rule depth xs ys (held rule v)) (made_padded a xs vs)
    (cut_made rule a depth xs ys is (vs ++ Missing ∷ []) c (s (record { to = ys; v = Missing; reads = cut_off part (opened depth is) ys c; stands = cut c })))
cut_made rule a depth xs ys (Left n ∷ is) vs c s = absurd (s.0 c)
cut_made rule a depth xs ys (Close ∷ is) vs c s = cut_made rule a depth xs ys is vs c s

-- ---- what a step is at each symbol

none_made : {reach : Reach} (rule : Rule) (a : Action) (depth : ℕ) (xs ys : List Lexed) (vs : List RuleValue) → Step reach rule a depth xs ys (items []) vs →
    Reads reach rule depth xs ys (held rule (made a xs vs))
unfolding items
none_made rule a depth xs ys vs s = s

token_step : {reach : Reach} (rule : Rule) (a : Action) (depth : ℕ) (xs ys : List Lexed) (vs : List RuleValue) (ss : List Symbol) (n : ℕ) →
    Step reach rule a depth xs ys (items (symbol.Terminal n ∷ ss)) vs → (k : Taken reach (opened depth (items ss)) n ys) → Step reach rule a depth xs k.to (items ss) vs
unfolding items
token_step rule a depth xs ys vs ss n s k = s k

rule_step : {reach : Reach} (rule : Rule) (a : Action) (depth : ℕ) (xs ys zs : List Lexed) (vs : List RuleValue) (v : RuleValue) (ss : List Symbol) (n : ℕ) →
    Step reach rule a depth xs ys (items (symbol.Rule n ∷ ss)) vs → ((part : Rule) → n ≡ rule_number part → Made reach part (opened depth (items ss)) ys zs v) →
    Step reach rule a depth xs zs (items ss) (vs ++ v ∷ [])
unfolding items
rule_step rule a depth xs ys zs vs v ss n s f = with_rule rule a depth n xs ys zs (items ss) vs v (slice_get rules n) refl f s

left_out_step_at : {reach : Reach} (rule : Rule) (a : Action) (depth : ℕ) (xs ys : List Lexed) (vs : List RuleValue) (ss : List Symbol) (n : ℕ) →
    Step reach rule a depth xs ys (items (symbol.LeftOut n ∷ ss)) vs → (k : Begun reach n ys) → Step reach rule a depth xs k.to (items ss) vs
unfolding items
left_out_step_at rule a depth xs ys vs ss n s k = s.1 k

close_step : (reach : Reach) (rule : Rule) (a : Action) (depth : ℕ) (xs ys : List Lexed) (vs : List RuleValue) (ss : List Symbol) →
    Step reach rule a depth xs ys (items (symbol.Close ∷ ss)) vs → Step reach rule a depth xs ys (items ss) vs
unfolding items
close_step reach rule a depth xs ys vs ss s = s

-- no further values stand behind those that a step has
none_behind : {reach : Reach} (rule : Rule) (a : Action) (depth : ℕ) (xs ys : List Lexed) (vs : List RuleValue) → Reads reach rule depth xs ys (held rule (made a xs vs)) →
    Reads reach rule depth xs ys (held rule (made a xs (vs ++ [])))
none_behind {reach} rule a depth xs ys vs h = subst (λ l. Reads reach rule depth xs ys (held rule (made a xs l))) (sym (append-nil vs)) h

-- where each rule stands at its number
module _ (rule_at : (rule : Rule) → slice_get rules (rule_number rule) ≡ Some rule) where
  of_rule : {reach : Reach} {rule : Rule} {sss : List (List Symbol)} {acts : List Action} (ls : Grammar) (more : List Action) → AreSteps reach rule sss acts → AreAll reach ls more →
      AreAll reach (map (line rule) sss ++ ls) (acts ++ more)
  of_rule ls more none rest = rest
  of_rule {reach} {rule} ls more (◌&◌ {ss} {a = a} s later) rest =
      ((λ other e. subst (λ (x : Rule). StepFor reach x a ss) (one_rule rule_at rule other e) s), of_rule ls more later rest)

  of_rules : (reach : Reach) (rs : List Rule) → AreAll reach (lines_of rs) (actions_by rs)
  of_rules reach [] = tt
  of_rules reach (rule ∷ more) = of_rule (lines_of more) (actions_by more) (steps reach rule) (of_rules reach more)

  production_step : (reach : Reach) (p : ℕ) (l : Line) (rule : Rule) → slice_get xpath_grammar p ≡ Some l → l.rule ≡ rule_number rule → StepFor reach rule (action_of p) l.symbols
  unfolding xpath_grammar actions action_of
  production_step reach p l rule e f = step_at reach (lines_of rules) (actions_by rules) p l rule (of_rules reach rules) e f

  mutual
    derived_reads : {reach : Reach} {depth n : ℕ} {behind ts : List Lexed} {ps : List ℕ} {v : RuleValue} → Derived reach depth behind n ts ps v →
        (rule : Rule) → n ≡ rule_number rule → Made reach rule depth (ts ++ behind) behind v
    derived_reads {reach} {depth} {behind = behind} {ts} (d.by {vs = vs} p l before at n_is f ps_are v_is) rule e =
        subst (Made reach rule depth (ts ++ behind) behind) (sym v_is)
        (record {
          reads = fill_reads f rule (action_of p) (ts ++ behind) [] (production_step reach p l rule at (n_is ∙ e) depth (ts ++ behind) before);
          stands = there before (made_there (action_of p) (ts ++ behind) vs);
        })

    fill_reads : {reach : Reach} {depth : ℕ} {behind ts : List Lexed} {ss : List Symbol} {ps : List ℕ} {vs : List RuleValue} → Fill reach depth behind ss ts ps vs →
        (rule : Rule) (a : Action) (xs : List Lexed) (us : List RuleValue) → Step reach rule a depth xs (ts ++ behind) (items ss) us →
        Reads reach rule depth xs behind (held rule (made a xs (us ++ vs)))
    fill_reads {depth = depth} {behind} d.none rule a xs us s = none_behind rule a depth xs behind us (none_made rule a depth xs behind us s)
    fill_reads {reach} {depth} {behind} (d.token {ts = ts} {ss = ss} x n read within f) rule a xs us s =
        fill_reads f rule a xs us (token_step rule a depth xs (x ∷ (ts ++ behind)) us ss n s
        (record { to = ts ++ behind; takes = token read (subst (λ k. Within reach k (x ∷ (ts ++ behind))) (sym (opened_is depth ss)) within) }))
    fill_reads {reach} {depth} {behind} (d.rule {n = n} {ts = ts} {us = ts'} {all = all} {ss = ss} {v = v} {vs = vs} h f ts_are ps_are) rule a xs us s =
        let here = subst (λ l. Step reach rule a depth xs l (items (symbol.Rule n ∷ ss)) us) (behind_is behind all ts ts' ts_are) s in
        let next = rule_step rule a depth xs (ts ++ (ts' ++ behind)) (ts' ++ behind) us v ss n here
        (λ part e. subst (λ k. Made reach part k (ts ++ (ts' ++ behind)) (ts' ++ behind) v) (sym (opened_is depth ss)) (derived_reads h part e)) in
        subst (λ l. Reads reach rule depth xs behind (held rule (made a xs l))) (append_assoc us (v ∷ []) vs) (fill_reads f rule a xs (us ++ v ∷ []) next)
    fill_reads {reach} {depth} {behind} (d.left_out {ss = ss} x n read is) rule a xs us s =
        none_behind rule a depth xs behind us
        (cut_made rule a depth xs behind (items ss) us (cut_behind reach behind is)
        (left_out_step_at rule a depth xs (x ∷ behind) us ss n s (record { token = x; to = behind; are = refl; read = read; is = is })))
    fill_reads {reach} {depth} {behind} (d.close {ts = ts} {ss = ss} f) rule a xs us s = fill_reads f rule a xs us (close_step reach rule a depth xs (ts ++ behind) us ss s)
    fill_reads {depth = depth} {behind} (d.cut {ss = ss} c) rule a xs us s = none_behind rule a depth xs behind us (cut_made rule a depth xs behind (items ss) us c s)

  -- ---- a whole expression, or the beginning of one

  pub whole_reads : {tokens : List Lexed} {ps : List ℕ} {v : RuleValue} → Derived All 0 [] 0 tokens ps v → Reads All r.Expr 0 tokens [] (operand v)
  whole_reads {tokens} {v = v} h = subst (λ l. Reads All r.Expr 0 l [] (operand v)) (append-nil tokens) (derived_reads h r.Expr refl).reads

  -- a rule reads the first tokens, behind which none are derived
  alone : {ending : Ending} {left all : List Lexed} (ts : List Lexed) {v : RuleValue} → all ≡ ts ++ [] → Made (UpTo ending left) r.Expr 0 (ts ++ left) left v →
      Reads (UpTo ending left) r.Expr 0 (all ++ left) left (operand v)
  alone {ending} {left} {all} ts {v} are m = subst (λ l. Reads (UpTo ending left) r.Expr 0 l left (operand v)) (sym (behind_is left all ts [] are)) m.reads

  pub beginning_reads : {ending : Ending} {left first : List Lexed} {ps : List ℕ} {vs : List RuleValue} → Fill (UpTo ending left) 0 left start first ps vs →
      Reads (UpTo ending left) r.Expr 0 (first ++ left) left (operand (top vs))
  beginning_reads (d.rule {ts = ts} h d.none ts_are ps_are) = alone ts ts_are (derived_reads h r.Expr refl)
  beginning_reads (d.rule {ts = ts} h (d.cut c) ts_are ps_are) = alone ts ts_are (derived_reads h r.Expr refl)
  beginning_reads (d.cut c) = reads.Reads.cut c
