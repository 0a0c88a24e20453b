-- What the rules read is derived, as far as the tokens are read.
use Rattle.std.proofs.Common.{◌≡◌, ℕ, suc, ◌+◌, Bool, true, false, List, [], ◌∷◌, ◌++◌, Some, refl, sym, ◌∙◌, ap, subst, arith, append_assoc}
use Rattle.std.specs.Prelude.{slice_get, ⊤}
use Rattle.std.proofs.lemmas.List.{append-nil}
use Rattle.pj_ll.specs.declared.grammar.Symbol.{Symbol}
use Rattle.pj_ll.specs.declared.grammar.Symbol.TheVariants as symbol
use Rattle.pj_ll.specs.Grammar.{closes}
use Rattle.pj_ll.specs.Leads.{start}
use Rattle.pj_xexpressions.specs.declared.operator.Compare.TheVariants as compare
use Rattle.pj_xexpressions.specs.declared.operator.Additive.TheVariants as sum
use Rattle.pj_xexpressions.specs.declared.operator.Multiplicative.TheVariants as product
use Rattle.pj_xexpressions.specs.declared.operator.SetOperator.TheVariants as set
use Rattle.pj_xexpressions.specs.declared.operator.Sign.TheVariants as sign
use Rattle.pj_xexpressions.specs.declared.operator.Quantifier.TheVariants as quantifier
use Rattle.pj_xexpressions.specs.declared.axis.Axis.TheVariants as axes
use Rattle.pj_xexpressions.specs.declared.expr.NodeTest.TheVariants.{Name, AnyName, AnyNode, AnyElement}
use Rattle.pj_xexpressions.specs.Trees as tree
use Rattle.pj_xexpressions.specs.Trees.{alone}
use Rattle.pj_xtokens.specs.Tokens.{Lexed}
use Rattle.pj_xtokens.specs.First.{first_text, first_from}
use Rattle.pj_xgrammar.specs.declared.rule.Rule.{Rule}
use Rattle.pj_xgrammar.specs.declared.rule.Rule.TheVariants as r
use Rattle.pj_xgrammar.specs.Notation.{R, rule_number}
use Rattle.pj_xgrammar.specs.XPath.{xpath, rules, line}
use Rattle.pj_xmeaning.specs.Actions as action
use Rattle.pj_xmeaning.specs.Actions.{actions_of, action_of}
use Rattle.pj_xmeaning.specs.declared.action.Action.{Action}
use Rattle.pj_xreadings.specs.Operands.{Operand, Binding, Next, Test, Called, Predicates, other, chain, mixed, compared, ranging, signed, bound, chosen, variable, rooted, descendants, path, step, child_step, attribute_step, filtered, kind_test, named}
use Rattle.pj_xmeaning.specs.RuleMeanings.{Value, absent}
use Rattle.pj_xmeaning.specs.Parts as part
use Rattle.pj_xmeaning.specs.Parts.{RuleValue, Missing, held}
use Rattle.pj_xmeaning.specs.Values as fold
use Rattle.pj_xmeaning.specs.Values.{made, top, variable_named}
use Rattle.pj_xmeaning.specs.Reach.{Ending, Reach, All, UpTo, IsBefore, IsBehindLeftOut, IsCut, Within}
use Rattle.pj_xmeaning.proofs.Derived as d
use Rattle.pj_xmeaning.proofs.Derived.{Derived, Fill}
use Rattle.pj_xmeaning.specs.Reads.{IsNumbered, Takes, token, IsAmong, left_out_operator, left_out_step, here, further, Reads, by, expr, expr_more, expr_end, for_expr, let_expr, some_expr, every_expr, if_expr, single_or, in_binding, in_more, in_end, let_binding, let_more, let_end, in_clause, assign_clause, return_clause, satisfies_clause, test_clause, then_clause, else_clause, or_expr, or_more, or_end, and_expr, and_more, and_end, comparison_expr, equal, not_equal, less, less_or_equal, greater, greater_or_equal, not_compared, concatenation_expr, concatenation_more, concatenation_end, range_expr, up_to, up_to_cut, no_range, additive_expr, plus, minus, additive_end, multiplicative_expr, times, integer_divide, modulo, multiplicative_end, union_expr, union_more, bar_more, union_end, set_expr, intersect, except, set_end, negative, positive, no_sign, map_expr, map_more, map_end, operand, no_left_out, root, from_root, from_descendants, relative, path_steps, next_step, next_descendants, steps_end, context_item, primary, parent, attribute, axis_name, any_name, node_name, element_name, plain_step, axis_test, axis_call, axis_predicates, name_call, name_predicates, name_test, axis_name_test, any_name_test, node_test, element_test, kind_parentheses, no_parentheses, predicate, no_predicate, integer_expr, string_expr, variable_expr, variable_cut, parenthesized, inside, empty, some_arguments, no_arguments, more_arguments, arguments_end, variable_name, axis_variable, node_variable, element_variable, plain_name}
use Rattle.pj_xmeaning.proofs.Made.{IsThere, made_there, up_to_there, variable_there, made_padded, missing_is}
use Rattle.pj_xmeaning.proofs.Places.{place}
use Rattle.pj_xmeaning.proofs.Taking.{before_cut, begins_before, behind_taken}

-- ---- depths

-- how many things are open before symbols at whose ends so many are
abbrev opened : ℕ → List Symbol → ℕ
opened d [] = d
opened d (symbol.Terminal n ∷ ss) = opened d ss
opened d (symbol.Rule n ∷ ss) = opened d ss
opened d (symbol.LeftOut n ∷ ss) = opened d ss
opened d (symbol.Close ∷ ss) = suc (opened d ss)

opened_is : (d : ℕ) (ss : List Symbol) → opened d ss ≡ d + closes ss
opened_is d [] = omega arith
opened_is d (symbol.Terminal n ∷ ss) = opened_is d ss
opened_is d (symbol.Rule n ∷ ss) = opened_is d ss
opened_is d (symbol.LeftOut n ∷ ss) = opened_is d ss
opened_is d (symbol.Close ∷ ss) = let e = opened_is d ss in omega arith

-- ---- values of rules that are cut off

-- The values of some rules, and with them those of the rules behind these that are cut off, which are missing.
data Padded (us : List RuleValue) : List RuleValue → Type 0 where
  alike : Padded us us
  longer : {vs : List RuleValue} → Padded us vs → Padded us (vs ++ Missing ∷ [])

-- with one more value in front
padded_more : {us vs : List RuleValue} (v : RuleValue) → Padded us vs → Padded (v ∷ us) (v ∷ vs)
padded_more v alike = alike
padded_more v (longer p) = longer (padded_more v p)

-- where all rules are cut off, the one before them may be, too
padded_none : {vs : List RuleValue} → Padded [] vs → Padded [] (Missing ∷ vs)
padded_none alike = longer alike
padded_none (longer p) = longer (padded_none p)

-- an action makes the same of both
same_made : (a : Action) (tokens : List Lexed) {us vs : List RuleValue} → Padded us vs → made a tokens vs ≡ made a tokens us
same_made a tokens alike = refl
same_made a tokens (longer {vs} p) = made_padded a tokens vs ∙ same_made a tokens p

-- ---- what rules and symbols derive

-- the tokens before the rest, derived by the rule
pub record Derives (reach : Reach) (rule : Rule) (depth : ℕ) (xs ys : List Lexed) (v : RuleValue) : Type 0 where
  pub tokens : List Lexed
  pub productions : List ℕ
  pub are : xs ≡ tokens ++ ys
  pub derived : Derived reach depth ys (rule_number rule) tokens productions v

-- What is derived of a rule, with a value that holds the one that it reads; or the rule is cut off.
pub data Got (reach : Reach) (rule : Rule) (depth : ℕ) : List Lexed → List Lexed → Value rule → Type 0 where
  derived : {xs ys : List Lexed} {v : Value rule} (value : RuleValue) → IsBefore reach xs → Derives reach rule depth xs ys value → IsThere value → held rule value ≡ v →
      Got reach rule depth xs ys v
  cut : {xs : List Lexed} → IsCut reach xs → Got reach rule depth xs xs (absent rule)

-- what is made of the derivation, if there is one
abbrev value_of : {reach : Reach} {rule : Rule} {depth : ℕ} {xs ys : List Lexed} {v : Value rule} → Got reach rule depth xs ys v → RuleValue
value_of (derived value before is there e) = value
value_of (cut e) = Missing

held_is : {reach : Reach} {rule : Rule} {depth : ℕ} {xs ys : List Lexed} {v : Value rule} (g : Got reach rule depth xs ys v) → held rule (value_of g) ≡ v
held_is (derived value before is there e) = e
held_is {rule = rule} (cut e) = missing_is rule

-- symbols that are cut off derive no tokens, and the rules among them have no values
record Nowhere (xs ys : List Lexed) (vs : List RuleValue) : Type 0 where
  same : xs ≡ ys
  no_values : Padded [] vs

-- The tokens before the rest, derived by the symbols. Those that are cut off stand behind the others, so that none follows where the first is.
record Filled (reach : Reach) (depth : ℕ) (xs ys : List Lexed) (ss : List Symbol) (vs : List RuleValue) : Type 0 where
  tokens : List Lexed
  productions : List ℕ
  values : List RuleValue
  are : xs ≡ tokens ++ ys
  fill : Fill reach depth ys ss tokens productions values
  values_are : Padded values vs
  cut_off : IsCut reach xs → Nowhere xs ys vs

end : {reach : Reach} {depth : ℕ} {ys : List Lexed} → Filled reach depth ys ys [] []
end = record {
  tokens = [];
  productions = [];
  values = [];
  are = refl;
  fill = d.none;
  values_are = alike;
  cut_off = λ e. record { same = refl; no_values = alike };
}

-- any symbols that are cut off
nowhere : {reach : Reach} {depth : ℕ} {xs ys : List Lexed} {ss : List Symbol} {vs : List RuleValue} → IsCut reach xs → Nowhere xs ys vs → Filled reach depth xs ys ss vs
nowhere {reach} e none = record {
  tokens = [];
  productions = [];
  values = [];
  are = none.same;
  fill = d.Fill.cut (subst (λ l. IsCut reach l) none.same e);
  values_are = none.no_values;
  cut_off = λ again. none;
}

tok : {reach : Reach} {depth n : ℕ} {xs ys zs : List Lexed} {ss : List Symbol} {vs : List RuleValue} → Takes reach (opened depth ss) (symbol.Terminal n) xs ys →
    Filled reach depth ys zs ss vs → Filled reach depth xs zs (symbol.Terminal n ∷ ss) vs
tok {reach} {depth} {n} {zs = zs} {ss} (token {x} {xs} read within) f = record {
  tokens = x ∷ f.tokens;
  productions = f.productions;
  values = f.values;
  are = ap (λ l. x ∷ l) f.are;
  fill = d.token x n (subst (λ l. IsNumbered x l n) f.are read)
      (subst (λ k. Within reach k (x ∷ (f.tokens ++ zs))) (opened_is depth ss) (subst (λ l. Within reach (opened depth ss) (x ∷ l)) f.are within)) f.fill;
  values_are = f.values_are;
  cut_off = λ e. absurd (before_cut reach (opened depth ss) (x ∷ xs) within e);
}
tok (Takes.cut e) f = nowhere e (f.cut_off e)

rul : (rule : Rule) {reach : Reach} {depth : ℕ} {v : Value rule} {xs ys zs : List Lexed} {ss : List Symbol} {vs : List RuleValue} →
    (g : Got reach rule (opened depth ss) xs ys v) → Filled reach depth ys zs ss vs → Filled reach depth xs zs (R rule ∷ ss) (value_of g ∷ vs)
rul rule {reach} {depth} {zs = zs} {ss} (derived value before is there e) f = record {
  tokens = is.tokens ++ f.tokens;
  productions = is.productions ++ f.productions;
  values = value ∷ f.values;
  are = is.are ∙ ap (λ l. is.tokens ++ l) f.are ∙ sym (append_assoc is.tokens f.tokens zs);
  fill = d.rule
      (subst (λ k. Derived reach k (f.tokens ++ zs) (rule_number rule) is.tokens is.productions value) (opened_is depth ss)
      (subst (λ l. Derived reach (opened depth ss) l (rule_number rule) is.tokens is.productions value) f.are is.derived))
      f.fill refl refl;
  values_are = padded_more value f.values_are;
  cut_off = λ c. absurd (before c);
}
rul rule (cut e) f = let none = f.cut_off e in nowhere e (record { same = none.same; no_values = padded_none none.no_values })

out : {reach : Reach} {depth n : ℕ} {x : Lexed} {xs : List Lexed} → IsNumbered x xs n → IsBehindLeftOut reach xs → Filled reach depth (x ∷ xs) xs (symbol.LeftOut n ∷ []) []
out {reach} {n = n} {x} {xs} read is = record {
  tokens = x ∷ [];
  productions = [];
  values = [];
  are = refl;
  fill = d.left_out x n read is;
  values_are = alike;
  cut_off = λ e. absurd (begins_before reach x xs is e);
}

clo : {reach : Reach} {depth : ℕ} {xs ys : List Lexed} {ss : List Symbol} {vs : List RuleValue} → Filled reach depth xs ys ss vs → Filled reach depth xs ys (symbol.Close ∷ ss) vs
clo f = record {
  tokens = f.tokens;
  productions = f.productions;
  values = f.values;
  are = f.are;
  fill = d.close f.fill;
  values_are = f.values_are;
  cut_off = f.cut_off;
}

-- ---- a name

-- each of the actions makes a word
AreWords : List (List Symbol) → List Action → Type 0
AreWords [] [] = ⊤
AreWords [] (a ∷ more) = ⊥
AreWords (ss ∷ sss) [] = ⊥
AreWords (ss ∷ sss) (a ∷ more) = (a ≡ action.word) × AreWords sss more

are_words : AreWords (xpath r.PlainName) (actions_of r.PlainName)
unfolding AreWords xpath actions_of
are_words = (refl, (refl, (refl, (refl, (refl, (refl, (refl, (refl, (refl, (refl, (refl, (refl, (refl, (refl, (refl, (refl, (refl, (refl, (refl, (refl, (refl, (refl, tt))))))))))))))))))))))

record WordAt (s : Symbol) (sss : List (List Symbol)) (acts : List Action) : Type 0 where
  at : ℕ
  line_there : slice_get sss at ≡ Some (s ∷ [])
  action_there : slice_get acts at ≡ Some action.word

word_at : (s : Symbol) (sss : List (List Symbol)) (given : List Action) → AreWords sss given → IsAmong s sss → WordAt s sss given
unfolding AreWords
word_at s [] given w among = elim among [ ]
word_at s (ss ∷ sss) [] w among = absurd w
word_at s (ss ∷ sss) (a ∷ given) w here = record { at = 0; line_there = refl; action_there = ap Some w.0 }
word_at s (ss ∷ sss) (a ∷ given) w (further more) =
    let h = word_at s sss given w.1 more in
    record { at = suc h.at; line_there = h.line_there; action_there = h.action_there }

-- ---- what is left out

-- a production that is a construct that is left out alone
is_left_out : List Symbol → Bool
is_left_out (symbol.LeftOut n ∷ []) = true
is_left_out _ = false

-- each of these has the action of one
AreLeftOut : List (List Symbol) → List Action → Type 0
AreLeftOut [] given = ⊤
AreLeftOut (ss ∷ sss) [] = ⊥
AreLeftOut (ss ∷ sss) (a ∷ more) = (is_left_out ss ≡ true → a ≡ action.left_out) × AreLeftOut sss more

operators_left_out : AreLeftOut (xpath r.LeftOutOperator) (actions_of r.LeftOutOperator)
unfolding AreLeftOut xpath actions_of
operators_left_out = (λ e. refl, (λ e. refl, (λ e. refl, (λ e. refl, (λ e. refl, (λ e. refl, (λ e. refl, (λ e. refl, (λ e. refl, (λ e. refl, (λ e. refl, (λ e. refl, (λ e. refl, (λ e. refl, (λ e. refl, (λ e. refl, (λ e. refl, (λ e. refl, (λ e. refl, tt)))))))))))))))))))

steps_left_out : AreLeftOut (xpath r.StepExpr) (actions_of r.StepExpr)
unfolding AreLeftOut is_left_out xpath actions_of
steps_left_out = (λ e. absurd (let z = e in cc), (λ e. absurd (let z = e in cc), (λ e. absurd (let z = e in cc), (λ e. absurd (let z = e in cc), (λ e. absurd (let z = e in cc), (λ e. absurd (let z = e in cc), (λ e. absurd (let z = e in cc), (λ e. absurd (let z = e in cc), (λ e. absurd (let z = e in cc), (λ e. refl, (λ e. refl, (λ e. refl, (λ e. refl, (λ e. refl, (λ e. refl, (λ e. refl, tt))))))))))))))))

record LeftOutAt (n : ℕ) (sss : List (List Symbol)) (acts : List Action) : Type 0 where
  at : ℕ
  line_there : slice_get sss at ≡ Some (symbol.LeftOut n ∷ [])
  action_there : slice_get acts at ≡ Some action.left_out

left_out_at : (n : ℕ) (sss : List (List Symbol)) (given : List Action) → AreLeftOut sss given → IsAmong (symbol.LeftOut n) sss → LeftOutAt n sss given
unfolding AreLeftOut is_left_out
left_out_at n [] given w among = elim among [ ]
left_out_at n (ss ∷ sss) [] w among = absurd w
left_out_at n (_ ∷ sss) (a ∷ given) w here = record { at = 0; line_there = refl; action_there = ap Some (w.0 refl) }
left_out_at n (_ ∷ sss) (a ∷ given) w (further more) =
    let h = left_out_at n sss given w.1 more in
    record { at = suc h.at; line_there = h.line_there; action_there = h.action_there }

-- ---- values of the relation

ap2 : {A B C : Type 0} (f : A → B → C) {a b : A} {c d : B} → a ≡ b → c ≡ d → f a c ≡ f b d
ap2 f {a} {d = d} e g = ap (f a) g ∙ ap (λ x. f x d) e

ap3 : {A B C D : Type 0} (f : A → B → C → D) {a b : A} {c d : B} {x y : C} → a ≡ b → c ≡ d → x ≡ y → f a c x ≡ f b d y
ap3 f {a} {b} {d = d} {y = y} e g h = ap2 (f a) g h ∙ ap (λ z. f z d y) e

-- a variable before others
abbrev binding_before : List ℕ → Operand → List Binding → List Binding
binding_before word a more = record { name = word; bound = a } ∷ more

-- the operand behind `to`
range_held : {reach : Reach} {depth : ℕ} {xs ys : List Lexed} {a : Operand} (g : Got reach r.AdditiveExpr depth xs ys a) → IsBefore reach xs → fold.up_to (value_of g) ≡ Some a
range_held (derived value before is there e) b = up_to_there value there ∙ ap Some e
range_held (cut c) b = absurd (b c)

-- the variable with the name behind `$`
variable_held : {reach : Reach} {depth : ℕ} {xs ys : List Lexed} {word : List ℕ} (tokens : List Lexed) (g : Got reach r.VarName depth xs ys word) → IsBefore reach xs →
    variable_named tokens (value_of g) ≡ variable tokens word
variable_held tokens (derived value before is there e) b = variable_there tokens value there ∙ ap (variable tokens) e
variable_held tokens (cut c) b = absurd (b c)

-- ---- productions

-- where each rule stands at its number
module _ (rule_at : (rule : Rule) → slice_get rules (rule_number rule) ≡ Some rule) where
  -- by the production at a place among those of the rule
  got : {reach : Reach} {xs : List Lexed} → IsBefore reach xs → (rule : Rule) (i : ℕ) {depth : ℕ} {ys : List Lexed} {v : Value rule} {ss : List Symbol} {a : Action} {vs : List RuleValue} →
      slice_get (xpath rule) i ≡ Some ss → slice_get (actions_of rule) i ≡ Some a → Filled reach depth xs ys ss vs → held rule (made a xs vs) ≡ v → Got reach rule depth xs ys v
  got {reach} {xs} b rule i {depth} {ys} {v} {ss} {a} {vs} e g f is =
      let p = place rule_at rule i ss a e g in
      derived (made a xs vs) b
      (record {
        tokens = f.tokens;
        productions = p.production ∷ f.productions;
        are = f.are;
        derived = d.Derived.by p.production (line rule ss) (subst (λ l. IsBefore reach l) f.are b) p.line_is refl f.fill refl
            (same_made a xs f.values_are ∙ ap (λ b. made b xs f.values) (sym p.action_is) ∙ ap (λ l. made (action_of p.production) l f.values) f.are);
      })
      (made_there a xs vs) is

  plain_derives : {reach : Reach} {depth : ℕ} {xs ys : List Lexed} {s : Symbol} → IsBefore reach xs → IsAmong s (xpath r.PlainName) → Takes reach depth s xs ys →
      Got reach r.PlainName depth xs ys (first_text xs)
  plain_derives {s = s} b among (token {number = n} read within) =
      let h = word_at s (xpath r.PlainName) (actions_of r.PlainName) are_words among in
      got b r.PlainName h.at h.line_there h.action_there (tok (token read within) end) refl
  plain_derives b among (Takes.cut e) = absurd (b e)

  -- ---- all rules

  pub reads_derive : {reach : Reach} {rule : Rule} {depth : ℕ} {xs ys : List Lexed} {v : Value rule} → Reads reach rule depth xs ys v → Got reach rule depth xs ys v
  unfolding xpath actions_of
  reads_derive (by b (expr a0 a1)) =
      let g0 = reads_derive a0 in let g1 = reads_derive a1 in
      got b r.Expr 0 refl refl (rul r.ExprSingle g0 (rul r.ExprTail g1 end)) (ap2 (chain tree.Comma) (held_is g0) (held_is g1))
  reads_derive (by b (expr_more k0 a1 a2)) =
      let g1 = reads_derive a1 in let g2 = reads_derive a2 in
      got b r.ExprTail 0 refl refl (tok k0 (rul r.ExprSingle g1 (rul r.ExprTail g2 end))) (ap2 (λ first more. first ∷ more) (held_is g1) (held_is g2))
  reads_derive (by b expr_end) = got b r.ExprTail 1 refl refl end refl
  reads_derive (by b (for_expr k0 a1 a2)) =
      let g1 = reads_derive a1 in let g2 = reads_derive a2 in
      got b r.ExprSingle 0 refl refl (tok k0 (rul r.InBindings g1 (rul r.ReturnClause g2 end))) (ap2 (bound tree.For) (held_is g1) (held_is g2))
  reads_derive (by b (let_expr k0 a1 a2)) =
      let g1 = reads_derive a1 in let g2 = reads_derive a2 in
      got b r.ExprSingle 1 refl refl (tok k0 (rul r.LetBindings g1 (rul r.ReturnClause g2 end))) (ap2 (bound tree.Let) (held_is g1) (held_is g2))
  reads_derive (by b (some_expr k0 a1 a2)) =
      let g1 = reads_derive a1 in let g2 = reads_derive a2 in
      got b r.ExprSingle 2 refl refl (tok k0 (rul r.InBindings g1 (rul r.SatisfiesClause g2 end))) (ap2 (bound (tree.Quantified quantifier.Some)) (held_is g1) (held_is g2))
  reads_derive (by b (every_expr k0 a1 a2)) =
      let g1 = reads_derive a1 in let g2 = reads_derive a2 in
      got b r.ExprSingle 3 refl refl (tok k0 (rul r.InBindings g1 (rul r.SatisfiesClause g2 end))) (ap2 (bound (tree.Quantified quantifier.Every)) (held_is g1) (held_is g2))
  reads_derive (by b (if_expr k0 a1 a2 a3)) =
      let g1 = reads_derive a1 in let g2 = reads_derive a2 in let g3 = reads_derive a3 in
      got b r.ExprSingle 4 refl refl (tok k0 (rul r.TestClause g1 (rul r.ThenClause g2 (rul r.ElseClause g3 end)))) (ap3 chosen (held_is g1) (held_is g2) (held_is g3))
  reads_derive (by b (single_or a0)) = let g = reads_derive a0 in got b r.ExprSingle 5 refl refl (rul r.OrExpr g end) (held_is g)
  reads_derive (by b (in_binding k0 a1 a2 a3)) =
      let g1 = reads_derive a1 in let g2 = reads_derive a2 in let g3 = reads_derive a3 in
      got b r.InBindings 0 refl refl (tok k0 (rul r.VarName g1 (rul r.InClause g2 (rul r.InBindingsTail g3 end)))) (ap3 binding_before (held_is g1) (held_is g2) (held_is g3))
  reads_derive (by b (in_more k0 a1)) = let g = reads_derive a1 in got b r.InBindingsTail 0 refl refl (tok k0 (rul r.InBindings g end)) (held_is g)
  reads_derive (by b in_end) = got b r.InBindingsTail 1 refl refl end refl
  reads_derive (by b (let_binding k0 a1 a2 a3)) =
      let g1 = reads_derive a1 in let g2 = reads_derive a2 in let g3 = reads_derive a3 in
      got b r.LetBindings 0 refl refl (tok k0 (rul r.VarName g1 (rul r.AssignClause g2 (rul r.LetBindingsTail g3 end)))) (ap3 binding_before (held_is g1) (held_is g2) (held_is g3))
  reads_derive (by b (let_more k0 a1)) = let g = reads_derive a1 in got b r.LetBindingsTail 0 refl refl (tok k0 (rul r.LetBindings g end)) (held_is g)
  reads_derive (by b let_end) = got b r.LetBindingsTail 1 refl refl end refl
  reads_derive (by b (in_clause k0 a1)) = let g = reads_derive a1 in got b r.InClause 0 refl refl (tok k0 (rul r.ExprSingle g (clo end))) (held_is g)
  reads_derive (by b (assign_clause k0 a1)) = let g = reads_derive a1 in got b r.AssignClause 0 refl refl (tok k0 (rul r.ExprSingle g (clo end))) (held_is g)
  reads_derive (by b (return_clause k0 a1)) = let g = reads_derive a1 in got b r.ReturnClause 0 refl refl (tok k0 (rul r.ExprSingle g (clo end))) (held_is g)
  reads_derive (by b (satisfies_clause k0 a1)) = let g = reads_derive a1 in got b r.SatisfiesClause 0 refl refl (tok k0 (rul r.ExprSingle g (clo end))) (held_is g)
  reads_derive (by b (test_clause k0 a1 k2)) = let g = reads_derive a1 in got b r.TestClause 0 refl refl (tok k0 (rul r.Expr g (clo (tok k2 end)))) (held_is g)
  reads_derive (by b (then_clause k0 a1)) = let g = reads_derive a1 in got b r.ThenClause 0 refl refl (tok k0 (rul r.ExprSingle g (clo end))) (held_is g)
  reads_derive (by b (else_clause k0 a1)) = let g = reads_derive a1 in got b r.ElseClause 0 refl refl (tok k0 (rul r.ExprSingle g (clo end))) (held_is g)
  reads_derive (by b (or_expr a0 a1)) =
      let g0 = reads_derive a0 in let g1 = reads_derive a1 in
      got b r.OrExpr 0 refl refl (rul r.AndExpr g0 (rul r.OrTail g1 end)) (ap2 (chain tree.Or) (held_is g0) (held_is g1))
  reads_derive (by b (or_more k0 a1 a2)) =
      let g1 = reads_derive a1 in let g2 = reads_derive a2 in
      got b r.OrTail 0 refl refl (tok k0 (rul r.AndExpr g1 (rul r.OrTail g2 end))) (ap2 (λ first more. first ∷ more) (held_is g1) (held_is g2))
  reads_derive (by b or_end) = got b r.OrTail 1 refl refl end refl
  reads_derive (by b (and_expr a0 a1)) =
      let g0 = reads_derive a0 in let g1 = reads_derive a1 in
      got b r.AndExpr 0 refl refl (rul r.ComparisonExpr g0 (rul r.AndTail g1 end)) (ap2 (chain tree.And) (held_is g0) (held_is g1))
  reads_derive (by b (and_more k0 a1 a2)) =
      let g1 = reads_derive a1 in let g2 = reads_derive a2 in
      got b r.AndTail 0 refl refl (tok k0 (rul r.ComparisonExpr g1 (rul r.AndTail g2 end))) (ap2 (λ first more. first ∷ more) (held_is g1) (held_is g2))
  reads_derive (by b and_end) = got b r.AndTail 1 refl refl end refl
  reads_derive (by b (comparison_expr a0 a1)) =
      let g0 = reads_derive a0 in let g1 = reads_derive a1 in
      got b r.ComparisonExpr 0 refl refl (rul r.StringConcatExpr g0 (rul r.ComparisonTail g1 end)) (ap2 compared (held_is g0) (held_is g1))
  reads_derive (by b (equal k0 a1)) = let g = reads_derive a1 in got b r.ComparisonTail 0 refl refl (tok k0 (rul r.StringConcatExpr g end)) (ap (λ a. Some (compare.Equal, a)) (held_is g))
  reads_derive (by b (not_equal k0 a1)) = let g = reads_derive a1 in got b r.ComparisonTail 1 refl refl (tok k0 (rul r.StringConcatExpr g end)) (ap (λ a. Some (compare.NotEqual, a)) (held_is g))
  reads_derive (by b (less k0 a1)) = let g = reads_derive a1 in got b r.ComparisonTail 2 refl refl (tok k0 (rul r.StringConcatExpr g end)) (ap (λ a. Some (compare.Less, a)) (held_is g))
  reads_derive (by b (less_or_equal k0 a1)) = let g = reads_derive a1 in got b r.ComparisonTail 3 refl refl (tok k0 (rul r.StringConcatExpr g end)) (ap (λ a. Some (compare.LessOrEqual, a)) (held_is g))
  reads_derive (by b (greater k0 a1)) = let g = reads_derive a1 in got b r.ComparisonTail 4 refl refl (tok k0 (rul r.StringConcatExpr g end)) (ap (λ a. Some (compare.Greater, a)) (held_is g))
  reads_derive (by b (greater_or_equal k0 a1)) = let g = reads_derive a1 in got b r.ComparisonTail 5 refl refl (tok k0 (rul r.StringConcatExpr g end)) (ap (λ a. Some (compare.GreaterOrEqual, a)) (held_is g))
  reads_derive (by b not_compared) = got b r.ComparisonTail 6 refl refl end refl
  reads_derive (by b (concatenation_expr a0 a1)) =
      let g0 = reads_derive a0 in let g1 = reads_derive a1 in
      got b r.StringConcatExpr 0 refl refl (rul r.RangeExpr g0 (rul r.StringConcatTail g1 end)) (ap2 (chain tree.Concatenation) (held_is g0) (held_is g1))
  reads_derive (by b (concatenation_more k0 a1 a2)) =
      let g1 = reads_derive a1 in let g2 = reads_derive a2 in
      got b r.StringConcatTail 0 refl refl (tok k0 (rul r.RangeExpr g1 (rul r.StringConcatTail g2 end))) (ap2 (λ first more. first ∷ more) (held_is g1) (held_is g2))
  reads_derive (by b concatenation_end) = got b r.StringConcatTail 1 refl refl end refl
  reads_derive (by b (range_expr a0 a1)) =
      let g0 = reads_derive a0 in let g1 = reads_derive a1 in
      got b r.RangeExpr 0 refl refl (rul r.AdditiveExpr g0 (rul r.RangeTail g1 end)) (ap2 ranging (held_is g0) (held_is g1))
  reads_derive (by b (up_to k0 c a1)) = let g = reads_derive a1 in got b r.RangeTail 0 refl refl (tok k0 (rul r.AdditiveExpr g end)) (range_held g c)
  reads_derive (by b (up_to_cut k0 c)) = got b r.RangeTail 0 refl refl (tok k0 (rul r.AdditiveExpr (cut c) end)) refl
  reads_derive (by b no_range) = got b r.RangeTail 1 refl refl end refl
  reads_derive (by b (additive_expr a0 a1)) =
      let g0 = reads_derive a0 in let g1 = reads_derive a1 in
      got b r.AdditiveExpr 0 refl refl (rul r.MultiplicativeExpr g0 (rul r.AdditiveTail g1 end)) (ap2 (mixed tree.Additive') (held_is g0) (held_is g1))
  reads_derive (by b (plus k0 a1 a2)) =
      let g1 = reads_derive a1 in let g2 = reads_derive a2 in
      got b r.AdditiveTail 0 refl refl (tok k0 (rul r.MultiplicativeExpr g1 (rul r.AdditiveTail g2 end))) (ap2 (λ a more. (sum.Plus, a) ∷ more) (held_is g1) (held_is g2))
  reads_derive (by b (minus k0 a1 a2)) =
      let g1 = reads_derive a1 in let g2 = reads_derive a2 in
      got b r.AdditiveTail 1 refl refl (tok k0 (rul r.MultiplicativeExpr g1 (rul r.AdditiveTail g2 end))) (ap2 (λ a more. (sum.Minus, a) ∷ more) (held_is g1) (held_is g2))
  reads_derive (by b additive_end) = got b r.AdditiveTail 2 refl refl end refl
  reads_derive (by b (multiplicative_expr a0 a1)) =
      let g0 = reads_derive a0 in let g1 = reads_derive a1 in
      got b r.MultiplicativeExpr 0 refl refl (rul r.UnionExpr g0 (rul r.MultiplicativeTail g1 end)) (ap2 (mixed tree.Multiplicative') (held_is g0) (held_is g1))
  reads_derive (by b (times k0 a1 a2)) =
      let g1 = reads_derive a1 in let g2 = reads_derive a2 in
      got b r.MultiplicativeTail 0 refl refl (tok k0 (rul r.UnionExpr g1 (rul r.MultiplicativeTail g2 end))) (ap2 (λ a more. (product.Times, a) ∷ more) (held_is g1) (held_is g2))
  reads_derive (by b (integer_divide k0 a1 a2)) =
      let g1 = reads_derive a1 in let g2 = reads_derive a2 in
      got b r.MultiplicativeTail 1 refl refl (tok k0 (rul r.UnionExpr g1 (rul r.MultiplicativeTail g2 end))) (ap2 (λ a more. (product.IntegerDivide, a) ∷ more) (held_is g1) (held_is g2))
  reads_derive (by b (modulo k0 a1 a2)) =
      let g1 = reads_derive a1 in let g2 = reads_derive a2 in
      got b r.MultiplicativeTail 2 refl refl (tok k0 (rul r.UnionExpr g1 (rul r.MultiplicativeTail g2 end))) (ap2 (λ a more. (product.Modulo, a) ∷ more) (held_is g1) (held_is g2))
  reads_derive (by b multiplicative_end) = got b r.MultiplicativeTail 3 refl refl end refl
  reads_derive (by b (union_expr a0 a1)) =
      let g0 = reads_derive a0 in let g1 = reads_derive a1 in
      got b r.UnionExpr 0 refl refl (rul r.IntersectExceptExpr g0 (rul r.UnionTail g1 end)) (ap2 (chain tree.Union) (held_is g0) (held_is g1))
  reads_derive (by b (union_more k0 a1 a2)) =
      let g1 = reads_derive a1 in let g2 = reads_derive a2 in
      got b r.UnionTail 0 refl refl (tok k0 (rul r.IntersectExceptExpr g1 (rul r.UnionTail g2 end))) (ap2 (λ first more. first ∷ more) (held_is g1) (held_is g2))
  reads_derive (by b (bar_more k0 a1 a2)) =
      let g1 = reads_derive a1 in let g2 = reads_derive a2 in
      got b r.UnionTail 1 refl refl (tok k0 (rul r.IntersectExceptExpr g1 (rul r.UnionTail g2 end))) (ap2 (λ first more. first ∷ more) (held_is g1) (held_is g2))
  reads_derive (by b union_end) = got b r.UnionTail 2 refl refl end refl
  reads_derive (by b (set_expr a0 a1)) =
      let g0 = reads_derive a0 in let g1 = reads_derive a1 in
      got b r.IntersectExceptExpr 0 refl refl (rul r.UnaryExpr g0 (rul r.IntersectExceptTail g1 end)) (ap2 (mixed tree.IntersectExcept) (held_is g0) (held_is g1))
  reads_derive (by b (intersect k0 a1 a2)) =
      let g1 = reads_derive a1 in let g2 = reads_derive a2 in
      got b r.IntersectExceptTail 0 refl refl (tok k0 (rul r.UnaryExpr g1 (rul r.IntersectExceptTail g2 end))) (ap2 (λ a more. (set.Intersect, a) ∷ more) (held_is g1) (held_is g2))
  reads_derive (by b (except k0 a1 a2)) =
      let g1 = reads_derive a1 in let g2 = reads_derive a2 in
      got b r.IntersectExceptTail 1 refl refl (tok k0 (rul r.UnaryExpr g1 (rul r.IntersectExceptTail g2 end))) (ap2 (λ a more. (set.Except, a) ∷ more) (held_is g1) (held_is g2))
  reads_derive (by b set_end) = got b r.IntersectExceptTail 2 refl refl end refl
  reads_derive (by b (negative k0 a1)) = let g = reads_derive a1 in got b r.UnaryExpr 0 refl refl (tok k0 (rul r.UnaryExpr g (clo end))) (ap (signed sign.Minus) (held_is g))
  reads_derive (by b (positive k0 a1)) = let g = reads_derive a1 in got b r.UnaryExpr 1 refl refl (tok k0 (rul r.UnaryExpr g (clo end))) (ap (signed sign.Plus) (held_is g))
  reads_derive (by b (no_sign a0)) = let g = reads_derive a0 in got b r.UnaryExpr 2 refl refl (rul r.SimpleMapExpr g end) (held_is g)
  reads_derive (by b (map_expr a0 a1)) =
      let g0 = reads_derive a0 in let g1 = reads_derive a1 in
      got b r.SimpleMapExpr 0 refl refl (rul r.Operand g0 (rul r.SimpleMapTail g1 end)) (ap2 (chain tree.SimpleMap) (held_is g0) (held_is g1))
  reads_derive (by b (map_more k0 a1 a2)) =
      let g1 = reads_derive a1 in let g2 = reads_derive a2 in
      got b r.SimpleMapTail 0 refl refl (tok k0 (rul r.Operand g1 (rul r.SimpleMapTail g2 end))) (ap2 (λ first more. first ∷ more) (held_is g1) (held_is g2))
  reads_derive (by b map_end) = got b r.SimpleMapTail 1 refl refl end refl
  reads_derive (by b (operand a0 a1)) =
      let g0 = reads_derive a0 in let g1 = reads_derive a1 in
      got b r.Operand 0 refl refl (rul r.PathExpr g0 (rul r.LeftOutOperator g1 end)) (held_is g0)
  reads_derive (by b (left_out_operator {number = n} among read is)) =
      let h = left_out_at n (xpath r.LeftOutOperator) (actions_of r.LeftOutOperator) operators_left_out among in
      got b r.LeftOutOperator h.at h.line_there h.action_there (out read is) refl
  reads_derive (by b no_left_out) = got b r.LeftOutOperator 18 refl refl end refl
  reads_derive (by b (root k0)) = got b r.PathExpr 0 refl refl (tok k0 end) refl
  reads_derive (by b (from_root k0 a1)) = let g = reads_derive a1 in got b r.PathExpr 1 refl refl (tok k0 (rul r.RelativePathExpr g end)) (ap rooted (held_is g))
  reads_derive (by b (from_descendants k0 a1)) = let g = reads_derive a1 in got b r.PathExpr 2 refl refl (tok k0 (rul r.RelativePathExpr g end)) (ap (λ steps. rooted (descendants ∷ steps)) (held_is g))
  reads_derive (by b (relative a0)) = let g = reads_derive a0 in got b r.PathExpr 3 refl refl (rul r.RelativePathExpr g end) (ap path (held_is g))
  reads_derive (by b (path_steps a0 a1)) =
      let g0 = reads_derive a0 in let g1 = reads_derive a1 in
      got b r.RelativePathExpr 0 refl refl (rul r.StepExpr g0 (rul r.RelativePathTail g1 end)) (ap2 (λ first more. first ∷ more) (held_is g0) (held_is g1))
  reads_derive (by b (next_step k0 a1 a2)) =
      let g1 = reads_derive a1 in let g2 = reads_derive a2 in
      got b r.RelativePathTail 0 refl refl (tok k0 (rul r.StepExpr g1 (rul r.RelativePathTail g2 end))) (ap2 (λ first more. first ∷ more) (held_is g1) (held_is g2))
  reads_derive (by b (next_descendants k0 a1 a2)) =
      let g1 = reads_derive a1 in let g2 = reads_derive a2 in
      got b r.RelativePathTail 1 refl refl (tok k0 (rul r.StepExpr g1 (rul r.RelativePathTail g2 end))) (ap2 (λ first more. descendants ∷ first ∷ more) (held_is g1) (held_is g2))
  reads_derive (by b steps_end) = got b r.RelativePathTail 2 refl refl end refl
  reads_derive (by b (context_item k0 a1)) = let g = reads_derive a1 in got b r.StepExpr 0 refl refl (tok k0 (rul r.PredicateList g end)) (ap (filtered (other (alone tree.ContextItem) [])) (held_is g))
  reads_derive (by b (primary a0 a1)) =
      let g0 = reads_derive a0 in let g1 = reads_derive a1 in
      got b r.StepExpr 1 refl refl (rul r.PrimaryExpr g0 (rul r.PredicateList g1 end)) (ap2 filtered (held_is g0) (held_is g1))
  reads_derive (by b (parent k0 a1)) = let g = reads_derive a1 in got b r.StepExpr 2 refl refl (tok k0 (rul r.PredicateList g end)) (ap (step axes.Parent AnyNode) (held_is g))
  reads_derive (by b (attribute k0 a1 a2)) =
      let g1 = reads_derive a1 in let g2 = reads_derive a2 in
      got b r.StepExpr 3 refl refl (tok k0 (rul r.NodeTest g1 (rul r.PredicateList g2 end))) (ap2 attribute_step (held_is g1) (held_is g2))
  reads_derive (by b (axis_name {xs = xs} k0 a1)) = let g = reads_derive a1 in got b r.StepExpr 4 refl refl (tok k0 (rul r.AxisTail g end)) (ap (named xs (first_text xs)) (held_is g))
  reads_derive (by b (any_name k0 a1)) = let g = reads_derive a1 in got b r.StepExpr 5 refl refl (tok k0 (rul r.PredicateList g end)) (ap (child_step AnyName) (held_is g))
  reads_derive (by b (node_name {xs = xs} k0 a1 a2)) =
      let g1 = reads_derive a1 in let g2 = reads_derive a2 in
      got b r.StepExpr 6 refl refl (tok k0 (rul r.KindTail g1 (rul r.PredicateList g2 end))) (ap2 (λ there predicates. child_step (kind_test AnyNode (first_text xs) there) predicates) (held_is g1) (held_is g2))
  reads_derive (by b (element_name {xs = xs} k0 a1 a2)) =
      let g1 = reads_derive a1 in let g2 = reads_derive a2 in
      got b r.StepExpr 7 refl refl (tok k0 (rul r.KindTail g1 (rul r.PredicateList g2 end))) (ap2 (λ there predicates. child_step (kind_test AnyElement (first_text xs) there) predicates) (held_is g1) (held_is g2))
  reads_derive (by b (plain_step {xs = xs} a0 a1)) =
      let g0 = reads_derive a0 in let g1 = reads_derive a1 in
      got b r.StepExpr 8 refl refl (rul r.PlainName g0 (rul r.NameTail g1 end)) (ap2 (named xs) (held_is g0) (held_is g1))
  reads_derive (by b (left_out_step {number = n} among read is)) =
      let h = left_out_at n (xpath r.StepExpr) (actions_of r.StepExpr) steps_left_out among in
      got b r.StepExpr h.at h.line_there h.action_there (out read is) refl
  reads_derive (by b (axis_test k0 a1 a2)) =
      let g1 = reads_derive a1 in let g2 = reads_derive a2 in
      got b r.AxisTail 0 refl refl (tok k0 (rul r.NodeTest g1 (rul r.PredicateList g2 end))) (ap2 Test (held_is g1) (held_is g2))
  reads_derive (by b (axis_call k0 a1 k2 a3)) =
      let g1 = reads_derive a1 in let g3 = reads_derive a3 in
      got b r.AxisTail 1 refl refl (tok k0 (rul r.Arguments g1 (clo (tok k2 (rul r.PredicateList g3 end))))) (ap2 Called (held_is g1) (held_is g3))
  reads_derive (by b (axis_predicates a0)) = let g = reads_derive a0 in got b r.AxisTail 2 refl refl (rul r.PredicateList g end) (ap Predicates (held_is g))
  reads_derive (by b (name_call k0 a1 k2 a3)) =
      let g1 = reads_derive a1 in let g3 = reads_derive a3 in
      got b r.NameTail 0 refl refl (tok k0 (rul r.Arguments g1 (clo (tok k2 (rul r.PredicateList g3 end))))) (ap2 Called (held_is g1) (held_is g3))
  reads_derive (by b (name_predicates a0)) = let g = reads_derive a0 in got b r.NameTail 1 refl refl (rul r.PredicateList g end) (ap Predicates (held_is g))
  reads_derive (by b (name_test a0)) = let g = reads_derive a0 in got b r.NodeTest 0 refl refl (rul r.PlainName g end) (ap Name (held_is g))
  reads_derive (by b (axis_name_test k0)) = got b r.NodeTest 1 refl refl (tok k0 end) refl
  reads_derive (by b (any_name_test k0)) = got b r.NodeTest 2 refl refl (tok k0 end) refl
  reads_derive (by b (node_test {xs = xs} k0 a1)) = let g = reads_derive a1 in got b r.NodeTest 3 refl refl (tok k0 (rul r.KindTail g end)) (ap (kind_test AnyNode (first_text xs)) (held_is g))
  reads_derive (by b (element_test {xs = xs} k0 a1)) = let g = reads_derive a1 in got b r.NodeTest 4 refl refl (tok k0 (rul r.KindTail g end)) (ap (kind_test AnyElement (first_text xs)) (held_is g))
  reads_derive (by b (kind_parentheses k0 k1)) = got b r.KindTail 0 refl refl (tok k0 (clo (tok k1 end))) refl
  reads_derive (by b no_parentheses) = got b r.KindTail 1 refl refl end refl
  reads_derive (by b (predicate k0 a1 k2 a3)) =
      let g1 = reads_derive a1 in let g3 = reads_derive a3 in
      got b r.PredicateList 0 refl refl (tok k0 (rul r.Expr g1 (clo (tok k2 (rul r.PredicateList g3 end))))) (ap2 (λ first more. first ∷ more) (held_is g1) (held_is g3))
  reads_derive (by b no_predicate) = got b r.PredicateList 1 refl refl end refl
  reads_derive (by b (integer_expr k0)) = got b r.PrimaryExpr 0 refl refl (tok k0 end) refl
  reads_derive (by b (string_expr k0)) = got b r.PrimaryExpr 1 refl refl (tok k0 end) refl
  reads_derive (by b (variable_expr {xs = xs} k0 c a1)) = let g = reads_derive a1 in got b r.PrimaryExpr 2 refl refl (tok k0 (rul r.VarName g end)) (variable_held xs g c)
  reads_derive (by b (variable_cut k0 c)) = got b r.PrimaryExpr 2 refl refl (tok k0 (rul r.VarName (cut c) end)) refl
  reads_derive (by b (parenthesized k0 a1 k2)) = let g = reads_derive a1 in got b r.PrimaryExpr 3 refl refl (tok k0 (rul r.Parenthesized g (clo (tok k2 end)))) (ap (λ a. other a.tree a.names) (held_is g))
  reads_derive (by b (inside a0)) = let g = reads_derive a0 in got b r.Parenthesized 0 refl refl (rul r.Expr g end) (held_is g)
  reads_derive (by b empty) = got b r.Parenthesized 1 refl refl end refl
  reads_derive (by b (some_arguments {xs = xs} a0 a1)) =
      let g0 = reads_derive a0 in let g1 = reads_derive a1 in
      got b r.Arguments 0 refl refl (rul r.ExprSingle g0 (rul r.ArgumentsTail g1 end)) (ap2 (Next (first_from xs)) (held_is g0) (held_is g1))
  reads_derive (by b no_arguments) = got b r.Arguments 1 refl refl end refl
  reads_derive (by b (more_arguments k0 a1 a2)) =
      let g1 = reads_derive a1 in let g2 = reads_derive a2 in
      got b r.ArgumentsTail 0 refl refl (tok k0 (rul r.ExprSingle g1 (rul r.ArgumentsTail g2 end))) (ap3 (λ behind a more. Next (first_from behind) a more) (behind_taken b k0) (held_is g1) (held_is g2))
  reads_derive (by b arguments_end) = got b r.ArgumentsTail 1 refl refl end refl
  reads_derive (by b (variable_name a0)) = let g = reads_derive a0 in got b r.VarName 0 refl refl (rul r.PlainName g end) (held_is g)
  reads_derive (by b (axis_variable k0)) = got b r.VarName 1 refl refl (tok k0 end) refl
  reads_derive (by b (node_variable k0)) = got b r.VarName 2 refl refl (tok k0 end) refl
  reads_derive (by b (element_variable k0)) = got b r.VarName 3 refl refl (tok k0 end) refl
  reads_derive (by b (plain_name among k0)) = plain_derives b among k0
  reads_derive (Reads.cut c) = cut c

  -- ---- expressions

  -- all tokens, derived from the start, with a value that says this
  pub record Whole (tokens : List Lexed) (a : Operand) : Type 0 where
    pub productions : List ℕ
    pub value : RuleValue
    pub tree : Derived All 0 [] 0 tokens productions value
    pub says : part.operand value ≡ a

  got_whole : (tokens : List Lexed) {a : Operand} → Got All r.Expr 0 tokens [] a → Whole tokens a
  got_whole tokens (derived value before is there e) =
      let same : is.tokens ≡ tokens = sym (is.are ∙ append-nil is.tokens) in
      record { productions = is.productions; value = value; tree = subst (λ l. Derived All 0 [] 0 l is.productions value) same is.derived; says = e }
  got_whole tokens (cut e) = absurd e

  pub read_derives : (tokens : List Lexed) {a : Operand} → Reads All r.Expr 0 tokens [] a → Whole tokens a
  read_derives tokens h = got_whole tokens (reads_derive h)

  -- the tokens before those that are left, derived from the start, with a value that says this
  pub record Begins (ending : Ending) (left xs : List Lexed) (a : Operand) : Type 0 where
    pub tokens : List Lexed
    pub productions : List ℕ
    pub values : List RuleValue
    pub are : xs ≡ tokens ++ left
    pub fill : Fill (UpTo ending left) 0 left start tokens productions values
    pub says : part.operand (top values) ≡ a

  start_fills : {ending : Ending} {left xs : List Lexed} {a : Operand} → Got (UpTo ending left) r.Expr 0 xs left a → Begins ending left xs a
  unfolding rul
  start_fills (derived value before is there e) =
      let f = rul r.Expr (derived value before is there e) end in
      record { tokens = f.tokens; productions = f.productions; values = f.values; are = f.are; fill = f.fill; says = e }
  start_fills (cut e) = record { tokens = []; productions = []; values = []; are = refl; fill = d.Fill.cut e; says = refl }

  pub said_fills : {ending : Ending} {left xs : List Lexed} {a : Operand} → Reads (UpTo ending left) r.Expr 0 xs left a → Begins ending left xs a
  said_fills h = start_fills (reads_derive h)
