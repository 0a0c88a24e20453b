-- Where productions stand in the grammar: the place of each is known by its rule and its place among those of the rule.
use Rattle.std.proofs.Common.{◌≡◌, ℕ, zero, suc, ◌+◌, List, [], ◌∷◌, ◌++◌, map, length, Some, refl, sym, ◌∙◌, ap, subst, arith}
use Rattle.std.specs.Prelude.{slice_get, ⊤}
use Rattle.std.proofs.lemmas.Option.{same_Some}
use Rattle.pj_ll.specs.declared.grammar.Symbol.{Symbol}
use Rattle.pj_ll.specs.Grammar.{Grammar}
use Rattle.pj_xgrammar.specs.declared.rule.Rule.{Rule}
use Rattle.pj_xgrammar.specs.declared.rule.Rule.TheVariants as r
use Rattle.pj_xgrammar.specs.Notation.{rule_number}
use Rattle.pj_xgrammar.specs.XPath.{xpath, rules, line, lines_of, xpath_grammar}
use Rattle.pj_xmeaning.specs.Actions.{actions_of, actions_by, actions, action_in, action_of}
use Rattle.pj_xmeaning.specs.declared.action.Action.{Action}

-- ---- the numbers of rules

AreNumbered : ℕ → List Rule → Type 0
AreNumbered k [] = ⊤
AreNumbered k (rule ∷ more) = (rule_number rule ≡ k) × AreNumbered (suc k) more

are_numbered : AreNumbered 0 rules
unfolding AreNumbered rules
are_numbered = (refl, (refl, (refl, (refl, (refl, (refl, (refl, (refl, (refl, (refl, (refl, (refl, (refl, (refl, (refl, (refl, (refl, (refl, (refl, (refl, (refl, (refl, (refl, (refl, (refl, (refl, (refl, (refl, (refl, (refl, (refl, (refl, (refl, (refl, (refl, (refl, (refl, (refl, (refl, (refl, (refl, (refl, (refl, (refl, (refl, (refl, (refl, (refl, (refl, (refl, (refl, (refl, tt))))))))))))))))))))))))))))))))))))))))))))))))))))

numbered : (k : ℕ) (rs : List Rule) (n : ℕ) (rule : Rule) → AreNumbered k rs → slice_get rs n ≡ Some rule → rule_number rule ≡ k + n
unfolding AreNumbered
numbered k [] n rule a e = absurd (let z = e in cc)
numbered k (x ∷ xs) zero rule a e = let same : x ≡ rule = same_Some x rule e in ap rule_number (sym same) ∙ a.0 ∙ omega arith
numbered k (x ∷ xs) (suc n) rule a e = numbered (suc k) xs n rule a.1 e ∙ omega arith

-- the rule at a place has its number
pub number_at : (n : ℕ) (rule : Rule) → slice_get rules n ≡ Some rule → rule_number rule ≡ n
number_at n rule e = numbered 0 rules n rule are_numbered e ∙ omega arith

-- ---- places

-- the production at this place, with what it makes
pub record Place (rule : Rule) (ss : List Symbol) (a : Action) : Type 0 where
  pub production : ℕ
  pub line_is : slice_get xpath_grammar production ≡ Some (line rule ss)
  pub action_is : action_of production ≡ a

record PlaceIn (ls : Grammar) (acts : List Action) (rule : Rule) (ss : List Symbol) (a : Action) : Type 0 where
  at : ℕ
  line_there : slice_get ls at ≡ Some (line rule ss)
  action_there : slice_get acts at ≡ Some a

first_place : (rule : Rule) (sss : List (List Symbol)) (many : List Action) (ls : Grammar) (acts : List Action) (i : ℕ) (ss : List Symbol) (a : Action) →
    slice_get sss i ≡ Some ss → slice_get many i ≡ Some a → PlaceIn (map (line rule) sss ++ ls) (many ++ acts) rule ss a
first_place rule [] many ls acts i ss a e f = absurd (let z = e in cc)
first_place rule (x ∷ sss) [] ls acts i ss a e f = absurd (let z = f in cc)
first_place rule (x ∷ sss) (y ∷ many) ls acts zero ss a e f = record { at = 0; line_there = ap (λ l. Some (line rule l)) (same_Some x ss e); action_there = f }
first_place rule (x ∷ sss) (y ∷ many) ls acts (suc i) ss a e f =
    let p = first_place rule sss many ls acts i ss a e f in
    record { at = suc p.at; line_there = p.line_there; action_there = p.action_there }

later_place : (other rule : Rule) (sss : List (List Symbol)) (many : List Action) (ls : Grammar) (acts : List Action) (ss : List Symbol) (a : Action) →
    length sss ≡ length many → PlaceIn ls acts rule ss a → PlaceIn (map (line other) sss ++ ls) (many ++ acts) rule ss a
later_place other rule [] [] ls acts ss a e p = p
later_place other rule [] (y ∷ many) ls acts ss a e p = absurd (omega (arith, e))
later_place other rule (x ∷ sss) [] ls acts ss a e p = absurd (omega (arith, e))
later_place other rule (x ∷ sss) (y ∷ many) ls acts ss a e p =
    let q = later_place other rule sss many ls acts ss a (omega (arith, e)) p in
    record { at = suc q.at; line_there = q.line_there; action_there = q.action_there }

-- a rule has as many actions as productions
same_count : (rule : Rule) → length (xpath rule) ≡ length (actions_of rule)
unfolding xpath actions_of
same_count r.Expr = refl
same_count r.ExprTail = refl
same_count r.ExprSingle = refl
same_count r.InBindings = refl
same_count r.InBindingsTail = refl
same_count r.LetBindings = refl
same_count r.LetBindingsTail = refl
same_count r.InClause = refl
same_count r.AssignClause = refl
same_count r.ReturnClause = refl
same_count r.SatisfiesClause = refl
same_count r.TestClause = refl
same_count r.ThenClause = refl
same_count r.ElseClause = refl
same_count r.OrExpr = refl
same_count r.OrTail = refl
same_count r.AndExpr = refl
same_count r.AndTail = refl
same_count r.ComparisonExpr = refl
same_count r.ComparisonTail = refl
same_count r.StringConcatExpr = refl
same_count r.StringConcatTail = refl
same_count r.RangeExpr = refl
same_count r.RangeTail = refl
same_count r.AdditiveExpr = refl
same_count r.AdditiveTail = refl
same_count r.MultiplicativeExpr = refl
same_count r.MultiplicativeTail = refl
same_count r.UnionExpr = refl
same_count r.UnionTail = refl
same_count r.IntersectExceptExpr = refl
same_count r.IntersectExceptTail = refl
same_count r.UnaryExpr = refl
same_count r.SimpleMapExpr = refl
same_count r.SimpleMapTail = refl
same_count r.Operand = refl
same_count r.LeftOutOperator = refl
same_count r.PathExpr = refl
same_count r.RelativePathExpr = refl
same_count r.RelativePathTail = refl
same_count r.StepExpr = refl
same_count r.AxisTail = refl
same_count r.NameTail = refl
same_count r.NodeTest = refl
same_count r.KindTail = refl
same_count r.PredicateList = refl
same_count r.PrimaryExpr = refl
same_count r.Parenthesized = refl
same_count r.Arguments = refl
same_count r.ArgumentsTail = refl
same_count r.VarName = refl
same_count r.PlainName = refl

place_in : (rs : List Rule) (n : ℕ) (rule : Rule) (i : ℕ) (ss : List Symbol) (a : Action) → slice_get rs n ≡ Some rule →
    slice_get (xpath rule) i ≡ Some ss → slice_get (actions_of rule) i ≡ Some a → PlaceIn (lines_of rs) (actions_by rs) rule ss a
place_in [] n rule i ss a e f g = absurd (let z = e in cc)
place_in (x ∷ xs) zero rule i ss a e f g =
    let same : x ≡ rule = same_Some x rule e in
    subst (λ (y : Rule). PlaceIn (lines_of (y ∷ xs)) (actions_by (y ∷ xs)) rule ss a) (sym same)
    (first_place rule (xpath rule) (actions_of rule) (lines_of xs) (actions_by xs) i ss a f g)
place_in (x ∷ xs) (suc n) rule i ss a e f g =
    later_place x rule (xpath x) (actions_of x) (lines_of xs) (actions_by xs) ss a (same_count x) (place_in xs n rule i ss a e f g)

-- where each rule stands at its number
module _ (rule_at : (rule : Rule) → slice_get rules (rule_number rule) ≡ Some rule) where
  -- a number is that of one rule
  pub one_rule : (a b : Rule) → rule_number a ≡ rule_number b → a ≡ b
  one_rule a b e = same_Some a b (sym (subst (λ n. slice_get rules n ≡ Some a) e (rule_at a)) ∙ rule_at b)

  -- the production of a rule at a place among its own
  pub place : (rule : Rule) (i : ℕ) (ss : List Symbol) (a : Action) → slice_get (xpath rule) i ≡ Some ss → slice_get (actions_of rule) i ≡ Some a → Place rule ss a
  unfolding xpath_grammar actions action_of
  place rule i ss a f g =
      let p = place_in rules (rule_number rule) rule i ss a (rule_at rule) f g in
      record { production = p.at; line_is = p.line_there; action_is = ap action_in p.action_there }
