-- Short texts make a rule that can be used, or they have a fault.
use Rattle.std.proofs.Common.{◌≡◌, ◌≢◌, ◌≤◌, ◌<◌, ◌⊎◌, inl, inr, ℕ, Bool, true, false, cond, ltb, List, [], ◌∷◌, Option, Some, None, refl, sym, ap, subst, arith}
use Rattle.std.specs.Prelude.{codes, IfSome}
use Rattle.std.specs.Str.{chars}
use Rattle.std.proofs.lemmas.Bool.{ltb-true, ltb-false}
use Rattle.regex_syntax.specs.Grammar.{read}
use Rattle.pj_rule_sets.specs.Expressions.{Both, IsSound, IsSpelledBy, Spell, names_of, patterns_of}
use Rattle.pj_rule_sets.specs.Faults.{HasNoPattern, IsFault, IsSyntaxFault, IsTextFault}
use Rattle.pj_rule_sets.specs.Patterns.{suppression_of, value_of}
use Rattle.pj_rule_sets.specs.declared.fault.ExpressionFault.{ExpressionFault}
use Rattle.pj_rule_sets.specs.declared.fault.ExpressionFault.TheVariants.{XPath, Pattern, Memory}
use Rattle.pj_rule_texts.specs.Values.{Text, is_same}
use Rattle.pj_rule_texts.specs.declared.properties.Property.{Property}
use Rattle.pj_rule_texts.specs.declared.rule.RuleTexts.{RuleTexts}
use Rattle.pj_xexpressions.specs.Trees.{Tree, tree_of}
use Rattle.pj_xexpressions.specs.declared.expr.Expr.{Expr}
use Rattle.pj_xparse.specs.Faults as syntax
use Rattle.pj_xparse.specs.Spells.{Spells}
use Rattle.pj_xparse.specs.declared.fault.XSyntax.{XSyntax}
use Rattle.pj_xpatterns.specs.Meaning as patterns
use Rattle.pj_xpatterns.specs.Meaning.{IsNoPattern, config_of}
use Rattle.pj_xpatterns.specs.Refusing.{AreTaken}
use Rattle.pj_xsizes.specs.Laws.{SomeExpression}
use Rattle.pj_rule_laws.specs.Sizes.{IsShort, IsShortOr, AreShortProperties, HasShortTexts}
use Rattle.pj_rule_laws.proofs.Lengths.{few_characters}

-- ---- patterns

abbrev pub Decided : Type 0 → Type 0
Decided P = P ⊎ (P → ⊥)

none_or_deep : {A : Type 0} (o : Option A) (depth : A → ℕ) (limit : ℕ) → Decided ((o ≡ None) ⊎ IfSome o (λ found. limit < depth found))
none_or_deep None depth limit = inl (inl refl)
none_or_deep (Some found) depth limit = by (ltb limit (depth found)) refl
  where
    not_so : depth found ≤ limit → (Some found ≡ None) ⊎ (limit < depth found) → ⊥
    not_so shallow (inl e) = cc
    not_so shallow (inr deep) = omega (arith, shallow, deep)

    by : (b : Bool) → ltb limit (depth found) ≡ b → Decided ((Some found ≡ None) ⊎ (limit < depth found))
    by true e = inl (inr (ltb-true limit (depth found) e))
    by false e = inr (not_so (ltb-false limit (depth found) e))

-- whether it is a pattern
pub pattern_judged : (p : patterns.Pattern) → Decided (IsNoPattern p)
pattern_judged p = none_or_deep (read (config_of p.1) (chars p.0)) (λ found. found.0.depth) (config_of p.1).nest_limit

abbrev Judged : List patterns.Pattern → Type 0
Judged list = AreTaken list ⊎ HasNoPattern list

pub patterns_judged : (list : List patterns.Pattern) → Judged list
patterns_judged [] = inl tt
patterns_judged (p ∷ list) = by (pattern_judged p) (patterns_judged list)
  where
    behind : AreTaken list ⊎ HasNoPattern list → (IsNoPattern p → ⊥) → Judged (p ∷ list)
    behind (inl taken) fine = inl (fine, taken)
    behind (inr none) fine = inr (record { before = p ∷ none.before; refused = none.refused; behind = none.behind; stands = ap (λ (ps : List patterns.Pattern). p ∷ ps) none.stands; is_none = none.is_none })

    by : Decided (IsNoPattern p) → Judged list → Judged (p ∷ list)
    by (inl is_none) rest = inr (record { before = []; refused = p; behind = list; stands = refl; is_none = is_none })
    by (inr fine) rest = behind rest fine

-- ---- texts

value_short : (name : Text) (properties : List Property) → AreShortProperties properties → IsShortOr (value_of name properties)
value_short name [] h = tt
value_short name (property ∷ properties) h = by (is_same property.name name) (value_short name properties h.1)
  where
    by : (b : Bool) → IsShortOr (value_of name properties) → IsShortOr (cond b (Some property.value) (value_of name properties))
    by true more = h.0
    by false more = more

module _ (answers : (variables : List (List ℕ)) (text : List ℕ) → ((tree : Tree) × Spells variables text tree) ⊎ ((fault : XSyntax) × syntax.IsFault variables text fault))
    (expressions : SomeExpression) where
  module _ (names : List Text) (text : Text) where
    abbrev Told : Type 0
    Told = ((expr : Expr) × IsSpelledBy names text expr) ⊎ ((fault : XSyntax) × IsTextFault names text fault)

    spelled : (expr : Expr) → Spells names (chars text) (tree_of expr) → Told
    spelled expr spells = inl (expr, record { spells = spells })

    text_told : IsShort text → Told
    text_told short = elim (answers names (chars text)) [
      | inl (tree, spells) ↦ of_tree tree spells
      | inr (fault, is) ↦ inr (fault, is)
    ]
      where
        of_tree : (tree : Tree) → Spells names (chars text) tree → Told
        of_tree tree spells =
            let few = few_characters text in
            let made = expressions names (chars text) tree (omega (arith, few, short)) spells in
            spelled made.0 (subst (λ (t : Tree). Spells names (chars text) t) (sym made.1) spells)

  module _ (texts : RuleTexts) (short : HasShortTexts texts) where
    abbrev Settled : Type 0
    Settled = IsSound texts ⊎ ((fault : ExpressionFault) × (fault ≢ Memory) × IsFault texts fault)

    no_syntax : (fault : XSyntax) → IsSyntaxFault texts fault → Settled
    no_syntax fault is = inr (XPath fault, (λ e. absurd (cc)), is)

    -- both expressions are spelled
    judged : (query : Expr) (suppression : Option Expr) → Spell texts query suppression → Judged (patterns_of texts query suppression) → Settled
    judged query suppression spell (inl taken) = inl (record { query = query; suppression = suppression; spell = spell; taken = taken })
    judged query suppression spell (inr none) = inr (Pattern, (λ e. absurd (cc)), record { query = query; suppression = suppression; spell = spell; refused = none })

    -- the query is spelled
    of_query : (query : Expr) → IsSpelledBy (names_of texts) texts.xpath query → (given : Option Text) → suppression_of texts ≡ given → IsShortOr given → Settled
    of_query query is None none few =
        judged query None (record { query_spelled = is; suppression_spelled = subst (λ (o : Option Text). Both o None (IsSpelledBy (names_of texts))) (sym none) tt }) (patterns_judged (patterns_of texts query None))
    of_query query is (Some text) given few = elim (text_told (names_of texts) text few) [
      | inl (expr, told) ↦ judged query (Some expr)
          (record { query_spelled = is; suppression_spelled = subst (λ (o : Option Text). Both o (Some expr) (IsSpelledBy (names_of texts))) (sym given) told })
          (patterns_judged (patterns_of texts query (Some expr)))
      | inr (fault, told) ↦ no_syntax fault (IsSyntaxFault.of_suppression query text is given told)
    ]

    pub settled : Settled
    settled = elim (text_told (names_of texts) texts.xpath short.xpath) [
      | inl (query, told) ↦ of_query query told (suppression_of texts) refl (value_short (codes "violationSuppressXPath") texts.properties short.properties)
      | inr (fault, told) ↦ no_syntax fault (IsSyntaxFault.of_query told)
    ]
