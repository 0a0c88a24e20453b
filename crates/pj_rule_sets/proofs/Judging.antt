-- From what the parts of a rule say to what the rule is.
use Rattle.std.proofs.Common.{◌≡◌, ◌≢◌, ℕ, Bool, true, false, List, [], ◌∷◌, map, Option, Some, None, refl, sym, ap, ◌∙◌, subst}
use Rattle.std.specs.Str.{chars}
use Rattle.std.specs.List.{flat_map}
use Rattle.std.proofs.lemmas.Bool.{false≢true}
use Rattle.pj_rule_texts.specs.Values.{variable_of}
use Rattle.pj_rule_texts.specs.declared.properties.Property.{Property}
use Rattle.pj_rule_texts.specs.Seen.{variables_seen}
use Rattle.pj_rule_texts.specs.declared.rule.RuleTexts.{RuleTexts}
use Rattle.pj_rule_sets.specs.Expressions.{AreOf, Both, IsKept, IsParsed, IsSound, IsSpelled, IsSpelledBy, Spell, names_of, patterns_of, variables_of}
use Rattle.pj_rule_sets.specs.Faults.{HasNoPattern, IfNoPattern, IsFault, IsParseFault, IsSomeParseFault, IsTextFault}
use Rattle.pj_rule_sets.specs.Patterns.{is_covered, suppression_of}
use Rattle.pj_rule_sets.specs.Refusals.{of_pattern, of_syntax}
use Rattle.pj_rule_sets.specs.declared.expressions.RuleExpressions.{RuleExpressions}
use Rattle.pj_rule_sets.specs.declared.fault.ExpressionFault.{ExpressionFault}
use Rattle.pj_rule_sets.specs.declared.fault.ExpressionFault.TheVariants.{XPath, Pattern, Memory}
use Rattle.pj_rule_sets.specs.declared.spelled.Spelled.{Spelled}
use Rattle.pj_rule_sets.specs.Faults as faults
use Rattle.pj_xparse.specs.Faults as syntax
use Rattle.pj_xparse.specs.declared.fault.XSyntax.{XSyntax}
use Rattle.pj_xparse.specs.declared.fault.XSyntax.TheVariants as refusal
use Rattle.pj_xpatterns.specs.Refusing.{AreTaken}
use Rattle.pj_xpatterns.specs.declared.compiled.PatternFault.{PatternFault}
use Rattle.pj_xpatterns.specs.declared.compiled.PatternFault.TheVariants.{Refused}
use Rattle.pj_xpatterns.specs.declared.compiled.PatternFault.TheVariants as pattern
use Rattle.pj_xexpressions.specs.declared.expr.Expr.{Expr}
use Rattle.pj_xvalue.specs.declared.item.Item.{Item}

-- the names of variables, as they are kept and as they are seen
pub names-seen : (variables : List (List ℕ × List Item)) → map (λ v. v.0) (variables_seen variables) ≡ map (λ v. v.0) variables
names-seen [] = refl
names-seen (v ∷ vs) = ap (λ t. v.0 ∷ t) (names-seen vs)

abbrev is_memory : XSyntax → Bool
is_memory refusal.Memory = true
is_memory _ = false

-- the fault of a text, as that of a rule
pub parse_fault : (names : List (List ℕ)) (text : List ℕ) (fault : XSyntax) → (fault ≢ refusal.Memory → syntax.IsFault names (chars text) fault) → IsParseFault names text (of_syntax fault)
parse_fault names text (refusal.Token from) h = h (λ e. absurd (false≢true (ap is_memory e)))
parse_fault names text (refusal.Expected from) h = h (λ e. absurd (false≢true (ap is_memory e)))
parse_fault names text (refusal.UnknownFunction name from) h = h (λ e. absurd (false≢true (ap is_memory e)))
parse_fault names text (refusal.UnknownVariable name) h = h (λ e. absurd (false≢true (ap is_memory e)))
parse_fault names text (refusal.Outside from) h = h (λ e. absurd (false≢true (ap is_memory e)))
parse_fault names text (refusal.Deep nesting) h = h (λ e. absurd (false≢true (ap is_memory e)))
parse_fault names text refusal.Memory h = tt

-- the names of the rule's variables
pub names_same : (texts : RuleTexts) (names : List (List ℕ)) (variables slice : List (List ℕ × List Item)) (properties : List Property) → properties ≡ texts.properties →
    variables_seen variables ≡ flat_map variable_of properties → slice ≡ variables → names ≡ map (λ v. v.0) slice → names ≡ names_of texts
names_same texts names variables slice properties all seen same are = are ∙ ap (map (λ v. v.0)) same ∙ sym (names-seen variables)
    ∙ ap (map (λ v. v.0)) (seen ∙ ap (flat_map variable_of) all)

module _ (texts : RuleTexts) (names : List (List ℕ)) (same : names ≡ names_of texts) where
  -- both expressions are spelled
  pub spell : (query : Expr) (suppression : Option Expr) → IsParsed names texts.xpath query → Both (suppression_of texts) suppression (IsParsed names) →
      Spell texts query suppression
  spell query suppression q s = record {
    query_spelled = subst (λ ns. IsSpelledBy ns texts.xpath query) same q.spells;
    suppression_spelled = subst (λ ns. Both (suppression_of texts) suppression (IsSpelledBy ns)) same (forget (suppression_of texts) suppression s);
  }
    where
      forget : (text : Option (List ℕ)) (e : Option Expr) → Both text e (IsParsed names) → Both text e (IsSpelledBy names)
      forget None None h = h
      forget (Some t) (Some e) h = h.spells
      forget None (Some e) h = h
      forget (Some t) None h = h

  -- the fault of the query
  pub query_fault : (fault : ExpressionFault) → IsParseFault names texts.xpath fault → IsFault texts fault
  query_fault (XPath fault) h = faults.IsSyntaxFault.of_query (subst (λ ns. IsTextFault ns texts.xpath fault) same h)
  query_fault Pattern h = absurd h
  query_fault Memory h = h

  -- the fault of what suppresses findings, where the query is spelled
  pub suppression_fault : (query : Expr) → IsParsed names texts.xpath query → (fault : ExpressionFault) → IsSomeParseFault names (suppression_of texts) fault → IsFault texts fault
  suppression_fault query q = by_text (suppression_of texts) refl
    where
      by_text : (text : Option (List ℕ)) → suppression_of texts ≡ text → (fault : ExpressionFault) → IsSomeParseFault names text fault → IsFault texts fault
      by_text None is (XPath fault) h = absurd h
      by_text None is Pattern h = absurd h
      by_text None is Memory h = h
      by_text (Some text) is (XPath fault) h = faults.IsSyntaxFault.of_suppression query text
          (subst (λ ns. IsSpelledBy ns texts.xpath query) same q.spells) is (subst (λ ns. IsTextFault ns text fault) same h)
      by_text (Some text) is Pattern h = absurd h
      by_text (Some text) is Memory h = h

  -- what is kept of one expression
  is_kept : (text : List ℕ) (expr : Expr) (spelled : Spelled) → IsParsed names text expr → IsSpelled (variables_of texts) expr spelled → IsKept texts text spelled
  is_kept text expr spelled p s = record {
    parsed = subst (IsParsed (names_of texts) text) (sym s.0) (subst (λ ns. IsParsed ns text expr) same p);
    patterns = s.1;
  }

  both_kept : (text : Option (List ℕ)) (expr : Option Expr) (spelled : Option Spelled) → Both text expr (IsParsed names) →
      Both expr spelled (IsSpelled (variables_of texts)) → Both text spelled (IsKept texts)
  both_kept None None None p s = s
  both_kept None None (Some k) p s = s
  both_kept None (Some e) k p s = absurd p
  both_kept (Some t) None k p s = absurd p
  both_kept (Some t) (Some e) None p s = s
  both_kept (Some t) (Some e) (Some k) p s = is_kept t e k p s

  -- what is kept of the rule
  pub are_of : (query : Expr) (suppression : Option Expr) (kept : RuleExpressions) → IsParsed names texts.xpath query → Both (suppression_of texts) suppression (IsParsed names) →
      IsSpelled (variables_of texts) query kept.query → Both suppression kept.suppression (IsSpelled (variables_of texts)) →
      variables_seen kept.variables ≡ variables_of texts → kept.is_covered ≡ is_covered texts → AreOf texts kept
  are_of query suppression kept q s kq ks variables covers = record {
    query = is_kept texts.xpath query kept.query q kq;
    suppression = both_kept (suppression_of texts) suppression kept.suppression s ks;
    variables = variables;
    covers = covers;
  }

  pub is_sound : (query : Expr) (suppression : Option Expr) → IsParsed names texts.xpath query → Both (suppression_of texts) suppression (IsParsed names) →
      AreTaken (patterns_of texts query suppression) → IsSound texts
  is_sound query suppression q s taken = record { query = query; suppression = suppression; spell = spell query suppression q s; taken = taken }

  -- the fault of a pattern, where both expressions are spelled
  pub pattern_fault : (query : Expr) (suppression : Option Expr) → IsParsed names texts.xpath query → Both (suppression_of texts) suppression (IsParsed names) →
      (fault : PatternFault) → IfNoPattern fault (HasNoPattern (patterns_of texts query suppression)) → IsFault texts (of_pattern fault)
  pattern_fault query suppression q s (Refused text) h = record { query = query; suppression = suppression; spell = spell query suppression q s; refused = h }
  pattern_fault query suppression q s pattern.Memory h = h
