-- Texts of a rule can be used or have a fault, and not both; and they have one first fault at most.
use Rattle.std.proofs.Common.{◌≡◌, ◌≢◌, ℕ, List, [], ◌∷◌, ◌++◌, Option, Some, None, refl, sym, ap, ap₂, ◌∙◌, subst}
use Rattle.std.specs.Str.{chars}
use Rattle.pj_rule_sets.specs.Expressions.{Both, IsSound, IsSpelledBy, Spell, names_of, patterns_in_some, patterns_of, variables_of}
use Rattle.pj_rule_sets.specs.Faults.{HasNoPattern, IsFault, IsSyntaxFault, IsTextFault}
use Rattle.pj_rule_sets.specs.Patterns.{property_patterns, suppressing_regex_of, suppression_of, whole_of}
use Rattle.pj_rule_sets.specs.declared.fault.ExpressionFault.{ExpressionFault}
use Rattle.pj_rule_sets.specs.declared.fault.ExpressionFault.TheVariants.{XPath, Pattern, Memory}
use Rattle.pj_rule_texts.specs.Values.{Text}
use Rattle.pj_rule_texts.specs.declared.rule.RuleTexts.{RuleTexts}
use Rattle.pj_xexpressions.specs.Trees.{Tree, tree_of}
use Rattle.pj_xparse.specs.Faults as syntax
use Rattle.pj_xparse.specs.Spells.{Spells}
use Rattle.pj_xparse.specs.declared.fault.XSyntax.{XSyntax}
use Rattle.pj_xpatterns.specs.Meaning as patterns
use Rattle.pj_xpatterns.specs.Refusing.{AreTaken}
use Rattle.pj_xpatterns.specs.Written.{patterns_in}
use Rattle.pj_xpatterns.specs.Laws.{PatternsByTree}
use Rattle.pj_xexpressions.specs.declared.expr.Expr.{Expr}

one_some : {A : Type 0} (o : Option A) (a b : A) → o ≡ Some a → o ≡ Some b → a ≡ b
one_some o a b e f = let both : Some a ≡ Some b = sym e ∙ f in cc

none_some : (o : Option Text) (a : Text) → o ≡ None → o ≡ Some a → ⊥
none_some o a e f = let both : ◌≡◌ {A = Option Text} None (Some a) = sym e ∙ f in absurd (cc)

-- ---- patterns

taken_right : (xs ys : List patterns.Pattern) → AreTaken (xs ++ ys) → AreTaken ys
taken_right [] ys h = h
taken_right (x ∷ xs) ys h = taken_right xs ys h.1

not_refused : (list : List patterns.Pattern) → AreTaken list → HasNoPattern list → ⊥
not_refused list taken none = (taken_right none.before (none.refused ∷ none.behind) (subst AreTaken none.stands taken)).0 none.is_none

-- ---- what is spelled has no fault

module _ (spelled : (variables : List (List ℕ)) (text : List ℕ) (tree : Tree) (fault : XSyntax) → Spells variables text tree → syntax.IsFault variables text fault → ⊥) where
  no_text_fault : (names : List Text) (text : Text) (expr : Expr) (fault : XSyntax) → IsSpelledBy names text expr → IsTextFault names text fault → ⊥
  no_text_fault names text expr fault is h = spelled names (chars text) (tree_of expr) fault is.spells h

  -- what suppresses findings, where it is spelled
  no_suppression_fault : (names : List Text) (given : Option Text) (text : Text) (expr : Option Expr) (fault : XSyntax) → given ≡ Some text →
      Both given expr (IsSpelledBy names) → IsTextFault names text fault → ⊥
  no_suppression_fault names None text expr fault is both h = none_some None text refl is
  no_suppression_fault names (Some other) text None fault is both h = both
  no_suppression_fault names (Some other) text (Some expr) fault is both h =
      no_text_fault names text expr fault (subst (λ t. IsSpelledBy names t expr) (one_some (Some other) other text refl is) both) h

  no_syntax_fault : (texts : RuleTexts) (query : Expr) (suppression : Option Expr) (fault : XSyntax) → Spell texts query suppression → IsSyntaxFault texts fault → ⊥
  no_syntax_fault texts query suppression fault spell (IsSyntaxFault.of_query h) = no_text_fault (names_of texts) texts.xpath query fault spell.query_spelled h
  no_syntax_fault texts query suppression fault spell (IsSyntaxFault.of_suppression first text other is h) =
      no_suppression_fault (names_of texts) (suppression_of texts) text suppression fault is spell.suppression_spelled h

  -- ---- texts that spell expressions have the patterns of these

  module _ (one_tree : (variables : List (List ℕ)) (text : List ℕ) (a b : Tree) → Spells variables text a → Spells variables text b → a ≡ b) (by_tree : PatternsByTree) where
    same_in : (texts : RuleTexts) (text : Text) (a b : Expr) → IsSpelledBy (names_of texts) text a → IsSpelledBy (names_of texts) text b →
        patterns_in (variables_of texts) a ≡ patterns_in (variables_of texts) b
    same_in texts text a b x y = by_tree (variables_of texts) a b (one_tree (names_of texts) (chars text) (tree_of a) (tree_of b) x.spells y.spells)

    same_in_some : (texts : RuleTexts) (given : Option Text) (a b : Option Expr) → Both given a (IsSpelledBy (names_of texts)) → Both given b (IsSpelledBy (names_of texts)) →
        patterns_in_some (variables_of texts) a ≡ patterns_in_some (variables_of texts) b
    same_in_some texts None None None x y = refl
    same_in_some texts (Some text) (Some a) (Some b) x y = same_in texts text a b x y
    same_in_some texts None (Some a) b x y = absurd x
    same_in_some texts None None (Some b) x y = absurd y
    same_in_some texts (Some text) None b x y = absurd x
    same_in_some texts (Some text) (Some a) None x y = absurd y

    same_patterns : (texts : RuleTexts) (query other : Expr) (suppression others : Option Expr) → Spell texts query suppression → Spell texts other others →
        patterns_of texts query suppression ≡ patterns_of texts other others
    same_patterns texts query other suppression others x y = ap₂ (λ q s. property_patterns texts ++ (q ++ (s ++ whole_of (suppressing_regex_of texts))))
        (same_in texts texts.xpath query other x.query_spelled y.query_spelled)
        (same_in_some texts (suppression_of texts) suppression others x.suppression_spelled y.suppression_spelled)

    pub sound_or_fault : (texts : RuleTexts) (fault : ExpressionFault) → IsSound texts → IsFault texts fault → fault ≡ Memory
    sound_or_fault texts (XPath fault) sound h = absurd (no_syntax_fault texts sound.query sound.suppression fault sound.spell h)
    sound_or_fault texts Pattern sound h = absurd (not_refused (patterns_of texts h.query h.suppression)
        (subst AreTaken (same_patterns texts sound.query h.query sound.suppression h.suppression sound.spell h.spell) sound.taken) h.refused)
    sound_or_fault texts Memory sound h = refl

  -- ---- one fault

  module _ (one : (variables : List (List ℕ)) (text : List ℕ) (a b : XSyntax) → syntax.IsFault variables text a → syntax.IsFault variables text b → a ≡ b) where
    one_text_fault : (names : List Text) (text : Text) (a b : XSyntax) → IsTextFault names text a → IsTextFault names text b → a ≡ b
    one_text_fault names text a b h k = one names (chars text) a b h k

    one_syntax_fault : (texts : RuleTexts) (a b : XSyntax) → IsSyntaxFault texts a → IsSyntaxFault texts b → a ≡ b
    one_syntax_fault texts a b (IsSyntaxFault.of_query h) (IsSyntaxFault.of_query k) = one_text_fault (names_of texts) texts.xpath a b h k
    one_syntax_fault texts a b (IsSyntaxFault.of_query h) (IsSyntaxFault.of_suppression query text is given k) =
        absurd (no_text_fault (names_of texts) texts.xpath query a is h)
    one_syntax_fault texts a b (IsSyntaxFault.of_suppression query text is given h) (IsSyntaxFault.of_query k) =
        absurd (no_text_fault (names_of texts) texts.xpath query b is k)
    one_syntax_fault texts a b (IsSyntaxFault.of_suppression query text is given h) (IsSyntaxFault.of_suppression query_too text_too is_too given_too k) =
        one_text_fault (names_of texts) text_too a b (subst (λ t. IsTextFault (names_of texts) t a) (one_some (suppression_of texts) text text_too given given_too) h) k

    pub one_fault : (texts : RuleTexts) (a b : ExpressionFault) → IsFault texts a → IsFault texts b → a ≢ Memory → b ≢ Memory → a ≡ b
    one_fault texts (XPath a) (XPath b) h k p q = ap XPath (one_syntax_fault texts a b h k)
    one_fault texts (XPath a) Pattern h k p q = absurd (no_syntax_fault texts k.query k.suppression a k.spell h)
    one_fault texts Pattern (XPath b) h k p q = absurd (no_syntax_fault texts h.query h.suppression b h.spell k)
    one_fault texts Pattern Pattern h k p q = refl
    one_fault texts Memory b h k p q = absurd (p refl)
    one_fault texts a Memory h k p q = absurd (q refl)
