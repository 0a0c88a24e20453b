use Rattle.std.proofs.Common.{codes, ap, ◌∙◌, ◌≡◌, subst}
use Rattle.std.specs.Option.{option_copied}
use Rattle.pj_rule_sets.specs.Expressions.{patterns_in_some, patterns_of, variables_of}
use Rattle.pj_rule_sets.specs.Faults.{HasNoPattern, IfNoPattern}
use Rattle.pj_rule_sets.specs.Patterns.{property_patterns, suppressing_regex_of, value_of, whole_of}
use Rattle.pj_rule_sets.proofs.Lists.{handed_on, none-2, none-3, none-4}
use Rattle.pj_xpatterns.specs.Written.{patterns_in}
use Rattle.pj_rule_sets.proofs.expressions.kept.Goals as goal

pub returns-in_err-query-clause-refused : goal.returns-in_err-query-clause-refused
returns-in_err-query-clause-refused c =
    let texts = c.args.texts.now in
    let variables = variables_of texts in
    let fault = c.in_err-query.field-0.0 in
    handed_on c.from_residual-in_err-query.result fault (λ f. IfNoPattern f (HasNoPattern (patterns_of texts c.args.query c.args.suppression)))
    c.from_residual-in_err-query.ensures.1
    (none-2 (property_patterns texts) (patterns_in variables c.args.query) (patterns_in_some variables c.args.suppression) (whole_of (suppressing_regex_of texts)) fault
    (subst (λ vs. IfNoPattern fault (HasNoPattern (patterns_in vs c.args.query))) c.requires c.in_err-query.ensures.refused))

pub returns-in_err-suppression-clause-refused : goal.returns-in_err-suppression-clause-refused
returns-in_err-suppression-clause-refused c =
    let texts = c.args.texts.now in
    let variables = variables_of texts in
    let fault = c.in_err-suppression.field-0.0 in
    handed_on c.from_residual-in_err-suppression.result fault (λ f. IfNoPattern f (HasNoPattern (patterns_of texts c.args.query c.args.suppression)))
    c.from_residual-in_err-suppression.ensures.1
    (none-3 (property_patterns texts) (patterns_in variables c.args.query) (patterns_in_some variables c.args.suppression) (whole_of (suppressing_regex_of texts)) fault
    (subst (λ vs. IfNoPattern fault (HasNoPattern (patterns_in_some vs c.args.suppression))) c.requires c.in_err-suppression.ensures.refused))

pub returns-in_err-is_covered-clause-refused : goal.returns-in_err-is_covered-clause-refused
returns-in_err-is_covered-clause-refused c =
    let texts = c.args.texts.now in
    let variables = variables_of texts in
    let fault = c.in_err-is_covered.field-0.0 in
    let is : option_copied c.value_of-regex.result ≡ suppressing_regex_of texts = c.value_of-regex.ensures ∙ ap (value_of (codes "violationSuppressRegex")) c.as_slice-2.ensures in
    handed_on c.from_residual-in_err-is_covered.result fault (λ f. IfNoPattern f (HasNoPattern (patterns_of texts c.args.query c.args.suppression)))
    c.from_residual-in_err-is_covered.ensures.1
    (none-4 (property_patterns texts) (patterns_in variables c.args.query) (patterns_in_some variables c.args.suppression) (whole_of (suppressing_regex_of texts)) fault
    (subst (λ o. IfNoPattern fault (HasNoPattern (whole_of o))) is c.in_err-is_covered.ensures.refused))
