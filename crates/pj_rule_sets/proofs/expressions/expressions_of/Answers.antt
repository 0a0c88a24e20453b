use Rattle.std.proofs.Common.{◌≡◌, codes, ap, ◌∙◌, subst}
use Rattle.std.specs.Option.{option_copied}
use Rattle.pj_rule_sets.specs.Expressions.{Both, IsParsed, names_of}
use Rattle.pj_rule_sets.specs.Faults.{IsFault, IsParseFault, IsSomeParseFault}
use Rattle.pj_rule_sets.specs.Patterns.{suppression_of, value_of}
use Rattle.pj_rule_sets.specs.Refusals.{of_pattern}
use Rattle.pj_rule_sets.proofs.Judging.{are_of, is_sound, names_same, pattern_fault, query_fault, suppression_fault}
use Rattle.pj_rule_sets.proofs.Lists.{handed_on}
use Rattle.pj_rule_sets.proofs.expressions.expressions_of.Goals as goal

pub returns-in_err-query-clause-fault : goal.returns-in_err-query-clause-fault
returns-in_err-query-clause-fault c =
    let texts = c.args.texts.now in
    let names = c.in_ok-names.names in
    let same : names ≡ names_of texts = names_same texts names c.in_ok-variables.variables c.as_slice-2.result.now c.as_slice.result.now
    c.as_slice.ensures c.in_ok-variables.ensures c.as_slice-2.ensures c.in_ok-names.ensures in
    let fault = c.in_err-query.field-0.0 in
    handed_on c.from_residual-in_err-query.result fault (IsFault texts) c.from_residual-in_err-query.ensures.1
    (query_fault texts names same fault (subst (λ t. IsParseFault names t fault) c.as_str.ensures c.in_err-query.ensures.fault))

pub returns-in_err-suppression-clause-fault : goal.returns-in_err-suppression-clause-fault
returns-in_err-suppression-clause-fault c =
    let texts = c.args.texts.now in
    let names = c.in_ok-names.names in
    let same : names ≡ names_of texts = names_same texts names c.in_ok-variables.variables c.as_slice-2.result.now c.as_slice.result.now
    c.as_slice.ensures c.in_ok-variables.ensures c.as_slice-2.ensures c.in_ok-names.ensures in
    let query = c.in_ok-query.query in
    let q : IsParsed names texts.xpath query = subst (λ t. IsParsed names t query) c.as_str.ensures c.in_ok-query.ensures.value in
    let text : option_copied c.value_of-text.result ≡ suppression_of texts = c.value_of-text.ensures ∙ ap (value_of (codes "violationSuppressXPath")) c.as_slice-3.ensures in
    let fault = c.in_err-suppression.field-0.0 in
    handed_on c.from_residual-in_err-suppression.result fault (IsFault texts) c.from_residual-in_err-suppression.ensures.1
    (suppression_fault texts names same query q fault (subst (λ t. IsSomeParseFault names t fault) text c.in_err-suppression.ensures.fault))

pub returns-in_err-kept-clause-fault : goal.returns-in_err-kept-clause-fault
returns-in_err-kept-clause-fault c =
    let texts = c.args.texts.now in
    let names = c.in_ok-names.names in
    let same : names ≡ names_of texts = names_same texts names c.in_ok-variables.variables c.as_slice-2.result.now c.as_slice.result.now
    c.as_slice.ensures c.in_ok-variables.ensures c.as_slice-2.ensures c.in_ok-names.ensures in
    let query = c.in_ok-query.query in
    let q : IsParsed names texts.xpath query = subst (λ t. IsParsed names t query) c.as_str.ensures c.in_ok-query.ensures.value in
    let text : option_copied c.value_of-text.result ≡ suppression_of texts = c.value_of-text.ensures ∙ ap (value_of (codes "violationSuppressXPath")) c.as_slice-3.ensures in
    let suppression = c.in_ok-suppression.suppression in
    let s : Both (suppression_of texts) suppression (IsParsed names) = subst (λ t. Both t suppression (IsParsed names)) text c.in_ok-suppression.ensures.value in
    let fault = c.in_err-kept.field-0.0 in
    handed_on c.from_residual-in_err-kept.result (of_pattern fault) (IsFault texts) c.from_residual-in_err-kept.ensures.1
    (pattern_fault texts names same query suppression q s fault c.in_err-kept.ensures.refused)

pub returns-clause-value : goal.returns-clause-value
returns-clause-value c =
    let texts = c.args.texts.now in
    let names = c.in_ok-names.names in
    let same : names ≡ names_of texts = names_same texts names c.in_ok-variables.variables c.as_slice-2.result.now c.as_slice.result.now
    c.as_slice.ensures c.in_ok-variables.ensures c.as_slice-2.ensures c.in_ok-names.ensures in
    let query = c.in_ok-query.query in
    let q : IsParsed names texts.xpath query = subst (λ t. IsParsed names t query) c.as_str.ensures c.in_ok-query.ensures.value in
    let text : option_copied c.value_of-text.result ≡ suppression_of texts = c.value_of-text.ensures ∙ ap (value_of (codes "violationSuppressXPath")) c.as_slice-3.ensures in
    let suppression = c.in_ok-suppression.suppression in
    let s : Both (suppression_of texts) suppression (IsParsed names) = subst (λ t. Both t suppression (IsParsed names)) text c.in_ok-suppression.ensures.value in
    let kept = c.in_ok-kept.ensures in
    are_of texts names same query suppression c.in_ok-kept.kept q s kept.query_kept kept.suppression_kept kept.variables_kept kept.covers

pub returns-clause-sound : goal.returns-clause-sound
returns-clause-sound c =
    let texts = c.args.texts.now in
    let names = c.in_ok-names.names in
    let same : names ≡ names_of texts = names_same texts names c.in_ok-variables.variables c.as_slice-2.result.now c.as_slice.result.now
    c.as_slice.ensures c.in_ok-variables.ensures c.as_slice-2.ensures c.in_ok-names.ensures in
    let query = c.in_ok-query.query in
    let q : IsParsed names texts.xpath query = subst (λ t. IsParsed names t query) c.as_str.ensures c.in_ok-query.ensures.value in
    let text : option_copied c.value_of-text.result ≡ suppression_of texts = c.value_of-text.ensures ∙ ap (value_of (codes "violationSuppressXPath")) c.as_slice-3.ensures in
    let suppression = c.in_ok-suppression.suppression in
    let s : Both (suppression_of texts) suppression (IsParsed names) = subst (λ t. Both t suppression (IsParsed names)) text c.in_ok-suppression.ensures.value in
    is_sound texts names same query suppression q s c.in_ok-kept.ensures.taken
