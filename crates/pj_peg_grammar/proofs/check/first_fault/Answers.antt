use Rattle.std.proofs.Common.{◌<◌, length, arith}
use Rattle.std.proofs.lemmas.List.{length-map}
use Rattle.pj_peg_grammar.specs.Form.{form_of, forms_of}
use Rattle.pj_peg_grammar.proofs.Checking.{fault_at, fact_of, no_fault, the_fault, accepted, sound_more}
use Rattle.pj_peg_grammar.proofs.check.first_fault.Goals as goal

pub index-fact-requires : goal.index-fact-requires
index-fact-requires c =
    let lt : c.loop-rule.rule < length (forms_of c.args.rules.now) = omega (arith, c.loop-rule-test.true, length-map c.args.rules.now form_of) in
    let within = (fact_of _ _ _ _ c.requires.analysis c.loop-rule.rule c.index.result.now lt c.index.ensures).0 in
    omega (arith, within, c.args.analysis.now.facts.ok.0)

pub returns-in-Some-clause-fault : goal.returns-in-Some-clause-fault
returns-in-Some-clause-fault c =
    let lt : c.loop-rule.rule < length (forms_of c.args.rules.now) = omega (arith, c.loop-rule-test.true, length-map c.args.rules.now form_of) in
    let (f, is, facts) = (fact_of _ _ _ _ c.requires.analysis c.loop-rule.rule c.index.result.now lt c.index.ensures).1 in
    the_fault _ _ _ _ c.requires.analysis c.loop-rule.rule f c.index-fact.result.now is (facts c.index-fact.result.now c.index-fact.ensures) c.in-Some.fault
    (fault_at c.index-fact.result.now _ _ _ _ _ c.deref.ensures.value c.in-Some.is c.in_ok-fault.ensures) c.loop-rule.invariant

pub returns-in-Some-clause-accepts : goal.returns-in-Some-clause-accepts
returns-in-Some-clause-accepts c well = accepted (forms_of c.args.rules.now) c.in-Some.fault well (returns-in-Some-clause-fault c)

pub loop-rule-preserved : goal.loop-rule-preserved
loop-rule-preserved c =
    let lt : c.loop-rule.rule < length (forms_of c.args.rules.now) = omega (arith, c.loop-rule-test.true, length-map c.args.rules.now form_of) in
    let (f, is, facts) = (fact_of _ _ _ _ c.requires.analysis c.loop-rule.rule c.index.result.now lt c.index.ensures).1 in
    sound_more (forms_of c.args.rules.now) c.loop-rule.rule c.loop-rule.invariant
    (no_fault _ _ _ _ c.requires.analysis c.loop-rule.rule f c.index-fact.result.now is (facts c.index-fact.result.now c.index-fact.ensures)
    (fault_at c.index-fact.result.now _ _ _ _ _ c.deref.ensures.value c.in-None.is c.in_ok-fault.ensures))

pub returns-clause-well_formed : goal.returns-clause-well_formed
returns-clause-well_formed c = record { none = λ r lt. c.loop-rule.invariant r (omega (arith, c.loop-rule-test.false, length-map c.args.rules.now form_of)) }
