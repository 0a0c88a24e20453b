use Rattle.std.proofs.Common.{◌≡◌, length, map, ap, subst, ◌∙◌, arith}
use Rattle.std.proofs.lemmas.List.{length-map}
use Rattle.pj_ll.specs.Outcome as ll
use Rattle.pj_ll.specs.Steps.{ArePlaced, productions_in}
use Rattle.pj_xtokens.specs.Answer.{lexed_of}
use Rattle.pj_xgrammar.specs.declared.terminal.Behind.TheVariants as b
use Rattle.pj_xgrammar.specs.XPath.{xpath_grammar}
use Rattle.pj_xgrammar.specs.Terminals.{numbers}
use Rattle.pj_xderive.proofs.Outcomes.{length_numbers}
use Rattle.pj_xderive.proofs.derive.derivation.Goals as goal

pub run-requires : goal.run-requires
run-requires c =
    let is : length c.as_slice.result.now ≡ length c.args.tokens.now =
    ap length (c.as_slice.ensures.value ∙ c.in_ok-terminals.ensures) ∙ length_numbers b.End (map lexed_of c.args.tokens.now) ∙ length-map c.args.tokens.now lexed_of in
    let few = c.requires.few in
    record { few = omega arith }

pub returns-clause-leads : goal.returns-clause-leads
returns-clause-leads c =
    let is : c.as_slice.result.now ≡ numbers (map lexed_of c.args.tokens.now) = c.as_slice.ensures.value ∙ c.in_ok-terminals.ensures in
    c.in_ok-end.ensures.leads (productions_in c.in_ok-run.run'.steps.items)
    (subst (λ l. ll.LeadTo xpath_grammar l (productions_in c.in_ok-run.run'.steps.items) c.in_ok-run.run'.end) is c.in_ok-run.ensures.leads)

pub returns-clause-places : goal.returns-clause-places
returns-clause-places c =
    let is : c.as_slice.result.now ≡ numbers (map lexed_of c.args.tokens.now) = c.as_slice.ensures.value ∙ c.in_ok-terminals.ensures in
    subst (λ l. ArePlaced xpath_grammar l c.in_ok-run.run'.steps.items) is c.in_ok-run.ensures.places
