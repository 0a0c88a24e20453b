use Rattle.std.proofs.Common.{◌≡◌, length, map, sym, ap, subst, ◌∙◌, arith}
use Rattle.std.proofs.lemmas.List.{length-map}
use Rattle.pj_ll.specs.Outcome.{IsTooDeepAt}
use Rattle.pj_xtokens.specs.Answer.{lexed_of}
use Rattle.pj_xgrammar.specs.declared.terminal.Behind.TheVariants as b
use Rattle.pj_xgrammar.specs.XPath.{xpath_grammar}
use Rattle.pj_xderive.proofs.Outcomes.{length_numbers, of_left_out_joined, of_left_out_shallow, of_left_out_deep}
use Rattle.pj_xderive.proofs.derive.left_out.Goals as goal

pub returns-then-not-stands_apart : goal.returns-then-not-stands_apart
returns-then-not-stands_apart c = of_left_out_joined (map lexed_of c.args.tokens.now) c.args.place c.requires.left_out (sym c.stands_apart.ensures ∙ c.if-not-stands_apart.true)

pub too_much_is_open-requires-clause-few : goal.too_much_is_open-requires-clause-few
too_much_is_open-requires-clause-few c =
    let is : length c.args.terminals.now ≡ length c.args.tokens.now = ap length c.requires.read ∙ length_numbers b.End (map lexed_of c.args.tokens.now) ∙ length-map c.args.tokens.now lexed_of in
    let few = c.requires.few in
    omega arith

pub returns-then-branch : goal.returns-then-branch
returns-then-branch c =
    of_left_out_deep (map lexed_of c.args.tokens.now) c.args.place c.requires.left_out
    (subst (λ l. IsTooDeepAt xpath_grammar l 200 c.args.place) c.requires.read (c.in_ok-too_much_is_open.ensures.deep c.if-branch.true))
    (sym c.stands_apart.ensures ∙ c.if-not-stands_apart.false)

pub returns : goal.returns
returns c =
    of_left_out_shallow (map lexed_of c.args.tokens.now) c.args.place c.requires.left_out
    (subst (λ l. IsTooDeepAt xpath_grammar l 200 c.args.place → ⊥) c.requires.read (c.in_ok-too_much_is_open.ensures.not_deep c.if-branch.false))
