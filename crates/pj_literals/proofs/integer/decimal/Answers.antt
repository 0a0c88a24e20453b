use Rattle.std.proofs.Common.{ℕ, ◌<◌, ◌^◌, List, sym, subst, ◌∙◌, arith}
use Rattle.std.specs.Option.{SomeIff}
use Rattle.std.proofs.lemmas.Bool.Decides.{nat_tests}
use Rattle.std.proofs.lemmas.Iterator.{YieldsList-from_chars}
use Rattle.std.proofs.lemmas.Iterator.Consumers.{YieldsList-end}
use Rattle.std.proofs.lemmas.List.{map-id}
use Rattle.pj_literals.specs.Digits.{number_in}
use Rattle.pj_literals.proofs.IntegerLaws.{decimal_more}
use Rattle.pj_literals.proofs.integer.decimal.Goals as goal

pub loop-c-preserved-in-Some-to_digit : goal.loop-c-preserved-in-Some-to_digit
loop-c-preserved-in-Some-to_digit c =
    decimal_more (2 ^ 64) c.loop-c.yielded c.in-Some.c c.in-Some-to_digit.digit c.loop-c.value c.behind_digit-value.result c.loop-c.invariant
    (grind (arith, nat_tests, c.in-Some-to_digit.ensures.value)) (sym c.in-Some-to_digit.ensures.value.1) c.behind_digit-value.ensures

pub returns : goal.returns
returns c =
    let all = (YieldsList-end (YieldsList-from_chars c.args.text.now c.utf8.text cc) c.loop-c.yielded _ c.loop-c.yielded_by _ _ c.in-None.is c.next.ensures.steps).0 in
    record { value = subst (λ (cs : List ℕ). SomeIff c.loop-c.value (number_in 10 cs < 2 ^ 64) (number_in 10 cs)) (sym (map-id c.loop-c.yielded) ∙ all) c.loop-c.invariant }
