use Rattle.std.proofs.Common.{◌≡◌, ℕ, ◌+◌, ◌*◌, ap, ◌%◌, ◌^◌, List, sym, subst, ◌∙◌, arith}
use Rattle.std.proofs.lemmas.Bool.Decides.{nat_tests}
use Rattle.std.proofs.lemmas.Iterator.{YieldsList-from_chars}
use Rattle.std.proofs.lemmas.Iterator.Consumers.{YieldsList-end}
use Rattle.std.proofs.lemmas.List.{map-id}
use Rattle.pj_literals.specs.Digits.{number_in}
use Rattle.pj_literals.proofs.IntegerLaws.{low_more}
use Rattle.pj_literals.proofs.integer.low_bits.Goals as goal

pub loop-c-preserved-in-Some-to_digit : goal.loop-c-preserved-in-Some-to_digit
loop-c-preserved-in-Some-to_digit c =
    let step = low_more (2 ^ 64) c.args.radix c.loop-c.yielded c.in-Some.c c.in-Some-to_digit.digit c.loop-c.value c.loop-c.invariant
    (grind (arith, nat_tests, c.in-Some-to_digit.ensures.value)) (sym c.in-Some-to_digit.ensures.value.1) in
    ap (λ x. (c.loop-c.value * x % 2 ^ 64 + c.from-in-Some-to_digit.result) % 2 ^ 64) c.from.ensures
    ∙ ap (λ x. (c.loop-c.value * c.args.radix % 2 ^ 64 + x) % 2 ^ 64) c.from-in-Some-to_digit.ensures ∙ step

pub returns : goal.returns
returns c =
    let all = (YieldsList-end (YieldsList-from_chars c.args.text.now c.utf8.text cc) c.loop-c.yielded _ c.loop-c.yielded_by _ _ c.in-None.is c.next.ensures.steps).0 in
    record { value = subst (λ (cs : List ℕ). c.loop-c.value ≡ number_in c.args.radix cs % 2 ^ 64) (sym (map-id c.loop-c.yielded) ∙ all) c.loop-c.invariant }
