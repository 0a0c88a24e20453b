use Rattle.std.proofs.Common.{rules, ◌≡◌, ◌<◌, ◌+◌, ◌-◌, arith, length, refl, subst, sym, ◌∙◌}
use Rattle.pj_names.proofs.AskingLaws.{ComesTo, asks-refused, asks-return, asks-stop, comes-begin, comes-ends, comes-then}
use Rattle.pj_written.specs.Names.{next_candidate}
use Rattle.pj_outer_names.specs.Candidates.{file_classes, first_candidate}
use Rattle.pj_outer_names.proofs.Turns.{candidate-begin, candidate-next, candidate-none, candidate-turn}
use Rattle.pj_outer_names.proofs.candidates.first_candidate.Goals as goal

pub returns-in_err-candidate : goal.returns-in_err-candidate
returns-in_err-candidate g c = asks-stop (search rules)

pub loop-dot-init : goal.loop-dot-init
loop-dot-init g c =
    let classes = file_classes c.args.file.now in
    let t = g.O.Oracle.tells c.args.oracle.now in
    subst (λ m. ComesTo (first_candidate classes c.args.text.now) t m t) (candidate-begin classes c.args.text.now c.in_ok-candidate.candidate c.in_ok-candidate.ensures) comes-begin

pub returns-in_err-hit : goal.returns-in_err-hit
returns-in_err-hit g c =
    let left = length c.args.text.now + 1 - c.loop-dot._dot in
    let some : 0 < left = omega arith in
    let so_far = candidate-turn (file_classes c.args.file.now) left c.loop-dot.candidate some c.loop-dot.invariant in
    let asked = rw c.as_str.ensures at c.in_err-hit.ensures in
    comes-ends so_far (asks-refused _ asked (search rules))

pub returns-in-Some : goal.returns-in-Some
returns-in-Some g c =
    let left = length c.args.text.now + 1 - c.loop-dot._dot in
    let some : 0 < left = omega arith in
    let so_far = candidate-turn (file_classes c.args.file.now) left c.loop-dot.candidate some c.loop-dot.invariant in
    let found = rw (c.as_str.ensures, c.in-Some.is) at c.in_ok-hit.ensures in
    comes-ends (comes-then _ so_far found) (asks-return refl)

pub returns-in_err-next : goal.returns-in_err-next
returns-in_err-next g c =
    let left = length c.args.text.now + 1 - c.loop-dot._dot in
    let some : 0 < left = omega arith in
    let so_far = candidate-turn (file_classes c.args.file.now) left c.loop-dot.candidate some c.loop-dot.invariant in
    let missed = rw (c.as_str.ensures, c.in_default.is) at c.in_ok-hit.ensures in
    comes-ends (comes-then _ so_far missed) (asks-stop (search rules))

pub returns-in_default-2 : goal.returns-in_default-2
returns-in_default-2 g c =
    let classes = file_classes c.args.file.now in
    let left = length c.args.text.now + 1 - c.loop-dot._dot in
    let some : 0 < left = omega arith in
    let so_far = candidate-turn classes left c.loop-dot.candidate some c.loop-dot.invariant in
    let missed = rw (c.as_str.ensures, c.in_default.is) at c.in_ok-hit.ensures in
    let next = rw c.as_str-in-loop-dot.ensures at c.in_ok-next.ensures in
    let none = sym next ∙ c.in_default-2.is in
    comes-ends (candidate-none classes (left - 1) (next_candidate c.loop-dot.candidate) none (comes-then _ so_far missed)) (asks-return refl)

pub loop-dot-preserved : goal.loop-dot-preserved
loop-dot-preserved g c =
    let classes = file_classes c.args.file.now in
    let left = length c.args.text.now + 1 - c.loop-dot._dot in
    let fewer = length c.args.text.now + 1 - (c.loop-dot._dot + 1) in
    let some : 0 < left = omega arith in
    let so_far = candidate-turn classes left c.loop-dot.candidate some c.loop-dot.invariant in
    let missed = rw (c.as_str.ensures, c.in_default.is) at c.in_ok-hit.ensures in
    let next = rw c.as_str-in-loop-dot.ensures at c.in_ok-next.ensures in
    let some_next = sym next ∙ c.in-Some-2.is in
    let same : left - 1 ≡ fewer = omega arith in
    candidate-next classes (left - 1) fewer (next_candidate c.loop-dot.candidate) _ some_next same (comes-then _ so_far missed)

pub returns : goal.returns
returns g c =
    let none : length c.args.text.now + 1 - c.loop-dot._dot ≡ 0 = omega arith in
    comes-ends (rw none at c.loop-dot.invariant) (asks-return refl)
