use Rattle.std.proofs.Common.{rules, arith, ap, refl, sym}
use Rattle.std.specs.Prelude.{None}
use Rattle.pj_names.specs.Asking.{first_hit}
use Rattle.pj_names.proofs.AskingLaws.{asks-refused, asks-return, comes-begin, comes-ends, comes-then}
use Rattle.pj_outer_names.specs.Around.{classes_around}
use Rattle.pj_scopes.proofs.Turns.{comes-as, searched-end, searched-turn}
use Rattle.pj_calls.specs.Candidates.{of_around}
use Rattle.pj_calls.proofs.Turns.{all-around}
use Rattle.pj_calls.proofs.unqualified.around.Goals as goal

pub loop-class-init : goal.loop-class-init
loop-class-init g c = record {
  so_far = comes-as (ap (first_hit (of_around c.args.file.now c.args.name.now)) (sym (all-around (classes_around c.args.file.now c.args.n)))) comes-begin;
  inside = c.requires.inside;
}

pub returns-in_err-hit : goal.returns-in_err-hit
returns-in_err-hit g c =
    let f = of_around c.args.file.now c.args.name.now in
    let given = searched-turn c.args.file.now c.tree.result.now c.loop-class.inside c.in-Some.class None c.next_searched.result c.tree.ensures c.next_searched.ensures.value c.in-Some.is in
    let so_far = comes-as (ap (first_hit f) given) c.loop-class.invariant.so_far in
    comes-ends so_far (asks-refused _ c.in_err-hit.ensures (search rules))

pub returns-in-Some-hit : goal.returns-in-Some-hit
returns-in-Some-hit g c =
    let f = of_around c.args.file.now c.args.name.now in
    let given = searched-turn c.args.file.now c.tree.result.now c.loop-class.inside c.in-Some.class None c.next_searched.result c.tree.ensures c.next_searched.ensures.value c.in-Some.is in
    let so_far = comes-as (ap (first_hit f) given) c.loop-class.invariant.so_far in
    let found = rw c.in-Some-hit.is at c.in_ok-hit.ensures in
    comes-ends (comes-then _ so_far found) (asks-return refl)

pub loop-class-preserved : goal.loop-class-preserved
loop-class-preserved g c =
    let f = of_around c.args.file.now c.args.name.now in
    let given = searched-turn c.args.file.now c.tree.result.now c.loop-class.inside c.in-Some.class None c.next_searched.result c.tree.ensures c.next_searched.ensures.value c.in-Some.is in
    let before = rw c.in-Some.is at c.next_searched.ensures.before in
    let so_far = comes-as (ap (first_hit f) given) c.loop-class.invariant.so_far in
    let missed = rw c.in_default-hit.is at c.in_ok-hit.ensures in
    record { so_far = comes-then _ so_far missed; inside = omega (arith, before, c.loop-class.invariant.inside) }

pub returns : goal.returns
returns g c =
    let f = of_around c.args.file.now c.args.name.now in
    let none = searched-end c.args.file.now c.tree.result.now c.loop-class.inside None c.next_searched.result c.tree.ensures c.next_searched.ensures.value c.in_default.is in
    comes-ends (comes-as (ap (first_hit f) none) c.loop-class.invariant.so_far) (asks-return refl)
