use Rattle.std.proofs.Common.{◌≡◌, ℤ, pos, ◌+ℤ◌, ap, ◌∙◌, sym, rules}
use Rattle.std.proofs.lemmas.Int.{to_z-of_z}
use Rattle.pj_xvalue.specs.Items.{Integer}
use Rattle.pj_xsteps.proofs.Ranges.{one-more}
use mir.Syntax.{w64}
use mir.Val.{to_z, of_z, SFits}
use Rattle.pj_xsteps.proofs.arithmetic.integers.Goals as goal

pub loop-place-preserved : goal.loop-place-preserved
loop-place-preserved c =
    let e = to_z-of_z w64 c.args.from c.ranges.from in
    let is : c.in_ok-z.z ≡ c.args.from +ℤ pos c.loop-place.place = first_of (assumption c.in_ok-z.ensures, cc (c.in_ok-z.ensures, e), cc (c.in_ok-z.ensures, ap (λ (z : ℤ). z +ℤ pos c.loop-place.place) e)) in
    let fits : SFits w64 c.in_ok-z.z = search rules in
    one-more (to_z w64 (of_z w64 c.args.from)) c.loop-place.items c.push.new.self c.loop-place.place _ c.in_ok-z.z c.loop-place.invariant (ap Integer (to_z-of_z w64 c.in_ok-z.z fits)) (is ∙ ap (λ (z : ℤ). z +ℤ pos c.loop-place.place) (sym e)) c.in_ok-push.ensures.ok
