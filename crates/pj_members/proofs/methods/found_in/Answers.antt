use Rattle.std.proofs.Common.{◌≡◌, ◌++◌, ◌∙◌, ap, rules}
use Rattle.std.proofs.lemmas.List.{map-append}
use Rattle.pj_names.proofs.AskingLaws.{comes-then}
use Rattle.pj_types.specs.Members.{all_methods, method_view}
use Rattle.pj_members.proofs.Turns.{found-turn}
use Rattle.pj_members.proofs.methods.found_in.Goals as goal

pub loop-ty-preserved : goal.loop-ty-preserved
loop-ty-preserved g c =
    let here = found-turn c.args.class.now c.args.name.now (all_methods c.loop-ty.found) c.as_slice-ty-items.result.now c.loop-ty.ty-index c.ty-item.result c.loop-ty-test.true c.ty-item.is in
    let so_far = rw here at c.loop-ty.invariant in
    let further = comes-then _ so_far c.in_ok-more.ensures in
    let grown : all_methods c.append.new.self ≡ all_methods c.loop-ty.found ++ all_methods c.in_ok-more.more = ap (λ l. all_methods l) (search rules) ∙ map-append method_view c.loop-ty.found c.in_ok-more.more in
    rw grown further
