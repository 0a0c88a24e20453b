use Rattle.std.proofs.Common.{◌≡◌, ◌++◌, ◌∙◌, ap, rules}
use Rattle.std.proofs.lemmas.List.{map-append}
use Rattle.pj_names.proofs.AskingLaws.{comes-then}
use Rattle.pj_types.specs.Members.{all_methods, method_view}
use Rattle.pj_members.proofs.Turns.{given-turn}
use Rattle.pj_members.proofs.receiver_methods.given_in.Goals as goal

pub loop-class-preserved : goal.loop-class-preserved
loop-class-preserved g c =
    let here = given-turn c.args.name.now (all_methods c.loop-class.found) c.as_slice-class-items.result.now c.loop-class.class-index c.class-item.result c.loop-class-test.true c.class-item.is in
    let so_far = rw here at c.loop-class.invariant in
    let further = comes-then _ so_far c.in_ok-more.ensures in
    let grown : all_methods c.append.new.self ≡ all_methods c.loop-class.found ++ all_methods c.in_ok-more.more = ap (λ l. all_methods l) (search rules) ∙ map-append method_view c.loop-class.found c.in_ok-more.more in
    rw grown further
