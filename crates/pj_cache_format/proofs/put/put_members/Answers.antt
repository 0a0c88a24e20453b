use Rattle.std.proofs.Common.{◌+◌, ℕ, List, length, take, subst}
use Rattle.std.specs.List.{All}
use Rattle.std.proofs.lemmas.List.Elements.{All-more}
use Rattle.pj_names.specs.declared.answer.Member.{Member}
use Rattle.pj_cache_format.specs.Texts.{number, member_text}
use Rattle.pj_cache_format.proofs.Written.{one_more}
use Rattle.pj_cache_format.specs.Fitting.{FitsMember}
use Rattle.pj_cache_format.proofs.put.put_members.Goals as goal

pub loop-member-preserved : goal.loop-member-preserved
loop-member-preserved c =
    let xs = c.args.members.now in
    let at = c.loop-member.member-index in
    let fit : All (FitsMember) (take (at + 1) xs) = All-more (FitsMember) xs at (c.member-item.result) c.loop-member-test.true c.loop-member.invariant.fit (subst (FitsMember) c.member-item.is c.in_ok-put_member.ensures.room) in
    let text : Member → List ℕ = λ (m : Member). member_text m in
    let put = one_more text xs at c.member-item.result c.args.out.now.items (number (length xs)) c.loop-member.out.items c.put_member.new.out.items c.loop-member-test.true c.member-item.is c.loop-member.invariant.put c.in_ok-put_member.ensures.put in
    record { put = put; fit = fit; room = c.loop-member.invariant.room }
