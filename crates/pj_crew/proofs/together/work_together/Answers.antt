use Rattle.std.proofs.Common.{◌∙◌, ap, rules, subst, sym}
use Rattle.std.proofs.lemmas.Result.{IfOk-weaker}
use Rattle.pj_table.specs.Worlds.{World}
use Rattle.pj_crew.proofs.Whole.{joined_of, made_of}
use Rattle.pj_crew.proofs.Worked.{counts, doors_stay, files_are, of_first, own_is}
use Rattle.pj_crew.specs.Together.{AreOfWorld, IsMadeByAll}
use Rattle.pj_crew.specs.declared.together.CrewResult.{CrewResult}
use Rattle.pj_crew.proofs.together.work_together.Goals as goal

pub put_together-requires-clause-table : goal.put_together-requires-clause-table
put_together-requires-clause-table g c =
    let begun = c.in_ok-table.ensures in let work = c.work_all-ends.ensures.worked in
    (c.work_all-ends.ensures.table.0 ∙ begun.0, ap (λ l. l.number) (own_is _ _ _ _ _ _ _ _ _ _ work) ∙ begun.1)

pub put_together-requires-clause-files : goal.put_together-requires-clause-files
put_together-requires-clause-files g c = files_are _ _ _ _ _ _ _ _ _ _ c.work_all-ends.ensures.worked ∙ c.in_ok-table.ensures.2

pub put_together-requires-clause-joined : goal.put_together-requires-clause-joined
put_together-requires-clause-joined g c =
    let holds = g.D.ClassDoor.holds in let doors = c.args.doors.now.items in let world = holds c.index.result.now in
    let all : AreOfWorld holds world doors = subst (λ (w : World). AreOfWorld holds w doors) (of_first holds doors c.index.result.now (search rules) c.index.ensures) c.requires.world in
    joined_of _ holds _ _ _ world c.args.files doors _ _ _ _ c.in_ok-table.ensures.3 c.work_all-ends.ensures.worked all (search rules)

pub returns-clause-same_doors : goal.returns-clause-same_doors
returns-clause-same_doors g c = doors_stay _ _ _ _ _ _ _ _ _ _ c.work_all-ends.ensures.worked

pub returns-clause-faults : goal.returns-clause-faults
returns-clause-faults g c = counts _ _ _ _ _ _ _ _ _ _ c.work_all-ends.ensures.worked c.put_together.result c.put_together.ensures.failed c.put_together.ensures.not_failed

pub returns-clause-together : goal.returns-clause-together
returns-clause-together g c =
    let holds = g.D.ClassDoor.holds in let finds = g.D.ClassDoor.finds in let faults = g.D.ClassDoor.faults in let comes = g.W.FileWork.comes c.args.work.now in
    let doors = c.args.doors.now.items in let world = holds c.index.result.now in
    let same = of_first holds doors c.index.result.now (search rules) c.index.ensures in
    let all : AreOfWorld holds world doors = subst (λ (w : World). AreOfWorld holds w doors) same c.requires.world in
    IfOk-weaker c.put_together.result _ _ (λ (crew : CrewResult g.row.W-Made.Denot) put.
    subst (λ (w : World). IsMadeByAll w comes finds c.args.files doors c.work_all-ends.new.doors.items crew.made.items crew.closed.parts.items) (sym same)
    (made_of _ holds finds faults comes world c.args.files doors _ _ _ _ c.in_ok-table.ensures.3 c.work_all-ends.ensures.worked all crew.made.items crew.closed.parts.items put)) c.put_together.ensures.put
