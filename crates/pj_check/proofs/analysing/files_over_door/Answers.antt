use Rattle.std.proofs.Common.{◌≡◌, ◌∙◌, IfSome, OnOk, ap, rules, subst, sym}
use Rattle.pj_table.specs.ClassWorld.{folders_world}
use Rattle.pj_cold.specs.Steps.{CountsDoorFaults}
use Rattle.pj_check.specs.Caching.{WorkSeen}
use Rattle.pj_check.specs.Steps.{AreDoneFiles}
use Rattle.pj_cold.proofs.Asked.{counts_of}
use Rattle.pj_cold.proofs.Gathering.{asked_faults}
use Rattle.pj_check.proofs.OverCache.{done_over_door, left_over_door}
use Rattle.pj_check.proofs.analysing.files_over_door.Goals as goal

pub returns-clause-left : goal.returns-clause-left
returns-clause-left g c =
    left_over_door (g.D.ClassDoor.holds c.args.door.now) _ _ _ _ c.args.run.now.rules.now c.args.run.now.found.now c.args.files.now c.files_over_cache-left.result
    (λ folders name. c.class_folders_answer_by_name.ensures 4194304 folders name) c.new-oracle.ensures.tells c.files_over_cache-left.ensures.left

pub returns-clause-done : goal.returns-clause-done
returns-clause-done g c =
    let run = c.args.run.now in
    let before : WorkSeen = record { work = c.args.work.now; finds = g.D.ClassDoor.finds c.args.door.now } in
    let after : WorkSeen = record { work = c.files_over_cache-left.new.work; finds = g.D.ClassDoor.finds c.files_over_cache-left.new.oracle.door.now } in
    let asks = (c.files_over_cache-left.ensures.asks c.sets_have_rules.ensures.0 c.sets_have_rules.ensures.1).1 in
    let begun = ap (λ k. k.finds) asks.same_kept ∙ ap (λ t. t.kept.finds) c.new-oracle.ensures.tells in
    let counts = counts_of before.finds after.finds _ _ begun (sym (ap g.D.ClassDoor.finds c.door_of-door.ensures.same_door) ∙ c.door_of-door.ensures.finds) in
    let same : c.files_over_cache-left.new.oracle.door.now ≡ c.door-1.given.0 = search rules in
    subst (λ v. IfSome (g.D.ClassDoor.holds c.args.door.now) (λ folders. OnOk c.files_over_cache-left.result (AreDoneFiles (folders_world folders).answer run.rules.now run.found.now c.args.files.now before (record { work = c.files_over_cache-left.new.work; finds = g.D.ClassDoor.finds v })))) same
    (done_over_door (g.D.ClassDoor.holds c.args.door.now) _ _ _ _ run.rules.now run.found.now c.args.files.now before after c.files_over_cache-left.result
    c.new-oracle.ensures.tells c.files_over_cache-left.ensures.listed c.files_over_cache-left.ensures.looked counts)

-- the door is the one that was lent to the oracle
pub returns-clause-faults : goal.returns-clause-faults
returns-clause-faults g c =
    let asks = (c.files_over_cache-left.ensures.asks c.sets_have_rules.ensures.0 c.sets_have_rules.ensures.1).1 in
    let held = sym (ap (λ t. t.kept.reference) c.new-oracle.ensures.tells) ∙ sym (ap (λ k. k.reference) asks.same_kept) ∙ sym c.door_of-door.ensures.same_reference in
    let begun = ap (λ t. t.faults) c.new-oracle.ensures.tells in
    let over = asked_faults _ _ _ _ c.files_over_cache-left.result asks in
    let same : c.files_over_cache-left.new.oracle.door.now ≡ c.door-1.given.0 = search rules in
    subst (λ v. CountsDoorFaults (g.D.ClassDoor.faults c.args.door.now) (g.D.ClassDoor.faults v) c.files_over_cache-left.result) same
    (subst (λ n. CountsDoorFaults n (g.D.ClassDoor.faults c.files_over_cache-left.new.oracle.door.now) c.files_over_cache-left.result) begun over)
