use Rattle.std.proofs.Common.{◌≡◌, ◌∙◌, IfSome, OnOk, ap, rules, subst, sym}
use Rattle.pj_table.specs.ClassWorld.{folders_world}
use Rattle.pj_cold.specs.Finds.{CountsAsked}
use Rattle.pj_cold.specs.Steps.{CountsDoorFaults}
use Rattle.pj_cold.proofs.Asked.{counts_of, counts_over_door}
use Rattle.pj_cold.proofs.Gathering.{asked_faults, rows_over_door}
use Rattle.pj_cold.proofs.cold.file_results.Goals as goal

pub returns-clause-found : goal.returns-clause-found
returns-clause-found g c =
    rows_over_door (g.D.ClassDoor.holds c.args.door.now) _ _ _ _ c.args.rules.now c.args.files.now c.analyse_files-found.result c.new-oracle.ensures.tells c.analyse_files-found.ensures.found

-- the door is the one that was lent to the oracle
pub returns-clause-faults : goal.returns-clause-faults
returns-clause-faults g c =
    let asks = c.analyse_files-found.ensures.asks c.sets_have_rules.ensures.0 c.sets_have_rules.ensures.1 in
    let held = sym (ap (λ t. t.kept.reference) c.new-oracle.ensures.tells) ∙ sym (ap (λ k. k.reference) asks.same_kept) ∙ sym c.door_of-door.ensures.same_reference in
    let begun = ap (λ t. t.faults) c.new-oracle.ensures.tells in
    let over = asked_faults _ _ _ _ c.analyse_files-found.result asks in
    let same : c.analyse_files-found.new.oracle.door.now ≡ c.door-1.given.0 = search rules in
    subst (λ v. CountsDoorFaults (g.D.ClassDoor.faults c.args.door.now) (g.D.ClassDoor.faults v) c.analyse_files-found.result) same
    (subst (λ n. CountsDoorFaults n (g.D.ClassDoor.faults c.analyse_files-found.new.oracle.door.now) c.analyse_files-found.result) begun over)

pub returns-clause-finds : goal.returns-clause-finds
returns-clause-finds g c =
    let asks = c.analyse_files-found.ensures.asks c.sets_have_rules.ensures.0 c.sets_have_rules.ensures.1 in
    let begun = ap (λ k. k.finds) asks.same_kept ∙ ap (λ t. t.kept.finds) c.new-oracle.ensures.tells in
    let counts = counts_of (g.D.ClassDoor.finds c.args.door.now) (g.D.ClassDoor.finds c.analyse_files-found.new.oracle.door.now) _ _ begun (sym (ap g.D.ClassDoor.finds c.door_of-door.ensures.same_door) ∙ c.door_of-door.ensures.finds) in
    let same : c.analyse_files-found.new.oracle.door.now ≡ c.door-1.given.0 = search rules in
    subst (λ v. IfSome (g.D.ClassDoor.holds c.args.door.now) (λ folders. OnOk c.analyse_files-found.result (CountsAsked (folders_world folders).answer c.args.files.now c.args.rules.now (g.D.ClassDoor.finds c.args.door.now) (g.D.ClassDoor.finds v)))) same
    (counts_over_door (g.D.ClassDoor.holds c.args.door.now) _ _ _ _ c.args.rules.now c.args.files.now c.analyse_files-found.result (g.D.ClassDoor.finds c.args.door.now) (g.D.ClassDoor.finds c.analyse_files-found.new.oracle.door.now)
    c.sets_have_rules.ensures.0 c.sets_have_rules.ensures.1 c.new-oracle.ensures.tells asks c.analyse_files-found.ensures.found counts)
