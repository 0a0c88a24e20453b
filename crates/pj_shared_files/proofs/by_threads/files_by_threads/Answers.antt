use Rattle.std.proofs.Common.{rules, ◌≡◌, ◌∙◌, ◌<◌, ℕ, IsTrue, ap, length, subst, sym}
use Rattle.std.specs.Option.{option_map}
use Rattle.std.specs.Prelude.{Result, OnOk, is_some}
use Rattle.pj_cached_files.specs.declared.files.LeftFiles.{LeftFiles}
use Rattle.pj_crew.specs.Opening.{with_finds}
use Rattle.pj_names.specs.declared.oracle.AskFault.{AskFault}
use Rattle.pj_outside.specs.Doors.{TakesFaults, opened}
use Rattle.pj_outside.specs.Faults.{Rises}
use Rattle.pj_table.specs.Rule.{total}
use Rattle.pj_table.specs.Worlds.{CountsFaults, World}
use Rattle.pj_workers.specs.declared.work.Work.{Work}
use Rattle.pj_shared_files.proofs.ByThreads.{faults_taken, found_by_new, no_faults, none_taken, on_ok, open_failed, open_wanting, some_mapped, world_of_first}
use Rattle.pj_shared_files.specs.InWorlds.{FindInWorld, FoundInWorld, ListsIn}
use Rattle.pj_shared_files.proofs.by_threads.files_by_threads.Goals as goal
use Rattle.pj_shared_files.proofs.by_threads.files_by_threads.Goals.{in-Ok, in-Err-Failed, in-Err-Memory}

pub returns-clause-faults : goal.returns-clause-faults
returns-clause-faults g c =
    let old = g.C.ClassPath.faults c.args.classes.now in let mid = g.C.ClassPath.faults c.open_doors-opened.new.classes in let new = g.C.ClassPath.faults c.shut_doors.new.classes in
    let counts = g.C.Door.ClassDoor.faults in
    let none = no_faults g.C.Door.ClassDoor.holds g.C.Door.ClassDoor.finds counts _ c.open_doors-opened.new.doors.items c.open_doors-opened.ensures.doors in
    elim c.match-opened.branch [
      | in-Ok w ↦
          subst (λ (r : Result LeftFiles AskFault). CountsFaults old new r) (sym w.left-is)
          (faults_taken w.files_together-left.result old mid new (total counts c.open_doors-opened.new.doors.items) (total counts w.files_together-left.new.doors.items) w.in-Ok.ensures.faults none w.files_together-left.ensures.faults
          (subst (λ ds. TakesFaults mid new (total counts ds.items)) w.doors-is c.shut_doors.ensures.faults))
      | in-Err-Failed w ↦
          subst (λ (r : Result LeftFiles AskFault). CountsFaults old new r) (sym w.left-is)
          (subst (λ (n : ℕ). Rises old n) (sym (none_taken mid new (total counts c.open_doors-opened.new.doors.items) none (subst (λ ds. TakesFaults mid new (total counts ds.items)) w.doors-is c.shut_doors.ensures.faults)))
          (open_failed old mid c.open_doors-opened.result (search rules) c.open_doors-opened.ensures.faults))
      | in-Err-Memory w ↦
          subst (λ (r : Result LeftFiles AskFault). CountsFaults old new r) (sym w.left-is)
          (none_taken mid new (total counts c.open_doors-opened.new.doors.items) none (subst (λ ds. TakesFaults mid new (total counts ds.items)) w.doors-is c.shut_doors.ensures.faults) ∙ open_wanting old mid c.open_doors-opened.result (search rules) c.open_doors-opened.ensures.faults)
    ]

pub returns-clause-listed : goal.returns-clause-listed
returns-clause-listed g c = λ told.
    let world : World = option_map (λ held. opened held c.args.folders.now) (g.C.ClassPath.holds c.args.classes.now) in
    let set_of = c.args.run.now.rules.now in let found = c.args.run.now.found.now in let list = c.args.files.now in let before = c.args.work.now in
    let doors = c.open_doors-opened.new.doors.items in
    elim c.match-opened.branch [
      | in-Ok w ↦
          (let any : 0 < length doors = search rules in
          let is = world_of_first g.C.Door.ClassDoor.holds g.C.Door.ClassDoor.finds g.C.Door.ClassDoor.faults world doors c.open_doors-opened.ensures.doors any in
          let done = subst (λ (x : World). IsTrue (is_some x) → OnOk w.files_together-left.result (ListsIn x set_of found list before w.files_together-left.new.work)) is w.files_together-left.ensures.listed
          (some_mapped (λ held. opened held c.args.folders.now) (g.C.ClassPath.holds c.args.classes.now) told) in
          subst (λ (r : Result LeftFiles AskFault). OnOk r (ListsIn world set_of found list before c.match-opened.work)) (sym w.left-is)
          (subst (λ (v : Work). OnOk w.files_together-left.result (ListsIn world set_of found list before v)) (sym w.work-is) done))
      | in-Err-Failed w ↦ subst (λ (r : Result LeftFiles AskFault). OnOk r (ListsIn world set_of found list before c.match-opened.work)) (sym w.left-is) tt
      | in-Err-Memory w ↦ subst (λ (r : Result LeftFiles AskFault). OnOk r (ListsIn world set_of found list before c.match-opened.work)) (sym w.left-is) tt
    ]

pub returns-clause-finds : goal.returns-clause-finds
returns-clause-finds g c = λ told.
    let world : World = option_map (λ held. opened held c.args.folders.now) (g.C.ClassPath.holds c.args.classes.now) in
    let set_of = c.args.run.now.rules.now in let found = c.args.run.now.found.now in let list = c.args.files.now in
    let old = g.C.ClassPath.finds c.args.classes.now in let new = g.C.ClassPath.finds c.shut_doors.new.classes in let finds = g.C.Door.ClassDoor.finds in
    let doors = c.open_doors-opened.new.doors.items in
    elim c.match-opened.branch [
      | in-Ok w ↦
          (let any : 0 < length doors = search rules in
          let after = w.files_together-left.new.doors.items in
          let is = world_of_first g.C.Door.ClassDoor.holds finds g.C.Door.ClassDoor.faults world doors c.open_doors-opened.ensures.doors any in
          let find = subst (λ (x : World). IsTrue (is_some x) → OnOk w.files_together-left.result (FindInWorld finds x set_of found list doors after)) is w.files_together-left.ensures.finds
          (some_mapped (λ held. opened held c.args.folders.now) (g.C.ClassPath.holds c.args.classes.now) told) in
          let counted : new ≡ with_finds finds after old = subst (λ ds. new ≡ with_finds finds ds.items (g.C.ClassPath.finds c.open_doors-opened.new.classes)) w.doors-is c.shut_doors.ensures.finds ∙ ap (with_finds finds after) c.open_doors-opened.ensures.same_finds in
          subst (λ (r : Result LeftFiles AskFault). OnOk r (FoundInWorld world set_of found list old new)) (sym w.left-is)
          (on_ok w.files_together-left.result (λ is_found. found_by_new g.C.Door.ClassDoor.holds finds g.C.Door.ClassDoor.faults world set_of found list doors after old new c.open_doors-opened.ensures.doors is_found counted) find))
      | in-Err-Failed w ↦ subst (λ (r : Result LeftFiles AskFault). OnOk r (FoundInWorld world set_of found list old new)) (sym w.left-is) tt
      | in-Err-Memory w ↦ subst (λ (r : Result LeftFiles AskFault). OnOk r (FoundInWorld world set_of found list old new)) (sym w.left-is) tt
    ]
