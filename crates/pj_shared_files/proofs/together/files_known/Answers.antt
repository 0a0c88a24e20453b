use Rattle.std.proofs.Common.{rules, ◌≡◌, ◌∙◌, ◌<◌, ◌++◌, ℕ, List, Ok, ap, length, map, refl, subst}
use Rattle.std.specs.FinSet as set
use Rattle.pj_cache.specs.declared.cache.Entry.{Entry}
use Rattle.pj_crew.specs.Together.{first_world}
use Rattle.pj_left_cache.specs.Leaving.{left_cache}
use Rattle.pj_names.specs.Told.{Asks, Told}
use Rattle.pj_outside.specs.Files.{Bytes}
use Rattle.pj_table.specs.Telling.{tells_of}
use Rattle.pj_table.specs.Worlds.{World}
use Rattle.pj_shared_files.proofs.AllLeft.{came_of_each, paths_left}
use Rattle.pj_shared_files.proofs.Finally.{leaves, lists}
use Rattle.pj_shared_files.proofs.Finds.{find_in_world}
use Rattle.pj_shared_files.proofs.Sharing.{run_crosses}
use Rattle.pj_shared_files.proofs.together.files_known.Goals as goal

pub returns-clause-left : goal.returns-clause-left
returns-clause-left g c = λ told.
    let world : World = first_world g.D.ClassDoor.holds c.args.doors.now.items in
    let set_of = c.args.run.now.rules.now in let found = c.args.run.now.found.now in let list = c.args.files.now in
    let made = c.in_ok-crew.crew.made.items in let all = c.in_ok-left.left in let done = c.in_ok-left.ensures in
    let came = came_of_each g.D.ClassDoor.finds c.args.doors.now.items c.work_together.new.doors.items world set_of found list (length list) made c.in_ok-crew.crew.closed.parts.items told refl c.in_ok-crew.ensures.together in
    let asks = subst (λ (w : World). (new : Told (Unit {0})) × Asks (left_cache all.entries) (tells_of tt w set.empty 0) new (Ok c.in_ok-cache.cache)) c.requires.known c.in_ok-cache.ensures.asks in
    leaves world set_of found list made told came all.entries all.rows c.in_ok-cache.cache asks.0 c.requires.paths done.entries done.rows done.texts asks.1

pub returns-clause-listed : goal.returns-clause-listed
returns-clause-listed g c = λ told.
    let world : World = first_world g.D.ClassDoor.holds c.args.doors.now.items in
    let set_of = c.args.run.now.rules.now in let found = c.args.run.now.found.now in let list = c.args.files.now in
    let made = c.in_ok-crew.crew.made.items in let done = c.in_ok-left.ensures in let note = c.in_ok-note_done.ensures in
    let came = came_of_each g.D.ClassDoor.finds c.args.doors.now.items c.work_together.new.doors.items world set_of found list (length list) made c.in_ok-crew.crew.closed.parts.items told refl c.in_ok-crew.ensures.together in
    let before = c.args.work.now in
    lists world set_of found list made told came before c.note_done.new.work (note.reused ∙ ap (λ (l : List Bytes). before.reused ++ l) done.reused) (note.analysed ∙ ap (λ (l : List Bytes). before.analysed ++ l) done.analysed) (note.ran ∙ ap (λ (l : List (Bytes × ℕ)). before.ran ++ l) done.ran)

pub returns-clause-finds : goal.returns-clause-finds
returns-clause-finds g c = λ told.
    let world : World = first_world g.D.ClassDoor.holds c.args.doors.now.items in
    let list = c.args.files.now in
    let any : 0 < length c.args.doors.now.items = search rules in
    find_in_world g.D.ClassDoor.finds c.args.doors.now.items c.work_together.new.doors.items world c.args.run.now.rules.now c.args.run.now.found.now list (length list) c.in_ok-crew.crew.made.items c.in_ok-crew.crew.closed.parts.items told refl any c.in_ok-crew.ensures.together

pub returns-clause-paths : goal.returns-clause-paths
returns-clause-paths g c =
    let many : length c.in_ok-crew.crew.made.items ≡ length c.args.files.now = search rules in
    ap (λ (es : List Entry). map (λ (e : Entry). e.path) es) (c.in_ok-cache.ensures.entries ∙ c.in_ok-left.ensures.entries) ∙ paths_left c.args.files.now c.in_ok-crew.crew.made.items many

pub work_together-requires-sync-W : goal.work_together-requires-sync-W
work_together-requires-sync-W g c κs within = search run_crosses depth 60 fits 20000
