use Rattle.std.proofs.Common.{◌≡◌, ◌∙◌, List, [], Ok, ap, map, refl, rules, sym}
use Rattle.std.proofs.lemmas.Result.{err_from_is_err_and}
use Rattle.pj_cache.specs.declared.cache.Entry.{Entry}
use Rattle.pj_cached_files.proofs.CacheLeft.{asks_up_to, over_refused, over_then}
use Rattle.pj_cached_files.proofs.Gathering.{StaysTold, does_all, leaves_all, lists_all, looks_all, parts_all}
use Rattle.pj_cached_files.proofs.Naming.{asks_behind, asks_no_more}
use Rattle.pj_cached_files.specs.Asked.{asked_at_all, reused_at}
use Rattle.pj_cached_files.specs.LeftFiles.{path_rows}
use Rattle.pj_cached_files.specs.declared.files.LeftFiles.{LeftFiles}
use Rattle.pj_fitting.specs.Left.{File}
use Rattle.pj_left_cache.specs.Leaving.{left_cache}
use Rattle.pj_names.proofs.Held.{asks-late}
use Rattle.pj_names.specs.Asking.{each}
use Rattle.pj_names.specs.Told.{Asks}
use Rattle.pj_cached_files.proofs.files.files_over_cache.Goals as goal

pub returns-in_err-all-clause-asks : goal.returns-in_err-all-clause-asks
returns-in_err-all-clause-asks g c = λ meant are. ([], over_refused (each (reused_at c.args.run.now.found.now c.args.run.now.rules.now meant) c.args.files.now) [] (c.in_err-all.ensures.asks meant are) (search rules))

pub returns-in_err-cache-clause-asks : goal.returns-in_err-cache-clause-asks
returns-in_err-cache-clause-asks g c = λ meant are.
    let entries = c.in_ok-all.all.entries in
    let asked = over_then (each (reused_at c.args.run.now.found.now c.args.run.now.rules.now meant) c.args.files.now) entries (c.in_ok-all.ensures.asks meant are) c.in_err-cache.ensures.asks in
    (entries, search rules)

pub returns-in_err-note_done-clause-asks : goal.returns-in_err-note_done-clause-asks
returns-in_err-note_done-clause-asks g c = λ meant are.
    let entries = c.in_ok-all.all.entries in
    (entries, asks-late (over_then (each (reused_at c.args.run.now.found.now c.args.run.now.rules.now meant) c.args.files.now) entries (c.in_ok-all.ensures.asks meant are) c.in_ok-cache.ensures.asks) (search rules))

pub returns-clause-asks : goal.returns-clause-asks
returns-clause-asks g c = λ meant are.
    let entries = c.in_ok-all.all.entries in
    (entries, over_then (each (reused_at c.args.run.now.found.now c.args.run.now.rules.now meant) c.args.files.now) entries (c.in_ok-all.ensures.asks meant are) c.in_ok-cache.ensures.asks)

pub returns-clause-left : goal.returns-clause-left
returns-clause-left g c =
    let t = g.O.Oracle.tells c.args.oracle.now in
    let u = g.O.Oracle.tells c.gather_files.new.oracle in
    let v = g.O.Oracle.tells c.left_cache.new.oracle in
    let set = c.args.run.now.rules.now in
    let done = c.in_ok-all.ensures in
    let stays : StaysTold set t u = λ meant are. let asked = done.asks meant are in (asked.same_told, asked.same_world) in
    leaves_all t u v set c.args.run.now.found.now c.args.files.now c.in_ok-all.all c.in_ok-cache.cache stays c.requires.paths done.gathered done.rows done.texts c.in_ok-cache.ensures.asks

pub returns-clause-looked : goal.returns-clause-looked
returns-clause-looked g c =
    let t = g.O.Oracle.tells c.args.oracle.now in
    let u = g.O.Oracle.tells c.gather_files.new.oracle in
    let v = g.O.Oracle.tells c.left_cache.new.oracle in
    let done = c.in_ok-all.ensures in
    looks_all t u v c.args.run.now.rules.now c.args.run.now.found.now c.args.files.now c.in_ok-all.all.entries c.in_ok-cache.cache (λ meant are. done.asks meant are) done.named c.in_ok-cache.ensures.asks done.looked

pub returns-clause-listed : goal.returns-clause-listed
returns-clause-listed g c =
    let note = c.in_ok-note_done.ensures in
    lists_all (g.O.Oracle.tells c.args.oracle.now) c.args.run.now.rules.now c.args.run.now.found.now c.args.files.now c.in_ok-all.all c.args.work.now c.note_done.new.work c.in_ok-all.ensures.listed note.reused note.analysed note.ran

pub returns-clause-done : goal.returns-clause-done
returns-clause-done g c =
    let t = g.O.Oracle.tells c.args.oracle.now in
    let note = c.in_ok-note_done.ensures in
    does_all t c.args.run.now.rules.now c.args.run.now.found.now c.args.files.now c.args.work.now c.note_done.new.work
    (lists_all t c.args.run.now.rules.now c.args.run.now.found.now c.args.files.now c.in_ok-all.all c.args.work.now c.note_done.new.work c.in_ok-all.ensures.listed note.reused note.analysed note.ran)

pub returns-clause-parts : goal.returns-clause-parts
returns-clause-parts g c =
    let note = c.in_ok-note_done.ensures in
    parts_all (map (λ (f : File). f.0) c.args.files.now) c.in_ok-all.all c.args.work.now c.note_done.new.work c.in_ok-all.ensures.parted note.reused note.analysed

pub returns-clause-paths : goal.returns-clause-paths
returns-clause-paths g c = ap (λ (es : List Entry). map (λ (e : Entry). e.path) es) c.in_ok-cache.ensures.entries ∙ c.in_ok-all.ensures.paths

pub returns-clause-rows : goal.returns-clause-rows
returns-clause-rows g c = c.in_ok-all.ensures.rows ∙ ap (λ (es : List Entry). map (path_rows c.args.run.now.rules.now) es) (sym c.in_ok-cache.ensures.entries)

pub returns-in_err-all-clause-asks_files : goal.returns-in_err-all-clause-asks_files
returns-in_err-all-clause-asks_files g c = λ meant are.
    let exit = err_from_is_err_and c.from_residual.result c.from_residual.ensures.1 in
    asks_up_to (asked_at_all c.args.run.now.found.now c.args.run.now.rules.now meant c.args.files.now) (λ (left : LeftFiles). tt) (g.O.Oracle.tells c.args.oracle.now) (g.O.Oracle.tells c.gather_files.new.oracle)
    c.from_residual.result exit.0 c.in_err-all.field-0.0 exit.1 exit.2 (c.in_err-all.ensures.asks meant are)

pub returns-in_err-cache-clause-asks_files : goal.returns-in_err-cache-clause-asks_files
returns-in_err-cache-clause-asks_files g c = λ meant are.
    let t = g.O.Oracle.tells c.args.oracle.now in
    let u = g.O.Oracle.tells c.gather_files.new.oracle in
    let set = c.args.run.now.rules.now in
    let found = c.args.run.now.found.now in
    let entries = c.in_ok-all.all.entries in
    let first = c.in_ok-all.ensures.asks meant are in
    asks_behind (asked_at_all found set meant c.args.files.now) (left_cache entries) tt t u _ _ _ first c.in_err-cache.ensures.asks
    (asks_no_more t u set found c.args.files.now entries meant are c.in_ok-all.ensures.named first) (search rules)

pub returns-in_err-note_done-clause-asks_files : goal.returns-in_err-note_done-clause-asks_files
returns-in_err-note_done-clause-asks_files g c = λ meant are.
    let t = g.O.Oracle.tells c.args.oracle.now in
    let u = g.O.Oracle.tells c.gather_files.new.oracle in
    let v = g.O.Oracle.tells c.left_cache.new.oracle in
    let set = c.args.run.now.rules.now in
    let found = c.args.run.now.found.now in
    let entries = c.in_ok-all.all.entries in
    let first = c.in_ok-all.ensures.asks meant are in
    let both : Asks (asked_at_all found set meant c.args.files.now) t v (Ok tt) =
    asks_behind (asked_at_all found set meant c.args.files.now) (left_cache entries) tt t u _ _ _ first c.in_ok-cache.ensures.asks
    (asks_no_more t u set found c.args.files.now entries meant are c.in_ok-all.ensures.named first) refl in
    asks-late both (search rules)

pub returns-clause-asks_files : goal.returns-clause-asks_files
returns-clause-asks_files g c = λ meant are.
    let t = g.O.Oracle.tells c.args.oracle.now in
    let u = g.O.Oracle.tells c.gather_files.new.oracle in
    let set = c.args.run.now.rules.now in
    let found = c.args.run.now.found.now in
    let entries = c.in_ok-all.all.entries in
    let first = c.in_ok-all.ensures.asks meant are in
    asks_behind (asked_at_all found set meant c.args.files.now) (left_cache entries) tt t u _ _ _ first c.in_ok-cache.ensures.asks
    (asks_no_more t u set found c.args.files.now entries meant are c.in_ok-all.ensures.named first) refl
