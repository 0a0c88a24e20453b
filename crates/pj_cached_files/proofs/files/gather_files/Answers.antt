use Rattle.std.proofs.Common.{◌≡◌, ◌++◌, ◌∙◌, Bool, List, [], ◌∷◌, Ok, Err, add-one, ap, arith, map, refl, rules, subst, sym, take}
use Rattle.std.proofs.lemmas.List.{take_all}
use Rattle.std.specs.List.{AllByRecursion}
use Rattle.pj_cache.specs.declared.cache.Entry.{Entry}
use Rattle.pj_cached_files.proofs.Gathering.{StaysTold, gathers_last, gathers_none, lists_last, lists_none, looks_last, looks_none, parted_last, parted_none, paths_last, rows_last}
use Rattle.pj_cached_files.proofs.Naming.{named_last}
use Rattle.pj_cached_files.proofs.OneMore.{all_last}
use Rattle.pj_cached_files.specs.Asked.{reused_at}
use Rattle.pj_cached_files.specs.Gathered.{AreParted, Gathers, HasText, ListsGathered, NamesAreAskedAt}
use Rattle.pj_cached_files.specs.LeftFiles.{LooksAtAll, path_rows}
use Rattle.pj_cached_files.specs.declared.files.Gathered.{Gathered}
use Rattle.pj_fitting.specs.Left.{File}
use Rattle.pj_names.proofs.AskingLaws.{asks-refused, asks-return, asks-then}
use Rattle.pj_names.specs.Asking.{Return}
use Rattle.pj_names.specs.declared.oracle.AskFault.TheVariants.{Memory}
use Rattle.pj_workers.proofs.Running.{stands, turn_begin, turn_ends, turn_refused, turn_stops, turn_then}
use Rattle.pj_cached_files.proofs.files.gather_files.Goals as goal

pub loop-file-init : goal.loop-file-init
loop-file-init g c =
    let t = g.O.Oracle.tells c.args.oracle.now in
    let set = c.args.run.now.rules.now in
    let found = c.args.run.now.found.now in
    let all = c.new-all.result in
    let is = c.new-all.ensures in
    record {
      asks = λ meant are. ([], turn_begin (reused_at found set meant) c.args.files.now t [] refl);
      gathered = gathers_none t set found all (ap (λ (a : Gathered). a.entries) is);
      listed = lists_none t set found all (ap (λ (a : Gathered). a.reused) is) (ap (λ (a : Gathered). a.analysed) is) (ap (λ (a : Gathered). a.ran) is);
      parted = parted_none all (ap (λ (a : Gathered). a.reused) is) (ap (λ (a : Gathered). a.analysed) is);
      paths = ap (λ (a : Gathered). map (λ (e : Entry). e.path) a.entries) is;
      rows = ap (λ (a : Gathered). a.rows) is ∙ ap (λ (a : Gathered). map (path_rows set) a.entries) (sym is);
      texts = subst (λ (a : Gathered). AllByRecursion HasText a.entries) (sym is) tt;
      looked = looks_none t set found;
      named = subst (λ (a : Gathered). NamesAreAskedAt t set found [] a.entries) (sym is) (λ meant are is_told depth far. tt);
    }

pub loop-file-preserved : goal.loop-file-preserved
loop-file-preserved g c =
    let t = g.O.Oracle.tells c.args.oracle.now in
    let u = g.O.Oracle.tells c.loop-file.oracle in
    let v = g.O.Oracle.tells c.next_entry.new.oracle in
    let set = c.args.run.now.rules.now in
    let found = c.args.run.now.found.now in
    let i = c.loop-file.file-index in
    let files = c.args.files.now in
    let file = c.file-item.result in
    let left = c.in_ok-left.left in
    let all = c.loop-file.all in
    let more = c.put.new.self in
    let kept = c.loop-file.invariant in
    let step = c.in_ok-left.ensures in
    let put = c.in_ok-put.ensures in
    let at = stands files i file c.loop-file-test.true c.file-item.is in
    let stays : StaysTold set t u = λ meant are. let so_far = (kept.asks meant are).1 in (so_far.same_told, so_far.same_world) in
    record {
      asks = λ meant are.
          let so_far = kept.asks meant are in
          (so_far.0 ++ left.is_reused ∷ [], turn_then (reused_at found set meant) files t so_far.0 (so_far.0 ++ left.is_reused ∷ []) i file left.is_reused u v at so_far.1 (step.asks meant are) refl);
      gathered = rw (add-one) (subst (λ (fs : List File). Gathers t set found fs more) (sym at.taken) (gathers_last t u set found (take i files) file all more left stays kept.gathered step.left put.entries));
      listed = rw (add-one) (subst (λ (fs : List File). ListsGathered t set found fs more) (sym at.taken) (lists_last t u set found (take i files) file all more left stays kept.listed step.reused step.ran step.path put.reused put.analysed put.ran));
      parted = rw (add-one) (subst (λ (fs : List File). AreParted (map (λ (f : File). f.0) fs) more) (sym at.taken) (parted_last (take i files) file all more left.entry.path left.is_reused kept.parted step.path put.reused put.analysed));
      paths = rw (add-one) (subst (λ (fs : List File). map (λ (e : Entry). e.path) more.entries ≡ map (λ (f : File). f.0) fs) (sym at.taken) (paths_last (take i files) file all.entries more.entries left.entry kept.paths put.entries step.path));
      rows = rows_last set all.entries more.entries all.rows more.rows left.entry kept.rows put.entries put.rows;
      texts = subst (λ (es : List Entry). AllByRecursion HasText es) (sym put.entries) (all_last HasText all.entries left.entry kept.texts put.text);
      looked = rw (add-one) (subst (λ (fs : List File). LooksAtAll t v.asked set found fs) (sym at.taken) (looks_last t u v.asked set found (take i files) file stays kept.looked step.looked));
      named = rw (add-one) (subst (λ (fs : List File). NamesAreAskedAt t set found fs more.entries) (sym at.taken) (named_last t u set found (take i files) file all.entries more.entries left.entry stays kept.named step.named put.entries));
    }

pub returns-in_err-left-clause-asks : goal.returns-in_err-left-clause-asks
returns-in_err-left-clause-asks g c = λ meant are.
    let files = c.args.files.now in
    let i = c.loop-file.file-index in
    let at = stands files i c.file-item.result c.loop-file-test.true c.file-item.is in
    let so_far = c.loop-file.invariant.asks meant are in
    let e = c.in_err-left.field-0.0 in
    asks-refused (λ (reused : List Bool). Return tt)
    (turn_refused (reused_at c.args.run.now.found.now c.args.run.now.rules.now meant) files (g.O.Oracle.tells c.args.oracle.now) so_far.0 i c.file-item.result e (g.O.Oracle.tells c.loop-file.oracle) (g.O.Oracle.tells c.next_entry.new.oracle) (Err e) at so_far.1
    (c.in_err-left.ensures.asks meant are) refl)
    (search rules)

pub returns-in_err-put-clause-asks : goal.returns-in_err-put-clause-asks
returns-in_err-put-clause-asks g c = λ meant are.
    let files = c.args.files.now in
    let i = c.loop-file.file-index in
    let at = stands files i c.file-item.result c.loop-file-test.true c.file-item.is in
    let so_far = c.loop-file.invariant.asks meant are in
    asks-refused (λ (reused : List Bool). Return tt)
    (turn_stops (reused_at c.args.run.now.found.now c.args.run.now.rules.now meant) files (g.O.Oracle.tells c.args.oracle.now) so_far.0 i c.file-item.result c.in_ok-left.left.is_reused (g.O.Oracle.tells c.loop-file.oracle) (g.O.Oracle.tells c.next_entry.new.oracle) (Err Memory) at so_far.1
    (c.in_ok-left.ensures.asks meant are) refl)
    (search rules)

pub returns-clause-asks : goal.returns-clause-asks
returns-clause-asks g c = λ meant are.
    let so_far = c.loop-file.invariant.asks meant are in
    asks-then (λ (reused : List Bool). Return tt)
    (turn_ends (reused_at c.args.run.now.found.now c.args.run.now.rules.now meant) c.args.files.now (g.O.Oracle.tells c.args.oracle.now) so_far.0 c.loop-file.file-index (g.O.Oracle.tells c.loop-file.oracle) (Ok so_far.0) (omega (arith, c.loop-file-test.false)) so_far.1 refl)
    (asks-return refl)

pub returns-clause-gathered : goal.returns-clause-gathered
returns-clause-gathered g c =
    subst (λ (fs : List File). Gathers (g.O.Oracle.tells c.args.oracle.now) c.args.run.now.rules.now c.args.run.now.found.now fs c.loop-file.all) (take_all c.loop-file.file-index c.args.files.now (omega (arith, c.loop-file-test.false)))
    c.loop-file.invariant.gathered

pub returns-clause-looked : goal.returns-clause-looked
returns-clause-looked g c =
    let asked = (g.O.Oracle.tells c.loop-file.oracle).asked in
    subst (λ (fs : List File). LooksAtAll (g.O.Oracle.tells c.args.oracle.now) asked c.args.run.now.rules.now c.args.run.now.found.now fs) (take_all c.loop-file.file-index c.args.files.now (omega (arith, c.loop-file-test.false)))
    c.loop-file.invariant.looked

pub returns-clause-listed : goal.returns-clause-listed
returns-clause-listed g c =
    subst (λ (fs : List File). ListsGathered (g.O.Oracle.tells c.args.oracle.now) c.args.run.now.rules.now c.args.run.now.found.now fs c.loop-file.all) (take_all c.loop-file.file-index c.args.files.now (omega (arith, c.loop-file-test.false)))
    c.loop-file.invariant.listed

pub returns-clause-parted : goal.returns-clause-parted
returns-clause-parted g c =
    subst (λ (fs : List File). AreParted (map (λ (f : File). f.0) fs) c.loop-file.all) (take_all c.loop-file.file-index c.args.files.now (omega (arith, c.loop-file-test.false)))
    c.loop-file.invariant.parted

pub returns-clause-paths : goal.returns-clause-paths
returns-clause-paths g c =
    subst (λ (fs : List File). map (λ (e : Entry). e.path) c.loop-file.all.entries ≡ map (λ (f : File). f.0) fs) (take_all c.loop-file.file-index c.args.files.now (omega (arith, c.loop-file-test.false)))
    c.loop-file.invariant.paths

pub returns-clause-named : goal.returns-clause-named
returns-clause-named g c =
    subst (λ (fs : List File). NamesAreAskedAt (g.O.Oracle.tells c.args.oracle.now) c.args.run.now.rules.now c.args.run.now.found.now fs c.loop-file.all.entries) (take_all c.loop-file.file-index c.args.files.now (omega (arith, c.loop-file-test.false)))
    c.loop-file.invariant.named
