use Rattle.std.proofs.Common.{rules, ◌≡◌, ◌∙◌, ◌&&◌, Bool, true, false, List, [], ℕ, Option, Some, None, Ok, Err, ap, refl, subst, sym}
use Rattle.pj_cache.specs.declared.cache.CachedResult.{CachedResult}
use Rattle.pj_cache.specs.declared.cache.Entry.{Entry}
use Rattle.pj_fitting.specs.Left.{File, entry_at, results_of}
use Rattle.pj_fitting.specs.Looked.{has_no_tree, is_there}
use Rattle.pj_names.specs.Asking.{is_empty}
use Rattle.pj_names.specs.Told.{Asks}
use Rattle.pj_reuse.specs.Serving.{kept_results}
use Rattle.pj_cached_files.specs.Asked.{active_keys_of, looked_at, missing_numbers}
use Rattle.pj_cached_files.proofs.Asks.{completed_asks, completed_refused, refused_asks}
use Rattle.pj_cached_files.proofs.Leaving.{AsksReused, by_entry, evaluates_completed, left_completed, looks_completed, reused_here}
use Rattle.pj_cached_files.proofs.Gathering.{stands_in}
use Rattle.pj_cached_files.proofs.Naming.{named_completed}
use Rattle.pj_cached_files.proofs.file.entry_anew.Goals as goal

pub returns-in_err-part-clause-asks : goal.returns-in_err-part-clause-asks
returns-in_err-part-clause-asks g c =
    let t = g.O.Oracle.tells c.args.oracle.now in
    let u = g.O.Oracle.tells c.part_of.new.oracle in
    let set = c.args.run.now.rules.now in
    let found = c.args.run.now.found.now in
    let file : File = (c.args.path.now, c.args.bytes.now) in
    let tree : has_no_tree None ≡ false = refl in
    let part : Asks (kept_results found.answers [] (active_keys_of set file.0)) t u (Err c.in_err-part.field-0.0) = c.in_err-part.ensures.asks in
    by_entry t set found file None u _ c.requires.entry (λ meant are. refused_asks found.answers set meant file None tree part (search rules))

pub returns-in_err-left-clause-asks : goal.returns-in_err-left-clause-asks
returns-in_err-left-clause-asks g c =
    let t = g.O.Oracle.tells c.args.oracle.now in
    let u = g.O.Oracle.tells c.part_of.new.oracle in
    let v = g.O.Oracle.tells c.completed.new.oracle in
    let set = c.args.run.now.rules.now in
    let found = c.args.run.now.found.now in
    let file : File = (c.args.path.now, c.args.bytes.now) in
    let stay = c.in_ok-part.part.stay in
    let tree : has_no_tree None ≡ false = refl in
    let part : Asks (kept_results found.answers [] (active_keys_of set file.0)) t u (Ok stay) = c.in_ok-part.ensures.asks in
    let some : false ≡ false = refl in
    by_entry t set found file None v _ c.requires.entry (λ meant are. completed_refused found.answers set meant file None tree part some
    (subst (λ (ns : List ℕ). Asks (looked_at meant file ns) u v (Err c.in_err-left.field-0.0)) c.in_ok-part.ensures.missing (c.in_err-left.ensures.asks meant are)) (search rules))

pub returns-clause-asks : goal.returns-clause-asks
returns-clause-asks g c =
    let t = g.O.Oracle.tells c.args.oracle.now in
    let u = g.O.Oracle.tells c.part_of.new.oracle in
    let v = g.O.Oracle.tells c.completed.new.oracle in
    let set = c.args.run.now.rules.now in
    let found = c.args.run.now.found.now in
    let file : File = (c.args.path.now, c.args.bytes.now) in
    let stay = c.in_ok-part.part.stay in
    let left = c.in_ok-left.left in
    let tree : has_no_tree None ≡ false = refl in
    let part : Asks (kept_results found.answers [] (active_keys_of set file.0)) t u (Ok stay) = c.in_ok-part.ensures.asks in
    let some : false ≡ false = refl in
    by_entry t set found file None v (Ok left.is_reused) c.requires.entry (λ meant are. completed_asks found.answers set meant file None tree part some
    (subst (λ (ns : List ℕ). Asks (looked_at meant file ns) u v (Ok left.is_reused)) c.in_ok-part.ensures.missing (c.in_ok-left.ensures.asks meant are)))

pub returns-clause-left : goal.returns-clause-left
returns-clause-left g c =
    let t = g.O.Oracle.tells c.args.oracle.now in
    let u = g.O.Oracle.tells c.part_of.new.oracle in
    let v = g.O.Oracle.tells c.completed.new.oracle in
    let set = c.args.run.now.rules.now in
    let found = c.args.run.now.found.now in
    let file : File = (c.args.path.now, c.args.bytes.now) in
    let stay = c.in_ok-part.part.stay in
    let left = c.in_ok-left.left in
    let tree : has_no_tree None ≡ false = refl in
    let part : Asks (kept_results found.answers [] (active_keys_of set file.0)) t u (Ok stay) = c.in_ok-part.ensures.asks in
    let some : false ≡ false = refl in
    let asks : AsksReused t set found file v (Ok left.is_reused) =
    by_entry t set found file None v (Ok left.is_reused) c.requires.entry (λ meant are. completed_asks found.answers set meant file None tree part some
    (subst (λ (ns : List ℕ). Asks (looked_at meant file ns) u v (Ok left.is_reused)) c.in_ok-part.ensures.missing (c.in_ok-left.ensures.asks meant are))) in
    let has_tree = ap (λ (o : Option Entry). has_no_tree o) c.requires.entry ∙ tree in
    let part_there = subst (λ (o : Option Entry). Asks (kept_results found.answers (results_of o) (active_keys_of set file.0)) t u (Ok stay)) (sym c.requires.entry) part in
    λ files world rules held run. left_completed t set found file files world rules held (stands_in t set found files world rules held run) run.right c.rules_find_nodes.ensures.ascend c.requires.in_order stay left u v has_tree part_there c.in_ok-left.ensures.left asks

pub returns-clause-looked : goal.returns-clause-looked
returns-clause-looked g c =
    let t = g.O.Oracle.tells c.args.oracle.now in
    let u = g.O.Oracle.tells c.part_of.new.oracle in
    let v = g.O.Oracle.tells c.completed.new.oracle in
    let set = c.args.run.now.rules.now in
    let found = c.args.run.now.found.now in
    let file : File = (c.args.path.now, c.args.bytes.now) in
    let stay = c.in_ok-part.part.stay in
    let left = c.in_ok-left.left in
    let tree : has_no_tree None ≡ false = refl in
    let part : Asks (kept_results found.answers [] (active_keys_of set file.0)) t u (Ok stay) = c.in_ok-part.ensures.asks in
    let some : false ≡ false = refl in
    let asks : AsksReused t set found file v (Ok left.is_reused) =
    by_entry t set found file None v (Ok left.is_reused) c.requires.entry (λ meant are. completed_asks found.answers set meant file None tree part some
    (subst (λ (ns : List ℕ). Asks (looked_at meant file ns) u v (Ok left.is_reused)) c.in_ok-part.ensures.missing (c.in_ok-left.ensures.asks meant are))) in
    let has_tree = ap (λ (o : Option Entry). has_no_tree o) c.requires.entry ∙ tree in
    let part_there = subst (λ (o : Option Entry). Asks (kept_results found.answers (results_of o) (active_keys_of set file.0)) t u (Ok stay)) (sym c.requires.entry) part in
    let some_there = ap (λ (o : Option Entry). is_there o && is_empty (missing_numbers set file.0 stay)) c.requires.entry ∙ some in
    λ files world rules held run own. looks_completed t set found file files world rules held run own stay left u v has_tree part_there some_there c.in_ok-left.ensures.left asks

pub returns-clause-reused : goal.returns-clause-reused
returns-clause-reused g c =
    let t = g.O.Oracle.tells c.args.oracle.now in
    let u = g.O.Oracle.tells c.part_of.new.oracle in
    let v = g.O.Oracle.tells c.completed.new.oracle in
    let set = c.args.run.now.rules.now in
    let found = c.args.run.now.found.now in
    let file : File = (c.args.path.now, c.args.bytes.now) in
    let stay = c.in_ok-part.part.stay in
    let left = c.in_ok-left.left in
    let tree : has_no_tree None ≡ false = refl in
    let part : Asks (kept_results found.answers [] (active_keys_of set file.0)) t u (Ok stay) = c.in_ok-part.ensures.asks in
    let some : false ≡ false = refl in
    let asks : AsksReused t set found file v (Ok left.is_reused) =
    by_entry t set found file None v (Ok left.is_reused) c.requires.entry (λ meant are. completed_asks found.answers set meant file None tree part some
    (subst (λ (ns : List ℕ). Asks (looked_at meant file ns) u v (Ok left.is_reused)) c.in_ok-part.ensures.missing (c.in_ok-left.ensures.asks meant are))) in
    λ files world rules held run. reused_here t set found file files world rules held run v left.is_reused asks

pub returns-clause-ran : goal.returns-clause-ran
returns-clause-ran g c =
    let t = g.O.Oracle.tells c.args.oracle.now in
    let u = g.O.Oracle.tells c.part_of.new.oracle in
    let v = g.O.Oracle.tells c.completed.new.oracle in
    let set = c.args.run.now.rules.now in
    let found = c.args.run.now.found.now in
    let file : File = (c.args.path.now, c.args.bytes.now) in
    let stay = c.in_ok-part.part.stay in
    let left = c.in_ok-left.left in
    let tree : has_no_tree None ≡ false = refl in
    let part : Asks (kept_results found.answers [] (active_keys_of set file.0)) t u (Ok stay) = c.in_ok-part.ensures.asks in
    let some : false ≡ false = refl in
    let asks : AsksReused t set found file v (Ok left.is_reused) =
    by_entry t set found file None v (Ok left.is_reused) c.requires.entry (λ meant are. completed_asks found.answers set meant file None tree part some
    (subst (λ (ns : List ℕ). Asks (looked_at meant file ns) u v (Ok left.is_reused)) c.in_ok-part.ensures.missing (c.in_ok-left.ensures.asks meant are))) in
    let part_there = subst (λ (o : Option Entry). Asks (kept_results found.answers (results_of o) (active_keys_of set file.0)) t u (Ok stay)) (sym c.requires.entry) part in
    λ files world rules held run. evaluates_completed t set found file files world rules held run stay left u v part_there c.in_ok-left.ensures.left asks

pub returns-clause-named : goal.returns-clause-named
returns-clause-named g c =
    let t = g.O.Oracle.tells c.args.oracle.now in
    let u = g.O.Oracle.tells c.part_of.new.oracle in
    let set = c.args.run.now.rules.now in
    let found = c.args.run.now.found.now in
    let file : File = (c.args.path.now, c.args.bytes.now) in
    let stay = c.in_ok-part.part.stay in
    let left = c.in_ok-left.left in
    let tree : has_no_tree None ≡ false = refl in
    let part : Asks (kept_results found.answers [] (active_keys_of set file.0)) t u (Ok stay) = c.in_ok-part.ensures.asks in
    let some : false ≡ false = refl in
    let has_tree = ap (λ (o : Option Entry). has_no_tree o) c.requires.entry ∙ tree in
    let part_there = subst (λ (o : Option Entry). Asks (kept_results found.answers (results_of o) (active_keys_of set file.0)) t u (Ok stay)) (sym c.requires.entry) part in
    let some_there = ap (λ (o : Option Entry). is_there o && is_empty (missing_numbers set file.0 stay)) c.requires.entry ∙ some in
    named_completed t set found file has_tree u stay part_there left some_there c.in_ok-left.ensures.left

pub returns-clause-path : goal.returns-clause-path
returns-clause-path g c = c.in_ok-left.ensures.left.path
