use Rattle.std.proofs.Common.{rules, ◌≡◌, ◌∙◌, ◌&&◌, Bool, true, false, List, [], ℕ, Option, Some, None, Ok, Err, ap, refl, subst, sym}
use Rattle.pj_cache.specs.declared.cache.CachedResult.{CachedResult}
use Rattle.pj_cache.specs.declared.cache.Entry.{Entry}
use Rattle.pj_fitting.specs.Left.{File, entry_at, results_of}
use Rattle.pj_fitting.specs.Looked.{has_no_tree, is_there}
use Rattle.pj_names.specs.Asking.{is_empty}
use Rattle.pj_names.specs.Told.{Asks}
use Rattle.pj_reuse.specs.Serving.{kept_results}
use Rattle.pj_cached_files.specs.Asked.{active_keys_of, looked_at, missing_numbers}
use Rattle.pj_cached_files.specs.Completed.{IsUsedAgain}
use Rattle.pj_cached_files.proofs.Asks.{completed_asks, completed_refused, is_none, is_some, refused_asks, served_asks, stopped_asks, treeless_asks}
use Rattle.pj_cached_files.proofs.Leaving.{AsksReused, by_entry, evaluates_completed, evaluates_none, left_completed, left_served, left_without_tree, looks_completed, looks_served, looks_without_tree, reused_here}
use Rattle.pj_cached_files.proofs.Gathering.{stands_in}
use Rattle.pj_cached_files.proofs.Naming.{named_again, named_completed, named_none}
use Rattle.pj_cached_files.proofs.file.entry_again.Goals as goal

pub returns-then-says_no_tree-clause-left : goal.returns-then-says_no_tree-clause-left
returns-then-says_no_tree-clause-left g c =
    let t = g.O.Oracle.tells c.args.oracle.now in
    let set = c.args.run.now.rules.now in
    let found = c.args.run.now.found.now in
    let file : File = (c.args.path.now, c.args.bytes.now) in
    let e = c.args.old.now in
    let left = c.in_ok-used_again.field-0 in
    let tree = sym c.says_no_tree.ensures ∙ c.if-says_no_tree.true in
    let again = subst (λ (s : List CachedResult). IsUsedAgain file e.head s left) c.new.ensures c.in_ok-used_again.ensures in
    let asks : AsksReused t set found file t (Ok left.is_reused) =
    by_entry t set found file (Some e) t (Ok left.is_reused) c.requires.entry (λ meant are. treeless_asks found.answers set meant file (Some e) tree (ap (λ (b : Bool). Ok b) again.reused)) in
    λ files world rules held run. left_without_tree t set found file files world rules held (stands_in t set found files world rules held run) run.right e left t c.requires.entry tree again asks

pub returns-then-says_no_tree-clause-looked : goal.returns-then-says_no_tree-clause-looked
returns-then-says_no_tree-clause-looked g c =
    let t = g.O.Oracle.tells c.args.oracle.now in
    let set = c.args.run.now.rules.now in
    let found = c.args.run.now.found.now in
    let file : File = (c.args.path.now, c.args.bytes.now) in
    let e = c.args.old.now in
    let left = c.in_ok-used_again.field-0 in
    let tree = sym c.says_no_tree.ensures ∙ c.if-says_no_tree.true in
    let asks : AsksReused t set found file t (Ok left.is_reused) =
    by_entry t set found file (Some e) t (Ok left.is_reused) c.requires.entry (λ meant are. treeless_asks found.answers set meant file (Some e) tree (ap (λ (b : Bool). Ok b) c.in_ok-used_again.ensures.reused)) in
    λ files world rules held run own. looks_without_tree t set found file files world rules held run own c.requires.in_order e t left.is_reused c.in_ok-used_again.ensures.reused c.requires.entry tree asks

pub returns-in_err-part-clause-asks : goal.returns-in_err-part-clause-asks
returns-in_err-part-clause-asks g c =
    let t = g.O.Oracle.tells c.args.oracle.now in
    let u = g.O.Oracle.tells c.part_of.new.oracle in
    let set = c.args.run.now.rules.now in
    let found = c.args.run.now.found.now in
    let file : File = (c.args.path.now, c.args.bytes.now) in
    let e = c.args.old.now in
    let tree = sym c.says_no_tree.ensures ∙ c.if-says_no_tree.false in
    let part = subst (λ (os : List CachedResult). Asks (kept_results found.answers os (active_keys_of set file.0)) t u (Err c.in_err-part.field-0.0)) c.as_slice.ensures c.in_err-part.ensures.asks in
    by_entry t set found file (Some e) u _ c.requires.entry (λ meant are. refused_asks found.answers set meant file (Some e) tree part (search rules))

pub returns-in_err-used_again-2-clause-asks : goal.returns-in_err-used_again-2-clause-asks
returns-in_err-used_again-2-clause-asks g c =
    let t = g.O.Oracle.tells c.args.oracle.now in
    let u = g.O.Oracle.tells c.part_of.new.oracle in
    let set = c.args.run.now.rules.now in
    let found = c.args.run.now.found.now in
    let file : File = (c.args.path.now, c.args.bytes.now) in
    let e = c.args.old.now in
    let tree = sym c.says_no_tree.ensures ∙ c.if-says_no_tree.false in
    let part = subst (λ (os : List CachedResult). Asks (kept_results found.answers os (active_keys_of set file.0)) t u (Ok c.in_ok-part.part.stay)) c.as_slice.ensures c.in_ok-part.ensures.asks in
    by_entry t set found file (Some e) u _ c.requires.entry (λ meant are. stopped_asks found.answers set meant file (Some e) tree part (search rules))

pub returns-then-is_empty-clause-asks : goal.returns-then-is_empty-clause-asks
returns-then-is_empty-clause-asks g c =
    let t = g.O.Oracle.tells c.args.oracle.now in
    let u = g.O.Oracle.tells c.part_of.new.oracle in
    let set = c.args.run.now.rules.now in
    let found = c.args.run.now.found.now in
    let file : File = (c.args.path.now, c.args.bytes.now) in
    let e = c.args.old.now in
    let stay = c.in_ok-part.part.stay in
    let tree = sym c.says_no_tree.ensures ∙ c.if-says_no_tree.false in
    let part = subst (λ (os : List CachedResult). Asks (kept_results found.answers os (active_keys_of set file.0)) t u (Ok stay)) c.as_slice.ensures c.in_ok-part.ensures.asks in
    let none : missing_numbers set file.0 stay ≡ [] = sym c.in_ok-part.ensures.missing ∙ is_none c.in_ok-part.part.missing (sym c.is_empty.ensures ∙ c.if-is_empty.true) in
    by_entry t set found file (Some e) u _ c.requires.entry (λ meant are. served_asks found.answers set meant file (Some e) tree refl part none (ap (λ (b : Bool). Ok b) c.in_ok-used_again-2.ensures.reused))

pub returns-then-is_empty-clause-left : goal.returns-then-is_empty-clause-left
returns-then-is_empty-clause-left g c =
    let t = g.O.Oracle.tells c.args.oracle.now in
    let u = g.O.Oracle.tells c.part_of.new.oracle in
    let set = c.args.run.now.rules.now in
    let found = c.args.run.now.found.now in
    let file : File = (c.args.path.now, c.args.bytes.now) in
    let e = c.args.old.now in
    let stay = c.in_ok-part.part.stay in
    let left = c.in_ok-used_again-2.field-0 in
    let tree = sym c.says_no_tree.ensures ∙ c.if-says_no_tree.false in
    let part = subst (λ (os : List CachedResult). Asks (kept_results found.answers os (active_keys_of set file.0)) t u (Ok stay)) c.as_slice.ensures c.in_ok-part.ensures.asks in
    let none : missing_numbers set file.0 stay ≡ [] = sym c.in_ok-part.ensures.missing ∙ is_none c.in_ok-part.part.missing (sym c.is_empty.ensures ∙ c.if-is_empty.true) in
    let asks : AsksReused t set found file u (Ok left.is_reused) =
    by_entry t set found file (Some e) u (Ok left.is_reused) c.requires.entry (λ meant are. served_asks found.answers set meant file (Some e) tree refl part none (ap (λ (b : Bool). Ok b) c.in_ok-used_again-2.ensures.reused)) in
    λ files world rules held run. left_served t set found file files world rules held (stands_in t set found files world rules held run) run.right c.requires.in_order e stay left u u c.requires.entry tree part none c.in_ok-used_again-2.ensures asks

pub returns-then-is_empty-clause-looked : goal.returns-then-is_empty-clause-looked
returns-then-is_empty-clause-looked g c =
    let t = g.O.Oracle.tells c.args.oracle.now in
    let u = g.O.Oracle.tells c.part_of.new.oracle in
    let set = c.args.run.now.rules.now in
    let found = c.args.run.now.found.now in
    let file : File = (c.args.path.now, c.args.bytes.now) in
    let e = c.args.old.now in
    let stay = c.in_ok-part.part.stay in
    let left = c.in_ok-used_again-2.field-0 in
    let tree = sym c.says_no_tree.ensures ∙ c.if-says_no_tree.false in
    let part = subst (λ (os : List CachedResult). Asks (kept_results found.answers os (active_keys_of set file.0)) t u (Ok stay)) c.as_slice.ensures c.in_ok-part.ensures.asks in
    let none : missing_numbers set file.0 stay ≡ [] = sym c.in_ok-part.ensures.missing ∙ is_none c.in_ok-part.part.missing (sym c.is_empty.ensures ∙ c.if-is_empty.true) in
    let asks : AsksReused t set found file u (Ok left.is_reused) =
    by_entry t set found file (Some e) u (Ok left.is_reused) c.requires.entry (λ meant are. served_asks found.answers set meant file (Some e) tree refl part none (ap (λ (b : Bool). Ok b) c.in_ok-used_again-2.ensures.reused)) in
    λ files world rules held run own. looks_served t set found file files world rules held run own e stay u u left.is_reused c.in_ok-used_again-2.ensures.reused c.requires.entry tree part none asks

pub returns-in_err-left-clause-asks : goal.returns-in_err-left-clause-asks
returns-in_err-left-clause-asks g c =
    let t = g.O.Oracle.tells c.args.oracle.now in
    let u = g.O.Oracle.tells c.part_of.new.oracle in
    let v = g.O.Oracle.tells c.completed.new.oracle in
    let set = c.args.run.now.rules.now in
    let found = c.args.run.now.found.now in
    let file : File = (c.args.path.now, c.args.bytes.now) in
    let e = c.args.old.now in
    let stay = c.in_ok-part.part.stay in
    let tree = sym c.says_no_tree.ensures ∙ c.if-says_no_tree.false in
    let part = subst (λ (os : List CachedResult). Asks (kept_results found.answers os (active_keys_of set file.0)) t u (Ok stay)) c.as_slice.ensures c.in_ok-part.ensures.asks in
    let some = subst (λ (ns : List ℕ). is_empty ns ≡ false) c.in_ok-part.ensures.missing (is_some c.in_ok-part.part.missing (sym c.is_empty.ensures ∙ c.if-is_empty.false)) in
    by_entry t set found file (Some e) v _ c.requires.entry (λ meant are. completed_refused found.answers set meant file (Some e) tree part some
    (subst (λ (ns : List ℕ). Asks (looked_at meant file ns) u v (Err c.in_err-left.field-0.0)) c.in_ok-part.ensures.missing (c.in_err-left.ensures.asks meant are)) (search rules))

pub returns-clause-asks : goal.returns-clause-asks
returns-clause-asks g c =
    let t = g.O.Oracle.tells c.args.oracle.now in
    let u = g.O.Oracle.tells c.part_of.new.oracle in
    let v = g.O.Oracle.tells c.completed.new.oracle in
    let set = c.args.run.now.rules.now in
    let found = c.args.run.now.found.now in
    let file : File = (c.args.path.now, c.args.bytes.now) in
    let e = c.args.old.now in
    let stay = c.in_ok-part.part.stay in
    let left = c.in_ok-left.left in
    let tree = sym c.says_no_tree.ensures ∙ c.if-says_no_tree.false in
    let part = subst (λ (os : List CachedResult). Asks (kept_results found.answers os (active_keys_of set file.0)) t u (Ok stay)) c.as_slice.ensures c.in_ok-part.ensures.asks in
    let some = subst (λ (ns : List ℕ). is_empty ns ≡ false) c.in_ok-part.ensures.missing (is_some c.in_ok-part.part.missing (sym c.is_empty.ensures ∙ c.if-is_empty.false)) in
    by_entry t set found file (Some e) v (Ok left.is_reused) c.requires.entry (λ meant are. completed_asks found.answers set meant file (Some e) tree part some
    (subst (λ (ns : List ℕ). Asks (looked_at meant file ns) u v (Ok left.is_reused)) c.in_ok-part.ensures.missing (c.in_ok-left.ensures.asks meant are)))

pub returns-clause-left : goal.returns-clause-left
returns-clause-left g c =
    let t = g.O.Oracle.tells c.args.oracle.now in
    let u = g.O.Oracle.tells c.part_of.new.oracle in
    let v = g.O.Oracle.tells c.completed.new.oracle in
    let set = c.args.run.now.rules.now in
    let found = c.args.run.now.found.now in
    let file : File = (c.args.path.now, c.args.bytes.now) in
    let e = c.args.old.now in
    let stay = c.in_ok-part.part.stay in
    let left = c.in_ok-left.left in
    let tree = sym c.says_no_tree.ensures ∙ c.if-says_no_tree.false in
    let part = subst (λ (os : List CachedResult). Asks (kept_results found.answers os (active_keys_of set file.0)) t u (Ok stay)) c.as_slice.ensures c.in_ok-part.ensures.asks in
    let some = subst (λ (ns : List ℕ). is_empty ns ≡ false) c.in_ok-part.ensures.missing (is_some c.in_ok-part.part.missing (sym c.is_empty.ensures ∙ c.if-is_empty.false)) in
    let asks : AsksReused t set found file v (Ok left.is_reused) =
    by_entry t set found file (Some e) v (Ok left.is_reused) c.requires.entry (λ meant are. completed_asks found.answers set meant file (Some e) tree part some
    (subst (λ (ns : List ℕ). Asks (looked_at meant file ns) u v (Ok left.is_reused)) c.in_ok-part.ensures.missing (c.in_ok-left.ensures.asks meant are))) in
    let has_tree = ap (λ (o : Option Entry). has_no_tree o) c.requires.entry ∙ tree in
    let part_there = subst (λ (o : Option Entry). Asks (kept_results found.answers (results_of o) (active_keys_of set file.0)) t u (Ok stay)) (sym c.requires.entry) part in
    λ files world rules held run. left_completed t set found file files world rules held (stands_in t set found files world rules held run) run.right c.rules_find_nodes.ensures.ascend c.requires.in_order stay left u v has_tree part_there c.in_ok-left.ensures.left asks

pub returns-clause-looked : goal.returns-clause-looked
returns-clause-looked g c =
    let t = g.O.Oracle.tells c.args.oracle.now in
    let u = g.O.Oracle.tells c.part_of.new.oracle in
    let v = g.O.Oracle.tells c.completed.new.oracle in
    let set = c.args.run.now.rules.now in
    let found = c.args.run.now.found.now in
    let file : File = (c.args.path.now, c.args.bytes.now) in
    let e = c.args.old.now in
    let stay = c.in_ok-part.part.stay in
    let left = c.in_ok-left.left in
    let tree = sym c.says_no_tree.ensures ∙ c.if-says_no_tree.false in
    let part = subst (λ (os : List CachedResult). Asks (kept_results found.answers os (active_keys_of set file.0)) t u (Ok stay)) c.as_slice.ensures c.in_ok-part.ensures.asks in
    let some = subst (λ (ns : List ℕ). is_empty ns ≡ false) c.in_ok-part.ensures.missing (is_some c.in_ok-part.part.missing (sym c.is_empty.ensures ∙ c.if-is_empty.false)) in
    let asks : AsksReused t set found file v (Ok left.is_reused) =
    by_entry t set found file (Some e) v (Ok left.is_reused) c.requires.entry (λ meant are. completed_asks found.answers set meant file (Some e) tree part some
    (subst (λ (ns : List ℕ). Asks (looked_at meant file ns) u v (Ok left.is_reused)) c.in_ok-part.ensures.missing (c.in_ok-left.ensures.asks meant are))) in
    let has_tree = ap (λ (o : Option Entry). has_no_tree o) c.requires.entry ∙ tree in
    let part_there = subst (λ (o : Option Entry). Asks (kept_results found.answers (results_of o) (active_keys_of set file.0)) t u (Ok stay)) (sym c.requires.entry) part in
    let some_there = ap (λ (o : Option Entry). is_there o && is_empty (missing_numbers set file.0 stay)) c.requires.entry ∙ some in
    λ files world rules held run own. looks_completed t set found file files world rules held run own stay left u v has_tree part_there some_there c.in_ok-left.ensures.left asks

pub returns-then-says_no_tree-clause-reused : goal.returns-then-says_no_tree-clause-reused
returns-then-says_no_tree-clause-reused g c =
    let t = g.O.Oracle.tells c.args.oracle.now in
    let set = c.args.run.now.rules.now in
    let found = c.args.run.now.found.now in
    let file : File = (c.args.path.now, c.args.bytes.now) in
    let e = c.args.old.now in
    let left = c.in_ok-used_again.field-0 in
    let tree = sym c.says_no_tree.ensures ∙ c.if-says_no_tree.true in
    let asks : AsksReused t set found file t (Ok left.is_reused) =
    by_entry t set found file (Some e) t (Ok left.is_reused) c.requires.entry (λ meant are. treeless_asks found.answers set meant file (Some e) tree (ap (λ (b : Bool). Ok b) c.in_ok-used_again.ensures.reused)) in
    λ files world rules held run. reused_here t set found file files world rules held run t left.is_reused asks

pub returns-then-says_no_tree-clause-ran : goal.returns-then-says_no_tree-clause-ran
returns-then-says_no_tree-clause-ran g c =
    let t = g.O.Oracle.tells c.args.oracle.now in
    let set = c.args.run.now.rules.now in
    let found = c.args.run.now.found.now in
    let file : File = (c.args.path.now, c.args.bytes.now) in
    let e = c.args.old.now in
    let left = c.in_ok-used_again.field-0 in
    let tree = sym c.says_no_tree.ensures ∙ c.if-says_no_tree.true in
    let asks : AsksReused t set found file t (Ok left.is_reused) =
    by_entry t set found file (Some e) t (Ok left.is_reused) c.requires.entry (λ meant are. treeless_asks found.answers set meant file (Some e) tree (ap (λ (b : Bool). Ok b) c.in_ok-used_again.ensures.reused)) in
    λ files world rules held run. evaluates_none t set found file files world rules held run t left.is_reused left.ran c.in_ok-used_again.ensures.reused asks c.in_ok-used_again.ensures.ran

pub returns-then-says_no_tree-clause-named : goal.returns-then-says_no_tree-clause-named
returns-then-says_no_tree-clause-named g c =
    let t = g.O.Oracle.tells c.args.oracle.now in
    let set = c.args.run.now.rules.now in
    let found = c.args.run.now.found.now in
    let file : File = (c.args.path.now, c.args.bytes.now) in
    let e = c.args.old.now in
    let left = c.in_ok-used_again.field-0 in
    let tree = sym c.says_no_tree.ensures ∙ c.if-says_no_tree.true in
    let again = subst (λ (s : List CachedResult). IsUsedAgain file e.head s left) c.new.ensures c.in_ok-used_again.ensures in
    named_none t set found file e.head left again

pub returns-then-says_no_tree-clause-path : goal.returns-then-says_no_tree-clause-path
returns-then-says_no_tree-clause-path g c = c.in_ok-used_again.ensures.path

pub returns-then-is_empty-clause-reused : goal.returns-then-is_empty-clause-reused
returns-then-is_empty-clause-reused g c =
    let t = g.O.Oracle.tells c.args.oracle.now in
    let u = g.O.Oracle.tells c.part_of.new.oracle in
    let set = c.args.run.now.rules.now in
    let found = c.args.run.now.found.now in
    let file : File = (c.args.path.now, c.args.bytes.now) in
    let e = c.args.old.now in
    let stay = c.in_ok-part.part.stay in
    let left = c.in_ok-used_again-2.field-0 in
    let tree = sym c.says_no_tree.ensures ∙ c.if-says_no_tree.false in
    let part = subst (λ (os : List CachedResult). Asks (kept_results found.answers os (active_keys_of set file.0)) t u (Ok stay)) c.as_slice.ensures c.in_ok-part.ensures.asks in
    let none : missing_numbers set file.0 stay ≡ [] = sym c.in_ok-part.ensures.missing ∙ is_none c.in_ok-part.part.missing (sym c.is_empty.ensures ∙ c.if-is_empty.true) in
    let asks : AsksReused t set found file u (Ok left.is_reused) =
    by_entry t set found file (Some e) u (Ok left.is_reused) c.requires.entry (λ meant are. served_asks found.answers set meant file (Some e) tree refl part none (ap (λ (b : Bool). Ok b) c.in_ok-used_again-2.ensures.reused)) in
    λ files world rules held run. reused_here t set found file files world rules held run u left.is_reused asks

pub returns-then-is_empty-clause-ran : goal.returns-then-is_empty-clause-ran
returns-then-is_empty-clause-ran g c =
    let t = g.O.Oracle.tells c.args.oracle.now in
    let u = g.O.Oracle.tells c.part_of.new.oracle in
    let set = c.args.run.now.rules.now in
    let found = c.args.run.now.found.now in
    let file : File = (c.args.path.now, c.args.bytes.now) in
    let e = c.args.old.now in
    let stay = c.in_ok-part.part.stay in
    let left = c.in_ok-used_again-2.field-0 in
    let tree = sym c.says_no_tree.ensures ∙ c.if-says_no_tree.false in
    let part = subst (λ (os : List CachedResult). Asks (kept_results found.answers os (active_keys_of set file.0)) t u (Ok stay)) c.as_slice.ensures c.in_ok-part.ensures.asks in
    let none : missing_numbers set file.0 stay ≡ [] = sym c.in_ok-part.ensures.missing ∙ is_none c.in_ok-part.part.missing (sym c.is_empty.ensures ∙ c.if-is_empty.true) in
    let asks : AsksReused t set found file u (Ok left.is_reused) =
    by_entry t set found file (Some e) u (Ok left.is_reused) c.requires.entry (λ meant are. served_asks found.answers set meant file (Some e) tree refl part none (ap (λ (b : Bool). Ok b) c.in_ok-used_again-2.ensures.reused)) in
    λ files world rules held run. evaluates_none t set found file files world rules held run u left.is_reused left.ran c.in_ok-used_again-2.ensures.reused asks c.in_ok-used_again-2.ensures.ran

pub returns-then-is_empty-clause-named : goal.returns-then-is_empty-clause-named
returns-then-is_empty-clause-named g c =
    let t = g.O.Oracle.tells c.args.oracle.now in
    let u = g.O.Oracle.tells c.part_of.new.oracle in
    let set = c.args.run.now.rules.now in
    let found = c.args.run.now.found.now in
    let file : File = (c.args.path.now, c.args.bytes.now) in
    let e = c.args.old.now in
    let stay = c.in_ok-part.part.stay in
    let left = c.in_ok-used_again-2.field-0 in
    let tree = sym c.says_no_tree.ensures ∙ c.if-says_no_tree.false in
    let part = subst (λ (os : List CachedResult). Asks (kept_results found.answers os (active_keys_of set file.0)) t u (Ok stay)) c.as_slice.ensures c.in_ok-part.ensures.asks in
    let has_tree = ap (λ (o : Option Entry). has_no_tree o) c.requires.entry ∙ tree in
    let part_there = subst (λ (o : Option Entry). Asks (kept_results found.answers (results_of o) (active_keys_of set file.0)) t u (Ok stay)) (sym c.requires.entry) part in
    named_again t set found file has_tree u stay part_there e.head left c.in_ok-used_again-2.ensures

pub returns-then-is_empty-clause-path : goal.returns-then-is_empty-clause-path
returns-then-is_empty-clause-path g c = c.in_ok-used_again-2.ensures.path

pub returns-clause-reused : goal.returns-clause-reused
returns-clause-reused g c =
    let t = g.O.Oracle.tells c.args.oracle.now in
    let u = g.O.Oracle.tells c.part_of.new.oracle in
    let v = g.O.Oracle.tells c.completed.new.oracle in
    let set = c.args.run.now.rules.now in
    let found = c.args.run.now.found.now in
    let file : File = (c.args.path.now, c.args.bytes.now) in
    let e = c.args.old.now in
    let stay = c.in_ok-part.part.stay in
    let left = c.in_ok-left.left in
    let tree = sym c.says_no_tree.ensures ∙ c.if-says_no_tree.false in
    let part = subst (λ (os : List CachedResult). Asks (kept_results found.answers os (active_keys_of set file.0)) t u (Ok stay)) c.as_slice.ensures c.in_ok-part.ensures.asks in
    let some = subst (λ (ns : List ℕ). is_empty ns ≡ false) c.in_ok-part.ensures.missing (is_some c.in_ok-part.part.missing (sym c.is_empty.ensures ∙ c.if-is_empty.false)) in
    let asks : AsksReused t set found file v (Ok left.is_reused) =
    by_entry t set found file (Some e) v (Ok left.is_reused) c.requires.entry (λ meant are. completed_asks found.answers set meant file (Some e) tree part some
    (subst (λ (ns : List ℕ). Asks (looked_at meant file ns) u v (Ok left.is_reused)) c.in_ok-part.ensures.missing (c.in_ok-left.ensures.asks meant are))) in
    λ files world rules held run. reused_here t set found file files world rules held run v left.is_reused asks

pub returns-clause-ran : goal.returns-clause-ran
returns-clause-ran g c =
    let t = g.O.Oracle.tells c.args.oracle.now in
    let u = g.O.Oracle.tells c.part_of.new.oracle in
    let v = g.O.Oracle.tells c.completed.new.oracle in
    let set = c.args.run.now.rules.now in
    let found = c.args.run.now.found.now in
    let file : File = (c.args.path.now, c.args.bytes.now) in
    let e = c.args.old.now in
    let stay = c.in_ok-part.part.stay in
    let left = c.in_ok-left.left in
    let tree = sym c.says_no_tree.ensures ∙ c.if-says_no_tree.false in
    let part = subst (λ (os : List CachedResult). Asks (kept_results found.answers os (active_keys_of set file.0)) t u (Ok stay)) c.as_slice.ensures c.in_ok-part.ensures.asks in
    let some = subst (λ (ns : List ℕ). is_empty ns ≡ false) c.in_ok-part.ensures.missing (is_some c.in_ok-part.part.missing (sym c.is_empty.ensures ∙ c.if-is_empty.false)) in
    let asks : AsksReused t set found file v (Ok left.is_reused) =
    by_entry t set found file (Some e) v (Ok left.is_reused) c.requires.entry (λ meant are. completed_asks found.answers set meant file (Some e) tree part some
    (subst (λ (ns : List ℕ). Asks (looked_at meant file ns) u v (Ok left.is_reused)) c.in_ok-part.ensures.missing (c.in_ok-left.ensures.asks meant are))) in
    let part_there = subst (λ (o : Option Entry). Asks (kept_results found.answers (results_of o) (active_keys_of set file.0)) t u (Ok stay)) (sym c.requires.entry) part in
    λ files world rules held run. evaluates_completed t set found file files world rules held run stay left u v part_there c.in_ok-left.ensures.left asks

pub returns-clause-named : goal.returns-clause-named
returns-clause-named g c =
    let t = g.O.Oracle.tells c.args.oracle.now in
    let u = g.O.Oracle.tells c.part_of.new.oracle in
    let set = c.args.run.now.rules.now in
    let found = c.args.run.now.found.now in
    let file : File = (c.args.path.now, c.args.bytes.now) in
    let e = c.args.old.now in
    let stay = c.in_ok-part.part.stay in
    let left = c.in_ok-left.left in
    let tree = sym c.says_no_tree.ensures ∙ c.if-says_no_tree.false in
    let part = subst (λ (os : List CachedResult). Asks (kept_results found.answers os (active_keys_of set file.0)) t u (Ok stay)) c.as_slice.ensures c.in_ok-part.ensures.asks in
    let some = subst (λ (ns : List ℕ). is_empty ns ≡ false) c.in_ok-part.ensures.missing (is_some c.in_ok-part.part.missing (sym c.is_empty.ensures ∙ c.if-is_empty.false)) in
    let has_tree = ap (λ (o : Option Entry). has_no_tree o) c.requires.entry ∙ tree in
    let part_there = subst (λ (o : Option Entry). Asks (kept_results found.answers (results_of o) (active_keys_of set file.0)) t u (Ok stay)) (sym c.requires.entry) part in
    let some_there = ap (λ (o : Option Entry). is_there o && is_empty (missing_numbers set file.0 stay)) c.requires.entry ∙ some in
    named_completed t set found file has_tree u stay part_there left some_there c.in_ok-left.ensures.left

pub returns-clause-path : goal.returns-clause-path
returns-clause-path g c = c.in_ok-left.ensures.left.path
