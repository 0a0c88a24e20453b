use Rattle.std.proofs.Common.{◌≡◌, ap, refl, rules, subst, sym}
use Rattle.pj_names.specs.Told.{Asks}
use Rattle.pj_names.proofs.NotingLaws.{asks-noted, notes-noted}
use Rattle.pj_workers.specs.Views.{AreRight, file_seen, if_active}
use Rattle.pj_workers.proofs.Holding.{right_alike}
use Rattle.pj_workers.proofs.runs.noted_result.Goals as goal

pub result_if_active-requires-clause-right : goal.result_if_active-requires-clause-right
result_if_active-requires-clause-right g c = right_alike (file_seen c.args.file.now).tree _ _ refl (λ d. refl) c.args.held.now c.args.types.now.entries c.requires.right

pub returns-clause-asks : goal.returns-clause-asks
returns-clause-asks g c = λ meant is.
    let m = if_active c.args.is_active c.args.file.now.path.now (file_seen c.args.file.now) meant in
    let held = sym (ap (λ k. k.reference) c.result_if_active.ensures.kept) in
    let over = asks-noted _ _ _ _ _ _ m _ _ (c.result_if_active.ensures.asks meant is) in
    let same : c.result_if_active.new.oracle.inner.now ≡ c.oracle-1.given.0 = search rules in
    subst (λ o. Asks m (g.O.Oracle.tells c.args.oracle.now) (g.O.Oracle.tells o) c.result_if_active.result) same over

pub returns-clause-notes : goal.returns-clause-notes
returns-clause-notes g c = λ meant is.
    let asked = c.result_if_active.ensures.asks meant is in
    let held = sym (ap (λ k. k.own) asked.same_kept) in
    let over = notes-noted _ _ _ _ _ _ (if_active c.args.is_active c.args.file.now.path.now (file_seen c.args.file.now) meant) _ _ asked in
    search rules

pub returns-clause-right : goal.returns-clause-right
returns-clause-right g c =
    let tree = (file_seen c.args.file.now).tree in
    let held = sym (ap (λ k. k.reference) c.result_if_active.ensures.kept) in
    let same : c.result_if_active.new.oracle.inner.now ≡ c.oracle-1.given.0 = search rules in
    subst (λ o. AreRight tree (g.O.Oracle.tells o) c.result_if_active.new.held c.result_if_active.new.types.entries) same
    (right_alike tree _ _ refl (λ d. refl) c.result_if_active.new.held c.result_if_active.new.types.entries c.result_if_active.ensures.right)
