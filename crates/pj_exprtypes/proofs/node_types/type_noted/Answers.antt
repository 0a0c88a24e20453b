use Rattle.std.proofs.Common.{◌≡◌, rules, ap, subst, sym}
use Rattle.pj_names.specs.JavaType.{java_type}
use Rattle.pj_names.specs.Told.{Asks, seen}
use Rattle.pj_names.proofs.NotingLaws.{asks-noted}
use Rattle.pj_exprtypes.specs.Table.{Keeps}
use Rattle.pj_exprtypes.specs.TypeOf.{type_of}
use Rattle.pj_exprtypes.proofs.Tables.{all-noted, all-noting}
use Rattle.pj_exprtypes.proofs.node_types.type_noted.Goals as goal

pub type_after-requires-clause-keeps : goal.type_after-requires-clause-keeps
type_after-requires-clause-keeps g c = λ is. all-noting c.args.file.now (g.O.Oracle.tells c.args.oracle.now).world c.args.types.now.entries (c.requires.keeps is)

pub returns-clause-asks : goal.returns-clause-asks
returns-clause-asks g c =
    let held = sym (ap (λ k. k.reference) c.type_after.ensures.asks.same_kept) in
    let over = asks-noted _ _ _ _ _ _ (type_of c.args.file.now c.args.n) _ _ c.type_after.ensures.asks in
    let same : c.type_after.new.oracle.inner.now ≡ c.oracle-1.given.0 = search rules in
    subst (λ v. Asks (type_of c.args.file.now c.args.n) (g.O.Oracle.tells c.args.oracle.now) (g.O.Oracle.tells v) (seen java_type c.type_after.result)) same over

pub returns-clause-keeps : goal.returns-clause-keeps
returns-clause-keeps g c =
    let held = sym (ap (λ k. k.reference) c.type_after.ensures.asks.same_kept) in
    let same : c.type_after.new.oracle.inner.now ≡ c.oracle-1.given.0 = search rules in
    subst (λ v. Keeps c.args.file.now (g.O.Oracle.tells v) c.type_after.new.types.entries) same
    (λ is. all-noted c.args.file.now (g.O.Oracle.tells c.type_after.new.oracle.inner.now).world c.type_after.new.types.entries (c.type_after.ensures.keeps is))
