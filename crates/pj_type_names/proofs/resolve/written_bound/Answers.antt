use Rattle.std.proofs.Common.{ℕ, subst}
use Rattle.pj_names.specs.JavaType.{java_type}
use Rattle.pj_names.specs.Told.{Asks, seen}
use Rattle.pj_type_names.specs.Searching as resolution
use Rattle.pj_type_names.proofs.resolve.written_bound.Goals as goal

pub returns : goal.returns
returns g c =
    subst (λ (left : ℕ). Asks (resolution.bound c.args.file.now left c.args.busy.now 1 c.args.n) (g.O.Oracle.tells c.args.oracle.now) (g.O.Oracle.tells c.bound_type.new.oracle) (seen java_type c.bound_type.result))
    c.enough.ensures c.bound_type.ensures
