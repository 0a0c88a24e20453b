use Rattle.std.specs.Prelude.{Ok}
use Rattle.std.specs.List.{All}
use Rattle.pj_names.specs.Noting.{tells_noting}
use Rattle.pj_exprtypes.specs.Order.{IsDue}
use Rattle.pj_exprtypes.specs.Parts.{AsksPart}
use Rattle.pj_exprtypes.specs.Table.{Keeps}
use Rattle.pj_exprtypes.specs.TypeOf.{type_of}
use Rattle.pj_exprtypes.proofs.order.type_variables.Given as goal

-- What was asked so far is a part of what the type asks, and so is what each entry asks.
abbrev pub invariant-loop : goal.invariant-loop
invariant-loop g l =
    let old = tells_noting l.fn.oracle.inner.ghost_name l.fn.oracle.noted.ghost_name l.fn.oracle.noted.now (g.O.Oracle.tells l.fn.oracle.inner.now) in
    let new = tells_noting l.oracle.inner.ghost_name l.oracle.noted.ghost_name l.oracle.noted.now (g.O.Oracle.tells l.oracle.inner.now) in
    record {
      asks : AsksPart (type_of l.file l.fn.n) old new (Ok (tt {0}));
      keeps : Keeps l.file new l.types.entries;
      due : All (IsDue l.file old.is_told old.world (type_of l.file l.fn.n)) l.all;
    }
