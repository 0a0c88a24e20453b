use Rattle.std.proofs.Common.{arith, [], sym, subst}
use Rattle.pj_tree.specs.Building.{IsWhole}
use Rattle.pj_tree.specs.Tree.{IsSpanOf}
use Rattle.pj_tree.specs.declared.kind.Kind.TheVariants.{CompilationUnit}
use Rattle.rows_evaluation.specs.Nodes.{inside_root}
use Rattle.rows_evaluation.proofs.tree.small_tree.Goals as goal

no_text : IsSpanOf [] (record { from = 0; to = 0 })
no_text = record { ordered = omega arith; begins = (omega arith, λ a b. absurd (omega arith)); ends = (omega arith, λ a b. absurd (omega arith)) }

pub finish-requires : goal.finish-requires
finish-requires c =
    record { whole = subst IsWhole (sym c.in_ok-write_nodes.ensures) (c.new-builder.ensures.calls.whole CompilationUnit 0 0 inside_root (no_text, (no_text, (no_text, tt, (no_text, (no_text, tt, tt), tt)), (no_text, (no_text, (no_text, tt, tt), (no_text, tt, (no_text, tt, tt))), (no_text, (no_text, tt, tt), tt))), tt)) }
