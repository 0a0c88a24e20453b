use Rattle.std.proofs.Common.{List, subst, sym}
use Rattle.std.proofs.lemmas.List.Elements.{All-nil}
use Rattle.std.specs.List.{All, AllByRecursion}
use Rattle.pj_exprtypes.specs.Table.{Holds}
use Rattle.pj_exprtypes.specs.declared.held.HeldType.{HeldType}
use Rattle.pj_file_oracle.specs.FileAnswer.{file_answer}
use Rattle.pj_file_oracle.specs.Held.{IsHeldAnswer}
use Rattle.pj_file_oracle.specs.declared.held.HeldAnswer.{HeldAnswer}
use Rattle.pj_names.specs.ClassName.{Name}
use Rattle.pj_names.specs.Expand.{world_by}
use Rattle.pj_workers.specs.Views.{file_seen}
use Rattle.pj_workers.proofs.runs.rule_runs.Goals as goal

pub runs_with-requires-clause-right : goal.runs_with-requires-clause-right
runs_with-requires-clause-right g c =
    let tree = (file_seen c.args.file.now).tree in
    let t = g.O.Oracle.tells c.args.oracle.now in
    record {
      answers = subst (λ (entries : List (Name × HeldAnswer)). AllByRecursion (λ (entry : Name × HeldAnswer). IsHeldAnswer t (file_answer tree entry.0) entry.1) entries) (sym c.new-held.ensures) tt;
      types = λ is. subst (λ (types : List HeldType). All (Holds tree (λ depth. world_by (file_answer tree) depth (t.world depth))) types) (sym c.new-types.ensures) (All-nil (Holds tree (λ depth. world_by (file_answer tree) depth (t.world depth))));
    }
