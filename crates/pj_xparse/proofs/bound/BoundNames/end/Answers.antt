use Rattle.std.proofs.Common.{◌∙◌, ap, drop}
use Rattle.std.proofs.lemmas.List.{drop-drop}
use Rattle.pj_xparse.specs.Bound.{names_in}
use Rattle.pj_xparse.proofs.bound.BoundNames.end.Goals as goal

pub ended-preserved : goal.ended-preserved
ended-preserved c =
    let names = names_in c.args.self.now.names.items in
    record {
      names = c.in_ok-end_last.ensures.names ∙ ap (drop 1) c.ended.invariant.names ∙ drop-drop 1 c.ended._ended names;
      counts = c.in_ok-end_last.ensures.counts;
    }
