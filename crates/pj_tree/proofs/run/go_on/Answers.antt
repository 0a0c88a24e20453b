use Rattle.std.proofs.Common.{◌≡◌, ◌++◌, ◌∷◌, [], refl}
use Rattle.pj_tree.specs.declared.run.Run.{Run}
use Rattle.pj_tree.proofs.run.go_on.Goals as goal
use Rattle.pj_tree.proofs.RunPlaces.{same_below_push}

pub returns-clause-same : goal.returns-clause-same
returns-clause-same c =
    let s : Run = record { from = c.args.offset; width = c.args.width; place = c.args.place } in
    let items : c.push.new.self.items ≡ c.args.runs.now.items ++ s ∷ [] = c.in_ok-push.ensures.items in
    λ k h. rw items (same_below_push c.args.runs.now.items s c.args.offset refl k h)
