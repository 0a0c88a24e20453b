use Rattle.std.proofs.Common.{◌≡◌, ◌++◌, ◌∷◌, [], refl}
use Rattle.pj_source.specs.declared.source.run.Run.{Run}
use Rattle.pj_source.proofs.source.run.go_on.Goals as goal
use Rattle.pj_source.proofs.SourceRunPlaces.{same_below_push, runs_push, takes_push}

pub returns-clause-same : goal.returns-clause-same
returns-clause-same c =
    let s : Run = record { from = c.args.offset; width = c.args.width; place = c.args.place } in
    let items : c.push.new.self.items ≡ c.args.runs.now.items ++ s ∷ [] = c.in_ok-push.ensures.items in
    λ k h. rw items (same_below_push c.args.runs.now.items s c.args.offset refl k h)

pub returns-clause-runs : goal.returns-clause-runs
returns-clause-runs c =
    let s : Run = record { from = c.args.offset; width = c.args.width; place = c.args.place } in
    let items : c.push.new.self.items ≡ c.args.runs.now.items ++ s ∷ [] = c.in_ok-push.ensures.items in
    λ left r column. rw items (runs_push c.args.runs.now.items s c.args.offset left r refl c.requires.wide column)

pub returns-clause-takes : goal.returns-clause-takes
returns-clause-takes c =
    let s : Run = record { from = c.args.offset; width = c.args.width; place = c.args.place } in
    let items : c.push.new.self.items ≡ c.args.runs.now.items ++ s ∷ [] = c.in_ok-push.ensures.items in
    rw items (takes_push c.args.runs.now.items s c.args.offset refl)
