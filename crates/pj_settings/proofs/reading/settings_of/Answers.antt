use Rattle.std.proofs.Common.{codes}
use Rattle.std.specs.Option.{option_map}
use Rattle.std.proofs.lemmas.Result.{err_from_is_err_and}
use Rattle.pj_settings.specs.Values.{classes_value, format_value, list_value, marker_value, number_value, version_value}
use Rattle.pj_settings.proofs.JobFacts.{Gives-stop, gave}
use Rattle.pj_settings.proofs.reading.settings_of.Goals as goal

pub returns-in_err-minimum : goal.returns-in_err-minimum
returns-in_err-minimum c =
    let g = c.args.given.now in
    let p = err_from_is_err_and c.from_residual-in_err-minimum.result c.from_residual-in_err-minimum.ensures.1 in
    let dirs = gave c.in_ok-dirs.dirs (list_value 44 (codes "--dir") g.dir.now) c.in_ok-dirs.ensures in
    let rulesets = gave c.in_ok-rulesets.rulesets (list_value 44 (codes "--rulesets") g.rulesets.now) c.in_ok-rulesets.ensures in
    let form = gave c.in_ok-format.format (format_value g.format.now) c.in_ok-format.ensures in
    let classes = gave c.in_ok-classes.classes (classes_value (option_map (λ word. word.now) g.classes)) c.in_ok-classes.ensures in
    let threads = gave c.in_ok-threads.threads (number_value (codes "--threads") 0 64 g.threads.now) c.in_ok-threads.ensures in
    rw (p.1, p.2, dirs, rulesets, form, classes, threads) (Gives-stop _ (number_value (codes "--minimum-priority") 1 5 g.minimum.now) _ c.in_err-minimum.ensures)

pub returns-in_err-marker : goal.returns-in_err-marker
returns-in_err-marker c =
    let g = c.args.given.now in
    let p = err_from_is_err_and c.from_residual-in_err-marker.result c.from_residual-in_err-marker.ensures.1 in
    let dirs = gave c.in_ok-dirs.dirs (list_value 44 (codes "--dir") g.dir.now) c.in_ok-dirs.ensures in
    let rulesets = gave c.in_ok-rulesets.rulesets (list_value 44 (codes "--rulesets") g.rulesets.now) c.in_ok-rulesets.ensures in
    let form = gave c.in_ok-format.format (format_value g.format.now) c.in_ok-format.ensures in
    let classes = gave c.in_ok-classes.classes (classes_value (option_map (λ word. word.now) g.classes)) c.in_ok-classes.ensures in
    let threads = gave c.in_ok-threads.threads (number_value (codes "--threads") 0 64 g.threads.now) c.in_ok-threads.ensures in
    let minimum = gave c.in_ok-minimum.minimum (number_value (codes "--minimum-priority") 1 5 g.minimum.now) c.in_ok-minimum.ensures in
    rw (p.1, p.2, dirs, rulesets, form, classes, threads, minimum) (Gives-stop _ (marker_value g.marker.now) _ c.in_err-marker.ensures)

pub returns-in_err-version_value : goal.returns-in_err-version_value
returns-in_err-version_value c =
    let g = c.args.given.now in
    let p = err_from_is_err_and c.from_residual-in_err-version_value.result c.from_residual-in_err-version_value.ensures.1 in
    let dirs = gave c.in_ok-dirs.dirs (list_value 44 (codes "--dir") g.dir.now) c.in_ok-dirs.ensures in
    let rulesets = gave c.in_ok-rulesets.rulesets (list_value 44 (codes "--rulesets") g.rulesets.now) c.in_ok-rulesets.ensures in
    let form = gave c.in_ok-format.format (format_value g.format.now) c.in_ok-format.ensures in
    let classes = gave c.in_ok-classes.classes (classes_value (option_map (λ word. word.now) g.classes)) c.in_ok-classes.ensures in
    let threads = gave c.in_ok-threads.threads (number_value (codes "--threads") 0 64 g.threads.now) c.in_ok-threads.ensures in
    let minimum = gave c.in_ok-minimum.minimum (number_value (codes "--minimum-priority") 1 5 g.minimum.now) c.in_ok-minimum.ensures in
    let marker = gave c.in_ok-marker.marker (marker_value g.marker.now) c.in_ok-marker.ensures in
    rw (p.1, p.2, dirs, rulesets, form, classes, threads, minimum, marker) (Gives-stop _ (version_value g.version.now) _ c.in_err-version_value.ensures)
