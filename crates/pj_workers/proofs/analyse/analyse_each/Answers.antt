use Rattle.std.proofs.Common.{◌≡◌, ◌++◌, ◌∙◌, List, [], ◌∷◌, add-one, ap, arith, map, refl, rules, subst, sym, take}
use Rattle.std.proofs.lemmas.List.{map-append, take_all}
use Rattle.std.specs.List.{AllZip}
use Rattle.pj_outside.specs.Files.{Bytes}
use Rattle.pj_workers.specs.FileMeaning.{file_meaning}
use Rattle.pj_workers.specs.JavaReplies.{java_replies}
use Rattle.pj_workers.specs.Results.{IsResultAt}
use Rattle.pj_workers.specs.declared.result.FileResult.{FileResult}
use Rattle.pj_names.proofs.AskingLaws.{asks-stop}
use Rattle.pj_workers.proofs.Rows.{result_before}
use Rattle.pj_workers.proofs.Running.{stands, turn_begin, turn_ends, turn_refused, turn_stops, turn_then, zip_last}
use Rattle.pj_workers.proofs.analyse.analyse_each.Goals as goal

pub returns-in_err-grammar-clause-asks : goal.returns-in_err-grammar-clause-asks
returns-in_err-grammar-clause-asks g c = λ meant are. asks-stop (search rules)

pub loop-file-init : goal.loop-file-init
loop-file-init g c =
    let t = g.O.Oracle.tells c.args.oracle.now in
    record {
      asks = λ meant are. turn_begin (λ (file : Bytes × Bytes). file_meaning java_replies file.0 file.1 meant) c.args.files.now t (map (λ (of_file : Bytes × FileResult). of_file.1.rows) c.new-found.result)
          (ap (λ (found : List (Bytes × FileResult)). map (λ (of_file : Bytes × FileResult). of_file.1.rows) found) c.new-found.ensures);
      found = λ meant are. subst (λ (found : List (Bytes × FileResult)). AllZip (IsResultAt t java_replies meant) [] found) (sym c.new-found.ensures) tt;
    }

pub loop-file-preserved : goal.loop-file-preserved
loop-file-preserved g c =
    let t = g.O.Oracle.tells c.args.oracle.now in
    let u = g.O.Oracle.tells c.loop-file.oracle in
    let v = g.O.Oracle.tells c.analyse_next.new.oracle in
    let i = c.loop-file.file-index in
    let files = c.args.files.now in
    let file = c.file-item.result in
    let one = c.in_ok-of_file.of_file in
    let kept = c.loop-file.invariant in
    let step = c.in_ok-of_file.ensures in
    let at = stands files i file c.loop-file-test.true c.file-item.is in
    let grown : c.loop-file.found ++ one ∷ [] ≡ c.push.new.self = search rules in
    let rows_of = λ (of_file : Bytes × FileResult). of_file.1.rows in
    let come = sym (map-append rows_of c.loop-file.found (one ∷ [])) ∙ ap (λ (found : List (Bytes × FileResult)). map rows_of found) grown in
    record {
      asks = λ meant are. turn_then (λ (file : Bytes × Bytes). file_meaning java_replies file.0 file.1 meant) files t (map rows_of c.loop-file.found) (map rows_of c.push.new.self) i file one.1.rows u v at (kept.asks meant are) (step.asks meant are) come;
      found = λ meant are.
          let so_far = kept.asks meant are in
          rw (add-one) (subst (λ (fs : List (Bytes × Bytes)). AllZip (IsResultAt t java_replies meant) fs c.push.new.self) (sym at.taken)
          (subst (λ (found : List (Bytes × FileResult)). AllZip (IsResultAt t java_replies meant) (take i files ++ file ∷ []) found) grown
          (zip_last (IsResultAt t java_replies meant) (take i files) c.loop-file.found file one (kept.found meant are) (result_before t u meant file one so_far.same_told so_far.same_world (step.found meant are)))));
    }

pub returns-in_err-of_file-clause-asks : goal.returns-in_err-of_file-clause-asks
returns-in_err-of_file-clause-asks g c = λ meant are.
    let files = c.args.files.now in
    let i = c.loop-file.file-index in
    let at = stands files i c.file-item.result c.loop-file-test.true c.file-item.is in
    turn_refused (λ (file : Bytes × Bytes). file_meaning java_replies file.0 file.1 meant) files (g.O.Oracle.tells c.args.oracle.now) (map (λ (of_file : Bytes × FileResult). of_file.1.rows) c.loop-file.found) i c.file-item.result
    c.in_err-of_file.field-0.0 (g.O.Oracle.tells c.loop-file.oracle) (g.O.Oracle.tells c.analyse_next.new.oracle) _ at (c.loop-file.invariant.asks meant are) (c.in_err-of_file.ensures.asks meant are) (search rules)

pub returns-in_err-push-clause-asks : goal.returns-in_err-push-clause-asks
returns-in_err-push-clause-asks g c = λ meant are.
    let files = c.args.files.now in
    let i = c.loop-file.file-index in
    let at = stands files i c.file-item.result c.loop-file-test.true c.file-item.is in
    turn_stops (λ (file : Bytes × Bytes). file_meaning java_replies file.0 file.1 meant) files (g.O.Oracle.tells c.args.oracle.now) (map (λ (of_file : Bytes × FileResult). of_file.1.rows) c.loop-file.found) i c.file-item.result
    c.in_ok-of_file.of_file.1.rows (g.O.Oracle.tells c.loop-file.oracle) (g.O.Oracle.tells c.analyse_next.new.oracle) _ at (c.loop-file.invariant.asks meant are) (c.in_ok-of_file.ensures.asks meant are) (search rules)

pub returns-clause-asks : goal.returns-clause-asks
returns-clause-asks g c = λ meant are.
    turn_ends (λ (file : Bytes × Bytes). file_meaning java_replies file.0 file.1 meant) c.args.files.now (g.O.Oracle.tells c.args.oracle.now) (map (λ (of_file : Bytes × FileResult). of_file.1.rows) c.loop-file.found) c.loop-file.file-index
    (g.O.Oracle.tells c.loop-file.oracle) _ (omega (arith, c.loop-file-test.false)) (c.loop-file.invariant.asks meant are) refl

pub returns-clause-found : goal.returns-clause-found
returns-clause-found g c = λ meant are.
    subst (λ (fs : List (Bytes × Bytes)). AllZip (IsResultAt (g.O.Oracle.tells c.args.oracle.now) java_replies meant) fs c.loop-file.found) (take_all c.loop-file.file-index c.args.files.now (omega (arith, c.loop-file-test.false)))
    (c.loop-file.invariant.found meant are)
