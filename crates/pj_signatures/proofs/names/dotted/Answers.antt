use Rattle.std.proofs.Common.{◌≡◌, sym, rules, Some}
use Rattle.pj_signatures.specs.Names.{dotted}
use Rattle.pj_signatures.specs.Reading.{behind}
use Rattle.pj_signatures.proofs.Runs.{dotted_parts, solidus_past, dotted_more}
use Rattle.pj_signatures.proofs.names.dotted.Goals as goal

pub loop-after-init : goal.loop-after-init
loop-after-init c = record {
  value = rw (c.in_ok-made.ensures, c.split_run.ensures.front, c.split_run.ensures.rest) (sym (dotted_parts c.args.text.now));
  utf8 = c.split_run.ensures.utf8;
  stops = rw c.split_run.ensures.rest (solidus_past c.args.text.now);
}

pub loop-after-preserved : goal.loop-after-preserved
loop-after-preserved c =
    let found : behind 47 c.loop-after.rest.now ≡ Some c.in-Some.after.now = search rules in
    let more = dotted_more c.loop-after.made c.loop-after.rest.now c.in-Some.after.now (dotted c.args.text.now) found c.loop-after.invariant.value in
    record {
      value = rw (c.in_ok-push_str-2.ensures.ok, c.in_ok-push_str.ensures.ok, c.split_run-in-Some.ensures.front, c.split_run-in-Some.ensures.rest) more;
      utf8 = c.split_run-in-Some.ensures.utf8;
      stops = rw c.split_run-in-Some.ensures.rest (solidus_past c.in-Some.after.now);
    }
