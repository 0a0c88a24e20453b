use Rattle.std.proofs.Common.{◌∙◌, [], arith}
use Rattle.pj_xvalue.specs.Items.{value_of_item, values_of}
use Rattle.pj_xfuncs.specs.Sequences.{first_occurrences}
use Rattle.pj_xfuncs.proofs.Gathering.{occurrences-more}
use Rattle.pj_xfuncs.proofs.Meeting.{met-more}
use Rattle.pj_xfuncs.proofs.sequences.first_occurrences.Goals as goal

pub loop-i-preserved : goal.loop-i-preserved
loop-i-preserved c =
    let items = c.args.items.now in
    let x = c.index-items-i.result in
    record {
      kept = occurrences-more (values_of c.loop-i.kept) (values_of c.push_unless.new.kept) (first_occurrences [] (values_of items)) items c.loop-i.i x c.in_ok-was_before.was_before (omega arith) c.index-items-i.is
          (c.in_ok-was_before.ensures.was ∙ c.loop-i.invariant.seen (value_of_item x)) c.in_ok-push_unless.ensures c.loop-i.invariant.kept;
      seen = met-more items c.loop-i.i x c.loop-i.seen c.meet.new.self (omega arith) c.index-items-i.is c.loop-i.invariant.seen c.in_ok-was_before.ensures.met;
    }
