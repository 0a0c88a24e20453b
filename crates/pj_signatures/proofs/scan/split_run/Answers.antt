use Rattle.std.proofs.Common.{◌≡◌, ◌<◌, get_or, arith, rules, false}
use Rattle.pj_signatures.specs.Names.{is_none_of}
use Rattle.pj_signatures.proofs.Runs.{stop_is_ascii}
use Rattle.pj_signatures.proofs.scan.split_run.Goals as goal

pub split_at-requires : goal.split_at-requires
split_at-requires c =
    let n = c.run_len-end.result in
    let text = c.args.text.now in (
      search rules,
      λ below high. let stop : is_none_of c.args.signs.now (get_or text n 0) ≡ false = grind (arith, c.run_len-end.ensures.stop) in
          let ascii : get_or text n 0 < 128 = stop_is_ascii c.args.signs.now (get_or text n 0) c.requires stop in absurd (omega arith),
    )
