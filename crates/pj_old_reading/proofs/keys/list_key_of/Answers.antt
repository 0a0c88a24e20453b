use Rattle.std.proofs.Common.{◌≡◌, rules}
use Rattle.std.specs.Prelude.{[]}
use Rattle.pj_format.specs.Format.{first}
use Rattle.pj_old_format.specs.ListKeys.{list_key}
use Rattle.pj_old_reading.proofs.Copies.{nothing_before}
use Rattle.pj_old_reading.proofs.keys.list_key_of.Goals as goal

pub returns : goal.returns
returns c =
    let empty : c.new-copy.result.items ≡ [] = search rules in
    nothing_before (first list_key c.args.bytes.now c.args.at) c.new-copy.result.items c.copy_key.new.copy.items c.from_vec.result c.in_ok-behind.behind empty c.in_ok-behind.ensures c.from_vec.ensures
