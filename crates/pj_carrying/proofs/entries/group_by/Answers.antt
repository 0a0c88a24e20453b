use Rattle.std.proofs.Common.{◌<◌, length, subst, sym}
use Rattle.pj_carry.specs.Carried.{First}
use Rattle.pj_carrying.proofs.entries.group_by.Goals as goal

pub put_rows-requires : goal.put_rows-requires
put_rows-requires c =
    subst (λ (f : First). f.1 < length c.args.all.now) (sym c.first-item.is) (c.requires c.loop-first.first-index c.first-item.result c.loop-first-test.true)
