use Rattle.std.proofs.Common.{◌∙◌, ap, arith, length, List}
use lib.ListN.{get_elem?}
use Rattle.pj_table.proofs.Lies.{lies}
use Rattle.pj_table.proofs.Ends.{shows, all_claimed}
use Rattle.pj_table.specs.declared.part.Part.{Part}
use Rattle.pj_table.proofs.seat.TypeTable.close.Goals as goal

pub returns-clause-shows : goal.returns-clause-shows
returns-clause-shows c = let final = c.close_with-closed.ensures.values.2 in let s = final.0 in let seen = final.1 in let seat = c.args.seat in let v = seat.seat.me.0 in let items = c.take_all.ensures in
    λ p below. let t = shows c.args.self.table.shared.key s seen.0 seat.seat.id v seen.1 seat.rests.0 seat.rests.1 c.requires.all.0 c.requires.all.1 p (let l = final.3 in let e = ap (λ (q : List Part). length q) items.0 in let f = items.1 in omega arith) in
    (t.0, ap (λ (q : List Part). get_elem? q p) items.0 ∙ final.4 p t.0 t.1, t.2, lies v p t.0 c.requires.all.0 c.requires.all.1 seat.placed t.2)

pub returns-clause-claims : goal.returns-clause-claims
returns-clause-claims c = let final = c.close_with-closed.ensures.values.2 in let s = final.0 in let seen = final.1 in let seat = c.args.seat in let v = seat.seat.me.0 in
    λ marked x. all_claimed c.args.self.table.shared.key s seen.0 seat.seat.id v seen.1 seat.rests.0 seat.rests.1 c.requires.all.0 c.requires.all.1 marked x
