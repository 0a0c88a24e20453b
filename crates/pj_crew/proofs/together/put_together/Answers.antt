use Rattle.std.proofs.Common.{◌∙◌, ap}
use Rattle.pj_table.specs.Rule.{once_below}
use Rattle.pj_crew.proofs.together.put_together.Goals as goal

pub close-closed-requires : goal.close-closed-requires
close-closed-requires g c = let joined = c.requires.joined c.in_ok-shares.shares.items c.in_ok-shares.ensures.ok in record { table = c.requires.table.0; all = (c.requires.table.1, joined.0) }

pub by_number-requires : goal.by_number-requires
by_number-requires g c =
    let joined = c.requires.joined c.in_ok-shares.shares.items c.in_ok-shares.ensures.ok in
    joined.1 (λ marked x. c.close-closed.ensures.claims marked x ∙ ap (once_below x) c.requires.files)

pub returns-clause-put : goal.returns-clause-put
returns-clause-put g c =
    let joined = c.requires.joined c.in_ok-shares.shares.items c.in_ok-shares.ensures.ok in
    record {
      shares = c.in_ok-shares.shares.items;
      all_ok = c.in_ok-shares.ensures.ok;
      once = joined.1 (λ marked x. c.close-closed.ensures.claims marked x ∙ ap (once_below x) c.requires.files);
      placed = c.in_ok-made.ensures;
      many = c.close-closed.ensures.parts;
      shown = c.close-closed.ensures.shows;
    }
