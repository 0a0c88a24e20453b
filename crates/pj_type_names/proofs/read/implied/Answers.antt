use Rattle.pj_symbols.proofs.Below.{all_found}
use Rattle.pj_type_names.proofs.read.implied.Goals as goal

pub implied_supertypes-requires-clause-finds : goal.implied_supertypes-requires-clause-finds
implied_supertypes-requires-clause-finds c =
    let t = c.args.file.now in
    rw (c.symbols.ensures, c.tree.ensures) (all_found t)
