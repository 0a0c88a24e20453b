use Rattle.std.proofs.Common.{All, List, IsTrue, subst, sym}
use Rattle.std.proofs.lemmas.List.Elements.{filter_passes}
use Rattle.pj_outside.specs.Files.{Bytes, is_at_or_below}
use Rattle.pj_outside.proofs.mem_tree.MemTreeTree.list.Goals as goal

pub returns-else-is_empty-clause-at_or_below : goal.returns-else-is_empty-clause-at_or_below
returns-else-is_empty-clause-at_or_below c =
    let at = c.args.at.now in
    subst (λ (paths : List Bytes). All (λ path. IsTrue (is_at_or_below at path)) paths) (sym c.in_ok-paths.ensures) (filter_passes (is_at_or_below at) _)
