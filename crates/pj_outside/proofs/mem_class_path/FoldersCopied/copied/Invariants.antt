use Rattle.std.proofs.Common.{◌≡◌, take, map}
use Rattle.pj_outside.specs.Files.{Bytes, Files}
use Rattle.pj_outside.proofs.mem_class_path.FoldersCopied.copied.Given as goal

abbrev pub invariant-loop-name : goal.invariant-loop-name
invariant-loop-name l = map {B = Bytes × Files} (λ pair. (pair.0, pair.1.value)) l.pairs.items ≡ map {B = Bytes × Files} (λ pair. (pair.0, pair.1.value)) (take l.name-index l.name-items)
