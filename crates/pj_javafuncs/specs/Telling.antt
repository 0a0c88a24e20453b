-- What the functions of a file tell over an oracle beneath, and what they keep.
use Rattle.std.specs.Borrow.{GName}
use Rattle.pj_names.specs.Told.{Over, Told}
use Rattle.pj_tree.specs.Tree.{Tree}

-- What they keep of their own: the tree of the file, and the references to what is held of it, the answers of its classes and the types.
pub record CallsOwn : Type 0 where
  pub tree : Tree
  pub held : GName
  pub types : GName

-- They tell the world beneath, where a reply is the meaning expanded, and ask beneath.
abbrev pub tells_calls : {K : Type 0} → GName → CallsOwn → Told K → Told (Over CallsOwn K)
tells_calls reference own inner = record {
  is_told = inner.is_told;
  world = inner.world;
  kept = record { own = own; reference = reference; is_told = inner.is_told; world = inner.world; kept = inner.kept };
  asked = inner.asked;
  faults = inner.faults;
}
