use Rattle.std.proofs.Common.{◌≡◌, map, take}
use Rattle.pj_classfile.specs.ClassFile.{made_signature, views}
use Rattle.pj_classfile.specs.Passed.{text_at}
use Rattle.pj_classfile.proofs.class.make_signature.Given as goal

abbrev pub invariant-loop-interface : goal.invariant-loop-interface
invariant-loop-interface l = l.signature ≡ made_signature l.name l.superclass (map (text_at (views l.pool)) (take l.interface-index l.interfaces))
