use Rattle.std.proofs.Common.{◌≡◌, ◌-◌, None}
use Rattle.std.specs.Option.{option_map}
use Rattle.pj_format.specs.Format.{first}
use Rattle.pj_classfile.specs.ClassFile.{views, is_signature_of, signature_among}
use Rattle.pj_classfile.specs.Passed.{ArePassed, text_at}
use Rattle.pj_classfile.proofs.attribute.signature_among_of.Given as goal

abbrev pub invariant-loop : goal.invariant-loop
invariant-loop l = record {
  read : first (signature_among l.holder (views l.pool) (l.count - l.counter) (option_map (text_at (views l.pool)) l.found)) l.bytes l.place ≡ first (signature_among l.holder (views l.pool) l.count None) l.bytes l.at;
  passed : ArePassed (is_signature_of l.holder) (views l.pool) l.passed;
}
