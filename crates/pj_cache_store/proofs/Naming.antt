-- Class folders answer a name by a class of that name.
use Rattle.std.proofs.Common.{◌≡◌, ℕ, Bool, true, false, List, Result, Ok, Err, refl}
use Rattle.std.specs.Prelude.{nat_eq, if◌then◌else◌}
use Rattle.std.specs.Cmp.Lexicographic.{pointwise, bytes_decides}
use Rattle.pj_names.specs.declared.answer.Answer.TheVariants as answers
use Rattle.pj_names.specs.declared.answer.Broken.TheVariants as broken
use Rattle.pj_names.specs.declared.answer.ClassFault.{ClassFault}
use Rattle.pj_names.specs.declared.answer.ClassInfo.{ClassInfo}
use Rattle.pj_names.specs.ClassName.{Name}
use Rattle.pj_outside.specs.declared.refused.Reading.{Reading}
use Rattle.pj_outside.specs.declared.refused.Reading.TheVariants as readings
use Rattle.pj_classfile.specs.ClassOf.{answer_from, answer_of, class_of}
use Rattle.pj_cache_format.specs.Ordered.{HasItsName}

class_named : (name : Name) (class : ClassInfo) (same : Bool) → pointwise nat_eq class.name name ≡ same → HasItsName name (if same then answers.Found class else answers.Broken broken.OtherName)
class_named name class true is = (bytes_decides class.name name).0 is
class_named name class false is = tt

from_named : (name : Name) (r : Result ClassInfo ClassFault) → HasItsName name (answer_from name r)
from_named name (Ok class) = class_named name class (pointwise nat_eq class.name name) refl
from_named name (Err f) = tt

pub answer_named : (name : Name) (reading : Reading) → HasItsName name (answer_of name reading)
answer_named name readings.Absent = tt
answer_named name readings.Longer = tt
answer_named name (readings.Whole bytes) = from_named name (class_of bytes)
