-- Where a walk of the code stands.
use Rattle.std.specs.Prelude.{List, Option, map}
use Rattle.pj_names.specs.declared.ty.Ty.{Ty}
use Rattle.pj_names.specs.JavaType.{JavaType}
use Rattle.pj_signatures.specs.Seen.{seen_option}
use Rattle.pj_types.specs.declared.listed.ListedClass.{ListedClass}
use Rattle.pj_types.specs.Supertypes.{Standing, given_type}
use Rattle.pj_types.specs.Seen.{all_listed}

-- where a walk stands
abbrev pub standing : List ListedClass × List ListedClass → Standing
standing walk = record { given = all_listed walk.0; to_visit = all_listed walk.1 }

-- what a step answers, and where the walk stands after it
abbrev pub after_step : List ListedClass × List ListedClass → Option Ty → Option JavaType × Standing
after_step walk ty = (seen_option ty, standing walk)

-- the types that a walk gave, in their order
abbrev pub given_types : List ListedClass × List ListedClass → List JavaType
given_types walk = map given_type (standing walk).given
