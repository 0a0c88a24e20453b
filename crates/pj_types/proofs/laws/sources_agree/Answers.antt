use Rattle.pj_names.proofs.MeaningLaws.{agreement}
use Rattle.pj_types.specs.Subtyping.{is_under}
use Rattle.pj_types.specs.Supertypes.{search, supertypes_of}
use Rattle.pj_types.proofs.laws.sources_agree.Goals as goal

pub returns : goal.returns
returns g c = record {
  supertypes = λ first second name. agreement first second (supertypes_of name);
  subtyping = λ first second lower upper. agreement first second (is_under lower upper);
  search = λ first second test name. agreement first second (search test name);
}
