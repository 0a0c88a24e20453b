use Rattle.std.proofs.Common.{◌≡◌, ◌≤◌, ◌^◌, ℕ, List, ap, subst, ◌∙◌}
use Rattle.std.specs.Prelude.{MatchOption}
use Rattle.std.proofs.lemmas.Str.{IsUtf8-from_is_utf8}
use Rattle.pj_old_format.specs.ListKeys.{is_number, value_of}
use Rattle.pj_old_reading.proofs.Numbers.{number_text}
use Rattle.pj_old_reading.proofs.keys.value_of.Goals as goal

pub number_of-requires : goal.number_of-requires
number_of-requires c = ap is_number c.in-Ok.ensures.cases.0 ∙ c.requires

pub returns-in-Ok-clause-value : goal.returns-in-Ok-clause-value
returns-in-Ok-clause-value c =
    subst (λ (l : List ℕ). MatchOption c.number_of.result (2 ^ 32 ≤ value_of l) (λ n. n ≡ value_of l)) c.in-Ok.ensures.cases.0 c.number_of.ensures.value

pub returns-in-Err-clause-value : goal.returns-in-Err-clause-value
returns-in-Err-clause-value c = absurd (c.in-Err.ensures.cases.0 (IsUtf8-from_is_utf8 c.args.bytes.now (number_text c.args.bytes.now c.requires)))
