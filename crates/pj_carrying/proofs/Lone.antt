-- One error without a rule.
use Rattle.std.proofs.Common.{◌≡◌, List, [], ◌∷◌, length, get_or, None, refl, ap, arith}
use Rattle.pj_reports.specs.declared.rows.FileError.{FileError}
use Rattle.pj_carry.specs.Form.{message_of, without_rule}

pub not_alone : (es : List FileError) → ¬ (length es ≡ 1) → None ≡ message_of es
not_alone [] differs = refl
not_alone (e ∷ []) differs = absurd (differs refl)
not_alone (e ∷ f ∷ more) differs = refl

pub alone : (es : List FileError) (x : FileError) → length es ≡ 1 → x ≡ get_or es 0 x → without_rule x.rule x.message ≡ message_of es
alone [] x one is = absurd (omega (arith, one))
alone (e ∷ []) x one is = ap (λ (y : FileError). without_rule y.rule y.message) is
alone (e ∷ f ∷ more) x one is = absurd (omega (arith, one))
