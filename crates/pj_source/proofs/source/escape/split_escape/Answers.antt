use Rattle.std.proofs.Common.{◌≡◌, ◌∷◌, refl, sym, List, ℕ, ◌++◌, ◌∙◌, ap, replicate, append_assoc}
use Rattle.std.specs.Str.{chars}
use Rattle.pj_source.specs.Escapes.{AreDigits, BeginsWithNoEscape}
use Rattle.pj_source.proofs.EscapeLaws.{no_escape, length_escape}
use Rattle.pj_source.proofs.source.escape.split_escape.Goals as goal

pub returns-in_err-unit-clause-escape : goal.returns-in_err-unit-clause-escape
returns-in_err-unit-clause-escape c =
    let none : BeginsWithNoEscape (chars c.args.text.now) = no_escape (chars c.args.text.now) (chars c.in_ok-behind.behind.now) (chars c.in_ok-behind-2.behind.now) (chars c.split_markers-more.result.1.now) c.split_markers-more.result.0
    c.in_ok-behind.ensures.chars c.in_ok-behind-2.ensures.chars c.split_markers-more.ensures.chars c.split_markers-more.ensures.behind c.in_err-unit.ensures.digits in
    rw c.from_residual-in_err-unit.ensures none

pub returns-clause-escape : goal.returns-clause-escape
returns-clause-escape c =
    let n : ℕ = c.split_markers-more.result.0 in
    let ds : List ℕ = c.in_ok-unit.ensures.digits.0 in
    let number : AreDigits ds c.in_ok-unit.unit = c.in_ok-unit.ensures.digits.1.1 in
    let split : chars c.args.text.now ≡ (92 ∷ 117 ∷ (replicate n 117 ++ ds)) ++ chars c.in_ok-unit.behind.now =
    c.in_ok-behind.ensures.chars ∙ ap (λ (xs : List ℕ). 92 ∷ xs) (c.in_ok-behind-2.ensures.chars ∙ ap (λ (xs : List ℕ). 117 ∷ xs) (c.split_markers-more.ensures.chars
    ∙ (ap (λ (xs : List ℕ). replicate n 117 ++ xs) c.in_ok-unit.ensures.digits.1.0 ∙ sym (append_assoc (replicate n 117) ds (chars c.in_ok-unit.behind.now))))) in
    (92 ∷ 117 ∷ (replicate n 117 ++ ds), (split, (record { more = n; digits = ds; spelled = refl; number = number }, sym (length_escape (92 ∷ 117 ∷ (replicate n 117 ++ ds)) ds n c.in_ok-unit.unit refl number))))
