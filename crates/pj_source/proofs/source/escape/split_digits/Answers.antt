use Rattle.std.proofs.Common.{◌≡◌, ◌∷◌, [], refl, List, ℕ, ◌<◌, ◌∙◌, ap}
use Rattle.std.specs.Str.{chars}
use Rattle.std.specs.Char.{digit_value}
use Rattle.pj_source.specs.Translating.{BeginsWithNoDigits}
use Rattle.pj_source.proofs.EscapeLaws.{no_second, no_third, no_fourth}
use Rattle.pj_source.proofs.source.escape.split_digits.Goals as goal

pub returns-in_err-b-clause-digits : goal.returns-in_err-b-clause-digits
returns-in_err-b-clause-digits c =
    let none : BeginsWithNoDigits (chars c.args.text.now) = no_second (chars c.args.text.now) (chars c.in_ok-a.behind.now) c.in_ok-a.ensures.digit.0 c.in_ok-a.ensures.digit.1.0 c.in_err-b.ensures.digit in
    rw c.from_residual-in_err-b.ensures none

pub returns-in_err-c-clause-digits : goal.returns-in_err-c-clause-digits
returns-in_err-c-clause-digits c =
    let none : BeginsWithNoDigits (chars c.args.text.now) = no_third (chars c.args.text.now) (chars c.in_ok-a.behind.now) (chars c.in_ok-b.behind.now) c.in_ok-a.ensures.digit.0 c.in_ok-b.ensures.digit.0 c.in_ok-a.ensures.digit.1.0 c.in_ok-b.ensures.digit.1.0 c.in_err-c.ensures.digit in
    rw c.from_residual-in_err-c.ensures none

pub returns-in_err-d-clause-digits : goal.returns-in_err-d-clause-digits
returns-in_err-d-clause-digits c =
    let none : BeginsWithNoDigits (chars c.args.text.now) = no_fourth (chars c.args.text.now) (chars c.in_ok-a.behind.now) (chars c.in_ok-b.behind.now) (chars c.in_ok-c.behind.now) c.in_ok-a.ensures.digit.0 c.in_ok-b.ensures.digit.0 c.in_ok-c.ensures.digit.0 c.in_ok-a.ensures.digit.1.0 c.in_ok-b.ensures.digit.1.0 c.in_ok-c.ensures.digit.1.0 c.in_err-d.ensures.digit in
    rw c.from_residual-in_err-d.ensures none

pub returns-clause-digits : goal.returns-clause-digits
returns-clause-digits c =
    let a : ℕ = c.in_ok-a.ensures.digit.0 in
    let b : ℕ = c.in_ok-b.ensures.digit.0 in
    let d : ℕ = c.in_ok-c.ensures.digit.0 in
    let e : ℕ = c.in_ok-d.ensures.digit.0 in (
      a ∷ b ∷ d ∷ e ∷ [],
      (
        c.in_ok-a.ensures.digit.1.0 ∙ ap (λ (xs : List ℕ). a ∷ xs) (c.in_ok-b.ensures.digit.1.0 ∙ ap (λ (xs : List ℕ). b ∷ xs) (c.in_ok-c.ensures.digit.1.0 ∙ ap (λ (xs : List ℕ). d ∷ xs) c.in_ok-d.ensures.digit.1.0)),
        record {
          a = a;
          b = b;
          c = d;
          d = e;
          are = refl;
          hex_a = let is : c.in_ok-a.a ≡ digit_value a = c.in_ok-a.ensures.digit.1.1 in let small : c.in_ok-a.a < 16 = c.in_ok-a.ensures.small in rw (← is) small;
          hex_b = let is : c.in_ok-b.b ≡ digit_value b = c.in_ok-b.ensures.digit.1.1 in let small : c.in_ok-b.b < 16 = c.in_ok-b.ensures.small in rw (← is) small;
          hex_c = let is : c.in_ok-c.c ≡ digit_value d = c.in_ok-c.ensures.digit.1.1 in let small : c.in_ok-c.c < 16 = c.in_ok-c.ensures.small in rw (← is) small;
          hex_d = let is : c.in_ok-d.d ≡ digit_value e = c.in_ok-d.ensures.digit.1.1 in let small : c.in_ok-d.d < 16 = c.in_ok-d.ensures.small in rw (← is) small;
          value_is = rw (c.in_ok-a.ensures.digit.1.1, c.in_ok-b.ensures.digit.1.1, c.in_ok-c.ensures.digit.1.1, c.in_ok-d.ensures.digit.1.1) refl;
        },
      ),
    )
