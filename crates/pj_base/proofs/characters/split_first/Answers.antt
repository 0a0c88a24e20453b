use Rattle.std.proofs.Common.{◌≡◌, sym, ◌∙◌, ap, ◌++◌, List, ℕ, length, length-append, arith}
use Rattle.std.specs.Str.{chars}
use Rattle.std.proofs.lemmas.List.{nil_from_length}
use Rattle.std.proofs.lemmas.Str.{chars_past_char, chars-nil, length-encode, len_utf8_bounds}
use lib.Utf8.{encode}
use Rattle.pj_base.proofs.characters.split_first.Goals as goal

pub returns-in-Some-clause-chars : goal.returns-in-Some-clause-chars
returns-in-Some-clause-chars c =
    chars_past_char _ _ _ c.utf8.text (sym c.chars-all.ensures.rest ∙ c.in-Some.ensures.steps.0 ∙ ap (λ (r : List ℕ). encode c.in-Some.c ++ r) (sym c.as_str.ensures))

pub returns-in-Some-clause-len : goal.returns-in-Some-clause-len
returns-in-Some-clause-len c =
    let split : c.args.text.now ≡ encode c.in-Some.c ++ c.as_str.result.now = sym c.chars-all.ensures.rest ∙ c.in-Some.ensures.steps.0 ∙ ap (λ (r : List ℕ). encode c.in-Some.c ++ r) (sym c.as_str.ensures) in
    omega (arith, ap length split, length-append (encode c.in-Some.c) c.as_str.result.now, length-encode c.in-Some.c)

pub returns-in-Some-clause-shorter : goal.returns-in-Some-clause-shorter
returns-in-Some-clause-shorter c =
    let split : c.args.text.now ≡ encode c.in-Some.c ++ c.as_str.result.now = sym c.chars-all.ensures.rest ∙ c.in-Some.ensures.steps.0 ∙ ap (λ (r : List ℕ). encode c.in-Some.c ++ r) (sym c.as_str.ensures) in
    omega (arith, ap length split, length-append (encode c.in-Some.c) c.as_str.result.now, length-encode c.in-Some.c, (len_utf8_bounds c.in-Some.c).0)

pub returns-in-None-clause-chars : goal.returns-in-None-clause-chars
returns-in-None-clause-chars c = ap chars (sym c.chars-all.ensures.rest ∙ nil_from_length _ c.in-None.ensures.steps.0.0) ∙ chars-nil
