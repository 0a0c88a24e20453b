use Rattle.std.proofs.Common.{◌≡◌, true, false, sym, ◌∙◌, arith, List, ℕ}
use Rattle.std.specs.Str.{chars}
use Rattle.std.specs.Char.Utf16.{is_high_surrogate}
use Rattle.std.proofs.lemmas.Str.{len_utf8_bounds}
use Rattle.pj_source.specs.Escapes.{BeginsWithLow}
use Rattle.pj_source.proofs.WrittenLaws.{pair_front, alone_front, other_unit, no_unit}
use Rattle.pj_source.proofs.source.front.split_escaped.Goals as goal
use Rattle.pj_source.proofs.source.front.split_escaped.Goals.{then-is_high+in-Some+else-is_low, then-is_high+in_default, else-is_high}

pub returns-then-is_low-clause-front : goal.returns-then-is_low-clause-front
returns-then-is_low-clause-front c =
    let v : List ℕ = c.in_ok-first.ensures.escape.0 in
    let w : List ℕ = c.in-Some.ensures.escape.0 in
    pair_front (chars c.args.rest.now) v w (chars c.in_ok-first.first.behind.now) (chars c.in-Some.second.behind.now) c.pair.result c.in_ok-first.first.unit c.in-Some.second.unit c.in_ok-first.first.length c.in-Some.second.length
    c.in_ok-first.ensures.escape.1.0 c.in-Some.ensures.escape.1.0 c.in_ok-first.ensures.escape.1.1.0 c.in-Some.ensures.escape.1.1.0 c.in_ok-first.ensures.escape.1.1.1 c.in-Some.ensures.escape.1.1.1
    (sym c.is_high.ensures ∙ c.if-is_high.true) (sym c.is_low.ensures ∙ c.if-is_low.true) c.pair.ensures.value

pub returns-clause-front : goal.returns-clause-front
returns-clause-front c =
    let v : List ℕ = c.in_ok-first.ensures.escape.0 in
    let rest : List ℕ = chars c.in_ok-first.first.behind.now in
    let none : is_high_surrogate c.in_ok-first.first.unit ≡ true → ¬ (BeginsWithLow rest) = elim c.if-is_high.branch [
      | then-is_high+in-Some+else-is_low w ↦ λ h. other_unit rest w.in-Some.ensures.escape.0 (chars w.in-Some.second.behind.now) w.in-Some.second.unit w.in-Some.ensures.escape.1.0 w.in-Some.ensures.escape.1.1.0 (sym w.is_low.ensures ∙ w.if-is_low.false)
      | then-is_high+in_default w ↦ λ h. no_unit rest w.in_default.ensures.escape
      | else-is_high w ↦ λ h. let no_way : true ≡ false = sym h ∙ (sym c.is_high.ensures ∙ w.if-is_high.false) in absurd cc
    ] in
    alone_front (chars c.args.rest.now) v rest c.alone.result c.in_ok-first.first.unit c.in_ok-first.first.length c.in_ok-first.ensures.escape.1.0 c.in_ok-first.ensures.escape.1.1.0 c.in_ok-first.ensures.escape.1.1.1 c.alone.ensures.value none

pub returns-clause-shorter : goal.returns-clause-shorter
returns-clause-shorter c = omega (arith, (len_utf8_bounds c.alone.result).1, c.in_ok-first.ensures.long)
