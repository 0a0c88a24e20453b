use Rattle.std.proofs.Common.{◌≡◌, ◌++◌, ◌∙◌, ℕ, List, [], ◌∷◌, ap, rules, sym}
use Rattle.pj_workers.proofs.Chosen.{one_number_more}
use Rattle.pj_workers.proofs.numbers.all_numbers.Goals as goal

pub loop-number-preserved : goal.loop-number-preserved
loop-number-preserved c =
    let grown : c.loop-number.numbers ++ c.loop-number.number ∷ [] ≡ c.push.new.self = search rules in
    sym grown ∙ ap (λ (l : List ℕ). l ++ c.loop-number.number ∷ []) c.loop-number.invariant ∙ sym (one_number_more c.loop-number.number)
