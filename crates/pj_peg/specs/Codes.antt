-- A cell is given back by the end that it holds.
use Rattle.std.specs.Prelude.{◌≡◌, ℕ, zero, suc, refl}
use Rattle.std.proofs.Common.{ap, add-one}
use Rattle.pj_peg.specs.declared.table.Cell.TheInside.{Inside}
use Rattle.pj_peg.specs.Table.{end_of_code, code_of_end}

codes : (n : ℕ) → code_of_end (end_of_code n) ≡ n
codes zero = refl
codes (suc n) = add-one n

pub code_of_end-end_of_code : (c : Inside) → ◌≡◌ {A = Inside} (record { code = code_of_end (end_of_code c.code) }) c
code_of_end-end_of_code c = ap (λ (n : ℕ). record { code = n }) (codes c.code)
