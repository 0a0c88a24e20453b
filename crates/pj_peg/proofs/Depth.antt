-- How far a search is from its end: by its depth, and at one depth by its node.
use Rattle.std.proofs.Common.{◌≡◌, ℕ, zero, suc, ◌+◌, ◌-◌, ◌*◌, ◌<◌, ◌≤◌, arith, sym, subst}
use Rattle.std.proofs.Math.Nat.{mul-le-mul_right, suc-mul}

-- a step down
pub deeper : (depth room rest : ℕ) → 0 < depth → rest < room → (depth - 1) * room + rest < depth * room
deeper zero room rest some lt = absurd (omega arith)
deeper (suc d) room rest some lt =
    let less : suc d - 1 ≡ d = omega arith in
    subst (λ n. n * room + rest < suc d * room) (sym less)
    (subst (λ n. d * room + rest < n) (sym (suc-mul d room)) (omega arith))

-- the same depth, or a lower one
pub no_deeper : (depth less room rest more : ℕ) → less ≤ depth → rest < more → less * room + rest < depth * room + more
no_deeper depth less room rest more le lt =
    let products = mul-le-mul_right room le in
    omega (arith, products, lt)
