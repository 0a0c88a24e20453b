-- What is read as an operand of a level is read as one of each lower level.
use Rattle.std.proofs.Common.{◌≡◌, ℕ, zero, suc, ◌+◌, ◌-◌, ◌≤◌, List, [], ◌∷◌, ◌++◌, Bool, None, subst, arith}
use Rattle.pj_xtokens.specs.Tokens.{Lexed}
use Rattle.pj_xsyntax_laws.specs.Spaced.{Word, placed}
use Rattle.pj_xexpressions.specs.Expressions.{Scope, Written}
use Rattle.pj_xexpressions.specs.Trees.{Tree}
use Rattle.pj_xreadings.specs.Operands.{Operand}
use Rattle.pj_xmeaning.specs.Reads as x
use Rattle.pj_xsyntax_laws.proofs.Readings.{ReadsAt, at, operand_of}
use Rattle.pj_xsyntax_laws.proofs.WholeReadings.{reading}

-- the next lower level: a rule that another one spells, or one of operands with operators between them, of which there are none
step : (level depth : ℕ) (xs ys : List Lexed) (a : Operand) → at (suc level) depth xs ys a → at level depth xs ys a
step zero depth xs ys a r = reading (x.expr {more = []} r (reading x.expr_end))
step (suc zero) depth xs ys a r = reading (x.single_or r)
step (suc (suc zero)) depth xs ys a r = reading (x.or_expr {more = []} r (reading x.or_end))
step (suc (suc (suc zero))) depth xs ys a r = reading (x.and_expr {more = []} r (reading x.and_end))
step (suc (suc (suc (suc zero)))) depth xs ys a r = reading (x.comparison_expr {second = None} r (reading x.not_compared))
step (suc (suc (suc (suc (suc zero))))) depth xs ys a r = reading (x.concatenation_expr {more = []} r (reading x.concatenation_end))
step (suc (suc (suc (suc (suc (suc zero)))))) depth xs ys a r = reading (x.range_expr {last = None} r (reading x.no_range))
step (suc (suc (suc (suc (suc (suc (suc zero))))))) depth xs ys a r = reading (x.additive_expr {more = []} r (reading x.additive_end))
step (suc (suc (suc (suc (suc (suc (suc (suc zero)))))))) depth xs ys a r = reading (x.multiplicative_expr {more = []} r (reading x.multiplicative_end))
step (suc (suc (suc (suc (suc (suc (suc (suc (suc zero))))))))) depth xs ys a r = reading (x.union_expr {more = []} r (reading x.union_end))
step (suc (suc (suc (suc (suc (suc (suc (suc (suc (suc zero)))))))))) depth xs ys a r = reading (x.set_expr {more = []} r (reading x.set_end))
step (suc (suc (suc (suc (suc (suc (suc (suc (suc (suc (suc zero))))))))))) depth xs ys a r = reading (x.no_sign r)
step (suc (suc (suc (suc (suc (suc (suc (suc (suc (suc (suc (suc zero)))))))))))) depth xs ys a r = reading (x.map_expr {more = []} r (reading x.map_end))
step (suc (suc (suc (suc (suc (suc (suc (suc (suc (suc (suc (suc (suc zero))))))))))))) depth xs ys a r = reading (x.operand r (reading x.no_left_out))
step (suc (suc (suc (suc (suc (suc (suc (suc (suc (suc (suc (suc (suc (suc zero)))))))))))))) depth xs ys a r = reading (x.relative {steps = a ∷ []} (reading (x.path_steps r (reading x.steps_end))))
step (suc (suc (suc (suc (suc (suc (suc (suc (suc (suc (suc (suc (suc (suc (suc more))))))))))))))) depth xs ys a r = r

-- each lower level
pub climb : (up level depth : ℕ) (xs ys : List Lexed) (a : Operand) → at (up + level) depth xs ys a → at level depth xs ys a
climb zero level depth xs ys a r = subst (λ n. at n depth xs ys a) (let e : zero + level ≡ level = omega arith in e) r
climb (suc up) level depth xs ys a r =
    climb up level depth xs ys a (step (up + level) depth xs ys a (subst (λ n. at n depth xs ys a) (let e : suc up + level ≡ suc (up + level) = omega arith in e) r))

-- from a level to a lower one
pub descend : {flag : Bool} {ws : List Word} {bound : ℕ} {scope : Scope} {written : Written} {t : Tree} (high low : ℕ) → low ≤ high → ReadsAt flag high ws bound scope written t → ReadsAt flag low ws bound scope written t
descend {flag} {ws} {bound} {scope} {written} {t} high low h r = record {
  reads = λ depth from ys few quiet.
      let same : high ≡ (high - low) + low = omega (arith, h) in
      let it = (subst (λ n. ReadsAt flag n ws bound scope written t) same r).reads depth from ys few quiet in
      record { names = it.names; reads = climb (high - low) low depth (placed from ws ++ ys) ys (operand_of t written it.names) it.reads; clean = it.clean };
}
