use Rattle.std.proofs.Common.{◌≡◌, map, take}
use Rattle.pj_peg_grammar.specs.declared.analysis.Facts.{Facts}
use Rattle.pj_peg_grammar.proofs.analysis.nullable_bits.Given as goal

abbrev pub invariant-loop-fact : goal.invariant-loop-fact
invariant-loop-fact l = l.bits.items ≡ map (λ (f : Facts). f.nullable) (take l.fact-index l.facts)
