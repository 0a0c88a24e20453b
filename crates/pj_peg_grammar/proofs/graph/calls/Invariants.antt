use Rattle.std.proofs.Common.{◌≡◌, ℕ, Bool, map, take, Vec, Global}
use Rattle.pj_peg_grammar.specs.Program.{form_at, forms_in}
use Rattle.pj_peg_grammar.specs.Analysis.{facts_by, begun_by}
use Rattle.pj_peg_grammar.proofs.graph.calls.Given as goal

abbrev pub invariant-loop-root : goal.invariant-loop-root
invariant-loop-root l =
    (e : ℕ → Bool) (n : ℕ) → l.facts ≡ map (facts_by e n) (forms_in l.program.nodes.items) →
    map (λ (v : Vec ℕ Global). v.items) l.graph.items ≡ map (begun_by e) (map (form_at (forms_in l.program.nodes.items)) (take l.root-index l.program.roots.items))
