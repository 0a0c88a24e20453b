-- Where forms end, and by which calls.
use Rattle.std.specs.Prelude.{◌≡◌, ℕ, ◌<◌, ◌≤◌, List, [], ◌∷◌, ◌++◌, length, Option, Some, None}
use Rattle.pj_peg.specs.declared.calls.Call.{Call}
use Rattle.pj_peg_grammar.specs.declared.program.Program.{Program}
use Rattle.pj_peg_grammar.specs.Form.{Form, rule}
use Rattle.pj_peg_grammar.specs.Derivation.{Forest, no_tree, append}
use Rattle.pj_peg_grammar.specs.Derives.{To, Fails, Derives}
use Rattle.pj_peg_grammar.specs.WellFormed.{Names, Repeats, IsNullable}
use Rattle.pj_peg_grammar.specs.Program.{rules_of}

-- the form goes up to the place, or fails
abbrev pub Ends : List Form → List ℕ → Form → ℕ → Option ℕ → Type 0
Ends rules kinds f i None = Derives rules kinds f i Fails
Ends rules kinds f i (Some j) = (d : Forest) × Derives rules kinds f i (To j d)

-- the trees are those of the calls, one after the other
abbrev pub AreCalls : List Form → List ℕ → List Call → Forest → Type 0
AreCalls rules kinds [] d = d ≡ no_tree
AreCalls rules kinds (c ∷ cs) d = (e : Forest) × (rest : Forest) ×
    (c.from ≤ length kinds) × Derives rules kinds (rule c.rule) c.from (To c.to e) × AreCalls rules kinds cs rest × (d ≡ append e rest)

-- the form goes up to a place, by these calls
abbrev pub Makes : List Form → List ℕ → Form → ℕ → ℕ → List Call → Type 0
Makes rules kinds f i j cs = (d : Forest) × Derives rules kinds f i (To j d) × AreCalls rules kinds cs d

-- calls were added: where the form does not fail, those by which it goes up to the place
abbrev pub Collects : List Form → List ℕ → Form → ℕ → List Call → List Call → Option ℕ → Type 0
Collects rules kinds f i old new None = (cs : List Call) × (new ≡ old ++ cs) × Derives rules kinds f i Fails
Collects rules kinds f i old new (Some j) = (cs : List Call) × (new ≡ old ++ cs) × Makes rules kinds f i j cs

-- the form names only rules that are there, and repeats nothing that can take nothing
pub record IsSafe (p : Program) (f : Form) : Type 0 where
  pub known : (s : ℕ) → Names f s → s < length p.roots.items
  pub repeats : (q : Form) → Repeats f q → IsNullable (rules_of p) q → ⊥
