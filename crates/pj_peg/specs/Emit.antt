-- Tasks of which the rest of a derivation's steps comes.
use Rattle.std.specs.Prelude.{◌≡◌, ℕ, zero, suc, List, [], ◌∷◌, ◌++◌, length, reverse}
use Rattle.pj_peg_grammar.specs.declared.derivation.Step.{Step}
use Rattle.pj_peg.specs.declared.calls.Call.{Call}
use Rattle.pj_peg.specs.declared.runner.Task.{Task}
use Rattle.pj_peg.specs.declared.runner.Task.TheVariants.{Open, Close}
use Rattle.pj_peg_grammar.specs.Form.{Form, rule}
use Rattle.pj_peg_grammar.specs.Derivation.{Forest, tree, no_tree}
use Rattle.pj_peg_grammar.specs.Derives.{Derives, To}
use Rattle.pj_peg.specs.Ends.{AreCalls}

-- the calls as tasks, the first one first
abbrev pub opens : List Call → List Task
opens [] = []
opens (c ∷ cs) = Open c ∷ opens cs

-- a step whose next one is not known yet
abbrev pub opened : Call → Step
opened c = record { rule = c.rule; from = c.from; to = c.to; next = 0 }

-- the call's step was emitted, and the calls below it are to be opened before it is closed
pub record Opens (rules : List Form) (kinds : List ℕ) (c : Call) (steps : List Step) (stack : List Task) (steps' : List Step) (stack' : List Task) : Type 0 where
  pub emitted : steps' ≡ steps ++ opened c ∷ []
  pub below : List Call
  pub todo : reverse stack' ≡ opens below ++ Close (length steps) ∷ reverse stack
  pub inner : Forest
  pub inner_is : AreCalls rules kinds below inner
  pub derives : Derives rules kinds (rule c.rule) c.from (To c.to (tree c.rule c.from c.to inner no_tree))

-- the steps with m as the next step of the n-th
abbrev pub set_next : List Step → ℕ → ℕ → List Step
set_next [] n m = []
set_next (s ∷ ss) zero m = record s { next = m } ∷ ss
set_next (s ∷ ss) (suc n) m = s ∷ set_next ss n m
