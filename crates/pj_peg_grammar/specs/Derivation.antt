-- Derivations as trees, and the list of steps that a derivation spells.
use Rattle.std.specs.Prelude.{ℕ, ◌+◌, List, [], ◌∷◌, ◌++◌}
use Rattle.pj_peg_grammar.specs.declared.derivation.Step.{Step}

-- The derivation trees of rules that stand one after the other. A tree is a rule, the places from which and up to which it
-- took the tokens, and the trees of the rules that it called, in their order.
pub data Forest : Type 0 where
  no_tree : Forest
  -- the rule, from, to, what is below it, and the trees after it
  tree : ℕ → ℕ → ℕ → Forest → Forest → Forest

abbrev pub append : Forest → Forest → Forest
append no_tree e = e
append (tree r i j below after) e = tree r i j below (append after e)

-- how many rules there are
abbrev pub count : Forest → ℕ
count no_tree = 0
count (tree r i j below after) = 1 + count below + count after

-- The steps in preorder, of which the first has the number n: a rule, then the steps below it, then the steps after it. A
-- step's `next` is the number that comes after those below it, whether or not a step has that number.
abbrev pub steps_from : ℕ → Forest → List Step
steps_from n no_tree = []
steps_from n (tree r i j below after) =
    record { rule = r; from = i; to = j; next = n + 1 + count below } ∷ (steps_from (n + 1) below ++ steps_from (n + 1 + count below) after)

abbrev pub steps_of : Forest → List Step
steps_of d = steps_from 0 d
