-- The places of a derivation are within the text.
use Rattle.std.proofs.Common.{◌≡◌, ℕ, ◌+◌, ◌<◌, ◌≤◌, List, length, arith, ⊎_elim}
use Rattle.std.specs.Prelude.{All}
use Rattle.std.proofs.lemmas.List.Elements.{All-cons, All-nil, All-append}
use Rattle.pj_peg_grammar.specs.declared.derivation.Step.{Step}
use Rattle.pj_peg_grammar.specs.Form.{Form}
use Rattle.pj_peg_grammar.specs.Derivation.{Forest, no_tree, tree, append, count, steps_from}
use Rattle.pj_peg_grammar.specs.Derives.{To, Derives, token_is, any_is, rule_to, nothing_to, seq_to, choice_first, choice_other, star_more, star_end, maybe_some, maybe_none, ahead_is, not_ahead_is}
use Rattle.pj_peg_grammar.proofs.Exists.{Goes, goes}

abbrev Placed : ℕ → Forest → Type 0
Placed n no_tree = Unit {0}
Placed n (tree r i j below after) = ((i ≤ j) × (j ≤ n)) × (Placed n below × Placed n after)

append_placed : (n : ℕ) (d e : Forest) → Placed n d → Placed n e → Placed n (append d e)
append_placed n no_tree e h k = k
append_placed n (tree r i j below after) e h k = (h.0, (h.1.0, append_placed n after e h.1.1 k))

within : (n i j : ℕ) → i ≤ n → Goes n i j → (i ≤ j) × (j ≤ n)
within n i j le g = ⊎_elim (λ (q : i ≡ j). (omega arith, omega arith)) (λ (q : (i < j) × (j ≤ n)). (omega arith, q.1)) g

module _ (rules : List Form) (kinds : List ℕ) where
  pub placed : {f : Form} {i j : ℕ} {d : Forest} → Derives rules kinds f i (To j d) → i ≤ length kinds → Placed (length kinds) d
  placed (token_is h) le = tt
  placed (any_is h) le = tt
  placed (rule_to {r} {i} {j} f h x) le = (within (length kinds) i j le (goes rules kinds x), (placed x le, tt))
  placed nothing_to le = tt
  placed (seq_to {i} {j} {k} {d} {e} x y) le =
      append_placed (length kinds) d e (placed x le) (placed y (within (length kinds) i j le (goes rules kinds x)).1)
  placed (choice_first x) le = placed x le
  placed (choice_other x y) le = placed y le
  placed (star_more {i} {j} {k} {d} {e} x y) le =
      append_placed (length kinds) d e (placed x le) (placed y (within (length kinds) i j le (goes rules kinds x)).1)
  placed (star_end x) le = tt
  placed (maybe_some x) le = placed x le
  placed (maybe_none x) le = tt
  placed (ahead_is x) le = tt
  placed (not_ahead_is x) le = tt

abbrev InText : ℕ → Step → Type 0
InText n s = (s.from ≤ s.to) × (s.to ≤ n)

pub placed_steps : (n m : ℕ) (d : Forest) → Placed n d → All (λ (s : Step). (s.from ≤ s.to) × (s.to ≤ n)) (steps_from m d)
placed_steps n m no_tree h = All-nil (InText n)
placed_steps n m (tree r i j below after) h =
    All-cons (InText n) _ _ h.0
    (All-append (InText n) (steps_from (m + 1) below) (steps_from (m + 1 + count below) after) (placed_steps n (m + 1) below h.1.0) (placed_steps n (m + 1 + count below) after h.1.1))
