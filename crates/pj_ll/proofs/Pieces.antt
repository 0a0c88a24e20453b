-- The productions that pieces spell, as they are read.
use Rattle.std.proofs.Common.{◌≡◌, ℕ, Bool, List, ◌∷◌, ◌++◌, refl}
use Rattle.std.specs.Prelude.{◌||◌}
use Rattle.pj_ll.specs.declared.grammar.Symbol.{Symbol}
use Rattle.pj_ll.specs.declared.grammar.Piece.{Piece}
use Rattle.pj_ll.specs.declared.grammar.Piece.TheVariants.{Production, Terminal, Rule, LeftOut, Close, On, AtEnd}
use Rattle.pj_ll.specs.Grammar.{symbols_in, on_in, at_end_in, entries_of}

-- the pieces of a production were read, up to those that are left
pub record IsReading (behind left : List Piece) (symbols : List Symbol) (on : List ℕ) (at_end : Bool) : Type 0 where
  pub symbols_are : symbols ++ symbols_in left ≡ symbols_in behind
  pub on_are : on ++ on_in left ≡ on_in behind
  pub at_end_is : (at_end || at_end_in left) ≡ at_end_in behind

pub entries_other : (p : Piece) (ps : List Piece) → ((n : ℕ) → p ≡ Production n → ⊥) → entries_of (p ∷ ps) ≡ entries_of ps
entries_other (Production n) ps other = absurd (other n refl)
entries_other (Terminal t) ps other = refl
entries_other (Rule n) ps other = refl
entries_other (LeftOut t) ps other = refl
entries_other Close ps other = refl
entries_other (On t) ps other = refl
entries_other AtEnd ps other = refl
