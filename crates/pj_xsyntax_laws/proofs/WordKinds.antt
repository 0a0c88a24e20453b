-- The kind of a word by the scanner's states: what it computes is spelled, and what is spelled it computes.
use Rattle.std.proofs.Common.{◌≡◌, ℕ, List, ◌∷◌, Option, Some, None, ap}
use Rattle.pj_xtokens.specs.Characters.{holds}
use Rattle.pj_xtokens.specs.Rules.{Spells}
use Rattle.pj_xtokens.specs.Scanning.{kind_from, kind_of}
use Rattle.pj_xtokens.specs.States.{step}
use Rattle.pj_xtokens.specs.declared.token.TokenKind.{TokenKind}
use Rattle.pj_xtokens.specs.declared.state.State.{State}

-- The scanner follows the rules. For a word that is given, `refl` proves what the states say of it, under `unfolding first_step sign_step`.
abbrev pub SpelledAreTold : Type 0
SpelledAreTold = (kind : TokenKind) (word : List ℕ) → Spells kind word → kind_of word ≡ Some kind

abbrev pub ToldAreSpelled : Type 0
ToldAreSpelled = (kind : TokenKind) (word : List ℕ) → kind_of word ≡ Some kind → Spells kind word

pub kind_next : (c : ℕ) (w : List ℕ) (q r : State) → step (λ s. holds s c) q ≡ Some r → kind_from (c ∷ w) q ≡ kind_from w r
kind_next c w q r e = ap (λ (o : Option State). elim o as (λ z. Option TokenKind) [ None ↦ None | Some x ↦ kind_from w x ]) e

pub kind_stops : (c : ℕ) (w : List ℕ) (q : State) → step (λ s. holds s c) q ≡ None → kind_from (c ∷ w) q ≡ None
kind_stops c w q e = ap (λ (o : Option State). elim o as (λ z. Option TokenKind) [ None ↦ None | Some x ↦ kind_from w x ]) e
