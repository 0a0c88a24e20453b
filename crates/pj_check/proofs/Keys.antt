-- The keys of a set's rules, one after the other.
use Rattle.std.proofs.Common.{◌≡◌, ◌∙◌, ◌<◌, ◌+◌, ◌++◌, ℕ, List, [], ◌∷◌, length, map, take, ap, sym, arith}
use Rattle.std.specs.List.{All, HoldsAt}
use Rattle.std.proofs.lemmas.List.{map_more}
use Rattle.std.proofs.lemmas.List.Elements.{All-more}
use Rattle.pj_rule_keys.specs.Keys.{FitsKey, HasRoom, key_of}
use Rattle.pj_rule_sets.specs.Rules.{EffectiveRule}
use Rattle.pj_rule_texts.specs.Values.{Text}

module _ (marker : Text) where
  pub one_key_more : (rules : List EffectiveRule) (at : ℕ) (keys new : List (List ℕ)) (key : List ℕ) → at < length rules → HoldsAt (λ (rule : EffectiveRule). key ≡ key_of marker rule) rules at
      → keys ≡ map (λ (rule : EffectiveRule). key_of marker rule) (take at rules) → new ≡ keys ++ key ∷ [] → new ≡ map (λ (rule : EffectiveRule). key_of marker rule) (take (at + 1) rules)
  one_key_more [] at keys new key inside is are grown = absurd (omega arith)
  one_key_more (first ∷ rest) at keys new key inside is are grown =
      grown ∙ ap (λ (l : List (List ℕ)). l ++ key ∷ []) are
      ∙ ap (λ (k : List ℕ). map (λ (rule : EffectiveRule). key_of marker rule) (take at (first ∷ rest)) ++ k ∷ []) (is first)
      ∙ sym (map_more (λ (rule : EffectiveRule). key_of marker rule) (first ∷ rest) at first inside)

  pub room_more : (rules : List EffectiveRule) (at : ℕ) → at < length rules → All (λ (rule : EffectiveRule). HasRoom marker × FitsKey rule) (take at rules) → HasRoom marker × HoldsAt FitsKey rules at
      → All (λ (rule : EffectiveRule). HasRoom marker × FitsKey rule) (take (at + 1) rules)
  room_more [] at inside all here = absurd (omega arith)
  room_more (first ∷ rest) at inside all here = All-more (λ (rule : EffectiveRule). HasRoom marker × FitsKey rule) (first ∷ rest) at first inside all (here.0, here.1 first)
