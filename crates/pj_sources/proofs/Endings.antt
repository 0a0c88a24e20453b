-- Ends of texts.
use Rattle.std.proofs.Common.{◌≡◌, ◌≢◌, ◌∙◌, ◌-◌, ℕ, true, false, List, ◌++◌, length, take, drop, nat_eq, refl, sym, ap}
use Rattle.std.proofs.lemmas.List.{take-append-drop}
use Rattle.std.specs.Cmp.Lexicographic.{pointwise, same_text}
use Rattle.std.specs.List.{ends_with}

pub ends_not : (s n : List ℕ) → ((front : List ℕ) → s ≢ front ++ n) → ends_with nat_eq s n ≡ false
ends_not s n none =
    let k : ℕ = length s - length n in
    elim (pointwise nat_eq n (drop k s)) as (λ b. pointwise nat_eq n (drop k s) ≡ b → b ≡ false) [
      | true ↦ λ e. absurd (none (take k s) (sym (take-append-drop k s) ∙ ap (λ r. take k s ++ r) (sym (same_text n (drop k s) (sym e)))))
      | false ↦ λ e. refl
    ] refl
