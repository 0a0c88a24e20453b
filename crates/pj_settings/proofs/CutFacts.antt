-- Where `cut_at` cuts.
use Rattle.std.proofs.Common.{◌≡◌, ◌≢◌, ◌∙◌, ◌<◌, ℕ, suc, [], ◌∷◌, ◌++◌, length, get_or, refl, ap, arith, append_assoc, append-nil, ne_eqb, eq-eqb}
use Rattle.clap.specs.Words.{Text}
use Rattle.pj_settings.specs.Values.{cut_onto}

-- a piece without the mark is taken whole
pub cut_onto-piece : (mark : ℕ) (held piece rest : Text) → ((i : ℕ) → i < length piece → get_or piece i 0 ≢ mark)
    → cut_onto mark held (piece ++ mark ∷ rest) ≡ (held ++ piece) ∷ cut_onto mark [] rest
cut_onto-piece mark held [] rest none = rw (eq-eqb mark mark refl, append-nil held) refl
cut_onto-piece mark held (b ∷ bs) rest none =
    rw (ne_eqb b mark (none 0 (omega arith)))
    (cut_onto-piece mark (held ++ b ∷ []) bs rest (λ i h. none (suc i) (omega arith))
    ∙ ap (λ t. t ∷ cut_onto mark [] rest) (append_assoc held (b ∷ []) bs))

pub cut_onto-last : (mark : ℕ) (held piece : Text) → ((i : ℕ) → i < length piece → get_or piece i 0 ≢ mark)
    → cut_onto mark held piece ≡ (held ++ piece) ∷ []
cut_onto-last mark held [] none = rw (append-nil held) refl
cut_onto-last mark held (b ∷ bs) none =
    rw (ne_eqb b mark (none 0 (omega arith)))
    (cut_onto-last mark (held ++ b ∷ []) bs (λ i h. none (suc i) (omega arith))
    ∙ ap (λ t. t ∷ []) (append_assoc held (b ∷ []) bs))
