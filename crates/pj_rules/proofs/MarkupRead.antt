-- Each text is markup, or it has a fault.
use Rattle.std.proofs.Common.{◌≡◌, ◌≢◌, ℕ, suc, Bool, true, false, ◌⊎◌, inl, inr, List, [], ◌∷◌, ◌++◌, Option, Some, None, refl, sym, ◌∙◌, ap, subst, append_assoc}
use Rattle.std.specs.Prelude.{nat_le, if◌then◌else◌}
use Rattle.std.proofs.lemmas.List.{append-nil}
use Rattle.pj_markup.specs.Depth.{greatest_depth}
use Rattle.pj_markup.specs.Elements.{size}
use Rattle.pj_markup.specs.Faults.{IsFault}
use Rattle.pj_markup.specs.Markup.{Doc}
use Rattle.pj_markup.specs.declared.element.Row.{Row}
use Rattle.pj_markup.specs.declared.reading.MarkupFault.{MarkupFault}
use Rattle.pj_markup.specs.declared.reading.MarkupFault.TheVariants.{At, Deep, Memory}
use Rattle.pj_markup.specs.States.{Outside, Inside, State, Begin, On, Less, Bang, Letters, Until, TagName, Tag, TagSpace, AttributeName, Equals, Quote, InValue, EndSpace, Reference, ReferenceA, Hash, Digit, Digits, step, is_deep, less_of, at_end, Whole, Stops}
use Rattle.pj_markup.proofs.Reached.{Reached, at_front, one_more, is_document, stops_at, stops_at_end, too_deep_at}

abbrev pub IsSettled : List ℕ → Type 0
IsSettled text = ((rows : List Row) × Doc greatest_depth text rows) ⊎ ((fault : MarkupFault) × (fault ≢ Memory) × IsFault text fault)

abbrev Ends : State → Type 0
Ends s = ((rows : List Row) × ((end : ℕ) → at_end end s ≡ Whole rows)) ⊎ ((end : ℕ) → at_end end s ≡ Stops end)

-- at the end stands a document, or it lacks something
ends : (s : State) → Ends s
ends (On (Outside [])) = inr (λ end. refl)
ends (On (Outside (r ∷ rows))) = inl (r ∷ rows, λ end. refl)
ends (On (Inside f)) = inr (λ end. refl)
ends Begin = inr (λ end. refl)
ends (Less g at) = inr (λ end. refl)
ends (Bang g) = inr (λ end. refl)
ends (Letters w k) = inr (λ end. refl)
ends (Until l k) = inr (λ end. refl)
ends (TagName f) = inr (λ end. refl)
ends (Tag f) = inr (λ end. refl)
ends (TagSpace f) = inr (λ end. refl)
ends (AttributeName f name) = inr (λ end. refl)
ends (Equals f name) = inr (λ end. refl)
ends (Quote f name) = inr (λ end. refl)
ends (InValue f name quote value) = inr (λ end. refl)
ends (EndSpace f) = inr (λ end. refl)
ends (Reference t) = inr (λ end. refl)
ends (ReferenceA t) = inr (λ end. refl)
ends (Hash t) = inr (λ end. refl)
ends (Digit t hexadecimal) = inr (λ end. refl)
ends (Digits t hexadecimal number) = inr (λ end. refl)

-- a fault at a place, and one of depth
at_place : (text : List ℕ) (offset : ℕ) → IsFault text (At offset) → IsSettled text
at_place text offset is = inr (At offset, (λ e. absurd (cc)), is)

too_deep : (text : List ℕ) (offset : ℕ) → IsFault text (Deep (suc greatest_depth) offset) → IsSettled text
too_deep text offset is = inr (Deep (suc greatest_depth) offset, (λ e. absurd (cc)), is)

-- the front leads to the state: so the rest settles the text
settled_from : (text front rest : List ℕ) (s : State) → text ≡ front ++ rest → Reached greatest_depth front s → IsSettled text
settled_from text front [] s split r =
    let whole : Reached greatest_depth text s = subst (λ (t : List ℕ). Reached greatest_depth t s) (sym (split ∙ append-nil front)) r in
    elim (ends s) [
      | inl (rows, e) ↦ inl (rows, is_document greatest_depth text s rows whole (e (size text)))
      | inr e ↦ at_place text (size text) (stops_at_end greatest_depth text s refl whole (e (size text)))
    ]
settled_from text front (c ∷ rest) s split r = go (settled_from text (front ++ c ∷ []) rest) (is_deep greatest_depth s c) (step (size front) s c) refl refl
  where
    go : ((next : State) → text ≡ (front ++ c ∷ []) ++ rest → Reached greatest_depth (front ++ c ∷ []) next → IsSettled text) →
        (deep : Bool) (o : Option State) → is_deep greatest_depth s c ≡ deep → step (size front) s c ≡ o → IsSettled text
    go more true o deep to = too_deep text (less_of s) (refl, too_deep_at greatest_depth text front rest s c refl split r deep)
    go more false None shallow to = at_place text (size front) (stops_at greatest_depth text front rest s c refl split r shallow to)
    go more false (Some next) shallow to = more next (split ∙ sym (append_assoc front (c ∷ []) rest)) (one_more c r shallow to refl)

pub settled : (text : List ℕ) → IsSettled text
settled text = settled_from text [] text Begin refl at_front
