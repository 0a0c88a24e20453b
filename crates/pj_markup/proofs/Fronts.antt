-- A text of which a front is read.
use Rattle.std.proofs.Common.{◌≡◌, ℕ, ◌+◌, ◌-◌, ◌≤◌, List, [], ◌∷◌, ◌++◌, length, Some, None, false, true, refl, sym, ◌∙◌, ap, subst, arith, append_assoc}
use Rattle.std.specs.Str.{chars, IsUtf8}
use Rattle.std.proofs.lemmas.List.{append-nil}
use Rattle.std.proofs.lemmas.Str.{encodes-chars}
use Rattle.pj_markup.specs.Depth.{greatest_depth}
use Rattle.pj_markup.specs.Elements.{size, Row}
use Rattle.pj_markup.specs.Faults.{StopsAt, IsTooDeepAt}
use Rattle.pj_markup.specs.Markup.{Doc}
use Rattle.pj_markup.specs.States.{State, Begin, step, is_deep, less_of, at_end, Whole, Stops}
use Rattle.pj_markup.specs.Faults.{IsFault}
use Rattle.pj_markup.specs.Stopping.{Faults, Lacks}
use Rattle.pj_markup.specs.declared.reading.MarkupFault.{MarkupFault}
use Rattle.pj_markup.specs.declared.reading.MarkupFault.TheVariants.{At, Deep, Memory}
use Rattle.pj_markup.proofs.Reached.{Reached, at_front, one_more, size-append, is_document, stops_at_end, stops_at, too_deep_at}

-- the reader has come through the front to the state, and the rest stands behind it
pub record IsRead (text rest : List ℕ) (s : State) : Type 0 where
  pub front : List ℕ
  pub split : text ≡ front ++ rest
  pub reached : Reached greatest_depth front s

pub nothing_read : (text : List ℕ) (s : State) → s ≡ Begin → IsRead text text s
nothing_read text s is = record { front = []; split = refl; reached = subst (Reached greatest_depth []) (sym is) at_front }

pub size_chars : (s : List ℕ) → IsUtf8 s → length s ≡ size (chars s)
size_chars s u = ap length (sym (encodes-chars s u))

-- where the rest begins
pub offset_is : (text rest : List ℕ) (s : State) → IsUtf8 text → IsUtf8 rest → (r : IsRead (chars text) (chars rest) s) → (length rest ≤ length text) × (length text - length rest ≡ size r.front)
offset_is text rest s ut ur r =
    let whole = size_chars text ut in
    let behind = size_chars rest ur in
    let sum : size (chars text) ≡ size r.front + size (chars rest) = ap size r.split ∙ size-append r.front (chars rest) in
    (omega arith, omega arith)

pub read_more : (text rest behind : List ℕ) (s next : State) (c o : ℕ) → (r : IsRead text rest s) → rest ≡ c ∷ behind → is_deep greatest_depth s c ≡ false → o ≡ size r.front →
    step o s c ≡ Some next → IsRead text behind next
read_more text rest behind s next c o r is shallow at to = record {
  front = r.front ++ c ∷ [];
  split = r.split ∙ ap (λ x. r.front ++ x) is ∙ sym (append_assoc r.front (c ∷ []) behind);
  reached = one_more c r.reached shallow (ap (λ x. step x s c) (sym at) ∙ to) refl;
}

pub stops_here : (text rest behind : List ℕ) (s : State) (c o : ℕ) → (r : IsRead text rest s) → rest ≡ c ∷ behind → is_deep greatest_depth s c ≡ false → o ≡ size r.front →
    step o s c ≡ None → StopsAt greatest_depth text o
stops_here text rest behind s c o r is shallow at none =
    subst (StopsAt greatest_depth text) (sym at)
    (stops_at greatest_depth text r.front behind s c refl (r.split ∙ ap (λ x. r.front ++ x) is) r.reached shallow (ap (λ x. step x s c) (sym at) ∙ none))

pub deep_here : (text rest behind : List ℕ) (s : State) (c : ℕ) → IsRead text rest s → rest ≡ c ∷ behind → is_deep greatest_depth s c ≡ true → IsTooDeepAt greatest_depth text (less_of s)
deep_here text rest behind s c r is deep = too_deep_at greatest_depth text r.front behind s c refl (r.split ∙ ap (λ x. r.front ++ x) is) r.reached deep

all_read : (text rest : List ℕ) (s : State) → IsRead text rest s → rest ≡ [] → Reached greatest_depth text s
all_read text rest s r is = subst (λ x. Reached greatest_depth x s) (sym (r.split ∙ ap (λ x. r.front ++ x) is ∙ append-nil r.front)) r.reached

pub ends_well : (text rest : List ℕ) (s : State) (rows : List Row) → IsRead text rest s → rest ≡ [] → at_end (size text) s ≡ Whole rows → Doc greatest_depth text rows
ends_well text rest s rows r is e = is_document greatest_depth text s rows (all_read text rest s r is) e

pub ends_early : (text rest : List ℕ) (s : State) → IsRead text rest s → rest ≡ [] → at_end (size text) s ≡ Stops (size text) → StopsAt greatest_depth text (size text)
ends_early text rest s r is e = stops_at_end greatest_depth text s refl (all_read text rest s r is) e

pub fault_here : (text rest behind : List ℕ) (s : State) (c o : ℕ) (fault : MarkupFault) → (r : IsRead text rest s) → rest ≡ c ∷ behind → o ≡ size r.front → Faults o s c fault →
    IsFault text fault
fault_here text rest behind s c o (At offset) r is at (same, shallow, none) = subst (StopsAt greatest_depth text) (sym same) (stops_here text rest behind s c o r is shallow at none)
fault_here text rest behind s c o (Deep depth offset) r is at (same, deep, less) = (same, subst (IsTooDeepAt greatest_depth text) (sym less) (deep_here text rest behind s c r is deep))
fault_here text rest behind s c o Memory r is at h = tt

pub fault_at_end : (text rest : List ℕ) (s : State) (o : ℕ) (fault : MarkupFault) → IsRead text rest s → rest ≡ [] → o ≡ size text → Lacks o s fault → IsFault text fault
fault_at_end text rest s o (At offset) r is at (same, lacks) =
    subst (StopsAt greatest_depth text) (sym (same ∙ at)) (ends_early text rest s r is (lacks (size text)))
fault_at_end text rest s o (Deep depth offset) r is at h = absurd h
fault_at_end text rest s o Memory r is at h = tt
