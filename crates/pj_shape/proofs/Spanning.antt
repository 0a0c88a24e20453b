-- The spans of nodes and of their tokens are spans of the text.
use Rattle.std.proofs.Common.{◌≡◌, ℕ, zero, suc, ◌-◌, ◌<◌, ◌≤◌, true, false, List, [], ◌∷◌, length, take, drop, Option, Some, None, slice_get, refl, sym, ap, subst, arith, ◌⊎◌, inl, inr, leb}
use Rattle.std.specs.Prelude.{slice_range, if◌then◌else◌}
use Rattle.std.specs.List.{All}
use Rattle.std.specs.Str.{IsCharBoundary}
use Rattle.std.specs.Option.{option_map_or}
use Rattle.std.proofs.lemmas.Str.{IsCharBoundary-end}
use Rattle.std.proofs.lemmas.Bool.{lt-ltb, le-ltb}
use Rattle.std.proofs.lemmas.Bool.Decides.{leb_tells}
use Rattle.std.proofs.lemmas.Option.{slice_get_within, get_or_from_slice_get}
use Rattle.pj_tree.specs.declared.node.Span.{Span}
use Rattle.pj_tree.specs.Tree.{IsSpanOf}
use Rattle.pj_tree.specs.Nested.{Parts, NoMore, Child, AreSpansOf}
use Rattle.pj_shape.specs.Shaped.{Nodes, no_nodes, node}
use Rattle.pj_shape.specs.Words.{AreTokens, AreInOrder, BeginsFrom}
use Rattle.pj_shape.specs.Written.{begin_of, end_of, tokens_then, parts_of}
use Rattle.pj_shape.proofs.Laying.{AreIn}

-- each of the spans is one of the text
abbrev pub Each : List ℕ → List Span → Type 0
Each text [] = Unit {0}
Each text (s ∷ ss) = IsSpanOf text s × Each text ss

pub each_of : (text : List ℕ) (ss : List Span) → All (IsSpanOf text) ss → Each text ss
each_of text [] all = tt
each_of text (s ∷ ss) all =
    (all 0 s (let l : length (s ∷ ss) ≡ suc (length ss) = refl in omega arith), each_of text ss (λ k d lt. all (suc k) d (let l : length (s ∷ ss) ≡ suc (length ss) = refl in omega arith)))

each_drop : (text : List ℕ) (n : ℕ) (ss : List Span) → Each text ss → Each text (drop n ss)
each_drop text zero [] e = tt
each_drop text zero (s ∷ ss) e = e
each_drop text (suc n) [] e = tt
each_drop text (suc n) (s ∷ ss) e = each_drop text n ss e.1

each_take : (text : List ℕ) (n : ℕ) (ss : List Span) → Each text ss → Each text (take n ss)
each_take text zero [] e = tt
each_take text zero (s ∷ ss) e = tt
each_take text (suc n) [] e = tt
each_take text (suc n) (s ∷ ss) e = (e.0, each_take text n ss e.1)

tokens_spans : (text : List ℕ) (ss : List Span) (rest : Parts) → Each text ss → AreSpansOf text rest → AreSpansOf text (tokens_then ss rest)
tokens_spans text [] rest e h = h
tokens_spans text (s ∷ ss) rest e h = (e.0, tokens_spans text ss rest e.1 h)

-- the place has a token, or none is there
pub got : (spans : List Span) (i : ℕ) → ((s : Span) × (slice_get spans i ≡ Some s)) ⊎ ((slice_get spans i ≡ None) × (length spans ≤ i))
got [] zero = inr (refl, omega arith)
got [] (suc i) = inr (refl, omega arith)
got (s ∷ ss) zero = inl (s, refl)
got (s ∷ ss) (suc i) = go (got ss i)
  where
    go : ((t : Span) × (slice_get ss i ≡ Some t)) ⊎ ((slice_get ss i ≡ None) × (length ss ≤ i)) → ((t : Span) × (slice_get ss i ≡ Some t)) ⊎ ((slice_get ss i ≡ None) × (suc (length ss) ≤ suc i))
    go (inl h) = inl h
    go (inr h) = inr (h.0, let le = h.1 in omega arith)

pub span_at : (text : List ℕ) (spans : List Span) (i : ℕ) (s : Span) → All (IsSpanOf text) spans → slice_get spans i ≡ Some s → IsSpanOf text s
span_at text spans i s all is = subst (IsSpanOf text) (get_or_from_slice_get spans i s s is) (all i s (slice_get_within spans i s is))

-- a later token ends no sooner than an earlier one begins
begins_later : (text : List ℕ) (offset : ℕ) (ss : List Span) (j : ℕ) (t : Span) → BeginsFrom offset ss → AreInOrder ss → Each text ss → slice_get ss j ≡ Some t → offset ≤ t.to
begins_later text offset [] j t b o e is = absurd (let l = slice_get_within {A = Span} [] j t is in omega arith)
begins_later text offset (s ∷ ss) zero t b o e is =
    let same : s ≡ t = cc in
    let le : s.from ≤ s.to = e.0.ordered in
    subst (λ (x : Span). offset ≤ x.to) same (omega arith)
begins_later text offset (s ∷ ss) (suc j) t b o e is =
    let h = begins_later text s.to ss j t o.0 o.1 e.1 is in
    let le : s.from ≤ s.to = e.0.ordered in
    omega arith

later : (text : List ℕ) (ss : List Span) (i j : ℕ) (s t : Span) → AreInOrder ss → Each text ss → i ≤ j → slice_get ss i ≡ Some s → slice_get ss j ≡ Some t → s.from ≤ t.to
later text [] i j s t o e le a b = absurd (let l = slice_get_within {A = Span} [] i s a in omega arith)
later text (x ∷ ss) zero j s t o e le a b =
    let same : x ≡ s = cc in
    let z : x.from ≤ x.from = omega arith in
    subst (λ (y : Span). y.from ≤ t.to) same (begins_later text x.from (x ∷ ss) j t z o e b)
later text (x ∷ ss) (suc i) zero s t o e le a b = absurd (omega arith)
later text (x ∷ ss) (suc i) (suc j) s t o e le a b = later text ss i j s t o.1 e.1 (omega arith) a b

module _ (text : List ℕ) (spans : List Span) (are : AreTokens text spans) where
  abbrev each : Each text spans
  each = each_of text spans are.within

  range_spans : (i j : ℕ) → Each text (slice_range spans i j)
  range_spans i j = each_take text (j - i) (drop i spans) (each_drop text i spans each)

  -- where a token begins, or the text ends
  begin_boundary : (i : ℕ) → IsCharBoundary text (begin_of text spans i)
  begin_boundary i = go (got spans i)
    where
      go : ((s : Span) × (slice_get spans i ≡ Some s)) ⊎ ((slice_get spans i ≡ None) × (length spans ≤ i)) → IsCharBoundary text (begin_of text spans i)
      go (inl h) = subst (λ (o : Option Span). IsCharBoundary text (option_map_or (λ (s : Span). s.from) o (length text))) (sym h.1) (span_at text spans i h.0 are.within h.1).begins
      go (inr h) = subst (λ (o : Option Span). IsCharBoundary text (option_map_or (λ (s : Span). s.from) o (length text))) (sym h.0) (IsCharBoundary-end text)

  -- the span of a node
  pub node_span : (i j : ℕ) → i ≤ j → j ≤ length spans → IsSpanOf text record { from = begin_of text spans i; to = end_of text spans i j }
  node_span i j le within = go (leb_tells j i)
    where
      empty : IsSpanOf text record { from = begin_of text spans i; to = begin_of text spans i }
      empty = record { ordered = (let b = begin_of text spans i in omega arith); begins = begin_boundary i; ends = begin_boundary i }

      go : ((leb j i ≡ true) × (j ≤ i)) ⊎ ((leb j i ≡ false) × (i < j)) → IsSpanOf text record { from = begin_of text spans i; to = end_of text spans i j }
      go (inl h) =
          subst (λ b. IsSpanOf text record { from = begin_of text spans i; to = if b then option_map_or (λ (s : Span). s.to) (slice_get spans (j - 1)) (length text) else begin_of text spans i })
          (sym (le-ltb i j h.1)) empty
      go (inr h) =
          subst (λ b. IsSpanOf text record { from = begin_of text spans i; to = if b then option_map_or (λ (s : Span). s.to) (slice_get spans (j - 1)) (length text) else begin_of text spans i })
          (sym (lt-ltb i j h.1)) (two (got spans i) (got spans (j - 1)))
        where
          two : ((s : Span) × (slice_get spans i ≡ Some s)) ⊎ ((slice_get spans i ≡ None) × (length spans ≤ i)) →
              ((s : Span) × (slice_get spans (j - 1) ≡ Some s)) ⊎ ((slice_get spans (j - 1) ≡ None) × (length spans ≤ j - 1)) →
              IsSpanOf text record { from = begin_of text spans i; to = option_map_or (λ (s : Span). s.to) (slice_get spans (j - 1)) (length text) }
          two (inr a) b = absurd (let x = a.1 in let y = h.1 in omega arith)
          two (inl a) (inr b) = absurd (let x = b.1 in let y = h.1 in omega arith)
          two (inl a) (inl b) =
              let first_is : begin_of text spans i ≡ a.0.from = ap (λ (o : Option Span). option_map_or (λ (s : Span). s.from) o (length text)) a.1 in
              let last_is : option_map_or (λ (s : Span). s.to) (slice_get spans (j - 1)) (length text) ≡ b.0.to = ap (λ (o : Option Span). option_map_or (λ (s : Span). s.to) o (length text)) b.1 in
              let ij : i ≤ j - 1 = (let y = h.1 in omega arith) in
              record {
                ordered = (let o = later text spans i (j - 1) a.0 b.0 are.ordered each ij a.1 b.1 in omega arith);
                begins = begin_boundary i;
                ends = subst (IsCharBoundary text) (sym last_is) (span_at text spans (j - 1) b.0 are.within b.1).ends;
              }

  pub parts_spans : (at stop : ℕ) (ns : Nodes) → AreIn (length spans) ns → AreSpansOf text (parts_of text spans at stop ns)
  parts_spans at stop no_nodes h = tokens_spans text (slice_range spans at stop) NoMore (range_spans at stop) tt
  parts_spans at stop (node kind i j below after) h =
      tokens_spans text (slice_range spans at i) (Child kind (begin_of text spans i) (parts_of text spans i j below) (end_of text spans i j) (parts_of text spans j stop after)) (range_spans at i)
      (node_span i j h.0 h.1, parts_spans i j below h.2, parts_spans j stop after h.3)
