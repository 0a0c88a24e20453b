-- The parts of nodes stand in order, and have each token once.
use Rattle.std.proofs.Common.{◌≡◌, ℕ, zero, suc, ◌+◌, ◌-◌, ◌<◌, ◌≤◌, inl, inr, Bool, List, [], ◌∷◌, ◌++◌, length, take, drop, Option, Some, None, slice_get, refl, sym, ◌∙◌, ap, subst, arith}
use Rattle.std.specs.Prelude.{slice_range, if◌then◌else◌}
use Rattle.std.specs.Option.{option_map_or}
use Rattle.std.proofs.lemmas.Bool.{lt-ltb, le-ltb, cases_lt}
use Rattle.std.proofs.lemmas.List.{append-nil}
use Rattle.std.proofs.lemmas.Option.{slice_get_within}
use Rattle.std.proofs.Math.Seq.{take-add}
use Rattle.pj_tree.specs.declared.kind.Kind.{Kind}
use Rattle.pj_tree.specs.declared.node.Span.{Span}
use Rattle.pj_tree.specs.Tree.{IsSpanOf}
use Rattle.pj_tree.specs.Nested.{Parts, NoMore, Child}
use Rattle.pj_shape.specs.InOrder.{StandInOrder, all_tokens}
use Rattle.pj_shape.specs.Shaped.{Nodes, no_nodes, node}
use Rattle.pj_shape.specs.Words.{AreTokens, AreInOrder, BeginsFrom}
use Rattle.pj_shape.specs.Written.{begin_of, end_of, tokens_then, parts_of}
use Rattle.pj_shape.proofs.Nesting.{Nested, nested_le}
use Rattle.pj_shape.proofs.Places.{drop_add}
use Rattle.pj_shape.proofs.Ranges.{range_none, range_front}
use Rattle.pj_shape.proofs.Spanning.{Each, each_of, got, span_at, node_span}

-- ---- the tokens of parts

then_tokens : (ts : List Span) (rest : Parts) → all_tokens (tokens_then ts rest) ≡ ts ++ all_tokens rest
then_tokens [] rest = refl
then_tokens (t ∷ ts) rest = ap (λ l. t ∷ l) (then_tokens ts rest)

range-append : (xs : List Span) (a b c : ℕ) → a ≤ b → b ≤ c → slice_range xs a b ++ slice_range xs b c ≡ slice_range xs a c
range-append xs a b c ab bc =
    let whole : c - a ≡ (b - a) + (c - b) = omega arith in
    let at : a + (b - a) ≡ b = omega arith in
    ap (λ l. slice_range xs a b ++ take (c - b) l) (ap (λ n. drop n xs) (sym at) ∙ drop_add a (b - a) xs)
    ∙ sym (take-add (b - a) (c - b) (drop a xs))
    ∙ ap (λ n. take n (drop a xs)) (sym whole)

pub tokens_of_parts : (hollow : Kind → Bool) (text : List ℕ) (spans : List Span) (last at stop : ℕ) (ns : Nodes) → Nested hollow last at stop ns → all_tokens (parts_of text spans at stop ns) ≡ slice_range spans at stop
tokens_of_parts hollow text spans last at stop no_nodes h = then_tokens (slice_range spans at stop) NoMore ∙ append-nil (slice_range spans at stop)
tokens_of_parts hollow text spans last at stop (node kind i j below after) h =
    let ai = h.0 in
    let ij = nested_le hollow j i j below h.3 in
    let js = nested_le hollow last j stop after h.4 in
    let is : i ≤ stop = omega arith in
    then_tokens (slice_range spans at i) (Child kind (begin_of text spans i) (parts_of text spans i j below) (end_of text spans i j) (parts_of text spans j stop after))
    ∙ ap (λ l. slice_range spans at i ++ (l ++ all_tokens (parts_of text spans j stop after))) (tokens_of_parts hollow text spans j i j below h.3)
    ∙ ap (λ l. slice_range spans at i ++ (slice_range spans i j ++ l)) (tokens_of_parts hollow text spans last j stop after h.4)
    ∙ ap (λ l. slice_range spans at i ++ l) (range-append spans i j stop ij js)
    ∙ range-append spans at i stop ai is

-- ---- tokens one behind the other

abbrev Is : List Span → ℕ → Span → Type 0
Is spans i s = slice_get spans i ≡ Some s

-- those behind an offset begin there or later
begins_from : (text : List ℕ) (offset : ℕ) (ss : List Span) (j : ℕ) (t : Span) → BeginsFrom offset ss → AreInOrder ss → Each text ss → Is ss j t → offset ≤ t.from
begins_from text offset [] j t b o e is = absurd (let l = slice_get_within {A = Span} [] j t is in omega arith)
begins_from text offset (s ∷ ss) zero t b o e is =
    let same : s ≡ t = cc in
    subst (λ (x : Span). offset ≤ x.from) same b
begins_from text offset (s ∷ ss) (suc j) t b o e is =
    let h = begins_from text s.to ss j t o.0 o.1 e.1 is in
    let le : s.from ≤ s.to = e.0.ordered in
    omega arith

ends_first : (text : List ℕ) (ss : List Span) (i j : ℕ) (s t : Span) → AreInOrder ss → Each text ss → i < j → Is ss i s → Is ss j t → s.to ≤ t.from
ends_first text [] i j s t o e lt a b = absurd (let l = slice_get_within {A = Span} [] i s a in omega arith)
ends_first text (x ∷ ss) zero zero s t o e lt a b = absurd (omega arith)
ends_first text (x ∷ ss) zero (suc j) s t o e lt a b =
    let same : x ≡ s = cc in
    subst (λ (y : Span). y.to ≤ t.from) same (begins_from text x.to ss j t o.0 o.1 e.1 b)
ends_first text (x ∷ ss) (suc i) zero s t o e lt a b = absurd (omega arith)
ends_first text (x ∷ ss) (suc i) (suc j) s t o e lt a b = ends_first text ss i j s t o.1 e.1 (omega arith) a b

module _ (text : List ℕ) (spans : List Span) (are : AreTokens text spans) where
  abbrev each : Each text spans
  each = each_of text spans are.within

  abbrev There : ℕ → Type 0
  There i = (s : Span) × Is spans i s

  there : (i : ℕ) → i < length spans → There i
  there i lt = elim (got spans i) [ inl h ↦ h | inr h ↦ (let le = h.1 in absurd (omega arith)) ]

  ordered : (i : ℕ) (s : Span) → Is spans i s → s.from ≤ s.to
  ordered i s is = (span_at text spans i s are.within is).ordered

  begin_is : (i : ℕ) (s : Span) → Is spans i s → begin_of text spans i ≡ s.from
  begin_is i s is = ap (λ (o : Option Span). option_map_or (λ (s : Span). s.from) o (length text)) is

  begin_past : (i : ℕ) → slice_get spans i ≡ None → begin_of text spans i ≡ length text
  begin_past i is = ap (λ (o : Option Span). option_map_or (λ (s : Span). s.from) o (length text)) is

  end_is : (i j : ℕ) (s : Span) → i < j → Is spans (j - 1) s → end_of text spans i j ≡ s.to
  end_is i j s lt is =
      ap (λ b. if b then option_map_or (λ (s : Span). s.to) (slice_get spans (j - 1)) (length text) else begin_of text spans i) (lt-ltb i j lt)
      ∙ ap (λ (o : Option Span). option_map_or (λ (s : Span). s.to) o (length text)) is

  end_empty : (i j : ℕ) → j ≤ i → end_of text spans i j ≡ begin_of text spans i
  end_empty i j le = ap (λ b. if b then option_map_or (λ (s : Span). s.to) (slice_get spans (j - 1)) (length text) else begin_of text spans i) (le-ltb i j le)

  -- a token ends before a later place begins
  ends_before : (i j : ℕ) (s : Span) → i < j → Is spans i s → s.to ≤ begin_of text spans j
  ends_before i j s lt is = elim (got spans j) [
    | inl h ↦ (let o = ends_first text spans i j s h.0 are.ordered each lt is h.1 in let b = begin_is j h.0 h.1 in omega arith)
    | inr h ↦ (let e = (span_at text spans i s are.within is).ends.0 in let b = begin_past j h.0 in omega arith)
  ]

  -- and no later than another of the tokens before it
  ends_rise : (i j : ℕ) (s t : Span) → i ≤ j → Is spans i s → Is spans j t → s.to ≤ t.to
  ends_rise i j s t le a b = elim (cases_lt i j) [
    | inl lt ↦ (let o = ends_first text spans i j s t are.ordered each lt a b in let p = ordered j t b in omega arith)
    | inr ge ↦
        let same : i ≡ j = omega arith in
        let here : Is spans j s = subst (λ k. Is spans k s) same a in
        let both : Some s ≡ Some t = sym here ∙ b in
        let is : s ≡ t = cc in
        subst (λ (x : Span). s.to ≤ x.to) is (let x : s.to ≤ s.to = omega arith in x)
  ]

  -- what a node ends with lies before the place behind it
  end_before : (i j : ℕ) → i ≤ j → j ≤ length spans → end_of text spans i j ≤ begin_of text spans j
  end_before i j le within = elim (cases_lt i j) [
    | inl lt ↦
        let last = there (j - 1) (omega arith) in
        let o = ends_before (j - 1) j last.0 (omega arith) last.1 in
        let e = end_is i j last.0 lt last.1 in
        omega arith
    | inr ge ↦
        let same : i ≡ j = omega arith in
        let e = end_empty i j ge in
        let b : begin_of text spans i ≡ begin_of text spans j = ap (begin_of text spans) same in
        omega arith
  ]

  -- the tokens before a place end at an offset or before
  abbrev Bounds : ℕ → ℕ → Type 0
  Bounds end stop = (n : ℕ) (s : Span) → n < stop → Is spans n s → s.to ≤ end

  pub end_bounds : (i j : ℕ) → i ≤ j → j ≤ length spans → Bounds (end_of text spans i j) j
  end_bounds i j le within n s lt is = elim (cases_lt i j) [
    | inl some ↦
        let last = there (j - 1) (omega arith) in
        let o = ends_rise n (j - 1) s last.0 (omega arith) is last.1 in
        let e = end_is i j last.0 some last.1 in
        omega arith
    | inr ge ↦
        let e = end_empty i j ge in
        let o = ends_before n i s (omega arith) is in
        omega arith
  ]

  -- what stands behind any place so far stands behind tokens
  abbrev StandsBehind : ℕ → ℕ → Parts → Type 0
  StandsBehind place end rest = (at : ℕ) → at ≤ begin_of text spans place → at ≤ end → StandInOrder at end rest

  tokens_stand : (gap from end at stop : ℕ) (rest : Parts) → stop ≡ at + gap → stop ≤ length spans → from ≤ begin_of text spans at → from ≤ end → Bounds end stop → StandsBehind stop end rest →
      StandInOrder from end (tokens_then (slice_range spans at stop) rest)
  tokens_stand zero from end at stop rest is within f e b behind =
      let same : stop ≡ at = omega arith in
      let none : slice_range spans at stop ≡ [] = range_none spans at stop (omega arith) in
      subst (λ (l : List Span). StandInOrder from end (tokens_then l rest)) (sym none) (behind from (subst (λ k. from ≤ begin_of text spans k) (sym same) f) e)
  tokens_stand (suc gap) from end at stop rest is within f e b behind =
      let first = there at (omega arith) in
      let s : Span = first.0 in
      let front : slice_range spans at stop ≡ s ∷ slice_range spans (at + 1) stop = range_front spans at stop s (omega arith) first.1 in
      let place = begin_is at s first.1 in
      let next = ends_before at (at + 1) s (omega arith) first.1 in
      let bound = b at s (omega arith) first.1 in
      let later : StandInOrder s.to end (tokens_then (slice_range spans (at + 1) stop) rest) = tokens_stand gap s.to end (at + 1) stop rest (omega arith) within next bound b behind in
      subst (λ (l : List Span). StandInOrder from end (tokens_then l rest)) (sym front) (let x : from ≤ s.from = omega arith in x, ordered at s first.1, later)

  pub parts_stand : (hollow : Kind → Bool) (from end last at stop : ℕ) (ns : Nodes) → Nested hollow last at stop ns → last ≤ stop → stop ≤ length spans → from ≤ begin_of text spans at → from ≤ end → Bounds end stop →
      StandInOrder from end (parts_of text spans at stop ns)
  parts_stand hollow from end last at stop no_nodes h le within f e b =
      tokens_stand (stop - at) from end at stop NoMore (let x = h in omega arith) within f e b (λ y lt below. below)
  parts_stand hollow from end last at stop (node kind i j below after) h le within f e b =
      let ai = h.0 in
      let is : i < stop = (let x = h.1 in omega arith) in
      let ij = nested_le hollow j i j below h.3 in
      let js = nested_le hollow last j stop after h.4 in
      let jn : j ≤ length spans = omega arith in
      let jj : j ≤ j = omega arith in
      let begin = begin_of text spans i in
      let stop_at = end_of text spans i j in
      let span : IsSpanOf text (record { from = begin; to = stop_at }) = node_span text spans are i j ij jn in
      let begin_le : begin ≤ begin = omega arith in
      let inside : StandInOrder begin stop_at (parts_of text spans i j below) = parts_stand hollow begin stop_at j i j below h.3 jj jn begin_le span.ordered (end_bounds i j ij jn) in
      let first = there i (omega arith) in
      let first_le = b i first.0 is first.1 in
      let first_ordered = ordered i first.0 first.1 in
      let first_is = begin_is i first.0 first.1 in
      let end_le : stop_at ≤ end = elim (cases_lt i j) [
        | inl some ↦
            let final = there (j - 1) (omega arith) in
            let fb = b (j - 1) final.0 (omega arith) final.1 in
            let fe = end_is i j final.0 some final.1 in
            omega arith
        | inr ge ↦ (let fe = end_empty i j ge in omega arith)
      ] in
      let rest : StandInOrder stop_at end (parts_of text spans j stop after) = parts_stand hollow stop_at end last j stop after h.4 le within (end_before i j ij jn) end_le b in
      tokens_stand (i - at) from end at i
      (Child kind begin (parts_of text spans i j below) stop_at (parts_of text spans j stop after))
      (omega arith) (omega arith) f e (λ n s lt x. b n s (omega arith) x) (λ y lt below'. (lt, inside, rest))
