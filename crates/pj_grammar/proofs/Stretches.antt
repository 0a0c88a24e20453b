-- Tokens are stretches of their text, one behind the other.
use Rattle.std.proofs.Common.{◌≡◌, ◌≤◌, ◌+◌, ℕ, true, false, cond, not, List, [], ◌∷◌, ◌++◌, length, map, sym, ◌∙◌, refl, ap, subst, arith, append_assoc, length-append}
use Rattle.std.specs.List.{All}
use Rattle.std.specs.Str.{chars, IsUtf8, IsCharBoundary, encode_utf8_all}
use Rattle.std.proofs.Math.Utf8.{scalars}
use Rattle.std.proofs.lemmas.Bool.{and_parts}
use Rattle.std.proofs.lemmas.List.Elements.{All-nil, All-cons}
use Rattle.std.proofs.lemmas.Str.{encodes-append, encodes-chars, scalars-chars, IsCharBoundary-at_seam}
use Rattle.pj_lex.specs.Size.{size}
use Rattle.pj_lex.specs.Tokens.{Lexed, Tokens, ended, token, fault, fault_of}
use Rattle.pj_lex.specs.declared.token.LexFault.{LexFault}
use Rattle.pj_tree.specs.Tree.{IsSpanOf}
use Rattle.pj_tree.specs.declared.node.Span.{Span}
use Rattle.pj_shape.specs.Words.{AreInOrder, AreTokens}
use Rattle.pj_grammar.specs.Words.{TokenSeen, as_lexed, EndsInFault, words, spans, is_comment}

abbrev span_at : ℕ → ℕ → Span
span_at from to = record { from = from; to = to }

-- each begins where the one before ends, or behind that, the first at `at`, or behind that
abbrev Stand : List ℕ → ℕ → List Span → Type 0
Stand text at [] = Unit {0}
Stand text at (s ∷ ss) = (at ≤ s.from) × IsSpanOf text s × Stand text s.to ss

size-append : (v w : List ℕ) → size (v ++ w) ≡ size v + size w
size-append v w = ap length (encodes-append v w) ∙ length-append (encode_utf8_all v) (encode_utf8_all w)

scalars_behind : (xs ys : List ℕ) → scalars (xs ++ ys) ≡ true → scalars ys ≡ true
scalars_behind [] ys e = e
scalars_behind (x ∷ xs) ys e = scalars_behind xs ys ((and_parts _ _ e).1)

-- between two characters of a text it can be cut
cut : (text front rest : List ℕ) → encode_utf8_all (front ++ rest) ≡ text → scalars (front ++ rest) ≡ true → IsCharBoundary text (size front)
cut text front rest e s =
    IsCharBoundary-at_seam text (encode_utf8_all front) (encode_utf8_all rest) (sym e ∙ encodes-append front rest) (rest, (scalars_behind front rest s, refl))

abbrev spans_of : List Lexed → List Span
spans_of ls = map (λ l. span_at l.from l.to) ls

lexed_stand : (text : List ℕ) (at : ℕ) (rest : List ℕ) (ls : List Lexed) → Tokens at rest ls → (front : List ℕ) →
    encode_utf8_all (front ++ rest) ≡ text → scalars (front ++ rest) ≡ true → at ≡ size front → Stand text at (spans_of ls)
lexed_stand text _ _ _ (ended at rest h) front e s a = tt
lexed_stand text _ _ _ (token at rest gap w behind k more p h b next) front e s a =
    let here : front ++ rest ≡ (front ++ gap) ++ (w ++ behind) = ap (λ (x : List ℕ). front ++ x) p ∙ sym (append_assoc front gap (w ++ behind)) in
    let past : front ++ rest ≡ (front ++ (gap ++ w)) ++ behind = ap (λ (x : List ℕ). front ++ x) (p ∙ sym (append_assoc gap w behind)) ∙ sym (append_assoc front (gap ++ w) behind) in
    let from : at + size gap ≡ size (front ++ gap) = ap (λ x. x + size gap) a ∙ sym (size-append front gap) in
    let to : at + size (gap ++ w) ≡ size (front ++ (gap ++ w)) = ap (λ x. x + size (gap ++ w)) a ∙ sym (size-append front (gap ++ w)) in
    let same : at + size gap + size w ≡ at + size (gap ++ w) = omega (arith, size-append gap w) in
    let is : IsSpanOf text (span_at (at + size gap) (at + size gap + size w)) =
    record {
      ordered = omega arith;
      begins = subst (IsCharBoundary text) (sym from) (cut text (front ++ gap) (w ++ behind) (ap encode_utf8_all (sym here) ∙ e) (ap scalars (sym here) ∙ s));
      ends = subst (IsCharBoundary text) (sym (same ∙ to)) (cut text (front ++ (gap ++ w)) behind (ap encode_utf8_all (sym past) ∙ e) (ap scalars (sym past) ∙ s));
    } in (
      omega arith,
      is,
      subst (λ n. Stand text n (spans_of more)) (sym same)
          (lexed_stand text (at + size (gap ++ w)) behind more next (front ++ (gap ++ w)) (ap encode_utf8_all (sym past) ∙ e) (ap scalars (sym past) ∙ s) to),
    )
lexed_stand text _ _ _ (fault at rest gap behind more c f p h n b) front e s a =
    let here : front ++ rest ≡ (front ++ gap) ++ (c ∷ more) = ap (λ (x : List ℕ). front ++ x) p ∙ sym (append_assoc front gap (c ∷ more)) in
    let from : at + size gap ≡ size (front ++ gap) = ap (λ x. x + size gap) a ∙ sym (size-append front gap) in
    let bound : IsCharBoundary text (at + size gap) = subst (IsCharBoundary text) (sym from) (cut text (front ++ gap) (c ∷ more) (ap encode_utf8_all (sym here) ∙ e) (ap scalars (sym here) ∙ s)) in
    (omega arith, record { ordered = omega arith; begins = bound; ends = bound }, tt)

stand_earlier : (text : List ℕ) (at n : ℕ) (ss : List Span) → at ≤ n → Stand text n ss → Stand text at ss
stand_earlier text at n [] h st = tt
stand_earlier text at n (s ∷ ss) h st = (omega (arith, st.0), st.1, st.2)

words_stand : (text : List ℕ) (at : ℕ) (ts : List TokenSeen) → Stand text at (spans_of (map as_lexed ts)) → Stand text at (spans (words ts))
words_stand text at [] st = tt
words_stand text at (t ∷ ts) st =
    let rest = words_stand text t.span.to ts st.2 in
    let later : Stand text at (spans (words ts)) = stand_earlier text at t.span.to (spans (words ts)) (let o = st.1.ordered in omega (arith, st.0)) rest in
    elim (not (is_comment t.kind)) as (λ b. Stand text at (spans (cond b (t ∷ words ts) (words ts)))) [ true ↦ (st.0, st.1, rest) | false ↦ later ]

-- ---- what is known of each of them

spans_within : (text : List ℕ) (at : ℕ) (ss : List Span) → Stand text at ss → All (IsSpanOf text) ss
spans_within text at [] st = All-nil (IsSpanOf text)
spans_within text at (s ∷ ss) st = All-cons (IsSpanOf text) s ss st.1 (spans_within text s.to ss st.2)

in_order : (text : List ℕ) (at : ℕ) (ss : List Span) → Stand text at ss → AreInOrder ss
in_order text at [] st = tt
in_order text at (s ∷ []) st = (tt, tt)
in_order text at (s ∷ u ∷ ss) st = (st.2.0, in_order text s.to (u ∷ ss) st.2)

-- the words of a text
words_of_text_stand : (text : List ℕ) (ts : List TokenSeen) → IsUtf8 text → Tokens 0 (chars text) (map as_lexed ts) → Stand text 0 (spans (words ts))
words_of_text_stand text ts u tokens = words_stand text 0 ts (lexed_stand text 0 (chars text) (map as_lexed ts) tokens [] (encodes-chars text u) (scalars-chars text u) refl)

pub words_are_tokens : (text : List ℕ) (ts : List TokenSeen) (ss : List Span) → IsUtf8 text → Tokens 0 (chars text) (map as_lexed ts) → ss ≡ spans (words ts) → AreTokens text ss
words_are_tokens text ts ss u tokens e =
    let st = words_of_text_stand text ts u tokens in
    subst (AreTokens text) (sym e) (record { within = spans_within text 0 (spans (words ts)) st; ordered = in_order text 0 (spans (words ts)) st })

-- where a fault stands
last_stands : (text : List ℕ) (at : ℕ) (ts : List TokenSeen) (f : LexFault) → Stand text at (spans_of (map as_lexed ts ++ fault_of f.kind f.offset ∷ [])) → f.offset ≤ length text
last_stands text at [] f st = st.1.begins.0
last_stands text at (t ∷ ts) f st = last_stands text t.span.to ts f st.2

pub fault_stands : (text : List ℕ) (f : LexFault) → IsUtf8 text → EndsInFault text f → f.offset ≤ length text
fault_stands text f u (ts, tokens) = last_stands text 0 ts f (lexed_stand text 0 (chars text) (map as_lexed ts ++ fault_of f.kind f.offset ∷ []) tokens [] (encodes-chars text u) (scalars-chars text u) refl)
