-- The tokens up to a place, and from there on.
use Rattle.std.proofs.Common.{◌≡◌, ℕ, ◌+◌, ◌-◌, ◌<◌, ◌==◌, ◌⊎◌, inr, Bool, true, false, List, [], ◌∷◌, ◌++◌, length, Option, Some, None, MatchOption, sym, refl, ap, ◌∙◌, subst, arith, append-nil, append_assoc, length-append}
use Rattle.std.specs.Prelude.{IsTrue, IsFalse}
use denote.Bor.{Bor}
use Rattle.std.specs.Str.{chars, IsUtf8}
use Rattle.std.proofs.lemmas.Bool.{eqb-true, false≢true}
use Rattle.std.proofs.lemmas.Str.{chars-nil, encodes-chars}
use Rattle.std.proofs.lemmas.List.{append_cancel_right}
use lib.Utf8.{encodes}
use Rattle.pj_xtokens.specs.Gaps.{Past, here, white, comment, IsSolid, opens}
use Rattle.pj_xtokens.specs.Rules.{Spells}
use Rattle.pj_xtokens.specs.Scanning.{scanned, seen, IsBehind, kind_of}
use Rattle.pj_xtokens.specs.Size.{size}
use Rattle.pj_xtokens.specs.Tokens.{IsLongest, IsUnspelled, is_joined, Lexed, lexed, Tokens, ended, token, joined, unspelled}
use Rattle.pj_xtokens.specs.declared.token.TokenKind.{TokenKind}
use Rattle.pj_xtokens.specs.declared.token.End.{End}
use Rattle.pj_xtokens.specs.declared.token.End.TheVariants as ends
use Rattle.pj_xtokens.specs.declared.state.State.TheVariants.{Start}
use Rattle.pj_xtokens.proofs.Gapped.{comment_behind}
use Rattle.pj_xtokens.proofs.Scanned.{longest_found, unspelled_from}
use Rattle.pj_xtokens.proofs.Ends.{length_behind, size_chars}

-- what the scanner found, as what the text begins with
module _ (told : (k : TokenKind) (w : List ℕ) → Spells k w → kind_of w ≡ Some k) (spells : (k : TokenKind) (w : List ℕ) → kind_of w ≡ Some k → Spells k w) where
  pub scan_from : (text : List ℕ) → opens text ≡ false → (r : Option (TokenKind × Bor (List ℕ))) → seen r ≡ scanned text Start None
      → MatchOption r (IsTrue (opens text) ⊎ IsUnspelled text) (λ p. IsFalse (opens text) × ((w : List ℕ) × (text ≡ w ++ chars p.1.now) × IsLongest text p.0 w))
  scan_from text o None e = inr (unspelled_from told text (sym e))
  scan_from text o (Some p) e = (o, longest_found told spells text p.0 (chars p.1.now) (sym e))

-- what stands behind a gap is an end of the text
pub past_behind : (text body : List ℕ) → Past text body → IsBehind body text
past_behind text body (here _ _ e) = ([], e)
past_behind text body (white c _ r _ e w p) = let q = past_behind r body p in (c ∷ q.0, e ∙ ap (λ (x : List ℕ). c ∷ x) q.1)
past_behind text body (comment _ i r _ e k p) =
    let q = past_behind r body p in
    let m = comment_behind 0 i r k in
    (40 ∷ 58 ∷ (m.0 ++ q.0), e ∙ ap (λ (x : List ℕ). 40 ∷ 58 ∷ x) (m.1 ∙ ap (λ (x : List ℕ). m.0 ++ x) q.1 ∙ sym (append_assoc m.0 q.0 body)))

pub behind_behind : (a b c : List ℕ) → IsBehind b a → IsBehind c b → IsBehind c a
behind_behind a b c (v, e) (w, f) = (v ++ w, e ∙ ap (λ (x : List ℕ). v ++ x) f ∙ sym (append_assoc v w c))

pub empty_text : (s : List ℕ) (b : Bool) → b ≡ (length s == 0) → b ≡ true → chars s ≡ []
empty_text [] b e t = chars-nil
empty_text (x ∷ s) b e t = let n : length (x ∷ s) ≡ 0 = eqb-true _ _ (sym e ∙ t) in absurd (omega (arith, n))

pub full_text : (s : List ℕ) (b : Bool) → IsUtf8 s → b ≡ (length s == 0) → b ≡ false → chars s ≡ [] → ⊥
full_text [] b u e f h = false≢true (sym f ∙ e)
full_text (x ∷ s) b u e f h = let all : x ∷ s ≡ [] = sym (encodes-chars (x ∷ s) u) ∙ ap encodes h in cc

-- the tokens so far, with those of what is left, are those of the whole text
pub record Leads (total : ℕ) (text rest : List ℕ) (found : List Lexed) : Type 0 where
  pub whole : (more : List Lexed) (e : End) → Tokens total rest more e → Tokens total text (found ++ more) e

pub leads_begin : (total : ℕ) (text : List ℕ) → Leads total text text []
leads_begin total text = record { whole = λ more e t. t }

module _ (total : ℕ) (text rest : List ℕ) (found : List Lexed) (leads : Leads total text rest found) where
  pub leads_ended : (body : List ℕ) → Past rest body → body ≡ [] → Tokens total text found (ends.Text total)
  leads_ended body p e =
      subst (λ ls. Tokens total text ls (ends.Text total)) (append-nil found) (leads.whole [] (ends.Text total) (ended rest (subst (Past rest) e p)))

  leads_unspelled_at : (body : List ℕ) (from : ℕ) → Past rest body → IsSolid body → IsTrue (opens body) ⊎ IsUnspelled body → from + size body ≡ total → (body ≡ [] → ⊥) → Tokens total rest [] (ends.Fault from)
  leads_unspelled_at [] from p s u f full = absurd (full refl)
  leads_unspelled_at (c ∷ cs) from p s u f full = unspelled c rest cs from p s u f

  pub leads_unspelled : (body : List ℕ) (from : ℕ) → Past rest body → IsSolid body → IsTrue (opens body) ⊎ IsUnspelled body → from + size body ≡ total → (body ≡ [] → ⊥) → Tokens total text found (ends.Fault from)
  leads_unspelled body from p s u f full =
      subst (λ ls. Tokens total text ls (ends.Fault from)) (append-nil found) (leads.whole [] (ends.Fault from) (leads_unspelled_at body from p s u f full))

  module _ (body behind word : List ℕ) (k : TokenKind) (from : ℕ) (p : Past rest body) (s : IsSolid body)
      (l : IsFalse (opens body) × ((w : List ℕ) × (body ≡ w ++ behind) × IsLongest body k w)) (split : body ≡ word ++ behind) (f : from + size body ≡ total) where
    longest_is : IsLongest body k word
    longest_is = subst (IsLongest body k) (append_cancel_right l.1.0 word behind (sym l.1.1 ∙ split)) l.1.2

    pub leads_token : is_joined k behind ≡ false → Leads total text behind (found ++ lexed k word from ∷ [])
    leads_token j = record {
      whole = λ more e t.
          subst (λ ls. Tokens total text ls e) (sym (append_assoc found (lexed k word from ∷ []) more))
          (leads.whole (lexed k word from ∷ more) e (token rest body word behind k from more e p s l.0 split longest_is f j t));
    }

    pub leads_joined : (to : ℕ) → is_joined k behind ≡ true → to + size behind ≡ total → Tokens total text (found ++ lexed k word from ∷ []) (ends.Fault to)
    leads_joined to j g = leads.whole (lexed k word from ∷ []) (ends.Fault to) (joined rest body word behind k from to p s l.0 split longest_is f j g)

-- a token takes something of what is left, since it has a character
pub token_shorter : ((k : TokenKind) (w : List ℕ) → Spells k w → 0 < length w) → (rest body behind : List ℕ) (k : TokenKind) → Past rest body
    → IsFalse (opens body) × ((w : List ℕ) × (body ≡ w ++ behind) × IsLongest body k w) → length behind < length rest
token_shorter not_empty rest body behind k p l =
    let q = past_behind rest body p in
    let n : length rest ≡ length q.0 + length body = ap length q.1 ∙ length-append q.0 body in
    let m : length body ≡ length l.1.0 + length behind = ap length l.1.1 ∙ length-append l.1.0 behind in
    omega (arith, n, m, not_empty k l.1.0 l.1.2.spells)

-- the offset of an end of the text, as the code computes it
pub offset_is : (text body : List ℕ) → IsUtf8 text → IsUtf8 body → IsBehind (chars body) (chars text) → length text - length body + size (chars body) ≡ length text
offset_is text body u v b = omega (arith, length_behind text body u v b, size_chars body v)

-- what is told of a text's bytes, where its characters take so many
pub in_bytes : (text : List ℕ) → IsUtf8 text → (ls : List Lexed) (end : End) → Tokens (length text) (chars text) ls end → Tokens (size (chars text)) (chars text) ls end
in_bytes text utf8 ls end read = subst (λ n. Tokens n (chars text) ls end) (size_chars text utf8) read
