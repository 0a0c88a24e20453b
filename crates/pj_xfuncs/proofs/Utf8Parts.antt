-- A part of a text in UTF-8 that is in UTF-8 itself stands between characters.
use Rattle.std.proofs.Common.{◌≡◌, ◌∙◌, ℕ, ◌+◌, ◌<◌, ◌≤◌, List, ◌++◌, length, get_or, sym, ap, subst, arith, length-append}
use Rattle.std.proofs.Math.Seq.{take-append_seam, drop-append_seam, get_or-append-add}
use Rattle.std.proofs.Math.ListN.{get_or-append}
use Rattle.std.specs.Prelude.{IsUtf8, IsCharBoundary, chars}
use Rattle.std.proofs.lemmas.Str.{IsUtf8-take, IsUtf8-drop, IsCharBoundary-start, IsCharBoundary-from_take, chars-append}

-- a text and what stands around a part of it are in UTF-8
pub record Around (before part behind : List ℕ) : Type 0 where
  pub before_utf8 : IsUtf8 before
  pub part_utf8 : IsUtf8 part
  pub behind_utf8 : IsUtf8 behind

first_byte : (a n b : List ℕ) → 0 < length n → get_or (a ++ (n ++ b)) (length a) 0 ≡ get_or n 0 0
first_byte a n b some = let same : length a ≡ length a + 0 = omega arith in ap (λ (i : ℕ). get_or (a ++ (n ++ b)) i 0) same ∙ get_or-append-add a (n ++ b) 0 0 ∙ get_or-append n b 0 0 some

pub around : (a n b : List ℕ) → IsUtf8 (a ++ (n ++ b)) → IsUtf8 n → 0 < length n → Around a n b
around a n b whole part some =
    let l1 = length-append a (n ++ b) in
    let l2 = length-append n b in
    let start = IsCharBoundary-start n part in
    let lead : length a < length (a ++ (n ++ b)) → 128 ≤ get_or (a ++ (n ++ b)) (length a) 0 → 192 ≤ get_or (a ++ (n ++ b)) (length a) 0 = (λ _. subst (λ (x : ℕ). 128 ≤ x → 192 ≤ x) (sym (first_byte a n b some)) (start.1 some)) in
    let at : IsCharBoundary (a ++ (n ++ b)) (length a) = (omega arith, lead) in
    let front : IsUtf8 a = subst (λ (t : List ℕ). IsUtf8 t) (take-append_seam a (n ++ b)) (IsUtf8-take (a ++ (n ++ b)) (length a) whole at) in
    let rest : IsUtf8 (n ++ b) = subst (λ (t : List ℕ). IsUtf8 t) (drop-append_seam a (n ++ b)) (IsUtf8-drop (a ++ (n ++ b)) (length a) whole at) in
    let end : IsCharBoundary (n ++ b) (length n) = IsCharBoundary-from_take (n ++ b) (length n) rest (omega arith) (subst (λ (t : List ℕ). IsUtf8 t) (sym (take-append_seam n b)) part) in
    record { before_utf8 = front; part_utf8 = part; behind_utf8 = subst (λ (t : List ℕ). IsUtf8 t) (drop-append_seam n b) (IsUtf8-drop (n ++ b) (length n) rest end) }

-- the characters of such a text
pub chars-around : (a n b : List ℕ) → Around a n b → chars (a ++ (n ++ b)) ≡ chars a ++ (chars n ++ chars b)
chars-around a n b h = chars-append a (n ++ b) h.before_utf8 ∙ ap (λ (t : List ℕ). chars a ++ t) (chars-append n b h.part_utf8)
