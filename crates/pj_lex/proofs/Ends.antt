-- Texts and the ends of texts.
use Rattle.std.proofs.Common.{◌≡◌, ℕ, ◌+◌, ◌-◌, ◌≤◌, Bool, List, ◌++◌, length, take, drop, sym, ap, ◌∙◌, subst, arith, length-append, take-append-drop}
use Rattle.std.specs.Str.{chars, IsUtf8, IsCharBoundary}
use Rattle.std.proofs.lemmas.Str.{encodes-chars, encodes-append, IsCharBoundary-at_seam, IsUtf8-take, chars-append}
use Rattle.std.proofs.Math.Seq.{drop-append_seam}
use lib.Utf8.{encodes}
use Rattle.pj_lex.specs.Scanning.{run, past_run, IsBehind}
use Rattle.pj_lex.specs.Size.{size}
use Rattle.pj_lex.proofs.Lists.{run-past_run}

-- the bytes of a text are those of its front, and then those of its end
pub bytes_split : (s t w : List ℕ) → IsUtf8 s → IsUtf8 t → chars s ≡ w ++ chars t → s ≡ encodes w ++ t
bytes_split s t w us ut e =
    sym (encodes-chars s us) ∙ ap encodes e ∙ encodes-append w (chars t) ∙ ap (λ (r : List ℕ). encodes w ++ r) (encodes-chars t ut)

pub length_behind : (s t : List ℕ) → IsUtf8 s → IsUtf8 t → IsBehind (chars t) (chars s) → length t ≤ length s
length_behind s t us ut (w, e) = let h : length s ≡ length (encodes w ++ t) = ap length (bytes_split s t w us ut e) in omega (arith, h, length-append (encodes w) t)

pub boundary_behind : (s t : List ℕ) → IsUtf8 s → IsUtf8 t → IsBehind (chars t) (chars s) → IsCharBoundary s (length s - length t)
boundary_behind s t us ut (w, e) =
    let split = bytes_split s t w us ut e in
    let h : length s ≡ length (encodes w) + length t = ap length split ∙ length-append (encodes w) t in
    let n : length (encodes w) ≡ length s - length t = omega (arith, h) in
    subst (IsCharBoundary s) n (IsCharBoundary-at_seam s (encodes w) t split ut)

pub chars_behind : (s t : List ℕ) → IsUtf8 s → IsUtf8 t → IsBehind (chars t) (chars s) → chars s ≡ chars (take (length s - length t) s) ++ chars t
chars_behind s t us ut (w, e) =
    let split = bytes_split s t w us ut e in
    let h : length s ≡ length (encodes w) + length t = ap length split ∙ length-append (encodes w) t in
    let n : length (encodes w) ≡ length s - length t = omega (arith, h) in
    let back : drop (length s - length t) s ≡ t = subst (λ k. drop k s ≡ t) n (ap (drop (length (encodes w))) split ∙ drop-append_seam (encodes w) t) in
    let boundary = boundary_behind s t us ut (w, e) in
    ap chars (sym (take-append-drop (length s - length t) s)) ∙ chars-append _ _ (IsUtf8-take s _ us boundary) ∙ ap (λ (r : List ℕ). chars (take (length s - length t) s) ++ chars r) back

-- the bytes of a run and of what stands behind it
pub run_bytes : (p : ℕ → Bool) (s t : List ℕ) → IsUtf8 s → IsUtf8 t → chars t ≡ past_run p (chars s) → length s ≡ size (run p (chars s)) + length t
run_bytes p s t us ut e =
    let split : chars s ≡ run p (chars s) ++ chars t = run-past_run p (chars s) ∙ ap (λ (x : List ℕ). run p (chars s) ++ x) (sym e) in
    ap length (bytes_split s t (run p (chars s)) us ut split) ∙ length-append (encodes (run p (chars s))) t

pub size_chars : (s : List ℕ) → IsUtf8 s → length s ≡ size (chars s)
size_chars s u = ap length (sym (encodes-chars s u))

pub before_bytes : (s t r : List ℕ) → IsUtf8 s → IsUtf8 t → chars s ≡ chars r ++ chars t → length s ≡ size (chars r) + length t
before_bytes s t r us ut e = ap length (bytes_split s t (chars r) us ut e) ∙ length-append (encodes (chars r)) t

pub size-append : (v w : List ℕ) → size (v ++ w) ≡ size v + size w
size-append v w = ap length (encodes-append v w) ∙ length-append (encodes v) (encodes w)
