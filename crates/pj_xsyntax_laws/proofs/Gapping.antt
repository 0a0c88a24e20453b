-- The tokens of words with white space and comments between them, and that these change no expression.
use Rattle.std.proofs.Common.{◌≡◌, ℕ, ◌+◌, List, [], ◌∷◌, ◌++◌, refl, sym, ap, ◌∙◌, arith}
use Rattle.std.proofs.Math.Nat.{zero-add}
use Rattle.pj_xtokens.specs.Gaps.{Past, here}
use Rattle.pj_xtokens.specs.Size.{size}
use Rattle.pj_xtokens.specs.Tokens.{Tokens, ended, token}
use Rattle.pj_xtokens.specs.declared.token.End.TheVariants as ends
use Rattle.pj_xsyntax_laws.proofs.Sizes.{size-append}
use Rattle.pj_xexpressions.specs.Trees.{Tree}
use Rattle.pj_xparse.specs.Spells.{Spells}
use Rattle.pj_xsyntax_laws.specs.Gapped.{Piece, words_in, gapped, located, IsGap, ArePieces}
use Rattle.pj_xsyntax_laws.specs.Spaced.{AreSpelled, Word, placed, spaced, words_of}
use Rattle.pj_xsyntax_laws.proofs.Comments.{gap_before, gap_breaks}
use Rattle.pj_xsyntax_laws.proofs.Expanding.{TokensAreOne}
use Rattle.pj_xsyntax_laws.proofs.Fronts.{opens_none, solid_front, not_joined}
use Rattle.pj_xsyntax_laws.proofs.Placing.{tokens_from}
use Rattle.pj_xsyntax_laws.proofs.Stopping.{longest_before}
use Rattle.pj_xsyntax_laws.proofs.Texts.{same_words}
use Rattle.pj_xsyntax_laws.proofs.WordKinds.{SpelledAreTold}

-- ---- tokens

-- the words from an offset on, behind white space and comments, where the scanner's states tell what each token is
pieces_from : SpelledAreTold → (total from : ℕ) (ps : List Piece) (text : List ℕ) → ArePieces ps → Past text (gapped ps) → from + size (gapped ps) ≡ total
    → Tokens total text (located from ps) (ends.Text total)
pieces_from told total from [] text f p e = ended text p
pieces_from told total from (w ∷ ws) text f p e =
    let rest = w.gap ++ gapped ws in
    let n = size-append w.word.text rest in
    let m = size-append w.gap (gapped ws) in
    let behind : from + size w.word.text + size w.gap + size (gapped ws) ≡ total = omega (arith, e, n, m) in
    let breaks = gap_breaks w.gap (gapped ws) f.1 (λ q. ap gapped (f.2 q)) in
    token text (w.word.text ++ rest) w.word.text rest w.word.kind from (located (from + size w.word.text + size w.gap) ws) (ends.Text total)
    p (solid_front told w.word.text rest w.word.kind breaks f.0) (opens_none told w.word.text rest w.word.kind breaks f.0) refl
    (longest_before told w.word.text rest w.word.kind breaks f.0) e (not_joined w.word.kind rest breaks)
    (pieces_from told total (from + size w.word.text + size w.gap) ws rest f.3 (gap_before w.gap (gapped ws) f.1) behind)

pub gapped_tokens : SpelledAreTold → (front : List ℕ) (ps : List Piece) → IsGap front → ArePieces ps
    → Tokens (size (front ++ gapped ps)) (front ++ gapped ps) (located (size front) ps) (ends.Text (size (front ++ gapped ps)))
gapped_tokens told front ps g f = pieces_from told (size (front ++ gapped ps)) (size front) ps (front ++ gapped ps) f (gap_before front (gapped ps) g) (sym (size-append front (gapped ps)))

words_located : (n : ℕ) (ps : List Piece) → words_of (located n ps) ≡ words_in ps
words_located n [] = refl
words_located n (p ∷ ps) = ap (λ (ws : List Word). p.word ∷ ws) (words_located (n + size p.word.text + size p.gap) ps)

words_placed : (n : ℕ) (ws : List Word) → words_of (placed n ws) ≡ ws
words_placed n [] = refl
words_placed n (w ∷ ws) = ap (λ (vs : List Word). w ∷ vs) (words_placed (n + size w.text + 1) ws)

words_spelled : (ps : List Piece) → ArePieces ps → AreSpelled (words_in ps)
words_spelled [] f = tt
words_spelled (p ∷ ps) f = (f.0, words_spelled ps f.3)

-- ---- expressions

module _ (told : SpelledAreTold) (one_tokens : TokensAreOne) (variables : List (List ℕ)) (front : List ℕ) (ps : List Piece) (tree : Tree) (g : IsGap front) (f : ArePieces ps) where
  abbrev text : List ℕ
  text = front ++ gapped ps

  abbrev other : List ℕ
  other = spaced (words_in ps)

  read : Tokens (size text) text (located (size front) ps) (ends.Text (size text))
  read = gapped_tokens told front ps g f

  read_spaced : Tokens (size other) other (placed 0 (words_in ps)) (ends.Text (size other))
  read_spaced = tokens_from told (size other) 0 (words_in ps) other (words_spelled ps f) (here other other refl) (zero-add (size other))

  pub without_gaps : Spells variables (front ++ gapped ps) tree → Spells variables (spaced (words_in ps)) tree
  without_gaps =
      same_words one_tokens variables text other (located (size front) ps) (placed 0 (words_in ps)) tree read read_spaced
      (words_located (size front) ps ∙ sym (words_placed 0 (words_in ps)))

  pub with_gaps : Spells variables (spaced (words_in ps)) tree → Spells variables (front ++ gapped ps) tree
  with_gaps =
      same_words one_tokens variables other text (placed 0 (words_in ps)) (located (size front) ps) tree read_spaced read
      (words_placed 0 (words_in ps) ∙ sym (words_located (size front) ps))
