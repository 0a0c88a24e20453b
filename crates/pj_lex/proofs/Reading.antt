-- One answer of the lexer, and the tokens from there on.
use Rattle.std.proofs.Common.{◌≡◌, ℕ, ◌+◌, ◌-◌, ◌==◌, Bool, true, false, List, [], ◌∷◌, ◌++◌, length, Ok, Err, sym, refl, ap, ◌∙◌, subst, arith, append-nil}
use Rattle.std.specs.List.{list_all}
use Rattle.std.proofs.lemmas.Bool.{eqb-true, false≢true}
use Rattle.std.specs.Str.{chars, IsUtf8}
use Rattle.std.proofs.lemmas.Str.{chars-nil, encodes-chars}
use lib.Utf8.{encodes}
use Rattle.pj_lex.specs.Characters.{is_white}
use Rattle.pj_lex.specs.Scanning.{IsFault, run, past_run, IsBehind}
use Rattle.pj_lex.specs.Size.{size}
use Rattle.pj_lex.specs.Tokens.{Begins, longest, nothing, Lexed, Tokens, ended, token, fault, position, Took, IsGap, token_of, fault_of}
use Rattle.pj_lex.specs.declared.token.TokenKind.{TokenKind}
use Rattle.pj_lex.proofs.Lists.{run-past_run, run_passes, past_run_head}
use Rattle.pj_lex.proofs.Ends.{size-append}
use Rattle.pj_lex.proofs.Unique.{tokens_same, past_white}

pub begins_split : (text b : List ℕ) (k : TokenKind) → Begins text (Ok k) b → IsBehind b text
begins_split text b k (longest w s h n) = (w, s)
begins_split text b k (nothing h e) = absurd (cc)

first_of_full : (rs : List ℕ) → (rs ≡ [] → ⊥) → (c : ℕ) × ((ds : List ℕ) × (rs ≡ c ∷ ds))
first_of_full [] full = absurd (full refl)
first_of_full (c ∷ ds) full = (c, (ds, refl))

module _ (at : ℕ) (cs rs : List ℕ) (skipped : rs ≡ past_run is_white cs) where
  gap_split : cs ≡ run is_white cs ++ rs
  gap_split = run-past_run is_white cs ∙ ap (λ (x : List ℕ). run is_white cs ++ x) (sym skipped)

  pub all_gap : rs ≡ [] → IsGap cs
  all_gap e =
      let all : cs ≡ run is_white cs = gap_split ∙ ap (λ (x : List ℕ). run is_white cs ++ x) e ∙ append-nil (run is_white cs) in
      ap (list_all is_white) all ∙ run_passes is_white cs

  pub not_gap : (rs ≡ [] → ⊥) → IsGap cs → ⊥
  not_gap full g = full (skipped ∙ past_white cs g)

  pub reads_end : rs ≡ [] → Tokens at cs []
  reads_end e =
      let all : cs ≡ run is_white cs = gap_split ∙ ap (λ (x : List ℕ). run is_white cs ++ x) e ∙ append-nil (run is_white cs) in
      ended at cs (ap (list_all is_white) all ∙ run_passes is_white cs)

  pub reads_token : (from to : ℕ) (w b : List ℕ) (k : TokenKind) (more : List Lexed) → rs ≡ w ++ b → Begins rs (Ok k) b
      → from ≡ at + size (run is_white cs) → to ≡ from + size w → Tokens to b more → Tokens at cs (token_of k w from ∷ more)
  reads_token from to w b k more s h f t m =
      let end : to ≡ at + size (run is_white cs ++ w) = let n = size-append (run is_white cs) w in omega (arith, n, f, t) in
      subst (λ x. Tokens at cs (token_of k w x ∷ more)) (sym f)
      (token at cs (run is_white cs) w b k more (gap_split ∙ ap (λ (x : List ℕ). run is_white cs ++ x) s) (run_passes is_white cs) (subst (λ x. Begins x (Ok k) b) s h)
      (subst (λ x. Tokens x b more) end m))

  pub reads_fault : (from : ℕ) (f : ℕ) → (rs ≡ [] → ⊥) → IsFault rs f → from ≡ at + size (run is_white cs) → Tokens at cs (fault_of f from ∷ [])
  reads_fault from f full h e =
      let d = first_of_full rs full in
      subst (λ x. Tokens at cs (fault_of f x ∷ [])) (sym e)
      (fault at cs (run is_white cs) h.0 d.1.0 d.0 f (gap_split ∙ ap (λ (x : List ℕ). run is_white cs ++ x) d.1.1) (run_passes is_white cs)
      (past_run_head is_white cs d.1.0 d.0 (sym skipped ∙ d.1.1)) (subst (λ x. Begins x (Err f) h.0) d.1.1 h.1))

  -- the same with the offset as the code computes it
  module _ (n m : ℕ) (bytes : n ≡ size (run is_white cs) + m) where
    from_is : at + (n - m) ≡ at + size (run is_white cs)
    from_is = omega (arith, bytes)

    -- what one token takes
    pub took : (l : ℕ) (w b : List ℕ) (k : TokenKind) → rs ≡ w ++ b → l ≡ size w
        → Took (position at cs) (position (at + (n - m) + l) b) (record { what = Ok k; text = w; from = at + (n - m); to = at + (n - m) + l })
    took l w b k s e = record {
      gap = run is_white cs;
      split = gap_split ∙ ap (λ (x : List ℕ). run is_white cs ++ x) s;
      white = run_passes is_white cs;
      from_is = from_is;
      to_is = ap (λ x. at + (n - m) + x) e;
      next_is = refl;
    }

    pub token_at : (l : ℕ) (w b : List ℕ) (k : TokenKind) (more : List Lexed) → rs ≡ w ++ b → Begins rs (Ok k) b
        → l ≡ size w → Tokens (at + (n - m) + l) b more → Tokens at cs (record { what = Ok k; text = w; from = at + (n - m); to = at + (n - m) + l } ∷ more)
    token_at l w b k more s h e t =
        subst (λ x. Tokens at cs (record { what = Ok k; text = w; from = at + (n - m); to = at + (n - m) + x } ∷ more)) (sym e)
        (reads_token (at + (n - m)) (at + (n - m) + l) w b k more s h from_is (ap (λ x. at + (n - m) + x) e) t)

    pub fault_at : (f : ℕ) → (rs ≡ [] → ⊥) → IsFault rs f → Tokens at cs (fault_of f (at + (n - m)) ∷ [])
    fault_at f full h = reads_fault (at + (n - m)) f full h from_is

pub empty_text : (s : List ℕ) (b : Bool) → b ≡ (length s == 0) → b ≡ true → chars s ≡ []
empty_text [] b e t = chars-nil
empty_text (x ∷ s) b e t = let n : length (x ∷ s) ≡ 0 = eqb-true _ _ (sym e ∙ t) in absurd (omega (arith, n))

pub full_text : (s : List ℕ) (b : Bool) → IsUtf8 s → b ≡ (length s == 0) → b ≡ false → chars s ≡ [] → ⊥
full_text [] b u e f h = false≢true (sym f ∙ e)
full_text (x ∷ s) b u e f h = let all : x ∷ s ≡ [] = sym (encodes-chars (x ∷ s) u) ∙ ap encodes h in cc

-- behind a fault nothing is left
pub fault_last : (at at' : ℕ) (cs end : List ℕ) (l : Lexed) (more : List Lexed) → end ≡ [] → Tokens at' end more → Tokens at cs (l ∷ []) → Tokens at cs (l ∷ more)
fault_last at at' cs end l more e m h =
    subst (λ (x : List Lexed). Tokens at cs (l ∷ x)) (sym (tokens_same at' at' end end more [] m (ended at' end (ap (list_all is_white) e)) refl refl)) h
