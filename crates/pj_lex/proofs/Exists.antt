-- Each text has a reading.
use Rattle.std.proofs.Common.{◌≡◌, ℕ, suc, zero, ◌+◌, ◌<◌, Some, None, List, [], ◌∷◌, ◌++◌, length, append-nil, Ok, Err, refl, ap, ◌∙◌, subst, arith, length-append}
use Rattle.std.specs.List.{list_all}
use Rattle.pj_lex.specs.Characters.{is_white}
use Rattle.pj_lex.specs.Rules.{Outcome, outcome}
use Rattle.pj_lex.specs.Scanning.{run, past_run, scanned, Found}
use Rattle.pj_lex.specs.Size.{size}
use Rattle.pj_lex.specs.Tokens.{Begins, longest, nothing, Lexed, Tokens, ended, token, fault}
use Rattle.pj_lex.specs.declared.token.TokenKind.{TokenKind}
use Rattle.pj_lex.specs.declared.state.State.TheVariants.{Start}
use Rattle.pj_lex.proofs.Lists.{run-past_run, run_passes, past_run_head}
use Rattle.pj_lex.proofs.Scanned.{found, begins_found, begins_nothing}
use Rattle.pj_lex.proofs.Unique.{spells_empty}

-- what a text begins with
record Beginning (text : List ℕ) : Type 0 where
  what : Outcome
  behind : List ℕ
  begins : Begins text what behind

beginning_from : (text : List ℕ) (r : Found) → scanned text Start None ≡ r → Beginning text
beginning_from text None h = record { what = Err 1; behind = []; begins = begins_nothing text h }
beginning_from text (Some (m, t)) h =
    let f = found text m t h in
    record { what = outcome m f.word t; behind = t; begins = begins_found text m t f.word h f.split }

beginning : (c : ℕ) (cs : List ℕ) → Beginning (c ∷ cs)
beginning c cs = beginning_from (c ∷ cs) (scanned (c ∷ cs) Start None) refl

shorter : (c : ℕ) (cs b : List ℕ) (k : TokenKind) → Begins (c ∷ cs) (Ok k) b → (w : List ℕ) × (c ∷ cs ≡ w ++ b) × (length b < length (c ∷ cs))
shorter c cs b k (longest [] s x far) = absurd (spells_empty b (Ok k) x)
shorter c cs b k (longest (d ∷ w) s x far) = let n : length (c ∷ cs) ≡ length (d ∷ w ++ b) = ap length s in (d ∷ w, s, omega (arith, n, length-append w b))
shorter c cs b k (nothing none e) = absurd (cc)

-- the tokens of a text
pub record Reading (at : ℕ) (text : List ℕ) : Type 0 where
  pub tokens : List Lexed
  pub reads : Tokens at text tokens

module _ (n : ℕ) (go : (at : ℕ) (text : List ℕ) → length text < n → Reading at text) (at : ℕ) (text : List ℕ) (bound : length text < suc n) where
  split_at : (body : List ℕ) → past_run is_white text ≡ body → text ≡ run is_white text ++ body
  split_at body e = run-past_run is_white text ∙ ap (λ (x : List ℕ). run is_white text ++ x) e

  by_beginning : (c : ℕ) (cs : List ℕ) → past_run is_white text ≡ c ∷ cs → (l : Outcome) (b : List ℕ) → Begins (c ∷ cs) l b → Reading at text
  by_beginning c cs e (Err f) b h =
      record { tokens = _; reads = fault at text (run is_white text) b cs c f (split_at (c ∷ cs) e) (run_passes is_white text) (past_run_head is_white text cs c e) h }
  by_beginning c cs e (Ok k) b h =
      let w = shorter c cs b k h in
      let split : text ≡ run is_white text ++ (w.0 ++ b) = split_at (c ∷ cs) e ∙ ap (λ (x : List ℕ). run is_white text ++ x) w.1 in
      let lengths : length text ≡ length (run is_white text) + length (c ∷ cs) = ap length (split_at (c ∷ cs) e) ∙ length-append (run is_white text) (c ∷ cs) in
      let more = go (at + size (run is_white text ++ w.0)) b (omega (arith, lengths, w.2, bound)) in
      record { tokens = _; reads = token at text (run is_white text) w.0 b k more.tokens split (run_passes is_white text) (subst (λ z. Begins z (Ok k) b) w.1 h) more.reads }

  by_rest : (body : List ℕ) → past_run is_white text ≡ body → Reading at text
  by_rest [] e =
      let all : text ≡ run is_white text = split_at [] e ∙ append-nil (run is_white text) in
      record { tokens = []; reads = ended at text (ap (list_all is_white) all ∙ run_passes is_white text) }
  by_rest (c ∷ cs) e = let d = beginning c cs in by_beginning c cs e d.what d.behind d.begins

reading_below : (n at : ℕ) (text : List ℕ) → length text < n → Reading at text
reading_below zero at text h = absurd (omega (arith, h))
reading_below (suc n) at text h = by_rest n (reading_below n) at text h (past_run is_white text) refl

-- each text has a reading
pub reading : (at : ℕ) (text : List ℕ) → Reading at text
reading at text = reading_below (suc (length text)) at text (omega arith)
