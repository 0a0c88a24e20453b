-- The scanner's walk finds the longest word that spells a token.
use Rattle.std.proofs.Common.{◌≡◌, ℕ, ◌<◌, ◌≤◌, List, [], ◌∷◌, ◌++◌, length, Option, Some, None, sym, refl, ap, ◌∙◌, subst, arith}
use Rattle.pj_xtokens.specs.Characters.{holds}
use Rattle.pj_xtokens.specs.Rules.{Spells}
use Rattle.pj_xtokens.specs.Scanning.{Found, found_at, scanned, kind_from, kind_of}
use Rattle.pj_xtokens.specs.States.{step, spelled}
use Rattle.pj_xtokens.specs.Tokens.{IsLongest, IsUnspelled}
use Rattle.pj_xtokens.specs.declared.token.TokenKind.{TokenKind}
use Rattle.pj_xtokens.specs.declared.state.State.{State}
use Rattle.pj_xtokens.specs.declared.state.State.TheVariants as s

-- the longest word at the front of the text that the scanner takes from a state on
record Best (q : State) (cs : List ℕ) (m : TokenKind) (t : List ℕ) : Type 0 where
  word : List ℕ
  split : cs ≡ word ++ t
  takes : kind_from word q ≡ Some m
  far : (v u : List ℕ) (n : TokenKind) → cs ≡ v ++ u → kind_from v q ≡ Some n → length v ≤ length word

-- it takes no word at its front but the empty one
record NoWord (q : State) (cs : List ℕ) : Type 0 where
  only_empty : (c : ℕ) (v u : List ℕ) (n : TokenKind) → cs ≡ (c ∷ v) ++ u → kind_from (c ∷ v) q ≡ Some n → ⊥

data Walked (q : State) (cs : List ℕ) (found result : Found) : Type 0 where
  better : (m : TokenKind) (t : List ℕ) → result ≡ Some (m, t) → Best q cs m t → Walked q cs found result
  same : result ≡ found → NoWord q cs → Walked q cs found result

-- where the scanner goes on from a state at a character
kind_next : (c : ℕ) (w : List ℕ) (q : State) (o : Option State) → step (λ s. holds s c) q ≡ o
    → kind_from (c ∷ w) q ≡ elim o as (λ z. Option TokenKind) [ None ↦ None | Some r ↦ kind_from w r ]
kind_next c w q o e = ap (λ (x : Option State). elim x as (λ z. Option TokenKind) [ None ↦ None | Some r ↦ kind_from w r ]) e

module _ (c : ℕ) (cs : List ℕ) (q : State) where
  -- a word begins with the character
  begins : (d : ℕ) (v u : List ℕ) (n : TokenKind) → c ∷ cs ≡ (d ∷ v) ++ u → kind_from (d ∷ v) q ≡ Some n → kind_from (c ∷ v) q ≡ Some n
  begins d v u n e f = let heads : d ≡ c = cc in subst (λ x. kind_from (x ∷ v) q ≡ Some n) heads f

  stops : step (λ s. holds s c) q ≡ None → NoWord q (c ∷ cs)
  stops e = record { only_empty = λ d v u n s f. let x : None ≡ Some n = sym (kind_next c v q None e) ∙ begins d v u n s f in absurd (cc) }

  module _ (r : State) (next : step (λ s. holds s c) q ≡ Some r) where
    further : (d : ℕ) (v u : List ℕ) (n : TokenKind) → c ∷ cs ≡ (d ∷ v) ++ u → kind_from (d ∷ v) q ≡ Some n → kind_from v r ≡ Some n
    further d v u n s f = sym (kind_next c v q (Some r) next) ∙ begins d v u n s f

    back : (v : List ℕ) (n : TokenKind) → kind_from v r ≡ Some n → kind_from (c ∷ v) q ≡ Some n
    back v n f = kind_next c v q (Some r) next ∙ f

    tail_of : (d : ℕ) (v u : List ℕ) → c ∷ cs ≡ (d ∷ v) ++ u → cs ≡ v ++ u
    tail_of d v u s = cc

    best_far : (m : TokenKind) (t : List ℕ) (b : Best r cs m t) (v u : List ℕ) (n : TokenKind) → c ∷ cs ≡ v ++ u → kind_from v q ≡ Some n → length v ≤ length (c ∷ b.word)
    best_far m t b [] u n s f = omega arith
    best_far m t b (d ∷ v) u n s f = let l = b.far v u n (tail_of d v u s) (further d v u n s f) in omega (arith, l)

    best : (m : TokenKind) (t : List ℕ) → Best r cs m t → Best q (c ∷ cs) m t
    best m t b = record {
      word = c ∷ b.word;
      split = ap (λ (x : List ℕ). c ∷ x) b.split;
      takes = back b.word m b.takes;
      far = best_far m t b;
    }

    one_far : NoWord r cs → (v u : List ℕ) (n : TokenKind) → c ∷ cs ≡ v ++ u → kind_from v q ≡ Some n → length v ≤ 1
    one_far lacks [] u n s f = omega arith
    one_far lacks (d ∷ []) u n s f = omega arith
    one_far lacks (d ∷ x ∷ v) u n s f = absurd (lacks.only_empty x v u n (tail_of d (x ∷ v) u s) (further d (x ∷ v) u n s f))

    one : (m : TokenKind) → spelled r ≡ Some m → NoWord r cs → Best q (c ∷ cs) m cs
    one m e lacks = record {
      word = c ∷ [];
      split = refl;
      takes = back [] m e;
      far = one_far lacks;
    }

    none_here : spelled r ≡ None → NoWord r cs → (d : ℕ) (v u : List ℕ) (n : TokenKind) → c ∷ cs ≡ (d ∷ v) ++ u → kind_from (d ∷ v) q ≡ Some n → ⊥
    none_here e lacks d [] u n s f = let x : None ≡ Some n = sym e ∙ further d [] u n s f in absurd (cc)
    none_here e lacks d (x ∷ v) u n s f = lacks.only_empty x v u n (tail_of d (x ∷ v) u s) (further d (x ∷ v) u n s f)

    after_same : (o : Option TokenKind) → spelled r ≡ o → (found result : Found) → result ≡ found_at o cs found → NoWord r cs → Walked q (c ∷ cs) found result
    after_same None e found result h lacks = same h (record { only_empty = none_here e lacks })
    after_same (Some m) e found result h lacks = better m cs h (one m e lacks)

    after : (found result : Found) → Walked r cs (found_at (spelled r) cs found) result → Walked q (c ∷ cs) found result
    after found result (better m t e b) = better m t e (best m t b)
    after found result (same e lacks) = after_same (spelled r) refl found result e lacks

  at_step : (o : Option State) → step (λ s. holds s c) q ≡ o → (found : Found)
      → ((r : State) (f : Found) → Walked r cs f (scanned cs r f))
      → Walked q (c ∷ cs) found (elim o [ None ↦ found | Some r ↦ scanned cs r (found_at (spelled r) cs found) ])
  at_step None next found go = same refl (stops next)
  at_step (Some r) next found go = after r next found (scanned cs r (found_at (spelled r) cs found)) (go r (found_at (spelled r) cs found))

walked : (cs : List ℕ) (q : State) (found : Found) → Walked q cs found (scanned cs q found)
unfolding scanned
walked [] q found = same refl (record { only_empty = λ c v u n e f. cc })
walked (c ∷ cs) q found = at_step c cs q (step (λ s. holds s c) q) refl found (walked cs)

-- what was found, stated of the states
record Longest (text : List ℕ) (m : TokenKind) (t : List ℕ) : Type 0 where
  word : List ℕ
  split : text ≡ word ++ t
  takes : kind_of word ≡ Some m
  far : (v u : List ℕ) (n : TokenKind) → text ≡ v ++ u → kind_of v ≡ Some n → length v ≤ length word

longest_from : (text : List ℕ) (result : Found) → Walked s.Start text None result → (m : TokenKind) (t : List ℕ) → result ≡ Some (m, t) → Longest text m t
longest_from text result (better n u e b) m t h =
    let whole : ◌≡◌ {A = TokenKind × List ℕ} (n, u) (m, t) = cc in
    subst (λ (z : TokenKind × List ℕ). Longest text z.0 z.1) whole (record { word = b.word; split = b.split; takes = b.takes; far = b.far })
longest_from text result (same e lacks) m t h = absurd (cc)

no_word_from : (text : List ℕ) (result : Found) → Walked s.Start text None result → result ≡ None → NoWord s.Start text
no_word_from text result (better m t e b) h = absurd (cc)
no_word_from text result (same e lacks) h = lacks

-- where the scanner's states tell what each token is
module _ (told : (k : TokenKind) (w : List ℕ) → Spells k w → kind_of w ≡ Some k) where
  never_empty : (k : TokenKind) → Spells k [] → ⊥
  never_empty k f = let x : None ≡ Some k = told k [] f in absurd (cc)

  pub spelled_length : (k : TokenKind) (w : List ℕ) → Spells k w → 0 < length w
  spelled_length k [] x = absurd (never_empty k x)
  spelled_length k (c ∷ w) x = omega arith

  pub one_kind : (w : List ℕ) (k j : TokenKind) → Spells k w → Spells j w → k ≡ j
  one_kind w k j f g = let x : Some k ≡ Some j = sym (told k w f) ∙ told j w g in cc

  pub unspelled_from : (text : List ℕ) → scanned text s.Start None ≡ None → IsUnspelled text
  unspelled_from text h j [] u e f = never_empty j f
  unspelled_from text h j (c ∷ v) u e f = (no_word_from text (scanned text s.Start None) (walked text s.Start None) h).only_empty c v u j e (told j (c ∷ v) f)

  -- and what they take is a token
  module _ (spells : (k : TokenKind) (w : List ℕ) → kind_of w ≡ Some k → Spells k w) where
    pub longest_found : (text : List ℕ) (m : TokenKind) (t : List ℕ) → scanned text s.Start None ≡ Some (m, t) → (w : List ℕ) × (text ≡ w ++ t) × IsLongest text m w
    longest_found text m t h =
        let f = longest_from text (scanned text s.Start None) (walked text s.Start None) m t h in
        (f.word, f.split, record { spells = spells m f.word f.takes; none_longer = λ j v u e x. f.far v u j e (told j v x) })

-- steps of the walk
pub scanned_end : (cs : List ℕ) (q : State) (f : Found) → cs ≡ [] → scanned cs q f ≡ f
unfolding scanned
scanned_end cs q f e = ap (λ (x : List ℕ). scanned x q f) e

pub scanned_stop : (cs ds : List ℕ) (c : ℕ) (q : State) (f : Found) → cs ≡ c ∷ ds → step (λ s. holds s c) q ≡ None → scanned cs q f ≡ f
unfolding scanned
scanned_stop cs ds c q f e h =
    ap (λ (x : List ℕ). scanned x q f) e ∙ ap (λ (o : Option State). elim o as (λ z. Found) [ None ↦ f | Some r ↦ scanned ds r (found_at (spelled r) ds f) ]) h

pub scanned_next : (cs ds : List ℕ) (c : ℕ) (q r : State) (f : Found) → cs ≡ c ∷ ds → step (λ s. holds s c) q ≡ Some r → scanned cs q f ≡ scanned ds r (found_at (spelled r) ds f)
unfolding scanned
scanned_next cs ds c q r f e h =
    ap (λ (x : List ℕ). scanned x q f) e ∙ ap (λ (o : Option State). elim o as (λ z. Found) [ None ↦ f | Some r ↦ scanned ds r (found_at (spelled r) ds f) ]) h
