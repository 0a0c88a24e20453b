-- The scanner's walk finds the longest word that a rule spells.
use Rattle.std.proofs.Common.{◌≡◌, ℕ, ◌≤◌, Bool, List, [], ◌∷◌, ◌++◌, length, Option, Some, None, Err, sym, refl, ap, ◌∙◌, subst, arith}
use Rattle.std.proofs.lemmas.List.{append_cancel_right}
use Rattle.pj_lex.specs.Characters.{CharSet, holds}
use Rattle.pj_lex.specs.Rules.{rules, FirstOf, Outcome, outcome, Spells}
use Rattle.pj_lex.specs.Scanning.{Found, found_at, scanned, IsBehind}
use Rattle.pj_lex.specs.States.{step, spelled}
use Rattle.pj_lex.specs.Tokens.{Begins, longest, nothing}
use Rattle.pj_lex.specs.declared.category.Category.{Category}
use Rattle.pj_lex.specs.declared.state.State.{State}
use Rattle.pj_lex.specs.declared.state.State.TheVariants as s
use Rattle.pj_patterns.specs.Derivatives.{derive_rules, spells_none}
use Rattle.pj_patterns.specs.Derived.{first_of_from, first_of_to, spelled_from, spelled_to}
use Rattle.pj_lex.proofs.Meaning.{meaning, meaning_of}
use Rattle.pj_lex.proofs.Follows.{goes_on, spells}

-- the longest word at the front of the text that the rules of a state spell, and it is not empty
record Best (q : State) (cs : List ℕ) (m : Category) (t : List ℕ) : Type 0 where
  word : List ℕ
  split : cs ≡ word ++ t
  first : FirstOf (meaning q) word m
  far : (v u : List ℕ) (n : Category) → cs ≡ v ++ u → FirstOf (meaning q) v n → length v ≤ length word

-- they spell lacks word at its front but the empty one
record NoWord (q : State) (cs : List ℕ) : Type 0 where
  only_empty : (c : ℕ) (v u : List ℕ) (n : Category) → cs ≡ (c ∷ v) ++ u → FirstOf (meaning q) (c ∷ v) n → ⊥

data Walked (q : State) (cs : List ℕ) (found result : Found) : Type 0 where
  better : (m : Category) (t : List ℕ) → result ≡ Some (m, t) → Best q cs m t → Walked q cs found result
  same : result ≡ found → NoWord q cs → Walked q cs found result

module _ (c : ℕ) (cs : List ℕ) (q : State) where
  abbrev here : CharSet → Bool
  here s = holds s c

  -- the rest of a word
  rest_of : (d : ℕ) (v u : List ℕ) (n : Category) → c ∷ cs ≡ (d ∷ v) ++ u → FirstOf (meaning q) (d ∷ v) n → FirstOf (derive_rules here (meaning q)) v n
  rest_of d v u n e f = let heads : d ≡ c = cc in first_of_from holds c (meaning q) v n (subst (λ x. FirstOf (meaning q) (x ∷ v) n) heads f)

  stops : derive_rules here (meaning q) ≡ [] → NoWord q (c ∷ cs)
  stops e = record { only_empty = λ d v u n s f. subst (λ rs. FirstOf rs v n) e (rest_of d v u n s f) }

  module _ (r : State) (agree : derive_rules here (meaning q) ≡ meaning r) where
    further : (d : ℕ) (v u : List ℕ) (n : Category) → c ∷ cs ≡ (d ∷ v) ++ u → FirstOf (meaning q) (d ∷ v) n → FirstOf (meaning r) v n
    further d v u n s f = subst (λ rs. FirstOf rs v n) agree (rest_of d v u n s f)

    back : (v : List ℕ) (n : Category) → FirstOf (meaning r) v n → FirstOf (meaning q) (c ∷ v) n
    back v n f = first_of_to holds c (meaning q) v n (subst (λ rs. FirstOf rs v n) (sym agree) f)

    tail_of : (d : ℕ) (v u : List ℕ) → c ∷ cs ≡ (d ∷ v) ++ u → cs ≡ v ++ u
    tail_of d v u s = cc

    best_far : (m : Category) (t : List ℕ) (b : Best r cs m t) (v u : List ℕ) (n : Category) → c ∷ cs ≡ v ++ u → FirstOf (meaning q) v n → length v ≤ length (c ∷ b.word)
    best_far m t b [] u n s f = omega arith
    best_far m t b (d ∷ v) u n s f = let l = b.far v u n (tail_of d v u s) (further d v u n s f) in omega (arith, l)

    best : (m : Category) (t : List ℕ) → Best r cs m t → Best q (c ∷ cs) m t
    best m t b = record {
      word = c ∷ b.word;
      split = ap (λ (x : List ℕ). c ∷ x) b.split;
      first = back b.word m b.first;
      far = best_far m t b;
    }

    one_far : NoWord r cs → (v u : List ℕ) (n : Category) → c ∷ cs ≡ v ++ u → FirstOf (meaning q) v n → length v ≤ 1
    one_far lacks [] u n s f = omega arith
    one_far lacks (d ∷ []) u n s f = omega arith
    one_far lacks (d ∷ x ∷ v) u n s f = absurd (lacks.only_empty x v u n (tail_of d (x ∷ v) u s) (further d (x ∷ v) u n s f))

    one : (m : Category) → spelled r ≡ Some m → NoWord r cs → Best q (c ∷ cs) m cs
    one m e lacks = record {
      word = c ∷ [];
      split = refl;
      first = back [] m (spelled_to holds (meaning r) m (spells r ∙ e));
      far = one_far lacks;
    }

    none_here : spelled r ≡ None → NoWord r cs → (d : ℕ) (v u : List ℕ) (n : Category) → c ∷ cs ≡ (d ∷ v) ++ u → FirstOf (meaning q) (d ∷ v) n → ⊥
    none_here e lacks d [] u n s f = let x : None ≡ Some n = sym e ∙ sym (spells r) ∙ spelled_from holds (meaning r) n (further d [] u n s f) in absurd (cc)
    none_here e lacks d (x ∷ v) u n s f = lacks.only_empty x v u n (tail_of d (x ∷ v) u s) (further d (x ∷ v) u n s f)

    after_same : (o : Option Category) → spelled r ≡ o → (found result : Found) → result ≡ found_at o cs found → NoWord r cs → Walked q (c ∷ cs) found result
    after_same None e found result h lacks = same h (record { only_empty = none_here e lacks })
    after_same (Some m) e found result h lacks = better m cs h (one m e lacks)

    after : (found result : Found) → Walked r cs (found_at (spelled r) cs found) result → Walked q (c ∷ cs) found result
    after found result (better m t e b) = better m t e (best m t b)
    after found result (same e lacks) = after_same (spelled r) refl found result e lacks

  at_step : (o : Option State) → derive_rules here (meaning q) ≡ meaning_of o → (found : Found)
      → ((r : State) (f : Found) → Walked r cs f (scanned cs r f))
      → Walked q (c ∷ cs) found (elim o [ None ↦ found | Some r ↦ scanned cs r (found_at (spelled r) cs found) ])
  at_step None agree found go = same refl (stops agree)
  at_step (Some r) agree found go = after r agree found (scanned cs r (found_at (spelled r) cs found)) (go r (found_at (spelled r) cs found))

walked : (cs : List ℕ) (q : State) (found : Found) → Walked q cs found (scanned cs q found)
unfolding scanned
walked [] q found = same refl (record { only_empty = λ c v u n e f. cc })
walked (c ∷ cs) q found = at_step c cs q (step (λ s. holds s c) q) (goes_on c q) found (walked cs)

start_is : meaning s.Start ≡ rules
unfolding meaning
start_is = refl

nothing_empty : spells_none rules ≡ None
unfolding rules
nothing_empty = refl

pub never_empty : (m : Category) → FirstOf rules [] m → ⊥
never_empty m f = let x : None ≡ Some m = sym nothing_empty ∙ spelled_from holds rules m f in absurd (cc)

from_start : (w : List ℕ) (m : Category) → FirstOf rules w m → FirstOf (meaning s.Start) w m
from_start w m f = subst (λ rs. FirstOf rs w m) (sym start_is) f

-- what was found, stated of the rules
pub record Longest (text : List ℕ) (m : Category) (t : List ℕ) : Type 0 where
  pub word : List ℕ
  pub split : text ≡ word ++ t
  pub first : FirstOf rules word m
  pub far : (v u : List ℕ) (n : Category) → text ≡ v ++ u → FirstOf rules v n → length v ≤ length word

longest_from : (text : List ℕ) (result : Found) → Walked s.Start text None result → (m : Category) (t : List ℕ) → result ≡ Some (m, t) → Longest text m t
longest_from text result (better n u e b) m t h =
    let whole : ◌≡◌ {A = Category × List ℕ} (n, u) (m, t) = cc in
    subst (λ (z : Category × List ℕ). Longest text z.0 z.1) whole
    (record {
      word = b.word;
      split = b.split;
      first = subst (λ rs. FirstOf rs b.word n) start_is b.first;
      far = λ v x k s f. b.far v x k s (from_start v k f);
    })
longest_from text result (same e lacks) m t h = absurd (cc)

pub found : (text : List ℕ) (m : Category) (t : List ℕ) → scanned text s.Start None ≡ Some (m, t) → Longest text m t
found text m t h = longest_from text (scanned text s.Start None) (walked text s.Start None) m t h

pub found_behind : (text : List ℕ) (m : Category) (t : List ℕ) → scanned text s.Start None ≡ Some (m, t) → IsBehind t text
found_behind text m t h = let f = found text m t h in (f.word, f.split)

pub begins_found : (text : List ℕ) (m : Category) (t w : List ℕ) → scanned text s.Start None ≡ Some (m, t) → text ≡ w ++ t → Begins text (outcome m w t) t
begins_found text m t w h s =
    let f = found text m t h in
    let words : f.word ≡ w = append_cancel_right f.word w t (sym f.split ∙ s) in
    subst (λ x. Begins text (outcome m x t) t) words
    (longest f.word f.split (record { category = m; first = f.first; is = refl }) (λ l v u e k. f.far v u k.category e k.first))

no_word_from : (text : List ℕ) (result : Found) → Walked s.Start text None result → result ≡ None → NoWord s.Start text
no_word_from text result (better m t e b) h = absurd (cc)
no_word_from text result (same e lacks) h = lacks

no_spelling : (text : List ℕ) → NoWord s.Start text → (l : Outcome) (w t : List ℕ) → text ≡ w ++ t → Spells t l w → ⊥
no_spelling text lacks l [] t e k = never_empty k.category k.first
no_spelling text lacks l (c ∷ w) t e k = lacks.only_empty c w t k.category e (from_start (c ∷ w) k.category k.first)

pub begins_nothing : (text : List ℕ) → scanned text s.Start None ≡ None → Begins text (Err 1) []
begins_nothing text h = nothing (no_spelling text (no_word_from text (scanned text s.Start None) (walked text s.Start None) h)) refl

-- steps of the walk
pub scanned_end : (cs : List ℕ) (q : State) (f : Found) → cs ≡ [] → scanned cs q f ≡ f
unfolding scanned
scanned_end cs q f e = ap (λ (x : List ℕ). scanned x q f) e

pub scanned_stop : (cs ds : List ℕ) (c : ℕ) (q : State) (f : Found) → cs ≡ c ∷ ds → step (λ s. holds s c) q ≡ None → scanned cs q f ≡ f
unfolding scanned
scanned_stop cs ds c q f e h =
    ap (λ (x : List ℕ). scanned x q f) e ∙ ap (λ (o : Option State). elim o as (λ z. Found) [ None ↦ f | Some r ↦ scanned ds r (found_at (spelled r) ds f) ]) h

pub scanned_next : (cs ds : List ℕ) (c : ℕ) (q r : State) (f : Found) → cs ≡ c ∷ ds → step (λ s. holds s c) q ≡ Some r → scanned cs q f ≡ scanned ds r (found_at (spelled r) ds f)
unfolding scanned
scanned_next cs ds c q r f e h =
    ap (λ (x : List ℕ). scanned x q f) e ∙ ap (λ (o : Option State). elim o as (λ z. Found) [ None ↦ f | Some r ↦ scanned ds r (found_at (spelled r) ds f) ]) h
