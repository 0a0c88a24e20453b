-- Two texts that have tokens up to their ends have the tokens of both, where white space or a comment stands between them.
use Rattle.std.proofs.Common.{◌≡◌, ◌≢◌, ℕ, ◌+◌, ◌≤◌, Bool, true, false, ◌==◌, List, [], ◌∷◌, ◌++◌, length, length-append, append_assoc, Option, Some, None, refl, sym, ap, ◌∙◌, subst, arith, ⊎_elim, if◌then◌else◌}
use Rattle.std.specs.Prelude.{IsFalse}
use Rattle.std.proofs.lemmas.Bool.{cases_Bool, and_right, eqb-true, false≢true}
use Rattle.std.proofs.lemmas.Bool.Decides.{nat_tests}
use Rattle.pj_xtokens.specs.Characters.{is_white, heads, holds}
use Rattle.pj_xtokens.specs.declared.characters.CharSet.{CharSet}
use Rattle.pj_xtokens.specs.declared.characters.CharSet.TheVariants.{The, NameStart, NameCharacter, Digit, ExponentMark, PlusOrMinus}
use Rattle.pj_xtokens.specs.Gaps.{Past, here, white, comment, opens, IsSolid}
use Rattle.pj_xtokens.specs.Rules.{Spells}
use Rattle.pj_xtokens.specs.Scanning.{kind_from}
use Rattle.pj_xtokens.specs.Size.{size}
use Rattle.pj_xtokens.specs.States.{step, spelled, first_step, sign_step}
use Rattle.pj_xtokens.specs.Tokens.{IsLongest, is_joined, Lexed, Tokens, ended, token, joined, unspelled}
use Rattle.pj_xtokens.specs.declared.state.State.{State}
use Rattle.pj_xtokens.specs.declared.state.State.TheVariants as s
use Rattle.pj_xtokens.specs.declared.token.End.{End}
use Rattle.pj_xtokens.specs.declared.token.End.TheVariants as ends
use Rattle.pj_xtokens.specs.declared.token.Sign.{Sign}
use Rattle.pj_xtokens.specs.declared.token.Sign.TheVariants as sign
use Rattle.pj_xtokens.specs.declared.token.TokenKind.{TokenKind}
use Rattle.pj_xsyntax_laws.specs.Gapped.{IsGap, moved}
use Rattle.pj_xsyntax_laws.proofs.Comments.{gap_before, gap_breaks, past_still}
use Rattle.pj_xsyntax_laws.proofs.Fronts.{none_empty, not_joined}
use Rattle.pj_xsyntax_laws.proofs.Sizes.{size-append}
use Rattle.pj_xsyntax_laws.proofs.Stopping.{is_break, at_each, no_state, none_at, sign_stops, longer}
use Rattle.pj_xsyntax_laws.proofs.WordKinds.{SpelledAreTold, ToldAreSpelled, kind_next, kind_stops}

-- ---- tokens behind a gap, and at other offsets

past_past : (a b c : List ℕ) → Past a b → Past b c → Past a c
past_past a b c (here _ _ e) q = subst (λ x. Past x c) (sym e) q
past_past a b c (white d _ r _ e w p) q = white d a r c e w (past_past r b c p q)
past_past a b c (comment _ i r _ e k p) q = comment a i r c e k (past_past r b c p q)

behind_gap : (total : ℕ) (a b : List ℕ) (ts : List Lexed) (e : End) → Past a b → Tokens total b ts e → Tokens total a ts e
behind_gap total a _ _ _ g (ended text p) = ended a (past_past a text [] g p)
behind_gap total a _ _ _ g (token text body w behind k from more e p s o q l z j m) = token a body w behind k from more e (past_past a text body g p) s o q l z j m
behind_gap total a _ _ _ g (joined text body w behind k from to p s o q l z j m) = joined a body w behind k from to (past_past a text body g p) s o q l z j m
behind_gap total a _ _ _ g (unspelled c text rest from p s o z) = unspelled c a rest from (past_past a text (c ∷ rest) g p) s o z

moved_tokens : (n total other : ℕ) (text : List ℕ) (ts : List Lexed) (e : End) → n + total ≡ other → e ≡ ends.Text total → Tokens total text ts e → Tokens other text (moved n ts) (ends.Text other)
moved_tokens n total other _ _ _ t h (ended text p) = ended text p
moved_tokens n total other _ _ _ t h (token text body w behind k from more e p s o q l z j m) =
    token text body w behind k (n + from) (moved n more) (ends.Text other) p s o q l (omega (arith, z, t)) j (moved_tokens n total other behind more e t h m)
moved_tokens n total other _ _ _ t h (joined text body w behind k from to p s o q l z j m) = absurd (cc)
moved_tokens n total other _ _ _ t h (unspelled c text rest from p s o z) = absurd (cc)

-- ---- states of words that are no strings

abbrev is_plain : State → Bool
is_plain s.Start = false
is_plain s.QuoteBody = false
is_plain s.QuoteEnd = false
is_plain s.ApostropheBody = false
is_plain s.ApostropheEnd = false
is_plain _ = true

abbrev leads : Option State → Bool
leads None = true
leads (Some r) = is_plain r

either : (b : Bool) (x y : Option State) → leads x ≡ true → leads y ≡ true → leads (if b then x else y) ≡ true
either true x y f g = f
either false x y f g = g

sign_leads : (is : CharSet → Bool) (q : Sign) → leads (sign_step is q) ≡ true
unfolding sign_step
sign_leads is sign.Dot = either (is Digit) _ _ refl (either (is (The 46)) _ _ refl refl)
sign_leads is sign.Slash = either (is (The 47)) _ _ refl refl
sign_leads is sign.Colon = either (is (The 58)) _ _ refl (either (is (The 61)) _ _ refl refl)
sign_leads is sign.Bang = either (is (The 61)) _ _ refl refl
sign_leads is sign.Less = either (is (The 60)) _ _ refl (either (is (The 61)) _ _ refl refl)
sign_leads is sign.Equal = either (is (The 62)) _ _ refl refl
sign_leads is sign.Greater = either (is (The 62)) _ _ refl (either (is (The 61)) _ _ refl refl)
sign_leads is sign.Bar = either (is (The 124)) _ _ refl refl
sign_leads is _ = refl

-- such a state goes on to such states alone
plain_leads : (is : CharSet → Bool) (q : State) → is_plain q ≡ true → leads (step is q) ≡ true
plain_leads is s.Start h = absurd (false≢true h)
plain_leads is s.Name h = either (is NameCharacter) _ _ refl (either (is (The 58)) _ _ refl refl)
plain_leads is s.NameColon h = either (is NameStart) _ _ refl refl
plain_leads is s.PrefixedName h = either (is NameCharacter) _ _ refl refl
plain_leads is s.Integer h = either (is Digit) _ _ refl (either (is (The 46)) _ _ refl (either (is ExponentMark) _ _ refl refl))
plain_leads is s.Decimal h = either (is Digit) _ _ refl (either (is ExponentMark) _ _ refl refl)
plain_leads is s.ExponentMark h = either (is Digit) _ _ refl (either (is PlusOrMinus) _ _ refl refl)
plain_leads is s.ExponentSign h = either (is Digit) _ _ refl refl
plain_leads is s.Double h = either (is Digit) _ _ refl refl
plain_leads is s.QuoteBody h = absurd (false≢true h)
plain_leads is s.QuoteEnd h = absurd (false≢true h)
plain_leads is s.ApostropheBody h = absurd (false≢true h)
plain_leads is s.ApostropheEnd h = absurd (false≢true h)
plain_leads is (s.Sign q) h = sign_leads is q

-- and ends before white space and comments
plain_stops : (q : State) → is_plain q ≡ true → at_each (λ c. step (λ s. holds s c) q) ≡ no_state
plain_stops s.Start h = absurd (false≢true h)
plain_stops s.Name h = refl
plain_stops s.NameColon h = refl
plain_stops s.PrefixedName h = refl
plain_stops s.Integer h = refl
plain_stops s.Decimal h = refl
plain_stops s.ExponentMark h = refl
plain_stops s.ExponentSign h = refl
plain_stops s.Double h = refl
plain_stops s.QuoteBody h = absurd (false≢true h)
plain_stops s.QuoteEnd h = absurd (false≢true h)
plain_stops s.ApostropheBody h = absurd (false≢true h)
plain_stops s.ApostropheEnd h = absurd (false≢true h)
plain_stops (s.Sign q) h = sign_stops q

plain_next : (o : Option State) (x : List ℕ) (j : TokenKind) → leads o ≡ true → ((r : State) → is_plain r ≡ true → kind_from x r ≡ Some j → ⊥)
    → elim o as (λ z. Option TokenKind) [ None ↦ None | Some r ↦ kind_from x r ] ≡ Some j → ⊥
plain_next None x j h go f = absurd (cc)
plain_next (Some r) x j h go f = go r h f

-- ---- the state behind a word

record Reached (w : List ℕ) (q : State) (k : TokenKind) : Type 0 where
  state : State
  told : spelled state ≡ Some k
  goes_on : (x : List ℕ) → kind_from (w ++ x) q ≡ kind_from x state

reached_next : (c : ℕ) (w : List ℕ) (q : State) (k : TokenKind) (o : Option State) → step (λ s. holds s c) q ≡ o → ((r : State) → kind_from w r ≡ Some k → Reached w r k)
    → elim o as (λ z. Option TokenKind) [ None ↦ None | Some r ↦ kind_from w r ] ≡ Some k → Reached (c ∷ w) q k
reached_next c w q k None e go f = absurd (cc)
reached_next c w q k (Some r) e go f = let h = go r f in record { state = h.state; told = h.told; goes_on = λ x. kind_next c (w ++ x) q r e ∙ h.goes_on x }

reached : (w : List ℕ) (q : State) (k : TokenKind) → kind_from w q ≡ Some k → Reached w q k
reached [] q k f = record { state = q; told = f; goes_on = λ x. refl }
reached (c ∷ w) q k f = reached_next c w q k (step (λ s. holds s c) q) refl (λ r g. reached w r k g) f

-- ---- strings

-- the sign around a string, and the states within it and behind it
record IsMark (mark : ℕ) (inside behind : State) : Type 0 where
  begins : step (λ s. holds s mark) s.Start ≡ Some inside
  again : step (λ s. holds s mark) behind ≡ Some inside
  alone : (c : ℕ) → (c == mark) ≡ false → step (λ s. holds s c) behind ≡ None
  stops : at_each (λ c. step (λ s. holds s c) behind) ≡ no_state
  not_break : is_break mark ≡ false

quote : IsMark 34 s.QuoteBody s.QuoteEnd
unfolding first_step
quote = record {
  begins = refl;
  again = refl;
  alone = λ c e. ap (λ (b : Bool). if b then Some s.QuoteBody else None) e;
  stops = refl;
  not_break = refl;
}

apostrophe : IsMark 39 s.ApostropheBody s.ApostropheEnd
unfolding first_step
apostrophe = record {
  begins = refl;
  again = refl;
  alone = λ c e. ap (λ (b : Bool). if b then Some s.ApostropheBody else None) e;
  stops = refl;
  not_break = refl;
}

white_breaks : (c : ℕ) → is_white c ≡ true → is_break c ≡ true
white_breaks c h = grind (arith, nat_tests, h)

-- no gap begins with what is no white space and no (
past_solid : (c : ℕ) (text body more : List ℕ) → is_break c ≡ false → text ≡ c ∷ more → Past text body → body ≡ c ∷ more
past_solid c text body more n t (here _ _ e) = sym e ∙ t
past_solid c text body more n t (white d _ r _ e w p) = let same : d ≡ c = cc in absurd (false≢true (sym n ∙ sym (ap is_break same) ∙ white_breaks d w))
past_solid c text body more n t (comment _ i r _ e k p) = let same : 40 ≡ c = cc in absurd (false≢true (sym n ∙ sym (ap is_break same)))

-- the first token of a text
record First (text : List ℕ) : Type 0 where
  kind : TokenKind
  word : List ℕ
  behind : List ℕ
  spells : Spells kind word
  parts : text ≡ word ++ behind

first_token : (short c : ℕ) (text more : List ℕ) (ts : List Lexed) (e : End) → is_break c ≡ false → text ≡ c ∷ more → e ≡ ends.Text short → Tokens short text ts e → First text
first_token short c _ more _ _ n t h (ended text p) = let x : [] ≡ c ∷ more = past_solid c text [] more n t p in absurd (cc)
first_token short c _ more _ _ n t h (token text body w behind k from rest e p s o q l z j m) =
    record { kind = k; word = w; behind = behind; spells = l.spells; parts = t ∙ sym (past_solid c text body more n t p) ∙ q }
first_token short c _ more _ _ n t h (joined text body w behind k from to p s o q l z j m) = absurd (cc)
first_token short c _ more _ _ n t h (unspelled d text rest from p s o z) = absurd (cc)

-- ---- no token goes over a gap

module _ (told : SpelledAreTold) (spelled_ : ToldAreSpelled) where
  -- a string and the next one, which begins with its sign, are one
  one_string : (mark : ℕ) (inside end : State) → IsMark mark inside end → (w behind : List ℕ) (k : TokenKind) (c : ℕ) (more : List ℕ) → ((x : List ℕ) → kind_from (w ++ x) s.Start ≡ kind_from x end)
      → IsLongest (w ++ behind) k w → c ≡ mark → behind ≡ c ∷ more → (word rest : List ℕ) (j : TokenKind) → Spells j word → behind ≡ word ++ rest → ⊥
  one_string mark inside end is w behind k c more goes l a b [] rest j f p = none_empty told j f
  one_string mark inside end is w behind k c more goes l a b (x ∷ word) rest j f p =
      let first : x ≡ mark = let y : x ∷ (word ++ rest) ≡ mark ∷ more = sym p ∙ b ∙ ap (λ z. z ∷ more) a in cc in
      let alone : kind_from (mark ∷ word) s.Start ≡ Some j = ap (λ z. kind_from (z ∷ word) s.Start) (sym first) ∙ told j (x ∷ word) f in
      let both : kind_from (w ++ mark ∷ word) s.Start ≡ Some j = goes (mark ∷ word) ∙ kind_next mark word end inside is.again ∙ sym (kind_next mark word s.Start inside is.begins) ∙ alone in
      let whole : w ++ behind ≡ (w ++ mark ∷ word) ++ rest = ap (λ z. w ++ z) (p ∙ ap (λ z. z ∷ (word ++ rest)) first) ∙ sym (append_assoc w (mark ∷ word) rest) in
      let short = l.none_longer j (w ++ mark ∷ word) rest whole (spelled_ j (w ++ mark ∷ word) both) in
      let long = length-append w (mark ∷ word) in
      omega (arith, short, long)

  module _ (d : ℕ) (is : is_break d ≡ true) where
    plain_ends : (x u : List ℕ) (q : State) (j : TokenKind) → is_plain q ≡ true → kind_from (x ++ d ∷ u) q ≡ Some j → ⊥
    plain_ends [] u q j h f = let none : None ≡ Some j = sym (kind_stops d u q (none_at (λ c. step (λ s. holds s c) q) (plain_stops q h) d is)) ∙ f in absurd (cc)
    plain_ends (c ∷ x) u q j h f = plain_next (step (λ s. holds s c) q) (x ++ d ∷ u) j (plain_leads (λ s. holds s c) q h) (λ r g. plain_ends x u r j g) f

    string_ends : (mark : ℕ) (inside end : State) → IsMark mark inside end → (w behind u : List ℕ) (k j : TokenKind) (short : ℕ) (ts : List Lexed)
        → ((x : List ℕ) → kind_from (w ++ x) s.Start ≡ kind_from x end) → IsLongest (w ++ behind) k w → Tokens short behind ts (ends.Text short) → kind_from (behind ++ d ∷ u) end ≡ Some j → ⊥
    string_ends mark inside end a w [] u k j short ts goes l m f =
        let none : None ≡ Some j = sym (kind_stops d u end (none_at (λ c. step (λ s. holds s c) end) a.stops d is)) ∙ f in absurd (cc)
    string_ends mark inside end a w (c ∷ behind) u k j short ts goes l m f = ⊎_elim
        (λ (h : (c == mark) ≡ true).
        let same : c ≡ mark = eqb-true _ _ h in
        let next = first_token short c (c ∷ behind) behind ts (ends.Text short) (ap is_break same ∙ a.not_break) refl refl m in
        one_string mark inside end a w (c ∷ behind) k c behind goes l same refl next.word next.behind next.kind next.spells next.parts)
        (λ (h : (c == mark) ≡ false). let none : None ≡ Some j = sym (kind_stops c (behind ++ d ∷ u) end (a.alone c h)) ∙ f in absurd (cc))
        (cases_Bool (c == mark))

    state_ends : (q : State) (w behind u : List ℕ) (k j : TokenKind) (short : ℕ) (ts : List Lexed) → spelled q ≡ Some k
        → ((x : List ℕ) → kind_from (w ++ x) s.Start ≡ kind_from x q) → IsLongest (w ++ behind) k w → Tokens short behind ts (ends.Text short) → kind_from (behind ++ d ∷ u) q ≡ Some j → ⊥
    state_ends s.Start w behind u k j short ts e goes l m f = absurd (cc)
    state_ends s.QuoteBody w behind u k j short ts e goes l m f = absurd (cc)
    state_ends s.QuoteEnd w behind u k j short ts e goes l m f = string_ends 34 s.QuoteBody s.QuoteEnd quote w behind u k j short ts goes l m f
    state_ends s.ApostropheBody w behind u k j short ts e goes l m f = absurd (cc)
    state_ends s.ApostropheEnd w behind u k j short ts e goes l m f = string_ends 39 s.ApostropheBody s.ApostropheEnd apostrophe w behind u k j short ts goes l m f
    state_ends q w behind u k j short ts e goes l m f = plain_ends behind u q j refl f

    word_ends : (w behind u : List ℕ) (k j : TokenKind) (short : ℕ) (ts : List Lexed) → IsLongest (w ++ behind) k w → Tokens short behind ts (ends.Text short) → Spells j ((w ++ behind) ++ d ∷ u) → ⊥
    word_ends w behind u k j short ts l m f =
        let r = reached w s.Start k (told k w l.spells) in
        let e : kind_from (w ++ (behind ++ d ∷ u)) s.Start ≡ Some j = ap (λ z. kind_from z s.Start) (sym (append_assoc w behind (d ∷ u))) ∙ told j ((w ++ behind) ++ d ∷ u) f in
        state_ends r.state w behind u k j short ts r.told r.goes_on l m (sym (r.goes_on (behind ++ d ∷ u)) ∙ e)

    -- a prefix of both that is no longer than the first text is one of that
    prefix : (v text more behind : List ℕ) → text ++ more ≡ v ++ behind → length v ≤ length text → (x : List ℕ) × (text ≡ v ++ x)
    prefix [] text more behind e h = (text, refl)
    prefix (c ∷ v) [] more behind e h = absurd (omega (arith, h))
    prefix (c ∷ v) (b ∷ text) more behind e h =
        let first : b ≡ c = cc in
        let tails : text ++ more ≡ v ++ behind = cc in
        let r = prefix v text more behind tails (omega (arith, h)) in
        (r.0, λ i. first i ∷ r.1 i)

    longest_still : (body w behind rest : List ℕ) (k : TokenKind) (short : ℕ) (ts : List Lexed) → body ≡ w ++ behind → IsLongest body k w → Tokens short behind ts (ends.Text short) → IsLongest (body ++ d ∷ rest) k w
    longest_still body w behind rest k short ts q l m = record {
      spells = l.spells;
      none_longer = λ j v after e g. ⊎_elim
          (λ (h : length v ≤ length body). let x = prefix v body (d ∷ rest) after e h in l.none_longer j v x.0 x.1 g)
          (λ (h : (u : List ℕ) × (v ≡ body ++ d ∷ u)).
          absurd (word_ends w behind h.0 k j short ts (subst (λ z. IsLongest z k w) q l) m (subst (λ z. Spells j z) (h.1 ∙ ap (λ z. z ++ d ∷ h.0) q) g)))
          (longer d body rest v after e);
    }

    -- ---- what stands in front of it

    no_colon : (d == 58) ≡ false
    no_colon = grind (arith, nat_tests, is)

    opens_still : (body rest : List ℕ) → (body ≡ [] → ⊥) → IsFalse (opens body) → IsFalse (opens (body ++ d ∷ rest))
    opens_still [] rest n o = absurd (n refl)
    opens_still (c ∷ []) rest n o = and_right (c == 40) (d == 58) no_colon
    opens_still (c ∷ b ∷ body) rest n o = o

    white_still : (body rest : List ℕ) → (body ≡ [] → ⊥) → IsFalse (heads is_white body) → IsFalse (heads is_white (body ++ d ∷ rest))
    white_still [] rest n o = absurd (n refl)
    white_still (c ∷ body) rest n o = o

    solid_still : (body rest : List ℕ) → (body ≡ [] → ⊥) → IsFalse (opens body) → IsSolid body → IsSolid (body ++ d ∷ rest)
    solid_still body rest n o f = record {
      not_white = white_still body rest n f.not_white;
      no_comment = λ inside behind e m. false≢true (sym (opens_still body rest n o) ∙ ap opens e);
    }

    joined_still : (k : TokenKind) (behind rest : List ℕ) → IsFalse (is_joined k behind) → IsFalse (is_joined k (behind ++ d ∷ rest))
    joined_still k [] rest j = not_joined k (d ∷ rest) is
    joined_still k (c ∷ behind) rest j = j

    has_text : (body w behind : List ℕ) (k : TokenKind) → body ≡ w ++ behind → Spells k w → body ≡ [] → ⊥
    has_text body [] behind k q f n = none_empty told k f
    has_text body (c ∷ w) behind k q f n = let x : [] ≡ c ∷ (w ++ behind) = sym n ∙ q in cc

    -- ---- both

    both : (total short : ℕ) (text rest : List ℕ) (ts us : List Lexed) (e : End) → short + size (d ∷ rest) ≡ total → e ≡ ends.Text short → Tokens total (d ∷ rest) us (ends.Text total) → Tokens short text ts e
        → Tokens total (text ++ d ∷ rest) (ts ++ us) (ends.Text total)
    both total short _ rest _ us _ t h last (ended text p) = behind_gap total (text ++ d ∷ rest) (d ∷ rest) us (ends.Text total) (past_still (d ∷ rest) text [] p) last
    both total short _ rest _ us _ t h last (token text body w behind k from more e p s o q l z j m) =
        let n = has_text body w behind k q l.spells in
        let a = size-append body (d ∷ rest) in
        token (text ++ d ∷ rest) (body ++ d ∷ rest) w (behind ++ d ∷ rest) k from (more ++ us) (ends.Text total)
        (past_still (d ∷ rest) text body p) (solid_still body rest n o s) (opens_still body rest n o) (ap (λ x. x ++ d ∷ rest) q ∙ append_assoc w behind (d ∷ rest))
        (longest_still body w behind rest k short more q l (subst (λ x. Tokens short behind more x) h m)) (omega (arith, z, t, a)) (joined_still k behind rest j)
        (both total short behind rest more us e t h last m)
    both total short _ rest _ us _ t h last (joined text body w behind k from to p s o q l z j m) = absurd (cc)
    both total short _ rest _ us _ t h last (unspelled c text rest' from p s o z) = absurd (cc)

  with_gap : (before gap after : List ℕ) (firsts others : List Lexed) → IsGap gap → gap ≢ [] → Tokens (size before) before firsts (ends.Text (size before))
      → Tokens (size after) after others (ends.Text (size after))
      → Tokens (size (before ++ (gap ++ after))) (before ++ (gap ++ after)) (firsts ++ moved (size before + size gap) others) (ends.Text (size (before ++ (gap ++ after))))
  with_gap before [] after firsts others g n read read_after = absurd (n refl)
  with_gap before (d ∷ gap) after firsts others g n read read_after =
      let total = size (before ++ (d ∷ (gap ++ after))) in
      let a = size-append before (d ∷ (gap ++ after)) in
      let b = size-append (d ∷ gap) after in
      let later : size before + size (d ∷ gap) + size after ≡ total = omega (arith, a, b) in
      let last = moved_tokens (size before + size (d ∷ gap)) (size after) total after others (ends.Text (size after)) later refl read_after in
      both d (gap_breaks (d ∷ gap) after g (λ q. absurd (n q))) total (size before) before (gap ++ after) firsts (moved (size before + size (d ∷ gap)) others) (ends.Text (size before)) (sym a) refl
      (behind_gap total (d ∷ (gap ++ after)) after (moved (size before + size (d ∷ gap)) others) (ends.Text total) (gap_before (d ∷ gap) after g) last) read

  pub joined_tokens : (before gap after : List ℕ) (firsts others : List Lexed) → IsGap gap → gap ≢ [] → Tokens (size before) before firsts (ends.Text (size before))
      → Tokens (size after) after others (ends.Text (size after))
      → Tokens (size (before ++ gap ++ after)) (before ++ gap ++ after) (firsts ++ moved (size before + size gap) others) (ends.Text (size (before ++ gap ++ after)))
  joined_tokens before gap after firsts others g n read read_after =
      subst (λ (z : List ℕ). Tokens (size z) z (firsts ++ moved (size before + size gap) others) (ends.Text (size z))) (sym (append_assoc before gap after))
      (with_gap before gap after firsts others g n read read_after)
