-- Two readings of a text agree, and each text has one.
use Rattle.std.proofs.Common.{◌≡◌, ℕ, ◌+◌, ◌<◌, ◌≤◌, Bool, true, false, ⊎_elim, List, [], ◌∷◌, ◌++◌, length, Ok, Err, sym, refl, ap, ◌∙◌, subst, arith}
use Rattle.std.proofs.lemmas.List.{append_cancel_left, append_cancel_right}
use Rattle.pj_lex.specs.Rules.{Outcome, Spells}
use Rattle.pj_lex.specs.Tokens.{Begins, longest, nothing, Lexed, Tokens, ended, token, fault}
use Rattle.pj_lex.specs.Size.{size}
use Rattle.pj_lex.specs.Scanning.{past_run}
use Rattle.pj_lex.proofs.Lists.{past_run_stop, past_run_step}
use Rattle.std.specs.List.{list_all}
use Rattle.std.proofs.Common.{◌==◌, ◌||◌}
use Rattle.std.proofs.lemmas.Bool.{cases_Bool, and_parts, false≢true, eqb-true}
use Rattle.pj_lex.specs.Characters.{CharSet, is_white, holds}
use Rattle.pj_lex.specs.Rules.{FirstOf, rules, outcome}
use Rattle.pj_lex.specs.Tokens.{token_of, fault_of}
use Rattle.pj_lex.specs.declared.token.TokenKind.{TokenKind}
use Rattle.pj_lex.specs.declared.category.Category.{Category}
use Rattle.pj_lex.proofs.Meaning.{ascii}
use Rattle.pj_patterns.specs.Derivatives.{derive_rules}
use Rattle.pj_patterns.specs.Derived.{first_of_from, first_of_unique}
use Rattle.pj_lex.proofs.Follows.{holds_ascii}
use Rattle.pj_lex.proofs.Scanned.{never_empty}

-- a word spells one thing before one text, and the empty word none
spells_unique : (t : List ℕ) (l m : Outcome) (w : List ℕ) → Spells t l w → Spells t m w → l ≡ m
spells_unique t l m w x y = x.is ∙ ap (λ (s : Category). outcome s w t) (first_of_unique holds rules w x.category y.category x.first y.first) ∙ sym y.is

pub spells_empty : (t : List ℕ) (l : Outcome) → Spells t l [] → ⊥
spells_empty t l x = never_empty x.category x.first

-- prefixes of one text that are as long are the same
same_prefix : (v w t u : List ℕ) → v ++ t ≡ w ++ u → length v ≡ length w → v ≡ w
same_prefix [] [] t u e n = refl
same_prefix [] (d ∷ w) t u e n = absurd (omega (arith, n))
same_prefix (c ∷ v) [] t u e n = absurd (omega (arith, n))
same_prefix (c ∷ v) (d ∷ w) t u e n =
    let heads : c ≡ d = cc in
    let tails : v ++ t ≡ w ++ u = cc in
    let m : length v ≡ length w = omega (arith, n) in
    (λ i. heads i ∷ same_prefix v w t u tails m i)

pub begins_unique : (text b d : List ℕ) (l m : Outcome) → Begins text l b → Begins text m d → l ≡ m
begins_unique text b d l m (longest v s x far) (longest w u y beyond) =
    let short : length w ≤ length v = far m w d u y in
    let other : length v ≤ length w = beyond l v b s x in
    let words : v ≡ w = same_prefix v w b d (sym s ∙ u) (omega (arith, short, other)) in
    let behinds : b ≡ d = append_cancel_left v b d (sym s ∙ u ∙ ap (λ (z : List ℕ). z ++ d) (sym words)) in
    spells_unique d l m w (subst (λ z. Spells z l w) behinds (subst (λ z. Spells b l z) words x)) y
begins_unique text b d l m (longest v s x far) (nothing none e) = absurd (none l v b s x)
begins_unique text b d l m (nothing none e) (longest w u y beyond) = absurd (none m w d u y)
begins_unique text b d l m (nothing none e) (nothing more f) = e ∙ sym f

-- what stands behind is the same too, where something is spelled
pub behind_unique : (text b d : List ℕ) (l m : Outcome) → Begins text l b → Begins text m d → (l ≡ Err 1 → ⊥) → b ≡ d
behind_unique text b d l m (longest v s x far) (longest w u y beyond) ne =
    let short : length w ≤ length v = far m w d u y in
    let other : length v ≤ length w = beyond l v b s x in
    let words : v ≡ w = same_prefix v w b d (sym s ∙ u) (omega (arith, short, other)) in
    append_cancel_left v b d (sym s ∙ u ∙ ap (λ (z : List ℕ). z ++ d) (sym words))
behind_unique text b d l m (longest v s x far) (nothing none e) ne = absurd (none l v b s x)
behind_unique text b d l m (nothing none e) k ne = absurd (ne e)

-- the tokens of a text are one list
spell_size : (text b : List ℕ) (k : TokenKind) → Begins text (Ok k) b → (w : List ℕ) × (text ≡ w ++ b) × (0 < length w)
spell_size text b k (longest [] s x far) = absurd (spells_empty b (Ok k) x)
spell_size text b k (longest (c ∷ w) s x far) = (c ∷ w, s, omega arith)
spell_size text b k (nothing none e) = absurd (cc)

err_or_ok : (k : TokenKind) (n : ℕ) → ◌≡◌ {A = Outcome} (Ok k) (Err n) → ⊥
err_or_ok k n e = cc

-- no category begins with white space, so the gaps of two readings are the same
no_rule : (n : ℕ) → n < 128 → derive_rules (ascii n) rules ≡ [] → (c : ℕ) → c ≡ n → derive_rules (λ s. holds s c) rules ≡ []
no_rule n small h c e =
    let tests : ◌≡◌ {A = CharSet → Bool} (λ s. holds s c) (ascii n) = (λ i s. holds s (e i)) ∙ (λ i s. holds_ascii n small s i) in
    ap (λ (is : CharSet → Bool). derive_rules is rules) tests ∙ h

white_left : (c : ℕ) → is_white c ≡ true → derive_rules (λ s. holds s c) rules ≡ []
unfolding rules
white_left c h = ⊎_elim
    (λ (q : (c == 32) ≡ true). no_rule 32 (omega arith) refl c (eqb-true c 32 q))
    (λ (q : (c == 32) ≡ false). ⊎_elim
    (λ (r : (c == 9) ≡ true). no_rule 9 (omega arith) refl c (eqb-true c 9 r))
    (λ (r : (c == 9) ≡ false). ⊎_elim
    (λ (u : (c == 12) ≡ true). no_rule 12 (omega arith) refl c (eqb-true c 12 u))
    (λ (u : (c == 12) ≡ false). ⊎_elim
    (λ (v : (c == 10) ≡ true). no_rule 10 (omega arith) refl c (eqb-true c 10 v))
    (λ (v : (c == 10) ≡ false). ⊎_elim
    (λ (w : (c == 13) ≡ true). no_rule 13 (omega arith) refl c (eqb-true c 13 w))
    (λ (w : (c == 13) ≡ false). absurd (false≢true (sym (λ i. (q i || r i || u i) || (v i || w i)) ∙ h)))
    (cases_Bool (c == 13)))
    (cases_Bool (c == 10)))
    (cases_Bool (c == 12)))
    (cases_Bool (c == 9)))
    (cases_Bool (c == 32))

white_spells_nothing : (c : ℕ) → is_white c ≡ true → (t : List ℕ) (l : Outcome) (v : List ℕ) → Spells t l (c ∷ v) → ⊥
white_spells_nothing c h t l v k = subst (λ rs. FirstOf rs v k.category) (white_left c h) (first_of_from holds c rules v k.category k.first)

-- a reading's gap is the white space at the front
record NoWhite (body : List ℕ) : Type 0 where
  first : ℕ
  rest : List ℕ
  is : body ≡ first ∷ rest
  solid : is_white first ≡ false

token_solid : (body b : List ℕ) (k : TokenKind) → Begins body (Ok k) b → NoWhite body
token_solid body b k (longest [] s x far) = absurd (spells_empty b (Ok k) x)
token_solid body b k (longest (c ∷ w) s x far) = record {
  first = c;
  rest = w ++ b;
  is = s;
  solid = ⊎_elim (λ (h : is_white c ≡ true). absurd (white_spells_nothing c h b (Ok k) w x)) (λ (h : is_white c ≡ false). h) (cases_Bool (is_white c));
}
token_solid body b k (nothing none e) = absurd (cc)

body_is : (gap body : List ℕ) → list_all is_white gap ≡ true → NoWhite body → past_run is_white (gap ++ body) ≡ body
body_is [] body h n = past_run_stop is_white body n.rest n.first n.is n.solid
body_is (c ∷ gap) body h n =
    let a = and_parts _ _ h in
    past_run_step is_white (c ∷ gap ++ body) (gap ++ body) c refl a.0 ∙ body_is gap body a.1 n

pub past_white : (text : List ℕ) → list_all is_white text ≡ true → past_run is_white text ≡ []
past_white [] h = refl
past_white (c ∷ cs) h = let a = and_parts _ _ h in past_run_step is_white (c ∷ cs) cs c refl a.0 ∙ past_white cs a.1

same_body : (text text' gap gap' body body' : List ℕ) → text ≡ text' → text ≡ gap ++ body → text' ≡ gap' ++ body' → list_all is_white gap ≡ true → list_all is_white gap' ≡ true → NoWhite body → NoWhite body' → body ≡ body'
same_body text text' gap gap' body body' t s s' h h' n n' =
    sym (body_is gap body h n) ∙ ap (past_run is_white) (sym s ∙ t ∙ s') ∙ body_is gap' body' h' n'

none_left : (text text' gap body : List ℕ) → text ≡ text' → list_all is_white text ≡ true → text' ≡ gap ++ body → list_all is_white gap ≡ true → NoWhite body → ⊥
none_left text text' gap body t h s g n =
    let e : [] ≡ n.first ∷ n.rest = sym (past_white text h) ∙ ap (past_run is_white) (t ∙ s) ∙ body_is gap body g n ∙ n.is in cc

solid_head : (c : ℕ) (r : List ℕ) → is_white c ≡ false → NoWhite (c ∷ r)
solid_head c r h = record { first = c; rest = r; is = refl; solid = h }

ok_same : (k j : TokenKind) → ◌≡◌ {A = Outcome} (Ok k) (Ok j) → k ≡ j
ok_same k j e = cc

err_same : (k j : ℕ) → ◌≡◌ {A = Outcome} (Err k) (Err j) → k ≡ j
err_same k j e = cc

-- two readings of a text agree
pub tokens_same : (a a' : ℕ) (t t' : List ℕ) (ls ms : List Lexed) → Tokens a t ls → Tokens a' t' ms → a ≡ a' → t ≡ t' → ls ≡ ms
tokens_same _ _ _ _ _ _ (ended a t h) (ended a' t' h') x y = refl
tokens_same _ _ _ _ _ _ (ended a t h) (token a' t' g w b k more s gh bh rest) x y = absurd (none_left t t' g (w ++ b) y h s gh (token_solid (w ++ b) b k bh))
tokens_same _ _ _ _ _ _ (ended a t h) (fault a' t' g b r c f s gh ch bh) x y = absurd (none_left t t' g (c ∷ r) y h s gh (solid_head c r ch))
tokens_same _ _ _ _ _ _ (token a t g w b k more s gh bh rest) (ended a' t' h') x y = absurd (none_left t' t g (w ++ b) (sym y) h' s gh (token_solid (w ++ b) b k bh))
tokens_same _ _ _ _ _ _ (token a t g w b k more s gh bh rest) (token a' t' g' w' b' k' more' s' gh' bh' rest') x y =
    let body : w ++ b ≡ w' ++ b' = same_body t t' g g' (w ++ b) (w' ++ b') y s s' gh gh' (token_solid (w ++ b) b k bh) (token_solid (w' ++ b') b' k' bh') in
    let gaps : g ≡ g' = append_cancel_right g g' (w ++ b) (sym s ∙ y ∙ s' ∙ ap (λ (z : List ℕ). g' ++ z) (sym body)) in
    let moved : Begins (w' ++ b') (Ok k) b = subst (λ z. Begins z (Ok k) b) body bh in
    let kinds = ok_same k k' (begins_unique (w' ++ b') b b' (Ok k) (Ok k') moved bh') in
    let behinds = behind_unique (w' ++ b') b b' (Ok k) (Ok k') moved bh' (err_or_ok k 1) in
    let words = append_cancel_right w w' b (body ∙ ap (λ (z : List ℕ). w' ++ z) (sym behinds)) in
    let tails = tokens_same (a + size (g ++ w)) (a' + size (g' ++ w')) b b' more more' rest rest' (λ i. x i + size (gaps i ++ words i)) behinds in
    λ i. token_of (kinds i) (words i) (x i + size (gaps i)) ∷ tails i
tokens_same _ _ _ _ _ _ (token a t g w b k more s gh bh rest) (fault a' t' g' b' r c f s' gh' ch bh') x y =
    let body : w ++ b ≡ c ∷ r = same_body t t' g g' (w ++ b) (c ∷ r) y s s' gh gh' (token_solid (w ++ b) b k bh) (solid_head c r ch) in
    absurd (err_or_ok k f (begins_unique (c ∷ r) b b' (Ok k) (Err f) (subst (λ z. Begins z (Ok k) b) body bh) bh'))
tokens_same _ _ _ _ _ _ (fault a t g b r c f s gh ch bh) (ended a' t' h') x y = absurd (none_left t' t g (c ∷ r) (sym y) h' s gh (solid_head c r ch))
tokens_same _ _ _ _ _ _ (fault a t g b r c f s gh ch bh) (token a' t' g' w b' k more s' gh' bh' rest) x y =
    let body : c ∷ r ≡ w ++ b' = same_body t t' g g' (c ∷ r) (w ++ b') y s s' gh gh' (solid_head c r ch) (token_solid (w ++ b') b' k bh') in
    absurd (err_or_ok k f (sym (begins_unique (w ++ b') b b' (Err f) (Ok k) (subst (λ z. Begins z (Err f) b) body bh) bh')))
tokens_same _ _ _ _ _ _ (fault a t g b r c f s gh ch bh) (fault a' t' g' b' r' c' f' s' gh' ch' bh') x y =
    let body : c ∷ r ≡ c' ∷ r' = same_body t t' g g' (c ∷ r) (c' ∷ r') y s s' gh gh' (solid_head c r ch) (solid_head c' r' ch') in
    let gaps : g ≡ g' = append_cancel_right g g' (c ∷ r) (sym s ∙ y ∙ s' ∙ ap (λ (z : List ℕ). g' ++ z) (sym body)) in
    let faults = err_same f f' (begins_unique (c' ∷ r') b b' (Err f) (Err f') (subst (λ z. Begins z (Err f) b) body bh) bh') in
    λ i. fault_of (faults i) (x i + size (gaps i)) ∷ []
