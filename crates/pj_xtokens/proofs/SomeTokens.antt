-- Each text has tokens, up to its end or up to a place where no token begins.
use Rattle.std.proofs.Common.{◌≡◌, ℕ, zero, suc, ◌+◌, ◌<◌, ◌≤◌, ◌⊎◌, inl, inr, Bool, true, false, List, [], ◌∷◌, ◌++◌, length, Option, Some, None, sym, refl, ap, ◌∙◌, subst, arith, length-append}
use Rattle.std.specs.Prelude.{IsTrue, ◌==◌, ◌&&◌}
use Rattle.std.proofs.lemmas.Bool.{and_parts, cases_Bool, eqb-true, false≢true}
use Rattle.std.proofs.Math.Logic.{⊎_elim}
use Rattle.pj_xtokens.specs.Characters.{is_white}
use Rattle.pj_xtokens.specs.Gaps.{begins_with, opens, closes, Comment, Past, here, white, comment, IsSolid}
use Rattle.pj_xtokens.specs.Gaps as gap
use Rattle.pj_xtokens.specs.Rules.{Spells}
use Rattle.pj_xtokens.specs.Scanning.{scanned, kind_of}
use Rattle.pj_xtokens.specs.Size.{size}
use Rattle.pj_xtokens.specs.Tokens.{Lexed, Tokens, IsLongest, IsUnspelled, is_joined, lexed}
use Rattle.pj_xtokens.specs.Tokens as read
use Rattle.pj_xtokens.specs.declared.state.State.TheVariants.{Start}
use Rattle.pj_xtokens.specs.declared.token.TokenKind.{TokenKind}
use Rattle.pj_xtokens.specs.declared.token.End.{End}
use Rattle.pj_xtokens.specs.declared.token.End.TheVariants as ends
use Rattle.pj_xtokens.proofs.Ends.{size-append}
use Rattle.pj_xtokens.proofs.Gapped.{nothing_open, at_close, at_open, at_other, comment_behind, solid_end, solid_plain}
use Rattle.pj_xtokens.proofs.Reading.{past_behind}
use Rattle.pj_xtokens.proofs.Scanned.{longest_found, unspelled_from, spelled_length}

and_false : (b : Bool) → (b && false) ≡ false
and_false true = refl
and_false false = refl

-- two characters that a text begins with
pair_is : (a b c d : ℕ) (rest : List ℕ) → begins_with a b (c ∷ d ∷ rest) ≡ true → c ∷ d ∷ rest ≡ a ∷ b ∷ rest
pair_is a b c d rest e =
    let x : c ≡ a = eqb-true c a (and_parts (c == a) (d == b) e).0 in
    let y : d ≡ b = eqb-true d b (and_parts (c == a) (d == b) e).1 in
    (λ i. x i ∷ y i ∷ rest)

-- what stands behind a comment, where it ends
abbrev Ends : ℕ → List ℕ → Type 0
Ends n text = (behind : List ℕ) × Comment n text behind

abbrev EndsOrNot : ℕ → List ℕ → Type 0
EndsOrNot n text = Ends n text ⊎ (Ends n text → ⊥)

closed_here : (n : ℕ) (text rest : List ℕ) → text ≡ 58 ∷ 41 ∷ rest → ((m : ℕ) → EndsOrNot m rest) → EndsOrNot n text
closed_here zero text rest e more = inl (rest, gap.ended text rest e)
closed_here (suc n) text rest e more =
    ⊎_elim (λ (x : Ends n rest). inl (x.0, gap.closed n text rest x.0 e x.1))
    (λ (never : Ends n rest → ⊥). inr (λ x. never (x.0, at_close (suc n) n text rest x.0 e refl x.1))) (more n)

opened_here : (n : ℕ) (text rest : List ℕ) → text ≡ 40 ∷ 58 ∷ rest → EndsOrNot (suc n) rest → EndsOrNot n text
opened_here n text rest e (inl x) = inl (x.0, gap.opened n text rest x.0 e x.1)
opened_here n text rest e (inr never) = inr (λ x. never (x.0, at_open n text rest x.0 e x.1))

other_here : (n c : ℕ) (text rest : List ℕ) → text ≡ c ∷ rest → opens text ≡ false → closes text ≡ false → EndsOrNot n rest → EndsOrNot n text
other_here n c text rest e o l (inl x) = inl (x.0, gap.other n c text rest x.0 e o l x.1)
other_here n c text rest e o l (inr never) = inr (λ x. never (x.0, at_other n c text rest x.0 e o l x.1))

-- a comment ends, or it does not
comment_ends : (text : List ℕ) (n : ℕ) → EndsOrNot n text
comment_ends [] n = inr (λ x. nothing_open n [] x.0 refl x.1)
comment_ends (c ∷ []) n = other_here n c (c ∷ []) [] refl (one c 40 58) (one c 58 41) (comment_ends [] n)
  where
    one : (c a b : ℕ) → begins_with a b (c ∷ []) ≡ false
    one c a b = and_false (c == a)
comment_ends (c ∷ d ∷ rest) n =
    ⊎_elim
    (λ (l : closes (c ∷ d ∷ rest) ≡ true). closed_here n (c ∷ d ∷ rest) rest (pair_is 58 41 c d rest l) (comment_ends rest))
    (λ (l : closes (c ∷ d ∷ rest) ≡ false). ⊎_elim
    (λ (o : opens (c ∷ d ∷ rest) ≡ true). opened_here n (c ∷ d ∷ rest) rest (pair_is 40 58 c d rest o) (comment_ends rest (suc n)))
    (λ (o : opens (c ∷ d ∷ rest) ≡ false). other_here n c (c ∷ d ∷ rest) (d ∷ rest) refl o l (comment_ends (d ∷ rest) n))
    (cases_Bool (opens (c ∷ d ∷ rest))))
    (cases_Bool (closes (c ∷ d ∷ rest)))

same_inside : (i j : List ℕ) → 40 ∷ 58 ∷ i ≡ 40 ∷ 58 ∷ j → i ≡ j
same_inside i j e = cc

-- what stands behind a gap
record Body (text : List ℕ) : Type 0 where
  body : List ℕ
  past : Past text body
  solid : IsSolid body

-- what opens a comment
opened_is : (text : List ℕ) → opens text ≡ true → (inside : List ℕ) × (text ≡ 40 ∷ 58 ∷ inside)
opened_is [] o = absurd (cc)
opened_is (c ∷ []) o = absurd (false≢true (sym (and_false (c == 40)) ∙ o))
opened_is (c ∷ d ∷ rest) o = (rest, pair_is 40 58 c d rest o)

body_of : (n : ℕ) (text : List ℕ) → length text ≤ n → Body text
body_of n [] h = record { body = []; past = here [] [] refl; solid = solid_end }
body_of zero (c ∷ rest) h = absurd (omega (arith, h))
body_of (suc n) (c ∷ rest) h =
    ⊎_elim
    (λ (w : is_white c ≡ true). let b = body_of n rest (omega (arith, h)) in record { body = b.body; past = white c (c ∷ rest) rest b.body refl w b.past; solid = b.solid })
    (λ (w : is_white c ≡ false). ⊎_elim
    (λ (o : opens (c ∷ rest) ≡ true).
    let (inside, e) = opened_is (c ∷ rest) o in
    ⊎_elim
    (λ (x : Ends zero inside).
    let front = comment_behind zero inside x.0 x.1 in
    let all : suc (length rest) ≡ suc (suc (length inside)) = ap length e in
    let some : length inside ≡ length front.0 + length x.0 = ap length front.1 ∙ length-append front.0 x.0 in
    let b = body_of n x.0 (omega (arith, h, all, some)) in
    record { body = b.body; past = comment (c ∷ rest) inside x.0 b.body e x.1 b.past; solid = b.solid })
    (λ (never : Ends zero inside → ⊥). record {
      body = c ∷ rest;
      past = here (c ∷ rest) (c ∷ rest) refl;
      solid = record {
        not_white = w;
        no_comment = λ i b g m. never (b, subst (λ x. Comment zero x b) (same_inside i inside (sym g ∙ e)) m);
      };
    })
    (comment_ends inside zero))
    (λ (o : opens (c ∷ rest) ≡ false). record { body = c ∷ rest; past = here (c ∷ rest) (c ∷ rest) refl; solid = solid_plain c (c ∷ rest) rest refl w o })
    (cases_Bool (opens (c ∷ rest))))
    (cases_Bool (is_white c))

-- the tokens of what is left of a text of so many bytes
record Found (total : ℕ) (text : List ℕ) : Type 0 where
  tokens : List Lexed
  end : End
  read : Tokens total text tokens end

-- where the scanner's states tell what each token is, and what they take is a token
module _ (told : (k : TokenKind) (w : List ℕ) → Spells k w → kind_of w ≡ Some k) (spells : (k : TokenKind) (w : List ℕ) → kind_of w ≡ Some k → Spells k w) where
  -- behind a gap stands a token
  module _ (total from : ℕ) (text body : List ℕ) (past : Past text body) (solid : IsSolid body) (at : from + size body ≡ total) where
    with_token : (k : TokenKind) (w behind : List ℕ) → opens body ≡ false → body ≡ w ++ behind → IsLongest body k w → (to : ℕ) → to + size behind ≡ total
        → Found total behind → Found total text
    with_token k w behind plain split longest to before rest =
        ⊎_elim
        (λ (j : is_joined k behind ≡ true).
        record { tokens = lexed k w from ∷ []; end = ends.Fault to; read = read.joined text body w behind k from to past solid plain split longest at j before })
        (λ (j : is_joined k behind ≡ false).
        record { tokens = lexed k w from ∷ rest.tokens; end = rest.end; read = read.token text body w behind k from rest.tokens rest.end past solid plain split longest at j rest.read })
        (cases_Bool (is_joined k behind))

    with_none : (c : ℕ) (cs : List ℕ) → body ≡ c ∷ cs → IsTrue (opens body) ⊎ IsUnspelled body → Found total text
    with_none c cs e none = record {
      tokens = [];
      end = ends.Fault from;
      read = read.unspelled c text cs from (subst (Past text) e past) (subst IsSolid e solid) (subst (λ b. IsTrue (opens b) ⊎ IsUnspelled b) e none)
          (subst (λ b. from + size b ≡ total) e at);
    }

    -- where what stands behind a token has its tokens
    module _ (n : ℕ) (few : length body ≤ n) (more : (behind : List ℕ) (to : ℕ) → length behind < n → to + size behind ≡ total → Found total behind) where
      scanned_body : (c : ℕ) (cs : List ℕ) → body ≡ c ∷ cs → opens body ≡ false → (found : Option (TokenKind × List ℕ)) → scanned body Start None ≡ found → Found total text
      scanned_body c cs e plain None is = with_none c cs e (inr (unspelled_from told body is))
      scanned_body c cs e plain (Some (k, behind)) is =
          let (w, split, longest) = longest_found told spells body k behind is in
          let some : 0 < length w = spelled_length told k w longest.spells in
          let lengths : length body ≡ length w + length behind = ap length split ∙ length-append w behind in
          let sizes : size body ≡ size w + size behind = ap size split ∙ size-append w behind in
          let before : (from + size w) + size behind ≡ total = omega (arith, sizes, at) in
          with_token k w behind plain split longest (from + size w) before (more behind (from + size w) (omega (arith, few, lengths, some)) before)

      found_at : (b : List ℕ) → body ≡ b → Found total text
      found_at [] e = record { tokens = []; end = ends.Text total; read = read.ended text (subst (Past text) e past) }
      found_at (c ∷ cs) e =
          ⊎_elim
          (λ (o : opens body ≡ true). with_none c cs e (inl o))
          (λ (o : opens body ≡ false). scanned_body c cs e o (scanned body Start None) refl)
          (cases_Bool (opens body))

  found_behind : (n total at : ℕ) (text : List ℕ) → length text ≤ n → at + size text ≡ total
      → ((behind : List ℕ) (to : ℕ) → length behind < n → to + size behind ≡ total → Found total behind) → Found total text
  found_behind n total at text h e more =
      let b = body_of (length text) text (omega arith) in
      let front = past_behind text b.body b.past in
      let lengths : length text ≡ length front.0 + length b.body = ap length front.1 ∙ length-append front.0 b.body in
      let sizes : size text ≡ size front.0 + size b.body = ap size front.1 ∙ size-append front.0 b.body in
      let from : (at + size front.0) + size b.body ≡ total = omega (arith, sizes, e) in
      found_at total (at + size front.0) text b.body b.past b.solid from n (omega (arith, h, lengths)) more b.body refl

  found_from : (n total at : ℕ) (text : List ℕ) → length text ≤ n → at + size text ≡ total → Found total text
  found_from zero total at text h e = found_behind zero total at text h e (λ behind to lt f. absurd (omega (arith, lt)))
  found_from (suc n) total at text h e = found_behind (suc n) total at text h e (λ behind to lt f. found_from n total to behind (omega (arith, lt)) f)

  -- each text has tokens and an end of them
  pub some_tokens : (text : List ℕ) → (tokens : List Lexed) × ((end : End) × Tokens (size text) text tokens end)
  some_tokens text = let f = found_from (length text) (size text) 0 text (omega arith) (omega arith) in (f.tokens, (f.end, f.read))
