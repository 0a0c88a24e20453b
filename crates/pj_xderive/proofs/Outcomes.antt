-- From how a run of the parser over terminals ends to the outcome for the tokens.
use Rattle.std.proofs.Common.{◌≡◌, ℕ, zero, suc, ◌+◌, ◌<◌, ◌≤◌, ◌⊎◌, inl, inr, ⊎_elim, Bool, true, false, cond, List, [], ◌∷◌, ◌++◌, map, length, take, get_or, Option, None, Some, refl, sym, ap, subst, ◌∙◌, append_assoc, arith}
use Rattle.std.specs.Prelude.{nat_eq, slice_get}
use Rattle.std.proofs.lemmas.List.{length-append}
use Rattle.std.proofs.lemmas.Bool.{cases_lt, false≢true}
use Rattle.std.specs.Option.{option_map}
use Rattle.std.proofs.lemmas.Option.{slice_get_within, slice_get-map, slice_get-get_or}
use Rattle.std.proofs.Math.Seq.{take-append_seam, take-append-add}
use Rattle.pj_ll.specs.declared.parser.End.{End}
use Rattle.pj_ll.specs.declared.parser.End.TheVariants as e
use Rattle.pj_ll.specs.Leads.{IsSentence}
use Rattle.pj_ll.specs.Outcome as ll
use Rattle.pj_ll.specs.Composing.{behind_leads}
use Rattle.pj_xtokens.specs.Tokens.{Lexed}
use Rattle.pj_xtokens.specs.declared.token.TokenKind.{TokenKind}
use Rattle.pj_xtokens.specs.declared.token.TokenKind.TheVariants as kinds
use Rattle.pj_xgrammar.specs.declared.terminal.Behind.{Behind}
use Rattle.pj_xgrammar.specs.declared.terminal.Behind.TheVariants as b
use Rattle.pj_xgrammar.specs.Terminals.{begins_step, first_behind, behind_of, kind_behind, numbers_before, numbers}
use Rattle.pj_xgrammar.specs.XPath.{xpath_grammar}
use Rattle.pj_xgrammar.specs.Standing.{is_left_out_kind, is_left_out_token, stands_apart}
use Rattle.pj_xderive.specs.Expressions.{CanGoOn, IsWhole, CannotFollow, IsLeftOutFirst, IsTooDeepFirst, IsLeftOut, IsTooDeep, AreClear, IsOutcome, LeadTo}
use Rattle.pj_xderive.specs.Following.{IsReadAt, CouldFollow, HasOutcome}
use Rattle.pj_xderive.proofs.Reading.{number, numbers_append, is_calm, keep, keeps}
use Rattle.pj_xderive.proofs.Widening.{reached}
use Rattle.pj_xderive.proofs.Lifting.{Goes, numbers_at, up, down, lifted}

-- ---- places

pub length_numbers : (end : Behind) (xs : List Lexed) → length (numbers_before end xs) ≡ length xs
length_numbers end [] = refl
length_numbers end (x ∷ xs) = ap suc (length_numbers end xs)

take_all_of : (us vs : List ℕ) (i : ℕ) → length us ≡ i → take i (us ++ vs) ≡ us
take_all_of us vs i is = ap (λ n. take n (us ++ vs)) (sym is) ∙ take-append_seam us vs

take_one_more : {A : Type 0} (xs : List A) (x : A) (ys : List A) (i : ℕ) → length xs ≡ i → take (i + 1) (xs ++ x ∷ ys) ≡ xs ++ x ∷ []
take_one_more xs x ys i is = ap (λ n. take (n + 1) (xs ++ x ∷ ys)) (sym is) ∙ take-append-add xs (x ∷ ys) 1

-- the tokens before a place and those from there on
record Cut (tokens : List Lexed) (i : ℕ) : Type 0 where
  before : List Lexed
  behind : List Lexed
  is : tokens ≡ before ++ behind
  at : length before ≡ i

cut : (tokens : List Lexed) (i : ℕ) → i ≤ length tokens → Cut tokens i
cut tokens zero le = record { before = []; behind = tokens; is = refl; at = refl }
cut [] (suc i) le = absurd (omega arith)
cut (x ∷ tokens) (suc i) le =
    let c = cut tokens i (omega arith) in
    record { before = x ∷ c.before; behind = c.behind; is = ap (λ l. x ∷ l) c.is; at = ap suc c.at }

cut_take : (tokens : List Lexed) (i : ℕ) (c : Cut tokens i) → take i tokens ≡ c.before
cut_take tokens i c =
    ap (take i) c.is ∙ ap (λ n. take n (c.before ++ c.behind)) (sym c.at) ∙ take-append_seam c.before c.behind

cut_numbers : (tokens : List Lexed) (i : ℕ) (c : Cut tokens i) → take i (numbers tokens) ≡ numbers_before (first_behind b.End c.behind) c.before
cut_numbers tokens i c =
    ap (λ l. take i (numbers l)) c.is ∙ ap (take i) (numbers_append b.End c.before c.behind)
    ∙ take_all_of (numbers_before (first_behind b.End c.behind) c.before) (numbers c.behind) i (length_numbers (first_behind b.End c.behind) c.before ∙ c.at)

-- what the terminals before a place say of the tokens
before_goes : (tokens : List Lexed) (i : ℕ) → i ≤ length tokens → Goes (take i (numbers tokens)) → CanGoOn (take i tokens)
before_goes tokens i le go =
    let c = cut tokens i le in
    subst CanGoOn (sym (cut_take tokens i c)) (lifted c.before (first_behind b.End c.behind) (subst Goes (cut_numbers tokens i c) go))

-- ---- outcomes that are those of the terminals

pub whole : (tokens : List Lexed) → ll.IsWhole xpath_grammar (numbers tokens) 200 → IsWhole tokens
whole tokens w = record { expression = w.sentence; clear = subst (λ n. AreClear tokens (n + 1)) (length_numbers b.End tokens) w.clear }

left_out_within : (tokens : List Lexed) (i : ℕ) → ll.IsLeftOutFirst xpath_grammar (numbers tokens) 200 i → i < length tokens
left_out_within tokens i o =
    let (t, at, it) = o.left_out in
    subst (λ n. i < n) (length_numbers b.End tokens) (slice_get_within (numbers tokens) i t at)

pub left_out : (tokens : List Lexed) (i : ℕ) → ll.IsLeftOutFirst xpath_grammar (numbers tokens) 200 i → (IsTooDeep tokens i → stands_apart tokens i ≡ false) →
    IsLeftOutFirst tokens i
left_out tokens i o reached =
    let within = left_out_within tokens i o in
    record { before = before_goes tokens i (omega arith) o.before; left_out = inl o.left_out; reached = reached; clear = o.clear }

-- what is left out stands behind white space or a comment, before which too much is open
pub deep_before : (tokens : List Lexed) (i : ℕ) → ll.IsLeftOutFirst xpath_grammar (numbers tokens) 200 i → IsTooDeep tokens i → stands_apart tokens i ≡ true →
    IsTooDeepFirst tokens i
deep_before tokens i o deep apart =
    let within = left_out_within tokens i o in
    record { within = omega arith; before = before_goes tokens i (omega arith) o.before; deep = deep; reached = λ _. apart; clear = o.clear }

-- nothing is left out there but a number, if one stands there behind white space or a comment
pub too_deep : (tokens : List Lexed) (i : ℕ) → ll.IsTooDeepFirst xpath_grammar (numbers tokens) 200 i →
    (is_left_out_token (slice_get tokens i) ≡ true → stands_apart tokens i ≡ true) → IsTooDeepFirst tokens i
too_deep tokens i o number_apart =
    let within : i ≤ length tokens = subst (λ n. i ≤ n) (length_numbers b.End tokens) o.within in
    record { within = within; before = before_goes tokens i within o.before; deep = o.deep; reached = λ out. apart out; clear = o.clear }
  where
    apart : IsLeftOut tokens i → stands_apart tokens i ≡ true
    apart (inl out) = absurd (o.here out)
    apart (inr is) = number_apart is

-- a number stands there right behind the token before it
pub number_where_deep : (tokens : List Lexed) (i : ℕ) → ll.IsTooDeepFirst xpath_grammar (numbers tokens) 200 i → is_left_out_token (slice_get tokens i) ≡ true →
    stands_apart tokens i ≡ false → IsLeftOutFirst tokens i
number_where_deep tokens i o is joined =
    let within : i ≤ length tokens = subst (λ n. i ≤ n) (length_numbers b.End tokens) o.within in
    record { before = before_goes tokens i within o.before; left_out = inr is; reached = λ _. joined; clear = o.clear }

-- a number stands where the run stopped
pub number_where_stopped : (tokens : List Lexed) (i : ℕ) → ll.StopsAt xpath_grammar (numbers tokens) 200 i → is_left_out_token (slice_get tokens i) ≡ true →
    IsLeftOutFirst tokens i
number_where_stopped tokens i o is =
    let within : i ≤ length tokens = subst (λ n. i ≤ n) (length_numbers b.End tokens) o.within in
    record {
      before = before_goes tokens i within o.before;
      left_out = inr is;
      reached = λ deep. absurd (o.clear.not_too_deep i (omega arith) deep);
      clear = record { not_left_out = λ j lt. o.clear.not_left_out j (omega arith); not_too_deep = λ j lt. o.clear.not_too_deep j (omega arith) };
    }

pub no_token_there : (tokens : List Lexed) (i : ℕ) → length tokens ≤ i → slice_get tokens i ≡ None
no_token_there [] i past = refl
no_token_there (x ∷ tokens) zero past = absurd (omega arith)
no_token_there (x ∷ tokens) (suc i) past = no_token_there tokens i (omega arith)

-- nothing is left out where the run stopped, if no number stands there
kept_where_stopped : (tokens : List Lexed) (i : ℕ) → ll.StopsAt xpath_grammar (numbers tokens) 200 i → is_left_out_token (slice_get tokens i) ≡ false → IsLeftOut tokens i → ⊥
kept_where_stopped tokens i o plain (inl out) = o.clear.not_left_out i (omega arith) out
kept_where_stopped tokens i o plain (inr is) = false≢true (sym plain ∙ is)

-- the end cannot follow
pub stops_at_end : (tokens : List Lexed) (i : ℕ) → ll.StopsAt xpath_grammar (numbers tokens) 200 i → length tokens ≤ i → CannotFollow tokens i
stops_at_end tokens i o past =
    let count = length_numbers b.End tokens in
    let within : i ≤ length tokens = subst (λ n. i ≤ n) count o.within in
    record {
      within = within;
      before = before_goes tokens i within o.before;
      token = λ lt. absurd (omega arith);
      at_end = λ is sentence. o.at_end (is ∙ sym count) sentence;
      kept = λ out. kept_where_stopped tokens i o (ap is_left_out_token (no_token_there tokens i past)) out;
      clear = o.clear;
    }

-- ---- a token that cannot follow

record Place (tokens : List Lexed) (i : ℕ) (x : Lexed) : Type 0 where
  before : List Lexed
  behind : List Lexed
  is : tokens ≡ before ++ x ∷ behind
  at : length before ≡ i

some_one : {A : Type 0} {x y : A} → Some x ≡ Some y → x ≡ y
some_one e = cc

place : (tokens : List Lexed) (i : ℕ) (x : Lexed) → slice_get tokens i ≡ Some x → Place tokens i x
place [] i x there = absurd (let z = there in cc)
place (y ∷ tokens) zero x there = record { before = []; behind = tokens; is = ap (λ z. z ∷ tokens) (some_one there); at = refl }
place (y ∷ tokens) (suc i) x there =
    let p = place tokens i x there in
    record { before = y ∷ p.before; behind = p.behind; is = ap (λ l. y ∷ l) p.is; at = ap suc p.at }

behind_of_front : (before : List Lexed) (x : Lexed) (behind : List Lexed) (i : ℕ) → length before ≡ i → slice_get (before ++ x ∷ behind) (suc i) ≡ slice_get behind 0
behind_of_front [] x behind zero is = refl
behind_of_front [] x behind (suc i) is = absurd (omega arith)
behind_of_front (y ∷ before) x behind zero is = absurd (omega arith)
behind_of_front (y ∷ before) x behind (suc i) is = behind_of_front before x behind i (omega arith)

-- a number is a literal for the token before it
literal_behind : (kind : TokenKind) (text : List ℕ) → is_left_out_kind kind ≡ true → kind_behind kind text ≡ b.Literal
literal_behind kinds.Decimal text is = refl
literal_behind kinds.Double text is = refl
literal_behind kinds.Name text is = absurd (false≢true is)
literal_behind kinds.Integer text is = absurd (false≢true is)
literal_behind kinds.String text is = absurd (false≢true is)
literal_behind (kinds.Sign s) text is = absurd (false≢true is)

-- before which that is what it is before an ordinary name
literal_keeps : (n : ℕ) → keeps n b.Literal ≡ true
literal_keeps n = by (nat_eq n 0) (nat_eq n 15)
  where
    by : (c d : Bool) → cond c (is_calm b.Literal) (cond d (begins_step b.Literal) true) ≡ true
    by true d = refl
    by false true = refl
    by false false = refl

module _ (tokens : List Lexed) (i : ℕ) (x : Lexed) (p : Place tokens i x) where
  us : List ℕ
  us = numbers_before (behind_of x) p.before

  here : ℕ
  here = number x (first_behind b.End p.behind)

  count_us : length us ≡ i
  unfolding us
  count_us = length_numbers (behind_of x) p.before ∙ p.at

  all_numbers : numbers tokens ≡ us ++ here ∷ numbers p.behind
  unfolding us here
  all_numbers = ap numbers p.is ∙ numbers_at p.before x p.behind

  numbers_to : take i (numbers tokens) ≡ us
  numbers_to = ap (take i) all_numbers ∙ take_all_of us (here ∷ numbers p.behind) i count_us

  numbers_past : take (i + 1) (numbers tokens) ≡ us ++ here ∷ []
  numbers_past = ap (take (i + 1)) all_numbers ∙ take_one_more us here (numbers p.behind) i count_us

  tokens_past : take (i + 1) tokens ≡ p.before ++ x ∷ []
  tokens_past = ap (take (i + 1)) p.is ∙ take_one_more p.before x p.behind i p.at

  is_within : i + 1 ≤ length tokens
  is_within =
      let count : length tokens ≡ length (p.before ++ x ∷ p.behind) = ap length p.is in
      let parts : length (p.before ++ x ∷ p.behind) ≡ length p.before + suc (length p.behind) = length-append p.before (x ∷ p.behind) in
      let at = p.at in
      omega arith

  -- the token could not follow whatever stood behind it
  stops_here : ll.StopsAt xpath_grammar (numbers tokens) 200 i → is_left_out_token (slice_get tokens i) ≡ false → (Goes (take i (numbers tokens) ++ number x b.Name ∷ []) → ⊥) →
      CannotFollow tokens i
  unfolding us
  stops_here o plain no_other =
      let within = is_within in
      record {
        within = omega arith;
        before = before_goes tokens i (omega arith) o.before;
        token = λ lt go. no_other (subst (λ l. Goes (l ++ number x b.Name ∷ [])) (sym numbers_to) (down p.before x (subst CanGoOn tokens_past go)));
        at_end = λ is. absurd (omega arith);
        kept = λ out. kept_where_stopped tokens i o plain out;
        clear = o.clear;
      }

  -- the token could follow, but not before what stands behind it
  not_before : ll.StopsAt xpath_grammar (numbers tokens) 200 i → Goes (us ++ here ∷ []) → ⊥
  not_before o go =
      let within = is_within in
      let count = length_numbers b.End tokens in
      o.terminal (omega arith) (subst Goes (sym numbers_past) go)

  no_token : ll.StopsAt xpath_grammar (numbers tokens) 200 i → (behind : List Lexed) → p.behind ≡ behind → i + 1 < length tokens → CanGoOn (take (i + 1 + 1) tokens) → ⊥
  unfolding us here
  no_token o [] none lt go =
      let count : length tokens ≡ length (p.before ++ x ∷ []) = ap length p.is ∙ ap (λ l. length (p.before ++ x ∷ l)) none in
      let parts : length (p.before ++ x ∷ []) ≡ length p.before + 1 = length-append p.before (x ∷ []) in
      let at = p.at in
      absurd (omega arith)
  no_token o (y ∷ behind) some lt (more, sentence) =
      let longer : length (p.before ++ x ∷ []) ≡ i + 1 = length-append p.before (x ∷ []) ∙ ap (λ n. n + 1) p.at in
      let all : tokens ≡ (p.before ++ x ∷ []) ++ y ∷ behind = p.is ∙ ap (λ l. p.before ++ x ∷ l) some ∙ sym (append_assoc p.before (x ∷ []) (y ∷ behind)) in
      let first : take (i + 1 + 1) tokens ≡ (p.before ++ x ∷ []) ++ y ∷ [] = ap (take (i + 1 + 1)) all ∙ take_one_more (p.before ++ x ∷ []) y behind (i + 1) longer in
      let flat : ((p.before ++ x ∷ []) ++ y ∷ []) ++ more ≡ p.before ++ x ∷ (y ∷ more) =
      append_assoc (p.before ++ x ∷ []) (y ∷ []) more ∙ append_assoc p.before (x ∷ []) (y ∷ more) in
      let read : numbers (take (i + 1 + 1) tokens ++ more) ≡ (us ++ number x (behind_of y) ∷ []) ++ numbers (y ∷ more) =
      ap (λ l. numbers (l ++ more)) first ∙ ap numbers flat ∙ numbers_at p.before x (y ∷ more)
      ∙ sym (append_assoc us (number x (behind_of y) ∷ []) (numbers (y ∷ more))) in
      let same : here ≡ number x (behind_of y) = ap (λ l. number x (first_behind b.End l)) some in
      not_before o (subst (λ t. Goes (us ++ t ∷ [])) (sym same) (numbers (y ∷ more), subst (IsSentence xpath_grammar) read sentence))

  clear_further : ll.StopsAt xpath_grammar (numbers tokens) 200 i → AreClear tokens (i + 1 + 1)
  clear_further o = record {
    not_left_out = λ j lt out. ⊎_elim (λ (below : j < i + 1). o.clear.not_left_out j below out) (λ (is : j ≡ i + 1). left_out_no j is out) (below_or j lt);
    not_too_deep = λ j lt deep. ⊎_elim (λ (below : j < i + 1). o.clear.not_too_deep j below deep) (λ (is : j ≡ i + 1). too_deep_no j is deep) (below_or j lt);
  }
    where
      below_or : (j : ℕ) → j < i + 1 + 1 → (j < i + 1) ⊎ (j ≡ i + 1)
      below_or j lt = ⊎_elim (λ (h : j < i + 1). inl h) (λ (h : i + 1 ≤ j). inr (let e : j ≡ i + 1 = omega arith in e)) (cases_lt j (i + 1))

      left_out_no : (j : ℕ) → j ≡ i + 1 → ll.IsLeftOutAt xpath_grammar (numbers tokens) j → ⊥
      left_out_no j is (t, at, (ps, (ss, d))) =
          not_before o (subst Goes (ap (λ n. take n (numbers tokens)) is ∙ numbers_past) (reached (take j (numbers tokens)) ps _ d))

      too_deep_no : (j : ℕ) → j ≡ i + 1 → IsTooDeep tokens j → ⊥
      too_deep_no j is (ps, (ss, stands, deeper)) =
          not_before o (subst Goes (ap (λ n. take n (numbers tokens)) is ∙ numbers_past) (reached (take j (numbers tokens)) ps ss (behind_leads xpath_grammar stands)))

  token_behind : slice_get tokens (i + 1) ≡ slice_get p.behind 0
  token_behind =
      let next : i + 1 ≡ suc i = omega arith in
      ap (slice_get tokens) next ∙ ap (λ l. slice_get l (suc i)) p.is ∙ behind_of_front p.before x p.behind i p.at

  -- a number behind the token would leave it as it is before an ordinary name
  no_number : ll.StopsAt xpath_grammar (numbers tokens) 200 i → Goes (us ++ number x b.Name ∷ []) → (behind : List Lexed) → p.behind ≡ behind →
      is_left_out_token (slice_get behind 0) ≡ true → ⊥
  unfolding us here
  no_number o other [] none is = false≢true is
  no_number o other (y ∷ behind) some is =
      let literal : behind_of y ≡ b.Literal = literal_behind y.kind y.text is in
      let same : number x b.Name ≡ here = sym (keep x b.Literal (literal_keeps (number x b.Name))) ∙ ap (number x) (sym literal) ∙ ap (λ l. number x (first_behind b.End l)) (sym some) in
      not_before o (subst (λ t. Goes (us ++ t ∷ [])) same other)

  kept_behind : ll.StopsAt xpath_grammar (numbers tokens) 200 i → Goes (us ++ number x b.Name ∷ []) → IsLeftOut tokens (i + 1) → ⊥
  kept_behind o other (inl out) = (clear_further o).not_left_out (i + 1) (omega arith) out
  kept_behind o other (inr is) = no_number o other p.behind refl (ap is_left_out_token (sym token_behind) ∙ is)

  stops_behind : ll.StopsAt xpath_grammar (numbers tokens) 200 i → Goes (take i (numbers tokens) ++ number x b.Name ∷ []) → CannotFollow tokens (i + 1)
  unfolding us
  stops_behind o other =
      record {
        within = is_within;
        before = subst CanGoOn (sym tokens_past) (up p.before x (subst (λ l. Goes (l ++ number x b.Name ∷ [])) numbers_to other));
        token = λ lt go. no_token o p.behind refl lt go;
        at_end = λ is sentence. not_before o (
          numbers p.behind,
          subst (IsSentence xpath_grammar) (all_numbers ∙ sym (append_assoc us (here ∷ []) (numbers p.behind))) sentence,
        );
        kept = λ out. kept_behind o (subst (λ l. Goes (l ++ number x b.Name ∷ [])) numbers_to other) out;
        clear = clear_further o;
      }

-- ---- the outcome that is given

pub stopped_here : (tokens : List Lexed) (i : ℕ) (x : Lexed) → slice_get tokens i ≡ Some x → ll.StopsAt xpath_grammar (numbers tokens) 200 i →
    is_left_out_kind x.kind ≡ false → (CouldFollow (numbers tokens) i x → ⊥) → CannotFollow tokens i
stopped_here tokens i x at o plain other = stops_here tokens i x (place tokens i x at) o (ap is_left_out_token at ∙ plain) other

pub stopped_behind : (tokens : List Lexed) (i : ℕ) (x : Lexed) → slice_get tokens i ≡ Some x → ll.StopsAt xpath_grammar (numbers tokens) 200 i →
    CouldFollow (numbers tokens) i x → CannotFollow tokens (i + 1)
stopped_behind tokens i x at o could = stops_behind tokens i x (place tokens i x at) o could

-- a token is read before what stands behind it
pub read_at : (tokens : List Lexed) (i : ℕ) (x : Lexed) → slice_get tokens i ≡ Some x → IsReadAt (numbers tokens) i x
read_at [] i x at = absurd (let z = at in cc)
read_at (y ∷ tokens) zero x at = (first_behind b.End tokens, ap (λ o. read_of o) at)
  where
    read_of : Option Lexed → Option ℕ
    read_of None = None
    read_of (Some z) = Some (number z (first_behind b.End tokens))
read_at (y ∷ tokens) (suc i) x at = read_at tokens i x at

-- ---- the productions that lead to it

-- those of the run, where it is that of the run
same_leads : (tokens : List Lexed) (ps : List ℕ) (end : End) → ll.LeadTo xpath_grammar (numbers tokens) ps end → LeadTo tokens ps end
same_leads tokens ps e.Whole d = d
same_leads tokens ps (e.Stops i) d = (i, omega arith, omega arith, d)
same_leads tokens ps (e.LeftOut i) d = d
same_leads tokens ps (e.TooDeep i) d = d

as_run : (tokens : List Lexed) (end : End) → IsOutcome tokens end → HasOutcome tokens end end
as_run tokens end is = record { is = is; leads = λ ps d. same_leads tokens ps end d }

pub of_whole : (tokens : List Lexed) → ll.IsEnd xpath_grammar (numbers tokens) 200 e.Whole → HasOutcome tokens e.Whole e.Whole
of_whole tokens o = as_run tokens e.Whole (whole tokens o)

module _ (tokens : List Lexed) (i : ℕ) where
  pub of_too_deep : ll.IsTooDeepFirst xpath_grammar (numbers tokens) 200 i → (is_left_out_token (slice_get tokens i) ≡ true → stands_apart tokens i ≡ true) →
      HasOutcome tokens (e.TooDeep i) (e.TooDeep i)
  of_too_deep o apart = as_run tokens (e.TooDeep i) (too_deep tokens i o apart)

  pub of_too_deep_number : ll.IsTooDeepFirst xpath_grammar (numbers tokens) 200 i → is_left_out_token (slice_get tokens i) ≡ true → stands_apart tokens i ≡ false →
      HasOutcome tokens (e.TooDeep i) (e.LeftOut i)
  of_too_deep_number o is joined = record { is = number_where_deep tokens i o is joined; leads = λ ps d. d }

  pub of_stop_number : (x : Lexed) → slice_get tokens i ≡ Some x → ll.StopsAt xpath_grammar (numbers tokens) 200 i → is_left_out_kind x.kind ≡ true →
      HasOutcome tokens (e.Stops i) (e.LeftOut i)
  of_stop_number x at o is = record { is = number_where_stopped tokens i o (ap is_left_out_token at ∙ is); leads = λ ps d. d }

  pub of_stop_at_end : ll.StopsAt xpath_grammar (numbers tokens) 200 i → length tokens ≤ i → HasOutcome tokens (e.Stops i) (e.Stops i)
  of_stop_at_end o past = as_run tokens (e.Stops i) (stops_at_end tokens i o past)

  pub of_stop_here : (x : Lexed) → slice_get tokens i ≡ Some x → ll.StopsAt xpath_grammar (numbers tokens) 200 i → is_left_out_kind x.kind ≡ false →
      (CouldFollow (numbers tokens) i x → ⊥) → HasOutcome tokens (e.Stops i) (e.Stops i)
  of_stop_here x at o plain other = as_run tokens (e.Stops i) (stopped_here tokens i x at o plain other)

  pub of_stop_behind : (x : Lexed) → slice_get tokens i ≡ Some x → ll.StopsAt xpath_grammar (numbers tokens) 200 i → CouldFollow (numbers tokens) i x →
      HasOutcome tokens (e.Stops i) (e.Stops (i + 1))
  of_stop_behind x at o could = record { is = stopped_behind tokens i x at o could; leads = λ ps d. (i, omega arith, omega arith, d) }

  pub of_left_out_joined : ll.IsLeftOutFirst xpath_grammar (numbers tokens) 200 i → stands_apart tokens i ≡ false → HasOutcome tokens (e.LeftOut i) (e.LeftOut i)
  of_left_out_joined o joined = as_run tokens (e.LeftOut i) (left_out tokens i o (λ _. joined))

  pub of_left_out_shallow : ll.IsLeftOutFirst xpath_grammar (numbers tokens) 200 i → (IsTooDeep tokens i → ⊥) → HasOutcome tokens (e.LeftOut i) (e.LeftOut i)
  of_left_out_shallow o shallow = as_run tokens (e.LeftOut i) (left_out tokens i o (λ deep. absurd (shallow deep)))

  pub of_left_out_deep : ll.IsLeftOutFirst xpath_grammar (numbers tokens) 200 i → IsTooDeep tokens i → stands_apart tokens i ≡ true →
      HasOutcome tokens (e.LeftOut i) (e.TooDeep i)
  of_left_out_deep o deep apart = record { is = deep_before tokens i o deep apart; leads = λ ps d. d }

-- an element of a list that is there, mapped
pub mapped_at : {A : Type 0} (f : A → Lexed) (xs : List A) (i : ℕ) (x : A) → i < length xs → x ≡ get_or xs i x → slice_get (map f xs) i ≡ Some (f x)
mapped_at f xs i x lt is = slice_get-map f xs i ∙ ap (option_map f) (slice_get-get_or xs i x lt ∙ ap Some (sym is))
