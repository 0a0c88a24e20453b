-- What tokens say as far as they are read is what they say as far as a run over their terminals goes.
use Rattle.std.proofs.Common.{◌≡◌, ◌≢◌, ℕ, zero, suc, ◌+◌, ◌<◌, ◌≤◌, List, [], ◌∷◌, ◌++◌, length, take, drop, Some, slice_get, refl, sym, ◌∙◌, ap, subst, arith, ⊎_elim, append_assoc, length-append, length-take-le, take-append-drop}
use Rattle.std.proofs.Math.Seq.{get_or-append_seam, take-append_seam, take-suc}
use Rattle.std.proofs.lemmas.Bool.{cases_order}
use Rattle.std.proofs.lemmas.Option.{get_or_from_slice_get, slice_get_within, slice_get-get_or}
use Rattle.pj_ll.specs.declared.parser.End.{End}
use Rattle.pj_ll.specs.declared.parser.End.TheVariants.{Whole, Stops, LeftOut, TooDeep}
use Rattle.pj_ll.specs.Leads.{CanGoOn, Derives, IsLeftOut, IsSentence}
use Rattle.pj_ll.specs.Outcome.{IsEnd, IsLeftOutAt, IsTooDeepAt, LeadBehind}
use Rattle.pj_xtokens.specs.Tokens.{Lexed}
use Rattle.pj_xgrammar.specs.declared.terminal.Behind.TheVariants as b
use Rattle.pj_xgrammar.specs.Terminals.{numbers}
use Rattle.pj_xgrammar.specs.XPath.{greatest_nesting, xpath_grammar}
use Rattle.pj_xreadings.specs.Operands.{Operand}
use Rattle.pj_xmeaning.specs.Begun.{NestsTooDeep, SayTo}
use Rattle.pj_xmeaning.specs.Reach.{Plain}
use Rattle.pj_xmeaning.specs.Reads.{AreRead}
use Rattle.pj_xmeaning.specs.SoFar.{SayUpTo}
use Rattle.pj_xparse.specs.Outcomes.{IsWhole, ReadingEnds, SaySoFar, beginning, whole}
use Rattle.pj_xparse.proofs.Runs.{length_numbers}

-- ---- terminals

-- terminals that begin a sentence, before those of them behind a place
begins_shorter : (j : ℕ) (ts : List ℕ) → CanGoOn xpath_grammar ts → CanGoOn xpath_grammar (take j ts)
begins_shorter j ts (more, sentence) =
    let cut : ts ++ more ≡ take j ts ++ (drop j ts ++ more) = ap (λ l. l ++ more) (sym (take-append-drop j ts)) ∙ append_assoc (take j ts) (drop j ts) more in
    (drop j ts ++ more, subst (IsSentence xpath_grammar) cut sentence)

take_twice : (j i : ℕ) (ts : List ℕ) → j ≤ i → take j (take i ts) ≡ take j ts
take_twice zero i ts le = refl
take_twice (suc j) zero ts le = absurd (omega arith)
take_twice (suc j) (suc i) [] le = refl
take_twice (suc j) (suc i) (t ∷ ts) le = ap (λ l. t ∷ l) (take_twice j i ts (omega arith))

-- what is left out at a place is left out there, whatever stands behind the terminal
left_out_before : (ts more : List ℕ) (i : ℕ) → IsLeftOutAt xpath_grammar ts i → IsLeftOutAt xpath_grammar (take (i + 1) ts ++ more) i
left_out_before ts more i (t, at, leads) =
    let us = take i ts in
    let within = slice_get_within ts i t at in
    let count : length us ≡ i = length-take-le i ts (omega arith) in
    let next : i + 1 ≡ suc i = omega arith in
    let front : take (i + 1) ts ≡ us ++ t ∷ [] = ap (λ n. take n ts) next ∙ take-suc ts i 0 within ∙ ap (λ k. us ++ k ∷ []) (get_or_from_slice_get ts i t 0 at) in
    let all : take (i + 1) ts ++ more ≡ us ++ t ∷ more = ap (λ l. l ++ more) front ∙ append_assoc us (t ∷ []) more in
    let sum = length-append us (t ∷ more) in
    let there : slice_get (us ++ t ∷ more) (length us) ≡ Some t = slice_get-get_or (us ++ t ∷ more) (length us) 0 (omega arith) ∙ ap Some (get_or-append_seam us t more 0) in
    let before : take (length us) (us ++ t ∷ more) ≡ us = take-append_seam us (t ∷ more) in
    subst (λ l. IsLeftOutAt xpath_grammar l i) (sym all) (
      t,
      subst (λ n. slice_get (us ++ t ∷ more) n ≡ Some t) count there,
      subst (λ l. IsLeftOut xpath_grammar l t) (sym (subst (λ n. take n (us ++ t ∷ more) ≡ us) count before)) leads,
    )

-- where productions lead behind the terminals before a place just where these begin a sentence, and where something is said up to there; where too much is
-- open just where that is read, and nothing is left out of what is derived; where tokens are read whole just where their run is; and where a run has one end
module _ (leads : (before : List ℕ) → CanGoOn xpath_grammar before → (productions : List ℕ) × LeadBehind xpath_grammar before productions)
    (begins : (before productions : List ℕ) → LeadBehind xpath_grammar before productions → CanGoOn xpath_grammar before)
    (says : (tokens : List Lexed) (i : ℕ) (productions : List ℕ) → i ≤ length tokens → LeadBehind xpath_grammar (take i (numbers tokens)) productions → (a : Operand) × SayTo Plain tokens i a)
    (led : (tokens : List Lexed) (i : ℕ) (a : Operand) → i ≤ length tokens → SayTo Plain tokens i a → (productions : List ℕ) × LeadBehind xpath_grammar (take i (numbers tokens)) productions)
    (deep : (tokens : List Lexed) (i : ℕ) → i ≤ length tokens → IsTooDeepAt xpath_grammar (numbers tokens) greatest_nesting i → NestsTooDeep tokens i)
    (open_ : (tokens : List Lexed) (i : ℕ) → i ≤ length tokens → NestsTooDeep tokens i → IsTooDeepAt xpath_grammar (numbers tokens) greatest_nesting i)
    (not_left_out : (terminals productions : List ℕ) (i : ℕ) → Derives xpath_grammar terminals productions → IsLeftOutAt xpath_grammar terminals i → ⊥)
    (run_whole : (tokens : List Lexed) (a : Operand) → AreRead tokens a → IsEnd xpath_grammar (numbers tokens) greatest_nesting Whole)
    (read_whole : (tokens : List Lexed) → IsEnd xpath_grammar (numbers tokens) greatest_nesting Whole → (a : Operand) × AreRead tokens a)
    (one_end : (ts : List ℕ) (a b : End) → IsEnd xpath_grammar ts greatest_nesting a → IsEnd xpath_grammar ts greatest_nesting b → a ≡ b)
    (tokens : List Lexed) where
  abbrev ts : List ℕ
  ts = numbers tokens

  count : length ts ≡ length tokens
  count = length_numbers b.End tokens

  goes_to : (i : ℕ) (a : Operand) → i ≤ length tokens → SayTo Plain tokens i a → CanGoOn xpath_grammar (take i ts)
  goes_to i a within reads = let (ps, l) = led tokens i a within reads in begins (take i ts) ps l

  said_to : (i : ℕ) → i ≤ length tokens → CanGoOn xpath_grammar (take i ts) → (a : Operand) × SayTo Plain tokens i a
  said_to i within goes = let (ps, l) = leads (take i ts) goes in says tokens i ps within l

  -- ---- where a run ends, there the reading ends

  stops_ends : (i : ℕ) → IsEnd xpath_grammar ts greatest_nesting (Stops i) → ReadingEnds tokens i
  stops_ends i it =
      let all = count in
      let within = it.within in
      record {
        within = omega arith;
        not_too_deep = λ j lt d. it.clear.not_too_deep j (omega arith) (open_ tokens j (omega arith) d);
        no_further = λ lt shallow a reads. it.terminal (omega arith) (goes_to (i + 1) a (omega arith) reads);
      }

  left_out_ends : (i : ℕ) → IsEnd xpath_grammar ts greatest_nesting (LeftOut i) → ReadingEnds tokens i
  left_out_ends i it =
      let all = count in
      let within = slice_get_within ts i it.left_out.0 it.left_out.1 in
      record {
        within = omega arith;
        not_too_deep = λ j lt d. it.clear.not_too_deep j lt (open_ tokens j (omega arith) d);
        no_further = λ lt shallow a reads.
            let (more, (ps, d)) = goes_to (i + 1) a (omega arith) reads in
            not_left_out (take (i + 1) ts ++ more) ps i d (left_out_before ts more i it.left_out);
      }

  deep_ends : (i : ℕ) → IsEnd xpath_grammar ts greatest_nesting (TooDeep i) → ReadingEnds tokens i
  deep_ends i it =
      let all = count in
      let within = it.within in
      record {
        within = omega arith;
        not_too_deep = λ j lt d. it.clear.not_too_deep j lt (open_ tokens j (omega arith) d);
        no_further = λ lt shallow a reads. shallow (deep tokens i (omega arith) it.deep);
      }

  -- where a run is not whole, neither are the tokens
  not_whole : (end : End) → end ≢ Whole → IsEnd xpath_grammar ts greatest_nesting end → ¬ IsWhole tokens
  not_whole end other it (a, reads) = other (one_end ts end Whole it (run_whole tokens a reads))

  pub run_says : (end : End) (a : Operand) → IsEnd xpath_grammar (numbers tokens) greatest_nesting end → SayUpTo end tokens a → SaySoFar tokens a
  run_says Whole a it reads = whole reads
  run_says (Stops i) a it reads = beginning i (not_whole (Stops i) (λ e. let z = e in cc) it) reads (stops_ends i it)
  run_says (LeftOut i) a it reads = beginning i (not_whole (LeftOut i) (λ e. let z = e in cc) it) reads (left_out_ends i it)
  run_says (TooDeep i) a it reads = beginning i (not_whole (TooDeep i) (λ e. let z = e in cc) it) reads (deep_ends i it)

  -- ---- a reading ends at one place

  not_before : (i k : ℕ) (b : Operand) → i < k → ReadingEnds tokens i → ReadingEnds tokens k → SayTo Plain tokens k b → ⊥
  not_before i k b lt here there reads =
      let within = there.within in
      let goes : CanGoOn xpath_grammar (take (i + 1) ts) =
      subst (CanGoOn xpath_grammar) (take_twice (i + 1) k ts (omega arith)) (begins_shorter (i + 1) (take k ts) (goes_to k b within reads)) in
      let (c, said) = said_to (i + 1) (omega arith) goes in
      here.no_further (omega arith) (there.not_too_deep i lt) c said

  one_place : (i k : ℕ) (a b : Operand) → ReadingEnds tokens i → SayTo Plain tokens i a → ReadingEnds tokens k → SayTo Plain tokens k b → i ≡ k
  one_place i k a b here reads there also =
      ⊎_elim (λ e. e)
      (⊎_elim (λ (lt : i < k). absurd (not_before i k b lt here there also)) (λ (lt : k < i). absurd (not_before k i a lt there here reads)))
      (cases_order i k)

  -- ---- where the reading ends, there a run ends

  -- what is said up to a place, and that the reading ends there
  record Read (i : ℕ) : Type 0 where
    said : Operand
    reads : SayTo Plain tokens i said
    ends : ReadingEnds tokens i

  read_at : (i : ℕ) → ReadingEnds tokens i → CanGoOn xpath_grammar (take i ts) → Read i
  read_at i ends goes = let (a, reads) = said_to i ends.within goes in record { said = a; reads = reads; ends = ends }

  pub said_by_run : ((ts : List ℕ) → (end : End) × IsEnd xpath_grammar ts greatest_nesting end) → (a : Operand) → SaySoFar tokens a →
      (end : End) × IsEnd xpath_grammar (numbers tokens) greatest_nesting end × SayUpTo end tokens a
  said_by_run some_end a (whole reads) = (Whole, run_whole tokens a reads, reads)
  said_by_run some_end a (beginning i none reads ends) = let (end, it) = some_end ts in by_end end it
    where
      at : (k : ℕ) → Read k → SayTo Plain tokens k a
      at k r = subst (λ n. SayTo Plain tokens n a) (one_place i k a r.said ends reads r.ends r.reads) reads

      by_end : (end : End) → IsEnd xpath_grammar (numbers tokens) greatest_nesting end → (end : End) × IsEnd xpath_grammar (numbers tokens) greatest_nesting end × SayUpTo end tokens a
      by_end Whole it = absurd (none (read_whole tokens it))
      by_end (Stops k) it = (Stops k, it, at k (read_at k (stops_ends k it) it.before))
      by_end (LeftOut k) it = (LeftOut k, it, at k (read_at k (left_out_ends k it) it.before))
      by_end (TooDeep k) it = (TooDeep k, it, at k (read_at k (deep_ends k it) it.before))
