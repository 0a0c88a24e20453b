-- Which tokens are an expression or begin one, and their first fault, by leftmost derivations and by what is read of them.
use Rattle.std.proofs.Common.{◌≡◌, ℕ, ◌+◌, ◌<◌, ◌≤◌, inl, inr, true, List, ◌++◌, length, take, Option, Some, None, slice_get, refl, sym, subst, arith, length-append}
use Rattle.std.proofs.Math.Seq.{drop-append_seam}
use Rattle.std.proofs.lemmas.Option.{slice_get_within}
use Rattle.pj_ll.specs.declared.parser.End.{End}
use Rattle.pj_ll.specs.declared.parser.End.TheVariants.{Whole, Stops, LeftOut, TooDeep}
use Rattle.pj_ll.specs.Outcome.{LeadBehind, IsLeftOutAt, IsTooDeepAt}
use Rattle.pj_xtokens.specs.Tokens.{Lexed}
use Rattle.pj_xgrammar.specs.declared.rule.Rule.TheVariants as r
use Rattle.pj_xgrammar.specs.Standing.{is_left_out_token}
use Rattle.pj_xgrammar.specs.Terminals.{numbers}
use Rattle.pj_xgrammar.specs.XPath.{greatest_nesting, xpath_grammar}
use Rattle.pj_xderive.specs.Expressions as derived
use Rattle.pj_xderive.specs.Expressions.{AreDerived, CanGoOn, LeadBehindFirst}
use Rattle.pj_xreadings.specs.Operands.{Operand}
use Rattle.pj_xmeaning.specs.Begun.{AreBegun, BeginsLeftOut, NestsTooDeep, SayTo}
use Rattle.pj_xmeaning.specs.Reach.{Plain, UpTo}
use Rattle.pj_xmeaning.specs.Reads.{AreRead, Reads}
use Rattle.pj_xparse.specs.Outcomes as read
use Rattle.pj_xparse.specs.Outcomes.{IsWhole}

-- ---- beginnings

-- no more tokens than with others behind them
within_more : (tokens more : List Lexed) → length tokens ≤ length (tokens ++ more)
within_more tokens more = omega (arith, length-append tokens more)

-- what is read before the place behind the first tokens is read before the others
pub said_before : (tokens more : List Lexed) (a : Operand) → SayTo Plain (tokens ++ more) (length tokens) a → Reads (UpTo Plain more) r.Expr 0 (tokens ++ more) more a
said_before tokens more a reads = subst (λ l. Reads (UpTo Plain l) r.Expr 0 (tokens ++ more) l a) (drop-append_seam tokens more) reads

pub before_said : (tokens more : List Lexed) (a : Operand) → Reads (UpTo Plain more) r.Expr 0 (tokens ++ more) more a → SayTo Plain (tokens ++ more) (length tokens) a
before_said tokens more a reads = subst (λ l. Reads (UpTo Plain l) r.Expr 0 (tokens ++ more) l a) (sym (drop-append_seam tokens more)) reads

pub begun_read : ((tokens : List Lexed) (i : ℕ) (productions : List ℕ) → i ≤ length tokens → LeadBehind xpath_grammar (take i (numbers tokens)) productions → (a : Operand) × SayTo Plain tokens i a) →
    ((tokens : List Lexed) → CanGoOn tokens → (more : List Lexed) × ((productions : List ℕ) × LeadBehindFirst (tokens ++ more) (length tokens) productions)) →
    (tokens : List Lexed) → CanGoOn tokens → AreBegun tokens
begun_read reads led tokens go =
    let (more, (ps, leads)) = led tokens go in
    let (a, said) = reads (tokens ++ more) (length tokens) ps (within_more tokens more) leads in
    (more, (a, said_before tokens more a said))

pub read_begun : ((tokens : List Lexed) (i : ℕ) (a : Operand) → i ≤ length tokens → SayTo Plain tokens i a → (productions : List ℕ) × LeadBehind xpath_grammar (take i (numbers tokens)) productions) →
    ((tokens more : List Lexed) (productions : List ℕ) → LeadBehindFirst (tokens ++ more) (length tokens) productions → CanGoOn tokens) →
    (tokens : List Lexed) → AreBegun tokens → CanGoOn tokens
read_begun leads begun tokens (more, (a, reads)) =
    let (ps, led) = leads (tokens ++ more) (length tokens) a (within_more tokens more) (before_said tokens more a reads) in
    begun tokens more ps led

-- ---- outcomes

-- a token stands where one is left out
number_within : (tokens : List Lexed) (i : ℕ) → is_left_out_token (slice_get tokens i) ≡ true → i < length tokens
number_within tokens i is = by_token (slice_get tokens i) refl is
  where
    by_token : (found : Option Lexed) → slice_get tokens i ≡ found → is_left_out_token found ≡ true → i < length tokens
    by_token None at is = absurd (let z = is in cc)
    by_token (Some x) at is = slice_get_within tokens i x at

-- where a beginning, a place with too much open, a construct that is left out and a whole expression are each the same by derivations and by what is read
module _ (begun : (tokens : List Lexed) → CanGoOn tokens → AreBegun tokens) (goes : (tokens : List Lexed) → AreBegun tokens → CanGoOn tokens)
    (deep : (tokens : List Lexed) (i : ℕ) → i ≤ length tokens → IsTooDeepAt xpath_grammar (numbers tokens) greatest_nesting i → NestsTooDeep tokens i)
    (open_ : (tokens : List Lexed) (i : ℕ) → i ≤ length tokens → NestsTooDeep tokens i → IsTooDeepAt xpath_grammar (numbers tokens) greatest_nesting i)
    (out : (tokens : List Lexed) (i : ℕ) → IsLeftOutAt xpath_grammar (numbers tokens) i → BeginsLeftOut tokens i)
    (left : (tokens : List Lexed) (i : ℕ) → BeginsLeftOut tokens i → IsLeftOutAt xpath_grammar (numbers tokens) i)
    (whole : (tokens : List Lexed) (productions : List ℕ) → AreDerived tokens productions → derived.AreClear tokens (length tokens + 1) → (a : Operand) × AreRead tokens a)
    (derives : (tokens : List Lexed) (a : Operand) → AreRead tokens a → (productions : List ℕ) × AreDerived tokens productions × derived.AreClear tokens (length tokens + 1))
    (tokens : List Lexed) where
  clear_read : (i : ℕ) → i ≤ length tokens + 1 → derived.AreClear tokens i → read.AreClear tokens i
  clear_read i within clear = record {
    not_left_out = λ j lt is. clear.not_left_out j lt (left tokens j is);
    not_too_deep = λ j lt is. clear.not_too_deep j lt (open_ tokens j (omega arith) is);
  }

  clear_derived : (i : ℕ) → i ≤ length tokens + 1 → read.AreClear tokens i → derived.AreClear tokens i
  clear_derived i within clear = record {
    not_left_out = λ j lt is. clear.not_left_out j lt (out tokens j is);
    not_too_deep = λ j lt is. clear.not_too_deep j lt (deep tokens j (omega arith) is);
  }

  out_read : (i : ℕ) → derived.IsLeftOut tokens i → read.IsLeftOut tokens i
  out_read i (inl is) = inl (out tokens i is)
  out_read i (inr is) = inr is

  out_derived : (i : ℕ) → read.IsLeftOut tokens i → derived.IsLeftOut tokens i
  out_derived i (inl is) = inl (left tokens i is)
  out_derived i (inr is) = inr is

  out_within : (i : ℕ) → read.IsLeftOut tokens i → i < length tokens
  out_within i (inl is) = is.0
  out_within i (inr is) = number_within tokens i is

  pub outcome_read : (end : End) → derived.IsOutcome tokens end → read.IsOutcome tokens end
  outcome_read Whole it = whole tokens it.expression.0 it.expression.1 it.clear
  outcome_read (Stops i) it =
      let within = it.within in
      record {
        within = within;
        before = begun (take i tokens) it.before;
        token = λ lt begins. it.token lt (goes (take (i + 1) tokens) begins);
        at_end = λ e w. it.at_end e (let d = derives tokens w.0 w.1 in (d.0, d.1));
        kept = λ is. it.kept (out_derived i is);
        clear = clear_read (i + 1) (omega arith) it.clear;
      }
  outcome_read (LeftOut i) it =
      let is = out_read i it.left_out in
      let within = out_within i is in
      record {
        before = begun (take i tokens) it.before;
        left_out = is;
        reached = λ d. it.reached (open_ tokens i (omega arith) d);
        clear = clear_read i (omega arith) it.clear;
      }
  outcome_read (TooDeep i) it =
      let within = it.within in
      record {
        within = within;
        before = begun (take i tokens) it.before;
        deep = deep tokens i within it.deep;
        reached = λ is. it.reached (out_derived i is);
        clear = clear_read i (omega arith) it.clear;
      }

  pub outcome_derived : (end : End) → read.IsOutcome tokens end → derived.IsOutcome tokens end
  outcome_derived Whole (a, reads) =
      let d = derives tokens a reads in
      record { expression = (d.0, d.1); clear = d.2 }
  outcome_derived (Stops i) it =
      let within = it.within in
      let clear = clear_derived (i + 1) (omega arith) it.clear in
      record {
        within = within;
        before = goes (take i tokens) it.before;
        token = λ lt can. it.token lt (begun (take (i + 1) tokens) can);
        at_end = λ e sentence. it.at_end e (whole tokens sentence.0 sentence.1 (subst (λ n. derived.AreClear tokens (n + 1)) e clear));
        kept = λ is. it.kept (out_read i is);
        clear = clear;
      }
  outcome_derived (LeftOut i) it =
      let within = out_within i it.left_out in
      record {
        before = goes (take i tokens) it.before;
        left_out = out_derived i it.left_out;
        reached = λ d. it.reached (deep tokens i (omega arith) d);
        clear = clear_derived i (omega arith) it.clear;
      }
  outcome_derived (TooDeep i) it =
      let within = it.within in
      record {
        within = within;
        before = goes (take i tokens) it.before;
        deep = open_ tokens i within it.deep;
        reached = λ is. it.reached (out_read i is);
        clear = clear_derived i (omega arith) it.clear;
      }
