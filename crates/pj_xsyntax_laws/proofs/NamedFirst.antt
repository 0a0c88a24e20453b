-- What the tokens of a text name stands before the place where the tokens have their fault.
use Rattle.std.proofs.Common.{◌≡◌, ℕ, ◌+◌, ◌≤◌, List, drop, refl, sym, subst, arith}
use Rattle.std.proofs.Math.Seq.{drop-length}
use Rattle.pj_ll.specs.declared.parser.End as outcome
use Rattle.pj_ll.specs.declared.parser.End.TheVariants.{Whole, Stops, LeftOut, TooDeep}
use Rattle.pj_ll.specs.Outcome as terminals
use Rattle.pj_xtokens.specs.Tokens.{Lexed, Tokens}
use Rattle.pj_xtokens.specs.declared.token.End.{End}
use Rattle.pj_xderive.specs.Expressions.{IsOutcome, place_of}
use Rattle.pj_xgrammar.specs.Terminals.{numbers}
use Rattle.pj_xgrammar.specs.XPath.{greatest_nesting, xpath_grammar}
use Rattle.pj_xmeaning.specs.SoFar.{SayUpTo, left_by}
use Rattle.pj_xreadings.specs.Operands.{Operand}
use Rattle.pj_xsyntax_laws.specs.Order.{Ascend, AreBelow, positions, offset_at, offset_of_end}
use Rattle.pj_xsyntax_laws.proofs.Ordered.{InOrder, ascend, below}
use Rattle.pj_xsyntax_laws.proofs.TokenOffsets.{at, GapsStandInFront, TokensAreNotEmpty, tokens_ascend, at_place, places_ascend}
use Rattle.pj_xsyntax_laws.proofs.ReadNames.{row}

-- what is left stands at the place where the run ends
left_at : (run : outcome.End) (tokens : List Lexed) → left_by run tokens ≡ drop (place_of tokens run) tokens
left_at Whole tokens = sym (drop-length tokens)
left_at (Stops i) tokens = refl
left_at (LeftOut i) tokens = refl
left_at (TooDeep i) tokens = refl

-- of the tokens of a text, and of a run over their terminals, as far as which they say something
module _ (past_behind : GapsStandInFront) (not_empty : TokensAreNotEmpty) (total : ℕ) (text : List ℕ) (tokens : List Lexed) (end : End) (a : Operand) (read : Tokens total text tokens end)
    (run : outcome.End) (ends : terminals.IsEnd xpath_grammar (numbers tokens) greatest_nesting run) (reads : SayUpTo run tokens a) where
  said_names : InOrder (at (offset_of_end end) tokens + 1) (at (offset_of_end end) (drop (place_of tokens run) tokens)) a.names
  said_names =
      let e = offset_of_end end in
      subst (λ (xs : List Lexed). InOrder (at e tokens + 1) (at e xs) a.names) (left_at run tokens) ((row reads).read (tokens_ascend past_behind not_empty total text tokens end read)).names

  pub names_ascend : Ascend (positions a.names)
  names_ascend =
      let e = offset_of_end end in
      ascend (at e tokens + 1) (at e (drop (place_of tokens run) tokens)) (positions a.names) said_names.ordered

  -- where the run over the terminals ends before the fault, or there
  pub names_below : ((ts : List Lexed) (fault last : outcome.End) → IsOutcome ts fault → terminals.IsEnd xpath_grammar (numbers ts) greatest_nesting last → place_of ts last ≤ place_of ts fault) →
      (fault : outcome.End) → IsOutcome tokens fault → AreBelow (offset_at tokens end (place_of tokens fault)) (positions a.names)
  names_below run_first fault is_fault =
      let e = offset_of_end end in
      let ascending = tokens_ascend past_behind not_empty total text tokens end read in
      let le = places_ascend e tokens (place_of tokens run) (place_of tokens fault) ascending (run_first tokens fault run is_fault ends) in
      let is = at_place end tokens (place_of tokens fault) in
      below (offset_at tokens end (place_of tokens fault)) (at e tokens + 1) (at e (drop (place_of tokens run) tokens)) (positions a.names) (omega arith) said_names.ordered
