-- The tokens have their fault where the run over their terminals ends, or behind it.
use Rattle.std.proofs.Common.{◌≡◌, ℕ, ◌+◌, ◌<◌, ◌≤◌, true, false, List, Some, sym, ◌∙◌, ap, inl, inr, ⊎_elim, arith}
use Rattle.std.specs.Prelude.{slice_get}
use Rattle.std.proofs.lemmas.Bool.{cases_lt, cases_Bool, false≢true}
use Rattle.std.proofs.lemmas.Option.{slice_get_cases}
use Rattle.pj_ll.specs.declared.parser.End.{End}
use Rattle.pj_ll.specs.declared.parser.End.TheVariants.{Whole, Stops, LeftOut, TooDeep}
use Rattle.pj_ll.specs.Outcome as ll
use Rattle.pj_xtokens.specs.Tokens.{Lexed}
use Rattle.pj_xgrammar.specs.Terminals.{numbers}
use Rattle.pj_xgrammar.specs.XPath.{xpath_grammar}
use Rattle.pj_xgrammar.specs.Standing.{is_left_out_kind, is_left_out_token, stands_apart}
use Rattle.pj_xderive.specs.Expressions.{IsOutcome, place_of}
use Rattle.pj_xderive.specs.Following.{CouldFollow}
use Rattle.pj_xderive.proofs.Outcomes.{whole, too_deep, number_where_deep, number_where_stopped, stops_at_end, stopped_here, stopped_behind}
use Rattle.pj_xderive.proofs.OneOutcome.{one_outcome, left_out_or_deep}

-- where a run over any terminals has an end
module _ (end_of : (terminals : List ℕ) → (end : End) × ll.IsEnd xpath_grammar terminals 200 end) (tokens : List Lexed) (fault : End) (is_fault : IsOutcome tokens fault) where
  same : (end : End) → IsOutcome tokens end → place_of tokens fault ≡ place_of tokens end
  same end is = ap (place_of tokens) (one_outcome tokens fault end is_fault is)

  -- whether or not the token is a number that is left out, and another one behind it would let it stand there, the fault does not come before it
  not_earlier : (i : ℕ) (x : Lexed) → slice_get tokens i ≡ Some x → ll.StopsAt xpath_grammar (numbers tokens) 200 i → place_of tokens fault < i → ⊥
  not_earlier i x there stops lt = ⊎_elim
      (λ (number : is_left_out_kind x.kind ≡ true).
      let e = same (LeftOut i) (number_where_stopped tokens i stops (ap is_left_out_token there ∙ number)) in omega arith)
      (λ (plain : is_left_out_kind x.kind ≡ false).
      let no : CouldFollow (numbers tokens) i x → ⊥ = λ could. let e = same (Stops (i + 1)) (stopped_behind tokens i x there stops could) in omega arith in
      let e = same (Stops i) (stopped_here tokens i x there stops plain no) in
      omega arith)
      (cases_Bool (is_left_out_kind x.kind))

  stopped_first : (i : ℕ) → ll.StopsAt xpath_grammar (numbers tokens) 200 i → i ≤ place_of tokens fault
  stopped_first i stops = elim (slice_get_cases tokens i).1 [
    | inl here ↦
        let (x, within, there, is) = here in
        ⊎_elim
        (λ (early : place_of tokens fault < i). absurd (not_earlier i x there stops early))
        (λ (le : i ≤ place_of tokens fault). le)
        (cases_lt (place_of tokens fault) i)
    | inr past ↦ let e = same (Stops i) (stops_at_end tokens i stops past.0) in omega arith
  ]

  -- what is left out, or the place where too much is open before it
  left_out_first : (i : ℕ) → ll.IsLeftOutFirst xpath_grammar (numbers tokens) 200 i → i ≤ place_of tokens fault
  left_out_first i out =
      let (end, is, which) = left_out_or_deep end_of tokens i out in
      ⊎_elim
      (λ (left : end ≡ LeftOut i). let e = same end is ∙ ap (place_of tokens) left in omega arith)
      (λ (deep : end ≡ TooDeep i). let e = same end is ∙ ap (place_of tokens) deep in omega arith)
      which

  -- the place where too much is open, or a number right there
  deep_first : (i : ℕ) → ll.IsTooDeepFirst xpath_grammar (numbers tokens) 200 i → i ≤ place_of tokens fault
  deep_first i deep = ⊎_elim
      (λ (apart : stands_apart tokens i ≡ true). let e = same (TooDeep i) (too_deep tokens i deep (λ _. apart)) in omega arith)
      (λ (joined : stands_apart tokens i ≡ false). ⊎_elim
      (λ (number : is_left_out_token (slice_get tokens i) ≡ true). let e = same (LeftOut i) (number_where_deep tokens i deep number joined) in omega arith)
      (λ (plain : is_left_out_token (slice_get tokens i) ≡ false).
      let e = same (TooDeep i) (too_deep tokens i deep (λ is. absurd (false≢true (sym plain ∙ is)))) in omega arith)
      (cases_Bool (is_left_out_token (slice_get tokens i))))
      (cases_Bool (stands_apart tokens i))

  pub run_first : (end : End) → ll.IsEnd xpath_grammar (numbers tokens) 200 end → place_of tokens end ≤ place_of tokens fault
  run_first Whole is = let e = same Whole (whole tokens is) in omega arith
  run_first (Stops i) is = stopped_first i is
  run_first (LeftOut i) is = left_out_first i is
  run_first (TooDeep i) is = deep_first i is
