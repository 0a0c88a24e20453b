-- Each production stands where it is used, however far the parser has come.
use Rattle.std.proofs.Common.{◌≡◌, ℕ, ◌≤◌, List, [], ◌∷◌, ◌++◌, length, take, drop, Some, sym, ◌∙◌, ap, subst, ⊎_elim, arith}
use Rattle.std.specs.Prelude.{slice_get}
use Rattle.std.proofs.lemmas.List.{append-nil, length-map, map-append, take_all, take-append-drop, take-append-le, take-map}
use Rattle.std.proofs.lemmas.Option.{slice_get_within}
use Rattle.pj_ll.specs.declared.grammar.Symbol.{Symbol}
use Rattle.pj_ll.specs.declared.grammar.Symbol.TheVariants.{Rule, Close}
use Rattle.pj_ll.specs.declared.parser.Step.{Step}
use Rattle.pj_ll.specs.Composing.{and_move, behind_leads}
use Rattle.pj_ll.specs.Grammar.{Entry, Grammar, Line, grammar_of}
use Rattle.pj_ll.specs.Leads.{Leads, stay, close, expand, start}
use Rattle.pj_ll.specs.Parsing.{HasComeTo, HasLed}
use Rattle.pj_ll.specs.Predictive.{RuleFacts}
use Rattle.pj_ll.specs.Steps.{IsPlaced, ArePlaced, productions_in}
use Rattle.pj_ll.proofs.Lists.{get_append, get_push_cases, take_back}

pub productions_push : (steps : List Step) (step : Step) → productions_in (steps ++ step ∷ []) ≡ productions_in steps ++ step.production ∷ []
productions_push steps step = map-append (λ (s : Step). s.production) steps (step ∷ [])

-- what was written behind the old steps is gone
pub productions_back : (old new kept : List Step) (more : List ℕ) (n : ℕ) → n ≡ length old → productions_in new ≡ productions_in old ++ more → kept ≡ take n new →
    productions_in kept ≡ productions_in old
productions_back old new kept more n count is cut =
    ap productions_in cut
    ∙ sym (take-map (λ (s : Step). s.production) n new)
    ∙ take_back (productions_in old) more (productions_in new) n (count ∙ sym (length-map old (λ (s : Step). s.production))) is

-- the productions before one of the steps, where more may stand behind them
before : (steps more : List Step) (k : ℕ) → k ≤ length steps → take k (productions_in (steps ++ more)) ≡ take k (productions_in steps)
before steps more k le =
    let within : k ≤ length (productions_in steps) = let same = length-map steps (λ (s : Step). s.production) in omega arith in
    ap (take k) (map-append (λ (s : Step). s.production) steps more) ∙ take-append-le k (productions_in steps) (productions_in more) within

module _ (g : Grammar) (ts : List ℕ) where
  pub none_placed : ArePlaced g ts []
  none_placed = record { each = λ k s at. absurd (let z = at in cc) }

  placed_push : (steps : List Step) (step : Step) → ArePlaced g ts steps → IsPlaced g ts (productions_in steps) step.place → ArePlaced g ts (steps ++ step ∷ [])
  placed_push steps step are is = record {
    each = λ k s at. ⊎_elim
        (λ (old : slice_get steps k ≡ Some s).
        let lt = slice_get_within steps k s old in
        subst (λ l. IsPlaced g ts l s.place) (sym (before steps (step ∷ []) k (omega arith))) (are.each k s old))
        (λ (new : (k ≡ length steps) × (step ≡ s)).
        let count = new.0 in
        let same = length-map steps (λ (s : Step). s.production) in
        let all : take k (productions_in (steps ++ step ∷ [])) ≡ productions_in steps =
        before steps (step ∷ []) k (omega arith) ∙ take_all k (productions_in steps) (omega arith) in
        subst (λ l. IsPlaced g ts l s.place) (sym all) (subst (λ (x : Step). IsPlaced g ts (productions_in steps) x.place) new.1 is))
        (get_push_cases steps step k s at);
  }

  placed_before : (steps more : List Step) → ArePlaced g ts (steps ++ more) → ArePlaced g ts steps
  placed_before steps more are = record {
    each = λ k s at.
        let lt = slice_get_within steps k s at in
        subst (λ l. IsPlaced g ts l s.place) (before steps more k (omega arith)) (are.each k s (get_append steps more k s at));
  }

  pub placed_take : (n : ℕ) (steps : List Step) → ArePlaced g ts steps → ArePlaced g ts (take n steps)
  placed_take n steps are = placed_before (take n steps) (drop n steps) (subst (ArePlaced g ts) (sym (take-append-drop n steps)) are)

  pub led_close : {i : ℕ} {steps : List Step} {ss : List Symbol} → HasLed g ts i steps (Close ∷ ss) → HasLed g ts i steps ss
  led_close {i} {steps} {ss} led = record {
    within = led.within;
    leads = subst (λ l. Leads g start (take i ts) l ss) (append-nil (productions_in steps)) (and_move g led.leads (close stay));
    placed = led.placed;
  }

  pub led_replace : {i : ℕ} {steps : List Step} {ss : List Symbol} (n p : ℕ) (line : Line) → slice_get g p ≡ Some line → line.rule ≡ n →
      HasLed g ts i steps (Rule n ∷ ss) → HasLed g ts i (steps ++ record { production = p; place = i } ∷ []) (line.symbols ++ ss)
  led_replace {i} {steps} {ss} n p line at rule led = record {
    within = led.within;
    leads = subst (λ l. Leads g start (take i ts) l (line.symbols ++ ss)) (sym (productions_push steps (record { production = p; place = i })))
        (and_move g led.leads (expand n p line at rule stay));
    placed = placed_push steps (record { production = p; place = i }) led.placed (record { within = led.within; rule = n; behind = ss; leads = led.leads });
  }

-- where the parser has come to
pub come_led : {fs : List RuleFacts} {es : List Entry} {ts : List ℕ} {deepest i : ℕ} {ss : List Symbol} (steps : List Step) →
    HasComeTo fs es ts deepest i ss (productions_in steps) → ArePlaced (grammar_of es) ts steps → HasLed (grammar_of es) ts i steps ss
come_led {es = es} steps come are = record { within = come.within; leads = behind_leads (grammar_of es) come.behind; placed = are }
