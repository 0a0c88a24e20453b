-- What is known at a place where the parser moved no further.
use Rattle.std.proofs.Common.{◌≡◌, ℕ, ◌+◌, ◌<◌, ◌≤◌, List, [], ◌∷◌, ◌++◌, length, take, Option, Some, None, refl, sym, ◌∙◌, ap, subst, ⊎_elim, arith, append_assoc}
use Rattle.std.specs.Prelude.{slice_get}
use Rattle.std.proofs.lemmas.Bool.{cases_lt}
use Rattle.std.proofs.lemmas.List.{append-nil, take_all}
use Rattle.std.proofs.lemmas.Option.{slice_get_within}
use Rattle.pj_ll.specs.declared.grammar.Symbol.{Symbol}
use Rattle.pj_ll.specs.declared.grammar.Symbol.TheVariants as s
use Rattle.pj_ll.specs.declared.parser.End.TheVariants.{Whole, Stops, LeftOut, TooDeep}
use Rattle.pj_ll.specs.Grammar.{Entry, Grammar, grammar_of, closes}
use Rattle.pj_ll.specs.Leads.{Leads, take_terminal, at_start, behind, start, CanGoOn}
use Rattle.pj_ll.specs.Outcome.{IsLeftOutAt, IsTooDeepAt, AreClearBelow}
use Rattle.pj_ll.specs.Predictive.{RuleFacts, IsPredictive}
use Rattle.pj_ll.specs.Stack.{behind_top}
use Rattle.pj_ll.specs.Parsing.{IsNext, IsStack, HasMoved, HasComeTo, HasEnded}
use Rattle.pj_ll.proofs.Lists.{some_same, take_push}
use Rattle.pj_ll.specs.Composing.{join, and_move, behind_leads}
use Rattle.pj_ll.proofs.Lines.{moves_lead}
use Rattle.pj_ll.proofs.Chosen.{none_first, start_stacked}
use Rattle.pj_ll.proofs.Moving.{same_way, taken, left_out_on_top, ended, one_behind}
use Rattle.pj_ll.proofs.Finishing.{finish_stack}

module _ (fs : List RuleFacts) (ps : List Entry) (ok : IsPredictive fs ps) (ts : List ℕ) (deepest : ℕ) where
  abbrev G : Grammar
  G = grammar_of ps

  -- the start is the first place
  pub at_first : HasComeTo fs ps ts deepest 0 start []
  at_first = record {
    within = omega arith;
    behind = at_start;
    only_way = record { goes_on = λ us qs after a next d. (qs, refl, d) };
    stacked = start_stacked fs ps ok;
    kept = tt;
    clear = record { not_left_out = λ j lt. absurd (omega arith); not_too_deep = λ j lt. absurd (omega arith) };
  }

  clear_more : (i : ℕ) → AreClearBelow G ts deepest i → (IsLeftOutAt G ts i → ⊥) → (IsTooDeepAt G ts deepest i → ⊥) → AreClearBelow G ts deepest (i + 1)
  clear_more i clear kept shallow = record {
    not_left_out = λ j lt. ⊎_elim
        (λ (before : j < i). clear.not_left_out j before)
        (λ (le : i ≤ j). let same : i ≡ j = omega arith in subst (λ k. IsLeftOutAt G ts k → ⊥) same kept)
        (cases_lt j i);
    not_too_deep = λ j lt. ⊎_elim
        (λ (before : j < i). clear.not_too_deep j before)
        (λ (le : i ≤ j). let same : i ≡ j = omega arith in subst (λ k. IsTooDeepAt G ts deepest k → ⊥) same shallow)
        (cases_lt j i);
  }

  module _ (i : ℕ) (ss : List Symbol) (qs : List ℕ) (come : HasComeTo fs ps ts deepest i ss qs) where
    -- the terminals before the place begin a sentence
    pub can_go_on : CanGoOn G (take i ts)
    can_go_on =
        let f = finish_stack fs ps ok ss come.stacked come.kept in
        (f.terminals, (qs ++ f.productions, join G f.terminals f.productions [] (behind_leads G come.behind) f.leads))

    pub shallow : closes ss ≤ deepest → IsTooDeepAt G ts deepest i → ⊥
    shallow few (rs, (end, other, lt)) =
        let same = ap closes (one_behind fs ps ok come.behind other).1 in omega arith

    pub deep : deepest < closes ss → IsTooDeepAt G ts deepest i
    deep lt = (qs, (ss, come.behind, lt))

    module _ (a : Option ℕ) (ss' : List Symbol) (qs' : List ℕ) (moved : HasMoved fs ps a ss qs ss' qs') where
      pub leads : Leads G start (take i ts) qs' ss'
      leads = subst (λ l. Leads G start (take i ts) l ss') (sym moved.moving.productions_are)
          (and_move G (behind_leads G come.behind) (moves_lead ps moved.moving.moves))

      -- each derivation that has this next goes on from here
      reaches : (us rs : List ℕ) (after : List Symbol) → IsNext us after a → Leads G start (take i ts ++ us) rs after →
          (rest : List ℕ) × (rs ≡ qs' ++ rest) × Leads G ss' us rest after
      reaches us rs after next d =
          let (way, is, from) = come.only_way.goes_on us rs after a next d in
          let rest = same_way fs ps ok us way after moved.moving.moves (record { stacked = come.stacked; left_out = none_first ss come.kept }) next from in (
            rest.rest,
            is ∙ ap (λ l. qs ++ l) rest.begins ∙ sym (append_assoc qs moved.moving.moved rest.rest) ∙ ap (λ l. l ++ rest.rest) (sym moved.moving.productions_are),
            rest.leads,
          )

    module _ (t : ℕ) (ss' : List Symbol) (qs' : List ℕ) (moved : HasMoved fs ps (Some t) ss qs ss' qs') (at : slice_get ts i ≡ Some t) where
      kept_here : (ss' ≡ s.LeftOut t ∷ behind_top ss' → ⊥) → IsLeftOutAt G ts i → ⊥
      kept_here differs (u, there, (rs, (end, d))) =
          let same : u ≡ t = some_same there at in
          let d' : Leads G start (take i ts ++ []) rs (s.LeftOut t ∷ end) =
          subst (λ l. Leads G start l rs (s.LeftOut t ∷ end)) (sym (append-nil (take i ts)))
          (subst (λ v. Leads G start (take i ts) rs (s.LeftOut v ∷ end)) same d) in
          let (rest, is, from) = reaches (Some t) ss' qs' moved [] rs (s.LeftOut t ∷ end) refl d' in
          let top = left_out_on_top fs ps ok t moved.settled moved.moving.stack.stacked from in
          differs (top ∙ ap (λ l. s.LeftOut t ∷ l) (ap behind_top (sym top)))

      -- a derivation of the terminal at the place takes it from here
      takes : (us rs : List ℕ) (after : List Symbol) → Leads G start (take (i + 1) ts ++ us) rs after →
          (rest : List ℕ) × (rs ≡ qs' ++ rest) × Leads G ss' (t ∷ us) rest after
      takes us rs after d =
          let more : take (i + 1) ts ++ us ≡ take i ts ++ (t ∷ us) =
          ap (λ l. l ++ us) (take_push ts i t at) ∙ append_assoc (take i ts) (t ∷ []) us in
          reaches (Some t) ss' qs' moved (t ∷ us) rs after refl (subst (λ l. Leads G start l rs after) more d)

      -- past a terminal that is next
      pub past : (ss' ≡ s.LeftOut t ∷ behind_top ss' → ⊥) → closes ss ≤ deepest → ss' ≡ s.Terminal t ∷ behind_top ss' →
          HasComeTo fs ps ts deepest (i + 1) (behind_top ss') qs'
      past differs few top =
          let lt = slice_get_within ts i t at in
          record {
            within = omega arith;
            behind = behind (take i ts) t (take_push ts i t at) (subst (λ l. Leads G start (take i ts) qs' l) top (leads (Some t) ss' qs' moved));
            only_way = record {
              goes_on = λ us rs after a next d.
                  let (rest, is, from) = takes us rs after d in
                  (rest, is, after_top us rest after (subst (λ l. Leads G l (t ∷ us) rest after) top from));
            };
            stacked = (subst (λ l. IsStack fs l) top moved.moving.stack).stacked;
            kept = (subst (λ l. IsStack fs l) top moved.moving.stack).left_out;
            clear = clear_more i come.clear (kept_here differs) (shallow few);
          }
        where
          after_taken : {bs after : List Symbol} {us rs : List ℕ} (v u : ℕ) → Leads G (s.Terminal v ∷ bs) (u ∷ us) rs after → Leads G bs us rs after
          after_taken v u (take_terminal w d) = d

          after_top : (us rest : List ℕ) (after : List Symbol) → Leads G (s.Terminal t ∷ behind_top ss') (t ∷ us) rest after → Leads G (behind_top ss') us rest after
          after_top us rest after d = after_taken t t d

      pub stops : (ss' ≡ s.LeftOut t ∷ behind_top ss' → ⊥) → closes ss ≤ deepest → (ss' ≡ s.Terminal t ∷ behind_top ss' → ⊥) → HasEnded ps ts deepest qs (Stops i)
      stops differs few other =
          let lt = slice_get_within ts i t at in
          record {
            ends = record {
              within = come.within;
              before = can_go_on;
              terminal = λ within (us, (rs, d)).
                  let (rest, is, from) = takes us rs [] d in
                  let (end, top, more) = taken fs ps ok t us rest moved.settled moved.moving.stack.stacked from in
                  other (top ∙ ap (λ l. s.Terminal t ∷ l) (ap behind_top (sym top)));
              at_end = λ e. absurd (omega arith);
              clear = clear_more i come.clear (kept_here differs) (shallow few);
            };
            leads = (ss, come.behind);
          }

      pub too_deep : (ss' ≡ s.LeftOut t ∷ behind_top ss' → ⊥) → deepest < closes ss → HasEnded ps ts deepest qs (TooDeep i)
      too_deep differs lt = record {
        ends = record { within = come.within; before = can_go_on; deep = deep lt; here = kept_here differs; clear = come.clear };
        leads = (ss, come.behind);
      }

      pub left_out : ss' ≡ s.LeftOut t ∷ behind_top ss' → HasEnded ps ts deepest qs (LeftOut i)
      left_out top =
          let d = leads (Some t) ss' qs' moved in
          record {
            ends = record {
              before = can_go_on;
              left_out = (t, at, (qs', (behind_top ss', subst (λ l. Leads G start (take i ts) qs' l) top d)));
              clear = come.clear;
            };
            leads = (ss, come.behind);
          }

  -- behind all terminals
  module _ (ss : List Symbol) (qs : List ℕ) (come : HasComeTo fs ps ts deepest (length ts) ss qs) (ss' : List Symbol) (qs' : List ℕ) (moved : HasMoved fs ps None ss qs ss' qs') where
    all : take (length ts) ts ≡ ts
    all = take_all (length ts) ts (omega arith)

    none_here : IsLeftOutAt G ts (length ts) → ⊥
    none_here (t, there, rest) = let lt = slice_get_within ts (length ts) t there in omega arith

    pub whole : closes ss ≤ deepest → ss' ≡ [] → HasEnded ps ts deepest qs' Whole
    whole few empty =
        let d : Leads G start ts qs' [] = subst (λ l. Leads G start ts qs' l) empty
        (subst (λ l. Leads G start l qs' ss') all (leads (length ts) ss qs come None ss' qs' moved)) in
        record {
          ends = record { sentence = (qs', d); clear = clear_more (length ts) come.clear none_here (shallow (length ts) ss qs come few) };
          leads = d;
        }

    pub stops_at_end : closes ss ≤ deepest → (ss' ≡ [] → ⊥) → HasEnded ps ts deepest qs (Stops (length ts))
    stops_at_end few some = record {
      ends = record {
        within = omega arith;
        before = can_go_on (length ts) ss qs come;
        terminal = λ lt. absurd (omega arith);
        at_end = λ e (rs, d).
            let d' : Leads G start (take (length ts) ts ++ []) rs [] =
            subst (λ l. Leads G start l rs []) (sym (append-nil (take (length ts) ts) ∙ all)) d in
            let (rest, is, from) = reaches (length ts) ss qs come None ss' qs' moved [] rs [] refl d' in
            some (ended fs ps ok moved.settled moved.moving.stack.stacked from);
        clear = clear_more (length ts) come.clear none_here (shallow (length ts) ss qs come few);
      };
      leads = (ss, come.behind);
    }

    pub too_deep_at_end : deepest < closes ss → HasEnded ps ts deepest qs (TooDeep (length ts))
    too_deep_at_end lt = record {
      ends = record {
        within = omega arith;
        before = can_go_on (length ts) ss qs come;
        deep = deep (length ts) ss qs come lt;
        here = none_here;
        clear = come.clear;
      };
      leads = (ss, come.behind);
    }
