-- The productions of a run begin at the tokens at which they are placed.
use Rattle.std.proofs.Common.{◌≡◌, ℕ, zero, suc, ◌+◌, ◌≤◌, List, [], ◌∷◌, ◌++◌, length, map, take, drop, get_or, refl, sym, ◌∙◌, ap, arith}
use Rattle.std.proofs.lemmas.List.{length-map, length-take, map_more, take-map, take_all}
use Rattle.std.proofs.lemmas.Option.{slice_get-get_or}
use Rattle.pj_ll.specs.declared.grammar.Symbol.{Symbol}
use Rattle.pj_ll.specs.declared.grammar.Symbol.TheVariants.{Terminal, Rule, LeftOut, Close}
use Rattle.pj_ll.specs.declared.parser.Step.{Step}
use Rattle.pj_ll.specs.Leads.{Leads, stay, take_terminal, close, expand}
use Rattle.pj_ll.specs.Steps.{ArePlaced, productions_in}
use Rattle.pj_xtokens.specs.First.{behind_first}
use Rattle.pj_xtokens.specs.Tokens.{Lexed}
use Rattle.pj_xmeaning.specs.Beginnings.{beginnings, beginning_at}
use Rattle.pj_xmeaning.specs.Slots.{Slot, production_slots, slots}
use Rattle.pj_xgrammar.specs.Terminals.{numbers}
use Rattle.pj_xgrammar.specs.XPath.{xpath_grammar}
use Rattle.pj_xmeaning.specs.Slots as slot
use Rattle.pj_xmeaning.proofs.Valuing.{slots_are}

slots-append : (xs ys : List Symbol) → slots (xs ++ ys) ≡ slots xs ++ slots ys
slots-append [] ys = refl
slots-append (Terminal t ∷ xs) ys = ap (λ l. slot.Token ∷ l) (slots-append xs ys)
slots-append (Rule n ∷ xs) ys = ap (λ l. slot.Rule ∷ l) (slots-append xs ys)
slots-append (LeftOut t ∷ xs) ys = slots-append xs ys
slots-append (Close ∷ xs) ys = slots-append xs ys

past_token : (ps : List ℕ) (next : List Slot) (tokens : List Lexed) → beginnings ps (slot.Token ∷ next) tokens ≡ beginnings ps next (behind_first tokens)
past_token [] next tokens = refl
past_token (p ∷ ps) next tokens = refl

drop_behind : (k : ℕ) (tokens : List Lexed) → drop k (behind_first tokens) ≡ drop (suc k) tokens
drop_behind zero [] = refl
drop_behind (suc k) [] = refl
drop_behind k (x ∷ xs) = refl

-- The next production begins behind as many tokens as the ones before it lead past.
next_begins : {ss after : List Symbol} {ts ps : List ℕ} {n : ℕ} (production : ℕ) (tokens : List Lexed) → Leads xpath_grammar ss ts ps (Rule n ∷ after) →
    beginnings (ps ++ production ∷ []) (slots ss) tokens ≡ beginnings ps (slots ss) tokens ++ record { production = production; tokens = drop (length ts) tokens } ∷ []
next_begins production tokens stay = refl
next_begins production tokens (take_terminal {ss} {ts} {ps} t d) =
    past_token (ps ++ production ∷ []) (slots ss) tokens
    ∙ next_begins production (behind_first tokens) d
    ∙ ap (λ l. beginnings ps (slots ss) (behind_first tokens) ++ record { production = production; tokens = l } ∷ []) (drop_behind (length ts) tokens)
    ∙ ap (λ l. l ++ record { production = production; tokens = drop (suc (length ts)) tokens } ∷ []) (sym (past_token ps (slots ss) tokens))
next_begins production tokens (close d) = next_begins production tokens d
next_begins production tokens (expand {ss} {ts} {ps} n p line at rule d) =
    let next : slots (line.symbols ++ ss) ≡ production_slots p ++ slots ss = slots-append line.symbols ss ∙ ap (λ l. l ++ slots ss) (sym (slots_are p line at)) in
    ap (λ l. record { production = p; tokens = tokens } ∷ beginnings (ps ++ production ∷ []) l tokens) (sym next)
    ∙ ap (λ l. record { production = p; tokens = tokens } ∷ l) (next_begins production tokens d)
    ∙ ap (λ l. record { production = p; tokens = tokens } ∷ (beginnings ps l tokens ++ record { production = production; tokens = drop (length ts) tokens } ∷ [])) next

module _ (tokens : List Lexed) (steps : List Step) (are : ArePlaced xpath_grammar (numbers tokens) steps) where
  up_to : (k : ℕ) → k ≤ length steps → beginnings (take k (productions_in steps)) (slot.Rule ∷ []) tokens ≡ map (beginning_at tokens) (take k steps)
  up_to zero le = refl
  up_to (suc k) le =
      let none : Step = record { production = 0; place = 0 } in
      let s = get_or steps k none in
      let there = are.each k s (slice_get-get_or steps k none (omega arith)) in
      let e : suc k ≡ k + 1 = omega arith in
      let count : length (take s.place (numbers tokens)) ≡ s.place =
      let all = length-take s.place (numbers tokens) in let within = there.within in omega arith in
      let longer : take (suc k) (productions_in steps) ≡ take k (productions_in steps) ++ s.production ∷ [] =
      ap (λ n. take n (productions_in steps)) e
      ∙ take-map (λ (x : Step). x.production) (k + 1) steps
      ∙ map_more (λ (x : Step). x.production) steps k none (omega arith)
      ∙ ap (λ l. l ++ s.production ∷ []) (sym (take-map (λ (x : Step). x.production) k steps)) in
      ap (λ l. beginnings l (slot.Rule ∷ []) tokens) longer
      ∙ next_begins s.production tokens there.leads
      ∙ ap (λ n. beginnings (take k (productions_in steps)) (slot.Rule ∷ []) tokens ++ record { production = s.production; tokens = drop n tokens } ∷ []) count
      ∙ ap (λ l. l ++ beginning_at tokens s ∷ []) (up_to k (omega arith))
      ∙ sym (map_more (beginning_at tokens) steps k none (omega arith))
      ∙ ap (λ n. map (beginning_at tokens) (take n steps)) (sym e)

  -- Each production begins with the tokens from its place on.
  pub beginnings_are : beginnings (productions_in steps) (slot.Rule ∷ []) tokens ≡ map (beginning_at tokens) steps
  beginnings_are =
      let count = length-map steps (λ (s : Step). s.production) in
      ap (λ l. beginnings l (slot.Rule ∷ []) tokens) (sym (take_all (length steps) (productions_in steps) (omega arith)))
      ∙ up_to (length steps) (omega arith)
      ∙ ap (map (beginning_at tokens)) (take_all (length steps) steps (omega arith))
