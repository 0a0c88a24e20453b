-- The values of rules, from the productions of a leftmost derivation of a text or of the beginning of one.
use Rattle.std.proofs.Common.{◌≡◌, ℕ, ◌≤◌, ◌⊎◌, List, [], ◌∷◌, ◌++◌, map, length, Option, Some, None, slice_get, refl, sym, ◌∙◌, ap, subst, inl, inr, ⊎_elim, arith, append_assoc}
use Rattle.std.proofs.lemmas.List.{append-nil}
use Rattle.std.specs.Option.{option_map}
use Rattle.std.proofs.lemmas.Option.{none-some, same_Some, slice_get-map}
use Rattle.pj_ll.specs.declared.grammar.Symbol.{Symbol}
use Rattle.pj_ll.specs.Grammar.{Line}
use Rattle.pj_ll.specs.Leads.{start}
use Rattle.pj_xtokens.specs.Tokens.{Lexed}
use Rattle.pj_xgrammar.specs.XPath.{xpath_grammar}
use Rattle.pj_xmeaning.specs.Slots.{slots, slots_in, production_slots}
use Rattle.pj_xmeaning.specs.Beginnings.{beginnings}
use Rattle.pj_xmeaning.specs.Slots.{Slot}
use Rattle.pj_xmeaning.specs.Slots as slot
use Rattle.pj_xmeaning.specs.Actions.{actions, action_in, action_of}
use Rattle.pj_xmeaning.proofs.Fitting.{ActionsFit, taken, rules_among}
use Rattle.pj_xmeaning.specs.Parts.{RuleValue, operand}
use Rattle.pj_xmeaning.specs.Values.{top, made, acted, values, said}
use Rattle.pj_xmeaning.specs.declared.action.Action.{Action}
use Rattle.pj_xmeaning.specs.declared.action.Action.TheVariants as action
use Rattle.pj_xmeaning.specs.Reach.{Reach, All, UpTo, Plain, IsCut}
use Rattle.pj_xmeaning.proofs.Derived.{Derived, by, Fill, none, token, rule, left_out, close, cut}
use Rattle.pj_xmeaning.proofs.Splitting.{behind_is}
use Rattle.pj_xmeaning.proofs.Taking.{before_cut, begins_before, cut_behind}

-- ---- an action takes the values of its production

pub slots_are : (p : ℕ) (line : Line) → slice_get xpath_grammar p ≡ Some line → production_slots p ≡ slots line.symbols
unfolding production_slots
slots_are p line at = ap slots_in at

count_of : Line → ℕ
count_of line = rules_among (slots line.symbols)

-- the action that is there takes as many values as this
taken_there : (there : Option Action) (count : ℕ) → option_map taken there ≡ Some count → taken (action_in there) ≡ count
taken_there None count e = absurd (none-some count e)
taken_there (Some a) count e = same_Some (taken a) count e

-- where the actions fit the grammar, the action of a production takes as many values as there are rules in it
takes : ActionsFit → (p : ℕ) (line : Line) → slice_get xpath_grammar p ≡ Some line → taken (action_of p) ≡ rules_among (slots line.symbols)
unfolding action_of count_of
takes actions_fit p line at =
    let here : slice_get (map count_of xpath_grammar) p ≡ Some (count_of line) = slice_get-map count_of xpath_grammar p ∙ ap (option_map count_of) at in
    let there : option_map taken (slice_get actions p) ≡ Some (count_of line) = sym (slice_get-map taken actions p) ∙ ap (λ l. slice_get l p) actions_fit ∙ here in
    taken_there (slice_get actions p) (count_of line) there

-- ---- where productions begin

-- a symbol that takes a token takes the next one
past_token : (ps : List ℕ) (next : List Slot) (x : Lexed) (xs : List Lexed) → beginnings ps (slot.Token ∷ next) (x ∷ xs) ≡ beginnings ps next xs
past_token [] next x xs = refl
past_token (p ∷ ps) next x xs = refl

-- a rule's production begins at the next token
at_rule : (p : ℕ) (line : Line) (ps : List ℕ) (next : List Slot) (xs : List Lexed) → slice_get xpath_grammar p ≡ Some line →
    beginnings (p ∷ ps) (slot.Rule ∷ next) xs ≡ record { production = p; tokens = xs } ∷ beginnings ps (slots line.symbols ++ next) xs
at_rule p line ps next xs at = ap (λ l. record { production = p; tokens = xs } ∷ beginnings ps (l ++ next) xs) (slots_are p line at)

-- ---- where tokens are cut off

-- symbols that begin there derive nothing
nothing_derived : {reach : Reach} {around : ℕ} {behind ts : List Lexed} {ss : List Symbol} {ps : List ℕ} {vs : List RuleValue} →
    Fill reach around behind ss ts ps vs → IsCut reach (ts ++ behind) → (ts ≡ []) × (ps ≡ [])
nothing_derived none c = (refl, refl)
nothing_derived {reach} (token {behind = behind} {ts} x t read within f) c = absurd (before_cut reach _ (x ∷ (ts ++ behind)) within c)
nothing_derived {reach} (rule {behind = behind} {ts} {us} {all} (by p line before at n_is g qs_are v_is) f ts_are ps_are) c =
    absurd (before (subst (λ l. IsCut reach l) (behind_is behind all ts us ts_are) c))
nothing_derived {reach} (left_out {behind = behind} x t read is) c = absurd (begins_before reach x behind is c)
nothing_derived (close f) c = nothing_derived f c
nothing_derived (cut _) c = (refl, refl)

-- ---- an action takes the values of the rules of its production, or, where the tokens are cut off, fewer, behind which nothing stands

-- the tokens are cut off, and no more rules have values than there are
record IsShort (reach : Reach) (behind : List Lexed) (count all : ℕ) : Type 0 where
  cut_off : IsCut reach behind
  fewer : count ≤ all

-- each rule among the symbols has a value, or the tokens are cut off before some of them
values_count : {reach : Reach} {around : ℕ} {behind ts : List Lexed} {ss : List Symbol} {ps : List ℕ} {vs : List RuleValue} →
    Fill reach around behind ss ts ps vs → (length vs ≡ rules_among (slots ss)) ⊎ IsShort reach behind (length vs) (rules_among (slots ss))
values_count none = inl refl
values_count (token x t read within f) = values_count f
values_count (rule d f ts_are ps_are) =
    ⊎_elim (λ e. inl (omega arith)) (λ s. let le = s.fewer in inr (record { cut_off = s.cut_off; fewer = omega arith })) (values_count f)
values_count {reach} (left_out {behind = behind} x t read is) = inr (record { cut_off = cut_behind reach behind is; fewer = omega arith })
values_count (close f) = values_count f
values_count (cut c) = inr (record { cut_off = c; fewer = omega arith })

-- what it makes of them is not changed by those that stand behind them
value_made : (a : Action) (tokens : List Lexed) (vs others : List RuleValue) → length vs ≡ taken a → acted a tokens (vs ++ others) ≡ made a tokens vs ∷ others
value_made (action.Leaf a) tokens [] others e = refl
value_made (action.Change a) tokens (u ∷ []) others e = refl
value_made (action.Single a) tokens (u ∷ []) others e = refl
value_made (action.Rest a) tokens (u ∷ v ∷ []) others e = refl
value_made (action.Operation a) tokens (u ∷ v ∷ []) others e = refl
value_made (action.Binder a) tokens (u ∷ v ∷ []) others e = refl
value_made (action.Step a) tokens (u ∷ v ∷ []) others e = refl
value_made action.If tokens (u ∷ v ∷ w ∷ []) others e = refl
value_made action.Binding tokens (u ∷ v ∷ w ∷ []) others e = refl
value_made _ _ _ others e = absurd (omega arith)

-- what it makes of fewer, which are the last ones
last_made : (a : Action) (tokens : List Lexed) (vs : List RuleValue) → length vs ≤ taken a → acted a tokens vs ≡ made a tokens vs ∷ []
last_made (action.Leaf a) tokens [] few = refl
last_made (action.Change a) tokens [] few = refl
last_made (action.Change a) tokens (u ∷ []) few = refl
last_made (action.Single a) tokens [] few = refl
last_made (action.Single a) tokens (u ∷ []) few = refl
last_made (action.Rest a) tokens [] few = refl
last_made (action.Rest a) tokens (u ∷ []) few = refl
last_made (action.Rest a) tokens (u ∷ v ∷ []) few = refl
last_made (action.Operation a) tokens [] few = refl
last_made (action.Operation a) tokens (u ∷ []) few = refl
last_made (action.Operation a) tokens (u ∷ v ∷ []) few = refl
last_made (action.Binder a) tokens [] few = refl
last_made (action.Binder a) tokens (u ∷ []) few = refl
last_made (action.Binder a) tokens (u ∷ v ∷ []) few = refl
last_made (action.Step a) tokens [] few = refl
last_made (action.Step a) tokens (u ∷ []) few = refl
last_made (action.Step a) tokens (u ∷ v ∷ []) few = refl
last_made action.If tokens [] few = refl
last_made action.If tokens (u ∷ []) few = refl
last_made action.If tokens (u ∷ v ∷ []) few = refl
last_made action.If tokens (u ∷ v ∷ w ∷ []) few = refl
last_made action.Binding tokens [] few = refl
last_made action.Binding tokens (u ∷ []) few = refl
last_made action.Binding tokens (u ∷ v ∷ []) few = refl
last_made action.Binding tokens (u ∷ v ∷ w ∷ []) few = refl
last_made _ _ _ few = absurd (omega arith)

-- and where none stand behind them
none_behind : (a : Action) (tokens : List Lexed) (vs last : List RuleValue) → last ≡ [] → length vs ≤ taken a → acted a tokens (vs ++ last) ≡ made a tokens vs ∷ last
none_behind a tokens vs last end few =
    ap (λ l. acted a tokens (vs ++ l)) end ∙ ap (acted a tokens) (append-nil vs) ∙ last_made a tokens vs few ∙ ap (λ l. made a tokens vs ∷ l) (sym end)

module _ (actions_fit : ActionsFit) {reach : Reach} where
  mutual
    -- The value of a rule stands before those that come behind it. Where the tokens are cut off, no production comes behind it.
    rule_value : {around n : ℕ} {behind ts : List Lexed} {ps : List ℕ} {v : RuleValue} (more : List ℕ) (next : List Slot) → (IsCut reach behind → more ≡ []) →
        Derived reach around behind n ts ps v →
        values (beginnings (ps ++ more) (slot.Rule ∷ next) (ts ++ behind)) [] ≡ v ∷ values (beginnings more next behind) []
    rule_value {behind = behind} {ts} more next end (by {qs = qs} {vs} p line before at n_is f ps_are v_is) =
        let tokens = ts ++ behind in
        let last = values (beginnings more next behind) [] in
        let a = action_of p in
        let fits = takes actions_fit p line at in
        let one : acted a tokens (vs ++ last) ≡ made a tokens vs ∷ last =
        ⊎_elim
        (λ (e : length vs ≡ rules_among (slots line.symbols)). value_made a tokens vs last (e ∙ sym fits))
        (λ (s : IsShort reach behind (length vs) (rules_among (slots line.symbols))).
        let le = s.fewer in
        none_behind a tokens vs last (ap (λ l. values (beginnings l next behind) []) (end s.cut_off)) (omega arith))
        (values_count f)
        in
        ap (λ l. values (beginnings (l ++ more) (slot.Rule ∷ next) tokens) []) ps_are
        ∙ ap (λ l. values l []) (at_rule p line (qs ++ more) next tokens at)
        ∙ ap (acted a tokens) (fill_values more next end f)
        ∙ one
        ∙ ap (λ u. u ∷ last) (sym v_is)

    fill_values : {around : ℕ} {behind ts : List Lexed} {ss : List Symbol} {ps : List ℕ} {vs : List RuleValue} (more : List ℕ) (next : List Slot) →
        (IsCut reach behind → more ≡ []) → Fill reach around behind ss ts ps vs →
        values (beginnings (ps ++ more) (slots ss ++ next) (ts ++ behind)) [] ≡ vs ++ values (beginnings more next behind) []
    fill_values more next end none = refl
    fill_values more next end (token {behind = behind} {ts} {ss} {ps} x t read within f) =
        ap (λ l. values l []) (past_token (ps ++ more) (slots ss ++ next) x (ts ++ behind)) ∙ fill_values more next end f
    fill_values more next end (rule {behind = behind} {ts} {us} {all} {ss} {ps} {qs} {v = v} d f ts_are ps_are) =
        let later : IsCut reach (us ++ behind) → qs ++ more ≡ [] =
        λ c.
        let (us_are, qs_are) = nothing_derived f c in
        ap (λ l. l ++ more) qs_are ∙ end (subst (λ l. IsCut reach (l ++ behind)) us_are c)
        in
        ap (λ l. values (beginnings (l ++ more) (slot.Rule ∷ (slots ss ++ next)) (all ++ behind)) []) ps_are
        ∙ ap (λ l. values (beginnings l (slot.Rule ∷ (slots ss ++ next)) (all ++ behind)) []) (append_assoc ps qs more)
        ∙ ap (λ l. values (beginnings (ps ++ (qs ++ more)) (slot.Rule ∷ (slots ss ++ next)) l) []) (behind_is behind all ts us ts_are)
        ∙ rule_value (qs ++ more) (slots ss ++ next) later d
        ∙ ap (λ l. v ∷ l) (fill_values more next end f)
    fill_values more next end (left_out {behind = behind} {ss} x t read is) =
        let none_more = end (cut_behind reach behind is) in
        ap (λ l. values (beginnings l (slots ss ++ next) (x ∷ behind)) []) none_more ∙ ap (λ l. values (beginnings l next behind) []) (sym none_more)
    fill_values more next end (close f) = fill_values more next end f
    fill_values {behind = behind} {ss = ss} more next end (cut c) =
        let none_more = end c in
        ap (λ l. values (beginnings l (slots ss ++ next) behind) []) none_more ∙ ap (λ l. values (beginnings l next behind) []) (sym none_more)

-- what the productions of a whole text say
pub tree_said : ActionsFit → (tokens : List Lexed) (ps : List ℕ) (v : RuleValue) → Derived All 0 [] 0 tokens ps v → said ps tokens ≡ operand v
unfolding said
tree_said actions_fit tokens ps v d =
    ap (λ l. operand (top (values (beginnings l (slot.Rule ∷ []) tokens) []))) (sym (append-nil ps))
    ∙ ap (λ l. operand (top (values (beginnings (ps ++ []) (slot.Rule ∷ []) l) []))) (sym (append-nil tokens))
    ∙ ap (λ l. operand (top l)) (rule_value actions_fit [] [] (λ c. refl) d)

-- and those of the beginning of one
pub fill_said : ActionsFit → {left first : List Lexed} {ps : List ℕ} {vs : List RuleValue} → Fill (UpTo Plain left) 0 left start first ps vs → said ps (first ++ left) ≡ operand (top vs)
unfolding said
fill_said actions_fit {left} {first} {ps} {vs} f =
    ap (λ l. operand (top (values (beginnings l (slot.Rule ∷ []) (first ++ left)) []))) (sym (append-nil ps))
    ∙ ap (λ l. operand (top l)) (fill_values actions_fit [] [] (λ c. refl) f ∙ append-nil vs)
