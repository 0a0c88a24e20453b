-- The beginning of a text, up to some tokens that are left: from leftmost derivations of it to derivations by rules that are cut off there.
use Rattle.std.proofs.Common.{◌≡◌, ℕ, suc, ◌+◌, ◌≤◌, List, [], ◌∷◌, ◌++◌, length, take, drop, refl, sym, ◌∙◌, ap, subst, arith, length-take-le, take-append-drop, Some, slice_get}
use Rattle.std.proofs.lemmas.Option.{slice_get_within, get_or_from_slice_get}
use Rattle.std.proofs.Math.Seq.{take-suc}
use Rattle.pj_ll.specs.declared.grammar.Symbol.{Symbol}
use Rattle.pj_ll.specs.declared.grammar.Symbol.TheVariants.{Terminal, Rule, LeftOut}
use Rattle.pj_ll.specs.Grammar.{Line, closes}
use Rattle.pj_ll.specs.Leads as leads
use Rattle.pj_ll.specs.Leads.{Leads, stay, take_terminal, close, expand, Behind, at_start, start}
use Rattle.pj_ll.specs.Outcome.{LeadBehind, IsLeftOutAt, IsTooDeepAt}
use Rattle.pj_xtokens.specs.Tokens.{Lexed}
use Rattle.pj_xgrammar.specs.declared.terminal.Behind.TheVariants as b
use Rattle.pj_xgrammar.specs.Terminals.{first_behind, numbers}
use Rattle.pj_xgrammar.specs.XPath.{greatest_nesting, xpath_grammar}
use Rattle.pj_xmeaning.specs.Actions.{action_of}
use Rattle.pj_xmeaning.specs.Parts.{RuleValue}
use Rattle.pj_xmeaning.specs.Values.{made}
use Rattle.pj_xmeaning.specs.Reach.{Ending, Plain, Deep, Outside, UpTo, IsBefore, MayEnd, Within}
use Rattle.pj_xmeaning.specs.Reads.{IsNumbered}
use Rattle.pj_xmeaning.proofs.Derived as derived
use Rattle.pj_xmeaning.proofs.Derived.{Fill}
use Rattle.pj_xmeaning.proofs.Counts.{number, token_within}
use Rattle.pj_xmeaning.proofs.Going as last
use Rattle.pj_xmeaning.proofs.Going.{Last, Going, ended, going, some_before, count_before, before_last, first_are}
use Rattle.pj_xmeaning.proofs.Splitting.{split, behind_is}

-- the symbols derive the tokens before those that are left by these productions, with some values
record Fills (ending : Ending) (left : List Lexed) (ss : List Symbol) (tokens : List Lexed) (productions : List ℕ) : Type 0 where
  values : List RuleValue
  fill : Fill (UpTo ending left) 0 left ss tokens productions values

-- the last token fills the symbol that takes it, behind which the tokens are cut off
last_fills : (ending : Ending) (left : List Lexed) {ss : List Symbol} (x : Lexed) (t : ℕ) → Last ending t ss → IsNumbered x left t → Fills ending left ss (x ∷ []) []
last_fills ending left x t (last.token {after = after} m) read =
    let depth : closes after ≡ 0 + closes after = omega arith in
    record { values = []; fill = derived.token x t read (some_before ending left x [], λ e. subst (MayEnd ending) depth m) (derived.cut refl) }
last_fills ending left x t last.left_out read = record { values = []; fill = derived.left_out x t read refl }

module _ (ending : Ending) (left : List Lexed) where
  fills_token : {ss : List Symbol} {xs : List Lexed} {ps : List ℕ} (x : Lexed) (t : ℕ) → IsNumbered x (xs ++ left) t → Within (UpTo ending left) (0 + closes ss) (x ∷ (xs ++ left)) →
      Fills ending left ss xs ps → Fills ending left (Terminal t ∷ ss) (x ∷ xs) ps
  fills_token {xs = xs} x t read within f = record { values = f.values; fill = derived.token x t read within f.fill }

  fills_rule : {ss : List Symbol} {xs : List Lexed} {ps : List ℕ} (n p : ℕ) (line : Line) → slice_get xpath_grammar p ≡ Some line → line.rule ≡ n →
      IsBefore (UpTo ending left) (xs ++ left) → Fills ending left (line.symbols ++ ss) xs ps → Fills ending left (Rule n ∷ ss) xs (p ∷ ps)
  fills_rule {ss} {xs} n p line at rule before f =
      let parts = split ss line.symbols f.fill in
      let tokens = parts.first_tokens ++ (parts.other_tokens ++ left) in
      let here : IsBefore (UpTo ending left) tokens = λ e. before (behind_is left xs parts.first_tokens parts.other_tokens parts.tokens_are ∙ e) in
      record {
        values = made (action_of p) tokens parts.first_values ∷ parts.other_values;
        fill = derived.rule (derived.by p line here at rule parts.first refl refl) parts.other parts.tokens_are (ap (λ l. p ∷ l) parts.productions_are);
      }

  -- nothing is derived where the tokens are cut off
  nothing_filled : (ss : List Symbol) → Fills ending left ss [] []
  nothing_filled ss = record { values = []; fill = derived.cut refl }

  fills_last : {ss : List Symbol} (xs : List Lexed) (t : ℕ) → Last ending t ss → numbers (xs ++ left) ≡ (t ∷ []) ++ numbers left → Fills ending left ss xs []
  fills_last [] t l is = let count = count_before ending left [] (t ∷ []) is in absurd (omega arith)
  fills_last (x ∷ y ∷ xs) t l is = let count = count_before ending left (x ∷ y ∷ xs) (t ∷ []) is in absurd (omega arith)
  fills_last (x ∷ []) t l is =
      let read : number x (first_behind b.End left) ≡ t = cc in
      last_fills ending left x t l read

  fills : {ss rest : List Symbol} {before ps : List ℕ} (xs : List Lexed) (t : ℕ) → Leads xpath_grammar ss before ps rest → Last ending t rest →
      numbers (xs ++ left) ≡ (before ++ t ∷ []) ++ numbers left → Fills ending left ss xs ps
  fills xs t stay l is = fills_last xs t l is
  fills [] t (take_terminal {ts = before} u d) l is = absurd (before_last ending left [] (u ∷ before) t is refl)
  fills (x ∷ xs) t (take_terminal {ts = before} u d) l is =
      let read : number x (first_behind b.End (xs ++ left)) ≡ u = cc in
      let tail : numbers (xs ++ left) ≡ (before ++ t ∷ []) ++ numbers left = cc in
      fills_token x u read (some_before ending left x xs, λ e. absurd (before_last ending left xs before t tail e)) (fills xs t d l tail)
  fills xs t (close d) l is =
      let f = fills xs t d l is in
      record { values = f.values; fill = derived.close f.fill }
  fills xs t (expand {ts = before} n p line at rule d) l is = fills_rule n p line at rule (before_last ending left xs before t is) (fills xs t d l is)

  going_fills : {xs : List Lexed} {ps : List ℕ} → Going ending left start xs ps → Fills ending left start xs ps
  going_fills ended = nothing_filled start
  going_fills {xs} (going before t last is d l) = fills xs t d l is

-- ---- a text, up to a place

-- The first tokens, before those that are left, and what derives them by these productions.
pub record Filled (ending : Ending) (tokens left : List Lexed) (productions : List ℕ) : Type 0 where
  pub first : List Lexed
  pub values : List RuleValue
  pub are : tokens ≡ first ++ left
  pub fill : Fill (UpTo ending left) 0 left start first productions values

-- what leads behind the last token leads to it
going_of : (ending : Ending) (left : List Lexed) {ks ps : List ℕ} {ss : List Symbol} (xs : List Lexed) → Behind xpath_grammar ks ps ss → MayEnd ending (closes ss) →
    numbers (xs ++ left) ≡ ks ++ numbers left → Going ending left start xs ps
going_of ending left [] at_start m is = ended
going_of ending left (x ∷ xs) at_start m is = let count = count_before ending left (x ∷ xs) [] is in absurd (omega arith)
going_of ending left {ss = ss} xs (leads.behind before t ks_are d) m is = going before t (Terminal t ∷ ss) (is ∙ ap (λ l. l ++ numbers left) ks_are) d (last.token m)

module _ (tokens : List Lexed) where
  filled : (ending : Ending) (i : ℕ) (productions : List ℕ) (ss : List Symbol) → i ≤ length tokens → Behind xpath_grammar (take i (numbers tokens)) productions ss → MayEnd ending (closes ss) →
      Filled ending tokens (drop i tokens) productions
  filled ending i productions ss within way m =
      let first = take i tokens in
      let left = drop i tokens in
      let are : tokens ≡ first ++ left = sym (take-append-drop i tokens) in
      let f = going_fills ending left (going_of ending left first way m (first_are tokens first left i are (length-take-le i tokens within))) in
      record { first = first; values = f.values; are = are; fill = f.fill }

  pub leads_fill : (i : ℕ) (productions : List ℕ) → i ≤ length tokens → LeadBehind xpath_grammar (take i (numbers tokens)) productions → Filled Plain tokens (drop i tokens) productions
  leads_fill i productions within (ss, way) = filled Plain i productions ss within way tt

  -- and where more is open behind the last token than may be
  pub deep_fill : (i : ℕ) → i ≤ length tokens → IsTooDeepAt xpath_grammar (numbers tokens) greatest_nesting i → (productions : List ℕ) × Filled Deep tokens (drop i tokens) productions
  deep_fill i within (ps, (ss, way, deep)) = (ps, filled Deep i ps ss within way deep)

  -- What leads to a construct that is left out, which begins with the token at a place, leads behind that token.
  pub left_out_fill : (i : ℕ) → IsLeftOutAt xpath_grammar (numbers tokens) i → (productions : List ℕ) × Filled Outside tokens (drop (suc i) tokens) productions
  left_out_fill i (t, at, (ps, (ss, way))) =
      let first = take (suc i) tokens in
      let left = drop (suc i) tokens in
      let are : tokens ≡ first ++ left = sym (take-append-drop (suc i) tokens) in
      let terminals : take (suc i) (numbers tokens) ≡ take i (numbers tokens) ++ t ∷ [] =
      take-suc (numbers tokens) i 0 (slice_get_within (numbers tokens) i t at)
      ∙ ap (λ u. take i (numbers tokens) ++ u ∷ []) (get_or_from_slice_get (numbers tokens) i t 0 at) in
      let is : numbers (first ++ left) ≡ (take i (numbers tokens) ++ t ∷ []) ++ numbers left =
      first_are tokens first left (suc i) are (length-take-le (suc i) tokens (token_within tokens i t at)) ∙ ap (λ l. l ++ numbers left) terminals in
      let f = going_fills Outside left (going (take i (numbers tokens)) t (LeftOut t ∷ ss) is way last.left_out) in
      (ps, record { first = first; values = f.values; are = are; fill = f.fill })
