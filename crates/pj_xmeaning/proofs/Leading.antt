-- From a leftmost derivation to one by rules.
use Rattle.std.proofs.Common.{◌≡◌, ℕ, ◌+◌, ◌<◌, ◌≤◌, List, [], ◌∷◌, ◌++◌, length, take, refl, sym, ◌∙◌, ap, subst, ⊎_elim, arith, append_assoc, length-append, Some, slice_get}
use Rattle.std.proofs.lemmas.Bool.{cases_lt}
use Rattle.std.proofs.lemmas.List.{append-nil}
use Rattle.std.proofs.Math.Seq.{take-append_seam}
use Rattle.pj_ll.specs.declared.grammar.Symbol.{Symbol}
use Rattle.pj_ll.specs.declared.grammar.Symbol.TheVariants.{Terminal, Rule, Close}
use Rattle.pj_ll.specs.Grammar.{Line, closes}
use Rattle.pj_ll.specs.Leads.{Leads, Derives, stay, take_terminal, close, expand, Behind, behind, start}
use Rattle.pj_ll.specs.Outcome.{AreClearBelow}
use Rattle.pj_ll.specs.Composing.{and_take, and_move}
use Rattle.pj_xtokens.specs.Tokens.{Lexed}
use Rattle.pj_xgrammar.specs.declared.terminal.Behind.TheVariants as b
use Rattle.pj_xgrammar.specs.Terminals.{first_behind, numbers}
use Rattle.pj_xgrammar.specs.XPath.{greatest_nesting, xpath_grammar}
use Rattle.pj_xmeaning.specs.Actions.{action_of}
use Rattle.pj_xmeaning.specs.Parts.{RuleValue}
use Rattle.pj_xmeaning.specs.Values.{made}
use Rattle.pj_xmeaning.specs.Reach.{All}
use Rattle.pj_xmeaning.specs.Reads.{IsNumbered}
use Rattle.pj_xmeaning.proofs.Derived as derived
use Rattle.pj_xmeaning.proofs.Derived.{Derived, Fill}
use Rattle.pj_xmeaning.proofs.Counts.{number}
use Rattle.pj_xmeaning.proofs.Splitting.{split}

-- the symbols derive the tokens up to the end by these productions, with some values
record Filled (ss : List Symbol) (tokens : List Lexed) (productions : List ℕ) : Type 0 where
  values : List RuleValue
  fill : Fill All 0 [] ss tokens productions values

nothing_filled : Filled [] [] []
nothing_filled = record { values = []; fill = derived.none }

filled_token : {ss : List Symbol} {xs : List Lexed} {ps : List ℕ} (x : Lexed) (t : ℕ) → t ≡ number x (first_behind b.End xs) → closes ss ≤ 200 →
    Filled ss xs ps → Filled (Terminal t ∷ ss) (x ∷ xs) ps
filled_token {ss} {xs} x t is few f = record {
  values = f.values;
  fill = derived.token x t (subst (λ l. IsNumbered x l t) (sym (append-nil xs)) (sym is)) (omega arith) f.fill;
}

filled_close : {ss : List Symbol} {tokens : List Lexed} {ps : List ℕ} → Filled ss tokens ps → Filled (Close ∷ ss) tokens ps
filled_close f = record { values = f.values; fill = derived.close f.fill }

filled_rule : {ss : List Symbol} {tokens : List Lexed} {ps : List ℕ} (n p : ℕ) (line : Line) → slice_get xpath_grammar p ≡ Some line → line.rule ≡ n →
    Filled (line.symbols ++ ss) tokens ps → Filled (Rule n ∷ ss) tokens (p ∷ ps)
filled_rule {ss} n p line at rule f =
    let parts = split ss line.symbols f.fill in
    record {
      values = made (action_of p) (parts.first_tokens ++ (parts.other_tokens ++ [])) parts.first_values ∷ parts.other_values;
      fill = derived.rule (derived.by p line (λ e. e) at rule parts.first refl refl) parts.other parts.tokens_are (ap (λ l. p ∷ l) parts.productions_are);
    }

-- Directly behind each terminal of all no more is open than may be.
abbrev IsShallow : List ℕ → Type 0
IsShallow all = (before : List ℕ) (t : ℕ) (rest ps : List ℕ) (ss : List Symbol) → all ≡ (before ++ t ∷ []) ++ rest →
    Leads xpath_grammar start before ps (Terminal t ∷ ss) → closes ss ≤ 200

module _ (all : List ℕ) (shallow : IsShallow all) where
  filled : {ss after : List Symbol} {us ps : List ℕ} (tokens : List Lexed) (before qs : List ℕ) → Leads xpath_grammar ss us ps after → after ≡ [] →
      us ≡ numbers tokens → all ≡ before ++ us → Leads xpath_grammar start before qs ss → Filled ss tokens ps
  filled [] before qs stay ends is at way = subst (λ s. Filled s [] []) (sym ends) nothing_filled
  filled (x ∷ xs) before qs stay ends is at way = absurd (let e = is in cc)
  filled [] before qs (take_terminal t d) ends is at way = absurd (let e = is in cc)
  filled (x ∷ xs) before qs (take_terminal {ss} {ts} {ps} t d) ends is at way =
      let head : t ≡ number x (first_behind b.End xs) = cc in
      let tail : ts ≡ numbers xs = cc in
      let here : all ≡ (before ++ t ∷ []) ++ ts = at ∙ sym (append_assoc before (t ∷ []) ts) in
      filled_token x t head (shallow before t ts qs ss here way) (filled xs (before ++ t ∷ []) qs d ends tail here (and_take xpath_grammar t way))
  filled tokens before qs (close {ss} d) ends is at way =
      filled_close (filled tokens before (qs ++ []) d ends is at (and_move xpath_grammar way (close stay)))
  filled tokens before qs (expand {ss} n p line there rule d) ends is at way =
      filled_rule n p line there rule (filled tokens before (qs ++ p ∷ []) d ends is at (and_move xpath_grammar way (expand n p line there rule stay)))

shallow_of : (all : List ℕ) → AreClearBelow xpath_grammar all greatest_nesting (length all + 1) → IsShallow all
shallow_of all clear before t rest ps ss is way =
    let first = before ++ t ∷ [] in
    let cut : take (length first) all ≡ first = ap (take (length first)) is ∙ take-append_seam first rest in
    let sum = length-append first rest in
    let same = ap length is in
    ⊎_elim
    (λ (lt : 200 < closes ss).
    absurd (clear.not_too_deep (length first) (omega arith)
    (ps, (ss, subst (λ l. Behind xpath_grammar l ps ss) (sym cut) (behind before t refl way), lt))))
    (λ (few : closes ss ≤ 200). few)
    (cases_lt 200 (closes ss))

-- what fills the start is what its rule derives
only_rule : {tokens : List Lexed} {ps : List ℕ} {vs : List RuleValue} → Fill All 0 [] start tokens ps vs → (v : RuleValue) × Derived All 0 [] 0 tokens ps v
only_rule {tokens} {ps} (derived.rule {ts = ts} {ps = qs} {v = v} d derived.none tokens_are ps_are) =
    (v, subst (λ l. Derived All 0 [] 0 tokens l v) (sym (ps_are ∙ append-nil qs)) (subst (λ l. Derived All 0 [] 0 l qs v) (sym (tokens_are ∙ append-nil ts)) d))
only_rule (derived.rule d (derived.cut c) tokens_are ps_are) = absurd c
only_rule (derived.cut c) = absurd c

pub leads_tree : (tokens : List Lexed) (ps : List ℕ) → Derives xpath_grammar (numbers tokens) ps →
    AreClearBelow xpath_grammar (numbers tokens) greatest_nesting (length (numbers tokens) + 1) → (v : RuleValue) × Derived All 0 [] 0 tokens ps v
leads_tree tokens ps d clear = only_rule (filled (numbers tokens) (shallow_of (numbers tokens) clear) tokens [] [] d refl refl refl stay).fill
