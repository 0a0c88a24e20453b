-- In a derivation by rules no more is open than may be.
use Rattle.std.proofs.Common.{◌≡◌, ℕ, zero, suc, ◌≤◌, List, [], ◌∷◌, ◌++◌, length, take, Some, slice_get, refl, sym, ap, subst, arith, append_assoc}
use Rattle.std.specs.Prelude.{⊤}
use Rattle.std.proofs.lemmas.List.{append-nil}
use Rattle.pj_ll.specs.declared.grammar.Symbol.{Symbol}
use Rattle.pj_ll.specs.declared.grammar.Symbol.TheVariants.{Terminal, Rule, Close}
use Rattle.pj_ll.specs.Grammar.{Line, closes}
use Rattle.pj_ll.specs.Leads as leads
use Rattle.pj_ll.specs.Leads.{Leads, stay, expand, Behind, at_start, start, IsDeeper}
use Rattle.pj_ll.specs.Composing.{and_take, and_move}
use Rattle.pj_xtokens.specs.Tokens.{Lexed}
use Rattle.pj_xgrammar.specs.Terminals.{numbers}
use Rattle.pj_xgrammar.specs.XPath.{xpath_grammar}
use Rattle.pj_xmeaning.specs.Parts.{RuleValue}
use Rattle.pj_xmeaning.specs.Reach.{All}
use Rattle.pj_xmeaning.specs.Reads.{IsNumbered}
use Rattle.pj_xmeaning.proofs.Derived as derived
use Rattle.pj_xmeaning.proofs.Derived.{Derived, by, Fill, none, token, rule, left_out, cut}
use Rattle.pj_xmeaning.proofs.Splitting.{behind_is}
use Rattle.pj_xmeaning.proofs.Counts.{closes-append}

-- directly behind the terminals not too much is open
record IsFlat (before : List ℕ) : Type 0 where
  productions : List ℕ
  stack : List Symbol
  there : Behind xpath_grammar before productions stack
  few : closes stack ≤ 200

-- nor is there behind each of the terminals that follow
abbrev AreFlat : List ℕ → List ℕ → Type 0
AreFlat before [] = ⊤
AreFlat before (t ∷ ts) = IsFlat (before ++ t ∷ []) × AreFlat (before ++ t ∷ []) ts

-- not too much is open behind the terminals of the tokens, wherever the symbols stand that derive these
abbrev StayFlat : List Symbol → List Lexed → Type 0
StayFlat rest tokens = (before ps : List ℕ) → Leads xpath_grammar start before ps rest → AreFlat before (numbers tokens)

flat_token : (tokens : List Lexed) (ss : List Symbol) (x : Lexed) (t : ℕ) → IsNumbered x tokens t → closes ss ≤ 200 → StayFlat ss tokens → StayFlat (Terminal t ∷ ss) (x ∷ tokens)
flat_token tokens ss x t read few on before ps way =
    subst (λ k. AreFlat before (k ∷ numbers tokens)) (sym read) (
      record { productions = ps; stack = ss; there = leads.behind before t refl way; few = few },
      on (before ++ t ∷ []) ps (and_take xpath_grammar t way),
    )

flat_close : (tokens : List Lexed) (ss : List Symbol) → StayFlat ss tokens → StayFlat (Close ∷ ss) tokens
flat_close tokens ss on before ps way = on before (ps ++ []) (and_move xpath_grammar way (leads.close stay))

flat_rule : (tokens : List Lexed) (n p : ℕ) (line : Line) (ss : List Symbol) → slice_get xpath_grammar p ≡ Some line → line.rule ≡ n →
    StayFlat (line.symbols ++ ss) tokens → StayFlat (Rule n ∷ ss) tokens
flat_rule tokens n p line ss at n_is on before ps way = on before (ps ++ p ∷ []) (and_move xpath_grammar way (expand n p line at n_is stay))

mutual
  rule_flat : {around n : ℕ} {behind ts : List Lexed} {ps : List ℕ} {v : RuleValue} (rest : List Symbol) → closes rest ≤ around →
      Derived All around behind n ts ps v → StayFlat rest behind → StayFlat (Rule n ∷ rest) (ts ++ behind)
  rule_flat {n = n} {behind} {ts} rest room (by p line before at n_is f ps_are v_is) on =
      flat_rule (ts ++ behind) n p line rest at n_is (fill_flat rest room f on)

  fill_flat : {around : ℕ} {behind ts : List Lexed} {ss : List Symbol} {ps : List ℕ} {vs : List RuleValue} (rest : List Symbol) → closes rest ≤ around →
      Fill All around behind ss ts ps vs → StayFlat rest behind → StayFlat (ss ++ rest) (ts ++ behind)
  fill_flat rest room none on = on
  fill_flat rest room (token {behind = behind} {ts} {ss} x t read few f) on =
      let sum = closes-append ss rest in
      flat_token (ts ++ behind) (ss ++ rest) x t read (omega arith) (fill_flat rest room f on)
  fill_flat rest room (rule {n = n} {behind} {ts} {us} {all} {ss} d f ts_are ps_are) on =
      let sum = closes-append ss rest in
      subst (λ l. StayFlat (Rule n ∷ (ss ++ rest)) l) (sym (behind_is behind all ts us ts_are))
      (rule_flat (ss ++ rest) (omega arith) d (fill_flat rest room f on))
  fill_flat rest room (left_out x t read is) on = absurd is
  fill_flat rest room (derived.close {behind = behind} {ts} {ss} f) on = flat_close (ts ++ behind) (ss ++ rest) (fill_flat rest room f on)
  fill_flat rest room (cut c) on = absurd c

tree_flat : (tokens : List Lexed) (ps : List ℕ) (v : RuleValue) → Derived All 0 [] 0 tokens ps v → AreFlat [] (numbers tokens)
tree_flat tokens ps v d = subst (λ l. AreFlat [] (numbers l)) (append-nil tokens) (rule_flat [] (omega arith) d (λ before qs way. tt) [] [] stay)

-- at each place
flat_at : (before ts : List ℕ) (i : ℕ) → i ≤ length ts → IsFlat before → AreFlat before ts → IsFlat (before ++ take i ts)
flat_at before ts zero le here flat = subst IsFlat (sym (append-nil before)) here
flat_at before [] (suc i) le here flat = absurd (omega arith)
flat_at before (t ∷ ts) (suc i) le here flat =
    subst IsFlat (append_assoc before (t ∷ []) (take i ts)) (flat_at (before ++ t ∷ []) ts i (omega arith) flat.0 flat.1)

-- where what stands behind the same terminals is one
module _ (one_stack : (before ps qs : List ℕ) (ss rs : List Symbol) → Behind xpath_grammar before ps ss → Behind xpath_grammar before qs rs → ss ≡ rs) where
  not_deep : (before : List ℕ) → IsFlat before → IsDeeper xpath_grammar before 200 → ⊥
  not_deep before flat (qs, (rs, other, lt)) =
      let same = ap closes (one_stack before flat.productions qs flat.stack rs flat.there other) in
      let few = flat.few in
      omega arith

  pub tree_not_deep : (tokens : List Lexed) (ps : List ℕ) (v : RuleValue) → Derived All 0 [] 0 tokens ps v → (i : ℕ) → i ≤ length (numbers tokens) →
      IsDeeper xpath_grammar (take i (numbers tokens)) 200 → ⊥
  tree_not_deep tokens ps v d i le =
      not_deep (take i (numbers tokens))
      (flat_at [] (numbers tokens) i le (record { productions = []; stack = start; there = at_start; few = omega arith }) (tree_flat tokens ps v d))
