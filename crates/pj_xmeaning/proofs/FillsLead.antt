-- The beginning of a text, up to some tokens that are left: from a derivation by rules that are cut off there to a leftmost one.
use Rattle.std.proofs.Common.{◌≡◌, ◌≢◌, ℕ, suc, ◌+◌, ◌<◌, ◌≤◌, List, [], ◌∷◌, ◌++◌, length, take, drop, get_or, refl, sym, ◌∙◌, ap, subst, arith, append_assoc, length-append, length-drop, Some, slice_get}
use Rattle.std.proofs.lemmas.List.{append-nil, append_cancel_right}
use Rattle.std.proofs.lemmas.Option.{slice_get-get_or}
use Rattle.std.proofs.Math.Seq.{take-suc}
use Rattle.pj_ll.specs.declared.grammar.Symbol.{Symbol}
use Rattle.pj_ll.specs.declared.grammar.Symbol.TheVariants.{Terminal, Rule, LeftOut, Close}
use Rattle.pj_ll.specs.Grammar.{Line, closes}
use Rattle.pj_ll.specs.Leads as leads
use Rattle.pj_ll.specs.Leads.{Leads, stay, take_terminal, close, expand, Behind, at_start, start}
use Rattle.pj_ll.specs.Outcome.{LeadBehind, IsLeftOutAt, IsTooDeepAt}
use Rattle.pj_xtokens.specs.Tokens.{Lexed}
use Rattle.pj_xgrammar.specs.declared.terminal.Behind.TheVariants as b
use Rattle.pj_xgrammar.specs.Terminals.{numbers}
use Rattle.pj_xgrammar.specs.XPath.{greatest_nesting, xpath_grammar}
use Rattle.pj_xmeaning.specs.Parts.{RuleValue}
use Rattle.pj_xmeaning.specs.Reach.{Ending, Plain, Deep, Outside, UpTo, IsBefore, IsBehindLeftOut, MayEnd}
use Rattle.pj_xmeaning.specs.Reads.{IsNumbered}
use Rattle.pj_xmeaning.proofs.Derived as derived
use Rattle.pj_xmeaning.proofs.Derived.{Derived, Fill}
use Rattle.pj_xmeaning.proofs.Splitting.{behind_is}
use Rattle.pj_xmeaning.proofs.Counts.{closes-append, length_numbers}
use Rattle.pj_xmeaning.proofs.Taking.{cut_behind}
use Rattle.pj_xmeaning.proofs.Going as last
use Rattle.pj_xmeaning.proofs.Going.{Last, Going, ended, going, count_before, before_last, first_are}

-- a construct that is left out begins with the last token
outside : (ending : Ending) (left : List Lexed) (more : List Symbol) (x : Lexed) (t : ℕ) → IsNumbered x left t → IsBehindLeftOut (UpTo ending left) left →
    Going ending left (LeftOut t ∷ more) (x ∷ []) []
outside Plain left more x t read is = absurd is
outside Deep left more x t read is = absurd is
outside Outside left more x t read is = going [] t (LeftOut t ∷ more) (ap (λ k. k ∷ numbers left) read) stay last.left_out

module _ (ending : Ending) (left : List Lexed) where
  goes_token : {ss : List Symbol} {xs : List Lexed} {ps : List ℕ} (x : Lexed) (t : ℕ) → IsNumbered x (xs ++ left) t → (xs ++ left ≡ left → MayEnd ending (closes ss)) →
      Going ending left ss xs ps → Going ending left (Terminal t ∷ ss) (x ∷ xs) ps
  goes_token {ss} x t read may ended = going [] t (Terminal t ∷ ss) (ap (λ k. k ∷ numbers left) read) stay (last.token (may refl))
  goes_token {xs = xs} x t read may (going before u after is d l) =
      going (t ∷ before) u after (ap (λ k. k ∷ numbers (xs ++ left)) read ∙ ap (λ l. t ∷ l) is) (take_terminal t d) l

  goes_close : {ss : List Symbol} {xs : List Lexed} {ps : List ℕ} → Going ending left ss xs ps → Going ending left (Close ∷ ss) xs ps
  goes_close ended = ended
  goes_close (going before t after is d l) = going before t after is (close d) l

  goes_rule : {ss : List Symbol} {xs : List Lexed} {ps : List ℕ} (n p : ℕ) (line : Line) → slice_get xpath_grammar p ≡ Some line → line.rule ≡ n →
      IsBefore (UpTo ending left) (xs ++ left) → Going ending left (line.symbols ++ ss) xs ps → Going ending left (Rule n ∷ ss) xs (p ∷ ps)
  goes_rule n p line at rule here ended = absurd (here refl)
  goes_rule n p line at rule here (going before t after is d l) = going before t after is (expand n p line at rule d) l

  -- where no token is before those that are left, no symbols do anything
  goes_over : {ss : List Symbol} {xs : List Lexed} {ps : List ℕ} (more : List Symbol) → xs ++ left ≡ left → Going ending left ss xs ps → Going ending left more xs ps
  goes_over more e ended = ended
  goes_over {xs = xs} more e (going before t after is d l) = absurd (before_last ending left xs before t is e)

  goes_outside : {rest : List Symbol} {xs behind : List Lexed} {ps : List ℕ} (more : List Symbol) (x : Lexed) (t : ℕ) → behind ≡ xs ++ left → IsNumbered x behind t →
      IsBehindLeftOut (UpTo ending left) behind → Going ending left rest xs ps → Going ending left (LeftOut t ∷ more) (x ∷ xs) ps
  goes_outside more x t is read out ended =
      outside ending left more x t (subst (λ l. IsNumbered x l t) is read) (subst (λ l. IsBehindLeftOut (UpTo ending left) l) is out)
  goes_outside {xs = xs} {behind} more x t is read out (going before u after at d l) =
      absurd (before_last ending left xs before u at (sym is ∙ cut_behind (UpTo ending left) behind out))

  mutual
    -- A rule leads as it derives, where what stands behind it leads on. Around it is open what ends there.
    rule_goes : {around n : ℕ} {behind ts : List Lexed} {ps : List ℕ} {v : RuleValue} (rest : List Symbol) (xs : List Lexed) (more : List ℕ) → around ≡ closes rest →
        behind ≡ xs ++ left → Derived (UpTo ending left) around behind n ts ps v → Going ending left rest xs more → Going ending left (Rule n ∷ rest) (ts ++ xs) (ps ++ more)
    rule_goes {n = n} {ts = ts} rest xs more depth is (derived.by p line before at n_is f ps_are v_is) on =
        let here : IsBefore (UpTo ending left) ((ts ++ xs) ++ left) = λ e. before (ap (λ l. ts ++ l) is ∙ sym (append_assoc ts xs left) ∙ e) in
        subst (λ l. Going ending left (Rule n ∷ rest) (ts ++ xs) (l ++ more)) (sym ps_are) (goes_rule n p line at n_is here (fill_goes rest xs more depth is f on))

    fill_goes : {around : ℕ} {behind ts : List Lexed} {ss : List Symbol} {ps : List ℕ} {vs : List RuleValue} (rest : List Symbol) (xs : List Lexed) (more : List ℕ) → around ≡ closes rest →
        behind ≡ xs ++ left → Fill (UpTo ending left) around behind ss ts ps vs → Going ending left rest xs more → Going ending left (ss ++ rest) (ts ++ xs) (ps ++ more)
    fill_goes rest xs more depth is derived.none on = on
    fill_goes {around} rest xs more depth is (derived.token {behind = behind} {ts} {ss} x t read within f) on =
        let same : ts ++ behind ≡ (ts ++ xs) ++ left = ap (λ l. ts ++ l) is ∙ sym (append_assoc ts xs left) in
        let all = closes-append ss rest in
        let same_depth : around + closes ss ≡ closes (ss ++ rest) = omega arith in
        goes_token x t (subst (λ l. IsNumbered x l t) same read) (λ e. subst (MayEnd ending) same_depth (within.1 (same ∙ e))) (fill_goes rest xs more depth is f on)
    fill_goes rest xs more depth is (derived.rule {n = n} {behind} {ts} {us} {all} {ss} {ps} {qs} {rs} d f ts_are ps_are) on =
        let later : us ++ behind ≡ (us ++ xs) ++ left = ap (λ l. us ++ l) is ∙ sym (append_assoc us xs left) in
        let sum = closes-append ss rest in
        let here : Going ending left (Rule n ∷ (ss ++ rest)) (ts ++ (us ++ xs)) (ps ++ (qs ++ more)) =
        rule_goes (ss ++ rest) (us ++ xs) (qs ++ more) (omega arith) later d (fill_goes rest xs more depth is f on) in
        subst (λ l. Going ending left (Rule n ∷ (ss ++ rest)) (all ++ xs) l) (sym (ap (λ l. l ++ more) ps_are ∙ append_assoc ps qs more))
        (subst (λ l. Going ending left (Rule n ∷ (ss ++ rest)) l (ps ++ (qs ++ more))) (sym (behind_is xs all ts us ts_are)) here)
    fill_goes rest xs more depth is (derived.left_out {behind = behind} {ss} x t read out) on = goes_outside (ss ++ rest) x t is read out on
    fill_goes rest xs more depth is (derived.close f) on = goes_close (fill_goes rest xs more depth is f on)
    fill_goes rest xs more depth is (derived.cut {ss = ss} c) on = goes_over (ss ++ rest) (sym is ∙ c) on

-- ---- a text, up to a place

-- a beginning that is derived goes up to its last token
goes : {ending : Ending} {left first : List Lexed} {productions : List ℕ} {values : List RuleValue} → Fill (UpTo ending left) 0 left start first productions values →
    Going ending left start first productions
goes {ending} {left} {first} {productions} f =
    subst (λ l. Going ending left start first l) (append-nil productions)
    (subst (λ l. Going ending left start l (productions ++ [])) (append-nil first) (fill_goes ending left [] [] [] refl refl f ended))

-- with the terminals of its tokens
first_numbers : (tokens first : List Lexed) (i : ℕ) → i ≤ length tokens → tokens ≡ first ++ drop i tokens → numbers (first ++ drop i tokens) ≡ take i (numbers tokens) ++ numbers (drop i tokens)
first_numbers tokens first i within are =
    let left = drop i tokens in
    let rest = length-drop i tokens in
    let sum = length-append first left in
    let same = ap length are in
    first_are tokens first left i are (omega arith)

-- a list with a last member
last_same : (xs ys : List ℕ) (x y : ℕ) → xs ++ x ∷ [] ≡ ys ++ y ∷ [] → (xs ≡ ys) × (x ≡ y)
last_same [] [] x y e = (refl, cc)
last_same [] (z ∷ ys) x y e = let same = ap length e in let sum = length-append ys (y ∷ []) in absurd (omega arith)
last_same (z ∷ xs) [] x y e = let same = ap length e in let sum = length-append xs (x ∷ []) in absurd (omega arith)
last_same (z ∷ xs) (u ∷ ys) x y e =
    let tail : xs ++ x ∷ [] ≡ ys ++ y ∷ [] = cc in
    let head : z ≡ u = cc in
    let (front, last) = last_same xs ys x y tail in
    (ap (λ n. n ∷ xs) head ∙ ap (λ l. u ∷ l) front, last)

-- to what leads behind the last token
behind_of : (ending : Ending) (left : List Lexed) {xs : List Lexed} {ps : List ℕ} (ks : List ℕ) → ending ≢ Outside → Going ending left start xs ps → numbers (xs ++ left) ≡ ks ++ numbers left →
    (ss : List Symbol) × Behind xpath_grammar ks ps ss × (xs ≢ [] → MayEnd ending (closes ss))
behind_of ending left [] plain ended is = (start, at_start, λ some. absurd (some refl))
behind_of ending left (k ∷ ks) plain ended is = let count = count_before ending left [] (k ∷ ks) is in absurd (omega arith)
behind_of ending left ks plain (going before t _ are d (last.token {after = after} m)) is =
    (after, leads.behind before t (append_cancel_right ks (before ++ t ∷ []) (numbers left) (sym is ∙ are)) d, λ some. m)
behind_of ending left ks plain (going before t _ are d last.left_out) is = absurd (plain refl)

module _ (tokens : List Lexed) {first : List Lexed} {productions : List ℕ} {values : List RuleValue} where
  pub fill_leads : (i : ℕ) → i ≤ length tokens → Fill (UpTo Plain (drop i tokens)) 0 (drop i tokens) start first productions values → tokens ≡ first ++ drop i tokens →
      LeadBehind xpath_grammar (take i (numbers tokens)) productions
  fill_leads i within f are =
      let b = behind_of Plain (drop i tokens) (take i (numbers tokens)) (λ e. absurd (cc)) (goes f) (first_numbers tokens first i within are) in
      (b.0, b.1)

  pub fill_deep : (i : ℕ) → i ≤ length tokens → Fill (UpTo Deep (drop i tokens)) 0 (drop i tokens) start first productions values → tokens ≡ first ++ drop i tokens → first ≢ [] →
      IsTooDeepAt xpath_grammar (numbers tokens) greatest_nesting i
  fill_deep i within f are some =
      let (ss, way, deep) = behind_of Deep (drop i tokens) (take i (numbers tokens)) (λ e. absurd (cc)) (goes f) (first_numbers tokens first i within are) in
      (productions, (ss, way, deep some))

-- to the construct that is left out with which a beginning ends
module _ (tokens : List Lexed) where
  outside_of : (i : ℕ) → i < length tokens → {xs : List Lexed} {ps : List ℕ} → Going Outside (drop (suc i) tokens) start xs ps → tokens ≡ xs ++ drop (suc i) tokens →
      IsLeftOutAt xpath_grammar (numbers tokens) i
  outside_of i within ended are =
      let rest = length-drop (suc i) tokens in
      let same = ap length are in
      absurd (omega arith)
  outside_of i within (going before t _ is d (last.token m)) are = absurd m
  outside_of i within {xs} {ps} (going before t _ is d (last.left_out {after = after})) are =
      let ts = numbers tokens in
      let count = length_numbers b.End tokens in
      let cut : before ++ t ∷ [] ≡ take (suc i) ts =
      append_cancel_right (before ++ t ∷ []) (take (suc i) ts) (numbers (drop (suc i) tokens)) (sym is ∙ first_numbers tokens xs (suc i) (omega arith) are) in
      let (front, last) = last_same before (take i ts) t (get_or ts i 0) (cut ∙ take-suc ts i 0 (omega arith)) in (
        t,
        slice_get-get_or ts i 0 (omega arith) ∙ ap Some (sym last),
        (ps, (after, subst (λ l. Leads xpath_grammar start l ps (LeftOut t ∷ after)) front d)),
      )

  pub fill_left_out : {first : List Lexed} {productions : List ℕ} {values : List RuleValue} (i : ℕ) → i < length tokens → Fill (UpTo Outside (drop (suc i) tokens)) 0 (drop (suc i) tokens) start first productions values →
      tokens ≡ first ++ drop (suc i) tokens → IsLeftOutAt xpath_grammar (numbers tokens) i
  fill_left_out i within f are = outside_of i within (goes f) are
