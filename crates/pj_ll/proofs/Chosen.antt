-- In a predictive grammar what comes next in a derivation decides which production a rule is replaced by.
use Rattle.std.proofs.Common.{◌≡◌, ℕ, true, List, [], ◌∷◌, ◌++◌, Option, Some, None, refl, sym, ◌∙◌, ap, subst, inl, ⊎_elim}
use Rattle.std.specs.Prelude.{slice_get}
use Rattle.pj_ll.specs.declared.grammar.Symbol.{Symbol}
use Rattle.pj_ll.specs.declared.grammar.Symbol.TheVariants.{Terminal, Rule, LeftOut, Close}
use Rattle.pj_ll.specs.Grammar.{Entry, Grammar, Line, grammar_of}
use Rattle.pj_ll.specs.Leads.{Leads, stay, take_terminal, close, expand, start}
use Rattle.pj_ll.specs.Predictive.{RuleFacts, fact_at, IsIn, nullable_of, first_of, AreFollowed, HaveNoLeftOut, HaveLeftOutFirst, IsChosenAt, IsPredictive}
use Rattle.pj_ll.specs.Parsing.{IsNext, IsStacked, AreStacked, IsStack}
use Rattle.pj_ll.proofs.Lists.{some_one, in_left, in_right, cond_in, and_both}
use Rattle.pj_ll.proofs.Sets.{nullable_both, first_append}
use Rattle.pj_ll.proofs.Lines.{line_there}

next_stays : (fs : List RuleFacts) (ss : List Symbol) (a : ℕ) → IsNext [] ss (Some a) → IsIn (first_of fs ss) a
next_stays fs [] a h = absurd (let z = h in cc)
next_stays fs (Terminal t ∷ ss) a h = inl (some_one h)
next_stays fs (LeftOut t ∷ ss) a h = inl (some_one h)
next_stays fs (Close ∷ ss) a h = absurd h
next_stays fs (Rule n ∷ ss) a h = absurd h

end_stays : (fs : List RuleFacts) (ss : List Symbol) → IsNext [] ss None → nullable_of fs ss ≡ true
end_stays fs [] h = refl
end_stays fs (Terminal t ∷ ss) h = absurd (let z = h in cc)
end_stays fs (LeftOut t ∷ ss) h = absurd (let z = h in cc)
end_stays fs (Close ∷ ss) h = absurd h
end_stays fs (Rule n ∷ ss) h = absurd h

-- the symbols begin and end without what is left out
no_more : (xs ys : List Symbol) → HaveNoLeftOut xs → HaveNoLeftOut ys → HaveNoLeftOut (xs ++ ys)
no_more [] ys p q = q
no_more (Terminal t ∷ xs) ys p q = no_more xs ys p q
no_more (LeftOut t ∷ xs) ys p q = absurd p
no_more (Close ∷ xs) ys p q = no_more xs ys p q
no_more (Rule n ∷ xs) ys p q = no_more xs ys p q

pub none_first : (ss : List Symbol) → HaveNoLeftOut ss → HaveLeftOutFirst ss
none_first [] p = p
none_first (Terminal t ∷ ss) p = p
none_first (LeftOut t ∷ ss) p = absurd p
none_first (Close ∷ ss) p = p
none_first (Rule n ∷ ss) p = p

first_more : (xs ys : List Symbol) → HaveLeftOutFirst xs → HaveNoLeftOut ys → HaveLeftOutFirst (xs ++ ys)
first_more [] ys p q = none_first ys q
first_more (x ∷ xs) ys p q = no_more xs ys p q

module _ (fs : List RuleFacts) (ps : List Entry) (ok : IsPredictive fs ps) where
  abbrev G : Grammar
  G = grammar_of ps

  -- a derivation begins with what the symbols can begin with
  pub next_in : {ss after : List Symbol} {ts qs : List ℕ} (a : ℕ) → Leads G ss ts qs after → IsNext ts after (Some a) → IsIn (first_of fs ss) a
  next_in a (stay {ss}) h = next_stays fs ss a h
  next_in a (take_terminal t d) h = inl (some_one h)
  next_in a (close d) h = next_in a d h
  next_in a (expand {ss} n p line at rule d) h =
      let (x, there, is) = line_there ps p line at in
      let fits = ok.each p x there in
      let same : x.rule ≡ n = ap (λ (l : Line). l.rule) (sym is) ∙ rule in
      let begins = subst (λ (l : Line). IsIn (first_of fs (l.symbols ++ ss)) a) is (next_in a d h) in
      ⊎_elim
      (λ (k : IsIn (first_of fs x.symbols) a). in_left (fact_at fs n).first _ a (subst (λ m. IsIn (fact_at fs m).first a) same (fits.first a k)))
      (λ (k : (nullable_of fs x.symbols ≡ true) × IsIn (first_of fs ss) a).
      in_right (fact_at fs n).first _ a (cond_in (fact_at fs n).nullable _ a (subst (λ m. (fact_at fs m).nullable ≡ true) same (fits.nullable k.0)) k.1))
      (first_append fs x.symbols ss a begins)

  -- what derives nothing more can take nothing
  pub end_in : {ss after : List Symbol} {ts qs : List ℕ} → Leads G ss ts qs after → IsNext ts after None → nullable_of fs ss ≡ true
  end_in (stay {ss}) h = end_stays fs ss h
  end_in (take_terminal t d) h = absurd (let z = h in cc)
  end_in (close d) h = end_in d h
  end_in (expand {ss} n p line at rule d) h =
      let (x, there, is) = line_there ps p line at in
      let fits = ok.each p x there in
      let same : x.rule ≡ n = ap (λ (l : Line). l.rule) (sym is) ∙ rule in
      let (null, rest) = nullable_both fs x.symbols ss (subst (λ (l : Line). nullable_of fs (l.symbols ++ ss) ≡ true) is (end_in d h)) in
      and_both (fact_at fs n).nullable _ (subst (λ m. (fact_at fs m).nullable ≡ true) same (fits.nullable null)) rest

  -- a rule on the stack is replaced by a production that is chosen at what comes next
  pub chosen : {ss after : List Symbol} {ts qs : List ℕ} (x : Entry) (p : ℕ) (a : Option ℕ) → slice_get ps p ≡ Some x → IsStacked fs x.rule ss →
      Leads G (x.symbols ++ ss) ts qs after → IsNext ts after a → IsChosenAt x a
  chosen {ss} x p None there on d h =
      let (null, rest) = nullable_both fs x.symbols ss (end_in d h) in
      (ok.each p x there).on_end null (on.ends rest)
  chosen {ss} x p (Some a) there on d h = ⊎_elim
      (λ (k : IsIn (first_of fs x.symbols) a). (ok.each p x there).on_first a k)
      (λ (k : (nullable_of fs x.symbols ≡ true) × IsIn (first_of fs ss) a). (ok.each p x there).on_follow k.0 a (on.first a k.1))
      (first_append fs x.symbols ss a (next_in a d h))

  -- how a derivation goes on from a rule
  pub record GoesOn (n : ℕ) (ss : List Symbol) (ts qs : List ℕ) (after : List Symbol) (a : Option ℕ) : Type 0 where
    pub number : ℕ
    pub production : Entry
    pub rest : List ℕ
    pub there : slice_get ps number ≡ Some production
    pub rule : production.rule ≡ n
    pub chosen_at : IsChosenAt production a
    pub begins : qs ≡ number ∷ rest
    pub leads : Leads G (production.symbols ++ ss) ts rest after

  pub goes_on : {n : ℕ} {ss after : List Symbol} {ts qs : List ℕ} (a : Option ℕ) → IsStacked fs n ss → Leads G (Rule n ∷ ss) ts qs after → IsNext ts after a →
      GoesOn n ss ts qs after a
  goes_on a on stay h = absurd h
  goes_on {ss = ss} {after} {ts} a on (expand {ps = rest} n p line at rule d) h =
      let (x, there, is) = line_there ps p line at in
      let same : x.rule ≡ n = ap (λ (l : Line). l.rule) (sym is) ∙ rule in
      let leads : Leads G (x.symbols ++ ss) ts rest after = subst (λ (l : Line). Leads G (l.symbols ++ ss) ts rest after) is d in
      record {
        number = p;
        production = x;
        rest = rest;
        there = there;
        rule = same;
        chosen_at = chosen x p a there (subst (λ m. IsStacked fs m ss) (sym same) on) leads h;
        begins = refl;
        leads = leads;
      }

  stacked_more : (n : ℕ) (xs ss : List Symbol) → AreFollowed fs n xs → IsStacked fs n ss → AreStacked fs ss → AreStacked fs (xs ++ ss)
  stacked_more n [] ss f on are = are
  stacked_more n (Terminal t ∷ xs) ss f on are = stacked_more n xs ss f on are
  stacked_more n (LeftOut t ∷ xs) ss f on are = stacked_more n xs ss f on are
  stacked_more n (Close ∷ xs) ss f on are = stacked_more n xs ss f on are
  stacked_more n (Rule m ∷ xs) ss f on are = (
    record {
      known = f.0.known;
      first = λ a h. ⊎_elim
          (λ (k : IsIn (first_of fs xs) a). f.0.first a k)
          (λ (k : (nullable_of fs xs ≡ true) × IsIn (first_of fs ss) a). f.0.follow k.0 a (on.first a k.1))
          (first_append fs xs ss a h);
      ends = λ e. let (null, rest) = nullable_both fs xs ss e in f.0.ends null (on.ends rest);
    },
    stacked_more n xs ss f.1 on are,
  )

  -- the stack after a rule is replaced
  pub replaced : {n : ℕ} {ss : List Symbol} (x : Entry) (p : ℕ) → slice_get ps p ≡ Some x → x.rule ≡ n → IsStack fs (Rule n ∷ ss) → IsStack fs (x.symbols ++ ss)
  replaced {n} {ss} x p there rule stack =
      let fits = ok.each p x there in
      record {
        stacked = stacked_more n x.symbols ss (subst (λ m. AreFollowed fs m x.symbols) rule fits.followed) stack.stacked.0 stack.stacked.1;
        left_out = first_more x.symbols ss fits.left_out stack.left_out;
      }

  pub start_stacked : AreStacked fs start
  start_stacked = (record { known = ok.some; first = λ a h. absurd h; ends = λ e. ok.ends }, tt)
