-- What the analysis of a grammar says of its rules.
use Rattle.std.proofs.Common.{◌≡◌, ℕ, ◌+◌, ◌<◌, ◌≤◌, ◌⊎◌, Bool, true, false, List, [], ◌∷◌, ◌++◌, length, Option, Some, None, refl, sym, ◌∙◌, subst, ap, inl, inr, ⊎_elim, arith, Vec, Global, get_or}
use Rattle.std.specs.Prelude.{slice_get, unwrap_or, ◌&&◌, not, nat_lt, if◌then◌else◌}
use Rattle.std.specs.Option.{option_map}
use Rattle.std.proofs.lemmas.Bool.{cases_lt, ltb-true}
use Rattle.std.proofs.lemmas.List.{length-map}
use Rattle.std.proofs.lemmas.Option.{slice_get_within, slice_get-map, slice_get_read, get_or_from_slice_get}
use Rattle.pj_peg_grammar.specs.declared.program.Program.{Program}
use Rattle.pj_peg_grammar.specs.declared.analysis.Facts.{Facts}
use Rattle.pj_peg_grammar.specs.declared.fault.GrammarFault.{GrammarFault}
use Rattle.pj_peg_grammar.specs.declared.fault.GrammarFault.TheVariants.{LeftRecursion, EmptyRepeat, UnknownRule, Memory}
use Rattle.pj_peg_grammar.specs.Form.{Form, token, any, rule, nothing, seq, never, choice, star, maybe, ahead, not_ahead}
use Rattle.pj_peg_grammar.specs.WellFormed.{IsNullable, Begins, Reaches, calls, calls_on, Names, Repeats, NamesUnknown, IsLeftRecursive, RepeatsEmpty, HasNoFault, IsWellFormed, HaveNoFaultBelow, IsFirstFault}
use Rattle.pj_peg_grammar.specs.Analysis.{nullable_by, knows_by, repeats_by, begun_by, facts_by, is_set}
use Rattle.pj_peg_grammar.specs.Graph.{IsIn, calls_of, Comes, by_call, by_calls, IsFaultBy, IsPlacing, IsClosed, IsOrder}
use Rattle.pj_peg_grammar.specs.Analysed.{IsAnalysis}
use Rattle.pj_peg_grammar.proofs.Lists.{found, some_same}
use Rattle.pj_peg_grammar.proofs.Nullable.{nullable_closed, nullable_sound}
use Rattle.pj_peg_grammar.proofs.Marking.{within_graph}
use Rattle.pj_peg_grammar.proofs.Sets.{set_within}
use Rattle.pj_peg_grammar.proofs.Reaching as reaching
use Rattle.pj_peg_grammar.specs.Program.{form_at, forms_in}
use Rattle.pj_peg_grammar.proofs.Nodes.{length-forms_in}
use Rattle.pj_peg_grammar.proofs.FactsLemmas.{root_form, fact_at}

bool_cases : (b : Bool) → (b ≡ true) ⊎ (b ≡ false)
bool_cases true = inl refl
bool_cases false = inr refl

and_first : (a b : Bool) → (a && b) ≡ true → a ≡ true
and_first true b e = refl
and_first false b e = absurd (let z = e in cc)

and_second : (a b : Bool) → (a && b) ≡ true → b ≡ true
and_second true b e = e
and_second false b e = absurd (let z = e in cc)

and_false : (a b : Bool) → (a && b) ≡ false → (a ≡ false) ⊎ (b ≡ false)
and_false true b e = inr e
and_false false b e = inl refl

not_true : (a : Bool) → not a ≡ true → a ≡ true → ⊥
not_true true e h = let z = e in cc
not_true false e h = let z = h in cc

not_false : (a : Bool) → not a ≡ false → a ≡ true
not_false true e = refl
not_false false e = absurd (let z = e in cc)

in_left : (xs ys : List ℕ) (s : ℕ) → IsIn xs s → IsIn (xs ++ ys) s
in_left [] ys s h = absurd h
in_left (x ∷ xs) ys s (inl h) = inl h
in_left (x ∷ xs) ys s (inr h) = inr (in_left xs ys s h)

in_right : (xs ys : List ℕ) (s : ℕ) → IsIn ys s → IsIn (xs ++ ys) s
in_right [] ys s h = h
in_right (x ∷ xs) ys s h = inr (in_right xs ys s h)

in_cases : (xs ys : List ℕ) (s : ℕ) → IsIn (xs ++ ys) s → IsIn xs s ⊎ IsIn ys s
in_cases [] ys s h = inr h
in_cases (x ∷ xs) ys s (inl h) = inl (inl h)
in_cases (x ∷ xs) ys s (inr h) = ⊎_elim (λ k. inl (inr k)) (λ k. inr k) (in_cases xs ys s h)

-- the rules that a form names
pub known : (n : ℕ) (f : Form) (s : ℕ) → knows_by n f ≡ true → Names f s → s < n
known n (token k) s t h = absurd h
known n any s t h = absurd h
known n (rule r) s t h = let lt = ltb-true r n t in omega arith
known n nothing s t h = absurd h
known n (seq a b) s t (inl h) = known n a s (and_first _ _ t) h
known n (seq a b) s t (inr h) = known n b s (and_second (knows_by n a) _ t) h
known n never s t h = absurd h
known n (choice a b) s t (inl h) = known n a s (and_first _ _ t) h
known n (choice a b) s t (inr h) = known n b s (and_second (knows_by n a) _ t) h
known n (star a) s t h = known n a s t h
known n (maybe a) s t h = known n a s t h
known n (ahead a) s t h = known n a s t h
known n (not_ahead a) s t h = known n a s t h

not_below : (r n : ℕ) → nat_lt r n ≡ false → n ≤ r
not_below r n t = ⊎_elim (λ (lt : r < n). absurd (let z = sym (ltb-of r n lt) ∙ t in cc)) (λ (le : n ≤ r). le) (cases_lt r n)
  where
    ltb-of : (a b : ℕ) → a < b → nat_lt a b ≡ true
    ltb-of a b lt = grind arith

abbrev Unknown : ℕ → Form → Type 0
Unknown n f = (s : ℕ) × (Names f s × (n ≤ s))

pub unknown : (n : ℕ) (f : Form) → knows_by n f ≡ false → (s : ℕ) × (Names f s × (n ≤ s))
unknown n (token k) t = absurd (let z = t in cc)
unknown n any t = absurd (let z = t in cc)
unknown n (rule r) t = (r, (refl, not_below r n t))
unknown n nothing t = absurd (let z = t in cc)
unknown n (seq a b) t = ⊎_elim
    (λ (h : knows_by n a ≡ false). let (s, x) = unknown n a h in (s, (inl x.0, x.1)))
    (λ (h : knows_by n b ≡ false). let (s, x) = unknown n b h in (s, (inr x.0, x.1)))
    (and_false (knows_by n a) (knows_by n b) t)
unknown n never t = absurd (let z = t in cc)
unknown n (choice a b) t = ⊎_elim
    (λ (h : knows_by n a ≡ false). let (s, x) = unknown n a h in (s, (inl x.0, x.1)))
    (λ (h : knows_by n b ≡ false). let (s, x) = unknown n b h in (s, (inr x.0, x.1)))
    (and_false (knows_by n a) (knows_by n b) t)
unknown n (star a) t = unknown n a t
unknown n (maybe a) t = unknown n a t
unknown n (ahead a) t = unknown n a t
unknown n (not_ahead a) t = unknown n a t

module _ (rules : List Form) (e : ℕ → Bool) (closed : (r : ℕ) (f : Form) → slice_get rules r ≡ Some f → nullable_by e f ≡ true → e r ≡ true) where
  pub fed : (f p : Form) → repeats_by e f ≡ true → Repeats f p → IsNullable rules p → ⊥
  fed (token k) p t h x = absurd h
  fed any p t h x = absurd h
  fed (rule r) p t h x = absurd h
  fed nothing p t h x = absurd h
  fed (seq a b) p t (inl h) x = fed a p (and_first _ _ t) h x
  fed (seq a b) p t (inr h) x = fed b p (and_second (repeats_by e a) _ t) h x
  fed never p t h x = absurd h
  fed (choice a b) p t (inl h) x = fed a p (and_first _ _ t) h x
  fed (choice a b) p t (inr h) x = fed b p (and_second (repeats_by e a) _ t) h x
  fed (star a) p t (inl h) x = not_true (nullable_by e a) (and_first _ _ t) (nullable_closed rules e closed (subst (IsNullable rules) h x))
  fed (star a) p t (inr h) x = fed a p (and_second (not (nullable_by e a)) _ t) h x
  fed (maybe a) p t h x = fed a p t h x
  fed (ahead a) p t h x = fed a p t h x
  fed (not_ahead a) p t h x = fed a p t h x

module _ (rules : List Form) (e : ℕ → Bool)
    (sound : (r : ℕ) → e r ≡ true → IsNullable rules (rule r))
    (closed : (r : ℕ) (f : Form) → slice_get rules r ≡ Some f → nullable_by e f ≡ true → e r ≡ true) where
  pub repeated : (f : Form) → repeats_by e f ≡ false → (p : Form) × (Repeats f p × IsNullable rules p)
  repeated (token k) t = absurd (let z = t in cc)
  repeated any t = absurd (let z = t in cc)
  repeated (rule r) t = absurd (let z = t in cc)
  repeated nothing t = absurd (let z = t in cc)
  repeated (seq a b) t = ⊎_elim
      (λ (h : repeats_by e a ≡ false). let (p, x) = repeated a h in (p, (inl x.0, x.1)))
      (λ (h : repeats_by e b ≡ false). let (p, x) = repeated b h in (p, (inr x.0, x.1)))
      (and_false (repeats_by e a) (repeats_by e b) t)
  repeated never t = absurd (let z = t in cc)
  repeated (choice a b) t = ⊎_elim
      (λ (h : repeats_by e a ≡ false). let (p, x) = repeated a h in (p, (inl x.0, x.1)))
      (λ (h : repeats_by e b ≡ false). let (p, x) = repeated b h in (p, (inr x.0, x.1)))
      (and_false (repeats_by e a) (repeats_by e b) t)
  repeated (star a) t = ⊎_elim
      (λ (h : not (nullable_by e a) ≡ false). (a, (inl refl, nullable_sound rules e sound a (not_false _ h))))
      (λ (h : repeats_by e a ≡ false). let (p, x) = repeated a h in (p, (inr x.0, x.1)))
      (and_false (not (nullable_by e a)) (repeats_by e a) t)
  repeated (maybe a) t = repeated a t
  repeated (ahead a) t = repeated a t
  repeated (not_ahead a) t = repeated a t

  abbrev Rest : Form → Bool → List ℕ
  Rest b x = if x then begun_by e b else []

  rest_in : (a b : Form) (s : ℕ) → nullable_by e a ≡ true → IsIn (begun_by e b) s → IsIn (Rest b (nullable_by e a)) s
  rest_in a b s h k = subst (λ x. IsIn (Rest b x) s) (sym h) k

  rest_of : (a b : Form) (s : ℕ) → IsIn (Rest b (nullable_by e a)) s → (nullable_by e a ≡ true) × IsIn (begun_by e b) s
  rest_of a b s h = ⊎_elim
      (λ (t : nullable_by e a ≡ true). (t, subst (λ x. IsIn (Rest b x) s) t h))
      (λ (t : nullable_by e a ≡ false). absurd (subst (λ x. IsIn (Rest b x) s) t h))
      (bool_cases (nullable_by e a))

  pub begun_sound : (f : Form) (s : ℕ) → IsIn (begun_by e f) s → Begins rules f s
  begun_sound (token k) s h = absurd h
  begun_sound any s h = absurd h
  begun_sound (rule r) s (inl h) = h
  begun_sound (rule r) s (inr h) = absurd h
  begun_sound nothing s h = absurd h
  begun_sound (seq a b) s h = ⊎_elim
      (λ (k : IsIn (begun_by e a) s). inl (begun_sound a s k))
      (λ (k : IsIn (Rest b (nullable_by e a)) s). let (t, x) = rest_of a b s k in inr (nullable_sound rules e sound a t, begun_sound b s x))
      (in_cases (begun_by e a) _ s h)
  begun_sound never s h = absurd h
  begun_sound (choice a b) s h = ⊎_elim
      (λ (k : IsIn (begun_by e a) s). inl (begun_sound a s k))
      (λ (k : IsIn (begun_by e b) s). inr (begun_sound b s k))
      (in_cases (begun_by e a) (begun_by e b) s h)
  begun_sound (star a) s h = begun_sound a s h
  begun_sound (maybe a) s h = begun_sound a s h
  begun_sound (ahead a) s h = begun_sound a s h
  begun_sound (not_ahead a) s h = begun_sound a s h

  pub begun_all : (f : Form) (s : ℕ) → Begins rules f s → IsIn (begun_by e f) s
  begun_all (token k) s h = absurd h
  begun_all any s h = absurd h
  begun_all (rule r) s h = inl h
  begun_all nothing s h = absurd h
  begun_all (seq a b) s (inl h) = in_left (begun_by e a) _ s (begun_all a s h)
  begun_all (seq a b) s (inr h) = in_right (begun_by e a) (Rest b (nullable_by e a)) s (rest_in a b s (nullable_closed rules e closed h.0) (begun_all b s h.1))
  begun_all never s h = absurd h
  begun_all (choice a b) s (inl h) = in_left (begun_by e a) _ s (begun_all a s h)
  begun_all (choice a b) s (inr h) = in_right (begun_by e a) _ s (begun_all b s h)
  begun_all (star a) s h = begun_all a s h
  begun_all (maybe a) s h = begun_all a s h
  begun_all (ahead a) s h = begun_all a s h
  begun_all (not_ahead a) s h = begun_all a s h

pub begins_names : (rules : List Form) (f : Form) (s : ℕ) → Begins rules f s → Names f s
begins_names rules (token k) s h = absurd h
begins_names rules any s h = absurd h
begins_names rules (rule r) s h = h
begins_names rules nothing s h = absurd h
begins_names rules (seq a b) s (inl h) = inl (begins_names rules a s h)
begins_names rules (seq a b) s (inr h) = inr (begins_names rules b s h.1)
begins_names rules never s h = absurd h
begins_names rules (choice a b) s (inl h) = inl (begins_names rules a s h)
begins_names rules (choice a b) s (inr h) = inr (begins_names rules b s h)
begins_names rules (star a) s h = begins_names rules a s h
begins_names rules (maybe a) s h = begins_names rules a s h
begins_names rules (ahead a) s h = begins_names rules a s h
begins_names rules (not_ahead a) s h = begins_names rules a s h

module _ (rules : List Form) (p : Program) (facts : List Facts) (graph : List (Vec ℕ Global)) (a : IsAnalysis rules p facts graph) where
  abbrev E : ℕ → Bool
  E = is_set a.empty

  pub graph_length : length graph ≡ length rules
  graph_length =
      let e = ap length a.graph_is in
      let g = length-map graph (λ (v : Vec ℕ Global). v.items) in
      let r = length-map rules (begun_by (is_set a.empty)) in
      omega arith

  calls_are : (r : ℕ) (f : Form) → slice_get rules r ≡ Some f → calls_of graph r ≡ begun_by E f
  calls_are r f is =
      let items : option_map (λ (v : Vec ℕ Global). v.items) (slice_get graph r) ≡ Some (begun_by E f) =
      sym (slice_get-map (λ (v : Vec ℕ Global). v.items) graph r) ∙ ap (λ l. slice_get l r) a.graph_is ∙ slice_get-map (begun_by E) rules r ∙ ap (option_map (begun_by E)) is in
      ap (λ o. unwrap_or o []) items

  pub call_begins : (r s : ℕ) (f : Form) → slice_get rules r ≡ Some f → IsIn (calls_of graph r) s → Begins rules f s
  call_begins r s f is h = begun_sound rules E a.empty_are.sound a.empty_are.closed f s (subst (λ l. IsIn l s) (calls_are r f is) h)

  pub begins_call : (r s : ℕ) (f : Form) → slice_get rules r ≡ Some f → Begins rules f s → IsIn (calls_of graph r) s
  begins_call r s f is h = subst (λ l. IsIn l s) (sym (calls_are r f is)) (begun_all rules E a.empty_are.sound a.empty_are.closed f s h)

  comes_reaches : (r s : ℕ) → Comes graph r s → Reaches rules r s
  comes_reaches r s (by_call h) =
      let lt = within_graph graph r r s h in
      let len = graph_length in
      let (f, is) = found rules r (omega arith) in
      calls f is (call_begins r s f is h)
  comes_reaches r s (by_calls {s = q} x y) = calls_on (comes_reaches r q x) (comes_reaches q s y)

  reaches_comes : (r s : ℕ) → Reaches rules r s → Comes graph r s
  reaches_comes r s (calls f is b) = by_call (begins_call r s f is b)
  reaches_comes r s (calls_on {s = q} x y) = by_calls (reaches_comes r q x) (reaches_comes q s y)

  module _ (r : ℕ) (f : Form) (fact : Facts) (is : slice_get rules r ≡ Some f) (fact_is : fact ≡ facts_by E (length rules) f) where
    knows : fact.known ≡ knows_by (length rules) f
    knows = ap (λ (x : Facts). x.known) fact_is

    feeds : fact.repeats ≡ repeats_by E f
    feeds = ap (λ (x : Facts). x.repeats) fact_is

    all_known : fact.known ≡ true → NamesUnknown rules r → ⊥
    all_known t (g, at, (s, (names, le))) =
        let lt = known (length rules) f s (sym knows ∙ t) (subst (λ x. Names x s) (some_same at is) names) in omega arith

    all_fed : fact.repeats ≡ true → RepeatsEmpty rules r → ⊥
    all_fed t (g, at, (q, (repeats, empty))) =
        fed rules E a.empty_are.closed f q (sym feeds ∙ t) (subst (λ x. Repeats x q) (some_same at is) repeats) empty

    -- a rule in which no fault was found has none
    pub no_fault : IsFaultBy fact graph r None → HasNoFault rules r
    no_fault h = record {
      no_unknown_rule = all_known h.0;
      no_left_recursion = λ x. h.1 (reaches_comes r r x);
      no_empty_repeat = all_fed h.2;
    }

    -- the fault that was found is the rule's first one
    pub the_fault : (fault : GrammarFault) → IsFaultBy fact graph r (Some fault) → HaveNoFaultBelow rules r → IsFirstFault rules fault
    the_fault (UnknownRule q) h below = subst (λ n. HaveNoFaultBelow rules n × NamesUnknown rules n) (sym h.0)
        (below, (f, is, unknown (length rules) f (sym knows ∙ h.1)))
    the_fault (LeftRecursion q) h below = subst (λ n. HaveNoFaultBelow rules n × (¬ NamesUnknown rules n) × IsLeftRecursive rules n) (sym h.0)
        (below, all_known h.1, comes_reaches r r h.2)
    the_fault (EmptyRepeat q) h below = subst (λ n. HaveNoFaultBelow rules n × (¬ NamesUnknown rules n) × (¬ IsLeftRecursive rules n) × RepeatsEmpty rules n) (sym h.0)
        (below, all_known h.1, (λ x. h.2 (reaches_comes r r x)), (f, is, repeated rules E a.empty_are.sound a.empty_are.closed f (sym feeds ∙ h.3)))
    the_fault Memory h below = absurd h

  -- the order in which all rules of a well-formed grammar are placed
  pub order_of : (order : List ℕ) (placed : List Bool) → IsPlacing graph order placed → IsClosed graph placed → IsWellFormed rules → IsOrder rules order
  order_of order placed placing closed well = record {
    each = λ k r at.
        let lt = set_within placed r (placing.each k r at) in
        let count = placing.count in
        let len = graph_length in
        omega arith;
    listed = λ r lt. placing.listed r (all r lt);
    after = λ k r s f at is b. placing.after k r s at (begins_call r s f is b);
  }
    where
      all : (r : ℕ) → r < length rules → is_set placed r ≡ true
      all = reaching.by_calls rules (λ r lt. (well.none r lt).no_left_recursion) (λ r. is_set placed r ≡ true)
          (λ r f is below.
          let lt = slice_get_within rules r f is in
          let len = graph_length in
          closed.closed r (omega arith) (λ s call.
          let b = call_begins r s f is call in
          below s b (⊎_elim
          (λ (s_lt : s < length rules). s_lt)
          (λ (le : length rules ≤ s). absurd ((well.none r lt).no_unknown_rule (f, is, (s, (begins_names rules f s b, le)))))
          (cases_lt s (length rules)))))

-- a well-formed grammar has no fault
pub accepted : (rules : List Form) (fault : GrammarFault) → IsWellFormed rules → IsFirstFault rules fault → fault ≡ Memory
accepted rules (UnknownRule q) well (below, (f, is, x)) = absurd ((well.none q (slice_get_within rules q f is)).no_unknown_rule (f, is, x))
accepted rules (LeftRecursion q) well (below, all_there, x) = absurd ((well.none q (reaches_within q q x)).no_left_recursion x)
  where
    reaches_within : (r s : ℕ) → Reaches rules r s → r < length rules
    reaches_within r s (calls f is b) = slice_get_within rules r f is
    reaches_within r s (calls_on {s = m} y z) = reaches_within r m y
accepted rules (EmptyRepeat q) well (below, all_there, moves, (f, is, x)) = absurd ((well.none q (slice_get_within rules q f is)).no_empty_repeat (f, is, x))
accepted rules Memory well h = refl

-- the fact that was read for a rule
pub fact_of : (rules : List Form) (p : Program) (facts : List Facts) (graph : List (Vec ℕ Global)) (a : IsAnalysis rules p facts graph) (r k : ℕ) → r < length rules → k ≡ get_or p.roots.items r k →
    (k < length facts) × ((f : Form) × (slice_get rules r ≡ Some f) × ((fact : Facts) → fact ≡ get_or facts k fact → fact ≡ facts_by (is_set a.empty) (length rules) f))
fact_of rules p facts graph a r k lt is =
    let forms = forms_in p.nodes.items in
    let len = length-map p.roots.items (form_at forms) in
    let same = ap length a.rules_are in
    let at : slice_get p.roots.items r ≡ Some k = slice_get_read p.roots.items (length p.roots.items) r k refl (omega arith) is in
    let there = a.program_is.there r k at in
    let facts_len = ap length a.facts_are in
    let mapped = length-map forms (facts_by (is_set a.empty) (length rules)) in
    let nodes_len = length-forms_in p.nodes.items in (
      omega arith,
      (
        form_at forms k,
        ap (λ (l : List Form). slice_get l r) (sym a.rules_are) ∙ root_form p r k at,
        λ fact fact_is. fact_is ∙ get_or_from_slice_get facts k _ fact (fact_at (facts_by (is_set a.empty) (length rules)) p.nodes.items facts k a.facts_are there),
      ),
    )

pub sound_more : (rules : List Form) (r : ℕ) → HaveNoFaultBelow rules r → HasNoFault rules r → HaveNoFaultBelow rules (r + 1)
sound_more rules r below here q lt = ⊎_elim
    (λ (before : q < r). below q before)
    (λ (le : r ≤ q). let same : r ≡ q = omega arith in subst (HasNoFault rules) same here)
    (cases_lt q r)

pub fault_at : (fact : Facts) (graph lent : List (Vec ℕ Global)) (r : ℕ) (o q : Option GrammarFault) → lent ≡ graph → o ≡ q → IsFaultBy fact lent r o → IsFaultBy fact graph r q
fault_at fact graph lent r o q e h x = subst (λ (g : List (Vec ℕ Global)). IsFaultBy fact g r q) e (subst (IsFaultBy fact lent r) h x)
