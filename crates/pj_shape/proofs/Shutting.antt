-- A node that takes no token is none of the last things that the rule around it takes: a token of that rule follows it.
-- By tests of the rules, which hold of a table once and for all.
use Rattle.std.proofs.Common.{◌≡◌, ℕ, zero, suc, ◌+◌, ◌<◌, ◌≤◌, ◌&&◌, ◌||◌, ◌⊎◌, inl, inr, Bool, true, false, not, List, [], ◌∷◌, Some, slice_get, refl, sym, ◌∙◌, subst, arith}
use Rattle.std.proofs.lemmas.Bool.{and_parts, cases_Bool}
use Rattle.pj_tree.specs.declared.kind.Kind.{Kind}
use Rattle.pj_peg_grammar.specs.Analysis.{nullable_by}
use Rattle.pj_peg_grammar.specs.Form.{Form, token, any, rule, nothing, seq, never, choice, star, maybe, ahead, not_ahead}
use Rattle.pj_peg_grammar.specs.Derivation.{Forest, no_tree, tree, append}
use Rattle.pj_peg_grammar.specs.Derives.{Outcome, To, Fails, Derives, token_is, token_not, any_is, any_not, rule_to, rule_fails, nothing_to, seq_to, seq_first, seq_second, never_fails, choice_first, choice_other, star_more, star_end, maybe_some, maybe_none, ahead_is, ahead_not, not_ahead_is, not_ahead_not}
use Rattle.pj_shape.specs.declared.shape.Shape.{Shape}
use Rattle.pj_shape.specs.declared.shape.Shape.TheVariants.{Pass, Node, Joined, Turn, Segment}
use Rattle.pj_shape.specs.Shaped.{shape_of}

-- ---- the tests

-- whether no empty node is the last that a form takes, where none is in the body of any rule, and `e` says which rules may take nothing
abbrev pub is_shut : (ℕ → Bool) → Form → Bool
is_shut e (token k) = true
is_shut e any = true
is_shut e (rule r) = not (e r)
is_shut e nothing = true
is_shut e (seq a b) = is_shut e b && (not (nullable_by e b) || is_shut e a)
is_shut e never = true
is_shut e (choice a b) = is_shut e a && is_shut e b
is_shut e (star a) = is_shut e a
is_shut e (maybe a) = is_shut e a
is_shut e (ahead a) = true
is_shut e (not_ahead a) = true

-- whether a rule of this shape may take nothing, by the kinds that may be empty
abbrev pub may_be_empty : (Kind → Bool) → Shape → Bool
may_be_empty hollow Pass = true
may_be_empty hollow (Node k) = hollow k
may_be_empty hollow (Joined k) = false
may_be_empty hollow (Turn k) = false
may_be_empty hollow (Segment k) = false

-- what is tested of each rule: `e` says which rules may take nothing
pub record IsTight (hollow : Kind → Bool) (e : ℕ → Bool) (rules : List Form) (shapes : List Shape) : Type 0 where
  pub taking : (r : ℕ) (f : Form) → slice_get rules r ≡ Some f → nullable_by e f ≡ true → e r ≡ true
  pub shut : (r : ℕ) (f : Form) → slice_get rules r ≡ Some f → is_shut e f ≡ true
  pub empty : (r : ℕ) (f : Form) → slice_get rules r ≡ Some f → e r ≡ true → may_be_empty hollow (shape_of shapes r) ≡ true

-- the same for a row of a table, and for all rows, the first of which has the number n
abbrev pub is_tight_row : (Kind → Bool) → (ℕ → Bool) → ℕ → Form → Shape → Bool
is_tight_row hollow e n f s = (not (nullable_by e f) || e n) && (is_shut e f && (not (e n) || may_be_empty hollow s))

abbrev pub are_tight_rows : (Kind → Bool) → (ℕ → Bool) → ℕ → List Form → List Shape → Bool
are_tight_rows hollow e n [] ss = true
are_tight_rows hollow e n (f ∷ fs) [] = false
are_tight_rows hollow e n (f ∷ fs) (s ∷ ss) = is_tight_row hollow e n f s && are_tight_rows hollow e (suc n) fs ss

row_of_table : (hollow : Kind → Bool) (e : ℕ → Bool) (n : ℕ) (fs : List Form) (ss : List Shape) (r : ℕ) (f : Form) → are_tight_rows hollow e n fs ss ≡ true → slice_get fs r ≡ Some f → is_tight_row hollow e (n + r) f (shape_of ss r) ≡ true
row_of_table hollow e n [] ss zero f t is = absurd (cc)
row_of_table hollow e n [] ss (suc r) f t is = absurd (cc)
row_of_table hollow e n (g ∷ fs) [] r f t is = absurd (cc)
row_of_table hollow e n (g ∷ fs) (s ∷ ss) zero f t is =
    let same : g ≡ f = cc in
    let here : n ≡ n + 0 = omega arith in
    subst (λ m. is_tight_row hollow e m f s ≡ true) here (subst (λ (x : Form). is_tight_row hollow e n x s ≡ true) same (and_parts (is_tight_row hollow e n g s) (are_tight_rows hollow e (suc n) fs ss) t).0)
row_of_table hollow e n (g ∷ fs) (s ∷ ss) (suc r) f t is =
    let here : suc n + r ≡ n + suc r = omega arith in
    subst (λ m. is_tight_row hollow e m f (shape_of ss r) ≡ true) here (row_of_table hollow e (suc n) fs ss r f (and_parts (is_tight_row hollow e n g s) (are_tight_rows hollow e (suc n) fs ss) t).1 is)

implied : (a b : Bool) → (not a || b) ≡ true → a ≡ true → b ≡ true
implied true b h is = h
implied false b h is = absurd (cc)

pub tight_by_test : (hollow : Kind → Bool) (e : ℕ → Bool) (rules : List Form) (shapes : List Shape) → are_tight_rows hollow e 0 rules shapes ≡ true → IsTight hollow e rules shapes
tight_by_test hollow e rules shapes t =
    let row : (r : ℕ) (f : Form) → slice_get rules r ≡ Some f → is_tight_row hollow e r f (shape_of shapes r) ≡ true =
    λ r f is. let here : 0 + r ≡ r = omega arith in subst (λ m. is_tight_row hollow e m f (shape_of shapes r) ≡ true) here (row_of_table hollow e 0 rules shapes r f t is) in
    record {
      taking = λ r f is h. implied (nullable_by e f) (e r) (and_parts (not (nullable_by e f) || e r) (is_shut e f && (not (e r) || may_be_empty hollow (shape_of shapes r))) (row r f is)).0 h;
      shut = λ r f is. (and_parts (is_shut e f) (not (e r) || may_be_empty hollow (shape_of shapes r)) (and_parts (not (nullable_by e f) || e r) (is_shut e f && (not (e r) || may_be_empty hollow (shape_of shapes r))) (row r f is)).1).0;
      empty = λ r f is h. implied (e r) (may_be_empty hollow (shape_of shapes r)) (and_parts (is_shut e f) (not (e r) || may_be_empty hollow (shape_of shapes r)) (and_parts (not (nullable_by e f) || e r) (is_shut e f && (not (e r) || may_be_empty hollow (shape_of shapes r))) (row r f is)).1).1 h;
    }

-- ---- derivations

-- what a rule of this shape that took the tokens from i to j makes: a node that begins before `stop`, and takes a token unless it may be empty
abbrev pub IsMadeWell : (Kind → Bool) → Shape → ℕ → ℕ → ℕ → Type 0
IsMadeWell hollow Pass i j stop = Unit {0}
IsMadeWell hollow (Node k) i j stop = (i < stop) × ((hollow k ≡ true) ⊎ (i < j))
IsMadeWell hollow (Joined k) i j stop = Unit {0}
IsMadeWell hollow (Turn k) i j stop = i < j
IsMadeWell hollow (Segment k) i j stop = i < j

abbrev pub Shut : (Kind → Bool) → List Shape → ℕ → Forest → Type 0
Shut hollow shapes stop no_tree = Unit {0}
Shut hollow shapes stop (tree r i j below after) = IsMadeWell hollow (shape_of shapes r) i j stop × Shut hollow shapes j below × Shut hollow shapes stop after

made_later : (hollow : Kind → Bool) (s : Shape) (i j m n : ℕ) → m ≤ n → IsMadeWell hollow s i j m → IsMadeWell hollow s i j n
made_later hollow Pass i j m n le h = tt
made_later hollow (Node k) i j m n le h = (let a = h.0 in omega arith, h.1)
made_later hollow (Joined k) i j m n le h = tt
made_later hollow (Turn k) i j m n le h = h
made_later hollow (Segment k) i j m n le h = h

shut_later : (hollow : Kind → Bool) (shapes : List Shape) (m n : ℕ) (d : Forest) → m ≤ n → Shut hollow shapes m d → Shut hollow shapes n d
shut_later hollow shapes m n no_tree le h = tt
shut_later hollow shapes m n (tree r i j below after) le h = (made_later hollow (shape_of shapes r) i j m n le h.0, h.1, shut_later hollow shapes m n after le h.2)

shut-append : (hollow : Kind → Bool) (shapes : List Shape) (n : ℕ) (d e : Forest) → Shut hollow shapes n d → Shut hollow shapes n e → Shut hollow shapes n (append d e)
shut-append hollow shapes n no_tree e h g = g
shut-append hollow shapes n (tree r i j below after) e h g = (h.0, h.1, shut-append hollow shapes n after e h.2 g)

not_true : (b : Bool) → not b ≡ true → b ≡ false
not_true true h = absurd (cc)
not_true false h = refl

or_cases : (a b : Bool) → (a || b) ≡ true → (a ≡ true) ⊎ (b ≡ true)
or_cases true b h = inl refl
or_cases false b h = inr h

or_none : (a b : Bool) → (a || b) ≡ false → (a ≡ false) × (b ≡ false)
or_none true b h = absurd (cc)
or_none false b h = (refl, h)

and_none : (a b : Bool) → (a && b) ≡ false → (a ≡ false) ⊎ (b ≡ false)
and_none true b h = inr h
and_none false b h = inl refl

module _ (hollow : Kind → Bool) (e : ℕ → Bool) (rules : List Form) (shapes : List Shape) (tight : IsTight hollow e rules shapes) where
  -- what is known of a form that took something
  pub record Taken (f : Form) (i j : ℕ) (d : Forest) : Type 0 where
    pub on : i ≤ j
    pub moves : nullable_by e f ≡ false → i < j
    pub before : (stop : ℕ) → j < stop → Shut hollow shapes stop d
    pub shut : is_shut e f ≡ true → Shut hollow shapes j d

  abbrev pub IsTaken : Form → ℕ → Outcome → Type 0
  IsTaken f i (To j d) = Taken f i j d
  IsTaken f i Fails = Unit {0}

  -- nothing was made
  plain : (f : Form) (i j : ℕ) → i ≤ j → (nullable_by e f ≡ false → i < j) → Taken f i j no_tree
  plain f i j le moves = record { on = le; moves = moves; before = λ stop lt. tt; shut = λ h. tt }

  same_as : (f g : Form) (i j : ℕ) (d : Forest) → Taken f i j d → (nullable_by e g ≡ false → nullable_by e f ≡ false) → (is_shut e g ≡ true → is_shut e f ≡ true) → Taken g i j d
  same_as f g i j d t n s = record { on = t.on; moves = λ h. t.moves (n h); before = t.before; shut = λ h. t.shut (s h) }

  -- what a rule makes, by whether it may take nothing
  made : (s : Shape) (r i j stop : ℕ) → i ≤ j → (e r ≡ true → may_be_empty hollow s ≡ true) → (e r ≡ false → i < j) → i < stop → IsMadeWell hollow s i j stop
  made Pass r i j stop le empty moves lt = tt
  made (Node k) r i j stop le empty moves lt = (lt, elim (cases_Bool (e r)) [ inl h ↦ inl (empty h) | inr h ↦ inr (moves h) ])
  made (Joined k) r i j stop le empty moves lt = tt
  made (Turn k) r i j stop le empty moves lt = elim (cases_Bool (e r)) [ inl h ↦ (let no_way : false ≡ true = empty h in absurd (cc)) | inr h ↦ moves h ]
  made (Segment k) r i j stop le empty moves lt = elim (cases_Bool (e r)) [ inl h ↦ (let no_way : false ≡ true = empty h in absurd (cc)) | inr h ↦ moves h ]

  not_empty : (r : ℕ) (f : Form) → slice_get rules r ≡ Some f → e r ≡ false → nullable_by e f ≡ false
  not_empty r f is h = elim (cases_Bool (nullable_by e f)) [
    | inl n ↦ (let no_way : true ≡ false = sym (tight.taking r f is n) ∙ h in absurd (cc))
    | inr n ↦ n
  ]

  rule_taken : (r i j : ℕ) (d : Forest) (f : Form) → slice_get rules r ≡ Some f → Taken f i j d → Taken (rule r) i j (tree r i j d no_tree)
  rule_taken r i j d f is t =
      let inner : Shut hollow shapes j d = t.shut (tight.shut r f is) in
      let moves : e r ≡ false → i < j = λ h. t.moves (not_empty r f is h) in
      let le = t.on in
      record {
        on = le;
        moves = moves;
        before = λ stop lt. (made (shape_of shapes r) r i j stop le (tight.empty r f is) moves (omega arith), inner, tt);
        shut = λ h. (made (shape_of shapes r) r i j j le (tight.empty r f is) moves (moves (not_true (e r) h)), inner, tt);
      }

  seq_taken : (a b : Form) (i j k : ℕ) (d f : Forest) → Taken a i j d → Taken b j k f → Taken (seq a b) i k (append d f)
  seq_taken a b i j k d f s t =
      let first = s.on in
      let second = t.on in
      record {
        on = omega arith;
        moves = λ h. elim (and_none (nullable_by e a) (nullable_by e b) h) [
          | inl n ↦ (let lt = s.moves n in omega arith)
          | inr n ↦ (let lt = t.moves n in omega arith)
        ];
        before = λ stop lt. shut-append hollow shapes stop d f (s.before stop (omega arith)) (t.before stop lt);
        shut = λ h.
            let both = and_parts (is_shut e b) (not (nullable_by e b) || is_shut e a) h in
            shut-append hollow shapes k d f
            (elim (or_cases (not (nullable_by e b)) (is_shut e a) both.1) [
              | inl n ↦ s.before k (t.moves (not_true (nullable_by e b) n))
              | inr n ↦ shut_later hollow shapes j k d second (s.shut n)
            ])
            (t.shut both.0);
      }

  star_taken : (a : Form) (i j k : ℕ) (d f : Forest) → Taken a i j d → Taken (star a) j k f → Taken (star a) i k (append d f)
  star_taken a i j k d f s t =
      let first = s.on in
      let second = t.on in
      record {
        on = omega arith;
        moves = λ h. absurd (cc);
        before = λ stop lt. shut-append hollow shapes stop d f (s.before stop (omega arith)) (t.before stop lt);
        shut = λ h. shut-append hollow shapes k d f (shut_later hollow shapes j k d second (s.shut h)) (t.shut h);
      }

  pub taken : {kinds : List ℕ} {f : Form} {i : ℕ} {o : Outcome} → Derives rules kinds f i o → IsTaken f i o
  taken (token_is {k} {i} is) = plain (token k) i (i + 1) (omega arith) (λ h. omega arith)
  taken (token_not is) = tt
  taken (any_is {i} lt) = plain any i (i + 1) (omega arith) (λ h. omega arith)
  taken (any_not le) = tt
  taken (rule_to {r} {i} {j} {d} f is x) = rule_taken r i j d f is (taken x)
  taken (rule_fails f is x) = tt
  taken (nothing_to {i}) = plain nothing i i (omega arith) (λ h. absurd (cc))
  taken (seq_to {a} {b} {i} {j} {k} {d} {e = f} x y) = seq_taken a b i j k d f (taken x) (taken y)
  taken (seq_first x) = tt
  taken (seq_second x y) = tt
  taken never_fails = tt
  taken (choice_first {a} {b} {i} {j} {d} x) = same_as a (choice a b) i j d (taken x) (λ h. (or_none (nullable_by e a) (nullable_by e b) h).0) (λ h. (and_parts (is_shut e a) (is_shut e b) h).0)
  taken (choice_other {a} {b} {i} {o} x y) = other a b i o (taken y)
    where
      other : (a b : Form) (i : ℕ) (o : Outcome) → IsTaken b i o → IsTaken (choice a b) i o
      other a b i (To j d) t = same_as b (choice a b) i j d t (λ h. (or_none (nullable_by e a) (nullable_by e b) h).1) (λ h. (and_parts (is_shut e a) (is_shut e b) h).1)
      other a b i Fails t = tt
  taken (star_more {a} {i} {j} {k} {d} {e = f} x y) = star_taken a i j k d f (taken x) (taken y)
  taken (star_end {a} {i} x) = plain (star a) i i (omega arith) (λ h. absurd (cc))
  taken (maybe_some {a} {i} {j} {d} x) = same_as a (maybe a) i j d (taken x) (λ h. absurd (cc)) (λ h. h)
  taken (maybe_none {a} {i} x) = plain (maybe a) i i (omega arith) (λ h. absurd (cc))
  taken (ahead_is {a} {i} x) = plain (ahead a) i i (omega arith) (λ h. absurd (cc))
  taken (ahead_not x) = tt
  taken (not_ahead_is {a} {i} x) = plain (not_ahead a) i i (omega arith) (λ h. absurd (cc))
  taken (not_ahead_not x) = tt
