-- Each document is taken by the reader, with its elements.
use Rattle.std.proofs.Common.{◌≡◌, ℕ, zero, suc, pred, ◌+◌, ◌*◌, ◌-◌, ◌<◌, ◌≤◌, ◌⊎◌, inl, inr, ⊎_elim, Bool, true, false, not, List, [], ◌∷◌, ◌++◌, length, Option, Some, None, drop, refl, sym, ◌∙◌, ap, subst, arith}
use Rattle.std.specs.Prelude.{IsTrue, IsFalse, encode_utf8, if◌then◌else◌, ◌==◌, ◌&&◌, ◌||◌, nat_le, slice_get}
use Rattle.std.specs.Str.{encode_utf8_all}
use Rattle.std.proofs.lemmas.Bool.{eqb-true, eq-eqb}
use Rattle.std.proofs.lemmas.Bool.Decides.{nat_tests}
use Rattle.std.proofs.lemmas.List.{length-drop}
use Rattle.pj_markup.specs.Characters.{is_space, starts_name, continues_name, is_quote, base, digit, is_scalar}
use Rattle.pj_markup.specs.Elements.{size, Row, Open, row_of, opened, with_name, with_attribute, with_character, with_characters, with_child}
use Rattle.pj_markup.specs.Markup as m
use Rattle.pj_markup.specs.Markup.{has_name, begins_with, UpTo, end_of_comment, end_of_instruction, end_of_section}
use Rattle.pj_markup.specs.States.{Frame, Ground, Outside, Inside, Target, Content, Value, Word, Dashes, OpenSection, Empty, EndName, Entity, Long, InComment, InInstruction, InSection, State, Begin, On, Less, Bang, Letters, Until, TagName, Tag, TagSpace, AttributeName, Equals, Quote, InValue, EndSpace, Reference, ReferenceA, Hash, Digit, Digits, in_element, ended, letters, repeated, times, take_in, take_back, behind_long, close, put, depth, may_start, behind_word, spelled, on_letter, first_digit, next_digit, step, is_deep, less_of, start_tag, at_end, run, Outcome, Whole, Stops, TooDeep}
use Rattle.pj_markup.proofs.Residual.{take_all}
use Rattle.pj_markup.proofs.Sound.{take_comment, take_instruction, take_section}

pub yes : {A : Type 0} {z : A} (b : Bool) (x y : A) → b ≡ true → x ≡ z → (if b then x else y) ≡ z
yes true x y h e = e
yes false x y h e = absurd (cc)

pub no_ : {A : Type 0} {z : A} (b : Bool) (x y : A) → b ≡ false → y ≡ z → (if b then x else y) ≡ z
no_ true x y h e = absurd (cc)
no_ false x y h e = e

or_cases : (a b : Bool) → (a || b) ≡ true → (a ≡ true) ⊎ (b ≡ true)
or_cases true b h = inl refl
or_cases false b h = inr h

-- what holds of the four characters holds of white space
pub of_space : (p : ℕ → Type 0) (c : ℕ) → is_space c ≡ true → p 32 → p 9 → p 10 → p 13 → p c
of_space p c h a b d e =
    ⊎_elim (λ x. ⊎_elim (λ y. ⊎_elim (λ z. subst p (sym (eqb-true c 32 z)) a) (λ z. subst p (sym (eqb-true c 9 z)) b) (or_cases (c == 32) (c == 9) y))
    (λ y. subst p (sym (eqb-true c 10 y)) d) (or_cases ((c == 32) || (c == 9)) (c == 10) x))
    (λ x. subst p (sym (eqb-true c 13 x)) e) (or_cases ((c == 32) || (c == 9) || (c == 10)) (c == 13) h)

pub of_quote : (p : ℕ → Type 0) (c : ℕ) → is_quote c ≡ true → p 34 → p 39 → p c
of_quote p c h a b = ⊎_elim (λ x. subst p (sym (eqb-true c 34 x)) a) (λ x. subst p (sym (eqb-true c 39 x)) b) (or_cases (c == 34) (c == 39) h)

pub and_no : (a : Bool) → (a && false) ≡ false
and_no true = refl
and_no false = refl

pub cases : (b : Bool) → (b ≡ true) ⊎ (b ≡ false)
cases true = inl refl
cases false = inr refl

-- what is told apart by a test that computes
pub unlike : (p : ℕ → Bool) (c d : ℕ) → p c ≡ true → p d ≡ false → (c == d) ≡ false
unlike p c d yes_c no_d = by (c == d) refl
  where
    by : (b : Bool) → (c == d) ≡ b → b ≡ false
    by true e = let same = eqb-true c d e in let two : true ≡ false = sym yes_c ∙ ap p same ∙ no_d in absurd (cc)
    by false e = refl

pub space_starts_no_name : (c : ℕ) → is_space c ≡ true → starts_name c ≡ false
space_starts_no_name c h = of_space (λ x. starts_name x ≡ false) c h refl refl refl refl

get_drop : (xs : List ℕ) (k l : ℕ) (ls : List ℕ) → drop k xs ≡ l ∷ ls → (slice_get xs k ≡ Some l) × (drop (suc k) xs ≡ ls) × (k < length xs)
get_drop [] zero l ls h = absurd (cc)
get_drop [] (suc k) l ls h = absurd (cc)
get_drop (x ∷ xs) zero l ls h = let a : x ≡ l = cc in let b : xs ≡ ls = cc in (ap (λ y. Some y) a, b, omega arith)
get_drop (x ∷ xs) (suc k) l ls h = let it = get_drop xs k l ls h in let lt = it.2 in (it.0, it.1, omega arith)

whole_word : (xs : List ℕ) (k : ℕ) → drop k xs ≡ [] → k ≤ length xs → (k == length xs) ≡ true
whole_word xs k h le = let n : length xs - k ≡ 0 = sym (length-drop k xs) ∙ ap length h in let same : k ≡ length xs = omega arith in eq-eqb k (length xs) same

pub part_word : (k n : ℕ) → k < n → (k == n) ≡ false
part_word k n lt = grind (arith, nat_tests)

module _ (deepest end : ℕ) where
  abbrev pub Run : State → List ℕ → Outcome
  Run s t = run deepest end s t

  picked : (b : Bool) (o : Option State) (next : State) (less at : ℕ) (t : List ℕ) → b ≡ false → o ≡ Some next →
      (if b then TooDeep less else elim o [ None ↦ Stops at | Some n ↦ Run n t ]) ≡ Run next t
  picked b o next less at t p q =
      ap (λ x. if x then TooDeep less else elim o [ None ↦ Stops at | Some n ↦ Run n t ]) p ∙ ap (λ x. elim x [ None ↦ Stops at | Some n ↦ Run n t ]) q

  pub goes : (s next : State) (c : ℕ) (t : List ℕ) → is_deep deepest s c ≡ false → step (end - size (c ∷ t)) s c ≡ Some next → Run s (c ∷ t) ≡ Run next t
  unfolding run
  goes s next c t p q = picked (is_deep deepest s c) (step (end - size (c ∷ t)) s c) next (less_of s) (end - size (c ∷ t)) t p q

  pub same_step : (r s : State) (c : ℕ) (t : List ℕ) → is_deep deepest r c ≡ false → is_deep deepest s c ≡ false → step (end - size (c ∷ t)) r c ≡ step (end - size (c ∷ t)) s c →
      Run r (c ∷ t) ≡ Run s (c ∷ t)
  unfolding run
  same_step r s c t p q e =
      ap (λ x. if x then TooDeep (less_of r) else elim (step (end - size (c ∷ t)) r c) [ None ↦ Stops (end - size (c ∷ t)) | Some n ↦ Run n t ]) p
      ∙ ap (λ x. elim x [ None ↦ Stops (end - size (c ∷ t)) | Some n ↦ Run n t ]) e
      ∙ sym (ap (λ x. if x then TooDeep (less_of s) else elim (step (end - size (c ∷ t)) s c) [ None ↦ Stops (end - size (c ∷ t)) | Some n ↦ Run n t ]) q)

  -- white space

  quote_spaces : (f : Frame) (name t r : List ℕ) → m.Spaces t r → Run (Quote f name) t ≡ Run (Quote f name) r
  quote_spaces f name t r m.Spaces.none = refl
  quote_spaces f name t r (m.Spaces.space p h) = goes (Quote f name) (Quote f name) _ _ refl (yes _ _ _ p refl) ∙ quote_spaces f name _ _ h

  equals_spaces : (f : Frame) (name t r : List ℕ) → m.Spaces t r → Run (Equals f name) t ≡ Run (Equals f name) r
  equals_spaces f name t r m.Spaces.none = refl
  equals_spaces f name t r (m.Spaces.space p h) = goes (Equals f name) (Equals f name) _ _ refl (yes _ _ _ p refl) ∙ equals_spaces f name _ _ h

  end_spaces : (f : Frame) (t r : List ℕ) → m.Spaces t r → Run (EndSpace f) t ≡ Run (EndSpace f) r
  end_spaces f t r m.Spaces.none = refl
  end_spaces f t r (m.Spaces.space p h) = goes (EndSpace f) (EndSpace f) _ _ refl (yes _ _ _ p refl) ∙ end_spaces f _ _ h

  tag_spaces : (f : Frame) (t r : List ℕ) → m.Spaces t r → Run (TagSpace f) t ≡ Run (TagSpace f) r
  tag_spaces f t r m.Spaces.none = refl
  tag_spaces f t r (m.Spaces.space {c = c} p h) = goes (TagSpace f) (TagSpace f) c _ refl (no_ _ _ _ (space_starts_no_name c p) (yes _ _ _ p refl)) ∙ tag_spaces f _ _ h

  -- names

  tag_names : (f : Frame) (begun t name r : List ℕ) → m.NameTail begun t name r →
      Run (TagName (in_element f (with_name f.element begun))) t ≡ Run (TagName (in_element f (with_name f.element name))) r
  tag_names f begun t name r m.NameTail.ended = refl
  tag_names f begun t name r (m.NameTail.further p h) = goes _ (TagName (in_element f (with_name f.element (begun ++ _ ∷ [])))) _ _ refl (yes _ _ _ p refl) ∙ tag_names f _ _ _ _ h

  pub attribute_names : (f : Frame) (begun t name r : List ℕ) → m.NameTail begun t name r → Run (AttributeName f begun) t ≡ Run (AttributeName f name) r
  attribute_names f begun t name r m.NameTail.ended = refl
  attribute_names f begun t name r (m.NameTail.further p h) = goes _ (AttributeName f (begun ++ _ ∷ [])) _ _ refl (yes _ _ _ p refl) ∙ attribute_names f _ _ _ _ h

  -- numbers

  digit_unlike : (h : Bool) (c d n : ℕ) → digit h c ≡ Some n → digit h d ≡ None → (c == d) ≡ false
  digit_unlike h c d n is none = by (c == d) refl
    where
      by : (b : Bool) → (c == d) ≡ b → b ≡ false
      by true e = let same = eqb-true c d e in let two : Some n ≡ None = sym is ∙ ap (digit h) same ∙ none in absurd (cc)
      by false e = refl

  no_end_digit : (h : Bool) → digit h 59 ≡ None
  no_end_digit true = refl
  no_end_digit false = refl

  digits : (g : Target) (h : Bool) (before c : ℕ) (t r : List ℕ) → m.Digits h before t c (59 ∷ r) → IsTrue (is_scalar c) → Run (Digits g h before) t ≡ Run (put g c) r
  digits g h before c t r m.Digits.ended ok = goes _ (put g c) 59 r refl (yes _ _ _ ok refl)
  digits g h before c t r (m.Digits.further {c = x} {d = d} is fits more) ok =
      goes _ (Digits g h (before * base h + d)) x _ refl (no_ _ _ _ (digit_unlike h x 59 d is (no_end_digit h)) (ap (next_digit g h before) is ∙ yes _ _ _ fits refl))
      ∙ digits g h _ c _ r more ok

  numbers : (g : Target) (h : Bool) (c : ℕ) (t r : List ℕ) → m.Number h t c r → Run (Digit g h) t ≡ Run (put g c) r
  numbers g h c t r (m.Number.number {c = x} {d = d} is more ok) = goes _ (Digits g h d) x _ refl (ap (first_digit g h) is) ∙ digits g h d c _ r more ok

  hash : (g : Target) (c : ℕ) (t r : List ℕ) → m.Number false t c r → Run (Hash g) t ≡ Run (put g c) r
  hash g c t r (m.Number.number {c = x} {d = d} is more ok) =
      goes _ (Digits g false d) x _ refl (no_ _ _ _ (digit_unlike false x 120 d is refl) (ap (first_digit g false) is)) ∙ digits g false d c _ r more ok

  -- references

  references : (g : Target) (c : ℕ) (t r : List ℕ) → m.Ref (38 ∷ t) c r → Run (Reference g) t ≡ Run (put g c) r
  references g c t r m.Ref.less = goes _ (Letters (Entity g (108 ∷ 116 ∷ 59 ∷ []) 60) 1) 108 _ refl refl ∙ goes _ (Letters (Entity g (108 ∷ 116 ∷ 59 ∷ []) 60) 2) 116 _ refl refl ∙ goes _ (put g 60) 59 _ refl refl
  references g c t r m.Ref.greater = goes _ (Letters (Entity g (103 ∷ 116 ∷ 59 ∷ []) 62) 1) 103 _ refl refl ∙ goes _ (Letters (Entity g (103 ∷ 116 ∷ 59 ∷ []) 62) 2) 116 _ refl refl ∙ goes _ (put g 62) 59 _ refl refl
  references g c t r m.Ref.ampersand =
      goes _ (ReferenceA g) 97 _ refl refl ∙ goes _ (Letters (Entity g (97 ∷ 109 ∷ 112 ∷ 59 ∷ []) 38) 2) 109 _ refl refl
      ∙ goes _ (Letters (Entity g (97 ∷ 109 ∷ 112 ∷ 59 ∷ []) 38) 3) 112 _ refl refl ∙ goes _ (put g 38) 59 _ refl refl
  references g c t r m.Ref.quote =
      goes _ (Letters (Entity g (113 ∷ 117 ∷ 111 ∷ 116 ∷ 59 ∷ []) 34) 1) 113 _ refl refl ∙ goes _ (Letters (Entity g (113 ∷ 117 ∷ 111 ∷ 116 ∷ 59 ∷ []) 34) 2) 117 _ refl refl
      ∙ goes _ (Letters (Entity g (113 ∷ 117 ∷ 111 ∷ 116 ∷ 59 ∷ []) 34) 3) 111 _ refl refl ∙ goes _ (Letters (Entity g (113 ∷ 117 ∷ 111 ∷ 116 ∷ 59 ∷ []) 34) 4) 116 _ refl refl
      ∙ goes _ (put g 34) 59 _ refl refl
  references g c t r m.Ref.apostrophe =
      goes _ (ReferenceA g) 97 _ refl refl ∙ goes _ (Letters (Entity g (97 ∷ 112 ∷ 111 ∷ 115 ∷ 59 ∷ []) 39) 2) 112 _ refl refl
      ∙ goes _ (Letters (Entity g (97 ∷ 112 ∷ 111 ∷ 115 ∷ 59 ∷ []) 39) 3) 111 _ refl refl ∙ goes _ (Letters (Entity g (97 ∷ 112 ∷ 111 ∷ 115 ∷ 59 ∷ []) 39) 4) 115 _ refl refl
      ∙ goes _ (put g 39) 59 _ refl refl
  references g c t r (m.Ref.decimal n) = goes _ (Hash g) 35 _ refl refl ∙ hash g c _ r n
  references g c t r (m.Ref.hexadecimal n) = goes _ (Hash g) 35 _ refl refl ∙ goes _ (Digit g true) 120 _ refl refl ∙ numbers g true c _ r n

  begins_ref : (c : ℕ) (t r : List ℕ) → m.Ref t c r → (u : List ℕ) × (t ≡ 38 ∷ u)
  begins_ref c t r m.Ref.less = (_, refl)
  begins_ref c t r m.Ref.greater = (_, refl)
  begins_ref c t r m.Ref.ampersand = (_, refl)
  begins_ref c t r m.Ref.quote = (_, refl)
  begins_ref c t r m.Ref.apostrophe = (_, refl)
  begins_ref c t r (m.Ref.decimal n) = (_, refl)
  begins_ref c t r (m.Ref.hexadecimal n) = (_, refl)

  content_reference : (f : Frame) (c : ℕ) (t r : List ℕ) → m.Ref t c r → Run (On (Inside f)) t ≡ Run (On (Inside (in_element f (with_character f.element c)))) r
  content_reference f c t r h =
      let (u, is) = begins_ref c t r h in
      ap (λ x. Run (On (Inside f)) x) is ∙ goes _ (Reference (Content f)) 38 u refl refl ∙ references (Content f) c u r (subst (λ x. m.Ref x c r) is h)

  value_reference : (f : Frame) (name : List ℕ) (q : ℕ) (value : List ℕ) (c : ℕ) (t r : List ℕ) → is_quote q ≡ true → m.Ref t c r →
      Run (InValue f name q value) t ≡ Run (InValue f name q (value ++ encode_utf8 c)) r
  value_reference f name q value c t r quote h =
      let (u, is) = begins_ref c t r h in
      ap (λ x. Run (InValue f name q value) x) is ∙ goes _ (Reference (Value f name q value)) 38 u refl (no_ (38 == q) _ _ (unlike (λ x. not (is_quote x)) 38 q refl (ap not quote)) refl)
      ∙ references (Value f name q value) c u r (subst (λ x. m.Ref x c r) is h)

  -- attributes

  values : (f : Frame) (name : List ℕ) (q : ℕ) (begun t value r : List ℕ) → is_quote q ≡ true → m.Value q begun t value r → Run (InValue f name q begun) t ≡ Run (InValue f name q value) r
  values f name q begun t value r quote m.Value.ended = refl
  values f name q begun t value r quote (m.Value.character {c = c} a b d h) =
      goes _ (InValue f name q (begun ++ encode_utf8 c)) c _ refl (no_ (c == q) _ _ a (no_ (c == 60) _ _ b (no_ (c == 38) _ _ d refl))) ∙ values f name q _ _ value r quote h
  values f name q begun t value r quote (m.Value.reference ref h) = value_reference f name q begun _ t _ quote ref ∙ values f name q _ _ value r quote h

  space_continues_no_name : (c : ℕ) → is_space c ≡ true → continues_name c ≡ false
  space_continues_no_name c h = of_space (λ x. continues_name x ≡ false) c h refl refl refl refl

  pub to_equals : (f : Frame) (name t r : List ℕ) → IsFalse (has_name (encode_utf8_all name) f.element.attributes) → m.Spaces t (61 ∷ r) → Run (AttributeName f name) t ≡ Run (Quote f name) r
  to_equals f name t r new m.Spaces.none = goes _ (Quote f name) 61 r refl (no_ _ _ _ new refl)
  to_equals f name t r new (m.Spaces.space {c = c} p h) =
      goes _ (Equals f name) c _ refl (no_ _ _ _ (space_continues_no_name c p) (no_ _ _ _ new (yes _ _ _ p refl))) ∙ equals_spaces f name _ _ h ∙ goes _ (Quote f name) 61 r refl refl

  quote_no_space : (q : ℕ) → is_quote q ≡ true → is_space q ≡ false
  quote_no_space q h = of_quote (λ x. is_space x ≡ false) q h refl refl

  attributes_one : (f : Frame) (t name value r : List ℕ) → m.Attr t name value r → IsFalse (has_name (encode_utf8_all name) f.element.attributes) →
      Run (TagSpace f) t ≡ Run (Tag (in_element f (with_attribute f.element (encode_utf8_all name) value))) r
  attributes_one f t name value r (m.Attr.attr {q = q} (m.Name.named {c = c} p n) s1 s2 quote v) new =
      goes _ (AttributeName f (c ∷ [])) c _ refl (yes _ _ _ p refl) ∙ attribute_names f _ _ name _ n ∙ to_equals f name _ _ new s1 ∙ quote_spaces f name _ _ s2
      ∙ goes _ (InValue f name q []) q _ refl (no_ _ _ _ (quote_no_space q quote) (yes _ _ _ quote refl)) ∙ values f name q [] _ value _ quote v
      ∙ goes _ (Tag (in_element f (with_attribute f.element (encode_utf8_all name) value))) q r refl (yes (q == q) _ _ (eq-eqb q q refl) refl)

  no_tag_name : (f : Frame) (c : ℕ) (t : List ℕ) → continues_name c ≡ false → Run (TagName f) (c ∷ t) ≡ Run (Tag f) (c ∷ t)
  no_tag_name f c t p = same_step (TagName f) (Tag f) c t refl refl (no_ _ _ _ p refl)

  no_tag_space : (f : Frame) (c : ℕ) (t : List ℕ) → starts_name c ≡ false → Run (TagSpace f) (c ∷ t) ≡ Run (Tag f) (c ∷ t)
  no_tag_space f c t p = same_step (TagSpace f) (Tag f) c t refl refl (no_ _ _ _ p refl)

  -- (S+ Attr)* S* up to a character that begins no name
  attributes : (f : Frame) (e whole : Open) (t : List ℕ) (c : ℕ) (r : List ℕ) → f.element ≡ e → starts_name c ≡ false → m.Attributes e t whole (c ∷ r) →
      Run (Tag f) t ≡ Run (Tag (in_element f whole)) (c ∷ r)
  attributes f e whole t c r is p (m.Attributes.none m.Spaces.none) = ap (λ x. Run (Tag (in_element f x)) (c ∷ r)) is
  attributes f e whole t c r is p (m.Attributes.none (m.Spaces.space {c = d} q h)) =
      goes (Tag f) (TagSpace f) d _ refl (yes _ _ _ q refl) ∙ tag_spaces f _ (c ∷ r) h ∙ no_tag_space f c r p ∙ ap (λ x. Run (Tag (in_element f x)) (c ∷ r)) is
  attributes f e whole t c r is p (m.Attributes.attribute {c = d} {more = more} {name = name} {value = value} {rest = rest} q s a new h) =
      goes (Tag f) (TagSpace f) d _ refl (yes _ _ _ q refl) ∙ tag_spaces f _ more s
      ∙ attributes_one f more name value rest a (subst (λ x. IsFalse (has_name (encode_utf8_all name) x.attributes)) (sym is) new)
      ∙ attributes (in_element f (with_attribute f.element (encode_utf8_all name) value)) _ whole rest c r (ap (λ x. with_attribute x (encode_utf8_all name) value) is) p h

  from_name : (f : Frame) (e whole : Open) (t : List ℕ) (c : ℕ) (r : List ℕ) → continues_name c ≡ false → m.Attributes e t whole (c ∷ r) → Run (TagName f) t ≡ Run (Tag f) t
  from_name f e whole t c r p (m.Attributes.none m.Spaces.none) = no_tag_name f c r p
  from_name f e whole t c r p (m.Attributes.none (m.Spaces.space {c = d} q h)) = no_tag_name f d _ (space_continues_no_name d q)
  from_name f e whole t c r p (m.Attributes.attribute {c = d} q s a new h) = no_tag_name f d _ (space_continues_no_name d q)

  -- words

  abbrev pub Spelled : Word → ℕ → List ℕ → Outcome
  Spelled w k t = Run (spelled w k) t

  pub word_from : (w : Word) (k : ℕ) (ls t : List ℕ) → drop k (letters w) ≡ ls → k ≤ length (letters w) → Spelled w k (ls ++ t) ≡ Run (behind_word w) t
  word_from w k [] t is le = ap (λ x. Run x t) (yes (k == length (letters w)) _ _ (whole_word (letters w) k is le) refl)
  word_from w k (l ∷ ls) t is le =
      let (get, more, lt) = get_drop (letters w) k l ls is in
      ap (λ x. Run x (l ∷ (ls ++ t))) (no_ (k == length (letters w)) (behind_word w) (Letters w k) (part_word k (length (letters w)) lt) refl)
      ∙ goes (Letters w k) (spelled w (suc k)) l (ls ++ t) refl (ap (on_letter w k l) get ∙ yes (l == l) _ _ (eq-eqb l l refl) refl)
      ∙ word_from w (suc k) ls t more (omega arith)

  pub word : (w : Word) (t : List ℕ) → Spelled w 0 (letters w ++ t) ≡ Run (behind_word w) t
  word w t = word_from w 0 (letters w) t refl (omega arith)

  pub end_tag : (f : Frame) (t r : List ℕ) → m.EndTag f.element.name t r → Run (On (Inside f)) t ≡ Run (close f) r
  end_tag f t r (m.EndTag.end_tag {text = u} {spaces = v} is s) =
      goes (On (Inside f)) (Less (Inside f) (end - size (60 ∷ 47 ∷ u))) 60 (47 ∷ u) refl refl
      ∙ goes (Less (Inside f) (end - size (60 ∷ 47 ∷ u))) (spelled (EndName f) 0) 47 u refl refl
      ∙ ap (λ x. Run (spelled (EndName f) 0) x) is ∙ word (EndName f) v ∙ end_spaces f v (62 ∷ r) s ∙ goes (EndSpace f) (close f) 62 r refl refl

  -- up to a closing sign

  pub other : (l : Long) (k c : ℕ) (t : List ℕ) → (c == repeated l) ≡ false → ((c == 62) && (k == times l)) ≡ false →
      Run (Until l k) (c ∷ t) ≡ Run (Until (take_in (take_back l k) c) 0) t
  other l k c t p q = goes (Until l k) (Until (take_in (take_back l k) c) 0) c t refl (no_ (c == repeated l) _ _ p (no_ ((c == 62) && (k == times l)) _ _ q refl))

  pub not_both : (a b : Bool) → b ≡ false → (a && b) ≡ false
  not_both a true h = absurd (cc)
  not_both a false h = and_no a

  section_two : (A : Frame) (t : List ℕ) → begins_with end_of_section (93 ∷ 93 ∷ t) ≡ false → Run (Until (InSection A) 2) t ≡ Run (Until (InSection (in_element A (with_character A.element 93))) 1) t
  unfolding run
  section_two A [] p = refl
  section_two A (d ∷ t) p = ⊎_elim
      (λ e. subst (λ y. Run (Until (InSection A) 2) (y ∷ t) ≡ Run (Until (InSection (in_element A (with_character A.element 93))) 1) (y ∷ t)) (sym (eqb-true d 93 e))
      (goes (Until (InSection A) 2) (Until (InSection (in_element A (with_character A.element 93))) 2) 93 t refl refl ∙ sym (goes (Until (InSection (in_element A (with_character A.element 93))) 1) (Until (InSection (in_element A (with_character A.element 93))) 2) 93 t refl refl)))
      (λ e. other (InSection A) 2 d t e p ∙ sym (other (InSection (in_element A (with_character A.element 93))) 1 d t e (and_no (d == 62))))
      (cases (d == 93))

  section_one : (A : Frame) (t : List ℕ) → begins_with end_of_section (93 ∷ t) ≡ false → Run (Until (InSection A) 1) t ≡ Run (Until (InSection (in_element A (with_character A.element 93))) 0) t
  unfolding run
  section_one A [] p = refl
  section_one A (d ∷ t) p = ⊎_elim
      (λ e. subst (λ y. begins_with end_of_section (93 ∷ y ∷ t) ≡ false → Run (Until (InSection A) 1) (y ∷ t) ≡ Run (Until (InSection (in_element A (with_character A.element 93))) 0) (y ∷ t)) (sym (eqb-true d 93 e))
      (λ q. goes (Until (InSection A) 1) (Until (InSection A) 2) 93 t refl refl ∙ section_two A t q ∙ sym (goes (Until (InSection (in_element A (with_character A.element 93))) 0) (Until (InSection (in_element A (with_character A.element 93))) 1) 93 t refl refl)) p)
      (λ e. other (InSection A) 1 d t e (and_no (d == 62)) ∙ sym (other (InSection (in_element A (with_character A.element 93))) 0 d t e (and_no (d == 62))))
      (cases (d == 93))

  section_up_to : (A : Frame) (t body r : List ℕ) → UpTo end_of_section t body r → Run (Until (InSection A) 0) t ≡ Run (On (behind_long (take_all (InSection A) body))) r
  section_up_to A t body r (UpTo.closed is) =
      ap (λ y. Run (Until (InSection A) 0) y) is ∙ goes (Until (InSection A) 0) (Until (InSection A) 1) 93 _ refl refl ∙ goes (Until (InSection A) 1) (Until (InSection A) 2) 93 _ refl refl
      ∙ goes (Until (InSection A) 2) (On (behind_long (InSection A))) 62 r refl refl
  section_up_to A t body r (UpTo.inside {c = c} {text = u} {body = more} p h) = ⊎_elim
      (λ e. subst (λ y. begins_with end_of_section (y ∷ u) ≡ false → Run (Until (InSection A) 0) (y ∷ u) ≡ Run (On (behind_long (take_all (InSection A) (y ∷ more)))) r) (sym (eqb-true c 93 e))
      (λ q. goes (Until (InSection A) 0) (Until (InSection A) 1) 93 u refl refl ∙ section_one A u q ∙ section_up_to (in_element A (with_character A.element 93)) u more r h) p)
      (λ e. other (InSection A) 0 c u e (and_no (c == 62)) ∙ section_up_to (in_element A (with_character A.element c)) u more r h)
      (cases (c == 93))

  comment_two : (A : Ground) (t : List ℕ) → begins_with end_of_comment (45 ∷ 45 ∷ t) ≡ false → Run (Until (InComment A) 2) t ≡ Run (Until (InComment A) 1) t
  unfolding run
  comment_two A [] p = refl
  comment_two A (d ∷ t) p = ⊎_elim
      (λ e. subst (λ y. Run (Until (InComment A) 2) (y ∷ t) ≡ Run (Until (InComment A) 1) (y ∷ t)) (sym (eqb-true d 45 e))
      (goes (Until (InComment A) 2) (Until (InComment A) 2) 45 t refl refl ∙ sym (goes (Until (InComment A) 1) (Until (InComment A) 2) 45 t refl refl)))
      (λ e. other (InComment A) 2 d t e p ∙ sym (other (InComment A) 1 d t e (and_no (d == 62))))
      (cases (d == 45))

  comment_one : (A : Ground) (t : List ℕ) → begins_with end_of_comment (45 ∷ t) ≡ false → Run (Until (InComment A) 1) t ≡ Run (Until (InComment A) 0) t
  unfolding run
  comment_one A [] p = refl
  comment_one A (d ∷ t) p = ⊎_elim
      (λ e. subst (λ y. begins_with end_of_comment (45 ∷ y ∷ t) ≡ false → Run (Until (InComment A) 1) (y ∷ t) ≡ Run (Until (InComment A) 0) (y ∷ t)) (sym (eqb-true d 45 e))
      (λ q. goes (Until (InComment A) 1) (Until (InComment A) 2) 45 t refl refl ∙ comment_two A t q ∙ sym (goes (Until (InComment A) 0) (Until (InComment A) 1) 45 t refl refl)) p)
      (λ e. other (InComment A) 1 d t e (and_no (d == 62)) ∙ sym (other (InComment A) 0 d t e (and_no (d == 62))))
      (cases (d == 45))

  comment_up_to : (A : Ground) (t body r : List ℕ) → UpTo end_of_comment t body r → Run (Until (InComment A) 0) t ≡ Run (On (behind_long (take_all (InComment A) body))) r
  comment_up_to A t body r (UpTo.closed is) =
      ap (λ y. Run (Until (InComment A) 0) y) is ∙ goes (Until (InComment A) 0) (Until (InComment A) 1) 45 _ refl refl ∙ goes (Until (InComment A) 1) (Until (InComment A) 2) 45 _ refl refl
      ∙ goes (Until (InComment A) 2) (On (behind_long (InComment A))) 62 r refl refl
  comment_up_to A t body r (UpTo.inside {c = c} {text = u} {body = more} p h) = ⊎_elim
      (λ e. subst (λ y. begins_with end_of_comment (y ∷ u) ≡ false → Run (Until (InComment A) 0) (y ∷ u) ≡ Run (On (behind_long (take_all (InComment A) (y ∷ more)))) r) (sym (eqb-true c 45 e))
      (λ q. goes (Until (InComment A) 0) (Until (InComment A) 1) 45 u refl refl ∙ comment_one A u q ∙ comment_up_to A u more r h) p)
      (λ e. other (InComment A) 0 c u e (and_no (c == 62)) ∙ comment_up_to A u more r h)
      (cases (c == 45))

  instruction_one : (A : Ground) (t : List ℕ) → begins_with end_of_instruction (63 ∷ t) ≡ false → Run (Until (InInstruction A) 1) t ≡ Run (Until (InInstruction A) 0) t
  unfolding run
  instruction_one A [] p = refl
  instruction_one A (d ∷ t) p = ⊎_elim
      (λ e. subst (λ y. Run (Until (InInstruction A) 1) (y ∷ t) ≡ Run (Until (InInstruction A) 0) (y ∷ t)) (sym (eqb-true d 63 e))
      (goes (Until (InInstruction A) 1) (Until (InInstruction A) 1) 63 t refl refl ∙ sym (goes (Until (InInstruction A) 0) (Until (InInstruction A) 1) 63 t refl refl)))
      (λ e. other (InInstruction A) 1 d t e p ∙ sym (other (InInstruction A) 0 d t e (and_no (d == 62))))
      (cases (d == 63))

  instruction_up_to : (A : Ground) (t body r : List ℕ) → UpTo end_of_instruction t body r → Run (Until (InInstruction A) 0) t ≡ Run (On (behind_long (take_all (InInstruction A) body))) r
  instruction_up_to A t body r (UpTo.closed is) =
      ap (λ y. Run (Until (InInstruction A) 0) y) is ∙ goes (Until (InInstruction A) 0) (Until (InInstruction A) 1) 63 _ refl refl
      ∙ goes (Until (InInstruction A) 1) (On (behind_long (InInstruction A))) 62 r refl refl
  instruction_up_to A t body r (UpTo.inside {c = c} {text = u} {body = more} p h) = ⊎_elim
      (λ e. subst (λ y. begins_with end_of_instruction (y ∷ u) ≡ false → Run (Until (InInstruction A) 0) (y ∷ u) ≡ Run (On (behind_long (take_all (InInstruction A) (y ∷ more)))) r) (sym (eqb-true c 63 e))
      (λ q. goes (Until (InInstruction A) 0) (Until (InInstruction A) 1) 63 u refl refl ∙ instruction_one A u q ∙ instruction_up_to A u more r h) p)
      (λ e. other (InInstruction A) 0 c u e (and_no (c == 62)) ∙ instruction_up_to A u more r h)
      (cases (c == 63))

  pub at_less : (g : Ground) (t : List ℕ) → Run (On g) (60 ∷ t) ≡ Run (Less g (end - size (60 ∷ t))) t
  at_less (Outside rows) t = goes (On (Outside rows)) (Less (Outside rows) (end - size (60 ∷ t))) 60 t refl refl
  at_less (Inside f) t = goes (On (Inside f)) (Less (Inside f) (end - size (60 ∷ t))) 60 t refl refl

  pub at_bang : (g : Ground) (t : List ℕ) → Run (On g) (60 ∷ 33 ∷ t) ≡ Run (Bang g) t
  at_bang g t = at_less g (33 ∷ t) ∙ goes (Less g (end - size (60 ∷ 33 ∷ t))) (Bang g) 33 t refl refl

  pub at_dash : (g : Ground) (t : List ℕ) → Run (Bang g) (45 ∷ 45 ∷ t) ≡ Run (Until (InComment g) 0) t
  at_dash (Outside rows) t = goes (Bang (Outside rows)) (Letters (Dashes (Outside rows)) 1) 45 (45 ∷ t) refl refl ∙ goes (Letters (Dashes (Outside rows)) 1) (Until (InComment (Outside rows)) 0) 45 t refl refl
  at_dash (Inside f) t = goes (Bang (Inside f)) (Letters (Dashes (Inside f)) 1) 45 (45 ∷ t) refl refl ∙ goes (Letters (Dashes (Inside f)) 1) (Until (InComment (Inside f)) 0) 45 t refl refl

  pub comments : (g : Ground) (t r : List ℕ) → m.Comment t r → Run (On g) t ≡ Run (On g) r
  comments g t r (m.Comment.comment {text = u} {body = body} up) =
      at_bang g (45 ∷ 45 ∷ u) ∙ at_dash g u ∙ comment_up_to g u body r up ∙ ap (λ l. Run (On (behind_long l)) r) (take_comment g body)

  pub instructions : (g : Ground) (t r : List ℕ) → m.Instruction t r → Run (On g) t ≡ Run (On g) r
  instructions g t r (m.Instruction.instruction {text = u} {body = body} up) =
      at_less g (63 ∷ u) ∙ goes (Less g (end - size (60 ∷ 63 ∷ u))) (Until (InInstruction g) 0) 63 u refl refl
      ∙ instruction_up_to g u body r up ∙ ap (λ l. Run (On (behind_long l)) r) (take_instruction g body)

  sections : (f : Frame) (t body r : List ℕ) → m.Section t body r → Run (On (Inside f)) t ≡ Run (On (Inside (in_element f (with_characters f.element body)))) r
  sections f t body r (m.Section.section {text = u} up) =
      at_bang (Inside f) (91 ∷ 67 ∷ 68 ∷ 65 ∷ 84 ∷ 65 ∷ 91 ∷ u)
      ∙ goes (Bang (Inside f)) (Letters (OpenSection f) 1) 91 _ refl refl ∙ goes _ (Letters (OpenSection f) 2) 67 _ refl refl
      ∙ goes _ (Letters (OpenSection f) 3) 68 _ refl refl ∙ goes _ (Letters (OpenSection f) 4) 65 _ refl refl
      ∙ goes _ (Letters (OpenSection f) 5) 84 _ refl refl ∙ goes _ (Letters (OpenSection f) 6) 65 _ refl refl
      ∙ goes _ (Until (InSection f) 0) 91 u refl refl
      ∙ section_up_to f u body r up ∙ ap (λ l. Run (On (behind_long l)) r) (take_section f body)

  miscs : (rows : List Row) (t r : List ℕ) → m.Miscs t r → Run (On (Outside rows)) t ≡ Run (On (Outside rows)) r
  miscs rows t r m.Miscs.none = refl
  miscs rows t r (m.Miscs.space {c = c} p h) = goes (On (Outside rows)) (On (Outside rows)) c _ refl (yes _ _ _ p refl) ∙ miscs rows _ r h
  miscs rows t r (m.Miscs.comment {further = u} k h) = comments (Outside rows) t u k ∙ miscs rows u r h
  miscs rows t r (m.Miscs.instruction {further = u} k h) = instructions (Outside rows) t u k ∙ miscs rows u r h

  -- elements

  abbrev outer_of : Ground → List Open
  outer_of (Outside rows) = []
  outer_of (Inside f) = f.element ∷ f.outer

  abbrev rows_of : Ground → List Row
  rows_of (Outside rows) = rows
  rows_of (Inside f) = f.rows

  abbrev frame_of : Ground → Open → Frame
  frame_of g e = record { rows = rows_of g; element = e; outer = outer_of g }

  not_too_deep : (a b d : Bool) → d ≡ true → (a && b && not d) ≡ false
  not_too_deep a b true h = and_no (a && b)
  not_too_deep a b false h = absurd (cc)

  pub both_true : (a b : Bool) → a ≡ true → b ≡ true → (a && b) ≡ true
  both_true true true h k = refl
  both_true true false h k = absurd (cc)
  both_true false b h k = absurd (cc)

  at_tag : (g : Ground) (at c : ℕ) (t : List ℕ) → Run (start_tag g at c) t ≡ Run (TagName (in_element (frame_of g (opened at (c ∷ []))) (with_name (opened at (c ∷ [])) (c ∷ [])))) t
  at_tag (Outside rows) at c t = refl
  at_tag (Inside f) at c t = refl

  tags : (g : Ground) (e : Open) (t : List ℕ) (c : ℕ) (r : List ℕ) → may_start g ≡ true → nat_le (depth g) deepest ≡ true → starts_name c ≡ false → continues_name c ≡ false →
      m.StartTag deepest end t e (c ∷ r) → Run (On g) t ≡ Run (Tag (frame_of g e)) (c ∷ r)
  tags g e t c r may d p q (m.StartTag.start_tag {text = u} {name = name} {more = v} (m.Name.named {c = x} {text = w} s n) a) =
      at_less g u ∙ goes (Less g (end - size (60 ∷ u))) (start_tag g (end - size (60 ∷ u)) x) x w (not_too_deep (starts_name x) (may_start g) (nat_le (depth g) deepest) d)
      (no_ (x == 33) _ _ (unlike starts_name x 33 s refl) (no_ (x == 63) _ _ (unlike starts_name x 63 s refl) (yes _ _ _ (both_true _ _ s may) refl)))
      ∙ at_tag g (end - size (60 ∷ u)) x w
      ∙ tag_names (frame_of g (opened (end - size (60 ∷ u)) (x ∷ []))) (x ∷ []) w name v n
      ∙ from_name (frame_of g (opened (end - size (60 ∷ u)) name)) _ e v c r q a
      ∙ attributes (frame_of g (opened (end - size (60 ∷ u)) name)) (opened (end - size (60 ∷ u)) name) e v c r refl p a

  end_depth : (g : Ground) → depth g ≡ suc (length (outer_of g))
  end_depth (Outside rows) = refl
  end_depth (Inside f) = refl

  abbrev pub framed : List Row → Open → List Open → Frame
  framed rows e outer = record { rows = rows; element = e; outer = outer }

  mutual
    elements : (g : Ground) (n : ℕ) (b rows : List Row) (t r : List ℕ) → n ≡ depth g → b ≡ rows_of g → may_start g ≡ true → m.Elem deepest end n b t rows r →
        Run (On g) t ≡ Run (On (ended rows (outer_of g))) r
    elements g n b rows t r is at may (m.Elem.empty {e = e} d tag) =
        tags g e t 47 (62 ∷ r) may (subst (λ k. nat_le k deepest ≡ true) is d) refl refl tag ∙ goes (Tag (frame_of g e)) (Letters (Empty (frame_of g e)) 1) 47 (62 ∷ r) refl refl
        ∙ goes (Letters (Empty (frame_of g e)) 1) (close (frame_of g e)) 62 r refl refl ∙ ap (λ x. Run (On (ended (x ++ row_of e ∷ []) (outer_of g))) r) (sym at)
    elements g n b rows t r is at may (m.Elem.full {within = within} {content = u} {rest = v} {e = e} {whole = whole} d tag content close_tag) =
        tags g e t 62 u may (subst (λ k. nat_le k deepest ≡ true) is d) refl refl tag ∙ goes (Tag (frame_of g e)) (On (Inside (frame_of g e))) 62 u refl refl
        ∙ ap (λ x. Run (On (Inside (framed x e (outer_of g)))) u) (sym at)
        ∙ contents b e (outer_of g) n within whole u v (is ∙ end_depth g) content
        ∙ end_tag (framed within whole (outer_of g)) v r close_tag

    contents : (b : List Row) (e : Open) (outer : List Open) (n : ℕ) (rows : List Row) (whole : Open) (t r : List ℕ) → n ≡ suc (length outer) →
        m.Content deepest end n b e t rows whole r → Run (On (Inside (framed b e outer))) t ≡ Run (On (Inside (framed rows whole outer))) r
    contents b e outer n rows whole t r is m.Content.none = refl
    contents b e outer n rows whole t r is (m.Content.character {c = c} p q h) =
        goes (On (Inside (framed b e outer))) (On (Inside (framed b (with_character e c) outer))) c _ refl (no_ _ _ _ p (no_ _ _ _ q refl))
        ∙ contents b (with_character e c) outer n rows whole _ r is h
    contents b e outer n rows whole t r is (m.Content.reference {c = c} {further = u} k h) =
        content_reference (framed b e outer) c t u k ∙ contents b (with_character e c) outer n rows whole u r is h
    contents b e outer n rows whole t r is (m.Content.section {body = body} {further = u} k h) =
        sections (framed b e outer) t body u k ∙ contents b (with_characters e body) outer n rows whole u r is h
    contents b e outer n rows whole t r is (m.Content.comment {further = u} k h) = comments (Inside (framed b e outer)) t u k ∙ contents b e outer n rows whole u r is h
    contents b e outer n rows whole t r is (m.Content.instruction {further = u} k h) = instructions (Inside (framed b e outer)) t u k ∙ contents b e outer n rows whole u r is h
    contents b e outer n rows whole t r is (m.Content.element {ended = between} {further = u} k h) =
        elements (Inside (framed b e outer)) (suc n) b between t u (ap (λ x. suc x) is) refl refl k
        ∙ contents between (with_child e (pred (length between))) outer n rows whole u r is h

  -- the mark at the front

  pub no_mark : (c : ℕ) (t : List ℕ) → (c == 65279) ≡ false → Run Begin (c ∷ t) ≡ Run (On (Outside [])) (c ∷ t)
  no_mark c t p = same_step Begin (On (Outside [])) c t refl refl (no_ _ _ _ p refl)

  no_mark_tag : (d : ℕ) (t r : List ℕ) (rows : List Row) → m.Elem deepest end d [] t rows r → Run Begin t ≡ Run (On (Outside [])) t
  no_mark_tag d t r rows (m.Elem.empty p (m.StartTag.start_tag n a)) = no_mark 60 _ refl
  no_mark_tag d t r rows (m.Elem.full p (m.StartTag.start_tag n a) k z) = no_mark 60 _ refl

  no_mark_front : (t u r : List ℕ) (rows : List Row) → m.Miscs t u → m.Elem deepest end 1 [] u rows r → Run Begin t ≡ Run (On (Outside [])) t
  no_mark_front t u r rows m.Miscs.none e = no_mark_tag 1 t r rows e
  no_mark_front t u r rows (m.Miscs.space {c = c} p h) e = no_mark c _ (unlike is_space c 65279 p refl)
  no_mark_front t u r rows (m.Miscs.comment (m.Comment.comment k) h) e = no_mark 60 _ refl
  no_mark_front t u r rows (m.Miscs.instruction (m.Instruction.instruction k) h) e = no_mark 60 _ refl

  marks : (t front u r : List ℕ) (rows : List Row) → m.Mark t front → m.Miscs front u → m.Elem deepest end 1 [] u rows r → Run Begin t ≡ Run (On (Outside [])) front
  marks t front u r rows m.Mark.none ms e = no_mark_front t u r rows ms e
  marks t front u r rows m.Mark.mark ms e = goes Begin (On (Outside [])) 65279 front refl refl

  pub ends_whole : (rows : List Row) (r : Row) → at_end end (On (Outside (rows ++ r ∷ []))) ≡ Whole (rows ++ r ∷ [])
  ends_whole [] r = refl
  ends_whole (x ∷ rows) r = refl

  root_whole : (d : ℕ) (t r : List ℕ) (rows : List Row) → m.Elem deepest end d [] t rows r → Run (On (Outside rows)) [] ≡ Whole rows
  unfolding run
  root_whole d t r rows (m.Elem.empty {e = e} p k) = ends_whole [] (row_of e)
  root_whole d t r rows (m.Elem.full {within = within} {whole = whole} p k c z) = ends_whole within (row_of whole)

  -- a document is taken
  pub complete : (t front u r : List ℕ) (rows : List Row) → m.Mark t front → m.Miscs front u → m.Elem deepest end 1 [] u rows r → m.Miscs r [] → Run Begin t ≡ Whole rows
  complete t front u r rows k ms e after =
      marks t front u r rows k ms e ∙ miscs [] front u ms ∙ elements (Outside []) 1 [] rows u r refl refl refl e ∙ miscs rows r [] after ∙ root_whole 1 u r rows e
