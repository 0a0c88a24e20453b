-- What the reader takes for a document is one.
use Rattle.std.proofs.Common.{◌≡◌, ℕ, zero, suc, pred, ◌+◌, ◌*◌, ◌-◌, ◌≤◌, Bool, true, false, not, List, [], ◌∷◌, ◌++◌, length, Option, Some, None, drop, replicate, refl, sym, ◌∙◌, ap, subst, arith}
use Rattle.std.specs.Prelude.{IsTrue, IsFalse, if◌then◌else◌, ◌==◌, ◌&&◌, nat_le, slice_get}
use Rattle.std.specs.Str.{encode_utf8_all}
use Rattle.std.proofs.lemmas.Bool.{eqb-true, leb-true}
use Rattle.std.proofs.lemmas.Bool.Decides.{nat_tests}
use Rattle.std.proofs.Math.ListN.{drop_of_length-le}
use Rattle.pj_markup.specs.Characters.{is_space, starts_name, continues_name, is_quote, base, digit, greatest, is_scalar}
use Rattle.pj_markup.specs.Elements.{size, Row, Open, row_of, opened, with_character, with_characters, with_child}
use Rattle.pj_markup.specs.Markup as m
use Rattle.pj_markup.specs.Markup.{has_name, UpTo}
use Rattle.pj_markup.specs.States.{Frame, Ground, Outside, Inside, Target, Content, Value, Word, Dashes, OpenSection, Empty, EndName, Entity, Long, InComment, InInstruction, InSection, State, Begin, On, Less, Bang, Letters, Until, TagName, Tag, TagSpace, AttributeName, Equals, Quote, InValue, EndSpace, Reference, ReferenceA, Hash, Digit, Digits, in_element, ended, letters, repeated, times, take_in, take_back, behind_long, put, depth, may_start, is_nil, behind_word, on_ground, on_less, on_slash, on_bang, on_letter, on_long, on_tag, on_equals, on_reference, on_reference_a, first_digit, next_digit, step, is_deep, less_of, start_tag, at_end, run, Outcome, Whole, Stops, TooDeep}
use Rattle.pj_markup.proofs.Residual.{sign, take_all, Closing, root, outer, In, within, Out, before, after, OnGround, TagEnd, empty, full, InTag, BehindSpace, done, attribute, AtValue, AtQuote, AtEquals, AtEndSpace, Puts, AtLong, BehindWord, ToCome, Goes}

-- what a reference goes into, before it
abbrev put_back : Target → State
put_back (Content f) = On (Inside f)
put_back (Value f name quote value) = InValue f name quote value

pub and_both : (a b : Bool) → (a && b) ≡ true → (a ≡ true) × (b ≡ true)
and_both true true h = (refl, refl)
and_both true false h = absurd (cc)
and_both false b h = absurd (cc)

nil_of : (rows : List Row) → is_nil rows ≡ true → rows ≡ []
nil_of [] h = refl
nil_of (r ∷ rows) h = absurd (cc)

not_nil : (rows : List Row) (r : Row) → rows ++ r ∷ [] ≡ [] → ⊥
not_nil [] r h = cc
not_nil (x ∷ rows) r h = cc

pub take_comment : (g : Ground) (body : List ℕ) → take_all (InComment g) body ≡ InComment g
take_comment g [] = refl
take_comment g (c ∷ body) = take_comment g body

pub take_instruction : (g : Ground) (body : List ℕ) → take_all (InInstruction g) body ≡ InInstruction g
take_instruction g [] = refl
take_instruction g (c ∷ body) = take_instruction g body

pub take_section : (f : Frame) (body : List ℕ) → take_all (InSection f) body ≡ InSection (in_element f (with_characters f.element body))
take_section f [] = refl
take_section f (c ∷ body) = take_section (in_element f (with_character f.element c)) body

pub drop_at : (xs : List ℕ) (k l : ℕ) → slice_get xs k ≡ Some l → drop k xs ≡ l ∷ drop (suc k) xs
drop_at [] zero l h = absurd (cc)
drop_at [] (suc k) l h = absurd (cc)
drop_at (x ∷ xs) zero l h = let e : x ≡ l = cc in ap (λ y. y ∷ xs) e
drop_at (x ∷ xs) (suc k) l h = drop_at xs k l h

drop_all : (xs : List ℕ) (k : ℕ) → k ≡ length xs → drop k xs ≡ []
drop_all xs k h = let le : length xs ≤ k = omega arith in drop_of_length-le xs le

module _ (deepest end : ℕ) (final : List Row) where
  abbrev Then : State → List ℕ → Type 0
  Then s t = ToCome deepest end final s t

  abbrev Goes_on : Option State → List ℕ → Type 0
  Goes_on o t = Goes deepest end final o t

  abbrev Ground_on : Ground → List ℕ → Type 0
  Ground_on g t = OnGround deepest end final g t

  -- by the cases of a test
  split : {goal : Type 0} (b : Bool) (x y : Option State) (t : List ℕ) → Goes_on (if b then x else y) t → (b ≡ true → Goes_on x t → goal) → (b ≡ false → Goes_on y t → goal) → goal
  split true x y t h f g = f refl h
  split false x y t h f g = g refl h

  closing : (rows : List Row) (r : Row) (around : List Open) (t : List ℕ) → Ground_on (ended (rows ++ r ∷ []) around) t → Closing deepest end final (rows ++ r ∷ []) around t
  closing rows r [] t (before n ms e ns is) = absurd (not_nil rows r n)
  closing rows r [] t (after y ms is) = root ms is
  closing rows r (g ∷ around) t h = outer h

  on_outside : (rows : List Row) (at c : ℕ) (t : List ℕ) → at ≡ end - size (c ∷ t) → Goes_on (on_ground (Outside rows) at c) t → Out deepest end final rows (c ∷ t)
  on_outside rows at c t o h =
      split (is_space c) _ _ t h (λ p k. out_space p k)
      (λ p k. split (c == 60) _ _ t k (λ q l. let e = eqb-true c 60 q in subst (λ x. Out deepest end final rows (x ∷ t)) (sym e) (l (o ∙ ap (λ x. end - size (x ∷ t)) e))) (λ q l. absurd l))
    where
      out_space : IsTrue (is_space c) → Out deepest end final rows t → Out deepest end final rows (c ∷ t)
      out_space p (before n ms e ns is) = before n (m.Miscs.space p ms) e ns is
      out_space p (after y ms is) = after y (m.Miscs.space p ms) is

  in_character : {rows : List Row} {e : Open} {around : List Open} {t : List ℕ} (c : ℕ) → IsFalse (c == 60) → IsFalse (c == 38) →
      In deepest end final rows (with_character e c) around t → In deepest end final rows e around (c ∷ t)
  in_character c p q (within k n z) = within (m.Content.character p q k) n z

  in_reference : {rows : List Row} {e : Open} {around : List Open} {t behind : List ℕ} (c : ℕ) → m.Ref t c behind →
      In deepest end final rows (with_character e c) around behind → In deepest end final rows e around t
  in_reference c r (within k n z) = within (m.Content.reference r k) n z

  puts : (g : Target) (c : ℕ) (t behind : List ℕ) → m.Ref t c behind → Puts deepest end final g c behind → Then (put_back g) t
  puts (Content f) c t behind r h = in_reference c r h
  puts (Value f name quote value) c t behind r (v, b, k, z) = (v, b, m.Value.reference r k, z)

  in_ground : (f : Frame) (at c : ℕ) (t : List ℕ) → at ≡ end - size (c ∷ t) → Goes_on (on_ground (Inside f) at c) t → In deepest end final f.rows f.element f.outer (c ∷ t)
  in_ground f at c t o h =
      split (c == 60) _ _ t h (λ q l. let e = eqb-true c 60 q in subst (λ x. In deepest end final f.rows f.element f.outer (x ∷ t)) (sym e) (l (o ∙ ap (λ x. end - size (x ∷ t)) e)))
      (λ p k. split (c == 38) _ _ t k
      (λ q l. let e = eqb-true c 38 q in subst (λ x. In deepest end final f.rows f.element f.outer (x ∷ t)) (sym e) (in_reference l.0 l.2 l.3))
      (λ q l. in_character c p q l))

  on_both : (g : Ground) (at c : ℕ) (t : List ℕ) → at ≡ end - size (c ∷ t) → Goes_on (on_ground g at c) t → Ground_on g (c ∷ t)
  on_both (Outside rows) = on_outside rows
  on_both (Inside f) = in_ground f

  -- start tags

  tagged : (f : Frame) (t : List ℕ) → TagEnd deepest end final f t → InTag deepest end final f t
  tagged f t z = (f.element, t, m.Attributes.none m.Spaces.none, z)

  spaced : (f : Frame) (c : ℕ) (t : List ℕ) → IsTrue (is_space c) → BehindSpace deepest end final f t → InTag deepest end final f (c ∷ t)
  spaced f c t p (done s z) = (f.element, _, m.Attributes.none (m.Spaces.space p s), z)
  spaced f c t p (attribute s a new (e, b, more, z)) = (e, b, m.Attributes.attribute p s a new more, z)

  tag_end : (f : Frame) (c : ℕ) (t : List ℕ) → Goes_on (if c == 47 then Some (Letters (Empty f) 1) else (if c == 62 then Some (On (Inside f)) else None)) t → TagEnd deepest end final f (c ∷ t)
  tag_end f c t h =
      split (c == 47) _ _ t h (λ p k. slashed c (eqb-true c 47 p) t k)
      (λ p k. split (c == 62) _ _ t k (λ q l. subst (λ x. TagEnd deepest end final f (x ∷ t)) (sym (eqb-true c 62 q)) (full l)) (λ q l. absurd l))
    where
      slashed : (c : ℕ) → c ≡ 47 → (t : List ℕ) → Then (Letters (Empty f) 1) t → TagEnd deepest end final f (c ∷ t)
      slashed c e t (rest, is, z) =
          subst (λ x. TagEnd deepest end final f (x ∷ t)) (sym e) (subst (λ x. TagEnd deepest end final f (47 ∷ x)) (sym is) (empty (closing f.rows (row_of f.element) f.outer rest z)))

  in_tag : (f : Frame) (c : ℕ) (t : List ℕ) → Goes_on (on_tag f c) t → InTag deepest end final f (c ∷ t)
  in_tag f c t h = split (is_space c) _ _ t h (λ p k. spaced f c t p k) (λ p k. tagged f (c ∷ t) (tag_end f c t k))

  in_tag_space : (f : Frame) (c : ℕ) (t : List ℕ) → Goes_on (on_tag f c) t → BehindSpace deepest end final f (c ∷ t)
  in_tag_space f c t h = split (is_space c) _ _ t h (λ p k. more_space p k) (λ p k. done m.Spaces.none (tag_end f c t k))
    where
      more_space : IsTrue (is_space c) → BehindSpace deepest end final f t → BehindSpace deepest end final f (c ∷ t)
      more_space p (done s z) = done (m.Spaces.space p s) z
      more_space p (attribute s a new z) = attribute (m.Spaces.space p s) a new z

  begins_attribute : (f : Frame) (c : ℕ) (t : List ℕ) → IsTrue (starts_name c) → Then (AttributeName f (c ∷ [])) t → BehindSpace deepest end final f (c ∷ t)
  begins_attribute f c t p (name, rest, n, new, (r1, s1, (q, r2, s2, iq, (v, b, val, z)))) =
      attribute m.Spaces.none (m.Attr.attr (m.Name.named p n) s1 s2 iq val) new z

  equals : (f : Frame) (name : List ℕ) (c : ℕ) (t : List ℕ) → Goes_on (on_equals f name c) t → AtEquals deepest end final f name (c ∷ t)
  equals f name c t h =
      split (is_space c) _ _ t h (λ p k. (k.0, m.Spaces.space p k.1, k.2))
      (λ p k. split (c == 61) _ _ t k (λ q l. subst (λ x. AtEquals deepest end final f name (x ∷ t)) (sym (eqb-true c 61 q)) (t, m.Spaces.none, l)) (λ q l. absurd l))

  quoted : (f : Frame) (name : List ℕ) (c : ℕ) (t : List ℕ) → Goes_on (step 0 (Quote f name) c) t → AtQuote deepest end final f name (c ∷ t)
  quoted f name c t h =
      split (is_space c) _ _ t h (λ p k. (k.0, k.1, m.Spaces.space p k.2, k.3, k.4))
      (λ p k. split (is_quote c) _ _ t k (λ q l. (c, t, m.Spaces.none, q, l)) (λ q l. absurd l))

  valued : (f : Frame) (name : List ℕ) (quote : ℕ) (value : List ℕ) (c : ℕ) (t : List ℕ) → Goes_on (step 0 (InValue f name quote value) c) t →
      AtValue deepest end final f name quote value (c ∷ t)
  valued f name quote value c t h =
      split (c == quote) _ _ t h
      (λ p k. subst (λ x. AtValue deepest end final f name quote value (x ∷ t)) (sym (eqb-true c quote p)) (value, t, m.Value.ended, k))
      (λ p k. split (c == 60) _ _ t k (λ q l. absurd l)
      (λ q l. split (c == 38) _ _ t l
      (λ r n. subst (λ x. AtValue deepest end final f name quote value (x ∷ t)) (sym (eqb-true c 38 r)) (puts (Value f name quote value) n.0 (38 ∷ t) n.1 n.2 n.3))
      (λ r n. (n.0, n.1, m.Value.character p q r n.2, n.3))))

  -- names

  tag_name : (f : Frame) (c : ℕ) (t : List ℕ) → Goes_on (step 0 (TagName f) c) t → Then (TagName f) (c ∷ t)
  tag_name f c t h =
      split (continues_name c) _ _ t h (λ p k. (k.0, k.1, m.NameTail.further p k.2, k.3))
      (λ p k. (f.element.name, c ∷ t, m.NameTail.ended, in_tag f c t k))

  attribute_name : (f : Frame) (name : List ℕ) (c : ℕ) (t : List ℕ) → Goes_on (step 0 (AttributeName f name) c) t → Then (AttributeName f name) (c ∷ t)
  attribute_name f name c t h =
      split (continues_name c) _ _ t h (λ p k. (k.0, k.1, m.NameTail.further p k.2, k.3, k.4))
      (λ p k. split (has_name (encode_utf8_all name) f.element.attributes) _ _ t k (λ q l. absurd l)
      (λ q l. (name, c ∷ t, m.NameTail.ended, q, equals f name c t l)))

  end_space : (f : Frame) (c : ℕ) (t : List ℕ) → Goes_on (step 0 (EndSpace f) c) t → AtEndSpace deepest end final f (c ∷ t)
  end_space f c t h =
      split (is_space c) _ _ t h (λ p k. (k.0, m.Spaces.space p k.1, k.2))
      (λ p k. split (c == 62) _ _ t k (λ q l. subst (λ x. AtEndSpace deepest end final f (x ∷ t)) (sym (eqb-true c 62 q)) (t, m.Spaces.none, l)) (λ q l. absurd l))

  -- numbers

  first_number : (g : Target) (h : Bool) (c : ℕ) (t : List ℕ) (o : Option ℕ) → digit h c ≡ o → Goes_on (first_digit g h o) t → Then (Digit g h) (c ∷ t)
  first_number g h c t None e k = absurd k
  first_number g h c t (Some d) e (n, b, ds, ok, z) = (n, b, m.Number.number e ds ok, z)

  next_number : (g : Target) (h : Bool) (number c : ℕ) (t : List ℕ) (o : Option ℕ) → digit h c ≡ o → Goes_on (next_digit g h number o) t → Then (Digits g h number) (c ∷ t)
  next_number g h number c t None e k = absurd k
  next_number g h number c t (Some d) e k =
      split (nat_le (number * base h + d) greatest) _ _ t k (λ p l. (l.0, l.1, m.Digits.further e p l.2, l.3, l.4)) (λ p l. absurd l)

  digits : (g : Target) (h : Bool) (number c : ℕ) (t : List ℕ) → Goes_on (step 0 (Digits g h number) c) t → Then (Digits g h number) (c ∷ t)
  digits g h number c t k =
      split (c == 59) _ _ t k
      (λ p l. split (is_scalar number) _ _ t l
      (λ q n. subst (λ x. Then (Digits g h number) (x ∷ t)) (sym (eqb-true c 59 p)) (number, t, m.Digits.ended, q, put_puts g number t n)) (λ q n. absurd n))
      (λ p l. next_number g h number c t (digit h c) refl l)
    where
      put_puts : (g : Target) (c : ℕ) (t : List ℕ) → Then (put g c) t → Puts deepest end final g c t
      put_puts (Content f) c t z = z
      put_puts (Value f name quote value) c t z = z

  hashed : (g : Target) (c : ℕ) (t : List ℕ) → Goes_on (step 0 (Hash g) c) t → Then (Hash g) (c ∷ t)
  hashed g c t h =
      split (c == 120) _ _ t h (λ p k. subst (λ x. Then (Hash g) (x ∷ t)) (sym (eqb-true c 120 p)) (k.0, k.1, m.Ref.hexadecimal k.2, k.3))
      (λ p k. let l = first_number g false c t (digit false c) refl k in (l.0, l.1, m.Ref.decimal l.2, l.3))

  tag_space : (f : Frame) (c : ℕ) (t : List ℕ) → Goes_on (step 0 (TagSpace f) c) t → BehindSpace deepest end final f (c ∷ t)
  tag_space f c t h = split (starts_name c) _ _ t h (λ p k. begins_attribute f c t p k) (λ p k. in_tag_space f c t k)

  -- words

  behind : (w : Word) (t : List ℕ) → Then (behind_word w) t → BehindWord deepest end final w t
  behind (Dashes g) t z = z refl
  behind (OpenSection f) t z = z refl
  behind (Empty f) t z = z
  behind (EndName f) t z = z
  behind (Entity (Content f) word c) t z = z
  behind (Entity (Value f name quote value) word c) t z = z

  spelled_back : (w : Word) (k : ℕ) (t : List ℕ) (b : Bool) → (k == length (letters w)) ≡ b → Then (if b then behind_word w else Letters w k) t → Then (Letters w k) t
  spelled_back w k t true e h = (t, sym (ap (λ y. y ++ t) (drop_all (letters w) k (eqb-true k (length (letters w)) e))), behind w t h)
  spelled_back w k t false e h = h

  lettered : (w : Word) (k c : ℕ) (t : List ℕ) (o : Option ℕ) → slice_get (letters w) k ≡ o → Goes_on (on_letter w k c o) t → Then (Letters w k) (c ∷ t)
  lettered w k c t None at h = absurd h
  lettered w k c t (Some l) at h =
      split (c == l) _ _ t h
      (λ p j. let same = eqb-true c l p in let z = spelled_back w (suc k) t (suc k == length (letters w)) refl j in
      (z.0, subst (λ x. x ∷ t ≡ drop k (letters w) ++ z.0) (sym same) (ap (λ y. l ∷ y) z.1 ∙ sym (ap (λ y. y ++ z.0) (drop_at (letters w) k l at))), z.2))
      (λ p j. absurd j)

  -- references

  referred : (g : Target) (c : ℕ) (t : List ℕ) → Goes_on (on_reference g c) t → Then (Reference g) (c ∷ t)
  referred g c t h =
      split (c == 108) _ _ t h (λ p k. subst (λ x. Then (Reference g) (x ∷ t)) (sym (eqb-true c 108 p)) (60, k.0, subst (λ x. m.Ref (38 ∷ 108 ∷ x) 60 k.0) (sym k.1) m.Ref.less, k.2))
      (λ p h. split (c == 103) _ _ t h (λ p k. subst (λ x. Then (Reference g) (x ∷ t)) (sym (eqb-true c 103 p)) (62, k.0, subst (λ x. m.Ref (38 ∷ 103 ∷ x) 62 k.0) (sym k.1) m.Ref.greater, k.2))
      (λ p h. split (c == 113) _ _ t h (λ p k. subst (λ x. Then (Reference g) (x ∷ t)) (sym (eqb-true c 113 p)) (34, k.0, subst (λ x. m.Ref (38 ∷ 113 ∷ x) 34 k.0) (sym k.1) m.Ref.quote, k.2))
      (λ p h. split (c == 97) _ _ t h (λ p k. subst (λ x. Then (Reference g) (x ∷ t)) (sym (eqb-true c 97 p)) k)
      (λ p h. split (c == 35) _ _ t h (λ p k. subst (λ x. Then (Reference g) (x ∷ t)) (sym (eqb-true c 35 p)) k) (λ p h. absurd h)))))

  referred_a : (g : Target) (c : ℕ) (t : List ℕ) → Goes_on (on_reference_a g c) t → Then (ReferenceA g) (c ∷ t)
  referred_a g c t h =
      split (c == 109) _ _ t h (λ p k. subst (λ x. Then (ReferenceA g) (x ∷ t)) (sym (eqb-true c 109 p)) (38, k.0, subst (λ x. m.Ref (38 ∷ 97 ∷ 109 ∷ x) 38 k.0) (sym k.1) m.Ref.ampersand, k.2))
      (λ p h. split (c == 112) _ _ t h (λ p k. subst (λ x. Then (ReferenceA g) (x ∷ t)) (sym (eqb-true c 112 p)) (39, k.0, subst (λ x. m.Ref (38 ∷ 97 ∷ 112 ∷ x) 39 k.0) (sym k.1) m.Ref.apostrophe, k.2))
      (λ p h. absurd h))

  -- comments, instructions and sections

  comment_on : (g : Ground) (t behind : List ℕ) → m.Comment t behind → Ground_on g behind → Ground_on g t
  comment_on (Outside rows) t b k (before n ms e ns is) = before n (m.Miscs.comment k ms) e ns is
  comment_on (Outside rows) t b k (after y ms is) = after y (m.Miscs.comment k ms) is
  comment_on (Inside f) t b k (within c n z) = within (m.Content.comment k c) n z

  instruction_on : (g : Ground) (t behind : List ℕ) → m.Instruction t behind → Ground_on g behind → Ground_on g t
  instruction_on (Outside rows) t b k (before n ms e ns is) = before n (m.Miscs.instruction k ms) e ns is
  instruction_on (Outside rows) t b k (after y ms is) = after y (m.Miscs.instruction k ms) is
  instruction_on (Inside f) t b k (within c n z) = within (m.Content.instruction k c) n z

  section_on : (f : Frame) (t body behind : List ℕ) → m.Section t body behind → In deepest end final f.rows (with_characters f.element body) f.outer behind →
      In deepest end final f.rows f.element f.outer t
  section_on f t body b k (within c n z) = within (m.Content.section k c) n z

  commented : (g : Ground) (t : List ℕ) → AtLong deepest end final (InComment g) 0 t → Ground_on g (60 ∷ 33 ∷ 45 ∷ 45 ∷ t)
  commented g t (body, b, up, z) = comment_on g _ b (m.Comment.comment up) (subst (λ l. Ground_on (behind_long l) b) (take_comment g body) z)

  instructed : (g : Ground) (t : List ℕ) → AtLong deepest end final (InInstruction g) 0 t → Ground_on g (60 ∷ 63 ∷ t)
  instructed g t (body, b, up, z) = instruction_on g _ b (m.Instruction.instruction up) (subst (λ l. Ground_on (behind_long l) b) (take_instruction g body) z)

  sectioned : (f : Frame) (t : List ℕ) → AtLong deepest end final (InSection f) 0 t → In deepest end final f.rows f.element f.outer (60 ∷ 33 ∷ 91 ∷ 67 ∷ 68 ∷ 65 ∷ 84 ∷ 65 ∷ 91 ∷ t)
  sectioned f t (body, b, up, z) = section_on f _ body b (m.Section.section up) (subst (λ l. Ground_on (behind_long l) b) (take_section f body) z)

  banged : (g : Ground) (c : ℕ) (t : List ℕ) → Goes_on (on_bang g c) t → Ground_on g (60 ∷ 33 ∷ c ∷ t)
  banged (Outside rows) c t h =
      split (c == 45) _ _ t h (λ p k. subst (λ x. Ground_on (Outside rows) (60 ∷ 33 ∷ x ∷ t)) (sym (eqb-true c 45 p)) (subst (λ x. Ground_on (Outside rows) (60 ∷ 33 ∷ 45 ∷ x)) (sym k.1) (commented (Outside rows) k.0 k.2)))
      (λ p k. absurd k)
  banged (Inside f) c t h =
      split (c == 45) _ _ t h (λ p k. subst (λ x. Ground_on (Inside f) (60 ∷ 33 ∷ x ∷ t)) (sym (eqb-true c 45 p)) (subst (λ x. Ground_on (Inside f) (60 ∷ 33 ∷ 45 ∷ x)) (sym k.1) (commented (Inside f) k.0 k.2)))
      (λ p h. split (c == 91) _ _ t h (λ p k. subst (λ x. Ground_on (Inside f) (60 ∷ 33 ∷ x ∷ t)) (sym (eqb-true c 91 p)) (subst (λ x. Ground_on (Inside f) (60 ∷ 33 ∷ 91 ∷ x)) (sym k.1) (sectioned f k.0 k.2)))
      (λ p h. absurd h))

  slashed : (g : Ground) (c : ℕ) (t : List ℕ) → Goes_on (on_slash g c) t → Ground_on g (60 ∷ c ∷ t)
  slashed (Outside rows) c t h = absurd h
  slashed (Inside f) c t h =
      split (c == 47) _ _ t h
      (λ p j. let k = spelled_back (EndName f) 0 t (0 == length f.element.name) refl j in
      subst (λ x. Ground_on (Inside f) (60 ∷ x ∷ t)) (sym (eqb-true c 47 p))
      (within m.Content.none (m.EndTag.end_tag k.1 k.2.1) (closing f.rows (row_of f.element) f.outer k.2.0 k.2.2)))
      (λ p k. absurd k)

  start : (at c : ℕ) (t name rest behind : List ℕ) (e : Open) → IsTrue (starts_name c) → m.NameTail (c ∷ []) t name rest → at ≡ end - size (60 ∷ c ∷ t) →
      m.Attributes (opened at name) rest e behind → m.StartTag deepest end (60 ∷ c ∷ t) e behind
  start at c t name rest b e p n o attributes =
      m.StartTag.start_tag (m.Name.named p n) (subst (λ x. m.Attributes (opened x name) rest e b) o attributes)

  element_in : (f : Frame) (t behind : List ℕ) (rows : List Row) → m.Elem deepest end (suc (suc (length f.outer))) f.rows t rows behind →
      In deepest end final rows (with_child f.element (pred (length rows))) f.outer behind → In deepest end final f.rows f.element f.outer t
  element_in f t b rows el (within c n z) = within (m.Content.element el c) n z

  start_outside : (at c : ℕ) (t name rest tag : List ℕ) (e : Open) → IsTrue (starts_name c) → IsTrue (nat_le 1 deepest) → at ≡ end - size (60 ∷ c ∷ t) →
      m.NameTail (c ∷ []) t name rest → m.Attributes (opened at name) rest e tag → TagEnd deepest end final (record { rows = []; element = e; outer = [] }) tag →
      Out deepest end final [] (60 ∷ c ∷ t)
  start_outside at c t name rest tag e p d o n attributes (empty (root ms is)) =
      before refl m.Miscs.none (m.Elem.empty d (start at c t name rest _ e p n o attributes)) ms is
  start_outside at c t name rest tag e p d o n attributes (full (within k et (root ms is))) =
      before refl m.Miscs.none (m.Elem.full d (start at c t name rest _ e p n o attributes) k et) ms is

  start_inside : (f : Frame) (at c : ℕ) (t name rest tag : List ℕ) (e : Open) → IsTrue (starts_name c) → IsTrue (nat_le (suc (suc (length f.outer))) deepest) →
      at ≡ end - size (60 ∷ c ∷ t) → m.NameTail (c ∷ []) t name rest → m.Attributes (opened at name) rest e tag →
      TagEnd deepest end final (record { rows = f.rows; element = e; outer = f.element ∷ f.outer }) tag → In deepest end final f.rows f.element f.outer (60 ∷ c ∷ t)
  start_inside f at c t name rest tag e p d o n attributes (empty (outer i)) =
      element_in f _ _ _ (m.Elem.empty d (start at c t name rest _ e p n o attributes)) i
  start_inside f at c t name rest tag e p d o n attributes (full (within k et (outer i))) =
      element_in f _ _ _ (m.Elem.full d (start at c t name rest _ e p n o attributes) k et) i

  started : (g : Ground) (at c : ℕ) (t : List ℕ) → IsTrue (starts_name c) → IsTrue (may_start g) → IsTrue (nat_le (depth g) deepest) → at ≡ end - size (60 ∷ c ∷ t) →
      Then (start_tag g at c) t → Ground_on g (60 ∷ c ∷ t)
  started (Outside []) at c t p q d o h = start_outside at c t h.0 h.1 h.3.1 h.3.0 p d o h.2 h.3.2 h.3.3
  started (Outside (r ∷ rows)) at c t p q d o h = absurd (cc)
  started (Inside f) at c t p q d o h = start_inside f at c t h.0 h.1 h.3.1 h.3.0 p d o h.2 h.3.2 h.3.3

  pub not_deep : (a b d : Bool) → (a && b && not d) ≡ false → (a && b) ≡ true → (a ≡ true) × (b ≡ true) × (d ≡ true)
  not_deep true true true h k = (refl, refl, refl)
  not_deep true true false h k = absurd (cc)
  not_deep true false d h k = absurd (cc)
  not_deep false b d h k = absurd (cc)

  lessed : (g : Ground) (at c : ℕ) (t : List ℕ) → is_deep deepest (Less g at) c ≡ false → Goes_on (on_less g at c) t → Then (Less g at) (c ∷ t)
  lessed g at c t shallow h o =
      split (c == 33) _ _ t h (λ p k. subst (λ x. Ground_on g (60 ∷ x ∷ t)) (sym (eqb-true c 33 p)) k)
      (λ p h. split (c == 63) _ _ t h (λ p k. subst (λ x. Ground_on g (60 ∷ x ∷ t)) (sym (eqb-true c 63 p)) (instructed g t (k refl)))
      (λ p h. split (starts_name c && may_start g) _ _ t h
      (λ p k. let is = not_deep (starts_name c) (may_start g) (nat_le (depth g) deepest) shallow p in started g at c t is.0 is.1 is.2 o k)
      (λ p k. slashed g c t k)))

  -- up to a closing sign

  shifted : (k x : ℕ) (t : List ℕ) → replicate k x ++ x ∷ t ≡ x ∷ (replicate k x ++ t)
  shifted zero x t = refl
  shifted (suc k) x t = ap (λ y. x ∷ y) (shifted k x t)

  le_of_ne : (k n : ℕ) → IsTrue (nat_le k n) → (k == n) ≡ false → IsTrue (nat_le (suc k) n)
  le_of_ne k n h e = grind (arith, nat_tests)

  more_full : (l : Long) (t : List ℕ) → Then (Until (take_in l (repeated l)) (times l)) t → AtLong deepest end final l (times l) (repeated l ∷ t)
  more_full (InComment g) t z = let y = z refl in (45 ∷ y.0, y.1, UpTo.inside refl y.2, y.3)
  more_full (InInstruction g) t z = let y = z refl in (63 ∷ y.0, y.1, UpTo.inside refl y.2, y.3)
  more_full (InSection f) t z = let y = z refl in (93 ∷ y.0, y.1, UpTo.inside refl y.2, y.3)

  on_more : (l : Long) (k c : ℕ) (t : List ℕ) → IsTrue (nat_le k (times l)) → c ≡ repeated l → Goes_on (if k == times l then Some (Until (take_in l c) k) else Some (Until l (suc k))) t →
      AtLong deepest end final l k (c ∷ t)
  on_more l k c t fits same h =
      split (k == times l) _ _ t h
      (λ p z. subst (λ x. AtLong deepest end final l k (x ∷ t)) (sym same) (subst (λ n. AtLong deepest end final l n (repeated l ∷ t)) (sym (eqb-true k (times l) p))
      (more_full l t (subst (λ n. Then (Until (take_in l (repeated l)) n) t) (eqb-true k (times l) p) (subst (λ x. Then (Until (take_in l x) k) t) same z)))))
      (λ p z. let y = z (le_of_ne k (times l) fits p) in (y.0, y.1, subst (λ x. UpTo (sign l) x y.0 y.1) (sym (ap (λ x. replicate k (repeated l) ++ x ∷ t) same ∙ shifted k (repeated l) t)) y.2, y.3))

  and_left : (a b : Bool) → a ≡ false → (a && b) ≡ false
  and_left true b h = absurd (cc)
  and_left false b h = refl

  and_right : (a : Bool) → (a && true) ≡ false → a ≡ false
  and_right true h = absurd (cc)
  and_right false h = refl

  too_many : (k n : ℕ) → n ≤ 2 → IsTrue (nat_le (suc (suc (suc k))) n) → ⊥
  too_many k n few h = let le = leb-true (suc (suc (suc k))) n h in omega arith

  too_many_one : (k : ℕ) → IsTrue (nat_le (suc (suc k)) 1) → ⊥
  too_many_one k h = let le = leb-true (suc (suc k)) 1 h in omega arith

  other_comment : (g : Ground) (k c : ℕ) (t : List ℕ) → IsTrue (nat_le k 2) → (c == 45) ≡ false → ((c == 62) && (k == 2)) ≡ false →
      Then (Until (take_in (take_back (InComment g) k) c) 0) t → AtLong deepest end final (InComment g) k (c ∷ t)
  other_comment g zero c t fits p q z = let y = z refl in (c ∷ y.0, y.1, UpTo.inside (and_left _ _ p) y.2, y.3)
  other_comment g (suc zero) c t fits p q z = let y = z refl in (45 ∷ c ∷ y.0, y.1, UpTo.inside (and_left _ _ p) (UpTo.inside (and_left _ _ p) y.2), y.3)
  other_comment g (suc (suc zero)) c t fits p q z =
      let y = z refl in (45 ∷ 45 ∷ c ∷ y.0, y.1, UpTo.inside (and_left _ _ (and_right _ q)) (UpTo.inside (and_left _ _ p) (UpTo.inside (and_left _ _ p) y.2)), y.3)
  other_comment g (suc (suc (suc k))) c t fits p q z = absurd (too_many k 2 (omega arith) fits)

  other_section : (f : Frame) (k c : ℕ) (t : List ℕ) → IsTrue (nat_le k 2) → (c == 93) ≡ false → ((c == 62) && (k == 2)) ≡ false →
      Then (Until (take_in (take_back (InSection f) k) c) 0) t → AtLong deepest end final (InSection f) k (c ∷ t)
  other_section f zero c t fits p q z = let y = z refl in (c ∷ y.0, y.1, UpTo.inside (and_left _ _ p) y.2, y.3)
  other_section f (suc zero) c t fits p q z = let y = z refl in (93 ∷ c ∷ y.0, y.1, UpTo.inside (and_left _ _ p) (UpTo.inside (and_left _ _ p) y.2), y.3)
  other_section f (suc (suc zero)) c t fits p q z =
      let y = z refl in (93 ∷ 93 ∷ c ∷ y.0, y.1, UpTo.inside (and_left _ _ (and_right _ q)) (UpTo.inside (and_left _ _ p) (UpTo.inside (and_left _ _ p) y.2)), y.3)
  other_section f (suc (suc (suc k))) c t fits p q z = absurd (too_many k 2 (omega arith) fits)

  other_instruction : (g : Ground) (k c : ℕ) (t : List ℕ) → IsTrue (nat_le k 1) → (c == 63) ≡ false → ((c == 62) && (k == 1)) ≡ false →
      Then (Until (take_in (take_back (InInstruction g) k) c) 0) t → AtLong deepest end final (InInstruction g) k (c ∷ t)
  other_instruction g zero c t fits p q z = let y = z refl in (c ∷ y.0, y.1, UpTo.inside (and_left _ _ p) y.2, y.3)
  other_instruction g (suc zero) c t fits p q z =
      let y = z refl in (63 ∷ c ∷ y.0, y.1, UpTo.inside (and_left _ _ (and_right _ q)) (UpTo.inside (and_left _ _ p) y.2), y.3)
  other_instruction g (suc (suc k)) c t fits p q z = absurd (too_many_one k fits)

  on_other : (l : Long) (k c : ℕ) (t : List ℕ) → IsTrue (nat_le k (times l)) → (c == repeated l) ≡ false → ((c == 62) && (k == times l)) ≡ false →
      Then (Until (take_in (take_back l k) c) 0) t → AtLong deepest end final l k (c ∷ t)
  on_other (InComment g) = other_comment g
  on_other (InInstruction g) = other_instruction g
  on_other (InSection f) = other_section f

  closes : (l : Long) (t : List ℕ) → Ground_on (behind_long l) t → AtLong deepest end final l (times l) (62 ∷ t)
  closes (InComment g) t z = ([], t, UpTo.closed refl, z)
  closes (InInstruction g) t z = ([], t, UpTo.closed refl, z)
  closes (InSection f) t z = ([], t, UpTo.closed refl, z)

  long : (l : Long) (k c : ℕ) (t : List ℕ) → IsTrue (nat_le k (times l)) → Goes_on (on_long l k c) t → AtLong deepest end final l k (c ∷ t)
  long l k c t fits h =
      split (c == repeated l) _ _ t h (λ p z. on_more l k c t fits (eqb-true c (repeated l) p) z)
      (λ p z. split ((c == 62) && (k == times l)) _ _ t z
      (λ q y. let (is, all) = and_both (c == 62) (k == times l) q in
      subst (λ x. AtLong deepest end final l k (x ∷ t)) (sym (eqb-true c 62 is)) (subst (λ n. AtLong deepest end final l n (62 ∷ t)) (sym (eqb-true k (times l) all)) (closes l t y)))
      (λ q y. on_other l k c t fits p q y))

  -- a step

  back : (s : State) (c : ℕ) (t : List ℕ) → is_deep deepest s c ≡ false → Goes_on (step (end - size (c ∷ t)) s c) t → Then s (c ∷ t)
  back Begin c t shallow h =
      split (c == 65279) _ _ t h (λ p k. subst (λ x. Then Begin (x ∷ t)) (sym (eqb-true c 65279 p)) (t, m.Mark.mark, k))
      (λ p k. (c ∷ t, m.Mark.none, on_outside [] (end - size (c ∷ t)) c t refl k))
  back (On g) c t shallow h = on_both g (end - size (c ∷ t)) c t refl h
  back (Less g at) c t shallow h = lessed g at c t shallow h
  back (Bang g) c t shallow h = banged g c t h
  back (Letters w k) c t shallow h = lettered w k c t (slice_get (letters w) k) refl h
  back (Until l k) c t shallow h = λ fits. long l k c t fits h
  back (TagName f) c t shallow h = tag_name f c t h
  back (Tag f) c t shallow h = in_tag f c t h
  back (TagSpace f) c t shallow h = tag_space f c t h
  back (AttributeName f name) c t shallow h = attribute_name f name c t h
  back (Equals f name) c t shallow h = equals f name c t h
  back (Quote f name) c t shallow h = quoted f name c t h
  back (InValue f name quote value) c t shallow h = valued f name quote value c t h
  back (EndSpace f) c t shallow h = end_space f c t h
  back (Reference g) c t shallow h = referred g c t h
  back (ReferenceA g) c t shallow h = referred_a g c t h
  back (Hash g) c t shallow h = hashed g c t h
  back (Digit g hexadecimal) c t shallow h = first_number g hexadecimal c t (digit hexadecimal c) refl h
  back (Digits g hexadecimal number) c t shallow h = digits g hexadecimal number c t h

  abbrev pub stops : Outcome → Type 0
  stops (Whole rows) = final ≡ rows
  stops (Stops o) = ⊥
  stops (TooDeep o) = ⊥

  whole_end : (rows : List Row) → stops (at_end end (On (Outside rows))) → Out deepest end final rows []
  whole_end [] h = absurd h
  whole_end (r ∷ rows) h = after refl m.Miscs.none h

  ends : (s : State) → stops (at_end end s) → Then s []
  ends (On (Outside rows)) h = whole_end rows h
  ends (On (Inside f)) h = absurd h
  ends Begin h = absurd h
  ends (Less g at) h = absurd h
  ends (Bang g) h = absurd h
  ends (Letters w k) h = absurd h
  ends (Until l k) h = absurd h
  ends (TagName f) h = absurd h
  ends (Tag f) h = absurd h
  ends (TagSpace f) h = absurd h
  ends (AttributeName f name) h = absurd h
  ends (Equals f name) h = absurd h
  ends (Quote f name) h = absurd h
  ends (InValue f name quote value) h = absurd h
  ends (EndSpace f) h = absurd h
  ends (Reference g) h = absurd h
  ends (ReferenceA g) h = absurd h
  ends (Hash g) h = absurd h
  ends (Digit g hexadecimal) h = absurd h
  ends (Digits g hexadecimal number) h = absurd h

  further : (b : Bool) (o : Option State) (at less : ℕ) (t : List ℕ) → ((s : State) → stops (run deepest end s t) → Then s t) →
      stops (if b then TooDeep less else elim o [ None ↦ Stops at | Some next ↦ run deepest end next t ]) → (b ≡ false) × Goes_on o t
  further true o at less t ih h = absurd h
  further false None at less t ih h = absurd h
  further false (Some next) at less t ih h = (refl, ih next h)

  pub sound : (t : List ℕ) (s : State) → stops (run deepest end s t) → Then s t
  unfolding run
  sound [] s h = ends s h
  sound (c ∷ t) s h =
      let it = further (is_deep deepest s c) (step (end - size (c ∷ t)) s c) (end - size (c ∷ t)) (less_of s) t (λ next k. sound t next k) h in
      back s c t it.0 it.1
