-- Each state that the reader comes to is on the way to a document.
use Rattle.std.proofs.Common.{◌≡◌, ℕ, zero, suc, pred, ◌+◌, ◌*◌, ◌-◌, ◌<◌, ◌≤◌, ◌≢◌, Bool, true, false, not, List, [], ◌∷◌, ◌++◌, length, Some, drop, replicate, refl, sym, ◌∙◌, ap, subst, arith, append_assoc, length-append}
use Rattle.std.proofs.lemmas.List.{append-nil}
use Rattle.std.specs.Prelude.{IsTrue, encode_utf8, if◌then◌else◌, ◌==◌, ◌&&◌, ◌||◌, nat_le, nat_eq}
use Rattle.std.specs.Str.{encode_utf8_all}
use Rattle.std.specs.Cmp.Lexicographic.{unequal}
use Rattle.std.proofs.lemmas.Str.{encodes-append}
use Rattle.std.proofs.lemmas.Bool.{eqb-true, eq-eqb, leb-true, le-leb}
use Rattle.std.proofs.lemmas.Bool.Decides.{nat_tests}
use Rattle.pj_markup.specs.Characters.{greatest, is_scalar}
use Rattle.pj_markup.specs.Elements.{size, Attribute, Row, Open, row_of, opened, with_attribute, with_character, with_child}
use Rattle.pj_markup.specs.Markup as m
use Rattle.pj_markup.specs.Markup.{has_name}
use Rattle.pj_markup.specs.States.{Frame, Ground, Outside, Inside, Target, Content, Value, Word, Dashes, OpenSection, Empty, EndName, Entity, Long, InComment, InInstruction, InSection, State, Begin, On, Less, Bang, Letters, Until, TagName, Tag, TagSpace, AttributeName, Equals, Quote, InValue, EndSpace, Reference, ReferenceA, Hash, Digit, Digits, in_element, ended, letters, take_in, take_back, close, put, behind_word, step, is_deep, start_tag, run, Outcome, Whole}
use Rattle.pj_markup.proofs.Complete.{yes, no_, goes, end_tag, at_less, at_dash, word_from, part_word, framed, not_both, attribute_names, no_mark, ends_whole}
use Rattle.pj_markup.proofs.Good.{Good}

-- the end tags of an element that is open, and of those around it
abbrev pub end_tags : List ℕ → List Open → List ℕ
end_tags name [] = 60 ∷ 47 ∷ (name ++ 62 ∷ [])
end_tags name (g ∷ outer) = 60 ∷ 47 ∷ (name ++ 62 ∷ end_tags g.name outer)

abbrev pub outer_tags : List Open → List ℕ
outer_tags [] = []
outer_tags (g ∷ outer) = end_tags g.name outer

abbrev pub on_goes : Ground → List ℕ
on_goes (Outside []) = 60 ∷ 97 ∷ 47 ∷ 62 ∷ []
on_goes (Outside (r ∷ rows)) = []
on_goes (Inside f) = end_tags f.element.name f.outer

abbrev pub put_goes : Target → List ℕ
put_goes (Content f) = end_tags f.element.name f.outer
put_goes (Value f name quote value) = quote ∷ 47 ∷ 62 ∷ outer_tags f.outer

abbrev pub tail_goes : Long → List ℕ
tail_goes (InComment g) = 45 ∷ 45 ∷ 62 ∷ on_goes g
tail_goes (InInstruction g) = 63 ∷ 62 ∷ on_goes g
tail_goes (InSection f) = 93 ∷ 93 ∷ 62 ∷ end_tags f.element.name f.outer

abbrev pub long_goes : Long → List ℕ
long_goes (InComment g) = 97 ∷ 45 ∷ 45 ∷ 62 ∷ on_goes g
long_goes (InInstruction g) = 97 ∷ 63 ∷ 62 ∷ on_goes g
long_goes (InSection f) = 97 ∷ 93 ∷ 93 ∷ 62 ∷ end_tags f.element.name f.outer

abbrev pub behind_goes : Word → List ℕ
behind_goes (Dashes g) = long_goes (InComment g)
behind_goes (OpenSection f) = long_goes (InSection f)
behind_goes (Empty f) = outer_tags f.outer
behind_goes (EndName f) = 62 ∷ outer_tags f.outer
behind_goes (Entity t word c) = put_goes t

-- digits that make of a number one that a reference can have
abbrev pub digits_to : ℕ → List ℕ
digits_to n = if is_scalar n then [] else (if n == 0 then 49 ∷ [] else 48 ∷ [])

abbrev pub total_length : List Attribute → ℕ
total_length [] = 0
total_length (a ∷ more) = length a.name + total_length more

-- a name that no attribute has
abbrev pub fresh : List ℕ → List Attribute → List ℕ
fresh name attributes = replicate (suc (total_length attributes)) 97

length_as : (n : ℕ) → length (encode_utf8_all (replicate n 97)) ≡ n
unfolding lib.Utf8.encode
length_as zero = refl
length_as (suc n) = ap (λ k. suc k) (length_as n)

longer_is_new : (name : List ℕ) (attributes : List Attribute) → total_length attributes < length name → has_name name attributes ≡ false
longer_is_new name [] lt = refl
longer_is_new name (a ∷ more) lt =
    let ne : length a.name ≢ length name = λ e. absurd (omega arith) in
    let one = unequal nat_eq a.name name ne in
    let others = longer_is_new name more (omega arith) in
    ap (λ b. b || has_name name more) one ∙ others

fresh_is_new : (name : List ℕ) (attributes : List Attribute) → has_name (encode_utf8_all (name ++ fresh name attributes)) attributes ≡ false
fresh_is_new name attributes =
    let n : length (encode_utf8_all (name ++ fresh name attributes)) ≡ length (encode_utf8_all name) + length (encode_utf8_all (fresh name attributes)) =
    ap length (encodes-append name (fresh name attributes)) ∙ length-append (encode_utf8_all name) (encode_utf8_all (fresh name attributes)) in
    let k = length_as (suc (total_length attributes)) in
    longer_is_new _ attributes (omega arith)

name_tail : (n : ℕ) (begun r : List ℕ) → m.NameTail begun (replicate n 97 ++ r) (begun ++ replicate n 97) r
name_tail zero begun r = subst (λ x. m.NameTail begun r x r) (sym (append-nil begun)) m.NameTail.ended
name_tail (suc n) begun r = m.NameTail.further refl (subst (λ x. m.NameTail (begun ++ 97 ∷ []) (replicate n 97 ++ r) x r) (append_assoc begun (97 ∷ []) (replicate n 97)) (name_tail n (begun ++ 97 ∷ []) r))

large : (n : ℕ) → 57344 ≤ n → n ≤ 1114111 → is_scalar n ≡ true
large n a b = both (nat_le 1 n && nat_le n greatest) _ (both (nat_le 1 n) (nat_le n greatest) (le-leb 1 n (omega arith)) (le-leb n greatest b)) ((or_right (nat_le n 55295) (nat_le 57344 n) (le-leb 57344 n a)))
  where
    both : (a b : Bool) → a ≡ true → b ≡ true → (a && b) ≡ true
    both true true h k = refl
    both true false h k = absurd (cc)
    both false b h k = absurd (cc)

    or_right : (a b : Bool) → b ≡ true → (a || b) ≡ true
    or_right true b h = refl
    or_right false b h = h

not_scalar : (n : ℕ) → (n == 0) ≡ false → n ≤ 1114111 → is_scalar n ≡ false → (55295 < n) × (n < 57344)
not_scalar n ne le h = (grind (arith, nat_tests), grind (arith, nat_tests))

-- a text with which a document goes on from the state
abbrev pub goes_on : State → List ℕ
goes_on Begin = on_goes (Outside [])
goes_on (On g) = on_goes g
goes_on (Less g at) = 33 ∷ 45 ∷ 45 ∷ long_goes (InComment g)
goes_on (Bang g) = 45 ∷ 45 ∷ long_goes (InComment g)
goes_on (Letters w k) = drop k (letters w) ++ behind_goes w
goes_on (Until l k) = long_goes l
goes_on (TagName f) = 47 ∷ 62 ∷ outer_tags f.outer
goes_on (Tag f) = 47 ∷ 62 ∷ outer_tags f.outer
goes_on (TagSpace f) = 47 ∷ 62 ∷ outer_tags f.outer
goes_on (AttributeName f name) = fresh name f.element.attributes ++ (61 ∷ 34 ∷ 34 ∷ 47 ∷ 62 ∷ outer_tags f.outer)
goes_on (Equals f name) = 61 ∷ 34 ∷ 34 ∷ 47 ∷ 62 ∷ outer_tags f.outer
goes_on (Quote f name) = 34 ∷ 34 ∷ 47 ∷ 62 ∷ outer_tags f.outer
goes_on (InValue f name q value) = q ∷ 47 ∷ 62 ∷ outer_tags f.outer
goes_on (EndSpace f) = 62 ∷ outer_tags f.outer
goes_on (Reference t) = 108 ∷ 116 ∷ 59 ∷ put_goes t
goes_on (ReferenceA t) = 109 ∷ 112 ∷ 59 ∷ put_goes t
goes_on (Hash t) = 49 ∷ 59 ∷ put_goes t
goes_on (Digit t h) = 49 ∷ 59 ∷ put_goes t
goes_on (Digits t h n) = digits_to n ++ (59 ∷ put_goes t)

module _ (deepest end : ℕ) (some : nat_le 1 deepest ≡ true) where
  abbrev Run : State → List ℕ → Outcome
  Run s t = run deepest end s t

  abbrev pub Lives : State → List ℕ → Type 0
  Lives s t = (rows : List Row) × (Run s t ≡ Whole rows)

  move : (s next : State) (t u : List ℕ) → Run s t ≡ Run next u → Lives next u → Lives s t
  move s next t u e (rows, h) = (rows, e ∙ h)

  go : (s next : State) (c : ℕ) (t : List ℕ) → is_deep deepest s c ≡ false → step (end - size (c ∷ t)) s c ≡ Some next → Lives next t → Lives s (c ∷ t)
  go s next c t p q (rows, h) = (rows, goes deepest end s next c t p q ∙ h)

  at_last : (rows : List Row) (r : Row) → Run (On (Outside (rows ++ r ∷ []))) [] ≡ Whole (rows ++ r ∷ [])
  unfolding run
  at_last rows r = ends_whole deepest end rows r

  alive_in : (rows : List Row) (e : Open) (outer : List Open) → Lives (On (Inside (framed deepest end rows e outer))) (end_tags e.name outer)
  alive_in rows e [] =
      move _ (On (Outside (rows ++ row_of e ∷ []))) _ [] (end_tag deepest end (framed deepest end rows e []) _ [] (m.EndTag.end_tag refl m.Spaces.none)) (rows ++ row_of e ∷ [], at_last rows (row_of e))
  alive_in rows e (g ∷ outer) =
      move _ (close (framed deepest end rows e (g ∷ outer))) _ (end_tags g.name outer)
      (end_tag deepest end (framed deepest end rows e (g ∷ outer)) _ (end_tags g.name outer) (m.EndTag.end_tag refl m.Spaces.none))
      (alive_in (rows ++ row_of e ∷ []) (with_child g (pred (length (rows ++ row_of e ∷ [])))) outer)

  alive_outer : (rows : List Row) (r : Row) (outer : List Open) → Lives (On (ended (rows ++ r ∷ []) outer)) (outer_tags outer)
  alive_outer rows r [] = (rows ++ r ∷ [], at_last rows r)
  alive_outer rows r (g ∷ outer) = alive_in (rows ++ r ∷ []) (with_child g (pred (length (rows ++ r ∷ [])))) outer

  alive_close : (f : Frame) → Lives (close f) (outer_tags f.outer)
  alive_close f = alive_outer f.rows (row_of f.element) f.outer

  not_too_deep : (a : Bool) → (a && not (nat_le 1 deepest)) ≡ false
  not_too_deep a = not_both deepest end a (not (nat_le 1 deepest)) (ap not some)

  alive_after : (r : Row) (rows : List Row) → Lives (On (Outside (r ∷ rows))) []
  unfolding run
  alive_after r rows = (r ∷ rows, refl)

  alive_on : (g : Ground) → Lives (On g) (on_goes g)
  alive_on (Outside []) =
      move _ (Less (Outside []) (end - size (60 ∷ 97 ∷ 47 ∷ 62 ∷ []))) _ (97 ∷ 47 ∷ 62 ∷ []) (at_less deepest end (Outside []) (97 ∷ 47 ∷ 62 ∷ []))
      (go _ (start_tag (Outside []) (end - size (60 ∷ 97 ∷ 47 ∷ 62 ∷ [])) 97) 97 (47 ∷ 62 ∷ []) (not_too_deep true) refl
      (go _ (Letters (Empty (framed deepest end [] (opened (end - size (60 ∷ 97 ∷ 47 ∷ 62 ∷ [])) (97 ∷ [])) [])) 1) 47 (62 ∷ []) refl refl
      (go _ (close (framed deepest end [] (opened (end - size (60 ∷ 97 ∷ 47 ∷ 62 ∷ [])) (97 ∷ [])) [])) 62 [] refl refl
      (alive_close (framed deepest end [] (opened (end - size (60 ∷ 97 ∷ 47 ∷ 62 ∷ [])) (97 ∷ [])) [])))))
  alive_on (Outside (r ∷ rows)) = alive_after r rows
  alive_on (Inside f) = alive_in f.rows f.element f.outer

  alive_back : (l : Long) (k : ℕ) → Lives (Until (take_in (take_back l k) 97) 0) (tail_goes l)
  alive_back (InComment g) zero = go _ (Until (InComment g) 1) 45 _ refl refl (go _ (Until (InComment g) 2) 45 _ refl refl (go _ (On g) 62 _ refl refl (alive_on g)))
  alive_back (InComment g) (suc k) = alive_back (InComment g) k
  alive_back (InInstruction g) zero = go _ (Until (InInstruction g) 1) 63 _ refl refl (go _ (On g) 62 _ refl refl (alive_on g))
  alive_back (InInstruction g) (suc k) = alive_back (InInstruction g) k
  alive_back (InSection f) zero =
      go _ (Until (InSection (in_element f (with_character f.element 97))) 1) 93 _ refl refl (go _ (Until (InSection (in_element f (with_character f.element 97))) 2) 93 _ refl refl
      (go _ (On (Inside (in_element f (with_character f.element 97)))) 62 _ refl refl (alive_in f.rows (with_character f.element 97) f.outer)))
  alive_back (InSection f) (suc k) = alive_back (InSection (in_element f (with_character f.element 93))) k

  alive_long : (l : Long) (k : ℕ) → Lives (Until l k) (long_goes l)
  alive_long (InComment g) k = go _ (Until (take_in (take_back (InComment g) k) 97) 0) 97 _ refl refl (alive_back (InComment g) k)
  alive_long (InInstruction g) k = go _ (Until (take_in (take_back (InInstruction g) k) 97) 0) 97 _ refl refl (alive_back (InInstruction g) k)
  alive_long (InSection f) k = go _ (Until (take_in (take_back (InSection f) k) 97) 0) 97 _ refl refl (alive_back (InSection f) k)

  alive_tag : (f : Frame) → Lives (Tag f) (47 ∷ 62 ∷ outer_tags f.outer)
  alive_tag f = go _ (Letters (Empty f) 1) 47 _ refl refl (go _ (close f) 62 _ refl refl (alive_close f))

  alive_value : (f : Frame) (name : List ℕ) (q : ℕ) (value : List ℕ) → Lives (InValue f name q value) (q ∷ 47 ∷ 62 ∷ outer_tags f.outer)
  alive_value f name q value =
      go _ (Tag (in_element f (with_attribute f.element (encode_utf8_all name) value))) q _ refl (yes (q == q) _ _ (eq-eqb q q refl) refl)
      (alive_tag (in_element f (with_attribute f.element (encode_utf8_all name) value)))

  alive_put : (t : Target) (c : ℕ) → Lives (put t c) (put_goes t)
  alive_put (Content f) c = alive_in f.rows (with_character f.element c) f.outer
  alive_put (Value f name q value) c = alive_value f name q (value ++ encode_utf8 c)

  alive_end_space : (f : Frame) → Lives (EndSpace f) (62 ∷ outer_tags f.outer)
  alive_end_space f = go _ (close f) 62 _ refl refl (alive_close f)

  alive_behind : (w : Word) → Lives (behind_word w) (behind_goes w)
  alive_behind (Dashes g) = alive_long (InComment g) 0
  alive_behind (OpenSection f) = alive_long (InSection f) 0
  alive_behind (Empty f) = alive_close f
  alive_behind (EndName f) = alive_end_space f
  alive_behind (Entity t word c) = alive_put t c

  alive_word : (w : Word) (k : ℕ) → suc k ≤ length (letters w) → Lives (Letters w k) (drop k (letters w) ++ behind_goes w)
  alive_word w k lt =
      move _ (behind_word w) _ (behind_goes w)
      (sym (ap (λ x. Run x (drop k (letters w) ++ behind_goes w)) (no_ (k == length (letters w)) (behind_word w) (Letters w k) (part_word k (length (letters w)) (omega arith)) refl))
      ∙ word_from deepest end w k (drop k (letters w)) (behind_goes w) refl (omega arith))
      (alive_behind w)

  alive_quote : (f : Frame) (name : List ℕ) → Lives (Quote f name) (34 ∷ 34 ∷ 47 ∷ 62 ∷ outer_tags f.outer)
  alive_quote f name = go _ (InValue f name 34 []) 34 _ refl refl (alive_value f name 34 [])

  alive_attribute : (f : Frame) (name : List ℕ) →
      Lives (AttributeName f name) (fresh name f.element.attributes ++ (61 ∷ 34 ∷ 34 ∷ 47 ∷ 62 ∷ outer_tags f.outer))
  alive_attribute f name =
      move _ (AttributeName f (name ++ fresh name f.element.attributes)) _ (61 ∷ 34 ∷ 34 ∷ 47 ∷ 62 ∷ outer_tags f.outer)
      (attribute_names deepest end f name _ _ _ (name_tail (suc (total_length f.element.attributes)) name _))
      (go _ (Quote f (name ++ fresh name f.element.attributes)) 61 _ refl (no_ _ _ _ (fresh_is_new name f.element.attributes) refl) (alive_quote f (name ++ fresh name f.element.attributes)))

  alive_digits : (t : Target) (h : Bool) (n : ℕ) → IsTrue (nat_le n greatest) → Lives (Digits t h n) (digits_to n ++ (59 ∷ put_goes t))
  alive_digits t h n fits = scalar_or (is_scalar n) refl
    where
      last : (n : ℕ) → is_scalar n ≡ true → Lives (Digits t h n) (59 ∷ put_goes t)
      last n ok = go _ (put t n) 59 _ refl (yes _ _ _ ok refl) (alive_put t n)

      surrogate : (h : Bool) → 55295 < n → n < 57344 → Lives (Digits t h n) (48 ∷ 59 ∷ put_goes t)
      surrogate true a b =
          go _ (Digits t true (n * 16 + 0)) 48 _ refl (yes _ _ _ (le-leb (n * 16 + 0) greatest (omega arith)) refl)
          (go _ (put t (n * 16 + 0)) 59 _ refl (yes _ _ _ (large (n * 16 + 0) (omega arith) (omega arith)) refl) (alive_put t (n * 16 + 0)))
      surrogate false a b =
          go _ (Digits t false (n * 10 + 0)) 48 _ refl (yes _ _ _ (le-leb (n * 10 + 0) greatest (omega arith)) refl)
          (go _ (put t (n * 10 + 0)) 59 _ refl (yes _ _ _ (large (n * 10 + 0) (omega arith) (omega arith)) refl) (alive_put t (n * 10 + 0)))

      zero_to : (h : Bool) → Lives (Digits t h 0) (49 ∷ 59 ∷ put_goes t)
      zero_to true = go _ (Digits t true 1) 49 _ refl refl (go _ (put t 1) 59 _ refl refl (alive_put t 1))
      zero_to false = go _ (Digits t false 1) 49 _ refl refl (go _ (put t 1) 59 _ refl refl (alive_put t 1))

      nothing_or : (b : Bool) → (n == 0) ≡ b → is_scalar n ≡ false → Lives (Digits t h n) ((if b then 49 ∷ [] else 48 ∷ []) ++ (59 ∷ put_goes t))
      nothing_or true e no_scalar = subst (λ k. Lives (Digits t h k) (49 ∷ 59 ∷ put_goes t)) (sym (eqb-true n 0 e)) (zero_to h)
      nothing_or false e no_scalar = let (a, b) = not_scalar n e (leb-true n greatest fits) no_scalar in surrogate h a b

      scalar_or : (b : Bool) → is_scalar n ≡ b → Lives (Digits t h n) ((if b then [] else (if n == 0 then 49 ∷ [] else 48 ∷ [])) ++ (59 ∷ put_goes t))
      scalar_or true e = last n e
      scalar_or false e = nothing_or (n == 0) refl e

  alive_less : (g : Ground) (at : ℕ) → Lives (Less g at) (33 ∷ 45 ∷ 45 ∷ long_goes (InComment g))
  alive_less g at = go _ (Bang g) 33 _ refl refl (move _ (Until (InComment g) 0) _ _ (at_dash deepest end g _) (alive_long (InComment g) 0))

  alive_digit : (t : Target) (h : Bool) → Lives (Digit t h) (49 ∷ 59 ∷ put_goes t)
  alive_digit t true = go _ (Digits t true 1) 49 _ refl refl (go _ (put t 1) 59 _ refl refl (alive_put t 1))
  alive_digit t false = go _ (Digits t false 1) 49 _ refl refl (go _ (put t 1) 59 _ refl refl (alive_put t 1))

  pub alive : (at c : ℕ) (s : State) → Good at c s → Lives s (goes_on s)
  alive at c Begin good = move _ (On (Outside [])) _ _ (no_mark deepest end 60 _ refl) (alive_on (Outside []))
  alive at c (On g) good = alive_on g
  alive at c (Less g less) good = alive_less g less
  alive at c (Bang g) good = move _ (Until (InComment g) 0) _ _ (at_dash deepest end g _) (alive_long (InComment g) 0)
  alive at c (Letters w k) good = alive_word w k good
  alive at c (Until l k) good = alive_long l k
  alive at c (TagName f) good = go _ (Letters (Empty f) 1) 47 _ refl refl (go _ (close f) 62 _ refl refl (alive_close f))
  alive at c (Tag f) good = alive_tag f
  alive at c (TagSpace f) good = go _ (Letters (Empty f) 1) 47 _ refl refl (go _ (close f) 62 _ refl refl (alive_close f))
  alive at c (AttributeName f name) good = alive_attribute f name
  alive at c (Equals f name) good = go _ (Quote f name) 61 _ refl refl (alive_quote f name)
  alive at c (Quote f name) good = alive_quote f name
  alive at c (InValue f name q value) good = alive_value f name q value
  alive at c (EndSpace f) good = alive_end_space f
  alive at c (Reference t) good =
      go _ (Letters (Entity t (108 ∷ 116 ∷ 59 ∷ []) 60) 1) 108 _ refl refl (go _ (Letters (Entity t (108 ∷ 116 ∷ 59 ∷ []) 60) 2) 116 _ refl refl (go _ (put t 60) 59 _ refl refl (alive_put t 60)))
  alive at c (ReferenceA t) good =
      go _ (Letters (Entity t (97 ∷ 109 ∷ 112 ∷ 59 ∷ []) 38) 2) 109 _ refl refl (go _ (Letters (Entity t (97 ∷ 109 ∷ 112 ∷ 59 ∷ []) 38) 3) 112 _ refl refl (go _ (put t 38) 59 _ refl refl (alive_put t 38)))
  alive at c (Hash t) good = go _ (Digits t false 1) 49 _ refl refl (go _ (put t 1) 59 _ refl refl (alive_put t 1))
  alive at c (Digit t h) good = alive_digit t h
  alive at c (Digits t h n) good = alive_digits t h n good
