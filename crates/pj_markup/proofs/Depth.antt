-- No state that the reader comes to is deeper than may be.
use Rattle.std.proofs.Common.{◌≡◌, ℕ, zero, suc, ◌+◌, ◌*◌, ◌≤◌, Bool, true, false, List, [], ◌∷◌, length, Option, Some, None, refl, sym, ◌∙◌, subst, arith}
use Rattle.std.specs.Prelude.{if◌then◌else◌, ◌==◌, ◌&&◌, nat_le, slice_get}
use Rattle.std.specs.Str.{encode_utf8_all}
use Rattle.std.proofs.lemmas.Bool.{leb-true}
use Rattle.pj_markup.specs.Characters.{is_space, starts_name, continues_name, is_quote, base, digit, greatest, is_scalar}
use Rattle.pj_markup.specs.Elements.{Row, Open, with_character}
use Rattle.pj_markup.specs.Markup.{has_name}
use Rattle.pj_markup.specs.States.{Frame, Ground, Outside, Inside, Target, Content, Value, Word, Dashes, OpenSection, Empty, EndName, Entity, Long, InComment, InInstruction, InSection, State, Begin, On, Less, Bang, Letters, Until, TagName, Tag, TagSpace, AttributeName, Equals, Quote, InValue, EndSpace, Reference, ReferenceA, Hash, Digit, Digits, in_element, ended, depth, is_deep, letters, repeated, times, take_in, take_back, behind_long, put, may_start, behind_word, spelled, on_ground, on_less, on_slash, on_bang, on_letter, on_long, on_tag, on_equals, on_reference, on_reference_a, first_digit, next_digit, step, start_tag}
use Rattle.pj_markup.proofs.Sound.{not_deep}

abbrev pub ground_depth : Ground → ℕ
ground_depth (Outside rows) = 0
ground_depth (Inside f) = suc (length f.outer)

abbrev pub target_depth : Target → ℕ
target_depth (Content f) = suc (length f.outer)
target_depth (Value f name quote value) = suc (length f.outer)

abbrev pub word_depth : Word → ℕ
word_depth (Dashes g) = ground_depth g
word_depth (OpenSection f) = suc (length f.outer)
word_depth (Empty f) = suc (length f.outer)
word_depth (EndName f) = suc (length f.outer)
word_depth (Entity t word c) = target_depth t

abbrev pub long_depth : Long → ℕ
long_depth (InComment g) = ground_depth g
long_depth (InInstruction g) = ground_depth g
long_depth (InSection f) = suc (length f.outer)

-- how deep the innermost element stands that is open
abbrev pub depth_of : State → ℕ
depth_of Begin = 0
depth_of (On g) = ground_depth g
depth_of (Less g at) = ground_depth g
depth_of (Bang g) = ground_depth g
depth_of (Letters w k) = word_depth w
depth_of (Until l k) = long_depth l
depth_of (TagName f) = suc (length f.outer)
depth_of (Tag f) = suc (length f.outer)
depth_of (TagSpace f) = suc (length f.outer)
depth_of (AttributeName f name) = suc (length f.outer)
depth_of (Equals f name) = suc (length f.outer)
depth_of (Quote f name) = suc (length f.outer)
depth_of (InValue f name quote value) = suc (length f.outer)
depth_of (EndSpace f) = suc (length f.outer)
depth_of (Reference t) = target_depth t
depth_of (ReferenceA t) = target_depth t
depth_of (Hash t) = target_depth t
depth_of (Digit t h) = target_depth t
depth_of (Digits t h n) = target_depth t

abbrev pub AllIn : ℕ → Option State → Type 0
AllIn deepest None = Unit {0}
AllIn deepest (Some s) = depth_of s ≤ deepest

module _ (deepest at c : ℕ) where
  either : (b : Bool) (x y : Option State) → (b ≡ true → AllIn deepest x) → (b ≡ false → AllIn deepest y) → AllIn deepest (if b then x else y)
  either true x y f g = f refl
  either false x y f g = g refl

  in_put : (t : Target) (d : ℕ) → target_depth t ≤ deepest → depth_of (put t d) ≤ deepest
  in_put (Content f) d h = h
  in_put (Value f name quote value) d h = h

  in_ended : (rows : List Row) (outer : List Open) → suc (length outer) ≤ deepest → depth_of (On (ended rows outer)) ≤ deepest
  in_ended rows [] h = omega arith
  in_ended rows (g ∷ outer) h = omega arith

  in_long : (l : Long) (k : ℕ) → long_depth (take_back l k) ≡ long_depth l
  in_long (InComment g) zero = refl
  in_long (InComment g) (suc k) = in_long (InComment g) k
  in_long (InInstruction g) zero = refl
  in_long (InInstruction g) (suc k) = in_long (InInstruction g) k
  in_long (InSection f) zero = refl
  in_long (InSection f) (suc k) = in_long (InSection (in_element f (with_character f.element 93))) k

  in_take : (l : Long) (d : ℕ) → long_depth (take_in l d) ≡ long_depth l
  in_take (InComment g) d = refl
  in_take (InInstruction g) d = refl
  in_take (InSection f) d = refl

  in_behind_long : (l : Long) → ground_depth (behind_long l) ≡ long_depth l
  in_behind_long (InComment g) = refl
  in_behind_long (InInstruction g) = refl
  in_behind_long (InSection f) = refl

  in_behind : (w : Word) → word_depth w ≤ deepest → depth_of (behind_word w) ≤ deepest
  in_behind (Dashes g) h = h
  in_behind (OpenSection f) h = h
  in_behind (Empty f) h = in_ended _ f.outer h
  in_behind (EndName f) h = h
  in_behind (Entity t word d) h = in_put t d h

  in_spelled : (w : Word) (k : ℕ) → word_depth w ≤ deepest → depth_of (spelled w k) ≤ deepest
  in_spelled w k h = by (k == length (letters w))
    where
      by : (b : Bool) → depth_of (if b then behind_word w else Letters w k) ≤ deepest
      by true = in_behind w h
      by false = h

  in_letter : (w : Word) (k : ℕ) (o : Option ℕ) → word_depth w ≤ deepest → AllIn deepest (on_letter w k c o)
  in_letter w k None h = tt
  in_letter w k (Some l) h = either (c == l) _ _ (λ p. in_spelled w (suc k) h) (λ p. tt)

  in_ground : (g : Ground) → ground_depth g ≤ deepest → AllIn deepest (on_ground g at c)
  in_ground (Outside rows) h = either (is_space c) _ _ (λ p. h) (λ p. either (c == 60) _ _ (λ q. h) (λ q. tt))
  in_ground (Inside f) h = either (c == 60) _ _ (λ q. h) (λ q. either (c == 38) _ _ (λ q. h) (λ q. h))

  in_slash : (g : Ground) → ground_depth g ≤ deepest → AllIn deepest (on_slash g c)
  in_slash (Outside rows) h = tt
  in_slash (Inside f) h = either (c == 47) _ _ (λ p. in_spelled (EndName f) 0 h) (λ p. tt)

  in_start : (g : Ground) (less : ℕ) → depth g ≤ deepest → depth_of (start_tag g less c) ≤ deepest
  in_start (Outside rows) less h = h
  in_start (Inside f) less h = h

  in_less : (g : Ground) (less : ℕ) → is_deep deepest (Less g less) c ≡ false → ground_depth g ≤ deepest → AllIn deepest (on_less g less c)
  in_less g less shallow h =
      either (c == 33) _ _ (λ p. h) (λ p. either (c == 63) _ _ (λ p. h) (λ p. either (starts_name c && may_start g) _ _
      (λ p. in_start g less (leb-true (depth g) deepest (not_deep deepest at [] (starts_name c) (may_start g) (nat_le (depth g) deepest) shallow p).2)) (λ p. in_slash g h)))

  in_bang : (g : Ground) → ground_depth g ≤ deepest → AllIn deepest (on_bang g c)
  in_bang (Outside rows) h = either (c == 45) _ _ (λ p. h) (λ p. tt)
  in_bang (Inside f) h = either (c == 45) _ _ (λ p. h) (λ p. either (c == 91) _ _ (λ p. h) (λ p. tt))

  in_until : (l : Long) (k : ℕ) → long_depth l ≤ deepest → AllIn deepest (on_long l k c)
  in_until l k h =
      either (c == repeated l) _ _ (λ p. either (k == times l) _ _ (λ p. subst (λ n. n ≤ deepest) (sym (in_take l c)) h) (λ p. h))
      (λ p. either ((c == 62) && (k == times l)) _ _ (λ p. subst (λ n. n ≤ deepest) (sym (in_behind_long l)) h)
      (λ p. subst (λ n. n ≤ deepest) (sym (in_take (take_back l k) c ∙ in_long l k)) h))

  in_tag : (f : Frame) → suc (length f.outer) ≤ deepest → AllIn deepest (on_tag f c)
  in_tag f h = either (is_space c) _ _ (λ p. h) (λ p. either (c == 47) _ _ (λ p. h) (λ p. either (c == 62) _ _ (λ p. h) (λ p. tt)))

  in_equals : (f : Frame) (name : List ℕ) → suc (length f.outer) ≤ deepest → AllIn deepest (on_equals f name c)
  in_equals f name h = either (is_space c) _ _ (λ p. h) (λ p. either (c == 61) _ _ (λ p. h) (λ p. tt))

  in_reference : (t : Target) → target_depth t ≤ deepest → AllIn deepest (on_reference t c)
  in_reference t h =
      either (c == 108) _ _ (λ p. h) (λ p. either (c == 103) _ _ (λ p. h) (λ p. either (c == 113) _ _ (λ p. h)
      (λ p. either (c == 97) _ _ (λ p. h) (λ p. either (c == 35) _ _ (λ p. h) (λ p. tt)))))

  in_reference_a : (t : Target) → target_depth t ≤ deepest → AllIn deepest (on_reference_a t c)
  in_reference_a t h = either (c == 109) _ _ (λ p. h) (λ p. either (c == 112) _ _ (λ p. h) (λ p. tt))

  in_first : (t : Target) (h : Bool) (o : Option ℕ) → target_depth t ≤ deepest → AllIn deepest (first_digit t h o)
  in_first t h None z = tt
  in_first t h (Some d) z = z

  in_next : (t : Target) (h : Bool) (n : ℕ) (o : Option ℕ) → target_depth t ≤ deepest → AllIn deepest (next_digit t h n o)
  in_next t h n None z = tt
  in_next t h n (Some d) z = either (nat_le (n * base h + d) greatest) _ _ (λ p. z) (λ p. tt)

  pub in_step : (s : State) → is_deep deepest s c ≡ false → depth_of s ≤ deepest → AllIn deepest (step at s c)
  in_step Begin shallow h = either (c == 65279) _ _ (λ p. h) (λ p. in_ground (Outside []) h)
  in_step (On g) shallow h = in_ground g h
  in_step (Less g less) shallow h = in_less g less shallow h
  in_step (Bang g) shallow h = in_bang g h
  in_step (Letters w k) shallow h = in_letter w k (slice_get (letters w) k) h
  in_step (Until l k) shallow h = in_until l k h
  in_step (TagName f) shallow h = either (continues_name c) _ _ (λ p. h) (λ p. in_tag f h)
  in_step (Tag f) shallow h = in_tag f h
  in_step (TagSpace f) shallow h = either (starts_name c) _ _ (λ p. h) (λ p. in_tag f h)
  in_step (AttributeName f name) shallow h =
      either (continues_name c) _ _ (λ p. h) (λ p. either (has_name (encode_utf8_all name) f.element.attributes) _ _ (λ p. tt) (λ p. in_equals f name h))
  in_step (Equals f name) shallow h = in_equals f name h
  in_step (Quote f name) shallow h = either (is_space c) _ _ (λ p. h) (λ p. either (is_quote c) _ _ (λ p. h) (λ p. tt))
  in_step (InValue f name quote value) shallow h =
      either (c == quote) _ _ (λ p. h) (λ p. either (c == 60) _ _ (λ p. tt) (λ p. either (c == 38) _ _ (λ p. h) (λ p. h)))
  in_step (EndSpace f) shallow h = either (is_space c) _ _ (λ p. h) (λ p. either (c == 62) _ _ (λ p. in_ended _ f.outer h) (λ p. tt))
  in_step (Reference t) shallow h = in_reference t h
  in_step (ReferenceA t) shallow h = in_reference_a t h
  in_step (Hash t) shallow h = either (c == 120) _ _ (λ p. h) (λ p. in_first t false (digit false c) h)
  in_step (Digit t hex) shallow h = in_first t hex (digit hex c) h
  in_step (Digits t hex n) shallow h = either (c == 59) _ _ (λ p. either (is_scalar n) _ _ (λ p. in_put t n h) (λ p. tt)) (λ p. in_next t hex n (digit hex c) h)
