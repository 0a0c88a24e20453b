-- The states that a front of a text leads to, and what follows at its end and at the character behind it.
use Rattle.std.proofs.Common.{◌≡◌, ℕ, suc, ◌+◌, ◌-◌, ◌≤◌, max, Bool, true, false, not, List, [], ◌∷◌, ◌++◌, length, Option, Some, None, refl, sym, ◌∙◌, ap, subst, arith, append_assoc, length-append}
use Rattle.std.specs.Prelude.{if◌then◌else◌, ◌&&◌, ◌==◌, nat_le}
use Rattle.std.specs.Str.{encode_utf8_all}
use Rattle.std.proofs.lemmas.List.{append-nil}
use Rattle.std.proofs.lemmas.Str.{encodes-append}
use Rattle.std.proofs.lemmas.Bool.{leb-true, le-leb}
use Rattle.pj_markup.specs.Characters.{starts_name}
use Rattle.pj_markup.specs.Elements.{size, Row}
use Rattle.pj_markup.specs.Markup as m
use Rattle.pj_markup.specs.Markup.{Doc, document}
use Rattle.pj_markup.specs.Faults.{CanGoOn, CannotFollow, StopsAt, IsTooDeepAt}
use Rattle.pj_markup.specs.States.{Ground, Outside, Inside, State, Begin, On, Less, Bang, Letters, Until, TagName, Tag, TagSpace, AttributeName, Equals, Quote, InValue, EndSpace, Reference, ReferenceA, Hash, Digit, Digits, depth, may_start, step, is_deep, less_of, start_tag, at_end, run, Whole, Stops, TooDeep}
use Rattle.pj_markup.proofs.Residual.{Out, before, after}
use Rattle.pj_markup.proofs.Sound.{sound, stops, and_both}
use Rattle.pj_markup.proofs.Complete.{complete, goes, yes, no_, unlike, both_true}
use Rattle.pj_markup.proofs.Alive.{alive, goes_on}
use Rattle.pj_markup.proofs.Good.{Good, AllGood, good_step}
use Rattle.pj_markup.proofs.Depth.{depth_of, AllIn, in_step}

-- the front leads to the state, with no start tag deeper than may be
pub data Reached (deepest : ℕ) : List ℕ → State → Type 0 where
  at_front : Reached deepest [] Begin
  one_more : {front text : List ℕ} {s next : State} (c : ℕ) → Reached deepest front s → is_deep deepest s c ≡ false → step (size front) s c ≡ Some next →
      text ≡ front ++ c ∷ [] → Reached deepest text next

pub size-append : (v w : List ℕ) → size (v ++ w) ≡ size v + size w
size-append v w = ap length (encodes-append v w) ∙ length-append (encode_utf8_all v) (encode_utf8_all w)

-- the reader comes to the state and goes on from there
pub run_on : (deepest : ℕ) (front more whole : List ℕ) (s : State) → Reached deepest front s → whole ≡ front ++ more →
    run deepest (size whole) Begin whole ≡ run deepest (size whole) s more
run_on deepest front more whole s at_front is = ap (λ x. run deepest (size whole) Begin x) is
run_on deepest text more whole s (one_more {front = front} {s = b} c r shallow to split) is =
    let whole_is : whole ≡ front ++ c ∷ more = is ∙ ap (λ x. x ++ more) split ∙ append_assoc front (c ∷ []) more in
    let sizes : size whole ≡ size front + size (c ∷ more) = ap size whole_is ∙ size-append front (c ∷ more) in
    let offset : size whole - size (c ∷ more) ≡ size front = omega arith in
    run_on deepest front (c ∷ more) whole b r whole_is
    ∙ goes deepest (size whole) b s c more shallow (ap (λ o. step o b c) offset ∙ to)

-- what is read as whole is a document
doc_of : (deepest : ℕ) (text : List ℕ) (rows : List Row) → run deepest (size text) Begin text ≡ Whole rows → Doc deepest text rows
doc_of deepest text rows e =
    made (sound deepest (size text) rows text Begin (subst (λ o. stops deepest (size text) rows o) (sym e) refl))
  where
    made : (front : List ℕ) × m.Mark text front × Out deepest (size text) rows [] front → Doc deepest text rows
    made (front, k, before {tag = t} {behind = u} n ms el ns is) = document k ms (subst (λ r. m.Elem deepest (size text) 1 [] t r u) (sym is) el) ns
    made (front, k, after y ms is) = absurd (cc)

doc_runs : (deepest : ℕ) (text : List ℕ) (rows : List Row) → Doc deepest text rows → run deepest (size text) Begin text ≡ Whole rows
doc_runs deepest text rows (document k ms el ns) = complete deepest (size text) text _ _ _ rows k ms el ns

-- deeper elements change nothing where there are none

shallower : (a : Bool) (d n k : ℕ) → (a && not (nat_le d n)) ≡ false → n ≤ k → (a && not (nat_le d k)) ≡ false
shallower true d n k h le = ap not (le-leb d k (let small = leb-true d n (of_not (nat_le d n) h) in omega arith))
  where
    of_not : (b : Bool) → not b ≡ false → b ≡ true
    of_not true e = refl
    of_not false e = absurd (cc)
shallower false d n k h le = refl

still_shallow : (n k : ℕ) (s : State) (c : ℕ) → n ≤ k → is_deep n s c ≡ false → is_deep k s c ≡ false
still_shallow n k (Less g at) c le h = shallower (starts_name c && may_start g) (depth g) n k h le
still_shallow n k Begin c le h = refl
still_shallow n k (On g) c le h = refl
still_shallow n k (Bang g) c le h = refl
still_shallow n k (Letters w i) c le h = refl
still_shallow n k (Until l i) c le h = refl
still_shallow n k (TagName f) c le h = refl
still_shallow n k (Tag f) c le h = refl
still_shallow n k (TagSpace f) c le h = refl
still_shallow n k (AttributeName f name) c le h = refl
still_shallow n k (Equals f name) c le h = refl
still_shallow n k (Quote f name) c le h = refl
still_shallow n k (InValue f name quote value) c le h = refl
still_shallow n k (EndSpace f) c le h = refl
still_shallow n k (Reference t) c le h = refl
still_shallow n k (ReferenceA t) c le h = refl
still_shallow n k (Hash t) c le h = refl
still_shallow n k (Digit t x) c le h = refl
still_shallow n k (Digits t x i) c le h = refl

pub wider : (n k : ℕ) (front : List ℕ) (s : State) → n ≤ k → Reached n front s → Reached k front s
wider n k front s le at_front = at_front
wider n k front s le (one_more {front = f} {s = b} c r shallow to split) = one_more c (wider n k f b le r) (still_shallow n k b c le shallow) to split

run_wider : (n k end : ℕ) (t : List ℕ) (s : State) (rows : List Row) → n ≤ k → run n end s t ≡ Whole rows → run k end s t ≡ Whole rows
unfolding run
run_wider n k end [] s rows le e = e
run_wider n k end (c ∷ t) s rows le e =
    picked (λ next. run_wider n k end t next rows le) (is_deep n s c) (step (end - size (c ∷ t)) s c) refl refl e
  where
    picked : ((next : State) → run n end next t ≡ Whole rows → run k end next t ≡ Whole rows) → (b : Bool) (o : Option State) → is_deep n s c ≡ b → step (end - size (c ∷ t)) s c ≡ o →
        (if b then TooDeep (less_of s) else elim o [ None ↦ Stops (end - size (c ∷ t)) | Some next ↦ run n end next t ]) ≡ Whole rows →
        run k end s (c ∷ t) ≡ Whole rows
    picked more true o p q h = absurd (cc)
    picked more false None p q h = absurd (cc)
    picked more false (Some next) p q h = goes k end s next c t (still_shallow n k s c le p) q ∙ more next h

-- where the front is on the way to a document

pub good : (deepest : ℕ) (front : List ℕ) (s : State) → Reached deepest front s → (at : ℕ) × (c : ℕ) × Good at c s
good deepest front s at_front = (0, 0, tt)
good deepest front s (one_more {front = f} {s = b} {next = next} c r shallow to split) =
    (size f, c, subst (λ o. AllGood (size f) c o) to (good_step (size f) c b))

pub can_go_on : (deepest : ℕ) (front : List ℕ) (s : State) → nat_le 1 deepest ≡ true → Reached deepest front s → CanGoOn deepest front
can_go_on deepest front s some r =
    let (at, c, ok) = good deepest front s r in
    let whole = front ++ goes_on s in
    let (rows, e) = alive deepest (size whole) some at c s ok in
    (goes_on s, rows, doc_of deepest whole rows (run_on deepest front (goes_on s) whole s r refl ∙ e))

-- at the end

pub is_document : (deepest : ℕ) (text : List ℕ) (s : State) (rows : List Row) → Reached deepest text s → at_end (size text) s ≡ Whole rows → Doc deepest text rows
unfolding run
is_document deepest text s rows r e = doc_of deepest text rows (run_on deepest text [] text s r (sym (append-nil text)) ∙ e)

le_max_left : (n k : ℕ) → n ≤ max n k
le_max_left n k = omega arith

le_max_right : (n k : ℕ) → k ≤ max n k
le_max_right n k = omega arith

pub no_document : (deepest : ℕ) (text : List ℕ) (s : State) → Reached deepest text s → at_end (size text) s ≡ Stops (size text) → CannotFollow text []
unfolding run
no_document deepest text s r e rows (n, doc) =
    let k = max n deepest in
    let whole = run_wider n k (size text) text Begin rows (le_max_left n deepest) (doc_runs n text rows doc) in
    let here = run_on k text [] text s (wider deepest k text s (le_max_right n deepest) r) (sym (append-nil text)) in
    let both : Stops (size text) ≡ Whole rows = sym e ∙ sym here ∙ whole in
    cc

-- at a character

whole_on : (deepest n : ℕ) (front : List ℕ) (s : State) (c : ℕ) (more : List ℕ) (rows : List Row) → Reached deepest front s → n ≤ deepest →
    Doc n ((front ++ c ∷ []) ++ more) rows → run deepest (size ((front ++ c ∷ []) ++ more)) s (c ∷ more) ≡ Whole rows
whole_on deepest n front s c more rows r le doc =
    let whole = (front ++ c ∷ []) ++ more in
    sym (run_on deepest front (c ∷ more) whole s r (append_assoc front (c ∷ []) more)) ∙ run_wider n deepest (size whole) whole Begin rows le (doc_runs n whole rows doc)

offset_of : (front : List ℕ) (c : ℕ) (more : List ℕ) → size ((front ++ c ∷ []) ++ more) - size (c ∷ more) ≡ size front
offset_of front c more =
    let sizes : size ((front ++ c ∷ []) ++ more) ≡ size front + size (c ∷ more) = ap size (append_assoc front (c ∷ []) more) ∙ size-append front (c ∷ more) in omega arith

stopped : (deepest end : ℕ) (s : State) (c : ℕ) (t : List ℕ) (rows : List Row) → is_deep deepest s c ≡ false → step (end - size (c ∷ t)) s c ≡ None → run deepest end s (c ∷ t) ≡ Whole rows → ⊥
unfolding run
stopped deepest end s c t rows p q e = picked (is_deep deepest s c) (step (end - size (c ∷ t)) s c) p q e
  where
    picked : (b : Bool) (o : Option State) → b ≡ false → o ≡ None →
        (if b then TooDeep (less_of s) else elim o [ None ↦ Stops (end - size (c ∷ t)) | Some next ↦ run deepest end next t ]) ≡ Whole rows → ⊥
    picked true o p q h = cc
    picked false None p q h = cc
    picked false (Some next) p q h = cc

too_deep : (deepest end : ℕ) (s : State) (c : ℕ) (t : List ℕ) (rows : List Row) → is_deep deepest s c ≡ true → run deepest end s (c ∷ t) ≡ Whole rows → ⊥
unfolding run
too_deep deepest end s c t rows p e = picked (is_deep deepest s c) p e
  where
    picked : (b : Bool) → b ≡ true →
        (if b then TooDeep (less_of s) else elim (step (end - size (c ∷ t)) s c) [ None ↦ Stops (end - size (c ∷ t)) | Some next ↦ run deepest end next t ]) ≡ Whole rows → ⊥
    picked true p h = cc
    picked false p h = cc

pub cannot_follow : (deepest : ℕ) (front behind : List ℕ) (s : State) (c : ℕ) → Reached deepest front s → is_deep deepest s c ≡ false → step (size front) s c ≡ None →
    CannotFollow front (c ∷ behind)
cannot_follow deepest front behind s c r shallow none n (more, rows, doc) =
    let k = max n deepest in
    let e = whole_on k n front s c more rows (wider deepest k front s (le_max_right n deepest) r) (le_max_left n deepest) doc in
    stopped k _ s c more rows (still_shallow deepest k s c (le_max_right n deepest) shallow) (ap (λ o. step o s c) (offset_of front c more) ∙ none) e

pub stops_at_end : (deepest : ℕ) (text : List ℕ) (s : State) → nat_le 1 deepest ≡ true → Reached deepest text s → at_end (size text) s ≡ Stops (size text) → StopsAt deepest text (size text)
stops_at_end deepest text s some r e = record {
  front = text;
  behind = [];
  split = sym (append-nil text);
  at = refl;
  can_go_on = can_go_on deepest text s some r;
  cannot = no_document deepest text s r e;
}

pub stops_at : (deepest : ℕ) (text front behind : List ℕ) (s : State) (c : ℕ) → nat_le 1 deepest ≡ true → text ≡ front ++ c ∷ behind → Reached deepest front s → is_deep deepest s c ≡ false →
    step (size front) s c ≡ None → StopsAt deepest text (size front)
stops_at deepest text front behind s c some split r shallow none = record {
  front = front;
  behind = c ∷ behind;
  split = split;
  at = refl;
  can_go_on = can_go_on deepest front s some r;
  cannot = cannot_follow deepest front behind s c r shallow none;
}

-- the depth of what is open is within the bound

bounded : (deepest : ℕ) (front : List ℕ) (s : State) → Reached deepest front s → depth_of s ≤ deepest
bounded deepest front s at_front = omega arith
bounded deepest front s (one_more {front = f} {s = b} c r shallow to split) =
    subst (λ o. AllIn deepest o) to (in_step deepest (size f) c b shallow (bounded deepest f b r))

-- a start tag that is too deep

deep_less : (deepest : ℕ) (s : State) (c : ℕ) → is_deep deepest s c ≡ true → (g : Ground) × (at : ℕ) × (s ≡ Less g at)
deep_less n (Less g at) c h = (g, at, refl)
deep_less n Begin c h = absurd (cc)
deep_less n (On g) c h = absurd (cc)
deep_less n (Bang g) c h = absurd (cc)
deep_less n (Letters w i) c h = absurd (cc)
deep_less n (Until l i) c h = absurd (cc)
deep_less n (TagName f) c h = absurd (cc)
deep_less n (Tag f) c h = absurd (cc)
deep_less n (TagSpace f) c h = absurd (cc)
deep_less n (AttributeName f name) c h = absurd (cc)
deep_less n (Equals f name) c h = absurd (cc)
deep_less n (Quote f name) c h = absurd (cc)
deep_less n (InValue f name quote value) c h = absurd (cc)
deep_less n (EndSpace f) c h = absurd (cc)
deep_less n (Reference t) c h = absurd (cc)
deep_less n (ReferenceA t) c h = absurd (cc)
deep_less n (Hash t) c h = absurd (cc)
deep_less n (Digit t x) c h = absurd (cc)
deep_less n (Digits t x i) c h = absurd (cc)

less_front : (deepest : ℕ) (text : List ℕ) (s : State) (g : Ground) (at : ℕ) → Reached deepest text s → s ≡ Less g at →
    (front : List ℕ) × (text ≡ front ++ 60 ∷ []) × (at ≡ size front)
less_front deepest text s g at at_front is = absurd (cc)
less_front deepest text s g at (one_more {front = f} {s = b} {next = next} c r shallow to split) is =
    let ok : Good (size f) c next = subst (λ o. AllGood (size f) c o) to (good_step (size f) c b) in
    let less : Good (size f) c (Less g at) = subst (λ x. Good (size f) c x) is ok in
    (f, subst (λ x. text ≡ f ++ x ∷ []) less.0 split, less.1)

depth_next : (g : Ground) (at : ℕ) → depth g ≡ suc (depth_of (Less g at))
depth_next (Outside rows) at = refl
depth_next (Inside f) at = refl

starts : (g : Ground) (o at c : ℕ) → starts_name c ≡ true → may_start g ≡ true → step o (Less g at) c ≡ Some (start_tag g at c)
starts g o at c s may =
    no_ (c == 33) _ _ (unlike starts_name c 33 s refl) (no_ (c == 63) _ _ (unlike starts_name c 63 s refl)
    (yes (starts_name c && may_start g) _ _ (both_true 0 0 (starts_name c) (may_start g) s may) refl))

pub too_deep_at : (deepest : ℕ) (text front behind : List ℕ) (s : State) (c : ℕ) → nat_le 1 deepest ≡ true → text ≡ front ++ c ∷ behind → Reached deepest front s →
    is_deep deepest s c ≡ true → IsTooDeepAt deepest text (less_of s)
too_deep_at deepest text front behind s c some split r deep =
    let (g, at, is) = deep_less deepest s c deep in
    let r2 : Reached deepest front (Less g at) = subst (λ x. Reached deepest front x) is r in
    let deep2 : is_deep deepest (Less g at) c ≡ true = subst (λ x. is_deep deepest x c ≡ true) is deep in
    let (f, front_is, at_is) = less_front deepest front (Less g at) g at r2 refl in
    let (ab, d) = and_both (starts_name c && may_start g) (not (nat_le (depth g) deepest)) deep2 in
    let (a, b) = and_both (starts_name c) (may_start g) ab in
    let le = bounded deepest front (Less g at) r2 in
    let next = depth_next g at in
    let shallow : is_deep (suc deepest) (Less g at) c ≡ false = no_more (starts_name c && may_start g) (nat_le (depth g) (suc deepest)) (le-leb (depth g) (suc deepest) (omega arith)) in
    let whole : (f ++ 60 ∷ []) ++ c ∷ [] ≡ f ++ 60 ∷ c ∷ [] = append_assoc f (60 ∷ []) (c ∷ []) in
    let r3 : Reached (suc deepest) (f ++ 60 ∷ c ∷ []) (start_tag g at c) =
    one_more c (wider deepest (suc deepest) front (Less g at) (omega arith) r2) shallow (starts g (size front) at c a b) (sym whole ∙ ap (λ x. x ++ c ∷ []) (sym front_is)) in
    record {
      front = f;
      first = c;
      behind = behind;
      split = split ∙ ap (λ x. x ++ c ∷ behind) front_is ∙ append_assoc f (60 ∷ []) (c ∷ behind);
      at = ap less_of is ∙ at_is;
      before = subst (CanGoOn deepest) front_is (can_go_on deepest front (Less g at) some r2);
      not_so_deep = λ more. not_on deepest front (Less g at) c r2 deep2 (subst (CanGoOn deepest) (sym whole ∙ ap (λ x. x ++ c ∷ []) (sym front_is)) more);
      deeper = can_go_on (suc deepest) (f ++ 60 ∷ c ∷ []) (start_tag g at c) (le-leb 1 (suc deepest) (omega arith)) r3;
    }
  where
    no_more : (a b : Bool) → b ≡ true → (a && not b) ≡ false
    no_more true b h = ap not h
    no_more false b h = refl

    not_on : (deepest : ℕ) (front : List ℕ) (s : State) (c : ℕ) → Reached deepest front s → is_deep deepest s c ≡ true → CanGoOn deepest (front ++ c ∷ []) → ⊥
    not_on deepest front s c r deep (more, rows, doc) = too_deep deepest _ s c more rows deep (whole_on deepest deepest front s c more rows r (omega arith) doc)

-- a text has one reading

pub one_reading : (n k : ℕ) (text : List ℕ) (rows others : List Row) → Doc n text rows → Doc k text others → rows ≡ others
one_reading n k text rows others doc other =
    let d = max n k in
    let a = run_wider n d (size text) text Begin rows (le_max_left n k) (doc_runs n text rows doc) in
    let b = run_wider k d (size text) text Begin others (le_max_right n k) (doc_runs k text others other) in
    let e : Whole rows ≡ Whole others = sym a ∙ b in
    cc
