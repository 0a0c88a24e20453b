-- What a look-up by a pattern's key finds, and what an insertion leaves.
use Rattle.std.proofs.Common.{◌≡◌, ◌∙◌, ℕ, Bool, true, false, cond, ◌&&◌, ◌||◌, List, [], ◌∷◌, Option, Some, None, MatchOption, refl, sym, ap, ap₂, subst, eqb, is_some, ◌+◌, ◌++◌, ◌<◌, ◌⊎◌, inl, inr, ⊎_elim, get_or, length, take, drop, option_copied, Ordering, arith}
use Rattle.std.proofs.Math.Logic.{∥∥₁_elim}
use Rattle.std.proofs.Props.{props}
use Rattle.std.specs.List.{AllByRecursion, AllByRecursion-prop}
use Rattle.std.specs.List.Sorted.{IsStrictlySortedBy}
use Rattle.std.proofs.lemmas.Map.Keys.{sorted_head, sorted_tail}
use denote.Ref.{Bor}
use Rattle.std.proofs.lemmas.List.{take-append-drop, at_drop_more}
use Rattle.std.specs.Map.{keys_of, lookup, values_of}
use Rattle.std.specs.BTreeMap.{is_at, insert_entry}
use Rattle.std.specs.Ordering.{nat_cmp, is_eq, match_ordering}
use Rattle.std.specs.declared.cmp.Ordering.TheVariants as o
use Rattle.std.specs.Cmp.Lexicographic.{slice_cmp, pointwise, texts_ties}
use Rattle.std.proofs.lemmas.Slice.Eq.{slice_eq-Decides}
use Rattle.std.proofs.lemmas.Bool.{false≢true}
use Rattle.std.proofs.lemmas.Bool.Decides.{Decides-eqb}
use Rattle.pj_xpatterns.specs.declared.flags.PatternFlags.{PatternFlags}
use Rattle.pj_xpatterns.specs.Keys.{key_of, AreKeyed}
use Rattle.pj_xpatterns.specs.declared.compiled.PatternFault.{PatternFault}
use Rattle.pj_xpatterns.specs.declared.compiled.PatternFault.TheVariants.{Refused, Memory}
use Rattle.pj_xpatterns.specs.Meaning.{Text, Pattern, IsNoPattern, same_bool, same_pattern, has, AreApart}
use Rattle.pj_xpatterns.specs.Refusing.{AreTaken, IfRefused, IsFirstRefused}

same-text : (a b : Text) → pointwise eqb a b ≡ true → a ≡ b
same-text a b h = (slice_eq-Decides Decides-eqb a b (pointwise eqb a b) refl).0 h

text-same : (a : Text) → pointwise eqb a a ≡ true
text-same a = (slice_eq-Decides Decides-eqb a a (pointwise eqb a a) refl).1 refl

-- a flag is told from its letter
flag : (a b : Bool) (letter : ℕ) → (letter ≡ 45 → ⊥) → cond a letter 45 ≡ cond b letter 45 → a ≡ b
flag true true letter apart h = refl
flag true false letter apart h = absurd (apart h)
flag false true letter apart h = absurd (apart (sym h))
flag false false letter apart h = refl

flags-same : (a b : PatternFlags) → a.any_case ≡ b.any_case → a.multi_line ≡ b.multi_line → a.dot_all ≡ b.dot_all → a ≡ b
flags-same a b e f g i = record { any_case = e i; multi_line = f i; dot_all = g i }

pub pattern_from_key : (p q : Pattern) → key_of p ≡ key_of q → p ≡ q
pattern_from_key p q h =
    let text : p.0 ≡ q.0 = cc in
    let i : cond p.1.any_case 105 45 ≡ cond q.1.any_case 105 45 = cc in
    let m : cond p.1.multi_line 109 45 ≡ cond q.1.multi_line 109 45 = cc in
    let s : cond p.1.dot_all 115 45 ≡ cond q.1.dot_all 115 45 = cc in
    let flags = flags-same p.1 q.1 (flag p.1.any_case q.1.any_case 105 (λ (e : 105 ≡ 45). omega (arith, e)) i) (flag p.1.multi_line q.1.multi_line 109 (λ (e : 109 ≡ 45). omega (arith, e)) m) (flag p.1.dot_all q.1.dot_all 115 (λ (e : 115 ≡ 45). omega (arith, e)) s) in
    (λ j. (text j, flags j))

bool-same : (b : Bool) → same_bool b b ≡ true
bool-same true = refl
bool-same false = refl

pub pattern-same : (p : Pattern) → same_pattern p p ≡ true
pattern-same p = rw (text-same p.0, bool-same p.1.any_case, bool-same p.1.multi_line, bool-same p.1.dot_all)

and-left : (a b : Bool) → (a && b) ≡ true → a ≡ true
and-left true b h = refl
and-left false b h = absurd (false≢true h)

and-right : (a b : Bool) → (a && b) ≡ true → b ≡ true
and-right true b h = h
and-right false b h = absurd (false≢true h)

same-bool : (a b : Bool) → same_bool a b ≡ true → a ≡ b
same-bool true true h = refl
same-bool true false h = absurd (false≢true h)
same-bool false true h = absurd (false≢true h)
same-bool false false h = refl

pub same-pattern : (p q : Pattern) → same_pattern p q ≡ true → p ≡ q
same-pattern p q h =
    let texts = same-text p.0 q.0 (and-left _ _ h) in
    let rest = and-right (pointwise eqb p.0 q.0) _ h in
    let more = and-right (same_bool p.1.any_case q.1.any_case) _ rest in
    let flags = flags-same p.1 q.1 (same-bool _ _ (and-left _ _ rest)) (same-bool _ _ (and-left _ _ more)) (same-bool _ _ (and-right (same_bool p.1.multi_line q.1.multi_line) _ more)) in
    (λ j. (texts j, flags j))

-- the test of a key is the test of the pattern
pub key-tests : (p q : Pattern) → is_at (slice_cmp nat_cmp (key_of p)) (key_of q) ≡ same_pattern q p
key-tests p q = sym (texts_ties (key_of p) (key_of q)) ∙ go (pointwise eqb (key_of p) (key_of q)) (same_pattern q p) refl refl
  where
    go : (a b : Bool) → pointwise eqb (key_of p) (key_of q) ≡ a → same_pattern q p ≡ b → pointwise eqb (key_of p) (key_of q) ≡ same_pattern q p
    go true true e f = e ∙ sym f
    go false false e f = e ∙ sym f
    go true false e f = absurd (false≢true (sym f ∙ subst (λ (x : Pattern). same_pattern q x ≡ true) (sym (pattern_from_key p q (same-text (key_of p) (key_of q) e))) (pattern-same q)))
    go false true e f = absurd (false≢true (sym e ∙ subst (λ (x : Pattern). pointwise eqb (key_of p) (key_of x) ≡ true) (sym (same-pattern q p f)) (text-same (key_of p))))

abbrev pub FoundIs : List (Text × Pattern) → Pattern → Option Pattern → Type 0
FoundIs es p r = MatchOption r (has (values_of es) p ≡ false) (λ q. (q ≡ p) × (has (values_of es) p ≡ true))

pub found_by_key : (es : List (Text × Pattern)) (p : Pattern) → AreKeyed es → FoundIs es p (lookup (is_at (slice_cmp nat_cmp (key_of p))) es)
found_by_key [] p keyed = refl
found_by_key (e ∷ es) p keyed = go (found_by_key es p keyed.1) (same_pattern e.1 p) refl
  where
    at_key : is_at (slice_cmp nat_cmp (key_of p)) e.0 ≡ same_pattern e.1 p
    at_key = ap (λ (k : Text). is_at (slice_cmp nat_cmp (key_of p)) k) keyed.0 ∙ key-tests p e.1

    go : FoundIs es p (lookup (is_at (slice_cmp nat_cmp (key_of p))) es) → (b : Bool) → same_pattern e.1 p ≡ b → FoundIs (e ∷ es) p (cond (is_at (slice_cmp nat_cmp (key_of p)) e.0) (Some e.1) (lookup (is_at (slice_cmp nat_cmp (key_of p))) es))
    go rest true h = rw (at_key, h) (same-pattern e.1 p h, refl)
    go rest false h = rw (at_key, h) rest

-- a look-up that finds something has the pattern
pub has_from_found : (es : List (Text × Pattern)) (p : Pattern) (r : Option Pattern) → FoundIs es p r → has (values_of es) p ≡ is_some r
has_from_found es p None h = h
has_from_found es p (Some q) h = h.1

keyed_is_pattern : (e : Text × Pattern) (p : Pattern) → e.0 ≡ key_of e.1 → slice_cmp nat_cmp (key_of p) e.0 ≡ o.Equal → e.1 ≡ p
keyed_is_pattern e p keyed h = same-pattern e.1 p (sym (key-tests p e.1) ∙ ap (λ (k : Text). is_at (slice_cmp nat_cmp (key_of p)) k) (sym keyed) ∙ ap is_eq h)

or-swap : (a b c : Bool) → (a || (b || c)) ≡ (b || (a || c))
or-swap true true c = refl
or-swap true false c = refl
or-swap false true c = refl
or-swap false false c = refl

or-same : (a b : Bool) → (a || b) ≡ (a || (a || b))
or-same true b = refl
or-same false b = refl

-- the patterns behind an insertion
pub has-insert : (es : List (Text × Pattern)) (p q : Pattern) → AreKeyed es → has (values_of (insert_entry (slice_cmp nat_cmp) es (key_of p) p)) q ≡ (same_pattern p q || has (values_of es) q)
has-insert [] p q keyed = refl
has-insert (e ∷ es) p q keyed = go (has-insert es p q keyed.1) (slice_cmp nat_cmp (key_of p) e.0) refl
  where
    go : has (values_of (insert_entry (slice_cmp nat_cmp) es (key_of p) p)) q ≡ (same_pattern p q || has (values_of es) q) → (r : Ordering) → slice_cmp nat_cmp (key_of p) e.0 ≡ r
        → has (values_of (match_ordering r ((key_of p, p) ∷ e ∷ es) ((e.0, p) ∷ es) (e ∷ insert_entry (slice_cmp nat_cmp) es (key_of p) p))) q ≡ (same_pattern p q || (same_pattern e.1 q || has (values_of es) q))
    go ih o.Less h = refl
    go ih o.Equal h = rw (keyed_is_pattern e p keyed.0 h) (or-same (same_pattern p q) (has (values_of es) q))
    go ih o.Greater h = rw ih (or-swap (same_pattern e.1 q) (same_pattern p q) (has (values_of es) q))

pub keyed-insert : (es : List (Text × Pattern)) (p : Pattern) → AreKeyed es → AreKeyed (insert_entry (slice_cmp nat_cmp) es (key_of p) p)
keyed-insert [] p keyed = (refl, tt)
keyed-insert (e ∷ es) p keyed = go (keyed-insert es p keyed.1) (slice_cmp nat_cmp (key_of p) e.0) refl
  where
    go : AreKeyed (insert_entry (slice_cmp nat_cmp) es (key_of p) p) → (r : Ordering) → slice_cmp nat_cmp (key_of p) e.0 ≡ r → AreKeyed (match_ordering r ((key_of p, p) ∷ e ∷ es) ((e.0, p) ∷ es) (e ∷ insert_entry (slice_cmp nat_cmp) es (key_of p) p))
    go ih o.Less h = (refl, keyed)
    go ih o.Equal h = (keyed.0 ∙ ap key_of (keyed_is_pattern e p keyed.0 h), keyed.1)
    go ih o.Greater h = (keyed.0, ih)

-- ---- entries in the order of their keys

not-among : (p : Pattern) (es : List (Text × Pattern)) → AreKeyed es → AllByRecursion (λ (k : Text). slice_cmp nat_cmp (key_of p) k ≡ o.Less) (keys_of es) → has (values_of es) p ≡ false
not-among p [] keyed less = refl
not-among p (e ∷ es) keyed less =
    ap₂ (λ (a b : Bool). a || b) (sym (key-tests p e.1) ∙ ap (λ (k : Text). is_at (slice_cmp nat_cmp (key_of p)) k) (sym keyed.0) ∙ ap is_eq less.0) (not-among p es keyed.1 less.1)

pub apart : (es : List (Text × Pattern)) → AreKeyed es → IsStrictlySortedBy (slice_cmp nat_cmp) (keys_of es) → AreApart (values_of es)
apart [] keyed sorted = tt
apart (e ∷ es) keyed sorted = (
  not-among e.1 es keyed.1 (subst (λ (key : Text). AllByRecursion (λ (k : Text). slice_cmp nat_cmp key k ≡ o.Less) (keys_of es)) keyed.0 (sorted_head (slice_cmp nat_cmp) e.0 (keys_of es) sorted)),
  apart es keyed.1 (sorted_tail (slice_cmp nat_cmp) e.0 (keys_of es) sorted),
)

-- ---- patterns in the order in which they were found

pub has-push : (ps : List Pattern) (p q : Pattern) → has (ps ++ p ∷ []) q ≡ (same_pattern p q || has ps q)
has-push [] p q = refl
has-push (x ∷ ps) p q = rw (has-push ps p q) (or-swap (same_pattern x q) (same_pattern p q) (has ps q))

-- one that was among them already
pub has-again : (ps : List Pattern) (p q : Pattern) → has ps p ≡ true → has ps q ≡ (same_pattern p q || has ps q)
has-again ps p q h = go (same_pattern p q) refl
  where
    go : (b : Bool) → same_pattern p q ≡ b → has ps q ≡ (same_pattern p q || has ps q)
    go true e = rw e (subst (λ (x : Pattern). has ps x ≡ true) (same-pattern p q e) h)
    go false e = rw e refl

-- a key is told from another, so the fact of the entries is a proposition
keyed_all : (es : List (Text × Pattern)) → ∥ AreKeyed es ∥₁ → AreKeyed es
keyed_all es keyed = ∥∥₁_elim keyed (AllByRecursion-prop (λ (e : Text × Pattern). e.0 ≡ key_of e.1) (λ e. hlevel props) es) (λ h. h)

-- what a look-up that is lent gives
abbrev pub Lends : List Pattern → Pattern → Option (Bor Pattern) → Type 0
Lends ps p r = MatchOption r (has ps p ≡ false) (λ lent. (lent.now ≡ p) × (has ps p ≡ true))

lends : (es : List (Text × Pattern)) (p : Pattern) (r : Option (Bor Pattern)) (o : Option Pattern) → option_copied r ≡ o → FoundIs es p o → Lends (values_of es) p r
lends es p None None h found = found
lends es p None (Some q) h found = absurd (cc)
lends es p (Some lent) None h found = absurd (cc)
lends es p (Some lent) (Some q) h found = let same_value : lent.now ≡ q = cc in (same_value ∙ found.0, found.1)

pub got : (es : List (Text × Pattern)) (ps : List Pattern) (p : Pattern) (key : Text) (r : Option (Bor Pattern)) → ∥ AreKeyed es ∥₁ → values_of es ≡ ps → key ≡ key_of p → option_copied r ≡ lookup (is_at (slice_cmp nat_cmp key)) es → Lends ps p r
got es ps p key r keyed view is value =
    let inside : Lends (values_of es) p r = lends es p r (lookup (is_at (slice_cmp nat_cmp key)) es) value (subst (λ (k : Text). FoundIs es p (lookup (is_at (slice_cmp nat_cmp k)) es)) (sym is) (found_by_key es p (keyed_all es keyed))) in
    subst (λ (qs : List Pattern). Lends qs p r) view inside

-- ---- one more pattern

pub record Kept (old new : List (Text × Pattern)) (p q : Pattern) : Type 0 where
  pub same : q ≡ p
  pub keyed : AreKeyed new
  pub value : (other : Pattern) → has (values_of new) other ≡ (same_pattern p other || has (values_of old) other)

pub kept_facts : (old new : List (Text × Pattern)) (p q : Pattern) (key text : Text) → AreKeyed old → text ≡ p.0 → key ≡ key_of (text, p.1) → q ≡ (text, p.1) → new ≡ insert_entry (slice_cmp nat_cmp) old key q → Kept old new p q
kept_facts old new p q key text keyed text_is key_is q_is new_is =
    let pattern : q ≡ p = q_is ∙ ap (λ (t : Text). (t, p.1)) text_is in
    let its_key : key ≡ key_of p = key_is ∙ ap (λ (t : Text). key_of (t, p.1)) text_is in
    let all : new ≡ insert_entry (slice_cmp nat_cmp) old (key_of p) p = new_is ∙ ap₂ (λ (k : Text) (x : Pattern). insert_entry (slice_cmp nat_cmp) old k x) its_key pattern in
    record {
      same = pattern;
      keyed = subst (λ (es : List (Text × Pattern)). AreKeyed es) (sym all) (keyed-insert old p keyed);
      value = λ other. ap (λ (es : List (Text × Pattern)). has (values_of es) other) all ∙ has-insert old p other keyed;
    }

pub has_contained : (es : List (Text × Pattern)) (p : Pattern) (key text : Text) → AreKeyed es → text ≡ p.0 → key ≡ key_of (text, p.1) → true ≡ is_some (lookup (is_at (slice_cmp nat_cmp key)) es) → has (values_of es) p ≡ true
has_contained es p key text keyed text_is key_is found =
    let its_key : key ≡ key_of p = key_is ∙ ap (λ (t : Text). key_of (t, p.1)) text_is in
    has_from_found es p (lookup (is_at (slice_cmp nat_cmp (key_of p))) es) (found_by_key es p keyed) ∙ ap (λ (k : Text). is_some (lookup (is_at (slice_cmp nat_cmp k)) es)) (sym its_key) ∙ sym found

-- ---- patterns that were taken

or-true : (a b : Bool) → (a || b) ≡ true → (a ≡ true) ⊎ (b ≡ true)
or-true true b h = inl refl
or-true false b h = inr h

taken-again : (ps : List Pattern) (p : Pattern) → AreTaken ps → has ps p ≡ true → ¬ IsNoPattern p
taken-again [] p taken h = absurd (false≢true h)
taken-again (x ∷ ps) p taken h = ⊎_elim (λ e. subst (λ (q : Pattern). ¬ IsNoPattern q) (same-pattern x p e) taken.0) (λ e. taken-again ps p taken.1 e) (or-true (same_pattern x p) (has ps p) h)

taken-append : (ps : List Pattern) (p : Pattern) → AreTaken ps → ¬ IsNoPattern p → AreTaken (ps ++ p ∷ [])
taken-append [] p taken h = (h, tt)
taken-append (x ∷ ps) p taken h = (taken.0, taken-append ps p taken.1 h)

pub taken-more : (ps : List Pattern) (p : Pattern) → AreTaken ps → (has ps p ≡ false → ¬ IsNoPattern p) → AreTaken (ps ++ p ∷ [])
taken-more ps p taken fresh = taken-append ps p taken (go (has ps p) refl)
  where
    go : (b : Bool) → has ps p ≡ b → ¬ IsNoPattern p
    go true e = taken-again ps p taken e
    go false e = fresh e

-- the first one that was not
pub first_refused : (ps : List Pattern) (i : ℕ) (p : Pattern) (fault : PatternFault) → i < length ps → p ≡ get_or ps i p → AreTaken (take i ps)
    → IfRefused fault (λ text. (text ≡ p.0) × IsNoPattern p) → IfRefused fault (IsFirstRefused ps)
first_refused ps i p (Refused text) lt is taken h = record {
  before = take i ps;
  pattern = p;
  behind = drop (i + 1) ps;
  stands = sym (take-append-drop i ps) ∙ ap (λ (t : List Pattern). take i ps ++ t) (at_drop_more (λ (t : List Pattern). t) ps i p lt ∙ ap (λ (q : Pattern). q ∷ drop (i + 1) ps) (sym is));
  taken = taken;
  refused = h.1;
  its_text = sym h.0;
}
first_refused ps i p Memory lt is taken h = tt
