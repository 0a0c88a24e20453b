-- Lists of patterns: all of them are patterns, or one is none.
use Rattle.std.proofs.Common.{◌≡◌, ℕ, ◌+◌, ◌<◌, true, false, List, [], ◌∷◌, ◌++◌, length, take, drop, get_or, Some, Result, Ok, Err, IfErr, refl, sym, ap, ◌∙◌, subst, append_assoc, append-nil}
use Rattle.std.specs.List.{flat_map}
use Rattle.std.specs.Prelude.{IsErrAnd}
use Rattle.std.proofs.lemmas.List.{at_drop_more, take_more, take-append-drop}
use Rattle.std.proofs.lemmas.List.Concat.{flat_map-append}
use Rattle.pj_xpatterns.specs.Meaning.{IsNoPattern, Pattern}
use Rattle.pj_xpatterns.specs.Refusing.{AreTaken, IfRefused, IsFirstRefused}
use Rattle.pj_xpatterns.specs.declared.compiled.PatternFault.{PatternFault}
use Rattle.pj_xpatterns.specs.declared.compiled.PatternFault.TheVariants.{Refused, Memory}
use Rattle.pj_rule_sets.specs.Faults.{HasNoPattern, IfNoPattern}
use Rattle.pj_rule_sets.specs.Patterns.{value_of}
use Rattle.pj_rule_texts.specs.Values.{is_same}
use Rattle.pj_rule_texts.specs.declared.properties.Property.{Property}

pub taken-append : (xs ys : List Pattern) → AreTaken xs → AreTaken ys → AreTaken (xs ++ ys)
taken-append [] ys hx hy = hy
taken-append (x ∷ xs) ys hx hy = (hx.0, taken-append xs ys hx.1 hy)

pub none-left : (xs ys : List Pattern) → HasNoPattern xs → HasNoPattern (xs ++ ys)
none-left xs ys h = record {
  before = h.before;
  refused = h.refused;
  behind = h.behind ++ ys;
  stands = ap (λ t. t ++ ys) h.stands ∙ append_assoc h.before (h.refused ∷ h.behind) ys;
  is_none = h.is_none;
}

pub none-right : (xs ys : List Pattern) → HasNoPattern ys → HasNoPattern (xs ++ ys)
none-right xs ys h = record {
  before = xs ++ h.before;
  refused = h.refused;
  behind = h.behind;
  stands = ap (λ t. xs ++ t) h.stands ∙ sym (append_assoc xs h.before (h.refused ∷ h.behind));
  is_none = h.is_none;
}

pub none-one : (p : Pattern) → IsNoPattern p → HasNoPattern (p ∷ [])
none-one p h = record { before = []; refused = p; behind = []; stands = refl; is_none = h }

pub none-first : (xs : List Pattern) (text : List ℕ) → IsFirstRefused xs text → HasNoPattern xs
none-first xs text h = record { before = h.before; refused = h.pattern; behind = h.behind; stands = h.stands; is_none = h.refused }

-- a fault that is handed on
pub handed_on : {T F : Type 0} (result : Result T F) (fault : F) (P : F → Type 0) → IsErrAnd result (λ given. given ≡ fault) → P fault → IfErr result P
handed_on (Ok value) fault P same h = absurd same
handed_on (Err given) fault P same h = subst P (sym same) h

-- a fact of a refusal that implies another
pub weaken : (P Q : Type 0) → (P → Q) → (fault : PatternFault) → IfNoPattern fault P → IfNoPattern fault Q
weaken P Q f (Refused text) h = f h
weaken P Q f Memory h = h

pub of_first : (Q : Type 0) (P : List ℕ → Type 0) → ((text : List ℕ) → P text → Q) → (fault : PatternFault) → IfRefused fault P → IfNoPattern fault Q
of_first Q P f (Refused text) h = f text h
of_first Q P f Memory h = h

module _ {A : Type 0} (f : A → List Pattern) where
  -- the patterns of the members before, of one member, and of those behind it
  pub around : (xs : List A) (i : ℕ) (x : A) → i < length xs → x ≡ get_or xs i x → flat_map f xs ≡ flat_map f (take i xs) ++ (f x ++ flat_map f (drop (i + 1) xs))
  around xs i x lt is = ap (flat_map f) (sym (take-append-drop i xs)) ∙ flat_map-append f (take i xs) (drop i xs)
      ∙ ap (λ t. flat_map f (take i xs) ++ t) (at_drop_more (flat_map f) xs i x lt ∙ ap (λ y. flat_map f (y ∷ drop (i + 1) xs)) (sym is))

  pub none-among : (xs : List A) (i : ℕ) (x : A) → i < length xs → x ≡ get_or xs i x → HasNoPattern (f x) → HasNoPattern (flat_map f xs)
  none-among xs i x lt is h = subst HasNoPattern (sym (around xs i x lt is))
      (none-right (flat_map f (take i xs)) (f x ++ flat_map f (drop (i + 1) xs)) (none-left (f x) (flat_map f (drop (i + 1) xs)) h))

  pub taken-more : (xs : List A) (i : ℕ) (x : A) → i < length xs → x ≡ get_or xs i x → AreTaken (flat_map f (take i xs)) → AreTaken (f x) → AreTaken (flat_map f (take (i + 1) xs))
  taken-more xs i x lt is before here = subst AreTaken
      (sym (ap (flat_map f) (take_more xs i x lt ∙ ap (λ y. take i xs ++ y ∷ []) (sym is)) ∙ flat_map-append f (take i xs) (x ∷ [])))
      (taken-append (flat_map f (take i xs)) (f x ++ []) before (subst AreTaken (sym (append-nil (f x))) here))

-- the first value of a name
value_here : (name : List ℕ) (p : Property) (rest : List Property) → is_same p.name name ≡ true → value_of name (p ∷ rest) ≡ Some p.value
value_here name p rest h = rw h refl

value_later : (name : List ℕ) (p : Property) (rest : List Property) → is_same p.name name ≡ false → value_of name (p ∷ rest) ≡ value_of name rest
value_later name p rest h = rw h refl

pub first_value : (name : List ℕ) (ps : List Property) (i : ℕ) (p : Property) → i < length ps → p ≡ get_or ps i p → is_same p.name name ≡ true →
    value_of name (drop i ps) ≡ Some p.value
first_value name ps i p lt is h = at_drop_more (value_of name) ps i p lt ∙ ap (λ x. value_of name (x ∷ drop (i + 1) ps)) (sym is) ∙ value_here name p _ h

pub later_value : (name : List ℕ) (ps : List Property) (i : ℕ) (p : Property) → i < length ps → p ≡ get_or ps i p → is_same p.name name ≡ false →
    value_of name (drop i ps) ≡ value_of name (drop (i + 1) ps)
later_value name ps i p lt is h = at_drop_more (value_of name) ps i p lt ∙ ap (λ x. value_of name (x ∷ drop (i + 1) ps)) (sym is) ∙ value_later name p _ h

-- ---- four lists, one behind the other

module _ (a b c d : List Pattern) where
  pub none-1 : (fault : PatternFault) → IfNoPattern fault (HasNoPattern a) → IfNoPattern fault (HasNoPattern (a ++ (b ++ (c ++ d))))
  none-1 = weaken _ _ (none-left a (b ++ (c ++ d)))

  pub none-2 : (fault : PatternFault) → IfNoPattern fault (HasNoPattern b) → IfNoPattern fault (HasNoPattern (a ++ (b ++ (c ++ d))))
  none-2 = weaken _ _ (λ h. none-right a (b ++ (c ++ d)) (none-left b (c ++ d) h))

  pub none-3 : (fault : PatternFault) → IfNoPattern fault (HasNoPattern c) → IfNoPattern fault (HasNoPattern (a ++ (b ++ (c ++ d))))
  none-3 = weaken _ _ (λ h. none-right a (b ++ (c ++ d)) (none-right b (c ++ d) (none-left c d h)))

  pub none-4 : (fault : PatternFault) → IfNoPattern fault (HasNoPattern d) → IfNoPattern fault (HasNoPattern (a ++ (b ++ (c ++ d))))
  none-4 = weaken _ _ (λ h. none-right a (b ++ (c ++ d)) (none-right b (c ++ d) (none-right c d h)))

  pub taken-all : AreTaken a → AreTaken b → AreTaken c → AreTaken d → AreTaken (a ++ (b ++ (c ++ d)))
  taken-all ha hb hc hd = taken-append a (b ++ (c ++ d)) ha (taken-append b (c ++ d) hb (taken-append c d hc hd))
