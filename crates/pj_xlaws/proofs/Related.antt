-- Two meanings that are one, of which every value has a property, whatever is answered: what follows keeps that.
use Rattle.std.proofs.Common.{◌≡◌, ap, ◌∙◌, refl, cond, Bool, true, false, List, [], ◌∷◌, Result, Ok, Err, IfOk}
use Rattle.pj_names.specs.Asking.{Return, Ask, Unbounded, bind}
use Rattle.pj_xsteps.specs.Means.{Means, give, fail, judged, after, ◌>>=◌, chain, decided, decides, one_boolean}
use Rattle.pj_xvalue.specs.Boolean.{effective_boolean}
use Rattle.pj_xvalue.specs.Items.{ItemValue}
use Rattle.pj_xexpressions.specs.declared.operator.Quantifier.{Quantifier}
use Rattle.pj_xvalue.specs.declared.fault.XCode.{XCode}
use Rattle.pj_xlaws.specs.TreeLaws.{Always}

-- the values of a meaning have a property
abbrev pub Gives : {A : Type 0} → (A → Type 0) → Means A → Type 0
Gives P meaning = Always (λ result. IfOk result P) meaning

pub record Same {A : Type 0} (P : A → Type 0) (m n : Means A) : Type 0 where
  pub equal : m ≡ n
  pub gives : Gives P m

-- no property
abbrev pub Any : {A : Type 0} → A → Type 0
Any value = Unit {0}

pub any : {A : Type 0} (r : Result A XCode) → IfOk r Any
any (Ok value) = tt
any (Err code) = tt

gives_next : {A B : Type 0} (P : A → Type 0) (Q : B → Type 0) (m : Means A) (k : A → Means B) → Gives P m → ((x : A) → P x → Gives Q (k x)) → Gives Q (bind m (after k))
gives_next P Q (Return (Ok x)) k h next = next x h
gives_next P Q (Return (Err code)) k h next = tt
gives_next P Q (Ask name rest) k h next = λ answer. gives_next P Q (rest answer) k (h answer) next
gives_next P Q (Unbounded rest) k h next = λ depth. gives_next P Q (rest depth) k (h depth) next

same_next : {A B : Type 0} (P : A → Type 0) (m : Means A) (k l : A → Means B) → Gives P m → ((x : A) → P x → k x ≡ l x) → bind m (after k) ≡ bind m (after l)
same_next P (Return (Ok x)) k l h next = next x h
same_next P (Return (Err code)) k l h next = refl
same_next P (Ask name rest) k l h next = λ i. Ask name (λ answer. same_next P (rest answer) k l (h answer) next i)
same_next P (Unbounded rest) k l h next = λ i. Unbounded (λ depth. same_next P (rest depth) k l (h depth) next i)

pub follow : {A B : Type 0} (P : A → Type 0) (Q : B → Type 0) {m n : Means A} {k l : A → Means B} → Same P m n → ((x : A) → P x → Same Q (k x) (l x)) → Same Q (m >>= k) (n >>= l)
follow P Q {m = m} {n = n} {k = k} {l = l} h next = record {
  equal = same_next P m k l h.gives (λ x p. (next x p).equal) ∙ ap (λ o. bind o (after l)) h.equal;
  gives = gives_next P Q m k h.gives (λ x p. (next x p).gives);
}

pub gave : {A : Type 0} (P : A → Type 0) (x : A) → P x → Same P (give x) (give x)
gave P x p = record { equal = refl; gives = p }

pub judges : {A : Type 0} (P : A → Type 0) {r s : Result A XCode} → r ≡ s → IfOk r P → Same P (judged r) (judged s)
judges P same p = record { equal = ap (λ z. judged z) same; gives = p }

pub failed : {A : Type 0} (P : A → Type 0) (code : XCode) → Same P (fail code) (fail code)
failed P code = record { equal = refl; gives = tt }

pub stays : {A : Type 0} (P : A → Type 0) (m : Means A) → Gives P m → Same P m m
stays P m h = record { equal = refl; gives = h }

pub branch : {A : Type 0} (P : A → Type 0) (b : Bool) {m n k l : Means A} → Same P m n → Same P k l → Same P (cond b m k) (cond b n l)
branch P true h g = h
branch P false h g = g

-- the members of two lists are related, one by one
abbrev pub Paired : {X : Type 0} → (X → X → Type 0) → List X → List X → Type 0
Paired R [] [] = Unit {0}
Paired R (x ∷ xs) (y ∷ ys) = R x y × Paired R xs ys
Paired R _ _ = ⊥

pub chained : {X S : Type 0} (R : X → X → Type 0) (V : List ItemValue → Type 0) (P : S → Type 0) (m n : X → Means (List ItemValue)) (f g : X → S → List ItemValue → Result S XCode)
    → ((x y : X) → R x y → Same V (m x) (n y)) → ((x y : X) → R x y → (s : S) → P s → (value : List ItemValue) → V value → (f x s value ≡ g y s value) × IfOk (f x s value) P)
    → (xs ys : List X) → Paired R xs ys → (s : S) → P s → Same P (chain m f xs s) (chain n g ys s)
chained R V P m n f g meant taken [] [] h s p = gave P s p
chained R V P m n f g meant taken (x ∷ xs) (y ∷ ys) h s p =
    follow V P (meant x y h.0) (λ value v. follow P P (judges P (taken x y h.0 s p value v).0 (taken x y h.0 s p value v).1) (λ next q. chained R V P m n f g meant taken xs ys h.1 next q))
chained R V P m n f g meant taken [] (y ∷ ys) h s p = absurd h
chained R V P m n f g meant taken (x ∷ xs) [] h s p = absurd h

pub decided_alike : {X : Type 0} (R : X → X → Type 0) (V : List ItemValue → Type 0) (booleans : (b : Bool) → V (one_boolean b)) (q : Quantifier) (m n : X → Means (List ItemValue))
    → ((x y : X) → R x y → Same V (m x) (n y)) → (xs ys : List X) → Paired R xs ys → Same V (decided q m xs) (decided q n ys)
decided_alike R V booleans q m n meant [] [] h = gave V _ (booleans _)
decided_alike R V booleans q m n meant (x ∷ xs) (y ∷ ys) h =
    follow V V (meant x y h.0) (λ value v. follow Any V (judges Any refl (any (effective_boolean value)))
    (λ truth t. branch V (decides q truth) (gave V (one_boolean truth) (booleans truth)) (decided_alike R V booleans q m n meant xs ys h.1)))
decided_alike R V booleans q m n meant [] (y ∷ ys) h = absurd h
decided_alike R V booleans q m n meant (x ∷ xs) [] h = absurd h
