-- What replacing the bytes of one name does.
use Rattle.std.proofs.Common.{◌≡◌, ◌≢◌, ◌∙◌, ◌+◌, ◌++◌, ◌<◌, ◌≤◌, ◌∷◌, [], ℕ, suc, Bool, true, false, cond, Some, Option, ap, arith, length, refl, sym, inl, inr}
use Rattle.std.specs.Prelude.{slice_set, if◌then◌else◌}
use Rattle.std.proofs.lemmas.Bool.{cases_Bool}
use Rattle.std.proofs.lemmas.Slice.Eq.{bytes_eq-Decides}
use Rattle.pj_outside.specs.Files.{Bytes, Files, bytes_at, is_same}
use Rattle.pj_outside.specs.Keeping.{place_of, replaced}

same_itself : (name : Bytes) → is_same name name ≡ true
same_itself name = (bytes_eq-Decides name name).1 refl

not_same : (name other : Bytes) → name ≢ other → is_same name other ≡ false
not_same name other differ = elim (cases_Bool (is_same name other)) [
  | inl same ↦ absurd (differ ((bytes_eq-Decides name other).0 same))
  | inr apart ↦ apart
]

pub bytes_at-replaced : (name bytes : Bytes) (held : Files) → bytes_at (replaced name bytes held) name ≡ Some bytes
bytes_at-replaced name bytes [] = rw (same_itself name) refl
bytes_at-replaced name bytes (pair ∷ pairs) = elim (cases_Bool (is_same pair.0 name)) [
  | inl same ↦ rw (same, same_itself name) refl
  | inr apart ↦ rw (apart, apart) (bytes_at-replaced name bytes pairs)
]

pub bytes_at-others : (name bytes other : Bytes) (held : Files) → name ≢ other → bytes_at (replaced name bytes held) other ≡ bytes_at held other
bytes_at-others name bytes other [] differ = rw (not_same name other differ) refl
bytes_at-others name bytes other (pair ∷ pairs) differ = elim (cases_Bool (is_same pair.0 name)) [
  | inl same ↦
      let named : pair.0 ≡ name = (bytes_eq-Decides pair.0 name).0 same in
      let apart : is_same pair.0 other ≡ false = not_same pair.0 other (λ e. differ (sym named ∙ e)) in
      rw (same, not_same name other differ, apart) refl
  | inr apart ↦ rw apart (ap (λ (t : Option Bytes). cond (is_same pair.0 other) (Some pair.1) t) (bytes_at-others name bytes other pairs differ))
]

-- the places behind the first pair
place_of-behind : (pair : Bytes × Bytes) (pairs : Files) (name : Bytes) → is_same pair.0 name ≡ false → place_of (pair ∷ pairs) name ≡ suc (place_of pairs name)
place_of-behind pair pairs name apart = rw apart (omega arith)

-- writing at the place of a name that is there replaces it
pub replaced-there : (name bytes : Bytes) (held : Files) → place_of held name < length held → slice_set held (place_of held name) (name, bytes) ≡ replaced name bytes held
replaced-there name bytes [] there = absurd (omega arith)
replaced-there name bytes (pair ∷ pairs) there = go (λ within. replaced-there name bytes pairs within) (is_same pair.0 name) refl
  where
    go : (place_of pairs name < length pairs → slice_set pairs (place_of pairs name) (name, bytes) ≡ replaced name bytes pairs) → (b : Bool) → b ≡ is_same pair.0 name → slice_set (pair ∷ pairs) (place_of (pair ∷ pairs) name) (name, bytes) ≡ replaced name bytes (pair ∷ pairs)
    go further_on true same =
        let first : place_of (pair ∷ pairs) name ≡ 0 = ap (λ (b : Bool). if b then 0 else place_of pairs name + 1) (sym same) in
        let here : replaced name bytes (pair ∷ pairs) ≡ (name, bytes) ∷ pairs = ap (λ (b : Bool). if b then (name, bytes) ∷ pairs else pair ∷ replaced name bytes pairs) (sym same) in
        ap (λ (k : ℕ). slice_set (pair ∷ pairs) k (name, bytes)) first ∙ sym here
    go further_on false apart =
        let further : place_of (pair ∷ pairs) name ≡ place_of pairs name + 1 = ap (λ (b : Bool). if b then 0 else place_of pairs name + 1) (sym apart) in
        let behind : place_of (pair ∷ pairs) name ≡ suc (place_of pairs name) = omega (arith, further) in
        let there_too : replaced name bytes (pair ∷ pairs) ≡ pair ∷ replaced name bytes pairs = ap (λ (b : Bool). if b then (name, bytes) ∷ pairs else pair ∷ replaced name bytes pairs) (sym apart) in
        let within : place_of pairs name < length pairs = omega (arith, behind) in
        ap (λ (k : ℕ). slice_set (pair ∷ pairs) k (name, bytes)) behind ∙ ap (λ (t : Files). pair ∷ t) (further_on within) ∙ sym there_too

-- a name that is not there comes behind all others
pub replaced-behind : (name bytes : Bytes) (held : Files) → length held ≤ place_of held name → held ++ (name, bytes) ∷ [] ≡ replaced name bytes held
replaced-behind name bytes [] missing = refl
replaced-behind name bytes (pair ∷ pairs) missing = elim (cases_Bool (is_same pair.0 name)) [
  | inl same ↦ let first : place_of (pair ∷ pairs) name ≡ 0 = rw same refl in absurd (omega (arith, first))
  | inr apart ↦
      let behind = place_of-behind pair pairs name apart in
      let past : length pairs ≤ place_of pairs name = omega (arith, behind) in
      rw apart (ap (λ (t : Files). pair ∷ t) (replaced-behind name bytes pairs past))
]
