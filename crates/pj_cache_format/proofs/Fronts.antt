-- Laws of sealed texts, whatever their content is: a value has one, and it is read from no other.
use Rattle.std.proofs.Common.{◌≡◌, ℕ, zero, suc, ◌-◌, ◌+◌, ◌*◌, ◌≤◌, List, [], ◌++◌, length, take, get_or, refl, sym, ap, subst, ◌∙◌, append_assoc, arith}
use Rattle.std.specs.Int.{w32, to_be_bytes}
use Rattle.std.proofs.lemmas.List.{append-nil, length-append, take_at, drop_at, take-append-drop, take-take}
use Rattle.sha2.specs.Sha256.{sha256, digest_bytes, final_hash, initial_hash_256}
use Rattle.pj_format.specs.Format.{Format, Done, End, ◌>>=◌, Spells, whole}
use Rattle.pj_format.specs.Fields.{run}
use Rattle.pj_format.proofs.Parts.{IsBytes, bytes_left, bytes_right, bytes_take, IsText, IsOpen, spells_then, then_spells, open_then}
use Rattle.pj_cache_format.specs.Decoded.{magic, sealed, content_of, seal_of, IsSealed}

-- ---- seals

digest_long : (h : List ℕ) (n : ℕ) → length (digest_bytes h n) ≡ n * 4
unfolding digest_bytes
digest_long h zero = refl
digest_long h (suc n) = omega (arith, length-append (digest_bytes h n) (to_be_bytes w32 (get_or h n 0)), digest_long h n)

pub seal_long : (m : List ℕ) → length (sha256 m) ≡ 32
unfolding sha256
seal_long m = digest_long (final_hash initial_hash_256 m) 8

sealed_long : (m : List ℕ) → length (sealed m) ≡ length m + 32
sealed_long m = length-append m (sha256 m) ∙ ap (λ (n : ℕ). length m + n) (seal_long m)

content_long : (m : List ℕ) → length m ≡ length (sealed m) - 32
content_long m = omega (arith, sealed_long m)

pub content_of_sealed : (m : List ℕ) → content_of (sealed m) ≡ m
content_of_sealed m = take_at m (sha256 m) (length (sealed m) - 32) (content_long m)

pub seal_of_sealed : (m : List ℕ) → seal_of (sealed m) ≡ sha256 m
seal_of_sealed m = drop_at m (sha256 m) (length (sealed m) - 32) (content_long m)

pub sealed_again : (bytes : List ℕ) → seal_of bytes ≡ sha256 (content_of bytes) → bytes ≡ sealed (content_of bytes)
sealed_again bytes e = sym (take-append-drop (length bytes - 32) bytes) ∙ ap (λ (l : List ℕ). content_of bytes ++ l) e

-- what is behind the magic is sealed with it
pub sealed_front : (body : List ℕ) → 4 ≤ length body → IsSealed (sealed (magic ++ body))
sealed_front body long =
    let m : List ℕ = magic ++ body in
    let all : length m ≡ 8 + length body = length-append magic body in
    record {
      long = omega (arith, sealed_long m, all, long);
      magic_is = ap (take 8) (append_assoc magic body (sha256 m)) ∙ take_at magic (body ++ sha256 m) 8 refl;
      seal_is = seal_of_sealed m ∙ ap sha256 (sym (content_of_sealed m));
    }

-- ---- what is sealed: eight bytes, and a format behind them, up to the end

run_open : IsOpen (run 8)
unfolding run IsOpen
run_open = λ part. tt

run_long : (part v : List ℕ) → Spells (run 8) part v → length part ≡ 8
unfolding run Spells
run_long part v h = ap length (h.joined ∙ ap (λ (l : List ℕ). h.part ++ l) h.holds.0 ∙ append-nil h.part) ∙ h.count_is

run_again : (part : List ℕ) → length part ≡ 8 → Spells (run 8) part part
unfolding run Spells
run_again part e = record { part = part; rest = []; joined = sym (append-nil part); count_is = e; holds = (refl, refl) }

module _ {A : Type 0} (m : Format A) (text : A → List ℕ) (Fits : A → Type 0) (law : IsText m text Fits) where
  abbrev behind : List ℕ → Format A
  behind begun = m

  abbrev ended : A → Format A
  ended x = End 1 (Done x)

  front_open : IsOpen (run 8 >>= behind)
  front_open = open_then (run 8) behind run_open (λ begun. law.is_open)

  end_is : (rest : List ℕ) (v c : A) → Spells (ended v) rest c → (rest ≡ []) × (c ≡ v)
  unfolding Spells
  end_is rest v c h = (h.0, h.1.1)

  end_again : (c : A) → Spells (ended c) [] c
  unfolding Spells
  end_again c = (refl, (refl, refl))

  content_takes : (content : List ℕ) (c : A) → IsBytes content → take 8 content ≡ magic → Spells (whole 1 (run 8 >>= behind)) content c → Fits c × (content ≡ magic ++ text c)
  unfolding whole
  content_takes content c fits begins h =
      let a = spells_then (run 8 >>= behind) ended content c h in
      let end = end_is a.rest a.value c a.second_is in
      let b = spells_then (run 8) behind a.part a.value a.first_is in
      let whole_bytes : IsBytes (a.part ++ a.rest) = subst IsBytes a.joined fits in
      let left : IsBytes a.part = bytes_left a.part a.rest whole_bytes in
      let part_bytes : IsBytes (b.part ++ b.rest) = subst IsBytes b.joined left in
      let taken = law.takes b.rest a.value (bytes_right b.part b.rest part_bytes) b.second_is in
      let long = run_long b.part b.value b.first_is in
      let all : content ≡ b.part ++ b.rest = a.joined ∙ ap (λ (l : List ℕ). a.part ++ l) end.0 ∙ append-nil a.part ∙ b.joined in
      let front : b.part ≡ magic = sym (ap (take 8) all ∙ take_at b.part b.rest 8 long) ∙ begins in
      let is : content ≡ magic ++ text a.value = all ∙ (λ i. front i ++ taken.1 i) in
      subst (λ (y : A). Fits y × (content ≡ magic ++ text y)) (sym end.1) (taken.0, is)

  content_again : (c : A) → Fits c → Spells (whole 1 (run 8 >>= behind)) (magic ++ text c) c
  unfolding whole
  content_again c w =
      let inner : Spells (run 8 >>= behind) (magic ++ text c) c = then_spells (run 8) behind magic (text c) magic c run_open (run_again magic refl) (law.again c w) in
      subst (λ (l : List ℕ). Spells ((run 8 >>= behind) >>= ended) l c) (append-nil (magic ++ text c))
      (then_spells (run 8 >>= behind) ended (magic ++ text c) [] c c front_open inner (end_again c))

  -- sealed bytes that spell a value are its sealed text
  pub sealed_takes : (bytes : List ℕ) (c : A) → IsBytes bytes → IsSealed bytes → Spells (whole 1 (run 8 >>= λ begun. m)) (content_of bytes) c → Fits c × (bytes ≡ sealed (magic ++ text c))
  sealed_takes bytes c fits s h =
      let begins : take 8 (content_of bytes) ≡ magic = let inner : 8 ≤ length bytes - 32 = omega (arith, s.long) in take-take 8 (length bytes - 32) bytes inner ∙ s.magic_is in
      let taken = content_takes (content_of bytes) c (bytes_take (length bytes - 32) bytes fits) begins h in
      (taken.0, sealed_again bytes s.seal_is ∙ ap sealed taken.1)

  -- the sealed text of a value spells it
  pub spelled_again : (c : A) → Fits c → Spells (whole 1 (run 8 >>= λ begun. m)) (content_of (sealed (magic ++ text c))) c
  spelled_again c w = subst (λ (l : List ℕ). Spells (whole 1 (run 8 >>= behind)) l c) (sym (content_of_sealed (magic ++ text c))) (content_again c w)
