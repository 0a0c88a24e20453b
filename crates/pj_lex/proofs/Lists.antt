-- Lists, runs and prefixes.
use Rattle.std.proofs.Common.{◌≡◌, ℕ, ◌≤◌, List, [], ◌∷◌, ◌++◌, length, Bool, true, false, cond, sym, refl, ap, ◌∙◌, subst, arith}
use Rattle.std.specs.List.{list_all}
use Rattle.std.proofs.lemmas.Bool.{and_parts, and_from}
use Rattle.pj_lex.specs.Scanning.{run, past_run, IsBehind}

pub nil_from_length : (xs : List ℕ) → length xs ≡ 0 → xs ≡ []
nil_from_length [] e = refl
nil_from_length (x ∷ xs) e = absurd (omega arith)

head_same : (x c : ℕ) (xs cs : List ℕ) → c ∷ cs ≡ x ∷ xs → c ≡ x
head_same x c xs cs e = cc

module _ (p : ℕ → Bool) where
  pub past_run_step : (cs ds : List ℕ) (c : ℕ) → cs ≡ c ∷ ds → p c ≡ true → past_run p cs ≡ past_run p ds
  past_run_step cs ds c e h = ap (past_run p) e ∙ ap (λ b. cond b (past_run p ds) (c ∷ ds)) h

  pub past_run_stop : (cs ds : List ℕ) (c : ℕ) → cs ≡ c ∷ ds → p c ≡ false → past_run p cs ≡ cs
  past_run_stop cs ds c e h = ap (past_run p) e ∙ ap (λ b. cond b (past_run p ds) (c ∷ ds)) h ∙ sym e

  pub past_run_end : (cs : List ℕ) → cs ≡ [] → past_run p cs ≡ cs
  past_run_end cs e = ap (past_run p) e ∙ sym e

  -- the run and what stands behind it are the text
  pub run-past_run : (cs : List ℕ) → cs ≡ run p cs ++ past_run p cs
  run-past_run [] = refl
  run-past_run (c ∷ cs) =
      let P : Bool → Type 0 = λ b. c ∷ cs ≡ cond b (c ∷ run p cs) [] ++ cond b (past_run p cs) (c ∷ cs) in
      elim (p c) as P [ true ↦ ap (λ r. c ∷ r) (run-past_run cs) | false ↦ refl ]

  pub run_passes : (cs : List ℕ) → list_all p (run p cs) ≡ true
  run_passes [] = refl
  run_passes (c ∷ cs) =
      let P : Bool → Type 0 = λ b. p c ≡ b → list_all p (cond b (c ∷ run p cs) []) ≡ true in
      (elim (p c) as P [ true ↦ λ h. and_from _ _ h (run_passes cs) | false ↦ λ h. refl ]) refl

  -- a prefix that passes is within the run
  pub run_longest : (cs v t : List ℕ) → cs ≡ v ++ t → list_all p v ≡ true → length v ≤ length (run p cs)
  run_longest cs [] t e h = omega arith
  run_longest [] (d ∷ v) t e h = absurd (cc)
  run_longest (c ∷ cs) (d ∷ v) t e h =
      let parts = and_parts _ _ h in
      let heads : c ≡ d = cc in
      let tails : cs ≡ v ++ t = cc in
      let within = run_longest cs v t tails parts.1 in
      let passes : p c ≡ true = ap p heads ∙ parts.0 in
      subst (λ b. length (d ∷ v) ≤ length (cond b (c ∷ run p cs) [])) (sym passes) (omega (arith, within))

pub behind_run : (p : ℕ → Bool) (cs b : List ℕ) → b ≡ past_run p cs → IsBehind b cs
behind_run p cs b e = (run p cs, run-past_run p cs ∙ ap (λ (x : List ℕ). run p cs ++ x) (sym e))

-- what stands behind a run does not pass
pub past_run_head : (p : ℕ → Bool) (cs ds : List ℕ) (c : ℕ) → past_run p cs ≡ c ∷ ds → p c ≡ false
past_run_head p [] ds c e = absurd (cc)
past_run_head p (x ∷ cs) ds c e =
    let P : Bool → Type 0 = λ b. p x ≡ b → cond b (past_run p cs) (x ∷ cs) ≡ c ∷ ds → p c ≡ false in
    (elim (p x) as P [
      | true ↦ λ _ h. past_run_head p cs ds c h
      | false ↦ λ (h : p x ≡ false) g. ap p (head_same x c cs ds (sym g)) ∙ h
    ]) refl e
