-- Whether some finding is one of some rules.
use Rattle.std.proofs.Common.{◌≡◌, ℕ, ◌+◌, ◌<◌, Bool, true, false, ◌||◌, List, length, drop, get_or, sym, ap, ◌∙◌}
use Rattle.std.specs.List.{list_any}
use Rattle.std.proofs.lemmas.List.{drop_more}
use Rattle.pj_reports.specs.declared.rows.Finding.{Finding}
use Rattle.pj_cache_format.specs.FormatTwo.{has}

module _ (held : List ℕ) (fs : List Finding) where
  abbrev test : Finding → Bool
  test f = has held f.rule

  left : (i : ℕ) (d : Finding) → i < length fs → list_any test (drop i fs) ≡ (test (get_or fs i d) || list_any test (drop (i + 1) fs))
  left i d lt = ap (list_any test) (drop_more fs i d lt)

  step : (i : ℕ) (d : Finding) (b : Bool) → i < length fs → test (get_or fs i d) ≡ b → list_any test (drop i fs) ≡ list_any test fs → (b || list_any test (drop (i + 1) fs)) ≡ list_any test fs
  step i d b lt is so_far = sym (left i d lt ∙ ap (λ (c : Bool). c || list_any test (drop (i + 1) fs)) is) ∙ so_far

  pub found : (i : ℕ) (d : Finding) (b : Bool) → i < length fs → b ≡ has held (get_or fs i d).rule → b ≡ true → list_any test (drop i fs) ≡ list_any test fs → true ≡ list_any test fs
  found i d b lt is e so_far = step i d true lt (sym is ∙ e) so_far

  pub passed : (i : ℕ) (d : Finding) (b : Bool) → i < length fs → b ≡ has held (get_or fs i d).rule → b ≡ false → list_any test (drop i fs) ≡ list_any test fs → list_any test (drop (i + 1) fs) ≡ list_any test fs
  passed i d b lt is e so_far = step i d false lt (sym is ∙ e) so_far
