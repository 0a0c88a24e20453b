use Rattle.std.proofs.Common.{◌≡◌, ◌∙◌, ap, ap₂, map, List, ℕ, refl, sym, inr}
use Rattle.std.proofs.lemmas.List.{map-id}
use Rattle.clap.specs.Words.{fault_of, is_simple, is_simple_and_free, matches_of}
use Rattle.pj_settings.proofs.AppFacts.{check_app-free, check_app-simple, only_memory}
use Rattle.pj_settings.proofs.command.matched.Goals as goal

pub returns-in-Ok-clause-ok : goal.returns-in-Ok-clause-ok
returns-in-Ok-clause-ok c =
    let words_are : map (λ (t : List ℕ). t) c.as_slice.result.now ≡ c.args.words.now = map-id _ ∙ c.as_slice.ensures in
    let app_is = c.in_ok-command.ensures in (
      (c.in-Ok.ensures.matches (ap is_simple app_is ∙ check_app-simple)).0 ∙ ap₂ matches_of app_is words_are,
      ap₂ fault_of (sym app_is) (sym words_are) ∙ c.in-Ok.ensures.kinds (ap is_simple_and_free app_is ∙ check_app-free),
    )

pub returns : goal.returns
returns c =
    let words_are : map (λ (t : List ℕ). t) c.as_slice.result.now ≡ c.args.words.now = map-id _ ∙ c.as_slice.ensures in
    let app_is = c.in_ok-command.ensures in
    let kinds = c.in-Err.ensures.kinds (ap is_simple_and_free app_is ∙ check_app-free) in
    record {
      ok = tt;
      line = inr (
        refl,
        λ none. c.in_default.not-OutOfMemory
            (c.kind.ensures ∙ only_memory _ c.in-Err.error kinds (ap₂ fault_of app_is words_are ∙ none)),
      );
    }
