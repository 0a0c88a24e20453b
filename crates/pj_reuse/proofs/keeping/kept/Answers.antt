use Rattle.std.proofs.Common.{List, ℕ, sym, subst}
use Rattle.std.specs.List.Sorted.{IsStrictlySortedBy}
use Rattle.pj_cache.specs.Places.{byte_order}
use Rattle.pj_reuse.proofs.Answered.{names_seen}
use Rattle.pj_reuse.proofs.keeping.kept.Goals as goal

pub kept_among-requires : goal.kept_among-requires
kept_among-requires g c =
    subst (λ (names : List (List ℕ)). IsStrictlySortedBy byte_order names) (sym (names_seen (λ a. a.0) (λ a. a.1.value) c.as_slice-answers.result.now c.args.cache.now.answers c.as_slice-answers.ensures)) c.requires
