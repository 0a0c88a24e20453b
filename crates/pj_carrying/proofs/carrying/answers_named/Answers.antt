use Rattle.std.proofs.Common.{◌≡◌, List, ℕ, subst, sym}
use Rattle.std.specs.Prelude.{IfOk}
use Rattle.std.specs.List.Sorted.{IsStrictlySortedBy}
use Rattle.pj_cache.specs.Places.{byte_order}
use Rattle.pj_carry.specs.Carried.{answers_for}
use Rattle.pj_carrying.proofs.Answering.{names_seen}
use Rattle.pj_carrying.proofs.carrying.answers_named.Goals as goal

pub answers_for-requires : goal.answers_for-requires
answers_for-requires c =
    subst (λ (names : List (List ℕ)). IsStrictlySortedBy byte_order names) (sym (names_seen (λ a. a.0) (λ a. a.1.value) c.as_slice.result.now c.args.answers.now c.as_slice.ensures)) c.requires

pub returns : goal.returns
returns c =
    subst (λ answers. IfOk c.answers_for.result (λ list. list ≡ answers_for answers c.args.names.now)) c.as_slice.ensures c.answers_for.ensures
