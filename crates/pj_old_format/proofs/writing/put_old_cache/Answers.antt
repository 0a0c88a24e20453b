use Rattle.std.proofs.Common.{◌≡◌, ℕ, List, ◌++◌, map, sym, subst, ap, ◌∙◌}
use Rattle.std.specs.List.Sorted.{IsStrictlySortedBy}
use Rattle.pj_names.specs.declared.answer.Answer.{Answer}
use Rattle.pj_cache.specs.Places.{byte_order}
use Rattle.pj_cache.specs.declared.old.OldEntry.{OldEntry}
use Rattle.pj_cache_format.specs.Fitting.{AllFit}
use Rattle.pj_cache_format.proofs.Written.{firsts, named_fit}
use Rattle.pj_old_format.specs.FittingOne.{FitsOldEntry}
use Rattle.pj_old_format.proofs.Written.{old_cache_written}
use Rattle.pj_old_format.proofs.writing.put_old_cache.Goals as goal

pub put_content-requires : goal.put_content-requires
put_content-requires c =
    let pairs = c.as_slice-answers.result.now in
    let names : map (λ a. a.0) c.args.old.now.answers ≡ map (λ a. a.0) pairs = ap (λ (l : List (List ℕ × Answer)). map (λ a. a.0) l) (sym c.as_slice-answers.ensures) ∙ firsts (λ a. a.0) (λ a. a.1.value) pairs in
    subst (λ (l : List (List ℕ)). IsStrictlySortedBy byte_order l) names c.requires

pub returns-clause-put : goal.returns-clause-put
returns-clause-put c =
    let pairs = c.as_slice-answers.result.now in
    let entries = c.as_slice-entries.result.now in
    c.in_ok-put_content.ensures.put ∙ ap (λ (l : List ℕ). c.args.out.now.items ++ l) (old_cache_written (λ a. a.0) (λ a. a.1.value) c.args.old.now c.as_slice.result.now pairs entries c.as_slice.ensures c.as_slice-answers.ensures c.as_slice-entries.ensures)

pub returns-clause-room : goal.returns-clause-room
returns-clause-room c =
    let pairs = c.as_slice-answers.result.now in
    record {
      answers = named_fit (λ a. a.0) (λ a. a.1.value) pairs c.args.old.now.answers c.as_slice-answers.ensures c.in_ok-put_content.ensures.answers_fit;
      entries = subst (λ (l : List OldEntry). AllFit FitsOldEntry l) c.as_slice-entries.ensures c.in_ok-put_content.ensures.entries_fit;
    }
