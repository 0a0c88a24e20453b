use Rattle.std.proofs.Common.{◌≡◌, ℕ, List, ◌++◌, map, sym, subst, ap, ◌∙◌}
use Rattle.std.specs.List.Sorted.{IsStrictlySortedBy}
use Rattle.pj_names.specs.declared.answer.Answer.{Answer}
use Rattle.pj_cache.specs.Places.{byte_order}
use Rattle.pj_cache_format.specs.FormatTwo.{keys_of}
use Rattle.pj_cache.specs.declared.cache.Entry.{Entry}
use Rattle.pj_cache_format.specs.Fitting.{HasRoom, AllFit, FitsEntry}
use Rattle.pj_cache_format.proofs.Written.{firsts, cache_written, named_fit}
use Rattle.pj_cache_format.proofs.writing.put_cache.Goals as goal

pub put_content-requires-clause-answers : goal.put_content-requires-clause-answers
put_content-requires-clause-answers c =
    let pairs = c.as_slice-answers.result.now in
    let names : map (λ a. a.0) c.args.cache.now.answers ≡ map (λ a. a.0) pairs = ap (λ (l : List (List ℕ × Answer)). map (λ a. a.0) l) (sym c.as_slice-answers.ensures) ∙ firsts (λ a. a.0) (λ a. a.1.value) pairs in
    subst (λ (l : List (List ℕ)). IsStrictlySortedBy byte_order l) names c.requires

pub returns-clause-put : goal.returns-clause-put
returns-clause-put c =
    let pairs = c.as_slice-answers.result.now in
    let entries = c.as_slice-entries.result.now in
    let is : entries ≡ c.args.cache.now.entries = c.as_slice-entries.ensures in
    let keys : c.deref.result.now ≡ keys_of entries = c.deref.ensures.value ∙ c.in_ok-keys.ensures.keys ∙ ap keys_of (c.as_slice.ensures ∙ sym is) in
    c.in_ok-put_content.ensures.put ∙ ap (λ (l : List ℕ). c.args.out.now.items ++ l) (cache_written (λ a. a.0) (λ a. a.1.value) c.args.cache.now c.deref.result.now pairs entries keys c.as_slice-answers.ensures is)

pub returns-clause-room : goal.returns-clause-room
returns-clause-room c =
    let pairs = c.as_slice-answers.result.now in
    let keys : c.deref.result.now ≡ keys_of c.args.cache.now.entries = c.deref.ensures.value ∙ c.in_ok-keys.ensures.keys ∙ ap keys_of c.as_slice.ensures in
    record {
      keys = subst (λ (l : List (List ℕ)). AllFit (λ (key : List ℕ). HasRoom key) l) keys c.in_ok-put_content.ensures.keys_fit;
      answers = named_fit (λ a. a.0) (λ a. a.1.value) pairs c.args.cache.now.answers c.as_slice-answers.ensures c.in_ok-put_content.ensures.answers_fit;
      entries = subst (λ (l : List Entry). AllFit FitsEntry l) c.as_slice-entries.ensures c.in_ok-put_content.ensures.entries_fit;
    }
