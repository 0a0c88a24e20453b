use Rattle.std.proofs.Common.{◌≡◌, ℕ, List, [], Result, Ok, Err, ap, map, subst, sym}
use Rattle.std.specs.Prelude.{IfOk}
use Rattle.std.specs.List.Sorted.{IsStrictlySortedBy}
use Rattle.pj_names.specs.declared.answer.Answer.{Answer}
use Rattle.pj_cache.specs.declared.cache.Cache.{Cache}
use Rattle.pj_cache.specs.Places.{byte_order}
use Rattle.pj_cache_format.specs.Decoded.{text_two}
use Rattle.pj_fitting.specs.Fits.{empty}
use Rattle.pj_cache_store.proofs.leaving.empty_text.Goals as goal

none_sorted : IsStrictlySortedBy byte_order []
unfolding IsStrictlySortedBy
none_sorted = tt

pub encode-requires : goal.encode-requires
encode-requires c = subst (λ (answers : List (List ℕ × Answer)). IsStrictlySortedBy byte_order (map (λ (a : List ℕ × Answer). a.0) answers)) (sym c.empty-empty.ensures.answers) none_sorted

pub returns : goal.returns
returns c =
    let answers : c.empty-empty.result.answers ≡ empty.answers = c.empty-empty.ensures.answers in
    let entries : c.empty-empty.result.entries ≡ empty.entries = c.empty-empty.ensures.entries in
    subst (λ (cache : Cache). IfOk c.encode.result (λ text. text ≡ text_two cache)) (λ i. record { answers = answers i; entries = entries i }) c.encode.ensures.text
