use Rattle.std.proofs.Common.{rules, ◌≡◌, List, [], flat_map, refl, ap, subst, sym, ◌∙◌}
use Rattle.std.specs.List.Sorted.{IsStrictlySortedBy}
use Rattle.pj_names.specs.declared.answer.Answer.{Answer}
use Rattle.pj_names.specs.ClassName.{Name}
use Rattle.pj_names.specs.Asking.{Return}
use Rattle.pj_names.proofs.AskingLaws.{asks-refused, asks-return, asks-then}
use Rattle.pj_cache.specs.declared.cache.Entry.{Entry}
use Rattle.pj_cache.specs.declared.cache.CachedResult.{CachedResult}
use Rattle.pj_cache.specs.Places.{byte_order}
use Rattle.pj_cache_format.specs.FormatTwo.{names_of, results_of}
use Rattle.pj_fitting.proofs.Sorted.{all_sorted, none_sorted}
use Rattle.pj_left_cache.proofs.LeavingLaws.{answers_are, cache_of}
use Rattle.pj_left_cache.proofs.leaving.left_cache.Goals as goal

-- the names of entries ascend
names_ascend : (entries : List Entry) → IsStrictlySortedBy byte_order (names_of entries)
names_ascend entries = all_sorted [] (flat_map (λ (r : CachedResult). r.names) (results_of entries)) none_sorted

pub returns-in_err-answers-clause-asks : goal.returns-in_err-answers-clause-asks
returns-in_err-answers-clause-asks g c =
    let entries = c.args.entries in
    let names : c.as_slice-2.result.now ≡ names_of entries = c.as_slice-2.ensures.value ∙ c.in_ok-names.ensures ∙ ap (λ (es : List Entry). names_of es) c.as_slice.ensures in
    let listed = rw names at c.in_err-answers.ensures.asks in
    let asked = rw (answers_are (names_of entries)) at listed in
    asks-refused (λ (answers : List (Name × Answer)). Return (cache_of entries answers)) asked (search rules)

pub returns-clause-asks : goal.returns-clause-asks
returns-clause-asks g c =
    let entries = c.args.entries in
    let names : c.as_slice-2.result.now ≡ names_of entries = c.as_slice-2.ensures.value ∙ c.in_ok-names.ensures ∙ ap (λ (es : List Entry). names_of es) c.as_slice.ensures in
    let listed = rw names at c.in_ok-answers.ensures.asks in
    let asked = rw (answers_are (names_of entries)) at listed in
    asks-then (λ (answers : List (Name × Answer)). Return (cache_of entries answers)) asked (asks-return refl)

pub returns-clause-names : goal.returns-clause-names
returns-clause-names g c =
    let entries = c.args.entries in
    let names : c.as_slice-2.result.now ≡ names_of entries = c.as_slice-2.ensures.value ∙ c.in_ok-names.ensures ∙ ap (λ (es : List Entry). names_of es) c.as_slice.ensures in
    c.in_ok-answers.ensures.names ∙ names

pub returns-clause-ascending : goal.returns-clause-ascending
returns-clause-ascending g c =
    let entries = c.args.entries in
    let names : c.as_slice-2.result.now ≡ names_of entries = c.as_slice-2.ensures.value ∙ c.in_ok-names.ensures ∙ ap (λ (es : List Entry). names_of es) c.as_slice.ensures in
    subst (λ (l : List Name). IsStrictlySortedBy byte_order l) (sym (c.in_ok-answers.ensures.names ∙ names)) (names_ascend entries)
