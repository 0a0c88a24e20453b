use Rattle.std.proofs.Common.{◌≡◌, Bool, true, ◌&&◌, List, ℕ, sym, ap, ◌∙◌}
use Rattle.pj_cache_format.specs.FormatTwo.{keys_of, names_of, is_same_list}
use Rattle.pj_cache_reading.proofs.Same.{not_false}
use Rattle.pj_cache_reading.proofs.decoding.are_named.Goals as goal

pub returns : goal.returns
returns c =
    let keys = c.args.keys.now in
    let names = c.args.names.now in
    let entries = c.args.entries.now in
    let is : c.as_slice.result.now ≡ keys_of entries = c.as_slice.ensures.value ∙ c.in_ok-named.ensures.keys in
    let test = not_false (is_same_list keys c.as_slice.result.now) (sym c.ne.ensures ∙ c.if-ne.false) in
    let same : is_same_list keys (keys_of entries) ≡ true = sym (ap (is_same_list keys) is) ∙ test in
    c.eq.ensures
    ∙ ap (λ (l : List (List ℕ)). is_same_list names l) (c.as_slice-2.ensures.value ∙ c.in_ok-named-2.ensures)
    ∙ ap (λ (b : Bool). b && is_same_list names (names_of entries)) (sym same)
