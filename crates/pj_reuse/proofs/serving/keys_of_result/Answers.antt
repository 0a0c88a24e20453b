use Rattle.std.proofs.Common.{rules, Result, Ok, ◌≡◌, true, cond, List, ℕ, map, sym, ap, ◌∙◌}
use Rattle.std.specs.List.{list_any}
use Rattle.pj_cache.specs.declared.cache.KeyRows.{KeyRows}
use Rattle.pj_names.specs.Asking.{Return}
use Rattle.pj_names.specs.declared.oracle.AskFault.{AskFault}
use Rattle.pj_names.proofs.AskingLaws.{asks-refused, asks-return, asks-then}
use Rattle.pj_reuse.specs.Serving.{has_key, has_one, keys_of, with_keys}
use Rattle.pj_reuse.proofs.serving.keys_of_result.Goals as goal

abbrev given : List (List ℕ) → Result (List (List ℕ)) AskFault
given keys = Ok keys

pub returns-in_err-stand : goal.returns-in_err-stand
returns-in_err-stand g c =
    let wanted = c.args.wanted.now.keys in
    let item = c.args.item.now in
    let held = c.args.held.keys in
    let is : has_one wanted item ≡ true = ap (λ (l : List KeyRows). list_any (has_key wanted) (map (λ k. k.key) l)) (sym c.as_slice.ensures) ∙ sym c.has_one-is_wanted.ensures ∙ c.if-not-is_wanted.false in
    let asked = rw c.as_slice-2.ensures at c.in_err-stand.ensures in
    rw is (asks-refused (λ stand. Return (cond stand (with_keys held (keys_of item)) held)) asked (search rules))

pub returns : goal.returns
returns g c =
    let wanted = c.args.wanted.now.keys in
    let item = c.args.item.now in
    let held = c.args.held.keys in
    let is : has_one wanted item ≡ true = ap (λ (l : List KeyRows). list_any (has_key wanted) (map (λ k. k.key) l)) (sym c.as_slice.ensures) ∙ sym c.has_one-is_wanted.ensures ∙ c.if-not-is_wanted.false in
    let asked = rw c.as_slice-2.ensures at c.in_ok-stand.ensures in
    let noted : c.in_ok-noted.field-0.keys ≡ cond c.in_ok-stand.stand (with_keys held (keys_of item)) held = c.in_ok-noted.ensures ∙ ap (λ (l : List KeyRows). cond c.in_ok-stand.stand (with_keys held (map (λ k. k.key) l)) held) c.as_slice-3.ensures in
    rw is (asks-then (λ stand. Return (cond stand (with_keys held (keys_of item)) held)) asked (asks-return (ap given noted)))
