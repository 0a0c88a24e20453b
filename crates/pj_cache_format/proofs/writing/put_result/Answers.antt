use Rattle.std.proofs.Common.{◌≡◌, ℕ, List, ◌++◌, map, ap, subst, ◌∙◌}
use Rattle.std.specs.List.{flat_map, All}
use Rattle.pj_cache.specs.Places.{place_in}
use Rattle.pj_cache.specs.declared.cache.KeyRows.{KeyRows}
use Rattle.pj_cache_format.specs.Texts.{number, counted}
use Rattle.pj_cache_format.specs.TextTwo.{rows_text}
use Rattle.pj_cache_format.specs.Fitting.{HasRoom, FitsKeyRows}
use Rattle.pj_cache_format.proofs.Written.{three_put}
use Rattle.pj_cache_format.proofs.writing.put_result.Goals as goal

pub returns-clause-put : goal.returns-clause-put
returns-clause-put c =
    let out = c.args.out.now.items in
    let first = c.put_key_places.new.out.items in
    let second = c.put_name_places.new.out.items in
    let third = c.put_group.new.out.items in
    let keys = c.args.keys.now in
    let names = map (λ a. a.0) c.args.answers.now in
    let key : KeyRows → List ℕ = λ (k : KeyRows). number (place_in keys k.key) in
    let name : List ℕ → List ℕ = λ (n : List ℕ). number (place_in names n) in
    let text : KeyRows → List ℕ = λ (k : KeyRows). rows_text k.rows in
    let one : first ≡ out ++ counted key c.args.item.now.group = c.in_ok-put_key_places.ensures.put ∙ ap (λ (g : List KeyRows). out ++ counted key g) c.as_slice.ensures in
    let two : second ≡ first ++ counted name c.args.item.now.names = c.in_ok-put_name_places.ensures.put ∙ ap (λ (g : List (List ℕ)). first ++ counted name g) c.as_slice-2.ensures in
    let three : third ≡ second ++ flat_map text c.args.item.now.group = c.in_ok-put_group.ensures.put ∙ ap (λ (g : List KeyRows). second ++ flat_map text g) c.as_slice-3.ensures in
    three_put out first second third (counted key c.args.item.now.group) (counted name c.args.item.now.names) (flat_map text c.args.item.now.group) one two three

pub returns-clause-room : goal.returns-clause-room
returns-clause-room c =
    let group = subst (λ (l : List KeyRows). All FitsKeyRows l) c.as_slice-3.ensures c.in_ok-put_group.ensures.room in
    let keys = subst (λ (l : List KeyRows). HasRoom l) c.as_slice.ensures c.in_ok-put_key_places.ensures.room in
    let names = subst (λ (l : List (List ℕ)). HasRoom l) c.as_slice-2.ensures c.in_ok-put_name_places.ensures.room in
    ((keys, group), names)
