-- Which results are kept in a world, and which names are asked to tell it.
use Rattle.std.proofs.Common.{◌≡◌, ℕ, Bool, true, false, cond, ◌&&◌, List, [], ◌∷◌, ◌++◌, refl, sym, ap, ◌∙◌}
use Rattle.std.specs.List.{filter, flat_map}
use Rattle.std.proofs.lemmas.List.{append-nil, append_assoc}
use Rattle.std.proofs.lemmas.List.Concat.{flat_map-cons}
use Rattle.pj_names.specs.declared.answer.Answer.{Answer}
use Rattle.pj_names.specs.ClassName.{Name}
use Rattle.pj_names.specs.Asking.{Return, value_of, names_of}
use Rattle.pj_names.proofs.MeaningLaws.{value_of-bind, names_of-bind}
use Rattle.pj_cache.specs.declared.cache.CachedResult.{CachedResult}
use Rattle.pj_reuse.specs.Serving.{Key, has_one, stands, up_to_change, looked_in, are_kept, with_keys, is_result_kept, with_result, kept_behind, kept_results}
use Rattle.pj_reuse.proofs.Standing.{kept_value, kept_names, same_one}

module _ (depth : ℕ) (world : Name → Answer) (answers : List (Name × Answer)) where
  abbrev serves : List Key → CachedResult → Bool
  serves wanted r = has_one wanted r && stands answers world r

  -- ---- one result

  value_by : (r : CachedResult) (a : Bool) → value_of depth world (cond a (are_kept answers r.names) (Return false)) ≡ (a && stands answers world r)
  value_by r true = kept_value depth world answers r.names
  value_by r false = refl

  abbrev looks_by : CachedResult → Bool → List Name
  looks_by r a = cond a (up_to_change answers world r.names) []

  names_by : (r : CachedResult) (a : Bool) → names_of depth world (cond a (are_kept answers r.names) (Return false)) ≡ looks_by r a
  names_by r true = kept_names depth world answers r.names
  names_by r false = refl

  -- ---- all results

  next_kept : (front : List CachedResult) (r : CachedResult) (rest : List CachedResult) (b : Bool) → with_result b front r ++ rest ≡ front ++ cond b (r ∷ rest) rest
  next_kept front r rest true = append_assoc front (r ∷ []) rest
  next_kept front r rest false = refl

  all_kept : (wanted : List Key) (front rs : List CachedResult) → value_of depth world (kept_behind answers wanted front rs) ≡ front ++ filter (serves wanted) rs
  all_kept wanted front [] = sym (append-nil front)
  all_kept wanted front (r ∷ rs) =
      value_of-bind depth world (is_result_kept answers wanted r) (λ (b : Bool). kept_behind answers wanted (with_result b front r) rs)
      ∙ ap (λ (b : Bool). value_of depth world (kept_behind answers wanted (with_result b front r) rs)) (value_by r (has_one wanted r))
      ∙ all_kept wanted (with_result (serves wanted r) front r) rs
      ∙ next_kept front r (filter (serves wanted) rs) (serves wanted r)

  all_looked : (wanted keys : List Key) → ((r : CachedResult) → has_one wanted r ≡ has_one keys r) → (front rs : List CachedResult) → names_of depth world (kept_behind answers wanted front rs) ≡ flat_map (λ (r : CachedResult). looks_by r (has_one keys r)) rs
  all_looked wanted keys same front [] = refl
  all_looked wanted keys same front (r ∷ rs) =
      let one : names_of depth world (is_result_kept answers wanted r) ≡ looks_by r (has_one keys r) = names_by r (has_one wanted r) ∙ ap (looks_by r) (same r) in
      let more = with_result (value_of depth world (is_result_kept answers wanted r)) front r in
      names_of-bind depth world (is_result_kept answers wanted r) (λ (b : Bool). kept_behind answers wanted (with_result b front r) rs)
      ∙ (λ i. one i ++ all_looked wanted keys same more rs i)
      ∙ sym (flat_map-cons (λ (s : CachedResult). looks_by s (has_one keys s)) r rs)

  -- ---- for the keys asked of

  pub results_kept : (results : List CachedResult) (keys : List Key) → value_of depth world (kept_results answers results keys) ≡ filter (serves keys) results
  results_kept results keys =
      all_kept (with_keys [] keys) [] results ∙ (λ i. filter (λ (r : CachedResult). same_one keys r i && stands answers world r) results)

  pub names_kept : (results : List CachedResult) (keys : List Key) → names_of depth world (kept_results answers results keys) ≡ looked_in answers world results keys
  names_kept results keys = all_looked (with_keys [] keys) keys (same_one keys) [] results
