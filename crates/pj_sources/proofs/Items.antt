-- The items of a listing, one after the other.
use Rattle.std.proofs.Common.{◌≡◌, ◌∙◌, ◌+◌, ◌<◌, ℕ, Bool, true, false, cond, List, [], ◌∷◌, ◌++◌, length, take, drop, get_or, filter, find, None, Some, unwrap_or, ◌≤◌, sym, ap}
use Rattle.std.specs.Prelude.{Contains, IsTrue, count_by, is_none}
use Rattle.std.specs.Option.{option_or}
use Rattle.std.proofs.lemmas.List.{append-nil, take-append-drop, take_more, take_all, drop_more}
use Rattle.std.proofs.lemmas.List.Concat.{flat_map-append}
use Rattle.std.proofs.lemmas.List.Elements.{All-filter, filter-append, filter_passes}
use Rattle.std.proofs.lemmas.List.Folds.{find-append}
use Rattle.std.proofs.lemmas.List.Sums.{sum_by-append}
use Rattle.pj_outside.specs.Files.{Files, Bytes, is_at_or_below, listed_at}
use Rattle.pj_sources.specs.Paths.{is_source, is_module_info, path_listed}
use Rattle.pj_sources.specs.Listing.{AreListedBy, AreSourcesOf, IsUnordered, SaysNoItem, SaysNoListing, first_missing, is_missing, listed, listed_by}
use Rattle.pj_sources.specs.declared.listing.Listing.{Listing}
use Rattle.pj_sources.specs.declared.refused.ListRefused.{ListRefused}
use Rattle.pj_sources.specs.declared.refused.ListRefused.TheVariants.{Failed, Missing, Memory}

module _ {X : Type 0} where
  pub take_next : (xs : List X) (i : ℕ) (x : X) → i < length xs → x ≡ get_or xs i x → take (i + 1) xs ≡ take i xs ++ x ∷ []
  take_next xs i x h e = take_more xs i x h ∙ ap (λ y. take i xs ++ y ∷ []) (sym e)

  pub split_next : (xs : List X) (i : ℕ) (x : X) → i < length xs → x ≡ get_or xs i x → xs ≡ take i xs ++ x ∷ drop (i + 1) xs
  split_next xs i x h e = sym (take-append-drop i xs) ∙ ap (λ r. take i xs ++ r) (drop_more xs i x h ∙ ap (λ y. y ∷ drop (i + 1) xs) (sym e))

  find_none : (p : X → Bool) (xs : List X) (x : X) → find p xs ≡ None → p x ≡ false → find p (xs ++ x ∷ []) ≡ None
  find_none p xs x none fails = find-append p xs (x ∷ []) ∙ ap (λ o. option_or o (find p (x ∷ []))) none ∙ ap (λ b. cond b (Some x) None) fails

  find_first : (p : X → Bool) (xs : List X) (x : X) (ys : List X) → find p xs ≡ None → p x ≡ true → find p (xs ++ x ∷ ys) ≡ Some x
  find_first p xs x ys none passes = find-append p xs (x ∷ ys) ∙ ap (λ o. option_or o (find p (x ∷ ys))) none ∙ ap (λ b. cond b (Some x) (find p ys)) passes

module _ (files : Files) (items : List Bytes) (i : ℕ) (item : Bytes) (old : Listing) (within : i < length items) (here : item ≡ get_or items i item) (so_far : IsUnordered files (take i items) old) where
  listed_next : (paths : List Bytes) → listed_at files (path_listed item) ≡ Some paths → listed files (take (i + 1) items) ≡ listed files (take i items) ++ paths
  listed_next paths there =
      ap (listed files) (take_next items i item within here)
      ∙ flat_map-append (listed_by files) (take i items) (item ∷ [])
      ∙ ap (λ ps. listed files (take i items) ++ ps) (append-nil (listed_by files item) ∙ ap (λ o. unwrap_or o []) there)

  pub next_item : (paths : List Bytes) (new : Listing) → listed_at files (path_listed item) ≡ Some paths
      → new.paths ≡ old.paths ++ filter is_source paths → new.skipped ≡ old.skipped + count_by is_module_info paths → IsUnordered files (take (i + 1) items) new
  next_item paths new there more skipped = record {
    there = ap (first_missing files) (take_next items i item within here) ∙ find_none (is_missing files) (take i items) item so_far.there (ap is_none there);
    paths = more ∙ ap (λ ps. ps ++ filter is_source paths) so_far.paths ∙ sym (ap (filter is_source) (listed_next paths there) ∙ filter-append is_source (listed files (take i items)) paths);
    skipped = skipped ∙ ap (λ n. n + count_by is_module_info paths) so_far.skipped
        ∙ sym (ap (count_by is_module_info) (listed_next paths there) ∙ sum_by-append (λ (path : Bytes). cond (is_module_info path) 1 0) (listed files (take i items)) paths);
  }

  pub refused_item : (refused : ListRefused) → SaysNoItem files item refused → SaysNoListing files items refused
  refused_item Failed says = tt
  refused_item (Missing written) says =
      ap (first_missing files) (split_next items i item within here)
      ∙ find_first (is_missing files) (take i items) item (drop (i + 1) items) so_far.there says.1
      ∙ ap (λ (w : Bytes). Some w) (sym says.0)
  refused_item Memory says = tt

pub all_items : (files : Files) (items : List Bytes) (i : ℕ) (sources : Listing) → length items ≤ i → IsUnordered files (take i items) sources → IsUnordered files items sources
all_items files items i sources past so_far = record {
  there = sym (ap (first_missing files) (take_all i items past)) ∙ so_far.there;
  paths = so_far.paths ∙ ap (λ xs. filter is_source (listed files xs)) (take_all i items past);
  skipped = so_far.skipped ∙ ap (λ xs. count_by is_module_info (listed files xs)) (take_all i items past);
}

-- of the paths that one of the items lists, those of source files are sources of the items
pub sources_of_item : (items : List Bytes) (i : ℕ) (item : Bytes) → i < length items → item ≡ get_or items i item → (paths : List Bytes) → AreListedBy item paths → AreSourcesOf items (filter is_source paths)
sources_of_item items i item within here paths listed =
    let is_item : Contains items item = (i, within, sym here) in
    λ k d below. record {
      source = filter_passes is_source paths k d below;
      item = item;
      is_item = is_item;
      at_or_below = All-filter is_source (λ path. IsTrue (is_at_or_below (path_listed item) path)) paths listed k d below;
    }
