-- The text of a cache that a run leaves fits.
use Rattle.std.proofs.Common.{◌≡◌, ℕ, inl, inr, List, Option, Some, None, sym, subst}
use Rattle.std.proofs.lemmas.List.Elements.{All-from_recursion}
use Rattle.pj_names.specs.declared.answer.Answer.{Answer}
use Rattle.pj_names.specs.ClassName.{Name}
use Rattle.pj_cache.specs.declared.cache.Cache.{Cache}
use Rattle.pj_cache_format.specs.Decoded.{text_two}
use Rattle.pj_cache_format.specs.Fitting.{FitsFields}
use Rattle.pj_cache_format.specs.Ordered.{IsInOrder}
use Rattle.pj_cache_format.proofs.Split.{whole_from}
use Rattle.pj_cache_format.proofs.StoredLaws.{one_cache, text_stored}
use Rattle.pj_fitting.specs.Right.{Files, IsRightCache, IsRightEntry}
use Rattle.pj_fitting.specs.Left.{File, IsLeftCache}
use Rattle.pj_fitting.specs.Fits.{CacheFits, IsFound, empty}
use Rattle.pj_fitting.proofs.Left.{left_right}

module _ {R : Type 0} (files : Files R) where
  -- the text of a cache that is right, in order and fits its fields fits
  pub right_fits : (c : Cache) → IsInOrder c → FitsFields c → IsRightCache files c → CacheFits files (Some (text_two c))
  right_fits c order fits right = λ d readable. subst (λ (x : Cache). IsRightCache files x) (one_cache (text_two c) c d (text_stored c (whole_from c order fits)) readable.1) right

  empty_right : (c : Cache) → c ≡ empty → IsRightCache files c
  empty_right c e = subst (λ (x : Cache). IsRightCache files x) (sym e) (All-from_recursion (IsRightEntry files empty.answers) empty.entries tt)

  -- the cache for which a run takes what fits is right
  pub found_right : (content : Option (List ℕ)) (found : Cache) → CacheFits files content → IsFound content found → IsRightCache files found
  found_right None found fits is = empty_right found is
  found_right (Some bytes) found fits (inl readable) = fits found readable
  found_right (Some bytes) found fits (inr none) = empty_right found none.1

  pub left_fits : (world : Name → Answer) (content : Option (List ℕ)) (found : Cache) (held : List R) (list : List File) (c : Cache) → CacheFits files content → IsFound content found → IsLeftCache files world found held list c → FitsFields c → CacheFits files (Some (text_two c))
  left_fits world content found held list c fits is left fields = right_fits c left.in_order fields (left_right files world found held list c (found_right content found fits is) left)
