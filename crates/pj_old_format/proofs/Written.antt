-- The text of a cache in format 1 by its parts.
use Rattle.std.proofs.Common.{◌≡◌, ℕ, List, ◌++◌, map, sym, ap, ◌∙◌}
use Rattle.pj_names.specs.declared.answer.Answer.{Answer}
use Rattle.pj_cache.specs.declared.old.OldEntry.{OldEntry}
use Rattle.pj_cache.specs.declared.old.OldCache.{OldCache}
use Rattle.pj_cache_format.specs.Texts.{counted, answer_text}
use Rattle.pj_cache_format.proofs.Written.{firsts, counted_pairs}
use Rattle.pj_old_format.specs.TextOne.{old_entry_text, old_cache_text}

-- the same where answers are kept in another way
pub old_cache_written : {A : Type 0} (f : A → List ℕ) (g : A → Answer) (c : OldCache) (key : List ℕ) (pairs : List A) (es : List OldEntry) → key ≡ c.rules → map (λ (a : A). (f a, g a)) pairs ≡ c.answers → es ≡ c.entries
    → key ++ (counted (λ (a : A). answer_text (f a, g a)) pairs ++ counted (old_entry_text (map f pairs)) es) ≡ old_cache_text c
old_cache_written {A} f g c key pairs es k a e =
    let pair : A → List ℕ × Answer = λ (x : A). (f x, g x) in
    let names : map f pairs ≡ map (λ (p : List ℕ × Answer). p.0) c.answers = sym (firsts f g pairs) ∙ ap (map (λ (p : List ℕ × Answer). p.0)) a in
    let texts : counted (λ (x : A). answer_text (f x, g x)) pairs ≡ counted answer_text c.answers = sym (counted_pairs answer_text pair pairs) ∙ ap (counted answer_text) a in
    λ i. k i ++ (texts i ++ counted (old_entry_text (names i)) (e i))
