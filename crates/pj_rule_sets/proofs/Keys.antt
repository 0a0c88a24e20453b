-- Names and paths that are put where they are not yet.
use Rattle.std.proofs.Common.{◌≡◌, false, List, [], ◌∷◌, ◌++◌, refl}
use Rattle.pj_rule_sets.specs.Lists.{is_among, with_text}
use Rattle.pj_rule_texts.specs.Values.{Text}

pub put_new : (texts : List Text) (text : Text) → is_among text texts ≡ false → with_text texts text ≡ texts ++ text ∷ []
put_new texts text fresh = rw fresh refl
