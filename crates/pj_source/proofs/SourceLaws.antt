-- Of the bytes of a file one thing comes.
use Rattle.std.proofs.Common.{ℕ, ◌≡◌, Bool, true, false, List, [], ◌∷◌, refl, ap, sym, ◌∙◌, arith, Result, Err}
use Rattle.std.specs.Str.{chars, IsUtf8, IsValidUpTo}
use Rattle.std.proofs.lemmas.Str.{utf8_valid_len-IsUtf8, utf8_valid_len-IsValidUpTo}
use Rattle.pj_tree.specs.Places.{first_place}
use Rattle.pj_tree.specs.declared.node.Place.{Place}
use Rattle.pj_source.specs.Escapes.{Piece, is_eligible, place_behind_all}
use Rattle.pj_source.specs.SourceText.{SourceText, Translates, IsRead, is_last_sub, byte_order_mark, behind_byte_order_mark}
use Rattle.pj_source.specs.SourceText.Translates.{ended, sub, next, bad}
use Rattle.pj_source.specs.SourceText.IsRead.{not_utf8, translated}
use Rattle.pj_source.specs.declared.source.fault.SourceFault.{SourceFault}
use Rattle.pj_source.specs.declared.source.fault.SourceFault.TheVariants.{NotUtf8}
use Rattle.pj_source.proofs.WrittenLaws.{SameWriting, same_writing, not_bad, not_empty}

-- the second of two walks, at the character of the first
along : (at : Place) (ps : List Piece) (c d : ℕ) (e f : Bool) (v w r s : List ℕ) (o : Result SourceText SourceFault) → SameWriting c d e f v w r s
    → Translates (place_behind_all at w s) (record { character = d; escaped = f; place = at } ∷ ps) s o → Translates (place_behind_all at v r) (record { character = c; escaped = e; place = at } ∷ ps) r o
along at ps c d e f v w r s o same t = rw (same.character, same.escaped, same.written, same.behind) t

last_same : (c d : ℕ) (e f : Bool) (v w r s : List ℕ) → SameWriting c d e f v w r s → is_last_sub c r ≡ true → is_last_sub d s ≡ false → ⊥
last_same c d e f v w r s same true_of other =
    let h : is_last_sub c r ≡ is_last_sub d s = rw (same.character, same.behind) refl in
    let no_way : true ≡ false = sym true_of ∙ (h ∙ other) in absurd cc

same_walk : (at : Place) (ps : List Piece) (text : List ℕ) (o p : Result SourceText SourceFault) → Translates at ps text o → Translates at ps text p → o ≡ p
same_walk _ _ _ _ _ (ended at ps) (ended _ _) = refl
same_walk _ _ _ _ _ (ended at ps) (sub _ _ text c e w r written last) = absurd (not_empty (is_eligible ps) [] c e w r written refl)
same_walk _ _ _ _ _ (ended at ps) (next _ _ text c e w r o written last more) = absurd (not_empty (is_eligible ps) [] c e w r written refl)
same_walk _ _ _ _ _ (ended at ps) (bad _ _ text b) = let no_way : true ≡ false = sym b.begins in absurd cc
same_walk _ _ _ _ _ (sub _ _ text c e w r written last) (ended at ps) = absurd (not_empty (is_eligible ps) [] c e w r written refl)
same_walk _ _ _ _ _ (sub at ps text c e w r written last) (sub _ _ _ d f v s other last') = refl
same_walk _ _ _ _ _ (sub at ps text c e w r written last) (next _ _ _ d f v s o other last' more) = absurd (last_same c d e f w v r s (same_writing (is_eligible ps) text c d e f w v r s written other) last last')
same_walk _ _ _ _ _ (sub at ps text c e w r written last) (bad _ _ _ b) = absurd (not_bad (is_eligible ps) text c e w r written b)
same_walk _ _ _ _ _ (next _ _ text c e w r o written last more) (ended at ps) = absurd (not_empty (is_eligible ps) [] c e w r written refl)
same_walk _ _ _ _ _ (next at ps text c e w r o written last more) (sub _ _ _ d f v s other last') = absurd (last_same d c f e v w s r (same_writing (is_eligible ps) text d c f e v w s r other written) last' last)
same_walk _ _ _ _ _ (next at ps text c e w r o written last more) (next _ _ _ d f v s p other last' more') =
    same_walk (place_behind_all at w r) (record { character = c; escaped = e; place = at } ∷ ps) r o p more (along at ps c d e f w v r s p (same_writing (is_eligible ps) text c d e f w v r s written other) more')
same_walk _ _ _ _ _ (next at ps text c e w r o written last more) (bad _ _ _ b) = absurd (not_bad (is_eligible ps) text c e w r written b)
same_walk _ _ _ _ _ (bad _ _ text b) (ended at ps) = let no_way : true ≡ false = sym b.begins in absurd cc
same_walk _ _ _ _ _ (bad at ps text b) (sub _ _ _ c e w r written last) = absurd (not_bad (is_eligible ps) text c e w r written b)
same_walk _ _ _ _ _ (bad at ps text b) (next _ _ _ c e w r o written last more) = absurd (not_bad (is_eligible ps) text c e w r written b)
same_walk _ _ _ _ _ (bad at ps text b) (bad _ _ _ _) = refl

-- a file is UTF-8, or stops being it at one byte
not_both : (bytes : List ℕ) (n : ℕ) → IsValidUpTo bytes n → IsUtf8 bytes → ⊥
not_both bytes n v u = absurd (omega (arith, v.short, utf8_valid_len-IsUtf8 bytes u, utf8_valid_len-IsValidUpTo bytes n v))

pub same_reading : (bytes : List ℕ) (o p : Result SourceText SourceFault) → IsRead bytes o → IsRead bytes p → o ≡ p
same_reading _ _ _ (not_utf8 bytes n v) (not_utf8 _ m w) = ap (λ (k : ℕ). Err (NotUtf8 k)) (sym (utf8_valid_len-IsValidUpTo bytes n v) ∙ utf8_valid_len-IsValidUpTo bytes m w)
same_reading _ _ _ (not_utf8 bytes n v) (translated _ p u t) = absurd (not_both bytes n v u)
same_reading _ _ _ (translated bytes o u t) (not_utf8 _ n v) = absurd (not_both bytes n v u)
same_reading _ _ _ (translated bytes o u t) (translated _ p _ s) =
    same_walk (place_behind_all first_place (byte_order_mark (chars bytes)) (behind_byte_order_mark (chars bytes))) [] (behind_byte_order_mark (chars bytes)) o p t s
