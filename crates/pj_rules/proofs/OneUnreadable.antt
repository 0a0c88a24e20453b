-- A file that is no ruleset has one fault.
use Rattle.std.proofs.Common.{◌≡◌, ◌∙◌, ℕ, suc, ◌+◌, ◌<◌, ◌≤◌, List, [], ◌∷◌, ◌++◌, length, refl, sym, ap, subst, arith, append_assoc}
use Rattle.std.proofs.lemmas.List.{length-append}
use Rattle.std.specs.Str.{chars}
use Rattle.pj_markup.specs.Depth.{greatest_depth}
use Rattle.pj_markup.specs.Elements.{size}
use Rattle.pj_markup.specs.Faults.{CanGoOn, CannotFollow, IsMarkup, IsTooDeepAt, StopsAt}
use Rattle.pj_markup.specs.Markup.{Doc}
use Rattle.pj_markup.specs.declared.element.Row.{Row}
use Rattle.pj_outside.specs.Files.{Files, bytes_at}
use Rattle.pj_rule_texts.specs.Files.{AreFault, IsTextFault, IsUnreadable, greatest_size}
use Rattle.pj_rule_texts.specs.declared.file_fault.FileFault.{FileFault}
use Rattle.pj_rule_texts.specs.declared.file_fault.FileFault.TheVariants.{Markup}
use Rattle.pj_rule_texts.specs.Values.{Text}
use Rattle.pj_rule_texts.specs.Written.{root}
use Rattle.pj_rules.proofs.Apart.{not_deep, not_stopped}
use Rattle.pj_rules.proofs.OneList.{one_some}

-- ---- two fronts of one list

pub data Fronts {A : Type 0} (a c b d : List A) : Type 0 where
  same : a ≡ b → c ≡ d → Fronts a c b d
  longer : (x : A) (more : List A) → a ≡ b ++ x ∷ more → d ≡ x ∷ (more ++ c) → Fronts a c b d
  shorter : (x : A) (more : List A) → b ≡ a ++ x ∷ more → c ≡ x ∷ (more ++ d) → Fronts a c b d

one_more : {A : Type 0} (x y : A) (a c b d : List A) → x ≡ y → Fronts a c b d → Fronts (x ∷ a) c (y ∷ b) d
one_more x y a c b d e (Fronts.same f g) = Fronts.same (cc) g
one_more x y a c b d e (Fronts.longer z more f g) = Fronts.longer z more (cc) g
one_more x y a c b d e (Fronts.shorter z more f g) = Fronts.shorter z more (cc) g

pub fronts : {A : Type 0} (a c b d : List A) → a ++ c ≡ b ++ d → Fronts a c b d
fronts [] c [] d e = Fronts.same refl e
fronts (x ∷ a) c [] d e = Fronts.longer x a refl (sym e)
fronts [] c (y ∷ b) d e = Fronts.shorter y b refl e
fronts (x ∷ a) c (y ∷ b) d e = let head : x ≡ y = cc in let rest : a ++ c ≡ b ++ d = cc in one_more x y a c b d head (fronts a c b d rest)

-- fronts of one list and one length are the same
same_front : {A : Type 0} (a c b d : List A) → a ++ c ≡ b ++ d → length a ≤ length b → length b ≤ length a → a ≡ b
same_front a c b d e le ge = by_fronts (fronts a c b d e)
  where
    by_fronts : Fronts a c b d → a ≡ b
    by_fronts (Fronts.same f g) = f
    by_fronts (Fronts.longer x more f g) = let n = ap length f ∙ length-append b (x ∷ more) in absurd (omega (arith, n, le))
    by_fronts (Fronts.shorter x more f g) = let n = ap length f ∙ length-append a (x ∷ more) in absurd (omega (arith, n, ge))

-- ---- how far a text goes on as a document

front_goes_on : (deepest : ℕ) (front more : List ℕ) → CanGoOn deepest (front ++ more) → CanGoOn deepest front
front_goes_on deepest front more (rest, rows, doc) = (more ++ rest, rows, subst (λ t. Doc deepest t rows) (append_assoc front more rest) doc)

-- where a text stops, no longer front of it goes on
not_past_stop : (deepest d : ℕ) (text : List ℕ) (offset : ℕ) (s : StopsAt deepest text offset) (front rest : List ℕ) → text ≡ front ++ rest → CanGoOn d front →
    length front ≤ length s.front
not_past_stop deepest d text offset s front rest split goes = by_fronts (fronts front rest s.front s.behind (sym split ∙ s.split))
  where
    by_fronts : Fronts front rest s.front s.behind → length front ≤ length s.front
    by_fronts (Fronts.same f g) = let n = ap length f in omega (arith, n)
    by_fronts (Fronts.longer x more f g) = absurd (subst (CannotFollow s.front) g s.cannot d
        (front_goes_on d (s.front ++ x ∷ []) more (subst (CanGoOn d) (f ∙ sym (append_assoc s.front (x ∷ []) more)) goes)))
    by_fronts (Fronts.shorter x more f g) = let n = ap length f ∙ length-append front (x ∷ more) in omega (arith, n)

-- where it is too deep, no longer front goes on without being so
not_past_depth : (deepest : ℕ) (text : List ℕ) (offset : ℕ) (s : IsTooDeepAt deepest text offset) (front rest : List ℕ) → text ≡ front ++ rest → CanGoOn deepest front →
    length front ≤ length s.front + 1
not_past_depth deepest text offset s front rest split goes = by_fronts (fronts front rest (s.front ++ 60 ∷ s.first ∷ []) s.behind
    (sym split ∙ s.split ∙ sym (append_assoc s.front (60 ∷ s.first ∷ []) s.behind)))
  where
    by_fronts : Fronts front rest (s.front ++ 60 ∷ s.first ∷ []) s.behind → length front ≤ length s.front + 1
    by_fronts (Fronts.same f g) = absurd (s.not_so_deep (subst (CanGoOn deepest) f goes))
    by_fronts (Fronts.longer x more f g) = absurd (s.not_so_deep (front_goes_on deepest (s.front ++ 60 ∷ s.first ∷ []) (x ∷ more) (subst (CanGoOn deepest) f goes)))
    by_fronts (Fronts.shorter x more f g) =
        let n = sym (length-append s.front (60 ∷ s.first ∷ [])) ∙ ap length f ∙ length-append front (x ∷ more) in omega (arith, n)

one_stop : (deepest : ℕ) (text : List ℕ) (a b : ℕ) → StopsAt deepest text a → StopsAt deepest text b → a ≡ b
one_stop deepest text a b s t = s.at ∙ ap size (same_front s.front s.behind t.front t.behind (sym s.split ∙ t.split)
    (not_past_stop deepest deepest text b t s.front s.behind s.split s.can_go_on) (not_past_stop deepest deepest text a s t.front t.behind t.split t.can_go_on)) ∙ sym t.at

one_depth : (deepest : ℕ) (text : List ℕ) (a b : ℕ) → IsTooDeepAt deepest text a → IsTooDeepAt deepest text b → a ≡ b
one_depth deepest text a b s t = s.at ∙ ap size (same_front s.front (60 ∷ s.first ∷ s.behind) t.front (60 ∷ t.first ∷ t.behind) (sym s.split ∙ t.split)
    (fewer s t) (fewer t s)) ∙ sym t.at
  where
    fewer : {n m : ℕ} (x : IsTooDeepAt deepest text n) (y : IsTooDeepAt deepest text m) → length x.front ≤ length y.front
    fewer {n} {m} x y =
        let far = not_past_depth deepest text m y (x.front ++ 60 ∷ []) (x.first ∷ x.behind) (x.split ∙ sym (append_assoc x.front (60 ∷ []) (x.first ∷ x.behind))) x.before in
        let n = length-append x.front (60 ∷ []) in omega (arith, far, n)

not_stopped_and_deep : (deepest : ℕ) (text : List ℕ) (a b : ℕ) → StopsAt deepest text a → IsTooDeepAt deepest text b → ⊥
not_stopped_and_deep deepest text a b s t =
    let near = not_past_depth deepest text b t s.front s.behind s.split s.can_go_on in
    let far = not_past_stop deepest (suc deepest) text a s (t.front ++ 60 ∷ t.first ∷ []) t.behind (t.split ∙ sym (append_assoc t.front (60 ∷ t.first ∷ []) t.behind)) t.deeper in
    let n = length-append t.front (60 ∷ t.first ∷ []) in absurd (omega (arith, near, far, n))

-- ---- files

module _ (one_reading : (text : List ℕ) (rows others : List Row) → IsMarkup text rows → IsMarkup text others → rows ≡ others) where
  one_text_fault : (text : List ℕ) (a b : FileFault) → IsTextFault text a → IsTextFault text b → a ≡ b
  one_text_fault text _ _ (IsTextFault.no_markup {offset = a} h) (IsTextFault.no_markup {offset = b} k) = ap Markup (one_stop greatest_depth text a b h k)
  one_text_fault text _ _ (IsTextFault.no_markup {offset = a} h) (IsTextFault.too_deep {offset = b} k) = absurd (not_stopped_and_deep greatest_depth text a b h k.1)
  one_text_fault text _ _ (IsTextFault.no_markup {offset = a} h) (IsTextFault.other_root {rows = rows} doc none) = absurd (not_stopped text rows doc a h)
  one_text_fault text _ _ (IsTextFault.too_deep {offset = a} h) (IsTextFault.no_markup {offset = b} k) = absurd (not_stopped_and_deep greatest_depth text b a k h.1)
  one_text_fault text _ _ (IsTextFault.too_deep {offset = a} h) (IsTextFault.too_deep {offset = b} k) = ap Markup (one_depth greatest_depth text a b h.1 k.1)
  one_text_fault text _ _ (IsTextFault.too_deep {offset = a} h) (IsTextFault.other_root {rows = rows} doc none) = absurd (not_deep text rows doc a h.1)
  one_text_fault text _ _ (IsTextFault.other_root {rows = rows} doc none) (IsTextFault.no_markup {offset = b} k) = absurd (not_stopped text rows doc b k)
  one_text_fault text _ _ (IsTextFault.other_root {rows = rows} doc none) (IsTextFault.too_deep {offset = b} k) = absurd (not_deep text rows doc b k.1)
  one_text_fault text _ _ (IsTextFault.other_root {rows = rows} doc none) (IsTextFault.other_root {rows = others} doc_too none_too) =
      ap (λ (r : List Row). Markup (root r).offset) (one_reading text rows others (greatest_depth, doc) (greatest_depth, doc_too))

  one_bytes_fault : (bytes : List ℕ) (a b : FileFault) → AreFault bytes a → AreFault bytes b → a ≡ b
  one_bytes_fault bytes _ _ (AreFault.not_utf8 h) (AreFault.not_utf8 k) = refl
  one_bytes_fault bytes _ _ (AreFault.not_utf8 h) (AreFault.of_text utf8 k) = absurd (h utf8)
  one_bytes_fault bytes _ _ (AreFault.of_text utf8 h) (AreFault.not_utf8 k) = absurd (k utf8)
  one_bytes_fault bytes a b (AreFault.of_text utf8 h) (AreFault.of_text utf8_too k) = one_text_fault (chars bytes) a b h k

  not_long : (bytes others : List ℕ) → bytes ≡ others → greatest_size < length bytes → length others ≤ greatest_size → ⊥
  not_long bytes others e long short = let n = ap length e in absurd (omega (arith, n, long, short))

  pub one_unreadable : (files : Files) (path : Text) (a b : FileFault) → IsUnreadable files path a → IsUnreadable files path b → a ≡ b
  one_unreadable files path _ _ (IsUnreadable.too_long held long) (IsUnreadable.too_long held_too long_too) = refl
  one_unreadable files path _ _ (IsUnreadable.too_long {bytes = bytes} held long) (IsUnreadable.of_bytes {bytes = others} held_too fits k) =
      absurd (not_long bytes others (one_some (bytes_at files path) bytes others held held_too) long fits)
  one_unreadable files path _ _ (IsUnreadable.of_bytes {bytes = bytes} held fits h) (IsUnreadable.too_long {bytes = others} held_too long) =
      absurd (not_long others bytes (one_some (bytes_at files path) others bytes held_too held) long fits)
  one_unreadable files path a b (IsUnreadable.of_bytes {bytes = bytes} held fits h) (IsUnreadable.of_bytes {bytes = others} held_too fits_too k) =
      one_bytes_fault others a b (subst (λ bs. AreFault bs a) (one_some (bytes_at files path) bytes others held held_too) h) k
