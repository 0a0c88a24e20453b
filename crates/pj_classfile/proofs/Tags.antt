-- Numbers that are no tag.
use Rattle.std.proofs.Common.{◌≡◌, ◌≢◌, ◌==◌, ℕ, false, Err, inl, inr, refl}
use Rattle.std.proofs.lemmas.Bool.Decides.{eqb_tells}
use Rattle.pj_classfile.specs.ClassFile.{tag_of}

-- none of the tags
pub record IsNoTag (n : ℕ) : Type 0 where
  pub not_1 : n ≢ 1
  pub not_3 : n ≢ 3
  pub not_4 : n ≢ 4
  pub not_5 : n ≢ 5
  pub not_6 : n ≢ 6
  pub not_7 : n ≢ 7
  pub not_8 : n ≢ 8
  pub not_9 : n ≢ 9
  pub not_10 : n ≢ 10
  pub not_11 : n ≢ 11
  pub not_12 : n ≢ 12
  pub not_15 : n ≢ 15
  pub not_16 : n ≢ 16
  pub not_17 : n ≢ 17
  pub not_18 : n ≢ 18
  pub not_19 : n ≢ 19
  pub not_20 : n ≢ 20

unlike : (a b : ℕ) → a ≢ b → (a == b) ≡ false
unlike a b h = elim (eqb_tells a b) [ inl both ↦ absurd (h both.1) | inr both ↦ both.0 ]

pub no_tag : (n : ℕ) → IsNoTag n → tag_of n ≡ Err 4
no_tag n h =
    rw (
      unlike n 1 h.not_1,
      unlike n 3 h.not_3,
      unlike n 4 h.not_4,
      unlike n 5 h.not_5,
      unlike n 6 h.not_6,
      unlike n 7 h.not_7,
      unlike n 8 h.not_8,
      unlike n 9 h.not_9,
      unlike n 10 h.not_10,
      unlike n 11 h.not_11,
      unlike n 12 h.not_12,
      unlike n 15 h.not_15,
      unlike n 16 h.not_16,
      unlike n 17 h.not_17,
      unlike n 18 h.not_18,
      unlike n 19 h.not_19,
      unlike n 20 h.not_20,
    ) refl
