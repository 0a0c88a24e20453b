-- Answers that are the same part by part are equal.
use Rattle.std.proofs.Common.{◌≡◌, ◌↔◌, ℕ, Bool, true, false, ◌&&◌, List, [], ◌∷◌, refl, ap, subst, eq-eqb}
use Rattle.std.specs.Prelude.{IsTrue, nat_eq}
use Rattle.std.specs.Cmp.Lexicographic.{pointwise, bytes_decides}
use Rattle.std.proofs.lemmas.Bool.{eqb-true}
use Rattle.pj_names.specs.declared.answer.Answer.{Answer}
use Rattle.pj_names.specs.declared.answer.Answer.TheVariants as answers
use Rattle.pj_names.specs.declared.answer.Broken.{Broken}
use Rattle.pj_names.specs.declared.answer.Broken.TheVariants as broken
use Rattle.pj_names.specs.declared.answer.ClassInfo.{ClassInfo}
use Rattle.pj_names.specs.declared.answer.ClassFault.{ClassFault}
use Rattle.pj_names.specs.declared.answer.Member.{Member}
use Rattle.pj_reuse.specs.Same.{is_same_text, is_same_member, is_same_class, is_same_broken, is_same_answer}

both_true : (a b : Bool) → (a && b) ≡ true → (a ≡ true) × (b ≡ true)
both_true true b e = (refl, e)
both_true false b e = absurd cc

text_itself : (a : List ℕ) → is_same_text a a ≡ true
text_itself a = (bytes_decides a a).1 refl

text_equal : (a b : List ℕ) → is_same_text a b ≡ true → a ≡ b
text_equal a b e = (bytes_decides a b).0 e

number_itself : (n : ℕ) → nat_eq n n ≡ true
number_itself n = eq-eqb n n refl

list_itself : {A : Type 0} (same : A → A → Bool) → ((x : A) → same x x ≡ true) → (xs : List A) → pointwise same xs xs ≡ true
list_itself same each [] = refl
list_itself same each (x ∷ xs) = rw (each x) (list_itself same each xs)

list_equal : {A : Type 0} (same : A → A → Bool) → ((x y : A) → same x y ≡ true → x ≡ y) → (xs ys : List A) → pointwise same xs ys ≡ true → xs ≡ ys
list_equal same each [] [] e = refl
list_equal same each [] (y ∷ ys) e = absurd cc
list_equal same each (x ∷ xs) [] e = absurd cc
list_equal same each (x ∷ xs) (y ∷ ys) e =
    let both = both_true (same x y) (pointwise same xs ys) e in
    let one = each x y both.0 in
    let others = list_equal same each xs ys both.1 in
    λ i. one i ∷ others i

member_itself : (m : Member) → is_same_member m m ≡ true
member_itself m = rw (number_itself m.flags, text_itself m.name, text_itself m.signature) refl

member_equal : (a b : Member) → is_same_member a b ≡ true → a ≡ b
member_equal a b e =
    let first = both_true (nat_eq a.flags b.flags) (is_same_text a.name b.name && is_same_text a.signature b.signature) e in
    let second = both_true (is_same_text a.name b.name) (is_same_text a.signature b.signature) first.1 in
    let flags = eqb-true a.flags b.flags first.0 in
    let names = text_equal a.name b.name second.0 in
    let signatures = text_equal a.signature b.signature second.1 in
    λ i. record { flags = flags i; name = names i; signature = signatures i }

class_itself : (c : ClassInfo) → is_same_class c c ≡ true
class_itself c = rw (text_itself c.name, number_itself c.flags, text_itself c.signature, list_itself is_same_member member_itself c.fields, list_itself is_same_member member_itself c.methods) refl

class_equal : (a b : ClassInfo) → is_same_class a b ≡ true → a ≡ b
class_equal a b e =
    let first = both_true (is_same_text a.name b.name) _ e in
    let second = both_true (nat_eq a.flags b.flags) _ first.1 in
    let third = both_true (is_same_text a.signature b.signature) _ second.1 in
    let fourth = both_true (pointwise is_same_member a.fields b.fields) (pointwise is_same_member a.methods b.methods) third.1 in
    let names = text_equal a.name b.name first.0 in
    let flags = eqb-true a.flags b.flags second.0 in
    let signatures = text_equal a.signature b.signature third.0 in
    let fields = list_equal is_same_member member_equal a.fields b.fields fourth.0 in
    let methods = list_equal is_same_member member_equal a.methods b.methods fourth.1 in
    λ i. record { name = names i; flags = flags i; signature = signatures i; fields = fields i; methods = methods i }

broken_itself : (b : Broken) → is_same_broken b b ≡ true
broken_itself (broken.Class f) = rw (number_itself f.kind, number_itself f.offset) refl
broken_itself broken.OtherName = refl
broken_itself broken.TooLong = refl

fault_equal : (a b : ClassFault) → (nat_eq a.kind b.kind && nat_eq a.offset b.offset) ≡ true → a ≡ b
fault_equal a b e =
    let both = both_true (nat_eq a.kind b.kind) (nat_eq a.offset b.offset) e in
    let kinds = eqb-true a.kind b.kind both.0 in
    let offsets = eqb-true a.offset b.offset both.1 in
    λ i. record { kind = kinds i; offset = offsets i }

broken_equal : (a b : Broken) → is_same_broken a b ≡ true → a ≡ b
broken_equal (broken.Class a) (broken.Class b) e = ap (λ (f : ClassFault). broken.Class f) (fault_equal a b e)
broken_equal broken.OtherName broken.OtherName e = refl
broken_equal broken.TooLong broken.TooLong e = refl
broken_equal (broken.Class a) broken.OtherName e = absurd cc
broken_equal (broken.Class a) broken.TooLong e = absurd cc
broken_equal broken.OtherName (broken.Class b) e = absurd cc
broken_equal broken.OtherName broken.TooLong e = absurd cc
broken_equal broken.TooLong (broken.Class b) e = absurd cc
broken_equal broken.TooLong broken.OtherName e = absurd cc

answer_itself : (a : Answer) → is_same_answer a a ≡ true
answer_itself answers.Absent = refl
answer_itself (answers.Found c) = class_itself c
answer_itself (answers.Broken b) = broken_itself b

answer_equal : (a b : Answer) → is_same_answer a b ≡ true → a ≡ b
answer_equal answers.Absent answers.Absent e = refl
answer_equal (answers.Found a) (answers.Found b) e = ap (λ (c : ClassInfo). answers.Found c) (class_equal a b e)
answer_equal (answers.Broken a) (answers.Broken b) e = ap (λ (x : Broken). answers.Broken x) (broken_equal a b e)
answer_equal answers.Absent (answers.Found b) e = absurd cc
answer_equal answers.Absent (answers.Broken b) e = absurd cc
answer_equal (answers.Found a) answers.Absent e = absurd cc
answer_equal (answers.Found a) (answers.Broken b) e = absurd cc
answer_equal (answers.Broken a) answers.Absent e = absurd cc
answer_equal (answers.Broken a) (answers.Found b) e = absurd cc

pub same_equal : (a b : Answer) → (is_same_answer a b ≡ true) ↔ (a ≡ b)
same_equal a b = (answer_equal a b, λ e. subst (λ (x : Answer). is_same_answer a x ≡ true) e (answer_itself a))

not_both : (b : Bool) → b ≡ true → b ≡ false → ⊥
not_both true p q = absurd cc
not_both false p q = absurd cc

-- a test that tells whether both are equal is that one
told_by : (a b : Answer) (test same : Bool) → IsTrue test ↔ (a ≡ b) → is_same_answer a b ≡ same → test ≡ same
told_by a b true true h e = refl
told_by a b false false h e = refl
told_by a b true false h e = absurd (not_both (is_same_answer a b) ((same_equal a b).1 (h.0 refl)) e)
told_by a b false true h e = let never : false ≡ true = h.1 ((same_equal a b).0 e) in absurd cc

pub told : (a b : Answer) (test : Bool) → IsTrue test ↔ (a ≡ b) → test ≡ is_same_answer a b
told a b test h = told_by a b test (is_same_answer a b) h refl
