-- Laws of the parts that both formats have: their bytes are their text.
use Rattle.std.proofs.Common.{◌≡◌, ◌≢◌, ℕ, ◌<◌, ◌^◌, Bool, true, false, ◌&&◌, cond, ltb, eqb, List, [], ◌∷◌, ◌++◌, length, Option, Some, None, Result, Ok, Err, refl, sym, ap, subst, arith}
use Rattle.std.specs.List.{flat_map, AllByRecursion}
use Rattle.std.specs.Str.{is_utf8}
use Rattle.std.proofs.lemmas.Bool.{ltb-true, eqb-true, eqb-false}
use Rattle.pj_format.specs.Format.{Format, Done, ◌>>=◌}
use Rattle.pj_format.specs.Fields.{u8, u8_as, u16, u16_as, u32, u32_as, sized, sized_as, several, several_from, Chain}
use Rattle.pj_format.proofs.Parts.{IsText, IsOpen, text_then, text_next, text_as, text_made, made_open, cond_open, done_text, u8_text, u16_text, u32_text, sized_text, several_text, from_text}
use Rattle.pj_names.specs.declared.answer.Answer.{Answer}
use Rattle.pj_names.specs.declared.answer.Answer.TheVariants as answers
use Rattle.pj_names.specs.declared.answer.Broken.{Broken}
use Rattle.pj_names.specs.declared.answer.Broken.TheVariants as broken
use Rattle.pj_names.specs.declared.answer.ClassInfo.{ClassInfo}
use Rattle.pj_names.specs.declared.answer.ClassFault.{ClassFault}
use Rattle.pj_names.specs.declared.answer.Member.{Member}
use Rattle.pj_names.specs.ClassName.{Name}
use Rattle.pj_cache_format.specs.Judges.{passing, text, is_below}
use Rattle.pj_cache_format.specs.Answers.{member, members, found, class_fault, is_broken_tag, broken_behind, broken_class, answer_behind, is_name_behind, answer, answer_list}
use Rattle.pj_cache_format.specs.Texts.{number, flags, string, counted, member_text, class_text, broken_tag, broken_content, broken_text, answer_tag, answer_content, answer_text}
use Rattle.pj_cache_format.proofs.Whole.{AreMembers, IsAnswerFor, IsAnswerBehind, AreAnswers}
use Rattle.pj_cache_format.specs.Fitting.{FitsBroken, FitsMember, FitsText, HasRoom}

-- ---- fields

abbrev good : {A : Type 0} → A → Result A ℕ
good x = Ok x

passed_by : {A : Type 0} (test : A → Bool) (x y : A) (b : Bool) → test x ≡ b → cond b (good x) (Err 1) ≡ good y → (x ≡ y) × (test y ≡ true)
passed_by {A} test x y true is e =
    let same : x ≡ y = cc in
    (same, subst (λ (z : A). test z ≡ true) same is)
passed_by test x y false is e = absurd cc

pub passed : {A : Type 0} (test : A → Bool) (x y : A) → passing test x ≡ Ok y → (x ≡ y) × (test y ≡ true)
passed test x y e = passed_by test x y (test x) refl e

pub passes : {A : Type 0} (test : A → Bool) (x : A) → test x ≡ true → passing test x ≡ Ok x
passes test x is = rw is refl

pub tag_text : (test : ℕ → Bool) → IsText (u8_as (passing test)) (λ (n : ℕ). n ∷ []) (λ (n : ℕ). (n < 256) × (test n ≡ true))
tag_text test = u8_text (λ n. n) (λ n. test n ≡ true) (passing test) (passed test) (passes test)

pub number_text : (test : ℕ → Bool) → IsText (u32_as (passing test)) number (λ (n : ℕ). (n < 2 ^ 32) × (test n ≡ true))
number_text test = u32_text (λ n. n) (λ n. test n ≡ true) (passing test) (passed test) (passes test)

pub string_text : (test : List ℕ → Bool) → IsText (sized_as (passing test)) string (λ s. HasRoom s × (test s ≡ true))
string_text test = sized_text (λ s. s) (λ s. test s ≡ true) (passing test) (passed test) (passes test)

pub text_text : IsText text string FitsText
unfolding text
text_text = string_text is_utf8

any_read : {A : Type 0} (x y : A) → good x ≡ good y → (x ≡ y) × Unit {0}
any_read x y e = (cc, tt)

pub u8_law : IsText u8 (λ (n : ℕ). n ∷ []) (λ (n : ℕ). n < 256)
unfolding u8
u8_law = text_as (u8_as (λ n. Ok n)) (λ (n : ℕ). n ∷ []) (λ (n : ℕ). n ∷ []) (λ (n : ℕ). (n < 256) × Unit {0}) (λ (n : ℕ). n < 256) (u8_text (λ n. n) (λ n. Unit {0}) (λ n. Ok n) any_read (λ n h. refl)) (λ n h. (h.0, refl)) (λ n h. ((h, tt), refl))

pub u16_law : IsText u16 flags (λ (n : ℕ). n < 2 ^ 16)
unfolding u16
u16_law = text_as (u16_as (λ n. Ok n)) flags flags (λ (n : ℕ). (n < 2 ^ 16) × Unit {0}) (λ (n : ℕ). n < 2 ^ 16) (u16_text (λ n. n) (λ n. Unit {0}) (λ n. Ok n) any_read (λ n h. refl)) (λ n h. (h.0, refl)) (λ n h. ((h, tt), refl))

pub u32_law : IsText u32 number (λ (n : ℕ). n < 2 ^ 32)
unfolding u32
u32_law = text_as (u32_as (λ n. Ok n)) number number (λ (n : ℕ). (n < 2 ^ 32) × Unit {0}) (λ (n : ℕ). n < 2 ^ 32) (u32_text (λ n. n) (λ n. Unit {0}) (λ n. Ok n) any_read (λ n h. refl)) (λ n h. (h.0, refl)) (λ n h. ((h, tt), refl))

pub sized_law : IsText sized string HasRoom
unfolding sized
sized_law = text_as (sized_as (λ s. Ok s)) string string (λ s. HasRoom s × Unit {0}) HasRoom (sized_text (λ s. s) (λ s. Unit {0}) (λ s. Ok s) any_read (λ s h. refl)) (λ s h. (h.0, refl)) (λ s h. ((h, tt), refl))

-- so many behind their number
pub counted_text : {A : Type 0} (item : Format A) (t : A → List ℕ) (F : A → Type 0) → IsText item t F → IsText (u32 >>= λ count. several item count) (counted t) (λ list. HasRoom list × AllByRecursion F list)
counted_text {A} item t F law =
    text_as (u32 >>= λ count. several item count) (counted t) (counted t) (λ list. HasRoom list × ((length list ≡ length list) × AllByRecursion F list)) (λ list. HasRoom list × AllByRecursion F list)
    (text_next u32 (λ count. several item count) number (λ (n : ℕ). n < 2 ^ 32) (flat_map t) (λ n list. (length list ≡ n) × AllByRecursion F list) length u32_law (λ count. several_text item t F law count) (λ n list g h. h.0))
    (λ list h. ((h.0, h.1.1), refl)) (λ list h. ((h.0, (refl, h.1)), refl))

-- the same where each says what the next one depends on
pub counted_from : {A S : Type 0} (item : S → Format (A × S)) (t : A → List ℕ) (F : S → A → Type 0) (step : S → A → S) (s : S) → ((z : S) → IsText (item z) (λ y. t y.0) (λ y. F z y.0 × (y.1 ≡ step z y.0)))
    → IsText (u32 >>= λ count. several_from item count s) (counted t) (λ list. HasRoom list × Chain F step s list)
counted_from item t F step s law =
    text_as (u32 >>= λ count. several_from item count s) (counted t) (counted t) (λ list. HasRoom list × ((length list ≡ length list) × Chain F step s list)) (λ list. HasRoom list × Chain F step s list)
    (text_next u32 (λ count. several_from item count s) number (λ (n : ℕ). n < 2 ^ 32) (flat_map t) (λ n list. (length list ≡ n) × Chain F step s list) length u32_law (λ count. from_text item t F step law count s) (λ n list g h. h.0))
    (λ list h. ((h.0, h.1.1), refl)) (λ list h. ((h.0, (refl, h.1)), refl))

-- ---- answers

pub member_law : IsText member member_text FitsMember
unfolding member
member_law =
    text_as ((u16) >>= λ flags. (text) >>= λ name. (text) >>= λ signature. Done (let made : Member = record { flags = flags; name = name; signature = signature } in made)) (λ y. (flags) ((λ (z : Member). z.flags) y) ++ ((string) ((λ (z : Member). z.name) y) ++ ((string) ((λ (z : Member). z.signature) y)))) (member_text) (λ y. ((λ (n : ℕ). n < 2 ^ 16) ((λ (z : Member). z.flags) y)) × ((λ (flags : ℕ). ((FitsText) ((λ (z : Member). z.name) y)) × ((λ (name : List ℕ). ((FitsText) ((λ (z : Member). z.signature) y)) × (y ≡ (λ (signature : List ℕ). let made : Member = record { flags = flags; name = name; signature = signature } in made) ((λ (z : Member). z.signature) y))) ((λ (z : Member). z.name) y))) ((λ (z : Member). z.flags) y))) (FitsMember)
    (text_next (u16) (λ flags. (text) >>= λ name. (text) >>= λ signature. Done (let made : Member = record { flags = flags; name = name; signature = signature } in made)) (flags) (λ (n : ℕ). n < 2 ^ 16) (λ y. (string) ((λ (z : Member). z.name) y) ++ ((string) ((λ (z : Member). z.signature) y))) (λ flags y. ((FitsText) ((λ (z : Member). z.name) y)) × ((λ (name : List ℕ). ((FitsText) ((λ (z : Member). z.signature) y)) × (y ≡ (λ (signature : List ℕ). let made : Member = record { flags = flags; name = name; signature = signature } in made) ((λ (z : Member). z.signature) y))) ((λ (z : Member). z.name) y))) (λ (z : Member). z.flags)
    (u16_law)
    (λ flags. text_next (text) (λ name. (text) >>= λ signature. Done (let made : Member = record { flags = flags; name = name; signature = signature } in made)) (string) (FitsText) (λ y. (string) ((λ (z : Member). z.signature) y)) (λ name y. ((FitsText) ((λ (z : Member). z.signature) y)) × (y ≡ (λ (signature : List ℕ). let made : Member = record { flags = flags; name = name; signature = signature } in made) ((λ (z : Member). z.signature) y))) (λ (z : Member). z.name)
    (text_text)
    (λ name. text_made (text) (λ signature. let made : Member = record { flags = flags; name = name; signature = signature } in made) (λ (z : Member). z.signature) (string) (FitsText) (λ signature g. refl) (text_text))
    (λ name y g h. ap (λ (z : Member). z.name) h.1))
    (λ flags y g h. ap (λ (z : Member). z.flags) h.1.1))
    (λ y h. ((h.0, h.1.0, h.1.1.0), refl))
    (λ y h. ((h.0, (h.1, (h.2, refl))), refl))

pub members_law : IsText members (counted member_text) AreMembers
unfolding members
members_law = counted_text member member_text FitsMember member_law

-- the class of an answer, or one that no answer has
no_class : ClassInfo
no_class = record { name = []; flags = 0; signature = []; fields = []; methods = [] }

abbrev class_in : Answer → ClassInfo
class_in answers.Absent = no_class
class_in (answers.Found class) = class
class_in (answers.Broken what) = no_class

abbrev class_made : Name → ℕ → List ℕ → List Member → List Member → Answer
class_made name flags signature fields methods = answers.Found (record { name = name; flags = flags; signature = signature; fields = fields; methods = methods })

IsFoundFor : Name → Answer → Type 0
IsFoundFor name a = (answer_tag a ≡ 1) × IsAnswerFor name a

found_from : (name : Name) (y : Answer) → ((class_in y).flags < 2 ^ 16) × (FitsText (class_in y).signature × (AreMembers (class_in y).fields × (AreMembers (class_in y).methods × (y ≡ class_made name (class_in y).flags (class_in y).signature (class_in y).fields (class_in y).methods))))
    → ((answer_tag y ≡ 1) × IsAnswerFor name y) × (class_text (class_in y) ≡ answer_content y)
found_from name answers.Absent h = absurd cc
found_from name (answers.Broken what) h = absurd cc
found_from name (answers.Found class) h =
    let is : class.name ≡ name = ap (λ (z : Answer). (class_in z).name) h.1.1.1.1 in
    ((refl, (is, (h.0, h.1.0, h.1.1.0, h.1.1.1.0))), refl)

found_to : (name : Name) (y : Answer) → (answer_tag y ≡ 1) × IsAnswerFor name y
    → (((class_in y).flags < 2 ^ 16) × (FitsText (class_in y).signature × (AreMembers (class_in y).fields × (AreMembers (class_in y).methods × (y ≡ class_made name (class_in y).flags (class_in y).signature (class_in y).fields (class_in y).methods))))) × (class_text (class_in y) ≡ answer_content y)
found_to name answers.Absent h = absurd (omega (arith, h.0))
found_to name (answers.Broken what) h = absurd (omega (arith, h.0))
found_to name (answers.Found class) h =
    let is : answers.Found class ≡ class_made name class.flags class.signature class.fields class.methods = ap (λ (n : Name). class_made n class.flags class.signature class.fields class.methods) h.1.0 in
    ((h.1.1.0, (h.1.1.1, (h.1.1.2, (h.1.1.3, is)))), refl)

pub found_law : (name : Name) → IsText (found name) answer_content (λ a. (answer_tag a ≡ 1) × IsAnswerFor name a)
unfolding found
found_law name =
    text_as ((u16) >>= λ flags. (text) >>= λ signature. (members) >>= λ fields. (members) >>= λ methods. Done (class_made name flags signature fields methods)) (λ y. (flags) ((λ (z : Answer). (class_in z).flags) y) ++ ((string) ((λ (z : Answer). (class_in z).signature) y) ++ ((counted member_text) ((λ (z : Answer). (class_in z).fields) y) ++ ((counted member_text) ((λ (z : Answer). (class_in z).methods) y))))) (answer_content) (λ y. ((λ (n : ℕ). n < 2 ^ 16) ((λ (z : Answer). (class_in z).flags) y)) × ((λ (flags : ℕ). ((FitsText) ((λ (z : Answer). (class_in z).signature) y)) × ((λ (signature : List ℕ). ((AreMembers) ((λ (z : Answer). (class_in z).fields) y)) × ((λ (fields : List Member). ((AreMembers) ((λ (z : Answer). (class_in z).methods) y)) × (y ≡ (λ (methods : List Member). class_made name flags signature fields methods) ((λ (z : Answer). (class_in z).methods) y))) ((λ (z : Answer). (class_in z).fields) y))) ((λ (z : Answer). (class_in z).signature) y))) ((λ (z : Answer). (class_in z).flags) y))) (λ a. (answer_tag a ≡ 1) × IsAnswerFor name a)
    (text_next (u16) (λ flags. (text) >>= λ signature. (members) >>= λ fields. (members) >>= λ methods. Done (class_made name flags signature fields methods)) (flags) (λ (n : ℕ). n < 2 ^ 16) (λ y. (string) ((λ (z : Answer). (class_in z).signature) y) ++ ((counted member_text) ((λ (z : Answer). (class_in z).fields) y) ++ ((counted member_text) ((λ (z : Answer). (class_in z).methods) y)))) (λ flags y. ((FitsText) ((λ (z : Answer). (class_in z).signature) y)) × ((λ (signature : List ℕ). ((AreMembers) ((λ (z : Answer). (class_in z).fields) y)) × ((λ (fields : List Member). ((AreMembers) ((λ (z : Answer). (class_in z).methods) y)) × (y ≡ (λ (methods : List Member). class_made name flags signature fields methods) ((λ (z : Answer). (class_in z).methods) y))) ((λ (z : Answer). (class_in z).fields) y))) ((λ (z : Answer). (class_in z).signature) y))) (λ (z : Answer). (class_in z).flags)
    (u16_law)
    (λ flags. text_next (text) (λ signature. (members) >>= λ fields. (members) >>= λ methods. Done (class_made name flags signature fields methods)) (string) (FitsText) (λ y. (counted member_text) ((λ (z : Answer). (class_in z).fields) y) ++ ((counted member_text) ((λ (z : Answer). (class_in z).methods) y))) (λ signature y. ((AreMembers) ((λ (z : Answer). (class_in z).fields) y)) × ((λ (fields : List Member). ((AreMembers) ((λ (z : Answer). (class_in z).methods) y)) × (y ≡ (λ (methods : List Member). class_made name flags signature fields methods) ((λ (z : Answer). (class_in z).methods) y))) ((λ (z : Answer). (class_in z).fields) y))) (λ (z : Answer). (class_in z).signature)
    (text_text)
    (λ signature. text_next (members) (λ fields. (members) >>= λ methods. Done (class_made name flags signature fields methods)) (counted member_text) (AreMembers) (λ y. (counted member_text) ((λ (z : Answer). (class_in z).methods) y)) (λ fields y. ((AreMembers) ((λ (z : Answer). (class_in z).methods) y)) × (y ≡ (λ (methods : List Member). class_made name flags signature fields methods) ((λ (z : Answer). (class_in z).methods) y))) (λ (z : Answer). (class_in z).fields)
    (members_law)
    (λ fields. text_made (members) (λ methods. class_made name flags signature fields methods) (λ (z : Answer). (class_in z).methods) (counted member_text) (AreMembers) (λ methods g. refl) (members_law))
    (λ fields y g h. ap (λ (z : Answer). (class_in z).fields) h.1))
    (λ signature y g h. ap (λ (z : Answer). (class_in z).signature) h.1.1))
    (λ flags y g h. ap (λ (z : Answer). (class_in z).flags) h.1.1.1))
    (found_from name)
    (found_to name)

abbrev fault_in : Broken → ClassFault
fault_in (broken.Class f) = f
fault_in broken.OtherName = record { kind = 0; offset = 0 }
fault_in broken.TooLong = record { kind = 0; offset = 0 }

abbrev fault_made : ℕ → ℕ → Broken
fault_made kind offset = broken.Class (record { kind = kind; offset = offset })

fault_from : (y : Broken) → ((fault_in y).kind < 256) × (((fault_in y).offset < 2 ^ 32) × (y ≡ fault_made (fault_in y).kind (fault_in y).offset)) → ((broken_tag y ≡ 1) × FitsBroken y) × ((fault_in y).kind ∷ number (fault_in y).offset ≡ broken_content y)
fault_from (broken.Class f) h = ((refl, (h.0, h.1.0)), refl)
fault_from broken.OtherName h = absurd cc
fault_from broken.TooLong h = absurd cc

fault_to : (y : Broken) → (broken_tag y ≡ 1) × FitsBroken y → (((fault_in y).kind < 256) × (((fault_in y).offset < 2 ^ 32) × (y ≡ fault_made (fault_in y).kind (fault_in y).offset))) × ((fault_in y).kind ∷ number (fault_in y).offset ≡ broken_content y)
fault_to (broken.Class f) h = ((h.1.0, (h.1.1, refl)), refl)
fault_to broken.OtherName h = absurd (omega (arith, h.0))
fault_to broken.TooLong h = absurd (omega (arith, h.0))

pub class_fault_law : IsText class_fault broken_content (λ b. (broken_tag b ≡ 1) × FitsBroken b)
unfolding class_fault
class_fault_law =
    text_as ((u8) >>= λ kind. (u32) >>= λ offset. Done (fault_made kind offset)) (λ y. (λ (n : ℕ). n ∷ []) ((λ (z : Broken). (fault_in z).kind) y) ++ ((number) ((λ (z : Broken). (fault_in z).offset) y))) (broken_content) (λ y. ((λ (n : ℕ). n < 256) ((λ (z : Broken). (fault_in z).kind) y)) × ((λ (kind : ℕ). ((λ (n : ℕ). n < 2 ^ 32) ((λ (z : Broken). (fault_in z).offset) y)) × (y ≡ (λ (offset : ℕ). fault_made kind offset) ((λ (z : Broken). (fault_in z).offset) y))) ((λ (z : Broken). (fault_in z).kind) y))) (λ b. (broken_tag b ≡ 1) × FitsBroken b)
    (text_next (u8) (λ kind. (u32) >>= λ offset. Done (fault_made kind offset)) (λ (n : ℕ). n ∷ []) (λ (n : ℕ). n < 256) (λ y. (number) ((λ (z : Broken). (fault_in z).offset) y)) (λ kind y. ((λ (n : ℕ). n < 2 ^ 32) ((λ (z : Broken). (fault_in z).offset) y)) × (y ≡ (λ (offset : ℕ). fault_made kind offset) ((λ (z : Broken). (fault_in z).offset) y))) (λ (z : Broken). (fault_in z).kind)
    (u8_law)
    (λ kind. text_made (u32) (λ offset. fault_made kind offset) (λ (z : Broken). (fault_in z).offset) (number) (λ (n : ℕ). n < 2 ^ 32) (λ offset g. refl) (u32_law))
    (λ kind y g h. ap (λ (z : Broken). (fault_in z).kind) h.1))
    (fault_from)
    (fault_to)

-- a test that holds of a number, and one that does not
is_zero_or : (n m : ℕ) (b : Bool) → eqb n m ≡ b → cond b (n ≡ m) (n ≢ m)
is_zero_or n m true e = eqb-true n m e
is_zero_or n m false e = eqb-false n m e

other_name : (y : Broken) → (broken_tag y ≡ 2) × FitsBroken y → y ≡ broken.OtherName
other_name (broken.Class f) h = absurd (omega (arith, h.0))
other_name broken.OtherName h = refl
other_name broken.TooLong h = absurd (omega (arith, h.0))

too_long : (y : Broken) → (broken_tag y ≡ 3) × FitsBroken y → y ≡ broken.TooLong
too_long (broken.Class f) h = absurd (omega (arith, h.0))
too_long broken.OtherName h = absurd (omega (arith, h.0))
too_long broken.TooLong h = refl

broken_cases : (tag : ℕ) (a b : Bool) → eqb tag 1 ≡ a → eqb tag 2 ≡ b → 0 < tag → tag < 4
    → IsText (cond a class_fault (cond b (Done broken.OtherName) (Done broken.TooLong))) broken_content (λ y. (broken_tag y ≡ tag) × FitsBroken y)
broken_cases tag true b e g low high =
    subst (λ (n : ℕ). IsText class_fault broken_content (λ y. (broken_tag y ≡ n) × FitsBroken y)) (sym (eqb-true tag 1 e)) class_fault_law
broken_cases tag false true e g low high =
    subst (λ (n : ℕ). IsText (Done broken.OtherName) broken_content (λ y. (broken_tag y ≡ n) × FitsBroken y)) (sym (eqb-true tag 2 g)) (done_text broken.OtherName broken_content (λ y. (broken_tag y ≡ 2) × FitsBroken y) refl (refl, tt) other_name)
broken_cases tag false false e g low high =
    let is : tag ≡ 3 = omega (arith, eqb-false tag 1 e, eqb-false tag 2 g, low, high) in
    subst (λ (n : ℕ). IsText (Done broken.TooLong) broken_content (λ y. (broken_tag y ≡ n) × FitsBroken y)) (sym is) (done_text broken.TooLong broken_content (λ y. (broken_tag y ≡ 3) × FitsBroken y) refl (refl, tt) too_long)

pub both_true : (a b : Bool) → (a && b) ≡ true → (a ≡ true) × (b ≡ true)
both_true true b e = (refl, e)
both_true false b e = absurd cc

broken_behind_law : (tag : ℕ) → is_broken_tag tag ≡ true → IsText (broken_behind tag) broken_content (λ y. (broken_tag y ≡ tag) × FitsBroken y)
broken_behind_law tag g =
    let both = both_true (ltb 0 tag) (ltb tag 4) g in
    broken_cases tag (eqb tag 1) (eqb tag 2) refl refl (ltb-true 0 tag both.0) (ltb-true tag 4 both.1)

broken_behind_open : (tag : ℕ) → IsOpen (broken_behind tag)
unfolding IsOpen
broken_behind_open tag = cond_open (eqb tag 1) class_fault (cond (eqb tag 2) (Done broken.OtherName) (Done broken.TooLong)) class_fault_law.is_open (cond_open (eqb tag 2) (Done broken.OtherName) (Done broken.TooLong) tt tt)

abbrev what_in : Answer → Broken
what_in answers.Absent = broken.TooLong
what_in (answers.Found class) = broken.TooLong
what_in (answers.Broken what) = what

tag_below : (b : Broken) → (broken_tag b < 256) × (is_broken_tag (broken_tag b) ≡ true)
tag_below (broken.Class f) = (omega arith, refl)
tag_below broken.OtherName = (omega arith, refl)
tag_below broken.TooLong = (omega arith, refl)

broken_from : (name : Name) (y : Answer) → ((broken_tag (what_in y) < 256) × (is_broken_tag (broken_tag (what_in y)) ≡ true)) × (((broken_tag (what_in y) ≡ broken_tag (what_in y)) × FitsBroken (what_in y)) × (y ≡ answers.Broken (what_in y))) → ((answer_tag y ≡ 2) × IsAnswerFor name y) × (broken_text (what_in y) ≡ answer_content y)
broken_from name answers.Absent h = absurd cc
broken_from name (answers.Found class) h = absurd cc
broken_from name (answers.Broken what) h = ((refl, h.1.0.1), refl)

broken_to : (name : Name) (y : Answer) → (answer_tag y ≡ 2) × IsAnswerFor name y → (((broken_tag (what_in y) < 256) × (is_broken_tag (broken_tag (what_in y)) ≡ true)) × (((broken_tag (what_in y) ≡ broken_tag (what_in y)) × FitsBroken (what_in y)) × (y ≡ answers.Broken (what_in y)))) × (broken_text (what_in y) ≡ answer_content y)
broken_to name answers.Absent h = absurd (omega (arith, h.0))
broken_to name (answers.Found class) h = absurd (omega (arith, h.0))
broken_to name (answers.Broken what) h = ((tag_below what, ((refl, h.1), refl)), refl)

broken_law : (name : Name) → IsText broken_class answer_content (λ a. (answer_tag a ≡ 2) × IsAnswerFor name a)
unfolding broken_class
broken_law name =
    text_as (u8_as (passing is_broken_tag) >>= λ tag. broken_behind tag >>= λ what. Done (answers.Broken what)) (λ y. broken_tag (what_in y) ∷ [] ++ broken_content (what_in y)) answer_content
    (λ y. ((broken_tag (what_in y) < 256) × (is_broken_tag (broken_tag (what_in y)) ≡ true)) × (((broken_tag (what_in y) ≡ broken_tag (what_in y)) × FitsBroken (what_in y)) × (y ≡ answers.Broken (what_in y))))
    (λ a. (answer_tag a ≡ 2) × IsAnswerFor name a)
    (text_then (u8_as (passing is_broken_tag)) (λ tag. broken_behind tag >>= λ what. Done (answers.Broken what)) (λ (n : ℕ). n ∷ []) (λ (n : ℕ). (n < 256) × (is_broken_tag n ≡ true)) (λ y. broken_content (what_in y)) (λ tag y. ((broken_tag (what_in y) ≡ tag) × FitsBroken (what_in y)) × (y ≡ answers.Broken (what_in y))) (λ y. broken_tag (what_in y))
    (tag_text is_broken_tag)
    (λ tag p. text_made (broken_behind tag) (λ what. answers.Broken what) what_in broken_content (λ b. (broken_tag b ≡ tag) × FitsBroken b) (λ what g. refl) (broken_behind_law tag p.1))
    (λ tag. made_open (broken_behind tag) (λ what. answers.Broken what) (broken_behind_open tag))
    (λ tag y g h. h.0.0))
    (broken_from name) (broken_to name)

-- what stands behind the tag of an answer

absent : (name : Name) (y : Answer) → (answer_tag y ≡ 0) × IsAnswerFor name y → y ≡ answers.Absent
absent name answers.Absent h = refl
absent name (answers.Found class) h = absurd (omega (arith, h.0))
absent name (answers.Broken what) h = absurd (omega (arith, h.0))

answer_cases : (name : Name) (tag : ℕ) (a b : Bool) → eqb tag 0 ≡ a → eqb tag 1 ≡ b → tag < 3
    → IsText (cond a (Done answers.Absent) (cond b (found name) broken_class)) answer_content (λ y. (answer_tag y ≡ tag) × IsAnswerFor name y)
answer_cases name tag true b e g high =
    subst (λ (n : ℕ). IsText (Done answers.Absent) answer_content (λ y. (answer_tag y ≡ n) × IsAnswerFor name y)) (sym (eqb-true tag 0 e)) (done_text answers.Absent answer_content (λ y. (answer_tag y ≡ 0) × IsAnswerFor name y) refl (refl, tt) (absent name))
answer_cases name tag false true e g high =
    subst (λ (n : ℕ). IsText (found name) answer_content (λ y. (answer_tag y ≡ n) × IsAnswerFor name y)) (sym (eqb-true tag 1 g)) (found_law name)
answer_cases name tag false false e g high =
    let is : tag ≡ 2 = omega (arith, eqb-false tag 0 e, eqb-false tag 1 g, high) in
    subst (λ (n : ℕ). IsText broken_class answer_content (λ y. (answer_tag y ≡ n) × IsAnswerFor name y)) (sym is) (broken_law name)

answer_behind_law : (name : Name) (tag : ℕ) → is_below 3 tag ≡ true → IsText (answer_behind name tag) answer_content (λ y. (answer_tag y ≡ tag) × IsAnswerFor name y)
answer_behind_law name tag g = answer_cases name tag (eqb tag 0) (eqb tag 1) refl refl (ltb-true tag 3 g)

answer_behind_open : (name : Name) (tag : ℕ) → IsOpen (answer_behind name tag)
unfolding IsOpen
answer_behind_open name tag = cond_open (eqb tag 0) (Done answers.Absent) (cond (eqb tag 1) (found name) broken_class) tt (cond_open (eqb tag 1) (found name) broken_class (found_law name).is_open (broken_law name).is_open)

answer_tag_below : (a : Answer) → (answer_tag a < 256) × (is_below 3 (answer_tag a) ≡ true)
answer_tag_below answers.Absent = (omega arith, refl)
answer_tag_below (answers.Found class) = (omega arith, refl)
answer_tag_below (answers.Broken what) = (omega arith, refl)

abbrev Named : Type 0
Named = (Name × Answer) × Option Name

abbrev named_made : Name → Answer → Named
named_made name a = ((name, a), Some name)

-- behind the name of an answer
tagged_law : (name : Name) → IsText (u8_as (passing (is_below 3)) >>= λ tag. answer_behind name tag >>= λ a. Done (named_made name a)) (λ y. answer_tag y.0.1 ∷ [] ++ answer_content y.0.1)
    (λ y. ((answer_tag y.0.1 < 256) × (is_below 3 (answer_tag y.0.1) ≡ true)) × (((answer_tag y.0.1 ≡ answer_tag y.0.1) × IsAnswerFor name y.0.1) × (y ≡ named_made name y.0.1)))
tagged_law name =
    text_then (u8_as (passing (is_below 3))) (λ tag. answer_behind name tag >>= λ a. Done (named_made name a)) (λ (n : ℕ). n ∷ []) (λ (n : ℕ). (n < 256) × (is_below 3 n ≡ true)) (λ y. answer_content y.0.1) (λ tag y. ((answer_tag y.0.1 ≡ tag) × IsAnswerFor name y.0.1) × (y ≡ named_made name y.0.1)) (λ y. answer_tag y.0.1)
    (tag_text (is_below 3))
    (λ tag p. text_made (answer_behind name tag) (λ a. named_made name a) (λ y. y.0.1) answer_content (λ a. (answer_tag a ≡ tag) × IsAnswerFor name a) (λ a g. refl) (answer_behind_law name tag p.1))
    (λ tag. made_open (answer_behind name tag) (λ a. named_made name a) (answer_behind_open name tag))
    (λ tag y g h. h.0.0)

pub answer_law : (before : Option Name) → IsText (answer before) (λ y. answer_text y.0) (λ y. IsAnswerBehind before y.0 × (y.1 ≡ Some y.0.0))
unfolding answer
answer_law before =
    text_as (sized_as (passing (is_name_behind before)) >>= λ name. u8_as (passing (is_below 3)) >>= λ tag. answer_behind name tag >>= λ a. Done (named_made name a))
    (λ y. string y.0.0 ++ (answer_tag y.0.1 ∷ [] ++ answer_content y.0.1)) (λ y. answer_text y.0)
    (λ y. (HasRoom y.0.0 × (is_name_behind before y.0.0 ≡ true)) × (((answer_tag y.0.1 < 256) × (is_below 3 (answer_tag y.0.1) ≡ true)) × (((answer_tag y.0.1 ≡ answer_tag y.0.1) × IsAnswerFor y.0.0 y.0.1) × (y ≡ named_made y.0.0 y.0.1))))
    (λ y. IsAnswerBehind before y.0 × (y.1 ≡ Some y.0.0))
    (text_next (sized_as (passing (is_name_behind before))) (λ name. u8_as (passing (is_below 3)) >>= λ tag. answer_behind name tag >>= λ a. Done (named_made name a)) string (λ s. HasRoom s × (is_name_behind before s ≡ true)) (λ y. answer_tag y.0.1 ∷ [] ++ answer_content y.0.1) (λ name y. ((answer_tag y.0.1 < 256) × (is_below 3 (answer_tag y.0.1) ≡ true)) × (((answer_tag y.0.1 ≡ answer_tag y.0.1) × IsAnswerFor name y.0.1) × (y ≡ named_made name y.0.1))) (λ y. y.0.0)
    (string_text (is_name_behind before)) tagged_law (λ name y g h. ap (λ (z : Named). z.0.0) h.1.1))
    (λ y h. (((h.0.0, h.0.1, h.1.1.0.1), ap (λ (z : Named). z.1) h.1.1.1), refl))
    (λ y h. (((h.0.0, h.0.1), (answer_tag_below y.0.1, ((refl, h.0.2), ap (λ (o : Option Name). let z : Named = (y.0, o) in z) h.1))), refl))

pub answer_list_law : IsText answer_list (counted answer_text) AreAnswers
unfolding answer_list
answer_list_law = counted_from answer answer_text IsAnswerBehind (λ before a. Some a.0) None answer_law
