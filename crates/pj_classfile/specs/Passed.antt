-- Texts that are judged once: which have passed, by their indices, and the text behind an index.
use Rattle.std.specs.Prelude.{◌≡◌, ℕ, Bool, true, false, List, [], Option, option_map, Result, Ok, Err}
use Rattle.std.specs.BTreeSet.{contains}
use Rattle.std.specs.Ordering.{nat_cmp}
use Rattle.pj_classfile.specs.declared.passed.Passed.{Passed}
use Rattle.pj_classfile.specs.declared.member.MemberKind.{MemberKind}
use Rattle.pj_classfile.specs.declared.member.Judged.{Judged}
use Rattle.pj_classfile.specs.ClassFile.{Slot, text_in, holder_of, is_descriptor_of, is_signature_of}

-- whether the text behind an index has passed
abbrev pub has : Passed → ℕ → Bool
has passed at = contains nat_cmp passed.indices at

abbrev pub passes_if : (List ℕ → Bool) → Result (List ℕ) ℕ → Bool
passes_if test (Ok text) = test text
passes_if test (Err kind) = false

-- whether there is a text behind an index, which passes the test
abbrev pub passes_at : (List ℕ → Bool) → List Slot → ℕ → Bool
passes_at test pool at = passes_if test (text_in pool at)

-- all that have passed are texts that pass the test
abbrev pub ArePassed : (List ℕ → Bool) → List Slot → Passed → Type 0
ArePassed test pool passed = (at : ℕ) → has passed at ≡ true → passes_at test pool at ≡ true

-- all that have passed are descriptors and signatures of such members
abbrev pub AreJudged : MemberKind → List Slot → Judged → Type 0
AreJudged kind pool judged = ArePassed (is_descriptor_of kind) pool judged.descriptors × ArePassed (is_signature_of (holder_of kind)) pool judged.signatures

abbrev pub or_empty : Result (List ℕ) ℕ → List ℕ
or_empty (Ok text) = text
or_empty (Err kind) = []

-- the text behind an index, which is empty where there is none
abbrev pub text_at : List Slot → ℕ → List ℕ
text_at pool at = or_empty (text_in pool at)

-- a signature, if there is one, by its index, with a place
abbrev pub seen_at : List Slot → Option ℕ × ℕ → Option (List ℕ) × ℕ
seen_at pool found = (option_map (text_at pool) found.0, found.1)
