-- One answer that is read.
use Rattle.std.proofs.Common.{◌≡◌, ℕ, true, List, Option, Some, Result, Ok, ap, ◌∙◌, sym}
use Rattle.pj_format.specs.declared.fault.Fault.{Fault}
use Rattle.pj_format.specs.Format.{first}
use Rattle.pj_format.specs.Fields.{sized, u8}
use Rattle.pj_format.proofs.Laws.{reads}
use Rattle.pj_names.specs.declared.answer.Answer.{Answer}
use Rattle.pj_names.specs.ClassName.{Name}
use Rattle.pj_cache_format.specs.Judges.{is_below}
use Rattle.pj_cache_format.specs.Answers.{answer, answer_behind, is_name_behind}

abbrev Read : Type 0
Read = Result (((Name × Answer) × Option Name) × ℕ) Fault

one_answer : (before : Option Name) (bytes found : List ℕ) (at tag_at tag behind end : ℕ) (a : Answer) → first sized bytes at ≡ Ok (found, tag_at) → is_name_behind before found ≡ true → first u8 bytes tag_at ≡ Ok (tag, behind) → is_below 3 tag ≡ true
    → first (answer_behind found tag) bytes behind ≡ Ok (a, end) → first (answer before) bytes at ≡ Ok (((found, a), Some found), end)
unfolding answer
one_answer before bytes found at tag_at tag behind end a field named tagged below rest = search (reads, field, named, tagged, below, rest)

pub one_read : (before : Option Name) (bytes found name text : List ℕ) (at tag_at tag behind end : ℕ) (a value : Answer) → first sized bytes at ≡ Ok (found, tag_at) → is_name_behind before found ≡ true → name ≡ found → text ≡ name → first u8 bytes tag_at ≡ Ok (tag, behind) → is_below 3 tag ≡ true
    → first (answer_behind name tag) bytes behind ≡ Ok (a, end) → value ≡ a → first (answer before) bytes at ≡ Ok (((text, value), Some found), end)
one_read before bytes found name text at tag_at tag behind end a value field named is seen tagged below rest valued =
    let there : first (answer_behind found tag) bytes behind ≡ Ok (a, end) = ap (λ (n : Name). first (answer_behind n tag) bytes behind) (sym is) ∙ rest in
    let name_is = sym is ∙ sym seen in
    let value_is = sym valued in
    one_answer before bytes found at tag_at tag behind end a field named tagged below there
    ∙ (λ i. let r : Read = Ok (((name_is i, value_is i), Some found), end) in r)
