-- Answers about classes in a cache, in both formats.
use Rattle.std.specs.Prelude.{ℕ, Bool, ◌==◌, ◌&&◌, List, Option, Some, None, nat_lt, cond}
use Rattle.std.specs.Str.{is_utf8}
use Rattle.pj_format.specs.Format.{Format, Done, ◌>>=◌}
use Rattle.pj_format.specs.Fields.{u8, u8_as, u16, u32, sized_as, several, several_from}
use Rattle.pj_names.specs.declared.answer.Answer.{Answer}
use Rattle.pj_names.specs.declared.answer.Answer.TheVariants as answers
use Rattle.pj_names.specs.declared.answer.Broken.{Broken}
use Rattle.pj_names.specs.declared.answer.Broken.TheVariants as broken
use Rattle.pj_names.specs.declared.answer.Member.{Member}
use Rattle.pj_names.specs.ClassName.{Name, is_class_name}
use Rattle.pj_cache.specs.Places.{byte_order}
use Rattle.pj_cache_format.specs.Judges.{is_behind, passing, text, is_below}

-- a field or a method
unfoldable pub member : Format Member
member = do
  flags ← u16
  name ← text
  signature ← text
  Done (record { flags = flags; name = name; signature = signature })

unfoldable pub members : Format (List Member)
members = u32 >>= λ count. several member count

-- a class of this name
unfoldable pub found : Name → Format Answer
found name = do
  flags ← u16
  signature ← text
  fields ← members
  methods ← members
  Done (answers.Found (record { name = name; flags = flags; signature = signature; fields = fields; methods = methods }))

-- a fault of the bytes of a class file
unfoldable pub class_fault : Format Broken
class_fault = do
  kind ← u8
  offset ← u32
  Done (broken.Class (record { kind = kind; offset = offset }))

-- byte 1, and the fault; byte 2, another name; byte 3, too long
abbrev pub is_broken_tag : ℕ → Bool
is_broken_tag tag = nat_lt 0 tag && nat_lt tag 4

abbrev pub broken_behind : ℕ → Format Broken
broken_behind tag = cond (tag == 1) class_fault (cond (tag == 2) (Done broken.OtherName) (Done broken.TooLong))

unfoldable pub broken_class : Format Answer
broken_class = do
  tag ← u8_as (passing is_broken_tag)
  what ← broken_behind tag
  Done (answers.Broken what)

-- byte 0, no class; byte 1, a class; byte 2, one that is not readable
abbrev pub answer_behind : Name → ℕ → Format Answer
answer_behind name tag = cond (tag == 0) (Done answers.Absent) (cond (tag == 1) (found name) broken_class)

-- a name behind another one
abbrev pub is_name_behind : Option Name → Name → Bool
is_name_behind before name = is_utf8 name && (is_class_name name && is_behind byte_order before name)

-- an answer, with its name, behind that of another name
unfoldable pub answer : Option Name → Format ((Name × Answer) × Option Name)
answer before = do
  name ← sized_as (passing (is_name_behind before))
  tag ← u8_as (passing (is_below 3))
  answer ← answer_behind name tag
  Done ((name, answer), Some name)

-- the answers by strictly ascending name
unfoldable pub answer_list : Format (List (Name × Answer))
answer_list = u32 >>= λ count. several_from answer count None
