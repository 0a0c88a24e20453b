-- What stands behind a construct of markup is no longer than the text that begins with it.
use Rattle.std.proofs.Common.{◌≡◌, ◌+◌, ◌*◌, ◌≤◌, ◌<◌, ℕ, Bool, List, ◌++◌, length, ap, arith, length-append}
use Rattle.std.specs.Prelude.{encode_utf8}
use Rattle.pj_markup.specs.Markup.{Spaces, NameTail, Name, UpTo, Comment, Instruction, Section, Miscs, Digits, Number, Ref, Value, Attr, EndTag, Mark}
use Rattle.pj_rule_laws.proofs.Lengths.{four_bytes}

pub behind_spaces : {text behind : List ℕ} → Spaces text behind → length behind ≤ length text
behind_spaces Spaces.none = omega arith
behind_spaces (Spaces.space is rest) = let more = behind_spaces rest in omega (arith, more)

behind_tail : {begun text name behind : List ℕ} → NameTail begun text name behind → length behind ≤ length text
behind_tail NameTail.ended = omega arith
behind_tail (NameTail.further is rest) = let more = behind_tail rest in omega (arith, more)

pub behind_name : {text name behind : List ℕ} → Name text name behind → length behind ≤ length text
behind_name (Name.named is rest) = let more = behind_tail rest in omega (arith, more)

-- what stands before a closing sign, and what stands behind it
around_sign : (sign : List ℕ) {text body behind : List ℕ} → UpTo sign text body behind → length body + length behind ≤ length text
around_sign sign (UpTo.closed {text = text} {behind = behind} is) =
    let whole : length text ≡ length (sign ++ behind) = ap length is in let parts = length-append sign behind in omega (arith, whole, parts)
around_sign sign (UpTo.inside is rest) = let more = around_sign sign rest in omega (arith, more)

pub behind_comment : {text behind : List ℕ} → Comment text behind → length behind ≤ length text
behind_comment (Comment.comment rest) = let more = around_sign _ rest in omega (arith, more)

pub behind_instruction : {text behind : List ℕ} → Instruction text behind → length behind ≤ length text
behind_instruction (Instruction.instruction rest) = let more = around_sign _ rest in omega (arith, more)

pub around_section : {text body behind : List ℕ} → Section text body behind → length body + length behind ≤ length text
around_section (Section.section rest) = let more = around_sign _ rest in omega (arith, more)

pub behind_miscs : {text behind : List ℕ} → Miscs text behind → length behind ≤ length text
behind_miscs Miscs.none = omega arith
behind_miscs (Miscs.space is rest) = let more = behind_miscs rest in omega (arith, more)
behind_miscs (Miscs.comment first rest) = let some = behind_comment first in let more = behind_miscs rest in omega (arith, some, more)
behind_miscs (Miscs.instruction first rest) = let some = behind_instruction first in let more = behind_miscs rest in omega (arith, some, more)

behind_digits : {hexadecimal : Bool} {before number : ℕ} {text behind : List ℕ} → Digits hexadecimal before text number behind → length behind ≤ length text
behind_digits Digits.ended = omega arith
behind_digits (Digits.further is fits rest) = let more = behind_digits rest in omega (arith, more)

behind_number : {hexadecimal : Bool} {number : ℕ} {text behind : List ℕ} → Number hexadecimal text number behind → length behind ≤ length text
behind_number (Number.number is rest scalar) = let more = behind_digits rest in omega (arith, more)

pub behind_reference : {c : ℕ} {text behind : List ℕ} → Ref text c behind → length behind < length text
behind_reference Ref.less = omega arith
behind_reference Ref.greater = omega arith
behind_reference Ref.ampersand = omega arith
behind_reference Ref.quote = omega arith
behind_reference Ref.apostrophe = omega arith
behind_reference (Ref.decimal rest) = let more = behind_number rest in omega (arith, more)
behind_reference (Ref.hexadecimal rest) = let more = behind_number rest in omega (arith, more)

-- a text with one character more
pub one_more : (begun : List ℕ) (c : ℕ) → length (begun ++ encode_utf8 c) ≤ length begun + 4
one_more begun c = let parts = length-append begun (encode_utf8 c) in let four = four_bytes c in omega (arith, parts, four)

-- a value takes four bytes for each character at most
around_value : {quote : ℕ} {begun text value behind : List ℕ} → Value quote begun text value behind → length value + 4 * length behind ≤ length begun + 4 * length text
around_value Value.ended = omega arith
around_value (Value.character {c = c} {begun = begun} a b d rest) = let more = around_value rest in let one = one_more begun c in omega (arith, more, one)
around_value (Value.reference {c = c} {begun = begun} first rest) =
    let some = behind_reference first in let more = around_value rest in let one = one_more begun c in omega (arith, some, more, one)

pub around_attribute : {text name value behind : List ℕ} → Attr text name value behind → length value + 4 * length behind ≤ 4 * length text
around_attribute (Attr.attr name first second is value) =
    let a = behind_name name in let b = behind_spaces first in let c = behind_spaces second in let d = around_value value in omega (arith, a, b, c, d)

pub behind_end : {name text behind : List ℕ} → EndTag name text behind → length behind ≤ length text
behind_end (EndTag.end_tag {name = name} {text = text} {spaces = spaces} is rest) =
    let whole : length text ≡ length (name ++ spaces) = ap length is in
    let parts = length-append name spaces in let more = behind_spaces rest in omega (arith, whole, parts, more)

pub behind_mark : {text behind : List ℕ} → Mark text behind → length behind ≤ length text
behind_mark Mark.none = omega arith
behind_mark Mark.mark = omega arith
