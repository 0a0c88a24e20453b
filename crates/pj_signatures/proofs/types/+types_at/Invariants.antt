use Rattle.std.proofs.Common.{◌≡◌, [], ◌*◌, ◌+◌, ◌≤◌, length, true}
use Rattle.std.specs.Str.{IsUtf8}
use Rattle.pj_names.specs.JavaType.{type_list}
use Rattle.pj_names.specs.ClassName.{is_class_name}
use Rattle.pj_signatures.specs.Types.{types}
use Rattle.pj_signatures.specs.Reading.{inside, many, not_at, begins, put, argument_at, suffix_at, extended}
use Rattle.pj_signatures.specs.Seen.{declared_of}
use Rattle.pj_signatures.proofs.types.+types_at.Given as goal

abbrev pub decreases-type_at : goal.decreases-type_at
decreases-type_at l = l.open_signs * 9 + 8

abbrev pub decreases-class_at : goal.decreases-class_at
decreases-class_at l = l.open_signs * 9 + 7

abbrev pub decreases-suffix_at : goal.decreases-suffix_at
decreases-suffix_at l = l.open_signs * 9 + 5

abbrev pub decreases-arguments_at : goal.decreases-arguments_at
decreases-arguments_at l = l.open_signs * 9 + 4

abbrev pub decreases-listed_at : goal.decreases-listed_at
decreases-listed_at l = l.open_signs * 9 + 3

abbrev pub decreases-argument_at : goal.decreases-argument_at
decreases-argument_at l = l.open_signs * 9 + 2

abbrev pub decreases-reference_inside : goal.decreases-reference_inside
decreases-reference_inside l = l.open_signs * 9 + 1

abbrev pub decreases-type_inside : goal.decreases-type_inside
decreases-type_inside l = l.open_signs * 9

abbrev pub invariant-listed_at-arguments : goal.invariant-listed_at-arguments
invariant-listed_at-arguments l =
    let make = types (declared_of l.declared) in
    let inner = inside make l.open_signs in
    record {
      value : many (not_at 62) (argument_at make inner) put [] l.text ≡ many (not_at 62) (argument_at make inner) put (type_list l.arguments) l.rest;
      utf8 : IsUtf8 l.rest;
      within : length l.rest ≤ length l.text;
    }

abbrev pub decreases-listed_at-arguments : goal.decreases-listed_at-arguments
decreases-listed_at-arguments l = length l.rest

abbrev pub decreases-members_at : goal.decreases-members_at
decreases-members_at l = l.open_signs * 9 + 6

abbrev pub invariant-members_at-suffixes : goal.invariant-members_at-suffixes
invariant-members_at-suffixes l =
    let make = types (declared_of l.declared) in
    let inner = inside make l.open_signs in
    record {
      value : many (begins 46) (suffix_at make l.open_signs inner) (extended make) (l.fn.outer, type_list l.fn.outer_arguments) l.text ≡ many (begins 46) (suffix_at make l.open_signs inner) (extended make) (l.name, type_list l.arguments) l.rest;
      utf8 : IsUtf8 l.rest;
      within : length l.rest ≤ length l.text;
      is_name : is_class_name l.name ≡ true;
    }

abbrev pub decreases-members_at-suffixes : goal.decreases-members_at-suffixes
decreases-members_at-suffixes l = length l.rest
