use Rattle.std.proofs.Common.{◌+◌, ◌*◌, ◌<◌, drop, length}
use Rattle.pj_names.specs.Asking.{each, first_hit}
use Rattle.pj_names.proofs.AskingLaws.{ComesTo}
use Rattle.pj_names.specs.JavaType.{java_type, type_list}
use Rattle.pj_names.proofs.MeaningLaws.{gather}
use Rattle.pj_type_names.specs.Searching as resolution
use Rattle.pj_outer_names.specs.Candidates.{file_classes}
use Rattle.pj_outer_names.specs.Around.{searched}
use Rattle.pj_outer_names.specs.Inherited.{member_in}
use Rattle.pj_outer_names.specs.NameWalks.{left_out}
use Rattle.pj_outer_names.proofs.NameTurns.{to_come}
use Rattle.pj_type_names.proofs.resolve.+resolving.Given as goal

-- A header within a header counts 7,000 less; within one of them a bound counts 3,000, and a list of type arguments 10.

abbrev pub decreases-direct_supertypes : goal.decreases-direct_supertypes
decreases-direct_supertypes g l = 7000 * l.stage.now.left + 2

abbrev pub decreases-supertypes_by : goal.decreases-supertypes_by
decreases-supertypes_by g l = 7000 * l.stage.now.left + 1

abbrev pub decreases-of_file : goal.decreases-of_file
decreases-of_file g l = 7000 * l.stage.now.left

abbrev pub decreases-header_supertypes : goal.decreases-header_supertypes
decreases-header_supertypes g l = 7000 * l.stage.now.left + 6003

abbrev pub decreases-header_bounds : goal.decreases-header_bounds
decreases-header_bounds g l = 7000 * l.stage.now.left + 6001

abbrev pub decreases-header_names : goal.decreases-header_names
decreases-header_names g l = 7000 * l.stage.now.left + 6002

abbrev pub decreases-header_types : goal.decreases-header_types
decreases-header_types g l = 7000 * l.stage.now.left + 6001

abbrev pub decreases-types_of : goal.decreases-types_of
decreases-types_of g l = 7000 * l.stage.now.left + 3000 * l.stage.now.bounds + 2601

abbrev pub decreases-first_member : goal.decreases-first_member
decreases-first_member g l = 7000 * l.stage.now.left + 3

abbrev pub decreases-member_type : goal.decreases-member_type
decreases-member_type g l = 7000 * l.stage.now.left + 4

abbrev pub decreases-inherited : goal.decreases-inherited
decreases-inherited g l = 7000 * l.stage.now.left + 4

abbrev pub decreases-bound_type : goal.decreases-bound_type
decreases-bound_type g l = 7000 * l.stage.now.left + 3000 * l.stage.now.bounds + 10

abbrev pub decreases-variable_by : goal.decreases-variable_by
decreases-variable_by g l = 7000 * l.stage.now.left + 3000 * l.stage.now.bounds + 11

abbrev pub decreases-variable : goal.decreases-variable
decreases-variable g l = 7000 * l.stage.now.left + 3000 * l.stage.now.bounds + 12

abbrev pub decreases-declared_type : goal.decreases-declared_type
decreases-declared_type g l = 7000 * l.stage.now.left + 3000 * l.stage.now.bounds + 13

abbrev pub decreases-declared_or : goal.decreases-declared_or
decreases-declared_or g l = 7000 * l.stage.now.left + 3000 * l.stage.now.bounds + 14

abbrev pub decreases-found_or : goal.decreases-found_or
decreases-found_or g l = 7000 * l.stage.now.left + 3000 * l.stage.now.bounds + 15

abbrev pub decreases-simple_name : goal.decreases-simple_name
decreases-simple_name g l = 7000 * l.stage.now.left + 3000 * l.stage.now.bounds + 16

abbrev pub decreases-first_inherited : goal.decreases-first_inherited
decreases-first_inherited g l = 7000 * l.stage.now.left + 5

abbrev pub decreases-member_of : goal.decreases-member_of
decreases-member_of g l = 7000 * l.stage.now.left + 5

abbrev pub decreases-members_along : goal.decreases-members_along
decreases-members_along g l = 7000 * l.stage.now.left + 6

abbrev pub decreases-class_along : goal.decreases-class_along
decreases-class_along g l = 7000 * l.stage.now.left + 3000 * l.stage.now.bounds + 17

abbrev pub decreases-class_of : goal.decreases-class_of
decreases-class_of g l = 7000 * l.stage.now.left + 3000 * l.stage.now.bounds + 18

abbrev pub decreases-argument : goal.decreases-argument
decreases-argument g l = 7000 * l.stage.now.left + 3000 * l.stage.now.bounds + 10 * l.deep + 20

abbrev pub decreases-argument_by : goal.decreases-argument_by
decreases-argument_by g l = 7000 * l.stage.now.left + 3000 * l.stage.now.bounds + 10 * l.deep + 29

abbrev pub decreases-type_by : goal.decreases-type_by
decreases-type_by g l = 7000 * l.stage.now.left + 3000 * l.stage.now.bounds + 10 * l.deep + 28

abbrev pub decreases-bare_type : goal.decreases-bare_type
decreases-bare_type g l = 7000 * l.stage.now.left + 3000 * l.stage.now.bounds + 10 * l.deep + 27

abbrev pub decreases-class_type : goal.decreases-class_type
decreases-class_type g l = 7000 * l.stage.now.left + 3000 * l.stage.now.bounds + 10 * l.deep + 26

abbrev pub decreases-with_arguments : goal.decreases-with_arguments
decreases-with_arguments g l = 7000 * l.stage.now.left + 3000 * l.stage.now.bounds + 10 * l.deep + 25

abbrev pub decreases-arguments : goal.decreases-arguments
decreases-arguments g l = 7000 * l.stage.now.left + 3000 * l.stage.now.bounds + 10 * l.deep + 24

abbrev pub decreases-listed_arguments : goal.decreases-listed_arguments
decreases-listed_arguments g l = 7000 * l.stage.now.left + 3000 * l.stage.now.bounds + 10 * l.deep + 23

abbrev pub decreases-argument_types : goal.decreases-argument_types
decreases-argument_types g l = 7000 * l.stage.now.left + 3000 * l.stage.now.bounds + 10 * l.deep + 22

abbrev pub decreases-class_written : goal.decreases-class_written
decreases-class_written g l = 7000 * l.stage.now.left + 3000 * l.stage.now.bounds + 19

abbrev pub decreases-type_written : goal.decreases-type_written
decreases-type_written g l = 7000 * l.stage.now.left + 3000 * l.stage.now.bounds + 2600

-- ---- loops

abbrev pub invariant-types_of-loop-n : goal.invariant-types_of-loop-n
invariant-types_of-loop-n g l =
    ComesTo (each (resolution.type_written l.fn.stage.file.now l.fn.stage.left l.fn.stage.busy.now l.fn.stage.bounds l.fn.around 0) l.fn.nodes) (g.O.Oracle.tells l.fn.oracle)
    (gather (resolution.type_written l.stage.file.now l.stage.left l.stage.busy.now l.stage.bounds l.around 0) (type_list l.types) (drop l.n-index l.nodes)) (g.O.Oracle.tells l.oracle)

abbrev pub invariant-argument_types-loop-n : goal.invariant-argument_types-loop-n
invariant-argument_types-loop-n g l =
    ComesTo (each (resolution.argument l.fn.stage.file.now l.fn.stage.left l.fn.stage.busy.now l.fn.stage.bounds l.fn.deep) l.fn.list) (g.O.Oracle.tells l.fn.oracle)
    (gather (resolution.argument l.stage.file.now l.stage.left l.stage.busy.now l.stage.bounds l.deep) (type_list l.types) (drop l.n-index l.list)) (g.O.Oracle.tells l.oracle)

abbrev pub invariant-members_along-loop-part : goal.invariant-members_along-loop-part
invariant-members_along-loop-part g l =
    ComesTo (resolution.members_along l.fn.stage.file.now l.fn.stage.left l.fn.stage.busy.now l.fn.stage.bounds (java_type l.fn.ty) l.fn.parts) (g.O.Oracle.tells l.fn.oracle)
    (resolution.members_along l.stage.file.now l.stage.left l.stage.busy.now l.stage.bounds (java_type l.ty) (drop l.part-index l.parts)) (g.O.Oracle.tells l.oracle)

abbrev pub invariant-first_member-loop-class : goal.invariant-first_member-loop-class
invariant-first_member-loop-class g l =
    ComesTo (resolution.first_member l.fn.stage.file.now l.fn.stage.left l.fn.stage.busy.now l.fn.own_counts l.fn.class l.fn.simple) (g.O.Oracle.tells l.fn.oracle)
    (to_come (member_in (file_classes l.stage.file.now) (left_out l.own_counts l.class) l.simple) (resolution.supers l.stage.file.now l.stage.left l.stage.busy.now) l._class l.walk) (g.O.Oracle.tells l.oracle)

abbrev pub invariant-first_inherited-loop-class : goal.invariant-first_inherited-loop-class
invariant-first_inherited-loop-class g l = record {
  comes : ComesTo (first_hit (resolution.inherited l.fn.stage.file.now l.fn.stage.left l.fn.stage.busy.now l.fn.simple) (searched l.fn.stage.file.now l.fn.place l.fn.found)) (g.O.Oracle.tells l.fn.oracle)
      (first_hit (resolution.inherited l.stage.file.now l.stage.left l.stage.busy.now l.simple) (searched l.stage.file.now l.inside l.found)) (g.O.Oracle.tells l.oracle);
  inside : l.inside.0 < length l.stage.file.now.nodes;
}

abbrev pub decreases-first_inherited-loop-class : goal.decreases-first_inherited-loop-class
decreases-first_inherited-loop-class g l = l.inside.0
