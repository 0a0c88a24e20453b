-- How an argument is written, as the code tells it.
use Rattle.pj_xexpressions.specs.Expressions.{Written, Literal, Number, Name, Other}
use Rattle.pj_xpatterns.specs.declared.own.Form.{Form}
use Rattle.pj_xpatterns.specs.declared.own.Form.TheVariants as form

abbrev pub written_as_form : Form → Written
written_as_form (form.Literal text) = Literal text.now
written_as_form form.Number = Number
written_as_form (form.Name name) = Name name.now
written_as_form form.Other = Other
