-- The texts of rules that are defined or changed are short, and want of memory is no fault of them.
use Rattle.std.proofs.Common.{ℕ, Bool, true, false, cond, List, [], ◌∷◌, Option, Some, None, Result, Ok, Err}
use Rattle.std.specs.Prelude.{⊤, is_some, unwrap_or}
use Rattle.pj_names.specs.declared.rule_row.RuleRow.{RuleRow}
use Rattle.pj_rule_texts.specs.Rules.{and_then, any_property, changed_row, defined, draft_of, first_priority, kind_for, message_or, named_property, nothing_read, overridden, put_properties, put_property, typed_property, with_piece, with_pieces, with_priority, with_property, with_written, with_xpath}
use Rattle.pj_rule_texts.specs.Values.{Text, is_same, is_xpath, needs_no_type, priority_of, typed_value}
use Rattle.pj_rule_texts.specs.declared.draft.Draft.{Draft}
use Rattle.pj_rule_texts.specs.declared.fault.TextFault.{TextFault}
use Rattle.pj_rule_texts.specs.declared.fault.TextFault.TheVariants.{BadPriority, BadProperty, NoXPath, Memory}
use Rattle.pj_rule_texts.specs.declared.properties.Property.{Property}
use Rattle.pj_rule_texts.specs.declared.rule.RuleTexts.{RuleTexts}
use Rattle.pj_rule_texts.specs.declared.written.Piece.{Piece}
use Rattle.pj_rule_texts.specs.declared.written.Piece.TheVariants as piece
use Rattle.pj_rule_texts.specs.declared.written.WrittenRule.{WrittenRule}
use Rattle.pj_rule_laws.specs.Sizes.{IsShort, IsShortOr, IsShortPiece, AreShortPieces, AreShortProperties, HasShortTexts}

-- a fact of the value, or a fault of the texts
abbrev pub Gives : {A : Type 0} → (A → Type 0) → Result A TextFault → Type 0
Gives P (Ok value) = P value
Gives P (Err BadPriority) = ⊤
Gives P (Err BadProperty) = ⊤
Gives P (Err NoXPath) = ⊤
Gives P (Err Memory) = ⊥

-- what is read of a rule so far is short
record Drafted (draft : Draft) : Type 0 where
  xpath : IsShortOr draft.xpath
  properties : AreShortProperties draft.properties

then_gives : {A B : Type 0} (P : A → Type 0) (Q : B → Type 0) (r : Result A TextFault) (next : A → Result B TextFault) → Gives P r → ((value : A) → P value → Gives Q (next value)) → Gives Q (and_then r next)
then_gives P Q (Ok value) next h f = f value h
then_gives P Q (Err BadPriority) next h f = tt
then_gives P Q (Err BadProperty) next h f = tt
then_gives P Q (Err NoXPath) next h f = tt
then_gives P Q (Err Memory) next h f = absurd h

-- ---- properties

put_short : (properties : List Property) (property : Property) → AreShortProperties properties → IsShort property.value → AreShortProperties (put_property properties property)
put_short [] property h short = (short, tt)
put_short (other ∷ rest) property h short = by (is_same property.name other.name) (put_short rest property h.1 short)
  where
    by : (b : Bool) → AreShortProperties (put_property rest property) → AreShortProperties (cond b (record property { name = other.name } ∷ rest) (other ∷ put_property rest property))
    by true more = (short, h.1)
    by false more = (h.0, more)

put_all_short : (before properties : List Property) → AreShortProperties before → AreShortProperties properties → AreShortProperties (put_properties before properties)
put_all_short before [] h k = h
put_all_short before (property ∷ properties) h k = put_all_short (put_property before property) properties (put_short before property h k.0) k.1

with_short : (draft : Draft) (property : Property) → Drafted draft → IsShort property.value → Drafted (with_property draft property)
with_short draft property h short = by (is_xpath property.name)
  where
    by : (b : Bool) → Drafted (cond b (record draft { xpath = Some property.value }) (record draft { properties = put_property draft.properties property }))
    by true = record { xpath = short; properties = h.properties }
    by false = record { xpath = h.xpath; properties = put_short draft.properties property h.properties short }

typed_short : (draft : Draft) (name : Text) (kind : Option Text) (value : Text) → Drafted draft → IsShort value → Gives Drafted (typed_property draft name kind value)
typed_short draft name None value h short = tt
typed_short draft name (Some kind) value h short = by (is_some (typed_value kind value))
  where
    by : (b : Bool) → Gives Drafted (cond b (Ok (with_property draft (record { name = name; kind = kind; value = value }))) (Err BadProperty))
    by true = with_short draft (record { name = name; kind = kind; value = value }) h short
    by false = tt

named_short : (draft : Draft) (name : Text) (kind : Option Text) (value : Text) → Drafted draft → IsShort value → Gives Drafted (named_property draft name kind value)
named_short draft name kind value h short = by (needs_no_type name)
  where
    by : (b : Bool) → Gives Drafted (cond b (Ok (any_property draft name kind value)) (typed_property draft name kind value))
    by true = with_short draft (record { name = name; kind = unwrap_or kind []; value = value }) h short
    by false = typed_short draft name kind value h short

written_short : (is_reference : Bool) (draft : Draft) (name kind value : Option Text) → Drafted draft → IsShortOr value → Gives Drafted (with_written is_reference draft name kind value)
written_short is_reference draft (Some name) kind (Some value) h short = named_short draft name (kind_for is_reference draft name kind) value h short
written_short is_reference draft (Some name) kind None h short = tt
written_short is_reference draft None kind value h short = tt

-- ---- pieces

priority_short : (priority : Option ℕ) (draft : Draft) → Drafted draft → Gives Drafted (with_priority draft priority)
priority_short None draft h = tt
priority_short (Some priority) draft h = record { xpath = h.xpath; properties = h.properties }

first_priority_short : (earlier : Option ℕ) (draft : Draft) (text : Text) → Drafted draft → Gives Drafted (first_priority earlier draft text)
first_priority_short (Some earlier) draft text h = h
first_priority_short None draft text h = priority_short (priority_of text) draft h

piece_short : (is_reference : Bool) (draft : Draft) (p : Piece) → Drafted draft → IsShortPiece p → Gives Drafted (with_piece is_reference draft p)
piece_short is_reference draft (piece.Priority text) h short = first_priority_short draft.priority draft text h
piece_short is_reference draft (piece.Property property) h short = written_short is_reference draft property.name property.kind property.value h short

pieces_short : (is_reference : Bool) (draft : Draft) (pieces : List Piece) → Drafted draft → AreShortPieces pieces → Gives Drafted (with_pieces is_reference draft pieces)
pieces_short is_reference draft [] h short = h
pieces_short is_reference draft (p ∷ pieces) h short =
    then_gives Drafted Drafted (with_piece is_reference draft p) (λ next. with_pieces is_reference next pieces) (piece_short is_reference draft p h short.0)
    (λ next k. pieces_short is_reference next pieces k short.1)

-- ---- rules

xpath_short : (row : RuleRow) (xpath : Option Text) (properties : List Property) → IsShortOr xpath → AreShortProperties properties → Gives HasShortTexts (with_xpath row xpath properties)
xpath_short row None properties h k = tt
xpath_short row (Some xpath) properties h k = record { xpath = h; properties = k }

pub defined_short : (rule_set name : Text) (rule : WrittenRule) → AreShortPieces rule.pieces → Gives HasShortTexts (defined rule_set name rule)
defined_short rule_set name rule short =
    then_gives Drafted HasShortTexts (with_pieces false nothing_read rule.pieces)
    (λ draft. with_xpath (record { name = name; message = message_or [] rule.message; priority = unwrap_or draft.priority 5; rule_set = rule_set }) draft.xpath draft.properties)
    (pieces_short false nothing_read rule.pieces (record { xpath = tt; properties = tt }) short)
    (λ draft h. xpath_short (record { name = name; message = message_or [] rule.message; priority = unwrap_or draft.priority 5; rule_set = rule_set }) draft.xpath draft.properties h.xpath h.properties)

pub overridden_short : (old : RuleTexts) (rule : WrittenRule) → HasShortTexts old → AreShortPieces rule.pieces → Gives HasShortTexts (overridden old rule)
overridden_short old rule h short =
    then_gives Drafted HasShortTexts (with_pieces true (draft_of old) rule.pieces)
    (λ draft. with_xpath (changed_row old.row rule.name rule.message draft.priority) draft.xpath draft.properties)
    (pieces_short true (draft_of old) rule.pieces (record { xpath = h.xpath; properties = put_all_short [] old.properties tt h.properties }) short)
    (λ draft k. xpath_short (changed_row old.row rule.name rule.message draft.priority) draft.xpath draft.properties k.xpath k.properties)
