-- The texts of a rule: those that an element `rule` defines, and those that a reference changes.
use Rattle.std.specs.Prelude.{⊤, ◌≡◌, ℕ, ◌&&◌, ◌||◌, Bool, true, false, List, [], ◌∷◌, Option, Some, None, Result, Ok, Err, codes, is_some, unwrap_or, if◌then◌else◌}
use Rattle.pj_names.specs.declared.rule_row.RuleRow.{RuleRow}
use Rattle.pj_rule_texts.specs.Values.{Text, is_same, is_xpath, needs_no_type, normalized, priority_of, typed_value}
use Rattle.pj_rule_texts.specs.Written.{or_else}
use Rattle.pj_rule_texts.specs.declared.properties.Property.{Property}
use Rattle.pj_rule_texts.specs.declared.draft.Draft.{Draft}
use Rattle.pj_rule_texts.specs.declared.rule.RuleTexts.{RuleTexts}
use Rattle.pj_rule_texts.specs.declared.fault.TextFault.{TextFault}
use Rattle.pj_rule_texts.specs.declared.fault.TextFault.TheVariants.{BadPriority, BadProperty, NoXPath, Memory}
use Rattle.pj_rule_texts.specs.declared.written.Piece.{Piece}
use Rattle.pj_rule_texts.specs.declared.written.Piece.TheVariants as piece
use Rattle.pj_rule_texts.specs.declared.written.WrittenRule.{WrittenRule}

-- what a call answers whose meaning is a value or a fault; want of memory has no cause in the texts
abbrev pub Answers : {A : Type 0} → Result A TextFault → Result A TextFault → Type 0
Answers meaning (Ok value) = meaning ≡ Ok value
Answers meaning (Err Memory) = ⊤
Answers meaning (Err BadPriority) = meaning ≡ Err BadPriority
Answers meaning (Err BadProperty) = meaning ≡ Err BadProperty
Answers meaning (Err NoXPath) = meaning ≡ Err NoXPath

-- ---- which rules can be used

abbrev pub is_java : Option Text → Bool
is_java None = true
is_java (Some language) = is_same language (codes "java")

abbrev pub is_xpath_class : Option Text → Bool
is_xpath_class None = false
is_xpath_class (Some class) = is_same class (codes "net.sourceforge.pmd.lang.rule.xpath.XPathRule") || is_same class (codes "net.sourceforge.pmd.lang.rule.XPathRule")

abbrev pub is_xpath_rule : WrittenRule → Bool
is_xpath_rule rule = is_java rule.language && is_xpath_class rule.class

-- ---- properties: of two of one name the first gives the place, and the last the type and the value

abbrev pub put_property : List Property → Property → List Property
put_property [] property = property ∷ []
put_property (other ∷ rest) property = if is_same property.name other.name then record property { name = other.name } ∷ rest else other ∷ put_property rest property

-- each of them is put, one after the other
abbrev pub put_properties : List Property → List Property → List Property
put_properties before [] = before
put_properties before (property ∷ properties) = put_properties (put_property before property) properties

abbrev pub kind_of : List Property → Text → Option Text
kind_of [] name = None
kind_of (property ∷ rest) name = if is_same name property.name then Some property.kind else kind_of rest name

-- ---- what is read of a rule so far: the first priority, the last `xpath`, and the other properties

abbrev pub with_priority : Draft → Option ℕ → Result Draft TextFault
with_priority draft None = Err BadPriority
with_priority draft (Some priority) = Ok (record draft { priority = Some priority })

-- of several priorities the first counts, and the others are not looked at
abbrev pub first_priority : Option ℕ → Draft → Text → Result Draft TextFault
first_priority (Some earlier) draft text = Ok draft
first_priority None draft text = with_priority draft (priority_of text)

abbrev pub with_property : Draft → Property → Draft
with_property draft property = if is_xpath property.name then record draft { xpath = Some property.value }
    else record draft { properties = put_property draft.properties property }

-- a property that needs a type has one, and a value in it
abbrev pub typed_property : Draft → Text → Option Text → Text → Result Draft TextFault
typed_property draft name None value = Err BadProperty
typed_property draft name (Some kind) value =
    if is_some (typed_value kind value) then Ok (with_property draft (record { name = name; kind = kind; value = value })) else Err BadProperty

abbrev pub any_property : Draft → Text → Option Text → Text → Draft
any_property draft name kind value = with_property draft (record { name = name; kind = unwrap_or kind []; value = value })

abbrev pub named_property : Draft → Text → Option Text → Text → Result Draft TextFault
named_property draft name kind value =
    if needs_no_type name then Ok (any_property draft name kind value) else typed_property draft name kind value

-- The type of a property: in a definition the one that is written; in a reference the one that the rule declares, and only a property that needs no
-- type may be one that the rule does not declare.
abbrev pub kind_for : Bool → Draft → Text → Option Text → Option Text
kind_for false draft name written = written
kind_for true draft name written = or_else (kind_of draft.properties name) (if needs_no_type name then written else None)

abbrev pub with_written : Bool → Draft → Option Text → Option Text → Option Text → Result Draft TextFault
with_written is_reference draft (Some name) kind (Some value) = named_property draft name (kind_for is_reference draft name kind) value
with_written is_reference draft _ _ _ = Err BadProperty

abbrev pub with_piece : Bool → Draft → Piece → Result Draft TextFault
with_piece is_reference draft (piece.Priority text) = first_priority draft.priority draft text
with_piece is_reference draft (piece.Property property) = with_written is_reference draft property.name property.kind property.value

module _ {A B : Type 0} where
  -- the first fault is the answer
  abbrev pub and_then : Result A TextFault → (A → Result B TextFault) → Result B TextFault
  and_then (Ok value) next = next value
  and_then (Err fault) next = Err fault

-- the pieces are judged in the order of the text
abbrev pub with_pieces : Bool → Draft → List Piece → Result Draft TextFault
with_pieces is_reference draft [] = Ok draft
with_pieces is_reference draft (piece ∷ pieces) = and_then (with_piece is_reference draft piece) (λ next. with_pieces is_reference next pieces)

abbrev pub message_or : Text → Option Text → Text
message_or absent None = absent
message_or absent (Some message) = normalized message

-- the rule of a name, ruleset, message and priority that the draft makes
abbrev pub with_xpath : RuleRow → Option Text → List Property → Result RuleTexts TextFault
with_xpath row None properties = Err NoXPath
with_xpath row (Some xpath) properties = Ok (record { row = row; xpath = xpath; properties = properties })

abbrev pub nothing_read : Draft
nothing_read = record { priority = None; xpath = None; properties = [] }

-- The rule of this name that an element of the ruleset defines, or its first fault. A priority that is absent is 5.
abbrev pub defined : Text → Text → WrittenRule → Result RuleTexts TextFault
defined rule_set name rule = and_then (with_pieces false nothing_read rule.pieces) (λ draft.
    with_xpath (record { name = name; message = message_or [] rule.message; priority = unwrap_or draft.priority 5; rule_set = rule_set }) draft.xpath draft.properties)

abbrev pub draft_of : RuleTexts → Draft
draft_of texts = record { priority = None; xpath = Some texts.xpath; properties = put_properties [] texts.properties }

-- the name that the rule has behind the reference
abbrev pub new_name : RuleTexts → WrittenRule → Text
new_name texts rule = unwrap_or rule.name texts.row.name

-- the row with what the reference writes in the place of the rule's own; its rule set stays
abbrev pub changed_row : RuleRow → Option Text → Option Text → Option ℕ → RuleRow
changed_row own name message priority = record { name = unwrap_or name own.name; message = message_or own.message message; priority = unwrap_or priority own.priority; rule_set = own.rule_set }

-- The rule with the name, message, priority and values that the reference writes, or its first fault.
abbrev pub overridden : RuleTexts → WrittenRule → Result RuleTexts TextFault
overridden texts rule = and_then (with_pieces true (draft_of texts) rule.pieces) (λ draft.
    with_xpath (changed_row texts.row rule.name rule.message draft.priority) draft.xpath draft.properties)
