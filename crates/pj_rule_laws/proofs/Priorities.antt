-- The rules that files come to have priorities from 1 to 5.
use Rattle.std.proofs.Common.{◌≡◌, ℕ, Bool, true, false, cond, List, [], ◌∷◌, Option, Some, None, Result, Ok, Err, refl, sym, subst, arith}
use Rattle.std.specs.Prelude.{IfOk, IfSome, codes, is_some, unwrap_or}
use Rattle.std.specs.List.{AllByRecursion}
use Rattle.std.specs.Str.{bytes_eq}
use Rattle.pj_names.specs.declared.rule_row.RuleRow.{RuleRow}
use Rattle.pj_outside.specs.Files.{Files}
use Rattle.pj_rule_sets.specs.Rules.{EffectiveRule, EffectiveRules}
use Rattle.pj_rule_texts.specs.Rules.{and_then, any_property, defined, draft_of, first_priority, kind_for, named_property, nothing_read, overridden, put_property, typed_property, with_piece, with_pieces, with_priority, with_property, with_written, with_xpath}
use Rattle.pj_rule_texts.specs.Values.{Text, is_xpath, needs_no_type, normalized, priority_named, priority_of, typed_value}
use Rattle.pj_rule_texts.specs.declared.draft.Draft.{Draft}
use Rattle.pj_rule_texts.specs.declared.fault.TextFault.{TextFault}
use Rattle.pj_rule_texts.specs.declared.fault.TextFault.TheVariants.{BadProperty}
use Rattle.pj_rule_texts.specs.declared.properties.Property.{Property}
use Rattle.pj_rule_texts.specs.declared.rule.RuleTexts.{RuleTexts}
use Rattle.pj_rule_texts.specs.declared.written.Piece.{Piece}
use Rattle.pj_rule_texts.specs.declared.written.Piece.TheVariants as piece
use Rattle.pj_rule_texts.specs.declared.written.WrittenRule.{WrittenRule}
use Rattle.pj_rules.specs.Effective.{Changes, Defines}
use Rattle.pj_rules.specs.Load.{IsEffective}
use Rattle.pj_rule_laws.specs.Laws.{IsPriority}
use Rattle.pj_rule_laws.proofs.EachRule.{each_rule}

abbrev FitsTexts : RuleTexts → Type 0
FitsTexts texts = IsPriority texts.row.priority

abbrev FitsDraft : Draft → Type 0
FitsDraft draft = IfSome draft.priority IsPriority

-- ---- a priority that is read

or_else_fits : (b : Bool) (n : ℕ) (rest : Option ℕ) → IsPriority n → IfSome rest IsPriority → IfSome (cond {A = Option ℕ} b (Some n) rest) IsPriority
or_else_fits true n rest h k = h
or_else_fits false n rest h k = k

named_fits : (text : Text) → IfSome (priority_named text) IsPriority
named_fits text =
    or_else_fits (bytes_eq text (codes "1")) 1 _ (omega arith, omega arith)
    (or_else_fits (bytes_eq text (codes "2")) 2 _ (omega arith, omega arith)
    (or_else_fits (bytes_eq text (codes "3")) 3 _ (omega arith, omega arith)
    (or_else_fits (bytes_eq text (codes "4")) 4 _ (omega arith, omega arith)
    (or_else_fits (bytes_eq text (codes "5")) 5 None (omega arith, omega arith) tt))))

-- ---- pieces

priority_fits : (draft : Draft) (text : Text) → FitsDraft draft → (earlier : Option ℕ) → IfOk (first_priority earlier draft text) FitsDraft
priority_fits draft text h (Some earlier) = h
priority_fits draft text h None = from (priority_of text) (named_fits (normalized text))
  where
    from : (found : Option ℕ) → IfSome found IsPriority → IfOk (with_priority draft found) FitsDraft
    from None k = tt
    from (Some priority) k = k

property_fits : (draft : Draft) (property : Property) → FitsDraft draft → FitsDraft (with_property draft property)
property_fits draft property h = by (is_xpath property.name)
  where
    by : (b : Bool) → FitsDraft (cond b (record draft { xpath = Some property.value }) (record draft { properties = put_property draft.properties property }))
    by true = h
    by false = h

typed_fits : (draft : Draft) (name : Text) (kind : Option Text) (value : Text) → FitsDraft draft → IfOk (typed_property draft name kind value) FitsDraft
typed_fits draft name None value h = tt
typed_fits draft name (Some kind) value h = by (is_some (typed_value kind value))
  where
    by : (b : Bool) → IfOk (cond {A = Result Draft TextFault} b (Ok (with_property draft (record { name = name; kind = kind; value = value }))) (Err BadProperty)) FitsDraft
    by true = property_fits draft (record { name = name; kind = kind; value = value }) h
    by false = tt

one_property_fits : (draft : Draft) (name : Text) (kind : Option Text) (value : Text) → FitsDraft draft → IfOk (named_property draft name kind value) FitsDraft
one_property_fits draft name kind value h = by (needs_no_type name)
  where
    by : (b : Bool) → IfOk (cond {A = Result Draft TextFault} b (Ok (any_property draft name kind value)) (typed_property draft name kind value)) FitsDraft
    by true = property_fits draft (record { name = name; kind = unwrap_or kind []; value = value }) h
    by false = typed_fits draft name kind value h

written_fits : (is_reference : Bool) (draft : Draft) (name kind value : Option Text) → FitsDraft draft → IfOk (with_written is_reference draft name kind value) FitsDraft
written_fits is_reference draft (Some name) kind (Some value) h = one_property_fits draft name (kind_for is_reference draft name kind) value h
written_fits is_reference draft (Some name) kind None h = tt
written_fits is_reference draft None kind value h = tt

piece_fits : (is_reference : Bool) (draft : Draft) (p : Piece) → FitsDraft draft → IfOk (with_piece is_reference draft p) FitsDraft
piece_fits is_reference draft (piece.Priority text) h = priority_fits draft text h draft.priority
piece_fits is_reference draft (piece.Property property) h = written_fits is_reference draft property.name property.kind property.value h

pieces_fit : (is_reference : Bool) (draft : Draft) (pieces : List Piece) → FitsDraft draft → IfOk (with_pieces is_reference draft pieces) FitsDraft
pieces_fit is_reference draft [] h = h
pieces_fit is_reference draft (p ∷ pieces) h = behind (λ next k. pieces_fit is_reference next pieces k) (with_piece is_reference draft p) (piece_fits is_reference draft p h)
  where
    behind : ((next : Draft) → FitsDraft next → IfOk (with_pieces is_reference next pieces) FitsDraft) → (one : Result Draft TextFault) → IfOk one FitsDraft →
        IfOk (and_then one (λ next. with_pieces is_reference next pieces)) FitsDraft
    behind rest (Ok next) k = rest next k
    behind rest (Err fault) k = tt

-- ---- rules

xpath_fits : (row : RuleRow) (xpath : Option Text) (properties : List Property) → IsPriority row.priority → IfOk (with_xpath row xpath properties) FitsTexts
xpath_fits row None properties h = tt
xpath_fits row (Some xpath) properties h = h

unwrap_fits : (found : Option ℕ) (n : ℕ) → IfSome found IsPriority → IsPriority n → IsPriority (unwrap_or found n)
unwrap_fits None n h k = k
unwrap_fits (Some priority) n h k = h

rule_fits : (row : Draft → RuleRow) (n : ℕ) → IsPriority n → ((draft : Draft) → (row draft).priority ≡ unwrap_or draft.priority n) → (read : Result Draft TextFault) → IfOk read FitsDraft →
    IfOk (and_then read (λ draft. with_xpath (row draft) draft.xpath draft.properties)) FitsTexts
rule_fits row n h is (Err fault) k = tt
rule_fits row n h is (Ok draft) k = xpath_fits (row draft) draft.xpath draft.properties (subst IsPriority (sym (is draft)) (unwrap_fits draft.priority n k h))

is_ok : (read : Result RuleTexts TextFault) (texts : RuleTexts) → read ≡ Ok texts → IfOk read FitsTexts → FitsTexts texts
is_ok read texts e h = subst (λ (r : Result RuleTexts TextFault). IfOk r FitsTexts) e h

defines_fits : (rule_set name : Text) (rule : WrittenRule) (texts : RuleTexts) → Defines rule_set name rule texts → FitsTexts texts
defines_fits rule_set name rule texts (Defines.defines is sound) =
    is_ok (defined rule_set name rule) texts is (rule_fits _ 5 (omega arith, omega arith) (λ draft. refl) (with_pieces false nothing_read rule.pieces) (pieces_fit false nothing_read rule.pieces tt))

changes_fit : (rule : WrittenRule) (old new : RuleTexts) → Changes rule old new → FitsTexts old → FitsTexts new
changes_fit rule old new (Changes.changed is sound) h =
    is_ok (overridden old rule) new is (rule_fits _ old.row.priority h (λ draft. refl) (with_pieces true (draft_of old) rule.pieces) (pieces_fit true (draft_of old) rule.pieces tt))

pub effective_priorities : (files : Files) (paths : List Text) (minimum : ℕ) (marker : Text) (rules : EffectiveRules) → IsEffective files paths minimum marker rules →
    AllByRecursion (λ (rule : EffectiveRule). IsPriority rule.row.priority) rules.rules
effective_priorities = each_rule FitsTexts defines_fits changes_fit
