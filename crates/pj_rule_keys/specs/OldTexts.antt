-- What format 1 of caches asks of the rules of a list, beside room: texts in UTF-8, and numbers of its kinds.
use Rattle.std.specs.Prelude.{◌≡◌, ◌<◌, ◌^◌, true}
use Rattle.std.specs.List.{All}
use Rattle.std.specs.Str.{is_utf8}
use Rattle.pj_rule_texts.specs.Values.{Text}
use Rattle.pj_rule_texts.specs.declared.properties.Property.{Property}
use Rattle.pj_rule_sets.specs.Rules.{EffectiveRule}

-- a text in UTF-8
abbrev pub IsWords : Text → Type 0
IsWords text = is_utf8 text ≡ true

-- a property whose texts are
abbrev pub HasWords : Property → Type 0
HasWords p = IsWords p.name × IsWords p.kind × IsWords p.value

-- Each text of a rule is in UTF-8, its top ruleset has 32 bits, and its priority is from 1 to 5.
pub record HasOldTexts (r : EffectiveRule) : Type 0 where
  pub top : r.top < 2 ^ 32
  pub name : IsWords r.row.name
  pub rule_set : IsWords r.row.rule_set
  pub message : IsWords r.row.message
  pub some_priority : 0 < r.row.priority
  pub priority : r.row.priority < 6
  pub xpath : IsWords r.xpath
  pub properties : All HasWords r.properties
  pub exclude : All IsWords r.exclude
  pub include : All IsWords r.include
