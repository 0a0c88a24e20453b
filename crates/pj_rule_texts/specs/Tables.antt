-- For private clauses: properties as the entries of a map from names, and what is read of a rule so far.
use Rattle.std.specs.Prelude.{List, map}
use Rattle.pj_rule_texts.specs.Values.{Text}
use Rattle.pj_rule_texts.specs.declared.properties.Property.{Property}

abbrev pub property_of : Text × (Text × Text) → Property
property_of entry = record { name = entry.0; kind = entry.1.0; value = entry.1.1 }

abbrev pub properties_of : List (Text × (Text × Text)) → List Property
properties_of entries = map property_of entries
