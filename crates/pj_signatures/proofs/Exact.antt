-- Whole texts: a reader that reads what is spelled again, and nothing else, answers just what is spelled.
use Rattle.std.proofs.Common.{◌≡◌, ◌++◌, ℕ, Bool, true, List, [], ◌∷◌, map, ap, refl, sym, ◌∙◌}
use Rattle.std.specs.Prelude.{Option, Some, None}
use Rattle.pj_names.specs.JavaType.{JavaType}
use Rattle.pj_signatures.specs.Signature.{TypeSignature, MethodSignature, spelled, spelled_class, spelled_method, fits, class_signature_fits, method_signature_fits}
use Rattle.pj_signatures.specs.Types.{Making, made_option, types, type_of, result_of, parameters_of, ClassTypes, MethodTypes, class_types, method_types}
use Rattle.pj_signatures.specs.Descriptor as descriptor
use Rattle.pj_signatures.specs.Spelled.{IsSpelled, SpellsField, SpellsMethodDescriptor, SpellsType, SpellsClass, SpellsMethod}
use Rattle.pj_signatures.specs.Reading.{whole, if_empty, type_at, field_at, method_descriptor_at, class_signature_at, method_signature_at, described, class_read, method_read, result_read, descriptor_of, method_descriptor_of, field_signature_of, class_signature_of, method_signature_of}
use Rattle.pj_signatures.proofs.TypesAgain.{again}
use Rattle.pj_signatures.proofs.TypesTaken.{taken}
use Rattle.pj_signatures.proofs.WholeLaws.{class_again, class_taken, method_again, method_taken, method_made}
use Rattle.pj_signatures.proofs.DescriptorLaws as fields

module _ {W V : Type 0} (fits_one : W → Bool) (spells : W → List ℕ) (value : W → V) (reads : List ℕ → Option V) where
  -- the text is spelled by a tree that fits, which stands for the value
  abbrev Spells : List ℕ → V → Type 0
  Spells text v = (from : W) × (fits_one from ≡ true) × (spells from ≡ text) × (value from ≡ v)

  exactly : ((from : W) → fits_one from ≡ true → reads (spells from) ≡ Some (value from)) → ((text : List ℕ) (v : V) → reads text ≡ Some v → Spells text v)
      → (text : List ℕ) (found : Option V) → found ≡ reads text → IsSpelled (Spells text) found
  exactly again_all only text None is = λ v s.
      let read : reads text ≡ Some (value s.0) = ap reads (sym s.2) ∙ again_all s.0 s.1 in
      absurd (let no : None ≡ Some (value s.0) = is ∙ read in cc)
  exactly again_all only text (Some found) is = (
    only text found (sym is),
    λ v s.
        let read : reads text ≡ Some (value s.0) = ap reads (sym s.2) ∙ again_all s.0 s.1 in
        let same : Some found ≡ Some (value s.0) = is ∙ read in
        let inner : found ≡ value s.0 = cc in
        sym s.3 ∙ sym inner,
  )

whole_from : {A : Type 0} (found : Option (A × List ℕ)) (value : A) → whole found ≡ Some value → found ≡ Some (value, [])
whole_from {A} None value e = absurd cc
whole_from {A} (Some pair) value e = at pair.0 pair.1 e
  where
    at : (v : A) (rest : List ℕ) → if_empty v rest ≡ Some value → ◌≡◌ {A = Option (A × List ℕ)} (Some (v, rest)) (Some (value, []))
    at v [] k = let same : v ≡ value = cc in ap (λ (x : A). let o : Option (A × List ℕ) = Some (x, []) in o) same
    at v (b ∷ bs) k = absurd cc

-- A type's signature.
pub type_exactly : (declared : List (List ℕ × JavaType)) (text : List ℕ) (found : Option JavaType) → found ≡ field_signature_of declared text → IsSpelled (SpellsType declared text) found
unfolding field_signature_of
type_exactly declared =
    exactly (fits 255) (λ sig. spelled sig []) (type_of declared) (λ text. whole (type_at (types declared) 255 text))
    (λ sig good. ap whole (again (types declared) sig 255 good []))
    (λ text value e.
    let t = taken (types declared) 255 text value [] (whole_from (type_at (types declared) 255 text) value e) in
    (t.from, t.is_good, sym t.text_is, sym t.value_is))

-- A field's descriptor.
pub field_exactly : (text : List ℕ) (found : Option JavaType) → found ≡ descriptor_of text → IsSpelled (SpellsField text) found
unfolding descriptor_of
field_exactly =
    exactly (descriptor.fits 255) (λ field. descriptor.spelled field []) descriptor.type_of (λ text. whole (field_at 255 text))
    (λ field good. ap whole (fields.field_again field 255 good []))
    (λ text value e.
    let t = fields.field_taken 255 text value [] (whole_from (field_at 255 text) value e) in
    (t.from, t.is_good, sym t.text_is, sym t.value_is))

-- A method's descriptor.
abbrev described_types : List JavaType × JavaType → MethodTypes
described_types types = record { params = []; arguments = types.0; returned = types.1 }

described_from : (found : Option (List JavaType × JavaType)) (value : MethodTypes) → described found ≡ Some value → (parts : List JavaType × JavaType) × (found ≡ Some parts) × (described_types parts ≡ value)
described_from None value e = absurd cc
described_from (Some parts) value e = (parts, refl, cc)

pub method_descriptor_exactly : (text : List ℕ) (found : Option MethodTypes) → found ≡ method_descriptor_of text → IsSpelled (SpellsMethodDescriptor text) found
unfolding method_descriptor_of
method_descriptor_exactly =
    exactly (descriptor.method_fits 255) descriptor.spelled_method descriptor.method_types (λ text. described (whole (method_descriptor_at 255 text)))
    (λ method good. ap (λ (o : Option ((List JavaType × JavaType) × List ℕ)). described (whole o)) (fields.method_again 255 method good))
    (λ text value e.
    let d = described_from (whole (method_descriptor_at 255 text)) value e in
    let t = fields.method_taken 255 text d.0 [] (whole_from (method_descriptor_at 255 text) d.0 d.1) in
    (t.from, t.is_good, sym t.text_is, ap described_types (sym t.value_is) ∙ d.2))

-- A class's signature.
abbrev class_parts : List (List ℕ × JavaType) × JavaType × List JavaType → ClassTypes
class_parts parts = record { params = parts.0; superclass = parts.1; interfaces = parts.2 }

class_read_from : (found : Option (List (List ℕ × JavaType) × JavaType × List JavaType)) (value : ClassTypes) → class_read found ≡ Some value
    → (parts : List (List ℕ × JavaType) × JavaType × List JavaType) × (found ≡ Some parts) × (class_parts parts ≡ value)
class_read_from None value e = absurd cc
class_read_from (Some parts) value e = (parts, refl, cc)

pub class_exactly : (text : List ℕ) (found : Option ClassTypes) → found ≡ class_signature_of text → IsSpelled (SpellsClass text) found
unfolding class_signature_of
class_exactly =
    exactly (class_signature_fits 255) spelled_class class_types (λ text. class_read (whole (class_signature_at (types []) types 255 text)))
    (λ class good. ap (λ (o : Option ((List (List ℕ × JavaType) × JavaType × List JavaType) × List ℕ)). class_read (whole o)) (class_again (types []) types class good))
    (λ text value e.
    let d = class_read_from (whole (class_signature_at (types []) types 255 text)) value e in
    let t = class_taken (types []) types text d.0 [] (whole_from (class_signature_at (types []) types 255 text) d.0 d.1) in
    (t.from, t.is_good, sym t.text_is, ap class_parts (sym t.value_is) ∙ d.2))

-- A method's signature.
abbrev method_parts : List (List ℕ × JavaType) × List JavaType × Option JavaType × List JavaType → MethodTypes
method_parts parts = record { params = parts.0; arguments = parts.1; returned = result_read parts.2 }

method_read_from : (found : Option (List (List ℕ × JavaType) × List JavaType × Option JavaType × List JavaType)) (value : MethodTypes) → method_read found ≡ Some value
    → (parts : List (List ℕ × JavaType) × List JavaType × Option JavaType × List JavaType) × (found ≡ Some parts) × (method_parts parts ≡ value)
method_read_from None value e = absurd cc
method_read_from (Some parts) value e = (parts, refl, cc)

abbrev under : List (List ℕ × JavaType) → List (List ℕ × JavaType) → Making JavaType JavaType (List ℕ × List JavaType) (List ℕ × JavaType)
under around params = types (params ++ around)

returned_is : (declared : List (List ℕ × JavaType)) (returned : Option TypeSignature) → result_read (made_option (types declared) returned) ≡ result_of declared returned
returned_is declared None = refl
returned_is declared (Some ty) = refl

method_value : (around : List (List ℕ × JavaType)) (method : MethodSignature) → method_parts (method_made (types []) (under around) method) ≡ method_types around method
method_value around method =
    let params = parameters_of method.parameters in
    ap (λ (r : JavaType). let m : MethodTypes = record { params = params; arguments = map (type_of (params ++ around)) method.arguments; returned = r } in m) (returned_is (params ++ around) method.returned)

pub method_exactly : (around : List (List ℕ × JavaType)) (text : List ℕ) (found : Option MethodTypes) → found ≡ method_signature_of around text → IsSpelled (SpellsMethod around text) found
unfolding method_signature_of
method_exactly around =
    exactly (method_signature_fits 255) spelled_method (method_types around) (λ text. method_read (whole (method_signature_at (types []) (under around) 255 text)))
    (λ method good. ap (λ (o : Option ((List (List ℕ × JavaType) × List JavaType × Option JavaType × List JavaType) × List ℕ)). method_read (whole o)) (method_again (types []) (under around) method good)
    ∙ ap (λ (m : MethodTypes). let o : Option MethodTypes = Some m in o) (method_value around method))
    (λ text value e.
    let d = method_read_from (whole (method_signature_at (types []) (under around) 255 text)) value e in
    let t = method_taken (types []) (under around) text d.0 [] (whole_from (method_signature_at (types []) (under around) 255 text) d.0 d.1) in
    (t.from, t.is_good, sym t.text_is, sym (method_value around t.from) ∙ ap method_parts (sym t.value_is) ∙ d.2))
