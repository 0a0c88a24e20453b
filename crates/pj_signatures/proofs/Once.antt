-- A text spells at most one signature: reading makes the tree itself.
use Rattle.std.proofs.Common.{◌≡◌, ℕ, true, List, [], ◌∷◌, map, ap, refl, sym, ◌∙◌}
use Rattle.std.specs.Prelude.{Option, Some, None}
use Rattle.pj_signatures.specs.Signature.{TypeSignature, BaseType, ClassType, TypeVariable, ArrayType, TypeArguments, NoArguments, Argument, TypeArgument, Anything, Exactly, Extends, Super, Suffixes, NoSuffix, Suffix, TypeParameter, ClassSignature, MethodSignature, spelled, spelled_class, spelled_method, fits, class_signature_fits, method_signature_fits}
use Rattle.pj_signatures.specs.Types.{Making, made, made_arguments, made_argument, made_suffixes, made_option, made_parameter}
use Rattle.pj_signatures.specs.Reading.{type_at, class_signature_at, method_signature_at}
use Rattle.pj_signatures.proofs.Spellings.{pair_from}
use Rattle.pj_signatures.proofs.TypesAgain.{again, from_list}
use Rattle.pj_signatures.proofs.WholeLaws.{class_again, method_again, class_made, method_made}

-- the making of the tree
abbrev tree : Making TypeSignature TypeArgument (List ℕ × List TypeArgument × (Suffixes → Suffixes)) TypeParameter
tree = record {
  primitive = BaseType;
  variable = TypeVariable;
  array = ArrayType;
  outer = λ path arguments. (path, arguments, λ suffixes. suffixes);
  member = λ class name arguments. (class.0, class.1, λ suffixes. class.2 (Suffix name (from_list arguments) suffixes));
  whole = λ class. ClassType class.0 (from_list class.1) (class.2 NoSuffix);
  anything = Anything;
  exactly = Exactly;
  extends = Extends;
  above = Super;
  parameter = λ name bound more. record { name = name; class_bound = bound; interface_bounds = more };
}

mutual
  made_is : (sig : TypeSignature) → made tree sig ≡ sig
  made_is (BaseType prim) = refl
  made_is (ClassType path arguments suffixes) =
      suffixes_are suffixes path (made_arguments tree arguments) (λ s. s)
      ∙ ap (λ (a : TypeArguments). ClassType path a suffixes) (arguments_are arguments)
  made_is (TypeVariable name) = refl
  made_is (ArrayType member) = ap ArrayType (made_is member)

  arguments_are : (arguments : TypeArguments) → from_list (made_arguments tree arguments) ≡ arguments
  arguments_are NoArguments = refl
  arguments_are (Argument first more) = ap (λ (a : TypeArgument). Argument a (from_list (made_arguments tree more))) (argument_is first) ∙ ap (Argument first) (arguments_are more)

  argument_is : (argument : TypeArgument) → made_argument tree argument ≡ argument
  argument_is Anything = refl
  argument_is (Exactly ty) = ap Exactly (made_is ty)
  argument_is (Extends ty) = ap Extends (made_is ty)
  argument_is (Super ty) = ap Super (made_is ty)

  suffixes_are : (suffixes : Suffixes) (path : List ℕ) (arguments : List TypeArgument) (before : Suffixes → Suffixes)
      → tree.whole (made_suffixes tree suffixes (path, arguments, before)) ≡ ClassType path (from_list arguments) (before suffixes)
  suffixes_are NoSuffix path arguments before = refl
  suffixes_are (Suffix name first more) path arguments before =
      suffixes_are more path arguments (λ s. before (Suffix name (from_list (made_arguments tree first)) s))
      ∙ ap (λ (a : TypeArguments). ClassType path (from_list arguments) (before (Suffix name a more))) (arguments_are first)

types_are : (list : List TypeSignature) → map (made tree) list ≡ list
types_are [] = refl
types_are (x ∷ xs) = ap (λ (t : TypeSignature). t ∷ map (made tree) xs) (made_is x) ∙ ap (λ (r : List TypeSignature). x ∷ r) (types_are xs)

option_is : (option : Option TypeSignature) → made_option tree option ≡ option
option_is None = refl
option_is (Some ty) = ap (λ (t : TypeSignature). let o : Option TypeSignature = Some t in o) (made_is ty)

parameter_is : (parameter : TypeParameter) → made_parameter tree parameter ≡ parameter
parameter_is parameter =
    ap (λ (o : Option TypeSignature). let p : TypeParameter = record { name = parameter.name; class_bound = o; interface_bounds = map (made tree) parameter.interface_bounds } in p) (option_is parameter.class_bound)
    ∙ ap (λ (l : List TypeSignature). let p : TypeParameter = record { name = parameter.name; class_bound = parameter.class_bound; interface_bounds = l } in p) (types_are parameter.interface_bounds)

parameters_are : (list : List TypeParameter) → map (made_parameter tree) list ≡ list
parameters_are [] = refl
parameters_are (x ∷ xs) = ap (λ (t : TypeParameter). t ∷ map (made_parameter tree) xs) (parameter_is x) ∙ ap (λ (r : List TypeParameter). x ∷ r) (parameters_are xs)

pub types_once : (first second : TypeSignature) → fits 255 first ≡ true → fits 255 second ≡ true → spelled first [] ≡ spelled second [] → first ≡ second
types_once first second good fine same =
    let read : type_at tree 255 (spelled first []) ≡ Some (made tree first, []) = again tree first 255 good [] in
    let other : type_at tree 255 (spelled second []) ≡ Some (made tree second, []) = again tree second 255 fine [] in
    let alike = sym read ∙ ap (type_at tree 255) same ∙ other in
    let pairs : made tree first ≡ made tree second = (pair_from {A = TypeSignature} (made tree first, []) (made tree second, []) alike).0 in
    sym (made_is first) ∙ pairs ∙ made_is second

abbrev always : List TypeParameter → Making TypeSignature TypeArgument (List ℕ × List TypeArgument × (Suffixes → Suffixes)) TypeParameter
always params = tree

class_is : (class : ClassSignature) → class_made tree always class ≡ (class.parameters, class.superclass, class.interfaces)
class_is class =
    ap (λ (p : List TypeParameter). (p, made tree class.superclass, map (made tree) class.interfaces)) (parameters_are class.parameters)
    ∙ ap (λ (t : TypeSignature). (class.parameters, t, map (made tree) class.interfaces)) (made_is class.superclass)
    ∙ ap (λ (l : List TypeSignature). (class.parameters, class.superclass, l)) (types_are class.interfaces)

pub classes_once : (first second : ClassSignature) → class_signature_fits 255 first ≡ true → class_signature_fits 255 second ≡ true → spelled_class first ≡ spelled_class second → first ≡ second
classes_once first second good fine same =
    let read = class_again tree always first good in
    let other = class_again tree always second fine in
    let alike = sym read ∙ ap (class_signature_at tree always 255) same ∙ other in
    let values : class_made tree always first ≡ class_made tree always second = (pair_from {A = List TypeParameter × TypeSignature × List TypeSignature} (class_made tree always first, []) (class_made tree always second, []) alike).0 in
    let parts = sym (class_is first) ∙ values ∙ class_is second in
    ap (λ (p : List TypeParameter × TypeSignature × List TypeSignature). let c : ClassSignature = record { parameters = p.0; superclass = p.1; interfaces = p.2 } in c) parts

method_is : (method : MethodSignature) → method_made tree always method ≡ (method.parameters, method.arguments, method.returned, method.thrown)
method_is method =
    ap (λ (p : List TypeParameter). (p, map (made tree) method.arguments, made_option tree method.returned, map (made tree) method.thrown)) (parameters_are method.parameters)
    ∙ ap (λ (l : List TypeSignature). (method.parameters, l, made_option tree method.returned, map (made tree) method.thrown)) (types_are method.arguments)
    ∙ ap (λ (o : Option TypeSignature). (method.parameters, method.arguments, o, map (made tree) method.thrown)) (option_is method.returned)
    ∙ ap (λ (l : List TypeSignature). (method.parameters, method.arguments, method.returned, l)) (types_are method.thrown)

pub methods_once : (first second : MethodSignature) → method_signature_fits 255 first ≡ true → method_signature_fits 255 second ≡ true → spelled_method first ≡ spelled_method second → first ≡ second
methods_once first second good fine same =
    let read = method_again tree always first good in
    let other = method_again tree always second fine in
    let alike = sym read ∙ ap (method_signature_at tree always 255) same ∙ other in
    let values : method_made tree always first ≡ method_made tree always second = (pair_from {A = List TypeParameter × List TypeSignature × Option TypeSignature × List TypeSignature} (method_made tree always first, []) (method_made tree always second, []) alike).0 in
    let parts = sym (method_is first) ∙ values ∙ method_is second in
    ap (λ (p : List TypeParameter × List TypeSignature × Option TypeSignature × List TypeSignature). let m : MethodSignature = record { parameters = p.0; arguments = p.1; returned = p.2; thrown = p.3 } in m) parts
