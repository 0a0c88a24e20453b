-- What the context node calls, by a signature pattern: the method of a call (JLS 15.12), or the constructor of `new` (JLS 15.9), of `this(..)` or of `super(..)` (JLS 8.8.7.1).
use Rattle.std.specs.Prelude.{Bool, false, [], Option, Some, None, if◌then◌else◌, codes}
use Rattle.pj_names.specs.Asking.{Asking, Return, bind}
use Rattle.pj_names.specs.JavaType.{JavaType}
use Rattle.pj_tree.specs.Tree.{Tree, kind_of}
use Rattle.pj_tree.specs.Words.{last_of, words_of}
use Rattle.pj_tree.specs.declared.kind.Kind.{Kind}
use Rattle.pj_tree.specs.declared.kind.Kind.TheVariants as k
use Rattle.pj_tree.specs.declared.node.Node.{Node}
use Rattle.pj_types.specs.Members.{FoundMethod}
use Rattle.pj_signature_patterns.specs.declared.pattern.MethodPattern.{MethodPattern}
use Rattle.pj_signature_patterns.specs.declared.pattern.SigPattern.{SigPattern}
use Rattle.pj_type_tests.specs.Methods.{is_called_on, is_method_named}
use Rattle.pj_exprtypes.specs.Chosen.{chosen_pair}

-- Whether a node calls what has the name. That of a constructor is `<init>` (JVMS 2.9.1); other nodes call nothing.
abbrev pub calls_named : MethodPattern → Tree → Node → Option Kind → Bool
calls_named pattern t n (Some k.MethodCall) = is_method_named pattern (last_of [] (words_of t n))
calls_named pattern t n (Some k.ConstructorCall) = is_method_named pattern (codes "<init>")
calls_named pattern t n (Some k.ExplicitConstructorInvocation) = is_method_named pattern (codes "<init>")
calls_named pattern t n other = false

-- Whether what is chosen is as the pattern says but for its name. The type is that of the receiver, where a method call has one, and else the class that has the candidates. The parameters are those of the
-- method with the receiver's type arguments put in.
abbrev pub chosen_is : SigPattern → Option (JavaType × FoundMethod) → Asking Bool
chosen_is pattern None = Return false
chosen_is pattern (Some pair) = is_called_on pattern pair.0 pair.1.types.arguments

-- Where the name is another one, nothing is chosen, and nothing is asked.
abbrev pub call_is : Tree → Node → SigPattern → Asking Bool
call_is t n pattern = if calls_named pattern.method t n (kind_of t n) then bind (chosen_pair t n) (λ found. chosen_is pattern found) else Return false

-- without a node nothing is called
abbrev pub call_test : Tree → Option Node → SigPattern → Asking Bool
call_test t None pattern = Return false
call_test t (Some n) pattern = call_is t n pattern
