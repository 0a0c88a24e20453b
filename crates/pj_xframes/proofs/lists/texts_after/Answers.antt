use Rattle.std.proofs.Common.{◌≡◌, ◌∙◌, ◌++◌, ◌∷◌, [], ℕ, List, Result, Ok, ap, map, string_bytes}
use Rattle.pj_xvalue.specs.declared.fault.XCode.{XCode}
use Rattle.pj_xvalue.specs.Items.{String, values_of}
use Rattle.pj_xvalue.specs.Arguments.{and_then}
use Rattle.pj_xsteps.specs.Context.{around}
use Rattle.pj_xsteps.specs.Denotes.{denotes, here, with_text}
use Rattle.pj_xsteps.specs.Means.{◌>>=◌, chain, give, judged}
use Rattle.pj_xsteps.specs.Operands.{text_operand}
use Rattle.pj_xframes.specs.Scopes.{variables_of}
use Rattle.pj_xframes.proofs.ListGoals.{goes-made, made-as}
use Rattle.pj_xframes.proofs.lists.texts_after.Goals as goal

-- a text with another behind it
pushed : (all text shown more : List ℕ) → all ≡ text ++ shown → shown ≡ more → all ≡ text ++ more
pushed all text shown more is same = is ∙ ap (λ (t : List ℕ). text ++ t) same

pub returns-clause-goes : goal.returns-clause-goes
returns-clause-goes g c = λ reply at s.
    let a = around c.args.setting.now.tree.now (g.A.Attributes.attribute_of c.args.setting.now.facts.now) (g.A.Attributes.names_of c.args.setting.now.facts.now) c.args.setting.now.patterns.now in
    goes-made a reply at s at s c.texts.result
    (λ (made : Result (List ℕ) XCode). (judged made >>= λ more. chain (here at (variables_of s)) (with_text a) (map (denotes a reply) c.args.parts.now) more) >>= λ all. give (String all ∷ []))
    (and_then (text_operand a (values_of c.args.value.now)) (λ more. Ok (string_bytes c.args.text ++ more))) (string_bytes c.push_str.new.self)
    (made-as (text_operand a (values_of c.args.value.now)) (string_bytes c.in_ok-more.more) (λ more. string_bytes c.args.text ++ more) (string_bytes c.push_str.new.self) c.in_ok-more.ensures
    (pushed (string_bytes c.push_str.new.self) (string_bytes c.args.text) c.as_str.result.now (string_bytes c.in_ok-more.more) c.in_ok-push_str.ensures.bytes c.as_str.ensures.value))
    (c.texts.ensures.goes a reply at s)
