use Rattle.std.proofs.Common.{◌≡◌, ◌∙◌, ap, subst, IfOk, ℕ, List, rules}
use Rattle.std.specs.Str.{chars, encode_utf8_all}
use Rattle.std.proofs.lemmas.Str.{chars_from_encodes}
use Rattle.pj_xtokens.specs.Literals.{characters_of}
use Rattle.pj_xtokens.proofs.literal.string_value.Goals as goal

pub returns : goal.returns
returns c =
    let word : c.in_ok-characters.characters.items ≡ chars c.args.literal.now = search (rules, chars_from_encodes) in
    let value : characters_of c.deref.result.now ≡ characters_of (chars c.args.literal.now) = ap characters_of (c.deref.ensures.value ∙ word) in
    subst (λ (x : List ℕ). IfOk c.characters_of.result (λ made. made ≡ encode_utf8_all x)) value c.characters_of.ensures
