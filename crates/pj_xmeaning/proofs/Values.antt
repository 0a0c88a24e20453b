-- The values of the rules that are still to come, from the last production of a derivation to the first.
use Rattle.std.proofs.Common.{◌≡◌, ◌∙◌, sym, ap, refl, List, [], ◌∷◌, ◌++◌, map, drop}
use Rattle.std.proofs.lemmas.List.{reverse-append}
use Rattle.pj_ll.specs.declared.parser.Step.{Step}
use Rattle.pj_xtokens.specs.Tokens.{Lexed}
use Rattle.pj_xmeaning.specs.Actions.{action_of}
use Rattle.pj_xmeaning.specs.Seen.{seen_part, seen_parts}
use Rattle.pj_xmeaning.specs.Beginnings.{beginning_at}
use Rattle.pj_xmeaning.specs.Parts.{RuleValue}
use Rattle.pj_xmeaning.specs.Values.{acted, below, top, values}
use Rattle.pj_xmeaning.specs.declared.part.Part.{Part}

-- a value that stands last is the first one
pub pushed : (parts : List Part) (part : Part) → seen_parts (parts ++ part ∷ []) ≡ seen_part part ∷ seen_parts parts
pushed parts part = ap (map seen_part) (reverse-append parts (part ∷ []))

pub top_of_pushed : (all parts : List Part) (part : Part) → all ≡ parts ++ part ∷ [] → seen_part part ≡ top (seen_parts all)
top_of_pushed all parts part is = sym (ap (λ l. top (seen_parts l)) is ∙ ap top (pushed parts part))

pub below_pushed : (all parts : List Part) (part : Part) → all ≡ parts ++ part ∷ [] → seen_parts parts ≡ below (seen_parts all)
below_pushed all parts part is = sym (ap (λ l. below (seen_parts l)) is ∙ ap below (pushed parts part))

pub values_before : (tokens : List Lexed) (steps : List Step) (step : Step) (others : List RuleValue) →
    values (map (beginning_at tokens) (steps ++ step ∷ [])) others ≡ values (map (beginning_at tokens) steps) (acted (action_of step.production) (drop step.place tokens) others)
values_before tokens [] step others = refl
values_before tokens (first ∷ steps) step others = ap (acted (action_of first.production) (drop first.place tokens)) (values_before tokens steps step others)
