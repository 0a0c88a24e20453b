use Rattle.std.proofs.Common.{◌≡◌, ◌∙◌, ℕ, ◌+◌, ◌-◌, ◌≤◌, List, [], ◌∷◌, ◌++◌, drop, map, take, get_or, length, ap, sym, arith}
use Rattle.std.proofs.lemmas.List.{drop-map, take_all, take_more}
use Rattle.pj_ll.specs.declared.parser.Step.{Step}
use Rattle.pj_xtokens.specs.Answer.{lexed_of}
use Rattle.pj_xtokens.specs.Tokens.{Lexed}
use Rattle.pj_xmeaning.specs.Actions.{action_of}
use Rattle.pj_xmeaning.specs.Beginnings.{beginning_at}
use Rattle.pj_xmeaning.specs.Seen.{seen_parts}
use Rattle.pj_xmeaning.specs.Parts.{RuleValue, operand}
use Rattle.pj_xmeaning.specs.Values.{acted, top, values}
use Rattle.pj_xmeaning.proofs.Values.{values_before}
use Rattle.pj_xmeaning.proofs.fold.said.Goals as goal

-- what an index past the steps would read
abbrev none : Step
none = record { production = 0; place = 0 }

-- the last of the steps that are still to come is done
turned : (tokens : List Lexed) (steps : List Step) (left : ℕ) (d : Step) (others all : List RuleValue) → 1 ≤ left → left ≤ length steps →
    values (map (beginning_at tokens) (take left steps)) others ≡ all →
    values (map (beginning_at tokens) (take (left - 1) steps)) (acted (action_of (get_or steps (left - 1) d).production) (drop (get_or steps (left - 1) d).place tokens) others) ≡ all
turned tokens steps left d others all one within is =
    let at = left - 1 in
    let back : left ≡ at + 1 = omega arith in
    let more : take left steps ≡ take at steps ++ get_or steps at d ∷ [] = ap (λ n. take n steps) back ∙ take_more steps at d (omega arith) in
    sym (values_before tokens (take at steps) (get_or steps at d) others) ∙ ap (λ l. values (map (beginning_at tokens) l) others) (sym more) ∙ is

pub steps-init : goal.steps-init
steps-init c =
    let tokens = map lexed_of c.args.tokens.now in
    record {
      within = omega arith;
      stands = (λ i. values (map (beginning_at tokens) (take_all (length c.args.steps.now) c.args.steps.now (omega arith) i)) (seen_parts (c.new-parts.ensures.items i)));
    }

pub steps-preserved : goal.steps-preserved
steps-preserved c =
    let tokens = map lexed_of c.args.tokens.now in
    let steps = c.args.steps.now in
    let step = get_or steps (c.steps.left - 1) none in
    let others = seen_parts c.steps.parts.items in
    let within = c.steps.invariant.within in
    let one : 1 ≤ c.steps.left = omega (arith, c.steps-test.true) in
    let from : map lexed_of c.from_place.result.now ≡ drop step.place tokens = ap (map lexed_of) c.from_place.ensures ∙ sym (drop-map lexed_of step.place c.args.tokens.now) in
    record {
      within = omega (arith, within);
      stands =
          ap (values (map (beginning_at tokens) (take (c.steps.left - 1) steps)))
          (c.in_ok-act.ensures ∙ ap (λ a. acted a (map lexed_of c.from_place.result.now) others) c.action_of.ensures ∙ ap (λ l. acted (action_of step.production) l others) from)
          ∙ turned tokens steps c.steps.left none others _ one within c.steps.invariant.stands;
    }

pub returns : goal.returns
returns c =
    let tokens = map lexed_of c.args.tokens.now in
    let none : c.steps.left ≡ 0 = omega (arith, c.steps-test.false) in
    let whole : seen_parts c.steps.parts.items ≡ values (map (beginning_at tokens) c.args.steps.now) [] =
    ap (λ n. values (map (beginning_at tokens) (take n c.args.steps.now)) (seen_parts c.steps.parts.items)) (sym none) ∙ c.steps.invariant.stands in
    c.into_reading.ensures ∙ ap operand (c.take.ensures.first ∙ ap top whole)
