use Rattle.std.proofs.Common.{◌-◌, List, length, map, sym, ap, ◌∙◌, subst, arith, rules}
use Rattle.std.specs.Str.{chars, IsUtf8}
use Rattle.std.proofs.lemmas.List.{map-append}
use Rattle.pj_xtokens.specs.Answer.{lexed_of}
use Rattle.pj_xtokens.specs.Tokens.{Tokens, Lexed}
use Rattle.pj_xtokens.specs.declared.token.End.TheVariants as ends
use Rattle.pj_xtokens.proofs.Ends.{length_behind}
use Rattle.pj_xtokens.proofs.Reading.{Leads, in_bytes, past_behind, behind_behind, empty_text, full_text, leads_ended, leads_unspelled, leads_token, leads_joined, token_shorter, offset_is}
use Rattle.pj_xtokens.proofs.token_list.tokens.Goals as goal

pub skip_gap-body-requires : goal.skip_gap-body-requires
skip_gap-body-requires c = omega (arith, length_behind _ _ c.utf8.text c.loop-body.invariant.is_text c.loop-body.invariant.behind, c.requires.fits)

pub overflow_sub-from : goal.overflow_sub-from
overflow_sub-from c =
    length_behind _ _ c.utf8.text c.skip_gap-body.utf8 (behind_behind _ _ _ c.loop-body.invariant.behind (past_behind _ _ c.skip_gap-body.ensures.past))

pub returns-then-is_empty : goal.returns-then-is_empty
returns-then-is_empty c =
    in_bytes _ c.utf8.text _ _ (subst (λ (ls : List Lexed). Tokens (length c.args.text.now) (chars c.args.text.now) ls (ends.Text (length c.args.text.now))) (ap (map lexed_of) (sym c.from_vec-list.ensures))
    (leads_ended _ _ _ _ c.loop-body.invariant.leads _ c.skip_gap-body.ensures.past (empty_text _ _ c.is_empty.ensures c.if-is_empty.true)))

pub returns-in_default : goal.returns-in_default
returns-in_default c =
    let at = behind_behind _ _ _ c.loop-body.invariant.behind (past_behind _ _ c.skip_gap-body.ensures.past) in
    in_bytes _ c.utf8.text _ _ (subst (λ (ls : List Lexed). Tokens (length c.args.text.now) (chars c.args.text.now) ls (ends.Fault (length c.args.text.now - length c.skip_gap-body.result.now))) (ap (map lexed_of) (sym c.from_vec-list-in_default.ensures))
    (leads_unspelled _ _ _ _ c.loop-body.invariant.leads _ _ c.skip_gap-body.ensures.past c.skip_gap-body.ensures.solid c.in_default.ensures
    (offset_is _ _ c.utf8.text c.skip_gap-body.utf8 at) (full_text _ _ c.skip_gap-body.utf8 c.is_empty.ensures c.if-is_empty.false)))

pub overflow_sub-result : goal.overflow_sub-result
overflow_sub-result c =
    let at = behind_behind _ _ _ c.loop-body.invariant.behind (past_behind _ _ c.skip_gap-body.ensures.past) in
    let u : IsUtf8 c.in-Some.behind.now = search rules in
    length_behind _ _ c.utf8.text u (behind_behind _ _ _ at (chars c.before-in-loop-body.result.now, c.before-in-loop-body.ensures.split))

pub returns-then-is_joined : goal.returns-then-is_joined
returns-then-is_joined c =
    let total = length c.args.text.now in
    let at = behind_behind _ _ _ c.loop-body.invariant.behind (past_behind _ _ c.skip_gap-body.ensures.past) in
    let u : IsUtf8 c.in-Some.behind.now = search rules in
    let end = behind_behind _ _ _ at (chars c.before-in-loop-body.result.now, c.before-in-loop-body.ensures.split) in
    in_bytes _ c.utf8.text _ _ (subst (λ (ls : List Lexed). Tokens total (chars c.args.text.now) ls (ends.Fault (total - length c.in-Some.behind.now)))
    (sym (ap (map lexed_of) (c.from_vec-list-then-is_joined.ensures ∙ c.in_ok-push.ensures.items) ∙ map-append lexed_of _ _))
    (leads_joined _ _ _ _ c.loop-body.invariant.leads _ _ (chars c.before-in-loop-body.result.now) c.in-Some.kind (total - length c.skip_gap-body.result.now) c.skip_gap-body.ensures.past c.skip_gap-body.ensures.solid
    c.in-Some.ensures c.before-in-loop-body.ensures.split (offset_is _ _ c.utf8.text c.skip_gap-body.utf8 at) (total - length c.in-Some.behind.now)
    (sym c.is_joined.ensures ∙ c.if-is_joined.true) (offset_is _ _ c.utf8.text u end)))

pub loop-body-smaller : goal.loop-body-smaller
loop-body-smaller c = token_shorter c.tokens_are_not_empty.ensures _ _ _ _ c.skip_gap-body.ensures.past c.in-Some.ensures

pub loop-body-preserved : goal.loop-body-preserved
loop-body-preserved c =
    let total = length c.args.text.now in
    let at = behind_behind _ _ _ c.loop-body.invariant.behind (past_behind _ _ c.skip_gap-body.ensures.past) in
    record {
      is_text = search rules;
      behind = behind_behind _ _ _ at (chars c.before-in-loop-body.result.now, c.before-in-loop-body.ensures.split);
      leads =
          subst (λ (ls : List Lexed). Leads total (chars c.args.text.now) (chars c.in-Some.behind.now) ls) (sym (ap (map lexed_of) c.in_ok-push.ensures.items ∙ map-append lexed_of _ _))
          (leads_token _ _ _ _ c.loop-body.invariant.leads _ _ (chars c.before-in-loop-body.result.now) c.in-Some.kind (total - length c.skip_gap-body.result.now) c.skip_gap-body.ensures.past
          c.skip_gap-body.ensures.solid c.in-Some.ensures c.before-in-loop-body.ensures.split (offset_is _ _ c.utf8.text c.skip_gap-body.utf8 at) (sym c.is_joined.ensures ∙ c.if-is_joined.false));
    }
