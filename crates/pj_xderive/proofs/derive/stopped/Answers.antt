use Rattle.std.proofs.Common.{◌≡◌, length, map, sym, ap, subst, ◌∙◌, arith}
use Rattle.std.proofs.lemmas.List.{length-map}
use Rattle.pj_xtokens.specs.Answer.{lexed_of}
use Rattle.pj_xgrammar.specs.declared.terminal.Behind.TheVariants as b
use Rattle.pj_xderive.specs.Following.{CouldFollow, IsReadAt}
use Rattle.pj_xderive.proofs.Outcomes.{length_numbers, read_at, mapped_at, of_stop_at_end, of_stop_number, of_stop_here, of_stop_behind}
use Rattle.pj_xderive.proofs.derive.stopped.Goals as goal

pub returns-in_default : goal.returns-in_default
returns-in_default c =
    let tokens = map lexed_of c.args.tokens.now in
    let (none, tt_, some, past, found) = c.in_default.ensures.lookup in
    let count : length tokens ≡ length c.args.tokens.now = length-map c.args.tokens.now lexed_of in
    of_stop_at_end tokens c.args.place c.requires.stops (omega arith)

pub returns-then-is_left_out_kind : goal.returns-then-is_left_out_kind
returns-then-is_left_out_kind c =
    let (some, it, sure, here, found) = c.in-Some.ensures.lookup in
    let at = mapped_at lexed_of c.args.tokens.now c.args.place c.in-Some.token.now here.0 it in
    of_stop_number (map lexed_of c.args.tokens.now) c.args.place (lexed_of c.in-Some.token.now) at c.requires.stops (sym c.is_left_out_kind.ensures ∙ c.if-is_left_out_kind.true)

pub could_follow-requires-clause-few : goal.could_follow-requires-clause-few
could_follow-requires-clause-few c =
    let is : length c.args.terminals.now ≡ length c.args.tokens.now = ap length c.requires.read ∙ length_numbers b.End (map lexed_of c.args.tokens.now) ∙ length-map c.args.tokens.now lexed_of in
    let few = c.requires.few in
    omega arith

pub could_follow-requires-clause-read : goal.could_follow-requires-clause-read
could_follow-requires-clause-read c =
    let tokens = map lexed_of c.args.tokens.now in
    let (some, it, sure, here, found) = c.in-Some.ensures.lookup in
    let at = mapped_at lexed_of c.args.tokens.now c.args.place c.in-Some.token.now here.0 it in
    subst (λ l. IsReadAt l c.args.place (lexed_of c.in-Some.token.now)) (sym c.requires.read) (read_at tokens c.args.place (lexed_of c.in-Some.token.now) at)

pub returns-then-branch : goal.returns-then-branch
returns-then-branch c =
    let x = lexed_of c.in-Some.token.now in
    let (some, it, sure, here, found) = c.in-Some.ensures.lookup in
    let at = mapped_at lexed_of c.args.tokens.now c.args.place c.in-Some.token.now here.0 it in
    of_stop_behind (map lexed_of c.args.tokens.now) c.args.place x at c.requires.stops
    (subst (λ l. CouldFollow l c.args.place x) c.requires.read (c.in_ok-could_follow.ensures.could c.if-branch.true))

pub returns : goal.returns
returns c =
    let x = lexed_of c.in-Some.token.now in
    let (some, it, sure, here, found) = c.in-Some.ensures.lookup in
    let at = mapped_at lexed_of c.args.tokens.now c.args.place c.in-Some.token.now here.0 it in
    of_stop_here (map lexed_of c.args.tokens.now) c.args.place x at c.requires.stops (sym c.is_left_out_kind.ensures ∙ c.if-is_left_out_kind.false)
    (subst (λ l. CouldFollow l c.args.place x → ⊥) c.requires.read (c.in_ok-could_follow.ensures.could_not c.if-branch.false))
