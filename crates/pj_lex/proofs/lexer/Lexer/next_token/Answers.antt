use Rattle.std.proofs.Common.{◌+◌, ◌-◌, ◌∷◌, [], Ok, Err, ap, sym, refl, subst, length}
use Rattle.std.specs.List.{list_all}
use Rattle.std.specs.Str.{chars}
use Rattle.std.proofs.lemmas.Bool.{true≢false}
use Rattle.std.proofs.lemmas.Str.{chars-nil}
use Rattle.pj_lex.specs.Characters.{is_white}
use Rattle.pj_lex.specs.Rules.{Outcome}
use Rattle.pj_lex.specs.Tokens.{IsGap, Tokens, Took, Lexed, Position, position}
use Rattle.pj_lex.proofs.Reading.{all_gap, not_gap, took, token_at, fault_at, fault_last, empty_text, full_text}
use Rattle.pj_lex.proofs.lexer.Lexer.next_token.Goals as goal

pub returns-then-is_empty : goal.returns-then-is_empty
returns-then-is_empty c =
    let cs = chars c.self.inside.rest.now in
    let white =
    subst (λ (p : Position). IsGap p.text) c.self.view_is
    (all_gap c.self.inside.offset cs (chars c.skip_white-rest.result.now) c.skip_white-rest.ensures.behind (empty_text _ _ c.is_empty.ensures c.if-is_empty.true)) in
    record { none = (λ e. white, λ g. refl); next = tt; text = tt; stays = λ e. white }

pub returns-in-Ok : goal.returns-in-Ok
returns-in-Ok c =
    let at = c.self.inside.offset in
    let cs = chars c.self.inside.rest.now in
    let rs = chars c.skip_white-rest.result.now in
    let n = length c.self.inside.rest.now in
    let m = length c.skip_white-rest.result.now in
    let word = chars c.before-text.result.now in
    let behind = chars c.in-Ok.behind.now in
    let len = length c.before-text.result.now in
    let skipped = c.skip_white-rest.ensures.behind in
    let full = full_text _ _ c.skip_white-rest.utf8 c.is_empty.ensures c.if-is_empty.false in
    let what : Outcome = Ok c.in-Ok.kind in
    let first : Lexed = record { what = what; text = word; from = at + (n - m); to = at + (n - m) + len } in
    record {
      none = (λ e. absurd (true≢false e), λ g. absurd (not_gap at cs rs skipped full (subst (λ (p : Position). IsGap p.text) (sym c.self.view_is) g)));
      next = λ more left.
          subst (λ (p : Position). Tokens p.at p.text (first ∷ more)) c.self.view_is
          (token_at at cs rs skipped n m c.skip_white-rest.ensures.bytes len word behind c.in-Ok.kind more c.before-text.ensures.split c.in-Ok.ensures c.before-text.ensures.len left);
      text =
          subst (λ (p : Position). Took p (position (at + (n - m) + len) behind) first) c.self.view_is
          (took at cs rs skipped n m c.skip_white-rest.ensures.bytes len word behind c.in-Ok.kind c.before-text.ensures.split c.before-text.ensures.len);
      stays = λ e. absurd (true≢false e);
    }

pub returns-in-Err : goal.returns-in-Err
returns-in-Err c =
    let at = c.self.inside.offset in
    let cs = chars c.self.inside.rest.now in
    let rs = chars c.skip_white-rest.result.now in
    let n = length c.self.inside.rest.now in
    let m = length c.skip_white-rest.result.now in
    let skipped = c.skip_white-rest.ensures.behind in
    let full = full_text _ _ c.skip_white-rest.utf8 c.is_empty.ensures c.if-is_empty.false in
    let what : Outcome = Err c.in-Err.kind in
    let first : Lexed = record { what = what; text = []; from = at + (n - m); to = at + (n - m) } in
    record {
      none = (λ e. absurd (true≢false e), λ g. absurd (not_gap at cs rs skipped full (subst (λ (p : Position). IsGap p.text) (sym c.self.view_is) g)));
      next = λ more left.
          subst (λ (p : Position). Tokens p.at p.text (first ∷ more)) c.self.view_is
          (fault_last at _ cs (chars []) first more chars-nil left
          (fault_at at cs rs skipped n m c.skip_white-rest.ensures.bytes c.in-Err.kind full c.in-Err.ensures));
      text = ap (list_all is_white) chars-nil;
      stays = λ e. absurd (true≢false e);
    }
