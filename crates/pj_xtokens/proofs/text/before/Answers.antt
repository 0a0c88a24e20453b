use Rattle.std.proofs.Common.{sym, ap, ◌∙◌, subst, ◌++◌, List, ℕ}
use Rattle.std.specs.Str.{chars, IsUtf8}
use Rattle.std.proofs.lemmas.Str.{IsUtf8-take}
use Rattle.pj_xtokens.proofs.Ends.{length_behind, boundary_behind, chars_behind, size_chars}
use Rattle.pj_xtokens.proofs.text.before.Goals as goal

pub overflow_sub-text : goal.overflow_sub-text
overflow_sub-text c = length_behind _ _ c.utf8.text c.utf8.behind c.requires

pub split_at-requires : goal.split_at-requires
split_at-requires c = boundary_behind _ _ c.utf8.text c.utf8.behind c.requires

pub returns : goal.returns
returns c = record {
  split = chars_behind _ _ c.utf8.text c.utf8.behind c.requires ∙ ap (λ (r : List ℕ). chars r ++ chars c.args.behind.now) (sym c.split_at.ensures.front);
  len = size_chars _ (subst IsUtf8 (sym c.split_at.ensures.front) (IsUtf8-take _ _ c.utf8.text (boundary_behind _ _ c.utf8.text c.utf8.behind c.requires)));
}
