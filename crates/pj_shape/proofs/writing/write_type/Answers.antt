use Rattle.std.proofs.Common.{◌≡◌, ℕ, List, IsSome, sym, subst}
use Rattle.std.specs.List.{fold}
use Rattle.std.specs.Prelude.{slice_range}
use Rattle.pj_tree.specs.Building.{Building, after_call, opened, closed}
use Rattle.pj_tree.specs.declared.kind.Kind.{Kind}
use Rattle.pj_tree.specs.declared.kind.Kind.TheVariants as k
use Rattle.pj_tree.specs.declared.node.Span.{Span}
use Rattle.pj_shape.specs.Writing.{owns}
use Rattle.pj_shape.proofs.Opening.{AreOpen, some_open, open_opened, open_owns, open_closed}
use Rattle.pj_shape.proofs.writing.write_type.Goals as goal

-- of two nodes that were opened, the outer one is open when the inner one was closed
outer : (b b1 b2 b3 b4 : Building) (k1 k2 : Kind) (f1 f2 to : ℕ) (tokens : List Span) → b1 ≡ opened b k1 f1 → b2 ≡ opened b1 k2 f2 → b3 ≡ fold after_call b2 (owns tokens) → b4 ≡ closed b3 to → IsSome b4.current
outer b b1 b2 b3 b4 k1 k2 f1 f2 to tokens e1 e2 e3 e4 =
    let o1 : AreOpen b1 1 = subst (λ x. AreOpen x 1) (sym e1) (open_opened b k1 f1 0 tt) in
    let o2 : AreOpen b2 2 = subst (λ x. AreOpen x 2) (sym e2) (open_opened b1 k2 f2 1 o1) in
    let o3 : AreOpen b3 2 = subst (λ x. AreOpen x 2) (sym e3) (open_owns b2 tokens 1 o2) in
    let o4 : AreOpen b4 1 = subst (λ x. AreOpen x 1) (sym e4) (open_closed b3 to 1 o3) in
    some_open b4 0 o4

pub close-requires-2 : goal.close-requires-2
close-requires-2 c = record {
  «open» = outer c.args.builder.now c.open.new.self c.open-2.new.self c.own_tokens.new.builder c.close.new.self k.TypeExpression k.ClassType c.begin_at-begin.result c.begin_at-begin.result c.end_at-end.result
      (slice_range c.args.tokens.now c.args.node.from c.args.node.to) c.in_ok-open.ensures.ok c.in_ok-open-2.ensures.ok c.in_ok-own_tokens.ensures.value c.close.ensures.value;
}
