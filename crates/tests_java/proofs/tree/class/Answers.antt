use Rattle.std.proofs.Common.{◌≡◌, ◌∙◌, ◌≤◌, ℕ, zero, suc, nat_lt, true, List, [], ◌∷◌, codes, refl, sym, ap, subst, arith, lit<}
use Rattle.std.specs.List.{list_all}
use Rattle.std.specs.Str.{IsAscii}
use Rattle.std.proofs.lemmas.Bool.{and_parts, ltb-true}
use Rattle.std.proofs.lemmas.Str.{IsCharBoundary-from_ascii}
use Rattle.pj_tree.specs.Building.{Building, IsWhole, opened, closed, owned}
use Rattle.pj_tree.specs.Nested.{Parts, NoMore, Token, Child, AreSpansOf}
use Rattle.pj_tree.specs.Tree.{IsSpanOf}
use Rattle.pj_tree.specs.declared.kind.Kind.TheVariants.{CompilationUnit, ClassDeclaration, ModifierList, ClassBody}
use Rattle.pj_tree.specs.declared.node.Span.{Span}
use Rattle.tests_java.proofs.tree.class.Goals as goal

abbrev text : List ℕ
text = codes "class A {}"

abbrev span : ℕ → ℕ → Span
span from to = record { from = from; to = to }

-- the body has its two braces
abbrev body : Parts
body = Token (span 8 9) (Token (span 9 10) NoMore)

-- the class has its keyword, its modifiers, its name and its body
abbrev class : Parts
class = Token (span 0 5) (Child ModifierList 6 NoMore 6 (Token (span 6 7) (Child ClassBody 8 body 10 NoMore)))

ascii : (bs : List ℕ) → list_all (λ b. nat_lt b 128) bs ≡ true → IsAscii bs
ascii [] e i = lit< tt
ascii (b ∷ bs) e zero = ltb-true b 128 (and_parts (nat_lt b 128) (list_all (λ x. nat_lt x 128) bs) e).0
ascii (b ∷ bs) e (suc i) = ascii bs (and_parts (nat_lt b 128) (list_all (λ x. nat_lt x 128) bs) e).1 i

is_span : (from to : ℕ) → from ≤ to → to ≤ 10 → IsSpanOf text (span from to)
is_span from to ordered within = record {
  ordered = ordered;
  begins = IsCharBoundary-from_ascii text from (ascii text refl) (omega arith);
  ends = IsCharBoundary-from_ascii text to (ascii text refl) within;
}

whole : IsSpanOf text (span 0 10)
whole = is_span 0 10 (omega arith) (omega arith)

body_spans : AreSpansOf text body
body_spans = (is_span 8 9 (omega arith) (omega arith), (is_span 9 10 (omega arith) (omega arith), tt))

class_spans : AreSpansOf text class
class_spans = (is_span 0 5 (omega arith) (omega arith), (is_span 6 6 (omega arith) (omega arith), tt, (is_span 6 7 (omega arith) (omega arith), (is_span 8 10 (omega arith) (omega arith), body_spans, tt))))

pub finish-requires : goal.finish-requires
finish-requires c =
    let step_1 = c.in_ok-open.ensures.ok ∙ ap (λ (b : Building). opened b CompilationUnit 0) c.new-builder.ensures.value in
    let step_2 = c.in_ok-open-2.ensures.ok ∙ ap (λ (b : Building). opened b ClassDeclaration 0) step_1 in
    let step_3 = c.in_ok-own.ensures.ok ∙ ap (λ (b : Building). owned b (span 0 5)) step_2 in
    let step_4 = c.in_ok-open-3.ensures.ok ∙ ap (λ (b : Building). opened b ModifierList 6) step_3 in
    let step_5 = c.close.ensures.value ∙ ap (λ (b : Building). closed b 6) step_4 in
    let step_6 = c.in_ok-own-2.ensures.ok ∙ ap (λ (b : Building). owned b (span 6 7)) step_5 in
    let step_7 = c.in_ok-open-4.ensures.ok ∙ ap (λ (b : Building). opened b ClassBody 8) step_6 in
    let step_8 = c.in_ok-own-3.ensures.ok ∙ ap (λ (b : Building). owned b (span 8 9)) step_7 in
    let step_9 = c.in_ok-own-4.ensures.ok ∙ ap (λ (b : Building). owned b (span 9 10)) step_8 in
    let step_10 = c.close-2.ensures.value ∙ ap (λ (b : Building). closed b 10) step_9 in
    let step_11 = c.close-3.ensures.value ∙ ap (λ (b : Building). closed b 10) step_10 in
    let step_12 = c.close-4.ensures.value ∙ ap (λ (b : Building). closed b 10) step_11 in
    record { whole = subst IsWhole (sym step_12) (c.new-builder.ensures.calls.whole CompilationUnit 0 10 (Child ClassDeclaration 0 class 10 NoMore) (whole, (whole, class_spans, tt), tt)) }
