use Rattle.std.proofs.Common.{IsTrue, true, false, ap, refl, subst, sym}
use Rattle.std.specs.Prelude.{Ok}
use Rattle.pj_xexpressions.specs.declared.pmd_function.PmdFunction.{PmdFunction}
use Rattle.pj_xexpressions.specs.declared.pmd_function.PmdFunction.TheVariants as pmd
use Rattle.pj_xvalue.specs.Arguments.{IsGiven}
use Rattle.pj_xvalue.specs.Items.{values_of}
use Rattle.pj_xvalue.specs.Replies.{may_return, outcome}
use Rattle.pj_type_names.proofs.Turns.{asks-as}
use Rattle.pj_node_functions.specs.ModifierWords.{modifiers_at}
use Rattle.pj_node_functions.specs.Replies.{end_column, end_line, kind_reply, start_column, start_line}
use Rattle.pj_javafuncs.specs.Facts.{Facts, facts}
use Rattle.pj_javafuncs.specs.Replies.{reply_to}
use Rattle.pj_javafuncs.proofs.Given.{given-asks}
use Rattle.pj_javafuncs.proofs.OfKind.{call-kind, given-kind, no-code, test-kind}
use Rattle.pj_javafuncs.proofs.replies.reply_to.Goals as goal

pub returns-in-FileName : goal.returns-in-FileName
returns-in-FileName g c =
    let file = c.args.oracle.now.file.now in
    let argument = values_of c.args.argument.now in
    let known : Facts = facts (g.A.Attributes.attribute_of c.args.setting.now.facts.now) (g.A.Attributes.names_of c.args.setting.now.facts.now) (g.A.Attributes.modifiers_of c.args.setting.now.facts.now) (g.A.Attributes.place_of c.args.setting.now.facts.now) c.args.setting.now.path.now in
    let plain = ap (λ (f : PmdFunction). reply_to known file f c.args.at argument) c.in-FileName.is in
    record {
      asks = given-asks _ plain c.file_reply.ensures;
      keeps = c.requires.keeps;
      kind = λ arguments first. given-kind known file c.args.at c.args.function argument arguments _ _ first plain c.file_reply.ensures;
    }

pub returns-in-StartLine : goal.returns-in-StartLine
returns-in-StartLine g c =
    let file = c.args.oracle.now.file.now in
    let argument = values_of c.args.argument.now in
    let known : Facts = facts (g.A.Attributes.attribute_of c.args.setting.now.facts.now) (g.A.Attributes.names_of c.args.setting.now.facts.now) (g.A.Attributes.modifiers_of c.args.setting.now.facts.now) (g.A.Attributes.place_of c.args.setting.now.facts.now) c.args.setting.now.path.now in
    let plain = ap (λ (f : PmdFunction). reply_to known file f c.args.at argument) c.in-StartLine.is in
    let here : IsGiven (start_line known.place_of file argument) (outcome values_of c.start_line.result) = rw c.tree-tree.ensures at c.start_line.ensures in
    record {
      asks = given-asks _ plain here;
      keeps = c.requires.keeps;
      kind = λ arguments first. given-kind known file c.args.at c.args.function argument arguments _ _ first plain here;
    }

pub returns-in-StartColumn : goal.returns-in-StartColumn
returns-in-StartColumn g c =
    let file = c.args.oracle.now.file.now in
    let argument = values_of c.args.argument.now in
    let known : Facts = facts (g.A.Attributes.attribute_of c.args.setting.now.facts.now) (g.A.Attributes.names_of c.args.setting.now.facts.now) (g.A.Attributes.modifiers_of c.args.setting.now.facts.now) (g.A.Attributes.place_of c.args.setting.now.facts.now) c.args.setting.now.path.now in
    let plain = ap (λ (f : PmdFunction). reply_to known file f c.args.at argument) c.in-StartColumn.is in
    let here : IsGiven (start_column known.place_of file argument) (outcome values_of c.start_column.result) = rw c.tree-tree.ensures at c.start_column.ensures in
    record {
      asks = given-asks _ plain here;
      keeps = c.requires.keeps;
      kind = λ arguments first. given-kind known file c.args.at c.args.function argument arguments _ _ first plain here;
    }

pub returns-in-EndLine : goal.returns-in-EndLine
returns-in-EndLine g c =
    let file = c.args.oracle.now.file.now in
    let argument = values_of c.args.argument.now in
    let known : Facts = facts (g.A.Attributes.attribute_of c.args.setting.now.facts.now) (g.A.Attributes.names_of c.args.setting.now.facts.now) (g.A.Attributes.modifiers_of c.args.setting.now.facts.now) (g.A.Attributes.place_of c.args.setting.now.facts.now) c.args.setting.now.path.now in
    let plain = ap (λ (f : PmdFunction). reply_to known file f c.args.at argument) c.in-EndLine.is in
    let here : IsGiven (end_line known.place_of file argument) (outcome values_of c.end_line.result) = rw c.tree-tree.ensures at c.end_line.ensures in
    record {
      asks = given-asks _ plain here;
      keeps = c.requires.keeps;
      kind = λ arguments first. given-kind known file c.args.at c.args.function argument arguments _ _ first plain here;
    }

pub returns-in-EndColumn : goal.returns-in-EndColumn
returns-in-EndColumn g c =
    let file = c.args.oracle.now.file.now in
    let argument = values_of c.args.argument.now in
    let known : Facts = facts (g.A.Attributes.attribute_of c.args.setting.now.facts.now) (g.A.Attributes.names_of c.args.setting.now.facts.now) (g.A.Attributes.modifiers_of c.args.setting.now.facts.now) (g.A.Attributes.place_of c.args.setting.now.facts.now) c.args.setting.now.path.now in
    let plain = ap (λ (f : PmdFunction). reply_to known file f c.args.at argument) c.in-EndColumn.is in
    let here : IsGiven (end_column known.place_of file argument) (outcome values_of c.end_column.result) = rw c.tree-tree.ensures at c.end_column.ensures in
    record {
      asks = given-asks _ plain here;
      keeps = c.requires.keeps;
      kind = λ arguments first. given-kind known file c.args.at c.args.function argument arguments _ _ first plain here;
    }

pub returns-in-MatchesSig : goal.returns-in-MatchesSig
returns-in-MatchesSig g c =
    let file = c.args.oracle.now.file.now in
    let argument = values_of c.args.argument.now in
    let known : Facts = facts (g.A.Attributes.attribute_of c.args.setting.now.facts.now) (g.A.Attributes.names_of c.args.setting.now.facts.now) (g.A.Attributes.modifiers_of c.args.setting.now.facts.now) (g.A.Attributes.place_of c.args.setting.now.facts.now) c.args.setting.now.path.now in
    record {
      asks = asks-as (ap (λ (f : PmdFunction). reply_to known file f c.args.at argument) c.in-MatchesSig.is) c.signature_reply.ensures.asks;
      keeps = c.signature_reply.ensures.keeps;
      kind = λ arguments first. subst (λ (f : PmdFunction). IsTrue (may_return f arguments (outcome values_of c.signature_reply.result))) (sym c.in-MatchesSig.is) (call-kind arguments _ c.signature_reply.ensures.kind);
    }

pub returns-in-NodeIs : goal.returns-in-NodeIs
returns-in-NodeIs g c =
    let file = c.args.oracle.now.file.now in
    let argument = values_of c.args.argument.now in
    let known : Facts = facts (g.A.Attributes.attribute_of c.args.setting.now.facts.now) (g.A.Attributes.names_of c.args.setting.now.facts.now) (g.A.Attributes.modifiers_of c.args.setting.now.facts.now) (g.A.Attributes.place_of c.args.setting.now.facts.now) c.args.setting.now.path.now in
    let plain = ap (λ (f : PmdFunction). reply_to known file f c.args.at argument) c.in-NodeIs.is in
    let here : IsGiven (kind_reply known.attribute_of known.names_of file c.args.at argument) (outcome values_of c.kind_reply.result) = rw c.tree-tree.ensures at c.kind_reply.ensures in
    record {
      asks = given-asks _ plain here;
      keeps = c.requires.keeps;
      kind = λ arguments first. given-kind known file c.args.at c.args.function argument arguments _ _ first plain here;
    }

pub returns-in-Modifiers : goal.returns-in-Modifiers
returns-in-Modifiers g c =
    let file = c.args.oracle.now.file.now in
    let argument = values_of c.args.argument.now in
    let known : Facts = facts (g.A.Attributes.attribute_of c.args.setting.now.facts.now) (g.A.Attributes.names_of c.args.setting.now.facts.now) (g.A.Attributes.modifiers_of c.args.setting.now.facts.now) (g.A.Attributes.place_of c.args.setting.now.facts.now) c.args.setting.now.path.now in
    let plain = ap (λ (f : PmdFunction). reply_to known file f c.args.at argument) c.in-Modifiers.is in
    let here : IsGiven (Ok (modifiers_at (λ n. known.modifiers_of n true) file c.args.at)) (outcome values_of c.modifier_reply.result) = rw c.tree-tree.ensures at c.modifier_reply.ensures in
    record {
      asks = given-asks _ plain here;
      keeps = c.requires.keeps;
      kind = λ arguments first. given-kind known file c.args.at c.args.function argument arguments _ _ first plain here;
    }

pub returns-in-ExplicitModifiers : goal.returns-in-ExplicitModifiers
returns-in-ExplicitModifiers g c =
    let file = c.args.oracle.now.file.now in
    let argument = values_of c.args.argument.now in
    let known : Facts = facts (g.A.Attributes.attribute_of c.args.setting.now.facts.now) (g.A.Attributes.names_of c.args.setting.now.facts.now) (g.A.Attributes.modifiers_of c.args.setting.now.facts.now) (g.A.Attributes.place_of c.args.setting.now.facts.now) c.args.setting.now.path.now in
    let plain = ap (λ (f : PmdFunction). reply_to known file f c.args.at argument) c.in-ExplicitModifiers.is in
    let here : IsGiven (Ok (modifiers_at (λ n. known.modifiers_of n false) file c.args.at)) (outcome values_of c.modifier_reply-in-ExplicitModifiers.result) = rw c.tree-tree.ensures at c.modifier_reply-in-ExplicitModifiers.ensures in
    record {
      asks = given-asks _ plain here;
      keeps = c.requires.keeps;
      kind = λ arguments first. given-kind known file c.args.at c.args.function argument arguments _ _ first plain here;
    }

pub returns-in-TypeIs : goal.returns-in-TypeIs
returns-in-TypeIs g c =
    let file = c.args.oracle.now.file.now in
    let argument = values_of c.args.argument.now in
    let known : Facts = facts (g.A.Attributes.attribute_of c.args.setting.now.facts.now) (g.A.Attributes.names_of c.args.setting.now.facts.now) (g.A.Attributes.modifiers_of c.args.setting.now.facts.now) (g.A.Attributes.place_of c.args.setting.now.facts.now) c.args.setting.now.path.now in
    record {
      asks = asks-as (ap (λ (f : PmdFunction). reply_to known file f c.args.at argument) c.in-TypeIs.is) c.test_reply.ensures.asks;
      keeps = c.test_reply.ensures.keeps;
      kind = λ arguments first. subst (λ (f : PmdFunction). IsTrue (may_return f arguments (outcome values_of c.test_reply.result))) (sym c.in-TypeIs.is)
          (test-kind known file pmd.TypeIs argument arguments _ first (no-code known file arguments) c.test_reply.ensures.kind);
    }

pub returns-in-TypeIsExactly : goal.returns-in-TypeIsExactly
returns-in-TypeIsExactly g c =
    let file = c.args.oracle.now.file.now in
    let argument = values_of c.args.argument.now in
    let known : Facts = facts (g.A.Attributes.attribute_of c.args.setting.now.facts.now) (g.A.Attributes.names_of c.args.setting.now.facts.now) (g.A.Attributes.modifiers_of c.args.setting.now.facts.now) (g.A.Attributes.place_of c.args.setting.now.facts.now) c.args.setting.now.path.now in
    record {
      asks = asks-as (ap (λ (f : PmdFunction). reply_to known file f c.args.at argument) c.in-TypeIsExactly.is) c.test_reply-in-TypeIsExactly.ensures.asks;
      keeps = c.test_reply-in-TypeIsExactly.ensures.keeps;
      kind = λ arguments first. subst (λ (f : PmdFunction). IsTrue (may_return f arguments (outcome values_of c.test_reply-in-TypeIsExactly.result))) (sym c.in-TypeIsExactly.is)
          (test-kind known file pmd.TypeIsExactly argument arguments _ first (λ code is. refl) c.test_reply-in-TypeIsExactly.ensures.kind);
    }

pub returns-in-HasAnnotation : goal.returns-in-HasAnnotation
returns-in-HasAnnotation g c =
    let file = c.args.oracle.now.file.now in
    let argument = values_of c.args.argument.now in
    let known : Facts = facts (g.A.Attributes.attribute_of c.args.setting.now.facts.now) (g.A.Attributes.names_of c.args.setting.now.facts.now) (g.A.Attributes.modifiers_of c.args.setting.now.facts.now) (g.A.Attributes.place_of c.args.setting.now.facts.now) c.args.setting.now.path.now in
    record {
      asks = asks-as (ap (λ (f : PmdFunction). reply_to known file f c.args.at argument) c.in-HasAnnotation.is) c.test_reply-in-HasAnnotation.ensures.asks;
      keeps = c.test_reply-in-HasAnnotation.ensures.keeps;
      kind = λ arguments first. subst (λ (f : PmdFunction). IsTrue (may_return f arguments (outcome values_of c.test_reply-in-HasAnnotation.result))) (sym c.in-HasAnnotation.is)
          (test-kind known file pmd.HasAnnotation argument arguments _ first (λ code is. refl) c.test_reply-in-HasAnnotation.ensures.kind);
    }
