use Rattle.std.proofs.Common.{◌≡◌, Some, None, ap, sym, ◌∙◌, subst, rules}
use Rattle.pj_symbols.specs.Order.{IsRisingFrom}
use Rattle.pj_symbols.specs.Symbols.{class_of}
use Rattle.pj_symbols.specs.declared.class.Class.{Class}
use Rattle.pj_symbols.proofs.Below.{rise_below, found_is}
use Rattle.pj_symbols.proofs.symbols.name_around.Goals as goal

some_is : (e f : Class) → Some e ≡ Some f → e ≡ f
some_is e f is = search (rules, is)

pub find_class-requires : goal.find_class-requires
find_class-requires c = record { rising = subst (IsRisingFrom 0) (sym c.requires.known) (rise_below c.args.tree.now c.args.n.0) }

pub returns-in-Some-find_class : goal.returns-in-Some-find_class
returns-in-Some-find_class c =
    let t = c.args.tree.now in
    let found : Some c.in-Some-find_class.class.now ≡ Some (class_of t c.in-Some.owner) =
    c.in-Some-find_class.ensures ∙ found_is t c.args.known.now c.args.n.0 c.in-Some.owner c.requires.known c.in-Some.ensures.before c.in-Some.ensures.class in
    c.as_str.ensures ∙ ap (λ (x : Class). x.name) (some_is c.in-Some-find_class.class.now (class_of t c.in-Some.owner) found) ∙ sym c.in-Some.ensures.name

pub returns-in-None-find_class : goal.returns-in-None-find_class
returns-in-None-find_class c =
    let t = c.args.tree.now in
    let found : None ≡ Some (class_of t c.in-Some.owner) =
    c.in-None-find_class.ensures ∙ found_is t c.args.known.now c.args.n.0 c.in-Some.owner c.requires.known c.in-Some.ensures.before c.in-Some.ensures.class in
    absurd (cc)
