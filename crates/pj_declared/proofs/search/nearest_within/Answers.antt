use Rattle.std.proofs.Common.{◌<◌, Some, sym, ap, ◌∙◌, arith}
use Rattle.pj_declared.proofs.Within.{none_before, none_there, first_inside, found_there}
use Rattle.pj_declared.proofs.search.nearest_within.Goals as goal

pub returns-then-past-eq0 : goal.returns-then-past-eq0
returns-then-past-eq0 c = none_before c.args.rows.now c.requires.ordered c.args.name.now c.args.within c.args.place c.count_before-past.result c.count_before-past.ensures.split c.if-past-eq0.true

pub returns-then-not-is_of : goal.returns-then-not-is_of
returns-then-not-is_of c =
    none_there c.args.rows.now c.requires.ordered c.args.name.now c.args.within c.args.place c.count_before-past.result c.count_before-past.ensures.split
    c.index-rows-past.result c.count_before-past.ensures.few (sym c.index-rows-past.is) (sym c.is_of.ensures ∙ c.if-not-is_of.true)

first_is_inside : (c : goal.After-count_before-first) → c.count_before-first.result < c.count_before-past.result
first_is_inside c =
    first_inside c.args.rows.now c.requires.ordered c.args.name.now c.args.within c.args.place c.count_before-past.result c.count_before-past.ensures.split
    c.index-rows-past.result (omega arith) c.count_before-past.ensures.few (sym c.index-rows-past.is) (sym c.is_of.ensures ∙ c.if-not-is_of.false)
    c.count_before-first.result c.count_before-first.ensures.split

pub bounds-rows-first : goal.bounds-rows-first
bounds-rows-first c = let l = first_is_inside c in omega (arith, c.count_before-past.ensures.few)

pub bounds-rows-first-else-not-is_of : goal.bounds-rows-first-else-not-is_of
bounds-rows-first-else-not-is_of c = let l = first_is_inside c in omega (arith, c.count_before-past.ensures.few)

pub returns : goal.returns
returns c =
    ap Some c.declared_by.ensures
    ∙ found_there c.args.rows.now c.requires.ordered c.args.name.now c.args.within c.args.place c.count_before-past.result c.count_before-past.ensures.split
    c.index-rows-past.result (omega arith) c.count_before-past.ensures.few (sym c.index-rows-past.is) (sym c.is_of.ensures ∙ c.if-not-is_of.false)
    c.count_before-first.result c.count_before-first.ensures.split c.index-rows-first.result
