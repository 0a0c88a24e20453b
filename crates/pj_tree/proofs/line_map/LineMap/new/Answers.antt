use Rattle.std.proofs.Common.{sym, rules, ℕ, ◌≡◌, ◌+◌, ◌∷◌, ◌++◌, [], List, arith, ap, ◌∙◌, subst}
use Rattle.std.specs.Char.{len_utf8}
use Rattle.pj_tree.specs.Places.{first_place}
use Rattle.pj_tree.specs.Runs.{Takes, place_by}
use Rattle.pj_tree.specs.declared.run.Run.{Run}
use Rattle.pj_tree.specs.Places.{ArePlacesOf, places_of}
use Rattle.pj_tree.specs.Runs.{places_by}
use Rattle.pj_tree.specs.declared.node.Place.{Place}
use Rattle.pj_tree.proofs.PlaceLaws.{places_are}
use Rattle.pj_tree.proofs.line_map.LineMap.new.Goals as goal
use Rattle.pj_tree.proofs.RunPlaces.{walk_begins, walk_on, walk_ends, length-each_below}

pub loop-c-init : goal.loop-c-init
loop-c-init c =
    let items : c.push.new.self.items ≡ record { from = 0; width = 1; place = first_place } ∷ [] = c.in_ok-push.ensures.items ∙ ap (λ (rs : List Run). rs ++ record { from = 0; width = 1; place = first_place } ∷ []) c.new-runs.ensures.items in
    record { is_text = c.utf8.text; mapped = rw items (walk_begins c.args.text.now c.requires.length) }

pub loop-c-preserved : goal.loop-c-preserved
loop-c-preserved c =
    let width : c.len_utf8-width.result ≡ len_utf8 c.in-Some.c = c.len_utf8-width.ensures.value in
    let takes : Takes c.go_on.new.runs.items c.loop-c.offset (len_utf8 c.in-Some.c) c.loop-c.place = subst (λ (w : ℕ). Takes c.go_on.new.runs.items c.loop-c.offset w c.loop-c.place) width c.in_ok-go_on.ensures.takes in
    record {
      is_text = search rules;
      mapped = rw (c.place_after-place.ensures, width)
          (walk_on c.args.text.now c.loop-c.runs.items c.go_on.new.runs.items c.loop-c.offset c.loop-c.place c.loop-c.rest.now c.in-Some.behind.now c.in-Some.c c.requires.length c.loop-c.invariant.mapped
          c.in-Some.ensures.chars c.in-Some.ensures.len c.in_ok-go_on.ensures.runs takes c.in_ok-go_on.ensures.same);
    }

pub returns-clause-places : goal.returns-clause-places
returns-clause-places c =
    walk_ends c.args.text.now c.loop-c.runs.items c.go_on-2.new.runs.items c.loop-c.offset c.loop-c.place c.loop-c.rest.now c.loop-c.invariant.mapped c.in_default.ensures.chars
    c.in_ok-go_on-2.ensures.runs c.in_ok-go_on-2.ensures.takes c.in_ok-go_on-2.ensures.same

pub returns-clause-len : goal.returns-clause-len
returns-clause-len c = omega (arith, length-each_below (place_by c.go_on-2.new.runs.items) (c.loop-c.offset + 1), c.loop-c.invariant.mapped.len, c.in_default.ensures.len)

pub returns-clause-counted : goal.returns-clause-counted
returns-clause-counted c =
    let same : places_by c.go_on-2.new.runs.items c.loop-c.offset ≡ places_of c.args.text.now = walk_ends c.args.text.now c.loop-c.runs.items c.go_on-2.new.runs.items c.loop-c.offset c.loop-c.place c.loop-c.rest.now c.loop-c.invariant.mapped c.in_default.ensures.chars
    c.in_ok-go_on-2.ensures.runs c.in_ok-go_on-2.ensures.takes c.in_ok-go_on-2.ensures.same in
    subst (λ (ps : List Place). ArePlacesOf c.args.text.now ps) (sym same) (places_are c.args.text.now c.utf8.text)
