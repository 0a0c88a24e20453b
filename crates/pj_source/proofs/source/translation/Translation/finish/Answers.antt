use Rattle.std.proofs.Common.{◌≡◌, arith, subst, ℕ, string_bytes, string_len}
use Rattle.pj_source.specs.SourceRuns.{AreRuns, Takes, SameBelow}
use Rattle.pj_source.proofs.TranslationLaws.{source_is}
use Rattle.pj_source.proofs.source.translation.Translation.finish.Goals as goal

pub invariant_of-result : goal.invariant_of-result
invariant_of-result c =
    let at : c.len-end.result ≡ string_len c.args.self.text = c.len-end.ensures in
    let runs : AreRuns c.go_on.new.runs.items (string_len c.args.self.text) 0 = subst (λ (n : ℕ). AreRuns c.go_on.new.runs.items n 0) at (c.in_ok-go_on.ensures.runs 0 (rw at c.requires.runs) (omega (arith, c.requires.column))) in
    runs.order

pub returns-clause-source : goal.returns-clause-source
returns-clause-source c = λ pieces left made.
    let at : c.len-end.result ≡ string_len c.args.self.text = c.len-end.ensures in
    source_is (string_bytes c.args.self.text) c.args.self.runs.items c.go_on.new.runs.items (string_len c.args.self.text) c.args.self.place pieces made.text made.places
    (subst (λ (n : ℕ). AreRuns c.go_on.new.runs.items n 0) at (c.in_ok-go_on.ensures.runs 0 (rw at c.requires.runs) (omega (arith, c.requires.column))))
    (subst (λ (n : ℕ). Takes c.go_on.new.runs.items n 1 c.args.self.place) at c.in_ok-go_on.ensures.takes)
    (subst (λ (n : ℕ). SameBelow c.args.self.runs.items c.go_on.new.runs.items n) at c.in_ok-go_on.ensures.same)
