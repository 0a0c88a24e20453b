use Rattle.std.proofs.Common.{◌≡◌, ◌+◌, ◌∙◌, ap, refl, ℕ, length, string_len, subst}
use Rattle.std.specs.Char.{len_utf8}
use Rattle.std.proofs.lemmas.Str.{length-encode}
use Rattle.pj_source.specs.SourceRuns.{AreRuns, Takes, SameBelow}
use Rattle.pj_source.proofs.TranslationLaws.{made_more}
use Rattle.pj_source.proofs.source.translation.Translation.take.Goals as goal

pub returns-clause-made : goal.returns-clause-made
returns-clause-made c = λ pieces left made fits shorter.
    let at : c.len.result ≡ string_len c.args.self.now.text = c.len.ensures in
    let width : c.len_utf8-width.result ≡ len_utf8 c.args.front.now.character = c.len_utf8-width.ensures.value in
    made_more c.args.self.now (record { text = c.push.new.self; runs = c.go_on.new.runs; place = c.place_behind-self.result; escaped = c.args.front.now.escaped; even = c.even_with-self.result }) pieces left (length c.args.front.now.behind.now)
    c.args.front.now.character c.args.front.now.length c.args.front.now.escaped made c.in_ok-push.ensures.bytes
    (c.in_ok-push.ensures.len ∙ ap (λ (n : ℕ). string_len c.args.self.now.text + n) (length-encode c.args.front.now.character))
    (subst (λ (n : ℕ). AreRuns c.go_on.new.runs.items n left) at (c.in_ok-go_on.ensures.runs left (rw at made.runs) made.column))
    (subst (λ (n : ℕ). Takes c.go_on.new.runs.items n (len_utf8 c.args.front.now.character) c.args.self.now.place) at (subst (λ (w : ℕ). Takes c.go_on.new.runs.items c.len.result w c.args.self.now.place) width c.in_ok-go_on.ensures.takes))
    (subst (λ (n : ℕ). SameBelow c.args.self.now.runs.items c.go_on.new.runs.items n) at c.in_ok-go_on.ensures.same)
    refl c.even_with-self.ensures c.place_behind-self.ensures.column c.place_behind-self.ensures.line c.requires.can.some fits shorter
