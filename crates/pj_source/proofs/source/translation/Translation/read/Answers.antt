use Rattle.std.proofs.Common.{rules, arith, sym, ◌∙◌, inr, length, string_len}
use Rattle.std.specs.Str.{chars}
use Rattle.pj_source.specs.SourceRuns.{AreRuns}
use Rattle.pj_source.specs.Translating.{GoesOn, IsFront}
use Rattle.pj_source.proofs.SourceRunPlaces.{runs_less}
use Rattle.pj_source.proofs.TranslationLaws.{goes_more, goes_out, ends_in_sub, ends}
use Rattle.pj_source.proofs.source.translation.Translation.read.Goals as goal

pub returns-in-None-clause-read : goal.returns-in-None-clause-read
returns-in-None-clause-read c =
    inr (goes_out c.args.self.now.place (chars c.args.text.now) (chars c.loop-c.rest.now) c.loop-c.self (length c.loop-c.rest.now) c.is_eligible.result c.loop-c.invariant.goes_on c.is_eligible.ensures c.in-None.ensures.front)

pub returns-then-is_last_sub-clause-read : goal.returns-then-is_last_sub-clause-read
returns-then-is_last_sub-clause-read c =
    ends_in_sub c.args.self.now.place (chars c.args.text.now) (chars c.loop-c.rest.now) (chars c.in-Some-split_front.front.behind.now) c.loop-c.self (length c.loop-c.rest.now) c.in-Some-split_front.front.character c.in-Some-split_front.front.length c.in-Some-split_front.front.escaped
    c.is_eligible.result c.loop-c.invariant.goes_on c.is_eligible.ensures c.in-Some-split_front.ensures.front (sym c.is_last_sub.ensures ∙ c.if-is_last_sub.true)

pub take-requires : goal.take-requires
take-requires c =
    let runs : AreRuns c.loop-c.self.runs.items (string_len c.loop-c.self.text) 0 = runs_less c.loop-c.self.runs.items (string_len c.loop-c.self.text) (length c.loop-c.rest.now) 0 c.loop-c.invariant.goes_on.made.runs (omega arith) in
    record {
      can = record {
        runs = runs;
        size = omega (arith, c.loop-c.invariant.goes_on.made.size);
        column = omega (arith, c.loop-c.invariant.goes_on.made.column, c.in-Some-split_front.ensures.len);
        line = omega (arith, c.loop-c.invariant.goes_on.made.line, c.in-Some-split_front.ensures.len, c.in-Some-split_front.ensures.some);
        some = c.in-Some-split_front.ensures.some;
      };
    }

pub loop-c-preserved : goal.loop-c-preserved
loop-c-preserved c =
    let f : IsFront c.is_eligible.result (chars c.loop-c.rest.now) c.in-Some-split_front.front.character c.in-Some-split_front.front.escaped c.in-Some-split_front.front.length (chars c.in-Some-split_front.front.behind.now) = c.in-Some-split_front.ensures.front in
    let g : GoesOn c.args.self.now.place (chars c.args.text.now) c.loop-c.self (chars c.loop-c.rest.now) (length c.loop-c.rest.now) = c.loop-c.invariant.goes_on in
    record {
      is_text = search rules;
      goes_on = goes_more c.args.self.now.place (chars c.args.text.now) (chars c.loop-c.rest.now) (chars c.in-Some-split_front.front.behind.now) c.loop-c.self c.take.new.self (length c.loop-c.rest.now) (length c.in-Some-split_front.front.behind.now)
          c.in-Some-split_front.front.character c.in-Some-split_front.front.length c.in-Some-split_front.front.escaped c.is_eligible.result g c.is_eligible.ensures f (sym c.is_last_sub.ensures ∙ c.if-is_last_sub.false)
          (c.in_ok-take.ensures.place c.is_eligible.result (chars c.loop-c.rest.now) f)
          (c.in_ok-take.ensures.made g.pieces (length c.loop-c.rest.now) g.made c.in-Some-split_front.ensures.len c.in-Some-split_front.ensures.shorter);
      len = omega (arith, c.loop-c.invariant.len, c.in_ok-take.ensures.len, c.in-Some-split_front.ensures.shorter);
    }

pub returns-clause-read : goal.returns-clause-read
returns-clause-read c = ends c.args.self.now.place (chars c.args.text.now) (chars c.loop-c.rest.now) c.loop-c.self (length c.loop-c.rest.now) c.loop-c.invariant.goes_on c.in_default.ensures.chars
