use Rattle.std.proofs.Common.{◌≢◌, ◌∙◌, ◌++◌, List, ℕ, Some, Bor, ap, map}
use Rattle.std.proofs.lemmas.List.{length-map}
use Rattle.csv.specs.Writing.{row_text, text_written, writer_setup}
use Rattle.csv.specs.declared.writer.QuoteStyle.TheVariants as style
use Rattle.csv.specs.declared.writer.WriterBuilder.{WriterBuilder}
use Rattle.pj_reports.proofs.CsvFacts.{appended, row_text-is}
use Rattle.pj_reports.proofs.csv_form.put_row.Goals as goal
use Rattle.pj_reports.proofs.csv_form.put_row.Goals.{in-Ok, in-Err}

pub returns : goal.returns
returns c = λ text h.
    let fields = map (λ (f : Bor (List ℕ)). f.now) c.args.fields.now in
    elim c.match-write_fields.branch [
      | in-Ok w ↦
          let plain : (writer_setup c.args.writer.now).style ≢ style.NonNumeric = rw h.setup (λ e. cc e) in
          let grown = w.in-Ok.ensures.bytes h.fields h.fresh plain in
          let written = appended (text_written (λ v. Some v.items) c.args.writer.now) (text_written (λ v. Some v.items) c.write_fields.new.self) text
          (row_text (writer_setup c.args.writer.now) fields) h.written grown in
          rw w.result-is (record {
            fields = w.in-Ok.ensures.ended;
            fresh = w.in-Ok.ensures.clean;
            setup = w.in-Ok.ensures.setup ∙ h.setup;
            written = written ∙ ap (λ (s : WriterBuilder). Some (text ++ row_text s fields)) h.setup
                ∙ ap (λ t. Some (text ++ t)) (row_text-is fields (rw length-map c.requires));
          })
      | in-Err w ↦ rw w.result-is tt
    ]
