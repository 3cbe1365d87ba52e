use Rattle.std.proofs.Common.{refl, subst, sym}
use Rattle.std.proofs.lemmas.Result.{on_ok_weaker}
use Rattle.atspi_protocol.specs.declared.news.part.PartName.{PartName}
use Rattle.atspi_reader_known.specs.declared.refused.Parts.{Parts}
use Rattle.atspi_reader_known.specs.Refusals.{Puts}
use Rattle.atspi_reader_known.proofs.Refusals.{puts_caret, puts_columns, puts_text}
use Rattle.atspi_reader_known.proofs.refused.Parts.put.Goals as goal

pub returns-in-Text-clause-ok : goal.returns-in-Text-clause-ok
returns-in-Text-clause-ok c =
    let new : Parts = record { texts = c.put.new.set; carets = c.args.self.now.carets; columns = c.args.self.now.columns } in
    on_ok_weaker c.put.result
    (λ h. subst (λ (p : PartName). Puts c.args.self.now new c.args.path.now p) (sym c.in-Text.is) (puts_text c.args.self.now new c.args.path.now refl refl h)) c.put.ensures.ok

pub returns-in-Caret-clause-ok : goal.returns-in-Caret-clause-ok
returns-in-Caret-clause-ok c =
    let new : Parts = record { texts = c.args.self.now.texts; carets = c.put-in-Caret.new.set; columns = c.args.self.now.columns } in
    on_ok_weaker c.put-in-Caret.result
    (λ h. subst (λ (p : PartName). Puts c.args.self.now new c.args.path.now p) (sym c.in-Caret.is) (puts_caret c.args.self.now new c.args.path.now refl refl h)) c.put-in-Caret.ensures.ok

pub returns-in-Columns-clause-ok : goal.returns-in-Columns-clause-ok
returns-in-Columns-clause-ok c =
    let new : Parts = record { texts = c.args.self.now.texts; carets = c.args.self.now.carets; columns = c.put-in-Columns.new.set } in
    on_ok_weaker c.put-in-Columns.result
    (λ h. subst (λ (p : PartName). Puts c.args.self.now new c.args.path.now p) (sym c.in-Columns.is) (puts_columns c.args.self.now new c.args.path.now refl refl h)) c.put-in-Columns.ensures.ok
