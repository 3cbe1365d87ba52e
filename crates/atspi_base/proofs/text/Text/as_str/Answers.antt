use Rattle.std.proofs.Common.{encode_utf8_all, sym, ap, ◌∙◌}
use Rattle.std.proofs.lemmas.Str.{IsUtf8-string_bytes}
use Rattle.atspi_base.proofs.TextLemmas.{encodes_again}
use Rattle.atspi_base.proofs.text.Text.as_str.Goals as goal

pub returns-clause-spelled : goal.returns-clause-spelled
returns-clause-spelled c = sym (ap encode_utf8_all (sym c.self.view_is) ∙ encodes_again _ (IsUtf8-string_bytes c.self.inside.string) ∙ sym c.deref.ensures)
