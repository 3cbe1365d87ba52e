use Rattle.std.proofs.Common.{◌≡◌, ℕ, List, [], Result, Ok, refl}
use Rattle.std.specs.Prelude.{chars}
use Rattle.std.specs.Str.{is_utf8}
use Rattle.std.specs.Str.Lossy.{utf8_valid_len}
use Rattle.std.proofs.lemmas.Str.{chars-encodes}
use Rattle.atspi_base.specs.ReadsText.{text_in}
use Rattle.atspi_base.specs.declared.text.TextFault.{TextFault}
use Rattle.atspi_tree.proofs.cell.empty_text.Goals as goal

-- no bytes are the empty text
none : text_in [] ≡ Ok []
unfolding text_in utf8_valid_len is_utf8
none = let e : chars [] ≡ [] = chars-encodes [] refl in rw e refl

same : (t : List ℕ) (r : Result (List ℕ) TextFault) → r ≡ Ok t → r ≡ Ok [] → t ≡ []
same t r e k = cc

pub returns-in-Ok : goal.returns-in-Ok
returns-in-Ok c = same c.in-Ok.text (text_in []) c.in-Ok.ensures.text none
