-- Bytes that await more begin with no message.
use Rattle.std.proofs.Common.{ℕ, List, take, drop, refl, sym}
use Rattle.std.proofs.lemmas.List.{take-append-drop}
use Rattle.atspi_message.specs.Envelope.{Envelope}
use Rattle.atspi_message.specs.Bytes.{IsMessage}
use Rattle.atspi_stream.specs.Stream.{stated, AwaitsMore, few, unfinished}
use Rattle.atspi_world_links.proofs.Fronts.{not_short, not_less}

pub no_message : (e : Envelope) (held : List ℕ) (len : ℕ) → IsMessage e (take len held) → AwaitsMore held → ⊥
no_message e held len is (few short) = not_short e held (take len held) (drop len held) is (sym (take-append-drop len held)) short
no_message e held len is (unfinished long sound less) = not_less e held (take len held) (drop len held) is (sym (take-append-drop len held)) (take 16 held) (stated held) refl refl less
