-- What the registry takes of what lies at its end.
use Rattle.std.proofs.Common.{ℕ, List, [], get_or, sym, ap, ◌∙◌, append-nil}
use Rattle.std.specs.Prelude.{slice_set}
use Rattle.std.proofs.lemmas.Option.{get_or_from_slice_get}
use Rattle.atspi_message.specs.Bytes.{written}
use Rattle.atspi_protocol.specs.registering.Steps.{Registry}
use Rattle.atspi_world_parties.specs.Hearing.{HearsAt}
use Rattle.atspi_world_parties.specs.inner.Hearing.{HearsOff}

-- what lies at the end of a connection is taken
pub heard_at : (given : List (List ℕ)) (conn : ℕ) (lay lies : List ℕ) (r t : Registry) → HearsOff (get_or given conn lay) lies r t → HearsAt given (slice_set given conn lies) conn r t
heard_at given conn lay lies r t hears = λ m is there.
    let heard = hears m [] is (get_or_from_slice_get given conn (written m) lay there ∙ sym (append-nil (written m))) in
    record { gone = ap (slice_set given conn) heard.left; took = heard.took }
