-- Words that only the private contracts and proofs beside `Seen` use.
use Rattle.std.specs.Prelude.{◌≡◌, List}
use Rattle.atspi_tree_model.specs.Row.{Each}
use Rattle.atspi_message.specs.Envelope.{Envelope}

-- messages that have no numbers yet
abbrev pub AreUnnumbered : List Envelope → Type 0
AreUnnumbered es = Each (λ (e : Envelope). e.serial ≡ 0) es
