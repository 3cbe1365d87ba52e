-- News of children, and the pairs that ask for them.
use Rattle.std.specs.Prelude.{◌≡◌, ℕ, Bool, true, List, [], ◌∷◌, codes}
use Rattle.atspi_types.specs.Data.{Data, text_data}
use Rattle.atspi_message.specs.Envelope.{Envelope}
use Rattle.atspi_protocol.specs.members.Asked.{is_text}
use Rattle.atspi_protocol.specs.registering.Told.{is_asked_for}

-- the message is news of children (AT-SPI2's Event.Object interface)
abbrev pub is_children_news : Envelope → Bool
is_children_news e = is_text e.member (codes "ChildrenChanged")

-- what it says of the child, added or removed: the first of its values
abbrev pub minor_in : List Data → List ℕ
minor_in (text_data word ∷ ds) = word
minor_in ds = []

-- each news of children among the messages is one that some of the pairs asks for
abbrev pub AllAskedFor : List (List ℕ × List ℕ) → List Envelope → Type 0
AllAskedFor pairs [] = Unit {0}
AllAskedFor pairs (e ∷ es) = (is_children_news e ≡ true → is_asked_for pairs (minor_in e.body) ≡ true)
    × AllAskedFor pairs es
