use Rattle.std.proofs.Common.{◌≡◌, ℕ, ◌+◌, length, take}
use Rattle.atspi_types.specs.Data.{items_of}
use Rattle.atspi_types.specs.DataView.{all_data}
use Rattle.atspi_types.specs.declared.fault.Order.{Order}
use Rattle.atspi_marshal.specs.Spelling.{spellings}
use Rattle.atspi_message.specs.Length.{told}
use Rattle.atspi_message_forwarding.proofs.text_lists.texts_end.Given as goal

abbrev pub invariant-loop-i : goal.invariant-loop-i
invariant-loop-i l = (o : Order) (place : ℕ) → l.at ≡ told place → l.end ≡ told (place + length (spellings o place (items_of (take l.i (all_data l.texts)))))
