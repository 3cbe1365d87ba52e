-- The launcher as the end of a conversation.
use Rattle.std.specs.Prelude.{ℕ, List, length}
use Rattle.atspi_message.specs.Envelope.{Envelope}
use Rattle.atspi_live_conversation.specs.Talking.{HasNone}
use Rattle.atspi_live_launcher.specs.Standing.{IsAfter, IsSpent}
use Rattle.atspi_live_launcher.specs.declared.live_launcher.LiveLauncher.{LiveLauncher}

abbrev pub address_of : LiveLauncher → List ℕ
address_of l = l.launcher.state.address

abbrev pub StandsOf : List ℕ → LiveLauncher → List Envelope → List Envelope → Type 0
StandsOf address l took said = IsAfter address l.launcher took said

abbrev pub IsSpentOf : LiveLauncher → Envelope → Type 0
IsSpentOf l e = IsSpent l.launcher e

abbrev pub queued_of : LiveLauncher → ℕ
queued_of l = length l.launcher.out

abbrev pub HasNothing : LiveLauncher → Type 0
HasNothing l = HasNone queued_of l
