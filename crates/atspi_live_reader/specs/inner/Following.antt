-- Words behind `Following` that only private contracts and proofs use.
use Rattle.std.specs.Prelude.{⊤}
use Rattle.atspi_live_conversation.specs.declared.ending.Ending.{Ending}
use Rattle.atspi_live_conversation.specs.declared.ending.Ending.TheVariants as endings

-- a run that was over so may have left words to be written: before authentication is over a reader has none, and behind
-- want of memory none are told
abbrev pub HasWords : Ending → Type 0
HasWords endings.NotAuthenticated = ⊥
HasWords endings.NoMemory = ⊥
HasWords ending = ⊤
