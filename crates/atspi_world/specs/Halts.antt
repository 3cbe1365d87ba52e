-- Lines that are broken off: a part of one was done, and then the registry was dropped, or serials were spent.
use Rattle.std.specs.Prelude.{◌≡◌, ◌⊎◌, false, true, List, ◌++◌, None}
use Rattle.atspi_script_lines.specs.declared.line.Line.{Line}
use Rattle.atspi_world_moves.specs.Halted.{AreNamedAs, HaveNames}
use Rattle.atspi_trace.specs.Entry.{Entry, entries_of}
use Rattle.atspi_trace.specs.Due.{is_lost}
use Rattle.atspi_trace.specs.Work.{Work, work_of}
use Rattle.atspi_trace.specs.play.Breaking.{IsSpent, does_next, IsLostAt, IsSpentAt, PlayedTurns}
use Rattle.atspi_trace.specs.play.Played.{refused}
use Rattle.atspi_trace.specs.play.Playing.{Playing, Happened}
use Rattle.atspi_world_parties.specs.Refusals.{first_refusal}
use Rattle.atspi_world.specs.Worlds.{Staged, IsPlaying}

-- WHAT HAPPENED DROPPED THE REGISTRY, and all that it writes was written; the connections have the names that ends have
-- behind it
pub record IsLostBy (h : Happened) (old new : Staged) : Type 0 where
  pub lost : is_lost h.now.world ≡ true
  pub wrote : entries_of new.trace ≡ entries_of old.trace ++ h.entries
  pub names : HaveNames h.now.world new.posts

-- WHAT HAPPENED SPENT SERIALS, and a front of what it writes was written; the connections have the names that they had
-- before, or those behind it
pub record IsSpentBy (h : Happened) (old new : Staged) : Type 0 where
  pub spent : IsSpent h.now
  pub part : List Entry
  pub missing : List Entry
  pub front : h.entries ≡ part ++ missing
  pub wrote : entries_of new.trace ≡ entries_of old.trace ++ part
  pub names : AreNamedAs old.posts new.posts ⊎ HaveNames h.now.world new.posts

-- what is left of a line was begun: some of its causes were done, and the next of them drops the registry; the
-- connections have the names that ends have behind it
abbrev pub WorkLost : Playing → Work → Staged → Staged → Type 0
WorkLost p work old new =
    (entries : List Entry) × (broke : IsLostAt p work entries)
    × (entries_of new.trace ≡ entries_of old.trace ++ entries) × HaveNames (does_next broke.at).now.world new.posts

-- or the next of them spends serials: the connections have the names that ends have before it, or behind it
abbrev pub WorkSpent : Playing → Work → Staged → Staged → Type 0
WorkSpent p work old new =
    (entries : List Entry) × (broke : IsSpentAt p work entries)
    × (entries_of new.trace ≡ entries_of old.trace ++ entries)
    × (HaveNames broke.at.moved new.posts ⊎ HaveNames (does_next broke.at).now.world new.posts)

-- 4,398,046,511,104 turns were made, one behind the other, and the registry is there
abbrev pub ManyTurns : Playing → Staged → Staged → Type 0
ManyTurns p old new = (entries : List Entry) × (q : Playing) × PlayedTurns 4398046511104 p entries q
    × (is_lost q.world ≡ false) × (entries_of new.trace ≡ entries_of old.trace ++ entries)

-- A LINE THAT THE WORLD DOES NOT REFUSE WAS BEGUN, and the registry was dropped
abbrev pub IsLineLost : Playing → Line → Staged → Staged → Type 0
IsLineLost p line old new = (refused p line ≡ None) × WorkLost p (work_of p.world line) old new

abbrev pub LineLost : Line → Staged → Staged → Type 0
LineLost line old new = (p : Playing) → IsPlaying p old → IsLineLost p line old new

-- ONE WAS BEGUN, AND SERIALS WERE SPENT, or so many turns were made that they had to be
abbrev pub IsLineSpent : Playing → Line → Staged → Staged → Type 0
IsLineSpent p line old new = (refused p line ≡ None)
    × (WorkSpent p (work_of p.world line) old new ⊎ ManyTurns p old new)

abbrev pub LineSpent : Line → Staged → Staged → Type 0
LineSpent line old new = (p : Playing) → IsPlaying p old → IsLineSpent p line old new

-- the same of a line that is refused by no more than the edit or the call that it asks for
abbrev pub LineLostElse : Line → Staged → Staged → Type 0
LineLostElse line old new = (p : Playing) → IsPlaying p old → first_refusal p.world line ≡ None
    → IsLineLost p line old new

abbrev pub LineSpentElse : Line → Staged → Staged → Type 0
LineSpentElse line old new = (p : Playing) → IsPlaying p old → first_refusal p.world line ≡ None
    → IsLineSpent p line old new
