-- Of entries that stand behind lines alone: starts, shown rows, exits.
use Rattle.std.proofs.Common.{◌≡◌, ℕ, Bool, false, List, [], ◌∷◌, map, None, refl}
use Rattle.std.specs.List.{AllByRecursion}
use Rattle.atspi_script_lines.specs.declared.line.Line.{Line}
use Rattle.atspi_script_lines.specs.declared.line.Party.{Party}
use Rattle.atspi_script_lines.specs.declared.line.Party.TheVariants.{Reader}
use Rattle.atspi_message.specs.Envelope.{Envelope}
use Rattle.atspi_trace.specs.Entry.{Entry, sent}
use Rattle.atspi_trace.specs.World.{World}
use Rattle.atspi_trace.specs.Causes.{Done}
use Rattle.atspi_headline.specs.Words.{Act, begins_line, moves_bytes, takes_end, writes, Kind, is_a, Along}
use Rattle.atspi_headline_laws.proofs.Dues.{IsOwed, Still, still_along, still_writes}
use Rattle.atspi_headline_laws.proofs.Acting.{LineDid, IsBareLine}
use Rattle.atspi_headline_laws.proofs.Growing.{Front, still_written, IsLaw}
use Rattle.atspi_headline_laws.proofs.Sorting.{TurnSorts, turn_all}

pub record IsLineLaw (kind : Kind) (due : List Act → Act → List Entry) : Type 1 where
  pub line : (run : List Act) (w : World) (line : Line) (d : Done) → Front run w None → LineDid w line d → Along (IsOwed kind due) run (begins_line line ∷ map writes d.entries)
  pub nothing : (before : List Act) (entry : Entry) → due before (writes entry) ≡ []
  pub bare : (line : Line) → IsBareLine line → (before : List Act) → due before (begins_line line) ≡ []
  pub moving : (who : Party) (up : Bool) (count : ℕ) (before : List Act) → due before (moves_bytes who up count) ≡ []
  pub ending : (who : Party) (before : List Act) → due before (takes_end who) ≡ []
  pub turns : TurnSorts (λ entry. is_a kind entry ≡ false)
  pub asks : (r : ℕ) (m : Envelope) → is_a kind (sent (Reader r) m) ≡ false

module _ (kind : Kind) (due : List Act → Act → List Entry) (law : IsLineLaw kind due) where
  still_all : (es : List Entry) → AllByRecursion (λ entry. is_a kind entry ≡ false) es → AllByRecursion (λ entry. Still kind due (writes entry)) es
  still_all [] a = tt
  still_all (e ∷ es) a = (record { none = a.0; nothing = λ before. law.nothing before e }, still_all es a.1)

  pub of_lines : IsLaw kind due
  of_lines = record {
    line = law.line;
    turn = λ front w c d f t. still_written kind due front d.entries (still_all d.entries (turn_all (λ entry. is_a kind entry ≡ false) law.turns w c d t));
    bare = λ line b. record { none = refl; nothing = law.bare line b };
    moving = λ who up count. record { none = refl; nothing = law.moving who up count };
    ending = λ who. record { none = refl; nothing = law.ending who };
    asks = λ r m. record { none = law.asks r m; nothing = λ before. law.nothing before (sent (Reader r) m) };
  }

-- a line behind which nothing is due, and which writes none of the kind
pub silent_line : (kind : Kind) (due : List Act → Act → List Entry) (run : List Act) (line : Line) (es : List Entry) → ((before : List Act) → due before (begins_line line) ≡ [])
    → ((before : List Act) (entry : Entry) → due before (writes entry) ≡ []) → AllByRecursion (λ entry. is_a kind entry ≡ false) es → Along (IsOwed kind due) run (begins_line line ∷ map writes es)
silent_line kind due run line es first rest none =
    still_along kind due run (begins_line line ∷ map writes es) (record { none = refl; nothing = first }, still_writes kind due es (by es none))
  where
    by : (xs : List Entry) → AllByRecursion (λ entry. is_a kind entry ≡ false) xs → AllByRecursion (λ entry. Still kind due (writes entry)) xs
    by [] a = tt
    by (e ∷ xs) a = (record { none = a.0; nothing = λ before. rest before e }, by xs a.1)
