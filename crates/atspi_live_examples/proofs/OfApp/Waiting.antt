-- An application that has not started, on a link on which nothing came.
use Rattle.std.proofs.Common.{◌≡◌, ℕ, List, [], ◌∷◌, ◌++◌, None, refl, inl, inr, arith, lit<, lit≤}
use Rattle.std.specs.Prelude.{codes}
use Rattle.std.specs.Fmt.{digits}
use Rattle.atspi_auth.specs.Lines.{lines_of, joined}
use Rattle.atspi_auth.specs.Replies.{answer, reply_to}
use Rattle.atspi_auth.specs.Requests.{is_grant, is_number}
use Rattle.atspi_auth.specs.Talk.{after, client_start, fault_in, heard, hears, hears_bytes}
use Rattle.atspi_stream.specs.Stream.{few}
use Rattle.atspi_live_conversation.proofs.LineLemmas.{none_behind}
use Rattle.atspi_live_app.specs.Overs.{StopsBy}
use Rattle.atspi_live_app.specs.Standing.{Event, IsRefused, does}
use Rattle.atspi_live_app.specs.Turns.{IsBefore, IsInTurn}
use Rattle.atspi_live_app.specs.Asking.{IsAsk}
use Rattle.atspi_live_app.specs.declared.asking.Ask.TheVariants as asks
use Rattle.atspi_live_app.specs.inner.Stops.{stop_of_line}
use Rattle.atspi_script_lines.specs.declared.line.LineFault.TheVariants as faults
use Rattle.atspi_live_app.specs.declared.naming.Refused.TheVariants as refused

sound : fault_in (after client_start []).stage ≡ None
unfolding heard hears hears_bytes lines_of joined answer reply_to is_grant is_number
sound = refl

none_before : (reads : List (List ℕ)) (before after : List Event) (line : List ℕ) → before ++ does line ∷ after ≡ [] → IsBefore reads before
none_before reads [] after line h = absurd cc
none_before reads (x ∷ before) after line h = absurd cc

-- no line was done before no read, and where there is none, before any reads
pub none_due : (reads : List (List ℕ)) → IsInTurn reads [] []
none_due reads = record { each = none_before reads; done = []; lines = refl; timed = tt; due = inl refl }

pub first_due : (lines : List (List ℕ)) → IsInTurn [] [] lines
first_due lines = record { each = none_before []; done = []; lines = refl; timed = tt; due = inr (lit≤ tt) }

waits : IsAsk (asks.Wait 2) (codes "wait 2")
unfolding digits
waits = (omega arith, refl)

-- a wait may not stand first
pub refused_first : IsRefused (IsInTurn []) (codes "wait 2" ∷ []) [] 1 refused.Form
refused_first = record {
  history = [];
  left = codes "wait 2" ∷ [];
  order = first_due (codes "wait 2" ∷ []);
  all = refl;
  taken = refl;
  whole = None;
  makes = refl;
  numbered = tt;
  next = inr (asks.Wait 2, waits, tt);
  counted = refl;
}

pub stops_first : StopsBy (IsInTurn []) (codes "wait 2" ∷ []) (stop_of_line faults.Form 1) []
stops_first = record { authenticated = sound; messages = []; rest = []; parted = record { are = tt; parted = none_behind }; awaits = few (lit< tt); stopped = refused_first }

-- for want of memory a run is stopped whatever was done
pub wants : (IsOrder : List Event → List (List ℕ) → Type 0) (lines : List (List ℕ)) → StopsBy IsOrder lines (stop_of_line faults.NoMemory 1) []
wants IsOrder lines = record { authenticated = sound; messages = []; rest = []; parted = record { are = tt; parted = none_behind }; awaits = few (lit< tt); stopped = tt }
