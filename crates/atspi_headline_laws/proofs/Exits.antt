-- THE LAW OF EXITS, its first part: an end exits behind its line, and nowhere else.
use Rattle.std.proofs.Common.{◌≡◌, ℕ, false, List, [], ◌∷◌, map, Option, None, refl, sym, ap, ◌∙◌, subst}
use Rattle.atspi_script_lines.specs.declared.line.Line.{Line}
use Rattle.atspi_script_lines.specs.declared.line.Line.TheVariants.{Blank, Quota, App as App_line, Reader as Reader_line, Edit as Edit_line, Call, Swap, Exit, Leave, Bytes, Turns, Drain, Show}
use Rattle.atspi_script_lines.specs.declared.line.Party.{Party}
use Rattle.atspi_script_lines.specs.declared.line.Party.TheVariants.{Bus as The_bus, Registry, App, Reader}
use Rattle.atspi_message.specs.Envelope.{Envelope}
use Rattle.atspi_protocol.specs.exporting.Exporter.{begins}
use Rattle.atspi_protocol.specs.exporting.Starting.{starts}
use Rattle.atspi_protocol.specs.following.Calls.{user_call}
use Rattle.atspi_trace.specs.Entry.{Entry, sent, exited}
use Rattle.atspi_trace.specs.World.{a_reader, World}
use Rattle.atspi_trace.specs.Ends.{number_of, whose, party_at, end_of}
use Rattle.atspi_trace.specs.Causes.{Done, app_starts, reader_starts, app_did, called, shown}
use Rattle.atspi_trace.specs.Work.{Work, name_of}
use Rattle.atspi_headline.specs.Words.{Act, begins_line, writes, entries_in, exiting, is_a, Along, AreDue}
use Rattle.atspi_headline.specs.Headline.{exit_due}
use Rattle.atspi_trace_laws.proofs.OfOrder.Effects.{Stopping}
use Rattle.atspi_trace_laws.proofs.OfOwn.Writing.{Lives}
use Rattle.atspi_headline_laws.proofs.Ran.{Ran}
use Rattle.atspi_headline_laws.proofs.Dues.{IsOwed}
use Rattle.atspi_headline_laws.proofs.Acting.{LineDid, renewed, app_began, reader_began, edited_app, called_app, swapped, app_stopped, reader_stopped, showed, IsBareLine}
use Rattle.atspi_headline_laws.proofs.Growing.{Front, law_along}
use Rattle.atspi_headline_laws.proofs.Sorting.{AppSorts, app_all, new_number}
use Rattle.atspi_headline_laws.proofs.LineLaws.{IsLineLaw, of_lines, silent_line}

abbrev NoExit : Entry → Type 0
NoExit entry = is_a exiting entry ≡ false

sent_no : (who : Party) (e : Envelope) → NoExit (sent who e)
sent_no The_bus e = refl
sent_no Registry e = refl
sent_no (App a) e = refl
sent_no (Reader r) e = refl

apps_no : AppSorts NoExit
apps_no = record { steps_ = λ app step. refl; sends_ = λ app e. refl; hears_ = λ app listener pattern. refl; deaf_ = λ app listener pattern. refl }

-- the line of an end
stop_line : (run : List Act) (w : World) (line : Line) (d : Done) (b : Stopping w d) (who : Party) → b.e.who ≡ who → exit_due run (begins_line line) ≡ exited who ∷ []
    → Along (IsOwed exiting exit_due) run (begins_line line ∷ map writes d.entries)
stop_line run w line d b who is due =
    let one : d.entries ≡ exited who ∷ [] = ap (λ (x : Done). x.entries) b.is ∙ ap (λ p. exited p ∷ []) (ap whose b.is_here.there ∙ is) in
    subst (λ es. Along (IsOwed exiting exit_due) run (begins_line line ∷ map writes es)) (sym one) (sym due, (tt, tt))

exit_line : (run : List Act) (w : World) (line : Line) (d : Done) → Front run w None → LineDid w line d → Along (IsOwed exiting exit_due) run (begins_line line ∷ map writes d.entries)
exit_line run w _ _ f (renewed quota few) = silent_line exiting exit_due run (Quota quota) [] (λ before. refl) (λ before entry. refl) tt
exit_line run w _ _ f (app_began name short few) =
    silent_line exiting exit_due run (App_line name) (app_starts w name).entries (λ before. refl) (λ before entry. refl) (refl, app_all NoExit apps_no (new_number w name) (starts (begins name)).out)
exit_line run w _ _ f (reader_began few) = silent_line exiting exit_due run Reader_line (reader_starts w).entries (λ before. refl) (λ before entry. refl) (refl, (refl, tt))
exit_line run w _ _ f (edited_app app conn edit e before after h who role done_ can) =
    silent_line exiting exit_due run (Edit_line app edit) (app_did w conn [] before after).entries (λ before. refl) (λ before entry. refl) (app_all NoExit apps_no (number_of (party_at w.ends conn)) after.out)
exit_line run w _ _ f (called_app reader app node conn deed e hearer h who role) =
    silent_line exiting exit_due run (Call reader app node deed) (called w conn (name_of (end_of w.ends (App app))) node deed (a_reader hearer)).entries (λ before. refl) (λ before entry. refl) (sent_no (party_at w.ends conn) (user_call hearer.next (name_of (end_of w.ends (App app))) node deed), tt)
exit_line run w _ _ f (swapped app) = silent_line exiting exit_due run (Swap app) [] (λ before. refl) (λ before entry. refl) tt
exit_line run w _ _ f (app_stopped app d b who) = stop_line run w (Exit app) d b (App app) who refl
exit_line run w _ _ f (reader_stopped reader d b who) = stop_line run w (Leave reader) d b (Reader reader) who refl
exit_line run w _ _ f (showed reader app conn e hearer there who role) = silent_line exiting exit_due run (Show reader app) (shown w conn app (a_reader hearer)).entries (λ before. refl) (λ before entry. refl) (refl, tt)

bare_no : (line : Line) → IsBareLine line → (before : List Act) → exit_due before (begins_line line) ≡ []
bare_no Blank b before = refl
bare_no (Bytes who up count) b before = refl
bare_no (Turns count) b before = refl
bare_no Drain b before = refl
bare_no line b before = absurd b

exits_law : IsLineLaw exiting exit_due
exits_law = record {
  line = exit_line;
  nothing = λ before entry. refl;
  bare = bare_no;
  moving = λ who up count before. refl;
  ending = λ who before. refl;
  turns =
      record {
        app = apps_no;
        bus = record { says_ = λ e. refl; drops_ = λ who queued len. refl };
        busy_ = λ turns. refl;
        quiet_ = refl;
        takes_ = λ taker sender serial. refl;
        registry_ = λ e. refl;
        speaks_ = λ reader app line. refl;
        ends_ = λ reader app. refl;
      };
  asks = λ r m. refl;
}

pub exits_are_due : (run : List Act) (w : World) (free : Option ℕ) (at : Option Work) → Ran run w free at → Lives (entries_in run) → AreDue false exiting exit_due run
exits_are_due run w free at r live = law_along exiting exit_due (of_lines exiting exit_due exits_law) run w free at r live
