-- A run begins with a line, and an end starts behind its line, and nowhere else.
use Rattle.std.proofs.Common.{◌≡◌, ℕ, false, List, [], ◌∷◌, ◌++◌, length, map, Option, None, Some, refl, sym, ap, ap₂, ◌∙◌, subst}
use Rattle.std.proofs.Math.Path.{fun_ext}
use Rattle.std.specs.Prelude.{filter}
use Rattle.std.specs.List.{AllByRecursion}
use Rattle.atspi_script_lines.specs.declared.line.Line.{Line}
use Rattle.atspi_script_lines.specs.declared.line.Line.TheVariants.{Blank, Quota, Edit as Edit_line, Call, Swap, Exit, Leave, Bytes, Turns, Drain, Show}
use Rattle.atspi_script_lines.specs.declared.line.Party.{Party}
use Rattle.atspi_script_lines.specs.declared.line.Party.TheVariants.{Bus as The_bus, Registry, App, Reader}
use Rattle.atspi_message.specs.Envelope.{Envelope}
use Rattle.atspi_protocol.specs.following.Calls.{user_call}
use Rattle.atspi_trace.specs.Entry.{Entry, started, sent}
use Rattle.atspi_trace.specs.World.{a_reader, World}
use Rattle.atspi_trace.specs.Ends as ends_
use Rattle.atspi_trace.specs.Ends.{number_of, party_at, end_of, app_count, reader_count}
use Rattle.atspi_trace.specs.Causes.{Cause, Done, does, app_did, called, shown}
use Rattle.atspi_trace.specs.Work.{Work, resting, doing, moving_up, moving_down, turning, draining, name_of, work_of, cause, next_of}
use Rattle.atspi_trace.specs.Due.{freed}
use Rattle.atspi_headline.specs.Words as here
use Rattle.atspi_headline.specs.Words.{Act, begins_line, moves_bytes, takes_end, writes, entries_in, starting, is_a, Along, AreDue, ends, count_of}
use Rattle.atspi_headline.specs.Headline.{BeginsWithLine, start_due}
use Rattle.atspi_trace_laws.proofs.OfOrder.Parties.{no_none}
use Rattle.atspi_trace_laws.proofs.OfOwn.Writing.{Lives}
use Rattle.atspi_headline_laws.proofs.Ran.{Ran, nothing_yet, did, began, caused, rested, asked, moves_for, line_moves}
use Rattle.atspi_headline_laws.proofs.Dues.{IsOwed}
use Rattle.atspi_headline_laws.proofs.Acting.{LineDid, renewed, app_began, reader_began, edited_app, called_app, swapped, app_stopped, reader_stopped, showed, IsBareLine}
use Rattle.atspi_headline_laws.proofs.Sorting.{AppSorts, app_all}
use Rattle.atspi_headline_laws.proofs.Joining.{counted}
use Rattle.atspi_headline_laws.proofs.Growing.{Front, law_along}
use Rattle.atspi_headline_laws.proofs.LineLaws.{IsLineLaw, of_lines, silent_line}

-- A RUN BEGINS WITH A LINE: before the first nothing is done
abbrev AtRest : Option Work → Type 0
AtRest None = Unit {0}
AtRest (Some resting) = Unit {0}
AtRest (Some work) = ⊥

abbrev Early : List Act → Option ℕ → Option Work → Type 0
Early [] free at = (free ≡ None) × AtRest at
Early (act ∷ acts) free at = BeginsWithLine (act ∷ acts)

begins_on : (act : Act) (xs ys : List Act) → BeginsWithLine (act ∷ xs) → BeginsWithLine (act ∷ (xs ++ ys))
begins_on (begins_line line) xs ys b = tt
begins_on (moves_bytes who up count) xs ys b = absurd b
begins_on (takes_end who) xs ys b = absurd b
begins_on (writes entry) xs ys b = absurd b

-- a line, behind whatever is there
with_line : (run acts : List Act) (line : Line) (free then_free : Option ℕ) (at then_at : Option Work) → Early run free at → Early (run ++ begins_line line ∷ acts) then_free then_at
with_line [] acts line free then_free at then_at e = tt
with_line (act ∷ run) acts line free then_free at then_at e = begins_on act run (begins_line line ∷ acts) e

no_cause : (w : World) (work left : Work) (c : Cause) → AtRest (Some work) → next_of w work ≡ cause c w left → ⊥
no_cause w resting left c a is = cc
no_cause w (doing d) left c a is = absurd a
no_cause w (moving_up conn count) left c a is = absurd a
no_cause w (moving_down conn count) left c a is = absurd a
no_cause w (turning count n) left c a is = absurd a
no_cause w draining left c a is = absurd a

with_cause : (run acts : List Act) (w : World) (free then_free : Option ℕ) (work left : Work) (then_at : Option Work) (c : Cause) → Early run free (Some work) → next_of w work ≡ cause c w left → Early (run ++ acts) then_free then_at
with_cause [] acts w free then_free work left then_at c e is = absurd (no_cause w work left c e.1 is)
with_cause (act ∷ run) acts w free then_free work left then_at c e is = begins_on act run acts e

with_call : (run acts : List Act) (conn : ℕ) (then_free : Option ℕ) (at then_at : Option Work) → Early run (Some conn) at → Early (run ++ acts) then_free then_at
with_call [] acts conn then_free at then_at e = absurd (no_none conn (sym e.0))
with_call (act ∷ run) acts conn then_free at then_at e = begins_on act run acts e

at_rest : (run : List Act) (free : Option ℕ) (at : Option Work) → Early run free at → Early run None None
at_rest [] free at e = (refl, tt)
at_rest (act ∷ run) free at e = e

early_along : (run : List Act) (w : World) (free : Option ℕ) (at : Option Work) → Ran run w free at → Early run free at
early_along _ _ _ _ nothing_yet = (refl, tt)
early_along _ _ _ _ (did run w line c r ok can is a) = with_line run (map writes (does w c).entries) line None (freed c) None (Some resting) (early_along run w None None r)
early_along _ _ _ _ (began run w line r ok can b) = with_line run (line_moves w (work_of w line)) line None None None (Some (work_of w line)) (early_along run w None None r)
early_along _ _ _ _ (caused run w free work left c r is b a) =
    with_cause run (moves_for w work c ++ map writes (does w c).entries) w free (freed c) work left (Some left) c (early_along run w free (Some work) r) is
early_along _ _ _ _ (rested run w v free work r is m well) = at_rest run free (Some work) (early_along run w free (Some work) r)
early_along _ _ _ _ (asked run w conn q m question work r a) = with_call run (writes (sent (Reader q) m) ∷ []) conn None work work (early_along run w (Some conn) work r)

pub begins_with_line : (run : List Act) (w : World) (free : Option ℕ) (at : Option Work) → Ran run w free at → BeginsWithLine run
begins_with_line run w free at r = by run (early_along run w free at r)
  where
    by : (acts : List Act) → Early acts free at → BeginsWithLine acts
    by [] e = tt
    by (act ∷ acts) e = e

-- AN END STARTS behind its line
abbrev NoStart : Entry → Type 0
NoStart entry = is_a starting entry ≡ false

sent_no : (who : Party) (e : Envelope) → NoStart (sent who e)
sent_no The_bus e = refl
sent_no Registry e = refl
sent_no (App a) e = refl
sent_no (Reader r) e = refl

apps_no : AppSorts NoStart
apps_no = record { steps_ = λ app step. refl; sends_ = λ app e. refl; hears_ = λ app listener pattern. refl; deaf_ = λ app listener pattern. refl }

app_same : (p : Party) → ends_.is_app p ≡ here.is_app p
app_same The_bus = refl
app_same Registry = refl
app_same (App a) = refl
app_same (Reader r) = refl

reader_same : (p : Party) → ends_.is_reader p ≡ here.is_reader p
reader_same The_bus = refl
reader_same Registry = refl
reader_same (App a) = refl
reader_same (Reader r) = refl

pub apps_counted : (run : List Act) (w : World) (free : Option ℕ) → Front run w free → app_count w.ends ≡ count_of here.is_app run
apps_counted run w free f = counted ends_.is_app w.ends ∙ ap₂ (λ k l. length (filter k l)) (fun_ext app_same) f.ends

pub readers_counted : (run : List Act) (w : World) (free : Option ℕ) → Front run w free → reader_count w.ends ≡ count_of here.is_reader run
readers_counted run w free f = counted ends_.is_reader w.ends ∙ ap₂ (λ k l. length (filter k l)) (fun_ext reader_same) f.ends

start_line : (run : List Act) (w : World) (line : Line) (d : Done) → Front run w None → LineDid w line d → Along (IsOwed starting start_due) run (begins_line line ∷ map writes d.entries)
start_line run w _ _ f (renewed quota few) = silent_line starting start_due run (Quota quota) [] (λ before. refl) (λ before entry. refl) tt
start_line run w _ _ f (app_began name short few) = (ap (λ n. started (App n) (Some name) ∷ []) (apps_counted run w None f), (tt, (refl, tt)))
start_line run w _ _ f (reader_began few) = (ap (λ n. started (Reader n) None ∷ []) (readers_counted run w None f), (tt, (refl, tt)))
start_line run w _ _ f (edited_app app conn edit e before after h who role done_ can) =
    silent_line starting start_due run (Edit_line app edit) (app_did w conn [] before after).entries (λ before. refl) (λ before entry. refl) (app_all NoStart apps_no (number_of (party_at w.ends conn)) after.out)
start_line run w _ _ f (called_app reader app node conn deed e hearer h who role) =
    silent_line starting start_due run (Call reader app node deed) (called w conn (name_of (end_of w.ends (App app))) node deed (a_reader hearer)).entries (λ before. refl) (λ before entry. refl)
    (sent_no (party_at w.ends conn) (user_call hearer.next (name_of (end_of w.ends (App app))) node deed), tt)
start_line run w _ _ f (swapped app) = silent_line starting start_due run (Swap app) [] (λ before. refl) (λ before entry. refl) tt
start_line run w _ _ f (app_stopped app d b who) =
    silent_line starting start_due run (Exit app) d.entries (λ before. refl) (λ before entry. refl) (subst (λ (x : Done). AllByRecursion NoStart x.entries) (sym b.is) (refl, tt))
start_line run w _ _ f (reader_stopped reader d b who) =
    silent_line starting start_due run (Leave reader) d.entries (λ before. refl) (λ before entry. refl) (subst (λ (x : Done). AllByRecursion NoStart x.entries) (sym b.is) (refl, tt))
start_line run w _ _ f (showed reader app conn e hearer there who role) =
    silent_line starting start_due run (Show reader app) (shown w conn app (a_reader hearer)).entries (λ before. refl) (λ before entry. refl) (refl, tt)

bare_no : (line : Line) → IsBareLine line → (before : List Act) → start_due before (begins_line line) ≡ []
bare_no Blank b before = refl
bare_no (Bytes who up count) b before = refl
bare_no (Turns count) b before = refl
bare_no Drain b before = refl
bare_no line b before = absurd b

starts_law : IsLineLaw starting start_due
starts_law = record {
  line = start_line;
  nothing = λ before entry. refl;
  bare = bare_no;
  moving = λ who up count before. refl;
  ending = λ who before. refl;
  turns =
      record {
        app = apps_no;
        bus = record { says_ = λ e. refl; drops_ = λ who queued len. refl };
        busy_ = λ turns. refl;
        quiet_ = refl;
        takes_ = λ taker sender serial. refl;
        registry_ = λ e. refl;
        speaks_ = λ reader app line. refl;
        ends_ = λ reader app. refl;
      };
  asks = λ r m. refl;
}

pub starts_are_due : (run : List Act) (w : World) (free : Option ℕ) (at : Option Work) → Ran run w free at → Lives (entries_in run) → AreDue false starting start_due run
starts_are_due run w free at r live = law_along starting start_due (of_lines starting start_due starts_law) run w free at r live
