-- THE LAW OF SHOWN ROWS.
use Rattle.std.proofs.Common.{◌≡◌, ℕ, Bool, false, List, [], ◌∷◌, map, Option, None, Some, refl, sym, ap, ap₂, ◌∙◌, subst}
use Rattle.std.proofs.Math.Path.{fun_ext}
use Rattle.std.specs.Prelude.{◌&&◌, ◌||◌, bytes_eq, option_map}
use Rattle.std.specs.List.{AllByRecursion}
use Rattle.atspi_tree_model.specs.declared.view.Row.{Row}
use Rattle.atspi_tree_model.specs.Forest.{seats}
use Rattle.atspi_tree_model.specs.View.{view}
use Rattle.atspi_script_lines.specs.declared.line.Line.{Line}
use Rattle.atspi_script_lines.specs.declared.line.Line.TheVariants.{Blank, Quota, App as App_line, Reader as Reader_line, Edit as Edit_line, Call, Swap, Exit, Leave, Bytes, Turns, Drain}
use Rattle.atspi_script_lines.specs.declared.line.Party.{Party}
use Rattle.atspi_script_lines.specs.declared.line.Party.TheVariants.{Bus as The_bus, Registry, App, Reader}
use Rattle.atspi_message.specs.Envelope.{Envelope}
use Rattle.atspi_protocol.specs.declared.news.part.PartName.{PartName}
use Rattle.atspi_protocol.specs.declared.news.part.PartName.TheVariants.{Text, Caret, Columns}
use Rattle.atspi_protocol.specs.declared.following.question.Question.TheVariants.{Hello}
use Rattle.atspi_protocol.specs.exporting.Exporter.{begins}
use Rattle.atspi_protocol.specs.exporting.Starting.{starts}
use Rattle.atspi_protocol.specs.following.Calls.{asking, user_call}
use Rattle.atspi_protocol.specs.following.Wishes as wishes
use Rattle.atspi_trace.specs.Entry.{Entry, started, changed, sent, got, heard, unheard, spoke, showed as shows_rows, exited, gone, dropped, busy, quiet}
use Rattle.atspi_trace.specs.World.{Holding, a_reader, World}
use Rattle.atspi_trace.specs.Ends.{number_of, whose, party_at, end_of, app_count, reader_count}
use Rattle.atspi_trace.specs.Hearing.{holding_of}
use Rattle.atspi_trace.specs.Causes as causes
use Rattle.atspi_trace.specs.Causes.{Cause, Done, rows_held}
use Rattle.atspi_trace.specs.Work.{Work, name_of}
use Rattle.atspi_headline.specs.Words as here
use Rattle.atspi_headline.specs.Words.{Act, begins_line, writes, entries_in, Kind, showing, is_a, Along, Held, held_of}
use Rattle.atspi_headline.specs.Headline as head
use Rattle.atspi_headline.specs.Headline.{rows_due, rows_of, LawOfShownRows}
use Rattle.atspi_trace_laws.specs.laws.Words as told
use Rattle.atspi_trace_laws.specs.laws.Words.{Kept}
use Rattle.atspi_trace_laws.proofs.OfOrder.Growing.{Shaped, And}
use Rattle.atspi_trace_laws.proofs.OfHeld.Keeping.{SameKept, ReaderIs}
use Rattle.atspi_trace_laws.proofs.OfHeld.LawHeld.{Below_held, Holds, holds_keep}
use Rattle.atspi_trace_laws.specs.serials.Laws.{HasNextNumber}
use Rattle.atspi_trace_laws.proofs.OfOrder.Each.{Each}
use Rattle.atspi_trace_laws.proofs.OfSteps.LawSteps.{Below, Stepped}
use Rattle.atspi_trace_laws.proofs.OfSerials.Numbers.{Numbered}
use Rattle.atspi_trace_laws.proofs.OfSerials.LawNumbers.{numbers_keep}
use Rattle.atspi_trace_laws.proofs.OfOwn.Writing.{Lives}
use Rattle.atspi_headline_laws.proofs.Ran.{Ran}
use Rattle.atspi_headline_laws.proofs.Reading.{as_of_told}
use Rattle.atspi_headline_laws.proofs.Numbering.{numbered}
use Rattle.atspi_headline_laws.proofs.Holding.{as_kept, held_told}
use Rattle.atspi_headline_laws.proofs.Dues.{IsOwed, Still, still_along, still_writes}
use Rattle.atspi_headline_laws.proofs.Acting.{LineDid, renewed, app_began, reader_began, edited_app, called_app, swapped, app_stopped, reader_stopped, showed, TurnDid, IsBareLine}
use Rattle.atspi_headline_laws.proofs.Growing.{Front, Written, still_written, IsLaw, law_along}
use Rattle.atspi_headline_laws.proofs.Sorting.{AppSorts, TurnSorts, app_all, new_number, turn_all}

-- ROWS, in the words of the headline and in those of the trace
index_same : (seat : Option (List ℕ)) (i : ℕ) → head.index_below seat i ≡ causes.index_below seat i
index_same None i = refl
index_same (Some parent) i = refl

rows_listed : (seats_ : List (Option (List ℕ) × ℕ × Row)) → map head.shown_row seats_ ≡ map causes.shown_row seats_
rows_listed [] = refl
rows_listed (seat ∷ rest) = ap₂ (λ i l. record { parent = seat.0; index = i; row = seat.2 } ∷ l) (index_same seat.0 seat.1) (rows_listed rest)

part_same : (part other : PartName) → here.is_part part other ≡ wishes.same_part part other
part_same Text Text = refl
part_same Text Caret = refl
part_same Text Columns = refl
part_same Caret Text = refl
part_same Caret Caret = refl
part_same Caret Columns = refl
part_same Columns Text = refl
part_same Columns Caret = refl
part_same Columns Columns = refl

told_same : (parts : List (List ℕ × PartName)) (path : List ℕ) (part : PartName) → here.is_told parts path part ≡ wishes.is_refused parts path part
told_same [] path part = refl
told_same (t ∷ parts) path part = ap₂ (λ a b. (bytes_eq t.0 path && a) || b) (part_same t.1 part) (told_same parts path part)

in_same : (parts : List (List ℕ × PartName)) (path : List ℕ) → here.told_in parts path ≡ causes.told_in parts path
in_same parts path =
    ap₂ (λ (a b : Bool). record { text = a; caret = b; columns = here.is_told parts path Columns }) (told_same parts path Text) (told_same parts path Caret)
    ∙ ap (λ (c : Bool). record { text = wishes.is_refused parts path Text; caret = wishes.is_refused parts path Caret; columns = c }) (told_same parts path Columns)

rows_same : (run : List Act) (app : ℕ) (held : Option Held) (kept : Option Kept) (k : Option Holding) → as_kept held ≡ kept → SameKept (entries_in run) app kept k → option_map (rows_of run app) held ≡ rows_held k
rows_same run app held kept k same s = by held k (subst (λ (x : Option Kept). SameKept (entries_in run) app x k) (sym same) s)
  where
    one : (x : Held) (h : Holding) → SameKept (entries_in run) app (as_kept (Some x)) (Some h) → rows_of run app x ≡ causes.shown_rows (view (causes.told_in h.told) h.tree)
    one x h s =
        let tree : here.as_of run app x.last ≡ h.tree = as_of_told run app x.last ∙ ap (told.as_of (entries_in run) app) s.last ∙ s.tree in
        let parts : here.told_in x.told ≡ causes.told_in h.told = fun_ext (λ path. in_same x.told path) ∙ ap causes.told_in s.told in
        rows_listed (seats (λ (row : Row). Some row.path) None 0 (view (here.told_in x.told) (here.as_of run app x.last)))
        ∙ ap₂ (λ t f. causes.shown_rows (view t f)) parts tree

    by : (held : Option Held) (k : Option Holding) → SameKept (entries_in run) app (as_kept held) k → option_map (rows_of run app) held ≡ rows_held k
    by None None s = refl
    by (Some x) (Some h) s = ap Some (one x h s)
    by None (Some h) s = absurd s
    by (Some x) None s = absurd s

-- NO OTHER ROWS
still : (entry : Entry) → is_a showing entry ≡ false → Still showing rows_due (writes entry)
still entry h = record { none = h; nothing = λ before. refl }

abbrev Stills : Entry → Type 0
Stills entry = Still showing rows_due (writes entry)

sent_still : (who : Party) (e : Envelope) → is_a showing (sent who e) ≡ false
sent_still The_bus e = refl
sent_still Registry e = refl
sent_still (App a) e = refl
sent_still (Reader r) e = refl

app_sorts : AppSorts Stills
app_sorts = record {
  steps_ = λ app step. still (changed app step) refl;
  sends_ = λ app e. still (sent (App app) e) refl;
  hears_ = λ app listener pattern. still (heard app listener pattern) refl;
  deaf_ = λ app listener pattern. still (unheard app listener pattern) refl;
}

turn_sorts : TurnSorts Stills
turn_sorts = record {
  app = app_sorts;
  bus = record { says_ = λ e. still (sent The_bus e) refl; drops_ = λ who queued len. still (dropped who queued len) refl };
  busy_ = λ turns. still (busy turns) refl;
  quiet_ = still quiet refl;
  takes_ = λ taker sender serial. still (got taker sender serial) refl;
  registry_ = λ e. still (sent Registry e) refl;
  speaks_ = λ reader app line. still (spoke reader app line) refl;
  ends_ = λ reader app. still (gone reader app) refl;
}

-- a line that shows nothing
line_along : (run : List Act) (line : Line) (es : List Entry) → Still showing rows_due (begins_line line) → AllByRecursion Stills es → Along (IsOwed showing rows_due) run (begins_line line ∷ map writes es)
line_along run line es first rest = still_along showing rows_due run (begins_line line ∷ map writes es) (first, still_writes showing rows_due es rest)

shown_line : (run : List Act) (w : World) (line : Line) (d : Done) → Front run w None → LineDid w line d → Along (IsOwed showing rows_due) run (begins_line line ∷ map writes d.entries)
shown_line run w _ _ f (renewed quota few) = line_along run (Quota quota) [] (record { none = refl; nothing = λ before. refl }) tt
shown_line run w _ _ f (app_began name short few) =
    line_along run (App_line name) (causes.app_starts w name).entries (record { none = refl; nothing = λ before. refl })
    (still (started (App (app_count w.ends)) (Some name)) refl, app_all Stills app_sorts (new_number w name) (starts (begins name)).out)
shown_line run w _ _ f (reader_began few) =
    line_along run Reader_line (causes.reader_starts w).entries (record { none = refl; nothing = λ before. refl })
    (still (started (Reader (reader_count w.ends)) None) refl, (still (sent (Reader (reader_count w.ends)) (asking 1 Hello)) refl, tt))
shown_line run w _ _ f (edited_app app conn edit e before after h who role done_ can) =
    line_along run (Edit_line app edit) (causes.app_did w conn [] before after).entries (record { none = refl; nothing = λ before. refl }) (app_all Stills app_sorts (number_of (party_at w.ends conn)) after.out)
shown_line run w _ _ f (called_app reader app node conn deed e hearer h who role) =
    line_along run (Call reader app node deed) (causes.called w conn (name_of (end_of w.ends (App app))) node deed (a_reader hearer)).entries (record { none = refl; nothing = λ before. refl }) (still (sent (party_at w.ends conn) (user_call hearer.next (name_of (end_of w.ends (App app))) node deed)) (sent_still (party_at w.ends conn) (user_call hearer.next (name_of (end_of w.ends (App app))) node deed)), tt)
shown_line run w _ _ f (swapped app) = line_along run (Swap app) [] (record { none = refl; nothing = λ before. refl }) tt
shown_line run w _ _ f (app_stopped app d b who) =
    line_along run (Exit app) d.entries (record { none = refl; nothing = λ before. refl })
    (subst (λ (x : Done). AllByRecursion Stills x.entries) (sym b.is) (still (exited (party_at w.ends b.conn)) refl, tt))
shown_line run w _ _ f (reader_stopped reader d b who) =
    line_along run (Leave reader) d.entries (record { none = refl; nothing = λ before. refl })
    (subst (λ (x : Done). AllByRecursion Stills x.entries) (sym b.is) (still (exited (party_at w.ends b.conn)) refl, tt))
shown_line run w _ _ f (showed reader app conn e hearer there who role) =
    let es : List Entry = entries_in run in
    let old : ReaderIs es reader hearer = (f.kept (Shaped (And Below_held Holds)) holds_keep).1.1.1 conn reader e hearer there who role in
    let n : Each HasNextNumber [] es = (f.kept (Shaped (And (And Below Stepped) Numbered)) numbers_keep).1.1.0 in
    let is : as_kept (held_of run reader app) ≡ told.held es reader app = held_told run reader app (numbered (Reader reader) tt es n) (numbered (App app) tt es n) in
    let rows : option_map (rows_of run app) (held_of run reader app) ≡ rows_held (holding_of app hearer.holds) =
    rows_same run app (held_of run reader app) (told.held es reader app) (holding_of app hearer.holds) is (old.holds app) in
    let number : number_of (party_at w.ends conn) ≡ reader = ap (λ o. number_of (whose o)) there ∙ ap number_of who in
    (ap₂ (λ n o. shows_rows n app o ∷ []) number (sym rows), (tt, tt))

shown_turn : (front : List Act) (w : World) (c : Cause) (d : Done) → Front front w None → TurnDid w c d → Written showing rows_due front d.entries
shown_turn front w c d f t = still_written showing rows_due front d.entries (turn_all Stills turn_sorts w c d t)

bare_shows : (line : Line) → IsBareLine line → Still showing rows_due (begins_line line)
bare_shows Blank b = record { none = refl; nothing = λ before. refl }
bare_shows (Bytes who up count) b = record { none = refl; nothing = λ before. refl }
bare_shows (Turns count) b = record { none = refl; nothing = λ before. refl }
bare_shows Drain b = record { none = refl; nothing = λ before. refl }
bare_shows line b = absurd b

shown_law : IsLaw showing rows_due
shown_law = record {
  line = shown_line;
  turn = shown_turn;
  bare = bare_shows;
  moving = λ who up count. record { none = refl; nothing = λ before. refl };
  ending = λ who. record { none = refl; nothing = λ before. refl };
  asks = λ r m. still (sent (Reader r) m) refl;
}

pub rows_are_shown : (run : List Act) (w : World) (free : Option ℕ) (at : Option Work) → Ran run w free at → Lives (entries_in run) → LawOfShownRows false run
rows_are_shown run w free at r live = law_along showing rows_due shown_law run w free at r live
