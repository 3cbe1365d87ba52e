-- What lines and messages make of an application, and what of it was handed out.
use Rattle.std.proofs.Common.{◌≡◌, ℕ, List, [], ◌∷◌, ◌++◌, Option, Some, None, refl, sym, ap, subst, ◌∙◌}
use Rattle.std.specs.Prelude.{Result, Ok, Err}
use Rattle.atspi_tree_model.specs.declared.edit.Edit.{Edit}
use Rattle.atspi_tree_model.specs.declared.edit.EditFault.{EditFault}
use Rattle.atspi_message.specs.Envelope.{Envelope}
use Rattle.atspi_protocol.specs.exporting.Exporter.{Happening, steps, sends, hears, deaf, Exporter, begins}
use Rattle.atspi_protocol.specs.exporting.Starting.{starts}
use Rattle.atspi_protocol.specs.exporting.Taking.{app_takes, app_edits, is_spent}
use Rattle.atspi_app_known.specs.application.Seen.{IsSpentAfter}
use Rattle.atspi_live_app.specs.Standing.{Comes, Does, Event, HandedOut, IsNumbered, Makes, MayNot, RefusedBy, does, lines_in, sent_in, taken_in, takes}
use Rattle.atspi_live_app.specs.Live.{SpentBy}
use Rattle.atspi_live_app.specs.declared.asking.Ask.{Ask}
use Rattle.atspi_live_app.specs.declared.asking.Ask.TheVariants as ask
use Rattle.atspi_live_app.proofs.Framing.{edits_put, put, put_both, put_if_done, takes_put}

pub makes_both : (xs ys : List Event) (s t u : Option Exporter) → Makes s xs t → Makes t ys u → Makes s (xs ++ ys) u
makes_both [] ys s t u m n = subst (λ (x : Option Exporter). Makes x ys u) m n
makes_both (x ∷ xs) ys s t u m n = (m.0, m.1, makes_both xs ys m.0 t u m.2 n)

pub lines_both : (xs ys : List Event) → lines_in (xs ++ ys) ≡ lines_in xs ++ lines_in ys
lines_both [] ys = refl
lines_both (does line ∷ xs) ys = ap (λ (w : List (List ℕ)). line ∷ w) (lines_both xs ys)
lines_both (takes e ∷ xs) ys = lines_both xs ys

pub taken_both : (xs ys : List Event) → taken_in (xs ++ ys) ≡ taken_in xs ++ taken_in ys
taken_both [] ys = refl
taken_both (does line ∷ xs) ys = taken_both xs ys
taken_both (takes e ∷ xs) ys = ap (λ (w : List Envelope). e ∷ w) (taken_both xs ys)

sent_both : (xs ys : List Happening) → sent_in (xs ++ ys) ≡ sent_in xs ++ sent_in ys
sent_both [] ys = refl
sent_both (sends e ∷ xs) ys = ap (λ (w : List Envelope). e ∷ w) (sent_both xs ys)
sent_both (steps step ∷ xs) ys = sent_both xs ys
sent_both (hears bus pattern ∷ xs) ys = sent_both xs ys
sent_both (deaf bus pattern ∷ xs) ys = sent_both xs ys

-- messages handed out behind others
pub handed_both : (said more : List Envelope) (t s whole : Option Exporter) → HandedOut said s whole → HandedOut more t s → HandedOut (said ++ more) t whole
handed_both said more None None None h k = ap (λ (w : List Envelope). w ++ more) h ∙ k
handed_both said more (Some t) (Some s) (Some whole) h k = (
  h.0 ++ k.0,
  sym (put_both h.0 k.0 t) ∙ ap (put h.0) k.1 ∙ h.1,
  sent_both h.0 k.0 ∙ ap (λ (w : List Envelope). w ++ sent_in k.0) h.2 ∙ ap (λ (w : List Envelope). said ++ w) k.2,
)
handed_both said more None None (Some whole) h k = absurd h
handed_both said more (Some t) None None h k = absurd k
handed_both said more (Some t) None (Some whole) h k = absurd h
handed_both said more None (Some s) whole h k = absurd k
handed_both said more (Some t) (Some s) None h k = absurd h

pub handed_none : (s : Option Exporter) → HandedOut [] s s
handed_none None = refl
handed_none (Some s) = ([], refl, refl)

-- the numbers of its messages are those of the whole
pub numbered_on : (said : List Envelope) (s whole : Option Exporter) → HandedOut said s whole → IsNumbered whole → IsNumbered s
numbered_on said None None h n = tt
numbered_on said (Some s) (Some whole) h n = ap is_spent h.1 ∙ n
numbered_on said None (Some whole) h n = absurd h
numbered_on said (Some s) None h n = absurd h

pub numbered_whole : (said : List Envelope) (s whole : Option Exporter) → HandedOut said s whole → IsNumbered s → IsNumbered whole
numbered_whole said None None h n = tt
numbered_whole said (Some s) (Some whole) h n = sym (ap is_spent h.1) ∙ n
numbered_whole said None (Some whole) h n = absurd h
numbered_whole said (Some s) None h n = absurd h

pub none_handed : (said : List Envelope) (whole : Option Exporter) → HandedOut said None whole → whole ≡ None
none_handed said None h = refl
none_handed said (Some whole) h = absurd h

-- behind a message
abbrev pub after_taken : Option Exporter → Envelope → Option Exporter
after_taken None e = None
after_taken (Some s) e = Some (app_takes s e)

pub comes_taken : (s : Option Exporter) (e : Envelope) → Comes s (takes e) (after_taken s e)
comes_taken None e = refl
comes_taken (Some s) e = refl

pub took_whole : (said : List Envelope) (e : Envelope) (s whole : Option Exporter) → HandedOut said s whole → HandedOut said (after_taken s e) (after_taken whole e)
took_whole said e None None h = h
took_whole said e (Some s) (Some whole) h = (h.0, sym (takes_put h.0 s e) ∙ ap (λ (t : Exporter). app_takes t e) h.1, h.2)
took_whole said e None (Some whole) h = absurd h
took_whole said e (Some s) None h = absurd h

-- an edit of the whole
edit_whole : (d : List Happening) (s whole : Exporter) (edit : Edit) → put d s ≡ whole → app_edits whole edit ≡ put_if_done d (app_edits s edit)
edit_whole d s whole edit e = ap (λ (t : Exporter). app_edits t edit) (sym e) ∙ edits_put d s edit

-- what is done, and of the whole
pub record DoneWhole (said : List Envelope) (what : Ask) (t whole : Option Exporter) : Type 0 where
  pub then : Option Exporter
  pub does : Does whole what then
  pub handed : HandedOut said t then

same_done : (said : List Envelope) (s t whole : Option Exporter) → t ≡ s → HandedOut said s whole → HandedOut said t whole
same_done said s t whole e h = subst (λ (x : Option Exporter). HandedOut said x whole) (sym e) h

pub does_whole : (said : List Envelope) (what : Ask) (s t whole : Option Exporter) → HandedOut said s whole → Does s what t → DoneWhole said what t whole
does_whole said ask.Nothing s t whole h d = record { then = whole; does = refl; handed = same_done said s t whole d h }
does_whole said (ask.Start name) None t None h d = record {
  then = Some (starts (begins name));
  does = (d.0, refl);
  handed = same_done said (Some (starts (begins name))) t (Some (starts (begins name))) d.1 ([], refl, sym h);
}
does_whole said (ask.Start name) None t (Some whole) h d = absurd h
does_whole said (ask.Start name) (Some s) t whole h d = absurd d
does_whole said (ask.Edit edit) None t whole h d = absurd d
does_whole said (ask.Edit edit) (Some s) t None h d = absurd h
does_whole said (ask.Edit edit) (Some s) t (Some whole) h d = record {
  then = Some (put h.0 d.0);
  does = (put h.0 d.0, edit_whole h.0 s whole edit h.1 ∙ ap (put_if_done h.0) d.1, refl);
  handed = same_done said (Some d.0) t (Some (put h.0 d.0)) d.2 (h.0, refl, h.2);
}
does_whole said (ask.Wait rounds) None t whole h d = absurd d
does_whole said (ask.Wait rounds) (Some s) t None h d = absurd h
does_whole said (ask.Wait rounds) (Some s) t (Some whole) h d = record { then = Some whole; does = refl; handed = same_done said (Some s) t (Some whole) d h }

-- what may not be done, or is refused, of the whole
pub may_not_whole : (said : List Envelope) (what : Ask) (s whole : Option Exporter) → HandedOut said s whole → MayNot s what → MayNot whole what
may_not_whole said ask.Nothing s whole h m = absurd m
may_not_whole said (ask.Start name) None whole h m = absurd m
may_not_whole said (ask.Start name) (Some s) None h m = absurd h
may_not_whole said (ask.Start name) (Some s) (Some whole) h m = tt
may_not_whole said (ask.Edit edit) None None h m = tt
may_not_whole said (ask.Edit edit) None (Some whole) h m = absurd h
may_not_whole said (ask.Edit edit) (Some s) whole h m = absurd m
may_not_whole said (ask.Wait rounds) None None h m = tt
may_not_whole said (ask.Wait rounds) None (Some whole) h m = absurd h
may_not_whole said (ask.Wait rounds) (Some s) whole h m = absurd m

pub refused_whole : (said : List Envelope) (what : Ask) (why : EditFault) (s whole : Option Exporter) → HandedOut said s whole → RefusedBy s what why → RefusedBy whole what why
refused_whole said ask.Nothing why None whole h r = absurd r
refused_whole said ask.Nothing why (Some s) whole h r = absurd r
refused_whole said (ask.Start name) why None None h r = r
refused_whole said (ask.Start name) why None (Some whole) h r = absurd h
refused_whole said (ask.Start name) why (Some s) whole h r = absurd r
refused_whole said (ask.Edit edit) why None whole h r = absurd r
refused_whole said (ask.Edit edit) why (Some s) None h r = absurd h
refused_whole said (ask.Edit edit) why (Some s) (Some whole) h r = edit_whole h.0 s whole edit h.1 ∙ ap (put_if_done h.0) r
refused_whole said (ask.Wait rounds) why None whole h r = absurd r
refused_whole said (ask.Wait rounds) why (Some s) whole h r = absurd r

spent_put : (d : List Happening) (r : Result Exporter EditFault) → IsSpentAfter r → IsSpentAfter (put_if_done d r)
spent_put d (Ok s) h = h
spent_put d (Err why) h = absurd h

-- an edit of an application that has started, whose messages pass the last number
pub record SpentWhole (what : Ask) (whole : Option Exporter) : Type 0 where
  pub started : Exporter
  pub is : whole ≡ Some started
  pub edit : Edit
  pub asks : what ≡ ask.Edit edit
  pub spent : IsSpentAfter (app_edits started edit)

pub spent_whole : (said : List Envelope) (what : Ask) (s whole : Option Exporter) → HandedOut said s whole → SpentBy s what → SpentWhole what whole
spent_whole said (ask.Edit edit) (Some s) (Some whole) h p = record {
  started = whole;
  is = refl;
  edit = edit;
  asks = refl;
  spent = subst (λ (r : Result Exporter EditFault). IsSpentAfter r) (sym (edit_whole h.0 s whole edit h.1)) (spent_put h.0 (app_edits s edit) p);
}
spent_whole said (ask.Edit edit) (Some s) None h p = absurd h
spent_whole said (ask.Edit edit) None whole h p = absurd p
spent_whole said ask.Nothing None whole h p = absurd p
spent_whole said ask.Nothing (Some s) whole h p = absurd p
spent_whole said (ask.Start name) None whole h p = absurd p
spent_whole said (ask.Start name) (Some s) whole h p = absurd p
spent_whole said (ask.Wait rounds) None whole h p = absurd p
spent_whole said (ask.Wait rounds) (Some s) whole h p = absurd p
