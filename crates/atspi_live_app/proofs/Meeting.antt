-- A message that an application hands out meets the rules, where those that it took do.
use Rattle.std.proofs.Common.{◌≡◌, List, [], ◌∷◌, ◌++◌, Option, Some, None, sym, ap, subst}
use Rattle.atspi_tree_model.specs.Row.{Each}
use Rattle.atspi_message.specs.Envelope.{Envelope}
use Rattle.atspi_message.specs.Rules.{MeetsRules}
use Rattle.atspi_live_conversation.specs.Sent.{AllMeet}
use Rattle.atspi_protocol.specs.exporting.Exporter.{Happening, steps, sends, hears, deaf, Exporter}
use Rattle.atspi_live_app.specs.Standing.{Comes, Does, Event, HandedOut, Makes, does, sent_in, taken_in, takes}
use Rattle.atspi_live_app.specs.declared.asking.Ask.{Ask}
use Rattle.atspi_live_app.specs.declared.asking.Ask.TheVariants as ask
use Rattle.atspi_live_app.proofs.Told.{Meets}
use Rattle.atspi_live_app.proofs.Sending.{IsSound, edited_sound, starts_sound, takes_sound}
use Rattle.atspi_live_app.proofs.Making.{handed_both}

abbrev SoundIf : Option Exporter → Type 0
SoundIf None = Unit {0}
SoundIf (Some s) = IsSound s

same_sound : (s t : Option Exporter) → t ≡ s → SoundIf s → SoundIf t
same_sound s t e h = subst SoundIf (sym e) h

does_sound : (what : Ask) (s t : Option Exporter) → Does s what t → SoundIf s → SoundIf t
does_sound ask.Nothing s t d h = same_sound s t d h
does_sound (ask.Start name) None t d h = same_sound (Some _) t d.1 (starts_sound name)
does_sound (ask.Start name) (Some s) t d h = absurd d
does_sound (ask.Edit edit) None t d h = absurd d
does_sound (ask.Edit edit) (Some s) t d h = same_sound (Some d.0) t d.2 (edited_sound s d.0 edit d.1 h)
does_sound (ask.Wait rounds) None t d h = absurd d
does_sound (ask.Wait rounds) (Some s) t d h = same_sound (Some s) t d h

taken_sound : (e : Envelope) (s t : Option Exporter) → MeetsRules e → Comes s (takes e) t → SoundIf s → SoundIf t
taken_sound e None t m c h = same_sound None t c tt
taken_sound e (Some s) t m c h = same_sound (Some _) t c (takes_sound s e m.numbered h)

makes_sound : (events : List Event) (s t : Option Exporter) → AllMeet (taken_in events) → Makes s events t → SoundIf s → SoundIf t
makes_sound [] s t m k h = same_sound s t k h
makes_sound (does line ∷ events) s t m k h = makes_sound events k.0 t m k.2 (does_sound k.1.0 s k.0 k.1.2 h)
makes_sound (takes e ∷ events) s t m k h = makes_sound events k.0 t m.1 k.2 (taken_sound e s k.0 m.0 k.1 h)

front_meets : (xs ys : List Happening) → Each Meets (xs ++ ys) → AllMeet (sent_in xs)
front_meets [] ys h = tt
front_meets (sends e ∷ xs) ys h = (h.0, front_meets xs ys h.1)
front_meets (steps step ∷ xs) ys h = front_meets xs ys h.1
front_meets (hears bus pattern ∷ xs) ys h = front_meets xs ys h.1
front_meets (deaf bus pattern ∷ xs) ys h = front_meets xs ys h.1

last_meets : (es : List Envelope) (e : Envelope) → AllMeet (es ++ e ∷ []) → MeetsRules e
last_meets [] e h = h.0
last_meets (x ∷ es) e h = last_meets es e h.1

none_is : (said : List Envelope) (e : Envelope) → said ++ e ∷ [] ≡ [] → ⊥
none_is [] e h = cc
none_is (x ∷ said) e h = cc

handed_meets : (said : List Envelope) (e : Envelope) (t whole : Option Exporter) → HandedOut (said ++ e ∷ []) t whole → SoundIf whole → MeetsRules e
handed_meets said e None None h sound = absurd (none_is said e h)
handed_meets said e (Some t) (Some whole) h sound =
    let all : Each Meets (h.0 ++ t.out) = subst (λ (w : List Happening). Each Meets w) (sym (ap (λ (x : Exporter). x.out) h.1)) sound.out in
    last_meets said e (subst (λ (w : List Envelope). AllMeet w) h.2 (front_meets h.0 t.out all))
handed_meets said e None (Some whole) h sound = absurd h
handed_meets said e (Some t) None h sound = absurd h

-- THE MESSAGE HANDED OUT NEXT
pub next_meets : (events : List Event) (said : List Envelope) (e : Envelope) (t s whole : Option Exporter) → AllMeet (taken_in events) → Makes None events whole → HandedOut said s whole → HandedOut (e ∷ []) t s → MeetsRules e
next_meets events said e t s whole m k h g = handed_meets said e t whole (handed_both said (e ∷ []) t s whole h g) (makes_sound events None whole m k tt)
