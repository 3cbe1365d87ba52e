-- A turn of an application: what was said, taken and done.
use Rattle.std.proofs.Common.{◌≡◌, ℕ, List, [], ◌∷◌, ◌++◌, length, take, drop, Option, None, Some, refl, sym, subst, take_at, drop_at}
use Rattle.std.proofs.lemmas.List.{length-map}
use Rattle.atspi_auth.specs.Talk.{behind, client_start}
use Rattle.atspi_message.specs.Envelope.{Envelope}
use Rattle.atspi_stream.specs.Stream.{IsParted}
use Rattle.atspi_live_host.specs.declared.call.Call.{Call}
use Rattle.atspi_live_conversation.specs.Rounds.{Breaks, IsRound, Makes}
use Rattle.atspi_live_conversation.specs.Speech.{Ends, Speaks, envelopes}
use Rattle.atspi_live_conversation.specs.Talking.{Going, HasNone, IsEnded, MaySpeak}
use Rattle.atspi_live_conversation.specs.declared.conversation.Conversation.{Conversation}
use Rattle.atspi_live_conversation.specs.declared.ending.Ending.{Ending}
use Rattle.atspi_live_conversation.specs.declared.ending.Ending.TheVariants as endings
use Rattle.atspi_live_conversation.proofs.RoundLemmas.{makes_if, none_wait}
use Rattle.atspi_live_conversation.proofs.SeenLemmas.{breaks_seen, ends_seen, round_seen, speaks_seen}
use Rattle.atspi_live_conversation.proofs.StepLemmas.{all_done}
use Rattle.atspi_protocol.specs.exporting.Exporter.{Exporter}
use Rattle.atspi_live_app.specs.Lines.{lines_of}
use Rattle.atspi_live_app.specs.Standing.{Event, IsAfter, IsEmpty, IsSpent}
use Rattle.atspi_live_app.specs.Live.{IsMarked, IsStopped, Stands, StandsAt, queued_in, seen}
use Rattle.atspi_live_app.specs.inner.Live.{aside_of}
use Rattle.atspi_live_app.specs.Input.{left_in}
use Rattle.atspi_live_app.specs.Overs.{IsOver, StopsSo}
use Rattle.atspi_live_app.specs.Pace.{Heard}
use Rattle.atspi_live_app.specs.declared.live_app.LiveApp.{LiveApp}
use Rattle.atspi_live_app.specs.declared.live_app.Stop.{Stop}
use Rattle.atspi_live_app.specs.declared.over.Over.TheVariants as overs

-- what a live application did, of the application alone
pub after : {A K : Type 0} (is_app : A → Type 0) (exporter : A → Exporter) (is_kit : K → Type 0) (text marks : List ℕ) (app : Option A) (kit : Option K) (held : List ℕ) (at number : ℕ) (took said : List Envelope)
    → Stands is_app exporter is_kit text marks app kit held at number took said → IsAfter (IsMarked marks) (lines_of text) (seen exporter app) took said
after is_app exporter is_kit text marks app kit held at number took said f = record { history = f.history; left = left_in text at; order = f.marked; all = f.all; taken = f.taken; whole = f.whole; makes = f.makes; handed = f.handed; numbered = f.numbered }

-- an end that is seen as an application, and what holds of it then
abbrev pub IsSeen : {E : Type 0} → (E → List Envelope → List Envelope → Type 0) → (List Event → List (List ℕ) → Type 0) → List (List ℕ) → (E → Option Exporter) → Type 0
IsSeen {E} St P lines see = (e : E) (took said : List Envelope) → St e took said → IsAfter P lines (see e) took said

speaks : {E : Type 0} (St : E → List Envelope → List Envelope → Type 0) (P : List Event → List (List ℕ) → Type 0) (lines : List (List ℕ)) (see : E → Option Exporter) (k : ℕ) (calls : Option (List Call)) → IsSeen St P lines see → Speaks St k calls → Speaks (IsAfter P lines) k calls
speaks St P lines see k calls h s = speaks_seen St (IsAfter P lines) see k calls h s

ends_on : {E : Type 0} (St : E → List Envelope → List Envelope → Type 0) (P : List Event → List (List ℕ) → Type 0) (lines : List (List ℕ)) (see : E → Option Exporter) (k rounds : ℕ) (ending : Ending) (calls : Option (List Call)) → IsSeen St P lines see
    → Ends St (λ e m. IsSpent (see e) m) k ending rounds calls → Ends (IsAfter P lines) IsSpent k ending rounds calls
ends_on St P lines see k rounds ending calls h e = ends_seen St (IsAfter P lines) (λ e m. IsSpent (see e) m) IsSpent see k rounds ending calls h (λ end m s. s) e

-- the calls of a round, by what the application alone says
empty_at : (s : Option Exporter) → queued_in s ≡ 0 → IsEmpty s
empty_at None e = tt
empty_at (Some s) e = none_wait s.out (length s.out) refl e

pub round_of : {E : Type 0} (St : E → List Envelope → List Envelope → Type 0) (P : List Event → List (List ℕ) → Type 0) (lines : List (List ℕ)) (see : E → Option Exporter) (k most : ℕ) (t g : List ℕ) (old new : Option (List Call)) → IsSeen St P lines see
    → Makes old new (IsRound St (HasNone (λ e. queued_in (see e))) k most t g) → Makes old new (IsRound (IsAfter P lines) IsEmpty k most t g)
round_of St P lines see k most t g old new h m =
    makes_if old new (IsRound St (HasNone (λ e. queued_in (see e))) k most t g) (IsRound (IsAfter P lines) IsEmpty k most t g)
    (λ calls. round_seen St (IsAfter P lines) (HasNone (λ e. queued_in (see e))) IsEmpty see k most t g calls h (λ e. empty_at (see e))) m

pub breaks_of : {E : Type 0} (St : E → List Envelope → List Envelope → Type 0) (P : List Event → List (List ℕ) → Type 0) (lines : List (List ℕ)) (see : E → Option Exporter) (k most : ℕ) (ending : Ending) (t g : List ℕ) (old new : Option (List Call)) → IsSeen St P lines see
    → Makes old new (Breaks St (HasNone (λ e. queued_in (see e))) k most ending t g) → Makes old new (Breaks (IsAfter P lines) IsEmpty k most ending t g)
breaks_of St P lines see k most ending t g old new h m =
    makes_if old new (Breaks St (HasNone (λ e. queued_in (see e))) k most ending t g) (Breaks (IsAfter P lines) IsEmpty k most ending t g)
    (λ calls. breaks_seen St (IsAfter P lines) (HasNone (λ e. queued_in (see e))) IsEmpty see k most ending t g calls h (λ e. empty_at (see e))) m

-- the conversation ended
pub turn_ended : {E : Type 0} (St : E → List Envelope → List Envelope → Type 0) (P : List Event → List (List ℕ) → Type 0) (lines : List (List ℕ)) (see : E → Option Exporter) (k rounds : ℕ) (ending : Ending) (calls : Option (List Call)) → IsSeen St P lines see
    → IsEnded St (λ e m. IsSpent (see e) m) k ending rounds calls → IsOver P lines k (overs.Ended ending) rounds calls
turn_ended St P lines see k rounds ending calls h e = record { speaks = speaks St P lines see k calls h e.0; so = ends_on St P lines see k rounds ending calls h e.1 }

-- all rounds were done
pub all_turned : {E : Type 0} (St : E → List Envelope → List Envelope → Type 0) (P : List Event → List (List ℕ) → Type 0) (lines : List (List ℕ)) (see : E → Option Exporter) (k n rounds : ℕ) (calls : Option (List Call)) (c : Conversation) (end : E) → IsSeen St P lines see
    → n ≡ rounds → Going St k calls n c end → IsOver P lines k (overs.Ended endings.RoundsDone) rounds calls
all_turned St P lines see k n rounds calls c end h e g = turn_ended St P lines see k rounds endings.RoundsDone calls h (all_done St (λ e m. IsSpent (see e) m) k n rounds calls c end e g)

-- a line was not done
stops : {E : Type 0} (St : E → List Envelope → List Envelope → Type 0) (P : List Event → List (List ℕ) → Type 0) (lines : List (List ℕ)) (see : E → Option Exporter) (k n : ℕ) (stop : Stop) (calls : Option (List Call)) (c : Conversation) (end : E)
    → ((took said : List Envelope) → St end took said → IsStopped P stop lines took) → Going St k calls n c end → IsEnded St (λ e m. IsSpent (see e) m) k endings.RoundsDone n calls → StopsSo P lines stop k calls
stops St P lines see k n stop None c end f g e = tt
stops St P lines see k n stop (Some cs) c end f g e =
    let v = g.at_ease.converses in (
      record {
        authenticated = e.1.0.authenticated;
        messages = v.messages;
        rest = c.feeder;
        parted = subst (λ (t : List ℕ). IsParted (behind client_start t) v.messages c.feeder) (sym g.tells.0) v.parted;
        awaits = g.at_ease.awaits;
        stopped = f (envelopes v.messages) v.said v.end_stands;
      },
      e.1.1,
    )

pub turn_stopped : {E : Type 0} (St : E → List Envelope → List Envelope → Type 0) (P : List Event → List (List ℕ) → Type 0) (lines : List (List ℕ)) (see : E → Option Exporter) (k n rounds : ℕ) (stop : Stop) (calls : Option (List Call)) (c : Conversation) (end : E) → IsSeen St P lines see
    → ((took said : List Envelope) → St end took said → IsStopped P stop lines took) → Going St k calls n c end → IsOver P lines k (overs.Stopped stop) rounds calls
turn_stopped St P lines see k n rounds stop calls c end h f g =
    let e : IsEnded St (λ e m. IsSpent (see e) m) k endings.RoundsDone n calls = all_done St (λ e m. IsSpent (see e) m) k n n calls c end refl g in
    record { speaks = speaks St P lines see k calls h e.0; so = stops St P lines see k n stop calls c end f g e }

-- how many messages the end took are whole in what was taken
pub heard_of : {E : Type 0} (St : E → List Envelope → List Envelope → Type 0) (k n : ℕ) (calls : Option (List Call)) (c : Conversation) (end : E) (w : Going St k calls n c end) → Heard k calls (length (envelopes w.at_ease.converses.messages))
heard_of St k n None c end w = tt
heard_of St k n (Some cs) c end w =
    let v = w.at_ease.converses in (
      v.messages,
      c.feeder,
      subst (λ (t : List ℕ). IsParted (behind client_start t) v.messages c.feeder) (sym w.tells.0) v.parted,
      w.at_ease.awaits,
      sym (length-map v.messages (λ (m : Envelope × List ℕ). m.0)),
    )

-- a line was done between two rounds
abbrev pub going_turns : {E : Type 0} (St St' : E → List Envelope → List Envelope → Type 0) (k n : ℕ) (calls : Option (List Call)) (c : Conversation) (old new : E) (g : Going St k calls n c old)
    → St' new (envelopes g.at_ease.converses.messages) g.at_ease.converses.said → Going St' k calls n c new
going_turns St St' k n calls c old new g s =
    let v = g.at_ease.converses in
    record {
      t = g.t;
      g = g.g;
      dids = g.dids;
      tells = g.tells;
      go_on = g.go_on;
      counted = g.counted;
      at_ease = record {
        converses = record {
          lines = v.lines;
          messages = v.messages;
          said = v.said;
          sent = v.sent;
          client_stands = v.client_stands;
          parted = v.parted;
          heard = v.heard;
          end_stands = s;
          spelled = v.spelled;
          all = v.all;
          order = v.order;
        };
        authenticated = g.at_ease.authenticated;
        awaits = g.at_ease.awaits;
      };
    }

-- what is told beside the link, taken apart and put together
pub stands_in : {A K : Type 0} (is_app : A → Type 0) (exporter : A → Exporter) (is_kit : K → Type 0) (place : ℕ) (marks text : List ℕ) (app : Option A) (kit : Option K) (held : List ℕ) (at number : ℕ) (took said : List Envelope)
    → StandsAt is_app exporter is_kit (aside_of place marks text) app kit held at number took said → (at ≡ place) × Stands is_app exporter is_kit text marks app kit held at number took said
stands_in is_app exporter is_kit place marks text app kit held at number took said f = (
  f.0,
  subst (λ (x : List ℕ). Stands is_app exporter is_kit x marks app kit held at number took said) (drop_at marks text (length marks) refl)
      (subst (λ (x : List ℕ). Stands is_app exporter is_kit (drop (length marks) (marks ++ text)) x app kit held at number took said) (take_at marks text (length marks) refl) f.1),
)

pub stands_as : {A K : Type 0} (is_app : A → Type 0) (exporter : A → Exporter) (is_kit : K → Type 0) (at : ℕ) (marks text : List ℕ) (app : Option A) (kit : Option K) (held : List ℕ) (number : ℕ) (took said : List Envelope)
    → Stands is_app exporter is_kit text marks app kit held at number took said → StandsAt is_app exporter is_kit (aside_of at marks text) app kit held at number took said
stands_as is_app exporter is_kit at marks text app kit held number took said f = (
  refl,
  subst (λ (x : List ℕ). Stands is_app exporter is_kit (drop (length marks) (marks ++ text)) x app kit held at number took said) (sym (take_at marks text (length marks) refl))
      (subst (λ (x : List ℕ). Stands is_app exporter is_kit x marks app kit held at number took said) (sym (drop_at marks text (length marks) refl)) f),
)

-- it stays, where it is known how the end stands otherwise
pub stays : {A K : Type 0} (is_app : A → Type 0) (exporter : A → Exporter) (is_kit : K → Type 0) (old new : Option A) (kit : Option K) (held : List ℕ) (at number : ℕ) (aside : List ℕ) (took took' said said' : List Envelope)
    → ((text marks : List ℕ) → Stands is_app exporter is_kit text marks old kit held at number took said → Stands is_app exporter is_kit text marks new kit held at number took' said')
    → StandsAt is_app exporter is_kit aside old kit held at number took said → StandsAt is_app exporter is_kit aside new kit held at number took' said'
stays is_app exporter is_kit old new kit held at number [] took took' said said' r s = absurd s
stays is_app exporter is_kit old new kit held at number (place ∷ []) took took' said said' r s = absurd s
stays is_app exporter is_kit old new kit held at number (place ∷ count ∷ told) took took' said said' r s = (s.0, r (drop count told) (take count told) s.1)

pub then_of : {A K : Type 0} (is_app : A → Type 0) (exporter : A → Exporter) (is_kit : K → Type 0) (app : Option A) (kit : Option K) (held : List ℕ) (at number : ℕ) (aside : List ℕ) (took said : List Envelope) (P : Type 0)
    → ((text marks : List ℕ) → Stands is_app exporter is_kit text marks app kit held at number took said → P) → StandsAt is_app exporter is_kit aside app kit held at number took said → P
then_of is_app exporter is_kit app kit held at number [] took said P r s = absurd s
then_of is_app exporter is_kit app kit held at number (place ∷ []) took said P r s = absurd s
then_of is_app exporter is_kit app kit held at number (place ∷ count ∷ told) took said P r s = r (drop count told) (take count told) s.1

-- the same of a live application
abbrev pub StandsOf : {A K S : Type 0} → (A → Type 0) → (A → Exporter) → (K → Type 0) → List ℕ → LiveApp A K S → List Envelope → List Envelope → Type 0
StandsOf is_app exporter is_kit aside l took said = StandsAt is_app exporter is_kit aside l.app l.kit l.input.text.items l.input.at l.input.number took said

abbrev pub see_of : {A K S : Type 0} → (A → Exporter) → LiveApp A K S → Option Exporter
see_of exporter l = seen exporter l.app

pub seen_of : {A K S : Type 0} (is_app : A → Type 0) (exporter : A → Exporter) (is_kit : K → Type 0) (place : ℕ) (marks text : List ℕ)
    → IsSeen (StandsOf {S = S} is_app exporter is_kit (aside_of place marks text)) (IsMarked marks) (lines_of text) (see_of exporter)
seen_of is_app exporter is_kit place marks text l took said f =
    after is_app exporter is_kit text marks l.app l.kit l.input.text.items l.input.at l.input.number took said
    (stands_in is_app exporter is_kit place marks text l.app l.kit l.input.text.items l.input.at l.input.number took said f).1

-- where a line may have been done, an end that may speak still may
pub may_turns : {A K S : Type 0} (is_app : A → Type 0) (exporter : A → Exporter) (is_kit : K → Type 0) (old new : LiveApp A K S)
    → ((text marks : List ℕ) (place : ℕ) (took said : List Envelope) → StandsOf is_app exporter is_kit (aside_of place marks text) old took said → (aside : List ℕ) × StandsOf is_app exporter is_kit aside new took said)
    → MaySpeak (StandsOf is_app exporter is_kit) old → MaySpeak (StandsOf is_app exporter is_kit) new
may_turns is_app exporter is_kit old new r m =
    then_of is_app exporter is_kit old.app old.kit old.input.text.items old.input.at old.input.number m.aside m.took m.said (MaySpeak (StandsOf is_app exporter is_kit) new)
    (λ text marks f.
    let s = r text marks old.input.at m.took m.said (stands_as is_app exporter is_kit old.input.at marks text old.app old.kit old.input.text.items old.input.number m.took m.said f) in
    record { aside = s.0; took = m.took; said = m.said; stands = s.1; meet = m.meet }) m.stands
