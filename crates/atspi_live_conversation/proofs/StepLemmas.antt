-- What a step of a run does, put together from what it calls.
use Rattle.std.proofs.Common.{◌≡◌, ℕ, ◌+◌, List, [], ◌∷◌, ◌++◌, length, Option, None, Some, refl, sym, ap, subst, ◌∙◌, append-nil}
use Rattle.std.specs.Prelude.{Result, Ok, Err, OnOk, IfErr, MatchResult}
use Rattle.std.proofs.lemmas.List.{length-append}
use Rattle.atspi_auth.specs.Talk.{Standing, after, behind, client_start, fault_in, told}
use Rattle.atspi_auth.specs.declared.stage.Stage.{Stage}
use Rattle.atspi_auth.specs.declared.stage.Stage.TheVariants.{Over}
use Rattle.atspi_message.specs.Envelope.{Envelope}
use Rattle.atspi_stream.specs.Stream.{AwaitsMore}
use Rattle.atspi_live_host.specs.declared.call.Did.{Did}
use Rattle.atspi_live_host.specs.declared.call.Did.TheVariants.{NotYet, End, Failed}
use Rattle.atspi_live_host.specs.declared.call.Call.{Call}
use Rattle.atspi_live_host.specs.declared.call.Call.TheVariants.{Read}
use Rattle.atspi_live_host.specs.Calls.{Adds, taken, given}
use Rattle.atspi_live_conversation.specs.Moved.{reads, GoesOn, AllGoOn, Tells}
use Rattle.atspi_live_conversation.specs.Speech.{EndsBy, IsInOrder, IsMalformed, IsRefused, IsSpeech, IsSpentBy, Speaks, line_bytes}
use Rattle.atspi_live_conversation.specs.Talking.{AttendsAll, Blames, Converses, Going, IsAtEase, IsBroken, IsEnded, MaySpeak, Says}
use Rattle.atspi_live_conversation.specs.inner.Talking.{BreaksOff, GivesPart, HearsNot, IsOwn, TellsNot}
use Rattle.atspi_live_conversation.specs.declared.conversation.Conversation.{Conversation}
use Rattle.atspi_live_conversation.specs.declared.ending.Ending.{Ending}
use Rattle.atspi_live_conversation.specs.declared.ending.Ending.TheVariants as endings
use Rattle.atspi_live_conversation.proofs.MovedLemmas.{gives_tells, go_on_more, read_tells}
use Rattle.atspi_live_conversation.proofs.TalkLemmas.{attended, begins, given_on, heard_on, in_order, lines_said, malformed, refused, said_more, speech_more, speech_of, spent}

-- a result, of which more follows
pub on_ok : {T X : Type 0} (r : Result T X) (P Q : Type 0) → (P → Q) → OnOk r P → OnOk r Q
on_ok (Ok x) P Q f h = f h
on_ok (Err x) P Q f h = tt

pub if_err : {T X : Type 0} (r : Result T X) (P Q : X → Type 0) → ((x : X) → P x → Q x) → IfErr r P → IfErr r Q
if_err (Ok x) P Q f h = tt
if_err (Err x) P Q f h = f x h

-- a piece that could not be heard
pub hear_breaks : {E : Type 0} (Stands : E → List Envelope → List Envelope → Type 0) (IsSpent : E → Envelope → Type 0) (t g piece : List ℕ) (c : Conversation) (end : E) (ending : Ending) → Converses Stands t g c end
    → HearsNot ending c.client piece → BreaksOff Stands IsSpent ending (t ++ piece)
hear_breaks Stands IsSpent t g piece c end endings.NotAuthenticated v h = refused Stands t g piece c end v h
hear_breaks Stands IsSpent t g piece c end endings.NoMemory v h = tt
hear_breaks Stands IsSpent t g piece c end endings.RoundsDone v h = absurd h
hear_breaks Stands IsSpent t g piece c end endings.PeerEnded v h = absurd h
hear_breaks Stands IsSpent t g piece c end endings.HostFailed v h = absurd h
hear_breaks Stands IsSpent t g piece c end (endings.Malformed start fault) v h = absurd h
hear_breaks Stands IsSpent t g piece c end endings.Spent v h = absurd h

-- messages that could not all be told
pub tell_breaks : {E : Type 0} (Stands : E → List Envelope → List Envelope → Type 0) (IsSpent : E → Envelope → Type 0) (t g : List ℕ) (c : Conversation) (end end' : E) (ending : Ending) → Converses Stands t g c end
    → TellsNot Stands IsSpent ending c end end' → BreaksOff Stands IsSpent ending t
tell_breaks Stands IsSpent t g c end end' (endings.Malformed start fault) v h = malformed Stands t g h.0 start fault c end end' v h.1 h.2
tell_breaks Stands IsSpent t g c end end' endings.Spent v h = spent Stands IsSpent t g c end end' v h
tell_breaks Stands IsSpent t g c end end' endings.NoMemory v h = tt
tell_breaks Stands IsSpent t g c end end' endings.NotAuthenticated v h = absurd h
tell_breaks Stands IsSpent t g c end end' endings.RoundsDone v h = absurd h
tell_breaks Stands IsSpent t g c end end' endings.PeerEnded v h = absurd h
tell_breaks Stands IsSpent t g c end end' endings.HostFailed v h = absurd h

-- a piece was heard, and the end took what was then whole
pub heeded : {E : Type 0} (Stands : E → List Envelope → List Envelope → Type 0) (t g piece : List ℕ) (c mid c' : Conversation) (end end' : E) → Converses Stands t g c end
    → mid.client ≡ after c.client piece → mid.feeder ≡ c.feeder ++ behind c.client piece → mid.heard ≡ c.heard + length (behind c.client piece) → mid.unsent ≡ c.unsent
    → fault_in (told c.client piece).stage ≡ None
    → AttendsAll Stands None mid.feeder c'.feeder end end' → c'.client ≡ mid.client → c'.unsent ≡ mid.unsent → c'.heard ≡ mid.heard
    → IsAtEase Stands (t ++ piece) g c' end'
heeded Stands t g piece c mid c' end end' v client feeder heard unsent none a client' unsent' heard' =
    let v' : Converses Stands (t ++ piece) g mid end = heard_on Stands t g piece c mid end v client feeder heard unsent in
    record {
      converses = attended Stands (t ++ piece) g mid c' end end' v' a.attends client' unsent' heard';
      authenticated = ap (λ (n : Standing). fault_in n.stage) (client' ∙ client) ∙ none;
      awaits = a.ends;
    }

-- the lines that were to be said wait to be given
pub lines_uttered : {E : Type 0} (Stands : E → List Envelope → List Envelope → Type 0) (t g : List ℕ) (c c' : Conversation) (end : E) → IsAtEase Stands t g c end
    → c'.unsent ≡ c.unsent ++ line_bytes c.client.unsent → c'.client.unsent ≡ [] → c'.client.stage ≡ c.client.stage → c'.client.line ≡ c.client.line → c'.feeder ≡ c.feeder → c'.heard ≡ c.heard
    → IsAtEase Stands t g c' end
lines_uttered Stands t g c c' end a unsent none stage line feeder heard = record {
  converses = lines_said Stands t g c c' end a.converses unsent none stage line feeder heard;
  authenticated = ap (λ (s : Stage). fault_in s) stage ∙ a.authenticated;
  awaits = subst (λ (w : List ℕ). AwaitsMore w) (sym feeder) a.awaits;
}

-- and messages behind them
pub uttered : {E : Type 0} (Stands : E → List Envelope → List Envelope → Type 0) (t g : List ℕ) (c c' : Conversation) (end end' : E) → IsAtEase Stands t g c end
    → c.client.stage ≡ Over → c.client.unsent ≡ [] → Says Stands end end' c.unsent c'.unsent → c'.client ≡ c.client → c'.feeder ≡ c.feeder → c'.heard ≡ c.heard
    → IsAtEase Stands t g c' end'
uttered Stands t g c c' end end' a over none s client feeder heard = record {
  converses = said_more Stands t g c c' end end' a.converses over none s client feeder heard;
  authenticated = ap (λ (n : Standing). fault_in n.stage) client ∙ a.authenticated;
  awaits = subst (λ (w : List ℕ). AwaitsMore w) (sym feeder) a.awaits;
}

-- what a host tells of a link
speech_at : {E : Type 0} (Stands : E → List Envelope → List Envelope → Type 0) (k : ℕ) (calls : Option (List Call)) (t g : List ℕ) (dids : List Did) → Tells k calls t g dids → IsSpeech Stands t g → Speaks Stands k calls
speech_at Stands k None t g dids tells s = tt
speech_at Stands k (Some cs) t g dids tells s =
    subst (λ (w : List ℕ). IsSpeech Stands w (given k cs)) (sym tells.0) (subst (λ (w : List ℕ). IsSpeech Stands t w) (sym tells.1) s)

-- why what was taken ended the run
ends_by : {E : Type 0} (Stands : E → List Envelope → List Envelope → Type 0) (IsSpent : E → Envelope → Type 0) (k rounds : ℕ) (cs : List Call) (t : List ℕ) (dids : List Did) (ending : Ending)
    → taken k cs ≡ t → reads k cs ≡ dids → AllGoOn dids → BreaksOff Stands IsSpent ending t → EndsBy Stands IsSpent k ending rounds cs
ends_by Stands IsSpent k rounds cs t dids endings.NotAuthenticated e d a b = (subst (λ (w : List ℕ). IsRefused Stands w) (sym e) b, subst AllGoOn (sym d) a)
ends_by Stands IsSpent k rounds cs t dids (endings.Malformed start fault) e d a b = (subst (λ (w : List ℕ). IsMalformed Stands w start fault.place fault.reason) (sym e) b, subst AllGoOn (sym d) a)
ends_by Stands IsSpent k rounds cs t dids endings.Spent e d a b = (subst (λ (w : List ℕ). IsSpentBy Stands IsSpent w) (sym e) b, subst AllGoOn (sym d) a)
ends_by Stands IsSpent k rounds cs t dids endings.NoMemory e d a b = tt
ends_by Stands IsSpent k rounds cs t dids endings.RoundsDone e d a b = absurd b
ends_by Stands IsSpent k rounds cs t dids endings.PeerEnded e d a b = absurd b
ends_by Stands IsSpent k rounds cs t dids endings.HostFailed e d a b = absurd b

broken_off : {E : Type 0} (Stands : E → List Envelope → List Envelope → Type 0) (IsSpent : E → Envelope → Type 0) (k rounds : ℕ) (calls : Option (List Call)) (t g : List ℕ) (dids : List Did) (ending : Ending)
    → Tells k calls t g dids → AllGoOn dids → IsSpeech Stands t g → BreaksOff Stands IsSpent ending t → IsEnded Stands IsSpent k ending rounds calls
broken_off Stands IsSpent k rounds None t g dids ending tells a s b = (tt, tt)
broken_off Stands IsSpent k rounds (Some cs) t g dids ending tells a s b =
    (speech_at Stands k (Some cs) t g dids tells s, ends_by Stands IsSpent k rounds cs t dids ending tells.0 tells.2 a b)

-- a read that took bytes, which the end was then told
pub took : {E : Type 0} (Stands : E → List Envelope → List Envelope → Type 0) (k n : ℕ) (calls calls' : Option (List Call)) (bytes : List ℕ) (did : Did) (c c' : Conversation) (end end' : E)
    → Adds calls calls' (Read k bytes did) → GoesOn did → ((t g : List ℕ) → Converses Stands t g c end → IsAtEase Stands (t ++ bytes) g c' end')
    → Going Stands k calls n c end → Going Stands k calls' (n + 1) c' end'
took Stands k n calls calls' bytes did c c' end end' a o f w = record {
  t = w.t ++ bytes;
  g = w.g;
  dids = w.dids ++ did ∷ [];
  tells = read_tells k calls calls' bytes did w.t w.g w.dids a w.tells;
  go_on = go_on_more w.dids did w.go_on o;
  counted = length-append w.dids (did ∷ []) ∙ ap (λ (m : ℕ). m + 1) w.counted;
  at_ease = f w.t w.g w.at_ease.converses;
}

-- a read that found nothing ready
pub took_nothing : {E : Type 0} (Stands : E → List Envelope → List Envelope → Type 0) (k n : ℕ) (calls calls' : Option (List Call)) (c : Conversation) (end : E)
    → Adds calls calls' (Read k [] NotYet) → Going Stands k calls n c end → Going Stands k calls' (n + 1) c end
took_nothing Stands k n calls calls' c end a w = record {
  t = w.t;
  g = w.g;
  dids = w.dids ++ NotYet ∷ [];
  tells = subst (λ (x : List ℕ). Tells k calls' x w.g (w.dids ++ NotYet ∷ [])) (append-nil w.t) (read_tells k calls calls' [] NotYet w.t w.g w.dids a w.tells);
  go_on = go_on_more w.dids NotYet w.go_on tt;
  counted = length-append w.dids (NotYet ∷ []) ∙ ap (λ (m : ℕ). m + 1) w.counted;
  at_ease = w.at_ease;
}

-- a read that took bytes by which the run ends
pub took_last : {E : Type 0} (Stands : E → List Envelope → List Envelope → Type 0) (IsSpent : E → Envelope → Type 0) (k n rounds : ℕ) (calls calls' : Option (List Call)) (bytes : List ℕ) (did : Did) (c : Conversation) (end : E) (ending : Ending)
    → Adds calls calls' (Read k bytes did) → GoesOn did → ((t g : List ℕ) → Converses Stands t g c end → BreaksOff Stands IsSpent ending (t ++ bytes))
    → Going Stands k calls n c end → IsEnded Stands IsSpent k ending rounds calls'
took_last Stands IsSpent k n rounds calls calls' bytes did c end ending a o f w =
    broken_off Stands IsSpent k rounds calls' (w.t ++ bytes) w.g (w.dids ++ did ∷ []) ending
    (read_tells k calls calls' bytes did w.t w.g w.dids a w.tells) (go_on_more w.dids did w.go_on o)
    (speech_more Stands w.t bytes w.g (speech_of Stands w.t w.g c end w.at_ease.converses)) (f w.t w.g w.at_ease.converses)

-- a read that found the peer's end
pub peer_ended : {E : Type 0} (Stands : E → List Envelope → List Envelope → Type 0) (IsSpent : E → Envelope → Type 0) (k n rounds : ℕ) (calls calls' : Option (List Call)) (c : Conversation) (end : E)
    → Adds calls calls' (Read k [] End) → Going Stands k calls n c end → IsEnded Stands IsSpent k endings.PeerEnded rounds calls'
peer_ended Stands IsSpent k n rounds calls calls' c end a w = by calls' (subst (λ (x : List ℕ). Tells k calls' x w.g (w.dids ++ End ∷ [])) (append-nil w.t) (read_tells k calls calls' [] End w.t w.g w.dids a w.tells))
  where
    by : (calls' : Option (List Call)) → Tells k calls' w.t w.g (w.dids ++ End ∷ []) → IsEnded Stands IsSpent k endings.PeerEnded rounds calls'
    by None tells = (tt, tt)
    by (Some cs) tells = (
      speech_at Stands k (Some cs) w.t w.g (w.dids ++ End ∷ []) tells (speech_of Stands w.t w.g c end w.at_ease.converses),
      (subst (λ (x : List ℕ). IsInOrder Stands x) (sym tells.0) (in_order Stands w.t w.g c end w.at_ease), (w.dids, tells.2, w.go_on)),
    )

-- a host that failed, with these bytes taken and given
failed_at : {E : Type 0} (Stands : E → List Envelope → List Envelope → Type 0) (IsSpent : E → Envelope → Type 0) (k rounds : ℕ) (calls : Option (List Call)) (t g : List ℕ) (dids : List Did) (c : Conversation) (end : E)
    → Tells k calls t g dids → IsAtEase Stands t g c end → IsEnded Stands IsSpent k endings.HostFailed rounds calls
failed_at Stands IsSpent k rounds None t g dids c end tells a = (tt, tt)
failed_at Stands IsSpent k rounds (Some cs) t g dids c end tells a =
    (speech_at Stands k (Some cs) t g dids tells (speech_of Stands t g c end a.converses), subst (λ (x : List ℕ). IsInOrder Stands x) (sym tells.0) (in_order Stands t g c end a))

-- a read that failed
pub read_failed : {E : Type 0} (Stands : E → List Envelope → List Envelope → Type 0) (IsSpent : E → Envelope → Type 0) (k n rounds : ℕ) (calls calls' : Option (List Call)) (c : Conversation) (end : E)
    → Adds calls calls' (Read k [] Failed) → Going Stands k calls n c end → IsEnded Stands IsSpent k endings.HostFailed rounds calls'
read_failed Stands IsSpent k n rounds calls calls' c end a w =
    failed_at Stands IsSpent k rounds calls' w.t w.g (w.dids ++ Failed ∷ []) c end
    (subst (λ (x : List ℕ). Tells k calls' x w.g (w.dids ++ Failed ∷ [])) (append-nil w.t) (read_tells k calls calls' [] Failed w.t w.g w.dids a w.tells)) w.at_ease

-- want of memory
pub no_memory : {E : Type 0} (Stands : E → List Envelope → List Envelope → Type 0) (IsSpent : E → Envelope → Type 0) (k n rounds : ℕ) (calls : Option (List Call)) (c : Conversation) (end : E)
    → Going Stands k calls n c end → IsEnded Stands IsSpent k endings.NoMemory rounds calls
no_memory Stands IsSpent k n rounds calls c end w = broken_off Stands IsSpent k rounds calls w.t w.g w.dids endings.NoMemory w.tells w.go_on (speech_of Stands w.t w.g c end w.at_ease.converses) tt

-- what is to be said was uttered, and some of it given
pub gave : {E : Type 0} (Stands : E → List Envelope → List Envelope → Type 0) (k n : ℕ) (calls calls' : Option (List Call)) (c mid c' : Conversation) (end end' : E)
    → ((t g : List ℕ) → IsAtEase Stands t g c end → IsAtEase Stands t g mid end') → GivesPart k calls calls' mid.unsent c'.unsent
    → c'.client ≡ mid.client → c'.feeder ≡ mid.feeder → c'.heard ≡ mid.heard
    → Going Stands k calls n c end → Going Stands k calls' n c' end'
gave Stands k n calls calls' c mid c' end end' f p client feeder heard w =
    let a : IsAtEase Stands w.t w.g mid end' = f w.t w.g w.at_ease in
    record {
      t = w.t;
      g = w.g ++ p.0;
      dids = w.dids;
      tells = gives_tells k calls calls' p.0 w.t w.g w.dids p.1 w.tells;
      go_on = w.go_on;
      counted = w.counted;
      at_ease = record {
        converses = given_on Stands w.t w.g p.0 mid c' end' a.converses p.2 client feeder heard;
        authenticated = ap (λ (s : Standing). fault_in s.stage) client ∙ a.authenticated;
        awaits = subst (λ (x : List ℕ). AwaitsMore x) (sym feeder) a.awaits;
      };
    }

-- a write that failed
pub write_failed : {E : Type 0} (Stands : E → List Envelope → List Envelope → Type 0) (IsSpent : E → Envelope → Type 0) (k n rounds : ℕ) (calls : Option (List Call)) (c : Conversation) (end : E)
    → Going Stands k calls n c end → IsEnded Stands IsSpent k endings.HostFailed rounds calls
write_failed Stands IsSpent k n rounds calls c end w = failed_at Stands IsSpent k rounds calls w.t w.g w.dids c end w.tells w.at_ease

-- before the first round
pub at_first : {E : Type 0} (Stands : E → List Envelope → List Envelope → Type 0) (k : ℕ) (calls : Option (List Call)) (c : Conversation) (end : E) → Tells k calls [] [] [] → c.client ≡ client_start → c.feeder ≡ [] → c.unsent ≡ [] → c.heard ≡ 0 → Stands end [] []
    → Going Stands k calls 0 c end
at_first Stands k calls c end tells client feeder unsent heard stands = record {
  t = [];
  g = [];
  dids = [];
  tells = tells;
  go_on = tt;
  counted = refl;
  at_ease = begins Stands c end client feeder unsent heard stands;
}

pub may_begin : {E : Type 0} (Stands : List ℕ → E → List Envelope → List Envelope → Type 0) (aside : List ℕ) (end : E) → Stands aside end [] [] → MaySpeak Stands end
may_begin Stands aside end stands = record { aside = aside; took = []; said = []; stands = stands; meet = tt }

-- behind the last round
pub all_done : {E : Type 0} (Stands : E → List Envelope → List Envelope → Type 0) (IsSpent : E → Envelope → Type 0) (k n rounds : ℕ) (calls : Option (List Call)) (c : Conversation) (end : E)
    → n ≡ rounds → Going Stands k calls n c end → IsEnded Stands IsSpent k endings.RoundsDone rounds calls
all_done Stands IsSpent k n rounds calls c end e w = by calls w.tells
  where
    by : (calls : Option (List Call)) → Tells k calls w.t w.g w.dids → IsEnded Stands IsSpent k endings.RoundsDone rounds calls
    by None tells = (tt, tt)
    by (Some cs) tells = (
      speech_at Stands k (Some cs) w.t w.g w.dids tells (speech_of Stands w.t w.g c end w.at_ease.converses),
      (
        subst (λ (x : List ℕ). IsInOrder Stands x) (sym tells.0) (in_order Stands w.t w.g c end w.at_ease),
        subst AllGoOn (sym tells.2) w.go_on,
        ap (λ (x : List Did). length x) tells.2 ∙ w.counted ∙ e,
      ),
    )

-- endings for which the host is not to blame
pub hears_own : (ending : Ending) (client : Standing) (piece : List ℕ) → HearsNot ending client piece → IsOwn ending
hears_own endings.NotAuthenticated client piece h = tt
hears_own endings.NoMemory client piece h = tt
hears_own endings.RoundsDone client piece h = h
hears_own endings.PeerEnded client piece h = h
hears_own endings.HostFailed client piece h = h
hears_own (endings.Malformed start fault) client piece h = tt
hears_own endings.Spent client piece h = tt

pub tells_own : {E : Type 0} (Stands : E → List Envelope → List Envelope → Type 0) (IsSpent : E → Envelope → Type 0) (ending : Ending) (c : Conversation) (end end' : E) → TellsNot Stands IsSpent ending c end end' → IsOwn ending
tells_own Stands IsSpent endings.NotAuthenticated c end end' h = tt
tells_own Stands IsSpent endings.NoMemory c end end' h = tt
tells_own Stands IsSpent endings.RoundsDone c end end' h = h
tells_own Stands IsSpent endings.PeerEnded c end end' h = h
tells_own Stands IsSpent endings.HostFailed c end end' h = h
tells_own Stands IsSpent (endings.Malformed start fault) c end end' h = tt
tells_own Stands IsSpent endings.Spent c end end' h = tt

own_blames : (ending : Ending) (before after : ℕ) → IsOwn ending → after ≡ before → Blames ending before after
own_blames endings.NotAuthenticated before after h e = e
own_blames endings.NoMemory before after h e = e
own_blames endings.RoundsDone before after h e = absurd h
own_blames endings.PeerEnded before after h e = absurd h
own_blames endings.HostFailed before after h e = absurd h
own_blames (endings.Malformed start fault) before after h e = e
own_blames endings.Spent before after h e = e

pub cause_of : {T : Type 0} (r : Result T Ending) (before after : ℕ) → IfErr r IsOwn → after ≡ before → MatchResult r (λ _. after ≡ before) (λ ending. Blames ending before after)
cause_of (Ok x) before after h e = e
cause_of (Err x) before after h e = own_blames x before after h e

pub own_broken : (ending : Ending) → IsOwn ending → IsBroken ending
own_broken endings.NotAuthenticated h = tt
own_broken endings.NoMemory h = tt
own_broken endings.RoundsDone h = h
own_broken endings.PeerEnded h = tt
own_broken endings.HostFailed h = tt
own_broken (endings.Malformed start fault) h = tt
own_broken endings.Spent h = tt

-- an ending that is not the peer's
pub not_ended : {T : Type 0} (r : Result T Ending) → IfErr r IsOwn → r ≡ Err endings.PeerEnded → ⊥
not_ended r o e = rw e at o
