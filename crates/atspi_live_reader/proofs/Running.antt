-- How a run of the live reader ends, put together.
use Rattle.std.proofs.Common.{◌≡◌, ◌<◌, ℕ, Bool, true, false, List, [], ◌∷◌, ◌++◌, Option, None, Some, refl, sym, ap, subst, ◌∙◌, inl, inr, append_assoc, arith}
use Rattle.std.specs.Prelude.{◌⊎◌}
use Rattle.std.specs.Io.KnownBytes.{Appends}
use Rattle.atspi_auth.specs.Talk.{behind, client_start}
use Rattle.std.proofs.KnownBytes.{Appends-nil}
use Rattle.atspi_base.specs.Outside.{AppendsPart, Rose, appends_both, appends_part, part_of_more}
use Rattle.atspi_script.specs.FaultText.{fault_line}
use Rattle.atspi_message.specs.Envelope.{Envelope}
use Rattle.atspi_stream.specs.Stream.{AwaitsMore, IsParted}
use Rattle.atspi_live_host.specs.declared.call.Call.{Call}
use Rattle.atspi_live_host.specs.Calls.{taken}
use Rattle.atspi_live_conversation.specs.Left.{IsLeft, IsTaken, LeavesOff, LeftOff}
use Rattle.atspi_live_conversation.specs.Rounds.{IsRun}
use Rattle.atspi_live_conversation.specs.Speech.{envelopes}
use Rattle.atspi_live_conversation.specs.Talking.{Blames}
use Rattle.atspi_live_conversation.specs.declared.ending.Ending.{Ending}
use Rattle.atspi_live_conversation.specs.declared.ending.Ending.TheVariants as endings
use Rattle.atspi_live_conversation.specs.Reports.{IsOnLink, Reports, SinkBlamed, Writes}
use Rattle.atspi_live_reader.specs.Following.{AreWords, BlamesSink, EndsRun, IsOver, IsQuiet, IsSpentIn, IsUntold}
use Rattle.atspi_live_reader.specs.Following.{OverBlames, RunsOver, SpeaksUp, Stands, WritesPart}
use Rattle.atspi_live_reader.specs.inner.Following.{HasWords}
use Rattle.atspi_live_reader.specs.Handed.{Follows, IsFrontOf}
use Rattle.atspi_live_reader.specs.Runs.{AllSpeak, AreLast, Causes, EndsOn, IsAll, OfTaken, ReportsLast, RunEnds, WritesLast}
use Rattle.atspi_live_reader.specs.Shows.{last_words, shown_in}
use Rattle.atspi_live_reader.specs.Spoken.{IsAfter, IsAllSpoken, IsEmpty, IsSpent, IsSpoken, IsSpokenToFault, IsSpokenToSpent, following, spoken_in}
use Rattle.atspi_live_reader.proofs.Framing.{takes_put}
use Rattle.atspi_live_reader.proofs.Handing.{spoken_both}
use Rattle.atspi_live_reader.proofs.Turning.{front_spoken, true_not}
use Rattle.atspi_reader.specs.ReaderOf.{IsReader, reader_of}
use Rattle.atspi_protocol.specs.following.ReaderState as state
use Rattle.atspi_protocol.specs.following.Takes.{reader_takes, starts}
use Rattle.atspi_live_reader.specs.declared.live_reader.LiveReader.{LiveReader}
use Rattle.atspi_live_reader.specs.declared.over.Over.{Over}
use Rattle.atspi_live_reader.specs.declared.over.Over.TheVariants as overs

-- where no link is open
pub none_speak : (ks : List ℕ) (calls : Option (List Call)) → ks ≡ [] → AllSpeak ks calls
none_speak ks calls e = subst (λ (w : List ℕ). AllSpeak w calls) (sym e) tt

pub none_ends : (path ks : List ℕ) (status rounds : ℕ) (calls : Option (List Call)) (w : Option (List ℕ)) → ks ≡ [] → (status ≡ 7) ⊎ (status ≡ 5) → RunEnds path ks status rounds calls w w
none_ends path ks status rounds calls w e s = subst (λ (x : List ℕ). RunEnds path x status rounds calls w w) (sym e) (s, refl)

-- where one link is
pub one_speaks : (ks : List ℕ) (k rounds : ℕ) (over : Over) (calls : Option (List Call)) (w w' : Option (List ℕ)) → ks ≡ k ∷ [] → IsOver k over rounds [] calls w w' → AllSpeak ks calls
one_speaks ks k rounds over calls w w' e o = subst (λ (x : List ℕ). AllSpeak x calls) (sym e) (o.speaks, tt)

-- what a reader has still to write of all that it spoke
words_left : (written : List ℕ) (r : state.ReaderState) (starved : Bool) (lines : List ℕ) (took said : List Envelope) → Follows written r starved lines took said
    → (words : List ℕ) × ((starved ≡ true) ⊎ (words ≡ lines ++ spoken_in r.out)) × (written ++ words ≡ spoken_in (following took).out)
words_left written r starved lines took said f = by f.told
  where
    all : (front words : List ℕ) → written ++ front ≡ spoken_in f.done → words ≡ front ++ spoken_in r.out → written ++ words ≡ spoken_in (following took).out
    all front words e w =
        ap (λ (x : List ℕ). written ++ x) w ∙ sym (append_assoc written front (spoken_in r.out)) ∙ ap (λ (x : List ℕ). x ++ spoken_in r.out) e ∙ sym (spoken_both f.done r.out)
        ∙ ap (λ (s : state.ReaderState). spoken_in s.out) f.whole

    by : ((starved ≡ true) × IsFrontOf written (spoken_in f.done)) ⊎ (written ++ lines ≡ spoken_in f.done)
        → (words : List ℕ) × ((starved ≡ true) ⊎ (words ≡ lines ++ spoken_in r.out)) × (written ++ words ≡ spoken_in (following took).out)
    by (inl e) = (e.1.0 ++ spoken_in r.out, inl e.0, all e.1.0 (e.1.0 ++ spoken_in r.out) e.1.1 refl)
    by (inr e) = (lines ++ spoken_in r.out, inr refl, all lines (lines ++ spoken_in r.out) e refl)

-- and where the peer ended then of all that it holds
ended_words : (starved : Bool) (words lines spoken shown : List ℕ) → (starved ≡ true) ⊎ (words ≡ lines ++ spoken) → (starved ≡ true) ⊎ (words ++ shown ≡ lines ++ (spoken ++ shown))
ended_words starved words lines spoken shown (inl e) = inl e
ended_words starved words lines spoken shown (inr e) = inr (ap (λ (w : List ℕ). w ++ shown) e ∙ append_assoc lines spoken shown)

ended_all : (written words spoken shown shown' : List ℕ) → written ++ words ≡ spoken → shown ≡ shown' → written ++ (words ++ shown) ≡ spoken ++ shown'
ended_all written words spoken shown shown' e h = sym (append_assoc written words shown) ∙ ap (λ (w : List ℕ). w ++ shown) e ∙ ap (λ (w : List ℕ). spoken ++ w) h

-- a reader that is spent after what it did is spent after all that it did
spent_after : (written : List ℕ) (r : state.ReaderState) (starved : Bool) (lines : List ℕ) (took said : List Envelope) (e : Envelope) → Follows written r starved lines took said → IsSpent r e → IsSpent (following took) e
spent_after written r starved lines took said e f h =
    subst (λ (n : ℕ). 4294967296 < n) (sym (ap (λ (s : state.ReaderState). s.next) (takes_put f.done r e)) ∙ ap (λ (s : state.ReaderState). (reader_takes s e).next) f.whole) h

of_taken : (k : ℕ) (calls : Option (List Call)) (t : List ℕ) (P : List ℕ → Type 0) → IsTaken k calls t → P t → OfTaken k calls P
of_taken k None t P e p = tt
of_taken k (Some cs) t P e p = subst P (sym e) p

-- a run that may have left words left its reader behind whole messages
left_off : (written t : List ℕ) (ending : Ending) (l : LiveReader) → HasWords ending → LeavesOff (Stands written) IsSpentIn ending t l → LeftOff (Stands written) IsSpentIn ending t l
left_off written t endings.PeerEnded l has o = o
left_off written t endings.RoundsDone l has o = o
left_off written t endings.HostFailed l has o = o
left_off written t (endings.Malformed start fault) l has o = o
left_off written t endings.Spent l has o = o
left_off written t endings.NotAuthenticated l has o = absurd has
left_off written t endings.NoMemory l has o = absurd has

-- its last words: with what was written before they are all
abbrev Last : ℕ → Option (List Call) → List ℕ → LiveReader → Ending → Type 0
Last k calls written l ending = (words : List ℕ) × AreWords l ending words × AreLast k calls written words ending

words_of : (written t : List ℕ) (ending : Ending) (l : LiveReader) (o : LeftOff (Stands written) IsSpentIn ending t l)
    → (words : List ℕ) × ((l.starved ≡ true) ⊎ (words ≡ l.lines ++ spoken_in (reader_of l.reader).out)) × (written ++ words ≡ spoken_in (following (envelopes o.messages)).out)
words_of written t ending l o = words_left written (reader_of l.reader) l.starved l.lines (envelopes o.messages) o.said o.stands

all_spoken : (written t : List ℕ) (ending : Ending) (l : LiveReader) (o : LeftOff (Stands written) IsSpentIn ending t l) (words : List ℕ) → AwaitsMore o.rest → written ++ words ≡ spoken_in (following (envelopes o.messages)).out
    → IsAllSpoken t (written ++ words)
all_spoken written t ending l o words awaits e = record { messages = o.messages; rest = o.rest; parted = o.parted; awaits = awaits; all = e }

last_of : (k : ℕ) (ending : Ending) (calls : Option (List Call)) (l : LiveReader) (written : List ℕ) → HasWords ending → IsLeft (Stands written) IsSpentIn k ending calls l → Last k calls written l ending
last_of k endings.PeerEnded calls l written has left =
    let o : LeftOff (Stands written) IsSpentIn endings.PeerEnded left.0 l = left.2 in
    let w = words_of written left.0 endings.PeerEnded l o in
    let shown : List ℕ = shown_in (reader_of l.reader) in
    let same : shown ≡ shown_in (following (envelopes o.messages)) = ap (λ (s : state.ReaderState). shown_in s) o.stands.whole in (
      w.0 ++ shown,
      ended_words l.starved w.0 l.lines (spoken_in (reader_of l.reader).out) shown w.1,
      of_taken k calls left.0 (λ t. IsAll t (written ++ (w.0 ++ shown))) left.1
          (record {
            messages = o.messages;
            rest = o.rest;
            parted = o.parted;
            awaits = o.stops;
            all = ended_all written w.0 (spoken_in (following (envelopes o.messages)).out) shown (shown_in (following (envelopes o.messages))) w.2 same;
          }),
    )
last_of k endings.RoundsDone calls l written has left =
    let w = words_of written left.0 endings.RoundsDone l left.2 in
    (w.0, w.1, of_taken k calls left.0 (λ t. IsAllSpoken t (written ++ w.0)) left.1 (all_spoken written left.0 endings.RoundsDone l left.2 w.0 left.2.stops w.2))
last_of k endings.HostFailed calls l written has left =
    let w = words_of written left.0 endings.HostFailed l left.2 in
    (w.0, w.1, of_taken k calls left.0 (λ t. IsAllSpoken t (written ++ w.0)) left.1 (all_spoken written left.0 endings.HostFailed l left.2 w.0 left.2.stops w.2))
last_of k (endings.Malformed start fault) calls l written has left =
    let o : LeftOff (Stands written) IsSpentIn (endings.Malformed start fault) left.0 l = left.2 in
    let w = words_of written left.0 (endings.Malformed start fault) l o in (
      w.0,
      w.1,
      of_taken k calls left.0 (λ t. IsSpokenToFault start fault.place fault.reason t (written ++ w.0)) left.1
          (record { messages = o.messages; rest = o.rest; parted = o.parted; fault = o.stops.0; before = o.stops.1; all = w.2 }),
    )
last_of k endings.Spent calls l written has left =
    let o : LeftOff (Stands written) IsSpentIn endings.Spent left.0 l = left.2 in
    let w = words_of written left.0 endings.Spent l o in
    let h = o.stops in (
      w.0,
      w.1,
      of_taken k calls left.0 (λ t. IsSpokenToSpent t (written ++ w.0)) left.1
          (record {
            messages = o.messages;
            message = h.message;
            bytes = h.bytes;
            rest = h.more;
            parted = subst (λ (x : List ℕ). IsParted (behind client_start left.0) o.messages x) h.front o.parted;
            is = h.is;
            spent = spent_after written (reader_of h.end.reader) h.end.starved h.end.lines (envelopes o.messages) o.said h.message h.stands h.spent;
            all = w.2;
          }),
    )
last_of k endings.NotAuthenticated calls l written has left = absurd has
last_of k endings.NoMemory calls l written has left = absurd has

-- what was written of it before
off_speaks : (k : ℕ) (ending : Ending) (calls : Option (List Call)) (t : List ℕ) (l : LiveReader) (written : List ℕ) → IsTaken k calls t → LeftOff (Stands written) IsSpentIn ending t l → SpeaksUp k calls written
off_speaks k ending None t l written e o = tt
off_speaks k ending (Some cs) t l written e o =
    subst (λ (x : List ℕ). IsSpoken x written) (sym e) (front_spoken t o.messages o.rest written (reader_of l.reader) l.starved l.lines o.said o.parted o.stands)

left_speaks : (k : ℕ) (ending : Ending) (calls : Option (List Call)) (l : LiveReader) (written : List ℕ) → HasWords ending → IsLeft (Stands written) IsSpentIn k ending calls l → SpeaksUp k calls written
left_speaks k ending calls l written has left = off_speaks k ending calls left.0 l written left.1 (left_off written left.0 ending l has left.2)

-- a reader that took no message has spoken nothing
front_none : (xs ys : List ℕ) → xs ++ ys ≡ [] → xs ≡ []
front_none [] ys e = refl
front_none (x ∷ xs) ys e = absurd cc

none_spoken : (written t : List ℕ) (l : LiveReader) → LeftOff (Stands written) IsSpentIn endings.NotAuthenticated t l → written ≡ []
none_spoken written t l o =
    let w = words_of written t endings.NotAuthenticated l o in
    front_none written w.0 (w.2 ∙ ap (λ (ms : List (Envelope × List ℕ)). spoken_in (following (envelopes ms)).out) o.stops.0)

-- how a run ended, with what is written then
abbrev Tells : LiveReader → Ending → ℕ → Option (List ℕ) → Option (List ℕ) → Type 0
Tells l ending status w w' = (words : List ℕ) → AreWords l ending words → ReportsLast words ending status w w'

with_words : (path : List ℕ) (k status rounds : ℕ) (ending : Ending) (calls : Option (List Call)) (l : LiveReader) (w mid w' : Option (List ℕ)) → HasWords ending → EndsRun k (overs.Ended ending) calls w mid l
    → IsOver k (overs.Ended ending) rounds [] calls w mid → IsOnLink path k calls (IsRun (λ _. IsAfter) IsEmpty k 4096 ending rounds) → Tells l ending status mid w' → EndsOn path k status rounds calls w w'
with_words path k status rounds ending calls l w mid w' has left o run r =
    let last : Last k calls left.0 l ending = last_of k ending calls l left.0 has left.2 in
    record {
      spoken = left.0;
      speaks_up = left_speaks k ending calls l left.0 has left.2;
      mid = mid;
      wrote = left.1;
      so = inl (record { ending = ending; ends = o.so; run = run; words = last.0; last = last.2; reports = r last.0 last.1 });
    }

ended_by : (path : List ℕ) (k status rounds : ℕ) (ending : Ending) (calls : Option (List Call)) (l : LiveReader) (w mid w' : Option (List ℕ)) → EndsRun k (overs.Ended ending) calls w mid l
    → IsOver k (overs.Ended ending) rounds [] calls w mid → IsOnLink path k calls (IsRun (λ _. IsAfter) IsEmpty k 4096 ending rounds) → Tells l ending status mid w' → EndsOn path k status rounds calls w w'
ended_by path k status rounds endings.PeerEnded calls l w mid w' left o run r = with_words path k status rounds endings.PeerEnded calls l w mid w' tt left o run r
ended_by path k status rounds endings.RoundsDone calls l w mid w' left o run r = with_words path k status rounds endings.RoundsDone calls l w mid w' tt left o run r
ended_by path k status rounds endings.HostFailed calls l w mid w' left o run r = with_words path k status rounds endings.HostFailed calls l w mid w' tt left o run r
ended_by path k status rounds (endings.Malformed start fault) calls l w mid w' left o run r = with_words path k status rounds (endings.Malformed start fault) calls l w mid w' tt left o run r
ended_by path k status rounds endings.Spent calls l w mid w' left o run r = with_words path k status rounds endings.Spent calls l w mid w' tt left o run r
ended_by path k status rounds endings.NotAuthenticated calls l w mid w' left o run r = record {
  spoken = left.0;
  speaks_up = off_speaks k endings.NotAuthenticated calls left.2.0 l left.0 left.2.1 left.2.2;
  mid = mid;
  wrote = left.1;
  so = inl (record {
    ending = endings.NotAuthenticated;
    ends = o.so;
    run = run;
    words = [];
    last = none_spoken left.0 left.2.0 l left.2.2;
    reports = r (l.lines ++ spoken_in (reader_of l.reader).out) (inr refl);
  });
}
ended_by path k status rounds endings.NoMemory calls l w mid w' left o run r = record {
  spoken = o.line;
  speaks_up = o.speaks_up;
  mid = mid;
  wrote = o.wrote;
  so = inl (record { ending = endings.NoMemory; ends = o.so; run = run; words = []; last = tt; reports = r (l.lines ++ spoken_in (reader_of l.reader).out) (inr refl) });
}

pub ended : (path ks : List ℕ) (k status rounds : ℕ) (ending : Ending) (calls : Option (List Call)) (l : LiveReader) (w mid w' : Option (List ℕ)) → ks ≡ k ∷ [] → EndsRun k (overs.Ended ending) calls w mid l
    → IsOver k (overs.Ended ending) rounds [] calls w mid → IsOnLink path k calls (IsRun (λ _. IsAfter) IsEmpty k 4096 ending rounds) → Tells l ending status mid w' → RunEnds path ks status rounds calls w w'
ended path ks k status rounds ending calls l w mid w' e left o run r =
    subst (λ (x : List ℕ). RunEnds path x status rounds calls w w') (sym e) (ended_by path k status rounds ending calls l w mid w' left o run r, refl)

pub not_written : (path ks : List ℕ) (k rounds : ℕ) (calls : Option (List Call)) (w w' : Option (List ℕ)) → ks ≡ k ∷ [] → IsOver k overs.NotWritten rounds [] calls w w' → IsOnLink path k calls (RunsOver k overs.NotWritten rounds)
    → RunEnds path ks 4 rounds calls w w'
not_written path ks k rounds calls w w' e o run =
    subst (λ (x : List ℕ). RunEnds path x 4 rounds calls w w') (sym e)
    (record { spoken = o.line; speaks_up = o.speaks_up; mid = w'; wrote = o.wrote; so = inr (record { status_is = refl; none = refl; run = run }) }, refl)

-- a reader that may have words left is one
pub may_tell : (k : ℕ) (ending : Ending) (calls : Option (List Call)) (w w' : Option (List ℕ)) (l : LiveReader) → EndsRun k (overs.Ended ending) calls w w' l → HasWords ending → IsReader l.reader
may_tell k ending calls w w' l left has =
    let o : LeftOff (Stands left.0) IsSpentIn ending left.2.0 l = left_off left.0 left.2.0 ending l has left.2.2 in
    o.stands.is

-- which runs may have left words
pub may_have : (ending : Ending) → (ending ≡ endings.NotAuthenticated → ⊥) → (ending ≡ endings.NoMemory → ⊥) → HasWords ending
may_have endings.PeerEnded n m = tt
may_have endings.RoundsDone n m = tt
may_have endings.HostFailed n m = tt
may_have endings.NotAuthenticated n m = absurd (n refl)
may_have (endings.Malformed start fault) n m = tt
may_have endings.Spent n m = tt
may_have endings.NoMemory n m = absurd (m refl)

pub no_words : (ending : Ending) → (ending ≡ endings.NotAuthenticated) ⊎ (ending ≡ endings.NoMemory) → HasWords ending → ⊥
no_words ending (inl e) h = subst (λ (x : Ending). HasWords x) e h
no_words ending (inr e) h = subst (λ (x : Ending). HasWords x) e h

-- what is written behind the words
pub told : (words : List ℕ) (ending : Ending) (status : ℕ) (w mid w' : Option (List ℕ)) → HasWords ending → Appends w mid words → Reports ending status mid w' → ReportsLast words ending status w w'
told words endings.PeerEnded status w mid w' has a r = inl (r.0, subst (λ (x : Option (List ℕ)). Appends w x words) (sym r.1) a)
told words endings.RoundsDone status w mid w' has a r = inl (r.0, subst (λ (x : Option (List ℕ)). Appends w x words) (sym r.1) a)
told words endings.HostFailed status w mid w' has a r = inl (r.0, subst (λ (x : Option (List ℕ)). Appends w x words) (sym r.1) a)
told words endings.Spent status w mid w' has a r = inl (r.0, subst (λ (x : Option (List ℕ)). Appends w x words) (sym r.1) a)
told words (endings.Malformed start fault) status w mid w' has a r = by r
  where
    line : List ℕ
    line = fault_line start fault.place fault.reason

    by : Writes line status mid w' → WritesLast 6 (words ++ line) status w w'
    by (inl x) = inl (x.0, appends_both w mid w' words line a x.1)
    by (inr x) = inr (x.0, appends_part w mid w' words line a x.1)
told words endings.NotAuthenticated status w mid w' has a r = absurd has
told words endings.NoMemory status w mid w' has a r = absurd has

-- words that were not all written
pub untold : (words : List ℕ) (ending : Ending) (status : ℕ) (w w' : Option (List ℕ)) → HasWords ending → WritesPart status words w w' → ReportsLast words ending status w w'
untold words endings.PeerEnded status w w' has p = inr p
untold words endings.RoundsDone status w w' has p = inr p
untold words endings.HostFailed status w w' has p = inr p
untold words endings.Spent status w w' has p = inr p
untold words (endings.Malformed start fault) status w w' has p = inr (p.0, part_of_more w w' words (fault_line start fault.place fault.reason) p.1)
untold words endings.NotAuthenticated status w w' has p = absurd has
untold words endings.NoMemory status w w' has p = absurd has

-- what is reported where no words are left
pub reported : (words : List ℕ) (ending : Ending) (status : ℕ) (w w' : Option (List ℕ)) → (HasWords ending → ⊥) → Reports ending status w w' → ReportsLast words ending status w w'
reported words endings.PeerEnded status w w' n r = absurd (n tt)
reported words endings.RoundsDone status w w' n r = absurd (n tt)
reported words endings.HostFailed status w w' n r = absurd (n tt)
reported words endings.NotAuthenticated status w w' n r = r
reported words (endings.Malformed start fault) status w w' n r = absurd (n tt)
reported words endings.Spent status w w' n r = absurd (n tt)
reported words endings.NoMemory status w w' n r = r

-- words that are known, where memory was wanting for none
pub known_words : (l : LiveReader) (ending : Ending) (words : List ℕ) → l.starved ≡ false → AreWords l ending words → words ≡ l.lines ++ last_words ending (reader_of l.reader)
known_words l ending words fed (inl e) = absurd (true_not l.starved e fed)
known_words l ending words fed (inr e) = e

-- of them all was written, or a front
pub all_words : (l : LiveReader) (ending : Ending) (lines : List ℕ) (w w' : Option (List ℕ)) → l.starved ≡ false → lines ≡ l.lines ++ last_words ending (reader_of l.reader) → Appends w w' lines
    → (words : List ℕ) → AreWords l ending words → Appends w w' words
all_words l ending lines w w' fed is a words k = subst (λ (x : List ℕ). Appends w w' x) (is ∙ sym (known_words l ending words fed k)) a

pub part_words : (l : LiveReader) (ending : Ending) (lines : List ℕ) (w w' : Option (List ℕ)) → l.starved ≡ false → lines ≡ l.lines ++ last_words ending (reader_of l.reader) → AppendsPart w w' lines
    → (words : List ℕ) → AreWords l ending words → WritesPart 4 words w w'
part_words l ending lines w w' fed is a words k = (inl refl, subst (λ (x : List ℕ). AppendsPart w w' x) (is ∙ sym (known_words l ending words fed k)) a)

pub none_of_words : (w : Option (List ℕ)) (words : List ℕ) → WritesPart 5 words w w
none_of_words w words = (inr refl, ([], words, refl, Appends-nil w))

-- the counts
not_seven : (meant : ℕ) (words : List ℕ) (status : ℕ) (w w' : Option (List ℕ)) → (meant ≡ 7 → ⊥) → WritesLast meant words status w w' → status ≡ 7 → ⊥
not_seven meant words status w w' n (inl x) e = n (sym x.0 ∙ e)
not_seven meant words status w w' n (inr x) e = elim x.0 [ inl y ↦ omega (arith, y, e) | inr y ↦ omega (arith, y, e) ]

-- with status 10 nothing was written
not_ten : (meant : ℕ) (words : List ℕ) (status : ℕ) (w w' : Option (List ℕ)) → (meant ≡ 10 → ⊥) → WritesLast meant words status w w' → status ≡ 10 → ⊥
not_ten meant words status w w' n (inl x) e = n (sym x.0 ∙ e)
not_ten meant words status w w' n (inr x) e = elim x.0 [ inl y ↦ omega (arith, y, e) | inr y ↦ omega (arith, y, e) ]

silent_so : (k status : ℕ) (spoken words : List ℕ) (ending : Ending) (calls : Option (List Call)) (mid w' : Option (List ℕ)) → AreLast k calls spoken words ending → ReportsLast words ending status mid w' → status ≡ 10 → (spoken ≡ []) × (w' ≡ mid)
silent_so k status spoken words endings.PeerEnded calls mid w' l r e = absurd (not_ten 0 words status mid w' (λ n. omega (arith, n)) r e)
silent_so k status spoken words endings.RoundsDone calls mid w' l r e = absurd (not_ten 8 words status mid w' (λ n. omega (arith, n)) r e)
silent_so k status spoken words endings.HostFailed calls mid w' l r e = absurd (not_ten 7 words status mid w' (λ n. omega (arith, n)) r e)
silent_so k status spoken words endings.NotAuthenticated calls mid w' l r e = (l, r.1)
silent_so k status spoken words (endings.Malformed start fault) calls mid w' l r e = absurd (not_ten 6 (words ++ fault_line start fault.place fault.reason) status mid w' (λ n. omega (arith, n)) r e)
silent_so k status spoken words endings.Spent calls mid w' l r e = absurd (not_ten 13 words status mid w' (λ n. omega (arith, n)) r e)
silent_so k status spoken words endings.NoMemory calls mid w' l r e = absurd (omega (arith, r.0, e))

silent_on : (path : List ℕ) (k status rounds : ℕ) (calls : Option (List Call)) (w w' : Option (List ℕ)) → EndsOn path k status rounds calls w w' → status ≡ 10 → Appends w w' []
silent_on path k status rounds calls w w' o e = elim o.so [
  | inl s ↦
      let h = silent_so k status o.spoken s.words s.ending calls o.mid w' s.last s.reports e in
      subst (λ (x : Option (List ℕ)). Appends w x []) (sym h.1) (subst (λ (x : List ℕ). Appends w o.mid x) h.0 o.wrote)
  | inr s ↦ absurd (omega (arith, s.status_is, e))
]

pub silent : (path ks : List ℕ) (status rounds : ℕ) (calls : Option (List Call)) (w w' : Option (List ℕ)) → RunEnds path ks status rounds calls w w' → status ≡ 10 → Appends w w' []
silent path [] status rounds calls w w' r e = elim r.0 [ inl y ↦ absurd (omega (arith, y, e)) | inr y ↦ absurd (omega (arith, y, e)) ]
silent path (k ∷ ks) status rounds calls w w' r e = silent_on path k status rounds calls w w' r.0 e

quiet_causes : (status faults faults' links links' sink sink' : ℕ) → faults' ≡ faults → links' ≡ links → (status ≡ 7 → ⊥) → SinkBlamed status sink sink' → Causes status faults faults' links links' sink sink'
quiet_causes status faults faults' links links' sink sink' f b n s = record { by_host = λ e. absurd (n e); no_host = inr f; no_link = inr (inr b); by_sink = s.0; no_sink = s.1 }

failed_causes : (words : List ℕ) (status faults faults' links links' sink sink' : ℕ) (w w' : Option (List ℕ)) → faults' ≡ faults → Rose links links' → WritesLast 7 words status w w' → SinkBlamed status sink sink'
    → Causes status faults faults' links links' sink sink'
failed_causes words status faults faults' links links' sink sink' w w' f b r s = record {
  by_host = λ e. inr b;
  no_host = inr f;
  no_link = by r;
  by_sink = s.0;
  no_sink = s.1;
}
  where
    by : WritesLast 7 words status w w' → (status ≡ 7) ⊎ ((IsUntold status × Rose links links') ⊎ (links' ≡ links))
    by (inl x) = inl x.0
    by (inr x) = inr (inl (x.0, b))

pub last_causes : (words : List ℕ) (ending : Ending) (status faults faults' links links' sink sink' : ℕ) (w w' : Option (List ℕ)) → faults' ≡ faults → Blames ending links links' → ReportsLast words ending status w w' → SinkBlamed status sink sink'
    → Causes status faults faults' links links' sink sink'
last_causes words endings.PeerEnded status faults faults' links links' sink sink' w w' f b r s = quiet_causes status faults faults' links links' sink sink' f b (not_seven 0 words status w w' (λ n. omega (arith, n)) r) s
last_causes words endings.RoundsDone status faults faults' links links' sink sink' w w' f b r s = quiet_causes status faults faults' links links' sink sink' f b (not_seven 8 words status w w' (λ n. omega (arith, n)) r) s
last_causes words endings.HostFailed status faults faults' links links' sink sink' w w' f b r s = failed_causes words status faults faults' links links' sink sink' w w' f b.1 r s
last_causes words endings.NotAuthenticated status faults faults' links links' sink sink' w w' f b r s = quiet_causes status faults faults' links links' sink sink' f b (λ e. omega (arith, r.0, e)) s
last_causes words (endings.Malformed start fault) status faults faults' links links' sink sink' w w' f b r s =
    quiet_causes status faults faults' links links' sink sink' f b (not_seven 6 (words ++ fault_line start fault.place fault.reason) status w w' (λ n. omega (arith, n)) r) s
last_causes words endings.Spent status faults faults' links links' sink sink' w w' f b r s = quiet_causes status faults faults' links links' sink sink' f b (not_seven 13 words status w w' (λ n. omega (arith, n)) r) s
last_causes words endings.NoMemory status faults faults' links links' sink sink' w w' f b r s = quiet_causes status faults faults' links links' sink sink' f b (λ e. omega (arith, r.0, e)) s

pub mute_causes : (faults faults' links links' sink sink' : ℕ) → faults' ≡ faults → OverBlames overs.NotWritten links links' → BlamesSink overs.NotWritten sink sink' → Causes 4 faults faults' links links' sink sink'
mute_causes faults faults' links links' sink sink' f b s = record {
  by_host = λ e. absurd (omega (arith, e));
  no_host = inr f;
  no_link = inr (inr b);
  by_sink = λ e. s.1;
  no_sink = inl refl;
}

pub subst_causes : (status faults faults' links links' before mid sink' : ℕ) → mid ≡ before → Causes status faults faults' links links' mid sink' → Causes status faults faults' links links' before sink'
subst_causes status faults faults' links links' before mid sink' e c = subst (λ (n : ℕ). Causes status faults faults' links links' n sink') e c

-- a reader that has just started
pub begins : (l : LiveReader) → IsReader l.reader → reader_of l.reader ≡ starts state.begins → l.lines ≡ [] → Stands [] l [] []
begins l is s n = record { is = is; done = []; whole = s; sent = refl; told = inr n }

pub quiet : (l : LiveReader) → l.starved ≡ false → l.lines ≡ [] → IsQuiet l
quiet l f n = record { fed = f; none = n }
