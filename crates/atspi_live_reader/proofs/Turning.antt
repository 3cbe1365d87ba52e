-- A reader's turn: what was said, taken and written.
use Rattle.std.proofs.Common.{◌≡◌, ℕ, ◌+◌, Bool, true, false, List, [], ◌++◌, length, Option, None, Some, refl, sym, ap, subst, ◌∙◌, inl, inr, append_assoc, append-nil}
use Rattle.std.specs.Prelude.{◌⊎◌, ◌≤◌, ◌<◌, Result, Ok, Err, IfErr, MatchResult}
use Rattle.std.specs.Io.KnownBytes.{Appends}
use Rattle.std.proofs.KnownBytes.{Appends-nil}
use Rattle.atspi_auth.specs.Talk.{behind, client_start}
use Rattle.atspi_message.specs.Envelope.{Envelope}
use Rattle.atspi_stream.specs.Stream.{IsParted}
use Rattle.atspi_reader.specs.ReaderOf.{reader_of}
use Rattle.atspi_protocol.specs.following.ReaderState.{ReaderState}
use Rattle.atspi_live_host.specs.declared.call.Call.{Call}
use Rattle.atspi_live_host.specs.declared.call.Did.{Did}
use Rattle.atspi_live_host.specs.Calls.{taken}
use Rattle.atspi_live_conversation.specs.Left.{IsLeft}
use Rattle.atspi_live_conversation.specs.Moved.{Grows}
use Rattle.atspi_live_conversation.specs.Speech.{Ends, Speaks, envelopes}
use Rattle.atspi_live_conversation.specs.Talking.{Blames, Going, HasNone, IsEnded, MaySpeak}
use Rattle.atspi_live_conversation.specs.declared.conversation.Conversation.{Conversation}
use Rattle.atspi_live_conversation.specs.declared.ending.Ending.{Ending}
use Rattle.atspi_live_conversation.specs.declared.ending.Ending.TheVariants as endings
use Rattle.atspi_live_conversation.proofs.LeftLemmas.{done_left, memory_left}
use Rattle.atspi_live_conversation.proofs.StepLemmas.{all_done, no_memory}
use Rattle.atspi_live_conversation.proofs.TalkLemmas.{parted_later}
use Rattle.atspi_reader.specs.Steps.{IsState}
use Rattle.atspi_live_reader.specs.Spoken.{IsAfter, IsEmpty, IsSpent, IsSpoken, following, spoken_in}
use Rattle.atspi_live_reader.specs.Handed.{Follows, IsFrontOf}
use Rattle.atspi_live_conversation.specs.Rounds.{AreRounds, Breaks, IsRound, Makes}
use Rattle.atspi_live_conversation.specs.Moved.{Tells}
use Rattle.atspi_live_conversation.proofs.RoundLemmas.{makes_if, none_wait, rounds_more, run_broken}
use Rattle.atspi_live_conversation.proofs.SeenLemmas.{breaks_seen, ends_seen, round_seen, speaks_seen}
use Rattle.atspi_live_reader.specs.Following.{BreaksOver, EndsRun, EndsTurn, GoesOn, IsMuted, IsOver, IsQuiet, IsSpentIn, OverBlames, RunsOver, SpeaksOn, SpeaksUp, Stands}
use Rattle.atspi_live_reader.specs.declared.live_reader.LiveReader.{LiveReader}
use Rattle.atspi_live_reader.specs.declared.over.Over.{Over}
use Rattle.atspi_live_reader.specs.declared.over.Over.TheVariants as overs

-- what a live reader did, of the reader alone
after : (written : List ℕ) (l : LiveReader) (took said : List Envelope) → Stands written l took said → IsAfter (reader_of l.reader) took said
after written l took said f = record { done = f.done; whole = f.whole; sent = f.sent; numbered = f.is.within }

-- it is empty where it has nothing queued
abbrev pub queued' : LiveReader → ℕ
queued' l = length (reader_of l.reader).out

empty_in : (l : LiveReader) → HasNone queued' l → IsEmpty (reader_of l.reader)
empty_in l e = none_wait (reader_of l.reader).out (queued' l) refl e

pub true_not : (b : Bool) → b ≡ true → b ≡ false → ⊥
true_not b e f = absurd cc

-- the reader alone
abbrev reader_in : LiveReader → ReaderState
reader_in l = reader_of l.reader

speaks : (written : List ℕ) (k : ℕ) (calls : Option (List Call)) → Speaks (Stands written) k calls → Speaks IsAfter k calls
speaks written k calls s = speaks_seen (Stands written) IsAfter reader_in k calls (after written) s

ends_on : (written : List ℕ) (k rounds : ℕ) (ending : Ending) (calls : Option (List Call)) → Ends (Stands written) IsSpentIn k ending rounds calls → Ends IsAfter IsSpent k ending rounds calls
ends_on written k rounds ending calls e = ends_seen (Stands written) IsAfter IsSpentIn IsSpent reader_in k rounds ending calls (after written) (λ end m s. s) e

-- the calls of a round, by what the reader alone says
pub round_of : (written : List ℕ) (k most : ℕ) (t g : List ℕ) (old new : Option (List Call)) → Makes old new (IsRound (Stands written) (HasNone queued') k most t g) → Makes old new (IsRound IsAfter IsEmpty k most t g)
round_of written k most t g old new m =
    makes_if old new (IsRound (Stands written) (HasNone queued') k most t g) (IsRound IsAfter IsEmpty k most t g)
    (λ calls. round_seen (Stands written) IsAfter (HasNone queued') IsEmpty reader_in k most t g calls (after written) empty_in) m

pub breaks_of : (written : List ℕ) (k most : ℕ) (ending : Ending) (t g : List ℕ) (old new : Option (List Call)) → Makes old new (Breaks (Stands written) (HasNone queued') k most ending t g) → Makes old new (Breaks IsAfter IsEmpty k most ending t g)
breaks_of written k most ending t g old new m =
    makes_if old new (Breaks (Stands written) (HasNone queued') k most ending t g) (Breaks IsAfter IsEmpty k most ending t g)
    (λ calls. breaks_seen (Stands written) IsAfter (HasNone queued') IsEmpty reader_in k most ending t g calls (after written) empty_in) m

-- bytes that were written are a front of what was spoken
spoken : (t : List ℕ) (messages : List (Envelope × List ℕ)) (rest : List ℕ) (written part left : List ℕ) (r : ReaderState) (starved : Bool) (lines : List ℕ) (said : List Envelope)
    → IsParted (behind client_start t) messages rest → starved ≡ false → part ++ left ≡ lines → Follows written r starved lines (envelopes messages) said → IsSpoken t (written ++ part)
spoken t messages rest written part left r starved lines said parted fed split f = record {
  messages = messages;
  rest = rest;
  parted = parted;
  done = f.done;
  more = r.out;
  all = ap (λ (s : ReaderState). s.out) f.whole;
  left = left;
  front = append_assoc written part left ∙ ap (λ (w : List ℕ). written ++ w) split ∙ by f.told;
}
  where
    by : ((starved ≡ true) × IsFrontOf written (spoken_in f.done)) ⊎ (written ++ lines ≡ spoken_in f.done) → written ++ lines ≡ spoken_in f.done
    by (inl e) = absurd (true_not starved e.0 fed)
    by (inr e) = e

-- also where memory was wanting for a line
pub front_spoken : (t : List ℕ) (messages : List (Envelope × List ℕ)) (rest written : List ℕ) (r : ReaderState) (starved : Bool) (lines : List ℕ) (said : List Envelope)
    → IsParted (behind client_start t) messages rest → Follows written r starved lines (envelopes messages) said → IsSpoken t written
front_spoken t messages rest written r starved lines said parted f =
    let front : IsFrontOf written (spoken_in f.done) = by f.told in
    record { messages = messages; rest = rest; parted = parted; done = f.done; more = r.out; all = ap (λ (s : ReaderState). s.out) f.whole; left = front.0; front = front.1 }
  where
    by : ((starved ≡ true) × IsFrontOf written (spoken_in f.done)) ⊎ (written ++ lines ≡ spoken_in f.done) → IsFrontOf written (spoken_in f.done)
    by (inl e) = e.1
    by (inr e) = (lines, e)

pub going_speaks : (written : List ℕ) (k n : ℕ) (calls : Option (List Call)) (c : Conversation) (l : LiveReader) (part left : List ℕ) → l.starved ≡ false → part ++ left ≡ l.lines
    → Going (Stands written) k calls n c l → SpeaksUp k calls (written ++ part)
going_speaks written k n None c l part left fed split w = tt
going_speaks written k n (Some cs) c l part left fed split w =
    let v = w.at_ease.converses in
    subst (λ (t : List ℕ). IsSpoken t (written ++ part)) (sym w.tells.0)
    (spoken w.t v.messages c.feeder written part left (reader_of l.reader) l.starved l.lines v.said v.parted fed split v.end_stands)

-- and of what is spoken for more bytes
spoken_later : (t more w : List ℕ) → IsSpoken t w → IsSpoken (t ++ more) w
spoken_later t more w s =
    let p = parted_later t more s.rest s.messages s.parted in
    record { messages = s.messages; rest = p.0; parted = p.1; done = s.done; more = s.more; all = s.all; left = s.left; front = s.front }

pub speaks_later : (k : ℕ) (old new : Option (List Call)) (w : List ℕ) → Grows k old new → SpeaksUp k old w → SpeaksUp k new w
speaks_later k old None w g s = tt
speaks_later k None (Some ds) w g s = absurd g
speaks_later k (Some cs) (Some ds) w g s = subst (λ (t : List ℕ). IsSpoken t w) g.1 (spoken_later (taken k cs) g.0 w s)

-- the lines were written: the reader goes on
wrote_on : (written : List ℕ) (old new : LiveReader) (w w' : Option (List ℕ)) (took said : List Envelope) → SpeaksOn old new w w' → Stands written old took said → Stands (written ++ old.lines) new took said
wrote_on written old new w w' took said s f = record {
  is = subst (λ (r : ReaderState). IsState r) (ap reader_of (sym s.same)) f.is;
  done = f.done;
  whole = subst (λ (r : ReaderState). record r { out = f.done ++ r.out } ≡ following took) (ap reader_of (sym s.same)) f.whole;
  sent = f.sent;
  told = by f.told;
}
  where
    by : ((old.starved ≡ true) × IsFrontOf written (spoken_in f.done)) ⊎ (written ++ old.lines ≡ spoken_in f.done)
        → ((new.starved ≡ true) × IsFrontOf (written ++ old.lines) (spoken_in f.done)) ⊎ ((written ++ old.lines) ++ new.lines ≡ spoken_in f.done)
    by (inl e) = absurd (true_not old.starved e.0 s.fed)
    by (inr e) = inr (ap (λ (x : List ℕ). (written ++ old.lines) ++ x) s.quiet.none ∙ append-nil (written ++ old.lines) ∙ e)

going_wrote : (written : List ℕ) (k n : ℕ) (calls : Option (List Call)) (c : Conversation) (old new : LiveReader) (w w' : Option (List ℕ)) → SpeaksOn old new w w' → Going (Stands written) k calls n c old
    → Going (Stands (written ++ old.lines)) k calls n c new
going_wrote written k n calls c old new w w' s g =
    let v = g.at_ease.converses in
    record {
      t = g.t;
      g = g.g;
      dids = g.dids;
      tells = g.tells;
      go_on = g.go_on;
      counted = g.counted;
      at_ease = record {
        converses = record {
          lines = v.lines;
          messages = v.messages;
          said = v.said;
          sent = v.sent;
          client_stands = v.client_stands;
          parted = v.parted;
          heard = v.heard;
          end_stands = wrote_on written old new w w' (envelopes v.messages) v.said s v.end_stands;
          spelled = v.spelled;
          all = v.all;
          order = v.order;
        };
        authenticated = g.at_ease.authenticated;
        awaits = g.at_ease.awaits;
      };
    }

-- a turn that was done
pub turned : (k : ℕ) (calls calls' : Option (List Call)) (c c' : Conversation) (old mid new : LiveReader) (w w' : Option (List ℕ))
    → ((written : List ℕ) (n : ℕ) → Going (Stands written) k calls n c old → Going (Stands written) k calls' (n + 1) c' mid) → SpeaksOn mid new w w' → GoesOn k calls calls' c c' old new w w'
turned k calls calls' c c' old mid new w w' f s = record {
  line = mid.lines;
  wrote = s.wrote;
  goes = λ written n g. going_wrote written k (n + 1) calls' c' mid new w w' s (f written n g);
}

-- a turn that ended the run
pub turn_ended : (k n rounds : ℕ) (ending : Ending) (calls calls' : Option (List Call)) (c : Conversation) (old : LiveReader) (written : List ℕ) (w : Option (List ℕ))
    → IsQuiet old → Grows k calls calls' → Going (Stands written) k calls n c old → IsEnded (Stands written) IsSpentIn k ending rounds calls' → IsOver k (overs.Ended ending) rounds written calls' w w
turn_ended k n rounds ending calls calls' c old written w quiet grows g e = record {
  line = [];
  wrote = Appends-nil w;
  speaks = speaks written k calls' e.0;
  speaks_up = speaks_later k calls calls' (written ++ []) grows (going_speaks written k n calls c old [] [] quiet.fed (sym quiet.none) g);
  so = ends_on written k rounds ending calls' e.1;
}

-- a turn whose lines were not written
pub turn_muted : (k n rounds : ℕ) (over : Over) (calls calls' : Option (List Call)) (c c' : Conversation) (old mid : LiveReader) (written : List ℕ) (w w' : Option (List ℕ))
    → IsQuiet old → Grows k calls calls' → Going (Stands written) k calls n c old → Going (Stands written) k calls' (n + 1) c' mid → IsMuted over mid w w' → IsOver k over rounds written calls' w w'
turn_muted k n rounds (overs.Ended ending) calls calls' c c' old mid written w w' quiet grows g g' m =
    let e : IsEnded (Stands written) IsSpentIn k endings.NoMemory rounds calls' = no_memory (Stands written) IsSpentIn k (n + 1) rounds calls' c' mid g' in
    subst (λ (x : Option (List ℕ)). IsOver k (overs.Ended ending) rounds written calls' w x) (sym m.1)
    (turn_ended k n rounds ending calls calls' c old written w quiet grows g (subst (λ (x : Ending). IsEnded (Stands written) IsSpentIn k x rounds calls') (sym m.0) e))
turn_muted k n rounds overs.NotWritten calls calls' c c' old mid written w w' quiet grows g g' m =
    let e : IsEnded (Stands written) IsSpentIn k endings.NoMemory rounds calls' = no_memory (Stands written) IsSpentIn k (n + 1) rounds calls' c' mid g' in
    let p = m.1 in
    record {
      line = p.0;
      wrote = p.3;
      speaks = speaks written k calls' e.0;
      speaks_up = going_speaks written k (n + 1) calls' c' mid p.0 p.1 m.0 p.2 g';
      so = tt;
    }

-- behind the last round
pub all_turned : (k n rounds : ℕ) (calls : Option (List Call)) (c : Conversation) (l : LiveReader) (written : List ℕ) (w w' : Option (List ℕ))
    → n ≡ rounds → IsQuiet l → Appends w w' written → Going (Stands written) k calls n c l → IsOver k (overs.Ended endings.RoundsDone) rounds [] calls w w'
all_turned k n rounds calls c l written w w' e quiet a g =
    let d : IsEnded (Stands written) IsSpentIn k endings.RoundsDone rounds calls = all_done (Stands written) IsSpentIn k n rounds calls c l e g in
    record {
      line = written;
      wrote = a;
      speaks = speaks written k calls d.0;
      speaks_up = subst (λ (x : List ℕ). SpeaksUp k calls x) (append-nil written) (going_speaks written k n calls c l [] [] quiet.fed (sym quiet.none) g);
      so = ends_on written k rounds endings.RoundsDone calls d.1;
    }

-- a run that was over in a turn, with what was written before
pub over_later : (k rounds : ℕ) (over : Over) (calls : Option (List Call)) (written : List ℕ) (w mid w' : Option (List ℕ)) → ((a b c : Option (List ℕ)) (xs ys : List ℕ) → Appends a b xs → Appends b c ys → Appends a c (xs ++ ys))
    → Appends w mid written → IsOver k over rounds written calls mid w' → IsOver k over rounds [] calls w w'
over_later k rounds over calls written w mid w' both a o = record {
  line = written ++ o.line;
  wrote = both w mid w' written o.line a o.wrote;
  speaks = o.speaks;
  speaks_up = o.speaks_up;
  so = o.so;
}

-- a result, of which more follows
pub match_result : {T X : Type 0} (r : Result T X) (P Q : T → Type 0) (R S : X → Type 0) → ((x : T) → P x → Q x) → ((x : X) → R x → S x) → MatchResult r P R → MatchResult r Q S
match_result (Ok x) P Q R S f h m = f x m
match_result (Err x) P Q R S f h m = h x m

pub may_wrote : (old new : LiveReader) (w w' : Option (List ℕ)) → MaySpeak Stands old → SpeaksOn old new w w' → MaySpeak Stands new
may_wrote old new w w' m s = record { aside = m.aside ++ old.lines; took = m.took; said = m.said; stands = wrote_on m.aside old new w w' m.took m.said s m.stands; meet = m.meet }

pub mute_blames : (over : Over) (l : LiveReader) (w w' : Option (List ℕ)) (before after : ℕ) → after ≡ before → IsMuted over l w w' → OverBlames over before after
mute_blames (overs.Ended ending) l w w' before after e m = subst (λ (x : Ending). Blames x before after) (sym m.0) e
mute_blames overs.NotWritten l w w' before after e m = e

pub if_match : {T X : Type 0} (r : Result T X) (P : T → Type 0) (R S : X → Type 0) → ((x : T) → P x) → ((x : X) → R x → S x) → IfErr r R → MatchResult r P S
if_match (Ok x) P R S f h m = f x
if_match (Err x) P R S f h m = h x m

-- the calls of a turn whose lines were not written, of which the round is whole
mute_breaks : (k most : ℕ) (over : Over) (l : LiveReader) (w w' : Option (List ℕ)) (t g : List ℕ) (calls : List Call) → IsMuted over l w w' → IsRound IsAfter IsEmpty k most t g calls → BreaksOver k most over t g calls
mute_breaks k most (overs.Ended ending) l w w' t g calls m r = subst (λ (x : Ending). Breaks IsAfter IsEmpty k most x t g calls) (sym m.0) (inr r)
mute_breaks k most overs.NotWritten l w w' t g calls m r = r

pub mute_made : (k most : ℕ) (over : Over) (l : LiveReader) (w w' : Option (List ℕ)) (t g : List ℕ) (old new : Option (List Call)) → Makes old new (IsRound IsAfter IsEmpty k most t g) → IsMuted over l w w' → Makes old new (BreaksOver k most over t g)
mute_made k most over l w w' t g old new r m = makes_if old new (IsRound IsAfter IsEmpty k most t g) (BreaksOver k most over t g) (λ calls. mute_breaks k most over l w w' t g calls m) r

-- how a reader stands behind a turn in which the run was over
pub turn_left : (k : ℕ) (ending : Ending) (written : List ℕ) (calls : Option (List Call)) (w : Option (List ℕ)) (l : LiveReader) → IsLeft (Stands written) IsSpentIn k ending calls l → EndsTurn k (overs.Ended ending) written calls w w l
turn_left k ending written calls w l left = (refl, left)

pub mute_left : (k n : ℕ) (over : Over) (written : List ℕ) (calls : Option (List Call)) (c : Conversation) (w w' : Option (List ℕ)) (mid new : LiveReader) → Going (Stands written) k calls n c mid → IsMuted over mid w w' → EndsTurn k over written calls w w' new
mute_left k n (overs.Ended ending) written calls c w w' mid new g m =
    (m.1, subst (λ (x : Ending). IsLeft (Stands written) IsSpentIn k x calls new) (sym m.0) (memory_left (Stands written) IsSpentIn k n calls c mid new g))
mute_left k n overs.NotWritten written calls c w w' mid new g m = tt

-- and behind the run
pub left_behind : (k : ℕ) (over : Over) (written : List ℕ) (calls : Option (List Call)) (w mid w' : Option (List ℕ)) (l : LiveReader) → Appends w mid written → EndsTurn k over written calls mid w' l → EndsRun k over calls w w' l
left_behind k (overs.Ended ending) written calls w mid w' l a e = (written, subst (λ (x : Option (List ℕ)). Appends w x written) (sym e.0) a, e.1)
left_behind k overs.NotWritten written calls w mid w' l a e = tt

pub left_at_last : (k n : ℕ) (calls : Option (List Call)) (c : Conversation) (l : LiveReader) (written : List ℕ) (w w' : Option (List ℕ)) → Appends w w' written → Going (Stands written) k calls n c l
    → EndsRun k (overs.Ended endings.RoundsDone) calls w w' l
left_at_last k n calls c l written w w' a g = (written, a, done_left (Stands written) IsSpentIn k n calls c l g)

-- the calls of a run that is over
pub over_made : (k n rounds : ℕ) (over : Over) (old mid new : Option (List Call)) (t g : List ℕ) (dids : List Did) → n < rounds → n + 1 ≤ rounds → Tells k old [] [] [] → Tells k mid t g dids
    → Makes old mid (AreRounds (λ _. IsAfter) IsEmpty k 4096 n) → Makes mid new (BreaksOver k 4096 over t g) → Makes old new (RunsOver k over rounds)
over_made k n rounds (overs.Ended ending) old mid new t g dids few least fresh told a b = run_broken (λ _. IsAfter) IsEmpty k 4096 n rounds ending old mid new t g dids few fresh told a b
over_made k n rounds overs.NotWritten old mid new t g dids few least fresh told a b =
    makes_if old new (AreRounds (λ _. IsAfter) IsEmpty k 4096 (n + 1)) (RunsOver k overs.NotWritten rounds) (λ calls r. (n + 1, least, r)) (rounds_more (λ _. IsAfter) IsEmpty k 4096 n old mid new t g dids fresh told a b)
