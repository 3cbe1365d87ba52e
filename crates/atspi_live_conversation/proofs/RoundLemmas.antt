-- The calls of rounds, one behind the other.
use Rattle.std.proofs.Common.{◌≡◌, ◌≤◌, ◌<◌, ℕ, suc, ◌+◌, List, [], ◌∷◌, ◌++◌, length, take, drop, Option, None, Some, refl, sym, ap, subst, ◌∙◌, inl, inr, append_assoc, append-nil, arith}
use Rattle.std.specs.Prelude.{Result, Ok, Err, IfErr, MatchResult}
use Rattle.std.proofs.lemmas.List.{length-take, take-append-drop}
use Rattle.atspi_auth.specs.Talk.{Stands, client_start}
use Rattle.atspi_auth.specs.declared.said.AuthLine.{AuthLine}
use Rattle.atspi_message.specs.Envelope.{Envelope}
use Rattle.atspi_live_host.specs.declared.call.Did.{Did}
use Rattle.atspi_live_host.specs.declared.call.Did.TheVariants.{Done, NotYet, End, Failed}
use Rattle.atspi_live_host.specs.declared.call.Call.{Call}
use Rattle.atspi_live_host.specs.declared.call.Call.TheVariants.{Read, Write}
use Rattle.atspi_live_host.specs.Calls.{Adds, taken, given}
use Rattle.atspi_live_conversation.specs.Moved.{GoesOn, Tells}
use Rattle.atspi_live_conversation.specs.Rounds.{AreRounds, Breaks, EndsBehind, IsRead, IsRound, IsRun, IsWrite, Makes, WritesIfDue}
use Rattle.atspi_live_conversation.specs.Speech.{IsAllGiven, IsSpeech, line_bytes, lines_for}
use Rattle.atspi_live_conversation.specs.Talking.{Converses, HasNone, IsAtEase, IsUttered}
use Rattle.atspi_live_conversation.specs.inner.Talking.{IsOwn, PutsFront, PutsIfAny}
use Rattle.atspi_live_conversation.specs.declared.conversation.Conversation.{Conversation}
use Rattle.atspi_live_conversation.specs.declared.ending.Ending.{Ending}
use Rattle.atspi_live_conversation.specs.declared.ending.Ending.TheVariants as endings
use Rattle.atspi_live_conversation.proofs.MovedLemmas.{given_append, taken_append}
use Rattle.atspi_live_conversation.proofs.TalkLemmas.{lines_after, stage_after}

-- what is told afterwards
pub makes_none : (calls : Option (List Call)) (P : List Call → Type 0) → P [] → Makes calls calls P
makes_none None P p = tt
makes_none (Some cs) P p = ([], p, sym (append-nil cs))

pub makes_one : (old new : Option (List Call)) (c : Call) (P : List Call → Type 0) → P (c ∷ []) → Adds old new c → Makes old new P
makes_one old None c P p a = tt
makes_one None (Some ds) c P p a = absurd a
makes_one (Some cs) (Some ds) c P p a = (c ∷ [], p, a)

pub makes_if : (old new : Option (List Call)) (P Q : List Call → Type 0) → ((calls : List Call) → P calls → Q calls) → Makes old new P → Makes old new Q
makes_if old None P Q f m = tt
makes_if None (Some ds) P Q f m = absurd m
makes_if (Some cs) (Some ds) P Q f m = (m.0, f m.0 m.1, m.2)

pub makes_both : (old mid new : Option (List Call)) (P Q R : List Call → Type 0) → ((xs ys : List Call) → P xs → Q ys → R (xs ++ ys)) → Makes old mid P → Makes mid new Q → Makes old new R
makes_both old mid None P Q R f m n = tt
makes_both old None (Some ds) P Q R f m n = absurd n
makes_both None (Some cs) (Some ds) P Q R f m n = absurd m
makes_both (Some bs) (Some cs) (Some ds) P Q R f m n =
    (m.0 ++ n.0, f m.0 n.0 m.1 n.1, n.2 ∙ ap (λ (w : List Call). w ++ n.0) m.2 ∙ append_assoc bs m.0 n.0)

-- the calls behind others, by what was taken and given till then
pub makes_next : (k : ℕ) (old mid new : Option (List Call)) (t g t' g' : List ℕ) (dids dids' : List Did) (P R : List Call → Type 0) (Q : List ℕ → List ℕ → List Call → Type 0)
    → ((xs ys : List Call) → P xs → Q (t ++ taken k xs) (g ++ given k xs) ys → R (xs ++ ys)) → Tells k old t g dids → Tells k mid t' g' dids' → Makes old mid P → Makes mid new (Q t' g') → Makes old new R
makes_next k old mid None t g t' g' dids dids' P R Q f a b m n = tt
makes_next k old None (Some ds) t g t' g' dids dids' P R Q f a b m n = absurd n
makes_next k None (Some cs) (Some ds) t g t' g' dids dids' P R Q f a b m n = absurd m
makes_next k (Some bs) (Some cs) (Some ds) t g t' g' dids dids' P R Q f a b m n =
    let is_taken : t' ≡ t ++ taken k m.0 = sym b.0 ∙ ap (λ (w : List Call). taken k w) m.2 ∙ taken_append k bs m.0 ∙ ap (λ (w : List ℕ). w ++ taken k m.0) a.0 in
    let is_given : g' ≡ g ++ given k m.0 = sym b.1 ∙ ap (λ (w : List Call). given k w) m.2 ∙ given_append k bs m.0 ∙ ap (λ (w : List ℕ). w ++ given k m.0) a.1 in (
      m.0 ++ n.0,
      f m.0 n.0 m.1 (subst (λ (w : List ℕ). Q w (g ++ given k m.0) n.0) is_taken (subst (λ (w : List ℕ). Q t' w n.0) is_given n.1)),
      n.2 ∙ ap (λ (w : List Call). w ++ n.0) m.2 ∙ append_assoc bs m.0 n.0,
    )

-- a read
pub read_made : (k most : ℕ) (old new : Option (List Call)) (bytes : List ℕ) (did : Did) → GoesOn did → length bytes ≤ most → Adds old new (Read k bytes did) → Makes old new (IsRead k most)
read_made k most old new bytes did g short a = makes_one old new (Read k bytes did) (IsRead k most) (bytes, did, g, short, refl) a

-- a read by which the run ends
own_breaks : {E : Type 0} (Stands : E → List Envelope → List Envelope → Type 0) (IsEmpty : E → Type 0) (k most : ℕ) (ending : Ending) (t g : List ℕ) (calls : List Call) → IsOwn ending → IsRead k most calls → Breaks Stands IsEmpty k most ending t g calls
own_breaks Stands IsEmpty k most endings.NotAuthenticated t g calls o r = r
own_breaks Stands IsEmpty k most endings.NoMemory t g calls o r = inl r
own_breaks Stands IsEmpty k most endings.RoundsDone t g calls o r = absurd o
own_breaks Stands IsEmpty k most endings.PeerEnded t g calls o r = absurd o
own_breaks Stands IsEmpty k most endings.HostFailed t g calls o r = absurd o
own_breaks Stands IsEmpty k most (endings.Malformed start fault) t g calls o r = r
own_breaks Stands IsEmpty k most endings.Spent t g calls o r = r

pub heed_made : {T E : Type 0} (Stands : List ℕ → E → List Envelope → List Envelope → Type 0) (IsEmpty : E → Type 0) (r : Result T Ending) (k most : ℕ) (old new : Option (List Call)) → IfErr r IsOwn → Makes old new (IsRead k most)
    → MatchResult r (λ _. Makes old new (IsRead k most)) (λ ending. (aside t g : List ℕ) → Makes old new (Breaks (Stands aside) IsEmpty k most ending t g))
heed_made Stands IsEmpty (Ok x) k most old new o m = m
heed_made Stands IsEmpty (Err ending) k most old new o m = λ aside t g. makes_if old new (IsRead k most) (Breaks (Stands aside) IsEmpty k most ending t g) (λ calls. own_breaks (Stands aside) IsEmpty k most ending t g calls o) m

-- the bytes of a read
pub front_short : (n most : ℕ) (bytes : List ℕ) → n ≤ most → length (take n bytes) ≤ most
front_short n most bytes h = omega (arith, h, length-take n bytes)

-- a read gives nothing
none_given : (k most : ℕ) (calls : List Call) (g : List ℕ) → IsRead k most calls → g ++ given k calls ≡ g
none_given k most calls g r = ap (λ (w : List Call). g ++ given k w) r.4 ∙ append-nil g

-- the first bytes that wait, in one call
pub put_made : (k n : ℕ) (u : List ℕ) (old new : Option (List Call)) (bytes : List ℕ) (did : Did) → bytes ≡ take 4096 u → n ≡ length u → 0 < n → Adds old new (Write k bytes did) → Makes old new (PutsFront k u did)
put_made k n u old new bytes did e l some a = makes_one old new (Write k bytes did) (PutsFront k u did) (omega (arith, some, l), ap (λ (w : List ℕ). Write k w did ∷ []) e) a

pub puts_any : (k : ℕ) (u : List ℕ) (old new : Option (List Call)) (did : Did) → GoesOn did → Makes old new (PutsFront k u did) → Makes old new (PutsIfAny k u)
puts_any k u old new did g m = makes_if old new (PutsFront k u did) (PutsIfAny k u) (λ calls w. inr (did, g, w)) m

pub none_wait : {T : Type 0} (u : List T) (n : ℕ) → n ≡ length u → n ≡ 0 → u ≡ []
none_wait [] n l e = refl
none_wait (x ∷ xs) n l e = absurd (omega (arith, l, e))

-- the lines of a client that has none left to hand out
all_lines : (t : List ℕ) (lines : List AuthLine) (c : Conversation) → Stands client_start t lines c.client → c.client.unsent ≡ [] → lines ≡ lines_for t
all_lines t lines c s none = sym (append-nil lines) ∙ ap (λ (w : List AuthLine). lines ++ w) (sym none) ∙ lines_after t lines c.client s

-- the next bytes that wait are those that are said next
next_said : {E : Type 0} (Stands' : E → List Envelope → List Envelope → Type 0) (t g part rest : List ℕ) (c : Conversation) (end : E) → Converses Stands' t g c end → c.client.unsent ≡ [] → part ++ rest ≡ c.unsent → IsSpeech Stands' t (g ++ part)
next_said Stands' t g part rest c end v none split = record {
  messages = v.messages;
  rest = c.feeder;
  parted = v.parted;
  end = end;
  said = v.said;
  stands = v.end_stands;
  sent = v.sent;
  spelled = v.spelled;
  over = elim v.order [ inl e ↦ inl e | inr e ↦ inr (sym (stage_after t v.lines c.client v.client_stands) ∙ e.0) ];
  more = rest;
  front = append_assoc g part rest ∙ ap (λ (w : List ℕ). g ++ w) split ∙ v.all ∙ ap (λ (w : List AuthLine). line_bytes w ++ v.sent) (all_lines t v.lines c v.client_stands none);
}

-- where none waits all is given
all_given : {E : Type 0} (Stands' : E → List Envelope → List Envelope → Type 0) (queued : E → ℕ) (t g : List ℕ) (c : Conversation) (end : E) → IsAtEase Stands' t g c end → IsUttered queued c end → c.unsent ≡ [] → IsAllGiven Stands' (HasNone queued) t g
all_given Stands' queued t g c end a u none =
    let v = a.converses in
    record {
      speech = record {
        messages = v.messages;
        rest = c.feeder;
        parted = v.parted;
        end = end;
        said = v.said;
        stands = v.end_stands;
        sent = v.sent;
        spelled = v.spelled;
        over = elim v.order [ inl e ↦ inl e | inr e ↦ inr (sym (stage_after t v.lines c.client v.client_stands) ∙ e.0) ];
        more = c.unsent;
        front = v.all ∙ ap (λ (w : List AuthLine). line_bytes w ++ v.sent) (all_lines t v.lines c v.client_stands u.lines);
      };
      awaits = a.awaits;
      none_left = λ over. u.none_left none (stage_after t v.lines c.client v.client_stands ∙ over);
      no_more = none;
    }

is_write : {E : Type 0} (Stands' : E → List Envelope → List Envelope → Type 0) (k : ℕ) (t g : List ℕ) (c : Conversation) (end : E) (did : Did) (calls : List Call) → Converses Stands' t g c end → c.client.unsent ≡ [] → PutsFront k c.unsent did calls
    → IsWrite Stands' k t g did calls
is_write Stands' k t g c end did calls v none p = (
  take 4096 c.unsent,
  omega (arith, p.0, length-take 4096 c.unsent),
  omega (arith, length-take 4096 c.unsent),
  next_said Stands' t g (take 4096 c.unsent) (drop 4096 c.unsent) c end v none (take-append-drop 4096 c.unsent),
  p.1,
)

writes_if_due : {E : Type 0} (Stands' : E → List Envelope → List Envelope → Type 0) (queued : E → ℕ) (k : ℕ) (t g : List ℕ) (c : Conversation) (end : E) (calls : List Call) → IsAtEase Stands' t g c end → IsUttered queued c end → PutsIfAny k c.unsent calls
    → WritesIfDue Stands' (HasNone queued) k t g calls
writes_if_due Stands' queued k t g c end calls a u (inl p) = inl (p.0, all_given Stands' queued t g c end a u p.1)
writes_if_due Stands' queued k t g c end calls a u (inr p) = inr (p.0, p.1, is_write Stands' k t g c end p.0 calls a.converses u.lines p.2)

-- a whole round
pub round_made : {E : Type 0} (Stands' : E → List Envelope → List Envelope → Type 0) (queued : E → ℕ) (k most : ℕ) (old mid new : Option (List Call)) (t g t' g' : List ℕ) (dids dids' : List Did) (c : Conversation) (end : E)
    → Tells k old t g dids → Tells k mid t' g' dids' → IsAtEase Stands' t' g' c end → IsUttered queued c end → Makes old mid (IsRead k most) → Makes mid new (PutsIfAny k c.unsent) → Makes old new (IsRound Stands' (HasNone queued) k most t g)
round_made Stands' queued k most old mid new t g t' g' dids dids' c end told told' a u r w =
    makes_next k old mid new t g t' g' dids dids' (IsRead k most) (IsRound Stands' (HasNone queued) k most t g) (WritesIfDue Stands' (HasNone queued) k)
    (λ xs ys p q. (xs, ys, p, subst (λ (x : List ℕ). WritesIfDue Stands' (HasNone queued) k (t ++ taken k xs) x ys) (none_given k most xs g p) q, refl)) told told' r
    (makes_if mid new (PutsIfAny k c.unsent) (WritesIfDue Stands' (HasNone queued) k t' g') (λ calls. writes_if_due Stands' queued k t' g' c end calls a u) w)

-- one whose write failed
pub write_broke : {E : Type 0} (Stands' : E → List Envelope → List Envelope → Type 0) (queued : E → ℕ) (k most : ℕ) (old mid new : Option (List Call)) (t g t' g' : List ℕ) (dids dids' : List Did) (c : Conversation) (end : E)
    → Tells k old t g dids → Tells k mid t' g' dids' → IsAtEase Stands' t' g' c end → IsUttered queued c end → Makes old mid (IsRead k most) → Makes mid new (PutsFront k c.unsent Failed) → Makes old new (Breaks Stands' (HasNone queued) k most endings.HostFailed t g)
write_broke Stands' queued k most old mid new t g t' g' dids dids' c end told told' a u r w =
    makes_next k old mid new t g t' g' dids dids' (IsRead k most) (Breaks Stands' (HasNone queued) k most endings.HostFailed t g) (λ x y. IsWrite Stands' k x y Failed)
    (λ xs ys p q. inr (xs, ys, p, subst (λ (x : List ℕ). IsWrite Stands' k (t ++ taken k xs) x Failed ys) (none_given k most xs g p) q, refl)) told told' r
    (makes_if mid new (PutsFront k c.unsent Failed) (IsWrite Stands' k t' g' Failed) (λ calls. is_write Stands' k t' g' c end Failed calls a.converses u.lines) w)

-- one more whole round
pub rounds_more : {E : Type 0} (Stands' : ℕ → E → List Envelope → List Envelope → Type 0) (IsEmpty : E → Type 0) (k most n : ℕ) (old mid new : Option (List Call)) (t g : List ℕ) (dids : List Did)
    → Tells k old [] [] [] → Tells k mid t g dids → Makes old mid (AreRounds Stands' IsEmpty k most n) → Makes mid new (IsRound (Stands' (suc n)) IsEmpty k most t g) → Makes old new (AreRounds Stands' IsEmpty k most (n + 1))
rounds_more Stands' IsEmpty k most n old mid new t g dids fresh told a r =
    makes_next k old mid new [] [] t g [] dids (AreRounds Stands' IsEmpty k most n) (AreRounds Stands' IsEmpty k most (n + 1)) (IsRound (Stands' (suc n)) IsEmpty k most)
    (λ xs ys p q. subst (λ (m : ℕ). AreRounds Stands' IsEmpty k most m (xs ++ ys)) (one_more n) (xs, ys, p, q, refl)) fresh told a r
  where
    one_more : (m : ℕ) → suc m ≡ m + 1
    one_more m = omega arith

-- a run that was broken off
ends_behind : {E : Type 0} (Stands' : E → List Envelope → List Envelope → Type 0) (IsEmpty : E → Type 0) (k most n rounds : ℕ) (ending : Ending) (t g : List ℕ) (calls : List Call) → n < rounds → Breaks Stands' IsEmpty k most ending t g calls
    → EndsBehind Stands' IsEmpty k most ending n rounds t g calls
ends_behind Stands' IsEmpty k most n rounds endings.NotAuthenticated t g calls few b = (few, b)
ends_behind Stands' IsEmpty k most n rounds endings.NoMemory t g calls few b = (few, b)
ends_behind Stands' IsEmpty k most n rounds endings.RoundsDone t g calls few b = absurd b
ends_behind Stands' IsEmpty k most n rounds endings.PeerEnded t g calls few b = (few, b)
ends_behind Stands' IsEmpty k most n rounds endings.HostFailed t g calls few b = (few, b)
ends_behind Stands' IsEmpty k most n rounds (endings.Malformed start fault) t g calls few b = (few, b)
ends_behind Stands' IsEmpty k most n rounds endings.Spent t g calls few b = (few, b)

pub run_broken : {E : Type 0} (Stands' : ℕ → E → List Envelope → List Envelope → Type 0) (IsEmpty : E → Type 0) (k most n rounds : ℕ) (ending : Ending) (old mid new : Option (List Call)) (t g : List ℕ) (dids : List Did)
    → n < rounds → Tells k old [] [] [] → Tells k mid t g dids → Makes old mid (AreRounds Stands' IsEmpty k most n) → Makes mid new (Breaks (Stands' (suc n)) IsEmpty k most ending t g) → Makes old new (IsRun Stands' IsEmpty k most ending rounds)
run_broken Stands' IsEmpty k most n rounds ending old mid new t g dids few fresh told a b =
    makes_next k old mid new [] [] t g [] dids (AreRounds Stands' IsEmpty k most n) (IsRun Stands' IsEmpty k most ending rounds) (Breaks (Stands' (suc n)) IsEmpty k most ending)
    (λ xs ys p q. record { whole = n; done = xs; last = ys; are = p; ends = ends_behind (Stands' (suc n)) IsEmpty k most n rounds ending (taken k xs) (given k xs) ys few q; all = refl }) fresh told a b

-- one whose rounds were all done
pub run_done : {E : Type 0} (Stands' : ℕ → E → List Envelope → List Envelope → Type 0) (IsEmpty : E → Type 0) (k most n rounds : ℕ) (old new : Option (List Call)) → n ≡ rounds → Makes old new (AreRounds Stands' IsEmpty k most n)
    → Makes old new (IsRun Stands' IsEmpty k most endings.RoundsDone rounds)
run_done Stands' IsEmpty k most n rounds old new e a =
    makes_if old new (AreRounds Stands' IsEmpty k most n) (IsRun Stands' IsEmpty k most endings.RoundsDone rounds)
    (λ calls p. record { whole = n; done = calls; last = []; are = p; ends = (e, refl); all = sym (append-nil calls) }) a
