-- What an end says that sends no messages.
use Rattle.std.proofs.Common.{◌≡◌, ℕ, List, [], ◌∷◌, ◌++◌, refl, sym, ap, subst, ◌∙◌, inl, inr, append-nil, lit<, lit≤}
use Rattle.std.specs.Prelude.{codes}
use Rattle.atspi_auth.specs.Lines.{end_of_line, lines_of, joined}
use Rattle.atspi_auth.specs.Replies.{answer, reply_to}
use Rattle.atspi_auth.specs.Requests.{is_grant, is_number}
use Rattle.atspi_auth.specs.Talk.{behind, client_start, heard, hears, hears_bytes}
use Rattle.atspi_live_host.specs.declared.call.Did.TheVariants.{Done, NotYet}
use Rattle.atspi_live_host.specs.Calls.{taken}
use Rattle.atspi_live_host.specs.declared.call.Did.{Did}
use Rattle.atspi_live_host.specs.declared.call.Call.{Call}
use Rattle.atspi_live_host.specs.declared.call.Call.TheVariants.{Read, Write}
use Rattle.atspi_stream.specs.Stream.{few}
use Rattle.atspi_live_conversation.specs.Rounds.{IsRead, IsRound, WritesIfDue}
use Rattle.atspi_live_conversation.specs.Speech.{IsAllGiven, IsSpeech, line_bytes, lines_for}
use Rattle.atspi_live_examples.specs.conversation.Silent.{IsDone, Says, hail}

-- where nothing stands behind the lines
pub said : (t g more : List ℕ) → behind client_start t ≡ [] → g ++ more ≡ line_bytes (lines_for t) → IsSpeech Says t g
said t g more none front = record {
  messages = [];
  rest = [];
  parted = record { are = tt; parted = none };
  end = 0;
  said = [];
  stands = (refl, refl);
  sent = [];
  spelled = refl;
  over = inl refl;
  more = more;
  front = front ∙ sym (append-nil (line_bytes (lines_for t)));
}

pub all : (t g : List ℕ) → behind client_start t ≡ [] → g ≡ line_bytes (lines_for t) → IsAllGiven Says IsDone t g
all t g none front = record {
  speech = record {
    messages = [];
    rest = [];
    parted = record { are = tt; parted = none };
    end = 0;
    said = [];
    stands = (refl, refl);
    sent = [];
    spelled = refl;
    over = inl refl;
    more = [];
    front = append-nil g ∙ front ∙ sym (append-nil (line_bytes (lines_for t)));
  };
  awaits = few (lit< tt);
  none_left = λ over. refl;
  no_more = refl;
}

-- before the first byte, and behind a challenge
pub none_first : behind client_start [] ≡ []
unfolding heard hears hears_bytes lines_of joined answer reply_to is_grant is_number
none_first = refl

pub lines_first : line_bytes (lines_for []) ≡ hail
unfolding heard hears hears_bytes lines_of joined answer reply_to is_grant is_number
lines_first = refl

pub none_second : behind client_start (codes "DATA" ++ end_of_line) ≡ []
unfolding heard hears hears_bytes lines_of joined answer reply_to is_grant is_number
none_second = refl

pub lines_second : line_bytes (lines_for (codes "DATA" ++ end_of_line)) ≡ hail ++ (codes "DATA" ++ end_of_line)
unfolding heard hears hears_bytes lines_of joined answer reply_to is_grant is_number
lines_second = refl

-- two whole rounds
pub first_round : IsRound Says IsDone 0 4096 [] [] (Read 0 [] NotYet ∷ Write 0 hail (Done 16) ∷ [])
first_round = (
  Read 0 [] NotYet ∷ [],
  Write 0 hail (Done 16) ∷ [],
  ([], NotYet, tt, lit≤ tt, refl),
  inr (Done 16, tt, (hail, lit< tt, lit≤ tt, said [] hail [] none_first (append-nil hail ∙ sym lines_first), refl)),
  refl,
)

pub second_round : IsRound Says IsDone 0 4096 [] hail (Read 0 [] NotYet ∷ [])
second_round = (Read 0 [] NotYet ∷ [], [], ([], NotYet, tt, lit≤ tt, refl), inl (refl, all [] hail none_first (sym lines_first)), refl)

-- where a line is due, a round that writes nothing is none
one_only : (c d : Call) (read write : List Call) → read ≡ d ∷ [] → c ∷ [] ≡ read ++ write → write ≡ []
one_only c d read write e f = by write (f ∙ ap (λ (w : List Call). w ++ write) e)
  where
    by : (w : List Call) → c ∷ [] ≡ d ∷ w → w ≡ []
    by [] h = refl
    by (x ∷ xs) h = absurd cc

two_only : (c b d : Call) (read write : List Call) → read ≡ d ∷ [] → c ∷ b ∷ [] ≡ read ++ write → write ≡ b ∷ []
two_only c b d read write e f = by write (f ∙ ap (λ (w : List Call). w ++ write) e)
  where
    by : (w : List Call) → c ∷ b ∷ [] ≡ d ∷ w → w ≡ b ∷ []
    by w h = cc

-- before the first byte something is due
first_due : IsAllGiven Says IsDone [] [] → ⊥
first_due a = by (sym a.no_more ∙ a.speech.front ∙ ap (λ (w : List ℕ). w ++ a.speech.sent) lines_first)
  where
    by : [] ≡ hail ++ a.speech.sent → ⊥
    by h = cc

not_data : (more sent : List ℕ) → (codes "DATA" ++ end_of_line) ++ more ≡ hail ++ sent → ⊥
not_data more sent h = cc

-- the bytes of a write
bytes_are : (bytes xs : List ℕ) (did did' : Did) → Write 0 xs did ∷ [] ≡ Write 0 bytes did' ∷ [] → bytes ≡ xs
bytes_are bytes xs did did' h = cc

taken_none : (read : List Call) → read ≡ Read 0 [] NotYet ∷ [] → [] ++ taken 0 read ≡ []
taken_none read e = ap (λ (w : List Call). taken 0 w) e

-- a read that took nothing, and what is due behind it
due_behind : (k most : ℕ) (c : Call) (read : List Call) → IsRead k most read → (write : List Call) → c ∷ [] ≡ read ++ write → (read ≡ c ∷ []) × (write ≡ [])
due_behind k most c read r write e = (by read r.4 write e, one_only c (Read k r.0 r.1) read write r.4 e)
  where
    first : (d : Call) (ys : List Call) → c ∷ [] ≡ d ∷ ys → d ∷ [] ≡ c ∷ []
    first d ys h = cc

    by : (xs : List Call) → xs ≡ Read k r.0 r.1 ∷ [] → (ys : List Call) → c ∷ [] ≡ xs ++ ys → xs ≡ c ∷ []
    by xs f ys h = subst (λ (w : List Call). w ≡ c ∷ []) (sym f) (first (Read k r.0 r.1) ys (h ∙ ap (λ (w : List Call). w ++ ys) f))

pub not_first : IsRound Says IsDone 0 4096 [] [] (Read 0 [] NotYet ∷ []) → ⊥
not_first r =
    let d = due_behind 0 4096 (Read 0 [] NotYet) r.0 r.2 r.1 r.4 in
    by r.1 d.1 (subst (λ (t : List ℕ). WritesIfDue Says IsDone 0 t [] r.1) (taken_none r.0 d.0) r.3)
  where
    none_written : {x : Call} → [] ≡ x ∷ [] → ⊥
    none_written h = cc

    by : (write : List Call) → write ≡ [] → WritesIfDue Says IsDone 0 [] [] write → ⊥
    by write e (inl w) = first_due w.1
    by write e (inr w) = none_written (sym e ∙ w.2.4)

read_first : (k most : ℕ) (c b : Call) (read write : List Call) → IsRead k most read → c ∷ b ∷ [] ≡ read ++ write → (read ≡ c ∷ []) × (write ≡ b ∷ [])
read_first k most c b read write r e = (subst (λ (w : List Call). w ≡ c ∷ []) (sym r.4) (first (Read k r.0 r.1) write (e ∙ ap (λ (w : List Call). w ++ write) r.4)), two_only c b (Read k r.0 r.1) read write r.4 e)
  where
    first : (d : Call) (ys : List Call) → c ∷ b ∷ [] ≡ d ∷ ys → d ∷ [] ≡ c ∷ []
    first d ys h = cc

pub other_not_first : IsRound Says IsDone 0 4096 [] [] (Read 0 [] NotYet ∷ Write 0 (codes "DATA" ++ end_of_line) (Done 6) ∷ []) → ⊥
other_not_first r =
    let d = read_first 0 4096 (Read 0 [] NotYet) (Write 0 (codes "DATA" ++ end_of_line) (Done 6)) r.0 r.1 r.2 r.4 in
    by r.1 d.1 (subst (λ (t : List ℕ). WritesIfDue Says IsDone 0 t [] r.1) (taken_none r.0 d.0) r.3)
  where
    some_written : {x : Call} → x ∷ [] ≡ [] → ⊥
    some_written h = cc

    not_next : (bytes : List ℕ) → bytes ≡ codes "DATA" ++ end_of_line → IsSpeech Says [] bytes → ⊥
    not_next bytes e s = not_data s.more s.sent (ap (λ (w : List ℕ). w ++ s.more) (sym e) ∙ s.front ∙ ap (λ (w : List ℕ). w ++ s.sent) lines_first)

    by : (write : List Call) → write ≡ Write 0 (codes "DATA" ++ end_of_line) (Done 6) ∷ [] → WritesIfDue Says IsDone 0 [] [] write → ⊥
    by write e (inl w) = some_written (sym e ∙ w.0)
    by write e (inr w) = not_next w.2.0 (bytes_are w.2.0 (codes "DATA" ++ end_of_line) (Done 6) w.0 (sym e ∙ w.2.4)) w.2.3
