-- WHAT A MESSAGE LOADS: only the application whose items were asked for, where the reader takes it as the return.
use Rattle.std.proofs.Common.{◌≡◌, inl, inr, ℕ, Bool, true, false, List, [], ◌∷◌, ◌++◌, map, Option, None, Some, refl, sym, ap, ◌∙◌, subst}
use Rattle.std.specs.Prelude.{◌==◌, ◌&&◌, if◌then◌else◌}
use Rattle.std.specs.List.{AllByRecursion}
use Rattle.std.proofs.lemmas.List.{append-nil}
use Rattle.atspi_script_lines.specs.declared.line.Line.{Line}
use Rattle.atspi_script_lines.specs.declared.line.Party.{Party}
use Rattle.atspi_script_lines.specs.declared.line.Party.TheVariants.{Bus as The_bus, Registry, App, Reader}
use Rattle.atspi_message.specs.Envelope.{Envelope}
use Rattle.atspi_match.specs.routing.Routing.{is_reply}
use Rattle.atspi_protocol.specs.news.NewsOf.{or_empty}
use Rattle.atspi_protocol.specs.declared.following.question.Question.{Question}
use Rattle.atspi_protocol.specs.declared.following.question.Question.TheVariants.{Hello, AddMatch, RegisterEvent, GetChildren, GetItems, GetPart}
use Rattle.atspi_protocol.specs.following.ReaderState.{Pending, ReaderState}
use Rattle.atspi_protocol.specs.following.Replied.{is_reply_to, may_answer}
use Rattle.atspi_trace.specs.Entry.{Entry, got, spoke}
use Rattle.atspi_trace.specs.World.{waits, Asked, a_reader, Hearer, Letter, End, World}
use Rattle.atspi_trace.specs.Ends.{same_party, number_of, with_end, taken_down}
use Rattle.atspi_trace.specs.Hearing.{answered_by, fate_of, question_returned, holding_of, lines_if_held, last_lines, app_ended, ended_entries, heard_entries}
use Rattle.atspi_trace.specs.Causes.{Done, gets, without_bytes, missing, on_end, taken, took, does}
use Rattle.atspi_trace_laws.specs.laws.Words.{name_in, message, own_call, answer_to, answers_question}
use Rattle.atspi_trace_laws.specs.missed.Laws.{IsLoad}
use Rattle.atspi_trace_caches.specs.settled.Laws.{IsAsked, NoLoad}
use Rattle.atspi_trace_laws.proofs.OfOrder.Parties.{no_none, same_some, false_true}
use Rattle.atspi_trace_laws.proofs.OfHeld.Holdings.{call_at, question_by, returned_is}
use Rattle.atspi_trace_laws.proofs.OfNames.Places.{name_told, told_is}
use Rattle.atspi_trace_laws.proofs.OfSigned.Mail.{NameIs}
use Rattle.atspi_trace_laws.proofs.OfSigned.Self.{app_name}
use Rattle.atspi_trace_laws.proofs.OfTaken.Said.{IsLetter}
use Rattle.atspi_trace_played.proofs.Facts.{Ground, RepliesWell, IsReturnedWell, Waits}
use Rattle.atspi_trace_played.proofs.Pieces.{IsTaking, entries_behind}
use Rattle.atspi_trace_played.proofs.SeeingGround.{Sender, of_bus, of_end, sender}
use Rattle.atspi_trace_played.proofs.SeeingReplies as replying
use Rattle.atspi_trace_played.proofs.SeeingReplies.{Reply, reply}
use Rattle.atspi_trace_played.proofs.SeeingTaken.{answers_as}
use Rattle.atspi_trace_played.proofs.WantingGround.{known}
use Rattle.atspi_trace_played.proofs.WantingParts.{NoGot, no_got_splits}

-- WHAT WAS ASKED stays asked
pub asked_front : (q : Question) (xs ys : List Asked) → IsAsked q xs → IsAsked q (xs ++ ys)
asked_front q [] ys i = absurd i
asked_front q (x ∷ xs) ys (inl h) = inl h
asked_front q (x ∷ xs) ys (inr i) = inr (asked_front q xs ys i)

pub asked_last : (q : Question) (xs : List Asked) (x : Asked) → x.question ≡ q → IsAsked q (xs ++ x ∷ [])
asked_last q [] x h = inl h
asked_last q (y ∷ ys) x h = inr (asked_last q ys x h)

pub asked_still : (q : Question) (m : Envelope) (asked : List Asked) → IsAsked q asked → IsAsked q (map (answered_by m) asked)
asked_still q m [] i = i
asked_still q m (x ∷ xs) (inl h) = inl (by (is_reply m && is_reply_to x.serial m.reply))
  where
    by : (b : Bool) → (if b then record x { fate = fate_of m } else x).question ≡ q
    by true = h
    by false = h
asked_still q m (x ∷ xs) (inr i) = inr (asked_still q m xs i)

-- what waits was asked
pub waits_asked : (p : Pending) (o : Option Pending) (asked : List Asked) → o ≡ Some p → Waits o asked → IsAsked p.question asked
waits_asked p None asked is i = absurd (no_none p is)
waits_asked p (Some q) asked is i =
    subst (IsAsked p.question) (sym i.1) (asked_last p.question i.0 (record { serial = q.serial; question = q.question; fate = waits }) (ap (λ (x : Pending). x.question) (same_some q p is)))

-- WHAT IS WRITTEN where it takes a letter is no other message taken
no_got_spoken : (q r a : ℕ) (lines : List (List ℕ)) → AllByRecursion (NoGot q) (map (spoke r a) lines)
no_got_spoken q r a [] = tt
no_got_spoken q r a (line ∷ lines) = (tt, no_got_spoken q r a lines)

no_got_ended : (q r : ℕ) (h : Hearer) (o : Option ℕ) → AllByRecursion (NoGot q) (ended_entries r h o)
no_got_ended q r h None = tt
no_got_ended q r h (Some a) = (tt, no_got_spoken q r a (last_lines (holding_of a h.holds)))

no_got_heard : (q r : ℕ) (h : Hearer) (ends : List End) (letter : Letter) → AllByRecursion (NoGot q) (heard_entries r h ends letter)
no_got_heard q r h ends letter = by letter.from
  where
    by : (p : Party) → AllByRecursion (NoGot q) (heard_entries r h ends (record letter { from = p }))
    by (App a) = no_got_spoken q r a (lines_if_held (holding_of a h.holds) letter.said)
    by The_bus = no_got_ended q r h (app_ended ends (record letter { from = The_bus }))
    by Registry = no_got_ended q r h (app_ended ends (record letter { from = Registry }))
    by (Reader k) = no_got_ended q r h (app_ended ends (record letter { from = Reader k }))

module _ (w : World) (conn r : ℕ) (e : End) (h : Hearer) (letter : Letter) (rest : List Letter) (x : IsTaking w conn r e h letter rest) where
  pub wrote : (ends : List End) × (entries_behind w conn ≡ got (Reader r) letter.from letter.said.message.serial ∷ heard_entries r h ends letter)
  wrote = (with_end conn taken_down w.ends, ap (λ (d : Done). d.entries) done_is ∙ ap (λ p. got p letter.from letter.said.message.serial ∷ heard_entries (number_of p) h (with_end conn taken_down w.ends) letter) x.whose)
    where
      done_is : does w (gets conn) ≡ took (record w { bus = without_bytes conn (missing letter.said.message e.down_moved) w.bus; ends = with_end conn taken_down w.ends }) conn letter e.who (a_reader h)
      done_is =
          ap (λ o. on_end w o (λ e. taken w conn e e.down)) x.is_here.there ∙ ap (taken w conn e) x.link
          ∙ ap (took (record w { bus = without_bytes conn (missing letter.said.message e.down_moved) w.bus; ends = with_end conn taken_down w.ends }) conn letter e.who) x.role

-- WHAT IT LOADS
module _ (script : List Line) (es : List Entry) (w : World) (g : Ground script es w None) (conn r : ℕ) (e : End) (h : Hearer) (letter : Letter) (rest : List Letter) (x : IsTaking w conn r e h letter rest)
    (s : ReaderState) (replies : RepliesWell w letter.said.message h.asked) (waiting : Waits s.pending h.asked) where
  abbrev m : Envelope
  m = letter.said.message

  three_two : m.kind ≡ 3 → m.kind ≡ 2 → ⊥
  three_two a b = false_true (ap (λ k. k == 2) (sym a ∙ b))

  -- a return that loads is that of the application of this name
  loads_that : (n : List ℕ) (a : ℕ) (name : List ℕ) → question_returned m h.asked ≡ Some (GetItems n) → letter.from ≡ App a → name_in es (App a) ≡ Some name → n ≡ name
  loads_that n a name is from named = by (reply w m h s replies waiting)
    where
      sent_as : (q : Question) → q ≡ GetItems n → may_answer q m ≡ true → IsReturnedWell w m q → m.kind ≡ 2 → or_empty m.sender ≡ n
      sent_as q same may well two = of (subst (IsReturnedWell w m) same well)
        where
          of : IsReturnedWell w m (GetItems n) → or_empty m.sender ≡ n
          of (inl y) = answers_as m n y.1 (ap (λ k. may_answer k m) (sym same) ∙ may)
          of (inr y) = absurd (three_two y.0 two)

      of_sender : or_empty m.sender ≡ n → Sender es letter → n ≡ name
      of_sender names (of_bus from_bus own has) = absurd (false_true (ap (λ p. same_party p The_bus) (sym from ∙ from_bus)))
      of_sender names (of_end caller has its no_bus was) =
          let told : name_told es (App a) ≡ Some caller = app_name es a caller (subst (λ p. NameIs es p caller) from its) in
          sym names ∙ ap or_empty has ∙ same_some caller name (sym told ∙ sym (told_is es (App a)) ∙ named)

      by : Reply w m h s → n ≡ name
      by (replying.none q t) = absurd (no_none (GetItems n) (sym q ∙ is))
      by (replying.returned p pending two q may well t) =
          of_sender (sent_as p.question (same_some p.question (GetItems n) (sym q ∙ is)) may well two) (sender script es w None g conn e letter rest x.is_here.there x.is_here.standing x.link)
      by (replying.failed p pending three q may well t) = absurd (no_none (GetItems n) (sym q ∙ is))

  -- what the trace reads it as
  reads_as : (a : ℕ) → letter.from ≡ App a → answers_question es r (message es (App a) m.serial) ≡ question_returned m h.asked
  reads_as a from = by (sender script es w None g conn e letter rest x.is_here.there x.is_here.standing x.link)
    where
      of : (y : IsLetter es letter) → answers_question es r (message es (App a) m.serial) ≡ question_returned m h.asked
      of y =
          ap (answers_question es r) (ap (λ p. message es p m.serial) (sym from) ∙ y.was)
          ∙ ap (λ (z : Envelope). answer_to es r (record z { sender = y.first.sender }) z.reply) (sym y.alike)
          ∙ read m.reply ∙ sym (returned_is m h.asked)
        where
          calls : (n : ℕ) → own_call es r n ≡ call_at n h.asked
          calls = ((known script es w None g).readers conn r e h x.is_here.there x.whose x.role).calls

          read : (o : Option ℕ) → answer_to es r (record m { sender = y.first.sender }) o ≡ question_by (m.kind == 2) o h.asked
          read None = refl
          read (Some n) = ap (λ q. if m.kind == 2 then q else None) (calls n)

      by : Sender es letter → answers_question es r (message es (App a) m.serial) ≡ question_returned m h.asked
      by (of_bus from_bus own has) = absurd (false_true (ap (λ p. same_party p The_bus) (sym from ∙ from_bus)))
      by (of_end caller has its no_bus was) = of was

  pub step_load : (a : ℕ) (name : List ℕ) → name_in es (App a) ≡ Some name → ((n : List ℕ) → question_returned m h.asked ≡ Some (GetItems n) → n ≡ name → ⊥) → NoLoad es r a (entries_behind w conn)
  step_load a name named other xs zs serial is load = by xs (sym written.1 ∙ is) load
    where
      written : (ends : List End) × (entries_behind w conn ≡ got (Reader r) letter.from m.serial ∷ heard_entries r h ends letter)
      written = wrote w conn r e h letter rest x

      first_or : Entry → List Entry → Entry
      first_or y [] = y
      first_or y (z ∷ zs) = z

      rest_of : List Entry → List Entry
      rest_of [] = []
      rest_of (z ∷ zs) = zs

      its_sender : Entry → Party
      its_sender (got t p n) = p
      its_sender y = The_bus

      its_serial : Entry → ℕ
      its_serial (got t p n) = n
      its_serial y = 0

      here_load : letter.from ≡ App a → m.serial ≡ serial → IsLoad (answers_question (es ++ []) r (message (es ++ []) (App a) serial)) → ⊥
      here_load from same l =
          loaded (question_returned m h.asked) refl
          (subst IsLoad (reads_as a from)
          (subst (λ n. IsLoad (answers_question es r (message es (App a) n))) (sym same) (subst (λ k. IsLoad (answers_question k r (message k (App a) serial))) (append-nil es) l)))
        where
          loaded : (q : Option Question) → question_returned m h.asked ≡ q → IsLoad q → ⊥
          loaded (Some (GetItems n)) q k = other n q (loads_that n a name q from named)
          loaded (Some Hello) q k = k
          loaded (Some (AddMatch rule)) q k = k
          loaded (Some (RegisterEvent pattern)) q k = k
          loaded (Some GetChildren) q k = k
          loaded (Some (GetPart n path part)) q k = k
          loaded None q k = k

      by : (xs : List Entry) → got (Reader r) letter.from m.serial ∷ heard_entries r h written.0 letter ≡ xs ++ got (Reader r) (App a) serial ∷ zs → IsLoad (answers_question (es ++ xs) r (message (es ++ xs) (App a) serial)) → ⊥
      by [] at l = let same : got (Reader r) letter.from m.serial ≡ got (Reader r) (App a) serial = ap (first_or (got (Reader r) letter.from m.serial)) at in here_load (ap its_sender same) (ap its_serial same) l
      by (y ∷ ys) at l = no_got_splits r a ys zs serial (subst (AllByRecursion (NoGot r)) (ap rest_of at) (no_got_heard r r h written.0 letter))
