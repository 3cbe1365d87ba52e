-- What a reader sends when it takes a message: at most one call of its own, with its next serial, behind all that it tells.
use Rattle.std.proofs.Common.{◌≡◌, ◌⊎◌, inl, inr, ℕ, ◌+◌, List, [], ◌∷◌, ◌++◌, Option, None, Some, refl, ap, ◌∙◌, subst, sym}
use Rattle.std.specs.List.{AllByRecursion}
use Rattle.atspi_message.specs.Envelope.{Envelope}
use Rattle.atspi_protocol.specs.declared.following.question.Question.{Question}
use Rattle.atspi_protocol.specs.following.Calls.{asking}
use Rattle.atspi_protocol.specs.following.ReaderState.{Pending, Done, sends, speaks, tells_end, ReaderState}
use Rattle.atspi_protocol.specs.following.Takes.{asks, asks_first, goes_on, reader_takes}
use Rattle.atspi_protocol.specs.following.Wishes.{wishes}
use Rattle.atspi_world_parties.specs.Doing.{messages}
use Rattle.atspi_world.proofs.AskingTelling.{IsTold, OnlyTells, before_asking, message_tells}

-- what is asked next: the next call of the start, and behind the last of them the first wish
pub data IsNext (u : ReaderState) (q : Question) (left : List Question) : Type 0 where
  of_start : u.to_come ≡ q ∷ left → IsNext u q left
  of_wishes : (others : List Question) → u.to_come ≡ [] → left ≡ [] → wishes u.apps ≡ q ∷ others → IsNext u q left

-- why nothing is: a call waits, or nothing is wished
pub data Rests (u : ReaderState) : Type 0 where
  waiting : (p : Pending) → u.pending ≡ Some p → Rests u
  content : u.to_come ≡ [] → wishes u.apps ≡ [] → Rests u

-- A reader that told only, from the first state to the second, ASKS NOTHING in the third
pub record AsksNone (s u t : ReaderState) : Type 0 where
  pub rests : Rests u
  pub state : t ≡ u
  pub tells : AllByRecursion IsTold t.out
  pub sends_none : messages t.out ≡ []
  pub next : t.next ≡ s.next

-- or ONE CALL, which waits then: it has the next serial, and stands behind all that was told
pub record AsksOne (s u t : ReaderState) : Type 0 where
  pub question : Question
  pub left : List Question
  pub is_next : IsNext u question left
  pub none_waited : u.pending ≡ None
  pub state : t ≡ asks (record u { to_come = left }) question
  pub told : List Done
  pub tells : AllByRecursion IsTold told
  pub out : t.out ≡ told ++ sends (asking s.next question) ∷ []
  pub sends_one : messages t.out ≡ asking s.next question ∷ []
  pub pending : t.pending ≡ Some (record { serial = s.next; question = question })
  pub next : t.next ≡ s.next + 1

abbrev pub AsksOnce : ReaderState → ReaderState → ReaderState → Type 0
AsksOnce s u t = AsksNone s u t ⊎ AsksOne s u t

-- what is told is no message
pub messages_behind : (told ds : List Done) → AllByRecursion IsTold told → messages (told ++ ds) ≡ messages ds
messages_behind [] ds a = refl
messages_behind (sends m ∷ told) ds a = absurd a.0
messages_behind (speaks name line ∷ told) ds a = messages_behind told ds a.1
messages_behind (tells_end name ∷ told) ds a = messages_behind told ds a.1

pub messages_none : (told : List Done) → AllByRecursion IsTold told → messages told ≡ []
messages_none [] a = refl
messages_none (sends m ∷ told) a = absurd a.0
messages_none (speaks name line ∷ told) a = messages_none told a.1
messages_none (tells_end name ∷ told) a = messages_none told a.1

abbrev waits_for : Question → ℕ → Option Pending
waits_for q n = Some (record { serial = n; question = q })

pub once_gone_on : (s u : ReaderState) → s.out ≡ [] → OnlyTells s u → AsksOnce s u (goes_on u)
once_gone_on s u quiet o = by u.pending refl u.to_come refl
  where
    out_is : u.out ≡ o.told
    out_is = o.out ∙ ap (λ l. l ++ o.told) quiet

    next : Option Pending → List Question → ReaderState
    next (Some p) to_come = u
    next None (q ∷ left) = asks (record u { to_come = left }) q
    next None [] = asks_first u (wishes u.apps)

    none : Rests u → AsksNone s u u
    none rests = record {
      rests = rests;
      state = refl;
      tells = subst (AllByRecursion IsTold) (sym out_is) o.tells;
      sends_none = ap messages out_is ∙ messages_none o.told o.tells;
      next = o.next;
    }

    one : (q : Question) (left : List Question) (t : ReaderState) → IsNext u q left → u.pending ≡ None → t ≡ asks (record u { to_come = left }) q → AsksOne s u t
    one q left t is_next free state =
        let out : t.out ≡ o.told ++ sends (asking s.next q) ∷ [] =
        ap (λ (x : ReaderState). x.out) state ∙ ap (λ l. l ++ sends (asking u.next q) ∷ []) out_is ∙ ap (λ n. o.told ++ sends (asking n q) ∷ []) o.next in
        record {
          question = q;
          left = left;
          is_next = is_next;
          none_waited = free;
          state = state;
          told = o.told;
          tells = o.tells;
          out = out;
          sends_one = ap messages out ∙ messages_behind o.told (sends (asking s.next q) ∷ []) o.tells;
          pending = ap (λ (x : ReaderState). x.pending) state ∙ ap (waits_for q) o.next;
          next = ap (λ (x : ReaderState). x.next) state ∙ ap (λ n. n + 1) o.next;
        }

    wish : (ws : List Question) → wishes u.apps ≡ ws → u.pending ≡ None → u.to_come ≡ [] → AsksOnce s u (asks_first u ws)
    wish [] g free last = inl (none (content last g))
    wish (q ∷ others) g free last = inr (one q [] (asks u q) (of_wishes others last refl g) free (ap (λ l. asks (record u { to_come = l }) q) last))

    by : (p : Option Pending) → u.pending ≡ p → (l : List Question) → u.to_come ≡ l → AsksOnce s u (next p l)
    by (Some p) h l k = inl (none (waiting p h))
    by None h (q ∷ left) k = inr (one q left (asks (record u { to_come = left }) q) (of_start k) h refl)
    by None h [] k = wish (wishes u.apps) refl h k

-- A READER that has queued nothing takes a message
pub reader_asks_once : (s : ReaderState) (e : Envelope) → s.out ≡ [] → AsksOnce s (before_asking s e) (reader_takes s e)
reader_asks_once s e quiet = once_gone_on s (before_asking s e) quiet (message_tells s e)
