-- WHAT A READER ASKS, step by step: with a message that it takes it sends nothing of its own, or one call that it may send, last of all.
use Rattle.std.proofs.Common.{◌≡◌, ◌⊎◌, inl, inr, ℕ, zero, suc, List, [], ◌∷◌, ◌++◌, Option, None, Some, refl, sym, ap, ◌∙◌, subst}
use Rattle.std.specs.List.{AllByRecursion, fold}
use Rattle.atspi_tree_model.specs.Forest.{first_of}
use Rattle.atspi_script_lines.specs.declared.line.Line.{Line}
use Rattle.atspi_script_lines.specs.declared.line.Party.{Party}
use Rattle.atspi_script_lines.specs.declared.line.Party.TheVariants.{Bus as The_bus, Registry, App, Reader}
use Rattle.atspi_message.specs.Envelope.{Envelope}
use Rattle.atspi_protocol.specs.declared.following.question.Question.{Question}
use Rattle.atspi_protocol.specs.following.Calls.{asking}
use Rattle.atspi_protocol.specs.following.Known.{told_end}
use Rattle.atspi_protocol.specs.following.ReaderState.{Done, sends, speaks, tells_end, ReaderState}
use Rattle.atspi_protocol.specs.following.Takes.{reader_takes}
use Rattle.atspi_trace.specs.Entry.{Entry}
use Rattle.atspi_trace.specs.World.{here, a_reader, Hearer, Letter, Said, End, World}
use Rattle.atspi_trace.specs.Ends.{end_at, with_end, number_if, app_named, taken_down}
use Rattle.atspi_trace.specs.Hearing.{app_with, without_ended, hears_letter}
use Rattle.atspi_trace.specs.Causes.{gets, does, at_end, asks}
use Rattle.atspi_trace.specs.Due.{asks_at}
use Rattle.atspi_trace_laws.proofs.OfOrder.Allowed.{Asks}
use Rattle.atspi_trace_laws.proofs.OfOrder.Effects.{take_is}
use Rattle.atspi_trace_laws.proofs.OfOrder.Frame.{at_changed}
use Rattle.atspi_trace_laws.proofs.OfSteps.Trees.{fold_append}
use Rattle.atspi_trace.specs.play.Playing.{silent}
use Rattle.atspi_trace.specs.play.Plays.{asked_with, asked}
use Rattle.atspi_trace_played.proofs.Facts.{Ground, RepliesWell, AreDistinct, AsksWell, SeesWell}
use Rattle.atspi_trace_played.proofs.AskingTakes.{NoCalls, before_asking, took_message}
use Rattle.atspi_trace_played.proofs.AskingGoes.{SendsNone, SendsOne, goes, apps_same, idle_after}
use Rattle.atspi_trace_played.proofs.AskingPaths.{HasPaths, all_paths}
use Rattle.atspi_trace_played.proofs.AskingWishes.{IsIdle, own_read, wishes_may}

-- a message that went from a down link is none of those by which applications are found
named_still : (name : List ℕ) (conn : ℕ) (ends : List End) → app_named name (with_end conn taken_down ends) ≡ app_named name ends
named_still name conn [] = refl
named_still name zero (e ∷ es) = refl
named_still name (suc conn) (e ∷ es) = ap (first_of (number_if name e.who e.unique)) (named_still name conn es)

pub hears_same : (h : Hearer) (conn : ℕ) (ends : List End) (letter : Letter) → hears_letter h (with_end conn taken_down ends) letter ≡ hears_letter h ends letter
hears_same h conn ends letter = by letter.from letter.said
  where
    ended : (o : Option (List ℕ)) → app_with (with_end conn taken_down ends) o ≡ app_with ends o
    ended None = refl
    ended (Some name) = named_still name conn ends

    by : (from : Party) (said : Said) → hears_letter h (with_end conn taken_down ends) (record { from = from; said = said }) ≡ hears_letter h ends (record { from = from; said = said })
    by The_bus said = ap (λ o. record (hears_letter h ends (record { from = The_bus; said = said })) { holds = without_ended o h.holds }) (ended (told_end said.message))
    by Registry said = refl
    by (App a) said = refl
    by (Reader r) said = refl

-- WHAT IT SENDS, and what it has asked then
pub record AsksNothing (h : Hearer) (t : ReaderState) : Type 0 where
  pub quiet : NoCalls t.out
  pub well : AsksWell h (silent t)

pub record AsksOne (w : World) (conn r : ℕ) (h : Hearer) (s t : ReaderState) : Type 0 where
  pub question : Question
  pub front : List Done
  pub out : t.out ≡ front ++ sends (asking s.next question) ∷ []
  pub quiet : NoCalls front
  pub may : Asks w conn r (asking s.next question) question
  pub well : AsksWell (asks question h) (silent t)

-- THE WORLD behind that
pub quiet_world : (conn : ℕ) (w : World) (out : List Done) → NoCalls out → fold (asked conn) w out ≡ w
quiet_world conn w [] n = refl
quiet_world conn w (sends e ∷ out) n = absurd n.0
quiet_world conn w (speaks name line ∷ out) n = quiet_world conn w out n.1
quiet_world conn w (tells_end name ∷ out) n = quiet_world conn w out n.1

pub asked_world : (conn : ℕ) (w : World) (front : List Done) (serial : ℕ) (question : Question) → NoCalls front
    → fold (asked conn) w (front ++ sends (asking serial question) ∷ []) ≡ at_end w conn (asks_at (asking serial question) question)
asked_world conn w front serial question n =
    fold_append (asked conn) w front (sends (asking serial question) ∷ []) ∙ ap (λ v. asked conn v (sends (asking serial question))) (quiet_world conn w front n)
    ∙ ap (asked_with conn w (asking serial question)) (own_read serial question)

pub idle_step : (s : ReaderState) (m : Envelope) → IsIdle (silent (reader_takes s m))
idle_step s m = idle_after (before_asking s m)

module _ (script : List Line) (es : List Entry) (w v : World) (conn r : ℕ) (e : End) (h : Hearer) (letter : Letter) (rest : List Letter) (s : ReaderState) where
  -- what the end is behind the message
  abbrev hearer : Hearer
  hearer = hears_letter h w.ends letter

  abbrev after : End
  after = record (taken_down e) { role = a_reader (hears_letter h (with_end conn taken_down w.ends) letter) }

  is_after : end_at w.ends conn ≡ Some e → e.role ≡ a_reader h → e.down ≡ letter ∷ rest → end_at (does w (gets conn)).world.ends conn ≡ Some after
  is_after there role link =
      ap (λ d. end_at d.world.ends conn) (take_is w conn e letter rest (a_reader h) there link role)
      ∙ at_changed (λ (x : End). record x { role = a_reader (hears_letter h (with_end conn taken_down w.ends) letter) }) (with_end conn taken_down w.ends) conn (taken_down e)
      (at_changed taken_down w.ends conn e there)

  pub asks_step : Ground script es v (Some conn) → end_at w.ends conn ≡ Some e → e.who ≡ Reader r → e.role ≡ a_reader h → e.standing ≡ here → e.down ≡ letter ∷ rest
      → AsksWell h s → RepliesWell w letter.said.message h.asked → SeesWell es r (silent (reader_takes s letter.said.message))
      → AsksNothing hearer (reader_takes s letter.said.message) ⊎ AsksOne (does w (gets conn)).world conn r hearer s (reader_takes s letter.said.message)
  asks_step g there whose role standing link a well sees = by (goes hearer t took.0 (wishes_may hearer (silent t) took.0 paths))
    where
      m : Envelope
      m = letter.said.message

      t : ReaderState
      t = before_asking s letter.said.message

      took : AsksWell (hears_letter h w.ends letter) (silent (before_asking s letter.said.message)) × NoCalls (before_asking s letter.said.message).out
      took = took_message w h letter.said.message (hears_letter h w.ends letter).holds s a well

      same : (reader_takes s letter.said.message).apps ≡ (before_asking s letter.said.message).apps
      same = apps_same (before_asking s letter.said.message)

      paths : AllByRecursion HasPaths (before_asking s letter.said.message).apps
      paths =
          subst (AllByRecursion HasPaths) same
          (all_paths script es v (Some conn) g r (silent (reader_takes s letter.said.message)) sees (subst AreDistinct (sym same) took.0.distinct))

      by : SendsNone (hears_letter h w.ends letter) (before_asking s letter.said.message) (reader_takes s letter.said.message)
          ⊎ SendsOne (hears_letter h w.ends letter) (before_asking s letter.said.message) (reader_takes s letter.said.message)
          → AsksNothing hearer (reader_takes s letter.said.message) ⊎ AsksOne (does w (gets conn)).world conn r hearer s (reader_takes s letter.said.message)
      by (inl n) = inl (record { quiet = subst NoCalls (sym n.out) took.1; well = n.well })
      by (inr o) =
          let next : t.next ≡ s.next = took.0.next ∙ sym a.next in
          inr (record {
            question = o.question;
            front = t.out;
            out = o.out ∙ ap (λ n. t.out ++ sends (asking n o.question) ∷ []) next;
            quiet = took.1;
            may = record {
              asker = after;
              hearer = hearer;
              is_here = record { there = is_after there role link; standing = standing };
              whose = whose;
              reader = ap a_reader (hears_same h conn w.ends letter);
              answered = o.answered;
              allowed = o.may;
              spelled = ap (λ n. asking n o.question) a.next;
              read = own_read s.next o.question;
            };
            well = o.well;
          })
