-- What leaves the standing of each end: an end that takes a message, and what a reader sends then.
use Rattle.std.proofs.Common.{◌≡◌, ℕ, List, [], ◌∷◌, Option, None, Some, refl}
use Rattle.std.specs.List.{fold}
use Rattle.atspi_script_lines.specs.declared.line.Party.{Party}
use Rattle.atspi_message.specs.Envelope.{Envelope}
use Rattle.atspi_protocol.specs.declared.following.question.Question.{Question}
use Rattle.atspi_protocol.specs.following.ReaderState.{Done, sends, speaks, tells_end}
use Rattle.atspi_trace.specs.World.{Role, the_registry, an_application, a_reader, Letter, End, World}
use Rattle.atspi_trace.specs.Ends.{end_at, with_end, taken_down}
use Rattle.atspi_trace.specs.Hearing.{question_in}
use Rattle.atspi_trace.specs.Causes.{took, taken, on_end, at_end}
use Rattle.atspi_trace.specs.Due.{asks_as, asks_at}
use Rattle.atspi_trace_laws.proofs.OfOrder.Frame.{Over, IsOrder, over_same, over_both, over_with}
use Rattle.atspi_trace_laws.proofs.OfOrder.Effects.{received}
use Rattle.atspi_trace.specs.play.Plays.{asked, asked_with}

asks_stands : (m : Envelope) (question : Question) (e : End) (role : Role) → (asks_as role m question e).standing ≡ e.standing
asks_stands m question e (a_reader h) = refl
asks_stands m question e (the_registry s) = refl
asks_stands m question e (an_application s) = refl

-- of each relation that holds where the standing stays
module _ (R : End → End → Type 0) (order : IsOrder R) (stay : (e d : End) → d.standing ≡ e.standing → R e d) where
  pub call_over : (w : World) (conn : ℕ) (m : Envelope) (question : Question) → Over R w.ends (at_end w conn (asks_at m question)).ends
  call_over w conn m question = over_with R order (asks_at m question) (λ e. stay e (asks_at m question e) (asks_stands m question e e.role)) conn w.ends

  asked_with_over : (conn : ℕ) (w : World) (m : Envelope) (o : Option Question) → Over R w.ends (asked_with conn w m o).ends
  asked_with_over conn w m None = over_same R order w.ends
  asked_with_over conn w m (Some question) = call_over w conn m question

  asked_over : (conn : ℕ) (w : World) (d : Done) → Over R w.ends (asked conn w d).ends
  asked_over conn w (sends m) = asked_with_over conn w m (question_in m)
  asked_over conn w (speaks name line) = over_same R order w.ends
  asked_over conn w (tells_end name) = over_same R order w.ends

  pub out_over : (conn : ℕ) (w : World) (out : List Done) → Over R w.ends (fold (asked conn) w out).ends
  out_over conn w [] = over_same R order w.ends
  out_over conn w (d ∷ out) = over_both R order w.ends (asked conn w d).ends _ (asked_over conn w d) (out_over conn (asked conn w d) out)

  -- AN END TAKES A MESSAGE
  took_over : (w : World) (conn : ℕ) (letter : Letter) (who : Party) (role : Role) → Over R w.ends (took w conn letter who role).world.ends
  took_over w conn letter who (the_registry s) = over_with R order _ (λ e. stay e _ refl) conn w.ends
  took_over w conn letter who (an_application s) = over_with R order _ (λ e. stay e _ refl) conn w.ends
  took_over w conn letter who (a_reader h) = over_with R order _ (λ e. stay e _ refl) conn w.ends

  taken_over : (w : World) (conn : ℕ) (e : End) (link : List Letter) → Over R w.ends (taken w conn e link).world.ends
  taken_over w conn e [] = over_same R order w.ends
  taken_over w conn e (letter ∷ rest) =
      over_both R order w.ends (with_end conn taken_down w.ends) _ (over_with R order taken_down (λ e. stay e _ refl) conn w.ends)
      (took_over (received w conn e letter) conn letter e.who e.role)

  pub gets_over : (w : World) (conn : ℕ) (o : Option End) → Over R w.ends (on_end w o (λ e. taken w conn e e.down)).world.ends
  gets_over w conn None = over_same R order w.ends
  gets_over w conn (Some e) = taken_over w conn e e.down
