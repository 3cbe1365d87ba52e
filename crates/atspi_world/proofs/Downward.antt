-- Bytes of a down link, moved until so many are, or none is left: message after message.
use Rattle.std.proofs.Common.{◌≡◌, ℕ, ◌<◌, List, [], ◌∷◌, length, take, drop, None, Some, Option, refl, sym, ap, ◌∙◌, subst, arith}
use Rattle.std.specs.Prelude.{slice_get}
use Rattle.std.specs.Option.{option_map}
use Rattle.std.specs.List.{fold}
use Rattle.std.proofs.Math.Seq.{take-nil}
use Rattle.std.proofs.lemmas.List.{length-take-le, take-append-drop}
use Rattle.atspi_script_lines.specs.declared.line.Party.{Party}
use Rattle.atspi_script_lines.specs.declared.line.Party.TheVariants.{Bus as The_bus, Registry, App, Reader}
use Rattle.atspi_message.specs.Envelope.{Envelope}
use Rattle.atspi_message.specs.Bytes.{written}
use Rattle.atspi_protocol.specs.following.ReaderState.{Done, sends, speaks, tells_end, ReaderState}
use Rattle.atspi_protocol.specs.following.Takes.{reader_takes}
use Rattle.atspi_protocol.specs.declared.following.question.Question.{Question}
use Rattle.atspi_stream.specs.Stream.{AwaitsMore, few}
use Rattle.atspi_trace.specs.World.{Standing, Role, the_registry, an_application, a_reader, Letter, End, World}
use Rattle.atspi_trace.specs.Ends.{end_at, with_end, taken_down}
use Rattle.atspi_trace.specs.Causes.{gets, does, took, taken, on_end}
use Rattle.atspi_trace.specs.Due.{asks_at, asks_as}
use Rattle.atspi_trace.specs.Hearing.{question_in}
use Rattle.atspi_world_moves.specs.Downs.{bytes_down, IsBegun}
use Rattle.atspi_world_moves.specs.Linked.{given_of, IsLinked}
use Rattle.atspi_world_links.proofs.Changes.{get-map}
use Rattle.atspi_world_moves.proofs.Downs.{begun_within}
use Rattle.atspi_world_moves.proofs.Filling.{part_awaits}
use Rattle.atspi_trace.specs.play.Playing.{Playing}
use Rattle.atspi_trace.specs.play.Plays.{asked, asked_with, got_at, got_by, reader_got, plays}
use Rattle.atspi_world.proofs.Taking.{with_at}
use Rattle.atspi_world.proofs.GotMessages.{letter_spelled}

-- THE END STAYS where it takes a message
pub record StandsAt (s : Standing) (w : World) (conn : ℕ) : Type 0 where
  pub the_end : End
  pub at : end_at w.ends conn ≡ Some the_end
  pub stands : the_end.standing ≡ s

changed_stands : (f : End → End) → ((e : End) → (f e).standing ≡ e.standing) → (s : Standing) (w : World) (conn : ℕ) → StandsAt s w conn → StandsAt s (record w { ends = with_end conn f w.ends }) conn
changed_stands f same s w conn h = record { the_end = f h.the_end; at = with_at f w.ends conn h.the_end h.at; stands = same h.the_end ∙ h.stands }

took_stands : (s : Standing) (w : World) (conn : ℕ) (letter : Letter) (who : Party) (role : Role) → StandsAt s w conn → StandsAt s (took w conn letter who role).world conn
took_stands s w conn letter who (the_registry r) h = changed_stands _ (λ e. refl) s w conn h
took_stands s w conn letter who (an_application a) h = changed_stands _ (λ e. refl) s w conn h
took_stands s w conn letter who (a_reader r) h = changed_stands _ (λ e. refl) s w conn h

asks_stands : (m : Envelope) (q : Question) (e : End) → (asks_at m q e).standing ≡ e.standing
asks_stands m q e = by e.role
  where
    by : (role : Role) → (asks_as role m q e).standing ≡ e.standing
    by (the_registry r) = refl
    by (an_application a) = refl
    by (a_reader r) = refl

asked_stands : (s : Standing) (conn : ℕ) (ds : List Done) (w : World) → StandsAt s w conn → StandsAt s (fold (asked conn) w ds) conn
asked_stands s conn [] w h = h
asked_stands s conn (sends m ∷ ds) w h = asked_stands s conn ds (asked_with conn w m (question_in m)) (by (question_in m))
  where
    by : (o : Option Question) → StandsAt s (asked_with conn w m o) conn
    by None = h
    by (Some q) = changed_stands (asks_at m q) (asks_stands m q) s w conn h
asked_stands s conn (speaks name line ∷ ds) w h = asked_stands s conn ds w h
asked_stands s conn (tells_end name ∷ ds) w h = asked_stands s conn ds w h

does_stands : (w : World) (conn : ℕ) (e : End) → end_at w.ends conn ≡ Some e → StandsAt e.standing (does w (gets conn)).world conn
does_stands w conn e at = subst (λ o. StandsAt e.standing (on_end w o (λ x. taken w conn x x.down)).world conn) (sym at) (by e.down)
  where
    h : StandsAt e.standing w conn
    h = record { the_end = e; at = at; stands = refl }

    by : (letters : List Letter) → StandsAt e.standing (taken w conn e letters).world conn
    by [] = h
    by (letter ∷ rest) =
        took_stands e.standing _ conn letter e.who e.role (record { the_end = taken_down e; at = with_at taken_down w.ends conn e at; stands = refl })

pub gets_stands : (p : Playing) (conn : ℕ) (e : End) → end_at p.world.ends conn ≡ Some e → StandsAt e.standing (plays p (gets conn)).now.world conn
gets_stands p conn e at = subst (λ o. StandsAt e.standing (got_by p conn o).now.world conn) (sym at) (by e.who e.down)
  where
    h : StandsAt e.standing (does p.world (gets conn)).world conn
    h = does_stands p.world conn e at

    reader : (r : ℕ) (letter : Letter) (o : Option ReaderState) → StandsAt e.standing (reader_got p conn r letter o).now.world conn
    reader r letter None = h
    reader r letter (Some s) = asked_stands e.standing conn (reader_takes s letter.said.message).out (does p.world (gets conn)).world h

    by : (who : Party) (down : List Letter) → StandsAt e.standing (got_at p conn who down).now.world conn
    by (Reader r) (letter ∷ rest) = reader r letter (slice_get p.readers r)
    by (Reader r) [] = h
    by (App a) down = h
    by The_bus down = h
    by Registry down = h

-- WHAT LIES AT AN END awaits more
pub lies_so : (w : World) (given : List (List ℕ)) (conn : ℕ) (e : End) → IsLinked w given → end_at w.ends conn ≡ Some e → slice_get given conn ≡ Some (given_of e)
lies_so w given conn e is at = ap (λ l. slice_get l conn) is.given_are ∙ get-map given_of w.ends conn ∙ ap (option_map given_of) at

pub lies_awaits : (w : World) (given : List (List ℕ)) (conn : ℕ) (e : End) → IsLinked w given → end_at w.ends conn ≡ Some e → AwaitsMore (given_of e)
lies_awaits w given conn e is at = by e.down refl
  where
    by : (letters : List Letter) → e.down ≡ letters → AwaitsMore (given_of e)
    by [] link = subst AwaitsMore (sym (ap (λ l. take e.down_moved (bytes_down l)) link ∙ take-nil e.down_moved)) (few (omega arith))
    by (letter ∷ rest) link =
        let waiting = is.wait conn e at in
        let begun : e.down_moved < length (written letter.said.message) = subst (IsBegun e.down_moved) link waiting.begun in
        let short : length (given_of e) ≡ e.down_moved = length-take-le e.down_moved (bytes_down e.down) (begun_within e.down_moved e.down waiting.begun) in
        part_awaits letter.said.message (given_of e) (drop e.down_moved (bytes_down e.down)) (bytes_down rest) (letter_spelled w given conn e letter rest is at link)
        (take-append-drop e.down_moved (bytes_down e.down) ∙ ap bytes_down link) (omega (arith, short, begun))
