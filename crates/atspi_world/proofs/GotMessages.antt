-- What an end does with what lies at it: it takes the message that is whole there, and of a part of one it takes nothing.
use Rattle.std.proofs.Common.{◌≡◌, ℕ, Bool, true, List, ◌∷◌, Some, refl, subst}
use Rattle.std.specs.List.{AllByRecursion}
use Rattle.atspi_script_lines.specs.declared.line.Party.{Party}
use Rattle.atspi_script_lines.specs.declared.line.Party.TheVariants.{Bus as The_bus, Registry as The_registry, App, Reader}
use Rattle.atspi_message.specs.Envelope.{Envelope}
use Rattle.atspi_message.specs.Bytes.{IsMessage, written}
use Rattle.atspi_match.specs.routing.Queues.{Bus}
use Rattle.atspi_trace_events.specs.declared.event.Event.{Event}
use Rattle.atspi_world_links.specs.declared.post.Post.{Post}
use Rattle.atspi_trace.specs.World.{Letter, End, World}
use Rattle.atspi_trace.specs.Ends.{end_at}
use Rattle.atspi_trace.specs.Causes.{gets}
use Rattle.atspi_bus_laws.specs.handed.Handing.{IsLetter, AreLetters}
use Rattle.atspi_world_moves.specs.Carried.{post_of}
use Rattle.atspi_world_moves.specs.Linked.{IsLinked, IsWhole, BringsDown}
use Rattle.atspi_world_moves.proofs.Coming.{always_enough}
use Rattle.atspi_world_moves.proofs.Ties.{all_at, post_at}
use Rattle.atspi_trace.specs.play.Playing.{Playing}
use Rattle.atspi_trace.specs.play.Plays.{plays}
use Rattle.atspi_world.specs.inner.Taken.{GotWhole, Gets}
use Rattle.atspi_world.specs.Worlds.{Staged, IsPlaying, Happens}
use Rattle.atspi_world.proofs.Apart.{not_bus}
use Rattle.atspi_world.proofs.Taking.{IsComing, message, stage_mid}
use Rattle.atspi_world.proofs.TakingEnds.{app_got, registry_got}
use Rattle.atspi_world.proofs.TakingReaders.{reader_got_so}

-- THE MESSAGE THAT IS WHOLE, whoever takes it
whole_got : {p : Playing} {conn : ℕ} {old new : Staged} {took : Bool} (x : IsComing p conn old new took) → GotWhole (message x) conn x.the_end.who (stage_mid x) new took → Happens (plays p (gets conn)) old new
whole_got {p} {conn} {old} {new} {took} x g = by x.the_end.who refl g
  where
    by : (who : Party) → x.the_end.who ≡ who → GotWhole (message x) conn who (stage_mid x) new took → Happens (plays p (gets conn)) old new
    by The_bus is g = absurd (not_bus p.world.ends conn x.the_end x.playing.is.apart x.at is)
    by The_registry is g = registry_got x is g
    by (App a) is g = app_got x a is g
    by (Reader r) is g = reader_got_so x r is g

-- a letter's bytes spell its message
pub letter_spelled : (w : World) (given : List (List ℕ)) (conn : ℕ) (e : End) (letter : Letter) (rest : List Letter) → IsLinked w given → end_at w.ends conn ≡ Some e → e.down ≡ letter ∷ rest
    → IsMessage letter.said.message (written letter.said.message)
letter_spelled w given conn e letter rest is at link = (subst (AllByRecursion IsLetter) link (all_at AreLetters w.ends conn e is.hands.letters at)).0

pub got_whole : (p : Playing) (conn : ℕ) (e : End) (letter : Letter) (rest : List Letter) (old new : Staged) (b : Bus) (given : List (List ℕ)) (took : Bool) → IsPlaying p old → end_at p.world.ends conn ≡ Some e → e.down ≡ letter ∷ rest
    → IsWhole old.bus b old.given given conn letter.said.message e.down_moved → Gets conn (record old { bus = b; given = given }) new took → (took ≡ true) × Happens (plays p (gets conn)) old new
got_whole p conn e letter rest old new b given took playing at link whole gets_ =
    let m : Envelope = letter.said.message in
    let it = gets_ (post_of e) (written m) (post_at p.world old.bus old.posts conn e playing.is.carried at) whole.lies in
    let g = it.whole m (letter_spelled p.world old.given conn e letter rest playing.is.linked at link) refl in (
      g.took_it,
      whole_got (record {
        the_end = e;
        letter = letter;
        rest = rest;
        bus = b;
        given = given;
        playing = playing;
        at = at;
        link = link;
        whole = whole;
        same_bus = it.bus;
        kits = it.kits;
        spares = it.spares;
      }) g,
    )

-- AN END TAKES THE FIRST MESSAGE of its down link
pub next_got : (p : Playing) (conn count : ℕ) (e : End) (letter : Letter) (rest : List Letter) (old new : Staged) (b : Bus) (given : List (List ℕ)) (took : Bool) → IsPlaying p old → end_at p.world.ends conn ≡ Some e → e.down ≡ letter ∷ rest
    → BringsDown old.bus b old.posts old.given given conn 18446744073709551615 count → Gets conn (record old { bus = b; given = given }) new took → Happens (plays p (gets conn)) old new
next_got p conn count e letter rest old new b given took playing at link brings gets_ =
    let enough = always_enough letter.said.message e.down_moved (letter_spelled p.world old.given conn e letter rest playing.is.linked at link) in
    let came = (brings p.world e playing.is.carried playing.is.linked at).whole letter rest link enough in
    (got_whole p conn e letter rest old new b given took playing at link came.whole gets_).1

-- what is got where connections and trace are known otherwise
pub gets_as : (conn : ℕ) (mid new : Staged) (posts : List Post) (trace : List Event) (took : Bool) → mid.posts ≡ posts → mid.trace ≡ trace → Gets conn mid new took → Gets conn (record mid { posts = posts; trace = trace }) new took
gets_as conn mid new posts trace took ps ts g =
    subst (λ x. Gets conn (record mid { posts = x; trace = trace }) new took) ps (subst (λ x. Gets conn (record mid { posts = mid.posts; trace = x }) new took) ts g)
