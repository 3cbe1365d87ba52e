-- What the bus does changes no end's party and no role.
use Rattle.std.proofs.Common.{◌≡◌, ℕ, zero, suc, Bool, true, false, List, [], ◌∷◌, map, Option, None, Some, refl, ◌∙◌}
use Rattle.std.specs.Prelude.{length, if◌then◌else◌}
use Rattle.std.specs.List.{fold}
use Rattle.atspi_script_lines.specs.declared.line.Party.{Party}
use Rattle.atspi_message.specs.Envelope.{Envelope}
use Rattle.atspi_match.specs.declared.routing.closing.Why.{Why}
use Rattle.atspi_match.specs.routing.Steps.{Move, says, delivers, closes, BusStep, bus_takes, bus_leaves}
use Rattle.atspi_match.specs.routing.Queues as queues
use Rattle.atspi_match.specs.routing.Queues.{Waiting, without_queue}
use Rattle.atspi_trace.specs.Rules.{rule_in}
use Rattle.atspi_trace.specs.World.{Said, Letter, End, World}
use Rattle.atspi_trace.specs.Ends.{end_at, with_end, put_down, taken_up, leaves}
use Rattle.atspi_trace.specs.Causes.{does, on_end, routed, routes, unjoins}
use Rattle.atspi_trace.specs.Carrying.{Carried, Filled, letter_of, own_letter, grew, with_letter, moved, stepped, left, one_closed, settled, named, with_name, takes, takes_end}
use Rattle.atspi_world_moves.specs.Carried.{IsDone}
use Rattle.atspi_world_moves.specs.Linked.{IsLinked}
use Rattle.atspi_world_moves.proofs.Staying.{lives_so}
use Rattle.atspi_trace.specs.play.Playing.{Playing}
use Rattle.atspi_trace.specs.play.Plays.{plays}
use Rattle.atspi_world.specs.Worlds.{Staged, IsPlaying, Happens}
use Rattle.atspi_world.proofs.Changed.{part_of}
use Rattle.atspi_world.proofs.Stays.{Beside, parts_kept, same_world, only_happens}

letter_parts : (letter : Envelope → Letter) (b a : Waiting) (move : Move) (ends : List End) → map part_of (with_letter letter b a move ends) ≡ map part_of ends
letter_parts letter b a (delivers conn m) ends = by (grew conn b a)
  where
    by : (t : Bool) → map part_of (if t then with_end conn (put_down (letter m)) ends else ends) ≡ map part_of ends
    by true = parts_kept (put_down (letter m)) (λ e. refl) ends conn
    by false = refl
letter_parts letter b a (says m) ends = refl
letter_parts letter b a (closes conn) ends = refl

folded_parts : (letter : Envelope → Letter) (quota : ℕ) (f : Filled) (moves : List Move) → map part_of (fold (moved letter quota) f moves).ends ≡ map part_of f.ends
folded_parts letter quota f [] = refl
folded_parts letter quota f (move ∷ moves) = folded_parts letter quota (moved letter quota f move) moves ∙ letter_parts letter f.waiting (queues.moved quota f.waiting move) move f.ends

stepped_parts : (letter : Envelope → Letter) (c : Carried) (step : BusStep) → map part_of (stepped letter c step).ends ≡ map part_of c.ends
stepped_parts letter c step = folded_parts letter c.bus.quota (record { waiting = c.bus.waiting; ends = c.ends }) step.moves

abbrev without : Carried → ℕ → Carried
without c conn = record { bus = record c.bus { waiting = without_queue c.bus.waiting conn }; ends = with_end conn leaves c.ends }

left_parts : (c : Carried) (conn : ℕ) → map part_of (left c conn).ends ≡ map part_of c.ends
left_parts c conn = stepped_parts own_letter (without c conn) (bus_leaves c.bus.state conn) ∙ parts_kept leaves (λ e. refl) c.ends conn

one_parts : (c : Carried) (due : List (ℕ × Why)) → map part_of (one_closed c due).ends ≡ map part_of c.ends
one_parts c [] = refl
one_parts c (first ∷ rest) = left_parts c first.0

settled_parts : (n : ℕ) (c : Carried) → map part_of (settled n c).ends ≡ map part_of c.ends
settled_parts zero c = refl
settled_parts (suc n) c = settled_parts n (one_closed c c.bus.waiting.due) ∙ one_parts c c.bus.waiting.due

takes_parts : (c : Carried) (conn : ℕ) (who : Party) (said : Said) → map part_of (takes c conn who said).ends ≡ map part_of c.ends
takes_parts c conn who said =
    let off : Carried = record c { ends = with_end conn taken_up c.ends } in
    let handed : Carried = stepped (letter_of who said) off (bus_takes c.bus.state conn said.message (rule_in said.message)) in
    settled_parts (length c.bus.state.joined) (with_name conn handed) ∙ parts_kept (named handed.bus conn) (λ e. refl) handed.ends conn
    ∙ stepped_parts (letter_of who said) off (bus_takes c.bus.state conn said.message (rule_in said.message)) ∙ parts_kept taken_up (λ e. refl) c.ends conn

pub ends_parts : (c : Carried) (conn : ℕ) → map part_of (takes_end c conn).ends ≡ map part_of c.ends
ends_parts c conn = settled_parts (length c.bus.state.joined) (left c conn) ∙ left_parts c conn

pub routes_parts : (w : World) (conn : ℕ) → (map part_of (does w (routes conn)).world.ends ≡ map part_of w.ends) × ((does w (routes conn)).world.swaps ≡ w.swaps)
routes_parts w conn = by (end_at w.ends conn)
  where
    link : (who : Party) (saids : List Said) → (map part_of (routed w conn who saids).world.ends ≡ map part_of w.ends) × ((routed w conn who saids).world.swaps ≡ w.swaps)
    link who [] = (refl, refl)
    link who (said ∷ rest) = (takes_parts (record { bus = w.bus; ends = w.ends }) conn who said, refl)

    by : (o : Option End) → (map part_of (on_end w o (λ e. routed w conn e.who e.up)).world.ends ≡ map part_of w.ends) × ((on_end w o (λ e. routed w conn e.who e.up)).world.swaps ≡ w.swaps)
    by None = (refl, refl)
    by (Some e) = link e.who e.up

-- the bus took an end that stopped
pub part_world : (p : Playing) (conn : ℕ) (old new : Staged) → IsPlaying p old → IsDone (does p.world (unjoins conn)) new.bus new.posts old.trace new.trace → IsLinked (does p.world (unjoins conn)).world new.given
    → new.apps ≡ old.apps → new.readers ≡ old.readers → Beside old new → Happens (plays p (unjoins conn)) old new
part_world p conn old new is done linked apps readers beside =
    only_happens p (does p.world (unjoins conn)) old new is
    (same_world p.world (does p.world (unjoins conn)).world old new is.is (ends_parts (record { bus = p.world.bus; ends = p.world.ends }) conn) refl done.tied linked
    (lives_so (does p.world (unjoins conn)).world new.given linked) apps readers beside) readers done.wrote
