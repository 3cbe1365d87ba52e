-- A stage of a script that is played: its entries so far may stand, what is next is known, and all readers are tied. Behind a cause comes the next one.
use Rattle.std.proofs.Common.{◌≡◌, ℕ, false, List, [], ◌∷◌, ◌++◌, Option, None, Some, refl, subst}
use Rattle.std.specs.List.{AllByRecursion}
use Rattle.atspi_script_lines.specs.declared.line.Line.{Line}
use Rattle.atspi_script_lines.specs.declared.line.Party.TheVariants.{Reader}
use Rattle.atspi_protocol.specs.following.ReaderState.{ReaderState}
use Rattle.atspi_trace.specs.Entry.{Entry}
use Rattle.atspi_trace.specs.World.{Hearer, a_reader, End, World}
use Rattle.atspi_trace.specs.Ends.{end_at}
use Rattle.atspi_trace.specs.Causes.{Cause, does}
use Rattle.atspi_trace.specs.Work.{Work, cause, next_of}
use Rattle.atspi_trace.specs.Due.{freed, is_lost, TellsTruly}
use Rattle.atspi_trace_laws.specs.order.Scripts.{CanAllStand}
use Rattle.atspi_trace_laws.proofs.OfOrder.Allowed.{Allowed, NextFine}
use Rattle.atspi_trace_laws.proofs.OfOrder.Each.{all_map}
use Rattle.atspi_trace_laws.proofs.OfOrder.Effects.{effect}
use Rattle.atspi_trace_laws.proofs.OfOrder.Growing.{Shaped, Nothing, shaped_keeps}
use Rattle.atspi_trace_laws.proofs.OfOrder.Next.{next_fine}
use Rattle.atspi_trace_laws.proofs.OfOrder.Shape.{Shape}
use Rattle.atspi_trace.specs.play.Playing.{Playing}
use Rattle.atspi_trace_played.proofs.Facts.{Ground, Tied, AllTied}
use Rattle.atspi_trace_played.proofs.Pieces.{Pieces, IsOther, Skips}
use Rattle.atspi_trace_played.proofs.Building.{Midway, go_on, wrote_some, wrote_none}
use Rattle.atspi_trace_played.proofs.BuildingCourse.{Course, caused, passed, kept_so}
use Rattle.atspi_trace_played.proofs.BuildingTruly.{tells_truly}
use Rattle.atspi_trace_played.proofs.PlayingEnds.{NoReader, Apart}
use Rattle.atspi_trace_played.proofs.PlayingLists.{apart_skips, apart_asks_none, nodes_none, AsksNoPart}
use Rattle.atspi_trace_played.proofs.PlayingTied.{tied_apart}

pub record Stage (script : List Line) (es : List Entry) (p : Playing) (work : Work) (more : List Line) : Type 0 where
  pub can : CanAllStand script
  pub midway : Midway script es p.world work more
  pub course : Course es p.world None
  pub tied : AllTied es p
  pub here : is_lost p.world ≡ false

pub ground_of : (script : List Line) (es : List Entry) (w : World) (work : Work) (more : List Line) (free : Option ℕ) → CanAllStand script → Midway script es w work more → Course es w free → is_lost w ≡ false
    → Ground script es w free
ground_of script es w work more free can m c h = record { can = can; goes = m.goes; nothing_owed = m.nothing_owed; kept = λ Inv k. kept_so Inv k es w free c; here = h }

pub ground : (script : List Line) (es : List Entry) (p : Playing) (work : Work) (more : List Line) → Stage script es p work more → Ground script es p.world None
ground script es p work more st = ground_of script es p.world work more None st.can st.midway st.course st.here

module _ (pieces : Pieces) (script : List Line) (es : List Entry) (p : Playing) (work rest : Work) (more : List Line) (c : Cause) (st : Stage script es p work more) (is : next_of p.world work ≡ cause c p.world rest) where
  abbrev pub behind : World
  behind = (does p.world c).world

  abbrev pub written : List Entry
  written = (does p.world c).entries

  pub before : Ground script es p.world None
  before = ground script es p work more st

  pub shape : Shape p.world
  shape = (before.kept (Shaped Nothing) shaped_keeps).0

  pub allowed : Allowed p.world c
  allowed = (subst (NextFine p.world) is (next_fine p.world work st.midway.fine)).1

  pub truly : AllByRecursion (λ entry. TellsTruly entry behind) written
  truly = tells_truly p.world (does p.world c) (effect p.world c shape allowed) (λ none. pieces.rests_settled script es p before st.tied none)

  pub course_behind : Course (es ++ written) behind (freed c)
  course_behind = caused es p.world c st.course allowed

  pub midway_behind : is_lost behind ≡ false → Midway script (es ++ written) behind rest more
  midway_behind h = by written refl
    where
      by : (l : List Entry) → written ≡ l → Midway script (es ++ written) behind rest more
      by [] none = wrote_none script es p.world work rest more c st.midway is none
      by (e ∷ l) some = go_on script (es ++ written) behind (freed c) rest more h (wrote_some script es p.world work rest more c st.midway is e l some truly)

  pub ground_behind : is_lost behind ≡ false → Ground script (es ++ written) behind (freed c)
  ground_behind h = ground_of script (es ++ written) behind rest more (freed c) st.can (midway_behind h) course_behind h

  pub stage_with : (readers : List ReaderState) → is_lost behind ≡ false → AllTied (es ++ written) (record { world = behind; readers = readers })
      → Stage script (es ++ written) (record { world = behind; readers = readers }) rest more
  stage_with readers h t = record { can = st.can; midway = midway_behind h; course = passed (es ++ written) behind (freed c) course_behind; tied = t; here = h }

  -- one reader, tied still
  pub tied_still : is_lost behind ≡ false → (k r : ℕ) (e : End) (h : Hearer) (s : ReaderState) → AllByRecursion (Skips r) written → IsOther r p.world c → end_at p.world.ends k ≡ Some e
      → e.who ≡ Reader r → e.role ≡ a_reader h → Tied es p.world r h s → Tied (es ++ written) behind r h s
  tied_still lives k r e h s skips other there who role t = record {
    asks = t.asks;
    sees = pieces.sees_more script es written p.world behind None (freed c) r s before (ground_behind lives) skips t.sees;
    wants = pieces.wants_more script es p.world c k r e h s before (ground_behind lives) allowed other skips there who role t.sees t.wants;
  }

  -- A CAUSE THAT IS NO READER'S
  pub stage_apart : Apart p.world (does p.world c) → ((r : ℕ) → IsOther r p.world c) → is_lost behind ≡ false → Stage script (es ++ written) (record p { world = behind }) rest more
  stage_apart a others lives =
      stage_with p.readers lives
      (tied_apart es (es ++ written) p behind a.ends
      (λ k r e h s there who role t. tied_still lives k r e h s (all_map NoReader (Skips r) written (apart_skips r) a.entries) (others r) there who role t)
      (nodes_none es written st.tied.of_nodes (all_map NoReader AsksNoPart written apart_asks_none a.entries)) st.tied)
