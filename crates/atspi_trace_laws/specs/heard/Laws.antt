-- What applications announce.
use Rattle.std.specs.Prelude.{◌≡◌, ℕ, suc, List, [], ◌∷◌, ◌++◌, length, map}
use Rattle.atspi_tree_model.specs.declared.step.Step.{Step}
use Rattle.atspi_script_lines.specs.declared.line.Line.{Line}
use Rattle.atspi_script_lines.specs.declared.line.Party.TheVariants.{App}
use Rattle.atspi_message.specs.Envelope.{Envelope}
use Rattle.atspi_protocol.specs.ends.Messages.{numbered}
use Rattle.atspi_protocol.specs.announcing.Signals.{Signal}
use Rattle.atspi_protocol.specs.announcing.Announced.{announced}
use Rattle.atspi_protocol.specs.exporting.Telling.{asked_for}
use Rattle.atspi_trace.specs.Entry.{Entry, changed, sent}
use Rattle.atspi_trace.specs.Due.{begins, after_all, Begun}
use Rattle.atspi_trace_laws.specs.laws.Words.{live_tree, messages, heard_pairs}
use Rattle.atspi_trace_laws.specs.laws.NineLaws.{Everywhere, Follow}
use Rattle.atspi_trace_laws.specs.order.Scripts.{CanAllStand}
use Rattle.atspi_trace_laws.specs.order.Laws.{OfEachTrace}

-- it holds of each front of a lawful trace behind which nothing is owed, so of each whole one
abbrev pub OfEachDone : (List Entry → Type 0) → Type 0
OfEachDone Law = (lines : List Line) (trace : List Entry) → CanAllStand lines → Begun lines trace
    → (after_all (begins lines) trace).owing ≡ [] → Law trace

-- the announcement and the echoes of a step, those that some heard pattern covers, with the next numbers, as an
-- application of this name sends them
abbrev pub signals_under : List ℕ → List Entry → ℕ → Step → List Entry
signals_under name before app step =
    map (sent (App app))
    (numbered (suc (length (messages before (App app))))
    (map (λ (s : Signal). s.message) (asked_for (heard_pairs before app) (announced name (live_tree before app) step))))

-- directly behind a step they stand, under some name
abbrev pub IsToldUnder : List Entry → Entry → List Entry → Type 0
IsToldUnder before (changed app step) behind = (name : List ℕ) × Follow (signals_under name before app step) behind
IsToldUnder before entry behind = Unit {0}

abbrev pub StepsAreTold : Type 0
StepsAreTold = OfEachDone (Everywhere IsToldUnder)

-- and no other signal of an application stands anywhere
pub record IsAmong (before : List Entry) (app : ℕ) (e : Envelope) : Type 0 where
  pub name : List ℕ
  pub early : List Entry
  pub step : Step
  pub front : List Entry
  pub back : List Entry
  pub stands : before ≡ early ++ changed app step ∷ front
  pub listed : signals_under name early app step ≡ front ++ sent (App app) e ∷ back

abbrev pub IsOneOfThem : List Entry → Entry → List Entry → Type 0
IsOneOfThem before (sent (App app) e) behind = e.kind ≡ 4 → IsAmong before app e
IsOneOfThem before entry behind = Unit {0}

abbrev pub NoOtherSignals : Type 0
NoOtherSignals = OfEachTrace (Everywhere IsOneOfThem)
