-- The application of the worked cases, on its way through its start.
use Rattle.std.specs.Prelude.{ℕ, false, List, [], ◌∷◌, map, Option, None, Some, codes, Result, Ok, Err}
use Rattle.atspi_types.specs.Data.{Data, text_data, structure_data, array_data, items_of}
use Rattle.atspi_types.specs.Kinds.{structure, kinds_of, text}
use Rattle.atspi_tree_model.specs.declared.edit.Edit.{Edit}
use Rattle.atspi_tree_model.specs.declared.edit.EditFault.{EditFault}
use Rattle.atspi_tree_model.specs.declared.step.Seed.{Seed}
use Rattle.atspi_tree_model.specs.declared.step.Step.{Step}
use Rattle.atspi_message.specs.Envelope.{Envelope}
use Rattle.atspi_protocol.specs.ends.Places.{bus, reference, registry, root_path}
use Rattle.atspi_protocol.specs.ends.Messages.{call_to, return_to, error_to, signal_of}
use Rattle.atspi_protocol.specs.exporting.Exporter.{Happening, steps, sends, hears, deaf, Exporter, begins}
use Rattle.atspi_protocol.specs.exporting.Starting.{starts}
use Rattle.atspi_protocol.specs.exporting.Taking.{app_takes, app_edits}

-- a return and an error to its call with a serial
abbrev pub returned : ℕ → List Data → Envelope
returned serial values = record (return_to (codes ":1.1") serial values) { serial = 70; sender = Some bus }

abbrev pub failed : ℕ → Envelope
failed serial = record (error_to (codes ":1.1") serial (codes "Failed")) { serial = 70; sender = Some bus }

-- a list of pairs as a value
abbrev pub pair_data : List ℕ × List ℕ → Data
pair_data p = structure_data (items_of (text_data p.0 ∷ text_data p.1 ∷ []))

abbrev pub pairs_data : List (List ℕ × List ℕ) → Data
pairs_data ps = array_data (structure (kinds_of (text ∷ text ∷ []))) (items_of (map pair_data ps))

-- one listener's patterns: properties, and the children of nodes
abbrev pub properties : List ℕ × List ℕ
properties = (codes ":1.2", codes "object:property-change")

abbrev pub children : List ℕ × List ℕ
children = (codes ":1.2", codes "object:children-changed:add")

-- it has started; it has its name; its rule is added; it was told which patterns there are; it is embedded
abbrev pub begun : Exporter
begun = starts (begins (codes "T"))

abbrev pub greeted : Exporter
greeted = app_takes begun (returned 1 (text_data (codes ":1.1") ∷ []))

abbrev pub matched : Exporter
matched = app_takes greeted (returned 2 [])

abbrev pub listening : List (List ℕ × List ℕ) → Exporter
listening ps = app_takes matched (returned 3 (pairs_data ps ∷ []))

abbrev pub embedded : List (List ℕ × List ℕ) → Exporter
embedded ps = app_takes (listening ps) (returned 4 (reference registry root_path ∷ []))

-- the same with what is queued handed out
abbrev pub handed_out : Exporter → Exporter
handed_out s = record s { out = [] }

abbrev pub ready : List (List ℕ × List ℕ) → Exporter
ready ps = handed_out (embedded ps)

-- what happens at an edit, and at a message
abbrev pub at_edit : Exporter → Edit → List Happening
at_edit s edit = out (app_edits s edit)
  where
    out : Result Exporter EditFault → List Happening
    out (Ok t) = t.out
    out (Err fault) = []

abbrev pub at_message : Exporter → Envelope → List Happening
at_message s e = (app_takes s e).out

-- in brief: a step; a message's member and number; a pattern
pub data Brief : Type 0 where
  a_step : Step → Brief
  a_message : Option (List ℕ) → ℕ → Brief
  a_pattern : List ℕ → Brief
  no_pattern : List ℕ → Brief

abbrev pub brief : List Happening → List Brief
brief [] = []
brief (steps step ∷ hs) = a_step step ∷ brief hs
brief (sends e ∷ hs) = a_message e.member e.serial ∷ brief hs
brief (hears listener pattern ∷ hs) = a_pattern pattern ∷ brief hs
brief (deaf listener pattern ∷ hs) = no_pattern pattern ∷ brief hs

-- a call of its root by another connection
abbrev pub asks_root : List ℕ → List ℕ → List Data → Envelope
asks_root interface member body =
    record (call_to (codes ":1.1") root_path interface member body) { serial = 9; sender = Some (codes ":1.2") }

-- a signal of the registry
abbrev pub told : List ℕ → List Data → Envelope
told member body = record (signal_of (codes "/any") registry member body) { serial = 8; sender = Some (codes ":1.7") }

abbrev pub pair_texts : List ℕ × List ℕ → List Data
pair_texts p = text_data p.0 ∷ text_data p.1 ∷ []

-- a label that is to be added
abbrev pub label : Seed
label =
    record { role = 29; name = codes "x"; text = None; editable = false; columns = None; select = false; actions = [] }
