-- What an end refuses of what its user asks for, and what of it spends serials.
use Rattle.std.specs.Prelude.{◌≡◌, ℕ, List, Option, None, Some, Ok, slice_get}
use Rattle.atspi_tree_model.specs.declared.edit.Edit.{Edit}
use Rattle.atspi_protocol.specs.exporting.Exporter.{Exporter}
use Rattle.atspi_protocol.specs.following.ReaderState.{ReaderState}
use Rattle.atspi_trace.specs.World.{an_application}
use Rattle.atspi_trace.specs.Work as work
use Rattle.atspi_trace.specs.Work.{edit_refusal}
use Rattle.atspi_trace.specs.play.Playing.{held_by}
use Rattle.atspi_trace.specs.play.Played.{if_viewed}
use Rattle.atspi_script_lines.specs.declared.deed.Deed.{Deed}
use Rattle.atspi_protocol.specs.exporting.Taking.{app_edits}
use Rattle.atspi_protocol.specs.following.Takes.{reader_calls}
use Rattle.atspi_trace.specs.play.Breaking.{IsPast}

-- why one of the applications refuses an edit of its user, none where it makes it
abbrev pub EditIsRefused : Option work.Refusal → List Exporter → ℕ → Edit → Type 0
EditIsRefused why apps a edit = (s : Exporter) → slice_get apps a ≡ Some s → edit_refusal edit (an_application s) ≡ why

-- and why one of the readers refuses a call of an application that has this name
abbrev pub CallIsRefused : Option work.Refusal → List ReaderState → ℕ → Option (List ℕ) → Type 0
CallIsRefused why readers r callee = (s : ReaderState) → slice_get readers r ≡ Some s
    → if_viewed (held_by (Some s) callee) ≡ why

-- an edit that one of the applications makes spends its serials
pub record IsEditSpent (s : Exporter) (edit : Edit) : Type 0 where
  pub state : Exporter
  pub edited : app_edits s edit ≡ Ok state
  pub spent : IsPast state.next

abbrev pub EditSpends : List Exporter → ℕ → Edit → Type 0
EditSpends apps a edit = (s : Exporter) → slice_get apps a ≡ Some s → IsEditSpent s edit

-- a call that one of the readers sends, of an application that it holds by its name, spends that reader's
pub record IsCallSpent (s : ReaderState) (callee : Option (List ℕ)) (node : ℕ) (deed : Deed) : Type 0 where
  pub name : List ℕ
  pub named : callee ≡ Some name
  pub held : if_viewed (held_by (Some s) callee) ≡ None
  pub spent : IsPast (reader_calls s name node deed).next

abbrev pub CallSpends : List ReaderState → ℕ → Option (List ℕ) → ℕ → Deed → Type 0
CallSpends readers r callee node deed = (s : ReaderState) → slice_get readers r ≡ Some s
    → IsCallSpent s callee node deed
