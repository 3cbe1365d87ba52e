-- How rows are written alone, as a trace has them behind the names of a reader and of an application.
pub use Rattle.atspi_trace_texts.specs.EventText.{rows_text}
