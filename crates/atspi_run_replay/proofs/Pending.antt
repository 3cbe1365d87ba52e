-- What was written of what is told, the text that is yet to be written, and what is told behind it.
use Rattle.std.proofs.Common.{◌≡◌, ℕ, ◌+◌, List, [], ◌++◌, refl, sym, ap, subst, ◌∙◌, append_assoc, append-nil, Option}
use Rattle.std.specs.Prelude.{slice_get}
use Rattle.std.specs.Io.KnownBytes.{Appends}
use Rattle.atspi_base.specs.Outside.{AppendsPart, appends_both, appends_part, part_of_more}
use Rattle.atspi_trace_events.specs.declared.event.Event.{Event}
use Rattle.atspi_trace_texts.specs.declared.options.TraceOptions.{TraceOptions}
use Rattle.atspi_world_links.specs.declared.post.Post.{Post}
use Rattle.atspi_run_replay.specs.Told.{Told, told_text}
use Rattle.atspi_run_replay.specs.inner.Told.{told_from, told_if}
use Rattle.atspi_run_replay.proofs.DoneLemmas.{appends_nothing, text_more}
use Rattle.atspi_run_replay.proofs.TellLemmas.{from_next}

pub record Pending (options : TraceOptions) (w w' : Option (List ℕ)) (text : List ℕ) (rest whole : List Told) : Type 0 where
  pub wrote : List ℕ
  pub went : Appends w w' wrote
  pub all : wrote ++ (text ++ told_text options rest) ≡ told_text options whole

pub pending_start : (options : TraceOptions) (w : Option (List ℕ)) (whole : List Told) → Pending options w w [] whole whole
pending_start options w whole = record { wrote = []; went = appends_nothing w; all = refl }

-- more is to be written
pending_more : {options : TraceOptions} {w w' : Option (List ℕ)} {text : List ℕ} {rest whole : List Told} (text' : List ℕ) (told rest' : List Told) → Pending options w w' text rest whole → rest ≡ told ++ rest'
    → text' ≡ text ++ told_text options told → Pending options w w' text' rest' whole
pending_more {options = options} {text = text} text' told rest' p split m = record {
  wrote = p.wrote;
  went = p.went;
  all =
      ap (λ t. p.wrote ++ t)
      (ap (λ t. t ++ told_text options rest') m ∙ append_assoc text (told_text options told) (told_text options rest')
      ∙ ap (λ t. text ++ t) (sym (text_more options told rest') ∙ ap (told_text options) (sym split)))
      ∙ p.all;
}

-- what is told of the event at a place is to be written
pub pending_next : {options : TraceOptions} {w w' : Option (List ℕ)} {text : List ℕ} {whole : List Told} (posts : List Post) (trace : List Event) (place : ℕ) (text' : List ℕ)
    → Pending options w w' text (told_from posts trace place) whole → text' ≡ text ++ told_text options (told_if posts trace place (slice_get trace place))
    → Pending options w w' text' (told_from posts trace (place + 1)) whole
pending_next posts trace place text' p m = pending_more text' (told_if posts trace place (slice_get trace place)) (told_from posts trace (place + 1)) p (from_next posts trace place) m

-- a front of it was written
pub pending_piece : {options : TraceOptions} {w w' : Option (List ℕ)} {text left : List ℕ} {rest whole : List Told} (w'' : Option (List ℕ)) → Pending options w w' text rest whole
    → ((wrote : List ℕ) × Appends w' w'' wrote × (wrote ++ left ≡ text)) → Pending options w w'' left rest whole
pending_piece {options = options} {w = w} {w' = w'} {left = left} {rest = rest} w'' p a = record {
  wrote = p.wrote ++ a.0;
  went = appends_both w w' w'' p.wrote a.0 p.went a.1;
  all =
      append_assoc p.wrote a.0 (left ++ told_text options rest)
      ∙ ap (λ t. p.wrote ++ t) (sym (append_assoc a.0 left (told_text options rest)) ∙ ap (λ t. t ++ told_text options rest) a.2) ∙ p.all;
}

-- all of it was written
pub pending_end : {options : TraceOptions} {w w' : Option (List ℕ)} {text : List ℕ} {rest whole : List Told} (w'' : Option (List ℕ)) → Pending options w w' text rest whole → rest ≡ [] → Appends w' w'' text
    → Appends w w'' (told_text options whole)
pending_end {options = options} {w = w} {w' = w'} {text = text} w'' p none a =
    subst (λ t. Appends w w'' t) (ap (λ t. p.wrote ++ t) (sym (append-nil text) ∙ ap (λ r. text ++ told_text options r) (sym none)) ∙ p.all)
    (appends_both w w' w'' p.wrote text p.went a)

-- a part of it was written
pub pending_part : {options : TraceOptions} {w w' : Option (List ℕ)} {text : List ℕ} {rest whole : List Told} (w'' : Option (List ℕ)) → Pending options w w' text rest whole → AppendsPart w' w'' text
    → AppendsPart w w'' (told_text options whole)
pending_part {options = options} {w = w} {w' = w'} {text = text} {rest = rest} w'' p a =
    subst (λ t. AppendsPart w w'' t) p.all (appends_part w w' w'' p.wrote (text ++ told_text options rest) p.went (part_of_more w' w'' text (told_text options rest) a))

-- nothing of it was written
pub pending_stop : {options : TraceOptions} {w w' : Option (List ℕ)} {text : List ℕ} {rest whole : List Told} → Pending options w w' text rest whole → AppendsPart w w' (told_text options whole)
pending_stop {options = options} {text = text} {rest = rest} p = (p.wrote, text ++ told_text options rest, p.all, p.went)
