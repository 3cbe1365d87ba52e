-- Why a live application does no further line.
use Rattle.std.proofs.Common.{◌≡◌, ℕ, ◌+◌, ◌<◌, List, [], ◌∷◌, ◌++◌, Option, None, refl, sym, ap, subst, ◌∙◌, inl, inr}
use Rattle.std.specs.Prelude.{Ok, Err}
use Rattle.atspi_message.specs.Envelope.{Envelope}
use Rattle.atspi_script_lines.specs.declared.line.LineFault.{LineFault}
use Rattle.atspi_script_lines.specs.declared.line.LineFault.TheVariants as faults
use Rattle.atspi_protocol.specs.exporting.Exporter.{Exporter}
use Rattle.atspi_live_app.specs.Asking.{IsAsk}
use Rattle.atspi_live_app.specs.Input.{left_in}
use Rattle.atspi_live_app.specs.inner.Input.{Passes}
use Rattle.atspi_live_app.specs.Lines.{lines_of}
use Rattle.atspi_live_app.specs.Standing.{IsNumbered, IsRefused, Makes, RefusedNext, lines_in}
use Rattle.atspi_live_app.specs.Live.{IsMarked, IsStopped, IsUndone, Stands, seen}
use Rattle.atspi_live_app.specs.inner.Stops.{stop_of_line, stop_of_undone}
use Rattle.atspi_live_app.specs.declared.asking.Ask.{Ask}
use Rattle.atspi_live_app.specs.declared.doing.Undone.{Undone}
use Rattle.atspi_live_app.specs.declared.doing.Undone.TheVariants as undone
use Rattle.atspi_live_app.specs.declared.naming.Refused.{Refused}
use Rattle.atspi_live_app.specs.declared.naming.Refused.TheVariants as refused
use Rattle.atspi_live_app.specs.declared.live_app.Stop.TheVariants as stops
use Rattle.atspi_live_app.proofs.Making.{may_not_whole, none_handed, numbered_whole, refused_whole, spent_whole}
use Rattle.atspi_live_app.proofs.Stood.{number_next}

-- the next line is refused
refused_at : {A K : Type 0} (is_app : A → Type 0) (exporter : A → Exporter) (is_kit : K → Type 0) (text marks : List ℕ) (app : Option A) (kit : Option K) (held : List ℕ) (at number number' : ℕ) (left : List (List ℕ)) (why : Refused) (took said : List Envelope)
    → (number + 1 < 18446744073709551616 → number' ≡ number + 1) → left_in held at ≡ left → (f : Stands is_app exporter is_kit text marks app kit held at number took said) → RefusedNext f.whole left why → IsRefused (IsMarked marks) (lines_of text) took number' why
refused_at is_app exporter is_kit text marks app kit held at number number' left why took said count first f next = record {
  history = f.history;
  left = left;
  order = f.marked;
  all = ap (λ (x : List (List ℕ)). lines_in f.history ++ x) (sym (subst (λ (x : List ℕ). left_in x at ≡ left) f.same first)) ∙ f.all;
  taken = f.taken;
  whole = f.whole;
  makes = f.makes;
  numbered = numbered_whole said (seen exporter app) f.whole f.handed f.numbered;
  next = next;
  counted = count (number_next is_app exporter is_kit text marks app kit held at number took said f) ∙ ap (λ (n : ℕ). n + 1) f.counted;
}

-- it asks for nothing
pub stopped_line : {A K : Type 0} (is_app : A → Type 0) (exporter : A → Exporter) (is_kit : K → Type 0) (text marks : List ℕ) (app : Option A) (kit : Option K) (held : List ℕ) (at number at' number' : ℕ) (fault : LineFault) (took said : List Envelope)
    → Passes (Err fault) held at number at' number' → Stands is_app exporter is_kit text marks app kit held at number took said → IsStopped (IsMarked marks) (stop_of_line fault number') (lines_of text) took
stopped_line is_app exporter is_kit text marks app kit held at number at' number' faults.Long took said p f =
    refused_at is_app exporter is_kit text marks app kit held at number number' (p.line ∷ left_in held at') refused.Long took said p.counted p.first f p.asks
stopped_line is_app exporter is_kit text marks app kit held at number at' number' faults.NotUtf8 took said p f =
    refused_at is_app exporter is_kit text marks app kit held at number number' (p.line ∷ left_in held at') refused.NotUtf8 took said p.counted p.first f p.asks
stopped_line is_app exporter is_kit text marks app kit held at number at' number' faults.Form took said p f =
    refused_at is_app exporter is_kit text marks app kit held at number number' (p.line ∷ left_in held at') refused.Form took said p.counted p.first f (inl p.asks)
stopped_line is_app exporter is_kit text marks app kit held at number at' number' faults.NoMemory took said p f = tt

-- what it asks for is not done
pub stopped_undone : {A K : Type 0} (is_app : A → Type 0) (exporter : A → Exporter) (is_kit : K → Type 0) (text marks : List ℕ) (app : Option A) (kit : Option K) (held : List ℕ) (at number at' number' : ℕ) (why : Undone) (what : Ask) (took said : List Envelope)
    → Passes (Ok what) held at number at' number' → IsUndone why (seen exporter app) what → Stands is_app exporter is_kit text marks app kit held at number took said → IsStopped (IsMarked marks) (stop_of_undone why number') (lines_of text) took
stopped_undone is_app exporter is_kit text marks app kit held at number at' number' undone.Form what took said p u f =
    refused_at is_app exporter is_kit text marks app kit held at number number' (p.line ∷ left_in held at') refused.Form took said p.counted p.first f
    (inr (what, p.asks, may_not_whole said what (seen exporter app) f.whole f.handed u))
stopped_undone is_app exporter is_kit text marks app kit held at number at' number' (undone.Refused why) what took said p u f =
    refused_at is_app exporter is_kit text marks app kit held at number number' (p.line ∷ left_in held at') (refused.Edit why) took said p.counted p.first f
    (what, p.asks, refused_whole said what why (seen exporter app) f.whole f.handed u)
stopped_undone is_app exporter is_kit text marks app kit held at number at' number' undone.Spent what took said p u f =
    let s = spent_whole said what (seen exporter app) f.whole f.handed u in
    record {
      history = f.history;
      line = p.line;
      left = left_in text at';
      order = f.marked;
      all = ap (λ (x : List (List ℕ)). lines_in f.history ++ x) (sym (subst (λ (x : List ℕ). left_in x at ≡ p.line ∷ left_in x at') f.same p.first)) ∙ f.all;
      taken = f.taken;
      whole = s.started;
      makes = subst (λ (x : Option Exporter). Makes None f.history x) s.is f.makes;
      numbered = subst (λ (x : Option Exporter). IsNumbered x) s.is (numbered_whole said (seen exporter app) f.whole f.handed f.numbered);
      edit = s.edit;
      asks = subst (λ (x : Ask). IsAsk x p.line) s.asks p.asks;
      spent = s.spent;
    }
stopped_undone is_app exporter is_kit text marks app kit held at number at' number' undone.NoMemory what took said p u f = tt

-- no line is left, and none asked for an application
pub stopped_none : {A K : Type 0} (is_app : A → Type 0) (exporter : A → Exporter) (is_kit : K → Type 0) (text marks : List ℕ) (kit : Option K) (held : List ℕ) (at number number' : ℕ) (took said : List Envelope)
    → (number + 1 < 18446744073709551616 → number' ≡ number + 1) → left_in held at ≡ [] → Stands is_app exporter is_kit text marks None kit held at number took said → IsStopped (IsMarked marks) (stops.Refused number' refused.Form) (lines_of text) took
stopped_none is_app exporter is_kit text marks kit held at number number' took said count none f =
    refused_at is_app exporter is_kit text marks None kit held at number number' [] refused.Form took said count none f (none_handed said f.whole f.handed, refl)
