-- Verdicts on texts of a script without lines, or whose first text spells none.
use Rattle.std.proofs.Common.{◌≡◌, ℕ, List, [], ◌∷◌, ◌++◌, Option, None, Some, refl, sym, ◌∙◌, inl, inr}
use Rattle.atspi_script_lines.specs.declared.line.LineFault.{LineFault}
use Rattle.atspi_script_lines.specs.declared.line.Party.TheVariants.{Bus, Registry, App, Reader}
use Rattle.atspi_trace.specs.Entry.{Entry, started, changed, sent, got, heard, unheard, spoke, showed, exited, gone, dropped, busy, quiet}
use Rattle.atspi_trace.specs.Due.{Scene, begins}
use Rattle.atspi_trace_events.specs.declared.event.Event.{Event}
use Rattle.atspi_audit_due.specs.Fits.{EachFits, Fits, FitsIn, IsFree, MayEnd}
use Rattle.atspi_audit_due.specs.Verdicts.{AreLines, Finding, IsFound, IsVerdict}

-- nobody is free to send a call where nobody just took a message
nobody : {A : Type 0} (a : A) (o : Option A) → o ≡ None → o ≡ Some a → ⊥
nobody a o e f = let h : None ≡ Some a = sym e ∙ f in cc

not_free : (s : Scene) (entry : Entry) → s.free ≡ None → IsFree s entry → ⊥
not_free s (sent (Reader r) e) none k = nobody k.conn s.free none k.free
not_free s (sent Bus e) none k = k
not_free s (sent Registry e) none k = k
not_free s (sent (App a) e) none k = k
not_free s (started who name) none k = k
not_free s (changed app step) none k = k
not_free s (got taker sender serial) none k = k
not_free s (heard app listener pattern) none k = k
not_free s (unheard app listener pattern) none k = k
not_free s (spoke reader app line) none k = k
not_free s (showed reader app rows) none k = k
not_free s (exited who) none k = k
not_free s (gone reader app) none k = k
not_free s (dropped who queued len) none k = k
not_free s (busy turns) none k = k
not_free s quiet none k = k

-- of no lines nothing is due
nothing_fits : (entry : Entry) → Fits [] [] entry → ⊥
nothing_fits entry (inl k) = nobody entry None refl k.next
nothing_fits entry (inr k) = not_free (begins []) entry refl k

pub ends : MayEnd [] []
ends = inl (record { no_line_left = refl; all_rest = ((tt, tt), tt) })

none_before : EachFits [] []
none_before [] entry behind e = cc
none_before (b ∷ before) entry behind e = cc

pub small : (texts : List (List ℕ)) (fault : Option LineFault) (text : List ℕ) (found : Finding) → AreLines texts [] fault → IsFound [] fault [] text found → IsVerdict texts text found
small texts fault text found script is = record {
  lines = [];
  fault = fault;
  script = script;
  events = [];
  rest = text;
  begins = record { can_be = tt; fits = none_before; front = refl };
  stops = λ event more can_be fits front. nothing_fits _ fits;
  is_found = is;
}
