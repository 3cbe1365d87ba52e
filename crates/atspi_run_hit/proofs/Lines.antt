-- A line, by its bytes.
use Rattle.std.proofs.Common.{◌≡◌, ℕ, List, Bool, true, false, cond, Option, None, Some, Result, Ok, Err, refl, sym, ap, ◌∙◌, inl, inr}
use Rattle.std.proofs.lemmas.Bool.{false≢true}
use Rattle.atspi_tree_model.specs.declared.edit.EditFault.{EditFault}
use Rattle.atspi_tree_model.specs.declared.edit.EditFault.TheVariants.{TextFull}
use Rattle.atspi_tree_model.specs.Edits.{is_long_name}
use Rattle.atspi_script_lines.specs.declared.line.LineFault.{LineFault}
use Rattle.atspi_script_lines.specs.declared.line.LineFault.TheVariants as faults
use Rattle.atspi_run_hit.specs.declared.line.HitLine.{HitLine}
use Rattle.atspi_run_hit.specs.declared.line.HitLine.TheVariants.{Nothing, App, Edit, Place, Call, Cell, Follow}
use Rattle.atspi_run_hit.specs.declared.naming.Refused as whys
use Rattle.atspi_run_hit.specs.declared.naming.Refused.TheVariants.{Long, NotUtf8, Form, Asked}
use Rattle.atspi_run_hit.specs.declared.naming.Undone.{Undone}
use Rattle.atspi_run_hit.specs.declared.naming.Undone.TheVariants.{Refused, NoMemory}
use Rattle.atspi_run_hit.specs.Words.{SpellsLine}
use Rattle.atspi_run_hit.specs.Scene.{Scene, asked_if, fault_of, refusal}
use Rattle.atspi_run_hit.specs.Run.{IsRefused}
use Rattle.atspi_run_hit.specs.inner.Reads.{ReadsHit}
use Rattle.atspi_run_hit.specs.inner.Seen.{Answers, DoesLine, MayDo, undone_of}

-- an edit that was read can be asked for
pub line_may : (l : HitLine) (bytes : List ℕ) → SpellsLine l bytes → MayDo l
line_may Nothing bytes s = tt
line_may (App name) bytes s = tt
line_may (Edit edit) bytes s = s.1.form.0
line_may (Place n r) bytes s = tt
line_may (Call n ask) bytes s = tt
line_may (Cell n i way) bytes s = tt
line_may (Follow n k) bytes s = tt

-- a line that bytes spell is refused for its form, or for what it asks
abbrev is_of_line : Option whys.Refused → Bool
is_of_line None = true
is_of_line (Some Long) = false
is_of_line (Some NotUtf8) = false
is_of_line (Some Form) = true
is_of_line (Some (Asked why)) = true

by_name : (long : Bool) → is_of_line (cond long (Some (Asked TextFull)) None) ≡ true
by_name true = refl
by_name false = refl

by_fault : (fault : Option EditFault) → is_of_line (asked_if fault) ≡ true
by_fault None = refl
by_fault (Some why) = refl

of_line : (s : Option Scene) (l : HitLine) → is_of_line (refusal s l) ≡ true
of_line None Nothing = refl
of_line None (App name) = by_name (is_long_name name)
of_line None (Edit edit) = refl
of_line None (Place n r) = refl
of_line None (Call n ask) = refl
of_line None (Cell n i way) = refl
of_line None (Follow n k) = refl
of_line (Some s) Nothing = refl
of_line (Some s) (App name) = refl
of_line (Some s) (Edit edit) = by_fault (fault_of s.tree (Edit edit))
of_line (Some s) (Place n r) = by_fault (fault_of s.tree (Place n r))
of_line (Some s) (Call n ask) = by_fault (fault_of s.tree (Call n ask))
of_line (Some s) (Cell n i way) = by_fault (fault_of s.tree (Cell n i way))
of_line (Some s) (Follow n k) = by_fault (fault_of s.tree (Follow n k))

refused_by : (l : HitLine) (bytes : List ℕ) (s : Option Scene) (why : whys.Refused) → SpellsLine l bytes → refusal s l ≡ Some why → IsRefused s bytes why
refused_by l bytes s Long p h = absurd (false≢true (sym (ap is_of_line h) ∙ of_line s l))
refused_by l bytes s NotUtf8 p h = absurd (false≢true (sym (ap is_of_line h) ∙ of_line s l))
refused_by l bytes s Form p h = inr (l, p, h)
refused_by l bytes s (Asked why) p h = (l, p, h)

-- the line that bytes spell, done or refused
pub does_line : {A : Type 0} (r : Result A Undone) (l : HitLine) (bytes : List ℕ) (old new : Option Scene) (told : List ℕ) → SpellsLine l bytes → Answers r old l new told → DoesLine r old bytes new told
does_line (Ok x) l bytes old new told s h = record { line = l; spelled = s; accepted = h.0; made = h.1; tells = h.2 }
does_line (Err (Refused why)) l bytes old new told s h = refused_by l bytes old why s h
does_line (Err NoMemory) l bytes old new told s h = tt

-- bytes that spell none
pub no_line : (fault : LineFault) (bytes : List ℕ) (old new : Option Scene) (told : List ℕ) → ReadsHit (Err fault) bytes → DoesLine {A = Unit {0}} (Err (undone_of fault)) old bytes new told
no_line faults.Long bytes old new told h = h
no_line faults.NotUtf8 bytes old new told h = h
no_line faults.Form bytes old new told h = inl h
no_line faults.NoMemory bytes old new told h = tt
