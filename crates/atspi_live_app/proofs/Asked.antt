-- What reading a line of an input answers, by what reading it as a line of a script answers.
use Rattle.std.proofs.Common.{◌≡◌, ℕ, List, ◌++◌, Option, Some, None, refl, sym, ap, subst, ◌∙◌}
use Rattle.std.specs.Prelude.{Result, Ok, Err, codes}
use Rattle.atspi_tree_model.specs.declared.edit.Edit.{Edit}
use Rattle.atspi_script_lines.specs.declared.line.Line.{Line}
use Rattle.atspi_script_lines.specs.declared.line.Line.TheVariants as line
use Rattle.atspi_script_lines.specs.declared.line.LineFault.{LineFault}
use Rattle.atspi_script_lines.specs.declared.line.LineFault.TheVariants as faults
use Rattle.atspi_script_lines.specs.Line.{ReadsLine, Spells}
use Rattle.atspi_script_lines.proofs.OnceLemmas.{one_reading}
use Rattle.atspi_live_app.specs.Asking.{IsAsk, IsEditLine}
use Rattle.atspi_live_app.specs.inner.Asking.{AsksFor, OtherIn, edit_in, plain_in}
use Rattle.atspi_live_app.specs.declared.asking.Ask.{Ask}
use Rattle.atspi_live_app.specs.declared.asking.Ask.TheVariants as ask

some_is : {A : Type 0} (a b : A) → Some a ≡ Some b → a ≡ b
some_is a b e = cc

none_some : {A : Type 0} (a : A) → None ≡ Some a → ⊥
none_some a e = cc

-- an edit line
pub edit_found : (l : Line) (edit : Edit) (bytes : List ℕ) → edit_in l ≡ Some edit → Spells l (codes "edit a0 " ++ bytes) → IsEditLine edit bytes
edit_found (line.Edit app what) edit bytes e s = (app, subst (λ (x : Edit). Spells (line.Edit app x) (codes "edit a0 " ++ bytes)) (some_is what edit e) s)
edit_found line.Blank edit bytes e s = absurd (none_some edit e)
edit_found (line.Quota quota) edit bytes e s = absurd (none_some edit e)
edit_found (line.App name) edit bytes e s = absurd (none_some edit e)
edit_found line.Reader edit bytes e s = absurd (none_some edit e)
edit_found (line.Call reader app node deed) edit bytes e s = absurd (none_some edit e)
edit_found (line.Swap app) edit bytes e s = absurd (none_some edit e)
edit_found (line.Exit app) edit bytes e s = absurd (none_some edit e)
edit_found (line.Leave reader) edit bytes e s = absurd (none_some edit e)
edit_found (line.Bytes party up count) edit bytes e s = absurd (none_some edit e)
edit_found (line.Turns count) edit bytes e s = absurd (none_some edit e)
edit_found line.Drain edit bytes e s = absurd (none_some edit e)
edit_found (line.Show reader app) edit bytes e s = absurd (none_some edit e)

pub no_edit : (l : Line) (bytes : List ℕ) → edit_in l ≡ None → Spells l (codes "edit a0 " ++ bytes) → (edit : Edit) → IsEditLine edit bytes → ⊥
no_edit l bytes e s edit h = none_some edit (sym e ∙ ap edit_in (one_reading (codes "edit a0 " ++ bytes) l (line.Edit h.0 edit) s h.1))

-- a line that is empty, or a start
pub plain_found : (l : Line) (what : Ask) (bytes : List ℕ) → plain_in l ≡ Some what → Spells l bytes → IsAsk what bytes
plain_found line.Blank what bytes e s = subst (λ (x : Ask). IsAsk x bytes) (some_is ask.Nothing what e) s
plain_found (line.App name) what bytes e s = subst (λ (x : Ask). IsAsk x bytes) (some_is (ask.Start name) what e) s
plain_found (line.Edit app edit) what bytes e s = absurd (none_some what e)
plain_found (line.Quota quota) what bytes e s = absurd (none_some what e)
plain_found line.Reader what bytes e s = absurd (none_some what e)
plain_found (line.Call reader app node deed) what bytes e s = absurd (none_some what e)
plain_found (line.Swap app) what bytes e s = absurd (none_some what e)
plain_found (line.Exit app) what bytes e s = absurd (none_some what e)
plain_found (line.Leave reader) what bytes e s = absurd (none_some what e)
plain_found (line.Bytes party up count) what bytes e s = absurd (none_some what e)
plain_found (line.Turns count) what bytes e s = absurd (none_some what e)
plain_found line.Drain what bytes e s = absurd (none_some what e)
plain_found (line.Show reader app) what bytes e s = absurd (none_some what e)

-- where no such line stands
abbrev NoPlain : List ℕ → Type 0
NoPlain bytes = (l : Line) (what : Ask) → plain_in l ≡ Some what → Spells l bytes → ⊥

other_is : (r : Result Ask LineFault) (bytes : List ℕ) → NoPlain bytes → OtherIn r bytes → AsksFor r bytes
other_is (Ok what) bytes none h = h
other_is (Err faults.Long) bytes none h = absurd h
other_is (Err faults.NotUtf8) bytes none h = absurd h
other_is (Err faults.NoMemory) bytes none h = tt
other_is (Err faults.Form) bytes none h = by
  where
    by : (what : Ask) → IsAsk what bytes → ⊥
    by ask.Nothing s = none line.Blank ask.Nothing refl s
    by (ask.Start name) s = none (line.App name) (ask.Start name) refl s
    by (ask.Edit edit) s = h.0 edit s
    by (ask.Wait rounds) s = h.1 rounds s

pub other_line : (l : Line) (r : Result Ask LineFault) (bytes : List ℕ) → plain_in l ≡ None → Spells l bytes → OtherIn r bytes → AsksFor r bytes
other_line l r bytes e s h = other_is r bytes (λ k what p t. none_some what (sym e ∙ ap plain_in (one_reading bytes l k s t) ∙ p)) h

pub no_line : (r : Result Ask LineFault) (bytes : List ℕ) → ReadsLine (Err faults.Form) bytes → OtherIn r bytes → AsksFor r bytes
no_line r bytes n h = other_is r bytes (λ k what p t. n.2 k t.form) h

-- the same, by what a match found
pub other_if : (l : Line) (o : Option Ask) (r : Result Ask LineFault) (bytes : List ℕ) → o ≡ plain_in l → o ≡ None → Spells l bytes → OtherIn r bytes → AsksFor r bytes
other_if l o r bytes is none s h = other_line l r bytes (sym is ∙ none) s h

pub no_line_if : (fault : LineFault) (r : Result Ask LineFault) (bytes : List ℕ) → fault ≡ faults.Form → ReadsLine (Err fault) bytes → OtherIn r bytes → AsksFor r bytes
no_line_if fault r bytes e n h = no_line r bytes (subst (λ (x : LineFault). ReadsLine (Err x) bytes) e n) h

pub no_edit_if : (fault : LineFault) (bytes whole : List ℕ) → fault ≡ faults.Form → whole ≡ codes "edit a0 " ++ bytes → ReadsLine (Err fault) whole → (edit : Edit) → IsEditLine edit bytes → ⊥
no_edit_if fault bytes whole e is n edit h =
    let form : ReadsLine (Err faults.Form) (codes "edit a0 " ++ bytes) = subst (λ (w : List ℕ). ReadsLine (Err faults.Form) w) is (subst (λ (x : LineFault). ReadsLine (Err x) whole) e n) in
    form.2 (line.Edit h.0 edit) h.1.form
