-- What follows an end's exit, and who tells of it.
use Rattle.std.specs.Prelude.{◌≡◌, ℕ, List, ◌∷◌, ◌++◌, None}
use Rattle.std.specs.List.{AllByRecursion}
use Rattle.atspi_script_lines.specs.declared.line.Party.TheVariants.{App, Reader}
use Rattle.atspi_trace.specs.Entry.{Entry, got, gone}
use Rattle.atspi_trace_laws.specs.laws.Words.{held}
use Rattle.atspi_trace_laws.specs.laws.NineLaws.{Everywhere, LawOfExits}
use Rattle.atspi_trace_laws.specs.order.Laws.{OfEachTrace}
use Rattle.atspi_trace_laws.specs.heard.Laws.{OfEachDone}

-- THE LAW OF EXITS
abbrev pub ExitsHold : Type 0
ExitsHold = OfEachDone LawOfExits

-- nothing of an application comes to a reader that told its end
abbrev pub IsNotEndOf : ℕ → ℕ → Entry → Type 0
IsNotEndOf reader app (gone r a) = r ≡ reader → a ≡ app → ⊥
IsNotEndOf reader app entry = Unit {0}

abbrev pub ComesBeforeEnd : List Entry → Entry → List Entry → Type 0
ComesBeforeEnd before (got (Reader r) (App a) serial) behind = AllByRecursion (IsNotEndOf r a) before
ComesBeforeEnd before entry behind = Unit {0}

abbrev pub NothingComesBehindAnEnd : Type 0
NothingComesBehindAnEnd = OfEachTrace (Everywhere ComesBeforeEnd)

-- so it holds nothing of it from there on
abbrev pub HoldsNoMore : List Entry → Entry → List Entry → Type 0
HoldsNoMore before (gone r a) behind = (front rest : List Entry) → behind ≡ front ++ rest
    → held (before ++ gone r a ∷ front) r a ≡ None
HoldsNoMore before entry behind = Unit {0}

abbrev pub NothingIsHeldBehindAnEnd : Type 0
NothingIsHeldBehindAnEnd = OfEachTrace (Everywhere HoldsNoMore)
