-- Which parts were refused, by the paths of their rows.
use Rattle.std.specs.Prelude.{◌≡◌, ℕ, ◌≤◌, ◌<◌, nat_le, Bool, false, cond, ◌&&◌, ◌||◌, List, [], ◌∷◌, Option, Some}
use Rattle.std.specs.Prelude.{None, IfSome, bytes_eq}
use Rattle.std.specs.BTreeSet.{contains_text}
use Rattle.atspi_protocol.specs.declared.news.part.PartName.{PartName}
use Rattle.atspi_protocol.specs.declared.news.part.PartName.TheVariants.{Text, Caret, Columns}
use Rattle.atspi_protocol.specs.following.Wishes.{is_refused, of_others, same_part}
use Rattle.atspi_reader_known.specs.declared.refused.Entry.{Entry}
use Rattle.atspi_reader_known.specs.declared.refused.Parts.{Parts}

-- whether the path is among those of the part
abbrev pub has_part : Parts → List ℕ → PartName → Bool
has_part parts path Text = contains_text parts.texts path
has_part parts path Caret = contains_text parts.carets path
has_part parts path Columns = contains_text parts.columns path

-- the sets have what a list has
abbrev pub AreSame : Parts → List (List ℕ × PartName) → Type 0
AreSame parts refused = (path : List ℕ) (part : PartName) → has_part parts path part ≡ is_refused refused path part

-- one more part of a path
abbrev pub Puts : Parts → Parts → List ℕ → PartName → Type 0
Puts old new path part = (q : List ℕ) (p : PartName)
    → has_part new q p ≡ (has_part old q p || (bytes_eq path q && same_part part p))

-- Of a list of parts that were refused, those that count: of each path from a number on, of some of no number.
abbrev pub counts : Option ℕ → ℕ → Bool
counts None at = false
counts (Some since) at = nat_le since at

-- a place, or another one where there is none
abbrev pub or_place : Option ℕ → ℕ → Option ℕ
or_place None other = Some other
or_place (Some place) other = Some place

abbrev pub counting : (List ℕ → Option ℕ) → List Entry → List (List ℕ × PartName)
counting since [] = []
counting since (e ∷ es) =
    cond (counts (since e.path) e.number) ((e.path, e.part) ∷ counting since es) (counting since es)

-- no number is behind the next one; each that was given is before it
abbrev pub AreWithin : (List ℕ → Option ℕ) → ℕ → Type 0
AreWithin since next = (path : List ℕ) → IfSome (since path) (λ number. number ≤ next)

abbrev pub AreBelow : List Entry → ℕ → Type 0
AreBelow [] next = Unit {0}
AreBelow (e ∷ es) next = (e.number < next) × AreBelow es next

-- no part of a path is in the sets any more
abbrev pub Clears : Parts → Parts → List ℕ → Type 0
Clears old new path = (q : List ℕ) (p : PartName) → has_part new q p ≡ cond (bytes_eq path q) false (has_part old q p)

-- those that stay refused where the parts of a path, or of none, are forgotten
abbrev pub without : Option (List ℕ) → List (List ℕ × PartName) → List (List ℕ × PartName)
without None refused = refused
without (Some path) refused = of_others path refused
