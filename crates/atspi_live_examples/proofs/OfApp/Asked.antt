-- Lines that ask for something, spelled out.
use Rattle.std.proofs.Common.{◌≡◌, ℕ, List, [], ◌∷◌, ◌++◌, refl, sym, ap, subst, ◌∙◌, arith, rules, IsUtf8, None, Some}
use Rattle.std.specs.Prelude.{codes}
use Rattle.std.specs.Fmt.{digits}
use Rattle.atspi_tree_model.specs.declared.edit.Edit.TheVariants.{Focus}
use Rattle.atspi_script_lines.specs.Line.{Spells}
use Rattle.atspi_script_lines.specs.Words.{Leads, SpellsWords, app_name, literal, number, quote}
use Rattle.atspi_script_lines.specs.declared.line.Line.TheVariants.{App, Blank, Edit}
use Rattle.atspi_script_lines.proofs.LeadLemmas.{lead_cut}
use Rattle.atspi_protocol.specs.exporting.Exporter.{Exporter, begins}
use Rattle.atspi_protocol.specs.exporting.Starting.{starts}
use Rattle.atspi_live_app.specs.Standing.{Comes, does}
use Rattle.atspi_live_app.specs.declared.asking.Ask.TheVariants as asks
use Rattle.atspi_live_examples.specs.app.Lines.{named}

-- the first bytes of equal lists are equal
pub first_is : {x y : ℕ} {xs ys : List ℕ} → x ∷ xs ≡ y ∷ ys → x ≡ y
first_is h = cc

empty_utf8 : IsUtf8 []
empty_utf8 = ([], (refl, refl))

comment_utf8 : IsUtf8 (codes "# x")
unfolding lib.Utf8.encode
comment_utf8 = (codes "# x", (refl, refl))

named_utf8 : IsUtf8 named
unfolding lib.Utf8.encode
named_utf8 = (named, (refl, refl))

edit_utf8 : IsUtf8 (codes "edit a0 focus 5")
unfolding lib.Utf8.encode
edit_utf8 = (codes "edit a0 focus 5", (refl, refl))

pub empty : Spells Blank []
empty = record { short = omega arith; utf8 = empty_utf8; form = tt }

pub comment : Spells Blank (codes "# x")
comment = record { short = omega arith; utf8 = comment_utf8; form = refl }

-- `app`, and the name
named_words : SpellsWords (literal (codes "app") ∷ quote (codes "T") ∷ []) (32 ∷ named)
unfolding lib.Utf8.encode
named_words = (
  codes " " ++ 34 ∷ (codes "T" ++ 34 ∷ []),
  record { spelling = codes "app"; spelled = refl; front = refl; behind = refl },
  (
    [],
    record { spelling = 34 ∷ (codes "T" ++ 34 ∷ []); spelled = (record { scalars = refl; no_zero = search rules; counted = omega arith }, refl); front = refl; behind = tt },
    refl,
  ),
)

pub start : Spells (App (codes "T")) named
start = record { short = omega arith; utf8 = named_utf8; form = named_words }

-- `edit`, the application, and the words of the edit
number_is : Leads (number 5) [] (codes " 5")
unfolding digits
number_is = record { spelling = codes "5"; spelled = (omega arith, refl); front = refl; behind = tt }

app_is : (rest : List ℕ) → Leads (app_name 0) (32 ∷ rest) (codes " a0" ++ 32 ∷ rest)
unfolding digits
app_is rest = record { spelling = codes "a0"; spelled = (omega arith, refl); front = refl; behind = refl }

edit_words : SpellsWords (literal (codes "edit") ∷ app_name 0 ∷ literal (codes "focus") ∷ number 5 ∷ []) (codes " edit a0 focus 5")
edit_words = (
  codes " a0 focus 5",
  record { spelling = codes "edit"; spelled = refl; front = refl; behind = refl },
  (codes " focus 5", app_is (codes "focus 5"), (codes " 5", record { spelling = codes "focus"; spelled = refl; front = refl; behind = refl }, ([], number_is, refl))),
)

pub focus : Spells (Edit 0 (Focus 5)) (codes "edit a0 focus 5")
focus = record { short = omega arith; utf8 = edit_utf8; form = (tt, edit_words) }

-- what stands behind a word that is known
behind_literal : (word rest bytes : List ℕ) → Leads (literal word) rest bytes → bytes ≡ 32 ∷ (word ++ rest)
behind_literal word rest bytes l = l.front ∙ ap (λ (w : List ℕ). 32 ∷ (w ++ rest)) l.spelled

-- an edit behind the words that it has in a script is none
pub not_whole : (app : ℕ) → SpellsWords (literal (codes "edit") ∷ app_name app ∷ literal (codes "focus") ∷ number 5 ∷ []) (codes " edit a0 edit a0 focus 5") → ⊥
not_whole app w =
    let second = first w.0 (behind_literal (codes "edit") w.0 (codes " edit a0 edit a0 focus 5") w.1) in
    let cut = lead_cut (app_name app) (app_name 0) w.2.0 (codes " edit a0 focus 5") w.0 tt tt w.2.1 (subst (λ (bytes : List ℕ). Leads (app_name 0) (codes " edit a0 focus 5") bytes) (sym second) (app_is (codes "edit a0 focus 5"))) in
    third w.2.2.0 (sym cut.1 ∙ behind_literal (codes "focus") w.2.2.0 w.2.0 w.2.2.1)
  where
    behind_space : {xs ys : List ℕ} → 32 ∷ xs ≡ 32 ∷ ys → xs ≡ ys
    behind_space h = cc

    first : (rest : List ℕ) → codes " edit a0 edit a0 focus 5" ≡ 32 ∷ (codes "edit" ++ rest) → rest ≡ codes " a0 edit a0 focus 5"
    first rest h = cc

    apart : ◌≡◌ {A = ℕ} 101 102 → ⊥
    apart h = omega (arith, h)

    third : (rest : List ℕ) → codes " edit a0 focus 5" ≡ 32 ∷ (codes "focus" ++ rest) → ⊥
    third rest h = apart (first_is (behind_space h))

-- two applications that are there are the same where they stand for the same
pub some_is : {s t : Exporter} → Some s ≡ Some t → s ≡ t
some_is h = cc

-- one that has called the bus is another than before
pub next_is : Some (begins (codes "T")) ≡ Some (starts (begins (codes "T"))) → ⊥
next_is h = omega (arith, ap (λ (s : Exporter). s.next) (some_is h))

-- the line that starts it
pub started : Comes None (does named) (Some (starts (begins (codes "T"))))
unfolding lib.Utf8.encode
started = (asks.Start (codes "T"), start, (omega arith, refl))

-- a wait is no empty line and no comment
pub not_blank : Spells Blank (codes "wait 2") → ⊥
not_blank s = by s.form
  where
    by : ◌≡◌ {A = ℕ} 119 35 → ⊥
    by h = omega (arith, h)
