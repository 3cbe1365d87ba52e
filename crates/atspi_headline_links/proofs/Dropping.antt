-- WHO IS NOT HERE ANY MORE behind a message that the bus took of it was dropped, and that is told.
use Rattle.std.proofs.Common.{◌≡◌, ℕ, Bool, true, false, List, [], ◌∷◌, ◌++◌, Option, Some, refl, sym, ap, ap₂, ◌∙◌, subst}
use Rattle.std.specs.Prelude.{◌&&◌, ◌||◌, not}
use Rattle.std.specs.List.{AllByRecursion, list_any}
use Rattle.atspi_script_lines.specs.declared.line.Party.{Party}
use Rattle.atspi_script_lines.specs.declared.line.Party.TheVariants.{Registry}
use Rattle.atspi_trace.specs.Entry.{Entry}
use Rattle.atspi_trace.specs.World.{here, End, World}
use Rattle.atspi_trace.specs.Ends.{same_party, end_at}
use Rattle.atspi_trace.specs.Carrying as carrying
use Rattle.atspi_trace.specs.Causes.{Done}
use Rattle.atspi_headline.specs.Words.{Act, entries_in}
use Rattle.atspi_headline.specs.Headline.{is_drop_of}
use Rattle.atspi_trace_laws.specs.laws.Words.{starts_it, stops_it, is_live}
use Rattle.atspi_trace_laws.proofs.OfOrder.Parties.{same_some, false_true}
use Rattle.atspi_trace_laws.proofs.OfOrder.Growing.{Shaped, Nothing, And}
use Rattle.atspi_trace_laws.proofs.OfOrder.Told.{Tells}
use Rattle.atspi_trace_laws.proofs.OfOrder.Exits.{Exited}
use Rattle.atspi_trace_laws.proofs.OfOrder.Acts.{IsActive}
use Rattle.atspi_trace_laws.proofs.OfOrder.Lives.{Started, here_lives, starts_keep}
use Rattle.atspi_trace_laws.proofs.OfOrder.Effects.{BusTakes}
use Rattle.atspi_trace_laws.proofs.OfLinks.LawLinks.{no_bus}
use Rattle.atspi_trace_laws.proofs.OfQuiet.Here.{Present, LiveHere, present_keeps}
use Rattle.atspi_headline_laws.proofs.Making.{entries_more}
use Rattle.atspi_headline_laws.proofs.Reading.{same_who}
use Rattle.atspi_headline_laws.proofs.Sorting.{BusSorts, of_bus_all}
use Rattle.atspi_headline_laws.proofs.Growing.{Front}
use Rattle.atspi_headline_laws.proofs.Handing.{shape}
use Rattle.atspi_headline_links.proofs.Known.{any_both}

live_by : (a s more t u : Bool) → ((a || s) && not t) ≡ true → u ≡ false → ((a || (s || more)) && not (t || u)) ≡ true
live_by true s more false false h g = refl
live_by true s more true u h g = absurd (false_true h)
live_by true s more false true h g = absurd (false_true (sym g))
live_by false true more false false h g = refl
live_by false true more true u h g = absurd (false_true h)
live_by false true more false true h g = absurd (false_true (sym g))
live_by false false more t u h g = absurd (false_true h)

live_on : (es ys : List Entry) (who : Party) → is_live es who ≡ true → list_any (stops_it who) ys ≡ false → is_live (es ++ ys) who ≡ true
live_on es ys who h none =
    ap₂ (λ s t. (same_party who Registry || s) && not t) (any_both (starts_it who) es ys) (any_both (stops_it who) es ys)
    ∙ live_by (same_party who Registry) (list_any (starts_it who) es) (list_any (starts_it who) ys) (list_any (stops_it who) es) (list_any (stops_it who) ys) h none

-- what the bus writes tells of stops by drops alone
abbrev Alike : Party → Entry → Type 0
Alike who entry = is_drop_of who entry ≡ stops_it who entry

any_alike : (who : Party) (es : List Entry) → AllByRecursion (Alike who) es → list_any (is_drop_of who) es ≡ list_any (stops_it who) es
any_alike who [] a = refl
any_alike who (e ∷ es) a = ap₂ (λ x y. x || y) a.0 (any_alike who es a.1)

bus_alike : (who : Party) → BusSorts (Alike who)
bus_alike who = record { says_ = λ e. refl; drops_ = λ other queued len. same_who other who }

pub drop_told : (run acts : List Act) (w : World) (d : Done) (free next : Option ℕ) → Front run w free → (b : BusTakes w d) → entries_in acts ≡ d.entries → Front (run ++ acts) d.world next → (x : End) → end_at d.world.ends b.conn ≡ Some x → x.who ≡ b.e.who
    → (x.standing ≡ here → ⊥) → list_any (is_drop_of b.e.who) d.entries ≡ true
drop_told run acts w d free next f b is g x there whose gone =
    any_alike b.e.who d.entries alike ∙ by (list_any (stops_it b.e.who) d.entries) refl
  where
    who : Party
    who = b.e.who

    es : List Entry
    es = entries_in run

    its : carrying.Carried
    its = carrying.takes (record { bus = w.bus; ends = w.ends }) b.conn b.e.who b.said

    alike : AllByRecursion (Alike who) d.entries
    alike = subst (λ (y : Done). AllByRecursion (Alike who) y.entries) (sym b.is) (refl, of_bus_all (Alike who) (bus_alike who) its.ends its.bus.own its.bus.closings)

    lived : is_live es who ≡ true
    lived =
        let k = f.kept (Shaped (And (And (And Nothing Tells) Exited) Started)) starts_keep in
        here_lives es w who k.0 k.1.0.1.1 k.1.1 (record { conn = b.conn; e = b.e; there = b.is_here.there; whose = refl; standing = b.is_here.standing })

    live_here : LiveHere (entries_in (run ++ acts)) d.world
    live_here = (g.kept (Shaped (And (And Nothing Tells) Present)) present_keeps).1.1.1

    all : entries_in (run ++ acts) ≡ es ++ d.entries
    all = entries_more run acts ∙ ap (λ l. es ++ l) is

    still : IsActive d.world who → ⊥
    still a =
        let same : a.conn ≡ b.conn = (shape (run ++ acts) d.world next g).one a.conn b.conn a.e x a.there there (a.whose ∙ sym whose) in
        gone (ap (λ (y : End). y.standing) (same_some x a.e (sym there ∙ ap (end_at d.world.ends) (sym same) ∙ a.there)) ∙ a.standing)

    by : (t : Bool) → list_any (stops_it who) d.entries ≡ t → list_any (stops_it who) d.entries ≡ true
    by true h = h
    by false h = absurd (still (live_here who (no_bus w b.conn b.e (shape run w free f) b.is_here.there) g.lives (ap (λ l. is_live l who) all ∙ live_on es d.entries who lived h)))
