-- WHO LIVES by the words of the headline has an end that is here.
use Rattle.std.proofs.Common.{◌≡◌, ℕ, suc, Bool, true, false, List, [], ◌∷◌, Option, Some, refl, sym, ap, ◌∙◌, subst}
use Rattle.std.specs.Prelude.{◌||◌, ◌&&◌, not}
use Rattle.std.specs.List.{list_any}
use Rattle.std.proofs.lemmas.Bool.{or_parts, or_from}
use Rattle.atspi_script_lines.specs.declared.line.Party.{Party}
use Rattle.atspi_script_lines.specs.declared.line.Party.TheVariants.{Bus as The_bus}
use Rattle.atspi_trace.specs.Entry.{Entry, started, changed, sent, got, heard, unheard, spoke, showed, exited, gone, dropped, busy, quiet}
use Rattle.atspi_trace.specs.World.{End, World}
use Rattle.atspi_trace.specs.Ends.{end_at}
use Rattle.atspi_trace.specs.Work.{Work}
use Rattle.atspi_headline.specs.Words as here
use Rattle.atspi_headline.specs.Words.{Act, begins_line, moves_bytes, takes_end, writes, entries_in, is_same, is_exit_of, is_out, ends}
use Rattle.atspi_trace_laws.specs.laws.Words as told
use Rattle.atspi_trace_laws.specs.laws.Words.{starts_it, stops_it}
use Rattle.atspi_trace_laws.proofs.OfOrder.Parties.{false_true, same-party}
use Rattle.atspi_trace_laws.proofs.OfOrder.Growing.{Shaped, Nothing, And}
use Rattle.atspi_trace_laws.proofs.OfOrder.Told.{Tells}
use Rattle.atspi_trace_laws.proofs.OfOrder.Exits.{Exited}
use Rattle.atspi_trace_laws.proofs.OfOrder.Acts.{IsActive}
use Rattle.atspi_trace_laws.proofs.OfOrder.Lives.{HasStarted, Started, starts_keep}
use Rattle.atspi_trace_laws.proofs.OfOwn.Writing.{Lives}
use Rattle.atspi_trace_laws.proofs.OfQuiet.Here.{Present, present_keeps}
use Rattle.atspi_headline_laws.proofs.Ran.{Ran}
use Rattle.atspi_headline_laws.proofs.Keeping.{kept_along}
use Rattle.atspi_headline_laws.proofs.Reading.{same_who}
use Rattle.atspi_headline_laws.proofs.Joining.{parties, ends_along}

-- nobody of whom no exit and no drop stands was stopped
stops_one : (who : Party) (entry : Entry) → is_exit_of who (writes entry) ≡ false → is_out who (writes entry) ≡ false → stops_it who entry ≡ false
stops_one who (exited other) h g = sym (same_who other who) ∙ h
stops_one who (dropped other queued len) h g = sym (same_who other who) ∙ g
stops_one who (started other name) h g = refl
stops_one who (changed a step) h g = refl
stops_one who (sent other e) h g = refl
stops_one who (got taker sender serial) h g = refl
stops_one who (heard a listener pattern) h g = refl
stops_one who (unheard a listener pattern) h g = refl
stops_one who (spoke r a text) h g = refl
stops_one who (showed r a rows) h g = refl
stops_one who (gone r a) h g = refl
stops_one who (busy turns) h g = refl
stops_one who quiet h g = refl

stops_none : (who : Party) (run : List Act) → list_any (is_exit_of who) run ≡ false → list_any (is_out who) run ≡ false → list_any (stops_it who) (entries_in run) ≡ false
stops_none who [] h g = refl
stops_none who (act ∷ run) h g =
    let a = or_parts (is_exit_of who act) (list_any (is_exit_of who) run) h in
    let b = or_parts (is_out who act) (list_any (is_out who) run) g in
    by act a.0 b.0 (stops_none who run a.1 b.1)
  where
    by : (act : Act) → is_exit_of who act ≡ false → is_out who act ≡ false → list_any (stops_it who) (entries_in run) ≡ false → list_any (stops_it who) (entries_in (act ∷ run)) ≡ false
    by (writes entry) x y rest = or_from (stops_it who entry) (list_any (stops_it who) (entries_in run)) (stops_one who entry x y) rest
    by (begins_line line) x y rest = rest
    by (moves_bytes other up count) x y rest = rest
    by (takes_end other) x y rest = rest

-- the end of a party that is among them
pub end_among : (who : Party) (es : List End) → list_any (is_same who) (parties es) ≡ true → (k : ℕ) × (e : End) × (end_at es k ≡ Some e) × (e.who ≡ who)
end_among who [] h = absurd (false_true h)
end_among who (x ∷ xs) h = by (is_same who x.who) refl h (end_among who xs)
  where
    by : (b : Bool) → is_same who x.who ≡ b → (b || list_any (is_same who) (parties xs)) ≡ true → (list_any (is_same who) (parties xs) ≡ true → (k : ℕ) × (e : End) × (end_at xs k ≡ Some e) × (e.who ≡ who))
        → (k : ℕ) × (e : End) × (end_at (x ∷ xs) k ≡ Some e) × (e.who ≡ who)
    by true g k ih = (0, x, refl, sym (same-party who x.who (sym (same_who who x.who) ∙ g)))
    by false g k ih = let f = ih k in (suc f.0, f.1, f.2, f.3)

pub and_left : (a b : Bool) → (a && b) ≡ true → a ≡ true
and_left true b h = refl
and_left false b h = absurd (false_true h)

pub and_right : (a b : Bool) → (a && b) ≡ true → b ≡ true
and_right true b h = h
and_right false b h = absurd (false_true h)

pub not_true : (a : Bool) → not a ≡ true → a ≡ false
not_true true h = absurd (false_true h)
not_true false h = refl

pub live_is_here : (run : List Act) (w : World) (free : Option ℕ) (at : Option Work) → Ran run w free at → Lives (entries_in run) → (who : Party) → (who ≡ The_bus → ⊥) → here.is_live run who ≡ true → IsActive w who
live_is_here run w free at r live who differ h = present.1.1.1 who differ live lives
  where
    present : Shaped (And (And Nothing Tells) Present) (entries_in run) w free
    present = kept_along (Shaped (And (And Nothing Tells) Present)) present_keeps run w free at r

    among : (k : ℕ) × (e : End) × (end_at w.ends k ≡ Some e) × (e.who ≡ who)
    among =
        end_among who w.ends
        (ap (list_any (is_same who)) (ends_along run w free at r) ∙ and_left (list_any (is_same who) (ends run)) (not (list_any (is_exit_of who) run || list_any (is_out who) run)) h)

    begun : HasStarted (entries_in run) who
    begun =
        subst (HasStarted (entries_in run)) among.3
        ((kept_along (Shaped (And (And (And Nothing Tells) Exited) Started)) starts_keep run w free at r).1.1 among.0 among.1 among.2)

    none : (list_any (is_exit_of who) run || list_any (is_out who) run) ≡ false
    none = not_true (list_any (is_exit_of who) run || list_any (is_out who) run) (and_right (list_any (is_same who) (ends run)) (not (list_any (is_exit_of who) run || list_any (is_out who) run)) h)

    parts : (list_any (is_exit_of who) run ≡ false) × (list_any (is_out who) run ≡ false)
    parts = or_parts (list_any (is_exit_of who) run) (list_any (is_out who) run) none

    lives : told.is_live (entries_in run) who ≡ true
    lives = ap (λ b. b && not (list_any (stops_it who) (entries_in run))) begun ∙ ap not (stops_none who run parts.0 parts.1)
