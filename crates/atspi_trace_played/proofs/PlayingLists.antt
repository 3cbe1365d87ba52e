-- Readers by their numbers, and what stands of entries, as more are written.
use Rattle.std.proofs.Common.{◌≡◌, ℕ, zero, suc, List, [], ◌∷◌, ◌++◌, length, map, Option, None, Some, refl, sym, ap, ◌∙◌}
use Rattle.std.specs.Prelude.{slice_get, slice_set}
use Rattle.std.specs.List.{AllByRecursion}
use Rattle.std.proofs.lemmas.List.{append_assoc}
use Rattle.atspi_script_lines.specs.declared.line.Party.TheVariants.{Bus as The_bus, Registry, App, Reader}
use Rattle.atspi_protocol.specs.declared.following.question.Question.TheVariants.{GetPart}
use Rattle.atspi_protocol.specs.declared.news.part.PartName.{PartName}
use Rattle.atspi_trace.specs.Entry.{Entry, started, changed, sent, got, heard, unheard, spoke, showed, exited, gone, dropped, busy, quiet}
use Rattle.atspi_trace.specs.World.{Hearer, Letter, End}
use Rattle.atspi_trace.specs.Ends.{with_end}
use Rattle.atspi_trace.specs.Hearing.{question_in, holding_of, app_ended, lines_if_held, last_lines, ended_entries, heard_entries}
use Rattle.atspi_script_lines.specs.declared.line.Party.{Party}
use Rattle.atspi_trace_laws.specs.laws.NineLaws.{Everywhere}
use Rattle.atspi_trace_caches.specs.settled.Laws.{AsksOfNode}
use Rattle.atspi_trace_laws.proofs.OfOrder.Parties.{no_none}
use Rattle.atspi_trace_laws.proofs.OfOrder.Each.{Each, everywhere, each_more, each_map, each_of}
use Rattle.atspi_trace_laws.proofs.OfOrder.BusWords.{all_any}
use Rattle.atspi_trace_played.proofs.Pieces.{Skips}
use Rattle.atspi_trace_played.proofs.PlayingEnds.{NoReader}

-- READERS
pub set_here : {X : Type 0} (xs : List X) (k : ℕ) (x y : X) → slice_get xs k ≡ Some x → slice_get (slice_set xs k y) k ≡ Some y
set_here [] k x y h = absurd (no_none x h)
set_here (z ∷ zs) zero x y h = refl
set_here (z ∷ zs) (suc k) x y h = set_here zs k x y h

pub set_other : {X : Type 0} (xs : List X) (k j : ℕ) (y : X) → (j ≡ k → ⊥) → slice_get (slice_set xs k y) j ≡ slice_get xs j
set_other [] k j y other = refl
set_other (z ∷ zs) zero zero y other = absurd (other refl)
set_other (z ∷ zs) zero (suc j) y other = refl
set_other (z ∷ zs) (suc k) zero y other = refl
set_other (z ∷ zs) (suc k) (suc j) y other = set_other zs k j y (λ h. other (ap suc h))

pub set_length : {X : Type 0} (xs : List X) (k : ℕ) (y : X) → length (slice_set xs k y) ≡ length xs
set_length [] k y = refl
set_length (z ∷ zs) zero y = refl
set_length (z ∷ zs) (suc k) y = ap suc (set_length zs k y)

pub got_more : {X : Type 0} (xs : List X) (n : X) (k : ℕ) (x : X) → slice_get xs k ≡ Some x → slice_get (xs ++ n ∷ []) k ≡ Some x
got_more [] n k x h = absurd (no_none x h)
got_more (z ∷ zs) n zero x h = h
got_more (z ∷ zs) n (suc k) x h = got_more zs n k x h

pub got_last : {X : Type 0} (xs : List X) (n : X) → slice_get (xs ++ n ∷ []) (length xs) ≡ Some n
got_last [] n = refl
got_last (z ∷ zs) n = got_last zs n

pub one_longer : {X : Type 0} (xs : List X) (n : X) → length (xs ++ n ∷ []) ≡ suc (length xs)
one_longer [] n = refl
one_longer (z ∷ zs) n = ap suc (one_longer zs n)

-- two changes of one end
pub with_both : (f g : End → End) (conn : ℕ) (ends : List End) → with_end conn f (with_end conn g ends) ≡ with_end conn (λ e. f (g e)) ends
with_both f g zero [] = refl
with_both f g (suc conn) [] = refl
with_both f g zero (e ∷ es) = refl
with_both f g (suc conn) (e ∷ es) = ap (λ l. e ∷ l) (with_both f g conn es)

-- WHAT A READER HEARS writes nothing that another takes
module _ (q r : ℕ) (other : r ≡ q → ⊥) where
  spoken_skips : (app : ℕ) (lines : List (List ℕ)) → AllByRecursion (Skips q) (map (spoke r app) lines)
  spoken_skips app [] = tt
  spoken_skips app (line ∷ lines) = (tt, spoken_skips app lines)

  ended_skips : (h : Hearer) (o : Option ℕ) → AllByRecursion (Skips q) (ended_entries r h o)
  ended_skips h None = tt
  ended_skips h (Some app) = (other, spoken_skips app (last_lines (holding_of app h.holds)))

  from_skips : (h : Hearer) (ends : List End) (letter : Letter) (from : Party) → AllByRecursion (Skips q) (heard_entries r h ends (record letter { from = from }))
  from_skips h ends letter (App app) = spoken_skips app (lines_if_held (holding_of app h.holds) letter.said)
  from_skips h ends letter The_bus = ended_skips h (app_ended ends (record letter { from = The_bus }))
  from_skips h ends letter Registry = ended_skips h (app_ended ends (record letter { from = Registry }))
  from_skips h ends letter (Reader k) = ended_skips h (app_ended ends (record letter { from = Reader k }))

  pub heard_skips : (h : Hearer) (ends : List End) (letter : Letter) → AllByRecursion (Skips q) (heard_entries r h ends letter)
  heard_skips h ends letter = from_skips h ends letter letter.from

pub apart_skips : (r : ℕ) (entry : Entry) → NoReader entry → Skips r entry
apart_skips r (got (Reader k) sender serial) n = absurd n
apart_skips r (got The_bus sender serial) n = λ h. absurd (no_party h)
  where
    no_party : The_bus ≡ Reader r → ⊥
    no_party h = cc
apart_skips r (got Registry sender serial) n = λ h. absurd (no_party h)
  where
    no_party : Registry ≡ Reader r → ⊥
    no_party h = cc
apart_skips r (got (App a) sender serial) n = λ h. absurd (no_party h)
  where
    no_party : App a ≡ Reader r → ⊥
    no_party h = cc
apart_skips r (gone k app) n = absurd n
apart_skips r (sent who m) n = tt
apart_skips r (started who name) n = tt
apart_skips r (changed app step) n = tt
apart_skips r (heard app listener pattern) n = tt
apart_skips r (unheard app listener pattern) n = tt
apart_skips r (spoke k app text) n = tt
apart_skips r (showed k app rows) n = tt
apart_skips r (exited who) n = tt
apart_skips r (dropped who queued len) n = tt
apart_skips r (busy turns) n = tt
apart_skips r quiet n = tt

-- WHAT PARTS ARE ASKED FOR
abbrev pub AsksNoPart : Entry → Type 0
AsksNoPart (sent (Reader r) m) = (name path : List ℕ) (part : PartName) → question_in m ≡ Some (GetPart name path part) → ⊥
AsksNoPart entry = Unit {0}

pub apart_asks_none : (entry : Entry) → NoReader entry → AsksNoPart entry
apart_asks_none (sent (Reader r) m) n = absurd n
apart_asks_none (sent The_bus m) n = tt
apart_asks_none (sent Registry m) n = tt
apart_asks_none (sent (App a) m) n = tt
apart_asks_none (started who name) n = tt
apart_asks_none (changed app step) n = tt
apart_asks_none (got taker sender serial) n = tt
apart_asks_none (heard app listener pattern) n = tt
apart_asks_none (unheard app listener pattern) n = tt
apart_asks_none (spoke k app text) n = tt
apart_asks_none (showed k app rows) n = tt
apart_asks_none (exited who) n = tt
apart_asks_none (gone k app) n = tt
apart_asks_none (dropped who queued len) n = tt
apart_asks_none (busy turns) n = tt
apart_asks_none quiet n = tt

of_none : (before : List Entry) (entry : Entry) (behind : List Entry) → AsksNoPart entry → AsksOfNode before entry behind
of_none before (sent (Reader r) m) behind n = λ name path part h. absurd (n name path part h)
of_none before (sent The_bus m) behind n = tt
of_none before (sent Registry m) behind n = tt
of_none before (sent (App a) m) behind n = tt
of_none before (started who name) behind n = tt
of_none before (changed app step) behind n = tt
of_none before (got taker sender serial) behind n = tt
of_none before (heard app listener pattern) behind n = tt
of_none before (unheard app listener pattern) behind n = tt
of_none before (spoke k app text) behind n = tt
of_none before (showed k app rows) behind n = tt
of_none before (exited who) behind n = tt
of_none before (gone k app) behind n = tt
of_none before (dropped who queued len) behind n = tt
of_none before (busy turns) behind n = tt
of_none before quiet behind n = tt

-- whatever stands behind
any_behind : (before : List Entry) (entry : Entry) (behind other : List Entry) → AsksOfNode before entry behind → AsksOfNode before entry other
any_behind before (sent (Reader r) m) behind other n = n
any_behind before (sent The_bus m) behind other n = tt
any_behind before (sent Registry m) behind other n = tt
any_behind before (sent (App a) m) behind other n = tt
any_behind before (started who name) behind other n = tt
any_behind before (changed app step) behind other n = tt
any_behind before (got taker sender serial) behind other n = tt
any_behind before (heard app listener pattern) behind other n = tt
any_behind before (unheard app listener pattern) behind other n = tt
any_behind before (spoke k app text) behind other n = tt
any_behind before (showed k app rows) behind other n = tt
any_behind before (exited who) behind other n = tt
any_behind before (gone k app) behind other n = tt
any_behind before (dropped who queued len) behind other n = tt
any_behind before (busy turns) behind other n = tt
any_behind before quiet behind other n = tt

each_from : (Law : List Entry → Entry → List Entry → Type 0) (early late : List Entry)
    → ((before : List Entry) (entry : Entry) (behind : List Entry) → early ++ late ≡ before ++ entry ∷ behind → Law before entry behind) → Each Law early late
each_from Law early [] f = tt
each_from Law early (x ∷ xs) f =
    (f early x xs refl, each_from Law (early ++ x ∷ []) xs (λ before entry behind h. f before entry behind (sym (append_assoc early (x ∷ []) xs) ∙ h)))

nodes_more : (es ys : List Entry) → Everywhere AsksOfNode es → Each AsksOfNode es ys → Everywhere AsksOfNode (es ++ ys)
nodes_more es ys all more =
    everywhere AsksOfNode (es ++ ys)
    (each_more AsksOfNode [] es ys
    (each_map (λ entry. Unit {0}) AsksOfNode (λ before entry behind. AsksOfNode before entry (behind ++ ys)) [] es (λ before entry behind u n. any_behind before entry behind (behind ++ ys) n)
    (all_any (λ entry. Unit {0}) (λ entry. tt) es) (each_from AsksOfNode [] es all)) more)

pub nodes_none : (es ys : List Entry) → Everywhere AsksOfNode es → AllByRecursion AsksNoPart ys → Everywhere AsksOfNode (es ++ ys)
nodes_none es ys all n = nodes_more es ys all (each_of AsksNoPart AsksOfNode es ys of_none n)

pub nodes_one : (es : List Entry) (entry : Entry) → Everywhere AsksOfNode es → AsksOfNode es entry [] → Everywhere AsksOfNode (es ++ entry ∷ [])
nodes_one es entry all n = nodes_more es (entry ∷ []) all (n, tt)
