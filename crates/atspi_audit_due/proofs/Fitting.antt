-- Events that fit, one behind the other.
use Rattle.std.proofs.Common.{◌≡◌, ◌⊎◌, Bool, true, false, ◌&&◌, List, [], ◌∷◌, ◌++◌, None, Some, refl, sym, ap, subst, ◌∙◌, inl, inr}
use Rattle.std.proofs.lemmas.Bool.{false≢true}
use Rattle.atspi_base.specs.valid_names.Names.{is_bus_name}
use Rattle.std.specs.Prelude.{bytes_eq, unwrap_or, if◌then◌else◌}
use Rattle.std.specs.List.{list_any}
use Rattle.atspi_script_lines.specs.declared.line.Line.{Line}
use Rattle.atspi_script_lines.specs.declared.line.Party.TheVariants.{Bus, Registry, App, Reader}
use Rattle.atspi_protocol.specs.declared.following.question.Question.TheVariants.{Hello, AddMatch, RegisterEvent, GetChildren, GetItems, GetPart}
use Rattle.atspi_trace.specs.Entry.{Entry, started, changed, sent, got, heard, unheard, spoke, showed, exited, gone, dropped, busy, quiet}
use Rattle.atspi_trace.specs.Hearing.{is_listening, is_registered}
use Rattle.atspi_trace.specs.Due.{Goes, IsOwn, IsThrough, Scene, Stands, after_all, at_work, at_work_owing, begins, due, first_entry, happens, is_lost}
use Rattle.atspi_audit_due.specs.Fits.{FitsIn, IsFree, IsLawful, MayEnd, scene_behind}
use Rattle.atspi_audit_due.specs.Laws.{AllAskAsHere, AllElseIsFixed, AllowsMore, AsksAsHere, BrokenIsFound, BrokenOff, DiffersInCallsAlone, GoesFreely, GoesWhereEachFits, LawfulFreely, LawfulIsFitting, LawfulIsFound, WhatStandsFits}

and_right : (a b : Bool) → a && b ≡ true → b ≡ true
and_right true b h = h
and_right false b h = absurd (false≢true h)

and_left : (a b : Bool) → a && b ≡ true → a ≡ true
and_left true b h = refl
and_left false b h = absurd (false≢true h)

both : (a b : Bool) → a ≡ true → b ≡ true → a && b ≡ true
both true b p q = q
both false b p q = absurd (false≢true p)

pub allows : AllowsMore
allows h Hello e = e
allows h (AddMatch rule) e = e
allows h (RegisterEvent pattern) e = e
allows h GetChildren e = e
allows h (GetItems name) e =
    let named = list_any (bytes_eq name) h.named in
    let rest = and_right (is_bus_name name) (is_listening h.asked && (is_registered h.asked && named)) e in
    both (is_bus_name name) (is_registered h.asked) (and_left (is_bus_name name) (is_listening h.asked && (is_registered h.asked && named)) e)
    (and_left (is_registered h.asked) named (and_right (is_listening h.asked) (is_registered h.asked && named) rest))
allows h (GetPart name path part) e = e

own_is_free : (s : Scene) (entry : Entry) → IsOwn s entry → IsFree s entry
own_is_free s (sent (Reader r) e) k = record {
  conn = k.conn;
  asker = k.asker;
  hearer = k.hearer;
  question = k.question;
  nothing_owed = k.nothing_owed;
  free = k.free;
  there = k.there;
  whose = k.whose;
  standing = k.standing;
  role = k.reader;
  answered = k.answered;
  allowed = allows k.hearer k.question k.allowed;
  spelled = k.spelled;
  read = k.read;
}
own_is_free s (sent Bus e) k = k
own_is_free s (sent Registry e) k = k
own_is_free s (sent (App a) e) k = k
own_is_free s (started who name) k = k
own_is_free s (changed app step) k = k
own_is_free s (got taker sender serial) k = k
own_is_free s (heard app listener pattern) k = k
own_is_free s (unheard app listener pattern) k = k
own_is_free s (spoke reader app line) k = k
own_is_free s (showed reader app rows) k = k
own_is_free s (exited who) k = k
own_is_free s (gone reader app) k = k
own_is_free s (dropped who queued len) k = k
own_is_free s (busy turns) k = k
own_is_free s quiet k = k

pub fits : WhatStandsFits
fits s entry (inl due) = inl due
fits s entry (inr own) = inr (own_is_free s entry own)

-- a free call that a reader of this project may send is one of its own
free_is_own : (s : Scene) (entry : Entry) → AsksAsHere s entry → IsFree s entry → IsOwn s entry
free_is_own s (sent (Reader r) e) here k = record {
  conn = k.conn;
  asker = k.asker;
  hearer = k.hearer;
  question = k.question;
  nothing_owed = k.nothing_owed;
  free = k.free;
  there = k.there;
  whose = k.whose;
  standing = k.standing;
  reader = k.role;
  answered = k.answered;
  allowed = here k;
  spelled = k.spelled;
  read = k.read;
}
free_is_own s (sent Bus e) here k = k
free_is_own s (sent Registry e) here k = k
free_is_own s (sent (App a) e) here k = k
free_is_own s (started who name) here k = k
free_is_own s (changed app step) here k = k
free_is_own s (got taker sender serial) here k = k
free_is_own s (heard app listener pattern) here k = k
free_is_own s (unheard app listener pattern) here k = k
free_is_own s (spoke reader app line) here k = k
free_is_own s (showed reader app rows) here k = k
free_is_own s (exited who) here k = k
free_is_own s (gone reader app) here k = k
free_is_own s (dropped who queued len) here k = k
free_is_own s (busy turns) here k = k
free_is_own s quiet here k = k

stands_of : (s : Scene) (entry : Entry) → AsksAsHere s entry → FitsIn s entry → Stands s entry
stands_of s entry here (inl due) = inl due
stands_of s entry here (inr free) = inr (free_is_own s entry here free)

all_stand : (s : Scene) (trace : List Entry) → AllAskAsHere s trace → GoesFreely s trace → Goes s trace
all_stand s [] here h = tt
all_stand s (entry ∷ entries) here h = (stands_of s entry here.0 h.0, all_stand (happens s entry) entries here.1 h.1)

pub alone : DiffersInCallsAlone
alone lines trace k here = record { goes = all_stand (begins lines) trace here k.goes; through = k.through }

all_fit : (s : Scene) (trace : List Entry) → Goes s trace → GoesFreely s trace
all_fit s [] h = tt
all_fit s (entry ∷ entries) h = (fits s entry h.0, all_fit (happens s entry) entries h.1)

-- two that are due are one
same_some : {A : Type 0} (x y : A) → Some x ≡ Some y → x ≡ y
same_some x y e = ap (λ o. unwrap_or o x) e

one_due : (s : Scene) (a b : Entry) → FitsIn s a → FitsIn s b → (IsFree s a → ⊥) → (IsFree s b → ⊥) → a ≡ b
one_due s a b (inl p) (inl q) f g = same_some a b (sym p.next ∙ q.next)
one_due s a b (inr p) q f g = absurd (f p)
one_due s a b (inl p) (inr q) f g = absurd (g q)

pub fixed : AllElseIsFixed
fixed lines before a b p q f g = one_due (scene_behind lines before) a b p q f g

-- event by event, and each behind those before it
abbrev EachIn : Scene → List Entry → Type 0
EachIn s trace = (before : List Entry) (entry : Entry) (behind : List Entry) → trace ≡ before ++ entry ∷ behind → FitsIn (after_all s before) entry

each_of : (s : Scene) (trace : List Entry) → GoesFreely s trace → EachIn s trace
each_of s [] h [] entry behind e = cc
each_of s [] h (b ∷ before) entry behind e = cc
each_of s (first ∷ rest) h [] entry behind e = let is : first ≡ entry = cc in subst (FitsIn s) is h.0
each_of s (first ∷ rest) h (b ∷ before) entry behind e =
    let is : first ≡ b = cc in
    let more : rest ≡ before ++ entry ∷ behind = cc in
    subst (λ c. FitsIn (after_all (happens s c) before) entry) is (each_of (happens s first) rest h.1 before entry behind more)

goes_of : (s : Scene) (trace : List Entry) → EachIn s trace → GoesFreely s trace
goes_of s [] h = tt
goes_of s (first ∷ rest) h = (h [] first rest refl, goes_of (happens s first) rest (λ before entry behind e. h (first ∷ before) entry behind (ap (λ l. first ∷ l) e)))

pub goes : GoesWhereEachFits
goes lines trace = (each_of (begins lines) trace, goes_of (begins lines) trace)

-- nothing is due where nothing is owed, and the other way round
pub none_owed : (es : List Entry) → first_entry es ≡ None → es ≡ []
none_owed [] e = refl
none_owed (x ∷ es) e = cc

-- where the registry was dropped nothing goes on
stays_if : (lost : Bool) (s t : Scene) → lost ≡ true → (if lost then s else t) ≡ s
stays_if true s t e = refl
stays_if false s t e = absurd (false≢true e)

pub at_rest : (s : Scene) → s.owing ≡ [] → is_lost s.world ≡ true → at_work s ≡ s
at_rest s owing lost = ap (at_work_owing s) owing ∙ stays_if (is_lost s.world) s _ lost

none_due : (s : Scene) → s.owing ≡ [] → is_lost s.world ≡ true → due s ≡ None
none_due s owing lost = ap (λ (t : Scene). first_entry t.owing) (at_rest s owing lost) ∙ ap first_entry owing

-- so what was owed was written
pub all_written : (s : Scene) (es : List Entry) → s.owing ≡ es → due s ≡ None → s.owing ≡ []
all_written s [] e d = e
all_written s (x ∷ es) e d =
    let stays : at_work s ≡ s = ap (at_work_owing s) e in
    let owes : first_entry (at_work s).owing ≡ Some x = ap (λ (t : Scene). first_entry t.owing) stays ∙ ap first_entry e in
    let clash : None ≡ Some x = sym d ∙ owes in
    absurd cc

lawful_ends : (lines : List Line) (trace : List Entry) → IsThrough (scene_behind lines trace) → MayEnd lines trace
lawful_ends lines trace k = inl (record { no_line_left = k.no_line_left; all_rest = k.all_rest })

to_fitting : (lines : List Line) (trace : List Entry) → LawfulFreely lines trace ⊎ BrokenOff lines trace → IsLawful lines trace
to_fitting lines trace (inl k) = record {
  fits = each_of (begins lines) trace k.goes;
  nothing_due = ap first_entry k.through.nothing_owed;
  may_end = lawful_ends lines trace k.through;
}
to_fitting lines trace (inr k) = record {
  fits = each_of (begins lines) trace k.goes;
  nothing_due = none_due (scene_behind lines trace) k.nothing_owed k.lost;
  may_end = inr k.lost;
}

of_end : (lines : List Line) (trace : List Entry) → GoesFreely (begins lines) trace → due (scene_behind lines trace) ≡ None → MayEnd lines trace → LawfulFreely lines trace ⊎ BrokenOff lines trace
of_end lines trace h d (inl k) = inl (record {
  goes = h;
  through = record { nothing_owed = none_owed (at_work (scene_behind lines trace)).owing d; no_line_left = k.no_line_left; all_rest = k.all_rest };
})
of_end lines trace h d (inr lost) = inr (record { goes = h; nothing_owed = all_written (scene_behind lines trace) (scene_behind lines trace).owing refl d; lost = lost })

of_fitting : (lines : List Line) (trace : List Entry) → IsLawful lines trace → LawfulFreely lines trace ⊎ BrokenOff lines trace
of_fitting lines trace k = of_end lines trace (goes_of (begins lines) trace k.fits) k.nothing_due k.may_end

pub fitting : LawfulIsFitting
fitting lines trace = (to_fitting lines trace, of_fitting lines trace)

pub found : LawfulIsFound
found lines trace k = to_fitting lines trace (inl (record { goes = all_fit (begins lines) trace k.goes; through = k.through }))

pub broken : BrokenIsFound
broken lines trace goes owing lost = to_fitting lines trace (inr (record { goes = all_fit (begins lines) trace goes; nothing_owed = owing; lost = lost }))
