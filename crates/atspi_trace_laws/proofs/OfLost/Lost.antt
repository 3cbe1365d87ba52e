-- Nothing stands behind the registry's drop, along a lawful trace.
use Rattle.std.proofs.Common.{◌≡◌, inl, inr, ℕ, zero, suc, Bool, true, false, List, [], ◌∷◌, ◌++◌, None, Some, refl, sym, ap, ◌∙◌, subst}
use Rattle.std.specs.Prelude.{Option, if◌then◌else◌}
use Rattle.atspi_script_lines.specs.declared.line.Line.{Line}
use Rattle.atspi_script_lines.specs.declared.line.Party.TheVariants.{Bus as The_bus, Registry, App, Reader}
use Rattle.atspi_message.specs.Envelope.{Envelope}
use Rattle.atspi_protocol.specs.declared.following.question.Question.{Question}
use Rattle.atspi_trace.specs.Entry.{Entry, sent, dropped}
use Rattle.atspi_trace.specs.World.{World}
use Rattle.atspi_trace.specs.Hearing.{question_in}
use Rattle.atspi_trace.specs.Causes.{does, at_end}
use Rattle.atspi_trace.specs.Work.{Refusal, refused, Work, work_of, Next, cause, rests, next_of}
use Rattle.atspi_trace.specs.Due.{Progress, freed, rested, wrote, done, went, progress, bound, Scene, begins, scene_of, line_done, line_worked, unless_refused, from_lines, is_lost, onward, at_work_owing, at_work, first_entry, due, rest_entries, writes, own_or_due, asks_at, asks_freely, chosen, happens_owing, happens, Stands, Goes}
use Rattle.atspi_trace_laws.specs.laws.NineLaws.{Everywhere}
use Rattle.atspi_trace_laws.specs.order.Scripts.{CanAllStand}
use Rattle.atspi_trace_laws.proofs.OfOrder.Parties.{no_none, same_some}
use Rattle.atspi_trace_laws.proofs.OfOrder.Allowed.{IsBare, IsWork, bare-work, NextFine}
use Rattle.atspi_trace_laws.proofs.OfOrder.Next.{line_fine, next_fine}
use Rattle.atspi_trace_laws.proofs.OfOrder.Effects.{effect}
use Rattle.atspi_trace_laws.proofs.OfOrder.Along.{Kept, along}
use Rattle.atspi_trace_laws.proofs.OfOrder.Growing.{Shaped, Nothing, And}
use Rattle.atspi_trace_laws.proofs.OfOrder.Told.{Tells, told_keeps}
use Rattle.atspi_trace_laws.proofs.OfOrder.Each.{Each, everywhere}
use Rattle.atspi_trace_laws.specs.lost.Laws.{IsAllOver}
use Rattle.atspi_trace_laws.proofs.OfLost.Drops.{Owes, cause_owes}

abbrev Inv : List Entry → World → Option ℕ → Type 0
Inv = Shaped (And Nothing Tells)

abbrev Base : World → Type 0
Base w = Inv [] w None

based : (es : List Entry) (w : World) (free : Option ℕ) → Inv es w free → Base w
based es w free i = i

-- A WORK
abbrev Sound_at : Progress → Type 0
Sound_at p = Base p.world × Owes p.owing p.world p.free × IsBare p.work

abbrev Goes_on : (World → Work → Progress) → Type 0
Goes_on go = (w : World) (work : Work) → Base w → IsWork w work → Sound_at (go w work)

at_rest : (w : World) → Base w → Sound_at (rested w)
at_rest w b = (b, (tt, tt), tt)

wrote_fine : (go : World → Work → Progress) → Goes_on go → (w : World) (free : Option ℕ) (work : Work) (l : List Entry) → Base w → Owes l w free → IsBare work → Sound_at (wrote go w free work l)
wrote_fine go ih w free work [] b o bare = ih w work b (bare-work w work bare)
wrote_fine go ih w free work (e ∷ l) b o bare = (b, o, bare)

went_fine : (go : World → Work → Progress) → Goes_on go → (w : World) → Base w → (x : Next) → NextFine w x → Sound_at (went go x)
went_fine go ih w b (rests v) m = at_rest v (told_keeps.moved [] w v b m)
went_fine go ih w b (cause c v rest) h =
    let after : Inv (does w c).entries (does w c).world (freed c) = told_keeps.caused [] w c b h.1 in
    subst (λ u. Sound_at (done go (does u c) (freed c) rest)) (sym h.0)
    (wrote_fine go ih (does w c).world (freed c) rest (does w c).entries (based (does w c).entries (does w c).world (freed c) after)
    (cause_owes w c b.0 b.1.1 (effect w c b.0 h.1) after.0) h.2)

progressed : (n : ℕ) → Goes_on (progress n)
progressed zero w work b f = at_rest w b
progressed (suc n) w work b f = went_fine (λ v rest. progress n v rest) (λ v rest c g. progressed n v rest c g) w b (next_of w work) (next_fine w work f)

-- LINES
abbrev Sound : Scene → Type 0
Sound s = Base s.world × Owes s.owing s.world s.free × IsBare s.work × CanAllStand s.left

worked_fine : (next : World → List World → Scene) (passed : List World) (lines : List Line) (p : Progress) (l : List Entry) → p.owing ≡ l → ((v : World) (ws : List World) → Base v → Sound (next v ws)) → Sound_at p → CanAllStand lines
    → Sound (line_done next passed lines p l)
worked_fine next passed lines p [] h ih i a = ih p.world _ i.0
worked_fine next passed lines p (e ∷ l) h ih i a = (i.0, i.1, i.2, a)

stuck_fine : (w : World) (passed : List World) (lines : List Line) → Base w → CanAllStand lines → Sound (scene_of (rested w) passed lines)
stuck_fine w passed lines b a = (b, (tt, tt), tt, a)

unless_fine : (w : World) (line : Line) (s stuck : Scene) (o : Option Refusal) → refused w line ≡ o → (refused w line ≡ None → Sound s) → Sound stuck → Sound (unless_refused o s stuck)
unless_fine w line s stuck None h f g = f h
unless_fine w line s stuck (Some why) h f g = g

lines_fine : (lines : List Line) (w : World) (passed : List World) → Base w → CanAllStand lines → Sound (from_lines lines w passed)
lines_fine [] w passed b a = stuck_fine w passed [] b tt
lines_fine (line ∷ lines) w passed b a =
    let p = progress (bound w) w (work_of w line) in
    unless_fine w line (line_worked (λ v ws. from_lines lines v ws) passed lines p) (scene_of (rested w) passed (line ∷ lines)) (refused w line) refl
    (λ ok. worked_fine (λ v ws. from_lines lines v ws) passed lines p p.owing refl (λ v ws c. lines_fine lines v ws c a.1) (progressed (bound w) w (work_of w line) b (line_fine w line a.0 ok)) a.1)
    (stuck_fine w passed (line ∷ lines) b a)

onward_fine : (s : Scene) → Sound s → Sound (onward s)
onward_fine s h = by (is_lost s.world)
  where
    p : Progress
    p = progress (bound s.world) s.world s.work

    by : (b : Bool) → Sound (if b then s else line_worked (λ v ws. from_lines s.left v ws) s.passed s.left p)
    by true = h
    by false =
        worked_fine (λ v ws. from_lines s.left v ws) s.passed s.left p p.owing refl (λ v ws c. lines_fine s.left v ws c h.3) (progressed (bound s.world) s.world s.work h.0 (bare-work s.world s.work h.2)) h.3

at_work_fine : (s : Scene) (l : List Entry) → Sound s → Sound (at_work_owing s l)
at_work_fine s [] h = onward_fine s h
at_work_fine s (e ∷ l) h = h

-- SCENES
abbrev Owing : Scene → Type 0
Owing s = Owes s.owing s.world s.free

rest_owes : (l : List Entry) (w : World) (free : Option ℕ) → Owes l w free → Owes (rest_entries l) w free
rest_owes [] w free o = o
rest_owes (e ∷ l) w free o = (o.0.1, o.1.1)

writes_fine : (s : Scene) → Sound s → Owing (writes s)
writes_fine s h = let t = at_work s in rest_owes t.owing t.world t.free (at_work_fine s s.owing h).1

none_owes : (l : List Entry) (w : World) (free : Option ℕ) → l ≡ [] → Owes l w free
none_owes l w free h = subst (λ x. Owes x w free) (sym h) (tt, tt)

own_fine : (s : Scene) (m : Envelope) (o : Option Question) → s.owing ≡ [] → Sound s → Owing (own_or_due s m o)
own_fine s m None none h = writes_fine s h
own_fine s m (Some question) none h = by s.free
  where
    by : (free : Option ℕ) → Owing (asks_freely s free m question)
    by None = h.1
    by (Some conn) = none_owes s.owing (at_end s.world conn (asks_at m question)) None none

chosen_fine : (s : Scene) (entry : Entry) → s.owing ≡ [] → Sound s → Owing (chosen s entry)
chosen_fine s (sent (Reader r) m) none h = own_fine s m (question_in m) none h
chosen_fine s (sent The_bus m) none h = writes_fine s h
chosen_fine s (sent Registry m) none h = writes_fine s h
chosen_fine s (sent (App a) m) none h = writes_fine s h
chosen_fine s entry none h = writes_fine s h

happens_fine : (s : Scene) (entry : Entry) (l : List Entry) → s.owing ≡ l → Sound s → Owing (happens_owing s entry l)
happens_fine s entry [] is h = chosen_fine s entry is h
happens_fine s entry (e ∷ l) is h = writes_fine s h

-- WHERE THE REGISTRY IS NOT THERE AND NOTHING IS OWED, NOTHING FOLLOWS
nothing_due : (u : Scene) → u.owing ≡ [] → is_lost u.world ≡ true → due u ≡ None
nothing_due u none lost =
    ap (λ l. first_entry (at_work_owing u l).owing) none
    ∙ ap (λ b. first_entry (if b then u else line_worked (λ v ws. from_lines u.left v ws) u.passed u.left (progress (bound u.world) u.world u.work)).owing) lost
    ∙ ap first_entry none

nothing_stands : (u : Scene) (entry : Entry) → u.owing ≡ [] → is_lost u.world ≡ true → u.free ≡ None → Stands u entry → ⊥
nothing_stands u entry none lost free (inl d) = no_none entry (sym (nothing_due u none lost) ∙ d.next)
nothing_stands u (sent (Reader r) e) none lost free (inr own) = no_none own.conn (sym free ∙ own.free)
nothing_stands u entry none lost free (inr own) = absurd own

nothing_follows : (u : Scene) (trace : List Entry) → u.owing ≡ [] → is_lost u.world ≡ true → u.free ≡ None → Goes u trace → trace ≡ []
nothing_follows u [] none lost free g = refl
nothing_follows u (entry ∷ trace) none lost free g = absurd (nothing_stands u entry none lost free g.0)

-- THE LAW
begins_so : (l : List Entry) (entry : Entry) → first_entry l ≡ Some entry → l ≡ entry ∷ rest_entries l
begins_so [] entry h = absurd (no_none entry h)
begins_so (e ∷ es) entry h = ap (λ x. x ∷ es) (same_some e entry h)

drop_writes : (s : Scene) (queued len : ℕ) (l : List Entry) → happens_owing s (dropped Registry queued len) l ≡ writes s
drop_writes s queued len [] = refl
drop_writes s queued len (e ∷ l) = refl

over : (s : Scene) (trace : List Entry) (queued len : ℕ) → Sound s → Stands s (dropped Registry queued len) → Goes (happens s (dropped Registry queued len)) trace → trace ≡ []
over s trace queued len h (inr own) g = absurd own
over s trace queued len h (inl d) g =
    let t : Scene = at_work s in
    let entry : Entry = dropped Registry queued len in
    let begins_ : t.owing ≡ entry ∷ rest_entries t.owing = begins_so t.owing entry d.next in
    let o : Owes (entry ∷ rest_entries t.owing) t.world t.free = subst (λ l. Owes l t.world t.free) begins_ (at_work_fine s s.owing h).1 in
    nothing_follows (writes s) trace (o.1.0 refl) (o.0.0 refl).0 (o.0.0 refl).1 (subst (λ u. Goes u trace) (drop_writes s queued len s.owing) g)

all_over : (es : List Entry) (s : Scene) (entry : Entry) (trace : List Entry) → Sound s → Stands s entry → Goes (happens s entry) trace → IsAllOver es entry trace
all_over es s (dropped Registry queued len) trace h st g = over s trace queued len h st g
all_over es s (dropped The_bus queued len) trace h st g = tt
all_over es s (dropped (App a) queued len) trace h st g = tt
all_over es s (dropped (Reader r) queued len) trace h st g = tt
all_over es s entry trace h st g = tt

each_over : (trace es : List Entry) (s : Scene) → Kept Inv es s → Owing s → Goes s trace → Each IsAllOver es trace
each_over [] es s k o g = tt
each_over (entry ∷ trace) es s k o g =
    let h : Sound s = (based (es ++ s.owing) s.world s.free k.state, o, k.bare, k.lines) in (
      all_over es s entry trace h g.0 g.1,
      each_over trace (es ++ entry ∷ []) (happens s entry) (along Inv told_keeps (entry ∷ []) es s k (g.0, tt)) (happens_fine s entry s.owing refl h) g.1,
    )

pub each_behind : (lines : List Line) (trace : List Entry) → CanAllStand lines → Goes (begins lines) trace → Each IsAllOver [] trace
each_behind lines trace a g = each_over trace [] (begins lines) (record { state = told_keeps.begins; bare = tt; lines = a }) (tt, tt) g

pub nothing_behind : (lines : List Line) (trace : List Entry) → CanAllStand lines → Goes (begins lines) trace → Everywhere IsAllOver trace
nothing_behind lines trace a g = everywhere IsAllOver trace (each_behind lines trace a g)
