-- The induction along a lawful trace: what holds at the beginning, and is kept by each cause, by bytes that complete no message, by what is
-- passed and by each own call of a reader, holds of the world behind each front of it, together with what is written and owed.
use Rattle.std.proofs.Common.{◌≡◌, inl, inr, ℕ, zero, suc, Bool, true, false, List, [], ◌∷◌, ◌++◌, None, Some, refl, sym, ap, ◌∙◌, subst}
use Rattle.std.specs.Prelude.{Option, if◌then◌else◌}
use Rattle.std.proofs.lemmas.List.{append-nil, append_assoc}
use Rattle.atspi_script_lines.specs.declared.limits.TheConstants.{QUOTA_MOST}
use Rattle.atspi_script_lines.specs.declared.line.Line.{Line}
use Rattle.atspi_script_lines.specs.declared.line.Party.TheVariants.{Bus as The_bus, Registry, App, Reader}
use Rattle.atspi_message.specs.Envelope.{Envelope}
use Rattle.atspi_protocol.specs.declared.following.question.Question.{Question}
use Rattle.atspi_trace.specs.Entry.{Entry, started, changed, sent, got, heard, unheard, spoke, showed, exited, gone, dropped, busy, quiet}
use Rattle.atspi_trace.specs.World.{World, first_world}
use Rattle.atspi_trace.specs.Causes.{Cause, does, at_end}
use Rattle.atspi_trace.specs.Work.{Refusal, refused, Work, work_of, Next, cause, rests, next_of}
use Rattle.atspi_trace.specs.Due.{Progress, freed, rested, wrote, done, went, progress, bound, Scene, begins, scene_of, line_done, line_worked, unless_refused, from_lines, is_lost, onward, at_work_owing, at_work, first_entry, due, rest_entries, writes, asks_at, asks_freely, own_or_due, chosen, happens_owing, happens, after_all, IsOwnCall, Stands, Goes, Lawful}
use Rattle.atspi_trace_laws.specs.order.Scripts.{CanAllStand}
use Rattle.atspi_trace_laws.proofs.OfOrder.Parties.{no_none, same_some}
use Rattle.atspi_trace_laws.proofs.OfOrder.Allowed.{Allowed, Moves, Asks, IsBare, IsWork, bare-work, NextFine}
use Rattle.atspi_trace_laws.proofs.OfOrder.Next.{line_fine, next_fine}
use Rattle.atspi_trace_laws.proofs.OfOrder.Plain.{NotOwn, FirstPlain, does_plain}

-- what is said of the entries written and owed, the world, and the connection that may send a call of its own
pub record Keeps (Inv : List Entry → World → Option ℕ → Type 0) : Type 0 where
  pub begins : Inv [] (first_world QUOTA_MOST) None
  pub caused : (es : List Entry) (w : World) (c : Cause) → Inv es w None → Allowed w c → Inv (es ++ (does w c).entries) (does w c).world (freed c)
  pub moved : (es : List Entry) (w v : World) → Inv es w None → Moves w v → Inv es v None
  pub passed : (es : List Entry) (w : World) (free : Option ℕ) → Inv es w free → Inv es w None
  pub asked : (es : List Entry) (w : World) (conn r : ℕ) (m : Envelope) (question : Question) → Inv es w (Some conn) → Asks w conn r m question
      → Inv (es ++ sent (Reader r) m ∷ []) (at_end w conn (asks_at m question)) None

pub record Kept (Inv : List Entry → World → Option ℕ → Type 0) (es : List Entry) (s : Scene) : Type 0 where
  pub state : Inv (es ++ s.owing) s.world s.free
  pub bare : IsBare s.work
  pub lines : CanAllStand s.left

-- a list that begins so
begins_so : (l : List Entry) (entry : Entry) → first_entry l ≡ Some entry → l ≡ entry ∷ rest_entries l
begins_so [] entry h = absurd (no_none entry h)
begins_so (e ∷ es) entry h = ap (λ x. x ∷ es) (same_some e entry h)

-- where nothing is owed, what is due is no own call
chosen_due : (s : Scene) (entry : Entry) → NotOwn entry → chosen s entry ≡ writes s
chosen_due s (sent (Reader r) e) h = ap (own_or_due s e) h
chosen_due s (sent The_bus e) h = refl
chosen_due s (sent Registry e) h = refl
chosen_due s (sent (App a) e) h = refl
chosen_due s (started who name) h = refl
chosen_due s (changed app step) h = refl
chosen_due s (got taker sender serial) h = refl
chosen_due s (heard app listener pattern) h = refl
chosen_due s (unheard app listener pattern) h = refl
chosen_due s (spoke reader app text) h = refl
chosen_due s (showed reader app rows) h = refl
chosen_due s (exited who) h = refl
chosen_due s (gone reader app) h = refl
chosen_due s (dropped who queued len) h = refl
chosen_due s (busy turns) h = refl
chosen_due s quiet h = refl

first_plain : (l : List Entry) (entry : Entry) → first_entry l ≡ Some entry → FirstPlain l → NotOwn entry
first_plain [] entry h p = absurd (no_none entry h)
first_plain (e ∷ es) entry h p = subst NotOwn (same_some e entry h) p

module _ (Inv : List Entry → World → Option ℕ → Type 0) (k : Keeps Inv) where
  abbrev Progressed : List Entry → Progress → Type 0
  Progressed es p = Inv (es ++ p.owing) p.world p.free × IsBare p.work × FirstPlain p.owing

  abbrev Goes_on : (World → Work → Progress) → Type 0
  Goes_on go = (es : List Entry) (w : World) (free : Option ℕ) (work : Work) → Inv es w free → IsWork w work → Progressed es (go w work)

  at_rest : (es : List Entry) (w : World) (free : Option ℕ) → Inv es w free → Progressed es (rested w)
  at_rest es w free i = (subst (λ l. Inv l w None) (sym (append-nil es)) (k.passed es w free i), tt, tt)

  wrote_fine : (go : World → Work → Progress) → Goes_on go → (es : List Entry) (w : World) (free : Option ℕ) (work : Work) (l : List Entry)
      → Inv (es ++ l) w free → IsBare work → FirstPlain l → Progressed es (wrote go w free work l)
  wrote_fine go ih es w free work [] i b p = ih es w free work (subst (λ l. Inv l w free) (append-nil es) i) (bare-work w work b)
  wrote_fine go ih es w free work (e ∷ l) i b p = (i, b, p)

  went_fine : (go : World → Work → Progress) → Goes_on go → (es : List Entry) (w : World) → Inv es w None → (x : Next) → NextFine w x → Progressed es (went go x)
  went_fine go ih es w i (rests v) m = at_rest es v None (k.moved es w v i m)
  went_fine go ih es w i (cause c v rest) h =
      subst (λ u. Progressed es (done go (does u c) (freed c) rest)) (sym h.0)
      (wrote_fine go ih es (does w c).world (freed c) rest (does w c).entries (k.caused es w c i h.1) h.2 (does_plain w c))

  progressed : (n : ℕ) → Goes_on (progress n)
  progressed zero es w free work i f = at_rest es w free i
  progressed (suc n) es w free work i f =
      went_fine (λ v rest. progress n v rest) (λ l v o rest j g. progressed n l v o rest j g) es w (k.passed es w free i) (next_of w work) (next_fine w work f)

  -- lines
  abbrev Fresh : List Entry → Scene → Type 0
  Fresh es s = Kept Inv es s × FirstPlain s.owing

  worked_fine : (next : World → List World → Scene) (es : List Entry) (passed : List World) (lines : List Line) (p : Progress) (l : List Entry) → p.owing ≡ l
      → ((v : World) (ws : List World) → Inv es v None → Fresh es (next v ws)) → Progressed es p → CanAllStand lines → Fresh es (line_done next passed lines p l)
  worked_fine next es passed lines p [] h ih i a =
      ih p.world _ (k.passed es p.world p.free (subst (λ l. Inv l p.world p.free) (ap (λ l. es ++ l) h ∙ append-nil es) i.0))
  worked_fine next es passed lines p (e ∷ l) h ih i a = (record { state = i.0; bare = i.1; lines = a }, i.2)

  stuck_fine : (es : List Entry) (w : World) (passed : List World) (lines : List Line) → Inv es w None → CanAllStand lines → Fresh es (scene_of (rested w) passed lines)
  stuck_fine es w passed lines i a = (record { state = (at_rest es w None i).0; bare = tt; lines = a }, tt)

  unless_fine : (es : List Entry) (w : World) (line : Line) (s stuck : Scene) (o : Option Refusal) → refused w line ≡ o → (refused w line ≡ None → Fresh es s) → Fresh es stuck
      → Fresh es (unless_refused o s stuck)
  unless_fine es w line s stuck None h f g = f h
  unless_fine es w line s stuck (Some why) h f g = g

  lines_fine : (lines : List Line) (es : List Entry) (w : World) (passed : List World) → Inv es w None → CanAllStand lines → Fresh es (from_lines lines w passed)
  lines_fine [] es w passed i a = stuck_fine es w passed [] i tt
  lines_fine (line ∷ lines) es w passed i a =
      let p = progress (bound w) w (work_of w line) in
      unless_fine es w line (line_worked (λ v ws. from_lines lines v ws) passed lines p) (scene_of (rested w) passed (line ∷ lines)) (refused w line) refl
      (λ ok. worked_fine (λ v ws. from_lines lines v ws) es passed lines p p.owing refl (λ v ws j. lines_fine lines es v ws j a.1)
      (progressed (bound w) es w None (work_of w line) i (line_fine w line a.0 ok)) a.1)
      (stuck_fine es w passed (line ∷ lines) i a)

  onward_fine : (es : List Entry) (s : Scene) → s.owing ≡ [] → Kept Inv es s → Fresh es (onward s)
  onward_fine es s o h = by (is_lost s.world)
    where
      p : Progress
      p = progress (bound s.world) s.world s.work

      state : Inv es s.world s.free
      state = subst (λ l. Inv l s.world s.free) (ap (λ l. es ++ l) o ∙ append-nil es) h.state

      by : (b : Bool) → Fresh es (if b then s else line_worked (λ v ws. from_lines s.left v ws) s.passed s.left p)
      by true = (h, subst FirstPlain (sym o) tt)
      by false =
          worked_fine (λ v ws. from_lines s.left v ws) es s.passed s.left p p.owing refl (λ v ws j. lines_fine s.left es v ws j h.lines)
          (progressed (bound s.world) es s.world s.free s.work state (bare-work s.world s.work h.bare)) h.lines

  pub at_work_fine : (es : List Entry) (s : Scene) (l : List Entry) → s.owing ≡ l → Kept Inv es s → Kept Inv es (at_work_owing s l)
  at_work_fine es s [] h i = (onward_fine es s h i).0
  at_work_fine es s (e ∷ l) h i = i

  -- an entry that is due is written
  writes_fine : (es : List Entry) (s : Scene) (entry : Entry) → Kept Inv es s → due s ≡ Some entry → Kept Inv (es ++ entry ∷ []) (writes s)
  writes_fine es s entry i d =
      let t : Scene = at_work s in
      let j : Kept Inv es t = at_work_fine es s s.owing refl i in
      record {
        state = subst (λ l. Inv l t.world t.free) (ap (λ l. es ++ l) (begins_so t.owing entry d) ∙ sym (append_assoc es (entry ∷ []) (rest_entries t.owing))) j.state;
        bare = j.bare;
        lines = j.lines;
      }

  is_writing : (es : List Entry) (s : Scene) (entry : Entry) (l : List Entry) → s.owing ≡ l → Kept Inv es s → first_entry (at_work_owing s l).owing ≡ Some entry
      → happens_owing s entry l ≡ writes s
  is_writing es s entry (e ∷ l) h i d = refl
  is_writing es s entry [] h i d = chosen_due s entry (first_plain (onward s).owing entry d (onward_fine es s h i).1)

  due_fine : (es : List Entry) (s : Scene) (entry : Entry) → Kept Inv es s → due s ≡ Some entry → Kept Inv (es ++ entry ∷ []) (happens s entry)
  due_fine es s entry i d = subst (Kept Inv (es ++ entry ∷ [])) (sym (is_writing es s entry s.owing refl i d)) (writes_fine es s entry i d)

  -- an own call
  own_fine : (es : List Entry) (s : Scene) (r : ℕ) (e : Envelope) → Kept Inv es s → IsOwnCall s r e → Kept Inv (es ++ sent (Reader r) e ∷ []) (happens s (sent (Reader r) e))
  own_fine es s r e i own =
      let is : happens s (sent (Reader r) e) ≡ record s { world = at_end s.world own.conn (asks_at e own.question); free = None } =
      ap (happens_owing s (sent (Reader r) e)) own.nothing_owed ∙ ap (own_or_due s e) own.read ∙ ap (λ o. asks_freely s o e own.question) own.free in
      let none : (l : List Entry) → l ++ s.owing ≡ l = λ l. ap (λ x. l ++ x) own.nothing_owed ∙ append-nil l in
      let state : Inv es s.world (Some own.conn) = subst (λ o. Inv es s.world o) own.free (subst (λ l. Inv l s.world s.free) (none es) i.state) in
      subst (Kept Inv (es ++ sent (Reader r) e ∷ [])) (sym is)
      (record {
        state = subst (λ l. Inv l (at_end s.world own.conn (asks_at e own.question)) None) (sym (none (es ++ sent (Reader r) e ∷ [])))
            (k.asked es s.world own.conn r e own.question state (record {
              asker = own.asker;
              hearer = own.hearer;
              is_here = record { there = own.there; standing = own.standing };
              whose = own.whose;
              reader = own.reader;
              answered = own.answered;
              allowed = own.allowed;
              spelled = own.spelled;
              read = own.read;
            }));
        bare = i.bare;
        lines = i.lines;
      })

  stands_fine : (es : List Entry) (s : Scene) (entry : Entry) → Kept Inv es s → Stands s entry → Kept Inv (es ++ entry ∷ []) (happens s entry)
  stands_fine es s entry i (inl d) = due_fine es s entry i d.next
  stands_fine es s (sent (Reader r) e) i (inr own) = own_fine es s r e i own
  stands_fine es s entry i (inr own) = absurd own

  pub along : (trace es : List Entry) (s : Scene) → Kept Inv es s → Goes s trace → Kept Inv (es ++ trace) (after_all s trace)
  along [] es s i g = subst (λ l. Kept Inv l s) (sym (append-nil es)) i
  along (entry ∷ trace) es s i g =
      subst (λ l. Kept Inv l (after_all (happens s entry) trace)) (append_assoc es (entry ∷ []) trace)
      (along trace (es ++ entry ∷ []) (happens s entry) (stands_fine es s entry i g.0) g.1)

  -- behind each front of a lawful trace
  pub kept : (lines : List Line) (trace : List Entry) → CanAllStand lines → Goes (begins lines) trace → Kept Inv trace (after_all (begins lines) trace)
  kept lines trace a g = along trace [] (begins lines) (record { state = k.begins; bare = tt; lines = a }) g

  none_owed : (s : Scene) (l : List Entry) → (at_work_owing s l).owing ≡ [] → s.owing ≡ l → s.owing ≡ []
  none_owed s [] h e = e
  none_owed s (x ∷ l) h e = h

  -- and behind all of it
  pub at_end_of : (lines : List Line) (trace : List Entry) → CanAllStand lines → Lawful lines trace → (w : World) × (free : Option ℕ) × Inv trace w free
  at_end_of lines trace a law =
      let s : Scene = after_all (begins lines) trace in
      (s.world, s.free, subst (λ l. Inv l s.world s.free) (ap (λ l. trace ++ l) (none_owed s s.owing law.through.nothing_owed refl) ∙ append-nil trace) (kept lines trace a law.goes).state)
