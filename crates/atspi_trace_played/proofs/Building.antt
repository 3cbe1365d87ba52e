-- Building a lawful trace: in the midst of a script all of its entries so far may stand, nothing is owed, and what is next is what is left of the line at work, and then the lines behind it.
use Rattle.std.proofs.Common.{◌≡◌, inl, inr, ℕ, suc, false, List, [], ◌∷◌, ◌++◌, length, Option, None, Some, refl, sym, ap, ◌∙◌, subst}
use Rattle.std.specs.Prelude.{if◌then◌else◌}
use Rattle.std.specs.List.{AllByRecursion}
use Rattle.std.proofs.lemmas.List.{append-nil}
use Rattle.atspi_script_lines.specs.declared.limits.TheConstants.{QUOTA_MOST}
use Rattle.atspi_script_lines.specs.declared.line.Line.{Line}
use Rattle.atspi_script_lines.specs.declared.line.Party.TheVariants.{Bus as The_bus, Registry, App, Reader}
use Rattle.atspi_message.specs.Envelope.{Envelope}
use Rattle.atspi_protocol.specs.declared.following.question.Question.{Question}
use Rattle.atspi_trace.specs.Entry.{Entry, started, changed, sent, got, heard, unheard, spoke, showed, exited, gone, dropped, busy, quiet}
use Rattle.atspi_trace.specs.World.{World, first_world}
use Rattle.atspi_trace.specs.Causes.{Cause, does, at_end}
use Rattle.atspi_trace.specs.Work.{refused, Work, resting, work_of, cause, rests, next_of}
use Rattle.atspi_trace.specs.Due.{freed, rested, wrote, went, progress, bound, Scene, begins, scene_of, line_worked, unless_refused, from_lines, is_lost, at_work, first_entry}
use Rattle.atspi_trace.specs.Due.{without_first, writes, asks_at, own_or_due, chosen, happens_owing, happens, after_all, IsOwnCall, Goes, RestsWell, TellsTruly, Lawful}
use Rattle.atspi_trace_laws.specs.order.Scripts.{CanAllStand}
use Rattle.atspi_trace_laws.proofs.OfOrder.Allowed.{Asks, IsWork, bare-work, NextFine}
use Rattle.atspi_trace_laws.proofs.OfOrder.Next.{line_fine, next_fine}
use Rattle.atspi_trace_laws.proofs.OfOrder.Plain.{NotOwn, FirstPlain, does_plain}
use Rattle.atspi_trace_played.proofs.BuildingFuel.{enough, Goes_silent, silent_next, Enough, steady}

-- what stands next where a line is at work in a world, and these lines are left
abbrev pub onwards : List Line → List World → World → Work → Scene
onwards more passed w work = line_worked (λ v ws. from_lines more v ws) passed more (progress (bound w) w work)

pub record Midway (script : List Line) (es : List Entry) (w : World) (work : Work) (more : List Line) : Type 0 where
  pub passed : List World
  pub all_rest : AllByRecursion RestsWell passed
  pub goes : Goes (begins script) es
  pub nothing_owed : (after_all (begins script) es).owing ≡ []
  pub next : at_work (after_all (begins script) es) ≡ onwards more passed w work
  pub fine : IsWork w work
  pub lines : CanAllStand more

-- behind all that a cause wrote: the scene is known
abbrev pub scene_behind : World → Option ℕ → Work → List Line → Scene
scene_behind w free work more = record { world = w; owing = []; free = free; work = work; left = more; passed = [] }

pub record Behind (script : List Line) (es : List Entry) (w : World) (free : Option ℕ) (work : Work) (more : List Line) : Type 0 where
  pub goes : Goes (begins script) es
  pub scene : after_all (begins script) es ≡ scene_behind w free work more
  pub fine : IsWork w work
  pub lines : CanAllStand more

-- TRACES IN TWO PARTS
after_both : (s : Scene) (xs ys : List Entry) → after_all s (xs ++ ys) ≡ after_all (after_all s xs) ys
after_both s [] ys = refl
after_both s (x ∷ xs) ys = after_both (happens s x) xs ys

goes_both : (s : Scene) (xs ys : List Entry) → Goes s xs → Goes (after_all s xs) ys → Goes s (xs ++ ys)
goes_both s [] ys g h = h
goes_both s (x ∷ xs) ys g h = (g.0, goes_both (happens s x) xs ys g.1 h)

-- where nothing is owed, what is due is no own call
chosen_due : (s : Scene) (entry : Entry) → NotOwn entry → chosen s entry ≡ writes s
chosen_due s (sent (Reader r) e) h = ap (own_or_due s e) h
chosen_due s (sent The_bus e) h = refl
chosen_due s (sent Registry e) h = refl
chosen_due s (sent (App a) e) h = refl
chosen_due s (started who name) h = refl
chosen_due s (changed app step) h = refl
chosen_due s (got taker sender serial) h = refl
chosen_due s (heard app listener pattern) h = refl
chosen_due s (unheard app listener pattern) h = refl
chosen_due s (spoke reader app text) h = refl
chosen_due s (showed reader app rows) h = refl
chosen_due s (exited who) h = refl
chosen_due s (gone reader app) h = refl
chosen_due s (dropped who queued len) h = refl
chosen_due s (busy turns) h = refl
chosen_due s quiet h = refl

-- WHAT IS OWED IS WRITTEN
abbrev owing_scene : World → List Entry → Option ℕ → Work → List Line → Scene
owing_scene w es free work more = record { world = w; owing = es; free = free; work = work; left = more; passed = [] }

abbrev Truly : World → List Entry → Type 0
Truly w es = AllByRecursion (λ entry. TellsTruly entry w) es

writes_out : (w : World) (es : List Entry) (free : Option ℕ) (work : Work) (more : List Line) → Truly w es
    → Goes (owing_scene w es free work more) es × (after_all (owing_scene w es free work more) es ≡ scene_behind w free work more)
writes_out w [] free work more t = (tt, refl)
writes_out w (e ∷ es) free work more t =
    let rest = writes_out w es free work more t.1 in
    ((inl (record { next = refl; all_rest = tt; truly = t.0 }), rest.0), rest.1)

first_written : (s : Scene) (w : World) (e : Entry) (es : List Entry) (free : Option ℕ) (work : Work) (more : List Line) (passed : List World) → s.owing ≡ []
    → at_work s ≡ record { world = w; owing = e ∷ es; free = free; work = work; left = more; passed = passed } → NotOwn e → AllByRecursion RestsWell passed → Truly w (e ∷ es)
    → Goes s (e ∷ es) × (after_all s (e ∷ es) ≡ scene_behind w free work more)
first_written s w e es free work more passed none is plain rest t =
    let here : happens s e ≡ owing_scene w es free work more = ap (happens_owing s e) none ∙ chosen_due s e plain ∙ ap without_first is in
    let out = writes_out w es free work more t.1 in (
      (
        inl (record { next = ap (λ (x : Scene). first_entry x.owing) is; all_rest = subst (λ (x : Scene). AllByRecursion RestsWell x.passed) (sym is) rest; truly = subst (λ (x : Scene). TellsTruly e x.world) (sym is) t.0 }),
        subst (λ (x : Scene). Goes x es) (sym here) out.0,
      ),
      ap (λ x. after_all x es) here ∙ out.1,
    )

-- THE BEGINNING
pub begins_midway : (script : List Line) → CanAllStand script → Midway script [] (first_world QUOTA_MOST) resting script
begins_midway script a = record { passed = []; all_rest = tt; goes = tt; nothing_owed = refl; next = refl; fine = tt; lines = a }

-- BEHIND A CAUSE THAT WROTE SOMETHING
onward_of : (w : World) (free : Option ℕ) (work : Work) (more : List Line) → is_lost w ≡ false → at_work (scene_behind w free work more) ≡ onwards more [] w work
onward_of w free work more h = ap (λ b. if b then scene_behind w free work more else onwards more [] w work) h

pub go_on : (script : List Line) (es : List Entry) (w : World) (free : Option ℕ) (work : Work) (more : List Line) → is_lost w ≡ false → Behind script es w free work more → Midway script es w work more
go_on script es w free work more h b = record {
  passed = [];
  all_rest = tt;
  goes = b.goes;
  nothing_owed = ap (λ (x : Scene). x.owing) b.scene;
  next = ap at_work b.scene ∙ onward_of w free work more h;
  fine = b.fine;
  lines = b.lines;
}

-- an own call
pub asks_behind : (script : List Line) (es : List Entry) (w : World) (conn r : ℕ) (m : Envelope) (question : Question) (work : Work) (more : List Line) → Behind script es w (Some conn) work more
    → IsWork (at_end w conn (asks_at m question)) work → Asks w conn r m question → Behind script (es ++ sent (Reader r) m ∷ []) (at_end w conn (asks_at m question)) None work more
asks_behind script es w conn r m question work more b f a = record {
  goes = goes_both (begins script) es (sent (Reader r) m ∷ []) b.goes (subst (λ (x : Scene). Goes x (sent (Reader r) m ∷ [])) (sym b.scene) (inr own, tt));
  scene = after_both (begins script) es (sent (Reader r) m ∷ []) ∙ ap (λ x. happens x (sent (Reader r) m)) b.scene ∙ ap (own_or_due s m) a.read;
  fine = f;
  lines = b.lines;
}
  where
    s : Scene
    s = scene_behind w (Some conn) work more

    own : IsOwnCall s r m
    own = record {
      conn = conn;
      asker = a.asker;
      hearer = a.hearer;
      question = question;
      nothing_owed = refl;
      free = refl;
      there = a.is_here.there;
      whose = a.whose;
      standing = a.is_here.standing;
      reader = a.reader;
      answered = a.answered;
      allowed = a.allowed;
      spelled = a.spelled;
      read = a.read;
    }

-- A CAUSE OF THE LINE AT WORK
module _ (script : List Line) (es : List Entry) (w : World) (work rest : Work) (more : List Line) (c : Cause) (m : Midway script es w work more) (is : next_of w work ≡ cause c w rest) where
  next_is : NextFine w (cause c w rest)
  next_is = subst (NextFine w) is (next_fine w work m.fine)

  goes_so : progress (bound w) w work ≡ wrote (λ v o. progress (suc (length w.ends)) v o) (does w c).world (freed c) rest (does w c).entries
  goes_so = ap (λ x. went (λ v o. progress (suc (length w.ends)) v o) x) is

  pub wrote_some : (e : Entry) (more_entries : List Entry) → (does w c).entries ≡ e ∷ more_entries → Truly (does w c).world (does w c).entries
      → Behind script (es ++ (does w c).entries) (does w c).world (freed c) rest more
  wrote_some e l wr t =
      let after : World = (does w c).world in
      let s : Scene = after_all (begins script) es in
      let so : progress (bound w) w work ≡ record { world = after; owing = e ∷ l; free = freed c; work = rest } =
      goes_so ∙ ap (λ k. wrote (λ v o. progress (suc (length w.ends)) v o) after (freed c) rest k) wr in
      let scene : at_work s ≡ record { world = after; owing = e ∷ l; free = freed c; work = rest; left = more; passed = m.passed } =
      m.next ∙ ap (λ p. line_worked (λ v ws. from_lines more v ws) m.passed more p) so in
      let out = first_written s after e l (freed c) rest more m.passed m.nothing_owed scene (subst FirstPlain wr (does_plain w c)) m.all_rest (subst (Truly after) wr t) in
      subst (λ k. Behind script (es ++ k) after (freed c) rest more) (sym wr) (record {
        goes = goes_both (begins script) es (e ∷ l) m.goes out.0;
        scene = after_both (begins script) es (e ∷ l) ∙ out.1;
        fine = bare-work after rest next_is.2;
        lines = m.lines;
      })

  pub wrote_none : (does w c).entries ≡ [] → Midway script (es ++ (does w c).entries) (does w c).world rest more
  wrote_none none =
      let after : World = (does w c).world in
      let room : Enough (suc (length w.ends)) after rest = silent_room none in
      let fine : IsWork after rest = bare-work after rest next_is.2 in
      let so : progress (bound w) w work ≡ progress (bound after) after rest =
      goes_so ∙ ap (λ k. wrote (λ v o. progress (suc (length w.ends)) v o) after (freed c) rest k) none
      ∙ steady (suc (length w.ends)) (bound after) after rest fine room (enough after rest) in
      subst (λ l. Midway script l after rest more) (sym (append-nil es) ∙ ap (λ l. es ++ l) (sym none)) (record {
        passed = m.passed;
        all_rest = m.all_rest;
        goes = m.goes;
        nothing_owed = m.nothing_owed;
        next = m.next ∙ ap (λ p. line_worked (λ v ws. from_lines more v ws) m.passed more p) so;
        fine = fine;
        lines = m.lines;
      })
    where
      silent_room : (does w c).entries ≡ [] → Enough (suc (length w.ends)) (does w c).world rest
      silent_room = subst (Goes_silent (suc (length w.ends))) is (silent_next (suc (length w.ends)) w work (enough w work))

-- THE LINE RESTS
pub comes_to_rest : (script : List Line) (es : List Entry) (w v : World) (work : Work) (more : List Line) → Midway script es w work more → next_of w work ≡ rests v → Midway script es v resting more
comes_to_rest script es w v work more m is = record {
  passed = m.passed;
  all_rest = m.all_rest;
  goes = m.goes;
  nothing_owed = m.nothing_owed;
  next = m.next ∙ ap (λ x. line_worked (λ v ws. from_lines more v ws) m.passed more (went (λ v o. progress (suc (length w.ends)) v o) x)) is;
  fine = tt;
  lines = m.lines;
}

all_and_one : (xs : List World) (x : World) → AllByRecursion RestsWell xs → RestsWell x → AllByRecursion RestsWell (xs ++ x ∷ [])
all_and_one [] x a h = (h, tt)
all_and_one (y ∷ ys) x a h = (a.0, all_and_one ys x a.1 h)

-- THE NEXT LINE
pub line_begins : (script : List Line) (es : List Entry) (w : World) (line : Line) (more : List Line) → Midway script es w resting (line ∷ more) → RestsWell w → refused w line ≡ None
    → Midway script es w (work_of w line) more
line_begins script es w line more m rest ok = record {
  passed = m.passed ++ w ∷ [];
  all_rest = all_and_one m.passed w m.all_rest rest;
  goes = m.goes;
  nothing_owed = m.nothing_owed;
  next = m.next ∙ ap (λ o. unless_refused o (onwards more (m.passed ++ w ∷ []) w (work_of w line)) (scene_of (rested w) (m.passed ++ w ∷ []) (line ∷ more))) ok;
  fine = line_fine w line m.lines.0 ok;
  lines = m.lines.1;
}

-- ALL LINES ARE DONE
pub all_done : (script : List Line) (es : List Entry) (w : World) → Midway script es w resting [] → RestsWell w → Lawful script es
all_done script es w m rest = record {
  goes = m.goes;
  through = record {
    nothing_owed = ap (λ (x : Scene). x.owing) m.next;
    no_line_left = ap (λ (x : Scene). x.left) m.next;
    all_rest = subst (λ (x : Scene). AllByRecursion RestsWell x.passed) (sym m.next) (all_and_one m.passed w m.all_rest rest);
  };
}
