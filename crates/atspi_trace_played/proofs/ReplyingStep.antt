-- A reader takes the letter at the front of its down link: what stands of the world before and behind that.
use Rattle.std.proofs.Common.{◌≡◌, ℕ, zero, suc, ◌≤◌, true, false, List, [], ◌∷◌, ◌++◌, length, Option, None, Some, refl, sym, ap, ◌∙◌, arith}
use Rattle.std.specs.Prelude.{if◌then◌else◌}
use Rattle.atspi_script_lines.specs.declared.line.Line.{Line}
use Rattle.atspi_script_lines.specs.declared.line.Party.TheVariants.{Registry, Reader}
use Rattle.atspi_trace.specs.Entry.{Entry, got}
use Rattle.atspi_trace.specs.World.{Standing, here, stopped, away, a_reader, Hearer, Letter, End, World}
use Rattle.atspi_trace.specs.Ends.{is_here, same_party, number_of, end_at, with_end, taken_down}
use Rattle.atspi_trace.specs.Hearing.{hears_letter, heard_entries}
use Rattle.atspi_trace.specs.Causes.{Done, gets, on_end, taken, took, does}
use Rattle.atspi_trace.specs.Due.{is_lost}
use Rattle.atspi_trace_laws.proofs.OfOrder.Parties.{same_some, party-same, false_true}
use Rattle.atspi_trace_laws.proofs.OfOrder.Allowed.{Allowed}
use Rattle.atspi_trace_laws.proofs.OfOrder.Shape.{Shape}
use Rattle.atspi_trace_laws.proofs.OfOrder.Shaped.{received_at, one_end}
use Rattle.atspi_trace_laws.proofs.OfOrder.Frame.{at_changed}
use Rattle.atspi_trace_laws.proofs.OfOrder.Effects.{received}
use Rattle.atspi_trace_laws.proofs.OfOrder.Along.{Keeps}
use Rattle.atspi_trace_laws.proofs.OfOrder.Growing.{Shaped}
use Rattle.atspi_trace_laws.proofs.OfOrder.Lives.{here_lives}
use Rattle.atspi_trace_laws.proofs.OfOwn.Writing.{Lives}
use Rattle.atspi_trace_caches.proofs.OfSettled.Settling_ground as under
use Rattle.atspi_trace_caches.proofs.OfSettled.Settling_ground.{ground_keep, Grounds, grounds}
use Rattle.atspi_trace_played.proofs.Facts.{Ground}

-- a reader that is here, with a letter at the front of its down link
pub record Gets (w : World) (conn r : ℕ) (e : End) (h : Hearer) (letter : Letter) (rest : List Letter) : Type 0 where
  pub there : end_at w.ends conn ≡ Some e
  pub whose : e.who ≡ Reader r
  pub standing : e.standing ≡ here
  pub role : e.role ≡ a_reader h
  pub link : e.down ≡ letter ∷ rest

-- who is at another place is not changed
pub at_other : (f : End → End) (ends : List End) (conn k : ℕ) (d : End) → (k ≡ conn → ⊥) → end_at ends k ≡ Some d → end_at (with_end conn f ends) k ≡ Some d
at_other f [] zero k d other h = h
at_other f [] (suc conn) k d other h = h
at_other f (x ∷ xs) zero zero d other h = absurd (other refl)
at_other f (x ∷ xs) zero (suc k) d other h = h
at_other f (x ∷ xs) (suc conn) zero d other h = h
at_other f (x ∷ xs) (suc conn) (suc k) d other h = at_other f xs conn k d (λ e. other (ap suc e)) h

-- the registry is here
module _ (script : List Line) (es : List Entry) (w : World) (free : Option ℕ) (g : Ground script es w free) where
  pub facts : Shaped under.Ground es w free
  facts = g.kept (Shaped under.Ground) ground_keep

  pub shape : Shape w
  shape = facts.0

  pub its : Grounds es w
  its = grounds es w facts.1

  abbrev stands_if : Option End → Type 0
  stands_if None = ⊥
  stands_if (Some e) = e.standing ≡ here

  pub registry_here : (e : End) × (end_at w.ends 0 ≡ Some e) × (e.standing ≡ here)
  registry_here = by w.ends (one_end w shape) g.here refl
    where
      stands : (st : Standing) → (if is_here st then false else true) ≡ false → st ≡ here
      stands here f = refl
      stands stopped f = absurd (false_true (sym f))
      stands away f = absurd (false_true (sym f))

      by : (ends : List End) → 1 ≤ length ends → is_lost (record w { ends = ends }) ≡ false → w.ends ≡ ends → (e : End) × (end_at ends 0 ≡ Some e) × (e.standing ≡ here)
      by [] some found is = absurd (omega (arith, some))
      by (x ∷ xs) some found is = (x, refl, stands x.standing found)

  pub live : Lives es
  live =
      let x = registry_here in
      here_lives es w Registry shape its.out its.started (record { conn = 0; e = x.0; there = x.1; whose = shape.registry x.0 x.1; standing = x.2 })

-- BEHIND THE LETTER
module _ (script : List Line) (es : List Entry) (w : World) (g : Ground script es w None) (conn r : ℕ) (e : End) (h : Hearer) (letter : Letter) (rest : List Letter) (x : Gets w conn r e h letter rest) where
  abbrev pub v : World
  v = received w conn e letter

  abbrev pub hearer : Hearer
  hearer = hears_letter h v.ends letter

  abbrev pub ys : List Entry
  ys = (does w (gets conn)).entries

  abbrev pub after : World
  after = (does w (gets conn)).world

  allowed : Allowed w (gets conn)
  allowed = (e, letter, rest, record { there = x.there; standing = x.standing }, x.link)

  pub kept_after : (Inv : List Entry → World → Option ℕ → Type 0) → Keeps Inv → Inv (es ++ ys) after (Some conn)
  kept_after Inv k = k.caused es w (gets conn) (g.kept Inv k) allowed

  pub done_is : does w (gets conn) ≡ took v conn letter e.who (a_reader h)
  done_is = ap (λ o. on_end w o (λ e. taken w conn e e.down)) x.there ∙ ap (taken w conn e) x.link ∙ ap (took v conn letter e.who) x.role

  pub ends_are : after.ends ≡ with_end conn (λ d. record d { role = a_reader hearer }) v.ends
  ends_are = ap (λ (d : Done). d.world.ends) done_is

  pub wrote : ys ≡ got (Reader r) letter.from letter.said.message.serial ∷ heard_entries r h v.ends letter
  wrote = ap (λ (d : Done). d.entries) done_is ∙ ap (λ p. got p letter.from letter.said.message.serial ∷ heard_entries (number_of p) h v.ends letter) x.whose

  abbrev pub its_end : End
  its_end = record (taken_down e) { role = a_reader hearer }

  pub end_after : end_at after.ends conn ≡ Some its_end
  end_after = ap (λ l. end_at l conn) ends_are ∙ at_changed (λ d. record d { role = a_reader hearer }) v.ends conn (taken_down e) (received_at w conn e letter x.there)

  -- whoever else was there
  pub other_after : (k : ℕ) (d : End) → (d.who ≡ Reader r → ⊥) → end_at w.ends k ≡ Some d → end_at after.ends k ≡ Some d
  other_after k d other there =
      ap (λ l. end_at l k) ends_are
      ∙ at_other (λ d. record d { role = a_reader hearer }) v.ends conn k d elsewhere (at_other taken_down w.ends conn k d elsewhere there)
    where
      elsewhere : k ≡ conn → ⊥
      elsewhere is = other (ap (λ (z : End). z.who) (same_some d e (sym there ∙ ap (end_at w.ends) is ∙ x.there)) ∙ x.whose)

  pub facts_after : Shaped under.Ground (es ++ ys) after (Some conn)
  facts_after = kept_after (Shaped under.Ground) ground_keep

  pub shape_after : Shape after
  shape_after = facts_after.0

  pub its_after : Grounds (es ++ ys) after
  its_after = grounds (es ++ ys) after facts_after.1

  pub live_after : Lives (es ++ ys)
  live_after =
      let d = registry_here script es w None g in
      let who : d.0.who ≡ Registry = (shape script es w None g).registry d.0 d.1 in
      here_lives (es ++ ys) after Registry shape_after its_after.out its_after.started
      (record { conn = 0; e = d.0; there = other_after 0 d.0 (λ is. false_true (ap (λ p. same_party p (Reader r)) (sym who ∙ is) ∙ party-same (Reader r))) d.1; whose = who; standing = d.2 })
