-- WHAT A LINE AND A TURN CHANGE OF THE ENDS: what each of the few changes of an end keeps, all of them keep.
use Rattle.std.proofs.Common.{◌≡◌, ◌⊎◌, inl, inr, ℕ, ◌≤◌, List, [], ◌∷◌, ◌++◌, length, map, refl, sym, subst}
use Rattle.std.proofs.lemmas.Bool.{ltb-false}
use Rattle.atspi_script_lines.specs.declared.line.Line.{Line}
use Rattle.atspi_message.specs.Envelope.{Envelope}
use Rattle.atspi_match.specs.routing.Queues.{Bus}
use Rattle.atspi_protocol.specs.registering.Steps.{registry_takes}
use Rattle.atspi_protocol.specs.exporting.Taking.{app_takes}
use Rattle.atspi_protocol.specs.declared.following.question.Question.{Question}
use Rattle.atspi_trace.specs.World.{Role, the_registry, an_application, a_reader, Said, Letter, End, World, first_world}
use Rattle.atspi_trace.specs.Ends.{with_end, plain, put_up, put_down, taken_up, taken_down, leaves}
use Rattle.atspi_trace.specs.Carrying.{own_letter, letter_of, named}
use Rattle.atspi_trace.specs.Hearing.{hears_letter}
use Rattle.atspi_trace.specs.Causes.{Cause, Done, has_done, registry_did, at_end}
use Rattle.atspi_trace.specs.Due.{asks_as, asks_at}
use Rattle.atspi_trace_laws.proofs.OfOrder.Frame.{Over, IsOrder, over_same, over_both, over_with, takes_over, ends_over}
use Rattle.atspi_trace_laws.proofs.OfOrder.Effects.{received, Stopping, BusTakes, BusEnds}
use Rattle.atspi_trace_laws.proofs.OfOrder.Shape.{IsNew}
use Rattle.atspi_trace_laws.proofs.OfOrder.Shaped.{new_app, new_reader, app_joined}
use Rattle.atspi_headline_laws.proofs.Acting.{LineDid, renewed, app_began, reader_began, edited_app, called_app, swapped, app_stopped, reader_stopped, showed, TurnDid, told_busy, told_quiet, bus_took, bus_ended, registry_took, app_took, reader_took}

-- AN END changes as it speaks and as it takes a message
pub record Speaks (R : End → End → Type 0) : Type 0 where
  pub order : IsOrder R
  pub says_ : (saids : List Said) (role : Role) (e : End) → R e (put_up saids (record e { role = role }))
  pub plays_ : (role : Role) (e : End) → R e (record e { role = role })
  pub takes_ : (e : End) → R e (taken_down e)

-- and as the bus takes a message of it, hands it one, names it, and closes it
pub record Changes (R : End → End → Type 0) : Type 0 where
  pub speaks : Speaks R
  pub taken_ : (e : End) → R e (taken_up e)
  pub handed_ : (letter : Letter) (e : End) → R e (put_down letter e)
  pub named_ : (b : Bus) (conn : ℕ) (e : End) → R e (named b conn e)
  pub left_ : (e : End) → R e (leaves e)

-- A LINE: the ends change so; one stops; one joins; or nobody had joined
pub data LineChange (R : End → End → Type 0) (w : World) (d : Done) : Type 0 where
  lasted : Over R w.ends d.world.ends → LineChange R w d
  stopped_ : Stopping w d → LineChange R w d
  joined_ : (n : End) → IsNew w n.who → d.world.ends ≡ w.ends ++ n ∷ [] → (n ≡ new_reader w) ⊎ ((name : List ℕ) × (n ≡ new_app w name)) → LineChange R w d
  anew_ : (quota : ℕ) → length w.ends ≤ 1 → d.world ≡ first_world quota → LineChange R w d

module _ (R : End → End → Type 0) (s : Speaks R) where
  -- one took a message and did something
  pub got_over : (w : World) (conn : ℕ) (f : End → End) → ((e : End) → R e (f e)) → Over R w.ends (with_end conn f (with_end conn taken_down w.ends))
  got_over w conn f r =
      over_both R s.order w.ends (with_end conn taken_down w.ends) (with_end conn f (with_end conn taken_down w.ends)) (over_with R s.order taken_down s.takes_ conn w.ends)
      (over_with R s.order f r conn (with_end conn taken_down w.ends))

  asks_fine : (m : Envelope) (question : Question) (e : End) → R e (asks_at m question e)
  asks_fine m question e = by e.role
    where
      by : (role : Role) → R e (asks_as role m question e)
      by (a_reader h) = s.says_ (plain m ∷ []) _ e
      by (the_registry x) = s.order.same e
      by (an_application x) = s.order.same e

  pub asked_over : (w : World) (conn : ℕ) (m : Envelope) (question : Question) → Over R w.ends (at_end w conn (asks_at m question)).ends
  asked_over w conn m question = over_with R s.order (asks_at m question) (asks_fine m question) conn w.ends

  -- A TURN, but for what the bus does
  pub turn_but : (w : World) (c : Cause) (d : Done) → TurnDid w c d → (BusTakes w d ⊎ BusEnds w d) ⊎ Over R w.ends d.world.ends
  turn_but w _ _ (told_busy turns) = inr (over_same R s.order w.ends)
  turn_but w _ _ (told_quiet none) = inr (over_same R s.order w.ends)
  turn_but w _ _ (bus_took d b) = inl (inl b)
  turn_but w _ _ (bus_ended d b) = inl (inr b)
  turn_but w _ _ (registry_took d b) =
      inr (subst (λ (x : Done). Over R w.ends x.world.ends) (sym b.is)
      (got_over w b.conn (registry_did (registry_takes b.before b.letter.said.message)) (λ e. s.says_ (map plain (registry_takes b.before b.letter.said.message).sent) _ e)))
  turn_but w _ _ (app_took d b) =
      inr (subst (λ (x : Done). Over R w.ends x.world.ends) (sym b.is) (got_over w b.conn (has_done b.before (app_takes b.before b.letter.said.message)) (λ e. s.says_ _ _ e)))
  turn_but w _ _ (reader_took d b) =
      inr (subst (λ (x : Done). Over R w.ends x.world.ends) (sym b.is)
      (got_over w b.conn (λ x. record x { role = a_reader (hears_letter b.hearer (received w b.conn b.e b.letter).ends b.letter) }) (λ e. s.plays_ _ e)))

  pub line_change : (w : World) (line : Line) (d : Done) → LineDid w line d → LineChange R w d
  line_change w _ _ (renewed quota few) = anew_ quota (ltb-false 1 (length w.ends) few) refl
  line_change w _ _ (app_began name short few) = joined_ (new_app w name) refl (app_joined w name) (inr (name, refl))
  line_change w _ _ (reader_began few) = joined_ (new_reader w) refl refl (inl refl)
  line_change w _ _ (edited_app app conn edit e before after h who role done_ can) = lasted (over_with R s.order (has_done before after) (λ x. s.says_ _ _ x) conn w.ends)
  line_change w _ _ (called_app reader app node conn deed e hearer h who role) = lasted (over_with R s.order _ (λ x. s.says_ _ _ x) conn w.ends)
  line_change w _ _ (swapped app) = lasted (over_same R s.order w.ends)
  line_change w _ _ (app_stopped app d b who) = stopped_ b
  line_change w _ _ (reader_stopped reader d b who) = stopped_ b
  line_change w _ _ (showed reader app conn e hearer there who role) = lasted (over_same R s.order w.ends)

module _ (R : End → End → Type 0) (s : Changes R) where
  bus_takes_over : (w : World) (d : Done) → BusTakes w d → Over R w.ends d.world.ends
  bus_takes_over w d b =
      subst (λ (x : Done). Over R w.ends x.world.ends) (sym b.is)
      (takes_over R s.speaks.order (λ m e. s.handed_ (own_letter m) e) s.left_ s.named_ s.taken_ (record { bus = w.bus; ends = w.ends }) b.conn b.e.who b.said (λ m e. s.handed_ (letter_of b.e.who b.said m) e))

  bus_ends_over : (w : World) (d : Done) → BusEnds w d → Over R w.ends d.world.ends
  bus_ends_over w d b =
      subst (λ (x : Done). Over R w.ends x.world.ends) (sym b.is) (ends_over R s.speaks.order (λ m e. s.handed_ (own_letter m) e) s.left_ (record { bus = w.bus; ends = w.ends }) b.conn)

  pub turn_over : (w : World) (c : Cause) (d : Done) → TurnDid w c d → Over R w.ends d.world.ends
  turn_over w c d t = by (turn_but R s.speaks w c d t)
    where
      by : (BusTakes w d ⊎ BusEnds w d) ⊎ Over R w.ends d.world.ends → Over R w.ends d.world.ends
      by (inl (inl b)) = bus_takes_over w d b
      by (inl (inr b)) = bus_ends_over w d b
      by (inr o) = o
