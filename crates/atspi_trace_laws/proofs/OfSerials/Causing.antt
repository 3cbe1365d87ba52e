-- Each cause lets one party speak, or none but the bus.
use Rattle.std.proofs.Common.{◌≡◌, ◌⊎◌, inl, inr, ℕ, suc, ◌+◌, List, [], ◌∷◌, ◌++◌, map, Some, refl, sym, ap, ◌∙◌, subst, arith}
use Rattle.std.specs.Prelude.{Ok}
use Rattle.atspi_tree_model.specs.declared.edit.Edit.{Edit}
use Rattle.atspi_script_lines.specs.declared.line.Party.{Party}
use Rattle.atspi_script_lines.specs.declared.line.Party.TheVariants.{App}
use Rattle.atspi_message.specs.Envelope.{Envelope}
use Rattle.atspi_protocol.specs.ends.Messages.{numbered}
use Rattle.atspi_protocol.specs.registering.Steps.{registry_takes}
use Rattle.atspi_protocol.specs.exporting.Exporter.{Exporter}
use Rattle.atspi_protocol.specs.exporting.Taking.{app_edits, app_takes}
use Rattle.atspi_protocol.specs.exporting.Laws.{numbers_among, rising, Counts, CountsIfDone}
use Rattle.atspi_protocol.proofs.OfExporting.Rising.{numbers_rise}
use Rattle.atspi_protocol.specs.following.Calls.{user_call}
use Rattle.atspi_trace.specs.Entry.{Entry, sent, got}
use Rattle.atspi_trace.specs.World.{Letter, Hearer, End, World}
use Rattle.atspi_trace.specs.Ends.{whose, end_at, taken_down}
use Rattle.atspi_trace.specs.Causes.{Done, did, has_done, reader_sends, registry_did}
use Rattle.atspi_trace_laws.proofs.OfOrder.Frame.{Over, over_same, over_with}
use Rattle.atspi_trace_laws.proofs.OfOrder.Shape.{Lasts, Shape}
use Rattle.atspi_trace_laws.proofs.OfOrder.Effects.{received, AppEdits, AppTakes, ReaderCalls, RegistryTakes}
use Rattle.atspi_trace_laws.proofs.OfOrder.Shaped.{received_at, edits_over, app_takes_over, calls_over, registry_over}
use Rattle.atspi_trace_laws.proofs.OfOrder.Acts.{number_at}
use Rattle.atspi_trace_laws.proofs.OfSerials.Serial.{Rises, sent_count, did_rises, numbered_rises}
use Rattle.atspi_trace_laws.proofs.OfSerials.Speaking.{next_of, SameNext, same_next, changed_next, IsNumbered, registry_numbered}
use Rattle.atspi_trace_laws.proofs.OfSerials.Numbers.{known_not_fresh, fresh_over, Speaks}

-- a world's ends behind a message that went from a down link
down_next : (e : End) → SameNext e (taken_down e)
down_next e = record { whose = refl; next = refl }

pub received_next : (w : World) (conn : ℕ) (e : End) (letter : Letter) → Over SameNext w.ends (received w conn e letter).ends
received_next w conn e letter = over_with SameNext same_next taken_down down_next conn w.ends

-- an end that is known speaks
module _ (w v : World) (ys : List Entry) (s : Shape w) (conn n : ℕ) (e f : End) (who : Party) (there : end_at w.ends conn ≡ Some e) (is : e.who ≡ who) (o : Over Lasts w.ends v.ends) (rises : Rises who n ys)
    (same : f.who ≡ e.who) (next : next_of f.role ≡ n + sent_count ys)
    (ends : (k : ℕ) (x : End) → end_at v.ends k ≡ Some x → ((k ≡ conn) × (x ≡ f)) ⊎ ((k ≡ conn → ⊥) × (y : End) × (end_at w.ends k ≡ Some y) × SameNext y x)) where
  pub known_speaks : Speaks w v ys who n
  known_speaks = record {
    rises = rises;
    ends = λ k x h. by k x (ends k x h);
    not_fresh = λ fresh. known_not_fresh w conn e who s there is (fresh_over w v o who fresh);
    grown = fresh_over w v o;
  }
    where
      by : (k : ℕ) (x : End) → ((k ≡ conn) × (x ≡ f)) ⊎ ((k ≡ conn → ⊥) × (y : End) × (end_at w.ends k ≡ Some y) × SameNext y x)
          → ((x.who ≡ who) × (next_of x.role ≡ n + sent_count ys)) ⊎ ((x.who ≡ who → ⊥) × (y : End) × (end_at w.ends k ≡ Some y) × SameNext y x)
      by k x (inl g) = inl (ap (λ (z : End). z.who) g.1 ∙ same ∙ is, ap (λ (z : End). next_of z.role) g.1 ∙ next)
      by k x (inr g) = inr ((λ at. g.0 (s.one k conn g.1 e g.2 there (sym g.3.whose ∙ at ∙ sym is))), g.1, g.2, g.3)

-- an application
pub numbers_of : (s t : Exporter) (c : Counts s t) → s.out ≡ [] → numbers_among t.out ≡ rising c.count s.next
numbers_of s t c h = c.numbers ∙ ap (λ hs. numbers_among hs ++ rising c.count s.next) h

pub counted : (s t : Exporter) (edit : Edit) → app_edits s edit ≡ Ok t → Counts s t
counted s t edit h = subst (CountsIfDone s) h (numbers_rise.edited s edit)

pub edit_speaks : (w : World) (d : Done) (s : Shape w) (b : AppEdits w d) → b.before.out ≡ [] → Speaks w d.world d.entries (App b.app) b.before.next
edit_speaks w d s b empty =
    let c : Counts b.before b.after = counted b.before b.after b.edit b.done in
    let r = did_rises b.app c.count b.before.next b.after.out (numbers_of b.before b.after c empty) in
    let wrote : d.entries ≡ map (did b.app) b.after.out = ap (λ x. x.entries) b.is ∙ ap (λ n. map (did n) b.after.out) (number_at w.ends b.conn b.app b.e b.is_here.there b.whose) in
    subst (λ ys. Speaks w d.world ys (App b.app) b.before.next) (sym wrote)
    (known_speaks w d.world (map (did b.app) b.after.out) s b.conn b.before.next b.e (has_done b.before b.after b.e) (App b.app) b.is_here.there b.whose (edits_over w d b) r.0 refl
    (c.next ∙ ap (λ n. b.before.next + n) (sym r.1))
    (subst (λ x. (k : ℕ) (y : End) → end_at x.world.ends k ≡ Some y → ((k ≡ b.conn) × (y ≡ has_done b.before b.after b.e)) ⊎ ((k ≡ b.conn → ⊥) × (z : End) × (end_at w.ends k ≡ Some z) × SameNext z y)) (sym b.is)
    (changed_next (has_done b.before b.after) b.conn b.e w.ends w.ends (over_same SameNext same_next w.ends) b.is_here.there)))

pub take_speaks : (w : World) (d : Done) (s : Shape w) (b : AppTakes w d) → b.before.out ≡ [] → Speaks w d.world d.entries (App b.app) b.before.next
take_speaks w d s b empty =
    let t : Exporter = app_takes b.before b.letter.said.message in
    let c : Counts b.before t = numbers_rise.taken b.before b.letter.said.message in
    let r = did_rises b.app c.count b.before.next t.out (numbers_of b.before t c empty) in
    let first : Entry = got b.e.who b.letter.from b.letter.said.message.serial in
    let wrote : d.entries ≡ first ∷ map (did b.app) t.out =
    ap (λ x. x.entries) b.is ∙ ap (λ n. first ∷ map (did n) t.out) (number_at (received w b.conn b.e b.letter).ends b.conn b.app (taken_down b.e) (received_at w b.conn b.e b.letter b.is_here.there) b.whose) in
    subst (λ ys. Speaks w d.world ys (App b.app) b.before.next) (sym wrote)
    (known_speaks w d.world (first ∷ map (did b.app) t.out) s b.conn b.before.next b.e (has_done b.before t (taken_down b.e)) (App b.app) b.is_here.there b.whose (app_takes_over w d b) r.0 refl
    (c.next ∙ ap (λ n. b.before.next + n) (sym r.1))
    (subst (λ x. (k : ℕ) (y : End) → end_at x.world.ends k ≡ Some y → ((k ≡ b.conn) × (y ≡ has_done b.before t (taken_down b.e))) ⊎ ((k ≡ b.conn → ⊥) × (z : End) × (end_at w.ends k ≡ Some z) × SameNext z y)) (sym b.is)
    (changed_next (has_done b.before t) b.conn (taken_down b.e) w.ends (received w b.conn b.e b.letter).ends (received_next w b.conn b.e b.letter) (received_at w b.conn b.e b.letter b.is_here.there))))

-- the registry
pub registry_speaks : (w : World) (d : Done) (s : Shape w) (b : RegistryTakes w d) → Speaks w d.world d.entries b.e.who b.before.next
registry_speaks w d s b =
    let step = registry_takes b.before b.letter.said.message in
    let c : IsNumbered b.before step = registry_numbered b.before b.letter.said.message in
    let r = numbered_rises b.e.who b.before.next c.said in
    let first : Entry = got b.e.who b.letter.from b.letter.said.message.serial in
    let wrote : d.entries ≡ first ∷ map (sent b.e.who) (numbered b.before.next c.said) = ap (λ x. x.entries) b.is ∙ ap (λ es. first ∷ map (sent b.e.who) es) c.sent in
    subst (λ ys. Speaks w d.world ys b.e.who b.before.next) (sym wrote)
    (known_speaks w d.world (first ∷ map (sent b.e.who) (numbered b.before.next c.said)) s b.conn b.before.next b.e (registry_did step (taken_down b.e)) b.e.who b.is_here.there refl (registry_over w d b) r.0 refl
    (c.next ∙ ap (λ n. b.before.next + n) (sym r.1))
    (subst (λ x. (k : ℕ) (y : End) → end_at x.world.ends k ≡ Some y → ((k ≡ b.conn) × (y ≡ registry_did step (taken_down b.e))) ⊎ ((k ≡ b.conn → ⊥) × (z : End) × (end_at w.ends k ≡ Some z) × SameNext z y)) (sym b.is)
    (changed_next (registry_did step) b.conn (taken_down b.e) w.ends (received w b.conn b.e b.letter).ends (received_next w b.conn b.e b.letter) (received_at w b.conn b.e b.letter b.is_here.there))))

-- a reader, for its user
pub call_speaks : (w : World) (d : Done) (s : Shape w) (b : ReaderCalls w d) → Speaks w d.world d.entries b.e.who b.hearer.next
call_speaks w d s b =
    let m : Envelope = user_call b.hearer.next b.name b.node b.deed in
    let h : Hearer = record b.hearer { next = suc b.hearer.next } in
    let wrote : d.entries ≡ sent b.e.who m ∷ [] = ap (λ x. x.entries) b.is ∙ ap (λ o. sent (whose o) m ∷ []) b.is_here.there in
    let one : suc b.hearer.next ≡ b.hearer.next + 1 = omega arith in
    subst (λ ys. Speaks w d.world ys b.e.who b.hearer.next) (sym wrote)
    (known_speaks w d.world (sent b.e.who m ∷ []) s b.conn b.hearer.next b.e (reader_sends h m b.e) b.e.who b.is_here.there refl (calls_over w d b) (refl, refl, tt) refl one
    (subst (λ x. (k : ℕ) (y : End) → end_at x.world.ends k ≡ Some y → ((k ≡ b.conn) × (y ≡ reader_sends h m b.e)) ⊎ ((k ≡ b.conn → ⊥) × (z : End) × (end_at w.ends k ≡ Some z) × SameNext z y)) (sym b.is)
    (changed_next (reader_sends h m) b.conn b.e w.ends w.ends (over_same SameNext same_next w.ends) b.is_here.there)))
