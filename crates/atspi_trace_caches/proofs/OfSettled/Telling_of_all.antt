-- TOLD OF EACH: where nothing waits, a reader that began well, and whose call for the registry's children was returned, knows the name of each application that is here.
use Rattle.std.proofs.Common.{◌≡◌, inr, ℕ, ◌+◌, ◌<◌, ◌≤◌, Bool, true, false, List, [], ◌∷◌, ◌++◌, length, Some, refl, sym, ap, ◌∙◌, subst, arith}
use Rattle.std.specs.Prelude.{nat_lt}
use Rattle.std.specs.List.{AllByRecursion}
use Rattle.std.proofs.lemmas.Bool.{ltb-true, ltb-false}
use Rattle.std.proofs.lemmas.List.{append_assoc}
use Rattle.atspi_script_lines.specs.declared.line.Party.{Party}
use Rattle.atspi_script_lines.specs.declared.line.Party.TheVariants.{Bus as The_bus, Registry, App, Reader}
use Rattle.atspi_message.specs.Envelope.{Envelope}
use Rattle.atspi_protocol.specs.declared.following.question.Question.TheVariants.{GetChildren}
use Rattle.atspi_protocol.specs.registering.RegistryState.{RegistryState}
use Rattle.atspi_protocol.specs.exporting.Exporter.{Phase, new, awaits, over, Exporter}
use Rattle.atspi_trace.specs.Entry.{Entry}
use Rattle.atspi_trace.specs.World.{here, returned, Asked, Hearer, Role, the_registry, an_application, a_reader, End, World}
use Rattle.atspi_trace.specs.Ends.{is_here, same_party, end_at}
use Rattle.atspi_trace_laws.specs.laws.Words.{message}
use Rattle.atspi_trace_caches.specs.settled.Laws.{NothingWaits, BeginsWell}
use Rattle.atspi_trace_laws.proofs.OfOrder.Parties.{no_none, false_true}
use Rattle.atspi_trace_laws.proofs.OfOrder.Along.{Keeps}
use Rattle.atspi_trace_laws.proofs.OfOrder.Acts.{IsActive}
use Rattle.atspi_trace_laws.proofs.OfOrder.Growing.{Shaped, And}
use Rattle.atspi_trace_laws.proofs.OfOrder.Shape.{Shape, RoleFits}
use Rattle.atspi_trace_laws.proofs.OfReaders.Fates.{both_keep}
use Rattle.atspi_trace_laws.proofs.OfSerials.Speaking.{next_of}
use Rattle.atspi_trace_laws.proofs.OfOwn.Writing.{Lives}
use Rattle.atspi_trace_laws.proofs.OfTaken.LawTaken.{not_sent_at}
use Rattle.atspi_trace_laws.proofs.OfLinks.LawLinks.{first_unread, IsLinked, Linked}
use Rattle.atspi_trace_caches.proofs.OfServed.Facts.{Embeds}
use Rattle.atspi_trace_caches.proofs.OfSettled.Facts.{StartsReturn, AllReplied, AllTold, IsIn}
use Rattle.atspi_trace_caches.proofs.OfSettled.Settling_down.{AllBegun}
use Rattle.atspi_trace_caches.proofs.OfSettled.Settling_ground.{Grounds, grounds, unique_is}
use Rattle.atspi_trace_caches.proofs.OfSettled.Settling_starts.{Under_returns, returns_keep}
use Rattle.atspi_trace_caches.proofs.OfSettled.ReplyingLaw.{still_of}
use Rattle.atspi_trace_caches.proofs.OfSettled.Embedding.{HasEmbedded}
use Rattle.atspi_trace_caches.proofs.OfSettled.TellingAsked.{IsWell}
use Rattle.atspi_trace_caches.proofs.OfSettled.TellingKept.{Telling, Under_telling, telling_keep}
use Rattle.atspi_trace_caches.proofs.OfSettled.TellingHeardAll.{Attending, Under_attending, attending_keep}
use Rattle.atspi_trace_caches.proofs.OfSettled.TellingPlace.{get_is_well}
use Rattle.atspi_trace_caches.proofs.OfSettled.TellingLaw.{told_at_rest}
use Rattle.atspi_trace_caches.proofs.OfSettled.Adopting.{Under_adopting, Adopted, adopted_keep, role_app}

-- THE LAYERS
abbrev pub Returning : List Entry → World → Type 0
Returning es w = And Under_returns StartsReturn es w

pub starts : (es : List Entry) (w : World) → Returning es w → StartsReturn es w
starts es w f = f.1

abbrev pub Tells_all : List Entry → World → Type 0
Tells_all es w = And (Under_telling Returning starts returns_keep) Telling es w

abbrev pub Hears_all : List Entry → World → Type 0
Hears_all es w = And (Under_attending Returning starts returns_keep) Attending es w

abbrev pub Under_told_of : List Entry → World → Type 0
Under_told_of es w = And Tells_all (And Hears_all (And Under_adopting Adopted)) es w

pub told_keep : Keeps (Shaped Under_told_of)
told_keep =
    both_keep Tells_all (And Hears_all (And Under_adopting Adopted)) (telling_keep Returning starts returns_keep)
    (both_keep Hears_all (And Under_adopting Adopted) (attending_keep Returning starts returns_keep) adopted_keep)

-- THE REGISTRY'S END
registry_role : (who : Party) (role : Role) → who ≡ Registry → RoleFits who role → (t : RegistryState) × (role ≡ the_registry t)
registry_role Registry (the_registry t) h f = (t, refl)
registry_role Registry (an_application s) h f = absurd f
registry_role Registry (a_reader g) h f = absurd f
registry_role The_bus role h f = absurd (false_true (ap (λ p. same_party p Registry) h))
registry_role (App a) role h f = absurd (false_true (ap (λ p. same_party p Registry) h))
registry_role (Reader r) role h f = absurd (false_true (ap (λ p. same_party p Registry) h))

module _ (es : List Entry) (w : World) (sh : Shape w) (u : Under_told_of es w) (replied : AllReplied w) (begun : Lives es → AllBegun w) (waits : NothingWaits w) (live : Lives es) where
  below : Under_adopting es w
  below = u.1.1.0

  g : Grounds es w
  g = grounds es w below.0

  links : Linked es w
  links = below.0.1.1.0.0.0.0.1.1.0.1.1

  active : IsActive w Registry
  active = g.present Registry (λ h. false_true (ap (λ p. same_party p Registry) (sym h))) live live

  state : (t : RegistryState) × (active.e.role ≡ the_registry t)
  state = registry_role active.e.who active.e.role active.whose (sh.roles active.conn active.e active.there)

  -- the bus took all that it sent
  all_taken : (n : ℕ) (m : Envelope) → message es Registry n ≡ Some m → n < first_unread es Registry
  all_taken n m found = by (nat_lt n (first_unread es Registry)) refl
    where
      no_up : active.e.up ≡ []
      no_up = ((still_of w waits active.conn active.e active.there).0 active.standing).0

      linked : IsLinked (first_unread es active.e.who) active.e
      linked = links.1 active.conn active.e active.there (ap is_here active.standing)

      next : next_of active.e.role ≡ first_unread es Registry
      next = linked.total ∙ sum (first_unread es active.e.who) (length active.e.up) (ap length no_up) ∙ ap (first_unread es) active.whose
        where
          sum : (a b : ℕ) → b ≡ 0 → a + b ≡ a
          sum a b h = omega (arith, h)

      none : first_unread es Registry ≤ n → ⊥
      none le = no_none m (sym (not_sent_at es w active.conn active.e Registry (first_unread es Registry) sh g.numbered active.there active.whose next n le) ∙ found)

      by : (b : Bool) → nat_lt n (first_unread es Registry) ≡ b → n < first_unread es Registry
      by true h = ltb-true n (first_unread es Registry) h
      by false h = absurd (none (ltb-false n (first_unread es Registry) h))

  -- an application that is here has embedded
  embedded : (j a : ℕ) (d : End) → end_at w.ends j ≡ Some d → d.who ≡ App a → d.standing ≡ here → HasEmbedded es a
  embedded j a d there who on = by its.0.phase refl
    where
      its : (s : Exporter) × (d.role ≡ an_application s)
      its = role_app a d.who d.role who (sh.roles j d there)

      by : (p : Phase) → its.0.phase ≡ p → HasEmbedded es a
      by new at = absurd (begun live j a d its.0 there who its.1 on at)
      by (awaits call n) at = absurd (replied.apps j a d its.0 there who its.1 on call n at)
      by over at = (below.1.1 live j a d its.0 there who its.1 on).embeds at

  module _ (k r : ℕ) (e : End) (h : Hearer) (there : end_at w.ends k ≡ Some e) (who : e.who ≡ Reader r) (role : e.role ≡ a_reader h) (on : e.standing ≡ here) (begins : BeginsWell h.asked) where
    abbrev IsTold : Asked → Type 0
    IsTold x = x.question ≡ GetChildren → x.fate ≡ returned → (j a : ℕ) (d : End) (name : List ℕ) → end_at w.ends j ≡ Some d → d.who ≡ App a → d.standing ≡ here → d.unique ≡ Some name → Embeds es a → IsIn name h.named

    one : (early late : List Asked) (x : Asked) → h.asked ≡ early ++ x ∷ late → IsTold x
    one early late x is question back j a d name at_d who_d on_d unique embeds =
        let well : IsWell h.asked x.serial = record { early = early; one = x; late = late; are = is; question = question; serial = refl; well = get_is_well early late x (subst BeginsWell is begins) question } in
        told_at_rest es w g.serials u.0.1 u.1.0.1 live all_taken active.conn active.e state.0 active.there state.1 k r e h there who role on ((still_of w waits k e there).0 on).1 x.serial well back name
        (u.1.1.1 live active.conn active.e state.0 active.there state.1 j a d at_d who_d on_d name (inr (unique_is es w sh g j a d name at_d who_d unique)) (embedded j a d at_d who_d on_d))

    rest_told : (early late : List Asked) → h.asked ≡ early ++ late → AllByRecursion IsTold late
    rest_told early [] is = tt
    rest_told early (x ∷ xs) is = (one early xs x is, rest_told (early ++ x ∷ []) xs (is ∙ sym (append_assoc early (x ∷ []) xs)))

-- WHERE NOTHING WAITS
pub all_told : (es : List Entry) (w : World) → Shape w → Under_told_of es w → AllReplied w → (Lives es → AllBegun w) → NothingWaits w → AllTold es w
all_told es w sh u replied begun waits live k r e h there who role on begins = rest_told es w sh u replied begun waits live k r e h there who role on begins [] h.asked refl
