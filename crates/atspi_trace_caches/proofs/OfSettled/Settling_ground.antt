-- What stands under the facts of "at quiet", together; and of it: who has a name, for whom each call for items is, and that an application that embedded has its name.
use Rattle.std.proofs.Common.{◌≡◌, ◌⊎◌, inl, inr, ℕ, ◌≤◌, Bool, true, false, List, [], ◌∷◌, length, map, Option, None, Some, refl, sym, ap, ◌∙◌, subst}
use Rattle.std.specs.Prelude.{◌||◌, bytes_eq, option_map, suc}
use Rattle.std.specs.List.{AllByRecursion, list_any}
use Rattle.std.proofs.lemmas.Slice.Eq.{bytes_eq-Decides}
use Rattle.atspi_base.specs.valid_names.Names.{is_bus_name}
use Rattle.atspi_names.specs.Owners.{unique_name}
use Rattle.atspi_script_lines.specs.declared.line.Party.{Party}
use Rattle.atspi_script_lines.specs.declared.line.Party.TheVariants.{Bus as The_bus, Registry, App, Reader}
use Rattle.atspi_protocol.specs.declared.following.question.Question.TheVariants.{GetItems}
use Rattle.atspi_trace.specs.Entry.{Entry}
use Rattle.atspi_trace.specs.World.{here, Asked, Role, a_reader, Hearer, End, World}
use Rattle.atspi_trace.specs.Ends.{same_party, end_at}
use Rattle.atspi_trace_laws.specs.laws.NineLaws.{StepIsOne}
use Rattle.atspi_trace_laws.specs.serials.Laws.{HasNextNumber}
use Rattle.atspi_trace_laws.specs.taken.Laws.{IsTakenAsSent}
use Rattle.atspi_trace_laws.proofs.OfOrder.Parties.{no_none, party-same, false_true}
use Rattle.atspi_trace_laws.proofs.OfOrder.Shape.{RoleFits, Shape}
use Rattle.atspi_trace_laws.proofs.OfOrder.Along.{Keeps}
use Rattle.atspi_trace_laws.proofs.OfOrder.Growing.{Shaped, Nothing, And}
use Rattle.atspi_trace_laws.proofs.OfOrder.Each.{Each}
use Rattle.atspi_trace_laws.proofs.OfOwn.Writing.{Lives}
use Rattle.atspi_trace_laws.proofs.OfSteps.Steps.{Trees}
use Rattle.atspi_trace_laws.proofs.OfSerials.Numbers.{Numbered}
use Rattle.atspi_trace_laws.proofs.OfHeld.LawHeld.{Readers}
use Rattle.atspi_trace_laws.proofs.OfTaken.LawTaken.{Known}
use Rattle.atspi_trace_laws.proofs.OfReaders.TellsBus.{Speaks_true}
use Rattle.atspi_trace_laws.proofs.OfReaders.Fates.{Fated, both_keep}
use Rattle.atspi_trace_laws.proofs.OfNames.LawNames.{IsAt, Named}
use Rattle.atspi_trace_laws.proofs.OfNames.LawEnds.{few_greeted}
use Rattle.atspi_trace_laws.proofs.OfNames.Places.{first_at, greeted, name_told, told_among}
use Rattle.atspi_trace_laws.proofs.OfSigned.Mail.{NameIs}
use Rattle.atspi_trace_laws.proofs.OfSigned.Self.{Selves, app_name}
use Rattle.atspi_trace_laws.proofs.OfSigned.LawMail.{Mail}
use Rattle.atspi_trace_laws.proofs.OfEnds.LawEnds.{Ends_told, Under_ends, ends_keep}
use Rattle.atspi_trace_laws.proofs.OfMissed.Ruled.{Ruled}
use Rattle.atspi_trace_laws.proofs.OfMissed.Registering.{name_is_bus_name}
use Rattle.atspi_trace_caches.proofs.OfServed.Returned.{Rightly}
use Rattle.atspi_trace_caches.proofs.OfServed.Spelling.{Spelled}
use Rattle.atspi_trace_caches.proofs.OfServed.ListingTold.{Embedded, Listed}
use Rattle.atspi_trace_caches.proofs.OfServed.HearingTuned.{AllTuned, Early, Late}
use Rattle.atspi_trace_caches.proofs.OfServed.AskingFrame.{IsReady, AllAsking}
use Rattle.atspi_trace_caches.proofs.OfServed.AskingAnswers.{Answered}
use Rattle.atspi_trace_caches.proofs.OfServed.LawServed.{Served_under, served_asking_keeps}
use Rattle.atspi_trace_caches.proofs.OfSettled.Facts.{IsOfApp}
use Rattle.atspi_trace_caches.proofs.OfSettled.Settling_down.{AllNamed}
use Rattle.atspi_trace_laws.proofs.OfOrder.Told.{Tells}
use Rattle.atspi_trace_laws.proofs.OfOrder.Exits.{Out, Exited}
use Rattle.atspi_trace_laws.proofs.OfOrder.Lives.{Started, starts_keep}
use Rattle.atspi_trace_laws.proofs.OfQuiet.Here.{LiveHere, Present, present_keeps}
use Rattle.atspi_trace_caches.proofs.OfSettled.Barring.{Under_barring, Barring, barring_keeps}
use Rattle.atspi_trace_caches.proofs.OfSettled.Refusing.{Refusing}
use Rattle.atspi_trace_caches.proofs.OfSettled.Answering.{Under_answering, Answering, answering_keeps}
use Rattle.atspi_trace_caches.proofs.OfSettled.Embedders.{OnlyApps, embedders_keep, an_embedder}

-- WHAT STANDS UNDER ALL
abbrev pub Ground : List Entry → World → Type 0
Ground es w =
    And (And (And Served_under AllAsking) (And (And Under_ends Ends_told) (And Nothing OnlyApps)))
    (And (And Under_barring Barring) (And (And Under_answering Answering) (And (And (And Nothing Tells) Present) (And (And (And Nothing Tells) Exited) Started)))) es w

pub ground_keep : Keeps (Shaped Ground)
ground_keep =
    both_keep (And (And Served_under AllAsking) (And (And Under_ends Ends_told) (And Nothing OnlyApps)))
    (And (And Under_barring Barring) (And (And Under_answering Answering) (And (And (And Nothing Tells) Present) (And (And (And Nothing Tells) Exited) Started))))
    (both_keep (And Served_under AllAsking) (And (And Under_ends Ends_told) (And Nothing OnlyApps)) served_asking_keeps
    (both_keep (And Under_ends Ends_told) (And Nothing OnlyApps) ends_keep embedders_keep))
    (both_keep (And Under_barring Barring) (And (And Under_answering Answering) (And (And (And Nothing Tells) Present) (And (And (And Nothing Tells) Exited) Started))) barring_keeps
    (both_keep (And Under_answering Answering) (And (And (And Nothing Tells) Present) (And (And (And Nothing Tells) Exited) Started)) answering_keeps
    (both_keep (And (And Nothing Tells) Present) (And (And (And Nothing Tells) Exited) Started) present_keeps starts_keep)))

pub record Grounds (es : List Entry) (w : World) : Type 0 where
  pub numbered : Numbered es w
  pub trees : Trees es w
  pub steps : Each StepIsOne [] es
  pub serials : Each HasNextNumber [] es
  pub taken : Each IsTakenAsSent [] es
  pub readers : Readers es w
  pub known : Known es w
  pub spoken : Speaks_true es w
  pub names : Named es w
  pub few : length (greeted es) ≤ 1000
  pub mail : Mail es w
  pub selves : Selves es w
  pub fated : Fated es w
  pub ruled : Ruled es w
  pub rightly : Rightly es w
  pub spelled : Spelled es w
  pub listed : Lives es → Listed es w
  pub tuned : AllTuned es w
  pub answered : Answered es w
  pub asking : AllAsking es w
  pub ends : Ends_told es w
  pub embedders : OnlyApps es w
  pub barring : Barring es w
  pub refusing : Refusing es w
  pub answering : Answering es w
  pub present : LiveHere es w
  pub out : AllByRecursion (Out w) es
  pub started : Started es w

pub grounds : (es : List Entry) (w : World) → Ground es w → Grounds es w
grounds es w both =
    let g = both.0 in
    let h = both.1 in
    let facts = g.0.0.1 in
    let under = facts.1.1.0 in
    let u = under.0 in
    let m = u.1.0.0 in
    let a = g.0.0.0.0 in
    let q = a.0.0.1.0.0.1.0 in
    record {
      numbered = q.0.0.0.1;
      trees = q.0.0.0.0.1.1;
      steps = q.0.0.0.0.1.0;
      serials = q.0.0.0.1.0;
      taken = m.0.1.0.1.0;
      readers = a.0.0.0.0.0.1.1;
      known = a.0.0.0.0.0.0.1.1;
      spoken = a.0.0.0.0.1.1;
      names = m.0.1.1.1;
      few = few_greeted es w m.0.1.1.1 m.0.0.1;
      mail = m.1.0;
      selves = m.1.1;
      fated = u.0.0.0.0.1;
      ruled = u.0.0.1;
      rightly = u.1.0.1;
      spelled = u.1.1.1;
      listed = under.1;
      tuned = facts.1.0.0.1;
      answered = g.0.0.0.1;
      asking = g.0.1;
      ends = g.1.0.1;
      embedders = g.1.1.1;
      barring = h.0.1;
      refusing = h.0.0.0.1;
      answering = h.1.0.1;
      present = h.1.1.0.1.1;
      out = h.1.1.1.0.1.1;
      started = h.1.1.1.1;
    }

-- WHO HAS A NAME is there
module _ (es : List Entry) (w : World) (sh : Shape w) (g : Grounds es w) where
  pub is_at : (p : Party) (name : List ℕ) → name_told es p ≡ Some name → IsAt w p
  is_at p name h = by (first_at (same_party p) (greeted es)) refl h
    where
      by : (o : Option ℕ) → first_at (same_party p) (greeted es) ≡ o → option_map (λ n. unique_name (suc n)) o ≡ Some name → IsAt w p
      by None is k = absurd (no_none name k)
      by (Some i) is k = told_among (IsAt w) p (greeted es) i g.names.among is

  no_app_registry : (a : ℕ) (p : Party) → p ≡ App a → p ≡ Registry → ⊥
  no_app_registry a p is h = false_true (ap (λ q. same_party q Registry) (sym is ∙ h) ∙ party-same Registry)

  pub app_with_name : (a : ℕ) (name : List ℕ) → name_told es (App a) ≡ Some name → IsOfApp w.ends name
  app_with_name a name h =
      let x = is_at (App a) name h in
      (x.0, a, x.1, x.2, x.3, (g.names.ends x.0 x.1 x.2).known (λ r. no_app_registry a x.1.who x.3 r) ∙ ap (name_told es) x.3 ∙ h)

  -- the bus is no end
  pub no_bus : (name : List ℕ) → NameIs es The_bus name → ⊥
  no_bus name (inl h) = false_true (ap (λ q. same_party q Registry) h.0)
  no_bus name (inr h) =
      let x = is_at The_bus name h in
      by x.1.role (subst (λ p. RoleFits p x.1.role) x.3 (sh.roles x.0 x.1 x.2))
    where
      by : (role : Role) → RoleFits The_bus role → ⊥
      by role f = f

  -- an application's unique name, and the same told
  pub unique_is : (k a : ℕ) (e : End) (name : List ℕ) → end_at w.ends k ≡ Some e → e.who ≡ App a → e.unique ≡ Some name → name_told es (App a) ≡ Some name
  unique_is k a e name there whose has = ap (name_told es) (sym whose) ∙ sym ((g.names.ends k e there).known (λ r. no_app_registry a e.who whose r)) ∙ has

  -- FOR WHOM CALLS FOR ITEMS ARE
  pub any_of : (P : List ℕ → Type 0) (name : List ℕ) (names : List (List ℕ)) → list_any (bytes_eq name) names ≡ true → AllByRecursion P names → P name
  any_of P name [] h a = absurd (false_true h)
  any_of P name (x ∷ xs) h a = by (bytes_eq name x) refl h (λ k. any_of P name xs k a.1)
    where
      by : (b : Bool) → bytes_eq name x ≡ b → (b || list_any (bytes_eq name) xs) ≡ true → (list_any (bytes_eq name) xs ≡ true → P name) → P name
      by true is k ih = subst P (sym ((bytes_eq-Decides name x).0 is)) a.0
      by false is k ih = ih k

  pub embedded_app : (name : List ℕ) → Embedded es name → (a : ℕ) × (name_told es (App a) ≡ Some name)
  embedded_app name i = by (an_embedder es w i.who i.serial i.call g.embedders i.was i.is_call i.member)
    where
      by : (i.who ≡ The_bus) ⊎ ((a : ℕ) × (i.who ≡ App a)) → (a : ℕ) × (name_told es (App a) ≡ Some name)
      by (inl h) = absurd (no_bus name (subst (λ p. NameIs es p name) h i.has))
      by (inr h) = (h.0, app_name es h.0 name (subst (λ p. NameIs es p name) h.1 i.has))

  abbrev pub AsksAnApp : Asked → Type 0
  AsksAnApp x = (name : List ℕ) → x.question ≡ GetItems name → (a : ℕ) × (name_told es (App a) ≡ Some name)

  pub asks_apps : Lives es → (k r : ℕ) (e : End) (h : Hearer) → end_at w.ends k ≡ Some e → e.who ≡ Reader r → e.role ≡ a_reader h → e.standing ≡ here → AllByRecursion AsksAnApp h.asked
  asks_apps live k r e h there whose role on = all h.asked ((g.asking live).ready k r e h (record { there = there; whose = whose; role = role; standing = on }))
    where
      all : (asked : List Asked) → AllByRecursion (IsReady es e h) (map (λ (x : Asked). x.question) asked) → AllByRecursion AsksAnApp asked
      all [] a = tt
      all (x ∷ xs) a = (λ name is. embedded_app name (any_of (Embedded es) name h.named (a.0 name is).listed ((g.listed live).readers k e h there role).named), all xs a.1)

  -- WHO EMBEDDED HAS ITS NAME
  pub named : AllNamed es w
  named live k a e s there whose role on embeds = by (g.tuned live k a e s there whose role on).stage
    where
      has : (l : Late es w.bus.state.rules k s e.down) → (name : List ℕ) × (e.unique ≡ Some name) × (is_bus_name name ≡ true)
      has l =
          let told : name_told es (App a) ≡ Some l.name = (g.selves k a e s there whose role).told l.name l.named in
          (l.name, (g.names.ends k e there).known (λ r. no_app_registry a e.who whose r) ∙ ap (name_told es) whose ∙ told, name_is_bus_name es (App a) l.name g.few (inr told))

      by : Early es w.bus.state.rules k a s e.down ⊎ Late es w.bus.state.rules k s e.down → (name : List ℕ) × (e.unique ≡ Some name) × (is_bus_name name ≡ true)
      by (inl early) = absurd (early.no_embed embeds)
      by (inr late) = has late
