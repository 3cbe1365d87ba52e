-- A reader's patterns are entered at the registry, along a lawful trace: where its call for one was returned, whoever heard the registry up to the return, or further, has its pair; and so it stays, as long as the reader is here.
use Rattle.std.proofs.Common.{◌≡◌, ◌⊎◌, inl, inr, ℕ, ◌≤◌, ◌<◌, Bool, true, false, List, [], ◌∷◌, ◌++◌, length, map, Some, refl, sym, ap, ap₂, ◌∙◌, subst, arith, is_some}
use Rattle.std.specs.List.{AllByRecursion}
use Rattle.atspi_script_lines.specs.declared.limits.TheConstants.{QUOTA_MOST}
use Rattle.atspi_script_lines.specs.declared.line.Party.TheVariants.{Registry, Reader}
use Rattle.atspi_names.specs.Owners.{own_name}
use Rattle.atspi_base.specs.valid_names.Names.{is_unique_name}
use Rattle.atspi_protocol.specs.registering.Steps.{registry_takes}
use Rattle.atspi_protocol.specs.exporting.Taking.{app_takes}
use Rattle.atspi_protocol.specs.following.Calls.{asking}
use Rattle.atspi_protocol.specs.declared.following.question.Question.TheVariants.{RegisterEvent}
use Rattle.atspi_trace.specs.Entry.{Entry, sent, got}
use Rattle.atspi_trace.specs.World.{Standing, here, stopped, away, Asked, End, World, first_world}
use Rattle.atspi_trace.specs.Ends.{is_here, same_party, whose, number_of, end_at}
use Rattle.atspi_trace.specs.Carrying as carrying
use Rattle.atspi_trace.specs.Causes.{Done, does, at_end}
use Rattle.atspi_trace.specs.Due.{asks_at}
use Rattle.atspi_trace_laws.specs.laws.Words.{messages, message}
use Rattle.atspi_trace_laws.proofs.OfOrder.Parties.{same_some, false_true}
use Rattle.atspi_trace_laws.proofs.OfOrder.Shape.{Lasts, Shape}
use Rattle.atspi_trace_laws.proofs.OfOrder.Shaped.{registry_over}
use Rattle.atspi_trace_laws.proofs.OfOrder.Effects.{received, RegistryTakes, Effect, resets, app_joins, reader_joins, app_edited, app_took, reader_called, swapped, exited_, showed_, told_busy, told_quiet, bus_took, bus_ended, registry_took, reader_took}
use Rattle.atspi_trace_laws.proofs.OfOrder.Along.{Keeps}
use Rattle.atspi_trace_laws.proofs.OfOrder.Growing.{Shaped, And}
use Rattle.atspi_trace_laws.proofs.OfHeard.Quiet.{heard_all}
use Rattle.atspi_trace_laws.proofs.OfLinks.LawLinks.{first_unread}
use Rattle.atspi_trace_laws.proofs.OfTurns.Turning.{unread_more}
use Rattle.atspi_trace_laws.proofs.OfReaders.Fates.{FateIs, Fated}
use Rattle.atspi_trace_laws.proofs.OfNames.Places.{greeted, name_told}
use Rattle.atspi_trace_laws.proofs.OfNames.LawNames.{Named}
use Rattle.atspi_trace_laws.proofs.OfNames.LawEnds.{few_greeted}
use Rattle.atspi_trace_laws.proofs.OfSigned.Mail.{NameIs}
use Rattle.atspi_trace_laws.proofs.OfSigned.Self.{unique_told, one_named}
use Rattle.atspi_trace_laws.proofs.OfMissed.Telling.{Pair}
use Rattle.atspi_trace_laws.proofs.OfMissed.Registering.{NotRegistry, none_sent, did_quiet, bus_quiet, all_sent}
use Rattle.atspi_trace_caches.proofs.OfServed.Facts.{Entered, IsEntered, AllEntered, IsKnown, AllKnown, Carries}
use Rattle.atspi_trace_caches.proofs.OfServed.Spelling.{Spelled, call_of, has_serial, all_found}
use Rattle.atspi_trace_caches.proofs.OfServed.Staying.{KeepsPair, registry_keeps}
use Rattle.atspi_trace_caches.proofs.OfServed.Leaving.{IsPresent, none_away}
use Rattle.atspi_trace_caches.proofs.OfServed.EnteringTold.{Stays, stays_more, OfCall, Answered, Tells, ReturnsTold}
use Rattle.atspi_trace_caches.proofs.OfServed.EnteringBack.{Back, IsBack, Backs, Under_backs, backs_keep}

-- a reader has one name
reader_no_registry : (r : ℕ) → Reader r ≡ Registry → ⊥
reader_no_registry r h = false_true (ap (λ p. same_party p Registry) h)

reader_name : (es : List Entry) (r : ℕ) (name : List ℕ) → NameIs es (Reader r) name → name_told es (Reader r) ≡ Some name
reader_name es r name (inl x) = absurd (reader_no_registry r x.0)
reader_name es r name (inr h) = h

not_own : (u : List ℕ) → is_unique_name u ≡ true → u ≡ own_name → ⊥
not_own u unique same = false_true (ap is_unique_name (sym same) ∙ unique)

module _ (es : List Entry) (w : World) (n : Named es w) (few : length (greeted es) ≤ 1000) (spelled : Spelled es w) (told : ReturnsTold es w) (k r : ℕ) (e : End) (name : List ℕ) (there : end_at w.ends k ≡ Some e) (who : e.who ≡ Reader r) (on : e.standing ≡ here)
    (unique : e.unique ≡ Some name) where
  its_name : NameIs es (Reader r) name
  its_name = inr (ap (name_told es) (sym who) ∙ sym ((n.ends k e there).known (λ h. reader_no_registry r (sym who ∙ h))) ∙ unique)

  one_entered : (a : Asked) → FateIs es r a → IsBack es r a → IsEntered es name a
  one_entered a fate back pattern question returned_ = by x.known
    where
      y : Back es r a.serial
      y = back pattern question returned_

      x : Answered es w y.m
      x = all_found (Tells es w) y.m.serial (messages es Registry) y.m told y.was y.two

      same_caller : x.caller ≡ y.caller
      same_caller = same_some x.caller y.caller (sym x.to ∙ y.to)

      is_name : y.caller ≡ name
      is_name = same_some y.caller name (sym (reader_name es r y.caller y.name) ∙ reader_name es r name its_name)

      serial : x.serial ≡ a.serial
      serial = same_some x.serial a.serial (sym x.with_ ∙ y.reply)

      by : (x.caller ≡ own_name) ⊎ OfCall es w y.m x.caller x.serial → Entered es (name, pattern)
      by (inl own) = absurd (not_own y.caller (unique_told es (Reader r) y.caller y.name) (sym same_caller ∙ own))
      by (inr c) =
          let from : c.from ≡ Reader r = one_named es c.from (Reader r) y.caller few (subst (NameIs es c.from) same_caller c.name) y.name in
          let same : c.first ≡ fate.first = same_some c.first fate.first (sym c.was ∙ ap₂ (message es) from serial ∙ fate.was) in
          let first : fate.first ≡ asking fate.first.serial (RegisterEvent pattern) = (call_of es w r a.serial fate.first spelled fate.was).spelled (RegisterEvent pattern) (fate.read ∙ ap Some question) in
          let number : fate.first.serial ≡ x.serial = has_serial a.serial (messages es (Reader r)) fate.first fate.was ∙ sym serial in
          let call : c.first ≡ asking x.serial (RegisterEvent pattern) = same ∙ first ∙ ap (λ s. asking s (RegisterEvent pattern)) number in
          record {
            at = y.m.serial;
            taken = y.taken;
            stays = subst (λ u. Stays es (u, pattern) y.m.serial) (same_caller ∙ is_name) (c.stays r from pattern call (record { conn = k; e = e; there = there; whose = who; standing = on }));
          }

  all_entered : (xs : List Asked) → AllByRecursion (FateIs es r) xs → AllByRecursion (IsBack es r) xs → AllByRecursion (IsEntered es name) xs
  all_entered [] f b = tt
  all_entered (x ∷ xs) f b = (one_entered x f.0 b.0, all_entered xs f.1 b.1)

pub entered_of : (es : List Entry) (w : World) → Named es w → length (greeted es) ≤ 1000 → Fated es w → Spelled es w → ReturnsTold es w → Backs es w → AllEntered es w
entered_of es w n few fated spelled told backs live k r e h name there who role on unique =
    all_entered es w n few spelled told k r e name there who on unique h.asked (fated live k r e h there who role) (backs live k r e h there who role)

-- what follows of a world from what is kept is kept with it
pub following : (A B : List Entry → World → Type 0) → Keeps (Shaped A) → ((es : List Entry) (w : World) → A es w → B es w) → Keeps (Shaped (And A B))
following A B k f = record {
  begins = (k.begins.0, (k.begins.1, f [] (first_world QUOTA_MOST) k.begins.1));
  caused = λ es w c i a. let x = k.caused es w c (i.0, i.1.0) a in (x.0, (x.1, f (es ++ (does w c).entries) (does w c).world x.1));
  moved = λ es w v i m. let x = k.moved es w v (i.0, i.1.0) m in (x.0, (x.1, f es v x.1));
  passed = λ es w free i. i;
  asked = λ es w conn r m question i a. let x = k.asked es w conn r m question (i.0, i.1.0) a in (x.0, (x.1, f (es ++ sent (Reader r) m ∷ []) (at_end w conn (asks_at m question)) x.1));
}

abbrev pub Under_entered : List Entry → World → Type 0
Under_entered es w = And Under_backs Backs es w

pub under_entered : (es : List Entry) (w : World) → Under_entered es w → AllEntered es w
under_entered es w a =
    let u = a.0.0.0.0 in
    let n = u.1.0 in
    entered_of es w n.0.1.1.1 (few_greeted es w n.0.1.1.1 n.0.0.1) u.0.1 a.0.1.1.0.1.1.1 a.0.1.1.1 a.1

pub entered_keep : Keeps (Shaped (And Under_entered AllEntered))
entered_keep = following Under_entered AllEntered backs_keep under_entered

-- SUCH A READER HAS ITS NAME
module _ (es : List Entry) (w : World) (n : Named es w) (k r : ℕ) (e : End) (there : end_at w.ends k ≡ Some e) (who : e.who ≡ Reader r) where
  one_known : (a : Asked) → IsBack es r a → IsKnown e a
  one_known a back pattern question returned_ =
      let y : Back es r a.serial = back pattern question returned_ in
      ap is_some ((n.ends k e there).known (λ h. reader_no_registry r (sym who ∙ h)) ∙ ap (name_told es) who ∙ reader_name es r y.caller y.name)

  all_known : (xs : List Asked) → AllByRecursion (IsBack es r) xs → AllByRecursion (IsKnown e) xs
  all_known [] b = tt
  all_known (x ∷ xs) b = (one_known x b.0, all_known xs b.1)

pub under_known : (es : List Entry) (w : World) → Under_entered es w → AllKnown es w
under_known es w a live k r e h there who role on =
    all_known es w a.0.0.0.0.1.0.0.1.1.1 k r e there who h.asked (a.1 live k r e h there who role)

-- WHAT WAS ENTERED IS SO LATER, from the same message on, as long as the reader is here
carried : (es ys : List Entry) (pair : Pair) → AllByRecursion (KeepsPair pair) (messages ys Registry) → (i : Entered es pair) → (j : Entered (es ++ ys) pair) × (j.at ≡ i.at)
carried es ys pair keeps i =
    let more = unread_more es ys Registry in
    let below : i.at < first_unread es Registry = i.taken in
    (record { at = i.at; taken = omega (arith, more, below); stays = stays_more es ys pair i.at keeps i.stays }, refl)

here_is : (s : Standing) → is_here s ≡ true → s ≡ here
here_is here h = refl
here_is stopped h = absurd (false_true h)
here_is away h = absurd (false_true h)

lasts_here : (e z : End) → Lasts e z → z.standing ≡ here → e.standing ≡ here
lasts_here e z l on = here_is e.standing (by (is_here e.standing) refl)
  where
    by : (b : Bool) → is_here e.standing ≡ b → is_here e.standing ≡ true
    by true h = h
    by false h = absurd (false_true (sym (l.gone h) ∙ ap is_here on))

sends_none : (w : World) (d : Done) → Effect w d → AllByRecursion NotRegistry d.entries ⊎ RegistryTakes w d
sends_none w d (resets quota old is) = inl (subst (λ x. AllByRecursion NotRegistry x.entries) (sym is) tt)
sends_none w d (app_joins name short is) = inl (subst (λ x. AllByRecursion NotRegistry x.entries) (sym is) (tt, (refl, tt)))
sends_none w d (reader_joins fewer is) = inl (subst (λ x. AllByRecursion NotRegistry x.entries) (sym is) (tt, (refl, tt)))
sends_none w d (app_edited b) = inl (subst (λ x. AllByRecursion NotRegistry x.entries) (sym b.is) (did_quiet _ b.after.out))
sends_none w d (app_took b) = inl (subst (λ x. AllByRecursion NotRegistry x.entries) (sym b.is) (tt, did_quiet _ (app_takes b.before b.letter.said.message).out))
sends_none w d (reader_called b) = inl (subst (λ x. AllByRecursion NotRegistry x.entries) (sym b.is) (ap (λ p. same_party p Registry) (ap whose b.is_here.there ∙ b.whose), tt))
sends_none w d (swapped b) = inl (subst (λ x. AllByRecursion NotRegistry x.entries) (sym b.is) tt)
sends_none w d (exited_ b) = inl (subst (λ x. AllByRecursion NotRegistry x.entries) (sym b.is) (tt, tt))
sends_none w d (showed_ b) = inl (subst (λ x. AllByRecursion NotRegistry x.entries) (sym b.is) (tt, tt))
sends_none w d (told_busy turns is) = inl (subst (λ x. AllByRecursion NotRegistry x.entries) (sym is) (tt, tt))
sends_none w d (told_quiet none is) = inl (subst (λ x. AllByRecursion NotRegistry x.entries) (sym is) (tt, tt))
sends_none w d (bus_took b) = inl (subst (λ x. AllByRecursion NotRegistry x.entries) (sym b.is) (tt, bus_quiet (carrying.takes (record { bus = w.bus; ends = w.ends }) b.conn b.e.who b.said)))
sends_none w d (bus_ended b) = inl (subst (λ x. AllByRecursion NotRegistry x.entries) (sym b.is) (bus_quiet (carrying.takes_end (record { bus = w.bus; ends = w.ends }) b.conn)))
sends_none w d (registry_took b) = inr b
sends_none w d (reader_took b) =
    inl
    (subst (λ x. AllByRecursion NotRegistry x.entries) (sym b.is)
    (tt, heard_all NotRegistry (λ r app line. tt) (λ r app. tt) (number_of b.e.who) b.hearer (received w b.conn b.e b.letter).ends b.letter))

module _ (es : List Entry) (w : World) (d : Done) (s : Shape w) (a : Under_entered es w) where
  named_ : Named es w
  named_ = a.0.0.0.0.1.0.0.1.1.1

  few : length (greeted es) ≤ 1000
  few = few_greeted es w named_ a.0.0.0.0.1.0.0.0.1

  sent_as : (b : RegistryTakes w d) → messages d.entries Registry ≡ (registry_takes b.before b.letter.said.message).sent
  sent_as b =
      ap (λ x. messages x.entries Registry) b.is
      ∙ ap (λ p. messages (got b.e.who b.letter.from b.letter.said.message.serial ∷ map (sent p) (registry_takes b.before b.letter.said.message).sent) Registry) b.whose
      ∙ all_sent (registry_takes b.before b.letter.said.message).sent

  pub carries : Effect w d → Carries es (es ++ d.entries) w d.world
  carries effect live k r e z name pattern there at who unique on = by (sends_none w d effect)
    where
      has : NameIs es (Reader r) name
      has = inr (ap (name_told es) (sym who) ∙ sym ((named_.ends k e there).known (λ h. reader_no_registry r (sym who ∙ h))) ∙ unique)

      present : RegistryTakes w d → IsPresent w r
      present b =
          let x = (registry_over w d b).back k z at in
          let same : x.0 ≡ e = same_some x.0 e (sym x.1 ∙ there) in
          record { conn = k; e = e; there = there; whose = who; standing = lasts_here e z (subst (λ (y : End). Lasts y z) same x.2) on }

      by : AllByRecursion NotRegistry d.entries ⊎ RegistryTakes w d → (i : Entered es (name, pattern)) → (j : Entered (es ++ d.entries) (name, pattern)) × (j.at ≡ i.at)
      by (inl none) = carried es d.entries (name, pattern) (subst (AllByRecursion (KeepsPair (name, pattern))) (sym (none_sent d.entries none)) tt)
      by (inr b) =
          carried es d.entries (name, pattern)
          (subst (AllByRecursion (KeepsPair (name, pattern))) (sym (sent_as b))
          (registry_keeps (name, pattern) b.before b.letter.said.message (none_away es w d s named_ few a.0.0.0.0.1.0.1.0 a.0.1.1.0.0.1 a.0.1.1.0.1.1.1 b r name pattern has (present b))))
