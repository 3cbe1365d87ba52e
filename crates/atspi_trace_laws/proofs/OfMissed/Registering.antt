-- What the registry has told, along a lawful trace: who heard all that it sent has its pairs, of listeners with bus names, and its lists are of just them.
use Rattle.std.proofs.Common.{◌≡◌, ◌⊎◌, inl, inr, ℕ, zero, suc, ◌+◌, ◌<◌, ◌≤◌, Bool, true, false, List, [], ◌∷◌, ◌++◌, length, map, Option, None, Some, refl, sym, ap, ◌∙◌, subst, arith}
use Rattle.std.specs.Prelude.{◌^◌, nat_lt, codes, option_map, if◌then◌else◌}
use Rattle.std.specs.List.{AllByRecursion, cons_option}
use Rattle.std.proofs.lemmas.Bool.{ltb-false}
use Rattle.std.proofs.lemmas.List.{append-nil}
use Rattle.std.proofs.lemmas.Slice.Eq.{bytes_eq-Decides}
use Rattle.atspi_base.specs.valid_names.Elements.{are_two_or_more, are_elements, parts_of}
use Rattle.atspi_base.specs.valid_names.Names.{is_bus_name}
use Rattle.atspi_script_lines.specs.declared.limits.TheConstants.{QUOTA_MOST}
use Rattle.atspi_script_lines.specs.declared.line.Line.{Line}
use Rattle.atspi_script_lines.specs.declared.line.Party.{Party}
use Rattle.atspi_script_lines.specs.declared.line.Party.TheVariants.{Bus as The_bus, Registry, App, Reader}
use Rattle.atspi_message.specs.Envelope.{Envelope}
use Rattle.atspi_names.specs.Owners.{own_name, unique_name}
use Rattle.atspi_names.proofs.UniqueLemmas.{is_bus_name-unique_name, is_bus_name-own_name}
use Rattle.atspi_match.specs.declared.routing.closing.Closing.{Closing}
use Rattle.atspi_match.specs.routing.Members.{is_text}
use Rattle.atspi_protocol.specs.registering.RegistryState.{begins as begins_registry, RegistryState}
use Rattle.atspi_protocol.specs.registering.Steps.{RegistryStep, registry_takes}
use Rattle.atspi_protocol.specs.exporting.Exporter.{Happening, steps, sends, hears, deaf, Exporter}
use Rattle.atspi_protocol.specs.exporting.Hearing.{heard_after}
use Rattle.atspi_protocol.specs.exporting.Taking.{app_takes}
use Rattle.atspi_protocol.specs.following.Calls.{user_call}
use Rattle.atspi_protocol.specs.declared.following.question.Question.{Question}
use Rattle.atspi_trace.specs.Entry.{Entry, sent, got, dropped}
use Rattle.atspi_trace.specs.World.{Role, the_registry, an_application, a_reader, Hearer, Letter, End, World, first_registry, first_world}
use Rattle.atspi_trace.specs.Ends.{same_party, whose, party_at, number_of, end_at, with_end, taken_down, stops}
use Rattle.atspi_trace.specs.Carrying as carrying
use Rattle.atspi_trace.specs.Carrying.{Carried}
use Rattle.atspi_trace.specs.Hearing.{hears_letter}
use Rattle.atspi_trace.specs.Causes.{Done, only, did, at_end, has_done, registry_did, reader_sends, app_starts, reader_starts}
use Rattle.atspi_trace.specs.Due.{asks_as, asks_at, begins, Goes}
use Rattle.atspi_trace_laws.specs.laws.Words.{messages}
use Rattle.atspi_trace_laws.specs.laws.NineLaws.{Everywhere}
use Rattle.atspi_trace_laws.specs.order.Scripts.{CanAllStand}
use Rattle.atspi_trace_laws.specs.missed.Laws.{hearing, AreNamed, IsNamed, ListIsAsTold}
use Rattle.atspi_trace_laws.proofs.OfOrder.Parties.{no_none, same_some, false_true}
use Rattle.atspi_trace_laws.proofs.OfOrder.Allowed.{MovedUp, MovedDown}
use Rattle.atspi_trace_laws.proofs.OfOrder.BusWords.{bus_all}
use Rattle.atspi_trace_laws.proofs.OfOrder.Frame.{Over, IsOrder, over_same, over_both, over_with, at_changed, joined_cases}
use Rattle.atspi_trace_laws.proofs.OfOrder.Shape.{RoleFits, Shape}
use Rattle.atspi_trace_laws.proofs.OfOrder.Shaped.{new_app, new_reader, app_joined, received_at}
use Rattle.atspi_trace_laws.proofs.OfOrder.Effects.{received, RegistryTakes, Effect, resets, app_joins, reader_joins, app_edited, app_took, reader_called, swapped, exited_, showed_, told_busy, told_quiet, bus_took, bus_ended, registry_took, reader_took}
use Rattle.atspi_trace_laws.proofs.OfOrder.Along.{Keeps, kept}
use Rattle.atspi_trace_laws.proofs.OfOrder.Growing.{Grows, Shaped, And, grown}
use Rattle.atspi_trace_laws.proofs.OfOrder.Each.{Each, each_more, each_of, everywhere}
use Rattle.atspi_trace_laws.proofs.OfSerials.Serial.{messages_more}
use Rattle.atspi_trace_laws.proofs.OfHeard.Quiet.{heard_all}
use Rattle.atspi_trace_laws.proofs.OfNames.Places.{first_at, first_below, greeted}
use Rattle.atspi_trace_laws.proofs.OfNames.LawEnds.{few_greeted}
use Rattle.atspi_trace_laws.proofs.OfSigned.Mail.{NameIs, IsMail}
use Rattle.atspi_trace_laws.proofs.OfSigned.LawMail.{Mail, Under_mail, Known_mail, mail_keeps}
use Rattle.atspi_trace_laws.proofs.OfMissed.Arriving.{Goes_on, took_goes, ended_goes}
use Rattle.atspi_trace_laws.proofs.OfMissed.Telling.{Pair, pairs_told, hearing_append}
use Rattle.atspi_trace_laws.proofs.OfMissed.Listing.{ListsIn, registry_lists, own_kept}

-- WHAT IS KEPT
pub record HasTold (es : List Entry) (s : RegistryState) : Type 0 where
  pub own : s.own ≡ Some (codes ":1.0")
  pub pairs : hearing (messages es Registry) [] ≡ s.pairs
  pub names : AreNamed s.pairs

pub record AsTold (es : List Entry) (w : World) : Type 0 where
  pub registry : (k : ℕ) (e : End) (s : RegistryState) → end_at w.ends k ≡ Some e → e.role ≡ the_registry s → HasTold es s
  pub law : Each ListIsAsTold [] es

-- NAMES of callers
small : (i n : ℕ) → i < n → n ≤ 1000 → suc i < 2 ^ 32
small i n a b = omega (arith, a, b)

first_is_name : is_bus_name (codes ":1.0") ≡ true
unfolding is_bus_name are_two_or_more are_elements parts_of
first_is_name = refl

pub name_is_bus_name : (es : List Entry) (who : Party) (name : List ℕ) → length (greeted es) ≤ 1000 → NameIs es who name → is_bus_name name ≡ true
name_is_bus_name es who name few (inl r) = ap is_bus_name r.1 ∙ first_is_name
name_is_bus_name es who name few (inr h) = by (first_at (same_party who) (greeted es)) refl h
  where
    by : (o : Option ℕ) → first_at (same_party who) (greeted es) ≡ o → option_map (λ n. unique_name (suc n)) o ≡ Some name → is_bus_name name ≡ true
    by None g k = absurd (no_none name k)
    by (Some i) g k =
        ap is_bus_name (sym (same_some (unique_name (suc i)) name k))
        ∙ is_bus_name-unique_name (suc i) (small i (length (greeted es)) (first_below (same_party who) (greeted es) i g) few)

text_named : (o : Option (List ℕ)) → is_text o own_name ≡ true → IsNamed o
text_named None h = tt
text_named (Some name) h = ap is_bus_name ((bytes_eq-Decides name own_name).0 h) ∙ is_bus_name-own_name

pub letter_named : (es : List Entry) (who : Party) (letter : Letter) → length (greeted es) ≤ 1000 → IsMail es who letter → IsNamed letter.said.message.sender
letter_named es who letter few (inl b) = text_named letter.said.message.sender b.own
letter_named es who letter few (inr p) = subst IsNamed (sym p.sender) (name_is_bus_name es letter.from p.caller few p.name)

-- NO REGISTRY ACTS
abbrev SameRegistry : End → End → Type 0
SameRegistry e d = (s : RegistryState) → d.role ≡ the_registry s → e.role ≡ the_registry s

same_registry : IsOrder SameRegistry
same_registry = record { same = λ e s h. h; both = λ e d c f g s h. f s (g s h) }

abbrev is_registry_role : Role → Bool
is_registry_role (the_registry s) = true
is_registry_role role = false

no_registry : (role : Role) (s : RegistryState) → is_registry_role role ≡ false → role ≡ the_registry s → ⊥
no_registry role s none is = false_true (sym none ∙ ap is_registry_role is)

other_role : (e d : End) → is_registry_role d.role ≡ false → SameRegistry e d
other_role e d none s is = absurd (no_registry d.role s none is)

-- an entry in which the registry sends nothing
abbrev pub NotRegistry : Entry → Type 0
NotRegistry (sent who e) = same_party who Registry ≡ false
NotRegistry entry = Unit {0}

not_list : (before : List Entry) (entry : Entry) (behind : List Entry) → NotRegistry entry → ListIsAsTold before entry behind
not_list before (sent Registry e) behind h = absurd (false_true (sym h))
not_list before (sent The_bus e) behind h = tt
not_list before (sent (App a) e) behind h = tt
not_list before (sent (Reader r) e) behind h = tt
not_list before entry behind h = tt

pub none_sent : (ys : List Entry) → AllByRecursion NotRegistry ys → messages ys Registry ≡ []
none_sent [] a = refl
none_sent (sent who e ∷ ys) a = ap (λ b. cons_option (if b then Some e else None) (messages ys Registry)) a.0 ∙ none_sent ys a.1
none_sent (entry ∷ ys) a = none_sent ys a.1

weaker : (ys before : List Entry) (entry : Entry) (behind : List Entry) → ListIsAsTold before entry behind → ListIsAsTold before entry (behind ++ ys)
weaker ys before (sent Registry e) behind h = h
weaker ys before (sent The_bus e) behind h = tt
weaker ys before (sent (App a) e) behind h = tt
weaker ys before (sent (Reader r) e) behind h = tt
weaker ys before entry behind h = tt

all_weaker : (ys early xs : List Entry) → Each ListIsAsTold early xs → Each (λ before entry behind. ListIsAsTold before entry (behind ++ ys)) early xs
all_weaker ys early [] e = tt
all_weaker ys early (x ∷ xs) e = (weaker ys early x xs e.0, all_weaker ys (early ++ x ∷ []) xs e.1)

law_more : (es ys : List Entry) → Each ListIsAsTold [] es → Each ListIsAsTold es ys → Each ListIsAsTold [] (es ++ ys)
law_more es ys a b = each_more ListIsAsTold [] es ys (all_weaker ys [] es a) b

has_more : (es ys : List Entry) (s : RegistryState) → AllByRecursion NotRegistry ys → HasTold es s → HasTold (es ++ ys) s
has_more es ys s a h = record {
  own = h.own;
  pairs = ap (λ l. hearing l []) (messages_more es ys Registry ∙ ap (λ l. messages es Registry ++ l) (none_sent ys a) ∙ append-nil (messages es Registry)) ∙ h.pairs;
  names = h.names;
}

quiet_told : (es ys : List Entry) (w v : World) → AsTold es w → Over SameRegistry w.ends v.ends → AllByRecursion NotRegistry ys → AsTold (es ++ ys) v
quiet_told es ys w v i o a = record {
  registry = λ k d s there role. let x = o.back k d there in has_more es ys s a (i.registry k x.0 s x.1 (x.2 s role));
  law = law_more es ys i.law (each_of NotRegistry ListIsAsTold es ys not_list a);
}

-- an end joins
joined_told : (es ys : List Entry) (w v : World) (nu : End) → AsTold es w → v.ends ≡ w.ends ++ nu ∷ [] → is_registry_role nu.role ≡ false → AllByRecursion NotRegistry ys → AsTold (es ++ ys) v
joined_told es ys w v nu i is none a = record {
  registry = λ k d s there role. by k d s role (joined_cases w.ends nu k d (ap (λ l. end_at l k) (sym is) ∙ there));
  law = law_more es ys i.law (each_of NotRegistry ListIsAsTold es ys not_list a);
}
  where
    by : (k : ℕ) (d : End) (s : RegistryState) → d.role ≡ the_registry s → (end_at w.ends k ≡ Some d) ⊎ ((k ≡ length w.ends) × (d ≡ nu)) → HasTold (es ++ ys) s
    by k d s role (inl g) = has_more es ys s a (i.registry k d s g role)
    by k d s role (inr g) = absurd (no_registry nu.role s none (ap (λ (x : End). x.role) (sym g.1) ∙ role))

-- THE REGISTRY TAKES A MESSAGE
pub role_registry : (who : Party) (s : RegistryState) → RoleFits who (the_registry s) → who ≡ Registry
role_registry Registry s f = refl
role_registry The_bus s f = absurd f
role_registry (App a) s f = absurd f
role_registry (Reader r) s f = absurd f

abbrev state_in : Role → RegistryState → RegistryState
state_in (the_registry s) t = s
state_in role t = t

pub same_state : (s t : RegistryState) → the_registry s ≡ the_registry t → s ≡ t
same_state s t h = ap (λ r. state_in r s) h

pub all_sent : (xs : List Envelope) → messages (map (sent Registry) xs) Registry ≡ xs
all_sent [] = refl
all_sent (x ∷ xs) = ap (λ l. x ∷ l) (all_sent xs)

heard_then : (es ys : List Entry) (had : List Pair) → hearing (messages es Registry) [] ≡ had → hearing (messages (es ++ ys) Registry) [] ≡ hearing (messages ys Registry) had
heard_then es ys had h =
    ap (λ l. hearing l []) (messages_more es ys Registry) ∙ hearing_append (messages es Registry) (messages ys Registry) [] ∙ ap (hearing (messages ys Registry)) h

lists_hold : (early : List Entry) (xs : List Envelope) (had : List Pair) → hearing (messages early Registry) [] ≡ had → ListsIn had xs → Each ListIsAsTold early (map (sent Registry) xs)
lists_hold early [] had h l = tt
lists_hold early (x ∷ xs) had h l = (
  λ pairs two is. h ∙ l.0 pairs two is,
  lists_hold (early ++ sent Registry x ∷ []) xs (heard_after had x).heard (heard_then early (sent Registry x ∷ []) had h) l.1,
)

module _ (es : List Entry) (w : World) (d : Done) (after : Shape d.world) (few : length (greeted es) ≤ 1000) (mail : Mail es w) (i : AsTold es w) (b : RegistryTakes w d) where
  abbrev m : Envelope
  m = b.letter.said.message

  abbrev reaction : RegistryStep
  reaction = registry_takes b.before m

  abbrev taking : Entry
  taking = got b.e.who b.letter.from m.serial

  abbrev words : List Entry
  words = taking ∷ map (sent Registry) reaction.sent

  wrote : d.entries ≡ words
  wrote = ap (λ x. x.entries) b.is ∙ ap (λ p. taking ∷ map (sent p) reaction.sent) b.whose

  had : HasTold es b.before
  had = i.registry b.conn b.e b.before b.is_here.there b.role

  sender : IsNamed m.sender
  sender = letter_named es b.e.who b.letter few (subst (AllByRecursion (IsMail es b.e.who)) b.link (mail.downs b.conn b.e b.is_here.there b.is_here.standing)).0

  now : HasTold (es ++ words) reaction.state
  now = record {
    own = own_kept b.before m (codes ":1.0") had.own;
    pairs = heard_then es words b.before.pairs had.pairs ∙ ap (λ l. hearing l b.before.pairs) (all_sent reaction.sent) ∙ pairs_told.news b.before m had.names sender;
    names = pairs_told.names b.before m had.names sender;
  }

  abbrev now_end : End
  now_end = registry_did reaction (taken_down b.e)

  now_there : end_at d.world.ends b.conn ≡ Some now_end
  now_there =
      ap (λ x. end_at x.world.ends b.conn) b.is
      ∙ at_changed (registry_did reaction) (received w b.conn b.e b.letter).ends b.conn (taken_down b.e) (received_at w b.conn b.e b.letter b.is_here.there)

  at_registry : (k : ℕ) (x : End) (s : RegistryState) → end_at d.world.ends k ≡ Some x → x.role ≡ the_registry s → HasTold (es ++ words) s
  at_registry k x s there role =
      let who : x.who ≡ Registry = role_registry x.who s (subst (RoleFits x.who) role (after.roles k x there)) in
      let at : k ≡ b.conn = after.one k b.conn x now_end there now_there (who ∙ sym b.whose) in
      let same : now_end ≡ x = same_some now_end x (sym now_there ∙ ap (end_at d.world.ends) (sym at) ∙ there) in
      subst (HasTold (es ++ words)) (same_state reaction.state s (ap (λ (y : End). y.role) same ∙ role)) now

  pub registry_told : AsTold (es ++ d.entries) d.world
  registry_told =
      subst (λ zs. AsTold (es ++ zs) d.world) (sym wrote)
      (record {
        registry = at_registry;
        law =
            law_more es words i.law (
              tt,
              lists_hold (es ++ taking ∷ []) reaction.sent b.before.pairs (heard_then es (taking ∷ []) b.before.pairs had.pairs) (registry_lists b.before m had.names),
            );
      })

-- EACH CAUSE
pub did_quiet : (app : ℕ) (hs : List Happening) → AllByRecursion NotRegistry (map (did app) hs)
did_quiet app [] = tt
did_quiet app (steps step ∷ hs) = (tt, did_quiet app hs)
did_quiet app (sends e ∷ hs) = (refl, did_quiet app hs)
did_quiet app (hears listener pattern ∷ hs) = (tt, did_quiet app hs)
did_quiet app (deaf listener pattern ∷ hs) = (tt, did_quiet app hs)

all_any : {X : Type 0} (P : X → Type 0) → ((x : X) → P x) → (xs : List X) → AllByRecursion P xs
all_any P f [] = tt
all_any P f (x ∷ xs) = (f x, all_any P f xs)

pub bus_quiet : (c : Carried) → AllByRecursion NotRegistry (carrying.bus_entries c.ends c.bus.own c.bus.closings)
bus_quiet c =
    bus_all NotRegistry (λ e. refl) c.ends c.bus.own c.bus.closings
    (all_any (λ (x : Closing). (queued len : ℕ) → NotRegistry (dropped (party_at c.ends x.conn) queued len)) (λ x queued len. tt) c.bus.closings)

goes_same : (xs zs : List End) → Over Goes_on xs zs → Over SameRegistry xs zs
goes_same xs zs o = record { size = o.size; back = λ k d there. let x = o.back k d there in (x.0, x.1, λ s role. sym x.2.role ∙ role) }

module _ (es : List Entry) (w : World) (d : Done) (i : AsTold es w) where
  by_over : (x : Done) → d ≡ x → Over SameRegistry w.ends x.world.ends → AllByRecursion NotRegistry x.entries → AsTold (es ++ d.entries) d.world
  by_over x is o a = subst (λ y. AsTold (es ++ y.entries) y.world) (sym is) (quiet_told es x.entries w x.world i o a)

  by_end : (x : Done) → d ≡ x → (f : End → End) (conn : ℕ) → ((e : End) → SameRegistry e (f e)) → x.world.ends ≡ with_end conn f w.ends → AllByRecursion NotRegistry x.entries → AsTold (es ++ d.entries) d.world
  by_end x is f conn same ends a = by_over x is (subst (Over SameRegistry w.ends) (sym ends) (over_with SameRegistry same_registry f same conn w.ends)) a

  -- an end that is not the registry takes a message
  by_both : (x : Done) → d ≡ x → (f : End → End) (conn : ℕ) → ((e : End) → SameRegistry e (f e)) → x.world.ends ≡ with_end conn f (with_end conn taken_down w.ends) → AllByRecursion NotRegistry x.entries → AsTold (es ++ d.entries) d.world
  by_both x is f conn same ends a =
      by_over x is
      (subst (Over SameRegistry w.ends) (sym ends)
      (over_both SameRegistry same_registry w.ends (with_end conn taken_down w.ends) (with_end conn f (with_end conn taken_down w.ends))
      (over_with SameRegistry same_registry taken_down (λ e s h. h) conn w.ends) (over_with SameRegistry same_registry f same conn (with_end conn taken_down w.ends)))) a

  by_same : (x : Done) → d ≡ x → x.world.ends ≡ w.ends → AllByRecursion NotRegistry x.entries → AsTold (es ++ d.entries) d.world
  by_same x is ends a = by_over x is (subst (Over SameRegistry w.ends) (sym ends) (over_same SameRegistry same_registry w.ends)) a

first_only : (k : ℕ) (e : End) → end_at (first_registry ∷ []) k ≡ Some e → e ≡ first_registry
first_only zero e h = sym (same_some first_registry e h)
first_only (suc k) e h = absurd (no_none e h)

-- where the quota is another, only the registry is there, as at the beginning
abbrev first_state : RegistryState
first_state = record begins_registry { hello = Some 1; own = Some (codes ":1.0"); next = 4 }

first_told : (quota : ℕ) → AsTold [] (first_world quota)
first_told quota = record {
  registry = λ k e s there role. subst (HasTold []) (same_state first_state s (ap (λ (x : End). x.role) (sym (first_only k e there)) ∙ role)) (record { own = refl; pairs = refl; names = tt });
  law = tt;
}

anew : (es : List Entry) (w : World) (d : Done) (quota : ℕ) → Shape w → AsTold es w → nat_lt 1 (length w.ends) ≡ false → d ≡ only (first_world quota) [] → AsTold (es ++ d.entries) d.world
anew es w d quota s i few is =
    subst (λ x. AsTold (es ++ x.entries) x.world) (sym is) (subst (λ l. AsTold l (first_world quota)) (sym (append-nil es)) (by s.alone))
  where
    by : ((2 ≤ length w.ends) ⊎ (w ≡ first_world w.bus.quota)) → AsTold es (first_world quota)
    by (inl two) = let less : length w.ends ≤ 1 = ltb-false 1 (length w.ends) few in absurd (omega (arith, two, less))
    by (inr h) = let j : AsTold es (first_world w.bus.quota) = subst (AsTold es) h i in record { registry = j.registry; law = j.law }

caused : (es : List Entry) (w : World) (d : Done) → Shape w → Shape d.world → length (greeted es) ≤ 1000 → Mail es w → AsTold es w → Effect w d → AsTold (es ++ d.entries) d.world
caused es w d s after few mail i (resets quota alone is) = anew es w d quota s i alone is
caused es w d s after few mail i (app_joins name short is) =
    subst (λ x. AsTold (es ++ x.entries) x.world) (sym is) (joined_told es (app_starts w name).entries w (app_starts w name).world (new_app w name) i (app_joined w name) refl (tt, (refl, tt)))
caused es w d s after few mail i (reader_joins fewer is) =
    subst (λ x. AsTold (es ++ x.entries) x.world) (sym is) (joined_told es (reader_starts w).entries w (reader_starts w).world (new_reader w) i refl refl (tt, (refl, tt)))
caused es w d s after few mail i (app_edited b) = by_end es w d i _ b.is (has_done b.before b.after) b.conn (λ e. other_role e (has_done b.before b.after e) refl) refl (did_quiet _ b.after.out)
caused es w d s after few mail i (app_took b) =
    let then_app : Exporter = app_takes b.before b.letter.said.message in
    by_both es w d i _ b.is (has_done b.before then_app) b.conn (λ e. other_role e (has_done b.before then_app e) refl) refl
    (tt, did_quiet _ then_app.out)
caused es w d s after few mail i (reader_called b) =
    let h : Hearer = record b.hearer { next = suc b.hearer.next } in
    let call : Envelope = user_call b.hearer.next b.name b.node b.deed in
    by_end es w d i _ b.is (reader_sends h call) b.conn (λ e. other_role e (reader_sends h call e) refl) refl
    (ap (λ p. same_party p Registry) (ap whose b.is_here.there ∙ b.whose), tt)
caused es w d s after few mail i (swapped b) = by_same es w d i _ b.is refl tt
caused es w d s after few mail i (exited_ b) = by_end es w d i _ b.is stops b.conn (λ e s h. h) refl (tt, tt)
caused es w d s after few mail i (showed_ b) = by_same es w d i _ b.is refl (tt, tt)
caused es w d s after few mail i (told_busy turns is) = by_same es w d i _ is refl (tt, tt)
caused es w d s after few mail i (told_quiet none is) = by_same es w d i _ is refl (tt, tt)
caused es w d s after few mail i (bus_took b) =
    let c0 : Carried = record { bus = w.bus; ends = w.ends } in
    by_over es w d i _ b.is (goes_same w.ends _ (took_goes c0 b.conn b.e.who b.said)) (tt, bus_quiet (carrying.takes c0 b.conn b.e.who b.said))
caused es w d s after few mail i (bus_ended b) =
    let c0 : Carried = record { bus = w.bus; ends = w.ends } in
    by_over es w d i _ b.is (goes_same w.ends _ (ended_goes c0 b.conn)) (bus_quiet (carrying.takes_end c0 b.conn))
caused es w d s after few mail i (registry_took b) = registry_told es w d after few mail i b
caused es w d s after few mail i (reader_took b) =
    let v : World = received w b.conn b.e b.letter in
    let g : Hearer = hears_letter b.hearer v.ends b.letter in
    by_both es w d i _ b.is (λ x. record x { role = a_reader g }) b.conn (λ e. other_role e (record e { role = a_reader g }) refl) refl
    (tt, heard_all NotRegistry (λ r app line. tt) (λ r app. tt) (number_of b.e.who) b.hearer v.ends b.letter)

asks_same : (m : Envelope) (question : Question) (e : End) → SameRegistry e (asks_at m question e)
asks_same m question e = by e.role refl
  where
    by : (role : Role) → e.role ≡ role → SameRegistry e (asks_as role m question e)
    by (a_reader h) is = other_role e (asks_as (a_reader h) m question e) refl
    by (the_registry x) is = λ s h. h
    by (an_application x) is = λ s h. h

moved_told : (es : List Entry) (w v : World) → AsTold es w → (MovedUp w v ⊎ MovedDown w v) → AsTold (es ++ []) v
moved_told es w v i (inl m) =
    quiet_told es [] w v i
    (subst (λ (x : World). Over SameRegistry w.ends x.ends) (sym m.after) (over_with SameRegistry same_registry (λ e. record e { up_moved = e.up_moved + m.count }) (λ e s h. h) m.conn w.ends)) tt
moved_told es w v i (inr m) =
    quiet_told es [] w v i
    (subst (λ (x : World). Over SameRegistry w.ends x.ends) (sym m.after) (over_with SameRegistry same_registry (λ e. record e { down_moved = e.down_moved + m.count }) (λ e s h. h) m.conn w.ends)) tt

abbrev pub Under_told : List Entry → World → Type 0
Under_told es w = And Under_mail Known_mail es w

told_grows : Grows Under_told AsTold
told_grows = record {
  begins = first_told QUOTA_MOST;
  caused = λ es w d s a i e after b. caused es w d s after (few_greeted es w a.0.1.1.1 a.0.0.1) a.1.0 i e;
  moved = λ es w v s a i m. subst (λ l. AsTold l v) (append-nil es) (moved_told es w v i m);
  asked = λ es w conn r m question s a i asks.
      quiet_told es (sent (Reader r) m ∷ []) w (at_end w conn (asks_at m question)) i (over_with SameRegistry same_registry (asks_at m question) (asks_same m question) conn w.ends) (refl, tt);
}

pub told_keeps : Keeps (Shaped (And Under_told AsTold))
told_keeps = grown Under_told AsTold mail_keeps told_grows

-- THE LAW
law_front : (xs ys : List Entry) (early : List Entry) → Each ListIsAsTold early (xs ++ ys) → Each ListIsAsTold early xs
law_front [] ys early e = tt
law_front (x ∷ xs) ys early e = (fewer x e.0, law_front xs ys (early ++ x ∷ []) e.1)
  where
    fewer : (entry : Entry) → ListIsAsTold early entry (xs ++ ys) → ListIsAsTold early entry xs
    fewer (sent Registry m) law = law
    fewer (sent The_bus m) law = tt
    fewer (sent (App a) m) law = tt
    fewer (sent (Reader r) m) law = tt
    fewer entry law = tt

pub lists_as_told : (lines : List Line) (trace : List Entry) → CanAllStand lines → Goes (begins lines) trace → Everywhere ListIsAsTold trace
lists_as_told lines trace a g =
    let k = kept (Shaped (And Under_told AsTold)) told_keeps lines trace a g in
    everywhere ListIsAsTold trace (law_front trace _ [] k.state.1.1.law)
