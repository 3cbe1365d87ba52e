-- Whom the bus answers by an error in place of an application: each error of the bus's own on a down link answers a call of that end, and where that call went to a unique name that was given when it was
-- sent, who has the name is gone.
use Rattle.std.proofs.Common.{◌≡◌, ◌⊎◌, inl, inr, ℕ, zero, suc, ◌<◌, ◌≤◌, ◌^◌, Bool, true, false, List, [], ◌∷◌, ◌++◌, length, Option, None, Some, refl, sym, ap, ◌∙◌, subst, arith, length-append}
use Rattle.std.specs.Prelude.{codes, bytes_eq, option_map, if◌then◌else◌}
use Rattle.std.specs.List.{AllByRecursion}
use Rattle.std.proofs.lemmas.List.{append-nil}
use Rattle.std.proofs.lemmas.Slice.Eq.{bytes_eq-Decides}
use Rattle.atspi_base.specs.valid_names.Names.{is_unique_name}
use Rattle.atspi_script_lines.specs.declared.limits.TheConstants.{QUOTA_MOST}
use Rattle.atspi_script_lines.specs.declared.line.Party.{Party}
use Rattle.atspi_script_lines.specs.declared.line.Party.TheVariants.{Bus as The_bus, Registry, App, Reader}
use Rattle.atspi_message.specs.Envelope.{Envelope}
use Rattle.atspi_names.specs.Owners.{Owners, own_name, unique_name, list_of}
use Rattle.atspi_names.specs.Queue.{owner_in}
use Rattle.atspi_match.specs.routing.BusState.{OpenCall, BusState, unique_of}
use Rattle.atspi_match.specs.routing.Members.{is_text}
use Rattle.atspi_match.specs.routing.Routing.{receivers, owners_of, one_or_none, is_for_bus}
use Rattle.atspi_match.specs.routing.Steps.{Move, says, delivers, closes, BusStep, is_unowned, is_hello, greets, bus_takes}
use Rattle.atspi_trace.specs.Entry.{Entry, sent}
use Rattle.atspi_trace.specs.Rules.{rule_in}
use Rattle.atspi_trace.specs.World.{Standing, here, stopped, away, first_registry, Letter, End, World, first_world}
use Rattle.atspi_trace.specs.Ends.{is_here, same_party, end_at, with_end, taken_up}
use Rattle.atspi_trace.specs.Carrying as carrying
use Rattle.atspi_trace.specs.Carrying.{Carried, own_letter, letter_of, stepped, named, with_name, left, settled}
use Rattle.atspi_trace.specs.Causes.{Done, at_end}
use Rattle.atspi_trace.specs.Due.{asks_at}
use Rattle.atspi_trace_laws.specs.laws.Words.{message, before_sent}
use Rattle.atspi_trace_laws.proofs.OfOrder.Parties.{no_none, same_some, same-party, party-same, false_true}
use Rattle.atspi_trace_laws.proofs.OfOrder.Along.{Keeps}
use Rattle.atspi_trace_laws.proofs.OfOrder.Each.{all_map}
use Rattle.atspi_trace_laws.proofs.OfOrder.Frame.{Over, at_below, joined_cases}
use Rattle.atspi_trace_laws.proofs.OfOrder.Shape.{Shape, Lasts}
use Rattle.atspi_trace_laws.proofs.OfOrder.Shaped.{bus_takes_over, bus_ends_over}
use Rattle.atspi_trace_laws.proofs.OfOrder.Gone.{at_front}
use Rattle.atspi_trace_laws.proofs.OfOrder.Growing.{Grows, Shaped, And, grown}
use Rattle.atspi_trace_laws.proofs.OfOrder.Effects.{BusTakes, BusEnds}
use Rattle.atspi_trace_laws.proofs.OfLinks.LawLinks.{no_bus}
use Rattle.atspi_trace_laws.proofs.OfTaken.Found.{found_more, front_more, sent_split}
use Rattle.atspi_trace_laws.proofs.OfTaken.Said.{IsSaid}
use Rattle.atspi_trace_laws.proofs.OfReaders.Fates.{both_keep}
use Rattle.atspi_trace_laws.proofs.OfQuiet.Here.{forward}
use Rattle.atspi_trace_laws.proofs.OfNames.Places.{first_at, greeted, name_told, told_among}
use Rattle.atspi_trace_laws.proofs.OfNames.LawNames.{IsAt, NamedAt, Named}
use Rattle.atspi_trace_laws.proofs.OfSigned.Mail.{NameIs, name_more, told_more}
use Rattle.atspi_trace_laws.proofs.OfSigned.Self.{unique_told, one_named}
use Rattle.atspi_trace_laws.proofs.OfSigned.Unique.{IsIn, owner_has}
use Rattle.atspi_trace_laws.proofs.OfSigned.LawMail.{Mail, named_is}
use Rattle.atspi_trace_laws.proofs.OfSigned.Handing.{Gives, Downs, downs_with, PutsAt, stepped_downs}
use Rattle.atspi_trace_laws.proofs.OfEnds.Ordered.{HasNames}
use Rattle.atspi_trace_laws.proofs.OfEnds.LawEnds.{Ends_told, Under_ends, ends_keep}
use Rattle.atspi_trace_laws.proofs.OfMissed.Returning.{not_the_bus}
use Rattle.atspi_trace_laws.proofs.OfMissed.Arriving.{On}
use Rattle.atspi_trace_laws.proofs.OfMissed.Delivering.{all_on}
use Rattle.atspi_trace_caches.proofs.OfSettled.ReplyingOwners.{Owned, takes_owned}
use Rattle.atspi_trace_caches.proofs.OfSettled.RefusingBus.{Errs, Refuses, takes_errs, greets_errs}
use Rattle.atspi_trace_caches.proofs.OfSettled.RefusingLeft.{Inner, inner_left, settled_inner, IsAway, LeftErrs, LeftErr, settled_errs, left_settled}
use Rattle.atspi_trace_caches.proofs.OfSettled.RefusingOpen.{takes_all}
use Rattle.atspi_trace_caches.proofs.OfSettled.Refusing.{Below, below, Under_refusing, Refusing, refusing_keeps}
use Rattle.atspi_trace_caches.proofs.OfSettled.Idling.{Stills, Idle, Joining, Form, idles, joins, takes_, ends_, begins_, form, idle_moved, idle_asked}

-- THE APPLICATION that has the name IS GONE
abbrev pub Barred : List Entry → List End → Party → ℕ → Envelope → Type 0
Barred es ends who n first =
    (name : List ℕ) (a : ℕ) → first.destination ≡ Some name → is_unique_name name ≡ true → name_told (before_sent who n es) (App a) ≡ Some name → (k : ℕ) (e : End) → end_at ends k ≡ Some e → e.who ≡ App a → is_here e.standing ≡ false

pub record ErrorTo (es : List Entry) (ends : List End) (who : Party) (n : ℕ) : Type 0 where
  pub first : Envelope
  pub was : message es who n ≡ Some first
  pub barred : Barred es ends who n first

abbrev pub Excused : List Entry → List End → Party → Letter → Type 0
Excused es ends who letter = letter.from ≡ The_bus → letter.said.message.kind ≡ 3 → (n : ℕ) → letter.said.message.reply ≡ Some n → ErrorTo es ends who n

abbrev pub AllExcused : List Entry → World → Type 0
AllExcused es w = (k : ℕ) (e : End) → end_at w.ends k ≡ Some e → e.standing ≡ here → (l : Letter) → On l e.down → Excused es w.ends e.who l

-- an open call that went to a unique name is for who has it
pub record OpenTo (es : List Entry) (ends : List End) (call : OpenCall) : Type 0 where
  pub below : call.caller < length ends
  pub first : Envelope
  pub was : (e : End) → end_at ends call.caller ≡ Some e → message es e.who call.serial ≡ Some first
  pub goes : (name : List ℕ) → first.destination ≡ Some name → is_unique_name name ≡ true → (e : End) × (end_at ends call.callee ≡ Some e) × NameIs es e.who name

pub record Barring (es : List Entry) (w : World) : Type 0 where
  pub calls : AllByRecursion (OpenTo es w.ends) w.bus.state.calls
  pub errors : AllExcused es w

-- MORE ENTRIES, and ends that last
pub record GoesOn (a b : List End) : Type 0 where
  pub size : length b ≡ length a
  pub back : (k : ℕ) (d : End) → end_at b k ≡ Some d → (e : End) × (end_at a k ≡ Some e) × (d.who ≡ e.who) × (is_here e.standing ≡ false → is_here d.standing ≡ false)
  pub on : (k : ℕ) (e : End) → end_at a k ≡ Some e → (d : End) × (end_at b k ≡ Some d) × (d.who ≡ e.who)

lasts_on : (a b : List End) → Over Lasts a b → GoesOn a b
lasts_on a b o = record {
  size = o.size;
  back = λ k d h. let x = o.back k d h in (x.0, x.1, x.2.whose, x.2.gone);
  on = λ k e h. let x = forward Lasts a b k e o h in (x.0, x.1, x.2.whose);
}

stills_on : (a b : List End) → Over Stills a b → GoesOn a b
stills_on a b o = record {
  size = o.size;
  back = λ k d h. let x = o.back k d h in (x.0, x.1, x.2.whose, x.2.gone);
  on = λ k e h. let x = forward Stills a b k e o h in (x.0, x.1, x.2.whose);
}

open_more : (es ys : List Entry) (a b : List End) (call : OpenCall) → GoesOn a b → OpenTo es a call → OpenTo (es ++ ys) b call
open_more es ys a b call o i = record {
  below = subst (λ n. call.caller < n) (sym o.size) i.below;
  first = i.first;
  was = λ d h.
      let x = o.back call.caller d h in
      found_more es ys d.who call.serial i.first (ap (λ p. message es p call.serial) x.2 ∙ i.was x.0 x.1);
  goes = λ name to unique.
      let y = i.goes name to unique in
      let z = o.on call.callee y.0 y.1 in
      (z.0, z.1, subst (λ p. NameIs (es ++ ys) p name) (sym z.2) (name_more es ys y.0.who name y.2));
}

open_joined : (es ys : List Entry) (a b : List End) (n : End) (call : OpenCall) → b ≡ a ++ n ∷ [] → OpenTo es a call → OpenTo (es ++ ys) b call
open_joined es ys a b n call is i = record {
  below = let low : call.caller < length a = i.below in let size : length b ≡ length (a ++ n ∷ []) = ap length is in let sum = length-append a (n ∷ []) in omega (arith, low, size, sum);
  first = i.first;
  was = λ d h. found_more es ys d.who call.serial i.first (by d (joined_cases a n call.caller d (ap (λ l. end_at l call.caller) (sym is) ∙ h)));
  goes = λ name to unique. let y = i.goes name to unique in (y.0, ap (λ l. end_at l call.callee) is ∙ at_front a n call.callee y.0 y.1, name_more es ys y.0.who name y.2);
}
  where
    by : (d : End) → (end_at a call.caller ≡ Some d) ⊎ ((call.caller ≡ length a) × (d ≡ n)) → message es d.who call.serial ≡ Some i.first
    by d (inl h) = i.was d h
    by d (inr h) = let low : call.caller < length a = i.below in let at : call.caller ≡ length a = h.0 in absurd (omega (arith, low, at))

barred_more : (es ys : List Entry) (a b : List End) (who : Party) (n : ℕ) (first : Envelope) → message es who n ≡ Some first → GoesOn a b → Barred es a who n first → Barred (es ++ ys) b who n first
barred_more es ys a b who n first was o i name app to unique given k d there whose =
    let x = o.back k d there in
    x.3 (i name app to unique (subst (λ l. name_told l (App app) ≡ Some name) (front_more es ys who n first was) given) k x.0 x.1 (sym x.2 ∙ whose))

excused_more : (es ys : List Entry) (a b : List End) (who : Party) (l : Letter) → GoesOn a b → Excused es a who l → Excused (es ++ ys) b who l
excused_more es ys a b who l o i from three n reply =
    let x : ErrorTo es a who n = i from three n reply in record { first = x.first; was = found_more es ys who n x.first x.was; barred = barred_more es ys a b who n x.first x.was o x.barred }

-- a name that was given when the call was sent is given still
pub given_still : (es : List Entry) (who p : Party) (n : ℕ) (first : Envelope) (name : List ℕ) → message es who n ≡ Some first → name_told (before_sent who n es) p ≡ Some name → name_told es p ≡ Some name
given_still es who p n first name was given = let x = sent_split es who n first was in subst (λ l. name_told l p ≡ Some name) (sym x.1) (told_more (before_sent who n es) (sent who first ∷ x.0) p name given)

-- and its party has an end
at_end_of : (es : List Entry) (w : World) → Named es w → (p : Party) (name : List ℕ) → name_told es p ≡ Some name → IsAt w p
at_end_of es w u p name h = by (first_at (same_party p) (greeted es)) refl h
  where
    by : (o : Option ℕ) → first_at (same_party p) (greeted es) ≡ o → option_map (λ n. unique_name (suc n)) o ≡ Some name → IsAt w p
    by None is k = absurd (no_none name k)
    by (Some i) is k = told_among (IsAt w) p (greeted es) i u.among is

no_app_registry : (a : ℕ) (p : Party) → p ≡ App a → p ≡ Registry → ⊥
no_app_registry a p is h = false_true (ap (λ q. same_party q Registry) (sym is ∙ h) ∙ party-same Registry)

-- the unique name of an end
unique_of_app : (es : List Entry) (w : World) → Named es w → (k a : ℕ) (e : End) (name : List ℕ) → end_at w.ends k ≡ Some e → e.who ≡ App a → name_told es (App a) ≡ Some name → e.unique ≡ Some name
unique_of_app es w u k a e name there whose h = (u.ends k e there).known (λ r. no_app_registry a e.who whose r) ∙ ap (name_told es) whose ∙ h

name_of_unique : (es : List Entry) (w : World) → Named es w → Mail es w → (k : ℕ) (e : End) (name : List ℕ) → end_at w.ends k ≡ Some e → e.unique ≡ Some name → NameIs es e.who name
name_of_unique es w u m k e name there has = by (same_party e.who Registry) refl
  where
    by : (b : Bool) → same_party e.who Registry ≡ b → NameIs es e.who name
    by true is = let r : e.who ≡ Registry = same-party e.who Registry is in inl (r, same_some name (codes ":1.0") (sym has ∙ m.registry k e there r))
    by false is = inr (sym ((u.ends k e there).known (λ r. false_true (sym is ∙ ap (λ q. same_party q Registry) r))) ∙ has)

-- IDLE, and one that joins
idle_excused : (es ys : List Entry) (w v : World) → Idle w v → AllExcused es w → AllExcused (es ++ ys) v
idle_excused es ys w v o i k d there on l at =
    let x = o.ends.back k d there in
    excused_more es ys w.ends v.ends d.who l (stills_on w.ends v.ends o.ends) (subst (λ p. Excused es w.ends p l) (sym x.2.whose) (i k x.0 x.1 (x.2.on on) l (x.2.down l at)))

idle_barring : (es ys : List Entry) (w v : World) → Idle w v → Barring es w → Barring (es ++ ys) v
idle_barring es ys w v o i = record {
  calls = subst (AllByRecursion (OpenTo (es ++ ys) v.ends)) (sym o.calls)
      (all_map (OpenTo es w.ends) (OpenTo (es ++ ys) v.ends) w.bus.state.calls (λ c x. open_more es ys w.ends v.ends c (stills_on w.ends v.ends o.ends) x) i.calls);
  errors = idle_excused es ys w v o i.errors;
}

joined_barred : (es ys : List Entry) (w v : World) → Named es w → Shape v → Joining w v → (who : Party) (n : ℕ) (first : Envelope) → message es who n ≡ Some first → Barred es w.ends who n first → Barred (es ++ ys) v.ends who n first
joined_barred es ys w v u s o who n first was i name a to unique given k d there whose = by (joined_cases w.ends o.nu k d (ap (λ ends. end_at ends k) (sym o.ends) ∙ there))
  where
    then_given : name_told (before_sent who n es) (App a) ≡ Some name
    then_given = subst (λ l. name_told l (App a) ≡ Some name) (front_more es ys who n first was) given

    by : (end_at w.ends k ≡ Some d) ⊎ ((k ≡ length w.ends) × (d ≡ o.nu)) → is_here d.standing ≡ false
    by (inl h) = i name a to unique then_given k d h whose
    by (inr h) =
        let x = at_end_of es w u (App a) name (given_still es who (App a) n first name was then_given) in
        let at : x.0 ≡ k = s.one x.0 k x.1 d (ap (λ ends. end_at ends x.0) o.ends ∙ at_front w.ends o.nu x.0 x.1 x.2) there (x.3 ∙ sym whose) in
        let low = at_below w.ends x.0 x.1 x.2 in
        let last : k ≡ length w.ends = h.0 in
        absurd (omega (arith, at, low, last))

joined_barring : (es ys : List Entry) (w v : World) → Named es w → Shape v → Joining w v → Barring es w → Barring (es ++ ys) v
joined_barring es ys w v u s o i = record {
  calls = subst (AllByRecursion (OpenTo (es ++ ys) v.ends)) (sym o.calls) (all_map (OpenTo es w.ends) (OpenTo (es ++ ys) v.ends) w.bus.state.calls (λ c x. open_joined es ys w.ends v.ends o.nu c o.ends x) i.calls);
  errors = λ k d there on l at. by k d l on at (joined_cases w.ends o.nu k d (ap (λ ends. end_at ends k) (sym o.ends) ∙ there));
}
  where
    by : (k : ℕ) (d : End) (l : Letter) → d.standing ≡ here → On l d.down → (end_at w.ends k ≡ Some d) ⊎ ((k ≡ length w.ends) × (d ≡ o.nu)) → Excused (es ++ ys) v.ends d.who l
    by k d l on at (inl h) = λ from three n reply.
        let x : ErrorTo es w.ends d.who n = i.errors k d h on l at from three n reply in
        record { first = x.first; was = found_more es ys d.who n x.first x.was; barred = joined_barred es ys w v u s o d.who n x.first x.was x.barred }
    by k d l on at (inr h) = absurd (subst (On l) (ap (λ (z : End). z.down) h.1 ∙ o.down) at)

-- WHERE ONE LEAVES: the open calls that it was to answer went to it
on_all : (P : Letter → Type 0) (ls : List Letter) → ((l : Letter) → On l ls → P l) → AllByRecursion P ls
on_all P [] f = tt
on_all P (x ∷ xs) f = (f x (inl refl), on_all P xs (λ l o. f l (inr o)))

here_or : (s : Standing) → (s ≡ here) ⊎ (is_here s ≡ false)
here_or here = inl refl
here_or stopped = inr refl
here_or away = inr refl

stood : (x z : End) → (is_here x.standing ≡ false → is_here z.standing ≡ false) → z.standing ≡ here → x.standing ≡ here
stood x z gone on = by (here_or x.standing)
  where
    by : (x.standing ≡ here) ⊎ (is_here x.standing ≡ false) → x.standing ≡ here
    by (inl h) = h
    by (inr h) = absurd (false_true (sym (gone h) ∙ ap is_here on))

module _ (later : List Entry) (v : World) (s : Shape v) (few : length (greeted later) ≤ 1000) where
  left_error : (conn k n : ℕ) (m : Envelope) (z : End) → IsAway v.ends conn → LeftErr (OpenTo later v.ends) conn k m → end_at v.ends k ≡ Some z → m.reply ≡ Some n → ErrorTo later v.ends z.who n
  left_error conn k n m z gone x there reply = record { first = x.its.first; was = was; barred = barred }
    where
      same : x.call.serial ≡ n
      same = same_some x.call.serial n (sym x.with_ ∙ reply)

      was : message later z.who n ≡ Some x.its.first
      was = ap (message later z.who) (sym same) ∙ x.its.was z (ap (end_at v.ends) (sym x.taker) ∙ there)

      barred : Barred later v.ends z.who n x.its.first
      barred name a to unique given j e at whose =
          let c = x.its.goes name to unique in
          let who : c.0.who ≡ App a = one_named later c.0.who (App a) name few c.2 (inr (given_still later z.who (App a) n x.its.first name was given)) in
          let place : x.call.callee ≡ j = s.one x.call.callee j c.0 e c.1 at (who ∙ sym whose) in
          subst (IsAway v.ends) (sym x.callee ∙ place) gone e at

-- THE END OF ONE
module _ (es : List Entry) (w : World) (d : Done) (s : Shape d.world) (few : length (greeted (es ++ d.entries)) ≤ 1000) (owned : Owned w.bus.state.owners) (b : BusEnds w d) (i : Barring es w) where
  abbrev then_ : List Entry
  then_ = es ++ d.entries

  abbrev last_ends : List End
  last_ends = d.world.ends

  ends_over : Over Lasts w.ends last_ends
  ends_over = bus_ends_over w d b

  abbrev P : OpenCall → Type 0
  P = OpenTo then_ last_ends

  inner_ended : Inner P w.bus.state
  inner_ended = record { calls = all_map (OpenTo es w.ends) P w.bus.state.calls (λ c o. open_more es d.entries w.ends last_ends c (lasts_on w.ends last_ends ends_over) o) i.calls; owned = owned }

  abbrev Has : ℕ → Letter → Type 0
  Has j letter = (z : End) → end_at last_ends j ≡ Some z → z.standing ≡ here → Excused then_ last_ends z.who letter

  own_has : (conn k : ℕ) (m : Envelope) → IsAway last_ends conn → LeftErrs P conn k m → Has k (own_letter m)
  own_has conn k m gone err z there on from three n reply = left_error then_ d.world s few conn k n m z gone (err three) there reply

  at_first : Downs Has w.ends
  at_first j e there = on_all (Has j) e.down (λ l o z at_ on. by l o z at_ on)
    where
      by : (l : Letter) → On l e.down → (z : End) → end_at last_ends j ≡ Some z → z.standing ≡ here → Excused then_ last_ends z.who l
      by l o z at_ on =
          let x = ends_over.back j z at_ in
          let same : x.0 ≡ e = same_some x.0 e (sym x.1 ∙ there) in
          excused_more es d.entries w.ends last_ends z.who l (lasts_on w.ends last_ends ends_over)
          (subst (λ p. Excused es w.ends p l) (sym x.2.whose) (i.errors j x.0 x.1 (stood x.0 z x.2.gone on) l (subst (λ (y : End). On l y.down) (sym same) o)))

  ended_barring : Barring then_ d.world
  ended_barring = record {
    calls = subst (λ z. AllByRecursion P z.world.bus.state.calls) (sym b.is) last.calls;
    errors = λ k z there on l at. all_on (Has k) z.down (whole k z (ap (λ x. end_at x.world.ends k) (sym b.is) ∙ there)) l at z there on;
  }
    where
      c : Carried
      c = record { bus = w.bus; ends = w.ends }

      next : Inner P (left c b.conn).bus.state
      next = let x = inner_left P w.bus.state b.conn inner_ended in record { calls = x.calls; owned = x.owned }

      last : Inner P (settled (length w.bus.state.joined) (left c b.conn)).bus.state
      last = settled_inner P (length w.bus.state.joined) (left c b.conn) next

      same : (settled (length w.bus.state.joined) (left c b.conn)).ends ≡ last_ends
      same = sym (ap (λ x. x.world.ends) b.is)

      whole : Downs Has (settled (length w.bus.state.joined) (left c b.conn)).ends
      whole = left_settled P Has last_ends own_has (length w.bus.state.joined) c b.conn inner_ended same at_first

-- THE BUS TAKES A MESSAGE
goes_to : (s : BusState) (m : Envelope) (to : List ℕ) (c : ℕ) → m.destination ≡ Some to → IsIn c (receivers s m) → IsIn c (owners_of s to)
goes_to s m to c h = by m.destination h
  where
    by : (o : Option (List ℕ)) → o ≡ Some to → IsIn c (receivers s (record m { destination = o })) → IsIn c (owners_of s to)
    by o g = subst (λ z. IsIn c (receivers s (record m { destination = z })) → IsIn c (owners_of s to)) (sym g) (λ x. x)

-- who has a name is handed what goes to it
owned_receivers : (s : BusState) (m : Envelope) (name : List ℕ) (k flags : ℕ) → m.destination ≡ Some name → list_of s.owners.lists name ≡ (k, flags) ∷ [] → is_unowned m.destination (receivers s m) ≡ true → ⊥
owned_receivers s m name k flags to alone none = false_true (by m.destination to none)
  where
    by : (o : Option (List ℕ)) → o ≡ Some name → is_unowned o (receivers s (record m { destination = o })) ≡ true → false ≡ true
    by o h = subst (λ z. is_unowned z (receivers s (record m { destination = z })) ≡ true → false ≡ true) (sym h) (subst (λ l. is_unowned (Some name) (one_or_none (owner_in l)) ≡ true → false ≡ true) (sym alone) (λ g. g))

owner_one : (o : Owners) (j k : ℕ) (name : List ℕ) → Owned o → unique_of o j ≡ Some name → unique_of o k ≡ Some name → j ≡ k
owner_one o j k name i h g = ap front (sym (i.lists j name h).alone ∙ (i.lists k name g).alone)
  where
    front : List (ℕ × ℕ) → ℕ
    front [] = 0
    front (x ∷ xs) = x.0

-- a call to the bus goes to no unique name
no_unique_bus : (m : Envelope) (name : List ℕ) → is_for_bus m ≡ true → m.destination ≡ Some name → is_unique_name name ≡ true → ⊥
no_unique_bus m name for to unique = false_true (by m.destination to for)
  where
    its : bytes_eq name own_name ≡ true → false ≡ true
    its h = ap is_unique_name (sym ((bytes_eq-Decides name own_name).0 h)) ∙ unique

    by : (o : Option (List ℕ)) → o ≡ Some name → is_for_bus (record m { destination = o }) ≡ true → false ≡ true
    by o h = subst (λ z. is_for_bus (record m { destination = z }) ≡ true → false ≡ true) (sym h) its

module _ (es : List Entry) (w : World) (d : Done) (s : Shape w) (after : Shape d.world) (u : Below es w) (few : length (greeted (es ++ d.entries)) ≤ 1000) (owned : Owned w.bus.state.owners) (names : HasNames w.bus.state.owners w.ends) (b : BusTakes w d)
    (i : Barring es w) where
  abbrev later : List Entry
  later = es ++ d.entries

  abbrev e0 : Envelope
  e0 = b.said.message

  abbrev step : BusStep
  step = bus_takes w.bus.state b.conn e0 (rule_in e0)

  abbrev base : Carried
  base = record { bus = w.bus; ends = with_end b.conn taken_up w.ends }

  abbrev done_ : Carried
  done_ = with_name b.conn (stepped (letter_of b.e.who b.said) base step)

  abbrev fin : List End
  fin = d.world.ends

  said_ : message es b.e.who e0.serial ≡ Some e0
  said_ = (subst (AllByRecursion (IsSaid es b.e.who)) b.link (u.known b.conn b.e b.is_here.there).0).0.was

  over : Over Lasts w.ends fin
  over = bus_takes_over w d b

  on_ : GoesOn w.ends fin
  on_ = lasts_on w.ends fin over

  small : w.bus.state.owners.given < 2 ^ 32
  small = let count : w.bus.state.owners.given ≡ suc (length (greeted es)) = u.named.count in let few_ : length (greeted es) ≤ 1000 = u.few in omega (arith, count, few_)

  abbrev Now : OpenCall → Type 0
  Now = OpenTo later fin

  opens : (own : List ℕ) → unique_of w.bus.state.owners b.conn ≡ Some own → let m : Envelope = record e0 { sender = Some own } in is_for_bus m ≡ false → (k : ℕ) → IsIn k (receivers w.bus.state m) → Now (record { caller = b.conn; serial = e0.serial; callee = k })
  opens own named_ other k at = record {
    below = subst (λ n. b.conn < n) (sym over.size) (at_below w.ends b.conn b.e b.is_here.there);
    first = e0;
    was = λ z h.
        let x = over.back b.conn z h in
        let who : z.who ≡ b.e.who = x.2.whose ∙ ap (λ (e : End). e.who) (same_some x.0 b.e (sym x.1 ∙ b.is_here.there)) in
        found_more es d.entries z.who e0.serial e0 (ap (λ p. message es p e0.serial) who ∙ said_);
    goes = λ name to unique.
        let has : unique_of w.bus.state.owners k ≡ Some name = owner_has w.bus.state name k u.mail.lists unique (goes_to w.bus.state (record e0 { sender = Some own }) name k to at) in
        let x = names k name has in
        let y = on_.on k x.0 x.1 in
        (y.0, y.1, subst (λ p. NameIs later p name) (sym y.2) (name_more es d.entries x.0.who name (name_of_unique es w u.named u.mail k x.0 name x.1 x.2)));
  }

  inner_taken : Inner Now done_.bus.state
  inner_taken = record {
    calls = takes_all Now w.bus.state b.conn e0 (rule_in e0) opens (all_map (OpenTo es w.ends) Now w.bus.state.calls (λ c o. open_more es d.entries w.ends fin c on_ o) i.calls);
    owned = takes_owned w.bus.state b.conn e0 (rule_in e0) small owned;
  }

  abbrev At : ℕ → Letter → Type 0
  At j letter = (z : End) → end_at fin j ≡ Some z → z.standing ≡ here → Excused later fin z.who letter

  before_at : Downs At base.ends
  before_at = downs_with At taken_up b.conn w.ends (λ e a. a) (λ j e there. on_all (At j) e.down (λ l o z at_ on. by j e there l o z at_ on))
    where
      by : (j : ℕ) (e : End) → end_at w.ends j ≡ Some e → (l : Letter) → On l e.down → (z : End) → end_at fin j ≡ Some z → z.standing ≡ here → Excused later fin z.who l
      by j e there l o z at_ on =
          let x = over.back j z at_ in
          let same : x.0 ≡ e = same_some x.0 e (sym x.1 ∙ there) in
          excused_more es d.entries w.ends fin z.who l on_
          (subst (λ p. Excused es w.ends p l) (sym x.2.whose) (i.errors j x.0 x.1 (stood x.0 z x.2.gone on) l (subst (λ (y : End). On l y.down) (sym same) o)))

  own_later : (conn k : ℕ) (m : Envelope) → IsAway fin conn → LeftErrs Now conn k m → At k (own_letter m)
  own_later conn k m gone err z there on from three n reply = left_error later d.world after few conn k n m z gone (err three) there reply

  not_from_bus : b.e.who ≡ The_bus → ⊥
  not_from_bus is = no_bus w b.conn b.e s b.is_here.there is

  put_at : (k : ℕ) (m : Envelope) → At k (own_letter m) → At k (letter_of b.e.who b.said m)
  put_at k m own = by (is_text m.sender own_name)
    where
      by : (t : Bool) → At k (if t then own_letter m else record { from = b.e.who; said = record b.said { message = m } })
      by true = own
      by false = λ z there on from. absurd (not_from_bus from)

  module _ (own : List ℕ) (named_ : unique_of w.bus.state.owners b.conn ≡ Some own) where
    abbrev signed_as : Envelope
    signed_as = record e0 { sender = Some own }

    unique_own : is_unique_name own ≡ true
    unique_own = unique_told es b.e.who own (named_is es w u.named u.mail.registry b.conn b.e b.is_here.there b.is_here.standing own named_)

    -- nobody has the name: who had it is gone
    barred : Refuses w.bus.state b.conn signed_as (rule_in e0) → Barred later fin b.e.who e0.serial e0
    barred (inl x) name a to unique given j e at whose = absurd (no_unique_bus signed_as name x.0 to unique)
    barred (inr x) name a to unique given j e at whose = by (here_or e.standing)
      where
        then_told : name_told es (App a) ≡ Some name
        then_told = given_still es b.e.who (App a) e0.serial e0 name said_ (subst (λ l. name_told l (App a) ≡ Some name) (front_more es d.entries b.e.who e0.serial e0 said_) given)

        by : (e.standing ≡ here) ⊎ (is_here e.standing ≡ false) → is_here e.standing ≡ false
        by (inr gone) = gone
        by (inl on) =
            let y = over.back j e at in
            let its : NamedAt es w.bus.state.owners j y.0 = u.named.ends j y.0 y.1 in
            let has : unique_of w.bus.state.owners j ≡ Some name = its.owner (stood y.0 e y.2.gone on) ∙ unique_of_app es w u.named j a y.0 name y.1 (sym y.2.whose ∙ whose) then_told in
            let x_owner = owned.lists j name has in
            absurd (owned_receivers w.bus.state signed_as name j x_owner.flags to x_owner.alone x.1)

    replied : (k : ℕ) (m : Envelope) → Errs w.bus.state.owners own e0.serial (Refuses w.bus.state b.conn signed_as (rule_in e0)) k m → At k (own_letter m)
    replied k m err z there on from three n reply =
        let x = err three in
        let y = over.back k z there in
        let at : k ≡ b.conn = owner_one w.bus.state.owners k b.conn own owned x.1 named_ in
        let who : z.who ≡ b.e.who = y.2.whose ∙ ap (λ (e : End). e.who) (same_some y.0 b.e (sym y.1 ∙ ap (end_at w.ends) at ∙ b.is_here.there)) in
        let is_n : e0.serial ≡ n = same_some e0.serial n (sym x.0 ∙ reply) in
        subst (ErrorTo later fin z.who) is_n (subst (λ p. ErrorTo later fin p e0.serial) (sym who) (record { first = e0; was = found_more es d.entries b.e.who e0.serial e0 said_; barred = barred x.2 }))

    its_own : (k : ℕ) → At k (letter_of b.e.who b.said signed_as)
    its_own k =
        subst (At k) (sym (ap (λ t. if t then own_letter signed_as else record { from = b.e.who; said = record b.said { message = signed_as } }) (not_the_bus own unique_own)))
        (λ z there on from. absurd (not_from_bus from))

    named_gives : AllByRecursion (Gives (PutsAt At (letter_of b.e.who b.said))) step.moves
    named_gives = takes_errs w.bus.state b.conn e0 (rule_in e0) own named_ unique_own u.mail.lists (PutsAt At (letter_of b.e.who b.said)) (λ k m err. put_at k m (replied k m err)) its_own

  gives : AllByRecursion (Gives (PutsAt At (letter_of b.e.who b.said))) step.moves
  gives = by (unique_of w.bus.state.owners b.conn) refl
    where
      quiet : (moves : List Move) → AllByRecursion (Gives (λ c m. m.kind ≡ 3 → ⊥)) moves → AllByRecursion (Gives (PutsAt At (letter_of b.e.who b.said))) moves
      quiet [] a = tt
      quiet (delivers c m ∷ moves) a = (put_at c m (λ z there on from three. absurd (a.0 three)), quiet moves a.1)
      quiet (says m ∷ moves) a = (tt, quiet moves a.1)
      quiet (closes c ∷ moves) a = (tt, quiet moves a.1)

      hello_by : (t : Bool) → AllByRecursion (Gives (PutsAt At (letter_of b.e.who b.said))) (if t then greets w.bus.state b.conn e0 else record { state = w.bus.state; moves = closes b.conn ∷ [] }).moves
      hello_by true = quiet (greets w.bus.state b.conn e0).moves (greets_errs w.bus.state b.conn e0)
      hello_by false = (tt, tt)

      by : (o : Option (List ℕ)) → unique_of w.bus.state.owners b.conn ≡ o → AllByRecursion (Gives (PutsAt At (letter_of b.e.who b.said))) step.moves
      by None none = rw none (hello_by (is_hello e0))
      by (Some own) h = named_gives own h

  took_barring : Barring later d.world
  took_barring = record {
    calls = subst (λ y. AllByRecursion Now y.world.bus.state.calls) (sym b.is) last.calls;
    errors = λ k z there on l at. all_on (At k) z.down (whole k z (ap (λ x. end_at x.world.ends k) (sym b.is) ∙ there)) l at z there on;
  }
    where
      last : Inner Now (carrying.settled (length w.bus.state.joined) done_).bus.state
      last = settled_inner Now (length w.bus.state.joined) done_ inner_taken

      whole : Downs At (settled (length w.bus.state.joined) done_).ends
      whole =
          settled_errs Now At fin own_later (length w.bus.state.joined) done_ inner_taken (sym (ap (λ x. x.world.ends) b.is))
          (downs_with At (named (stepped (letter_of b.e.who b.said) base step).bus b.conn) b.conn (stepped (letter_of b.e.who b.said) base step).ends (λ e a. a) (stepped_downs At (letter_of b.e.who b.said) base step gives before_at))

-- EACH FORM
no_letters : (quota k : ℕ) (e : End) → end_at (first_world quota).ends k ≡ Some e → (l : Letter) → On l e.down → ⊥
no_letters quota zero e h l o = subst (On l) (ap (λ (x : End). x.down) (sym (same_some first_registry e h))) o
no_letters quota (suc k) e h l o = no_none e h

first_barring : (es : List Entry) (quota : ℕ) → Barring es (first_world quota)
first_barring es quota = record { calls = tt; errors = λ k e there on l at. absurd (no_letters quota k e there l at) }

abbrev pub Under_barring : List Entry → World → Type 0
Under_barring es w = And (And Under_refusing Refusing) (And Under_ends Ends_told) es w

barring_kept : (es : List Entry) (w : World) (d : Done) → Shape w → Shape d.world → Below es w → length (greeted (es ++ d.entries)) ≤ 1000 → Owned w.bus.state.owners → HasNames w.bus.state.owners w.ends → Form w d → Barring es w → Barring (es ++ d.entries) d.world
barring_kept es w d s after u few owned names (idles o) i = idle_barring es d.entries w d.world o i
barring_kept es w d s after u few owned names (joins o) i = joined_barring es d.entries w d.world u.named after o i
barring_kept es w d s after u few owned names (takes_ b) i = took_barring es w d s after u few owned names b i
barring_kept es w d s after u few owned names (ends_ b) i = ended_barring es w d after few owned b i
barring_kept es w d s after u few owned names (begins_ quota is) i = subst (λ x. Barring (es ++ x.entries) x.world) (sym is) (first_barring (es ++ []) quota)

barring_grows : Grows Under_barring Barring
barring_grows = record {
  begins = first_barring [] QUOTA_MOST;
  caused = λ es w d s a i e after b.
      barring_kept es w d s after (below es w a.0.0) (below (es ++ d.entries) d.world b.0.0).few a.0.1.opened.owned a.1.1.names (form w d e) i;
  moved = λ es w v s a i m. subst (λ l. Barring l v) (append-nil es) (idle_barring es [] w v (idle_moved w v m) i);
  asked = λ es w conn r m question s a i asks. idle_barring es (sent (Reader r) m ∷ []) w (at_end w conn (asks_at m question)) (idle_asked w conn m question) i;
}

pub barring_keeps : Keeps (Shaped (And Under_barring Barring))
barring_keeps = grown Under_barring Barring (both_keep (And Under_refusing Refusing) (And Under_ends Ends_told) refusing_keeps ends_keep) barring_grows
