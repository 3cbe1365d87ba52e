-- WHOM THE BUS ANSWERS BY AN ERROR: each error of the bus's own on a down link answers a call of that end, either one to the bus itself, behind its Hello, which is an AddMatch of a rule only where the end had sent
-- so many; or one to another, and to the registry's name only where the registry is gone.
use Rattle.std.proofs.Common.{◌≡◌, ◌⊎◌, inl, inr, ℕ, zero, suc, ◌+◌, ◌<◌, ◌≤◌, ◌^◌, Bool, true, false, List, [], ◌∷◌, ◌++◌, length, Option, None, Some, refl, sym, ap, ◌∙◌, subst, arith, is_some}
use Rattle.std.specs.Prelude.{codes, if◌then◌else◌, Ok}
use Rattle.std.specs.List.{AllByRecursion}
use Rattle.std.proofs.lemmas.List.{append-nil}
use Rattle.atspi_base.specs.valid_names.Names.{is_unique_name}
use Rattle.atspi_script_lines.specs.declared.limits.TheConstants.{QUOTA_MOST}
use Rattle.atspi_script_lines.specs.declared.line.Party.{Party}
use Rattle.atspi_script_lines.specs.declared.line.Party.TheVariants.{Bus as The_bus, Registry, Reader}
use Rattle.atspi_message.specs.Envelope.{Envelope}
use Rattle.atspi_match.specs.declared.condition.Condition.{Condition}
use Rattle.atspi_match.specs.RuleIndex.{rules_of}
use Rattle.atspi_names.specs.Owners.{Owners, own_name, list_of}
use Rattle.atspi_names.specs.Queue.{owner_in}
use Rattle.atspi_protocol.specs.ends.Places.{registry}
use Rattle.atspi_match.specs.declared.routing.member.BusMember.TheVariants.{AddMatch}
use Rattle.atspi_match.specs.routing.BusState.{OpenCall, BusState, unique_of}
use Rattle.atspi_match.specs.routing.Members.{is_text, member_of}
use Rattle.atspi_match.specs.routing.Routing.{receivers, one_or_none, is_for_bus}
use Rattle.atspi_match.specs.routing.Steps.{Move, says, delivers, closes, BusStep, is_unowned, is_hello, greets, bus_takes}
use Rattle.atspi_trace.specs.Entry.{Entry, sent, got}
use Rattle.atspi_trace.specs.Rules.{rule_in}
use Rattle.atspi_trace.specs.World.{Standing, here, stopped, away, first_registry, Letter, End, World, first_world}
use Rattle.atspi_trace.specs.Ends.{is_here, end_at, with_end, taken_up}
use Rattle.atspi_trace.specs.Carrying.{Carried, own_letter, letter_of, stepped, named, with_name, left, takes, settled, bus_entries}
use Rattle.atspi_trace.specs.Causes.{Done, at_end}
use Rattle.atspi_trace.specs.Due.{asks_at}
use Rattle.atspi_trace_laws.specs.laws.Words.{message}
use Rattle.atspi_trace_laws.specs.laws.NineLaws.{count_got_by_bus}
use Rattle.atspi_trace_laws.proofs.OfOrder.Parties.{no_none, same_some, party-same, false_true}
use Rattle.atspi_trace_laws.proofs.OfOrder.Along.{Keeps}
use Rattle.atspi_trace_laws.proofs.OfOrder.Frame.{Over, joined_cases}
use Rattle.atspi_trace_laws.proofs.OfOrder.Shape.{Shape, Lasts}
use Rattle.atspi_trace_laws.proofs.OfOrder.Shaped.{bus_takes_over, bus_ends_over}
use Rattle.atspi_trace_laws.proofs.OfOrder.Growing.{Grows, Shaped, And, grown}
use Rattle.atspi_trace_laws.proofs.OfOrder.Effects.{BusTakes, BusEnds, Effect}
use Rattle.atspi_trace_laws.proofs.OfLinks.LawLinks.{Linked, no_bus, first_unread}
use Rattle.atspi_trace_laws.proofs.OfLinks.Ups.{Ups}
use Rattle.atspi_trace_laws.proofs.OfTurns.Turning.{count_more}
use Rattle.atspi_trace_laws.proofs.OfTaken.Found.{found_more}
use Rattle.atspi_trace_laws.proofs.OfTaken.Said.{IsSaid}
use Rattle.atspi_trace_laws.proofs.OfTaken.LawTaken.{Known}
use Rattle.atspi_trace_laws.proofs.OfNames.Places.{greeted}
use Rattle.atspi_trace_laws.proofs.OfNames.LawNames.{NamedAt, Named}
use Rattle.atspi_trace_laws.proofs.OfNames.LawEnds.{few_greeted}
use Rattle.atspi_trace_laws.proofs.OfSigned.Self.{unique_told}
use Rattle.atspi_trace_laws.proofs.OfSigned.LawMail.{Mail, named_is}
use Rattle.atspi_trace_laws.proofs.OfSigned.Handing.{Gives, Downs, downs_with, PutsAt, stepped_downs}
use Rattle.atspi_trace_laws.proofs.OfMissed.Returning.{not_the_bus}
use Rattle.atspi_trace_laws.proofs.OfMissed.Arriving.{On}
use Rattle.atspi_trace_laws.proofs.OfMissed.Delivering.{all_on}
use Rattle.atspi_trace_caches.proofs.OfServed.Owning.{KeepsName}
use Rattle.atspi_trace_caches.proofs.OfServed.Returned.{Rightly, Under_rightly, rightly_keeps}
use Rattle.atspi_trace_caches.proofs.OfSettled.ReplyingOwners.{Owned}
use Rattle.atspi_trace_caches.proofs.OfSettled.RefusingBus.{Errs, Refuses, takes_errs, greets_errs}
use Rattle.atspi_trace_caches.proofs.OfSettled.RefusingLeft.{IsAway, LeftErrs, settled_errs, left_settled}
use Rattle.atspi_trace_caches.proofs.OfSettled.RefusingRules.{number_is, adds_below, adds_grow, Counted, counted_kept, idle_counted, counted_first}
use Rattle.atspi_trace_caches.proofs.OfSettled.RefusingFirst.{owned_first}
use Rattle.atspi_trace_caches.proofs.OfSettled.RefusingOpen.{IsOpen, Opened, Now, inner_step, inner_ended, idle_opened, opened_kept, same_for}
use Rattle.atspi_trace_caches.proofs.OfSettled.Idling.{Idle, Joining, Form, idles, joins, takes_, ends_, begins_, form, idle_moved, idle_asked}

-- AN ERROR, with the call that it answers and why
abbrev pub Reason : List Entry → List End → Party → ℕ → Envelope → Type 0
Reason es ends who n first =
    ((is_for_bus first ≡ true) × (2 ≤ n) × ((r : List Condition) → member_of first ≡ Ok AddMatch → rule_in first ≡ Some r → 512 ≤ adds_below es who n))
    ⊎ ((is_for_bus first ≡ false) × (first.destination ≡ Some registry → IsAway ends 0))

pub record ErrorTo (es : List Entry) (ends : List End) (who : Party) (n : ℕ) : Type 0 where
  pub first : Envelope
  pub was : message es who n ≡ Some first
  pub why : Reason es ends who n first

abbrev pub Excused : List Entry → List End → Party → Letter → Type 0
Excused es ends who letter = (who ≡ Registry → ⊥) → letter.from ≡ The_bus → letter.said.message.kind ≡ 3 → (n : ℕ) → letter.said.message.reply ≡ Some n → ErrorTo es ends who n

abbrev pub AllExcused : List Entry → World → Type 0
AllExcused es w = (k : ℕ) (e : End) → end_at w.ends k ≡ Some e → e.standing ≡ here → (l : Letter) → On l e.down → Excused es w.ends e.who l

pub record Refusing (es : List Entry) (w : World) : Type 0 where
  pub opened : Opened es w
  pub counted : Counted es w
  pub errors : AllExcused es w

-- more entries, and ends that last
least : (n : ℕ) → n ≤ n
least n = omega arith

reason_more : (es ys : List Entry) (a b : List End) (who : Party) (n : ℕ) (first : Envelope) → (IsAway a 0 → IsAway b 0) → Reason es a who n first → Reason (es ++ ys) b who n first
reason_more es ys a b who n first f (inl x) =
    inl (
      x.0,
      x.1,
      λ r adds is.
          let old : 512 ≤ adds_below es who n = x.2 r adds is in
          let more = adds_grow es ys who n n (least n) in
          omega (arith, old, more),
    )
reason_more es ys a b who n first f (inr x) = inr (x.0, λ to. f (x.1 to))

excused_more : (es ys : List Entry) (a b : List End) (who : Party) (l : Letter) → (IsAway a 0 → IsAway b 0) → Excused es a who l → Excused (es ++ ys) b who l
excused_more es ys a b who l f i other from three n reply =
    let x : ErrorTo es a who n = i other from three n reply in
    record { first = x.first; was = found_more es ys who n x.first x.was; why = reason_more es ys a b who n x.first f x.why }

abbrev Gone_back : List End → List End → Type 0
Gone_back a b = (k : ℕ) (d : End) → end_at b k ≡ Some d → (e : End) × (end_at a k ≡ Some e) × (is_here e.standing ≡ false → is_here d.standing ≡ false)

still_away : (a b : List End) → Gone_back a b → IsAway a 0 → IsAway b 0
still_away a b g f d h = let x = g 0 d h in x.2 (f x.0 x.1)

idle_excused : (es ys : List Entry) (w v : World) → Idle w v → AllExcused es w → AllExcused (es ++ ys) v
idle_excused es ys w v o i k d there on l at =
    let x = o.ends.back k d there in
    excused_more es ys w.ends v.ends d.who l (still_away w.ends v.ends (λ j z h. let y = o.ends.back j z h in (y.0, y.1, y.2.gone)))
    (subst (λ p. Excused es w.ends p l) (sym x.2.whose) (i k x.0 x.1 (x.2.on on) l (x.2.down l at)))

first_of : (a : List End) (n : End) (k : ℕ) (e : End) → end_at a k ≡ Some e → (d : End) → end_at (a ++ n ∷ []) 0 ≡ Some d → end_at a 0 ≡ Some d
first_of [] n k e h d g = absurd (no_none e h)
first_of (x ∷ xs) n k e h d g = g

joined_excused : (es ys : List Entry) (w v : World) → Joining w v → AllExcused es w → AllExcused (es ++ ys) v
joined_excused es ys w v o i k d there on l at = by (joined_cases w.ends o.nu k d (ap (λ ends. end_at ends k) (sym o.ends) ∙ there))
  where
    by : (end_at w.ends k ≡ Some d) ⊎ ((k ≡ length w.ends) × (d ≡ o.nu)) → Excused (es ++ ys) v.ends d.who l
    by (inl h) =
        excused_more es ys w.ends v.ends d.who l (λ f z g. f z (first_of w.ends o.nu k d h z (ap (λ ends. end_at ends 0) (sym o.ends) ∙ g))) (i k d h on l at)
    by (inr h) = absurd (subst (On l) (ap (λ (z : End). z.down) h.1 ∙ o.down) at)

on_all : (P : Letter → Type 0) (ls : List Letter) → ((l : Letter) → On l ls → P l) → AllByRecursion P ls
on_all P [] f = tt
on_all P (x ∷ xs) f = (f x (inl refl), on_all P xs (λ l o. f l (inr o)))

here_or : (s : Standing) → (s ≡ here) ⊎ (is_here s ≡ false)
here_or here = inl refl
here_or stopped = inr refl
here_or away = inr refl

-- two that have one name are one
owner_one : (o : Owners) (j k : ℕ) (name : List ℕ) → Owned o → unique_of o j ≡ Some name → unique_of o k ≡ Some name → j ≡ k
owner_one o j k name i h g = ap front (sym (i.lists j name h).alone ∙ (i.lists k name g).alone)
  where
    front : List (ℕ × ℕ) → ℕ
    front [] = 0
    front (x ∷ xs) = x.0

-- who is handed what goes to the registry's name
owned_receivers : (s : BusState) (m : Envelope) → m.destination ≡ Some registry → list_of s.owners.lists registry ≡ (0, 4) ∷ [] → is_unowned m.destination (receivers s m) ≡ true → ⊥
owned_receivers s m to alone none = false_true (by m.destination to none)
  where
    by : (o : Option (List ℕ)) → o ≡ Some registry → is_unowned o (receivers s (record m { destination = o })) ≡ true → false ≡ true
    by o h = subst (λ z. is_unowned z (receivers s (record m { destination = z })) ≡ true → false ≡ true) (sym h) (subst (λ l. is_unowned (Some registry) (one_or_none (owner_in l)) ≡ true → false ≡ true) (sym alone) (λ g. g))

-- what is known below
pub record Below (es : List Entry) (w : World) : Type 0 where
  pub linked : Linked es w
  pub named : Named es w
  pub few : length (greeted es) ≤ 1000
  pub known : Known es w
  pub mail : Mail es w
  pub rightly : Rightly es w

given_small : (es : List Entry) (w : World) → Below es w → w.bus.state.owners.given < 2 ^ 32
given_small es w u = let count : w.bus.state.owners.given ≡ suc (length (greeted es)) = u.named.count in let few : length (greeted es) ≤ 1000 = u.few in omega (arith, count, few)

-- the registry that is here has its name
registry_gone : (es : List Entry) (w : World) → Shape w → Below es w → unique_of w.bus.state.owners 0 ≡ None → IsAway w.ends 0
registry_gone es w s u none d h = by (here_or d.standing)
  where
    by : (d.standing ≡ here) ⊎ (is_here d.standing ≡ false) → is_here d.standing ≡ false
    by (inr g) = g
    by (inl on) = absurd (no_none (codes ":1.0") (sym none ∙ (u.named.ends 0 d h).owner on ∙ u.mail.registry 0 d h (s.registry d h)))

-- THE BUS TAKES A MESSAGE
module _ (es : List Entry) (w : World) (d : Done) (s : Shape w) (u : Below es w) (b : BusTakes w d) (i : Refusing es w) where
  abbrev later : List Entry
  later = es ++ d.entries

  abbrev e0 : Envelope
  e0 = b.said.message

  abbrev step : BusStep
  step = bus_takes w.bus.state b.conn e0 (rule_in e0)

  abbrev base : Carried
  base = record { bus = w.bus; ends = with_end b.conn taken_up w.ends }

  abbrev done_ : Carried
  done_ = with_name b.conn (stepped (letter_of b.e.who b.said) base step)

  abbrev fin : List End
  fin = d.world.ends

  said_ : message es b.e.who e0.serial ≡ Some e0
  said_ = (subst (AllByRecursion (IsSaid es b.e.who)) b.link (u.known b.conn b.e b.is_here.there).0).0.was

  serial_is : e0.serial ≡ first_unread es b.e.who
  serial_is = (subst (Ups (first_unread es b.e.who)) b.link (u.linked.1 b.conn b.e b.is_here.there (ap is_here b.is_here.standing)).ups).0

  taken_now : e0.serial < first_unread later b.e.who
  taken_now =
      let words = bus_entries (takes (record { bus = w.bus; ends = w.ends }) b.conn b.e.who b.said).ends (takes (record { bus = w.bus; ends = w.ends }) b.conn b.e.who b.said).bus.own (takes (record { bus = w.bus; ends = w.ends }) b.conn b.e.who b.said).bus.closings in
      let ys : List Entry = got The_bus b.e.who e0.serial ∷ words in
      let wrote : d.entries ≡ ys = ap (λ x. x.entries) b.is in
      let one : count_got_by_bus ys b.e.who ≡ suc (count_got_by_bus words b.e.who) = ap (λ t. count t (count_got_by_bus words b.e.who)) (party-same b.e.who) in
      let sum : count_got_by_bus (es ++ ys) b.e.who ≡ count_got_by_bus es b.e.who + count_got_by_bus ys b.e.who = count_more es ys b.e.who in
      let next : e0.serial ≡ first_unread es b.e.who = serial_is in
      subst (λ zs. e0.serial < first_unread (es ++ zs) b.e.who) (sym wrote) (omega (arith, one, sum, next))
    where
      count : Bool → ℕ → ℕ
      count true x = suc x
      count false x = x

  over : Over Lasts w.ends fin
  over = bus_takes_over w d b

  goes_away : IsAway w.ends 0 → IsAway fin 0
  goes_away = still_away w.ends fin (λ k z h. let x = over.back k z h in (x.0, x.1, x.2.gone))

  abbrev At : ℕ → Letter → Type 0
  At j letter = (z : End) → end_at fin j ≡ Some z → z.standing ≡ here → Excused later fin z.who letter

  before_at : Downs At base.ends
  before_at = downs_with At taken_up b.conn w.ends (λ e a. a) (λ j e there. on_all (At j) e.down (λ l o z at_ on. by j e there l o z at_ on))
    where
      by : (j : ℕ) (e : End) → end_at w.ends j ≡ Some e → (l : Letter) → On l e.down → (z : End) → end_at fin j ≡ Some z → z.standing ≡ here → Excused later fin z.who l
      by j e there l o z at_ on =
          let x = over.back j z at_ in
          let same : x.0 ≡ e = same_some x.0 e (sym x.1 ∙ there) in
          excused_more es d.entries w.ends fin z.who l goes_away
          (subst (λ p. Excused es w.ends p l) (sym x.2.whose) (i.errors j x.0 x.1 (stood x.0 z x.2 on) l (subst (λ (y : End). On l y.down) (sym same) o)))
        where
          stood : (x z : End) → Lasts x z → z.standing ≡ here → x.standing ≡ here
          stood x z last on = at (here_or x.standing)
            where
              at : (x.standing ≡ here) ⊎ (is_here x.standing ≡ false) → x.standing ≡ here
              at (inl h) = h
              at (inr h) = absurd (false_true (sym (last.gone h) ∙ ap is_here on))

  own_later : (conn k : ℕ) (m : Envelope) → IsAway fin conn → LeftErrs (Now es w d b said_ u.rightly.owned (given_small es w u) i.opened) conn k m → At k (own_letter m)
  own_later conn k m gone err z there on other from three n reply =
      let x = err three in
      let same : x.call.serial ≡ n = same_some x.call.serial n (sym x.with_ ∙ reply) in
      record {
        first = x.its.first;
        was = ap (message later z.who) (sym same) ∙ x.its.was z (ap (end_at fin) (sym x.taker) ∙ there);
        why = inr (x.its.other, λ to. subst (IsAway fin) (sym x.callee ∙ x.its.goes to) gone);
      }

  not_from_bus : b.e.who ≡ The_bus → ⊥
  not_from_bus is = no_bus w b.conn b.e s b.is_here.there is

  put_at : (k : ℕ) (m : Envelope) → At k (own_letter m) → At k (letter_of b.e.who b.said m)
  put_at k m own = by (is_text m.sender own_name)
    where
      by : (t : Bool) → At k (if t then own_letter m else record { from = b.e.who; said = record b.said { message = m } })
      by true = own
      by false = λ z there on other from. absurd (not_from_bus from)

  module _ (own : List ℕ) (named_ : unique_of w.bus.state.owners b.conn ≡ Some own) where
    abbrev signed_as : Envelope
    signed_as = record e0 { sender = Some own }

    unique : is_unique_name own ≡ true
    unique = unique_told es b.e.who own (named_is es w u.named u.mail.registry b.conn b.e b.is_here.there b.is_here.standing own named_)

    high : (b.e.who ≡ Registry → ⊥) → 2 ≤ e0.serial
    high other = by (at.said (ap is_some (sym (at.owner b.is_here.standing) ∙ named_)))
      where
        at : NamedAt es w.bus.state.owners b.conn b.e
        at = u.named.ends b.conn b.e b.is_here.there

        by : (b.e.who ≡ Registry) ⊎ (1 ≤ count_got_by_bus es b.e.who) → 2 ≤ e0.serial
        by (inl is) = absurd (other is)
        by (inr more) = let next : e0.serial ≡ first_unread es b.e.who = serial_is in omega (arith, more, next)

    gone_if : is_unowned e0.destination (receivers w.bus.state signed_as) ≡ true → e0.destination ≡ Some registry → IsAway fin 0
    gone_if none to = by u.rightly.owned
      where
        by : KeepsName w.bus.state.owners → IsAway fin 0
        by (inl alone) = absurd (owned_receivers w.bus.state signed_as to alone none)
        by (inr gone) = goes_away (registry_gone es w s u gone.1)

    why : (b.e.who ≡ Registry → ⊥) → Refuses w.bus.state b.conn signed_as (rule_in e0) → Reason later fin b.e.who e0.serial e0
    why other (inl x) =
        inl (
          sym (same_for e0 own) ∙ x.0,
          high other,
          λ r adds is.
              let most : rules_of b.conn w.bus.state.rules ≡ 512 = x.1 r adds is in
              let counts = number_is b.conn w.bus.state.rules in
              let few = i.counted.few b.conn b.e b.is_here.there other in
              let more = adds_grow es d.entries b.e.who (first_unread es b.e.who) (first_unread es b.e.who) (least (first_unread es b.e.who)) in
              subst (λ n. 512 ≤ adds_below later b.e.who n) (sym serial_is) (omega (arith, most, counts, few, more)),
        )
    why other (inr x) = inr (sym (same_for e0 own) ∙ x.0, λ to. gone_if x.1 to)

    replied : (k : ℕ) (m : Envelope) → Errs w.bus.state.owners own e0.serial (Refuses w.bus.state b.conn signed_as (rule_in e0)) k m → At k (own_letter m)
    replied k m err z there on other from three n reply =
        let x = err three in
        let y = over.back k z there in
        let at : k ≡ b.conn = owner_one w.bus.state.owners k b.conn own i.opened.owned x.1 named_ in
        let who : z.who ≡ b.e.who = y.2.whose ∙ ap (λ (e : End). e.who) (same_some y.0 b.e (sym y.1 ∙ ap (end_at w.ends) at ∙ b.is_here.there)) in
        let is_n : e0.serial ≡ n = same_some e0.serial n (sym x.0 ∙ reply) in
        subst (ErrorTo later fin z.who) is_n
        (subst (λ p. ErrorTo later fin p e0.serial) (sym who) (record { first = e0; was = found_more es d.entries b.e.who e0.serial e0 said_; why = why (λ is. other (who ∙ is)) x.2 }))

    its_own : (k : ℕ) → At k (letter_of b.e.who b.said signed_as)
    its_own k =
        subst (At k) (sym (ap (λ t. if t then own_letter signed_as else record { from = b.e.who; said = record b.said { message = signed_as } }) (not_the_bus own unique)))
        (λ z there on other from. absurd (not_from_bus from))

    named_gives : AllByRecursion (Gives (PutsAt At (letter_of b.e.who b.said))) step.moves
    named_gives =
        takes_errs w.bus.state b.conn e0 (rule_in e0) own named_ unique u.mail.lists (PutsAt At (letter_of b.e.who b.said)) (λ k m err. put_at k m (replied k m err)) its_own

  gives : AllByRecursion (Gives (PutsAt At (letter_of b.e.who b.said))) step.moves
  gives = by (unique_of w.bus.state.owners b.conn) refl
    where
      quiet : (moves : List Move) → AllByRecursion (Gives (λ c m. m.kind ≡ 3 → ⊥)) moves → AllByRecursion (Gives (PutsAt At (letter_of b.e.who b.said))) moves
      quiet [] a = tt
      quiet (delivers c m ∷ moves) a = (put_at c m (λ z there on other from three. absurd (a.0 three)), quiet moves a.1)
      quiet (says m ∷ moves) a = (tt, quiet moves a.1)
      quiet (closes c ∷ moves) a = (tt, quiet moves a.1)

      hello_by : (t : Bool) → AllByRecursion (Gives (PutsAt At (letter_of b.e.who b.said))) (if t then greets w.bus.state b.conn e0 else record { state = w.bus.state; moves = closes b.conn ∷ [] }).moves
      hello_by true = quiet (greets w.bus.state b.conn e0).moves (greets_errs w.bus.state b.conn e0)
      hello_by false = (tt, tt)

      by : (o : Option (List ℕ)) → unique_of w.bus.state.owners b.conn ≡ o → AllByRecursion (Gives (PutsAt At (letter_of b.e.who b.said))) step.moves
      by None none = rw none (hello_by (is_hello e0))
      by (Some own) h = named_gives own h

  took_excused : AllExcused later d.world
  took_excused k z there on l at = all_on (At k) z.down (whole k z (ap (λ x. end_at x.world.ends k) (sym b.is) ∙ there)) l at z there on
    where
      whole : Downs At (settled (length w.bus.state.joined) done_).ends
      whole =
          settled_errs (Now es w d b said_ u.rightly.owned (given_small es w u) i.opened) At fin own_later (length w.bus.state.joined) done_ (inner_step es w d b said_ u.rightly.owned (given_small es w u) i.opened)
          (sym (ap (λ x. x.world.ends) b.is))
          (downs_with At (named (stepped (letter_of b.e.who b.said) base step).bus b.conn) b.conn (stepped (letter_of b.e.who b.said) base step).ends (λ e a. a) (stepped_downs At (letter_of b.e.who b.said) base step gives before_at))

-- THE END OF ONE
module _ (es : List Entry) (w : World) (d : Done) (b : BusEnds w d) (i : Refusing es w) where
  abbrev then_ : List Entry
  then_ = es ++ d.entries

  abbrev last_ends : List End
  last_ends = d.world.ends

  ends_over : Over Lasts w.ends last_ends
  ends_over = bus_ends_over w d b

  abbrev P : OpenCall → Type 0
  P = IsOpen then_ last_ends

  abbrev Has : ℕ → Letter → Type 0
  Has j letter = (z : End) → end_at last_ends j ≡ Some z → z.standing ≡ here → Excused then_ last_ends z.who letter

  own_has : (conn k : ℕ) (m : Envelope) → IsAway last_ends conn → LeftErrs P conn k m → Has k (own_letter m)
  own_has conn k m gone err z there on other from three n reply =
      let x = err three in
      let same : x.call.serial ≡ n = same_some x.call.serial n (sym x.with_ ∙ reply) in
      record {
        first = x.its.first;
        was = ap (message then_ z.who) (sym same) ∙ x.its.was z (ap (end_at last_ends) (sym x.taker) ∙ there);
        why = inr (x.its.other, λ to. subst (IsAway last_ends) (sym x.callee ∙ x.its.goes to) gone);
      }

  at_first : Downs Has w.ends
  at_first j e there = on_all (Has j) e.down (λ l o z at_ on. by l o z at_ on)
    where
      by : (l : Letter) → On l e.down → (z : End) → end_at last_ends j ≡ Some z → z.standing ≡ here → Excused then_ last_ends z.who l
      by l o z at_ on =
          let x = ends_over.back j z at_ in
          let same : x.0 ≡ e = same_some x.0 e (sym x.1 ∙ there) in
          excused_more es d.entries w.ends last_ends z.who l (still_away w.ends last_ends (λ k y h. let q = ends_over.back k y h in (q.0, q.1, q.2.gone)))
          (subst (λ p. Excused es w.ends p l) (sym x.2.whose) (i.errors j x.0 x.1 (stood x.0 x.2) l (subst (λ (y : End). On l y.down) (sym same) o)))
        where
          stood : (x : End) → Lasts x z → x.standing ≡ here
          stood x last = at (here_or x.standing)
            where
              at : (x.standing ≡ here) ⊎ (is_here x.standing ≡ false) → x.standing ≡ here
              at (inl h) = h
              at (inr h) = absurd (false_true (sym (last.gone h) ∙ ap is_here on))

  ended_excused : AllExcused then_ d.world
  ended_excused k z there on l at = all_on (Has k) z.down (whole k z (ap (λ x. end_at x.world.ends k) (sym b.is) ∙ there)) l at z there on
    where
      c : Carried
      c = record { bus = w.bus; ends = w.ends }

      same : (settled (length w.bus.state.joined) (left c b.conn)).ends ≡ last_ends
      same = sym (ap (λ x. x.world.ends) b.is)

      whole : Downs Has (settled (length w.bus.state.joined) (left c b.conn)).ends
      whole = left_settled P Has last_ends own_has (length w.bus.state.joined) c b.conn (inner_ended es w d b i.opened) same at_first

-- EACH FORM
no_letters : (quota k : ℕ) (e : End) → end_at (first_world quota).ends k ≡ Some e → (l : Letter) → On l e.down → ⊥
no_letters quota zero e h l o = subst (On l) (ap (λ (x : End). x.down) (sym (same_some first_registry e h))) o
no_letters quota (suc k) e h l o = no_none e h

excused_kept : (es : List Entry) (w : World) (d : Done) → Shape w → Below es w → Form w d → Refusing es w → AllExcused (es ++ d.entries) d.world
excused_kept es w d s u (idles o) i = idle_excused es d.entries w d.world o i.errors
excused_kept es w d s u (joins o) i = joined_excused es d.entries w d.world o i.errors
excused_kept es w d s u (takes_ b) i = took_excused es w d s u b i
excused_kept es w d s u (ends_ b) i = ended_excused es w d b i
excused_kept es w d s u (begins_ quota is) i = subst (λ x. AllExcused (es ++ x.entries) x.world) (sym is) (λ k e there on l at. absurd (no_letters quota k e there l at))

abbrev pub Under_refusing : List Entry → World → Type 0
Under_refusing es w = And Under_rightly Rightly es w

pub below : (es : List Entry) (w : World) → Under_refusing es w → Below es w
below es w a =
    let u = a.0.0.1.0 in
    let n = a.0.0.1.1 in
    record { linked = u.0.0.1; named = n.1; few = few_greeted es w n.1 a.0.0.0.1; known = u.1.1; mail = a.0.1.0; rightly = a.1 }

refusing_kept : (es : List Entry) (w : World) (d : Done) → Shape w → Under_refusing es w → Refusing es w → Effect w d → Refusing (es ++ d.entries) d.world
refusing_kept es w d s a i e =
    let u : Below es w = below es w a in
    let f : Form w d = form w d e in
    record {
      opened = opened_kept owned_first es w d (λ b. said_ es w d s u b i) u.rightly.owned (given_small es w u) f i.opened;
      counted = counted_kept es w d (λ b. (said_ es w d s u b i, serial_is es w d s u b i, taken_now es w d s u b i)) f i.counted;
      errors = excused_kept es w d s u f i;
    }

pub refusing_grows : Grows Under_refusing Refusing
refusing_grows = record {
  begins = record { opened = record { calls = tt; owned = owned_first QUOTA_MOST }; counted = counted_first; errors = λ k e there on l at. absurd (no_letters QUOTA_MOST k e there l at) };
  caused = λ es w d s a i e after b. refusing_kept es w d s a i e;
  moved = λ es w v s a i m. subst (λ l. Refusing l v) (append-nil es) (idly es [] w v (idle_moved w v m) i);
  asked = λ es w conn r m question s a i asks. idly es (sent (Reader r) m ∷ []) w (at_end w conn (asks_at m question)) (idle_asked w conn m question) i;
}
  where
    idly : (es ys : List Entry) (w v : World) → Idle w v → Refusing es w → Refusing (es ++ ys) v
    idly es ys w v o i = record { opened = idle_opened es ys w v o i.opened; counted = idle_counted es ys w v o i.counted; errors = idle_excused es ys w v o i.errors }

pub refusing_keeps : Keeps (Shaped (And Under_refusing Refusing))
refusing_keeps = grown Under_refusing Refusing rightly_keeps refusing_grows
