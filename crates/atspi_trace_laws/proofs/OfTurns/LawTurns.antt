-- Ends take in turn, along a lawful trace.
use Rattle.std.proofs.Common.{◌≡◌, ◌⊎◌, inl, inr, ℕ, zero, suc, ◌+◌, ◌<◌, Bool, true, false, List, [], ◌∷◌, ◌++◌, length, map, Some, refl, sym, ap, ◌∙◌, subst, arith, length-append}
use Rattle.std.specs.Prelude.{not, ◌==◌, if◌then◌else◌}
use Rattle.std.specs.List.{AllByRecursion, fold}
use Rattle.std.proofs.lemmas.List.{append-nil}
use Rattle.atspi_script_lines.specs.declared.limits.TheConstants.{QUOTA_MOST}
use Rattle.atspi_script_lines.specs.declared.line.Line.{Line}
use Rattle.atspi_script_lines.specs.declared.line.Party.{Party}
use Rattle.atspi_script_lines.specs.declared.line.Party.TheVariants.{Bus as The_bus, Registry, App, Reader}
use Rattle.atspi_message.specs.Envelope.{Envelope}
use Rattle.atspi_names.specs.Owners.{own_name}
use Rattle.atspi_protocol.specs.registering.Steps.{registry_takes}
use Rattle.atspi_protocol.specs.exporting.Taking.{app_takes}
use Rattle.atspi_match.specs.routing.Members.{is_text}
use Rattle.atspi_match.specs.routing.Queues.{Bus}
use Rattle.atspi_match.specs.routing.Routing.{receivers}
use Rattle.atspi_match.specs.routing.Steps.{Move, says, delivers, closes, BusStep, handed, bus_takes}
use Rattle.atspi_protocol.specs.following.Calls.{user_call}
use Rattle.atspi_protocol.specs.declared.following.question.Question.{Question}
use Rattle.atspi_trace.specs.Entry.{Entry, sent, got}
use Rattle.atspi_trace.specs.Rules.{rule_in}
use Rattle.atspi_trace.specs.World.{Role, the_registry, an_application, a_reader, Said, Letter, first_registry, first_world, End, World}
use Rattle.atspi_trace.specs.Ends.{is_here, same_party, number_of, end_at, with_end, put_down, rest_of, taken_up, taken_down, stops, leaves}
use Rattle.atspi_trace.specs.Carrying as carrying
use Rattle.atspi_trace.specs.Carrying.{Carried, own_letter, letter_of, stepped, named, with_name, takes, bus_entries}
use Rattle.atspi_trace.specs.Hearing.{hears_letter}
use Rattle.atspi_trace.specs.Causes.{Done, at_end, has_done, reader_sends, registry_did}
use Rattle.atspi_trace.specs.Due.{asks_as, asks_at, begins, Goes}
use Rattle.atspi_trace_laws.specs.laws.NineLaws.{Everywhere, count_got_by_bus}
use Rattle.atspi_trace_laws.specs.order.Scripts.{CanAllStand}
use Rattle.atspi_trace_laws.proofs.OfOrder.Parties.{no_none, same_some, false_true, party-same, all_append}
use Rattle.atspi_trace_laws.proofs.OfOrder.Allowed.{MovedUp, MovedDown}
use Rattle.atspi_trace_laws.proofs.OfOrder.Frame.{Over, IsOrder, over_same, over_both, over_with, settled_over, ends_over, with_length, joined_cases, with_cases}
use Rattle.atspi_trace_laws.proofs.OfOrder.Shape.{Shape}
use Rattle.atspi_trace_laws.proofs.OfOrder.Effects.{received, BusTakes, BusEnds, Effect, resets, app_joins, reader_joins, app_edited, app_took, reader_called, swapped, exited_, showed_, told_busy, told_quiet, bus_took, bus_ended, registry_took, reader_took}
use Rattle.atspi_trace_laws.proofs.OfOrder.Shaped.{new_app, new_reader, app_joined, bus_takes_over, bus_ends_over}
use Rattle.atspi_trace_laws.proofs.OfOrder.Along.{Keeps, kept}
use Rattle.atspi_trace_laws.proofs.OfOrder.Growing.{Grows, Shaped, And, grown}
use Rattle.atspi_trace_laws.proofs.OfOrder.Each.{Each, everywhere, each_more, each_of, all_map}
use Rattle.atspi_trace_laws.proofs.OfLinks.LawLinks.{no_bus, first_unread, Linked}
use Rattle.atspi_trace_laws.proofs.OfLinks.Ups.{Ups}
use Rattle.atspi_trace_laws.proofs.OfLinks.TakenInOrder.{Base, links_keep}
use Rattle.atspi_trace_laws.proofs.OfHeard.Quiet.{heard_all}
use Rattle.atspi_trace_laws.proofs.OfTaken.Handing.{IsOwn, HandsOn, stepped_put}
use Rattle.atspi_trace_laws.proofs.OfTaken.LawTaken.{NotGot, did_not_got, sent_not_got, bus_not_got, not_got_of}
use Rattle.atspi_trace_laws.specs.turns.Laws.{IsEarlier, IsTakenInTurn}
use Rattle.atspi_trace_laws.proofs.OfTurns.Rising.{Rises, rises_filter, rises_last, receivers_rise}
use Rattle.atspi_trace_laws.proofs.OfTurns.Doing.{takes_kind, taking_joined, ending_joined}
use Rattle.atspi_trace_laws.proofs.OfTurns.Turning.{IsInTurn, IsBehind, Turns, put_turns, add, count_more, none_counted, NotBy, not_by_earlier, not_got_by, turns_more, turns_taken, IsBelow, below_more, not_got_below, next_earlier, next_behind, Before, handed_turns}

-- the letters on an end's down link come in turn
abbrev pub TurnsOf : List Entry → End → Type 0
TurnsOf es e = Turns es e.who e.down

abbrev pub AllTurn : List Entry → List End → Type 0
AllTurn es ends = (k : ℕ) (e : End) → end_at ends k ≡ Some e → TurnsOf es e

-- connections stand in the order of joining
abbrev pub Joined : World → Type 0
Joined w = Rises 0 (length w.ends) w.bus.state.joined

abbrev pub Turned : List Entry → World → Type 0
Turned es w = Each IsTakenInTurn [] es × AllByRecursion (IsBelow es) es × AllTurn es w.ends × Joined w

abbrev pub Keeps_turn : List Entry → End → End → Type 0
Keeps_turn es e d = TurnsOf es e → TurnsOf es d

pub keeping : (es : List Entry) → IsOrder (Keeps_turn es)
keeping es = record { same = λ e t. t; both = λ e d c f g t. g (f t) }

turn_over : (es : List Entry) (a b : List End) → AllTurn es a → Over (Keeps_turn es) a b → AllTurn es b
turn_over es a b t o k d h = let x = o.back k d h in x.2 (t k x.0 x.1)

-- CHANGES OF AN END
own_ : (es : List Entry) (m : Envelope) (e : End) → Keeps_turn es e (put_down (own_letter m) e)
own_ es m e t = put_turns es e.who e.down (own_letter m) t (λ differ. absurd (differ refl)) (all_behind e.down)
  where
    all_behind : (ls : List Letter) → AllByRecursion (λ l. IsBehind l (own_letter m)) ls
    all_behind [] = tt
    all_behind (l ∷ ls) = ((λ differ same. absurd (differ refl)), all_behind ls)

leave_ : (es : List Entry) (e : End) → Keeps_turn es e (leaves e)
leave_ es e t = tt

name_ : (es : List Entry) (b : Bus) (conn : ℕ) (e : End) → Keeps_turn es e (named b conn e)
name_ es b conn e t = t

-- THE LAW OF LISTS
not_got_law : (before : List Entry) (entry : Entry) (behind : List Entry) → NotGot entry → IsTakenInTurn before entry behind
not_got_law before (got taker sender serial) behind n = absurd n
not_got_law before entry behind n = tt

weaker : (ys before : List Entry) (entry : Entry) (behind : List Entry) → IsTakenInTurn before entry behind → IsTakenInTurn before entry (behind ++ ys)
weaker ys before (got The_bus sender serial) behind h = tt
weaker ys before (got Registry The_bus serial) behind h = tt
weaker ys before (got Registry Registry serial) behind h = h
weaker ys before (got Registry (App a) serial) behind h = h
weaker ys before (got Registry (Reader r) serial) behind h = h
weaker ys before (got (App b) The_bus serial) behind h = tt
weaker ys before (got (App b) Registry serial) behind h = h
weaker ys before (got (App b) (App a) serial) behind h = h
weaker ys before (got (App b) (Reader r) serial) behind h = h
weaker ys before (got (Reader b) The_bus serial) behind h = tt
weaker ys before (got (Reader b) Registry serial) behind h = h
weaker ys before (got (Reader b) (App a) serial) behind h = h
weaker ys before (got (Reader b) (Reader r) serial) behind h = h
weaker ys before entry behind h = tt

all_weaker : (ys early xs : List Entry) → Each IsTakenInTurn early xs → Each (λ before entry behind. IsTakenInTurn before entry (behind ++ ys)) early xs
all_weaker ys early [] e = tt
all_weaker ys early (x ∷ xs) e = (weaker ys early x xs e.0, all_weaker ys (early ++ x ∷ []) xs e.1)

law_more : (es ys : List Entry) → Each IsTakenInTurn [] es → Each IsTakenInTurn es ys → Each IsTakenInTurn [] (es ++ ys)
law_more es ys a b = each_more IsTakenInTurn [] es ys (all_weaker ys [] es a) b

-- who takes is an end
turn_law : (es behind : List Entry) (who from : Party) (s : ℕ) → ((from ≡ The_bus → ⊥) → AllByRecursion (IsEarlier who from s) es) → IsTakenInTurn es (got who from s) behind
turn_law es behind The_bus from s f = tt
turn_law es behind Registry The_bus s f = tt
turn_law es behind (App a) The_bus s f = tt
turn_law es behind (Reader r) The_bus s f = tt
turn_law es behind Registry Registry s f = f (λ h. false_true (ap (λ p. same_party p The_bus) h))
turn_law es behind Registry (App b) s f = f (λ h. false_true (ap (λ p. same_party p The_bus) h))
turn_law es behind Registry (Reader b) s f = f (λ h. false_true (ap (λ p. same_party p The_bus) h))
turn_law es behind (App a) Registry s f = f (λ h. false_true (ap (λ p. same_party p The_bus) h))
turn_law es behind (App a) (App b) s f = f (λ h. false_true (ap (λ p. same_party p The_bus) h))
turn_law es behind (App a) (Reader b) s f = f (λ h. false_true (ap (λ p. same_party p The_bus) h))
turn_law es behind (Reader r) Registry s f = f (λ h. false_true (ap (λ p. same_party p The_bus) h))
turn_law es behind (Reader r) (App b) s f = f (λ h. false_true (ap (λ p. same_party p The_bus) h))
turn_law es behind (Reader r) (Reader b) s f = f (λ h. false_true (ap (λ p. same_party p The_bus) h))

-- NOBODY TAKES
quiet_turned : (es ys : List Entry) (w v : World) → Turned es w → AllByRecursion NotGot ys → Over (Keeps_turn (es ++ ys)) w.ends v.ends → Joined v → Turned (es ++ ys) v
quiet_turned es ys w v i n o j = (
  law_more es ys i.0 (each_of NotGot IsTakenInTurn es ys not_got_law n),
  all_append (IsBelow (es ++ ys)) es ys (all_map (IsBelow es) (IsBelow (es ++ ys)) es (below_more es ys) i.1) (all_map NotGot (IsBelow (es ++ ys)) ys (not_got_below (es ++ ys)) n),
  turn_over (es ++ ys) w.ends v.ends (λ k e h. turns_more es ys e.who e.down (all_map NotGot (NotBy e.who) ys (not_got_by e.who) n) (i.2 k e h)) o,
  j,
)

same_joined : (w v : World) → Joined w → v.bus.state.joined ≡ w.bus.state.joined → length v.ends ≡ length w.ends → Joined v
same_joined w v j h size = subst (λ xs. Rises 0 (length v.ends) xs) (sym h) (subst (λ n. Rises 0 n w.bus.state.joined) (sym size) j)

-- one end changed, and not its down link
changed_turned : (es : List Entry) (w : World) (d : Done) (conn : ℕ) (f : End → End) → Turned es w → AllByRecursion NotGot d.entries → d.world.ends ≡ with_end conn f w.ends → ((e : End) → Keeps_turn (es ++ d.entries) e (f e))
    → d.world.bus.state.joined ≡ w.bus.state.joined → Turned (es ++ d.entries) d.world
changed_turned es w d conn f i n is same joined =
    quiet_turned es d.entries w d.world i n (subst (Over (Keeps_turn (es ++ d.entries)) w.ends) (sym is) (over_with (Keeps_turn (es ++ d.entries)) (keeping (es ++ d.entries)) f same conn w.ends))
    (same_joined w d.world i.3 joined (ap length is ∙ with_length f w.ends conn))

same_turned : (es : List Entry) (w : World) (d : Done) → Turned es w → AllByRecursion NotGot d.entries → d.world.ends ≡ w.ends → d.world.bus.state.joined ≡ w.bus.state.joined → Turned (es ++ d.entries) d.world
same_turned es w d i n is joined =
    quiet_turned es d.entries w d.world i n (subst (Over (Keeps_turn (es ++ d.entries)) w.ends) (sym is) (over_same (Keeps_turn (es ++ d.entries)) (keeping (es ++ d.entries)) w.ends))
    (same_joined w d.world i.3 joined (ap length is))

-- an end joins
joins_turned : (es : List Entry) (w : World) (d : Done) (n : End) → Turned es w → AllByRecursion NotGot d.entries → d.world.ends ≡ w.ends ++ n ∷ [] → n.down ≡ [] → d.world.bus.state.joined ≡ w.bus.state.joined ++ length w.ends ∷ []
    → Turned (es ++ d.entries) d.world
joins_turned es w d n i quiet is down joined = (
  law_more es d.entries i.0 (each_of NotGot IsTakenInTurn es d.entries not_got_law quiet),
  all_append (IsBelow (es ++ d.entries)) es d.entries (all_map (IsBelow es) (IsBelow (es ++ d.entries)) es (below_more es d.entries) i.1) (all_map NotGot (IsBelow (es ++ d.entries)) d.entries (not_got_below (es ++ d.entries)) quiet),
  λ k e h. by k e (joined_cases w.ends n k e (ap (λ l. end_at l k) (sym is) ∙ h)),
  subst (λ xs. Rises 0 (length d.world.ends) xs) (sym joined) (subst (λ m. Rises 0 m (w.bus.state.joined ++ length w.ends ∷ [])) (size (ap length is ∙ length-append w.ends (n ∷ []))) (rises_last 0 (length w.ends) w.bus.state.joined (omega arith) i.3)),
)
  where
    size : length d.world.ends ≡ length w.ends + 1 → suc (length w.ends) ≡ length d.world.ends
    size h = omega (arith, h)

    by : (k : ℕ) (e : End) → ((end_at w.ends k ≡ Some e) ⊎ ((k ≡ length w.ends) × (e ≡ n))) → TurnsOf (es ++ d.entries) e
    by k e (inl h) = turns_more es d.entries e.who e.down (all_map NotGot (NotBy e.who) d.entries (not_got_by e.who) quiet) (i.2 k e h)
    by k e (inr h) = subst (TurnsOf (es ++ d.entries)) (sym h.1) (subst (Turns (es ++ d.entries) n.who) (sym down) tt)

-- AN END TAKES
taker_turned : (es : List Entry) (w v : World) (conn : ℕ) (e : End) (letter : Letter) (rest : List Letter) (f : End → End) (zs : List Entry) → Shape w → Turned es w → end_at w.ends conn ≡ Some e → e.down ≡ letter ∷ rest
    → AllByRecursion NotGot zs → v.ends ≡ with_end conn f (with_end conn taken_down w.ends) → ((x : End) → (f x).who ≡ x.who) → ((x : End) → (f x).down ≡ x.down) → v.bus.state.joined ≡ w.bus.state.joined
    → Turned (es ++ got e.who letter.from letter.said.message.serial ∷ zs) v
taker_turned es w v conn e letter rest f zs s i there link quiet is who_ down_ joined = (
  law_more es ys i.0 (turn_law es zs e.who letter.from letter.said.message.serial (λ differ. (mine.0 differ).earlier), each_of NotGot IsTakenInTurn (es ++ first ∷ []) zs not_got_law quiet),
  all_append (IsBelow (es ++ ys)) es ys (all_map (IsBelow es) (IsBelow (es ++ ys)) es (below_more es ys) i.1)
      (below_more es ys first (λ t differ. (mine.0 differ).below), all_map NotGot (IsBelow (es ++ ys)) zs (not_got_below (es ++ ys)) quiet),
  λ k x h. by k x (with_cases f (with_end conn taken_down w.ends) conn k x (ap (λ l. end_at l k) (sym is) ∙ h)),
  same_joined w v i.3 joined (ap length is ∙ with_length f (with_end conn taken_down w.ends) conn ∙ with_length taken_down w.ends conn),
)
  where
    first : Entry
    first = got e.who letter.from letter.said.message.serial

    ys : List Entry
    ys = first ∷ zs

    mine : Turns es e.who (letter ∷ rest)
    mine = subst (Turns es e.who) link (i.2 conn e there)

    quiet_by : (who : Party) → AllByRecursion (NotBy who) zs
    quiet_by who = all_map NotGot (NotBy who) zs (not_got_by who) quiet

    taken_ : TurnsOf (es ++ ys) (taken_down e)
    taken_ = subst (Turns (es ++ ys) e.who) (sym (ap rest_of link)) (turns_taken es zs e.who letter rest (quiet_by e.who) mine)

    below : (k : ℕ) (y : End) → ((z : End) × (end_at w.ends k ≡ Some z) × (((k ≡ conn) × (y ≡ taken_down z)) ⊎ ((k ≡ conn → ⊥) × (y ≡ z)))) → TurnsOf (es ++ ys) y
    below k y g = at g.2
      where
        at : (((k ≡ conn) × (y ≡ taken_down g.0)) ⊎ ((k ≡ conn → ⊥) × (y ≡ g.0))) → TurnsOf (es ++ ys) y
        at (inl c) =
            let same : g.0 ≡ e = same_some g.0 e (sym g.1 ∙ ap (end_at w.ends) c.0 ∙ there) in
            subst (TurnsOf (es ++ ys)) (sym (c.1 ∙ ap taken_down same)) taken_
        at (inr c) =
            subst (TurnsOf (es ++ ys)) (sym c.1)
            (turns_more es ys g.0.who g.0.down ((λ same. c.0 (s.one k conn g.0 e g.1 there (sym same))), quiet_by g.0.who) (i.2 k g.0 g.1))

    keeps : (x : End) → TurnsOf (es ++ ys) x → TurnsOf (es ++ ys) (f x)
    keeps x t = subst (λ p. Turns (es ++ ys) p (f x).down) (sym (who_ x)) (subst (Turns (es ++ ys) x.who) (sym (down_ x)) t)

    by : (k : ℕ) (x : End) → ((y : End) × (end_at (with_end conn taken_down w.ends) k ≡ Some y) × (((k ≡ conn) × (x ≡ f y)) ⊎ ((k ≡ conn → ⊥) × (x ≡ y)))) → TurnsOf (es ++ ys) x
    by k x g = at g.2
      where
        old : TurnsOf (es ++ ys) g.0
        old = below k g.0 (with_cases taken_down w.ends conn k g.0 g.1)

        at : (((k ≡ conn) × (x ≡ f g.0)) ⊎ ((k ≡ conn → ⊥) × (x ≡ g.0))) → TurnsOf (es ++ ys) x
        at (inl c) = subst (TurnsOf (es ++ ys)) (sym c.1) (keeps g.0 old)
        at (inr c) = subst (TurnsOf (es ++ ys)) (sym c.1) old

-- THE BUS TAKES
own_moves : (es : List Entry) (who : Party) (said : Said) (move : Move) → HandsOn IsOwn move → HandsOn (λ m. (e : End) → Keeps_turn es e (put_down (letter_of who said m) e)) move
own_moves es who said (delivers conn m) is =
    λ e. subst (λ l. Keeps_turn es e (put_down l e)) (sym (ap (λ b. if b then own_letter m else record { from = who; said = record said { message = m } }) is)) (own_ es m e)
own_moves es who said (says m) is = tt
own_moves es who said (closes conn) is = tt

module _ (es : List Entry) (w : World) (d : Done) (s : Shape w) (links : Linked es w) (i : Turned es w) (b : BusTakes w d) where
  abbrev carried_now : Carried
  carried_now = carrying.takes (record { bus = w.bus; ends = w.ends }) b.conn b.e.who b.said

  abbrev words_now : List Entry
  words_now = bus_entries carried_now.ends carried_now.bus.own carried_now.bus.closings

  abbrev first_now : Entry
  first_now = got The_bus b.e.who b.said.message.serial

  abbrev wrote_now : List Entry
  wrote_now = first_now ∷ words_now

  abbrev all_now : List Entry
  all_now = es ++ wrote_now

  abbrev base_now : List End
  base_now = with_end b.conn taken_up w.ends

  abbrev step_now : BusStep
  step_now = bus_takes w.bus.state b.conn b.said.message (rule_in b.said.message)

  abbrev carried_first : Carried
  carried_first = record { bus = w.bus; ends = base_now }

  quiet_now : AllByRecursion NotGot words_now
  quiet_now = bus_not_got carried_now.ends carried_now.bus.own carried_now.bus.closings

  serial_now : b.said.message.serial ≡ first_unread es b.e.who
  serial_now = (subst (Ups (first_unread es b.e.who)) b.link (links.1 b.conn b.e b.is_here.there (ap is_here b.is_here.standing)).ups).0

  one_more : first_unread all_now b.e.who ≡ first_unread es b.e.who + 1
  one_more =
      let sum = count_more es wrote_now b.e.who in
      let first : count_got_by_bus wrote_now b.e.who ≡ suc (count_got_by_bus words_now b.e.who) = ap (λ t. add t (count_got_by_bus words_now b.e.who)) (party-same b.e.who) in
      let none : count_got_by_bus words_now b.e.who ≡ 0 = none_counted b.e.who words_now quiet_now in
      omega (arith, sum, first, none)

  not_bus : (k : ℕ) (x : End) → end_at w.ends k ≡ Some x → x.who ≡ The_bus → ⊥
  not_bus k x h = no_bus w k x s h

  by_nobody : (who : Party) → (who ≡ The_bus → ⊥) → AllByRecursion (NotBy who) wrote_now
  by_nobody who differ = ((λ same. differ (sym same)), all_map NotGot (NotBy who) words_now (not_got_by who) quiet_now)

  -- each end before, with what it has got so far
  old_turns : (k : ℕ) (x : End) → end_at base_now k ≡ Some x → (z : End) × (end_at w.ends k ≡ Some z) × (x.who ≡ z.who) × (x.down ≡ z.down)
  old_turns k x h = by (with_cases taken_up w.ends b.conn k x h)
    where
      by : ((y : End) × (end_at w.ends k ≡ Some y) × (((k ≡ b.conn) × (x ≡ taken_up y)) ⊎ ((k ≡ b.conn → ⊥) × (x ≡ y)))) → (z : End) × (end_at w.ends k ≡ Some z) × (x.who ≡ z.who) × (x.down ≡ z.down)
      by g = (g.0, g.1, (at g.2).0, (at g.2).1)
        where
          at : (((k ≡ b.conn) × (x ≡ taken_up g.0)) ⊎ ((k ≡ b.conn → ⊥) × (x ≡ g.0))) → (x.who ≡ g.0.who) × (x.down ≡ g.0.down)
          at (inl c) = (ap (λ (z : End). z.who) c.1, ap (λ (z : End). z.down) c.1)
          at (inr c) = (ap (λ (z : End). z.who) c.1, ap (λ (z : End). z.down) c.1)

  base_turns : AllTurn all_now base_now
  base_turns k x h =
      let z = old_turns k x h in
      subst (λ p. Turns all_now p x.down) (sym z.2)
      (subst (Turns all_now z.0.who) (sym z.3) (turns_more es wrote_now z.0.who z.0.down (by_nobody z.0.who (not_bus k z.0 z.1)) (i.2 k z.0 z.1)))

  abbrev letter_now : List ℕ → Letter
  letter_now name = record { from = b.e.who; said = record b.said { message = record b.said.message { sender = Some name } } }

  its_turn : (who : Party) → (who ≡ The_bus → ⊥) → IsInTurn all_now who b.e.who b.said.message.serial
  its_turn who differ =
      let sender : b.e.who ≡ The_bus → ⊥ = not_bus b.conn b.e b.is_here.there in
      record {
        earlier = all_append (IsEarlier who b.e.who b.said.message.serial) es wrote_now
            (subst (λ n. AllByRecursion (IsEarlier who b.e.who n) es) (sym serial_now) (next_earlier es es who b.e.who differ sender i.1))
            (all_map (NotBy who) (IsEarlier who b.e.who b.said.message.serial) wrote_now (not_by_earlier who b.e.who b.said.message.serial) (by_nobody who differ));
        below = less one_more serial_now;
      }
    where
      less : first_unread all_now b.e.who ≡ first_unread es b.e.who + 1 → b.said.message.serial ≡ first_unread es b.e.who → b.said.message.serial < first_unread all_now b.e.who
      less p q = omega (arith, p, q)

  before_it : (name : List ℕ) → Before all_now (letter_now name) 0 base_now
  before_it name k x h =
      let z = old_turns k x h in (
        base_turns k x h,
        (λ more. subst (AllByRecursion (λ y. IsBehind y (letter_now name))) (sym z.3) (next_behind es z.0.who z.0.down (letter_now name) serial_now (i.2 k z.0 z.1))),
        (λ differ. subst (λ p. IsInTurn all_now p b.e.who b.said.message.serial) (sym z.2) (its_turn z.0.who (not_bus k z.0 z.1))),
      )

  handed_on : (name : List ℕ) → step_now.moves ≡ handed w.bus.state (record b.said.message { sender = Some name }) → AllTurn all_now (stepped (letter_of b.e.who b.said) carried_first step_now).ends
  handed_on name is =
      let m : Envelope = record b.said.message { sender = Some name } in
      subst (λ moves. AllTurn all_now (fold (carrying.moved (letter_of b.e.who b.said) w.bus.quota) (record { waiting = w.bus.waiting; ends = base_now }) moves).ends) (sym is) (by (is_text (Some name) own_name) refl)
    where
      rises : (h : ℕ) × Rises 0 h (receivers w.bus.state (record b.said.message { sender = Some name }))
      rises = receivers_rise w.bus.state (record b.said.message { sender = Some name }) (length w.ends) i.3 (receivers w.bus.state (record b.said.message { sender = Some name })) refl

      its : (t : Bool) → is_text (Some name) own_name ≡ t → letter_of b.e.who b.said (record b.said.message { sender = Some name }) ≡ (if t then own_letter (record b.said.message { sender = Some name }) else letter_now name)
      its t h = ap (λ c. if c then own_letter (record b.said.message { sender = Some name }) else letter_now name) h

      own_before : Before all_now (own_letter (record b.said.message { sender = Some name })) 0 base_now
      own_before k x h = (base_turns k x h, (λ more. all_own x.down), (λ differ. absurd (differ refl)))
        where
          all_own : (ls : List Letter) → AllByRecursion (λ y. IsBehind y (own_letter (record b.said.message { sender = Some name }))) ls
          all_own [] = tt
          all_own (l ∷ ls) = ((λ differ same. absurd (differ refl)), all_own ls)

      by : (t : Bool) → is_text (Some name) own_name ≡ t
          → AllTurn all_now (fold (carrying.moved (letter_of b.e.who b.said) w.bus.quota) (record { waiting = w.bus.waiting; ends = base_now }) (map (λ c. delivers c (record b.said.message { sender = Some name })) (receivers w.bus.state (record b.said.message { sender = Some name })))).ends
      by true h =
          handed_turns all_now (own_letter (record b.said.message { sender = Some name })) (letter_of b.e.who b.said) (record b.said.message { sender = Some name }) (its true h) w.bus.quota
          (receivers w.bus.state (record b.said.message { sender = Some name })) 0 rises.0 (record { waiting = w.bus.waiting; ends = base_now }) rises.1 own_before
      by false h =
          handed_turns all_now (letter_now name) (letter_of b.e.who b.said) (record b.said.message { sender = Some name }) (its false h) w.bus.quota
          (receivers w.bus.state (record b.said.message { sender = Some name })) 0 rises.0 (record { waiting = w.bus.waiting; ends = base_now }) rises.1 (before_it name)

  stepped_turns : AllTurn all_now (stepped (letter_of b.e.who b.said) carried_first step_now).ends
  stepped_turns = by (takes_kind w.bus.state b.conn b.said.message (rule_in b.said.message))
    where
      by : (AllByRecursion (HandsOn IsOwn) step_now.moves ⊎ ((name : List ℕ) × (step_now.moves ≡ handed w.bus.state (record b.said.message { sender = Some name }))))
          → AllTurn all_now (stepped (letter_of b.e.who b.said) carried_first step_now).ends
      by (inl own) =
          turn_over all_now base_now _ base_turns
          (stepped_put (Keeps_turn all_now) (keeping all_now) (letter_of b.e.who b.said) carried_first step_now
          (all_map (HandsOn IsOwn) (HandsOn (λ m. (e : End) → Keeps_turn all_now e (put_down (letter_of b.e.who b.said m) e))) step_now.moves (own_moves all_now b.e.who b.said) own))
      by (inr g) = handed_on g.0 g.1

  ends_turn : AllTurn all_now carried_now.ends
  ends_turn =
      let c : Carried = stepped (letter_of b.e.who b.said) carried_first step_now in
      turn_over all_now c.ends carried_now.ends stepped_turns
      (over_both (Keeps_turn all_now) (keeping all_now) c.ends (with_name b.conn c).ends carried_now.ends (over_with (Keeps_turn all_now) (keeping all_now) (named c.bus b.conn) (name_ all_now c.bus b.conn) b.conn c.ends)
      (settled_over (Keeps_turn all_now) (keeping all_now) (own_ all_now) (leave_ all_now) (length w.bus.state.joined) (with_name b.conn c)))

  pub bus_took_turned : Turned (es ++ d.entries) d.world
  bus_took_turned =
      let wrote : d.entries ≡ wrote_now = ap (λ x. x.entries) b.is in
      let ends : d.world.ends ≡ carried_now.ends = ap (λ x. x.world.ends) b.is in
      subst (λ l. Turned (es ++ l) d.world) (sym wrote) (
        law_more es wrote_now i.0 (tt, each_of NotGot IsTakenInTurn (es ++ first_now ∷ []) words_now not_got_law quiet_now),
        all_append (IsBelow all_now) es wrote_now (all_map (IsBelow es) (IsBelow all_now) es (below_more es wrote_now) i.1) ((λ t. absurd (t refl)), all_map NotGot (IsBelow all_now) words_now (not_got_below all_now) quiet_now),
        (λ k x h. ends_turn k x (sym (ap (λ l. end_at l k) ends) ∙ h)),
        subst (λ n. Rises 0 n d.world.bus.state.joined) (sym (bus_takes_over w d b).size)
            (subst (λ x. Rises 0 (length w.ends) x.world.bus.state.joined) (sym b.is)
            (taking_joined (Rises 0 (length w.ends)) (λ conn xs r. rises_filter (λ c. not (c == conn)) 0 (length w.ends) xs r) (record { bus = w.bus; ends = w.ends }) b.conn b.e.who b.said i.3)),
      )

bus_ended_turned : (es : List Entry) (w : World) (d : Done) → Turned es w → BusEnds w d → Turned (es ++ d.entries) d.world
bus_ended_turned es w d i b =
    let c = carrying.takes_end (record { bus = w.bus; ends = w.ends }) b.conn in
    let ys : List Entry = es ++ d.entries in
    quiet_turned es d.entries w d.world i (not_got_of d _ b.is (bus_not_got c.ends c.bus.own c.bus.closings))
    (subst (λ x. Over (Keeps_turn ys) w.ends x.world.ends) (sym b.is) (ends_over (Keeps_turn ys) (keeping ys) (own_ ys) (leave_ ys) (record { bus = w.bus; ends = w.ends }) b.conn))
    (subst (λ n. Rises 0 n d.world.bus.state.joined) (sym (bus_ends_over w d b).size)
    (subst (λ x. Rises 0 (length w.ends) x.world.bus.state.joined) (sym b.is)
    (ending_joined (Rises 0 (length w.ends)) (λ conn xs r. rises_filter (λ c. not (c == conn)) 0 (length w.ends) xs r) (record { bus = w.bus; ends = w.ends }) b.conn i.3)))

-- EACH CAUSE
first_turned : (es : List Entry) (quota : ℕ) → AllTurn es (first_world quota).ends
first_turned es quota zero e h = subst (TurnsOf es) (same_some first_registry e h) tt
first_turned es quota (suc k) e h = absurd (no_none e h)

first_joined : (quota : ℕ) → Joined (first_world quota)
first_joined quota = (omega arith, omega arith, tt)

caused_turned : (es : List Entry) (w : World) (d : Done) → Shape w → Linked es w → Turned es w → Effect w d → Turned (es ++ d.entries) d.world
caused_turned es w d s l i (resets quota few is) =
    subst (λ x. Turned (es ++ x.entries) x.world) (sym is) (subst (λ xs. Turned xs (first_world quota)) (sym (append-nil es)) (i.0, i.1, first_turned es quota, first_joined quota))
caused_turned es w d s l i (app_joins name short is) =
    joins_turned es w d (new_app w name) i (not_got_of d _ is (tt, (tt, tt))) (ap (λ x. x.world.ends) is ∙ app_joined w name) refl (ap (λ x. x.world.bus.state.joined) is)
caused_turned es w d s l i (reader_joins few is) =
    joins_turned es w d (new_reader w) i (not_got_of d _ is (tt, (tt, tt))) (ap (λ x. x.world.ends) is) refl (ap (λ x. x.world.bus.state.joined) is)
caused_turned es w d s l i (app_edited b) =
    changed_turned es w d b.conn (has_done b.before b.after) i (not_got_of d _ b.is (did_not_got _ b.after.out)) (ap (λ x. x.world.ends) b.is) (λ e t. t) (ap (λ x. x.world.bus.state.joined) b.is)
caused_turned es w d s l i (app_took b) =
    subst (λ ys. Turned (es ++ ys) d.world) (sym (ap (λ x. x.entries) b.is))
    (taker_turned es w d.world b.conn b.e b.letter b.rest (has_done b.before (app_takes b.before b.letter.said.message)) _ s i b.is_here.there b.link (did_not_got _ (app_takes b.before b.letter.said.message).out)
    (ap (λ x. x.world.ends) b.is) (λ x. refl) (λ x. refl) (ap (λ x. x.world.bus.state.joined) b.is))
caused_turned es w d s l i (reader_called b) =
    changed_turned es w d b.conn (reader_sends (record b.hearer { next = suc b.hearer.next }) (user_call b.hearer.next b.name b.node b.deed)) i (not_got_of d _ b.is (tt, tt)) (ap (λ x. x.world.ends) b.is) (λ e t. t)
    (ap (λ x. x.world.bus.state.joined) b.is)
caused_turned es w d s l i (swapped b) = same_turned es w d i (not_got_of d _ b.is tt) (ap (λ x. x.world.ends) b.is) (ap (λ x. x.world.bus.state.joined) b.is)
caused_turned es w d s l i (exited_ b) =
    changed_turned es w d b.conn stops i (not_got_of d _ b.is (tt, tt)) (ap (λ x. x.world.ends) b.is) (λ e t. t) (ap (λ x. x.world.bus.state.joined) b.is)
caused_turned es w d s l i (showed_ b) = same_turned es w d i (not_got_of d _ b.is (tt, tt)) (ap (λ x. x.world.ends) b.is) (ap (λ x. x.world.bus.state.joined) b.is)
caused_turned es w d s l i (told_busy turns is) = same_turned es w d i (not_got_of d _ is (tt, tt)) (ap (λ x. x.world.ends) is) (ap (λ x. x.world.bus.state.joined) is)
caused_turned es w d s l i (told_quiet none is) = same_turned es w d i (not_got_of d _ is (tt, tt)) (ap (λ x. x.world.ends) is) (ap (λ x. x.world.bus.state.joined) is)
caused_turned es w d s l i (bus_took b) = bus_took_turned es w d s l i b
caused_turned es w d s l i (bus_ended b) = bus_ended_turned es w d i b
caused_turned es w d s l i (registry_took b) =
    subst (λ ys. Turned (es ++ ys) d.world) (sym (ap (λ x. x.entries) b.is))
    (taker_turned es w d.world b.conn b.e b.letter b.rest (registry_did (registry_takes b.before b.letter.said.message)) _ s i b.is_here.there b.link (sent_not_got b.e.who (registry_takes b.before b.letter.said.message).sent)
    (ap (λ x. x.world.ends) b.is) (λ x. refl) (λ x. refl) (ap (λ x. x.world.bus.state.joined) b.is))
caused_turned es w d s l i (reader_took b) =
    let v : World = received w b.conn b.e b.letter in
    subst (λ ys. Turned (es ++ ys) d.world) (sym (ap (λ x. x.entries) b.is))
    (taker_turned es w d.world b.conn b.e b.letter b.rest (λ x. record x { role = a_reader (hears_letter b.hearer v.ends b.letter) }) _ s i b.is_here.there b.link
    (heard_all NotGot (λ r app line. tt) (λ r app. tt) (number_of b.e.who) b.hearer v.ends b.letter)
    (ap (λ x. x.world.ends) b.is) (λ x. refl) (λ x. refl) (ap (λ x. x.world.bus.state.joined) b.is))

abbrev pub Beneath_turns : List Entry → World → Type 0
Beneath_turns es w = And Base Linked es w

asks_turn : (es : List Entry) (m : Envelope) (question : Question) (e : End) → Keeps_turn es e (asks_at m question e)
asks_turn es m question e t = by e.role
  where
    by : (role : Role) → Turns es (asks_as role m question e).who (asks_as role m question e).down
    by (a_reader h) = t
    by (the_registry x) = t
    by (an_application x) = t

turns_grow : Grows Beneath_turns Turned
turns_grow = record {
  begins = (tt, tt, first_turned [] QUOTA_MOST, first_joined QUOTA_MOST);
  caused = λ es w d s a i e after b. caused_turned es w d s a.1 i e;
  moved = λ es w v s a i m. by es w v i m;
  asked = λ es w conn r m question s a i asks.
      let v : World = at_end w conn (asks_at m question) in
      let ys : List Entry = es ++ sent (Reader r) m ∷ [] in
      quiet_turned es (sent (Reader r) m ∷ []) w v i (tt, tt) (over_with (Keeps_turn ys) (keeping ys) (asks_at m question) (asks_turn ys m question) conn w.ends)
      (same_joined w v i.3 refl (with_length (asks_at m question) w.ends conn));
}
  where
    by : (es : List Entry) (w v : World) → Turned es w → (MovedUp w v ⊎ MovedDown w v) → Turned es v
    by es w v i (inl m) =
        let f : End → End = λ e. record e { up_moved = e.up_moved + m.count } in
        subst (Turned es) (sym m.after) (i.0, i.1, turn_over es w.ends _ i.2 (over_with (Keeps_turn es) (keeping es) f (λ e t. t) m.conn w.ends), subst (λ n. Rises 0 n w.bus.state.joined) (sym (with_length f w.ends m.conn)) i.3)
    by es w v i (inr m) =
        let f : End → End = λ e. record e { down_moved = e.down_moved + m.count } in
        subst (Turned es) (sym m.after) (i.0, i.1, turn_over es w.ends _ i.2 (over_with (Keeps_turn es) (keeping es) f (λ e t. t) m.conn w.ends), subst (λ n. Rises 0 n w.bus.state.joined) (sym (with_length f w.ends m.conn)) i.3)

pub turns_keep : Keeps (Shaped (And Beneath_turns Turned))
turns_keep = grown Beneath_turns Turned links_keep turns_grow

each_front : (xs ys : List Entry) (early : List Entry) → Each IsTakenInTurn early (xs ++ ys) → Each IsTakenInTurn early xs
each_front [] ys early e = tt
each_front (x ∷ xs) ys early e = (fewer early x xs ys e.0, each_front xs ys (early ++ x ∷ []) e.1)
  where
    fewer : (before : List Entry) (entry : Entry) (behind more : List Entry) → IsTakenInTurn before entry (behind ++ more) → IsTakenInTurn before entry behind
    fewer before (got The_bus sender serial) behind more h = tt
    fewer before (got Registry The_bus serial) behind more h = tt
    fewer before (got Registry Registry serial) behind more h = h
    fewer before (got Registry (App a) serial) behind more h = h
    fewer before (got Registry (Reader r) serial) behind more h = h
    fewer before (got (App b) The_bus serial) behind more h = tt
    fewer before (got (App b) Registry serial) behind more h = h
    fewer before (got (App b) (App a) serial) behind more h = h
    fewer before (got (App b) (Reader r) serial) behind more h = h
    fewer before (got (Reader b) The_bus serial) behind more h = tt
    fewer before (got (Reader b) Registry serial) behind more h = h
    fewer before (got (Reader b) (App a) serial) behind more h = h
    fewer before (got (Reader b) (Reader r) serial) behind more h = h
    fewer before entry behind more h = tt

pub ends_take_in_turn : (lines : List Line) (trace : List Entry) → CanAllStand lines → Goes (begins lines) trace → Everywhere IsTakenInTurn trace
ends_take_in_turn lines trace a g =
    let k = kept (Shaped (And Beneath_turns Turned)) turns_keep lines trace a g in
    everywhere IsTakenInTurn trace (each_front trace _ [] k.state.1.1.0)
