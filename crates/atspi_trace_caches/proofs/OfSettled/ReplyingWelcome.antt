-- Before an application has its name it is told nothing but that: its Hello is the first message on its up link, and the return of it the first on its down link, as the bus works.
use Rattle.std.proofs.Common.{◌≡◌, ◌⊎◌, inl, inr, ℕ, zero, suc, ◌<◌, ◌^◌, Bool, true, false, List, [], ◌∷◌, ◌++◌, map, Option, None, Some, refl, sym, ap, ◌∙◌, subst, is_some}
use Rattle.std.specs.Prelude.{◌+◌, ◌&&◌, flat_map, if◌then◌else◌}
use Rattle.std.specs.List.{fold}
use Rattle.atspi_types.specs.Data.{text_data}
use Rattle.atspi_base.specs.valid_names.Names.{is_bus_name, is_unique_name}
use Rattle.atspi_message.specs.Envelope.{Envelope}
use Rattle.atspi_names.specs.Owners.{unique_name, after_hello, after_gone}
use Rattle.atspi_names.proofs.UniqueLemmas.{is_bus_name-unique_name}
use Rattle.atspi_protocol.specs.exporting.Exporter.{hello, awaits, Exporter}
use Rattle.atspi_protocol.specs.exporting.Starting.{unique_name_in}
use Rattle.atspi_match.specs.declared.routing.closing.Why.{Why}
use Rattle.atspi_match.specs.routing.BusState.{BusState, unique_of, text_or_empty}
use Rattle.atspi_match.specs.routing.OwnMessages.{return_to, name_acquired, owner_changed, numbered}
use Rattle.atspi_match.specs.routing.Routing.{receivers, expects_reply}
use Rattle.atspi_match.specs.routing.Steps.{Move, says, delivers, handed, greets, bus_leaves}
use Rattle.atspi_match.specs.routing.Queues as queues
use Rattle.atspi_match.specs.routing.Queues.{Waiting, is_due, without_queue}
use Rattle.atspi_trace.specs.World.{here, an_application, Said, Letter, End}
use Rattle.atspi_trace.specs.Ends.{is_here, end_at, with_end, put_down, leaves}
use Rattle.atspi_trace.specs.Carrying.{Carried, Filled, own_letter, grew, moved, left, one_closed, settled}
use Rattle.atspi_trace_laws.proofs.OfOrder.Parties.{same_some, false_true}
use Rattle.atspi_trace_laws.proofs.OfOrder.Frame.{Over, folded_over, stepped_over, with_cases}
use Rattle.atspi_trace_laws.proofs.OfNames.Naming.{hello_here, gone_other}
use Rattle.atspi_trace_laws.proofs.OfMissed.Arriving.{On, rest_due, delivered_now, same_waiting}
use Rattle.atspi_trace_caches.proofs.OfSettled.Replying.{Keeps_links, keeping, put_keeps}
use Rattle.atspi_trace_caches.proofs.OfSettled.ReplyingOwners.{Owned, owners_are}
use Rattle.atspi_trace_caches.proofs.OfSettled.ReplyingBus.{to_owner, fold_due, due_on, plain_own}
use Rattle.atspi_trace_caches.proofs.OfSettled.ReplyingNamed.{HasName, Owns, one_owns}
use Rattle.atspi_trace_caches.proofs.OfSettled.ReplyingRules.{RulesNamed, NamedStep, leaves_step, stepped_same}

-- THE RETURN TO A HELLO, with a name that an application takes for its own
pub record IsWelcome (m : Envelope) : Type 0 where
  pub two : m.kind ≡ 2
  pub reply : m.reply ≡ Some 1
  pub names : is_some (unique_name_in m.body) ≡ true

abbrev pub Starts : List Letter → Type 0
Starts [] = ⊥
Starts (letter ∷ rest) = IsWelcome letter.said.message

abbrev pub Greets : Exporter → List Letter → Type 0
Greets s down = (is_some s.name ≡ true) ⊎ ((s.phase ≡ awaits hello 1) × Starts down)

-- and the call
abbrev pub Fronts : List Said → Type 0
Fronts [] = ⊥
Fronts (said ∷ rest) = (said.message.serial ≡ 1) × (expects_reply said.message ≡ true)

pub record Welcomed (c : Carried) (k : ℕ) (e : End) (s : Exporter) : Type 0 where
  pub before : unique_of c.bus.state.owners k ≡ None → (s.phase ≡ awaits hello 1) × Fronts e.up
  pub behind : HasName c.bus.state.owners k → Greets s e.down ⊎ (is_due k c.bus.waiting.due ≡ true)

pub record Welcoming (c : Carried) : Type 0 where
  pub rules : RulesNamed c.bus.state
  pub silent : (k : ℕ) (e : End) → end_at c.ends k ≡ Some e → e.standing ≡ here → unique_of c.bus.state.owners k ≡ None → e.down ≡ []
  pub apps : (k : ℕ) (e : End) (s : Exporter) → end_at c.ends k ≡ Some e → e.standing ≡ here → e.role ≡ an_application s → Welcomed c k e s

pub starts_more : (xs more : List Letter) → Starts xs → Starts (xs ++ more)
starts_more [] more h = absurd h
starts_more (x ∷ xs) more h = h

pub greets_more : (s : Exporter) (xs more : List Letter) → Greets s xs → Greets s (xs ++ more)
greets_more s xs more (inl h) = inl h
greets_more s xs more (inr h) = inr (h.0, starts_more xs more h.1)

pub greets_still : (s : Exporter) (e d : End) → Keeps_links e d → Greets s e.down → Greets s d.down
greets_still s e d g h = subst (Greets s) (sym g.down.1) (greets_more s e.down g.down.0 h)

pub has_or_none : (o : Option (List ℕ)) → (o ≡ None) ⊎ (is_some o ≡ true)
has_or_none None = inl refl
has_or_none (Some name) = inr refl

pub never_both : (o : Option (List ℕ)) → o ≡ None → is_some o ≡ true → ⊥
never_both o none some = false_true (sym (ap is_some none) ∙ some)

-- ONE LEAVES
pub left_welcoming : (c : Carried) (conn : ℕ) → Owns c → Welcoming c → Welcoming (left c conn)
left_welcoming c conn o w = record {
  rules = step.rules;
  silent = λ k z there on none. by_silent k z there on none (was k z there on);
  apps = λ k z s there on role. by_app k z s role (was k z there on);
}
  where
    step : NamedStep (bus_leaves c.bus.state conn)
    step = leaves_step c.bus.state conn (record { lists = o.lists; rules = w.rules })

    Was : ℕ → End → Type 0
    Was k z = (e : End) × (end_at c.ends k ≡ Some e) × (k ≡ conn → ⊥) × Keeps_links e z × (end_at (with_end conn leaves c.ends) k ≡ Some e) × (e.standing ≡ here)

    was : (k : ℕ) (z : End) → end_at (left c conn).ends k ≡ Some z → z.standing ≡ here → Was k z
    was k z there on = at y.2
      where
        x : (e : End) × (end_at (with_end conn leaves c.ends) k ≡ Some e) × Keeps_links e z
        x = (stepped_over Keeps_links keeping own_letter (λ m e. put_keeps (own_letter m) e) (record { bus = record c.bus { waiting = without_queue c.bus.waiting conn }; ends = with_end conn leaves c.ends }) (bus_leaves c.bus.state conn)).back k z there

        y : (e : End) × (end_at c.ends k ≡ Some e) × (((k ≡ conn) × (x.0 ≡ leaves e)) ⊎ ((k ≡ conn → ⊥) × (x.0 ≡ e)))
        y = with_cases leaves c.ends conn k x.0 x.1

        at : (((k ≡ conn) × (x.0 ≡ leaves y.0)) ⊎ ((k ≡ conn → ⊥) × (x.0 ≡ y.0))) → Was k z
        at (inl h) = absurd (false_true (ap (λ (e : End). is_here e.standing) (sym h.1) ∙ ap is_here (sym x.2.standing ∙ on)))
        at (inr h) = (y.0, y.1, h.0, subst (λ e. Keeps_links e z) h.1 x.2, x.1 ∙ ap Some h.1, ap (λ (e : End). e.standing) (sym h.1) ∙ sym x.2.standing ∙ on)

    by_silent : (k : ℕ) (z : End) → end_at (left c conn).ends k ≡ Some z → z.standing ≡ here → unique_of (after_gone c.bus.state.owners conn) k ≡ None → Was k z → z.down ≡ []
    by_silent k z there on none x =
        let old : unique_of c.bus.state.owners k ≡ None = sym (gone_other c.bus.state.owners conn k (λ same. x.2 (sym same))) ∙ none in
        let same : x.0 ≡ z =
        same_some x.0 z
        (sym x.4
        ∙ sym (stepped_same own_letter k (record { bus = record c.bus { waiting = without_queue c.bus.waiting conn }; ends = with_end conn leaves c.ends }) (bus_leaves c.bus.state conn) step none)
        ∙ there) in
        ap (λ (e : End). e.down) (sym same) ∙ w.silent k x.0 x.1 x.5 old

    by_app : (k : ℕ) (z : End) (s : Exporter) → z.role ≡ an_application s → Was k z → Welcomed (left c conn) k z s
    by_app k z s role x = record {
      before = λ none. let b = old.before (sym same_name ∙ none) in (b.0, subst Fronts (sym x.3.up) b.1);
      behind = λ has. by (old.behind (ap is_some (sym same_name) ∙ has));
    }
      where
        same_name : unique_of (after_gone c.bus.state.owners conn) k ≡ unique_of c.bus.state.owners k
        same_name = gone_other c.bus.state.owners conn k (λ same. x.2 (sym same))

        old : Welcomed c k x.0 s
        old = w.apps k x.0 s x.1 x.5 (sym x.3.role ∙ role)

        by : Greets s x.0.down ⊎ (is_due k c.bus.waiting.due ≡ true) → Greets s z.down ⊎ (is_due k (left c conn).bus.waiting.due ≡ true)
        by (inl g) = inl (greets_still s x.0 z x.3 g)
        by (inr d) =
            inr (due_on own_letter plain_own (record { bus = record c.bus { waiting = without_queue c.bus.waiting conn }; ends = with_end conn leaves c.ends }) (bus_leaves c.bus.state conn) k (rest_due k conn c.bus.waiting.due x.2 d))

-- the same bus, which told something else
pub same_welcoming : (c v : Carried) → v.ends ≡ c.ends → v.bus.state ≡ c.bus.state → v.bus.waiting ≡ c.bus.waiting → Welcoming c → Welcoming v
same_welcoming c v ends state waiting w = record {
  rules = subst RulesNamed (sym state) w.rules;
  silent = λ k e there on none. w.silent k e (ap (λ l. end_at l k) (sym ends) ∙ there) on (ap (λ (s : BusState). unique_of s.owners k) (sym state) ∙ none);
  apps = λ k e s there on role.
      let x = w.apps k e s (ap (λ l. end_at l k) (sym ends) ∙ there) on role in
      record {
        before = λ none. x.before (ap (λ (t : BusState). unique_of t.owners k) (sym state) ∙ none);
        behind = λ has. subst (λ (q : Waiting). Greets s e.down ⊎ (is_due k q.due ≡ true)) (sym waiting) (x.behind (ap (λ (t : BusState). is_some (unique_of t.owners k)) (sym state) ∙ has));
      };
}

one_welcoming : (c : Carried) (due : List (ℕ × Why)) → Owns c → Welcoming c → Welcoming (one_closed c due)
one_welcoming c [] o w = w
one_welcoming c (first ∷ rest) o w = same_welcoming (left c first.0) (one_closed c (first ∷ rest)) refl refl refl (left_welcoming c first.0 o w)

pub settled_welcoming : (rounds : ℕ) (c : Carried) → Owns c → Welcoming c → Welcoming (settled rounds c)
settled_welcoming zero c o w = w
settled_welcoming (suc rounds) c o w = settled_welcoming rounds (one_closed c c.bus.waiting.due) (one_owns c c.bus.waiting.due o) (one_welcoming c c.bus.waiting.due o w)

-- A HELLO: the return is the first thing that the connection gets
abbrev pub greeting_state : BusState → ℕ → BusState
greeting_state s j = record s { owners = after_hello s.owners j }

abbrev pub greeting_name : BusState → ℕ → List ℕ
greeting_name s j = text_or_empty (unique_of (greeting_state s j).owners j)

abbrev returned_name : BusState → ℕ → Envelope → Envelope
returned_name s j e = return_to (unique_of (greeting_state s j).owners j) e.serial (text_data (greeting_name s j) ∷ [])

abbrev pub welcome : BusState → ℕ → Envelope → Envelope
welcome s j e = record (returned_name s j e) { serial = s.next }

-- what is told behind it
abbrev name_news : BusState → ℕ → List Envelope
name_news s j = name_acquired (greeting_state s j).owners (greeting_name s j) (Some j) ++ owner_changed (greeting_name s j) [] (greeting_name s j) ∷ []

abbrev news_moves : BusState → ℕ → List Move
news_moves s j = flat_map (λ x. says x ∷ handed (greeting_state s j) x) (numbered (s.next + 1) (name_news s j))

abbrev replied_moves : BusState → ℕ → Envelope → Bool → List Move
replied_moves s j e b = flat_map (λ x. says x ∷ handed (greeting_state s j) x) (numbered s.next ((if b then returned_name s j e ∷ [] else []) ++ name_news s j))

abbrev handed_moves : BusState → ℕ → Envelope → List ℕ → List Move
handed_moves s j e conns = says (welcome s j e) ∷ (map (λ c. delivers c (welcome s j e)) conns ++ news_moves s j)

pub record FirstMoves (s : BusState) (j : ℕ) (e : Envelope) : Type 0 where
  pub rest : List Move
  pub are : (greets s j e).moves ≡ says (welcome s j e) ∷ (delivers j (welcome s j e) ∷ rest)

pub first_moves : (s : BusState) (j : ℕ) (e : Envelope) → expects_reply e ≡ true → Owned (greeting_state s j).owners → FirstMoves s j e
first_moves s j e expects owned = record { rest = news_moves s j; are = ap (replied_moves s j e) expects ∙ ap (handed_moves s j e) them }
  where
    them : receivers (greeting_state s j) (welcome s j e) ≡ j ∷ []
    them =
        to_owner (greeting_state s j) (welcome s j e) (unique_name s.owners.given) (hello_here s j e)
        ∙ owners_are (greeting_state s j) j (unique_name s.owners.given) owned (hello_here s j e)

pub welcome_is : (s : BusState) (j : ℕ) (e : Envelope) → s.owners.given < 2 ^ 32 → e.serial ≡ 1 → IsWelcome (welcome s j e)
welcome_is s j e small one = record { two = refl; reply = ap Some one; names = ap (λ n. is_some (unique_name_in (text_data n ∷ []))) (ap text_or_empty (hello_here s j e)) ∙ named_ (is_unique_name (unique_name s.owners.given)) refl (is_bus_name (unique_name s.owners.given)) (is_bus_name-unique_name s.owners.given small) }
  where
    named_ : (a : Bool) → a ≡ true → (b : Bool) → b ≡ true → is_some (if a && b then Some (unique_name s.owners.given) else None) ≡ true
    named_ true h true g = refl
    named_ true h false g = absurd (false_true g)
    named_ false h b g = absurd (false_true h)

-- the first of a list of moves is delivered first
module _ (letter : Envelope → Letter) (plainly : (m : Envelope) → (letter m).said.message ≡ m) where
  pub delivered_first : (quota j : ℕ) (m : Envelope) (rest : List Move) (f : Filled) (x z : End) → end_at f.ends j ≡ Some x → x.down ≡ [] → IsWelcome m
      → end_at (fold (moved letter quota) f (says m ∷ (delivers j m ∷ rest))).ends j ≡ Some z → z.standing ≡ here
      → Starts z.down ⊎ (is_due j (fold (moved letter quota) f (says m ∷ (delivers j m ∷ rest))).waiting.due ≡ true)
  delivered_first quota j m rest f x z there none welcome_ at on = by (grew j f.waiting (queues.moved quota f.waiting (delivers j m))) refl (second.back j z at)
    where
      second : Over Keeps_links (moved letter quota f (delivers j m)).ends (fold (moved letter quota) (moved letter quota f (delivers j m)) rest).ends
      second = folded_over Keeps_links keeping letter (λ n e. put_keeps (letter n) e) quota (moved letter quota f (delivers j m)) rest

      due_stays : is_due j (moved letter quota f (delivers j m)).waiting.due ≡ true → is_due j (fold (moved letter quota) f (says m ∷ (delivers j m ∷ rest))).waiting.due ≡ true
      due_stays d =
          ap (λ (w : Waiting). is_due j w.due) (same_waiting letter quota (moved letter quota f (delivers j m)) rest) ∙ fold_due letter plainly quota (moved letter quota f (delivers j m)).waiting j rest d

      put : (y : End) → end_at (with_end j (put_down (letter m)) f.ends) j ≡ Some y → Starts y.down
      put y h = at_y (with_cases (put_down (letter m)) f.ends j j y h)
        where
          at_y : ((e : End) × (end_at f.ends j ≡ Some e) × (((j ≡ j) × (y ≡ put_down (letter m) e)) ⊎ ((j ≡ j → ⊥) × (y ≡ e)))) → Starts y.down
          at_y q = one q.2
            where
              one : (((j ≡ j) × (y ≡ put_down (letter m) q.0)) ⊎ ((j ≡ j → ⊥) × (y ≡ q.0))) → Starts y.down
              one (inl p) =
                  let same : q.0 ≡ x = same_some q.0 x (sym q.1 ∙ there) in
                  let down : y.down ≡ letter m ∷ [] = ap (λ (e : End). e.down) p.1 ∙ ap (λ l. l ++ letter m ∷ []) (ap (λ (e : End). e.down) same ∙ none) in
                  subst Starts (sym down) (subst IsWelcome (sym (plainly m)) welcome_)
              one (inr p) = absurd (p.0 refl)

      by : (b : Bool) → grew j f.waiting (queues.moved quota f.waiting (delivers j m)) ≡ b → ((y : End) × (end_at (moved letter quota f (delivers j m)).ends j ≡ Some y) × Keeps_links y z)
          → Starts z.down ⊎ (is_due j (fold (moved letter quota) f (says m ∷ (delivers j m ∷ rest))).waiting.due ≡ true)
      by true h q = inl (subst Starts (sym q.2.down.1) (starts_more q.0.down q.2.down.0 (put q.0 (ap (λ b. end_at (if b then with_end j (put_down (letter m)) f.ends else f.ends) j) (sym h) ∙ q.1))))
      by false h q = came (delivered_now letter quota j m f q.0 q.1 (sym q.2.standing ∙ on))
        where
          same : q.0 ≡ x
          same = same_some q.0 x (sym q.1 ∙ ap (λ b. end_at (if b then with_end j (put_down (letter m)) f.ends else f.ends) j) h ∙ there)

          came : On (letter m) q.0.down ⊎ (is_due j (moved letter quota f (delivers j m)).waiting.due ≡ true) → Starts z.down ⊎ (is_due j (fold (moved letter quota) f (says m ∷ (delivers j m ∷ rest))).waiting.due ≡ true)
          came (inl o) = absurd (subst (On (letter m)) (ap (λ (e : End). e.down) same ∙ none) o)
          came (inr d) = inr (due_stays d)
