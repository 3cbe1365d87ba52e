-- Letters of each sender stand on a down link in the order of their serials, behind all that was taken of it.
use Rattle.std.proofs.Common.{◌≡◌, ◌⊎◌, inl, inr, ℕ, suc, ◌+◌, ◌<◌, ◌≤◌, Bool, true, false, List, [], ◌∷◌, ◌++◌, map, Some, refl, sym, ap, ◌∙◌, subst, arith}
use Rattle.std.specs.Prelude.{if◌then◌else◌}
use Rattle.std.specs.List.{AllByRecursion, fold}
use Rattle.atspi_script_lines.specs.declared.line.Party.{Party}
use Rattle.atspi_script_lines.specs.declared.line.Party.TheVariants.{Bus as The_bus}
use Rattle.atspi_message.specs.Envelope.{Envelope}
use Rattle.atspi_match.specs.routing.Steps.{delivers}
use Rattle.atspi_match.specs.routing.Queues as queues
use Rattle.atspi_trace.specs.Entry.{Entry, got}
use Rattle.atspi_trace.specs.World.{Letter, End}
use Rattle.atspi_trace.specs.Ends.{end_at, with_end, put_down, rest_of}
use Rattle.atspi_trace.specs.Carrying.{Filled, grew, moved}
use Rattle.atspi_trace_laws.specs.laws.NineLaws.{is_got_by_bus, count_got_by_bus}
use Rattle.atspi_trace_laws.proofs.OfOrder.Parties.{all_append}
use Rattle.atspi_trace_laws.proofs.OfOrder.Frame.{with_cases}
use Rattle.atspi_trace_laws.proofs.OfOrder.Each.{all_map}
use Rattle.atspi_trace_laws.proofs.OfLinks.LawLinks.{first_unread}
use Rattle.atspi_trace_laws.proofs.OfTaken.LawTaken.{NotGot}
use Rattle.atspi_trace_laws.specs.turns.Laws.{IsEarlier}
use Rattle.atspi_trace_laws.proofs.OfTurns.Rising.{Rises}

-- a message that comes behind all that was taken of its sender, and that the bus took
pub record IsInTurn (es : List Entry) (who from : Party) (serial : ℕ) : Type 0 where
  pub earlier : AllByRecursion (IsEarlier who from serial) es
  pub below : serial < first_unread es from

abbrev pub InTurn : List Entry → Party → Letter → Type 0
InTurn es who l = (l.from ≡ The_bus → ⊥) → IsInTurn es who l.from l.said.message.serial

abbrev pub IsBehind : Letter → Letter → Type 0
IsBehind l k = (k.from ≡ The_bus → ⊥) → l.from ≡ k.from → l.said.message.serial < k.said.message.serial

abbrev pub Turns : List Entry → Party → List Letter → Type 0
Turns es who [] = Unit {0}
Turns es who (l ∷ ls) = InTurn es who l × AllByRecursion (IsBehind l) ls × Turns es who ls

pub put_turns : (es : List Entry) (who : Party) (ls : List Letter) (k : Letter) → Turns es who ls → InTurn es who k → AllByRecursion (λ l. IsBehind l k) ls → Turns es who (ls ++ k ∷ [])
put_turns es who [] k t i b = (i, tt, tt)
put_turns es who (l ∷ ls) k t i b = (t.0, all_append (IsBehind l) ls (k ∷ []) t.1 (b.0, tt), put_turns es who ls k t.2 i b.1)

pub rest_turns : (es : List Entry) (who : Party) (ls : List Letter) → Turns es who ls → Turns es who (rest_of ls)
rest_turns es who [] t = tt
rest_turns es who (l ∷ ls) t = t.2

-- more entries
abbrev pub add : Bool → ℕ → ℕ
add true n = suc n
add false n = n

pub count_more : (es ys : List Entry) (who : Party) → count_got_by_bus (es ++ ys) who ≡ count_got_by_bus es who + count_got_by_bus ys who
count_more [] ys who = omega arith
count_more (x ∷ es) ys who = by (is_got_by_bus who x) (count_more es ys who)
  where
    by : (b : Bool) → count_got_by_bus (es ++ ys) who ≡ count_got_by_bus es who + count_got_by_bus ys who → add b (count_got_by_bus (es ++ ys) who) ≡ add b (count_got_by_bus es who) + count_got_by_bus ys who
    by true h = omega (arith, h)
    by false h = h

none_here : (who : Party) (entry : Entry) → NotGot entry → is_got_by_bus who entry ≡ false
none_here who (got taker sender s) n = absurd n
none_here who entry n = refl

pub none_counted : (who : Party) (ys : List Entry) → AllByRecursion NotGot ys → count_got_by_bus ys who ≡ 0
none_counted who [] n = refl
none_counted who (y ∷ ys) n = ap (λ b. add b (count_got_by_bus ys who)) (none_here who y n.0) ∙ none_counted who ys n.1

pub unread_more : (es ys : List Entry) (who : Party) → first_unread es who ≤ first_unread (es ++ ys) who
unread_more es ys who = let sum = count_more es ys who in omega (arith, sum)

-- entries in which this end takes nothing
abbrev pub NotBy : Party → Entry → Type 0
NotBy who (got other from s) = other ≡ who → ⊥
NotBy who entry = Unit {0}

pub not_got_by : (who : Party) (entry : Entry) → NotGot entry → NotBy who entry
not_got_by who (got other from s) n = absurd n
not_got_by who entry n = tt

pub not_by_earlier : (who from : Party) (serial : ℕ) (entry : Entry) → NotBy who entry → IsEarlier who from serial entry
not_by_earlier who from serial (got other sender s) n = λ same. absurd (n same)
not_by_earlier who from serial entry n = tt

pub in_turn_more : (es ys : List Entry) (who from : Party) (serial : ℕ) → AllByRecursion (NotBy who) ys → IsInTurn es who from serial → IsInTurn (es ++ ys) who from serial
in_turn_more es ys who from serial n i =
    let more = unread_more es ys from in
    let below : serial < first_unread es from = i.below in
    record {
      earlier = all_append (IsEarlier who from serial) es ys i.earlier (all_map (NotBy who) (IsEarlier who from serial) ys (not_by_earlier who from serial) n);
      below = omega (arith, more, below);
    }

pub turns_more : (es ys : List Entry) (who : Party) (ls : List Letter) → AllByRecursion (NotBy who) ys → Turns es who ls → Turns (es ++ ys) who ls
turns_more es ys who [] n t = tt
turns_more es ys who (l ∷ ls) n t = ((λ differ. in_turn_more es ys who l.from l.said.message.serial n (t.0 differ)), t.1, turns_more es ys who ls n t.2)

-- where it takes the first of them
pub turns_taken : (es zs : List Entry) (who : Party) (l : Letter) (ls : List Letter) → AllByRecursion (NotBy who) zs → Turns es who (l ∷ ls)
    → Turns (es ++ got who l.from l.said.message.serial ∷ zs) who ls
turns_taken es zs who l ls n t = all_behind ls t.1 t.2
  where
    first : Entry
    first = got who l.from l.said.message.serial

    one : (k : Letter) → IsBehind l k → InTurn es who k → InTurn (es ++ first ∷ zs) who k
    one k b i differ =
        let old : IsInTurn es who k.from k.said.message.serial = i differ in
        let more = unread_more es (first ∷ zs) k.from in
        let below : k.said.message.serial < first_unread es k.from = old.below in
        record {
          earlier = all_append (IsEarlier who k.from k.said.message.serial) es (first ∷ zs) old.earlier
              ((λ o f. b differ f), all_map (NotBy who) (IsEarlier who k.from k.said.message.serial) zs (not_by_earlier who k.from k.said.message.serial) n);
          below = omega (arith, more, below);
        }

    all_behind : (ks : List Letter) → AllByRecursion (IsBehind l) ks → Turns es who ks → Turns (es ++ first ∷ zs) who ks
    all_behind [] b u = tt
    all_behind (k ∷ ks) b u = (one k b.0 u.0, u.1, all_behind ks b.1 u.2)

-- what was taken of an end was taken of it by the bus before
abbrev pub IsBelow : List Entry → Entry → Type 0
IsBelow es (got taker sender s) = (taker ≡ The_bus → ⊥) → (sender ≡ The_bus → ⊥) → s < first_unread es sender
IsBelow es entry = Unit {0}

pub below_more : (es ys : List Entry) (entry : Entry) → IsBelow es entry → IsBelow (es ++ ys) entry
below_more es ys (got taker sender s) b = λ t f. let more = unread_more es ys sender in let below : s < first_unread es sender = b t f in omega (arith, more, below)
below_more es ys entry b = tt

pub not_got_below : (es : List Entry) (entry : Entry) → NotGot entry → IsBelow es entry
not_got_below es (got taker sender s) n = absurd n
not_got_below es entry n = tt

-- so the next that the bus takes of it comes behind them
pub next_earlier : (es xs : List Entry) (who from : Party) → (who ≡ The_bus → ⊥) → (from ≡ The_bus → ⊥) → AllByRecursion (IsBelow es) xs → AllByRecursion (IsEarlier who from (first_unread es from)) xs
next_earlier es xs who from t f b = all_map (IsBelow es) (IsEarlier who from (first_unread es from)) xs one b
  where
    one : (entry : Entry) → IsBelow es entry → IsEarlier who from (first_unread es from) entry
    one (got taker sender s) h = λ same_taker same_sender.
        subst (λ p. s < first_unread es p) same_sender (h (λ bus. t (sym same_taker ∙ bus)) (λ bus. f (sym same_sender ∙ bus)))
    one entry h = tt

pub next_behind : (es : List Entry) (who : Party) (ls : List Letter) (k : Letter) → k.said.message.serial ≡ first_unread es k.from → Turns es who ls → AllByRecursion (λ l. IsBehind l k) ls
next_behind es who [] k is t = tt
next_behind es who (l ∷ ls) k is t = (
  (λ differ same.
      let below : l.said.message.serial < first_unread es l.from = (t.0 (λ bus. differ (sym same ∙ bus))).below in
      let at : first_unread es l.from ≡ first_unread es k.from = ap (first_unread es) same in
      omega (arith, below, at, is)),
  next_behind es who ls k is t.2,
)

-- ONE MESSAGE TO CONNECTIONS WHOSE NUMBERS RISE
-- the ends from this number on have not got it
abbrev pub Before : List Entry → Letter → ℕ → List End → Type 0
Before es l low ends = (k : ℕ) (e : End) → end_at ends k ≡ Some e → Turns es e.who e.down × (low ≤ k → AllByRecursion (λ x. IsBehind x l) e.down) × InTurn es e.who l

module _ (es : List Entry) (l : Letter) (letter : Envelope → Letter) (m : Envelope) (is : letter m ≡ l) (quota : ℕ) where
  one_delivered : (low c : ℕ) (ends : List End) → low ≤ c → Before es l low ends → Before es l (suc c) (with_end c (put_down l) ends)
  one_delivered low c ends first b k x h = by (with_cases (put_down l) ends c k x h)
    where
      by : ((e : End) × (end_at ends k ≡ Some e) × (((k ≡ c) × (x ≡ put_down l e)) ⊎ ((k ≡ c → ⊥) × (x ≡ e)))) → Turns es x.who x.down × (suc c ≤ k → AllByRecursion (λ y. IsBehind y l) x.down) × InTurn es x.who l
      by g = at g.2
        where
          old : Turns es g.0.who g.0.down × (low ≤ k → AllByRecursion (λ y. IsBehind y l) g.0.down) × InTurn es g.0.who l
          old = b k g.0 g.1

          at : (((k ≡ c) × (x ≡ put_down l g.0)) ⊎ ((k ≡ c → ⊥) × (x ≡ g.0))) → Turns es x.who x.down × (suc c ≤ k → AllByRecursion (λ y. IsBehind y l) x.down) × InTurn es x.who l
          at (inl d) =
              let here : k ≡ c = d.0 in
              subst (λ (z : End). Turns es z.who z.down × (suc c ≤ k → AllByRecursion (λ y. IsBehind y l) z.down) × InTurn es z.who l) (sym d.1)
              (put_turns es g.0.who g.0.down l old.0 old.2 (old.1 (omega (arith, first, here))), (λ more. absurd (omega (arith, more, here))), old.2)
          at (inr d) =
              subst (λ (z : End). Turns es z.who z.down × (suc c ≤ k → AllByRecursion (λ y. IsBehind y l) z.down) × InTurn es z.who l) (sym d.1)
              (old.0, (λ more. old.1 (omega (arith, first, more))), old.2)

  not_delivered : (low c : ℕ) (ends : List End) → low ≤ c → Before es l low ends → Before es l (suc c) ends
  not_delivered low c ends first b k x h = let old = b k x h in (old.0, (λ more. old.1 (omega (arith, first, more))), old.2)

  pub handed_turns : (conns : List ℕ) (low high : ℕ) (f : Filled) → Rises low high conns → Before es l low f.ends
      → (k : ℕ) (e : End) → end_at (fold (moved letter quota) f (map (λ c. delivers c m) conns)).ends k ≡ Some e → Turns es e.who e.down
  handed_turns [] low high f r b k e h = (b k e h).0
  handed_turns (c ∷ cs) low high f r b k e h =
      handed_turns cs (suc c) high (moved letter quota f (delivers c m)) r.2 (by (grew c f.waiting (queues.moved quota f.waiting (delivers c m)))) k e h
    where
      by : (t : Bool) → Before es l (suc c) (if t then with_end c (put_down (letter m)) f.ends else f.ends)
      by true = subst (λ x. Before es l (suc c) (with_end c (put_down x) f.ends)) (sym is) (one_delivered low c f.ends r.0 b)
      by false = not_delivered low c f.ends r.0 b
