-- An end that the bus has not named yet has its Hello in front: so none is closed for want of it, and whoever is closed is told.
use Rattle.std.proofs.Common.{◌≡◌, ◌⊎◌, inl, inr, ℕ, zero, suc, ◌+◌, Bool, true, false, List, [], ◌∷◌, ◌++◌, map, Option, None, Some, refl, sym, ap, ◌∙◌, subst, cond, is_some}
use Rattle.std.specs.Prelude.{◌==◌, ◌||◌, ◌-◌, nat_lt, not, filter, flat_map, length, if◌then◌else◌}
use Rattle.std.specs.List.{AllByRecursion, fold, list_any}
use Rattle.std.specs.FinMap as finmap
use Rattle.std.specs.FinMap.{get-remove, get-insert, nat_cmp-IsAntisymmetric}
use Rattle.std.specs.Ordering.{is_eq, nat_cmp, eq_by_cmp}
use Rattle.std.specs.declared.cmp.Ordering.{Ordering}
use Rattle.std.specs.declared.cmp.Ordering.TheVariants.{Less, Equal, Greater}
use Rattle.std.proofs.lemmas.Bool.{eq-eqb}
use Rattle.std.specs.Cmp.{nat_cmp_total, eq_by_cmp_equiv}
use Rattle.atspi_types.specs.Data.{text_data}
use Rattle.atspi_script_lines.specs.declared.line.Party.{Party}
use Rattle.atspi_message.specs.Envelope.{Envelope}
use Rattle.atspi_message.specs.Bytes.{written}
use Rattle.atspi_match.specs.RuleIndex.{without_rules}
use Rattle.atspi_names.specs.Owners.{Owners, unique_name, after_hello, after_gone}
use Rattle.atspi_match.specs.declared.routing.closing.Why.{Why}
use Rattle.atspi_match.specs.declared.routing.closing.Why.TheVariants.{Quota}
use Rattle.atspi_match.specs.declared.routing.closing.Closing.{Closing}
use Rattle.atspi_match.specs.routing.BusState.{BusState, unique_of, text_or_empty, calls_without}
use Rattle.atspi_match.specs.routing.OwnMessages.{name_acquired, owner_changed, numbered}
use Rattle.atspi_match.specs.routing.Answers.{returns}
use Rattle.atspi_match.specs.routing.Routing.{receivers}
use Rattle.atspi_match.specs.routing.Steps.{Move, says, delivers, closes, BusStep, handed, replies, is_hello, greets, farewell, bus_takes, bus_leaves}
use Rattle.atspi_match.specs.routing.Queues as queues
use Rattle.atspi_match.specs.routing.Queues.{Waiting, Bus, is_due, doomed, queue_of, without_queue, told_length}
use Rattle.atspi_trace.specs.Rules.{rule_in}
use Rattle.atspi_trace.specs.World.{Said, Letter, End}
use Rattle.atspi_trace.specs.Ends.{end_at, with_end, put_down, taken_up, leaves}
use Rattle.atspi_trace.specs.Carrying.{Carried, own_letter, letter_of, stepped, left, one_closed, settled, named, with_name, takes, takes_end}
use Rattle.atspi_trace_laws.proofs.OfOrder.Parties.{false_true, all_append}
use Rattle.atspi_trace_laws.proofs.OfOrder.Frame.{Over, IsOrder, over_both, over_with, stepped_over, with_cases}
use Rattle.atspi_trace_laws.proofs.OfOwn.Doing.{Doing, says_, hands_, closes_, doing_of}
use Rattle.atspi_trace_laws.proofs.OfOwn.Counting.{is_quota}

-- FOR WANT OF ROOM ALONE
abbrev pub ForRoom : ℕ × Why → Type 0
ForRoom d = is_quota d.1 ≡ true

abbrev pub ToldForRoom : Closing → Type 0
ToldForRoom c = is_quota c.why ≡ true

doomed_room : (w : Waiting) (conn : ℕ) (why : Why) → is_quota why ≡ true → AllByRecursion ForRoom w.due → AllByRecursion ForRoom (doomed w conn why).due
doomed_room w conn why f a = by (is_due conn w.due)
  where
    by : (b : Bool) → AllByRecursion ForRoom (if b then w else record w { due = w.due ++ (conn, why) ∷ [] }).due
    by true = a
    by false = all_append ForRoom w.due ((conn, why) ∷ []) a (f, tt)

queued_room : (quota : ℕ) (w : Waiting) (conn : ℕ) (bytes : List ℕ) → AllByRecursion ForRoom w.due → AllByRecursion ForRoom (queues.queued quota w conn bytes).due
queued_room quota w conn bytes a = by (is_due conn w.due) (nat_lt quota (length (queue_of w.queues conn) + length bytes))
  where
    by : (b c : Bool) → AllByRecursion ForRoom (if b then w else if c then doomed w conn (Quota (length (queue_of w.queues conn)) (told_length bytes)) else record w { queues = finmap.insert w.queues conn (queue_of w.queues conn ++ bytes) }).due
    by true c = a
    by false true = doomed_room w conn (Quota (length (queue_of w.queues conn)) (told_length bytes)) refl a
    by false false = a

abbrev NoClose : Move → Type 0
NoClose (closes conn) = ⊥
NoClose move = Unit {0}

moved_room : (quota : ℕ) (w : Waiting) (move : Move) → NoClose move → AllByRecursion ForRoom w.due → AllByRecursion ForRoom (queues.moved quota w move).due
moved_room quota w (says e) f a = a
moved_room quota w (delivers conn e) f a = queued_room quota w conn (written e) a
moved_room quota w (closes conn) f a = absurd f

all_moved_room : (quota : ℕ) (w : Waiting) (moves : List Move) → AllByRecursion NoClose moves → AllByRecursion ForRoom w.due → AllByRecursion ForRoom (fold (queues.moved quota) w moves).due
all_moved_room quota w [] f a = a
all_moved_room quota w (move ∷ moves) f a = all_moved_room quota (queues.moved quota w move) moves f.1 (moved_room quota w move f.0 a)

handed_open : (e : Envelope) (conns : List ℕ) → AllByRecursion NoClose (map (λ c. delivers c e) conns)
handed_open e [] = tt
handed_open e (c ∷ cs) = (tt, handed_open e cs)

said_open : (s : BusState) (es : List Envelope) → AllByRecursion NoClose (flat_map (λ e. says e ∷ handed s e) es)
said_open s [] = tt
said_open s (e ∷ es) = (tt, all_append NoClose (handed s e) (flat_map (λ m. says m ∷ handed s m) es) (handed_open e (receivers s e)) (said_open s es))

-- WHO HAS ITS NAME, OR SAYS HELLO
abbrev pub Greets : BusState → ℕ → Envelope → Type 0
Greets s conn e = (is_some (unique_of s.owners conn) ≡ true) ⊎ (is_hello e ≡ true)

pub takes_hello : (s : BusState) (conn : ℕ) (e : Envelope) → unique_of s.owners conn ≡ None → is_hello e ≡ true → bus_takes s conn e (rule_in e) ≡ greets s conn e
takes_hello s conn e none hello = rw none (ap (λ b. if b then greets s conn e else record { state = s; moves = closes conn ∷ [] }) hello)

greets_open : (s : BusState) (conn : ℕ) (e : Envelope) → AllByRecursion NoClose (greets s conn e).moves
greets_open s conn e =
    let after : BusState = record s { owners = after_hello s.owners conn } in
    let name : List ℕ = text_or_empty (unique_of after.owners conn) in
    said_open after (numbered after.next (replies after conn e (returns (text_data name ∷ [])) ++ (name_acquired after.owners name (Some conn) ++ owner_changed name [] name ∷ [])))

greets_named : (s : BusState) (conn : ℕ) (e : Envelope) → is_some (unique_of (greets s conn e).state.owners conn) ≡ true
greets_named s conn e =
    ap is_some (get-insert nat_cmp_total s.owners.unique conn (unique_name s.owners.given) conn)
    ∙ ap (λ b. is_some (cond b (Some (unique_name s.owners.given)) (finmap.get s.owners.unique conn))) ((eq_by_cmp_equiv nat_cmp_total).refl conn)

-- so the bus closes nobody for want of it, and names whoever it took a message of
pub record Fair (s : BusState) (conn : ℕ) (step : BusStep) : Type 0 where
  pub unclosed : AllByRecursion NoClose step.moves
  pub stays : (k : ℕ) → is_some (unique_of s.owners k) ≡ true → is_some (unique_of step.state.owners k) ≡ true
  pub taker : is_some (unique_of step.state.owners conn) ≡ true

named_fair : (s : BusState) (conn : ℕ) (step : BusStep) → is_some (unique_of s.owners conn) ≡ true → Doing s conn step → Fair s conn step
named_fair s conn step n (says_ t es next stay new is) =
    subst (Fair s conn) (sym is) (record { unclosed = said_open t (numbered t.next es); stays = λ k h. stay k h; taker = stay conn n })
named_fair s conn step n (hands_ calls m sender is) = subst (Fair s conn) (sym is) (record { unclosed = handed_open m (receivers s m); stays = λ k h. h; taker = n })
named_fair s conn step n (closes_ none is) = absurd (false_true (ap is_some (sym none) ∙ n))

stay_of : (s : BusState) (conn : ℕ) (step : BusStep) → Doing s conn step → (k : ℕ) → is_some (unique_of s.owners k) ≡ true → is_some (unique_of step.state.owners k) ≡ true
stay_of s conn step (says_ t es next stay new is) k n = subst (λ (x : BusStep). is_some (unique_of x.state.owners k) ≡ true) (sym is) (stay k n)
stay_of s conn step (hands_ calls m sender is) k n = subst (λ (x : BusStep). is_some (unique_of x.state.owners k) ≡ true) (sym is) n
stay_of s conn step (closes_ none is) k n = subst (λ (x : BusStep). is_some (unique_of x.state.owners k) ≡ true) (sym is) n

takes_fair : (s : BusState) (conn : ℕ) (e : Envelope) → Greets s conn e → Fair s conn (bus_takes s conn e (rule_in e))
takes_fair s conn e (inl n) = named_fair s conn (bus_takes s conn e (rule_in e)) n (doing_of s conn e (rule_in e))
takes_fair s conn e (inr hello) = by (unique_of s.owners conn) refl
  where
    d : Doing s conn (bus_takes s conn e (rule_in e))
    d = doing_of s conn e (rule_in e)

    by : (o : Option (List ℕ)) → unique_of s.owners conn ≡ o → Fair s conn (bus_takes s conn e (rule_in e))
    by None none = record {
      unclosed = subst (λ (x : BusStep). AllByRecursion NoClose x.moves) (sym (takes_hello s conn e none hello)) (greets_open s conn e);
      stays = stay_of s conn (bus_takes s conn e (rule_in e)) d;
      taker = subst (λ (x : BusStep). is_some (unique_of x.state.owners conn) ≡ true) (sym (takes_hello s conn e none hello)) (greets_named s conn e);
    }
    by (Some name) some = named_fair s conn (bus_takes s conn e (rule_in e)) (ap is_some some) d

-- WHO LEAVES
pub equal_of_tie : (r : Ordering) → is_eq r ≡ true → r ≡ Equal
equal_of_tie Less e = absurd (false_true e)
equal_of_tie Equal e = refl
equal_of_tie Greater e = absurd (false_true e)

gone_named : (owners : Owners) (conn k : ℕ) → (conn ≡ k → ⊥) → is_some (unique_of owners k) ≡ true → is_some (unique_of (after_gone owners conn) k) ≡ true
gone_named owners conn k differ n = ap is_some (get-remove nat_cmp_total owners.unique conn k) ∙ by (eq_by_cmp nat_cmp k conn) refl
  where
    by : (b : Bool) → eq_by_cmp nat_cmp k conn ≡ b → is_some (cond b None (finmap.get owners.unique k)) ≡ true
    by true e = absurd (differ (sym (nat_cmp-IsAntisymmetric k conn (equal_of_tie _ e))))
    by false e = n

filter_room : (f : ℕ × Why → Bool) (ds : List (ℕ × Why)) → AllByRecursion ForRoom ds → AllByRecursion ForRoom (filter f ds)
filter_room f [] a = tt
filter_room f (d ∷ ds) a = by (f d) (filter_room f ds a.1)
  where
    by : (b : Bool) → AllByRecursion ForRoom (filter f ds) → AllByRecursion ForRoom (if b then d ∷ filter f ds else filter f ds)
    by true h = (a.0, h)
    by false h = h

left_room : (c : Carried) (conn : ℕ) → AllByRecursion ForRoom c.bus.waiting.due → AllByRecursion ForRoom (left c conn).bus.waiting.due
left_room c conn a =
    let t : BusState = record c.bus.state {
      joined = filter (λ k. not (k == conn)) c.bus.state.joined;
      owners = after_gone c.bus.state.owners conn;
      rules = without_rules conn c.bus.state.rules;
      calls = calls_without conn c.bus.state.calls;
    } in
    all_moved_room c.bus.quota (without_queue c.bus.waiting conn) (bus_leaves c.bus.state conn).moves
    (said_open t (numbered t.next (farewell c.bus.state (after_gone c.bus.state.owners conn) conn (unique_of c.bus.state.owners conn))))
    (filter_room (λ (d : ℕ × Why). not (d.0 == conn)) c.bus.waiting.due a)

-- an end as it stands, and what it says
pub record AsItWas (e d : End) : Type 0 where
  pub whose : d.who ≡ e.who
  pub standing : d.standing ≡ e.standing
  pub up : d.up ≡ e.up

pub as_it_was : IsOrder AsItWas
as_it_was = record {
  same = λ e. record { whose = refl; standing = refl; up = refl };
  both = λ e d c f g. record { whose = g.whose ∙ f.whose; standing = g.standing ∙ f.standing; up = g.up ∙ f.up };
}

put_was : (letter : Letter) (e : End) → AsItWas e (put_down letter e)
put_was letter e = record { whose = refl; standing = refl; up = refl }

-- another than who leaves
left_other : (c : Carried) (conn k : ℕ) (d : End) → (conn ≡ k → ⊥) → end_at (left c conn).ends k ≡ Some d → (e : End) × (end_at c.ends k ≡ Some e) × AsItWas e d
left_other c conn k d differ h =
    let base : Carried = record { bus = record c.bus { waiting = without_queue c.bus.waiting conn }; ends = with_end conn leaves c.ends } in
    let x = (stepped_over AsItWas as_it_was own_letter (λ m e. put_was (own_letter m) e) base (bus_leaves c.bus.state conn)).back k d h in
    by x.0 x.2 (with_cases leaves c.ends conn k x.0 x.1)
  where
    by : (x : End) → AsItWas x d → ((y : End) × (end_at c.ends k ≡ Some y) × (((k ≡ conn) × (x ≡ leaves y)) ⊎ ((k ≡ conn → ⊥) × (x ≡ y)))) → (e : End) × (end_at c.ends k ≡ Some e) × AsItWas e d
    by x was g = at g.2
      where
        at : (((k ≡ conn) × (x ≡ leaves g.0)) ⊎ ((k ≡ conn → ⊥) × (x ≡ g.0))) → (e : End) × (end_at c.ends k ≡ Some e) × AsItWas e d
        at (inl s) = absurd (differ (sym s.0))
        at (inr s) = (g.0, g.1, subst (λ y. AsItWas y d) s.1 was)

-- CLOSINGS
abbrev pub is_of : ℕ → Closing → Bool
is_of k c = c.conn == k

pub any_more : (k : ℕ) (xs ys : List Closing) → list_any (is_of k) xs ≡ true → list_any (is_of k) (xs ++ ys) ≡ true
any_more k [] ys h = absurd (false_true h)
any_more k (x ∷ xs) ys h = by (is_of k x) (λ g. any_more k xs ys g) h
  where
    by : (b : Bool) → (list_any (is_of k) xs ≡ true → list_any (is_of k) (xs ++ ys) ≡ true) → (b || list_any (is_of k) xs) ≡ true → (b || list_any (is_of k) (xs ++ ys)) ≡ true
    by true f g = refl
    by false f g = f g

pub any_last : (k : ℕ) (xs : List Closing) (c : Closing) → is_of k c ≡ true → list_any (is_of k) (xs ++ c ∷ []) ≡ true
any_last k [] c h = ap (λ b. b || false) h
any_last k (x ∷ xs) c h = by (is_of k x) (any_last k xs c h)
  where
    by : (b : Bool) → list_any (is_of k) (xs ++ c ∷ []) ≡ true → (b || list_any (is_of k) (xs ++ c ∷ [])) ≡ true
    by true g = refl
    by false g = g

-- as what was before: each end at this place is as it was then, or it was closed; and one that was named is, or was closed
pub record Since (before : List End) (was_named : ℕ → Type 0) (c : Carried) (k : ℕ) : Type 0 where
  pub stands : (d : End) → end_at c.ends k ≡ Some d → ((e : End) × (end_at before k ≡ Some e) × AsItWas e d) ⊎ (list_any (is_of k) c.bus.closings ≡ true)
  pub named : was_named k → (is_some (unique_of c.bus.state.owners k) ≡ true) ⊎ (list_any (is_of k) c.bus.closings ≡ true)

pub record Settling (before : List End) (was_named : ℕ → Type 0) (leaver : ℕ → Type 0) (c : Carried) : Type 0 where
  pub due : AllByRecursion ForRoom c.bus.waiting.due
  pub told : AllByRecursion ToldForRoom c.bus.closings
  pub since : (k : ℕ) → (leaver k → ⊥) → Since before was_named c k

one_settling : (before : List End) (named_ : ℕ → Type 0) (leaver : ℕ → Type 0) (c : Carried) (due : List (ℕ × Why)) → AllByRecursion ForRoom due → Settling before named_ leaver c → Settling before named_ leaver (one_closed c due)
one_settling before named_ leaver c [] f r = r
one_settling before named_ leaver c (first ∷ rest) f r = record {
  due = left_room c first.0 r.due;
  told = all_append ToldForRoom c.bus.closings (closing ∷ []) r.told (f.0, tt);
  since = λ k not_leaver. by k (r.since k not_leaver) (first.0 == k) refl;
}
  where
    closing : Closing
    closing = record { conn = first.0; why = first.1; after = c.bus.state.next - 1 }

    by : (k : ℕ) → Since before named_ c k → (b : Bool) → (first.0 == k) ≡ b → Since before named_ (one_closed c (first ∷ rest)) k
    by k s true e = record { stands = λ d h. inr (any_last k c.bus.closings closing e); named = λ n. inr (any_last k c.bus.closings closing e) }
    by k s false e = record { stands = λ d h. stands d h; named = λ n. named_now (s.named n) }
      where
        differ : first.0 ≡ k → ⊥
        differ h = false_true (sym e ∙ eq-eqb first.0 k h)

        stands : (d : End) → end_at (left c first.0).ends k ≡ Some d → ((x : End) × (end_at before k ≡ Some x) × AsItWas x d) ⊎ (list_any (is_of k) (c.bus.closings ++ closing ∷ []) ≡ true)
        stands d h =
            let x = left_other c first.0 k d differ h in
            at x.0 x.2 (s.stands x.0 x.1)
          where
            at : (x : End) → AsItWas x d → (((y : End) × (end_at before k ≡ Some y) × AsItWas y x) ⊎ (list_any (is_of k) c.bus.closings ≡ true))
                → ((y : End) × (end_at before k ≡ Some y) × AsItWas y d) ⊎ (list_any (is_of k) (c.bus.closings ++ closing ∷ []) ≡ true)
            at x was (inl y) = inl (y.0, y.1, as_it_was.both y.0 x d y.2 was)
            at x was (inr g) = inr (any_more k c.bus.closings (closing ∷ []) g)

        named_now : ((is_some (unique_of c.bus.state.owners k) ≡ true) ⊎ (list_any (is_of k) c.bus.closings ≡ true))
            → (is_some (unique_of (after_gone c.bus.state.owners first.0) k) ≡ true) ⊎ (list_any (is_of k) (c.bus.closings ++ closing ∷ []) ≡ true)
        named_now (inl n) = inl (gone_named c.bus.state.owners first.0 k differ n)
        named_now (inr g) = inr (any_more k c.bus.closings (closing ∷ []) g)

settled_settling : (before : List End) (named_ leaver : ℕ → Type 0) (rounds : ℕ) (c : Carried) → Settling before named_ leaver c → Settling before named_ leaver (settled rounds c)
settled_settling before named_ leaver zero c r = r
settled_settling before named_ leaver (suc rounds) c r = settled_settling before named_ leaver rounds (one_closed c c.bus.waiting.due) (one_settling before named_ leaver c c.bus.waiting.due r.due r)

-- who had its name, and who said Hello now
abbrev pub NamedThen : Carried → ℕ → ℕ → Type 0
NamedThen c conn k = (is_some (unique_of c.bus.state.owners k) ≡ true) ⊎ (k ≡ conn)

abbrev pub Nobody : ℕ → Type 0
Nobody k = ⊥

pub takes_settling : (c : Carried) (conn : ℕ) (who : Party) (m : Said) → AllByRecursion ForRoom c.bus.waiting.due → c.bus.closings ≡ [] → Greets c.bus.state conn m.message
    → Settling (with_end conn taken_up c.ends) (NamedThen c conn) Nobody (takes c conn who m)
takes_settling c conn who m due none g =
    settled_settling (with_end conn taken_up c.ends) (NamedThen c conn) Nobody (length c.bus.state.joined) (with_name conn b) (record {
      due = all_moved_room c.bus.quota c.bus.waiting step.moves fair.unclosed due;
      told = subst (AllByRecursion ToldForRoom) (sym none) tt;
      since = λ k n. record { stands = λ d h. inl (o.back k d h); named = λ x. inl (named_now k x) };
    })
  where
    step : BusStep
    step = bus_takes c.bus.state conn m.message (rule_in m.message)

    a : Carried
    a = record c { ends = with_end conn taken_up c.ends }

    b : Carried
    b = stepped (letter_of who m) a step

    fair : Fair c.bus.state conn step
    fair = takes_fair c.bus.state conn m.message g

    named_now : (k : ℕ) → NamedThen c conn k → is_some (unique_of step.state.owners k) ≡ true
    named_now k (inl n) = fair.stays k n
    named_now k (inr is) = subst (λ j. is_some (unique_of step.state.owners j) ≡ true) (sym is) fair.taker

    o : Over AsItWas a.ends (with_name conn b).ends
    o =
        over_both AsItWas as_it_was a.ends b.ends (with_name conn b).ends (stepped_over AsItWas as_it_was (letter_of who m) (λ x e. put_was (letter_of who m x) e) a step)
        (over_with AsItWas as_it_was (named b.bus conn) (λ e. record { whose = refl; standing = refl; up = refl }) conn b.ends)

pub ends_settling : (c : Carried) (conn : ℕ) → AllByRecursion ForRoom c.bus.waiting.due → c.bus.closings ≡ []
    → Settling c.ends (λ k. is_some (unique_of c.bus.state.owners k) ≡ true) (λ k. conn ≡ k) (takes_end c conn)
ends_settling c conn due none =
    settled_settling c.ends (λ k. is_some (unique_of c.bus.state.owners k) ≡ true) (λ k. conn ≡ k) (length c.bus.state.joined) (left c conn) (record {
      due = left_room c conn due;
      told = subst (AllByRecursion ToldForRoom) (sym none) tt;
      since = λ k differ. record { stands = λ d h. inl (left_other c conn k d differ h); named = λ n. inl (gone_named c.bus.state.owners conn k differ n) };
    })
