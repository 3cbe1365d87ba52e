-- What waits for each end stays the bytes of its down link, whatever the bus does.
use Rattle.std.proofs.Common.{◌≡◌, ◌≢◌, ◌⊎◌, inl, inr, ℕ, zero, suc, ◌+◌, ◌<◌, ◌≤◌, Bool, true, false, List, [], ◌∷◌, ◌++◌, length, drop, None, Some, refl, sym, ap, ◌∙◌, subst, append_assoc, append-nil, length-append, arith}
use Rattle.std.specs.Prelude.{cond, nat_lt, if◌then◌else◌}
use Rattle.std.specs.List.{fold}
use Rattle.std.specs.FinMap as finmap
use Rattle.std.specs.Cmp.{nat_cmp_total}
use Rattle.std.specs.FinMap.{FinMap, get-remove}
use Rattle.std.specs.Ordering.{nat_cmp}
use Rattle.std.proofs.lemmas.Bool.{ltb-true, lt-ltb}
use Rattle.std.proofs.lemmas.List.{drop-append-le}
use Rattle.std.proofs.lemmas.Option.{same_Some}
use Rattle.atspi_message.specs.Envelope.{Envelope}
use Rattle.atspi_message.specs.Bytes.{written}
use Rattle.atspi_bus_queues.proofs.Keys.{ties_not}
use Rattle.atspi_bus_queues.proofs.Chains.{at_other, gone_key, queue_of-insert}
use Rattle.atspi_script_lines.specs.declared.line.Party.{Party}
use Rattle.atspi_names.specs.Owners.{own_name}
use Rattle.atspi_match.specs.declared.routing.closing.Why.{Why}
use Rattle.atspi_match.specs.declared.routing.closing.Why.TheVariants.{NotHello, Quota}
use Rattle.atspi_match.specs.routing.Members.{is_text}
use Rattle.atspi_match.specs.routing.Steps.{Move, says, delivers, closes, BusStep, bus_takes, bus_leaves}
use Rattle.atspi_match.specs.routing.Queues as queues
use Rattle.atspi_match.specs.routing.Queues.{Waiting, or_nothing, queue_of, is_due, doomed, told_length}
use Rattle.atspi_trace.specs.Rules.{rule_in}
use Rattle.atspi_trace.specs.World.{Said, Letter, End}
use Rattle.atspi_trace.specs.Ends.{end_at, with_end, put_down, taken_up, leaves}
use Rattle.atspi_trace.specs.Carrying.{Carried, Filled, letter_of, own_letter, grew, moved, stepped, left, one_closed, settled, named, with_name, takes, takes_end}
use Rattle.atspi_world_moves.specs.Downs.{bytes_down, IsBegun, IsWaiting, Wait}
use Rattle.atspi_world_moves.proofs.Views.{without, written_some}

pub down-append : (xs ys : List Letter) → bytes_down (xs ++ ys) ≡ bytes_down xs ++ bytes_down ys
down-append [] ys = refl
down-append (x ∷ xs) ys = ap (λ l. written x.said.message ++ l) (down-append xs ys) ∙ sym (append_assoc (written x.said.message) (bytes_down xs) (bytes_down ys))

-- the mark is no further than the bytes
pub begun_within : (n : ℕ) (letters : List Letter) → IsBegun n letters → n ≤ length (bytes_down letters)
begun_within n [] h = omega (arith, h)
begun_within n (l ∷ ls) h = omega (arith, h, length-append (written l.said.message) (bytes_down ls))

pub begun_more : (n : ℕ) (letters : List Letter) (letter : Letter) → IsBegun n letters → IsBegun n (letters ++ letter ∷ [])
begun_more n [] letter h = subst (λ k. k < length (written letter.said.message)) (sym h) (written_some letter.said.message)
begun_more n (l ∷ ls) letter h = h

-- which end stands at a connection, where one changes
pub at_changed : (f : End → End) (ends : List End) (k conn : ℕ) (e : End) → end_at (with_end k f ends) conn ≡ Some e
    → ((conn ≡ k) × ((x : End) × ((end_at ends conn ≡ Some x) × (e ≡ f x)))) ⊎ ((conn ≢ k) × (end_at ends conn ≡ Some e))
at_changed f [] zero zero e h = absurd cc
at_changed f [] zero (suc conn) e h = absurd cc
at_changed f [] (suc k) zero e h = absurd cc
at_changed f [] (suc k) (suc conn) e h = absurd cc
at_changed f (x ∷ xs) zero zero e h = inl (refl, (x, (refl, sym (same_Some (f x) e h))))
at_changed f (x ∷ xs) zero (suc conn) e h = inr ((λ q. omega (arith, q)), h)
at_changed f (x ∷ xs) (suc k) zero e h = inr ((λ q. omega (arith, q)), h)
at_changed f (x ∷ xs) (suc k) (suc conn) e h = by (at_changed f xs k conn e h)
  where
    by : ((conn ≡ k) × ((y : End) × ((end_at xs conn ≡ Some y) × (e ≡ f y)))) ⊎ ((conn ≢ k) × (end_at xs conn ≡ Some e))
        → ((suc conn ≡ suc k) × ((y : End) × ((end_at xs conn ≡ Some y) × (e ≡ f y)))) ⊎ ((suc conn ≢ suc k) × (end_at xs conn ≡ Some e))
    by (inl a) = inl (ap suc a.0, a.1)
    by (inr b) = inr ((λ q. b.0 (omega (arith, q))), b.1)

-- an end that changes, and not its down link
pub wait_same : (f : End → End) → ((e : End) → (f e).down ≡ e.down) → ((e : End) → (f e).down_moved ≡ e.down_moved) → (q : FinMap nat_cmp (List ℕ)) (ends : List End) (k : ℕ)
    → Wait q ends → Wait q (with_end k f ends)
wait_same f link mark q ends k w = λ conn e at. by conn e (at_changed f ends k conn e at)
  where
    moved_so : (conn : ℕ) (x e : End) → e ≡ f x → IsWaiting q conn x → IsWaiting q conn e
    moved_so conn x e is h = record {
      begun = subst (IsBegun e.down_moved) (sym (ap (λ (y : End). y.down) is ∙ link x)) (subst (λ n. IsBegun n x.down) (sym (ap (λ (y : End). y.down_moved) is ∙ mark x)) h.begun);
      bytes = h.bytes ∙ ap (λ n. drop n (bytes_down x.down)) (sym (ap (λ (y : End). y.down_moved) is ∙ mark x)) ∙ ap (λ l. drop e.down_moved (bytes_down l)) (sym (ap (λ (y : End). y.down) is ∙ link x));
    }

    by : (conn : ℕ) (e : End) → ((conn ≡ k) × ((x : End) × ((end_at ends conn ≡ Some x) × (e ≡ f x)))) ⊎ ((conn ≢ k) × (end_at ends conn ≡ Some e)) → IsWaiting q conn e
    by conn e (inl a) = moved_so conn a.1.0 e a.1.1.1 (w conn a.1.0 a.1.1.0)
    by conn e (inr b) = w conn e b.1

-- bytes go to a queue, and the message to the link
abbrev with_bytes : FinMap nat_cmp (List ℕ) → ℕ → Envelope → FinMap nat_cmp (List ℕ)
with_bytes q k m = finmap.insert q k (queue_of q k ++ written m)

put_letter : (q : FinMap nat_cmp (List ℕ)) (ends : List End) (k : ℕ) (m : Envelope) (l : Letter) → l.said.message ≡ m → Wait q ends → Wait (with_bytes q k m) (with_end k (put_down l) ends)
put_letter q ends k m l same w = λ conn e at. by conn e (at_changed (put_down l) ends k conn e at)
  where
    own : (conn : ℕ) (x e : End) → conn ≡ k → e ≡ put_down l x → IsWaiting q conn x → IsWaiting (with_bytes q k m) conn e
    own conn x e here is h = record {
      begun = subst (λ (y : End). IsBegun y.down_moved y.down) (sym is) (begun_more x.down_moved x.down l h.begun);
      bytes = ap (queue_of (with_bytes q k m)) here ∙ queue_of-insert q k (queue_of q k ++ written m) ∙ ap (λ c. queue_of q c ++ written m) (sym here) ∙ ap (λ b. b ++ written m) h.bytes
          ∙ ap (λ x'. drop x.down_moved (bytes_down x.down) ++ written x') (sym same)
          ∙ sym (drop-append-le x.down_moved (bytes_down x.down) (written l.said.message) (begun_within x.down_moved x.down h.begun))
          ∙ ap (λ b. drop x.down_moved (bytes_down x.down ++ b)) (sym (append-nil (written l.said.message))) ∙ ap (drop x.down_moved) (sym (down-append x.down (l ∷ [])))
          ∙ ap (λ (y : End). drop y.down_moved (bytes_down y.down)) (sym is);
    }

    by : (conn : ℕ) (e : End) → ((conn ≡ k) × ((x : End) × ((end_at ends conn ≡ Some x) × (e ≡ put_down l x)))) ⊎ ((conn ≢ k) × (end_at ends conn ≡ Some e)) → IsWaiting (with_bytes q k m) conn e
    by conn e (inl a) = own conn a.1.0 e a.0 a.1.1.1 (w conn a.1.0 a.1.1.0)
    by conn e (inr b) =
        let h = w conn e b.1 in
        record { begun = h.begun; bytes = ap or_nothing (at_other q k (queue_of q k ++ written m) conn b.0) ∙ h.bytes }

-- no queue is longer than itself
not_grown : (n : ℕ) → nat_lt n n ≡ false
not_grown n = by (nat_lt n n) refl
  where
    by : (b : Bool) → nat_lt n n ≡ b → b ≡ false
    by true e = absurd (omega (arith, ltb-true n n e))
    by false e = refl

-- the queues after a delivery, by whether its connection is to be closed, and whether its queue is full
abbrev after_delivery : Waiting → ℕ → Envelope → Bool → Bool → Waiting
after_delivery w k m due full =
    if due then w else if full then doomed w k (Quota (length (queue_of w.queues k)) (told_length (written m))) else record w { queues = with_bytes w.queues k m }

module _ (letter : Envelope → Letter) (is_it : (m : Envelope) → (letter m).said.message ≡ m) where
  -- one delivery, by what becomes of the queue
  kept : (k : ℕ) (m : Envelope) (before after : Waiting) (ends : List End) → after.queues ≡ before.queues → Wait before.queues ends
      → Wait after.queues (if grew k before after then with_end k (put_down (letter m)) ends else ends)
  kept k m before after ends same w =
      subst (λ b. Wait after.queues (if b then with_end k (put_down (letter m)) ends else ends))
      (sym (ap (λ q. nat_lt (length (queue_of before.queues k)) (length (queue_of q k))) same ∙ not_grown (length (queue_of before.queues k))))
      (subst (λ q. Wait q ends) (sym same) w)

  grown : (k : ℕ) (m : Envelope) (before after : Waiting) (ends : List End) → after.queues ≡ finmap.insert before.queues k (queue_of before.queues k ++ written m) → Wait before.queues ends
      → Wait after.queues (if grew k before after then with_end k (put_down (letter m)) ends else ends)
  grown k m before after ends put w =
      let many : length (queue_of after.queues k) ≡ length (queue_of before.queues k) + length (written m) =
      ap (λ q. length (queue_of q k)) put ∙ ap length (queue_of-insert before.queues k (queue_of before.queues k ++ written m)) ∙ length-append (queue_of before.queues k) (written m) in
      let more : grew k before after ≡ true = lt-ltb (length (queue_of before.queues k)) (length (queue_of after.queues k)) (omega (arith, many, written_some m)) in
      subst (λ b. Wait after.queues (if b then with_end k (put_down (letter m)) ends else ends)) (sym more)
      (subst (λ q. Wait q (with_end k (put_down (letter m)) ends)) (sym put) (put_letter before.queues ends k m (letter m) (is_it m) w))

  doomed_queues : (w : Waiting) (k : ℕ) (why : Why) → (doomed w k why).queues ≡ w.queues
  doomed_queues w k why = by (is_due k w.due)
    where
      by : (b : Bool) → (if b then w else record w { due = w.due ++ (k, why) ∷ [] }).queues ≡ w.queues
      by true = refl
      by false = refl

  delivered : (quota : ℕ) (f : Filled) (k : ℕ) (m : Envelope) → Wait f.waiting.queues f.ends → Wait (moved letter quota f (delivers k m)).waiting.queues (moved letter quota f (delivers k m)).ends
  delivered quota f k m w = by (is_due k f.waiting.due) (nat_lt quota (length (queue_of f.waiting.queues k) + length (written m)))
    where
      by : (due full : Bool) → Wait (after_delivery f.waiting k m due full).queues (if grew k f.waiting (after_delivery f.waiting k m due full) then with_end k (put_down (letter m)) f.ends else f.ends)
      by true full = kept k m f.waiting f.waiting f.ends refl w
      by false true =
          let d : Waiting = doomed f.waiting k (Quota (length (queue_of f.waiting.queues k)) (told_length (written m))) in
          kept k m f.waiting d f.ends (doomed_queues f.waiting k (Quota (length (queue_of f.waiting.queues k)) (told_length (written m)))) w
      by false false = grown k m f.waiting (record f.waiting { queues = finmap.insert f.waiting.queues k (queue_of f.waiting.queues k ++ written m) }) f.ends refl w

  moves_wait : (quota : ℕ) (f : Filled) (move : Move) → Wait f.waiting.queues f.ends → Wait (moved letter quota f move).waiting.queues (moved letter quota f move).ends
  moves_wait quota f (delivers k m) w = delivered quota f k m w
  moves_wait quota f (says m) w = w
  moves_wait quota f (closes k) w = subst (λ q. Wait q f.ends) (sym (doomed_queues f.waiting k NotHello)) w

  all_wait : (quota : ℕ) (f : Filled) (moves : List Move) → Wait f.waiting.queues f.ends
      → Wait (fold (queues.moved quota) f.waiting moves).queues (fold (moved letter quota) f moves).ends
  all_wait quota f [] w = w
  all_wait quota f (move ∷ moves) w = all_wait quota (moved letter quota f move) moves (moves_wait quota f move w)

  pub stepped_wait : (c : Carried) (step : BusStep) → Wait c.bus.waiting.queues c.ends → Wait (stepped letter c step).bus.waiting.queues (stepped letter c step).ends
  stepped_wait c step w = all_wait c.bus.quota (record { waiting = c.bus.waiting; ends = c.ends }) step.moves w

-- an end that leaves
gone_other : (queues : FinMap nat_cmp (List ℕ)) (conn q : ℕ) → q ≢ conn → finmap.get (finmap.remove queues conn) q ≡ finmap.get queues q
gone_other queues conn q ne = get-remove nat_cmp_total queues conn q ∙ ap (λ b. cond b None (finmap.get queues q)) (ties_not q conn ne)

without_wait : (c : Carried) (k : ℕ) → Wait c.bus.waiting.queues c.ends → Wait (without c k).bus.waiting.queues (without c k).ends
without_wait c k w = λ conn e at. by conn e (at_changed leaves c.ends k conn e at)
  where
    by : (conn : ℕ) (e : End) → ((conn ≡ k) × ((x : End) × ((end_at c.ends conn ≡ Some x) × (e ≡ leaves x)))) ⊎ ((conn ≢ k) × (end_at c.ends conn ≡ Some e))
        → IsWaiting (finmap.remove c.bus.waiting.queues k) conn e
    by conn e (inl a) = record {
      begun = subst (λ (y : End). IsBegun y.down_moved y.down) (sym a.1.1.1) refl;
      bytes = ap (λ n. or_nothing (finmap.get (finmap.remove c.bus.waiting.queues k) n)) a.0 ∙ ap or_nothing (gone_key c.bus.waiting.queues k) ∙ ap (λ (y : End). drop y.down_moved (bytes_down y.down)) (sym a.1.1.1);
    }
    by conn e (inr b) = let h = w conn e b.1 in record { begun = h.begun; bytes = ap or_nothing (gone_other c.bus.waiting.queues k conn b.0) ∙ h.bytes }

pub left_wait : (c : Carried) (k : ℕ) → Wait c.bus.waiting.queues c.ends → Wait (left c k).bus.waiting.queues (left c k).ends
left_wait c k w = stepped_wait own_letter (λ m. refl) (without c k) (bus_leaves c.bus.state k) (without_wait c k w)

one_waits : (c : Carried) (due : List (ℕ × Why)) → Wait c.bus.waiting.queues c.ends → Wait (one_closed c due).bus.waiting.queues (one_closed c due).ends
one_waits c [] w = w
one_waits c (first ∷ rest) w = left_wait c first.0 w

pub settled_wait : (n : ℕ) (c : Carried) → Wait c.bus.waiting.queues c.ends → Wait (settled n c).bus.waiting.queues (settled n c).ends
settled_wait zero c w = w
settled_wait (suc n) c w = settled_wait n (one_closed c c.bus.waiting.due) (one_waits c c.bus.waiting.due w)

pub letter_message : (who : Party) (said : Said) (m : Envelope) → (letter_of who said m).said.message ≡ m
letter_message who said m = by (is_text m.sender own_name)
  where
    by : (b : Bool) → (if b then own_letter m else record { from = who; said = record said { message = m } }).said.message ≡ m
    by true = refl
    by false = refl

-- THE BUS TAKES A MESSAGE, OR AN END: what waits for each end is still its down link
pub takes_wait : (c : Carried) (conn : ℕ) (who : Party) (said : Said) → Wait c.bus.waiting.queues c.ends → Wait (takes c conn who said).bus.waiting.queues (takes c conn who said).ends
takes_wait c conn who said w =
    let off : Carried = record c { ends = with_end conn taken_up c.ends } in
    let step = bus_takes c.bus.state conn said.message (rule_in said.message) in
    let handed : Carried = stepped (letter_of who said) off step in
    settled_wait (length c.bus.state.joined) (with_name conn handed)
    (wait_same (named handed.bus conn) (λ e. refl) (λ e. refl) handed.bus.waiting.queues handed.ends conn
    (stepped_wait (letter_of who said) (letter_message who said) off step (wait_same taken_up (λ e. refl) (λ e. refl) c.bus.waiting.queues c.ends conn w)))

pub ends_wait : (c : Carried) (conn : ℕ) → Wait c.bus.waiting.queues c.ends → Wait (takes_end c conn).bus.waiting.queues (takes_end c conn).ends
ends_wait c conn w = settled_wait (length c.bus.state.joined) (left c conn) (left_wait c conn w)

-- an end joins, with an empty queue and an empty link
last_of : (ends : List End) (n : End) (conn : ℕ) (e : End) → end_at (ends ++ n ∷ []) conn ≡ Some e → ((conn ≡ length ends) × (e ≡ n)) ⊎ ((conn < length ends) × (end_at ends conn ≡ Some e))
last_of [] n zero e h = inl (refl, sym (same_Some n e h))
last_of [] n (suc conn) e h = absurd cc
last_of (x ∷ xs) n zero e h = inr (omega arith, h)
last_of (x ∷ xs) n (suc conn) e h = by (last_of xs n conn e h)
  where
    by : ((conn ≡ length xs) × (e ≡ n)) ⊎ ((conn < length xs) × (end_at xs conn ≡ Some e)) → ((suc conn ≡ length (x ∷ xs)) × (e ≡ n)) ⊎ ((suc conn < length (x ∷ xs)) × (end_at xs conn ≡ Some e))
    by (inl a) = inl (ap suc a.0, a.1)
    by (inr b) = inr ((let less = b.0 in omega (arith, less)), b.1)

pub joined_wait : (q : FinMap nat_cmp (List ℕ)) (ends : List End) (n : End) → n.down ≡ [] → n.down_moved ≡ 0 → Wait q ends → Wait (finmap.insert q (length ends) []) (ends ++ n ∷ [])
joined_wait q ends n link mark w = λ conn e at. by conn e (last_of ends n conn e at)
  where
    by : (conn : ℕ) (e : End) → ((conn ≡ length ends) × (e ≡ n)) ⊎ ((conn < length ends) × (end_at ends conn ≡ Some e)) → IsWaiting (finmap.insert q (length ends) []) conn e
    by conn e (inl a) = record {
      begun = subst (λ (y : End). IsBegun y.down_moved y.down) (sym a.1) (subst (IsBegun n.down_moved) (sym link) mark);
      bytes = ap (queue_of (finmap.insert q (length ends) [])) a.0 ∙ queue_of-insert q (length ends) [] ∙ ap (λ l. drop 0 (bytes_down l)) (sym link) ∙ ap (λ k. drop k (bytes_down n.down)) (sym mark)
          ∙ ap (λ (y : End). drop y.down_moved (bytes_down y.down)) (sym a.1);
    }
    by conn e (inr b) =
        let h = w conn e b.1 in
        let less = b.0 in
        record { begun = h.begun; bytes = ap or_nothing (at_other q (length ends) [] conn (λ same. omega (arith, less, same))) ∙ h.bytes }
