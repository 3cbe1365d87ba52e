-- Each queue stays within the quota: a message goes to a queue only where it has room.
use Rattle.std.proofs.Common.{◌≡◌, ℕ, zero, suc, ◌+◌, ◌≤◌, Bool, true, false, cond, List, [], ◌∷◌, ◌++◌, length, Some, None, refl, arith}
use Rattle.std.specs.Prelude.{nat_lt}
use Rattle.std.specs.List.{fold}
use Rattle.std.specs.Cmp.{nat_cmp_total}
use Rattle.std.specs.Ordering.{nat_cmp, eq_by_cmp}
use Rattle.std.specs.FinMap as finmap
use Rattle.std.specs.FinMap.{FinMap, get-empty, get-insert, get-remove}
use Rattle.std.proofs.lemmas.Bool.{ltb-false}
use Rattle.std.proofs.lemmas.List.{length-append}
use Rattle.atspi_message.specs.Bytes.{written}
use Rattle.atspi_match.specs.declared.routing.closing.Why.{Why}
use Rattle.atspi_match.specs.declared.routing.closing.Why.TheVariants.{NotHello, Quota}
use Rattle.atspi_match.specs.routing.Steps.{Move, says, delivers, closes, bus_takes, bus_leaves}
use Rattle.atspi_match.specs.routing.Queues.{Waiting, or_nothing, queue_of, is_due, doomed, queued, moved, Bus, without_queue, left, one_closed, settled, told_length}
use Rattle.atspi_match.specs.routing.Laws.{AreWithin, IsWithinQuota, QueuesStayWithin}

inserted : (quota : ℕ) (queues : FinMap nat_cmp (List ℕ)) (conn : ℕ) (bytes : List ℕ) → AreWithin quota queues → length bytes ≤ quota → AreWithin quota (finmap.insert queues conn bytes)
inserted quota queues conn bytes w le q = rw (get-insert nat_cmp_total queues conn bytes q) (by (eq_by_cmp nat_cmp q conn))
  where
    by : (b : Bool) → length (or_nothing (cond b (Some bytes) (finmap.get queues q))) ≤ quota
    by true = le
    by false = w q

removed : (quota : ℕ) (queues : FinMap nat_cmp (List ℕ)) (conn : ℕ) → AreWithin quota queues → AreWithin quota (finmap.remove queues conn)
removed quota queues conn w q = rw (get-remove nat_cmp_total queues conn q) (by (eq_by_cmp nat_cmp q conn))
  where
    by : (b : Bool) → length (or_nothing (cond b None (finmap.get queues q))) ≤ quota
    by true = omega arith
    by false = w q

-- by a test
either : (quota : ℕ) (b : Bool) (x y : Waiting) → AreWithin quota x.queues → (b ≡ false → AreWithin quota y.queues) → AreWithin quota (cond b x y).queues
either quota true x y p q = p
either quota false x y p q = q refl

doomed_within : (quota : ℕ) (w : Waiting) (conn : ℕ) (why : Why) → AreWithin quota w.queues → AreWithin quota (doomed w conn why).queues
doomed_within quota w conn why h = either quota (is_due conn w.due) w (record w { due = w.due ++ (conn, why) ∷ [] }) h (λ e. h)

queued_within : (quota : ℕ) (w : Waiting) (conn : ℕ) (bytes : List ℕ) → AreWithin quota w.queues → AreWithin quota (queued quota w conn bytes).queues
queued_within quota w conn bytes h =
    let long = nat_lt quota (length (queue_of w.queues conn) + length bytes) in
    let full = doomed w conn (Quota (length (queue_of w.queues conn)) (told_length bytes)) in
    let roomy : Waiting = record w { queues = finmap.insert w.queues conn (queue_of w.queues conn ++ bytes) } in
    either quota (is_due conn w.due) w (cond long full roomy) h (λ e. either quota long full roomy (doomed_within quota w conn _ h) (λ short. inserted quota w.queues conn (queue_of w.queues conn ++ bytes) h (omega (arith, ltb-false _ _ short, length-append (queue_of w.queues conn) bytes))))

moved_within : (quota : ℕ) (w : Waiting) (m : Move) → AreWithin quota w.queues → AreWithin quota (moved quota w m).queues
moved_within quota w (says e) h = h
moved_within quota w (delivers conn e) h = queued_within quota w conn (written e) h
moved_within quota w (closes conn) h = doomed_within quota w conn NotHello h

all_moved_within : (quota : ℕ) (ms : List Move) (w : Waiting) → AreWithin quota w.queues → AreWithin quota (fold (moved quota) w ms).queues
all_moved_within quota [] w h = h
all_moved_within quota (m ∷ ms) w h = all_moved_within quota ms (moved quota w m) (moved_within quota w m h)

left_within : (b : Bus) (conn : ℕ) → IsWithinQuota b → IsWithinQuota (left b conn)
left_within b conn h = all_moved_within b.quota (bus_leaves b.state conn).moves (without_queue b.waiting conn) (removed b.quota b.waiting.queues conn h)

one_closed_within : (b : Bus) (due : List (ℕ × Why)) → IsWithinQuota b → IsWithinQuota (one_closed b due)
one_closed_within b [] h = h
one_closed_within b (first ∷ rest) h = left_within b first.0 h

settled_within : (rounds : ℕ) (b : Bus) → IsWithinQuota b → IsWithinQuota (settled rounds b)
settled_within zero b h = h
settled_within (suc rounds) b h = settled_within rounds (one_closed b b.waiting.due) (one_closed_within b b.waiting.due h)

pub stay_within : QueuesStayWithin
stay_within = record {
  new = λ quota conn. rw (get-empty nat_cmp conn) (omega arith);
  joined = λ b conn h. inserted b.quota b.waiting.queues conn [] h (omega arith);
  taken = λ b conn e rule h. settled_within (length b.state.joined) _ (all_moved_within b.quota (bus_takes b.state conn e rule).moves b.waiting h);
  left = λ b conn h. settled_within (length b.state.joined) _ (left_within b conn h);
}
