-- Each queue stays within the quota.
use Rattle.std.proofs.Common.{◌≡◌, ℕ, ◌+◌, ◌≤◌, Bool, true, false, cond, List, ◌++◌, length, Some, None, is_some, sym, subst, arith}
use Rattle.std.specs.Prelude.{Result, Ok, Err, OnOk, OnErr, IfOk, MatchBool}
use Rattle.std.specs.Cmp.{nat_cmp_total}
use Rattle.std.specs.Ordering.{nat_cmp, eq_by_cmp}
use Rattle.std.specs.FinMap as finmap
use Rattle.std.specs.FinMap.{FinMap, get-empty, get-insert, get-remove}
use Rattle.std.proofs.lemmas.List.{length-append}
use Rattle.atspi_match.specs.routing.Queues.{or_nothing, queue_of}
use Rattle.atspi_match.specs.routing.Laws.{AreWithin}
use Rattle.atspi_bus_queues.specs.Change.{with_queue}
use Rattle.atspi_bus_queues.specs.Space.{HasSpace}

pub within-new : (quota : ℕ) (queues : FinMap nat_cmp (List ℕ)) → queues ≡ finmap.empty → AreWithin quota queues
within-new quota queues none = subst (AreWithin quota) (sym none) (λ conn. rw (get-empty nat_cmp conn) (omega arith))

pub within-insert : (quota : ℕ) (queues : FinMap nat_cmp (List ℕ)) (conn : ℕ) (bytes : List ℕ) → AreWithin quota queues → length bytes ≤ quota → AreWithin quota (finmap.insert queues conn bytes)
within-insert quota queues conn bytes w le q = rw (get-insert nat_cmp_total queues conn bytes q) (by (eq_by_cmp nat_cmp q conn))
  where
    by : (b : Bool) → length (or_nothing (cond b (Some bytes) (finmap.get queues q))) ≤ quota
    by true = le
    by false = w q

pub within-remove : (quota : ℕ) (queues : FinMap nat_cmp (List ℕ)) (conn : ℕ) → AreWithin quota queues → AreWithin quota (finmap.remove queues conn)
within-remove quota queues conn w q = rw (get-remove nat_cmp_total queues conn q) (by (eq_by_cmp nat_cmp q conn))
  where
    by : (b : Bool) → length (or_nothing (cond b None (finmap.get queues q))) ≤ quota
    by true = omega arith
    by false = w q

pub within-with : (quota : ℕ) (queues : FinMap nat_cmp (List ℕ)) (conn : ℕ) (bytes : List ℕ) → AreWithin quota queues → length bytes ≤ quota → AreWithin quota (with_queue queues conn bytes)
within-with quota queues conn bytes w le = by (is_some (finmap.get queues conn))
  where
    by : (b : Bool) → AreWithin quota (cond b (finmap.insert queues conn bytes) queues)
    by true = within-insert quota queues conn bytes w le
    by false = w

-- after a call that may want memory
pub within-result : {T E : Type 0} (r : Result T E) (quota : ℕ) (new ok err : FinMap nat_cmp (List ℕ)) → OnOk r (new ≡ ok) → OnErr r (new ≡ err) → AreWithin quota ok → AreWithin quota err → AreWithin quota new
within-result (Ok x) quota new ok err is kept w v = subst (AreWithin quota) (sym is) w
within-result (Err e) quota new ok err is kept w v = subst (AreWithin quota) (sym kept) v

-- after a call that puts bytes where there is space for them
pub within-space : {E : Type 0} (r : Result Bool E) (quota : ℕ) (new old : FinMap nat_cmp (List ℕ)) (conn : ℕ) (bytes : List ℕ)
    → IfOk r (λ went. MatchBool went (HasSpace old conn (length bytes) quota × (new ≡ finmap.insert old conn (queue_of old conn ++ bytes)))
    ((HasSpace old conn (length bytes) quota → ⊥) × (new ≡ old)))
    → OnErr r (new ≡ old) → AreWithin quota old → AreWithin quota new
within-space (Ok true) quota new old conn bytes ok err w =
    let room : length (queue_of old conn) + length bytes ≤ quota = ok.0.room in
    subst (AreWithin quota) (sym ok.1) (within-insert quota old conn (queue_of old conn ++ bytes) w (omega (arith, length-append (queue_of old conn) bytes)))
within-space (Ok false) quota new old conn bytes ok err w = subst (AreWithin quota) (sym ok.1) w
within-space (Err e) quota new old conn bytes ok err w = subst (AreWithin quota) (sym err) w
