-- Bytes that pass a quota, and bytes that do not, whatever they are.
use Rattle.std.proofs.Common.{◌≡◌, ℕ, ◌+◌, ◌<◌, ◌≤◌, Bool, true, false, cond, List, [], ◌∷◌, ◌++◌, length, ap, ◌∙◌, arith}
use Rattle.std.specs.Prelude.{nat_lt}
use Rattle.std.specs.FinMap as finmap
use Rattle.std.specs.FinMap.{FinMap}
use Rattle.std.specs.Ordering.{nat_cmp}
use Rattle.std.proofs.lemmas.Bool.Decides.{nat_tests}
use Rattle.atspi_match.specs.declared.routing.closing.Why.TheVariants.{Quota}
use Rattle.atspi_match.specs.routing.Queues.{Waiting, queue_of, queued, doomed, told_length}

past : (quota n : ℕ) → quota < n → nat_lt quota n ≡ true
past quota n lt = grind (arith, nat_tests)

not_past : (quota n : ℕ) → n ≤ quota → nat_lt quota n ≡ false
not_past quota n le = grind (arith, nat_tests)

pub full : (quota n : ℕ) (queues : FinMap nat_cmp (List ℕ)) (conn : ℕ) (bytes : List ℕ) → length (queue_of queues conn) ≡ n → quota < n + length bytes
    → queued quota (record { queues = queues; due = [] }) conn bytes ≡ record { queues = queues; due = (conn, Quota n (told_length bytes)) ∷ [] }
full quota n queues conn bytes is over =
    let w : Waiting = record { queues = queues; due = [] } in
    let roomy : Waiting = record w { queues = finmap.insert queues conn (queue_of queues conn ++ bytes) } in
    ap (λ (b : Bool). cond b (doomed w conn (Quota (length (queue_of queues conn)) (told_length bytes))) roomy) (past quota (length (queue_of queues conn) + length bytes) (omega (arith, is, over)))
    ∙ ap (λ (m : ℕ). record w { due = (conn, Quota m (told_length bytes)) ∷ [] }) is

pub fits : (quota n : ℕ) (queues : FinMap nat_cmp (List ℕ)) (conn : ℕ) (bytes : List ℕ) → length (queue_of queues conn) ≡ n → n + length bytes ≤ quota
    → queued quota (record { queues = queues; due = [] }) conn bytes ≡ record { queues = finmap.insert queues conn (queue_of queues conn ++ bytes); due = [] }
fits quota n queues conn bytes is room =
    let w : Waiting = record { queues = queues; due = [] } in
    let roomy : Waiting = record w { queues = finmap.insert queues conn (queue_of queues conn ++ bytes) } in
    ap (λ (b : Bool). cond b (doomed w conn (Quota (length (queue_of queues conn)) (told_length bytes))) roomy) (not_past quota (length (queue_of queues conn) + length bytes) (omega (arith, is, room)))

pub told_is : (bytes : List ℕ) (n : ℕ) → length bytes ≡ n → n ≤ 4294967295 → told_length bytes ≡ n
told_is bytes n is le = omega (arith, is, le)

pub told_most : (bytes : List ℕ) → 4294967295 ≤ length bytes → told_length bytes ≡ 4294967295
told_most bytes le = omega (arith, le)
