-- Bytes that go to several connections, and are taken back.
use Rattle.std.proofs.Common.{◌≡◌, ℕ, ◌+◌, ◌-◌, ◌≤◌, false, cond, List, [], ◌∷◌, ◌++◌, length, take, Option, None, Some, refl, sym, ap, ◌∙◌, subst, arith}
use Rattle.std.specs.Prelude.{nat_lt, IsSome}
use Rattle.std.specs.Ordering.{nat_cmp}
use Rattle.std.specs.FinMap as finmap
use Rattle.std.specs.FinMap.{FinMap}
use Rattle.std.proofs.Math.Seq.{take-append_seam, take-length}
use Rattle.std.proofs.lemmas.Bool.Decides.{nat_tests}
use Rattle.std.proofs.lemmas.List.{length-append}
use Rattle.std.proofs.lemmas.List.Sums.{fold-append}
use Rattle.atspi_match.specs.declared.routing.closing.Why.{Why}
use Rattle.atspi_match.specs.declared.routing.closing.Why.TheVariants.{Quota}
use Rattle.atspi_match.specs.routing.Queues.{Waiting, queue_of, queued, doomed, or_nothing, told_length}
use Rattle.atspi_bus_queues.specs.Change.{with_queue}
use Rattle.atspi_bus_queues.specs.Held.{Held}
use Rattle.atspi_bus_queues.specs.Each.{queued_each, HasRoom, HaveRoom, WentToEach}
use Rattle.atspi_bus_queues.proofs.Chains.{at_key, at_other, by_keys, with_queue-some}

abbrev pub held_of : ℕ → Waiting → Held
held_of quota w = record { quota = quota; waiting = w }

-- the queue with bytes behind its own
abbrev pub longer : Waiting → ℕ → List ℕ → Waiting
longer w conn bytes = record w { queues = finmap.insert w.queues conn (queue_of w.queues conn ++ bytes) }

not_past : (quota n : ℕ) → n ≤ quota → nat_lt quota n ≡ false
not_past quota n le = grind (arith, nat_tests)

-- bytes that have room
pub queued-room : (quota : ℕ) (w : Waiting) (conn : ℕ) (bytes : List ℕ) → HasRoom (held_of quota w) conn (length bytes) → queued quota w conn bytes ≡ longer w conn bytes
queued-room quota w conn bytes h = by w.queues w.due h.nobody h.room
  where
    by : (queues : FinMap nat_cmp (List ℕ)) (due : List (ℕ × Why)) → due ≡ [] → length (queue_of queues conn) + length bytes ≤ quota
        → queued quota (record { queues = queues; due = due }) conn bytes ≡ longer (record { queues = queues; due = due }) conn bytes
    by queues [] e le = ap (λ b. cond b (doomed (record { queues = queues; due = [] }) conn (Quota (length (queue_of queues conn)) (told_length bytes))) (longer (record { queues = queues; due = [] }) conn bytes)) (not_past quota _ le)
    by queues (d ∷ due) e le = absurd cc

pub due-same : (quota : ℕ) (w : Waiting) (bytes conns : List ℕ) → HaveRoom quota w bytes conns → (queued_each quota w bytes conns).due ≡ w.due
due-same quota w bytes [] h = refl
due-same quota w bytes (c ∷ cs) h =
    due-same quota (queued quota w c bytes) bytes cs h.1 ∙ ap (λ (v : Waiting). v.due) (queued-room quota w c bytes h.0)

-- one connection more
pub each-push : (quota : ℕ) (w : Waiting) (bytes conns : List ℕ) (c : ℕ) → queued_each quota w bytes (conns ++ c ∷ []) ≡ queued quota (queued_each quota w bytes conns) c bytes
each-push quota w bytes conns c = fold-append (λ (v : Waiting) (conn : ℕ). queued quota v conn bytes) w conns (c ∷ [])

pub room-push : (quota : ℕ) (w : Waiting) (bytes conns : List ℕ) (c : ℕ) → HaveRoom quota w bytes conns → HasRoom (held_of quota (queued_each quota w bytes conns)) c (length bytes)
    → HaveRoom quota w bytes (conns ++ c ∷ [])
room-push quota w bytes [] c h r = (r, tt)
room-push quota w bytes (d ∷ ds) c h r = (h.0, room-push quota (queued quota w d bytes) bytes ds c h.1 r)

-- and back
pub room-front : (quota : ℕ) (w : Waiting) (bytes front back : List ℕ) → HaveRoom quota w bytes (front ++ back) → HaveRoom quota w bytes front
room-front quota w bytes [] back h = tt
room-front quota w bytes (d ∷ ds) back h = (h.0, room-front quota (queued quota w d bytes) bytes ds back h.1)

pub room-at : (quota : ℕ) (w : Waiting) (bytes front : List ℕ) (c : ℕ) (back : List ℕ) → HaveRoom quota w bytes (front ++ c ∷ back)
    → HasRoom (held_of quota (queued_each quota w bytes front)) c (length bytes)
room-at quota w bytes [] c back h = h.0
room-at quota w bytes (d ∷ ds) c back h = room-at quota (queued quota w d bytes) bytes ds c back h.1

some_at : (o : Option (List ℕ)) → IsSome o → o ≡ Some (or_nothing o)
some_at None e = absurd cc
some_at (Some x) e = refl

-- what went to a connection with room is the end of what waits for it, and is taken back
pub back-len : (w : Waiting) (conn : ℕ) (bytes : List ℕ) → length (queue_of (longer w conn bytes).queues conn) ≡ length (queue_of w.queues conn) + length bytes
back-len w conn bytes = ap (λ o. length (or_nothing o)) (at_key w.queues conn (queue_of w.queues conn ++ bytes)) ∙ length-append (queue_of w.queues conn) bytes

pub back-is : (w : Waiting) (conn : ℕ) (bytes : List ℕ) → IsSome (finmap.get w.queues conn)
    → with_queue (longer w conn bytes).queues conn (take (length (queue_of (longer w conn bytes).queues conn) - length bytes) (queue_of (longer w conn bytes).queues conn)) ≡ w.queues
back-is w conn bytes some =
    let old = queue_of w.queues conn in
    let m = finmap.insert w.queues conn (old ++ bytes) in
    let now : queue_of m conn ≡ old ++ bytes = ap or_nothing (at_key w.queues conn (old ++ bytes)) in
    let cut : length (queue_of m conn) - length bytes ≡ length old = (let l = back-len w conn bytes in omega arith) in
    let front : take (length (queue_of m conn) - length bytes) (queue_of m conn) ≡ old =
    ap (λ (n : ℕ). take n (queue_of m conn)) cut ∙ ap (take (length old)) now ∙ take-append_seam old bytes in
    ap (with_queue m conn) front ∙ sym (with_queue-some m conn (old ++ bytes) old (at_key w.queues conn (old ++ bytes)))
    ∙ by_keys _ _ conn (at_key m conn old ∙ sym (some_at (finmap.get w.queues conn) some))
    (λ q ne. at_other m conn old q ne ∙ at_other w.queues conn (old ++ bytes) q ne)

-- one step of a loop over connections
module _ (quota : ℕ) (w : Waiting) (bytes conns : List ℕ) where
  -- the first connections have got the bytes
  abbrev pub HasGone : Held → ℕ → Type 0
  HasGone h i = (h ≡ held_of quota (queued_each quota w bytes (take i conns))) × HaveRoom quota w bytes (take i conns)

  pub gone-next : (h next : Held) (i c : ℕ) → take (i + 1) conns ≡ take i conns ++ c ∷ [] → HasGone h i → HasRoom h c (length bytes)
      → next ≡ record h { waiting = queued h.quota h.waiting c bytes } → HasGone next (i + 1)
  gone-next h next i c more was room is =
      let here = subst (λ (x : Held). HasRoom x c (length bytes)) was.0 room in
      subst (λ (cs : List ℕ). (next ≡ held_of quota (queued_each quota w bytes cs)) × HaveRoom quota w bytes cs) (sym more) (
        is ∙ ap (λ (x : Held). record x { waiting = queued x.quota x.waiting c bytes }) was.0 ∙ ap (held_of quota) (sym (each-push quota w bytes (take i conns) c)),
        room-push quota w bytes (take i conns) c was.1 here,
      )

  -- where one has no room, they have none together
  pub gone-full : (h : Held) (i c : ℕ) (back : List ℕ) → conns ≡ take i conns ++ c ∷ back → HasGone h i → (HasRoom h c (length bytes) → ⊥)
      → HaveRoom quota w bytes conns → ⊥
  gone-full h i c back is was none all =
      none (subst (λ (x : Held). HasRoom x c (length bytes)) (sym was.0) (room-at quota w bytes (take i conns) c back (subst (HaveRoom quota w bytes) is all)))

  -- and back by one
  pub back-room : (h : Held) (i c : ℕ) → take (i + 1) conns ≡ take i conns ++ c ∷ [] → HasGone h (i + 1) → length bytes ≤ length (queue_of h.waiting.queues c)
  back-room h i c more was =
      let v = queued_each quota w bytes (take i conns) in
      let room = room-at quota w bytes (take i conns) c [] (subst (HaveRoom quota w bytes) more was.1) in
      let is = ap (λ (x : Held). length (queue_of x.waiting.queues c)) was.0
      ∙ ap (λ (cs : List ℕ). length (queue_of (queued_each quota w bytes cs).queues c)) more
      ∙ ap (λ (x : Waiting). length (queue_of x.queues c)) (each-push quota w bytes (take i conns) c ∙ queued-room quota v c bytes room)
      ∙ back-len v c bytes in
      omega arith

  pub back-next : (h next : Held) (i c : ℕ) → take (i + 1) conns ≡ take i conns ++ c ∷ [] → HasGone h (i + 1)
      → next ≡ record h {
        waiting = record h.waiting {
          queues = with_queue h.waiting.queues c (take (length (queue_of h.waiting.queues c) - length bytes) (queue_of h.waiting.queues c));
        };
      } → HasGone next i
  back-next h next i c more was is =
      let v = queued_each quota w bytes (take i conns) in
      let room = room-at quota w bytes (take i conns) c [] (subst (HaveRoom quota w bytes) more was.1) in
      let now : h ≡ held_of quota (longer v c bytes) =
      was.0 ∙ ap (λ (cs : List ℕ). held_of quota (queued_each quota w bytes cs)) more
      ∙ ap (held_of quota) (each-push quota w bytes (take i conns) c ∙ queued-room quota v c bytes room) in (
        is
            ∙ ap (λ (x : Held). record x {
              waiting = record x.waiting {
                queues = with_queue x.waiting.queues c (take (length (queue_of x.waiting.queues c) - length bytes) (queue_of x.waiting.queues c));
              };
            }) now
            ∙ ap (λ (m : FinMap nat_cmp (List ℕ)). held_of quota (record { queues = m; due = v.due })) (back-is v c bytes room.queue),
        room-front quota w bytes (take i conns) (c ∷ []) (subst (HaveRoom quota w bytes) more was.1),
      )

  -- as a function's caller has it
  pub gone-went : (h : Held) (i : ℕ) → HasGone h i → WentToEach h.quota w h.waiting bytes (take i conns)
  gone-went h i was = subst (λ (x : Held). WentToEach x.quota w x.waiting bytes (take i conns)) (sym was.0) (record { after_is = refl; had_room = was.1 })

  pub gone-back : (h after : Held) (i : ℕ) → HasGone h i → after ≡ record h { waiting = w } → after ≡ held_of quota w
  gone-back h after i was is = is ∙ ap (λ (x : Held). record x { waiting = w }) was.0

  pub gone-all : (h : Held) (i : ℕ) → take i conns ≡ conns → HasGone h i → HaveRoom quota w bytes conns × (h ≡ held_of quota (queued_each quota w bytes conns))
  gone-all h i all was = (subst (HaveRoom quota w bytes) all was.1, was.0 ∙ ap (λ (cs : List ℕ). held_of quota (queued_each quota w bytes cs)) all)

  pub gone-due : (h : Held) (i : ℕ) → HasGone h i → h.waiting.due ≡ w.due
  gone-due h i was = ap (λ (x : Held). x.waiting.due) was.0 ∙ due-same quota w bytes (take i conns) was.1

  pub back-start : (h : Held) (n : ℕ) → n ≡ length conns → h ≡ held_of quota (queued_each quota w bytes conns) → HaveRoom quota w bytes conns → HasGone h n
  back-start h n is same room =
      let all : take n conns ≡ conns = ap (λ (k : ℕ). take k conns) is ∙ take-length conns in
      (same ∙ ap (λ (cs : List ℕ). held_of quota (queued_each quota w bytes cs)) (sym all), subst (HaveRoom quota w bytes) (sym all) room)

  pub back-end : (h : Held) (n : ℕ) → n ≡ 0 → HasGone h n → h ≡ held_of quota w
  back-end h n is was = was.0 ∙ ap (λ (k : ℕ). held_of quota (queued_each quota w bytes (take k conns))) is
