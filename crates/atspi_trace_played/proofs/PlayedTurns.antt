-- Where turns are played, one behind the other: a line of so many turns plays them, and they are few.
use Rattle.std.proofs.Common.{◌≡◌, ◌⊎◌, inl, inr, ℕ, zero, suc, ◌+◌, ◌<◌, ◌≤◌, false, List, [], ◌∷◌, ◌++◌, length, Option, None, Some, refl, sym, ap, ◌∙◌, subst, arith}
use Rattle.std.specs.Prelude.{slice_get}
use Rattle.std.specs.List.{AllByRecursion, fold}
use Rattle.std.proofs.lemmas.List.{append-nil, append_assoc}
use Rattle.atspi_script_lines.specs.declared.line.Line.{Line}
use Rattle.atspi_script_lines.specs.declared.line.Line.TheVariants.{Turns}
use Rattle.atspi_script_lines.specs.declared.line.Party.{Party}
use Rattle.atspi_script_lines.specs.declared.line.Party.TheVariants.{Bus as The_bus, Registry, App, Reader}
use Rattle.atspi_message.specs.Envelope.{Envelope}
use Rattle.atspi_protocol.specs.declared.following.question.Question.{Question}
use Rattle.atspi_protocol.specs.following.ReaderState as following
use Rattle.atspi_protocol.specs.following.ReaderState.{ReaderState, sends, speaks, tells_end}
use Rattle.atspi_protocol.specs.following.Takes.{reader_takes}
use Rattle.atspi_trace.specs.Entry.{Entry, sent, busy}
use Rattle.atspi_trace.specs.World.{Letter, End, World}
use Rattle.atspi_trace.specs.Ends.{app_count, reader_count}
use Rattle.atspi_trace.specs.Hearing.{question_in}
use Rattle.atspi_trace.specs.Causes.{Cause, routes, unjoins, gets, tells_busy, Done, does, at_end}
use Rattle.atspi_trace.specs.Work.{turning, resting, next_turn, next_of_turns}
use Rattle.atspi_trace.specs.Due.{is_lost, asks_at}
use Rattle.atspi_trace_laws.specs.order.Scripts.{CanStand, CanAllStand}
use Rattle.atspi_trace_laws.proofs.OfOrder.Growing.{Shaped, Nothing, And}
use Rattle.atspi_trace_laws.proofs.OfNames.Bounds.{Bounded, bounds_keep}
use Rattle.atspi_trace.specs.play.Playing.{Playing, Happened}
use Rattle.atspi_trace.specs.play.Plays.{asked_with, asked, only, reader_got, got_at, got_by, plays}
use Rattle.atspi_trace.specs.play.Played.{PlaysOut, at_rest, caused, IsPlayed, did}
use Rattle.atspi_trace_played.proofs.AllPieces.{pieces}
use Rattle.atspi_trace_played.proofs.Playing.{played_stage, is_lawful}
use Rattle.atspi_trace_played.proofs.PlayingStage.{ground}
use Rattle.atspi_trace.specs.play.Breaking.{PlayedTurns}
use Rattle.atspi_trace_played.specs.Turns.{count_taken, IsUnspent}
use Rattle.atspi_trace_played.proofs.LawFew.{turns_are_few}
use Rattle.atspi_trace_played.proofs.TurnsTaken.{TurnOf, bus_takes_, end_leaves, end_takes, turn_of, is_stopped, stopped_count, at_most, over_fewer, all_fewer, Takes, got_does, turn_does, asked_fewer, count_more}

-- A READER'S OWN CALLS stop nobody
up_to : (a b c : ℕ) → a ≤ b → b ≤ c → a ≤ c
up_to a b c p q = omega (arith, p, q)

with_fewer : (conn : ℕ) (w : World) (m : Envelope) (o : Option Question) → stopped_count (asked_with conn w m o).ends ≤ stopped_count w.ends
with_fewer conn w m None = at_most (stopped_count w.ends)
with_fewer conn w m (Some question) = asked_fewer w (at_end w conn (asks_at m question)) (sent (Reader 0) m ∷ []) (inr (conn, 0, m, question, refl, refl))

done_fewer : (conn : ℕ) (w : World) (d : following.Done) → stopped_count (asked conn w d).ends ≤ stopped_count w.ends
done_fewer conn w (sends m) = with_fewer conn w m (question_in m)
done_fewer conn w (speaks name line) = at_most (stopped_count w.ends)
done_fewer conn w (tells_end name) = at_most (stopped_count w.ends)

out_fewer : (conn : ℕ) (w : World) (out : List following.Done) → stopped_count (fold (asked conn) w out).ends ≤ stopped_count w.ends
out_fewer conn w [] = at_most (stopped_count w.ends)
out_fewer conn w (d ∷ out) =
    up_to (stopped_count (fold (asked conn) (asked conn w d) out).ends) (stopped_count (asked conn w d).ends) (stopped_count w.ends) (out_fewer conn (asked conn w d) out) (done_fewer conn w d)

-- EACH TURN THAT IS PLAYED takes a message, or the end of an end that stopped
abbrev Lessens : World → Happened → Type 0
Lessens w x = suc (stopped_count x.now.world.ends) ≤ count_taken x.entries + stopped_count w.ends

taking : (a b m : ℕ) → 1 ≤ m → b ≤ a → suc b ≤ m + a
taking a b m p q = omega (arith, p, q)

leaving : (a b m : ℕ) → suc b ≤ a → suc b ≤ m + a
leaving a b m p = omega (arith, p)

module _ (p : Playing) where
  took : (d : Done) → Takes p.world d → Lessens p.world (only p d)
  took d t = taking (stopped_count p.world.ends) (stopped_count d.world.ends) (count_taken d.entries) t.0 (over_fewer p.world.ends d.world.ends t.1)

  only_lessens : (d : Done) → Takes p.world d ⊎ (suc (stopped_count d.world.ends) ≤ stopped_count p.world.ends) → Lessens p.world (only p d)
  only_lessens d (inl t) = took d t
  only_lessens d (inr h) = leaving (stopped_count p.world.ends) (stopped_count d.world.ends) (count_taken d.entries) h

  module _ (conn : ℕ) (letter : Letter) (rest : List Letter) (t : Takes p.world (does p.world (gets conn))) where
    reader_lessens : (r : ℕ) (o : Option ReaderState) → Lessens p.world (reader_got p conn r letter o)
    reader_lessens r None = took (does p.world (gets conn)) t
    reader_lessens r (Some s) =
        let v : World = (does p.world (gets conn)).world in
        let out : List following.Done = (reader_takes s letter.said.message).out in
        taking (stopped_count p.world.ends) (stopped_count (fold (asked conn) v out).ends) (count_taken (reader_got p conn r letter (Some s)).entries) (omega arith)
        (up_to (stopped_count (fold (asked conn) v out).ends) (stopped_count v.ends) (stopped_count p.world.ends) (out_fewer conn v out) (over_fewer p.world.ends v.ends t.1))

    who_lessens : (who : Party) → Lessens p.world (got_at p conn who (letter ∷ rest))
    who_lessens (Reader r) = reader_lessens r (slice_get p.readers r)
    who_lessens The_bus = took (does p.world (gets conn)) t
    who_lessens Registry = took (does p.world (gets conn)) t
    who_lessens (App a) = took (does p.world (gets conn)) t

  turn_lessens : (c : Cause) → TurnOf p.world c → Lessens p.world (plays p c)
  turn_lessens c (bus_takes_ conn e said rest is there link) =
      subst (λ x. Lessens p.world (plays p x)) (sym is) (only_lessens (does p.world (routes conn)) (turn_does p.world (routes conn) (bus_takes_ conn e said rest refl there link)))
  turn_lessens c (end_leaves conn e is there stands) =
      subst (λ x. Lessens p.world (plays p x)) (sym is) (only_lessens (does p.world (unjoins conn)) (turn_does p.world (unjoins conn) (end_leaves conn e refl there stands)))
  turn_lessens c (end_takes conn e letter rest is there link) =
      subst (λ x. Lessens p.world (plays p x)) (sym is)
      (subst (Lessens p.world) (sym (ap (got_by p conn) there ∙ ap (got_at p conn e.who) link)) (who_lessens conn letter rest (got_does p.world conn e letter rest there link) e.who))

turns_few : (n : ℕ) (p : Playing) (es : List Entry) (q : Playing) → PlayedTurns n p es q → n ≤ count_taken es + stopped_count p.world.ends
turns_few zero p es q t = omega arith
turns_few (suc n) p es q t =
    let x : Happened = plays p t.0 in
    subst (λ l. suc n ≤ count_taken l + stopped_count p.world.ends) (sym t.3)
    (up n (stopped_count x.now.world.ends) (stopped_count p.world.ends) (count_taken x.entries) (count_taken t.1) (count_taken (x.entries ++ t.1)) (count_more x.entries t.1)
    (turn_lessens p t.0 (turn_of p.world t.0 t.2)) (turns_few n x.now t.1 q t.4))
  where
    up : (k b a f r s : ℕ) → s ≡ f + r → suc b ≤ f + a → k ≤ r + b → suc k ≤ s + a
    up k b a f r s p q t = omega (arith, p, q, t)

-- A LINE OF SO MANY TURNS plays them; behind them it tells at most that something waits still
record Plays_so (count n : ℕ) (p : Playing) (es : List Entry) (q : Playing) : Type 0 where
  pub tail : List Entry
  pub out : PlaysOut p (turning count n) (es ++ tail) q
  pub unspent : AllByRecursion IsUnspent tail

plays_so : (count n : ℕ) (p : Playing) (es : List Entry) (q : Playing) → PlayedTurns n p es q → Plays_so count n p es q
plays_so count zero p es q t = subst (λ l. Plays_so count zero p l q) (sym t.0) (subst (Plays_so count zero p []) (sym t.1) (by (next_turn p.world) refl))
  where
    by : (o : Option Cause) → next_turn p.world ≡ o → Plays_so count zero p [] p
    by None none = record { tail = []; out = at_rest p p.world (turning count zero) (ap (next_of_turns p.world count zero) none); unspent = tt }
    by (Some c) some = record {
      tail = busy count ∷ [];
      out = caused p p p.world (turning count zero) resting (tells_busy count) [] (ap (next_of_turns p.world count zero) some) (at_rest p p.world resting refl);
      unspent = (tt, tt);
    }
plays_so count (suc n) p es q t =
    let x : Happened = plays p t.0 in
    let s = plays_so count n x.now t.1 q t.4 in
    subst (λ l. Plays_so count (suc n) p l q) (sym t.3) (record {
      tail = s.tail;
      out = subst (λ l. PlaysOut p (turning count (suc n)) l q) (sym (append_assoc x.entries t.1 s.tail))
          (caused p q p.world (turning count (suc n)) (turning count n) t.0 (t.1 ++ s.tail) (ap (next_of_turns p.world count (suc n)) t.2) s.out);
      unspent = s.unspent;
    })

-- ALL OF THEM
unspent_both : (xs ys : List Entry) → AllByRecursion IsUnspent xs → AllByRecursion IsUnspent ys → AllByRecursion IsUnspent (xs ++ ys)
unspent_both [] ys a b = b
unspent_both (x ∷ xs) ys a b = (a.0, unspent_both xs ys a.1 b)

one_more : (lines : List Line) (line : Line) → CanAllStand lines → CanStand line → CanAllStand (lines ++ line ∷ [])
one_more [] line a h = (h, tt)
one_more (x ∷ xs) line a h = (a.0, one_more xs line a.1 h)

pub drains_end : (lines : List Line) (trace : List Entry) (p : Playing) → CanAllStand lines → IsPlayed lines trace p → (n : ℕ) (es : List Entry) (q : Playing) → PlayedTurns n p es q
    → is_lost q.world ≡ false → AllByRecursion IsUnspent (trace ++ es) → n < 4398046511104
drains_end lines trace p can h n es q t lives u =
    let s = plays_so n n p es q t in
    let script : List Line = lines ++ Turns n ∷ [] in
    let can_all : CanAllStand script = one_more lines (Turns n) can tt in
    let lawful = is_lawful pieces script (trace ++ (es ++ s.tail)) q can_all (did lines (Turns n) trace (es ++ s.tail) p q h refl s.out lives) in
    let unspent : AllByRecursion IsUnspent (trace ++ (es ++ s.tail)) = subst (AllByRecursion IsUnspent) (append_assoc trace es s.tail) (unspent_both (trace ++ es) s.tail u s.unspent) in
    let st = played_stage pieces lines trace p h [] (subst CanAllStand (sym (append-nil lines)) can) in
    let f = ((ground (lines ++ []) trace p resting [] st).kept (Shaped (And Nothing Bounded)) bounds_keep).1.1 in
    below n (count_taken trace) (count_taken es) (count_taken s.tail) (count_taken (es ++ s.tail)) (count_taken (trace ++ (es ++ s.tail))) (stopped_count p.world.ends) (length p.world.ends) (app_count p.world.ends)
    (reader_count p.world.ends) (turns_few n p es q t) (all_fewer (λ (e : End). is_stopped e.standing) p.world.ends) f.0 f.1 f.2 (count_more es s.tail) (count_more trace (es ++ s.tail))
    (turns_are_few script (trace ++ (es ++ s.tail)) can_all lawful.goes unspent)
  where
    below : (n b c d cd all s l a r : ℕ) → n ≤ c + s → s ≤ l → a ≤ 16 → r ≤ 4 → l ≤ suc (a + r) → cd ≡ c + d → all ≡ b + cd → all ≤ 2078764171264 → n < 4398046511104
    below n b c d cd all s l a r h i j k m o p q = omega (arith, h, i, j, k, m, o, p, q)
