use Rattle.std.proofs.Common.{◌≡◌, inl, ℕ, ◌<◌, true, false, List, [], ◌∷◌, refl, sym, ap, ◌∙◌, subst, arith}
use Rattle.atspi_script_lines.specs.declared.line.Party.TheVariants.{App}
use Rattle.atspi_match.specs.routing.Queues.{Bus}
use Rattle.atspi_trace.specs.Entry.{Entry, exited}
use Rattle.atspi_trace.specs.World.{World}
use Rattle.atspi_trace.specs.Causes.{Cause, Done, does, exits}
use Rattle.atspi_trace.specs.Due.{is_lost}
use Rattle.atspi_trace.specs.Work.{Work, doing, resting, cause, rests, next_of}
use Rattle.atspi_world_moves.specs.Halted.{IsAtWork, WorksOn, so_far, caused}
use Rattle.atspi_world_moves.specs.inner.Halted.{HasNext}
use Rattle.atspi_examples.specs.Halting.{registry_left, two_ends}
use Rattle.atspi_examples.proofs.halts.lines.Goals as goal

-- the one cause of an exit is next
abbrev next_exit : (w : World) (conn : ℕ) → HasNext w (doing (exits conn))
next_exit w conn = record { moved = w; rest = resting; next = exits conn; is_next = refl }

abbrev at_exit : (b : Bus) (conn : ℕ) → IsAtWork (two_ends b) (doing (exits conn))
at_exit b conn = record {
  entries = [];
  now = two_ends b;
  last = doing (exits conn);
  done = so_far (two_ends b) (doing (exits conn));
  lives = refl;
  moved = two_ends b;
  rest = resting;
  next = exits conn;
  is_next = refl;
}

-- and no other is
same_next : (w v : World) (c d : Cause) (rest : Work) → cause c w resting ≡ cause d v rest → does v d ≡ does w c
same_next w v c d rest h =
    let one : d ≡ c = cc in
    let two : v ≡ w = cc in
    ap (λ x. does x d) two ∙ ap (does w) one

exit_is : (w : World) (conn : ℕ) (has : HasNext w (doing (exits conn))) → does has.moved has.next ≡ does w (exits conn)
exit_is w conn has = same_next w has.moved (exits conn) has.next has.rest has.is_next

-- nothing more is done of a line at rest, and an exit of another does not bring the registry back
stays : (w v : World) (work last : Work) (es : List Entry) → WorksOn w work es v last → work ≡ resting → v ≡ w
stays _ _ _ _ _ (so_far w work) at = refl
stays _ _ _ _ _ (caused w v u work left last c es is on) at = let clash : rests w ≡ cause c v left = sym (ap (next_of w) at) ∙ is in absurd cc

still_lost : (b : Bus) (w v : World) (work last : Work) (es : List Entry) → WorksOn w work es v last → w ≡ registry_left b → work ≡ doing (exits 1) → is_lost v ≡ true
still_lost b _ _ _ _ _ (so_far w work) left at = ap is_lost left
still_lost b _ _ _ _ _ (caused w v u work rest last c es is on) left at =
    let next : cause (exits 1) (registry_left b) resting ≡ cause c v rest = sym (ap (λ x. next_of x work) left ∙ ap (next_of (registry_left b)) at) ∙ is in
    let over : rest ≡ resting = cc in
    ap is_lost (stays (does v c).world u rest last es on over) ∙ ap (λ (d : Done). is_lost d.world) (same_next (registry_left b) v (exits 1) c rest next)

pub returns-clause-lost_next : goal.returns-clause-lost_next
returns-clause-lost_next c = λ b. record { has = next_exit (two_ends b) 0; lost = record { lost = refl; wrote = refl; names = refl } }

pub returns-clause-other_next : goal.returns-clause-other_next
returns-clause-other_next c = λ b h.
    let clash : true ≡ false = sym h.lost.lost ∙ ap (λ (d : Done). is_lost d.world) (exit_is (two_ends b) 1 h.has) in
    absurd cc

pub returns-clause-spent_next : goal.returns-clause-spent_next
returns-clause-spent_next c = λ b high. record { has = next_exit (two_ends b) 1; spent = (omega (arith, high), record { part = []; missing = exited (App 1) ∷ []; front = refl; wrote = refl }, inl refl) }

pub returns-clause-last_next : goal.returns-clause-last_next
returns-clause-last_next c = λ b low h.
    let past : 4294967296 < b.state.next = subst (λ (d : Done). 4294967296 < d.world.bus.state.next) (exit_is (two_ends b) 1 h.has) h.spent.0 in
    absurd (omega (arith, low, past))

pub returns-clause-none_next : goal.returns-clause-none_next
returns-clause-none_next c = λ b h. let clash : rests (two_ends b) ≡ cause h.next h.moved h.rest = h.is_next in absurd cc

pub returns-clause-lost_on : goal.returns-clause-lost_on
returns-clause-lost_on c = λ b. record { at = at_exit b 0; lost = refl; wrote = refl; names = refl }

pub returns-clause-spent_on : goal.returns-clause-spent_on
returns-clause-spent_on c = λ b high. record { at = at_exit b 1; spent = omega (arith, high); part = []; missing = exited (App 1) ∷ []; front = refl; wrote = refl; names = inl refl }

pub returns-clause-lost_before : goal.returns-clause-lost_before
returns-clause-lost_before c = λ b h.
    let clash : true ≡ false = sym (still_lost b (registry_left b) h.now (doing (exits 1)) h.last h.entries h.done refl refl) ∙ h.lives in
    absurd cc
