-- What the bus handed out for a connection, piece behind piece, and what was given of it.
use Rattle.std.proofs.Common.{◌≡◌, ℕ, ◌≤◌, List, [], ◌∷◌, ◌++◌, length, take, drop, Option, refl, sym, ap, subst, ◌∙◌, append_assoc, append-nil}
use Rattle.std.proofs.lemmas.List.{take-append-drop, take-append-le}
use Rattle.atspi_message.specs.Envelope.{Envelope}
use Rattle.atspi_auth.specs.declared.stage.Stage.TheVariants.{Over}
use Rattle.atspi_match.specs.routing.Queues.{queue_of}
use Rattle.atspi_match.specs.routing.Queues as queues
use Rattle.atspi_bus_queues.specs.Change.{with_queue}
use Rattle.atspi_live_host.specs.declared.call.Call.{Call}
use Rattle.atspi_live_bus.specs.Asked.{Asked, popping, handed_to}
use Rattle.atspi_live_bus.specs.Course.{AreHandings}
use Rattle.atspi_live_bus.specs.Turns.{Converses}
use Rattle.atspi_live_bus.specs.inner.Turns.{Carries, Fetches, Gives}
use Rattle.atspi_live_bus.specs.declared.link.Link.{Link}
use Rattle.atspi_live_bus.proofs.Asking.{both_of_one, handed_both, handed_one, messages_same, one_run, popping_of_one, runs_both}
use Rattle.atspi_live_bus.proofs.Calling.{carries_from}
use Rattle.atspi_live_bus.proofs.Conversing.{handed_more}

hands_both : (c : ℕ) (asks more : List Asked) → AreHandings c asks → AreHandings c more → AreHandings c (asks ++ more)
hands_both c [] more p q = q
hands_both c (a ∷ asks) more p q = (p.0, hands_both c asks more p.1 q)

pub fetches_none : (c : ℕ) (b : queues.Bus) (l : Link) → Fetches c b b l l
fetches_none c b l = record {
  asked = [];
  run = refl;
  only = λ d n. (refl, refl);
  none_taken = refl;
  are = tt;
  talks = λ m h t g v. subst (λ (w : List ℕ). Converses m w l t g) (sym (append-nil h)) v;
}

-- the lines came first
pub fetches_behind : (c : ℕ) (b b' : queues.Bus) (old mid new : Link) → ((m : List Envelope) (h t g : List ℕ) → Converses m h old t g → Converses m h mid t g) → Fetches c b b' mid new → Fetches c b b' old new
fetches_behind c b b' old mid new lines f = record { asked = f.asked; run = f.run; only = f.only; none_taken = f.none_taken; are = f.are; talks = λ m h t g v. f.talks m h t g (lines m h t g v) }

-- the first bytes of a front are those of the queue
pub front_of : (q front rest : List ℕ) (n : ℕ) → q ≡ front ++ rest → n ≤ length front → take n front ≡ take n q
front_of q front rest n e h = sym (ap (λ (w : List ℕ). take n w) e ∙ take-append-le n front rest h)

-- the first bytes of what waits for a connection, and what is left
abbrev pub left_of : queues.Bus → ℕ → ℕ → queues.Bus
left_of b c n = record b { waiting = record b.waiting { queues = with_queue b.waiting.queues c (drop n (queue_of b.waiting.queues c)) } }

pub fetches_more : (c n : ℕ) (bytes : List ℕ) (b mid b' : queues.Bus) (old l l' : Link) → Fetches c b mid old l → l.server.stage ≡ Over → l.server.unsent ≡ [] → bytes ≡ take n (queue_of mid.waiting.queues c) → b' ≡ left_of mid c n
    → l'.server ≡ l.server → l'.feeder ≡ l.feeder → l'.out.items ≡ l.out.items ++ bytes → Fetches c b b' old l'
fetches_more c n bytes b mid b' old l l' f over none first left server feeder out = record {
  asked = f.asked ++ popping c bytes ∷ [];
  run = runs_both b mid b' f.asked (popping c bytes ∷ []) f.run (one_run mid b' (popping c bytes) (drop n (queue_of mid.waiting.queues c), sym (take-append-drop n (queue_of mid.waiting.queues c)) ∙ ap (λ (w : List ℕ). w ++ drop n (queue_of mid.waiting.queues c)) (sym first), left));
  only = both_of_one c f.asked (popping c bytes ∷ []) f.only (popping_of_one c bytes);
  none_taken = messages_same c f.asked (popping c bytes ∷ []) refl ∙ f.none_taken;
  are = hands_both c f.asked (popping c bytes ∷ []) f.are (refl, tt);
  talks = λ m h t g v. subst (λ (w : List ℕ). Converses m w l' t g) (all h) (handed_more m (h ++ handed_to c f.asked) bytes l l' t g over none server feeder out (f.talks m h t g v));
}
  where
    all : (h : List ℕ) → (h ++ handed_to c f.asked) ++ bytes ≡ h ++ handed_to c (f.asked ++ popping c bytes ∷ [])
    all h =
        append_assoc h (handed_to c f.asked) bytes
        ∙ ap (λ (w : List ℕ). h ++ w) (sym (handed_both c f.asked (popping c bytes ∷ []) ∙ ap (λ (w : List ℕ). handed_to c f.asked ++ w) (handed_one c bytes)))

-- and some of it was given
pub gives_of : (c k : ℕ) (calls calls' : Option (List Call)) (b b' : queues.Bus) (old mid new : Link) → Fetches c b b' old mid → ((m : List Envelope) (h : List ℕ) → Carries k calls calls' (Converses m h mid) (Converses m h new)) → Gives c k calls calls' b b' old new
gives_of c k calls calls' b b' old mid new f w = record {
  asked = f.asked;
  run = f.run;
  only = f.only;
  none_taken = f.none_taken;
  are = f.are;
  talks = λ m h. carries_from k calls calls' (Converses m h old) (Converses m (h ++ handed_to c f.asked) mid) (Converses m (h ++ handed_to c f.asked) new) (λ t g v. f.talks m h t g v) (w m (h ++ handed_to c f.asked));
}
