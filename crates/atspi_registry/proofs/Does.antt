-- A step that was done, or was not, by the parts of the registry before and after it.
use Rattle.std.proofs.Common.{◌≡◌, ℕ, ◌+◌, ◌<◌, ◌≤◌, List, [], ◌∷◌, ◌++◌, length, Option, Some, None, refl, sym, ap, ◌∙◌, subst, arith}
use Rattle.std.proofs.lemmas.List.{append-nil}
use Rattle.std.specs.Prelude.{Result, Ok, Err}
use Rattle.atspi_message.specs.Envelope.{Envelope}
use Rattle.atspi_protocol.specs.declared.ends.fault.EndFault.{EndFault}
use Rattle.atspi_protocol.specs.declared.ends.fault.EndFault.TheVariants.{Spent}
use Rattle.atspi_protocol.specs.ends.Messages.{Queue, posted, replies}
use Rattle.atspi_protocol.specs.registering.RegistryState.{RegistryState}
use Rattle.atspi_protocol.specs.registering.Answers.{Answer}
use Rattle.atspi_protocol.specs.registering.Steps.{Registry, RegistryStep, queued, speaks, answered}
use Rattle.atspi_registry.specs.inner.Steps.{Does}

abbrev Pairs : Type 0
Pairs = List (List ℕ × List ℕ)

-- the parts as a state, and with the queue as a registry
abbrev pub state_of : Pairs → Pairs → ℕ → Option ℕ → Option (List ℕ) → ℕ → RegistryState
state_of pairs children embeds hello own next = record { pairs = pairs; children = children; embeds = embeds; hello = hello; own = own; next = next }

abbrev pub view : Pairs → Pairs → ℕ → Option ℕ → Option (List ℕ) → Queue → Registry
view pairs children embeds hello own q = record { state = state_of pairs children embeds hello own q.next; out = q.out }

abbrev queue : ℕ → List Envelope → Queue
queue next out = record { next = next; out = out }

pub posted_nil : (q : Queue) → q ≡ posted q []
posted_nil q =
    let next : q.next ≡ q.next + 0 = omega arith in
    let out : q.out ≡ q.out ++ [] = sym (append-nil q.out) in
    ap (λ (n : ℕ). queue n q.out) next ∙ ap (queue (q.next + 0)) out

no_err : {T : Type 0} (r : Result T EndFault) (x : T) (fault : EndFault) → r ≡ Ok x → r ≡ Err fault → ⊥
no_err r x fault e h = cc

done : {T : Type 0} (old new : Registry) (step : RegistryStep) (x : T) → new ≡ queued old step → step.state.next ≤ 4294967296 → Does {T = T} (Ok x) old new step
done old new step x e l = record { done = e; room = l; spent = λ h. absurd (no_err (Ok x) x Spent refl h); kept = tt }

-- a step from a registry that is known by its parts
pub from_parts : {T : Type 0} (r : Result T EndFault) (old old' new : Registry) (f : Registry → RegistryStep) → old ≡ old' → Does r old new (f old) → Does r old' new (f old')
from_parts r old old' new f e d = subst (λ (o : Registry). Does r o new (f o)) e d

-- what a step tells is queued, and these are the parts after it
module _ (pairs children pairs' children' : Pairs) (embeds embeds' : ℕ) (hello hello' : Option ℕ) (own own' : Option (List ℕ)) (q q' : Queue) (mail es : List Envelope) where
  pub posts : q' ≡ posted q mail → mail ≡ es
      → view pairs' children' embeds' hello' own' q' ≡ queued (view pairs children embeds hello own q) (speaks (state_of pairs' children' embeds' hello' own' q.next) es)
  posts e f = ap (view pairs' children' embeds' hello' own') (e ∙ ap (posted q) f)

  pub spoke : {T : Type 0} (x : T) → q' ≡ posted q mail → q.next + length mail ≤ 4294967296 → mail ≡ es
      → Does {T = T} (Ok x) (view pairs children embeds hello own q) (view pairs' children' embeds' hello' own' q') (speaks (state_of pairs' children' embeds' hello' own' q.next) es)
  spoke x e l f = done _ _ _ x (posts e f) (subst (λ (ms : List Envelope). q.next + length ms ≤ 4294967296) f l)

-- nothing is told
pub quiet : {T : Type 0} (x : T) (r : Registry) → r.state.next ≤ 4294967296 → Does {T = T} (Ok x) r r (speaks r.state [])
quiet x r l =
    let q : Queue = record { next = r.state.next; out = r.out } in
    let room : q.next + length {A = Envelope} [] ≤ 4294967296 = omega arith in
    spoke r.state.pairs r.state.children r.state.pairs r.state.children r.state.embeds r.state.embeds r.state.hello r.state.hello r.state.own r.state.own q q [] [] x (posted_nil q) room refl

pub quiet_named : {T : Type 0} (x : T) (pairs children : Pairs) (embeds : ℕ) (hello : Option ℕ) (own own' : Option (List ℕ)) (q : Queue) → q.next ≤ 4294967296
    → Does {T = T} (Ok x) (view pairs children embeds hello own q) (view pairs children embeds hello own' q) (speaks (state_of pairs children embeds hello own' q.next) [])
quiet_named x pairs children embeds hello own own' q l =
    let room : q.next + length {A = Envelope} [] ≤ 4294967296 = omega arith in
    spoke pairs children pairs children embeds embeds hello hello own own' q q [] [] x (posted_nil q) room refl

-- one step told as another
pub same_step : {T : Type 0} (r : Result T EndFault) (old new : Registry) (s t : RegistryStep) → s ≡ t → Does r old new s → Does r old new t
same_step r old new s t is d = subst (Does r old new) is d
