-- What the registry queued, told one message after another.
use Rattle.std.proofs.Common.{◌≡◌, ◌+◌, List, [], ◌∷◌, ◌++◌, length, map, set, get_or, sym, ap, ◌∙◌, subst, append-nil, append_assoc, arith}
use Rattle.std.specs.Prelude.{Result, Ok, Err, OnOk}
use Rattle.std.specs.List.{AllByRecursion}
use Rattle.std.proofs.lemmas.List.{map-append}
use Rattle.atspi_message.specs.Envelope.{Envelope, envelope_of}
use Rattle.atspi_message.specs.Bytes.{IsMessage, written}
use Rattle.atspi_message.specs.declared.message.Message.{Message}
use Rattle.atspi_script_lines.specs.declared.line.Party.TheVariants as party
use Rattle.atspi_protocol.specs.registering.Steps.{Registry}
use Rattle.atspi_trace_events.specs.declared.event.Event.{Event}
use Rattle.atspi_trace_events.specs.declared.event.Event.TheVariants.{Sent}
use Rattle.atspi_world_links.specs.declared.post.Post.{Post}
use Rattle.atspi_trace.specs.Entry.{entry_of, entries_of, sent}
use Rattle.atspi_world_parties.specs.Doing.{sent_on, all_sent, IsRegistryTold, TellsFirst}

-- what the registry queued is told
pub registry_none : (r t : Registry) (p : Post) (trace : List Event) → r.out ≡ [] → t ≡ r → IsRegistryTold r t p p trace trace
registry_none r t p trace none same = record {
  registry = same ∙ ap (λ o. record r { out = o }) none;
  post = ap (λ o. all_sent o p) (sym none);
  wrote = sym (append-nil (entries_of trace)) ∙ ap (λ o. entries_of trace ++ map (sent party.Registry) o) (sym none);
  written_ = subst (AllByRecursion (λ e. IsMessage e (written e))) (sym none) tt;
}

pub registry_more : (r t after : Registry) (m : Envelope) (p p' q : Post) (old mid new : List Event) → r.out ≡ m ∷ t.out → t.state ≡ r.state → p' ≡ sent_on m p
    → entries_of mid ≡ entries_of old ++ sent party.Registry m ∷ [] → IsMessage m (written m) → IsRegistryTold t after p' q mid new → IsRegistryTold r after p q old new
registry_more r t after m p p' q old mid new front state put wrote can told = record {
  registry = told.registry ∙ ap (λ s. record { state = s; out = [] }) state;
  post = told.post ∙ ap (all_sent t.out) put ∙ ap (λ o. all_sent o p) (sym front);
  wrote = told.wrote ∙ ap (λ l. l ++ map (sent party.Registry) t.out) wrote ∙ append_assoc (entries_of old) (sent party.Registry m ∷ []) (map (sent party.Registry) t.out)
      ∙ ap (λ o. entries_of old ++ map (sent party.Registry) o) (sym front);
  written_ = subst (AllByRecursion (λ e. IsMessage e (written e))) (sym front) (can, told.written_);
}

pub sent_told : (old new : List Event) (m : Message) → new ≡ old ++ Sent party.Registry m ∷ [] → entries_of new ≡ entries_of old ++ sent party.Registry (envelope_of m) ∷ []
sent_told old new m told = ap entries_of told ∙ map-append entry_of old (Sent party.Registry m ∷ [])

pub tells_none : (r : Registry) (posts : List Post) (t : List Event) → length posts ≡ 0 → TellsFirst r r posts posts t t
tells_none r [] t none = λ p rest is. let clash : [] ≡ p ∷ rest = is in absurd cc
tells_none r (x ∷ xs) t none = absurd (omega (arith, none))

pub tells_first : {T F : Type 0} (r : Result T F) (before after : Registry) (posts : List Post) (p q : Post) (old new : List Event) → p ≡ get_or posts 0 p → OnOk r (IsRegistryTold before after p q old new)
    → OnOk r (TellsFirst before after posts (set posts 0 q) old new)
tells_first (Ok x) before after [] p q old new there told = λ y rest is. let clash : [] ≡ y ∷ rest = is in absurd cc
tells_first (Ok x) before after (z ∷ zs) p q old new there told = λ y rest is.
    let first : z ≡ y = cc in
    let behind : zs ≡ rest = cc in
    record { post = q; posts_are = ap (λ l. q ∷ l) behind; told = subst (λ v. IsRegistryTold before after v q old new) (there ∙ first) told }
tells_first (Err e) before after posts p q old new there told = tt
