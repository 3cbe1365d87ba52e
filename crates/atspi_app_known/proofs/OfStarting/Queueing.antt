-- What is queued at an application that knows some things.
use Rattle.std.proofs.Common.{◌≡◌, ℕ, ◌+◌, map, refl, sym, ap, ◌∙◌, append_assoc, arith}
use Rattle.std.specs.Prelude.{List, [], ◌∷◌, ◌++◌, nat_lt, Option}
use Rattle.std.proofs.lemmas.Bool.{le-ltb}
use Rattle.atspi_message.specs.Envelope.{Envelope}
use Rattle.atspi_protocol.specs.exporting.Exporter.{StartCall, awaits, Happening, sends, hears, deaf, sent_in, numbered, Phase, Exporter, queues}
use Rattle.atspi_protocol.proofs.OfExporting.Queued.{numbered-append}
use Rattle.atspi_app_known.specs.happenings.View.{next_of, out_of}
use Rattle.atspi_app_known.proofs.OfHappenings.Waiting.{sent-append}
use Rattle.atspi_app_known.specs.declared.starting.known.Known.{Known}
use Rattle.atspi_app_known.specs.starting.KnownView.{known_in, phase_of}

-- the same but for what is queued and awaited
pub queued : (k l : Known) (hs : List Happening) (p : Phase) → l.name ≡ k.name → l.heard ≡ k.heard → phase_of l.waiting ≡ p
    → next_of l.queue ≡ next_of k.queue + sent_in hs → out_of l.queue ≡ out_of k.queue ++ numbered (next_of k.queue) hs
    → (s : Exporter) → known_in l s ≡ record (queues (known_in k s) hs) { phase = p }
queued k l hs p name heard phase next out s =
    λ i. record s { name = name i; heard = heard i; phase = phase i; next = next i; out = out i }

-- changes of patterns are no messages
all_deaf : (ps : List (List ℕ × List ℕ)) → sent_in (map (λ (p : List ℕ × List ℕ). deaf p.0 p.1) ps) ≡ 0
all_deaf [] = refl
all_deaf (p ∷ ps) = all_deaf ps

all_hears : (ps : List (List ℕ × List ℕ)) → sent_in (map (λ (p : List ℕ × List ℕ). hears p.0 p.1) ps) ≡ 0
all_hears [] = refl
all_hears (p ∷ ps) = all_hears ps

pub quiet : (xs ys : List (List ℕ × List ℕ)) → sent_in (map (λ (p : List ℕ × List ℕ). deaf p.0 p.1) xs ++ map (λ (p : List ℕ × List ℕ). hears p.0 p.1) ys) ≡ 0
quiet xs ys = let a = sent-append (map (λ (p : List ℕ × List ℕ). deaf p.0 p.1) xs) (map (λ (p : List ℕ × List ℕ). hears p.0 p.1) ys) in let b = all_deaf xs in let c = all_hears ys in omega arith

-- what is told, and a call behind it, queued at once or one after the other
pub both : (k : Exporter) (told : List Happening) (m : Envelope) (call : StartCall) → sent_in told ≡ 0
    → record (queues k (told ++ sends m ∷ [])) { phase = awaits call k.next } ≡ record (queues (queues k told) (sends m ∷ [])) { phase = awaits call (k.next + sent_in told) }
both k told m call none =
    let n : k.next ≡ k.next + sent_in told = omega arith in
    let a = sent-append told (sends m ∷ []) in
    let next : k.next + sent_in (told ++ sends m ∷ []) ≡ (k.next + sent_in told) + sent_in (sends m ∷ []) = omega arith in
    let out : k.out ++ numbered k.next (told ++ sends m ∷ []) ≡ (k.out ++ numbered k.next told) ++ numbered (k.next + sent_in told) (sends m ∷ []) =
    ap (λ hs. k.out ++ hs) (numbered-append k.next (k.next + sent_in told) told (sends m ∷ []) refl) ∙ sym (append_assoc k.out (numbered k.next told) (numbered (k.next + sent_in told) (sends m ∷ []))) in
    λ i. record k { phase = awaits call (n i); next = next i; out = out i }
