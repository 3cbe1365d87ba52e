-- Messages that are queued behind others get the next numbers.
use Rattle.std.proofs.Common.{◌≡◌, ℕ, ◌+◌, List, [], ◌∷◌, ◌++◌, map, length, refl, ap, ◌∙◌, arith}
use Rattle.std.proofs.lemmas.List.{length-append, map-append, length-map}
use Rattle.atspi_message.specs.declared.message.Message.{Message}
use Rattle.atspi_message.specs.Envelope.{Envelope, envelope_of}
use Rattle.atspi_protocol.specs.ends.Messages.{Queue, numbered, posted}

numbered-append : (n : ℕ) (xs ys : List Envelope) → numbered n (xs ++ ys) ≡ numbered n xs ++ numbered (n + length xs) ys
numbered-append n [] ys = let e : n + 0 ≡ n = omega arith in rw e refl
numbered-append n (x ∷ xs) ys =
    let e : n + length (x ∷ xs) ≡ (n + 1) + length xs = omega arith in
    rw e (ap (λ es. record x { serial = n } ∷ es) (numbered-append (n + 1) xs ys))

-- the queue of messages that wait behind so many that were handed out
abbrev waiting : ℕ → List Message → Queue
waiting h ms = record { next = h + length ms + 1; out = numbered (h + 1) (map envelope_of ms) }

pub waiting-append : (h : ℕ) (w m r : List Message) → r ≡ w ++ m → waiting h r ≡ posted (waiting h w) (map envelope_of m)
waiting-append h w m r e =
    let next : h + length r + 1 ≡ h + length w + 1 + length (map envelope_of m) = rw e (omega (arith, length-append w m, length-map m envelope_of)) in
    let seam : h + 1 + length (map envelope_of w) ≡ h + length w + 1 = omega (arith, length-map w envelope_of) in
    let out : numbered (h + 1) (map envelope_of r) ≡ numbered (h + 1) (map envelope_of w) ++ numbered (h + length w + 1) (map envelope_of m) =
    rw (e, map-append envelope_of w m) (numbered-append (h + 1) (map envelope_of w) (map envelope_of m) ∙ ap (λ k. numbered (h + 1) (map envelope_of w) ++ numbered k (map envelope_of m)) seam) in
    cc
