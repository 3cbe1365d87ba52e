-- What is queued behind what is queued already.
use Rattle.std.proofs.Common.{◌≡◌, ℕ, ◌+◌, Bool, true, false, refl, ap, arith}
use Rattle.std.specs.Prelude.{◌==◌, ◌||◌, List, [], ◌∷◌, ◌++◌, if◌then◌else◌}
use Rattle.atspi_message.specs.Envelope.{Envelope}
use Rattle.atspi_protocol.specs.exporting.Exporter.{Happening, steps, sends, hears, deaf, numbered, sent_in}
use Rattle.atspi_protocol.specs.exporting.Laws.{replies_among, numbers_among, rising}

with_reply : (b : Bool) (e : Envelope) (xs ys zs : List Envelope) → xs ≡ ys ++ zs
    → (if b then e ∷ xs else xs) ≡ (if b then e ∷ ys else ys) ++ zs
with_reply true e xs ys zs h = ap (λ rest. e ∷ rest) h
with_reply false e xs ys zs h = h

pub replies-append : (hs ks : List Happening) → replies_among (hs ++ ks) ≡ replies_among hs ++ replies_among ks
replies-append [] ks = refl
replies-append (sends e ∷ hs) ks = with_reply (e.kind == 2 || e.kind == 3) e _ _ _ (replies-append hs ks)
replies-append (steps step ∷ hs) ks = replies-append hs ks
replies-append (hears bus pattern ∷ hs) ks = replies-append hs ks
replies-append (deaf bus pattern ∷ hs) ks = replies-append hs ks

pub numbers-append : (hs ks : List Happening) → numbers_among (hs ++ ks) ≡ numbers_among hs ++ numbers_among ks
numbers-append [] ks = refl
numbers-append (sends e ∷ hs) ks = ap (λ rest. e.serial ∷ rest) (numbers-append hs ks)
numbers-append (steps step ∷ hs) ks = numbers-append hs ks
numbers-append (hears bus pattern ∷ hs) ks = numbers-append hs ks
numbers-append (deaf bus pattern ∷ hs) ks = numbers-append hs ks

pub numbered-append : (n m : ℕ) (hs ks : List Happening) → m ≡ n + sent_in hs → numbered n (hs ++ ks) ≡ numbered n hs ++ numbered m ks
numbered-append n m [] ks e = let same : m ≡ n = omega arith in rw same refl
numbered-append n m (sends x ∷ hs) ks e = ap (λ rest. sends (record x { serial = n }) ∷ rest) (numbered-append (n + 1) m hs ks (omega arith))
numbered-append n m (steps step ∷ hs) ks e = ap (λ rest. steps step ∷ rest) (numbered-append n m hs ks e)
numbered-append n m (hears bus pattern ∷ hs) ks e = ap (λ rest. hears bus pattern ∷ rest) (numbered-append n m hs ks e)
numbered-append n m (deaf bus pattern ∷ hs) ks e = ap (λ rest. deaf bus pattern ∷ rest) (numbered-append n m hs ks e)

pub numbers-rising : (n : ℕ) (hs : List Happening) → numbers_among (numbered n hs) ≡ rising (sent_in hs) n
numbers-rising n [] = refl
numbers-rising n (sends e ∷ hs) = ap (λ rest. n ∷ rest) (numbers-rising (n + 1) hs)
numbers-rising n (steps step ∷ hs) = numbers-rising n hs
numbers-rising n (hears bus pattern ∷ hs) = numbers-rising n hs
numbers-rising n (deaf bus pattern ∷ hs) = numbers-rising n hs
