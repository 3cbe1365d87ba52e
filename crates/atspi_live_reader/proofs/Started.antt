-- What a reader that has started speaks and says where no message came, and its first line.
use Rattle.std.proofs.Common.{◌≡◌, ℕ, List, [], ◌∷◌, ◌++◌, refl, sym, ap, ◌∙◌, inl, append-nil, lit≤}
use Rattle.std.specs.Prelude.{codes}
use Rattle.atspi_auth.specs.Lines.{lines_of, joined}
use Rattle.atspi_auth.specs.Replies.{answer, reply_to}
use Rattle.atspi_auth.specs.Requests.{is_grant, is_number}
use Rattle.atspi_auth.specs.Talk.{behind, client_start, heard, hears, hears_bytes}
use Rattle.atspi_message.specs.Envelope.{Envelope}
use Rattle.atspi_protocol.specs.following.ReaderState.{Done, begins, sends}
use Rattle.atspi_protocol.specs.following.Takes.{starts}
use Rattle.atspi_live_conversation.specs.Speech.{IsSpeech, envelopes, line_bytes, lines_for}
use Rattle.atspi_live_conversation.proofs.LineLemmas.{none_behind}
use Rattle.atspi_live_conversation.proofs.SentLemmas.{none_parted}
use Rattle.atspi_live_reader.specs.Spoken.{IsAfter, IsSpoken, following, spoken_in}
use Rattle.atspi_live_reader.specs.Cases.{hail, said, told}
use Rattle.atspi_live_reader.specs.inner.Cases.{hello}

-- the first bytes of equal lists are equal
pub first_is : {x y : ℕ} {xs ys : List ℕ} → x ∷ xs ≡ y ∷ ys → x ≡ y
first_is h = cc

pub tail_is : {x y : ℕ} {xs ys : List ℕ} → x ∷ xs ≡ y ∷ ys → xs ≡ ys
tail_is h = cc

-- its first call is no line
silent : (done more : List Done) → done ++ more ≡ sends hello ∷ [] → spoken_in done ≡ []
silent [] more h = refl
silent (d ∷ []) more h = let first : d ≡ sends hello = cc in ap (λ (x : Done). spoken_in (x ∷ [])) first
silent (d ∷ e ∷ done) more h = absurd cc

pub none_spoken : (w : List ℕ) → IsSpoken [] w → w ≡ []
none_spoken w s = by w s.left (s.front ∙ silent s.done s.more (s.all ∙ ap (λ (ms : List (Envelope × List ℕ)). (following (envelopes ms)).out) (none_parted (behind client_start []) s.rest s.messages none_behind s.parted)))
  where
    by : (w left : List ℕ) → w ++ left ≡ [] → w ≡ []
    by [] left h = refl
    by (b ∷ w) left h = absurd cc

-- the lines of what was done
pub lines_told : {ds : List Done} → ds ≡ told → said ≡ spoken_in ds
unfolding lib.Utf8.encode
lines_told out = sym (ap (λ (ds : List Done). spoken_in ds) out)

-- what a reader says first
pub lines_first : line_bytes (lines_for []) ≡ hail
unfolding heard hears hears_bytes lines_of joined answer reply_to is_grant is_number
lines_first = refl

pub stands_first : IsAfter (starts begins) [] []
stands_first = record { done = []; whole = refl; sent = refl; numbered = lit≤ tt }

pub said_first : (g more : List ℕ) → g ++ more ≡ hail → IsSpeech IsAfter [] g
said_first g more h = record {
  messages = [];
  rest = [];
  parted = record { are = tt; parted = none_behind };
  end = starts begins;
  said = [];
  stands = stands_first;
  sent = [];
  spelled = refl;
  over = inl refl;
  more = more;
  front = h ∙ sym lines_first ∙ sym (append-nil (line_bytes (lines_for [])));
}

pub not_said_first : IsSpeech IsAfter [] (codes "x") → ⊥
not_said_first s = by s.more s.sent (s.front ∙ ap (λ (w : List ℕ). w ++ s.sent) lines_first)
  where
    by : (more sent : List ℕ) → codes "x" ++ more ≡ hail ++ sent → ⊥
    by more sent h = cc
