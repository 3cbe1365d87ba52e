use Rattle.std.proofs.Common.{◌≡◌, ℕ, List, [], ◌∷◌, ◌++◌, length, refl, sym, ap, subst, ◌∙◌, inl, inr, append-nil, lit<, arith, length-append}
use Rattle.atspi_auth.specs.Lines.{lines_of, joined}
use Rattle.atspi_auth.specs.Replies.{answer, reply_to}
use Rattle.atspi_auth.specs.Requests.{is_grant, is_number}
use Rattle.atspi_auth.specs.Talk.{after, behind, client_start, heard, hears, hears_bytes}
use Rattle.atspi_auth.specs.declared.reply.Waiting.TheVariants.{ForChallenge}
use Rattle.atspi_auth.specs.declared.stage.Stage.TheVariants.{Over, Waits}
use Rattle.atspi_message.specs.Bytes.{written}
use Rattle.atspi_message.specs.Envelope.{Envelope}
use Rattle.atspi_stream.specs.Stream.{few}
use Rattle.atspi_live_conversation.specs.Sent.{AreSent, Fits}
use Rattle.atspi_live_conversation.specs.Speech.{IsAllGiven, line_bytes, lines_for}
use Rattle.atspi_live_examples.specs.due.Queued.{Has, IsEmpty, granted, hail, lines}
use Rattle.atspi_live_examples.proofs.due.due.one_message.Goals as goal

-- what the lines of the server bring
is_over : (after client_start granted).stage ≡ Over
unfolding heard hears hears_bytes lines_of joined answer reply_to is_grant is_number
is_over = refl

none_behind : behind client_start granted ≡ []
unfolding heard hears hears_bytes lines_of joined answer reply_to is_grant is_number
none_behind = refl

three_lines : line_bytes (lines_for granted) ≡ lines
unfolding heard hears hears_bytes lines_of joined answer reply_to is_grant is_number
three_lines = refl

-- and what stands before the first of them
is_not_over : (after client_start []).stage ≡ Over → ⊥
unfolding heard hears hears_bytes lines_of joined answer reply_to is_grant is_number
is_not_over e = let clash : Waits ForChallenge ≡ Over = e in absurd cc

none_before : behind client_start [] ≡ []
unfolding heard hears hears_bytes lines_of joined answer reply_to is_grant is_number
none_before = refl

first_line : line_bytes (lines_for []) ≡ hail
unfolding heard hears hears_bytes lines_of joined answer reply_to is_grant is_number
first_line = refl

-- the message was handed out, and these bytes are sent for it
handed_out : (m : Envelope) (sent : List ℕ) → AreSent (m ∷ []) sent → IsAllGiven (Has m) IsEmpty granted (lines ++ sent)
handed_out m sent spelled = record {
  speech = record {
    messages = [];
    rest = [];
    parted = record { are = tt; parted = none_behind };
    end = [];
    said = m ∷ [];
    stands = (refl, refl);
    sent = sent;
    spelled = spelled;
    over = inr is_over;
    more = [];
    front = append-nil (lines ++ sent) ∙ ap (λ (w : List ℕ). w ++ sent) (sym three_lines);
  };
  awaits = few (lit< tt);
  none_left = λ over. refl;
  no_more = refl;
}

pub returns-clause-given : goal.returns-clause-given
returns-clause-given c = λ m fits. handed_out m (written m) (written m, [], inl (fits, refl), refl, sym (append-nil (written m)))

pub returns-clause-too_large : goal.returns-clause-too_large
returns-clause-too_large c = λ m not.
    subst (IsAllGiven (Has m) IsEmpty granted) (append-nil lines) (handed_out m [] ([], [], inr (not, refl), refl, refl))

pub returns-clause-too_early : goal.returns-clause-too_early
returns-clause-too_early c = λ m.
    record {
      speech = record {
        messages = [];
        rest = [];
        parted = record { are = tt; parted = none_before };
        end = m ∷ [];
        said = [];
        stands = (refl, refl);
        sent = [];
        spelled = refl;
        over = inl refl;
        more = [];
        front = ap (λ (w : List ℕ). w ++ []) (sym first_line);
      };
      awaits = few (lit< tt);
      none_left = λ over. absurd (is_not_over over);
      no_more = refl;
    }

-- where all is given, the lines are, and behind them what is sent
lines_first : (m : Envelope) (g : List ℕ) (a : IsAllGiven (Has m) IsEmpty granted g) → g ≡ lines ++ a.speech.sent
lines_first m g a = sym (append-nil g) ∙ ap (λ (w : List ℕ). g ++ w) (sym a.no_more) ∙ a.speech.front ∙ ap (λ (w : List ℕ). w ++ a.speech.sent) three_lines

-- and these are the bytes of the message
one_sent : (m : Envelope) (bytes : List ℕ) → Fits m → AreSent (m ∷ []) bytes → bytes ≡ written m
one_sent m bytes fits (front, more, inl (fits_so, e), none, all) = all ∙ ap (λ (w : List ℕ). front ++ w) none ∙ append-nil front ∙ e
one_sent m bytes fits (front, more, inr (not, e), none, all) = absurd (not fits)

all_given : (m : Envelope) (g : List ℕ) → Fits m → IsAllGiven (Has m) IsEmpty granted g → g ≡ lines ++ written m
all_given m g fits a =
    let s = a.speech in
    let said : s.said ≡ m ∷ [] = sym (append-nil s.said) ∙ ap (λ (w : List Envelope). s.said ++ w) (sym (a.none_left is_over)) ∙ s.stands.1 in
    let spelled : AreSent (m ∷ []) s.sent = subst (λ (w : List Envelope). AreSent w s.sent) said s.spelled in
    lines_first m g a ∙ ap (λ (w : List ℕ). lines ++ w) (one_sent m s.sent fits spelled)

pub returns-clause-waits : goal.returns-clause-waits
returns-clause-waits c = λ m fits some a. absurd (omega (arith, some, ap (λ (w : List ℕ). length w) (all_given m lines fits a), length-append lines (written m)))

pub returns-clause-waits_in_part : goal.returns-clause-waits_in_part
returns-clause-waits_in_part c = λ m front rest b fits e a.
    absurd (omega (
      arith,
      ap (λ (w : List ℕ). length w) (all_given m (lines ++ front) fits a),
      length-append lines front,
      length-append lines (written m),
      ap (λ (w : List ℕ). length w) e,
      length-append front (b ∷ rest),
    ))

shorter : (sent : List ℕ) → hail ≡ lines ++ sent → ⊥
shorter sent h = cc

pub returns-clause-line_waits : goal.returns-clause-line_waits
returns-clause-line_waits c = λ m a. shorter a.speech.sent (lines_first m hail a)
