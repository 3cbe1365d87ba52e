-- Conversations of an end that takes and sends no messages.
use Rattle.std.proofs.Common.{◌≡◌, ℕ, List, [], ◌∷◌, ◌++◌, length, None, refl, sym, ap, ◌∙◌, inl, append-nil, length-append, arith, lit<}
use Rattle.std.specs.Prelude.{Some}
use Rattle.atspi_auth.specs.Lines.{lines_of, joined}
use Rattle.atspi_auth.specs.Replies.{answer, reply_to}
use Rattle.atspi_auth.specs.Requests.{is_grant, is_number}
use Rattle.atspi_auth.specs.Talk.{Stands, after, client_start, fault_in, heard, hears, hears_bytes}
use Rattle.atspi_auth.specs.declared.said.AuthLine.{AuthLine}
use Rattle.atspi_auth.specs.declared.said.AuthLine.TheVariants.{Hail}
use Rattle.atspi_stream.specs.Stream.{few}
use Rattle.atspi_live_conversation.specs.Sent.{AreSent}
use Rattle.atspi_live_conversation.specs.Speech.{line_bytes}
use Rattle.atspi_live_conversation.specs.Talking.{Converses, Going, IsAtEase}
use Rattle.atspi_live_examples.specs.conversation.Logs.{begun, hailed, over, three_lines}
use Rattle.atspi_live_examples.specs.conversation.Silent.{Says, granted, hail, rejected}
use Rattle.atspi_live_examples.proofs.OfConversation.Given.{none_first}

-- no line, the first one, or all three of a client that was let in were handed out
pub no_line_yet : Stands client_start [] [] client_start
unfolding heard hears hears_bytes lines_of joined answer reply_to is_grant is_number
no_line_yet = refl

pub one_line : Stands client_start [] (Hail ∷ []) (record client_start { unsent = [] })
unfolding heard hears hears_bytes lines_of joined answer reply_to is_grant is_number
one_line = refl

pub all_lines : Stands client_start granted three_lines (record { stage = (over []).client.stage; line = []; unsent = [] })
unfolding heard hears hears_bytes lines_of joined answer reply_to is_grant is_number
all_lines = refl

pub none_of_three : (bytes : List ℕ) → Stands client_start (granted ++ bytes) [] (after client_start granted)
unfolding heard hears hears_bytes lines_of joined answer reply_to is_grant is_number
none_of_three bytes = refl

pub none_refused : Stands client_start rejected [] (after client_start rejected)
unfolding heard hears hears_bytes lines_of joined answer reply_to is_grant is_number
none_refused = refl

-- before any byte was heard, the lines that were handed out and those that were not are the first one
lines_before : (given unsent : List AuthLine) → Stands client_start [] given (record client_start { unsent = unsent }) → given ++ unsent ≡ Hail ∷ []
unfolding heard hears hears_bytes lines_of joined answer reply_to is_grant is_number
lines_before given unsent s = ap (λ now. now.unsent) s

none_before : (given : List AuthLine) → given ++ Hail ∷ [] ≡ Hail ∷ [] → given ≡ []
none_before [] h = refl
none_before (line ∷ given) h = absurd (omega (arith, ap (λ (lines : List AuthLine). length lines) h, length-append given (Hail ∷ [])))

pub said_none : (said : List _) (sent : List ℕ) → said ≡ [] → AreSent said sent → sent ≡ []
said_none [] sent h a = a
said_none (e ∷ said) sent h a = absurd cc

-- so nothing was given while the first line waits
pub given_none : (g : List ℕ) → Converses Says [] g begun 0 → g ≡ []
given_none g c =
    sym (append-nil g) ∙ c.all ∙ ap (λ (lines : List AuthLine). line_bytes lines ++ c.sent) (none_before c.lines (lines_before c.lines (Hail ∷ []) c.client_stands))
    ∙ said_none c.said c.sent c.end_stands.1 c.spelled

-- and the first line was given, or waits as bytes, where it waits no longer
pub line_given : (g unsent : List ℕ) → Converses Says [] g (record hailed { unsent = unsent }) 0 → g ++ unsent ≡ hail
line_given g unsent c =
    c.all ∙ ap (λ (lines : List AuthLine). line_bytes lines ++ c.sent) (sym (append-nil c.lines) ∙ lines_before c.lines [] c.client_stands)
    ∙ ap (λ (sent : List ℕ). hail ++ sent) (said_none c.said c.sent c.end_stands.1 c.spelled) ∙ append-nil hail

pub conversing : Converses Says [] [] begun 0
conversing = record {
  lines = [];
  messages = [];
  said = [];
  sent = [];
  client_stands = no_line_yet;
  parted = record { are = tt; parted = none_first };
  heard = ap (λ (bytes : List ℕ). length bytes) (sym none_first);
  end_stands = (refl, refl);
  spelled = refl;
  all = refl;
  order = inl refl;
}

-- the first line was given, or some of it waits as bytes
pub conversing_on : (g unsent : List ℕ) → g ++ unsent ≡ hail → Converses Says [] g (record hailed { unsent = unsent }) 0
conversing_on g unsent all = record {
  lines = Hail ∷ [];
  messages = [];
  said = [];
  sent = [];
  client_stands = one_line;
  parted = record { are = tt; parted = none_first };
  heard = ap (λ (bytes : List ℕ). length bytes) (sym none_first);
  end_stands = (refl, refl);
  spelled = refl;
  all = all ∙ sym (append-nil hail);
  order = inl refl;
}

sound_first : fault_in client_start.stage ≡ None
sound_first = refl

pub at_ease : IsAtEase Says [] [] begun 0
at_ease = record { converses = conversing; authenticated = sound_first; awaits = few (lit< tt) }

pub at_ease_on : (g unsent : List ℕ) → g ++ unsent ≡ hail → IsAtEase Says [] g (record hailed { unsent = unsent }) 0
at_ease_on g unsent all = record { converses = conversing_on g unsent all; authenticated = sound_first; awaits = few (lit< tt) }

pub going : Going Says 0 (Some []) 0 begun 0
going = record { t = []; g = []; dids = []; tells = (refl, refl, refl); go_on = tt; counted = refl; at_ease = at_ease }
