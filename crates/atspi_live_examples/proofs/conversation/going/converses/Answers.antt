use Rattle.std.proofs.Common.{◌≡◌, ℕ, List, [], ◌∷◌, ◌++◌, length, refl, sym, ap, ◌∙◌, inl, inr, append-nil, arith}
use Rattle.std.specs.Prelude.{codes, ◌⊎◌}
use Rattle.atspi_auth.specs.Talk.{client_start}
use Rattle.atspi_auth.specs.declared.said.AuthLine.TheVariants.{Begin}
use Rattle.atspi_message.specs.Bytes.{written}
use Rattle.atspi_stream.specs.Stream.{AwaitsMore, HasFault, IsParted, few, in_front}
use Rattle.atspi_stream.specs.Stream as stream
use Rattle.atspi_live_examples.specs.conversation.Logs.{over, three_lines}
use Rattle.atspi_live_examples.specs.conversation.Silent.{hail}
use Rattle.atspi_live_examples.proofs.OfConversation.Conversing as conversing
use Rattle.atspi_live_examples.proofs.OfConversation.Ended as ended
use Rattle.atspi_live_examples.proofs.OfConversation.Given as given
use Rattle.atspi_live_examples.proofs.OfConversation.Logged.{none_some}
use Rattle.atspi_live_examples.proofs.conversation.going.converses.Goals as goal
use Rattle.atspi_auth.specs.declared.stage.Stage.TheVariants.{Over}

pub returns-clause-begun : goal.returns-clause-begun
returns-clause-begun c = conversing.conversing

pub returns-clause-line_waits : goal.returns-clause-line_waits
returns-clause-line_waits c = conversing.conversing_on [] hail refl

pub returns-clause-line_given : goal.returns-clause-line_given
returns-clause-line_given c = conversing.conversing_on hail [] (append-nil hail)

pub returns-clause-message : goal.returns-clause-message
returns-clause-message c e m is = record {
  lines = [];
  messages = (e, m) ∷ [];
  said = [];
  sent = [];
  client_stands = conversing.none_of_three m;
  parted = record { are = (is, tt); parted = ended.behind_granted m ∙ sym (append-nil m) ∙ sym (append-nil (m ++ [])) };
  heard = ap (λ (bytes : List ℕ). length bytes) (sym (ended.behind_granted m));
  end_stands = (refl, refl);
  spelled = refl;
  all = refl;
  order = inl refl;
}

pub returns-clause-said : goal.returns-clause-said
returns-clause-said c e fits = record {
  lines = three_lines;
  messages = [];
  said = e ∷ [];
  sent = written e;
  client_stands = conversing.all_lines;
  parted = record { are = tt; parted = ended.bare_granted };
  heard = ap (λ (bytes : List ℕ). length bytes) (sym ended.bare_granted);
  end_stands = (refl, refl);
  spelled = (written e, [], inl (fits, refl), refl, sym (append-nil (written e)));
  all = refl;
  order = inr (refl, refl);
}

pub returns-clause-too_soon : goal.returns-clause-too_soon
returns-clause-too_soon c e s = by s.end_stands.1 s.order
  where
    early : client_start.stage ≡ Over → ⊥
    early h = cc

    by : s.said ≡ e ∷ [] → (s.said ≡ []) ⊎ ((client_start.stage ≡ Over) × (client_start.unsent ≡ [])) → ⊥
    by h (inl none) = none_some e [] (sym none ∙ h)
    by h (inr done) = early done.0

pub returns-clause-before_last_line : goal.returns-clause-before_last_line
returns-clause-before_last_line c e s = by s.end_stands.1 s.order
  where
    left : Begin ∷ [] ≡ [] → ⊥
    left h = cc

    by : s.said ≡ e ∷ [] → (s.said ≡ []) ⊎ (((over (Begin ∷ [])).client.stage ≡ Over) × (Begin ∷ [] ≡ [])) → ⊥
    by h (inl none) = none_some e [] (sym none ∙ h)
    by h (inr done) = left done.1

pub returns-clause-line_twice : goal.returns-clause-line_twice
returns-clause-line_twice c s = by (conversing.given_none hail s)
  where
    by : hail ≡ [] → ⊥
    by h = cc

pub returns-clause-other_bytes : goal.returns-clause-other_bytes
returns-clause-other_bytes c s = by (conversing.given_none (codes "x") s)
  where
    by : codes "x" ≡ [] → ⊥
    by h = cc

pub returns-clause-line_lost : goal.returns-clause-line_lost
returns-clause-line_lost c s = by (conversing.line_given [] [] s)
  where
    by : [] ≡ hail → ⊥
    by h = cc

pub returns-clause-bytes_held : goal.returns-clause-bytes_held
returns-clause-bytes_held c s = by (stream.bytes_of s.messages) (sym given.none_first ∙ s.parted.parted)
  where
    by : (front : List ℕ) → [] ≡ front ++ codes "l" → ⊥
    by [] h = cc
    by (x ∷ front) h = cc

pub returns-clause-miscounted : goal.returns-clause-miscounted
returns-clause-miscounted c s = by (s.heard ∙ ap (λ (bytes : List ℕ). length bytes) given.none_first)
  where
    by : ◌≡◌ {A = ℕ} 1 0 → ⊥
    by h = omega (arith, h)

pub returns-clause-stands_nowhere : goal.returns-clause-stands_nowhere
returns-clause-stands_nowhere c s = s.end_stands
