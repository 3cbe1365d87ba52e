-- What a registry says that has just started.
use Rattle.std.proofs.Common.{◌≡◌, ◌⊎◌, ◌<◌, ℕ, List, [], ◌∷◌, ◌++◌, Option, None, Some, refl, sym, ap, subst, ◌∙◌, inl, inr, append-nil, arith, lit<, lit≤}
use Rattle.std.specs.Prelude.{codes}
use Rattle.atspi_auth.specs.Lines.{lines_of, joined}
use Rattle.atspi_auth.specs.Replies.{answer, reply_to}
use Rattle.atspi_auth.specs.Requests.{is_grant, is_number}
use Rattle.atspi_auth.specs.Talk.{after, behind, client_start, fault_in, heard, hears, hears_bytes}
use Rattle.atspi_live_host.specs.declared.call.Call.TheVariants.{Connect, Read}
use Rattle.atspi_live_host.specs.declared.call.Did.TheVariants.{Done, End}
use Rattle.atspi_stream.specs.Stream.{few}
use Rattle.atspi_live_conversation.specs.Speech.{IsInOrder, IsRefused, IsSpeech, line_bytes, lines_for}
use Rattle.atspi_live_conversation.specs.declared.ending.Ending.{Ending}
use Rattle.atspi_live_conversation.specs.declared.ending.Ending.TheVariants as endings
use Rattle.atspi_protocol.specs.registry_laws.Sends.{started}
use Rattle.atspi_live_registry.specs.Runs.{EndsOn}
use Rattle.atspi_live_conversation.specs.Reports.{Reports}
use Rattle.atspi_live_registry.specs.Standing.{IsAfter}
use Rattle.atspi_live_examples.specs.registry.Registries.{granted, hail, rejected}

pub begun : IsAfter started [] []
begun = record { whole = refl; numbered = lit≤ tt }

-- before the first byte nothing stands behind the lines, of which the first is due
none_first : behind client_start [] ≡ []
unfolding heard hears hears_bytes lines_of joined answer reply_to is_grant is_number
none_first = refl

pub lines_first : line_bytes (lines_for []) ≡ hail
unfolding heard hears hears_bytes lines_of joined answer reply_to is_grant is_number
lines_first = refl

sound_first : fault_in (after client_start []).stage ≡ None
unfolding heard hears hears_bytes lines_of joined answer reply_to is_grant is_number
sound_first = refl

at_fault : fault_in (after client_start (rejected ++ [])).stage ≡ None → ⊥
unfolding heard hears hears_bytes lines_of joined answer reply_to is_grant is_number
at_fault h = cc

sound : fault_in (after client_start (granted ++ [])).stage ≡ None
unfolding heard hears hears_bytes lines_of joined answer reply_to is_grant is_number
sound = refl

pub says : (g more : List ℕ) → g ++ more ≡ hail → IsSpeech IsAfter [] g
says g more front = record {
  messages = [];
  rest = [];
  parted = record { are = tt; parted = none_first };
  end = started;
  said = [];
  stands = begun;
  sent = [];
  spelled = refl;
  over = inl refl;
  more = more;
  front = front ∙ sym lines_first ∙ sym (append-nil (line_bytes (lines_for [])));
}

pub says_no_other : IsSpeech IsAfter [] (codes "x") → ⊥
says_no_other s = by s.more s.sent (s.front ∙ ap (λ (bytes : List ℕ). bytes ++ s.sent) lines_first)
  where
    by : (more sent : List ℕ) → codes "x" ++ more ≡ hail ++ sent → ⊥
    by more sent h = cc

pub in_order : IsInOrder IsAfter []
in_order = record { authenticated = sound_first; messages = []; rest = []; parted = record { are = tt; parted = none_first }; awaits = few (lit< tt); end = started; said = []; stands = begun }

pub refused : IsRefused IsAfter (rejected ++ [])
refused = record { at_fault = at_fault; end = started; said = []; stands = begun }

pub not_refused : IsRefused IsAfter (granted ++ []) → ⊥
not_refused r = r.at_fault sound

-- a run whose peer ended at once
pub peer_ended : EndsOn (codes "/p") 0 0 5 (Some (Connect (codes "/p") (Done 0) ∷ Read 0 [] End ∷ [])) (Some []) (Some [])
peer_ended = record {
  ending = endings.PeerEnded;
  ends = (in_order, ([], refl, tt));
  run = (Read 0 [] End ∷ [], record { whole = 0; done = []; last = Read 0 [] End ∷ []; are = refl; ends = (lit< tt, refl); all = refl }, refl);
  reports = (refl, refl);
}

other : (n m : ℕ) → n ≡ m → (n < m) ⊎ (m < n) → ⊥
other n m e (inl lower) = omega (arith, e, lower)
other n m e (inr higher) = omega (arith, e, higher)

-- status 10 tells one ending, and status 9 none
pub only_refused : (ending : Ending) (w w' : Option (List ℕ)) → Reports ending 10 w w' → ending ≡ endings.NotAuthenticated
only_refused endings.RoundsDone w w' r = absurd (other 10 8 r.0 (inr (lit< tt)))
only_refused endings.PeerEnded w w' r = absurd (other 10 0 r.0 (inr (lit< tt)))
only_refused endings.HostFailed w w' r = absurd (other 10 7 r.0 (inr (lit< tt)))
only_refused endings.NotAuthenticated w w' r = refl
only_refused (endings.Malformed start fault) w w' (inl r) = absurd (other 10 6 r.0 (inr (lit< tt)))
only_refused (endings.Malformed start fault) w w' (inr (inl r, part)) = absurd (other 10 4 r (inr (lit< tt)))
only_refused (endings.Malformed start fault) w w' (inr (inr r, part)) = absurd (other 10 5 r (inr (lit< tt)))
only_refused endings.Spent w w' r = absurd (other 10 13 r.0 (inl (lit< tt)))
only_refused endings.NoMemory w w' r = absurd (other 10 5 r.0 (inr (lit< tt)))

pub tells_none : (ending : Ending) (w w' : Option (List ℕ)) → Reports ending 9 w w' → ⊥
tells_none endings.RoundsDone w w' r = other 9 8 r.0 (inr (lit< tt))
tells_none endings.PeerEnded w w' r = other 9 0 r.0 (inr (lit< tt))
tells_none endings.HostFailed w w' r = other 9 7 r.0 (inr (lit< tt))
tells_none endings.NotAuthenticated w w' r = other 9 10 r.0 (inl (lit< tt))
tells_none (endings.Malformed start fault) w w' (inl r) = other 9 6 r.0 (inr (lit< tt))
tells_none (endings.Malformed start fault) w w' (inr (inl r, part)) = other 9 4 r (inr (lit< tt))
tells_none (endings.Malformed start fault) w w' (inr (inr r, part)) = other 9 5 r (inr (lit< tt))
tells_none endings.Spent w w' r = other 9 13 r.0 (inl (lit< tt))
tells_none endings.NoMemory w w' r = other 9 5 r.0 (inr (lit< tt))

-- and with status 10 nothing is written
pub quiet_refused : (ending : Ending) → Reports ending 10 (Some []) (Some (codes "a")) → ⊥
quiet_refused ending r = by (subst (λ (ending : Ending). Reports ending 10 (Some []) (Some (codes "a"))) (only_refused ending (Some []) (Some (codes "a")) r) r).1
  where
    by : Some (codes "a") ≡ Some [] → ⊥
    by h = cc
