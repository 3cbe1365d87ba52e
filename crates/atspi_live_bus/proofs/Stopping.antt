-- What stands of the worked cases of why a bus stops, and of what a link has next.
use Rattle.std.proofs.Common.{◌≡◌, ℕ, ◌<◌, List, [], ◌∷◌, ◌++◌, length, Option, None, Some, refl, sym, ap, subst, ◌∙◌, inl, inr, arith, lit<}
use Rattle.std.specs.Prelude.{false}
use Rattle.std.proofs.lemmas.Bool.Decides.{eqb_tells}
use Rattle.atspi_auth.specs.Talk.{after, heard, hears, hears_bytes, server_start}
use Rattle.atspi_auth.specs.Lines.{lines_of}
use Rattle.atspi_auth.specs.declared.fault.AuthFault.{AuthFault}
use Rattle.atspi_auth.specs.declared.fault.AuthFault.TheVariants.{NoZero}
use Rattle.atspi_auth.specs.declared.stage.Stage.TheVariants.{Over}
use Rattle.atspi_live_host.specs.declared.call.Did.{Did}
use Rattle.atspi_live_host.specs.declared.call.Did.TheVariants.{Done, NotYet, Failed}
use Rattle.atspi_live_host.specs.declared.call.Call.{Call}
use Rattle.atspi_live_host.specs.declared.call.Call.TheVariants.{Accept, Write}
use Rattle.atspi_live_bus.specs.Asked.{handed_to, joining, messages_of}
use Rattle.atspi_live_bus.specs.Cases.{one_conn, one_link}
use Rattle.atspi_live_bus.specs.Course.{Accepts, Course, start}
use Rattle.atspi_live_bus.specs.Rounds.{IsNotSeated, IsRound}
use Rattle.atspi_live_bus.specs.Service.{IsSaid, IsService, IsSpeech, line_bytes, lines_for}
use Rattle.atspi_live_bus.specs.Stops.{StopBlames}
use Rattle.atspi_live_bus.specs.declared.stop.Stop.TheVariants as stops

pub not_raised : StopBlames stops.HostFailed 3 3 → ⊥
not_raised (_, inl f) = omega (arith, f)
not_raised (_, inr f) = omega (arith, f)

pub fell : StopBlames stops.HostFailed 18446744073709551615 3 → ⊥
fell s = omega (arith, s.0)

pub four_three : ◌≡◌ {A = ℕ} 4 3 → ⊥
four_three e = omega (arith, e)

pub not_spent_host : stops.HostFailed ≡ stops.Spent → ⊥
not_spent_host e = cc

pub not_spent_memory : stops.NoMemory ≡ stops.Spent → ⊥
not_spent_memory e = cc

pub nothing_served : IsService []
nothing_served = record { asked = []; bus = start.bus; run = refl; conn = λ k. None; apart = apart; said = λ k. (refl, refl) }
  where
    none : (c : ℕ) → None ≡ Some c → ⊥
    none c e = cc

    apart : (j k c : ℕ) → None ≡ Some c → None ≡ Some c → j ≡ k
    apart j k c e f = absurd (none c e)

pub some_byte : (x : ℕ) (xs : List ℕ) → x ∷ xs ≡ [] → ⊥
some_byte x xs e = cc

-- a server that was sent nothing says nothing
no_lines : line_bytes (lines_for []) ≡ []
unfolding heard hears hears_bytes lines_of
no_lines = refl

not_over : (after server_start []).stage ≡ Over → ⊥
unfolding heard hears hears_bytes lines_of
not_over e = cc

silent : (took : _) (handed : List ℕ) → IsSpeech took handed [] (7 ∷ []) → ⊥
silent took handed s = elim s.over [ inl e ↦ some_byte 7 s.more (s.front ∙ ap (λ (w : List ℕ). w ++ handed) no_lines ∙ e) | inr o ↦ not_over o ]

pub given_unasked : IsService (Write 3 (7 ∷ []) (Done 1) ∷ []) → ⊥
given_unasked s = by (s.conn 3) (s.said 3)
  where
    by : (c : Option ℕ) → IsSaid s.asked c [] (7 ∷ []) → ⊥
    by None n = some_byte 7 [] n.1
    by (Some c) t = silent (messages_of c s.asked) (handed_to c s.asked) t

-- calls and courses that differ
pub no_accept : (c : Call) → [] ≡ c ∷ [] → ⊥
no_accept c e = cc

pub waits_failed : Accept NotYet ∷ [] ≡ Accept Failed ∷ [] → ⊥
waits_failed e = cc

pub joined_not_start : one_link ≡ start → ⊥
joined_not_start e = some (ap (λ (x : Course). x.asked) e)
  where
    some : joining 0 ∷ [] ≡ [] → ⊥
    some f = cc

did_of : (d : Did) (turns : List Call) → Accept Failed ∷ [] ≡ Accept d ∷ turns → Failed ≡ d
did_of d turns e = cc

pub failed_round : (x y : Course) → IsRound false x [] (Accept Failed ∷ []) y → ⊥
failed_round x y r = subst (λ (d : Did). Accepts d x r.1) (sym (did_of r.0 r.2 r.5)) r.3

pub failed_unseated : (x y : Course) → IsNotSeated x (Accept Failed ∷ []) y → ⊥
failed_unseated x y n = no (did_of (Done n.0) [] n.1)
  where
    no : Failed ≡ Done n.0 → ⊥
    no e = cc

pub waiting_round : (x : Course) → IsRound false x [] (Accept NotYet ∷ []) x
waiting_round x = (NotYet, x, [], refl, (refl, refl), refl)

pub joining_round : IsRound false start [] (Accept (Done 0) ∷ []) one_link
joining_round = (Done 0, one_link, [], (0, none, refl, refl, refl, others), inl (inl (refl, refl)), refl)
  where
    none : (j : ℕ) → start.conn j ≡ Some 0 → ⊥
    none j e = cc

    others : (j : ℕ) → (j ≡ 0 → ⊥) → one_conn j ≡ start.conn j
    others j n = elim (eqb_tells j 0) [ inl e ↦ absurd (n e.1) | inr e ↦ rw e.0 refl ]

-- links
pub no_fault_is : (f : Option AuthFault) → f ≡ Some NoZero → f ≡ None → ⊥
no_fault_is f e n = no (sym e ∙ n)
  where
    no : Some NoZero ≡ None → ⊥
    no g = cc

pub three_three : (m l : ℕ) → l ≡ 3 → m ≡ 3 → ◌<◌ m l → ⊥
three_three m l e f g = omega (arith, e, f, g)

pub four_five : (n : ℕ) → n ≡ 4 → n ≡ 5 → ⊥
four_five n e f = omega (arith, e, f)

pub one_is_few : ◌<◌ (length {A = ℕ} (108 ∷ [])) 16
one_is_few = lit< tt
