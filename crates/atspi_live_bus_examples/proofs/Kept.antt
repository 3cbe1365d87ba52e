-- What stands of the cases of what is known between calls.
use Rattle.std.proofs.Common.{◌≡◌, ◌<◌, ◌≤◌, ◌+◌, ℕ, List, [], ◌∷◌, ◌++◌, length, Option, None, Some, refl, sym, ap, ◌∙◌, inl, inr, arith}
use Rattle.atspi_auth.specs.Lines.{lines_of}
use Rattle.atspi_auth.specs.Talk.{Standing, after, behind, fault_in, heard, hears, hears_bytes, server_start}
use Rattle.atspi_auth.specs.declared.fault.AuthFault.{AuthFault}
use Rattle.atspi_auth.specs.declared.fault.AuthFault.TheVariants.{NoZero}
use Rattle.atspi_auth.specs.declared.said.AuthLine.{AuthLine}
use Rattle.atspi_auth.specs.declared.stage.Stage.TheVariants.{Over}
use Rattle.atspi_message.specs.Envelope.{Envelope}
use Rattle.atspi_stream.specs.Stream.{AreMessages}
use Rattle.atspi_stream.specs.Stream as stream
use Rattle.atspi_live_host.specs.declared.call.Did.{Did}
use Rattle.atspi_live_host.specs.declared.call.Did.TheVariants.{Done, NotYet, End}
use Rattle.atspi_live_host.specs.declared.call.Call.{Call}
use Rattle.atspi_live_host.specs.declared.call.Call.TheVariants.{Read}
use Rattle.atspi_live_bus.specs.Service.{IsSpeech, envelopes, line_bytes, lines_for}
use Rattle.atspi_live_bus.specs.Turns.{Converses}
use Rattle.atspi_live_bus.proofs.Conversing.{shorter}
use Rattle.atspi_live_bus.proofs.Worked.{none_behind}
use Rattle.atspi_live_bus_examples.proofs.Facts.{no_zero, some_byte}
use Rattle.atspi_live_bus_examples.proofs.Linked.{some_message}

-- a server that was sent nothing
no_lines : line_bytes (lines_for []) ≡ []
unfolding heard hears hears_bytes lines_of
no_lines = refl

none_unsent : (after server_start []).unsent ≡ []
unfolding heard hears hears_bytes lines_of
none_unsent = refl

not_over : (after server_start []).stage ≡ Over → ⊥
unfolding heard hears hears_bytes lines_of
not_over e = cc

pub faulty : (f : Option AuthFault) → f ≡ Some NoZero → f ≡ None → ⊥
faulty f e n = no (sym e ∙ n)
  where
    no : Some NoZero ≡ None → ⊥
    no g = cc

some_line_of : (x : AuthLine) (xs : List AuthLine) → x ∷ xs ≡ [] → ⊥
some_line_of x xs e = cc

first_none : (xs ys : List AuthLine) → xs ++ ys ≡ [] → xs ≡ []
first_none [] ys e = refl
first_none (x ∷ xs) ys e = absurd (some_line_of x (xs ++ ys) e)

pub behind_some : (xs : List ℕ) (y : ℕ) → [] ≡ xs ++ y ∷ [] → ⊥
behind_some [] y e = some_byte y [] (sym e)
behind_some (x ∷ xs) y e = some_byte x (xs ++ y ∷ []) (sym e)

not_over_yet : (took : List Envelope) (handed g : List ℕ) (l : _) → Converses took handed l [] g → l.server.stage ≡ Over → ⊥
not_over_yet took handed g l c o = not_over (sym (ap (λ (s : Standing). s.stage) c.server_stands) ∙ o)

lines_none : (took : List Envelope) (handed g : List ℕ) (l : _) (c : Converses took handed l [] g) → c.lines ≡ []
lines_none took handed g l c = first_none c.lines l.server.unsent (ap (λ (s : Standing). s.unsent) c.server_stands ∙ none_unsent)

pub is_over : (took : List Envelope) (handed g : List ℕ) (l : _) → Converses took handed l [] g → l.server.stage ≡ Over → ⊥
is_over took handed g l c o = not_over_yet took handed g l c o

pub nothing_handed : (took : List Envelope) (handed g : List ℕ) (l : _) → Converses took handed l [] g → handed ≡ []
nothing_handed took handed g l c = elim c.order [ inl e ↦ e | inr o ↦ absurd (not_over_yet took handed g l c o.0) ]

-- so nothing was given, and nothing waits
pub none_said : (took : List Envelope) (handed g : List ℕ) (l : _) → Converses took handed l [] g → g ++ l.out.items ≡ []
none_said took handed g l c = c.all ∙ ap (λ (w : List AuthLine). line_bytes w ++ handed) (lines_none took handed g l c) ∙ nothing_handed took handed g l c

pub none_waits : (took : List Envelope) (handed : List ℕ) (l : _) → Converses took handed l [] [] → l.out.items ≡ 7 ∷ [] → ⊥
none_waits took handed l c e = some_byte 7 [] (sym e ∙ none_said took handed [] l c)

pub none_given : (took : List Envelope) (handed : List ℕ) (l : _) → Converses took handed l [] (7 ∷ []) → ⊥
none_given took handed l c = some_byte 7 l.out.items (none_said took handed (7 ∷ []) l c)

no_length : (n : ℕ) → ◌<◌ n 0 → ⊥
no_length n h = omega (arith, h)

pub none_told : (e : Envelope) (handed g : List ℕ) (l : _) → Converses (e ∷ []) handed l [] g → ⊥
none_told e handed g l c = by c.messages c.parted.are c.parted.parted c.taken_all
  where
    by : (ms : List (Envelope × List ℕ)) → AreMessages ms → behind server_start [] ≡ stream.bytes_of ms ++ l.feeder → e ∷ [] ≡ envelopes ms → ⊥
    by [] are parted taken = some_message e [] taken
    by (m ∷ ms) are parted taken = no_length (length (stream.bytes_of ms ++ l.feeder)) (shorter m.0 m.1 [] (stream.bytes_of ms ++ l.feeder) are.0 (sym none_behind ∙ parted ∙ append_three m.1 (stream.bytes_of ms) l.feeder))
      where
        append_three : (xs ys zs : List ℕ) → (xs ++ ys) ++ zs ≡ xs ++ (ys ++ zs)
        append_three [] ys zs = refl
        append_three (x ∷ xs) ys zs = ap (λ (w : List ℕ). x ∷ w) (append_three xs ys zs)

pub none_held : (l : _) → Converses [] [] l [] [] → l.feeder ≡ 108 ∷ [] → ⊥
none_held l c e = behind_some (stream.bytes_of c.messages) 108 (sym none_behind ∙ c.parted.parted ∙ ap (λ (w : List ℕ). stream.bytes_of c.messages ++ w) e)

pub first_wrong : (took : List Envelope) (handed g : List ℕ) (l : _) → Converses took handed l (97 ∷ []) g → ⊥
first_wrong took handed g l c = faulty (fault_in l.server.stage) (ap (λ (s : Standing). fault_in s.stage) c.server_stands ∙ no_zero) c.no_fault

pub said_nothing : IsSpeech [] [] [] []
said_nothing = record { messages = []; rest = []; parted = record { are = tt; parted = none_behind }; taken_all = refl; over = inl refl; more = []; front = sym (ap (λ (w : List ℕ). w ++ []) no_lines) }

pub said_before_fault : IsSpeech [] [] (97 ∷ []) []
said_before_fault = record {
  messages = [];
  rest = behind server_start (97 ∷ []);
  parted = record { are = tt; parted = refl };
  taken_all = refl;
  over = inl refl;
  more = line_bytes (lines_for (97 ∷ [])) ++ [];
  front = refl;
}

pub said_none : (took : List Envelope) (handed : List ℕ) → IsSpeech took handed [] (7 ∷ []) → ⊥
said_none took handed s = elim s.over [ inl e ↦ some_byte 7 s.more (s.front ∙ ap (λ (w : List ℕ). w ++ handed) no_lines ∙ e) | inr o ↦ not_over o ]

-- numbers
pub zero_one : ◌≡◌ {A = ℕ} 0 1 → ⊥
zero_one e = omega (arith, e)

pub three_five : ◌≡◌ {A = ℕ} 3 5 → ⊥
three_five e = omega (arith, e)

pub same_count : (m n : ℕ) → m ≡ 4 → n ≡ 4 → n ≡ m + 1 → ⊥
same_count m n e f g = omega (arith, e, f, g)

pub below_none : (n : ℕ) → n ≡ 0 → ◌<◌ 0 n → ⊥
below_none n e h = omega (arith, e, h)

pub one_seven : (n : ℕ) → n ≡ 1 → ◌≤◌ n 7
one_seven n e = omega (arith, e)

pub quota_five : (n : ℕ) → n ≡ 16777216 → n ≡ 5 → ⊥
quota_five n e f = omega (arith, e, f)

pub other_read : (xs : List Call) (bytes : List ℕ) (did : Did) → Read 5 [] NotYet ∷ [] ≡ Read 3 bytes did ∷ xs → ⊥
other_read xs bytes did e = absurd (omega (arith, is e))
  where
    is : Read 5 [] NotYet ∷ [] ≡ Read 3 bytes did ∷ xs → ◌≡◌ {A = ℕ} 5 3
    is f = cc

pub same_bytes : (bytes : List ℕ) (did : Did) → Read 3 (97 ∷ []) (Done 1) ∷ [] ≡ Read 3 bytes did ∷ [] → 97 ∷ [] ≡ bytes
same_bytes bytes did e = cc

pub ended_did : (bytes : List ℕ) (did : Did) → Read 3 [] End ∷ [] ≡ Read 3 bytes did ∷ [] → End ≡ did
ended_did bytes did e = cc

pub some_line : (line : AuthLine) → line ∷ [] ≡ [] → ⊥
some_line line e = cc

-- the first of seats
abbrev pub first_number : List (ℕ × ℕ) → ℕ
first_number [] = 0
first_number (s ∷ ss) = s.0

abbrev pub first_conn : List (ℕ × ℕ) → ℕ
first_conn [] = 0
first_conn (s ∷ ss) = s.1

abbrev pub second_number : List (ℕ × ℕ) → ℕ
second_number [] = 0
second_number (s ∷ ss) = first_number ss

abbrev pub second_conn : List (ℕ × ℕ) → ℕ
second_conn [] = 0
second_conn (s ∷ ss) = first_conn ss
