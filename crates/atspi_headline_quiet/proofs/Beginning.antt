-- BEHIND A LINE `bytes` THAT BEGINS links, ends and what waits are as before it; so its one move is the one that the words of the run tell, where it is known what the links are.
use Rattle.std.proofs.Common.{◌≡◌, ℕ, zero, suc, ◌-◌, Bool, true, false, List, [], ◌∷◌, ◌++◌, map, min, refl, ap, ap₂, ◌∙◌, arith}
use Rattle.std.specs.Prelude.{◌||◌, ◌&&◌, not, nat_lt, filter, filter_map, if◌then◌else◌}
use Rattle.std.specs.List.{list_any}
use Rattle.std.proofs.lemmas.Bool.{lt-ltb}
use Rattle.std.proofs.lemmas.List.{append-nil}
use Rattle.std.proofs.lemmas.List.Sums.{fold-append}
use Rattle.atspi_script_lines.specs.declared.limits.TheConstants.{QUOTA_MOST}
use Rattle.atspi_script_lines.specs.declared.line.Line.TheVariants.{Bytes}
use Rattle.atspi_script_lines.specs.declared.line.Party.{Party}
use Rattle.atspi_script_lines.specs.declared.line.Party.TheVariants.{Registry}
use Rattle.atspi_message.specs.Envelope.{Envelope}
use Rattle.atspi_trace.specs.World.{Standing, here, stopped, away, End}
use Rattle.atspi_headline.specs.Words.{Act, begins_line, moves_bytes, takes_end, start_in, is_same, is_exit_of, is_out, ends, is_live, is_stopped, sent_by, messages}
use Rattle.atspi_headline.specs.Links.{moved_after, moved, Delivery, delivered_after, deliveries, letters, kept, quota_after, quota_of, is_to, link, sizes, waiting, bytes_move}
use Rattle.atspi_headline_laws.proofs.Ran.{said_bytes, letter_bytes, up_move, down_move}
use Rattle.atspi_headline_laws.proofs.Registering.{gathered_more}
use Rattle.atspi_headline_laws.proofs.Words.{chosen_more}
use Rattle.atspi_headline_quiet.proofs.Standing.{any_append, or_false, exits_of, outs_of}
use Rattle.atspi_headline_quiet.proofs.Waiting.{ups, downs, Known, live_so, stopped_so, live_as, stopped_as, link_waits, ups_sized, downs_sized}

module _ (run : List Act) (named : Party) (way : Bool) (count : ℕ) where
  abbrev pub next : List Act
  next = run ++ begins_line (Bytes named way count) ∷ []

  same_exits : (who : Party) → exits_of next who ≡ exits_of run who
  same_exits who = any_append (is_exit_of who) run (begins_line (Bytes named way count) ∷ []) ∙ or_false (exits_of run who) false refl

  same_outs : (who : Party) → outs_of next who ≡ outs_of run who
  same_outs who = any_append (is_out who) run (begins_line (Bytes named way count) ∷ []) ∙ or_false (outs_of run who) false refl

  same_ends : ends next ≡ ends run
  same_ends = ap (λ l. Registry ∷ l) (chosen_more start_in run (begins_line (Bytes named way count) ∷ []) ∙ append-nil (filter_map start_in run))

  same_live : (who : Party) → is_live next who ≡ is_live run who
  same_live who =
      ap₂ (λ l b. list_any (is_same who) l && not b) same_ends (ap₂ (λ a b. a || b) (same_exits who) (same_outs who))

  same_stopped : (who : Party) → is_stopped next who ≡ is_stopped run who
  same_stopped who = ap₂ (λ a b. a && not b) (same_exits who) (same_outs who)

  same_moved : (who : Party) (up : Bool) → moved next who up ≡ moved run who up
  same_moved who up = fold-append (moved_after who up) 0 run (begins_line (Bytes named way count) ∷ [])

  same_messages : (who : Party) → messages next who ≡ messages run who
  same_messages who = chosen_more (sent_by who) run (begins_line (Bytes named way count) ∷ []) ∙ append-nil (messages run who)

  same_quota : quota_of next ≡ quota_of run
  same_quota = fold-append quota_after QUOTA_MOST run (begins_line (Bytes named way count) ∷ [])

  same_deliveries : deliveries next ≡ deliveries run
  same_deliveries = gathered_more delivered_after [] [] run (begins_line (Bytes named way count) ∷ []) ∙ append-nil (deliveries run)

  same_link : (who : Party) (up : Bool) → link next who up ≡ link run who up
  same_link who true = ap (λ l. map (λ (e : Envelope). (who, e)) l) (same_messages who)
  same_link who false = ap₂ (λ q (ds : List Delivery). letters (kept q [] (filter (is_to who) ds))) same_quota same_deliveries

  same_waiting : (who : Party) (up : Bool) → waiting next who up ≡ waiting run who up
  same_waiting who up =
      ap (λ b. if b then sizes (link next who up) - moved next who up else 0) (same_live who)
      ∙ ap₂ (λ l n. if is_live run who then sizes l - n else 0) (same_link who up) (same_moved who up)

  -- WHAT WAITS of an end that is known
  waits_up : (e : End) → Known run e → e.standing ≡ here → waiting next e.who true ≡ said_bytes e.up - e.up_moved
  waits_up e k s =
      same_waiting e.who true ∙ ap (λ b. if b then sizes (link run e.who true) - moved run e.who true else 0) (live_so run e k ∙ ap live_as s)
      ∙ link_waits run e.who true (ups e) e.up_moved (k.up s) ∙ ap (λ n. n - e.up_moved) (ups_sized e.who e.up)

  waits_down : (e : End) → Known run e → e.standing ≡ here → waiting next e.who false ≡ letter_bytes e.down - e.down_moved
  waits_down e k s =
      same_waiting e.who false ∙ ap (λ b. if b then sizes (link run e.who false) - moved run e.who false else 0) (live_so run e k ∙ ap live_as s)
      ∙ link_waits run e.who false (downs e) e.down_moved (k.down s) ∙ ap (λ n. n - e.down_moved) (downs_sized e.down)

  nothing_waits : (e : End) (up : Bool) (st : Standing) → Known run e → e.standing ≡ st → live_as st ≡ false → waiting next e.who up ≡ 0
  nothing_waits e up st k s dead =
      same_waiting e.who up ∙ ap (λ b. if b then sizes (link run e.who up) - moved run e.who up else 0) (live_so run e k ∙ ap live_as s ∙ dead)

  least : (n : ℕ) → min n 0 ≡ 0
  least n = omega arith

  -- THE ONE MOVE
  moves_those : (e : End) (up : Bool) → (up && (is_stopped next e.who && nat_lt 0 count)) ≡ false → (n : ℕ) → waiting next e.who up ≡ n → bytes_move next e.who up count ≡ moves_bytes e.who up (min count n)
  moves_those e up never n w =
      ap (λ b. if b then takes_end e.who else moves_bytes e.who up (min count (waiting next e.who up))) never ∙ ap (λ k. moves_bytes e.who up (min count k)) w

  goes_on : (e : End) (st : Standing) → Known run e → e.standing ≡ st → stopped_as st ≡ false → (up : Bool) → (up && (is_stopped next e.who && nat_lt 0 count)) ≡ false
  goes_on e st k s on true = ap (λ b. b && nat_lt 0 count) (same_stopped e.who ∙ stopped_so run e k ∙ ap stopped_as s ∙ on)
  goes_on e st k s on false = refl

-- the move that is made as the line begins, or, of an end that stopped, behind it
abbrev pub MovesSo : Act → Party → List Act → Type 0
MovesSo move who [] = move ≡ takes_end who
MovesSo move who (act ∷ acts) = move ≡ act

pub up_made : (run : List Act) (named : Party) (way : Bool) (count : ℕ) (e : End) (st : Standing) → Known run e → e.standing ≡ st → MovesSo (bytes_move (next run named way count) e.who true count) e.who (up_move count e st)
up_made run named way count e here k s =
    moves_those run named way count e true (goes_on run named way count e here k s refl true) (said_bytes e.up - e.up_moved) (waits_up run named way count e k s)
up_made run named way zero e stopped k s =
    moves_those run named way zero e true (ap (λ b. b && nat_lt 0 0) (same_stopped run named way zero e.who ∙ stopped_so run e k ∙ ap stopped_as s)) 0 (nothing_waits run named way zero e true stopped k s refl)
    ∙ ap (λ n. moves_bytes e.who true n) (least run named way zero 0)
up_made run named way (suc count) e stopped k s =
    ap (λ b. if b && nat_lt 0 (suc count) then takes_end e.who else moves_bytes e.who true (min (suc count) (waiting (next run named way (suc count)) e.who true)))
    (same_stopped run named way (suc count) e.who ∙ stopped_so run e k ∙ ap stopped_as s)
    ∙ ap (λ b. if b then takes_end e.who else moves_bytes e.who true (min (suc count) (waiting (next run named way (suc count)) e.who true))) (lt-ltb 0 (suc count) (omega arith))
up_made run named way zero e away k s =
    moves_those run named way zero e true (goes_on run named way zero e away k s refl true) 0 (nothing_waits run named way zero e true away k s refl) ∙ ap (λ n. moves_bytes e.who true n) (least run named way zero 0)
up_made run named way (suc count) e away k s =
    moves_those run named way (suc count) e true (goes_on run named way (suc count) e away k s refl true) 0 (nothing_waits run named way (suc count) e true away k s refl)
    ∙ ap (λ n. moves_bytes e.who true n) (least run named way (suc count) (suc count))

pub down_made : (run : List Act) (named : Party) (way : Bool) (count : ℕ) (e : End) (st : Standing) → Known run e → e.standing ≡ st → MovesSo (bytes_move (next run named way count) e.who false count) e.who (down_move count e st)
down_made run named way count e here k s = moves_those run named way count e false refl (letter_bytes e.down - e.down_moved) (waits_down run named way count e k s)
down_made run named way count e stopped k s =
    moves_those run named way count e false refl 0 (nothing_waits run named way count e false stopped k s refl) ∙ ap (λ n. moves_bytes e.who false n) (least run named way count count)
down_made run named way count e away k s =
    moves_those run named way count e false refl 0 (nothing_waits run named way count e false away k s refl) ∙ ap (λ n. moves_bytes e.who false n) (least run named way count count)
