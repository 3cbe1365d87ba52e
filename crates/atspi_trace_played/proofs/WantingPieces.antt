-- What a reader wants, as the whole uses it.
use Rattle.std.proofs.Common.{◌≡◌, ◌⊎◌, inl, inr, ℕ, Bool, true, false, List, [], ◌∷◌, ◌++◌, map, Option, None, Some, refl, sym, ap, ◌∙◌, subst}
use Rattle.std.specs.Prelude.{◌==◌, ◌&&◌, if◌then◌else◌}
use Rattle.std.specs.List.{AllByRecursion, list_all}
use Rattle.atspi_script_lines.specs.declared.line.Line.{Line}
use Rattle.atspi_script_lines.specs.declared.line.Party.TheVariants.{App, Reader}
use Rattle.atspi_message.specs.Envelope.{Envelope}
use Rattle.atspi_match.specs.routing.Routing.{is_reply}
use Rattle.atspi_protocol.specs.declared.following.question.Question.{Question}
use Rattle.atspi_protocol.specs.declared.following.question.Question.TheVariants.{GetItems, GetPart}
use Rattle.atspi_protocol.specs.following.Known.{is_connection}
use Rattle.atspi_protocol.specs.following.Calls.{asking}
use Rattle.atspi_protocol.specs.following.ReaderState.{Pending, ReaderState, sends}
use Rattle.atspi_protocol.specs.following.Replied.{is_reply_to}
use Rattle.atspi_protocol.specs.following.Takes.{goes_on, reader_takes}
use Rattle.atspi_protocol.specs.following.Wishes.{wishes}
use Rattle.atspi_trace.specs.Entry.{Entry, sent}
use Rattle.atspi_trace.specs.World.{waits, returned, failed, Asked, a_reader, Hearer, Letter, End, World}
use Rattle.atspi_trace.specs.Ends.{end_at, with_end}
use Rattle.atspi_trace.specs.Hearing.{is_answered, answered_by, fate_of, question_returned, hears_letter}
use Rattle.atspi_trace.specs.Causes.{Cause, does, at_end, asks}
use Rattle.atspi_trace.specs.Due.{freed, asks_at}
use Rattle.atspi_trace_laws.specs.laws.Words.{name_in}
use Rattle.atspi_trace_caches.specs.settled.Laws.{AsksOfNode, IsPartAsked, IsOfNode}
use Rattle.atspi_trace_laws.proofs.OfOrder.Parties.{no_none, same_some, false_true, all_back}
use Rattle.atspi_trace_laws.proofs.OfOrder.Each.{all_map}
use Rattle.atspi_trace.specs.play.Playing.{silent}
use Rattle.atspi_trace_played.proofs.Facts.{Ground, RepliesWell, Waits, PartWaits, IsGone, IsKnownOrGone, WantsOf, SeesWell, WantsWell, Tied}
use Rattle.atspi_trace_played.proofs.Pieces.{IsTaking, entries_behind, world_behind, AsksOne, IsIdle, Skips, WantsNone, WantsOne, RestsSettled}
use Rattle.atspi_trace_played.proofs.AskingAnswered.{Took}
use Rattle.atspi_trace_played.proofs.AskingTakes as taking
use Rattle.atspi_trace_played.proofs.AskingTakes.{before_asking, took_message}
use Rattle.atspi_trace_played.proofs.AskingWishes.{own_read}
use Rattle.atspi_trace_played.proofs.SeeingReplies as replying
use Rattle.atspi_trace_played.proofs.SeeingReplies.{Reply, reply}
use Rattle.atspi_trace_played.proofs.WantingRests.{rests_so, nothing_waits}
use Rattle.atspi_trace_played.proofs.WantingParts.{part_more, part_sent}
use Rattle.atspi_trace_played.proofs.WantingReplied.{asked_front, step_load}
use Rattle.atspi_trace_played.proofs.WantingEach.{goes_apps, each_behind}
use Rattle.atspi_trace_played.proofs.WantingNamed.{named_behind}
use Rattle.atspi_trace_played.proofs.WantingWorlds.{name_more, name_sent, wants_same, gone_alike, asks_alike, wants_any}
use Rattle.atspi_trace_played.proofs.WantingNodes.{AsksNode, wishes_of_nodes, left_plain, went, same_question}

-- THE LAST of some
last_two : (early late : List Asked) (x y : Asked) → early ++ x ∷ [] ≡ late ++ y ∷ [] → x ≡ y
last_two [] [] x y is = ap (first_or x) is
  where
    first_or : Asked → List Asked → Asked
    first_or d [] = d
    first_or d (z ∷ zs) = z
last_two [] (z ∷ []) x y is = absurd (false_true (ap longer is))
  where
    longer : List Asked → Bool
    longer [] = false
    longer (a ∷ []) = false
    longer (a ∷ (b ∷ l)) = true
last_two [] (z ∷ (u ∷ us)) x y is = absurd (false_true (ap longer is))
  where
    longer : List Asked → Bool
    longer [] = false
    longer (a ∷ []) = false
    longer (a ∷ (b ∷ l)) = true
last_two (z ∷ []) [] x y is = absurd (false_true (sym (ap longer is)))
  where
    longer : List Asked → Bool
    longer [] = false
    longer (a ∷ []) = false
    longer (a ∷ (b ∷ l)) = true
last_two (z ∷ (u ∷ us)) [] x y is = absurd (false_true (sym (ap longer is)))
  where
    longer : List Asked → Bool
    longer [] = false
    longer (a ∷ []) = false
    longer (a ∷ (b ∷ l)) = true
last_two (z ∷ zs) (u ∷ us) x y is = last_two zs us x y (ap rest_of is)
  where
    rest_of : List Asked → List Asked
    rest_of [] = []
    rest_of (a ∷ l) = l

-- what a message answers
answered_still : (m : Envelope) (asked : List Asked) → list_all is_answered asked ≡ true → list_all is_answered (map (answered_by m) asked) ≡ true
answered_still m [] h = refl
answered_still m (x ∷ xs) h = by (is_reply m && is_reply_to x.serial m.reply) (is_answered x) refl h (λ g. answered_still m xs g)
  where
    fate_said : (b : Bool) → is_answered (record x { fate = if b then returned else failed }) ≡ true
    fate_said true = refl
    fate_said false = refl

    by : (b c : Bool) → is_answered x ≡ c → (c && list_all is_answered xs) ≡ true → (list_all is_answered xs ≡ true → list_all is_answered (map (answered_by m) xs) ≡ true)
        → (is_answered (if b then record x { fate = fate_of m } else x) && list_all is_answered (map (answered_by m) xs)) ≡ true
    by true true is g ih = ap (λ c. c && list_all is_answered (map (answered_by m) xs)) (fate_said (m.kind == 2)) ∙ ih g
    by false true is g ih = ap (λ c. c && list_all is_answered (map (answered_by m) xs)) is ∙ ih g
    by b false is g ih = absurd (false_true g)

question_still : (m : Envelope) (x : Asked) → (answered_by m x).question ≡ x.question
question_still m x = by (is_reply m && is_reply_to x.serial m.reply)
  where
    by : (b : Bool) → (if b then record x { fate = fate_of m } else x).question ≡ x.question
    by true = refl
    by false = refl

map_last : (f : Asked → Asked) (xs : List Asked) (x : Asked) → map f (xs ++ x ∷ []) ≡ map f xs ++ f x ∷ []
map_last f [] x = refl
map_last f (y ∷ ys) x = ap (λ l. f y ∷ l) (map_last f ys x)

-- THE PART THAT IT WAITS FOR, where no call went out
module _ (script : List Line) (es : List Entry) (w : World) (g : Ground script es w None) (conn r : ℕ) (e : End) (h : Hearer) (letter : Letter) (rest : List Letter) (x : IsTaking w conn r e h letter rest)
    (s : ReaderState) (replies : RepliesWell w letter.said.message h.asked) (waiting : Waits s.pending h.asked) (was : PartWaits es r s.pending) where
  abbrev m : Envelope
  m = letter.said.message

  waits_still : (o : Option Pending) → Waits o (map (answered_by m) h.asked) → PartWaits (es ++ entries_behind w conn) r o
  waits_still None i p is name path part q = absurd (no_none p is)
  waits_still (Some k) i p is name path part q = before s.pending refl waiting
    where
      asks : k.question ≡ GetPart name path part
      asks = ap (λ (z : Pending). z.question) (same_some k p is) ∙ q

      before : (o : Option Pending) → s.pending ≡ o → Waits o h.asked → (a : ℕ) × (name_in (es ++ entries_behind w conn) (App a) ≡ Some name) × IsPartAsked (es ++ entries_behind w conn) r a name path part
      before None at all = absurd (no_none k (sym (nothing_waits (Some k) (map (answered_by m) h.asked) i (answered_still m h.asked all))))
      before (Some p0) at y =
          let its : Asked = record { serial = p0.serial; question = p0.question; fate = waits } in
          let last : answered_by m its ≡ record { serial = k.serial; question = k.question; fate = waits } =
          last_two (map (answered_by m) y.0) i.0 (answered_by m its) (record { serial = k.serial; question = k.question; fate = waits }) (sym (map_last (answered_by m) y.0 its) ∙ ap (map (answered_by m)) (sym y.1) ∙ i.1) in
          let asked : p0.question ≡ GetPart name path part = sym (question_still m its) ∙ ap (λ (z : Asked). z.question) last ∙ asks in
          let old = was p0 at name path part asked in (
            old.0,
            name_more es (entries_behind w conn) old.0 name old.1,
            part_more es (entries_behind w conn) r old.0 name path part
                (step_load script es w g conn r e h letter rest x s replies waiting old.0 name old.1 (λ n returns same. no_items p0 at asked n returns)) old.2,
          )
        where
          is_items : Question → Bool
          is_items (GetItems n) = true
          is_items z = false

          no_items : (p0 : Pending) → s.pending ≡ Some p0 → p0.question ≡ GetPart name path part → (n : List ℕ) → question_returned m h.asked ≡ Some (GetItems n) → ⊥
          no_items p0 at asked n returns = by (reply w m h s replies waiting)
            where
              by : Reply w m h s → ⊥
              by (replying.none q t) = no_none (GetItems n) (sym q ∙ returns)
              by (replying.returned p1 at1 two q may well t) =
                  false_true (ap is_items (sym asked ∙ ap (λ (z : Pending). z.question) (same_some p0 p1 (sym at ∙ at1)) ∙ same_some p1.question (GetItems n) (sym q ∙ returns)))
              by (replying.failed p1 at1 three q may well t) = no_none (GetItems n) (sym q ∙ returns)

pub wants_none : WantsNone
wants_none script es w conn r e h letter rest s g behind x t replies differ sees none idle = record {
  each = each_behind script es w g conn r e h letter rest x behind s t replies;
  named = named_behind script es w g conn r e h letter rest x behind s t replies;
  asking = waits_still script es w g conn r e h letter rest x s replies t.asks.waiting t.wants.asking (reader_takes s letter.said.message).pending none.after.waiting;
  idle = idle;
}

-- WITH A CALL OF ITS OWN
named_asked : (w v : World) (s : ReaderState) (h : Hearer) (question : Question) (names : List (List ℕ)) → ((name : List ℕ) → IsGone w name → IsGone v name) → AllByRecursion (λ name. is_connection name ≡ true → IsKnownOrGone w s h name) names
    → AllByRecursion (λ name. is_connection name ≡ true → IsKnownOrGone v s (asks question h) name) names
named_asked w v s h question [] f a = tt
named_asked w v s h question (name ∷ names) f a = ((λ is. by (a.0 is)), named_asked w v s h question names f a.1)
  where
    by : IsKnownOrGone w s h name → IsKnownOrGone v s (asks question h) name
    by (inl k) = inl k
    by (inr (inl asked)) = inr (inl (asked_front (GetItems name) h.asked (record { serial = h.next; question = question; fate = waits } ∷ []) asked))
    by (inr (inr gone)) = inr (inr (f name gone))

module _ (script : List Line) (es : List Entry) (w : World) (conn r : ℕ) (e : End) (h : Hearer) (letter : Letter) (rest : List Letter) (s : ReaderState) (g : Ground script es w None)
    (behind : Ground script (es ++ entries_behind w conn) (world_behind w conn) (Some conn)) (x : IsTaking w conn r e h letter rest) (t : Tied es w r h s) (replies : RepliesWell w letter.said.message h.asked)
    (sees : SeesWell (es ++ entries_behind w conn) r (silent (reader_takes s letter.said.message)))
    (a : AsksOne (world_behind w conn) conn r (hears_letter h w.ends letter) s (reader_takes s letter.said.message)) (idle : IsIdle (silent (reader_takes s letter.said.message))) where
  abbrev now : List Entry
  now = es ++ entries_behind w conn

  abbrev hearer : Hearer
  hearer = hears_letter h w.ends letter

  abbrev state : ReaderState
  state = before_asking s letter.said.message

  -- the part that is asked for is of a node
  node : AsksNode now a.question
  node = by (went (AsksNode now) state (left_plain now (map (answered_by letter.said.message) h.asked) state.to_come took.0.starting) wished)
    where
      took : Took h letter.said.message h.holds (silent state) × taking.NoCalls state.out
      took = took_message w h letter.said.message h.holds s t.asks replies

      wished : AllByRecursion (AsksNode now) (wishes state.apps)
      wished =
          subst (λ l. AllByRecursion (AsksNode now) (wishes l)) (goes_apps state)
          (wishes_of_nodes script now (world_behind w conn) (Some conn) behind r (silent (reader_takes s letter.said.message)) sees a.after.distinct)

      by : ((goes_on state).out ≡ state.out) ⊎ ((q : Question) × AsksNode now q × ((goes_on state).out ≡ state.out ++ sends (asking state.next q) ∷ [])) → AsksNode now a.question
      by (inl none) = absurd (all_back taking.IsNoCall a.front (sends (asking s.next a.question) ∷ []) (subst taking.NoCalls (sym none ∙ a.out) took.1)).0
      by (inr y) = subst (AsksNode now) (same_question state.out a.front state.next s.next y.0 a.question (sym y.2 ∙ a.out)) y.1

  abbrev call : Envelope
  call = asking s.next a.question

  -- what it waits for is what it asked
  waits_new : (o : Option Pending) → Waits o (asks a.question hearer).asked → PartWaits (now ++ sent (Reader r) call ∷ []) r o
  waits_new None i p is name path part q = absurd (no_none p is)
  waits_new (Some k) i p is name path part q =
      let its : Asked = record { serial = hearer.next; question = a.question; fate = waits } in
      let last : its ≡ record { serial = k.serial; question = k.question; fate = waits } =
      last_two hearer.asked i.0 its (record { serial = k.serial; question = k.question; fate = waits }) i.1 in
      let asked : a.question ≡ GetPart name path part = ap (λ (z : Asked). z.question) last ∙ ap (λ (z : Pending). z.question) (same_some k p is) ∙ q in
      let of : IsOfNode now name path = node name path part asked in
      (of.app, name_more now (sent (Reader r) call ∷ []) of.app name of.its_name, part_sent now r of.app s.next name path part call (ap (asking s.next) asked))

  one : WantsWell (now ++ sent (Reader r) call ∷ []) (at_end (world_behind w conn) conn (asks_at call a.question)) r (asks a.question hearer) (silent (reader_takes s letter.said.message))
  one = record {
    each = all_map (WantsOf now r hearer) (WantsOf (now ++ sent (Reader r) call ∷ []) r (asks a.question hearer)) (reader_takes s letter.said.message).apps
        (λ f p.
        let k = wants_same now (sent (Reader r) call ∷ []) r hearer (tt, tt) (name_sent now (Reader r) call) f p in
        record { parts = k.parts; held = λ v is. asked_front (GetItems f.name) hearer.asked (record { serial = hearer.next; question = a.question; fate = waits } ∷ []) (k.held v is) })
        (each_behind script es w g conn r e h letter rest x behind s t replies);
    named = named_asked (world_behind w conn) (at_end (world_behind w conn) conn (asks_at call a.question)) (silent (reader_takes s letter.said.message)) hearer a.question hearer.named
        (λ name gone.
        gone_alike (world_behind w conn) (with_end conn (asks_at call a.question) (world_behind w conn).ends) conn (asks_at call a.question) name refl (asks_alike call a.question) gone
        (at_end (world_behind w conn) conn (asks_at call a.question)) refl)
        (named_behind script es w g conn r e h letter rest x behind s t replies);
    asking = waits_new (reader_takes s letter.said.message).pending a.after.waiting;
    idle = idle;
  }

  of_node : AsksOfNode now (sent (Reader r) call) []
  of_node name path part read = node name path part (same_some a.question (GetPart name path part) (sym (own_read s.next a.question) ∙ read))

pub wants_one : WantsOne
wants_one script es w conn r e h letter rest s g behind x t replies differ sees a idle after =
    (one script es w conn r e h letter rest s g behind x t replies sees a idle, of_node script es w conn r e h letter rest s g behind x t replies sees a idle)

-- OVER A CAUSE OF OTHERS, with what it skips in place of whose it is
pub wants_more : (script : List Line) (es : List Entry) (w : World) (c : Cause) (conn r : ℕ) (e : End) (h : Hearer) (s : ReaderState)
    → Ground script es w None → Ground script (es ++ (does w c).entries) (does w c).world (freed c) → AllByRecursion (Skips r) (does w c).entries → end_at w.ends conn ≡ Some e → e.who ≡ Reader r
    → e.role ≡ a_reader h → SeesWell es r s → WantsWell es w r h s → WantsWell (es ++ (does w c).entries) (does w c).world r h s
wants_more script es w c conn r e h s g after skips there whose role sees i = wants_any script script es (does w c).entries w (does w c).world None (freed c) conn r e h s g after skips there whose role sees.apps i

pub rests_settled : RestsSettled
rests_settled script es p g ties none = rests_so script es p.world g p ties refl none
