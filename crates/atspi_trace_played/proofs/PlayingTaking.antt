-- A reader takes a message: it does what its own definitions say, and that is what a lawful trace says of it.
use Rattle.std.proofs.Common.{◌≡◌, ◌⊎◌, inl, inr, ℕ, zero, suc, true, false, List, [], ◌∷◌, ◌++◌, Option, None, Some, refl, sym, ap, ◌∙◌, subst, cond}
use Rattle.std.specs.Prelude.{flat_map, not, slice_get, slice_set}
use Rattle.std.specs.List.{AllByRecursion, fold}
use Rattle.std.proofs.lemmas.List.{append_assoc}
use Rattle.atspi_script_lines.specs.declared.line.Line.{Line}
use Rattle.atspi_script_lines.specs.declared.line.Party.{Party}
use Rattle.atspi_script_lines.specs.declared.line.Party.TheVariants.{Bus as The_bus, Registry, App, Reader}
use Rattle.atspi_message.specs.Envelope.{Envelope}
use Rattle.atspi_protocol.specs.declared.following.question.Question.{Question}
use Rattle.atspi_protocol.specs.following.Calls.{asking}
use Rattle.atspi_protocol.specs.following.Known.{told_end}
use Rattle.atspi_protocol.specs.following.ReaderState.{Done, sends, speaks, tells_end, ReaderState}
use Rattle.atspi_protocol.specs.following.Takes.{reader_takes}
use Rattle.atspi_trace.specs.Entry.{Entry, sent, got}
use Rattle.atspi_trace.specs.World.{Role, the_registry, an_application, Hearer, a_reader, Letter, End, World}
use Rattle.atspi_trace.specs.Ends.{whose, party_at, end_at, with_end, number_of, app_named, number_if, taken_down}
use Rattle.atspi_tree_model.specs.Forest.{first_of}
use Rattle.atspi_trace.specs.Hearing.{question_in, without_ended, holds_of, ended_entries, app_with, app_ended, hears_letter, heard_entries}
use Rattle.atspi_trace.specs.Causes as causes
use Rattle.atspi_trace.specs.Causes.{Cause, gets, does, on_end, taken, took, at_end, asks}
use Rattle.atspi_trace.specs.Work.{Work, cause, next_of}
use Rattle.atspi_trace.specs.Due.{is_lost, asks_as, asks_at}
use Rattle.atspi_trace_laws.proofs.OfOrder.Allowed.{IsBare, NextFine, bare-work}
use Rattle.atspi_trace_laws.proofs.OfOrder.Effects.{received}
use Rattle.atspi_trace.specs.play.Playing.{Playing, silent}
use Rattle.atspi_trace.specs.play.Plays.{told, asked, asked_with, reader_did}
use Rattle.atspi_trace_played.proofs.Facts.{Ground, RepliesWell, SerialsDiffer, SeesWell, Tied}
use Rattle.atspi_trace_played.proofs.Pieces.{Pieces, IsTaking, IsNoCall, spoken, AsksNone, AsksOne, Skips}
use Rattle.atspi_trace_played.proofs.Building.{Behind, go_on, asks_behind, wrote_some}
use Rattle.atspi_trace_played.proofs.BuildingStanding.{call_over, out_over}
use Rattle.atspi_trace_played.proofs.BuildingFading.{Fades, fading, as_it_stands, here_before}
use Rattle.atspi_trace_played.proofs.BuildingCourse as course
use Rattle.atspi_trace_played.proofs.PlayingLists.{with_both, heard_skips, nodes_none, nodes_one, AsksNoPart}
use Rattle.atspi_trace_played.proofs.PlayingStage.{Stage, ground_of, before, shape, truly, course_behind, ground_behind, stage_with, tied_still}
use Rattle.atspi_trace_played.proofs.PlayingTied.{changed_at, tied_changed}
use Rattle.atspi_trace_played.proofs.PlayingSteps.{other_party}
use Rattle.atspi_trace_laws.proofs.OfHeard.Quiet.{heard_all}
use Rattle.atspi_trace_laws.proofs.OfOrder.Next.{next_fine}

-- a message less on a link changes no name
named_same : (name : List ℕ) (conn : ℕ) (ends : List End) → app_named name (with_end conn taken_down ends) ≡ app_named name ends
named_same name zero [] = refl
named_same name (suc conn) [] = refl
named_same name zero (e ∷ es) = refl
named_same name (suc conn) (e ∷ es) = ap (λ o. first_of (number_if name e.who e.unique) o) (named_same name conn es)

with_same : (o : Option (List ℕ)) (conn : ℕ) (ends : List End) → app_with (with_end conn taken_down ends) o ≡ app_with ends o
with_same None conn ends = refl
with_same (Some name) conn ends = named_same name conn ends

ended_same : (conn : ℕ) (ends : List End) (letter : Letter) (from : Party) → app_ended (with_end conn taken_down ends) (record letter { from = from }) ≡ app_ended ends (record letter { from = from })
ended_same conn ends letter The_bus = with_same (told_end letter.said.message) conn ends
ended_same conn ends letter Registry = refl
ended_same conn ends letter (App a) = refl
ended_same conn ends letter (Reader r) = refl

entries_same : (r conn : ℕ) (h : Hearer) (ends : List End) (letter : Letter) (from : Party) → heard_entries r h (with_end conn taken_down ends) (record letter { from = from }) ≡ heard_entries r h ends (record letter { from = from })
entries_same r conn h ends letter The_bus = ap (ended_entries r h) (ended_same conn ends letter The_bus)
entries_same r conn h ends letter Registry = ap (ended_entries r h) (ended_same conn ends letter Registry)
entries_same r conn h ends letter (App a) = refl
entries_same r conn h ends letter (Reader k) = ap (ended_entries r h) (ended_same conn ends letter (Reader k))

pub heard_same : (r conn : ℕ) (h : Hearer) (ends : List End) (letter : Letter) → heard_entries r h (with_end conn taken_down ends) letter ≡ heard_entries r h ends letter
heard_same r conn h ends letter = entries_same r conn h ends letter letter.from

holds_same : (conn : ℕ) (h : Hearer) (ends : List End) (letter : Letter) (from : Party) → holds_of h (with_end conn taken_down ends) (record letter { from = from }) ≡ holds_of h ends (record letter { from = from })
holds_same conn h ends letter The_bus = ap (λ o. without_ended o h.holds) (ended_same conn ends letter The_bus)
holds_same conn h ends letter Registry = ap (λ o. without_ended o h.holds) (ended_same conn ends letter Registry)
holds_same conn h ends letter (App a) = refl
holds_same conn h ends letter (Reader k) = ap (λ o. without_ended o h.holds) (ended_same conn ends letter (Reader k))

pub hears_same : (conn : ℕ) (h : Hearer) (ends : List End) (letter : Letter) → hears_letter h (with_end conn taken_down ends) letter ≡ hears_letter h ends letter
hears_same conn h ends letter = ap (λ ks. record (hears_letter h ends letter) { holds = ks }) (holds_same conn h ends letter letter.from)

-- WHAT IT DID, without the call and with it
told_calls : (r : ℕ) (ends : List End) (front : List Done) (m : Envelope) → flat_map (told r ends) (front ++ sends m ∷ []) ≡ flat_map (told r ends) front ++ sent (Reader r) m ∷ []
told_calls r ends [] m = refl
told_calls r ends (d ∷ front) m = ap (λ l. told r ends d ++ l) (told_calls r ends front m) ∙ sym (append_assoc (told r ends d) (flat_map (told r ends) front) (sent (Reader r) m ∷ []))

spoken_none : (out : List Done) → AllByRecursion IsNoCall out → spoken out ≡ out
spoken_none [] n = refl
spoken_none (d ∷ out) n = ap (λ b. cond (not b) (d ∷ spoken out) (spoken out)) n.0 ∙ ap (λ l. d ∷ l) (spoken_none out n.1)

spoken_one : (front : List Done) (m : Envelope) → AllByRecursion IsNoCall front → spoken (front ++ sends m ∷ []) ≡ front
spoken_one [] m n = refl
spoken_one (d ∷ front) m n = ap (λ b. cond (not b) (d ∷ spoken (front ++ sends m ∷ [])) (spoken (front ++ sends m ∷ []))) n.0 ∙ ap (λ l. d ∷ l) (spoken_one front m n.1)

asks_nothing : (conn : ℕ) (w : World) (d : Done) → IsNoCall d → asked conn w d ≡ w
asks_nothing conn w (sends m) n = absurd (not_so n)
  where
    not_so : true ≡ false → ⊥
    not_so h = cc
asks_nothing conn w (speaks name line) n = refl
asks_nothing conn w (tells_end name) n = refl

folds_none : (conn : ℕ) (w : World) (out : List Done) → AllByRecursion IsNoCall out → fold (asked conn) w out ≡ w
folds_none conn w [] n = refl
folds_none conn w (d ∷ out) n = ap (λ v. fold (asked conn) v out) (asks_nothing conn w d n.0) ∙ folds_none conn w out n.1

folds_one : (conn : ℕ) (w : World) (front : List Done) (m : Envelope) (question : Question) → AllByRecursion IsNoCall front → question_in m ≡ Some question
    → fold (asked conn) w (front ++ sends m ∷ []) ≡ at_end w conn (asks_at m question)
folds_one conn w [] m question n q = ap (asked_with conn w m) q
folds_one conn w (d ∷ front) m question n q = ap (λ v. fold (asked conn) v (front ++ sends m ∷ [])) (asks_nothing conn w d n.0) ∙ folds_one conn w front m question n.1 q

asks_same : (m : Envelope) (question : Question) (e : End) → (asks_at m question e).who ≡ e.who
asks_same m question e = by e.role
  where
    by : (role : Role) → (asks_as role m question e).who ≡ e.who
    by (a_reader h) = refl
    by (the_registry s) = refl
    by (an_application s) = refl

abbrev pub takes_it : Hearer → End → End
takes_it g e = record (taken_down e) { role = a_reader g }

module _ (pieces : Pieces) (script : List Line) (es : List Entry) (p : Playing) (work rest : Work) (more : List Line) (conn r : ℕ) (e : End) (h : Hearer) (letter : Letter) (link : List Letter) (s : ReaderState)
    (st : Stage script es p work more) (is : next_of p.world work ≡ cause (gets conn) p.world rest) (x : IsTaking p.world conn r e h letter link) (at : slice_get p.readers r ≡ Some s) (tie : Tied es p.world r h s) where
  abbrev c : Cause
  c = gets conn

  abbrev w : World
  w = p.world

  abbrev v : World
  v = (does p.world (gets conn)).world

  abbrev ys : List Entry
  ys = (does p.world (gets conn)).entries

  abbrev t : ReaderState
  t = reader_takes s letter.said.message

  abbrev g : Hearer
  g = hears_letter h w.ends letter

  abbrev its_got : Entry
  its_got = got (Reader r) letter.from letter.said.message.serial

  done_is : does w c ≡ took (received w conn e letter) conn letter e.who (a_reader h)
  done_is = ap (λ o. on_end w o (λ e. taken w conn e e.down)) x.is_here.there ∙ ap (taken w conn e) x.link ∙ ap (took (received w conn e letter) conn letter e.who) x.role

  wrote : ys ≡ its_got ∷ heard_entries r h w.ends letter
  wrote =
      ap (λ (d : causes.Done). d.entries) done_is
      ∙ ap (λ q. got q letter.from letter.said.message.serial ∷ heard_entries (number_of q) h (with_end conn taken_down w.ends) letter) x.whose
      ∙ ap (λ l. its_got ∷ l) (heard_same r conn h w.ends letter)

  ends_are : v.ends ≡ with_end conn (takes_it g) w.ends
  ends_are =
      ap (λ (d : causes.Done). d.world.ends) done_is
      ∙ with_both (λ d. record d { role = a_reader (hears_letter h (with_end conn taken_down w.ends) letter) }) taken_down conn w.ends
      ∙ ap (λ k. with_end conn (takes_it k) w.ends) (hears_same conn h w.ends letter)

  party : party_at w.ends conn ≡ Reader r
  party = ap whose x.is_here.there ∙ x.whose

  skips : (q : ℕ) → (q ≡ r → ⊥) → AllByRecursion (Skips q) ys
  skips q other = subst (AllByRecursion (Skips q)) (sym wrote) (other_party q r other, heard_skips q r (λ same. other (sym same)) h w.ends letter)

  no_parts : AllByRecursion AsksNoPart ys
  no_parts = subst (AllByRecursion AsksNoPart) (sym wrote) (tt, heard_all AsksNoPart (λ q app line. tt) (λ q app. tt) r h w.ends letter)

  ground_now : Ground script es w None
  ground_now = before pieces script es p work rest more c st is

  others : is_lost v ≡ false → (k q : ℕ) (d : End) (f : Hearer) (o : ReaderState) → (q ≡ r → ⊥) → end_at w.ends k ≡ Some d → d.who ≡ Reader q → d.role ≡ a_reader f → Tied es w q f o → Tied (es ++ ys) v q f o
  others lives k q d f o other there who role its = tied_still pieces script es p work rest more c st is lives k q d f o (skips q other) (λ same. other_party q r other (sym party ∙ same)) there who role its

  replied : RepliesWell w letter.said.message h.asked × SerialsDiffer h.asked
  replied = pieces.replies_step script es w conn r e h letter link s.to_come ground_now st.tied.of_nodes x tie.asks.order

  sees : is_lost v ≡ false → (flat_map (told r w.ends) (spoken t.out) ≡ heard_entries r h w.ends letter) × SeesWell (es ++ ys) r (silent t)
  sees lives = pieces.sees_step script es w conn r e h letter link s ground_now (ground_behind pieces script es p work rest more c st is lives) x tie replied.0 replied.1

  -- WITHOUT A CALL OF ITS OWN
  without_call : is_lost v ≡ false → AsksNone g t → Stage script (es ++ (reader_did p conn r letter t).entries) (reader_did p conn r letter t).now rest more
  without_call lives a =
      let after = ground_behind pieces script es p work rest more c st is lives in
      let seen = sees lives in
      let its : Tied (es ++ ys) v r g (silent t) = record {
        asks = a.after;
        sees = seen.1;
        wants = pieces.wants_none script es w conn r e h letter link s ground_now after x tie replied.0 replied.1 seen.1 a (pieces.idle_after s letter.said.message);
      } in
      let changed = changed_at w v conn r e g (takes_it g) (shape pieces script es p work rest more c st is) x.is_here.there x.whose ends_are (λ d. refl) refl in
      let tied = tied_changed es (es ++ ys) p v r g s (silent t) changed at (others lives) its (nodes_none es ys st.tied.of_nodes no_parts) st.tied in
      let stage = stage_with pieces script es p work rest more c st is (slice_set p.readers r (silent t)) lives tied in
      let written : its_got ∷ flat_map (told r w.ends) t.out ≡ ys = ap (λ l. its_got ∷ flat_map (told r w.ends) l) (sym (spoken_none t.out a.no_call)) ∙ ap (λ l. its_got ∷ l) seen.0 ∙ sym wrote in
      subst (λ l. Stage script (es ++ l) (reader_did p conn r letter t).now rest more) (sym written)
      (subst (λ u. Stage script (es ++ ys) (record { world = u; readers = slice_set p.readers r (silent t) }) rest more) (sym (folds_none conn v t.out a.no_call)) stage)

  -- WITH ONE
  module _ (a : AsksOne v conn r g s t) where
    abbrev m : Envelope
    m = asking s.next a.question

    abbrev u : World
    u = at_end v conn (asks_at m a.question)

    abbrev fs : List Entry
    fs = (es ++ ys) ++ sent (Reader r) m ∷ []

    scene : Behind script fs u None rest more
    scene =
        asks_behind script (es ++ ys) v conn r m a.question rest more
        (wrote_some script es w work rest more c st.midway is its_got (heard_entries r h w.ends letter) wrote (truly pieces script es p work rest more c st is)) (bare-work u rest bare) a.may
      where
        bare : IsBare rest
        bare = (subst (NextFine w) is (next_fine w work st.midway.fine)).2

    with_call : is_lost u ≡ false → Stage script (es ++ (reader_did p conn r letter t).entries) (reader_did p conn r letter t).now rest more
    with_call last =
        let lives : is_lost v ≡ false = here_before v u (call_over Fades fading as_it_stands v conn m a.question) last in
        let after = ground_behind pieces script es p work rest more c st is lives in
        let seen = sees lives in
        let midway = go_on script fs u None rest more last scene in
        let way : course.Course fs u None = course.asked (es ++ ys) v conn r m a.question (course_behind pieces script es p work rest more c st is) a.may in
        let ground_last = ground_of script fs u rest more None st.can midway way last in
        let wants = pieces.wants_one script es w conn r e h letter link s ground_now after x tie replied.0 replied.1 seen.1 a (pieces.idle_after s letter.said.message) ground_last in
        let its : Tied fs u r (asks a.question g) (silent t) = record {
          asks = a.after;
          sees = pieces.sees_more script (es ++ ys) (sent (Reader r) m ∷ []) v u (Some conn) None r (silent t) after ground_last (tt, tt) seen.1;
          wants = wants.0;
        } in
        let still : (k q : ℕ) (d : End) (f : Hearer) (o : ReaderState) → (q ≡ r → ⊥) → end_at w.ends k ≡ Some d → d.who ≡ Reader q → d.role ≡ a_reader f → Tied es w q f o → Tied fs u q f o =
        λ k q d f o other there who role before_it. still_tied lives after ground_last q f o other (others lives k q d f o other there who role before_it) in
        let changed = changed_at w u conn r e (asks a.question g) (λ d. asks_at m a.question (takes_it g d)) (shape pieces script es p work rest more c st is) x.is_here.there x.whose
        (ap (with_end conn (asks_at m a.question)) ends_are ∙ with_both (asks_at m a.question) (takes_it g) conn w.ends) (λ d. asks_same m a.question (takes_it g d)) refl in
        let tied = tied_changed es fs p u r (asks a.question g) s (silent t) changed at still its (nodes_one (es ++ ys) (sent (Reader r) m) (nodes_none es ys st.tied.of_nodes no_parts) wants.1) st.tied in
        let stage : Stage script fs (record { world = u; readers = slice_set p.readers r (silent t) }) rest more = record { can = st.can; midway = midway; course = way; tied = tied; here = last } in
        let out : flat_map (told r w.ends) t.out ≡ heard_entries r h w.ends letter ++ sent (Reader r) m ∷ [] =
        ap (flat_map (told r w.ends)) a.out ∙ told_calls r w.ends a.front m
        ∙ ap (λ l. flat_map (told r w.ends) l ++ sent (Reader r) m ∷ []) (sym (ap spoken a.out ∙ spoken_one a.front m a.no_call)) ∙ ap (λ l. l ++ sent (Reader r) m ∷ []) seen.0 in
        let written : fs ≡ es ++ (its_got ∷ flat_map (told r w.ends) t.out) =
        append_assoc es ys (sent (Reader r) m ∷ []) ∙ ap (λ l. es ++ (l ++ sent (Reader r) m ∷ [])) wrote ∙ ap (λ l. es ++ its_got ∷ l) (sym out) in
        let world : u ≡ fold (asked conn) v t.out = sym (ap (fold (asked conn) v) a.out ∙ folds_one conn v a.front m a.question a.no_call a.may.read) in
        subst (λ l. Stage script l (reader_did p conn r letter t).now rest more) written
        (subst (λ b. Stage script fs (record { world = b; readers = slice_set p.readers r (silent t) }) rest more) world stage)
      where
        still_tied : is_lost v ≡ false → Ground script (es ++ ys) v (Some conn) → Ground script fs u None → (q : ℕ) (f : Hearer) (o : ReaderState) → (q ≡ r → ⊥) → Tied (es ++ ys) v q f o → Tied fs u q f o
        still_tied lives after ground_last q f o other its = record {
          asks = its.asks;
          sees = pieces.sees_more script (es ++ ys) (sent (Reader r) m ∷ []) v u (Some conn) None q o after ground_last (tt, tt) its.sees;
          wants = pieces.wants_asked script (es ++ ys) v conn r q m a.question f o after a.may (λ same. other (sym same)) its.wants;
        }

  -- EITHER WAY
  pub takes_step : is_lost (reader_did p conn r letter t).now.world ≡ false → Stage script (es ++ (reader_did p conn r letter t).entries) (reader_did p conn r letter t).now rest more
  takes_step last =
      let lives : is_lost v ≡ false = here_before v (fold (asked conn) v t.out) (out_over Fades fading as_it_stands conn v t.out) last in
      by lives (pieces.asks_step script es w conn r e h letter link s (ground_behind pieces script es p work rest more c st is lives) x tie.asks (sees lives).1 replied.0)
    where
      by : is_lost v ≡ false → (AsksNone g t ⊎ AsksOne v conn r g s t) → Stage script (es ++ (reader_did p conn r letter t).entries) (reader_did p conn r letter t).now rest more
      by lives (inl a) = without_call lives a
      by lives (inr a) = with_call a (subst (λ b. is_lost b ≡ false) (ap (fold (asked conn) v) a.out ∙ folds_one conn v a.front (asking s.next a.question) a.question a.no_call a.may.read) last)
