-- HOW FAR A LINK TO THE BUS WAS MOVED: of an end that is here, the bytes moved are those of the messages that the bus took, those moved of the first
-- one left, and, while a line moves bytes of it, those that are at work.
use Rattle.std.proofs.Common.{◌≡◌, ◌⊎◌, inl, inr, ℕ, zero, suc, ◌+◌, ◌-◌, ◌<◌, ◌≤◌, Bool, true, false, List, [], ◌∷◌, ◌++◌, length, map, take, Option, None, Some, refl, sym, ap, ap₂, ◌∙◌, subst, arith, min}
use Rattle.std.specs.Prelude.{◌==◌, if◌then◌else◌}
use Rattle.std.specs.List.{AllByRecursion}
use Rattle.std.proofs.lemmas.Bool.{ltb-false, eqb-true, eq-eqb, ne_eqb}
use Rattle.std.proofs.lemmas.List.{append-nil}
use Rattle.atspi_script_lines.specs.declared.limits.TheConstants.{QUOTA_MOST}
use Rattle.atspi_script_lines.specs.declared.line.Line.{Line}
use Rattle.atspi_script_lines.specs.declared.line.Party.{Party}
use Rattle.atspi_script_lines.specs.declared.line.Party.TheVariants.{Bus as The_bus, Registry, App, Reader}
use Rattle.atspi_protocol.specs.registering.Steps.{registry_takes}
use Rattle.atspi_protocol.specs.exporting.Taking.{app_takes}
use Rattle.atspi_trace.specs.Entry.{Entry, sent, got, busy, quiet}
use Rattle.atspi_trace.specs.World.{Standing, here, stopped, away, Said, first_registry, first_world, End, World}
use Rattle.atspi_trace.specs.Ends.{same_party, number_of, party_at, whose, end_at, with_end, rest_of, taken_up, app_count, reader_count}
use Rattle.atspi_trace.specs.Carrying as carrying
use Rattle.atspi_trace.specs.Causes.{Cause, renews, starts_app, starts_reader, edits, calls, swaps_face, exits, shows, tells_busy, tells_quiet, routes, unjoins, gets, Done, only, does, at_end}
use Rattle.atspi_trace.specs.Work.{Work, resting, doing, moving_up, moving_down, turning, draining, Next, cause, rests, moved_up, next_of, work_of}
use Rattle.atspi_trace.specs.Due.{freed, asks_at}
use Rattle.atspi_headline.specs.Words.{Act, begins_line, moves_bytes, writes, entries_in, messages, ends}
use Rattle.atspi_headline.specs.Links.{size, sizes, moved}
use Rattle.atspi_trace_laws.specs.laws.NineLaws.{count_got_by_bus}
use Rattle.atspi_trace_laws.proofs.OfOrder.Parties.{no_none, same_some, false_true, same-party, party-same}
use Rattle.atspi_trace_laws.proofs.OfOrder.Frame.{Over, over_same, with_cases, joined_cases}
use Rattle.atspi_trace_laws.proofs.OfOrder.Shape.{Shape, IsNew, not_new}
use Rattle.atspi_trace_laws.proofs.OfOrder.Shaped.{new_app, new_reader, app_joined}
use Rattle.atspi_trace_laws.proofs.OfOrder.Allowed.{IsBare}
use Rattle.atspi_trace_laws.proofs.OfOrder.Effects.{received, BusTakes, BusEnds}
use Rattle.atspi_trace_laws.proofs.OfOrder.Growing.{Shaped, And}
use Rattle.atspi_trace_laws.proofs.OfOwn.Writing.{Lives}
use Rattle.atspi_trace_laws.proofs.OfLinks.LawLinks.{NotTaken, none_taken, count_more, bus_free, sent_free, got_free, no_bus, Linked}
use Rattle.atspi_trace_laws.proofs.OfLinks.TakenInOrder.{Base, links_keep}
use Rattle.atspi_trace_laws.proofs.OfSerials.Numbers.{IsFresh}
use Rattle.atspi_trace_laws.proofs.OfHeard.Quiet.{heard_all}
use Rattle.atspi_headline_laws.proofs.Ran.{Ran, nothing_yet, did, began, caused, rested, asked, said_bytes, first_missing, up_missing, up_move, down_move, at_known, turn_move, stopped_move, moves_for, line_moves}
use Rattle.atspi_headline_laws.proofs.Making.{AllMoves, entries_more, entries_written, entries_of_both, no_entries, moves_are, line_moves_are}
use Rattle.atspi_headline_laws.proofs.Keeping.{shape_along}
use Rattle.atspi_headline_laws.proofs.Acting.{LineDid, line_did, renewed, app_began, reader_began, edited_app, called_app, swapped, app_stopped, reader_stopped, showed, TurnDid, turn_did, bare_quiet, told_busy, told_quiet, bus_took, bus_ended, registry_took, app_took, reader_took}
use Rattle.atspi_headline_laws.proofs.Sorting.{AppSorts, LineSorts, app_all, line_all}
use Rattle.atspi_headline_laws.proofs.Growing.{Front, front_of, lived_before}
use Rattle.atspi_headline_links.proofs.Sizes.{Mail, IsBegun, begun_anew, begun_more, sizes_both}
use Rattle.atspi_headline_laws.proofs.Handing.{shape}
use Rattle.atspi_headline_links.proofs.Known.{IsUnknown, unknown_of, none_along}
use Rattle.atspi_headline_links.proofs.Moved.{moved_more, moved_written, moved_of_both, moved_own, moved_other, moved_back}
use Rattle.atspi_headline_links.proofs.Sent.{ups, took_up, UpsAre, ups_are, took_same, took_next}
use Rattle.atspi_headline_links.proofs.Nexts.{GoesUp, StopsUp, up_goes, UpRest, stays, goes_on, up_rests, DownRest, down_rests, turns_rest, drain_rests, still_rests, none_rests, IsTurning, turns_leave, drain_leaves, GoesDown, down_goes}
use Rattle.atspi_headline_links.proofs.Keeping.{not_stopped, GrewUp, KeepsUp, keeping_up, SameLinkUp, SameUp, same_keeps, over_map, bus_took_same, bus_ended_same, acts_over, stopping_keeps, registry_keeps, app_keeps, reader_keeps, asked_keeps, edits_keeps, calls_keeps, as_before}

-- THE TIE
abbrev pub ahead_up : Option Work → ℕ → End → ℕ
ahead_up (Some (moving_up conn count)) k e = if conn == k then min count (sizes (ups e) - e.up_moved) else 0
ahead_up at k e = 0

abbrev pub NotUp : Option Work → Type 0
NotUp (Some (moving_up conn count)) = ⊥
NotUp at = Unit {0}

pub none_ahead : (at : Option Work) (k : ℕ) (e : End) → NotUp at → ahead_up at k e ≡ 0
none_ahead None k e n = refl
none_ahead (Some (moving_up conn count)) k e n = absurd n
none_ahead (Some (moving_down conn count)) k e n = refl
none_ahead (Some (turning count left)) k e n = refl
none_ahead (Some draining) k e n = refl
none_ahead (Some resting) k e n = refl
none_ahead (Some (doing c)) k e n = refl

none_of_other : (conn count k : ℕ) (e : End) → (conn ≡ k → ⊥) → ahead_up (Some (moving_up conn count)) k e ≡ 0
none_of_other conn count k e differ = ap (λ b. if b then min count (sizes (ups e) - e.up_moved) else 0) (ne_eqb conn k differ)

ahead_here : (conn count : ℕ) (e : End) → ahead_up (Some (moving_up conn count)) conn e ≡ min count (sizes (ups e) - e.up_moved)
ahead_here conn count e = ap (λ b. if b then min count (sizes (ups e) - e.up_moved) else 0) (eq-eqb conn conn refl)

pub record UpTie (run : List Act) (e : End) (ahead : ℕ) : Type 0 where
  pub moved : moved run e.who true ≡ (sizes (took_up run e.who) + e.up_moved) + ahead
  pub begun : IsBegun e.up_moved (ups e)

abbrev pub UpTied : List Act → World → Option Work → Type 0
UpTied run w at = (k : ℕ) (e : End) → end_at w.ends k ≡ Some e → e.standing ≡ here → UpTie run e (ahead_up at k e)

-- messages of a party
abbrev ups_of : Party → List Said → Mail
ups_of who ss = map (λ (s : Said). (who, s.message)) ss

ups_both : (who : Party) (xs ys : List Said) → ups_of who (xs ++ ys) ≡ ups_of who xs ++ ups_of who ys
ups_both who [] ys = refl
ups_both who (x ∷ xs) ys = ap (λ l. (who, x.message) ∷ l) (ups_both who xs ys)

grew_ups : (e d : End) → d.who ≡ e.who → (g : GrewUp e d) → ups d ≡ ups e ++ ups_of e.who g.more
grew_ups e d who g = ap₂ ups_of who g.up ∙ ups_both e.who e.up g.more

-- WHERE THE BUS TAKES NOTHING
same_count : (run acts : List Act) (ys : List Entry) (who : Party) → entries_in acts ≡ ys → AllByRecursion NotTaken ys → count_got_by_bus (entries_in (run ++ acts)) who ≡ count_got_by_bus (entries_in run) who
same_count run acts ys who is none =
    let c : count_got_by_bus (entries_in run ++ ys) who ≡ count_got_by_bus (entries_in run) who + count_got_by_bus ys who = count_more (entries_in run) ys who in
    let z : count_got_by_bus ys who ≡ 0 = none_taken who ys none in
    ap (λ l. count_got_by_bus l who) (entries_more run acts ∙ ap (λ l. entries_in run ++ l) is) ∙ c ∙ ap (λ n. count_got_by_bus (entries_in run) who + n) z ∙ plus_none (count_got_by_bus (entries_in run) who)
  where
    plus_none : (n : ℕ) → n + 0 ≡ n
    plus_none n = omega arith

within : (run : List Act) (e : End) → UpsAre run e → count_got_by_bus (entries_in run) e.who ≤ length (messages run e.who)
within run e u = omega (arith, u.count)

step_tie : (run acts : List Act) (ys : List Entry) (e d : End) (n m : ℕ) → entries_in acts ≡ ys → AllByRecursion NotTaken ys → UpsAre run e → d.who ≡ e.who → GrewUp e d → moved acts e.who true + n ≡ m → UpTie run e n
    → UpTie (run ++ acts) d m
step_tie run acts ys e d n m is none u who g balance t = record { moved = moved_now; begun = begun_now }
  where
    sum : (x y s k : ℕ) → x ≡ (s + k) + n → y + n ≡ m → x + y ≡ (s + k) + m
    sum x y s k h b = omega (arith, h, b)

    same : took_up (run ++ acts) e.who ≡ took_up run e.who
    same = took_same run acts e.who (same_count run acts ys e.who is none) (within run e u)

    moved_e : moved (run ++ acts) e.who true ≡ (sizes (took_up (run ++ acts) e.who) + d.up_moved) + m
    moved_e =
        moved_more e.who true run acts ∙ sum (moved run e.who true) (moved acts e.who true) (sizes (took_up run e.who)) e.up_moved t.moved balance
        ∙ ap₂ (λ l k. (sizes l + k) + m) (sym same) (sym g.mark)

    moved_now : moved (run ++ acts) d.who true ≡ (sizes (took_up (run ++ acts) d.who) + d.up_moved) + m
    moved_now = subst (λ p. moved (run ++ acts) p true ≡ (sizes (took_up (run ++ acts) p) + d.up_moved) + m) (sym who) moved_e

    begun_now : IsBegun d.up_moved (ups d)
    begun_now =
        subst (IsBegun d.up_moved) (sym (grew_ups e d who g)) (subst (λ k. IsBegun k (ups e ++ ups_of e.who g.more)) (sym g.mark) (begun_more e.up_moved (ups e) (ups_of e.who g.more) t.begun))

-- each end
abbrev Balanced : List Act → World → World → Option Work → Option Work → Type 0
Balanced acts w v at now = (k : ℕ) (e d : End) → end_at w.ends k ≡ Some e → e.standing ≡ here → end_at v.ends k ≡ Some d → d.standing ≡ here → KeepsUp e d → moved acts e.who true + ahead_up at k e ≡ ahead_up now k d

step_up : (run acts : List Act) (ys : List Entry) (w v : World) (free : Option ℕ) (at now : Option Work) → Front run w free → entries_in acts ≡ ys → AllByRecursion NotTaken ys → Over KeepsUp w.ends v.ends → Balanced acts w v at now → UpTied run w at
    → UpTied (run ++ acts) v now
step_up run acts ys w v free at now f is none o b i k d there standing =
    let x = o.back k d there in
    let g : GrewUp x.0 d = x.2.going standing in
    step_tie run acts ys x.0 d (ahead_up at k x.0) (ahead_up now k d) is none (ups_are run w free f k x.0 x.1 g.here_before) x.2.whose g (b k x.0 d x.1 g.here_before there standing x.2) (i k x.0 x.1 g.here_before)

unmoved : (acts : List Act) (w v : World) (at now : Option Work) → ((p : Party) → moved acts p true ≡ 0) → NotUp at → NotUp now → Balanced acts w v at now
unmoved acts w v at now none na nb k e d h st g sd r =
    zeros (moved acts e.who true) (ahead_up at k e) (ahead_up now k d) (none e.who) (none_ahead at k e na) (none_ahead now k d nb)
  where
    zeros : (a b c : ℕ) → a ≡ 0 → b ≡ 0 → c ≡ 0 → a + b ≡ c
    zeros a b c p q r = omega (arith, p, q, r)

-- WHERE AN END JOINS
new_tie : (run acts : List Act) (ys : List Entry) (n : End) → entries_in acts ≡ ys → AllByRecursion NotTaken ys → count_got_by_bus (entries_in run) n.who ≡ 0 → moved run n.who true ≡ 0 → moved acts n.who true ≡ 0 → n.up_moved ≡ 0 → UpTie (run ++ acts) n 0
new_tie run acts ys n is none count before now mark = record {
  moved = sum (moved run n.who true) (moved acts n.who true) (sizes (took_up (run ++ acts) n.who)) (moved_more n.who true run acts) before now (ap sizes nothing) mark;
  begun = subst (λ k. IsBegun k (ups n)) (sym mark) (begun_anew (ups n));
}
  where
    nothing : took_up (run ++ acts) n.who ≡ []
    nothing = ap (λ c. map (λ e. (n.who, e)) (take c (messages (run ++ acts) n.who))) (same_count run acts ys n.who is none ∙ count)

    sum : (x y s : ℕ) → moved (run ++ acts) n.who true ≡ x + y → x ≡ 0 → y ≡ 0 → s ≡ 0 → n.up_moved ≡ 0 → moved (run ++ acts) n.who true ≡ (s + n.up_moved) + 0
    sum x y s h a b c d = omega (arith, h, a, b, c, d)

joined_up : (run acts : List Act) (ys : List Entry) (w v : World) (free : Option ℕ) (n : End) → Front run w free → entries_in acts ≡ ys → AllByRecursion NotTaken ys → ((p : Party) → moved acts p true ≡ 0) → v.ends ≡ w.ends ++ n ∷ []
    → count_got_by_bus (entries_in run) n.who ≡ 0 → moved run n.who true ≡ 0 → n.up_moved ≡ 0 → UpTied run w None → UpTied (run ++ acts) v (Some resting)
joined_up run acts ys w v free n f is none quiet_ more count before mark i k d there standing = by (joined_cases w.ends n k d (ap (λ es. end_at es k) (sym more) ∙ there))
  where
    zero_left : moved acts d.who true + 0 ≡ 0
    zero_left = let z : moved acts d.who true ≡ 0 = quiet_ d.who in omega (arith, z)

    by : ((end_at w.ends k ≡ Some d) ⊎ ((k ≡ length w.ends) × (d ≡ n))) → UpTie (run ++ acts) d 0
    by (inl h) =
        step_tie run acts ys d d 0 0 is none (ups_are run w free f k d h standing) refl (record { here_before = standing; more = []; up = sym (append-nil d.up); mark = refl }) zero_left (i k d h standing)
    by (inr h) = subst (λ (x : End). UpTie (run ++ acts) x 0) (sym h.1) (new_tie run acts ys n is none count before (quiet_ n.who) mark)

-- WHERE THE BUS TAKES A MESSAGE
abbrev counts : Bool → ℕ → ℕ
counts true n = suc n
counts false n = n

module _ (run acts : List Act) (w : World) (d : Done) (free : Option ℕ) (at now : Option Work) (f : Front run w free) (b : BusTakes w d) (is : entries_in acts ≡ d.entries) (bytes : ℕ)
    (own : moved acts b.e.who true ≡ bytes) (other : (p : Party) → (p ≡ b.e.who → ⊥) → moved acts p true ≡ 0) where
  abbrev es : List Entry
  es = entries_in run

  abbrev its : carrying.Carried
  its = carrying.takes (record { bus = w.bus; ends = w.ends }) b.conn b.e.who b.said

  abbrev words : List Entry
  words = carrying.bus_entries its.ends its.bus.own its.bus.closings

  abbrev ys : List Entry
  ys = got The_bus b.e.who b.said.message.serial ∷ words

  shaped : Shape w
  shaped = shape run w free f

  wrote : entries_in (run ++ acts) ≡ es ++ ys
  wrote = entries_more run acts ∙ ap (λ l. es ++ l) (is ∙ ap (λ (x : Done). x.entries) b.is)

  free_words : AllByRecursion NotTaken words
  free_words = bus_free its.ends its.bus.own its.bus.closings

  first_counts : (p : Party) (t : Bool) → same_party b.e.who p ≡ t → count_got_by_bus ys p ≡ counts t (count_got_by_bus words p)
  first_counts p t h = ap (λ c. counts c (count_got_by_bus words p)) h

  taken_count : (p : Party) (t : Bool) → same_party b.e.who p ≡ t → count_got_by_bus (entries_in (run ++ acts)) p ≡ count_got_by_bus es p + counts t 0
  taken_count p t h =
      ap (λ l. count_got_by_bus l p) wrote ∙ count_more es ys p
      ∙ ap (λ n. count_got_by_bus es p + n) (first_counts p t h ∙ ap (counts t) (none_taken p words free_words))

  one_more : count_got_by_bus (entries_in (run ++ acts)) b.e.who ≡ count_got_by_bus es b.e.who + 1
  one_more = taken_count b.e.who true (party-same b.e.who)

  no_more : (p : Party) → (p ≡ b.e.who → ⊥) → count_got_by_bus (entries_in (run ++ acts)) p ≡ count_got_by_bus es p
  no_more p differ = by (same_party b.e.who p) refl
    where
      plus_none : (n : ℕ) → n + 0 ≡ n
      plus_none n = omega arith

      by : (t : Bool) → same_party b.e.who p ≡ t → count_got_by_bus (entries_in (run ++ acts)) p ≡ count_got_by_bus es p
      by true h = absurd (differ (sym (same-party b.e.who p h)))
      by false h = taken_count p false h ∙ plus_none (count_got_by_bus es p)

  ups_front : UpsAre run b.e
  ups_front = ups_are run w free f b.conn b.e b.is_here.there b.is_here.standing

  begun_first : UpTie run b.e (ahead_up at b.conn b.e) → b.e.up_moved < size b.said.message
  begun_first t = subst (IsBegun b.e.up_moved) (ap (ups_of b.e.who) b.link) t.begun

  -- the sender
  own_tie : (x : End) (m : ℕ) → x.who ≡ b.e.who → x.up ≡ b.rest → x.up_moved ≡ 0 → UpTie run b.e (ahead_up at b.conn b.e) → (b.e.up_moved + ahead_up at b.conn b.e) + bytes ≡ size b.said.message + m → UpTie (run ++ acts) x m
  own_tie x m who link mark t balance = record {
    moved = subst (λ p. moved (run ++ acts) p true ≡ (sizes (took_up (run ++ acts) p) + x.up_moved) + m) (sym who)
        (moved_more b.e.who true run acts
        ∙ sum (moved run b.e.who true) (moved acts b.e.who true) (sizes (took_up run b.e.who)) b.e.up_moved (ahead_up at b.conn b.e) (size b.said.message) (sizes (took_up (run ++ acts) b.e.who)) x.up_moved
        t.moved own balance total mark);
    begun = subst (IsBegun x.up_moved) (sym (ap₂ ups_of who link)) (subst (λ n. IsBegun n (ups_of b.e.who b.rest)) (sym mark) (begun_anew (ups_of b.e.who b.rest)));
  }
    where
      total : sizes (took_up (run ++ acts) b.e.who) ≡ sizes (took_up run b.e.who) + (size b.said.message + 0)
      total = ap sizes (took_next run acts b.e b.said b.rest ups_front b.link one_more) ∙ sizes_both (took_up run b.e.who) ((b.e.who, b.said.message) ∷ [])

      sum : (x y s u a z s2 k : ℕ) → x ≡ (s + u) + a → y ≡ bytes → (u + a) + bytes ≡ z + m → s2 ≡ s + (z + 0) → k ≡ 0 → x + y ≡ (s2 + k) + m
      sum x y s u a z s2 k h1 h2 h3 h4 h5 = omega (arith, h1, h2, h3, h4, h5)

  abbrev Its : Type 0
  Its = (x : End) → x.who ≡ b.e.who → x.up ≡ b.rest → x.up_moved ≡ 0 → b.e.up_moved < size b.said.message → (b.e.up_moved + ahead_up at b.conn b.e) + bytes ≡ size b.said.message + ahead_up now b.conn x

  abbrev Others : Type 0
  Others = (k : ℕ) (e x : End) → (k ≡ b.conn → ⊥) → SameUp e x → x.standing ≡ here → ahead_up at k e ≡ ahead_up now k x

  took_tied : Its → Others → UpTied run w at → UpTied (run ++ acts) d.world now
  took_tied its_balance others i k x there standing = by ((bus_took_same w d b).back k x there)
    where
      alike : (x y : End) → x ≡ taken_up y → (x.up ≡ rest_of y.up) × (x.up_moved ≡ 0) × (x.who ≡ y.who)
      alike x y h = (ap (λ (z : End). z.up) h, ap (λ (z : End). z.up_moved) h, ap (λ (z : End). z.who) h)

      mine : (y : End) → SameUp y x → end_at w.ends b.conn ≡ Some b.e → k ≡ b.conn → y ≡ taken_up b.e → UpTie (run ++ acts) x (ahead_up now k x)
      mine y s h same is_taken =
          let g : SameLinkUp y x = s.going standing in
          let a = alike y b.e is_taken in
          let t : UpTie run b.e (ahead_up at b.conn b.e) = i b.conn b.e b.is_here.there b.is_here.standing in
          let who : x.who ≡ b.e.who = s.whose ∙ a.2 in
          let link : x.up ≡ b.rest = g.up ∙ a.0 ∙ ap rest_of b.link in
          let mark : x.up_moved ≡ 0 = g.mark ∙ a.1 in
          subst (λ j. UpTie (run ++ acts) x (ahead_up now j x)) (sym same)
          (own_tie x (ahead_up now b.conn x) who link mark t (its_balance x who link mark (begun_first t)))

      theirs : (y : End) → SameUp y x → end_at w.ends k ≡ Some y → (k ≡ b.conn → ⊥) → UpTie (run ++ acts) x (ahead_up now k x)
      theirs y s h differ =
          let g : SameLinkUp y x = s.going standing in
          let away_from : y.who ≡ b.e.who → ⊥ = λ same. differ (shaped.one k b.conn y b.e h b.is_here.there same) in
          let t : UpTie run y (ahead_up at k y) = i k y h g.here_before in
          let u : UpsAre run y = ups_are run w free f k y h g.here_before in
          other_tie g (ahead_up at k y) away_from t u (others k y x differ s standing)
        where
          other_tie : SameLinkUp y x → (n : ℕ) → (y.who ≡ b.e.who → ⊥) → UpTie run y n → UpsAre run y → n ≡ ahead_up now k x → UpTie (run ++ acts) x (ahead_up now k x)
          other_tie g n differ t u same = record {
            moved = subst (λ p. moved (run ++ acts) p true ≡ (sizes (took_up (run ++ acts) p) + x.up_moved) + ahead_up now k x) (sym s.whose)
                (moved_more y.who true run acts ∙ sum (moved run y.who true) (moved acts y.who true) (sizes (took_up run y.who)) y.up_moved (sizes (took_up (run ++ acts) y.who)) x.up_moved (ahead_up now k x) t.moved (other y.who differ)
                (ap sizes (took_same run acts y.who (no_more y.who differ) (within run y u))) g.mark same);
            begun = subst (IsBegun x.up_moved) (sym (ap₂ ups_of s.whose g.up)) (subst (λ j. IsBegun j (ups y)) (sym g.mark) t.begun);
          }
            where
              sum : (x y s u s2 k m : ℕ) → x ≡ (s + u) + n → y ≡ 0 → s2 ≡ s → k ≡ u → n ≡ m → x + y ≡ (s2 + k) + m
              sum x y s u s2 k m h1 h2 h3 h4 h5 = omega (arith, h1, h2, h3, h4, h5)

      by : ((y : End) × (end_at (with_end b.conn taken_up w.ends) k ≡ Some y) × SameUp y x) → UpTie (run ++ acts) x (ahead_up now k x)
      by y = at_case (with_cases taken_up w.ends b.conn k y.0 y.1)
        where
          at_case : ((z : End) × (end_at w.ends k ≡ Some z) × (((k ≡ b.conn) × (y.0 ≡ taken_up z)) ⊎ ((k ≡ b.conn → ⊥) × (y.0 ≡ z)))) → UpTie (run ++ acts) x (ahead_up now k x)
          at_case z = of_case z.2
            where
              of_case : (((k ≡ b.conn) × (y.0 ≡ taken_up z.0)) ⊎ ((k ≡ b.conn → ⊥) × (y.0 ≡ z.0))) → UpTie (run ++ acts) x (ahead_up now k x)
              of_case (inl c) =
                  let same : z.0 ≡ b.e = same_some z.0 b.e (sym z.1 ∙ ap (end_at w.ends) c.0 ∙ b.is_here.there) in
                  mine y.0 y.2 b.is_here.there c.0 (c.1 ∙ ap taken_up same)
              of_case (inr c) = theirs z.0 (subst (λ (q : End). SameUp q x) c.1 y.2) z.1 c.0

-- causes and works
pub no_gets : (w : World) (k conn count : ℕ) (left : Work) → (GoesUp w conn count (gets k) left ⊎ StopsUp w conn (gets k) left) → ⊥
no_gets w k conn count left (inl x) = let h : gets k ≡ routes conn = x.cause_is in cc
no_gets w k conn count left (inr x) = let h : gets k ≡ unjoins conn = x.cause_is in cc

pub no_rest_cause : (w : World) (c : Cause) (left : Work) → next_of w resting ≡ cause c w left → ⊥
no_rest_cause w c left h = cc

turning_down : (left : Work) → IsTurning left → NotUp (Some left)
turning_down (turning count n) t = tt
turning_down draining t = tt
turning_down resting t = tt
turning_down (moving_up conn count) t = absurd t
turning_down (moving_down conn count) t = tt
turning_down (doing c) t = tt

abbrev left_of : Next → Work → Work
left_of (cause c w left) other = left
left_of (rests w) other = other

freed_by : (c : Cause) (conn : ℕ) → freed c ≡ Some conn → c ≡ gets conn
freed_by (gets k) conn h = ap gets (same_some k conn h)
freed_by (renews quota) conn h = absurd (no_none conn h)
freed_by (starts_app name) conn h = absurd (no_none conn h)
freed_by starts_reader conn h = absurd (no_none conn h)
freed_by (edits k edit) conn h = absurd (no_none conn h)
freed_by (calls k name node deed) conn h = absurd (no_none conn h)
freed_by swaps_face conn h = absurd (no_none conn h)
freed_by (exits k) conn h = absurd (no_none conn h)
freed_by (shows k app) conn h = absurd (no_none conn h)
freed_by (tells_busy turns) conn h = absurd (no_none conn h)
freed_by tells_quiet conn h = absurd (no_none conn h)
freed_by (routes k) conn h = absurd (no_none conn h)
freed_by (unjoins k) conn h = absurd (no_none conn h)

-- LINES
apps_free : AppSorts NotTaken
apps_free = record { steps_ = λ app step. tt; sends_ = λ app e. tt; hears_ = λ app listener pattern. tt; deaf_ = λ app listener pattern. tt }

lines_free : LineSorts NotTaken
lines_free = record { app = apps_free; starts_ = λ who name. tt; calls_ = λ who e. tt; exits_ = λ who. tt; shows_ = λ reader app rows. tt }

nobody_new : (run : List Act) (w : World) (free : Option ℕ) → Front run w free → Shape w → (who : Party) → IsNew w who → IsUnknown (ends run) who
nobody_new run w free f s who new = subst (λ ps. IsUnknown ps who) f.ends (unknown_of w.ends who (λ k e h same. not_new w s k e who h new same))

line_tied : (run : List Act) (w : World) (line : Line) (d : Done) → Ran run w None None → Front run w None → Shape w → LineDid w line d → UpTied run w None → UpTied (run ++ begins_line line ∷ map writes d.entries) d.world (Some resting)
line_tied run w line d r f s l i = by line d l (line_all NotTaken lines_free w line d l)
  where
    still : (line : Line) (d : Done) → Over KeepsUp w.ends d.world.ends → AllByRecursion NotTaken d.entries → UpTied (run ++ begins_line line ∷ map writes d.entries) d.world (Some resting)
    still line d o a =
        step_up run (begins_line line ∷ map writes d.entries) d.entries w d.world None None (Some resting) f (entries_written d.entries) a o
        (unmoved (begins_line line ∷ map writes d.entries) w d.world None (Some resting) (λ p. moved_written p true d.entries) tt tt) i

    here_all : Over KeepsUp w.ends w.ends
    here_all = over_same KeepsUp keeping_up w.ends

    joins : (line : Line) (d : Done) (n : End) → d.world.ends ≡ w.ends ++ n ∷ [] → IsNew w n.who → n.up_moved ≡ 0 → AllByRecursion NotTaken d.entries → UpTied (run ++ begins_line line ∷ map writes d.entries) d.world (Some resting)
    joins line d n more new mark a =
        joined_up run (begins_line line ∷ map writes d.entries) d.entries w d.world None n f (entries_written d.entries) a (λ p. moved_written p true d.entries) more
        (none_taken_by n.who new) (none_along run w None None r n.who true (nobody_new run w None f s n.who new)) mark i
      where
        none_taken_by : (who : Party) → IsNew w who → count_got_by_bus (entries_in run) who ≡ 0
        none_taken_by who new = (f.kept (Shaped (And Base Linked)) links_keep).1.1.2 who (fresh_of who new)
          where
            fresh_of : (who : Party) → IsNew w who → IsFresh w who
            fresh_of (App a) h = least_of (app_count w.ends) a h
              where
                least_of : (n k : ℕ) → k ≡ n → n ≤ k
                least_of n k same = omega (arith, same)
            fresh_of (Reader q) h = least_of (reader_count w.ends) q h
              where
                least_of : (n k : ℕ) → k ≡ n → n ≤ k
                least_of n k same = omega (arith, same)
            fresh_of The_bus h = absurd h
            fresh_of Registry h = absurd h

    anew : (quota : ℕ) → length w.ends ≤ 1 → ((2 ≤ length w.ends) ⊎ (w ≡ first_world w.bus.quota)) → Over KeepsUp w.ends (first_world quota).ends
    anew quota few (inl two) = absurd (omega (arith, two, few))
    anew quota few (inr h) = subst (Over KeepsUp w.ends) (ap (λ (x : World). x.ends) h) here_all

    by : (line : Line) (d : Done) → LineDid w line d → AllByRecursion NotTaken d.entries → UpTied (run ++ begins_line line ∷ map writes d.entries) d.world (Some resting)
    by line d (renewed quota few) a = still line d (anew quota (ltb-false 1 (length w.ends) few) s.alone) a
    by line d (app_began name short few) a = joins line d (new_app w name) (app_joined w name) refl refl a
    by line d (reader_began few) a = joins line d (new_reader w) refl refl refl a
    by line d (edited_app app conn edit e before after h who role done_ can) a = still line d (edits_keeps w conn before after) a
    by line d (called_app reader app node conn deed e hearer h who role) a = still line d (calls_keeps w conn _ _) a
    by line d (swapped app) a = still line d here_all a
    by line _ (app_stopped app d b who) a = still line d (stopping_keeps w d b) a
    by line _ (reader_stopped reader d b who) a = still line d (stopping_keeps w d b) a
    by line d (showed reader app conn e hearer there who role) a = still line d here_all a

-- A LINE `bytes` BEGINS
pub bytes_are : (who : Party) (ss : List Said) → said_bytes ss ≡ sizes (ups_of who ss)
bytes_are who [] = refl
bytes_are who (s ∷ ss) = sum (size s.message) (said_bytes ss) (sizes (ups_of who ss)) (bytes_are who ss)
  where
    sum : (a b c : ℕ) → b ≡ c → (a - 0) + b ≡ a + c
    sum a b c h = omega (arith, h)

module _ (w : World) (s : Shape w) (k : ℕ) (e : End) (there : end_at w.ends k ≡ Some e) (standing : e.standing ≡ here) where
  other_line : (conn count : ℕ) (x : End) (st : Standing) → end_at w.ends conn ≡ Some x → (conn ≡ k → ⊥) → moved (up_move count x st) e.who true ≡ 0
  other_line conn count x st h differ = by count st
    where
      apart : e.who ≡ x.who → ⊥
      apart same = differ (s.one conn k x e h there (sym same))

      by : (count : ℕ) (st : Standing) → moved (up_move count x st) e.who true ≡ 0
      by count here = moved_other e.who x.who true true _ apart
      by zero stopped = moved_other e.who x.who true true 0 apart
      by (suc count) stopped = refl
      by zero away = moved_other e.who x.who true true 0 apart
      by (suc count) away = moved_other e.who x.who true true 0 apart

  own_line : (count : ℕ) → moved (up_move count e e.standing) e.who true ≡ min count (sizes (ups e) - e.up_moved)
  own_line count =
      ap (λ st. moved (up_move count e st) e.who true) standing ∙ moved_own e.who true (min count (said_bytes e.up - e.up_moved))
      ∙ ap (λ n. min count (n - e.up_moved)) (bytes_are e.who e.up)

  down_line : (count : ℕ) (x : End) (st : Standing) → moved (down_move count x st) e.who true ≡ 0
  down_line count x here = moved_back e.who x.who _
  down_line count x stopped = moved_back e.who x.who 0
  down_line count x away = moved_back e.who x.who 0

  up_line : (conn count : ℕ) (o : Option End) → end_at w.ends conn ≡ o → moved (at_known o (λ x. up_move count x x.standing)) e.who true ≡ ahead_up (Some (moving_up conn count)) k e
  up_line conn count None h = sym (none_of_other conn count k e (λ same. no_none e (sym h ∙ ap (end_at w.ends) same ∙ there)))
  up_line conn count (Some x) h = by (conn == k) refl
    where
      by : (b : Bool) → (conn == k) ≡ b → moved (up_move count x x.standing) e.who true ≡ ahead_up (Some (moving_up conn count)) k e
      by true g =
          let at : conn ≡ k = eqb-true conn k g in
          let same : x ≡ e = same_some x e (sym h ∙ ap (end_at w.ends) at ∙ there) in
          ap (λ (y : End). moved (up_move count y y.standing) e.who true) same ∙ own_line count ∙ sym (ap (λ b. if b then min count (sizes (ups e) - e.up_moved) else 0) g)
      by false g =
          let differ : conn ≡ k → ⊥ = λ same. false_true (sym g ∙ eq-eqb conn k same) in
          other_line conn count x x.standing h differ ∙ sym (none_of_other conn count k e differ)

  known_line : (o : Option End) (acts : End → List Act) → ((x : End) → moved (acts x) e.who true ≡ 0) → moved (at_known o acts) e.who true ≡ 0
  known_line None acts f = refl
  known_line (Some x) acts f = f x

  line_balance : (work : Work) → moved (line_moves w work) e.who true ≡ ahead_up (Some work) k e
  line_balance (moving_up conn count) = up_line conn count (end_at w.ends conn) refl
  line_balance (moving_down conn count) = known_line (end_at w.ends conn) (λ x. down_move count x x.standing) (λ x. down_line count x x.standing)
  line_balance (turning count left) = refl
  line_balance draining = refl
  line_balance resting = refl
  line_balance (doing c) = refl

began_tied : (run : List Act) (w : World) (line : Line) (work : Work) → Front run w None → Shape w → UpTied run w None → UpTied (run ++ begins_line line ∷ line_moves w work) w (Some work)
began_tied run w line work f s i =
    step_up run (begins_line line ∷ line_moves w work) [] w w None None (Some work) f (no_entries (line_moves w work) (line_moves_are w work)) tt (over_same KeepsUp keeping_up w.ends) balance i
  where
    plus_none : (n m : ℕ) → n ≡ m → n + 0 ≡ m
    plus_none n m h = omega (arith, h)

    balance : Balanced (begins_line line ∷ line_moves w work) w w None (Some work)
    balance k e d there standing after st keeps =
        let same : e ≡ d = same_some e d (sym there ∙ after) in
        plus_none (moved (line_moves w work) e.who true) (ahead_up (Some work) k d) (line_balance w s k e there standing work ∙ ap (ahead_up (Some work) k) same)

-- TURNS
turn_free : (w : World) (c : Cause) (d : Done) → TurnDid w c d → ((b : BusTakes w d) → c ≡ routes b.conn → ⊥) → Shape w → AllByRecursion NotTaken d.entries × Over KeepsUp w.ends d.world.ends
turn_free w _ _ (told_busy turns) n s = ((tt, tt), over_same KeepsUp keeping_up w.ends)
turn_free w _ _ (told_quiet none) n s = ((tt, tt), over_same KeepsUp keeping_up w.ends)
turn_free w _ _ (bus_took d b) n s = absurd (n b refl)
turn_free w _ _ (bus_ended d b) n s =
    let c = carrying.takes_end (record { bus = w.bus; ends = w.ends }) b.conn in
    (subst (λ (x : Done). AllByRecursion NotTaken x.entries) (sym b.is) (bus_free c.ends c.bus.own c.bus.closings), over_map SameUp KeepsUp w.ends d.world.ends same_keeps (bus_ended_same w d b))
turn_free w _ _ (registry_took d b) n s = (
  subst (λ (x : Done). AllByRecursion NotTaken x.entries) (sym b.is) (got_free b.e.who b.letter.from b.letter.said.message.serial (no_bus w b.conn b.e s b.is_here.there), sent_free b.e.who (registry_takes b.before b.letter.said.message).sent),
  registry_keeps w d b,
)
turn_free w _ _ (app_took d b) n s = (
  subst (λ (x : Done). AllByRecursion NotTaken x.entries) (sym b.is) (got_free b.e.who b.letter.from b.letter.said.message.serial (no_bus w b.conn b.e s b.is_here.there), app_all NotTaken apps_free _ (app_takes b.before b.letter.said.message).out),
  app_keeps w d b,
)
turn_free w _ _ (reader_took d b) n s = (
  subst (λ (x : Done). AllByRecursion NotTaken x.entries) (sym b.is) (
    got_free b.e.who b.letter.from b.letter.said.message.serial (no_bus w b.conn b.e s b.is_here.there),
    heard_all NotTaken (λ n app line. tt) (λ n app. tt) (number_of b.e.who) b.hearer (received w b.conn b.e b.letter).ends b.letter,
  ),
  reader_keeps w d b,
)

-- nothing is moved of links to the bus
quiet_turn : (w : World) (c : Cause) → ((conn : ℕ) → c ≡ routes conn → ⊥) → (p : Party) → moved (turn_move w c) p true ≡ 0
quiet_turn w (routes conn) n p = absurd (n conn refl)
quiet_turn w (gets conn) n p = moved_back p (party_at w.ends conn) _
quiet_turn w (unjoins conn) n p = refl
quiet_turn w (renews quota) n p = refl
quiet_turn w (starts_app name) n p = refl
quiet_turn w starts_reader n p = refl
quiet_turn w (edits conn edit) n p = refl
quiet_turn w (calls conn name node deed) n p = refl
quiet_turn w swaps_face n p = refl
quiet_turn w (exits conn) n p = refl
quiet_turn w (shows conn app) n p = refl
quiet_turn w (tells_busy turns) n p = refl
quiet_turn w tells_quiet n p = refl

-- where the bus takes nothing
other_turn : (run moves : List Act) (w : World) (c : Cause) (d : Done) (free : Option ℕ) (at now : Option Work) → Front run w free → Shape w → AllMoves moves → ((p : Party) → moved moves p true ≡ 0) → NotUp at → NotUp now
    → TurnDid w c d → ((b : BusTakes w d) → c ≡ routes b.conn → ⊥) → UpTied run w at → UpTied (run ++ (moves ++ map writes d.entries)) d.world now
other_turn run moves w c d free at now f s m none na nb t n i =
    let x = turn_free w c d t n s in
    step_up run (moves ++ map writes d.entries) d.entries w d.world free at now f (entries_of_both moves d.entries m) x.0 x.1
    (unmoved (moves ++ map writes d.entries) w d.world at now (λ p. moved_of_both p true moves d.entries ∙ none p) na nb) i

-- turns move what is missing
first_missing_is : (w : World) (conn : ℕ) (e : End) (said : Said) (rest : List Said) → end_at w.ends conn ≡ Some e → e.up ≡ said ∷ rest → up_missing (end_at w.ends conn) ≡ size said.message - e.up_moved
first_missing_is w conn e said rest h link = ap up_missing h ∙ ap (λ l. first_missing l e.up_moved) link

party_is : (w : World) (conn : ℕ) (e : End) → end_at w.ends conn ≡ Some e → party_at w.ends conn ≡ e.who
party_is w conn e h = ap whose h

took_turn : (run : List Act) (w : World) (d : Done) (free : Option ℕ) (at now : Option Work) → Front run w free → NotUp at → NotUp now → (b : BusTakes w d) → UpTied run w at
    → UpTied (run ++ (turn_move w (routes b.conn) ++ map writes d.entries)) d.world now
took_turn run w d free at now f na nb b i =
    took_tied run (turn_move w (routes b.conn) ++ map writes d.entries) w d free at now f b (entries_of_both (turn_move w (routes b.conn)) d.entries tt) (size b.said.message - b.e.up_moved) own other its_balance
    (λ k e x differ same st. none_ahead at k e na ∙ sym (none_ahead now k x nb)) i
  where
    its_move : turn_move w (routes b.conn) ≡ moves_bytes b.e.who true (size b.said.message - b.e.up_moved) ∷ []
    its_move = ap₂ (λ p n. moves_bytes p true n ∷ []) (party_is w b.conn b.e b.is_here.there) (first_missing_is w b.conn b.e b.said b.rest b.is_here.there b.link)

    own : moved (turn_move w (routes b.conn) ++ map writes d.entries) b.e.who true ≡ size b.said.message - b.e.up_moved
    own = moved_of_both b.e.who true (turn_move w (routes b.conn)) d.entries ∙ ap (λ l. moved l b.e.who true) its_move ∙ moved_own b.e.who true (size b.said.message - b.e.up_moved)

    other : (p : Party) → (p ≡ b.e.who → ⊥) → moved (turn_move w (routes b.conn) ++ map writes d.entries) p true ≡ 0
    other p differ = moved_of_both p true (turn_move w (routes b.conn)) d.entries ∙ ap (λ l. moved l p true) its_move ∙ moved_other p b.e.who true true (size b.said.message - b.e.up_moved) differ

    its_balance : (x : End) → x.who ≡ b.e.who → x.up ≡ b.rest → x.up_moved ≡ 0 → b.e.up_moved < size b.said.message
        → (b.e.up_moved + ahead_up at b.conn b.e) + (size b.said.message - b.e.up_moved) ≡ size b.said.message + ahead_up now b.conn x
    its_balance x who link mark less =
        sum (ahead_up at b.conn b.e) (ahead_up now b.conn x) (none_ahead at b.conn b.e na) (none_ahead now b.conn x nb) less
      where
        sum : (n m : ℕ) → n ≡ 0 → m ≡ 0 → b.e.up_moved < size b.said.message → (b.e.up_moved + n) + (size b.said.message - b.e.up_moved) ≡ size b.said.message + m
        sum n m p q h = omega (arith, p, q, h)

turns_tied : (run : List Act) (w : World) (c : Cause) (d : Done) (free : Option ℕ) (at now : Option Work) → Front run w free → Shape w → AllMoves (turn_move w c) → NotUp at → NotUp now → TurnDid w c d → UpTied run w at
    → UpTied (run ++ (turn_move w c ++ map writes d.entries)) d.world now
turns_tied run w _ _ free at now f s m na nb (bus_took d b) i = took_turn run w d free at now f na nb b i
turns_tied run w _ _ free at now f s m na nb (told_busy turns) i = other_turn run [] w (tells_busy turns) (only w (busy turns ∷ [])) free at now f s tt (λ p. refl) na nb (told_busy turns) (λ b h. absurd cc) i
turns_tied run w _ _ free at now f s m na nb (told_quiet none) i = other_turn run [] w tells_quiet (only w (quiet ∷ [])) free at now f s tt (λ p. refl) na nb (told_quiet none) (λ b h. absurd cc) i
turns_tied run w _ _ free at now f s m na nb (bus_ended d b) i =
    other_turn run (turn_move w (unjoins b.conn)) w (unjoins b.conn) d free at now f s tt (λ p. refl) na nb (bus_ended d b) (λ x h. absurd cc) i
turns_tied run w _ _ free at now f s m na nb (registry_took d b) i =
    other_turn run (turn_move w (gets b.conn)) w (gets b.conn) d free at now f s tt (λ p. moved_back p (party_at w.ends b.conn) _) na nb (registry_took d b) (λ x h. absurd cc) i
turns_tied run w _ _ free at now f s m na nb (app_took d b) i =
    other_turn run (turn_move w (gets b.conn)) w (gets b.conn) d free at now f s tt (λ p. moved_back p (party_at w.ends b.conn) _) na nb (app_took d b) (λ x h. absurd cc) i
turns_tied run w _ _ free at now f s m na nb (reader_took d b) i =
    other_turn run (turn_move w (gets b.conn)) w (gets b.conn) d free at now f s tt (λ p. moved_back p (party_at w.ends b.conn) _) na nb (reader_took d b) (λ x h. absurd cc) i

-- bytes of a line
abbrev first_said : Said → List Said → Said
first_said x [] = x
first_said x (y ∷ rest) = y

abbrev conn_in : Cause → ℕ → ℕ
conn_in (routes conn) other = conn
conn_in (unjoins conn) other = conn
conn_in (gets conn) other = conn
conn_in c other = other

goes_tied : (run : List Act) (w : World) (d : Done) (free : Option ℕ) (conn count : ℕ) (left : Work) (b : BusTakes w d) → Front run w free → GoesUp w conn count (routes b.conn) left → UpTied run w (Some (moving_up conn count))
    → UpTied (run ++ map writes d.entries) d.world (Some left)
goes_tied run w d free conn count left b f g i =
    subst (λ l. UpTied (run ++ map writes d.entries) d.world (Some l)) (sym left_now)
    (took_tied run (map writes d.entries) w d free at now f b (entries_written d.entries) 0 (moved_written b.e.who true d.entries) (λ p differ. moved_written p true d.entries) its_balance others
    (subst (λ k. UpTied run w (Some (moving_up k count))) (sym same) i))
  where
    same : b.conn ≡ conn
    same = ap (λ c. conn_in c conn) g.cause_is

    its_end : g.e ≡ b.e
    its_end = same_some g.e b.e (sym g.there ∙ ap (end_at w.ends) (sym same) ∙ b.is_here.there)

    its_first : g.said ≡ b.said
    its_first = ap (first_said g.said) (sym g.link ∙ ap (λ (x : End). x.up) its_end ∙ b.link)

    lacks : ℕ
    lacks = size b.said.message - b.e.up_moved

    missing_is : size g.said.message - g.e.up_moved ≡ lacks
    missing_is = ap₂ (λ (m : Said) (x : End). size m.message - x.up_moved) its_first its_end

    enough : lacks ≤ count
    enough = subst (λ n. n ≤ count) missing_is g.enough

    at : Option Work
    at = Some (moving_up b.conn count)

    now : Option Work
    now = Some (moving_up b.conn (count - lacks))

    left_now : left ≡ moving_up b.conn (count - lacks)
    left_now = g.left_is ∙ ap₂ (λ k n. moving_up k (count - n)) (sym same) missing_is

    others : (k : ℕ) (e x : End) → (k ≡ b.conn → ⊥) → SameUp e x → x.standing ≡ here → ahead_up at k e ≡ ahead_up now k x
    others k e x differ s st = none_of_other b.conn count k e (λ h. differ (sym h)) ∙ sym (none_of_other b.conn (count - lacks) k x (λ h. differ (sym h)))

    its_balance : (x : End) → x.who ≡ b.e.who → x.up ≡ b.rest → x.up_moved ≡ 0 → b.e.up_moved < size b.said.message → (b.e.up_moved + ahead_up at b.conn b.e) + 0 ≡ size b.said.message + ahead_up now b.conn x
    its_balance x who link mark less =
        sum (ahead_up at b.conn b.e) (ahead_up now b.conn x) (sizes (ups b.e)) (sizes (ups x)) x.up_moved
        (ahead_here b.conn count b.e) (ahead_here b.conn (count - lacks) x) (ap (λ l. sizes (ups_of b.e.who l)) b.link ∙ ap (λ l. size b.said.message + sizes l) (sym (ap₂ ups_of who link))) mark less enough
      where
        sum : (n m all rest k : ℕ) → n ≡ min count (all - b.e.up_moved) → m ≡ min (count - lacks) (rest - k) → all ≡ size b.said.message + rest → k ≡ 0 → b.e.up_moved < size b.said.message → lacks ≤ count
            → (b.e.up_moved + n) + 0 ≡ size b.said.message + m
        sum n m all rest k h1 h2 h3 h4 h5 h6 = omega (arith, h1, h2, h3, h4, h5, h6)

stops_tied : (run : List Act) (w : World) (d : Done) (free : Option ℕ) (conn count : ℕ) (left : Work) (b : BusEnds w d) → Front run w free → StopsUp w conn (unjoins b.conn) left → UpTied run w (Some (moving_up conn count))
    → UpTied (run ++ (stopped_move w (unjoins b.conn) ++ map writes d.entries)) d.world (Some left)
stops_tied run w d free conn count left b f g i =
    subst (λ l. UpTied (run ++ (stopped_move w (unjoins b.conn) ++ map writes d.entries)) d.world (Some l)) (sym g.left_is)
    (step_up run (stopped_move w (unjoins b.conn) ++ map writes d.entries) d.entries w d.world free (Some (moving_up conn count)) (Some resting) f (entries_of_both (stopped_move w (unjoins b.conn)) d.entries tt)
    (subst (λ (x : Done). AllByRecursion NotTaken x.entries) (sym b.is) (bus_free its.ends its.bus.own its.bus.closings)) (over_map SameUp KeepsUp w.ends d.world.ends same_keeps (bus_ended_same w d b)) balance i)
  where
    its : carrying.Carried
    its = carrying.takes_end (record { bus = w.bus; ends = w.ends }) b.conn

    zeros : (a b : ℕ) → a ≡ 0 → b ≡ 0 → a + b ≡ 0
    zeros a b p q = omega (arith, p, q)

    balance : Balanced (stopped_move w (unjoins b.conn) ++ map writes d.entries) w d.world (Some (moving_up conn count)) (Some resting)
    balance k e x there standing after st keeps =
        zeros (moved (stopped_move w (unjoins b.conn) ++ map writes d.entries) e.who true) (ahead_up (Some (moving_up conn count)) k e) (moved_of_both e.who true (stopped_move w (unjoins b.conn)) d.entries)
        (none_of_other conn count k e differ)
      where
        differ : conn ≡ k → ⊥
        differ h =
            let same : g.e ≡ e = same_some g.e e (sym g.there ∙ ap (end_at w.ends) h ∙ there) in
            not_stopped (sym g.standing ∙ ap (λ (y : End). y.standing) same ∙ standing)

moving_tied : (run : List Act) (w : World) (c : Cause) (d : Done) (free : Option ℕ) (conn count : ℕ) (left : Work) → Front run w free → TurnDid w c d → (GoesUp w conn count c left ⊎ StopsUp w conn c left) → UpTied run w (Some (moving_up conn count))
    → UpTied (run ++ (stopped_move w c ++ map writes d.entries)) d.world (Some left)
moving_tied run w _ _ free conn count left f (bus_took d b) (inl g) i = goes_tied run w d free conn count left b f g i
moving_tied run w _ _ free conn count left f (bus_took d b) (inr g) i = absurd (no_unjoin g.cause_is)
  where
    no_unjoin : routes b.conn ≡ unjoins conn → ⊥
    no_unjoin h = cc
moving_tied run w _ _ free conn count left f (bus_ended d b) (inr g) i = stops_tied run w d free conn count left b f g i
moving_tied run w _ _ free conn count left f (bus_ended d b) (inl g) i = absurd (no_route g.cause_is)
  where
    no_route : unjoins b.conn ≡ routes conn → ⊥
    no_route h = cc
moving_tied run w _ _ free conn count left f (told_busy turns) g i = absurd (neither g)
  where
    neither : (GoesUp w conn count (tells_busy turns) left ⊎ StopsUp w conn (tells_busy turns) left) → ⊥
    neither (inl x) = let h : tells_busy turns ≡ routes conn = x.cause_is in cc
    neither (inr x) = let h : tells_busy turns ≡ unjoins conn = x.cause_is in cc
moving_tied run w _ _ free conn count left f (told_quiet none) g i = absurd (neither g)
  where
    neither : (GoesUp w conn count tells_quiet left ⊎ StopsUp w conn tells_quiet left) → ⊥
    neither (inl x) = let h : tells_quiet ≡ routes conn = x.cause_is in cc
    neither (inr x) = let h : tells_quiet ≡ unjoins conn = x.cause_is in cc
moving_tied run w _ _ free conn count left f (registry_took d b) g i = absurd (no_gets w b.conn conn count left g)
moving_tied run w _ _ free conn count left f (app_took d b) g i = absurd (no_gets w b.conn conn count left g)
moving_tied run w _ _ free conn count left f (reader_took d b) g i = absurd (no_gets w b.conn conn count left g)

-- THE LINE RESTS
rested_up : (run : List Act) (w v : World) (conn count : ℕ) → UpRest w v conn count → UpTied run w (Some (moving_up conn count)) → UpTied run v None
rested_up run w v conn count (stays same none) i = subst (λ u. UpTied run u None) (sym same) still
  where
    still : UpTied run w None
    still k e there standing = by (conn == k) refl (i k e there standing)
      where
        by : (b : Bool) → (conn == k) ≡ b → UpTie run e (ahead_up (Some (moving_up conn count)) k e) → UpTie run e 0
        by false g t = subst (UpTie run e) (ap (λ b. if b then min count (sizes (ups e) - e.up_moved) else 0) g) t
        by true g t =
            let link : e.up ≡ [] = none e (ap (end_at w.ends) (eqb-true conn k g) ∙ there) standing in
            let all : sizes (ups e) ≡ 0 = ap (λ l. sizes (ups_of e.who l)) link in
            let capped : min count (sizes (ups e) - e.up_moved) ≡ 0 = nothing (sizes (ups e)) all in
            subst (UpTie run e) (ap (λ b. if b then min count (sizes (ups e) - e.up_moved) else 0) g ∙ capped) t
          where
            nothing : (n : ℕ) → n ≡ 0 → min count (n - e.up_moved) ≡ 0
            nothing n h = omega (arith, h)
rested_up run w v conn count (goes_on e said rest there standing link less same) i = subst (λ u. UpTied run u None) (sym same) further
  where
    mark : End → End
    mark x = record x { up_moved = x.up_moved + count }

    further : UpTied run (moved_up w conn count) None
    further k x at st = by (with_cases mark w.ends conn k x at)
      where
        of_other : (y : End) → (k ≡ conn → ⊥) → end_at w.ends k ≡ Some y → x ≡ y → UpTie run x 0
        of_other y differ h is =
            subst (UpTie run x) (none_of_other conn count k x (λ g. differ (sym g)))
            (i k x (h ∙ ap Some (sym is)) st)

        own : (y : End) → y ≡ e → x ≡ mark y → UpTie run x 0
        own y is changed =
            let x_is : x ≡ mark e = changed ∙ ap mark is in
            let t : UpTie run e (min count (sizes (ups e) - e.up_moved)) = subst (UpTie run e) (ahead_here conn count e) (i conn e there standing) in
            let all : sizes (ups e) ≡ size said.message + sizes (ups_of e.who rest) = ap (λ l. sizes (ups_of e.who l)) link in
            subst (λ (z : End). UpTie run z 0) (sym x_is) (record {
              moved = sum (moved run e.who true) (sizes (took_up run e.who)) (min count (sizes (ups e) - e.up_moved)) (sizes (ups e)) (sizes (ups_of e.who rest)) t.moved refl all less;
              begun = subst (IsBegun (e.up_moved + count)) (sym (ap (ups_of e.who) link)) (below less);
            })
          where
            below : count < size said.message - e.up_moved → e.up_moved + count < size said.message
            below h = omega (arith, h)

            sum : (m s n all r : ℕ) → m ≡ (s + e.up_moved) + n → n ≡ min count (all - e.up_moved) → all ≡ size said.message + r → count < size said.message - e.up_moved → m ≡ (s + (e.up_moved + count)) + 0
            sum m s n all r h1 h2 h3 h4 = omega (arith, h1, h2, h3, h4)

        by : ((y : End) × (end_at w.ends k ≡ Some y) × (((k ≡ conn) × (x ≡ mark y)) ⊎ ((k ≡ conn → ⊥) × (x ≡ y)))) → UpTie run x 0
        by y = of_case y.2
          where
            of_case : (((k ≡ conn) × (x ≡ mark y.0)) ⊎ ((k ≡ conn → ⊥) × (x ≡ y.0))) → UpTie run x 0
            of_case (inl c) = own y.0 (same_some y.0 e (sym y.1 ∙ ap (end_at w.ends) c.0 ∙ there)) c.1
            of_case (inr c) = of_other y.0 c.0 y.1 c.1

down_over : (w v : World) (conn count : ℕ) → DownRest w v conn count → Over KeepsUp w.ends v.ends
down_over w v conn count (stays same none) = subst (λ (x : World). Over KeepsUp w.ends x.ends) (sym same) (over_same KeepsUp keeping_up w.ends)
down_over w v conn count (goes_on e letter rest there standing link less same) =
    subst (λ (x : World). Over KeepsUp w.ends x.ends) (sym same) (acts_over w conn (λ e. record e { down_moved = e.down_moved + count }) (λ x. as_before x (record x { down_moved = x.down_moved + count }) refl refl refl refl))

other_rests : (w v : World) (work : Work) → NotUp (Some work) → next_of w work ≡ rests v → Over KeepsUp w.ends v.ends
other_rests w v (moving_up conn count) n h = absurd n
other_rests w v (moving_down conn count) n h = down_over w v conn count (down_rests w v conn count h)
other_rests w v (turning count left) n h = subst (λ (x : World). Over KeepsUp w.ends x.ends) (sym (turns_rest w v count left h)) (over_same KeepsUp keeping_up w.ends)
other_rests w v draining n h = subst (λ (x : World). Over KeepsUp w.ends x.ends) (sym (drain_rests w v h)) (over_same KeepsUp keeping_up w.ends)
other_rests w v resting n h = subst (λ (x : World). Over KeepsUp w.ends x.ends) (sym (still_rests w v h)) (over_same KeepsUp keeping_up w.ends)
other_rests w v (doing c) n h = absurd (none_rests w v c h)

still_rested : (run : List Act) (w v : World) (free : Option ℕ) (work : Work) → Front run w free → NotUp (Some work) → next_of w work ≡ rests v → UpTied run w (Some work) → UpTied run v None
still_rested run w v free work f n h i =
    subst (λ l. UpTied l v None) (append-nil run)
    (step_up run [] [] w v free (Some work) None f refl tt (other_rests w v work n h) (unmoved [] w v (Some work) None (λ p. refl) n tt) i)

rested_tied : (run : List Act) (w v : World) (free : Option ℕ) (work : Work) → Front run w free → next_of w work ≡ rests v → UpTied run w (Some work) → UpTied run v None
rested_tied run w v free (moving_up conn count) f h i = rested_up run w v conn count (up_rests w v conn count h) i
rested_tied run w v free (moving_down conn count) f h i = still_rested run w v free (moving_down conn count) f tt h i
rested_tied run w v free (turning count left) f h i = still_rested run w v free (turning count left) f tt h i
rested_tied run w v free draining f h i = still_rested run w v free draining f tt h i
rested_tied run w v free resting f h i = still_rested run w v free resting f tt h i
rested_tied run w v free (doing c) f h i = absurd (none_rests w v c h)

-- WHO MAY SEND A CALL OF ITS OWN took a message: no line moves bytes to the bus
gets_down : (w : World) (work left : Work) (c : Cause) (conn : ℕ) → next_of w work ≡ cause c w left → c ≡ gets conn → NotUp (Some left)
gets_down w (moving_up n count) left c conn h is = absurd (no_gets w conn n count left (subst (λ x. GoesUp w n count x left ⊎ StopsUp w n x left) is (up_goes w n count c left h)))
gets_down w (moving_down n count) left c conn h is = subst (λ l. NotUp (Some l)) (sym (down_goes w n count c left h).left_is) tt
gets_down w (turning count n) left c conn h is = turning_down left (turns_leave w count n c left h)
gets_down w draining left c conn h is = turning_down left (drain_leaves w c left h)
gets_down w resting left c conn h is = absurd (no_rest_cause w c left h)
gets_down w (doing d) left c conn h is = subst (λ l. NotUp (Some l)) (ap (λ n. left_of n left) h) tt

pub free_down : (run : List Act) (w : World) (free : Option ℕ) (at : Option Work) → Ran run w free at → (conn : ℕ) → free ≡ Some conn → NotUp at
free_down _ _ _ _ nothing_yet conn h = tt
free_down _ _ _ _ (did run w line c r ok can is a) conn h = tt
free_down _ _ _ _ (began run w line r ok can b) conn h = absurd (no_none conn h)
free_down _ _ _ _ (caused run w free work left c r is b a) conn h = gets_down w work left c conn is (freed_by c conn h)
free_down _ _ _ _ (rested run w v free work r is m well) conn h = tt
free_down _ _ _ _ (asked run w k q m question work r a) conn h = absurd (no_none conn h)

-- ALONG A RUN
caused_tied : (run : List Act) (w : World) (free : Option ℕ) (work left : Work) (c : Cause) → Front run w free → Shape w → IsBare work → next_of w work ≡ cause c w left → TurnDid w c (does w c) → UpTied run w (Some work)
    → UpTied (run ++ (moves_for w work c ++ map writes (does w c).entries)) (does w c).world (Some left)
caused_tied run w free (turning count n) left c f s b is t i =
    turns_tied run w c (does w c) free (Some (turning count n)) (Some left) f s (moves_are w (turning count n) c) tt (turning_down left (turns_leave w count n c left is)) t i
caused_tied run w free draining left c f s b is t i =
    turns_tied run w c (does w c) free (Some draining) (Some left) f s (moves_are w draining c) tt (turning_down left (drain_leaves w c left is)) t i
caused_tied run w free (moving_up conn count) left c f s b is t i = moving_tied run w c (does w c) free conn count left f t (up_goes w conn count c left is) i
caused_tied run w free (moving_down conn count) left c f s b is t i =
    let g : GoesDown w conn count c left = down_goes w conn count c left is in
    other_turn run [] w c (does w c) free (Some (moving_down conn count)) (Some left) f s tt (λ p. refl) tt (subst (λ l. NotUp (Some l)) (sym g.left_is) tt) t (λ x h. no_route x.conn (sym h ∙ g.cause_is)) i
  where
    no_route : (k : ℕ) → routes k ≡ gets conn → ⊥
    no_route k h = cc
caused_tied run w free resting left c f s b is t i = absurd (no_rest_cause w c left is)
caused_tied run w free (doing x) left c f s b is t i = absurd b

first_tied : UpTied [] (first_world QUOTA_MOST) (Some resting)
first_tied zero e there standing = subst (λ (x : End). UpTie [] x 0) (same_some first_registry e there) (record { moved = refl; begun = refl })
first_tied (suc k) e there standing = absurd (no_none e there)

pub up_tied : (run : List Act) (w : World) (free : Option ℕ) (at : Option Work) → Ran run w free at → Lives (entries_in run) → UpTied run w at
up_tied _ _ _ _ nothing_yet live = first_tied
up_tied _ _ _ _ (did run w line c r ok can is a) live =
    let before : Lives (entries_in run) = lived_before run (begins_line line ∷ map writes (does w c).entries) live in
    let s : Shape w = shape_along run w None None r in
    line_tied run w line (does w c) r (front_of run w None None r before) s (line_did w line c s ok can a is) (up_tied run w None None r before)
up_tied _ _ _ _ (began run w line r ok can b) live =
    let before : Lives (entries_in run) = lived_before run (begins_line line ∷ line_moves w (work_of w line)) live in
    began_tied run w line (work_of w line) (front_of run w None None r before) (shape_along run w None None r) (up_tied run w None None r before)
up_tied _ _ _ _ (caused run w free work left c r is b a) live =
    let before : Lives (entries_in run) = lived_before run (moves_for w work c ++ map writes (does w c).entries) live in
    let s : Shape w = shape_along run w free (Some work) r in
    caused_tied run w free work left c (front_of run w free (Some work) r before) s b is (turn_did w c s (bare_quiet w work left c b is) a) (up_tied run w free (Some work) r before)
up_tied _ _ _ _ (rested run w v free work r is m well) live = rested_tied run w v free work (front_of run w free (Some work) r live) is (up_tied run w free (Some work) r live)
up_tied _ _ _ _ (asked run w conn q m question work r a) live =
    let before : Lives (entries_in run) = lived_before run (writes (sent (Reader q) m) ∷ []) live in
    let down : NotUp work = free_down run w (Some conn) work r conn refl in
    step_up run (writes (sent (Reader q) m) ∷ []) (sent (Reader q) m ∷ []) w (at_end w conn (asks_at m question)) (Some conn) work work (front_of run w (Some conn) work r before) refl (tt, tt) (asked_keeps w conn m question)
    (unmoved (writes (sent (Reader q) m) ∷ []) w (at_end w conn (asks_at m question)) work work (λ p. refl) down down) (up_tied run w (Some conn) work r before)
