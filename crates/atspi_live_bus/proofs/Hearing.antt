-- The turn of a link, call behind call.
use Rattle.std.proofs.Common.{◌≡◌, ℕ, ◌<◌, ◌≤◌, ◌==◌, Bool, true, false, List, [], ◌∷◌, ◌++◌, length, suc, zero, slice_index_or, slice_set, Option, None, Some, Result, Ok, Err, refl, sym, ap, subst, ◌∙◌, inl, inr, append_assoc, append-nil, arith}
use Rattle.std.specs.Prelude.{◌⊎◌, MatchResult}
use Rattle.std.specs.List.{position, remove}
use Rattle.std.proofs.lemmas.List.Quantifiers.{position-Some}
use Rattle.std.proofs.lemmas.Bool.Decides.{eqb_tells}
use lib.ListN.{get_or}
use Rattle.atspi_message.specs.Envelope.{Envelope}
use Rattle.atspi_match.specs.declared.routing.closing.Closing.{Closing}
use Rattle.atspi_bus.specs.declared.bus.Bus.{Bus}
use Rattle.atspi_bus.specs.View.{bus_of, given_of}
use Rattle.atspi_live_host.specs.Calls.{IsOpen, taken, given}
use Rattle.atspi_live_host.specs.declared.call.Did.{Did}
use Rattle.atspi_live_host.specs.declared.call.Did.TheVariants.{Done, NotYet, End, Failed}
use Rattle.atspi_live_host.specs.declared.call.Call.{Call}
use Rattle.atspi_live_host.specs.declared.call.Call.TheVariants.{Read}
use Rattle.atspi_live_bus.specs.declared.link.Link.{Link}
use Rattle.atspi_live_bus.specs.declared.link.Next.TheVariants as next
use Rattle.atspi_live_bus.specs.declared.stop.Stop.{Stop}
use Rattle.atspi_live_bus.specs.declared.stop.Stop.TheVariants as stops
use Rattle.atspi_live_bus.specs.Asked.{taking, Leads, Runs, Spends, messages_of, handed_to}
use Rattle.atspi_live_bus.specs.Closes.{AreShut, AreTaken, Attends, Ceases, Follows, FollowsRead, FollowsWrite, IsBad, IsLost, IsRest, Parts}
use Rattle.atspi_live_bus.specs.Course.{Course, HandsOut, Steps}
use Rattle.atspi_live_bus.specs.Opened.{open_from}
use Rattle.atspi_live_bus.specs.Rounds.{IsGift, MayGive}
use Rattle.atspi_live_bus.specs.inner.Rounds.{Does, GoesOn, Moves}
use Rattle.atspi_live_bus.specs.inner.Seats.{AreLeft, BothDo, HasRead, HasReadOnly, HasSent, Hears, Leaves, MayTake, Settles, Takes, TakesAll, TakesCut, TakesNone, TakesSome, Writes, conn_at, left, number_at, numbers_of, seats}
use Rattle.atspi_live_bus.specs.Service.{IsSaid, IsSpeech}
use Rattle.atspi_live_bus.specs.inner.Serving.{Serves}
use Rattle.atspi_live_bus.specs.Stops.{IsWant}
use Rattle.atspi_live_bus.specs.Turns.{Converses, StopsAt, Tells}
use Rattle.atspi_live_bus.specs.inner.Turns.{Gives, Goes, IsSeated, OthersRest, Remains}
use Rattle.atspi_live_bus.proofs.Asking.{one_run, taken_one, taking_of_one}
use Rattle.atspi_live_bus.proofs.Calling.{given_still, others_read, taken_more, takes_read}
use Rattle.atspi_live_bus.proofs.Conversing.{converses_same}
use Rattle.atspi_live_bus.proofs.Giving.{HasWritten, has_written}
use Rattle.atspi_live_bus.proofs.Going.{course_of, each_at, lost_goes, on_none, on_with, remove_set, rest_goes, same_goes, same_some, stopped_at, turned_goes, want_stops}
use Rattle.atspi_live_bus.proofs.Placing.{first_place, none_further, position_first, some_none}
use Rattle.atspi_live_bus.proofs.Shutting.{conn_is, conn_set, left_both, number_open, number_set, number_there, seat_at, seats_set, stepped, taken_past}
use Rattle.atspi_live_bus.proofs.Telling.{moves_both, moves_if, moves_none, moves_of, moves_step}
use Rattle.atspi_live_bus.proofs.Turning.{for_closes, numbers_left, open_both, taken_closes}

-- a link that was found by its number
true_false : true ≡ false → ⊥
true_false e = cc

number_got : (links : List Link) (at : ℕ) (d : Link) → at < length links → (get_or links at d).number ≡ number_at links at
number_got [] at d h = absurd (omega (arith, h))
number_got (l ∷ ls) zero d h = refl
number_got (l ∷ ls) (suc at) d h = number_got ls at d (omega (arith, h))

-- a link that was not
none_there : (number : ℕ) (links : List Link) → first_place (λ (l : Link). l.number == number) links ≡ None → IsOpen number (numbers_of (seats links)) → ⊥
none_there number [] e o = o
none_there number (l ∷ ls) e o = elim (eqb_tells l.number number) [
  | inl f ↦ absurd (some_none 0 (rw f.0 at e))
  | inr f ↦
      let p : (l.number ≡ number) ⊎ IsOpen number (numbers_of (seats ls)) = o in
      elim p [ inl s ↦ f.1 s | inr s ↦ none_there number ls (none_further (first_place (λ (x : Link). x.number == number) ls) (rw f.0 at e)) s ]
]

not_open : (links : List Link) (number : ℕ) → None ≡ position (λ (l : Link). l.number == number) links → IsOpen number (numbers_of (seats links)) → ⊥
not_open links number e o = none_there number links (sym (position_first (λ (l : Link). l.number == number) links) ∙ sym e) o

found : (links : List Link) (at number : ℕ) → at < length links → Some at ≡ position (λ (l : Link). l.number == number) links → number_at links at ≡ number
found [] at number h e = absurd (omega (arith, h))
found (l ∷ ls) at number h e =
    let p = position-Some (λ (x : Link). x.number == number) (l ∷ ls) at l (sym e) in
    elim (eqb_tells (number_at (l ∷ ls) at) number) [
      | inl f ↦ f.1
      | inr f ↦ absurd (true_false (sym (ap (λ (k : ℕ). k == number) (sym (number_got (l ∷ ls) at l h)) ∙ p.1) ∙ f.0))
    ]

-- the connection of a link at its place
seated_conn : (b : Bus) (links : List Link) (x : Course) (cs : List Call) (at c : ℕ) (l : Link) → at < length links → l ≡ slice_index_or links at l → Goes b links x cs → x.conn l.number ≡ Some c → c ≡ l.conn
seated_conn b links x cs at c l h e g s =
    same_some c l.conn (sym s ∙ ap (λ (k : ℕ). x.conn k) (sym (number_there links at l h e)) ∙ seat_at b links x cs at h g ∙ ap (λ (d : ℕ). Some d) (sym (conn_is links at l h e)))

-- what the calls leave, of links of the same numbers and connections
left_same : (whole : Bool) (a b c : List Link) (calls : List Call) → seats b ≡ seats a → AreLeft whole b c calls → AreLeft whole a c calls
left_same true a b c calls e s = s ∙ ap (λ (w : List (ℕ × ℕ)). left w calls) e
left_same false a b c calls e s = tt

left_behind : (whole : Bool) (a b c : List Link) (xs ys : List Call) → seats b ≡ left (seats a) xs → AreLeft whole b c ys → AreLeft whole a c (xs ++ ys)
left_behind true a b c xs ys e s = s ∙ ap (λ (w : List (ℕ × ℕ)). left w ys) e ∙ sym (left_both (seats a) xs ys)
left_behind false a b c xs ys e s = tt

-- nothing asked, and nothing said more
as_before : (m : List Envelope) (h : List ℕ) (l : Link) (t g : List ℕ) → Converses m h l t g → Converses (m ++ []) (h ++ []) l t g
as_before m h l t g v = converses_same m (m ++ []) h (h ++ []) l t t g g (append-nil m) (append-nil h) refl refl v

-- a link that heard or said something, and was asked nothing for
turned_same : (b b' : Bus) (links : List Link) (at : ℕ) (l m : Link) (o : List ℕ) (x : Course) (cs cs' : List Call) → at < length links → l ≡ slice_index_or links at l → Serves o links → m.number ≡ l.number → m.conn ≡ l.conn
    → bus_of b' ≡ bus_of b → given_of b' ≡ given_of b → OthersRest l.number cs cs'
    → ((took : List Envelope) (handed : List ℕ) → Converses took handed l (taken l.number cs) (given l.number cs) → Converses took handed m (taken l.number cs') (given l.number cs')) → Goes b links x cs → Goes b' (slice_set links at m) x cs'
turned_same b b' links at l m o x cs cs' h e s number conn same counted rest f g =
    subst (λ (y : Course). Goes b' (slice_set links at m) y cs') (on_none x b' (g.bus_is ∙ sym same))
    (turned_goes b b' links at l m o x cs cs' [] h e s number conn same counted (λ d n. (refl, refl)) rest (λ took handed v. as_before took handed m (taken l.number cs') (given l.number cs') (f took handed v)) g)

-- a read, and what is known of the link behind it
abbrev Shows : Bool → Did → List ℕ → Type 0
Shows true did t = IsLost did t → ⊥
Shows false did t = IsLost did t

abbrev ReadOf : Bool → ℕ → Course → List Call → List Call → Course → Type 0
ReadOf goes_on k x past calls y = (y ≡ x) × (bytes : List ℕ) × (did : Did) × (length bytes ≤ 4096) × (calls ≡ Read k bytes did ∷ []) × Shows goes_on did (taken k (past ++ Read k bytes did ∷ []))

taken_read : (k : ℕ) (past : List Call) (bytes : List ℕ) (did : Did) → taken k (past ++ Read k bytes did ∷ []) ≡ taken k past ++ bytes
taken_read k past bytes did = taken_more k past (Read k bytes did) ∙ ap (λ (w : List ℕ). taken k past ++ w) (takes_read k bytes did)

shows : (goes_on : Bool) (did : Did) (took : List Envelope) (handed : List ℕ) (m : Link) (t g : List ℕ) → Remains goes_on did took handed m t g → Shows goes_on did t
shows true did took handed m t g r = r.0
shows false did took handed m t g r = r.0

of_read : (goes_on : Bool) (b : Bus) (links : List Link) (at : ℕ) (l m : Link) (x : Course) (past calls : List Call) → at < length links → l ≡ slice_index_or links at l → Goes b links x past → HasRead l.number goes_on l m past calls → ReadOf goes_on l.number x past calls x
of_read goes_on b links at l m x past calls h e g d =
    let here : IsSeated x.asked x.conn past l = each_at (λ n. IsSeated x.asked x.conn past n) links at l h e g.each in (
      refl,
      d.0,
      d.1,
      d.2,
      d.3,
      subst (λ (t : List ℕ). Shows goes_on d.1 t) (sym (taken_read l.number past d.0 d.1))
          (shows goes_on d.1 (messages_of l.conn x.asked) (handed_to l.conn x.asked) m (taken l.number past ++ d.0) (given l.number past) (d.4 (messages_of l.conn x.asked) (handed_to l.conn x.asked) (given l.number past) here.1)),
    )

read_talks : (took : List Envelope) (handed : List ℕ) (k : ℕ) (m : Link) (past : List Call) (bytes : List ℕ) (did : Did) → Converses took handed m (taken k past ++ bytes) (given k past)
    → Converses took handed m (taken k (past ++ Read k bytes did ∷ [])) (given k (past ++ Read k bytes did ∷ []))
read_talks took handed k m past bytes did v =
    converses_same took took handed handed m (taken k past ++ bytes) (taken k (past ++ Read k bytes did ∷ [])) (given k past) (given k (past ++ Read k bytes did ∷ [])) refl refl (taken_read k past bytes did) (given_still k past (Read k bytes did) refl) v

read_speaks : (took : List Envelope) (handed : List ℕ) (k : ℕ) (past : List Call) (bytes : List ℕ) (did : Did) → IsSpeech took handed (taken k past ++ bytes) (given k past)
    → IsSpeech took handed (taken k (past ++ Read k bytes did ∷ [])) (given k (past ++ Read k bytes did ∷ []))
read_speaks took handed k past bytes did v =
    subst (λ (w : List ℕ). IsSpeech took handed w (given k (past ++ Read k bytes did ∷ []))) (sym (taken_read k past bytes did))
    (subst (λ (w : List ℕ). IsSpeech took handed (taken k past ++ bytes) w) (sym (given_still k past (Read k bytes did) refl)) v)

-- a link that goes on
pub read_on : (b : Bus) (links : List Link) (at : ℕ) (l m : Link) (o : List ℕ) (old new : Option (List Call)) → at < length links → l ≡ slice_index_or links at l → Serves o links → m.number ≡ l.number → m.conn ≡ l.conn → Does old new (HasRead l.number true l m)
    → Moves old new (Goes b links) (ReadOf true l.number) (Goes b (slice_set links at m))
read_on b links at l m o old new h e s number conn d =
    moves_of old new (HasRead l.number true l m) (Goes b links) (Goes b (slice_set links at m)) (ReadOf true l.number)
    (λ past calls x r g. (
      x,
      of_read true b links at l m x past calls h e g r,
      subst (λ (w : List Call). Goes b (slice_set links at m) x (past ++ w)) (sym r.3)
          (turned_same b b links at l m o x past (past ++ Read l.number r.0 r.1 ∷ []) h e s number conn refl refl (others_read l.number past r.0 r.1)
          (λ took handed v. read_talks took handed l.number m past r.0 r.1 (r.4 took handed (given l.number past) v).1) g),
    )) d

-- one that is lost
pub read_lost : (b : Bus) (links : List Link) (at : ℕ) (l m : Link) (o : List ℕ) (old new : Option (List Call)) → at < length links → l ≡ slice_index_or links at l → Serves o links → Does old new (HasRead l.number false l m)
    → Moves old new (Goes b links) (ReadOf false l.number) (Goes b (remove (slice_set links at m) at))
read_lost b links at l m o old new h e s d =
    moves_of old new (HasRead l.number false l m) (Goes b links) (Goes b (remove (slice_set links at m) at)) (ReadOf false l.number)
    (λ past calls x r g. (
      x,
      of_read false b links at l m x past calls h e g r,
      subst (λ (w : List Link). Goes b w x (past ++ calls)) (sym (remove_set links at m))
          (subst (λ (w : List Call). Goes b (remove links at) x (past ++ w)) (sym r.3)
          (lost_goes b links at l o x past (past ++ Read l.number r.0 r.1 ∷ []) h e s (others_read l.number past r.0 r.1)
          (λ took handed v. read_speaks took handed l.number past r.0 r.1 (r.4 took handed (given l.number past) v).1) g)),
    )) d

-- one for whose bytes memory was wanting
pub read_cut : (b : Bus) (links new_links : List Link) (at : ℕ) (l : Link) (o : List ℕ) (stop : Stop) (old new : Option (List Call)) → at < length links → l ≡ slice_index_or links at l → Serves o links → IsWant stop → Does old new (HasReadOnly l.number l)
    → Moves old new (Goes b links) (Hears false (number_at links at) (conn_at links at) links new_links) (StopsAt stop)
read_cut b links new_links at l o stop old new h e s w d =
    moves_of old new (HasReadOnly l.number l) (Goes b links) (StopsAt stop) (Hears false (number_at links at) (conn_at links at) links new_links)
    (λ past calls x r g. (
      x,
      (tt, (r.0, r.1, [], r.2, inl (refl, refl), r.3 ∙ ap (λ (k : ℕ). Read k r.0 r.1 ∷ []) (sym (number_there links at l h e)))),
      want_stops stop x (past ++ calls) w
          (course_of b (remove links at) x (past ++ calls)
          (subst (λ (w : List Call). Goes b (remove links at) x (past ++ w)) (sym r.3)
          (lost_goes b links at l o x past (past ++ Read l.number r.0 r.1 ∷ []) h e s (others_read l.number past r.0 r.1)
          (λ took handed v. read_speaks took handed l.number past r.0 r.1 (r.4 took handed (given l.number past) v)) g))),
    )) d

-- the bus took a message, and closed whom that brought to close
pub took_one : (b b' b'' : Bus) (links new_links : List Link) (at number : ℕ) (l m : Link) (o : List ℕ) (old new : Option (List Call)) → at < length links → l ≡ slice_index_or links at l → Serves o links → m.number ≡ l.number → m.conn ≡ l.conn
    → Some at ≡ position (λ (x : Link). x.number == number) links → Tells next.Took l m (bus_of b) (bus_of b') → given_of b' ≡ given_of b
    → Moves old new (Goes b' (slice_set links at m)) (Settles (slice_set links at m) new_links) (Goes b'' new_links) → Moves old new (Goes b links) (MayTake true number links new_links) (Goes b'' new_links)
took_one b b' b'' links new_links at number l m o old new h e s same conn p t counted n =
    moves_step old new (Goes b links) (Goes b' (slice_set links at m)) (Goes b'' new_links) (Settles (slice_set links at m) new_links) (MayTake true number links new_links)
    (λ past x g. (
      on_with x (taking l.conn t.0 ∷ []) b',
      turned_goes b b' links at l m o x past past (taking l.conn t.0 ∷ []) h e s same conn (one_run (bus_of b) (bus_of b') (taking l.conn t.0) t.1) counted (taking_of_one l.conn t.0) (λ j i. (refl, refl))
          (λ took handed v. converses_same (took ++ t.0 ∷ []) (took ++ messages_of l.conn (taking l.conn t.0 ∷ [])) handed (handed ++ []) m (taken l.number past) (taken l.number past) (given l.number past) (given l.number past)
          (ap (λ (w : List Envelope). took ++ w) (taken_one l.conn t.0)) (append-nil handed) refl refl (t.2 took handed (taken l.number past) (given l.number past) v)) g,
      λ calls z q. (
        q.6 ∙ ap (λ (w : List (ℕ × ℕ)). left w calls) seated,
        q.4,
        λ c there. (
          t.0,
          (bus_of b').closings,
          subst (λ (k : ℕ). IsOpen k (numbers_of (seats links))) (found links at number h p) (number_open links at h),
          subst (λ (d : ℕ). Steps x (taking d t.0) (bus_of b').closings z) (sym (its_conn past x g c there))
              (stepped (slice_set links at m) new_links (bus_of b') (taking l.conn t.0) x (on_with x (taking l.conn t.0 ∷ []) b') z past calls (subst (λ w. Leads w (taking l.conn t.0) (bus_of b')) (sym g.bus_is) t.1) refl refl refl q),
          subst (λ (w : List (ℕ × ℕ)). AreShut x.conn (numbers_of w) (bus_of b').closings calls) seated q.5,
        ),
      ),
    )) n
  where
    seated : seats (slice_set links at m) ≡ seats links
    seated = seats_set links at l m e same conn h

    its_conn : (past : List Call) (x : Course) → Goes b links x past → (c : ℕ) → x.conn number ≡ Some c → c ≡ l.conn
    its_conn past x g c there = seated_conn b links x past at c l h e g (ap (λ (k : ℕ). x.conn k) (sym (number_there links at l h e) ∙ found links at number h p) ∙ there)

-- what stands behind the messages that were taken
rest_of : (b : Bus) (links : List Link) (at number c : ℕ) (l : Link) (x : Course) (past : List Call) → at < length links → l ≡ slice_index_or links at l → Some at ≡ position (λ (x : Link). x.number == number) links → Goes b links x past → x.conn number ≡ Some c
    → IsRest (taken number past) (messages_of c x.asked) l.feeder
rest_of b links at number c l x past h e p g there =
    subst (λ (k : ℕ). IsRest (taken k past) (messages_of c x.asked) l.feeder) same
    (subst (λ (d : ℕ). IsRest (taken l.number past) (messages_of d x.asked) l.feeder) (sym its) (here.1.messages, here.1.parted, here.1.taken_all))
  where
    same : l.number ≡ number
    same = sym (number_there links at l h e) ∙ found links at number h p

    its : c ≡ l.conn
    its = seated_conn b links x past at c l h e g (ap (λ (k : ℕ). x.conn k) same ∙ there)

    here : IsSeated x.asked x.conn past l
    here = each_at (λ n. IsSeated x.asked x.conn past n) links at l h e g.each

rest_said : (b : Bus) (links : List Link) (k c : ℕ) (x : Course) (cs : List Call) → Goes b links x cs → x.conn k ≡ Some c → (rest : List ℕ) × IsRest (taken k cs) (messages_of c x.asked) rest
rest_said b links k c x cs g there =
    let s : IsSpeech (messages_of c x.asked) (handed_to c x.asked) (taken k cs) (given k cs) = subst (λ (o : Option ℕ). IsSaid x.asked o (taken k cs) (given k cs)) there (g.said k) in
    (s.rest, (s.messages, s.parted, s.taken_all))

found_open : (links : List Link) (at number : ℕ) → at < length links → Some at ≡ position (λ (x : Link). x.number == number) links → IsOpen number (numbers_of (seats links))
found_open links at number h p = subst (λ (k : ℕ). IsOpen k (numbers_of (seats links))) (found links at number h p) (number_open links at h)

-- there is no such link
pub none_takes : (b : Bus) (links : List Link) (number : ℕ) (calls : Option (List Call)) → None ≡ position (λ (l : Link). l.number == number) links → Moves calls calls (Goes b links) (MayTake false number links links) (Goes b links)
none_takes b links number calls e =
    moves_none calls (Goes b links) (Goes b links) (MayTake false number links links) (λ past x g. (
      x,
      (
        refl,
        λ c there.
            let r = rest_said b links number c x past g there in
            (r.0, r.1, inl ((λ o. not_open links number e o), refl, refl)),
      ),
      g,
    ))

-- no message is whole
pub waits : (b b' : Bus) (links : List Link) (at number : ℕ) (l m : Link) (o : List ℕ) (calls : Option (List Call)) → at < length links → l ≡ slice_index_or links at l → Serves o links → m.number ≡ l.number → m.conn ≡ l.conn
    → Some at ≡ position (λ (x : Link). x.number == number) links → Tells next.NotYet l m (bus_of b) (bus_of b') → given_of b' ≡ given_of b → Moves calls calls (Goes b links) (MayTake false number links (slice_set links at m)) (Goes b' (slice_set links at m))
waits b b' links at number l m o calls h e s same conn p t counted =
    moves_none calls (Goes b links) (Goes b' (slice_set links at m)) (MayTake false number links (slice_set links at m))
    (λ past x g. (
      x,
      (
        seats_set links at l m e same conn h,
        λ c there. (l.feeder, rest_of b links at number c l x past h e p g there, inr (inl (found_open links at number h p, t.2, refl, refl))),
      ),
      turned_same b b' links at l m o x past past h e s same conn t.0 counted (λ j i. (refl, refl)) (λ took handed v. t.1 took handed (taken l.number past) (given l.number past) v) g,
    ))

-- the next is bad
ceases : (whole : Bool) (k c : ℕ) (x : Course) (links rest : List ℕ) (calls : List Call) (y : Course) → IsOpen k links → IsBad rest → Parts whole k c x links calls y → Ceases whole k c x links rest calls y
ceases true k c x links rest calls y o bad p = inr (inr (o, bad, p))
ceases false k c x links rest calls y o bad p = inr (o, bad, p)

bad_parts : (whole : Bool) (b b' : Bus) (links new_links : List Link) (at number : ℕ) (l m : Link) (old new : Option (List Call)) (T : Course → List Call → Type 0) → at < length links → l ≡ slice_index_or links at l → m.number ≡ l.number → m.conn ≡ l.conn
    → Some at ≡ position (λ (x : Link). x.number == number) links → Tells next.Bad l m (bus_of b) (bus_of b') → given_of b' ≡ given_of b
    → Moves old new (Goes b' (remove (slice_set links at m) at)) (Leaves whole (number_at (slice_set links at m) at) (conn_at (slice_set links at m) at) (slice_set links at m) new_links) T → Moves old new (Goes b links) (TakesNone whole number links new_links) T
bad_parts whole b b' links new_links at number l m old new T h e same conn p t counted n =
    moves_step old new (Goes b links) (Goes b' (remove (slice_set links at m) at)) T (Leaves whole (number_at (slice_set links at m) at) (conn_at (slice_set links at m) at) (slice_set links at m) new_links) (TakesNone whole number links new_links)
    (λ past x g. (
      x,
      subst (λ (w : List Link). Goes b' w x past) (sym (remove_set links at m)) (same_goes b b' (remove links at) x past past t.0 counted (λ j. (refl, refl)) (rest_goes b links at x past g)),
      λ calls z q. (
        left_same whole links (slice_set links at m) new_links calls seated q.1,
        λ c there. (
          l.feeder,
          rest_of b links at number c l x past h e p g there,
          ceases whole number c x (numbers_of (seats links)) l.feeder calls z (found_open links at number h p) t.1
              (subst (λ (k : ℕ). Parts whole k c x (numbers_of (seats links)) calls z) (number_set links at m h ∙ same ∙ its_number)
              (subst (λ (d : ℕ). Parts whole (number_at (slice_set links at m) at) d x (numbers_of (seats links)) calls z) (conn_set links at m h ∙ conn ∙ sym (its_conn past x g c there))
              (subst (λ (w : List (ℕ × ℕ)). Parts whole (number_at (slice_set links at m) at) (conn_at (slice_set links at m) at) x (numbers_of w) calls z) seated q.0))),
        ),
      ),
    )) n
  where
    seated : seats (slice_set links at m) ≡ seats links
    seated = seats_set links at l m e same conn h

    its_number : l.number ≡ number
    its_number = sym (number_there links at l h e) ∙ found links at number h p

    its_conn : (past : List Call) (x : Course) → Goes b links x past → (c : ℕ) → x.conn number ≡ Some c → c ≡ l.conn
    its_conn past x g c there = seated_conn b links x past at c l h e g (ap (λ (k : ℕ). x.conn k) its_number ∙ there)

pub bad_taken : (b b' b'' : Bus) (links new_links : List Link) (at number : ℕ) (l m : Link) (old new : Option (List Call)) → at < length links → l ≡ slice_index_or links at l → m.number ≡ l.number → m.conn ≡ l.conn
    → Some at ≡ position (λ (x : Link). x.number == number) links → Tells next.Bad l m (bus_of b) (bus_of b') → given_of b' ≡ given_of b
    → Moves old new (Goes b' (remove (slice_set links at m) at)) (Leaves true (number_at (slice_set links at m) at) (conn_at (slice_set links at m) at) (slice_set links at m) new_links) (Goes b'' new_links)
    → Moves old new (Goes b links) (MayTake false number links new_links) (Goes b'' new_links)
bad_taken b b' b'' links new_links at number l m old new h e same conn p t counted n = bad_parts true b b' links new_links at number l m old new (Goes b'' new_links) h e same conn p t counted n

pub bad_cut : (b b' : Bus) (links new_links : List Link) (at number : ℕ) (l m : Link) (stop : Stop) (old new : Option (List Call)) → at < length links → l ≡ slice_index_or links at l → m.number ≡ l.number → m.conn ≡ l.conn
    → Some at ≡ position (λ (x : Link). x.number == number) links → Tells next.Bad l m (bus_of b) (bus_of b') → given_of b' ≡ given_of b
    → Moves old new (Goes b' (remove (slice_set links at m) at)) (Leaves false (number_at (slice_set links at m) at) (conn_at (slice_set links at m) at) (slice_set links at m) new_links) (StopsAt stop)
    → Moves old new (Goes b links) (TakesNone false number links new_links) (StopsAt stop)
bad_cut b b' links new_links at number l m stop old new h e same conn p t counted n = bad_parts false b b' links new_links at number l m old new (StopsAt stop) h e same conn p t counted n

-- the bus stops
pub told_cut : (b : Bus) (links new_links : List Link) (number : ℕ) (stop : Stop) (calls : Option (List Call)) → (stop ≡ stops.Spent → Spends (bus_of b)) → Moves calls calls (Goes b links) (TakesNone false number links new_links) (StopsAt stop)
told_cut b links new_links number stop calls f =
    moves_none calls (Goes b links) (StopsAt stop) (TakesNone false number links new_links) (λ past x g. (
      x,
      (
        tt,
        λ c there.
            let r = rest_said b links number c x past g there in
            (r.0, r.1, inl (refl, refl)),
      ),
      stopped_at stop b links x past f g,
    ))

-- messages that were taken, one behind the other
pub some_first : (b : Bus) (links : List Link) (number : ℕ) (calls : Option (List Call)) → Moves calls calls (Goes b links) (TakesSome number links links) (Goes b links)
some_first b links number calls = moves_none calls (Goes b links) (Goes b links) (TakesSome number links links) (λ past x g. (x, (refl, refl, λ c there. ([], (refl, refl))), g))

taken_on : (k c : ℕ) (x : Course) (links : List ℕ) (es : List Envelope) (e : Envelope) (closings : List Closing) (xs ys : List Call) (y z : Course) → AreTaken k c x links es xs y → IsOpen k (open_from links xs) → Steps y (taking c e) closings z
    → AreShut y.conn (open_from links xs) closings ys → AreTaken k c x links (es ++ e ∷ []) (xs ++ ys) z
taken_on k c x links [] e closings xs ys y z t o s shut =
    subst (λ (w : List Call). AreTaken k c x links (e ∷ []) (w ++ ys) z) (sym t.0) (
      subst (λ (w : List Call). IsOpen k (open_from links w)) t.0 o,
      z,
      closings,
      ys,
      [],
      subst (λ (w : Course). Steps w (taking c e) closings z) t.1 s,
      subst (λ (w : Course). AreShut w.conn links closings ys) t.1 (subst (λ (w : List Call). AreShut y.conn (open_from links w) closings ys) t.0 shut),
      (refl, refl),
      sym (append-nil ys),
    )
taken_on k c x links (d ∷ es) e closings xs ys y z t o s shut = (
  t.0,
  t.1,
  t.2,
  t.3,
  t.4 ++ ys,
  t.5,
  t.6,
  taken_on k c t.1 (open_from links t.3) es e closings t.4 ys y z t.7 (subst (λ (w : List ℕ). IsOpen k w) there o) s (subst (λ (w : List ℕ). AreShut y.conn w closings ys) there shut),
  ap (λ (w : List Call). w ++ ys) t.8 ∙ append_assoc t.3 t.4 ys,
)
  where
    there : open_from links xs ≡ open_from (open_from links t.3) t.4
    there = ap (λ (w : List Call). open_from links w) t.8 ∙ open_both links t.3 t.4

numbers_then : (k c : ℕ) (x y : Course) (a b : List Link) (es : List Envelope) (xs : List Call) → seats b ≡ left (seats a) xs → AreTaken k c x (numbers_of (seats a)) es xs y → numbers_of (seats b) ≡ open_from (numbers_of (seats a)) xs
numbers_then k c x y a b es xs e t = ap numbers_of e ∙ numbers_left (seats a) xs (for_closes xs (taken_closes k c x (numbers_of (seats a)) es xs y t))

pub some_more : (b0 b b' : Bus) (a links links' : List Link) (k : ℕ) (old mid new : Option (List Call)) → Moves old mid (Goes b0 a) (TakesSome k a links) (Goes b links) → Moves mid new (Goes b links) (MayTake true k links links') (Goes b' links')
    → Moves old new (Goes b0 a) (TakesSome k a links') (Goes b' links')
some_more b0 b b' a links links' k old mid new m n =
    moves_both old mid new (Goes b0 a) (Goes b links) (Goes b' links') (TakesSome k a links) (MayTake true k links links') (TakesSome k a links')
    (λ x y z past xs ys s p g q. (
      q.0 ∙ ap (λ (w : List (ℕ × ℕ)). left w ys) p.0 ∙ sym (left_both (seats a) xs ys),
      q.1 ∙ p.1,
      λ c there.
          let t = p.2 c there in
          let r = q.2 c (ap (λ (w : ℕ → Option ℕ). w k) p.1 ∙ there) in
          let same = numbers_then k c x y a links t.0 xs p.0 t.1 in (
            t.0 ++ r.0 ∷ [],
            taken_on k c x (numbers_of (seats a)) t.0 r.0 r.1 xs ys y z t.1 (subst (λ (w : List ℕ). IsOpen k w) same r.2) r.3 (subst (λ (w : List ℕ). AreShut y.conn w r.1 ys) same r.4),
          ),
    )) m n

all_of : (whole : Bool) (a b d : List Link) (k : ℕ) (x y z : Course) (past xs ys : List Call) → TakesSome k a b x past xs y → TakesNone whole k b d y (past ++ xs) ys z → TakesAll whole k a d x past (xs ++ ys) z
all_of whole a b d k x y z past xs ys p q = (
  left_behind whole a b d xs ys p.0 q.0,
  λ c there.
      let t = p.2 c there in (
        t.0,
        y,
        xs,
        ys,
        t.1,
        subst (λ (w : List ℕ). Follows whole k c y (open_from (numbers_of (seats a)) xs) w ys z) (taken_past k past xs (taken_closes k c x (numbers_of (seats a)) t.0 xs y t.1))
            (subst (λ (w : List ℕ). Follows whole k c y w (taken k (past ++ xs)) ys z) (numbers_then k c x y a b t.0 xs p.0 t.1) (q.1 c (ap (λ (w : ℕ → Option ℕ). w k) p.1 ∙ there))),
        refl,
      ),
)

pub all_taken : (b0 b b' : Bus) (a links links' : List Link) (k : ℕ) (old mid new : Option (List Call)) → Moves old mid (Goes b0 a) (TakesSome k a links) (Goes b links) → Moves mid new (Goes b links) (MayTake false k links links') (Goes b' links')
    → Moves old new (Goes b0 a) (TakesAll true k a links') (Goes b' links')
all_taken b0 b b' a links links' k old mid new m n =
    moves_both old mid new (Goes b0 a) (Goes b links) (Goes b' links') (TakesSome k a links) (MayTake false k links links') (TakesAll true k a links')
    (λ x y z past xs ys s p g q. all_of true a links links' k x y z past xs ys p q) m n

pub cut_taken : (b0 b : Bus) (a links links' : List Link) (k : ℕ) (stop : Stop) (old mid new : Option (List Call)) → Moves old mid (Goes b0 a) (TakesSome k a links) (Goes b links) → Moves mid new (Goes b links) (TakesNone false k links links') (StopsAt stop)
    → Moves old new (Goes b0 a) (TakesAll false k a links') (StopsAt stop)
cut_taken b0 b a links links' k stop old mid new m n =
    moves_both old mid new (Goes b0 a) (Goes b links) (StopsAt stop) (TakesSome k a links) (TakesNone false k links links') (TakesAll false k a links')
    (λ x y z past xs ys s p g q. all_of false a links links' k x y z past xs ys p q) m n

-- a read, and then what it brings to close
follows : (whole : Bool) (k c : ℕ) (x : Course) (links : List ℕ) (did : Did) (t : List ℕ) (calls : List Call) (y : Course) → (IsLost did t → ⊥) → Attends whole k c x links t calls y → FollowsRead whole k c x links did t calls y
follows true k c x links did t calls y n a = inr (n, a)
follows false k c x links did t calls y n a = inr (inr (n, a))

follows_lost : (whole : Bool) (k c : ℕ) (x : Course) (links : List ℕ) (did : Did) (t : List ℕ) (calls : List Call) (y : Course) → IsLost did t → Parts whole k c x links calls y → FollowsRead whole k c x links did t calls y
follows_lost true k c x links did t calls y l p = inl (l, p)
follows_lost false k c x links did t calls y l p = inr (inl (l, p))

heard_all : (whole : Bool) (b : Bus) (links mid new_links : List Link) (at k : ℕ) (x y z : Course) (past xs ys : List Call) → at < length links → k ≡ number_at links at → seats mid ≡ seats links → Goes b links x past → ReadOf true k x past xs y
    → TakesAll whole k mid new_links y (past ++ xs) ys z → Hears whole (number_at links at) (conn_at links at) links new_links x past (xs ++ ys) z
heard_all whole b links mid new_links at k x y z past xs ys h n e g p q =
    subst (λ (i : ℕ). Hears whole i (conn_at links at) links new_links x past (xs ++ ys) z) n (
      left_behind whole links mid new_links xs ys (e ∙ sym (ap (λ (w : List Call). left (seats links) w) p.4)) q.0,
      (
        p.1,
        p.2,
        ys,
        p.3,
        follows whole k (conn_at links at) x (numbers_of (seats links)) p.2 (taken k (past ++ Read k p.1 p.2 ∷ [])) ys z p.5
            (subst (λ (w : List Call). Attends whole k (conn_at links at) x (numbers_of (seats links)) (taken k (past ++ w)) ys z) p.4
            (subst (λ (w : Course). Attends whole k (conn_at links at) w (numbers_of (seats links)) (taken k (past ++ xs)) ys z) p.0
            (subst (λ (w : List (ℕ × ℕ)). Attends whole k (conn_at links at) y (numbers_of w) (taken k (past ++ xs)) ys z) e
            (q.1 (conn_at links at) (ap (λ (w : Course). w.conn k) p.0 ∙ ap (λ (i : ℕ). x.conn i) n ∙ seat_at b links x past at h g))))),
        ap (λ (w : List Call). w ++ ys) p.4,
      ),
    )

pub heard_on : (b b' b'' : Bus) (links new_links : List Link) (at : ℕ) (l m : Link) (old mid now : Option (List Call)) → at < length links → l ≡ slice_index_or links at l → m.number ≡ l.number → m.conn ≡ l.conn
    → Moves old mid (Goes b links) (ReadOf true l.number) (Goes b' (slice_set links at m)) → Moves mid now (Goes b' (slice_set links at m)) (TakesAll true l.number (slice_set links at m) new_links) (Goes b'' new_links)
    → Moves old now (Goes b links) (Hears true (number_at links at) (conn_at links at) links new_links) (Goes b'' new_links)
heard_on b b' b'' links new_links at l m old mid now h e n c p q =
    moves_both old mid now (Goes b links) (Goes b' (slice_set links at m)) (Goes b'' new_links) (ReadOf true l.number) (TakesAll true l.number (slice_set links at m) new_links) (Hears true (number_at links at) (conn_at links at) links new_links)
    (λ x y z past xs ys s u g v. heard_all true b links (slice_set links at m) new_links at l.number x y z past xs ys h (sym (number_there links at l h e)) (seats_set links at l m e n c h) s u v) p q

pub heard_cut : (b b' : Bus) (links new_links : List Link) (at : ℕ) (l m : Link) (stop : Stop) (old mid now : Option (List Call)) → at < length links → l ≡ slice_index_or links at l → m.number ≡ l.number → m.conn ≡ l.conn
    → Moves old mid (Goes b links) (ReadOf true l.number) (Goes b' (slice_set links at m)) → Moves mid now (Goes b' (slice_set links at m)) (TakesAll false l.number (slice_set links at m) new_links) (StopsAt stop)
    → Moves old now (Goes b links) (Hears false (number_at links at) (conn_at links at) links new_links) (StopsAt stop)
heard_cut b b' links new_links at l m stop old mid now h e n c p q =
    moves_both old mid now (Goes b links) (Goes b' (slice_set links at m)) (StopsAt stop) (ReadOf true l.number) (TakesAll false l.number (slice_set links at m) new_links) (Hears false (number_at links at) (conn_at links at) links new_links)
    (λ x y z past xs ys s u g v. heard_all false b links (slice_set links at m) new_links at l.number x y z past xs ys h (sym (number_there links at l h e)) (seats_set links at l m e n c h) s u v) p q

lost_all : (whole : Bool) (links mid new_links : List Link) (at : ℕ) (l m : Link) (x y z : Course) (past xs ys : List Call) → at < length links → l ≡ slice_index_or links at l → mid ≡ slice_set links at m → m.number ≡ l.number → m.conn ≡ l.conn → ReadOf false l.number x past xs y
    → Leaves whole (number_at mid at) (conn_at mid at) mid new_links y (past ++ xs) ys z → Hears whole (number_at links at) (conn_at links at) links new_links x past (xs ++ ys) z
lost_all whole links mid new_links at l m x y z past xs ys h e r n c p q =
    subst (λ (i : ℕ). Hears whole i (conn_at links at) links new_links x past (xs ++ ys) z) (sym same) (
      left_behind whole links mid new_links xs ys (seated ∙ sym (ap (λ (w : List Call). left (seats links) w) p.4)) q.1,
      (
        p.1,
        p.2,
        ys,
        p.3,
        follows_lost whole l.number (conn_at links at) x (numbers_of (seats links)) p.2 (taken l.number (past ++ Read l.number p.1 p.2 ∷ [])) ys z p.5
            (subst (λ (k : ℕ). Parts whole k (conn_at links at) x (numbers_of (seats links)) ys z) (ap (λ (w : List Link). number_at w at) r ∙ number_set links at m h ∙ n)
            (subst (λ (k : ℕ). Parts whole (number_at mid at) k x (numbers_of (seats links)) ys z) (ap (λ (w : List Link). conn_at w at) r ∙ conn_set links at m h ∙ c ∙ conn_is links at l h e)
            (subst (λ (w : Course). Parts whole (number_at mid at) (conn_at mid at) w (numbers_of (seats links)) ys z) p.0
            (subst (λ (w : List (ℕ × ℕ)). Parts whole (number_at mid at) (conn_at mid at) y (numbers_of w) ys z) seated q.0)))),
        ap (λ (w : List Call). w ++ ys) p.4,
      ),
    )
  where
    same : number_at links at ≡ l.number
    same = number_there links at l h e

    seated : seats mid ≡ seats links
    seated = ap seats r ∙ seats_set links at l m e n c h

pub heard_lost : (whole : Bool) (b : Bus) (links new_links : List Link) (at : ℕ) (l m : Link) (T : Course → List Call → Type 0) (old mid now : Option (List Call)) → at < length links → l ≡ slice_index_or links at l → m.number ≡ l.number → m.conn ≡ l.conn
    → Moves old mid (Goes b links) (ReadOf false l.number) (Goes b (remove (slice_set links at m) at))
    → Moves mid now (Goes b (remove (slice_set links at m) at)) (Leaves whole (number_at (slice_set links at m) at) (conn_at (slice_set links at m) at) (slice_set links at m) new_links) T
    → Moves old now (Goes b links) (Hears whole (number_at links at) (conn_at links at) links new_links) T
heard_lost whole b links new_links at l m T old mid now h e n c p q =
    moves_both old mid now (Goes b links) (Goes b (remove (slice_set links at m) at)) T (ReadOf false l.number) (Leaves whole (number_at (slice_set links at m) at) (conn_at (slice_set links at m) at) (slice_set links at m) new_links)
    (Hears whole (number_at links at) (conn_at links at) links new_links)
    (λ x y z past xs ys s u g v. lost_all whole links (slice_set links at m) new_links at l m x y z past xs ys h e refl n c u v) p q

-- a write or none
abbrev SentOf : Bool → ℕ → ℕ → Course → List Call → List Call → Course → Type 0
SentOf goes_on k c x past calls y = HandsOut c x y × HasWritten k goes_on y past calls

pub gave : (goes_on : Bool) (b b' : Bus) (links : List Link) (at : ℕ) (l m : Link) (o : List ℕ) (old new : Option (List Call)) → at < length links → l ≡ slice_index_or links at l → Serves o links → m.number ≡ l.number → m.conn ≡ l.conn → given_of b' ≡ given_of b
    → Gives l.conn l.number old new (bus_of b) (bus_of b') l m → Does old new (HasSent l.number goes_on (bus_of b') m) → Moves old new (Goes b links) (SentOf goes_on l.number l.conn) (Goes b' (slice_set links at m))
gave goes_on b b' links at l m o old None h e s n c counted q d = tt
gave goes_on b b' links at l m o None (Some ds) h e s n c counted q d = absurd d
gave goes_on b b' links at l m o (Some past) (Some ds) h e s n c counted q d = λ x g.
    let now : Goes b' (slice_set links at m) (on_with x q.asked b') ds =
    turned_goes b b' links at l m o x past ds q.asked h e s n c q.run counted q.only (q.talks [] []).0
    (λ took handed v. converses_same took (took ++ messages_of l.conn q.asked) (handed ++ handed_to l.conn q.asked) (handed ++ handed_to l.conn q.asked) m (taken l.number ds) (taken l.number ds) (given l.number ds) (given l.number ds)
    (ap (λ (w : List Envelope). took ++ w) q.none_taken ∙ append-nil took) refl refl refl ((q.talks took handed).1 v)) g
    in (
      on_with x q.asked b',
      d.0,
      (
        (q.asked, q.are, subst (λ w. Runs w q.asked (bus_of b')) (sym g.bus_is) q.run, refl, refl),
        has_written goes_on b' links at l m (on_with x q.asked b') past d.0 h n (subst (λ (w : List Call). Goes b' (slice_set links at m) (on_with x q.asked b') w) d.2 now) d.1,
      ),
      now,
      d.2,
    )

goes_behind : (k c : ℕ) (x : Course) (links : List ℕ) (did : Did) → GoesOn did → FollowsWrite true k c x links did [] x
goes_behind k c x links (Done n) g = (refl, refl)
goes_behind k c x links NotYet g = (refl, refl)
goes_behind k c x links End g = absurd g
goes_behind k c x links Failed g = absurd g

given_on : (k c : ℕ) (x y : Course) (links : List ℕ) (past calls : List Call) → IsOpen k links → SentOf true k c x past calls y → MayGive true x past links k c calls y
given_on k c x y links past calls o u = elim u.1 [
  | inl v ↦ inr (inl (o, u.0, v.1, v.0))
  | inr v ↦ inr (inr (o, (y, v.0, v.1, [], u.0, v.2, v.3, v.4, goes_behind k c y links v.1 v.5, v.6)))
]

-- of a link at its place
conn_its : (b : Bus) (links : List Link) (at number c : ℕ) (l : Link) (x : Course) (past : List Call) → at < length links → l ≡ slice_index_or links at l → Some at ≡ position (λ (x : Link). x.number == number) links → Goes b links x past → x.conn number ≡ Some c → c ≡ l.conn
conn_its b links at number c l x past h e p g there = seated_conn b links x past at c l h e g (ap (λ (k : ℕ). x.conn k) (sym (number_there links at l h e) ∙ found links at number h p) ∙ there)

pub gave_on : (b b' : Bus) (links : List Link) (at number : ℕ) (l m : Link) (old now : Option (List Call)) → at < length links → l ≡ slice_index_or links at l → m.number ≡ l.number → m.conn ≡ l.conn → Some at ≡ position (λ (x : Link). x.number == number) links
    → Moves old now (Goes b links) (SentOf true l.number l.conn) (Goes b' (slice_set links at m)) → Moves old now (Goes b links) (Writes true number links (slice_set links at m)) (Goes b' (slice_set links at m))
gave_on b b' links at number l m old now h e n c p w =
    moves_if old now (Goes b links) (Goes b' (slice_set links at m)) (Goes b' (slice_set links at m)) (SentOf true l.number l.conn) (Writes true number links (slice_set links at m))
    (λ x y past calls g u t. (
      (
        seats_set links at l m e n c h ∙ sym (nothing_left l.number (seats links) y past calls u.1),
        λ d there.
            subst (λ (i : ℕ). MayGive true x past (numbers_of (seats links)) number i calls y) (sym (conn_its b links at number d l x past h e p g there))
            (subst (λ (k : ℕ). MayGive true x past (numbers_of (seats links)) k l.conn calls y) (sym (number_there links at l h e) ∙ found links at number h p)
            (given_on l.number l.conn x y (numbers_of (seats links)) past calls (subst (λ (k : ℕ). IsOpen k (numbers_of (seats links))) (number_there links at l h e) (number_open links at h)) u)),
      ),
      t,
    )) w
  where
    nothing_left : (k : ℕ) (ss : List (ℕ × ℕ)) (y : Course) (past calls : List Call) → HasWritten k true y past calls → left ss calls ≡ ss
    nothing_left k ss y past calls (inl v) = ap (λ (w : List Call). left ss w) v.0
    nothing_left k ss y past calls (inr v) = ap (λ (w : List Call). left ss w) v.6

gift : (whole : Bool) (k c : ℕ) (x y z : Course) (links : List ℕ) (past xs ys : List Call) → SentOf false k c x past xs y → Parts whole k c y links ys z → IsGift whole x past links k c (xs ++ ys) z
gift whole k c x y z links past xs ys u q = (y, u.1.0, Failed, ys, u.0, u.1.1, u.1.2, u.1.3, q, ap (λ (w : List Call). w ++ ys) u.1.4)

may_give : (whole : Bool) (k c : ℕ) (x y : Course) (links : List ℕ) (past calls : List Call) → IsOpen k links → IsGift whole x past links k c calls y → MayGive whole x past links k c calls y
may_give true k c x y links past calls o g = inr (inr (o, g))
may_give false k c x y links past calls o g = inr (o, g)

-- one that failed, and the closes behind it
pub gave_lost : (whole : Bool) (b b' : Bus) (links new_links : List Link) (at number : ℕ) (l m : Link) (T : Course → List Call → Type 0) (old mid now : Option (List Call)) → at < length links → l ≡ slice_index_or links at l → m.number ≡ l.number → m.conn ≡ l.conn
    → Some at ≡ position (λ (x : Link). x.number == number) links → Moves old mid (Goes b links) (SentOf false l.number l.conn) (Goes b' (slice_set links at m))
    → Moves mid now (Goes b' (remove (slice_set links at m) at)) (Leaves whole (number_at (slice_set links at m) at) (conn_at (slice_set links at m) at) (slice_set links at m) new_links) T → Moves old now (Goes b links) (Writes whole number links new_links) T
gave_lost whole b b' links new_links at number l m T old mid now h e n c p w q =
    moves_both old mid now (Goes b links) (Goes b' (slice_set links at m)) T (SentOf false l.number l.conn) (Leaves whole (number_at (slice_set links at m) at) (conn_at (slice_set links at m) at) (slice_set links at m) new_links) (Writes whole number links new_links)
    (λ x y z past xs ys g u t v. (
      left_behind whole links (slice_set links at m) new_links xs ys (seated ∙ sym (ap (λ (i : List Call). left (seats links) i) u.1.4)) v.1,
      λ d there.
          subst (λ (i : ℕ). MayGive whole x past (numbers_of (seats links)) number i (xs ++ ys) z) (sym (conn_its b links at number d l x past h e p g there))
          (subst (λ (k : ℕ). MayGive whole x past (numbers_of (seats links)) k l.conn (xs ++ ys) z) (sym (number_there links at l h e) ∙ found links at number h p)
          (may_give whole l.number l.conn x z (numbers_of (seats links)) past (xs ++ ys) (subst (λ (k : ℕ). IsOpen k (numbers_of (seats links))) (number_there links at l h e) (number_open links at h))
          (gift whole l.number l.conn x y z (numbers_of (seats links)) past xs ys u
          (subst (λ (k : ℕ). Parts whole k l.conn y (numbers_of (seats links)) ys z) (number_set links at m h ∙ n)
          (subst (λ (k : ℕ). Parts whole (number_at (slice_set links at m) at) k y (numbers_of (seats links)) ys z) (conn_set links at m h ∙ c)
          (subst (λ (i : List (ℕ × ℕ)). Parts whole (number_at (slice_set links at m) at) (conn_at (slice_set links at m) at) y (numbers_of i) ys z) seated v.0)))))),
    )) w (rest_first q)
  where
    seated : seats (slice_set links at m) ≡ seats links
    seated = seats_set links at l m e n c h

    rest_first : Moves mid now (Goes b' (remove (slice_set links at m) at)) (Leaves whole (number_at (slice_set links at m) at) (conn_at (slice_set links at m) at) (slice_set links at m) new_links) T
        → Moves mid now (Goes b' (slice_set links at m)) (Leaves whole (number_at (slice_set links at m) at) (conn_at (slice_set links at m) at) (slice_set links at m) new_links) T
    rest_first r =
        moves_step mid now (Goes b' (slice_set links at m)) (Goes b' (remove (slice_set links at m) at)) T (Leaves whole (number_at (slice_set links at m) at) (conn_at (slice_set links at m) at) (slice_set links at m) new_links)
        (Leaves whole (number_at (slice_set links at m) at) (conn_at (slice_set links at m) at) (slice_set links at m) new_links) (λ past x g. (x, rest_goes b' (slice_set links at m) at x past g, λ calls z v. v)) r

pub not_there : (b : Bus) (links : List Link) (number : ℕ) (calls : Option (List Call)) → None ≡ position (λ (l : Link). l.number == number) links → Moves calls calls (Goes b links) (Writes true number links links) (Goes b links)
not_there b links number calls e =
    moves_none calls (Goes b links) (Goes b links) (Writes true number links links) (λ past x g. (x, (refl, λ c there. inl ((λ o. not_open links number e o), refl, refl)), g))

pub gave_none : (b : Bus) (links new_links : List Link) (number : ℕ) (stop : Stop) (old new : Option (List Call)) → IsWant stop → new ≡ old → Moves old new (Goes b links) (Writes false number links new_links) (StopsAt stop)
gave_none b links new_links number stop old new w e =
    subst (λ (c : Option (List Call)). Moves old c (Goes b links) (Writes false number links new_links) (StopsAt stop)) (sym e)
    (moves_none old (Goes b links) (StopsAt stop) (Writes false number links new_links) (λ past x g. (x, (tt, λ c there. inl (refl, refl)), want_stops stop x past w (course_of b links x past g))))

-- a turn keeps the connections
taken_conn : (k c : ℕ) (x : Course) (links : List ℕ) (es : List Envelope) (calls : List Call) (y : Course) → AreTaken k c x links es calls y → y.conn ≡ x.conn
taken_conn k c x links [] calls y t = ap (λ (w : Course). w.conn) t.1
taken_conn k c x links (e ∷ es) calls y t = taken_conn k c t.1 (open_from links t.3) es t.4 y t.7 ∙ t.5.7

ceases_conn : (k c : ℕ) (x : Course) (links rest : List ℕ) (calls : List Call) (y : Course) → Ceases true k c x links rest calls y → y.conn ≡ x.conn
ceases_conn k c x links rest calls y (inl p) = ap (λ (w : Course). w.conn) p.2
ceases_conn k c x links rest calls y (inr (inl p)) = ap (λ (w : Course). w.conn) p.3
ceases_conn k c x links rest calls y (inr (inr p)) = p.2.2.7

read_conn : (k c : ℕ) (x : Course) (links : List ℕ) (did : Did) (t : List ℕ) (calls : List Call) (y : Course) → FollowsRead true k c x links did t calls y → y.conn ≡ x.conn
read_conn k c x links did t calls y (inl p) = p.1.2.7
read_conn k c x links did t calls y (inr p) =
    let a : Attends true k c x links t calls y = p.1 in
    ceases_conn k c a.1 (open_from links a.2) a.5.0 a.3 y a.5.2 ∙ taken_conn k c x links a.0 a.2 a.1 a.4

-- a read and what may follow it
both_do : (whole : Bool) (b : Bus) (links mid new_links : List Link) (at k : ℕ) (x y z : Course) (past xs ys : List Call) → at < length links → k ≡ number_at links at → Goes b links x past → Hears true (number_at links at) (conn_at links at) links mid x past xs y
    → Writes whole k mid new_links y (past ++ xs) ys z → BothDo whole (number_at links at) (conn_at links at) links x past (xs ++ ys) z
both_do whole b links mid new_links at k x y z past xs ys h n g p q = (
  y,
  xs,
  ys,
  p.1,
  subst (λ (i : ℕ). MayGive whole y (past ++ xs) (numbers_of (left (seats links) xs)) i (conn_at links at) ys z) n
      (subst (λ (w : List (ℕ × ℕ)). MayGive whole y (past ++ xs) (numbers_of w) k (conn_at links at) ys z) p.0
      (q.1 (conn_at links at) (ap (λ (w : ℕ → Option ℕ). w k) (read_conn (number_at links at) (conn_at links at) x (numbers_of (seats links)) p.1.1 (taken (number_at links at) (past ++ Read (number_at links at) p.1.0 p.1.1 ∷ [])) p.1.2 y p.1.4)
      ∙ ap (λ (i : ℕ). x.conn i) n
      ∙ seat_at b links x past at h g))),
  refl,
)

pub served : (b b' b'' : Bus) (links mid new_links : List Link) (at : ℕ) (l : Link) (old now after : Option (List Call)) → at < length links → l ≡ slice_index_or links at l
    → Moves old now (Goes b links) (Hears true (number_at links at) (conn_at links at) links mid) (Goes b' mid) → Moves now after (Goes b' mid) (Writes true l.number mid new_links) (Goes b'' new_links)
    → Moves old after (Goes b links) (Takes (number_at links at) links new_links) (Goes b'' new_links)
served b b' b'' links mid new_links at l old now after h e p q =
    moves_both old now after (Goes b links) (Goes b' mid) (Goes b'' new_links) (Hears true (number_at links at) (conn_at links at) links mid) (Writes true l.number mid new_links) (Takes (number_at links at) links new_links)
    (λ x y z past xs ys g u t v. (
      left_behind true links mid new_links xs ys u.0 v.0,
      conn_at links at,
      seat_at b links x past at h g,
      both_do true b links mid new_links at l.number x y z past xs ys h (sym (number_there links at l h e)) g u v,
    )) p q

pub served_part : (b b' : Bus) (links mid new_links : List Link) (at : ℕ) (l : Link) (stop : Stop) (old now after : Option (List Call)) → at < length links → l ≡ slice_index_or links at l
    → Moves old now (Goes b links) (Hears true (number_at links at) (conn_at links at) links mid) (Goes b' mid) → Moves now after (Goes b' mid) (Writes false l.number mid new_links) (StopsAt stop)
    → Moves old after (Goes b links) (TakesCut (number_at links at) links) (StopsAt stop)
served_part b b' links mid new_links at l stop old now after h e p q =
    moves_both old now after (Goes b links) (Goes b' mid) (StopsAt stop) (Hears true (number_at links at) (conn_at links at) links mid) (Writes false l.number mid new_links) (TakesCut (number_at links at) links)
    (λ x y z past xs ys g u t v. (conn_at links at, seat_at b links x past at h g, inr (both_do false b links mid new_links at l.number x y z past xs ys h (sym (number_there links at l h e)) g u v))) p q

pub served_cut : (b : Bus) (links new_links : List Link) (at : ℕ) (stop : Stop) (old now : Option (List Call)) → at < length links → Moves old now (Goes b links) (Hears false (number_at links at) (conn_at links at) links new_links) (StopsAt stop)
    → Moves old now (Goes b links) (TakesCut (number_at links at) links) (StopsAt stop)
served_cut b links new_links at stop old now h p =
    moves_if old now (Goes b links) (StopsAt stop) (StopsAt stop) (Hears false (number_at links at) (conn_at links at) links new_links) (TakesCut (number_at links at) links)
    (λ x y past calls g u t. ((conn_at links at, seat_at b links x past at h g, inl u.1), t)) p

-- the same where the last of the calls may have stopped the bus
pub heard_either : {T : Type 0} (r : Result T Stop) (b b' b'' : Bus) (links new_links : List Link) (at k : ℕ) (l m : Link) (old mid now : Option (List Call)) → k ≡ l.number → at < length links → l ≡ slice_index_or links at l → m.number ≡ l.number → m.conn ≡ l.conn
    → Moves old mid (Goes b links) (ReadOf true l.number) (Goes b' (slice_set links at m))
    → MatchResult r (λ _. Moves mid now (Goes b' (slice_set links at m)) (TakesAll true k (slice_set links at m) new_links) (Goes b'' new_links)) (λ stop. Moves mid now (Goes b' (slice_set links at m)) (TakesAll false k (slice_set links at m) new_links) (StopsAt stop))
    → MatchResult r (λ _. Moves old now (Goes b links) (Hears true (number_at links at) (conn_at links at) links new_links) (Goes b'' new_links)) (λ stop. Moves old now (Goes b links) (Hears false (number_at links at) (conn_at links at) links new_links) (StopsAt stop))
heard_either (Ok x) b b' b'' links new_links at k l m old mid now same h e n c p q =
    heard_on b b' b'' links new_links at l m old mid now h e n c p (subst (λ (i : ℕ). Moves mid now (Goes b' (slice_set links at m)) (TakesAll true i (slice_set links at m) new_links) (Goes b'' new_links)) same q)
heard_either (Err stop) b b' b'' links new_links at k l m old mid now same h e n c p q =
    heard_cut b b' links new_links at l m stop old mid now h e n c p (subst (λ (i : ℕ). Moves mid now (Goes b' (slice_set links at m)) (TakesAll false i (slice_set links at m) new_links) (StopsAt stop)) same q)

pub lost_either : {T : Type 0} (r : Result T Stop) (b b' : Bus) (links new_links : List Link) (at : ℕ) (l m : Link) (old mid now : Option (List Call)) → at < length links → l ≡ slice_index_or links at l → m.number ≡ l.number → m.conn ≡ l.conn
    → Moves old mid (Goes b links) (ReadOf false l.number) (Goes b (remove (slice_set links at m) at))
    → MatchResult r (λ _. Moves mid now (Goes b (remove (slice_set links at m) at)) (Leaves true (number_at (slice_set links at m) at) (conn_at (slice_set links at m) at) (slice_set links at m) new_links) (Goes b' new_links))
    (λ stop. Moves mid now (Goes b (remove (slice_set links at m) at)) (Leaves false (number_at (slice_set links at m) at) (conn_at (slice_set links at m) at) (slice_set links at m) new_links) (StopsAt stop))
    → MatchResult r (λ _. Moves old now (Goes b links) (Hears true (number_at links at) (conn_at links at) links new_links) (Goes b' new_links)) (λ stop. Moves old now (Goes b links) (Hears false (number_at links at) (conn_at links at) links new_links) (StopsAt stop))
lost_either (Ok x) b b' links new_links at l m old mid now h e n c p q = heard_lost true b links new_links at l m (Goes b' new_links) old mid now h e n c p q
lost_either (Err stop) b b' links new_links at l m old mid now h e n c p q = heard_lost false b links new_links at l m (StopsAt stop) old mid now h e n c p q

pub gave_either : {T : Type 0} (r : Result T Stop) (b b' b'' : Bus) (links new_links : List Link) (at number : ℕ) (l m : Link) (old mid now : Option (List Call)) → at < length links → l ≡ slice_index_or links at l → m.number ≡ l.number → m.conn ≡ l.conn
    → Some at ≡ position (λ (x : Link). x.number == number) links → Moves old mid (Goes b links) (SentOf false l.number l.conn) (Goes b' (slice_set links at m))
    → MatchResult r (λ _. Moves mid now (Goes b' (remove (slice_set links at m) at)) (Leaves true (number_at (slice_set links at m) at) (conn_at (slice_set links at m) at) (slice_set links at m) new_links) (Goes b'' new_links))
    (λ stop. Moves mid now (Goes b' (remove (slice_set links at m) at)) (Leaves false (number_at (slice_set links at m) at) (conn_at (slice_set links at m) at) (slice_set links at m) new_links) (StopsAt stop))
    → MatchResult r (λ _. Moves old now (Goes b links) (Writes true number links new_links) (Goes b'' new_links)) (λ stop. Moves old now (Goes b links) (Writes false number links new_links) (StopsAt stop))
gave_either (Ok x) b b' b'' links new_links at number l m old mid now h e n c p w q = gave_lost true b b' links new_links at number l m (Goes b'' new_links) old mid now h e n c p w q
gave_either (Err stop) b b' b'' links new_links at number l m old mid now h e n c p w q = gave_lost false b b' links new_links at number l m (StopsAt stop) old mid now h e n c p w q

pub served_either : {T : Type 0} (r : Result T Stop) (b b' b'' : Bus) (links mid new_links : List Link) (at : ℕ) (l : Link) (old now after : Option (List Call)) → at < length links → l ≡ slice_index_or links at l
    → Moves old now (Goes b links) (Hears true (number_at links at) (conn_at links at) links mid) (Goes b' mid)
    → MatchResult r (λ _. Moves now after (Goes b' mid) (Writes true l.number mid new_links) (Goes b'' new_links)) (λ stop. Moves now after (Goes b' mid) (Writes false l.number mid new_links) (StopsAt stop))
    → MatchResult r (λ _. Moves old after (Goes b links) (Takes (number_at links at) links new_links) (Goes b'' new_links)) (λ stop. Moves old after (Goes b links) (TakesCut (number_at links at) links) (StopsAt stop))
served_either (Ok x) b b' b'' links mid new_links at l old now after h e p q = served b b' b'' links mid new_links at l old now after h e p q
served_either (Err stop) b b' b'' links mid new_links at l old now after h e p q = served_part b b' links mid new_links at l stop old now after h e p q
