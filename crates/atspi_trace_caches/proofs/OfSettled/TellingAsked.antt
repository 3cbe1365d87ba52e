-- A READER'S OWN CALLS, in their order: each behind which another was asked was answered; and a call for the registry's children that comes behind the rest of the start.
use Rattle.std.proofs.Common.{◌≡◌, ◌⊎◌, inl, inr, ℕ, zero, suc, ◌+◌, Bool, true, false, List, [], ◌∷◌, ◌++◌, length, map, Some, refl, sym, ap, ◌∙◌, subst}
use Rattle.std.specs.Prelude.{◌==◌, ◌&&◌, if◌then◌else◌}
use Rattle.std.specs.List.{AllByRecursion, list_all}
use Rattle.atspi_script_lines.specs.declared.limits.TheConstants.{QUOTA_MOST}
use Rattle.atspi_message.specs.Envelope.{Envelope}
use Rattle.atspi_match.specs.routing.Routing.{is_reply}
use Rattle.atspi_protocol.specs.declared.following.question.Question.{Question}
use Rattle.atspi_protocol.specs.declared.following.question.Question.TheVariants.{Hello, GetChildren}
use Rattle.atspi_protocol.specs.following.Replied.{is_reply_to}
use Rattle.atspi_protocol.specs.following.Calls.{user_call}
use Rattle.atspi_protocol.specs.exporting.Taking.{app_takes}
use Rattle.atspi_protocol.specs.registering.Steps.{registry_takes}
use Rattle.atspi_trace.specs.Entry.{Entry}
use Rattle.atspi_trace.specs.World.{here, waits, returned, failed, Asked, Hearer, Role, a_reader, End, World, first_registry, first_world}
use Rattle.atspi_trace.specs.Ends.{is_here, end_at, with_end, taken_down, stops}
use Rattle.atspi_trace.specs.Hearing.{answered_by, fate_of, is_answered, hears_letter}
use Rattle.atspi_trace.specs.Causes.{Done, only, at_end, has_done, reader_sends, registry_did, asks}
use Rattle.atspi_trace.specs.Due.{asks_as, asks_at}
use Rattle.atspi_trace_caches.specs.settled.Laws.{question_of, BeginsWell}
use Rattle.atspi_trace_laws.proofs.OfOrder.Parties.{no_none, same_some, false_true}
use Rattle.atspi_trace_laws.proofs.OfOrder.Along.{Keeps}
use Rattle.atspi_trace_laws.proofs.OfOrder.Allowed.{MovedUp, MovedDown, Asks}
use Rattle.atspi_trace_laws.proofs.OfOrder.Frame.{Over, IsOrder, over_same, over_both, over_with, over_at, with_cases, joined_cases}
use Rattle.atspi_trace_laws.proofs.OfOrder.Shaped.{received_at, new_app, new_reader, app_joined}
use Rattle.atspi_trace_laws.proofs.OfOrder.Growing.{Grows, Shaped, Nothing, And, grown, shaped_keeps}
use Rattle.atspi_trace_laws.proofs.OfOrder.Effects.{received, Effect, resets, app_joins, reader_joins, app_edited, app_took, reader_called, swapped, exited_, showed_, told_busy, told_quiet, bus_took, bus_ended, registry_took, reader_took}
use Rattle.atspi_trace_laws.proofs.OfMissed.Arriving.{Goes_on, took_goes, ended_goes}

-- ANSWERED BEFORE THE NEXT
abbrev pub Ordered : List Asked → Type 0
Ordered [] = Unit {0}
Ordered (x ∷ []) = Unit {0}
Ordered (x ∷ (y ∷ ys)) = (is_answered x ≡ true) × Ordered (y ∷ ys)

still_answered : (m : Envelope) (a : Asked) → is_answered a ≡ true → is_answered (answered_by m a) ≡ true
still_answered m a h = by (is_reply m && is_reply_to a.serial m.reply)
  where
    fate : (b : Bool) → is_answered (record a { fate = if b then returned else failed }) ≡ true
    fate true = refl
    fate false = refl

    by : (b : Bool) → is_answered (if b then record a { fate = fate_of m } else a) ≡ true
    by true = fate (m.kind == 2)
    by false = h

ordered_answered : (m : Envelope) (asked : List Asked) → Ordered asked → Ordered (map (answered_by m) asked)
ordered_answered m [] o = tt
ordered_answered m (x ∷ []) o = tt
ordered_answered m (x ∷ (y ∷ ys)) o = (still_answered m x o.0, ordered_answered m (y ∷ ys) o.1)

and_left : (a b : Bool) → (a && b) ≡ true → a ≡ true
and_left true b h = refl
and_left false b h = absurd (false_true h)

and_right : (a b : Bool) → (a && b) ≡ true → b ≡ true
and_right true b h = h
and_right false b h = absurd (false_true h)

ordered_more : (asked : List Asked) (a : Asked) → list_all is_answered asked ≡ true → Ordered (asked ++ a ∷ [])
ordered_more [] a h = tt
ordered_more (x ∷ []) a h = (and_left (is_answered x) true h, tt)
ordered_more (x ∷ (y ∷ ys)) a h = (and_left (is_answered x) (list_all is_answered (y ∷ ys)) h, ordered_more (y ∷ ys) a (and_right (is_answered x) (list_all is_answered (y ∷ ys)) h))

pub ordered_split : (early late : List Asked) (x : Asked) → Ordered (early ++ x ∷ late) → AllByRecursion (λ (a : Asked). is_answered a ≡ true) early
ordered_split [] late x o = tt
ordered_split (a ∷ []) late x o = (o.0, tt)
ordered_split (a ∷ (b ∷ bs)) late x o = (o.0, ordered_split (b ∷ bs) late x o.1)

-- A CALL FOR THE CHILDREN behind the rest of the start
pub record IsWell (asked : List Asked) (n : ℕ) : Type 0 where
  pub early : List Asked
  pub one : Asked
  pub late : List Asked
  pub are : asked ≡ early ++ one ∷ late
  pub question : one.question ≡ GetChildren
  pub serial : one.serial ≡ n
  pub well : BeginsWell (early ++ one ∷ [])

-- the same calls, whatever became of them
answered_same : (m : Envelope) (a : Asked) → ((answered_by m a).serial ≡ a.serial) × ((answered_by m a).question ≡ a.question)
answered_same m a = by (is_reply m && is_reply_to a.serial m.reply)
  where
    by : (b : Bool) → ((if b then record a { fate = fate_of m } else a).serial ≡ a.serial) × ((if b then record a { fate = fate_of m } else a).question ≡ a.question)
    by true = (refl, refl)
    by false = (refl, refl)

no_cons : {X : Type 0} (xs ys : List X) (x : X) → [] ≡ xs ++ x ∷ ys → ⊥
no_cons [] ys x h = cc
no_cons (z ∷ zs) ys x h = cc

abbrev head_of : Asked → List Asked → Asked
head_of a [] = a
head_of a (x ∷ xs) = x

abbrev tail_of : List Asked → List Asked
tail_of [] = []
tail_of (x ∷ xs) = xs

record Split (m : Envelope) (asked early late : List Asked) (x : Asked) : Type 0 where
  front : List Asked
  one : Asked
  back : List Asked
  are : asked ≡ front ++ one ∷ back
  first : early ≡ map (answered_by m) front
  it : x ≡ answered_by m one

map_split : (m : Envelope) (asked early late : List Asked) (x : Asked) → map (answered_by m) asked ≡ early ++ x ∷ late → Split m asked early late x
map_split m [] early late x h = absurd (no_cons early late x h)
map_split m (a ∷ rest) [] late x h = record { front = []; one = a; back = rest; are = refl; first = refl; it = sym (ap (head_of a) h) }
map_split m (a ∷ rest) (e ∷ es) late x h =
    let r = map_split m rest es late x (ap tail_of h) in
    record {
      front = a ∷ r.front;
      one = r.one;
      back = r.back;
      are = ap (λ l. a ∷ l) r.are;
      first = ap (λ z. z ∷ es) (sym (ap (head_of a) h)) ∙ ap (λ l. answered_by m a ∷ l) r.first;
      it = r.it;
    }

same_questions : (m : Envelope) (xs : List Asked) → map question_of (map (answered_by m) xs) ≡ map question_of xs
same_questions m [] = refl
same_questions m (x ∷ xs) = ap (λ q. q ∷ map question_of (map (answered_by m) xs)) (answered_same m x).1 ∙ ap (λ l. x.question ∷ l) (same_questions m xs)

pub questions_append : (xs ys : List Asked) → map question_of (xs ++ ys) ≡ map question_of xs ++ map question_of ys
questions_append [] ys = refl
questions_append (x ∷ xs) ys = ap (λ l. x.question ∷ l) (questions_append xs ys)

pub well_back : (m : Envelope) (asked : List Asked) (n : ℕ) → IsWell (map (answered_by m) asked) n → IsWell asked n
well_back m asked n w =
    let r = map_split m asked w.early w.late w.one w.are in
    record {
      early = r.front;
      one = r.one;
      late = r.back;
      are = r.are;
      question = sym (answered_same m r.one).1 ∙ ap (λ (a : Asked). a.question) (sym r.it) ∙ w.question;
      serial = sym (answered_same m r.one).0 ∙ ap (λ (a : Asked). a.serial) (sym r.it) ∙ w.serial;
      well = (
        w.well.0,
        questions_append r.front (r.one ∷ []) ∙ ap (λ q. map question_of r.front ++ q ∷ []) (sym (answered_same m r.one).1)
            ∙ ap (λ l. l ++ (answered_by m r.one).question ∷ []) (sym (same_questions m r.front)) ∙ ap (λ l. map question_of l ++ (answered_by m r.one).question ∷ []) (sym r.first)
            ∙ ap (λ (a : Asked). map question_of w.early ++ a.question ∷ []) (sym r.it) ∙ sym (questions_append w.early (w.one ∷ [])) ∙ w.well.1,
      );
    }

pub well_one : (m : Envelope) (asked : List Asked) (n : ℕ) (w : IsWell (map (answered_by m) asked) n) → w.one ≡ answered_by m (well_back m asked n w).one
unfolding well_back
well_one m asked n w = (map_split m asked w.early w.late w.one w.are).it

-- one more: it was one before, or it is the new one
pub well_more : (asked : List Asked) (a : Asked) (n : ℕ) → IsWell (asked ++ a ∷ []) n → IsWell asked n ⊎ (a.serial ≡ n)
well_more asked a n w = by (last asked w.early w.late w.one w.are)
  where
    last : (asked early late : List Asked) (x : Asked) → asked ++ a ∷ [] ≡ early ++ x ∷ late → ((rest : List Asked) × (asked ≡ early ++ x ∷ rest)) ⊎ (a ≡ x)
    last [] [] late x h = inr (ap (head_of a) h)
    last [] (e ∷ es) late x h = absurd (no_cons es late x (ap tail_of h))
    last (b ∷ bs) [] late x h = inl (bs, ap (λ z. z ∷ bs) (ap (head_of b) h))
    last (b ∷ bs) (e ∷ es) late x h = more (last bs es late x (ap tail_of h))
      where
        more : ((rest : List Asked) × (bs ≡ es ++ x ∷ rest)) ⊎ (a ≡ x) → ((rest : List Asked) × (b ∷ bs ≡ e ∷ (es ++ x ∷ rest))) ⊎ (a ≡ x)
        more (inl r) = inl (r.0, ap (λ z. z ∷ bs) (ap (head_of b) h) ∙ ap (λ l. e ∷ l) r.1)
        more (inr r) = inr r

    by : ((rest : List Asked) × (asked ≡ w.early ++ w.one ∷ rest)) ⊎ (a ≡ w.one) → IsWell asked n ⊎ (a.serial ≡ n)
    by (inl r) = inl (record { early = w.early; one = w.one; late = r.0; are = r.1; question = w.question; serial = w.serial; well = w.well })
    by (inr same) = inr (ap (λ (z : Asked). z.serial) same ∙ w.serial)

-- the same, with the call itself
pub well_last : (asked : List Asked) (a : Asked) (n : ℕ) (w : IsWell (asked ++ a ∷ []) n) → ((x : IsWell asked n) × (x.one ≡ w.one)) ⊎ (a ≡ w.one)
well_last asked a n w = by (last asked w.early w.late w.one w.are)
  where
    last : (asked early late : List Asked) (x : Asked) → asked ++ a ∷ [] ≡ early ++ x ∷ late → ((rest : List Asked) × (asked ≡ early ++ x ∷ rest)) ⊎ (a ≡ x)
    last [] [] late x h = inr (ap (head_of a) h)
    last [] (e ∷ es) late x h = absurd (no_cons es late x (ap tail_of h))
    last (b ∷ bs) [] late x h = inl (bs, ap (λ z. z ∷ bs) (ap (head_of b) h))
    last (b ∷ bs) (e ∷ es) late x h = more (last bs es late x (ap tail_of h))
      where
        more : ((rest : List Asked) × (bs ≡ es ++ x ∷ rest)) ⊎ (a ≡ x) → ((rest : List Asked) × (b ∷ bs ≡ e ∷ (es ++ x ∷ rest))) ⊎ (a ≡ x)
        more (inl r) = inl (r.0, ap (λ z. z ∷ bs) (ap (head_of b) h) ∙ ap (λ l. e ∷ l) r.1)
        more (inr r) = inr r

    by : ((rest : List Asked) × (asked ≡ w.early ++ w.one ∷ rest)) ⊎ (a ≡ w.one) → ((x : IsWell asked n) × (x.one ≡ w.one)) ⊎ (a ≡ w.one)
    by (inl r) = inl (record { early = w.early; one = w.one; late = r.0; are = r.1; question = w.question; serial = w.serial; well = w.well }, refl)
    by (inr same) = inr same

-- EACH READER, BEHIND A CAUSE: its calls are those before, some answered now
pub record AskedBack (e d : End) : Type 0 where
  pub whose : d.who ≡ e.who
  pub on : d.standing ≡ here → e.standing ≡ here
  pub calls : (h : Hearer) → d.role ≡ a_reader h → (g : Hearer) × (e.role ≡ a_reader g) × (Ordered g.asked → Ordered h.asked) × ((n : ℕ) → IsWell h.asked n → IsWell g.asked n)

pub backing : IsOrder AskedBack
backing = record {
  same = λ e. record { whose = refl; on = λ h. h; calls = λ h role. (h, role, λ o. o, λ n x. x) };
  both = λ e d c f g. record {
    whose = g.whose ∙ f.whose;
    on = λ h. f.on (g.on h);
    calls = λ h role. let x = g.calls h role in let y = f.calls x.0 x.1 in (y.0, y.1, λ o. x.2 (y.2 o), λ n z. y.3 n (x.3 n z));
  };
}

alike : (e d : End) → d.who ≡ e.who → d.role ≡ e.role → (d.standing ≡ here → e.standing ≡ here) → AskedBack e d
alike e d who role on = record { whose = who; on = on; calls = λ h g. (h, sym role ∙ g, λ o. o, λ n x. x) }

abbrev is_reader_role : Role → Bool
is_reader_role (a_reader h) = true
is_reader_role role = false

not_reader : (e d : End) → d.who ≡ e.who → is_reader_role d.role ≡ false → (d.standing ≡ here → e.standing ≡ here) → AskedBack e d
not_reader e d who none on = record { whose = who; on = on; calls = λ h g. absurd (false_true (sym none ∙ ap is_reader_role g)) }

abbrev hearer_in : Role → Hearer → Hearer
hearer_in (a_reader h) g = h
hearer_in role g = g

same_hearer : (g h : Hearer) → a_reader g ≡ a_reader h → g ≡ h
same_hearer g h is = ap (λ r. hearer_in r g) is

no_stop : (e : End) → (stops e).standing ≡ here → e.standing ≡ here
no_stop e h = absurd (false_true (ap is_here h))

-- its calls as they were, or answered
calls_same : (e d : End) (g h : Hearer) → d.who ≡ e.who → d.standing ≡ e.standing → e.role ≡ a_reader g → d.role ≡ a_reader h → h.asked ≡ g.asked → AskedBack e d
calls_same e d g h who standing was is asked = record {
  whose = who;
  on = λ on. sym standing ∙ on;
  calls = λ x role.
      let same : x.asked ≡ g.asked = ap (λ (y : Hearer). y.asked) (sym (same_hearer h x (sym is ∙ role))) ∙ asked in
      (g, was, λ o. subst Ordered (sym same) o, λ n y. subst (λ l. IsWell l n) same y);
}

calls_answered : (m : Envelope) (e d : End) (g h : Hearer) → d.who ≡ e.who → d.standing ≡ e.standing → e.role ≡ a_reader g → d.role ≡ a_reader h → h.asked ≡ map (answered_by m) g.asked → AskedBack e d
calls_answered m e d g h who standing was is asked = record {
  whose = who;
  on = λ on. sym standing ∙ on;
  calls = λ x role.
      let same : x.asked ≡ map (answered_by m) g.asked = ap (λ (y : Hearer). y.asked) (sym (same_hearer h x (sym is ∙ role))) ∙ asked in
      (g, was, λ o. subst Ordered (sym same) (ordered_answered m g.asked o), λ n y. well_back m g.asked n (subst (λ l. IsWell l n) same y));
}

pub data Reading (w : World) (d : Done) : Type 0 where
  reads_on : Over AskedBack w.ends d.world.ends → Reading w d
  joins : (nu : End) → d.world.ends ≡ w.ends ++ nu ∷ [] → ((h : Hearer) → nu.role ≡ a_reader h → Ordered h.asked × ((n : ℕ) → IsWell h.asked n → ⊥)) → Reading w d
  begins_ : (quota : ℕ) → d ≡ only (first_world quota) [] → Reading w d

goes_back : (xs zs : List End) → Over Goes_on xs zs → Over AskedBack xs zs
goes_back xs zs o = record { size = o.size; back = λ k d there. let x = o.back k d there in (x.0, x.1, alike x.0 d x.2.whose x.2.role x.2.on) }

-- the calls of a reader that begins: Hello alone
pub no_children : (n : ℕ) (a : Asked) → a.question ≡ Hello → IsWell (a ∷ []) n → ⊥
no_children n a hello_ w = by w.early w.are
  where
    abbrev_is : Question → Bool
    abbrev_is GetChildren = true
    abbrev_is q = false

    by : (early : List Asked) → a ∷ [] ≡ early ++ w.one ∷ w.late → ⊥
    by [] h = false_true (ap abbrev_is (sym hello_ ∙ ap (λ (z : Asked). z.question) (ap (head_of a) h) ∙ w.question))
    by (e ∷ es) h = no_cons es w.late w.one (ap tail_of h)

module _ (w : World) (d : Done) where
  as_is : (x : Done) → d ≡ x → Over AskedBack w.ends x.world.ends → Reading w d
  as_is x is o = reads_on (subst (λ y. Over AskedBack w.ends y.world.ends) (sym is) o)

  one : (f : End → End) → ((e : End) → AskedBack e (f e)) → (conn : ℕ) → Over AskedBack w.ends (with_end conn f w.ends)
  one f r conn = over_with AskedBack backing f r conn w.ends

  down_back : (e : End) → AskedBack e (taken_down e)
  down_back e = alike e (taken_down e) refl refl (λ h. h)

  two : (f : End → End) (conn : ℕ) (e : End) → end_at w.ends conn ≡ Some e → end_at (with_end conn taken_down w.ends) conn ≡ Some (taken_down e) → AskedBack (taken_down e) (f (taken_down e))
      → Over AskedBack w.ends (with_end conn f (with_end conn taken_down w.ends))
  two f conn e there taken r =
      over_both AskedBack backing w.ends (with_end conn taken_down w.ends) (with_end conn f (with_end conn taken_down w.ends)) (over_with AskedBack backing taken_down down_back conn w.ends)
      (over_at AskedBack backing f conn (with_end conn taken_down w.ends) (taken_down e) taken r)

  none : Over AskedBack w.ends w.ends
  none = over_same AskedBack backing w.ends

  pub reading : Effect w d → Reading w d
  reading (resets quota old is) = begins_ quota is
  reading (app_joins name short is) = joins (new_app w name) (ap (λ x. x.world.ends) is ∙ app_joined w name) (λ h role. absurd (false_true (ap is_reader_role role)))
  reading (reader_joins old is) =
      joins (new_reader w) (ap (λ x. x.world.ends) is) (λ h role.
      let same = same_hearer _ h role in
      (subst (λ (g : Hearer). Ordered g.asked) same tt, λ n x. no_children n _ refl (subst (λ (g : Hearer). IsWell g.asked n) (sym same) x)))
  reading (app_edited b) = as_is _ b.is (one (has_done b.before b.after) (λ e. not_reader e (has_done b.before b.after e) refl refl (λ h. h)) b.conn)
  reading (app_took b) =
      let f : End → End = has_done b.before (app_takes b.before b.letter.said.message) in
      as_is _ b.is (two f b.conn b.e b.is_here.there (received_at w b.conn b.e b.letter b.is_here.there) (not_reader (taken_down b.e) (f (taken_down b.e)) refl refl (λ h. h)))
  reading (reader_called b) =
      let g : Hearer = record b.hearer { next = suc b.hearer.next } in
      let m : Envelope = user_call b.hearer.next b.name b.node b.deed in
      as_is _ b.is (over_at AskedBack backing (reader_sends g m) b.conn w.ends b.e b.is_here.there (calls_same b.e (reader_sends g m b.e) b.hearer g refl refl b.role refl refl))
  reading (swapped b) = as_is _ b.is none
  reading (exited_ b) = as_is _ b.is (one stops (λ e. alike e (stops e) refl refl (no_stop e)) b.conn)
  reading (showed_ b) = as_is _ b.is none
  reading (told_busy turns is) = as_is _ is none
  reading (told_quiet quiet is) = as_is _ is none
  reading (bus_took b) = as_is _ b.is (goes_back w.ends _ (took_goes (record { bus = w.bus; ends = w.ends }) b.conn b.e.who b.said))
  reading (bus_ended b) = as_is _ b.is (goes_back w.ends _ (ended_goes (record { bus = w.bus; ends = w.ends }) b.conn))
  reading (registry_took b) =
      let f : End → End = registry_did (registry_takes b.before b.letter.said.message) in
      as_is _ b.is (two f b.conn b.e b.is_here.there (received_at w b.conn b.e b.letter b.is_here.there) (not_reader (taken_down b.e) (f (taken_down b.e)) refl refl (λ h. h)))
  reading (reader_took b) =
      let v : World = received w b.conn b.e b.letter in
      let f : End → End = λ x. record x { role = a_reader (hears_letter b.hearer v.ends b.letter) } in
      as_is _ b.is
      (two f b.conn b.e b.is_here.there (received_at w b.conn b.e b.letter b.is_here.there)
      (calls_answered b.letter.said.message (taken_down b.e) (f (taken_down b.e)) b.hearer (hears_letter b.hearer v.ends b.letter) refl refl b.role refl refl))

-- bytes that complete no message, and an own call
pub moved_back : (w v : World) → (MovedUp w v ⊎ MovedDown w v) → Over AskedBack w.ends v.ends
moved_back w v (inl m) =
    subst (λ (x : World). Over AskedBack w.ends x.ends) (sym m.after) (over_with AskedBack backing (λ e. record e { up_moved = e.up_moved + m.count }) (λ e. alike e (record e { up_moved = e.up_moved + m.count }) refl refl (λ h. h)) m.conn w.ends)
moved_back w v (inr m) =
    subst (λ (x : World). Over AskedBack w.ends x.ends) (sym m.after)
    (over_with AskedBack backing (λ e. record e { down_moved = e.down_moved + m.count }) (λ e. alike e (record e { down_moved = e.down_moved + m.count }) refl refl (λ h. h)) m.conn w.ends)

pub asked_cases : (w : World) (conn r : ℕ) (m : Envelope) (question : Question) (a : Asks w conn r m question) (k : ℕ) (d : End) → end_at (at_end w conn (asks_at m question)).ends k ≡ Some d
    → (end_at w.ends k ≡ Some d) ⊎ (d ≡ reader_sends (asks question a.hearer) m a.asker)
asked_cases w conn r m question a k d there = by (with_cases (asks_at m question) w.ends conn k d there)
  where
    by : ((e : End) × (end_at w.ends k ≡ Some e) × (((k ≡ conn) × (d ≡ asks_at m question e)) ⊎ ((k ≡ conn → ⊥) × (d ≡ e)))) → (end_at w.ends k ≡ Some d) ⊎ (d ≡ reader_sends (asks question a.hearer) m a.asker)
    by g = at g.2
      where
        at : (((k ≡ conn) × (d ≡ asks_at m question g.0)) ⊎ ((k ≡ conn → ⊥) × (d ≡ g.0))) → (end_at w.ends k ≡ Some d) ⊎ (d ≡ reader_sends (asks question a.hearer) m a.asker)
        at (inl c) =
            let same : g.0 ≡ a.asker = same_some g.0 a.asker (sym g.1 ∙ ap (end_at w.ends) c.0 ∙ a.is_here.there) in
            inr (c.1 ∙ ap (asks_at m question) same ∙ ap (λ role. asks_as role m question a.asker) a.reader)
        at (inr c) = inl (g.1 ∙ ap Some (sym c.1))

-- THE CALLS OF EACH READER are in their order
abbrev pub AllOrdered : List Entry → World → Type 0
AllOrdered es w = (k : ℕ) (e : End) (h : Hearer) → end_at w.ends k ≡ Some e → e.role ≡ a_reader h → Ordered h.asked

no_reader_first : (quota k : ℕ) (e : End) (h : Hearer) → end_at (first_world quota).ends k ≡ Some e → e.role ≡ a_reader h → ⊥
no_reader_first quota zero e h there role = false_true (ap is_reader_role (ap (λ (x : End). x.role) (same_some first_registry e there) ∙ role))
no_reader_first quota (suc k) e h there role = no_none e there

back_ordered : (w v : World) → Over AskedBack w.ends v.ends → AllOrdered [] w → AllOrdered [] v
back_ordered w v o i k d h there role =
    let x = o.back k d there in
    let y = x.2.calls h role in
    y.2 (i k x.0 y.0 x.1 y.1)

joined_ordered : (w v : World) (nu : End) → v.ends ≡ w.ends ++ nu ∷ [] → ((h : Hearer) → nu.role ≡ a_reader h → Ordered h.asked × ((n : ℕ) → IsWell h.asked n → ⊥)) → AllOrdered [] w → AllOrdered [] v
joined_ordered w v nu is new i k e h there role = by (joined_cases w.ends nu k e (ap (λ l. end_at l k) (sym is) ∙ there))
  where
    by : (end_at w.ends k ≡ Some e) ⊎ ((k ≡ length w.ends) × (e ≡ nu)) → Ordered h.asked
    by (inl g) = i k e h g role
    by (inr g) = (new h (ap (λ (x : End). x.role) (sym g.1) ∙ role)).0

ordered_kept : (w : World) (d : Done) → Reading w d → AllOrdered [] w → AllOrdered [] d.world
ordered_kept w d (reads_on o) i = back_ordered w d.world o i
ordered_kept w d (joins nu is new) i = joined_ordered w d.world nu is new i
ordered_kept w d (begins_ quota is) i = subst (λ x. AllOrdered [] x.world) (sym is) (λ k e h there role. absurd (no_reader_first quota k e h there role))

asks_ordered : (w : World) (conn r : ℕ) (m : Envelope) (question : Question) → Asks w conn r m question → AllOrdered [] w → AllOrdered [] (at_end w conn (asks_at m question))
asks_ordered w conn r m question a i k d h there role = by (asked_cases w conn r m question a k d there)
  where
    by : (end_at w.ends k ≡ Some d) ⊎ (d ≡ reader_sends (asks question a.hearer) m a.asker) → Ordered h.asked
    by (inl g) = i k d h g role
    by (inr same) =
        let is : asks question a.hearer ≡ h = same_hearer (asks question a.hearer) h (ap (λ (x : End). x.role) (sym same) ∙ role) in
        subst (λ (g : Hearer). Ordered g.asked) is (ordered_more a.hearer.asked (record { serial = a.hearer.next; question = question; fate = waits }) a.answered)

ordered_grow : Grows Nothing AllOrdered
ordered_grow = record {
  begins = λ k e h there role. absurd (no_reader_first QUOTA_MOST k e h there role);
  caused = λ es w d s u i e after b. ordered_kept w d (reading w d e) i;
  moved = λ es w v s u i m. by w v i m;
  asked = λ es w conn r m question s u i a. asks_ordered w conn r m question a i;
}
  where
    by : (w v : World) → AllOrdered [] w → (MovedUp w v ⊎ MovedDown w v) → AllOrdered [] v
    by w v i m = back_ordered w v (moved_back w v m) i

pub ordered_keep : Keeps (Shaped (And Nothing AllOrdered))
ordered_keep = grown Nothing AllOrdered shaped_keeps ordered_grow
