-- An end joins, with what it sends first.
use Rattle.std.proofs.Common.{◌≡◌, ℕ, suc, List, [], ◌∷◌, ◌++◌, length, map, set, None, Some, refl, sym, ap, ◌∙◌, subst, append_assoc}
use Rattle.std.specs.Prelude.{slice_get}
use Rattle.std.specs.List.{AllByRecursion}
use Rattle.std.proofs.lemmas.List.{length-map}
use Rattle.atspi_script_lines.specs.declared.line.Party.{Party}
use Rattle.atspi_script_lines.specs.declared.line.Party.TheVariants.{Registry as The_registry, App, Reader}
use Rattle.atspi_message.specs.Envelope.{Envelope}
use Rattle.atspi_protocol.specs.declared.following.question.Question.TheVariants.{Hello}
use Rattle.atspi_protocol.specs.exporting.Exporter as exporting
use Rattle.atspi_protocol.specs.exporting.Exporter.{Exporter}
use Rattle.atspi_protocol.specs.exporting.Starting as starting
use Rattle.atspi_protocol.specs.following.ReaderState as following
use Rattle.atspi_protocol.specs.following.ReaderState.{ReaderState}
use Rattle.atspi_protocol.specs.following.Calls.{asking}
use Rattle.atspi_protocol.specs.following.Takes as takes
use Rattle.atspi_match.specs.routing.Queues.{Bus}
use Rattle.atspi_trace_events.specs.declared.event.Event.{Event}
use Rattle.atspi_world_links.specs.declared.post.Post.{Post}
use Rattle.atspi_trace.specs.Entry.{entries_of, started, sent}
use Rattle.atspi_trace.specs.World.{Role, an_application, a_reader, Said, End, World, newcomer}
use Rattle.atspi_trace.specs.Ends.{plain, put_up, app_count, reader_count, end_at}
use Rattle.atspi_trace.specs.Causes.{at_end, joins, did, saids, has_done, app_did, asks, first_hearer, starts_app, starts_reader, does}
use Rattle.atspi_world_moves.specs.Carried.{post_of, IsSendable, IsCarried, IsDone}
use Rattle.atspi_world_moves.proofs.Ties.{post_at, post_below}
use Rattle.atspi_world_moves.specs.Linked.{IsLinked}
use Rattle.atspi_world_moves.proofs.Linked.{linked_same}
use Rattle.atspi_trace.specs.play.Playing.{Playing, silent}
use Rattle.atspi_trace.specs.play.Plays.{only, plays}
use Rattle.atspi_world_parties.specs.Doing.{quiet, IsToldAll, TellsAt, TellsReaderAt}
use Rattle.atspi_world.specs.Worlds.{Staged, BeginsWithRegistry, IsWorld, IsPlaying, Happens}
use Rattle.atspi_world.proofs.AskingReaders.{starts_left}
use Rattle.atspi_world.proofs.Calling.{hello_reads, sends_one, one_sent}
use Rattle.atspi_world.proofs.Changed.{last_end, last_with}
use Rattle.atspi_world.proofs.Plays.{get_last, set_last}
use Rattle.atspi_world.proofs.Sayings.{told_done, done_leaves}
use Rattle.atspi_world.proofs.Stays.{Beside, app_joins, reader_joins}

-- the next number of one, where each is seen as something else
pub counted : {X Y : Type 0} (f : X → Y) (xs : List X) (n : ℕ) → n ≡ length xs → n ≡ length (map f xs)
counted f xs n h = h ∙ sym (length-map xs f)

-- what joining does to bus and connections
abbrev pub Joins : Party → Staged → Bus → List Post → Type 0
Joins who old bus posts = (w : World) (role : Role) → IsCarried w old.bus old.posts → IsCarried (joins w who role []) bus posts

-- and to what lies at the ends
abbrev pub JoinsLinks : Party → Staged → List (List ℕ) → Type 0
JoinsLinks who old given = (w : World) (role : Role) → IsLinked w old.given → (w.ends ≡ [] → who ≡ The_registry) → IsLinked (joins w who role []) given

conn_last : (w : World) (old : Staged) (conn : ℕ) → IsCarried w old.bus old.posts → conn ≡ length old.posts → conn ≡ length w.ends
conn_last w old conn is last = last ∙ ap length is.posts_are ∙ length-map w.ends post_of

-- somebody is there
some_end : (ends : List End) → BeginsWithRegistry ends → ends ≡ [] → ⊥
some_end [] h e = h
some_end (x ∷ xs) h e = cc

-- an application starts
module _ (p : Playing) (w : World) (name : List ℕ) (old new : Staged) (apps : List Exporter) (posts : List Post) (trace : List Event) where
  abbrev app_is : Party
  app_is = App (app_count w.ends)

  abbrev app_role : Role
  app_role = an_application (exporting.begins name)

  abbrev app_end : End
  app_end = put_up [] (newcomer app_is app_role)

  abbrev app_starts_as : Exporter
  app_starts_as = starting.starts (exporting.begins name)

  app_started : old.readers ≡ p.readers → IsWorld w (record old { kits = suc old.kits }) → IsCarried (joins w app_is app_role []) new.bus posts → IsLinked (joins w app_is app_role []) new.given
      → entries_of trace ≡ entries_of old.trace ++ started app_is (Some name) ∷ []
      → apps ≡ old.apps ++ app_starts_as ∷ [] → TellsAt apps new.apps (app_count w.ends) (length w.ends) posts new.posts trace new.trace → new.readers ≡ old.readers → Beside old new
      → Happens (only p (does w (starts_app name))) old new
  app_started own is carried joined begun apps_are tells readers beside =
      let v : World = joins w app_is app_role [] in
      let at : end_at v.ends (length w.ends) ≡ Some app_end = last_end w.ends app_end in
      let put : slice_get apps (app_count w.ends) ≡ Some app_starts_as = ap (λ l. slice_get l (app_count w.ends)) apps_are ∙ ap (slice_get (old.apps ++ app_starts_as ∷ [])) is.apps_are ∙ get_last old.apps app_starts_as in
      let told = tells app_starts_as (post_of app_end) put (post_at v new.bus posts (length w.ends) app_end carried at) in
      let hello : AllByRecursion (λ (said : Said). IsSendable said.message) (saids (exporting.begins name) (exporting.begins name).tree None app_starts_as.out) =
      (record { is = told.written_.0; reads = hello_reads 1 }, tt) in
      let wrote : entries_of new.trace ≡ entries_of old.trace ++ ((started app_is (Some name) ∷ []) ++ map (did (app_count w.ends)) app_starts_as.out) =
      told.wrote ∙ ap (λ l. l ++ map (did (app_count w.ends)) app_starts_as.out) begun ∙ append_assoc (entries_of old.trace) (started app_is (Some name) ∷ []) (map (did (app_count w.ends)) app_starts_as.out) in
      let done : IsDone (app_did v (length w.ends) (started app_is (Some name) ∷ []) (exporting.begins name) app_starts_as) new.bus new.posts old.trace new.trace =
      told_done v (length w.ends) (app_count w.ends) app_end (started app_is (Some name) ∷ []) (exporting.begins name) app_starts_as new.bus new.bus posts new.posts old.trace new.trace carried at refl hello refl told.posts_are wrote in
      let apps_after : new.apps ≡ old.apps ++ quiet app_starts_as ∷ [] =
      told.apps ∙ ap (λ l. set l (app_count w.ends) (quiet app_starts_as)) apps_are ∙ ap (λ k. set (old.apps ++ app_starts_as ∷ []) k (quiet app_starts_as)) is.apps_are
      ∙ set_last old.apps app_starts_as (quiet app_starts_as) in
      let f : End → End = has_done (exporting.begins name) app_starts_as in
      let linked : IsLinked (at_end v (length w.ends) f) new.given = linked_same v (length w.ends) f new.given (done_leaves (exporting.begins name) app_starts_as) joined in
      record {
        is = record {
          readers = readers ∙ own;
          is = app_joins w (at_end v (length w.ends) f) (f app_end) (quiet app_starts_as) (record old { kits = suc old.kits }) new (ap App is.apps_are) (record { role_is = refl; quiet = refl }) is
              (last_with f w.ends app_end) refl done.tied linked apps_after readers beside.registry (ap suc beside.kits) beside.spares;
        };
        wrote = done.wrote;
      }

pub app_start : (p : Playing) (name : List ℕ) (number conn : ℕ) (old new : Staged) (apps : List Exporter) (posts : List Post) (trace : List Event) → IsPlaying p (record old { kits = suc old.kits })
    → number ≡ length old.apps → conn ≡ length old.posts → Joins (App number) old new.bus posts → JoinsLinks (App number) old new.given → entries_of trace ≡ entries_of old.trace ++ started (App number) (Some name) ∷ []
    → apps ≡ old.apps ++ starting.starts (exporting.begins name) ∷ [] → TellsAt apps new.apps number conn posts new.posts trace new.trace → new.readers ≡ old.readers → Beside old new
    → Happens (plays p (starts_app name)) old new
app_start p name number conn old new apps posts trace playing numbered last joined linked begun apps_are tells readers beside =
    let w : World = p.world in
    let is : IsWorld w (record old { kits = suc old.kits }) = playing.is in
    let number_is : number ≡ app_count w.ends = numbered ∙ sym is.apps_are in
    app_started p w name old new apps posts trace playing.readers is
    (subst (λ k. IsCarried (joins w (App k) (an_application (exporting.begins name)) []) new.bus posts) number_is (joined w (an_application (exporting.begins name)) is.carried))
    (subst (λ k. IsLinked (joins w (App k) (an_application (exporting.begins name)) []) new.given) number_is (linked w (an_application (exporting.begins name)) is.linked (λ e. absurd (some_end w.ends is.first e))))
    (begun ∙ ap (λ k. entries_of old.trace ++ started (App k) (Some name) ∷ []) number_is) apps_are
    (subst (λ k. TellsAt apps new.apps k (length w.ends) posts new.posts trace new.trace) number_is (subst (λ k. TellsAt apps new.apps number k posts new.posts trace new.trace) (conn_last w old conn is.carried last) tells))
    readers beside

-- a reader starts
module _ (p : Playing) (w : World) (old new : Staged) (readers : List ReaderState) (posts : List Post) (trace : List Event) where
  abbrev reader_is : Party
  reader_is = Reader (reader_count w.ends)

  abbrev reader_role : Role
  reader_role = a_reader (asks Hello first_hearer)

  abbrev reader_end : End
  reader_end = put_up [] (newcomer reader_is reader_role)

  abbrev first_call : Envelope
  first_call = asking 1 Hello

  reader_started : old.readers ≡ p.readers → IsWorld w old → IsCarried (joins w reader_is reader_role []) new.bus posts → IsLinked (joins w reader_is reader_role []) new.given
      → entries_of trace ≡ entries_of old.trace ++ started reader_is None ∷ []
      → readers ≡ old.readers ++ takes.starts following.begins ∷ [] → TellsReaderAt readers new.readers (reader_count w.ends) (length w.ends) posts new.posts trace new.trace → new.apps ≡ old.apps → Beside old new
      → Happens (record { now = record { world = (does w starts_reader).world; readers = p.readers ++ silent (takes.starts following.begins) ∷ [] }; entries = (does w starts_reader).entries }) old new
  reader_started own is carried joined begun readers_are tells apps beside =
      let v : World = joins w reader_is reader_role [] in
      let u : World = joins w reader_is reader_role (plain first_call ∷ []) in
      let t : ReaderState = takes.starts following.begins in
      let at : end_at v.ends (length w.ends) ≡ Some reader_end = last_end w.ends reader_end in
      let put : slice_get readers (reader_count w.ends) ≡ Some t = ap (λ l. slice_get l (reader_count w.ends)) readers_are ∙ ap (slice_get (old.readers ++ t ∷ [])) is.readers_are ∙ get_last old.readers t in
      let told = tells t put in
      let one : IsToldAll (reader_count w.ends) t.out (length w.ends) posts new.posts trace new.trace = told.tells (post_below v new.bus posts (length w.ends) reader_end carried at) in
      let sent_ : IsCarried (at_end v (length w.ends) (sends_one first_call reader_role)) new.bus new.posts =
      one_sent v (length w.ends) reader_role first_call new.bus new.bus posts new.posts carried (record { is = one.written_.0; reads = hello_reads 1 }) refl one.posts_are in
      let tied : IsCarried u new.bus new.posts = subst (λ es. IsCarried (record v { ends = es }) new.bus new.posts) (last_with (sends_one first_call reader_role) w.ends reader_end) sent_ in
      let linked_at : IsLinked (at_end v (length w.ends) (sends_one first_call reader_role)) new.given = linked_same v (length w.ends) (sends_one first_call reader_role) new.given (λ y. (refl, refl, refl, refl, refl)) joined in
      let linked : IsLinked u new.given = subst (λ es. IsLinked (record v { ends = es }) new.given) (last_with (sends_one first_call reader_role) w.ends reader_end) linked_at in
      let readers_after : new.readers ≡ old.readers ++ silent t ∷ [] =
      told.readers ∙ ap (λ l. set l (reader_count w.ends) (silent t)) readers_are ∙ ap (λ k. set (old.readers ++ t ∷ []) k (silent t)) is.readers_are ∙ set_last old.readers t (silent t) in
      record {
        is = record {
          readers = readers_after ∙ ap (λ l. l ++ silent t ∷ []) own;
          is = reader_joins w u (put_up (plain first_call ∷ []) (newcomer reader_is reader_role)) (silent t) old new (ap Reader is.readers_are)
              (record { hearer = asks Hello first_hearer; role_is = refl; next = refl; quiet = refl; left = starts_left }) is refl refl tied linked readers_after apps beside;
        };
        wrote = one.wrote ∙ ap (λ l. l ++ sent reader_is first_call ∷ []) begun ∙ append_assoc (entries_of old.trace) (started reader_is None ∷ []) (sent reader_is first_call ∷ []);
      }

pub reader_start : (p : Playing) (number conn : ℕ) (old new : Staged) (readers : List ReaderState) (posts : List Post) (trace : List Event) → IsPlaying p old
    → number ≡ length old.readers → conn ≡ length old.posts → Joins (Reader number) old new.bus posts → JoinsLinks (Reader number) old new.given → entries_of trace ≡ entries_of old.trace ++ started (Reader number) None ∷ []
    → readers ≡ old.readers ++ takes.starts following.begins ∷ [] → TellsReaderAt readers new.readers number conn posts new.posts trace new.trace → new.apps ≡ old.apps → Beside old new
    → Happens (plays p starts_reader) old new
reader_start p number conn old new readers posts trace playing numbered last joined linked begun readers_are tells apps beside =
    let w : World = p.world in
    let is : IsWorld w old = playing.is in
    let number_is : number ≡ reader_count w.ends = numbered ∙ sym is.readers_are in
    reader_started p w old new readers posts trace playing.readers is
    (subst (λ k. IsCarried (joins w (Reader k) (a_reader (asks Hello first_hearer)) []) new.bus posts) number_is (joined w (a_reader (asks Hello first_hearer)) is.carried))
    (subst (λ k. IsLinked (joins w (Reader k) (a_reader (asks Hello first_hearer)) []) new.given) number_is (linked w (a_reader (asks Hello first_hearer)) is.linked (λ e. absurd (some_end w.ends is.first e))))
    (begun ∙ ap (λ k. entries_of old.trace ++ started (Reader k) None ∷ []) number_is) readers_are
    (subst (λ k. TellsReaderAt readers new.readers k (length w.ends) posts new.posts trace new.trace) number_is
    (subst (λ k. TellsReaderAt readers new.readers number k posts new.posts trace new.trace) (conn_last w old conn is.carried last) tells))
    apps beside
