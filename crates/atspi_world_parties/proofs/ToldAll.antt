-- What a reader did, told one thing after another.
use Rattle.std.proofs.Common.{◌≡◌, ℕ, zero, suc, ◌<◌, List, [], ◌∷◌, ◌++◌, length, None, Some, refl, sym, ap, ◌∙◌, subst, append-nil, append_assoc}
use Rattle.std.specs.Prelude.{Result, Ok, Err, OnOk, flat_map}
use Rattle.std.specs.List.{AllByRecursion}
use Rattle.std.proofs.lemmas.List.{map-append}
use Rattle.atspi_tree_model.specs.Forest.{first_of}
use Rattle.atspi_script_lines.specs.declared.line.Party.{Party}
use Rattle.atspi_script_lines.specs.declared.line.Party.TheVariants.{Bus, Registry, App, Reader}
use Rattle.atspi_message.specs.Envelope.{Envelope, envelope_of}
use Rattle.atspi_message.specs.Bytes.{IsMessage, written}
use Rattle.atspi_message.specs.declared.message.Message.{Message}
use Rattle.atspi_protocol.specs.declared.following.event.ReaderEvent.{ReaderEvent}
use Rattle.atspi_protocol.specs.declared.following.event.ReaderEvent.TheVariants.{Send, Say as Says, Gone as Ends}
use Rattle.atspi_protocol.specs.following.ReaderState.{Done, sends, speaks, tells_end, ReaderState}
use Rattle.atspi_trace_events.specs.declared.event.Event.{Event}
use Rattle.atspi_trace_events.specs.declared.event.Event.TheVariants.{Say, Gone}
use Rattle.atspi_world_links.specs.declared.post.Post.{Post}
use Rattle.atspi_trace.specs.Entry.{entry_of, entries_of, spoke, gone}
use Rattle.atspi_world_links.specs.Changes.{changed_at}
use Rattle.atspi_world_links.specs.Named.{app_by, app_of, app_named}
use Rattle.atspi_world_links.proofs.Changes.{length-changed}
use Rattle.atspi_trace.specs.play.Playing.{silent}
use Rattle.atspi_trace.specs.play.Plays.{of_app}
use Rattle.atspi_world_ends.specs.Done.{done_of}
use Rattle.atspi_world_parties.specs.Doing.{sent_on, IsSent, told_by, messages, all_sent, IsToldAll, TellsAll}
use Rattle.atspi_world_parties.specs.inner.Doing.{TellsOne}

-- CHANGES of one of many
module _ {X : Type 0} where
  pub changed_still : (f : X → X) → ((x : X) → f x ≡ x) → (conn : ℕ) (xs : List X) → changed_at conn f xs ≡ xs
  changed_still f same zero [] = refl
  changed_still f same (suc conn) [] = refl
  changed_still f same zero (x ∷ xs) = ap (λ y. y ∷ xs) (same x)
  changed_still f same (suc conn) (x ∷ xs) = ap (λ l. x ∷ l) (changed_still f same conn xs)

  pub changed_twice : (f g h : X → X) → ((x : X) → h x ≡ g (f x)) → (conn : ℕ) (xs : List X) → changed_at conn g (changed_at conn f xs) ≡ changed_at conn h xs
  changed_twice f g h same zero [] = refl
  changed_twice f g h same (suc conn) [] = refl
  changed_twice f g h same zero (x ∷ xs) = ap (λ y. y ∷ xs) (sym (same x))
  changed_twice f g h same (suc conn) (x ∷ xs) = ap (λ l. x ∷ l) (changed_twice f g h same conn xs)

pub changed_none : (conn : ℕ) (posts : List Post) → changed_at conn (all_sent []) posts ≡ posts
changed_none conn posts = changed_still (all_sent []) (λ p. refl) conn posts

-- MESSAGES stand one behind the other
one_and_more : (d : Done) (ds : List Done) (p : Post) → all_sent (messages (d ∷ ds)) p ≡ all_sent (messages ds) (all_sent (messages (d ∷ [])) p)
one_and_more (sends e) ds p = refl
one_and_more (speaks name line) ds p = refl
one_and_more (tells_end name) ds p = refl

all_written : (d : Done) (ds : List Done) → AllByRecursion (λ e. IsMessage e (written e)) (messages (d ∷ [])) → AllByRecursion (λ e. IsMessage e (written e)) (messages ds)
    → AllByRecursion (λ e. IsMessage e (written e)) (messages (d ∷ ds))
all_written (sends e) ds a b = (a.0, b)
all_written (speaks name line) ds a b = b
all_written (tells_end name) ds a b = b

-- THE NAMES of connections stay
same_name : (name : List ℕ) (es : List Envelope) (p : Post) → app_of name (all_sent es p) ≡ app_of name p
same_name name [] p = refl
same_name name (e ∷ es) p = same_name name es (sent_on e p) ∙ by p.who
  where
    by : (who : Party) → app_by name who (sent_on e p) ≡ app_by name who p
    by (App a) = refl
    by Bus = refl
    by Registry = refl
    by (Reader r) = refl

same_names : (name : List ℕ) (es : List Envelope) (conn : ℕ) (posts : List Post) → app_named name (changed_at conn (all_sent es) posts) ≡ app_named name posts
same_names name es zero [] = refl
same_names name es (suc conn) [] = refl
same_names name es zero (p ∷ ps) = ap (λ o. first_of o (app_named name ps)) (same_name name es p)
same_names name es (suc conn) (p ∷ ps) = ap (first_of (app_of name p)) (same_names name es conn ps)

one_same : (reader : ℕ) (es : List Envelope) (conn : ℕ) (posts posts' : List Post) → posts' ≡ changed_at conn (all_sent es) posts → (d : Done) → told_by reader posts' d ≡ told_by reader posts d
one_same reader es conn posts posts' is (sends e) = refl
one_same reader es conn posts posts' is (speaks name line) = ap (λ o. of_app o (λ app. spoke reader app line)) (ap (app_named name) is ∙ same_names name es conn posts)
one_same reader es conn posts posts' is (tells_end name) = ap (λ o. of_app o (λ app. gone reader app)) (ap (app_named name) is ∙ same_names name es conn posts)

all_same : (reader : ℕ) (es : List Envelope) (conn : ℕ) (posts posts' : List Post) → posts' ≡ changed_at conn (all_sent es) posts → (ds : List Done) → flat_map (told_by reader posts') ds ≡ flat_map (told_by reader posts) ds
all_same reader es conn posts posts' is [] = refl
all_same reader es conn posts posts' is (d ∷ ds) =
    ap (λ l. l ++ flat_map (told_by reader posts') ds) (one_same reader es conn posts posts' is d) ∙ ap (λ l. told_by reader posts d ++ l) (all_same reader es conn posts posts' is ds)

-- A READER that queued nothing
pub tells_none : (s : ReaderState) (reader conn : ℕ) (posts : List Post) (trace : List Event) → s.out ≡ [] → TellsAll s reader conn posts posts trace trace
tells_none s reader conn posts trace none = λ joined.
    let nothing : IsToldAll reader [] conn posts posts trace trace = record { posts_are = sym (changed_none conn posts); wrote = sym (append-nil (entries_of trace)); written_ = tt } in
    subst (λ o. IsToldAll reader o conn posts posts trace trace) (sym none) nothing

-- one thing, and then the rest
told_both : (d : Done) (ds : List Done) (reader conn : ℕ) (posts posts' posts'' : List Post) (old mid new : List Event) → IsToldAll reader (d ∷ []) conn posts posts' old mid
    → IsToldAll reader ds conn posts' posts'' mid new → IsToldAll reader (d ∷ ds) conn posts posts'' old new
told_both d ds reader conn posts posts' posts'' old mid new first all = record {
  posts_are = all.posts_are ∙ ap (changed_at conn (all_sent (messages ds))) first.posts_are
      ∙ changed_twice (all_sent (messages (d ∷ []))) (all_sent (messages ds)) (all_sent (messages (d ∷ ds))) (one_and_more d ds) conn posts;
  wrote = all.wrote ∙ ap (λ l. l ++ flat_map (told_by reader posts') ds) first.wrote ∙ append_assoc (entries_of old) (told_by reader posts d ++ []) (flat_map (told_by reader posts') ds)
      ∙ ap (λ l. entries_of old ++ (l ++ flat_map (told_by reader posts') ds)) (append-nil (told_by reader posts d))
      ∙ ap (λ l. entries_of old ++ (told_by reader posts d ++ l)) (all_same reader (messages (d ∷ [])) conn posts posts' first.posts_are ds);
  written_ = all_written d ds first.written_ all.written_;
}

pub tells_more : (s t : ReaderState) (d : Done) (reader conn : ℕ) (posts posts' posts'' : List Post) (old mid new : List Event) → s.out ≡ d ∷ t.out → TellsOne d reader conn posts posts' old mid
    → TellsAll t reader conn posts' posts'' mid new → TellsAll s reader conn posts posts'' old new
tells_more s t d reader conn posts posts' posts'' old mid new front one rest = λ joined.
    let first = one joined in
    let later : conn < length posts' = subst (λ n. conn < n) (sym (ap length first.posts_are ∙ length-changed (all_sent (messages (d ∷ []))) posts conn)) joined in
    subst (λ o. IsToldAll reader o conn posts posts'' old new) (sym front) (told_both d t.out reader conn posts posts' posts'' old mid new first (rest later))

-- silence
pub silent_none : (s t first : ReaderState) → t ≡ s → s.out ≡ [] → silent s ≡ silent first → t ≡ silent first
silent_none s t first same none stays = same ∙ ap (λ o. record s { out = o }) none ∙ stays

-- ONE THING THAT IT DID: a message
pub deed_sent : {T F : Type 0} (r : Result T F) (event : ReaderEvent) (m : Message) (reader conn : ℕ) (posts posts' : List Post) (old new : List Event) → event ≡ Send m
    → OnOk r (conn < length posts → IsSent (Reader reader) (envelope_of m) conn posts posts' old new) → OnOk r (TellsOne (done_of event) reader conn posts posts' old new)
deed_sent (Ok x) event m reader conn posts posts' old new is h = λ joined.
    let s = h joined in
    let all : IsToldAll reader (sends (envelope_of m) ∷ []) conn posts posts' old new = record {
      posts_are = s.posts_are ∙ sym (changed_none conn (changed_at conn (sent_on (envelope_of m)) posts)) ∙ changed_twice (sent_on (envelope_of m)) (all_sent []) (all_sent (envelope_of m ∷ [])) (λ p. refl) conn posts;
      wrote = s.wrote;
      written_ = (s.written_, tt);
    } in
    subst (λ d. IsToldAll reader (d ∷ []) conn posts posts' old new) (sym (ap done_of is)) all
deed_sent (Err f) event m reader conn posts posts' old new is h = tt

-- a line, or an end: of an application that has or had the name, or of none
module _ (reader conn : ℕ) (posts : List Post) (old : List Event) where
  told_nothing : (d : Done) → messages (d ∷ []) ≡ [] → told_by reader posts d ≡ [] → IsToldAll reader (d ∷ []) conn posts posts old old
  told_nothing d none silent_ = record {
    posts_are = sym (ap (λ es. changed_at conn (all_sent es) posts) none ∙ changed_none conn posts);
    wrote = sym (ap (λ l. entries_of old ++ (l ++ [])) silent_ ∙ append-nil (entries_of old));
    written_ = subst (AllByRecursion (λ e. IsMessage e (written e))) (sym none) tt;
  }

  told_one : (d : Done) (event : Event) (new : List Event) → messages (d ∷ []) ≡ [] → told_by reader posts d ≡ entry_of event ∷ [] → new ≡ old ++ event ∷ [] → IsToldAll reader (d ∷ []) conn posts posts old new
  told_one d event new none told_ is = record {
    posts_are = sym (ap (λ es. changed_at conn (all_sent es) posts) none ∙ changed_none conn posts);
    wrote = ap entries_of is ∙ map-append entry_of old (event ∷ []) ∙ sym (ap (λ l. entries_of old ++ (l ++ [])) told_);
    written_ = subst (AllByRecursion (λ e. IsMessage e (written e))) (sym none) tt;
  }

  pub line_of_none : (event : ReaderEvent) (name text : List ℕ) → event ≡ Says name text → None ≡ app_named name posts → TellsOne (done_of event) reader conn posts posts old old
  line_of_none event name text is none = λ joined.
      subst (λ d. IsToldAll reader (d ∷ []) conn posts posts old old) (sym (ap done_of is)) (told_nothing (speaks name text) refl (ap (λ o. of_app o (λ app. spoke reader app text)) (sym none)))

  pub end_of_none : (event : ReaderEvent) (name : List ℕ) → event ≡ Ends name → None ≡ app_named name posts → TellsOne (done_of event) reader conn posts posts old old
  end_of_none event name is none = λ joined.
      subst (λ d. IsToldAll reader (d ∷ []) conn posts posts old old) (sym (ap done_of is)) (told_nothing (tells_end name) refl (ap (λ o. of_app o (λ app. gone reader app)) (sym none)))

  pub line_of : {T F : Type 0} (r : Result T F) (event : ReaderEvent) (name text : List ℕ) (app : ℕ) (new : List Event) → event ≡ Says name text → Some app ≡ app_named name posts
      → OnOk r (new ≡ old ++ Say reader app text ∷ []) → OnOk r (TellsOne (done_of event) reader conn posts posts old new)
  line_of (Ok x) event name text app new is some told_ = λ joined.
      subst (λ d. IsToldAll reader (d ∷ []) conn posts posts old new) (sym (ap done_of is))
      (told_one (speaks name text) (Say reader app text) new refl (ap (λ o. of_app o (λ a. spoke reader a text)) (sym some)) told_)
  line_of (Err f) event name text app new is some told_ = tt

  pub end_of : {T F : Type 0} (r : Result T F) (event : ReaderEvent) (name : List ℕ) (app : ℕ) (new : List Event) → event ≡ Ends name → Some app ≡ app_named name posts
      → OnOk r (new ≡ old ++ Gone reader app ∷ []) → OnOk r (TellsOne (done_of event) reader conn posts posts old new)
  end_of (Ok x) event name app new is some told_ = λ joined.
      subst (λ d. IsToldAll reader (d ∷ []) conn posts posts old new) (sym (ap done_of is))
      (told_one (tells_end name) (Gone reader app) new refl (ap (λ o. of_app o (λ a. gone reader a)) (sym some)) told_)
  end_of (Err f) event name app new is some told_ = tt
