-- What is done by one of many is done among all.
use Rattle.std.proofs.Common.{◌≡◌, ℕ, zero, suc, ◌<◌, ◌≤◌, List, [], ◌∷◌, ◌++◌, length, map, set, get_or, Option, Some, refl, sym, ap, ◌∙◌, subst, arith}
use Rattle.std.specs.Prelude.{Result, Ok, Err, OnOk, slice_get}
use Rattle.std.specs.List.{AllByRecursion}
use Rattle.std.proofs.lemmas.List.{map-append}
use Rattle.std.proofs.lemmas.Option.{get_or_from_slice_get}
use Rattle.atspi_tree_model.specs.declared.edit.Edit.{Edit}
use Rattle.atspi_script_lines.specs.declared.deed.Deed.{Deed}
use Rattle.atspi_script_lines.specs.declared.line.Party.{Party}
use Rattle.atspi_message.specs.Envelope.{envelope_of}
use Rattle.atspi_message.specs.Bytes.{IsMessage, written}
use Rattle.atspi_message.specs.declared.message.Message.{Message}
use Rattle.atspi_protocol.specs.exporting.Exporter.{Exporter}
use Rattle.atspi_protocol.specs.exporting.Taking.{app_edits}
use Rattle.atspi_protocol.specs.following.ReaderState.{ReaderState}
use Rattle.atspi_protocol.specs.following.Takes.{reader_calls}
use Rattle.atspi_trace_events.specs.declared.event.Event.{Event}
use Rattle.atspi_trace_events.specs.declared.event.Event.TheVariants.{Sent}
use Rattle.atspi_world_links.specs.declared.post.Post.{Post}
use Rattle.atspi_trace.specs.Entry.{entry_of, entries_of}
use Rattle.atspi_trace.specs.Causes.{did}
use Rattle.atspi_world_links.specs.Changes.{changed_at}
use Rattle.atspi_world_links.proofs.Changes.{changed_set}
use Rattle.atspi_trace.specs.play.Playing.{silent}
use Rattle.atspi_world_parties.specs.Doing.{sent_on, IsSent, all_said, quiet, CanBeWritten, IsTold, TellsAt, EditsAt, TellsAll, TellsReaderAt, CallsAt}

module _ {A X : Type 0} (g : A → X) where
  pub map_set : (xs : List A) (i : ℕ) (y : A) → map g (set xs i y) ≡ set (map g xs) i (g y)
  map_set [] zero y = refl
  map_set [] (suc i) y = refl
  map_set (x ∷ xs) zero y = refl
  map_set (x ∷ xs) (suc i) y = ap (λ l. g x ∷ l) (map_set xs i y)

  -- the one that is seen there
  pub seen_there : (xs : List A) (i : ℕ) (d : A) (y : X) → slice_get (map g xs) i ≡ Some y → g (get_or xs i d) ≡ y
  seen_there [] zero d y h = absurd cc
  seen_there [] (suc i) d y h = absurd cc
  seen_there (x ∷ xs) zero d y h = cc
  seen_there (x ∷ xs) (suc i) d y h = seen_there xs i d y h

  pub none_there : (xs : List A) (i : ℕ) (y : X) → length xs ≤ i → slice_get (map g xs) i ≡ Some y → ⊥
  none_there [] zero y h e = cc
  none_there [] (suc i) y h e = cc
  none_there (x ∷ xs) zero y h e = omega (arith, h)
  none_there (x ∷ xs) (suc i) y h e = none_there xs i y (omega (arith, h)) e

  pub same_there : (xs : List A) (i : ℕ) (x y : A) → x ≡ get_or xs i x → g y ≡ g x → map g (set xs i y) ≡ map g xs
  same_there [] zero x y h e = refl
  same_there [] (suc i) x y h e = refl
  same_there (z ∷ zs) zero x y h e = ap (λ v. v ∷ map g zs) (e ∙ ap g h)
  same_there (z ∷ zs) (suc i) x y h e = ap (λ l. g z ∷ l) (same_there zs i x y h e)

  -- one that takes something, among all
  pub took_none : (f : X → X) (xs : List A) (i : ℕ) → length xs ≤ i → map g xs ≡ changed_at i f (map g xs)
  took_none f [] zero h = refl
  took_none f [] (suc i) h = refl
  took_none f (x ∷ xs) zero h = absurd (omega (arith, h))
  took_none f (x ∷ xs) (suc i) h = ap (λ l. g x ∷ l) (took_none f xs i (omega (arith, h)))

  took_one : (f : X → X) (xs : List A) (i : ℕ) (x y : A) → x ≡ get_or xs i x → g y ≡ f (g x) → map g (set xs i y) ≡ changed_at i f (map g xs)
  took_one f [] zero x y h e = refl
  took_one f [] (suc i) x y h e = refl
  took_one f (z ∷ zs) zero x y h e = ap (λ v. v ∷ map g zs) (e ∙ ap (λ q. f (g q)) h)
  took_one f (z ∷ zs) (suc i) x y h e = ap (λ l. g z ∷ l) (took_one f zs i x y h e)

  pub took_at : {T F : Type 0} (r : Result T F) (f : X → X) (xs : List A) (i : ℕ) (x y : A) → x ≡ get_or xs i x → OnOk r (g y ≡ f (g x)) → OnOk r (map g (set xs i y) ≡ changed_at i f (map g xs))
  took_at (Ok t) f xs i x y h e = took_one f xs i x y h e
  took_at (Err t) f xs i x y h e = tt

  pub took_there : (f : X → X) (xs : List A) (i : ℕ) (d : A) → i < length xs → slice_get (changed_at i f (map g xs)) i ≡ Some (f (g (get_or xs i d)))
  took_there f [] zero d few = absurd (omega (arith, few))
  took_there f [] (suc i) d few = absurd (omega (arith, few))
  took_there f (z ∷ zs) zero d few = refl
  took_there f (z ∷ zs) (suc i) d few = took_there f zs i d (omega (arith, few))

none_post : (posts : List Post) (i : ℕ) (p : Post) → length posts ≤ i → slice_get posts i ≡ Some p → ⊥
none_post [] zero p h e = cc
none_post [] (suc i) p h e = cc
none_post (x ∷ xs) zero p h e = omega (arith, h)
none_post (x ∷ xs) (suc i) p h e = none_post xs i p (omega (arith, h)) e

-- a message of a connection
pub sent_at : {T F : Type 0} (r : Result T F) (who : Party) (m : Message) (conn : ℕ) (posts : List Post) (p q : Post) (old new : List Event) → p ≡ get_or posts conn p
    → OnOk r (q ≡ sent_on (envelope_of m) p) → OnOk r (IsMessage (envelope_of m) (written (envelope_of m))) → OnOk r (new ≡ old ++ Sent who m ∷ [])
    → OnOk r (conn < length posts → IsSent who (envelope_of m) conn posts (set posts conn q) old new)
sent_at (Ok x) who m conn posts p q old new there put can told = λ joined. record {
  posts_are = ap (set posts conn) (put ∙ ap (sent_on (envelope_of m)) there) ∙ changed_set (sent_on (envelope_of m)) posts conn p joined;
  wrote = ap entries_of told ∙ map-append entry_of old (Sent who m ∷ []);
  written_ = can;
}
sent_at (Err e) who m conn posts p q old new there put can told = tt

module _ {A : Type 0} (exporter : A → Exporter) where
  -- what an application did
  pub tells_at : {T F : Type 0} (r : Result T F) (apps : List A) (a a' : A) (number conn : ℕ) (posts : List Post) (p q : Post) (old new : List Event) → a ≡ get_or apps number a → p ≡ get_or posts conn p
      → OnOk r (IsTold (exporter a) (exporter a') number p q old new) → OnOk r (TellsAt (map exporter apps) (map exporter (set apps number a')) number conn posts (set posts conn q) old new)
  tells_at (Ok x) apps a a' number conn posts p q old new app_is post_is told = λ s y at there.
      let s_is : exporter a ≡ s = ap exporter app_is ∙ seen_there exporter apps number a s at in
      let p_is : p ≡ y = post_is ∙ get_or_from_slice_get posts conn y p there in
      record {
        apps = map_set exporter apps number a' ∙ ap (set (map exporter apps) number) (told.app ∙ ap quiet s_is);
        posts_are = ap (set posts conn) (told.post ∙ ap (λ (x : Exporter). all_said x.out p) s_is ∙ ap (all_said s.out) p_is);
        wrote = told.wrote ∙ ap (λ (x : Exporter). entries_of old ++ map (did number) x.out) s_is;
        written_ = subst (λ (x : Exporter). AllByRecursion CanBeWritten x.out) s_is told.written_;
      }
  tells_at (Err e) apps a a' number conn posts p q old new app_is post_is told = tt

  pub tells_no_app : (apps : List A) (number conn : ℕ) (posts : List Post) (trace : List Event) → length apps ≤ number → TellsAt (map exporter apps) (map exporter apps) number conn posts posts trace trace
  tells_no_app apps number conn posts trace h = λ s p at there. absurd (none_there exporter apps number s h at)

  pub tells_no_post : (apps : List A) (number conn : ℕ) (posts : List Post) (trace : List Event) → length posts ≤ conn → TellsAt (map exporter apps) (map exporter apps) number conn posts posts trace trace
  tells_no_post apps number conn posts trace h = λ s p at there. absurd (none_post posts conn p h there)

  -- an edit that it made
  pub edits_at : {T F : Type 0} (r : Result T F) (apps : List A) (a a' : A) (number : ℕ) (edit : Edit) → a ≡ get_or apps number a → OnOk r (app_edits (exporter a) edit ≡ Ok (exporter a'))
      → OnOk r (EditsAt (map exporter apps) (map exporter (set apps number a')) number edit)
  edits_at (Ok x) apps a a' number edit app_is done = λ s at.
      let s_is : exporter a ≡ s = ap exporter app_is ∙ seen_there exporter apps number a s at in
      record { state = exporter a'; edited = ap (λ x. app_edits x edit) (sym s_is) ∙ done; apps = map_set exporter apps number a' }
  edits_at (Err e) apps a a' number edit app_is done = tt

  pub edits_no_app : (apps : List A) (number : ℕ) (edit : Edit) → length apps ≤ number → EditsAt (map exporter apps) (map exporter apps) number edit
  edits_no_app apps number edit h = λ s at. absurd (none_there exporter apps number s h at)

module _ {R : Type 0} (follower : R → ReaderState) where
  -- what a reader did
  pub sends_at : {T F : Type 0} (r : Result T F) (readers : List R) (a a' : R) (number conn : ℕ) (posts posts' : List Post) (old new : List Event) → a ≡ get_or readers number a
      → OnOk r (follower a' ≡ silent (follower a)) → OnOk r (TellsAll (follower a) number conn posts posts' old new)
      → OnOk r (TellsReaderAt (map follower readers) (map follower (set readers number a')) number conn posts posts' old new)
  sends_at (Ok x) readers a a' number conn posts posts' old new reader_is quiet_ all = λ s at.
      let s_is : follower a ≡ s = ap follower reader_is ∙ seen_there follower readers number a s at in
      record {
        readers = map_set follower readers number a' ∙ ap (set (map follower readers) number) (quiet_ ∙ ap silent s_is);
        tells = subst (λ x. TellsAll x number conn posts posts' old new) s_is all;
      }
  sends_at (Err e) readers a a' number conn posts posts' old new reader_is quiet_ all = tt

  pub sends_no_reader : (readers : List R) (number conn : ℕ) (posts : List Post) (trace : List Event) → length readers ≤ number → TellsReaderAt (map follower readers) (map follower readers) number conn posts posts trace trace
  sends_no_reader readers number conn posts trace h = λ s at. absurd (none_there follower readers number s h at)

  -- a call that it made
  pub calls_at : {T F : Type 0} (r : Result T F) (readers : List R) (a a' : R) (number node : ℕ) (name : List ℕ) (callee : Option (List ℕ)) (deed : Deed) → a ≡ get_or readers number a → callee ≡ Some name
      → OnOk r (follower a' ≡ reader_calls (follower a) name node deed) → OnOk r (CallsAt (map follower readers) (map follower (set readers number a')) number callee node deed)
  calls_at (Ok x) readers a a' number node name callee deed reader_is named done = λ s at.
      let s_is : follower a ≡ s = ap follower reader_is ∙ seen_there follower readers number a s at in
      record { name = name; named = named; readers = map_set follower readers number a' ∙ ap (set (map follower readers) number) (done ∙ ap (λ x. reader_calls x name node deed) s_is) }
  calls_at (Err e) readers a a' number node name callee deed reader_is named done = tt

  pub calls_no_reader : (readers : List R) (number node : ℕ) (callee : Option (List ℕ)) (deed : Deed) → length readers ≤ number → CallsAt (map follower readers) (map follower readers) number callee node deed
  calls_no_reader readers number node callee deed h = λ s at. absurd (none_there follower readers number s h at)
