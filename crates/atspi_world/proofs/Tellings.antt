-- What an end does with what lies at it.
use Rattle.std.proofs.Common.{◌≡◌, ℕ, Bool, List, [], ◌∷◌, ◌++◌, set, get_or, sym, ap, ◌∙◌, subst, append-nil}
use Rattle.std.proofs.lemmas.Option.{get_or_from_slice_get}
use Rattle.atspi_script_lines.specs.declared.line.Party.{Party}
use Rattle.atspi_message.specs.Bytes.{written}
use Rattle.atspi_trace_events.specs.declared.event.Event.{Event}
use Rattle.atspi_world_links.specs.declared.post.Post.{Post}
use Rattle.atspi_stream.specs.Stream.{AwaitsMore}
use Rattle.atspi_world_links.proofs.Changes.{set_same}
use Rattle.atspi_world_parties.specs.Taken.{got_by, Ends, ends_after, TakesFront, TakesNothing, Tells}
use Rattle.atspi_world.specs.inner.Taken.{ends_in, Gets}
use Rattle.atspi_world.specs.Worlds.{Staged}

-- WHAT AN END DOES WITH WHAT LIES AT IT
pub got_so : (conn : ℕ) (old new : Staged) (took : Bool) (p : Post) (link link' : List ℕ) (mid : Ends) (trace : List Event) → TakesFront link link' old.posts p.who (ends_in old) mid old.trace trace took
    → TakesNothing link link' (ends_in old) mid old.trace trace took → Tells p.who conn mid (ends_in new) old.posts new.posts trace new.trace → p ≡ get_or old.posts conn p → link ≡ get_or old.given conn link
    → new.given ≡ set old.given conn link' → new.bus ≡ old.bus → new.kits ≡ old.kits → new.spares ≡ old.spares → Gets conn old new took
got_so conn old new took p link link' mid trace takes nothing tells post_is link_is given bus kits spares = λ q bytes there lies.
    let who : p.who ≡ q.who = ap (λ (x : Post). x.who) (post_is ∙ get_or_from_slice_get old.posts conn q p there) in
    let all : link ≡ bytes = link_is ∙ get_or_from_slice_get old.given conn bytes link lies in
    let tells_ : Tells q.who conn mid (ends_in new) old.posts new.posts trace new.trace = subst (λ w. Tells w conn mid (ends_in new) old.posts new.posts trace new.trace) who tells in
    record {
      whole = λ m spelled is.
          let t = takes m [] spelled (all ∙ is ∙ sym (append-nil (written m))) in
          record {
            took_it = t.took_it;
            left = given ∙ ap (set old.given conn) t.left;
            mid = trace;
            told = t.told ∙ ap (λ w. old.trace ++ got_by w old.posts m ∷ []) who;
            tells = subst (λ x. Tells q.who conn x (ends_in new) old.posts new.posts trace new.trace) (t.taken ∙ ap (λ w. ends_after w m (ends_in old)) who) tells_;
          };
      part = λ more.
          let n = nothing (subst AwaitsMore (sym all) more) in
          record {
            took_none = n.0;
            left = given ∙ ap (set old.given conn) (n.1.0 ∙ all) ∙ set_same old.given conn bytes lies;
            tells = subst (λ x. Tells q.who conn x (ends_in new) old.posts new.posts old.trace new.trace) n.1.1.0
                (subst (λ t. Tells q.who conn mid (ends_in new) old.posts new.posts t new.trace) n.1.1.1 tells_);
          };
      bus = bus;
      kits = kits;
      spares = spares;
    }

pub takes_as : (link link' : List ℕ) (seen posts : List Post) (who : Party) (ends ends' : Ends) (old new : List Event) (took : Bool) → seen ≡ posts → TakesFront link link' seen who ends ends' old new took
    → TakesFront link link' posts who ends ends' old new took
takes_as link link' seen posts who ends ends' old new took is t = subst (λ s. TakesFront link link' s who ends ends' old new took) is t

pub tells_as_posts : (who : Party) (conn : ℕ) (ends ends' : Ends) (p p' q q' : List Post) (old new : List Event) → p ≡ q → p' ≡ q' → Tells who conn ends ends' p p' old new → Tells who conn ends ends' q q' old new
tells_as_posts who conn ends ends' p p' q q' old new ep eq t = subst (λ x. Tells who conn ends ends' x q' old new) ep (subst (λ x. Tells who conn ends ends' p x old new) eq t)
