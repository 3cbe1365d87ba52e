-- The serial that a reader lends of an application is that of the last message taken.
use Rattle.std.proofs.Common.{◌≡◌, inl, inr, ℕ, List, [], ◌++◌, Option, None, Some, refl, sym, ap, ◌∙◌, subst}
use Rattle.std.specs.Prelude.{option_map}
use Rattle.std.proofs.lemmas.List.{append-nil}
use Rattle.atspi_tree_model.specs.declared.view.Row.{Row}
use Rattle.atspi_tree_model.specs.Forest.{Forest}
use Rattle.atspi_protocol.specs.following.ReaderState.{Followed}
use Rattle.atspi_protocol.specs.following.Takes.{found_in, last_of}
use Rattle.atspi_trace.specs.Entry.{Entry}
use Rattle.atspi_trace.specs.Work.{resting}
use Rattle.atspi_trace_laws.specs.laws.Words.{Kept, held}
use Rattle.atspi_trace_laws.specs.order.Scripts.{CanAllStand}
use Rattle.atspi_trace_laws.proofs.OfOrder.Parties.{no_none, same_some}
use Rattle.atspi_trace_caches.specs.caches.Caches.{followed}
use Rattle.atspi_trace_caches.specs.caches.Laws.{CacheIs}
use Rattle.atspi_trace_caches.proofs.OfCaches.LawCaches.{caches_follow}
use Rattle.atspi_trace_caches.proofs.OfServed.LawServed.{steps_asked}
use Rattle.atspi_trace_played.proofs.AllPieces.{pieces}
use Rattle.atspi_trace_played.proofs.Facts.{IsSeen, SeesWell}
use Rattle.atspi_trace_played.proofs.Playing.{played_stage}
use Rattle.atspi_trace_played.proofs.PlayingStage.{ground}
use Rattle.atspi_trace_lent.specs.Lent.{ReadersLendTheLast}
use Rattle.atspi_trace_lent.proofs.Late.{Late}
use Rattle.atspi_trace_lent.proofs.Playing.{played_lasts}
use Rattle.atspi_trace_lent.proofs.Readers.{sees_of}

-- one that has no view lends none, one that has one its last
none_lent : (g : Followed) → g.view ≡ None → last_of (Some g) ≡ None
none_lent g h = rw h refl

some_lent : (g : Followed) (v : Forest Row) → g.view ≡ Some v → last_of (Some g) ≡ Some g.last
some_lent g v h = rw h refl

lends : (es : List Entry) (app : ℕ) (f : Followed) (k : Option Kept) (o : Option Followed) → CacheIs es app k f → IsSeen o f → ((g : Followed) → o ≡ Some g → Late f.last g) → last_of o ≡ option_map (λ (x : Kept). x.last) k
lends es app f None None c seen late = refl
lends es app f (Some k) None c seen late = absurd (no_none _ (sym seen ∙ c.shows))
lends es app f None (Some g) c seen late = none_lent g (seen.0 ∙ c)
lends es app f (Some k) (Some g) c seen late = some_lent g _ (seen.0 ∙ c.shows) ∙ ap Some (by (late g refl) ∙ c.last)
  where
    by : Late f.last g → g.last ≡ f.last
    by (inl none) = absurd (no_none _ (sym none ∙ seen.0 ∙ c.shows))
    by (inr last) = last

pub readers_lend_the_last : ReadersLendTheLast
readers_lend_the_last lines es p can played reader s at app name named =
    let script = lines ++ [] in
    let fits : CanAllStand script = subst CanAllStand (sym (append-nil lines)) can in
    let st = played_stage pieces lines es p played [] fits in
    let g = ground script es p resting [] st in
    let sees : SeesWell es reader s = sees_of script es p resting [] st reader s at in
    let cache : CacheIs es app (held es reader app) (followed name es reader app) =
    caches_follow script es g.can g.goes g.nothing_owed name reader app (λ own its. same_some own name (sym its ∙ named)) (steps_asked script es g.can g.goes name reader app) es [] (sym (append-nil es)) in
    lends es app (followed name es reader app) (held es reader app) (found_in name s.apps) cache (sees.seen name app named) (λ o is. played_lasts lines es p played [] fits reader s at name app named o is)
