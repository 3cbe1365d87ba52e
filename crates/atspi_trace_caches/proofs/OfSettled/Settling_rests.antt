-- At quiet: behind each front of a lawful trace where nothing is owed and nothing waits each reader that is here holds each application that is here as it is now, where readers were told of each child.
use Rattle.std.proofs.Common.{◌≡◌, ℕ, Bool, true, false, List, [], ◌∷◌, ◌++◌, Option, None, Some, refl, sym, ap, ◌∙◌, subst}
use Rattle.std.specs.Prelude.{◌==◌, if◌then◌else◌}
use Rattle.std.specs.List.{AllByRecursion}
use Rattle.std.proofs.lemmas.List.{append-nil}
use Rattle.atspi_types.specs.Data.{Data}
use Rattle.atspi_script_lines.specs.declared.limits.TheConstants.{QUOTA_MOST}
use Rattle.atspi_script_lines.specs.declared.line.Line.{Line}
use Rattle.atspi_script_lines.specs.declared.line.Party.TheVariants.{App, Reader}
use Rattle.atspi_message.specs.Envelope.{Envelope}
use Rattle.atspi_protocol.specs.declared.following.question.Question.{Question}
use Rattle.atspi_protocol.specs.declared.following.question.Question.TheVariants.{Hello, AddMatch, RegisterEvent, GetChildren, GetItems, GetPart}
use Rattle.atspi_protocol.specs.exporting.Exporter.{StartCall, hello, add_match, get_registered_events, embed, Phase, new, Exporter}
use Rattle.atspi_protocol.specs.exporting.Starting.{ends_start, unique_name_in, greeted, listened, goes_on, awaited}
use Rattle.atspi_protocol.specs.exporting.Hearing.{pairs_in}
use Rattle.atspi_protocol.specs.exporting.Taking.{app_takes}
use Rattle.atspi_trace.specs.Entry.{Entry, sent}
use Rattle.atspi_trace.specs.World.{Asked, World}
use Rattle.atspi_trace.specs.Due.{begins, after_all, is_lost, IsSettled, Goes}
use Rattle.atspi_trace_laws.specs.laws.Words.{before_sent}
use Rattle.atspi_trace_laws.specs.laws.NineLaws.{Everywhere}
use Rattle.atspi_trace_laws.specs.order.Scripts.{CanAllStand}
use Rattle.atspi_trace_caches.specs.settled.Laws.{NothingWaits, AsksOfNode, IsOfNode, AllAsk}
use Rattle.atspi_trace_laws.proofs.OfOrder.Shape.{Shape}
use Rattle.atspi_trace_laws.proofs.OfOrder.Along.{Keeps}
use Rattle.atspi_trace_laws.proofs.OfOrder.Growing.{Grows, Shaped, Nothing, And, grown, shaped_keeps}
use Rattle.atspi_trace_laws.proofs.OfOrder.Each.{Each}
use Rattle.atspi_trace_laws.proofs.OfOwn.Writing.{Lives}
use Rattle.atspi_trace_laws.proofs.OfTaken.Found.{sent_split}
use Rattle.atspi_trace_laws.proofs.OfReaders.Fates.{FateIs}
use Rattle.atspi_trace_laws.proofs.OfNames.Places.{name_told, told_is}
use Rattle.atspi_trace_laws.proofs.OfSigned.Mail.{told_more}
use Rattle.atspi_trace_caches.proofs.OfServed.HearingTuned.{NotSaid}
use Rattle.atspi_trace_caches.proofs.OfWays.LawWays.{IsKept, kept_behind}
use Rattle.atspi_trace_caches.proofs.OfSettled.Facts.{IsForOne, AllEmbed, AllTold}
use Rattle.atspi_trace_caches.proofs.OfSettled.Exporting.{acting, AllApps, apps_kept, first_apps, asked_apps, moved_apps}
use Rattle.atspi_trace_caches.proofs.OfSettled.Embedding.{other_phase}
use Rattle.atspi_trace_caches.proofs.OfSettled.EmbeddingAll.{Under_embed, AllBegin, embed_keep}
use Rattle.atspi_trace_caches.proofs.OfSettled.ReplyingEnds.{edit_phase}
use Rattle.atspi_trace_caches.proofs.OfSettled.ReplyingLaw.{Under_waiting, Waiting, waits_keep, replied}
use Rattle.atspi_trace_caches.proofs.OfSettled.Settling_down.{AllForOne, AllBegun, settled}
use Rattle.atspi_trace_caches.proofs.OfSettled.Settling_law as law
use Rattle.atspi_trace_caches.proofs.OfSettled.Settling_ground.{Ground, Grounds, grounds, app_with_name, AsksAnApp, asks_apps, named}
use Rattle.atspi_trace_caches.proofs.OfSettled.Settling_replies.{TakesReplies, Replied, replied_keeps}
use Rattle.atspi_trace_caches.proofs.OfSettled.Settling_held.{all_held}
use Rattle.atspi_trace_caches.proofs.OfSettled.Settling_told.{all_parts}
use Rattle.atspi_trace_caches.proofs.OfSettled.Settling_asked.{AsksApps, AllAskApps, ask_keep}
use Rattle.atspi_trace_caches.proofs.OfSettled.Settling_refused.{bus_knows, none_refused}
use Rattle.atspi_trace_caches.proofs.OfSettled.Telling_of_all.{Under_told_of, told_keep, all_told}

-- AN APPLICATION HAS BEGUN its start
abbrev NotNew : Phase → Type 0
NotNew new = ⊥
NotNew phase = Unit {0}

abbrev HasBegun : List Entry → ℕ → Exporter → Type 0
HasBegun es a s = NotNew s.phase

begun_more : (es ys : List Entry) (a : ℕ) (s : Exporter) → AllByRecursion (NotSaid (App a)) ys → HasBegun es a s → HasBegun (es ++ ys) a s
begun_more es ys a s n i = i

goes_begun : (s : Exporter) (call : StartCall) (body : List Data) → NotNew (goes_on s call body).phase
goes_begun s hello body = by (unique_name_in body)
  where
    by : (o : Option (List ℕ)) → NotNew (greeted s o).phase
    by None = tt
    by (Some name) = tt
goes_begun s add_match body = tt
goes_begun s get_registered_events body = by (pairs_in body)
  where
    by : (o : Option (List (List ℕ × List ℕ))) → NotNew (listened s o).phase
    by None = tt
    by (Some pairs) = tt
goes_begun s embed body = tt

takes_begun : (s : Exporter) (e : Envelope) → NotNew s.phase → NotNew (app_takes s e).phase
takes_begun s e i = by (awaited s.phase e) refl
  where
    two : (call : StartCall) (b : Bool) → NotNew (if b then goes_on s call e.body else ends_start s).phase
    two call true = goes_begun s call e.body
    two call false = tt

    by : (o : Option StartCall) → awaited s.phase e ≡ o → NotNew (app_takes s e).phase
    by None h = rw h (subst NotNew (sym (other_phase s e s.name)) i)
    by (Some call) h = rw h (two call (e.kind == 2))

abbrev AllHaveBegun : List Entry → World → Type 0
AllHaveBegun es w = AllApps HasBegun begun_more es w

begun_grow : Grows Nothing AllHaveBegun
begun_grow = record {
  begins = first_apps HasBegun begun_more [] QUOTA_MOST;
  caused = λ es w d s u i e after b.
      apps_kept HasBegun begun_more es w d s (acting w d e) (λ name is. tt) (λ x wrote live j. subst NotNew (sym (edit_phase x.before x.after x.edit x.done)) j) (λ x live j. takes_begun x.before x.letter.said.message j) i;
  moved = λ es w v s u i m. subst (λ l. AllHaveBegun l v) (append-nil es) (moved_apps HasBegun begun_more es w v m i);
  asked = λ es w conn r m question s u i a. asked_apps HasBegun begun_more es w conn r m question i;
}

begun_keep : Keeps (Shaped (And Nothing AllHaveBegun))
begun_keep = grown Nothing AllHaveBegun shaped_keeps begun_grow

all_begun : (es : List Entry) (w : World) → AllHaveBegun es w → Lives es → AllBegun w
all_begun es w i live k a e s there whose role on at = subst NotNew at (i live k a e s there whose role on)

-- FOR WHOM each own call is
module _ (es : List Entry) (w : World) (sh : Shape w) (g : Grounds es w) (live : Lives es) (nodes : Everywhere AsksOfNode es) where
  all_for_one : AllForOne w
  all_for_one k r e h there whose role on = both h.asked (g.fated live k r e h there whose role) (asks_apps es w sh g live k r e h there whose role on)
    where
      one : (x : Asked) → FateIs es r x → AsksAnApp es w sh g x → IsForOne w.ends x.question
      one x f asks = by x.question refl
        where
          by : (q : Question) → x.question ≡ q → IsForOne w.ends q
          by (GetItems name) is = let a = asks name is in app_with_name es w sh g a.0 name a.1
          by (GetPart name path part) is =
              let s = sent_split es (Reader r) x.serial f.first f.was in
              let n : IsOfNode (before_sent (Reader r) x.serial es) name path = nodes (before_sent (Reader r) x.serial es) (sent (Reader r) f.first) s.0 s.1 name path part (f.read ∙ ap Some is) in
              let early : name_told (before_sent (Reader r) x.serial es) (App n.app) ≡ Some name = sym (told_is (before_sent (Reader r) x.serial es) (App n.app)) ∙ n.its_name in
              app_with_name es w sh g n.app name (subst (λ l. name_told l (App n.app) ≡ Some name) (sym s.1) (told_more (before_sent (Reader r) x.serial es) (sent (Reader r) f.first ∷ s.0) (App n.app) name early))
          by Hello is = tt
          by (AddMatch rule) is = tt
          by (RegisterEvent pattern) is = tt
          by GetChildren is = tt

      both : (xs : List Asked) → AllByRecursion (FateIs es r) xs → AllByRecursion (AsksAnApp es w sh g) xs → AllByRecursion (λ (x : Asked). IsForOne w.ends x.question) xs
      both [] a b = tt
      both (x ∷ xs) a b = (one x a.0 b.0, both xs a.1 b.1)

-- AT QUIET, of the world behind a trace, also of one that bytes moved further which complete no message
module _ (lines : List Line) (trace : List Entry) (can : CanAllStand lines) (g : Goes (begins lines) trace) (none : (after_all (begins lines) trace).owing ≡ []) (w : World) (free : Option ℕ) (state : IsKept trace w free) where
  sh : Shape w
  sh = law.shape lines trace can g none w free state

  below : Ground trace w
  below = (state (Shaped (And Ground Replied)) replied_keeps).1.0

  grounds_here : Grounds trace w
  grounds_here = grounds trace w below

  replies : Each TakesReplies [] trace
  replies = (state (Shaped (And Ground Replied)) replied_keeps).1.1

  apps : Each AsksApps [] trace
  apps = (state (Shaped (And Ground AllAskApps)) ask_keep).1.1

  pub rests_where : AllTold trace w → Everywhere AsksOfNode trace → NothingWaits w → is_lost w ≡ false → AllAsk trace w → IsSettled w
  rests_where told nodes waits found asks =
      let live : Lives trace = law.registry_is_live lines trace can g none w free state found in
      settled trace w sh live nodes (replied trace w (state (Shaped (And Under_waiting Waiting)) waits_keep).1 waits) (state (Shaped (And (And Under_embed AllBegin) AllEmbed)) embed_keep).1.1 told
      (none_refused trace w sh grounds_here replies apps) (all_held trace w sh grounds_here replies) (all_parts trace w sh grounds_here replies (bus_knows trace w sh grounds_here replies))
      (all_for_one trace w sh grounds_here live nodes) (all_begun trace w (state (Shaped (And Nothing AllHaveBegun)) begun_keep).1.1 live) (named trace w sh grounds_here) (law.as_now lines trace can g none w free state live waits) asks

  -- and each reader was told of each child
  pub rests_at : Everywhere AsksOfNode trace → NothingWaits w → is_lost w ≡ false → AllAsk trace w → IsSettled w
  rests_at nodes waits found asks =
      rests_where
      (all_told trace w sh (state (Shaped Under_told_of) told_keep).1 (replied trace w (state (Shaped (And Under_waiting Waiting)) waits_keep).1 waits)
      (all_begun trace w (state (Shaped (And Nothing AllHaveBegun)) begun_keep).1.1) waits) nodes waits found asks

-- behind each front of a lawful trace
pub rests : (lines : List Line) (trace : List Entry) → CanAllStand lines → Goes (begins lines) trace → (none : (after_all (begins lines) trace).owing ≡ []) → Everywhere AsksOfNode trace → NothingWaits (after_all (begins lines) trace).world
    → is_lost (after_all (begins lines) trace).world ≡ false → AllAsk trace (after_all (begins lines) trace).world → IsSettled (after_all (begins lines) trace).world
rests lines trace can g none = rests_at lines trace can g none (after_all (begins lines) trace).world (after_all (begins lines) trace).free (kept_behind lines trace can g none)
