-- Replies, as a reader takes them: what was queued, what changed, and the serial that was noted come to the step.
use Rattle.std.proofs.Common.{◌≡◌, ℕ, Bool, true, false, not, List, [], ◌∷◌, filter, flat_map, length, take, Option, Some, None, refl, sym, ap, ◌∙◌}
use Rattle.std.specs.Prelude.{◌==◌, ◌&&◌, bytes_eq, if◌then◌else◌, Ok, Err}
use Rattle.std.specs.List.{list_any, fold}
use Rattle.std.specs.Borrow.{Bor}
use Rattle.atspi_message.specs.Envelope.{Envelope}
use Rattle.atspi_protocol.specs.declared.ends.fault.EndFault.{EndFault}
use Rattle.atspi_protocol.specs.declared.ends.fault.EndFault.TheVariants.{Spent}
use Rattle.atspi_tree_model.specs.declared.view.Row.{Row}
use Rattle.atspi_tree_model.specs.Forest.{Forest}
use Rattle.atspi_tree_model.specs.declared.news.Item.{Item}
use Rattle.atspi_tree_model.specs.declared.news.News.{News}
use Rattle.atspi_protocol.specs.declared.news.part.PartName.{PartName}
use Rattle.atspi_protocol.specs.news.NewsOf.{or_empty}
use Rattle.atspi_protocol.specs.news.Replies.{elements_of, part_in, part_told}
use Rattle.atspi_protocol.specs.news.Arguments.{signature_of}
use Rattle.atspi_protocol.specs.declared.following.question.Question.{Question}
use Rattle.atspi_protocol.specs.following.ReaderState.{Followed, ReaderState, is_named}
use Rattle.atspi_protocol.specs.following.Wishes.{wishes}
use Rattle.atspi_protocol.specs.following.Known.{made_known, references_among}
use Rattle.atspi_protocol.specs.following.Replied.{changed, loaded, told_part, refused_part, with_items, with_part, with_children, goes_on_if, children_signature}
use Rattle.atspi_protocol.specs.following.Takes.{noted, goes_on, found_in}
use Rattle.atspi_reader_known.specs.Unique.{AreUnique}
use Rattle.atspi_reader_known.proofs.Uniqueness.{changed_none}
use Rattle.atspi_reader_known.specs.declared.plan.Plan.TheVariants.{Settle, Put}
use Rattle.atspi_reader_known.specs.Planned.{one_planned}
use Rattle.atspi_reader_known.specs.Wanted.{first, refusing}
use Rattle.atspi_reader_known.proofs.Names.{told_name}
use Rattle.atspi_reader_known.proofs.Plans.{plan_changed, refusing_none}
use Rattle.atspi_reader.specs.declared.asks.Next.{Next}
use Rattle.atspi_reader.specs.inner.Asked.{went_on, Queues}
use Rattle.atspi_reader.specs.inner.Turns.{free, with_apps, coming, parted, noted_if, rooted}
use Rattle.atspi_reader.specs.Steps.{Does}
use Rattle.atspi_reader.proofs.Changed.{changed_same, changed-changed, changed_found, filter_changed, filter_none, nobody_found}
use Rattle.atspi_reader.proofs.Adopted.{known-changed}
use Rattle.atspi_reader.proofs.Done.{at, queued_done, queued_failed, same_err}
use Rattle.atspi_reader.proofs.News.{note_in, noted_in, wanted_in}

-- what the plans come to, as changes
pub settle_none : (none : Bor (List (List ℕ × PartName))) (name : List ℕ) (apps : List Followed) → none.now ≡ [] → flat_map (one_planned (Settle none) name) apps ≡ apps
settle_none none name apps e =
    plan_changed (Settle none) (refusing none.now) (λ app. refl) name apps
    ∙ changed_same (refusing none.now) (λ app. ap (λ (l : List (List ℕ × PartName)). refusing l app) e ∙ refusing_none app) name apps

pub settle_one : (one : Bor (List (List ℕ × PartName))) (path : List ℕ) (part : PartName) (name : List ℕ) (apps : List Followed) → one.now ≡ (path, part) ∷ []
    → flat_map (one_planned (Settle one) name) apps ≡ changed (refused_part path part) name apps
settle_one one path part name apps e =
    plan_changed (Settle one) (refusing one.now) (λ app. refl) name apps
    ∙ ap (λ (l : List (List ℕ × PartName)). changed (refusing l) name apps) e

pub put_one : (other : Bor Followed) (app : Followed) (name : List ℕ) (apps : List Followed) → other.now ≡ app → flat_map (one_planned (Put other) name) apps ≡ changed (λ _. app) name apps
put_one other app name apps e =
    plan_changed (Put other) (λ _. other.now) (λ a. refl) name apps ∙ ap (λ (a : Followed). changed (λ _. a) name apps) e

-- the state in which the next call is asked
abbrev pub answered_in : ReaderState → Envelope → Bool → Bool → Option (List ℕ) → List Followed → ReaderState
answered_in s e known starts registry apps =
    at (coming starts s.to_come) None registry (note_in known e.serial (or_empty e.sender) apps) s.next s.out

module _ (old mid put noted new : ReaderState) (e : Envelope) (known starts : Bool) (registry : Option (List ℕ)) (apps : List Followed) (wish : Option Question)
    (same : wish ≡ first (wishes apps)) where
  same_noted : wish ≡ first (wishes (note_in known e.serial (or_empty e.sender) apps))
  same_noted = same ∙ ap first (sym (wanted_in known e.serial (or_empty e.sender) apps))

  pub answer_done : {T : Type 0} (x : T) (n : Next) → Queues (Ok n) old mid (coming starts old.to_come) wish
      → put ≡ record mid { apps = apps }
      → noted ≡ noted_if known put e
      → new ≡ went_on n (record noted { pending = None; to_come = coming starts noted.to_come; registry = registry })
      → Does {T = T} (Ok x) old new (goes_on (answered_in old e known starts registry apps))
  answer_done x n q p k a =
      queued_done old mid (coming starts old.to_come) registry (note_in known e.serial (or_empty e.sender) apps) wish same_noted x n new q
      (a
      ∙ ap (λ (s : ReaderState). went_on n (record s { pending = None; to_come = coming starts s.to_come; registry = registry }))
      (k ∙ ap (λ (s : ReaderState). noted_if known s e) p ∙ noted_in known mid apps e)
      ∙ ap (λ (s : ReaderState). went_on n (at (coming starts s.to_come) None registry (note_in known e.serial (or_empty e.sender) apps) mid.next mid.out)) q.queued)

  -- the same, where the registry stays
  pub answer_kept : {T : Type 0} (x : T) (n : Next) → Queues (Ok n) old mid (coming starts old.to_come) wish
      → put ≡ record mid { apps = apps }
      → noted ≡ noted_if known put e
      → new ≡ went_on n (record noted { pending = None; to_come = coming starts noted.to_come })
      → Does {T = T} (Ok x) old new (goes_on (answered_in old e known starts old.registry apps))
  answer_kept x n q p k a =
      queued_done old mid (coming starts old.to_come) old.registry (note_in known e.serial (or_empty e.sender) apps) wish same_noted x n new q
      (a
      ∙ ap (λ (s : ReaderState). went_on n (record s { pending = None; to_come = coming starts s.to_come }))
      (k ∙ ap (λ (s : ReaderState). noted_if known s e) p ∙ noted_in known mid apps e)
      ∙ ap (λ (s : ReaderState). went_on n (at (coming starts s.to_come) None s.registry (note_in known e.serial (or_empty e.sender) apps) mid.next mid.out)) q.queued)

  pub answer_failed : {T : Type 0} (fault : EndFault) → Queues (Err fault) old mid (coming starts old.to_come) wish → new ≡ mid
      → Does {T = T} (Err fault) old new (goes_on (answered_in old e known starts registry apps))
  answer_failed fault q a = queued_failed old mid (coming starts old.to_come) registry (note_in known e.serial (or_empty e.sender) apps) wish same_noted fault new q a

-- each reply's state is that
pub start_is : (s : ReaderState) (e : Envelope) (starts : Bool) → answered_in s e true starts s.registry s.apps ≡ goes_on_if starts (free s e)
start_is s e true = refl
start_is s e false = refl

pub items_is : (s : ReaderState) (e : Envelope) (name : List ℕ) (o : Option (List Item)) → free (with_apps s (with_items s name o).apps) e ≡ with_items (free s e) name o
items_is s e name (Some items) =
    ap (with_apps (free s e)) (changed-changed (noted e.serial) (loaded items) (λ a. refl) (λ a. refl) (λ a. refl) (or_empty e.sender) name s.apps)
items_is s e name None =
    ap (with_apps (free s e)) (sym (filter_changed (noted e.serial) (λ a. refl) (λ app. not (is_named name app)) (λ a b h. ap (λ (n : List ℕ). not (bytes_eq n name)) h) (or_empty e.sender) s.apps))

told_noted : (news : News) (serial : ℕ) (app : Followed) → noted serial (told_part news app) ≡ told_part news (noted serial app)
told_noted news serial app = by app.view refl
  where
    by : (v : Option (Forest Row)) → app.view ≡ v → noted serial (told_part news app) ≡ told_part news (noted serial app)
    by None e = rw e refl
    by (Some v) e = rw e refl

pub part_is : (s : ReaderState) (e : Envelope) (name path : List ℕ) (part : PartName) (o : Option News)
    → free (with_apps s (changed (parted o path part) name s.apps)) e ≡ with_part (free s e) name path part o
part_is s e name path part (Some news) =
    ap (with_apps (free s e)) (changed-changed (noted e.serial) (told_part news) (λ a. refl) (told_name news) (told_noted news e.serial) (or_empty e.sender) name s.apps)
part_is s e name path part None =
    ap (with_apps (free s e)) (changed-changed (noted e.serial) (refused_part path part) (λ a. refl) (λ a. refl) (λ a. refl) (or_empty e.sender) name s.apps)

pub roots_is : (s : ReaderState) (e : Envelope)
    → answered_in s e (list_any (is_named (or_empty e.sender)) s.apps) true e.sender (fold made_known s.apps (references_among (elements_of e.body))) ≡ rooted (free s e) e
roots_is s e =
    ap (λ (l : List Followed). at s.to_come None e.sender l s.next s.out)
    (known-changed (noted e.serial) (λ a. refl) (or_empty e.sender) (list_any (is_named (or_empty e.sender)) s.apps) (references_among (elements_of e.body)) s.apps refl)

pub children_come : (s : ReaderState) (e : Envelope) → (e.kind == 2 && bytes_eq (signature_of e.body) children_signature) ≡ true → with_children s e ≡ rooted s e
children_come s e h = ap (λ (b : Bool). if b then rooted s e else goes_on_if false s) h

pub no_children : (s : ReaderState) (e : Envelope) → (e.kind == 2 && bytes_eq (signature_of e.body) children_signature) ≡ false → with_children s e ≡ goes_on_if false s
no_children s e h = ap (λ (b : Bool). if b then rooted s e else goes_on_if false s) h

-- a part that was told is told by the return's arguments
pub part_comes : (part : PartName) (path : List ℕ) (e : Envelope) (news : News) → part_told part path e ≡ Some news → part_in part path e.body ≡ Some news
part_comes part path e news h = by (e.kind == 2) h
  where
    by : (b : Bool) → (if b then part_in part path e.body else None) ≡ Some news → part_in part path e.body ≡ Some news
    by true h = h
    by false h = absurd cc

-- the roots
module _ (s mid new : ReaderState) (all : List Followed) (e : Envelope) (heard : Bool) (registry : Option (List ℕ)) where
  pub rooted_done : {T : Type 0} (x : T) (n : Next) → Queues (Ok n) (with_apps s all) mid s.to_come (first (wishes all))
      → new ≡ went_on n (record (noted_if heard mid e) { pending = None; registry = registry })
      → Does {T = T} (Ok x) s new (goes_on (answered_in s e heard true registry all))
  rooted_done x n q a =
      let d = answer_done (with_apps s all) mid mid (noted_if heard mid e) new e heard true registry all (first (wishes all)) refl x n q
      (ap (λ (r : ReaderState). record mid { apps = r.apps }) q.queued) refl a in
      record { done = d.done; room = d.room; spent = d.spent; kept = tt }

  pub rooted_failed : {T : Type 0} (fault : EndFault) (known : ℕ) → Queues (Err fault) (with_apps s all) mid s.to_come (first (wishes all))
      → new ≡ with_apps mid (take known mid.apps) → known ≡ length s.apps → take (length s.apps) all ≡ s.apps
      → Does {T = T} (Err fault) s new (goes_on (answered_in s e heard true registry all))
  rooted_failed fault known q a k front =
      let same = queued_failed (with_apps s all) mid s.to_come registry (note_in heard e.serial (or_empty e.sender) all) (first (wishes all))
      (same_noted (with_apps s all) mid mid mid mid e heard true registry all (first (wishes all)) refl) {T = Next} fault mid q refl in
      let d : Does {T = Next} (Err fault) (with_apps s all) mid (goes_on (answered_in s e heard true registry all)) = same in
      record {
        done = tt;
        room = tt;
        spent = λ h. d.spent (ap Err (same_err _ fault Spent refl h));
        kept = a ∙ ap (λ (r : ReaderState). with_apps r (take known r.apps)) q.kept
            ∙ ap (λ (i : ℕ). with_apps s (take i all)) k ∙ ap (with_apps s) front;
      }

-- an application that was loaded, in its own place
pub put_loaded : (items : List Item) (name : List ℕ) (apps : List Followed) (a app : Followed) → AreUnique apps → found_in name apps ≡ Some a → app ≡ loaded items a
    → changed (λ _. app) name apps ≡ changed (loaded items) name apps
put_loaded items name apps a app u f e =
    ap (λ (x : Followed). changed (λ _. x) name apps) e ∙ changed_found (loaded items) name apps a u f

-- one that is not known changes nothing
pub not_loaded : (items : List Item) (name : List ℕ) (apps : List Followed) → found_in name apps ≡ None
    → filter (λ app. not (is_named name app)) apps ≡ changed (loaded items) name apps
not_loaded items name apps f =
    filter_none name apps (nobody_found name apps f) ∙ sym (changed_none (loaded items) name apps (nobody_found name apps f))

-- where no part more is refused, the same is wanted
pub settled_wish : (w : Option Question) (parts : List (List ℕ × PartName)) (name : List ℕ) (apps : List Followed) → w ≡ first (wishes (changed (refusing parts) name apps)) → parts ≡ []
    → w ≡ first (wishes apps)
settled_wish w parts name apps same none =
    same ∙ ap (λ (l : List Followed). first (wishes l)) (changed_same (refusing parts) (λ app. ap (λ (l : List (List ℕ × PartName)). refusing l app) none ∙ refusing_none app) name apps)
