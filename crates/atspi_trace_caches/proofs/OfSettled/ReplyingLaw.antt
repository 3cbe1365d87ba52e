-- REPLIED: where nothing waits, no own call of a reader waits that is for the bus, the registry or an application, and no application waits for a return of its start.
use Rattle.std.proofs.Common.{◌≡◌, inl, inr, ℕ, zero, suc, ◌≤◌, true, false, List, [], ◌∷◌, length, Option, None, Some, refl, sym, ap, ◌∙◌, subst, is_some}
use Rattle.std.specs.List.{AllByRecursion}
use Rattle.atspi_tree_model.specs.Forest.{first_of}
use Rattle.atspi_script_lines.specs.declared.line.Party.{Party}
use Rattle.atspi_script_lines.specs.declared.line.Party.TheVariants.{Registry, App}
use Rattle.atspi_protocol.specs.declared.following.question.Question.{Question}
use Rattle.atspi_protocol.specs.declared.following.question.Question.TheVariants.{Hello, AddMatch, RegisterEvent, GetChildren, GetItems, GetPart}
use Rattle.atspi_protocol.specs.exporting.Exporter.{StartCall, hello, add_match, get_registered_events, embed}
use Rattle.atspi_match.specs.routing.Queues.{is_due}
use Rattle.atspi_trace.specs.Entry.{Entry}
use Rattle.atspi_trace.specs.World.{Standing, here, stopped, away, Asked, Said, Letter, End, World}
use Rattle.atspi_trace.specs.Ends.{is_here, is_reader, same_party, end_at}
use Rattle.atspi_trace.specs.Causes.{routes, unjoins, gets}
use Rattle.atspi_trace.specs.Work.{up_turn, down_turn, first_up, first_down}
use Rattle.atspi_trace_caches.specs.settled.Laws.{NothingWaits}
use Rattle.atspi_trace_laws.proofs.OfOrder.Parties.{no_none, same_some, false_true}
use Rattle.atspi_trace_laws.proofs.OfOrder.Along.{Keeps}
use Rattle.atspi_trace_laws.proofs.OfOrder.Growing.{Grows, Shaped, And, grown}
use Rattle.atspi_trace_laws.proofs.OfOrder.Shape.{Shape}
use Rattle.atspi_trace_laws.proofs.OfMissed.Resting.{Rested}
use Rattle.atspi_trace_laws.proofs.OfNames.LawNames.{Named}
use Rattle.atspi_trace_laws.proofs.OfNames.Places.{greeted, name_told, names_differ}
use Rattle.atspi_trace_laws.proofs.OfSigned.Self.{unique_told}
use Rattle.atspi_trace_laws.proofs.OfNames.LawEnds.{few_greeted}
use Rattle.atspi_trace_caches.proofs.OfSettled.Facts.{IsOfApp, IsForOne, IsReplied, AllReplied}
use Rattle.atspi_trace_caches.proofs.OfSettled.Replying.{Has, goes_to, start_goes_to, IsAsked, PhaseWaits, WaitsIn, IsMute, Course, Stage, Placed, carried, AllPlaced}
use Rattle.atspi_trace_caches.proofs.OfSettled.ReplyingOwns.{small_given}
use Rattle.atspi_trace_caches.proofs.OfSettled.ReplyingNamed.{Owns, callees_are}
use Rattle.atspi_trace_caches.proofs.OfSettled.ReplyingCauses.{Allows, caused_placed, asked_placed, moved_placed, first_placed}
use Rattle.atspi_trace_caches.proofs.OfSettled.ReplyingReady.{Under_welcome, WelcomesWell, welcomes_keep, ready_of}

-- WHERE NOTHING WAITS each link of an end that is here is empty, and no end stopped
first_none : {A : Type 0} (x y : Option A) → first_of x y ≡ None → (x ≡ None) × (y ≡ None)
first_none None y h = (refl, h)
first_none (Some a) y h = absurd (no_none a (sym h))

abbrev pub IsStill : End → Type 0
IsStill e = (e.standing ≡ here → (e.up ≡ []) × (e.down ≡ [])) × (e.standing ≡ stopped → ⊥)

no_up : (conn : ℕ) (s : Standing) (link : List Said) → up_turn conn s link ≡ None → (s ≡ here → link ≡ []) × (s ≡ stopped → ⊥)
no_up conn here [] h = (λ g. refl, λ g. false_true (sym (ap is_here g)))
no_up conn here (said ∷ rest) h = absurd (no_none (routes conn) (sym h))
no_up conn stopped link h = absurd (no_none (unjoins conn) (sym h))
no_up conn away link h = (λ g. absurd (false_true (ap is_here g)), λ g. away_stopped g)
  where
    away_stopped : away ≡ stopped → ⊥
    away_stopped z = cc

no_down : (conn : ℕ) (s : Standing) (link : List Letter) → down_turn conn s link ≡ None → s ≡ here → link ≡ []
no_down conn here [] h g = refl
no_down conn here (letter ∷ rest) h g = absurd (no_none (gets conn) (sym h))
no_down conn stopped link h g = absurd (false_true (ap is_here g))
no_down conn away link h g = absurd (false_true (ap is_here g))

ups_empty : (conn : ℕ) (es : List End) → first_up conn es ≡ None → (k : ℕ) (e : End) → end_at es k ≡ Some e → (e.standing ≡ here → e.up ≡ []) × (e.standing ≡ stopped → ⊥)
ups_empty conn [] h zero e there = absurd (no_none e there)
ups_empty conn [] h (suc k) e there = absurd (no_none e there)
ups_empty conn (x ∷ xs) h zero e there =
    let both = first_none (up_turn conn x.standing x.up) (first_up (suc conn) xs) h in
    subst (λ (y : End). (y.standing ≡ here → y.up ≡ []) × (y.standing ≡ stopped → ⊥)) (same_some x e there) (no_up conn x.standing x.up both.0)
ups_empty conn (x ∷ xs) h (suc k) e there = ups_empty (suc conn) xs (first_none (up_turn conn x.standing x.up) (first_up (suc conn) xs) h).1 k e there

downs_empty : (conn : ℕ) (es : List End) → first_down conn es ≡ None → (k : ℕ) (e : End) → end_at es k ≡ Some e → e.standing ≡ here → e.down ≡ []
downs_empty conn [] h zero e there on = absurd (no_none e there)
downs_empty conn [] h (suc k) e there on = absurd (no_none e there)
downs_empty conn (x ∷ xs) h zero e there on =
    let both = first_none (down_turn conn x.standing x.down) (first_down (suc conn) xs) h in
    subst (λ (y : End). y.standing ≡ here → y.down ≡ []) (same_some x e there) (no_down conn x.standing x.down both.0) on
downs_empty conn (x ∷ xs) h (suc k) e there on = downs_empty (suc conn) xs (first_none (down_turn conn x.standing x.down) (first_down (suc conn) xs) h).1 k e there on

pub still_of : (w : World) → NothingWaits w → (k : ℕ) (e : End) → end_at w.ends k ≡ Some e → IsStill e
still_of w none k e there =
    let both = first_none (first_up 0 w.ends) (first_down 0 w.ends) none in
    let up = ups_empty 0 w.ends both.0 k e there in
    (λ on. (up.0 on, downs_empty 0 w.ends both.1 k e there on), up.1)

nothing : {X : Type 0} (P : X → Type 0) (xs : List X) → xs ≡ [] → Has P xs → ⊥
nothing P xs empty h = subst (Has P) empty h

-- so a call that waits there is lost at a reader
pub record IsLost (w : World) (to : List ℕ) : Type 0 where
  pub conn : ℕ
  pub d : End
  pub there : end_at w.ends conn ≡ Some d
  pub standing : d.standing ≡ here
  pub mute : IsMute to d

lost : (w : World) → NothingWaits w → Rested w → Owns (carried w) → (k n : ℕ) (to : List ℕ) (e : End) → end_at w.ends k ≡ Some e → e.standing ≡ here → Placed (carried w) k e n to → IsLost w to
lost w none rests owns k n to e there on (inl h) = absurd (nothing _ e.up ((still_of w none k e there).0 on).0 h)
lost w none rests owns k n to e there on (inr (inl h)) = absurd (nothing _ e.down ((still_of w none k e there).0 on).1 h)
lost w none rests owns k n to e there on (inr (inr o)) = by o.stage
  where
    still : IsStill o.d
    still = still_of w none o.callee o.d o.there

    gone : (s : Standing) → o.d.standing ≡ s → is_here s ≡ false → ⊥
    gone here is h = false_true (sym h)
    gone stopped is h = still.1 is
    gone away is h = false_true (sym (ap is_some (owns.none o.callee o.d o.there is)) ∙ o.known)

    course : o.d.standing ≡ here → Course o.d n o.name to → IsLost w to
    course on_d (inl mute) = record { conn = o.callee; d = o.d; there = o.there; standing = on_d; mute = mute }
    course on_d (inr (inl h)) = absurd (nothing _ o.d.down (still.0 on_d).1 h.1)
    course on_d (inr (inr h)) = absurd (nothing _ o.d.up (still.0 on_d).0 h)

    by : Stage (carried w) o.callee o.d n o.name to → IsLost w to
    by (inl h) = absurd (gone o.d.standing refl h)
    by (inr (inl q)) = absurd (false_true (sym (ap (is_due o.callee) rests.due) ∙ q))
    by (inr (inr h)) = course h.0 h.1

-- THE READER THAT HAS IT has not the name of an application, whether that is here or was
told_name : (es : List Entry) (w : World) → Named es w → (k : ℕ) (e : End) (name : List ℕ) → end_at w.ends k ≡ Some e → (e.who ≡ Registry → ⊥) → e.unique ≡ Some name → name_told es e.who ≡ Some name
told_name es w n k e name there no_registry is = sym ((n.ends k e there).known no_registry) ∙ is

not_registry : (p : Party) → is_reader p ≡ true → p ≡ Registry → ⊥
not_registry p h g = false_true (ap is_reader (sym g) ∙ h)

app_not_registry : (a : ℕ) (p : Party) → p ≡ App a → p ≡ Registry → ⊥
app_not_registry a p h g = false_true (ap (λ q. same_party q Registry) (sym h ∙ g))

lost_for_app : (w : World) (es : List Entry) → Named es w → length (greeted es) ≤ 1000 → (name : List ℕ) → IsOfApp w.ends name → IsLost w name → ⊥
lost_for_app w es n few name app l =
    let its : name_told es app.2.who ≡ Some name = told_name es w n app.0 app.2 name app.3 (app_not_registry app.1 app.2.who app.4) app.5 in
    let mine : l.d.unique ≡ Some name = l.mute.1 (unique_told es app.2.who name (inr its)) in
    let same : l.d.who ≡ app.2.who = names_differ es l.d.who app.2.who name few (told_name es w n l.conn l.d name l.there (not_registry l.d.who l.mute.0) mine) its in
    false_true (ap is_reader (sym app.4) ∙ ap is_reader (sym same) ∙ l.mute.0)

lost_for_one : (w : World) (es : List Entry) → Named es w → length (greeted es) ≤ 1000 → (q : Question) → IsForOne w.ends q → IsLost w (goes_to q) → ⊥
lost_for_one w es n few Hello for l = l.mute.3 refl
lost_for_one w es n few (AddMatch rule) for l = l.mute.3 refl
lost_for_one w es n few (RegisterEvent pattern) for l = l.mute.2 refl
lost_for_one w es n few GetChildren for l = l.mute.2 refl
lost_for_one w es n few (GetItems name) for l = lost_for_app w es n few name for l
lost_for_one w es n few (GetPart name path part) for l = lost_for_app w es n few name for l

lost_start : (w : World) (call : StartCall) → IsLost w (start_goes_to call) → ⊥
lost_start w hello l = l.mute.3 refl
lost_start w add_match l = l.mute.3 refl
lost_start w get_registered_events l = l.mute.2 refl
lost_start w embed l = l.mute.2 refl

-- THE LAYER
abbrev pub Under_waiting : List Entry → World → Type 0
Under_waiting es w = And Under_welcome WelcomesWell es w

abbrev pub Waiting : List Entry → World → Type 0
Waiting es w = AllPlaced w

allows : (es : List Entry) (w : World) → Shape w → Under_waiting es w → Allows w
allows es w s u =
    let m = u.0.0.0.0.0 in
    let n : Named es w = m.1.1.1 in
    let rests : Rested w = u.0.1.0.1 in
    record {
      empty = λ k a e t there who role. (m.1.0.0.0.0.0.1.1 k a e t there who role).empty;
      ready = ready_of es w u.1 rests u.0.1.1.1;
      greeted = m.1.1.0.0.1.0;
      rests = rests;
      owns = u.0.0.1;
      callees = callees_are es w s n u.0.0.0.0.1.0 u.0.0.0.1.owned u.0.0.1;
      small = small_given es w n (few_greeted es w n m.0.1);
    }

waiting_grows : Grows Under_waiting Waiting
waiting_grows = record {
  begins = first_placed _;
  caused = λ es w d s u i e after v. caused_placed es w d (allows es w s u) i e;
  moved = λ es w v s u i m. moved_placed w v i m;
  asked = λ es w conn r m question s u i a. asked_placed w conn r m question a i;
}

pub waits_keep : Keeps (Shaped (And Under_waiting Waiting))
waits_keep = grown Under_waiting Waiting welcomes_keep waiting_grows

-- REPLIED, where nothing waits
asked_replied : (w : World) (es : List Entry) → Named es w → length (greeted es) ≤ 1000 → (xs : List Asked) → ((n : ℕ) (to : List ℕ) → Has (IsAsked n to) xs → IsLost w to) → AllByRecursion (IsReplied w.ends) xs
asked_replied w es n few [] f = tt
asked_replied w es n few (x ∷ xs) f = (λ for waiting. lost_for_one w es n few x.question for (f x.serial (goes_to x.question) (inl (waiting, refl, refl))), asked_replied w es n few xs (λ j to h. f j to (inr h)))

pub replied : (es : List Entry) (w : World) → And Under_waiting Waiting es w → NothingWaits w → AllReplied w
replied es w u none = record {
  readers = λ k r e h there who role on. asked_replied w es n few h.asked (λ j to has. lost w none rests o k j to e there on (u.1 k j to e there on (subst (λ x. WaitsIn x j to) (sym role) has)));
  apps = λ k a e s there who role on call serial phase.
      lost_start w call
      (lost w none rests o k serial (start_goes_to call) e there on
      (u.1 k serial (start_goes_to call) e there on (subst (λ x. WaitsIn x serial (start_goes_to call)) (sym role) (subst (λ p. PhaseWaits p serial (start_goes_to call)) (sym phase) (refl, refl)))));
}
  where
    n : Named es w
    n = u.0.0.0.0.0.0.1.1.1

    few : length (greeted es) ≤ 1000
    few = few_greeted es w n u.0.0.0.0.0.0.0.1

    o : Owns (carried w)
    o = u.0.0.0.1

    rests : Rested w
    rests = u.0.0.1.0.1
