-- A CALL THAT WAITS is in exactly one place: on its caller's up link; or it is an open call of the bus, and stands on the down link of whom it is for, or its reply on that one's up link;
-- or its reply stands on the caller's down link. It is one machine for the own calls of readers and for the calls of an application's start.
use Rattle.std.proofs.Common.{◌≡◌, ◌⊎◌, inl, inr, ℕ, true, false, List, [], ◌∷◌, ◌++◌, Option, None, Some, refl, sym, ap, ◌∙◌, subst, is_some}
use Rattle.std.proofs.lemmas.List.{append-nil, append_assoc}
use Rattle.atspi_tree_model.specs.Forest.{first_of}
use Rattle.atspi_base.specs.valid_names.Names.{is_unique_name}
use Rattle.atspi_message.specs.Envelope.{Envelope}
use Rattle.atspi_names.specs.Owners.{own_name}
use Rattle.atspi_protocol.specs.ends.Places.{registry}
use Rattle.atspi_protocol.specs.declared.following.question.Question.{Question}
use Rattle.atspi_protocol.specs.declared.following.question.Question.TheVariants.{RegisterEvent, GetChildren, GetItems, GetPart}
use Rattle.atspi_protocol.specs.exporting.Exporter.{StartCall, get_registered_events, embed, Phase, awaits}
use Rattle.atspi_match.specs.routing.BusState.{OpenCall, unique_of}
use Rattle.atspi_match.specs.routing.Routing.{expects_reply, is_reply}
use Rattle.atspi_match.specs.routing.Queues.{Bus, is_due}
use Rattle.atspi_trace.specs.World.{here, waits, Asked, Role, the_registry, an_application, a_reader, Said, Letter, End, World}
use Rattle.atspi_trace.specs.Ends.{is_here, end_at, is_reader, put_down}
use Rattle.atspi_trace.specs.Carrying.{Carried, named}
use Rattle.atspi_trace_laws.proofs.OfOrder.Frame.{Over, IsOrder}
use Rattle.atspi_trace_laws.proofs.OfQuiet.Here.{forward}

-- SOME ONE of a list
abbrev pub Has : {X : Type 0} → (X → Type 0) → List X → Type 0
Has P [] = ⊥
Has P (x ∷ xs) = P x ⊎ Has P xs

pub has_front : {X : Type 0} (P : X → Type 0) (xs ys : List X) → Has P xs → Has P (xs ++ ys)
has_front P [] ys h = absurd h
has_front P (x ∷ xs) ys (inl h) = inl h
has_front P (x ∷ xs) ys (inr h) = inr (has_front P xs ys h)

pub has_back : {X : Type 0} (P : X → Type 0) (xs ys : List X) → Has P ys → Has P (xs ++ ys)
has_back P [] ys h = h
has_back P (x ∷ xs) ys h = inr (has_back P xs ys h)

pub has_map : {X : Type 0} (P Q : X → Type 0) (xs : List X) → ((x : X) → P x → Q x) → Has P xs → Has Q xs
has_map P Q [] f h = absurd h
has_map P Q (x ∷ xs) f (inl h) = inl (f x h)
has_map P Q (x ∷ xs) f (inr h) = inr (has_map P Q xs f h)

-- WHICH CALLS WAIT: whom a question goes to, and what an end waits for
abbrev pub goes_to : Question → List ℕ
goes_to (GetItems name) = name
goes_to (GetPart name path part) = name
goes_to (RegisterEvent pattern) = registry
goes_to GetChildren = registry
goes_to question = own_name

abbrev pub start_goes_to : StartCall → List ℕ
start_goes_to get_registered_events = registry
start_goes_to embed = registry
start_goes_to call = own_name

abbrev pub IsAsked : ℕ → List ℕ → Asked → Type 0
IsAsked n to a = (a.fate ≡ waits) × (a.serial ≡ n) × (goes_to a.question ≡ to)

abbrev pub PhaseWaits : Phase → ℕ → List ℕ → Type 0
PhaseWaits (awaits call serial) n to = (serial ≡ n) × (start_goes_to call ≡ to)
PhaseWaits phase n to = ⊥

abbrev pub WaitsIn : Role → ℕ → List ℕ → Type 0
WaitsIn (a_reader h) n to = Has (IsAsked n to) h.asked
WaitsIn (an_application s) n to = PhaseWaits s.phase n to
WaitsIn (the_registry s) n to = ⊥

-- THE CALL, AND ITS REPLY, on the four links
pub record IsCall (n : ℕ) (to : List ℕ) (said : Said) : Type 0 where
  pub serial : said.message.serial ≡ n
  pub expects : expects_reply said.message ≡ true
  pub goes : said.message.destination ≡ Some to

pub record IsCalled (n : ℕ) (name : List ℕ) (letter : Letter) : Type 0 where
  pub serial : letter.said.message.serial ≡ n
  pub expects : expects_reply letter.said.message ≡ true
  pub sender : letter.said.message.sender ≡ Some name

pub record IsReplying (n : ℕ) (m : Envelope) : Type 0 where
  pub reply : is_reply m ≡ true
  pub with_ : m.reply ≡ Some n

pub record IsAnswer (n : ℕ) (name : List ℕ) (said : Said) : Type 0 where
  pub replies : IsReplying n said.message
  pub goes : said.message.destination ≡ Some name

abbrev pub IsReplied : ℕ → Letter → Type 0
IsReplied n letter = IsReplying n letter.said.message

-- a call of this connection with this serial that is to be answered by that one
pub record IsOpen (k n callee : ℕ) (call : OpenCall) : Type 0 where
  pub caller : call.caller ≡ k
  pub serial : call.serial ≡ n
  pub whom : call.callee ≡ callee

-- A reader answers no call: one that is for it is lost there. It has the name that the call went to, if that is a unique name; it has not the registry's, nor the bus's.
abbrev pub IsMute : List ℕ → End → Type 0
IsMute to d = (is_reader d.who ≡ true) × (is_unique_name to ≡ true → d.unique ≡ Some to) × (to ≡ registry → ⊥) × (to ≡ own_name → ⊥)

-- where the call is, of whom it is for: the call stands on the down link, or its reply on the up link
abbrev pub Course : End → ℕ → List ℕ → List ℕ → Type 0
Course d n name to = IsMute to d ⊎ (((is_reader d.who ≡ false) × Has (IsCalled n name) d.down) ⊎ Has (IsAnswer n name) d.up)

-- or that one is not here any more, or is to be closed
abbrev pub Stage : Carried → ℕ → End → ℕ → List ℕ → List ℕ → Type 0
Stage c callee d n name to = (is_here d.standing ≡ false) ⊎ ((is_due callee c.bus.waiting.due ≡ true) ⊎ ((d.standing ≡ here) × Course d n name to))

pub record OpenAt (c : Carried) (k n : ℕ) (to : List ℕ) : Type 0 where
  pub callee : ℕ
  pub is_open : Has (IsOpen k n callee) c.bus.state.calls
  pub name : List ℕ
  pub is_named : unique_of c.bus.state.owners k ≡ Some name
  pub known : is_some (unique_of c.bus.state.owners callee) ≡ true
  pub d : End
  pub there : end_at c.ends callee ≡ Some d
  pub stage : Stage c callee d n name to

-- THE PLACES, and, while the bus is at work, that the caller is to be closed
abbrev pub Placed : Carried → ℕ → End → ℕ → List ℕ → Type 0
Placed c k e n to = Has (IsCall n to) e.up ⊎ (Has (IsReplied n) e.down ⊎ OpenAt c k n to)

abbrev pub Midway : Carried → ℕ → End → ℕ → List ℕ → Type 0
Midway c k e n to = Placed c k e n to ⊎ (is_due k c.bus.waiting.due ≡ true)

abbrev pub carried : World → Carried
carried w = record { bus = w.bus; ends = w.ends }

abbrev pub AllPlaced : World → Type 0
AllPlaced w = (k n : ℕ) (to : List ℕ) (e : End) → end_at w.ends k ≡ Some e → e.standing ≡ here → WaitsIn e.role n to → Placed (carried w) k e n to

-- AN END whose links keep what is on them
pub record Keeps_links (e d : End) : Type 0 where
  pub whose : d.who ≡ e.who
  pub standing : d.standing ≡ e.standing
  pub role : d.role ≡ e.role
  pub up : d.up ≡ e.up
  pub down : (more : List Letter) × (d.down ≡ e.down ++ more)
  pub unique : (name : List ℕ) → e.unique ≡ Some name → d.unique ≡ Some name

pub keeping : IsOrder Keeps_links
keeping = record {
  same = λ e. record { whose = refl; standing = refl; role = refl; up = refl; down = ([], sym (append-nil e.down)); unique = λ n h. h };
  both = λ e d c f g. record {
    whose = g.whose ∙ f.whose;
    standing = g.standing ∙ f.standing;
    role = g.role ∙ f.role;
    up = g.up ∙ f.up;
    down = (f.down.0 ++ g.down.0, g.down.1 ∙ ap (λ l. l ++ g.down.0) f.down.1 ∙ append_assoc e.down f.down.0 g.down.0);
    unique = λ n h. g.unique n (f.unique n h);
  };
}

pub put_keeps : (letter : Letter) (e : End) → Keeps_links e (put_down letter e)
put_keeps letter e = record { whose = refl; standing = refl; role = refl; up = refl; down = (letter ∷ [], refl); unique = λ n h. h }

pub name_keeps : (b : Bus) (conn : ℕ) (e : End) → Keeps_links e (named b conn e)
name_keeps b conn e =
    record { whose = refl; standing = refl; role = refl; up = refl; down = ([], sym (append-nil e.down)); unique = λ n h. ap (λ o. first_of o (unique_of b.state.owners conn)) h }

-- what is on a down link stands there still
pub down_still : (P : Letter → Type 0) (e d : End) → Keeps_links e d → Has P e.down → Has P d.down
down_still P e d g h = subst (Has P) (sym g.down.1) (has_front P e.down g.down.0 h)

pub up_still : (P : Said → Type 0) (e d : End) → Keeps_links e d → Has P e.up → Has P d.up
up_still P e d g h = subst (Has P) (sym g.up) h

pub course_still : (e d : End) (n : ℕ) (name to : List ℕ) → Keeps_links e d → Course e n name to → Course d n name to
course_still e d n name to g (inl m) = inl (ap is_reader g.whose ∙ m.0, λ u. g.unique to (m.1 u), m.2, m.3)
course_still e d n name to g (inr (inl h)) = inr (inl (ap is_reader g.whose ∙ h.0, down_still (IsCalled n name) e d g h.1))
course_still e d n name to g (inr (inr h)) = inr (inr (up_still (IsAnswer n name) e d g h))

-- WHAT A CHANGE KEEPS of a call of this connection with this serial: it stays where it is
pub record Still (c v : Carried) (k n : ℕ) : Type 0 where
  pub ends : Over Keeps_links c.ends v.ends
  pub calls : (callee : ℕ) → Has (IsOpen k n callee) c.bus.state.calls → Has (IsOpen k n callee) v.bus.state.calls
  pub names : (x : ℕ) (name : List ℕ) → unique_of c.bus.state.owners x ≡ Some name → unique_of v.bus.state.owners x ≡ Some name
  pub due : (x : ℕ) → is_due x c.bus.waiting.due ≡ true → is_due x v.bus.waiting.due ≡ true

some_name : (o : Option (List ℕ)) → is_some o ≡ true → (name : List ℕ) × (o ≡ Some name)
some_name None h = absurd (no h)
  where
    no : false ≡ true → ⊥
    no z = cc
some_name (Some name) h = (name, refl)

pub known_still : (o p : Option (List ℕ)) → ((name : List ℕ) → o ≡ Some name → p ≡ Some name) → is_some o ≡ true → is_some p ≡ true
known_still o p f h = let x = some_name o h in ap is_some (f x.0 x.1)

pub stage_still : (c v : Carried) (k n callee : ℕ) (name to : List ℕ) (d z : End) → Still c v k n → Keeps_links d z → Stage c callee d n name to → Stage v callee z n name to
stage_still c v k n callee name to d z s g (inl h) = inl (ap is_here g.standing ∙ h)
stage_still c v k n callee name to d z s g (inr (inl h)) = inr (inl (s.due callee h))
stage_still c v k n callee name to d z s g (inr (inr h)) = inr (inr (g.standing ∙ h.0, course_still d z n name to g h.1))

pub open_still : (c v : Carried) (k n : ℕ) (to : List ℕ) → Still c v k n → OpenAt c k n to → OpenAt v k n to
open_still c v k n to s o =
    let z = forward Keeps_links c.ends v.ends o.callee o.d s.ends o.there in
    record {
      callee = o.callee;
      is_open = s.calls o.callee o.is_open;
      name = o.name;
      is_named = s.names k o.name o.is_named;
      known = known_still (unique_of c.bus.state.owners o.callee) (unique_of v.bus.state.owners o.callee) (s.names o.callee) o.known;
      d = z.0;
      there = z.1;
      stage = stage_still c v k n o.callee o.name to o.d z.0 s z.2 o.stage;
    }

pub midway_still : (c v : Carried) (k n : ℕ) (to : List ℕ) (e d : End) → Still c v k n → Keeps_links e d → Midway c k e n to → Midway v k d n to
midway_still c v k n to e d s g (inl (inl h)) = inl (inl (up_still (IsCall n to) e d g h))
midway_still c v k n to e d s g (inl (inr (inl h))) = inl (inr (inl (down_still (IsReplied n) e d g h)))
midway_still c v k n to e d s g (inl (inr (inr o))) = inl (inr (inr (open_still c v k n to s o)))
midway_still c v k n to e d s g (inr h) = inr (s.due k h)
