-- A call that waits where the bus takes a message: a call to the bus is answered at once, and so is one to a name that nobody has; any other is open, and stands on the down link of who has the name; a reply goes to its caller.
use Rattle.std.proofs.Common.{◌≡◌, ◌⊎◌, inl, inr, ℕ, ◌<◌, ◌^◌, Bool, true, false, List, [], ◌∷◌, ◌++◌, map, Option, None, Some, refl, sym, ap, ◌∙◌, subst}
use Rattle.std.specs.Prelude.{◌==◌, ◌&&◌, ◌||◌, codes, bit_and, if◌then◌else◌, Result, Ok, Err}
use Rattle.std.specs.FinMap as finmap
use Rattle.std.proofs.lemmas.Bool.{eqb-true}
use Rattle.std.proofs.lemmas.Slice.Eq.{bytes_eq-Decides}
use Rattle.std.specs.Prelude.{bytes_eq}
use Rattle.atspi_types.specs.Data.{text_data}
use Rattle.atspi_base.specs.valid_names.Names.{is_unique_name}
use Rattle.atspi_match.specs.declared.condition.Condition.{Condition}
use Rattle.atspi_message.specs.Envelope.{Envelope}
use Rattle.atspi_names.specs.Owners.{own_name, list_of, unique_name, after_hello}
use Rattle.atspi_names.specs.Queue.{owner_in}
use Rattle.atspi_match.specs.declared.routing.member.BusMember.{BusMember}
use Rattle.atspi_match.specs.routing.BusState.{OpenCall, BusState, unique_of, text_or_empty}
use Rattle.atspi_match.specs.routing.OwnMessages.{return_to, error_to, name_acquired, owner_changed}
use Rattle.atspi_match.specs.routing.Members.{member_of}
use Rattle.atspi_match.specs.routing.Answers.{Reply, returns, fails, Answer, only, answers}
use Rattle.atspi_match.specs.routing.Routing.{receivers, is_for_bus, owners_of, one_or_none, expects_reply, is_reply, with_call, without_answered, calls_after}
use Rattle.atspi_match.specs.routing.Steps.{Move, delivers, closes, BusStep, handed, speaks, replies, answered, called, undeliverable, is_unowned, calls_after_all, takes_from_named, is_hello, greets, bus_takes}
use Rattle.atspi_trace_laws.proofs.OfOrder.Parties.{no_none, same_some, false_true}
use Rattle.atspi_trace_laws.proofs.OfNames.Naming.{called_same, hello_here, hello_other}
use Rattle.atspi_trace_laws.proofs.OfSigned.Unique.{IsIn}
use Rattle.atspi_trace_caches.proofs.OfSettled.Replying.{Has, has_front, has_back, IsReplying, IsOpen}
use Rattle.atspi_trace_caches.proofs.OfSettled.ReplyingOwners.{Owned, called_owned, greets_owned, owners_are}
use Rattle.atspi_trace_caches.proofs.OfSettled.ReplyingBus.{GivesTo, handed_to, to_owner, Tells, said_to}

-- WHAT BECOMES OF AN OPEN CALL where a message is handed on: it stays, or the message is its reply, and goes to its caller
answered_or_kept : (k n callee r serial conn : ℕ) (calls : List OpenCall) → Has (IsOpen k n callee) calls → Has (IsOpen k n callee) (without_answered calls r serial conn) ⊎ ((k ≡ r) × (n ≡ serial) × (callee ≡ conn))
answered_or_kept k n callee r serial conn [] h = absurd h
answered_or_kept k n callee r serial conn (x ∷ xs) h = by (x.caller == r) refl (x.serial == serial) refl (x.callee == conn) refl h (λ g. answered_or_kept k n callee r serial conn xs g)
  where
    Kept : List OpenCall → Type 0
    Kept l = Has (IsOpen k n callee) l ⊎ ((k ≡ r) × (n ≡ serial) × (callee ≡ conn))

    step : IsOpen k n callee x ⊎ Has (IsOpen k n callee) xs → (Has (IsOpen k n callee) xs → Kept (without_answered xs r serial conn)) → Kept (x ∷ without_answered xs r serial conn)
    step (inl o) f = inl (inl o)
    step (inr o) f = more (f o)
      where
        more : Kept (without_answered xs r serial conn) → Kept (x ∷ without_answered xs r serial conn)
        more (inl a) = inl (inr a)
        more (inr a) = inr a

    by : (p : Bool) → (x.caller == r) ≡ p → (q : Bool) → (x.serial == serial) ≡ q → (t : Bool) → (x.callee == conn) ≡ t → IsOpen k n callee x ⊎ Has (IsOpen k n callee) xs → (Has (IsOpen k n callee) xs → Kept (without_answered xs r serial conn))
        → Kept (if p && (q && t) then xs else x ∷ without_answered xs r serial conn)
    by true a true b true d (inl o) f = inr (sym o.caller ∙ eqb-true x.caller r a, sym o.serial ∙ eqb-true x.serial serial b, sym o.whom ∙ eqb-true x.callee conn d)
    by true a true b true d (inr o) f = inl o
    by true a true b false d o f = step o f
    by true a false b t d o f = step o f
    by false a q b t d o f = step o f

-- a message is the reply, and one of those that get it is the caller
abbrev pub Answers : ℕ → ℕ → ℕ → ℕ → Envelope → List ℕ → Type 0
Answers k n callee conn m conns = IsReplying n m × (callee ≡ conn) × IsIn k conns

pick : (P : List OpenCall → Type 0) (a b : Bool) (x y z : List OpenCall) → P x → (b ≡ true → P y) → P z → P (if a then x else if b then y else z)
pick P true b x y z p q r = p
pick P false true x y z p q r = q refl
pick P false false x y z p q r = r

one_after : (k n callee conn c : ℕ) (m : Envelope) (calls : List OpenCall) → Has (IsOpen k n callee) calls → Has (IsOpen k n callee) (calls_after calls conn m c) ⊎ (IsReplying n m × (callee ≡ conn) × (k ≡ c))
one_after k n callee conn c m calls h = done (by m.reply)
  where
    Kept : Option ℕ → List OpenCall → Type 0
    Kept o l = Has (IsOpen k n callee) l ⊎ ((is_reply m ≡ true) × (o ≡ Some n) × (callee ≡ conn) × (k ≡ c))

    answered_ : (serial : ℕ) → is_reply m ≡ true → Has (IsOpen k n callee) (without_answered calls c serial conn) ⊎ ((k ≡ c) × (n ≡ serial) × (callee ≡ conn)) → Kept (Some serial) (without_answered calls c serial conn)
    answered_ serial r (inl a) = inl a
    answered_ serial r (inr a) = inr (r, ap Some (sym a.1), a.2, a.0)

    by : (o : Option ℕ) → Kept o (calls_after calls conn (record m { reply = o }) c)
    by None = pick (Kept None) (expects_reply m) (is_reply m) (with_call calls conn m.serial c) calls calls (inl (has_front (IsOpen k n callee) calls _ h)) (λ r. inl h) (inl h)
    by (Some serial) =
        pick (Kept (Some serial)) (expects_reply m) (is_reply m) (with_call calls conn m.serial c) (without_answered calls c serial conn) calls (inl (has_front (IsOpen k n callee) calls _ h))
        (λ r. answered_ serial r (answered_or_kept k n callee c serial conn calls h)) (inl h)

    done : Kept m.reply (calls_after calls conn m c) → Has (IsOpen k n callee) (calls_after calls conn m c) ⊎ (IsReplying n m × (callee ≡ conn) × (k ≡ c))
    done (inl a) = inl a
    done (inr a) = inr (record { reply = a.0; with_ = a.1 }, a.2, a.3)

pub all_after : (k n callee conn : ℕ) (m : Envelope) (calls : List OpenCall) (conns : List ℕ) → Has (IsOpen k n callee) calls → Has (IsOpen k n callee) (calls_after_all calls conn m conns) ⊎ Answers k n callee conn m conns
all_after k n callee conn m calls [] h = inl h
all_after k n callee conn m calls (c ∷ cs) h = by (one_after k n callee conn c m calls h) (λ a. all_after k n callee conn m (calls_after calls conn m c) cs a)
  where
    rest : Has (IsOpen k n callee) (calls_after_all (calls_after calls conn m c) conn m cs) ⊎ Answers k n callee conn m cs → Has (IsOpen k n callee) (calls_after_all (calls_after calls conn m c) conn m cs) ⊎ Answers k n callee conn m (c ∷ cs)
    rest (inl a) = inl a
    rest (inr a) = inr (a.0, a.1, inr a.2)

    by : Has (IsOpen k n callee) (calls_after calls conn m c) ⊎ (IsReplying n m × (callee ≡ conn) × (k ≡ c))
        → (Has (IsOpen k n callee) (calls_after calls conn m c) → Has (IsOpen k n callee) (calls_after_all (calls_after calls conn m c) conn m cs) ⊎ Answers k n callee conn m cs)
        → Has (IsOpen k n callee) (calls_after_all (calls_after calls conn m c) conn m cs) ⊎ Answers k n callee conn m (c ∷ cs)
    by (inl a) f = rest (f a)
    by (inr a) f = inr (a.0, a.1, inl a.2)

-- THE STEP, of a call of this connection with this serial
pub record Keeps_open (s : BusState) (j k n : ℕ) (step : BusStep) : Type 0 where
  pub calls : (callee : ℕ) → Has (IsOpen k n callee) s.calls → Has (IsOpen k n callee) step.state.calls ⊎ ((callee ≡ j) × GivesTo (IsReplying n) k step.moves)
  pub names : (x : ℕ) (name : List ℕ) → unique_of s.owners x ≡ Some name → unique_of step.state.owners x ≡ Some name

-- what becomes of the message itself, where it is a call that goes to this name: it is answered, or it is open and was handed to who owns the name
pub record Opens (s : BusState) (j n : ℕ) (to : List ℕ) (m : Envelope) (step : BusStep) : Type 0 where
  pub callee : ℕ
  pub owner : IsIn callee (owners_of s to)
  pub is_open : Has (IsOpen j n callee) step.state.calls
  pub not_bus : to ≡ own_name → ⊥
  pub name : List ℕ
  pub named : unique_of s.owners j ≡ Some name
  pub given : Has (λ (x : Move). x ≡ delivers callee (record m { sender = Some name })) step.moves

abbrev pub Answered : BusState → ℕ → ℕ → List ℕ → Envelope → BusStep → Type 0
Answered s j n to m step = GivesTo (IsReplying n) j step.moves ⊎ Opens s j n to m step

-- a reply of the bus's own
own_reply : (s : BusState) (j : ℕ) (e : Envelope) (reply : Reply) (name : List ℕ) → expects_reply e ≡ true → unique_of s.owners j ≡ Some name → Has (Tells e.serial name) (replies s j e reply)
own_reply s j e (returns values) name h named = by (expects_reply e) h
  where
    by : (b : Bool) → b ≡ true → Has (Tells e.serial name) (if b then return_to (unique_of s.owners j) e.serial values ∷ [] else [])
    by true g = inl (record { reply = refl; with_ = refl }, named)
    by false g = absurd (false_true g)
own_reply s j e (fails word) name h named = by (expects_reply e) h
  where
    by : (b : Bool) → b ≡ true → Has (Tells e.serial name) (if b then error_to (unique_of s.owners j) e.serial word ∷ [] else [])
    by true g = inl (record { reply = refl; with_ = refl }, named)
    by false g = absurd (false_true g)

spoken : (t : BusState) (es : List Envelope) (j n : ℕ) (name : List ℕ) → Owned t.owners → unique_of t.owners j ≡ Some name → Has (Tells n name) es → GivesTo (IsReplying n) j (speaks t es).moves
spoken t es j n name i h has = said_to t t.next es j n name (owners_are t j name i h) has

-- a Hello
greets_keeps : (s : BusState) (j k n : ℕ) (e : Envelope) → unique_of s.owners j ≡ None → Keeps_open s j k n (greets s j e)
greets_keeps s j k n e none = record {
  calls = λ callee h. inl h;
  names = λ x name h. hello_other s j x e (λ same. no_none name (sym none ∙ ap (unique_of s.owners) (sym same) ∙ h)) ∙ h;
}

greets_answers : (s : BusState) (j : ℕ) (e : Envelope) → Owned (greets s j e).state.owners → expects_reply e ≡ true → GivesTo (IsReplying e.serial) j (greets s j e).moves
greets_answers s j e i expects =
    let after : BusState = record s { owners = after_hello s.owners j } in
    let name : List ℕ = text_or_empty (unique_of after.owners j) in
    let news : List Envelope = name_acquired after.owners name (Some j) ++ owner_changed name [] name ∷ [] in
    let new : List ℕ = unique_name s.owners.given in
    spoken after (replies after j e (returns (text_data name ∷ [])) ++ news) j e.serial new i (hello_here s j e)
    (has_front (Tells e.serial new) (replies after j e (returns (text_data name ∷ []))) news (own_reply after j e (returns (text_data name ∷ [])) new expects (hello_here s j e)))

-- a call to the bus
called_calls : (s : BusState) (j : ℕ) (m : Envelope) (rule : Option (List Condition)) → (called s j m rule).state.calls ≡ s.calls
called_calls s j m rule = by (member_of m) refl
  where
    by : (r : Result BusMember (List ℕ)) → member_of m ≡ r → (called s j m rule).state.calls ≡ s.calls
    by (Ok member) h = rw h refl
    by (Err name) h = rw h refl

called_names : (s : BusState) (j x : ℕ) (m : Envelope) (rule : Option (List Condition)) → unique_of (called s j m rule).state.owners x ≡ unique_of s.owners x
called_names s j x m rule = ap (λ u. finmap.get u x) (called_same s j m rule).0

answer_gives : (s : BusState) (j : ℕ) (m : Envelope) (a : Answer) (name : List ℕ) → expects_reply m ≡ true → Owned a.owners → unique_of a.owners j ≡ Some name → GivesTo (IsReplying m.serial) j (answered s j m a).moves
answer_gives s j m a name expects i h =
    let after : BusState = record s { owners = a.owners; rules = a.rules } in
    spoken after (a.told ++ replies after j m a.reply) j m.serial name i h (has_back (Tells m.serial name) a.told (replies after j m a.reply) (own_reply after j m a.reply name expects h))

called_answers : (s : BusState) (j : ℕ) (m : Envelope) (rule : Option (List Condition)) (name : List ℕ) → expects_reply m ≡ true → Owned s.owners → unique_of s.owners j ≡ Some name
    → GivesTo (IsReplying m.serial) j (called s j m rule).moves
called_answers s j m rule name expects i h = by (member_of m) refl (called_owned s j m rule i) (called_names s j j m rule ∙ h)
  where
    by : (r : Result BusMember (List ℕ)) → member_of m ≡ r → Owned (called s j m rule).state.owners → unique_of (called s j m rule).state.owners j ≡ Some name → GivesTo (IsReplying m.serial) j (called s j m rule).moves
    by (Ok member) g = rw g (λ o u. answer_gives s j m (answers member s j m.body rule) name expects o u)
    by (Err word) g = rw g (λ o u. answer_gives s j m (only s (fails word)) name expects o u)

-- a message of one that has its name
abbrev named_step : Bool → Bool → Bool → BusState → ℕ → Envelope → Option (List Condition) → BusStep
named_step a b c s j m rule =
    if a then (if b then called s j m rule else speaks s []) else (if c then undeliverable s j m else record { state = record s { calls = calls_after_all s.calls j m (receivers s m) }; moves = handed s m })

named_keeps : (a b c : Bool) (s : BusState) (j k n : ℕ) (m : Envelope) (rule : Option (List Condition)) → Keeps_open s j k n (named_step a b c s j m rule)
named_keeps true true c s j k n m rule = record {
  calls = λ callee h. inl (subst (Has (IsOpen k n callee)) (sym (called_calls s j m rule)) h);
  names = λ x name h. called_names s j x m rule ∙ h;
}
named_keeps true false c s j k n m rule = record { calls = λ callee h. inl h; names = λ x name h. h }
named_keeps false b true s j k n m rule = record { calls = λ callee h. inl h; names = λ x name h. h }
named_keeps false b false s j k n m rule = record { calls = λ callee h. by callee (all_after k n callee j m s.calls (receivers s m) h); names = λ x name h. h }
  where
    by : (callee : ℕ) → Has (IsOpen k n callee) (calls_after_all s.calls j m (receivers s m)) ⊎ Answers k n callee j m (receivers s m)
        → Has (IsOpen k n callee) (calls_after_all s.calls j m (receivers s m)) ⊎ ((callee ≡ j) × GivesTo (IsReplying n) k (handed s m))
    by callee (inl a) = inl a
    by callee (inr a) = inr (a.1, handed_to (IsReplying n) m k (receivers s m) a.0 a.2)

kind_of_call : (m : Envelope) → expects_reply m ≡ true → (m.kind == 1) ≡ true
kind_of_call m h = by (m.kind == 1) h
  where
    by : (b : Bool) → (b && (bit_and m.flags 1 == 0)) ≡ true → b ≡ true
    by true g = refl
    by false g = absurd (false_true g)

-- who owns the name, where somebody does
one_owner : (to : List ℕ) (o : Option ℕ) → is_unowned (Some to) (one_or_none o) ≡ false → (c : ℕ) × (o ≡ Some c)
one_owner to None h = absurd (false_true (sym h))
one_owner to (Some c) h = (c, refl)

if_true : (P : List OpenCall → Type 0) (a : Bool) (x y : List OpenCall) → a ≡ true → P x → P (if a then x else y)
if_true P true x y h p = p
if_true P false x y h p = absurd (false_true h)

-- the call is open behind it
opens : (s : BusState) (j c : ℕ) (m : Envelope) → expects_reply m ≡ true → Has (IsOpen j m.serial c) (calls_after_all s.calls j m (c ∷ []))
opens s j c m expects =
    if_true (Has (IsOpen j m.serial c)) (expects_reply m) (with_call s.calls j m.serial c) _ expects
    (has_back (IsOpen j m.serial c) s.calls (record { caller = j; serial = m.serial; callee = c } ∷ []) (inl (record { caller = refl; serial = refl; whom = refl })))

named_answers : (a b c : Bool) (s : BusState) (j : ℕ) (to own : List ℕ) (e : Envelope) (rule : Option (List Condition)) → Owned s.owners → unique_of s.owners j ≡ Some own → expects_reply e ≡ true → e.destination ≡ Some to
    → is_for_bus (record e { sender = Some own }) ≡ a → (e.kind == 1) ≡ b → is_unowned e.destination (receivers s (record e { sender = Some own })) ≡ c → Answered s j e.serial to e (named_step a b c s j (record e { sender = Some own }) rule)
named_answers true true c s j to own e rule i named expects goes is_a is_b is_c = inl (called_answers s j (record e { sender = Some own }) rule own expects i named)
named_answers true false c s j to own e rule i named expects goes is_a is_b is_c = absurd (false_true (sym is_b ∙ kind_of_call e expects))
named_answers false b true s j to own e rule i named expects goes is_a is_b is_c =
    let m : Envelope = record e { sender = Some own } in
    inl (spoken s (replies s j m (fails (codes "ServiceUnknown"))) j e.serial own i named (own_reply s j m (fails (codes "ServiceUnknown")) own expects named))
named_answers false b false s j to own e rule i named expects goes is_a is_b is_c =
    inr (record {
      callee = c.0;
      owner = subst (IsIn c.0) (sym (ap one_or_none c.1)) (inl refl);
      is_open = subst (λ l. Has (IsOpen j e.serial c.0) (calls_after_all s.calls j m l)) (sym them) (opens s j c.0 m expects);
      not_bus = λ same. false_true (sym is_a ∙ to_bus e.destination (goes ∙ ap Some same));
      name = own;
      named = named;
      given = subst (λ l. Has (λ (x : Move). x ≡ delivers c.0 m) (map (λ d. delivers d m) l)) (sym them) (inl refl);
    })
  where
    m : Envelope
    m = record e { sender = Some own }

    to_bus : (o : Option (List ℕ)) → o ≡ Some own_name → is_for_bus (record e { sender = Some own; destination = o }) ≡ true
    to_bus None h = absurd (no_none own_name h)
    to_bus (Some x) h = (bytes_eq-Decides x own_name).1 (same_some x own_name h)

    c : (x : ℕ) × (owner_in (list_of s.owners.lists to) ≡ Some x)
    c = one_owner to (owner_in (list_of s.owners.lists to)) (subst (λ l. is_unowned (Some to) l ≡ false) (to_owner s m to goes) (subst (λ o. is_unowned o (receivers s m) ≡ false) goes is_c))

    them : receivers s m ≡ c.0 ∷ []
    them = to_owner s m to goes ∙ ap one_or_none c.1

-- THE BUS TAKES A MESSAGE
abbrev takes_as : BusState → ℕ → Envelope → Option (List Condition) → Option (List ℕ) → BusStep
takes_as s j e rule (Some name) = takes_from_named s j (record e { sender = Some name }) rule
takes_as s j e rule None = if is_hello e then greets s j e else record { state = s; moves = closes j ∷ [] }

takes_is : (s : BusState) (j : ℕ) (e : Envelope) (rule : Option (List Condition)) → bus_takes s j e rule ≡ takes_as s j e rule (unique_of s.owners j)
takes_is s j e rule = refl

takes_named : (s : BusState) (j : ℕ) (e : Envelope) (rule : Option (List Condition)) (own : List ℕ) → unique_of s.owners j ≡ Some own → bus_takes s j e rule ≡ takes_from_named s j (record e { sender = Some own }) rule
takes_named s j e rule own h = takes_is s j e rule ∙ ap (takes_as s j e rule) h

and_left : (a b : Bool) → (a && b) ≡ true → a ≡ true
and_left true b h = refl
and_left false b h = absurd (false_true h)

hello_expects : (e : Envelope) → is_hello e ≡ true → (e.kind == 1) ≡ true
hello_expects e h = and_left (e.kind == 1) _ h

pub takes_keeps : (s : BusState) (j k n : ℕ) (e : Envelope) (rule : Option (List Condition)) → Keeps_open s j k n (bus_takes s j e rule)
takes_keeps s j k n e rule = by (unique_of s.owners j) refl
  where
    hello_by : (b : Bool) → unique_of s.owners j ≡ None → Keeps_open s j k n (if b then greets s j e else record { state = s; moves = closes j ∷ [] })
    hello_by true none = greets_keeps s j k n e none
    hello_by false none = record { calls = λ callee h. inl h; names = λ x name h. h }

    by : (o : Option (List ℕ)) → unique_of s.owners j ≡ o → Keeps_open s j k n (bus_takes s j e rule)
    by (Some own) h =
        let m : Envelope = record e { sender = Some own } in
        rw h (named_keeps (is_for_bus m) (e.kind == 1) (is_unowned e.destination (receivers s m)) s j k n m rule)
    by None h = rw h (hello_by (is_hello e) h)

pub takes_answers : (s : BusState) (j : ℕ) (to : List ℕ) (e : Envelope) (rule : Option (List Condition)) → s.owners.given < 2 ^ 32 → Owned s.owners → (unique_of s.owners j ≡ None → is_hello e ≡ true)
    → expects_reply e ≡ true → e.destination ≡ Some to → Answered s j e.serial to e (bus_takes s j e rule)
takes_answers s j to e rule small i greeting expects goes = by (unique_of s.owners j) refl
  where
    hello_by : (b : Bool) → b ≡ true → unique_of s.owners j ≡ None → Answered s j e.serial to e (if b then greets s j e else record { state = s; moves = closes j ∷ [] })
    hello_by true h none = inl (greets_answers s j e (greets_owned s j e small none i) expects)
    hello_by false h none = absurd (false_true h)

    by : (o : Option (List ℕ)) → unique_of s.owners j ≡ o → Answered s j e.serial to e (bus_takes s j e rule)
    by (Some own) h =
        let m : Envelope = record e { sender = Some own } in
        let x : Answered s j e.serial to e (named_step (is_for_bus m) (e.kind == 1) (is_unowned e.destination (receivers s m)) s j m rule) =
        named_answers (is_for_bus m) (e.kind == 1) (is_unowned e.destination (receivers s m)) s j to own e rule i h expects goes refl refl refl in
        subst (Answered s j e.serial to e) (sym (takes_named s j e rule own h)) x
    by None h = rw h (hello_by (is_hello e) (greeting h) h)

-- a reply goes to its caller
pub takes_reply : (s : BusState) (j k n : ℕ) (name : List ℕ) (e : Envelope) (rule : Option (List Condition)) → Owned s.owners → (unique_of s.owners j ≡ None → is_hello e ≡ true)
    → unique_of s.owners k ≡ Some name → IsReplying n e → e.destination ≡ Some name → GivesTo (IsReplying n) k (bus_takes s j e rule).moves
takes_reply s j k n name e rule i greeting named p goes = by (unique_of s.owners j) refl
  where
    no_call : (e.kind == 1) ≡ true → ⊥
    no_call h = false_true (sym (ap (λ x. x == 2 || x == 3) (eqb-true e.kind 1 h)) ∙ p.reply)

    not_bus : bytes_eq name own_name ≡ false
    not_bus = by_eq (bytes_eq name own_name) refl
      where
        by_eq : (b : Bool) → bytes_eq name own_name ≡ b → b ≡ false
        by_eq true h = absurd (false_true (sym (ap is_unique_name ((bytes_eq-Decides name own_name).0 h)) ∙ (i.lists k name named).unique))
        by_eq false h = refl

    for_bus : (own : List ℕ) → is_for_bus (record e { sender = Some own }) ≡ false
    for_bus own = by_to e.destination goes
      where
        by_to : (o : Option (List ℕ)) → o ≡ Some name → is_for_bus (record e { sender = Some own; destination = o }) ≡ false
        by_to None h = absurd (no_none name h)
        by_to (Some to) h = ap (λ x. bytes_eq x own_name) (same_some to name h) ∙ not_bus

    passed : (a b c : Bool) (own : List ℕ) → a ≡ false → is_unowned e.destination (receivers s (record e { sender = Some own })) ≡ c → GivesTo (IsReplying n) k (named_step a b c s j (record e { sender = Some own }) rule).moves
    passed true b c own h g = absurd (false_true (sym h))
    passed false b true own h g =
        let m : Envelope = record e { sender = Some own } in
        let them : receivers s m ≡ k ∷ [] = to_owner s m name goes ∙ owners_are s k name i named in
        absurd (false_true (sym (ap (is_unowned (Some name)) them) ∙ subst (λ o. is_unowned o (receivers s m) ≡ true) goes g))
    passed false b false own h g =
        let m : Envelope = record e { sender = Some own } in
        let them : receivers s m ≡ k ∷ [] = to_owner s m name goes ∙ owners_are s k name i named in
        handed_to (IsReplying n) m k (receivers s m) (record { reply = p.reply; with_ = p.with_ }) (subst (IsIn k) (sym them) (inl refl))

    by : (o : Option (List ℕ)) → unique_of s.owners j ≡ o → GivesTo (IsReplying n) k (bus_takes s j e rule).moves
    by (Some own) h =
        let m : Envelope = record e { sender = Some own } in
        subst (λ (x : BusStep). GivesTo (IsReplying n) k x.moves) (sym (takes_named s j e rule own h))
        (passed (is_for_bus m) (e.kind == 1) (is_unowned e.destination (receivers s m)) own (for_bus own) refl)
    by None h = absurd (no_call (hello_expects e (greeting h)))
