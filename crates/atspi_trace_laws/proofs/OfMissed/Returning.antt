-- To whom the bus returns: what it says of its own is no return, or it is the return to the message that it takes, and goes to who has the caller's name.
use Rattle.std.proofs.Common.{◌≡◌, ◌⊎◌, inl, inr, ℕ, ◌+◌, Bool, true, false, List, [], ◌∷◌, ◌++◌, Option, Some, refl, sym, ap, ◌∙◌, subst, arith}
use Rattle.std.specs.Prelude.{◌==◌, flat_map, bytes_eq, codes, if◌then◌else◌, Result, Ok, Err}
use Rattle.std.specs.List.{AllByRecursion}
use Rattle.std.specs.FinMap as finmap
use Rattle.std.proofs.lemmas.Slice.Eq.{bytes_eq-Decides}
use Rattle.atspi_types.specs.Data.{text_data}
use Rattle.atspi_base.specs.valid_names.Names.{is_unique_name}
use Rattle.atspi_message.specs.Envelope.{Envelope}
use Rattle.atspi_names.specs.Owners.{Owners, own_name, after_hello}
use Rattle.atspi_match.specs.declared.condition.Condition.{Condition}
use Rattle.atspi_match.specs.declared.routing.member.BusMember.{BusMember}
use Rattle.atspi_match.specs.routing.BusState.{BusState, unique_of, text_or_empty}
use Rattle.atspi_match.specs.routing.Members.{is_text, member_of}
use Rattle.atspi_protocol.specs.ends.Places.{registry}
use Rattle.atspi_protocol.specs.members.Asked.{is_text as is_word}
use Rattle.atspi_match.specs.routing.OwnMessages.{return_to, error_to, name_acquired, owner_changed, numbered}
use Rattle.atspi_match.specs.routing.Answers.{Reply, returns, fails, Answer, only, answers}
use Rattle.atspi_match.specs.routing.Routing.{receivers, owners_of, is_for_bus, expects_reply}
use Rattle.atspi_match.specs.routing.Steps.{Move, says, delivers, closes, BusStep, handed, speaks, replies, answered, called, undeliverable, is_unowned, greets, bus_takes}
use Rattle.atspi_trace_laws.proofs.OfOrder.Parties.{same_some, false_true, all_append}
use Rattle.atspi_trace_laws.proofs.OfOrder.Each.{all_map}
use Rattle.atspi_trace_laws.proofs.OfNames.Naming.{SameAs, called_same}
use Rattle.atspi_trace_laws.proofs.OfSigned.Unique.{OwnLists, called_lists, IsIn, owner_has}
use Rattle.atspi_trace_laws.proofs.OfSigned.Mail.{IsOwn}
use Rattle.atspi_trace_laws.proofs.OfSigned.Handing.{Fine, told_fine, replies_fine, acquired_fine, changed_fine, Gives, handed_gives, speaks_gives}

-- A MESSAGE OF THE BUS'S OWN that is no return, or the return with this serial to the connection that has this name; it is not of the registry's interface
abbrev pub ReturnsTo : Owners → List ℕ → ℕ → ℕ → Envelope → Type 0
ReturnsTo o own serial c m = IsOwn m × (m.kind ≡ 2 → (m.reply ≡ Some serial) × (unique_of o c ≡ Some own)) × (is_word m.interface registry ≡ false)

-- it may be said with any serial
none_twice : (m : Envelope) → Fine 0 m → Fine 1 m → m.kind ≡ 2 → ⊥
none_twice m f g k = zero_one (same_some 0 1 (sym (f.1 k) ∙ g.1 k))
  where
    zero_one : ◌≡◌ {A = ℕ} 0 1 → ⊥
    zero_one h = omega (arith, h)

both_all : {X : Type 0} (P Q : X → Type 0) (xs : List X) → AllByRecursion P xs → AllByRecursion Q xs → AllByRecursion (λ x. P x × Q x) xs
both_all P Q [] a b = tt
both_all P Q (x ∷ xs) a b = ((a.0, b.0), both_all P Q xs a.1 b.1)

module _ (o : Owners) (own : List ℕ) (serial : ℕ) where
  abbrev To : ℕ → Envelope → Type 0
  To c m = ReturnsTo o own serial c m

  -- what is told is no return
  quiet_said : (t : BusState) (at : ℕ) (es : List Envelope) → AllByRecursion (λ m. Fine 0 m × Fine 1 m) es → AllByRecursion (Gives To) (flat_map (λ e. says e ∷ handed t e) (numbered at es))
  quiet_said t at [] a = tt
  quiet_said t at (e ∷ es) a =
      let m : Envelope = record e { serial = at } in (
        tt,
        all_append (Gives To) (handed t m) (flat_map (λ x. says x ∷ handed t x) (numbered (at + 1) es)) (handed_gives To m (receivers t m) (λ c i. (a.0.0.0, λ k. absurd (none_twice m a.0.0 a.0.1 k), a.0.0.2)))
            (quiet_said t (at + 1) es a.1),
      )

  -- and then the reply
  told_then : (t : BusState) (at : ℕ) (es : List Envelope) (r : Envelope) → AllByRecursion (λ m. Fine 0 m × Fine 1 m) es → ((n c : ℕ) → IsIn c (receivers t (record r { serial = n })) → To c (record r { serial = n }))
      → AllByRecursion (Gives To) (flat_map (λ e. says e ∷ handed t e) (numbered at (es ++ r ∷ [])))
  told_then t at [] r a f =
      let m : Envelope = record r { serial = at } in (tt, all_append (Gives To) (handed t m) [] (handed_gives To m (receivers t m) (f at)) tt)
  told_then t at (e ∷ es) r a f =
      let m : Envelope = record e { serial = at } in (
        tt,
        all_append (Gives To) (handed t m) (flat_map (λ x. says x ∷ handed t x) (numbered (at + 1) (es ++ r ∷ []))) (handed_gives To m (receivers t m) (λ c i. (a.0.0.0, λ k. absurd (none_twice m a.0.0 a.0.1 k), a.0.0.2)))
            (told_then t (at + 1) es r a.1 f),
      )

-- THE REPLY TO A CALL goes to who has the caller's name
own_to : (t : BusState) (m : Envelope) (own : List ℕ) (u : Option (List ℕ)) (c : ℕ) → u ≡ Some own → IsIn c (receivers t (record m { destination = u })) → IsIn c (owners_of t own)
own_to t m own u c h = subst (λ z. IsIn c (receivers t (record m { destination = z })) → IsIn c (owners_of t own)) (sym h) (λ x. x)

mine : bytes_eq own_name own_name ≡ true
mine = (bytes_eq-Decides own_name own_name).1 refl

no_more : (xs : List Envelope) → AllByRecursion (λ m. Fine 0 m × Fine 1 m) xs → AllByRecursion (λ m. Fine 0 m × Fine 1 m) (xs ++ [])
no_more [] h = tt
no_more (x ∷ xs) h = (h.0, no_more xs h.1)

module _ (s : BusState) (conn : ℕ) (e : Envelope) (own : List ℕ) (named_ : unique_of s.owners conn ≡ Some own) (unique : is_unique_name own ≡ true) where
  abbrev It : ℕ → Envelope → Type 0
  It c m = ReturnsTo s.owners own e.serial c m

  to_it : (t : BusState) → OwnLists t.owners → SameAs s.owners t.owners → (m : Envelope) → IsOwn m → (m.kind ≡ 2 → m.reply ≡ Some e.serial) → is_word m.interface registry ≡ false → m.destination ≡ unique_of t.owners conn
      → (n c : ℕ) → IsIn c (receivers t (record m { serial = n })) → It c (record m { serial = n })
  to_it t lists same m is_own two other goes n c i =
      let owner : unique_of t.owners conn ≡ Some own = ap (λ u. finmap.get u conn) same.0 ∙ named_ in
      let has : unique_of t.owners c ≡ Some own = owner_has t own c lists unique (own_to t (record m { serial = n }) own m.destination c (goes ∙ owner) i) in
      (is_own, λ k. (two k, sym (ap (λ u. finmap.get u c) same.0) ∙ has), other)

  answered_to : (t : BusState) (told : List Envelope) (reply : Reply) → OwnLists t.owners → SameAs s.owners t.owners → AllByRecursion (λ m. Fine 0 m × Fine 1 m) told → AllByRecursion (Gives It) (speaks t (told ++ replies t conn e reply)).moves
  answered_to t told (returns values) lists same a = by (expects_reply e)
    where
      m : Envelope
      m = return_to (unique_of t.owners conn) e.serial values

      by : (b : Bool) → AllByRecursion (Gives It) (flat_map (λ x. says x ∷ handed t x) (numbered t.next (told ++ (if b then m ∷ [] else []))))
      by false = quiet_said s.owners own e.serial t t.next (told ++ []) (no_more told a)
      by true = told_then s.owners own e.serial t t.next told m a (to_it t lists same m mine (λ k. refl) refl refl)
  answered_to t told (fails name) lists same a = by (expects_reply e)
    where
      m : Envelope
      m = error_to (unique_of t.owners conn) e.serial name

      by : (b : Bool) → AllByRecursion (Gives It) (flat_map (λ x. says x ∷ handed t x) (numbered t.next (told ++ (if b then m ∷ [] else []))))
      by false = quiet_said s.owners own e.serial t t.next (told ++ []) (no_more told a)
      by true = told_then s.owners own e.serial t t.next told m a (to_it t lists same m mine (λ k. refl) refl refl)

  called_to : (rule : Option (List Condition)) → OwnLists s.owners → AllByRecursion (Gives It) (called s conn e rule).moves
  called_to rule lists = by (member_of e) refl
    where
      as_answered : (x : BusStep) (a : Answer) → called s conn e rule ≡ answered s conn e a → AllByRecursion (λ m. Fine 0 m × Fine 1 m) a.told → AllByRecursion (Gives It) (called s conn e rule).moves
      as_answered x a is told =
          subst (λ (y : BusStep). AllByRecursion (Gives It) y.moves) (sym is)
          (answered_to (record s { owners = a.owners; rules = a.rules }) a.told a.reply (subst (λ (y : BusStep). OwnLists y.state.owners) is (called_lists s conn e rule lists))
          (subst (λ (y : BusStep). SameAs s.owners y.state.owners) is (called_same s conn e rule)) told)

      by : (r : Result BusMember (List ℕ)) → member_of e ≡ r → AllByRecursion (Gives It) (called s conn e rule).moves
      by (Ok member) h =
          let a : Answer = answers member s conn e.body rule in
          as_answered (called s conn e rule) a (rw h refl) (both_all (Fine 0) (Fine 1) a.told (told_fine 0 member s conn e.body rule) (told_fine 1 member s conn e.body rule))
      by (Err name) h = as_answered (called s conn e rule) (only s (fails name)) (rw h refl) tt

-- ALL THAT IS HANDED ON of a message of one that has its name
abbrev pub OwnOrOther : Owners → List ℕ → ℕ → ℕ → Envelope → Type 0
OwnOrOther o own serial c m = ReturnsTo o own serial c m ⊎ (is_text m.sender own_name ≡ false)

gives_map : (H K : ℕ → Envelope → Type 0) → ((c : ℕ) (m : Envelope) → H c m → K c m) → (moves : List Move) → AllByRecursion (Gives H) moves → AllByRecursion (Gives K) moves
gives_map H K f moves a = all_map (Gives H) (Gives K) moves one a
  where
    one : (move : Move) → Gives H move → Gives K move
    one (delivers conn m) h = f conn m h
    one (says m) h = tt
    one (closes conn) h = tt

pub not_the_bus : (own : List ℕ) → is_unique_name own ≡ true → is_text (Some own) own_name ≡ false
not_the_bus own unique = by (bytes_eq own own_name) refl
  where
    by : (b : Bool) → bytes_eq own own_name ≡ b → bytes_eq own own_name ≡ false
    by false h = h
    by true h = absurd (false_true (ap is_unique_name (sym ((bytes_eq-Decides own own_name).0 h)) ∙ unique))

named_to : (a b c : Bool) (s : BusState) (conn : ℕ) (e : Envelope) (own : List ℕ) (rule : Option (List Condition)) (t : BusStep) → unique_of s.owners conn ≡ Some own → is_unique_name own ≡ true → OwnLists s.owners → e.sender ≡ Some own → t.moves ≡ handed s e
    → AllByRecursion (Gives (OwnOrOther s.owners own e.serial)) (if a then (if b then called s conn e rule else speaks s []) else (if c then undeliverable s conn e else t)).moves
named_to true true c s conn e own rule t named_ unique lists sender is = gives_map (ReturnsTo s.owners own e.serial) (OwnOrOther s.owners own e.serial) (λ k m h. inl h) (called s conn e rule).moves (called_to s conn e own named_ unique rule lists)
named_to true false c s conn e own rule t named_ unique lists sender is = tt
named_to false b true s conn e own rule t named_ unique lists sender is =
    gives_map (ReturnsTo s.owners own e.serial) (OwnOrOther s.owners own e.serial) (λ k m h. inl h) (undeliverable s conn e).moves (answered_to s conn e own named_ unique s [] (fails (codes "ServiceUnknown")) lists (refl, refl) tt)
named_to false b false s conn e own rule t named_ unique lists sender is =
    subst (AllByRecursion (Gives (OwnOrOther s.owners own e.serial))) (sym is)
    (handed_gives (OwnOrOther s.owners own e.serial) e (receivers s e) (λ c i. inr (subst (λ z. is_text z own_name ≡ false) (sym sender) (not_the_bus own unique))))

pub takes_to : (s : BusState) (conn : ℕ) (e : Envelope) (rule : Option (List Condition)) (own : List ℕ) → unique_of s.owners conn ≡ Some own → is_unique_name own ≡ true → OwnLists s.owners
    → AllByRecursion (Gives (OwnOrOther s.owners own e.serial)) (bus_takes s conn e rule).moves
takes_to s conn e rule own named_ unique lists =
    let m : Envelope = record e { sender = Some own } in
    rw named_ (named_to (is_for_bus m) (e.kind == 1) (is_unowned e.destination (receivers s m)) s conn m own rule _ named_ unique lists refl refl)

-- and of a Hello
pub greets_to : (s : BusState) (conn : ℕ) (e : Envelope) → AllByRecursion (Gives (λ c m. Fine e.serial m)) (greets s conn e).moves
greets_to s conn e =
    let after : BusState = record s { owners = after_hello s.owners conn } in
    let name : List ℕ = text_or_empty (unique_of after.owners conn) in
    let news : List Envelope = name_acquired after.owners name (Some conn) ++ owner_changed name [] name ∷ [] in
    speaks_gives (λ c m. Fine e.serial m) e.serial after (replies after conn e (returns (text_data name ∷ [])) ++ news) (λ c m f. f)
    (all_append (Fine e.serial) (replies after conn e (returns (text_data name ∷ []))) news (replies_fine after conn e (returns (text_data name ∷ [])))
    (all_append (Fine e.serial) (name_acquired after.owners name (Some conn)) (owner_changed name [] name ∷ []) (acquired_fine e.serial after.owners name (Some conn)) (changed_fine e.serial name [] name, tt)))
