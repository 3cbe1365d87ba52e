-- HOW A CHILD OF THE REGISTRY STAYS: it goes only with a call of Unembed of its own, or with the bus's news that its name is nobody's; and who calls Embed becomes one.
use Rattle.std.proofs.Common.{◌≡◌, inl, inr, ℕ, zero, suc, Bool, true, false, List, [], ◌∷◌, ◌++◌, Option, None, Some, refl, sym, ap, ◌∙◌, subst}
use Rattle.std.specs.Prelude.{◌==◌, ◌||◌, take, drop, slice_get, bytes_eq, codes, encode_utf8_all, if◌then◌else◌, Result, Ok, Err}
use Rattle.std.specs.List.{list_any}
use Rattle.std.proofs.lemmas.Bool.{eqb-true}
use lib.Utf8.{encode}
use Rattle.std.proofs.lemmas.Slice.Eq.{bytes_eq-Decides}
use Rattle.atspi_types.specs.Data.{Data}
use Rattle.atspi_message.specs.Envelope.{Envelope}
use Rattle.atspi_protocol.specs.ends.Places.{registry_root, root_path}
use Rattle.atspi_protocol.specs.ends.Messages.{returns, fails}
use Rattle.atspi_protocol.specs.declared.members.member.ObjectMember.{ObjectMember}
use Rattle.atspi_protocol.specs.declared.members.member.ObjectMember.TheVariants as members
use Rattle.atspi_protocol.specs.members.Asked.{Asked, calls, gets, gets_all, sets, asked}
use Rattle.atspi_protocol.specs.members.Arguments.{text_at}
use Rattle.atspi_protocol.specs.registering.RegistryState.{RegistryState, is_of, has_pair, without_pair, child_place}
use Rattle.atspi_protocol.specs.registering.Told.{registered, deregistered}
use Rattle.atspi_protocol.specs.registering.Answers.{Answer, only, reference_in, new_child, adopts, children_without, releases, answers_member, object_at}
use Rattle.atspi_protocol.specs.registering.Steps.{answer_to, called_by, named, hears, name_told, name_gone, takes_as, registry_takes}
use Rattle.atspi_protocol.specs.exporting.Exporter.{StartCall, hello, add_match, get_registered_events, embed}
use Rattle.atspi_protocol.specs.exporting.Starting.{start_call}
use Rattle.atspi_trace_laws.proofs.OfOrder.Parties.{same_some, false_true, found}
use Rattle.atspi_trace_caches.proofs.OfSettled.TellingWords.{HasOne, one_front, one_back}

abbrev Pair : Type 0
Pair = List ℕ × List ℕ

-- one of the children has this name
abbrev pub HasChild : List ℕ → List Pair → Type 0
HasChild u children = HasOne (λ (c : Pair). c.0 ≡ u) children

-- another goes
keeps_one : (u : List ℕ) (xs : List Pair) (i : ℕ) (x : Pair) → slice_get xs i ≡ Some x → (x.0 ≡ u → ⊥) → HasChild u xs → HasChild u (take i xs ++ drop (suc i) xs)
keeps_one u [] i x h other c = absurd c
keeps_one u (y ∷ ys) zero x h other (inl c) = absurd (other (ap (λ (p : Pair). p.0) (sym (same_some y x h)) ∙ c))
keeps_one u (y ∷ ys) zero x h other (inr c) = c
keeps_one u (y ∷ ys) (suc i) x h other (inl c) = inl c
keeps_one u (y ∷ ys) (suc i) x h other (inr c) = inr (keeps_one u ys i x h other c)

keeps_without : (u name : List ℕ) (children : List Pair) → (name ≡ u → ⊥) → HasChild u children → HasChild u (children_without children (child_place children name))
keeps_without u name children other c = by (child_place children name) refl
  where
    by : (o : Option ℕ) → child_place children name ≡ o → HasChild u (children_without children o)
    by None h = c
    by (Some i) h =
        let x = found (is_of name) children i h in
        keeps_one u children i x.0 x.1 (λ same. other (sym ((bytes_eq-Decides x.0.0 name).0 x.2) ∙ same)) c

-- no call of its own takes it back
abbrev pub NoUnembed : List ℕ → Result Asked (List ℕ) → List ℕ → Type 0
NoUnembed u (Ok (calls member args)) caller = member ≡ members.Unembed → caller ≡ u → ⊥
NoUnembed u r caller = Unit {0}

pub unembed_by : (u : List ℕ) (r : Result Asked (List ℕ)) (caller : List ℕ) → (caller ≡ u → NoUnembed u r caller) → NoUnembed u r caller
unembed_by u (Ok (calls _ _)) caller f = λ is same. f same is same
unembed_by u (Ok (gets property)) caller f = tt
unembed_by u (Ok (gets_all ls)) caller f = tt
unembed_by u (Ok (sets property d)) caller f = tt
unembed_by u (Err word) caller f = tt

module _ (s : RegistryState) (u : List ℕ) (c : HasChild u s.children) where
  abbrev Stays : Answer → Type 0
  Stays a = HasChild u a.children

  if_stays : (b : Bool) (x y : Answer) → Stays x → Stays y → Stays (if b then x else y)
  if_stays true x y p q = p
  if_stays false x y p q = q

  adopts_stays : (child : Pair) → Stays (adopts s child)
  adopts_stays child = if_stays (list_any (is_of child.0) s.children) (only s (returns (registry_root ∷ []))) (new_child s child) c (one_front (λ (x : Pair). x.0 ≡ u) s.children (child ∷ []) c)

  member_stays : (member : ObjectMember) (own caller : List ℕ) (args : List Data) → (member ≡ members.Unembed → caller ≡ u → ⊥) → Stays (answers_member member s own caller args)
  member_stays members.RegisterEvent own caller args f =
      if_stays (has_pair s.pairs caller (text_at 0 args)) (only s (returns [])) (record (only s (returns [])) { pairs = s.pairs ++ (caller, text_at 0 args) ∷ []; before = registered (caller, text_at 0 args) ∷ [] }) c c
  member_stays members.DeregisterEvent own caller args f =
      if_stays (has_pair s.pairs caller (text_at 0 args)) (record (only s (returns [])) { pairs = without_pair s.pairs caller (text_at 0 args); before = deregistered (caller, text_at 0 args) ∷ [] }) (only s (returns [])) c c
  member_stays members.Embed own caller args f =
      if_stays (bytes_eq (encode_utf8_all (reference_in args).0) caller) (adopts s (caller, (reference_in args).1)) (only s (fails (codes "InvalidArgs"))) (adopts_stays (caller, (reference_in args).1)) c
  member_stays members.Unembed own caller args f =
      if_stays (bytes_eq (encode_utf8_all (reference_in args).0) caller) (releases s caller) (only s (fails (codes "InvalidArgs"))) (keeps_without u caller s.children (f refl) c) c
  member_stays _ own caller args f = c

  answer_stays : (r : Result Asked (List ℕ)) (own caller : List ℕ) → NoUnembed u r caller → Stays (answer_to s own caller r)
  answer_stays (Ok (calls member args)) own caller f = member_stays member own caller args f
  answer_stays (Ok (gets property)) own caller f = c
  answer_stays (Ok (gets_all ls)) own caller f = c
  answer_stays (Ok (sets property d)) own caller f = c
  answer_stays (Err word) own caller f = c

  pub child_stays : (e : Envelope) → (e.kind ≡ 1 → (caller : List ℕ) → e.sender ≡ Some caller → NoUnembed u (asked (object_at e.path) e.interface e.member e.body) caller) → ((name : List ℕ) → name_gone e ≡ Some name → encode_utf8_all name ≡ u → ⊥) → HasChild u (registry_takes s e).state.children
  child_stays e calls_ gone = by_name s.own
    where
      called : (own : List ℕ) (o : Option (List ℕ)) → e.kind ≡ 1 → e.sender ≡ o → HasChild u (called_by s own e o).state.children
      called own None one h = c
      called own (Some caller) one h = answer_stays (asked (object_at e.path) e.interface e.member e.body) own caller (calls_ one caller h)

      left : (o : Option (List ℕ)) → name_gone e ≡ o → HasChild u (hears s o).state.children
      left None h = c
      left (Some name) h = keeps_without u (encode_utf8_all name) s.children (gone name h) c

      named_ : (o : Option (List ℕ)) → HasChild u (named s o).state.children
      named_ None = c
      named_ (Some name) = c

      by : (own : List ℕ) (b : Bool) → (e.kind == 1) ≡ b → HasChild u (if b then called_by s own e e.sender else hears s (name_gone e)).state.children
      by own true one = called own e.sender (eqb-true e.kind 1 one) refl
      by own false one = left (name_gone e) refl

      by_name : (o : Option (List ℕ)) → HasChild u (takes_as s e o).state.children
      by_name None = named_ (name_told s.hello e)
      by_name (Some own) = by own (e.kind == 1) refl

-- no call of an application's start takes it back
abbrev is_unembed : ObjectMember → Bool
is_unembed members.Unembed = true
is_unembed _ = false

pub start_keeps : (u name caller : List ℕ) (call : StartCall) (n : ℕ) (sender : Option (List ℕ))
    → let m : Envelope = record (start_call name call) { serial = n; sender = sender } in
    NoUnembed u (asked (object_at m.path) m.interface m.member m.body) caller
unfolding encode
start_keeps u name caller hello n sender = tt
start_keeps u name caller add_match n sender = tt
start_keeps u name caller get_registered_events n sender = λ h same. false_true (ap is_unembed h)
start_keeps u name caller embed n sender = λ h same. false_true (ap is_unembed h)

-- WHO CALLS EMBED, and names itself, becomes a child
any_has : (u : List ℕ) (children : List Pair) → list_any (is_of u) children ≡ true → HasChild u children
any_has u [] h = absurd (false_true h)
any_has u (c ∷ cs) h = by (is_of u c) refl h (λ g. any_has u cs g)
  where
    by : (b : Bool) → is_of u c ≡ b → (b || list_any (is_of u) cs) ≡ true → (list_any (is_of u) cs ≡ true → HasChild u cs) → HasChild u (c ∷ cs)
    by true is g f = inl ((bytes_eq-Decides c.0 u).0 is)
    by false is g f = inr (f g)

adopts_child : (s : RegistryState) (child : Pair) → HasChild child.0 (adopts s child).children
adopts_child s child = by (list_any (is_of child.0) s.children) refl
  where
    by : (b : Bool) → list_any (is_of child.0) s.children ≡ b → HasChild child.0 (if b then only s (returns (registry_root ∷ [])) else new_child s child).children
    by true h = any_has child.0 s.children h
    by false h = one_back (λ (x : Pair). x.0 ≡ child.0) s.children (child ∷ []) (inl refl)

embed_kind : (name : List ℕ) (n : ℕ) (sender : Option (List ℕ)) (caller own : List ℕ) (s : RegistryState)
    → let m : Envelope = record (start_call name embed) { serial = n; sender = sender } in
    answer_to s own caller (asked (object_at m.path) m.interface m.member m.body) ≡ (if bytes_eq (encode_utf8_all name) caller then adopts s (caller, root_path) else only s (fails (codes "InvalidArgs")))
unfolding encode
embed_kind name n sender caller own s = refl

pub embed_adopts : (s : RegistryState) (own u name : List ℕ) (n : ℕ) → s.own ≡ Some own → encode_utf8_all name ≡ u → HasChild u (registry_takes s (record (start_call name embed) { serial = n; sender = Some u })).state.children
embed_adopts s own u name n k same =
    subst (λ o. HasChild u (takes_as s (record (start_call name embed) { serial = n; sender = Some u }) o).state.children) (sym k)
    (subst (λ (a : Answer). HasChild u a.children) (sym (embed_kind name n (Some u) u own s))
    (subst (λ b. HasChild u (if b then adopts s (u, root_path) else only s (fails (codes "InvalidArgs"))).children) (sym ((bytes_eq-Decides (encode_utf8_all name) u).1 same)) (adopts_child s (u, root_path))))
