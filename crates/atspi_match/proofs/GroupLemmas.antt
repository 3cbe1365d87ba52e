-- A rule that matches a message stands in a group that the message's own values name, whichever of its groups that is.
use Rattle.std.proofs.Common.{◌≡◌, ℕ, Bool, true, false, cond, List, [], ◌∷◌, ◌++◌, Option, None, Some, refl, sym, ap, ◌∙◌, subst, inl, inr, ⊎_elim}
use Rattle.std.specs.Prelude.{◌==◌, IsSomeAnd, option_to_list, encode_utf8_all}
use Rattle.std.specs.List.{Contains}
use Rattle.std.specs.Option.{option_map}
use Rattle.std.proofs.lemmas.Bool.Decides.{Decides-eqb}
use Rattle.std.proofs.lemmas.List.Elements.{All-contains, Contains-append_left, Contains-append_right, Contains-push}
use Rattle.atspi_base.specs.valid_names.Names.{is_unique_name}
use Rattle.atspi_message.specs.Envelope.{Envelope}
use Rattle.atspi_names.specs.Owners.{Owners}
use Rattle.atspi_match.specs.declared.condition.Condition.{Condition}
use Rattle.atspi_match.specs.declared.condition.Condition.TheVariants.{Kind, Sender, Interface, Member, Path, PathNamespace, Destination, Arg, ArgPath, Arg0Namespace, Eavesdrop}
use Rattle.atspi_match.specs.declared.group.GroupKey.{GroupKey}
use Rattle.atspi_match.specs.declared.group.GroupKey.TheVariants.{BySender, ByInterface, ByMember, ByPath, ByArg0}
use Rattle.atspi_match.specs.Matching.{Holds, GoesBy, Matches, text_argument}
use Rattle.atspi_match.specs.Groups.{Asked, asked, value_at, mark, mark_of, IsOwn, marked, groups_of}

no_value : {v : Asked} → None ≡ Some v → ⊥
no_value e = cc

no_number : {n : ℕ} → None ≡ Some n → ⊥
no_number e = cc

one_number : {m n : ℕ} → Some m ≡ Some n → m ≡ n
one_number e = cc

one_value : {a v : Asked} → Some a ≡ Some v → a ≡ v
one_value e = cc

-- the value that a condition asks for is the message's own
met_at : (e : Envelope) (a v : Asked) → value_at e a.0 ≡ Some a.1 → Some a ≡ Some v → value_at e v.0 ≡ Some v.1
met_at e a v h is = subst (λ (w : Asked). value_at e w.0 ≡ Some w.1) (one_value is) h

sender_is : (owners : Owners) (name : List ℕ) (o : Option (List ℕ)) → is_unique_name name ≡ true → IsSomeAnd o (GoesBy owners name) → o ≡ Some name
sender_is owners name None unique h = absurd h
sender_is owners name (Some field) unique h = ⊎_elim (λ same. ap (λ (f : List ℕ). Some f) same) (λ owns. absurd (clash (sym unique ∙ owns.0))) h
  where
    clash : true ≡ false → ⊥
    clash x = cc

pub asked-met : (e : Envelope) (owners : Owners) (c : Condition) (v : Asked) → Holds e owners c → asked c ≡ Some v → value_at e v.0 ≡ Some v.1
asked-met e owners (Kind t) v h is = absurd (no_value is)
asked-met e owners (Sender name) v h is = by (is_unique_name name) refl is
  where
    by : (b : Bool) → is_unique_name name ≡ b → cond b (Some (BySender, name)) None ≡ Some v → value_at e v.0 ≡ Some v.1
    by true unique is = met_at e (BySender, name) v (sender_is owners name e.sender unique h) is
    by false other is = absurd (no_value is)
asked-met e owners (Interface name) v h is = met_at e (ByInterface, name) v h is
asked-met e owners (Member name) v h is = met_at e (ByMember, name) v h is
asked-met e owners (Path path) v h is = met_at e (ByPath, path) v h is
asked-met e owners (PathNamespace path) v h is = absurd (no_value is)
asked-met e owners (Destination name) v h is = absurd (no_value is)
asked-met e owners (Arg n text) v h is = by (n == 0) refl is
  where
    by : (b : Bool) → (n == 0) ≡ b → cond b (Some (ByArg0, encode_utf8_all text)) None ≡ Some v → value_at e v.0 ≡ Some v.1
    by true zero is =
        met_at e (ByArg0, encode_utf8_all text) v
        (ap (text_argument e) (sym ((Decides-eqb n 0).0 zero)) ∙ h) is
    by false other is = absurd (no_value is)
asked-met e owners (ArgPath n text) v h is = absurd (no_value is)
asked-met e owners (Arg0Namespace text) v h is = absurd (no_value is)
asked-met e owners (Eavesdrop b) v h is = absurd (no_value is)

-- a value's group is among those of the message
listed : (o : Option (List ℕ)) (k : GroupKey) (value : List ℕ) → o ≡ Some value → Contains (option_to_list (option_map (mark k) o)) (mark k value)
listed o k value is = subst (λ p. Contains (option_to_list (option_map (mark k) p)) (mark k value)) (sym is) (Contains-push [] (mark k value))

in_groups : (e : Envelope) (k : GroupKey) (value : List ℕ) → value_at e k ≡ Some value → Contains (groups_of e) (mark k value)
in_groups e BySender value is =
    Contains-append_left (((((0 ∷ []) ++ marked e BySender) ++ marked e ByInterface) ++ marked e ByMember) ++ marked e ByPath) (marked e ByArg0) (mark BySender value)
    (Contains-append_left ((((0 ∷ []) ++ marked e BySender) ++ marked e ByInterface) ++ marked e ByMember) (marked e ByPath) (mark BySender value)
    (Contains-append_left (((0 ∷ []) ++ marked e BySender) ++ marked e ByInterface) (marked e ByMember) (mark BySender value)
    (Contains-append_left ((0 ∷ []) ++ marked e BySender) (marked e ByInterface) (mark BySender value)
    (Contains-append_right (0 ∷ []) (marked e BySender) (mark BySender value) (listed e.sender BySender value is)))))
in_groups e ByInterface value is =
    Contains-append_left (((((0 ∷ []) ++ marked e BySender) ++ marked e ByInterface) ++ marked e ByMember) ++ marked e ByPath) (marked e ByArg0) (mark ByInterface value)
    (Contains-append_left ((((0 ∷ []) ++ marked e BySender) ++ marked e ByInterface) ++ marked e ByMember) (marked e ByPath) (mark ByInterface value)
    (Contains-append_left (((0 ∷ []) ++ marked e BySender) ++ marked e ByInterface) (marked e ByMember) (mark ByInterface value)
    (Contains-append_right ((0 ∷ []) ++ marked e BySender) (marked e ByInterface) (mark ByInterface value) (listed e.interface ByInterface value is))))
in_groups e ByMember value is =
    Contains-append_left (((((0 ∷ []) ++ marked e BySender) ++ marked e ByInterface) ++ marked e ByMember) ++ marked e ByPath) (marked e ByArg0) (mark ByMember value)
    (Contains-append_left ((((0 ∷ []) ++ marked e BySender) ++ marked e ByInterface) ++ marked e ByMember) (marked e ByPath) (mark ByMember value)
    (Contains-append_right (((0 ∷ []) ++ marked e BySender) ++ marked e ByInterface) (marked e ByMember) (mark ByMember value) (listed e.member ByMember value is)))
in_groups e ByPath value is =
    Contains-append_left (((((0 ∷ []) ++ marked e BySender) ++ marked e ByInterface) ++ marked e ByMember) ++ marked e ByPath) (marked e ByArg0) (mark ByPath value)
    (Contains-append_right ((((0 ∷ []) ++ marked e BySender) ++ marked e ByInterface) ++ marked e ByMember) (marked e ByPath) (mark ByPath value) (listed e.path ByPath value is))
in_groups e ByArg0 value is =
    Contains-append_right (((((0 ∷ []) ++ marked e BySender) ++ marked e ByInterface) ++ marked e ByMember) ++ marked e ByPath) (marked e ByArg0) (mark ByArg0 value)
    (listed (text_argument e 0) ByArg0 value is)

-- and so is that of the rules that ask for none
none_in : (e : Envelope) → Contains (groups_of e) 0
none_in e =
    Contains-append_left (((((0 ∷ []) ++ marked e BySender) ++ marked e ByInterface) ++ marked e ByMember) ++ marked e ByPath) (marked e ByArg0) 0
    (Contains-append_left ((((0 ∷ []) ++ marked e BySender) ++ marked e ByInterface) ++ marked e ByMember) (marked e ByPath) 0
    (Contains-append_left (((0 ∷ []) ++ marked e BySender) ++ marked e ByInterface) (marked e ByMember) 0
    (Contains-append_left ((0 ∷ []) ++ marked e BySender) (marked e ByInterface) 0
    (Contains-append_left (0 ∷ []) (marked e BySender) 0 (Contains-push [] 0)))))

-- each group in which a rule may stand
pub group_in : (e : Envelope) (owners : Owners) (rule : List Condition) (n : ℕ) → IsOwn rule n → Matches rule e owners → Contains (groups_of e) n
group_in e owners rule n (inl h) m = at (asked h.0) refl h.2
  where
    met : Holds e owners h.0
    met = All-contains (Holds e owners) rule h.0 m h.1

    at : (o : Option Asked) → asked h.0 ≡ o → option_map mark_of o ≡ Some n → Contains (groups_of e) n
    at None is num = absurd (no_number num)
    at (Some v) is num = subst (λ k. Contains (groups_of e) k) (one_number num) (in_groups e v.0 v.1 (asked-met e owners h.0 v met is))
group_in e owners rule n (inr none) m = subst (λ k. Contains (groups_of e) k) (sym none.0) (none_in e)
