-- What the registry sends meets the rules of messages.
use Rattle.std.proofs.Common.{◌≡◌, ◌≢◌, ℕ, ℤ, pos, negsuc, ◌+◌, Bool, true, false, ◌==◌, cond, List, [], ◌∷◌, ◌++◌, map, fold, length, Option, None, Some, refl, arith}
use Rattle.std.specs.Prelude.{slice_get, codes, bytes_eq, encode_utf8_all, Result, Ok, Err}
use Rattle.std.specs.List.{list_any}
use Rattle.atspi_types.specs.Kinds.{text, variant, kind, no_kinds, structure, u32}
use Rattle.atspi_types.specs.Data.{Data, number_data, text_data, structure_data, items_of, entries_of, type_of, AreWellTyped, IsWellTyped, AllHaveType, AllHaveTypes}
use Rattle.atspi_message.specs.Envelope.{Envelope}
use Rattle.atspi_message.specs.Rules.{MeetsRules}
use Rattle.atspi_protocol.specs.ends.Places.{reference, reference_kind, references, registry_root}
use Rattle.atspi_protocol.specs.ends.Messages.{Reply, returns, fails, call_to, signal_of, return_to, error_to, reply_to, expects_reply, replies, numbered}
use Rattle.atspi_protocol.specs.members.Asked.{Asked, asked, calls, gets, gets_all, sets}
use Rattle.atspi_protocol.specs.members.Arguments.{text_at, signed_at}
use Rattle.atspi_protocol.specs.members.Table.{PropertyLine}
use Rattle.atspi_protocol.specs.declared.members.member.ObjectMember.{ObjectMember}
use Rattle.atspi_protocol.specs.declared.members.member.ObjectMember.TheVariants as members
use Rattle.atspi_protocol.specs.declared.members.property.ObjectProperty.{ObjectProperty}
use Rattle.atspi_protocol.specs.declared.members.property.ObjectProperty.TheVariants as property_names
use Rattle.atspi_protocol.specs.registering.RegistryState.{RegistryState, is_of, has_pair, without_pair, pairs_of, pairs_without, child_place}
use Rattle.atspi_protocol.specs.registering.Told.{registered, deregistered, children_changed, is_asked_for}
use Rattle.atspi_protocol.specs.registering.Answers.{Answer, only, registers, deregisters, reference_in, new_child, adopts, news_of_removal_at, news_of_removal, releases, if_own, pairs_data, child_or_nobody, child_at, property_data, as_variant, all_properties, answers_member, answers, object_at}
use Rattle.atspi_protocol.specs.registering.Steps.{Registry, RegistryStep, speaks, answer_to, answered, called_by, named, hears, takes_as, registry_takes, takes, name_told, name_gone}
use Rattle.atspi_protocol.specs.registry_laws.Sends.{AllMeet, AreNumbered, started}

-- with any serial but 0 the message meets the rules
abbrev MaySend : Envelope → Type 0
MaySend e = (n : ℕ) → n ≢ 0 → MeetsRules (record e { serial = n })

abbrev AllMaySend : List Envelope → Type 0
AllMaySend [] = Unit {0}
AllMaySend (e ∷ es) = MaySend e × AllMaySend es

call_may : (destination path interface member : List ℕ) (body : List Data) → AreWellTyped (items_of body) → MaySend (call_to destination path interface member body)
call_may destination path interface member body typed n some = record {
  typed = λ e. absurd (omega (arith, e));
  required = record {
    call = λ e. (refl, refl);
    return_ = λ e. absurd (omega (arith, e));
    error = λ e. absurd (omega (arith, e));
    signal = λ e. absurd (omega (arith, e));
  };
  numbered = some;
  replies = tt;
  body = typed;
}

signal_may : (path interface member : List ℕ) (body : List Data) → AreWellTyped (items_of body) → MaySend (signal_of path interface member body)
signal_may path interface member body typed n some = record {
  typed = λ e. absurd (omega (arith, e));
  required = record {
    call = λ e. absurd (omega (arith, e));
    return_ = λ e. absurd (omega (arith, e));
    error = λ e. absurd (omega (arith, e));
    signal = λ e. (refl, refl, refl);
  };
  numbered = some;
  replies = tt;
  body = typed;
}

return_may : (caller : List ℕ) (serial : ℕ) (values : List Data) → serial ≢ 0 → AreWellTyped (items_of values) → MaySend (return_to caller serial values)
return_may caller serial values replied typed n some = record {
  typed = λ e. absurd (omega (arith, e));
  required = record {
    call = λ e. absurd (omega (arith, e));
    return_ = λ e. refl;
    error = λ e. absurd (omega (arith, e));
    signal = λ e. absurd (omega (arith, e));
  };
  numbered = some;
  replies = replied;
  body = typed;
}

error_may : (caller : List ℕ) (serial : ℕ) (word : List ℕ) → serial ≢ 0 → MaySend (error_to caller serial word)
error_may caller serial word replied n some = record {
  typed = λ e. absurd (omega (arith, e));
  required = record {
    call = λ e. absurd (omega (arith, e));
    return_ = λ e. absurd (omega (arith, e));
    error = λ e. (refl, refl);
    signal = λ e. absurd (omega (arith, e));
  };
  numbered = some;
  replies = replied;
  body = (tt, tt);
}

-- lists
both_may : (es fs : List Envelope) → AllMaySend es → AllMaySend fs → AllMaySend (es ++ fs)
both_may [] fs a b = b
both_may (e ∷ es) fs a b = (a.0, both_may es fs a.1 b)

both_meet : (es fs : List Envelope) → AllMeet es → AllMeet fs → AllMeet (es ++ fs)
both_meet [] fs a b = b
both_meet (e ∷ es) fs a b = (a.0, both_meet es fs a.1 b)

numbered_meet : (n : ℕ) (es : List Envelope) → n ≢ 0 → AllMaySend es → AllMeet (numbered n es)
numbered_meet n [] some m = tt
numbered_meet n (e ∷ es) some m = (m.0 n some, numbered_meet (n + 1) es (λ z. absurd (omega (arith, z))) m.1)

-- the values of a reply are well typed
abbrev IsTyped : Reply → Type 0
IsTyped (returns values) = AreWellTyped (items_of values)
IsTyped (fails word) = Unit {0}

reply_may : (caller : List ℕ) (serial : ℕ) (reply : Reply) → serial ≢ 0 → IsTyped reply → MaySend (reply_to caller serial reply)
reply_may caller serial (returns values) some typed = return_may caller serial values some typed
reply_may caller serial (fails word) some typed = error_may caller serial word some

replies_may : (caller : List ℕ) (e : Envelope) (reply : Reply) → e.serial ≢ 0 → IsTyped reply → AllMaySend (replies caller e reply)
replies_may caller e reply some typed = by (expects_reply e)
  where
    by : (b : Bool) → AllMaySend (cond b (reply_to caller e.serial reply ∷ []) [])
    by true = (reply_may caller e.serial reply some typed, tt)
    by false = tt

-- what an answer sends can be sent
record IsFit (a : Answer) : Type 0 where
  before : AllMaySend a.before
  reply : IsTyped a.reply
  behind : AllMaySend a.behind

only_fit : (s : RegistryState) (reply : Reply) → IsTyped reply → IsFit (only s reply)
only_fit s reply typed = record { before = tt; reply = typed; behind = tt }

registered_may : (pair : List ℕ × List ℕ) → MaySend (registered pair)
registered_may pair = signal_may _ _ _ _ (tt, (tt, tt))

deregistered_may : (pair : List ℕ × List ℕ) → MaySend (deregistered pair)
deregistered_may pair = signal_may _ _ _ _ (tt, (tt, tt))

children_changed_may : (minor : List ℕ) (index : ℕ) (child : List ℕ × List ℕ) → MaySend (children_changed minor index child)
children_changed_may minor index child = signal_may _ _ _ _ (tt, (tt, (tt, (((tt, (tt, tt)), refl, (tt, (tt, tt))), ((tt, tt, tt), tt)))))

news_may : (minor : List ℕ) (pairs : List (List ℕ × List ℕ)) (index : ℕ) (child : List ℕ × List ℕ) → AllMaySend (cond (is_asked_for pairs minor) (children_changed minor index child ∷ []) [])
news_may minor pairs index child = by (is_asked_for pairs minor)
  where
    by : (b : Bool) → AllMaySend (cond b (children_changed minor index child ∷ []) [])
    by true = (children_changed_may minor index child, tt)
    by false = tt

removal_may_at : (pairs : List (List ℕ × List ℕ)) (i : ℕ) (child : Option (List ℕ × List ℕ)) → AllMaySend (news_of_removal_at pairs i child)
removal_may_at pairs i None = tt
removal_may_at pairs i (Some child) = news_may (codes "remove") pairs i child

removal_may : (pairs children : List (List ℕ × List ℕ)) (place : Option ℕ) → AllMaySend (news_of_removal pairs children place)
removal_may pairs children None = tt
removal_may pairs children (Some i) = removal_may_at pairs i (slice_get children i)

registers_fit : (s : RegistryState) (caller pattern : List ℕ) → IsFit (registers s caller pattern)
registers_fit s caller pattern = by (has_pair s.pairs caller pattern)
  where
    by : (b : Bool) → IsFit (cond b (only s (returns [])) (record (only s (returns [])) { pairs = s.pairs ++ (caller, pattern) ∷ []; before = registered (caller, pattern) ∷ [] }))
    by true = only_fit s (returns []) tt
    by false = record { before = (registered_may (caller, pattern), tt); reply = tt; behind = tt }

deregisters_fit : (s : RegistryState) (caller pattern : List ℕ) → IsFit (deregisters s caller pattern)
deregisters_fit s caller pattern = by (has_pair s.pairs caller pattern)
  where
    by : (b : Bool) → IsFit (cond b (record (only s (returns [])) { pairs = without_pair s.pairs caller pattern; before = deregistered (caller, pattern) ∷ [] }) (only s (returns [])))
    by true = record { before = (deregistered_may (caller, pattern), tt); reply = tt; behind = tt }
    by false = only_fit s (returns []) tt

new_child_fits : (s : RegistryState) (child : List ℕ × List ℕ) → IsFit (new_child s child)
new_child_fits s child = record {
  before = tt;
  reply = ((tt, (tt, tt)), tt);
  behind = (call_may _ _ _ _ _ (tt, (tt, ((tt, refl, tt), tt))), news_may (codes "add") s.pairs (length s.children) child);
}

adopts_fit : (s : RegistryState) (child : List ℕ × List ℕ) → IsFit (adopts s child)
adopts_fit s child = by (list_any (is_of child.0) s.children)
  where
    by : (b : Bool) → IsFit (cond b (only s (returns (registry_root ∷ []))) (new_child s child))
    by true = only_fit s (returns (registry_root ∷ [])) ((tt, (tt, tt)), tt)
    by false = new_child_fits s child

releases_fit : (s : RegistryState) (caller : List ℕ) → IsFit (releases s caller)
releases_fit s caller = record { before = removal_may s.pairs s.children (child_place s.children caller); reply = tt; behind = tt }

own_fits : (s : RegistryState) (caller : List ℕ) (r : List ℕ × List ℕ) (a : Answer) → IsFit a → IsFit (if_own s caller r a)
own_fits s caller r a fit = by (bytes_eq (encode_utf8_all r.0) caller)
  where
    by : (b : Bool) → IsFit (cond b a (only s (fails (codes "InvalidArgs"))))
    by true = fit
    by false = only_fit s (fails (codes "InvalidArgs")) tt

-- values
pairs_typed : (pairs : List (List ℕ × List ℕ)) → IsWellTyped (pairs_data pairs)
pairs_typed pairs = ((tt, (tt, tt)), all pairs)
  where
    all : (ps : List (List ℕ × List ℕ)) → AllHaveType (structure (kind text (kind text no_kinds))) (items_of (map (λ (p : List ℕ × List ℕ). structure_data (items_of (text_data p.0 ∷ text_data p.1 ∷ []))) ps))
    all [] = tt
    all (p ∷ ps) = (refl, (tt, (tt, tt)), all ps)

references_typed : (rs : List (List ℕ × List ℕ)) → IsWellTyped (references rs)
references_typed rs = ((tt, (tt, tt)), all rs)
  where
    all : (rs : List (List ℕ × List ℕ)) → AllHaveType reference_kind (items_of (map (λ (r : List ℕ × List ℕ). reference r.0 r.1) rs))
    all [] = tt
    all (r ∷ rs) = (refl, (tt, (tt, tt)), all rs)

child_or_nobody_typed : (own : List ℕ) (child : Option (List ℕ × List ℕ)) → IsWellTyped (child_or_nobody own child)
child_or_nobody_typed own None = (tt, (tt, tt))
child_or_nobody_typed own (Some child) = (tt, (tt, tt))

child_typed : (children : List (List ℕ × List ℕ)) (own : List ℕ) (z : ℤ) → IsWellTyped (child_at children own z)
child_typed children own (negsuc n) = child_or_nobody_typed own None
child_typed children own (pos n) = child_or_nobody_typed own (slice_get children n)

property_typed : (s : RegistryState) (p : ObjectProperty) → IsWellTyped (as_variant (property_data s p))
property_typed s property_names.Name = (tt, refl, tt)
property_typed s property_names.Description = (tt, refl, tt)
property_typed s property_names.Parent = (tt, refl, tt)
property_typed s property_names.ChildCount = (tt, refl, tt)
property_typed s property_names.Locale = (tt, refl, tt)
property_typed s property_names.AccessibleId = (tt, refl, tt)
property_typed s property_names.ToolkitName = (tt, refl, tt)
property_typed s property_names.Version = (tt, refl, tt)
property_typed s property_names.AtspiVersion = (tt, refl, tt)
property_typed s property_names.Id = (tt, refl, tt)
property_typed s property_names.CharacterCount = (tt, refl, tt)
property_typed s property_names.CaretOffset = (tt, refl, tt)
property_typed s property_names.NSelectedChildren = (tt, refl, tt)
property_typed s property_names.NRows = (tt, refl, tt)
property_typed s property_names.NColumns = (tt, refl, tt)
property_typed s property_names.NActions = (tt, refl, tt)

-- a property in a dictionary is a variant
variant_of : (s : RegistryState) (p : ObjectProperty) → type_of (as_variant (property_data s p)) ≡ variant
variant_of s p = refl

all_typed : (s : RegistryState) (ls : List PropertyLine) → IsWellTyped (all_properties s ls)
all_typed s ls = (tt, tt, all ls)
  where
    all : (ls : List PropertyLine) → AllHaveTypes text variant (entries_of (map (λ (l : PropertyLine). (text_data l.name, as_variant (property_data s l.property))) ls))
    all [] = tt
    all (l ∷ ls) = (refl, refl, tt, property_typed s l.property, all ls)

member_fits : (m : ObjectMember) (s : RegistryState) (own caller : List ℕ) (args : List Data) → IsFit (answers_member m s own caller args)
member_fits members.GetChildAtIndex s own caller args = only_fit s (returns (child_at s.children own (signed_at 0 args) ∷ [])) (child_typed s.children own (signed_at 0 args), tt)
member_fits members.GetChildren s own caller args = only_fit s (returns (references s.children ∷ [])) (references_typed s.children, tt)
member_fits members.GetIndexInParent s own caller args = only_fit s (fails (codes "UnknownMethod")) tt
member_fits members.GetRelationSet s own caller args = only_fit s (fails (codes "UnknownMethod")) tt
member_fits members.GetRole s own caller args = only_fit s (returns (number_data u32 14 ∷ [])) (tt, tt)
member_fits members.GetRoleName s own caller args = only_fit s (returns (text_data (codes "desktop frame") ∷ [])) (tt, tt)
member_fits members.GetLocalizedRoleName s own caller args = only_fit s (fails (codes "UnknownMethod")) tt
member_fits members.GetState s own caller args = only_fit s (fails (codes "UnknownMethod")) tt
member_fits members.GetAttributes s own caller args = only_fit s (fails (codes "UnknownMethod")) tt
member_fits members.GetApplication s own caller args = only_fit s (fails (codes "UnknownMethod")) tt
member_fits members.GetInterfaces s own caller args = only_fit s (fails (codes "UnknownMethod")) tt
member_fits members.GetLocale s own caller args = only_fit s (fails (codes "UnknownMethod")) tt
member_fits members.GetItems s own caller args = only_fit s (fails (codes "UnknownMethod")) tt
member_fits members.GetText s own caller args = only_fit s (fails (codes "UnknownMethod")) tt
member_fits members.SetCaretOffset s own caller args = only_fit s (fails (codes "UnknownMethod")) tt
member_fits members.GetCharacterAtOffset s own caller args = only_fit s (fails (codes "UnknownMethod")) tt
member_fits members.GetStringAtOffset s own caller args = only_fit s (fails (codes "UnknownMethod")) tt
member_fits members.GetNSelections s own caller args = only_fit s (fails (codes "UnknownMethod")) tt
member_fits members.GetSelection s own caller args = only_fit s (fails (codes "UnknownMethod")) tt
member_fits members.AddSelection s own caller args = only_fit s (fails (codes "UnknownMethod")) tt
member_fits members.RemoveSelection s own caller args = only_fit s (fails (codes "UnknownMethod")) tt
member_fits members.SetSelection s own caller args = only_fit s (fails (codes "UnknownMethod")) tt
member_fits members.SetTextContents s own caller args = only_fit s (fails (codes "UnknownMethod")) tt
member_fits members.InsertText s own caller args = only_fit s (fails (codes "UnknownMethod")) tt
member_fits members.DeleteText s own caller args = only_fit s (fails (codes "UnknownMethod")) tt
member_fits members.GetSelectedChild s own caller args = only_fit s (fails (codes "UnknownMethod")) tt
member_fits members.SelectChild s own caller args = only_fit s (fails (codes "UnknownMethod")) tt
member_fits members.DeselectChild s own caller args = only_fit s (fails (codes "UnknownMethod")) tt
member_fits members.DeselectSelectedChild s own caller args = only_fit s (fails (codes "UnknownMethod")) tt
member_fits members.IsChildSelected s own caller args = only_fit s (fails (codes "UnknownMethod")) tt
member_fits members.SelectAll s own caller args = only_fit s (fails (codes "UnknownMethod")) tt
member_fits members.ClearSelection s own caller args = only_fit s (fails (codes "UnknownMethod")) tt
member_fits members.GetAccessibleAt s own caller args = only_fit s (fails (codes "UnknownMethod")) tt
member_fits members.GetIndexAt s own caller args = only_fit s (fails (codes "UnknownMethod")) tt
member_fits members.GetRowAtIndex s own caller args = only_fit s (fails (codes "UnknownMethod")) tt
member_fits members.GetColumnAtIndex s own caller args = only_fit s (fails (codes "UnknownMethod")) tt
member_fits members.GetSelectedRows s own caller args = only_fit s (fails (codes "UnknownMethod")) tt
member_fits members.IsRowSelected s own caller args = only_fit s (fails (codes "UnknownMethod")) tt
member_fits members.IsSelected s own caller args = only_fit s (fails (codes "UnknownMethod")) tt
member_fits members.GetName s own caller args = only_fit s (fails (codes "UnknownMethod")) tt
member_fits members.GetDescription s own caller args = only_fit s (fails (codes "UnknownMethod")) tt
member_fits members.GetKeyBinding s own caller args = only_fit s (fails (codes "UnknownMethod")) tt
member_fits members.GetActions s own caller args = only_fit s (fails (codes "UnknownMethod")) tt
member_fits members.DoAction s own caller args = only_fit s (fails (codes "UnknownMethod")) tt
member_fits members.RegisterEvent s own caller args = registers_fit s caller (text_at 0 args)
member_fits members.DeregisterEvent s own caller args = deregisters_fit s caller (text_at 0 args)
member_fits members.GetRegisteredEvents s own caller args = only_fit s (returns (pairs_data s.pairs ∷ [])) (pairs_typed s.pairs, tt)
member_fits members.Embed s own caller args = own_fits s caller (reference_in args) (adopts s (caller, (reference_in args).1)) (adopts_fit s (caller, (reference_in args).1))
member_fits members.Unembed s own caller args = own_fits s caller (reference_in args) (releases s caller) (releases_fit s caller)
member_fits members.Get s own caller args = only_fit s (fails (codes "UnknownMethod")) tt
member_fits members.GetAll s own caller args = only_fit s (fails (codes "UnknownMethod")) tt
member_fits members.Set s own caller args = only_fit s (fails (codes "UnknownMethod")) tt
member_fits members.Ping s own caller args = only_fit s (returns []) tt

answer_fits : (a : Asked) (s : RegistryState) (own caller : List ℕ) → IsFit (answers a s own caller)
answer_fits (calls member args) s own caller = member_fits member s own caller args
answer_fits (gets property) s own caller = only_fit s _ (property_typed s property, tt)
answer_fits (gets_all ls) s own caller = only_fit s _ (all_typed s ls, tt)
answer_fits (sets property d) s own caller = only_fit s _ tt

answer_to_fits : (s : RegistryState) (own caller : List ℕ) (r : Result Asked (List ℕ)) → IsFit (answer_to s own caller r)
answer_to_fits s own caller (Ok a) = answer_fits a s own caller
answer_to_fits s own caller (Err word) = only_fit s (fails word) tt

-- a step that sends only what meets the rules, and goes on with a number that is not 0
record Sends (step : RegistryStep) : Type 0 where
  sent : AllMeet step.sent
  next : step.state.next ≢ 0

speaks_sends : (s : RegistryState) (es : List Envelope) → s.next ≢ 0 → AllMaySend es → Sends (speaks s es)
speaks_sends s es some m = record {
  sent = numbered_meet s.next es some m;
  next = λ z. some (omega (arith, z));
}

answered_sends : (s : RegistryState) (caller : List ℕ) (e : Envelope) (a : Answer) → s.next ≢ 0 → e.serial ≢ 0 → IsFit a → Sends (answered s caller e a)
answered_sends s caller e a some serial fit =
    speaks_sends (record s { pairs = a.pairs; children = a.children; embeds = a.embeds }) (a.before ++ (replies caller e a.reply ++ a.behind)) some
    (both_may a.before (replies caller e a.reply ++ a.behind) fit.before (both_may (replies caller e a.reply) a.behind (replies_may caller e a.reply serial fit.reply) fit.behind))

called_by_sends : (s : RegistryState) (own : List ℕ) (e : Envelope) (caller : Option (List ℕ)) → s.next ≢ 0 → e.serial ≢ 0 → Sends (called_by s own e caller)
called_by_sends s own e None some serial = speaks_sends s [] some tt
called_by_sends s own e (Some caller) some serial =
    let r : Result Asked (List ℕ) = asked (object_at e.path) e.interface e.member e.body in
    answered_sends s caller e (answer_to s own caller r) some serial (answer_to_fits s own caller r)

goodbyes_may : (pairs : List (List ℕ × List ℕ)) → AllMaySend (map deregistered pairs)
goodbyes_may [] = tt
goodbyes_may (p ∷ ps) = (deregistered_may p, goodbyes_may ps)

hears_sends : (s : RegistryState) (name : Option (List ℕ)) → s.next ≢ 0 → Sends (hears s name)
hears_sends s None some = speaks_sends s [] some tt
hears_sends s (Some name) some =
    let gone : List ℕ = encode_utf8_all name in
    let others : List (List ℕ × List ℕ) = pairs_without s.pairs gone in
    let place : Option ℕ = child_place s.children gone in
    speaks_sends _ (map deregistered (pairs_of s.pairs gone) ++ news_of_removal others s.children place) some
    (both_may (map deregistered (pairs_of s.pairs gone)) (news_of_removal others s.children place) (goodbyes_may (pairs_of s.pairs gone)) (removal_may others s.children place))

named_sends : (s : RegistryState) (name : Option (List ℕ)) → s.next ≢ 0 → Sends (named s name)
named_sends s None some = speaks_sends s [] some tt
named_sends s (Some name) some = speaks_sends (record s { own = Some name }) [] some tt

takes_sends : (s : RegistryState) (e : Envelope) (own : Option (List ℕ)) → s.next ≢ 0 → e.serial ≢ 0 → Sends (takes_as s e own)
takes_sends s e None some serial = named_sends s (name_told s.hello e) some
takes_sends s e (Some own) some serial = by (e.kind == 1)
  where
    by : (b : Bool) → Sends (cond b (called_by s own e e.sender) (hears s (name_gone e)))
    by true = called_by_sends s own e e.sender some serial
    by false = hears_sends s (name_gone e) some

-- a registry whose queue meets the rules, and whose next number is not 0
record IsSound (r : Registry) : Type 0 where
  out : AllMeet r.out
  next : r.state.next ≢ 0

starts_sound : IsSound started
starts_sound = record {
  out = (call_may _ _ _ _ [] tt 1 (λ z. absurd (omega (arith, z))), (call_may _ _ _ _ _ (tt, (tt, tt)) 2 (λ z. absurd (omega (arith, z))), (call_may _ _ _ _ _ (tt, tt) 3 (λ z. absurd (omega (arith, z))), tt)));
  next = λ z. absurd (omega (arith, z));
}

takes_sound : (r : Registry) (e : Envelope) → e.serial ≢ 0 → IsSound r → IsSound (takes r e)
takes_sound r e serial sound =
    let s = takes_sends r.state e r.state.own sound.next serial in
    record {
      out = both_meet r.out (registry_takes r.state e).sent sound.out s.sent;
      next = s.next;
    }

all_sound : (taken : List Envelope) (r : Registry) → AreNumbered taken → IsSound r → IsSound (fold takes r taken)
all_sound [] r n sound = sound
all_sound (e ∷ es) r n sound = all_sound es (takes r e) n.1 (takes_sound r e n.0 sound)

pub all_meet : (taken : List Envelope) → AreNumbered taken → AllMeet (fold takes started taken).out
all_meet taken n = (all_sound taken started n starts_sound).out
