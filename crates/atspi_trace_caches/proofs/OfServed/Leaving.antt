-- Nothing that the registry takes takes a pair away of a reader that is here: no reader takes a pattern back, and the news that a name is nobody's tells of a well-known name or of who left.
use Rattle.std.proofs.Common.{◌≡◌, ◌⊎◌, inl, inr, ℕ, suc, ◌+◌, ◌/◌, ◌%◌, ◌^◌, ◌<◌, ◌≤◌, ltb, cond, Bool, true, false, List, [], ◌∷◌, ◌++◌, length, Option, None, Some, refl, sym, ap, ap₂, ◌∙◌, subst, arith}
use Rattle.std.specs.Prelude.{◌==◌, ◌&&◌, bytes_eq, codes, decimal, encode_utf8_all, option_map, if◌then◌else◌}
use Rattle.std.specs.List.{AllByRecursion}
use Rattle.std.proofs.lemmas.Bool.{eqb-true, lt-ltb}
use Rattle.std.proofs.lemmas.Fmt.{decimal_by_steps}
use Rattle.std.proofs.lemmas.Slice.Eq.{bytes_eq-Decides}
use lib.Utf8.{encode}
use Rattle.atspi_types.specs.Data.{Data, text_data}
use Rattle.atspi_base.specs.valid_names.Names.{is_unique_name}
use Rattle.atspi_script_lines.specs.declared.line.Party.{Party}
use Rattle.atspi_script_lines.specs.declared.line.Party.TheVariants.{Bus as The_bus, Reader}
use Rattle.atspi_message.specs.Envelope.{Envelope}
use Rattle.atspi_names.specs.Owners.{own_name, unique_name}
use Rattle.atspi_protocol.specs.ends.Places.{bus}
use Rattle.atspi_protocol.specs.news.NewsOf.{or_empty}
use Rattle.atspi_protocol.specs.members.Asked.{is_text}
use Rattle.atspi_protocol.specs.registering.Steps.{is_from_bus, name_gone}
use Rattle.atspi_protocol.specs.following.Known.{told_end}
use Rattle.atspi_trace.specs.Entry.{Entry}
use Rattle.atspi_trace.specs.World.{here, End, World}
use Rattle.atspi_trace.specs.Ends.{is_here, same_party, end_at}
use Rattle.atspi_trace.specs.Causes.{Done}
use Rattle.atspi_trace_laws.specs.laws.Words.{message}
use Rattle.atspi_trace_laws.specs.missed.Laws.{TakesAway}
use Rattle.atspi_trace_laws.proofs.OfOrder.Parties.{no_none, same_some, false_true, all_append}
use Rattle.atspi_trace_laws.proofs.OfOrder.Shape.{Shape}
use Rattle.atspi_trace_laws.proofs.OfOrder.Effects.{RegistryTakes}
use Rattle.atspi_trace_laws.proofs.OfNames.Places.{first_at, first_below, greeted}
use Rattle.atspi_trace_laws.proofs.OfNames.LawNames.{Named}
use Rattle.atspi_trace_laws.proofs.OfSigned.Mail.{NameIs, IsMail}
use Rattle.atspi_trace_laws.proofs.OfSigned.Self.{unique_told, one_named}
use Rattle.atspi_trace_laws.proofs.OfSigned.LawMail.{Mail}
use Rattle.atspi_trace_laws.proofs.OfMissed.Returning.{not_the_bus}
use Rattle.atspi_trace_laws.proofs.OfEnds.News.{IsPlain}
use Rattle.atspi_trace_laws.proofs.OfEnds.Ordered.{NotFrom, Ordered, AwayAs}
use Rattle.atspi_trace_laws.proofs.OfEnds.LawEnds.{Ends_told, away_named}
use Rattle.atspi_trace_caches.proofs.OfServed.Spelling.{IsCall, Spelled, call_of}

-- A READER THAT IS HERE
pub record IsPresent (w : World) (r : ℕ) : Type 0 where
  pub conn : ℕ
  pub e : End
  pub there : end_at w.ends conn ≡ Some e
  pub whose : e.who ≡ Reader r
  pub standing : e.standing ≡ here

-- NAMES AS TEXT: a unique name is written as it is spelled
abbrev Low : ℕ → Type 0
Low c = c < 128

encode_low : (c : ℕ) → c < 128 → encode c ≡ c ∷ []
unfolding encode
encode_low c h = rw (lt-ltb c 128 h) refl

all_low : (cs : List ℕ) → AllByRecursion Low cs → encode_utf8_all cs ≡ cs
all_low [] a = refl
all_low (c ∷ cs) a = ap₂ (λ (x y : List ℕ). x ++ y) (encode_low c a.0) (all_low cs a.1)

low_digit : (d : ℕ) → d < 10 → 48 + d < 128
low_digit d h = omega (arith, h)

low_digits : (n : ℕ) → n < 2 ^ 64 → AllByRecursion Low (decimal n)
low_digits n h =
    decimal_by_steps (λ n ds. AllByRecursion Low ds) (λ n small. (low_digit n small, tt)) (λ n ds big e. all_append Low ds ((48 + n % 10) ∷ []) e (low_digit (n % 10) (omega arith), tt)) n h

low_front : (58 < 128) × (49 < 128) × (46 < 128)
low_front = (omega arith, omega arith, omega arith)

wide : (i n : ℕ) → i < n → n ≤ 1000 → suc i < 2 ^ 64
wide i n a b = omega (arith, a, b)

name_low : (n : ℕ) → n < 2 ^ 64 → AllByRecursion Low (unique_name n)
name_low n h = (low_front.0, (low_front.1, (low_front.2, low_digits n h)))

first_name_low : AllByRecursion Low (codes ":1.0")
first_name_low = (low_front.0, (low_front.1, (low_front.2, (low_digit 0 (omega arith), tt))))

pub name_spelled : (es : List Entry) (who : Party) (name : List ℕ) → length (greeted es) ≤ 1000 → NameIs es who name → encode_utf8_all name ≡ name
name_spelled es who name few (inl r) = all_low name (subst (AllByRecursion Low) (sym r.1) first_name_low)
name_spelled es who name few (inr h) = by (first_at (same_party who) (greeted es)) refl h
  where
    by : (o : Option ℕ) → first_at (same_party who) (greeted es) ≡ o → option_map (λ n. unique_name (suc n)) o ≡ Some name → encode_utf8_all name ≡ name
    by None g k = absurd (no_none name k)
    by (Some i) g k =
        all_low name (subst (AllByRecursion Low) (same_some (unique_name (suc i)) name k) (name_low (suc i) (wide i (length (greeted es)) (first_below (same_party who) (greeted es) i g) few)))

-- and only a unique name is written as one
high_byte : (a x : ℕ) → 192 ≤ a → ((a + x) == 58) ≡ true → ⊥
high_byte a x h e = let same : a + x ≡ 58 = eqb-true (a + x) 58 e in absurd (omega (arith, h, same))

high : (d f : Bool) (x y z : ℕ) (xs ys zs rest : List ℕ) → is_unique_name (cond d ((192 + x) ∷ xs) (cond f ((224 + y) ∷ ys) ((240 + z) ∷ zs)) ++ rest) ≡ true → ⊥
high true f x y z xs ys zs rest h = high_byte 192 x (omega arith) h
high false true x y z xs ys zs rest h = high_byte 224 y (omega arith) h
high false false x y z xs ys zs rest h = high_byte 240 z (omega arith) h

pub unique_written : (name : List ℕ) → is_unique_name (encode_utf8_all name) ≡ true → is_unique_name name ≡ true
unfolding encode
unique_written [] h = h
unique_written (c ∷ cs) h = by (ltb c 128) h
  where
    by : (b : Bool)
        → is_unique_name (cond b (c ∷ []) (cond (ltb c 2048) ((192 + c / 64) ∷ (128 + c % 64) ∷ []) (cond (ltb c 65536) ((224 + c / 4096) ∷ (128 + c / 64 % 64) ∷ (128 + c % 64) ∷ []) ((240 + c / 262144) ∷ (128 + c / 4096 % 64) ∷ (128 + c / 64 % 64) ∷ (128 + c % 64) ∷ []))) ++ encode_utf8_all cs)
        ≡ true
        → (c == 58) ≡ true
    by true k = k
    by false k =
        absurd (high (ltb c 2048) (ltb c 65536) (c / 64) (c / 4096) (c / 262144) ((128 + c % 64) ∷ []) ((128 + c / 64 % 64) ∷ (128 + c % 64) ∷ []) ((128 + c / 4096 % 64) ∷ (128 + c / 64 % 64) ∷ (128 + c % 64) ∷ []) (encode_utf8_all cs) k)

-- THE NEWS as the registry reads it is what a reader reads as an end
text_same : (o : Option (List ℕ)) (t : List ℕ) → bytes_eq [] t ≡ false → is_text o t ≡ bytes_eq (or_empty o) t
text_same None t h = sym h
text_same (Some f) t h = refl

abbrev reads_gone : Envelope → Bool
reads_gone e = e.kind == 4 && (is_from_bus e && (is_text e.interface bus && is_text e.member (codes "NameOwnerChanged")))

abbrev reads_end : Envelope → Bool
reads_end e = e.kind == 4 && (bytes_eq (or_empty e.sender) bus && (bytes_eq (or_empty e.interface) bus && bytes_eq (or_empty e.member) (codes "NameOwnerChanged")))

reads_same : (e : Envelope) → reads_gone e ≡ reads_end e
reads_same e =
    ap₂ (λ a b. (e.kind == 4) && (a && b)) (text_same e.sender bus refl) (ap₂ (λ a b. a && b) (text_same e.interface bus refl) (text_same e.member (codes "NameOwnerChanged") refl))

none_both : {A : Type 0} (a b : Bool) → ◌≡◌ {A = Option A} (if a then None else None) (if b then None else None)
none_both true true = refl
none_both true false = refl
none_both false true = refl
none_both false false = refl

pub told_same : (e : Envelope) (body : List Data) → name_gone (record e { body = body }) ≡ told_end (record e { body = body })
told_same e (text_data name ∷ (text_data before ∷ (text_data [] ∷ []))) = ap (λ b. if b then Some name else None) (reads_same e)
told_same e body = none_both (reads_gone e) (reads_end e)

is_read : (b : Bool) (o : Option (List ℕ)) (name : List ℕ) → (if b then o else None) ≡ Some name → b ≡ true
is_read true o name h = refl
is_read false o name h = absurd (no_none name h)

and_left : (a b : Bool) → (a && b) ≡ true → a ≡ true
and_left true b h = refl
and_left false b h = absurd (false_true h)

and_right : (a b : Bool) → (a && b) ≡ true → b ≡ true
and_right true b h = h
and_right false b h = absurd (false_true h)

pub gone_from : (e : Envelope) (name : List ℕ) → name_gone e ≡ Some name → is_text e.sender bus ≡ true
gone_from e name h =
    and_left (is_text e.sender bus) (is_text e.interface bus && is_text e.member (codes "NameOwnerChanged"))
    (and_right (e.kind == 4) (is_from_bus e && (is_text e.interface bus && is_text e.member (codes "NameOwnerChanged"))) (is_read (reads_gone e) _ name h))

-- NOTHING IS TAKEN AWAY
not_own : (u : List ℕ) → is_unique_name u ≡ true → u ≡ own_name → ⊥
not_own u unique same = false_true (ap is_unique_name (sym same) ∙ unique)

module _ (es : List Entry) (w : World) (d : Done) (s : Shape w) (n : Named es w) (few : length (greeted es) ≤ 1000) (mail : Mail es w) (told : Ends_told es w) (spelled : Spelled es w) (b : RegistryTakes w d) where
  abbrev m : Envelope
  m = b.letter.said.message

  its_mail : IsMail es b.e.who b.letter
  its_mail = (subst (AllByRecursion (IsMail es b.e.who)) b.link (mail.downs b.conn b.e b.is_here.there b.is_here.standing)).0

  news : Ordered (AwayAs w.ends) (b.letter ∷ b.rest)
  news = subst (Ordered (AwayAs w.ends)) b.link (told.told.links b.conn b.e b.is_here.there)

  text_is : (o : Option (List ℕ)) (u : List ℕ) → o ≡ Some u → is_text o own_name ≡ true → u ≡ own_name
  text_is o u h t = (bytes_eq-Decides u own_name).0 (ap (λ z. is_text z own_name) (sym h) ∙ t)

  -- no call of a reader's takes one back
  none_back : (r : ℕ) (u : List ℕ) → NameIs es (Reader r) u → m.member ≡ Some (codes "DeregisterEvent") → m.sender ≡ Some u → ⊥
  none_back r u has member sender = by its_mail
    where
      by : IsMail es b.e.who b.letter → ⊥
      by (inl p) = not_own u (unique_told es (Reader r) u has) (text_is m.sender u sender p.own)
      by (inr p) =
          let same : p.caller ≡ u = same_some p.caller u (sym p.sender ∙ sender) in
          let from : b.letter.from ≡ Reader r = one_named es b.letter.from (Reader r) u few (subst (NameIs es b.letter.from) same p.name) has in
          let call : IsCall p.first.message = call_of es w r p.first.message.serial p.first.message spelled (ap (λ q. message es q p.first.message.serial) (sym from) ∙ p.sent_.was) in
          false_true (sym call.only.no_pattern_back ∙ ap (λ o. is_text o (codes "DeregisterEvent")) (sym (ap (λ z. z.message.member) p.alike) ∙ member))

  not_away : (r : ℕ) → IsPresent w r → (who : Party) (name : List ℕ) → AwayAs w.ends who name → who ≡ Reader r → ⊥
  not_away r p who name x is =
      let at : x.conn ≡ p.conn = s.one x.conn p.conn x.e p.e x.there p.there (x.whose ∙ is ∙ sym p.whose) in
      let same : x.e ≡ p.e = same_some x.e p.e (sym x.there ∙ ap (end_at w.ends) at ∙ p.there) in
      false_true (sym (ap is_here x.out) ∙ ap (λ (y : End). is_here y.standing) same ∙ ap is_here p.standing)

  from_bus : (name : List ℕ) → name_gone m ≡ Some name → b.letter.from ≡ The_bus
  from_bus name h = by its_mail
    where
      by : IsMail es b.e.who b.letter → b.letter.from ≡ The_bus
      by (inl p) = p.from
      by (inr p) = absurd (false_true (sym (ap (λ o. is_text o own_name) p.sender ∙ not_the_bus p.caller (unique_told es b.letter.from p.caller p.name)) ∙ gone_from m name h))

  none_gone : (r : ℕ) (u : List ℕ) → NameIs es (Reader r) u → IsPresent w r → (name : List ℕ) → name_gone m ≡ Some name → u ≡ encode_utf8_all name → ⊥
  none_gone r u has p name h same = by (news.0 (from_bus name h) name (sym (told_same m m.body) ∙ h))
    where
      unique : is_unique_name u ≡ true
      unique = unique_told es (Reader r) u has

      by : IsPlain name ⊎ ((who : Party) × AwayAs w.ends who name × AllByRecursion (NotFrom who) b.rest) → ⊥
      by (inl plain) = false_true (sym plain ∙ unique_written name (ap is_unique_name (sym same) ∙ unique))
      by (inr x) =
          let its : NameIs es x.0 name = away_named es w n mail x.0 name x.1 in
          let is : u ≡ name = same ∙ name_spelled es x.0 name few its in
          not_away r p x.0 name x.1 (one_named es x.0 (Reader r) name few its (subst (NameIs es (Reader r)) is has))

  pub none_away : (r : ℕ) (u pattern : List ℕ) → NameIs es (Reader r) u → IsPresent w r → TakesAway m (u, pattern) → ⊥
  none_away r u pattern has p (inl back) = none_back r u has back.1 back.2
  none_away r u pattern has p (inr gone) = none_gone r u has p gone.0 gone.1 gone.2
