-- All names that readers were told as those of applications are of such as embedded, along a lawful trace.
use Rattle.std.proofs.Common.{◌≡◌, ◌⊎◌, inl, inr, ℕ, zero, suc, ◌+◌, ◌≤◌, Bool, true, false, List, [], ◌∷◌, ◌++◌, length, Option, Some, refl, sym, ap, ◌∙◌, subst, arith}
use Rattle.std.specs.List.{AllByRecursion}
use Rattle.std.proofs.lemmas.List.{append-nil}
use Rattle.atspi_script_lines.specs.declared.limits.TheConstants.{QUOTA_MOST}
use Rattle.atspi_script_lines.specs.declared.line.Party.TheVariants.{Registry, App, Reader}
use Rattle.atspi_message.specs.Envelope.{Envelope}
use Rattle.atspi_protocol.specs.ends.Places.{registry}
use Rattle.atspi_protocol.specs.following.Calls.{asking}
use Rattle.atspi_protocol.specs.declared.following.question.Question.{Question}
use Rattle.atspi_protocol.specs.declared.following.question.Question.TheVariants.{Hello, GetChildren}
use Rattle.atspi_trace.specs.Entry.{Entry, sent}
use Rattle.atspi_trace.specs.World.{Asked, a_reader, Hearer, first_registry, first_world, End, World}
use Rattle.atspi_trace.specs.Ends.{same_party, end_at}
use Rattle.atspi_trace.specs.Hearing.{question_in}
use Rattle.atspi_trace.specs.Causes.{Done, at_end, asks}
use Rattle.atspi_trace.specs.Due.{asks_as, asks_at}
use Rattle.atspi_trace_laws.specs.laws.Words.{message}
use Rattle.atspi_trace_laws.proofs.OfOrder.Parties.{no_none, same_some, false_true}
use Rattle.atspi_trace_laws.proofs.OfOrder.Allowed.{MovedUp, MovedDown, Asks}
use Rattle.atspi_trace_laws.proofs.OfOrder.Frame.{Over, IsOrder, over_with, over_at}
use Rattle.atspi_trace_laws.proofs.OfOrder.Along.{Keeps}
use Rattle.atspi_trace_laws.proofs.OfOrder.Growing.{Grows, Shaped, Nothing, And, grown}
use Rattle.atspi_trace_laws.proofs.OfOrder.Each.{all_map}
use Rattle.atspi_trace_laws.proofs.OfOwn.Writing.{Lives, lived}
use Rattle.atspi_trace_laws.proofs.OfTaken.Found.{found_more}
use Rattle.atspi_trace_laws.proofs.OfReaders.Fates.{FateIs, Fated, hello_read, both_keep}
use Rattle.atspi_trace_laws.proofs.OfNames.LawNames.{NamedAt, Named}
use Rattle.atspi_trace_laws.proofs.OfNames.LawEnds.{few_greeted}
use Rattle.atspi_trace_laws.proofs.OfNames.Places.{greeted}
use Rattle.atspi_trace_laws.proofs.OfSigned.Mail.{NameIs, IsMail}
use Rattle.atspi_trace_laws.proofs.OfSigned.Self.{unique_told, one_named}
use Rattle.atspi_trace_laws.proofs.OfSigned.LawMail.{Mail}
use Rattle.atspi_trace_laws.proofs.OfMissed.Ruled.{RulesOf, Ruled}
use Rattle.atspi_trace_laws.proofs.OfMissed.Delivering.{Delivers}
use Rattle.atspi_trace_laws.proofs.OfMissed.LawMissed.{Under_delivered, delivers_keep}
use Rattle.atspi_trace_caches.proofs.OfServed.Spelling.{Spelled, call_of, spelled_keep}
use Rattle.atspi_trace_caches.proofs.OfServed.Returned.{Fits, Rightly, returned_by, Under_rightly, rightly_keeps}
use Rattle.atspi_trace_caches.proofs.OfServed.Facts.{Embeds, IsListed, AllListed}
use Rattle.atspi_trace_caches.proofs.OfServed.ListingTold.{Embedded, Listed, SameHeard, same_heard, is_reader_role, question_of_call, first_listed}
use Rattle.atspi_trace_caches.proofs.OfServed.ListingLaw.{ReturnsChildren, sends_same, caused_listed, moved_listed, asks_listed}

-- WHO HAS SUCH A NAME embedded
no_registry : (a : ℕ) (e : End) → e.who ≡ App a → e.who ≡ Registry → ⊥
no_registry a e who is = false_true (ap (λ p. same_party p Registry) (sym who ∙ is))

is_listed : (es : List Entry) (w : World) (name : List ℕ) → length (greeted es) ≤ 1000 → Named es w → Embedded es name → IsListed es w.ends name
is_listed es w name few named i = (unique_told es i.who name i.has, λ k a e there who unique. embeds k a e there who unique)
  where
    its_name : (k a : ℕ) (e : End) → end_at w.ends k ≡ Some e → e.who ≡ App a → e.unique ≡ Some name → NameIs es (App a) name
    its_name k a e there who unique =
        let at : NamedAt es w.bus.state.owners k e = named.ends k e there in
        subst (λ p. NameIs es p name) who (inr (sym (at.known (no_registry a e who)) ∙ unique))

    embeds : (k a : ℕ) (e : End) → end_at w.ends k ≡ Some e → e.who ≡ App a → e.unique ≡ Some name → Embeds es a
    embeds k a e there who unique =
        let same : i.who ≡ App a = one_named es i.who (App a) name few i.has (its_name k a e there who unique) in
        record { call = i.call; serial = i.serial; was = subst (λ p. message es p i.serial ≡ Some i.call) same i.was; is_call = i.is_call; member = i.member }

pub all_listed : (es : List Entry) (w : World) → length (greeted es) ≤ 1000 → Named es w → (Lives es → Listed es w) → AllListed es w
all_listed es w few named i live k e h there role = all_map (Embedded es) (IsListed es w.ends) h.named (λ name x. is_listed es w name few named x) ((i live).readers k e h there role).named

-- ENDS WITH THE SAME NAMES, that were told the same
abbrev SameNames : End → End → Type 0
SameNames e d = (d.who ≡ e.who) × (d.unique ≡ e.unique) × SameHeard e d

same_names : IsOrder SameNames
same_names = record {
  same = λ e. (refl, refl, same_heard.same e);
  both = λ e d c f g. (g.0 ∙ f.0, g.1 ∙ f.1, same_heard.both e d c f.2 g.2);
}

embeds_more : (es ys : List Entry) (a : ℕ) → Embeds es a → Embeds (es ++ ys) a
embeds_more es ys a i = record { call = i.call; serial = i.serial; was = found_more es ys (App a) i.serial i.call i.was; is_call = i.is_call; member = i.member }

listed_over : (es ys : List Entry) (a b : List End) (name : List ℕ) → Over SameNames a b → IsListed es a name → IsListed (es ++ ys) b name
listed_over es ys a b name o i = (
  i.0,
  λ k app d there who unique. let x = o.back k d there in embeds_more es ys app (i.1 k app x.0 x.1 (sym x.2.0 ∙ who) (sym x.2.1 ∙ unique)),
)

all_over : (es ys : List Entry) (w v : World) → AllListed es w → Over SameNames w.ends v.ends → AllListed (es ++ ys) v
all_over es ys w v i o live k d h there role =
    let x = o.back k d there in
    let g = x.2.2 h role in
    subst (AllByRecursion (IsListed (es ++ ys) v.ends)) (sym g.3)
    (all_map (IsListed es w.ends) (IsListed (es ++ ys) v.ends) g.0.named (λ name y. listed_over es ys w.ends v.ends name o y) (i (lived es ys live) k x.0 g.0 x.1 g.1))

moved_all : (es : List Entry) (w v : World) → AllListed es w → (MovedUp w v ⊎ MovedDown w v) → AllListed es v
moved_all es w v i (inl m) =
    subst (λ l. AllListed l v) (append-nil es) (all_over es [] w v i
    (subst (λ (x : World). Over SameNames w.ends x.ends) (sym m.after)
    (over_with SameNames same_names (λ e. record e { up_moved = e.up_moved + m.count }) (λ e. (refl, refl, λ h role. (h, role, refl, refl))) m.conn w.ends)))
moved_all es w v i (inr m) =
    subst (λ l. AllListed l v) (append-nil es) (all_over es [] w v i
    (subst (λ (x : World). Over SameNames w.ends x.ends) (sym m.after)
    (over_with SameNames same_names (λ e. record e { down_moved = e.down_moved + m.count }) (λ e. (refl, refl, λ h role. (h, role, refl, refl))) m.conn w.ends)))

asked_all : (es : List Entry) (w : World) (conn r : ℕ) (m : Envelope) (question : Question) → AllListed es w → Asks w conn r m question → AllListed (es ++ sent (Reader r) m ∷ []) (at_end w conn (asks_at m question))
asked_all es w conn r m question i a =
    all_over es (sent (Reader r) m ∷ []) w (at_end w conn (asks_at m question)) i
    (over_at SameNames same_names (asks_at m question) conn w.ends a.asker a.is_here.there
    (subst (λ x. SameNames a.asker (asks_as x m question a.asker)) (sym a.reader) (refl, refl, (sends_same a.hearer (asks question a.hearer) m a.asker a.reader refl refl).1)))

-- at the beginning nobody reads
no_reader_first : (quota k : ℕ) (e : End) (h : Hearer) → end_at (first_world quota).ends k ≡ Some e → e.role ≡ a_reader h → ⊥
no_reader_first quota zero e h there role = false_true (ap is_reader_role (ap (λ (x : End). x.role) (same_some first_registry e there) ∙ role))
no_reader_first quota (suc k) e h there role = no_none e there

-- WHO RETURNS THE REGISTRY'S CHILDREN: the registry, since the call went to its name
both_all : {X : Type 0} (P Q : X → Type 0) (xs : List X) → AllByRecursion P xs → AllByRecursion Q xs → AllByRecursion (λ x. P x × Q x) xs
both_all P Q [] a b = tt
both_all P Q (x ∷ xs) a b = ((a.0, b.0), both_all P Q xs a.1 b.1)

-- it is no Hello, which alone has the number 1
two_of : (n : ℕ) → 1 ≤ n → (n ≡ 1 → ⊥) → 2 ≤ n
two_of zero one other = absurd (omega (arith, one))
two_of (suc zero) one other = absurd (other refl)
two_of (suc (suc n)) one other = omega arith

abbrev is_children : Option Question → Bool
is_children (Some GetChildren) = true
is_children o = false

pub returns_children : (es : List Entry) (w : World) (d : Done) → length (greeted es) ≤ 1000 → Mail es w → Fated es w → Ruled es w → Rightly es w → Spelled es w → Lives es → ReturnsChildren w d
returns_children es w d few mail fated ruled rightly spelled live b is =
    returned_by es (Reader b.reader) b.letter few its_mail its_fits its.3 its.0.serial its.4 more its.1.0.first its.1.0.was to
  where
    rules : RulesOf es w.bus.state.rules b.conn b.reader b.e b.hearer
    rules = ruled live b.conn b.reader b.e b.hearer b.is_here.there b.whose b.role b.is_here.standing

    -- the call that is answered
    its : (a : Asked) × (FateIs es b.reader a × (1 ≤ a.serial)) × (a.question ≡ GetChildren) × (b.letter.said.message.kind ≡ 2) × (b.letter.said.message.reply ≡ Some a.serial)
    its =
        question_of_call (λ (a : Asked). FateIs es b.reader a × (1 ≤ a.serial)) b.letter.said.message b.hearer.asked GetChildren
        (both_all (FateIs es b.reader) (λ (a : Asked). 1 ≤ a.serial) b.hearer.asked (fated live b.conn b.reader b.e b.hearer b.is_here.there b.whose b.role) rules.serials) is

    read : question_in its.1.0.first ≡ Some GetChildren
    read = its.1.0.read ∙ ap Some its.2

    no_hello : its.0.serial ≡ 1 → ⊥
    no_hello one =
        let same : its.1.0.first ≡ asking 1 Hello = same_some its.1.0.first (asking 1 Hello) (sym its.1.0.was ∙ ap (message es (Reader b.reader)) one ∙ rules.hello) in
        false_true (ap is_children (sym hello_read ∙ ap question_in (sym same) ∙ read))

    more : 2 ≤ its.0.serial
    more = two_of its.0.serial its.1.1 no_hello

    to : its.1.0.first.destination ≡ Some registry
    to = ap (λ (m : Envelope). m.destination) ((call_of es w b.reader its.0.serial its.1.0.first spelled its.1.0.was).spelled GetChildren read)

    its_mail : IsMail es (Reader b.reader) b.letter
    its_mail = subst (λ p. IsMail es p b.letter) b.whose (subst (AllByRecursion (IsMail es b.e.who)) b.link (mail.downs b.conn b.e b.is_here.there b.is_here.standing)).0

    its_fits : Fits es (Reader b.reader) b.letter
    its_fits = subst (λ p. Fits es p b.letter) b.whose (subst (AllByRecursion (Fits es b.e.who)) b.link (rightly.downs b.conn b.e b.is_here.there b.is_here.standing)).0

-- THE LAYERS
abbrev pub Under_listed : List Entry → World → Type 0
Under_listed es w = And (And Under_delivered Delivers) (And (And Under_rightly Rightly) (And Nothing Spelled)) es w

under_keeps : Keeps (Shaped Under_listed)
under_keeps =
    both_keep (And Under_delivered Delivers) (And (And Under_rightly Rightly) (And Nothing Spelled)) delivers_keep
    (both_keep (And Under_rightly Rightly) (And Nothing Spelled) rightly_keeps spelled_keep)

abbrev pub ListedWhere : List Entry → World → Type 0
ListedWhere es w = Lives es → Listed es w

listed_grow : Grows Under_listed ListedWhere
listed_grow = record {
  begins = λ live. first_listed [] QUOTA_MOST tt;
  caused = λ es w d s u i e after b live.
      let before : Lives es = lived es d.entries live in
      let m = u.0.0.0.1.0 in
      let few : length (greeted es) ≤ 1000 = few_greeted es w m.0.1.1.1 m.0.0.1 in
      caused_listed es w d after few m.1.0 (returns_children es w d few m.1.0 u.0.0.0.0.1 u.0.0.1 u.1.0.1 u.1.1.1 before) (i before) e;
  moved = λ es w v s u i m live. moved_listed es w v (i live) m;
  asked = λ es w conn r m question s u i a live. asks_listed es w conn r m question (i (lived es (sent (Reader r) m ∷ []) live)) a;
}

abbrev pub Under_named : List Entry → World → Type 0
Under_named es w = And Under_listed ListedWhere es w

all_grow : Grows Under_named AllListed
all_grow = record {
  begins = λ live k e h there role. absurd (no_reader_first QUOTA_MOST k e h there role);
  caused = λ es w d s u i e after b.
      let m = b.0.0.0.0.1.0 in
      all_listed (es ++ d.entries) d.world (few_greeted (es ++ d.entries) d.world m.0.1.1.1 m.0.0.1) m.0.1.1.1 b.1;
  moved = λ es w v s u i m. moved_all es w v i m;
  asked = λ es w conn r m question s u i a. asked_all es w conn r m question i a;
}

pub listed_keep : Keeps (Shaped (And Under_named AllListed))
listed_keep = grown Under_named AllListed (grown Under_listed ListedWhere under_keeps listed_grow) all_grow
