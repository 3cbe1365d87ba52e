-- WHAT A READER HEARD OF THE REGISTRY'S CHILDREN: behind the return to its call for them, news of each that came since, which the bus took, stand on its down link, or it knows the name.
use Rattle.std.proofs.Common.{◌≡◌, ◌⊎◌, inl, inr, ℕ, ◌<◌, Bool, true, false, List, [], ◌∷◌, ◌++◌, map, None, Some, refl, sym, ap, ap₂, ◌∙◌, subst}
use Rattle.std.specs.Prelude.{◌==◌, ◌&&◌, bytes_eq, codes, if◌then◌else◌}
use Rattle.std.proofs.lemmas.Bool.{eq-eqb}
use Rattle.std.proofs.lemmas.Slice.Eq.{bytes_eq-Decides}
use Rattle.atspi_script_lines.specs.declared.line.Party.TheVariants.{Registry, Reader}
use Rattle.atspi_message.specs.Envelope.{Envelope}
use Rattle.atspi_tree_model.specs.declared.news.Reference.{Reference}
use Rattle.atspi_protocol.specs.registering.Told.{children_changed}
use Rattle.atspi_protocol.specs.following.ReaderState.{begins as begins_reader}
use Rattle.atspi_protocol.specs.following.Known.{new_child}
use Rattle.atspi_protocol.specs.following.Replied.{is_reply_to}
use Rattle.atspi_trace.specs.Entry.{Entry}
use Rattle.atspi_trace.specs.World.{returned, Asked, Hearer, Letter}
use Rattle.atspi_trace.specs.Hearing.{question_returned, child_name}
use Rattle.atspi_trace_laws.specs.laws.Words.{message}
use Rattle.atspi_trace_laws.proofs.OfOrder.Parties.{no_none}
use Rattle.atspi_trace_laws.proofs.OfLinks.LawLinks.{first_unread}
use Rattle.atspi_trace_laws.proofs.OfTaken.Found.{found_more}
use Rattle.atspi_trace_laws.proofs.OfSigned.Mail.{NameIs, name_more}
use Rattle.atspi_trace_laws.proofs.OfMissed.Arriving.{On}
use Rattle.atspi_trace_caches.proofs.OfServed.Facts.{OnLink}
use Rattle.atspi_trace_caches.proofs.OfSettled.Facts.{IsIn}
use Rattle.atspi_trace_caches.proofs.OfSettled.TellingWords.{HasOne, IsAdd, Names}
use Rattle.atspi_trace_caches.proofs.OfSettled.TellingAsked.{IsWell}

-- WHAT THE BUS TOOK of the registry behind a serial: where it is news of one, they stand on the link, or the name is known
abbrev pub NewsAt : List Entry → List Letter → List (List ℕ) → ℕ → Type 0
NewsAt es ls named n = (m : Envelope) × (message es Registry n ≡ Some m) × ((u : List ℕ) → IsAdd u m → OnLink n ls ⊎ IsIn u named)

abbrev pub AllNewsOf : List Entry → ℕ → List Letter → List (List ℕ) → Type 0
AllNewsOf es base ls named = (n : ℕ) → base < n → n < first_unread es Registry → NewsAt es ls named n

pub record Heard (es : List Entry) (r : ℕ) (h : Hearer) (down : List Letter) (n : ℕ) : Type 0 where
  pub base : ℕ
  pub last : Envelope
  pub was : message es Registry base ≡ Some last
  pub kind : last.kind ≡ 2
  pub caller : List ℕ
  pub to : last.destination ≡ Some caller
  pub name : NameIs es (Reader r) caller
  pub reply : last.reply ≡ Some n
  pub names : (u : List ℕ) → Names u last → IsIn u h.named
  pub behind : AllNewsOf es base down h.named
  pub registry : h.registry ≡ Some (codes ":1.0")

abbrev pub IsReply : Letter → ℕ → Type 0
IsReply l n = (l.from ≡ Registry) × (l.said.message.kind ≡ 2) × (l.said.message.reply ≡ Some n)

pub record Attends (es : List Entry) (r : ℕ) (h : Hearer) (down : List Letter) (n : ℕ) (x : IsWell h.asked n) : Type 0 where
  pub heard : x.one.fate ≡ returned → Heard es r h down n
  pub comes : (l : Letter) → On l down → IsReply l n → AllNewsOf es l.said.message.serial down []

-- NAMES
pub in_front : (u : List ℕ) (xs ys : List (List ℕ)) → IsIn u xs → IsIn u (xs ++ ys)
in_front u [] ys h = absurd h
in_front u (x ∷ xs) ys (inl h) = inl h
in_front u (x ∷ xs) ys (inr h) = inr (in_front u xs ys h)

pub in_back : (u : List ℕ) (xs ys : List (List ℕ)) → IsIn u ys → IsIn u (xs ++ ys)
in_back u [] ys h = h
in_back u (x ∷ xs) ys h = inr (in_back u xs ys h)

pub in_map : (u : List ℕ) (roots : List Reference) → HasOne (λ (root : Reference). root.bus ≡ u) roots → IsIn u (map (λ (root : Reference). root.bus) roots)
in_map u [] h = absurd h
in_map u (x ∷ xs) (inl h) = inl h
in_map u (x ∷ xs) (inr h) = inr (in_map u xs h)

-- MORE ENTRIES, as long as the bus takes nothing of the registry
pub news_more : (es ys : List Entry) (ls : List Letter) (named : List (List ℕ)) (base : ℕ) → first_unread (es ++ ys) Registry ≡ first_unread es Registry → AllNewsOf es base ls named → AllNewsOf (es ++ ys) base ls named
news_more es ys ls named base same b n more less = let x = b n more (subst (λ k. n < k) same less) in (x.0, found_more es ys Registry n x.0 x.1, x.2)

heard_more : (es ys : List Entry) (r : ℕ) (h : Hearer) (down : List Letter) (n : ℕ) → first_unread (es ++ ys) Registry ≡ first_unread es Registry → Heard es r h down n → Heard (es ++ ys) r h down n
heard_more es ys r h down n same i = record {
  base = i.base;
  last = i.last;
  was = found_more es ys Registry i.base i.last i.was;
  kind = i.kind;
  caller = i.caller;
  to = i.to;
  name = name_more es ys (Reader r) i.caller i.name;
  reply = i.reply;
  names = i.names;
  behind = news_more es ys down h.named i.base same i.behind;
  registry = i.registry;
}

-- the same reader with the same calls
pub attends_same : (es ys : List Entry) (r : ℕ) (g h : Hearer) (old down : List Letter) (n : ℕ) → first_unread (es ++ ys) Registry ≡ first_unread es Registry → h.asked ≡ g.asked → h.named ≡ g.named → h.registry ≡ g.registry → down ≡ old
    → ((x : IsWell g.asked n) → Attends es r g old n x) → (x : IsWell h.asked n) → Attends (es ++ ys) r h down n x
attends_same es ys r g h old down n same asked named registry link i x = record {
  heard = λ back.
      let y = heard_more es ys r g old n same ((i was).heard back) in
      record {
        base = y.base;
        last = y.last;
        was = y.was;
        kind = y.kind;
        caller = y.caller;
        to = y.to;
        name = y.name;
        reply = y.reply;
        names = λ u q. subst (IsIn u) (sym named) (y.names u q);
        behind = subst (λ l. AllNewsOf (es ++ ys) y.base l h.named) (sym link) (subst (AllNewsOf (es ++ ys) y.base old) (sym named) y.behind);
        registry = registry ∙ y.registry;
      };
  comes = λ l on reply. subst (λ z. AllNewsOf (es ++ ys) l.said.message.serial z []) (sym link) (news_more es ys old [] l.said.message.serial same ((i was).comes l (subst (On l) link on) reply));
}
  where
    was : IsWell g.asked n
    was = record { early = x.early; one = x.one; late = x.late; are = sym asked ∙ x.are; question = x.question; serial = x.serial; well = x.well }

-- one with more calls, of which this is one that it made before
pub attends_more : (es ys : List Entry) (r : ℕ) (g h : Hearer) (down : List Letter) (n : ℕ) → first_unread (es ++ ys) Registry ≡ first_unread es Registry → h.named ≡ g.named → h.registry ≡ g.registry → (x : IsWell h.asked n) (was : IsWell g.asked n) → was.one ≡ x.one
    → Attends es r g down n was → Attends (es ++ ys) r h down n x
attends_more es ys r g h down n same named registry x was one i = record {
  heard = λ back.
      let y = heard_more es ys r g down n same (i.heard (ap (λ (a : Asked). a.fate) one ∙ back)) in
      record {
        base = y.base;
        last = y.last;
        was = y.was;
        kind = y.kind;
        caller = y.caller;
        to = y.to;
        name = y.name;
        reply = y.reply;
        names = λ u q. subst (IsIn u) (sym named) (y.names u q);
        behind = subst (AllNewsOf (es ++ ys) y.base down) (sym named) y.behind;
        registry = registry ∙ y.registry;
      };
  comes = λ l on reply. news_more es ys down [] l.said.message.serial same (i.comes l on reply);
}

-- THE NEWS OF ONE, as a reader takes it
abbrev pub one_name : List ℕ
one_name = codes ":1.0"

pub add_taken : (u : List ℕ) (m first : Envelope) → IsAdd u first → m ≡ record first { sender = Some one_name } → child_name (new_child (record begins_reader { registry = Some one_name }) m) ≡ u ∷ []
add_taken u m first x is = ap (λ (z : Envelope). child_name (new_child (record begins_reader { registry = Some one_name }) z)) (is ∙ ap (λ (z : Envelope). record z { sender = Some one_name }) x.2) ∙ computed x.0 x.1 first.serial
  where
    own : bytes_eq one_name one_name ≡ true
    own = (bytes_eq-Decides one_name one_name).1 refl

    computed : (index : ℕ) (path : List ℕ) (n : ℕ) → child_name (new_child (record begins_reader { registry = Some one_name }) (record (record (children_changed (codes "add") index (u, path)) { serial = n }) { sender = Some one_name })) ≡ u ∷ []
    computed index path n = refl

pub four_none : (m : Envelope) (asked : List Asked) → m.kind ≡ 4 → question_returned m asked ≡ None
four_none m [] four = refl
four_none m (a ∷ asked) four = ap (λ b. if b && is_reply_to a.serial m.reply then Some a.question else question_returned m asked) (ap (λ k. k == 2) four) ∙ four_none m asked four

-- a return that answers some call
pub answers_some : (m : Envelope) (early late : List Asked) (a : Asked) → m.kind ≡ 2 → m.reply ≡ Some a.serial → question_returned m (early ++ a ∷ late) ≡ None → ⊥
answers_some m [] late a two reply h = no_none a.question (sym h ∙ ap (λ b. if b then Some a.question else question_returned m late) both)
  where
    both : (m.kind == 2 && is_reply_to a.serial m.reply) ≡ true
    both = ap₂ (λ k o. k == 2 && is_reply_to a.serial o) two reply ∙ eq-eqb a.serial a.serial refl
answers_some m (x ∷ xs) late a two reply h = by (m.kind == 2 && is_reply_to x.serial m.reply) h (λ g. answers_some m xs late a two reply g)
  where
    by : (b : Bool) → (if b then Some x.question else question_returned m (xs ++ a ∷ late)) ≡ None → (question_returned m (xs ++ a ∷ late) ≡ None → ⊥) → ⊥
    by true k f = no_none x.question (sym k)
    by false k f = f k
