-- WHAT IS SEEN, as the whole uses it.
use Rattle.std.proofs.Common.{◌≡◌, ℕ, zero, suc, List, [], ◌∷◌, ◌++◌, Option, None, Some, refl, sym, ap, ◌∙◌, subst}
use Rattle.std.specs.Prelude.{flat_map}
use Rattle.std.specs.List.{AllByRecursion}
use Rattle.atspi_tree_model.specs.Forest.{first_of}
use Rattle.atspi_script_lines.specs.declared.line.Line.{Line}
use Rattle.atspi_script_lines.specs.declared.line.Party.{Party}
use Rattle.atspi_script_lines.specs.declared.line.Party.TheVariants.{Bus as The_bus, Registry, App, Reader}
use Rattle.atspi_message.specs.Envelope.{Envelope}
use Rattle.atspi_protocol.specs.following.Known.{told_end}
use Rattle.atspi_protocol.specs.following.ReaderState.{ReaderState}
use Rattle.atspi_protocol.specs.following.Takes.{reader_takes}
use Rattle.atspi_protocol.specs.news.NewsOf.{or_empty}
use Rattle.atspi_trace.specs.play.Playing.{silent}
use Rattle.atspi_trace.specs.play.Plays.{told}
use Rattle.atspi_trace.specs.Entry.{Entry, got}
use Rattle.atspi_trace.specs.World.{a_reader, Holding, Hearer, Letter, End, World}
use Rattle.atspi_trace.specs.Ends.{same_party, with_end, taken_down, number_if, app_named}
use Rattle.atspi_trace.specs.Hearing.{app_with, ended_entries, without_ended, holds_of, hears_letter, heard_entries}
use Rattle.atspi_trace_laws.specs.laws.Words.{name_in}
use Rattle.atspi_trace_laws.proofs.OfOrder.Parties.{party-same, false_true}
use Rattle.atspi_trace_laws.proofs.OfHeld.Keeping.{ReaderIs}
use Rattle.atspi_trace_laws.proofs.OfTaken.Said.{IsLetter}
use Rattle.atspi_trace_laws.proofs.OfSigned.Mail.{NameIs}
use Rattle.atspi_trace_laws.proofs.OfSigned.Self.{app_name}
use Rattle.atspi_trace_laws.proofs.OfNames.Places.{told_is}
use Rattle.atspi_trace_played.proofs.Facts.{Ground, SeesWell}
use Rattle.atspi_trace_played.proofs.Pieces.{world_behind, entries_behind, spoken, IsNoCall, SeesStep}
use Rattle.atspi_trace_played.proofs.ReplyingStep as letter_step
use Rattle.atspi_trace_played.proofs.SeeingGround.{its, is_name, no_bus_name, one_party, Sender, of_bus, of_end, end_from_bus}
use Rattle.atspi_trace_played.proofs.SeeingChildren.{RootsAreTold, took, Taking, from}
use Rattle.atspi_trace_played.proofs.SeeingBehind.{written_app, written_bus, written_registry, written_reader}
use Rattle.atspi_trace_played.proofs.SeeingStep as step
use Rattle.atspi_trace_played.proofs.SeeingSeen.{IsQuiet}
use Rattle.atspi_trace_played.proofs.SeeingQuiet.{quiet}
use Rattle.atspi_trace_played.proofs.SeeingWishes.{GoesOn, stays, begins_one, wishes_one, next_of}
use Rattle.atspi_trace_played.proofs.SeeingWell.{sees_well}
use Rattle.atspi_trace_played.proofs.SeeingWords.{spoken_all, spoken_last}
use Rattle.atspi_trace_played.proofs.SeeingSpeech.{app_words, read_said}
use Rattle.atspi_trace_played.proofs.SeeingSilence.{no_words, end_words}

-- ENDS that took a letter have the same names
named_same : (conn : ℕ) (name : List ℕ) (ends : List End) → app_named name (with_end conn taken_down ends) ≡ app_named name ends
named_same conn name [] = refl
named_same zero name (e ∷ es) = refl
named_same (suc conn) name (e ∷ es) = ap (first_of (number_if name e.who e.unique)) (named_same conn name es)

with_same : (conn : ℕ) (o : Option (List ℕ)) (ends : List End) → app_with (with_end conn taken_down ends) o ≡ app_with ends o
with_same conn None ends = refl
with_same conn (Some name) ends = named_same conn name ends

holds_app : (h : Hearer) (a : ℕ) (ends others : List End) (letter : Letter) → letter.from ≡ App a → holds_of h ends letter ≡ holds_of h others letter
holds_app h a ends others letter is = rw is refl

holds_bus : (h : Hearer) (ends : List End) (letter : Letter) → letter.from ≡ The_bus → holds_of h ends letter ≡ without_ended (app_with ends (told_end letter.said.message)) h.holds
holds_bus h ends letter is = rw is refl

holds_registry : (h : Hearer) (ends others : List End) (letter : Letter) → letter.from ≡ Registry → holds_of h ends letter ≡ holds_of h others letter
holds_registry h ends others letter is = rw is refl

holds_reader : (h : Hearer) (p : ℕ) (ends others : List End) (letter : Letter) → letter.from ≡ Reader p → holds_of h ends letter ≡ holds_of h others letter
holds_reader h p ends others letter is = rw is refl

module _ (r conn : ℕ) (h : Hearer) (ends : List End) (letter : Letter) where
  abbrev others : List End
  others = with_end conn taken_down ends

  same_by : (p : Party) → letter.from ≡ p → (heard_entries r h others letter ≡ heard_entries r h ends letter) × (holds_of h others letter ≡ holds_of h ends letter)
  same_by (App a) is = (written_app r a h others letter is ∙ sym (written_app r a h ends letter is), holds_app h a others ends letter is)
  same_by The_bus is =
      let same = with_same conn (told_end letter.said.message) ends in (
        written_bus r h others letter is ∙ ap (ended_entries r h) same ∙ sym (written_bus r h ends letter is),
        holds_bus h others letter is ∙ ap (λ o. without_ended o h.holds) same ∙ sym (holds_bus h ends letter is),
      )
  same_by Registry is = (written_registry r h others letter is ∙ sym (written_registry r h ends letter is), holds_registry h others ends letter is)
  same_by (Reader p) is = (written_reader r p h others letter is ∙ sym (written_reader r p h ends letter is), holds_reader h p others ends letter is)

  pub entries_same : heard_entries r h others letter ≡ heard_entries r h ends letter
  entries_same = (same_by letter.from refl).0

  pub hears_same : hears_letter h others letter ≡ hears_letter h ends letter
  hears_same = ap (λ (l : List Holding). record (hears_letter h ends letter) { holds = l }) (same_by letter.from refl).1

-- WHAT IT SPEAKS
module _ (script : List Line) (es : List Entry) (w : World) (r : ℕ) (h : Hearer) (letter : Letter) (s : ReaderState) (t : Taking script es w r h letter s) (readers : ReaderIs es r h) where
  abbrev m : Envelope
  m = letter.said.message

  still : IsQuiet es r h letter
  still = quiet script es w r h letter s t readers

  abbrev read_all : ReaderState
  read_all = step.read_all script es w r h letter s t

  abbrev Whole : Type 0
  Whole = flat_map (told r w.ends) read_all.out ≡ heard_entries r h w.ends letter

  words : Whole
  words = by (from script es w r h letter s t)
    where
      no_end : (caller : List ℕ) → m.sender ≡ Some caller → NameIs es letter.from caller → told_end m ≡ None
      no_end caller some named = nothing (told_end m) refl
        where
          nothing : (o : Option (List ℕ)) → told_end m ≡ o → o ≡ None
          nothing None e = refl
          nothing (Some k) e = absurd (no_bus_name script es w None t.ground letter.from caller named (sym (end_from_bus m k e) ∙ ap or_empty some))

      nobodys : (p : Party) → letter.from ≡ p → ((a : ℕ) → App a ≡ p → ⊥) → (caller : List ℕ) → m.sender ≡ Some caller → NameIs es letter.from caller → (a : ℕ) (x : List ℕ) → name_in es (App a) ≡ Some x → or_empty m.sender ≡ x → ⊥
      nobodys p is apart caller some named a x its_name e =
          apart a (one_party script es w None t.ground (App a) p x (is_name script es w None t.ground (App a) x its_name) (subst (NameIs es p) (sym (ap or_empty some) ∙ e) (subst (λ z. NameIs es z caller) is named)))

      of_party : (p : Party) → letter.from ≡ p → (caller : List ℕ) → m.sender ≡ Some caller → NameIs es letter.from caller → (letter.from ≡ The_bus → ⊥) → IsLetter es letter → Whole
      of_party The_bus is caller some named apart c = absurd (apart is)
      of_party Registry is caller some named apart c =
          no_words script es w r h letter s t still readers (nobodys Registry is (λ a e. false_true (ap (λ z. same_party z Registry) e)) caller some named) (no_end caller some named) (written_registry r h w.ends letter is)
      of_party (Reader p) is caller some named apart c =
          no_words script es w r h letter s t still readers (nobodys (Reader p) is (λ a e. false_true (ap (λ z. same_party z (Reader p)) e ∙ party-same (Reader p))) caller some named) (no_end caller some named)
          (written_reader r p h w.ends letter is)
      of_party (App b) is caller some named apart c =
          app_words script es w r h letter s t still readers b caller (told_is es (App b) ∙ app_name es b caller (subst (λ z. NameIs es z caller) is named)) is c (ap or_empty some)

      by : Sender es letter → Whole
      by (of_end caller some named apart c) = of_party letter.from refl caller some named apart c
      by (of_bus is empty some) = ends (told_end m) refl
        where
          nobody : (a : ℕ) (x : List ℕ) → name_in es (App a) ≡ Some x → or_empty m.sender ≡ x → ⊥
          nobody a x its_name e = no_bus_name script es w None t.ground (App a) x (is_name script es w None t.ground (App a) x its_name) (sym empty ∙ e)

          ends : (o : Option (List ℕ)) → told_end m ≡ o → Whole
          ends None e = no_words script es w r h letter s t still readers nobody e (written_bus r h w.ends letter is ∙ ap (λ z. ended_entries r h (app_with w.ends z)) e)
          ends (Some k) e = end_words script es w r h letter s t still readers nobody is k e

  -- without the call of its own
  same_words : spoken (reader_takes s m).out ≡ read_all.out
  same_words = by (next_of read_all)
    where
      said : AllByRecursion IsNoCall read_all.out
      said = read_said script es w r h letter s t still readers

      by : GoesOn read_all → spoken (reader_takes s m).out ≡ read_all.out
      by (stays e) = ap (λ (z : ReaderState). spoken z.out) e ∙ spoken_all read_all.out said
      by (begins_one question rest is e) = ap (λ (z : ReaderState). spoken z.out) e ∙ spoken_last read_all.out _ said
      by (wishes_one question rest is none e) = ap (λ (z : ReaderState). spoken z.out) e ∙ spoken_last read_all.out _ said

  pub speaks_due : flat_map (told r w.ends) (spoken (reader_takes s m).out) ≡ heard_entries r h w.ends letter
  speaks_due = ap (flat_map (told r w.ends)) same_words ∙ words

  pub sees_after : SeesWell (es ++ took r h w.ends letter) r (silent (reader_takes s m))
  sees_after = sees_well script es w r h letter s t still readers

-- THE STEP, where the registry's children are roots (piece R)
abbrev pub RootsLaw : Type 1
RootsLaw = (script : List Line) (es : List Entry) (w : World) (free : Option ℕ) → Ground script es w free → RootsAreTold es

pub sees_step : RootsLaw → SeesStep
sees_step law script es w conn r e h letter rest s g later x tied replies serials =
    let y : letter_step.Gets w conn r e h letter rest = record { there = x.is_here.there; whose = x.whose; standing = x.is_here.standing; role = x.role; link = x.link } in
    let wrote : entries_behind w conn ≡ took r h w.ends letter =
    letter_step.wrote script es w g conn r e h letter rest y ∙ ap (λ l. got (Reader r) letter.from letter.said.message.serial ∷ l) (entries_same r conn h w.ends letter) in
    let taking : Taking script es w r h letter s = record {
      ground = g;
      conn = conn;
      e = e;
      rest = rest;
      there = x.is_here.there;
      whose = x.whose;
      standing = x.is_here.standing;
      role = x.role;
      link = x.link;
      after = world_behind w conn;
      free = Some conn;
      behind = subst (λ l. Ground script (es ++ l) (world_behind w conn) (Some conn)) wrote later;
      place = conn;
      end = letter_step.its_end script es w g conn r e h letter rest y;
      stands = letter_step.end_after script es w g conn r e h letter rest y;
      hears = ap a_reader (hears_same r conn h w.ends letter);
      asks = tied.asks;
      sees = tied.sees;
      replies = replies;
      roots = law script es w None g;
    } in
    let readers : ReaderIs es r h = (its script es w None g).readers conn r e h x.is_here.there x.whose x.role in (
      speaks_due script es w r h letter s taking readers,
      subst (λ l. SeesWell (es ++ l) r (silent (reader_takes s letter.said.message))) (sym wrote) (sees_after script es w r h letter s taking readers),
    )
