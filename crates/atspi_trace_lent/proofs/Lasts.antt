-- A reader takes a letter: the serials that it noted are those that the trace then says.
use Rattle.std.proofs.Common.{◌≡◌, ◌⊎◌, inl, inr, ℕ, Bool, true, false, List, [], ◌∷◌, ◌++◌, Option, None, Some, refl, sym, ap, ◌∙◌, subst}
use Rattle.std.specs.Prelude.{◌==◌, ◌&&◌, flat_map, if◌then◌else◌}
use Rattle.std.specs.List.{AllByRecursion}
use Rattle.std.proofs.lemmas.Bool.{eq-eqb, eqb-true}
use Rattle.atspi_message.specs.Envelope.{Envelope}
use Rattle.atspi_script_lines.specs.declared.line.Line.{Line}
use Rattle.atspi_script_lines.specs.declared.line.Party.{Party}
use Rattle.atspi_script_lines.specs.declared.line.Party.TheVariants.{Bus as The_bus, Registry, App, Reader}
use Rattle.atspi_protocol.specs.following.Known.{told_end}
use Rattle.atspi_protocol.specs.following.ReaderState.{Done, sends, speaks, tells_end, Followed, ReaderState}
use Rattle.atspi_protocol.specs.following.Takes.{reader_takes}
use Rattle.atspi_protocol.specs.declared.following.question.Question.{Question}
use Rattle.atspi_protocol.specs.news.NewsOf.{or_empty}
use Rattle.atspi_trace.specs.Entry.{Entry, sent, got, spoke, gone}
use Rattle.atspi_trace.specs.World.{Hearer, Letter, End, World}
use Rattle.atspi_trace.specs.Ends.{same_party, app_named}
use Rattle.atspi_trace.specs.Hearing.{question_returned, app_with, heard_entries}
use Rattle.atspi_trace.specs.play.Plays.{of_app, told}
use Rattle.atspi_trace_laws.specs.laws.Words.{name_in}
use Rattle.atspi_trace_laws.proofs.OfOrder.Parties.{same_some, party-same, false_true, all_append}
use Rattle.atspi_trace_laws.proofs.OfHeld.Keeping.{ReaderIs}
use Rattle.atspi_trace_laws.proofs.OfLinks.LawLinks.{NotTaken}
use Rattle.atspi_trace_laws.proofs.OfNames.Places.{told_is}
use Rattle.atspi_trace_laws.proofs.OfSigned.Mail.{NameIs}
use Rattle.atspi_trace_laws.proofs.OfSigned.Self.{app_name}
use Rattle.atspi_trace_laws.proofs.OfTaken.Said.{IsLetter}
use Rattle.atspi_trace_caches.specs.caches.Caches.{followed, follows_after, follows_on, unasked}
use Rattle.atspi_trace_played.proofs.Pieces.{spoken}
use Rattle.atspi_trace_played.proofs.SeeingBehind.{behind_own, behind_other, behind_registry, behind_reader, behind_bus, behind_other_end}
use Rattle.atspi_trace_played.proofs.SeeingChildren.{took, Taking, from}
use Rattle.atspi_trace_played.proofs.SeeingGround.{is_name, no_bus_name, one_party, Sender, of_bus, of_end, end_from_bus, named_is, same_number}
use Rattle.atspi_trace_played.proofs.SeeingReplies.{Brings}
use Rattle.atspi_trace_played.proofs.SeeingSame.{followed_more}
use Rattle.atspi_trace_played.proofs.SeeingStep as step
use Rattle.atspi_trace_played.proofs.SeeingTaken.{same_or}
use Rattle.atspi_trace_lent.proofs.Late.{Late, Found, of_sender, of_another, of_ended, reads_last}

-- what is known of the serial of one that a reader knows by a name
abbrev pub LastsWell : List Entry → ℕ → ReaderState → Type 0
LastsWell es r s = (x : List ℕ) (a : ℕ) → name_in es (App a) ≡ Some x → Found (Late (followed x es r a).last) x s.apps

-- WHAT WAS WRITTEN, without the call of the reader's own
told_follow : (r a : ℕ) (ends : List End) (out : List Done) (early late : List Entry) (f : Followed)
    → follows_on early r a f (flat_map (told r ends) out) ≡ follows_on late r a f (flat_map (told r ends) (spoken out))
told_follow r a ends [] early late f = refl
told_follow r a ends (sends e ∷ out) early late f = told_follow r a ends out (early ++ sent (Reader r) e ∷ []) late f
told_follow r a ends (speaks name line ∷ out) early late f = by (app_named name ends) (told_follow r a ends out)
  where
    by : (o : Option ℕ) → ((xs ys : List Entry) (k : Followed) → follows_on xs r a k (flat_map (told r ends) out) ≡ follows_on ys r a k (flat_map (told r ends) (spoken out)))
        → follows_on early r a f (of_app o (λ app. spoke r app line) ++ flat_map (told r ends) out) ≡ follows_on late r a f (of_app o (λ app. spoke r app line) ++ flat_map (told r ends) (spoken out))
    by None ih = ih early late f
    by (Some app) ih = ih (early ++ spoke r app line ∷ []) (late ++ spoke r app line ∷ []) f
told_follow r a ends (tells_end name ∷ out) early late f = by (app_named name ends) (told_follow r a ends out)
  where
    by : (o : Option ℕ) → ((xs ys : List Entry) (k : Followed) → follows_on xs r a k (flat_map (told r ends) out) ≡ follows_on ys r a k (flat_map (told r ends) (spoken out)))
        → follows_on early r a f (of_app o (λ app. gone r app) ++ flat_map (told r ends) out) ≡ follows_on late r a f (of_app o (λ app. gone r app) ++ flat_map (told r ends) (spoken out))
    by None ih = ih early late f
    by (Some app) ih = ih (early ++ gone r app ∷ []) (late ++ gone r app ∷ []) (if r == r && app == a then unasked f.name else f)

-- nobody says Hello in it, and others take nothing
of_app_all : (P : Entry → Type 0) (o : Option ℕ) (entry : ℕ → Entry) → ((app : ℕ) → P (entry app)) → AllByRecursion P (of_app o entry)
of_app_all P None entry f = tt
of_app_all P (Some app) entry f = (f app, tt)

pub told_all : (P : Entry → Type 0) (r : ℕ) (ends : List End) → ((e : Envelope) → P (sent (Reader r) e)) → ((app : ℕ) (line : List ℕ) → P (spoke r app line)) → ((app : ℕ) → P (gone r app))
    → (out : List Done) → AllByRecursion P (flat_map (told r ends) out)
told_all P r ends f g h [] = tt
told_all P r ends f g h (sends e ∷ out) = (f e, told_all P r ends f g h out)
told_all P r ends f g h (speaks name line ∷ out) =
    all_append P (of_app (app_named name ends) (λ app. spoke r app line)) (flat_map (told r ends) out) (of_app_all P (app_named name ends) (λ app. spoke r app line) (λ app. g app line)) (told_all P r ends f g h out)
told_all P r ends f g h (tells_end name ∷ out) =
    all_append P (of_app (app_named name ends) (λ app. gone r app)) (flat_map (told r ends) out) (of_app_all P (app_named name ends) (λ app. gone r app) h) (told_all P r ends f g h out)

-- WHAT A LETTER DOES
module _ (script : List Line) (es : List Entry) (w : World) (r : ℕ) (h : Hearer) (letter : Letter) (s : ReaderState) (t : Taking script es w r h letter s) (readers : ReaderIs es r h)
    (words : flat_map (told r w.ends) (spoken (reader_takes s letter.said.message).out) ≡ heard_entries r h w.ends letter) (lasts : LastsWell es r s) where
  abbrev m : Envelope
  m = letter.said.message

  abbrev after : ReaderState
  after = reader_takes s m

  abbrev n : List ℕ
  n = or_empty m.sender

  abbrev q : Option Question
  q = question_returned m h.asked

  abbrev wrote : List Entry
  wrote = got (Reader r) letter.from m.serial ∷ flat_map (told r w.ends) after.out

  brings : Brings m s.pending s.registry (step.noted_all script es w r h letter s t).apps q (step.replied_all script es w r h letter s t)
  brings = (step.reply script es w r h letter s t).brings

  -- names are as before
  nobody_greeted : AllByRecursion NotTaken wrote
  nobody_greeted = (tt, told_all NotTaken r w.ends (λ e. tt) (λ app line. tt) (λ app. tt) after.out)

  -- what the trace says is the same without the reader's own call
  same_behind : (x : List ℕ) (a : ℕ) → followed x (es ++ wrote) r a ≡ followed x (es ++ took r h w.ends letter) r a
  same_behind x a =
      followed_more x es wrote r a
      ∙ told_follow r a w.ends after.out (es ++ got (Reader r) letter.from m.serial ∷ []) (es ++ got (Reader r) letter.from m.serial ∷ []) (follows_after es r a (followed x es r a) (got (Reader r) letter.from m.serial))
      ∙ ap (follows_on (es ++ got (Reader r) letter.from m.serial ∷ []) r a (follows_after es r a (followed x es r a) (got (Reader r) letter.from m.serial))) words
      ∙ sym (followed_more x es (took r h w.ends letter) r a)

  module _ (x : List ℕ) (b : ℕ) (its_name : name_in es (App b) ≡ Some x) where
    abbrev now : Followed
    now = followed x (es ++ took r h w.ends letter) r b

    abbrev was : Followed
    was = followed x es r b

    abbrev Goal : Type 0
    Goal = Found (Late now.last) x after.apps

    at_serial : (k : ℕ) → now.last ≡ k → Found (Late k) x after.apps → Goal
    at_serial k same f = subst (λ j. Found (Late j) x after.apps) (sym same) f

    own : letter.from ≡ App b → (c : IsLetter es letter) → n ≡ x → Goal
    own is c mine =
        at_serial m.serial (ap (λ (f : Followed). f.last) (behind_own es r b h w.ends letter x readers is c) ∙ reads_last q c.first was ∙ ap (λ (e : Envelope). e.serial) (sym c.alike)) (of_sender m s q x mine brings)

    another : (n ≡ x → ⊥) → now ≡ was → Goal
    another differ same = at_serial was.last (ap (λ (f : Followed). f.last) same) (of_another m s q x was.last differ brings (lasts x b its_name))

    no_end : (caller : List ℕ) → m.sender ≡ Some caller → NameIs es letter.from caller → told_end m ≡ None
    no_end caller some named = nothing (told_end m) refl
      where
        nothing : (o : Option (List ℕ)) → told_end m ≡ o → o ≡ None
        nothing None e = refl
        nothing (Some k) e = absurd (no_bus_name script es w None t.ground letter.from caller named (sym (end_from_bus m k e) ∙ ap or_empty some))

    nobodys : (p : Party) → letter.from ≡ p → (App b ≡ p → ⊥) → (caller : List ℕ) → m.sender ≡ Some caller → NameIs es letter.from caller → n ≡ x → ⊥
    nobodys p is apart caller some named e =
        apart (one_party script es w None t.ground (App b) p x (is_name script es w None t.ground (App b) x its_name) (subst (NameIs es p) (sym (ap or_empty some) ∙ e) (subst (λ z. NameIs es z caller) is named)))

    of_party : (p : Party) → letter.from ≡ p → (caller : List ℕ) → m.sender ≡ Some caller → NameIs es letter.from caller → (letter.from ≡ The_bus → ⊥) → IsLetter es letter → Goal
    of_party The_bus is caller some named apart c = absurd (apart is)
    of_party Registry is caller some named apart c =
        another (nobodys Registry is (λ e. false_true (ap (λ z. same_party z Registry) e)) caller some named) (behind_registry es r b h w.ends letter x is)
    of_party (Reader p) is caller some named apart c =
        another (nobodys (Reader p) is (λ e. false_true (ap (λ z. same_party z (Reader p)) e ∙ party-same (Reader p))) caller some named) (behind_reader es r b h w.ends letter x p is)
    of_party (App a) is caller some named apart c = by (a == b) refl
      where
        by : (z : Bool) → (a == b) ≡ z → Goal
        by true e =
            let same : letter.from ≡ App b = is ∙ ap App (eqb-true a b e) in
            own same c (ap or_empty some ∙ its (subst (λ p. NameIs es p caller) same named))
          where
            its : NameIs es (App b) caller → caller ≡ x
            its k = same_some caller x (sym (app_name es b caller k) ∙ sym (told_is es (App b)) ∙ its_name)
        by false e =
            let differ : a ≡ b → ⊥ = λ same. false_true (sym e ∙ eq-eqb a b same) in
            another (nobodys (App a) is (λ same. differ (sym (same_number b a same))) caller some named) (behind_other es r b h w.ends letter x a is differ)

    of_sender_ : Sender es letter → Goal
    of_sender_ (of_end caller some named apart c) = of_party letter.from refl caller some named apart c
    of_sender_ (of_bus is empty some) = ends (told_end m) refl
      where
        differ : n ≡ x → ⊥
        differ e = no_bus_name script es w None t.ground (App b) x (is_name script es w None t.ground (App b) x its_name) (sym empty ∙ e)

        other_end : (k : List ℕ) → told_end m ≡ Some k → (k ≡ x → ⊥) → Goal
        other_end k tells apart = another differ (by (app_named k w.ends) refl)
          where
            by : (o : Option ℕ) → app_named k w.ends ≡ o → now ≡ was
            by None e = behind_bus es r b h w.ends letter x is (ap (app_with w.ends) tells ∙ e)
            by (Some a) e =
                behind_other_end es r b h w.ends letter x a is (ap (app_with w.ends) tells ∙ e)
                (λ same. apart (same_some k x (sym (named_is script es w None t.ground k a e) ∙ ap (λ z. name_in es (App z)) same ∙ its_name)))

        its_end : (k : List ℕ) → told_end m ≡ Some k → k ≡ x → Goal
        its_end k tells same = of_ended m s q x (tells ∙ ap Some same) now.last

        ends : (o : Option (List ℕ)) → told_end m ≡ o → Goal
        ends None e = another differ (behind_bus es r b h w.ends letter x is (ap (app_with w.ends) e))
        ends (Some k) e = by (same_or k x)
          where
            by : (k ≡ x) ⊎ (k ≡ x → ⊥) → Goal
            by (inl same) = its_end k e same
            by (inr apart) = other_end k e apart

    goal : Goal
    goal = of_sender_ (from script es w r h letter s t)

  -- THE SERIALS BEHIND IT
  pub lasts_after : LastsWell (es ++ wrote) r after
  lasts_after x a named =
      let before : name_in es (App a) ≡ Some x = sym (step.name_was es wrote (App a) nobody_greeted) ∙ named in
      subst (λ (f : Followed). Found (Late f.last) x after.apps) (sym (same_behind x a)) (goal x a before)
