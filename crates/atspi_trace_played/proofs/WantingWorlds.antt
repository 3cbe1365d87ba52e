-- What it wants stays so where others act, at bytes that complete no message, at calls of its own, and at its start.
use Rattle.std.proofs.Common.{◌≡◌, ◌⊎◌, inl, inr, ℕ, suc, ◌+◌, Bool, true, false, List, [], ◌∷◌, ◌++◌, Option, Some, refl, sym, ap, ◌∙◌, subst}
use Rattle.std.specs.Prelude.{option_map}
use Rattle.std.specs.List.{AllByRecursion}
use Rattle.std.proofs.lemmas.List.{append-nil}
use Rattle.atspi_names.specs.Owners.{unique_name}
use Rattle.atspi_script_lines.specs.declared.line.Line.{Line}
use Rattle.atspi_script_lines.specs.declared.line.Party.{Party}
use Rattle.atspi_script_lines.specs.declared.line.Party.TheVariants.{App, Reader}
use Rattle.atspi_message.specs.Envelope.{Envelope}
use Rattle.atspi_protocol.specs.declared.news.part.PartName.{PartName}
use Rattle.atspi_protocol.specs.declared.following.question.Question.{Question}
use Rattle.atspi_protocol.specs.declared.following.question.Question.TheVariants.{Hello, GetPart}
use Rattle.atspi_protocol.specs.following.Known.{is_connection}
use Rattle.atspi_protocol.specs.following.Calls.{user_call}
use Rattle.atspi_protocol.specs.following.ReaderState.{Followed, Pending, ReaderState}
use Rattle.atspi_protocol.specs.following.Takes.{reader_calls}
use Rattle.atspi_trace.specs.Entry.{Entry, sent, got}
use Rattle.atspi_trace.specs.World.{here, Role, the_registry, an_application, a_reader, Hearer, End, World}
use Rattle.atspi_trace.specs.Ends.{same_party, party_at, end_at, with_end}
use Rattle.atspi_trace.specs.Causes.{Done, calls, called, on_end, reader_sends, does, at_end}
use Rattle.atspi_trace.specs.Due.{asks_as, asks_at}
use Rattle.atspi_trace_laws.specs.laws.Words.{name_in}
use Rattle.atspi_trace_caches.specs.settled.Laws.{IsPartAsked}
use Rattle.atspi_trace_laws.proofs.OfOrder.Parties.{no_none, same_some, false_true}
use Rattle.atspi_trace_laws.proofs.OfOrder.Frame.{with_cases}
use Rattle.atspi_trace_laws.proofs.OfOrder.Each.{all_map}
use Rattle.atspi_trace_laws.proofs.OfNames.Places.{first_at, greeted, told_is, greeted_more}
use Rattle.atspi_trace_laws.proofs.OfSigned.Mail.{told_more}
use Rattle.atspi_trace_caches.proofs.OfServed.ListingTold.{Embedded}
use Rattle.atspi_trace_caches.proofs.OfSettled.Settling_ground.{embedded_app}
use Rattle.atspi_trace.specs.play.Playing.{silent}
use Rattle.atspi_trace_played.proofs.Facts.{Ground, IsGone, IsOfApp, PartWaits, WantsOf, IsKnownOrGone, WantsWell}
use Rattle.atspi_trace_played.proofs.Pieces.{Skips, WantsAsked, WantsMoved, WantsFirst, WantsCalled}
use Rattle.atspi_trace_played.proofs.WantingGround.{shape, known, live}
use Rattle.atspi_trace_played.proofs.WantingGone.{gone_more}
use Rattle.atspi_trace_played.proofs.WantingParts.{NoGot, no_got_load, part_more}
use Rattle.atspi_trace_played.proofs.WantingEach.{name_before}

-- a name that was told is told behind more entries
pub name_more : (es ys : List Entry) (a : ℕ) (name : List ℕ) → name_in es (App a) ≡ Some name → name_in (es ++ ys) (App a) ≡ Some name
name_more es ys a name h = told_is (es ++ ys) (App a) ∙ told_more es ys (App a) name (sym (told_is es (App a)) ∙ h)

-- ENDS THAT KEEP who they are
pub record IsAlike (e d : End) : Type 0 where
  pub whose : d.who ≡ e.who
  pub unique : d.unique ≡ e.unique
  pub standing : d.standing ≡ e.standing

pub gone_alike : (w : World) (ends : List End) (conn : ℕ) (f : End → End) (name : List ℕ) → ends ≡ with_end conn f w.ends → ((e : End) → IsAlike e (f e)) → IsGone w name → (v : World) → v.ends ≡ ends → IsGone v name
gone_alike w ends conn f name is alike gone v are = record { nobody = nobody }
  where
    nobody : (k a : ℕ) (d : End) → end_at v.ends k ≡ Some d → d.who ≡ App a → d.standing ≡ here → d.unique ≡ Some name → ⊥
    nobody k a d there whose on has =
        let x = with_cases f w.ends conn k d (ap (λ l. end_at l k) (sym (are ∙ is)) ∙ there) in
        by x.0 x.1 x.2
      where
        by : (e : End) → end_at w.ends k ≡ Some e → (((k ≡ conn) × (d ≡ f e)) ⊎ ((k ≡ conn → ⊥) × (d ≡ e))) → ⊥
        by e at (inl y) =
            gone.nobody k a e at (sym (alike e).whose ∙ ap (λ (z : End). z.who) (sym y.1) ∙ whose) (sym (alike e).standing ∙ ap (λ (z : End). z.standing) (sym y.1) ∙ on)
            (sym (alike e).unique ∙ ap (λ (z : End). z.unique) (sym y.1) ∙ has)
        by e at (inr y) = gone.nobody k a e at (ap (λ (z : End). z.who) (sym y.1) ∙ whose) (ap (λ (z : End). z.standing) (sym y.1) ∙ on) (ap (λ (z : End). z.unique) (sym y.1) ∙ has)

pub asks_alike : (m : Envelope) (question : Question) (e : End) → IsAlike e (asks_at m question e)
asks_alike m question e = by e.role
  where
    by : (role : Role) → IsAlike e (asks_as role m question e)
    by (a_reader h) = record { whose = refl; unique = refl; standing = refl }
    by (the_registry s) = record { whose = refl; unique = refl; standing = refl }
    by (an_application s) = record { whose = refl; unique = refl; standing = refl }

-- OVER ENTRIES IN WHICH IT TAKES NOTHING, with names that are the same, or told of applications that had them
module _ (es ys : List Entry) (r : ℕ) (h : Hearer) (skips : AllByRecursion (NoGot r) ys) where
  parts_over : (a : ℕ) (name : List ℕ) (refused : List (List ℕ × PartName)) → AllByRecursion (λ (y : List ℕ × PartName). IsPartAsked es r a name y.0 y.1) refused
      → AllByRecursion (λ (y : List ℕ × PartName). IsPartAsked (es ++ ys) r a name y.0 y.1) refused
  parts_over a name refused p =
      all_map (λ (y : List ℕ × PartName). IsPartAsked es r a name y.0 y.1) (λ (y : List ℕ × PartName). IsPartAsked (es ++ ys) r a name y.0 y.1) refused
      (λ y part. part_more es ys r a name y.0 y.1 (no_got_load es ys r a skips) part) p

  pub wants_same : (name_back : (a : ℕ) (name : List ℕ) → name_in (es ++ ys) (App a) ≡ Some name → name_in es (App a) ≡ Some name) (f : Followed) → WantsOf es r h f → WantsOf (es ++ ys) r h f
  wants_same name_back f i = record { parts = λ a is. parts_over a f.name f.refused (i.parts a (name_back a f.name is)); held = i.held }

  pub wants_over : (script : List Line) (v : World) (after : Option ℕ) → Ground script (es ++ ys) v after → (f : Followed) → WantsOf es r h f → IsOfApp es f → WantsOf (es ++ ys) r h f
  wants_over script v after g f i of = record {
    parts = λ a is.
        let same : App of.app ≡ App a = name_before script es ys v after g a of.app f.name of.its_name is in
        parts_over a f.name f.refused (i.parts a (subst (λ q. name_in es q ≡ Some f.name) same of.its_name));
    held = i.held;
  }

  pub waits_over : (pending : Option Pending) → PartWaits es r pending → PartWaits (es ++ ys) r pending
  waits_over pending f p is name path part q = let x = f p is name path part q in (x.0, name_more es ys x.0 name x.1, part_more es ys r x.0 name path part (no_got_load es ys r x.0 skips) x.2)

-- names that are known, asked for or gone
pub named_over : (w v : World) (s : ReaderState) (h : Hearer) (names : List (List ℕ)) → ((name : List ℕ) → IsGone w name → IsGone v name) → AllByRecursion (λ name. is_connection name ≡ true → IsKnownOrGone w s h name) names
    → AllByRecursion (λ name. is_connection name ≡ true → IsKnownOrGone v s h name) names
named_over w v s h [] f a = tt
named_over w v s h (name ∷ names) f a = ((λ is. by (a.0 is)), named_over w v s h names f a.1)
  where
    by : IsKnownOrGone w s h name → IsKnownOrGone v s h name
    by (inl k) = inl k
    by (inr (inl asked)) = inr (inl asked)
    by (inr (inr gone)) = inr (inr (f name gone))

named_listed : (w v : World) (s : ReaderState) (h : Hearer) (es : List Entry) (names : List (List ℕ)) → AllByRecursion (Embedded es) names → ((name : List ℕ) → Embedded es name → IsGone w name → IsGone v name)
    → AllByRecursion (λ name. is_connection name ≡ true → IsKnownOrGone w s h name) names → AllByRecursion (λ name. is_connection name ≡ true → IsKnownOrGone v s h name) names
named_listed w v s h es [] l f a = tt
named_listed w v s h es (name ∷ names) l f a = ((λ is. by (a.0 is)), named_listed w v s h es names l.1 f a.1)
  where
    by : IsKnownOrGone w s h name → IsKnownOrGone v s h name
    by (inl k) = inl k
    by (inr (inl asked)) = inr (inl asked)
    by (inr (inr gone)) = inr (inr (f name l.0 gone))

skips_got : (r : ℕ) (ys : List Entry) → AllByRecursion (Skips r) ys → AllByRecursion (NoGot r) ys
skips_got r [] a = tt
skips_got r (y ∷ ys) a = (by y a.0, skips_got r ys a.1)
  where
    by : (y : Entry) → Skips r y → NoGot r y
    by (got taker sender serial) h = h
    by y h = tt

zipped : (P Q : Followed → Type 0) (l : List Followed) → AllByRecursion P l → AllByRecursion Q l → AllByRecursion (λ f. P f × Q f) l
zipped P Q [] a b = tt
zipped P Q (f ∷ fs) a b = ((a.0, b.0), zipped P Q fs a.1 b.1)

-- OVER WHATEVER OTHERS WROTE
pub wants_any : (script more : List Line) (es ys : List Entry) (w v : World) (free after : Option ℕ) (conn r : ℕ) (e : End) (h : Hearer) (s : ReaderState) → Ground script es w free → Ground more (es ++ ys) v after
    → AllByRecursion (Skips r) ys → end_at w.ends conn ≡ Some e → e.who ≡ Reader r → e.role ≡ a_reader h → AllByRecursion (IsOfApp es) s.apps → WantsWell es w r h s → WantsWell (es ++ ys) v r h s
wants_any script more es ys w v free after conn r e h s g k skips there whose role of i = record {
  each =
      all_map (λ f. WantsOf es r h f × IsOfApp es f) (WantsOf (es ++ ys) r h) s.apps (λ f p. wants_over es ys r h (skips_got r ys skips) more v after k f p.0 p.1)
      (zipped (WantsOf es r h) (IsOfApp es) s.apps i.each of);
  named =
      named_listed w v s h es h.named (((known script es w free g).listed (live script es w free g)).readers conn e h there role).named
      (λ name told gone.
      let a = embedded_app es w (shape script es w free g) (known script es w free g) name told in
      gone_more script more es ys w v free after g k name a.0 a.1 gone) i.named;
  asking = waits_over es ys r h (skips_got r ys skips) s.pending i.asking;
  idle = i.idle;
}

-- AT BYTES that complete no message
pub wants_moved : WantsMoved
wants_moved script es w v r h s g (inl same) i = subst (λ u. WantsWell es u r h s) (sym same) i
wants_moved script es w v r h s g (inr (inl m)) i = record {
  each = i.each;
  named = named_over w v s h h.named (λ name gone. gone_alike w (with_end m.conn (λ e. record e { up_moved = e.up_moved + m.count }) w.ends) m.conn (λ e. record e { up_moved = e.up_moved + m.count }) name refl
      (λ e. record { whose = refl; unique = refl; standing = refl }) gone v (ap (λ (u : World). u.ends) m.after)) i.named;
  asking = i.asking;
  idle = i.idle;
}
wants_moved script es w v r h s g (inr (inr m)) i = record {
  each = i.each;
  named = named_over w v s h h.named (λ name gone. gone_alike w (with_end m.conn (λ e. record e { down_moved = e.down_moved + m.count }) w.ends) m.conn (λ e. record e { down_moved = e.down_moved + m.count }) name refl
      (λ e. record { whose = refl; unique = refl; standing = refl }) gone v (ap (λ (u : World). u.ends) m.after)) i.named;
  asking = i.asking;
  idle = i.idle;
}

-- AT A CALL OF ANOTHER'S OWN
pub name_sent : (es : List Entry) (who : Party) (m : Envelope) (a : ℕ) (name : List ℕ) → name_in (es ++ sent who m ∷ []) (App a) ≡ Some name → name_in es (App a) ≡ Some name
name_sent es who m a name h = told_is es (App a) ∙ ap (λ l. name_of l) (sym (greeted_more es (sent who m ∷ []) ∙ append-nil (greeted es))) ∙ sym (told_is (es ++ sent who m ∷ []) (App a)) ∙ h
  where
    name_of : List Party → Option (List ℕ)
    name_of l = option_map (λ n. unique_name (suc n)) (first_at (same_party (App a)) l)

pub wants_asked : WantsAsked
wants_asked script es w conn k r m question h s g a differ i = record {
  each = all_map (WantsOf es r h) (WantsOf (es ++ sent (Reader k) m ∷ []) r h) s.apps (λ f p. wants_same es (sent (Reader k) m ∷ []) r h (tt, tt) (name_sent es (Reader k) m) f p) i.each;
  named = named_over w (at_end w conn (asks_at m question)) s h h.named
      (λ name gone. gone_alike w (with_end conn (asks_at m question) w.ends) conn (asks_at m question) name refl (asks_alike m question) gone (at_end w conn (asks_at m question)) refl) i.named;
  asking = waits_over es (sent (Reader k) m ∷ []) r h (tt, tt) s.pending i.asking;
  idle = i.idle;
}

-- AT ITS START
pub wants_first : WantsFirst
wants_first script es w g after = record {
  each = tt;
  named = tt;
  asking = λ p is name path part q. absurd (false_true (ap is_part (ap (λ (x : Pending). x.question) (same_some (record { serial = 1; question = Hello }) p is) ∙ q)));
  idle = λ none. absurd (no_none (record { serial = 1; question = Hello }) (sym none));
}
  where
    is_part : Question → Bool
    is_part (GetPart name path part) = true
    is_part q = false

-- AT A CALL OF ITS USER'S
pub wants_called : WantsCalled
wants_called script es w conn r name node deed e h s g after at whose role i =
    subst (λ ys. WantsWell (es ++ ys) (does w (calls conn name node deed)).world r (record h { next = suc h.next }) (silent (reader_calls s name node deed))) (sym entries_are)
    (record {
      each = all_map (WantsOf es r h) (WantsOf (es ++ sent (party_at w.ends conn) m ∷ []) r (record h { next = suc h.next })) s.apps
          (λ f p. let q = wants_same es (sent (party_at w.ends conn) m ∷ []) r h (tt, tt) (name_sent es (party_at w.ends conn) m) f p in record { parts = q.parts; held = q.held }) i.each;
      named = named_over w (does w (calls conn name node deed)).world s h h.named
          (λ n gone. gone_alike w (with_end conn put w.ends) conn put n refl (λ e. record { whose = refl; unique = refl; standing = refl }) gone (does w (calls conn name node deed)).world (ap (λ (d : Done). d.world.ends) done_is)) i.named;
      asking = waits_over es (sent (party_at w.ends conn) m ∷ []) r h (tt, tt) s.pending i.asking;
      idle = i.idle;
    })
  where
    m : Envelope
    m = user_call h.next name node deed

    put : End → End
    put e = reader_sends (record h { next = suc h.next }) (user_call h.next name node deed) e

    done_is : does w (calls conn name node deed) ≡ called w conn name node deed (a_reader h)
    done_is = ap (λ o. on_end w o (λ e. called w conn name node deed e.role)) at.there ∙ ap (called w conn name node deed) role

    entries_are : (does w (calls conn name node deed)).entries ≡ sent (party_at w.ends conn) m ∷ []
    entries_are = ap (λ (d : Done). d.entries) done_is
