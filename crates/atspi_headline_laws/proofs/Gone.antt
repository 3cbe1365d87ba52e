-- THE LAW OF EXITS, its second part: a reader tells the end of an application directly behind the bus's news that its name is nobody's, and nowhere
-- else.
use Rattle.std.proofs.Common.{◌≡◌, inl, inr, ℕ, suc, Bool, true, false, List, [], ◌∷◌, ◌++◌, map, Option, None, Some, refl, sym, ap, ap₂, ◌∙◌, subst, arith}
use Rattle.std.specs.Prelude.{◌==◌, ◌&&◌, filter_map, flat_map, option_map, position, bytes_eq, codes, if◌then◌else◌}
use Rattle.std.specs.List.{AllByRecursion, cons_option}
use Rattle.std.proofs.lemmas.Slice.Eq.{bytes_eq-Decides}
use Rattle.std.proofs.lemmas.List.{append-nil}
use Rattle.atspi_types.specs.Data.{Data, number_data, boolean_data, text_data, path_data, signature_data, array_data, structure_data, dictionary_data, variant_data}
use Rattle.atspi_tree_model.specs.Forest.{first_of}
use Rattle.atspi_script_lines.specs.declared.line.Line.{Line}
use Rattle.atspi_script_lines.specs.declared.line.Party.{Party}
use Rattle.atspi_script_lines.specs.declared.line.Party.TheVariants.{Bus as The_bus, Registry, App, Reader}
use Rattle.atspi_message.specs.Envelope.{Envelope}
use Rattle.atspi_names.specs.Owners.{unique_name}
use Rattle.atspi_match.specs.routing.Members.{is_text}
use Rattle.atspi_protocol.specs.ends.Places.{bus}
use Rattle.atspi_protocol.specs.registering.Steps.{is_from_bus, name_gone, registry_takes}
use Rattle.atspi_protocol.specs.exporting.Taking.{app_takes}
use Rattle.atspi_protocol.specs.following.Known.{told_end, ended_name}
use Rattle.atspi_protocol.specs.news.NewsOf.{or_empty}
use Rattle.atspi_trace.specs.Entry.{Entry, sent, got, spoke, gone, busy, quiet}
use Rattle.atspi_trace.specs.World.{here as stands_here, Hearer, Letter, End, World}
use Rattle.atspi_trace.specs.Ends.{number_of, end_at, taken_down, number_if, app_named}
use Rattle.atspi_trace.specs.Carrying as carrying
use Rattle.atspi_trace.specs.Hearing.{app_with, holding_of, lines_if_held, last_lines, ended_entries, heard_entries}
use Rattle.atspi_trace.specs.Causes.{Cause, Done}
use Rattle.atspi_trace.specs.Work.{Work}
use Rattle.atspi_headline.specs.Words as here
use Rattle.atspi_headline.specs.Words.{Act, begins_line, writes, entries_in, ending, is_a, Along, next_of, AreDue, ends, handed, name_of}
use Rattle.atspi_headline.specs.Headline.{is_named, gone_of, gone_with, gone_due}
use Rattle.atspi_trace_laws.proofs.OfOrder.Parties.{no_none, same_some, false_true}
use Rattle.atspi_trace_laws.proofs.OfOrder.Frame.{over_with}
use Rattle.atspi_trace_laws.proofs.OfOrder.Effects.{received}
use Rattle.atspi_trace_laws.proofs.OfOrder.Growing.{Shaped, Nothing, And}
use Rattle.atspi_trace_laws.proofs.OfOwn.Writing.{Lives}
use Rattle.atspi_trace_laws.proofs.OfNames.Places.{name_told, told_is, names_differ}
use Rattle.atspi_trace_laws.proofs.OfNames.LawNames.{SameName, same_name, down_same}
use Rattle.atspi_trace_laws.proofs.OfNames.LawEnds.{few_greeted}
use Rattle.atspi_trace_laws.proofs.OfNames.Bounds.{Fits, Bounded, bounds_keep}
use Rattle.atspi_trace_laws.proofs.OfSigned.Mail.{IsMail}
use Rattle.atspi_headline_laws.proofs.Ran.{Ran}
use Rattle.atspi_headline_laws.proofs.Naming.{name_same}
use Rattle.atspi_headline_laws.proofs.Dues.{IsOwed, Still, still_along, still_writes}
use Rattle.atspi_headline_laws.proofs.Acting.{LineDid, TurnDid, told_busy, told_quiet, bus_took, bus_ended, registry_took, app_took, reader_took}
use Rattle.atspi_headline_laws.proofs.Sorting.{AppSorts, BusSorts, LineSorts, sent_all, app_all, of_bus_all, line_all}
use Rattle.atspi_headline_laws.proofs.Joining.{parties, with_parties}
use Rattle.atspi_headline_laws.proofs.Growing.{Front, Written, still_written, IsLaw, law_along}
use Rattle.atspi_headline_laws.proofs.Handing.{shape, named, mail, name_is, handed_is}

-- THE NEWS, by the registry's words and by those of a reader
text_same : (o : Option (List ℕ)) (first : ℕ) (rest : List ℕ) → is_text o (first ∷ rest) ≡ bytes_eq (or_empty o) (first ∷ rest)
text_same None first rest = refl
text_same (Some field) first rest = refl

-- the two tests are one
is_news : Envelope → Bool
is_news e = e.kind == 4 && (is_from_bus e && (is_text e.interface bus && is_text e.member (codes "NameOwnerChanged")))

is_news_told : Envelope → Bool
is_news_told e = e.kind == 4 && (bytes_eq (or_empty e.sender) bus && (bytes_eq (or_empty e.interface) bus && bytes_eq (or_empty e.member) (codes "NameOwnerChanged")))

tests_same : (e : Envelope) → is_news e ≡ is_news_told e
unfolding is_news is_news_told
tests_same e =
    ap (λ b. e.kind == 4 && b)
    (ap₂ (λ x y. x && y) (text_same e.sender 111 _) (ap₂ (λ x y. x && y) (text_same e.interface 111 _) (text_same e.member 78 _)))

body_same : (e : Envelope) (body : List Data) → name_gone (record e { body = body }) ≡ told_end (record e { body = body })
unfolding is_news is_news_told
body_same e [] = ap (λ b. if b then None else None) (tests_same e)
body_same e (number_data u k ∷ rest) = ap (λ b. if b then None else None) (tests_same e)
body_same e (boolean_data u ∷ rest) = ap (λ b. if b then None else None) (tests_same e)
body_same e (path_data u ∷ rest) = ap (λ b. if b then None else None) (tests_same e)
body_same e (signature_data u ∷ rest) = ap (λ b. if b then None else None) (tests_same e)
body_same e (array_data k u ∷ rest) = ap (λ b. if b then None else None) (tests_same e)
body_same e (structure_data u ∷ rest) = ap (λ b. if b then None else None) (tests_same e)
body_same e (dictionary_data k v u ∷ rest) = ap (λ b. if b then None else None) (tests_same e)
body_same e (variant_data k u ∷ rest) = ap (λ b. if b then None else None) (tests_same e)
body_same e (text_data n ∷ []) = ap (λ b. if b then None else None) (tests_same e)
body_same e (text_data n ∷ (number_data u k ∷ rest)) = ap (λ b. if b then None else None) (tests_same e)
body_same e (text_data n ∷ (boolean_data u ∷ rest)) = ap (λ b. if b then None else None) (tests_same e)
body_same e (text_data n ∷ (path_data u ∷ rest)) = ap (λ b. if b then None else None) (tests_same e)
body_same e (text_data n ∷ (signature_data u ∷ rest)) = ap (λ b. if b then None else None) (tests_same e)
body_same e (text_data n ∷ (array_data k u ∷ rest)) = ap (λ b. if b then None else None) (tests_same e)
body_same e (text_data n ∷ (structure_data u ∷ rest)) = ap (λ b. if b then None else None) (tests_same e)
body_same e (text_data n ∷ (dictionary_data k v u ∷ rest)) = ap (λ b. if b then None else None) (tests_same e)
body_same e (text_data n ∷ (variant_data k u ∷ rest)) = ap (λ b. if b then None else None) (tests_same e)
body_same e (text_data n ∷ (text_data m ∷ [])) = ap (λ b. if b then None else None) (tests_same e)
body_same e (text_data n ∷ (text_data m ∷ (number_data u k ∷ rest))) = ap (λ b. if b then None else None) (tests_same e)
body_same e (text_data n ∷ (text_data m ∷ (boolean_data u ∷ rest))) = ap (λ b. if b then None else None) (tests_same e)
body_same e (text_data n ∷ (text_data m ∷ (path_data u ∷ rest))) = ap (λ b. if b then None else None) (tests_same e)
body_same e (text_data n ∷ (text_data m ∷ (signature_data u ∷ rest))) = ap (λ b. if b then None else None) (tests_same e)
body_same e (text_data n ∷ (text_data m ∷ (array_data k u ∷ rest))) = ap (λ b. if b then None else None) (tests_same e)
body_same e (text_data n ∷ (text_data m ∷ (structure_data u ∷ rest))) = ap (λ b. if b then None else None) (tests_same e)
body_same e (text_data n ∷ (text_data m ∷ (dictionary_data k v u ∷ rest))) = ap (λ b. if b then None else None) (tests_same e)
body_same e (text_data n ∷ (text_data m ∷ (variant_data k u ∷ rest))) = ap (λ b. if b then None else None) (tests_same e)
body_same e (text_data n ∷ (text_data m ∷ (text_data [] ∷ []))) = ap (λ b. if b then Some n else None) (tests_same e)
body_same e (text_data n ∷ (text_data m ∷ (text_data [] ∷ (d ∷ rest)))) = ap (λ b. if b then None else None) (tests_same e)
body_same e (text_data n ∷ (text_data m ∷ (text_data (c ∷ cs) ∷ rest))) = ap (λ b. if b then None else None) (tests_same e)

news_same : (e : Envelope) → name_gone e ≡ told_end e
news_same e = body_same e e.body

-- no news where the bus did not send it
no_news : (e : Envelope) → is_from_bus e ≡ false → name_gone e ≡ None
no_news e h = by (e.kind == 4) (is_from_bus e) h
  where
    by : (a b : Bool) → b ≡ false → (if a && (b && (is_text e.interface bus && is_text e.member (codes "NameOwnerChanged"))) then ended_name e.body else None) ≡ None
    by true true g = absurd (false_true (sym g))
    by true false g = refl
    by false b g = refl

-- a unique name is not the bus's
unique_no : (n : ℕ) → bytes_eq (unique_name n) bus ≡ false
unique_no n = refl

its_number : (front : List Act) (p : Party) (caller : List ℕ) → name_of front p ≡ Some caller → (n : ℕ) × (caller ≡ unique_name n)
its_number front p caller h = by (position (here.is_same p) (Registry ∷ filter_map here.greeting_in front)) h
  where
    by : (o : Option ℕ) → option_map unique_name o ≡ Some caller → (n : ℕ) × (caller ≡ unique_name n)
    by None g = absurd (no_none caller g)
    by (Some n) g = (n, sym (same_some (unique_name n) caller g))

-- WHO HAS THE NAME: at most one application
abbrev as_gone : ℕ → Option ℕ → List Entry
as_gone r None = []
as_gone r (Some a) = gone r a ∷ []

pub record NamesAre (front : List Act) (es : List End) : Type 0 where
  pub is : (k a : ℕ) (e : End) → end_at es k ≡ Some e → e.who ≡ App a → e.unique ≡ name_of front (App a)
  pub one : (j k a b : ℕ) (d e : End) (name : List ℕ) → end_at es j ≡ Some d → end_at es k ≡ Some e → d.who ≡ App a → e.who ≡ App b
      → name_of front (App a) ≡ Some name → name_of front (App b) ≡ Some name → j ≡ k

names_rest : (front : List Act) (x : End) (xs : List End) → NamesAre front (x ∷ xs) → NamesAre front xs
names_rest front x xs n = record {
  is = λ k a e h who. n.is (suc k) a e h who;
  one = λ j k a b d e name h g p q u v. less j k (n.one (suc j) (suc k) a b d e name h g p q u v);
}
  where
    less : (j k : ℕ) → suc j ≡ suc k → j ≡ k
    less j k h = omega (arith, h)

is_named_so : (name : List ℕ) (o : Option (List ℕ)) → is_named name o ≡ true → o ≡ Some name
is_named_so name None h = absurd (false_true h)
is_named_so name (Some other) h = ap Some ((bytes_eq-Decides other name).0 h)

-- nobody else has it
none_else : (front : List Act) (r : ℕ) (name : List ℕ) (xs : List End) → ((k a : ℕ) (e : End) → end_at xs k ≡ Some e → e.who ≡ App a → name_of front (App a) ≡ Some name → ⊥)
    → filter_map (gone_of front r name) (parties xs) ≡ []
none_else front r name [] f = refl
none_else front r name (x ∷ xs) f = by x.who refl (none_else front r name xs (λ k a e h who n. f (suc k) a e h who n))
  where
    by : (p : Party) → x.who ≡ p → filter_map (gone_of front r name) (parties xs) ≡ [] → cons_option (gone_of front r name p) (filter_map (gone_of front r name) (parties xs)) ≡ []
    by (App a) who rest = at (is_named name (name_of front (App a))) refl
      where
        at : (b : Bool) → is_named name (name_of front (App a)) ≡ b → cons_option (if b then Some (gone r a) else None) (filter_map (gone_of front r name) (parties xs)) ≡ []
        at true h = absurd (f 0 a x refl who (is_named_so name (name_of front (App a)) h))
        at false h = rest
    by The_bus who rest = rest
    by Registry who rest = rest
    by (Reader q) who rest = rest

gone_list : (front : List Act) (r : ℕ) (name : List ℕ) (xs : List End) → NamesAre front xs → filter_map (gone_of front r name) (parties xs) ≡ as_gone r (app_named name xs)
gone_list front r name [] n = refl
gone_list front r name (x ∷ xs) n = by x.who refl (gone_list front r name xs (names_rest front x xs n))
  where
    by : (p : Party) → x.who ≡ p → filter_map (gone_of front r name) (parties xs) ≡ as_gone r (app_named name xs)
        → cons_option (gone_of front r name p) (filter_map (gone_of front r name) (parties xs)) ≡ as_gone r (first_of (number_if name p x.unique) (app_named name xs))
    by (App a) who rest = at (name_of front (App a)) (n.is 0 a x refl who) refl
      where
        at : (o : Option (List ℕ)) → x.unique ≡ o → name_of front (App a) ≡ o
            → cons_option (if is_named name (name_of front (App a)) then Some (gone r a) else None) (filter_map (gone_of front r name) (parties xs)) ≡ as_gone r (first_of (number_if name (App a) x.unique) (app_named name xs))
        at None u h =
            ap (λ o. cons_option (if is_named name o then Some (gone r a) else None) (filter_map (gone_of front r name) (parties xs))) h ∙ rest
            ∙ ap (λ o. as_gone r (first_of (number_if name (App a) o) (app_named name xs))) (sym u)
        at (Some other) u h =
            ap (λ o. cons_option (if is_named name o then Some (gone r a) else None) (filter_map (gone_of front r name) (parties xs))) h ∙ which (bytes_eq other name) refl
            ∙ ap (λ o. as_gone r (first_of (number_if name (App a) o) (app_named name xs))) (sym u)
          where
            no_suc : (k : ℕ) → 0 ≡ suc k → ⊥
            no_suc k h = absurd (omega (arith, h))

            which : (b : Bool) → bytes_eq other name ≡ b
                → cons_option (if b then Some (gone r a) else None) (filter_map (gone_of front r name) (parties xs)) ≡ as_gone r (first_of (if b then Some a else None) (app_named name xs))
            which true g =
                let its : name_of front (App a) ≡ Some name = h ∙ ap Some ((bytes_eq-Decides other name).0 g) in
                ap (λ l. gone r a ∷ l) (none_else front r name xs (λ k b e there w m. no_suc k (n.one 0 (suc k) a b x e name refl there who w its m)))
            which false g = rest
    by The_bus who rest = rest
    by Registry who rest = rest
    by (Reader q) who rest = rest

-- WHERE A READER TAKES A MESSAGE
spoke_next : (r a : ℕ) (lines : List (List ℕ)) → next_of (is_a ending) (map writes (map (spoke r a) lines)) ≡ []
spoke_next r a [] = refl
spoke_next r a (line ∷ lines) = refl

abbrev Stills : Entry → Type 0
Stills entry = Still ending gone_due (writes entry)

spoke_still : (r a : ℕ) (lines : List (List ℕ)) → AllByRecursion Stills (map (spoke r a) lines)
spoke_still r a [] = tt
spoke_still r a (line ∷ lines) = (record { none = refl; nothing = λ before. refl }, spoke_still r a lines)

ended_next : (r : ℕ) (h : Hearer) (o : Option ℕ) → next_of (is_a ending) (map writes (ended_entries r h o)) ≡ as_gone r o
ended_next r h None = refl
ended_next r h (Some a) = ap (λ l. gone r a ∷ l) (spoke_next r a (last_lines (holding_of a h.holds)))

ended_along : (before : List Act) (r : ℕ) (h : Hearer) (o : Option ℕ) → Along (IsOwed ending gone_due) before (map writes (ended_entries r h o))
ended_along before r h None = tt
ended_along before r h (Some a) = (
  tt,
  still_along ending gone_due (before ++ writes (gone r a) ∷ []) (map writes (map (spoke r a) (last_lines (holding_of a h.holds))))
      (still_writes ending gone_due (map (spoke r a) (last_lines (holding_of a h.holds))) (spoke_still r a (last_lines (holding_of a h.holds)))),
)

module _ (front : List Act) (w : World) (f : Front front w None) (r k : ℕ) (e : End) (h : Hearer) (letter : Letter) (rest : List Letter) (there : end_at w.ends k ≡ Some e) (standing : e.standing ≡ stands_here)
    (link : e.down ≡ letter ∷ rest) where
  abbrev m : Envelope
  m = letter.said.message

  abbrev v : World
  v = received w k e letter

  handed_m : handed front letter.from m.serial ≡ m ∷ []
  handed_m = handed_is front w None f k e letter rest there standing link

  due_is : gone_due front (writes (got (Reader r) letter.from m.serial)) ≡ gone_with front r (told_end m)
  due_is =
      ap (flat_map (λ x. gone_with front r (name_gone x))) handed_m ∙ append-nil (gone_with front r (name_gone m)) ∙ ap (gone_with front r) (news_same m)

  -- not from the bus: no news
  from_end : (letter.from ≡ The_bus → ⊥) → told_end m ≡ None
  from_end other = by (subst (AllByRecursion (IsMail (entries_in front) e.who)) link ((mail front w None f).downs k e there standing)).0
    where
      by : IsMail (entries_in front) e.who letter → told_end m ≡ None
      by (inl b) = absurd (other b.from)
      by (inr i) =
          let name = name_is front w None f letter.from i.caller i.name in
          let number = its_number front letter.from i.caller name.1 in
          let apart : is_from_bus m ≡ false = ap (λ o. is_text o bus) i.sender ∙ ap (λ n. bytes_eq n bus) number.1 ∙ unique_no number.0 in
          sym (news_same m) ∙ no_news m apart

  names_v : NamesAre front v.ends
  names_v = record {
    is = λ j a x at who.
        let y = (over_with SameName same_name taken_down down_same k w.ends).back j x at in
        let known : y.0.unique ≡ name_told (entries_in front) y.0.who = ((named front w None f).ends j y.0 y.1).known (λ g. app_no a (sym who ∙ y.2.whose ∙ g)) in
        y.2.unique ∙ known ∙ ap (name_told (entries_in front)) (sym y.2.whose ∙ who) ∙ sym (told_is (entries_in front) (App a)) ∙ sym (name_same front (App a) refl);
    one = λ i j a b x y name at bt who other p q.
        let z = (over_with SameName same_name taken_down down_same k w.ends).back i x at in
        let u = (over_with SameName same_name taken_down down_same k w.ends).back j y bt in
        let told_of : (c : ℕ) → name_of front (App c) ≡ Some name → name_told (entries_in front) (App c) ≡ Some name = λ c g. sym (told_is (entries_in front) (App c)) ∙ sym (name_same front (App c) refl) ∙ g in
        let same : App a ≡ App b = names_differ (entries_in front) (App a) (App b) name (few_greeted (entries_in front) w (named front w None f) fits) (told_of a p) (told_of b q) in
        (shape front w None f).one i j z.0 u.0 z.1 u.1 (sym z.2.whose ∙ who ∙ same ∙ sym other ∙ u.2.whose);
  }
    where
      fits : Fits w
      fits = (f.kept (Shaped (And Nothing Bounded)) bounds_keep).1.1

      app_no : (a : ℕ) → App a ≡ Registry → ⊥
      app_no a g = cc

  parties_v : parties v.ends ≡ ends front
  parties_v = with_parties taken_down (λ x. refl) k w.ends ∙ f.ends

  with_is : (o : Option (List ℕ)) → gone_with front r o ≡ as_gone r (app_with v.ends o)
  with_is None = refl
  with_is (Some name) = ap (filter_map (gone_of front r name)) (sym parties_v) ∙ gone_list front r name v.ends names_v

  -- by who sent it
  pub gone_along : (from : Party) → letter.from ≡ from → Along (IsOwed ending gone_due) front (map writes (got (Reader r) letter.from m.serial ∷ heard_entries r h v.ends letter))
  gone_along from is = by from is
    where
      abbrev_due : (letter.from ≡ The_bus → ⊥) → gone_due front (writes (got (Reader r) letter.from m.serial)) ≡ []
      abbrev_due other = due_is ∙ ap (gone_with front r) (from_end other)

      of : (p : Party) → letter.from ≡ p → heard_entries r h v.ends letter ≡ heard_entries r h v.ends (record letter { from = p })
      of p is = ap (λ q. heard_entries r h v.ends (record letter { from = q })) is

      all : (es : List Entry) → heard_entries r h v.ends letter ≡ es → next_of (is_a ending) (map writes es) ≡ gone_due front (writes (got (Reader r) letter.from m.serial))
          → Along (IsOwed ending gone_due) (front ++ writes (got (Reader r) letter.from m.serial) ∷ []) (map writes es)
          → Along (IsOwed ending gone_due) front (map writes (got (Reader r) letter.from m.serial ∷ heard_entries r h v.ends letter))
      all es same next behind = subst (λ l. Along (IsOwed ending gone_due) front (map writes (got (Reader r) letter.from m.serial ∷ l))) (sym same) (next, behind)

      apart : (p : Party) → letter.from ≡ p → (The_bus ≡ p → ⊥) → letter.from ≡ The_bus → ⊥
      apart p is other g = other (sym g ∙ is)

      by : (p : Party) → letter.from ≡ p → Along (IsOwed ending gone_due) front (map writes (got (Reader r) letter.from m.serial ∷ heard_entries r h v.ends letter))
      by (App a) is =
          let lines : List (List ℕ) = lines_if_held (holding_of a h.holds) letter.said in
          all (map (spoke r a) lines) (of (App a) is) (spoke_next r a lines ∙ sym (abbrev_due (apart (App a) is (λ g. cc))))
          (still_along ending gone_due (front ++ writes (got (Reader r) letter.from m.serial) ∷ []) (map writes (map (spoke r a) lines)) (still_writes ending gone_due (map (spoke r a) lines) (spoke_still r a lines)))
      by The_bus is =
          let o : Option ℕ = app_with v.ends (told_end m) in
          all (ended_entries r h o) (of The_bus is) (ended_next r h o ∙ sym (due_is ∙ with_is (told_end m))) (ended_along (front ++ writes (got (Reader r) letter.from m.serial) ∷ []) r h o)
      by Registry is = all [] (of Registry is) (sym (abbrev_due (apart Registry is (λ g. cc)))) tt
      by (Reader q) is = all [] (of (Reader q) is) (sym (abbrev_due (apart (Reader q) is (λ g. cc)))) tt

-- ALL OTHERS ARE STILL
apps_still : AppSorts Stills
apps_still = record {
  steps_ = λ app step. record { none = refl; nothing = λ before. refl };
  sends_ = λ app e. record { none = refl; nothing = λ before. refl };
  hears_ = λ app listener pattern. record { none = refl; nothing = λ before. refl };
  deaf_ = λ app listener pattern. record { none = refl; nothing = λ before. refl };
}

bus_still : BusSorts Stills
bus_still = record { says_ = λ e. record { none = refl; nothing = λ before. refl }; drops_ = λ who queued len. record { none = refl; nothing = λ before. refl } }

sent_still : (who : Party) (e : Envelope) → Stills (sent who e)
sent_still The_bus e = record { none = refl; nothing = λ before. refl }
sent_still Registry e = record { none = refl; nothing = λ before. refl }
sent_still (App a) e = record { none = refl; nothing = λ before. refl }
sent_still (Reader r) e = record { none = refl; nothing = λ before. refl }

lines_still : LineSorts Stills
lines_still = record {
  app = apps_still;
  starts_ = λ who name. record { none = refl; nothing = λ before. refl };
  calls_ = sent_still;
  exits_ = λ who. record { none = refl; nothing = λ before. refl };
  shows_ = λ reader app rows. record { none = refl; nothing = λ before. refl };
}

gone_line : (run : List Act) (w : World) (line : Line) (d : Done) → Front run w None → LineDid w line d → Along (IsOwed ending gone_due) run (begins_line line ∷ map writes d.entries)
gone_line run w line d f l =
    still_along ending gone_due run (begins_line line ∷ map writes d.entries)
    (record { none = refl; nothing = λ before. refl }, still_writes ending gone_due d.entries (line_all Stills lines_still w line d l))

gone_turn : (front : List Act) (w : World) (c : Cause) (d : Done) → Front front w None → TurnDid w c d → Written ending gone_due front d.entries
gone_turn front w _ _ f (told_busy turns) = still_written ending gone_due front (busy turns ∷ []) (record { none = refl; nothing = λ before. refl }, tt)
gone_turn front w _ _ f (told_quiet none) = still_written ending gone_due front (quiet ∷ []) (record { none = refl; nothing = λ before. refl }, tt)
gone_turn front w _ _ f (bus_took d b) =
    let c = carrying.takes (record { bus = w.bus; ends = w.ends }) b.conn b.e.who b.said in
    still_written ending gone_due front d.entries
    (subst (λ (x : Done). AllByRecursion Stills x.entries) (sym b.is) (record { none = refl; nothing = λ before. refl }, of_bus_all Stills bus_still c.ends c.bus.own c.bus.closings))
gone_turn front w _ _ f (bus_ended d b) =
    let c = carrying.takes_end (record { bus = w.bus; ends = w.ends }) b.conn in
    still_written ending gone_due front d.entries (subst (λ (x : Done). AllByRecursion Stills x.entries) (sym b.is) (of_bus_all Stills bus_still c.ends c.bus.own c.bus.closings))
gone_turn front w _ _ f (registry_took d b) =
    still_written ending gone_due front d.entries
    (subst (λ (x : Done). AllByRecursion Stills x.entries) (sym b.is) (
      subst (λ p. Stills (got p b.letter.from b.letter.said.message.serial)) (sym b.whose) (record { none = refl; nothing = λ before. refl }),
      sent_all Stills b.e.who (λ e. sent_still b.e.who e) (registry_takes b.before b.letter.said.message).sent,
    ))
gone_turn front w _ _ f (app_took d b) =
    still_written ending gone_due front d.entries
    (subst (λ (x : Done). AllByRecursion Stills x.entries) (sym b.is) (
      subst (λ p. Stills (got p b.letter.from b.letter.said.message.serial)) (sym b.whose) (record { none = refl; nothing = λ before. refl }),
      app_all Stills apps_still _ (app_takes b.before b.letter.said.message).out,
    ))
gone_turn front w _ _ f (reader_took d b) =
    let after : World = received w b.conn b.e b.letter in
    let number : number_of b.e.who ≡ b.reader = ap number_of b.whose in
    let wrote : d.entries ≡ got (Reader b.reader) b.letter.from b.letter.said.message.serial ∷ heard_entries b.reader b.hearer after.ends b.letter =
    ap (λ (x : Done). x.entries) b.is ∙ ap₂ (λ p n. got p b.letter.from b.letter.said.message.serial ∷ heard_entries n b.hearer after.ends b.letter) b.whose number in
    subst (Written ending gone_due front) (sym wrote) (record {
      first = refl;
      along = gone_along front w f b.reader b.conn b.e b.hearer b.letter b.rest b.is_here.there b.is_here.standing b.link b.letter.from refl;
    })

gone_law : IsLaw ending gone_due
gone_law = record {
  line = gone_line;
  turn = gone_turn;
  bare = λ line b. record { none = refl; nothing = λ before. refl };
  moving = λ who up count. record { none = refl; nothing = λ before. refl };
  ending = λ who. record { none = refl; nothing = λ before. refl };
  asks = λ r m. record { none = refl; nothing = λ before. refl };
}

pub ends_are_told : (run : List Act) (w : World) (free : Option ℕ) (at : Option Work) → Ran run w free at → Lives (entries_in run) → AreDue false ending gone_due run
ends_are_told run w free at r live = law_along ending gone_due gone_law run w free at r live
