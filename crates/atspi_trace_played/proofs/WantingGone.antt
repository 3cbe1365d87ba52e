-- WHO IS GONE stays so: of a name that an application had, where nobody that is here has it, nobody ever has it again; and where the bus tells that a name is nobody's, nobody has it.
use Rattle.std.proofs.Common.{◌≡◌, ◌⊎◌, inl, inr, ℕ, Bool, true, false, not, List, ◌∷◌, ◌++◌, Option, Some, refl, sym, ap, ◌∙◌, subst}
use Rattle.std.specs.Prelude.{◌&&◌, ◌||◌, codes}
use Rattle.std.specs.List.{AllByRecursion, list_any}
use Rattle.atspi_script_lines.specs.declared.line.Line.{Line}
use Rattle.atspi_script_lines.specs.declared.line.Party.{Party}
use Rattle.atspi_script_lines.specs.declared.line.Party.TheVariants.{Bus as The_bus, Registry, App}
use Rattle.atspi_protocol.specs.news.NewsOf.{or_empty}
use Rattle.atspi_protocol.specs.following.Known.{told_end}
use Rattle.atspi_trace.specs.Entry.{Entry}
use Rattle.atspi_trace.specs.World.{here, Letter, End, World}
use Rattle.atspi_trace.specs.Ends.{is_here, same_party, end_at}
use Rattle.atspi_trace_laws.specs.laws.Words.{starts_it, stops_it, is_live}
use Rattle.atspi_trace_laws.proofs.OfOrder.Parties.{same_some, same-party, party-same, false_true}
use Rattle.atspi_trace_laws.proofs.OfOrder.Acts.{IsActive}
use Rattle.atspi_trace_laws.proofs.OfOrder.Lives.{HasStarted, any_more, here_lives}
use Rattle.atspi_trace_laws.proofs.OfNames.Places.{name_told}
use Rattle.atspi_trace_laws.proofs.OfSigned.Mail.{NameIs, told_more}
use Rattle.atspi_trace_laws.proofs.OfSigned.Self.{unique_told, one_named}
use Rattle.atspi_trace_laws.proofs.OfEnds.News.{IsPlain}
use Rattle.atspi_trace_laws.proofs.OfEnds.Ordered.{AwayAs, NotFrom, Ordered}
use Rattle.atspi_trace_caches.proofs.OfSettled.Settling_ground.{is_at, unique_is}
use Rattle.atspi_trace_played.proofs.Facts.{Ground, IsGone}
use Rattle.atspi_trace_played.proofs.WantingGround.{shape, known, live}
use Rattle.atspi_trace_played.proofs.SeeingGround.{Sender, of_bus, of_end, sender, end_from_bus, no_bus_name}

app_apart : (a : ℕ) (p : Party) → p ≡ App a → p ≡ Registry → ⊥
app_apart a p is h = false_true (ap (λ q. same_party q Registry) (sym is ∙ h) ∙ party-same Registry)

-- who lives behind more entries, and had started, lived before them
not_before : (p : Entry → Bool) (xs ys : List Entry) (a : Bool) → (a && not (list_any p (xs ++ ys))) ≡ true → list_any p xs ≡ false
not_before p xs ys a h = by (list_any p xs) refl
  where
    last : (b c : Bool) → (b && not c) ≡ true → c ≡ true → ⊥
    last true true g k = false_true g
    last true false g k = false_true k
    last false c g k = false_true g

    by : (b : Bool) → list_any p xs ≡ b → list_any p xs ≡ false
    by true is = absurd (last a (list_any p (xs ++ ys)) h (any_more p xs ys is))
    by false is = is

lived_before : (es ys : List Entry) (who : Party) → HasStarted es who → is_live (es ++ ys) who ≡ true → is_live es who ≡ true
lived_before es ys who begun lives =
    ap (λ b. b && not (list_any (stops_it who) es)) begun
    ∙ ap not (not_before (stops_it who) es ys (same_party who Registry || list_any (starts_it who) (es ++ ys)) lives)

module _ (script more : List Line) (es ys : List Entry) (w v : World) (free after : Option ℕ) (g : Ground script es w free) (h : Ground more (es ++ ys) v after) where
  pub gone_more : (name : List ℕ) (a : ℕ) → name_told es (App a) ≡ Some name → IsGone w name → IsGone v name
  gone_more name a had gone = record { nobody = λ k b e there whose on has. nobody k b e there whose on has }
    where
      nobody : (k b : ℕ) (e : End) → end_at v.ends k ≡ Some e → e.who ≡ App b → e.standing ≡ here → e.unique ≡ Some name → ⊥
      nobody k b e there whose on has =
          let told : name_told (es ++ ys) (App b) ≡ Some name = unique_is (es ++ ys) v (shape more (es ++ ys) v after h) (known more (es ++ ys) v after h) k b e name there whose has in
          let same : App b ≡ App a = one_named (es ++ ys) (App b) (App a) name (known more (es ++ ys) v after h).few (inr told) (inr (told_more es ys (App a) name had)) in
          let lives : is_live (es ++ ys) (App a) ≡ true =
          here_lives (es ++ ys) v (App a) (shape more (es ++ ys) v after h) (known more (es ++ ys) v after h).out (known more (es ++ ys) v after h).started
          (record { conn = k; e = e; there = there; whose = whose ∙ same; standing = on }) in
          let at = is_at es w (shape script es w free g) (known script es w free g) (App a) name had in
          let begun : HasStarted es (App a) = subst (HasStarted es) at.3 ((known script es w free g).started at.0 at.1 at.2) in
          let x : IsActive w (App a) =
          (known script es w free g).present (App a) (λ bus. false_true (ap (λ p. same_party p The_bus) bus)) (live script es w free g) (lived_before es ys (App a) begun lives) in
          gone.nobody x.conn a x.e x.there x.whose x.standing
          (((known script es w free g).names.ends x.conn x.e x.there).known (app_apart a x.e.who x.whose) ∙ ap (name_told es) x.whose ∙ had)

-- WHERE THE BUS TELLS an end
module _ (script : List Line) (es : List Entry) (w : World) (free : Option ℕ) (g : Ground script es w free) where
  name_of : (k : ℕ) (e : End) (name : List ℕ) → end_at w.ends k ≡ Some e → e.unique ≡ Some name → NameIs es e.who name
  name_of k e name there has = by (same_party e.who Registry) refl
    where
      by : (b : Bool) → same_party e.who Registry ≡ b → NameIs es e.who name
      by true is =
          let r : e.who ≡ Registry = same-party e.who Registry is in
          inl (r, same_some name (codes ":1.0") (sym has ∙ (known script es w free g).mail.registry k e there r))
      by false is = inr (sym (((known script es w free g).names.ends k e there).known (λ r. false_true (sym is ∙ ap (λ q. same_party q Registry) r))) ∙ has)

  pub gone_told : (conn : ℕ) (e : End) (letter : Letter) (rest : List Letter) → end_at w.ends conn ≡ Some e → e.standing ≡ here → e.down ≡ letter ∷ rest → (name : List ℕ) → told_end letter.said.message ≡ Some name → IsGone w name
  gone_told conn e letter rest there on link name told = by (sender script es w free g conn e letter rest there on link)
    where
      plain : IsPlain name → IsGone w name
      plain p = record {
        nobody = λ k b d at whose stands has.
            false_true (sym p ∙ unique_told es (App b) name (inr (unique_is es w (shape script es w free g) (known script es w free g) k b d name at whose has)));
      }

      left : (who : Party) → AwayAs w.ends who name → IsGone w name
      left who x = record { nobody = nobody }
        where
          nobody : (k b : ℕ) (d : End) → end_at w.ends k ≡ Some d → d.who ≡ App b → d.standing ≡ here → d.unique ≡ Some name → ⊥
          nobody k b d at whose stands has =
              let one : x.e.who ≡ d.who = one_named es x.e.who d.who name (known script es w free g).few (name_of x.conn x.e name x.there x.unique) (name_of k d name at has) in
              let place : x.conn ≡ k = (shape script es w free g).one x.conn k x.e d x.there at one in
              let same : x.e ≡ d = same_some x.e d (sym x.there ∙ ap (end_at w.ends) place ∙ at) in
              false_true (sym (ap is_here x.out) ∙ ap (λ (y : End). is_here y.standing) same ∙ ap is_here stands)

      ordered : Ordered (AwayAs w.ends) (letter ∷ rest)
      ordered = subst (Ordered (AwayAs w.ends)) link ((known script es w free g).ends.told.links conn e there)

      news : IsPlain name ⊎ ((who : Party) × AwayAs w.ends who name × AllByRecursion (NotFrom who) rest) → IsGone w name
      news (inl p) = plain p
      news (inr x) = left x.0 x.1

      by : Sender es letter → IsGone w name
      by (of_bus from own has) = news (ordered.0 from name told)
      by (of_end caller has is_name no_bus was) = absurd (no_bus_name script es w free g letter.from caller is_name (sym (end_from_bus letter.said.message name told) ∙ ap or_empty has))
